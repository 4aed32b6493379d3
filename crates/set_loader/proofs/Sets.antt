-- A closed list of classes has no first fault, and no fault of one is want of memory.
use Rattle.std.proofs.Common.{◌≡◌, ◌∙◌, List, Option, Some, None, refl, ap}
use Rattle.std.specs.Prelude.{option_map, ◌≢◌}
use Rattle.std.specs.Option.{option_or}
use Rattle.class_model.specs.declared.class.ClassDef.{ClassDef}
use Rattle.class_set.specs.declared.fault.SetFault.{SetFault}
use Rattle.class_set.specs.declared.fault.SetFault.TheVariants.{Duplicate, Missing, Cycle, FinalSuper, Core, Unresolved, WrongKind, Abstract, Memory}
use Rattle.class_set.specs.Closed.{Closed}
use Rattle.class_set.specs.Faults.{first_fault}

passed : {A B : Type 0} (f : A → B) (a : Option A) (rest : Option B) → a ≡ None → option_or (option_map f a) rest ≡ rest
passed f None rest h = refl
passed f (Some a) rest h = cc

pub no_fault : (set : List ClassDef) → Closed set → first_fault set ≡ None
unfolding first_fault
no_fault set closed =
    passed Duplicate _ _ closed.distinct
    ∙ passed Missing _ _ closed.present
    ∙ passed Cycle _ _ closed.acyclic
    ∙ passed FinalSuper _ _ closed.extendable
    ∙ passed Core _ _ closed.core_classes
    ∙ passed Unresolved _ _ closed.resolved
    ∙ passed WrongKind _ _ closed.of_right_kind
    ∙ ap (option_map Abstract) closed.implemented

-- ---- want of memory is no fault of a set

own_fault : {A : Type 0} (f : A → SetFault) (a : Option A) (rest : Option SetFault) → ((x : A) → f x ≢ Memory) → (rest ≢ Some Memory) → option_or (option_map f a) rest ≢ Some Memory
own_fault f None rest other behind = behind
own_fault f (Some x) rest other behind = λ e. let same : f x ≡ Memory = cc in other x same

last_fault : {A : Type 0} (f : A → SetFault) (a : Option A) → ((x : A) → f x ≢ Memory) → option_map f a ≢ Some Memory
last_fault f None other = λ e. cc
last_fault f (Some x) other = λ e. let same : f x ≡ Memory = cc in other x same

pub no_memory : (set : List ClassDef) → first_fault set ≢ Some Memory
unfolding first_fault
no_memory set =
    own_fault Duplicate _ _ (λ x e. cc)
    (own_fault Missing _ _ (λ x e. cc)
    (own_fault Cycle _ _ (λ x e. cc)
    (own_fault FinalSuper _ _ (λ x e. cc)
    (own_fault Core _ _ (λ x e. cc)
    (own_fault Unresolved _ _ (λ x e. cc)
    (own_fault WrongKind _ _ (λ x e. cc)
    (last_fault Abstract _ (λ x e. cc))))))))
