-- The core classes in their order: `java/lang/Object`, `java/lang/String`, then the exceptions.
use Rattle.std.proofs.Common.{◌≡◌, ◌∙◌, ℕ, Bool, true, cond, List, sym, subst, Option, Some, None, Result}
use Rattle.std.specs.Prelude.{option_map, MatchResult}
use Rattle.std.specs.Option.{option_or}
use Rattle.class_model.specs.declared.class.ClassDef.{ClassDef}
use Rattle.set_lookups.specs.Lookups.{object_name}
use Rattle.class_set.specs.declared.fault.SetFault.{SetFault}
use Rattle.class_set.specs.declared.fault.SetFault.TheVariants.{Core}
use Rattle.class_set.specs.Answer.{IsFault}
use Rattle.class_set.specs.Core as table
use Rattle.class_set.proofs.FirstFaults.{core_first, core_passed}

abbrev has_object : List ClassDef → Bool
has_object set = table.has_shape set (λ number. table.is_object) object_name

abbrev has_string : List ClassDef → Bool
has_string set = table.has_shape set (λ number. table.is_string) table.string_name

string_on : List ClassDef → Option (List ℕ)
string_on set = option_or (cond (has_string set) None (Some table.string_name)) (table.exceptions set)

behind_object : (set : List ClassDef) → has_object set ≡ true → table.core set ≡ string_on set
unfolding table.core string_on
behind_object set object = core_passed (has_object set) object_name (string_on set) object

behind_string : (set : List ClassDef) → has_object set ≡ true → has_string set ≡ true → table.core set ≡ table.exceptions set
unfolding string_on
behind_string set object string = behind_object set object ∙ core_passed (has_string set) table.string_name (table.exceptions set) string

pub object_told : (set : List ClassDef) (has : Bool) (fault : SetFault) → has ≡ has_object set → IsFault (cond has None (Some (Core object_name))) fault → IsFault (option_map Core (table.core set)) fault
unfolding table.core string_on
object_told set has fault is h =
    core_first (has_object set) object_name (string_on set) fault (subst (λ b. IsFault (cond b None (Some (Core object_name))) fault) is h)

pub string_told : (set : List ClassDef) (has : Bool) (fault : SetFault) → has_object set ≡ true → has ≡ has_string set → IsFault (cond has None (Some (Core table.string_name))) fault → IsFault (option_map Core (table.core set)) fault
unfolding string_on
string_told set has fault object is h =
    subst (λ o. IsFault (option_map Core o) fault) (sym (behind_object set object))
    (core_first (has_string set) table.string_name (table.exceptions set) fault (subst (λ b. IsFault (cond b None (Some (Core table.string_name))) fault) is h))

pub parts_told : (set : List ClassDef) (result : Result (Unit {0}) SetFault) → has_object set ≡ true → has_string set ≡ true → MatchResult result (λ _. table.exceptions set ≡ None) (IsFault (option_map Core (table.exceptions set))) → MatchResult result (λ _. table.core set ≡ None) (IsFault (option_map Core (table.core set)))
parts_told set result object string told = subst (λ o. MatchResult result (λ _. o ≡ None) (IsFault (option_map Core o))) (sym (behind_string set object string)) told
