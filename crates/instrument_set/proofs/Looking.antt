-- What is looked up in a set of one class and the small base.
use Rattle.std.proofs.Common.{◌≡◌, ◌≢◌, ℕ, zero, suc, Bool, true, false, List, [], ◌∷◌, length, Option, Some, None, refl, ap, ◌∙◌, inl, inr, ⊎_elim}
use Rattle.std.specs.Prelude.{◌⊎◌, cond, find, option_map}
use Rattle.std.specs.Bool.{Decides}
use Rattle.std.proofs.lemmas.Bool.Decides.{Decides-eqb}
use Rattle.std.proofs.lemmas.Slice.Eq.{slice_eq-Decides}
use Rattle.std.specs.Str.{chars}
use Rattle.class_model.specs.declared.class.CodeDef.{CodeDef}
use Rattle.class_model.specs.declared.class.MethodDef.{MethodDef}
use Rattle.class_model.specs.declared.class.ClassDef.{ClassDef}
use Rattle.run_state.specs.Texts.{same_text}
use Rattle.run_state.specs.References.{given}
use Rattle.run_state.specs.SetLooks.{class_named, method_where, chain_of, superclasses, method_of, initializers, is_initializer, is_main, main_of}
use Rattle.small_base.specs.Members.{object_name}
use Rattle.first_form.specs.FormOne.{main_method}
use Rattle.small_base.specs.Base.{object_class}

same_text_Decides : (a b : List ℕ) → Decides (same_text a b) (a ≡ b)
same_text_Decides a b = slice_eq-Decides Decides-eqb a b (same_text a b) refl

pub same_text_refl : (a : List ℕ) → same_text a a ≡ true
same_text_refl a = (same_text_Decides a a).1 refl

pub same_text_same : (a b : List ℕ) → same_text a b ≡ true → a ≡ b
same_text_same a b h = (same_text_Decides a b).0 h

either_way : (b : Bool) → (b ≡ true) ⊎ (b ≡ false)
either_way true = inl refl
either_way false = inr refl

pub same_text_other : (a b : List ℕ) → a ≢ b → same_text a b ≡ false
same_text_other a b ne = ⊎_elim (λ h. absurd (ne (same_text_same a b h))) (λ h. h) (either_way (same_text a b))

-- a class stands in a set, and no class before it has its name
abbrev pub Found : List ClassDef → ClassDef → Type 0
Found [] c = ⊥
Found (d ∷ ds) c = (d ≡ c) ⊎ ((same_text d.name c.name ≡ false) × Found ds c)

pub class_found : (set : List ClassDef) (c : ClassDef) → Found set c → class_named set c.name ≡ Some c
class_found [] c h = absurd h
class_found (d ∷ ds) c h =
    ⊎_elim
    (λ same. ap (λ (b : Bool). cond b (Some d) (class_named ds c.name)) (ap (λ (e : ClassDef). same_text e.name c.name) same ∙ same_text_refl c.name) ∙ ap Some same)
    (λ later. ap (λ (b : Bool). cond b (Some d) (class_named ds c.name)) later.0 ∙ class_found ds c later.1)
    h

chain_none : (n : ℕ) (set : List ClassDef) → chain_of n set None ≡ []
chain_none zero set = refl
chain_none (suc n) set = refl

-- a class whose superclass is Object
chain_of_two : (set : List ClassDef) (n : ℕ) (c : ClassDef) → Found set c → Found set object_class → c.super_name ≡ Some object_name → chain_of (suc (suc n)) set (Some c.name) ≡ c ∷ object_class ∷ []
chain_of_two set n c found object super =
    ap (λ (x : Option ClassDef). given x [] (λ d. d ∷ chain_of (suc n) set d.super_name)) (class_found set c found)
    ∙ ap (λ (x : Option (List ℕ)). c ∷ chain_of (suc n) set x) super
    ∙ ap (λ (x : Option ClassDef). c ∷ given x [] (λ d. d ∷ chain_of n set d.super_name)) (class_found set object_class object)
    ∙ ap (λ (xs : List ClassDef). c ∷ object_class ∷ xs) (chain_none n set)

pub superclasses_of_two : (set : List ClassDef) (n : ℕ) (c : ClassDef) → length set ≡ suc (suc n) → Found set c → Found set object_class → c.super_name ≡ Some object_name → superclasses set c.name ≡ c ∷ object_class ∷ []
superclasses_of_two set n c long found object super = ap (λ (k : ℕ). chain_of k set (Some c.name)) long ∙ chain_of_two set n c found object super

-- the `main` of a class of the form
pub main_found : (set : List ClassDef) (c : ClassDef) (code : CodeDef) → Found set c → c.methods ≡ main_method code ∷ [] → main_of set c.name ≡ Some (method_of c (main_method code))
unfolding chars
main_found set c code found only =
    ap (λ (x : Option ClassDef). given x None (method_where is_main)) (class_found set c found)
    ∙ ap (λ (ms : List MethodDef). option_map (method_of c) (find is_main ms)) only

-- a class of the form needs no beginning
pub nothing_begins : (set : List ClassDef) (c : ClassDef) (code : CodeDef) (n : ℕ) → length set ≡ suc (suc n) → Found set c → Found set object_class → c.super_name ≡ Some object_name → c.methods ≡ main_method code ∷ []
    → initializers (superclasses set c.name) ≡ []
unfolding chars
nothing_begins set c code n long found object super only =
    ap initializers (superclasses_of_two set n c long found object super)
    ∙ ap (λ (ms : List MethodDef). given (option_map (method_of c) (find is_initializer ms)) [] (λ m. m ∷ [])) only
