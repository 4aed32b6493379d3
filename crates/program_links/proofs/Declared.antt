-- What is found along classes is declared in the class that it is of.
use Rattle.std.proofs.Common.{◌≡◌, ◌∙◌, ℕ, Bool, List, [], ◌∷◌, refl, sym, ap, Option, Some, None}
use Rattle.std.specs.Prelude.{slice_get, position}
use Rattle.std.specs.Option.{option_or}
use Rattle.std.proofs.lemmas.Option.{same_Some, none-some}
use Rattle.class_model.specs.declared.types.MethodDesc.{MethodDesc}
use Rattle.class_model.specs.declared.class.MethodDef.{MethodDef}
use Rattle.class_model.specs.declared.class.ClassDef.{ClassDef}
use Rattle.set_lookups.specs.First.{first}
use Rattle.set_lookups.specs.Lookups.{Member, member_of, member_in, has_method, method_here, declared}

member_class : (number : ℕ) (place : Option ℕ) (m : Member) → member_in number place ≡ Some m → m.class ≡ number
member_class number None m h = absurd (none-some m h)
member_class number (Some i) m h = sym (ap (λ (k : Member). k.class) (same_Some (member_of number i) m h))

declared_by : (name : List ℕ) (desc : MethodDesc) (wanted : MethodDef → Bool) (number : ℕ) (found : Option ClassDef) (m : Member) → method_here name desc wanted number found ≡ Some m → m.class ≡ number
declared_by name desc wanted number None m h = absurd (none-some m h)
declared_by name desc wanted number (Some c) m h = member_class number (position (has_method name desc wanted) c.methods) m h

pub declared_in : (set : List ClassDef) (name : List ℕ) (desc : MethodDesc) (wanted : MethodDef → Bool) (number : ℕ) (m : Member) → declared set name desc wanted number ≡ Some m → m.class ≡ number
declared_in set name desc wanted number m h = declared_by name desc wanted number (slice_get set number) m h

found_by : (set : List ClassDef) (name : List ℕ) (desc : MethodDesc) (wanted : MethodDef → Bool) (x : ℕ) (xs : List ℕ) (here : Option Member) (m : Member) → declared set name desc wanted x ≡ here → option_or here (first (declared set name desc wanted) xs) ≡ Some m → (first (declared set name desc wanted) xs ≡ Some m → declared set name desc wanted m.class ≡ Some m) → declared set name desc wanted m.class ≡ Some m
found_by set name desc wanted x xs None m e h rest = rest h
found_by set name desc wanted x xs (Some y) m e h rest = ap (declared set name desc wanted) (declared_in set name desc wanted x m (e ∙ h)) ∙ e ∙ h

pub found_at_class : (set : List ClassDef) (name : List ℕ) (desc : MethodDesc) (wanted : MethodDef → Bool) (xs : List ℕ) (m : Member) → first (declared set name desc wanted) xs ≡ Some m → declared set name desc wanted m.class ≡ Some m
unfolding first
found_at_class set name desc wanted [] m h = absurd (none-some m h)
found_at_class set name desc wanted (x ∷ xs) m h = found_by set name desc wanted x xs (declared set name desc wanted x) m refl h (found_at_class set name desc wanted xs m)
