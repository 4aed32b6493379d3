-- Final methods that a class declares.
use Rattle.std.proofs.Common.{◌≡◌, ◌∙◌, ℕ, ◌&&◌, ◌||◌, Bool, true, false, List, [], ◌∷◌, refl, ap, Option, Some, None}
use Rattle.std.specs.Prelude.{is_some, option_map, slice_get, position}
use Rattle.std.specs.List.{list_any}
use Rattle.class_model.specs.declared.class.MethodDef.{MethodDef}
use Rattle.class_model.specs.declared.class.ClassDef.{ClassDef}
use Rattle.set_lookups.specs.Above.{same_name, at_class}
use Rattle.set_lookups.specs.Same.{same_desc}
use Rattle.set_lookups.specs.Flags.{is_final, is_inherited}
use Rattle.set_lookups.specs.Lookups.{declared, method_here, member_of, has_method}
use Rattle.set_lookups.proofs.Names.{is_some-position}
use Rattle.class_set.specs.FinalSuper.{is_kept}
use Rattle.class_set.specs.Upwards.{methods_of}

abbrev is_final_one : MethodDef → Bool
is_final_one method = is_final method.flags && is_inherited method

turned : (f n d : Bool) → ((n && d) && f) ≡ ((f && n) && d)
turned true true true = refl
turned true true false = refl
turned true false d = refl
turned false true true = refl
turned false true false = refl
turned false false d = refl

any_same : (f g : MethodDef → Bool) → ((x : MethodDef) → f x ≡ g x) → (xs : List MethodDef) → list_any f xs ≡ list_any g xs
any_same f g h [] = refl
any_same f g h (x ∷ xs) = ap (λ b. b || list_any f xs) (h x) ∙ ap (λ b. g x || b) (any_same f g h xs)

some_of : (at : ℕ) (place : Option ℕ) → is_some (option_map (member_of at) place) ≡ is_some place
some_of at None = refl
some_of at (Some k) = refl

kept_by : (method : MethodDef) (at : ℕ) (class : Option ClassDef) → is_some (method_here method.name method.desc is_final_one at class) ≡ list_any (is_kept method) (at_class (λ c. c.methods) class)
kept_by method at None = refl
kept_by method at (Some class) =
    some_of at (position (has_method method.name method.desc is_final_one) class.methods) ∙ is_some-position (has_method method.name method.desc is_final_one) class.methods
    ∙ any_same (has_method method.name method.desc is_final_one) (is_kept method) (λ other. turned (is_final_one other) (same_name other.name method.name) (same_desc other.desc method.desc)) class.methods

pub kept_declared : (set : List ClassDef) (method : MethodDef) (at : ℕ) → is_some (declared set method.name method.desc is_final_one at) ≡ list_any (is_kept method) (methods_of set at)
kept_declared set method at = kept_by method at (slice_get set at)
