-- The methods that objects of classes have, by the numbers of names and descriptors.
use Rattle.std.specs.Prelude.{◌≡◌, ◌+◌, ℕ, ◌==◌, Bool, false, List, [], ◌∷◌, Option, Some, None, take, slice_get, unwrap_or, option_map}
use Rattle.std.specs.List.{position_from}
use Rattle.class_model.specs.declared.class.MethodDef.{MethodDef}
use Rattle.class_model.specs.declared.class.ClassDef.{ClassDef}
use Rattle.set_lookups.specs.Flags.{is_inherited}
use Rattle.set_lookups.specs.Lookups.{has_method}
use Rattle.linked_code.specs.declared.program.Selection.{Selection}
use Rattle.linked_code.specs.Linked.{selection}
use Rattle.program_links.specs.declared.keys.Selector.{Selector}
use Rattle.program_links.specs.Methods.{methods_before}
use Rattle.program_links.specs.Numbers.{Numbers}

abbrev pub is_it : Option ℕ → ℕ → Bool
is_it None n = false
is_it (Some k) n = k == n

-- whether a method can be selected by a name and a descriptor
abbrev pub is_selected : Selector → MethodDef → Bool
is_selected key method = has_method key.name key.desc is_inherited method

-- the number of a method's name and descriptor, where it can be selected
pub record SelectorOf (t : Numbers) (method : MethodDef) (found : Option ℕ) : Type 0 where
  pub is : (n : ℕ) (key : Selector) → slice_get t.selectors n ≡ Some key → is_it found n ≡ is_selected key method

abbrev pub selection_of : Option ℕ → ℕ → List Selection
selection_of None method = []
selection_of (Some selector) method = record { selector = selector; method = method } ∷ []

-- of the first methods of a class
pub record OwnSoFar (set : List ClassDef) (t : Numbers) (number : ℕ) (methods : List MethodDef) (own : List Selection) (count : ℕ) : Type 0 where
  pub are : (n : ℕ) (key : Selector) → slice_get t.selectors n ≡ Some key
      → selection own n ≡ option_map (λ i. methods_before set number + i) (position_from (is_selected key) 0 (take count methods))

abbrev pub own_of : List (List Selection) → ℕ → List Selection
own_of owns number = unwrap_or (slice_get owns number) []
