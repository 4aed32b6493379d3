-- Where the definitions' choices lead, once it is known what is there.
use Rattle.std.proofs.Common.{◌≡◌, ℕ, List, Option, Some, None, ap, ◌∙◌}
use Rattle.std.specs.Prelude.{true, false, Bool, option_map, map, slice_get}
use Rattle.std.proofs.lemmas.Option.{slice_get-map}
use Rattle.run_state.specs.State.{Areas, Outside, State}
use Rattle.run_state.specs.Operands.{either, stuck, on_some}
use Rattle.run_state.specs.References.{given}
use Rattle.machine_heap.specs.declared.item.Item.{Item}
use Rattle.linked_code.specs.World.{World}
use Rattle.machine.specs.Shown.{item_of}

pub either_yes : {A : Type 0} (b : Bool) (x y : A) → b ≡ true → either b x y ≡ x
either_yes b x y e = ap (λ c. either c x y) e

pub either_no : {A : Type 0} (b : Bool) (x y : A) → b ≡ false → either b x y ≡ y
either_no b x y e = ap (λ c. either c x y) e

pub given_some : {A B : Type 0} (m : Option A) (b : B) (go : A → B) (x : A) → m ≡ Some x → given m b go ≡ go x
given_some m b go x e = ap (λ n. given n b go) e

pub given_none : {A B : Type 0} (m : Option A) (b : B) (go : A → B) → m ≡ None → given m b go ≡ b
given_none m b go e = ap (λ n. given n b go) e

module _ {T : Type 0} (o : Outside) (ar : Areas T) where
  pub some_there : {A : Type 0} (m : Option A) (go : A → State T) (x : A) → m ≡ Some x → on_some o ar m go ≡ go x
  some_there m go x e = ap (λ n. on_some o ar n go) e

  pub none_there : {A : Type 0} (m : Option A) (go : A → State T) → m ≡ None → on_some o ar m go ≡ stuck o ar
  none_there m go e = ap (λ n. on_some o ar n go) e

-- the items of the heap, as the definitions have them
pub item_shown : {T : Type 0} (w : World T) (heap : List (Item T)) (at : ℕ) (x : Item T) → slice_get heap at ≡ Some x → slice_get (map (item_of w) heap) at ≡ Some (item_of w x)
item_shown w heap at x e = slice_get-map (item_of w) heap at ∙ ap (option_map (item_of w)) e

pub no_item_shown : {T : Type 0} (w : World T) (heap : List (Item T)) (at : ℕ) → slice_get heap at ≡ None → slice_get (map (item_of w) heap) at ≡ None
no_item_shown w heap at e = slice_get-map (item_of w) heap at ∙ ap (option_map (item_of w)) e
