-- What a reference leads to: the items of the heap, arrays among them.
use Rattle.std.specs.Prelude.{◌-◌, ◌==◌, ◌&&◌, Bool, true, false, List, Option, Some, None, slice_get, if◌then◌else◌}
use Rattle.class_model.specs.declared.types.JType.{JType}
use Rattle.class_model.specs.Descriptor.{is_primitive_base}
use Rattle.run_state.specs.Words.{Word, Empty, Num, Long, Half, Null, Ref}
use Rattle.run_state.specs.State.{Item}
use Rattle.run_state.specs.Looks.{Looks}

-- what is there goes on; else the first
abbrev pub given : {A B : Type 0} → Option A → B → (A → B) → B
given None b go = b
given (Some x) b go = go x

abbrev pub is_array : JType → Bool
is_array ty = if ty.depth == 0 then false else true

abbrev pub is_number_array : JType → Bool
is_number_array ty = (ty.depth == 1) && is_primitive_base ty.base

abbrev pub element_type : JType → JType
element_type ty = record ty { depth = ty.depth - 1 }

-- the item that a value refers to
abbrev pub item_of : {T : Type 0} → List (Item T) → Word T → Option (Item T)
item_of hp Empty = None
item_of hp (Num v t) = None
item_of hp (Long v t) = None
item_of hp Half = None
item_of hp Null = None
item_of hp (Ref a) = slice_get hp a

-- whether what a value refers to is of a type; null is of every one, and an instance of none
abbrev pub refers_to : {T : Type 0} → Looks → Bool → List (Item T) → JType → Word T → Bool
refers_to L null hp ty w = given (item_of hp w) null (λ x. L.fits x.ty ty)
