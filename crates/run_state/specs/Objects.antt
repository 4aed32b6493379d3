-- The rows of objects, fields, literals, arrays and throws (JVMS 2.4, 2.10, 6.5).
use Rattle.std.specs.Prelude.{ℕ, zero, suc, ◌+◌, ℤ, pos, negsuc, ◌==◌, ◌||◌, Bool, true, false, List, [], ◌∷◌, ◌++◌, length, map, replicate, Option, Some, None, codes, slice_get, slice_set, if◌then◌else◌}
use Rattle.class_model.specs.declared.types.Primitive.{Primitive}
use Rattle.class_model.specs.declared.types.Primitive.TheVariants as primitive
use Rattle.class_model.specs.declared.types.BaseType.{BaseType}
use Rattle.class_model.specs.declared.types.BaseType.TheVariants as base
use Rattle.class_model.specs.declared.types.JType.{JType}
use Rattle.class_model.specs.declared.types.FieldRef.{FieldRef}
use Rattle.class_model.specs.declared.types.MethodRef.{MethodRef}
use Rattle.class_model.specs.declared.insn.Kind.{Kind}
use Rattle.class_model.specs.declared.insn.Kind.TheVariants as kind
use Rattle.class_model.specs.declared.insn.Elem.{Elem}
use Rattle.class_model.specs.declared.insn.Elem.TheVariants as elem
use Rattle.class_model.specs.Descriptor.{words_of}
use Rattle.run_state.specs.Texts.{same_text, object_name, string_name}
use Rattle.run_state.specs.Words.{Word, Empty, Num, Long, Half, Null, Ref, pushed}
use Rattle.run_state.specs.State.{Method, Frame, Item, Literal, Areas, Outside, State, live}
use Rattle.run_state.specs.Looks.{Looks}
use Rattle.run_state.specs.Tags.{Tags}
use Rattle.run_state.specs.Operands.{either, on_some, on_int, on_ref, on_object, on_kind, with_args}
use Rattle.run_state.specs.References.{given, is_array, element_type, refers_to}
use Rattle.run_state.specs.Marks.{value_field}
use Rattle.run_state.specs.Unwinding.{null_pointer_exception, incompatible_class_change_error, negative_array_size_exception, class_cast_exception, array_index_exception, array_store_exception, default_of, fresh_object, with_item, name_of_base, thrown, throws}
use Rattle.run_state.specs.Calls.{narrowed_type, narrowed, called}

abbrev pub kind_of_primitive : Primitive → Kind
kind_of_primitive primitive.Boolean = kind.Int
kind_of_primitive primitive.Byte = kind.Int
kind_of_primitive primitive.Char = kind.Int
kind_of_primitive primitive.Short = kind.Int
kind_of_primitive primitive.Int = kind.Int
kind_of_primitive primitive.Long = kind.Long
kind_of_primitive primitive.Float = kind.Int
kind_of_primitive primitive.Double = kind.Long

abbrev pub kind_of_base : BaseType → Kind
kind_of_base (base.Primitive p) = kind_of_primitive p
kind_of_base (base.Class c) = kind.Ref

abbrev pub kind_of : JType → Kind
kind_of ty = if ty.depth == 0 then kind_of_base ty.base else kind.Ref

abbrev pub kind_of_elem : Elem → Kind
kind_of_elem elem.Int = kind.Int
kind_of_elem elem.Long = kind.Long
kind_of_elem elem.Ref = kind.Ref
kind_of_elem elem.Byte = kind.Int
kind_of_elem elem.Char = kind.Int
kind_of_elem elem.Short = kind.Int

abbrev pub array_of : JType → JType
array_of ty = record ty { depth = ty.depth + 1 }

abbrev pub primitive_array : Primitive → JType
primitive_array p = record { depth = 1; base = base.Primitive p }

-- the class whose methods a receiver has: an array's are Object's
abbrev pub receiver_class : JType → List ℕ
receiver_class ty = if ty.depth == 0 then name_of_base ty.base else object_name

-- an array of n elements, all default
abbrev pub fresh_array : {T : Type 0} → Tags T → JType → ℕ → Item T
fresh_array M ty n = record { ty = ty; own = M.none; cells = replicate n (default_of M.none (element_type ty)) }

-- a field or an element is set
abbrev pub with_cell : {T : Type 0} → Areas T → ℕ → Item T → ℕ → Word T → Areas T
with_cell ar a x i w = record ar { heap = slice_set ar.heap a (record x { cells = slice_set x.cells i w }) }

abbrev pub with_static : {T : Type 0} → Areas T → ℕ → Word T → Areas T
with_static ar i w = record ar { statics = slice_set ar.statics i w }

-- the element of an index, if there is one
abbrev pub element : {A : Type 0} → List A → ℤ → Option A
element xs (pos i) = slice_get xs i
element xs (negsuc i) = None

abbrev pub index_of : ℤ → ℕ
index_of (pos i) = i
index_of (negsuc i) = 0

-- the place of the literal of a text
abbrev pub literal_place : List Literal → List ℕ → Option ℕ
literal_place [] text = None
literal_place (l ∷ ls) text = if same_text l.text text then Some l.place else literal_place ls text

-- a literal's array of characters, and the literal, whose other fields are default (this project's own)
abbrev pub text_array : {T : Type 0} → Tags T → List ℕ → Item T
text_array M text = record { ty = primitive_array primitive.Char; own = M.none; cells = map (λ unit. Num (pos unit) M.none) text }

abbrev pub text_object : {T : Type 0} → Tags T → Looks → ℕ → ℕ → Item T
text_object M L i a = let x = fresh_object M L string_name in record x { cells = slice_set x.cells i (Ref a) }

abbrev pub with_literal : {T : Type 0} → Areas T → List ℕ → ℕ → Areas T
with_literal ar text a = record ar { literals = ar.literals ++ record { text = text; place = a } ∷ [] }

abbrev pub truth : Bool → ℤ
truth true = pos 1
truth false = pos 0

abbrev pub is_constructor : List ℕ → Bool
is_constructor name = same_text name (codes "<init>")

-- invokespecial: a constructor, or a method that the current class declares, is entered as it resolves; any other is
-- selected from the direct superclass on (JVMS 6.5)
abbrev pub special_of : Looks → Method → MethodRef → Method → Option Method
special_of L m ref found =
    if is_constructor ref.name || same_text found.class m.class then Some found else given (L.above m.class) None (λ c. L.selected c ref)

-- the counts of multianewarray, the outermost first, where they are ints
abbrev pub with_count : {T : Type 0} → Word T → Option (List ℤ) → Option (List ℤ)
with_count w None = None
with_count Empty (Some counts) = None
with_count (Num v t) (Some counts) = Some (v ∷ counts)
with_count (Long v t) (Some counts) = None
with_count Half (Some counts) = None
with_count Null (Some counts) = None
with_count (Ref a) (Some counts) = None

abbrev pub counts_of : {T : Type 0} → List (Word T) → Option (List ℤ)
counts_of [] = Some []
counts_of (w ∷ ws) = with_count w (counts_of ws)

-- and as sizes, where none is negative
abbrev pub with_size : ℤ → Option (List ℕ) → Option (List ℕ)
with_size v None = None
with_size (pos n) (Some sizes) = Some (n ∷ sizes)
with_size (negsuc n) (Some sizes) = None

abbrev pub sizes_of : List ℤ → Option (List ℕ)
sizes_of [] = Some []
sizes_of (v ∷ vs) = with_size v (sizes_of vs)

-- a heap, and values that were made in it
pub record Made (T : Type 0) : Type 0 where
  pub heap : List (Item T)
  pub values : List (Word T)

abbrev pub made_times : {T : Type 0} → ℕ → (List (Item T) → Made T) → List (Item T) → Made T
made_times zero make hp = record { heap = hp; values = [] }
made_times (suc n) make hp =
    let first = make hp in
    let others = made_times n make first.heap in
    record { heap = others.heap; values = first.values ++ others.values }

-- The arrays of multianewarray: one of each size, whose elements are arrays of the next sizes, or default where there is no
-- further size. Below a size of 0 nothing is made.
abbrev pub nested : {T : Type 0} → Tags T → List ℕ → JType → List (Item T) → Made T
nested M [] ty hp = record { heap = hp; values = default_of M.none ty ∷ [] }
nested M (n ∷ ns) ty hp =
    let inner = made_times n (nested M ns (element_type ty)) hp in
    record { heap = inner.heap ++ record { ty = ty; own = M.none; cells = inner.values } ∷ []; values = Ref (length inner.heap) ∷ [] }

module _ {T : Type 0} (M : Tags T) (L : Looks) (o : Outside) (ar : Areas T) (m : Method) (pc : ℕ) (ls : List (Word T)) (fs : List (Frame T)) where
  -- the next instruction
  abbrev pub goes : Areas T → List (Word T) → State T
  goes now st = live o now m (pc + 1) ls st fs

  -- the machine throws at this instruction
  abbrev pub fails : List ℕ → State T
  fails c = throws M L o ar c fs m pc ls

  abbrev pub on_item : ℕ → (Item T → State T) → State T
  on_item a go = on_some o ar (slice_get ar.heap a) go

  -- an item is made, and its reference pushed
  abbrev pub making : Item T → List (Word T) → State T
  making x st = goes (with_item ar x) (Ref (length ar.heap) ∷ st)

  -- getfield and putfield; an array has no field (this project's own)
  abbrev pub getting : FieldRef → List (Word T) → State T
  getting f st =
      on_object o ar st (fails null_pointer_exception) (λ a rest. on_item a (λ x.
      either (is_array x.ty) (fails incompatible_class_change_error)
      (on_some o ar (L.field f) (λ i. on_some o ar (slice_get x.cells i) (λ w. goes ar (pushed w rest))))))

  abbrev pub putting : FieldRef → List (Word T) → State T
  putting f st =
      on_kind o ar (kind_of f.ty) st (λ w st1. on_object o ar st1 (fails null_pointer_exception) (λ a rest. on_item a (λ x.
      either (is_array x.ty) (fails incompatible_class_change_error)
      (on_some o ar (L.field f) (λ i. goes (with_cell ar a x i (narrowed (narrowed_type f.ty) w)) rest)))))

  -- ldc of a text: the literal of that content, made at its first use (JVMS 5.1)
  abbrev pub new_literal : List ℕ → List (Word T) → State T
  new_literal text st =
      on_some o ar (L.field value_field) (λ i.
      let made = with_item ar (text_array M text) in
      goes (with_literal (with_item made (text_object M L i (length ar.heap))) text (length made.heap)) (Ref (length made.heap) ∷ st))

  abbrev pub literal : List ℕ → List (Word T) → State T
  literal text st = given (literal_place ar.literals text) (new_literal text st) (λ a. goes ar (Ref a ∷ st))

  -- getstatic and putstatic; a field with a constant text gives its literal
  abbrev pub getting_static : FieldRef → List (Word T) → State T
  getting_static f st =
      on_some o ar (L.static f) (λ s.
      given s.text (on_some o ar (slice_get ar.statics s.place) (λ w. goes ar (pushed w st))) (λ text. literal text st))

  abbrev pub putting_static : FieldRef → List (Word T) → State T
  putting_static f st =
      on_some o ar (L.static f) (λ s. on_kind o ar (kind_of f.ty) st (λ w rest.
      goes (with_static ar s.place (narrowed (narrowed_type f.ty) w)) rest))

  -- newarray and anewarray
  abbrev pub sized : ℤ → (ℕ → State T) → State T
  sized (pos n) go = go n
  sized (negsuc n) go = fails negative_array_size_exception

  abbrev pub making_array : JType → List (Word T) → State T
  making_array ty st = on_int o ar st (λ v t rest. sized v (λ n. making (fresh_array M ty n) rest))

  -- multianewarray: a negative count throws before anything is made
  abbrev pub nesting : JType → ℕ → List (Word T) → State T
  nesting ty n st =
      with_args o ar n st [] (λ words rest. on_some o ar (counts_of words) (λ counts.
      given (sizes_of counts) (fails negative_array_size_exception) (λ sizes.
      let made = nested M sizes ty ar.heap in
      goes (record ar { heap = made.heap }) (made.values ++ rest))))

  abbrev pub measuring : List (Word T) → State T
  measuring st =
      on_object o ar st (fails null_pointer_exception) (λ a rest. on_item a (λ x. goes ar (Num (pos (length x.cells)) M.none ∷ rest)))

  -- xaload and xastore
  abbrev pub loading : List (Word T) → State T
  loading st =
      on_int o ar st (λ i t st1. on_object o ar st1 (fails null_pointer_exception) (λ a rest. on_item a (λ x.
      given (element x.cells i) (fails array_index_exception) (λ w. goes ar (pushed w rest)))))

  abbrev pub storing : Elem → List (Word T) → State T
  storing e st =
      on_kind o ar (kind_of_elem e) st (λ w st1. on_int o ar st1 (λ i t st2. on_object o ar st2 (fails null_pointer_exception) (λ a rest. on_item a (λ x.
      given (element x.cells i) (fails array_index_exception) (λ old.
      either (refers_to L true ar.heap (element_type x.ty) w)
      (goes (with_cell ar a x (index_of i) (narrowed (narrowed_type (element_type x.ty)) w)) rest)
      (fails array_store_exception))))))

  -- athrow, checkcast and instanceof
  abbrev pub throwing : List (Word T) → State T
  throwing st =
      on_object o ar st (fails null_pointer_exception) (λ a rest. on_item a (λ x. thrown L o ar (name_of_base x.ty.base) a fs m pc ls))

  abbrev pub casting : JType → List (Word T) → State T
  casting ty st =
      on_ref o ar st (λ w rest. either (refers_to L true ar.heap ty w) (goes ar (w ∷ rest)) (fails class_cast_exception))

  abbrev pub asking : JType → List (Word T) → State T
  asking ty st = on_ref o ar st (λ w rest. goes ar (Num (truth (refers_to L false ar.heap ty w)) M.none ∷ rest))

  -- calls on an object (JVMS 6.5, invokevirtual, invokeinterface, invokespecial): null throws before anything is reported
  abbrev pub on_receiver : MethodRef → List (Word T) → (List (Word T) → Item T → List (Word T) → State T) → State T
  on_receiver ref st go =
      with_args o ar (words_of ref.desc true) st [] (λ args rest.
      on_object o ar args (fails null_pointer_exception) (λ a more. on_item a (λ x. go args x rest)))

  abbrev pub calling : Option Method → List (Word T) → List (Word T) → State T
  calling found args rest = on_some o ar found (λ callee. called M L callee args o ar m pc ls rest fs)

  abbrev pub calling_virtual : MethodRef → List (Word T) → State T
  calling_virtual ref st = on_receiver ref st (λ args x rest. calling (L.selected (receiver_class x.ty) ref) args rest)

  abbrev pub calling_interface : MethodRef → List (Word T) → State T
  calling_interface ref st =
      on_receiver ref st (λ args x rest.
      either (L.fits x.ty ref.class) (calling (L.selected (receiver_class x.ty) ref) args rest) (fails incompatible_class_change_error))

  abbrev pub calling_special : MethodRef → List (Word T) → State T
  calling_special ref st =
      on_receiver ref st (λ args x rest. on_some o ar (L.method ref) (λ found. calling (special_of L m ref found) args rest))
