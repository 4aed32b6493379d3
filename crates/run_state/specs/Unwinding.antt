-- What a throw does (JVMS 2.10, 6.5 athrow): it goes to the first handler that covers the instruction and whose class
-- fits, frame by frame from the top, in one step.
use Rattle.std.specs.Prelude.{ℕ, ◌-◌, pos, ◌&&◌, ◌==◌, leb, ltb, Bool, true, false, List, [], ◌∷◌, ◌++◌, length, map, Option, Some, None, codes, if◌then◌else◌}
use Rattle.class_model.specs.declared.types.Primitive.{Primitive}
use Rattle.class_model.specs.declared.types.Primitive.TheVariants as primitive
use Rattle.class_model.specs.declared.types.BaseType.{BaseType}
use Rattle.class_model.specs.declared.types.BaseType.TheVariants as base
use Rattle.class_model.specs.declared.types.JType.{JType}
use Rattle.class_model.specs.declared.class.Handler.{Handler}
use Rattle.run_state.specs.Texts.{class_type}
use Rattle.run_state.specs.Words.{Word, Num, Long, Null, Ref}
use Rattle.run_state.specs.State.{Method, Frame, Item, Areas, Outside, Uncaught, InitFailed, State, live, ended}
use Rattle.run_state.specs.Looks.{Looks}
use Rattle.run_state.specs.Tags.{Tags}

-- the exceptions of the machine
abbrev pub arithmetic_exception : List ℕ
arithmetic_exception = codes "java/lang/ArithmeticException"

abbrev pub null_pointer_exception : List ℕ
null_pointer_exception = codes "java/lang/NullPointerException"

abbrev pub incompatible_class_change_error : List ℕ
incompatible_class_change_error = codes "java/lang/IncompatibleClassChangeError"

abbrev pub negative_array_size_exception : List ℕ
negative_array_size_exception = codes "java/lang/NegativeArraySizeException"

abbrev pub class_cast_exception : List ℕ
class_cast_exception = codes "java/lang/ClassCastException"

abbrev pub array_index_exception : List ℕ
array_index_exception = codes "java/lang/ArrayIndexOutOfBoundsException"

abbrev pub array_store_exception : List ℕ
array_store_exception = codes "java/lang/ArrayStoreException"

-- the default value of a type (JVMS 2.3, 2.4), with no tag
abbrev pub default_primitive : {T : Type 0} → T → Primitive → Word T
default_primitive t primitive.Long = Long (pos 0) t
default_primitive t primitive.Boolean = Num (pos 0) t
default_primitive t primitive.Byte = Num (pos 0) t
default_primitive t primitive.Char = Num (pos 0) t
default_primitive t primitive.Short = Num (pos 0) t
default_primitive t primitive.Int = Num (pos 0) t
default_primitive t primitive.Float = Num (pos 0) t
default_primitive t primitive.Double = Num (pos 0) t

abbrev pub default_base : {T : Type 0} → T → BaseType → Word T
default_base t (base.Primitive p) = default_primitive t p
default_base t (base.Class c) = Null

abbrev pub default_of : {T : Type 0} → T → JType → Word T
default_of t ty = if ty.depth == 0 then default_base t ty.base else Null

-- a fresh object of a class, by no constructor
abbrev pub fresh_object : {T : Type 0} → Tags T → Looks → List ℕ → Item T
fresh_object M L c = record { ty = class_type c; own = M.none; cells = map (default_of M.none) (L.fields c) }

-- the areas with one item more, whose place is the heap's old length
abbrev pub with_item : {T : Type 0} → Areas T → Item T → Areas T
with_item ar x = record ar { heap = ar.heap ++ x ∷ [] }

-- the class of an object, as handlers and selection see it
abbrev pub name_of_base : BaseType → List ℕ
name_of_base (base.Primitive p) = []
name_of_base (base.Class c) = c

-- the first handler that covers an instruction and fits a class
abbrev pub covers : Handler → ℕ → Bool
covers h at = leb h.start at && ltb at h.end

abbrev pub catches : Looks → List ℕ → Option (List ℕ) → Bool
catches L c None = true
catches L c (Some k) = L.fits (class_type c) (class_type k)

abbrev pub first_of : Bool → ℕ → Option ℕ → Option ℕ
first_of true a b = Some a
first_of false a b = b

abbrev pub catching : Looks → List ℕ → ℕ → List Handler → Option ℕ
catching L c at [] = None
catching L c at (h ∷ hs) = first_of (covers h at && catches L c h.caught) h.target (catching L c at hs)

abbrev pub landing : {T : Type 0} → Option ℕ → (ℕ → State T) → State T → State T
landing None go past = past
landing (Some pc) go past = go pc

-- leaving an initializer ends the run (this project's own)
abbrev pub leaving : {T : Type 0} → Option (List ℕ) → Outside → Areas T → List ℕ → State T → State T
leaving None o ar c past = past
leaving (Some k) o ar c past = ended o ar (InitFailed k c)

-- The object at `a`, of class `c`, is thrown at instruction `at` of a method, and goes down the frames. A frame that waits
-- is judged at the instruction before its next one, which is its call.
abbrev pub thrown : {T : Type 0} → Looks → Outside → Areas T → List ℕ → ℕ → List (Frame T) → Method → ℕ → List (Word T) → State T
thrown L o ar c a [] m at ls =
    landing (catching L c at m.handlers) (λ pc. live o ar m pc ls (Ref a ∷ []) [])
    (leaving m.begins o ar c (ended o ar (Uncaught c)))
thrown L o ar c a (f ∷ fs) m at ls =
    landing (catching L c at m.handlers) (λ pc. live o ar m pc ls (Ref a ∷ []) (f ∷ fs))
    (leaving m.begins o ar c (thrown L o ar c a fs f.method (f.next - 1) f.locals))

-- the machine throws a fresh object of a class
abbrev pub throws : {T : Type 0} → Tags T → Looks → Outside → Areas T → List ℕ → List (Frame T) → Method → ℕ → List (Word T) → State T
throws M L o ar c fs m at ls = thrown L o (with_item ar (fresh_object M L c)) c (length ar.heap) fs m at ls
