-- The frames of a StackMapTable (JVMS 4.7.4), by the numbers of instructions and with classes by name.
use Rattle.std.specs.Prelude.{◌≡◌, ℕ, ◌+◌, List, [], ◌∷◌, length, Option, Some, None, Ok, slice_get}
use Rattle.class_model.specs.declared.types.JType.{JType}
use Rattle.class_model.specs.declared.class.VType.{VType}
use Rattle.class_model.specs.declared.class.VType.TheVariants as types
use Rattle.class_model.specs.declared.class.Frame.{Frame}
use Rattle.class_model.specs.declared.insn.Insn.{Insn}
use Rattle.class_model.specs.declared.insn.Insn.TheVariants.{New}
use Rattle.const_pool.specs.Pool.{Pool}
use Rattle.class_names.specs.Names.{NamesType}
use Rattle.insn_code.specs.Linking.{Code}
use Rattle.code_tables.specs.CodeTables.{Begins}
use Rattle.stack_maps.specs.declared.frame.RawType.{RawType}
use Rattle.stack_maps.specs.declared.frame.RawType.TheVariants as raw
use Rattle.stack_maps.specs.declared.frame.RawFrame.{RawFrame}
use Rattle.stack_maps.specs.declared.written.Written.{Written}
use Rattle.stack_maps.specs.Grammar.{IsTable}
use Rattle.stack_maps.specs.Expand.{expanded}

-- the entries of the first frame, from which the others are expanded, each by its number
abbrev pub numbered : {A : Type 0} → ℕ → List A → List RawType
numbered k [] = []
numbered k (x ∷ xs) = raw.First k ∷ numbered (k + 1) xs

abbrev pub entry_of : Option VType → VType
entry_of None = types.Top
entry_of (Some t) = t

-- the entry of a number of the first frame, `Top` behind its end
abbrev pub first_entry : List VType → ℕ → VType
first_entry first k = entry_of (slice_get first k)

-- the instruction of a number is a `new`
abbrev pub IsNew : List Insn → ℕ → Type 0
IsNew insns number = (class : List ℕ) × (slice_get insns number ≡ Some (New class))

-- what a type of a frame is: a class by its name, and an object that is not initialized by the number of its `new`
abbrev pub IsVType : Pool → Code → List VType → RawType → VType → Type 0
IsVType p code first raw.Top t = t ≡ types.Top
IsVType p code first raw.Int t = t ≡ types.Int
IsVType p code first raw.Long t = t ≡ types.Long
IsVType p code first raw.Null t = t ≡ types.Null
IsVType p code first raw.UninitThis t = t ≡ types.UninitThis
IsVType p code first (raw.Object k) t = (ty : JType) × NamesType p k ty × (t ≡ types.Ref ty)
IsVType p code first (raw.Uninit offset) t = (number : ℕ) × Begins code.1 offset number × IsNew code.0 number × (t ≡ types.Uninit number)
IsVType p code first (raw.First k) t = t ≡ first_entry first k

-- two lists, item by item
abbrev pub Alike : {A B : Type 0} → (A → B → Type 0) → List A → List B → Type 0
Alike R [] [] = Unit {0}
Alike R (x ∷ xs) (y ∷ ys) = R x y × Alike R xs ys
Alike R [] (y ∷ ys) = ⊥
Alike R (x ∷ xs) [] = ⊥

-- a frame that was expanded in full, and the frame of the instruction of a number
pub record IsFrame (p : Pool) (code : Code) (first : List VType) (raw : RawFrame) (frame : ℕ × Frame) : Type 0 where
  pub begins : Begins code.1 raw.offset frame.0
  pub locals_are : Alike (IsVType p code first) raw.locals frame.1.locals
  pub stack_is : Alike (IsVType p code first) raw.stack frame.1.stack

-- the content of a StackMapTable of code, by the locals of its first frame
pub record AreFrames (p : Pool) (code : Code) (first : List VType) (text : List ℕ) (frames : List (ℕ × Frame)) : Type 0 where
  pub written : List Written
  pub in_full : List RawFrame
  pub table_is : IsTable (length (numbered 0 first)) 0 text written
  pub expanded_are : expanded 0 (numbered 0 first) written ≡ Ok in_full
  pub frames_are : Alike (IsFrame p code first) in_full frames
