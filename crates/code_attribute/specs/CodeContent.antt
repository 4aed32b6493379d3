-- The content of a Code attribute (JVMS 4.7.3).
use Rattle.std.specs.Prelude.{◌≡◌, ℕ, ◌<◌, ◌≤◌, List, [], ◌∷◌, ◌++◌, length, Option, codes}
use Rattle.class_input.specs.Grammar.{IsU16, IsU32}
use Rattle.class_model.specs.declared.class.CodeDef.{CodeDef}
use Rattle.class_model.specs.declared.class.Frame.{Frame}
use Rattle.class_model.specs.declared.class.VType.{VType}
use Rattle.const_pool.specs.Pool.{Pool}
use Rattle.class_names.specs.Pieces.{joined, IsTable}
use Rattle.class_attributes.specs.Attributes.{Attribute, IsAttribute, contents, AtMostOne}
use Rattle.insn_code.specs.Offsets.{Offsets}
use Rattle.insn_code.specs.Linking.{Code, IsCode}
use Rattle.code_tables.specs.CodeTables.{AreHandlers, AreLines}
use Rattle.class_file.specs.declared.method.MethodHead.{MethodHead}
use Rattle.class_file.specs.ClassBytes.{listed}
use Rattle.frame_tables.specs.FirstFrame.{first_types}
use Rattle.frame_tables.specs.FrameTable.{AreFrames}

-- the names that are read in code

abbrev pub stack_map_table : List ℕ
stack_map_table = codes "StackMapTable"

abbrev pub line_number_table : List ℕ
line_number_table = codes "LineNumberTable"

-- what each of some contents says, one behind the other
abbrev pub AllJoined : {A : Type 0} → (List ℕ → List A → Type 0) → List (List ℕ) → List A → Type 0
AllJoined R [] all = all ≡ []
AllJoined {A} R (content ∷ contents) all = (first others : List A) × (all ≡ first ++ others) × R content first × AllJoined R contents others

-- the attributes of code: at most one StackMapTable, and the rows of all LineNumberTables, at most 65,535
pub record AreCodeAttributes (p : Pool) (code : Code) (first : List VType) (text : List ℕ) (frames : Option (List (ℕ × Frame))) (lines : List (ℕ × ℕ)) : Type 0 where
  pub attributes : List Attribute
  pub stand : IsTable (IsAttribute p) text attributes
  pub frames_are : AtMostOne (AreFrames p code first) (contents stack_map_table attributes) frames
  pub lines_are : AllJoined (AreLines code.1) (contents line_number_table attributes) lines
  pub few_lines : length lines ≤ 65535

-- the content of a Code attribute of a method, by the name of its class and by its head
pub record IsCodeContent (p : Pool) (class : List ℕ) (head : MethodHead) (text : List ℕ) (code : CodeDef) : Type 0 where
  pub max_stack : List ℕ
  pub max_locals : List ℕ
  pub len : List ℕ
  pub insns : List ℕ
  pub handlers : List ℕ
  pub attributes : List ℕ
  pub offsets : Offsets
  pub frames : Option (List (ℕ × Frame))
  pub spelled : text ≡ joined (max_stack ∷ max_locals ∷ len ∷ insns ∷ handlers ∷ attributes ∷ [])
  pub max_stack_is : IsU16 max_stack code.max_stack
  pub max_locals_is : IsU16 max_locals code.max_locals
  pub len_is : IsU32 len offsets.size
  pub not_empty : 0 < offsets.size
  pub not_long : offsets.size ≤ 65535
  pub insns_are : IsCode p offsets.size insns (code.insns, offsets)
  pub handlers_are : AreHandlers p offsets handlers code.handlers
  pub attributes_are : AreCodeAttributes p (code.insns, offsets) (first_types class head) attributes frames code.lines
  pub frames_are : code.frames ≡ listed frames
