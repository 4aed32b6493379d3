-- The written class of a class: this project's own layout.
use Rattle.std.specs.Prelude.{ℕ, zero, suc, ◌+◌, ◌*◌, ◌≤◌, pos, List, [], ◌∷◌, ◌++◌, map, Option, Some, None, IfSome, All}
use Rattle.class_model.specs.declared.insn.Insn.{Insn}
use Rattle.class_model.specs.declared.insn.Insn.TheVariants.{PushInt}
use Rattle.class_model.specs.declared.class.CodeDef.{CodeDef}
use Rattle.class_model.specs.declared.class.MethodDef.{MethodDef}
use Rattle.class_model.specs.declared.class.ClassDef.{ClassDef}
use Rattle.instrument_set.specs.declared.marks.Marks.{Marks}
use Rattle.instrument_set.specs.Pieces.{store, pieces, AllFit}

-- n slots from one on are set to 0
abbrev pub cleared : ℕ → (n : ℕ) → List Insn
cleared from zero = []
cleared from (suc n) = PushInt (pos 0) ∷ store from ∷ cleared (from + 1) n

-- the written code: every slot of a tag is set to 0, and then the pieces
abbrev pub written_code : Marks → CodeDef → CodeDef
written_code marks code = record {
  max_stack = 2 * code.max_stack + 16;
  max_locals = 2 * code.max_locals + code.max_stack + 8;
  insns = cleared code.max_locals (code.max_locals + code.max_stack) ++ pieces code.max_locals marks code.insns 0;
  handlers = [];
  frames = [];
  lines = [];
}

abbrev pub written_body : Marks → Option CodeDef → Option CodeDef
written_body marks None = None
written_body marks (Some code) = Some (written_code marks code)

-- a method is written as it was, but for its code
abbrev pub written_method : Marks → MethodDef → MethodDef
written_method marks method = record method { code = written_body marks method.code }

-- a class is written as it was, but for its methods
abbrev pub written_class : Marks → ClassDef → ClassDef
written_class marks class = record class { methods = map (written_method marks) class.methods }

-- code that can be written: of at most 100 locals and 100 stack words, each instruction with its words and its local
pub record CanWriteCode (code : CodeDef) : Type 0 where
  pub few_locals : code.max_locals ≤ 100
  pub few_words : code.max_stack ≤ 100
  pub fit : AllFit code.max_locals code.max_stack code.insns 0

abbrev pub CanWriteMethod : MethodDef → Type 0
CanWriteMethod method = IfSome method.code CanWriteCode

abbrev pub CanWriteClass : ClassDef → Type 0
CanWriteClass class = All CanWriteMethod class.methods
