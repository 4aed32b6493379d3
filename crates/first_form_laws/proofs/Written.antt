-- What a written class of the first form is, all of it but its code's instructions spelled out.
use Rattle.std.proofs.Common.{◌≡◌, ◌∙◌, ℕ, ℤ, List, [], ◌∷◌, ◌++◌, sym, ap, subst, Some, None}
use Rattle.class_model.specs.declared.insn.Insn.{Insn}
use Rattle.class_model.specs.declared.insn.Insn.TheVariants.{PushInt, Load, Store, Stack, Bin, Invoke, Return}
use Rattle.class_model.specs.declared.insn.Kind.TheVariants as kinds
use Rattle.class_model.specs.declared.insn.Width.TheVariants as widths
use Rattle.class_model.specs.declared.insn.BinOp.{BinOp}
use Rattle.class_model.specs.declared.insn.StackOp.TheVariants as stacks
use Rattle.class_model.specs.declared.insn.InvokeKind.TheVariants as invokes
use Rattle.class_model.specs.declared.class.CodeDef.{CodeDef}
use Rattle.class_model.specs.declared.class.ClassDef.{ClassDef}
use Rattle.first_form.specs.declared.frame.IntFrame.{IntFrame}
use Rattle.profile_check.specs.declared.profile.Names.TheVariants.{Written}
use Rattle.first_form.specs.declared.natives.Native.{Native}
use Rattle.first_form.specs.Natives.{ref_of}
use Rattle.small_base.specs.Members.{object_name}
use Rattle.first_form.specs.FormOne.{FormOne, main_method}
use Rattle.first_form.specs.Typing.{first_frame, Types, Runs}

-- what the header leaves open
pub record Header : Type 0 where
  pub minor : ℕ
  pub major : ℕ
  pub flags : ℕ
  pub name : List ℕ

-- code without handlers, frames and lines
abbrev pub plain_code : (max_stack max_locals : ℕ) → List Insn → CodeDef
plain_code max_stack max_locals insns = record { max_stack = max_stack; max_locals = max_locals; insns = insns; handlers = []; frames = []; lines = [] }

abbrev pub class_of : Header → CodeDef → ClassDef
class_of header code = record {
  minor = header.minor;
  major = header.major;
  flags = header.flags;
  name = header.name;
  super_name = Some object_name;
  interfaces = [];
  fields = [];
  methods = main_method code ∷ [];
  source = None;
  inner = [];
}

abbrev pub header_of : ClassDef → Header
header_of class = record { minor = class.minor; major = class.major; flags = class.flags; name = class.name }

abbrev pub code_of : CodeDef → CodeDef
code_of code = plain_code code.max_stack code.max_locals code.insns

pub is_spelled : (class : ClassDef) (form : FormOne Written class) → class ≡ class_of (header_of class) (code_of form.code)
is_spelled class form = λ i. record {
  minor = class.minor;
  major = class.major;
  flags = class.flags;
  name = class.name;
  super_name = form.header.super_name i;
  interfaces = form.header.no_interface i;
  fields = form.header.no_field i;
  methods = (form.only_main ∙ ap (λ code. main_method code ∷ []) (λ j. record {
    max_stack = form.code.max_stack;
    max_locals = form.code.max_locals;
    insns = form.code.insns;
    handlers = form.straight.no_handler j;
    frames = form.straight.no_frame j;
    lines = form.straight.no_line j;
  })) i;
  source = form.header.no_source i;
  inner = form.header.no_inner i;
}

-- the instructions of straight-line code on ints
pub data Straight : Insn → Type 0 where
  pushes : {number : ℤ} → Straight (PushInt number)
  loads : {slot : ℕ} → Straight (Load kinds.Int slot)
  stores : {slot : ℕ} → Straight (Store kinds.Int slot)
  drops : Straight (Stack stacks.Pop)
  joins : {op : BinOp} → Straight (Bin widths.Int op)
  calls : (native : Native) → Straight (Invoke invokes.Static (ref_of native))
  returns : Straight (Return None)

-- each instruction of a list is one of them
abbrev pub AllStraight : List Insn → Type 0
AllStraight [] = Unit {0}
AllStraight (insn ∷ insns) = Straight insn × AllStraight insns

typed_straight : (max_stack : ℕ) (insn : Insn) (f g : IntFrame) → Types Written max_stack insn f g → Straight insn
typed_straight n (PushInt number) f g h = pushes
typed_straight n (Load kinds.Int slot) f g h = loads
typed_straight n (Store kinds.Int slot) f g h = stores
typed_straight n (Stack stacks.Pop) f g h = drops
typed_straight n (Bin widths.Int op) f g h = joins
typed_straight n (Invoke invokes.Static method) f g h = subst (λ m. Straight (Invoke invokes.Static m)) (sym h.1) (calls h.0)
typed_straight n _ f g h = absurd h

runs_straight : (max_stack : ℕ) (insns : List Insn) (f last : IntFrame) → Runs Written max_stack insns f last → AllStraight (insns ++ Return None ∷ [])
runs_straight n [] f last h = (returns, tt)
runs_straight n (insn ∷ insns) f last h = (typed_straight n insn f h.0 h.1, runs_straight n insns h.0 last h.2)

-- the instructions of a written class are such
pub form_straight : (class : ClassDef) (form : FormOne Written class) → AllStraight form.code.insns
form_straight class form =
    let s = form.straight in
    subst AllStraight (sym s.returns) (runs_straight form.code.max_stack s.body (first_frame form.code.max_locals) s.last s.runs)
