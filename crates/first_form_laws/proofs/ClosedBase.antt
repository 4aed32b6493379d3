-- The classes beside a written class are closed, by themselves and with that class behind them.
use Rattle.std.proofs.Common.{◌≡◌, ◌∙◌, false, List, [], ◌∷◌, ◌++◌, refl, None}
use Rattle.std.specs.Prelude.{flat_map, Option}
use Rattle.std.specs.Str.{chars}
use Rattle.std.specs.List.{AllByRecursion}
use Rattle.class_model.specs.declared.insn.Insn.{Insn}
use Rattle.class_model.specs.declared.class.CodeDef.{CodeDef}
use Rattle.class_model.specs.declared.class.ClassDef.{ClassDef}
use Rattle.set_lookups.specs.Above.{same_name, is_subtype}
use Rattle.set_lookups.specs.First.{first, first_from}
use Rattle.set_lookups.specs.Lookups.{supers, chain, levels, superinterfaces, method_from, resolve_method, select_by}
use Rattle.set_lookups.specs.Needed.{first_again, duplicate, needed, insn_names, if_missing, missing}
use Rattle.set_lookups.specs.Cycle.{is_in_cycle, cycle}
use Rattle.class_set.specs.FinalSuper.{has_final_super, final_super}
use Rattle.class_set.specs.Core.{core}
use Rattle.class_set.specs.References.{class_insns, if_unresolved, unresolved}
use Rattle.class_set.specs.Calls.{is_wrong, if_wrong_kind, wrong_kind}
use Rattle.class_set.specs.Open.{is_concrete, leaves_open, abstract_left}
use Rattle.class_set.specs.Closed.{Closed}
use Rattle.class_set.proofs.Firsts.{one_piece}
use Rattle.first_form.specs.declared.natives.Native.TheVariants.{Read, Write, Report}
use Rattle.first_form.specs.Base.{report_class}
use Rattle.first_form_laws.specs.WrittenForm.{written_base}
use Rattle.first_form_laws.proofs.Firsts.{along_joined, last_from, last_class}
use Rattle.first_form_laws.proofs.Tests.{and_false}
use Rattle.first_form_laws.proofs.Once.{distinct_last}
use Rattle.first_form_laws.proofs.Written.{Header, class_of, code_of, Straight, pushes, loads, stores, drops, joins, calls, returns, AllStraight}
use Rattle.first_form_laws.proofs.StraightLines.{none_along, none_joined}

pub closed_base : Closed written_base
unfolding chars written_base report_class first first_from first_again duplicate missing cycle final_super core unresolved wrong_kind abstract_left is_subtype supers chain levels superinterfaces method_from resolve_method select_by if_unresolved is_wrong
closed_base = record {
  distinct = refl;
  present = refl;
  acyclic = refl;
  extendable = refl;
  core_classes = refl;
  resolved = refl;
  of_right_kind = refl;
  implemented = refl;
}

abbrev pub with_last : ClassDef → List ClassDef
with_last class = written_base ++ class ∷ []

-- ---- what the code of a class behind them names

insn_present : (class : ClassDef) (insn : Insn) → Straight insn → first (if_missing (with_last class)) (insn_names insn) ≡ None
unfolding chars written_base report_class first
insn_present class insn pushes = refl
insn_present class insn loads = refl
insn_present class insn stores = refl
insn_present class insn drops = refl
insn_present class insn joins = refl
insn_present class insn (calls Read) = refl
insn_present class insn (calls Write) = refl
insn_present class insn (calls Report) = refl
insn_present class insn returns = refl

insn_resolves : (class : ClassDef) (insn : Insn) → Straight insn → if_unresolved (with_last class) insn ≡ None
unfolding chars written_base report_class first if_unresolved resolve_method method_from supers superinterfaces chain levels
insn_resolves class insn pushes = refl
insn_resolves class insn loads = refl
insn_resolves class insn stores = refl
insn_resolves class insn drops = refl
insn_resolves class insn joins = refl
insn_resolves class insn (calls Read) = refl
insn_resolves class insn (calls Write) = refl
insn_resolves class insn (calls Report) = refl
insn_resolves class insn returns = refl

insn_right : (class : ClassDef) (insn : Insn) → Straight insn → if_wrong_kind (with_last class) 22 insn ≡ None
unfolding chars written_base report_class first is_wrong resolve_method method_from supers superinterfaces chain levels
insn_right class insn pushes = refl
insn_right class insn loads = refl
insn_right class insn stores = refl
insn_right class insn drops = refl
insn_right class insn joins = refl
insn_right class insn (calls Read) = refl
insn_right class insn (calls Write) = refl
insn_right class insn (calls Report) = refl
insn_right class insn returns = refl

-- ---- the classes with one of the form behind them

two_pieces : {A B : Type 0} (f : A → Option B) (xs : List A) → first f ((xs ++ []) ++ []) ≡ first f xs
two_pieces f xs = one_piece f (xs ++ []) ∙ one_piece f xs

present_last : (header : Header) (code : CodeDef) → AllStraight code.insns → missing (with_last (class_of header (code_of code))) ≡ None
unfolding chars written_base report_class missing first first_from
present_last header code straight =
    let class = class_of header (code_of code) in
    let names = flat_map insn_names code.insns in
    along_joined (if_missing (with_last class)) needed 0 (with_last class)
    ∙ last_from (λ number other. first (if_missing (with_last class)) (needed other)) 0 written_base class refl
    (two_pieces (if_missing (with_last class)) (names ++ []) ∙ one_piece (if_missing (with_last class)) names ∙ none_joined (if_missing (with_last class)) insn_names (insn_present class) code.insns straight)

acyclic_last : (header : Header) (code : CodeDef) → cycle (with_last (class_of header code)) ≡ None
unfolding chars written_base report_class cycle first_from
acyclic_last header code = let class = class_of header code in last_class (is_in_cycle (with_last class)) written_base class refl refl

extendable_last : (header : Header) (code : CodeDef) → final_super (with_last (class_of header code)) ≡ None
unfolding chars written_base report_class final_super first_from supers chain
extendable_last header code = let class = class_of header code in last_class (has_final_super (with_last class)) written_base class refl refl

core_last : (class : ClassDef) → core (with_last class) ≡ None
unfolding chars written_base report_class core first is_subtype
core_last class = refl

resolved_last : (header : Header) (code : CodeDef) → AllStraight code.insns → unresolved (with_last (class_of header code)) ≡ None
unfolding chars written_base report_class unresolved first first_from if_unresolved resolve_method method_from supers superinterfaces chain levels
resolved_last header code straight =
    let class = class_of header code in
    last_from (λ number other. first (if_unresolved (with_last class)) (class_insns other)) 0 written_base class refl
    (two_pieces (if_unresolved (with_last class)) code.insns ∙ none_along (if_unresolved (with_last class)) (insn_resolves class) code.insns straight)

right_last : (header : Header) (code : CodeDef) → AllStraight code.insns → wrong_kind (with_last (class_of header code)) ≡ None
unfolding chars written_base report_class wrong_kind first first_from is_wrong resolve_method method_from supers superinterfaces chain levels
right_last header code straight =
    let class = class_of header code in
    last_from (λ number other. first (if_wrong_kind (with_last class) number) (class_insns other)) 0 written_base class refl
    (two_pieces (if_wrong_kind (with_last class) 22) code.insns ∙ none_along (if_wrong_kind (with_last class) 22) (insn_right class) code.insns straight)

implemented_last : (header : Header) (code : CodeDef) → abstract_left (with_last (class_of header code)) ≡ None
unfolding chars written_base report_class abstract_left first first_from select_by supers superinterfaces chain levels
implemented_last header code =
    let class = class_of header code in
    last_class (leaves_open (with_last class)) written_base class refl (and_false (is_concrete class))

pub closed_last : (header : Header) (code : CodeDef) → AllStraight code.insns → AllByRecursion (λ other. same_name other.name header.name ≡ false) written_base → Closed (with_last (class_of header (code_of code)))
closed_last header code straight apart = record {
  distinct = distinct_last written_base (class_of header (code_of code)) closed_base.distinct apart;
  present = present_last header code straight;
  acyclic = acyclic_last header (code_of code);
  extendable = extendable_last header (code_of code);
  core_classes = core_last (class_of header (code_of code));
  resolved = resolved_last header (code_of code) straight;
  of_right_kind = right_last header (code_of code) straight;
  implemented = implemented_last header (code_of code);
}
