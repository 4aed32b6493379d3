use Rattle.std.proofs.Common.{sym, subst}
use Rattle.class_model.specs.declared.insn.Insn.{Insn}
use Rattle.linked_code.specs.Linked.{MakesArray}
use Rattle.linked_code.specs.declared.op.Op.TheVariants as op
use Rattle.program_links.specs.LinkedTo.{TypeAt, LinkedTo}
use Rattle.program_links.proofs.Named.{new_linked}
use Rattle.program_links.proofs.linking.link_type.Goals as goal

pub returns-in-New-clause-is : goal.returns-in-New-clause-is
returns-in-New-clause-is c =
    subst (λ (i : Insn). LinkedTo c.args.set.now c.args.tables.now i (op.New c.class_number.result)) (sym c.in-New.is)
    (new_linked c.args.set.now c.args.tables.now c.in-New.class c.class_number.result c.class_number.ensures)

pub returns-in_ok-array_of_numbers-in-NewArray-clause-is :
    goal.returns-in_ok-array_of_numbers-in-NewArray-clause-is
returns-in_ok-array_of_numbers-in-NewArray-clause-is c =
    subst (λ (i : Insn). TypeAt c.array_of_numbers.new.tables (MakesArray i) c.in_ok-array_of_numbers-in-NewArray.field-0) (sym c.in-NewArray.is) c.in_ok-array_of_numbers-in-NewArray.ensures.is

pub returns-in_ok-array_of_references-in-ANewArray-clause-is :
    goal.returns-in_ok-array_of_references-in-ANewArray-clause-is
returns-in_ok-array_of_references-in-ANewArray-clause-is c =
    subst (λ (i : Insn). TypeAt c.array_of_references.new.tables (MakesArray i) c.in_ok-array_of_references-in-ANewArray.field-0) (sym c.in-ANewArray.is) c.in_ok-array_of_references-in-ANewArray.ensures.is
