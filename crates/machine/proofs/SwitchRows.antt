-- The rows of switches, whose targets stand in tables of the program.
use Rattle.std.proofs.Common.{◌≡◌, ℕ, Option, Some, None, subst}
use Rattle.std.specs.Prelude.{slice_get}
use Rattle.class_model.specs.declared.insn.Insn.{Insn}
use Rattle.class_model.specs.declared.insn.Insn.TheVariants as insn
use Rattle.machine_frames.specs.declared.frame.Frame.{Frame}
use Rattle.machine_frames.specs.declared.flow.Flow.{Flow}
use Rattle.machine_frames.specs.declared.flow.Flow.TheVariants as flow
use Rattle.machine_frames.specs.Acts.{Does}
use Rattle.linked_code.specs.declared.op.Op.TheVariants as op
use Rattle.linked_code.specs.declared.program.Table.{Table}
use Rattle.linked_code.specs.declared.program.Rows.{Rows}
use Rattle.linked_code.specs.declared.program.Program.{Program}
use Rattle.linked_code.specs.Linked.{IsTable, AreRows}
use Rattle.machine.specs.declared.state.Areas.{Areas}
use Rattle.machine.specs.Acted.{Acts}
use Rattle.machine.proofs.Framing.{does_acts}

table_is : (i : Insn) (o : Option Table) (t : Table) → o ≡ Some t → IsTable i o → i ≡ insn.TableSwitch t.low t.default t.targets
table_is i o t e h = subst (λ (q : Option Table). IsTable i q) e h

no_table : (i : Insn) (o : Option Table) → o ≡ None → IsTable i o → ⊥
no_table i o e h = subst (λ (q : Option Table). IsTable i q) e h

rows_are : (i : Insn) (o : Option Rows) (t : Rows) → o ≡ Some t → AreRows i o → i ≡ insn.LookupSwitch t.default t.rows
rows_are i o t e h = subst (λ (q : Option Rows). AreRows i q) e h

no_rows : (i : Insn) (o : Option Rows) → o ≡ None → AreRows i o → ⊥
no_rows i o e h = subst (λ (q : Option Rows). AreRows i q) e h

module _ {T : Type 0} (none : T) (join : T → T → T) (p : Program T) (f : Frame T) (a : Areas T) (n : ℕ) where
  pub table_missing : slice_get p.tables n ≡ None → Acts none join p (op.TableSwitch n) f a flow.Stuck f a
  table_missing e = record { by = λ w i o below links h. absurd (no_table i (slice_get p.tables n) e h) }

  pub table_acts : (t : Table) (g : Frame T) (k : Flow) → slice_get p.tables n ≡ Some t → Does none join (insn.TableSwitch t.low t.default t.targets) f g k → Acts none join p (op.TableSwitch n) f a k g a
  table_acts t g k e d = does_acts none join p (op.TableSwitch n) (insn.TableSwitch t.low t.default t.targets) f g a k (λ w i h. table_is i (slice_get p.tables n) t e h) d

  pub rows_missing : slice_get p.rows n ≡ None → Acts none join p (op.LookupSwitch n) f a flow.Stuck f a
  rows_missing e = record { by = λ w i o below links h. absurd (no_rows i (slice_get p.rows n) e h) }

  pub rows_act : (t : Rows) (g : Frame T) (k : Flow) → slice_get p.rows n ≡ Some t → Does none join (insn.LookupSwitch t.default t.rows) f g k → Acts none join p (op.LookupSwitch n) f a k g a
  rows_act t g k e d = does_acts none join p (op.LookupSwitch n) (insn.LookupSwitch t.default t.rows) f g a k (λ w i h. rows_are i (slice_get p.rows n) t e h) d
