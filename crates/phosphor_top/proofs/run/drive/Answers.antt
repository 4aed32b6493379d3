use Rattle.command_parts.specs.declared.stop.Stop.TheVariants.{OutputFault}
use Rattle.phosphor_top.proofs.RunParts as parts
use Rattle.phosphor_top.proofs.run.drive.Goals as goal

pub returns-in-Ok-clause-ran : goal.returns-in-Ok-clause-ran
returns-in-Ok-clause-ran g c =
    parts.run_to (g.I.ByteSource.left c.args.input.now) (g.I.ByteSource.left c.run_plain.new.input) c.args.run.now c.run_plain.new.run c.args.steps
    c.requires c.run_plain.ensures.same c.in-Ok.ensures.ran c.run_plain.ensures.tells

pub returns-in-Err-WriteFault-clause-put : goal.returns-in-Err-WriteFault-clause-put
returns-in-Err-WriteFault-clause-put g c =
    parts.puts_front (g.I.ByteSource.left c.args.input.now) (g.I.ByteSource.left c.run_plain.new.input) (g.O.ByteSink.held c.args.out.now) (g.O.ByteSink.held c.run_plain.new.out)
    c.args.run.now c.run_plain.new.run c.args.steps c.in-Err-WriteFault.field-0 OutputFault
    c.requires c.run_plain.ensures.same (parts.ran_of _ c.in-Err-WriteFault.field-0 c.in-Err-WriteFault.field-0-is c.in-Err-WriteFault.ensures.ran) c.run_plain.ensures.tells (parts.ran_of _ c.in-Err-WriteFault.field-0 c.in-Err-WriteFault.field-0-is c.in-Err-WriteFault.ensures.console)
