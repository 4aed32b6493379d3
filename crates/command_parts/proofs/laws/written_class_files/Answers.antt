use Rattle.command_parts.proofs.laws.written_class_files.Goals as goal
use Rattle.command_parts.proofs.WrittenFiles.{written}

pub returns : goal.returns
returns c = written
