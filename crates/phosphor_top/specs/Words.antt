-- What the program's own words of a command stand for.
use Rattle.phosphor_top.specs.declared.words.Instrument.{Instrument as InstrumentWords}
use Rattle.phosphor_top.specs.declared.words.Run.{Run as RunWords}
use Rattle.phosphor_top.specs.declared.words.Command.{Command as CommandWords}
use Rattle.phosphor_top.specs.declared.words.Command.TheVariants as words
use Rattle.phosphor_top.specs.Commands.{Command, Instrument, Check, Run, Paths, Program, class_named}

abbrev pub paths_of : InstrumentWords → Paths
paths_of w = record { input = w.input.now; output = w.output.now; config = w.config.now }

abbrev pub program_of : RunWords → Program
program_of w = record { dir = w.dir.now; main = class_named w.main.now; steps = w.steps }

abbrev pub command_of : CommandWords → Command
command_of (words.Instrument w) = Instrument (paths_of w)
command_of (words.Check dir) = Check dir.now
command_of (words.Run w) = Run (program_of w)
