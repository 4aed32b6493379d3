-- What the streams of a run get, and why it stops.
use Rattle.std.specs.Prelude.{ℕ, ⊤}
use Rattle.outside_io.specs.Causes.{Rose}
use Rattle.run_console.specs.declared.stop.RunStop.{RunStop}
use Rattle.run_console.specs.declared.stop.RunStop.TheVariants.{ReadFault, WriteFault, Memory}

-- a fault comes only where that device's count rose: the source's from r to s, the sink's from v to w
abbrev pub HasCause : (r s v w : ℕ) → RunStop → Type 0
HasCause r s v w ReadFault = Rose r s
HasCause r s v w WriteFault = Rose v w
HasCause r s v w Memory = ⊤
