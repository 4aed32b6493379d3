-- What a command that stops answers: its status, the line that it writes, and the fault that it names.
use Rattle.std.specs.Prelude.{ℕ, List, ⊤}
use Rattle.outside_io.specs.Causes.{Rose}
use Rattle.command_parts.specs.Lines.{usage_line, memory_line, list_fault_line, read_fault_line, input_fault_line, write_fault_line, output_fault_line, too_many_line, too_long_line, config_not_built_line, not_built_line, no_file_line, no_main_line, not_empty_line}
use Rattle.command_parts.specs.declared.stop.Stop.{Stop}
use Rattle.command_parts.specs.declared.stop.Stop.TheVariants.{Usage, ListFault, ReadFault, InputFault, WriteFault, OutputFault, TooManyFiles, FileTooLong, NotLoaded, ConfigNotBuilt, NotBuilt, NoFile, NoMain, NotEmpty, Memory}

abbrev pub status_of : Stop → ℕ
status_of Usage = 1
status_of (ListFault dir) = 3
status_of (ReadFault path) = 3
status_of InputFault = 3
status_of (WriteFault path) = 4
status_of OutputFault = 4
status_of (TooManyFiles dir) = 10
status_of (FileTooLong path) = 10
status_of (NotLoaded line) = 2
status_of ConfigNotBuilt = 2
status_of (NotBuilt class) = 2
status_of (NoFile path) = 2
status_of (NoMain main) = 2
status_of (NotEmpty dir) = 2
status_of Memory = 5

abbrev pub line_of : Stop → List ℕ
line_of Usage = usage_line
line_of (ListFault dir) = list_fault_line dir
line_of (ReadFault path) = read_fault_line path
line_of InputFault = input_fault_line
line_of (WriteFault path) = write_fault_line path
line_of OutputFault = output_fault_line
line_of (TooManyFiles dir) = too_many_line dir
line_of (FileTooLong path) = too_long_line path
line_of (NotLoaded line) = line
line_of ConfigNotBuilt = config_not_built_line
line_of (NotBuilt class) = not_built_line class
line_of (NoFile path) = no_file_line path
line_of (NoMain main) = no_main_line main
line_of (NotEmpty dir) = not_empty_line dir
line_of Memory = memory_line

-- a fault comes only where the folder's count of that call rose: reads from r to s, writes from v to w. No call of a folder finds that words are no command, or that a stream failed
abbrev pub HasCause : Stop → (r s v w : ℕ) → Type 0
HasCause Usage r s v w = ⊥
HasCause (ListFault dir) r s v w = Rose r s
HasCause (ReadFault path) r s v w = Rose r s
HasCause InputFault r s v w = ⊥
HasCause (WriteFault path) r s v w = Rose v w
HasCause OutputFault r s v w = ⊥
HasCause (TooManyFiles dir) r s v w = ⊤
HasCause (FileTooLong path) r s v w = ⊤
HasCause (NotLoaded line) r s v w = ⊤
HasCause ConfigNotBuilt r s v w = ⊤
HasCause (NotBuilt class) r s v w = ⊤
HasCause (NoFile path) r s v w = ⊤
HasCause (NoMain main) r s v w = ⊤
HasCause (NotEmpty dir) r s v w = ⊤
HasCause Memory r s v w = ⊤
