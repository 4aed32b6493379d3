-- The lines that a command writes to standard error, as bytes. The texts are this project's own.
use Rattle.std.specs.Prelude.{ℕ, List, [], ◌∷◌, ◌++◌, codes}
use Rattle.std.specs.Fmt.{decimal}
use Rattle.modified_utf8.specs.Text.{text_bytes}

abbrev pub ended : List ℕ → List ℕ
ended text = text ++ 10 ∷ []

abbrev pub usage_line : List ℕ
usage_line = ended (codes "usage: phosphor instrument IN OUT CONFIG | run DIR MAIN STEPS | run-tagged DIR MAIN CONFIG STEPS | check DIR | sample N OUT")

abbrev pub memory_line : List ℕ
memory_line = ended (codes "out of memory")

-- the folder of this path could not be listed
abbrev pub list_fault_line : List ℕ → List ℕ
list_fault_line dir = codes "read fault: list " ++ dir ++ 10 ∷ []

-- the file of this path could not be read
abbrev pub read_fault_line : List ℕ → List ℕ
read_fault_line path = codes "read fault: " ++ path ++ 10 ∷ []

-- standard input could not be read
abbrev pub input_fault_line : List ℕ
input_fault_line = ended (codes "read fault: input")

-- the file of this path could not be written
abbrev pub write_fault_line : List ℕ → List ℕ
write_fault_line path = codes "write fault: " ++ path ++ 10 ∷ []

-- standard output did not take what was written to it
abbrev pub output_fault_line : List ℕ
output_fault_line = ended (codes "write fault: out")

-- the folder of this path holds more files than are read
abbrev pub too_many_line : List ℕ → List ℕ
too_many_line dir = codes "too many files: " ++ dir ++ 10 ∷ []

-- the file of this path is longer than a file that is read
abbrev pub too_long_line : List ℕ → List ℕ
too_long_line path = codes "file too long: " ++ path ++ 10 ∷ []

abbrev pub config_not_built_line : List ℕ
config_not_built_line = ended (codes "refused: config: not built")

-- the class of this name is of a form whose instrumentation is not built; its name stands as in a class file (JVMS 4.4.7)
abbrev pub not_built_line : List ℕ → List ℕ
not_built_line class = codes "refused: not built: " ++ text_bytes class ++ 10 ∷ []

-- there is no file of this path
abbrev pub no_file_line : List ℕ → List ℕ
no_file_line path = codes "refused: no file: " ++ path ++ 10 ∷ []

-- no class of this name has a `main` that can be run; the name stands as in a class file (JVMS 4.4.7)
abbrev pub no_main_line : List ℕ → List ℕ
no_main_line main = codes "refused: no main: " ++ text_bytes main ++ 10 ∷ []

-- the output folder of this path holds a file
abbrev pub not_empty_line : List ℕ → List ℕ
not_empty_line dir = codes "refused: not empty: " ++ dir ++ 10 ∷ []

-- a folder of so many class files loads; it goes to standard output
abbrev pub ok_line : ℕ → List ℕ
ok_line count = codes "ok " ++ decimal count ++ ended (codes " classes")
