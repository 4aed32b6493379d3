-- The lines of a run and the status of its ending. The texts are this project's own.
use Rattle.std.specs.Prelude.{ℕ, zero, suc, ℤ, pos, negsuc, List, [], ◌∷◌, ◌++◌, flat_map, codes, Option, Some, None, slice_get}
use Rattle.std.specs.Fmt.{signed_decimal}
use Rattle.modified_utf8.specs.Text.{text_bytes}
use Rattle.class_model.specs.declared.class.ClassDef.{ClassDef}
use Rattle.run_state.specs.declared.ending.Ending.{Ending}
use Rattle.run_state.specs.declared.ending.Ending.TheVariants.{Running, Returned, Exit, Uncaught, InitFailed}
use Rattle.run_state.specs.declared.report.Report.{Report}
use Rattle.command_parts.specs.Lines.{ended}

abbrev pub name_of : Option ClassDef → List ℕ
name_of None = []
name_of (Some class) = class.name

-- the name of a class of the set by its number, as it stands in a class file (JVMS 4.4.7)
abbrev pub class_text : List ClassDef → ℕ → List ℕ
class_text set number = text_bytes (name_of (slice_get set number))

-- two names of classes
unfoldable pub two_classes : List ClassDef → ℕ → ℕ → List ℕ
two_classes set one other = class_text set one ++ codes " " ++ class_text set other

abbrev pub report_line : Report → List ℕ
report_line report =
    codes "report " ++ signed_decimal report.sink ++ codes " " ++ signed_decimal report.argument ++ codes " " ++ signed_decimal report.tag ++ 10 ∷ []

abbrev pub ending_line : List ClassDef → Ending → List ℕ
ending_line set Running = ended (codes "running")
ending_line set Returned = ended (codes "returned")
ending_line set (Exit status) = codes "exit " ++ signed_decimal status ++ 10 ∷ []
ending_line set (Uncaught class) = codes "uncaught " ++ class_text set class.0 ++ 10 ∷ []
ending_line set (InitFailed class exception) = codes "init failed " ++ two_classes set class.0 exception.0 ++ 10 ∷ []

-- all reports in order, then the ending
abbrev pub run_lines : List ClassDef → List Report → Ending → List ℕ
run_lines set reports ending = flat_map report_line reports ++ ending_line set ending

abbrev pub exit_status : ℤ → ℕ
exit_status (pos zero) = 0
exit_status (pos (suc n)) = 9
exit_status (negsuc n) = 9

abbrev pub run_status : Ending → ℕ
run_status Running = 7
run_status Returned = 0
run_status (Exit status) = exit_status status
run_status (Uncaught class) = 8
run_status (InitFailed class exception) = 8
