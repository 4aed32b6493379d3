-- The class files of the output folder, once `instrument` has written it.
use Rattle.std.proofs.Common.{◌≡◌, ℕ, true, List, [], ◌∷◌, map, sym, subst}
use Rattle.std.specs.List.{All}
use Rattle.std.proofs.lemmas.List.Elements.{All-nil, All-cons, All-head, All-tail}
use Rattle.outside_io.specs.Files.{Files, Ascend}
use Rattle.set_loader.specs.declared.file.File.{File}
use Rattle.instrument_set.proofs.PathOrder as order
use Rattle.command_parts.specs.Folders.{ClassFiles, is_class_path}
use Rattle.command_parts.specs.Writing.{placed, with_files}
use Rattle.command_parts.proofs.WrittenFiles as files_of
use Rattle.phosphor_top.specs.Commands.{Paths}
use Rattle.phosphor_top.specs.Instrument.{Instruments}

-- what holds of each path of files holds of the path of each file
each_path : (P : List ℕ → Type 0) (list : List File) → All P (map (λ (file : File). file.path) list) → All (λ (file : File). P file.path) list
each_path P [] all = All-nil (λ (file : File). P file.path)
each_path P (file ∷ list) all =
    All-cons (λ (f : File). P f.path) file list (All-head P file.path (map (λ (f : File). f.path) list) all) (each_path P list (All-tail P file.path (map (λ (f : File). f.path) list) all))

abbrev IsClassPath : List ℕ → Type 0
IsClassPath path = is_class_path path ≡ true

-- they are the files that were written
pub found : (paths : Paths) (old : Files) (list : List File) → Instruments paths old list → ClassFiles (with_files old (map (placed paths.output) list)) paths.output list
found paths old list is =
    let ascend : Ascend (map (λ (file : File). file.path) list) = subst Ascend (sym is.made.at) (order.ascend is.set is.made.built) in
    let pass : All IsClassPath (map (λ (file : File). file.path) list) = subst (All IsClassPath) (sym is.made.at) (order.class_paths is.set) in
    files_of.written old paths.output list is.ready.empty ascend (each_path IsClassPath list pass)
