-- Files that are written one after the other.
use Rattle.std.proofs.Common.{◌≡◌, ◌∙◌, ℕ, ◌+◌, ◌<◌, List, [], ◌∷◌, ◌++◌, length, get_or, take, Option, Some, None, refl, sym, ap}
use Rattle.std.specs.Prelude.{false, Result, Ok, Err}
use Rattle.std.specs.Result.{is_err}
use Rattle.std.specs.FinMap.{insert}
use Rattle.std.proofs.lemmas.List.{take_more}
use Rattle.outside_io.specs.Files as device
use Rattle.outside_io.specs.Files.{Files}
use Rattle.outside_io.specs.declared.stop.IoStop.{IoStop}
use Rattle.set_loader.specs.declared.file.File.{File}
use Rattle.command_parts.specs.Writing.{with_files, WritesFront}

with_files-push : (files : Files) (list : List File) (file : File) → with_files files (list ++ file ∷ []) ≡ insert (with_files files list) file.path file.bytes
with_files-push files [] file = refl
with_files-push files (f ∷ list) file = with_files-push (insert files f.path f.bytes) list file

pub front_on : (a b c : Option Files) (list : List File) (i : ℕ) (file : File) (r : Result (Unit {0}) IoStop) → i < length list → file ≡ get_or list i file → is_err r ≡ false
    → WritesFront a b (take i list) None → device.Writes b c file.path file.bytes r → WritesFront a c (take (i + 1) list) None
front_on None b c list i file r within is ok front wrote = tt
front_on (Some a) None c list i file r within is ok front wrote = absurd front
front_on (Some a) (Some b) None list i file r within is ok front wrote = absurd wrote
front_on (Some a) (Some b) (Some c) list i file (Ok done) within is ok front wrote =
    wrote ∙ ap (λ (m : Files). insert m file.path file.bytes) front ∙ sym (with_files-push a (take i list) file)
    ∙ ap (λ (f : File). with_files a (take i list ++ f ∷ [])) is ∙ ap (with_files a) (sym (take_more list i file within))
front_on (Some a) (Some b) (Some c) list i file (Err stop) within is ok front wrote = cc
