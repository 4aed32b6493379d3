-- The load of a folder has one outcome.
use Rattle.std.proofs.Common.{◌≡◌, ◌∙◌, ℕ, List, sym, ap, subst}
use Rattle.outside_io.specs.Files.{Files}
use Rattle.class_model.specs.declared.class.ClassDef.{ClassDef}
use Rattle.profile_check.specs.declared.profile.Names.{Names}
use Rattle.set_loader.specs.declared.file.File.{File}
use Rattle.set_loader.specs.Loads.{Loads}
use Rattle.set_loader.proofs.Refusals.{loads_or_refused, one_refusal, one_set}
use Rattle.command_parts.specs.LoadLines.{load_line}
use Rattle.command_parts.specs.declared.stop.Stop.{Stop}
use Rattle.command_parts.specs.declared.stop.Stop.TheVariants.{ListFault, ReadFault, TooManyFiles, FileTooLong, NotLoaded, Memory}
use Rattle.phosphor_top.specs.Loading.{LoadsFrom, TellsLoad, IsNotLoaded, RefusesLoad}
use Rattle.phosphor_top.specs.Verdict.{IsVerdict}
use Rattle.phosphor_top.proofs.FolderOnce.{one_list, few_or_many, read_or_long, one_long}

-- the set that a folder loads as is one
pub one_loaded : (names : Names) (files : Files) (dir : List ℕ) (s t : List ClassDef) → LoadsFrom names files dir s → LoadsFrom names files dir t → s ≡ t
one_loaded names files dir s t a b =
    let same : a.list ≡ b.list = one_list files dir a.list b.list a.read b.read in
    one_set names b.list s t (subst (λ (fs : List File). Loads names fs s) same a.loads) b.loads

loads_or_told : (names : Names) (files : Files) (dir line : List ℕ) (set : List ClassDef) → LoadsFrom names files dir set → IsNotLoaded names files dir line → ⊥
loads_or_told names files dir line set loads told =
    let same : loads.list ≡ told.list = one_list files dir loads.list told.list loads.read told.read in
    loads_or_refused names told.list set told.tells.stop (subst (λ (fs : List File). Loads names fs set) same loads.loads) told.tells.due told.tells.refused

-- a folder loads, or it does not
pub load_or_not : (names : Names) (files : Files) (dir : List ℕ) (set : List ClassDef) (stop : Stop) → IsVerdict stop → LoadsFrom names files dir set → RefusesLoad names files dir stop → ⊥
load_or_not names files dir set (ListFault at) is loads refuses = is
load_or_not names files dir set (ReadFault at) is loads refuses = is
load_or_not names files dir set (TooManyFiles at) is loads refuses = few_or_many files dir loads.read.paths loads.read.few refuses.1
load_or_not names files dir set (FileTooLong at) is loads refuses = read_or_long files dir at loads.list loads.read refuses
load_or_not names files dir set (NotLoaded at) is loads refuses = loads_or_told names files dir at set loads refuses
load_or_not names files dir set Memory is loads refuses = is
load_or_not names files dir set _ is loads refuses = refuses

one_told : (names : Names) (list : List File) (p q : List ℕ) → TellsLoad names list p → TellsLoad names list q → p ≡ q
one_told names list p q a b =
    let stop : a.stop ≡ b.stop = one_refusal names list a.stop b.stop a.due b.due a.refused b.refused in
    a.line_is ∙ ap (load_line list) stop ∙ sym b.line_is

one_line : (names : Names) (files : Files) (dir p q : List ℕ) → IsNotLoaded names files dir p → IsNotLoaded names files dir q → p ≡ q
one_line names files dir p q a b =
    let same : a.list ≡ b.list = one_list files dir a.list b.list a.read b.read in
    one_told names b.list p q (subst (λ (fs : List File). TellsLoad names fs p) same a.tells) b.tells

-- a folder that holds too many files has no other refusal, and so on, kind by kind
many_once : (names : Names) (files : Files) (dir a : List ℕ) (other : Stop) → IsVerdict other → RefusesLoad names files dir (TooManyFiles a) → RefusesLoad names files dir other → TooManyFiles a ≡ other
many_once names files dir a (TooManyFiles b) also x y = ap TooManyFiles (x.0 ∙ sym y.0)
many_once names files dir a (FileTooLong b) also x y = absurd (few_or_many files dir y.paths y.few x.1)
many_once names files dir a (NotLoaded b) also x y = absurd (few_or_many files dir y.read.paths y.read.few x.1)
many_once names files dir a (ListFault b) also x y = absurd also
many_once names files dir a (ReadFault b) also x y = absurd also
many_once names files dir a Memory also x y = absurd also
many_once names files dir a _ also x y = absurd y

long_once : (names : Names) (files : Files) (dir a : List ℕ) (other : Stop) → IsVerdict other → RefusesLoad names files dir (FileTooLong a) → RefusesLoad names files dir other → FileTooLong a ≡ other
long_once names files dir a (TooManyFiles b) also x y = absurd (few_or_many files dir x.paths x.few y.1)
long_once names files dir a (FileTooLong b) also x y = ap FileTooLong (one_long files dir a b x y)
long_once names files dir a (NotLoaded b) also x y = absurd (read_or_long files dir a y.list y.read x)
long_once names files dir a (ListFault b) also x y = absurd also
long_once names files dir a (ReadFault b) also x y = absurd also
long_once names files dir a Memory also x y = absurd also
long_once names files dir a _ also x y = absurd y

told_once : (names : Names) (files : Files) (dir a : List ℕ) (other : Stop) → IsVerdict other → RefusesLoad names files dir (NotLoaded a) → RefusesLoad names files dir other → NotLoaded a ≡ other
told_once names files dir a (TooManyFiles b) also x y = absurd (few_or_many files dir x.read.paths x.read.few y.1)
told_once names files dir a (FileTooLong b) also x y = absurd (read_or_long files dir b x.list x.read y)
told_once names files dir a (NotLoaded b) also x y = ap NotLoaded (one_line names files dir a b x y)
told_once names files dir a (ListFault b) also x y = absurd also
told_once names files dir a (ReadFault b) also x y = absurd also
told_once names files dir a Memory also x y = absurd also
told_once names files dir a _ also x y = absurd y

-- a folder that does not load has one refusal
pub load_once : (names : Names) (files : Files) (dir : List ℕ) (stop other : Stop) → IsVerdict stop → IsVerdict other → RefusesLoad names files dir stop → RefusesLoad names files dir other → stop ≡ other
load_once names files dir (TooManyFiles a) other is also x y = many_once names files dir a other also x y
load_once names files dir (FileTooLong a) other is also x y = long_once names files dir a other also x y
load_once names files dir (NotLoaded a) other is also x y = told_once names files dir a other also x y
load_once names files dir (ListFault a) other is also x y = absurd is
load_once names files dir (ReadFault a) other is also x y = absurd is
load_once names files dir Memory other is also x y = absurd is
load_once names files dir _ other is also x y = absurd x
