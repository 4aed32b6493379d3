-- Files of classes, one for each.
use Rattle.std.proofs.Common.{◌≡◌, ◌∙◌, ℕ, ◌+◌, ◌<◌, ◌≤◌, List, [], ◌∷◌, ◌++◌, length, get_or, take, refl, sym, ap, subst}
use Rattle.std.specs.Prelude.{map}
use Rattle.std.specs.List.{AllZip}
use Rattle.std.proofs.lemmas.List.{take_all, take_more}
use Rattle.class_model.specs.declared.class.ClassDef.{ClassDef}
use Rattle.set_loader.specs.declared.file.File.{File}
use Rattle.set_loader.specs.Loads.{IsFileOf}
use Rattle.instrument_set.specs.ClassFile.{IsClassFile}
use Rattle.instrument_set.specs.WrittenSet.{path_of}

push : (files : List File) (classes : List ClassDef) (file : File) (class : ClassDef) → AllZip IsClassFile files classes → IsClassFile file class
    → AllZip IsClassFile (files ++ file ∷ []) (classes ++ class ∷ [])
push [] [] file class so_far is = (is, tt)
push [] (c ∷ cs) file class so_far is = absurd so_far
push (f ∷ fs) [] file class so_far is = absurd so_far
push (f ∷ fs) (c ∷ cs) file class so_far is = (so_far.0, push fs cs file class so_far.1 is)

-- one file more
pub one_more : (files new : List File) (classes : List ClassDef) (i : ℕ) (file : File) (class : ClassDef) → i < length classes → class ≡ get_or classes i class
    → AllZip IsClassFile files (take i classes) → IsClassFile file class → new ≡ files ++ file ∷ [] → AllZip IsClassFile new (take (i + 1) classes)
one_more files new classes i file class lt at so_far is pushed =
    let more : take (i + 1) classes ≡ take i classes ++ class ∷ [] = take_more classes i class lt ∙ ap (λ (c : ClassDef). take i classes ++ c ∷ []) (sym at) in
    subst (λ (fs : List File). AllZip IsClassFile fs (take (i + 1) classes)) (sym pushed)
    (subst (λ (cs : List ClassDef). AllZip IsClassFile (files ++ file ∷ []) cs) (sym more) (push files (take i classes) file class so_far is))

pub all_done : (files : List File) (classes : List ClassDef) (i : ℕ) → length classes ≤ i → AllZip IsClassFile files (take i classes) → AllZip IsClassFile files classes
all_done files classes i le so_far = subst (λ (cs : List ClassDef). AllZip IsClassFile files cs) (take_all i classes le) so_far

-- what such files say
pub paths_are : (files : List File) (classes : List ClassDef) → AllZip IsClassFile files classes → map (λ (f : File). f.path) files ≡ map (λ (c : ClassDef). path_of c.name) classes
paths_are [] [] is = refl
paths_are [] (c ∷ cs) is = absurd is
paths_are (f ∷ fs) [] is = absurd is
paths_are (f ∷ fs) (c ∷ cs) is = let rest = paths_are fs cs is.1 in let here : f.path ≡ path_of c.name = is.0.0 in cc

pub files_are : (files : List File) (classes : List ClassDef) → AllZip IsClassFile files classes → AllZip IsFileOf files classes
files_are [] [] is = tt
files_are [] (c ∷ cs) is = absurd is
files_are (f ∷ fs) [] is = absurd is
files_are (f ∷ fs) (c ∷ cs) is = (is.0.1, files_are fs cs is.1)
