-- What is known of files that were read, one class each.
use Rattle.std.proofs.Common.{◌≡◌, ◌∙◌, ℕ, ◌+◌, ◌<◌, List, [], ◌∷◌, ◌++◌, length, take, get_or, refl, sym, ap, subst}
use Rattle.std.specs.Prelude.{All}
use Rattle.std.specs.List.{AllZip}
use Rattle.std.proofs.lemmas.List.{take_more}
use Rattle.std.proofs.lemmas.List.Elements.{All-nil, All-cons}
use Rattle.std.proofs.lemmas.Option.{slice_get_read}
use Rattle.std.proofs.lemmas.Slice.Zip.{all_zipped_more}
use Rattle.class_model.specs.declared.class.ClassDef.{ClassDef}
use Rattle.class_model.specs.Descriptor.{IsClassName}
use Rattle.class_shape.specs.Shaped.{Shaped}
use Rattle.profile_check.specs.Profile.{IsCounted}
use Rattle.set_loader.specs.declared.file.File.{File}
use Rattle.set_loader.specs.declared.stop.LoadStop.{LoadStop}
use Rattle.set_loader.specs.declared.stop.LoadStop.TheVariants.{Bad, Profile, Set, Unverified, Memory}
use Rattle.set_loader.specs.Loads.{IsFileOf, Decodes, IsFirstBad}
use Rattle.set_loader.specs.Passes.{IsReadFrom, RefusesFile, RefusesDecoding}
use Rattle.set_loader.proofs.Reading.{one_class}

-- one class more
pub one_more : (files : List File) (classes new : List ClassDef) (i : ℕ) (file : File) (class : ClassDef) → i < length files → file ≡ get_or files i file
    → AllZip IsReadFrom (take i files) classes → IsReadFrom file class → new ≡ classes ++ class ∷ [] → AllZip IsReadFrom (take (i + 1) files) new
one_more files classes new i file class lt at so_far is pushed =
    let more : take (i + 1) files ≡ take i files ++ file ∷ [] = take_more files i file lt ∙ ap (λ (f : File). take i files ++ f ∷ []) (sym at) in
    subst (λ (cs : List ClassDef). AllZip IsReadFrom (take (i + 1) files) cs) (sym pushed)
    (subst (λ (fs : List File). AllZip IsReadFrom fs (classes ++ class ∷ [])) (sym more) (all_zipped_more IsReadFrom (take i files) classes file class so_far is))

-- ---- what the classes of files are

pub classes_read : (files : List File) (classes : List ClassDef) → AllZip IsReadFrom files classes → AllZip IsFileOf files classes
classes_read [] [] read = tt
classes_read [] (c ∷ cs) read = absurd read
classes_read (f ∷ fs) [] read = absurd read
classes_read (f ∷ fs) (c ∷ cs) read = (read.0.is, classes_read fs cs read.1)

pub classes_counted : (files : List File) (classes : List ClassDef) → AllZip IsReadFrom files classes → All IsCounted classes
classes_counted [] [] read = All-nil IsCounted
classes_counted [] (c ∷ cs) read = absurd read
classes_counted (f ∷ fs) [] read = absurd read
classes_counted (f ∷ fs) (c ∷ cs) read = All-cons IsCounted c cs read.0.counted (classes_counted fs cs read.1)

-- a class has the shape that its bytes give, where its own name is one that a type can have
abbrev pub IsShapedNamed : ClassDef → Type 0
IsShapedNamed class = IsClassName class.name → Shaped class

pub classes_shaped : (files : List File) (classes : List ClassDef) → AllZip IsReadFrom files classes → All IsShapedNamed classes
classes_shaped [] [] read = All-nil IsShapedNamed
classes_shaped [] (c ∷ cs) read = absurd read
classes_shaped (f ∷ fs) [] read = absurd read
classes_shaped (f ∷ fs) (c ∷ cs) read = All-cons IsShapedNamed c cs read.0.shaped (classes_shaped fs cs read.1)

pub decode_all : (files : List File) (classes : List ClassDef) → AllZip IsFileOf files classes → All Decodes files
decode_all [] classes read = All-nil Decodes
decode_all (f ∷ fs) [] read = absurd read
decode_all (f ∷ fs) (c ∷ cs) read = All-cons Decodes f fs (c, read.0) (decode_all fs cs read.1)

-- files have one list of classes
pub one_list : (files : List File) (classes others : List ClassDef) → AllZip IsFileOf files classes → AllZip IsFileOf files others → classes ≡ others
one_list [] [] [] read also = refl
one_list [] (c ∷ cs) others read also = absurd read
one_list [] [] (d ∷ ds) read also = absurd also
one_list (f ∷ fs) [] others read also = absurd read
one_list (f ∷ fs) (c ∷ cs) [] read also = absurd also
one_list (f ∷ fs) (c ∷ cs) (d ∷ ds) read also =
    let head : c ≡ d = one_class f.bytes c d read.0 also.0 in
    let tail : cs ≡ ds = one_list fs cs ds read.1 also.1 in
    cc

-- ---- the first file that is refused

pub refused_at : (files : List File) (classes : List ClassDef) (i : ℕ) (file : File) (stop : LoadStop) → i < length files → file ≡ get_or files i file
    → AllZip IsReadFrom (take i files) classes → RefusesFile i file stop → RefusesDecoding files stop
refused_at files classes i file (Bad number place kind) within at read h =
    subst (λ (n : ℕ). IsFirstBad files n place kind) (sym h.0)
    (record { file = file; stands = slice_get_read files (length files) i file refl within at; earlier = decode_all (take i files) classes (classes_read (take i files) classes read); bad = h.1 })
refused_at files classes i file (Profile number fault) within at read h = absurd h
refused_at files classes i file (Set fault) within at read h = absurd h
refused_at files classes i file (Unverified class name desc at_insn rule) within at read h = absurd h
refused_at files classes i file Memory within at read h = tt
