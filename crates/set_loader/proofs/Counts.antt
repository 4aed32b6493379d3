-- Classes that were read have the counts that classes of a set can have, and their code is such as the check of types takes.
use Rattle.std.proofs.Common.{ℕ, zero, suc, ◌<◌, ◌≤◌, List, [], ◌∷◌, length, map, get_or, Option, Some, None, arith}
use Rattle.std.specs.Prelude.{pos, All, IfSome}
use Rattle.std.proofs.lemmas.Int.{ints}
use Rattle.std.proofs.lemmas.List.Elements.{All-weaker}
use Rattle.class_model.specs.declared.class.Frame.{Frame}
use Rattle.class_model.specs.declared.class.CodeDef.{CodeDef}
use Rattle.class_model.specs.declared.class.MethodDef.{MethodDef}
use Rattle.class_model.specs.declared.class.ClassDef.{ClassDef}
use Rattle.class_shape.specs.ShapedInsn.{Ascend, AscendAbove}
use Rattle.class_shape.specs.Shaped.{Shaped, ShapedCode, ShapedMethod}
use Rattle.class_shape.specs.Shaped as shape
use Rattle.profile_check.specs.declared.profile.Names.{Names}
use Rattle.profile_check.specs.Profile as profile
use Rattle.set_lookups.specs.Counts.{IsCounted, IsCodeCounted}
use Rattle.verifier.specs.Set.{place_of, IsCheckable, IsCheckableClass}
use Rattle.set_loader.proofs.Files.{IsShapedNamed}
use Rattle.set_loader.proofs.Profiles.{class_named}

-- ---- a class that was read

code_counted : (code : Option CodeDef) → IfSome code profile.IsCodeCounted → IfSome code IsCodeCounted
code_counted None h = tt
code_counted (Some code) h = record { insns = h.insns; handlers = h.handlers }

pub class_counted : (class : ClassDef) → profile.IsCounted class → IsCounted class
class_counted class h = record {
  interfaces = h.interfaces;
  fields = h.fields;
  methods = h.methods;
  codes = All-weaker (λ (m : MethodDef). IfSome m.code profile.IsCodeCounted) (λ m. IfSome m.code IsCodeCounted) (λ m. code_counted m.code) class.methods h.codes;
}

-- frames that ascend are in order
above_all : (last : ℕ) (rows : List (ℕ × Frame)) → AscendAbove (pos last) (map shape.place_of rows) → (k : ℕ) (d : ℕ × Frame) → k < length rows → last < place_of (get_or rows k d)
above_all last [] up k d lt = absurd (omega (arith, lt))
above_all last (row ∷ rows) up zero d lt = omega (arith, ints, up.0)
above_all last (row ∷ rows) up (suc k) d lt =
    let here : last < place_of row = omega (arith, ints, up.0) in
    let rest : place_of row < place_of (get_or rows k d) = above_all (place_of row) rows up.1 k d (omega (arith, lt)) in
    omega (arith, here, rest)

tail_ascends : (row : ℕ × Frame) (rows : List (ℕ × Frame)) → Ascend (map shape.place_of (row ∷ rows)) → Ascend (map shape.place_of rows)
tail_ascends row [] up = tt
tail_ascends row (next ∷ rows) up = up.1

in_order : (rows : List (ℕ × Frame)) → Ascend (map shape.place_of rows) → (i j : ℕ) (d : ℕ × Frame) → i ≤ j → j < length rows → place_of (get_or rows i d) ≤ place_of (get_or rows j d)
in_order [] up i j d le lt = absurd (omega (arith, lt))
in_order (row ∷ rows) up zero zero d le lt = omega arith
in_order (row ∷ rows) up zero (suc j) d le lt = let above = above_all row.0 rows up j d (omega (arith, lt)) in omega (arith, above)
in_order (row ∷ rows) up (suc i) zero d le lt = absurd (omega (arith, le))
in_order (row ∷ rows) up (suc i) (suc j) d le lt = in_order rows (tail_ascends row rows up) i j d (omega (arith, le)) (omega (arith, lt))

code_checkable : (code : Option CodeDef) → IfSome code profile.IsCodeCounted → IfSome code ShapedCode → IfSome code IsCheckable
code_checkable None counted shaped = tt
code_checkable (Some code) counted shaped = record { counted = counted.insns; ordered = in_order code.frames shaped.ascend }

class_checkable : (class : ClassDef) → profile.IsCounted class → Shaped class → IsCheckableClass class
class_checkable class counted shaped = record {
  methods = counted.methods;
  codes = λ k d lt. code_checkable (get_or class.methods k d).code (counted.codes k d lt) (shaped.methods k d lt).code;
}

pub classes_checkable : (names : Names) (classes : List ClassDef) → All profile.IsCounted classes → All IsShapedNamed classes → All (profile.Profile names) classes → All IsCheckableClass classes
classes_checkable names classes counted shaped in_profile = λ k d lt.
    class_checkable (get_or classes k d) (counted k d lt) (shaped k d lt (class_named names (get_or classes k d) (in_profile k d lt)))
