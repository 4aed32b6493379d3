-- Types read unit by unit.
use Rattle.std.proofs.Common.{◌≡◌, ◌≢◌, ◌∙◌, ℕ, zero, suc, ◌+◌, ◌<◌, Bool, true, false, List, [], ◌∷◌, ◌++◌, length, drop, replicate, Option, Some, None, Result, Ok, Err, refl, sym, ap, subst, append_assoc, arith, add-zero, zero-add, get_or}
use Rattle.std.specs.Prelude.{All, ◌==◌, ◌&&◌, ◌||◌, nat_lt, if◌then◌else◌}
use Rattle.std.proofs.lemmas.Bool.{lt-ltb, eqb-true, eqb-false, ne_eqb, ltb-true, and_parts, cond_both}
use Rattle.std.proofs.lemmas.List.{append-nil}
use Rattle.std.proofs.lemmas.List.Elements.{All-nil, All-cons, All-append, All-head, All-tail}
use Rattle.std.proofs.lemmas.Grind.{replicate_next}
use Rattle.class_model.specs.declared.types.Primitive.{Primitive}
use Rattle.class_model.specs.declared.types.Primitive.TheVariants.{Boolean, Byte, Char, Short, Int, Long, Float, Double}
use Rattle.class_model.specs.declared.types.BaseType.{BaseType}
use Rattle.class_model.specs.declared.types.BaseType.TheVariants as bases
use Rattle.class_model.specs.declared.types.JType.{JType}
use Rattle.class_model.specs.Descriptor.{letter_of, base_descriptor, field_descriptor, IsClassName, IsBaseType, IsFieldType, SpellsField}
use Rattle.class_model.specs.Reading.{primitive_of, first_primitive, Part, Dimensions, InName, Next, Stuck, More, Whole, leaf, named, ends_name, part_step, Rest, onward, front, entering, read, going, ended, FieldStage, InField, FieldRead, field_step, field_end, read_field}
use Rattle.class_model.proofs.Machine.{Exact, exact}

pub primitive_of-letter_of : (primitive : Primitive) → primitive_of (letter_of primitive) ≡ Some primitive
primitive_of-letter_of Boolean = refl
primitive_of-letter_of Byte = refl
primitive_of-letter_of Char = refl
primitive_of-letter_of Short = refl
primitive_of-letter_of Int = refl
primitive_of-letter_of Long = refl
primitive_of-letter_of Float = refl
primitive_of-letter_of Double = refl

abbrev pub IsLetter : ℕ → Option Primitive → Type 0
IsLetter unit None = Unit {0}
IsLetter unit (Some primitive) = letter_of primitive ≡ unit

pub letter_of-primitive_of : (unit : ℕ) → IsLetter unit (primitive_of unit)
letter_of-primitive_of unit =
    cond_both (unit == 66) (Some Byte) _ (IsLetter unit) (λ t. sym (eqb-true unit 66 t)) (λ _.
    cond_both (unit == 67) (Some Char) _ (IsLetter unit) (λ t. sym (eqb-true unit 67 t)) (λ _.
    cond_both (unit == 68) (Some Double) _ (IsLetter unit) (λ t. sym (eqb-true unit 68 t)) (λ _.
    cond_both (unit == 70) (Some Float) _ (IsLetter unit) (λ t. sym (eqb-true unit 70 t)) (λ _.
    cond_both (unit == 73) (Some Int) _ (IsLetter unit) (λ t. sym (eqb-true unit 73 t)) (λ _.
    cond_both (unit == 74) (Some Long) _ (IsLetter unit) (λ t. sym (eqb-true unit 74 t)) (λ _.
    cond_both (unit == 83) (Some Short) _ (IsLetter unit) (λ t. sym (eqb-true unit 83 t)) (λ _.
    cond_both (unit == 90) (Some Boolean) _ (IsLetter unit) (λ t. sym (eqb-true unit 90 t)) (λ _.
    tt))))))))

-- the text that a part stands for
abbrev pub part_text : Part → List ℕ
part_text (Dimensions depth) = replicate depth 91
part_text (InName depth name) = replicate depth 91 ++ 76 ∷ name

pub record IsNamePart (name : List ℕ) : Type 0 where
  pub no_end : All (λ unit. unit ≢ 59) name
  pub no_array : All (λ unit. unit ≢ 91) name

abbrev pub FinePart : Part → Type 0
FinePart (Dimensions depth) = depth < 256
FinePart (InName depth name) = (depth < 256) × IsNamePart name

-- what a step makes of a part
abbrev pub Stands : Part → ℕ → Next → Type 0
Stands part unit Stuck = Unit {0}
Stands part unit (More more) = FinePart more × (part_text more ≡ part_text part ++ unit ∷ [])
Stands part unit (Whole ty) = IsFieldType ty × (field_descriptor ty ≡ part_text part ++ unit ∷ [])

nonempty : (name : List ℕ) → name ++ 120 ∷ [] ≡ [] → ⊥
nonempty [] e = cc
nonempty (u ∷ us) e = cc

stands_leaf : (depth unit : ℕ) (p : Option Primitive) → depth < 256 → IsLetter unit p → Stands (Dimensions depth) unit (leaf depth p)
unfolding field_descriptor
stands_leaf depth unit None h e = tt
stands_leaf depth unit (Some p) h e = (record { dimensions = h; base = tt }, ap (λ u. replicate depth 91 ++ u ∷ []) e)

stands_name : (depth unit : ℕ) (name : List ℕ) → depth < 256 → IsNamePart name → unit ≡ 59 → Stands (InName depth name) unit (named depth name)
unfolding field_descriptor
stands_name depth unit [] h n e = tt
stands_name depth unit (u ∷ us) h n e = (record { dimensions = h; base = record { some_unit = λ e. cc; no_end = n.no_end; no_array = n.no_array } }, ap (λ (v : ℕ). replicate depth 91 ++ ((76 ∷ u ∷ us) ++ v ∷ [])) (sym e) ∙ sym (append_assoc (replicate depth 91) (76 ∷ u ∷ us) (unit ∷ [])))

longer_name : (depth unit : ℕ) (name : List ℕ) → depth < 256 → IsNamePart name → unit ≢ 59 → unit ≢ 91 → Stands (InName depth name) unit (More (InName depth (name ++ unit ∷ [])))
longer_name depth unit name h n a b = (
  (
    h,
    record {
      no_end = All-append (λ u. u ≢ 59) name (unit ∷ []) n.no_end (All-cons (λ u. u ≢ 59) unit [] a (All-nil (λ u. u ≢ 59)));
      no_array = All-append (λ u. u ≢ 91) name (unit ∷ []) n.no_array (All-cons (λ u. u ≢ 91) unit [] b (All-nil (λ u. u ≢ 91)));
    },
  ),
  sym (append_assoc (replicate depth 91) (76 ∷ name) (unit ∷ [])),
)

pub part_stands : (part : Part) (unit : ℕ) → FinePart part → Stands part unit (part_step part unit)
part_stands (Dimensions depth) unit h =
    cond_both ((unit == 91) && nat_lt depth 255) (More (Dimensions (depth + 1))) _ (Stands (Dimensions depth) unit)
    (λ t. let both = and_parts (unit == 91) (nat_lt depth 255) t in
    let is = eqb-true unit 91 both.0 in
    (omega (arith, ltb-true depth 255 both.1), replicate_next depth 91 ∙ ap (λ (u : ℕ). replicate depth 91 ++ u ∷ []) (sym is)))
    (λ _. cond_both (unit == 76) (More (InName depth [])) _ (Stands (Dimensions depth) unit)
    (λ t. ((h, record { no_end = All-nil (λ u. u ≢ 59); no_array = All-nil (λ u. u ≢ 91) }), ap (λ (u : ℕ). replicate depth 91 ++ u ∷ []) (sym (eqb-true unit 76 t))))
    (λ _. stands_leaf depth unit (primitive_of unit) h (letter_of-primitive_of unit)))
part_stands (InName depth name) unit h =
    cond_both (unit == 59) (named depth name) _ (Stands (InName depth name) unit)
    (λ t. stands_name depth unit name h.0 h.1 (eqb-true unit 59 t))
    (λ a. cond_both (unit == 91) Stuck (More (InName depth (name ++ unit ∷ []))) (Stands (InName depth name) unit)
    (λ _. tt)
    (λ b. longer_name depth unit name h.0 h.1 (eqb-false unit 59 a) (eqb-false unit 91 b)))

-- some type goes on from a part
pub record Ending (part : Part) : Type 0 where
  pub rest : List ℕ
  pub ty : JType
  pub fine : IsFieldType ty
  pub text : field_descriptor ty ≡ part_text part ++ rest

pub part_ends : (part : Part) → FinePart part → Ending part
unfolding field_descriptor
part_ends (Dimensions depth) h = record { rest = 73 ∷ []; ty = record { depth = depth; base = bases.Primitive Int }; fine = record { dimensions = h; base = tt }; text = refl }
part_ends (InName depth name) h =
    let longer = longer_name depth 120 name h.0 h.1 (λ e. omega arith) (λ e. omega arith) in
    record {
      rest = 120 ∷ 59 ∷ [];
      ty = record { depth = depth; base = bases.Class (name ++ 120 ∷ []) };
      fine = record { dimensions = h.0; base = record { some_unit = λ e. nonempty name e; no_end = longer.0.1.no_end; no_array = longer.0.1.no_array } };
      text = ap (λ (xs : List ℕ). replicate depth 91 ++ 76 ∷ xs) (append_assoc name (120 ∷ []) (59 ∷ [])) ∙ sym (append_assoc (replicate depth 91) (76 ∷ name) (120 ∷ 59 ∷ []));
    }

abbrev units_of : Result (JType × Rest) ℕ → List ℕ
units_of (Ok found) = found.1.units
units_of (Err place) = []

-- ---- one step of reading a type at the front

pub front_stuck : (part : Part) (at unit : ℕ) (units : List ℕ) → part_step part unit ≡ Stuck → front part at (unit ∷ units) ≡ Err at
unfolding front
front_stuck part at unit units e = ap (λ next. onward next at (λ more. front more (at + 1) units) (λ ty. Ok (ty, record { at = at + 1; units = units }))) e

pub front_more : (part more : Part) (at unit : ℕ) (units : List ℕ) → part_step part unit ≡ More more → front part at (unit ∷ units) ≡ front more (at + 1) units
unfolding front
front_more part more at unit units e = ap (λ next. onward next at (λ more. front more (at + 1) units) (λ ty. Ok (ty, record { at = at + 1; units = units }))) e

pub front_whole : (part : Part) (ty : JType) (at unit : ℕ) (units : List ℕ) → part_step part unit ≡ Whole ty → front part at (unit ∷ units) ≡ Ok (ty, record { at = at + 1; units = units })
unfolding front
front_whole part ty at unit units e = ap (λ next. onward next at (λ more. front more (at + 1) units) (λ ty. Ok (ty, record { at = at + 1; units = units }))) e

pub front_end : (part : Part) (at : ℕ) → front part at [] ≡ Err at
unfolding front
front_end part at = refl

pub bracket_step : (depth : ℕ) → depth < 255 → part_step (Dimensions depth) 91 ≡ More (Dimensions (depth + 1))
bracket_step depth h = ap (λ (b : Bool). if b then More (Dimensions (depth + 1)) else Stuck) (lt-ltb depth 255 h)

pub front_bracket : (depth at : ℕ) (units : List ℕ) → depth < 255 → front (Dimensions depth) at (91 ∷ units) ≡ front (Dimensions (depth + 1)) (at + 1) units
front_bracket depth at units h = front_more (Dimensions depth) (Dimensions (depth + 1)) at 91 units (bracket_step depth h)

-- a unit other than '[', or any unit after 255 of these
pub base_step : (depth unit : ℕ) → (depth < 255 → unit ≢ 91) → part_step (Dimensions depth) unit ≡ (if unit == 76 then More (InName depth []) else leaf depth (primitive_of unit))
base_step depth unit h =
    cond_both ((unit == 91) && nat_lt depth 255) (More (Dimensions (depth + 1))) (if unit == 76 then More (InName depth []) else leaf depth (primitive_of unit)) (λ next. next ≡ (if unit == 76 then More (InName depth []) else leaf depth (primitive_of unit)))
    (λ t. let both = and_parts (unit == 91) (nat_lt depth 255) t in absurd (h (ltb-true depth 255 both.1) (eqb-true unit 91 both.0)))
    (λ _. refl)

or_false : (a b : Bool) → a ≡ false → b ≡ false → (a || b) ≡ false
or_false true b e f = absurd cc
or_false false b e f = f

neither : {A : Type 0} (a b : Bool) (x y z : A) → (a || b) ≡ false → (if a then x else (if b then y else z)) ≡ z
neither true b x y z e = absurd cc
neither false true x y z e = absurd cc
neither false false x y z e = refl

pub name_step : (depth : ℕ) (name : List ℕ) (unit : ℕ) → ends_name unit ≡ false → part_step (InName depth name) unit ≡ More (InName depth (name ++ unit ∷ []))
name_step depth name unit e = neither (unit == 59) (unit == 91) (named depth name) Stuck (More (InName depth (name ++ unit ∷ []))) e

pub end_step : (depth : ℕ) (name : List ℕ) → name ≢ [] → part_step (InName depth name) 59 ≡ Whole (record { depth = depth; base = bases.Class name })
end_step depth [] h = absurd (h refl)
end_step depth (unit ∷ units) h = refl

-- ---- the text of each type is read

-- '[' after '[', as long as there are at most 255
more_dimensions : (count depth at : ℕ) (units : List ℕ) → depth + count < 256 → (after : ℕ) × (front (Dimensions depth) at (replicate count 91 ++ units) ≡ front (Dimensions (depth + count)) after units)
more_dimensions zero depth at units h = (at, ap (λ d. front (Dimensions d) at units) (sym (add-zero depth)))
more_dimensions (suc count) depth at units h =
    let rest = more_dimensions count (depth + 1) (at + 1) units (omega arith) in
    let sum : depth + 1 + count ≡ depth + suc count = omega arith in
    (rest.0, front_more (Dimensions depth) (Dimensions (depth + 1)) at 91 (replicate count 91 ++ units) (bracket_step depth (omega arith)) ∙ rest.1 ∙ ap (λ d. front (Dimensions d) rest.0 units) sum)

abbrev pub AllUnits : List ℕ → Type 0
AllUnits name = All (λ unit. ends_name unit ≡ false) name

-- the units of a class name, one after the other
pub more_name : (units : List ℕ) (depth at : ℕ) (name rest : List ℕ) → AllUnits units → front (InName depth name) at (units ++ rest) ≡ front (InName depth (name ++ units)) (at + length units) rest
more_name [] depth at name rest h = ap (λ k. front (InName depth name) k rest) (sym (add-zero at)) ∙ ap (λ (xs : List ℕ). front (InName depth xs) (at + 0) rest) (sym (append-nil name))
more_name (unit ∷ units) depth at name rest h =
    let fine = All-head (λ unit. ends_name unit ≡ false) unit units h in
    let others = All-tail (λ unit. ends_name unit ≡ false) unit units h in
    let sum : at + 1 + length units ≡ at + suc (length units) = omega arith in
    front_more (InName depth name) (InName depth (name ++ unit ∷ [])) at unit (units ++ rest) (name_step depth name unit fine)
    ∙ more_name units depth (at + 1) (name ++ unit ∷ []) rest others
    ∙ ap (λ k. front (InName depth ((name ++ unit ∷ []) ++ units)) k rest) sum
    ∙ ap (λ (xs : List ℕ). front (InName depth xs) (at + suc (length units)) rest) (append_assoc name (unit ∷ []) units)

name_units : (name : List ℕ) → IsClassName name → AllUnits name
name_units name h k d lt = or_false (get_or name k d == 59) (get_or name k d == 91) (ne_eqb (get_or name k d) 59 (h.no_end k d lt)) (ne_eqb (get_or name k d) 91 (h.no_array k d lt))

letter_step : (primitive : Primitive) (depth : ℕ) → part_step (Dimensions depth) (letter_of primitive) ≡ Whole (record { depth = depth; base = bases.Primitive primitive })
letter_step Boolean depth = refl
letter_step Byte depth = refl
letter_step Char depth = refl
letter_step Short depth = refl
letter_step Int depth = refl
letter_step Long depth = refl
letter_step Float depth = refl
letter_step Double depth = refl

front_base : (depth : ℕ) (base : BaseType) (at : ℕ) (units : List ℕ) → IsBaseType base
    → (after : ℕ) × (front (Dimensions depth) at (base_descriptor base ++ units) ≡ Ok (record { depth = depth; base = base }, record { at = after; units = units }))
front_base depth (bases.Primitive primitive) at units h =
    (at + 1, front_whole (Dimensions depth) (record { depth = depth; base = bases.Primitive primitive }) at (letter_of primitive) units (letter_step primitive depth))
front_base depth (bases.Class name) at units h =
    let place = at + 1 + length name in (
      place + 1,
      front_more (Dimensions depth) (InName depth []) at 76 ((name ++ 59 ∷ []) ++ units) refl
          ∙ ap (λ (xs : List ℕ). front (InName depth []) (at + 1) xs) (append_assoc name (59 ∷ []) units)
          ∙ more_name name depth (at + 1) [] (59 ∷ units) (name_units name h)
          ∙ front_whole (InName depth name) (record { depth = depth; base = bases.Class name }) place 59 units (end_step depth name h.some_unit),
    )

pub front_type : (ty : JType) (at : ℕ) (units : List ℕ) → IsFieldType ty
    → (after : ℕ) × (front (Dimensions 0) at (field_descriptor ty ++ units) ≡ Ok (ty, record { at = after; units = units }))
unfolding field_descriptor
front_type ty at units h =
    let text = base_descriptor ty.base ++ units in
    let dimensions = more_dimensions ty.depth 0 at text (omega (arith, h.dimensions)) in
    let base = front_base ty.depth ty.base dimensions.0 units h.base in (
      base.0,
      ap (λ (xs : List ℕ). front (Dimensions 0) at xs) (append_assoc (replicate ty.depth 91) (base_descriptor ty.base) units)
          ∙ dimensions.1
          ∙ ap (λ d. front (Dimensions d) dimensions.0 text) (zero-add ty.depth)
          ∙ base.1,
    )

pub front_class : (depth at : ℕ) (units : List ℕ) → front (Dimensions depth) at (76 ∷ units) ≡ front (InName depth []) (at + 1) units
front_class depth at units = front_more (Dimensions depth) (InName depth []) at 76 units refl

pub front_primitive : (depth at : ℕ) (units : List ℕ) (primitive : Primitive) → first_primitive units ≡ Some primitive
    → front (Dimensions depth) at units ≡ Ok (record { depth = depth; base = bases.Primitive primitive }, record { at = at + 1; units = drop 1 units })
front_primitive depth at [] primitive e = absurd (let f : None ≡ Some primitive = e in cc)
front_primitive depth at (unit ∷ units) primitive e =
    let is : letter_of primitive ≡ unit = subst (IsLetter unit) e (letter_of-primitive_of unit) in
    front_whole (Dimensions depth) (record { depth = depth; base = bases.Primitive primitive }) at unit units (ap (part_step (Dimensions depth)) (sym is) ∙ letter_step primitive depth)

pub front_no_base : (depth at : ℕ) (units : List ℕ) → (depth < 255 → (rest : List ℕ) → units ≢ 91 ∷ rest) → ((rest : List ℕ) → units ≢ 76 ∷ rest) → first_primitive units ≡ None → front (Dimensions depth) at units ≡ Err at
front_no_base depth at [] brackets class e = front_end (Dimensions depth) at
front_no_base depth at (unit ∷ units) brackets class e =
    front_stuck (Dimensions depth) at unit units
    (base_step depth unit (λ lt is. brackets lt units (ap (λ (u : ℕ). u ∷ units) is))
    ∙ ap (λ (b : Bool). if b then More (InName depth []) else leaf depth (primitive_of unit)) (ne_eqb unit 76 (λ is. class units (ap (λ (u : ℕ). u ∷ units) is)))
    ∙ ap (leaf depth) e)

-- what is left behind a type is shorter
pub front_shorter : (part : Part) (at : ℕ) (units : List ℕ) (ty : JType) (rest : Rest) → front part at units ≡ Ok (ty, rest) → length rest.units < length units
unfolding front
front_shorter part at [] ty rest e = absurd cc
front_shorter part at (unit ∷ units) ty rest e =
    let found : Next → Result (JType × Rest) ℕ = λ next. onward next at (λ more. front more (at + 1) units) (λ ty. Ok (ty, record { at = at + 1; units = units })) in
    let shorter : (next : Next) → found next ≡ Ok (ty, rest) → length rest.units < suc (length units) = λ next. elim next as (λ n. found n ≡ Ok (ty, rest) → length rest.units < suc (length units)) [
      | Stuck ↦ λ e. absurd cc
      | More more ↦ λ e. omega (arith, front_shorter more (at + 1) units ty rest e)
      | Whole ty ↦ λ e. omega (arith, ap length (ap units_of e))
    ] in shorter (part_step part unit) e

-- ---- a type within a longer text

abbrev pub behind : {A : Type 0} → Result (JType × Rest) ℕ → (JType → Rest → Result A ℕ) → Result A ℕ
behind (Ok x) after = after x.0 x.1
behind (Err place) after = Err place

-- reading goes on behind a type, or is refused where the type is
pub read_front : {S A : Type 0} (step : S → ℕ → Option S) (finish : S → Option A) (more : Part → S) (whole : JType → S)
    → ((part : Part) (unit : ℕ) → step (more part) unit ≡ entering more whole (part_step part unit)) → ((part : Part) → finish (more part) ≡ None)
    → (part : Part) (at : ℕ) (units : List ℕ) → read step finish (more part) at units ≡ behind (front part at units) (λ ty rest. read step finish (whole ty) rest.at rest.units)
unfolding read front
read_front step finish more whole steps ends part at [] = ap (λ r. ended r at) (ends part)
read_front {S = S} step finish more whole steps ends part at (unit ∷ units) =
    ap (λ (r : Option S). going r at (λ next. read step finish next (at + 1) units)) (steps part unit)
    ∙ elim (part_step part unit) as (λ next. going (entering more whole next) at (λ next. read step finish next (at + 1) units) ≡ behind (onward next at (λ more. front more (at + 1) units) (λ ty. Ok (ty, record { at = at + 1; units = units }))) (λ ty rest. read step finish (whole ty) rest.at rest.units)) [
      | Stuck ↦ refl
      | More part ↦ read_front step finish more whole steps ends part (at + 1) units
      | Whole ty ↦ refl
    ]

-- what a step makes of the stage that holds a part
pub entered : {S : Type 0} (P : S → Type 0) (more : Part → S) (whole : JType → S) (part : Part) (unit : ℕ) (next : Next) (stage : S) → Stands part unit next
    → ((part' : Part) → FinePart part' → part_text part' ≡ part_text part ++ unit ∷ [] → P (more part'))
    → ((ty : JType) → IsFieldType ty → field_descriptor ty ≡ part_text part ++ unit ∷ [] → P (whole ty))
    → entering more whole next ≡ Some stage → P stage
entered P more whole part unit Stuck stage h to_more to_whole e = absurd cc
entered P more whole part unit (More part') stage h to_more to_whole e = let is : more part' ≡ stage = cc in subst P is (to_more part' h.0 h.1)
entered P more whole part unit (Whole ty) stage h to_more to_whole e = let is : whole ty ≡ stage = cc in subst P is (to_whole ty h.0 h.1)

-- ---- the text of a type alone

abbrev field_text : FieldStage → List ℕ
field_text (InField part) = part_text part
field_text (FieldRead ty) = field_descriptor ty

abbrev FineField : FieldStage → Type 0
FineField (InField part) = FinePart part
FineField (FieldRead ty) = IsFieldType ty

field_steps : (stage : FieldStage) (unit : ℕ) (next : FieldStage) → FineField stage → field_step stage unit ≡ Some next → FineField next × (field_text next ≡ field_text stage ++ unit ∷ [])
field_steps (InField part) unit next fine e =
    entered (λ next. FineField next × (field_text next ≡ part_text part ++ unit ∷ [])) InField FieldRead part unit (part_step part unit) next (part_stands part unit fine)
    (λ part' fine text. (fine, text)) (λ ty fine text. (fine, text)) e
field_steps (FieldRead ty) unit next fine e = absurd cc

field_ends : (stage : FieldStage) (ty : JType) → FineField stage → field_end stage ≡ Some ty → SpellsField (field_text stage) ty
field_ends (InField part) ty fine e = absurd cc
field_ends (FieldRead ty') ty fine e = let is : ty' ≡ ty = cc in subst (SpellsField (field_descriptor ty')) is (record { text_is = refl; in_grammar = fine })

field_goes_on : (stage : FieldStage) → FineField stage → (rest : List ℕ) × (ty : JType) × SpellsField (field_text stage ++ rest) ty
field_goes_on (InField part) fine = let e = part_ends part fine in (e.rest, e.ty, record { text_is = e.text; in_grammar = e.fine })
field_goes_on (FieldRead ty) fine = ([], ty, record { text_is = sym (append-nil (field_descriptor ty)); in_grammar = fine })

pub read_field_front : (at : ℕ) (units : List ℕ) → read_field (InField (Dimensions 0)) at units ≡ behind (front (Dimensions 0) at units) (λ ty rest. read_field (FieldRead ty) rest.at rest.units)
read_field_front at units = read_front field_step field_end InField FieldRead (λ part unit. refl) (λ part. refl) (Dimensions 0) at units

field_reads : (text : List ℕ) (ty : JType) → SpellsField text ty → read_field (InField (Dimensions 0)) 0 text ≡ Ok ty
unfolding read
field_reads text ty s =
    let f = front_type ty 0 [] s.in_grammar in
    let is : text ≡ field_descriptor ty ++ [] = sym (s.text_is) ∙ sym (append-nil (field_descriptor ty)) in
    ap (read_field (InField (Dimensions 0)) 0) is ∙ read_field_front 0 (field_descriptor ty ++ []) ∙ ap (λ r. behind r (λ ty rest. read_field (FieldRead ty) rest.at rest.units)) f.1

pub field_exact : Exact field_step field_end (InField (Dimensions 0)) SpellsField
field_exact = exact (record { steps = field_steps; ends = field_ends; goes_on = field_goes_on }) (InField (Dimensions 0)) (omega arith) refl field_reads
