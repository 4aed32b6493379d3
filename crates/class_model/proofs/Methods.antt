-- Method descriptors read unit by unit.
use Rattle.std.proofs.Common.{◌≡◌, ◌≢◌, ◌∙◌, ℕ, ◌+◌, List, [], ◌∷◌, ◌++◌, Option, Some, None, Ok, Err, refl, sym, ap, subst, append_assoc, arith}
use Rattle.std.specs.Prelude.{All, ◌==◌, flat_map, IfSome}
use Rattle.std.proofs.lemmas.Bool.{eqb-true, cond_both}
use Rattle.std.proofs.lemmas.Option.{cond_some}
use Rattle.std.proofs.lemmas.List.{append-nil}
use Rattle.std.proofs.lemmas.List.Concat.{flat_map-cons}
use Rattle.std.proofs.lemmas.List.Elements.{All-nil, All-push, All-head, All-tail}
use Rattle.std.proofs.lemmas.Grind.{flat_map-append}
use Rattle.class_model.specs.declared.types.JType.{JType}
use Rattle.class_model.specs.declared.types.MethodDesc.{MethodDesc}
use Rattle.class_model.specs.Descriptor.{field_descriptor, result_descriptor, method_descriptor, IsFieldType, IsMethodType, SpellsMethod}
use Rattle.class_model.specs.Reading.{Part, Dimensions, part_step, Rest, front, read, going, Stage, Opening, BeforeParam, InParam, BeforeResult, InResult, MethodRead, in_param, in_result, method_step, method_end, read_method}
use Rattle.class_model.proofs.Machine.{Exact, exact}
use Rattle.class_model.proofs.Fields.{part_text, FinePart, part_stands, part_ends, entered, behind, read_front, front_type}

-- '(' and parameters
abbrev params_text : List JType → List ℕ
params_text params = 40 ∷ flat_map field_descriptor params

params_text_more : (params : List JType) (ty : JType) → params_text (params ++ ty ∷ []) ≡ params_text params ++ field_descriptor ty
params_text_more params ty =
    ap (λ (xs : List ℕ). 40 ∷ xs) (flat_map-append field_descriptor params (ty ∷ [])
    ∙ ap (λ (xs : List ℕ). flat_map field_descriptor params ++ xs) (flat_map-cons field_descriptor ty [] ∙ append-nil (field_descriptor ty)))

abbrev text_of : Stage → List ℕ
text_of Opening = []
text_of (BeforeParam params) = params_text params
text_of (InParam params part) = params_text params ++ part_text part
text_of (BeforeResult params) = params_text params ++ 41 ∷ []
text_of (InResult params part) = (params_text params ++ 41 ∷ []) ++ part_text part
text_of (MethodRead desc) = method_descriptor desc

abbrev FineStage : Stage → Type 0
FineStage Opening = Unit {0}
FineStage (BeforeParam params) = All IsFieldType params
FineStage (InParam params part) = All IsFieldType params × FinePart part
FineStage (BeforeResult params) = All IsFieldType params
FineStage (InResult params part) = All IsFieldType params × FinePart part
FineStage (MethodRead desc) = IsMethodType desc

with_result : (params : List JType) (result : Option JType) → method_descriptor (record { params = params; result = result }) ≡ (params_text params ++ 41 ∷ []) ++ result_descriptor result
unfolding method_descriptor
with_result params result = sym (append_assoc (params_text params) (41 ∷ []) (result_descriptor result))

-- what comes after a text that one unit has made longer
longer : (before part text units : List ℕ) → text ≡ part ++ units → before ++ text ≡ (before ++ part) ++ units
longer before part text units e = ap (λ (xs : List ℕ). before ++ xs) e ∙ sym (append_assoc before part units)

abbrev Grows : List ℕ → ℕ → Stage → Type 0
Grows before unit next = FineStage next × (text_of next ≡ before ++ unit ∷ [])

param_steps : (params : List JType) (part : Part) (unit : ℕ) (next : Stage) → All IsFieldType params → FinePart part → in_param params (part_step part unit) ≡ Some next → Grows (params_text params ++ part_text part) unit next
param_steps params part unit next h fine e =
    entered (Grows (params_text params ++ part_text part) unit) (InParam params) (λ ty. BeforeParam (params ++ ty ∷ [])) part unit (part_step part unit) next (part_stands part unit fine)
    (λ part' fine' text. ((h, fine'), longer (params_text params) (part_text part) (part_text part') (unit ∷ []) text))
    (λ ty fine' text. (All-push IsFieldType params ty h fine', params_text_more params ty ∙ longer (params_text params) (part_text part) (field_descriptor ty) (unit ∷ []) text))
    e

result_steps : (params : List JType) (part : Part) (unit : ℕ) (next : Stage) → All IsFieldType params → FinePart part → in_result params (part_step part unit) ≡ Some next → Grows ((params_text params ++ 41 ∷ []) ++ part_text part) unit next
result_steps params part unit next h fine e =
    let before = params_text params ++ 41 ∷ [] in
    entered (Grows (before ++ part_text part) unit) (InResult params) (λ ty. MethodRead (record { params = params; result = Some ty })) part unit (part_step part unit) next (part_stands part unit fine)
    (λ part' fine' text. ((h, fine'), longer before (part_text part) (part_text part') (unit ∷ []) text))
    (λ ty fine' text. (record { params = h; result = fine' }, with_result params (Some ty) ∙ longer before (part_text part) (field_descriptor ty) (unit ∷ []) text))
    e

method_steps : (stage : Stage) (unit : ℕ) (next : Stage) → FineStage stage → method_step stage unit ≡ Some next → Grows (text_of stage) unit next
method_steps Opening unit next h e =
    let p = cond_some (unit == 40) (BeforeParam []) next e in
    subst (Grows [] unit) p.1 (All-nil IsFieldType, ap (λ (u : ℕ). u ∷ []) (sym (eqb-true unit 40 p.0)))
method_steps (BeforeParam params) unit next h e =
    cond_both (unit == 41) (Some (BeforeResult params)) (in_param params (part_step (Dimensions 0) unit)) (λ r. r ≡ Some next → Grows (params_text params) unit next)
    (λ t e. let is : BeforeResult params ≡ next = cc in subst (Grows (params_text params) unit) is (h, ap (λ (u : ℕ). params_text params ++ u ∷ []) (sym (eqb-true unit 41 t))))
    (λ _ e. subst (λ (text : List ℕ). Grows text unit next) (append-nil (params_text params)) (param_steps params (Dimensions 0) unit next h (omega arith) e))
    e
method_steps (InParam params part) unit next h e = param_steps params part unit next h.0 h.1 e
method_steps (BeforeResult params) unit next h e =
    let before = params_text params ++ 41 ∷ [] in
    let void : MethodDesc = record { params = params; result = None } in
    cond_both (unit == 86) (Some (MethodRead void)) (in_result params (part_step (Dimensions 0) unit)) (λ r. r ≡ Some next → Grows before unit next)
    (λ t e. let is : MethodRead void ≡ next = cc in subst (Grows before unit) is (record { params = h; result = tt }, with_result params None ∙ ap (λ (u : ℕ). before ++ u ∷ []) (sym (eqb-true unit 86 t))))
    (λ _ e. subst (λ (text : List ℕ). Grows text unit next) (append-nil before) (result_steps params (Dimensions 0) unit next h (omega arith) e))
    e
method_steps (InResult params part) unit next h e = result_steps params part unit next h.0 h.1 e
method_steps (MethodRead desc) unit next h e = absurd cc

method_ends : (stage : Stage) (desc : MethodDesc) → FineStage stage → method_end stage ≡ Some desc → SpellsMethod (text_of stage) desc
method_ends Opening desc h e = absurd cc
method_ends (BeforeParam params) desc h e = absurd cc
method_ends (InParam params part) desc h e = absurd cc
method_ends (BeforeResult params) desc h e = absurd cc
method_ends (InResult params part) desc h e = absurd cc
method_ends (MethodRead desc') desc h e = let is : desc' ≡ desc = cc in subst (SpellsMethod (method_descriptor desc')) is (record { text_is = refl; in_grammar = h })

method_goes_on : (stage : Stage) → FineStage stage → (rest : List ℕ) × (desc : MethodDesc) × SpellsMethod (text_of stage ++ rest) desc
unfolding method_descriptor
method_goes_on Opening h = (40 ∷ 41 ∷ 86 ∷ [], record { params = []; result = None }, record { text_is = refl; in_grammar = record { params = All-nil IsFieldType; result = tt } })
method_goes_on (BeforeParam params) h = (41 ∷ 86 ∷ [], record { params = params; result = None }, record { text_is = refl; in_grammar = record { params = h; result = tt } })
method_goes_on (InParam params part) h =
    let e = part_ends part h.1 in (
      e.rest ++ 41 ∷ 86 ∷ [],
      record { params = params ++ e.ty ∷ []; result = None },
      record {
        text_is =
            ap (λ (xs : List ℕ). xs ++ 41 ∷ 86 ∷ []) (params_text_more params e.ty ∙ longer (params_text params) (part_text part) (field_descriptor e.ty) e.rest e.text)
            ∙ append_assoc (params_text params ++ part_text part) e.rest (41 ∷ 86 ∷ []);
        in_grammar = record { params = All-push IsFieldType params e.ty h.0 e.fine; result = tt };
      },
    )
method_goes_on (BeforeResult params) h = (86 ∷ [], record { params = params; result = None }, record { text_is = with_result params None; in_grammar = record { params = h; result = tt } })
method_goes_on (InResult params part) h =
    let e = part_ends part h.1 in (
      e.rest,
      record { params = params; result = Some e.ty },
      record {
        text_is = with_result params (Some e.ty) ∙ longer (params_text params ++ 41 ∷ []) (part_text part) (field_descriptor e.ty) e.rest e.text;
        in_grammar = record { params = h.0; result = e.fine };
      },
    )
method_goes_on (MethodRead desc) h = ([], desc, record { text_is = sym (append-nil (method_descriptor desc)); in_grammar = h })

-- ---- reading from the parts of a method descriptor

pub read_opening : (at : ℕ) (units : List ℕ) → read_method Opening at (40 ∷ units) ≡ read_method (BeforeParam []) (at + 1) units
unfolding read
read_opening at units = refl

pub read_params_end : (params : List JType) (at : ℕ) (units : List ℕ) → read_method (BeforeParam params) at (41 ∷ units) ≡ read_method (BeforeResult params) (at + 1) units
unfolding read
read_params_end params at units = refl

pub read_void : (params : List JType) (at : ℕ) (units : List ℕ) → read_method (BeforeResult params) at (86 ∷ units) ≡ read_method (MethodRead (record { params = params; result = None })) (at + 1) units
unfolding read
read_void params at units = refl

pub read_no_opening : (at : ℕ) (units : List ℕ) → ((rest : List ℕ) → units ≢ 40 ∷ rest) → read_method Opening at units ≡ Err at
unfolding read
read_no_opening at [] h = refl
read_no_opening at (unit ∷ units) h =
    cond_both (unit == 40) (Some (BeforeParam [])) None (λ r. going r at (λ next. read_method next (at + 1) units) ≡ Err at)
    (λ t. absurd (h units (ap (λ (u : ℕ). u ∷ units) (eqb-true unit 40 t))))
    (λ _. refl)

-- another parameter, where no ')' comes
read_param : (params : List JType) (at : ℕ) (units : List ℕ) → ((rest : List ℕ) → units ≢ 41 ∷ rest)
    → read_method (BeforeParam params) at units ≡ behind (front (Dimensions 0) at units) (λ ty rest. read_method (BeforeParam (params ++ ty ∷ [])) rest.at rest.units)
unfolding read front
read_param params at [] h = refl
read_param params at (unit ∷ units) h =
    cond_both (unit == 41) (Some (BeforeResult params)) (in_param params (part_step (Dimensions 0) unit))
    (λ r. going r at (λ next. read_method next (at + 1) units) ≡ behind (front (Dimensions 0) at (unit ∷ units)) (λ ty rest. read_method (BeforeParam (params ++ ty ∷ [])) rest.at rest.units))
    (λ t. absurd (h units (ap (λ (u : ℕ). u ∷ units) (eqb-true unit 41 t))))
    (λ _. read_front method_step method_end (InParam params) (λ ty. BeforeParam (params ++ ty ∷ [])) (λ part unit. refl) (λ part. refl) (Dimensions 0) at (unit ∷ units))

-- a result that is a type, where no 'V' comes
read_result : (params : List JType) (at : ℕ) (units : List ℕ) → ((rest : List ℕ) → units ≢ 86 ∷ rest)
    → read_method (BeforeResult params) at units ≡ behind (front (Dimensions 0) at units) (λ ty rest. read_method (MethodRead (record { params = params; result = Some ty })) rest.at rest.units)
unfolding read front
read_result params at [] h = refl
read_result params at (unit ∷ units) h =
    cond_both (unit == 86) (Some (MethodRead (record { params = params; result = None }))) (in_result params (part_step (Dimensions 0) unit))
    (λ r. going r at (λ next. read_method next (at + 1) units) ≡ behind (front (Dimensions 0) at (unit ∷ units)) (λ ty rest. read_method (MethodRead (record { params = params; result = Some ty })) rest.at rest.units))
    (λ t. absurd (h units (ap (λ (u : ℕ). u ∷ units) (eqb-true unit 86 t))))
    (λ _. read_front method_step method_end (InResult params) (λ ty. MethodRead (record { params = params; result = Some ty })) (λ part unit. refl) (λ part. refl) (Dimensions 0) at (unit ∷ units))

pub param_read : (params : List JType) (at : ℕ) (units : List ℕ) (ty : JType) (rest : Rest) → front (Dimensions 0) at units ≡ Ok (ty, rest) → ((rest : List ℕ) → units ≢ 41 ∷ rest)
    → read_method (BeforeParam params) at units ≡ read_method (BeforeParam (params ++ ty ∷ [])) rest.at rest.units
param_read params at units ty rest f h = read_param params at units h ∙ ap (λ r. behind r (λ ty rest. read_method (BeforeParam (params ++ ty ∷ [])) rest.at rest.units)) f

pub param_refused : (params : List JType) (at place : ℕ) (units : List ℕ) → front (Dimensions 0) at units ≡ Err place → ((rest : List ℕ) → units ≢ 41 ∷ rest) → read_method (BeforeParam params) at units ≡ Err place
param_refused params at place units f h = read_param params at units h ∙ ap (λ r. behind r (λ ty rest. read_method (BeforeParam (params ++ ty ∷ [])) rest.at rest.units)) f

pub result_read : (params : List JType) (at : ℕ) (units : List ℕ) (ty : JType) (rest : Rest) → front (Dimensions 0) at units ≡ Ok (ty, rest) → ((rest : List ℕ) → units ≢ 86 ∷ rest)
    → read_method (BeforeResult params) at units ≡ read_method (MethodRead (record { params = params; result = Some ty })) rest.at rest.units
result_read params at units ty rest f h = read_result params at units h ∙ ap (λ r. behind r (λ ty rest. read_method (MethodRead (record { params = params; result = Some ty })) rest.at rest.units)) f

pub result_refused : (params : List JType) (at place : ℕ) (units : List ℕ) → front (Dimensions 0) at units ≡ Err place → ((rest : List ℕ) → units ≢ 86 ∷ rest) → read_method (BeforeResult params) at units ≡ Err place
result_refused params at place units f h = read_result params at units h ∙ ap (λ r. behind r (λ ty rest. read_method (MethodRead (record { params = params; result = Some ty })) rest.at rest.units)) f

-- no type begins with ')' or 'V'
no_type : (unit at : ℕ) (units rest : List ℕ) (x : JType × Rest) → front (Dimensions 0) at (unit ∷ rest) ≡ Err at → front (Dimensions 0) at units ≡ Ok x → units ≢ unit ∷ rest
no_type unit at units rest x e f is = let g : front (Dimensions 0) at units ≡ Err at = ap (front (Dimensions 0) at) is ∙ e in absurd cc

no_bracket : (at : ℕ) (rest : List ℕ) → front (Dimensions 0) at (41 ∷ rest) ≡ Err at
unfolding front
no_bracket at rest = refl

no_void : (at : ℕ) (rest : List ℕ) → front (Dimensions 0) at (86 ∷ rest) ≡ Err at
unfolding front
no_void at rest = refl

params_read : (more params : List JType) (at : ℕ) (units : List ℕ) → All IsFieldType more
    → (after : ℕ) × (read_method (BeforeParam params) at (flat_map field_descriptor more ++ 41 ∷ units) ≡ read_method (BeforeResult (params ++ more)) after units)
params_read [] params at units h = (at + 1, read_params_end params at units ∙ ap (λ (ps : List JType). read_method (BeforeResult ps) (at + 1) units) (sym (append-nil params)))
params_read (ty ∷ more) params at units h =
    let behind_it = flat_map field_descriptor more ++ 41 ∷ units in
    let text : flat_map field_descriptor (ty ∷ more) ++ 41 ∷ units ≡ field_descriptor ty ++ behind_it =
    ap (λ (xs : List ℕ). xs ++ 41 ∷ units) (flat_map-cons field_descriptor ty more) ∙ append_assoc (field_descriptor ty) (flat_map field_descriptor more) (41 ∷ units) in
    let f = front_type ty at behind_it (All-head IsFieldType ty more h) in
    let rest = params_read more (params ++ ty ∷ []) f.0 units (All-tail IsFieldType ty more h) in (
      rest.0,
      ap (read_method (BeforeParam params) at) text
          ∙ param_read params at (field_descriptor ty ++ behind_it) ty (record { at = f.0; units = behind_it }) f.1 (λ rest. no_type 41 at (field_descriptor ty ++ behind_it) rest _ (no_bracket at rest) f.1)
          ∙ rest.1
          ∙ ap (λ (ps : List JType). read_method (BeforeResult ps) rest.0 units) (append_assoc params (ty ∷ []) more),
    )

last_read : (result : Option JType) (params : List JType) (at : ℕ) → IfSome result IsFieldType → read_method (BeforeResult params) at (result_descriptor result) ≡ Ok (record { params = params; result = result })
unfolding read
last_read None params at h = refl
last_read (Some ty) params at h =
    let f = front_type ty at [] h in
    ap (read_method (BeforeResult params) at) (sym (append-nil (field_descriptor ty)))
    ∙ result_read params at (field_descriptor ty ++ []) ty (record { at = f.0; units = [] }) f.1 (λ rest. no_type 86 at (field_descriptor ty ++ []) rest _ (no_void at rest) f.1)

method_reads : (text : List ℕ) (desc : MethodDesc) → SpellsMethod text desc → read_method Opening 0 text ≡ Ok desc
unfolding method_descriptor
method_reads text desc s =
    let params = params_read desc.params [] 1 (result_descriptor desc.result) s.in_grammar.params in
    ap (read_method Opening 0) (sym s.text_is)
    ∙ read_opening 0 (flat_map field_descriptor desc.params ++ 41 ∷ result_descriptor desc.result)
    ∙ params.1
    ∙ last_read desc.result desc.params params.0 s.in_grammar.result

pub method_exact : Exact method_step method_end Opening SpellsMethod
method_exact = exact (record { steps = method_steps; ends = method_ends; goes_on = method_goes_on }) Opening tt refl method_reads
