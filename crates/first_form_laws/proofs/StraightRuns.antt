-- A written class of the first form verifies in every set.
use Rattle.std.proofs.Common.{◌≡◌, ◌∙◌, ℕ, suc, ◌+◌, ◌-◌, ◌≤◌, true, false, cond, not, ◌&&◌, ◌||◌, List, [], ◌∷◌, ◌++◌, length, refl, ap, Some, None, Ok, length-append, arith, le-leb, lt-ltb}
use Rattle.std.specs.Prelude.{◌==◌, nat_lt, is_none}
use Rattle.std.proofs.lemmas.List.{length-replicate}
use Rattle.class_model.specs.declared.insn.Insn.{Insn}
use Rattle.class_model.specs.declared.insn.Insn.TheVariants.{Return}
use Rattle.class_model.specs.declared.class.VType.TheVariants.{Top}
use Rattle.class_model.specs.declared.class.CodeDef.{CodeDef}
use Rattle.class_model.specs.declared.class.ClassDef.{ClassDef}
use Rattle.class_set.specs.Assignable.{has_uninit_this}
use Rattle.type_rows.specs.declared.state.TypeState.{TypeState}
use Rattle.type_rows.specs.declared.rule.VerifyRule.TheVariants as rules
use Rattle.type_rows.specs.Method.{Method}
use Rattle.type_rows.specs.State.{on_ok, need}
use Rattle.type_rows.specs.Jumps.{targets, falls}
use Rattle.type_rows.specs.Rows.{row}
use Rattle.verifier.specs.Check.{enter, handled, branched, leave, pass, typing, judge}
use Rattle.verifier.specs.First.{first_fits}
use Rattle.verifier.specs.Frames.{declared_at, frame_of}
use Rattle.verifier.specs.Set.{with_code}
use Rattle.first_form.specs.declared.frame.IntFrame.{IntFrame}
use Rattle.profile_check.specs.declared.profile.Names.TheVariants.{Written}
use Rattle.first_form.specs.FormOne.{FormOne, main_method}
use Rattle.first_form.specs.Typing.{first_frame, Runs}
use Rattle.first_form_laws.proofs.Tests.{or_true}
use Rattle.first_form_laws.proofs.Checks.{typed_on, passes_on, ClassPasses}
use Rattle.first_form_laws.proofs.StraightPasses.{types_in, Fits, insn_typed, none_uninit, ints_plain, tops_plain}
use Rattle.first_form_laws.proofs.Written.{Header, class_of, code_of, header_of}

-- a method without declared frames and handlers, which has room for its parameters and gives nothing
record IsPlain (m : Method) : Type 0 where
  no_frame : m.code.frames ≡ []
  no_handler : m.code.handlers ≡ []
  fits_first : first_fits m ≡ true
  gives_nothing : is_none m.method.desc.result ≡ true

entered : (m : Method) (at : ℕ) (s : TypeState) → IsPlain m → enter m at (Some s) (declared_at m.code.frames at) ≡ Ok s
entered m at s p =
    ap (λ rows. enter m at (Some s) (declared_at rows at)) p.no_frame
    ∙ ap (λ b. need b rules.Shape (Ok s)) (ap (λ b. not (at == 0) || b) p.fits_first ∙ or_true (not (at == 0)))

-- an instruction that has no target goes on as its row says
judged : (m : Method) (at : ℕ) (insn : Insn) (s behind : TypeState) → IsPlain m → row m at insn s ≡ Ok behind → targets insn ≡ [] → (not (falls insn) || nat_lt (at + 1) (length m.code.insns)) ≡ true
    → judge m at insn (Some s) ≡ Ok (typing insn (frame_of s) behind)
judged m at insn s behind p typed no_target more =
    ap (λ r. on_ok r (λ t. pass m at insn t)) (entered m at s p)
    ∙ ap (λ handlers. on_ok (handled m at s handlers) (λ _. on_ok (row m at insn s) (λ t. leave m at insn (frame_of s) t))) p.no_handler
    ∙ ap (λ r. on_ok r (λ t. leave m at insn (frame_of s) t)) typed
    ∙ ap (λ numbers. on_ok (branched m behind numbers) (λ _. need (not (falls insn) || nat_lt (at + 1) (length m.code.insns)) rules.End (Ok (typing insn (frame_of s) behind)))) no_target
    ∙ ap (λ b. need b rules.End (Ok (typing insn (frame_of s) behind))) more

no_uninit : (m : Method) (f : IntFrame) → Fits m f → has_uninit_this f.locals (types_in f).stack ≡ false
no_uninit m f fits = λ i. none_uninit f.locals fits.plain i || ints_plain f.depth i

last_passes : (m : Method) (at : ℕ) (f : IntFrame) → IsPlain m → Fits m f → passes_on m at (Return None ∷ []) (Some (types_in f)) ≡ true
unfolding row targets falls
last_passes m at f p fits =
    let typed : row m at (Return None) (types_in f) ≡ Ok (types_in f) =
    ap (λ b. need (not b) rules.Init (need (is_none m.method.desc.result) rules.Result (Ok (types_in f)))) (no_uninit m f fits)
    ∙ ap (λ b. need b rules.Result (Ok (types_in f))) p.gives_nothing
    in
    ap (λ r. typed_on r (λ t. passes_on m (at + 1) [] t.falls_on)) (judged m at (Return None) (types_in f) (types_in f) p typed refl refl)

runs_pass : (m : Method) (at : ℕ) (body : List Insn) (f last : IntFrame) → IsPlain m → Fits m f → at + (length body + 1) ≡ length m.code.insns → Runs Written m.code.max_stack body f last
    → passes_on m at (body ++ Return None ∷ []) (Some (types_in f)) ≡ true
runs_pass m at [] f last p fits count runs = last_passes m at f p fits
runs_pass m at (insn ∷ body) f last p fits count runs =
    let g = runs.0 in
    let b = insn_typed m at insn f g fits runs.1 in
    let count_one : at + (suc (length body) + 1) ≡ length m.code.insns = count in
    let more : nat_lt (at + 1) (length m.code.insns) ≡ true = lt-ltb (at + 1) (length m.code.insns) (omega (arith, count_one)) in
    let here = judged m at insn (types_in f) (types_in g) p b.typed b.no_target (ap (λ c. not (falls insn) || c) more ∙ or_true (not (falls insn))) in
    ap (λ r. typed_on r (λ t. passes_on m (at + 1) (body ++ Return None ∷ []) t.falls_on)) here
    ∙ ap (λ c. passes_on m (at + 1) (body ++ Return None ∷ []) (cond c (Some (types_in g)) None)) b.goes_on
    ∙ runs_pass m (at + 1) body g last p b.fits (omega (arith, count_one)) runs.2

abbrev main_of : List ClassDef → ℕ → Header → CodeDef → Method
main_of set number header code = with_code set number (class_of header code) (main_method code) code

first_fit : (m : Method) → 1 ≤ m.code.max_locals → Fits m (first_frame m.code.max_locals)
first_fit m one =
    let filled = length-replicate (m.code.max_locals - 1) Top in
    record {
      as_many = ap suc filled ∙ omega (arith, one);
      plain = tops_plain (m.code.max_locals - 1);
      low = omega arith;
    }

main_passes : (set : List ClassDef) (number : ℕ) (class : ClassDef) (form : FormOne Written class) → passes_on (main_of set number (header_of class) (code_of form.code)) 0 form.code.insns (Some (types_in (first_frame form.code.max_locals))) ≡ true
main_passes set number class form =
    let m = main_of set number (header_of class) (code_of form.code) in
    let s = form.straight in
    let plain : IsPlain m = record { no_frame = refl; no_handler = refl; fits_first = le-leb 1 form.code.max_locals s.local_of_words; gives_nothing = refl } in
    let count : 0 + (length s.body + 1) ≡ length form.code.insns = omega (arith, ap length s.returns, length-append s.body (Return None ∷ [])) in
    ap (λ insns. passes_on m 0 insns (Some (types_in (first_frame form.code.max_locals)))) s.returns
    ∙ runs_pass m 0 s.body (first_frame form.code.max_locals) s.last plain (first_fit m s.local_of_words) count s.runs

pub form_passes : (class : ClassDef) (form : FormOne Written class) → ClassPasses (class_of (header_of class) (code_of form.code))
form_passes class form = λ set number. ap (λ c. c && true) (main_passes set number class form)
