-- Reading handlers and line numbers is exact for what their bytes are.
use Rattle.std.proofs.Common.{◌≡◌, ℕ, ◌+◌, ◌<◌, List, ◌++◌, length, Option, Result, Ok, Err, refl, sym, ap, subst, ◌∙◌}
use Rattle.std.specs.Prelude.{nat_lt, IfOk, MatchResult}
use Rattle.std.specs.Int.{w16}
use Rattle.std.proofs.lemmas.Bool.{ltb-true, lt-ltb}
use Rattle.class_input.specs.declared.bad_class.BadKind.TheVariants.{Target}
use Rattle.class_input.specs.declared.bad_class.BadClass.{BadClass}
use Rattle.class_input.specs.declared.bad_class.BadClass.TheVariants as errors
use Rattle.class_input.specs.declared.input.Input.{Input}
use Rattle.class_input.specs.Reading.{In, Reading, number, seen, Gives}
use Rattle.class_input.specs.Grammar.{IsBytes, IsU16}
use Rattle.class_input.proofs.Laws.{answer_is, from, Then, Exact, Exact-same, then_exact, mapped_exact, u16_exact}
use Rattle.class_model.specs.declared.class.Handler.{Handler}
use Rattle.const_pool.specs.Pool.{Pool, as_class}
use Rattle.class_names.specs.Pieces.{AtIndex}
use Rattle.class_names.specs.Names.{MayName, NamesClass}
use Rattle.class_names.specs.Steps.{fit, at_index}
use Rattle.class_names.specs.NameReading.{optional, class_name_at}
use Rattle.class_names.proofs.StepLaws.{Judges, After, fine, fine_judges, judges_same, then_judges, fit_judges, at_index_exact, table_exact}
use Rattle.class_names.proofs.NameLaws.{no_name, optional_judges, class_name_judges}
use Rattle.insn_code.specs.Offsets.{Offsets, start_number}
use Rattle.insn_code.specs.InsnReading.{demanded}
use Rattle.insn_code.proofs.StepLaws.{Holds, demanded_judges, two_exact}
use Rattle.insn_code.proofs.SwitchLaws.{then_joined, last_joined}
use Rattle.code_tables.specs.CodeTables.{Begins, end_number, EndsBefore, IsHandler, AreHandlers, IsLine, AreLines}
use Rattle.code_tables.specs.TableReading.{start_at, behind, end_at, handler, handlers, line, lines}

-- ---- what a function returns, where its reading is exact

pub is_found : {A : Type 0} (R : List ℕ → A → Type 0) (r : Reading A) → Exact R r → (i : In) (result : Result A BadClass) (new : Input) → IsBytes i.rest → Gives result new (r i) → IfOk result (λ a. (text : List ℕ) × (i.rest ≡ text ++ new.rest.now) × R text a)
is_found R r exact i (Ok a) new bytes h = let t = exact.takes i a (seen new) bytes h in (t.text, t.parts, t.stands)
is_found R r exact i (Err e) new bytes h = tt

pub is_only : {A : Type 0} (R : List ℕ → A → Type 0) (r : Reading A) → Exact R r → (i : In) (result : Result A BadClass) (new : Input) (text rest : List ℕ) (a : A) → i.rest ≡ text ++ rest → R text a → Gives result new (r i)
    → MatchResult result (λ read. read ≡ a) (λ stop. stop ≡ errors.Memory)
is_only R r exact i (Ok read) new text rest a e is h =
    let again = ap (λ (z : List ℕ). r (from i.at z)) e ∙ exact.again i.at text rest a is in
    (answer_is read a (seen new) (from (i.at + length text) rest) (sym h ∙ again)).0
is_only R r exact i (Err errors.Memory) new text rest a e is h = refl
is_only R r exact i (Err (errors.Bad place kind)) new text rest a e is h =
    let again = ap (λ (z : List ℕ). r (from i.at z)) e ∙ exact.again i.at text rest a is in
    absurd (cc (again, h))

-- ---- offsets

start_judges : (code : Offsets) (place offset : ℕ) → Judges (Begins code offset) (start_at code place offset)
start_judges code place offset = fit_judges place Target (start_number code.starts offset)

abbrev EndR : Offsets → ℕ → ℕ → ℕ → Type 0
EndR code start offset end = EndsBefore code offset end × (start < end)

end_judges : (code : Offsets) (start place offset : ℕ) → Judges (EndR code start offset) (end_at code start place offset)
unfolding end_at
end_judges code start place offset =
    let Second : ℕ → ℕ → Type 0 = λ end. After (Holds (nat_lt start end)) (λ u out. end ≡ out) in
    judges_same (After (EndsBefore code offset) Second) (EndR code start offset) (end_at code start place offset)
    (λ out h. subst (λ (z : ℕ). EndR code start offset z) h.2.2 (h.1, ltb-true start h.0 h.2.1))
    (λ out h. (out, h.0, (tt, lt-ltb start out h.1, refl)))
    (then_judges (EndsBefore code offset) Second (fit place Target (end_number code offset)) (behind place start) (fit_judges place Target (end_number code offset)) (λ end.
    then_judges (Holds (nat_lt start end)) (λ u out. end ≡ out) (demanded place Target (nat_lt start end)) (λ u. fine end) (demanded_judges place Target (nat_lt start end)) (λ u. fine_judges end)))

-- ---- handlers

no_class : (p : Pool) (name : List ℕ) → NamesClass p 0 name → ⊥
no_class p name h = no_name as_class p h.0 h.1

abbrev CaughtR : Pool → List ℕ → Option (List ℕ) → Type 0
CaughtR p = AtIndex (MayName (NamesClass p))

abbrev HandlerEnd : Pool → ℕ → ℕ → ℕ → List ℕ → Handler → Type 0
HandlerEnd p start end target text out = (caught : Option (List ℕ)) × CaughtR p text caught × ((let h : Handler = record { start = start; end = end; target = target; caught = caught } in h) ≡ out)

abbrev HandlerR : Pool → Offsets → List ℕ → Handler → Type 0
HandlerR p code = Then (AtIndex (Begins code)) (λ start. Then (AtIndex (EndR code start)) (λ end. Then (AtIndex (Begins code)) (HandlerEnd p start end)))

handler_to : (p : Pool) (code : Offsets) (text : List ℕ) (out : Handler) → HandlerR p code text out → IsHandler p code text out
handler_to p code text out h =
    let a = h.5 in
    let b = a.5 in
    subst (λ (z : Handler). IsHandler p code text z) b.5.2 (record {
      start_text = h.1;
      end_text = a.1;
      target_text = b.1;
      caught_text = b.2;
      spelled = then_joined _ _ _ _ h.3 (then_joined _ _ _ _ a.3 (then_joined _ _ _ _ b.3 (last_joined b.2)));
      start_is = h.4;
      end_is = (a.4.0, a.4.1, a.4.2.0);
      ordered = a.4.2.1;
      target_is = b.4;
      caught_is = b.5.1;
    })

handler_from : (p : Pool) (code : Offsets) (text : List ℕ) (out : Handler) → IsHandler p code text out → HandlerR p code text out
handler_from p code text out h = (
  out.start,
  h.start_text,
  _,
  h.spelled,
  h.start_is,
  (
    out.end,
    h.end_text,
    _,
    refl,
    (h.end_is.0, h.end_is.1, (h.end_is.2, h.ordered)),
    (
      out.target,
      h.target_text,
      _,
      refl,
      h.target_is,
      (out.caught, subst (λ (z : List ℕ). CaughtR p z out.caught) (last_joined h.caught_text) h.caught_is, refl),
    ),
  ),
)

handler_exact : (p : Pool) (code : Offsets) → Exact (IsHandler p code) (handler p code)
unfolding handler
handler_exact p code =
    Exact-same (HandlerR p code) (IsHandler p code) _ (handler_to p code) (handler_from p code)
    (then_exact (AtIndex (Begins code)) _ (at_index (start_at code)) _ (at_index_exact (Begins code) (start_at code) (start_judges code)) (λ start.
    then_exact (AtIndex (EndR code start)) _ (at_index (end_at code start)) _ (at_index_exact (EndR code start) (end_at code start) (end_judges code start)) (λ end.
    then_exact (AtIndex (Begins code)) (HandlerEnd p start end) (at_index (start_at code)) _ (at_index_exact (Begins code) (start_at code) (start_judges code)) (λ target.
    mapped_exact (CaughtR p) (at_index (optional (class_name_at p))) (λ caught. (let h : Handler = record { start = start; end = end; target = target; caught = caught } in h))
    (at_index_exact (MayName (NamesClass p)) (optional (class_name_at p)) (λ place k. optional_judges (NamesClass p) (class_name_at p) place k (no_class p) (class_name_judges p place k)))))))

pub handlers_exact : (p : Pool) (code : Offsets) → Exact (AreHandlers p code) (handlers p code)
handlers_exact p code = table_exact (IsHandler p code) (handler p code) (handler_exact p code)

-- ---- line numbers

line_exact : (code : Offsets) → Exact (IsLine code) (line code)
unfolding line
line_exact code = two_exact (AtIndex (Begins code)) IsU16 (at_index (start_at code)) (number w16) (at_index_exact (Begins code) (start_at code) (start_judges code)) u16_exact

pub lines_exact : (code : Offsets) → Exact (AreLines code) (lines code)
lines_exact code = table_exact (IsLine code) (line code) (line_exact code)
