-- Reading code is exact for the instructions that its bytes are.
use Rattle.std.proofs.Common.{◌≡◌, ◌⊎◌, inl, inr, ℕ, zero, suc, ◌+◌, ◌-◌, ◌<◌, ◌≤◌, Bool, true, false, cond, ltb, eqb, List, [], ◌∷◌, ◌++◌, length, map, take, drop, Option, Some, None, Result, Ok, Err, refl, sym, ap, subst, ◌∙◌, append_assoc, arith}
use Rattle.std.specs.Prelude.{option_and_then, IfOk, MatchResult}
use Rattle.std.specs.Option.{option_map}
use Rattle.std.proofs.lemmas.Bool.{eqb-true, ltb-false, le-ltb}
use Rattle.std.proofs.lemmas.List.{append-nil, length-append, length-take, nil_from_length, take_at, drop_at, take-append-drop}
use Rattle.class_input.specs.declared.bad_class.BadKind.TheVariants.{Short, Target}
use Rattle.class_input.specs.declared.bad_class.BadClass.{BadClass}
use Rattle.class_input.specs.declared.bad_class.BadClass.TheVariants as errors
use Rattle.class_input.specs.declared.input.Input.{Input}
use Rattle.class_input.specs.Reading.{In, Fault, bind, done, lifted, each, seen, Gives}
use Rattle.class_input.specs.Grammar.{IsBytes}
use Rattle.class_input.proofs.Laws.{IsBytes-take, IsBytes-after, answer, answer_is, bind_ok, from, Then, Exact, Exact-same, then_exact, mapped_exact, here_exact}
use Rattle.class_model.specs.declared.insn.Insn.{Insn}
use Rattle.class_names.specs.Steps.{fit}
use Rattle.class_names.proofs.StepLaws.{Judges, After, fine, then_judges, judges_same, fit_judges}
use Rattle.const_pool.specs.Pool.{Pool}
use Rattle.insn_code.specs.declared.unlinked.Unlinked.{Unlinked}
use Rattle.insn_code.specs.declared.code.Run.{Run}
use Rattle.insn_code.specs.InsnBytes.{IsUnlinked}
use Rattle.insn_code.specs.InsnReading.{insn}
use Rattle.insn_code.specs.Linking.{Placed, link_placed, offset_of, all_of, ArePlaced, Code, IsCode}
use Rattle.insn_code.specs.CodeReading.{taken, sized, with_insn, one_insn, next, no_insn, whole, placed_in, in_front, linked, insns}
use Rattle.insn_code.proofs.StepLaws.{Judged, lifted_judges}
use Rattle.insn_code.proofs.InsnLaws.{insn_exact}

pub has_bytes : (p : Pool) (pc : ℕ) (text : List ℕ) (x : Unlinked) → IsUnlinked p pc text x → 1 ≤ length text
has_bytes p pc text x h = omega (arith, ap length h.spelled)

-- an instruction takes a byte or more
pub insn_takes : (p : Pool) (pc : ℕ) (i j : In) (x : Unlinked) → IsBytes i.rest → insn p pc i ≡ answer x j → length j.rest < length i.rest
insn_takes p pc i j x bytes h =
    let t = (insn_exact p pc).takes i x j bytes h in
    let some = has_bytes p pc t.text x t.stands in
    omega (arith, ap length t.parts, length-append t.text j.rest)

-- ---- instructions one after the other: what steps took

abbrev made_run : List Placed → List ℕ → ℕ → Run
made_run placed starts size = record { placed = placed; starts = record { starts = starts; size = size } }

abbrev grown : Run → List Placed → ℕ → Run
grown run xs size = made_run (run.placed ++ xs) (run.starts.starts ++ map offset_of xs) (run.starts.size + size)

abbrev Grown : Pool → Run → List ℕ → Run → Type 0
Grown p run text t = (xs : List Placed) × (run.placed ++ xs ≡ t.placed) × (t.starts.starts ≡ run.starts.starts ++ map offset_of xs) × (t.starts.size ≡ run.starts.size + length text) × ArePlaced p run.starts.size text xs

nexts : (p : Pool) (b : Bool) (run t : Run) (i m : In) → cond b (done run i) (one_insn p run i) ≡ answer t m
    → ((b ≡ true) × (run ≡ t) × (i ≡ m)) ⊎ ((x : Unlinked) × (insn p run.starts.size i ≡ answer x m) × (with_insn run (x, length i.rest - length m.rest) ≡ t))
unfolding sized
nexts p true run t i m h = let e = answer_is run t i m h in inl (refl, e.0, e.1)
nexts p false run t i m h =
    let s = bind_ok (sized (insn p run.starts.size) i) (λ (x : Unlinked × ℕ). done (with_insn run x)) t m h in
    let q = bind_ok (insn p run.starts.size i) (taken i) s.0 s.1 s.2 in
    let size : Unlinked → In → Unlinked × ℕ = λ x j. (x, length i.rest - length j.rest) in
    let took = answer_is (size q.0 q.1) s.0 q.1 s.1 q.3 in
    let e = answer_is (with_insn run s.0) t s.1 m s.3 in
    let there : q.1 ≡ m = took.1 ∙ e.1 in
    inr (q.0, q.2 ∙ ap (λ (k : In). answer q.0 k) there, ap (λ (k : In). with_insn run (size q.0 k)) (sym there) ∙ ap (with_insn run) took.0 ∙ e.0)

steps_take : (p : Pool) (n : ℕ) (run t : Run) (i k : In) → IsBytes i.rest → length i.rest ≤ n → each n (next p) run i ≡ answer t k → Grown p run i.rest t
unfolding each next
steps_take p zero run t i k fits enough h =
    let a = answer_is run t i k h in
    let none : i.rest ≡ [] = nil_from_length i.rest (omega arith) in (
      [],
      append-nil run.placed ∙ ap (λ (r : Run). r.placed) a.0,
      ap (λ (r : Run). r.starts.starts) (sym a.0) ∙ sym (append-nil run.starts.starts),
      omega (arith, ap (λ (r : Run). r.starts.size) a.0, ap length none),
      none,
    )
steps_take p (suc n) run t i k fits enough h =
    let b = bind_ok (next p run i) (each n (next p)) t k h in
    elim (nexts p (eqb (length i.rest) 0) run b.0 i b.1 b.2) [
      | inl a ↦
          let none : i.rest ≡ [] = nil_from_length i.rest (eqb-true _ _ a.0) in
          let rest_is : b.1.rest ≡ i.rest = ap (λ (z : In). z.rest) (sym a.2) in
          let more = steps_take p n b.0 t b.1 k (subst (λ (z : List ℕ). IsBytes z) (sym rest_is) fits) (omega (arith, ap length none, ap length rest_is)) b.3 in
          subst (λ (z : Run). Grown p z i.rest t) (sym a.1) (subst (λ (z : List ℕ). Grown p b.0 z t) rest_is more)
      | inr a ↦
          let pc = run.starts.size in
          let u = (insn_exact p pc).takes i a.0 b.1 fits a.1 in
          let rest_fits : IsBytes b.1.rest = IsBytes-after u.text b.1.rest (subst (λ (z : List ℕ). IsBytes z) u.parts fits) in
          let has = has_bytes p pc u.text a.0 u.stands in
          let long : length i.rest ≡ length u.text + length b.1.rest = ap length u.parts ∙ length-append u.text b.1.rest in
          let found = steps_take p n b.0 t b.1 k rest_fits (omega arith) b.3 in
          let more = subst (λ (z : Run). Grown p z b.1.rest t) (sym a.2) found in
          let same : pc + (length i.rest - length b.1.rest) ≡ pc + length u.text = omega arith in (
            (pc, a.0) ∷ more.0,
            sym (append_assoc run.placed ((pc, a.0) ∷ []) more.0) ∙ more.1,
            more.2 ∙ append_assoc run.starts.starts (pc ∷ []) (map offset_of more.0),
            omega (arith, more.3, same),
            (u.text, b.1.rest, u.parts, (refl, u.stands), subst (λ (z : ℕ). ArePlaced p z b.1.rest more.0) same more.4),
          )
    ]

-- ---- and what steps take again

next_again : (p : Pool) (run : Run) (at : ℕ) (text first others : List ℕ) (x : Unlinked) → text ≡ first ++ others → IsUnlinked p run.starts.size first x
    → next p run (from at text) ≡ answer (with_insn run (x, length first)) (from (at + length first) others)
unfolding next sized
next_again p run at text first others x spelled stands =
    let has = has_bytes p run.starts.size first x stands in
    let long : length text ≡ length first + length others = ap length spelled ∙ length-append first others in
    let test : eqb (length text) 0 ≡ false = grind arith in
    let size : length text - length others ≡ length first = omega arith in
    let one : insn p run.starts.size (from at text) ≡ answer x (from (at + length first) others) = ap (λ (t : List ℕ). insn p run.starts.size (from at t)) spelled ∙ (insn_exact p run.starts.size).again at first others x stands in
    rw (test, one, size) refl

still : (run : Run) → run ≡ grown run [] 0
still run =
    ap (λ (z : List Placed). made_run z run.starts.starts run.starts.size) (sym (append-nil run.placed))
    ∙ ap (λ (z : List ℕ). made_run (run.placed ++ []) z run.starts.size) (sym (append-nil run.starts.starts))
    ∙ ap (λ (z : ℕ). made_run (run.placed ++ []) (run.starts.starts ++ []) z) (omega arith)

grown_more : (run : Run) (u : Unlinked) (xs : List Placed) (a b c : ℕ) → c ≡ a + b → grown (with_insn run (u, a)) xs b ≡ grown run ((run.starts.size, u) ∷ xs) c
grown_more run u xs a b c e =
    let pc = run.starts.size in
    let placed = append_assoc run.placed ((pc, u) ∷ []) xs in
    let starts = append_assoc run.starts.starts (pc ∷ []) (map offset_of xs) in
    ap (λ (z : List Placed). made_run z ((run.starts.starts ++ pc ∷ []) ++ map offset_of xs) (pc + a + b)) placed
    ∙ ap (λ (z : List ℕ). made_run (run.placed ++ (pc, u) ∷ xs) z (pc + a + b)) starts
    ∙ ap (λ (z : ℕ). made_run (run.placed ++ (pc, u) ∷ xs) (run.starts.starts ++ pc ∷ map offset_of xs) z) (omega arith)

ends_there : (run : Run) (at : ℕ) (text : List ℕ) → text ≡ [] → answer run (from at text) ≡ answer (grown run [] (length text)) (from (at + length text) [])
ends_there run at text h =
    let there : at ≡ at + 0 = omega arith in
    rw h (ap (λ (r : Run). answer r (from at [])) (still run) ∙ ap (λ (k : ℕ). answer (grown run [] 0) (from k [])) there)

next_empty : (p : Pool) (run : Run) (at : ℕ) (text : List ℕ) → text ≡ [] → next p run (from at text) ≡ answer run (from at text)
unfolding next
next_empty p run at text h = rw h refl

steps_again : (p : Pool) (n : ℕ) (run : Run) (at : ℕ) (text : List ℕ) (xs : List Placed) → length text ≤ n → ArePlaced p run.starts.size text xs
    → each n (next p) run (from at text) ≡ answer (grown run xs (length text)) (from (at + length text) [])
unfolding each
steps_again p zero run at text [] enough h = ends_there run at text h
steps_again p zero run at text (x ∷ xs) enough h = absurd (let has = has_bytes p run.starts.size h.0 x.1 h.3.1 in omega (arith, has, ap length h.2, length-append h.0 h.1))
steps_again p (suc n) run at text [] enough h =
    let empty : next p run (from at text) ≡ answer run (from at text) = next_empty p run at text h in
    ap (λ (z : Result (Run × In) Fault). bind z (each n (next p))) empty ∙ steps_again p n run at text [] (omega (arith, ap length h)) h
steps_again p (suc n) run at text (x ∷ xs) enough h =
    let first = h.0 in
    let others = h.1 in
    let pc = run.starts.size in
    let has = has_bytes p pc first x.1 h.3.1 in
    let long : length text ≡ length first + length others = ap length h.2 ∙ length-append first others in
    let placed : (let y : Placed = (pc, x.1) in y) ≡ x = ap (λ (z : ℕ). (let y : Placed = (z, x.1) in y)) h.3.0 in
    let one = next_again p run at text first others x.1 h.2 h.3.1 in
    let more = steps_again p n (with_insn run (x.1, length first)) (at + length first) others xs (omega arith) h.4 in
    let there : at + length first + length others ≡ at + length text = omega arith in
    ap (λ (z : Result (Run × In) Fault). bind z (each n (next p))) one
    ∙ more
    ∙ ap (λ (r : Run). answer r (from (at + length first + length others) [])) (grown_more run x.1 xs (length first) (length others) (length text) long)
    ∙ ap (λ (y : Placed). answer (grown run (y ∷ xs) (length text)) (from (at + length first + length others) [])) placed
    ∙ ap (λ (k : ℕ). answer (grown run (x ∷ xs) (length text)) (from k [])) there

-- ---- the bytes of code

pub record IsRun (p : Pool) (n : ℕ) (text : List ℕ) (run : Run) : Type 0 where
  pub long : length text ≡ n
  pub placed_are : ArePlaced p 0 text run.placed
  pub starts_are : run.starts.starts ≡ map offset_of run.placed
  pub size_is : run.starts.size ≡ n

whole_is : {A : Type 0} (b : Bool) (d : Fault) (x y : A) (i j : In) → cond b (Err d) (answer x i) ≡ answer y j → (b ≡ false) × (x ≡ y) × (i ≡ j)
whole_is true d x y i j e = absurd cc
whole_is false d x y i j e = let p = answer_is x y i j e in (refl, p.0, p.1)

run_of : (p : Pool) (n : ℕ) (text : List ℕ) (run : Run) → length text ≡ n → Grown p no_insn text run → IsRun p n text run
run_of p n text run len g = record {
  long = len;
  placed_are = subst (λ (z : List Placed). ArePlaced p 0 text z) g.1 g.4;
  starts_are = g.2 ∙ ap (map offset_of) g.1;
  size_is = omega (arith, g.3, len);
}

is_grown : (p : Pool) (n : ℕ) (text : List ℕ) (run : Run) → IsRun p n text run → grown no_insn run.placed (length text) ≡ run
is_grown p n text run h =
    ap (λ (z : List ℕ). made_run run.placed z (0 + length text)) (sym h.starts_are)
    ∙ ap (λ (z : ℕ). made_run run.placed run.starts.starts z) (omega (arith, h.long, h.size_is))

placed_exact : (p : Pool) (n : ℕ) → Exact (IsRun p n) (placed_in p n)
unfolding placed_in
placed_exact p n = record {
  takes = λ i run j fits h.
      let part : In = from i.at (take n i.rest) in
      let b = bind_ok (each n (next p) no_insn part) (whole n i) run j h in
      let c = whole_is (ltb (length i.rest) n) (record { place = b.1.at; kind = Short }) b.0 run (from (i.at + n) (drop n i.rest)) j b.3 in
      let long : n ≤ length i.rest = ltb-false _ _ c.0 in
      let len : length (take n i.rest) ≡ n = omega (arith, length-take n i.rest) in
      let all = steps_take p n no_insn b.0 part b.1 (IsBytes-take n i.rest fits) (omega (arith, length-take n i.rest)) b.2 in
      record {
        text = take n i.rest;
        stands = run_of p n (take n i.rest) run len (subst (λ (z : Run). Grown p no_insn (take n i.rest) z) c.1 all);
        parts = sym (take-append-drop n i.rest) ∙ ap (λ (k : In). take n i.rest ++ k.rest) c.2;
        moved = ap (λ (k : In). k.at) (sym c.2) ∙ ap (λ (k : ℕ). i.at + k) (sym len);
      };
  again = λ at text rest run h.
      let all = steps_again p n no_insn at text run.placed (omega (arith, h.long)) h.placed_are ∙ ap (λ (r : Run). answer r (from (at + length text) [])) (is_grown p n text run h) in
      let short : ltb (length (text ++ rest)) n ≡ false = le-ltb _ _ (omega (arith, h.long, length-append text rest)) in
      let one : each n (next p) no_insn (from at (take n (text ++ rest))) ≡ answer run (from (at + length text) []) = ap (λ (t : List ℕ). each n (next p) no_insn (from at t)) (take_at text rest n h.long) ∙ all in
      ap (λ (z : Result (Run × In) Fault). bind z (whole n (from at (text ++ rest)))) one ∙ rw (short, drop_at text rest n h.long, h.long) refl;
}

-- ---- the targets of branches

abbrev Linked : List ℕ → List Placed → List Insn → Type 0
Linked starts xs out = all_of (link_placed starts) xs ≡ Some out

abbrev Front : List ℕ → List Placed → Insn → List Insn → Type 0
Front starts xs i out = (ys : List Insn) × Linked starts xs ys × (i ∷ ys ≡ out)

in_front_is : (i : Insn) (r : Result (List Insn) Fault) (out : List Insn) → in_front (i ∷ []) r ≡ fine out → (ys : List Insn) × (r ≡ fine ys) × (i ∷ ys ≡ out)
in_front_is i (Ok ys) out h = (ys, refl, (cc))
in_front_is i (Err d) out h = absurd cc

front_judges : (starts : List ℕ) (xs : List Placed) (r : Result (List Insn) Fault) (i : Insn) → Judges (Linked starts xs) r → Judges (Front starts xs i) (in_front (i ∷ []) r)
front_judges starts xs r i j = record {
  is = λ out h. let f = in_front_is i r out h in (f.0, j.is f.0 f.1, f.2);
  again = λ out h. ap (in_front (i ∷ [])) (j.again h.0 h.1) ∙ ap fine h.2;
}

map_is : (i : Insn) (o : Option (List Insn)) (out : List Insn) → option_map (λ ys. i ∷ ys) o ≡ Some out → (ys : List Insn) × (o ≡ Some ys) × (i ∷ ys ≡ out)
map_is i None out h = absurd cc
map_is i (Some ys) out h = (ys, refl, (cc))

all_is : (o : Option Insn) (all : Option (List Insn)) (out : List Insn) → option_and_then (λ i. option_map (λ ys. i ∷ ys) all) o ≡ Some out → (i : Insn) × (o ≡ Some i) × ((ys : List Insn) × (all ≡ Some ys) × (i ∷ ys ≡ out))
all_is None all out h = absurd cc
all_is (Some i) all out h = (i, refl, map_is i all out h)

some_all : (o : Option Insn) (all : Option (List Insn)) (i : Insn) (ys out : List Insn) → o ≡ Some i → all ≡ Some ys → i ∷ ys ≡ out → option_and_then (λ i. option_map (λ ys. i ∷ ys) all) o ≡ Some out
some_all o all i ys out e f g = rw (e, f) (ap (λ (z : List Insn). Some z) g)

nothing_linked : (out : List Insn) → (let k : Option (List Insn) = Some [] in k) ≡ Some out → fine (let z : List Insn = [] in z) ≡ fine out
nothing_linked out h = cc

linked_nothing : (out : List Insn) → fine (let z : List Insn = [] in z) ≡ fine out → (let k : Option (List Insn) = Some [] in k) ≡ Some out
linked_nothing out h = cc

linked_judges : (place : ℕ) (starts : List ℕ) (xs : List Placed) → Judges (Linked starts xs) (linked place starts xs)
unfolding linked all_of
linked_judges place starts [] = record { is = linked_nothing; again = nothing_linked }
linked_judges place starts (x ∷ xs) =
    let here_is : Insn → Type 0 = λ i. link_placed starts x ≡ Some i in
    judges_same (After here_is (Front starts xs)) (Linked starts (x ∷ xs)) (linked place starts (x ∷ xs))
    (λ out h. some_all (link_placed starts x) (all_of (link_placed starts) xs) h.0 h.2.0 out h.1 h.2.1 h.2.2)
    (λ out h. all_is (link_placed starts x) (all_of (link_placed starts) xs) out h)
    (then_judges here_is (Front starts xs) (fit (place + x.0) Target (link_placed starts x)) (λ i. in_front (i ∷ []) (linked place starts xs)) (fit_judges (place + x.0) Target (link_placed starts x)) (λ i. front_judges starts xs (linked place starts xs) i (linked_judges place starts xs)))

-- ---- code

abbrev EndR : Run → List ℕ → Code → Type 0
EndR run text code = (out : List Insn) × Judged (Linked run.starts.starts run.placed) text out × ((let c : Code = (out, run.starts) in c) ≡ code)

code_to : (p : Pool) (n : ℕ) (text : List ℕ) (code : Code) → Then (IsRun p n) EndR text code → IsCode p n text code
code_to p n text code h =
    let run = h.0 in
    let end = h.5 in
    let r = h.4 in
    let alone : h.1 ≡ text = sym (h.3 ∙ ap (λ (z : List ℕ). h.1 ++ z) end.1.0 ∙ append-nil h.1) in
    subst (λ (z : Code). IsCode p n text z) end.2 (record {
      long = ap length (sym alone) ∙ r.long;
      insns_are = record { placed = run.placed; placed_are = subst (λ (z : List ℕ). ArePlaced p 0 z run.placed) alone r.placed_are; starts_are = sym r.starts_are; linked = end.1.1 };
      size_is = r.size_is;
    })

code_from : (p : Pool) (n : ℕ) (text : List ℕ) (code : Code) → IsCode p n text code → Then (IsRun p n) EndR text code
code_from p n text code h =
    let a = h.insns_are in
    let run : Run = record { placed = a.placed; starts = code.1 } in (
      run,
      text,
      [],
      sym (append-nil text),
      record { long = h.long; placed_are = a.placed_are; starts_are = sym a.starts_are; size_is = h.size_is },
      (code.0, (refl, a.linked), refl),
    )

pub insns_exact : (p : Pool) (n : ℕ) → Exact (IsCode p n) (insns p n)
unfolding insns
insns_exact p n =
    Exact-same (Then (IsRun p n) EndR) (IsCode p n) _ (code_to p n) (code_from p n)
    (here_exact _ _ (λ place.
    then_exact (IsRun p n) EndR (placed_in p n) _ (placed_exact p n) (λ run.
    mapped_exact (Judged (Linked run.starts.starts run.placed)) (lifted (linked place run.starts.starts run.placed)) (λ out. (let c : Code = (out, run.starts) in c)) (lifted_judges (Linked run.starts.starts run.placed) (linked place run.starts.starts run.placed) (linked_judges place run.starts.starts run.placed)))))

-- ---- what the function returns

pub is_found : (p : Pool) (n : ℕ) (i : In) (result : Result Code BadClass) (new : Input) → IsBytes i.rest → Gives result new (insns p n i) → IfOk result (λ code. (text : List ℕ) × (i.rest ≡ text ++ new.rest.now) × IsCode p n text code)
is_found p n i (Ok code) new bytes h = let t = (insns_exact p n).takes i code (seen new) bytes h in (t.text, t.parts, t.stands)
is_found p n i (Err e) new bytes h = tt

pub is_only : (p : Pool) (n : ℕ) (i : In) (result : Result Code BadClass) (new : Input) (text rest : List ℕ) (code : Code) → i.rest ≡ text ++ rest → IsCode p n text code → Gives result new (insns p n i)
    → MatchResult result (λ read. read ≡ code) (λ stop. stop ≡ errors.Memory)
is_only p n i (Ok read) new text rest code e is h =
    let again = ap (λ (z : List ℕ). insns p n (from i.at z)) e ∙ (insns_exact p n).again i.at text rest code is in
    (answer_is read code (seen new) (from (i.at + length text) rest) (sym h ∙ again)).0
is_only p n i (Err errors.Memory) new text rest code e is h = refl
is_only p n i (Err (errors.Bad place kind)) new text rest code e is h =
    let again = ap (λ (z : List ℕ). insns p n (from i.at z)) e ∙ (insns_exact p n).again i.at text rest code is in
    absurd (cc (again, h))
