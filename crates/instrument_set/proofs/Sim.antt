-- Each piece does what its instruction does.
use Rattle.std.proofs.Common.{◌≡◌, ℕ, suc, ◌+◌, ◌-◌, ◌<◌, ◌≤◌, ℤ, pos, negsuc, Bool, true, false, List, [], ◌∷◌, ◌++◌, length, Option, Some, None, refl, sym, ap, ◌∙◌, subst, ⊎_elim, arith}
use Rattle.std.specs.Prelude.{slice_get, slice_set, map, codes, if◌then◌else◌}
use Rattle.class_model.specs.declared.types.MethodRef.{MethodRef}
use Rattle.class_model.specs.declared.insn.Kind.TheVariants as kind
use Rattle.class_model.specs.declared.insn.Width.TheVariants as width
use Rattle.class_model.specs.declared.insn.StackOp.TheVariants as stack
use Rattle.class_model.specs.declared.insn.InvokeKind.TheVariants as invoke
use Rattle.class_model.specs.declared.insn.BinOp.{BinOp}
use Rattle.class_model.specs.declared.insn.BinOp.TheVariants as operation
use Rattle.class_model.specs.declared.insn.Insn.{Insn}
use Rattle.class_model.specs.declared.insn.Insn.TheVariants.{PushInt, Load, Store, Stack, Bin, Return, Invoke}
use Rattle.run_state.specs.declared.config.Config.{Config}
use Rattle.run_state.specs.declared.report.Report.{Report}
use Rattle.run_state.specs.Numbers.{number_of, int_or, low_byte}
use Rattle.run_state.specs.Words.{Word, Empty, Num, Long, Half, Null, Ref}
use Rattle.run_state.specs.Words as words
use Rattle.run_state.specs.Natives as native
use Rattle.run_state.specs.State.{Method, Frame, Areas, Phase, Waits, Outside, Ending, Running, Returned, Exit, Uncaught, InitFailed, Stuck, State, live}
use Rattle.run_state.specs.Looks.{Looks}
use Rattle.run_state.specs.Tags.{plain, tagged, reported_by}
use Rattle.run_state.specs.Operands.{on_some, of_kind, dividing}
use Rattle.run_state.specs.Calls.{said, report_of, reading, root_goes_on}
use Rattle.run_state.specs.Step.{step, run}
use Rattle.run_state.specs.Observation.{seen}
use Rattle.instrument_set.specs.declared.marks.Marks.{Marks}
use Rattle.instrument_set.specs.Pieces.{report_ref, local_tag, word_tag, load, store, piece_of, after}
use Rattle.instrument_set.proofs.Natives.{ref_of, callee_of}
use Rattle.instrument_set.proofs.SlotLaws.{slice_get_short}
use Rattle.instrument_set.proofs.Shadow.{Bare, bare, Shadows, pushed, popped, stored}
use Rattle.instrument_set.proofs.Runs.{HasAt, doing, invoked, Goes, then_goes, stays, goes_on, does, loads, sets, copies, joins}
use Rattle.instrument_set.proofs.Fine.{NeverFails, Fine, FallsOn, depths, place}

-- a set has the natives of `sys/Native`, which need no beginning
pub record HasNatives (L : Looks) : Type 0 where
  pub read : L.method (ref_of native.Read) ≡ Some (callee_of native.Read 0)
  pub write : L.method (ref_of native.Write) ≡ Some (callee_of native.Write 1)
  pub begun : L.starts (codes "sys/Native") ≡ []

-- a set has the native that reports
pub record HasReport (L : Looks) : Type 0 where
  pub found : L.method report_ref ≡ Some (callee_of native.Report 3)
  pub begun : L.starts (codes "phosphor/Report") ≡ []

abbrev pub reports_of : Bool → ℤ → List Report
reports_of true t = report_of (pos 0) (pos 0) t ∷ []
reports_of false t = []

-- what the lists say of `read` and `write`
pub record AreMarks (k : Config) (marks : Marks) : Type 0 where
  pub read : (tagged k).marked (callee_of native.Read 0) (pos 0) ≡ marks.read
  pub write : (t : ℤ) → (tagged k).entered (callee_of native.Write 1) (t ∷ []) ≡ reports_of marks.write t

-- What a run of `main` stands on: the look-ups of both sets, the lists, `main` and the written one, its prologue's
-- length, and the areas of the written run, which no instruction of the form changes.
pub record Setting : Type 0 where
  pub old : Looks
  pub new : Looks
  pub config : Config
  pub marks : Marks
  pub main : Method
  pub written : Method
  pub words : ℕ
  pub front : ℕ
  pub areas : Areas (Unit {0})

abbrev pub at : Setting → ℕ → ℕ
at c pc = place c.main.locals c.marks c.front c.main.code 0 pc

abbrev pub frame_of : Setting → ℕ → List (Word ℤ) → List (Word ℤ) → Frame ℤ
frame_of c pc ls st = record { method = c.main; next = pc; locals = ls; stack = st }

-- the written run is at the piece of the instruction, with the values and the tags of the frame
pub record RelatedRun (c : Setting) (f : Frame ℤ) (o : Outside) (p : State (Unit {0})) : Type 0 where
  pub pls : Bare
  pub is : p ≡ live o c.areas c.written (at c f.next) pls (map bare f.stack) []
  pub shadows : Shadows c.main.locals c.words f.locals f.stack pls
  pub depth : slice_get (depths c.main.code 0) f.next ≡ Some (length f.stack)
  pub method : f.method ≡ c.main
  pub waits : o.phase ≡ Waits

-- a run that goes on is in `main`; a run that has ended shows what the written one shows
abbrev pub RelatedAt : Setting → Ending → List (Frame ℤ) → State ℤ → State (Unit {0}) → Type 0
RelatedAt c Running [] s p = ⊥
RelatedAt c Running (f ∷ []) s p = RelatedRun c f s.outside p
RelatedAt c Running (f ∷ g ∷ fs) s p = ⊥
RelatedAt c Returned fs s p = seen p ≡ seen s
RelatedAt c (Exit k) fs s p = seen p ≡ seen s
RelatedAt c (Uncaught k) fs s p = seen p ≡ seen s
RelatedAt c (InitFailed k x) fs s p = seen p ≡ seen s
RelatedAt c Stuck fs s p = seen p ≡ seen s

-- one step or more lead from x to a state that is related to s
pub record After (c : Setting) (s : State ℤ) (x : State (Unit {0})) : Type 0 where
  pub more : ℕ
  pub leads : RelatedAt c s.ending s.frames s (run plain c.new (suc more) x)

-- where the next instruction's piece is, and what it finds
pub record Next (c : Setting) (pc d : ℕ) (insn : Insn) : Type 0 where
  pub place : at c (pc + 1) ≡ at c pc + length (piece_of c.main.locals c.marks insn d)
  pub depth : FallsOn insn → slice_get (depths c.main.code 0) (pc + 1) ≡ Some (after insn d)

no_failure : {A : Type 0} (op : BinOp) → NeverFails op → (b : ℤ) (x y : A) → dividing op b x y ≡ y
no_failure operation.Add f b x y = refl
no_failure operation.Sub f b x y = refl
no_failure operation.Mul f b x y = refl
no_failure operation.Div f b x y = absurd f
no_failure operation.Rem f b x y = absurd f
no_failure operation.And f b x y = refl
no_failure operation.Or f b x y = refl
no_failure operation.Xor f b x y = refl

no_reports : (sink : Option ℕ) → reported_by sink [] ≡ []
no_reports None = refl
no_reports (Some n) = refl

module _ (c : Setting) where
  abbrev n : ℕ
  n = c.main.locals

  -- the written run at a place, where w is its main alone
  abbrev there : Outside → ℕ → Bare → Bare → State (Unit {0})
  there o q pls st = live o c.areas c.written q pls st []

  falls : (o : Outside) (ar : Areas ℤ) (m : ℕ) (x : State (Unit {0})) (pc q : ℕ) (ls st : List (Word ℤ)) (pls : Bare) → Goes c.new (suc m) x (there o q pls (map bare st)) → q ≡ at c pc → Shadows n c.words ls st pls → slice_get (depths c.main.code 0) pc ≡ Some (length st) → o.phase ≡ Waits → After c (live o ar c.main pc ls st []) x
  falls o ar m x pc q ls st pls g e r d w = record {
    more = m;
    leads = record { pls = pls; is = g.by ∙ ap (λ (a : ℕ). there o a pls (map bare st)) e; shadows = r; depth = d; method = refl; waits = w };
  }

  -- the piece of an instruction, where it stands, leads to what the instruction does
  abbrev Simulates : Insn → Outside → Areas ℤ → ℕ → List (Word ℤ) → List (Word ℤ) → Bare → Type 0
  Simulates i o ar pc ls st pls =
      HasAt c.written.code (at c pc) (piece_of n c.marks i (length st))
      → Next c pc (length st) i
      → Shadows n c.words ls st pls
      → Fine n c.words i (length st)
      → o.phase ≡ Waits
      → After c (doing (tagged c.config) c.old (Some i) o ar c.main pc ls st []) (there o (at c pc) pls (map bare st))

  sim_push : (v : ℤ) (o : Outside) (ar : Areas ℤ) (pc : ℕ) (ls st : List (Word ℤ)) (pls : Bare) → Simulates (PushInt v) o ar pc ls st pls
  sim_push v o ar pc ls st pls h e r f w =
      falls o ar 2 _ (pc + 1) (at c pc + 1 + 1 + 1) ls (Num v (pos 0) ∷ st) _
      (then_goes c.new 2 _ (there o (at c pc + 1) pls (Num v tt ∷ map bare st)) _ (does c.new c.written c.areas o (at c pc) pls (map bare st) (PushInt v) h.0)
      (sets c.new c.written c.areas o (at c pc + 1) (word_tag n (length st)) pls (Num v tt ∷ map bare st) (pos 0) h.1))
      (let q = e.place in omega arith)
      (pushed n c.words v (pos 0) _ ls st pls refl f r)
      (e.depth tt ∙ ap Some (omega arith))
      w

  sim_load_of : (i : ℕ) (x : Option (Word ℤ)) (o : Outside) (ar : Areas ℤ) (pc : ℕ) (ls st : List (Word ℤ)) (pls : Bare) → slice_get ls i ≡ x
      → HasAt c.written.code (at c pc) (piece_of n c.marks (load i) (length st)) → Next c pc (length st) (load i) → Shadows n c.words ls st pls → i < n → length st < c.words → o.phase ≡ Waits
      → After c (on_some o ar x (λ w. of_kind o ar kind.Int w (λ y. live o ar c.main (pc + 1) ls (words.pushed y st) []))) (there o (at c pc) pls (map bare st))
  sim_load_of i None o ar pc ls st pls g h e r l d w = absurd (let s = slice_get_short ls i g in let z = r.sized in omega arith)
  sim_load_of i (Some (Num v t)) o ar pc ls st pls g h e r l d w =
      falls o ar 2 _ (pc + 1) (at c pc + 1 + 1 + 1) ls (Num v t ∷ st) _
      (then_goes c.new 2 _ (there o (at c pc + 1) pls (Num v tt ∷ map bare st)) _ (loads c.new c.written c.areas o (at c pc) i pls (map bare st) v h.0 (r.values i (Num v t) g))
      (copies c.new c.written c.areas o (at c pc + 1) (local_tag n i) (word_tag n (length st)) pls (Num v tt ∷ map bare st) t h.1 (r.tags i v t g)))
      (let q = e.place in omega arith)
      (pushed n c.words v t _ ls st pls refl d r)
      (e.depth tt ∙ ap Some (omega arith))
      w
  sim_load_of i (Some x) o ar pc ls st pls g h e r l d w = record {
    more = 0;
    leads = ap seen (does c.new c.written c.areas o (at c pc) pls (map bare st) (load i) h.0
        ∙ ap (λ (y : Option (Word (Unit {0}))). on_some o c.areas y (λ w. of_kind o c.areas kind.Int w (λ z. there o (at c pc + 1) pls (words.pushed z (map bare st))))) (r.values i x g));
  }

  sim_load : (i : ℕ) (o : Outside) (ar : Areas ℤ) (pc : ℕ) (ls st : List (Word ℤ)) (pls : Bare) → Simulates (load i) o ar pc ls st pls
  sim_load i o ar pc ls st pls h e r f w = sim_load_of i (slice_get ls i) o ar pc ls st pls refl h e r f.0 f.1 w

  sim_store : (i : ℕ) (o : Outside) (ar : Areas ℤ) (pc : ℕ) (ls st : List (Word ℤ)) (pls : Bare) → Simulates (store i) o ar pc ls st pls
  sim_store i o ar pc ls [] pls h e r f w = absurd (let q = f.1 in omega arith)
  sim_store i o ar pc ls (Num v t ∷ st) pls h e r f w =
      let same : word_tag n (suc (length st) - 1) ≡ word_tag n (length st) = omega arith in
      let tagged_locals : Bare = slice_set pls (local_tag n i) (Num t tt) in
      falls o ar 2 _ (pc + 1) (at c pc + 1 + 1 + 1) (slice_set ls i (Num v t)) st _
      (goes_on c.new 2 1 _ (there o (at c pc + 1 + 1) tagged_locals (Num v tt ∷ map bare st)) _
      (copies c.new c.written c.areas o (at c pc) (word_tag n (suc (length st) - 1)) (local_tag n i) pls (Num v tt ∷ map bare st) t (h.0, (h.1.0, tt)) (ap (slice_get pls) same ∙ r.operands.0))
      (then_goes c.new 0 _ (there o (at c pc + 1 + 1 + 1) (slice_set tagged_locals i (Num v tt)) (map bare st)) _ (does c.new c.written c.areas o (at c pc + 1 + 1) tagged_locals (Num v tt ∷ map bare st) (store i) h.1.1.0) (stays c.new _)))
      (let q = e.place in omega arith)
      (stored n c.words v t i ls st pls f.0 (popped n c.words v t ls st pls r))
      (e.depth tt ∙ ap Some (omega arith))
      w
  sim_store i o ar pc ls (_ ∷ st) pls h e r f w = absurd r.operands

  sim_pop : (o : Outside) (ar : Areas ℤ) (pc : ℕ) (ls st : List (Word ℤ)) (pls : Bare) → Simulates (Stack stack.Pop) o ar pc ls st pls
  sim_pop o ar pc ls [] pls h e r f w = absurd (let q = f in omega arith)
  sim_pop o ar pc ls (Num v t ∷ st) pls h e r f w =
      falls o ar 0 _ (pc + 1) (at c pc + 1) ls st pls
      (then_goes c.new 0 _ (there o (at c pc + 1) pls (map bare st)) _ (does c.new c.written c.areas o (at c pc) pls (Num v tt ∷ map bare st) (Stack stack.Pop) h.0) (stays c.new _))
      (let q = e.place in omega arith)
      (popped n c.words v t ls st pls r)
      (e.depth tt ∙ ap Some (omega arith))
      w
  sim_pop o ar pc ls (_ ∷ st) pls h e r f w = absurd r.operands

  sim_bin : (op : BinOp) (o : Outside) (ar : Areas ℤ) (pc : ℕ) (ls st : List (Word ℤ)) (pls : Bare) → Simulates (Bin width.Int op) o ar pc ls st pls
  sim_bin op o ar pc ls [] pls h e r f w = absurd (let q = f.1 in omega arith)
  sim_bin op o ar pc ls (Num b u ∷ []) pls h e r f w = absurd (let q = f.1 in omega arith)
  sim_bin op o ar pc ls (Num b u ∷ Num a t ∷ st) pls h e r f w =
      let below : word_tag n (suc (suc (length st)) - 2) ≡ word_tag n (length st) = omega arith in
      let above : word_tag n (suc (suc (length st)) - 1) ≡ word_tag n (suc (length st)) = omega arith in
      let result = number_of width.Int op a b in
      subst (λ (s : State ℤ). After c s (there o (at c pc) pls (Num b tt ∷ Num a tt ∷ map bare st))) (sym (no_failure op f.0 b _ (live o ar c.main (pc + 1) ls (Num result (int_or t u) ∷ st) [])))
      (falls o ar 4 _ (pc + 1) (at c pc + 1 + 1 + 1 + 1 + 1) ls (Num result (int_or t u) ∷ st) _
      (then_goes c.new 4 _ (there o (at c pc + 1) pls (Num result tt ∷ map bare st)) _
      (does c.new c.written c.areas o (at c pc) pls (Num b tt ∷ Num a tt ∷ map bare st) (Bin width.Int op) h.0 ∙ no_failure op f.0 b _ _)
      (joins c.new c.written c.areas o (at c pc + 1) _ _ _ pls (Num result tt ∷ map bare st) t u h.1 (ap (slice_get pls) below ∙ r.operands.1.0) (ap (slice_get pls) above ∙ r.operands.0)))
      (let q = e.place in omega arith)
      (pushed n c.words result (int_or t u) _ ls st pls below (let z = f.1 in let q = f.2 in omega arith) (popped n c.words a t ls st pls (popped n c.words b u ls (Num a t ∷ st) pls r)))
      (e.depth tt ∙ ap Some (omega arith))
      w)
  sim_bin op o ar pc ls (Num b u ∷ _ ∷ st) pls h e r f w = absurd r.operands.1
  sim_bin op o ar pc ls (_ ∷ st) pls h e r f w = absurd r.operands

  sim_return : (o : Outside) (ar : Areas ℤ) (pc : ℕ) (ls st : List (Word ℤ)) (pls : Bare) → Simulates (Return None) o ar pc ls st pls
  sim_return o ar pc ls st pls h e r f w =
      subst (λ (ph : Phase). After c (root_goes_on ph o ar) (there o (at c pc) pls (map bare st))) (sym w)
      (record { more = 0; leads = ap seen (does c.new c.written c.areas o (at c pc) pls (map bare st) (Return None) h.0 ∙ ap (λ (ph : Phase). root_goes_on ph o c.areas) w) })

  module _ (natives : HasNatives c.old) (new_natives : HasNatives c.new) (report : HasReport c.new) (marked : AreMarks c.config c.marks) where
    reads : (is : List ℕ) (o : Outside) (ar : Areas ℤ) (pc : ℕ) (ls st : List (Word ℤ)) (pls : Bare) (x : State (Unit {0}))
        → step plain c.new x ≡ reading plain c.new is (callee_of native.Read 0) o c.areas c.written (at c pc) pls (map bare st) []
        → HasAt c.written.code (at c pc + 1) (PushInt c.marks.read ∷ store (word_tag n (length st)) ∷ [])
        → at c (pc + 1) ≡ at c pc + 3 → slice_get (depths c.main.code 0) (pc + 1) ≡ Some (length st + 1) → Shadows n c.words ls st pls → length st < c.words → o.phase ≡ Waits
        → After c (reading (tagged c.config) c.old is (callee_of native.Read 0) o ar c.main pc ls st []) x
    reads [] o ar pc ls st pls x by h e d r f w =
        subst (λ (t : ℤ). After c (live o ar c.main (pc + 1) ls (Num (negsuc 0) t ∷ st) []) x) (sym marked.read)
        (falls o ar 2 x (pc + 1) (at c pc + 1 + 1 + 1) ls (Num (negsuc 0) c.marks.read ∷ st) _
        (then_goes c.new 2 x (there o (at c pc + 1) pls (Num (negsuc 0) tt ∷ map bare st)) _ by
        (sets c.new c.written c.areas o (at c pc + 1) (word_tag n (length st)) pls (Num (negsuc 0) tt ∷ map bare st) c.marks.read h))
        (omega arith)
        (pushed n c.words (negsuc 0) c.marks.read _ ls st pls refl f r)
        (d ∙ ap Some (omega arith))
        w)
    reads (b ∷ bs) o ar pc ls st pls x by h e d r f w =
        let after_byte : Outside = record o { input = bs } in
        subst (λ (t : ℤ). After c (live after_byte ar c.main (pc + 1) ls (Num (pos b) t ∷ st) []) x) (sym marked.read)
        (falls after_byte ar 2 x (pc + 1) (at c pc + 1 + 1 + 1) ls (Num (pos b) c.marks.read ∷ st) _
        (then_goes c.new 2 x (there after_byte (at c pc + 1) pls (Num (pos b) tt ∷ map bare st)) _ by
        (sets c.new c.written c.areas after_byte (at c pc + 1) (word_tag n (length st)) pls (Num (pos b) tt ∷ map bare st) c.marks.read h))
        (omega arith)
        (pushed n c.words (pos b) c.marks.read _ ls st pls refl f r)
        (d ∙ ap Some (omega arith))
        w)

    sim_read : (o : Outside) (ar : Areas ℤ) (pc : ℕ) (ls st : List (Word ℤ)) (pls : Bare)
        → HasAt c.written.code (at c pc) (piece_of n c.marks (Invoke invoke.Static (ref_of native.Read)) (length st)) → Next c pc (length st) (Invoke invoke.Static (ref_of native.Read))
        → Shadows n c.words ls st pls → length st < c.words → o.phase ≡ Waits
        → After c (doing (tagged c.config) c.old (Some (Invoke invoke.Static (ref_of native.Read))) o ar c.main pc ls st []) (there o (at c pc) pls (map bare st))
    sim_read o ar pc ls st pls h e r f w =
        let here : State (Unit {0}) = there o (at c pc) pls (map bare st) in
        let enters : doing (tagged c.config) c.old (Some (Invoke invoke.Static (ref_of native.Read))) o ar c.main pc ls st [] ≡ reading (tagged c.config) c.old o.input (callee_of native.Read 0) o ar c.main pc ls st [] =
        invoked (tagged c.config) c.old o ar c.main pc ls st [] (ref_of native.Read) (callee_of native.Read 0) natives.read natives.begun
        ∙ ap (λ (rs : List Report). reading (tagged c.config) c.old (said o rs).input (callee_of native.Read 0) (said o rs) ar c.main pc ls st []) (no_reports _) in
        let goes : step plain c.new here ≡ reading plain c.new o.input (callee_of native.Read 0) o c.areas c.written (at c pc) pls (map bare st) [] =
        does c.new c.written c.areas o (at c pc) pls (map bare st) (Invoke invoke.Static (ref_of native.Read)) h.0
        ∙ invoked plain c.new o c.areas c.written (at c pc) pls (map bare st) [] (ref_of native.Read) (callee_of native.Read 0) new_natives.read new_natives.begun in
        subst (λ (s : State ℤ). After c s here) (sym enters) (reads o.input o ar pc ls st pls here goes h.1 e.place (e.depth tt) r f w)

    -- a byte is written by the written run
    writes : (o : Outside) (q : ℕ) (pls : Bare) (v : ℤ) (st : Bare) → slice_get c.written.code q ≡ Some (Invoke invoke.Static (ref_of native.Write))
        → step plain c.new (there o q pls (Num v tt ∷ st)) ≡ there (record o { console = o.console ++ low_byte v ∷ [] }) (q + 1) pls st
    writes o q pls v st h =
        does c.new c.written c.areas o q pls (Num v tt ∷ st) (Invoke invoke.Static (ref_of native.Write)) h
        ∙ invoked plain c.new o c.areas c.written q pls (Num v tt ∷ st) [] (ref_of native.Write) (callee_of native.Write 1) new_natives.write new_natives.begun

    -- a report of the written run
    tells : (o : Outside) (q : ℕ) (pls : Bare) (t : ℤ) (st : Bare) → slice_get c.written.code q ≡ Some (Invoke invoke.Static report_ref)
        → step plain c.new (there o q pls (Num t tt ∷ Num (pos 0) tt ∷ Num (pos 0) tt ∷ st)) ≡ there (said o (report_of (pos 0) (pos 0) t ∷ [])) (q + 1) pls st
    tells o q pls t st h =
        does c.new c.written c.areas o q pls (Num t tt ∷ Num (pos 0) tt ∷ Num (pos 0) tt ∷ st) (Invoke invoke.Static report_ref) h
        ∙ invoked plain c.new o c.areas c.written q pls (Num t tt ∷ Num (pos 0) tt ∷ Num (pos 0) tt ∷ st) [] report_ref (callee_of native.Report 3) report.found report.begun

    sim_listed : (b : Bool) (o : Outside) (ar : Areas ℤ) (pc : ℕ) (ls st : List (Word ℤ)) (pls : Bare) (v t : ℤ) (slot : ℕ) → slot ≡ word_tag n (length st)
        → HasAt c.written.code (at c pc) ((if b then PushInt (pos 0) ∷ PushInt (pos 0) ∷ load slot ∷ Invoke invoke.Static report_ref ∷ [] else []) ++ Invoke invoke.Static (ref_of native.Write) ∷ [])
        → at c (pc + 1) ≡ at c pc + length ((if b then PushInt (pos 0) ∷ PushInt (pos 0) ∷ load slot ∷ Invoke invoke.Static report_ref ∷ [] else []) ++ Invoke invoke.Static (ref_of native.Write) ∷ [])
        → Shadows n c.words ls (Num v t ∷ st) pls → slice_get (depths c.main.code 0) (pc + 1) ≡ Some (length st) → o.phase ≡ Waits
        → After c (live (record (said o (reports_of b t)) { console = (said o (reports_of b t)).console ++ low_byte v ∷ [] }) ar c.main (pc + 1) ls st []) (there o (at c pc) pls (Num v tt ∷ map bare st))
    sim_listed false o ar pc ls st pls v t slot same h e r d w =
        falls (record o { console = o.console ++ low_byte v ∷ [] }) ar 0 _ (pc + 1) (at c pc + 1) ls st pls
        (then_goes c.new 0 _ (there (record o { console = o.console ++ low_byte v ∷ [] }) (at c pc + 1) pls (map bare st)) _ (writes o (at c pc) pls v (map bare st) h.0) (stays c.new _))
        (omega arith) (popped n c.words v t ls st pls r) d w
    sim_listed true o ar pc ls st pls v t slot same h e r d w =
        let st0 : Bare = Num v tt ∷ map bare st in
        let told : Outside = said o (report_of (pos 0) (pos 0) t ∷ []) in
        let done : Outside = record told { console = told.console ++ low_byte v ∷ [] } in
        let q = at c pc in
        falls done ar 4 _ (pc + 1) (at c pc + 1 + 1 + 1 + 1 + 1) ls st pls
        (then_goes c.new 4 _ (there o (q + 1) pls (Num (pos 0) tt ∷ st0)) _ (does c.new c.written c.areas o q pls st0 (PushInt (pos 0)) h.0)
        (then_goes c.new 3 _ (there o (q + 1 + 1) pls (Num (pos 0) tt ∷ Num (pos 0) tt ∷ st0)) _ (does c.new c.written c.areas o (q + 1) pls (Num (pos 0) tt ∷ st0) (PushInt (pos 0)) h.1.0)
        (then_goes c.new 2 _ (there o (q + 1 + 1 + 1) pls (Num t tt ∷ Num (pos 0) tt ∷ Num (pos 0) tt ∷ st0)) _ (loads c.new c.written c.areas o (q + 1 + 1) slot pls (Num (pos 0) tt ∷ Num (pos 0) tt ∷ st0) t h.1.1.0 (ap (slice_get pls) same ∙ r.operands.0))
        (then_goes c.new 1 _ (there told (q + 1 + 1 + 1 + 1) pls st0) _ (tells o (q + 1 + 1 + 1) pls t st0 h.1.1.1.0)
        (then_goes c.new 0 _ (there done (q + 1 + 1 + 1 + 1 + 1) pls (map bare st)) _ (writes told (q + 1 + 1 + 1 + 1) pls v (map bare st) h.1.1.1.1.0) (stays c.new _))))))
        (omega arith) (popped n c.words v t ls st pls r) d w

    sim_write : (o : Outside) (ar : Areas ℤ) (pc : ℕ) (ls st : List (Word ℤ)) (pls : Bare)
        → HasAt c.written.code (at c pc) (piece_of n c.marks (Invoke invoke.Static (ref_of native.Write)) (length st)) → Next c pc (length st) (Invoke invoke.Static (ref_of native.Write))
        → Shadows n c.words ls st pls → 1 ≤ length st → o.phase ≡ Waits
        → After c (doing (tagged c.config) c.old (Some (Invoke invoke.Static (ref_of native.Write))) o ar c.main pc ls st []) (there o (at c pc) pls (map bare st))
    sim_write o ar pc ls [] pls h e r f w = absurd (let q = f in omega arith)
    sim_write o ar pc ls (Num v t ∷ st) pls h e r f w =
        let here : State (Unit {0}) = there o (at c pc) pls (Num v tt ∷ map bare st) in
        let enters : doing (tagged c.config) c.old (Some (Invoke invoke.Static (ref_of native.Write))) o ar c.main pc ls (Num v t ∷ st) []
        ≡ live (record (said o (reports_of c.marks.write t)) { console = (said o (reports_of c.marks.write t)).console ++ low_byte v ∷ [] }) ar c.main (pc + 1) ls st [] =
        invoked (tagged c.config) c.old o ar c.main pc ls (Num v t ∷ st) [] (ref_of native.Write) (callee_of native.Write 1) natives.write natives.begun
        ∙ ap (λ (rs : List Report). live (record (said o rs) { console = (said o rs).console ++ low_byte v ∷ [] }) ar c.main (pc + 1) ls st []) (marked.write t) in
        subst (λ (s : State ℤ). After c s here) (sym enters)
        (sim_listed c.marks.write o ar pc ls st pls v t (word_tag n (suc (length st) - 1)) (omega arith) h e.place r (e.depth tt ∙ ap Some (omega arith)) w)
    sim_write o ar pc ls (_ ∷ st) pls h e r f w = absurd r.operands

    sim_call : (method : MethodRef) (o : Outside) (ar : Areas ℤ) (pc : ℕ) (ls st : List (Word ℤ)) (pls : Bare) → Simulates (Invoke invoke.Static method) o ar pc ls st pls
    sim_call method o ar pc ls st pls h e r f w =
        ⊎_elim
        (λ q. subst (λ (m : MethodRef). HasAt c.written.code (at c pc) (piece_of n c.marks (Invoke invoke.Static m) (length st)) → Next c pc (length st) (Invoke invoke.Static m)
        → After c (doing (tagged c.config) c.old (Some (Invoke invoke.Static m)) o ar c.main pc ls st []) (there o (at c pc) pls (map bare st))) (sym q.0)
        (λ h1 e1. sim_read o ar pc ls st pls h1 e1 r q.1 w) h e)
        (λ q. subst (λ (m : MethodRef). HasAt c.written.code (at c pc) (piece_of n c.marks (Invoke invoke.Static m) (length st)) → Next c pc (length st) (Invoke invoke.Static m)
        → After c (doing (tagged c.config) c.old (Some (Invoke invoke.Static m)) o ar c.main pc ls st []) (there o (at c pc) pls (map bare st))) (sym q.0)
        (λ h1 e1. sim_write o ar pc ls st pls h1 e1 r q.1 w) h e)
        f

    -- each instruction
    pub simulates : (i : Insn) (o : Outside) (ar : Areas ℤ) (pc : ℕ) (ls st : List (Word ℤ)) (pls : Bare) → Simulates i o ar pc ls st pls
    simulates (PushInt v) o ar pc ls st pls = sim_push v o ar pc ls st pls
    simulates (Load kind.Int i) o ar pc ls st pls = sim_load i o ar pc ls st pls
    simulates (Store kind.Int i) o ar pc ls st pls = sim_store i o ar pc ls st pls
    simulates (Stack stack.Pop) o ar pc ls st pls = sim_pop o ar pc ls st pls
    simulates (Bin width.Int op) o ar pc ls st pls = sim_bin op o ar pc ls st pls
    simulates (Invoke invoke.Static m) o ar pc ls st pls = sim_call m o ar pc ls st pls
    simulates (Return None) o ar pc ls st pls = sim_return o ar pc ls st pls
    simulates i o ar pc ls st pls = λ h e r f w. absurd f
