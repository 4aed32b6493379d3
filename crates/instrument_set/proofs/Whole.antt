-- Whole runs: the prologue, and then one piece after the other.
use Rattle.std.proofs.Common.{◌≡◌, ℕ, zero, suc, ◌+◌, ◌-◌, ◌*◌, ◌<◌, ◌≤◌, ℤ, pos, List, [], ◌∷◌, ◌++◌, length, Option, Some, refl, sym, ap, ◌∙◌, subst, arith}
use Rattle.std.specs.Prelude.{slice_get, slice_set, map, replicate}
use Rattle.std.proofs.lemmas.Option.{same_Some, slice_get_within}
use Rattle.class_model.specs.declared.insn.Insn.{Insn}
use Rattle.run_state.specs.Words.{Word, Empty, Num, Ref}
use Rattle.run_state.specs.State.{Method, Frame, Areas, Waits, Outside, Ending, Running, Returned, Exit, Uncaught, InitFailed, Stuck, State, live}
use Rattle.run_state.specs.Looks.{Looks}
use Rattle.run_state.specs.Tags.{plain, tagged}
use Rattle.run_state.specs.Step.{going, step, run}
use Rattle.run_state.specs.Observation.{Seen, seen}
use Rattle.instrument_set.specs.Pieces.{pieces}
use Rattle.instrument_set.specs.Written.{cleared}
use Rattle.instrument_set.proofs.SlotLaws.{get_set_other, length_set}
use Rattle.instrument_set.proofs.Shadow.{Bare, bare, Shadows}
use Rattle.instrument_set.proofs.Runs.{HasAt, has_front, has_back, doing, Goes, stays, run_more, goes_on, sets}
use Rattle.instrument_set.proofs.Fine.{depths, place_0, next_place, laid, AreFine}
use Rattle.instrument_set.proofs.Root.{outside_at}
use Rattle.instrument_set.proofs.Sim.{HasNatives, HasReport, AreMarks, Setting, at, RelatedRun, RelatedAt, After, Next, simulates}

module _ (c : Setting) where
  abbrev old_step : State ℤ → State ℤ
  old_step s = step (tagged c.config) c.old s

  module _ (natives : HasNatives c.old) (new_natives : HasNatives c.new) (report : HasReport c.new) (marked : AreMarks c.config c.marks)
      (fine : AreFine c.main.locals c.words c.main.code) (stands : HasAt c.written.code c.front (pieces c.main.locals c.marks c.main.code 0)) where
    sim_insn : (insn : Insn) (o : Outside) (ar : Areas ℤ) (pc : ℕ) (ls st : List (Word ℤ)) (pls : Bare) → slice_get c.main.code pc ≡ Some insn
        → Shadows c.main.locals c.words ls st pls → slice_get (depths c.main.code 0) pc ≡ Some (length st) → o.phase ≡ Waits
        → After c (doing (tagged c.config) c.old (slice_get c.main.code pc) o ar c.main pc ls st []) (live o c.areas c.written (at c pc) pls (map bare st) [])
    sim_insn insn o ar pc ls st pls h r d w =
        let next : Next c pc (length st) insn = record { place = next_place c.main.locals c.marks c.front c.main.code 0 pc (length st) insn h d; depth = fine.next pc (length st) insn h d } in
        subst (λ (x : Option Insn). After c (doing (tagged c.config) c.old x o ar c.main pc ls st []) (live o c.areas c.written (at c pc) pls (map bare st) [])) (sym h)
        (simulates c natives new_natives report marked insn o ar pc ls st pls
        (laid c.main.locals c.marks c.written.code c.front c.main.code 0 stands pc (length st) insn h d) next r (fine.each pc (length st) insn h d) w)

    sim_frame : (f : Frame ℤ) (o : Outside) (ar : Areas ℤ) (p : State (Unit {0})) → RelatedRun c f o p
        → After c (doing (tagged c.config) c.old (slice_get f.method.code f.next) o ar f.method f.next f.locals f.stack []) p
    sim_frame f o ar p r =
        let found = fine.there f.next (length f.stack) r.depth in
        subst (λ (x : State (Unit {0})). After c (doing (tagged c.config) c.old (slice_get f.method.code f.next) o ar f.method f.next f.locals f.stack []) x) (sym r.is)
        (subst (λ (m : Method). After c (doing (tagged c.config) c.old (slice_get m.code f.next) o ar m f.next f.locals f.stack []) (live o c.areas c.written (at c f.next) r.pls (map bare f.stack) [])) (sym r.method)
        (sim_insn found.0 o ar f.next f.locals f.stack r.pls found.1 r.shadows r.depth r.waits))

    -- an ended run stays as it is
    sim_ended : (e : Ending) (x : Seen) (p : State (Unit {0})) → seen p ≡ x → going plain c.new e p ≡ p → x.ending ≡ e → seen (run plain c.new 1 p) ≡ x
    sim_ended e x p r still h = ap (λ (k : Ending). seen (going plain c.new k p)) (ap (λ (y : Seen). y.ending) r ∙ h) ∙ ap seen still ∙ r

    -- a step, from any two related states
    sim_step : (e : Ending) (fs : List (Frame ℤ)) (o : Outside) (ar : Areas ℤ) (p : State (Unit {0})) → RelatedAt c e fs (record { frames = fs; areas = ar; outside = o; ending = e }) p
        → After c (going (tagged c.config) c.old e (record { frames = fs; areas = ar; outside = o; ending = e })) p
    sim_step Running [] o ar p r = absurd r
    sim_step Running (f ∷ []) o ar p r = sim_frame f o ar p r
    sim_step Running (f ∷ g ∷ fs) o ar p r = absurd r
    sim_step Returned fs o ar p r = record { more = 0; leads = sim_ended Returned _ p r refl refl }
    sim_step (Exit k) fs o ar p r = record { more = 0; leads = sim_ended (Exit k) _ p r refl refl }
    sim_step (Uncaught k) fs o ar p r = record { more = 0; leads = sim_ended (Uncaught k) _ p r refl refl }
    sim_step (InitFailed k x) fs o ar p r = record { more = 0; leads = sim_ended (InitFailed k x) _ p r refl refl }
    sim_step Stuck fs o ar p r = record { more = 0; leads = sim_ended Stuck _ p r refl refl }

    -- any number of steps
    pub follows : (turns : ℕ) (s : State ℤ) (p : State (Unit {0})) → RelatedAt c s.ending s.frames s p
        → let z = run (tagged c.config) c.old turns s in (more : ℕ) × (turns ≤ more) × RelatedAt c z.ending z.frames z (run plain c.new more p)
    follows zero s p r = (0, omega arith, r)
    follows (suc turns) s p r =
        let a = sim_step s.ending s.frames s.outside s.areas p r in
        let z = run (tagged c.config) c.old turns (old_step s) in
        let b = follows turns (old_step s) (run plain c.new (suc a.more) p) a.leads in
        (suc a.more + b.0, omega (arith, b.1), subst (RelatedAt c z.ending z.frames z) (sym (run_more c.new (suc a.more) b.0 p)) b.2)

  -- related states show the same
  pub related_seen : (e : Ending) (fs : List (Frame ℤ)) (s : State ℤ) (p : State (Unit {0})) → RelatedAt c e fs s p → s.ending ≡ e → seen p ≡ seen s
  related_seen Running [] s p r h = absurd r
  related_seen Running (f ∷ []) s p r h = ap seen r.is ∙ ap (λ (e : Ending). record { console = s.outside.console; reports = s.outside.reports; ending = e }) (sym h)
  related_seen Running (f ∷ g ∷ fs) s p r h = absurd r
  related_seen Returned fs s p r h = r
  related_seen (Exit k) fs s p r h = r
  related_seen (Uncaught k) fs s p r h = r
  related_seen (InitFailed k x) fs s p r h = r
  related_seen Stuck fs s p r h = r

-- ---- the prologue

abbrev zeroed : Bare → ℕ → ℕ → Bare
zeroed pls from zero = pls
zeroed pls from (suc count) = zeroed (slice_set pls from (Num (pos 0) tt)) (from + 1) count

length_zeroed : (pls : Bare) (from count : ℕ) → length (zeroed pls from count) ≡ length pls
length_zeroed pls from zero = refl
length_zeroed pls from (suc count) = length_zeroed (slice_set pls from (Num (pos 0) tt)) (from + 1) count ∙ length_set pls from (Num (pos 0) tt)

get_zeroed : (pls : Bare) (from count i : ℕ) → i < from → slice_get (zeroed pls from count) i ≡ slice_get pls i
get_zeroed pls from zero i l = refl
get_zeroed pls from (suc count) i l = get_zeroed (slice_set pls from (Num (pos 0) tt)) (from + 1) count i (omega arith) ∙ get_set_other pls from i (Num (pos 0) tt) (omega arith)

clears : (L : Looks) (m : Method) (ar : Areas (Unit {0})) (o : Outside) (from count q : ℕ) (pls : Bare) → HasAt m.code q (cleared from count)
    → Goes L (2 * count) (live o ar m q pls [] []) (live o ar m (q + 2 * count) (zeroed pls from count) [] [])
clears L m ar o from zero q pls h =
    let place : q ≡ q + 2 * 0 = omega arith in
    subst (λ (k : ℕ). Goes L 0 (live o ar m q pls [] []) (live o ar m k pls [] [])) place (stays L _)
clears L m ar o from (suc count) q pls h =
    let steps : 2 + 2 * count ≡ 2 * suc count = omega arith in
    let place : q + 1 + 1 + 2 * count ≡ q + 2 * suc count = omega arith in
    let set : Bare = slice_set pls from (Num (pos 0) tt) in
    let last : State (Unit {0}) = live o ar m (q + 2 * suc count) (zeroed set (from + 1) count) [] [] in
    subst (λ (k : ℕ). Goes L k (live o ar m q pls [] []) last) steps
    (goes_on L 2 (2 * count) _ (live o ar m (q + 1 + 1) set [] []) last
    (sets L m ar o q from pls [] (pos 0) (h.0, (h.1.0, tt)))
    (subst (λ (k : ℕ). Goes L (2 * count) (live o ar m (q + 1 + 1) set [] []) (live o ar m k (zeroed set (from + 1) count) [] [])) place
    (clears L m ar o (from + 1) count (q + 1 + 1) set h.1.1)))

-- ---- from the start

get_replicate : {A : Type 0} (count i : ℕ) (x y : A) → slice_get (replicate count x) i ≡ Some y → x ≡ y
get_replicate zero i x y h = cc
get_replicate (suc count) zero x y h = same_Some x y h
get_replicate (suc count) (suc i) x y h = get_replicate count i x y h

replicate_get : {A : Type 0} (count i : ℕ) (x : A) → i < count → slice_get (replicate count x) i ≡ Some x
replicate_get zero i x h = absurd (omega arith)
replicate_get (suc count) zero x h = refl
replicate_get (suc count) (suc i) x h = replicate_get count i x (omega arith)

length_replicate : {A : Type 0} (count : ℕ) (x : A) → length (replicate count x) ≡ count
length_replicate zero x = refl
length_replicate (suc count) x = ap suc (length_replicate count x)

length_cleared : (from count : ℕ) → length (cleared from count) ≡ 2 * count
length_cleared from zero = refl
length_cleared from (suc count) = let q = length_cleared (from + 1) count in omega arith

has_behind : (x : Insn) (code : List Insn) (pc : ℕ) (insns : List Insn) → HasAt code pc insns → HasAt (x ∷ code) (suc pc) insns
has_behind x code pc [] h = tt
has_behind x code pc (i ∷ insns) h =
    let one : suc (pc + 1) ≡ suc pc + 1 = omega arith in
    (h.0, subst (λ (k : ℕ). HasAt (x ∷ code) k insns) one (has_behind x code (pc + 1) insns h.1))

has_whole : (code : List Insn) → HasAt code 0 code
has_whole [] = tt
has_whole (i ∷ insns) = (refl, has_behind i insns 0 insns (has_whole insns))

abbrev first_locals : {T : Type 0} → Method → List (Word T)
first_locals m = Ref 0 ∷ replicate (m.locals - m.params) Empty

first_values : (a b i : ℕ) (w : Word ℤ) → a ≤ b → slice_get (Ref 0 ∷ replicate a Empty) i ≡ Some w → slice_get (Ref 0 ∷ replicate b Empty) i ≡ Some (bare w)
first_values a b zero w l h = ap (λ (x : Word ℤ). Some (bare x)) (same_Some (Ref 0) w h)
first_values a b (suc i) w l h =
    let in_first : i < a = (let q = slice_get_within (replicate a Empty) i w h in let z = length_replicate {A = Word ℤ} a Empty in omega arith) in
    replicate_get b i Empty (omega arith) ∙ ap (λ (x : Word ℤ). Some (bare x)) (get_replicate a i Empty w h)

first_tags : (a i : ℕ) (v t : ℤ) → slice_get (Ref 0 ∷ replicate a Empty) i ≡ Some (Num v t) → ⊥
first_tags a zero v t h = let q : Ref 0 ≡ Num v t = same_Some (Ref 0) (Num v t) h in cc
first_tags a (suc i) v t h = let q : Empty ≡ Num v t = get_replicate a i Empty (Num v t) h in cc

-- `main` as it was and as it is written
pub record AreMains (c : Setting) : Type 0 where
  pub params : c.main.params ≡ 1
  pub written_params : c.written.params ≡ 1
  pub locals : 1 ≤ c.main.locals
  pub written_locals : c.written.locals ≡ 2 * c.main.locals + c.words + 8
  pub code : c.written.code ≡ cleared c.main.locals (c.main.locals + c.words) ++ pieces c.main.locals c.marks c.main.code 0
  pub front : c.front ≡ 2 * (c.main.locals + c.words)

module _ (c : Setting) (mains : AreMains c) where
  abbrev cleared_locals : Bare
  cleared_locals = zeroed (first_locals c.written) c.main.locals (c.main.locals + c.words)

  first_shadows : Shadows c.main.locals c.words (first_locals c.main) [] cleared_locals
  first_shadows =
      let few : c.main.locals - c.main.params ≤ c.written.locals - c.written.params = omega (arith, mains.params, mains.written_params, mains.written_locals) in
      let count : suc (c.main.locals - c.main.params) ≡ c.main.locals = omega (arith, mains.params, mains.locals) in
      let own : length (first_locals {T = ℤ} c.main) ≡ c.main.locals = ap suc (length_replicate {A = Word ℤ} (c.main.locals - c.main.params) Empty) ∙ count in
      record {
        sized = own;
        room =
            let all : length cleared_locals ≡ suc (c.written.locals - c.written.params) = length_zeroed (first_locals c.written) c.main.locals (c.main.locals + c.words) ∙ ap suc (length_replicate {A = Word (Unit {0})} (c.written.locals - c.written.params) Empty) in
            omega (arith, all, mains.written_params, mains.written_locals);
        values = λ i w h.
            let within : i < c.main.locals = (let q = slice_get_within (first_locals {T = ℤ} c.main) i w h in omega (arith, own)) in
            get_zeroed (first_locals c.written) c.main.locals (c.main.locals + c.words) i within
            ∙ first_values (c.main.locals - c.main.params) (c.written.locals - c.written.params) i w few h;
        tags = λ i v t h. absurd (first_tags (c.main.locals - c.main.params) i v t h);
        operands = tt;
      }

  module _ (natives : HasNatives c.old) (new_natives : HasNatives c.new) (report : HasReport c.new) (marked : AreMarks c.config c.marks)
      (fine : AreFine c.main.locals c.words c.main.code) where
    whole_stands : HasAt c.written.code 0 (cleared c.main.locals (c.main.locals + c.words) ++ pieces c.main.locals c.marks c.main.code 0)
    whole_stands = subst (λ (xs : List Insn). HasAt c.written.code 0 xs) mains.code (has_whole c.written.code)

    prologue_length : 0 + length (cleared c.main.locals (c.main.locals + c.words)) ≡ c.front
    prologue_length = omega (arith, length_cleared c.main.locals (c.main.locals + c.words), mains.front)

    pieces_stand : HasAt c.written.code c.front (pieces c.main.locals c.marks c.main.code 0)
    pieces_stand = subst (λ (k : ℕ). HasAt c.written.code k (pieces c.main.locals c.marks c.main.code 0)) prologue_length (has_back c.written.code 0 _ _ whole_stands)

    -- the written main behind its prologue is at the first piece
    first_related : (input : List ℕ) → RelatedRun c (record { method = c.main; next = 0; locals = first_locals c.main; stack = [] }) (outside_at input Waits)
        (run plain c.new (2 * (c.main.locals + c.words)) (live (outside_at input Waits) c.areas c.written 0 (first_locals c.written) [] []))
    first_related input =
        let goes = clears c.new c.written c.areas (outside_at input Waits) c.main.locals (c.main.locals + c.words) 0 (first_locals c.written) (has_front c.written.code 0 _ _ whole_stands) in
        let place : 0 + 2 * (c.main.locals + c.words) ≡ at c 0 = omega (arith, mains.front, place_0 c.main.locals c.marks c.front c.main.code 0) in
        record {
          pls = cleared_locals;
          is = goes.by ∙ ap (λ (q : ℕ). live (outside_at input Waits) c.areas c.written q cleared_locals [] []) place;
          shadows = first_shadows;
          depth = fine.begins;
          method = refl;
          waits = refl;
        }

    -- from the first instruction of both mains
    pub main_mirrors : (input : List ℕ) (ar : Areas ℤ) (turns : ℕ) → (more : ℕ) × (turns ≤ more)
        × (seen (run plain c.new more (live (outside_at input Waits) c.areas c.written 0 (first_locals c.written) [] []))
        ≡ seen (run (tagged c.config) c.old turns (live (outside_at input Waits) ar c.main 0 (first_locals c.main) [] [])))
    main_mirrors input ar turns =
        let front = 2 * (c.main.locals + c.words) in
        let s : State ℤ = live (outside_at input Waits) ar c.main 0 (first_locals c.main) [] [] in
        let p : State (Unit {0}) = live (outside_at input Waits) c.areas c.written 0 (first_locals c.written) [] [] in
        let a = follows c natives new_natives report marked fine pieces_stand turns s (run plain c.new front p) (first_related input) in
        let z = run (tagged c.config) c.old turns s in
        (front + a.0, omega (arith, a.1), ap seen (run_more c.new front a.0 p) ∙ related_seen c z.ending z.frames z (run plain c.new a.0 (run plain c.new front p)) a.2 refl)
