-- The natives, as the machine shows them.
use Rattle.std.proofs.Common.{◌≡◌, ℕ, ◌+◌, ◌-◌, ◌<◌, ◌≤◌, ℤ, pos, negsuc, List, [], ◌∷◌, ◌++◌, map, length, take, drop, reverse, get_or, Option, Some, None, refl, ap, sym, ◌∙◌, subst, arith}
use Rattle.std.specs.Prelude.{slice_get, Bool, true, false}
use Rattle.std.proofs.lemmas.List.{append-nil, length-reverse, length-take-le, get_or-reverse, get_or-take}
use Rattle.std.proofs.lemmas.Option.{slice_get-get_or, slice_get_past}
use Rattle.run_state.specs.Numbers.{low_byte}
use Rattle.run_state.specs.Natives.{Native}
use Rattle.run_state.specs.Natives as native
use Rattle.run_state.specs.Words.{Word, Empty, Num}
use Rattle.run_state.specs.State.{State, live}
use Rattle.run_state.specs.Calls.{natively, reading, report_of}
use Rattle.machine_words.specs.Tops.{as_int}
use Rattle.machine_frames.specs.declared.frame.Frame.{Frame}
use Rattle.linked_code.specs.declared.program.Program.{Program}
use Rattle.linked_code.specs.World.{World, tags_of}
use Rattle.linked_code.specs.Links.{Links}
use Rattle.machine.specs.declared.state.Machine.{Machine}
use Rattle.machine.specs.declared.state.Ending.TheVariants as ending
use Rattle.machine.specs.Shown.{shown, frame_of, areas_of, outside_of, input_of}
use Rattle.machine.specs.Called.{argument, input_read, native_at}
use Rattle.machine.specs.Turned.{Behind, TookFirst}
use Rattle.machine.proofs.KindTops.{int_on, int_off}
use Rattle.machine.proofs.Places.{first_of_rest}
use Rattle.machine.proofs.Steps.{shown_live}
use Rattle.machine.proofs.TakenArguments.{args_there}

module _ {T : Type 0} where
  pub argument_at : (st : List (Word T)) (words k at : ℕ) → words ≤ length st → k < words → at ≡ words - 1 - k → slice_get st at ≡ argument st words k
  argument_at st words k at fit below e =
      let xs = take words st in
      let long : length xs ≡ words = length-take-le words st fit in
      let turned : length (reverse xs) ≡ words = length-reverse xs ∙ long in
      let here : length xs - 1 - k ≡ at = omega arith in
      slice_get-get_or st at Empty (omega arith)
      ∙ ap Some (sym (get_or-reverse xs k Empty (omega arith) ∙ ap (λ j. get_or xs j Empty) here ∙ get_or-take words st at Empty (omega arith)))
      ∙ sym (slice_get-get_or (reverse xs) k Empty (omega arith))

  pub argument_past : (st : List (Word T)) (words k : ℕ) → words ≤ length st → words ≤ k → None ≡ as_int (argument st words k)
  argument_past st words k fit past =
      let turned : length (reverse (take words st)) ≡ words = length-reverse (take words st) ∙ length-take-le words st fit in
      sym (ap as_int (slice_get_past (reverse (take words st)) k (omega arith)))

  pub args_long : (st : List (Word T)) (words : ℕ) → words ≤ length st → length (reverse (take words st)) ≡ words
  args_long st words fit = length-reverse (take words st) ∙ length-take-le words st fit

  one_on : (xs : List (Word T)) → slice_get (drop 1 xs) 1 ≡ slice_get xs 2
  one_on [] = refl
  one_on (x ∷ xs) = refl

pub not_fed : (q : Option ℕ) (closed : Bool) → input_read q closed ≡ None → q ≡ None
not_fed None closed e = refl
not_fed (Some b) closed e = cc

module _ {T : Type 0} (none : T) (join : T → T → T) (w : World T) (m : Machine T) (more : List ℕ) (n words : ℕ) (there : words ≤ length m.top.stack) where
  args : List (Word T)
  args = reverse (take words m.top.stack)

  -- with the arguments
  given : (k : Native) → native_at none join w m more k n words
      ≡ natively (tags_of none join w) w.looks k (w.method n) args (outside_of w m more) (areas_of w m.areas) (w.method m.top.method) m.top.next m.top.locals (drop words m.top.stack) (map (frame_of w) m.below)
  unfolding args
  given k =
      args_there (outside_of w m more) (areas_of w m.areas) words m.top.stack [] _ there
      ∙ ap (λ (q : List (Word T)). natively (tags_of none join w) w.looks k (w.method n) q (outside_of w m more) (areas_of w m.areas) (w.method m.top.method) m.top.next m.top.locals (drop words m.top.stack) (map (frame_of w) m.below)) (append-nil (reverse (take words m.top.stack)))

  pub given_args : (k : Native) → native_at none join w m more k n words
      ≡ natively (tags_of none join w) w.looks k (w.method n) (reverse (take words m.top.stack)) (outside_of w m more) (areas_of w m.areas) (w.method m.top.method) m.top.next m.top.locals (drop words m.top.stack) (map (frame_of w) m.below)
  unfolding args
  given_args k = given k

  module _ (framed : m.framed ≡ true) (running : m.ending ≡ ending.Running) where
    read_on : (v : ℤ) (new : Machine T) → new ≡ record m { top = new.top; fed = None } → new.top ≡ record m.top { next = m.top.next + 1; stack = Num v none ∷ drop words m.top.stack }
        → shown w new more ≡ live (record (outside_of w m more) { input = more }) (areas_of w m.areas) (w.method m.top.method) (m.top.next + 1) m.top.locals (Num v none ∷ drop words m.top.stack) (map (frame_of w) m.below)
    read_on v new others top =
        ap (λ (x : Machine T). shown w x more) others
        ∙ shown_live none join w (record m { top = new.top; fed = None }) more framed running
        ∙ ap (λ (f : Frame T). live (record (outside_of w m more) { input = more }) (areas_of w m.areas) (w.method f.method) f.next f.locals f.stack (map (frame_of w) m.below)) top

    pub read_byte : (p : Program T) (b : ℕ) (new : Machine T) → Links none w p → m.fed ≡ Some b → new ≡ record m { top = new.top; fed = None }
        → new.top ≡ record m.top { next = m.top.next + 1; stack = Num (pos b) none ∷ drop words m.top.stack } → shown w new more ≡ native_at none join w m more native.Read n words
    read_byte p b new links fed others top =
        let o = outside_of w m more in
        let rest = drop words m.top.stack in
        read_on (pos b) new others top
        ∙ ap (λ t. live (record o { input = more }) (areas_of w m.areas) (w.method m.top.method) (m.top.next + 1) m.top.locals (Num (pos b) t ∷ rest) (map (frame_of w) m.below)) (sym (links.unmarked (w.method n) none))
        ∙ sym (given native.Read ∙ ap (λ q. reading (tags_of none join w) w.looks (input_of q more) (w.method n) o (areas_of w m.areas) (w.method m.top.method) m.top.next m.top.locals rest (map (frame_of w) m.below)) fed)

    pub read_end : (p : Program T) (new : Machine T) → Links none w p → m.fed ≡ None → more ≡ [] → new ≡ record m { top = new.top; fed = None }
        → new.top ≡ record m.top { next = m.top.next + 1; stack = Num (negsuc 0) none ∷ drop words m.top.stack } → shown w new more ≡ native_at none join w m more native.Read n words
    read_end p new links fed over others top =
        let o = outside_of w m more in
        let rest = drop words m.top.stack in
        let input : input_of m.fed more ≡ more = ap (λ q. input_of q more) fed in
        let same : o ≡ record o { input = more } = ap (λ (q : List ℕ). record o { input = q }) input in
        read_on (negsuc 0) new others top
        ∙ ap (λ t. live (record o { input = more }) (areas_of w m.areas) (w.method m.top.method) (m.top.next + 1) m.top.locals (Num (negsuc 0) t ∷ rest) (map (frame_of w) m.below)) (sym (links.unmarked (w.method n) none))
        ∙ ap (λ x. live x (areas_of w m.areas) (w.method m.top.method) (m.top.next + 1) m.top.locals (Num (negsuc 0) (w.marked (w.method n) none) ∷ rest) (map (frame_of w) m.below)) (sym same)
        ∙ sym (given native.Read ∙ ap (λ q. reading (tags_of none join w) w.looks q (w.method n) o (areas_of w m.areas) (w.method m.top.method) m.top.next m.top.locals rest (map (frame_of w) m.below)) (input ∙ over))

    pub read_known : (p : Program T) (closed : Bool) (q : Option ℕ) (v : ℤ) (new : Machine T) → Links none w p → Behind closed more → m.fed ≡ q → input_read q closed ≡ Some v → new ≡ record m { top = new.top; fed = None }
        → new.top ≡ record m.top { next = m.top.next + 1; stack = Num v none ∷ drop words m.top.stack } → shown w new more ≡ native_at none join w m more native.Read n words
    read_known p closed (Some b) v new links behind fed e others top =
        let is : v ≡ pos b = cc in
        read_byte p b new links fed others (top ∙ ap (λ x. record m.top { next = m.top.next + 1; stack = Num x none ∷ drop words m.top.stack }) is)
    read_known p true None v new links behind fed e others top =
        let is : v ≡ negsuc 0 = cc in
        read_end p new links fed behind others (top ∙ ap (λ x. record m.top { next = m.top.next + 1; stack = Num x none ∷ drop words m.top.stack }) is)
    read_known p false None v new links behind fed e others top = cc

    pub wrote : (v : ℤ) (t : T) (b : ℕ) (new : Machine T) → as_int (argument m.top.stack words 0) ≡ Some (v, t) → b ≡ low_byte v → new ≡ record m { top = new.top; console = m.console ++ b ∷ [] }
        → new.top ≡ record m.top { next = m.top.next + 1; stack = drop words m.top.stack } → shown w new more ≡ native_at none join w m more native.Write n words
    unfolding args
    wrote v t b new e low others top =
        let o = outside_of w m more in
        ap (λ (x : Machine T). shown w x more) others
        ∙ shown_live none join w (record m { top = new.top; console = m.console ++ b ∷ [] }) more framed running
        ∙ ap (λ (f : Frame T). live (record o { console = m.console ++ b ∷ [] }) (areas_of w m.areas) (w.method f.method) f.next f.locals f.stack (map (frame_of w) m.below)) top
        ∙ ap (λ q. live (record o { console = m.console ++ q ∷ [] }) (areas_of w m.areas) (w.method m.top.method) (m.top.next + 1) m.top.locals (drop words m.top.stack) (map (frame_of w) m.below)) low
        ∙ sym (given native.Write ∙ int_on o (areas_of w m.areas) args _ v t e)

  -- a read that waits takes the first byte that comes
  took : (xs : List ℕ) (q : Option ℕ) → q ≡ None
      → TookFirst xs (reading (tags_of none join w) w.looks (input_of q xs) (w.method n) (outside_of w m xs) (areas_of w m.areas) (w.method m.top.method) m.top.next m.top.locals (drop words m.top.stack) (map (frame_of w) m.below)).outside.input
  took [] q e = tt
  took (b ∷ xs) None e = refl
  took (b ∷ xs) (Some c) e = cc

  pub read_waits : m.fed ≡ None → TookFirst more (native_at none join w m more native.Read n words).outside.input
  read_waits nothing = subst (λ (s : State T). TookFirst more s.outside.input) (sym (given native.Read)) (took more m.fed nothing)

  pub write_stuck : (new : Machine T) → as_int (argument m.top.stack words 0) ≡ None → new ≡ record m { framed = false; ending = ending.Stuck } → shown w new more ≡ native_at none join w m more native.Write n words
  unfolding args
  write_stuck new e is = ap (λ (x : Machine T). shown w x more) is ∙ sym (given native.Write ∙ int_off (outside_of w m more) (areas_of w m.areas) args _ e)

  pub exited : (v : ℤ) (t : T) (new : Machine T) → as_int (argument m.top.stack words 0) ≡ Some (v, t) → new ≡ record m { framed = false; ending = ending.Exit v } → shown w new more ≡ native_at none join w m more native.Exit n words
  unfolding args
  exited v t new e is = ap (λ (x : Machine T). shown w x more) is ∙ sym (given native.Exit ∙ int_on (outside_of w m more) (areas_of w m.areas) args _ v t e)

  pub exit_stuck : (new : Machine T) → as_int (argument m.top.stack words 0) ≡ None → new ≡ record m { framed = false; ending = ending.Stuck } → shown w new more ≡ native_at none join w m more native.Exit n words
  unfolding args
  exit_stuck new e is = ap (λ (x : Machine T). shown w x more) is ∙ sym (given native.Exit ∙ int_off (outside_of w m more) (areas_of w m.areas) args _ e)

  -- the second and the third argument
  second : (q : Option (ℤ × T)) → as_int (argument m.top.stack words 1) ≡ q → as_int (slice_get (drop 1 args) 0) ≡ q
  unfolding args
  second q e = ap as_int (first_of_rest args 1) ∙ e

  third : (q : Option (ℤ × T)) → as_int (argument m.top.stack words 2) ≡ q → as_int (slice_get (drop 1 (drop 1 args)) 0) ≡ q
  unfolding args
  third q e = ap as_int (first_of_rest (drop 1 args) 1 ∙ one_on args) ∙ e

  pub report_stuck : (new : Machine T) → as_int (argument m.top.stack words 0) ≡ None → new ≡ record m { framed = false; ending = ending.Stuck } → shown w new more ≡ native_at none join w m more native.Report n words
  unfolding args
  report_stuck new e is = ap (λ (x : Machine T). shown w x more) is ∙ sym (given native.Report ∙ int_off (outside_of w m more) (areas_of w m.areas) args _ e)

  module _ (a : ℤ) (t : T) (first : as_int (argument m.top.stack words 0) ≡ Some (a, t)) where
    pub report_stuck_second : (new : Machine T) → as_int (argument m.top.stack words 1) ≡ None → new ≡ record m { framed = false; ending = ending.Stuck } → shown w new more ≡ native_at none join w m more native.Report n words
    unfolding args
    report_stuck_second new e is =
        ap (λ (x : Machine T). shown w x more) is
        ∙ sym (given native.Report ∙ int_on (outside_of w m more) (areas_of w m.areas) args _ a t first ∙ int_off (outside_of w m more) (areas_of w m.areas) (drop 1 args) _ (second None e))

    module _ (b : ℤ) (u : T) (next : as_int (argument m.top.stack words 1) ≡ Some (b, u)) where
      pub report_stuck_third : (new : Machine T) → as_int (argument m.top.stack words 2) ≡ None → new ≡ record m { framed = false; ending = ending.Stuck } → shown w new more ≡ native_at none join w m more native.Report n words
      unfolding args
      report_stuck_third new e is =
          ap (λ (x : Machine T). shown w x more) is
          ∙ sym (given native.Report ∙ int_on (outside_of w m more) (areas_of w m.areas) args _ a t first ∙ int_on (outside_of w m more) (areas_of w m.areas) (drop 1 args) _ b u (second (Some (b, u)) next)
          ∙ int_off (outside_of w m more) (areas_of w m.areas) (drop 1 (drop 1 args)) _ (third None e))

      pub reported : (c : ℤ) (v : T) (new : Machine T) → m.framed ≡ true → m.ending ≡ ending.Running → as_int (argument m.top.stack words 2) ≡ Some (c, v)
          → new ≡ record m { top = new.top; reports = m.reports ++ report_of a b c ∷ [] } → new.top ≡ record m.top { next = m.top.next + 1; stack = drop words m.top.stack }
          → shown w new more ≡ native_at none join w m more native.Report n words
      unfolding args
      reported c v new framed running e others top =
          let o = outside_of w m more in
          ap (λ (x : Machine T). shown w x more) others
          ∙ shown_live none join w (record m { top = new.top; reports = m.reports ++ report_of a b c ∷ [] }) more framed running
          ∙ ap (λ (f : Frame T). live (record o { reports = m.reports ++ report_of a b c ∷ [] }) (areas_of w m.areas) (w.method f.method) f.next f.locals f.stack (map (frame_of w) m.below)) top
          ∙ sym (given native.Report ∙ int_on o (areas_of w m.areas) args _ a t first ∙ int_on o (areas_of w m.areas) (drop 1 args) _ b u (second (Some (b, u)) next)
          ∙ int_on o (areas_of w m.areas) (drop 1 (drop 1 args)) _ c v (third (Some (c, v)) e))
