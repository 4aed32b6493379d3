-- A method that is entered, as the machine shows it.
use Rattle.std.proofs.Common.{◌≡◌, ℕ, ◌+◌, ◌-◌, ◌<◌, ◌≤◌, List, [], ◌∷◌, ◌++◌, map, length, take, drop, reverse, replicate, refl, ap, sym, subst, ◌∙◌, arith}
use Rattle.std.specs.Prelude.{true, false}
use Rattle.std.proofs.lemmas.List.{drop-replicate, append-nil}
use Rattle.run_state.specs.Words.{Word, Empty}
use Rattle.run_state.specs.State.{live}
use Rattle.run_state.specs.Calls.{entered}
use Rattle.machine_frames.specs.declared.frame.Frame.{Frame}
use Rattle.linked_code.specs.declared.program.Method.{Method}
use Rattle.linked_code.specs.declared.program.Program.{Program}
use Rattle.linked_code.specs.World.{World}
use Rattle.linked_code.specs.Numbered.{method_at}
use Rattle.linked_code.specs.Links.{Links}
use Rattle.machine.specs.declared.state.Machine.{Machine}
use Rattle.machine.specs.declared.state.Ending.TheVariants as ending
use Rattle.machine.specs.Shown.{shown, frame_of, areas_of, outside_of}
use Rattle.machine.specs.Called.{blank, enter_at, waiting, MatchHead}
use Rattle.machine.proofs.Steps.{shown_live}
use Rattle.machine.proofs.TakenArguments.{args_there, args_missing}

module _ {T : Type 0} (none : T) (join : T → T → T) (w : World T) (m : Machine T) (more : List ℕ) (n words : ℕ) where
  pub entry_missing : (new : Machine T) → length m.top.stack < words → new ≡ record m { framed = false; ending = ending.Stuck } → shown w new more ≡ enter_at none join w m more n words
  entry_missing new l is = ap (λ (x : Machine T). shown w x more) is ∙ sym (args_missing (outside_of w m more) (areas_of w m.areas) words m.top.stack [] _ l)

  -- the locals behind the arguments
  others : (p : Program T) → Links none w p → ◌≡◌ {A = List (Word T)} (drop words (replicate (words + ((method_at p n).locals - (method_at p n).params)) Empty)) (replicate ((w.method n).locals - (w.method n).params) Empty)
  others p links =
      let d = links.methods n in
      let long : (w.method n).locals ≡ (method_at p n).locals = d.locals in
      let short : (w.method n).params ≡ (method_at p n).params = d.params in
      let e : words + ((method_at p n).locals - (method_at p n).params) - words ≡ (w.method n).locals - (w.method n).params = omega arith in
      drop-replicate words (words + ((method_at p n).locals - (method_at p n).params)) Empty ∙ ap (λ k. replicate k Empty) e

  pub entry : (p : Program T) (new : Machine T) → words ≤ length m.top.stack → m.framed ≡ true → m.ending ≡ ending.Running → Links none w p
      → new ≡ record m { top = new.top; below = new.below }
      → new.top ≡ record { method = n; next = 0; locals = reverse (take words m.top.stack) ++ drop words (replicate (words + ((method_at p n).locals - (method_at p n).params)) Empty); stack = [] }
      → new.below ≡ record m.top { next = m.top.next + 1; stack = drop words m.top.stack } ∷ m.below
      → shown w new more ≡ enter_at none join w m more n words
  entry p new there framed running links others_are top below =
      let o = outside_of w m more in
      let ar = areas_of w m.areas in
      let fs = waiting none join w m more (drop words m.top.stack) ∷ map (frame_of w) m.below in
      ap (λ (x : Machine T). shown w x more) others_are
      ∙ shown_live none join w (record m { top = new.top; below = new.below }) more framed running
      ∙ ap (λ (bs : List (Frame T)). live o ar (w.method new.top.method) new.top.next new.top.locals new.top.stack (map (frame_of w) bs)) below
      ∙ ap (λ (f : Frame T). live o ar (w.method f.method) f.next f.locals f.stack fs) top
      ∙ ap (λ (ls : List (Word T)). live o ar (w.method n) 0 (reverse (take words m.top.stack) ++ ls) [] fs) (others p links)
      ∙ sym (args_there o ar words m.top.stack [] _ there ∙ ap (λ (q : List (Word T)). entered o ar (w.method n) q fs) (append-nil (reverse (take words m.top.stack))))

  -- what is put on top of the frames and exchanged with the top one
  exchanged : (pushed below : List (Frame T)) (low top f : Frame T) (fs : List (Frame T)) → pushed ≡ f ∷ fs → MatchHead pushed (below ≡ []) (λ g gs. (below ≡ low ∷ gs) × (top ≡ g)) → (below ≡ low ∷ fs) × (top ≡ f)
  exchanged pushed below low top f fs e h = subst (λ (q : List (Frame T)). MatchHead q (below ≡ []) (λ g gs. (below ≡ low ∷ gs) × (top ≡ g))) e h

  pub entered_with : (p : Program T) (fr : Frame T) (method : Method) (extra count : ℕ) (ls st : List (Word T)) (pushed below : List (Frame T)) (top : Frame T)
      → words ≤ length m.top.stack → m.framed ≡ true → m.ending ≡ ending.Running → Links none w p → method ≡ method_at p n → extra ≡ method.locals - method.params
      → fr ≡ blank n count → count ≡ words + extra → ls ≡ reverse (take words m.top.stack) ++ drop words fr.locals → st ≡ drop words m.top.stack
      → pushed ≡ record fr { locals = ls } ∷ m.below
      → MatchHead pushed (below ≡ []) (λ g gs. (below ≡ record m.top { next = m.top.next + 1; stack = st } ∷ gs) × (top ≡ g))
      → shown w (record m { top = top; below = below }) more ≡ enter_at none join w m more n words
  entered_with p fr method extra count ls st pushed below top there framed running links is rest made many words_are left push exchange =
      let low = record m.top { next = m.top.next + 1; stack = st } in
      let x = exchanged pushed below low top (record fr { locals = ls }) m.below push exchange in
      let size : count ≡ words + ((method_at p n).locals - (method_at p n).params) =
      many ∙ ap (λ k. words + k) (rest ∙ ap (λ (q : Method). q.locals - q.params) is) in
      let locals : ls ≡ reverse (take words m.top.stack) ++ drop words (replicate (words + ((method_at p n).locals - (method_at p n).params)) Empty) =
      words_are ∙ ap (λ (f : Frame T). reverse (take words m.top.stack) ++ drop words f.locals) made
      ∙ ap (λ k. reverse (take words m.top.stack) ++ drop words (replicate k Empty)) size in
      entry p (record m { top = top; below = below }) there framed running links refl
      (x.1 ∙ ap (λ (f : Frame T). record f { locals = ls }) made ∙ ap (λ (q : List (Word T)). record { method = n; next = 0; locals = q; stack = [] }) locals)
      (x.0 ∙ ap (λ q. record m.top { next = m.top.next + 1; stack = q } ∷ m.below) left)
