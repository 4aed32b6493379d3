-- A value that is given back, where no method is a listed source.
use Rattle.std.proofs.Common.{◌≡◌, ℕ, zero, suc, ℤ, List, [], ◌∷◌, map, Option, Some, None, refl, ap, sym, ◌∙◌}
use Rattle.std.specs.Prelude.{true, false, Bool, slice_get, slice_set, if◌then◌else◌}
use Rattle.class_model.specs.declared.insn.Kind.{Kind}
use Rattle.class_model.specs.declared.insn.Insn.TheVariants as insn
use Rattle.run_state.specs.Words.{Word, Empty, Num, Long, Half, Null, Ref, pushed}
use Rattle.run_state.specs.State.{Method, Item, live}
use Rattle.run_state.specs.State as state
use Rattle.run_state.specs.Looks.{Looks}
use Rattle.run_state.specs.Tags.{Tags}
use Rattle.run_state.specs.References.{given as there_or, is_array, is_number_array}
use Rattle.run_state.specs.Calls.{narrowed, narrowed_result, given_back}
use Rattle.run_state.specs.Marks.{mark_number, mark_cells, mark_array, mark_text, mark_item, mark_heap, is_text, value_field}
use Rattle.machine_frames.specs.declared.frame.Frame.{Frame}
use Rattle.machine_frames.specs.Acts.{HasKind, LacksKind}
use Rattle.linked_code.specs.declared.program.Method.{Method as LinkedMethod}
use Rattle.linked_code.specs.declared.program.Program.{Program}
use Rattle.linked_code.specs.World.{World, tags_of}
use Rattle.linked_code.specs.Kept.{kept_by}
use Rattle.linked_code.specs.Numbered.{method_at}
use Rattle.linked_code.specs.Links.{Links}
use Rattle.machine.specs.declared.state.Machine.{Machine}
use Rattle.machine.specs.declared.state.Ending.TheVariants as ending
use Rattle.machine.specs.Shown.{shown, frame_of, areas_of, outside_of}
use Rattle.machine.specs.Called.{given_to}
use Rattle.machine.specs.Unwound.{done_at}
use Rattle.machine.proofs.Steps.{shown_live}

module _ {T : Type 0} (M : Tags T) (L : Looks) (d : Method) (same : (t : T) → M.marked d t ≡ t) where
  pub number_kept : (w : Word T) → mark_number M d w ≡ w
  number_kept Empty = refl
  number_kept (Num v t) = ap (Num v) (same t)
  number_kept (Long v t) = ap (Long v) (same t)
  number_kept Half = refl
  number_kept Null = refl
  number_kept (Ref a) = refl

  numbers_kept : (ws : List (Word T)) → map (mark_number M d) ws ≡ ws
  numbers_kept [] = refl
  numbers_kept (w ∷ ws) = ap (λ x. x ∷ map (mark_number M d) ws) (number_kept w) ∙ ap (λ xs. w ∷ xs) (numbers_kept ws)

  cells_kept : (x : Item T) → mark_cells M d x ≡ x
  cells_kept x = ap (λ cells. record x { cells = cells }) (numbers_kept x.cells)

  set_same : {A : Type 0} (xs : List A) (n : ℕ) (x : A) → slice_get xs n ≡ Some x → slice_set xs n x ≡ xs
  set_same [] n x e = refl
  set_same (y ∷ ys) zero x e = cc
  set_same (y ∷ ys) (suc n) x e = ap (λ q. y ∷ q) (set_same ys n x e)

  array_at : (hp : List (Item T)) (a : ℕ) (o : Option (Item T)) → slice_get hp a ≡ o → there_or o hp (λ y. slice_set hp a (mark_cells M d y)) ≡ hp
  array_at hp a None e = refl
  array_at hp a (Some y) e = ap (slice_set hp a) (cells_kept y) ∙ set_same hp a y e

  array_kept : (hp : List (Item T)) (w : Word T) → mark_array M d hp w ≡ hp
  array_kept hp Empty = refl
  array_kept hp (Num v t) = refl
  array_kept hp (Long v t) = refl
  array_kept hp Half = refl
  array_kept hp Null = refl
  array_kept hp (Ref a) = array_at hp a (slice_get hp a) refl

  given_kept : {A B : Type 0} (o : Option A) (b : B) (go : A → B) → ((x : A) → go x ≡ b) → there_or o b go ≡ b
  given_kept None b go h = refl
  given_kept (Some x) b go h = h x

  text_kept : (hp : List (Item T)) (x : Item T) → mark_text M L d hp x ≡ hp
  text_kept hp x = given_kept (L.field value_field) hp _ (λ i. given_kept (slice_get x.cells i) hp (mark_array M d hp) (array_kept hp))

  chosen : {A : Type 0} (c : Bool) (x y z : A) → x ≡ z → y ≡ z → (if c then x else y) ≡ z
  chosen true x y z h k = h
  chosen false x y z h k = k

  item_kept : (hp : List (Item T)) (a : ℕ) (x : Item T) → slice_get hp a ≡ Some x → mark_item M L d hp a x ≡ hp
  item_kept hp a x e =
      chosen (is_text x.ty) _ _ hp (text_kept hp x)
      (chosen (is_number_array x.ty) _ _ hp (ap (slice_set hp a) (cells_kept x) ∙ set_same hp a x e)
      (chosen (is_array x.ty) _ _ hp refl
      (ap (λ t. slice_set hp a (record x { own = t })) (same x.own) ∙ set_same hp a x e)))

  item_at : (hp : List (Item T)) (a : ℕ) (o : Option (Item T)) → slice_get hp a ≡ o → there_or o hp (mark_item M L d hp a) ≡ hp
  item_at hp a None e = refl
  item_at hp a (Some x) e = item_kept hp a x e

  pub heap_kept : (hp : List (Item T)) (w : Word T) → mark_heap M L d hp w ≡ hp
  heap_kept hp Empty = refl
  heap_kept hp (Num v t) = refl
  heap_kept hp (Long v t) = refl
  heap_kept hp Half = refl
  heap_kept hp Null = refl
  heap_kept hp (Ref a) = item_at hp a (slice_get hp a) refl

-- two narrowings that keep the same of each int
pub narrowed_alike : {T : Type 0} (f g : ℤ → ℤ) (w : Word T) → ((v : ℤ) → f v ≡ g v) → narrowed f w ≡ narrowed g w
narrowed_alike f g Empty h = refl
narrowed_alike f g (Num v t) h = ap (λ x. Num x t) (h v)
narrowed_alike f g (Long v t) h = refl
narrowed_alike f g Half h = refl
narrowed_alike f g Null h = refl
narrowed_alike f g (Ref a) h = refl

module _ {T : Type 0} (none : T) (join : T → T → T) (w : World T) (p : Program T) (links : Links none w p) (m : Machine T) (more : List ℕ) (k : Kind) where
  pub no_value : LacksKind k m.top.stack → state.ended (outside_of w m more) (areas_of w m.areas) state.Stuck ≡ done_at none join w (insn.Return (Some k)) m more
  no_value lacks = sym (lacks (outside_of w m more) (areas_of w m.areas) _)

  pub nobody_below : (v : Word T) (rest : List (Word T)) → HasKind k m.top.stack v rest → m.below ≡ [] → state.ended (outside_of w m more) (areas_of w m.areas) state.Stuck ≡ done_at none join w (insn.Return (Some k)) m more
  nobody_below v rest has below =
      sym (has (outside_of w m more) (areas_of w m.areas) _
      ∙ ap (λ (bs : List (Frame T)). given_back (tags_of none join w) w.looks (w.method m.top.method) v (outside_of w m more) (areas_of w m.areas) (map (frame_of w) bs)) below)

  -- the value comes to the frame below
  pub given : (v : Word T) (rest : List (Word T)) (caller : Frame T) (below : List (Frame T)) (new : Machine T) → HasKind k m.top.stack v rest → m.below ≡ caller ∷ below → m.framed ≡ true → m.ending ≡ ending.Running
      → new ≡ record m { top = new.top; below = new.below }
      → new.top ≡ record caller { stack = pushed (narrowed (kept_by (method_at p m.top.method).narrowing) v) caller.stack } → new.below ≡ below
      → shown w new more ≡ done_at none join w (insn.Return (Some k)) m more
  given v rest caller below new has below_is framed running others top now =
      let o = outside_of w m more in
      let ar = areas_of w m.areas in
      let M = tags_of none join w in
      let d = w.method m.top.method in
      let kept = narrowed (kept_by (method_at p m.top.method).narrowing) v in
      let fs = map (frame_of w) below in
      ap (λ (x : Machine T). shown w x more) others
      ∙ shown_live none join w (record m { top = new.top; below = new.below }) more framed running
      ∙ ap (λ (bs : List (Frame T)). live o ar (w.method new.top.method) new.top.next new.top.locals new.top.stack (map (frame_of w) bs)) now
      ∙ ap (λ (f : Frame T). live o ar (w.method f.method) f.next f.locals f.stack fs) top
      ∙ ap (λ (x : Word T). live o ar (w.method caller.method) caller.next caller.locals (pushed x caller.stack) fs)
      (sym (number_kept M w.looks d (links.unmarked d) (narrowed (narrowed_result d.desc.result) v) ∙ narrowed_alike (narrowed_result d.desc.result) (kept_by (method_at p m.top.method).narrowing) v (links.methods m.top.method).result))
      ∙ ap (λ (hp : List (Item T)). live o (record ar { heap = hp }) (w.method caller.method) caller.next caller.locals (pushed (mark_number M d (narrowed (narrowed_result d.desc.result) v)) caller.stack) fs)
      (sym (heap_kept M w.looks d (links.unmarked d) ar.heap v))
      ∙ sym (has o ar _ ∙ ap (λ (bs : List (Frame T)). given_back M w.looks d v o ar (map (frame_of w) bs)) below_is)

  -- the same, from what the frames below became
  pub given_with : (method : LinkedMethod) (v kept : Word T) (rest : List (Word T)) (bs gave below : List (Frame T)) (caller : Frame T) → m.below ≡ bs → HasKind k m.top.stack v rest → method ≡ method_at p m.top.method
      → kept ≡ narrowed (kept_by method.narrowing) v → gave ≡ given_to kept bs → gave ≡ caller ∷ below → m.framed ≡ true → m.ending ≡ ending.Running
      → shown w (record m { top = caller; below = below }) more ≡ done_at none join w (insn.Return (Some k)) m more
  given_with method v kept rest [] gave below caller bs_are has is narrow gives popped framed running = cc
  given_with method v kept rest (f ∷ fs) gave below caller bs_are has is narrow gives popped framed running =
      let same : record f { stack = pushed kept f.stack } ∷ fs ≡ caller ∷ below = sym gives ∙ popped in
      let top : caller ≡ record f { stack = pushed kept f.stack } = cc in
      let under : below ≡ fs = cc in
      given v rest f fs (record m { top = caller; below = below }) has bs_are framed running refl
      (top ∙ ap (λ (x : Word T). record f { stack = pushed x f.stack }) (narrow ∙ ap (λ (q : LinkedMethod). narrowed (kept_by q.narrowing) v) is)) under
