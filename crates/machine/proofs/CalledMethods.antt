-- Calls, natives among them, as the machine shows them.
use Rattle.std.proofs.Common.{◌≡◌, ℕ, ◌<◌, List, [], map, length, Option, Some, None, ap, sym, ◌∙◌}
use Rattle.std.specs.Prelude.{option_map, false}
use Rattle.run_state.specs.Natives.{Native}
use Rattle.run_state.specs.Words.{Word}
use Rattle.run_state.specs.State as state
use Rattle.run_state.specs.Calls.{said, carried_out}
use Rattle.linked_code.specs.declared.native.Native.{Native as LinkedNative}
use Rattle.linked_code.specs.declared.program.Program.{Program}
use Rattle.linked_code.specs.World.{World, tags_of}
use Rattle.linked_code.specs.Numbered.{method_at}
use Rattle.linked_code.specs.Links.{Links, native_of}
use Rattle.machine.specs.declared.state.Machine.{Machine}
use Rattle.machine.specs.declared.state.Ending.TheVariants as ending
use Rattle.machine.specs.Shown.{shown, frame_of, areas_of, outside_of}
use Rattle.machine.specs.Called.{call_at, enter_at, native_at, with_topmost}
use Rattle.machine.proofs.Receivers.{args_same}
use Rattle.machine.proofs.TakenArguments.{args_missing}

module _ {T : Type 0} (none : T) (join : T → T → T) (w : World T) (p : Program T) (links : Links none w p) (m : Machine T) (more : List ℕ) (n words : ℕ) where
  carrying : Option Native → List (Word T) → List (Word T) → state.State T
  carrying native args rest =
      carried_out (tags_of none join w) w.looks native (w.method n) args (outside_of w m more) (areas_of w m.areas) (w.method m.top.method) m.top.next m.top.locals rest (map (frame_of w) m.below)

  -- no sink reports
  quiet_call : (native : Option LinkedNative) → (method_at p n).native ≡ native → call_at none join w m more n words ≡ with_topmost none join w m more words (carrying (option_map native_of native))
  unfolding carrying
  quiet_call native e =
      let o = outside_of w m more in
      let ar = areas_of w m.areas in
      args_same o ar words m.top.stack [] _ (carrying (option_map native_of native)) (λ args rest.
      ap (λ rs. carried_out (tags_of none join w) w.looks (w.method n).native (w.method n) args (said o rs) ar (w.method m.top.method) m.top.next m.top.locals rest (map (frame_of w) m.below)) (links.quiet (w.method n) _)
      ∙ ap (λ q. carried_out (tags_of none join w) w.looks q (w.method n) args o ar (w.method m.top.method) m.top.next m.top.locals rest (map (frame_of w) m.below)) ((links.methods n).native ∙ ap (option_map native_of) e))

  pub call_entered : (method_at p n).native ≡ None → call_at none join w m more n words ≡ enter_at none join w m more n words
  unfolding carrying
  call_entered e = quiet_call None e

  pub call_native : (native : LinkedNative) → (method_at p n).native ≡ Some native → call_at none join w m more n words ≡ native_at none join w m more (native_of native) n words
  unfolding carrying
  call_native native e = quiet_call (Some native) e

  -- too few words
  pub call_missing : (new : Machine T) → length m.top.stack < words → new ≡ record m { framed = false; ending = ending.Stuck } → shown w new more ≡ call_at none join w m more n words
  call_missing new l is = ap (λ (x : Machine T). shown w x more) is ∙ sym (args_missing (outside_of w m more) (areas_of w m.areas) words m.top.stack [] _ l)
