-- The linked code of a method stands for its code, instruction by instruction.
use Rattle.std.proofs.Common.{◌≡◌, Option, Some, None, refl, sym, subst}
use Rattle.std.specs.Prelude.{slice_get}
use Rattle.class_model.specs.declared.insn.Insn.{Insn}
use Rattle.machine_frames.specs.declared.frame.Frame.{Frame}
use Rattle.linked_code.specs.declared.op.Op.{Op}
use Rattle.linked_code.specs.declared.program.Method.{Method}
use Rattle.linked_code.specs.declared.program.Program.{Program}
use Rattle.linked_code.specs.World.{World}
use Rattle.linked_code.specs.Linked.{Linked, LinkedAt}
use Rattle.linked_code.specs.Numbered.{method_at}
use Rattle.linked_code.specs.Links.{Links}
use Rattle.machine.specs.Fetched.{Fetches, FetchesNone}

module _ {T : Type 0} (none : T) (w : World T) (p : Program T) where
  none_at : (i : Option Insn) (o : Option Op) → LinkedAt w p i o → o ≡ None → i ≡ None
  none_at None o h e = refl
  none_at (Some i) None h e = absurd h
  none_at (Some i) (Some o) h e = cc

  some_at : (i : Option Insn) (o : Option Op) (op : Op) → LinkedAt w p i o → o ≡ Some op → (x : Insn) × (i ≡ Some x) × Linked w p x op
  some_at None None op h e = cc
  some_at None (Some o) op h e = absurd h
  some_at (Some i) None op h e = absurd h
  some_at (Some i) (Some o) op h e = let same : o ≡ op = cc in (i, refl, subst (λ x. Linked w p i x) same h)

  code_of : (f : Frame T) (m : Method) → Links none w p → m ≡ method_at p f.method → LinkedAt w p (slice_get (w.method f.method).code f.next) (slice_get m.code f.next)
  code_of f m links is = subst (λ (x : Method). LinkedAt w p (slice_get (w.method f.method).code f.next) (slice_get x.code f.next)) (sym is) ((links.methods f.method).code f.next)

  -- the end of the code
  pub nothing_at : (f : Frame T) (m : Method) → Links none w p → m ≡ method_at p f.method → slice_get m.code f.next ≡ None → FetchesNone w f
  nothing_at f m links is h = none_at (slice_get (w.method f.method).code f.next) (slice_get m.code f.next) (code_of f m links is) h

  pub op_at : (f : Frame T) (m : Method) (op : Op) → Links none w p → m ≡ method_at p f.method → slice_get m.code f.next ≡ Some op → Fetches w p f op
  op_at f m op links is h =
      let x = some_at (slice_get (w.method f.method).code f.next) (slice_get m.code f.next) op (code_of f m links is) h in
      record { insn = x.0; at = x.1; linked = x.2 }
