-- The rows of static fields, by what the stack and the fields hold.
use Rattle.std.proofs.Common.{◌≡◌, ℕ, ◌+◌, List, Some, None, ap, sym, ◌∙◌}
use Rattle.std.specs.Prelude.{slice_get, slice_set}
use Rattle.class_model.specs.declared.insn.Kind.{Kind}
use Rattle.run_state.specs.Words.{Word, pushed}
use Rattle.run_state.specs.Objects.{kind_of}
use Rattle.run_state.specs.Calls.{narrowed}
use Rattle.machine_frames.specs.declared.frame.Frame.{Frame}
use Rattle.machine_frames.specs.declared.flow.Flow.TheVariants as flow
use Rattle.machine_frames.specs.Acts.{HasKind, LacksKind}
use Rattle.linked_code.specs.declared.op.Op.TheVariants as op
use Rattle.linked_code.specs.declared.program.Narrowing.{Narrowing}
use Rattle.linked_code.specs.declared.program.Program.{Program}
use Rattle.linked_code.specs.Kept.{kept_by}
use Rattle.machine.specs.declared.state.Areas.{Areas}
use Rattle.machine.specs.Shown.{areas_of}
use Rattle.machine.specs.Acted.{acted, led, Acts}
use Rattle.machine.proofs.Choices.{some_there, none_there}
use Rattle.machine.proofs.KindTops.{has_of, lacks_of}
use Rattle.machine.proofs.Returning.{narrowed_alike}

module _ {T : Type 0} (none : T) (join : T → T → T) (p : Program T) (f : Frame T) (a : Areas T) (class place : ℕ) where
  pub read_none : slice_get a.statics place ≡ None → Acts none join p (op.GetStatic class place) f a flow.Stuck f a
  read_none e = record {
    by = λ w i o below links h.
        ap (λ x. acted none join w o below x f a) h.is
        ∙ some_there o (areas_of w a) _ _ _ h.found
        ∙ none_there o (areas_of w a) _ _ e;
  }

  pub read : (v : Word T) (g : Frame T) → slice_get a.statics place ≡ Some v → g ≡ record f { next = f.next + 1; stack = pushed v f.stack } → Acts none join p (op.GetStatic class place) f a flow.Next g a
  read v g e is = record {
    by = λ w i o below links h.
        ap (λ x. acted none join w o below x f a) h.is
        ∙ some_there o (areas_of w a) _ _ _ h.found
        ∙ some_there o (areas_of w a) _ _ _ e
        ∙ ap (λ (x : Frame T). led none join w o below flow.Next x a) (sym is);
  }

  pub write_none : (k : Kind) (keeps : Narrowing) → LacksKind k f.stack → Acts none join p (op.PutStatic class place k keeps) f a flow.Stuck f a
  write_none k keeps e = record {
    by = λ w i o below links h.
        ap (λ x. acted none join w o below x f a) h.is
        ∙ some_there o (areas_of w a) _ _ _ h.found
        ∙ lacks_of (kind_of h.field.ty) k f.stack h.kind_is e o (areas_of w a) _;
  }

  pub write : (k : Kind) (keeps : Narrowing) (v : Word T) (rest : List (Word T)) (g : Frame T) (b : Areas T) → HasKind k f.stack v rest
      → g ≡ record f { next = f.next + 1; stack = rest } → b ≡ record a { statics = slice_set a.statics place (narrowed (kept_by keeps) v) } → Acts none join p (op.PutStatic class place k keeps) f a flow.Next g b
  write k keeps v rest g b e is now = record {
    by = λ w i o below links h.
        ap (λ x. acted none join w o below x f a) h.is
        ∙ some_there o (areas_of w a) _ _ _ h.found
        ∙ has_of (kind_of h.field.ty) k f.stack v rest h.kind_is e o (areas_of w a) _
        ∙ ap (λ x. led none join w o below flow.Next (record f { next = f.next + 1; stack = rest }) (record a { statics = slice_set a.statics place x })) (narrowed_alike _ (kept_by keeps) v h.narrows)
        ∙ ap (λ (x : Frame T). led none join w o below flow.Next x (record a { statics = slice_set a.statics place (narrowed (kept_by keeps) v) })) (sym is)
        ∙ ap (λ (x : Areas T). led none join w o below flow.Next g x) (sym now);
  }
