use Rattle.std.proofs.Common.{◌+◌, List, ℕ, sym, ap, ◌∙◌, subst, refl, arith}
use Rattle.run_state.specs.Words.{Word}
use Rattle.run_state.specs.Objects.{sizes_of}
use Rattle.machine.specs.Nested.{Nests}
use Rattle.machine.proofs.NestRows.{nest_missing, nest_no_count, nest_negative, nest_made}
use Rattle.machine.proofs.nesting.nest.Goals as goal

pub returns-then-words-len-clause-ok : goal.returns-then-words-len-clause-ok
returns-then-words-len-clause-ok g c = nest_missing g.T.Tag.none_of g.T.Tag.join_of c.args.program.now c.args.frame.now c.args.areas.now c.args.ty c.args.dimensions (omega arith)

pub returns-in_default-clause-ok : goal.returns-in_default-clause-ok
returns-in_default-clause-ok g c = nest_no_count g.T.Tag.none_of g.T.Tag.join_of c.args.program.now c.args.frame.now c.args.areas.now c.args.ty c.args.dimensions (omega arith) (sym c.in_ok-counts.ensures ∙ c.in_default.is)

pub returns-in_default-2-clause-ok : goal.returns-in_default-2-clause-ok
returns-in_default-2-clause-ok g c =
    nest_negative g.T.Tag.none_of g.T.Tag.join_of c.args.program.now c.args.frame.now c.args.areas.now c.args.ty c.args.dimensions (omega arith) c.in-Some.counts (sym c.in_ok-counts.ensures ∙ c.in-Some.is) (ap sizes_of (sym c.as_slice.ensures) ∙ sym c.in_ok-sizes.ensures ∙ c.in_default-2.is)

pub returns-clause-ok : goal.returns-clause-ok
returns-clause-ok g c =
    let f = c.args.frame.now in
    let a = c.args.areas.now in
    nest_made g.T.Tag.none_of g.T.Tag.join_of c.args.program.now c.args.frame.now c.args.areas.now c.args.ty c.args.dimensions (omega arith) c.in-Some.counts (sym c.in_ok-counts.ensures ∙ c.in-Some.is) c.in-Some-2.sizes c.in_ok-word.word c.nested_all.new.heap _ _ (ap sizes_of (sym c.as_slice.ensures) ∙ sym c.in_ok-sizes.ensures ∙ c.in-Some-2.is)
    (λ w links. subst (λ (ns : List ℕ). Nests g.T.Tag.none_of g.T.Tag.join_of w a.heap c.nested_all.new.heap ns c.args.ty c.in_ok-word.word) c.as_slice-2.ensures (c.in_ok-word.ensures.ok w links))
    (ap (λ (st : List (Word g.row.T.Denot)). record f { next = f.next + 1; stack = st }) c.in_default-put_for.ensures.ok)
    refl
