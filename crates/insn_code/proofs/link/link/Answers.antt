use Rattle.std.proofs.Common.{◌≡◌, List, [], ◌∷◌, length, ap, sym, ◌∙◌, rules, arith}
use Rattle.std.specs.Vec.Iter.{into_iter_items}
use Rattle.std.proofs.lemmas.List.{nil_from_length}
use Rattle.std.proofs.lemmas.Result.{err_from_is_err_and}
use Rattle.class_model.specs.declared.insn.Insn.{Insn}
use Rattle.insn_code.specs.CodeReading.{in_front, linked}
use Rattle.insn_code.specs.Linking.{Placed}
use Rattle.insn_code.proofs.LinkLaws.{front_nil, link_goes_on, link_ends, link_is_done}
use Rattle.insn_code.proofs.link.link.Goals as goal

pub loop-pc-init : goal.loop-pc-init
loop-pc-init c =
    let starts = c.args.starts.now.starts in
    let items : into_iter_items c.into_iter-pc-iterator.result ≡ c.args.placed = search rules in
    record {
      so_far = ap (λ (z : List Insn). in_front z (linked c.args.place starts (into_iter_items c.into_iter-pc-iterator.result))) c.in_ok-insns.ensures ∙ front_nil (linked c.args.place starts (into_iter_items c.into_iter-pc-iterator.result)) ∙ ap (linked c.args.place starts) items;
      left = search rules;
    }

pub loop-pc-preserved : goal.loop-pc-preserved
loop-pc-preserved c =
    let starts = c.args.starts.now.starts in
    let total = linked c.args.place starts c.args.placed in
    let x : Placed = (c.in-Some.pc, c.in-Some.insn) in
    let rest = into_iter_items c.next.new.self in
    let items : into_iter_items c.loop-pc.pc-iterator ≡ x ∷ rest = c.in-Some.ensures.steps.0 in
    let so_far : in_front c.loop-pc.insns (linked c.args.place starts (x ∷ rest)) ≡ total = ap (λ (z : List Placed). in_front c.loop-pc.insns (linked c.args.place starts z)) (sym items) ∙ c.loop-pc.invariant.so_far in
    record {
      so_far = ap (λ (z : List Insn). in_front z (linked c.args.place starts rest)) c.in_ok-push.ensures.ok ∙ link_goes_on c.args.place starts x rest c.loop-pc.insns c.in_ok-insn.insn total c.in_ok-insn.ensures so_far;
      left = omega (arith, ap length items, c.in-Some.ensures.steps.1, c.loop-pc.invariant.left);
    }

pub returns-in_err-insn : goal.returns-in_err-insn
returns-in_err-insn c =
    let p = err_from_is_err_and c.from_residual-in_err-insn.result c.from_residual-in_err-insn.ensures.1 in
    let starts = c.args.starts.now.starts in
    let total = linked c.args.place starts c.args.placed in
    let x : Placed = (c.in-Some.pc, c.in-Some.insn) in
    let rest = into_iter_items c.next.new.self in
    let items : into_iter_items c.loop-pc.pc-iterator ≡ x ∷ rest = c.in-Some.ensures.steps.0 in
    let so_far : in_front c.loop-pc.insns (linked c.args.place starts (x ∷ rest)) ≡ total = ap (λ (z : List Placed). in_front c.loop-pc.insns (linked c.args.place starts z)) (sym items) ∙ c.loop-pc.invariant.so_far in
    rw (p.1, p.2) (link_ends c.args.place starts x rest c.loop-pc.insns c.in_err-insn.field-0.0 total c.in_err-insn.ensures so_far)

pub returns : goal.returns
returns c =
    let starts = c.args.starts.now.starts in
    let total = linked c.args.place starts c.args.placed in
    let none : into_iter_items c.loop-pc.pc-iterator ≡ [] = nil_from_length (into_iter_items c.loop-pc.pc-iterator) (c.loop-pc.invariant.left ∙ c.in-None.ensures.steps.0) in
    link_is_done c.args.place starts c.loop-pc.insns total (ap (λ (z : List Placed). in_front c.loop-pc.insns (linked c.args.place starts z)) (sym none) ∙ c.loop-pc.invariant.so_far)
