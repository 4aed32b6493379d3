use Rattle.std.proofs.Common.{◌∙◌, sym, ap, subst, map}
use Rattle.std.specs.Prelude.{option_map}
use Rattle.set_lookups.specs.declared.fault.HierarchyFault.TheVariants.{Cycle}
use Rattle.set_lookups.specs.Above.{above}
use Rattle.set_lookups.specs.Answer.{IsFault, link_fault}
use Rattle.set_lookups.specs.Levels.{IsAbove}
use Rattle.set_lookups.specs.Lookups.{interfaces_at}
use Rattle.set_lookups.specs.Links.{row_of}
use Rattle.set_lookups.specs.Members.{AreMembers}
use Rattle.set_lookups.specs.Needed.{duplicate}
use Rattle.set_lookups.specs.Cycle.{cycle}
use Rattle.set_lookups.specs.Rows.{AreRows, Ranked}
use Rattle.set_lookups.proofs.Acyclic.{made_rows}
use Rattle.set_lookups.proofs.Names.{names_of}
use Rattle.set_lookups.proofs.Told.{err_told, duplicate_told, missing_told, cycle_told, nothing_told}
use Rattle.set_lookups.proofs.build.link_classes.Goals as goal

pub returns-in_err-names : goal.returns-in_err-names
returns-in_err-names c =
    let fault = c.in_err-names.field-0.0 in
    err_told c.from_residual.result _ _ _ c.from_residual.ensures.1 (subst (λ set. IsFault (link_fault set) fault) c.as_slice.ensures (duplicate_told c.as_slice.result.now fault c.in_err-names.ensures))

pub returns-in_err-check_missing : goal.returns-in_err-check_missing
returns-in_err-check_missing c =
    let d = sym (ap duplicate c.as_slice.ensures) ∙ c.in_ok-names.ensures.0 in
    err_told c.from_residual-in_err-check_missing.result _ _ _ c.from_residual-in_err-check_missing.ensures.1 (missing_told c.args.classes _ d c.in_err-check_missing.ensures)

pub rank_classes-requires-clause-rows : goal.rank_classes-requires-clause-rows
rank_classes-requires-clause-rows c =
    let keys = c.in_ok-names.names.keys in
    let named = c.in_ok-names.ensures.1 ∙ ap names_of c.as_slice.ensures in
    let linked = made_rows c.args.classes keys c.in_ok-rows.rows named (c.in_ok-rows.ensures ∙ ap (map (row_of keys)) c.as_slice-2.ensures) in
    subst (λ set. AreRows set c.in_ok-rows.rows) (sym c.as_slice-3.ensures) linked

pub levels_above-requires-clause-rows : goal.levels_above-requires-clause-rows
levels_above-requires-clause-rows c =
    let keys = c.in_ok-names.names.keys in
    let named = c.in_ok-names.ensures.1 ∙ ap names_of c.as_slice.ensures in
    let linked = made_rows c.args.classes keys c.in_ok-rows.rows named (c.in_ok-rows.ensures ∙ ap (map (row_of keys)) c.as_slice-2.ensures) in
    subst (λ set. AreRows set c.in_ok-rows.rows) (sym c.as_slice-4.ensures) linked

pub returns-in_err-ranks : goal.returns-in_err-ranks
returns-in_err-ranks c =
    let fault = c.in_err-ranks.field-0.0 in
    let d = sym (ap duplicate c.as_slice.ensures) ∙ c.in_ok-names.ensures.0 in
    let told = subst (λ set. IsFault (option_map Cycle (cycle set)) fault) c.as_slice-3.ensures c.in_err-ranks.ensures in
    err_told c.from_residual-in_err-ranks.result _ _ _ c.from_residual-in_err-ranks.ensures.1 (cycle_told c.args.classes fault d c.in_ok-check_missing.ensures told)

pub from_parts-requires : goal.from_parts-requires
from_parts-requires c =
    let keys = c.in_ok-names.names.keys in
    let named = c.in_ok-names.ensures.1 ∙ ap names_of c.as_slice.ensures in
    record {
      counted = c.requires;
      named = named;
      linked = made_rows c.args.classes keys c.in_ok-rows.rows named (c.in_ok-rows.ensures ∙ ap (map (row_of keys)) c.as_slice-2.ensures);
      ranked = subst (λ set. Ranked set c.in_ok-ranks.ranks) c.as_slice-3.ensures c.in_ok-ranks.ensures.1;
      in_breadth = subst (λ set. IsAbove (interfaces_at set) (interfaces_at set) c.in_ok-breadth.breadth.levels c.in_ok-breadth.breadth.starts) c.as_slice-4.ensures c.in_ok-breadth.ensures.0;
      in_reach = subst (λ set. IsAbove (interfaces_at set) (above set) c.in_ok-breadth.reached.levels c.in_ok-breadth.reached.starts) c.as_slice-4.ensures c.in_ok-breadth.ensures.1;
      in_members = subst (λ set. AreMembers set c.in_ok-members.members.fields c.in_ok-members.members.methods c.in_ok-members.members.no_types) c.as_slice-6.ensures c.in_ok-members.ensures;
    }

pub returns : goal.returns
returns c =
    let d = sym (ap duplicate c.as_slice.ensures) ∙ c.in_ok-names.ensures.0 in
    (c.in_ok-from_parts.ensures, nothing_told c.args.classes d c.in_ok-check_missing.ensures (ap cycle (sym c.as_slice-3.ensures) ∙ c.in_ok-ranks.ensures.0))
