use Rattle.std.proofs.Common.{◌≡◌, ◌∙◌, ◌++◌, List, ℕ, ap, sym, subst}
use Rattle.stack_maps.specs.Spelling.{table_text}
use Rattle.stack_maps.specs.Table.{StandsFor}
use Rattle.stack_maps.specs.Reading.{decoded}
use Rattle.stack_maps.proofs.SpellingLaws.{table_back, table_decoded}
use Rattle.stack_maps.proofs.encode.encode_frames.Goals as goal

pub returns-clause-stands : goal.returns-clause-stands
returns-clause-stands c =
    let text : c.from_vec.result ≡ table_text c.args.frames.now = c.from_vec.ensures ∙ c.in_ok-put_table.ensures.spelled ∙ ap (λ (z : List ℕ). z ++ table_text c.args.frames.now) c.new-bytes.ensures.items in
    λ first. subst (λ (z : List ℕ). StandsFor first z c.args.frames.now) (sym text) (table_back first c.args.frames.now c.requires.ascending c.requires.few c.requires.writable c.in_ok-put_table.ensures.fit)

pub returns-clause-reads_back : goal.returns-clause-reads_back
returns-clause-reads_back c =
    let text : c.from_vec.result ≡ table_text c.args.frames.now = c.from_vec.ensures ∙ c.in_ok-put_table.ensures.spelled ∙ ap (λ (z : List ℕ). z ++ table_text c.args.frames.now) c.new-bytes.ensures.items in
    λ first. ap (decoded first) text ∙ table_decoded first c.args.frames.now c.requires.ascending c.requires.few c.requires.writable c.in_ok-put_table.ensures.fit
