use Rattle.code_spelling.proofs.Limits.{fits_code, code_short}
use Rattle.code_spelling.proofs.content.code_content.Goals as goal

pub put_content-requires : goal.put_content-requires
put_content-requires c = fits_code c.in_ok-layout.layout c.args.code.now c.in_ok-layout.ensures c.requires

pub returns-clause-short : goal.returns-clause-short
returns-clause-short c =
    code_short c.in_ok-layout.layout c.args.code.now c.in_ok-layout.ensures c.requires c.args.pool.now c.put_content.new.pool c.new-content.result.items c.put_content.new.out.items c.new-content.ensures.items c.in_ok-put_content.ensures
