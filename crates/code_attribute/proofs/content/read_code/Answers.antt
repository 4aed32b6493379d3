use Rattle.class_input.specs.Reading.{seen}
use Rattle.code_tables.proofs.TableLaws.{is_found, is_only}
use Rattle.code_attribute.specs.CodeContent.{IsCodeContent}
use Rattle.code_attribute.specs.CodeContentReading.{code_content}
use Rattle.code_attribute.proofs.ContentLaws.{content_exact}
use Rattle.code_attribute.proofs.content.read_code.Goals as goal

pub returns-clause-found : goal.returns-clause-found
returns-clause-found c =
    let p = c.args.pool.now in
    let class = c.args.class.now in
    let head = c.args.head.now in
    is_found (IsCodeContent p class head) (code_content p class head) (content_exact p class head) (seen c.args.input.now) c.code_content.result c.code_content.new.input c.are_bytes.ensures c.code_content.ensures

pub returns-clause-only : goal.returns-clause-only
returns-clause-only c =
    let p = c.args.pool.now in
    let class = c.args.class.now in
    let head = c.args.head.now in
    λ text rest code e is. is_only (IsCodeContent p class head) (code_content p class head) (content_exact p class head) (seen c.args.input.now) c.code_content.result c.code_content.new.input text rest code e is c.code_content.ensures
