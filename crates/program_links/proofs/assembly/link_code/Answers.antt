use Rattle.program_links.proofs.GrownCode.{code_of}
use Rattle.program_links.proofs.assembly.link_code.Goals as goal

pub returns : goal.returns
returns c =
    code_of c.args.set.now c.link_methods.new.tables c.class_types.new.tables c.arguments_type.new.tables c.chars_type.new.tables
    (record { methods = c.in_ok-methods.methods; types = c.in_ok-types.types; arguments = c.in_ok-arguments.arguments; chars = c.in_ok-chars.chars })
    c.in_ok-methods.ensures.is c.in_ok-types.ensures.grows c.in_ok-types.ensures.are c.in_ok-arguments.ensures.grows c.in_ok-arguments.ensures.is c.in_ok-chars.ensures.grows c.in_ok-chars.ensures.is
