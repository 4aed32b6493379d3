use Rattle.phosphor_top.proofs.parts.configure.Goals as goal

pub returns-in-Err-NotBuilt-clause-gives : goal.returns-in-Err-NotBuilt-clause-gives
returns-in-Err-NotBuilt-clause-gives c = c.in-Err-NotBuilt.ensures.not_built (cc)
