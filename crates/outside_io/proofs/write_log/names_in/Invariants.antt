use Rattle.outside_io.proofs.Names.{Walk}
use Rattle.outside_io.proofs.write_log.names_in.Given as goal

-- the names that were found and those in the rest are those of all paths
abbrev pub invariant-loop-path_len : goal.invariant-loop-path_len
invariant-loop-path_len l = Walk l.sizes l.text l.dir l.rest l.path_len-index l.found
