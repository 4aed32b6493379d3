use Rattle.std.proofs.Common.{◌≡◌, drop, length, None, option_map, Bor, List, ℕ}
use Rattle.outside_io.specs.WriteLog.{log_of, taken}
use Rattle.outside_io.proofs.Logs.{latest}
use Rattle.outside_io.proofs.write_log.latest_in.Given as goal

-- the newest of what is left, else what was found, is the newest of all
abbrev pub invariant-loop-path_len : goal.invariant-loop-path_len
invariant-loop-path_len l = record {
  left : taken (drop l.path_len-index l.sizes) ≡ length l.rest;
  newest : latest l.path (log_of (drop l.path_len-index l.sizes) l.rest) (option_map (λ (b : Bor (List ℕ)). b.now) l.found) ≡ latest l.path (log_of l.sizes l.text) None;
}
