use Rattle.std.proofs.Common.{◌≡◌, ap, subst, refl, arith, List, ℕ}
use Rattle.outside_io.specs.Files.{AreBelow}
use Rattle.outside_io.specs.MemoryKinds.{FolderState, files_of}
use Rattle.outside_io.proofs.mem_folder.MemFolderFolder.list.Goals as goal

pub returns-then-len-gt-MOST_FILES-clause-answer :
    goal.returns-then-len-gt-MOST_FILES-clause-answer
returns-then-len-gt-MOST_FILES-clause-answer c =
    let same : c.self.inside.log.written ≡ c.args.self.now.written = ap (λ (s : FolderState). s.written) c.self.view_is in
    let all = subst (λ (ws : List (List ℕ × List ℕ)). AreBelow c.args.dir.now (files_of ws) c.in_ok-paths.paths) same c.in_ok-paths.ensures.all in
    (refl, (c.in_ok-paths.paths, c.in_ok-paths.ensures.ascend, omega arith, all))

pub returns-clause-answer : goal.returns-clause-answer
returns-clause-answer c =
    let same : c.self.inside.log.written ≡ c.args.self.now.written = ap (λ (s : FolderState). s.written) c.self.view_is in
    let all = subst (λ (ws : List (List ℕ × List ℕ)). AreBelow c.args.dir.now (files_of ws) c.in_ok-paths.paths) same c.in_ok-paths.ensures.all in
    (c.in_ok-paths.ensures.ascend, omega arith, all)
