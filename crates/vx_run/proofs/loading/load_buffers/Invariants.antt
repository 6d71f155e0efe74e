use Rattle.std.proofs.Common.{◌≡◌, ◌≤◌}
use Rattle.vx_run.proofs.LoadingLaws.{HasLoaded}
use Rattle.vx_run.proofs.loading.load_buffers.Given as goal

abbrev pub invariant-loop-index : goal.invariant-loop-index
invariant-loop-index g l =
    (g.F.Files.held l.files ≡ g.F.Files.held l.fn.files) × (g.F.Files.faults l.fn.files ≤ g.F.Files.faults l.files)
    × (g.F.Files.misses l.fn.files ≤ g.F.Files.misses l.files) × HasLoaded (g.F.Files.held l.fn.files) l.fn.run l.index l.contents.items
