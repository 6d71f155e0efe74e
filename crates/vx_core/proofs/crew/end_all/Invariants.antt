use Rattle.std.proofs.Common.{◌≡◌}
use Rattle.vx_core.specs.WarpLists.{warps_of}
use Rattle.vx_core.proofs.WarpLaws.{ended_below}
use Rattle.vx_core.proofs.crew.end_all.Given as goal

abbrev pub invariant-loop-warp : goal.invariant-loop-warp
invariant-loop-warp l = warps_of l.warps ≡ ended_below l.warp-index (warps_of l.fn.warps)
