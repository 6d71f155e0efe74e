use Rattle.std.proofs.Common.{◌≡◌}
use Rattle.vx_core.specs.WarpLists.{warps_of}
use Rattle.vx_core.proofs.WarpLaws.{started_below}
use Rattle.vx_core.proofs.crew.start_warps.Given as goal

abbrev pub invariant-loop-number : goal.invariant-loop-number
invariant-loop-number l = warps_of l.warps ≡ started_below l.number l.set l.pc (warps_of l.fn.warps)
