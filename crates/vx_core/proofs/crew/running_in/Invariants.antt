use Rattle.std.proofs.Common.{◌≡◌}
use Rattle.vx_isa.specs.Warps.{lanes_below}
use Rattle.vx_core.specs.Crews.{is_running}
use Rattle.vx_core.specs.WarpLists.{warps_of}
use Rattle.vx_core.proofs.crew.running_in.Given as goal

abbrev pub invariant-loop-warp : goal.invariant-loop-warp
invariant-loop-warp l = l.set ≡ lanes_below l.warp (is_running (warps_of l.warps))
