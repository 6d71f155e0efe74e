use Rattle.vx_isa.proofs.WarpLaws.{inactive_lanes_keep, steps_keep_depth, traps_stay, nonzero_side, zero_side}
use Rattle.vx_isa.proofs.warp_laws.steps_keep.Goals as goal

pub returns : goal.returns
returns c = record {
  inactive = inactive_lanes_keep;
  depth = steps_keep_depth;
  trapped = traps_stay;
  nonzero = nonzero_side;
  zero = zero_side;
}
