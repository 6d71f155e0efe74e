use Rattle.std.proofs.Common.{◌≡◌, ◌&&◌, not, nat_eq}
use Rattle.vx_isa.specs.Warps.{has_lane, lanes_below, value_in}
use Rattle.warp_state.specs.Lanes.{registers_in}
use Rattle.warp_state.proofs.lanes.nonzero_lanes.Given as goal

abbrev pub invariant-loop-number : goal.invariant-loop-number
invariant-loop-number l = l.chosen ≡ lanes_below l.number (λ lane. has_lane l.mask lane && not (nat_eq (value_in (registers_in l.lanes lane) l.register) 0))
