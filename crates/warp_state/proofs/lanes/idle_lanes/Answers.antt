use Rattle.warp_state.proofs.IdleLanes.{registers_in-idle}
use Rattle.warp_state.proofs.lanes.idle_lanes.Goals as goal

pub returns : goal.returns
returns c = rw c.new.ensures registers_in-idle
