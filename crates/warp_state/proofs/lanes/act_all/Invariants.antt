use Rattle.warp_state.specs.Acts.{warp_of}
use Rattle.warp_state.specs.Lanes.{registers_in}
use Rattle.warp_state.proofs.Going.{IsGoing}
use Rattle.warp_state.proofs.lanes.act_all.Given as goal

abbrev pub invariant-loop-number : goal.invariant-loop-number
invariant-loop-number g l = IsGoing g.M.LaneMemory.acts g.M.LaneMemory.has g.M.LaneMemory.is_sound l.shared.ids l.i (warp_of l.shared.pc l.shared.mask (registers_in l.fn.lanes)) l.fn.memory l.number l.lanes l.memory
