use Rattle.simt_lowering.proofs.LaneAccesses.{in_arrays}
use Rattle.simt_lowering.proofs.laws.accesses_are_in_arrays.Goals as goal

pub returns : goal.returns
returns c = in_arrays
