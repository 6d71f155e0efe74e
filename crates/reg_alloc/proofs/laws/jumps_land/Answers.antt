use Rattle.reg_alloc.proofs.Standing.{jumps_land}
use Rattle.reg_alloc.proofs.laws.jumps_land.Goals as goal

pub returns : goal.returns
returns c = jumps_land
