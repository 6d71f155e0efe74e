use Rattle.mask_laws.proofs.ConstantLoads.{loads_are_constant}
use Rattle.mask_laws.proofs.laws.loads_are_constant.Goals as goal

pub returns : goal.returns
returns c = loads_are_constant
