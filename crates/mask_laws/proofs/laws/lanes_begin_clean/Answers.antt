use Rattle.mask_laws.proofs.Cleaning.{lanes_begin_clean}
use Rattle.mask_laws.proofs.laws.lanes_begin_clean.Goals as goal

pub returns : goal.returns
returns c = lanes_begin_clean
