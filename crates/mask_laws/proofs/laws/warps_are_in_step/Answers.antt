use Rattle.mask_laws.proofs.Law.{warps_in_step}
use Rattle.mask_laws.proofs.laws.warps_are_in_step.Goals as goal

pub returns : goal.returns
returns c = warps_in_step
