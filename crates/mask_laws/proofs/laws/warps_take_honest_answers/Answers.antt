use Rattle.mask_laws.proofs.HonestRuns.{take_honest}
use Rattle.mask_laws.proofs.laws.warps_take_honest_answers.Goals as goal

pub returns : goal.returns
returns c = take_honest
