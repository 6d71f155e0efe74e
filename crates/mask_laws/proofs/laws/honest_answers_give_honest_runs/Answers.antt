use Rattle.mask_laws.proofs.HonestRuns.{honest_runs}
use Rattle.mask_laws.proofs.laws.honest_answers_give_honest_runs.Goals as goal

pub returns : goal.returns
returns c = honest_runs
