use Rattle.ocl_inline.proofs.Lockstep.{steps_alike}
use Rattle.ocl_inline.proofs.Runs.{asked_alike, spent_alike}
use Rattle.ocl_inline.proofs.laws.flat_steps_are_the_sources.Goals as goal

pub returns : goal.returns
returns c = record { steps = steps_alike; asks = asked_alike; spends = spent_alike }
