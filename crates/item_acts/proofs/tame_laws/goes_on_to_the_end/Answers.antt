use Rattle.item_acts.proofs.Schedules.{progress, some_left}
use Rattle.item_acts.proofs.tame_laws.goes_on_to_the_end.Goals as goal

pub returns-clause-progress : goal.returns-clause-progress
returns-clause-progress c = progress

pub returns-clause-schedule : goal.returns-clause-schedule
returns-clause-schedule c = some_left
