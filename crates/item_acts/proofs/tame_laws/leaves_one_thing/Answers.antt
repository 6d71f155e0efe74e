use Rattle.item_acts.proofs.Schedules.{left_once, complete_leaves}
use Rattle.item_acts.proofs.tame_laws.leaves_one_thing.Goals as goal

pub returns-clause-unique : goal.returns-clause-unique
returns-clause-unique c = left_once

pub returns-clause-complete : goal.returns-clause-complete
returns-clause-complete c = complete_leaves
