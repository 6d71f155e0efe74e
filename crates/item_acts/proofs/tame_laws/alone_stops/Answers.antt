use Rattle.item_acts.proofs.Schedules.{drive}
use Rattle.item_acts.proofs.tame_laws.alone_stops.Goals as goal

pub returns : goal.returns
returns c = drive
