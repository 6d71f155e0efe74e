use Rattle.launch_order.proofs.ManyLaunches.{stuck_behind}
use Rattle.launch_order.proofs.list_laws.never_stuck_behind.Goals as goal

pub returns : goal.returns
returns c = stuck_behind
