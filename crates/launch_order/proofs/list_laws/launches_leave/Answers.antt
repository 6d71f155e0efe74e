use Rattle.launch_order.proofs.ManyLaunches.{through_leaves}
use Rattle.launch_order.proofs.list_laws.launches_leave.Goals as goal

pub returns : goal.returns
returns c = through_leaves
