use Rattle.launch_order.proofs.ManyLaunches.{ran_leaves}
use Rattle.launch_order.proofs.laws.done_leaves.Goals as goal

pub returns : goal.returns
returns c = ran_leaves
