use Rattle.launch_order.proofs.ManyLaunches.{fault_behind}
use Rattle.launch_order.proofs.list_laws.fault_comes_behind.Goals as goal

pub returns : goal.returns
returns c = fault_behind
