use Rattle.launch_order.proofs.Endings.{fault_comes}
use Rattle.launch_order.proofs.laws.fault_comes.Goals as goal

pub returns : goal.returns
returns c = λ l given final cores events ends n known orderly. fault_comes l given final cores events ends known n orderly
