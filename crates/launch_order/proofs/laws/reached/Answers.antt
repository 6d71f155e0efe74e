use Rattle.launch_order.proofs.Endings.{reached}
use Rattle.launch_order.proofs.laws.reached.Goals as goal

pub returns : goal.returns
returns c = λ l given final cores events ends n known orderly. reached l given final cores events ends known n orderly
