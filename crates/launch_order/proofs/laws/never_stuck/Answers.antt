use Rattle.launch_order.proofs.Endings.{never_stuck}
use Rattle.launch_order.proofs.laws.never_stuck.Goals as goal

pub returns : goal.returns
returns c = λ l given final cores events ends n known orderly. never_stuck l given final cores events ends known n orderly
