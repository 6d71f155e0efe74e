use Rattle.warp_scheduler.proofs.OrderLaws.{below_has}
use Rattle.warp_scheduler.proofs.oldest_first.OldestFirstPicker.begin.Goals as goal

pub invariant_of-self : goal.invariant_of-self
invariant_of-self c = below_has 32
