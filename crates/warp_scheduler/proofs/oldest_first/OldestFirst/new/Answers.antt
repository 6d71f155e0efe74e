use Rattle.warp_scheduler.proofs.OrderLaws.{below_has}
use Rattle.warp_scheduler.proofs.oldest_first.OldestFirst.new.Goals as goal

pub invariant_of-result : goal.invariant_of-result
invariant_of-result c = below_has 32
