use Rattle.std.proofs.Common.{arith}
use Rattle.ocl_measures.proofs.Beginning.{one_number_more}
use Rattle.ocl_measures.proofs.search.numbers_below.Goals as goal

pub loop-passed-preserved : goal.loop-passed-preserved
loop-passed-preserved c =
    one_number_more c.args.count c.loop-passed.passed c.loop-passed.numbers.items c.push.new.self.items (omega arith) c.loop-passed.invariant c.in_ok-push.ensures.items
