use Rattle.std.proofs.Common.{arith}
use Rattle.item_acts.proofs.Answering.{group_within}
use Rattle.item_acts.proofs.held.Held.ends_of.Goals as goal

pub overflow_mul-first : goal.overflow_mul-first
overflow_mul-first c = omega arith

pub overflow_add-result : goal.overflow_add-result
overflow_add-result c =
    let within = group_within c.args.self.now.items c.args.self.now.local c.args.group c.requires.held.positive c.requires.held.whole c.requires.exists in
    omega arith
