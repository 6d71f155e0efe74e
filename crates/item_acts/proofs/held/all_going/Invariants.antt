use Rattle.std.proofs.Common.{◌≡◌}
use Rattle.std.specs.Prelude.{replicate}
use Rattle.item_acts.specs.declared.held.Progress.TheVariants.{Going}
use Rattle.item_acts.proofs.held.all_going.Given as goal

abbrev pub invariant-loop : goal.invariant-loop
invariant-loop l = l.list.items ≡ replicate l.counter Going
