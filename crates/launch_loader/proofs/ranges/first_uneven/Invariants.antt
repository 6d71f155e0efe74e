use Rattle.std.proofs.Common.{ℕ, ◌<◌}
use Rattle.launch_loader.specs.Refusals.{Divides}
use Rattle.launch_loader.proofs.ranges.first_uneven.Given as goal

abbrev pub invariant-loop-dimension : goal.invariant-loop-dimension
invariant-loop-dimension l = (d : ℕ) → d < l.dimension → Divides l.range d
