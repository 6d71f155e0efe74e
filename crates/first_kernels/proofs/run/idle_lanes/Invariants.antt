use Rattle.std.proofs.Common.{◌≡◌, replicate}
use Rattle.first_kernels.specs.FirstWarp.{idle}
use Rattle.first_kernels.proofs.run.idle_lanes.Given as goal

abbrev pub invariant-loop : goal.invariant-loop
invariant-loop l = l.lanes.items ≡ replicate l.counter idle
