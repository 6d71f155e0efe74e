use Rattle.std.proofs.Common.{◌≡◌, ◌≤◌}
use Rattle.warp_scheduler.specs.Rules.{count_below}
use Rattle.warp_scheduler.proofs.seeded.ready_count.Given as goal

abbrev pub invariant-loop-warp : goal.invariant-loop-warp
invariant-loop-warp l = (l.count ≡ count_below l.ready l.warp) × (l.count ≤ l.warp)
