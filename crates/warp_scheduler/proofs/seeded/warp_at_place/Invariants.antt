use Rattle.std.proofs.Common.{◌≡◌, ◌+◌}
use Rattle.warp_scheduler.specs.Rules.{count_below}
use Rattle.warp_scheduler.proofs.seeded.warp_at_place.Given as goal

abbrev pub invariant-loop-warp : goal.invariant-loop-warp
invariant-loop-warp l = l.left + count_below l.ready l.warp ≡ l.place
