use Rattle.std.proofs.Common.{◌≡◌, ℕ}
use Rattle.std.specs.Prelude.{replicate, map}
use Rattle.item_acts.proofs.held.zero_groups.Given as goal

abbrev pub invariant-loop : goal.invariant-loop
invariant-loop l = l.list.items ≡ replicate l.counter (map (λ (size : ℕ). replicate size 0) l.sizes)
