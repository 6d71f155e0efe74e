use Rattle.std.proofs.Common.{◌≡◌, ℕ, map, take}
use Rattle.std.specs.Prelude.{replicate}
use Rattle.item_acts.proofs.arrays.zero_arrays.Given as goal

abbrev pub invariant-loop-size : goal.invariant-loop-size
invariant-loop-size l = l.arrays.items ≡ map (λ (size : ℕ). replicate size 0) (take l.size-index l.sizes)
