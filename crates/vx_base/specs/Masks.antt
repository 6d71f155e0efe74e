-- Sets of lanes, as numbers: lane k is in the set where bit k is 1.
use Rattle.std.specs.Prelude.{ℕ, ◌<◌}
use Rattle.std.specs.Int.{IsBitSet}

-- bit k is 1, and each bit below it is 0
pub record IsLeastBit (mask k : ℕ) : Type 0 where
  pub is_set : IsBitSet mask k
  pub none_below : (j : ℕ) → j < k → ¬ IsBitSet mask j
