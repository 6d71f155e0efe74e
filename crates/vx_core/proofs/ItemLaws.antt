-- The number of an item fits.
use Rattle.std.proofs.Common.{ℕ, ◌*◌, ◌<◌, ◌≤◌, arith}
use Rattle.std.proofs.lemmas.Nat.{mul-le}

-- the lanes of the warps below one
pub lanes_below_warp : (warp lanes : ℕ) → warp < 16 → lanes ≤ 32 → warp * lanes ≤ 480
lanes_below_warp warp lanes few below = mul-le warp lanes 15 32 (omega arith) below
