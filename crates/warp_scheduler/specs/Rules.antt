-- Which ready warp each policy picks. A set of warps is a number: warp k is in it where bit k is 1.
use Rattle.std.specs.Prelude.{◌≡◌, ℕ, zero, suc, ◌+◌, ◌%◌, ◌<◌, ◌≤◌, List, [], ◌∷◌, ◌++◌, Some, nat_eq, Contains, position, remove, slice_index}
use Rattle.std.specs.Int.{IsBitSet, bit_at}
use Rattle.vx_base.specs.Masks.{IsLeastBit}
use Rattle.rand_pcg.specs.Lcg.{Lcg, started, increment_of}
use Rattle.rand_pcg.specs.Pcg.{multiplier_64, pcg32}

-- ---- round robin

-- the least warp of a set from a number on
pub record IsLeastFrom (ready from k : ℕ) : Type 0 where
  pub is_ready : IsBitSet ready k
  pub from_on : from ≤ k
  pub none_before : (j : ℕ) → from ≤ j → j < k → ¬ IsBitSet ready j

-- The number to look from is the one above the last pick. The least ready warp from there on is picked, and where there is
-- none the least of all.
pub data PicksInTurn (from ready k : ℕ) : Type 0 where
  Above : IsLeastFrom ready from k → PicksInTurn from ready k
  Around : ((j : ℕ) → from ≤ j → ¬ IsBitSet ready j) → IsLeastBit ready k → PicksInTurn from ready k

-- a pick leaves the number above it, and 0 above 31
pub record TakesTurn (from ready k now : ℕ) : Type 0 where
  pub picks : PicksInTurn from ready k
  pub next : now ≡ (k + 1) % 32

-- ---- the oldest first

-- the numbers below n, in ascending order
abbrev pub below : ℕ → List ℕ
below zero = []
below (suc n) = below n ++ n ∷ []

-- each warp stands somewhere
abbrev pub HasAll : List ℕ → Type 0
HasAll order = (j : ℕ) → j < 32 → Contains order j

-- All warps stand in the order of their last picks; those that were never picked stand in front, in ascending order. The
-- first ready one is picked, and then stands last.
pub record TakesOldest (order : List ℕ) (ready k : ℕ) (now : List ℕ) : Type 0 where
  pub place : ℕ
  pub first : position (λ warp. nat_eq (bit_at ready warp) 1) order ≡ Some place
  pub picked : k ≡ slice_index order place
  pub last : now ≡ remove order place ++ k ∷ []

-- ---- by a seed

-- how many warps below a number are in a set
abbrev pub count_below : ℕ → ℕ → ℕ
count_below ready zero = 0
count_below ready (suc n) = count_below ready n + bit_at ready n

-- the generator of a group
abbrev pub generator_of : ℕ → ℕ → Lcg
generator_of seed group = started 64 multiplier_64 seed (increment_of 64 group)

-- the warp at a place among those of a set, in ascending order, counted from 0
pub record IsAtPlace (ready place k : ℕ) : Type 0 where
  pub is_ready : IsBitSet ready k
  pub so_many_below : count_below ready k ≡ place

-- a seed, and the generator of the group that began last
pub record Drawing : Type 0 where
  pub seed : ℕ
  pub generator : Lcg

-- the group that begins has the generator of the seed and its number
pub record BeginsDrawing (before : Drawing) (group : ℕ) (after : Drawing) : Type 0 where
  pub same_seed : after.seed ≡ before.seed
  pub begun : after.generator ≡ generator_of before.seed group

-- the generator's next word, modulo the number of ready warps, is the place of the pick
pub record DrawsWarp (before : Drawing) (ready k : ℕ) (after : Drawing) : Type 0 where
  pub place : IsAtPlace ready ((pcg32 before.generator).0 % count_below ready 32) k
  pub same_seed : after.seed ≡ before.seed
  pub moved : after.generator ≡ (pcg32 before.generator).1
