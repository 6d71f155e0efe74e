-- Which machines there are.
use Rattle.std.specs.Prelude.{◌≡◌, ℕ, ◌^◌, ◌≤◌}
use Rattle.launch_plans.specs.declared.shapes.Shape.{Shape}

abbrev pub IsPowerOfTwo : ℕ → Type 0
IsPowerOfTwo n = (k : ℕ) × (n ≡ 2 ^ k)

-- the machine is within its limits
pub record IsShape (s : Shape) : Type 0 where
  pub some_cores : 1 ≤ s.cores
  pub cores : s.cores ≤ 8
  pub some_warps : 1 ≤ s.warps
  pub warps : s.warps ≤ 16
  pub some_lanes : 1 ≤ s.lanes
  pub lanes : s.lanes ≤ 32
  pub some_ways : 1 ≤ s.ways
  pub ways : s.ways ≤ 8
  pub sets : s.sets ≤ 64
  pub sets_power : IsPowerOfTwo s.sets
  pub banks : s.banks ≤ 16
  pub banks_power : IsPowerOfTwo s.banks
  pub some_turns : 1 ≤ s.turns
  pub turns : s.turns ≤ 2 ^ 32
