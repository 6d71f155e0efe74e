-- The warps of a core and the barriers at which they wait, and what the end of an instruction makes of them. A set of warps is
-- a number: warp k is in it where bit k is 1.
use Rattle.std.specs.Prelude.{◌≡◌, ◌≢◌, ℕ, Bool, not, ◌&&◌, nat_eq, nat_lt, min, if◌then◌else◌, List, replicate, bit_and, bit_or}
use Rattle.std.specs.Int.{bit_not, w32}
use Rattle.vx_isa.specs.Warps.{WarpState, has_lane, lanes_below, started}
use Rattle.vx_isa.specs.WarpSteps.{code_start}
use Rattle.vx_isa.specs.declared.warps.Step.{Step}
use Rattle.vx_isa.specs.declared.warps.Step.TheVariants as step
use Rattle.barrier_table.specs.Waiting.{all_waiting, barriers_after}

-- the warps by number, those that were started since the group began, and the warps that wait at each barrier
pub record CrewState : Type 0 where
  pub warps : ℕ → WarpState
  pub begun : ℕ
  pub barriers : List ℕ

-- the warps of a set that are not in another
abbrev pub without : ℕ → ℕ → ℕ
without set other = bit_and set (bit_not w32 other)

-- a warp has not ended
abbrev pub is_running : (ℕ → WarpState) → ℕ → Bool
is_running warps w = not (nat_eq (warps w).mask 0)

abbrev pub running_warps : CrewState → ℕ
running_warps s = lanes_below 16 (is_running s.warps)

abbrev pub waiting_warps : CrewState → ℕ
waiting_warps s = all_waiting s.barriers

-- the warps that can take a step
abbrev pub ready_warps : CrewState → ℕ
ready_warps s = without (running_warps s) (waiting_warps s)

-- the warps that were started and have ended
abbrev pub ended_warps : CrewState → ℕ
ended_warps s = without s.begun (running_warps s)

-- the warps of a set have started at an address, with lane 0 alone
abbrev pub with_started : ℕ → ℕ → (ℕ → WarpState) → ℕ → WarpState
with_started set pc warps = λ w. if has_lane set w then started pc 1 else warps w

-- one warp of all is another
abbrev pub with_one : ℕ → WarpState → (ℕ → WarpState) → ℕ → WarpState
with_one warp moved warps = λ w. if nat_eq w warp then moved else warps w

-- A group begins: warp 0 alone is started, at the first word of the code, and no warp waits. The others have no active lanes;
-- what their registers hold is not said.
pub record Opens (s : CrewState) : Type 0 where
  pub first : s.warps 0 ≡ started code_start 1
  pub others : (w : ℕ) → w ≢ 0 → (s.warps w).mask ≡ 0
  pub begun_is : s.begun ≡ 1
  pub none_wait : s.barriers ≡ replicate 16 0

-- one warp stands so, and the others as before
abbrev pub with_warp : ℕ → WarpState → CrewState → CrewState
with_warp warp moved s = record { warps = with_one warp moved s.warps; begun = s.begun; barriers = s.barriers }

-- whether a `wspawn` that names so many warps starts this one: it is above 0 and has ended or was not started
abbrev pub is_spawned : ℕ → (ℕ → WarpState) → ℕ → Bool
is_spawned count warps w = nat_lt 0 w && (nat_lt w count && not (is_running warps w))

abbrev pub spawned_warps : ℕ → (ℕ → WarpState) → ℕ
spawned_warps count warps = lanes_below 16 (is_spawned count warps)

-- those warps begin at its address
abbrev pub with_spawned : ℕ → ℕ → CrewState → CrewState
with_spawned count pc s = record {
  warps = with_started (spawned_warps count s.warps) pc s.warps;
  begun = bit_or s.begun (spawned_warps count s.warps);
  barriers = s.barriers;
}

-- what the end of an instruction of a warp makes of the others, where the core has so many warps
abbrev pub crew_after : ℕ → ℕ → Step → CrewState → CrewState
crew_after warps warp (step.Wait bar count) s = record { warps = s.warps; begun = s.begun; barriers = barriers_after s.barriers bar warp count }
crew_after warps warp (step.Spawn count pc) s = with_spawned (min count warps) pc s
crew_after warps warp outcome s = s
