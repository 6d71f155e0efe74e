-- What every step of a warp keeps.
use Rattle.std.proofs.Common.{◌≡◌, ℕ, suc, ◌+◌, ◌%◌, ◌<◌, ◌≤◌, Bool, true, false, ◌&&◌, not, nat_eq, nat_lt, if◌then◌else◌, List, [], ◌∷◌, length, Option, Some, None, Result, Ok, Err, sym, ◌∙◌, arith, refl, leb-true}
use Rattle.std.proofs.lemmas.Bool.{true≢false, and_right}
use Rattle.vx_isa.specs.Effects.{address_at}
use Rattle.vx_isa.specs.Warps.{WarpState, value_in, has_lane, cut}
use Rattle.vx_isa.specs.WarpSteps.{Fields, Stepped, lane_fault, stop_lane, lanes_stepped, lanes_step, whole_trap, go_on, with_mask, has_room, diverge, agree, split_step, join_step, pred_mask, leader_value, nonzero_lanes, zero_lanes, instr_step, fetched, fetched_step, warp_step, is_trap, Stays}
use Rattle.vx_isa.proofs.MaskLaws.{has_lane-lanes_below}
use Rattle.vx_isa.specs.declared.instr.Instr.{Instr}
use Rattle.vx_isa.specs.declared.instr.Instr.TheVariants.{Tmc, Wspawn, Split, Join, Bar, Pred}
use Rattle.vx_isa.specs.declared.warps.Held.{Held}
use Rattle.vx_isa.specs.declared.warps.Held.TheVariants.{Restore, Else}
use Rattle.vx_isa.specs.declared.warps.Ids.{Ids}
use Rattle.vx_isa.specs.declared.warps.MachineTrap.{MachineTrap}
use Rattle.vx_isa.specs.declared.warps.MachineTrap.TheVariants as trap
use Rattle.vx_isa.specs.declared.warps.Step.{Step}
use Rattle.vx_isa.specs.declared.warps.Step.TheVariants as step

-- A fact that holds where the warp traps as a whole, where it goes on with a stack of at most 64 entries, and where its lanes
-- do an instruction, holds of every step.
module _ (w : WarpState) (P : Stepped → Type 0) (most : length w.stack ≤ 64)
    (traps : (fault : MachineTrap) → P (whole_trap fault w))
    (goes : (outcome : Step) (pc mask : ℕ) (stack : List Held) → is_trap outcome ≡ false → length stack ≤ 64 → P (go_on outcome pc mask stack w)) where
  of_mask : (mask : ℕ) → P (with_mask mask w)
  of_mask mask = goes (if nat_eq mask 0 then step.Ended else step.Next) (address_at w.pc 4) mask w.stack (no_trap (nat_eq mask 0)) most where
    no_trap : (b : Bool) → is_trap (if b then step.Ended else step.Next) ≡ false
    no_trap true = refl
    no_trap false = refl

  of_diverge : (on off : ℕ) (room : Bool) → has_room 2 w ≡ room → P (if room then go_on step.Diverged (address_at w.pc 4) on (Else off (address_at w.pc 4) ∷ Restore w.mask ∷ w.stack) w else whole_trap trap.StackFull w)
  of_diverge on off true room =
      goes step.Diverged (address_at w.pc 4) on (Else off (address_at w.pc 4) ∷ Restore w.mask ∷ w.stack) refl
      (let fits : length w.stack + 2 ≤ 64 = leb-true (length w.stack + 2) 64 room in let long : length (Else off (address_at w.pc 4) ∷ Restore w.mask ∷ w.stack) ≡ suc (suc (length w.stack)) = refl in omega (arith, long))
  of_diverge on off false room = traps trap.StackFull

  of_agree : (room : Bool) → has_room 1 w ≡ room → P (if room then go_on step.Agreed (address_at w.pc 4) w.mask (Restore w.mask ∷ w.stack) w else whole_trap trap.StackFull w)
  of_agree true room =
      goes step.Agreed (address_at w.pc 4) w.mask (Restore w.mask ∷ w.stack) refl
      (let fits : length w.stack + 1 ≤ 64 = leb-true (length w.stack + 1) 64 room in let long : length (Restore w.mask ∷ w.stack) ≡ suc (length w.stack) = refl in omega (arith, long))
  of_agree false room = traps trap.StackFull

  of_split : (on off : ℕ) → P (split_step on off w)
  of_split on off =
      elim (not (nat_eq on 0) && not (nat_eq off 0)) as (λ b. P (if b then diverge on off w else agree w)) [
        | true ↦ of_diverge on off (has_room 2 w) refl
        | false ↦ of_agree (has_room 1 w) refl
      ]

  of_join : (stack : List Held) → length stack ≤ 64 → P (join_step stack w)
  of_join [] short = traps trap.JoinEmpty
  of_join (Restore mask ∷ rest) short = goes step.Next (address_at w.pc 4) mask rest refl (let long : length (Restore mask ∷ rest) ≡ suc (length rest) = refl in omega (arith, long))
  of_join (Else mask pc ∷ rest) short = goes step.Next pc mask rest refl (let long : length (Else mask pc ∷ rest) ≡ suc (length rest) = refl in omega (arith, long))

  pub of_instr : (has : Fields) (ids : Ids) (answers : ℕ → ℕ) → ((i : Instr) → P (lanes_step has ids i answers w)) → (i : Instr) → P (instr_step has ids answers w i)
  of_instr has ids answers lanes (Tmc rs1) = of_mask (cut ids.lanes (leader_value w rs1))
  of_instr has ids answers lanes (Wspawn rs1 rs2) = goes (step.Spawn (leader_value w rs1) (leader_value w rs2)) (address_at w.pc 4) w.mask w.stack refl most
  of_instr has ids answers lanes (Split rs1) = of_split (nonzero_lanes w rs1) (zero_lanes w rs1)
  of_instr has ids answers lanes Join = of_join w.stack most
  of_instr has ids answers lanes (Bar rs1 rs2) = goes (step.Wait (leader_value w rs1 % 16) (leader_value w rs2)) (address_at w.pc 4) w.mask w.stack refl most
  of_instr has ids answers lanes (Pred rs1 rs2) = of_mask (pred_mask (nonzero_lanes w rs1) (cut ids.lanes (leader_value w rs2)))
  of_instr has ids answers lanes i = lanes i

  pub of_fetched : (has : Fields) (ids : Ids) (answers : ℕ → ℕ) → ((i : Instr) → P (lanes_step has ids i answers w)) → (f : Result Instr MachineTrap) → P (fetched_step has ids answers w f)
  of_fetched has ids answers lanes (Err fault) = traps fault
  of_fetched has ids answers lanes (Ok i) = of_instr has ids answers lanes i

-- ---- the laws

-- an inactive lane keeps its registers where the lanes do an instruction
idle_lanes_step : (ids : Ids) (i : Instr) (a : ℕ → ℕ) (w : WarpState) (lane stop : ℕ) (fault : Option MachineTrap) → has_lane w.mask lane ≡ false → (lanes_stepped ids i a w stop fault).warp.registers lane ≡ w.registers lane
idle_lanes_step ids i a w lane stop (Some fault) is_idle = rw (is_idle, and_right (nat_lt lane stop) false refl) refl
idle_lanes_step ids i a w lane stop None is_idle = rw (is_idle, and_right (nat_lt lane stop) false refl) refl

-- An inactive lane keeps its registers in every step.
pub inactive_lanes_keep : (has : Fields) (ids : Ids) (code : List ℕ) (answers : ℕ → ℕ) (w : WarpState) (lane : ℕ) → length w.stack ≤ 64 → has_lane w.mask lane ≡ false → (warp_step has ids code answers w).warp.registers lane ≡ w.registers lane
inactive_lanes_keep has ids code answers w lane most is_idle =
    of_fetched w (λ s. s.warp.registers lane ≡ w.registers lane) most (λ fault. refl) (λ outcome pc mask stack no_trap short. refl) has ids answers
    (λ i. idle_lanes_step ids i answers w lane (stop_lane has i w) (lane_fault has i w (stop_lane has i w)) is_idle) (fetched code w.pc)

-- A step leaves at most 64 entries.
pub steps_keep_depth : (has : Fields) (ids : Ids) (code : List ℕ) (answers : ℕ → ℕ) (w : WarpState) → length w.stack ≤ 64 → length (warp_step has ids code answers w).warp.stack ≤ 64
steps_keep_depth has ids code answers w most =
    of_fetched w (λ s. length s.warp.stack ≤ 64) most (λ fault. most) (λ outcome pc mask stack no_trap short. short) has ids answers
    (λ i. of_lanes i (lane_fault has i w (stop_lane has i w))) (fetched code w.pc) where
      of_lanes : (i : Instr) (fault : Option MachineTrap) → length (lanes_stepped ids i answers w (stop_lane has i w) fault).warp.stack ≤ 64
      of_lanes i (Some fault) = most
      of_lanes i None = most

-- A warp that traps stays where it was.
pub traps_stay : (has : Fields) (ids : Ids) (code : List ℕ) (answers : ℕ → ℕ) (w : WarpState) → length w.stack ≤ 64 → is_trap (warp_step has ids code answers w).outcome ≡ true → Stays w (warp_step has ids code answers w).warp
traps_stay has ids code answers w most =
    of_fetched w (λ s. is_trap s.outcome ≡ true → Stays w s.warp) most
    (λ fault has_trapped. record { same_pc = refl; same_mask = refl; same_stack = refl })
    (λ outcome pc mask stack no_trap short has_trapped. absurd (true≢false (sym has_trapped ∙ no_trap)))
    has ids answers (λ i. of_lanes i (lane_fault has i w (stop_lane has i w))) (fetched code w.pc) where
      of_lanes : (i : Instr) (fault : Option MachineTrap) → is_trap (lanes_stepped ids i answers w (stop_lane has i w) fault).outcome ≡ true → Stays w (lanes_stepped ids i answers w (stop_lane has i w) fault).warp
      of_lanes i (Some fault) has_trapped = record { same_pc = refl; same_mask = refl; same_stack = refl }
      of_lanes i None has_trapped = absurd (true≢false (sym has_trapped))

-- The sides of a split are the active lanes by their register.
pub nonzero_side : (w : WarpState) (r lane : ℕ) → lane < 32 → has_lane (nonzero_lanes w r) lane ≡ (has_lane w.mask lane && not (nat_eq (value_in (w.registers lane) r) 0))
nonzero_side w r lane below = has_lane-lanes_below 32 (λ l. has_lane w.mask l && not (nat_eq (value_in (w.registers l) r) 0)) lane below

pub zero_side : (w : WarpState) (r lane : ℕ) → lane < 32 → has_lane (zero_lanes w r) lane ≡ (has_lane w.mask lane && nat_eq (value_in (w.registers lane) r) 0)
zero_side w r lane below = has_lane-lanes_below 32 (λ l. has_lane w.mask l && nat_eq (value_in (w.registers l) r) 0) lane below
