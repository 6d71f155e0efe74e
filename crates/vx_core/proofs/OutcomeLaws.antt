-- What a step names: a lane below 33, and a barrier below 16.
use Rattle.std.proofs.Common.{ℕ, zero, suc, ◌<◌, ◌≤◌, Bool, true, false, not, ◌&&◌, nat_eq, if◌then◌else◌, List, [], ◌∷◌, Option, Some, None, arith}
use Rattle.std.specs.Prelude.{Result, Ok, Err}
use Rattle.vx_isa.specs.Effects.{address_at}
use Rattle.vx_isa.specs.Warps.{WarpState, has_lane, least_below, cut}
use Rattle.vx_isa.specs.WarpSteps.{Fields, agree, diverge, fetched, fetched_step, go_on, has_room, instr_step, join_step, lane_fault, lanes_step, lanes_stepped, leader_value, nonzero_lanes, pred_mask, split_step, stop_lane, warp_step, whole_trap, with_mask, zero_lanes}
use Rattle.vx_isa.specs.declared.instr.Instr.{Instr}
use Rattle.vx_isa.specs.declared.instr.Instr.TheVariants as i
use Rattle.vx_isa.specs.declared.warps.Held.{Held}
use Rattle.vx_isa.specs.declared.warps.Held.TheVariants.{Restore, Else}
use Rattle.vx_isa.specs.declared.warps.Ids.{Ids}
use Rattle.vx_isa.specs.declared.warps.MachineTrap.{MachineTrap}
use Rattle.vx_isa.specs.declared.warps.MachineTrap.TheVariants as trap
use Rattle.vx_isa.specs.declared.warps.Step.{Step}
use Rattle.vx_isa.specs.declared.warps.Step.TheVariants as step
use Rattle.vx_core.specs.Ends.{bar_of, lane_of}

pub record NamesWithin (outcome : Step) : Type 0 where
  pub lane : lane_of outcome ≤ 32
  pub bar : bar_of outcome < 16

least_below-le : (n : ℕ) (test : ℕ → Bool) → least_below n test ≤ n
unfolding least_below
least_below-le zero test = omega arith
least_below-le (suc n) test =
    let rest : least_below n (λ k. test (suc k)) ≤ n = least_below-le n (λ k. test (suc k)) in
    elim (test 0) as (λ b. (if b then 0 else suc (least_below n (λ k. test (suc k)))) ≤ suc n) [
      | true ↦ omega arith
      | false ↦ omega (arith, rest)
    ]

trap_within : (fault : MachineTrap) (w : WarpState) → NamesWithin (whole_trap fault w).outcome
trap_within fault w = record { lane = least_below-le 32 (has_lane w.mask); bar = omega arith }

mask_within : (mask : ℕ) (w : WarpState) → NamesWithin (with_mask mask w).outcome
mask_within mask w =
    elim (nat_eq mask 0) as (λ b. NamesWithin (if b then step.Ended else step.Next)) [
      | true ↦ record { lane = omega arith; bar = omega arith }
      | false ↦ record { lane = omega arith; bar = omega arith }
    ]

diverge_within : (on off : ℕ) (w : WarpState) → NamesWithin (diverge on off w).outcome
diverge_within on off w =
    elim (has_room 2 w) as (λ b. NamesWithin (if b then go_on step.Diverged (address_at w.pc 4) on (Else off (address_at w.pc 4) ∷ Restore w.mask ∷ w.stack) w else whole_trap trap.StackFull w).outcome) [
      | true ↦ record { lane = omega arith; bar = omega arith }
      | false ↦ trap_within trap.StackFull w
    ]

agree_within : (w : WarpState) → NamesWithin (agree w).outcome
agree_within w =
    elim (has_room 1 w) as (λ b. NamesWithin (if b then go_on step.Agreed (address_at w.pc 4) w.mask (Restore w.mask ∷ w.stack) w else whole_trap trap.StackFull w).outcome) [
      | true ↦ record { lane = omega arith; bar = omega arith }
      | false ↦ trap_within trap.StackFull w
    ]

split_within : (on off : ℕ) (w : WarpState) → NamesWithin (split_step on off w).outcome
split_within on off w =
    elim (not (nat_eq on 0) && not (nat_eq off 0)) as (λ b. NamesWithin (if b then diverge on off w else agree w).outcome) [
      | true ↦ diverge_within on off w
      | false ↦ agree_within w
    ]

join_within : (stack : List Held) (w : WarpState) → NamesWithin (join_step stack w).outcome
join_within [] w = trap_within trap.JoinEmpty w
join_within (Restore mask ∷ rest) w = record { lane = omega arith; bar = omega arith }
join_within (Else mask pc ∷ rest) w = record { lane = omega arith; bar = omega arith }

stepped_within : (ids : Ids) (j : Instr) (answers : ℕ → ℕ) (w : WarpState) (stop : ℕ) (fault : Option MachineTrap) → stop ≤ 32 → NamesWithin (lanes_stepped ids j answers w stop fault).outcome
stepped_within ids j answers w stop (Some fault) below = record { lane = below; bar = omega arith }
stepped_within ids j answers w stop None below = record { lane = omega arith; bar = omega arith }

lanes_within : (has : Fields) (ids : Ids) (j : Instr) (answers : ℕ → ℕ) (w : WarpState) → NamesWithin (lanes_step has ids j answers w).outcome
lanes_within has ids j answers w = stepped_within ids j answers w (stop_lane has j w) (lane_fault has j w (stop_lane has j w)) (least_below-le 32 _)

instr_within : (has : Fields) (ids : Ids) (answers : ℕ → ℕ) (w : WarpState) (j : Instr) → NamesWithin (instr_step has ids answers w j).outcome
instr_within has ids answers w (i.Tmc rs1) = mask_within (cut ids.lanes (leader_value w rs1)) w
instr_within has ids answers w (i.Wspawn rs1 rs2) = record { lane = omega arith; bar = omega arith }
instr_within has ids answers w (i.Split rs1) = split_within (nonzero_lanes w rs1) (zero_lanes w rs1) w
instr_within has ids answers w i.Join = join_within w.stack w
instr_within has ids answers w (i.Bar rs1 rs2) = record { lane = omega arith; bar = omega arith }
instr_within has ids answers w (i.Pred rs1 rs2) = mask_within (pred_mask (nonzero_lanes w rs1) (cut ids.lanes (leader_value w rs2))) w
instr_within has ids answers w (i.Lui rd imm) = lanes_within has ids (i.Lui rd imm) answers w
instr_within has ids answers w (i.Auipc rd imm) = lanes_within has ids (i.Auipc rd imm) answers w
instr_within has ids answers w (i.Jal rd place) = lanes_within has ids (i.Jal rd place) answers w
instr_within has ids answers w (i.Jalr rd imm rs1) = lanes_within has ids (i.Jalr rd imm rs1) answers w
instr_within has ids answers w (i.Beq rs1 rs2 place) = lanes_within has ids (i.Beq rs1 rs2 place) answers w
instr_within has ids answers w (i.Bne rs1 rs2 place) = lanes_within has ids (i.Bne rs1 rs2 place) answers w
instr_within has ids answers w (i.Blt rs1 rs2 place) = lanes_within has ids (i.Blt rs1 rs2 place) answers w
instr_within has ids answers w (i.Bge rs1 rs2 place) = lanes_within has ids (i.Bge rs1 rs2 place) answers w
instr_within has ids answers w (i.Bltu rs1 rs2 place) = lanes_within has ids (i.Bltu rs1 rs2 place) answers w
instr_within has ids answers w (i.Bgeu rs1 rs2 place) = lanes_within has ids (i.Bgeu rs1 rs2 place) answers w
instr_within has ids answers w (i.Lb rd imm rs1) = lanes_within has ids (i.Lb rd imm rs1) answers w
instr_within has ids answers w (i.Lh rd imm rs1) = lanes_within has ids (i.Lh rd imm rs1) answers w
instr_within has ids answers w (i.Lw rd imm rs1) = lanes_within has ids (i.Lw rd imm rs1) answers w
instr_within has ids answers w (i.Lbu rd imm rs1) = lanes_within has ids (i.Lbu rd imm rs1) answers w
instr_within has ids answers w (i.Lhu rd imm rs1) = lanes_within has ids (i.Lhu rd imm rs1) answers w
instr_within has ids answers w (i.Sb rs2 imm rs1) = lanes_within has ids (i.Sb rs2 imm rs1) answers w
instr_within has ids answers w (i.Sh rs2 imm rs1) = lanes_within has ids (i.Sh rs2 imm rs1) answers w
instr_within has ids answers w (i.Sw rs2 imm rs1) = lanes_within has ids (i.Sw rs2 imm rs1) answers w
instr_within has ids answers w (i.Addi rd rs1 imm) = lanes_within has ids (i.Addi rd rs1 imm) answers w
instr_within has ids answers w (i.Slti rd rs1 imm) = lanes_within has ids (i.Slti rd rs1 imm) answers w
instr_within has ids answers w (i.Sltiu rd rs1 imm) = lanes_within has ids (i.Sltiu rd rs1 imm) answers w
instr_within has ids answers w (i.Xori rd rs1 imm) = lanes_within has ids (i.Xori rd rs1 imm) answers w
instr_within has ids answers w (i.Ori rd rs1 imm) = lanes_within has ids (i.Ori rd rs1 imm) answers w
instr_within has ids answers w (i.Andi rd rs1 imm) = lanes_within has ids (i.Andi rd rs1 imm) answers w
instr_within has ids answers w (i.Slli rd rs1 amount) = lanes_within has ids (i.Slli rd rs1 amount) answers w
instr_within has ids answers w (i.Srli rd rs1 amount) = lanes_within has ids (i.Srli rd rs1 amount) answers w
instr_within has ids answers w (i.Srai rd rs1 amount) = lanes_within has ids (i.Srai rd rs1 amount) answers w
instr_within has ids answers w (i.Add rd rs1 rs2) = lanes_within has ids (i.Add rd rs1 rs2) answers w
instr_within has ids answers w (i.Sub rd rs1 rs2) = lanes_within has ids (i.Sub rd rs1 rs2) answers w
instr_within has ids answers w (i.Sll rd rs1 rs2) = lanes_within has ids (i.Sll rd rs1 rs2) answers w
instr_within has ids answers w (i.Slt rd rs1 rs2) = lanes_within has ids (i.Slt rd rs1 rs2) answers w
instr_within has ids answers w (i.Sltu rd rs1 rs2) = lanes_within has ids (i.Sltu rd rs1 rs2) answers w
instr_within has ids answers w (i.Xor rd rs1 rs2) = lanes_within has ids (i.Xor rd rs1 rs2) answers w
instr_within has ids answers w (i.Srl rd rs1 rs2) = lanes_within has ids (i.Srl rd rs1 rs2) answers w
instr_within has ids answers w (i.Sra rd rs1 rs2) = lanes_within has ids (i.Sra rd rs1 rs2) answers w
instr_within has ids answers w (i.Or rd rs1 rs2) = lanes_within has ids (i.Or rd rs1 rs2) answers w
instr_within has ids answers w (i.And rd rs1 rs2) = lanes_within has ids (i.And rd rs1 rs2) answers w
instr_within has ids answers w (i.Mul rd rs1 rs2) = lanes_within has ids (i.Mul rd rs1 rs2) answers w
instr_within has ids answers w (i.Mulh rd rs1 rs2) = lanes_within has ids (i.Mulh rd rs1 rs2) answers w
instr_within has ids answers w (i.Mulhsu rd rs1 rs2) = lanes_within has ids (i.Mulhsu rd rs1 rs2) answers w
instr_within has ids answers w (i.Mulhu rd rs1 rs2) = lanes_within has ids (i.Mulhu rd rs1 rs2) answers w
instr_within has ids answers w (i.Div rd rs1 rs2) = lanes_within has ids (i.Div rd rs1 rs2) answers w
instr_within has ids answers w (i.Divu rd rs1 rs2) = lanes_within has ids (i.Divu rd rs1 rs2) answers w
instr_within has ids answers w (i.Rem rd rs1 rs2) = lanes_within has ids (i.Rem rd rs1 rs2) answers w
instr_within has ids answers w (i.Remu rd rs1 rs2) = lanes_within has ids (i.Remu rd rs1 rs2) answers w
instr_within has ids answers w (i.Fence before after) = lanes_within has ids (i.Fence before after) answers w
instr_within has ids answers w i.Ebreak = lanes_within has ids i.Ebreak answers w
instr_within has ids answers w (i.Csrr rd csr) = lanes_within has ids (i.Csrr rd csr) answers w

fetched_within : (has : Fields) (ids : Ids) (answers : ℕ → ℕ) (w : WarpState) (read : Result Instr MachineTrap) → NamesWithin (fetched_step has ids answers w read).outcome
fetched_within has ids answers w (Err fault) = trap_within fault w
fetched_within has ids answers w (Ok j) = instr_within has ids answers w j

pub step_within : (has : Fields) (ids : Ids) (code : List ℕ) (answers : ℕ → ℕ) (w : WarpState) → NamesWithin (warp_step has ids code answers w).outcome
step_within has ids code answers w = fetched_within has ids answers w (fetched code w.pc)
