-- One instruction of a warp: what it makes of the warp, which fields of memory its lanes read and write, and how it ends.
--
-- The numbers of the warp, the words of the code, the fields that are in the memory and the answers to the lanes' reads are
-- given. Read `warp_step` near the end first.
use Rattle.std.specs.Prelude.{◌≡◌, ℕ, zero, suc, ◌+◌, ◌-◌, ◌/◌, ◌%◌, Bool, true, false, not, ◌&&◌, nat_eq, nat_lt, nat_le, if◌then◌else◌, List, [], ◌∷◌, ◌++◌, map, length, slice_get, Option, Some, None, Result, Ok, Err, is_some}
use Rattle.vx_base.specs.Bytes.{bytes_of}
use Rattle.vx_base.specs.declared.types.Size.{Size}
use Rattle.vx_isa.specs.Effects.{address_at, effect_of}
use Rattle.vx_isa.specs.Operands.{rs1_of, rs2_of}
use Rattle.vx_isa.specs.Rows.{row_of}
use Rattle.vx_isa.specs.Warps.{Registers, value_in, with_register, loaded, WarpState, has_lane, lanes_where, least_below, leader, cut}
use Rattle.vx_isa.specs.declared.instr.Instr.{Instr}
use Rattle.vx_isa.specs.declared.instr.Instr.TheVariants.{Tmc, Wspawn, Split, Join, Bar, Pred}
use Rattle.vx_isa.specs.declared.instr.LaneEffect.{LaneEffect}
use Rattle.vx_isa.specs.declared.instr.LaneEffect.TheVariants as effect
use Rattle.vx_isa.specs.declared.warps.Held.{Held}
use Rattle.vx_isa.specs.declared.warps.Held.TheVariants.{Restore, Else}
use Rattle.vx_isa.specs.declared.warps.Ids.{Ids}
use Rattle.vx_isa.specs.declared.warps.MachineTrap.{MachineTrap}
use Rattle.vx_isa.specs.declared.warps.MachineTrap.TheVariants as trap
use Rattle.vx_isa.specs.declared.warps.Step.{Step}
use Rattle.vx_isa.specs.declared.warps.Step.TheVariants as step

-- a read of a field of memory with its answer, or a write of the low bytes of a value to a field
pub data Access : Type 0 where
  Reads : ℕ → Size → ℕ → Access
  Writes : ℕ → Size → ℕ → Access

-- an access of a lane
pub record LaneAccess : Type 0 where
  pub lane : ℕ
  pub access : Access

-- whether the field of a size at an address lies wholly in the memory
abbrev pub Fields : Type 0
Fields = ℕ → Size → Bool

-- what an instruction leaves
pub record Stepped : Type 0 where
  pub warp : WarpState
  pub accesses : List LaneAccess
  pub outcome : Step

-- ---- one lane

-- what an instruction is to a lane
unfoldable pub effect_in : Instr → WarpState → ℕ → LaneEffect
effect_in i w lane = effect_of i w.pc (value_in (w.registers lane) (rs1_of i)) (value_in (w.registers lane) (rs2_of i))

-- where an effect leads from an instruction
abbrev pub leads_to : ℕ → LaneEffect → ℕ
leads_to pc (effect.Branch taken target) = if taken then target else address_at pc 4
leads_to pc (effect.Jump rd link target) = target
leads_to pc e = address_at pc 4

-- what the active lanes have to agree on: the outcome of a branch, the target of a jump
abbrev pub choice_of : LaneEffect → ℕ
choice_of (effect.Branch taken target) = if taken then 1 else 0
choice_of (effect.Jump rd link target) = target
choice_of e = 0

-- why a lane cannot access a field
abbrev pub field_fault : Fields → ℕ → Size → Option MachineTrap
field_fault has address size =
    if nat_eq (address % bytes_of size) 0
    then (if has address size then None else Some trap.Bus)
    else Some trap.Misaligned

-- Why a lane cannot go where its effect leads, where the least active lane chose so. Lanes that chose like it go where it
-- goes.
abbrev pub way_fault : ℕ → ℕ → LaneEffect → Option MachineTrap
way_fault pc chosen e =
    if nat_eq (choice_of e) chosen
    then (if nat_eq (leads_to pc e % 4) 0 then None else Some trap.Misaligned)
    else Some trap.Split

-- why a lane traps
abbrev pub fault_of : Fields → ℕ → ℕ → LaneEffect → Option MachineTrap
fault_of has pc chosen (effect.Load rd address size signed) = field_fault has address size
fault_of has pc chosen (effect.Store address size value) = field_fault has address size
fault_of has pc chosen (effect.Branch taken target) = way_fault pc chosen (effect.Branch taken target)
fault_of has pc chosen (effect.Jump rd link target) = way_fault pc chosen (effect.Jump rd link target)
fault_of has pc chosen effect.Break = Some trap.Break
fault_of has pc chosen e = None

-- what a control register reads as in a lane of a warp with this mask
abbrev pub csr_value : Ids → ℕ → ℕ → ℕ → ℕ
csr_value ids mask lane csr =
    if nat_eq csr 0xcc0 then lane
    else if nat_eq csr 0xcc1 then ids.warp
    else if nat_eq csr 0xcc2 then ids.core
    else mask

-- the registers of a lane behind its effect, where its read has this answer
abbrev pub registers_after : Ids → ℕ → ℕ → ℕ → LaneEffect → Registers → Registers
registers_after ids mask lane answer (effect.Write rd value) registers = with_register rd value registers
registers_after ids mask lane answer (effect.Load rd address size signed) registers = with_register rd (loaded size signed answer) registers
registers_after ids mask lane answer (effect.Jump rd link target) registers = with_register rd link registers
registers_after ids mask lane answer (effect.Csr rd csr) registers = with_register rd (csr_value ids mask lane csr) registers
registers_after ids mask lane answer e registers = registers

-- the access of an effect, where its read has this answer
abbrev pub access_of : ℕ → LaneEffect → List Access
access_of answer (effect.Load rd address size signed) = Reads address size answer ∷ []
access_of answer (effect.Store address size value) = Writes address size value ∷ []
access_of answer e = []

-- ---- the active lanes, in ascending order

-- why a lane traps: a cause holds only for active lanes
abbrev pub lane_fault : Fields → Instr → WarpState → ℕ → Option MachineTrap
lane_fault has i w lane =
    if has_lane w.mask lane
    then fault_of has w.pc (choice_of (effect_in i w (leader w.mask))) (effect_in i w lane)
    else None

-- the least active lane for which a cause holds, and 32 where none does for any
abbrev pub stop_lane : Fields → Instr → WarpState → ℕ
stop_lane has i w = least_below 32 (λ lane. is_some (lane_fault has i w lane))

-- the registers of each lane once the active lanes below a number have acted
abbrev pub acted_below : ℕ → Ids → Instr → (ℕ → ℕ) → WarpState → ℕ → Registers
acted_below n ids i answers w =
    λ lane. if nat_lt lane n && has_lane w.mask lane
    then registers_after ids w.mask lane (answers lane) (effect_in i w lane) (w.registers lane)
    else w.registers lane

-- the accesses of a lane
abbrev pub lane_accesses : Instr → (ℕ → ℕ) → WarpState → ℕ → List LaneAccess
lane_accesses i answers w lane =
    if has_lane w.mask lane
    then map (λ a. record { lane = lane; access = a }) (access_of (answers lane) (effect_in i w lane))
    else []

-- the accesses of the active lanes below a number, in ascending order
unfoldable pub accesses_below : ℕ → Instr → (ℕ → ℕ) → WarpState → List LaneAccess
accesses_below zero i answers w = []
accesses_below (suc n) i answers w = accesses_below n i answers w ++ lane_accesses i answers w n

-- The active lanes below `stop` have acted. Lane `stop` traps where it has a cause, and the warp goes where the least
-- active lane goes where it has none.
abbrev pub lanes_stepped : Ids → Instr → (ℕ → ℕ) → WarpState → ℕ → Option MachineTrap → Stepped
lanes_stepped ids i answers w stop (Some fault) = record {
  warp = record w { registers = acted_below stop ids i answers w };
  accesses = accesses_below stop i answers w;
  outcome = step.Trap fault stop w.pc;
}
lanes_stepped ids i answers w stop None = record {
  warp = record w { pc = leads_to w.pc (effect_in i w (leader w.mask)); registers = acted_below stop ids i answers w };
  accesses = accesses_below stop i answers w;
  outcome = step.Next;
}

-- an instruction that each active lane does
abbrev pub lanes_step : Fields → Ids → Instr → (ℕ → ℕ) → WarpState → Stepped
lanes_step has ids i answers w =
    lanes_stepped ids i answers w (stop_lane has i w) (lane_fault has i w (stop_lane has i w))

-- ---- the warp as a whole

-- the value of a register in the least active lane
abbrev pub leader_value : WarpState → ℕ → ℕ
leader_value w r = value_in (w.registers (leader w.mask)) r

-- the active lanes in which a register is not 0, and those in which it is 0
abbrev pub nonzero_lanes : WarpState → ℕ → ℕ
nonzero_lanes w r = lanes_where (λ lane. has_lane w.mask lane && not (nat_eq (value_in (w.registers lane) r) 0))

abbrev pub zero_lanes : WarpState → ℕ → ℕ
zero_lanes w r = lanes_where (λ lane. has_lane w.mask lane && nat_eq (value_in (w.registers lane) r) 0)

-- The warp traps as a whole: nothing has changed, and the lane is the least active one.
abbrev pub whole_trap : MachineTrap → WarpState → Stepped
whole_trap fault w = record { warp = w; accesses = []; outcome = step.Trap fault (leader w.mask) w.pc }

-- the warp goes on at an address with a mask and a stack
abbrev pub go_on : Step → ℕ → ℕ → List Held → WarpState → Stepped
go_on outcome pc mask stack w = record {
  warp = record { pc = pc; mask = mask; registers = w.registers; stack = stack };
  accesses = [];
  outcome = outcome;
}

-- the warp goes on behind the instruction with a mask; the empty mask ends it
abbrev pub with_mask : ℕ → WarpState → Stepped
with_mask mask w = go_on (if nat_eq mask 0 then step.Ended else step.Next) (address_at w.pc 4) mask w.stack w

-- A stack has at most 64 entries.
abbrev pub has_room : ℕ → WarpState → Bool
has_room entries w = nat_le (length w.stack + entries) 64

-- `split`, by the lanes that go on and those that wait. Where there are both, the others wait at the instruction behind it.
abbrev pub diverge : ℕ → ℕ → WarpState → Stepped
diverge on off w =
    if has_room 2 w
    then go_on step.Diverged (address_at w.pc 4) on (Else off (address_at w.pc 4) ∷ Restore w.mask ∷ w.stack) w
    else whole_trap trap.StackFull w

abbrev pub agree : WarpState → Stepped
agree w =
    if has_room 1 w
    then go_on step.Agreed (address_at w.pc 4) w.mask (Restore w.mask ∷ w.stack) w
    else whole_trap trap.StackFull w

abbrev pub split_step : ℕ → ℕ → WarpState → Stepped
split_step on off w = if not (nat_eq on 0) && not (nat_eq off 0) then diverge on off w else agree w

-- `join`, by the stack that it finds
abbrev pub join_step : List Held → WarpState → Stepped
join_step [] w = whole_trap trap.JoinEmpty w
join_step (Restore mask ∷ rest) w = go_on step.Next (address_at w.pc 4) mask rest w
join_step (Else mask pc ∷ rest) w = go_on step.Next pc mask rest w

-- the mask that `pred` leaves, by the active lanes that stay and the mask that stands in for them where none does
abbrev pub pred_mask : ℕ → ℕ → ℕ
pred_mask stay saved = if nat_eq stay 0 then saved else stay

-- ---- the step

-- the address of the first word of the code
abbrev pub code_start : ℕ
code_start = 0x80000000

-- the word at an address, where it is that of a word of the code
abbrev pub word_at : List ℕ → ℕ → Option ℕ
word_at code pc =
    if nat_le code_start pc && nat_eq (pc % 4) 0 then slice_get code ((pc - code_start) / 4) else None

-- the instruction that a word is
abbrev pub read_as : Option Instr → Result Instr MachineTrap
read_as None = Err trap.Illegal
read_as (Some i) = Ok i

abbrev pub decoded : Option ℕ → Result Instr MachineTrap
decoded None = Err trap.Bus
decoded (Some word) = read_as (row_of word)

-- the instruction at an address
unfoldable pub fetched : List ℕ → ℕ → Result Instr MachineTrap
fetched code pc = decoded (word_at code pc)

-- what an instruction makes of a warp
abbrev pub instr_step : Fields → Ids → (ℕ → ℕ) → WarpState → Instr → Stepped
instr_step has ids answers w (Tmc rs1) = with_mask (cut ids.lanes (leader_value w rs1)) w
instr_step has ids answers w (Wspawn rs1 rs2) = go_on (step.Spawn (leader_value w rs1) (leader_value w rs2)) (address_at w.pc 4) w.mask w.stack w
instr_step has ids answers w (Split rs1) = split_step (nonzero_lanes w rs1) (zero_lanes w rs1) w
instr_step has ids answers w Join = join_step w.stack w
instr_step has ids answers w (Bar rs1 rs2) = go_on (step.Wait (leader_value w rs1 % 16) (leader_value w rs2)) (address_at w.pc 4) w.mask w.stack w
instr_step has ids answers w (Pred rs1 rs2) = with_mask (pred_mask (nonzero_lanes w rs1) (cut ids.lanes (leader_value w rs2))) w
instr_step has ids answers w i = lanes_step has ids i answers w

abbrev pub fetched_step : Fields → Ids → (ℕ → ℕ) → WarpState → Result Instr MachineTrap → Stepped
fetched_step has ids answers w (Err fault) = whole_trap fault w
fetched_step has ids answers w (Ok i) = instr_step has ids answers w i

-- One step of a warp whose mask is not empty, where these fields are in the memory and the read of lane k is answered by
-- `answers k`.
abbrev pub warp_step : Fields → Ids → List ℕ → (ℕ → ℕ) → WarpState → Stepped
warp_step has ids code answers w = fetched_step has ids answers w (fetched code w.pc)

-- ---- what a trap leaves

-- whether a step has trapped
abbrev pub is_trap : Step → Bool
is_trap (step.Trap fault lane pc) = true
is_trap outcome = false

-- a warp that stands where it was, with its mask and its stack
pub record Stays (w w' : WarpState) : Type 0 where
  pub same_pc : w'.pc ≡ w.pc
  pub same_mask : w'.mask ≡ w.mask
  pub same_stack : w'.stack ≡ w.stack

-- ---- on a memory

-- a memory goes by the accesses, in order, from one state to another
abbrev pub Makes : {M : Type 0} → (M → Access → M → Type 0) → M → List LaneAccess → M → Type 0
Makes acts m [] m' = m' ≡ m
Makes {M} acts m (a ∷ rest) m' = (between : M) × acts m a.access between × Makes acts between rest m'

-- A step on a memory, as a function of the answers to the lanes' reads: for some answers that the memory's relation allows,
-- the accesses, the warp and the outcome are those of the step.
pub record Takes {M : Type 0} (acts : M → Access → M → Type 0) (stepped : (ℕ → ℕ) → Stepped) (m : M) (outcome : Step) (w' : WarpState) (m' : M) : Type 0 where
  pub answers : ℕ → ℕ
  pub made : Makes acts m (stepped answers).accesses m'
  pub warp_is : w' ≡ (stepped answers).warp
  pub outcome_is : outcome ≡ (stepped answers).outcome
