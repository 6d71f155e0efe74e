-- What the lanes of a warp do one after another.
use Rattle.std.specs.Prelude.{◌≡◌, ℕ, ◌<◌, Bool, Some, None, List, [], map}
use Rattle.vx_base.specs.declared.types.Size.{Size}
use Rattle.vx_isa.specs.Effects.{effect_of}
use Rattle.vx_isa.specs.Operands.{rs1_of, rs2_of}
use Rattle.vx_isa.specs.Warps.{leader, value_in, Registers, WarpState, with_register, loaded}
use Rattle.vx_isa.specs.WarpSteps.{Stepped, choice_of, effect_in, Access, Reads, Writes, LaneAccess, field_fault, Fields, Makes, fault_of, registers_after, access_of, lane_fault, acted_below, accesses_below}
use Rattle.vx_isa.specs.declared.instr.Instr.{Instr}
use Rattle.vx_isa.specs.declared.instr.LaneEffect.{LaneEffect}
use Rattle.vx_isa.specs.declared.warps.Ids.{Ids}
use Rattle.vx_isa.specs.declared.warps.MachineTrap.{MachineTrap}
use Rattle.vx_isa.specs.declared.warps.Step.{Step}
use Rattle.warp_state.specs.declared.lane.Shared.{Shared}
use Rattle.warp_state.specs.declared.lanes.Stop.{Stop}

-- what an instruction is to a lane with these registers
abbrev pub effect_at : Instr → ℕ → Registers → LaneEffect
effect_at i pc registers = effect_of i pc (value_in registers (rs1_of i)) (value_in registers (rs2_of i))

-- the accesses of a lane
abbrev pub accesses_as : ℕ → List Access → List LaneAccess
accesses_as lane accesses = map (λ a. record { lane = lane; access = a }) accesses

-- a load, which its lane had no cause to refuse
pub record LoadsField {M : Type 0} (acts : M → Access → M → Type 0) (has : Fields) (rd address : ℕ) (size : Size) (signed : Bool) (registers : Registers) (m : M) (registers' : Registers) (m' : M) : Type 0 where
  pub answer : ℕ
  pub no_fault : field_fault has address size ≡ None
  pub made : acts m (Reads address size answer) m'
  pub registers_are : registers' ≡ with_register rd (loaded size signed answer) registers

-- a load that its lane refuses
pub record RefusesField {M : Type 0} (has : Fields) (address : ℕ) (size : Size) (fault : MachineTrap) (registers : Registers) (m : M) (registers' : Registers) (m' : M) : Type 0 where
  pub fault_is : field_fault has address size ≡ Some fault
  pub same_registers : registers' ≡ registers
  pub same_memory : m' ≡ m

-- a store, which its lane had no cause to refuse
pub record StoresField {M : Type 0} (acts : M → Access → M → Type 0) (has : Fields) (address : ℕ) (size : Size) (value : ℕ) (m m' : M) : Type 0 where
  pub no_fault : field_fault has address size ≡ None
  pub made : acts m (Writes address size value) m'

-- a lane has done its effect: it had no cause to trap
pub record HasActed {M : Type 0} (acts : M → Access → M → Type 0) (has : Fields) (ids : Ids) (mask lane pc chosen : ℕ) (e : LaneEffect) (registers : Registers) (m : M) (registers' : Registers) (m' : M) : Type 0 where
  pub answer : ℕ
  pub no_fault : fault_of has pc chosen e ≡ None
  pub made : Makes acts m (accesses_as lane (access_of answer e)) m'
  pub registers_are : registers' ≡ registers_after ids mask lane answer e registers

-- a lane has trapped, and nothing has changed
pub record HasTrapped {M : Type 0} (has : Fields) (pc chosen : ℕ) (e : LaneEffect) (fault : MachineTrap) (registers : Registers) (m : M) (registers' : Registers) (m' : M) : Type 0 where
  pub fault_is : fault_of has pc chosen e ≡ Some fault
  pub same_registers : registers' ≡ registers
  pub same_memory : m' ≡ m

-- The active lanes below a number have acted, and none of them had a cause to trap. What they have read are the answers;
-- what later lanes will read does not matter to them.
pub record HaveActed {M : Type 0} (acts : M → Access → M → Type 0) (has : Fields) (ids : Ids) (i : Instr) (w : WarpState) (m : M) (below : ℕ) (registers : ℕ → Registers) (m' : M) : Type 0 where
  pub answers : ℕ → ℕ
  pub made : (a : ℕ → ℕ) → ((lane : ℕ) → lane < below → a lane ≡ answers lane) → Makes acts m (accesses_below below i a w) m'
  pub registers_are : (a : ℕ → ℕ) → ((lane : ℕ) → lane < below → a lane ≡ answers lane) → registers ≡ acted_below below ids i a w
  pub no_fault : (lane : ℕ) → lane < below → lane_fault has i w lane ≡ None

-- The active lanes have acted up to one that traps.
pub record HaveStopped {M : Type 0} (acts : M → Access → M → Type 0) (has : Fields) (ids : Ids) (i : Instr) (w : WarpState) (m : M) (stop : Stop) (registers : ℕ → Registers) (m' : M) : Type 0 where
  pub below : HaveActed acts has ids i w m stop.lane registers m'
  pub is_lane : stop.lane < 32
  pub fault_is : lane_fault has i w stop.lane ≡ Some stop.fault

-- a warp with these registers; its stack does not matter to the lanes
abbrev pub warp_of : ℕ → ℕ → (ℕ → Registers) → WarpState
warp_of pc mask registers = record { pc = pc; mask = mask; registers = registers; stack = [] }

-- what the lanes share for an instruction: the registers that it reads, and the choice of the least active lane
pub record IsSharedFor (shared : Shared) (i : Instr) (registers : ℕ → Registers) : Type 0 where
  pub rs1_is : shared.rs1 ≡ rs1_of i
  pub rs2_is : shared.rs2 ≡ rs2_of i
  pub chosen_is : shared.chosen ≡ choice_of (effect_in i (warp_of shared.pc shared.mask registers) (leader shared.mask))

-- A step without accesses has left the warp so and ended so.
pub record Leaves (stepped : Stepped) (outcome : Step) (w' : WarpState) : Type 0 where
  pub no_access : stepped.accesses ≡ []
  pub warp_is : w' ≡ stepped.warp
  pub outcome_is : outcome ≡ stepped.outcome
