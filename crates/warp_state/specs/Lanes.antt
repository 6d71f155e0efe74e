-- A warp as it lies in lists, and as functions.
use Rattle.std.specs.Prelude.{ℕ, List, slice_index, slice_index_or, replicate}
use Rattle.vx_isa.specs.Warps.{Registers, WarpState}
use Rattle.vx_isa.specs.declared.warps.Held.{Held}
use Rattle.warp_state.specs.declared.lane.Lane.{Lane}

-- a lane whose registers are all 0
abbrev pub idle : Lane
idle = record { registers = replicate 32 0 }

abbrev pub registers_of : Lane → Registers
registers_of lane r = slice_index lane.registers r

-- the registers of each of some lanes
abbrev pub registers_in : List Lane → ℕ → Registers
registers_in lanes lane = registers_of (slice_index_or lanes lane idle)

-- what a warp keeps
pub record KeptWarp : Type 0 where
  pub pc : ℕ
  pub mask : ℕ
  pub lanes : List Lane
  pub stack : List Held

-- the warp that this is
abbrev pub state_of : KeptWarp → WarpState
state_of w = record { pc = w.pc; mask = w.mask; registers = registers_in w.lanes; stack = w.stack }
