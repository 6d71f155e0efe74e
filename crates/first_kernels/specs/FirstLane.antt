use Rattle.std.specs.Prelude.{◌≡◌, ℕ, ◌+◌, ◌*◌, ◌%◌, ◌^◌, ◌<◌, List, [], ◌∷◌, ◌⊎◌}
use Rattle.vx_base.specs.declared.types.Size.TheVariants.{Four}
use Rattle.item_acts.specs.Launches.{put_at}
use Rattle.vx_isa.specs.declared.instr.Instr.{Instr}
use Rattle.vx_isa.specs.declared.instr.Instr.TheVariants.{Tmc}
use Rattle.vx_isa.specs.declared.instr.LaneEffect.{LaneEffect}
use Rattle.vx_isa.specs.declared.instr.LaneEffect.TheVariants.{Write, Load, Store, Csr}
use Rattle.vx_isa.specs.Effects.{effect_of}
use Rattle.vx_isa.specs.Operands.{rs1_of, rs2_of}
use Rattle.first_kernels.specs.FirstMemory.{stride}

-- a lane by itself: its registers, and its own element of each buffer
pub record Alone : Type 0 where
  pub registers : ℕ → ℕ
  pub words : ℕ → ℕ

-- the address of the first byte of memory
abbrev pub memory_start : ℕ
memory_start = 2 ^ 30

-- the address of a lane's own element of a buffer
abbrev pub own_address : ℕ → ℕ → ℕ → ℕ
own_address items lane buffer = memory_start + (buffer * stride items + 4 * lane)

-- the address is that of the lane's own element of one of the buffers
pub record IsOwn (items buffers lane address : ℕ) : Type 0 where
  pub buffer : ℕ
  pub is_one : buffer < buffers
  pub place : address ≡ own_address items lane buffer

-- the lane gets a value in a register other than x0
pub record Sets (rd value : ℕ) (s t : Alone) : Type 0 where
  pub above_zero : 0 < rd
  pub is_register : rd < 32
  pub then : t ≡ record { registers = put_at rd value s.registers; words = s.words }

-- The lane comes from one state to another by the effect: it sets a register, takes its own number, or loads or stores its
-- own element of a buffer.
abbrev pub Makes : ℕ → ℕ → ℕ → LaneEffect → Alone → Alone → Type 0
Makes items buffers lane (Write rd value) s t = Sets rd value s t
Makes items buffers lane (Load rd address Four signed) s t = (own : IsOwn items buffers lane address) × Sets rd (s.words own.buffer) s t
Makes items buffers lane (Store address Four value) s t =
    (own : IsOwn items buffers lane address) × (t ≡ record { registers = s.registers; words = put_at own.buffer (value % 2 ^ 32) s.words })
Makes items buffers lane (Csr rd csr) s t = (csr ≡ 0xcc0) × Sets rd lane s t
Makes items buffers lane effect s t = ⊥

-- the lane comes from one state to another by the instruction, wherever it stands
abbrev pub Steps : ℕ → ℕ → ℕ → Instr → Alone → Alone → Type 0
Steps items buffers lane i s t =
    (pc : ℕ) → Makes items buffers lane (effect_of i pc (s.registers (rs1_of i)) (s.registers (rs2_of i))) s t

-- the lane comes from one state to another by these instructions in turn
abbrev pub Goes : ℕ → ℕ → ℕ → List Instr → Alone → Alone → Type 0
Goes items buffers lane [] s t = s ≡ t
Goes items buffers lane (i ∷ more) s t = (m : Alone) × Steps items buffers lane i s m × Goes items buffers lane more m t

-- the lane comes from one state to another by instructions up to one that ends the warp, `tmc x0`
abbrev pub Ends : ℕ → ℕ → ℕ → List Instr → Alone → Alone → Type 0
Ends items buffers lane [] s t = ⊥
Ends items buffers lane (i ∷ more) s t =
    ((i ≡ Tmc 0) × (s ≡ t)) ⊎ ((m : Alone) × Steps items buffers lane i s m × Ends items buffers lane more m t)
