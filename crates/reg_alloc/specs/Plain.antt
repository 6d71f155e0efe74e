-- Words that only compute: what each of them makes of the registers and the frame of a lane.
use Rattle.std.specs.Prelude.{ℕ, ◌+◌, ◌-◌, ◌*◌, ◌/◌, ◌%◌, ◌^◌, nat_lt, if◌then◌else◌, List, [], ◌∷◌}
use Rattle.vx_base.specs.Values.{alu_value_of}
use Rattle.vx_base.specs.declared.types.Alu.{Alu}
use Rattle.vx_base.specs.declared.types.Alu.TheVariants as alu
use Rattle.item_acts.specs.Launches.{put_at}
use Rattle.vx_isa.specs.Warps.{Registers, value_in, with_register}
use Rattle.vx_isa.specs.declared.instr.Instr.{Instr}
use Rattle.vx_isa.specs.declared.instr.Instr.TheVariants as instr
use Rattle.vcode.specs.Machine.{Around}

-- ---- the registers of the machine

-- the first address of the launch block, and that of the lane's frame
abbrev pub block_base : ℕ
block_base = 3

abbrev pub frame_base : ℕ
frame_base = 4

-- the first operand, the second one, and the result
abbrev pub left : ℕ
left = 5

abbrev pub right : ℕ
right = 6

abbrev pub made : ℕ
made = 7

-- ---- numbers in instructions

-- a number modulo 2 ^ 32 is its upper twenty bits and a signed number of twelve bits; the upper ones are rounded
abbrev pub upper : ℕ → ℕ
upper n = (n + 2048) / 4096 % 2 ^ 20

abbrev pub lower : ℕ → ℕ
lower n = if nat_lt (n % 4096) 2048 then n % 4096 else n % 4096 + (2 ^ 32 - 4096)

-- ---- plain words

pub data Plain : Type 0 where
  -- a word of the frame into a register, and a register into it
  GetSlot : ℕ → ℕ → Plain
  PutSlot : ℕ → ℕ → Plain
  -- a word of the launch block into a register
  GetBlock : ℕ → ℕ → Plain
  -- a number times 4096, the sum of a register and a number, and a register shifted left by a number
  High : ℕ → ℕ → Plain
  AddTo : ℕ → ℕ → ℕ → Plain
  ShiftLeft : ℕ → ℕ → ℕ → Plain
  -- what an operation makes of two registers
  Calculate : Alu → ℕ → ℕ → ℕ → Plain
  -- the numbers of the lane and of the warp
  GetLane : ℕ → Plain
  GetWarp : ℕ → Plain

-- the instruction of an operation on two registers
abbrev pub alu_instr : Alu → ℕ → ℕ → ℕ → Instr
alu_instr alu.Add rd a b = instr.Add rd a b
alu_instr alu.Sub rd a b = instr.Sub rd a b
alu_instr alu.Sll rd a b = instr.Sll rd a b
alu_instr alu.Slt rd a b = instr.Slt rd a b
alu_instr alu.Sltu rd a b = instr.Sltu rd a b
alu_instr alu.Xor rd a b = instr.Xor rd a b
alu_instr alu.Srl rd a b = instr.Srl rd a b
alu_instr alu.Sra rd a b = instr.Sra rd a b
alu_instr alu.Or rd a b = instr.Or rd a b
alu_instr alu.And rd a b = instr.And rd a b
alu_instr alu.Mul rd a b = instr.Mul rd a b
alu_instr alu.Mulh rd a b = instr.Mulh rd a b
alu_instr alu.Mulhsu rd a b = instr.Mulhsu rd a b
alu_instr alu.Mulhu rd a b = instr.Mulhu rd a b
alu_instr alu.Div rd a b = instr.Div rd a b
alu_instr alu.Divu rd a b = instr.Divu rd a b
alu_instr alu.Rem rd a b = instr.Rem rd a b
alu_instr alu.Remu rd a b = instr.Remu rd a b

-- the instruction of a plain word
abbrev pub instr_of : Plain → Instr
instr_of (GetSlot rd r) = instr.Lw rd (4 * r) frame_base
instr_of (PutSlot rs r) = instr.Sw rs (4 * r) frame_base
instr_of (GetBlock rd k) = instr.Lw rd (4 * k) block_base
instr_of (High rd n) = instr.Lui rd n
instr_of (AddTo rd rs n) = instr.Addi rd rs n
instr_of (ShiftLeft rd rs n) = instr.Slli rd rs n
instr_of (Calculate op rd a b) = alu_instr op rd a b
instr_of (GetLane rd) = instr.Csrr rd 0xcc0
instr_of (GetWarp rd) = instr.Csrr rd 0xcc1

-- ---- what they do

-- the registers of a lane, and the words of its frame
pub record Held : Type 0 where
  pub registers : Registers
  pub frame : ℕ → ℕ

abbrev pub held : Registers → (ℕ → ℕ) → Held
held xs frame = record { registers = xs; frame = frame }

abbrev pub set : ℕ → ℕ → Held → Held
set rd v h = held (with_register rd v h.registers) h.frame

abbrev pub does : Around → Plain → Held → Held
does at (GetSlot rd r) h = set rd (h.frame r % 2 ^ 32) h
does at (PutSlot rs r) h = held h.registers (put_at r (value_in h.registers rs) h.frame)
does at (GetBlock rd k) h = set rd (at.block k % 2 ^ 32) h
does at (High rd n) h = set rd (n * 2 ^ 12 % 2 ^ 32) h
does at (AddTo rd rs n) h = set rd (alu_value_of alu.Add (value_in h.registers rs) n) h
does at (ShiftLeft rd rs n) h = set rd (alu_value_of alu.Sll (value_in h.registers rs) n) h
does at (Calculate op rd a b) h = set rd (alu_value_of op (value_in h.registers a) (value_in h.registers b)) h
does at (GetLane rd) h = set rd at.number h
does at (GetWarp rd) h = set rd at.warp h

-- what some of them do in order
abbrev pub do_all : Around → List Plain → Held → Held
do_all at [] h = h
do_all at (word ∷ words) h = do_all at words (does at word h)
