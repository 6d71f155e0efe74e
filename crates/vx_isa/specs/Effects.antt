use Rattle.std.specs.Prelude.{ℕ, ◌+◌, ◌*◌, ◌/◌, ◌%◌, ◌^◌, Bool, true, false, not, nat_eq}
use Rattle.vx_base.specs.Values.{alu_value_of}
use Rattle.vx_base.specs.declared.types.Alu.TheVariants as alu
use Rattle.vx_base.specs.declared.types.Size.TheVariants.{One, Two, Four}
use Rattle.vx_isa.specs.declared.instr.Instr.{Instr}
use Rattle.vx_isa.specs.declared.instr.Instr.TheVariants.{Lui, Auipc, Jal, Jalr, Beq, Bne, Blt, Bge, Bltu, Bgeu, Lb, Lh, Lw, Lbu, Lhu, Sb, Sh, Sw, Addi, Slti, Sltiu, Xori, Ori, Andi, Slli, Srli, Srai, Add, Sub, Sll, Slt, Sltu, Xor, Srl, Sra, Or, And, Mul, Mulh, Mulhsu, Mulhu, Div, Divu, Rem, Remu, Fence, Ebreak, Csrr, Tmc, Wspawn, Split, Join, Bar, Pred}
use Rattle.vx_isa.specs.declared.instr.LaneEffect.{LaneEffect}
use Rattle.vx_isa.specs.declared.instr.LaneEffect.TheVariants as effect

-- the word of an address that is a distance from another
abbrev pub address_at : ℕ → ℕ → ℕ
address_at base distance = (base + distance) % 2 ^ 32

-- whether the first word is less as a signed number, and as an unsigned one
abbrev pub is_less : ℕ → ℕ → Bool
is_less a b = nat_eq (alu_value_of alu.Slt a b) 1

abbrev pub is_below : ℕ → ℕ → Bool
is_below a b = nat_eq (alu_value_of alu.Sltu a b) 1

-- What one lane does at an instruction whose place is pc, where rs1 has the value a and rs2 the value b (RISC-V
-- unprivileged manual, chapters RV32I and M). A warp instruction is nothing that a lane does by itself.
abbrev pub effect_of : Instr → ℕ → ℕ → ℕ → LaneEffect
effect_of (Lui rd imm) pc a b = effect.Write rd (imm * 2 ^ 12 % 2 ^ 32)
effect_of (Auipc rd imm) pc a b = effect.Write rd (address_at pc (imm * 2 ^ 12))
effect_of (Jal rd place) pc a b = effect.Jump rd (address_at pc 4) (address_at pc place)
effect_of (Jalr rd imm rs1) pc a b = effect.Jump rd (address_at pc 4) (address_at a imm / 2 * 2)
effect_of (Beq rs1 rs2 place) pc a b = effect.Branch (nat_eq a b) (address_at pc place)
effect_of (Bne rs1 rs2 place) pc a b = effect.Branch (not (nat_eq a b)) (address_at pc place)
effect_of (Blt rs1 rs2 place) pc a b = effect.Branch (is_less a b) (address_at pc place)
effect_of (Bge rs1 rs2 place) pc a b = effect.Branch (not (is_less a b)) (address_at pc place)
effect_of (Bltu rs1 rs2 place) pc a b = effect.Branch (is_below a b) (address_at pc place)
effect_of (Bgeu rs1 rs2 place) pc a b = effect.Branch (not (is_below a b)) (address_at pc place)
effect_of (Lb rd imm rs1) pc a b = effect.Load rd (address_at a imm) One true
effect_of (Lh rd imm rs1) pc a b = effect.Load rd (address_at a imm) Two true
effect_of (Lw rd imm rs1) pc a b = effect.Load rd (address_at a imm) Four false
effect_of (Lbu rd imm rs1) pc a b = effect.Load rd (address_at a imm) One false
effect_of (Lhu rd imm rs1) pc a b = effect.Load rd (address_at a imm) Two false
effect_of (Sb rs2 imm rs1) pc a b = effect.Store (address_at a imm) One b
effect_of (Sh rs2 imm rs1) pc a b = effect.Store (address_at a imm) Two b
effect_of (Sw rs2 imm rs1) pc a b = effect.Store (address_at a imm) Four b
effect_of (Addi rd rs1 imm) pc a b = effect.Write rd (alu_value_of alu.Add a imm)
effect_of (Slti rd rs1 imm) pc a b = effect.Write rd (alu_value_of alu.Slt a imm)
effect_of (Sltiu rd rs1 imm) pc a b = effect.Write rd (alu_value_of alu.Sltu a imm)
effect_of (Xori rd rs1 imm) pc a b = effect.Write rd (alu_value_of alu.Xor a imm)
effect_of (Ori rd rs1 imm) pc a b = effect.Write rd (alu_value_of alu.Or a imm)
effect_of (Andi rd rs1 imm) pc a b = effect.Write rd (alu_value_of alu.And a imm)
effect_of (Slli rd rs1 amount) pc a b = effect.Write rd (alu_value_of alu.Sll a amount)
effect_of (Srli rd rs1 amount) pc a b = effect.Write rd (alu_value_of alu.Srl a amount)
effect_of (Srai rd rs1 amount) pc a b = effect.Write rd (alu_value_of alu.Sra a amount)
effect_of (Add rd rs1 rs2) pc a b = effect.Write rd (alu_value_of alu.Add a b)
effect_of (Sub rd rs1 rs2) pc a b = effect.Write rd (alu_value_of alu.Sub a b)
effect_of (Sll rd rs1 rs2) pc a b = effect.Write rd (alu_value_of alu.Sll a b)
effect_of (Slt rd rs1 rs2) pc a b = effect.Write rd (alu_value_of alu.Slt a b)
effect_of (Sltu rd rs1 rs2) pc a b = effect.Write rd (alu_value_of alu.Sltu a b)
effect_of (Xor rd rs1 rs2) pc a b = effect.Write rd (alu_value_of alu.Xor a b)
effect_of (Srl rd rs1 rs2) pc a b = effect.Write rd (alu_value_of alu.Srl a b)
effect_of (Sra rd rs1 rs2) pc a b = effect.Write rd (alu_value_of alu.Sra a b)
effect_of (Or rd rs1 rs2) pc a b = effect.Write rd (alu_value_of alu.Or a b)
effect_of (And rd rs1 rs2) pc a b = effect.Write rd (alu_value_of alu.And a b)
effect_of (Mul rd rs1 rs2) pc a b = effect.Write rd (alu_value_of alu.Mul a b)
effect_of (Mulh rd rs1 rs2) pc a b = effect.Write rd (alu_value_of alu.Mulh a b)
effect_of (Mulhsu rd rs1 rs2) pc a b = effect.Write rd (alu_value_of alu.Mulhsu a b)
effect_of (Mulhu rd rs1 rs2) pc a b = effect.Write rd (alu_value_of alu.Mulhu a b)
effect_of (Div rd rs1 rs2) pc a b = effect.Write rd (alu_value_of alu.Div a b)
effect_of (Divu rd rs1 rs2) pc a b = effect.Write rd (alu_value_of alu.Divu a b)
effect_of (Rem rd rs1 rs2) pc a b = effect.Write rd (alu_value_of alu.Rem a b)
effect_of (Remu rd rs1 rs2) pc a b = effect.Write rd (alu_value_of alu.Remu a b)
effect_of (Fence before after) pc a b = effect.Nothing
effect_of Ebreak pc a b = effect.Break
effect_of (Csrr rd csr) pc a b = effect.Csr rd csr
effect_of (Tmc rs1) pc a b = effect.Warp
effect_of (Wspawn rs1 rs2) pc a b = effect.Warp
effect_of (Split rs1) pc a b = effect.Warp
effect_of Join pc a b = effect.Warp
effect_of (Bar rs1 rs2) pc a b = effect.Warp
effect_of (Pred rs1 rs2) pc a b = effect.Warp
