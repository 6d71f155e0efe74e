-- The words by which operations that compute are made: what they are to a lane.
use Rattle.std.proofs.Common.{◌≡◌, ℕ, ◌^◌, ◌<◌, true, false, nat_lt, if◌then◌else◌, [], arith, refl}
use Rattle.std.proofs.lemmas.Int.{ints}
use Rattle.vx_base.specs.Values.{alu_value_of, fitted}
use Rattle.vx_base.specs.declared.types.Alu.{Alu}
use Rattle.vx_base.specs.declared.types.Alu.TheVariants as alu
use Rattle.vx_base.specs.declared.types.Elem.{Elem}
use Rattle.vx_base.specs.declared.types.Elem.TheVariants as elem
use Rattle.kir.specs.Trees.{Operand, VariableOf, NumberOf}
use Rattle.vx_isa.specs.Warps.{Registers, WarpState, value_in}
use Rattle.vx_isa.specs.WarpSteps.{Fields, instr_step, lanes_step}
use Rattle.vx_isa.specs.declared.instr.Instr.{Instr}
use Rattle.vx_isa.specs.declared.instr.Instr.TheVariants as instr
use Rattle.vx_isa.specs.declared.instr.LaneEffect.TheVariants as effect
use Rattle.vx_isa.specs.declared.warps.Ids.{Ids}
use Rattle.reg_alloc.specs.Plain.{made, right}
use Rattle.reg_alloc.specs.Blocks.{compute_word, cut_word, load_word, number_register, spare_bits, store_word}
use Rattle.reg_alloc.proofs.Computing.{second_value}
use Rattle.image_warps.proofs.Quiet.{effect_at}

-- an instruction that each lane does by itself
abbrev pub IsLanes : Instr → Type 0
IsLanes i = (has : Fields) (ids : Ids) (answers : ℕ → ℕ) (w : WarpState) → instr_step has ids answers w i ≡ lanes_step has ids i answers w

-- ---- the word of an operation on two words

pub compute_lanes : (op : Alu) (b : Operand) (a : ℕ) → IsLanes (compute_word op b a)
compute_lanes alu.Add b a = λ has ids answers w. refl
compute_lanes alu.Sub b a = λ has ids answers w. refl
compute_lanes alu.Sll (VariableOf r) a = λ has ids answers w. refl
compute_lanes alu.Sll (NumberOf n) a =
    elim (nat_lt n 32) as (λ b. IsLanes (if b then instr.Slli made a n else instr.Sll made a (number_register right n))) [
      | true ↦ λ has ids answers w. refl
      | false ↦ λ has ids answers w. refl
    ]
compute_lanes alu.Slt b a = λ has ids answers w. refl
compute_lanes alu.Sltu b a = λ has ids answers w. refl
compute_lanes alu.Xor b a = λ has ids answers w. refl
compute_lanes alu.Srl (VariableOf r) a = λ has ids answers w. refl
compute_lanes alu.Srl (NumberOf n) a =
    elim (nat_lt n 32) as (λ b. IsLanes (if b then instr.Srli made a n else instr.Srl made a (number_register right n))) [
      | true ↦ λ has ids answers w. refl
      | false ↦ λ has ids answers w. refl
    ]
compute_lanes alu.Sra (VariableOf r) a = λ has ids answers w. refl
compute_lanes alu.Sra (NumberOf n) a =
    elim (nat_lt n 32) as (λ b. IsLanes (if b then instr.Srai made a n else instr.Sra made a (number_register right n))) [
      | true ↦ λ has ids answers w. refl
      | false ↦ λ has ids answers w. refl
    ]
compute_lanes alu.Or b a = λ has ids answers w. refl
compute_lanes alu.And b a = λ has ids answers w. refl
compute_lanes alu.Mul b a = λ has ids answers w. refl
compute_lanes alu.Mulh b a = λ has ids answers w. refl
compute_lanes alu.Mulhsu b a = λ has ids answers w. refl
compute_lanes alu.Mulhu b a = λ has ids answers w. refl
compute_lanes alu.Div b a = λ has ids answers w. refl
compute_lanes alu.Divu b a = λ has ids answers w. refl
compute_lanes alu.Rem b a = λ has ids answers w. refl
compute_lanes alu.Remu b a = λ has ids answers w. refl

pub compute_effect : (op : Alu) (b : Operand) (a pc : ℕ) (xs : Registers)
    → effect_at (compute_word op b a) pc xs ≡ effect.Write made (alu_value_of op (value_in xs a) (second_value op b xs))
compute_effect alu.Add b a pc xs = refl
compute_effect alu.Sub b a pc xs = refl
compute_effect alu.Sll (VariableOf r) a pc xs = refl
compute_effect alu.Sll (NumberOf n) a pc xs =
    elim (nat_lt n 32) as (λ b. effect_at (if b then instr.Slli made a n else instr.Sll made a (number_register right n)) pc xs
    ≡ effect.Write made (alu_value_of alu.Sll (value_in xs a) (if b then n else value_in xs (number_register right n)))) [
      | true ↦ refl
      | false ↦ refl
    ]
compute_effect alu.Slt b a pc xs = refl
compute_effect alu.Sltu b a pc xs = refl
compute_effect alu.Xor b a pc xs = refl
compute_effect alu.Srl (VariableOf r) a pc xs = refl
compute_effect alu.Srl (NumberOf n) a pc xs =
    elim (nat_lt n 32) as (λ b. effect_at (if b then instr.Srli made a n else instr.Srl made a (number_register right n)) pc xs
    ≡ effect.Write made (alu_value_of alu.Srl (value_in xs a) (if b then n else value_in xs (number_register right n)))) [
      | true ↦ refl
      | false ↦ refl
    ]
compute_effect alu.Sra (VariableOf r) a pc xs = refl
compute_effect alu.Sra (NumberOf n) a pc xs =
    elim (nat_lt n 32) as (λ b. effect_at (if b then instr.Srai made a n else instr.Sra made a (number_register right n)) pc xs
    ≡ effect.Write made (alu_value_of alu.Sra (value_in xs a) (if b then n else value_in xs (number_register right n)))) [
      | true ↦ refl
      | false ↦ refl
    ]
compute_effect alu.Or b a pc xs = refl
compute_effect alu.And b a pc xs = refl
compute_effect alu.Mul b a pc xs = refl
compute_effect alu.Mulh b a pc xs = refl
compute_effect alu.Mulhsu b a pc xs = refl
compute_effect alu.Mulhu b a pc xs = refl
compute_effect alu.Div b a pc xs = refl
compute_effect alu.Divu b a pc xs = refl
compute_effect alu.Rem b a pc xs = refl
compute_effect alu.Remu b a pc xs = refl

-- ---- the words that cut

-- what the two shifts make of a word
abbrev pub cut_value : Elem → ℕ → ℕ
cut_value elem.Char x = alu_value_of alu.Sra x 24
cut_value elem.Uchar x = alu_value_of alu.Srl x 24
cut_value elem.Short x = alu_value_of alu.Sra x 16
cut_value elem.Ushort x = alu_value_of alu.Srl x 16
cut_value elem.Int x = alu_value_of alu.Srl x 0
cut_value elem.Uint x = alu_value_of alu.Srl x 0

pub cut_lanes : (e : Elem) → IsLanes (cut_word e)
cut_lanes elem.Char = λ has ids answers w. refl
cut_lanes elem.Uchar = λ has ids answers w. refl
cut_lanes elem.Short = λ has ids answers w. refl
cut_lanes elem.Ushort = λ has ids answers w. refl
cut_lanes elem.Int = λ has ids answers w. refl
cut_lanes elem.Uint = λ has ids answers w. refl

pub cut_effect : (e : Elem) (pc : ℕ) (xs : Registers) → effect_at (cut_word e) pc xs ≡ effect.Write made (cut_value e (value_in xs made))
cut_effect elem.Char pc xs = refl
cut_effect elem.Uchar pc xs = refl
cut_effect elem.Short pc xs = refl
cut_effect elem.Ushort pc xs = refl
cut_effect elem.Int pc xs = refl
cut_effect elem.Uint pc xs = refl

pub cut_is : (e : Elem) (v : ℕ) → v < 2 ^ 32 → cut_value e (alu_value_of alu.Sll v (spare_bits e)) ≡ fitted e v
cut_is elem.Char v less = grind (arith, ints, less)
cut_is elem.Uchar v less = grind (arith, ints, less)
cut_is elem.Short v less = grind (arith, ints, less)
cut_is elem.Ushort v less = grind (arith, ints, less)
cut_is elem.Int v less = grind (arith, ints, less)
cut_is elem.Uint v less = grind (arith, ints, less)

-- ---- loads and stores

pub load_lanes : (e : Elem) (a : ℕ) → IsLanes (load_word e a)
load_lanes elem.Char a = λ has ids answers w. refl
load_lanes elem.Uchar a = λ has ids answers w. refl
load_lanes elem.Short a = λ has ids answers w. refl
load_lanes elem.Ushort a = λ has ids answers w. refl
load_lanes elem.Int a = λ has ids answers w. refl
load_lanes elem.Uint a = λ has ids answers w. refl

pub store_lanes : (e : Elem) (a b : ℕ) → IsLanes (store_word e a b)
store_lanes elem.Char a b = λ has ids answers w. refl
store_lanes elem.Uchar a b = λ has ids answers w. refl
store_lanes elem.Short a b = λ has ids answers w. refl
store_lanes elem.Ushort a b = λ has ids answers w. refl
store_lanes elem.Int a b = λ has ids answers w. refl
store_lanes elem.Uint a b = λ has ids answers w. refl
