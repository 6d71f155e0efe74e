-- How many words the blocks have.
use Rattle.std.proofs.Common.{◌≡◌, ℕ, zero, suc, ◌+◌, true, false, nat_lt, if◌then◌else◌, List, [], ◌∷◌, length, arith, refl}
use Rattle.vx_base.specs.declared.types.Alu.{Alu}
use Rattle.vx_base.specs.declared.types.Alu.TheVariants as alu
use Rattle.kir.specs.Trees.{Operand, VariableOf, NumberOf}
use Rattle.vcode.specs.Code.{VOp, Fresh, Copy, Compute, Cut, Word, WordAt, Learn, Fetch, Write, IfZero, IfNot, Goto, Split, Join, Pred, Tmc, Wspawn, Bar, Trap, Enter, Leaves, Again}
use Rattle.vcode.specs.Words.{number_words, op_words, operand_words, right_words, shift_words}
use Rattle.reg_alloc.specs.Plain.{Plain, GetSlot, AddTo, ShiftLeft, Calculate, block_base, left, made, right}
use Rattle.reg_alloc.specs.Blocks.{Block, address_of_word, block, number_before, operand_before, pair_before, register_of, right_before, shift_before, spare_bits}

pub number_count : (rd n : ℕ) (rest : List Plain) → length (number_before rd n rest) ≡ number_words n + length rest
number_count rd zero rest = omega arith
number_count rd (suc n) rest =
    elim (nat_lt n 2047) as (λ b. length (if b then AddTo rd 0 (suc n) ∷ rest else pair_before rd (suc n) rest) ≡ (if b then 1 else 2) + length rest) [
      | true ↦ omega arith
      | false ↦ omega arith
    ]

pub operand_count : (rd : ℕ) (a : Operand) (rest : List Plain) → length (operand_before rd a rest) ≡ operand_words a + length rest
operand_count rd (VariableOf r) rest = omega arith
operand_count rd (NumberOf n) rest = number_count rd n rest

shift_count : (n : ℕ) (rest : List Plain) → length (shift_before n rest) ≡ shift_words n + length rest
shift_count n rest =
    let h = number_count right n rest in
    elim (nat_lt n 32) as (λ b. length (if b then rest else number_before right n rest) ≡ (if b then 0 else number_words n) + length rest) [
      | true ↦ omega arith
      | false ↦ h
    ]

pub right_count : (op : Alu) (a : Operand) (rest : List Plain) → length (right_before op a rest) ≡ right_words op a + length rest
right_count alu.Add a rest = operand_count right a rest
right_count alu.Sub a rest = operand_count right a rest
right_count alu.Sll (VariableOf r) rest = omega arith
right_count alu.Sll (NumberOf n) rest = shift_count n rest
right_count alu.Slt a rest = operand_count right a rest
right_count alu.Sltu a rest = operand_count right a rest
right_count alu.Xor a rest = operand_count right a rest
right_count alu.Srl (VariableOf r) rest = omega arith
right_count alu.Srl (NumberOf n) rest = shift_count n rest
right_count alu.Sra (VariableOf r) rest = omega arith
right_count alu.Sra (NumberOf n) rest = shift_count n rest
right_count alu.Or a rest = operand_count right a rest
right_count alu.And a rest = operand_count right a rest
right_count alu.Mul a rest = operand_count right a rest
right_count alu.Mulh a rest = operand_count right a rest
right_count alu.Mulhsu a rest = operand_count right a rest
right_count alu.Mulhu a rest = operand_count right a rest
right_count alu.Div a rest = operand_count right a rest
right_count alu.Divu a rest = operand_count right a rest
right_count alu.Rem a rest = operand_count right a rest
right_count alu.Remu a rest = operand_count right a rest

-- how many words a block has
abbrev pub size : Block → ℕ
size b = length b.before + (length b.acting + length b.behind)

pub block_size : (slots : ℕ) (starts : ℕ → ℕ) (end : ℕ) (op : VOp) → size (block slots starts end op) ≡ op_words op
block_size slots starts end Fresh = refl
block_size slots starts end (Copy d a) = let h = operand_count left a [] in omega (arith, h)
block_size slots starts end (Compute d op a b) =
    let h = operand_count left a (right_before op b []) in
    let h' = right_count op b [] in
    omega (arith, h, h')
block_size slots starts end (Cut d elem a) = let h = operand_count left a (ShiftLeft made (register_of left a) (spare_bits elem) ∷ []) in omega (arith, h)
block_size slots starts end (Word d k) = refl
block_size slots starts end (WordAt d a k) =
    let h = operand_count left a (ShiftLeft left (register_of left a) 2 ∷ Calculate alu.Add left left block_base ∷ []) in
    omega (arith, h)
block_size slots starts end (Learn d c) = refl
block_size slots starts end (Fetch d elem a) = let h = operand_count left a [] in omega (arith, h)
block_size slots starts end (Write elem a b) =
    let h = operand_count left a (operand_before right b []) in
    let h' = operand_count right b [] in
    omega (arith, h, h')
block_size slots starts end (IfZero a q) = let h = operand_count left a [] in omega (arith, h)
block_size slots starts end (IfNot a q) = let h = operand_count left a [] in omega (arith, h)
block_size slots starts end (Goto q) = refl
block_size slots starts end (Split a) = let h = operand_count left a [] in omega (arith, h)
block_size slots starts end Join = refl
block_size slots starts end (Pred a m) = let h = operand_count left a (GetSlot right m ∷ []) in omega (arith, h)
block_size slots starts end (Tmc a) = let h = operand_count left a [] in omega (arith, h)
block_size slots starts end (Wspawn a q) = let h = operand_count left a (pair_before right (address_of_word (starts q)) []) in omega (arith, h)
block_size slots starts end (Bar site) = refl
block_size slots starts end (Trap pos) = refl
block_size slots starts end Enter = refl
block_size slots starts end (Leaves a q) = let h = operand_count left a [] in omega (arith, h)
block_size slots starts end (Again q) = refl
