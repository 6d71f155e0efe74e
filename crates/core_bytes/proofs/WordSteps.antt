-- What a warp holds stays below 2 ^ 32 through each instruction, and so does what its lanes write.
use Rattle.std.proofs.Common.{◌≡◌, ℕ, zero, suc, ◌+◌, ◌-◌, ◌*◌, ◌/◌, ◌%◌, ◌^◌, ◌<◌, ◌≤◌, Bool, true, false, ◌&&◌, ◌||◌, not, nat_eq, nat_lt, nat_le, if◌then◌else◌, List, [], ◌∷◌, map, Option, Some, None, refl, arith, lt_of_le_of_lt, div-le_self, div-add-mod', inl, inr}
use Rattle.std.specs.Prelude.{ℤ, pos, negsuc, int_lt, is_some, ◌==◌}
use Rattle.std.specs.List.{AllByRecursion}
use Rattle.std.proofs.lemmas.Bool.{and_parts, cond_both, cases_Bool, ltb-true, true≢false}
use Rattle.std.proofs.lemmas.Nat.{and_le_l, div_below, mul-le, or_of_32, xor_of_32}
use Rattle.vx_base.specs.Values.{alu_value_of, fitted, signed_of, all_ones, word_of}
use Rattle.vx_base.specs.declared.types.Alu.{Alu}
use Rattle.vx_base.specs.declared.types.Alu.TheVariants as alu
use Rattle.vx_base.specs.declared.types.Elem.{Elem}
use Rattle.vx_base.specs.declared.types.Elem.TheVariants.{Char, Uchar, Short, Ushort, Int, Uint}
use Rattle.vx_isa.specs.Effects.{address_at, effect_of}
use Rattle.vx_isa.specs.Operands.{rs1_of, rs2_of}
use Rattle.vx_isa.specs.Rows.{row_of}
use Rattle.vx_isa.specs.Words.{Fits, are_registers, fits_signed, is_register, is_signed}
use Rattle.vx_isa.specs.Warps.{Registers, WarpState, cut, has_lane, lanes_where, least_below, leader, loaded, loaded_as, value_in, with_register}
use Rattle.vx_isa.specs.WarpSteps.{Access, Fields, LaneAccess, Reads, Stepped, Writes, access_of, accesses_below, acted_below, agree, csr_value, decoded, diverge, effect_in, fetched, fetched_step, go_on, has_room, instr_step, join_step, lane_accesses, lane_fault, lanes_stepped, leader_value, nonzero_lanes, pred_mask, read_as, registers_after, stop_lane, warp_step, whole_trap, with_mask, word_at, zero_lanes}
use Rattle.vx_isa.specs.declared.instr.Instr.{Instr}
use Rattle.vx_isa.specs.declared.instr.Instr.TheVariants.{Lui, Auipc, Jal, Jalr, Beq, Bne, Blt, Bge, Bltu, Bgeu, Lb, Lh, Lw, Lbu, Lhu, Sb, Sh, Sw, Addi, Slti, Sltiu, Xori, Ori, Andi, Slli, Srli, Srai, Add, Sub, Sll, Slt, Sltu, Xor, Srl, Sra, Or, And, Mul, Mulh, Mulhsu, Mulhu, Div, Divu, Rem, Remu, Fence, Ebreak, Csrr, Tmc, Wspawn, Split, Join, Bar, Pred}
use Rattle.vx_isa.specs.declared.instr.LaneEffect.{LaneEffect}
use Rattle.vx_isa.specs.declared.instr.LaneEffect.TheVariants as effect
use Rattle.vx_isa.specs.declared.warps.Held.{Held}
use Rattle.vx_isa.specs.declared.warps.Held.TheVariants.{Restore, Else}
use Rattle.vx_isa.specs.declared.warps.Ids.{Ids}
use Rattle.vx_isa.specs.declared.warps.MachineTrap.{MachineTrap}
use Rattle.vx_isa.specs.declared.warps.MachineTrap.TheVariants as trap
use Rattle.vx_isa.specs.declared.warps.Step.{Step}
use Rattle.vx_isa.specs.declared.warps.Step.TheVariants as step
use Rattle.vx_isa.proofs.MaskLaws.{lanes_below-lt}
use Rattle.vx_isa.proofs.RowLaws.{row_is_spelled}
use Rattle.core_bytes.specs.FittingWords.{IsWord}
use Rattle.core_bytes.proofs.OtherCores.{all_append}

-- ---- values

low_word : (n : ℕ) → IsWord (n % 2 ^ 32)
low_word n = omega arith

no_more : (n by : ℕ) → IsWord n → IsWord (n / by)
no_more n by small = lt_of_le_of_lt (div-le_self n by) small

rest_word : (n by : ℕ) → IsWord n → IsWord (n % by)
rest_word n by small = omega (arith, small, div-add-mod' n by)

bit_word : (b : Bool) → IsWord (if b then 1 else 0)
bit_word true = omega arith
bit_word false = omega arith

signed_word : (z : ℤ) → IsWord (word_of z)
signed_word (pos n) = low_word n
signed_word (negsuc n) = omega arith

high_word : (a b : ℕ) → IsWord a → IsWord b → IsWord (a * b / 2 ^ 32)
high_word a b small small' =
    let most : a * b ≤ (2 ^ 32 - 1) * (2 ^ 32 - 1) = mul-le a b (2 ^ 32 - 1) (2 ^ 32 - 1) (omega (arith, small)) (omega (arith, small')) in
    let less : a * b < 2 ^ 32 * 2 ^ 32 = omega (arith, most) in
    div_below (a * b) (2 ^ 32) (2 ^ 32) (omega arith) less

alu_word : (op : Alu) (a b : ℕ) → IsWord a → IsWord b → IsWord (alu_value_of op a b)
alu_word alu.Add a b small small' = low_word (a + b)
alu_word alu.Sub a b small small' = signed_word _
alu_word alu.Sll a b small small' = low_word (a * 2 ^ (b % 32))
alu_word alu.Slt a b small small' = bit_word (int_lt (signed_of a) (signed_of b))
alu_word alu.Sltu a b small small' = bit_word (nat_lt a b)
alu_word alu.Xor a b small small' = xor_of_32 a b small small'
alu_word alu.Srl a b small small' = no_more a (2 ^ (b % 32)) small
alu_word alu.Sra a b small small' = signed_word _
alu_word alu.Or a b small small' = or_of_32 a b small small'
alu_word alu.And a b small small' = lt_of_le_of_lt (and_le_l a b) small
alu_word alu.Mul a b small small' = low_word (a * b)
alu_word alu.Mulh a b small small' = signed_word _
alu_word alu.Mulhsu a b small small' = signed_word _
alu_word alu.Mulhu a b small small' = high_word a b small small'
alu_word alu.Div a b small small' = cond_both (b == 0) all_ones _ IsWord (λ none. omega arith) (λ some. signed_word _)
alu_word alu.Divu a b small small' = cond_both (b == 0) all_ones (a / b) IsWord (λ none. omega arith) (λ some. no_more a b small)
alu_word alu.Rem a b small small' = cond_both (b == 0) a _ IsWord (λ none. small) (λ some. signed_word _)
alu_word alu.Remu a b small small' = cond_both (b == 0) a (a % b) IsWord (λ none. small) (λ some. rest_word a b small)

fitted_word : (elem : Elem) (v : ℕ) → IsWord (fitted elem v)
fitted_word Char v = signed_word _
fitted_word Uchar v = omega arith
fitted_word Short v = signed_word _
fitted_word Ushort v = omega arith
fitted_word Int v = omega arith
fitted_word Uint v = omega arith

-- ---- immediates

signed_imm : (first second imm : ℕ) → fits_signed first second imm ≡ true → IsWord imm
signed_imm first second imm fits =
    let signed : is_signed 12 imm ≡ true = (and_parts (is_register first && is_register second) (is_signed 12 imm) fits).1 in
    elim (cases_Bool (nat_lt imm (2 ^ 11))) [
      | inl less ↦ let small : imm < 2 ^ 11 = ltb-true imm (2 ^ 11) less in omega (arith, small)
      | inr more ↦ other (nat_lt imm (2 ^ 11)) more signed
    ] where
      other : (b : Bool) → b ≡ false → (b || (nat_le (2 ^ 32 - 2 ^ 11) imm && nat_lt imm (2 ^ 32))) ≡ true → IsWord imm
      other true is signed = absurd (true≢false is)
      other false is signed = ltb-true imm (2 ^ 32) (and_parts (nat_le (2 ^ 32 - 2 ^ 11) imm) (nat_lt imm (2 ^ 32)) signed).1

amount_word : (rd rs1 amount : ℕ) → are_registers rd rs1 amount ≡ true → IsWord amount
amount_word rd rs1 amount fits =
    let small : amount < 32 = ltb-true amount 32 (and_parts (is_register rd && is_register rs1) (is_register amount) fits).1 in
    omega (arith, small)

-- ---- one lane

abbrev pub WordEffect : LaneEffect → Type 0
WordEffect (effect.Write rd value) = IsWord value
WordEffect (effect.Store address size value) = IsWord value
WordEffect (effect.Jump rd link target) = IsWord link
WordEffect e = Unit {0}

effect_words : (i : Instr) (pc a b : ℕ) → Fits i → IsWord a → IsWord b → WordEffect (effect_of i pc a b)
effect_words (Lui rd imm) pc a b fits small small' = low_word (imm * 2 ^ 12)
effect_words (Auipc rd imm) pc a b fits small small' = low_word (pc + imm * 2 ^ 12)
effect_words (Jal rd place) pc a b fits small small' = low_word (pc + 4)
effect_words (Jalr rd imm rs1) pc a b fits small small' = low_word (pc + 4)
effect_words (Beq rs1 rs2 place) pc a b fits small small' = tt
effect_words (Bne rs1 rs2 place) pc a b fits small small' = tt
effect_words (Blt rs1 rs2 place) pc a b fits small small' = tt
effect_words (Bge rs1 rs2 place) pc a b fits small small' = tt
effect_words (Bltu rs1 rs2 place) pc a b fits small small' = tt
effect_words (Bgeu rs1 rs2 place) pc a b fits small small' = tt
effect_words (Lb rd imm rs1) pc a b fits small small' = tt
effect_words (Lh rd imm rs1) pc a b fits small small' = tt
effect_words (Lw rd imm rs1) pc a b fits small small' = tt
effect_words (Lbu rd imm rs1) pc a b fits small small' = tt
effect_words (Lhu rd imm rs1) pc a b fits small small' = tt
effect_words (Sb rs2 imm rs1) pc a b fits small small' = small'
effect_words (Sh rs2 imm rs1) pc a b fits small small' = small'
effect_words (Sw rs2 imm rs1) pc a b fits small small' = small'
effect_words (Addi rd rs1 imm) pc a b fits small small' = alu_word alu.Add a imm small (signed_imm rd rs1 imm fits)
effect_words (Slti rd rs1 imm) pc a b fits small small' = alu_word alu.Slt a imm small (signed_imm rd rs1 imm fits)
effect_words (Sltiu rd rs1 imm) pc a b fits small small' = alu_word alu.Sltu a imm small (signed_imm rd rs1 imm fits)
effect_words (Xori rd rs1 imm) pc a b fits small small' = alu_word alu.Xor a imm small (signed_imm rd rs1 imm fits)
effect_words (Ori rd rs1 imm) pc a b fits small small' = alu_word alu.Or a imm small (signed_imm rd rs1 imm fits)
effect_words (Andi rd rs1 imm) pc a b fits small small' = alu_word alu.And a imm small (signed_imm rd rs1 imm fits)
effect_words (Slli rd rs1 amount) pc a b fits small small' = alu_word alu.Sll a amount small (amount_word rd rs1 amount fits)
effect_words (Srli rd rs1 amount) pc a b fits small small' = alu_word alu.Srl a amount small (amount_word rd rs1 amount fits)
effect_words (Srai rd rs1 amount) pc a b fits small small' = alu_word alu.Sra a amount small (amount_word rd rs1 amount fits)
effect_words (Add rd rs1 rs2) pc a b fits small small' = alu_word alu.Add a b small small'
effect_words (Sub rd rs1 rs2) pc a b fits small small' = alu_word alu.Sub a b small small'
effect_words (Sll rd rs1 rs2) pc a b fits small small' = alu_word alu.Sll a b small small'
effect_words (Slt rd rs1 rs2) pc a b fits small small' = alu_word alu.Slt a b small small'
effect_words (Sltu rd rs1 rs2) pc a b fits small small' = alu_word alu.Sltu a b small small'
effect_words (Xor rd rs1 rs2) pc a b fits small small' = alu_word alu.Xor a b small small'
effect_words (Srl rd rs1 rs2) pc a b fits small small' = alu_word alu.Srl a b small small'
effect_words (Sra rd rs1 rs2) pc a b fits small small' = alu_word alu.Sra a b small small'
effect_words (Or rd rs1 rs2) pc a b fits small small' = alu_word alu.Or a b small small'
effect_words (And rd rs1 rs2) pc a b fits small small' = alu_word alu.And a b small small'
effect_words (Mul rd rs1 rs2) pc a b fits small small' = alu_word alu.Mul a b small small'
effect_words (Mulh rd rs1 rs2) pc a b fits small small' = alu_word alu.Mulh a b small small'
effect_words (Mulhsu rd rs1 rs2) pc a b fits small small' = alu_word alu.Mulhsu a b small small'
effect_words (Mulhu rd rs1 rs2) pc a b fits small small' = alu_word alu.Mulhu a b small small'
effect_words (Div rd rs1 rs2) pc a b fits small small' = alu_word alu.Div a b small small'
effect_words (Divu rd rs1 rs2) pc a b fits small small' = alu_word alu.Divu a b small small'
effect_words (Rem rd rs1 rs2) pc a b fits small small' = alu_word alu.Rem a b small small'
effect_words (Remu rd rs1 rs2) pc a b fits small small' = alu_word alu.Remu a b small small'
effect_words (Fence before behind) pc a b fits small small' = tt
effect_words Ebreak pc a b fits small small' = tt
effect_words (Csrr rd csr) pc a b fits small small' = tt
effect_words (Tmc rs1) pc a b fits small small' = tt
effect_words (Wspawn rs1 rs2) pc a b fits small small' = tt
effect_words (Split rs1) pc a b fits small small' = tt
effect_words Join pc a b fits small small' = tt
effect_words (Bar rs1 rs2) pc a b fits small small' = tt
effect_words (Pred rs1 rs2) pc a b fits small small' = tt

abbrev pub WordRegisters : Registers → Type 0
WordRegisters registers = (r : ℕ) → IsWord (registers r)

abbrev pub WordHeld : Held → Type 0
WordHeld (Restore mask) = IsWord mask
WordHeld (Else mask pc) = IsWord mask

abbrev pub WordAccess : Access → Type 0
WordAccess (Reads address size answer) = Unit {0}
WordAccess (Writes address size value) = IsWord value

abbrev pub LaneWritesWord : LaneAccess → Type 0
LaneWritesWord a = WordAccess a.access

-- a warp that holds words
pub record WordWarp (w : WarpState) : Type 0 where
  pub mask : IsWord w.mask
  pub registers : (lane : ℕ) → WordRegisters (w.registers lane)
  pub stack : AllByRecursion WordHeld w.stack

pub record WordStep (s : Stepped) : Type 0 where
  pub warp : WordWarp s.warp
  pub accesses : AllByRecursion LaneWritesWord s.accesses

value_word : (registers : Registers) (r : ℕ) → WordRegisters registers → IsWord (value_in registers r)
value_word registers r words = cond_both (nat_eq r 0) 0 (registers r) IsWord (λ is. omega arith) (λ is. words r)

with_word : (rd value : ℕ) (registers : Registers) → IsWord value → WordRegisters registers → WordRegisters (with_register rd value registers)
with_word rd value registers small words r =
    cond_both (nat_eq r rd && (nat_lt 0 rd && nat_lt rd 32)) value (registers r) IsWord (λ is. small) (λ is. words r)

least_within : (n : ℕ) (test : ℕ → Bool) → least_below n test ≤ n
unfolding least_below
least_within zero test = omega arith
least_within (suc n) test =
    let rest : least_below n (λ k. test (suc k)) ≤ n = least_within n (λ k. test (suc k)) in
    cond_both (test 0) 0 (suc (least_below n (λ k. test (suc k)))) (λ (k : ℕ). k ≤ suc n) (λ is. omega arith) (λ is. omega (arith, rest))

module _ (ids : Ids) (core : IsWord ids.core) (warp : IsWord ids.warp) where
  csr_word : (mask lane csr : ℕ) → IsWord mask → IsWord lane → IsWord (csr_value ids mask lane csr)
  csr_word mask lane csr small small' =
      cond_both (nat_eq csr 0xcc0) lane _ IsWord (λ is. small')
      (λ is. cond_both (nat_eq csr 0xcc1) ids.warp _ IsWord (λ is. warp) (λ is. cond_both (nat_eq csr 0xcc2) ids.core mask IsWord (λ is. core) (λ is. small)))

  registers_words : (mask lane answer : ℕ) (e : LaneEffect) (registers : Registers) → IsWord mask → IsWord lane → WordEffect e → WordRegisters registers → WordRegisters (registers_after ids mask lane answer e registers)
  registers_words mask lane answer (effect.Write rd value) registers small small' word words = with_word rd value registers word words
  registers_words mask lane answer (effect.Load rd address size signed) registers small small' word words = with_word rd (loaded size signed answer) registers (fitted_word (loaded_as size signed) answer) words
  registers_words mask lane answer (effect.Jump rd link target) registers small small' word words = with_word rd link registers word words
  registers_words mask lane answer (effect.Csr rd csr) registers small small' word words = with_word rd (csr_value ids mask lane csr) registers (csr_word mask lane csr small small') words
  registers_words mask lane answer e registers small small' word words = words

  module _ (has : Fields) (answers : ℕ → ℕ) (w : WarpState) (words : WordWarp w) where
    lane_effect : (i : Instr) (lane : ℕ) → Fits i → WordEffect (effect_in i w lane)
    unfolding effect_in
    lane_effect i lane fits =
        effect_words i w.pc (value_in (w.registers lane) (rs1_of i)) (value_in (w.registers lane) (rs2_of i)) fits
        (value_word (w.registers lane) (rs1_of i) (words.registers lane)) (value_word (w.registers lane) (rs2_of i) (words.registers lane))

    acted_words : (n : ℕ) (i : Instr) (lane : ℕ) → n ≤ 32 → Fits i → WordRegisters (acted_below n ids i answers w lane)
    acted_words n i lane few fits =
        cond_both (nat_lt lane n && has_lane w.mask lane) (registers_after ids w.mask lane (answers lane) (effect_in i w lane) (w.registers lane)) (w.registers lane) WordRegisters
        (λ is. (let below : lane < n = ltb-true lane n (and_parts (nat_lt lane n) (has_lane w.mask lane) is).0 in
        registers_words w.mask lane (answers lane) (effect_in i w lane) (w.registers lane) words.mask (omega (arith, few, below)) (lane_effect i lane fits) (words.registers lane)))
        (λ is. words.registers lane)

    of_effect : (lane answer : ℕ) (e : LaneEffect) → WordEffect e → AllByRecursion LaneWritesWord (map (λ (a : Access). record { lane = lane; access = a }) (access_of answer e))
    of_effect lane answer (effect.Load rd address size signed) word = (tt, tt)
    of_effect lane answer (effect.Store address size value) word = (word, tt)
    of_effect lane answer e word = tt

    access_words : (n : ℕ) (i : Instr) → Fits i → AllByRecursion LaneWritesWord (accesses_below n i answers w)
    unfolding accesses_below
    access_words zero i fits = tt
    access_words (suc n) i fits =
        all_append LaneWritesWord (accesses_below n i answers w) (lane_accesses i answers w n) (access_words n i fits)
        (cond_both (has_lane w.mask n) (map (λ (a : Access). record { lane = n; access = a }) (access_of (answers n) (effect_in i w n))) [] (AllByRecursion LaneWritesWord)
        (λ is. of_effect n (answers n) (effect_in i w n) (lane_effect i n fits)) (λ is. tt))

    lanes_words : (i : Instr) (stop : ℕ) (fault : Option MachineTrap) → stop ≤ 32 → Fits i → WordStep (lanes_stepped ids i answers w stop fault)
    lanes_words i stop (Some fault) few fits = record {
      warp = record { mask = words.mask; registers = λ lane. acted_words stop i lane few fits; stack = words.stack };
      accesses = access_words stop i fits;
    }
    lanes_words i stop None few fits = record {
      warp = record { mask = words.mask; registers = λ lane. acted_words stop i lane few fits; stack = words.stack };
      accesses = access_words stop i fits;
    }

    -- ---- the warp as a whole

    trap_words : (fault : MachineTrap) → WordStep (whole_trap fault w)
    trap_words fault = record { warp = words; accesses = tt }

    goes_words : (outcome : Step) (pc mask : ℕ) (stack : List Held) → IsWord mask → AllByRecursion WordHeld stack → WordStep (go_on outcome pc mask stack w)
    goes_words outcome pc mask stack small held = record { warp = record { mask = small; registers = words.registers; stack = held }; accesses = tt }

    mask_words : (mask : ℕ) → IsWord mask → WordStep (with_mask mask w)
    mask_words mask small = goes_words _ (address_at w.pc 4) mask w.stack small words.stack

    leader_word : (r : ℕ) → IsWord (leader_value w r)
    leader_word r = value_word (w.registers (leader w.mask)) r (words.registers (leader w.mask))

    diverge_words : (on off : ℕ) → IsWord on → IsWord off → WordStep (diverge on off w)
    diverge_words on off small small' =
        cond_both (has_room 2 w) (go_on step.Diverged (address_at w.pc 4) on (Else off (address_at w.pc 4) ∷ Restore w.mask ∷ w.stack) w) (whole_trap trap.StackFull w) WordStep
        (λ is. goes_words step.Diverged (address_at w.pc 4) on (Else off (address_at w.pc 4) ∷ Restore w.mask ∷ w.stack) small (small', (words.mask, words.stack)))
        (λ is. trap_words trap.StackFull)

    agree_words : WordStep (agree w)
    agree_words =
        cond_both (has_room 1 w) (go_on step.Agreed (address_at w.pc 4) w.mask (Restore w.mask ∷ w.stack) w) (whole_trap trap.StackFull w) WordStep
        (λ is. goes_words step.Agreed (address_at w.pc 4) w.mask (Restore w.mask ∷ w.stack) words.mask (words.mask, words.stack))
        (λ is. trap_words trap.StackFull)

    join_words : (stack : List Held) → AllByRecursion WordHeld stack → WordStep (join_step stack w)
    join_words [] held = trap_words trap.JoinEmpty
    join_words (Restore mask ∷ rest) held = goes_words step.Next (address_at w.pc 4) mask rest held.0 held.1
    join_words (Else mask pc ∷ rest) held = goes_words step.Next pc mask rest held.0 held.1

    cut_word : (r : ℕ) → IsWord (cut ids.lanes (leader_value w r))
    cut_word r = rest_word (leader_value w r) (2 ^ ids.lanes) (leader_word r)

    set_word : (test : ℕ → Bool) → IsWord (lanes_where test)
    set_word test = lanes_below-lt 32 test

    instr_words : (i : Instr) → Fits i → WordStep (instr_step has ids answers w i)
    instr_words (Tmc rs1) fits = mask_words (cut ids.lanes (leader_value w rs1)) (cut_word rs1)
    instr_words (Wspawn rs1 rs2) fits = goes_words (step.Spawn (leader_value w rs1) (leader_value w rs2)) (address_at w.pc 4) w.mask w.stack words.mask words.stack
    instr_words (Split rs1) fits =
        cond_both (not (nat_eq (nonzero_lanes w rs1) 0) && not (nat_eq (zero_lanes w rs1) 0)) (diverge (nonzero_lanes w rs1) (zero_lanes w rs1) w) (agree w) WordStep
        (λ is. diverge_words (nonzero_lanes w rs1) (zero_lanes w rs1) (set_word _) (set_word _)) (λ is. agree_words)
    instr_words Join fits = join_words w.stack words.stack
    instr_words (Bar rs1 rs2) fits = goes_words (step.Wait (leader_value w rs1 % 16) (leader_value w rs2)) (address_at w.pc 4) w.mask w.stack words.mask words.stack
    instr_words (Pred rs1 rs2) fits =
        mask_words (pred_mask (nonzero_lanes w rs1) (cut ids.lanes (leader_value w rs2)))
        (cond_both (nat_eq (nonzero_lanes w rs1) 0) (cut ids.lanes (leader_value w rs2)) (nonzero_lanes w rs1) IsWord (λ is. cut_word rs2) (λ is. set_word _))
    instr_words i fits = lanes_words i (stop_lane has i w) (lane_fault has i w (stop_lane has i w)) (least_within 32 (λ lane. is_some (lane_fault has i w lane))) fits

    read_words : (word : ℕ) (o : Option Instr) → row_of word ≡ o → WordStep (fetched_step has ids answers w (read_as o))
    read_words word None is = trap_words trap.Illegal
    read_words word (Some i) is = instr_words i ((row_is_spelled word i is).fits)

    decoded_words : (o : Option ℕ) → WordStep (fetched_step has ids answers w (decoded o))
    decoded_words None = trap_words trap.Bus
    decoded_words (Some word) = read_words word (row_of word) refl

    -- An instruction of a warp that holds words leaves words, and its lanes write words.
    pub step_words : (code : List ℕ) → WordStep (warp_step has ids code answers w)
    unfolding fetched
    step_words code = decoded_words (word_at code w.pc)
