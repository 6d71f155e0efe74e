-- The second operand of an operation, and the word that computes.
use Rattle.std.proofs.Common.{◌≡◌, ℕ, ◌<◌, ◌^◌, true, false, nat_eq, nat_lt, if◌then◌else◌, List, refl}
use Rattle.vx_base.specs.Values.{alu_value_of}
use Rattle.vx_base.specs.declared.types.Alu.{Alu}
use Rattle.vx_base.specs.declared.types.Alu.TheVariants as alu
use Rattle.item_acts.specs.Machine.{Go}
use Rattle.kir.specs.Machine.{value}
use Rattle.kir.specs.Numbered.{IsBelow}
use Rattle.kir.specs.Trees.{Operand, VariableOf, NumberOf}
use Rattle.vx_isa.specs.Warps.{Registers, value_in}
use Rattle.vx_isa.specs.declared.instr.Instr.TheVariants as instr
use Rattle.vcode.specs.Machine.{Around}
use Rattle.reg_alloc.specs.Plain.{Held, Plain, do_all, made, right}
use Rattle.reg_alloc.specs.Blocks.{compute_word, number_before, number_register, register_of, right_before, shift_before}
use Rattle.reg_alloc.specs.Alone.{ImageLane, Setting, goes_with, instr_step, next_pc}
use Rattle.reg_alloc.proofs.Bringing.{based_for, brought, frame_kept, operand_brings, operand_reaches, operand_value, others_kept}
use Rattle.reg_alloc.proofs.Goings.{ReachAll}

-- the lane once the words of the second operand are done: a number to shift by that stands in the instruction needs none
abbrev pub shift_brought : ℕ → Held → Held
shift_brought n h = if nat_lt n 32 then h else brought right (NumberOf n) h

abbrev pub right_brought : Alu → Operand → Held → Held
right_brought alu.Sll (NumberOf n) h = shift_brought n h
right_brought alu.Srl (NumberOf n) h = shift_brought n h
right_brought alu.Sra (NumberOf n) h = shift_brought n h
right_brought op a h = brought right a h

-- the second word of the operation then
abbrev pub shift_value : ℕ → Registers → ℕ
shift_value n xs = if nat_lt n 32 then n else value_in xs (number_register right n)

abbrev pub second_value : Alu → Operand → Registers → ℕ
second_value alu.Sll (NumberOf n) xs = shift_value n xs
second_value alu.Srl (NumberOf n) xs = shift_value n xs
second_value alu.Sra (NumberOf n) xs = shift_value n xs
second_value op a xs = value_in xs (register_of right a)

shift_brings : (at : Around) (slots n : ℕ) (ws : List Plain) (h : Held) → n < 2 ^ 32 → do_all at (shift_before n ws) h ≡ do_all at ws (shift_brought n h)
shift_brings at slots n ws h less =
    let large = operand_brings right refl refl refl at slots (NumberOf n) ws h less in
    elim (nat_lt n 32) as (λ b. do_all at (if b then ws else number_before right n ws) h ≡ do_all at ws (if b then h else brought right (NumberOf n) h)) [
      | true ↦ refl
      | false ↦ large
    ]

pub right_brings : (at : Around) (slots : ℕ) (op : Alu) (a : Operand) (ws : List Plain) (h : Held) → IsBelow slots a → do_all at (right_before op a ws) h ≡ do_all at ws (right_brought op a h)
right_brings at slots alu.Add a ws h less = operand_brings right refl refl refl at slots a ws h less
right_brings at slots alu.Sub a ws h less = operand_brings right refl refl refl at slots a ws h less
right_brings at slots alu.Sll (VariableOf r) ws h less = operand_brings right refl refl refl at slots (VariableOf r) ws h less
right_brings at slots alu.Sll (NumberOf n) ws h less = shift_brings at slots n ws h less
right_brings at slots alu.Slt a ws h less = operand_brings right refl refl refl at slots a ws h less
right_brings at slots alu.Sltu a ws h less = operand_brings right refl refl refl at slots a ws h less
right_brings at slots alu.Xor a ws h less = operand_brings right refl refl refl at slots a ws h less
right_brings at slots alu.Srl (VariableOf r) ws h less = operand_brings right refl refl refl at slots (VariableOf r) ws h less
right_brings at slots alu.Srl (NumberOf n) ws h less = shift_brings at slots n ws h less
right_brings at slots alu.Sra (VariableOf r) ws h less = operand_brings right refl refl refl at slots (VariableOf r) ws h less
right_brings at slots alu.Sra (NumberOf n) ws h less = shift_brings at slots n ws h less
right_brings at slots alu.Or a ws h less = operand_brings right refl refl refl at slots a ws h less
right_brings at slots alu.And a ws h less = operand_brings right refl refl refl at slots a ws h less
right_brings at slots alu.Mul a ws h less = operand_brings right refl refl refl at slots a ws h less
right_brings at slots alu.Mulh a ws h less = operand_brings right refl refl refl at slots a ws h less
right_brings at slots alu.Mulhsu a ws h less = operand_brings right refl refl refl at slots a ws h less
right_brings at slots alu.Mulhu a ws h less = operand_brings right refl refl refl at slots a ws h less
right_brings at slots alu.Div a ws h less = operand_brings right refl refl refl at slots a ws h less
right_brings at slots alu.Divu a ws h less = operand_brings right refl refl refl at slots a ws h less
right_brings at slots alu.Rem a ws h less = operand_brings right refl refl refl at slots a ws h less
right_brings at slots alu.Remu a ws h less = operand_brings right refl refl refl at slots a ws h less

shift_reaches : (at : Around) (slots start n : ℕ) (ws : List Plain) (h : Held) → n < 2 ^ 32 → h.registers 4 ≡ start
    → ReachAll slots start at ws (shift_brought n h) → ReachAll slots start at (shift_before n ws) h
shift_reaches at slots start n ws h less based =
    let large = operand_reaches right refl refl refl at slots start (NumberOf n) ws h less tt in
    elim (nat_lt n 32) as (λ b. ReachAll slots start at ws (if b then h else brought right (NumberOf n) h) → ReachAll slots start at (if b then ws else number_before right n ws) h) [
      | true ↦ λ reach. reach
      | false ↦ large
    ]

pub right_reaches : (at : Around) (slots start : ℕ) (op : Alu) (a : Operand) (ws : List Plain) (h : Held) → IsBelow slots a → h.registers 4 ≡ start
    → ReachAll slots start at ws (right_brought op a h) → ReachAll slots start at (right_before op a ws) h
right_reaches at slots start alu.Add a ws h less based reach = operand_reaches right refl refl refl at slots start a ws h less (based_for start h a based) reach
right_reaches at slots start alu.Sub a ws h less based reach = operand_reaches right refl refl refl at slots start a ws h less (based_for start h a based) reach
right_reaches at slots start alu.Sll (VariableOf r) ws h less based reach = operand_reaches right refl refl refl at slots start (VariableOf r) ws h less (based_for start h (VariableOf r) based) reach
right_reaches at slots start alu.Sll (NumberOf n) ws h less based reach = shift_reaches at slots start n ws h less based reach
right_reaches at slots start alu.Slt a ws h less based reach = operand_reaches right refl refl refl at slots start a ws h less (based_for start h a based) reach
right_reaches at slots start alu.Sltu a ws h less based reach = operand_reaches right refl refl refl at slots start a ws h less (based_for start h a based) reach
right_reaches at slots start alu.Xor a ws h less based reach = operand_reaches right refl refl refl at slots start a ws h less (based_for start h a based) reach
right_reaches at slots start alu.Srl (VariableOf r) ws h less based reach = operand_reaches right refl refl refl at slots start (VariableOf r) ws h less (based_for start h (VariableOf r) based) reach
right_reaches at slots start alu.Srl (NumberOf n) ws h less based reach = shift_reaches at slots start n ws h less based reach
right_reaches at slots start alu.Sra (VariableOf r) ws h less based reach = operand_reaches right refl refl refl at slots start (VariableOf r) ws h less (based_for start h (VariableOf r) based) reach
right_reaches at slots start alu.Sra (NumberOf n) ws h less based reach = shift_reaches at slots start n ws h less based reach
right_reaches at slots start alu.Or a ws h less based reach = operand_reaches right refl refl refl at slots start a ws h less (based_for start h a based) reach
right_reaches at slots start alu.And a ws h less based reach = operand_reaches right refl refl refl at slots start a ws h less (based_for start h a based) reach
right_reaches at slots start alu.Mul a ws h less based reach = operand_reaches right refl refl refl at slots start a ws h less (based_for start h a based) reach
right_reaches at slots start alu.Mulh a ws h less based reach = operand_reaches right refl refl refl at slots start a ws h less (based_for start h a based) reach
right_reaches at slots start alu.Mulhsu a ws h less based reach = operand_reaches right refl refl refl at slots start a ws h less (based_for start h a based) reach
right_reaches at slots start alu.Mulhu a ws h less based reach = operand_reaches right refl refl refl at slots start a ws h less (based_for start h a based) reach
right_reaches at slots start alu.Div a ws h less based reach = operand_reaches right refl refl refl at slots start a ws h less (based_for start h a based) reach
right_reaches at slots start alu.Divu a ws h less based reach = operand_reaches right refl refl refl at slots start a ws h less (based_for start h a based) reach
right_reaches at slots start alu.Rem a ws h less based reach = operand_reaches right refl refl refl at slots start a ws h less (based_for start h a based) reach
right_reaches at slots start alu.Remu a ws h less based reach = operand_reaches right refl refl refl at slots start a ws h less (based_for start h a based) reach

shift_valued : (n : ℕ) (h : Held) → n < 2 ^ 32 → shift_value n (shift_brought n h).registers ≡ n
shift_valued n h word =
    let large = operand_value right refl refl refl (NumberOf n) h word in
    elim (nat_lt n 32) as (λ b. (if b then n else value_in (if b then h else brought right (NumberOf n) h).registers (number_register right n)) ≡ n) [
      | true ↦ refl
      | false ↦ large
    ]

pub right_value : (op : Alu) (a : Operand) (h : Held) → value h.frame a < 2 ^ 32 → second_value op a (right_brought op a h).registers ≡ value h.frame a
right_value alu.Add a h word = operand_value right refl refl refl a h word
right_value alu.Sub a h word = operand_value right refl refl refl a h word
right_value alu.Sll (VariableOf r) h word = operand_value right refl refl refl (VariableOf r) h word
right_value alu.Sll (NumberOf n) h word = shift_valued n h word
right_value alu.Slt a h word = operand_value right refl refl refl a h word
right_value alu.Sltu a h word = operand_value right refl refl refl a h word
right_value alu.Xor a h word = operand_value right refl refl refl a h word
right_value alu.Srl (VariableOf r) h word = operand_value right refl refl refl (VariableOf r) h word
right_value alu.Srl (NumberOf n) h word = shift_valued n h word
right_value alu.Sra (VariableOf r) h word = operand_value right refl refl refl (VariableOf r) h word
right_value alu.Sra (NumberOf n) h word = shift_valued n h word
right_value alu.Or a h word = operand_value right refl refl refl a h word
right_value alu.And a h word = operand_value right refl refl refl a h word
right_value alu.Mul a h word = operand_value right refl refl refl a h word
right_value alu.Mulh a h word = operand_value right refl refl refl a h word
right_value alu.Mulhsu a h word = operand_value right refl refl refl a h word
right_value alu.Mulhu a h word = operand_value right refl refl refl a h word
right_value alu.Div a h word = operand_value right refl refl refl a h word
right_value alu.Divu a h word = operand_value right refl refl refl a h word
right_value alu.Rem a h word = operand_value right refl refl refl a h word
right_value alu.Remu a h word = operand_value right refl refl refl a h word

shift_others : (n : ℕ) (h : Held) (r : ℕ) → nat_eq r right ≡ false → (shift_brought n h).registers r ≡ h.registers r
shift_others n h r other =
    let large = others_kept right refl refl refl (NumberOf n) h r other in
    elim (nat_lt n 32) as (λ b. (if b then h else brought right (NumberOf n) h).registers r ≡ h.registers r) [
      | true ↦ refl
      | false ↦ large
    ]

pub right_others : (op : Alu) (a : Operand) (h : Held) (r : ℕ) → nat_eq r right ≡ false → (right_brought op a h).registers r ≡ h.registers r
right_others alu.Add a h q other = others_kept right refl refl refl a h q other
right_others alu.Sub a h q other = others_kept right refl refl refl a h q other
right_others alu.Sll (VariableOf r) h q other = others_kept right refl refl refl (VariableOf r) h q other
right_others alu.Sll (NumberOf n) h q other = shift_others n h q other
right_others alu.Slt a h q other = others_kept right refl refl refl a h q other
right_others alu.Sltu a h q other = others_kept right refl refl refl a h q other
right_others alu.Xor a h q other = others_kept right refl refl refl a h q other
right_others alu.Srl (VariableOf r) h q other = others_kept right refl refl refl (VariableOf r) h q other
right_others alu.Srl (NumberOf n) h q other = shift_others n h q other
right_others alu.Sra (VariableOf r) h q other = others_kept right refl refl refl (VariableOf r) h q other
right_others alu.Sra (NumberOf n) h q other = shift_others n h q other
right_others alu.Or a h q other = others_kept right refl refl refl a h q other
right_others alu.And a h q other = others_kept right refl refl refl a h q other
right_others alu.Mul a h q other = others_kept right refl refl refl a h q other
right_others alu.Mulh a h q other = others_kept right refl refl refl a h q other
right_others alu.Mulhsu a h q other = others_kept right refl refl refl a h q other
right_others alu.Mulhu a h q other = others_kept right refl refl refl a h q other
right_others alu.Div a h q other = others_kept right refl refl refl a h q other
right_others alu.Divu a h q other = others_kept right refl refl refl a h q other
right_others alu.Rem a h q other = others_kept right refl refl refl a h q other
right_others alu.Remu a h q other = others_kept right refl refl refl a h q other

shift_frame : (n : ℕ) (h : Held) → (shift_brought n h).frame ≡ h.frame
shift_frame n h =
    let large = frame_kept right (NumberOf n) h in
    elim (nat_lt n 32) as (λ b. (if b then h else brought right (NumberOf n) h).frame ≡ h.frame) [
      | true ↦ refl
      | false ↦ large
    ]

pub right_frame : (op : Alu) (a : Operand) (h : Held) → (right_brought op a h).frame ≡ h.frame
right_frame alu.Add a h = frame_kept right a h
right_frame alu.Sub a h = frame_kept right a h
right_frame alu.Sll (VariableOf r) h = frame_kept right (VariableOf r) h
right_frame alu.Sll (NumberOf n) h = shift_frame n h
right_frame alu.Slt a h = frame_kept right a h
right_frame alu.Sltu a h = frame_kept right a h
right_frame alu.Xor a h = frame_kept right a h
right_frame alu.Srl (VariableOf r) h = frame_kept right (VariableOf r) h
right_frame alu.Srl (NumberOf n) h = shift_frame n h
right_frame alu.Sra (VariableOf r) h = frame_kept right (VariableOf r) h
right_frame alu.Sra (NumberOf n) h = shift_frame n h
right_frame alu.Or a h = frame_kept right a h
right_frame alu.And a h = frame_kept right a h
right_frame alu.Mul a h = frame_kept right a h
right_frame alu.Mulh a h = frame_kept right a h
right_frame alu.Mulhsu a h = frame_kept right a h
right_frame alu.Mulhu a h = frame_kept right a h
right_frame alu.Div a h = frame_kept right a h
right_frame alu.Divu a h = frame_kept right a h
right_frame alu.Rem a h = frame_kept right a h
right_frame alu.Remu a h = frame_kept right a h

-- the word that computes, of the registers
pub compute_step : (k : Setting) (op : Alu) (b : Operand) (a : ℕ) (s : ImageLane)
    → instr_step k (compute_word op b a) s ≡ Go (goes_with (next_pc s) made (alu_value_of op (value_in s.registers a) (second_value op b s.registers)) s)
compute_step k alu.Add b a s = refl
compute_step k alu.Sub b a s = refl
compute_step k alu.Sll (VariableOf r) a s = refl
compute_step k alu.Sll (NumberOf n) a s =
    elim (nat_lt n 32) as (λ b. instr_step k (if b then instr.Slli made a n else instr.Sll made a (number_register right n)) s
    ≡ Go (goes_with (next_pc s) made (alu_value_of alu.Sll (value_in s.registers a) (if b then n else value_in s.registers (number_register right n))) s)) [
      | true ↦ refl
      | false ↦ refl
    ]
compute_step k alu.Slt b a s = refl
compute_step k alu.Sltu b a s = refl
compute_step k alu.Xor b a s = refl
compute_step k alu.Srl (VariableOf r) a s = refl
compute_step k alu.Srl (NumberOf n) a s =
    elim (nat_lt n 32) as (λ b. instr_step k (if b then instr.Srli made a n else instr.Srl made a (number_register right n)) s
    ≡ Go (goes_with (next_pc s) made (alu_value_of alu.Srl (value_in s.registers a) (if b then n else value_in s.registers (number_register right n))) s)) [
      | true ↦ refl
      | false ↦ refl
    ]
compute_step k alu.Sra (VariableOf r) a s = refl
compute_step k alu.Sra (NumberOf n) a s =
    elim (nat_lt n 32) as (λ b. instr_step k (if b then instr.Srai made a n else instr.Sra made a (number_register right n)) s
    ≡ Go (goes_with (next_pc s) made (alu_value_of alu.Sra (value_in s.registers a) (if b then n else value_in s.registers (number_register right n))) s)) [
      | true ↦ refl
      | false ↦ refl
    ]
compute_step k alu.Or b a s = refl
compute_step k alu.And b a s = refl
compute_step k alu.Mul b a s = refl
compute_step k alu.Mulh b a s = refl
compute_step k alu.Mulhsu b a s = refl
compute_step k alu.Mulhu b a s = refl
compute_step k alu.Div b a s = refl
compute_step k alu.Divu b a s = refl
compute_step k alu.Rem b a s = refl
compute_step k alu.Remu b a s = refl
