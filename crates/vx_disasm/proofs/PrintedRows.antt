-- Each row of the table as it is printed and read.
use Rattle.std.proofs.Common.{◌≡◌, ℕ, ◌^◌, ◌≤◌, Bool, true, false, List, [], ◌∷◌, ◌++◌, length, refl, arith}
use Rattle.std.specs.Prelude.{Some, None, ◌==◌, ◌&&◌, nat_lt, slice_index}
use Rattle.std.specs.List.{prefix_len, position_or_len}
use Rattle.std.specs.Fmt.{decimal}
use Rattle.std.proofs.lemmas.Bool.Decides.{nat_tests}
use Rattle.std.proofs.lemmas.List.{append-nil}
use Rattle.vx_isa.specs.declared.instr.Instr.{Instr}
use Rattle.vx_isa.specs.declared.instr.Instr.TheVariants.{Lui, Auipc, Jal, Jalr, Beq, Bne, Blt, Bge, Bltu, Bgeu, Lb, Lh, Lw, Lbu, Lhu, Sb, Sh, Sw, Addi, Slti, Sltiu, Xori, Ori, Andi, Slli, Srli, Srai, Add, Sub, Sll, Slt, Sltu, Xor, Srl, Sra, Or, And, Mul, Mulh, Mulhsu, Mulhu, Div, Divu, Rem, Remu, Fence, Ebreak, Csrr, Tmc, Wspawn, Split, Join, Bar, Pred}
use Rattle.vx_isa.specs.Words.{is_register, is_signed, is_place, is_csr, are_registers, fits_signed, fits_branch, fits_upper, Fits}
use Rattle.asm_text.specs.declared.mnemonics.Mnemonic.{Mnemonic}
use Rattle.asm_text.specs.declared.mnemonics.Form.{Form}
use Rattle.asm_text.specs.declared.mnemonics.Form.TheVariants as form
use Rattle.asm_text.specs.declared.mnemonics.Operands.{Operands}
use Rattle.asm_text.specs.declared.statements.Statement.{Statement}
use Rattle.asm_text.specs.Mnemonics.{name_of, form_of, parts_of, instr_of, mnemonic_of, operands_of}
use Rattle.asm_text.specs.AsmLines.{bare, begins_name, is_in_name, mnemonic_named}
use Rattle.vx_disasm.specs.Texts.{signed, hexadecimal, operands_text}
use Rattle.vx_disasm.proofs.PrintedParts.{InRange, Spaced, parts_text, with_words}

-- the operands that a form prints, in order
abbrev pub shown : Form → Operands → List ℕ
shown form.ThreeRegisters o = o.first ∷ o.second ∷ o.third ∷ []
shown form.Immediate o = o.first ∷ o.second ∷ o.third ∷ []
shown form.Shift o = o.first ∷ o.second ∷ o.third ∷ []
shown form.Memory o = o.first ∷ o.second ∷ o.third ∷ []
shown form.Branch o = o.first ∷ o.second ∷ o.third ∷ []
shown form.Upper o = o.second ∷ o.third ∷ []
shown form.Jump o = o.second ∷ o.third ∷ []
shown form.Fence o = o.second ∷ o.third ∷ []
shown form.Csr o = o.second ∷ o.third ∷ []
shown form.OneRegister o = o.third ∷ []
shown form.TwoRegisters o = o.second ∷ o.third ∷ []
shown form.Bare o = []
shown form.Word o = o.third ∷ []

abbrev pub lead : Form → List ℕ
lead form.Bare = []
lead other = 32 ∷ []

-- a form is printed part by part
pub printed : (f : Form) (o : Operands) → operands_text f o ≡ lead f ++ parts_text (parts_of f) (shown f o)
printed form.ThreeRegisters o = rw (append-nil (decimal o.third)) refl
printed form.Immediate o = rw (append-nil (signed o.third)) refl
printed form.Shift o = rw (append-nil (decimal o.third)) refl
printed form.Memory o = refl
printed form.Branch o = rw (append-nil (signed o.third)) refl
printed form.Upper o = rw (append-nil (hexadecimal o.third)) refl
printed form.Jump o = rw (append-nil (signed o.third)) refl
printed form.Fence o = rw (append-nil (decimal o.third)) refl
printed form.Csr o = rw (append-nil (hexadecimal o.third)) refl
printed form.OneRegister o = rw (append-nil (decimal o.third)) refl
printed form.TwoRegisters o = rw (append-nil (decimal o.third)) refl
printed form.Bare o = refl
printed form.Word o = rw (append-nil (hexadecimal o.third)) refl

pub spaced : (f : Form) → Spaced (parts_of f)
spaced form.ThreeRegisters = (tt, (tt, (tt, tt)))
spaced form.Immediate = (tt, (tt, (tt, tt)))
spaced form.Shift = (tt, (tt, (tt, tt)))
spaced form.Memory = (tt, (tt, (tt, tt)))
spaced form.Branch = (tt, (tt, (tt, tt)))
spaced form.Upper = (tt, (tt, tt))
spaced form.Jump = (tt, (tt, tt))
spaced form.Fence = (tt, (tt, tt))
spaced form.Csr = (tt, (tt, tt))
spaced form.OneRegister = (tt, tt)
spaced form.TwoRegisters = (tt, (tt, tt))
spaced form.Bare = tt
spaced form.Word = (tt, tt)

-- ---- operands in range

left : (a b : Bool) → a && b ≡ true → a ≡ true
left true b e = refl
left false b e = e

right : (a b : Bool) → a && b ≡ true → b ≡ true
right true b e = e
right false b e = absurd cc

three_range : (a b c : ℕ) → are_registers a b c ≡ true → InRange (parts_of form.ThreeRegisters) (a ∷ b ∷ c ∷ [])
three_range a b c fits =
    let first : is_register a && is_register b ≡ true = left (is_register a && is_register b) (is_register c) fits in
    (left (is_register a) (is_register b) first, (right (is_register a) (is_register b) first, (right (is_register a && is_register b) (is_register c) fits, refl)))

shift_range : (a b c : ℕ) → are_registers a b c ≡ true → InRange (parts_of form.Shift) (a ∷ b ∷ c ∷ [])
shift_range a b c fits =
    let first : is_register a && is_register b ≡ true = left (is_register a && is_register b) (is_register c) fits in
    (left (is_register a) (is_register b) first, (right (is_register a) (is_register b) first, (right (is_register a && is_register b) (is_register c) fits, refl)))

immediate_range : (a b c : ℕ) → fits_signed a b c ≡ true → InRange (parts_of form.Immediate) (a ∷ b ∷ c ∷ [])
immediate_range a b c fits =
    let first : is_register a && is_register b ≡ true = left (is_register a && is_register b) (is_signed 12 c) fits in
    (left (is_register a) (is_register b) first, (right (is_register a) (is_register b) first, (right (is_register a && is_register b) (is_signed 12 c) fits, refl)))

memory_range : (a c b : ℕ) → fits_signed a b c ≡ true → InRange (parts_of form.Memory) (a ∷ c ∷ b ∷ [])
memory_range a c b fits =
    let first : is_register a && is_register b ≡ true = left (is_register a && is_register b) (is_signed 12 c) fits in
    (left (is_register a) (is_register b) first, (right (is_register a && is_register b) (is_signed 12 c) fits, (right (is_register a) (is_register b) first, refl)))

store_range : (b c a : ℕ) → fits_signed a b c ≡ true → InRange (parts_of form.Memory) (b ∷ c ∷ a ∷ [])
store_range b c a fits =
    let first : is_register a && is_register b ≡ true = left (is_register a && is_register b) (is_signed 12 c) fits in
    (right (is_register a) (is_register b) first, (right (is_register a && is_register b) (is_signed 12 c) fits, (left (is_register a) (is_register b) first, refl)))

branch_range : (a b c : ℕ) → fits_branch a b c ≡ true → InRange (parts_of form.Branch) (a ∷ b ∷ c ∷ [])
branch_range a b c fits =
    let first : is_register a && is_register b ≡ true = left (is_register a && is_register b) (is_place 13 c) fits in
    let place : is_place 13 c ≡ true = right (is_register a && is_register b) (is_place 13 c) fits in
    (left (is_register a) (is_register b) first, (right (is_register a) (is_register b) first, (grind (arith, nat_tests), place, refl, refl)))

upper_range : (a c : ℕ) → fits_upper a c ≡ true → InRange (parts_of form.Upper) (a ∷ c ∷ [])
upper_range a c fits = (left (is_register a) (nat_lt c (2 ^ 20)) fits, (right (is_register a) (nat_lt c (2 ^ 20)) fits, refl))

jump_range : (a c : ℕ) → is_register a && is_place 21 c ≡ true → InRange (parts_of form.Jump) (a ∷ c ∷ [])
jump_range a c fits =
    let place : is_place 21 c ≡ true = right (is_register a) (is_place 21 c) fits in
    (left (is_register a) (is_place 21 c) fits, (grind (arith, nat_tests), place, refl, refl))

fence_range : (a c : ℕ) → nat_lt a 16 && nat_lt c 16 ≡ true → InRange (parts_of form.Fence) (a ∷ c ∷ [])
fence_range a c fits = (left (nat_lt a 16) (nat_lt c 16) fits, (right (nat_lt a 16) (nat_lt c 16) fits, refl))

csr_range : (a c : ℕ) → is_register a && is_csr c ≡ true → InRange (parts_of form.Csr) (a ∷ c ∷ [])
csr_range a c fits = (left (is_register a) (is_csr c) fits, (right (is_register a) (is_csr c) fits, refl))

one_range : (a : ℕ) → is_register a ≡ true → InRange (parts_of form.OneRegister) (a ∷ [])
one_range a fits = (fits, refl)

two_range : (a b : ℕ) → is_register a && is_register b ≡ true → InRange (parts_of form.TwoRegisters) (a ∷ b ∷ [])
two_range a b fits = (left (is_register a) (is_register b) fits, (right (is_register a) (is_register b) fits, refl))

-- ---- the rows

-- what reading the line of an instruction with this mnemonic comes to
abbrev pub statement_of : Mnemonic → Operands → Statement
statement_of m o = record { mnemonic = m; operands = o; misfit = None; target = None }

-- no line feed
abbrev pub Plain : List ℕ → Type 0
Plain bytes = position_or_len (λ b. b == 10) bytes ≡ length bytes

pub record Row (m : Mnemonic) (i : Instr) : Type 0 where
  pub named : mnemonic_named (name_of m) ≡ Some m
  pub letters : prefix_len is_in_name (name_of m) ≡ length (name_of m)
  pub begins : (t : List ℕ) → begins_name (slice_index (name_of m ++ t) 0) ≡ true
  pub plain : Plain (name_of m)
  pub short : length (name_of m) ≤ 6
  pub back : with_words (bare m) (shown (form_of m) (operands_of i)) ≡ statement_of m (operands_of i)
  pub range : InRange (parts_of (form_of m)) (shown (form_of m) (operands_of i))
  pub instr : instr_of m (operands_of i) ≡ Some i

with_range : (m : Mnemonic) (i : Instr) → mnemonic_named (name_of m) ≡ Some m → prefix_len is_in_name (name_of m) ≡ length (name_of m) → ((t : List ℕ) → begins_name (slice_index (name_of m ++ t) 0) ≡ true)
    → Plain (name_of m) → length (name_of m) ≤ 6 → with_words (bare m) (shown (form_of m) (operands_of i)) ≡ statement_of m (operands_of i) → instr_of m (operands_of i) ≡ Some i
    → InRange (parts_of (form_of m)) (shown (form_of m) (operands_of i)) → Row m i
with_range m i named letters begins plain short back instr range = record { named = named; letters = letters; begins = begins; plain = plain; short = short; back = back; range = range; instr = instr }

pub row : (i : Instr) → Fits i → Row (mnemonic_of i) i
unfolding mnemonic_named
row (Lui rd imm) fits = with_range (mnemonic_of (Lui rd imm)) (Lui rd imm) refl refl (λ t. refl) refl (omega arith) refl refl (upper_range rd imm fits)
row (Auipc rd imm) fits = with_range (mnemonic_of (Auipc rd imm)) (Auipc rd imm) refl refl (λ t. refl) refl (omega arith) refl refl (upper_range rd imm fits)
row (Jal rd place) fits = with_range (mnemonic_of (Jal rd place)) (Jal rd place) refl refl (λ t. refl) refl (omega arith) refl refl (jump_range rd place fits)
row (Jalr rd imm rs1) fits = with_range (mnemonic_of (Jalr rd imm rs1)) (Jalr rd imm rs1) refl refl (λ t. refl) refl (omega arith) refl refl (memory_range rd imm rs1 fits)
row (Beq rs1 rs2 place) fits = with_range (mnemonic_of (Beq rs1 rs2 place)) (Beq rs1 rs2 place) refl refl (λ t. refl) refl (omega arith) refl refl (branch_range rs1 rs2 place fits)
row (Bne rs1 rs2 place) fits = with_range (mnemonic_of (Bne rs1 rs2 place)) (Bne rs1 rs2 place) refl refl (λ t. refl) refl (omega arith) refl refl (branch_range rs1 rs2 place fits)
row (Blt rs1 rs2 place) fits = with_range (mnemonic_of (Blt rs1 rs2 place)) (Blt rs1 rs2 place) refl refl (λ t. refl) refl (omega arith) refl refl (branch_range rs1 rs2 place fits)
row (Bge rs1 rs2 place) fits = with_range (mnemonic_of (Bge rs1 rs2 place)) (Bge rs1 rs2 place) refl refl (λ t. refl) refl (omega arith) refl refl (branch_range rs1 rs2 place fits)
row (Bltu rs1 rs2 place) fits = with_range (mnemonic_of (Bltu rs1 rs2 place)) (Bltu rs1 rs2 place) refl refl (λ t. refl) refl (omega arith) refl refl (branch_range rs1 rs2 place fits)
row (Bgeu rs1 rs2 place) fits = with_range (mnemonic_of (Bgeu rs1 rs2 place)) (Bgeu rs1 rs2 place) refl refl (λ t. refl) refl (omega arith) refl refl (branch_range rs1 rs2 place fits)
row (Lb rd imm rs1) fits = with_range (mnemonic_of (Lb rd imm rs1)) (Lb rd imm rs1) refl refl (λ t. refl) refl (omega arith) refl refl (memory_range rd imm rs1 fits)
row (Lh rd imm rs1) fits = with_range (mnemonic_of (Lh rd imm rs1)) (Lh rd imm rs1) refl refl (λ t. refl) refl (omega arith) refl refl (memory_range rd imm rs1 fits)
row (Lw rd imm rs1) fits = with_range (mnemonic_of (Lw rd imm rs1)) (Lw rd imm rs1) refl refl (λ t. refl) refl (omega arith) refl refl (memory_range rd imm rs1 fits)
row (Lbu rd imm rs1) fits = with_range (mnemonic_of (Lbu rd imm rs1)) (Lbu rd imm rs1) refl refl (λ t. refl) refl (omega arith) refl refl (memory_range rd imm rs1 fits)
row (Lhu rd imm rs1) fits = with_range (mnemonic_of (Lhu rd imm rs1)) (Lhu rd imm rs1) refl refl (λ t. refl) refl (omega arith) refl refl (memory_range rd imm rs1 fits)
row (Sb rs2 imm rs1) fits = with_range (mnemonic_of (Sb rs2 imm rs1)) (Sb rs2 imm rs1) refl refl (λ t. refl) refl (omega arith) refl refl (store_range rs2 imm rs1 fits)
row (Sh rs2 imm rs1) fits = with_range (mnemonic_of (Sh rs2 imm rs1)) (Sh rs2 imm rs1) refl refl (λ t. refl) refl (omega arith) refl refl (store_range rs2 imm rs1 fits)
row (Sw rs2 imm rs1) fits = with_range (mnemonic_of (Sw rs2 imm rs1)) (Sw rs2 imm rs1) refl refl (λ t. refl) refl (omega arith) refl refl (store_range rs2 imm rs1 fits)
row (Addi rd rs1 imm) fits = with_range (mnemonic_of (Addi rd rs1 imm)) (Addi rd rs1 imm) refl refl (λ t. refl) refl (omega arith) refl refl (immediate_range rd rs1 imm fits)
row (Slti rd rs1 imm) fits = with_range (mnemonic_of (Slti rd rs1 imm)) (Slti rd rs1 imm) refl refl (λ t. refl) refl (omega arith) refl refl (immediate_range rd rs1 imm fits)
row (Sltiu rd rs1 imm) fits = with_range (mnemonic_of (Sltiu rd rs1 imm)) (Sltiu rd rs1 imm) refl refl (λ t. refl) refl (omega arith) refl refl (immediate_range rd rs1 imm fits)
row (Xori rd rs1 imm) fits = with_range (mnemonic_of (Xori rd rs1 imm)) (Xori rd rs1 imm) refl refl (λ t. refl) refl (omega arith) refl refl (immediate_range rd rs1 imm fits)
row (Ori rd rs1 imm) fits = with_range (mnemonic_of (Ori rd rs1 imm)) (Ori rd rs1 imm) refl refl (λ t. refl) refl (omega arith) refl refl (immediate_range rd rs1 imm fits)
row (Andi rd rs1 imm) fits = with_range (mnemonic_of (Andi rd rs1 imm)) (Andi rd rs1 imm) refl refl (λ t. refl) refl (omega arith) refl refl (immediate_range rd rs1 imm fits)
row (Slli rd rs1 amount) fits = with_range (mnemonic_of (Slli rd rs1 amount)) (Slli rd rs1 amount) refl refl (λ t. refl) refl (omega arith) refl refl (shift_range rd rs1 amount fits)
row (Srli rd rs1 amount) fits = with_range (mnemonic_of (Srli rd rs1 amount)) (Srli rd rs1 amount) refl refl (λ t. refl) refl (omega arith) refl refl (shift_range rd rs1 amount fits)
row (Srai rd rs1 amount) fits = with_range (mnemonic_of (Srai rd rs1 amount)) (Srai rd rs1 amount) refl refl (λ t. refl) refl (omega arith) refl refl (shift_range rd rs1 amount fits)
row (Add rd rs1 rs2) fits = with_range (mnemonic_of (Add rd rs1 rs2)) (Add rd rs1 rs2) refl refl (λ t. refl) refl (omega arith) refl refl (three_range rd rs1 rs2 fits)
row (Sub rd rs1 rs2) fits = with_range (mnemonic_of (Sub rd rs1 rs2)) (Sub rd rs1 rs2) refl refl (λ t. refl) refl (omega arith) refl refl (three_range rd rs1 rs2 fits)
row (Sll rd rs1 rs2) fits = with_range (mnemonic_of (Sll rd rs1 rs2)) (Sll rd rs1 rs2) refl refl (λ t. refl) refl (omega arith) refl refl (three_range rd rs1 rs2 fits)
row (Slt rd rs1 rs2) fits = with_range (mnemonic_of (Slt rd rs1 rs2)) (Slt rd rs1 rs2) refl refl (λ t. refl) refl (omega arith) refl refl (three_range rd rs1 rs2 fits)
row (Sltu rd rs1 rs2) fits = with_range (mnemonic_of (Sltu rd rs1 rs2)) (Sltu rd rs1 rs2) refl refl (λ t. refl) refl (omega arith) refl refl (three_range rd rs1 rs2 fits)
row (Xor rd rs1 rs2) fits = with_range (mnemonic_of (Xor rd rs1 rs2)) (Xor rd rs1 rs2) refl refl (λ t. refl) refl (omega arith) refl refl (three_range rd rs1 rs2 fits)
row (Srl rd rs1 rs2) fits = with_range (mnemonic_of (Srl rd rs1 rs2)) (Srl rd rs1 rs2) refl refl (λ t. refl) refl (omega arith) refl refl (three_range rd rs1 rs2 fits)
row (Sra rd rs1 rs2) fits = with_range (mnemonic_of (Sra rd rs1 rs2)) (Sra rd rs1 rs2) refl refl (λ t. refl) refl (omega arith) refl refl (three_range rd rs1 rs2 fits)
row (Or rd rs1 rs2) fits = with_range (mnemonic_of (Or rd rs1 rs2)) (Or rd rs1 rs2) refl refl (λ t. refl) refl (omega arith) refl refl (three_range rd rs1 rs2 fits)
row (And rd rs1 rs2) fits = with_range (mnemonic_of (And rd rs1 rs2)) (And rd rs1 rs2) refl refl (λ t. refl) refl (omega arith) refl refl (three_range rd rs1 rs2 fits)
row (Mul rd rs1 rs2) fits = with_range (mnemonic_of (Mul rd rs1 rs2)) (Mul rd rs1 rs2) refl refl (λ t. refl) refl (omega arith) refl refl (three_range rd rs1 rs2 fits)
row (Mulh rd rs1 rs2) fits = with_range (mnemonic_of (Mulh rd rs1 rs2)) (Mulh rd rs1 rs2) refl refl (λ t. refl) refl (omega arith) refl refl (three_range rd rs1 rs2 fits)
row (Mulhsu rd rs1 rs2) fits = with_range (mnemonic_of (Mulhsu rd rs1 rs2)) (Mulhsu rd rs1 rs2) refl refl (λ t. refl) refl (omega arith) refl refl (three_range rd rs1 rs2 fits)
row (Mulhu rd rs1 rs2) fits = with_range (mnemonic_of (Mulhu rd rs1 rs2)) (Mulhu rd rs1 rs2) refl refl (λ t. refl) refl (omega arith) refl refl (three_range rd rs1 rs2 fits)
row (Div rd rs1 rs2) fits = with_range (mnemonic_of (Div rd rs1 rs2)) (Div rd rs1 rs2) refl refl (λ t. refl) refl (omega arith) refl refl (three_range rd rs1 rs2 fits)
row (Divu rd rs1 rs2) fits = with_range (mnemonic_of (Divu rd rs1 rs2)) (Divu rd rs1 rs2) refl refl (λ t. refl) refl (omega arith) refl refl (three_range rd rs1 rs2 fits)
row (Rem rd rs1 rs2) fits = with_range (mnemonic_of (Rem rd rs1 rs2)) (Rem rd rs1 rs2) refl refl (λ t. refl) refl (omega arith) refl refl (three_range rd rs1 rs2 fits)
row (Remu rd rs1 rs2) fits = with_range (mnemonic_of (Remu rd rs1 rs2)) (Remu rd rs1 rs2) refl refl (λ t. refl) refl (omega arith) refl refl (three_range rd rs1 rs2 fits)
row (Fence before after) fits = with_range (mnemonic_of (Fence before after)) (Fence before after) refl refl (λ t. refl) refl (omega arith) refl refl (fence_range before after fits)
row Ebreak fits = with_range (mnemonic_of Ebreak) Ebreak refl refl (λ t. refl) refl (omega arith) refl refl refl
row (Csrr rd csr) fits = with_range (mnemonic_of (Csrr rd csr)) (Csrr rd csr) refl refl (λ t. refl) refl (omega arith) refl refl (csr_range rd csr fits)
row (Tmc rs1) fits = with_range (mnemonic_of (Tmc rs1)) (Tmc rs1) refl refl (λ t. refl) refl (omega arith) refl refl (one_range rs1 fits)
row (Wspawn rs1 rs2) fits = with_range (mnemonic_of (Wspawn rs1 rs2)) (Wspawn rs1 rs2) refl refl (λ t. refl) refl (omega arith) refl refl (two_range rs1 rs2 fits)
row (Split rs1) fits = with_range (mnemonic_of (Split rs1)) (Split rs1) refl refl (λ t. refl) refl (omega arith) refl refl (one_range rs1 fits)
row Join fits = with_range (mnemonic_of Join) Join refl refl (λ t. refl) refl (omega arith) refl refl refl
row (Bar rs1 rs2) fits = with_range (mnemonic_of (Bar rs1 rs2)) (Bar rs1 rs2) refl refl (λ t. refl) refl (omega arith) refl refl (two_range rs1 rs2 fits)
row (Pred rs1 rs2) fits = with_range (mnemonic_of (Pred rs1 rs2)) (Pred rs1 rs2) refl refl (λ t. refl) refl (omega arith) refl refl (two_range rs1 rs2 fits)
