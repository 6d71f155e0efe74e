-- The rows of the table and their words: a word spells the row that is looked up for it, and the row that it spells is the
-- one that is looked up. So no word spells two rows.
use Rattle.std.proofs.Common.{◌≡◌, ℕ, ◌+◌, ◌*◌, ◌^◌, ◌<◌, Bool, true, ◌&&◌, [], ◌∷◌, Option, Some, None, nat_eq, inl, inr, refl, ap, sym, subst, ◌∙◌, arith}
use Rattle.std.proofs.lemmas.Bool.{cases_Bool, cond-true, cond-false, lt-ltb, ltb-true, eqb-true, and_parts, and_from}
use Rattle.std.proofs.lemmas.Option.{same_Some, none-some, cond_some}
use Rattle.std.specs.Prelude.{nat_lt, if◌then◌else◌}
use Rattle.vx_isa.specs.Words.{bits, r_word, i_word, s_word, b_word, u_word, j_word, word_of, fits_of, Spells, are_registers, fits_signed, fits_branch, fits_upper, is_register, is_place, is_csr}
use Rattle.vx_isa.specs.Rows.{opcode_field, rd_field, funct3_field, rs1_field, rs2_field, funct7_field, i_imm, s_imm, b_imm, u_imm, j_imm, Table, look_up, row_if, branches, loads, stores, right_shifts, immediates, sums, differences, products, operations, fences, systems, warps, rows, row_of}
use Rattle.vx_isa.specs.declared.instr.Instr.{Instr}
use Rattle.vx_isa.specs.declared.instr.Instr.TheVariants.{Lui, Auipc, Jal, Jalr, Beq, Bne, Blt, Bge, Bltu, Bgeu, Lb, Lh, Lw, Lbu, Lhu, Sb, Sh, Sw, Addi, Slti, Sltiu, Xori, Ori, Andi, Slli, Srli, Srai, Add, Sub, Sll, Slt, Sltu, Xor, Srl, Sra, Or, And, Mul, Mulh, Mulhsu, Mulhu, Div, Divu, Rem, Remu, Fence, Ebreak, Csrr, Tmc, Wspawn, Split, Join, Bar, Pred}
use Rattle.vx_isa.proofs.WordLaws as law

-- two facts, one after the other
infixr 2 ◌⋆◌
◌⋆◌ : {A B : Type 0} → A → B → A × B
a ⋆ b = (a, b)

-- what holds of each row of a table under its key
abbrev Each : (ℕ → Instr → Type 0) → Table → Type 0
Each P [] = Unit {0}
Each P (entry ∷ rest) = ((i : Instr) → entry.1 ≡ Some i → P entry.0 i) × Each P rest

-- it holds of the row that is looked up
under_key : (P : ℕ → Instr → Type 0) (key : ℕ) (table : Table) (i : Instr) → Each P table → look_up key table ≡ Some i → P key i
under_key P key [] i each found = absurd (none-some i found)
under_key P key (entry ∷ rest) i each found =
    elim (cases_Bool (nat_eq key entry.0)) [
      | inl here ↦
          let row : entry.1 ≡ Some i = sym (cond-true (nat_eq key entry.0) entry.1 (look_up key rest) here) ∙ found in
          subst (λ k. P k i) (sym (eqb-true key entry.0 here)) (each.0 i row)
      | inr other ↦
          let row : look_up key rest ≡ Some i = sym (cond-false (nat_eq key entry.0) entry.1 (look_up key rest) other) ∙ found in
          under_key P key rest i each.1 row
    ]

-- what holds of a row holds of an entry that is this row
only : (P : Instr → Type 0) (row : Instr) → P row → (i : Instr) → Some row ≡ Some i → P i
only P row holds i same = subst P (same_Some row i same) holds

only_if : (P : Instr → Type 0) (test : Bool) (row : Instr) → (test ≡ true → P row) → (i : Instr) → row_if test row ≡ Some i → P i
only_if P test row holds i same = let parts = cond_some test row i same in subst P parts.1 (holds parts.0)

-- ---- a word spells the row that is looked up for it
branches_spelled : (rs1 rs2 place key : ℕ) (i : Instr) → fits_branch rs1 rs2 place ≡ true → look_up key (branches rs1 rs2 place) ≡ Some i → Spells (b_word 0x63 key rs1 rs2 place) i
branches_spelled rs1 rs2 place key i fits =
    let P : ℕ → Instr → Type 0 = λ k i. Spells (b_word 0x63 k rs1 rs2 place) i in
    let each : Each P (branches rs1 rs2 place) =
    only (P 0) (Beq rs1 rs2 place) (record { fits = fits; same_word = refl })
    ⋆ only (P 1) (Bne rs1 rs2 place) (record { fits = fits; same_word = refl })
    ⋆ only (P 4) (Blt rs1 rs2 place) (record { fits = fits; same_word = refl })
    ⋆ only (P 5) (Bge rs1 rs2 place) (record { fits = fits; same_word = refl })
    ⋆ only (P 6) (Bltu rs1 rs2 place) (record { fits = fits; same_word = refl })
    ⋆ only (P 7) (Bgeu rs1 rs2 place) (record { fits = fits; same_word = refl })
    ⋆ tt in
    under_key P key (branches rs1 rs2 place) i each

loads_spelled : (rd rs1 imm key : ℕ) (i : Instr) → fits_signed rd rs1 imm ≡ true → look_up key (loads rd rs1 imm) ≡ Some i → Spells (i_word 0x03 key rd rs1 imm) i
loads_spelled rd rs1 imm key i fits =
    let P : ℕ → Instr → Type 0 = λ k i. Spells (i_word 0x03 k rd rs1 imm) i in
    let each : Each P (loads rd rs1 imm) =
    only (P 0) (Lb rd imm rs1) (record { fits = fits; same_word = refl })
    ⋆ only (P 1) (Lh rd imm rs1) (record { fits = fits; same_word = refl })
    ⋆ only (P 2) (Lw rd imm rs1) (record { fits = fits; same_word = refl })
    ⋆ only (P 4) (Lbu rd imm rs1) (record { fits = fits; same_word = refl })
    ⋆ only (P 5) (Lhu rd imm rs1) (record { fits = fits; same_word = refl })
    ⋆ tt in
    under_key P key (loads rd rs1 imm) i each

stores_spelled : (rs1 rs2 imm key : ℕ) (i : Instr) → fits_signed rs1 rs2 imm ≡ true → look_up key (stores rs1 rs2 imm) ≡ Some i → Spells (s_word 0x23 key rs1 rs2 imm) i
stores_spelled rs1 rs2 imm key i fits =
    let P : ℕ → Instr → Type 0 = λ k i. Spells (s_word 0x23 k rs1 rs2 imm) i in
    let each : Each P (stores rs1 rs2 imm) =
    only (P 0) (Sb rs2 imm rs1) (record { fits = fits; same_word = refl })
    ⋆ only (P 1) (Sh rs2 imm rs1) (record { fits = fits; same_word = refl })
    ⋆ only (P 2) (Sw rs2 imm rs1) (record { fits = fits; same_word = refl })
    ⋆ tt in
    under_key P key (stores rs1 rs2 imm) i each

right_shifts_spelled : (rd rs1 amount key : ℕ) (i : Instr) → are_registers rd rs1 amount ≡ true → look_up key (right_shifts rd rs1 amount) ≡ Some i → Spells (r_word 0x13 5 key rd rs1 amount) i
right_shifts_spelled rd rs1 amount key i fits =
    let P : ℕ → Instr → Type 0 = λ k i. Spells (r_word 0x13 5 k rd rs1 amount) i in
    let each : Each P (right_shifts rd rs1 amount) =
    only (P 0x00) (Srli rd rs1 amount) (record { fits = fits; same_word = refl })
    ⋆ only (P 0x20) (Srai rd rs1 amount) (record { fits = fits; same_word = refl })
    ⋆ tt in
    under_key P key (right_shifts rd rs1 amount) i each

sums_spelled : (rd rs1 rs2 key : ℕ) (i : Instr) → are_registers rd rs1 rs2 ≡ true → look_up key (sums rd rs1 rs2) ≡ Some i → Spells (r_word 0x33 key 0x00 rd rs1 rs2) i
sums_spelled rd rs1 rs2 key i fits =
    let P : ℕ → Instr → Type 0 = λ k i. Spells (r_word 0x33 k 0x00 rd rs1 rs2) i in
    let each : Each P (sums rd rs1 rs2) =
    only (P 0) (Add rd rs1 rs2) (record { fits = fits; same_word = refl })
    ⋆ only (P 1) (Sll rd rs1 rs2) (record { fits = fits; same_word = refl })
    ⋆ only (P 2) (Slt rd rs1 rs2) (record { fits = fits; same_word = refl })
    ⋆ only (P 3) (Sltu rd rs1 rs2) (record { fits = fits; same_word = refl })
    ⋆ only (P 4) (Xor rd rs1 rs2) (record { fits = fits; same_word = refl })
    ⋆ only (P 5) (Srl rd rs1 rs2) (record { fits = fits; same_word = refl })
    ⋆ only (P 6) (Or rd rs1 rs2) (record { fits = fits; same_word = refl })
    ⋆ only (P 7) (And rd rs1 rs2) (record { fits = fits; same_word = refl })
    ⋆ tt in
    under_key P key (sums rd rs1 rs2) i each

differences_spelled : (rd rs1 rs2 key : ℕ) (i : Instr) → are_registers rd rs1 rs2 ≡ true → look_up key (differences rd rs1 rs2) ≡ Some i → Spells (r_word 0x33 key 0x20 rd rs1 rs2) i
differences_spelled rd rs1 rs2 key i fits =
    let P : ℕ → Instr → Type 0 = λ k i. Spells (r_word 0x33 k 0x20 rd rs1 rs2) i in
    let each : Each P (differences rd rs1 rs2) =
    only (P 0) (Sub rd rs1 rs2) (record { fits = fits; same_word = refl })
    ⋆ only (P 5) (Sra rd rs1 rs2) (record { fits = fits; same_word = refl })
    ⋆ tt in
    under_key P key (differences rd rs1 rs2) i each

products_spelled : (rd rs1 rs2 key : ℕ) (i : Instr) → are_registers rd rs1 rs2 ≡ true → look_up key (products rd rs1 rs2) ≡ Some i → Spells (r_word 0x33 key 0x01 rd rs1 rs2) i
products_spelled rd rs1 rs2 key i fits =
    let P : ℕ → Instr → Type 0 = λ k i. Spells (r_word 0x33 k 0x01 rd rs1 rs2) i in
    let each : Each P (products rd rs1 rs2) =
    only (P 0) (Mul rd rs1 rs2) (record { fits = fits; same_word = refl })
    ⋆ only (P 1) (Mulh rd rs1 rs2) (record { fits = fits; same_word = refl })
    ⋆ only (P 2) (Mulhsu rd rs1 rs2) (record { fits = fits; same_word = refl })
    ⋆ only (P 3) (Mulhu rd rs1 rs2) (record { fits = fits; same_word = refl })
    ⋆ only (P 4) (Div rd rs1 rs2) (record { fits = fits; same_word = refl })
    ⋆ only (P 5) (Divu rd rs1 rs2) (record { fits = fits; same_word = refl })
    ⋆ only (P 6) (Rem rd rs1 rs2) (record { fits = fits; same_word = refl })
    ⋆ only (P 7) (Remu rd rs1 rs2) (record { fits = fits; same_word = refl })
    ⋆ tt in
    under_key P key (products rd rs1 rs2) i each

operations_spelled : (funct3 rd rs1 rs2 key : ℕ) (i : Instr) → are_registers rd rs1 rs2 ≡ true → look_up key (operations funct3 rd rs1 rs2) ≡ Some i → Spells (r_word 0x33 funct3 key rd rs1 rs2) i
operations_spelled funct3 rd rs1 rs2 key i fits =
    let P : ℕ → Instr → Type 0 = λ k i. Spells (r_word 0x33 funct3 k rd rs1 rs2) i in
    let each : Each P (operations funct3 rd rs1 rs2) =
    (λ i. sums_spelled rd rs1 rs2 funct3 i fits)
    ⋆ (λ i. differences_spelled rd rs1 rs2 funct3 i fits)
    ⋆ (λ i. products_spelled rd rs1 rs2 funct3 i fits)
    ⋆ tt in
    under_key P key (operations funct3 rd rs1 rs2) i each

warps_spelled : (rs1 rs2 key : ℕ) (i : Instr) → is_register rs1 ≡ true → is_register rs2 ≡ true → look_up key (warps rs1 rs2) ≡ Some i → Spells (r_word 0x0b key 0x00 0 rs1 rs2) i
warps_spelled rs1 rs2 key i first second =
    let P : ℕ → Instr → Type 0 = λ k i. Spells (r_word 0x0b k 0x00 0 rs1 rs2) i in
    let both : (is_register rs1 && is_register rs2) ≡ true = and_from (is_register rs1) (is_register rs2) first second in
    let each : Each P (warps rs1 rs2) =
    only_if (P 0) (nat_eq rs2 0) (Tmc rs1) (λ none. record { fits = first; same_word = λ j. r_word 0x0b 0 0x00 0 rs1 (sym (eqb-true rs2 0 none) j) })
    ⋆ only (P 1) (Wspawn rs1 rs2) (record { fits = both; same_word = refl })
    ⋆ only_if (P 2) (nat_eq rs2 0) (Split rs1) (λ none. record { fits = first; same_word = λ j. r_word 0x0b 2 0x00 0 rs1 (sym (eqb-true rs2 0 none) j) })
    ⋆ only_if (P 3) (nat_eq rs1 0 && nat_eq rs2 0) Join (λ none.
    let parts = and_parts (nat_eq rs1 0) (nat_eq rs2 0) none in
    record { fits = refl; same_word = λ j. r_word 0x0b 3 0x00 0 (sym (eqb-true rs1 0 parts.0) j) (sym (eqb-true rs2 0 parts.1) j) })
    ⋆ only (P 4) (Bar rs1 rs2) (record { fits = both; same_word = refl })
    ⋆ only (P 5) (Pred rs1 rs2) (record { fits = both; same_word = refl })
    ⋆ tt in
    under_key P key (warps rs1 rs2) i each

module _ (w : ℕ) (small : w < 2 ^ 32) where
  -- a word with an opcode and its other fields is the word
  branch_whole : opcode_field w ≡ 0x63 → b_word 0x63 (funct3_field w) (rs1_field w) (rs2_field w) (b_imm w) ≡ w
  branch_whole same = ap (λ o. b_word o (funct3_field w) (rs1_field w) (rs2_field w) (b_imm w)) (sym same) ∙ law.b_whole w small

  store_whole : opcode_field w ≡ 0x23 → s_word 0x23 (funct3_field w) (rs1_field w) (rs2_field w) (s_imm w) ≡ w
  store_whole same = ap (λ o. s_word o (funct3_field w) (rs1_field w) (rs2_field w) (s_imm w)) (sym same) ∙ law.s_whole w small

  upper_whole : (opcode : ℕ) → opcode_field w ≡ opcode → u_word opcode (rd_field w) (u_imm w) ≡ w
  upper_whole opcode same = ap (λ o. u_word o (rd_field w) (u_imm w)) (sym same) ∙ law.u_whole w small

  jump_whole : opcode_field w ≡ 0x6f → j_word 0x6f (rd_field w) (j_imm w) ≡ w
  jump_whole same = ap (λ o. j_word o (rd_field w) (j_imm w)) (sym same) ∙ law.j_whole w small

  signed_whole : (opcode funct3 : ℕ) → opcode_field w ≡ opcode → funct3_field w ≡ funct3 → i_word opcode funct3 (rd_field w) (rs1_field w) (i_imm w) ≡ w
  signed_whole opcode funct3 same same' = (λ j. i_word (sym same j) (sym same' j) (rd_field w) (rs1_field w) (i_imm w)) ∙ law.i_whole w small

  register_whole : (opcode funct3 funct7 : ℕ) → opcode_field w ≡ opcode → funct3_field w ≡ funct3 → funct7_field w ≡ funct7 → r_word opcode funct3 funct7 (rd_field w) (rs1_field w) (rs2_field w) ≡ w
  register_whole opcode funct3 funct7 same same' same'' = (λ j. r_word (sym same j) (sym same' j) (sym same'' j) (rd_field w) (rs1_field w) (rs2_field w)) ∙ law.r_whole w small

  immediates_spelled : opcode_field w ≡ 0x13 → (i : Instr) →
      look_up (funct3_field w) (immediates (funct7_field w) (rd_field w) (rs1_field w) (rs2_field w) (i_imm w)) ≡ Some i → Spells w i
  immediates_spelled opcode i =
      let rd : ℕ = rd_field w in
      let rs1 : ℕ = rs1_field w in
      let amount : ℕ = rs2_field w in
      let imm : ℕ = i_imm w in
      let funct7 : ℕ = funct7_field w in
      let P : ℕ → Instr → Type 0 = λ k i. funct3_field w ≡ k → Spells w i in
      let plain : (k : ℕ) → funct3_field w ≡ k → i_word 0x13 k rd rs1 imm ≡ w = λ k same. signed_whole 0x13 k opcode same in
      let shift : (k kind : ℕ) → funct3_field w ≡ k → funct7 ≡ kind → r_word 0x13 k kind rd rs1 amount ≡ w = λ k kind. register_whole 0x13 k kind opcode in
      let fits : fits_signed rd rs1 imm ≡ true = law.i_fits w in
      let fits' : are_registers rd rs1 amount ≡ true = law.r_fits w in
      let each : Each P (immediates funct7 rd rs1 amount imm) =
      only (P 0) (Addi rd rs1 imm) (λ same. record { fits = fits; same_word = plain 0 same })
      ⋆ only_if (P 1) (nat_eq funct7 0) (Slli rd rs1 amount) (λ kind same. record { fits = fits'; same_word = shift 1 0 same (eqb-true funct7 0 kind) })
      ⋆ only (P 2) (Slti rd rs1 imm) (λ same. record { fits = fits; same_word = plain 2 same })
      ⋆ only (P 3) (Sltiu rd rs1 imm) (λ same. record { fits = fits; same_word = plain 3 same })
      ⋆ only (P 4) (Xori rd rs1 imm) (λ same. record { fits = fits; same_word = plain 4 same })
      ⋆ (λ i found same. subst (λ v. Spells v i) (shift 5 funct7 same refl) (right_shifts_spelled rd rs1 amount funct7 i fits' found))
      ⋆ only (P 6) (Ori rd rs1 imm) (λ same. record { fits = fits; same_word = plain 6 same })
      ⋆ only (P 7) (Andi rd rs1 imm) (λ same. record { fits = fits; same_word = plain 7 same })
      ⋆ tt in
      λ found. under_key P (funct3_field w) (immediates funct7 rd rs1 amount imm) i each found refl

  -- the fields of a fence, of a row without registers, and of a row that reads a control register
  fence_whole : opcode_field w ≡ 0x0f → funct3_field w ≡ 0 → (nat_eq (rd_field w) 0 && nat_eq (rs1_field w) 0 && nat_eq (bits 31 28 w) 0) ≡ true →
      i_word 0x0f 0 0 0 (bits 27 24 w * 2 ^ 4 + bits 23 20 w) ≡ w
  fence_whole opcode funct3 unused = grind arith

  fence_fits : (nat_lt (bits 27 24 w) 16 && nat_lt (bits 23 20 w) 16) ≡ true
  fence_fits = grind arith

  break_whole : opcode_field w ≡ 0x73 → funct3_field w ≡ 0 → (nat_eq (rd_field w) 0 && nat_eq (rs1_field w) 0 && nat_eq (bits 31 20 w) 1) ≡ true →
      i_word 0x73 0 0 0 1 ≡ w
  break_whole opcode funct3 unused = grind arith

  csr_whole : opcode_field w ≡ 0x73 → funct3_field w ≡ 2 → rs1_field w ≡ 0 → i_word 0x73 2 (rd_field w) 0 (bits 31 20 w) ≡ w
  csr_whole opcode funct3 unused = grind arith

  csr_fits : is_csr (bits 31 20 w) ≡ true → (is_register (rd_field w) && is_csr (bits 31 20 w)) ≡ true
  csr_fits known = and_from (is_register (rd_field w)) (is_csr (bits 31 20 w)) (lt-ltb (rd_field w) 32 (omega arith)) known

  fences_spelled : opcode_field w ≡ 0x0f → (i : Instr) →
      look_up (funct3_field w) (fences (rd_field w) (rs1_field w) (bits 31 28 w) (bits 27 24 w) (bits 23 20 w)) ≡ Some i → Spells w i
  fences_spelled opcode i =
      let P : ℕ → Instr → Type 0 = λ k i. funct3_field w ≡ k → Spells w i in
      let each : Each P (fences (rd_field w) (rs1_field w) (bits 31 28 w) (bits 27 24 w) (bits 23 20 w)) =
      only_if (P 0) (nat_eq (rd_field w) 0 && nat_eq (rs1_field w) 0 && nat_eq (bits 31 28 w) 0) (Fence (bits 27 24 w) (bits 23 20 w)) (λ unused same. record { fits = fence_fits; same_word = fence_whole opcode same unused }) ⋆ tt in
      λ found. under_key P (funct3_field w) (fences (rd_field w) (rs1_field w) (bits 31 28 w) (bits 27 24 w) (bits 23 20 w)) i each found refl

  systems_spelled : opcode_field w ≡ 0x73 → (i : Instr) → look_up (funct3_field w) (systems (rd_field w) (rs1_field w) (bits 31 20 w)) ≡ Some i → Spells w i
  systems_spelled opcode i =
      let P : ℕ → Instr → Type 0 = λ k i. funct3_field w ≡ k → Spells w i in
      let each : Each P (systems (rd_field w) (rs1_field w) (bits 31 20 w)) =
      only_if (P 0) (nat_eq (rd_field w) 0 && nat_eq (rs1_field w) 0 && nat_eq (bits 31 20 w) 1) Ebreak (λ unused same. record { fits = refl; same_word = break_whole opcode same unused })
      ⋆ only_if (P 2) (nat_eq (rs1_field w) 0 && is_csr (bits 31 20 w)) (Csrr (rd_field w) (bits 31 20 w)) (λ known same.
      let parts = and_parts (nat_eq (rs1_field w) 0) (is_csr (bits 31 20 w)) known in
      record { fits = csr_fits parts.1; same_word = csr_whole opcode same (eqb-true (rs1_field w) 0 parts.0) })
      ⋆ tt in
      λ found. under_key P (funct3_field w) (systems (rd_field w) (rs1_field w) (bits 31 20 w)) i each found refl

  warp_spelled : opcode_field w ≡ 0x0b → (i : Instr) →
      (if nat_eq (funct7_field w) 0 && nat_eq (rd_field w) 0 then look_up (funct3_field w) (warps (rs1_field w) (rs2_field w)) else None) ≡ Some i → Spells w i
  warp_spelled opcode i found =
      let key : ℕ = funct3_field w in
      let rs1 : ℕ = rs1_field w in
      let rs2 : ℕ = rs2_field w in
      let test : Bool = nat_eq (funct7_field w) 0 && nat_eq (rd_field w) 0 in
      elim (cases_Bool test) [
        | inl unused ↦
            let parts = and_parts (nat_eq (funct7_field w) 0) (nat_eq (rd_field w) 0) unused in
            let row : look_up key (warps rs1 rs2) ≡ Some i = sym (cond-true test (look_up key (warps rs1 rs2)) None unused) ∙ found in
            let zero_rd : r_word 0x0b key 0x00 0 rs1 rs2 ≡ r_word 0x0b key 0x00 (rd_field w) rs1 rs2 = λ j. r_word 0x0b key 0x00 (sym (eqb-true (rd_field w) 0 parts.1) j) rs1 rs2 in
            let whole : r_word 0x0b key 0x00 0 rs1 rs2 ≡ w = zero_rd ∙ register_whole 0x0b key 0x00 opcode refl (eqb-true (funct7_field w) 0 parts.0) in
            subst (λ v. Spells v i) whole (warps_spelled rs1 rs2 key i (lt-ltb rs1 32 (omega arith)) (lt-ltb rs2 32 (omega arith)) row)
        | inr other ↦ absurd (none-some i (sym (cond-false test (look_up key (warps rs1 rs2)) None other) ∙ found))
      ]

  rows_spelled : (i : Instr) → look_up (opcode_field w) (rows w) ≡ Some i → Spells w i
  rows_spelled i =
      let P : ℕ → Instr → Type 0 = λ k i. opcode_field w ≡ k → Spells w i in
      let each : Each P (rows w) =
      only (P 0x37) (Lui (rd_field w) (u_imm w)) (λ same. record { fits = law.u_fits w; same_word = upper_whole 0x37 same })
      ⋆ only (P 0x17) (Auipc (rd_field w) (u_imm w)) (λ same. record { fits = law.u_fits w; same_word = upper_whole 0x17 same })
      ⋆ only (P 0x6f) (Jal (rd_field w) (j_imm w)) (λ same. record { fits = law.j_fits w; same_word = jump_whole same })
      ⋆ only_if (P 0x67) (nat_eq (funct3_field w) 0) (Jalr (rd_field w) (i_imm w) (rs1_field w)) (λ zero same. record { fits = law.i_fits w; same_word = signed_whole 0x67 0 same (eqb-true (funct3_field w) 0 zero) })
      ⋆ (λ i found same. subst (λ v. Spells v i) (branch_whole same) (branches_spelled (rs1_field w) (rs2_field w) (b_imm w) (funct3_field w) i (law.b_fits w) found))
      ⋆ (λ i found same. subst (λ v. Spells v i) (signed_whole 0x03 (funct3_field w) same refl) (loads_spelled (rd_field w) (rs1_field w) (i_imm w) (funct3_field w) i (law.i_fits w) found))
      ⋆ (λ i found same. subst (λ v. Spells v i) (store_whole same) (stores_spelled (rs1_field w) (rs2_field w) (s_imm w) (funct3_field w) i (law.s_fits w) found))
      ⋆ (λ i found same. immediates_spelled same i found)
      ⋆ (λ i found same. subst (λ v. Spells v i) (register_whole 0x33 (funct3_field w) (funct7_field w) same refl refl) (operations_spelled (funct3_field w) (rd_field w) (rs1_field w) (rs2_field w) (funct7_field w) i (law.r_fits w) found))
      ⋆ (λ i found same. fences_spelled same i found)
      ⋆ (λ i found same. systems_spelled same i found)
      ⋆ (λ i found same. warp_spelled same i found)
      ⋆ tt in
      λ found. under_key P (opcode_field w) (rows w) i each found refl

-- the row of a word is spelled by it
pub row_is_spelled : (w : ℕ) (i : Instr) → row_of w ≡ Some i → Spells w i
row_is_spelled w i found =
    elim (cases_Bool (nat_lt w (2 ^ 32))) [
      | inl word ↦ rows_spelled w (ltb-true w (2 ^ 32) word) i (sym (cond-true (nat_lt w (2 ^ 32)) (look_up (opcode_field w) (rows w)) None word) ∙ found)
      | inr past ↦ absurd (none-some i (sym (cond-false (nat_lt w (2 ^ 32)) (look_up (opcode_field w) (rows w)) None past) ∙ found))
    ]

-- ---- the row that a word spells is the one that is looked up
row_at : (w opcode : ℕ) → w < 2 ^ 32 → opcode_field w ≡ opcode → row_of w ≡ look_up opcode (rows w)
row_at w opcode small same =
    cond-true (nat_lt w (2 ^ 32)) (look_up (opcode_field w) (rows w)) None (lt-ltb w (2 ^ 32) small) ∙ ap (λ o. look_up o (rows w)) same

branches_read : (key rs1 rs2 place : ℕ) → key < 8 → fits_branch rs1 rs2 place ≡ true →
    row_of (b_word 0x63 key rs1 rs2 place) ≡ look_up key (branches rs1 rs2 place)
branches_read key rs1 rs2 place small fits =
    let w : ℕ = b_word 0x63 key rs1 rs2 place in
    let a : funct3_field w ≡ key = law.b_funct3 0x63 key rs1 rs2 place (omega arith) small fits in
    let b : rs1_field w ≡ rs1 = law.b_rs1 0x63 key rs1 rs2 place (omega arith) small fits in
    let c : rs2_field w ≡ rs2 = law.b_rs2 0x63 key rs1 rs2 place (omega arith) small fits in
    let d : b_imm w ≡ place = law.b_imm_back 0x63 key rs1 rs2 place (omega arith) small fits in
    row_at w 0x63 (law.b_small 0x63 key rs1 rs2 place (omega arith) small fits) (law.b_opcode 0x63 key rs1 rs2 place (omega arith) small fits)
    ∙ (λ j. look_up (a j) (branches (b j) (c j) (d j)))

stores_read : (key rs1 rs2 imm : ℕ) → key < 8 → fits_signed rs1 rs2 imm ≡ true →
    row_of (s_word 0x23 key rs1 rs2 imm) ≡ look_up key (stores rs1 rs2 imm)
stores_read key rs1 rs2 imm small fits =
    let w : ℕ = s_word 0x23 key rs1 rs2 imm in
    let a : funct3_field w ≡ key = law.s_funct3 0x23 key rs1 rs2 imm (omega arith) small fits in
    let b : rs1_field w ≡ rs1 = law.s_rs1 0x23 key rs1 rs2 imm (omega arith) small fits in
    let c : rs2_field w ≡ rs2 = law.s_rs2 0x23 key rs1 rs2 imm (omega arith) small fits in
    let d : s_imm w ≡ imm = law.s_imm_back 0x23 key rs1 rs2 imm (omega arith) small fits in
    row_at w 0x23 (law.s_small 0x23 key rs1 rs2 imm (omega arith) small fits) (law.s_opcode 0x23 key rs1 rs2 imm (omega arith) small fits)
    ∙ (λ j. look_up (a j) (stores (b j) (c j) (d j)))

-- a word of the I format, where the rows of its opcode are found by these fields
signed_read : (opcode key rd rs1 imm : ℕ) (found : ℕ → ℕ → ℕ → ℕ → Option Instr) → opcode < 128 → key < 8 → fits_signed rd rs1 imm ≡ true →
    (let w : ℕ = i_word opcode key rd rs1 imm in look_up opcode (rows w) ≡ found (funct3_field w) (rd_field w) (rs1_field w) (i_imm w)) →
    row_of (i_word opcode key rd rs1 imm) ≡ found key rd rs1 imm
signed_read opcode key rd rs1 imm found small small' fits rest =
    let w : ℕ = i_word opcode key rd rs1 imm in
    let a : funct3_field w ≡ key = law.i_funct3 opcode key rd rs1 imm small small' fits in
    let b : rd_field w ≡ rd = law.i_rd opcode key rd rs1 imm small small' fits in
    let c : rs1_field w ≡ rs1 = law.i_rs1 opcode key rd rs1 imm small small' fits in
    let d : i_imm w ≡ imm = law.i_imm_back opcode key rd rs1 imm small small' fits in
    row_at w opcode (law.i_small opcode key rd rs1 imm small small' fits) (law.i_opcode opcode key rd rs1 imm small small' fits)
    ∙ rest ∙ (λ j. found (a j) (b j) (c j) (d j))

loads_read : (key rd rs1 imm : ℕ) → key < 8 → fits_signed rd rs1 imm ≡ true → row_of (i_word 0x03 key rd rs1 imm) ≡ look_up key (loads rd rs1 imm)
loads_read key rd rs1 imm small fits =
    signed_read 0x03 key rd rs1 imm (λ k a b c. look_up k (loads a b c)) (omega arith) small fits refl

jalr_read : (rd rs1 imm : ℕ) → fits_signed rd rs1 imm ≡ true → row_of (i_word 0x67 0 rd rs1 imm) ≡ Some (Jalr rd imm rs1)
jalr_read rd rs1 imm fits =
    signed_read 0x67 0 rd rs1 imm (λ k a b c. row_if (nat_eq k 0) (Jalr a c b)) (omega arith) (omega arith) fits refl

-- with these in place of the function field and the amount
immediates_read : (key rd rs1 imm : ℕ) → key < 8 → fits_signed rd rs1 imm ≡ true →
    row_of (i_word 0x13 key rd rs1 imm)
    ≡ look_up key (immediates (funct7_field (i_word 0x13 key rd rs1 imm)) rd rs1 (rs2_field (i_word 0x13 key rd rs1 imm)) imm)
immediates_read key rd rs1 imm small fits =
    let w : ℕ = i_word 0x13 key rd rs1 imm in
    signed_read 0x13 key rd rs1 imm (λ k a b c. look_up k (immediates (funct7_field w) a b (rs2_field w) c)) (omega arith) small fits refl

-- a word of the R format, where the rows of its opcode are found by these fields
registers_read : (opcode key funct7 rd rs1 rs2 : ℕ) (found : ℕ → ℕ → ℕ → ℕ → ℕ → Option Instr) → opcode < 128 → key < 8 → funct7 < 128 →
    are_registers rd rs1 rs2 ≡ true →
    (let w : ℕ = r_word opcode key funct7 rd rs1 rs2 in look_up opcode (rows w) ≡ found (funct3_field w) (funct7_field w) (rd_field w) (rs1_field w) (rs2_field w)) →
    row_of (r_word opcode key funct7 rd rs1 rs2) ≡ found key funct7 rd rs1 rs2
registers_read opcode key funct7 rd rs1 rs2 found small small' small'' fits rest =
    let w : ℕ = r_word opcode key funct7 rd rs1 rs2 in
    let last = and_parts (is_register rd && is_register rs1) (is_register rs2) fits in
    let first = and_parts (is_register rd) (is_register rs1) last.0 in
    let p : rd < 32 = ltb-true rd 32 first.0 in
    let q : rs1 < 32 = ltb-true rs1 32 first.1 in
    let r : rs2 < 32 = ltb-true rs2 32 last.1 in
    let a : funct3_field w ≡ key = law.r_funct3 opcode rd key rs1 rs2 funct7 small p small' q r small'' in
    let b : funct7_field w ≡ funct7 = law.r_funct7 opcode rd key rs1 rs2 funct7 small p small' q r small'' in
    let c : rd_field w ≡ rd = law.r_rd opcode rd key rs1 rs2 funct7 small p small' q r small'' in
    let d : rs1_field w ≡ rs1 = law.r_rs1 opcode rd key rs1 rs2 funct7 small p small' q r small'' in
    let e : rs2_field w ≡ rs2 = law.r_rs2 opcode rd key rs1 rs2 funct7 small p small' q r small'' in
    row_at w opcode (law.r_small opcode rd key rs1 rs2 funct7 small p small' q r small'') (law.r_opcode opcode rd key rs1 rs2 funct7 small p small' q r small'')
    ∙ rest ∙ (λ j. found (a j) (b j) (c j) (d j) (e j))

operations_read : (key funct7 rd rs1 rs2 : ℕ) → key < 8 → funct7 < 128 → are_registers rd rs1 rs2 ≡ true →
    row_of (r_word 0x33 key funct7 rd rs1 rs2) ≡ look_up funct7 (operations key rd rs1 rs2)
operations_read key funct7 rd rs1 rs2 small small' fits =
    registers_read 0x33 key funct7 rd rs1 rs2 (λ k f a b c. look_up f (operations k a b c)) (omega arith) small small' fits refl

shifts_read : (key funct7 rd rs1 amount : ℕ) → key < 8 → funct7 < 128 → are_registers rd rs1 amount ≡ true →
    row_of (r_word 0x13 key funct7 rd rs1 amount) ≡ look_up key (immediates funct7 rd rs1 amount (i_imm (r_word 0x13 key funct7 rd rs1 amount)))
shifts_read key funct7 rd rs1 amount small small' fits =
    let w : ℕ = r_word 0x13 key funct7 rd rs1 amount in
    registers_read 0x13 key funct7 rd rs1 amount (λ k f a b c. look_up k (immediates f a b c (i_imm w))) (omega arith) small small' fits refl

warps_read : (key rs1 rs2 : ℕ) → key < 8 → is_register rs1 ≡ true → is_register rs2 ≡ true →
    row_of (r_word 0x0b key 0x00 0 rs1 rs2) ≡ look_up key (warps rs1 rs2)
warps_read key rs1 rs2 small first second =
    registers_read 0x0b key 0 0 rs1 rs2 (λ k f a b c. if nat_eq f 0 && nat_eq a 0 then look_up k (warps b c) else None) (omega arith) small (omega arith)
    (and_from (is_register rs1) (is_register rs2) first second) refl

upper_read : (opcode rd imm : ℕ) (row : ℕ → ℕ → Instr) → opcode < 128 → fits_upper rd imm ≡ true →
    (let w : ℕ = u_word opcode rd imm in look_up opcode (rows w) ≡ Some (row (rd_field w) (u_imm w))) →
    row_of (u_word opcode rd imm) ≡ Some (row rd imm)
upper_read opcode rd imm row small fits rest =
    let w : ℕ = u_word opcode rd imm in
    let a : rd_field w ≡ rd = law.u_rd opcode rd imm small fits in
    let b : u_imm w ≡ imm = law.u_imm_back opcode rd imm small fits in
    row_at w opcode (law.u_small opcode rd imm small fits) (law.u_opcode opcode rd imm small fits) ∙ rest ∙ (λ j. Some (row (a j) (b j)))

jump_read : (rd place : ℕ) → (is_register rd && is_place 21 place) ≡ true → row_of (j_word 0x6f rd place) ≡ Some (Jal rd place)
jump_read rd place fits =
    let w : ℕ = j_word 0x6f rd place in
    let a : rd_field w ≡ rd = law.j_rd 0x6f rd place (omega arith) fits in
    let b : j_imm w ≡ place = law.j_imm_back 0x6f rd place (omega arith) fits in
    row_at w 0x6f (law.j_small 0x6f rd place (omega arith) fits) (law.j_opcode 0x6f rd place (omega arith) fits) ∙ (λ j. Some (Jal (a j) (b j)))

fence_read : (before after : ℕ) → before < 16 → after < 16 → row_of (i_word 0x0f 0 0 0 (before * 2 ^ 4 + after)) ≡ Some (Fence before after)
fence_read before after small small' =
    let w : ℕ = i_word 0x0f 0 0 0 (before * 2 ^ 4 + after) in
    let opcode : opcode_field w ≡ 0x0f = omega arith in
    let a : funct3_field w ≡ 0 = omega arith in
    let b : rd_field w ≡ 0 = omega arith in
    let c : rs1_field w ≡ 0 = omega arith in
    let d : bits 31 28 w ≡ 0 = omega arith in
    let e : bits 27 24 w ≡ before = omega arith in
    let f : bits 23 20 w ≡ after = omega arith in
    row_at w 0x0f (omega arith) opcode ∙ (λ j. look_up (a j) (fences (b j) (c j) (d j) (e j) (f j)))

csr_read : (rd csr : ℕ) → rd < 32 → csr < 2 ^ 12 → is_csr csr ≡ true → row_of (i_word 0x73 2 rd 0 csr) ≡ Some (Csrr rd csr)
csr_read rd csr small small' known =
    let w : ℕ = i_word 0x73 2 rd 0 csr in
    let opcode : opcode_field w ≡ 0x73 = omega arith in
    let a : funct3_field w ≡ 2 = omega arith in
    let b : rd_field w ≡ rd = omega arith in
    let c : rs1_field w ≡ 0 = omega arith in
    let d : bits 31 20 w ≡ csr = omega arith in
    row_at w 0x73 (omega arith) opcode ∙ (λ j. look_up (a j) (systems (b j) (c j) (d j))) ∙ cond-true (is_csr csr) (Some (Csrr rd csr)) None known

csr_small : (csr : ℕ) → is_csr csr ≡ true → csr < 2 ^ 12
csr_small csr known = grind arith

-- the word of an instruction is looked up as the instruction
pub row_of_word_of : (i : Instr) → fits_of i ≡ true → row_of (word_of i) ≡ Some i
row_of_word_of (Lui rd imm) fits = upper_read 0x37 rd imm Lui (omega arith) fits refl
row_of_word_of (Auipc rd imm) fits = upper_read 0x17 rd imm Auipc (omega arith) fits refl
row_of_word_of (Jal rd place) fits = jump_read rd place fits
row_of_word_of (Jalr rd imm rs1) fits = jalr_read rd rs1 imm fits
row_of_word_of (Beq rs1 rs2 place) fits = branches_read 0 rs1 rs2 place (omega arith) fits
row_of_word_of (Bne rs1 rs2 place) fits = branches_read 1 rs1 rs2 place (omega arith) fits
row_of_word_of (Blt rs1 rs2 place) fits = branches_read 4 rs1 rs2 place (omega arith) fits
row_of_word_of (Bge rs1 rs2 place) fits = branches_read 5 rs1 rs2 place (omega arith) fits
row_of_word_of (Bltu rs1 rs2 place) fits = branches_read 6 rs1 rs2 place (omega arith) fits
row_of_word_of (Bgeu rs1 rs2 place) fits = branches_read 7 rs1 rs2 place (omega arith) fits
row_of_word_of (Lb rd imm rs1) fits = loads_read 0 rd rs1 imm (omega arith) fits
row_of_word_of (Lh rd imm rs1) fits = loads_read 1 rd rs1 imm (omega arith) fits
row_of_word_of (Lw rd imm rs1) fits = loads_read 2 rd rs1 imm (omega arith) fits
row_of_word_of (Lbu rd imm rs1) fits = loads_read 4 rd rs1 imm (omega arith) fits
row_of_word_of (Lhu rd imm rs1) fits = loads_read 5 rd rs1 imm (omega arith) fits
row_of_word_of (Sb rs2 imm rs1) fits = stores_read 0 rs1 rs2 imm (omega arith) fits
row_of_word_of (Sh rs2 imm rs1) fits = stores_read 1 rs1 rs2 imm (omega arith) fits
row_of_word_of (Sw rs2 imm rs1) fits = stores_read 2 rs1 rs2 imm (omega arith) fits
row_of_word_of (Addi rd rs1 imm) fits = immediates_read 0 rd rs1 imm (omega arith) fits
row_of_word_of (Slti rd rs1 imm) fits = immediates_read 2 rd rs1 imm (omega arith) fits
row_of_word_of (Sltiu rd rs1 imm) fits = immediates_read 3 rd rs1 imm (omega arith) fits
row_of_word_of (Xori rd rs1 imm) fits = immediates_read 4 rd rs1 imm (omega arith) fits
row_of_word_of (Ori rd rs1 imm) fits = immediates_read 6 rd rs1 imm (omega arith) fits
row_of_word_of (Andi rd rs1 imm) fits = immediates_read 7 rd rs1 imm (omega arith) fits
row_of_word_of (Slli rd rs1 amount) fits = shifts_read 1 0x00 rd rs1 amount (omega arith) (omega arith) fits
row_of_word_of (Srli rd rs1 amount) fits = shifts_read 5 0x00 rd rs1 amount (omega arith) (omega arith) fits
row_of_word_of (Srai rd rs1 amount) fits = shifts_read 5 0x20 rd rs1 amount (omega arith) (omega arith) fits
row_of_word_of (Add rd rs1 rs2) fits = operations_read 0 0x00 rd rs1 rs2 (omega arith) (omega arith) fits
row_of_word_of (Sll rd rs1 rs2) fits = operations_read 1 0x00 rd rs1 rs2 (omega arith) (omega arith) fits
row_of_word_of (Slt rd rs1 rs2) fits = operations_read 2 0x00 rd rs1 rs2 (omega arith) (omega arith) fits
row_of_word_of (Sltu rd rs1 rs2) fits = operations_read 3 0x00 rd rs1 rs2 (omega arith) (omega arith) fits
row_of_word_of (Xor rd rs1 rs2) fits = operations_read 4 0x00 rd rs1 rs2 (omega arith) (omega arith) fits
row_of_word_of (Srl rd rs1 rs2) fits = operations_read 5 0x00 rd rs1 rs2 (omega arith) (omega arith) fits
row_of_word_of (Or rd rs1 rs2) fits = operations_read 6 0x00 rd rs1 rs2 (omega arith) (omega arith) fits
row_of_word_of (And rd rs1 rs2) fits = operations_read 7 0x00 rd rs1 rs2 (omega arith) (omega arith) fits
row_of_word_of (Sub rd rs1 rs2) fits = operations_read 0 0x20 rd rs1 rs2 (omega arith) (omega arith) fits
row_of_word_of (Sra rd rs1 rs2) fits = operations_read 5 0x20 rd rs1 rs2 (omega arith) (omega arith) fits
row_of_word_of (Mul rd rs1 rs2) fits = operations_read 0 0x01 rd rs1 rs2 (omega arith) (omega arith) fits
row_of_word_of (Mulh rd rs1 rs2) fits = operations_read 1 0x01 rd rs1 rs2 (omega arith) (omega arith) fits
row_of_word_of (Mulhsu rd rs1 rs2) fits = operations_read 2 0x01 rd rs1 rs2 (omega arith) (omega arith) fits
row_of_word_of (Mulhu rd rs1 rs2) fits = operations_read 3 0x01 rd rs1 rs2 (omega arith) (omega arith) fits
row_of_word_of (Div rd rs1 rs2) fits = operations_read 4 0x01 rd rs1 rs2 (omega arith) (omega arith) fits
row_of_word_of (Divu rd rs1 rs2) fits = operations_read 5 0x01 rd rs1 rs2 (omega arith) (omega arith) fits
row_of_word_of (Rem rd rs1 rs2) fits = operations_read 6 0x01 rd rs1 rs2 (omega arith) (omega arith) fits
row_of_word_of (Remu rd rs1 rs2) fits = operations_read 7 0x01 rd rs1 rs2 (omega arith) (omega arith) fits
row_of_word_of (Fence before after) fits = let parts = and_parts (nat_lt before 16) (nat_lt after 16) fits in fence_read before after (ltb-true before 16 parts.0) (ltb-true after 16 parts.1)
row_of_word_of Ebreak fits = refl
row_of_word_of (Csrr rd csr) fits = let parts = and_parts (is_register rd) (is_csr csr) fits in csr_read rd csr (ltb-true rd 32 parts.0) (csr_small csr parts.1) parts.1
row_of_word_of (Tmc rs1) fits = warps_read 0 rs1 0 (omega arith) fits refl
row_of_word_of (Split rs1) fits = warps_read 2 rs1 0 (omega arith) fits refl
row_of_word_of (Wspawn rs1 rs2) fits = let parts = and_parts (is_register rs1) (is_register rs2) fits in warps_read 1 rs1 rs2 (omega arith) parts.0 parts.1
row_of_word_of (Bar rs1 rs2) fits = let parts = and_parts (is_register rs1) (is_register rs2) fits in warps_read 4 rs1 rs2 (omega arith) parts.0 parts.1
row_of_word_of (Pred rs1 rs2) fits = let parts = and_parts (is_register rs1) (is_register rs2) fits in warps_read 5 rs1 rs2 (omega arith) parts.0 parts.1
row_of_word_of Join fits = warps_read 3 0 0 (omega arith) refl refl

pub spelled_is_row : (w : ℕ) (i : Instr) → Spells w i → row_of w ≡ Some i
spelled_is_row w i spelled = ap row_of (sym spelled.same_word) ∙ row_of_word_of i spelled.fits

-- a word spells one row at most
pub spells_one : (w : ℕ) (i j : Instr) → Spells w i → Spells w j → i ≡ j
spells_one w i j first second = same_Some i j (sym (spelled_is_row w i first) ∙ spelled_is_row w j second)

-- no row spells a word that is not found
pub no_row_spells : (w : ℕ) → row_of w ≡ None → (i : Instr) → ¬ Spells w i
no_row_spells w none i spelled = none-some i (sym none ∙ spelled_is_row w i spelled)

-- what spells an instruction is a word
pub spelled_is_word : (w : ℕ) (i : Instr) → Spells w i → w < 2 ^ 32
spelled_is_word w i spelled =
    elim (cases_Bool (nat_lt w (2 ^ 32))) [
      | inl word ↦ ltb-true w (2 ^ 32) word
      | inr past ↦ absurd (none-some i (sym (cond-false (nat_lt w (2 ^ 32)) (look_up (opcode_field w) (rows w)) None past) ∙ spelled_is_row w i spelled))
    ]
