-- The operands of a statement that is read, without a label and with numbers that fit, fit its instruction.
use Rattle.std.proofs.Common.{◌≡◌, ℕ, ◌-◌, ◌%◌, ◌^◌, ◌<◌, Bool, true, false, List, [], ◌∷◌, length, drop, refl, sym, ap, ◌∙◌, arith, true≢false}
use Rattle.std.specs.Prelude.{Option, Some, None, Ok, Err, ◌==◌, nat_lt, nat_le, not, ◌&&◌, slice_index, is_some, if◌then◌else◌}
use Rattle.std.proofs.lemmas.Bool.Decides.{nat_tests}
use Rattle.std.specs.List.{prefix_len}
use Rattle.vx_isa.specs.Words.{is_register, is_signed, is_place, is_csr, are_registers, fits_signed, fits_branch, fits_upper}
use Rattle.asm_text.specs.declared.mnemonics.Mnemonic.{Mnemonic}
use Rattle.asm_text.specs.declared.mnemonics.Mnemonic.TheVariants as row
use Rattle.asm_text.specs.declared.mnemonics.Form.TheVariants as form
use Rattle.asm_text.specs.declared.mnemonics.Field.{Field}
use Rattle.asm_text.specs.declared.mnemonics.Field.TheVariants as field
use Rattle.asm_text.specs.declared.mnemonics.Part.{Part}
use Rattle.asm_text.specs.declared.mnemonics.Part.TheVariants.{Register, Number, Place, Comma, Open, Close}
use Rattle.asm_text.specs.declared.mnemonics.Operands.{Operands}
use Rattle.asm_text.specs.declared.statements.Number.{Number as Written}
use Rattle.asm_text.specs.declared.statements.Statement.{Statement}
use Rattle.asm_text.specs.Mnemonics.{form_of, parts_of, instr_of, three, with_operand}
use Rattle.asm_text.specs.AsmLines.{Read, ◌>>=◌, past_blanks, is_decimal, is_two_digits, two_digits, register_number_at, register_at, number_at, fits_field, word_of_number, first_of_both, begins_name, is_in_name, mark_at, with_word, with_number, with_target, field_at, part_at, parts_at}
use Rattle.asm_text.specs.AsmTexts.{fits_some}

by_test : {P : Type 0} (t : Bool) → (t ≡ true → P) → (t ≡ false → P) → P
by_test true if_true if_false = if_true refl
by_test false if_true if_false = if_false refl

-- the words of a field
abbrev pub in_field : Field → ℕ → Bool
in_field field.Immediate word = is_signed 12 word
in_field field.Amount word = is_register word
in_field field.Upper word = nat_lt word (2 ^ 20)
in_field field.FenceSet word = nat_lt word 16
in_field field.Csr word = is_csr word
in_field field.Word word = nat_lt word (2 ^ 32)
in_field field.Branch word = is_place 13 word
in_field field.Jump word = is_place 21 word

-- operands after some parts, each of which has a word in its range
abbrev pub Takes : List Part → Operands → Operands → Type 0
Takes [] before after = after ≡ before
Takes (Register ∷ parts) before after = (word : ℕ) × (is_register word ≡ true) × Takes parts (with_operand before word) after
Takes (Number f ∷ parts) before after = (word : ℕ) × (in_field f word ≡ true) × Takes parts (with_operand before word) after
Takes (Place f ∷ parts) before after = (word : ℕ) × (in_field f word ≡ true) × Takes parts (with_operand before word) after
Takes (Comma ∷ parts) before after = Takes parts before after
Takes (Open ∷ parts) before after = Takes parts before after
Takes (Close ∷ parts) before after = Takes parts before after

-- ---- the operands that the parts of each form leave

both : {a b : Bool} → a ≡ true → b ≡ true → a && b ≡ true
both {a = true} p q = q
both {a = false} p q = p

three_fit : (o : Operands) → Takes (parts_of form.ThreeRegisters) (three 0 0 0) o → are_registers o.first o.second o.third ≡ true
three_fit o (a, p, (b, q, (c, r, e))) = rw e (both (both p q) r)

immediate_fit : (o : Operands) → Takes (parts_of form.Immediate) (three 0 0 0) o → fits_signed o.first o.second o.third ≡ true
immediate_fit o (a, p, (b, q, (c, r, e))) = rw e (both (both p q) r)

shift_fit : (o : Operands) → Takes (parts_of form.Shift) (three 0 0 0) o → are_registers o.first o.second o.third ≡ true
shift_fit o (a, p, (b, q, (c, r, e))) = rw e (both (both p q) r)

memory_fit : (o : Operands) → Takes (parts_of form.Memory) (three 0 0 0) o → fits_signed o.first o.third o.second ≡ true
memory_fit o (a, p, (b, q, (c, r, e))) = rw e (both (both p r) q)

store_fit : (o : Operands) → Takes (parts_of form.Memory) (three 0 0 0) o → fits_signed o.third o.first o.second ≡ true
store_fit o (a, p, (b, q, (c, r, e))) = rw e (both (both r p) q)

branch_fit : (o : Operands) → Takes (parts_of form.Branch) (three 0 0 0) o → fits_branch o.first o.second o.third ≡ true
branch_fit o (a, p, (b, q, (c, r, e))) = rw e (both (both p q) r)

upper_fit : (o : Operands) → Takes (parts_of form.Upper) (three 0 0 0) o → fits_upper o.second o.third ≡ true
upper_fit o (a, p, (b, q, e)) = rw e (both p q)

jump_fit : (o : Operands) → Takes (parts_of form.Jump) (three 0 0 0) o → is_register o.second && is_place 21 o.third ≡ true
jump_fit o (a, p, (b, q, e)) = rw e (both p q)

fence_fit : (o : Operands) → Takes (parts_of form.Fence) (three 0 0 0) o → nat_lt o.second 16 && nat_lt o.third 16 ≡ true
fence_fit o (a, p, (b, q, e)) = rw e (both p q)

csr_fit : (o : Operands) → Takes (parts_of form.Csr) (three 0 0 0) o → is_register o.second && is_csr o.third ≡ true
csr_fit o (a, p, (b, q, e)) = rw e (both p q)

one_fit : (o : Operands) → Takes (parts_of form.OneRegister) (three 0 0 0) o → is_register o.third ≡ true
one_fit o (a, p, e) = rw e p

two_fit : (o : Operands) → Takes (parts_of form.TwoRegisters) (three 0 0 0) o → is_register o.second && is_register o.third ≡ true
two_fit o (a, p, (b, q, e)) = rw e (both p q)

pub taken_fit : (m : Mnemonic) (o : Operands) → Takes (parts_of (form_of m)) (three 0 0 0) o → fits_some (instr_of m o) ≡ true
taken_fit row.Lui o takes = upper_fit o takes
taken_fit row.Auipc o takes = upper_fit o takes
taken_fit row.Jal o takes = jump_fit o takes
taken_fit row.Jalr o takes = memory_fit o takes
taken_fit row.Beq o takes = branch_fit o takes
taken_fit row.Bne o takes = branch_fit o takes
taken_fit row.Blt o takes = branch_fit o takes
taken_fit row.Bge o takes = branch_fit o takes
taken_fit row.Bltu o takes = branch_fit o takes
taken_fit row.Bgeu o takes = branch_fit o takes
taken_fit row.Lb o takes = memory_fit o takes
taken_fit row.Lh o takes = memory_fit o takes
taken_fit row.Lw o takes = memory_fit o takes
taken_fit row.Lbu o takes = memory_fit o takes
taken_fit row.Lhu o takes = memory_fit o takes
taken_fit row.Sb o takes = store_fit o takes
taken_fit row.Sh o takes = store_fit o takes
taken_fit row.Sw o takes = store_fit o takes
taken_fit row.Addi o takes = immediate_fit o takes
taken_fit row.Slti o takes = immediate_fit o takes
taken_fit row.Sltiu o takes = immediate_fit o takes
taken_fit row.Xori o takes = immediate_fit o takes
taken_fit row.Ori o takes = immediate_fit o takes
taken_fit row.Andi o takes = immediate_fit o takes
taken_fit row.Slli o takes = shift_fit o takes
taken_fit row.Srli o takes = shift_fit o takes
taken_fit row.Srai o takes = shift_fit o takes
taken_fit row.Add o takes = three_fit o takes
taken_fit row.Sub o takes = three_fit o takes
taken_fit row.Sll o takes = three_fit o takes
taken_fit row.Slt o takes = three_fit o takes
taken_fit row.Sltu o takes = three_fit o takes
taken_fit row.Xor o takes = three_fit o takes
taken_fit row.Srl o takes = three_fit o takes
taken_fit row.Sra o takes = three_fit o takes
taken_fit row.Or o takes = three_fit o takes
taken_fit row.And o takes = three_fit o takes
taken_fit row.Mul o takes = three_fit o takes
taken_fit row.Mulh o takes = three_fit o takes
taken_fit row.Mulhsu o takes = three_fit o takes
taken_fit row.Mulhu o takes = three_fit o takes
taken_fit row.Div o takes = three_fit o takes
taken_fit row.Divu o takes = three_fit o takes
taken_fit row.Rem o takes = three_fit o takes
taken_fit row.Remu o takes = three_fit o takes
taken_fit row.Fence o takes = fence_fit o takes
taken_fit row.Ebreak o takes = refl
taken_fit row.Csrr o takes = csr_fit o takes
taken_fit row.Tmc o takes = one_fit o takes
taken_fit row.Wspawn o takes = two_fit o takes
taken_fit row.Split o takes = one_fit o takes
taken_fit row.Join o takes = refl
taken_fit row.Bar o takes = two_fit o takes
taken_fit row.Pred o takes = two_fit o takes
taken_fit row.Word o takes = refl

-- ---- what reading leaves

pub either : {P : Type 0} (t : Bool) (x y : P) → (Q : P → Type 0) → (t ≡ true → Q x) → (t ≡ false → Q y) → Q (if t then x else y)
either true x y Q if_true if_false = if_true refl
either false x y Q if_true if_false = if_false refl

signed_12 : (minus : Bool) (size : ℕ) → (if minus then nat_le size 2048 else nat_lt size 2048) ≡ true → is_signed 12 (if minus then (2 ^ 32 - size) % 2 ^ 32 else size) ≡ true
signed_12 true size fits = grind (arith, nat_tests)
signed_12 false size fits = grind (arith, nat_tests)

place_13 : (minus : Bool) (size : ℕ) → ((if minus then nat_le size 4096 else nat_lt size 4096) && (size % 2 == 0)) ≡ true → is_place 13 (if minus then (2 ^ 32 - size) % 2 ^ 32 else size) ≡ true
place_13 true size fits = grind (arith, nat_tests)
place_13 false size fits = grind (arith, nat_tests)

place_21 : (minus : Bool) (size : ℕ) → ((if minus then nat_le size 0x100000 else nat_lt size 0x100000) && (size % 2 == 0)) ≡ true → is_place 21 (if minus then (2 ^ 32 - size) % 2 ^ 32 else size) ≡ true
place_21 true size fits = grind (arith, nat_tests)
place_21 false size fits = grind (arith, nat_tests)

below : (n : ℕ) (minus : Bool) (size : ℕ) → 0 < n → (if minus then size == 0 else nat_lt size n) ≡ true → nat_lt (if minus then (2 ^ 32 - size) % 2 ^ 32 else size) n ≡ true
below n true size some fits = grind (arith, nat_tests)
below n false size some fits = fits

csr : (minus : Bool) (size : ℕ) → (not minus && is_csr size) ≡ true → is_csr (if minus then (2 ^ 32 - size) % 2 ^ 32 else size) ≡ true
csr true size fits = absurd (true≢false (sym fits))
csr false size fits = fits

in_field_if_fits : (f : Field) (number : Written) → fits_field f number ≡ true → in_field f (word_of_number number) ≡ true
in_field_if_fits field.Immediate number fits = signed_12 number.minus number.size fits
in_field_if_fits field.Amount number fits = below 32 number.minus number.size (omega arith) fits
in_field_if_fits field.Upper number fits = below 0x100000 number.minus number.size (omega arith) fits
in_field_if_fits field.FenceSet number fits = below 16 number.minus number.size (omega arith) fits
in_field_if_fits field.Csr number fits = csr number.minus number.size fits
in_field_if_fits field.Word number fits = below 0x1_0000_0000 number.minus number.size (omega arith) fits
in_field_if_fits field.Branch number fits = place_13 number.minus number.size fits
in_field_if_fits field.Jump number fits = place_21 number.minus number.size fits

-- a number of a register is below 32
Small : Read ℕ → Type 0
Small (Ok (n, rest)) = is_register n ≡ true
Small (Err left) = Unit {0}

small_number : (bytes : List ℕ) → Small (register_number_at bytes)
unfolding Small register_number_at
small_number bytes =
    let a : ℕ = slice_index bytes 0 in
    let b : ℕ = slice_index bytes 1 in
    either (not (is_decimal a)) (Err (length bytes)) (if is_two_digits a b then Ok (two_digits a b, drop 2 bytes) else Ok (a - 48, drop 1 bytes)) Small (λ e. tt)
    (λ digit. either (is_two_digits a b) (Ok (two_digits a b, drop 2 bytes)) (Ok (a - 48, drop 1 bytes)) Small
    (λ two. grind (arith, nat_tests))
    (λ one. grind (arith, nat_tests)))

small_register : (bytes : List ℕ) → Small (register_at bytes)
unfolding Small register_at
small_register bytes = either (slice_index bytes 0 == 120) (register_number_at (drop 1 bytes)) (Err (length bytes)) Small (λ e. small_number (drop 1 bytes)) (λ e. tt)

-- what a part leaves of a statement
record TookOne (part : Part) (before after : Statement) : Type 0 where
  fits_before : before.misfit ≡ None
  no_label_before : before.target ≡ None
  same : after.mnemonic ≡ before.mnemonic
  takes : (parts : List Part) (end : Operands) → Takes parts after.operands end → Takes (part ∷ parts) before.operands end

LeavesOne : Part → Statement → Read Statement → Type 0
LeavesOne part before (Ok (after, rest)) = after.misfit ≡ None → after.target ≡ None → TookOne part before after
LeavesOne part before (Err left) = Unit {0}

pub record Took (parts : List Part) (before after : Statement) : Type 0 where
  pub fits_before : before.misfit ≡ None
  pub no_label_before : before.target ≡ None
  pub same : after.mnemonic ≡ before.mnemonic
  pub takes : Takes parts before.operands after.operands

abbrev pub Leaves : List Part → Statement → Read Statement → Type 0
Leaves parts before (Ok (after, rest)) = after.misfit ≡ None → after.target ≡ None → Took parts before after
Leaves parts before (Err left) = Unit {0}

no_misfit : (early : Option ℕ) (left : ℕ) → first_of_both early left ≡ None → ⊥
no_misfit None left e = true≢false (ap is_some e)
no_misfit (Some first) left e = true≢false (ap is_some e)

-- a word more
takes_word : (part : Part) (before : Statement) (word : ℕ) → ((parts : List Part) (end : Operands) → Takes parts (with_operand before.operands word) end → Takes (part ∷ parts) before.operands end)
    → (with_word before word).misfit ≡ None → (with_word before word).target ≡ None → TookOne part before (with_word before word)
takes_word part before word takes fits plain = record { fits_before = fits; no_label_before = plain; same = refl; takes = takes }

after_register : (before : Statement) (r : Read ℕ) → Small r → LeavesOne Register before (r >>= λ (register, rest). Ok (with_word before register, rest))
unfolding Small LeavesOne
after_register before (Ok (register, rest)) small = takes_word Register before register (λ parts end takes. (register, small, takes))
after_register before (Err left) small = tt

-- a number for a field is a word of the field
after_number : (part : Part) (f : Field) (before : Statement) (left : ℕ) (number : Written)
    → ((word : ℕ) → in_field f word ≡ true → (parts : List Part) (end : Operands) → Takes parts (with_operand before.operands word) end → Takes (part ∷ parts) before.operands end)
    → (with_number f left before number).misfit ≡ None → (with_number f left before number).target ≡ None → TookOne part before (with_number f left before number)
after_number part f before left number takes =
    either (fits_field f number) (with_word before (word_of_number number)) (record before { misfit = first_of_both before.misfit left })
    (λ after. after.misfit ≡ None → after.target ≡ None → TookOne part before after)
    (λ fits. takes_word part before (word_of_number number) (takes (word_of_number number) (in_field_if_fits f number fits)))
    (λ not_fits misfit plain. absurd (no_misfit before.misfit left misfit))

after_field : (part : Part) (f : Field) (before : Statement) (left : ℕ) (r : Read Written)
    → ((word : ℕ) → in_field f word ≡ true → (parts : List Part) (end : Operands) → Takes parts (with_operand before.operands word) end → Takes (part ∷ parts) before.operands end)
    → LeavesOne part before (r >>= λ (number, rest). Ok (with_number f left before number, rest))
unfolding LeavesOne
after_field part f before left (Ok (number, rest)) takes = after_number part f before left number takes
after_field part f before left (Err left_there) takes = tt

after_label : (part : Part) (before : Statement) (bytes : List ℕ) → (with_target before bytes).misfit ≡ None → (with_target before bytes).target ≡ None → TookOne part before (with_target before bytes)
after_label part before bytes fits plain = absurd (true≢false (ap is_some plain))

after_mark : (part : Part) (mark : ℕ) (before : Statement) (bytes : List ℕ) → ((parts : List Part) (end : Operands) → Takes parts before.operands end → Takes (part ∷ parts) before.operands end)
    → LeavesOne part before (mark_at mark before bytes)
unfolding LeavesOne
after_mark part mark before bytes takes =
    either (slice_index bytes 0 == mark) (Ok (before, drop 1 bytes)) (Err (length bytes)) (LeavesOne part before)
    (λ e fits plain. record { fits_before = fits; no_label_before = plain; same = refl; takes = takes })
    (λ e. tt)

after_part : (part : Part) (before : Statement) (bytes : List ℕ) → LeavesOne part before (part_at part before bytes)
unfolding part_at LeavesOne
after_part Register before bytes = after_register before (register_at bytes) (small_register bytes)
after_part (Number f) before bytes = after_field (Number f) f before (length bytes) (number_at bytes) (λ word fits parts end takes. (word, fits, takes))
after_part (Place f) before bytes =
    either (begins_name (slice_index bytes 0)) (Ok (with_target before bytes, drop (prefix_len is_in_name bytes) bytes)) (field_at f before bytes) (LeavesOne (Place f) before)
    (λ e. after_label (Place f) before bytes)
    (λ e. after_field (Place f) f before (length bytes) (number_at bytes) (λ word fits parts end takes. (word, fits, takes)))
after_part Comma before bytes = after_mark Comma 44 before bytes (λ parts end takes. takes)
after_part Open before bytes = after_mark Open 40 before bytes (λ parts end takes. takes)
after_part Close before bytes = after_mark Close 41 before bytes (λ parts end takes. takes)

one_then_more : (part : Part) (parts : List Part) (before middle : Statement) (r : Read Statement) → (middle.misfit ≡ None → middle.target ≡ None → TookOne part before middle)
    → Leaves parts middle r → Leaves (part ∷ parts) before r
one_then_more part parts before middle (Ok (after, rest)) one more = λ fits plain.
    let t : Took parts middle after = more fits plain in
    let o : TookOne part before middle = one t.fits_before t.no_label_before in
    record { fits_before = o.fits_before; no_label_before = o.no_label_before; same = t.same ∙ o.same; takes = o.takes parts after.operands t.takes }
one_then_more part parts before middle (Err left) one more = tt

part_then_more : (part : Part) (parts : List Part) (before : Statement) (r : Read Statement) → LeavesOne part before r
    → ((middle : Statement) (rest : List ℕ) → Leaves parts middle (parts_at parts middle rest)) → Leaves (part ∷ parts) before (r >>= λ (more, rest). parts_at parts more rest)
unfolding LeavesOne
part_then_more part parts before (Ok (middle, rest)) one others = one_then_more part parts before middle (parts_at parts middle rest) one (others middle rest)
part_then_more part parts before (Err left) one others = tt

pub after_parts : (parts : List Part) (before : Statement) (bytes : List ℕ) → Leaves parts before (parts_at parts before bytes)
unfolding parts_at
after_parts [] before bytes = λ fits plain. record { fits_before = fits; no_label_before = plain; same = refl; takes = refl }
after_parts (part ∷ parts) before bytes =
    part_then_more part parts before (part_at part before (past_blanks bytes)) (after_part part before (past_blanks bytes)) (λ middle rest. after_parts parts middle rest)
