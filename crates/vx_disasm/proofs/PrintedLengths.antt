-- No line of a word has more than 32 bytes, so that the text of at most 65,536 words is within what is assembled.
use Rattle.std.proofs.Common.{◌≡◌, ℕ, suc, ◌+◌, ◌-◌, ◌*◌, ◌^◌, ◌<◌, ◌≤◌, true, List, [], ◌∷◌, ◌++◌, length, refl, arith}
use Rattle.std.specs.Prelude.{Option, Some, None, nat_lt}
use Rattle.std.specs.Int.{to_be_bytes, w32}
use Rattle.std.specs.Fmt.{decimal}
use Rattle.std.proofs.lemmas.Bool.Decides.{nat_tests}
use Rattle.std.proofs.lemmas.Fmt.{length-decimal-le}
use Rattle.std.proofs.lemmas.List.{length-append}
use Rattle.vx_isa.specs.declared.instr.Instr.{Instr}
use Rattle.vx_isa.specs.Rows.{row_of}
use Rattle.vx_isa.proofs.RowLaws.{row_is_spelled}
use Rattle.asm_text.specs.declared.mnemonics.Mnemonic.{Mnemonic}
use Rattle.asm_text.specs.declared.mnemonics.Form.{Form}
use Rattle.asm_text.specs.declared.mnemonics.Form.TheVariants as form
use Rattle.asm_text.specs.declared.mnemonics.Field.{Field}
use Rattle.asm_text.specs.declared.mnemonics.Field.TheVariants as field
use Rattle.asm_text.specs.declared.mnemonics.Part.{Part}
use Rattle.asm_text.specs.declared.mnemonics.Part.TheVariants.{Register, Number, Place, Comma, Open, Close}
use Rattle.asm_text.specs.declared.mnemonics.Operands.{Operands}
use Rattle.asm_text.specs.HexLines.{encode_lower}
use Rattle.asm_text.specs.Mnemonics.{name_of, form_of, parts_of, mnemonic_of, operands_of}
use Rattle.vx_disasm.specs.Texts.{operands_text, row_text, line_text, lines_text}
use Rattle.vx_disasm.specs.Texts as text
use Rattle.vx_disasm.proofs.PrintedNumbers.{by_test, not_negative, negative, short}
use Rattle.vx_disasm.proofs.PrintedParts.{in_field, number_text, InRange, parts_text}
use Rattle.vx_disasm.proofs.PrintedRows.{Row, shown, lead, printed}
use Rattle.vx_disasm.proofs.PrintedRows as rows
use Rattle.vx_disasm.proofs.PrintedLines.{eight_digits}

-- ---- numbers

-- the most bytes of a field's number, with its sign or its `0x`
most_bytes : Field → ℕ
most_bytes field.Immediate = 5
most_bytes field.Branch = 5
most_bytes field.Jump = 8
most_bytes field.Amount = 2
most_bytes field.FenceSet = 2
most_bytes field.Upper = 12
most_bytes field.Csr = 12
most_bytes field.Word = 12

signed_short : (k w : ℕ) → 0 < k → w < 2 ^ 32 → (w < 2 ^ 31 → w < 10 ^ k) → (2 ^ 31 ≤ w → 2 ^ 32 - w < 10 ^ k) → length (text.signed w) ≤ suc k
signed_short k w some small low high = by_test (nat_lt w (2 ^ 31))
    (λ e.
    let less : w < 2 ^ 31 = grind (arith, nat_tests) in
    let digits : length (decimal w) ≤ k = length-decimal-le k w some (low less) (omega arith) in
    rw (not_negative w less) (omega (arith, digits)))
    (λ e.
    let great : 2 ^ 31 ≤ w = grind (arith, nat_tests) in
    let digits : length (decimal (2 ^ 32 - w)) ≤ k = length-decimal-le k (2 ^ 32 - w) some (high great) (omega arith) in
    rw (negative w great small) (omega (arith, digits)))

decimal_short : (w : ℕ) → w < 100 → length (decimal w) ≤ 2
decimal_short w small = length-decimal-le 2 w (omega arith) (omega arith) (omega arith)

number_short : (f : Field) (w : ℕ) → in_field f w ≡ true → length (number_text f w) ≤ most_bytes f
unfolding most_bytes
number_short field.Immediate w fits = signed_short 4 w (omega arith) (grind (arith, nat_tests)) (λ less. grind (arith, nat_tests)) (λ great. grind (arith, nat_tests))
number_short field.Branch w fits = signed_short 4 w (omega arith) (grind (arith, nat_tests)) (λ less. grind (arith, nat_tests)) (λ great. grind (arith, nat_tests))
number_short field.Jump w fits = signed_short 7 w (omega arith) (grind (arith, nat_tests)) (λ less. grind (arith, nat_tests)) (λ great. grind (arith, nat_tests))
number_short field.Amount w fits = decimal_short w (grind (arith, nat_tests))
number_short field.FenceSet w fits = decimal_short w (grind (arith, nat_tests))
number_short field.Upper w fits = omega (arith, short w (grind (arith, nat_tests)))
number_short field.Csr w fits = omega (arith, short w (grind (arith, nat_tests)))
number_short field.Word w fits = omega (arith, short w (grind (arith, nat_tests)))

-- ---- parts

-- the most bytes of some parts
width : List Part → ℕ
width [] = 0
width (Comma ∷ parts) = 2 + width parts
width (Open ∷ parts) = 1 + width parts
width (Close ∷ parts) = 1 + width parts
width (Register ∷ parts) = 3 + width parts
width (Number f ∷ parts) = most_bytes f + width parts
width (Place f ∷ parts) = most_bytes f + width parts

parts_short : (parts : List Part) (words : List ℕ) → InRange parts words → length (parts_text parts words) ≤ width parts
unfolding width
parts_short [] words range = omega arith
parts_short (Comma ∷ parts) words range = omega (arith, parts_short parts words range)
parts_short (Open ∷ parts) words range = omega (arith, parts_short parts words range)
parts_short (Close ∷ parts) words range = omega (arith, parts_short parts words range)
parts_short (Register ∷ parts) [] range = absurd range
parts_short (Register ∷ parts) (w ∷ words) range =
    omega (arith, length-append (decimal w) (parts_text parts words), decimal_short w (grind (arith, nat_tests)), parts_short parts words range.1)
parts_short (Number f ∷ parts) [] range = absurd range
parts_short (Number f ∷ parts) (w ∷ words) range =
    omega (arith, length-append (number_text f w) (parts_text parts words), number_short f w range.0, parts_short parts words range.1)
parts_short (Place f ∷ parts) [] range = absurd range
parts_short (Place f ∷ parts) (w ∷ words) range =
    omega (arith, length-append (number_text f w) (parts_text parts words), number_short f w range.1, parts_short parts words range.3)

form_short : (f : Form) → length (lead f) + width (parts_of f) ≤ 19
unfolding width most_bytes
form_short form.Bare = omega arith
form_short form.ThreeRegisters = omega arith
form_short form.Immediate = omega arith
form_short form.Shift = omega arith
form_short form.Memory = omega arith
form_short form.Branch = omega arith
form_short form.Upper = omega arith
form_short form.Jump = omega arith
form_short form.Fence = omega arith
form_short form.Csr = omega arith
form_short form.OneRegister = omega arith
form_short form.TwoRegisters = omega arith
form_short form.Word = omega arith

operands_short : (f : Form) (o : Operands) → InRange (parts_of f) (shown f o) → length (operands_text f o) ≤ 19
operands_short f o range =
    let parts : List ℕ = parts_text (parts_of f) (shown f o) in
    rw (printed f o) (omega (arith, length-append (lead f) parts, parts_short (parts_of f) (shown f o) range, form_short f))

-- ---- lines

row_short : (w : ℕ) (found : Option Instr) → row_of w ≡ found → length (row_text w found) ≤ 32
row_short w (Some i) found =
    let m : Mnemonic = mnemonic_of i in
    let known : Row m i = rows.row i (row_is_spelled w i found).fits in
    let ops : List ℕ = operands_text (form_of m) (operands_of i) in
    omega (arith, length-append (name_of m) (ops ++ 10 ∷ []), length-append ops (10 ∷ []), known.short, operands_short (form_of m) (operands_of i) known.range)
row_short w None found =
    let ds : List ℕ = encode_lower (to_be_bytes w32 w) in
    omega (arith, length-append ds (10 ∷ []), eight_digits w)

-- the text of so many words is within what is assembled
pub text_is_short : (ws : List ℕ) → length (lines_text ws) ≤ 32 * length ws
text_is_short [] = omega arith
text_is_short (w ∷ ws) = omega (arith, length-append (line_text w) (lines_text ws), row_short w (row_of w) refl, text_is_short ws)
