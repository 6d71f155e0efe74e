-- The text of some words is assembled to the words.
use Rattle.std.proofs.Common.{◌≡◌, ℕ, suc, ◌+◌, ◌-◌, ◌^◌, ◌<◌, ◌≤◌, true, false, List, [], ◌∷◌, ◌++◌, length, refl, sym, ap, ◌∙◌, append_assoc, arith}
use Rattle.std.specs.Prelude.{Option, Some, None, Ok, ◌==◌, nat_lt, slice_index, codes}
use Rattle.std.specs.Int.{to_be_bytes, w32}
use Rattle.std.specs.List.{position_or_len}
use Rattle.std.specs.Fmt.{decimal}
use Rattle.std.specs.Str.Parse.{AllDigits}
use Rattle.std.proofs.lemmas.Bool.Decides.{nat_tests}
use Rattle.std.proofs.lemmas.Fmt.{decimal_is_IsNumeral, digits_is_IsNumeral}
use Rattle.vx_isa.specs.declared.instr.Instr.{Instr}
use Rattle.vx_isa.specs.Words.{word_of, Spells}
use Rattle.vx_isa.specs.Rows.{row_of}
use Rattle.vx_isa.proofs.RowLaws.{row_is_spelled}
use Rattle.asm_text.specs.declared.mnemonics.Mnemonic.{Mnemonic}
use Rattle.asm_text.specs.declared.mnemonics.Mnemonic.TheVariants as row
use Rattle.asm_text.specs.declared.mnemonics.Form.{Form}
use Rattle.asm_text.specs.declared.mnemonics.Form.TheVariants as form
use Rattle.asm_text.specs.declared.mnemonics.Field.{Field}
use Rattle.asm_text.specs.declared.mnemonics.Field.TheVariants as field
use Rattle.asm_text.specs.declared.mnemonics.Part.{Part}
use Rattle.asm_text.specs.declared.mnemonics.Part.TheVariants.{Register, Number, Place, Comma, Open, Close}
use Rattle.asm_text.specs.declared.mnemonics.Operands.{Operands}
use Rattle.asm_text.specs.declared.statements.Statement.{Statement}
use Rattle.asm_text.specs.HexLines.{most_words, encode_lower}
use Rattle.asm_text.specs.Lines.{lines}
use Rattle.asm_text.specs.Mnemonics.{name_of, form_of, parts_of, mnemonic_of, operands_of, three}
use Rattle.asm_text.specs.AsmLines.{line_of}
use Rattle.asm_text.specs.AsmTexts.{assembled, counted, labels_from, words_of_line, words_from, line_or_fault, said_in, word_of_statement, word_or_number}
use Rattle.asm_text.proofs.LineLaws.{line_before}
use Rattle.vx_disasm.specs.Texts.{hexadecimal, operands_text, instr_text, row_text, line_text, lines_text}
use Rattle.vx_disasm.specs.Texts as text
use Rattle.vx_disasm.proofs.PrintedNumbers.{by_test, not_negative, negative}
use Rattle.vx_disasm.proofs.PrintedParts.{in_field, number_text, InRange, parts_text}
use Rattle.vx_disasm.proofs.PrintedRows.{Row, Plain, shown, lead, printed, statement_of}
use Rattle.vx_disasm.proofs.PrintedRows as rows
use Rattle.vx_disasm.proofs.PrintedLines.{said, instr_line, word_line, are_digits, word_bytes}

-- ---- no line feed within a line

plain_after : (c : ℕ) (bytes : List ℕ) → (c == 10) ≡ false → Plain bytes → Plain (c ∷ bytes)
plain_after c bytes test plain = rw test (omega (arith, plain))

plain_both : (xs ys : List ℕ) → Plain xs → Plain ys → Plain (xs ++ ys)
plain_both [] ys first second = second
plain_both (x ∷ xs) ys first second = by_test (x == 10)
    (λ e. absurd (omega (arith, rw e at first)))
    (λ e.
    let rest : position_or_len (λ b. b == 10) xs ≡ length xs = omega (arith, rw e at first) in
    rw e (omega (arith, plain_both xs ys rest second)))

plain_digits : (base : ℕ) (ds : List ℕ) → base ≤ 16 → AllDigits base ds → Plain ds
plain_digits base [] small all = refl
plain_digits base (d ∷ ds) small all =
    let test : (d == 10) ≡ false = grind (arith, nat_tests) in
    plain_after d ds test (plain_digits base ds small all.1)

plain_decimal : (v : ℕ) → v < 2 ^ 32 → Plain (decimal v)
plain_decimal v small = plain_digits 10 (decimal v) (omega arith) (decimal_is_IsNumeral v (omega arith)).0.1

plain_hexadecimal : (v : ℕ) → v < 2 ^ 32 → Plain (48 ∷ 120 ∷ hexadecimal v)
plain_hexadecimal v small =
    let digits : Plain (hexadecimal v) = plain_digits 16 (hexadecimal v) (omega arith) (digits_is_IsNumeral 16 false (omega arith) (omega arith) v (omega arith)).0.1 in
    plain_after 48 (120 ∷ hexadecimal v) refl (plain_after 120 (hexadecimal v) refl digits)

plain_signed : (v : ℕ) → v < 2 ^ 32 → Plain (text.signed v)
plain_signed v small = by_test (nat_lt v (2 ^ 31))
    (λ e.
    let less : v < 2 ^ 31 = grind (arith, nat_tests) in
    rw (not_negative v less) (plain_decimal v small))
    (λ e.
    let great : 2 ^ 31 ≤ v = grind (arith, nat_tests) in
    rw (negative v great small) (plain_after 45 (decimal (2 ^ 32 - v)) refl (plain_decimal (2 ^ 32 - v) (omega arith))))

plain_number : (f : Field) (v : ℕ) → in_field f v ≡ true → Plain (number_text f v)
plain_number field.Immediate v fits = plain_signed v (grind (arith, nat_tests))
plain_number field.Branch v fits = plain_signed v (grind (arith, nat_tests))
plain_number field.Jump v fits = plain_signed v (grind (arith, nat_tests))
plain_number field.Amount v fits = plain_decimal v (grind (arith, nat_tests))
plain_number field.FenceSet v fits = plain_decimal v (grind (arith, nat_tests))
plain_number field.Upper v fits = plain_hexadecimal v (grind (arith, nat_tests))
plain_number field.Csr v fits = plain_hexadecimal v (grind (arith, nat_tests))
plain_number field.Word v fits = plain_hexadecimal v (grind (arith, nat_tests))

plain_parts : (parts : List Part) (words : List ℕ) → InRange parts words → Plain (parts_text parts words)
plain_parts [] words range = refl
plain_parts (Comma ∷ parts) words range = plain_after 44 (32 ∷ parts_text parts words) refl (plain_after 32 (parts_text parts words) refl (plain_parts parts words range))
plain_parts (Open ∷ parts) words range = plain_after 40 (parts_text parts words) refl (plain_parts parts words range)
plain_parts (Close ∷ parts) words range = plain_after 41 (parts_text parts words) refl (plain_parts parts words range)
plain_parts (Register ∷ parts) [] range = absurd range
plain_parts (Register ∷ parts) (w ∷ words) range =
    plain_after 120 (decimal w ++ parts_text parts words) refl (plain_both (decimal w) (parts_text parts words) (plain_decimal w (grind (arith, nat_tests))) (plain_parts parts words range.1))
plain_parts (Number f ∷ parts) [] range = absurd range
plain_parts (Number f ∷ parts) (w ∷ words) range = plain_both (number_text f w) (parts_text parts words) (plain_number f w range.0) (plain_parts parts words range.1)
plain_parts (Place f ∷ parts) [] range = absurd range
plain_parts (Place f ∷ parts) (w ∷ words) range = plain_both (number_text f w) (parts_text parts words) (plain_number f w range.1) (plain_parts parts words range.3)

plain_lead : (f : Form) → Plain (lead f)
plain_lead form.Bare = refl
plain_lead form.ThreeRegisters = refl
plain_lead form.Immediate = refl
plain_lead form.Shift = refl
plain_lead form.Memory = refl
plain_lead form.Branch = refl
plain_lead form.Upper = refl
plain_lead form.Jump = refl
plain_lead form.Fence = refl
plain_lead form.Csr = refl
plain_lead form.OneRegister = refl
plain_lead form.TwoRegisters = refl
plain_lead form.Word = refl

plain_operands : (f : Form) (o : Operands) → InRange (parts_of f) (shown f o) → Plain (operands_text f o)
plain_operands f o range = rw (printed f o) (plain_both (lead f) (parts_text (parts_of f) (shown f o)) (plain_lead f) (plain_parts (parts_of f) (shown f o) range))

-- ---- the line of a word

record LineReads (word : ℕ) (whole : List ℕ) : Type 0 where
  line : List ℕ
  text_is : whole ≡ line ++ 10 ∷ []
  plain : Plain line
  statement : Statement
  read : line_of line ≡ Ok (said statement)
  fits : statement.misfit ≡ None
  no_label : statement.target ≡ None
  same_word : word_of_statement statement ≡ word

by_row : (w : ℕ) (found : Option Instr) → row_of w ≡ found → w < 2 ^ 32 → LineReads w (row_text w found)
by_row w (Some i) found small =
    let spelled : Spells w i = row_is_spelled w i found in
    let m : Mnemonic = mnemonic_of i in
    let o : Operands = operands_of i in
    let known : Row m i = rows.row i spelled.fits in
    let ops : List ℕ = operands_text (form_of m) o in
    let instr : word_of_statement (statement_of m o) ≡ word_of i = ap (λ (r : Option Instr). word_or_number r o.third) known.instr in
    record {
      line = name_of m ++ ops;
      text_is = sym (append_assoc (name_of m) ops (10 ∷ []));
      plain = plain_both (name_of m) ops known.plain (plain_operands (form_of m) o known.range);
      statement = statement_of m o;
      read = instr_line m i known;
      fits = refl;
      no_label = refl;
      same_word = instr ∙ spelled.same_word;
    }
by_row w None found small =
    let ds : List ℕ = encode_lower (to_be_bytes w32 w) in
    record {
      line = codes ".word 0x" ++ ds;
      text_is = refl;
      plain = plain_both (codes ".word 0x") ds refl (plain_digits 16 ds (omega arith) (are_digits (to_be_bytes w32 w) (word_bytes w)));
      statement = statement_of row.Word (three 0 0 w);
      read = word_line w small;
      fits = refl;
      no_label = refl;
      same_word = refl;
    }

line_reads : (w : ℕ) → w < 2 ^ 32 → LineReads w (line_text w)
line_reads w small = by_row w (row_of w) refl small

-- ---- all lines

first_line : (w : ℕ) (ws : List ℕ) (r : LineReads w (line_text w)) → lines (lines_text (w ∷ ws)) ≡ r.line ∷ lines (lines_text ws)
first_line w ws r =
    let one : lines_text (w ∷ ws) ≡ (r.line ++ 10 ∷ []) ++ lines_text ws = ap (λ (l : List ℕ). l ++ lines_text ws) r.text_is in
    let two : lines_text (w ∷ ws) ≡ r.line ++ 10 ∷ lines_text ws = one ∙ append_assoc r.line (10 ∷ []) (lines_text ws) in
    ap lines two ∙ line_before r.line (lines_text ws) r.plain

said_line : (n w : ℕ) (whole : List ℕ) (r : LineReads w whole) → said_in n r.line ≡ Ok (said r.statement)
said_line n w whole r = ap (line_or_fault n r.line) r.read

counts_one : (n k w : ℕ) (whole : List ℕ) (r : LineReads w whole) → k < 65536 → counted n r.line k [] ≡ Ok (k + 1, [])
unfolding counted
counts_one n k w whole r few =
    let room : (k == most_words) ≡ false = grind (arith, nat_tests) in
    rw (said_line n w whole r, r.fits, room) refl

has_word : (n k w : ℕ) (whole : List ℕ) (r : LineReads w whole) → words_of_line n r.line [] k ≡ Ok (w ∷ [])
unfolding words_of_line
has_word n k w whole r = rw (said_line n w whole r, r.no_label, r.same_word) refl

labels_back : (n k : ℕ) (ws : List ℕ) → k + length ws ≤ 65536 → ((j : ℕ) → slice_index ws j < 2 ^ 32) → labels_from n (lines (lines_text ws)) k [] ≡ Ok []
unfolding labels_from lines
labels_back n k [] few small = refl
labels_back n k (w ∷ ws) few small =
    let r : LineReads w (line_text w) = line_reads w (small 0) in
    let one : counted n r.line k [] ≡ Ok (k + 1, []) = counts_one n k w (line_text w) r (omega arith) in
    let rest : labels_from (n + 1) (lines (lines_text ws)) (k + 1) [] ≡ Ok [] = labels_back (n + 1) (k + 1) ws (omega arith) (λ j. small (suc j)) in
    rw (first_line w ws r, one) rest

words_back : (n k : ℕ) (ws : List ℕ) → ((j : ℕ) → slice_index ws j < 2 ^ 32) → words_from n (lines (lines_text ws)) [] k ≡ Ok ws
unfolding words_from lines
words_back n k [] small = refl
words_back n k (w ∷ ws) small =
    let r : LineReads w (line_text w) = line_reads w (small 0) in
    let one : words_of_line n r.line [] k ≡ Ok (w ∷ []) = has_word n k w (line_text w) r in
    let rest : words_from (n + 1) (lines (lines_text ws)) [] (k + 1) ≡ Ok ws = words_back (n + 1) (k + 1) ws (λ j. small (suc j)) in
    rw (first_line w ws r, one, rest) refl

-- what is printed is assembled to the same words
pub text_is_assembled : (ws : List ℕ) → length ws ≤ 65536 → ((j : ℕ) → slice_index ws j < 2 ^ 32) → assembled (lines_text ws) ≡ Ok ws
text_is_assembled ws few small = rw (labels_back 1 0 ws (omega arith) small) (words_back 1 0 ws small)
