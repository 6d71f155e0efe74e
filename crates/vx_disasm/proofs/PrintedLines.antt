-- The line of each word is read back as the word.
use Rattle.std.proofs.Common.{◌≡◌, ℕ, zero, suc, ◌+◌, ◌*◌, ◌/◌, ◌%◌, ◌^◌, ◌<◌, Bool, true, false, List, [], ◌∷◌, ◌++◌, length, refl, sym, ap, ◌∙◌, arith}
use Rattle.std.specs.Prelude.{Some, None, Ok, ◌==◌, nat_lt, slice_index, codes}
use Rattle.std.specs.Char.{digit_value}
use Rattle.std.specs.Int.{to_be_bytes, from_be_bytes, w32}
use Rattle.std.proofs.lemmas.Nat.{from_be_bytes-to_be_bytes_4}
use Rattle.std.specs.List.{prefix_len}
use Rattle.std.specs.Str.Parse.{digits_value, AllDigits}
use Rattle.std.proofs.lemmas.Bool.Decides.{nat_tests}
use Rattle.std.proofs.lemmas.List.{append-nil}
use Rattle.vx_isa.specs.declared.instr.Instr.{Instr}
use Rattle.asm_text.specs.HexLines.{encode_lower, encode_with, lower_digits}
use Rattle.asm_text.specs.declared.mnemonics.Mnemonic.{Mnemonic}
use Rattle.asm_text.specs.declared.mnemonics.Mnemonic.TheVariants as row
use Rattle.asm_text.specs.declared.mnemonics.Form.{Form}
use Rattle.asm_text.specs.declared.mnemonics.Form.TheVariants as form
use Rattle.asm_text.specs.declared.mnemonics.Operands.{Operands}
use Rattle.asm_text.specs.declared.statements.Statement.{Statement}
use Rattle.asm_text.specs.declared.statements.Line.{Line}
use Rattle.asm_text.specs.Mnemonics.{name_of, form_of, parts_of, operands_of, three}
use Rattle.asm_text.specs.AsmLines.{is_blank, past_blanks, bare, begins_name, is_in_name, mnemonic_named, operands_at, ended, named_line, rest_of_line, statement_at, parts_at, part_at, number_at, size_at, digits_at, line_of}
use Rattle.vx_disasm.specs.Texts.{operands_text}
use Rattle.vx_disasm.proofs.PrintedNumbers.{by_test, digits_read, take_front, drop_front}
use Rattle.vx_disasm.proofs.PrintedParts.{InRange, parts_text, PartsRead, parts_read, no_blank, after_blank, not_blank, no_colon}
use Rattle.vx_disasm.proofs.PrintedRows.{Row, shown, lead, printed, spaced, statement_of}

abbrev pub said : Statement → Line
said s = record { label = None; statement = Some s }

-- ---- the operands behind their blank

behind_blank : (f : Form) (o : Operands) → lead f ≡ 32 ∷ [] → InRange (parts_of f) (shown f o) → past_blanks (operands_text f o) ≡ parts_text (parts_of f) (shown f o)
behind_blank f o is range =
    let t : List ℕ = parts_text (parts_of f) (shown f o) in
    let whole : operands_text f o ≡ 32 ∷ t = printed f o ∙ ap (λ (l : List ℕ). l ++ t) is in
    ap past_blanks whole ∙ after_blank t (not_blank (parts_of f) (shown f o) range)

-- the text behind a mnemonic: a blank and the parts, or nothing
past_lead : (f : Form) (o : Operands) → InRange (parts_of f) (shown f o) → past_blanks (operands_text f o) ≡ parts_text (parts_of f) (shown f o)
past_lead form.Bare o range = refl
past_lead form.ThreeRegisters o range = behind_blank form.ThreeRegisters o refl range
past_lead form.Immediate o range = behind_blank form.Immediate o refl range
past_lead form.Shift o range = behind_blank form.Shift o refl range
past_lead form.Memory o range = behind_blank form.Memory o refl range
past_lead form.Branch o range = behind_blank form.Branch o refl range
past_lead form.Upper o range = behind_blank form.Upper o refl range
past_lead form.Jump o range = behind_blank form.Jump o refl range
past_lead form.Fence o range = behind_blank form.Fence o refl range
past_lead form.Csr o range = behind_blank form.Csr o refl range
past_lead form.OneRegister o range = behind_blank form.OneRegister o refl range
past_lead form.TwoRegisters o range = behind_blank form.TwoRegisters o refl range
past_lead form.Word o range = behind_blank form.Word o refl range

-- it begins with a blank, or is empty
ends_name : (f : Form) (o : Operands) → prefix_len is_in_name (operands_text f o) ≡ 0
ends_name form.Bare o = refl
ends_name form.ThreeRegisters o = refl
ends_name form.Immediate o = refl
ends_name form.Shift o = refl
ends_name form.Memory o = refl
ends_name form.Branch o = refl
ends_name form.Upper o = refl
ends_name form.Jump o = refl
ends_name form.Fence o = refl
ends_name form.Csr o = refl
ends_name form.OneRegister o = refl
ends_name form.TwoRegisters o = refl
ends_name form.Word o = refl

-- ---- the line of an instruction

pub whole_front : (p : ℕ → Bool) (xs t : List ℕ) → prefix_len p xs ≡ length xs → prefix_len p t ≡ 0 → prefix_len p (xs ++ t) ≡ length xs
whole_front p [] t all none = none
whole_front p (x ∷ xs) t all none = by_test (p x)
    (λ e.
    let rest : prefix_len p xs ≡ length xs = omega (arith, rw e at all) in
    rw (e, whole_front p xs t rest none) (omega arith))
    (λ e. absurd (omega (arith, rw e at all)))

name_no_blank : (c : ℕ) → begins_name c ≡ true → is_blank c ≡ false
name_no_blank c begins = grind (arith, nat_tests)

at_end : (s : Statement) (rest : List ℕ) → past_blanks rest ≡ [] → ended None (Some s) rest ≡ Ok (said s)
unfolding ended
at_end s rest none = rw none refl

pub instr_line : (m : Mnemonic) (i : Instr) → Row m i → line_of (name_of m ++ operands_text (form_of m) (operands_of i)) ≡ Ok (said (statement_of m (operands_of i)))
unfolding line_of named_line
instr_line m i known =
    let f : Form = form_of m in
    let o : Operands = operands_of i in
    let t : List ℕ = operands_text f o in
    let line : List ℕ = name_of m ++ t in
    let start : past_blanks line ≡ line = no_blank line (name_no_blank (slice_index line 0) (known.begins t)) in
    let n : prefix_len is_in_name line ≡ length (name_of m) = whole_front is_in_name (name_of m) t known.letters (ends_name f o) in
    let behind : past_blanks t ≡ parts_text (parts_of f) (shown f o) = past_lead f o known.range in
    let colon : (slice_index (past_blanks t) 0 == 58) ≡ false = rw behind (no_colon (parts_of f) (shown f o) known.range) in
    let parts : PartsRead (parts_of f) (bare m) t (shown f o) = parts_read (parts_of f) (shown f o) (bare m) t (spaced f) known.range behind in
    let read : operands_at m t ≡ Ok (statement_of m o, parts.rest) = parts.read ∙ ap (λ (s : Statement). Ok (s, parts.rest)) known.back in
    let last : ended None (Some (statement_of m o)) parts.rest ≡ Ok (said (statement_of m o)) = at_end (statement_of m o) parts.rest parts.behind in
    rw (start, known.begins t, n, take_front (name_of m) t, drop_front (name_of m) t, colon, known.named, read) last

-- ---- the line of a word that spells no row

nibble : (d : ℕ) → d < 16 → digit_value (slice_index lower_digits d) ≡ d
nibble zero small = refl
nibble (suc zero) small = refl
nibble (suc (suc zero)) small = refl
nibble (suc (suc (suc zero))) small = refl
nibble (suc (suc (suc (suc zero)))) small = refl
nibble (suc (suc (suc (suc (suc zero))))) small = refl
nibble (suc (suc (suc (suc (suc (suc zero)))))) small = refl
nibble (suc (suc (suc (suc (suc (suc (suc zero))))))) small = refl
nibble (suc (suc (suc (suc (suc (suc (suc (suc zero)))))))) small = refl
nibble (suc (suc (suc (suc (suc (suc (suc (suc (suc zero))))))))) small = refl
nibble (suc (suc (suc (suc (suc (suc (suc (suc (suc (suc zero)))))))))) small = refl
nibble (suc (suc (suc (suc (suc (suc (suc (suc (suc (suc (suc zero))))))))))) small = refl
nibble (suc (suc (suc (suc (suc (suc (suc (suc (suc (suc (suc (suc zero)))))))))))) small = refl
nibble (suc (suc (suc (suc (suc (suc (suc (suc (suc (suc (suc (suc (suc zero))))))))))))) small = refl
nibble (suc (suc (suc (suc (suc (suc (suc (suc (suc (suc (suc (suc (suc (suc zero)))))))))))))) small = refl
nibble (suc (suc (suc (suc (suc (suc (suc (suc (suc (suc (suc (suc (suc (suc (suc zero))))))))))))))) small = refl
nibble (suc (suc (suc (suc (suc (suc (suc (suc (suc (suc (suc (suc (suc (suc (suc (suc d)))))))))))))))) small = absurd (omega arith)

pub are_digits : (bytes : List ℕ) → ((k : ℕ) → slice_index bytes k < 256) → AllDigits 16 (encode_lower bytes)
unfolding encode_with
are_digits [] small = tt
are_digits (b ∷ bytes) small =
    let byte : b < 256 = small 0 in
    let high : b / 16 < 16 = omega arith in
    let low : b % 16 < 16 = omega arith in
    (omega (arith, nibble (b / 16) high, high), (omega (arith, nibble (b % 16) low, low), are_digits bytes (λ k. small (suc k))))

value_of_four : (a b c d : ℕ) → a < 256 → b < 256 → c < 256 → d < 256 → digits_value 16 (encode_lower (a ∷ b ∷ c ∷ d ∷ [])) ≡ ((a * 256 + b) * 256 + c) * 256 + d
unfolding encode_with
value_of_four a b c d sa sb sc sd =
    rw (nibble (a / 16) (omega arith), nibble (a % 16) (omega arith), nibble (b / 16) (omega arith), nibble (b % 16) (omega arith), nibble (c / 16) (omega arith), nibble (c % 16) (omega arith), nibble (d / 16) (omega arith), nibble (d % 16) (omega arith))
    (omega arith)

pub word_bytes : (w k : ℕ) → slice_index (to_be_bytes w32 w) k < 256
word_bytes w zero = omega arith
word_bytes w (suc zero) = omega arith
word_bytes w (suc (suc zero)) = omega arith
word_bytes w (suc (suc (suc zero))) = omega arith
word_bytes w (suc (suc (suc (suc k)))) = omega arith

value_of_bytes : (bytes : List ℕ) → length bytes ≡ 4 → ((k : ℕ) → slice_index bytes k < 256) → digits_value 16 (encode_lower bytes) ≡ from_be_bytes w32 bytes
value_of_bytes [] four small = absurd (omega arith)
value_of_bytes (a ∷ []) four small = absurd (omega arith)
value_of_bytes (a ∷ b ∷ []) four small = absurd (omega arith)
value_of_bytes (a ∷ b ∷ c ∷ []) four small = absurd (omega arith)
value_of_bytes (a ∷ b ∷ c ∷ d ∷ []) four small = omega (arith, value_of_four a b c d (small 0) (small 1) (small 2) (small 3))
value_of_bytes (a ∷ b ∷ c ∷ d ∷ e ∷ rest) four small = absurd (omega arith)

pub eight_digits : (w : ℕ) → length (encode_lower (to_be_bytes w32 w)) ≡ 8
unfolding encode_with
eight_digits w = refl

word_digits : (w : ℕ) → w < 2 ^ 32 → digits_at 16 (encode_lower (to_be_bytes w32 w)) ≡ Ok (w, [])
word_digits w small =
    let ds : List ℕ = encode_lower (to_be_bytes w32 w) in
    let value : digits_value 16 ds ≡ w = value_of_bytes (to_be_bytes w32 w) refl (word_bytes w) ∙ from_be_bytes-to_be_bytes_4 w small in
    ap (digits_at 16) (sym (append-nil ds))
    ∙ digits_read 16 ds [] w (omega arith) (omega (arith, eight_digits w), are_digits (to_be_bytes w32 w) (word_bytes w)) (omega (arith, eight_digits w)) value tt

word_operands : (w : ℕ) → w < 2 ^ 32 → operands_at row.Word (32 ∷ 48 ∷ 120 ∷ encode_lower (to_be_bytes w32 w)) ≡ Ok (statement_of row.Word (three 0 0 w), [])
unfolding parts_at part_at number_at size_at
word_operands w small =
    let fits : nat_lt w 0x1_0000_0000 ≡ true = grind (arith, nat_tests) in
    rw (word_digits w small, fits) refl

pub word_line : (w : ℕ) → w < 2 ^ 32 → line_of (codes ".word 0x" ++ encode_lower (to_be_bytes w32 w)) ≡ Ok (said (statement_of row.Word (three 0 0 w)))
unfolding line_of rest_of_line statement_at mnemonic_named ended encode_with
word_line w small = rw (word_operands w small) refl
