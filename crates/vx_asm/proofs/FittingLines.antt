-- The operands of a line's statement fit its instruction, where its numbers fit and it has no label for a place.
use Rattle.std.proofs.Common.{◌≡◌, ℕ, ◌-◌, List, length, take, drop, refl, sym, ap}
use Rattle.std.specs.Prelude.{Option, Some, None, Result, Ok, Err, ◌==◌, slice_index, IfSome}
use Rattle.std.specs.List.{prefix_len}
use Rattle.asm_text.specs.declared.mnemonics.Mnemonic.{Mnemonic}
use Rattle.asm_text.specs.declared.statements.Span.{Span}
use Rattle.asm_text.specs.declared.statements.Statement.{Statement}
use Rattle.asm_text.specs.declared.statements.Line.{Line}
use Rattle.asm_text.specs.declared.statements.AsmFault.{AsmFault}
use Rattle.asm_text.specs.Mnemonics.{all_mnemonics, form_of, parts_of}
use Rattle.asm_text.specs.AsmLines.{Read, ◌>>=◌, past_blanks, is_in_name, begins_name, bare, operands_at, operands_or_refused, mnemonic_named, known_bytes, word_len, statement_at, ends, ended, with_statement, rest_of_line, named_line, line_of}
use Rattle.asm_text.specs.AsmTexts.{said_in, fitting, misfit_of, line_or_fault}
use Rattle.vx_asm.specs.Listing.{fits_statement}
use Rattle.vx_asm.proofs.FittingOperands.{either, Took, Leaves, taken_fit, after_parts}

-- a statement whose operands fit, if its numbers do and it has no label
abbrev Sound : Statement → Type 0
Sound s = s.misfit ≡ None → s.target ≡ None → fits_statement s

abbrev SoundRead : Read Statement → Type 0
SoundRead (Ok (s, rest)) = Sound s
SoundRead (Err left) = Unit {0}

abbrev SoundLine : Result Line ℕ → Type 0
SoundLine (Ok said) = IfSome said.statement Sound
SoundLine (Err left) = Unit {0}

sound_if_taken : (m : Mnemonic) (r : Read Statement) → Leaves (parts_of (form_of m)) (bare m) r → SoundRead r
sound_if_taken m (Ok (s, rest)) leaves = λ fits plain.
    let t : Took (parts_of (form_of m)) (bare m) s = leaves fits plain in
    rw t.same (taken_fit m s.operands t.takes)
sound_if_taken m (Err left) leaves = tt

sound_operands : (m : Mnemonic) (bytes : List ℕ) → SoundRead (operands_at m bytes)
sound_operands m bytes = sound_if_taken m (operands_at m bytes) (after_parts (parts_of (form_of m)) (bare m) bytes)

sound_or_refused : (m : Option Mnemonic) (left : ℕ) (bytes : List ℕ) → SoundRead (operands_or_refused m left bytes)
sound_or_refused (Some m) left bytes = sound_operands m bytes
sound_or_refused None left bytes = tt

sound_statement : (bytes : List ℕ) → SoundRead (statement_at bytes)
unfolding statement_at
sound_statement bytes = sound_or_refused (mnemonic_named (take (word_len bytes) bytes)) (length bytes - known_bytes (take (word_len bytes) bytes) all_mnemonics) (drop (word_len bytes) bytes)

sound_end : (label : Option Span) (s : Statement) (bytes : List ℕ) → Sound s → SoundLine (ended label (Some s) bytes)
unfolding ended
sound_end label s bytes sound =
    either (ends (past_blanks bytes)) (Ok (record { label = label; statement = Some s })) (Err (length (past_blanks bytes))) SoundLine (λ e. sound) (λ e. tt)

sound_behind : (label : Option Span) (r : Read Statement) → SoundRead r → SoundLine (r >>= with_statement label)
sound_behind label (Ok (s, rest)) sound = sound_end label s rest sound
sound_behind label (Err left) sound = tt

sound_rest : (label : Option Span) (bytes : List ℕ) → SoundLine (rest_of_line label bytes)
unfolding rest_of_line
sound_rest label bytes =
    either (ends (past_blanks bytes)) (Ok (record { label = label; statement = None })) (statement_at (past_blanks bytes) >>= with_statement label) SoundLine
    (λ e. tt)
    (λ e. sound_behind label (statement_at (past_blanks bytes)) (sound_statement (past_blanks bytes)))

sound_named : (bytes : List ℕ) → SoundLine (named_line bytes)
unfolding named_line
sound_named bytes =
    let n : ℕ = prefix_len is_in_name bytes in
    let behind : List ℕ = past_blanks (drop n bytes) in
    either (slice_index behind 0 == 58) (rest_of_line (Some (record { left = length bytes; len = n })) (drop 1 behind))
    (operands_or_refused (mnemonic_named (take n bytes)) (length behind) (drop n bytes) >>= with_statement None) SoundLine
    (λ e. sound_rest (Some (record { left = length bytes; len = n })) (drop 1 behind))
    (λ e. sound_behind None (operands_or_refused (mnemonic_named (take n bytes)) (length behind) (drop n bytes)) (sound_or_refused (mnemonic_named (take n bytes)) (length behind) (drop n bytes)))

sound_line : (line : List ℕ) → SoundLine (line_of line)
unfolding line_of
sound_line line =
    either (begins_name (slice_index (past_blanks line) 0)) (named_line (past_blanks line)) (rest_of_line None line) SoundLine
    (λ e. sound_named (past_blanks line))
    (λ e. sound_rest None line)

-- ---- a line that is said

of_statement : (n : ℕ) (line : List ℕ) (statement : Option Statement) → IfSome statement Sound → fitting n line (misfit_of statement) ≡ Ok tt → IfSome statement (λ s. s.target ≡ None → fits_statement s)
of_statement n line None sound fits = tt
of_statement n line (Some s) sound fits = λ plain. sound (no_misfit s.misfit fits) plain
  where
    no_misfit : (m : Option ℕ) → fitting n line m ≡ Ok tt → m ≡ None
    no_misfit None e = refl
    no_misfit (Some left) e = absurd cc

statement_said : Result Line AsmFault → Option Statement
statement_said (Ok said) = said.statement
statement_said (Err f) = None

of_line : (n : ℕ) (line : List ℕ) (r : Result Line ℕ) (said : Line) → SoundLine r → line_or_fault n line r ≡ Ok said → fitting n line (misfit_of said.statement) ≡ Ok tt
    → IfSome said.statement (λ s. s.target ≡ None → fits_statement s)
unfolding statement_said
of_line n line (Ok found) said sound is fits =
    let same : said.statement ≡ found.statement = sym (ap statement_said is) in
    rw same (of_statement n line found.statement sound (rw (sym same) fits))
of_line n line (Err left) said sound is fits = absurd cc

pub line_fits : (n : ℕ) (line : List ℕ) (said : Line) → said_in n line ≡ Ok said → fitting n line (misfit_of said.statement) ≡ Ok tt → IfSome said.statement (λ s. s.target ≡ None → fits_statement s)
line_fits n line said is fits = of_line n line (line_of line) said (sound_line line) is fits
