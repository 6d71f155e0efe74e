-- What the look-up of a word finds, in the words of the table.
use Rattle.std.proofs.Common.{◌≡◌, ℕ, ◌^◌, ◌<◌, Option, Some, None, sym}
use Rattle.std.specs.Prelude.{MatchOption, nat_lt}
use Rattle.std.proofs.lemmas.Bool.{cond-true, lt-ltb}
use Rattle.vx_isa.specs.Words.{word_of, Fits, Spells}
use Rattle.vx_isa.specs.Rows.{opcode_field, look_up, rows, row_of}
use Rattle.vx_isa.specs.declared.instr.Instr.{Instr}
use Rattle.vx_isa.proofs.RowLaws as law

-- the row of a word is the one under its opcode
pub row_in_rows : (w : ℕ) → w < 2 ^ 32 → look_up (opcode_field w) (rows w) ≡ row_of w
row_in_rows w small = sym (cond-true (nat_lt w (2 ^ 32)) (look_up (opcode_field w) (rows w)) None (lt-ltb w (2 ^ 32) small))

-- it spells the word, and where there is none, no row does
pub row_is_spelled : (w : ℕ) (found : Option Instr) → found ≡ row_of w → MatchOption found ((i : Instr) → ¬ Spells w i) (λ i. Spells w i)
row_is_spelled w None found = law.no_row_spells w (sym found)
row_is_spelled w (Some i) found = law.row_is_spelled w i (sym found)

-- the word of an instruction is read as the instruction
pub word_is_read : (i : Instr) → Fits i → row_of (word_of i) ≡ Some i
word_is_read i fits = law.row_of_word_of i fits

-- the row of a word is written as the word
pub row_is_written : (w : ℕ) (i : Instr) → row_of w ≡ Some i → word_of i ≡ w
row_is_written w i found = (law.row_is_spelled w i found).same_word
