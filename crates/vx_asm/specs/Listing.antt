-- The statements of a text in order, of which some wait for the place of a label, and the words that they make.
use Rattle.std.specs.Prelude.{◌≡◌, true, ℕ, ◌+◌, if◌then◌else◌, List, [], ◌∷◌, Option, Some, None, Result, Ok, Err}
use Rattle.vx_base.specs.declared.types.Pos.{Pos}
use Rattle.asm_text.specs.declared.statements.Statement.{Statement}
use Rattle.asm_text.specs.declared.statements.Line.{Line}
use Rattle.asm_text.specs.declared.statements.AsmFault.{AsmFault}
use Rattle.asm_text.specs.declared.statements.AsmFault.TheVariants.{Range, NoLabel}
use Rattle.asm_text.specs.Mnemonics.{instr_of, with_operand}
use Rattle.asm_text.specs.AsmTexts.{Labels, ◌>>=◌, said_in, fitting, misfit_of, place_of, word_of_statement, distance, fits_some, word_in_list, appended}
use Rattle.vx_asm.specs.declared.listing.Listed.{Listed}
use Rattle.vx_asm.specs.declared.listing.Listed.TheVariants.{Word, Waiting}

-- what a line says, where each of its numbers fits
abbrev pub line_read : ℕ → List ℕ → Result Line AsmFault
line_read n line = said_in n line >>= λ said. fitting n line (misfit_of said.statement) >>= λ fit. Ok said

-- whether a statement's operands fit its instruction
abbrev pub fits_statement : Statement → Type 0
fits_statement s = fits_some (instr_of s.mnemonic s.operands) ≡ true

-- the word of a statement with a label, which stands before the word with this number
abbrev pub looked_up : Pos → Statement → ℕ → Option ℕ → Result ℕ AsmFault
looked_up pos s word None = Err (NoLabel pos)
looked_up pos s word (Some place) =
    let whole = record s { operands = with_operand s.operands (distance word place) } in
    if fits_some (instr_of whole.mnemonic whole.operands) then Ok (word_of_statement whole) else Err (Range pos)

-- the word with this number
abbrev pub word_of_listed : Labels → ℕ → Listed → Result ℕ AsmFault
word_of_listed labels word (Word w) = Ok w
word_of_listed labels word (Waiting name pos s) = looked_up pos s word (place_of name.now labels)

-- the words of some statements, of which the first has this number
unfoldable pub words_of_listed : Labels → ℕ → List Listed → Result (List ℕ) AsmFault
words_of_listed labels before [] = Ok []
words_of_listed labels before (l ∷ ls) =
    word_in_list (word_of_listed labels before l) >>= λ words. appended words (words_of_listed labels (before + 1) ls)

-- what some words and then some more are, or the first fault
abbrev pub and_then : Result (List ℕ) AsmFault → Result (List ℕ) AsmFault → Result (List ℕ) AsmFault
and_then first more = first >>= λ words. appended words more
