-- The words of a text of assembly, and its faults.
use Rattle.std.specs.Prelude.{ℕ, ◌+◌, ◌-◌, ◌*◌, ◌%◌, ◌^◌, ◌==◌, Bool, true, is_some, if◌then◌else◌, List, [], ◌∷◌, ◌++◌, length, take, drop, Option, Some, None, Result, Ok, Err}
use Rattle.std.specs.Str.{bytes_eq}
use Rattle.vx_base.specs.declared.types.Pos.{Pos}
use Rattle.vx_isa.specs.declared.instr.Instr.{Instr}
use Rattle.vx_isa.specs.Words.{word_of, fits_of}
use Rattle.asm_text.specs.declared.statements.Span.{Span}
use Rattle.asm_text.specs.declared.statements.Statement.{Statement}
use Rattle.asm_text.specs.declared.statements.Line.{Line}
use Rattle.asm_text.specs.declared.statements.AsmFault.{AsmFault}
use Rattle.asm_text.specs.declared.statements.AsmFault.TheVariants.{Syntax, Range, NoLabel, LabelTwice, TooLarge}
use Rattle.asm_text.specs.Lines.{lines}
use Rattle.asm_text.specs.HexLines.{most_words}
use Rattle.asm_text.specs.Mnemonics.{instr_of, with_operand}
use Rattle.asm_text.specs.AsmLines.{line_of}

infixl 10 ◌>>=◌
abbrev pub ◌>>=◌ : {A B : Type 0} → Result A AsmFault → (A → Result B AsmFault) → Result B AsmFault
Ok x >>= f = f x
Err fault >>= f = Err fault

-- the position in line n of the byte from which this many are left
abbrev pub pos_at : ℕ → List ℕ → ℕ → Pos
pos_at n line left = record { line = n; col = length line - left + 1 }

abbrev pub text_of : List ℕ → Span → List ℕ
text_of line span = take span.len (drop (length line - span.left) line)

-- what line n says
abbrev pub line_or_fault : ℕ → List ℕ → Result Line ℕ → Result Line AsmFault
line_or_fault n line (Ok said) = Ok said
line_or_fault n line (Err left) = Err (Syntax (pos_at n line left))

abbrev pub said_in : ℕ → List ℕ → Result Line AsmFault
said_in n line = line_or_fault n line (line_of line)

-- the labels of some lines in order, each with the number of the word that it stands before
abbrev pub Labels : Type 0
Labels = List (List ℕ × ℕ)

unfoldable pub place_of : List ℕ → Labels → Option ℕ
place_of name [] = None
place_of name (label ∷ more) = if bytes_eq label.0 name then Some label.1 else place_of name more

-- ---- the first pass

abbrev pub misfit_of : Option Statement → Option ℕ
misfit_of None = None
misfit_of (Some statement) = statement.misfit

-- that each number of line n fits
abbrev pub fitting : ℕ → List ℕ → Option ℕ → Result (Unit {0}) AsmFault
fitting n line None = Ok tt
fitting n line (Some left) = Err (Range (pos_at n line left))

-- the labels with that of line n, which stands before this word
abbrev pub with_label : ℕ → List ℕ → ℕ → Labels → Option Span → Result Labels AsmFault
with_label n line word labels None = Ok labels
with_label n line word labels (Some span) =
    if is_some (place_of (text_of line span) labels) then Err (LabelTwice (pos_at n line span.left))
    else Ok (labels ++ (text_of line span, word) ∷ [])

-- the number of words with that of line n
abbrev pub with_word_of : ℕ → ℕ → Option Statement → Result ℕ AsmFault
with_word_of n words None = Ok words
with_word_of n words (Some statement) =
    if words == most_words then Err (TooLarge (record { line = n; col = 1 }) (most_words + 1)) else Ok (words + 1)

-- The words and the labels up to line n, from those before it. A fault of the line is the first of these: it is no line, a
-- number does not fit, its label was there before, its word is one too many.
unfoldable pub counted : ℕ → List ℕ → ℕ → Labels → Result (ℕ × Labels) AsmFault
counted n line words labels = do
  said ← said_in n line
  fit ← fitting n line (misfit_of said.statement)
  more ← with_label n line words labels said.label
  count ← with_word_of n words said.statement
  Ok (count, more)

-- the labels of some lines, of which the first has number n, behind these words and labels
unfoldable pub labels_from : ℕ → List (List ℕ) → ℕ → Labels → Result Labels AsmFault
labels_from n [] words labels = Ok labels
labels_from n (line ∷ rest) words labels = counted n line words labels >>= λ (count, more). labels_from (n + 1) rest count more

-- ---- the second pass

-- the word that a mnemonic's operands make: that of its instruction, and for `.word` the number itself
abbrev pub word_or_number : Option Instr → ℕ → ℕ
word_or_number (Some i) number = word_of i
word_or_number None number = number

abbrev pub word_of_statement : Statement → ℕ
word_of_statement s = word_or_number (instr_of s.mnemonic s.operands) s.operands.third

-- the distance in bytes from one word to another, as a word of 32 bits
abbrev pub distance : ℕ → ℕ → ℕ
distance from to = (4 * to + 2 ^ 32 - 4 * from) % 2 ^ 32

abbrev pub fits_some : Option Instr → Bool
fits_some (Some i) = fits_of i
fits_some None = true

-- a statement whose label stands before the word with this number, if that is not too far
abbrev pub with_distance : ℕ → List ℕ → ℕ → Statement → Span → Option ℕ → Result ℕ AsmFault
with_distance n line word s span None = Err (NoLabel (pos_at n line span.left))
with_distance n line word s span (Some place) =
    let whole = record s { operands = with_operand s.operands (distance word place) } in
    if fits_some (instr_of whole.mnemonic whole.operands) then Ok (word_of_statement whole)
    else Err (Range (pos_at n line span.left))

abbrev pub resolved : ℕ → List ℕ → Labels → ℕ → Statement → Option Span → Result ℕ AsmFault
resolved n line labels word s None = Ok (word_of_statement s)
resolved n line labels word s (Some span) = with_distance n line word s span (place_of (text_of line span) labels)

abbrev pub word_in_list : Result ℕ AsmFault → Result (List ℕ) AsmFault
word_in_list (Ok word) = Ok (word ∷ [])
word_in_list (Err fault) = Err fault

-- the word of line n, if it has one: the word with this number
abbrev pub words_of_statement : ℕ → List ℕ → Labels → ℕ → Option Statement → Result (List ℕ) AsmFault
words_of_statement n line labels word None = Ok []
words_of_statement n line labels word (Some s) = word_in_list (resolved n line labels word s s.target)

unfoldable pub words_of_line : ℕ → List ℕ → Labels → ℕ → Result (List ℕ) AsmFault
words_of_line n line labels word = said_in n line >>= λ said. words_of_statement n line labels word said.statement

abbrev pub appended : List ℕ → Result (List ℕ) AsmFault → Result (List ℕ) AsmFault
appended words (Ok more) = Ok (words ++ more)
appended words (Err fault) = Err fault

-- the words of some lines, of which the first has number n, behind this many words
unfoldable pub words_from : ℕ → List (List ℕ) → Labels → ℕ → Result (List ℕ) AsmFault
words_from n [] labels before = Ok []
words_from n (line ∷ rest) labels before =
    words_of_line n line labels before >>= λ words. appended words (words_from (n + 1) rest labels (before + length words))

-- The words of a text: first over all lines the faults of one line and the labels, then over all lines the words, where a
-- label may not stand in any line, or be too far.
abbrev pub assembled : List ℕ → Result (List ℕ) AsmFault
assembled text = labels_from 1 (lines text) 0 [] >>= λ labels. words_from 1 (lines text) labels 0
