-- The definitions on small texts.
use Rattle.std.proofs.Common.{◌≡◌, ℕ, [], ◌∷◌, ◌++◌, refl}
use Rattle.std.specs.Prelude.{codes, Ok, Err}
use Rattle.vx_base.specs.declared.types.Pos.{Pos}
use Rattle.asm_text.specs.declared.statements.AsmFault.TheVariants.{Syntax, Range}
use Rattle.asm_text.specs.Lines.{lines}
use Rattle.asm_text.specs.AsmLines.{register_number_at, register_at, digits_at, size_at, number_at, part_at, parts_at, mnemonic_named, known_bytes, statement_at, ended, rest_of_line, named_line, line_of}
use Rattle.asm_text.specs.AsmTexts.{assembled, place_of, counted, labels_from, words_of_line, words_from}

abbrev at : ℕ → ℕ → Pos
at line col = record { line = line; col = col }

five : assembled (codes "addi x1, x0, 5") ≡ Ok (0x00500093 ∷ [])
unfolding lines register_number_at register_at digits_at size_at number_at part_at parts_at mnemonic_named known_bytes statement_at ended rest_of_line named_line line_of place_of counted labels_from words_of_line words_from
five = refl

too_big : assembled (codes "addi x1, x0, 2048") ≡ Err (Range (at 1 14))
unfolding lines register_number_at register_at digits_at size_at number_at part_at parts_at mnemonic_named known_bytes statement_at ended rest_of_line named_line line_of place_of counted labels_from words_of_line words_from
too_big = refl

two_labels : assembled (codes "j1: j1:") ≡ Err (Syntax (at 1 6))
unfolding lines register_number_at register_at digits_at size_at number_at part_at parts_at mnemonic_named known_bytes statement_at ended rest_of_line named_line line_of place_of counted labels_from words_of_line words_from
two_labels = refl

back : assembled (codes "a: jal x0, a # on" ++ 10 ∷ codes "beq x1,x2,b" ++ 10 ∷ codes "b:") ≡ Ok (0x0000006f ∷ 0x00208263 ∷ [])
unfolding lines register_number_at register_at digits_at size_at number_at part_at parts_at mnemonic_named known_bytes statement_at ended rest_of_line named_line line_of place_of counted labels_from words_of_line words_from
back = refl
