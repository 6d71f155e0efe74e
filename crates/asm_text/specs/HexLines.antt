use Rattle.std.specs.Prelude.{ℕ, ◌+◌, nat_lt, min, if◌then◌else◌, List, [], ◌∷◌, ◌++◌, Result, Ok, Err}
use Rattle.std.specs.List.{flat_map, prefix_len}
use Rattle.std.specs.Int.{from_be_bytes, to_be_bytes, w32}
pub use Rattle.hex.specs.Hex.{encode_lower, lower_digits}
unfoldable pub use Rattle.hex.specs.Hex.{encode_with}
use Rattle.hex.specs.Hex.{decode_sized, is_hex_digit}
use Rattle.hex.specs.declared.error.FromHexError.{FromHexError}
use Rattle.asm_text.specs.Lines.{lines}
use Rattle.asm_text.specs.declared.hexadecimal.HexFault.{HexFault}
use Rattle.asm_text.specs.declared.hexadecimal.HexFault.TheVariants.{Syntax, TooLarge}

-- a word's eight digits, the most significant first, and a line feed
abbrev pub hex_line : ℕ → List ℕ
hex_line w = encode_lower (to_be_bytes w32 w) ++ 10 ∷ []

abbrev pub hex_lines : List ℕ → List ℕ
hex_lines words = flat_map hex_line words

-- how many words a text has at most
abbrev pub most_words : ℕ
most_words = 65536

-- what a line's digits give, or the fault at the first byte that cannot go on
abbrev pub word_or_fault : ℕ → List ℕ → Result (List ℕ) FromHexError → Result ℕ HexFault
word_or_fault n line (Ok bytes) = Ok (from_be_bytes w32 bytes)
word_or_fault n line (Err e) = Err (Syntax (record { line = n; col = min 8 (prefix_len is_hex_digit line) + 1 }))

-- The word of a line, which is eight digits of either case. Any other line is refused at the first byte that cannot go
-- on: behind the digits that it begins with, of which the first eight count. The line's end stands behind its last byte.
unfoldable pub hex_word : ℕ → List ℕ → Result ℕ HexFault
hex_word n line = word_or_fault n line (decode_sized line 4)

-- a word and those of the lines behind it, unless it is a word too many
abbrev pub word_before : ℕ → Result ℕ HexFault → Result (List ℕ) HexFault → Result (List ℕ) HexFault
word_before n (Err e) more = Err e
word_before n (Ok w) (Err e) = if nat_lt most_words n then Err (TooLarge (record { line = n; col = 1 }) n) else Err e
word_before n (Ok w) (Ok ws) = if nat_lt most_words n then Err (TooLarge (record { line = n; col = 1 }) n) else Ok (w ∷ ws)

-- the words of some lines, of which the first has number n
unfoldable pub hex_words_from : ℕ → List (List ℕ) → Result (List ℕ) HexFault
hex_words_from n [] = Ok []
hex_words_from n (line ∷ rest) = word_before n (hex_word n line) (hex_words_from (n + 1) rest)

-- The words of a text, a line for each, or the first fault: of the lines in order, and of one line first that it is no
-- word, and then that it is the 65,537th.
abbrev pub hex_words_of : List ℕ → Result (List ℕ) HexFault
hex_words_of text = hex_words_from 1 (lines text)
