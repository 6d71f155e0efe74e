-- The punctuators (C99, section 6.4.6, as far as the language has them).
use Rattle.std.specs.Prelude.{ℕ, List, [], ◌∷◌, ◌++◌, codes, Option}
use Rattle.std.specs.Prelude.{nat_eq}
use Rattle.std.specs.List.{find, starts_with}
use Rattle.ocl_tokens.specs.declared.marks.Mark.{Mark}
use Rattle.ocl_tokens.specs.declared.marks.Mark.TheVariants.{OpenParen, CloseParen, OpenBrace, CloseBrace, OpenBracket, CloseBracket, Semicolon, Comma, Question, Colon, Tilde, Bang, Plus, Minus, Star, Slash, Percent, ShiftLeft, ShiftRight, Less, Greater, LessEqual, GreaterEqual, EqualEqual, BangEqual, Ampersand, Caret, Bar, AndAnd, BarBar, Equal, PlusEqual, MinusEqual, StarEqual, SlashEqual, PercentEqual, ShiftLeftEqual, ShiftRightEqual, AmpersandEqual, CaretEqual, BarEqual, PlusPlus, MinusMinus}

abbrev pub spelling_of : Mark → List ℕ
spelling_of OpenParen = codes "("
spelling_of CloseParen = codes ")"
spelling_of OpenBrace = codes "{"
spelling_of CloseBrace = codes "}"
spelling_of OpenBracket = codes "["
spelling_of CloseBracket = codes "]"
spelling_of Semicolon = codes ";"
spelling_of Comma = codes ","
spelling_of Question = codes "?"
spelling_of Colon = codes ":"
spelling_of Tilde = codes "~"
spelling_of Bang = codes "!"
spelling_of Plus = codes "+"
spelling_of Minus = codes "-"
spelling_of Star = codes "*"
spelling_of Slash = codes "/"
spelling_of Percent = codes "%"
spelling_of ShiftLeft = codes "<<"
spelling_of ShiftRight = codes ">>"
spelling_of Less = codes "<"
spelling_of Greater = codes ">"
spelling_of LessEqual = codes "<="
spelling_of GreaterEqual = codes ">="
spelling_of EqualEqual = codes "=="
spelling_of BangEqual = codes "!="
spelling_of Ampersand = codes "&"
spelling_of Caret = codes "^"
spelling_of Bar = codes "|"
spelling_of AndAnd = codes "&&"
spelling_of BarBar = codes "||"
spelling_of Equal = codes "="
spelling_of PlusEqual = codes "+="
spelling_of MinusEqual = codes "-="
spelling_of StarEqual = codes "*="
spelling_of SlashEqual = codes "/="
spelling_of PercentEqual = codes "%="
spelling_of ShiftLeftEqual = codes "<<="
spelling_of ShiftRightEqual = codes ">>="
spelling_of AmpersandEqual = codes "&="
spelling_of CaretEqual = codes "^="
spelling_of BarEqual = codes "|="
spelling_of PlusPlus = codes "++"
spelling_of MinusMinus = codes "--"

-- the punctuators of three bytes, of two and of one
abbrev pub three_bytes : List Mark
three_bytes = ShiftLeftEqual ∷ ShiftRightEqual ∷ []

abbrev pub two_bytes : List Mark
two_bytes = ShiftLeft ∷ ShiftRight ∷ LessEqual ∷ GreaterEqual ∷ EqualEqual ∷ BangEqual ∷ AndAnd ∷ BarBar ∷ PlusEqual ∷ MinusEqual ∷ StarEqual ∷ SlashEqual ∷ PercentEqual ∷ AmpersandEqual ∷ CaretEqual ∷ BarEqual ∷ PlusPlus ∷ MinusMinus ∷ []

abbrev pub one_byte : List Mark
one_byte = OpenParen ∷ CloseParen ∷ OpenBrace ∷ CloseBrace ∷ OpenBracket ∷ CloseBracket ∷ Semicolon ∷ Comma ∷ Question ∷ Colon ∷ Tilde ∷ Bang ∷ Plus ∷ Minus ∷ Star ∷ Slash ∷ Percent ∷ Less ∷ Greater ∷ Ampersand ∷ Caret ∷ Bar ∷ Equal ∷ []

-- the longest punctuator at the front of some bytes
abbrev pub all_marks : List Mark
all_marks = three_bytes ++ two_bytes ++ one_byte

unfoldable pub mark_at : List ℕ → Option Mark
mark_at bytes = find (λ m. starts_with nat_eq bytes (spelling_of m)) all_marks
