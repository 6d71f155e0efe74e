-- Macros (C99, section 6.10.3, as far as the language has them): a name that is a macro is replaced by its replacement, and
-- the names in that are replaced in turn, but a name is not replaced inside its own replacement.
use Rattle.std.specs.Prelude.{ℕ, zero, suc, Bool, true, false, not, List, [], ◌∷◌, length, Option, None, Some, filter, codes}
use Rattle.std.specs.List.{flat_map, fold}
use Rattle.std.specs.Str.{bytes_eq}
use Rattle.std.specs.Map.{lookup}
use Rattle.indexmap.specs.IndexMap.{insert_entry, swap_remove_entry}
use Rattle.vx_base.specs.declared.types.Pos.{Pos}
use Rattle.ocl_tokens.specs.declared.marks.Mark.TheVariants as mark
use Rattle.ocl_lex.specs.declared.parts.Lexeme.{Lexeme}
use Rattle.ocl_lex.specs.declared.parts.Lexeme.TheVariants as part
use Rattle.ocl_lex.specs.declared.pieces.Piece.{Piece}
use Rattle.ocl_lex.specs.declared.predefined.Predefined.{Predefined}
use Rattle.ocl_lex.specs.declared.predefined.Predefined.TheVariants as predefined
use Rattle.ocl_lex.specs.Events.{Event, Show, Use}
use Rattle.ocl_lex.specs.Parts.{between, name_of, token_at}

-- Names and replacements. Their order says nothing.
abbrev pub Macros : Type 0
Macros = List (List ℕ × List Lexeme)

abbrev pub replacement_of : List ℕ → Macros → Option (List Lexeme)
replacement_of name macros = lookup (bytes_eq name) macros

-- a second definition takes the place of the first
abbrev pub defined : List ℕ → List Lexeme → Macros → Macros
defined name body macros = insert_entry bytes_eq macros name body

-- the last macro takes the place of one that is taken out
abbrev pub undefined : List ℕ → Macros → Macros
undefined name macros = swap_remove_entry (bytes_eq name) macros

abbrev pub without : List ℕ → Macros → Macros
without name macros = filter (λ m. not (bytes_eq name m.0)) macros

-- the replacement of a part, if it is a name that has one
abbrev pub found : List ℕ → Macros → Lexeme → Option (List Lexeme)
found text macros (part.Name start end) = replacement_of (between text start end) macros
found text macros (part.Number value unsigned) = None
found text macros (part.Mark m) = None

abbrev pub used : Pos → Option (List Lexeme) → (List Lexeme → List Event) → List Event → List Event
used pos None inner plain = plain
used pos (Some body) inner plain = Use pos ∷ inner body

-- What a part at a piece shows. Inside a replacement the macro's own name is none of the macros, so replacements stand at
-- most n deep where there are n macros.
unfoldable pub shows : List ℕ → ℕ → Macros → Bool → Piece → Lexeme → List Event
shows text zero macros made at p = Show (token_at text made at p) ∷ []
shows text (suc n) macros made at p =
    used at.pos (found text macros p) (flat_map (shows text n (without (name_of text p) macros) true at)) (Show (token_at text made at p) ∷ [])

abbrev pub replaced : List ℕ → Macros → Bool → Piece → Lexeme → List Event
replaced text macros = shows text (length macros) macros

-- ---- the macros that are there from the start

abbrev pub predefined_name : Predefined → List ℕ
predefined_name predefined.OpenclVersion = codes "__OPENCL_VERSION__"
predefined_name predefined.OpenclCVersion = codes "__OPENCL_C_VERSION__"
predefined_name predefined.Version12 = codes "CL_VERSION_1_2"
predefined_name predefined.LocalFence = codes "CLK_LOCAL_MEM_FENCE"
predefined_name predefined.GlobalFence = codes "CLK_GLOBAL_MEM_FENCE"
predefined_name predefined.CharBit = codes "CHAR_BIT"
predefined_name predefined.CharMax = codes "CHAR_MAX"
predefined_name predefined.ScharMax = codes "SCHAR_MAX"
predefined_name predefined.CharMin = codes "CHAR_MIN"
predefined_name predefined.ScharMin = codes "SCHAR_MIN"
predefined_name predefined.ShrtMax = codes "SHRT_MAX"
predefined_name predefined.ShrtMin = codes "SHRT_MIN"
predefined_name predefined.IntMax = codes "INT_MAX"
predefined_name predefined.IntMin = codes "INT_MIN"
predefined_name predefined.UcharMax = codes "UCHAR_MAX"
predefined_name predefined.UshrtMax = codes "USHRT_MAX"
predefined_name predefined.UintMax = codes "UINT_MAX"

abbrev pub int : ℕ → Lexeme
int value = part.Number value false

-- a number alone, and `(-value - 1)`
abbrev pub one_number : ℕ → List Lexeme
one_number value = int value ∷ []

abbrev pub minus_number_minus_one : ℕ → List Lexeme
minus_number_minus_one value = part.Mark mark.OpenParen ∷ part.Mark mark.Minus ∷ int value ∷ part.Mark mark.Minus ∷ int 1 ∷ part.Mark mark.CloseParen ∷ []

abbrev pub predefined_body : Predefined → List Lexeme
predefined_body predefined.OpenclVersion = one_number 120
predefined_body predefined.OpenclCVersion = one_number 120
predefined_body predefined.Version12 = one_number 120
predefined_body predefined.LocalFence = one_number 1
predefined_body predefined.GlobalFence = one_number 2
predefined_body predefined.CharBit = one_number 8
predefined_body predefined.CharMax = one_number 127
predefined_body predefined.ScharMax = one_number 127
predefined_body predefined.CharMin = minus_number_minus_one 127
predefined_body predefined.ScharMin = minus_number_minus_one 127
predefined_body predefined.ShrtMax = one_number 32767
predefined_body predefined.ShrtMin = minus_number_minus_one 32767
predefined_body predefined.IntMax = one_number 2147483647
predefined_body predefined.IntMin = minus_number_minus_one 2147483647
predefined_body predefined.UcharMax = one_number 255
predefined_body predefined.UshrtMax = one_number 65535
predefined_body predefined.UintMax = part.Number 4294967295 true ∷ []

abbrev pub all_predefined : List Predefined
all_predefined = predefined.OpenclVersion ∷ predefined.OpenclCVersion ∷ predefined.Version12 ∷ predefined.LocalFence ∷ predefined.GlobalFence ∷ predefined.CharBit ∷ predefined.CharMax ∷ predefined.ScharMax ∷ predefined.CharMin ∷ predefined.ScharMin ∷ predefined.ShrtMax ∷ predefined.ShrtMin ∷ predefined.IntMax ∷ predefined.IntMin ∷ predefined.UcharMax ∷ predefined.UshrtMax ∷ predefined.UintMax ∷ []

abbrev pub with_predefined : Macros → Predefined → Macros
with_predefined macros m = defined (predefined_name m) (predefined_body m) macros

unfoldable pub predefined_macros : Macros
predefined_macros = fold with_predefined [] all_predefined
