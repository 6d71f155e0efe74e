-- Literals: decimal, octal behind `0` and hexadecimal behind `0x` (C99, section 6.4.4.1), below 2^32.
use Rattle.std.specs.Prelude.{ℕ, ◌-◌, ◌==◌, nat_lt, nat_le, Bool, true, false, not, ◌&&◌, ◌||◌, if◌then◌else◌, List, length, take, drop, slice_index, Option, None, Some}
use Rattle.std.specs.Char.{is_digit}
use Rattle.std.specs.List.{list_all}
use Rattle.std.specs.Option.{option_map}
use Rattle.std.specs.Str.Parse.{digits_value}
use Rattle.ocl_lex.specs.declared.literals.Literal.{Literal}

-- one digit or more
abbrev pub is_numeral : ℕ → List ℕ → Bool
is_numeral base digits = not (length digits == 0) && list_all (λ c. is_digit c base) digits

abbrev pub below_limit : ℕ → Option ℕ
below_limit value = if nat_lt value 0x1_0000_0000 then Some value else None

unfoldable pub value_of : ℕ → List ℕ → Option ℕ
value_of base digits = if is_numeral base digits then below_limit (digits_value base digits) else None

abbrev pub is_hexadecimal : List ℕ → Bool
is_hexadecimal text = slice_index text 0 == 48 && (slice_index text 1 == 120 || slice_index text 1 == 88)

-- the value of a text without suffix
unfoldable pub unsuffixed_value : List ℕ → Option ℕ
unsuffixed_value text =
    if is_hexadecimal text then value_of 16 (drop 2 text)
    else (if slice_index text 0 == 48 then value_of 8 text else value_of 10 text)

-- whether the last byte is `u` or `U`
abbrev pub ends_in_u : List ℕ → Bool
ends_in_u text = slice_index text (length text - 1) == 117 || slice_index text (length text - 1) == 85

-- a literal is uint where it has the suffix or a value of 2^31 or more
abbrev pub typed_literal : Bool → ℕ → Literal
typed_literal suffix value = record { value = value; unsigned = suffix || nat_le 0x8000_0000 value }

unfoldable pub literal_of : List ℕ → Option Literal
literal_of text =
    if ends_in_u text then option_map (typed_literal true) (unsuffixed_value (take (length text - 1) text))
    else option_map (typed_literal false) (unsuffixed_value text)
