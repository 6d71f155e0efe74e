use Rattle.std.specs.Prelude.{◌≡◌, ℕ, ◌^◌, ◌≤◌, Bool, ◌&&◌, nat_eq, not, IsTrue, true, false, List, [], ◌∷◌}
use Rattle.std.specs.Str.{all_ascii_digits}
use Rattle.std.specs.Str.Parse.{digits_value}
use Rattle.decimal_text.specs.declared.numbers.DecimalFault.{DecimalFault}
use Rattle.decimal_text.specs.declared.numbers.DecimalFault.TheVariants.{NoNumeral, TooLarge}

-- there is a first byte, and where it is a zero it is the only one
abbrev pub leads_well : List ℕ → Bool
leads_well [] = false
leads_well (c ∷ []) = true
leads_well (c ∷ d ∷ ds) = not (nat_eq c 48)

-- one decimal digit or more, and nothing else; a zero stands before no other digit
abbrev pub is_decimal : List ℕ → Bool
is_decimal text = leads_well text && all_ascii_digits text

-- the number that the digits write
abbrev pub decimal_value : List ℕ → ℕ
decimal_value text = digits_value 10 text

-- why a text is no number below 2^64
abbrev pub IsDecimalFault : List ℕ → DecimalFault → Type 0
IsDecimalFault text NoNumeral = is_decimal text ≡ false
IsDecimalFault text TooLarge = IsTrue (is_decimal text) × (2 ^ 64 ≤ decimal_value text)
