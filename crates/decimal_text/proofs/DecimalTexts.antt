-- Which texts spell numbers in decimal.
use Rattle.std.proofs.Common.{◌≡◌, ◌≢◌, ℕ, zero, suc, ◌^◌, ◌<◌, ◌≤◌, ◌&&◌, inl, inr, true, not, eqb, List, [], ◌∷◌, length, get_or, Result, Ok, Err, refl, sym, ap, ◌∙◌, arith}
use Rattle.std.specs.List.{list_all}
use Rattle.std.specs.Char.{is_ascii_digit}
use Rattle.std.proofs.lemmas.Bool.{and_parts, cases_lt, false≢true, ne_eqb, eq-eqb}
use Rattle.std.specs.Fmt.{decimal}
use Rattle.std.specs.Str.{IsUtf8, all_ascii_digits}
use Rattle.std.specs.Str.Parse.{digits_value, ParsesUnsigned}
use Rattle.std.proofs.lemmas.Fmt.{decimal_digit, first_decimal, parse-decimal, decimal-digits_value, decimal_nonempty, digits_decimal, digits_value-decimal, IsAscii-from_digits}
use Rattle.std.proofs.lemmas.Str.{IsUtf8-from_ascii}
use Rattle.std.proofs.lemmas.Str.Parse.{IsNumeralModel, numerals_by_value, tells_all_ascii_digits, parse_plain, parse_digits}
use Rattle.decimal_text.specs.Numerals.{leads_well, is_decimal, decimal_value}

pub own : IsNumeralModel (λ ds. all_ascii_digits ds ≡ true) (digits_value 10)
own = numerals_by_value (λ ds. all_ascii_digits ds ≡ true) tells_all_ascii_digits

-- a number's text has no sign, and no zero before another digit
pub decimal_plain : (n : ℕ) → n < 2 ^ 64 → (get_or (decimal n) 0 0 ≢ 43) × (get_or (decimal n) 0 0 ≡ 48 → length (decimal n) ≡ 1)
decimal_plain zero lt = rw (decimal_digit 0 (omega arith)) (λ e. omega (arith, e), λ e. refl)
decimal_plain (suc n) lt =
    let first : 48 < get_or (decimal (suc n)) 0 0 = first_decimal (suc n) (omega arith) lt in
    (λ e. omega arith, λ e. absurd (omega arith))

-- what is read from a text without sign or leading zeros is spelled so
pub read_is_spelled : {E : Type 0} (text : List ℕ) (n : ℕ) (r : Result ℕ E) → r ≡ Ok n → ParsesUnsigned 32 10 text r → get_or text 0 0 ≢ 43 → (get_or text 0 0 ≡ 48 → length text ≡ 1) → text ≡ decimal n
read_is_spelled {E = E} text n r is parses no_sign no_zero =
    let plain = parse_plain own {E = E} 32 text r parses no_sign in
    let found = rw is at plain in
    let small : digits_value 10 text < 2 ^ 64 = omega (arith, found.0.2) in
    sym (decimal-digits_value own text found.0.0 found.0.1 no_zero small) ∙ ap decimal (sym found.1)

-- what cannot be read spells no number
pub spelled_is_read : {E : Type 0} (text : List ℕ) (n : ℕ) (r : Result ℕ E) (fault : E) → r ≡ Err fault → ParsesUnsigned 32 10 text r → n < 2 ^ 32 → text ≡ decimal n → ⊥
spelled_is_read {E = E} text n r fault is parses lt e =
    let read = parse-decimal {E = E} 32 n text r lt (omega arith) e parses in
    cc

-- the first byte, where there are few and where there are more
pub leads_short : (text : List ℕ) → length text < 2 → eqb (length text) 1 ≡ leads_well text
leads_short [] few = refl
leads_short (c ∷ []) few = refl
leads_short (c ∷ d ∷ ds) few = absurd (omega (arith, few))

pub leads_long : (text : List ℕ) → 2 ≤ length text → not (eqb (get_or text 0 0) 48) ≡ leads_well text
leads_long [] some = absurd (omega (arith, some))
leads_long (c ∷ []) some = absurd (omega (arith, some))
leads_long (c ∷ d ∷ ds) some = refl

-- each byte is a digit, in two words for it
pub all_digits : (text : List ℕ) → list_all is_ascii_digit text ≡ all_ascii_digits text
all_digits [] = refl
all_digits (c ∷ cs) = ap (λ b. is_ascii_digit c && b) (all_digits cs)

leads_parts : (text : List ℕ) → leads_well text ≡ true → (0 < length text) × (get_or text 0 0 ≡ 48 → length text ≡ 1)
leads_parts [] h = absurd (false≢true h)
leads_parts (c ∷ []) h = (omega arith, λ e. refl)
leads_parts (c ∷ d ∷ ds) h = (omega arith, λ e. absurd (false≢true (sym (ap not (eq-eqb c 48 e)) ∙ h)))

leads_from_parts : (text : List ℕ) → 0 < length text → (get_or text 0 0 ≡ 48 → length text ≡ 1) → leads_well text ≡ true
leads_from_parts [] some lead = absurd (omega (arith, some))
leads_from_parts (c ∷ []) some lead = refl
leads_from_parts (c ∷ d ∷ ds) some lead = ap not (ne_eqb c 48 (λ e. let l : length (c ∷ d ∷ ds) ≡ 1 = lead e in omega (arith, l)))

module _ (text : List ℕ) (plain : is_decimal text ≡ true) where
  parts : (leads_well text ≡ true) × (all_ascii_digits text ≡ true)
  parts = and_parts (leads_well text) (all_ascii_digits text) plain

  pub utf8_decimal : IsUtf8 text
  utf8_decimal = IsUtf8-from_ascii text (IsAscii-from_digits text (own.to text parts.1))

  pub decimal_spelled : decimal_value text < 2 ^ 64 → text ≡ decimal (decimal_value text)
  decimal_spelled small =
      let lead = leads_parts text parts.0 in
      sym (decimal-digits_value own text parts.1 lead.0 lead.1 small)

  -- what is read from it, and what cannot be read
  pub decimal_read : {E : Type 0} (n : ℕ) (r : Result ℕ E) → r ≡ Ok n → ParsesUnsigned 64 10 text r → (decimal_value text < 2 ^ 64) × (n ≡ decimal_value text)
  decimal_read {E = E} n r is parses =
      let found = rw is at (parse_digits own {E = E} 64 text r parses parts.1) in
      (found.0.1, found.1)

  pub decimal_too_large : {E : Type 0} (fault : E) (r : Result ℕ E) → r ≡ Err fault → ParsesUnsigned 64 10 text r → 2 ^ 64 ≤ decimal_value text
  decimal_too_large {E = E} fault r is parses =
      let none = rw is at (parse_digits own {E = E} 64 text r parses parts.1) in
      let lead = leads_parts text parts.0 in
      elim (cases_lt (decimal_value text) (2 ^ 64)) [
        | inl less ↦ absurd (none (lead.0, less))
        | inr more ↦ more
      ]

-- a number's text is decimal
pub spelled_decimal : (n : ℕ) → n < 2 ^ 64 → is_decimal (decimal n) ≡ true
spelled_decimal n small =
    let lead : leads_well (decimal n) ≡ true = leads_from_parts (decimal n) (decimal_nonempty n small) (decimal_plain n small).1 in
    let digits : all_ascii_digits (decimal n) ≡ true = digits_decimal own n small in
    ap (λ b. b && all_ascii_digits (decimal n)) lead ∙ digits

pub spelled_value : (n : ℕ) → n < 2 ^ 64 → decimal_value (decimal n) ≡ n
spelled_value n small = digits_value-decimal own n small
