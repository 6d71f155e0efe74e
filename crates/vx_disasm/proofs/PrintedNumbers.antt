-- Registers and numbers as they are printed are read back.
use Rattle.std.proofs.Common.{◌≡◌, ℕ, zero, suc, ◌+◌, ◌-◌, ◌*◌, ◌/◌, ◌%◌, ◌^◌, ◌<◌, ◌≤◌, ◌⊎◌, inl, inr, min, Bool, true, false, List, [], ◌∷◌, ◌++◌, length, take, drop, refl, ap, ◌∙◌, arith, pos, negsuc, ◌-ℤ◌}
use Rattle.std.specs.Prelude.{Ok, ◌==◌, nat_lt, slice_index, get_or}
use Rattle.std.specs.Char.{is_digit}
use Rattle.std.specs.List.{prefix_len}
use Rattle.std.specs.Fmt.{decimal, digits, digits_onto, digit_glyph}
use Rattle.std.specs.Str.Parse.{digits_value, AllDigits, IsNumeral}
use Rattle.std.proofs.lemmas.Bool.Decides.{nat_tests}
use Rattle.std.proofs.lemmas.Fmt.{decimal_digit, decimal_step, first_decimal, decimal_is_IsNumeral, digits_is_IsNumeral, length-decimal-le}
use Rattle.std.proofs.lemmas.Int.{ints}
use Rattle.vx_isa.specs.Words.{is_register}
use Rattle.asm_text.specs.AsmLines.{digits_at, size_at, number_at, register_number_at, register_at, is_decimal, is_two_digits, two_digits}
use Rattle.vx_disasm.specs.Texts.{hexadecimal}
use Rattle.vx_disasm.specs.Texts as text

pub by_test : {P : Type 0} (t : Bool) → (t ≡ true → P) → (t ≡ false → P) → P
by_test true if_true if_false = if_true refl
by_test false if_true if_false = if_false refl

-- what may stand behind an operand: nothing, `,`, `(` or `)`
abbrev pub Stops : List ℕ → Type 0
Stops [] = Unit {0}
Stops (c ∷ rest) = (c ≡ 44) ⊎ (c ≡ 40) ⊎ (c ≡ 41)

-- ---- some digits

pub first_of : (ds t : List ℕ) → 0 < length ds → slice_index (ds ++ t) 0 ≡ slice_index ds 0
first_of [] t some = absurd (omega arith)
first_of (d ∷ ds) t some = refl

pub take_front : (ds t : List ℕ) → take (length ds) (ds ++ t) ≡ ds
take_front [] [] = refl
take_front [] (c ∷ t) = refl
take_front (d ∷ ds) t = ap (λ (l : List ℕ). d ∷ l) (take_front ds t)

pub drop_front : (ds t : List ℕ) → drop (length ds) (ds ++ t) ≡ t
drop_front [] t = refl
drop_front (d ∷ ds) t = drop_front ds t

no_digit : (base : ℕ) (t : List ℕ) → base ≤ 16 → Stops t → prefix_len (λ c. is_digit c base) t ≡ 0
no_digit base [] small stops = refl
no_digit base (c ∷ t) small (inl e) = let test : is_digit c base ≡ false = rw e (grind (arith, nat_tests)) in rw test refl
no_digit base (c ∷ t) small (inr (inl e)) = let test : is_digit c base ≡ false = rw e (grind (arith, nat_tests)) in rw test refl
no_digit base (c ∷ t) small (inr (inr e)) = let test : is_digit c base ≡ false = rw e (grind (arith, nat_tests)) in rw test refl

digit_prefix : (base : ℕ) (ds t : List ℕ) → base ≤ 16 → AllDigits base ds → Stops t → prefix_len (λ c. is_digit c base) (ds ++ t) ≡ length ds
digit_prefix base [] t small all stops = no_digit base t small stops
digit_prefix base (d ∷ ds) t small all stops =
    let test : is_digit d base ≡ true = grind (arith, nat_tests) in
    rw (test, digit_prefix base ds t small all.1 stops) (omega arith)

pub digits_read : (base : ℕ) (ds t : List ℕ) (v : ℕ) → base ≤ 16 → IsNumeral base ds → length ds ≤ 10 → digits_value base ds ≡ v → Stops t → digits_at base (ds ++ t) ≡ Ok (v, t)
unfolding digits_at
digits_read base ds t v small numeral short value stops =
    let n : min 10 (prefix_len (λ c. is_digit c base) (ds ++ t)) ≡ length ds = omega (arith, digit_prefix base ds t small numeral.1 stops) in
    let some : (length ds == 0) ≡ false = grind (arith, nat_tests) in
    rw (n, some, take_front ds t, drop_front ds t, value) refl

-- ---- decimal numbers

pub decimal_read : (v : ℕ) (t : List ℕ) → v < 2 ^ 32 → Stops t → digits_at 10 (decimal v ++ t) ≡ Ok (v, t)
decimal_read v t small stops =
    let numeral : IsNumeral 10 (decimal v) × (digits_value 10 (decimal v) ≡ v) = decimal_is_IsNumeral v (omega arith) in
    digits_read 10 (decimal v) t v (omega arith) numeral.0 (length-decimal-le 10 v (omega arith) (omega arith) (omega arith)) numeral.1 stops

second_of_zero : (t : List ℕ) → Stops t → (slice_index t 0 == 120) ≡ false
second_of_zero [] stops = refl
second_of_zero (c ∷ t) (inl e) = rw e refl
second_of_zero (c ∷ t) (inr (inl e)) = rw e refl
second_of_zero (c ∷ t) (inr (inr e)) = rw e refl

-- a decimal number does not begin as a hexadecimal one, and not with `-`
pub first_decimal_byte : (v : ℕ) (t : List ℕ) → v < 2 ^ 32 → (slice_index (decimal v ++ t) 0 ≡ 48) × (v ≡ 0) ⊎ (48 < slice_index (decimal v ++ t) 0) × (0 < v)
first_decimal_byte zero t small = rw (decimal_digit 0 (omega arith)) (inl (refl, refl))
first_decimal_byte (suc n) t small =
    let some : 0 < length (decimal (suc n)) = (decimal_is_IsNumeral (suc n) (omega arith)).0.0 in
    let first : 48 < get_or (decimal (suc n)) 0 0 = first_decimal (suc n) (omega arith) (omega arith) in
    inr (omega (arith, first_of (decimal (suc n)) t some, first), omega arith)

pub size_read : (v : ℕ) (t : List ℕ) → v < 2 ^ 32 → Stops t → size_at (decimal v ++ t) ≡ Ok (v, t)
unfolding size_at
size_read zero t small stops =
    let zero_text : decimal 0 ≡ 48 ∷ [] = decimal_digit 0 (omega arith) in
    let none : (slice_index (decimal 0 ++ t) 1 == 120) ≡ false = rw zero_text (second_of_zero t stops) in
    let first : (slice_index (decimal 0 ++ t) 0 == 48) ≡ true = rw zero_text refl in
    rw (first, none) (decimal_read 0 t small stops)
size_read (suc n) t small stops =
    let some : 0 < length (decimal (suc n)) = (decimal_is_IsNumeral (suc n) (omega arith)).0.0 in
    let first : 48 < get_or (decimal (suc n)) 0 0 = first_decimal (suc n) (omega arith) (omega arith) in
    let test : (slice_index (decimal (suc n) ++ t) 0 == 48) ≡ false = rw (first_of (decimal (suc n)) t some) (grind (arith, nat_tests)) in
    rw test (decimal_read (suc n) t small stops)

not_minus : (v : ℕ) (t : List ℕ) → v < 2 ^ 32 → (slice_index (decimal v ++ t) 0 == 45) ≡ false
not_minus zero t small = rw (decimal_digit 0 (omega arith)) refl
not_minus (suc n) t small =
    let some : 0 < length (decimal (suc n)) = (decimal_is_IsNumeral (suc n) (omega arith)).0.0 in
    let first : 48 < get_or (decimal (suc n)) 0 0 = first_decimal (suc n) (omega arith) (omega arith) in
    rw (first_of (decimal (suc n)) t some) (grind (arith, nat_tests))

pub number_read : (v : ℕ) (t : List ℕ) → v < 2 ^ 32 → Stops t → number_at (decimal v ++ t) ≡ Ok (record { minus = false; size = v }, t)
unfolding number_at
number_read v t small stops = rw (not_minus v t small, size_read v t small stops) refl

pub minus_read : (v : ℕ) (t : List ℕ) → v < 2 ^ 32 → Stops t → number_at (45 ∷ decimal v ++ t) ≡ Ok (record { minus = true; size = v }, t)
unfolding number_at
minus_read v t small stops = rw (size_read v t small stops) refl

-- ---- signed numbers

pub not_negative : (v : ℕ) → v < 2 ^ 31 → text.signed v ≡ decimal v
not_negative v small = let test : nat_lt v (2 ^ 31) ≡ true = grind (arith, nat_tests) in rw test refl

below_zero : (v : ℕ) → v < 2 ^ 32 → pos v -ℤ pos (2 ^ 32) ≡ negsuc (2 ^ 32 - 1 - v)
below_zero v small = grind (arith, ints)

pub negative : (v : ℕ) → 2 ^ 31 ≤ v → v < 2 ^ 32 → text.signed v ≡ 45 ∷ decimal (2 ^ 32 - v)
negative v great small =
    let test : nat_lt v (2 ^ 31) ≡ false = grind (arith, nat_tests) in
    let size : suc (2 ^ 32 - 1 - v) ≡ 2 ^ 32 - v = omega arith in
    rw (test, below_zero v small, size) refl

-- ---- hexadecimal numbers

-- a power of 16
sixteens : ℕ → ℕ
sixteens zero = 1
sixteens (suc j) = 16 * sixteens j

onto_short : (k j n : ℕ) (acc : List ℕ) → n < sixteens (suc j) → length (digits_onto k 16 false n acc) ≤ suc j + length acc
unfolding sixteens
onto_short zero j n acc small = omega arith
onto_short (suc k) zero n acc small =
    let test : (n / 16 == 0) ≡ true = grind (arith, nat_tests) in
    rw test (omega arith)
onto_short (suc k) (suc j) n acc small = by_test (n / 16 == 0)
    (λ t. rw t (omega arith))
    (λ t.
    let more : List ℕ = digit_glyph false (n % 16) ∷ acc in
    let next : n / 16 < sixteens (suc j) = omega arith in
    let short : length (digits_onto k 16 false (n / 16) more) ≤ suc j + length more = onto_short k j (n / 16) more next in
    rw t (omega arith))

pub short : (v : ℕ) → v < 2 ^ 32 → length (hexadecimal v) ≤ 10
unfolding sixteens digits
short v small = omega (arith, onto_short 64 7 v [] (omega arith))

pub hexadecimal_read : (v : ℕ) (t : List ℕ) → v < 2 ^ 32 → Stops t → number_at (48 ∷ 120 ∷ hexadecimal v ++ t) ≡ Ok (record { minus = false; size = v }, t)
unfolding number_at size_at
hexadecimal_read v t small stops =
    let numeral : IsNumeral 16 (hexadecimal v) × (digits_value 16 (hexadecimal v) ≡ v) = digits_is_IsNumeral 16 false (omega arith) (omega arith) v (omega arith) in
    let read : digits_at 16 (hexadecimal v ++ t) ≡ Ok (v, t) = digits_read 16 (hexadecimal v) t v (omega arith) numeral.0 (short v small) numeral.1 stops in
    rw read refl

-- ---- registers

no_decimal : (t : List ℕ) → Stops t → is_decimal (slice_index t 0) ≡ false
no_decimal [] stops = refl
no_decimal (c ∷ t) (inl e) = rw e refl
no_decimal (c ∷ t) (inr (inl e)) = rw e refl
no_decimal (c ∷ t) (inr (inr e)) = rw e refl

one_digit : (v : ℕ) (t : List ℕ) → v < 10 → Stops t → register_number_at (decimal v ++ t) ≡ Ok (v, t)
unfolding register_number_at
one_digit v t small stops =
    let digit : is_decimal (48 + v) ≡ true = grind (arith, nat_tests) in
    let value : 48 + v - 48 ≡ v = omega arith in
    by_test ((48 + v) == 48)
    (λ e. rw (decimal_digit v small, digit, e, value) refl)
    (λ e. rw (decimal_digit v small, digit, e, no_decimal t stops, value) refl)

two_digits_read : (v : ℕ) (t : List ℕ) → 10 ≤ v → v < 32 → register_number_at (decimal v ++ t) ≡ Ok (v, t)
unfolding register_number_at
two_digits_read v t great small =
    let tens : decimal (v / 10) ≡ (48 + v / 10) ∷ [] = decimal_digit (v / 10) (omega arith) in
    let digits : decimal v ≡ (48 + v / 10) ∷ (48 + v % 10) ∷ [] = decimal_step v great (omega arith) ∙ ap (λ (ds : List ℕ). ds ++ ((48 + v % 10) ∷ [])) tens in
    let first : is_decimal (48 + v / 10) ≡ true = grind (arith, nat_tests) in
    let two : is_two_digits (48 + v / 10) (48 + v % 10) ≡ true = grind (arith, nat_tests) in
    let value : two_digits (48 + v / 10) (48 + v % 10) ≡ v = omega arith in
    rw (digits, first, two, value) refl

pub register_read : (v : ℕ) (t : List ℕ) → is_register v ≡ true → Stops t → register_at (120 ∷ decimal v ++ t) ≡ Ok (v, t)
unfolding register_at
register_read v t small stops = by_test (nat_lt v 10)
    (λ e. one_digit v t (grind (arith, nat_tests)) stops)
    (λ e. two_digits_read v t (grind (arith, nat_tests)) (grind (arith, nat_tests)))
