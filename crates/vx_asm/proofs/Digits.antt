-- What digits say is small enough for a word of 64 bits.
use Rattle.std.proofs.Common.{◌≡◌, ℕ, zero, suc, ◌+◌, ◌*◌, ◌^◌, ◌<◌, ◌≤◌, ◌⊎◌, inl, inr, Bool, true, false, List, [], ◌∷◌, length, take, refl, sym, arith}
use Rattle.std.specs.Prelude.{slice_index}
use Rattle.std.specs.Char.{is_digit, digit_value}
use Rattle.std.specs.List.{prefix_len}
use Rattle.std.specs.Str.Parse.{digits_value, AllDigits}
use Rattle.std.proofs.lemmas.Bool.Decides.{nat_tests}
use Rattle.std.proofs.lemmas.Int.Digits.{digits_value_more, digits_value-lt}
use Rattle.std.proofs.lemmas.Str.Parse.{digits_value-take-le}
use Rattle.std.proofs.lemmas.List.{length-take}
use Rattle.std.proofs.Math.Nat.{pow-le-pow_right}

pub next_value : (base value : ℕ) (ds : List ℕ) (i : ℕ) → i < length ds → value ≡ digits_value base (take i ds)
    → value * base + digit_value (slice_index ds i) ≡ digits_value base (take (i + 1) ds)
next_value base value ds i within so_far = rw so_far (sym (digits_value_more base ds i within))

pub next_fits : (base value : ℕ) (ds : List ℕ) (i : ℕ) → 1 ≤ base → digits_value base ds < 2 ^ 64 → i < length ds → value ≡ digits_value base (take i ds)
    → value * base + digit_value (slice_index ds i) < 2 ^ 64
next_fits base value ds i some fits within so_far =
    let now : value * base + digit_value (slice_index ds i) ≡ digits_value base (take (i + 1) ds) = next_value base value ds i within so_far in
    let small : digits_value base (take (i + 1) ds) ≤ digits_value base ds = digits_value-take-le base ds (i + 1) some in
    omega arith

by_test : {P : Type 0} (t : Bool) → (t ≡ true → P) → (t ≡ false → P) → P
by_test true if_true if_false = if_true refl
by_test false if_true if_false = if_false refl

are_digits : (base n : ℕ) (bytes : List ℕ) → n ≤ prefix_len (λ c. is_digit c base) bytes → AllDigits base (take n bytes)
are_digits base zero bytes within = tt
are_digits base (suc n) [] within = absurd (omega arith)
are_digits base (suc n) (b ∷ bytes) within = by_test (is_digit b base)
    (λ t.
    let more : n ≤ prefix_len (λ c. is_digit c base) bytes = omega (arith, rw t at within) in
    let here : digit_value b < base = grind (arith, nat_tests) in
    (here, are_digits base n bytes more))
    (λ t. absurd (omega (arith, rw t at within)))

at_most : (base k v : ℕ) → 1 ≤ base → base ^ 10 ≤ 2 ^ 40 → k ≤ 10 → v < base ^ k → v < 2 ^ 64
at_most base k v some small short below =
    let more : base ^ k ≤ base ^ 10 = pow-le-pow_right some short in
    omega arith

pub short_fits : (base n : ℕ) (bytes : List ℕ) → (base ≡ 10) ⊎ (base ≡ 16) → n ≤ 10 → n ≤ prefix_len (λ c. is_digit c base) bytes → digits_value base (take n bytes) < 2 ^ 64
short_fits base n bytes (inl ten) short within =
    let below : digits_value base (take n bytes) < base ^ length (take n bytes) = digits_value-lt base (take n bytes) (are_digits base n bytes within) in
    let len : length (take n bytes) ≤ 10 = omega (arith, length-take n bytes) in
    at_most base (length (take n bytes)) (digits_value base (take n bytes)) (omega arith) (rw ten (omega arith)) len below
short_fits base n bytes (inr sixteen) short within =
    let below : digits_value base (take n bytes) < base ^ length (take n bytes) = digits_value-lt base (take n bytes) (are_digits base n bytes within) in
    let len : length (take n bytes) ≤ 10 = omega (arith, length-take n bytes) in
    at_most base (length (take n bytes)) (digits_value base (take n bytes)) (omega arith) (rw sixteen (omega arith)) len below
