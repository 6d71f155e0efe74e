-- Digits read one after another.
use Rattle.std.proofs.Common.{◌≡◌, ℕ, ◌+◌, ◌*◌, ◌^◌, ◌<◌, ◌≤◌, List, length, take, refl, sym, arith, None, false}
use Rattle.std.specs.Prelude.{slice_index, nat_lt}
use Rattle.std.specs.Char.{digit_value}
use Rattle.std.specs.Str.Parse.{digits_value}
use Rattle.std.proofs.lemmas.Bool.Decides.{nat_tests}
use Rattle.std.proofs.lemmas.Int.Digits.{digits_value_more}
use Rattle.std.proofs.lemmas.Str.Parse.{digits_value-take-le}
use Rattle.ocl_lex.specs.Literals.{below_limit}

pub record ReadsDigits (base : ℕ) (digits : List ℕ) (i value : ℕ) : Type 0 where
  pub so_far : value ≡ digits_value base (take i digits)
  pub small : value < 2 ^ 32

pub next_value : (base value : ℕ) (ds : List ℕ) (i : ℕ) → i < length ds → value ≡ digits_value base (take i ds)
    → value * base + digit_value (slice_index ds i) ≡ digits_value base (take (i + 1) ds)
next_value base value ds i within so_far = rw so_far (sym (digits_value_more base ds i within))

pub too_large : (base value : ℕ) (ds : List ℕ) (i : ℕ) → 1 ≤ base → i < length ds → value ≡ digits_value base (take i ds)
    → 2 ^ 32 ≤ value * base + digit_value (slice_index ds i) → None ≡ below_limit (digits_value base ds)
too_large base value ds i some within so_far large =
    let now : value * base + digit_value (slice_index ds i) ≡ digits_value base (take (i + 1) ds) = next_value base value ds i within so_far in
    let more : digits_value base (take (i + 1) ds) ≤ digits_value base ds = digits_value-take-le base ds (i + 1) some in
    let large : 0x1_0000_0000 ≤ digits_value base ds = omega arith in
    let test : nat_lt (digits_value base ds) 0x1_0000_0000 ≡ false = grind (arith, nat_tests) in
    rw test refl
