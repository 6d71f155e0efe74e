-- Laws of masks and their bits.
use Rattle.std.proofs.Common.{◌≡◌, ℕ, ◌+◌, ◌-◌, ◌*◌, ◌/◌, ◌^◌, ◌<◌, ◌≤◌, ◌↔◌, inl, inr, ap, subst, sym, ◌∙◌, arith}
use Rattle.std.specs.Int.{IsBitSet, bit_at, w32, trailing_zeros}
use Rattle.std.proofs.lemmas.Bool.{cases_lt, cases_eq}
use Rattle.std.proofs.lemmas.Nat.{pow_pos}
use Rattle.std.proofs.lemmas.Nat.Bits.{and_pow, bit_at-lt, bit_at-zero, bit_at_ones, bit_at_ones_above, bit_at_above, ones_shr, same_from_bits_below, bit_at-trailing_zeros}
use Rattle.vx_base.specs.Masks.{IsLeastBit}

-- a bit that is set is 1
pub bit_of_set : (n k : ℕ) → IsBitSet n k → bit_at n k ≡ 1
bit_of_set n k is_set =
    elim (cases_eq (bit_at n k) 0) [
      | inl zero_bit ↦ absurd (is_set (and_pow n k ∙ ap (λ (b : ℕ). b * 2 ^ k) zero_bit ∙ omega arith))
      | inr not_zero ↦ omega (arith, bit_at-lt n k)
    ]

-- a bit that is 1 is set
pub set_of_bit : (n k : ℕ) → bit_at n k ≡ 1 → IsBitSet n k
set_of_bit n k one = λ none.
    let value : 0 ≡ bit_at n k * 2 ^ k = sym none ∙ and_pow n k in
    let power : bit_at n k * 2 ^ k ≡ 1 * 2 ^ k = ap (λ (b : ℕ). b * 2 ^ k) one in
    omega (arith, pow_pos k)

-- a bit that is 0 is not set
pub unset_of_bit : (n k : ℕ) → bit_at n k ≡ 0 → ¬ IsBitSet n k
unset_of_bit n k none = λ is_set. let one : bit_at n k ≡ 1 = bit_of_set n k is_set in omega arith

-- a bit that is not set is 0
pub bit_of_unset : (n k : ℕ) → ¬ IsBitSet n k → bit_at n k ≡ 0
bit_of_unset n k unset =
    elim (cases_eq (bit_at n k) 1) [
      | inl one ↦ absurd (unset (set_of_bit n k one))
      | inr not_one ↦ omega (arith, bit_at-lt n k)
    ]

-- a mask of so many ones has the bits below
pub bits_of_ones : (mask lanes k : ℕ) → mask + 1 ≡ 2 ^ lanes → IsBitSet mask k ↔ (k < lanes)
bits_of_ones mask lanes k ones =
    let form : mask ≡ 2 ^ lanes - 1 = omega arith in (
      λ is_set. elim (cases_lt k lanes) [
        | inl below ↦ below
        | inr above ↦ absurd (unset_of_bit mask k (ap (λ (m : ℕ). bit_at m k) form ∙ bit_at_ones_above lanes k above) is_set)
      ],
      λ below. set_of_bit mask k (ap (λ (m : ℕ). bit_at m k) form ∙ bit_at_ones lanes k below),
    )

-- two numbers in which bit k is set or is not set have the same bit k
same_bit : (a b k : ℕ) → IsBitSet a k ↔ IsBitSet b k → bit_at a k ≡ bit_at b k
same_bit a b k same =
    elim (cases_eq (bit_at a k) 1) [
      | inl one ↦ one ∙ sym (bit_of_set b k (same.0 (set_of_bit a k one)))
      | inr not_one ↦
          let unset : ¬ IsBitSet a k = λ is_set. not_one (bit_of_set a k is_set) in
          bit_of_unset a k unset ∙ sym (bit_of_unset b k (λ is_set. unset (same.1 is_set)))
    ]

-- two masks below 2 ^ 32 with the same bits are equal
pub same_masks : (a b : ℕ) → a < 2 ^ 32 → b < 2 ^ 32 → ((k : ℕ) → k < 32 → IsBitSet a k ↔ IsBitSet b k) → a ≡ b
same_masks a b below below' same = same_from_bits_below 32 a b below below' (λ k within. same_bit a b k (same k within))

-- a mask below 2 ^ 32 has no bit from 32 on
pub bit_below_word : (mask k : ℕ) → mask < 2 ^ 32 → IsBitSet mask k → k < 32
bit_below_word mask k below is_set =
    elim (cases_lt k 32) [
      | inl within ↦ within
      | inr above ↦ absurd (unset_of_bit mask k (bit_at_above mask 32 k below above) is_set)
    ]

-- the empty mask has no bit
pub no_bit : (k : ℕ) → ¬ IsBitSet 0 k
no_bit k = unset_of_bit 0 k (bit_at-zero k)

-- a mask with a least bit is not empty
pub IsLeastBit-some : (mask k : ℕ) → IsLeastBit mask k → 0 < mask
IsLeastBit-some mask k least =
    elim (cases_eq mask 0) [
      | inl none ↦ absurd (no_bit k (subst (λ (m : ℕ). IsBitSet m k) none least.is_set))
      | inr some ↦ omega arith
    ]

-- the ones that a shift of all ones to the right leaves
pub ones_of_shift : (lanes : ℕ) → lanes ≤ 32 → 4294967295 / 2 ^ (32 - lanes) + 1 ≡ 2 ^ lanes
ones_of_shift lanes word =
    let shifted : (2 ^ 32 - 1) / 2 ^ (32 - lanes) ≡ 2 ^ (32 - (32 - lanes)) - 1 = ones_shr 32 (32 - lanes) (omega arith) in
    let left : 32 - (32 - lanes) ≡ lanes = omega arith in
    let power : 2 ^ (32 - (32 - lanes)) ≡ 2 ^ lanes = ap (λ (k : ℕ). 2 ^ k) left in
    omega (arith, pow_pos lanes)

-- how many zeros a word ends in tells its least bit
pub least_bit : (mask : ℕ) → 0 < mask → mask < 2 ^ 32 → IsLeastBit mask (trailing_zeros w32 mask)
least_bit mask some below =
    let place = bit_at-trailing_zeros w32 mask some below in
    record {
      is_set = set_of_bit mask (trailing_zeros w32 mask) place.1;
      none_below = λ j less. unset_of_bit mask j (place.2 j less);
    }
