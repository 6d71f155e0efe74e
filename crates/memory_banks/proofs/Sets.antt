-- Sets of port numbers, as bits.
use Rattle.std.proofs.Common.{◌≡◌, ℕ, ◌^◌, ◌<◌, ◌≢◌, ◌⊎◌, inl, inr, ap, ◌∙◌, arith, bit_or}
use Rattle.std.specs.Int.{bit_at, bit_not, w32, trailing_zeros}
use Rattle.std.proofs.lemmas.Bool.{cases_lt, cases_eq}
use Rattle.std.proofs.lemmas.Nat.{pow_below, and_le_l}
use Rattle.std.proofs.lemmas.Nat.Bits.{bit_at-lt, bit_at-zero, bit_at_and, bit_at_or, bit_at-pow_same, bit_at-pow_other, bit_at_above, bit_at_clear_same, bit_at_clear_other, bit_at-trailing_zeros, bit_at_ones}
use Rattle.memory_banks.specs.Rule.{Among, one_of, without}

pub none_among : (k : ℕ) → ¬ (Among 0 k)
none_among k is = let zero_bit = bit_at-zero k in omega arith

-- a set below 2 ^ 16 has numbers below 16 alone
pub among_below : (set k : ℕ) → set < 2 ^ 16 → Among set k → k < 16
among_below set k few is =
    elim (cases_lt k 16) [
      | inl below ↦ below
      | inr above ↦ let none = bit_at_above set 16 k few above in absurd (omega arith)
    ]

one_is : (k : ℕ) → k < 32 → one_of k ≡ 2 ^ k
one_is k within = let small : 2 ^ k < 2 ^ 32 = pow_below k 32 within in omega arith

pub among_one : (k : ℕ) → k < 32 → Among (one_of k) k
among_one k within = ap (λ (n : ℕ). bit_at n k) (one_is k within) ∙ bit_at-pow_same k

pub only_one : (k j : ℕ) → k < 32 → Among (one_of k) j → j ≡ k
only_one k j within is =
    elim (cases_eq j k) [
      | inl same ↦ same
      | inr other ↦ let none : bit_at (one_of k) j ≡ 0 = ap (λ (n : ℕ). bit_at n j) (one_is k within) ∙ bit_at-pow_other k j other in absurd (omega arith)
    ]

pub one_below : (k : ℕ) → k < 16 → one_of k < 2 ^ 16
one_below k within = let small : 2 ^ k < 2 ^ 16 = pow_below k 16 within in let is = one_is k (omega arith) in omega arith

pub without_among : (set k j : ℕ) → Among (without set k) j → Among set j
without_among set k j is = let both = bit_at_and set (bit_not w32 (one_of k)) j in omega (arith, bit_at-lt set j)

pub not_without : (set k : ℕ) → k < 32 → ¬ (Among (without set k) k)
not_without set k within is = let none : bit_at (without set k) k ≡ 0 = bit_at_clear_same w32 set k within in omega arith

pub among_without : (set k j : ℕ) → k < 32 → j < 32 → j ≢ k → Among set j → Among (without set k) j
among_without set k j within inside other is = let same : bit_at (without set k) j ≡ bit_at set j = bit_at_clear_other w32 set k within j inside other in omega arith

pub without_below : (set k : ℕ) → set < 2 ^ 16 → without set k < 2 ^ 16
without_below set k few = omega (arith, and_le_l set (bit_not w32 (one_of k)))

pub either_among : (a b k : ℕ) → Among (bit_or a b) k → Among a k ⊎ Among b k
either_among a b k is =
    let either = bit_at_or a b k in
    elim (cases_eq (bit_at a k) 1) [
      | inl first ↦ inl first
      | inr other ↦ inr (omega (arith, bit_at-lt a k, bit_at-lt b k))
    ]

pub among_left : (a b k : ℕ) → Among a k → Among (bit_or a b) k
among_left a b k is = let either = bit_at_or a b k in omega (arith, bit_at-lt b k)

pub among_right : (a b k : ℕ) → Among b k → Among (bit_or a b) k
among_right a b k is = let either = bit_at_or a b k in omega (arith, bit_at-lt a k)

-- the full set has each number
pub among_all : (k : ℕ) → k < 16 → Among 65535 k
among_all k within = bit_at_ones 16 k within

-- the least number of a set is in it
pub least_among : (set : ℕ) → 0 < set → set < 2 ^ 32 → Among set (trailing_zeros w32 set)
least_among set some few = (bit_at-trailing_zeros w32 set some few).1
