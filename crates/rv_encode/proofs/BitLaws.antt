-- Laws of shifts and masks.
use Rattle.std.proofs.Common.{◌≡◌, ℕ, zero, suc, ◌+◌, ◌-◌, ◌*◌, ◌/◌, ◌%◌, ◌^◌, ◌<◌, ◌≤◌, inl, inr, ap, sym, ◌∙◌, arith}
use Rattle.std.specs.Prelude.{bit_and, bit_or, nat_lt}
use Rattle.std.proofs.lemmas.Bool.{cases_lt, cond-true, cond-false, lt-ltb, le-ltb}
use Rattle.std.proofs.Math.Nat.{mod-eq_of_lt}
use Rattle.std.proofs.lemmas.Nat.{and_mask, or_shifted, pow_pos, pow-add, div_below, le-div}
use Rattle.std.proofs.lemmas.Nat.Bits.{ones_shr, ones_shl}
use Rattle.vx_isa.specs.Rows.{sign_extended}
use Rattle.vx_isa.specs.Words.{bits}

-- a shift and a mask leave the bits from one place down to another
pub masked_bits : (w high low : ℕ) → low ≤ high → high < 32 → bit_and (w / 2 ^ low) (4294967295 / 2 ^ (31 - (high - low))) ≡ bits high low w
masked_bits w high low ordered small =
    let ones : (2 ^ 32 - 1) / 2 ^ (31 - (high - low)) ≡ 2 ^ (32 - (31 - (high - low))) - 1 = ones_shr 32 (31 - (high - low)) (omega arith) in
    let count : 32 - (31 - (high - low)) ≡ suc high - low = omega arith in
    ap (λ m. bit_and (w / 2 ^ low) m) (ones ∙ ap (λ k. 2 ^ k - 1) count) ∙ and_mask (w / 2 ^ low) (suc high - low)

-- a number moved up, with another one in the bits that it left
pub joined_bits : (high low width : ℕ) → low < 2 ^ width → high * 2 ^ width < 2 ^ 32 → bit_or (high * 2 ^ width % 2 ^ 32) low ≡ high * 2 ^ width + low
joined_bits high low width small word =
    ap (λ h. bit_or h low) (mod-eq_of_lt word) ∙ or_shifted high width low small

-- a number below half of its range has its top bit clear, and only then
below_half : (n k : ℕ) → n / 2 ^ k ≡ 0 → n < 2 ^ k
below_half n k clear =
    elim (cases_lt n (2 ^ k)) [
      | inl below ↦ below
      | inr above ↦ let one : 1 ≤ n / 2 ^ k = le-div 1 n (2 ^ k) (pow_pos k) (omega arith) in absurd (omega arith)
    ]

above_half : (n k : ℕ) → (n / 2 ^ k ≡ 0 → ⊥) → 2 ^ k ≤ n
above_half n k set =
    elim (cases_lt n (2 ^ k)) [
      | inl below ↦ let none : n / 2 ^ k < 1 = div_below n (2 ^ k) 1 (pow_pos k) (omega arith) in absurd (set (omega arith))
      | inr above ↦ above
    ]

-- the sign bit is clear in the lower half
pub sign_clear : (n width : ℕ) → n / 2 ^ (width - 1) ≡ 0 → sign_extended width n ≡ n
sign_clear n width clear = cond-true (nat_lt n (2 ^ (width - 1))) n (n + (2 ^ 32 - 2 ^ width)) (lt-ltb n (2 ^ (width - 1)) (below_half n (width - 1) clear))

-- a product without one of its rows
less_one_row : (a b whole : ℕ) → 0 < a → whole ≡ a * b → whole - b ≡ (a - 1) * b
less_one_row zero b whole some same = absurd (omega arith)
less_one_row (suc a) b whole some same =
    let less : suc a - 1 ≡ a = omega arith in
    rw less (omega arith)

-- ones above a number of so many bits
ones_above : (n width : ℕ) → width < 32 → n < 2 ^ width → bit_or (4294967295 * 2 ^ width % 2 ^ 32) n ≡ n + (2 ^ 32 - 2 ^ width)
ones_above n width narrow fits =
    let ones : 4294967295 * 2 ^ width % 2 ^ 32 ≡ 2 ^ 32 - 2 ^ width = ones_shl 32 width (omega arith) in
    let whole : 2 ^ (32 - width + width) ≡ 2 ^ (32 - width) * 2 ^ width = pow-add 2 (32 - width) width in
    let word : 32 - width + width ≡ 32 = omega arith in
    let same : 2 ^ (32 - width + width) ≡ 2 ^ 32 = ap (λ k. 2 ^ k) word in
    let some : 0 < 2 ^ (32 - width) = pow_pos (32 - width) in
    let moved : 2 ^ 32 - 2 ^ width ≡ (2 ^ (32 - width) - 1) * 2 ^ width = less_one_row (2 ^ (32 - width)) (2 ^ width) (2 ^ 32) some (sym same ∙ whole) in
    let joined : bit_or ((2 ^ (32 - width) - 1) * 2 ^ width) n ≡ (2 ^ (32 - width) - 1) * 2 ^ width + n = or_shifted (2 ^ (32 - width) - 1) width n fits in
    ap (λ m. bit_or m n) (ones ∙ moved) ∙ joined ∙ omega arith

-- the sign bit is set in the upper half, and so are the bits above it
pub sign_set : (n width : ℕ) → width < 32 → n < 2 ^ width → (n / 2 ^ (width - 1) ≡ 0 → ⊥) → bit_or (4294967295 * 2 ^ width % 2 ^ 32) n ≡ sign_extended width n
sign_set n width narrow fits set =
    ones_above n width narrow fits
    ∙ sym (cond-false (nat_lt n (2 ^ (width - 1))) n (n + (2 ^ 32 - 2 ^ width)) (le-ltb n (2 ^ (width - 1)) (above_half n (width - 1) set)))
