-- Laws of sets of lanes and of the least number for which a test holds.
use Rattle.std.proofs.Common.{◌≡◌, ℕ, zero, suc, ◌+◌, ◌-◌, ◌*◌, inl, inr, add-one, mod-eq_of_lt, ◌%◌, ◌^◌, ◌<◌, ◌≤◌, if◌then◌else◌, Bool, true, false, nat_eq, ap, sym, ◌∙◌, subst, arith, refl}
use Rattle.std.specs.Int.{bit_at, bit_not, w32, trailing_zeros}
use Rattle.std.proofs.lemmas.Nat.Bits.{bit_at-lt, bit_at_and, bit_at_not, same_from_bits_below, bit_at_above, bit_at_cat_low, bit_at_cat_high, bit_at-trailing_zeros}
use Rattle.std.proofs.lemmas.Bool.{cases_lt, true≢false}
use Rattle.std.proofs.lemmas.Nat.{and_le_l, or_comm, or_shifted, pow_below}
use Rattle.std.specs.Prelude.{bit_and, bit_or, min, not, ◌&&◌}
use Rattle.std.proofs.Common.{lt_of_le_of_lt}
use Rattle.vx_isa.specs.Warps.{has_lane, least_below, lanes_below, leader}

-- the least number below a bound for which a test holds
pub least_below-found : (n : ℕ) (test : ℕ → Bool) (k : ℕ) → k < n → ((j : ℕ) → j < k → test j ≡ false) → test k ≡ true → least_below n test ≡ k
unfolding least_below
least_below-found zero test k below before holds = omega arith
least_below-found (suc n) test zero below before holds = rw holds refl
least_below-found (suc n) test (suc k) below before holds =
    rw (before 0 (omega arith)) (ap suc (least_below-found n (λ j. test (suc j)) k (omega arith) (λ j less. before (suc j) (omega arith)) holds))

-- and the bound where it holds for none
pub least_below-none : (n : ℕ) (test : ℕ → Bool) → ((j : ℕ) → j < n → test j ≡ false) → least_below n test ≡ n
unfolding least_below
least_below-none zero test never = refl
least_below-none (suc n) test never =
    rw (never 0 (omega arith)) (ap suc (least_below-none n (λ j. test (suc j)) (λ j less. never (suc j) (omega arith))))

-- a lane whose bit is 1 is in the set, and one whose bit is 0 is not
pub has_lane-one : (mask lane : ℕ) → bit_at mask lane ≡ 1 → has_lane mask lane ≡ true
has_lane-one mask lane one = ap (λ (b : ℕ). nat_eq b 1) one

pub has_lane-zero : (mask lane : ℕ) → bit_at mask lane ≡ 0 → has_lane mask lane ≡ false
has_lane-zero mask lane none = ap (λ (b : ℕ). nat_eq b 1) none

-- a mask below 2 ^ 32 has no lane from 32 on
pub has_lane-above : (mask lane : ℕ) → mask < 2 ^ 32 → 32 ≤ lane → has_lane mask lane ≡ false
has_lane-above mask lane below above = has_lane-zero mask lane (bit_at_above mask 32 lane below above)

-- the least lane of a set that is not empty
pub leader-trailing_zeros : (mask : ℕ) → 0 < mask → mask < 2 ^ 32 → leader mask ≡ trailing_zeros w32 mask
leader-trailing_zeros mask some below =
    let place = bit_at-trailing_zeros w32 mask some below in
    least_below-found 32 (has_lane mask) (trailing_zeros w32 mask) place.0
    (λ j less. has_lane-zero mask j (place.2 j less))
    (has_lane-one mask (trailing_zeros w32 mask) place.1)

pub leader-lane : (mask : ℕ) → 0 < mask → mask < 2 ^ 32 → has_lane mask (leader mask) ≡ true
leader-lane mask some below =
    let place = bit_at-trailing_zeros w32 mask some below in
    rw (leader-trailing_zeros mask some below) (has_lane-one mask (trailing_zeros w32 mask) place.1)

-- a set of lanes below a number is below its power
pub lanes_below-lt : (n : ℕ) (test : ℕ → Bool) → lanes_below n test < 2 ^ n
unfolding lanes_below
lanes_below-lt zero test = omega arith
lanes_below-lt (suc n) test =
    elim (test n) as (λ b. lanes_below n test + (if b then 2 ^ n else 0) < 2 ^ suc n) [
      | true ↦ let below = lanes_below-lt n test in let power : 2 ^ suc n ≡ 2 ^ n + 2 ^ n = omega arith in omega arith
      | false ↦ let below = lanes_below-lt n test in let power : 2 ^ suc n ≡ 2 ^ n + 2 ^ n = omega arith in omega arith
    ]

-- a set of lanes below a number, and that lane
pub lanes_below-or : (n : ℕ) (test : ℕ → Bool) → n < 32 → bit_or (lanes_below n test) (1 * 2 ^ n % 2 ^ 32) ≡ lanes_below n test + 2 ^ n
lanes_below-or n test below =
    let power : 1 * 2 ^ n ≡ 2 ^ n = omega arith in
    let fits : 1 * 2 ^ n % 2 ^ 32 ≡ 1 * 2 ^ n = mod-eq_of_lt (subst (λ (p : ℕ). p < 2 ^ 32) (sym power) (pow_below n 32 below)) in
    let disjoint : bit_or (1 * 2 ^ n) (lanes_below n test) ≡ 1 * 2 ^ n + lanes_below n test = or_shifted 1 n (lanes_below n test) (lanes_below-lt n test) in
    ap (λ (p : ℕ). bit_or (lanes_below n test) p) fits ∙ or_comm (lanes_below n test) (1 * 2 ^ n) ∙ disjoint ∙ omega arith

-- one lane more
pub lanes_below-more : (n : ℕ) (test : ℕ → Bool) → n < 32 → true ≡ test n → bit_or (lanes_below n test) (1 * 2 ^ n % 2 ^ 32) ≡ lanes_below (n + 1) test
unfolding lanes_below
lanes_below-more n test below holds = rw (add-one, ← holds) (lanes_below-or n test below)

pub lanes_below-same : (n : ℕ) (test : ℕ → Bool) → false ≡ test n → lanes_below n test ≡ lanes_below (n + 1) test
unfolding lanes_below
lanes_below-same n test fails = rw (add-one, ← fails) (omega arith)

pub lanes_below-zero : (test : ℕ → Bool) → 0 ≡ lanes_below 0 test
unfolding lanes_below
lanes_below-zero test = refl

-- a lane is in the set of those for which a test holds where it holds for it
pub bit_at-lanes_below : (n : ℕ) (test : ℕ → Bool) (k : ℕ) → k < n → bit_at (lanes_below n test) k ≡ (if test k then 1 else 0)
unfolding lanes_below
bit_at-lanes_below zero test k below = let none : ⊥ = omega arith in absurd none
bit_at-lanes_below (suc n) test k below =
    elim (cases_lt k n) [
      | inl less ↦ low_bit (test n) n (lanes_below n test) k less ∙ bit_at-lanes_below n test k less
      | inr not_less ↦
          let last : k ≡ n = omega arith in
          subst (λ (j : ℕ). bit_at (lanes_below n test + (if test n then 2 ^ n else 0)) j ≡ (if test j then 1 else 0)) (sym last)
          (high_bit (test n) n (lanes_below n test) (lanes_below-lt n test))
    ] where
      low_bit : (b : Bool) (n x k : ℕ) → k < n → bit_at (x + (if b then 2 ^ n else 0)) k ≡ bit_at x k
      low_bit true n x k less = let form : x + 2 ^ n ≡ 1 * 2 ^ n + x = omega arith in ap (λ (y : ℕ). bit_at y k) form ∙ bit_at_cat_low 1 n x k less
      low_bit false n x k less = let form : x + 0 ≡ x = omega arith in ap (λ (y : ℕ). bit_at y k) form

      high_bit : (b : Bool) (n x : ℕ) → x < 2 ^ n → bit_at (x + (if b then 2 ^ n else 0)) n ≡ (if b then 1 else 0)
      high_bit true n x below =
          let form : x + 2 ^ n ≡ 1 * 2 ^ n + x = omega arith in
          let place : n - n ≡ 0 = omega arith in
          ap (λ (y : ℕ). bit_at y n) form ∙ bit_at_cat_high 1 n x n below (omega arith) ∙ ap (bit_at 1) place
      high_bit false n x below = let form : x + 0 ≡ x = omega arith in ap (λ (y : ℕ). bit_at y n) form ∙ bit_at_above x n n below (omega arith)

pub has_lane-lanes_below : (n : ℕ) (test : ℕ → Bool) (k : ℕ) → k < n → has_lane (lanes_below n test) k ≡ test k
has_lane-lanes_below n test k below = ap (λ (b : ℕ). nat_eq b 1) (bit_at-lanes_below n test k below) ∙ either (test k) where
  either : (b : Bool) → nat_eq (if b then 1 else 0) 1 ≡ b
  either true = refl
  either false = refl

-- one bit of a mask without the lanes for which a test holds
rest_bit : (m : ℕ) (test rest : Bool) → m < 2 → rest ≡ not test → min m (1 - (if nat_eq m 1 && test then 1 else 0)) ≡ (if nat_eq m 1 && rest then 1 else 0)
rest_bit zero test rest bit same = refl
rest_bit (suc zero) true rest bit same = rw same refl
rest_bit (suc zero) false rest bit same = rw same refl
rest_bit (suc (suc m)) test rest bit same = let none : ⊥ = omega arith in absurd none

-- the lanes of a set for which a test does not hold
pub lanes_below-rest : (mask : ℕ) (test rest : ℕ → Bool) → mask < 2 ^ 32 → ((lane : ℕ) → rest lane ≡ not (test lane)) →
    bit_and mask (bit_not w32 (lanes_below 32 (λ lane. has_lane mask lane && test lane))) ≡ lanes_below 32 (λ lane. has_lane mask lane && rest lane)
lanes_below-rest mask test rest below others =
    let on = lanes_below 32 (λ lane. has_lane mask lane && test lane) in
    let off = lanes_below 32 (λ lane. has_lane mask lane && rest lane) in
    same_from_bits_below 32 (bit_and mask (bit_not w32 on)) off (lt_of_le_of_lt (and_le_l mask (bit_not w32 on)) below) (lanes_below-lt 32 (λ lane. has_lane mask lane && rest lane))
    (λ i within.
    bit_at_and mask (bit_not w32 on) i
    ∙ ap (λ (b : ℕ). min (bit_at mask i) b) (bit_at_not w32 on i (lanes_below-lt 32 (λ lane. has_lane mask lane && test lane)) within ∙ ap (λ (b : ℕ). 1 - b) (bit_at-lanes_below 32 (λ lane. has_lane mask lane && test lane) i within))
    ∙ rest_bit (bit_at mask i) (test i) (rest i) (bit_at-lt mask i) (others i)
    ∙ sym (bit_at-lanes_below 32 (λ lane. has_lane mask lane && rest lane) i within))

-- two bits that are 1 together are one bit
one_bit : (x y : ℕ) → x < 2 → y < 2 → nat_eq x 1 ≡ nat_eq y 1 → x ≡ y
one_bit zero zero bit bit' same = refl
one_bit zero (suc zero) bit bit' same = absurd (true≢false (sym same))
one_bit (suc zero) zero bit bit' same = absurd (true≢false same)
one_bit (suc zero) (suc zero) bit bit' same = refl
one_bit (suc (suc x)) y bit bit' same = let none : ⊥ = omega arith in absurd none
one_bit x (suc (suc y)) bit bit' same = let none : ⊥ = omega arith in absurd none

-- two masks with the same lanes are equal
pub same_lanes : (a b : ℕ) → a < 2 ^ 32 → b < 2 ^ 32 → ((lane : ℕ) → lane < 32 → has_lane a lane ≡ has_lane b lane) → a ≡ b
same_lanes a b below below' same =
    same_from_bits_below 32 a b below below' (λ i within. one_bit (bit_at a i) (bit_at b i) (bit_at-lt a i) (bit_at-lt b i) (same i within))

-- no lane below the least is in the set
pub leader-least : (mask lane : ℕ) → 0 < mask → mask < 2 ^ 32 → lane < leader mask → has_lane mask lane ≡ false
leader-least mask lane some below less =
    let place = bit_at-trailing_zeros w32 mask some below in
    has_lane-zero mask lane (place.2 lane (subst (λ (l : ℕ). lane < l) (leader-trailing_zeros mask some below) less))
