-- Sets of lanes by tests that agree, and the least number for which a test holds.
use Rattle.std.proofs.Common.{◌≡◌, ℕ, zero, suc, ◌+◌, ◌^◌, ◌<◌, Bool, true, false, if◌then◌else◌, ap, sym, ◌∙◌, arith, refl}
use Rattle.std.proofs.lemmas.Bool.{true≢false}
use Rattle.vx_isa.specs.Warps.{has_lane, lanes_below, least_below, leader}

pub below_same : (n : ℕ) (f f' : ℕ → Bool) → ((j : ℕ) → j < n → f j ≡ f' j) → lanes_below n f ≡ lanes_below n f'
unfolding lanes_below
below_same zero f f' same = refl
below_same (suc n) f f' same =
    ap (λ m. m + (if f n then 2 ^ n else 0)) (below_same n f f' (λ j less. same j (omega (arith, less))))
    ∙ ap (λ b. lanes_below n f' + (if b then 2 ^ n else 0)) (same n (omega arith))

before_first : (n : ℕ) (test : ℕ → Bool) → ((j : ℕ) → j < least_below n (λ k. test (suc k)) → test (suc j) ≡ false) → (j : ℕ) (b : Bool) → test 0 ≡ b
    → j < (if b then 0 else suc (least_below n (λ k. test (suc k)))) → test j ≡ false
before_first n test later j true e less = absurd (omega (arith, less))
before_first n test later zero false e less = e
before_first n test later (suc j) false e less = later j (omega (arith, less))

-- below the least number the test does not hold
pub before_least : (n : ℕ) (test : ℕ → Bool) (j : ℕ) → j < least_below n test → test j ≡ false
unfolding least_below
before_least zero test j less = absurd (omega (arith, less))
before_least (suc n) test j less = before_first n test (before_least n (λ k. test (suc k))) j (test 0) refl less

abbrev FoundBelow : ℕ → (ℕ → Bool) → ℕ → Type 0
FoundBelow n test m = (test m ≡ true) × (m < n)

at_first : (n : ℕ) (test : ℕ → Bool) → ((k : ℕ) → k < n → test (suc k) ≡ true → (test (suc (least_below n (λ j. test (suc j)))) ≡ true) × (least_below n (λ j. test (suc j)) < n))
    → (k : ℕ) (b : Bool) → test 0 ≡ b → k < suc n → test k ≡ true → FoundBelow (suc n) test (if b then 0 else suc (least_below n (λ j. test (suc j))))
at_first n test later k true e less holds = (e, omega arith)
at_first n test later zero false e less holds = absurd (true≢false (sym holds ∙ e))
at_first n test later (suc k) false e less holds =
    let h = later k (omega (arith, less)) holds in
    let low = h.1 in
    (h.0, omega (arith, low))

-- where it holds for some number below the bound, it holds for the least, which is below the bound
pub at_least : (n : ℕ) (test : ℕ → Bool) (k : ℕ) → k < n → test k ≡ true → (test (least_below n test) ≡ true) × (least_below n test < n)
unfolding least_below
at_least zero test k less holds = absurd (omega (arith, less))
at_least (suc n) test k less holds = at_first n test (at_least n (λ j. test (suc j))) k (test 0) refl less holds

pub leader_leads : (mask l : ℕ) → l < 32 → has_lane mask l ≡ true → (has_lane mask (leader mask) ≡ true) × (leader mask < 32)
leader_leads mask l less holds = at_least 32 (has_lane mask) l less holds
