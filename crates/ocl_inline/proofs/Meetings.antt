-- How often a number is met in a list.
use Rattle.std.proofs.Common.{◌≡◌, refl, ap, ℕ, ◌+◌, ◌≤◌, ◌==◌, Bool, false, if◌then◌else◌, inl, inr, List, [], ◌∷◌, ◌++◌, arith, eq-eqb, eqb-true}
use Rattle.std.specs.List.{AllByRecursion, IsDistinct, count_by}
use Rattle.std.proofs.lemmas.Bool.{cases_Bool}
use Rattle.std.proofs.lemmas.List.Sums.{sum_by-cons}
use Rattle.ocl_inline.specs.FlatNumbers.{AreDifferent}

-- 1 at the number itself
abbrev pub one : ℕ → ℕ → ℕ
one n k = if n == k then 1 else 0

abbrev pub met : ℕ → List ℕ → ℕ
met n [] = 0
met n (k ∷ ks) = one n k + met n ks

pub met_append : (n : ℕ) (xs ys : List ℕ) → met n (xs ++ ys) ≡ met n xs + met n ys
met_append n [] ys = omega arith
met_append n (x ∷ xs) ys = let h : met n (xs ++ ys) ≡ met n xs + met n ys = met_append n xs ys in omega arith

pub met_counts : (n : ℕ) (ks : List ℕ) → count_by (λ (k : ℕ). n == k) ks ≡ met n ks
met_counts n [] = refl
met_counts n (k ∷ ks) =
    let h : count_by (λ (j : ℕ). n == j) (k ∷ ks) ≡ one n k + count_by (λ (j : ℕ). n == j) ks = sum_by-cons (λ (j : ℕ). if n == j then 1 else 0) k ks in
    let more : count_by (λ (j : ℕ). n == j) ks ≡ met n ks = met_counts n ks in omega arith

-- ---- numbers that differ are each met once at most

pub once : (k : ℕ) → one k k ≡ 1
once k = ap (λ (b : Bool). if b then 1 else 0) (eq-eqb k k refl)

all_other : (k : ℕ) (ks : List ℕ) → met k ks ≤ 0 → AllByRecursion (λ n. (k == n) ≡ false) ks
all_other k [] none = tt
all_other k (x ∷ ks) none = elim (cases_Bool (k == x)) [
  | inl same ↦
      let here : one k x ≡ 1 = ap (λ (b : Bool). if b then 1 else 0) same in
      absurd (omega arith)
  | inr other ↦ (other, all_other k ks (omega arith))
]

none_met : (k : ℕ) (ks : List ℕ) → AllByRecursion (λ n. (k == n) ≡ false) ks → met k ks ≤ 0
none_met k [] others = omega arith
none_met k (x ∷ ks) others =
    let here : one k x ≡ 0 = ap (λ (b : Bool). if b then 1 else 0) (others.0) in
    let more : met k ks ≤ 0 = none_met k ks (others.1) in omega arith

pub are_different : (ks : List ℕ) → ((n : ℕ) → met n ks ≤ 1) → AreDifferent ks
unfolding IsDistinct
are_different [] at_most = tt
are_different (k ∷ ks) at_most = (
  all_other k ks (let here : one k k ≡ 1 = once k in let all : one k k + met k ks ≤ 1 = at_most k in omega arith),
  are_different ks (λ n. let all : one n k + met n ks ≤ 1 = at_most n in omega arith),
)

pub met_once : (ks : List ℕ) (n : ℕ) → AreDifferent ks → met n ks ≤ 1
unfolding IsDistinct
met_once [] n different = omega arith
met_once (k ∷ ks) n different =
    let more : met n ks ≤ 1 = met_once ks n (different.1) in
    elim (cases_Bool (n == k)) [
      | inl same ↦
          let here : one n k ≡ 1 = ap (λ (b : Bool). if b then 1 else 0) same in
          let none : met k ks ≤ 0 = none_met k ks (different.0) in
          let alike : met n ks ≡ met k ks = ap (λ (j : ℕ). met j ks) (eqb-true n k same) in omega arith
      | inr other ↦ let here : one n k ≡ 0 = ap (λ (b : Bool). if b then 1 else 0) other in omega arith
    ]
