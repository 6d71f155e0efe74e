-- Laws of the order in which warps were picked.
use Rattle.std.proofs.Common.{◌≡◌, ◌≢◌, ℕ, zero, suc, ◌+◌, ◌-◌, ◌^◌, ◌<◌, ◌≤◌, Bool, true, false, true≢false, not, cond, nat_eq, nat_lt, List, [], ◌∷◌, ◌++◌, length, get_or, Some, None, Contains, inl, inr, ap, sym, ◌∙◌, arith}
use Rattle.std.specs.Prelude.{position, remove}
use Rattle.std.specs.Int.{bit_at, w32, trailing_zeros}
use Rattle.std.specs.List.{position_or_len}
use Rattle.std.proofs.lemmas.Bool.{cases_lt, cases_eq, eqb-true, lt-ltb}
use Rattle.std.proofs.lemmas.List.{get_or_default}
use Rattle.std.proofs.lemmas.Option.{none-some}
use Rattle.std.proofs.lemmas.Nat.Bits.{bit_at_above, bit_at-lt}
use Rattle.std.proofs.lemmas.List.Elements.{Contains-append_left, Contains-append_right, Contains-append_cases}
use Rattle.std.proofs.lemmas.List.Sorted.{IsPermutation-remove, Contains-permutation}
use Rattle.vx_base.proofs.MaskLaws.{bit_below_word, bit_of_set, least_bit}
use Rattle.warp_scheduler.specs.Rules.{below, count_below, HasAll}

-- each number below n is among the numbers below n
pub below_has : (n j : ℕ) → j < n → Contains (below n) j
below_has zero j within = absurd (omega (arith, within))
below_has (suc n) j within =
    elim (cases_lt j n) [
      | inl less ↦ Contains-append_left (below n) (n ∷ []) j (below_has n j less)
      | inr not_less ↦
          let last : n ≡ j = omega (arith, within, not_less) in
          Contains-append_right (below n) (n ∷ []) j (0, omega arith, last)
    ]

-- an order in which each warp stands keeps them all where one goes behind the others
pub all_stay : (order : List ℕ) (place k : ℕ) → place < length order → k ≡ get_or order place 0 → HasAll order → HasAll (remove order place ++ k ∷ [])
all_stay order place k within picked all = λ j below.
    let found : k ≡ get_or order place k = picked ∙ get_or_default order place 0 k within in
    elim (Contains-append_cases (k ∷ []) (remove order place) j (Contains-permutation order (k ∷ remove order place) j (IsPermutation-remove order place k within found) (all j below))) [
      | inl last ↦ Contains-append_right (remove order place) (k ∷ []) j last
      | inr other ↦ Contains-append_left (remove order place) (k ∷ []) j other
    ]

-- the first place that passes is no later than any that does
first_place : (p : ℕ → Bool) (xs : List ℕ) (i d : ℕ) → i < length xs → p (get_or xs i d) ≡ true → position_or_len p xs ≤ i
first_place p [] i d within passes = absurd (omega (arith, within))
first_place p (x ∷ xs) zero d within passes =
    let none : position_or_len p (x ∷ xs) ≡ 0 = ap (λ (b : Bool). cond (not b) (1 + position_or_len p xs) 0) passes in
    omega (arith, none)
first_place p (x ∷ xs) (suc i) d within passes = later (p x) (position_or_len p xs) i (first_place p xs i d (omega (arith, within)) passes)
  where
    later : (b : Bool) (n i : ℕ) → n ≤ i → cond (not b) (1 + n) 0 ≤ suc i
    later true n i h = omega arith
    later false n i h = omega (arith, h)

-- where the elements hold one that passes, there is a first such place
pub some_passes : (p : ℕ → Bool) (xs : List ℕ) (k : ℕ) → Contains xs k → p k ≡ true → position p xs ≢ None
some_passes p xs k there passes none =
    let early : position_or_len p xs ≤ there.0 = first_place p xs there.0 k there.1 (ap p there.2 ∙ passes) in
    let inside : nat_lt (position_or_len p xs) (length xs) ≡ true = lt-ltb (position_or_len p xs) (length xs) (omega (arith, early, there.1)) in
    none-some (position_or_len p xs) (sym none ∙ ap (λ (b : Bool). cond b (Some (position_or_len p xs)) None) inside)

-- one of the warps in an order of all is ready
pub one_ready : (order : List ℕ) (ready : ℕ) → HasAll order → ready ≢ 0 → ready < 2 ^ 32 → position (λ warp. nat_eq (bit_at ready warp) 1) order ≢ None
one_ready order ready all some word =
    let least = least_bit ready (omega (arith, some)) word in
    let warp = trailing_zeros w32 ready in
    some_passes (λ warp. nat_eq (bit_at ready warp) 1) order warp (all warp (bit_below_word ready warp word least.is_set)) (ap (λ (b : ℕ). nat_eq b 1) (bit_of_set ready warp least.is_set))

-- no warp from 32 on is in a set
pub no_warp : (ready warp : ℕ) → ready < 2 ^ 32 → 32 ≤ warp → false ≡ nat_eq (bit_at ready warp) 1
no_warp ready warp word above = sym (ap (λ (b : ℕ). nat_eq b 1) (bit_at_above ready 32 warp word above))

-- a warp in a set is one more of those below the next number, and one that is not is none more
pub is_there : (ready warp : ℕ) → true ≡ nat_eq (bit_at ready warp) 1 → bit_at ready warp ≡ 1
is_there ready warp there = eqb-true (bit_at ready warp) 1 (sym there)

pub is_gone : (ready warp : ℕ) → false ≡ nat_eq (bit_at ready warp) 1 → bit_at ready warp ≡ 0
is_gone ready warp gone =
    elim (cases_eq (bit_at ready warp) 1) [
      | inl one ↦ absurd (true≢false (sym (ap (λ (b : ℕ). nat_eq b 1) one) ∙ sym gone))
      | inr other ↦ omega (arith, other, bit_at-lt ready warp)
    ]

pub counted_on : (ready warp left place : ℕ) → left + count_below ready warp ≡ place → left ≢ 0 → true ≡ nat_eq (bit_at ready warp) 1 → (left - 1) + count_below ready (suc warp) ≡ place
counted_on ready warp left place counted some there = omega (arith, counted, some, is_there ready warp there)

pub passed_by : (ready warp left place : ℕ) → left + count_below ready warp ≡ place → false ≡ nat_eq (bit_at ready warp) 1 → left + count_below ready (suc warp) ≡ place
passed_by ready warp left place counted gone = omega (arith, counted, is_gone ready warp gone)

-- a place among so many warps is not behind them all
pub no_place : (place left count : ℕ) → left + count ≡ place → ¬ (place < count)
no_place place left count counted below = omega (arith, counted, below)
