-- Sums along a list, and how often numbers below a bound are met in it.
use Rattle.std.proofs.Common.{◌≡◌, refl, sym, ap, ◌∙◌, ℕ, suc, ◌+◌, ◌-◌, ◌<◌, ◌≤◌, ◌==◌, nat_lt, Bool, true, false, if◌then◌else◌, inl, inr, List, [], ◌∷◌, ◌++◌, map, length, slice_get, Some, arith, eqb-true, eq-eqb}
use Rattle.std.specs.List.{AllByRecursion, IsDistinct, sum}
use Rattle.std.proofs.lemmas.Bool.{cases_Bool, lt-ltb, le-ltb, ltb-true}
use Rattle.std.proofs.lemmas.List.Sums.{sum_by-cons}
use Rattle.ocl_program.specs.Measures.{where_some}
use Rattle.ocl_inline.specs.FlatNumbers.{AreDifferent}
use Rattle.program_laws.specs.Formed.{AreBelow, counted_up}
use Rattle.ocl_inline.proofs.Meetings.{met, once, one}

-- a sum along a list
abbrev pub weight : {A : Type 0} → (A → ℕ) → List A → ℕ
weight w [] = 0
weight w (x ∷ xs) = w x + weight w xs

pub weight_append : {A : Type 0} (w : A → ℕ) (xs ys : List A) → weight w (xs ++ ys) ≡ weight w xs + weight w ys
weight_append w [] ys = omega arith
weight_append w (x ∷ xs) ys = let h : weight w (xs ++ ys) ≡ weight w xs + weight w ys = weight_append w xs ys in omega arith

pub sum_weight : {A : Type 0} (w : A → ℕ) (xs : List A) → sum (map w xs) ≡ weight w xs
sum_weight w [] = refl
sum_weight w (x ∷ xs) = sum_by-cons (λ n. n) (w x) (map w xs) ∙ ap (λ n. w x + n) (sum_weight w xs)

-- ---- how many numbers are below a bound, of one number

-- 1 from the number behind n on
abbrev pub under : ℕ → ℕ → ℕ
under n bound = if nat_lt n bound then 1 else 0

pub under_more : (n a b : ℕ) → a ≤ b → under n a ≤ under n b
under_more n a b le = elim (cases_Bool (nat_lt n a)) [
  | inl within ↦
      let less : n < a = ltb-true n a within in
      let there : nat_lt n b ≡ true = lt-ltb n b (omega arith) in rw within (rw there (omega arith))
  | inr beyond ↦ rw beyond (omega arith)
]

pub under_one : (n bound : ℕ) → under n bound ≤ 1
under_one n bound = elim (cases_Bool (nat_lt n bound)) [ inl within ↦ rw within (omega arith) | inr beyond ↦ rw beyond (omega arith) ]

-- 1 where the number is one of those from a to before b
abbrev pub between : ℕ → ℕ → ℕ → ℕ
between n a b = under n b - under n a

pub one_between : (n k : ℕ) → one n k ≤ between n k (k + 1)
one_between n k = elim (cases_Bool (n == k)) [
  | inl same ↦
      let is : n ≡ k = eqb-true n k same in
      let below : nat_lt n (k + 1) ≡ true = lt-ltb n (k + 1) (omega arith) in
      let not_below : nat_lt n k ≡ false = le-ltb n k (omega arith) in
      rw same (rw below (rw not_below (omega arith)))
  | inr other ↦ rw other (omega arith)
]

pub between_both : (n a b c : ℕ) → a ≤ b → b ≤ c → between n a b + between n b c ≡ between n a c
between_both n a b c first second =
    let h : under n a ≤ under n b = under_more n a b first in
    let h' : under n b ≤ under n c = under_more n b c second in omega arith

-- ---- from how often each number is met

pub are_below : (bound : ℕ) (ks : List ℕ) → ((n : ℕ) → met n ks ≤ under n bound) → AreBelow bound ks
are_below bound [] at_most = tt
are_below bound (k ∷ ks) at_most = (
  elim (cases_Bool (nat_lt k bound)) [
    | inl within ↦ ltb-true k bound within
    | inr beyond ↦
        let here : one k k ≡ 1 = once k in
        let all : one k k + met k ks ≤ under k bound = at_most k in
        let none : under k bound ≡ 0 = ap (λ (b : Bool). if b then 1 else 0) beyond in
        absurd (omega arith)
  ],
  are_below bound ks (λ n. let all : one n k + met n ks ≤ under n bound = at_most n in omega arith),
)

-- ---- the rows of a table in order

pub rows_from : {A B : Type 0} (f : ℕ → B) (g : A → B) (k : ℕ) (xs : List A) → ((i : ℕ) (x : A) → slice_get xs i ≡ Some x → f (k + i) ≡ g x)
    → map f (counted_up k (length xs)) ≡ map g xs
rows_from f g k [] same = refl
rows_from f g k (x ∷ xs) same =
    let first : k + 0 ≡ k = omega arith in
    let here : f k ≡ g x = ap f (sym first) ∙ same 0 x refl in
    ap (λ y. y ∷ map f (counted_up (k + 1) (length xs))) here
    ∙ ap (λ ys. g x ∷ ys) (rows_from f g (k + 1) xs (λ i y e. let next : (k + 1) + i ≡ k + suc i = omega arith in ap f next ∙ same (suc i) y e))

-- what the row at a place of the table has
abbrev pub by_row : {A : Type 0} → List A → (A → ℕ) → ℕ → ℕ
by_row rows inner k = where_some inner (slice_get rows k)

pub rows_in_order : {A : Type 0} (rows : List A) (inner : A → ℕ) → map (by_row rows inner) (counted_up 0 (length rows)) ≡ map inner rows
rows_in_order rows inner =
    rows_from (by_row rows inner) inner 0 rows (λ i x e. let same : 0 + i ≡ i = omega arith in ap (by_row rows inner) same ∙ ap (where_some inner) e)

pub weight_map : {A B : Type 0} (w : B → ℕ) (f : A → B) (xs : List A) → weight w (map f xs) ≡ weight (λ x. w (f x)) xs
weight_map w f [] = refl
weight_map w f (x ∷ xs) = ap (λ n. w (f x) + n) (weight_map w f xs)
