-- Lists of tickets and of groups: how often a number stands in them.
use Rattle.std.proofs.Common.{◌≡◌, ℕ, zero, suc, ◌+◌, ◌-◌, ◌<◌, ◌≤◌, ◌⊎◌, Bool, cond, eqb, inl, inr, List, [], ◌∷◌, ◌++◌, length, get_or, ap, refl, sym, subst, All, arith, length-append, count_by, eq-eqb, ne_eqb, slice_index_or, flat_map, add-one}
use Rattle.std.specs.List.Sorted.{IsStrictlyIncreasing}
use Rattle.std.proofs.lemmas.List.{get_or_append_left}
use Rattle.std.proofs.lemmas.List.Elements.{All-head, All-tail}
use Rattle.std.proofs.lemmas.List.Sums.{sum_by-append, sum_by-cons}

-- how often a number stands in a list
abbrev pub often : ℕ → List ℕ → ℕ
often x xs = count_by (λ t. eqb t x) xs

pub often-append : (x : ℕ) (xs ys : List ℕ) → often x (xs ++ ys) ≡ often x xs + often x ys
often-append x xs ys = sum_by-append (λ t. cond (eqb t x) 1 0) xs ys

often-cons : (x y : ℕ) (ys : List ℕ) → often x (y ∷ ys) ≡ cond (eqb y x) 1 0 + often x ys
often-cons x y ys = sum_by-cons (λ t. cond (eqb t x) 1 0) y ys

itself : (x : ℕ) → ◌≡◌ {A = ℕ} (cond (eqb x x) 1 0) 1
itself x = ap (λ (b : Bool). cond b 1 0) (eq-eqb x x refl)

another : (x y : ℕ) → ¬ (y ≡ x) → ◌≡◌ {A = ℕ} (cond (eqb y x) 1 0) 0
another x y apart = ap (λ (b : Bool). cond b 1 0) (ne_eqb y x apart)

-- a number that stands at some place
pub often_there : (x : ℕ) (xs : List ℕ) (k : ℕ) → k < length xs → get_or xs k 0 ≡ x → 1 ≤ often x xs
often_there x [] k within is = absurd (omega arith)
often_there x (y ∷ ys) zero within is =
    let one : ◌≡◌ {A = ℕ} (cond (eqb y x) 1 0) 1 = subst (λ (z : ℕ). ◌≡◌ {A = ℕ} (cond (eqb y z) 1 0) 1) is (itself y) in
    omega (arith, often-cons x y ys, one)
often_there x (y ∷ ys) (suc k) within is =
    let rest = often_there x ys k (omega arith) is in
    omega (arith, often-cons x y ys, rest)

pub often_last : (x : ℕ) (xs : List ℕ) → 1 ≤ often x (xs ++ x ∷ [])
often_last x xs = omega (arith, often-append x xs (x ∷ []), often-cons x x [], itself x)

-- The tickets of a core are the groups that it claimed, and perhaps one behind them that is no group's.
abbrev pub AreTickets : ℕ → List ℕ → List ℕ → Type 0
AreTickets groups tickets claimed = (tickets ≡ claimed) ⊎ ((ticket : ℕ) × (groups ≤ ticket) × (tickets ≡ claimed ++ ticket ∷ []))

pub no_more : (groups : ℕ) (tickets claimed : List ℕ) (x : ℕ) → AreTickets groups tickets claimed → often x claimed ≤ often x tickets
no_more groups tickets claimed x (inl same) = let is = ap (λ (xs : List ℕ). often x xs) same in omega (arith, is)
no_more groups tickets claimed x (inr past) =
    let is = ap (λ (xs : List ℕ). often x xs) past.2 in
    omega (arith, is, often-append x claimed (past.0 ∷ []))

pub as_often : (groups : ℕ) (tickets claimed : List ℕ) (x : ℕ) → x < groups → AreTickets groups tickets claimed → often x claimed ≡ often x tickets
as_often groups tickets claimed x below (inl same) = sym (ap (λ (xs : List ℕ). often x xs) same)
as_often groups tickets claimed x below (inr past) =
    let is = ap (λ (xs : List ℕ). often x xs) past.2 in
    let above : groups ≤ past.0 = past.1 in
    let none = another x past.0 (λ same. let q : past.0 ≡ x = same in omega (arith, q)) in
    omega (arith, is, often-append x claimed (past.0 ∷ []), often-cons x past.0 [], none)

-- the beginning of a list that ascends
pub front_ascends : (xs ys : List ℕ) → IsStrictlyIncreasing (xs ++ ys) → IsStrictlyIncreasing xs
front_ascends xs ys up k within =
    let first : get_or (xs ++ ys) k 0 ≡ get_or xs k 0 = get_or_append_left xs ys 0 k (omega arith) in
    let next : get_or (xs ++ ys) (k + 1) 0 ≡ get_or xs (k + 1) 0 = get_or_append_left xs ys 0 (k + 1) within in
    let less : get_or (xs ++ ys) k 0 < get_or (xs ++ ys) (k + 1) 0 = up k (omega (arith, length-append xs ys, within)) in
    omega (arith, first, next, less)

pub claimed_ascend : (groups : ℕ) (tickets claimed : List ℕ) → AreTickets groups tickets claimed → IsStrictlyIncreasing tickets → IsStrictlyIncreasing claimed
claimed_ascend groups tickets claimed (inl same) up = subst IsStrictlyIncreasing same up
claimed_ascend groups tickets claimed (inr past) up = front_ascends claimed (past.0 ∷ []) (subst IsStrictlyIncreasing past.2 up)

-- ---- as many groups as there are, one above another, are all groups

no_less : (xs : List ℕ) → IsStrictlyIncreasing xs → (k : ℕ) → k < length xs → k ≤ get_or xs k 0
no_less xs up zero within = omega arith
no_less xs up (suc k) within =
    let before : k ≤ get_or xs k 0 = no_less xs up k (omega arith) in
    let less : get_or xs k 0 < get_or xs (k + 1) 0 = up k (omega (arith, within)) in
    let same : get_or xs (k + 1) 0 ≡ get_or xs (suc k) 0 = ap (λ (j : ℕ). get_or xs j 0) (add-one k) in
    omega (arith, before, less, same)

-- so many places before the end
no_greater : (xs : List ℕ) (n : ℕ) → IsStrictlyIncreasing xs → All (λ x. x < n) xs → (behind k : ℕ) → k + behind + 1 ≡ length xs → get_or xs k 0 + behind < n
no_greater xs n up below zero k is = let last : get_or xs k 0 < n = below k 0 (omega (arith, is)) in omega (arith, last)
no_greater xs n up below (suc behind) k is =
    let rest : get_or xs (k + 1) 0 + behind < n = no_greater xs n up below behind (k + 1) (omega (arith, is)) in
    let less : get_or xs k 0 < get_or xs (k + 1) 0 = up k (omega (arith, is)) in
    omega (arith, rest, less)

pub all_there : (xs : List ℕ) (n : ℕ) → IsStrictlyIncreasing xs → All (λ x. x < n) xs → length xs ≡ n → (x : ℕ) → x < n → 1 ≤ often x xs
all_there xs n up below full x within =
    let low : x ≤ get_or xs x 0 = no_less xs up x (omega (arith, full, within)) in
    let behind : ℕ = n - x - 1 in
    let high : get_or xs x 0 + (n - x - 1) < n = no_greater xs n up below (n - x - 1) x (omega (arith, full, within)) in
    let is : get_or xs x 0 ≡ x = omega (arith, low, high, within) in
    often_there x xs x (omega (arith, full, within)) is

-- ---- over all cores

pub often_in_less : {W : Type 0} (f h : W → List ℕ) (x : ℕ) (ws : List W) → All (λ w. often x (f w) ≤ often x (h w)) ws → often x (flat_map f ws) ≤ often x (flat_map h ws)
often_in_less f h x [] all = omega arith
often_in_less {W} f h x (w ∷ ws) all =
    let first = All-head (λ (v : W). often x (f v) ≤ often x (h v)) w ws all in
    let rest = often_in_less f h x ws (All-tail (λ (v : W). often x (f v) ≤ often x (h v)) w ws all) in
    omega (arith, often-append x (f w) (flat_map f ws), often-append x (h w) (flat_map h ws), first, rest)

pub often_in_same : {W : Type 0} (f h : W → List ℕ) (x : ℕ) (ws : List W) → All (λ w. often x (f w) ≡ often x (h w)) ws → often x (flat_map f ws) ≡ often x (flat_map h ws)
often_in_same f h x [] all = refl
often_in_same {W} f h x (w ∷ ws) all =
    let first = All-head (λ (v : W). often x (f v) ≡ often x (h v)) w ws all in
    let rest = often_in_same f h x ws (All-tail (λ (v : W). often x (f v) ≡ often x (h v)) w ws all) in
    omega (arith, often-append x (f w) (flat_map f ws), often-append x (h w) (flat_map h ws), first, rest)

pub often_in_one : {W : Type 0} (f : W → List ℕ) (x : ℕ) (ws : List W) (k : ℕ) (d : W) → k < length ws → often x (f (slice_index_or ws k d)) ≤ often x (flat_map f ws)
often_in_one f x [] k d within = absurd (omega arith)
often_in_one f x (w ∷ ws) zero d within = omega (arith, often-append x (f w) (flat_map f ws))
often_in_one f x (w ∷ ws) (suc k) d within =
    let rest = often_in_one f x ws k d (omega arith) in
    omega (arith, often-append x (f w) (flat_map f ws), rest)
