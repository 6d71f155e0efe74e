-- Laws of lists of tickets.
use Rattle.std.proofs.Common.{◌≡◌, ℕ, zero, suc, ◌+◌, ◌-◌, ◌<◌, ◌≤◌, Bool, cond, true, false, eqb, ltb, leb, inl, inr, List, [], ◌∷◌, ◌++◌, length, get_or, ap, refl, ◌∙◌, All, arith, length-append}
use Rattle.std.specs.List.{concat, sum_by, range_with_len}
use Rattle.std.specs.List.Sorted.{IsStrictlyIncreasing}
use Rattle.std.proofs.lemmas.List.{get_or_append_left}
use Rattle.std.proofs.Math.Seq.{get_or-append_seam}
use Rattle.std.proofs.lemmas.List.Elements.{All-push, All-head, All-tail, All-cons, All-nil}
use Rattle.std.proofs.lemmas.List.Sums.{sum_by_push, sum_by-append, sum_by-cons}
use Rattle.std.proofs.lemmas.Bool.{cases_lt}
use Rattle.std.proofs.lemmas.Bool.Decides.{nat_tests}
use Rattle.group_dispenser.specs.Tickets.{AreDrawn, AreBelow, past, first_of, rest_of}

pub rises : (xs : List ℕ) (n : ℕ) → IsStrictlyIncreasing xs → All (λ t. t < n) xs → IsStrictlyIncreasing (xs ++ n ∷ [])
rises xs n up below k within =
    let len : k + 1 < length xs + 1 = omega (arith, length-append xs (n ∷ [])) in
    let at : get_or (xs ++ n ∷ []) k 0 ≡ get_or xs k 0 = get_or_append_left xs (n ∷ []) 0 k (omega arith) in
    elim (cases_lt (k + 1) (length xs)) [
      | inl inside ↦
          let next : get_or (xs ++ n ∷ []) (k + 1) 0 ≡ get_or xs (k + 1) 0 = get_or_append_left xs (n ∷ []) 0 (k + 1) inside in
          let less : get_or xs k 0 < get_or xs (k + 1) 0 = up k inside in
          omega arith
      | inr last ↦
          let here : k + 1 ≡ length xs = omega arith in
          let next : get_or (xs ++ n ∷ []) (k + 1) 0 ≡ n = ap (λ (j : ℕ). get_or (xs ++ n ∷ []) j 0) here ∙ get_or-append_seam xs n [] 0 in
          let less : get_or xs k 0 < n = below k 0 (omega arith) in
          omega arith
    ]

-- tickets that all stand for groups
pub none_past : (groups : ℕ) (xs : List ℕ) → All (λ t. t < groups) xs → past groups xs ≡ 0
none_past groups [] all = refl
none_past groups (x ∷ xs) all =
    let first : x < groups = All-head (λ t. t < groups) x xs all in
    let rest = none_past groups xs (All-tail (λ t. t < groups) x xs all) in
    let step = sum_by-cons (λ t. cond (leb groups t) 1 0) x xs in
    let here : ◌≡◌ {A = ℕ} (cond (leb groups x) 1 0) 0 = grind (arith, nat_tests) in
    omega arith

at_most_one : (b : Bool) → cond b 1 0 ≤ 1
at_most_one true = omega arith
at_most_one false = omega arith

-- one ticket more
pub AreDrawn-push : (groups n : ℕ) (xs : List ℕ) → past groups xs ≡ 0 → AreDrawn groups n xs → AreDrawn groups (n + 1) (xs ++ n ∷ [])
AreDrawn-push groups n xs none d =
    let wide : All (λ t. t < n + 1) xs = λ k e within. omega (arith, d.below k e within) in
    let count = sum_by_push (λ t. cond (leb groups t) 1 0) xs n in
    let one = at_most_one (leb groups n) in
    record {
      ascending = rises xs n d.ascending d.below;
      below = All-push (λ t. t < n + 1) xs n wide (omega arith);
      last = omega arith;
    }

pub AreDrawn-wider : (groups n : ℕ) (xs : List ℕ) → AreDrawn groups n xs → AreDrawn groups (n + 1) xs
AreDrawn-wider groups n xs d = record { ascending = d.ascending; below = λ k e within. omega (arith, d.below k e within); last = d.last }

-- nothing drawn yet
pub AreDrawn-nil : (groups n : ℕ) → AreDrawn groups n []
AreDrawn-nil groups n = record { ascending = λ k within. absurd (omega arith); below = All-nil (λ t. t < n); last = omega arith }

module _ (groups n : ℕ) where
  pub all_drawn : (xss : List (List ℕ)) → 0 < length xss → past groups (first_of xss) ≡ 0 → All (AreDrawn groups n) xss
      → All (AreDrawn groups (n + 1)) ((first_of xss ++ n ∷ []) ∷ rest_of xss)
  all_drawn [] some none all = absurd (omega arith)
  all_drawn (xs ∷ xss) some none all =
      All-cons (AreDrawn groups (n + 1)) (xs ++ n ∷ []) xss
      (AreDrawn-push groups n xs none (All-head (AreDrawn groups n) xs xss all))
      (λ k d within. AreDrawn-wider groups n (get_or xss k d) (All-tail (AreDrawn groups n) xs xss all k d within))

  pub first_below : (xss : List (List ℕ)) → All (AreDrawn groups n) xss → All (λ t. t < n) (first_of xss)
  first_below [] all = All-nil (λ t. t < n)
  first_below (xs ∷ xss) all = (All-head (AreDrawn groups n) xs xss all).below

  -- each claimer has drawn at most one ticket past the groups
  pub few_past : (xss : List (List ℕ)) → All (AreDrawn groups n) xss → past groups (concat xss) ≤ length xss
  few_past [] all = omega arith
  few_past (xs ∷ xss) all =
      let one = (All-head (AreDrawn groups n) xs xss all).last in
      let rest = few_past xss (All-tail (AreDrawn groups n) xs xss all) in
      let sums = sum_by-append (λ t. cond (leb groups t) 1 0) xs (concat xss) in
      omega arith

-- what one ticket adds
pub longer_weight : (h : ℕ → ℕ) (n : ℕ) (xss : List (List ℕ)) → 0 < length xss
    → sum_by h (concat ((first_of xss ++ n ∷ []) ∷ rest_of xss)) ≡ sum_by h (concat xss) + h n
longer_weight h n [] some = absurd (omega arith)
longer_weight h n (xs ∷ xss) some =
    let new = sum_by-append h (xs ++ n ∷ []) (concat xss) in
    let old = sum_by-append h xs (concat xss) in
    let more = sum_by_push h xs n in
    omega arith

pub no_list : (h : ℕ → ℕ) (xss : List (List ℕ)) → length xss ≡ 0 → sum_by h (concat xss) ≡ 0
no_list h [] none = refl
no_list h (xs ∷ xss) none = absurd (omega arith)

-- the numbers below n, and one more
range_more : (a n : ℕ) → range_with_len a (suc n) ≡ range_with_len a n ++ (a + n) ∷ []
range_more a zero = ap (λ (k : ℕ). k ∷ []) (omega arith)
range_more a (suc n) =
    let rest = range_more (a + 1) n in
    let sum : (a + 1) + n ≡ a + suc n = omega arith in
    ap (λ (ys : List ℕ). a ∷ ys) (rest ∙ ap (λ (k : ℕ). range_with_len (a + 1) n ++ k ∷ []) sum)

pub range_weight : (h : ℕ → ℕ) (n : ℕ) → sum_by h (range_with_len 0 (n + 1)) ≡ sum_by h (range_with_len 0 n) + h n
range_weight h n =
    let one : n + 1 ≡ suc n = omega arith in
    let sum : 0 + n ≡ n = omega arith in
    ap (λ (k : ℕ). sum_by h (range_with_len 0 k)) one ∙ ap (sum_by h) (range_more 0 n ∙ ap (λ (k : ℕ). range_with_len 0 n ++ k ∷ []) sum) ∙ sum_by_push h (range_with_len 0 n) n

-- of the numbers from a on, those that stand for groups are few
pub range_past : (groups a n : ℕ) → n ≤ (groups - a) + past groups (range_with_len a n)
range_past groups a zero = omega arith
range_past groups a (suc n) =
    let rest = range_past groups (a + 1) n in
    let step = sum_by-cons (λ t. cond (leb groups t) 1 0) a (range_with_len (a + 1) n) in
    elim (cases_lt a groups) [
      | inl below ↦ omega arith
      | inr above ↦ let here : ◌≡◌ {A = ℕ} (cond (leb groups a) 1 0) 1 = grind (arith, nat_tests) in omega arith
    ]

-- each number below n stands there once
count_range : (x a n : ℕ) → sum_by (λ t. cond (eqb t x) 1 0) (range_with_len a n) ≡ cond (leb a x) (cond (ltb x (a + n)) 1 0) 0
count_range x a zero = grind (arith, nat_tests)
count_range x a (suc n) =
    let rest = count_range x (a + 1) n in
    let step = sum_by-cons (λ t. cond (eqb t x) 1 0) a (range_with_len (a + 1) n) in
    grind (arith, nat_tests)

pub AreBelow-range : (n : ℕ) (xs : List ℕ) → ((h : ℕ → ℕ) → sum_by h xs ≡ sum_by h (range_with_len 0 n)) → AreBelow n xs
AreBelow-range n xs same x = same (λ t. cond (eqb t x) 1 0) ∙ (count_range x 0 n ∙ grind (arith, nat_tests))
