use Rattle.std.proofs.Common.{◌≡◌, ℕ, zero, suc, ◌+◌, ◌-◌, ◌≤◌, min, inl, inr, List, [], ◌∷◌, ◌++◌, length, take, drop, ap, sym, ◌∙◌, append-nil, arith, length-drop}
use Rattle.std.proofs.lemmas.Bool.{cases_lt}
use Rattle.std.proofs.lemmas.List.{take_all}
use Rattle.std.proofs.lemmas.Grind.{flat_map-append}
use Rattle.std.specs.List.{flat_map, range_with_len}

-- a cut that ends at the list's end, or n elements further on, has the first n elements that are there
pub take_cut : {X : Type 0} (xs : List X) (s n e : ℕ) → s ≤ length xs → e ≡ min (length xs) (s + n) → take (e - s) (drop s xs) ≡ take n (drop s xs)
take_cut xs s n e within is = elim (cases_lt (length xs) (s + n)) [
  | inl short ↦ take_all (e - s) (drop s xs) (omega (arith, length-drop s xs)) ∙ sym (take_all n (drop s xs) (omega (arith, length-drop s xs)))
  | inr long ↦ ap (λ k. take k (drop s xs)) (omega arith)
]

-- one number more
pub range-more : (a n : ℕ) → range_with_len a (n + 1) ≡ range_with_len a n ++ (a + n) ∷ []
range-more a zero = let e : a ≡ a + 0 = omega arith in ap (λ x. x ∷ []) e
range-more a (suc n) =
    let e : (a + 1) + n ≡ a + suc n = omega arith in
    let s : suc n + 1 ≡ suc (n + 1) = omega arith in
    ap (range_with_len a) s ∙ ap (λ xs. a ∷ xs) (range-more (a + 1) n) ∙ ap (λ x. (a ∷ range_with_len (a + 1) n) ++ x ∷ []) e

-- one part more of a text that is made for each number
pub flat_map-more : {A : Type 0} (f : ℕ → List A) (n : ℕ) → flat_map f (range_with_len 0 (n + 1)) ≡ flat_map f (range_with_len 0 n) ++ f n
flat_map-more f n =
    let e : 0 + n ≡ n = omega arith in
    ap (flat_map f) (range-more 0 n) ∙ flat_map-append f (range_with_len 0 n) ((0 + n) ∷ []) ∙ ap (λ x. flat_map f (range_with_len 0 n) ++ x) (append-nil (f (0 + n)) ∙ ap f e)
