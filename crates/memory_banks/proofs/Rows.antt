-- Rows that a loop rewrites from the front, and rows that are read.
use Rattle.std.proofs.Common.{◌≡◌, ℕ, zero, suc, ◌+◌, ◌^◌, ◌<◌, ◌≤◌, ⊎_elim, List, [], ◌∷◌, ◌++◌, length, set, get_or, take, drop, refl, ap, sym, ◌∙◌, subst, All, arith, bit_or}
use Rattle.std.proofs.lemmas.Bool.{cases_lt}
use Rattle.std.proofs.lemmas.List.{append-nil, drop_all, get_or-set_same, get_or-set_other, take_all, take_more}
use Rattle.std.proofs.lemmas.List.Elements.{All-head, All-tail}
use Rattle.std.proofs.lemmas.Nat.Bits.{bit_at_or, same_from_bits}
use mathlib.Core.Option.{some, some-injective, some-ne-none}
use lib.ListN.{get_elem?}
use Rattle.memory_banks.specs.Ports.{union}

-- an element that is there does not hang on what stands for a missing one
pub read_same : {A : Type 0} (xs : List A) (k : ℕ) (d e : A) → k < length xs → get_or xs k d ≡ get_or xs k e
read_same [] k d e within = absurd (omega arith)
read_same (x ∷ xs) zero d e within = refl
read_same (x ∷ xs) (suc k) d e within = read_same xs k d e (omega arith)

module _ {A : Type 0} (first now : List A) (at : ℕ) (x y : A) (within : at < length now) (is : x ≡ get_or now at x) (rest : (k : ℕ) (d : A) → at ≤ k → get_or now k d ≡ get_or first k d) where
  -- the element that is rewritten, as it stood at first
  pub first_is : (d : A) → get_or first at d ≡ x
  first_is d = sym (rest at d (omega arith)) ∙ (read_same now at d x within ∙ sym is)

  -- the row so far, with one more
  pub row_more : (R : A → A → Type 0) → ((k : ℕ) (d : A) → k < at → R (get_or first k d) (get_or now k d)) → R x y
      → (k : ℕ) (d : A) → k < at + 1 → R (get_or first k d) (get_or (set now at y) k d)
  row_more R done here k d below = ⊎_elim
      (λ before. subst (R (get_or first k d)) (sym (get_or-set_other now at k y d (omega arith))) (done k d before))
      (λ last.
      let same : at ≡ k = omega arith in
      let P : ℕ → Type 0 = λ j. R (get_or first j d) (get_or (set now at y) j d) in
      subst P same (subst (λ (z : A × A). R z.0 z.1) (λ i. (sym (first_is d) i, sym (get_or-set_same now at y d within) i)) here))
      (cases_lt k at)

  pub row_rest : (k : ℕ) (d : A) → at + 1 ≤ k → get_or (set now at y) k d ≡ get_or first k d
  row_rest k d above = get_or-set_other now at k y d (omega arith) ∙ rest k d (omega arith)

  -- the first elements, with one more
  pub front_more : at < length first → take (at + 1) first ≡ take at first ++ x ∷ []
  front_more inside = take_more first at x inside ∙ ap (λ (z : A). take at first ++ z ∷ []) (first_is x)

taken_suc : {A : Type 0} (xs : List A) (n : ℕ) (x : A) (ys : List A) → drop n xs ≡ x ∷ ys → (take (suc n) xs ≡ take n xs ++ x ∷ []) × (drop (suc n) xs ≡ ys)
taken_suc [] zero x ys is = absurd (cc is)
taken_suc [] (suc n) x ys is = absurd (cc is)
taken_suc (z ∷ zs) zero x ys is = (cc is, cc is)
taken_suc (z ∷ zs) (suc n) x ys is = let rest = taken_suc zs n x ys is in (λ i. z ∷ rest.0 i, rest.1)

-- what is left of a list, and what was taken
pub taken_more : {A : Type 0} (xs : List A) (n : ℕ) (x : A) (ys : List A) → drop n xs ≡ x ∷ ys → (take (n + 1) xs ≡ take n xs ++ x ∷ []) × (drop (n + 1) xs ≡ ys)
taken_more xs n x ys is =
    let one : suc n ≡ n + 1 = omega arith in
    let rest = taken_suc xs n x ys is in
    (sym (ap (λ (k : ℕ). take k xs) one) ∙ rest.0, sym (ap (λ (k : ℕ). drop k xs) one) ∙ rest.1)

or_turn : (a b c : ℕ) → bit_or (bit_or a b) c ≡ bit_or (bit_or a c) b
or_turn a b c = same_from_bits (bit_or (bit_or a b) c) (bit_or (bit_or a c) b)
    (λ i. omega (arith, bit_at_or (bit_or a b) c i, bit_at_or a b i, bit_at_or (bit_or a c) b i, bit_at_or a c i))

-- a set more, put in front
pub union-front : (a : ℕ) (xs : List ℕ) (x : ℕ) → union a (xs ++ x ∷ []) ≡ union (bit_or a x) xs
union-front a [] x = refl
union-front a (y ∷ ys) x = union-front (bit_or a y) ys x ∙ ap (λ (n : ℕ). union n ys) (or_turn a y x)

-- a row that is read word by word
pub same_read : (xs ys : List ℕ) → length xs ≡ length ys → ((k : ℕ) → k < length xs → get_elem? (ys ++ 0 ∷ []) k ≡ some (get_or xs k 0)) → xs ≡ ys
same_read [] [] len reads = refl
same_read [] (y ∷ ys) len reads = absurd (omega arith)
same_read (x ∷ xs) [] len reads = absurd (omega arith)
same_read (x ∷ xs) (y ∷ ys) len reads =
    let head : y ≡ x = some-injective y x (reads 0 (omega arith)) in
    let rest = same_read xs ys (omega arith) (λ k within. reads (suc k) (omega arith)) in
    λ i. sym head i ∷ rest i

pub small_row : (ys : List ℕ) (k w : ℕ) → All (λ x. x < 2 ^ 32) ys → get_elem? (ys ++ 0 ∷ []) k ≡ some w → w < 2 ^ 32
small_row [] zero w small is = let zero_is : 0 ≡ w = some-injective 0 w is in omega arith
small_row [] (suc k) w small is = absurd (some-ne-none w (sym is))
small_row (y ∷ ys) zero w small is =
    let same : y ≡ w = some-injective y w is in
    let less = All-head (λ x. x < 2 ^ 32) y ys small in
    omega arith
small_row (y ∷ ys) (suc k) w small is = small_row ys k w (All-tail (λ x. x < 2 ^ 32) y ys small) is

-- a row that was lent whole, as it came back
pub whole_row : {A : Type 0} (n : ℕ) (old new : List A) → n ≡ length old → length new ≡ length old → take n (new ++ drop (length new) old) ≡ new
whole_row n old new len same =
    let none : drop (length new) old ≡ [] = drop_all (length new) old (omega arith) in
    ap (λ (xs : List _). take n (new ++ xs)) none ∙ (ap (take n) (append-nil new) ∙ take_all n new (omega arith))
