-- The next item of a list that is gone through, as its image under a map.
use Rattle.std.proofs.Common.{◌≡◌, ℕ, zero, suc, ◌+◌, ◌<◌, ◌≤◌, List, [], ◌∷◌, ◌++◌, map, length, take, drop, get_or, refl, sym, ap, ◌∙◌, arith}

left_from : {A B : Type 0} (h : A → B) (xs : List A) (i : ℕ) (x : A) → i < length xs → x ≡ get_or xs i x → drop i (map h xs) ≡ h x ∷ drop (suc i) (map h xs)
left_from h [] i x within is = absurd (omega arith)
left_from h (y ∷ ys) zero x within is = ap (λ z. h z ∷ map h ys) (sym is)
left_from h (y ∷ ys) (suc i) x within is = left_from h ys i x (omega arith) is

taken_to : {A B : Type 0} (h : A → B) (xs : List A) (i : ℕ) (x : A) → i < length xs → x ≡ get_or xs i x → take (suc i) (map h xs) ≡ take i (map h xs) ++ h x ∷ []
taken_to h [] i x within is = absurd (omega arith)
taken_to h (y ∷ ys) zero x within is = ap (λ z. h z ∷ []) (sym is)
taken_to h (y ∷ ys) (suc i) x within is = ap (λ l. h y ∷ l) (taken_to h ys i x (omega arith) is)

suc_is : (i : ℕ) → suc i ≡ i + 1
suc_is i = omega arith

-- what is left at place i is the item there, and what is left behind it
pub next_left : {A B : Type 0} (h : A → B) (xs : List A) (i : ℕ) (x : A) → i < length xs → x ≡ get_or xs i x → drop i (map h xs) ≡ h x ∷ drop (i + 1) (map h xs)
next_left h xs i x within is = left_from h xs i x within is ∙ ap (λ j. h x ∷ drop j (map h xs)) (suc_is i)

-- what is taken up to place i + 1 is what is taken up to i, and the item there
pub next_taken : {A B : Type 0} (h : A → B) (xs : List A) (i : ℕ) (x : A) → i < length xs → x ≡ get_or xs i x → take (i + 1) (map h xs) ≡ take i (map h xs) ++ h x ∷ []
next_taken h xs i x within is = sym (ap (λ j. take j (map h xs)) (suc_is i)) ∙ taken_to h xs i x within is

behind : {A B : Type 0} (h : A → B) (xs : List A) (i : ℕ) → length xs ≤ i → drop i (map h xs) ≡ []
behind h [] zero past = refl
behind h [] (suc i) past = refl
behind h (y ∷ ys) zero past = absurd (omega arith)
behind h (y ∷ ys) (suc i) past = behind h ys i (omega arith)

-- behind the last item nothing is left
pub none_left : {A B : Type 0} (h : A → B) (xs : List A) (i : ℕ) → length xs ≤ i → drop i (map h xs) ≡ []
none_left h xs i past = behind h xs i past

-- how many are taken
pub take_counted : {A B : Type 0} (h : A → B) (xs : List A) (i : ℕ) → i ≤ length xs → i ≡ length (take i (map h xs))
take_counted h [] zero within = refl
take_counted h [] (suc i) within = absurd (omega arith)
take_counted h (x ∷ xs) zero within = refl
take_counted h (x ∷ xs) (suc i) within = ap suc (take_counted h xs i (omega arith))
