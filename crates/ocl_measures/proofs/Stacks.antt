-- Lists that grow and shrink at their ends, and marks that are set.
use Rattle.std.proofs.Common.{◌≡◌, refl, sym, ap, ◌∙◌, ℕ, zero, suc, ◌+◌, ◌<◌, ◌≤◌, ◌==◌, Bool, if◌then◌else◌, ◌⊎◌, inl, inr, List, [], ◌∷◌, ◌++◌, length, set, slice_get, Option, Some, arith, eqb-true, eq-eqb}
use Rattle.std.proofs.lemmas.Bool.{cases_Bool, false≢true}
use Rattle.std.proofs.lemmas.List.{get_or-set_same, get_or-set_other}
use Rattle.std.proofs.lemmas.Option.{slice_get_past, unwrap_or-slice_get}
use Rattle.std.specs.Option.{unwrap_or}
use Rattle.ocl_program.specs.Measures.{where_some}
use Rattle.ocl_measures.specs.Search.{is_done, is_unseen, mark_at, marked_so}
use Rattle.ocl_measures.specs.Sizes.{total_of}
use Rattle.ocl_measures.specs.declared.search.Mark.{Mark}
use Rattle.ocl_measures.specs.declared.search.Mark.TheVariants.{Unseen, Open, Done}
use Rattle.ocl_measures.specs.declared.sizes.Totals.{Totals}
use Rattle.ocl_measures.proofs.Reaching.{le_or_lt}

pub equal_or_not : (m n : ℕ) → (m ≡ n) ⊎ (m ≡ n → ⊥)
equal_or_not m n = elim (cases_Bool (m == n)) [
  | inl same ↦ inl (eqb-true m n same)
  | inr other ↦ inr (λ e. false≢true (sym other ∙ eq-eqb m n e))
]

-- ---- a list behind another

pub front : {A : Type 0} (xs ys : List A) (i : ℕ) (x : A) → slice_get xs i ≡ Some x → slice_get (xs ++ ys) i ≡ Some x
front [] ys i x e = cc
front (z ∷ zs) ys zero x e = e
front (z ∷ zs) ys (suc i) x e = front zs ys i x e

pub behind : {A : Type 0} (xs ys : List A) (k i : ℕ) (x : A) → k ≡ length xs + i → slice_get ys i ≡ Some x → slice_get (xs ++ ys) k ≡ Some x
behind [] ys k i x at e = let same : k ≡ i = omega arith in ap (slice_get ys) same ∙ e
behind (z ∷ zs) ys zero i x at e = absurd (omega arith)
behind (z ∷ zs) ys (suc k) i x at e = behind zs ys k i x (omega arith) e

-- what stands in the list behind
pub record Later {A : Type 0} (ys : List A) (n k : ℕ) (x : A) : Type 0 where
  pub place : ℕ
  pub at : k ≡ n + place
  pub there : slice_get ys place ≡ Some x

pub parted : {A : Type 0} (xs ys : List A) (k : ℕ) (x : A) → slice_get (xs ++ ys) k ≡ Some x → (slice_get xs k ≡ Some x) ⊎ Later ys (length xs) k x
parted [] ys k x e = inr (record { place = k; at = omega arith; there = e })
parted (z ∷ zs) ys zero x e = inl e
parted (z ∷ zs) ys (suc k) x e = elim (parted zs ys k x e) [
  | inl h ↦ inl h
  | inr h ↦ let at = h.at in inr (record { place = h.place; at = omega arith; there = h.there })
]

nothing_there : {A : Type 0} (i : ℕ) (x : A) → slice_get [] i ≡ Some x → ⊥
nothing_there i x e = cc

pub record Only {A : Type 0} (y : A) (n k : ℕ) (x : A) : Type 0 where
  pub at : k ≡ n
  pub same : x ≡ y

only_at : {A : Type 0} (y : A) (n k : ℕ) (x : A) (i : ℕ) → k ≡ n + i → slice_get (y ∷ []) i ≡ Some x → Only y n k x
only_at y n k x zero at e = record { at = omega arith; same = cc }
only_at y n k x (suc i) at e = absurd (nothing_there i x e)

pub only : {A : Type 0} (y : A) (n k : ℕ) (x : A) → Later (y ∷ []) n k x → Only y n k x
only y n k x h = only_at y n k x h.place h.at h.there

-- the last of a list that is not empty
pub record Last {A : Type 0} (xs : List A) : Type 0 where
  pub place : ℕ
  pub item : A
  pub there : slice_get xs place ≡ Some item
  pub last : suc place ≡ length xs

pub last_of : {A : Type 0} (xs : List A) → 0 < length xs → Last xs
last_of [] some = absurd (omega arith)
last_of (x ∷ []) some = record { place = 0; item = x; there = refl; last = refl }
last_of (x ∷ y ∷ ys) some =
    let m : Last (y ∷ ys) = last_of (y ∷ ys) (omega arith) in
    let e = m.last in
    record { place = suc m.place; item = m.item; there = m.there; last = ap suc e }

pub same_found : {A : Type 0} (o : Option A) (x y : A) → o ≡ Some x → o ≡ Some y → x ≡ y
same_found o x y e h = let both : Some x ≡ Some y = sym e ∙ h in cc

-- ---- marks

pub not_unseen_done : (m : Mark) → m ≡ Unseen → m ≡ Done → ⊥
not_unseen_done m a b = false≢true (sym (ap is_done a) ∙ ap is_done b)

pub not_open_done : (m : Mark) → m ≡ Open → m ≡ Done → ⊥
not_open_done m a b = false≢true (sym (ap is_done a) ∙ ap is_done b)

pub not_open_unseen : (m : Mark) → m ≡ Open → m ≡ Unseen → ⊥
not_open_unseen m a b = false≢true (sym (ap is_unseen a) ∙ ap is_unseen b)

pub set_here : (ms : List Mark) (k : ℕ) (m : Mark) → k < length ms → mark_at (set ms k m) k ≡ m
set_here ms k m below = unwrap_or-slice_get (set ms k m) k Done ∙ get_or-set_same ms k m Done below

pub set_else : (ms : List Mark) (k j : ℕ) (m : Mark) → (j ≡ k → ⊥) → mark_at (set ms k m) j ≡ mark_at ms j
set_else ms k j m other = unwrap_or-slice_get (set ms k m) j Done ∙ get_or-set_other ms k j m Done other ∙ sym (unwrap_or-slice_get ms j Done)

-- a function that is not done is one of the list
pub in_marks : (ms : List Mark) (k : ℕ) → (mark_at ms k ≡ Done → ⊥) → k < length ms
in_marks ms k not = elim (le_or_lt (length ms) k) [
  | inl past ↦ absurd (not (ap (λ found. unwrap_or found Done) (slice_get_past ms k past)))
  | inr below ↦ below
]

abbrev pub one : Bool → ℕ
one b = if b then 1 else 0

pub marked_here : (so : Mark → Bool) (ms : List Mark) (k : ℕ) (m : Mark) → k < length ms →
    marked_so so (set ms k m) + one (so (mark_at ms k)) ≡ marked_so so ms + one (so m)
marked_here so [] k m below = absurd (omega arith)
marked_here so (x ∷ xs) zero m below = omega arith
marked_here so (x ∷ xs) (suc k) m below =
    let rest : marked_so so (set xs k m) + one (so (mark_at xs k)) ≡ marked_so so xs + one (so m) = marked_here so xs k m (omega arith) in
    omega arith

pub marked_most : (so : Mark → Bool) (ms : List Mark) → marked_so so ms ≤ length ms
marked_most so [] = omega arith
marked_most so (x ∷ xs) =
    let rest : marked_so so xs ≤ length xs = marked_most so xs in
    elim (cases_Bool (so x)) [
      | inl here ↦ let e : marked_so so (x ∷ xs) ≡ 1 + marked_so so xs = ap (λ b. (if b then 1 else 0) + marked_so so xs) here in omega arith
      | inr not ↦ let e : marked_so so (x ∷ xs) ≡ 0 + marked_so so xs = ap (λ b. (if b then 1 else 0) + marked_so so xs) not in omega arith
    ]

-- ---- totals

pub get_here : {A : Type 0} (ts : List A) (k : ℕ) (t : A) → k < length ts → slice_get (set ts k t) k ≡ Some t
get_here [] k t below = absurd (omega arith)
get_here (x ∷ xs) zero t below = refl
get_here (x ∷ xs) (suc k) t below = get_here xs k t (omega arith)

pub get_else : {A : Type 0} (ts : List A) (k j : ℕ) (t : A) → (j ≡ k → ⊥) → slice_get (set ts k t) j ≡ slice_get ts j
get_else [] k j t other = refl
get_else (x ∷ xs) zero zero t other = absurd (other refl)
get_else (x ∷ xs) zero (suc j) t other = refl
get_else (x ∷ xs) (suc k) zero t other = refl
get_else (x ∷ xs) (suc k) (suc j) t other = get_else xs k j t (λ e. other (ap suc e))

pub total_here : (what : Totals → ℕ) (ts : List Totals) (k : ℕ) (t : Totals) → k < length ts → total_of what (set ts k t) k ≡ what t
total_here what ts k t below = ap (where_some what) (get_here ts k t below)

pub total_else : (what : Totals → ℕ) (ts : List Totals) (k j : ℕ) (t : Totals) → (j ≡ k → ⊥) → total_of what (set ts k t) j ≡ total_of what ts j
total_else what ts k j t other = ap (where_some what) (get_else ts k j t other)

-- what stands at a place of a list
pub record Read {A : Type 0} (xs : List A) (k : ℕ) : Type 0 where
  pub item : A
  pub there : slice_get xs k ≡ Some item

pub read_there : {A : Type 0} (xs : List A) (k : ℕ) → k < length xs → Read xs k
read_there [] k below = absurd (omega arith)
read_there (x ∷ xs) zero below = record { item = x; there = refl }
read_there (x ∷ xs) (suc k) below = let r : Read xs k = read_there xs k (omega arith) in record { item = r.item; there = r.there }
