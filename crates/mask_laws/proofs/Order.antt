-- How far a lane has come: by the loops that it is in and the numbers of their turns, the outermost first, and then by its place. A later
-- state comes behind in the order of such lists.
use Rattle.std.proofs.Common.{◌≡◌, ℕ, ◌<◌, ◌⊎◌, inl, inr, List, [], ◌∷◌, refl, ap, sym, ◌∙◌, arith}
use Rattle.mask_laws.specs.Spots.{Frame, First, Second, Round, Turning, Shape, Straight, Sides, Test, Meet, Nowhere, Spot}
use Rattle.mask_laws.proofs.Fits.{Into}

-- the first list comes before the other where they differ first
abbrev pub Before : List ℕ → List ℕ → Type 0
Before [] bs = ⊥
Before (a ∷ as') [] = ⊥
Before (a ∷ as') (b ∷ bs) = (a < b) ⊎ ((a ≡ b) × Before as' bs)

pub never_itself : (xs : List ℕ) → Before xs xs → ⊥
never_itself [] h = h
never_itself (x ∷ xs) (inl less) = omega (arith, less)
never_itself (x ∷ xs) (inr same) = never_itself xs same.1

pub before_both : (xs ys zs : List ℕ) → Before xs ys → Before ys zs → Before xs zs
before_both [] ys zs h h' = absurd h
before_both (x ∷ xs) [] zs h h' = absurd h
before_both (x ∷ xs) (y ∷ ys) [] h h' = absurd h'
before_both (x ∷ xs) (y ∷ ys) (z ∷ zs) (inl less) (inl less') = inl (omega (arith, less, less'))
before_both (x ∷ xs) (y ∷ ys) (z ∷ zs) (inl less) (inr same) = inl (omega (arith, less, same.0))
before_both (x ∷ xs) (y ∷ ys) (z ∷ zs) (inr same) (inl less) = inl (omega (arith, less, same.0))
before_both (x ∷ xs) (y ∷ ys) (z ∷ zs) (inr same) (inr same') = inr (same.0 ∙ same'.0, before_both xs ys zs same.1 same'.1)

-- loops by where they begin, the innermost first, with the numbers of their turns, in front of what stands within them
abbrev pub stamp : List ℕ → List ℕ → List ℕ → List ℕ
stamp [] ts within = within
stamp (s ∷ ss) [] within = within
stamp (s ∷ ss) (n ∷ ns) within = stamp ss ns (s ∷ n ∷ within)

pub stamp_before : (ss ts xs ys : List ℕ) → Before xs ys → Before (stamp ss ts xs) (stamp ss ts ys)
stamp_before [] ts xs ys h = h
stamp_before (s ∷ ss) [] xs ys h = h
stamp_before (s ∷ ss) (n ∷ ns) xs ys h = stamp_before ss ns (s ∷ n ∷ xs) (s ∷ n ∷ ys) (inr (refl, inr (refl, h)))

-- as many numbers of turns as loops
abbrev pub AsMany : List ℕ → List ℕ → Type 0
AsMany [] [] = Unit {0}
AsMany [] (n ∷ ns) = ⊥
AsMany (s ∷ ss) [] = ⊥
AsMany (s ∷ ss) (n ∷ ns) = AsMany ss ns

-- where the loops begin that stand round a place
abbrev pub with_start : Frame → List ℕ → List ℕ
with_start (First q e j t) ss = ss
with_start (Second q e j t) ss = ss
with_start (Round s x) ss = s ∷ ss
with_start (Turning s p x m t) ss = s ∷ ss

abbrev pub starts_of : List Frame → List ℕ
starts_of [] = []
starts_of (f ∷ fs) = with_start f (starts_of fs)

abbrev pub frames_of : Shape → List Frame
frames_of (Straight fs) = fs
frames_of (Sides q e j t fs) = fs
frames_of (Test s p x m t fs) = Turning s p x m t ∷ fs
frames_of (Meet q e j t fs) = fs
frames_of Nowhere = []

abbrev pub starts_at : (ℕ → Spot) → ℕ → List ℕ
starts_at spots p = starts_of (frames_of (spots p).shape)

-- a place that a lane can be at
abbrev pub IsThere : Shape → Type 0
IsThere Nowhere = ⊥
IsThere other = Unit {0}

pub into_starts : (sh : Shape) (fs : List Frame) → Into sh fs → (starts_of (frames_of sh) ≡ starts_of fs) × IsThere sh
into_starts (Straight fs') fs e = (ap starts_of (sym e), tt)
into_starts (Sides q e' j t fs') fs e = absurd e
into_starts (Test s p x m t fs') fs e = absurd e
into_starts (Meet q e' j t fs') fs (inl e) = (ap starts_of (sym e), tt)
into_starts (Meet q e' j t fs') fs (inr e) = (ap starts_of (sym e), tt)
into_starts Nowhere fs e = absurd e

-- ---- states

-- how far a lane has come that is at a place with these numbers of turns
abbrev pub stamp_at : (ℕ → Spot) → ℕ → List ℕ → List ℕ
stamp_at spots p ts = stamp (starts_at spots p) ts (p ∷ [])

-- A lane may be at a place with these numbers of turns.
pub record MayBe (spots : ℕ → Spot) (p : ℕ) (ts : List ℕ) : Type 0 where
  pub there : IsThere (spots p).shape
  pub many : AsMany (starts_at spots p) ts

-- it comes from one state to a later one
pub record Rises (spots : ℕ → Spot) (p : ℕ) (ts : List ℕ) (p' : ℕ) (ts' : List ℕ) : Type 0 where
  pub may : MayBe spots p' ts'
  pub later : Before (stamp_at spots p ts) (stamp_at spots p' ts')
