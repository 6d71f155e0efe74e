-- Laws of frames: what a step leaves as it was, how long the stack is, and when all lanes are active.
use Rattle.std.proofs.Common.{◌≡◌, ◌≢◌, ℕ, suc, ◌*◌, ◌^◌, ◌<◌, ◌≤◌, ◌⊎◌, inl, inr, Bool, List, [], ◌∷◌, length, ap, sym, ◌∙◌, subst, arith}
use Rattle.vx_isa.specs.Warps.{has_lane}
use Rattle.vx_isa.specs.declared.warps.Held.{Held}
use Rattle.vx_isa.specs.declared.warps.Held.TheVariants.{Restore, Else}
use Rattle.warp_code.specs.Warps.{VLane}
use Rattle.mask_laws.proofs.Sets.{In, Out, which, clash}
use Rattle.mask_laws.specs.Spots.{Frame, First, Second, Round, Turning, Shape, Straight, Sides, Test, Meet, Nowhere, Spot}
use Rattle.mask_laws.proofs.Frames.{FrameWaits, OtherSide, OneSide, FrameSaves, HeldBy, FrameClear, Clear, Whole, sides, Turned, ShapeHeld, Uniform, Inv}
use Rattle.mask_laws.proofs.Fits.{Into, LeadsOn}

-- a lane that did not enter is not active
pub out_inner : (act outer : ℕ) → ((l : ℕ) → In act l → In outer l) → (l : ℕ) → Out outer l → Out act l
out_inner act outer inside l is_out = elim (which (has_lane act l)) [
  | inl is_in ↦ clash (has_lane outer l) (inside l is_in) is_out
  | inr out' ↦ out'
]

-- registers that keep a loop's lanes are as they were
abbrev pub FrameSame : Frame → (ℕ → VLane) → (ℕ → VLane) → Type 0
FrameSame (Turning s p x m t) vs vs' = (l : ℕ) → (vs' l).registers m ≡ (vs l).registers m
FrameSame other vs vs' = Unit {0}

abbrev pub SameSaves : List Frame → (ℕ → VLane) → (ℕ → VLane) → Type 0
SameSaves [] vs vs' = Unit {0}
SameSaves (f ∷ fs) vs vs' = FrameSame f vs vs' × SameSaves fs vs vs'

saves_same : (f : Frame) (vs vs' : ℕ → VLane) (outer : ℕ) → FrameSame f vs vs' → FrameSaves f vs outer → FrameSaves f vs' outer
saves_same (First q e j t) vs vs' outer same saved = tt
saves_same (Second q e j t) vs vs' outer same saved = tt
saves_same (Round s x) vs vs' outer same saved = tt
saves_same (Turning s p x m t) vs vs' outer same saved = λ l is_in. same l ∙ saved l is_in

-- A warp keeps what is held where lanes that are not active stay as they were.
pub held_moves : (vs vs' : ℕ → VLane) (all : ℕ) (fs : List Frame) (act : ℕ) (st : List Held) (ts : List ℕ) → ((l : ℕ) → Out act l → vs' l ≡ vs l) → SameSaves fs vs vs'
    → HeldBy vs all fs act st ts → HeldBy vs' all fs act st ts
held_moves vs vs' all [] act st ts stay same h = h
held_moves vs vs' all (f ∷ fs) act st ts stay same h = record {
  outer = h.outer;
  rest = h.rest;
  inner = h.inner;
  small = h.small;
  inside = h.inside;
  waits = λ l is_in is_out. subst (FrameWaits f h.inner) (sym (stay l is_out)) (h.waits l is_in is_out);
  stacked = h.stacked;
  turned = h.turned;
  saved = saves_same f vs vs' h.outer same.0 h.saved;
  below = held_moves vs vs' all fs h.outer h.rest h.inner (λ l is_out. stay l (out_inner act h.outer h.inside l is_out)) same.1 h.below;
}

frame_kept : (f : Frame) (vs vs' : ℕ → VLane) → ((l r : ℕ) → (vs' l).registers r ≡ (vs l).registers r) → FrameSame f vs vs'
frame_kept (First q e j t) vs vs' same = tt
frame_kept (Second q e j t) vs vs' same = tt
frame_kept (Round s x) vs vs' same = tt
frame_kept (Turning s p x m t) vs vs' same = λ l. same l m

pub all_kept : (fs : List Frame) (vs vs' : ℕ → VLane) → ((l r : ℕ) → (vs' l).registers r ≡ (vs l).registers r) → SameSaves fs vs vs'
all_kept [] vs vs' same = tt
all_kept (f ∷ fs) vs vs' same = (frame_kept f vs vs' same, all_kept fs vs vs' same)

frame_clear : (d : ℕ) (f : Frame) (vs vs' : ℕ → VLane) → FrameClear d f → ((l r : ℕ) → r ≢ d → (vs' l).registers r ≡ (vs l).registers r) → FrameSame f vs vs'
frame_clear d (First q e j t) vs vs' clear same = tt
frame_clear d (Second q e j t) vs vs' clear same = tt
frame_clear d (Round s x) vs vs' clear same = tt
frame_clear d (Turning s p x m t) vs vs' clear same = λ l. same l m clear

-- one register is written that keeps no loop's lanes
pub clear_kept : (d : ℕ) (fs : List Frame) (vs vs' : ℕ → VLane) → Clear d fs → ((l r : ℕ) → r ≢ d → (vs' l).registers r ≡ (vs l).registers r) → SameSaves fs vs vs'
clear_kept d [] vs vs' clear same = tt
clear_kept d (f ∷ fs) vs vs' clear same = (frame_clear d f vs vs' clear.0 same, clear_kept d fs vs vs' clear.1 same)

-- where no frame parts the lanes, all are active
pub whole_all : (vs : ℕ → VLane) (all : ℕ) (fs : List Frame) (act : ℕ) (st : List Held) (ts : List ℕ) → Whole fs → HeldBy vs all fs act st ts → act ≡ all
whole_all vs all [] act st ts whole h = h.0
whole_all vs all (First q e j t ∷ fs) act st ts whole h = absurd whole
whole_all vs all (Second q e j t ∷ fs) act st ts whole h = absurd whole
whole_all vs all (Round s x ∷ fs) act st ts whole h = h.stacked.1 ∙ whole_all vs all fs h.outer h.rest h.inner whole h.below
whole_all vs all (Turning s p x m t ∷ fs) act st ts whole h = absurd whole

-- ---- the stack

two_more : (n : ℕ) (o r : Held) (rest st : List Held) → st ≡ o ∷ r ∷ rest → length rest ≤ 2 * n → length st ≤ 2 * suc n
two_more n o r rest st e low = let long : length st ≡ suc (suc (length rest)) = ap length e in omega (arith, long, low)

one_more : (n : ℕ) (r : Held) (rest st : List Held) → st ≡ r ∷ rest → length rest ≤ 2 * n → length st ≤ 2 * suc n
one_more n r rest st e low = let long : length st ≡ suc (length rest) = ap length e in omega (arith, long, low)

no_more : (n : ℕ) (rest st : List Held) → st ≡ rest → length rest ≤ 2 * n → length st ≤ 2 * n
no_more n rest st e low = subst (λ s. length s ≤ 2 * n) (sym e) low

side_more : (q act outer n : ℕ) (rest st : List Held) → OtherSide q act outer rest st ⊎ OneSide act outer rest st → length rest ≤ 2 * n → length st ≤ 2 * suc n
side_more q act outer n rest st (inl o) low = two_more n (Else o.off (suc q)) (Restore outer) rest st o.stacked low
side_more q act outer n rest st (inr o) low = one_more n (Restore outer) rest st o.stacked low

none_yet : (st : List Held) → st ≡ [] → length st ≤ 2 * 0
none_yet st e = let none : length st ≡ 0 = ap length e in omega (arith, none)

-- each side of a split has at most two entries
pub held_short : (vs : ℕ → VLane) (all : ℕ) (fs : List Frame) (act : ℕ) (st : List Held) (ts : List ℕ) → HeldBy vs all fs act st ts → length st ≤ 2 * sides fs
held_short vs all [] act st ts h = none_yet st h.1
held_short vs all (First q e j t ∷ fs) act st ts h = side_more q act h.outer (sides fs) h.rest st h.stacked (held_short vs all fs h.outer h.rest h.inner h.below)
held_short vs all (Second q e j t ∷ fs) act st ts h = one_more (sides fs) (Restore h.outer) h.rest st h.stacked (held_short vs all fs h.outer h.rest h.inner h.below)
held_short vs all (Round s x ∷ fs) act st ts h = no_more (sides fs) h.rest st h.stacked.0 (held_short vs all fs h.outer h.rest h.inner h.below)
held_short vs all (Turning s p x m t ∷ fs) act st ts h = no_more (sides fs) h.rest st h.stacked (held_short vs all fs h.outer h.rest h.inner h.below)

-- ---- lanes within lanes

pub held_inside : (vs : ℕ → VLane) (all : ℕ) (fs : List Frame) (act : ℕ) (st : List Held) (ts : List ℕ) → HeldBy vs all fs act st ts → (l : ℕ) → In act l → In all l
held_inside vs all [] act st ts h l is_in = subst (λ m. In m l) h.0 is_in
held_inside vs all (f ∷ fs) act st ts h l is_in = held_inside vs all fs h.outer h.rest h.inner h.below l (h.inside l is_in)

-- ---- where a warp arrives

pub into : (sh : Shape) (fs : List Frame) (all mask : ℕ) (vs : ℕ → VLane) (st : List Held) (ts : List ℕ) → Into sh fs → Turned vs mask ts → HeldBy vs all fs mask st ts
    → ShapeHeld sh all vs mask st
into (Straight fs') fs all mask vs st ts e turned h = (ts, turned, subst (λ g. HeldBy vs all g mask st ts) e h)
into (Sides q e' j t fs') fs all mask vs st ts e turned h = absurd e
into (Test s p x m t fs') fs all mask vs st ts e turned h = absurd e
into (Meet q e' j t fs') fs all mask vs st ts (inl e) turned h = (ts, turned, inl (subst (λ g. HeldBy vs all g mask st ts) e h))
into (Meet q e' j t fs') fs all mask vs st ts (inr e) turned h = (ts, turned, inr (subst (λ g. HeldBy vs all g mask st ts) e h))
into Nowhere fs all mask vs st ts e turned h = absurd e

module _ (spots : ℕ → Spot) (uni : ℕ → Bool) (all : ℕ) where
  -- a warp has come to a place
  pub arrives : (ag : ℕ → Bool) (fs : List Frame) (q mask : ℕ) (vs : ℕ → VLane) (st : List Held) (ts : List ℕ) → LeadsOn spots ag fs q
      → mask < 2 ^ 32 → 0 < mask → ((l : ℕ) → In mask l → (vs l).place ≡ q) → Uniform uni all vs → Uniform ag mask vs → Turned vs mask ts → HeldBy vs all fs mask st ts
      → Inv spots uni all (record { place = q; mask = mask; lanes = vs; stack = st })
  arrives ag fs q mask vs st ts leads small some here uniform agreed turned held = record {
    small = small;
    some = some;
    inside = held_inside vs all fs mask st ts held;
    here = here;
    uniform = uniform;
    agreed = λ r e l l' is_in is_in'. agreed r (leads.1 r e) l l' is_in is_in';
    held = into (spots q).shape fs all mask vs st ts leads.0 turned held;
  }
