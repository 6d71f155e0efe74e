-- Sets of lanes, and a step that all active lanes make alike.
use Rattle.std.proofs.Common.{◌≡◌, ℕ, ◌^◌, ◌<◌, ◌≤◌, ◌⊎◌, inl, inr, Bool, true, false, not, ◌&&◌, nat_lt, ◌==◌, if◌then◌else◌, refl, ap, sym, ◌∙◌, eq-zero-or-pos, eqb-true}
use Rattle.std.proofs.lemmas.Bool.{true≢false, and_left, and_right}
use Rattle.vx_isa.specs.Warps.{has_lane, lanes_where, least_below, leader}
use Rattle.vx_isa.specs.declared.warps.Step.TheVariants as step
use Rattle.vx_isa.proofs.MaskLaws.{least_below-none, has_lane-above, has_lane-lanes_below, lanes_below-lt, leader-lane, same_lanes}
use Rattle.simt_lowering.proofs.LaneMasks.{none_stays, lt_or_le}
use Rattle.vcode.specs.Code.{VOp}
use Rattle.warp_code.specs.Warps.{Crew, VLane, VWarp, does, lane_behind, moved, stepped, chooses, same_choice, disagrees, lanes_by, lanes_step}

-- a lane is in a set, and is not
abbrev pub In : ℕ → ℕ → Type 0
In mask l = has_lane mask l ≡ true

abbrev pub Out : ℕ → ℕ → Type 0
Out mask l = has_lane mask l ≡ false

pub which : (b : Bool) → (b ≡ true) ⊎ (b ≡ false)
which true = inl refl
which false = inr refl

pub clash : {P : Type 0} (b : Bool) → b ≡ true → b ≡ false → P
clash b yes' no' = absurd (true≢false (sym yes' ∙ no'))

-- both sides of a conjunction
pub both_true : (a b : Bool) → (a && b) ≡ true → (a ≡ true) × (b ≡ true)
both_true true b e = (refl, e)
both_true false b e = absurd (true≢false (sym e))

pub not_true : (b : Bool) → not b ≡ true → b ≡ false
not_true true e = absurd (true≢false (sym e))
not_true false e = refl

-- ---- sets

-- the lanes for which a test holds, where it holds for none that a warp does not have
pub where_has : (test : ℕ → Bool) → ((l : ℕ) → 32 ≤ l → test l ≡ false) → (l : ℕ) → has_lane (lanes_where test) l ≡ test l
where_has test none l = elim (lt_or_le l 32) [
  | inl less ↦ has_lane-lanes_below 32 test l less
  | inr more ↦ has_lane-above (lanes_where test) l (lanes_below-lt 32 test) more ∙ sym (none l more)
]

-- the active lanes for which a test holds
pub side_has : (mask : ℕ) (test : ℕ → Bool) → mask < 2 ^ 32 → (l : ℕ) → has_lane (lanes_where (λ l'. has_lane mask l' && test l')) l ≡ (has_lane mask l && test l)
side_has mask test small l =
    where_has (λ l'. has_lane mask l' && test l') (λ l' more. and_left (has_lane mask l') (test l') (has_lane-above mask l' small more)) l

pub side_small : (test : ℕ → Bool) → lanes_where test < 2 ^ 32
side_small test = lanes_below-lt 32 test

pub some_of : (mask l : ℕ) → In mask l → 0 < mask
some_of mask l is_in = elim (eq-zero-or-pos mask) [
  | inl none ↦ clash (has_lane mask l) is_in (ap (λ m. has_lane m l) none ∙ none_stays l)
  | inr some ↦ some
]

pub none_in : (mask l : ℕ) → (mask == 0) ≡ true → Out mask l
none_in mask l none = ap (λ m. has_lane m l) (eqb-true mask 0 none) ∙ none_stays l

pub leader_in : (mask : ℕ) → 0 < mask → mask < 2 ^ 32 → In mask (leader mask)
leader_in mask some small = leader-lane mask some small

pub in_below : (mask l : ℕ) → mask < 2 ^ 32 → In mask l → l < 32
in_below mask l small is_in = elim (lt_or_le l 32) [
  | inl less ↦ less
  | inr more ↦ clash (has_lane mask l) is_in (has_lane-above mask l small more)
]

pub same_sets : (a b : ℕ) → a < 2 ^ 32 → b < 2 ^ 32 → ((l : ℕ) → has_lane a l ≡ has_lane b l) → a ≡ b
same_sets a b small small' same = same_lanes a b small small' (λ l less. same l)

-- two tests that hold together are the same
pub iff_same : (a b : Bool) → (a ≡ true → b ≡ true) → (b ≡ true → a ≡ true) → a ≡ b
iff_same true b to from = sym (to refl)
iff_same false true to from = from refl
iff_same false false to from = refl

-- ---- lanes of a step

pub moved_in : (k : Crew) (op : VOp) (answers : ℕ → ℕ) (w : VWarp) (l : ℕ) → In w.mask l
    → moved k op answers w l ≡ lane_behind (answers l) (w.lanes l) (does k w.mask op l (w.lanes l))
moved_in k op answers w l is_in = ap (λ b. if b then lane_behind (answers l) (w.lanes l) (does k w.mask op l (w.lanes l)) else w.lanes l) is_in

pub moved_out : (k : Crew) (op : VOp) (answers : ℕ → ℕ) (w : VWarp) (l : ℕ) → Out w.mask l → moved k op answers w l ≡ w.lanes l
moved_out k op answers w l is_out = ap (λ b. if b then lane_behind (answers l) (w.lanes l) (does k w.mask op l (w.lanes l)) else w.lanes l) is_out

same_as_itself : (b : Bool) → not (same_choice b b) ≡ false
same_as_itself true = refl
same_as_itself false = refl

none_disagrees : (op : VOp) (w : VWarp) (b : Bool) → ((l : ℕ) → In w.mask l → chooses op (w.lanes l).registers ≡ b) → In w.mask (leader w.mask) → (l : ℕ) → disagrees op w l ≡ false
none_disagrees op w b alike first l = elim (which (has_lane w.mask l)) [
  | inl is_in ↦
      and_right (has_lane w.mask l) _
      (ap (λ c. not (same_choice c (chooses op (w.lanes l).registers))) (alike (leader w.mask) first) ∙ ap (λ c. not (same_choice b c)) (alike l is_in) ∙ same_as_itself b)
  | inr is_out ↦ and_left (has_lane w.mask l) _ is_out
]

-- where all active lanes choose alike, the warp goes where the least one goes
pub all_go : (op : VOp) (vs : ℕ → VLane) (w : VWarp) (b : Bool) → ((l : ℕ) → In w.mask l → chooses op (w.lanes l).registers ≡ b) → In w.mask (leader w.mask)
    → lanes_step op vs w ≡ stepped step.Next (vs (leader w.mask)).place w.mask w.stack vs
all_go op vs w b alike first =
    let none : least_below 32 (disagrees op w) ≡ 32 = least_below-none 32 (disagrees op w) (λ j less. none_disagrees op w b alike first j) in
    ap (λ s. lanes_by (nat_lt s 32) s vs w) none
