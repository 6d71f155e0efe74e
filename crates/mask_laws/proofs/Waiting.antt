-- A lane that waits never comes to the point of a barrier at which the active lanes are: it goes on at a later place.
use Rattle.std.proofs.Common.{◌≡◌, ℕ, zero, suc, ◌<◌, ◌⊎◌, inl, inr, Bool, true, ◌==◌, List, [], ◌∷◌, ap, sym, ◌∙◌, subst}
use Rattle.std.specs.Prelude.{if◌then◌else◌, Some}
use Rattle.item_acts.specs.declared.acts.Action.TheVariants.{Barrier}
use Rattle.item_acts.specs.declared.acts.Asked.TheVariants.{Act, Running}
use Rattle.item_acts.specs.declared.acts.Point.{Point}
use Rattle.item_acts.specs.Machine.{Go, asked, asked_at_once, asked_behind}
use Rattle.kir.specs.Machine.{value}
use Rattle.kir.specs.Trees.{Operand}
use Rattle.step_machine.specs.Stacks.{under}
use Rattle.vx_isa.specs.Warps.{has_lane}
use Rattle.vx_isa.specs.declared.warps.Held.{Held}
use Rattle.vcode.specs.Code.{VOp, IfZero, IfNot, Leaves}
use Rattle.vcode.specs.Machine as vcode
use Rattle.vcode.specs.Machine.{Around, Lane, lane, op_step}
use Rattle.warp_code.specs.Warps.{VLane}
use Rattle.warp_code.specs.Runs.{alone}
use Rattle.mask_laws.specs.Spots.{Frame, First, Second, Round, Turning, Sides, Test, Spot}
use Rattle.mask_laws.specs.Labels.{spot_in, ops_of}
use Rattle.mask_laws.proofs.Sets.{In, Out, which, clash}
use Rattle.mask_laws.proofs.Frames.{FrameWaits, HeldBy}
use Rattle.mask_laws.proofs.Fits.{FitsAt, SidesFit, TestFits, LeadsOn, Into, Regions, FramesThere, Fits}
use Rattle.mask_laws.proofs.Order.{Before, before_both, stamp, stamp_before, AsMany, starts_of, starts_at, IsThere, into_starts, stamp_at, MayBe}
use Rattle.mask_laws.proofs.Later.{point_at, comes_to, lane_step}

module _ (whole : List Spot) (code : List VOp) (spelled : ops_of whole ≡ code) (uni : ℕ → Bool) (fits : (p : ℕ) → Fits (spot_in whole) uni p) (at : Around) where
  abbrev pub spots : ℕ → Spot
  spots = spot_in whole

  -- whatever a lane comes to alone that asks for a barrier, it is behind this
  pub record Behind (v : VLane) (x : List ℕ) (point : Point) : Type 0 where
    pub place : ℕ
    pub turns : List ℕ
    pub is_bar : point_at (spots place).op turns ≡ Some point
    pub later : Before x (stamp_at spots place turns)

  abbrev pub Later : VLane → List ℕ → Type 0
  Later v x = (n : ℕ) (numbers answers : List ℕ) (point : Point) → asked (vcode.step at code) n (alone v numbers) answers ≡ Act (Barrier point) → Behind v x point

  -- a lane at a place that is behind
  from_place : (v : VLane) (x : List ℕ) → MayBe spots v.place v.turns → Before x (stamp_at spots v.place v.turns) → Later v x
  from_place v x may before n numbers answers point e =
      let found = comes_to whole code spelled uni fits at n (alone v numbers) answers point may e in
      record { place = found.place; turns = found.turns; is_bar = found.is_bar; later = by found.not_earlier } where
        by : {y : List ℕ} → (stamp_at spots v.place v.turns ≡ y) ⊎ Before (stamp_at spots v.place v.turns) y → Before x y
        by (inl same) = subst (Before x) same before
        by {y} (inr more) = before_both x (stamp_at spots v.place v.turns) y before more

  -- a lane that goes on to such a place first
  from_step : (v : VLane) (x : List ℕ) (q : ℕ) (ts : List ℕ) → ((numbers : List ℕ) → vcode.step at code (alone v numbers) ≡ Go (lane q v.registers ts numbers)) → MayBe spots q ts → Before x (stamp_at spots q ts) → Later v x
  from_step v x q ts goes may before zero numbers answers point e = absurd (no_act (sym (ap (λ d. asked_at_once d answers) (goes numbers)) ∙ e)) where
    no_act : Running ≡ Act (Barrier point) → ⊥
    no_act h = absurd (cc)
  from_step v x q ts goes may before (suc n) numbers answers point e =
      let later = from_place (record { place = q; registers = v.registers; turns = ts }) x may before n numbers answers point (sym (ap (λ d. asked_behind (asked (vcode.step at code) n) d answers) (goes numbers)) ∙ e) in
      record { place = later.place; turns = later.turns; is_bar = later.is_bar; later = later.later }

  -- ---- one frame

  -- the second side's first place, for a lane that waits behind its split
  side_goes : (op : VOp) (q e j : ℕ) (t : Operand) (fs : List Frame) (ag : ℕ → Bool) (rs : ℕ → ℕ) (ts numbers : List ℕ) → SidesFit spots (suc q) q e j t fs ag op → (value rs t == 0) ≡ true
      → (op_step at op (suc q) rs ts numbers ≡ Go (lane e rs ts numbers)) × LeadsOn spots ag (Second q e j t ∷ fs) e
  side_goes (IfZero a o) q e j t fs ag rs ts numbers fits none = (
    ap (λ x. Go (lane (if value rs x == 0 then o else suc (suc q)) rs ts numbers)) fits.operand ∙ ap (λ b. Go (lane (if b then o else suc (suc q)) rs ts numbers)) none ∙ ap (λ p. Go (lane p rs ts numbers)) fits.second_is,
    subst (LeadsOn spots ag (Second q e j t ∷ fs)) fits.second_is fits.second,
  )
  side_goes (IfNot a o) q e j t fs ag rs ts numbers fits none = (
    ap (λ x. Go (lane (if value rs x == 0 then suc (suc q) else o) rs ts numbers)) fits.operand ∙ ap (λ b. Go (lane (if b then suc (suc q) else o) rs ts numbers)) none ∙ ap (λ p. Go (lane p rs ts numbers)) fits.second_is,
    subst (LeadsOn spots ag (Second q e j t ∷ fs)) fits.second_is fits.second,
  )
  side_goes op q e j t fs ag rs ts numbers fits none = absurd fits

  test_goes : (op : VOp) (s p x m : ℕ) (t : Operand) (fs : List Frame) (ag : ℕ → Bool) (rs : ℕ → ℕ) (ts numbers : List ℕ) → TestFits spots (suc p) s p x m t fs ag op → (value rs t == 0) ≡ true
      → (op_step at op (suc p) rs ts numbers ≡ Go (lane x rs (under ts) numbers)) × LeadsOn spots ag fs x
  test_goes (Leaves a o) s p x m t fs ag rs ts numbers fits none = (
    ap (λ y. Go (if value rs y == 0 then lane o rs (under ts) numbers else lane (suc (suc p)) rs ts numbers)) fits.operand
        ∙ ap (λ b. Go (if b then lane o rs (under ts) numbers else lane (suc (suc p)) rs ts numbers)) none ∙ ap (λ q. Go (lane q rs (under ts) numbers)) fits.exit_is,
    subst (LeadsOn spots ag fs) fits.exit_is fits.out,
  )
  test_goes op s p x m t fs ag rs ts numbers fits none = absurd fits

  -- as many numbers of turns as loops
  pub held_many : (vs : ℕ → VLane) (all : ℕ) (fs : List Frame) (act : ℕ) (st : List Held) (ts : List ℕ) → HeldBy vs all fs act st ts → AsMany (starts_of fs) ts
  held_many vs all [] act st ts h = subst (AsMany []) (sym h.2) tt
  held_many vs all (First q e j t ∷ fs) act st ts h = subst (AsMany (starts_of fs)) (sym h.turned) (held_many vs all fs h.outer h.rest h.inner h.below)
  held_many vs all (Second q e j t ∷ fs) act st ts h = subst (AsMany (starts_of fs)) (sym h.turned) (held_many vs all fs h.outer h.rest h.inner h.below)
  held_many vs all (Round s x ∷ fs) act st ts h = subst (AsMany (s ∷ starts_of fs)) (sym h.turned.1) (held_many vs all fs h.outer h.rest h.inner h.below)
  held_many vs all (Turning s p x m t ∷ fs) act st ts h = subst (AsMany (s ∷ starts_of fs)) (sym h.turned.1) (held_many vs all fs h.outer h.rest h.inner h.below)

  -- a place that may be come to with these frames
  may_come : (fs : List Frame) (ag : ℕ → Bool) (q : ℕ) (ts : List ℕ) → LeadsOn spots ag fs q → AsMany (starts_of fs) ts → (MayBe spots q ts) × (starts_at spots q ≡ starts_of fs)
  may_come fs ag q ts leads many =
      let found = into_starts (spots q).shape fs leads.0 in (record { there = found.1; many = subst (λ ss. AsMany ss ts) (sym found.0) many }, found.0)

  -- and it is behind what stands further in at an earlier place
  behind_in : (ss ts : List ℕ) (p q : ℕ) (within : List ℕ) → starts_at spots q ≡ ss → p < q → Before (stamp ss ts (p ∷ within)) (stamp_at spots q ts)
  behind_in ss ts p q within same less = subst (λ x. Before (stamp ss ts (p ∷ within)) (stamp x ts (q ∷ []))) (sym same) (stamp_before ss ts (p ∷ within) (q ∷ []) (inl less))

  first_waits : (q e j : ℕ) (t : Operand) (fs : List Frame) (v : VLane) (ts : List ℕ) (p : ℕ) (within : List ℕ) → (spots (suc q)).shape ≡ Sides q e j t fs → AsMany (starts_of fs) ts → p < e
      → FrameWaits (First q e j t) ts v → Later v (stamp (starts_of fs) ts (p ∷ within))
  first_waits q e j t fs v ts p within shape many less waits =
      let fit : SidesFit spots (suc q) q e j t fs (spots (suc q)).agree (spots (suc q)).op = subst (λ sh. FitsAt spots uni (suc q) (spots (suc q)).op sh (spots (suc q)).agree (spots (suc q)).shared) shape (fits (suc q)) in
      let may = may_come (Second q e j t ∷ fs) (spots (suc q)).agree e ts (side_goes (spots (suc q)).op q e j t fs (spots (suc q)).agree v.registers ts [] fit waits.1).1 many in
      from_step v (stamp (starts_of fs) ts (p ∷ within)) e ts
      (λ numbers.
      ap (λ x. vcode.step at code (lane x v.registers v.turns numbers)) waits.0 ∙ ap (λ x. vcode.step at code (lane (suc q) v.registers x numbers)) waits.2
      ∙ lane_step whole code spelled uni fits at (suc q) v.registers ts numbers (subst IsThere (sym shape) tt)
      ∙ (side_goes (spots (suc q)).op q e j t fs (spots (suc q)).agree v.registers ts numbers fit waits.1).0)
      may.0 (behind_in (starts_of fs) ts p e within may.1 less)

  second_waits : (q e j : ℕ) (t : Operand) (fs : List Frame) (v : VLane) (ts : List ℕ) (p : ℕ) (within : List ℕ) → Into (spots (suc j)).shape fs → AsMany (starts_of fs) ts → p < suc j
      → FrameWaits (Second q e j t) ts v → Later v (stamp (starts_of fs) ts (p ∷ within))
  second_waits q e j t fs v ts p within into many less waits =
      let found = into_starts (spots (suc j)).shape fs into in
      let may : MayBe spots (suc j) ts = record { there = found.1; many = subst (λ ss. AsMany ss ts) (sym found.0) many } in
      from_place v (stamp (starts_of fs) ts (p ∷ within))
      (subst (λ x. MayBe spots x v.turns) (sym waits.0) (subst (MayBe spots (suc j)) (sym waits.1) may))
      (subst (λ x. Before (stamp (starts_of fs) ts (p ∷ within)) (stamp_at spots x v.turns)) (sym waits.0)
      (subst (λ x. Before (stamp (starts_of fs) ts (p ∷ within)) (stamp_at spots (suc j) x)) (sym waits.1) (behind_in (starts_of fs) ts p (suc j) within found.0 less)))

  turning_waits : (s p' x m : ℕ) (t : Operand) (fs : List Frame) (v : VLane) (ts : List ℕ) (within : List ℕ) → (spots (suc p')).shape ≡ Test s p' x m t fs → AsMany (starts_of fs) ts → s < x
      → FrameWaits (Turning s p' x m t) ts v → Later v (stamp (starts_of fs) ts (s ∷ within))
  turning_waits s p' x m t fs v ts within shape many less waits =
      let fit : TestFits spots (suc p') s p' x m t fs (spots (suc p')).agree (spots (suc p')).op = subst (λ sh. FitsAt spots uni (suc p') (spots (suc p')).op sh (spots (suc p')).agree (spots (suc p')).shared) shape (fits (suc p')) in
      let may = may_come fs (spots (suc p')).agree x ts (test_goes (spots (suc p')).op s p' x m t fs (spots (suc p')).agree v.registers v.turns [] fit waits.1).1 many in
      from_step v (stamp (starts_of fs) ts (s ∷ within)) x ts
      (λ numbers.
      ap (λ y. vcode.step at code (lane y v.registers v.turns numbers)) waits.0
      ∙ lane_step whole code spelled uni fits at (suc p') v.registers v.turns numbers (subst IsThere (sym shape) tt)
      ∙ (test_goes (spots (suc p')).op s p' x m t fs (spots (suc p')).agree v.registers v.turns numbers fit waits.1).0
      ∙ ap (λ y. Go (lane x v.registers y numbers)) (ap under waits.2.1))
      may.0 (behind_in (starts_of fs) ts s x within may.1 less)

  -- ---- all frames

  module _ (vs : ℕ → VLane) (all : ℕ) (l : ℕ) (has : In all l) where
    -- of a lane that entered, and of one that did not
    by_outer : (outer : ℕ) (x : List ℕ) → (In outer l → Later (vs l) x) → (Out outer l → Later (vs l) x) → Later (vs l) x
    by_outer outer x entered outside = elim (which (has_lane outer l)) [
      | inl e ↦ entered e
      | inr e ↦ outside e
    ]

    -- a lane of the items that is not active is in one of the frames
    pub idle_later : (fs : List Frame) (act : ℕ) (st : List Held) (ts : List ℕ) (p : ℕ) (within : List ℕ) → HeldBy vs all fs act st ts → Out act l → Regions p fs → FramesThere spots fs
        → Later (vs l) (stamp (starts_of fs) ts (p ∷ within))
    idle_later [] act st ts p within h idle below there = clash (has_lane all l) has (subst (λ m. Out m l) h.0 idle)
    idle_later (First q e j t ∷ fs) act st ts p within h idle below there =
        subst (λ x. Later (vs l) (stamp (starts_of fs) x (p ∷ within))) (sym h.turned)
        (by_outer h.outer (stamp (starts_of fs) h.inner (p ∷ within))
        (λ entered. first_waits q e j t fs (vs l) h.inner p within there.0 (held_many vs all fs h.outer h.rest h.inner h.below) below.0 (h.waits l entered idle))
        (λ outside. idle_later fs h.outer h.rest h.inner p within h.below outside below.1 there.1))
    idle_later (Second q e j t ∷ fs) act st ts p within h idle below there =
        subst (λ x. Later (vs l) (stamp (starts_of fs) x (p ∷ within))) (sym h.turned)
        (by_outer h.outer (stamp (starts_of fs) h.inner (p ∷ within))
        (λ entered. second_waits q e j t fs (vs l) h.inner p within there.0 (held_many vs all fs h.outer h.rest h.inner h.below) below.0 (h.waits l entered idle))
        (λ outside. idle_later fs h.outer h.rest h.inner p within h.below outside below.1 there.1))
    idle_later (Round s x ∷ fs) act st ts p within h idle below there =
        subst (λ y. Later (vs l) (stamp (s ∷ starts_of fs) y (p ∷ within))) (sym h.turned.1)
        (idle_later fs h.outer h.rest h.inner s (h.turned.0 ∷ p ∷ within) h.below (subst (λ m. Out m l) h.stacked.1 idle) below there)
    idle_later (Turning s p' x m t ∷ fs) act st ts p within h idle below there =
        subst (λ y. Later (vs l) (stamp (s ∷ starts_of fs) y (p ∷ within))) (sym h.turned.1)
        (by_outer h.outer (stamp (starts_of fs) h.inner (s ∷ h.turned.0 ∷ p ∷ within))
        (λ entered. turning_waits s p' x m t fs (vs l) h.inner (h.turned.0 ∷ p ∷ within) there.0 (held_many vs all fs h.outer h.rest h.inner h.below) below.0 (h.waits l entered idle))
        (λ outside. idle_later fs h.outer h.rest h.inner s (h.turned.0 ∷ p ∷ within) h.below outside below.1 there.1))
