-- Where two sides of a split meet, where only some lanes stay in a loop, and where a warp ends.
use Rattle.std.proofs.Common.{◌≡◌, ℕ, zero, suc, ◌^◌, ◌<◌, ◌≤◌, ◌⊎◌, inl, inr, Bool, true, false, not, ◌&&◌, ◌==◌, if◌then◌else◌, List, [], ◌∷◌, refl, ap, sym, ◌∙◌, subst, pow_pos, pow_mono, mod-eq_of_lt, eq-eqb, ne_eqb, lt_of_lt_of_le, pos_of_ne-zero}
use Rattle.std.proofs.lemmas.Bool.{true≢false, eqb-false}
use Rattle.std.proofs.lemmas.Nat.Bits.{bit_at_above}
use Rattle.kir.specs.Machine.{value}
use Rattle.kir.specs.Trees.{Operand, VariableOf, NumberOf}
use Rattle.vx_base.specs.declared.types.Pos.{Pos}
use Rattle.vx_isa.specs.Warps.{has_lane, lanes_below, leader, cut}
use Rattle.vx_isa.specs.declared.warps.Held.{Held}
use Rattle.vx_isa.specs.declared.warps.Held.TheVariants as held
use Rattle.vx_isa.proofs.MaskLaws.{has_lane-zero, has_lane-lanes_below, lanes_below-lt}
use Rattle.simt_lowering.proofs.LaneMasks.{lt_or_le}
use Rattle.vcode.specs.Code.{Join, Pred, Tmc, Trap}
use Rattle.warp_code.specs.Warps.{Crew, VLane, VWarp, moved, begun, stepped, nonzero_lanes, join_step, with_mask, ends_or_goes, leader_value, warp_op}
use Rattle.mask_laws.proofs.Sets.{In, Out, which, clash, side_has, side_small, some_of, none_in, leader_in, same_sets, moved_out}
use Rattle.mask_laws.specs.Spots.{Frame, First, Second, Turning, Straight, Test, Meet, Spot}
use Rattle.mask_laws.proofs.Frames.{FrameWaits, OtherSide, Inside, HeldBy, Turned, ShapeHeld, Uniform, InvAt, Inv}
use Rattle.mask_laws.proofs.Fits.{LeavesSome, MeetsWell, IsNone, Fine}
use Rattle.mask_laws.proofs.FrameLaws.{out_inner, held_moves, held_inside, all_kept, arrives}
use Rattle.mask_laws.proofs.Going.{lane_at, kept_uniform}
use Rattle.mask_laws.proofs.Parting.{gone_on, same_after, in_first, in_second}

in_off : (o a : Bool) → o ≡ true → (o && not a) ≡ false → a ≡ true
in_off true true i e = refl
in_off true false i e = absurd (true≢false e)
in_off false a i e = absurd (true≢false (sym i))

-- a set within a set of the first n lanes is one of the first n
above_none : (n mask l : ℕ) → mask < 2 ^ n → n ≤ l → Out mask l
above_none n mask l small more = has_lane-zero mask l (bit_at_above mask n l small more)

within_small : (n outer all : ℕ) → n ≤ 32 → outer < 2 ^ 32 → all < 2 ^ n → ((l : ℕ) → In outer l → In all l) → outer < 2 ^ n
within_small n outer all few small low within =
    subst (λ m. m < 2 ^ n) (sym same) (lanes_below-lt n (has_lane outer)) where
      bits : (l : ℕ) → has_lane outer l ≡ has_lane (lanes_below n (has_lane outer)) l
      bits l = elim (lt_or_le l n) [
        | inl less ↦ sym (has_lane-lanes_below n (has_lane outer) l less)
        | inr more ↦ out_inner outer all within l (above_none n all l low more) ∙ sym (above_none n (lanes_below n (has_lane outer)) l (lanes_below-lt n (has_lane outer)) more)
      ]

      same : outer ≡ lanes_below n (has_lane outer)
      same = same_sets outer (lanes_below n (has_lane outer)) small (lt_of_lt_of_le (lanes_below-lt n (has_lane outer)) (pow_mono few)) bits

module _ (spots : ℕ → Spot) (uni : ℕ → Bool) (all : ℕ) (k : Crew) (w : VWarp) (answers : ℕ → ℕ) where
  -- ---- join

  module _ (q e j : ℕ) (t : Operand) (fs : List Frame) (ag : ℕ → Bool) (inv : InvAt uni all ag (Meet q e j t fs) w) (well : MeetsWell spots uni w.place q e j t fs) where
    abbrev vs : ℕ → VLane
    vs = moved k Join answers w

    behind_join : (l : ℕ) → In w.mask l → vs l ≡ lane_at (suc w.place) (w.lanes l).registers (w.lanes l).turns
    behind_join = gone_on spots uni all k w answers Join (λ l. refl) inv.here

    same_join : (l : ℕ) → (vs l).registers ≡ (w.lanes l).registers
    same_join = same_after spots uni all k w answers Join (λ l. refl) inv.here

    still : (l : ℕ) → Out w.mask l → vs l ≡ w.lanes l
    still = moved_out k Join answers w

    uniform_join : Uniform uni all vs
    uniform_join = kept_uniform spots uni all w vs still uni all same_join inv.uniform

    round_kept : (outer : ℕ) (rest : List Held) (ts : List ℕ) → ((l : ℕ) → In w.mask l → In outer l) → HeldBy w.lanes all fs outer rest ts → HeldBy vs all fs outer rest ts
    round_kept outer rest ts inside below =
        held_moves w.lanes vs all fs outer rest ts (λ l is_out. still l (out_inner w.mask outer inside l is_out)) (all_kept fs w.lanes vs (λ l r. ap (λ f. f r) (same_join l))) below

    abbrev Waited : List ℕ → VLane → Type 0
    Waited ts v = (v.place ≡ suc j) × (v.turns ≡ ts)

    -- all lanes that entered are behind the place where they meet
    restores : (outer : ℕ) (rest : List Held) (ts : List ℕ) → outer < 2 ^ 32 → ((l : ℕ) → In w.mask l → In outer l) → ((l : ℕ) → In outer l → Out w.mask l → Waited ts (w.lanes l))
        → inv.held.0 ≡ ts → HeldBy w.lanes all fs outer rest ts → Inv spots uni all (record { place = suc w.place; mask = outer; lanes = vs; stack = rest })
    restores outer rest ts small inside waits same below =
        let first : In w.mask (leader w.mask) = leader_in w.mask inv.some inv.small in
        arrives spots uni all uni fs (suc w.place) outer vs rest ts well.next small (some_of outer (leader w.mask) (inside (leader w.mask) first)) here uniform_join
        (λ r e l l' is_in is_in'.
        uniform_join r e l l' (held_inside w.lanes all fs outer rest ts below l is_in) (held_inside w.lanes all fs outer rest ts below l' is_in'))
        turned (round_kept outer rest ts inside below) where
          here : (l : ℕ) → In outer l → (vs l).place ≡ suc w.place
          here l is_in = elim (which (has_lane w.mask l)) [
            | inl active ↦ ap (λ v. v.place) (behind_join l active)
            | inr idle ↦ ap (λ v. v.place) (still l idle) ∙ (waits l is_in idle).0 ∙ ap suc (sym well.at_meet)
          ]

          turned : (l : ℕ) → In outer l → (vs l).turns ≡ ts
          turned l is_in = elim (which (has_lane w.mask l)) [
            | inl active ↦ ap (λ v. v.turns) (behind_join l active) ∙ inv.held.1 l active ∙ same
            | inr idle ↦ ap (λ v. v.turns) (still l idle) ∙ (waits l is_in idle).1
          ]

    -- the other side begins
    module _ (h : Inside (First q e j t) w.lanes (HeldBy w.lanes all fs) w.mask w.stack inv.held.0) (o : OtherSide q w.mask h.outer h.rest w.stack) where
      in_other : (l : ℕ) → In o.off l → (In h.outer l) × (Out w.mask l)
      in_other l is_in = in_first (has_lane h.outer l) (has_lane w.mask l) (sym (o.apart l) ∙ is_in)

      in_one : (l : ℕ) → In h.outer l → Out o.off l → In w.mask l
      in_one l is_in is_out = in_off (has_lane h.outer l) (has_lane w.mask l) is_in (sym (o.apart l) ∙ is_out)

      waiting : (l : ℕ) → In o.off l → FrameWaits (First q e j t) h.inner (vs l)
      waiting l is_in = subst (FrameWaits (First q e j t) h.inner) (sym (still l (in_other l is_in).1)) (h.waits l (in_other l is_in).0 (in_other l is_in).1)

      other_held : HeldBy vs all (Second q e j t ∷ fs) o.off (held.Restore h.outer ∷ h.rest) h.inner
      other_held = record {
        outer = h.outer;
        rest = h.rest;
        inner = h.inner;
        small = h.small;
        inside = λ l is_in. (in_other l is_in).0;
        waits = λ l is_in is_out.
            (ap (λ v. v.place) (behind_join l (in_one l is_in is_out)) ∙ ap suc well.at_meet, ap (λ v. v.turns) (behind_join l (in_one l is_in is_out)) ∙ inv.held.1 l (in_one l is_in is_out) ∙ h.turned);
        stacked = refl;
        turned = refl;
        saved = tt;
        below = round_kept h.outer h.rest h.inner h.inside h.below;
      }

      other_begins : Inv spots uni all (record { place = suc q; mask = o.off; lanes = vs; stack = held.Restore h.outer ∷ h.rest })
      other_begins = record {
        small = o.small;
        some = o.some;
        inside = λ l is_in. held_inside w.lanes all fs h.outer h.rest h.inner h.below l (in_other l is_in).0;
        here = λ l is_in. (waiting l is_in).0;
        uniform = uniform_join;
        agreed = λ r e l l' is_in is_in'.
            uniform_join r (well.agree r e) l l' (held_inside w.lanes all fs h.outer h.rest h.inner h.below l (in_other l is_in).0)
            (held_inside w.lanes all fs h.outer h.rest h.inner h.below l' (in_other l' is_in').0);
        held = subst (λ sh. ShapeHeld sh all vs o.off (held.Restore h.outer ∷ h.rest)) (sym well.shape)
            (h.inner, (λ l is_in. (waiting l is_in).2), inr ((λ l is_in. (waiting l is_in).1), other_held));
      }

    by_stack : (st : List Held) → w.stack ≡ st → Fine spots uni all Join w (join_step st vs w) → Fine spots uni all Join w (join_step w.stack vs w)
    by_stack st same fine = subst (λ s. Fine spots uni all Join w (join_step s vs w)) (sym same) fine

    of_first : (h : Inside (First q e j t) w.lanes (HeldBy w.lanes all fs) w.mask w.stack inv.held.0) → Fine spots uni all Join w (join_step w.stack vs w)
    of_first h = elim (h.stacked) [
      | inl o ↦ by_stack (held.Else o.off (suc q) ∷ held.Restore h.outer ∷ h.rest) o.stacked (other_begins h o)
      | inr o ↦
          by_stack (held.Restore h.outer ∷ h.rest) o.stacked
          (restores h.outer h.rest h.inner h.small h.inside (λ l is_in is_out. clash (has_lane w.mask l) (subst (λ m. In m l) (sym o.all_in) is_in) is_out) h.turned h.below)
    ]

    pub at_join : Fine spots uni all Join w (warp_op k Join (moved k Join answers w) w)
    at_join = elim (inv.held.2) [
      | inl h ↦ of_first h
      | inr h ↦ by_stack (held.Restore h.outer ∷ h.rest) h.stacked (restores h.outer h.rest h.inner h.small h.inside h.waits h.turned h.below)
    ]

  -- ---- only some lanes stay

  module _ (t : Operand) (m : ℕ) (fs : List Frame) (ag : ℕ → Bool) (inv : InvAt uni all ag (Straight fs) w) (well : LeavesSome spots uni w.place fs t m) (few : k.ids.lanes ≤ 32) (low : all < 2 ^ k.ids.lanes) where
    abbrev ps : ℕ → VLane
    ps = moved k (Pred t m) answers w

    abbrev here_frame : Frame
    here_frame = Turning well.start w.place well.exit m t

    h : Inside here_frame w.lanes (HeldBy w.lanes all well.round) w.mask w.stack inv.held.0
    h = subst (λ g. HeldBy w.lanes all g w.mask w.stack inv.held.0) well.frames inv.held.2

    abbrev staying : ℕ
    staying = nonzero_lanes w t

    abbrev zero_at : ℕ → Bool
    zero_at l = value (w.lanes l).registers t == 0

    stay_has : (l : ℕ) → has_lane staying l ≡ (has_lane w.mask l && not (zero_at l))
    stay_has l = side_has w.mask (λ i. not (zero_at i)) inv.small l

    in_stay : (l : ℕ) → In staying l → (In w.mask l) × (zero_at l ≡ false)
    in_stay l is_in = in_first (has_lane w.mask l) (zero_at l) (sym (stay_has l) ∙ is_in)

    first_in : In w.mask (leader w.mask)
    first_in = leader_in w.mask inv.some inv.small

    saved_is : cut k.ids.lanes (leader_value w (VariableOf m)) ≡ h.outer
    saved_is =
        ap (cut k.ids.lanes) (h.saved (leader w.mask) (h.inside (leader w.mask) first_in))
        ∙ mod-eq_of_lt (within_small k.ids.lanes h.outer all few h.small low (held_inside w.lanes all well.round h.outer h.rest h.inner h.below))

    behind_pred : (l : ℕ) → In w.mask l → ps l ≡ lane_at (suc w.place) (w.lanes l).registers (w.lanes l).turns
    behind_pred = gone_on spots uni all k w answers (Pred t m) (λ l. refl) inv.here

    same_pred : (l : ℕ) → (ps l).registers ≡ (w.lanes l).registers
    same_pred = same_after spots uni all k w answers (Pred t m) (λ l. refl) inv.here

    still_pred : (l : ℕ) → Out w.mask l → ps l ≡ w.lanes l
    still_pred = moved_out k (Pred t m) answers w

    uniform_pred : Uniform uni all ps
    uniform_pred = kept_uniform spots uni all w ps still_pred uni all same_pred inv.uniform

    zero_pred : (l : ℕ) → (value (ps l).registers t == 0) ≡ zero_at l
    zero_pred l = ap (λ rs. value rs t == 0) (same_pred l)

    turned_pred : Turned ps w.mask inv.held.0
    turned_pred l is_in = ap (λ v. v.turns) (behind_pred l is_in) ∙ inv.held.1 l is_in

    round_pred : HeldBy ps all well.round h.outer h.rest h.inner
    round_pred =
        held_moves w.lanes ps all well.round h.outer h.rest h.inner (λ l is_out. still_pred l (out_inner w.mask h.outer h.inside l is_out))
        (all_kept well.round w.lanes ps (λ l r. ap (λ f. f r) (same_pred l))) h.below

    waits_pred : (l : ℕ) → In h.outer l → Out w.mask l → FrameWaits here_frame h.inner (ps l)
    waits_pred l is_in is_out = subst (FrameWaits here_frame h.inner) (sym (still_pred l is_out)) (h.waits l is_in is_out)

    -- a lane that has left waits behind
    has_left : (l : ℕ) → In w.mask l → Out staying l → FrameWaits here_frame h.inner (ps l)
    has_left l active left =
        (ap (λ v. v.place) (behind_pred l active), zero_pred l ∙ in_second (has_lane w.mask l) (zero_at l) active (sym (stay_has l) ∙ left), (h.turned.0, turned_pred l active ∙ h.turned.1))

    arrives_at : (mask : ℕ) → mask < 2 ^ 32 → 0 < mask → ((l : ℕ) → In mask l → In h.outer l) → ((l : ℕ) → In mask l → (ps l).place ≡ suc w.place)
        → ShapeHeld (Test well.start w.place well.exit m t well.round) all ps mask w.stack → Inv spots uni all (record { place = suc w.place; mask = mask; lanes = ps; stack = w.stack })
    arrives_at mask small some inside here holds = record {
      small = small;
      some = some;
      inside = λ l is_in. held_inside ps all well.round h.outer h.rest h.inner round_pred l (inside l is_in);
      here = here;
      uniform = uniform_pred;
      agreed = λ r e l l' is_in is_in'.
          uniform_pred r (well.agree r e) l l' (held_inside ps all well.round h.outer h.rest h.inner round_pred l (inside l is_in))
          (held_inside ps all well.round h.outer h.rest h.inner round_pred l' (inside l' is_in'));
      held = subst (λ sh. ShapeHeld sh all ps mask w.stack) (sym well.shape) holds;
    }

    some_stay : (staying == 0) ≡ false → Inv spots uni all (record { place = suc w.place; mask = staying; lanes = ps; stack = w.stack })
    some_stay some =
        arrives_at staying (side_small _) (not_zero staying some) (λ l is_in. h.inside l (in_stay l is_in).0) (λ l is_in. ap (λ v. v.place) (behind_pred l (in_stay l is_in).0)) (
          inv.held.0,
          inl (
            (λ l is_in. turned_pred l (in_stay l is_in).0),
            (λ l is_in. zero_pred l ∙ (in_stay l is_in).1),
            record {
              outer = h.outer;
              rest = h.rest;
              inner = h.inner;
              small = h.small;
              inside = λ l is_in. h.inside l (in_stay l is_in).0;
              waits = λ l is_in is_out. left_or_waits l is_in is_out (which (has_lane w.mask l));
              stacked = h.stacked;
              turned = h.turned;
              saved = λ l is_in. ap (λ f. f m) (same_pred l) ∙ h.saved l is_in;
              below = round_pred;
            },
          ),
        ) where
          not_zero : (n : ℕ) → (n == 0) ≡ false → 0 < n
          not_zero n e = pos_of_ne-zero (eqb-false n 0 e)

          left_or_waits : (l : ℕ) → In h.outer l → Out staying l → (In w.mask l ⊎ Out w.mask l) → FrameWaits here_frame h.inner (ps l)
          left_or_waits l is_in is_out (inl active) = has_left l active is_out
          left_or_waits l is_in is_out (inr idle) = waits_pred l is_in idle

    none_stay : (staying == 0) ≡ true → Inv spots uni all (record { place = suc w.place; mask = h.outer; lanes = ps; stack = w.stack })
    none_stay none =
        arrives_at h.outer h.small (some_of h.outer (leader w.mask) (h.inside (leader w.mask) first_in)) (λ l is_in. is_in) (λ l is_in. (waits_all l is_in).0)
        (h.inner, inr ((λ l is_in. (waits_all l is_in).2), (λ l is_in. (waits_all l is_in).1), subst (λ st. HeldBy ps all well.round h.outer st h.inner) (sym h.stacked) round_pred)) where
          waits_by : (l : ℕ) → In h.outer l → (In w.mask l ⊎ Out w.mask l) → FrameWaits here_frame h.inner (ps l)
          waits_by l is_in (inl active) = has_left l active (none_in staying l none)
          waits_by l is_in (inr idle) = waits_pred l is_in idle

          waits_all : (l : ℕ) → In h.outer l → FrameWaits here_frame h.inner (ps l)
          waits_all l is_in = waits_by l is_in (which (has_lane w.mask l))

    goes_with : (mask : ℕ) → (mask == 0) ≡ false → Inv spots uni all (record { place = suc w.place; mask = mask; lanes = ps; stack = w.stack })
        → Fine spots uni all (Pred t m) w (with_mask mask ps w)
    goes_with mask some inv' =
        subst (λ b. Fine spots uni all (Pred t m) w (stepped (ends_or_goes b) (suc w.place) mask w.stack ps)) (sym some) inv'

    outer_some : (h.outer == 0) ≡ false
    outer_some = ne_eqb h.outer 0 (λ e. clash (has_lane h.outer (leader w.mask)) (h.inside (leader w.mask) first_in) (none_in h.outer (leader w.mask) (eq-eqb h.outer 0 e)))

    by_stay : (b : Bool) → (staying == 0) ≡ b → Fine spots uni all (Pred t m) w (with_mask (if b then cut k.ids.lanes (leader_value w (VariableOf m)) else staying) ps w)
    by_stay true none = subst (λ n. Fine spots uni all (Pred t m) w (with_mask n ps w)) (sym saved_is) (goes_with h.outer outer_some (none_stay none))
    by_stay false some = goes_with staying some (some_stay some)

    pub at_pred : Fine spots uni all (Pred t m) w (warp_op k (Pred t m) (moved k (Pred t m) answers w) w)
    at_pred = by_stay (staying == 0) refl

  -- ---- the end

  module _ (fs : List Frame) (ag : ℕ → Bool) (inv : InvAt uni all ag (Straight fs) w) where
    cut_none : cut k.ids.lanes 0 ≡ 0
    cut_none = mod-eq_of_lt (pow_pos k.ids.lanes)

    all_end : fs ≡ [] → (w.mask ≡ all) × (w.stack ≡ [])
    all_end e = let h = subst (λ g. HeldBy w.lanes all g w.mask w.stack inv.held.0) e inv.held.2 in (h.0, h.1)

    pub at_tmc : (a : Operand) → (fs ≡ []) × IsNone a → Fine spots uni all (Tmc a) w (warp_op k (Tmc a) (moved k (Tmc a) answers w) w)
    at_tmc (NumberOf zero) fits =
        ending (cut k.ids.lanes 0) (eq-eqb (cut k.ids.lanes 0) 0 cut_none) where
          ending : (mask : ℕ) → (mask == 0) ≡ true → Fine spots uni all (Tmc (NumberOf zero)) w (with_mask mask (begun (suc w.place) w.mask mask (moved k (Tmc (NumberOf zero)) answers w)) w)
          ending mask none =
              subst (λ b. Fine spots uni all (Tmc (NumberOf zero)) w (stepped (ends_or_goes b) (suc w.place) mask w.stack (begun (suc w.place) w.mask mask (moved k (Tmc (NumberOf zero)) answers w)))) (sym none)
              (all_end fits.0)
    at_tmc (NumberOf (suc n)) fits = absurd (fits.1)
    at_tmc (VariableOf r) fits = absurd (fits.1)

    pub at_trap : (pos : Pos) → Fine spots uni all (Trap pos) w (warp_op k (Trap pos) (moved k (Trap pos) answers w) w)
    at_trap pos = (refl, refl, tt)
