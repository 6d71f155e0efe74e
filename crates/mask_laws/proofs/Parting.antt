-- Operations at which a warp parts and meets: a split, the branch behind it, and the join; and those that leave only some lanes in a loop.
use Rattle.std.proofs.Common.{◌≡◌, ℕ, suc, ◌+◌, ◌*◌, ◌^◌, ◌<◌, ◌≤◌, inl, inr, Bool, true, false, not, ◌&&◌, ◌==◌, if◌then◌else◌, List, [], ◌∷◌, length, refl, ap, sym, ◌∙◌, subst, arith, le-leb, pos_of_ne-zero}
use Rattle.std.proofs.lemmas.Bool.{true≢false, and_cases, eqb-false}
use Rattle.step_machine.specs.Stacks.{under}
use Rattle.kir.specs.Machine.{value}
use Rattle.kir.specs.Trees.{Operand}
use Rattle.vx_isa.specs.Warps.{has_lane}
use Rattle.vx_isa.specs.declared.warps.Held.{Held}
use Rattle.vx_isa.specs.declared.warps.Held.TheVariants as held
use Rattle.vcode.specs.Machine.{lane}
use Rattle.vcode.specs.Code.{VOp, IfZero, IfNot, Split, Leaves}
use Rattle.warp_code.specs.Warps.{Crew, VLane, VWarp, moved, does, as_lane, lane_behind, nonzero_lanes, zero_lanes, has_room, diverge, agree, split_by, chooses, lanes_step, warp_op}
use Rattle.mask_laws.proofs.Sets.{In, clash, both_true, not_true, side_has, side_small, none_in, moved_in, moved_out}
use Rattle.mask_laws.specs.Spots.{Frame, First, Second, Turning, Shape, Straight, Sides, Test, Spot}
use Rattle.mask_laws.proofs.Frames.{HeldBy, sides, Turned, IsZero, ShapeHeld, InvAt, Inv}
use Rattle.mask_laws.proofs.Fits.{LeadsOn, SplitsWell, ChoosesWell, TestsWell, Fine}
use Rattle.mask_laws.proofs.FrameLaws.{held_moves, held_short, all_kept}
use Rattle.mask_laws.proofs.Going.{lane_at, kept_registers, kept_uniform, rests, goes}

-- of the lanes of a set, those for which a test holds and the others
other_side : (m z : Bool) → (m && z) ≡ (m && not (m && not z))
other_side true true = refl
other_side true false = refl
other_side false true = refl
other_side false false = refl

pub in_first : (m z : Bool) → (m && not z) ≡ true → (m ≡ true) × (z ≡ false)
in_first true true e = absurd (true≢false (sym e))
in_first true false e = (refl, refl)
in_first false z e = absurd (true≢false (sym e))

pub in_second : (m z : Bool) → m ≡ true → (m && not z) ≡ false → z ≡ true
in_second true true i e = refl
in_second true false i e = absurd (true≢false e)
in_second false z i e = absurd (true≢false (sym i))

in_none : (m z : Bool) → m ≡ true → (m && z) ≡ false → z ≡ false
in_none true true i e = absurd (true≢false e)
in_none true false i e = refl
in_none false z i e = absurd (true≢false (sym i))

not_none : (n : ℕ) → not (n == 0) ≡ true → 0 < n
not_none n e = pos_of_ne-zero (eqb-false n 0 (not_true (n == 0) e))

is_none : (b : Bool) → not b ≡ false → b ≡ true
is_none true e = refl
is_none false e = absurd (true≢false e)

module _ (spots : ℕ → Spot) (uni : ℕ → Bool) (all : ℕ) (k : Crew) (w : VWarp) (answers : ℕ → ℕ) where
  -- where each active lane goes on behind the operation
  abbrev pub GoesOn : VOp → Type 0
  GoesOn op = (l : ℕ) → lane_behind (answers l) (w.lanes l) (does k w.mask op l (w.lanes l)) ≡ lane_at (suc (w.lanes l).place) (w.lanes l).registers (w.lanes l).turns

  pub gone_on : (op : VOp) → GoesOn op → ((l : ℕ) → In w.mask l → (w.lanes l).place ≡ w.place) → (l : ℕ) → In w.mask l
      → moved k op answers w l ≡ lane_at (suc w.place) (w.lanes l).registers (w.lanes l).turns
  gone_on op step here l is_in = moved_in k op answers w l is_in ∙ step l ∙ ap (λ p. lane_at (suc p) (w.lanes l).registers (w.lanes l).turns) (here l is_in)

  pub same_after : (op : VOp) → GoesOn op → ((l : ℕ) → In w.mask l → (w.lanes l).place ≡ w.place) → (l : ℕ) → (moved k op answers w l).registers ≡ (w.lanes l).registers
  same_after op step here =
      kept_registers spots uni all w (moved k op answers w) (moved_out k op answers w) (λ l. suc w.place) (λ l. (w.lanes l).turns) (gone_on op step here)

  -- ---- split

  module _ (t : Operand) (fs : List Frame) (ag : ℕ → Bool) (inv : InvAt uni all ag (Straight fs) w) (well : SplitsWell spots w.place fs ag t) where
    abbrev vs : ℕ → VLane
    vs = moved k (Split t) answers w

    abbrev on : ℕ
    on = nonzero_lanes w t

    abbrev off : ℕ
    off = zero_lanes w t

    abbrev zero_at : ℕ → Bool
    zero_at l = value (w.lanes l).registers t == 0

    on_has : (l : ℕ) → has_lane on l ≡ (has_lane w.mask l && not (zero_at l))
    on_has l = side_has w.mask (λ j. not (zero_at j)) inv.small l

    off_has : (l : ℕ) → has_lane off l ≡ (has_lane w.mask l && zero_at l)
    off_has l = side_has w.mask zero_at inv.small l

    behind_split : (l : ℕ) → In w.mask l → vs l ≡ lane_at (suc w.place) (w.lanes l).registers (w.lanes l).turns
    behind_split = gone_on (Split t) (λ l. refl) inv.here

    same_split : (l : ℕ) → (vs l).registers ≡ (w.lanes l).registers
    same_split = same_after (Split t) (λ l. refl) inv.here

    zero_after : (l : ℕ) → (value (vs l).registers t == 0) ≡ zero_at l
    zero_after l = ap (λ rs. value rs t == 0) (same_split l)

    held_after : HeldBy vs all fs w.mask w.stack inv.held.0
    held_after = held_moves w.lanes vs all fs w.mask w.stack inv.held.0 (moved_out k (Split t) answers w) (all_kept fs w.lanes vs (λ l r. ap (λ f. f r) (same_split l))) inv.held.2

    turned_after : Turned vs w.mask inv.held.0
    turned_after l is_in = ap (λ v. v.turns) (behind_split l is_in) ∙ inv.held.1 l is_in

    in_on : (l : ℕ) → In on l → (In w.mask l) × (zero_at l ≡ false)
    in_on l is_in = in_first (has_lane w.mask l) (zero_at l) (sym (on_has l) ∙ is_in)

    -- the warp goes on with some of its lanes, which stand behind the split
    splits_to : (mask : ℕ) (st : List Held) → mask < 2 ^ 32 → 0 < mask → ((l : ℕ) → In mask l → In w.mask l) → ShapeHeld (Sides w.place well.second well.meet t fs) all vs mask st
        → Inv spots uni all (record { place = suc w.place; mask = mask; lanes = vs; stack = st })
    splits_to mask st small some within held = record {
      small = small;
      some = some;
      inside = λ l is_in. inv.inside l (within l is_in);
      here = λ l is_in. ap (λ v. v.place) (behind_split l (within l is_in));
      uniform = kept_uniform spots uni all w vs (moved_out k (Split t) answers w) uni all same_split inv.uniform;
      agreed = λ r e l l' is_in is_in'.
          kept_uniform spots uni all w vs (moved_out k (Split t) answers w) ag w.mask same_split inv.agreed r (well.agree r e) l l' (within l is_in) (within l' is_in');
      held = subst (λ sh. ShapeHeld sh all vs mask st) (sym well.shape) held;
    }

    abbrev two : List Held
    two = held.Else off (suc w.place) ∷ held.Restore w.mask ∷ w.stack

    parted : 0 < on → 0 < off → Inv spots uni all (record { place = suc w.place; mask = on; lanes = vs; stack = two })
    parted some_on some_off =
        splits_to on two (side_small _) some_on (λ l is_in. (in_on l is_in).0) (
          inv.held.0,
          (λ l is_in. turned_after l (in_on l is_in).0),
          inl (
            (λ l is_in. zero_after l ∙ (in_on l is_in).1),
            record {
              outer = w.mask;
              rest = w.stack;
              inner = inv.held.0;
              small = inv.small;
              inside = λ l is_in. (in_on l is_in).0;
              waits = λ l is_in is_out.
                  (ap (λ v. v.place) (behind_split l is_in), zero_after l ∙ in_second (has_lane w.mask l) (zero_at l) is_in (sym (on_has l) ∙ is_out), turned_after l is_in);
              stacked = inl (record {
                off = off;
                stacked = refl;
                small = side_small _;
                some = some_off;
                apart = λ l. off_has l ∙ other_side (has_lane w.mask l) (zero_at l) ∙ ap (λ b. has_lane w.mask l && not b) (sym (on_has l));
              });
              turned = refl;
              saved = tt;
              below = held_after;
            },
          ),
        )

    abbrev one : List Held
    one = held.Restore w.mask ∷ w.stack

    all_on : (off == 0) ≡ true → Inv spots uni all (record { place = suc w.place; mask = w.mask; lanes = vs; stack = one })
    all_on none =
        splits_to w.mask one inv.small inv.some (λ l is_in. is_in) (
          inv.held.0,
          turned_after,
          inl (
            (λ l is_in. zero_after l ∙ in_none (has_lane w.mask l) (zero_at l) is_in (sym (off_has l) ∙ none_in off l none)),
            record {
              outer = w.mask;
              rest = w.stack;
              inner = inv.held.0;
              small = inv.small;
              inside = λ l is_in. is_in;
              waits = λ l is_in is_out. clash (has_lane w.mask l) is_in is_out;
              stacked = inr (record { stacked = refl; all_in = refl });
              turned = refl;
              saved = tt;
              below = held_after;
            },
          ),
        )

    all_off : (on == 0) ≡ true → Inv spots uni all (record { place = suc w.place; mask = w.mask; lanes = vs; stack = one })
    all_off none =
        splits_to w.mask one inv.small inv.some (λ l is_in. is_in) (
          inv.held.0,
          turned_after,
          inr (
            (λ l is_in. zero_after l ∙ in_second (has_lane w.mask l) (zero_at l) is_in (sym (on_has l) ∙ none_in on l none)),
            record {
              outer = w.mask;
              rest = w.stack;
              inner = inv.held.0;
              small = inv.small;
              inside = λ l is_in. is_in;
              waits = λ l is_in is_out. clash (has_lane w.mask l) is_in is_out;
              stacked = refl;
              turned = refl;
              saved = tt;
              below = held_after;
            },
          ),
        )

    short : length w.stack ≤ 62
    short = let low : length w.stack ≤ 2 * sides fs = held_short w.lanes all fs w.mask w.stack inv.held.0 inv.held.2 in omega (arith, low, well.few)

    two_fit : has_room 2 w.stack ≡ true
    two_fit = le-leb (length w.stack + 2) 64 (omega (arith, short))

    one_fits : has_room 1 w.stack ≡ true
    one_fits = le-leb (length w.stack + 1) 64 (omega (arith, short))

    by_both : (b : Bool) → (not (on == 0) && not (off == 0)) ≡ b → Fine spots uni all (Split t) w (split_by b on off vs w)
    by_both true e =
        let both = both_true (not (on == 0)) (not (off == 0)) e in
        subst (λ r. Fine spots uni all (Split t) w (diverge r on off vs w)) (sym two_fit) (parted (not_none on both.0) (not_none off both.1))
    by_both false e =
        subst (λ r. Fine spots uni all (Split t) w (agree r vs w)) (sym one_fits)
        (elim (and_cases (not (on == 0)) (not (off == 0)) e) [
          | inl none ↦ all_off (is_none (on == 0) none)
          | inr none ↦ all_on (is_none (off == 0) none)
        ])

    pub at_split : Fine spots uni all (Split t) w (warp_op k (Split t) (moved k (Split t) answers w) w)
    at_split = by_both (not (on == 0) && not (off == 0)) refl

  -- ---- the branch behind it

  -- all active lanes go to one place with these frames
  side_goes : (op : VOp) (sh : Shape) (ag : ℕ → Bool) (b : Bool) (q : ℕ) (fs : List Frame) (ts : List ℕ) → InvAt uni all ag sh w → ((l : ℕ) → In w.mask l → chooses op (w.lanes l).registers ≡ b)
      → ((l : ℕ) → In w.mask l → moved k op answers w l ≡ lane_at q (w.lanes l).registers ts) → LeadsOn spots ag fs q → HeldBy w.lanes all fs w.mask w.stack ts
      → Fine spots uni all op w (lanes_step op (moved k op answers w) w)
  side_goes op sh ag b q fs ts inv alike ins leads held =
      goes spots uni all w (moved k op answers w) (moved_out k op answers w) op op b q alike inv.small inv.some (λ l is_in. ap (λ v. v.place) (ins l is_in))
      (rests spots uni all w (moved k op answers w) (moved_out k op answers w) ag sh q (λ l. ts) fs ts inv ins (λ l is_in. refl) leads held)

  module _ (q e j : ℕ) (t : Operand) (fs : List Frame) (ag : ℕ → Bool) (inv : InvAt uni all ag (Sides q e j t fs) w) where
    zero_place : (o : ℕ) (b : Bool) → IsZero w.lanes w.mask t b → (l : ℕ) → In w.mask l
        → moved k (IfZero t o) answers w l ≡ lane_at (if b then o else suc w.place) (w.lanes l).registers inv.held.0
    zero_place o b zeros l is_in =
        moved_in k (IfZero t o) answers w l is_in
        ∙ ap (λ p. lane_at (if value (w.lanes l).registers t == 0 then o else suc p) (w.lanes l).registers (w.lanes l).turns) (inv.here l is_in)
        ∙ ap (λ c. lane_at (if c then o else suc w.place) (w.lanes l).registers (w.lanes l).turns) (zeros l is_in)
        ∙ ap (λ ts. lane_at (if b then o else suc w.place) (w.lanes l).registers ts) (inv.held.1 l is_in)

    not_place : (o : ℕ) (b : Bool) → IsZero w.lanes w.mask t b → (l : ℕ) → In w.mask l
        → moved k (IfNot t o) answers w l ≡ lane_at (if b then suc w.place else o) (w.lanes l).registers inv.held.0
    not_place o b zeros l is_in =
        moved_in k (IfNot t o) answers w l is_in
        ∙ ap (λ p. lane_at (if value (w.lanes l).registers t == 0 then suc p else o) (w.lanes l).registers (w.lanes l).turns) (inv.here l is_in)
        ∙ ap (λ c. lane_at (if c then suc w.place else o) (w.lanes l).registers (w.lanes l).turns) (zeros l is_in)
        ∙ ap (λ ts. lane_at (if b then suc w.place else o) (w.lanes l).registers ts) (inv.held.1 l is_in)

    pub side_zero : (o : ℕ) → LeadsOn spots ag (First q e j t ∷ fs) (suc w.place) → LeadsOn spots ag (Second q e j t ∷ fs) o
        → Fine spots uni all (IfZero t o) w (warp_op k (IfZero t o) (moved k (IfZero t o) answers w) w)
    side_zero o first second = elim (inv.held.2) [
      | inl one ↦ side_goes (IfZero t o) (Sides q e j t fs) ag false (suc w.place) (First q e j t ∷ fs) inv.held.0 inv one.0 (zero_place o false one.0) first one.1
      | inr other ↦ side_goes (IfZero t o) (Sides q e j t fs) ag true o (Second q e j t ∷ fs) inv.held.0 inv other.0 (zero_place o true other.0) second other.1
    ]

    pub side_not : (o : ℕ) → LeadsOn spots ag (First q e j t ∷ fs) o → LeadsOn spots ag (Second q e j t ∷ fs) (suc w.place)
        → Fine spots uni all (IfNot t o) w (warp_op k (IfNot t o) (moved k (IfNot t o) answers w) w)
    side_not o first second = elim (inv.held.2) [
      | inl one ↦ side_goes (IfNot t o) (Sides q e j t fs) ag false o (First q e j t ∷ fs) inv.held.0 inv one.0 (not_place o false one.0) first one.1
      | inr other ↦ side_goes (IfNot t o) (Sides q e j t fs) ag true (suc w.place) (Second q e j t ∷ fs) inv.held.0 inv other.0 (not_place o true other.0) second other.1
    ]

    pub at_side_zero : (a : Operand) (o : ℕ) → ChoosesWell spots w.place q e j t fs ag a (suc w.place) o
        → Fine spots uni all (IfZero a o) w (warp_op k (IfZero a o) (moved k (IfZero a o) answers w) w)
    at_side_zero a o well = subst (λ b. Fine spots uni all (IfZero b o) w (warp_op k (IfZero b o) (moved k (IfZero b o) answers w) w)) (sym well.operand) (side_zero o well.first well.second)

    pub at_side_not : (a : Operand) (o : ℕ) → ChoosesWell spots w.place q e j t fs ag a o (suc w.place)
        → Fine spots uni all (IfNot a o) w (warp_op k (IfNot a o) (moved k (IfNot a o) answers w) w)
    at_side_not a o well = subst (λ b. Fine spots uni all (IfNot b o) w (warp_op k (IfNot b o) (moved k (IfNot b o) answers w) w)) (sym well.operand) (side_not o well.first well.second)

  -- ---- the test behind the operation that leaves some

  module _ (s p x m : ℕ) (t : Operand) (fs : List Frame) (ag : ℕ → Bool) (inv : InvAt uni all ag (Test s p x m t fs) w) where
    leaves_lane : (c : Bool) (q q' : ℕ) (rs : ℕ → ℕ) (ts : List ℕ) → as_lane (if c then lane q rs (under ts) [] else lane q' rs ts []) ≡ lane_at (if c then q else q') rs (if c then under ts else ts)
    leaves_lane true q q' rs ts = refl
    leaves_lane false q q' rs ts = refl

    test_place : (o : ℕ) (b : Bool) (ts : List ℕ) → IsZero w.lanes w.mask t b → ((l : ℕ) → In w.mask l → (if b then under (w.lanes l).turns else (w.lanes l).turns) ≡ ts) → (l : ℕ) → In w.mask l
        → moved k (Leaves t o) answers w l ≡ lane_at (if b then o else suc w.place) (w.lanes l).registers ts
    test_place o b ts zeros turned l is_in =
        moved_in k (Leaves t o) answers w l is_in
        ∙ leaves_lane (value (w.lanes l).registers t == 0) o (suc (w.lanes l).place) (w.lanes l).registers (w.lanes l).turns
        ∙ ap (λ q. lane_at (if value (w.lanes l).registers t == 0 then o else suc q) (w.lanes l).registers (if value (w.lanes l).registers t == 0 then under (w.lanes l).turns else (w.lanes l).turns)) (inv.here l is_in)
        ∙ ap (λ c. lane_at (if c then o else suc w.place) (w.lanes l).registers (if c then under (w.lanes l).turns else (w.lanes l).turns)) (zeros l is_in)
        ∙ ap (λ ts'. lane_at (if b then o else suc w.place) (w.lanes l).registers ts') (turned l is_in)

    tested : (o : ℕ) → LeadsOn spots ag (Turning s p x m t ∷ fs) (suc w.place) → LeadsOn spots ag fs o
        → Fine spots uni all (Leaves t o) w (warp_op k (Leaves t o) (moved k (Leaves t o) answers w) w)
    tested o on out = elim (inv.held.1) [
      | inl some ↦
          side_goes (Leaves t o) (Test s p x m t fs) ag false (suc w.place) (Turning s p x m t ∷ fs) inv.held.0 inv some.1 (test_place o false inv.held.0 some.1 some.0) on some.2
      | inr none ↦
          side_goes (Leaves t o) (Test s p x m t fs) ag true o fs inv.held.0 inv none.1
          (test_place o true inv.held.0 none.1 (λ l is_in. ap under (none.0 l is_in).1)) out none.2
    ]

    pub at_test : (a : Operand) (o : ℕ) → TestsWell spots w.place s p x m t fs ag a o → Fine spots uni all (Leaves a o) w (warp_op k (Leaves a o) (moved k (Leaves a o) answers w) w)
    at_test a o well = subst (λ b. Fine spots uni all (Leaves b o) w (warp_op k (Leaves b o) (moved k (Leaves b o) answers w) w)) (sym well.operand) (tested o well.on well.out)
