-- Each lane of a warp does what it does alone: along every run that is in step, it comes alone to where it stands.
use Rattle.std.proofs.Common.{◌≡◌, ℕ, suc, inl, inr, Bool, true, false, not, ◌==◌, List, [], ◌∷◌, drop, refl, ap, sym, ◌∙◌, subst}
use Rattle.std.specs.Prelude.{if◌then◌else◌}
use Rattle.std.proofs.lemmas.Bool.{and_right}
use Rattle.item_acts.specs.declared.acts.Action.TheVariants.{End}
use Rattle.item_acts.specs.Machine as lanes
use Rattle.item_acts.specs.Machine.{Go, Ask, Stop}
use Rattle.kir.specs.Machine.{value}
use Rattle.step_machine.specs.Stacks.{under}
use Rattle.vx_isa.specs.Warps.{has_lane}
use Rattle.vx_isa.specs.declared.warps.Held.{Held}
use Rattle.vx_isa.specs.declared.warps.Held.TheVariants as held
use Rattle.vcode.specs.declared.ops.Csr.TheVariants.{LaneNumber, WarpNumber, CoreNumber, MaskNow}
use Rattle.vcode.specs.Code.{VOp, Fresh, Copy, Compute, Cut, Word, WordAt, Learn, Fetch, Write, IfZero, IfNot, Goto, Split, Join, Pred, Tmc, Wspawn, Bar, Trap, Enter, Leaves, Again}
use Rattle.vcode.specs.Machine as vcode
use Rattle.vcode.specs.Machine.{Around, Lane, lane, op_step, step_from}
use Rattle.warp_code.specs.Warps.{Crew, VLane, VWarp, around_of, told, does, lane_behind, moved, begun, diverge, agree, split_by, has_room, join_step, lanes_by, warp_op}
use Rattle.warp_code.specs.Runs.{GoesOn, with_answer, in_front, with_told, answer_at, told_at, alone, Comes, Goes, Takes}
use Rattle.mask_laws.proofs.Sets.{In, Out, which, moved_in}

-- ---- what is told later does not change a step

abbrev later_numbers : List ℕ → Lane → Lane
later_numbers more s = lane s.place s.registers s.turns more

abbrev with_later : List ℕ → lanes.Step Lane → lanes.Step Lane
with_later more (Go s) = Go (later_numbers more s)
with_later more (Ask a next) = Ask a (λ x. later_numbers more (next x))
with_later more (Stop a) = Stop a

leaves_later : (b : Bool) (q p : ℕ) (rs : ℕ → ℕ) (ts more : List ℕ)
    → Go (if b then lane q rs (under ts) more else lane p rs ts more) ≡ with_later more (Go (if b then lane q rs (under ts) [] else lane p rs ts []))
leaves_later true q p rs ts more = refl
leaves_later false q p rs ts more = refl

tmc_later : (b : Bool) (p : ℕ) (rs : ℕ → ℕ) (ts more : List ℕ)
    → (if b then Go (lane p rs ts more) else Stop End) ≡ with_later more (if b then Go (lane p rs ts []) else Stop End)
tmc_later true p rs ts more = refl
tmc_later false p rs ts more = refl

step_later : (k : Crew) (mask : ℕ) (op : VOp) (l : ℕ) (v : VLane) (more : List ℕ)
    → op_step (around_of k l) op v.place v.registers v.turns (in_front (told k mask op) more) ≡ with_later more (does k mask op l v)
step_later k mask Fresh l v more = refl
step_later k mask (Copy d a) l v more = refl
step_later k mask (Compute d op a b) l v more = refl
step_later k mask (Cut d elem a) l v more = refl
step_later k mask (Word d n) l v more = refl
step_later k mask (WordAt d a n) l v more = refl
step_later k mask (Learn d LaneNumber) l v more = refl
step_later k mask (Learn d WarpNumber) l v more = refl
step_later k mask (Learn d CoreNumber) l v more = refl
step_later k mask (Learn d MaskNow) l v more = refl
step_later k mask (Fetch d elem a) l v more = refl
step_later k mask (Write elem a b) l v more = refl
step_later k mask (IfZero a q) l v more = refl
step_later k mask (IfNot a q) l v more = refl
step_later k mask (Goto q) l v more = refl
step_later k mask (Split a) l v more = refl
step_later k mask Join l v more = refl
step_later k mask (Pred a m) l v more = refl
step_later k mask (Tmc a) l v more = tmc_later (has_lane (value v.registers a) l) (suc v.place) v.registers v.turns more
step_later k mask (Wspawn a q) l v more = refl
step_later k mask (Bar site) l v more = refl
step_later k mask (Trap pos) l v more = refl
step_later k mask Enter l v more = refl
step_later k mask (Leaves a q) l v more = leaves_later (value v.registers a == 0) q (suc v.place) v.registers v.turns more
step_later k mask (Again q) l v more = refl

-- ---- one step of one lane

-- the lane alone makes the step of the operation that stands at its place, and goes on as it does then
comes_by : (k : Crew) (code : List VOp) (mask : ℕ) (op : VOp) (ops : List VOp) (l : ℕ) (v : VLane) (answer : ℕ) (numbers : List ℕ) (t : Lane) (answers : List ℕ) (d : lanes.Step Lane)
    → does k mask op l v ≡ d → drop v.place code ≡ op ∷ ops
    → Comes (vcode.step (around_of k l) code) (alone (lane_behind answer v d) numbers) answers t
    → Comes (vcode.step (around_of k l) code) (alone v (with_told d (told k mask op) numbers)) (with_answer d answer answers) t
comes_by k code mask op ops l v answer numbers t answers (Go s) e there comes =
    Goes (alone v (in_front (told k mask op) numbers)) (later_numbers numbers s) t answers
    (ap (λ c. step_from (around_of k l) c v.place v.registers v.turns (in_front (told k mask op) numbers)) there ∙ step_later k mask op l v numbers ∙ ap (with_later numbers) e) comes
comes_by k code mask op ops l v answer numbers t answers (Ask a next) e there comes =
    Takes (alone v (in_front (told k mask op) numbers)) a (λ x. later_numbers numbers (next x)) answer t answers
    (ap (λ c. step_from (around_of k l) c v.place v.registers v.turns (in_front (told k mask op) numbers)) there ∙ step_later k mask op l v numbers ∙ ap (with_later numbers) e) comes
comes_by k code mask op ops l v answer numbers t answers (Stop a) e there comes = comes

-- ---- the lanes behind a step that goes on

lanes_of_join : (st : List Held) (vs : ℕ → VLane) (w : VWarp) (l : ℕ) → GoesOn (join_step st vs w).outcome → (join_step st vs w).warp.lanes l ≡ vs l
lanes_of_join [] vs w l goes = absurd goes
lanes_of_join (held.Restore mask ∷ rest) vs w l goes = refl
lanes_of_join (held.Else mask place ∷ rest) vs w l goes = refl

lanes_of_diverge : (b : Bool) (on off : ℕ) (vs : ℕ → VLane) (w : VWarp) (l : ℕ) → GoesOn (diverge b on off vs w).outcome → (diverge b on off vs w).warp.lanes l ≡ vs l
lanes_of_diverge true on off vs w l goes = refl
lanes_of_diverge false on off vs w l goes = absurd goes

lanes_of_agree : (b : Bool) (vs : ℕ → VLane) (w : VWarp) (l : ℕ) → GoesOn (agree b vs w).outcome → (agree b vs w).warp.lanes l ≡ vs l
lanes_of_agree true vs w l goes = refl
lanes_of_agree false vs w l goes = absurd goes

lanes_of_split : (b : Bool) (on off : ℕ) (vs : ℕ → VLane) (w : VWarp) (l : ℕ) → GoesOn (split_by b on off vs w).outcome → (split_by b on off vs w).warp.lanes l ≡ vs l
lanes_of_split true on off vs w l goes = lanes_of_diverge (has_room 2 w.stack) on off vs w l goes
lanes_of_split false on off vs w l goes = lanes_of_agree (has_room 1 w.stack) vs w l goes

lanes_of_all : (b : Bool) (stop : ℕ) (vs : ℕ → VLane) (w : VWarp) (l : ℕ) → GoesOn (lanes_by b stop vs w).outcome → (lanes_by b stop vs w).warp.lanes l ≡ vs l
lanes_of_all true stop vs w l goes = absurd goes
lanes_of_all false stop vs w l goes = refl

begun_of_active : (place before after : ℕ) (vs : ℕ → VLane) (l : ℕ) → In before l → begun place before after vs l ≡ vs l
begun_of_active place before after vs l is_in =
    ap (λ b. if b then record { place = place; registers = (vs l).registers; turns = [] } else vs l) (and_right (has_lane after l) (not (has_lane before l)) (ap not is_in))

-- a step that goes on leaves each lane that was active where its own step led, and at an operation that begins no lanes the others too
pub lanes_after : (k : Crew) (op : VOp) (vs : ℕ → VLane) (w : VWarp) (l : ℕ) → In w.mask l → GoesOn (warp_op k op vs w).outcome → (warp_op k op vs w).warp.lanes l ≡ vs l
lanes_after k (Split a) vs w l is_in goes = lanes_of_split _ _ _ vs w l goes
lanes_after k Join vs w l is_in goes = lanes_of_join w.stack vs w l goes
lanes_after k (Pred a m) vs w l is_in goes = refl
lanes_after k (Tmc a) vs w l is_in goes = begun_of_active _ _ _ vs l is_in
lanes_after k (Wspawn a q) vs w l is_in goes = refl
lanes_after k (Bar site) vs w l is_in goes = refl
lanes_after k (Trap pos) vs w l is_in goes = absurd goes
lanes_after k op vs w l is_in goes = lanes_of_all _ _ vs w l goes

abbrev pub BeginsNone : VOp → Type 0
BeginsNone (Tmc a) = ⊥
BeginsNone op = Unit {0}

pub others_after : (k : Crew) (op : VOp) (vs : ℕ → VLane) (w : VWarp) (l : ℕ) → BeginsNone op → GoesOn (warp_op k op vs w).outcome → (warp_op k op vs w).warp.lanes l ≡ vs l
others_after k (Split a) vs w l none goes = lanes_of_split _ _ _ vs w l goes
others_after k Join vs w l none goes = lanes_of_join w.stack vs w l goes
others_after k (Pred a m) vs w l none goes = refl
others_after k (Tmc a) vs w l none goes = absurd none
others_after k (Wspawn a q) vs w l none goes = refl
others_after k (Bar site) vs w l none goes = refl
others_after k (Trap pos) vs w l none goes = absurd goes
others_after k op vs w l none goes = lanes_of_all _ _ vs w l goes

-- ---- one step of a warp, for one of its lanes

module _ (k : Crew) (code : List VOp) (answers : ℕ → ℕ) (w : VWarp) (op : VOp) (ops : List VOp) (there : drop w.place code ≡ op ∷ ops) (goes : GoesOn (warp_op k op (moved k op answers w) w).outcome)
    (here : (l : ℕ) → In w.mask l → (w.lanes l).place ≡ w.place) where
  abbrev after : VWarp
  after = (warp_op k op (moved k op answers w) w).warp

  active_comes : (l : ℕ) (numbers : List ℕ) (t : Lane) (later : List ℕ) → In w.mask l → Comes (vcode.step (around_of k l) code) (alone (after.lanes l) numbers) later t
      → Comes (vcode.step (around_of k l) code) (alone (w.lanes l) (with_told (does k w.mask op l (w.lanes l)) (told k w.mask op) numbers)) (with_answer (does k w.mask op l (w.lanes l)) (answers l) later) t
  active_comes l numbers t later is_in comes =
      comes_by k code w.mask op ops l (w.lanes l) (answers l) numbers t later (does k w.mask op l (w.lanes l)) refl
      (ap (λ p. drop p code) (here l is_in) ∙ there)
      (subst (λ v. Comes (vcode.step (around_of k l) code) (alone v numbers) later t) (lanes_after k op (moved k op answers w) w l is_in goes ∙ moved_in k op answers w l is_in) comes)

  idle_comes : (l : ℕ) (numbers : List ℕ) (t : Lane) (later : List ℕ) → Out w.mask l → after.lanes l ≡ w.lanes l → Comes (vcode.step (around_of k l) code) (alone (after.lanes l) numbers) later t
      → Comes (vcode.step (around_of k l) code) (alone (w.lanes l) numbers) later t
  idle_comes l numbers t later is_out stays comes = subst (λ v. Comes (vcode.step (around_of k l) code) (alone v numbers) later t) stays comes

  -- whether it is active or not
  pub step_comes : (l : ℕ) (numbers : List ℕ) (t : Lane) (later : List ℕ) → (Out w.mask l → after.lanes l ≡ w.lanes l)
      → Comes (vcode.step (around_of k l) code) (alone (after.lanes l) numbers) later t
      → Comes (vcode.step (around_of k l) code) (alone (w.lanes l) (told_at k (op ∷ ops) l w numbers)) (answer_at k (op ∷ ops) l w (answers l) later) t
  step_comes l numbers t later stays comes = elim (which (has_lane w.mask l)) [
    | inl is_in ↦
        subst (λ b. Comes (vcode.step (around_of k l) code) (alone (w.lanes l) (if b then with_told (does k w.mask op l (w.lanes l)) (told k w.mask op) numbers else numbers))
        (if b then with_answer (does k w.mask op l (w.lanes l)) (answers l) later else later) t) (sym is_in) (active_comes l numbers t later is_in comes)
    | inr is_out ↦
        subst (λ b. Comes (vcode.step (around_of k l) code) (alone (w.lanes l) (if b then with_told (does k w.mask op l (w.lanes l)) (told k w.mask op) numbers else numbers))
        (if b then with_answer (does k w.mask op l (w.lanes l)) (answers l) later else later) t) (sym is_out) (idle_comes l numbers t later is_out (stays is_out) comes)
  ]
