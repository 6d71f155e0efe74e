-- Along every run from a warp that is in step: it stays so, and each lane comes alone to where it stands.
use Rattle.std.proofs.Common.{◌≡◌, ℕ, zero, suc, ◌^◌, ◌<◌, ◌≤◌, Bool, true, ◌==◌, List, [], ◌∷◌, drop, refl, ap, sym, ◌∙◌, subst, pow_pos, mod-eq_of_lt, eq-eqb}
use Rattle.kir.specs.Trees.{Operand, VariableOf, NumberOf}
use Rattle.vx_isa.specs.Warps.{cut}
use Rattle.vx_isa.specs.declared.warps.Step.{Step}
use Rattle.vx_isa.specs.declared.warps.Step.TheVariants as step
use Rattle.vcode.specs.Code.{VOp, Tmc}
use Rattle.vcode.specs.Machine as vcode
use Rattle.vcode.specs.Machine.{Lane}
use Rattle.warp_code.specs.Warps.{Crew, VLane, VWarp, Stepped, around_of, moved, ends_or_goes, warp_op, warp_from, warp_step}
use Rattle.warp_code.specs.Runs.{GoesOn, Runs, answer_at, told_at, answers_in, numbers_in, alone, Comes, Stays}
use Rattle.mask_laws.proofs.Sets.{Out, moved_out}
use Rattle.mask_laws.specs.Spots.{Shape, Straight, Sides, Test, Meet, Nowhere, Spot}
use Rattle.mask_laws.proofs.Frames.{ShapeHeld, Inv}
use Rattle.mask_laws.proofs.Fits.{FitsAt, IsNone, Fits, FineBy, Fine}
use Rattle.mask_laws.specs.Labels.{first_of_list, spot_in, ops_of}
use Rattle.mask_laws.proofs.Lockstep.{BeginsNone, others_after, step_comes}
use Rattle.mask_laws.specs.Honest.{IsHonest}
use Rattle.mask_laws.proofs.StepLaw.{step_keeps}

-- ---- the operation of a place

pub drop_ops : (list : List Spot) (p : ℕ) → drop p (ops_of list) ≡ ops_of (drop p list)
drop_ops [] zero = refl
drop_ops [] (suc p) = refl
drop_ops (s ∷ list) zero = refl
drop_ops (s ∷ list) (suc p) = drop_ops list p

stands_at : (list : List Spot) (all : ℕ) (w : VWarp) → ShapeHeld (first_of_list list).shape all w.lanes w.mask w.stack → (ops : List VOp) × (ops_of list ≡ (first_of_list list).op ∷ ops)
stands_at [] all w h = absurd h
stands_at (s ∷ list) all w h = (ops_of list, refl)

-- where a warp is in step, the operation of its place is that of its spot
pub op_stands : (whole : List Spot) (code : List VOp) (uni : ℕ → Bool) (all : ℕ) (w : VWarp) → ops_of whole ≡ code → Inv (spot_in whole) uni all w
    → (ops : List VOp) × (drop w.place code ≡ (spot_in whole w.place).op ∷ ops)
op_stands whole code uni all w spelled inv =
    let found = stands_at (drop w.place whole) all w inv.held in
    (found.0, ap (λ c. drop w.place c) (sym spelled) ∙ drop_ops whole w.place ∙ found.1)

-- ---- steps that go on

fine_goes : (spots : ℕ → Spot) (uni : ℕ → Bool) (all : ℕ) (op : VOp) (w w' : VWarp) (outcome : Step) → FineBy spots uni all op w w' outcome → GoesOn outcome → Inv spots uni all w'
fine_goes spots uni all op w w' step.Next fine goes = fine
fine_goes spots uni all op w w' step.Diverged fine goes = fine
fine_goes spots uni all op w w' step.Agreed fine goes = fine
fine_goes spots uni all op w w' (step.Wait bar count) fine goes = fine
fine_goes spots uni all op w w' (step.Spawn count place) fine goes = absurd fine
fine_goes spots uni all op w w' step.Ended fine goes = absurd goes
fine_goes spots uni all op w w' (step.Trap fault lane place) fine goes = absurd goes

-- an operation that ends the warp, or begins no lanes
none_begun : (k : Crew) (w : VWarp) (vs : ℕ → VLane) (a : Operand) → IsNone a → GoesOn (warp_op k (Tmc a) vs w).outcome → ⊥
none_begun k w vs (NumberOf zero) none goes =
    let ended : (cut k.ids.lanes 0 == 0) ≡ true = eq-eqb (cut k.ids.lanes 0) 0 (mod-eq_of_lt (pow_pos k.ids.lanes)) in
    subst (λ b. GoesOn (ends_or_goes b)) ended goes
none_begun k w vs (NumberOf (suc n)) none goes = none
none_begun k w vs (VariableOf r) none goes = none

tmc_begins : (spots : ℕ → Spot) (uni : ℕ → Bool) (all : ℕ) (k : Crew) (w : VWarp) (vs : ℕ → VLane) (a : Operand) (sh : Shape) (ag : ℕ → Bool) (shared : Bool)
    → FitsAt spots uni w.place (Tmc a) sh ag shared → ShapeHeld sh all w.lanes w.mask w.stack → GoesOn (warp_op k (Tmc a) vs w).outcome → ⊥
tmc_begins spots uni all k w vs a (Straight fs) ag shared fits h goes = none_begun k w vs a fits.1 goes
tmc_begins spots uni all k w vs a (Sides q e j t fs) ag shared fits h goes = fits
tmc_begins spots uni all k w vs a (Test s p x m t fs) ag shared fits h goes = fits
tmc_begins spots uni all k w vs a (Meet q e j t fs) ag shared fits h goes = fits
tmc_begins spots uni all k w vs a Nowhere ag shared fits h goes = h

begins_none : (spots : ℕ → Spot) (uni : ℕ → Bool) (all : ℕ) (k : Crew) (w : VWarp) (vs : ℕ → VLane) (op : VOp) (sh : Shape) (ag : ℕ → Bool) (shared : Bool)
    → FitsAt spots uni w.place op sh ag shared → ShapeHeld sh all w.lanes w.mask w.stack → GoesOn (warp_op k op vs w).outcome → BeginsNone op
begins_none spots uni all k w vs (Tmc a) sh ag shared fits h goes = tmc_begins spots uni all k w vs a sh ag shared fits h goes
begins_none spots uni all k w vs op sh ag shared fits h goes = tt

module _ (whole : List Spot) (code : List VOp) (spelled : ops_of whole ≡ code) (uni : ℕ → Bool) (all : ℕ) (fits : (p : ℕ) → Fits (spot_in whole) uni p) (k : Crew) (few : k.ids.lanes ≤ 32) (low : all < 2 ^ k.ids.lanes) where
  abbrev pub InStep : VWarp → Type 0
  InStep w = Inv (spot_in whole) uni all w

  abbrev pub op_at : VWarp → VOp
  op_at w = (spot_in whole w.place).op

  -- what the lanes read at shared places is honest at each step of a run
  abbrev pub HonestRun : VWarp → List (ℕ → ℕ) → Type 0
  HonestRun w [] = Unit {0}
  HonestRun w (answers ∷ later) = IsHonest (spot_in whole w.place).shared (spot_in whole w.place).op w answers × HonestRun (warp_step k code answers w).warp later

  -- a step is that of the operation of its place
  pub step_is : (w : VWarp) (answers : ℕ → ℕ) → InStep w → warp_step k code answers w ≡ warp_op k (op_at w) (moved k (op_at w) answers w) w
  step_is w answers inv = ap (λ c. warp_from k c answers w) (op_stands whole code uni all w spelled inv).1

  -- and is fine
  pub step_fine : (w : VWarp) (answers : ℕ → ℕ) → InStep w → IsHonest (spot_in whole w.place).shared (op_at w) w answers → Fine (spot_in whole) uni all (op_at w) w (warp_step k code answers w)
  step_fine w answers inv honest =
      subst (λ s. Fine (spot_in whole) uni all (op_at w) w s) (sym (step_is w answers inv)) (step_keeps (spot_in whole) uni all k few low w answers inv (fits w.place) honest)

  next_in_step : (w : VWarp) (answers : ℕ → ℕ) → InStep w → IsHonest (spot_in whole w.place).shared (op_at w) w answers → GoesOn (warp_step k code answers w).outcome → InStep (warp_step k code answers w).warp
  next_in_step w answers inv honest goes =
      fine_goes (spot_in whole) uni all (op_at w) w (warp_step k code answers w).warp (warp_step k code answers w).outcome (step_fine w answers inv honest) goes

  pub run_keeps : (run : List (ℕ → ℕ)) (w w' : VWarp) → InStep w → HonestRun w run → Runs k code w run w' → InStep w'
  run_keeps [] w w' inv honest runs = subst InStep runs inv
  run_keeps (answers ∷ later) w w' inv honest runs =
      run_keeps later (warp_step k code answers w).warp w' (next_in_step w answers inv honest.0 runs.0) honest.1 runs.1

  -- a step that goes on leaves a lane that is not active as it is
  pub idle_stays : (w : VWarp) (answers : ℕ → ℕ) (l : ℕ) → InStep w → Out w.mask l → GoesOn (warp_step k code answers w).outcome → (warp_step k code answers w).warp.lanes l ≡ w.lanes l
  idle_stays w answers l inv is_out =
      subst (λ (s : Stepped). GoesOn s.outcome → s.warp.lanes l ≡ w.lanes l) (sym (step_is w answers inv))
      (λ goes.
      others_after k (op_at w) (moved k (op_at w) answers w) w l
      (begins_none (spot_in whole) uni all k w (moved k (op_at w) answers w) (op_at w) (spot_in whole w.place).shape (spot_in whole w.place).agree (spot_in whole w.place).shared (fits w.place) inv.held goes) goes
      ∙ moved_out k (op_at w) answers w l is_out)

  -- one step of the warp, for one of its lanes
  lane_comes : (w : VWarp) (answers : ℕ → ℕ) (l : ℕ) (numbers : List ℕ) (t : Lane) (later : List ℕ) → InStep w → GoesOn (warp_step k code answers w).outcome
      → Comes (vcode.step (around_of k l) code) (alone ((warp_step k code answers w).warp.lanes l) numbers) later t
      → Comes (vcode.step (around_of k l) code) (alone (w.lanes l) (told_at k (drop w.place code) l w numbers)) (answer_at k (drop w.place code) l w (answers l) later) t
  lane_comes w answers l numbers t later inv =
      let there = op_stands whole code uni all w spelled inv in
      subst
      (λ c. GoesOn (warp_from k c answers w).outcome → Comes (vcode.step (around_of k l) code) (alone ((warp_from k c answers w).warp.lanes l) numbers) later t
      → Comes (vcode.step (around_of k l) code) (alone (w.lanes l) (told_at k c l w numbers)) (answer_at k c l w (answers l) later) t)
      (sym there.1)
      (λ goes comes.
      step_comes k code answers w (op_at w) there.0 there.1 goes inv.here l numbers t later
      (λ is_out.
      others_after k (op_at w) (moved k (op_at w) answers w) w l
      (begins_none (spot_in whole) uni all k w (moved k (op_at w) answers w) (op_at w) (spot_in whole w.place).shape (spot_in whole w.place).agree (spot_in whole w.place).shared (fits w.place) inv.held goes) goes
      ∙ moved_out k (op_at w) answers w l is_out) comes)

  pub run_comes : (run : List (ℕ → ℕ)) (w w' : VWarp) (l : ℕ) (later : List ℕ) → InStep w → HonestRun w run → Runs k code w run w'
      → Comes (vcode.step (around_of k l) code) (alone (w.lanes l) (numbers_in k code l w run later)) (answers_in k code l w run) (alone (w'.lanes l) later)
  run_comes [] w w' l later inv honest runs =
      subst (λ v. Comes (vcode.step (around_of k l) code) (alone (w.lanes l) later) [] (alone (v.lanes l) later)) runs (Stays (alone (w.lanes l) later))
  run_comes (answers ∷ more) w w' l later inv honest runs =
      lane_comes w answers l (numbers_in k code l (warp_step k code answers w).warp more later) (alone (w'.lanes l) later) (answers_in k code l (warp_step k code answers w).warp more) inv runs.0
      (run_comes more (warp_step k code answers w).warp w' l later (next_in_step w answers inv honest.0 runs.0) honest.1 runs.1)
