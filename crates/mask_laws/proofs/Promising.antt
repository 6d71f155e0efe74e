-- What a warp in step promises at its next operation: when it ends and traps, how long its stack is, and at which point its lanes wait.
use Rattle.std.proofs.Common.{◌≡◌, ℕ, suc, ◌+◌, ◌≤◌, Bool, true, false, List, [], ◌∷◌, drop, length, refl, ap, subst, arith, leb-true, append-nil}
use Rattle.item_acts.specs.declared.acts.Action.{Action}
use Rattle.item_acts.specs.declared.acts.Bound.{Bound}
use Rattle.item_acts.specs.Machine.{Ask, Stop, asked_at_once, Asks}
use Rattle.item_settings.specs.Settings.{Setting}
use Rattle.kir.specs.Machine as kir
use Rattle.kir.specs.Machine.{kir_start}
use Rattle.kir.specs.Trees.{KirCode}
use Rattle.vx_isa.specs.Warps.{leader}
use Rattle.vx_isa.specs.declared.warps.Held.{Held}
use Rattle.vx_isa.specs.declared.warps.Held.TheVariants as held
use Rattle.vx_isa.specs.declared.warps.MachineTrap.{MachineTrap}
use Rattle.vx_isa.specs.declared.warps.MachineTrap.TheVariants as trap
use Rattle.vx_isa.specs.declared.warps.Step.{Step}
use Rattle.vx_isa.specs.declared.warps.Step.TheVariants as step
use Rattle.vcode.specs.Code.{VOp, Split, Join, Pred, Tmc, Wspawn, Bar, Trap}
use Rattle.vcode.specs.Machine as vcode
use Rattle.vcode.specs.Machine.{Lane, lane, step_from}
use Rattle.simt_lowering.specs.Kept.{AsksAs}
use Rattle.simt_lowering.specs.Lowered.{kernel_code}
use Rattle.warp_code.specs.Warps.{Crew, VLane, VWarp, has_room, diverge, agree, split_by, join_step, lanes_by, warp_op, warp_from, warp_step}
use Rattle.warp_code.specs.Runs.{Runs, alone, Comes}
use Rattle.mask_laws.proofs.Comings.{asks_from_start}
use Rattle.mask_laws.proofs.Sets.{In}
use Rattle.mask_laws.specs.Spots.{Shape, Straight, Sides, Test, Meet, Nowhere, Spot}
use Rattle.mask_laws.proofs.Frames.{ShapeHeld}
use Rattle.mask_laws.proofs.Fits.{FitsAt, IsTrap, FineBy}

-- ---- the stack

module _ (w : VWarp) (most : length w.stack ≤ 64) where
  short_join : (st : List Held) (vs : ℕ → VLane) → length st ≤ 64 → length (join_step st vs w).warp.stack ≤ 64
  short_join [] vs short = most
  short_join (held.Restore mask ∷ rest) vs short = let long : length (held.Restore mask ∷ rest) ≡ suc (length rest) = refl in omega (arith, long, short)
  short_join (held.Else mask place ∷ rest) vs short = let long : length (held.Else mask place ∷ rest) ≡ suc (length rest) = refl in omega (arith, long, short)

  short_diverge : (b : Bool) (on off : ℕ) (vs : ℕ → VLane) → has_room 2 w.stack ≡ b → length (diverge b on off vs w).warp.stack ≤ 64
  short_diverge true on off vs room =
      let fits : length w.stack + 2 ≤ 64 = leb-true (length w.stack + 2) 64 room in
      let long : length (held.Else off (suc w.place) ∷ held.Restore w.mask ∷ w.stack) ≡ suc (suc (length w.stack)) = refl in omega (arith, long, fits)
  short_diverge false on off vs room = most

  short_agree : (b : Bool) (vs : ℕ → VLane) → has_room 1 w.stack ≡ b → length (agree b vs w).warp.stack ≤ 64
  short_agree true vs room =
      let fits : length w.stack + 1 ≤ 64 = leb-true (length w.stack + 1) 64 room in
      let long : length (held.Restore w.mask ∷ w.stack) ≡ suc (length w.stack) = refl in omega (arith, long, fits)
  short_agree false vs room = most

  short_split : (b : Bool) (on off : ℕ) (vs : ℕ → VLane) → length (split_by b on off vs w).warp.stack ≤ 64
  short_split true on off vs = short_diverge (has_room 2 w.stack) on off vs refl
  short_split false on off vs = short_agree (has_room 1 w.stack) vs refl

  short_all : (b : Bool) (stop : ℕ) (vs : ℕ → VLane) → length (lanes_by b stop vs w).warp.stack ≤ 64
  short_all true stop vs = most
  short_all false stop vs = most

  short_op : (k : Crew) (op : VOp) (vs : ℕ → VLane) → length (warp_op k op vs w).warp.stack ≤ 64
  short_op k (Split a) vs = short_split _ _ _ vs
  short_op k Join vs = short_join w.stack vs most
  short_op k (Pred a m) vs = most
  short_op k (Tmc a) vs = most
  short_op k (Wspawn a q) vs = most
  short_op k (Bar site) vs = most
  short_op k (Trap pos) vs = most
  short_op k op vs = short_all _ _ vs

  short_from : (k : Crew) (ops : List VOp) (answers : ℕ → ℕ) → length (warp_from k ops answers w).warp.stack ≤ 64
  short_from k [] answers = most
  short_from k (op ∷ ops) answers = short_op k op _

  pub short_step : (k : Crew) (code : List VOp) (answers : ℕ → ℕ) → length (warp_step k code answers w).warp.stack ≤ 64
  short_step k code answers = short_from k (drop w.place code) answers

pub short_run : (k : Crew) (code : List VOp) (run : List (ℕ → ℕ)) (w w' : VWarp) → length w.stack ≤ 64 → Runs k code w run w' → length w'.stack ≤ 64
short_run k code [] w w' most runs = subst (λ v. length v.stack ≤ 64) runs most
short_run k code (answers ∷ later) w w' most runs = short_run k code later (warp_step k code answers w).warp w' (short_step w most k code answers) runs.1

-- ---- the next operation

module _ (spots : ℕ → Spot) (uni : ℕ → Bool) (all : ℕ) (w : VWarp) where
  pub fine_trap : (op : VOp) (w' : VWarp) (outcome : Step) (fault : MachineTrap) (l place : ℕ) → FineBy spots uni all op w w' outcome → outcome ≡ step.Trap fault l place
      → (fault ≡ trap.Break) × (l ≡ leader w.mask) × IsTrap op
  fine_trap op w' outcome fault l place fine e = subst (FineBy spots uni all op w w') e fine

  pub fine_end : (op : VOp) (w' : VWarp) (outcome : Step) → FineBy spots uni all op w w' outcome → outcome ≡ step.Ended → (w.mask ≡ all) × (w.stack ≡ [])
  fine_end op w' outcome fine e = subst (FineBy spots uni all op w w') e fine

  pub fine_spawn : (op : VOp) (w' : VWarp) (outcome : Step) (count place : ℕ) → FineBy spots uni all op w w' outcome → outcome ≡ step.Spawn count place → ⊥
  fine_spawn op w' outcome count place fine e = subst (FineBy spots uni all op w w') e fine

  -- the numbers of turns that all active lanes have at a barrier
  bar_turns : (site : ℕ) (sh : Shape) (ag : ℕ → Bool) (shared : Bool) → FitsAt spots uni w.place (Bar site) sh ag shared → ShapeHeld sh all w.lanes w.mask w.stack
      → (ts : List ℕ) × ((l : ℕ) → In w.mask l → (w.lanes l).turns ≡ ts)
  bar_turns site (Straight fs) ag shared fits h = (h.0, h.1)
  bar_turns site (Sides q e j t fs) ag shared fits h = absurd fits
  bar_turns site (Test s p x m t fs) ag shared fits h = absurd fits
  bar_turns site (Meet q e j t fs) ag shared fits h = absurd fits
  bar_turns site Nowhere ag shared fits h = absurd h

  pub turns_at_bar : (site : ℕ) (op : VOp) (sh : Shape) (ag : ℕ → Bool) (shared : Bool) → op ≡ Bar site → FitsAt spots uni w.place op sh ag shared → ShapeHeld sh all w.lanes w.mask w.stack
      → (ts : List ℕ) × ((l : ℕ) → In w.mask l → (w.lanes l).turns ≡ ts)
  turns_at_bar site op sh ag shared e fits h = bar_turns site sh ag shared (subst (λ o. FitsAt spots uni w.place o sh ag shared) e fits) h

-- ---- what an active lane asks for

-- the lane alone asks for it at once
pub asks_now : (at : vcode.Around) (code : List VOp) (v : VLane) (a : Action) (next : ℕ → Lane) → vcode.step at code (alone v []) ≡ Ask a next → Asks (vcode.step at code) (alone v []) [] a
asks_now at code v a next e = (0, ap (λ d. asked_at_once d []) e)

pub stops_now : (at : vcode.Around) (code : List VOp) (v : VLane) (a : Action) → vcode.step at code (alone v []) ≡ Stop a → Asks (vcode.step at code) (alone v []) [] a
stops_now at code v a e = (0, ap (λ d. asked_at_once d []) e)

-- and its item asks for it after the answers that the lane took in the run
pub item_asks : (code : KirCode) (marks : ℕ → Bool) (setting : Setting) (bounds : List Bound) (at : vcode.Around) (s : Lane) (t : Lane) (answers : List ℕ) (a : Action)
    → AsksAs code (kernel_code marks code) setting bounds at s → Comes (vcode.step at (kernel_code marks code)) s answers t → Asks (vcode.step at (kernel_code marks code)) t [] a
    → Asks (kir.step setting) (kir_start code bounds) answers a
item_asks code marks setting bounds at s t answers a as_item comes asks =
    as_item.no_more answers a (subst (λ xs. Asks (vcode.step at (kernel_code marks code)) s xs a) (append-nil answers) (asks_from_start (vcode.step at (kernel_code marks code)) [] a comes asks))
