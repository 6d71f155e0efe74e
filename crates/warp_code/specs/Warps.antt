-- A warp over code for its lanes: each active lane makes its own step, at the same operation, and a stack keeps which lanes wait. Sets of
-- lanes and the stack are those of the machine, with places in code for addresses.
use Rattle.std.specs.Prelude.{ℕ, suc, ◌+◌, ◌%◌, ◌==◌, Bool, true, false, not, ◌&&◌, nat_lt, nat_le, if◌then◌else◌, List, [], ◌∷◌, length, drop}
use Rattle.item_acts.specs.declared.acts.Place.{Place}
use Rattle.item_acts.specs.Machine as lanes
use Rattle.item_acts.specs.Machine.{Go, Ask, Stop}
use Rattle.kir.specs.Machine.{value}
use Rattle.kir.specs.Trees.{Operand, VariableOf}
use Rattle.vx_isa.specs.Warps.{has_lane, lanes_where, least_below, leader, cut}
use Rattle.vx_isa.specs.WarpSteps.{pred_mask}
use Rattle.vx_isa.specs.declared.warps.Held.{Held}
use Rattle.vx_isa.specs.declared.warps.Held.TheVariants.{Restore, Else}
use Rattle.vx_isa.specs.declared.warps.Ids.{Ids}
use Rattle.vx_isa.specs.declared.warps.MachineTrap.{MachineTrap}
use Rattle.vx_isa.specs.declared.warps.MachineTrap.TheVariants as trap
use Rattle.vx_isa.specs.declared.warps.Step.{Step}
use Rattle.vx_isa.specs.declared.warps.Step.TheVariants as step
use Rattle.vcode.specs.declared.ops.Csr.TheVariants.{CoreNumber, MaskNow}
use Rattle.vcode.specs.Code.{VOp, Learn, IfZero, IfNot, Split, Join, Pred, Tmc, Wspawn, Bar, Trap, Leaves}
use Rattle.vcode.specs.Machine.{Around, Lane, op_step}

-- What stands around a warp: its numbers, the words of its launch block, and which byte of an array an address names to a lane.
pub record Crew : Type 0 where
  pub ids : Ids
  pub block : ℕ → ℕ
  pub places : ℕ → ℕ → Place

-- what stands around one of its lanes
abbrev pub around_of : Crew → ℕ → Around
around_of k l = record { block = k.block; warp = k.ids.warp; number = l; place = k.places l }

-- A lane of a warp: the place of its next operation, its registers, and the numbers of turns of the loops that it is in, the innermost first.
pub record VLane : Type 0 where
  pub place : ℕ
  pub registers : ℕ → ℕ
  pub turns : List ℕ

-- A warp: the place of its next operation, its active lanes, all its lanes, and its stack, the last entry first.
pub record VWarp : Type 0 where
  pub place : ℕ
  pub mask : ℕ
  pub lanes : ℕ → VLane
  pub stack : List Held

-- ---- one lane

-- what the control registers of the core and of the mask answer at an operation
abbrev pub told : Crew → ℕ → VOp → List ℕ
told k mask (Learn d CoreNumber) = k.ids.core ∷ []
told k mask (Learn d MaskNow) = mask ∷ []
told k mask op = []

-- the step alone of a lane at an operation
abbrev pub does : Crew → ℕ → VOp → ℕ → VLane → lanes.Step Lane
does k mask op l v = op_step (around_of k l) op v.place v.registers v.turns (told k mask op)

-- a lane without what is answered to it later
abbrev pub as_lane : Lane → VLane
as_lane s = record { place = s.place; registers = s.registers; turns = s.turns }

-- the lane behind its step, where what it asks for has this answer; a lane that stops stays
abbrev pub lane_behind : ℕ → VLane → lanes.Step Lane → VLane
lane_behind answer v (Go s) = as_lane s
lane_behind answer v (Ask a next) = as_lane (next answer)
lane_behind answer v (Stop a) = v

-- ---- all lanes

-- each active lane has made its step, and no other
abbrev pub moved : Crew → VOp → (ℕ → ℕ) → VWarp → ℕ → VLane
moved k op answers w l = if has_lane w.mask l then lane_behind (answers l) (w.lanes l) (does k w.mask op l (w.lanes l)) else w.lanes l

-- a lane that was not active and is now begins at the warp's place, in no loop
abbrev pub begun : ℕ → ℕ → ℕ → (ℕ → VLane) → ℕ → VLane
begun place before after vs l =
    if has_lane after l && not (has_lane before l) then record { place = place; registers = (vs l).registers; turns = [] } else vs l

-- ---- the warp

-- what an operation leaves
pub record Stepped : Type 0 where
  pub warp : VWarp
  pub outcome : Step

abbrev pub trapped : MachineTrap → ℕ → VWarp → Stepped
trapped fault lane w = record { warp = w; outcome = step.Trap fault lane w.place }

abbrev pub stepped : Step → ℕ → ℕ → List Held → (ℕ → VLane) → Stepped
stepped outcome place mask stack vs = record { warp = record { place = place; mask = mask; lanes = vs; stack = stack }; outcome = outcome }

-- the value of an operand in the least active lane
abbrev pub leader_value : VWarp → Operand → ℕ
leader_value w a = value (w.lanes (leader w.mask)).registers a

-- the active lanes in which an operand is not 0, and those in which it is
abbrev pub nonzero_lanes : VWarp → Operand → ℕ
nonzero_lanes w a = lanes_where (λ l. has_lane w.mask l && not (value (w.lanes l).registers a == 0))

abbrev pub zero_lanes : VWarp → Operand → ℕ
zero_lanes w a = lanes_where (λ l. has_lane w.mask l && value (w.lanes l).registers a == 0)

-- A stack has at most 64 entries.
abbrev pub has_room : ℕ → List Held → Bool
has_room entries stack = nat_le (length stack + entries) 64

abbrev pub diverge : Bool → ℕ → ℕ → (ℕ → VLane) → VWarp → Stepped
diverge true on off vs w = stepped step.Diverged (suc w.place) on (Else off (suc w.place) ∷ Restore w.mask ∷ w.stack) vs
diverge false on off vs w = trapped trap.StackFull (leader w.mask) w

abbrev pub agree : Bool → (ℕ → VLane) → VWarp → Stepped
agree true vs w = stepped step.Agreed (suc w.place) w.mask (Restore w.mask ∷ w.stack) vs
agree false vs w = trapped trap.StackFull (leader w.mask) w

abbrev pub split_by : Bool → ℕ → ℕ → (ℕ → VLane) → VWarp → Stepped
split_by true on off vs w = diverge (has_room 2 w.stack) on off vs w
split_by false on off vs w = agree (has_room 1 w.stack) vs w

abbrev pub split_step : ℕ → ℕ → (ℕ → VLane) → VWarp → Stepped
split_step on off vs w = split_by (not (on == 0) && not (off == 0)) on off vs w

abbrev pub join_step : List Held → (ℕ → VLane) → VWarp → Stepped
join_step [] vs w = trapped trap.JoinEmpty (leader w.mask) w
join_step (Restore mask ∷ rest) vs w = stepped step.Next (suc w.place) mask rest vs
join_step (Else mask place ∷ rest) vs w = stepped step.Next place mask rest vs

-- the warp goes on behind the operation with a mask; the empty mask ends it
abbrev pub ends_or_goes : Bool → Step
ends_or_goes true = step.Ended
ends_or_goes false = step.Next

abbrev pub with_mask : ℕ → (ℕ → VLane) → VWarp → Stepped
with_mask mask vs w = stepped (ends_or_goes (mask == 0)) (suc w.place) mask w.stack vs

-- what a lane chooses at a branch; elsewhere there is nothing to choose
abbrev pub chooses : VOp → (ℕ → ℕ) → Bool
chooses (IfZero a q) rs = value rs a == 0
chooses (IfNot a q) rs = value rs a == 0
chooses (Leaves a q) rs = value rs a == 0
chooses op rs = true

abbrev pub same_choice : Bool → Bool → Bool
same_choice true b = b
same_choice false b = not b

-- an active lane that does not choose what the least one does
abbrev pub disagrees : VOp → VWarp → ℕ → Bool
disagrees op w l = has_lane w.mask l && not (same_choice (chooses op (w.lanes (leader w.mask)).registers) (chooses op (w.lanes l).registers))

abbrev pub lanes_by : Bool → ℕ → (ℕ → VLane) → VWarp → Stepped
lanes_by true stop vs w = trapped trap.Split stop w
lanes_by false stop vs w = stepped step.Next (vs (leader w.mask)).place w.mask w.stack vs

-- an operation that each active lane does by itself: the warp goes where the least one goes, and traps at the least one that goes elsewhere
abbrev pub lanes_step : VOp → (ℕ → VLane) → VWarp → Stepped
lanes_step op vs w = lanes_by (nat_lt (least_below 32 (disagrees op w)) 32) (least_below 32 (disagrees op w)) vs w

-- what an operation makes of a warp, where each active lane has made its own step
abbrev pub warp_op : Crew → VOp → (ℕ → VLane) → VWarp → Stepped
warp_op k (Split a) vs w = split_step (nonzero_lanes w a) (zero_lanes w a) vs w
warp_op k Join vs w = join_step w.stack vs w
warp_op k (Pred a m) vs w = with_mask (pred_mask (nonzero_lanes w a) (cut k.ids.lanes (leader_value w (VariableOf m)))) vs w
warp_op k (Tmc a) vs w =
    with_mask (cut k.ids.lanes (leader_value w a)) (begun (suc w.place) w.mask (cut k.ids.lanes (leader_value w a)) vs) w
warp_op k (Wspawn a q) vs w = stepped (step.Spawn (leader_value w a) q) (suc w.place) w.mask w.stack vs
warp_op k (Bar site) vs w = stepped (step.Wait (site % 16) (k.block 0)) (suc w.place) w.mask w.stack vs
warp_op k (Trap pos) vs w = trapped trap.Break (leader w.mask) w
warp_op k op vs w = lanes_step op vs w

abbrev pub warp_from : Crew → List VOp → (ℕ → ℕ) → VWarp → Stepped
warp_from k [] answers w = trapped trap.Bus (leader w.mask) w
warp_from k (op ∷ ops) answers w = warp_op k op (moved k op answers w) w

-- One step of a warp whose mask is not empty, where what lane l asks for is answered by `answers l`.
abbrev pub warp_step : Crew → List VOp → (ℕ → ℕ) → VWarp → Stepped
warp_step k code answers w = warp_from k (drop w.place code) answers w

-- ---- the start

-- a warp begins at a place, with lane 0 alone; its registers are 0
abbrev pub warp_start : ℕ → VWarp
warp_start place = record {
  place = place;
  mask = 1;
  lanes = λ l. record { place = place; registers = λ r. 0; turns = [] };
  stack = [];
}
