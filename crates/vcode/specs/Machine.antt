-- What a lane of a warp does alone: each branch goes by its own registers, and what a warp does with its lanes together passes it by.
use Rattle.std.specs.Prelude.{ℕ, suc, ◌+◌, ◌==◌, if◌then◌else◌, List, [], ◌∷◌, drop, reverse}
use Rattle.vx_base.specs.Values.{alu_value_of, fitted}
use Rattle.item_acts.specs.declared.acts.Action.TheVariants.{Load, Store, Barrier, Fault, End}
use Rattle.item_acts.specs.declared.acts.Asked.{Asked}
use Rattle.item_acts.specs.declared.acts.Place.{Place}
use Rattle.item_acts.specs.Launches.{put_at}
use Rattle.item_acts.specs.Machine.{Step, Go, Ask, Stop, asked}
use Rattle.item_settings.specs.Settings.{elem_size, low_bytes}
use Rattle.step_machine.specs.Costs.{spent}
use Rattle.step_machine.specs.Stacks.{top, under}
use Rattle.step_machine.specs.Turns.{risen}
use Rattle.kir.specs.Machine.{value}
use Rattle.vx_isa.specs.Warps.{has_lane}
use Rattle.vcode.specs.declared.ops.Csr.{Csr}
use Rattle.vcode.specs.declared.ops.Csr.TheVariants.{LaneNumber, WarpNumber, CoreNumber, MaskNow}
use Rattle.vcode.specs.Code.{VOp, Fresh, Copy, Compute, Cut, Word, WordAt, Learn, Fetch, Write, IfZero, IfNot, Goto, Split, Join, Pred, Tmc, Wspawn, Bar, Trap, Enter, Leaves, Again}

-- What stands around a lane: the words of its launch block, its warp, its number in the warp, and which byte of an array an address names.
pub record Around : Type 0 where
  pub block : ℕ → ℕ
  pub warp : ℕ
  pub number : ℕ
  pub place : ℕ → Place

-- A lane: the place of its next operation, its registers, the numbers of turns of the loops that it is in, the innermost first, and what
-- the control registers of the core and of the mask answer it from now on.
pub record Lane : Type 0 where
  pub place : ℕ
  pub registers : ℕ → ℕ
  pub turns : List ℕ
  pub numbers : List ℕ

abbrev pub lane : ℕ → (ℕ → ℕ) → List ℕ → List ℕ → Lane
lane p rs ts ns = record { place = p; registers = rs; turns = ts; numbers = ns }

-- what a control register answers, and what it leaves of the numbers
abbrev pub learned : Around → Csr → List ℕ → ℕ
learned at LaneNumber ns = at.number
learned at WarpNumber ns = at.warp
learned at CoreNumber ns = top ns
learned at MaskNow ns = top ns

abbrev pub unlearned : Csr → List ℕ → List ℕ
unlearned LaneNumber ns = ns
unlearned WarpNumber ns = ns
unlearned CoreNumber ns = under ns
unlearned MaskNow ns = under ns

-- One step at an operation that stands at a place.
abbrev pub op_step : Around → VOp → ℕ → (ℕ → ℕ) → List ℕ → List ℕ → Step Lane
op_step at Fresh p rs ts ns = Go (lane (suc p) rs ts ns)
op_step at (Copy d a) p rs ts ns = Go (lane (suc p) (put_at d (value rs a) rs) ts ns)
op_step at (Compute d op a b) p rs ts ns = Go (lane (suc p) (put_at d (alu_value_of op (value rs a) (value rs b)) rs) ts ns)
op_step at (Cut d elem a) p rs ts ns = Go (lane (suc p) (put_at d (fitted elem (value rs a)) rs) ts ns)
op_step at (Word d k) p rs ts ns = Go (lane (suc p) (put_at d (at.block k) rs) ts ns)
op_step at (WordAt d a k) p rs ts ns = Go (lane (suc p) (put_at d (at.block (k + value rs a)) rs) ts ns)
op_step at (Learn d csr) p rs ts ns = Go (lane (suc p) (put_at d (learned at csr ns) rs) ts (unlearned csr ns))
op_step at (Fetch d elem a) p rs ts ns = Ask (Load (at.place (value rs a)) (elem_size elem)) (λ answer. lane (suc p) (put_at d (fitted elem answer) rs) ts ns)
op_step at (Write elem a b) p rs ts ns = Ask (Store (at.place (value rs a)) (elem_size elem) (low_bytes elem (value rs b))) (λ answer. lane (suc p) rs ts ns)
op_step at (IfZero a q) p rs ts ns = Go (lane (if value rs a == 0 then q else suc p) rs ts ns)
op_step at (IfNot a q) p rs ts ns = Go (lane (if value rs a == 0 then suc p else q) rs ts ns)
op_step at (Goto q) p rs ts ns = Go (lane q rs ts ns)
op_step at (Split a) p rs ts ns = Go (lane (suc p) rs ts ns)
op_step at Join p rs ts ns = Go (lane (suc p) rs ts ns)
op_step at (Pred a m) p rs ts ns = Go (lane (suc p) rs ts ns)
op_step at (Tmc a) p rs ts ns = if has_lane (value rs a) at.number then Go (lane (suc p) rs ts ns) else Stop End
op_step at (Wspawn a q) p rs ts ns = Go (lane (suc p) rs ts ns)
op_step at (Bar site) p rs ts ns = Ask (Barrier (record { site = site; turns = reverse ts })) (λ answer. lane (suc p) rs ts ns)
op_step at (Trap pos) p rs ts ns = Stop (Fault pos)
op_step at Enter p rs ts ns = Go (lane (suc p) rs (0 ∷ ts) ns)
op_step at (Leaves a q) p rs ts ns = Go (if value rs a == 0 then lane q rs (under ts) ns else lane (suc p) rs ts ns)
op_step at (Again q) p rs ts ns = Go (lane q rs (risen ts) ns)

-- One step, by the operations from the lane's place on. A lane behind the last operation asks for its end.
abbrev pub step_from : Around → List VOp → ℕ → (ℕ → ℕ) → List ℕ → List ℕ → Step Lane
step_from at [] p rs ts ns = Stop End
step_from at (op ∷ ops) p rs ts ns = op_step at op p rs ts ns

abbrev pub step : Around → List VOp → Lane → Step Lane
step at code s = step_from at (drop s.place code) s.place s.registers s.turns s.numbers

-- ---- the cost of a step: how many turns of loops it begins

abbrev pub op_cost : VOp → (ℕ → ℕ) → ℕ
op_cost (Leaves a q) rs = if value rs a == 0 then 0 else 1
op_cost op rs = 0

abbrev pub cost_from : List VOp → (ℕ → ℕ) → ℕ
cost_from [] rs = 0
cost_from (op ∷ ops) rs = op_cost op rs

abbrev pub cost : List VOp → Lane → ℕ
cost code s = cost_from (drop s.place code) s.registers

-- ---- runs of a lane alone

-- the lane before its first operation: its registers are 0, and it is in no loop
abbrev pub lane_start : List ℕ → Lane
lane_start numbers = lane 0 (λ r. 0) [] numbers

-- what it asks for once it has taken these answers, if at most so many steps from its start lead there
abbrev pub lane_asks : Around → List VOp → List ℕ → List ℕ → ℕ → Asked
lane_asks at code numbers answers fuel = asked (step at code) fuel (lane_start numbers) answers

-- how many turns of loops it begins in its first steps
abbrev pub lane_begun : Around → List VOp → List ℕ → List ℕ → ℕ → ℕ
lane_begun at code numbers answers fuel = spent (step at code) (cost code) fuel (lane_start numbers) answers
