-- A lowered kernel, by computation: four lanes in a loop that they leave one by one, with a barrier and a branch that parts them in it, and
-- behind it a check that fails in the last lane. Before each step: the place, the active lanes, and the number of entries of the stack.
use Rattle.std.proofs.Common.{◌≡◌, ℕ, zero, suc, false, List, [], ◌∷◌, map, length, refl}
use Rattle.std.specs.Prelude.{slice_index, slice_index_or}
use Rattle.item_acts.specs.declared.acts.Place.TheVariants.{Global}
use Rattle.vx_base.specs.declared.types.Alu.TheVariants.{Add, Sltu}
use Rattle.vx_base.specs.declared.types.Elem.TheVariants.{Uint}
use Rattle.vx_base.specs.declared.types.Pos.{Pos}
use Rattle.ocl_program.specs.declared.exprs.ArrayRef.TheVariants.{Declared}
use Rattle.kir.specs.Trees.{VariableOf, NumberOf, Set, Calculate, Check, Barrier, If, Loop, Ops, NoOps, AndOp}
use Rattle.vx_isa.specs.Warps.{lanes_below, least_below}
use Rattle.vx_isa.specs.declared.warps.MachineTrap.TheVariants.{Break}
use Rattle.vx_isa.specs.declared.warps.Step.TheVariants as step
use Rattle.vcode.specs.Code.{VOp, Tmc}
use Rattle.simt_lowering.specs.Lowered.{Known, lowered}
use Rattle.warp_code.specs.Warps.{Crew, VLane, VWarp, warp_step}

abbrev crew : Crew
crew = record { ids = record { core = 0; warp = 0; lanes = 4 }; block = slice_index (2 ∷ []); places = λ l address. Global 0 address }

abbrev known : Known
known = record { marks = λ r. false; params = []; arrays = record { elem = Uint; count = 3 } ∷ []; variables = 4 }

abbrev fault : Pos
fault = record { line = 9; col = 9 }

-- variable 0 is the lane's number, 1 counts turns, 2 is the test of the loop, and 3 that of the branch
abbrev ops : Ops
ops =
    AndOp (Loop (AndOp (Calculate 2 Sltu (VariableOf 1) (VariableOf 0)) NoOps) (VariableOf 2)
    (AndOp (Barrier 5) (AndOp (Calculate 3 Sltu (VariableOf 0) (NumberOf 2)) (AndOp (If (VariableOf 3) (AndOp (Set 3 (NumberOf 7)) NoOps) NoOps) NoOps)))
    (AndOp (Calculate 1 Add (VariableOf 1) (NumberOf 1)) NoOps))
    (AndOp (Check (Declared 0) (VariableOf 0) fault) NoOps)

abbrev code : List VOp
code = lowered known 0 ops 0 (Tmc (NumberOf 0) ∷ [])

-- the registers of the lanes in a table
abbrev lane_in : VLane → VLane
lane_in v =
    let values : List ℕ =
    v.registers 0 ∷ v.registers 1 ∷ v.registers 2 ∷ v.registers 3 ∷ v.registers 4 ∷ v.registers 5 ∷ v.registers 6 ∷ v.registers 7 ∷ v.registers 8 ∷ v.registers 9
    ∷ v.registers 10 ∷ v.registers 11 ∷ v.registers 12 ∷ [] in
    record { place = v.place; registers = slice_index values; turns = v.turns }

abbrev lanes_in : (ℕ → VLane) → List VLane
lanes_in vs = lane_in (vs 0) ∷ lane_in (vs 1) ∷ lane_in (vs 2) ∷ lane_in (vs 3) ∷ []

abbrev with_lanes : List VLane → VWarp → VWarp
with_lanes table w = record w { lanes = λ l. slice_index_or table l (record { place = 0; registers = λ r. 0; turns = [] }) }

abbrev next : VWarp → VWarp
next w = let after : VWarp = (warp_step crew code (λ l. 0) w).warp in with_lanes (lanes_in after.lanes) after

abbrev numbered : ℕ → VLane
numbered l = record { place = 0; registers = slice_index (l ∷ []); turns = [] }

abbrev start : VWarp
start = record { place = 0; mask = 15; lanes = numbered; stack = [] }

abbrev rows : ℕ → VWarp → List (List ℕ)
rows zero w = []
rows (suc n) w = (w.place ∷ w.mask ∷ length w.stack ∷ []) ∷ rows n (next w)

abbrev steps : ℕ → VWarp → VWarp
steps zero w = w
steps (suc n) w = steps n (next w)

row_of_kernel : rows 47 start
    ≡ (0 ∷ 15 ∷ 0 ∷ []) ∷ (1 ∷ 15 ∷ 0 ∷ []) ∷ (2 ∷ 15 ∷ 0 ∷ []) ∷ (4 ∷ 15 ∷ 0 ∷ []) ∷ (5 ∷ 15 ∷ 0 ∷ []) ∷ (6 ∷ 14 ∷ 0 ∷ []) ∷ (7 ∷ 14 ∷ 0 ∷ []) ∷ (8 ∷ 14 ∷ 0 ∷ []) ∷ (9 ∷ 14 ∷ 0 ∷ [])
    ∷ (10 ∷ 2 ∷ 2 ∷ []) ∷ (11 ∷ 2 ∷ 2 ∷ []) ∷ (12 ∷ 2 ∷ 2 ∷ []) ∷ (13 ∷ 2 ∷ 2 ∷ []) ∷ (10 ∷ 12 ∷ 1 ∷ []) ∷ (13 ∷ 12 ∷ 1 ∷ []) ∷ (14 ∷ 14 ∷ 0 ∷ []) ∷ (3 ∷ 14 ∷ 0 ∷ []) ∷ (4 ∷ 14 ∷ 0 ∷ [])
    ∷ (5 ∷ 14 ∷ 0 ∷ []) ∷ (6 ∷ 12 ∷ 0 ∷ []) ∷ (7 ∷ 12 ∷ 0 ∷ []) ∷ (8 ∷ 12 ∷ 0 ∷ []) ∷ (9 ∷ 12 ∷ 0 ∷ []) ∷ (10 ∷ 12 ∷ 1 ∷ []) ∷ (13 ∷ 12 ∷ 1 ∷ []) ∷ (14 ∷ 12 ∷ 0 ∷ []) ∷ (3 ∷ 12 ∷ 0 ∷ [])
    ∷ (4 ∷ 12 ∷ 0 ∷ []) ∷ (5 ∷ 12 ∷ 0 ∷ []) ∷ (6 ∷ 8 ∷ 0 ∷ []) ∷ (7 ∷ 8 ∷ 0 ∷ []) ∷ (8 ∷ 8 ∷ 0 ∷ []) ∷ (9 ∷ 8 ∷ 0 ∷ []) ∷ (10 ∷ 8 ∷ 1 ∷ []) ∷ (13 ∷ 8 ∷ 1 ∷ []) ∷ (14 ∷ 8 ∷ 0 ∷ [])
    ∷ (3 ∷ 8 ∷ 0 ∷ []) ∷ (4 ∷ 8 ∷ 0 ∷ []) ∷ (5 ∷ 8 ∷ 0 ∷ []) ∷ (6 ∷ 15 ∷ 0 ∷ []) ∷ (15 ∷ 15 ∷ 0 ∷ []) ∷ (16 ∷ 15 ∷ 0 ∷ []) ∷ (17 ∷ 15 ∷ 0 ∷ []) ∷ (18 ∷ 7 ∷ 2 ∷ []) ∷ (20 ∷ 7 ∷ 2 ∷ [])
    ∷ (18 ∷ 8 ∷ 1 ∷ []) ∷ (19 ∷ 8 ∷ 1 ∷ []) ∷ []
unfolding lanes_below least_below
row_of_kernel = refl

-- at the second barrier all active lanes have begun their second turn
turns_at_barrier : map (λ (v : VLane). v.turns) (lanes_in (steps 20 start).lanes) ≡ (0 ∷ []) ∷ (1 ∷ []) ∷ (1 ∷ []) ∷ (1 ∷ []) ∷ []
unfolding lanes_below least_below
turns_at_barrier = refl

-- the barrier waits for the two warps of the group, in each turn, however many lanes ask for it
waits_for_warps : (warp_step crew code (λ l. 0) (steps 6 start)).outcome ≡ step.Wait 5 2
unfolding lanes_below least_below
waits_for_warps = refl

waits_again : (warp_step crew code (λ l. 0) (steps 20 start)).outcome ≡ step.Wait 5 2
unfolding lanes_below least_below
waits_again = refl

-- the check traps by the only lane whose index is not below the count
traps_last : (warp_step crew code (λ l. 0) (steps 46 start)).outcome ≡ step.Trap Break 3 19
unfolding lanes_below least_below
traps_last = refl
