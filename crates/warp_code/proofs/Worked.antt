-- A warp of four lanes through a branch that parts them, with a loop on one side that all its lanes leave together, by computation: the
-- place, the active lanes and the number of entries of the stack before each step, and the values that the lanes end with.
use Rattle.std.proofs.Common.{◌≡◌, ℕ, zero, suc, List, [], ◌∷◌, map, length, refl}
use Rattle.std.specs.Prelude.{slice_index, slice_index_or}
use Rattle.item_acts.specs.declared.acts.Place.TheVariants.{Global}
use Rattle.vx_base.specs.declared.types.Alu.TheVariants.{Add, Sltu}
use Rattle.kir.specs.Trees.{VariableOf, NumberOf}
use Rattle.vx_isa.specs.Warps.{lanes_below, least_below}
use Rattle.vcode.specs.declared.ops.Csr.TheVariants.{LaneNumber}
use Rattle.vcode.specs.Code.{VOp, Copy, Compute, Learn, IfZero, Goto, Split, Join, Tmc, Enter, Leaves, Again}
use Rattle.warp_code.specs.Warps.{Crew, VLane, VWarp, warp_step, warp_start}

abbrev crew : Crew
crew = record { ids = record { core = 0; warp = 0; lanes = 4 }; block = λ n. 0; places = λ l address. Global 0 address }

-- register 0 is the lane's number, register 1 whether it is below 2, register 2 counts a turn, register 3 is what the lane ends with
abbrev code : List VOp
code =
    Learn 0 LaneNumber ∷ Compute 1 Sltu (VariableOf 0) (NumberOf 2) ∷ Split (VariableOf 1) ∷ IfZero (VariableOf 1) 11
    ∷ Copy 2 (NumberOf 1) ∷ Enter ∷ Leaves (VariableOf 2) 10 ∷ Copy 2 (NumberOf 0) ∷ Compute 3 Add (VariableOf 0) (NumberOf 5) ∷ Again 6
    ∷ Goto 12 ∷ Copy 3 (NumberOf 7) ∷ Join ∷ Tmc (NumberOf 0) ∷ []

-- the first four registers of the first four lanes in a table
abbrev lane_in : VLane → VLane
lane_in v =
    let values : List ℕ = v.registers 0 ∷ v.registers 1 ∷ v.registers 2 ∷ v.registers 3 ∷ [] in
    record { place = v.place; registers = slice_index values; turns = v.turns }

abbrev lanes_in : (ℕ → VLane) → List VLane
lanes_in vs = lane_in (vs 0) ∷ lane_in (vs 1) ∷ lane_in (vs 2) ∷ lane_in (vs 3) ∷ []

abbrev with_lanes : List VLane → VWarp → VWarp
with_lanes table w = record w { lanes = λ l. slice_index_or table l (record { place = 0; registers = λ r. 0; turns = [] }) }

abbrev next : VWarp → VWarp
next w = let after : VWarp = (warp_step crew code (λ l. 0) w).warp in with_lanes (lanes_in after.lanes) after

-- all four lanes, at the first operation
abbrev start : VWarp
start = record (warp_start 0) { mask = 15 }

abbrev rows : ℕ → VWarp → List (List ℕ)
rows zero w = []
rows (suc n) w = (w.place ∷ w.mask ∷ length w.stack ∷ []) ∷ rows n (next w)

abbrev steps : ℕ → VWarp → VWarp
steps zero w = w
steps (suc n) w = steps n (next w)

row_of_branch : rows 18 start
    ≡ (0 ∷ 15 ∷ 0 ∷ []) ∷ (1 ∷ 15 ∷ 0 ∷ []) ∷ (2 ∷ 15 ∷ 0 ∷ []) ∷ (3 ∷ 3 ∷ 2 ∷ []) ∷ (4 ∷ 3 ∷ 2 ∷ []) ∷ (5 ∷ 3 ∷ 2 ∷ []) ∷ (6 ∷ 3 ∷ 2 ∷ []) ∷ (7 ∷ 3 ∷ 2 ∷ [])
    ∷ (8 ∷ 3 ∷ 2 ∷ []) ∷ (9 ∷ 3 ∷ 2 ∷ []) ∷ (6 ∷ 3 ∷ 2 ∷ []) ∷ (10 ∷ 3 ∷ 2 ∷ []) ∷ (12 ∷ 3 ∷ 2 ∷ []) ∷ (3 ∷ 12 ∷ 1 ∷ []) ∷ (11 ∷ 12 ∷ 1 ∷ []) ∷ (12 ∷ 12 ∷ 1 ∷ [])
    ∷ (13 ∷ 15 ∷ 0 ∷ []) ∷ (14 ∷ 0 ∷ 0 ∷ []) ∷ []
unfolding lanes_below least_below
row_of_branch = refl

values_at_end : map (λ (v : VLane). v.registers 3) (lanes_in (steps 17 start).lanes) ≡ 5 ∷ 6 ∷ 7 ∷ 7 ∷ []
unfolding lanes_below least_below
values_at_end = refl
