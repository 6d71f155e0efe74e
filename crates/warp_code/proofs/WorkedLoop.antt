-- A warp of four lanes through a loop that they leave at different turns, by computation: lane l makes l turns. The place, the active lanes
-- and the number of entries of the stack before each step, and the turns that the lanes made.
use Rattle.std.proofs.Common.{◌≡◌, ℕ, zero, suc, List, [], ◌∷◌, map, length, refl}
use Rattle.std.specs.Prelude.{slice_index, slice_index_or}
use Rattle.item_acts.specs.declared.acts.Place.TheVariants.{Global}
use Rattle.vx_base.specs.declared.types.Alu.TheVariants.{Add, Sltu}
use Rattle.kir.specs.Trees.{VariableOf, NumberOf}
use Rattle.vx_isa.specs.Warps.{lanes_below, least_below}
use Rattle.vcode.specs.declared.ops.Csr.TheVariants.{LaneNumber, MaskNow}
use Rattle.vcode.specs.Code.{VOp, Compute, Learn, Pred, Tmc, Enter, Leaves, Again}
use Rattle.warp_code.specs.Warps.{Crew, VLane, VWarp, warp_step, warp_start}

abbrev crew : Crew
crew = record { ids = record { core = 0; warp = 0; lanes = 4 }; block = λ n. 0; places = λ l address. Global 0 address }

-- register 0 is the lane's number, register 1 whether it makes another turn, register 2 counts its turns, register 3 is the mask before the loop
abbrev code : List VOp
code =
    Learn 0 LaneNumber ∷ Learn 3 MaskNow ∷ Enter ∷ Compute 1 Sltu (VariableOf 2) (VariableOf 0) ∷ Pred (VariableOf 1) 3
    ∷ Leaves (VariableOf 1) 8 ∷ Compute 2 Add (VariableOf 2) (NumberOf 1) ∷ Again 3 ∷ Tmc (NumberOf 0) ∷ []

-- the first four registers of the first four lanes in a table
abbrev lane_in : VLane → VLane
lane_in v =
    let values : List ℕ = v.registers 0 ∷ v.registers 1 ∷ v.registers 2 ∷ v.registers 3 ∷ [] in
    record { place = v.place; registers = slice_index values; turns = v.turns }

abbrev lanes_in : (ℕ → VLane) → List VLane
lanes_in vs = lane_in (vs 0) ∷ lane_in (vs 1) ∷ lane_in (vs 2) ∷ lane_in (vs 3) ∷ []

abbrev with_lanes : List VLane → VWarp → VWarp
with_lanes table w = record w { lanes = λ l. slice_index_or table l (record { place = 0; registers = λ r. 0; turns = [] }) }

abbrev next : VWarp → VWarp
next w = let after : VWarp = (warp_step crew code (λ l. 0) w).warp in with_lanes (lanes_in after.lanes) after

-- all four lanes, at the first operation
abbrev start : VWarp
start = record (warp_start 0) { mask = 15 }

abbrev rows : ℕ → VWarp → List (List ℕ)
rows zero w = []
rows (suc n) w = (w.place ∷ w.mask ∷ length w.stack ∷ []) ∷ rows n (next w)

abbrev steps : ℕ → VWarp → VWarp
steps zero w = w
steps (suc n) w = steps n (next w)

row_of_loop : rows 23 start
    ≡ (0 ∷ 15 ∷ 0 ∷ []) ∷ (1 ∷ 15 ∷ 0 ∷ []) ∷ (2 ∷ 15 ∷ 0 ∷ []) ∷ (3 ∷ 15 ∷ 0 ∷ []) ∷ (4 ∷ 15 ∷ 0 ∷ []) ∷ (5 ∷ 14 ∷ 0 ∷ []) ∷ (6 ∷ 14 ∷ 0 ∷ []) ∷ (7 ∷ 14 ∷ 0 ∷ [])
    ∷ (3 ∷ 14 ∷ 0 ∷ []) ∷ (4 ∷ 14 ∷ 0 ∷ []) ∷ (5 ∷ 12 ∷ 0 ∷ []) ∷ (6 ∷ 12 ∷ 0 ∷ []) ∷ (7 ∷ 12 ∷ 0 ∷ []) ∷ (3 ∷ 12 ∷ 0 ∷ []) ∷ (4 ∷ 12 ∷ 0 ∷ []) ∷ (5 ∷ 8 ∷ 0 ∷ [])
    ∷ (6 ∷ 8 ∷ 0 ∷ []) ∷ (7 ∷ 8 ∷ 0 ∷ []) ∷ (3 ∷ 8 ∷ 0 ∷ []) ∷ (4 ∷ 8 ∷ 0 ∷ []) ∷ (5 ∷ 15 ∷ 0 ∷ []) ∷ (8 ∷ 15 ∷ 0 ∷ []) ∷ (9 ∷ 0 ∷ 0 ∷ []) ∷ []
unfolding lanes_below least_below
row_of_loop = refl

turns_at_end : map (λ (v : VLane). v.registers 2) (lanes_in (steps 21 start).lanes) ≡ 0 ∷ 1 ∷ 2 ∷ 3 ∷ []
unfolding lanes_below least_below
turns_at_end = refl
