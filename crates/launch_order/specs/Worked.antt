-- Small launches with the events of their cores.
use Rattle.std.specs.Prelude.{ℕ, zero, suc, nat_eq, if◌then◌else◌, List, [], ◌∷◌, slice_index_or}
use Rattle.vx_base.specs.declared.types.Pos.{Pos}
use Rattle.vx_base.specs.declared.types.Size.TheVariants.{One}
use Rattle.item_acts.specs.declared.acts.Place.TheVariants.{Global}
use Rattle.item_acts.specs.declared.acts.Action.{Action}
use Rattle.item_acts.specs.declared.acts.Action.TheVariants.{Barrier, Fault}
use Rattle.item_acts.specs.Launches.{Launch, is_in_group}
use Rattle.item_acts.specs.Examples.{in_turn, loads, stores, barrier_at}
use Rattle.launch_order.specs.Events.{Loaded, Stored, Finished, Happening, Did, Released, Event, CoreEnd, AllDone, AtFault, Stuck}

-- this happened at this place
abbrev pub at : ℕ → Happening → Event
at place what = record { place = place; what = what }

-- Two groups of two items. In each the first item stores a byte and waits, and the second waits and loads that byte.
abbrev pub handed_by : ℕ → List Action
handed_by zero = stores 0 7 ∷ Barrier (barrier_at 1) ∷ []
handed_by (suc zero) = Barrier (barrier_at 1) ∷ loads 0 ∷ []
handed_by (suc (suc zero)) = stores 2 9 ∷ Barrier (barrier_at 1) ∷ []
handed_by (suc (suc (suc item))) = Barrier (barrier_at 1) ∷ loads 2 ∷ []

abbrev pub handed : Launch
handed = in_turn 4 2 handed_by

-- each group on a core of its own, with stores at one place
abbrev pub handed_events : ℕ → List Event
handed_events zero = at 1 (Did 0 (Stored (Global 0 0) One 7)) ∷ at 1 (Released 0 (is_in_group handed 0)) ∷ at 2 (Did 1 (Loaded (Global 0 0) One 7))
    ∷ at 2 (Did 0 Finished) ∷ at 2 (Did 1 Finished) ∷ []
handed_events (suc core) = at 1 (Did 2 (Stored (Global 0 2) One 9)) ∷ at 3 (Released 1 (is_in_group handed 1)) ∷ at 3 (Did 2 Finished)
    ∷ at 4 (Did 3 (Loaded (Global 0 2) One 9)) ∷ at 5 (Did 3 Finished) ∷ []

-- the bytes behind it: 7, 5 and 9, and each other byte is still 5
abbrev pub handed_left : ℕ → ℕ → ℕ
handed_left buffer byte = if nat_eq buffer 0 then slice_index_or (7 ∷ 5 ∷ 9 ∷ []) byte 5 else 5

-- each core is done
abbrev pub all_done : ℕ → CoreEnd
all_done core = AllDone

abbrev pub worked_pos : Pos
worked_pos = record { line = 3; col = 4 }

-- an item that stores a byte and stops at a fault
abbrev pub halted : Launch
halted = in_turn 1 1 (λ item. stores 0 7 ∷ Fault worked_pos ∷ [])

-- its core has done the store
abbrev pub halted_events : ℕ → List Event
halted_events core = at 1 (Did 0 (Stored (Global 0 0) One 7)) ∷ []

abbrev pub at_worked_fault : ℕ → CoreEnd
at_worked_fault core = AtFault 0 worked_pos

-- the first byte behind it is 7
abbrev pub seven_first : ℕ → ℕ → ℕ
seven_first buffer byte = if nat_eq buffer 0 then slice_index_or (7 ∷ []) byte 5 else 5

-- of two items of a group one waits at a barrier; the other stores a byte and ends, and the core is stuck
abbrev pub stuck_events : ℕ → List Event
stuck_events core = at 1 (Did 1 (Stored (Global 0 0) One 4)) ∷ at 1 (Did 1 Finished) ∷ []

abbrev pub all_stuck : ℕ → CoreEnd
all_stuck core = Stuck

-- the first byte behind it is 4
abbrev pub four_first : ℕ → ℕ → ℕ
four_first buffer byte = if nat_eq buffer 0 then slice_index_or (4 ∷ []) byte 5 else 5
