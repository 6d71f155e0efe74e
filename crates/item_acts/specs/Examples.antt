-- Small launches, and what is true of them.
use Rattle.std.specs.Prelude.{ℕ, ◌+◌, nat_eq, if◌then◌else◌, List, [], ◌∷◌, slice_index_or}
use Rattle.vx_base.specs.declared.types.Size.TheVariants.{One}
use Rattle.item_acts.specs.declared.acts.Place.TheVariants.{Global}
use Rattle.item_acts.specs.declared.acts.Point.{Point}
use Rattle.item_acts.specs.declared.acts.Action.{Action}
use Rattle.item_acts.specs.declared.acts.Action.TheVariants.{Load, Store, Barrier, End}
use Rattle.item_acts.specs.declared.acts.Asked.{Asked}
use Rattle.item_acts.specs.declared.acts.Asked.TheVariants.{Act, Running}
use Rattle.item_acts.specs.Launches.{Launch, start, Turn, Allowed, run, IsComplete}
use Rattle.item_acts.specs.Tame.{log_of, HasRace}

-- what an item asks for that asks for some actions in turn, whatever it is told, and then for its end
abbrev pub asked_in_turn : List Action → List ℕ → Asked
asked_in_turn [] [] = Act End
asked_in_turn [] (answer ∷ answers) = Running
asked_in_turn (a ∷ more) [] = Act a
asked_in_turn (a ∷ more) (answer ∷ answers) = asked_in_turn more answers

-- a launch of some items, in groups of so many, over a buffer of four bytes: each item asks for its actions in turn
abbrev pub in_turn : ℕ → ℕ → (ℕ → List Action) → Launch
in_turn items local actions = record {
  items = items;
  local = local;
  asks = λ item answers n. asked_in_turn (actions item) answers;
  buffers = 4 ∷ [];
  locals = [];
}

-- each byte of the buffers is 5
abbrev pub fives : ℕ → ℕ → ℕ
fives buffer byte = 5

-- to load a byte of the first buffer
abbrev pub loads : ℕ → Action
loads byte = Load (Global 0 byte) One

-- to store a number in one
abbrev pub stores : ℕ → ℕ → Action
stores byte value = Store (Global 0 byte) One value

-- a barrier outside of loops
abbrev pub barrier_at : ℕ → Point
barrier_at site = record { site = site; turns = [] }

-- three items of which each stores to a byte of its own
abbrev pub own_bytes : Launch
own_bytes = in_turn 3 1 (λ item. stores item (item + 7) ∷ [])

-- two items, in groups of so many, that store to one byte
abbrev pub one_byte : ℕ → Launch
one_byte local = in_turn 2 local (λ item. stores 0 item ∷ [])

-- two items that load one byte
abbrev pub both_load : Launch
both_load = in_turn 2 1 (λ item. loads 0 ∷ [])

-- a group of two items: one stores a byte before a barrier, and the other the same byte behind it
abbrev pub barred : Launch
barred = in_turn 2 2 (λ item. if nat_eq item 0 then stores 0 3 ∷ Barrier (barrier_at 1) ∷ [] else Barrier (barrier_at 1) ∷ stores 0 4 ∷ [])

-- two items, of which one waits at a barrier, and the other stores a byte and ends
abbrev pub one_waits : ℕ → Launch
one_waits local = in_turn 2 local (λ item. if nat_eq item 0 then Barrier (barrier_at 1) ∷ [] else stores 0 4 ∷ [])

-- from fives these turns may come, and their log has a race
abbrev pub Races : Launch → List Turn → Type 0
Races l turns = Allowed l (start fives) turns × HasRace (log_of l (start fives) turns)

-- from fives these turns may come, and their log has no race
abbrev pub RacesNot : Launch → List Turn → Type 0
RacesNot l turns = Allowed l (start fives) turns × (HasRace (log_of l (start fives) turns) → ⊥)

-- an interleaving that leaves no item before its end
abbrev pub Completes : Launch → List Turn → Type 0
Completes l turns = Allowed l (start fives) turns × IsComplete l (run l (start fives) turns)

-- the first three bytes of the first buffer are 7, 8 and 9, and each other byte is still 5
abbrev pub seven_eight_nine : ℕ → ℕ → ℕ
seven_eight_nine buffer byte = if nat_eq buffer 0 then slice_index_or (7 ∷ 8 ∷ 9 ∷ []) byte 5 else 5

-- the first byte of the first buffer is 1, and each other byte is still 5
abbrev pub one_first : ℕ → ℕ → ℕ
one_first buffer byte = if nat_eq buffer 0 then slice_index_or (1 ∷ []) byte 5 else 5
