-- What is known of each core's events, on what the core itself has seen of the launch, and of its end.
use Rattle.std.specs.Prelude.{◌≡◌, ◌≢◌, ℕ, ◌*◌, ◌<◌, ◌≤◌, Bool, true, false, ◌⊎◌, List, [], ◌∷◌, ◌++◌, slice_index}
use Rattle.vx_base.specs.Bytes.{bytes_of}
use Rattle.vx_base.specs.declared.types.Pos.{Pos}
use Rattle.item_acts.specs.declared.acts.Place.{Place}
use Rattle.item_acts.specs.declared.acts.Place.TheVariants.{Global}
use Rattle.item_acts.specs.declared.acts.Point.{Point}
use Rattle.item_acts.specs.declared.acts.Action.TheVariants.{Barrier, Fault}
use Rattle.item_acts.specs.Launches.{Launch, ItemAsks, group_of, is_in_group, State, Going, Ended, start, covers, field_at, Waits}
use Rattle.item_acts.specs.Tame.{IsApart}
use Rattle.launch_order.specs.Events.{Deed, Loaded, Stored, Finished, action_of, Happening, Did, Released, Event, CoreEnd, AllDone, AtFault, Stuck, led, NeverFall, stores}

-- each of these events that stores the byte has at least this place
abbrev pub StoresFrom : ℕ → Place → List Event → Type 0
StoresFrom place byte [] = Unit {0}
StoresFrom place byte (e ∷ events) = (stores e.what byte ≡ true → place ≤ e.place) × StoresFrom place byte events

-- each store of another core to the byte has at least this place
abbrev pub IsClear : ℕ → (ℕ → List Event) → ℕ → ℕ → Place → Type 0
IsClear cores events core place byte = (other : ℕ) → other < cores → other ≢ core → StoresFrom place byte (events other)

-- none of these events stores the byte
abbrev pub StoreNot : Place → List Event → Type 0
StoreNot byte [] = Unit {0}
StoreNot byte (e ∷ events) = (stores e.what byte ≡ false) × StoreNot byte events

-- no other core stores the byte
abbrev pub IsUnshared : ℕ → (ℕ → List Event) → ℕ → Place → Type 0
IsUnshared cores events core byte = (other : ℕ) → other < cores → other ≢ core → StoreNot byte (events other)

-- Where each byte of a field is clear at an event's place, the answer is the number that the core itself has there.
abbrev pub AnswersOwn : ℕ → (ℕ → List Event) → State → ℕ → ℕ → Deed → Type 0
AnswersOwn cores events own core place (Loaded field size answer) =
    ((byte : Place) → covers field (bytes_of size) byte ≡ true → IsClear cores events core place byte)
    → answer ≡ field_at own.bytes field (bytes_of size)
AnswersOwn cores events own core place (Stored field size value) = Unit {0}
AnswersOwn cores events own core place Finished = Unit {0}

-- an item of the core did what it asked for, by what the core has seen
pub record ItemDid (l : Launch) (cores : ℕ) (events : ℕ → List Event) (core_of : ℕ → ℕ) (core : ℕ) (own : State) (place item : ℕ) (deed : Deed) : Type 0 where
  pub exists : item < l.items
  pub here : core_of (group_of l item) ≡ core
  pub going : own.standing item ≡ Going
  pub asks : ItemAsks l item (own.answers item) (action_of deed)
  pub answer : AnswersOwn cores events own core place deed

-- whatever more the item is told, it never asks for this barrier
abbrev pub NeverAgain : Launch → State → ℕ → Point → Type 0
NeverAgain l own item point = (more : List ℕ) → ItemAsks l item (own.answers item ++ more) (Barrier point) → ⊥

-- the item stood at a barrier and waits there
pub record StoodAt (l : Launch) (own : State) (stood : ℕ → Bool) (item : ℕ) : Type 0 where
  pub present : stood item ≡ true
  pub point : Point
  pub waits : Waits l own item point

-- The item did not stand there: another one of its group waits at a barrier to which the item will never come.
pub record LeftOut (l : Launch) (own : State) (stood : ℕ → Bool) (item : ℕ) : Type 0 where
  pub absent : stood item ≡ false
  pub other : ℕ
  pub exists : other < l.items
  pub together : group_of l other ≡ group_of l item
  pub point : Point
  pub waits : Waits l own other point
  pub never : NeverAgain l own item point

-- a group of the core was released: only items of the group stood there, and each of them stood or was left out
pub record GroupReleased (l : Launch) (core_of : ℕ → ℕ) (core : ℕ) (own : State) (group : ℕ) (stood : ℕ → Bool) : Type 0 where
  pub exists : group * l.local < l.items
  pub here : core_of group ≡ core
  pub inside : (item : ℕ) → stood item ≡ true → is_in_group l group item ≡ true
  pub each : (item : ℕ) → item < l.items → group_of l item ≡ group → StoodAt l own stood item ⊎ LeftOut l own stood item

-- Of one warp of a group: some item of it stood, those that stood wait at one point, and the others never come to it.
pub record WarpWaits (l : Launch) (own : State) (stood : ℕ → Bool) (group : ℕ) (warp_of : ℕ → ℕ) (warp : ℕ) : Type 0 where
  pub point : Point
  pub some : ℕ
  pub exists : some < l.items
  pub inside : group_of l some ≡ group
  pub carried : warp_of some ≡ warp
  pub present : stood some ≡ true
  pub waits : (item : ℕ) → item < l.items → group_of l item ≡ group → warp_of item ≡ warp → stood item ≡ true → Waits l own item point
  pub never : (item : ℕ) → item < l.items → group_of l item ≡ group → warp_of item ≡ warp → stood item ≡ false → NeverAgain l own item point

-- what an event of a core says, on what the core has seen before it
abbrev pub IsSound : Launch → ℕ → (ℕ → List Event) → (ℕ → ℕ) → ℕ → State → ℕ → Happening → Type 0
IsSound l cores events core_of core own place (Did item deed) = ItemDid l cores events core_of core own place item deed
IsSound l cores events core_of core own place (Released group stood) = GroupReleased l core_of core own group stood

-- an item of the core goes on and asks for this fault, by what the core has seen
pub record IsAtFault (l : Launch) (core_of : ℕ → ℕ) (core : ℕ) (own : State) (item : ℕ) (pos : Pos) : Type 0 where
  pub exists : item < l.items
  pub here : core_of (group_of l item) ≡ core
  pub going : own.standing item ≡ Going
  pub asks : ItemAsks l item (own.answers item) (Fault pos)

-- two items of one group of the core do not meet, by what the core has seen
pub record IsApartHere (l : Launch) (core_of : ℕ → ℕ) (core : ℕ) (own : State) : Type 0 where
  pub apart : IsApart l own
  pub here : core_of (group_of l apart.waiting) ≡ core

-- the item has ended on the core of its group
pub record HasEndedThere (l : Launch) (given : ℕ → ℕ → ℕ) (cores : ℕ) (events : ℕ → List Event) (core_of : ℕ → ℕ) (item : ℕ) : Type 0 where
  pub exists : core_of (group_of l item) < cores
  pub ended : (led (start given) (events (core_of (group_of l item)))).standing item ≡ Ended

-- What is known of a launch over the given bytes of the buffers, of which some cores made these events and came to these
-- ends, and behind which the buffers have these final bytes. Each group belongs to one core. Nothing here compares what
-- one core has seen with what another has seen but the places of stores.
pub record CoreEvents (l : Launch) (given final : ℕ → ℕ → ℕ) (cores : ℕ) (events : ℕ → List Event) (ends : ℕ → CoreEnd) : Type 0 where
  pub core_of : ℕ → ℕ
  pub some : 0 < cores
  pub rising : (core : ℕ) → core < cores → NeverFall 0 (events core)
  pub sound : (core : ℕ) → core < cores → (before behind : List Event) (e : Event) → events core ≡ before ++ e ∷ behind
      → IsSound l cores events core_of core (led (start given) before) e.place e.what
  pub final_own : (core : ℕ) → core < cores → (buffer byte : ℕ) → byte < slice_index l.buffers buffer
      → IsUnshared cores events core (Global buffer byte)
      → final buffer byte ≡ (led (start given) (events core)).bytes (Global buffer byte)
  pub final_outside : (buffer byte : ℕ) → slice_index l.buffers buffer ≤ byte → final buffer byte ≡ given buffer byte
  pub finished : ((core : ℕ) → core < cores → ends core ≡ AllDone) → (item : ℕ) → item < l.items
      → HasEndedThere l given cores events core_of item
  pub at_fault : (core : ℕ) → core < cores → (item : ℕ) (pos : Pos) → ends core ≡ AtFault item pos
      → IsAtFault l core_of core (led (start given) (events core)) item pos
  pub stuck : (core : ℕ) → core < cores → ends core ≡ Stuck → IsApartHere l core_of core (led (start given) (events core))
