-- Words for the law of one result: what an item asks for in an interleaving, and what the law asks of a launch.
use Rattle.std.specs.Prelude.{◌≡◌, ℕ, ◌+◌, ◌<◌, ◌≤◌, nat_eq, if◌then◌else◌, ◌⊎◌, List, [], ◌∷◌, ◌++◌, length}
use Rattle.vx_base.specs.Bytes.{bytes_of}
use Rattle.vx_base.specs.declared.types.Pos.{Pos}
use Rattle.item_acts.specs.declared.acts.Place.TheVariants.{Global}
use Rattle.item_acts.specs.declared.acts.Point.{Point}
use Rattle.item_acts.specs.declared.acts.Action.{Action}
use Rattle.item_acts.specs.declared.acts.Action.TheVariants.{Load, Store, Barrier, Fault, End}
use Rattle.item_acts.specs.declared.acts.Asked.TheVariants.{Act}
use Rattle.item_acts.specs.Launches.{Launch, ItemAsks, is_in_group, State, Going, Ended, Turn, Does, Passes, IsInside, Waits, Allowed, run, IsComplete}
use Rattle.item_acts.specs.Tame.{IsFault}

-- more small steps never change what an item asks for
pub record IsSettled (l : Launch) : Type 0 where
  pub more : (item : ℕ) (answers : List ℕ) (n k : ℕ) (a : Action) → l.asks item answers n ≡ Act a → l.asks item answers (n + k) ≡ Act a

-- these turns are a complete interleaving from a state: each may come where it comes, and at the end every item has ended
pub record RunsToEnd (l : Launch) (s : State) (turns : List Turn) : Type 0 where
  pub allowed : Allowed l s turns
  pub complete : IsComplete l (run l s turns)

-- the action of an item in a turn: what it does, or the barrier that its group passes
abbrev pub actions_in : Launch → ℕ → Turn → List Action
actions_in l item (Does other a) = if nat_eq item other then a ∷ [] else []
actions_in l item (Passes group point) = if is_in_group l group item then Barrier point ∷ [] else []

-- what an item has asked for in some turns, in order
abbrev pub actions_of : Launch → ℕ → List Turn → List Action
actions_of l item [] = []
actions_of l item (turn ∷ turns) = actions_in l item turn ++ actions_of l item turns

-- two lists of turns from a state have one result: they leave the same bytes of the buffers, and each item has asked for
-- the same actions in both
pub record HaveOneResult (l : Launch) (s : State) (turns turns' : List Turn) : Type 0 where
  pub bytes : (buffer byte : ℕ) → (run l s turns).bytes (Global buffer byte) ≡ (run l s turns').bytes (Global buffer byte)
  pub actions : (item : ℕ) → actions_of l item turns ≡ actions_of l item turns'

-- no turn is a fault
abbrev pub IsFaultFree : List Turn → Type 0
IsFaultFree [] = Unit {0}
IsFaultFree (turn ∷ turns) = (¬ (IsFault turn)) × IsFaultFree turns

-- the launch has each byte that the action touches
abbrev pub IsWithin : Launch → Action → Type 0
IsWithin l (Load place size) = IsInside l place (bytes_of size)
IsWithin l (Store place size value) = IsInside l place (bytes_of size)
IsWithin l (Barrier point) = Unit {0}
IsWithin l (Fault pos) = Unit {0}
IsWithin l End = Unit {0}

-- from a state on, whatever turns come, items ask only for bytes that the launch has
pub record InBounds (l : Launch) (s : State) : Type 0 where
  pub within : (turns : List Turn) → Allowed l s turns → (item : ℕ) → item < l.items → (a : Action)
      → ItemAsks l item ((run l s turns).answers item) a → IsWithin l a

-- an item does these actions, one turn after the other
abbrev pub alone : ℕ → List Action → List Turn
alone item [] = []
alone item (a ∷ actions) = Does item a ∷ alone item actions

-- an item can do no more by itself: it has ended, waits at a barrier, or asks for a fault
abbrev pub HasStopped : Launch → State → ℕ → Type 0
HasStopped l s item = (s.standing item ≡ Ended)
    ⊎ (((point : Point) × Waits l s item point)
    ⊎ ((s.standing item ≡ Going) × ((pos : Pos) × ItemAsks l item (s.answers item) (Fault pos))))

-- an item that runs alone from a state stops behind at most n turns
pub record StopsWithin (l : Launch) (s : State) (item n : ℕ) : Type 0 where
  pub actions : List Action
  pub few : length actions ≤ n
  pub allowed : Allowed l s (alone item actions)
  pub stops : HasStopped l (run l s (alone item actions)) item
