use Rattle.std.specs.Prelude.{◌≡◌, ◌≢◌, ℕ, ◌<◌, ◌≤◌, Bool, true, false, ◌||◌, IsTrue, ◌⊎◌, List, [], ◌∷◌, ◌++◌, length, Some, slice_get}
use Rattle.vx_base.specs.Bytes.{bytes_of}
use Rattle.vx_base.specs.declared.types.Pos.{Pos}
use Rattle.item_acts.specs.declared.acts.Place.{Place}
use Rattle.item_acts.specs.declared.acts.Place.TheVariants.{Global}
use Rattle.item_acts.specs.declared.acts.Point.{Point}
use Rattle.item_acts.specs.declared.acts.Action.{Action}
use Rattle.item_acts.specs.declared.acts.Action.TheVariants.{Load, Store, Barrier, Fault, End}
use Rattle.item_acts.specs.declared.acts.Asked.TheVariants.{Act}
use Rattle.item_acts.specs.Launches.{Launch, ItemAsks, group_of, State, Going, Ended, start, covers, Turn, Does, Passes, after, MayDo, Waits, MayPass, May, Allowed, run, IsComplete}

-- An access: the item that made it, with its group and how often that had passed a barrier, the bytes that were
-- touched, and whether it was a store.
pub record Access : Type 0 where
  pub item : ℕ
  pub group : ℕ
  pub epoch : ℕ
  pub place : Place
  pub bytes : ℕ
  pub writes : Bool

abbrev pub access_of : Launch → State → ℕ → Place → ℕ → Bool → Access
access_of l s i place bytes writes = record { item = i; group = group_of l i; epoch = s.epochs (group_of l i); place = place; bytes = bytes; writes = writes }

-- what a turn adds to the log of accesses
abbrev pub accesses_of : Launch → State → Turn → List Access
accesses_of l s (Does item (Load place size)) = access_of l s item place (bytes_of size) false ∷ []
accesses_of l s (Does item (Store place size value)) = access_of l s item place (bytes_of size) true ∷ []
accesses_of l s (Does item (Barrier point)) = []
accesses_of l s (Does item (Fault pos)) = []
accesses_of l s (Does item End) = []
accesses_of l s (Passes group point) = []

-- the log of some turns: their accesses in order
abbrev pub log_of : Launch → State → List Turn → List Access
log_of l s [] = []
log_of l s (turn ∷ turns) = accesses_of l s turn ++ log_of l (after l s turn) turns

-- Two accesses race: they are of different items, share a byte, one of them is a store, and no barrier of a group that
-- both belong to stands between them.
pub record IsRace (a b : Access) : Type 0 where
  pub others : a.item ≢ b.item
  pub byte : Place
  pub shared : IsTrue (covers a.place a.bytes byte) × IsTrue (covers b.place b.bytes byte)
  pub writes : IsTrue (a.writes || b.writes)
  pub unordered : (a.group ≢ b.group) ⊎ (a.epoch ≡ b.epoch)

-- two accesses of the log race
pub record HasRace (log : List Access) : Type 0 where
  pub one : ℕ
  pub other : ℕ
  pub first : Access
  pub second : Access
  pub first_is : slice_get log one ≡ Some first
  pub second_is : slice_get log other ≡ Some second
  pub race : IsRace first second

-- an item will never pass this barrier: it has ended, waits at another point, or asks for a fault
abbrev pub NeverPasses : Launch → State → ℕ → Point → Type 0
NeverPasses l s item point = (s.standing item ≡ Ended)
    ⊎ (((other : Point) × (other ≢ point) × Waits l s item other)
    ⊎ ((s.standing item ≡ Going) × ((pos : Pos) × ItemAsks l item (s.answers item) (Fault pos))))

-- Two items of one group do not meet: one waits at a barrier that the other will never pass.
pub record IsApart (l : Launch) (s : State) : Type 0 where
  pub waiting : ℕ
  pub other : ℕ
  pub exist : (waiting < l.items) × (other < l.items)
  pub together : group_of l waiting ≡ group_of l other
  pub point : Point
  pub waits : Waits l s waiting point
  pub never : NeverPasses l s other point

-- the turn is an item's stop at a fault
abbrev pub IsFault : Turn → Type 0
IsFault (Does item (Load place size)) = ⊥
IsFault (Does item (Store place size value)) = ⊥
IsFault (Does item (Barrier point)) = ⊥
IsFault (Does item (Fault pos)) = Unit {0}
IsFault (Does item End) = ⊥
IsFault (Passes group point) = ⊥

-- no turn but the last is a fault
abbrev pub FaultsAtMostLast : List Turn → Type 0
FaultsAtMostLast [] = Unit {0}
FaultsAtMostLast (turn ∷ []) = Unit {0}
FaultsAtMostLast (turn ∷ next ∷ turns) = (¬ (IsFault turn)) × FaultsAtMostLast (next ∷ turns)

-- From this state the launch is tame within n turns: each interleaving in which a fault is at most the last turn has at
-- most n turns, no race, no two items that do not meet, and at its end each item that still goes on asks for an action
-- within n small steps from its start.
pub record IsTameWithin (l : Launch) (s : State) (n : ℕ) : Type 0 where
  pub few : (turns : List Turn) → Allowed l s turns → FaultsAtMostLast turns → length turns ≤ n
  pub no_race : (turns : List Turn) → Allowed l s turns → FaultsAtMostLast turns → HasRace (log_of l s turns) → ⊥
  pub meets : (turns : List Turn) → Allowed l s turns → FaultsAtMostLast turns → IsApart l (run l s turns) → ⊥
  pub soon : (turns : List Turn) → Allowed l s turns → FaultsAtMostLast turns → (item : ℕ) → item < l.items
      → (run l s turns).standing item ≡ Going → (a : Action) × (l.asks item ((run l s turns).answers item) n ≡ Act a)

-- a launch over these bytes of the buffers is tame
abbrev pub IsTame : Launch → (ℕ → ℕ → ℕ) → Type 0
IsTame l given = (n : ℕ) × IsTameWithin l (start given) n

-- some interleaving from this state has a fault
pub record HasFault (l : Launch) (s : State) : Type 0 where
  pub turns : List Turn
  pub item : ℕ
  pub pos : Pos
  pub allowed : Allowed l s (turns ++ Does item (Fault pos) ∷ [])

-- The turn is the first that may come: an item's turn where no smaller item may do anything, or, where no item may do
-- anything, a group's pass where no smaller group may pass.
abbrev pub IsFirst : Launch → State → Turn → Type 0
IsFirst l s (Does item a) = (item' : ℕ) (a' : Action) → MayDo l s item' a' → item ≤ item'
IsFirst l s (Passes group point) = ((item' : ℕ) (a' : Action) → MayDo l s item' a' → ⊥)
    × ((group' : ℕ) (point' : Point) → MayPass l s group' point' → group ≤ group')

-- the turns of the schedule by least item: each turn is the first that may come
abbrev pub RunsFirst : Launch → State → List Turn → Type 0
RunsFirst l s [] = Unit {0}
RunsFirst l s (turn ∷ turns) = May l s turn × IsFirst l s turn × RunsFirst l (after l s turn) turns

-- The bytes of the buffers that a launch leaves, from the given ones: those behind the schedule by least item, once every
-- item has ended.
pub record LaunchLeaves (l : Launch) (given left : ℕ → ℕ → ℕ) : Type 0 where
  pub turns : List Turn
  pub first : RunsFirst l (start given) turns
  pub complete : IsComplete l (run l (start given) turns)
  pub bytes : (buffer byte : ℕ) → left buffer byte ≡ (run l (start given) turns).bytes (Global buffer byte)
