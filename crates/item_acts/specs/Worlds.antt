-- What the lists that a world holds stand for: a launch, the state that it has come to, and the log of its accesses.
use Rattle.std.specs.Prelude.{Option, MatchOption, ◌≡◌, ℕ, ◌+◌, ◌/◌, ◌%◌, ◌<◌, ◌≤◌, Bool, ◌⊎◌, List, [], ◌∷◌, ◌++◌, length, map, slice_index, slice_index_or, slice_set, replicate}
use Rattle.vx_base.specs.Bytes.{bytes_of, with_field}
use Rattle.vx_base.specs.declared.types.Pos.{Pos}
use Rattle.vx_base.specs.declared.types.Size.{Size}
use Rattle.item_acts.specs.declared.acts.Place.{Place}
use Rattle.item_acts.specs.declared.acts.Place.TheVariants.{Global, Local}
use Rattle.item_acts.specs.declared.acts.Point.{Point}
use Rattle.item_acts.specs.declared.acts.Action.{Action}
use Rattle.item_acts.specs.declared.acts.Action.TheVariants.{Barrier}
use Rattle.item_acts.specs.declared.acts.Asked.{Asked}
use Rattle.item_acts.specs.declared.acts.Asked.TheVariants.{Act, Running}
use Rattle.item_acts.specs.declared.faults.PassFault.{PassFault}
use Rattle.item_acts.specs.declared.faults.PassFault.TheVariants.{NotTogether, Memory as NoMemory}
use Rattle.item_acts.specs.declared.faults.TurnFault.{TurnFault}
use Rattle.item_acts.specs.declared.faults.TurnFault.TheVariants.{NotReady, Memory}
use Rattle.item_acts.specs.declared.faults.Why.TheVariants.{Ended as StandsEnded, Faulted as StandsFaulted, Waits as IsWaiting, Running as RunsOn, Nowhere}
use Rattle.item_acts.specs.declared.races.LogEntry.{LogEntry}
use Rattle.item_acts.specs.declared.held.Held.{Held}
use Rattle.item_acts.specs.declared.held.Progress.{Progress}
use Rattle.item_acts.specs.declared.held.Progress.TheVariants.{Going as GoesOn, Ended as HasEnded, Faulted as HasFaulted}
use Rattle.item_acts.specs.Launches.{Launch, State, Standing, Going, Ended, Faulted, Does, Passes, after, IsTurn, MayDo, MayPass, group_of}
use Rattle.item_acts.specs.Tame.{Access, accesses_of}
use Rattle.item_acts.specs.OneResult.{IsWithin}

-- an entry of the log as an access
abbrev pub access_from : LogEntry → Access
access_from entry = record { item = entry.item; group = entry.group; epoch = entry.epoch; place = entry.place; bytes = bytes_of entry.size; writes = entry.writes }

-- how an item stands
abbrev pub standing_of : Progress → Standing
standing_of GoesOn = Going
standing_of HasEnded = Ended
standing_of (HasFaulted pos) = Faulted pos

-- the bytes of an array
abbrev pub array_in : List (List ℕ) → ℕ → List ℕ
array_in arrays k = slice_index_or arrays k []

-- the local arrays of a group
abbrev pub group_in : List (List (List ℕ)) → ℕ → List (List ℕ)
group_in groups k = slice_index_or groups k []

-- each byte of the buffers and of the local arrays
abbrev pub bytes_held : Held → Place → ℕ
bytes_held h (Global buffer byte) = slice_index (array_in h.buffers buffer) byte
bytes_held h (Local group array byte) = slice_index (array_in (group_in h.arrays group) array) byte

-- the state that the lists stand for
abbrev pub state_of : Held → State
state_of h = record {
  bytes = bytes_held h;
  answers = λ item. slice_index_or h.answers item [];
  standing = λ item. standing_of (slice_index_or h.progress item GoesOn);
  epochs = λ group. slice_index h.epochs group;
}

-- a byte of a buffer
abbrev pub buffer_byte : State → ℕ → ℕ → ℕ
buffer_byte s buffer byte = s.bytes (Global buffer byte)

-- the log that they stand for
abbrev pub accesses_held : Held → List Access
accesses_held h = map access_from h.log

-- the launch whose items ask for this, over the arrays that are held
abbrev pub launch_of : (ℕ → List ℕ → ℕ → Asked) → Held → Launch
launch_of asks h = record { items = h.items; local = h.local; asks = asks; buffers = map length h.buffers; locals = h.sizes }

-- The lists fit: groups are whole, each item and each group has its place in them, each group has each local array, and no
-- group has passed more barriers than its items have answers.
pub record IsHeld (h : Held) : Type 0 where
  pub positive : 0 < h.local
  pub whole : h.items % h.local ≡ 0
  pub answers : length h.answers ≡ h.items
  pub progress : length h.progress ≡ h.items
  pub epochs : length h.epochs ≡ h.items / h.local
  pub groups : length h.arrays ≡ h.items / h.local
  pub arrays : (group : ℕ) → group < h.items / h.local → map length (group_in h.arrays group) ≡ h.sizes
  pub passed : (item : ℕ) → item < h.items → slice_index h.epochs (item / h.local) ≤ length (slice_index_or h.answers item [])

-- the entry for an access of an item
abbrev pub entry_of : Held → ℕ → Place → Size → Bool → LogEntry
entry_of h item place size writes = record {
  item = item;
  group = item / h.local;
  epoch = slice_index h.epochs (item / h.local);
  place = place;
  size = size;
  writes = writes;
}

-- the lists with one more entry in the log
abbrev pub logged : Held → LogEntry → Held
logged h entry = record h { log = h.log ++ entry ∷ [] }

-- the lists with one more answer of an item
abbrev pub answered : Held → ℕ → ℕ → Held
answered h item answer = record h { answers = slice_set h.answers item (slice_index_or h.answers item [] ++ answer ∷ []) }

-- the lists with an item that stands so
abbrev pub stood : Held → ℕ → Progress → Held
stood h item progress = record h { progress = slice_set h.progress item progress }

-- some buffers with a number in a field
abbrev pub buffers_with : List (List ℕ) → Place → ℕ → ℕ → List (List ℕ)
buffers_with buffers (Global buffer byte) n value = slice_set buffers buffer (with_field (array_in buffers buffer) byte n value)
buffers_with buffers (Local group array byte) n value = buffers

-- the local arrays of some groups with a number in a field
abbrev pub groups_with : List (List (List ℕ)) → Place → ℕ → ℕ → List (List (List ℕ))
groups_with groups (Global buffer byte) n value = groups
groups_with groups (Local group array byte) n value =
    slice_set groups group (slice_set (group_in groups group) array (with_field (array_in (group_in groups group) array) byte n value))

-- the lists with a number in a field
abbrev pub stored : Held → Place → ℕ → ℕ → Held
stored h place n value = record h { buffers = buffers_with h.buffers place n value; arrays = groups_with h.arrays place n value }

-- the launch over the arrays that are held, whatever its items ask for
abbrev pub shape_of : Held → Launch
shape_of h = launch_of (λ item answers n. Running) h

-- an item's action led from some lists to others
pub record ActsAs (l : Launch) (h h' : Held) (item : ℕ) (a : Action) : Type 0 where
  pub turn : IsTurn l a
  pub state : state_of h' ≡ after l (state_of h) (Does item a)
  pub log : accesses_held h' ≡ accesses_held h ++ accesses_of l (state_of h) (Does item a)

-- why an action is no turn: it is a barrier, or touches a byte that the launch does not have
abbrev pub IsNoTurn : Launch → Action → TurnFault → Type 0
IsNoTurn l a (NotReady StandsEnded) = ⊥
IsNoTurn l a (NotReady StandsFaulted) = ⊥
IsNoTurn l a (NotReady IsWaiting) = (point : Point) × (a ≡ Barrier point)
IsNoTurn l a (NotReady RunsOn) = ⊥
IsNoTurn l a (NotReady Nowhere) = IsWithin l a → ⊥
IsNoTurn l a Memory = Unit {0}

-- The contents of a world: the code of its items, how many small steps an action may take, and the lists.
pub record Contents (C : Type 0) : Type 0 where
  pub code : C
  pub fuel : ℕ
  pub held : Held

-- an item did what it asks for within these small steps: the state is the one behind the turn, and the log has grown by it
pub record HasTurned (l : Launch) (h h' : Held) (item fuel : ℕ) : Type 0 where
  pub action : Action
  pub asked : l.asks item ((state_of h).answers item) fuel ≡ Act action
  pub may : MayDo l (state_of h) item action
  pub state : state_of h' ≡ after l (state_of h) (Does item action)
  pub log : accesses_held h' ≡ accesses_held h ++ accesses_of l (state_of h) (Does item action)

-- why an item made no turn: the reason that holds
abbrev pub IsRefused : Launch → State → ℕ → ℕ → TurnFault → Type 0
IsRefused l s item fuel (NotReady StandsEnded) = s.standing item ≡ Ended
IsRefused l s item fuel (NotReady StandsFaulted) = (pos : Pos) × (s.standing item ≡ Faulted pos)
IsRefused l s item fuel (NotReady IsWaiting) = (s.standing item ≡ Going) × ((point : Point) × (l.asks item (s.answers item) fuel ≡ Act (Barrier point)))
IsRefused l s item fuel (NotReady RunsOn) = (s.standing item ≡ Going) × (l.asks item (s.answers item) fuel ≡ Running)
IsRefused l s item fuel (NotReady Nowhere) = (s.standing item ≡ Going) × ((a : Action) × (l.asks item (s.answers item) fuel ≡ Act a) × (IsWithin l a → ⊥))
IsRefused l s item fuel Memory = Unit {0}

-- the lists when a world begins
abbrev pub opening : ℕ → ℕ → List (List ℕ) → List ℕ → Held
opening items local buffers sizes = record {
  items = items;
  local = local;
  sizes = sizes;
  buffers = buffers;
  arrays = replicate (items / local) (map (λ size. replicate size 0) sizes);
  answers = replicate items [];
  progress = replicate items GoesOn;
  epochs = replicate (items / local) 0;
  log = [];
}

-- the items from first on, so many of them, have been answered 0 once more, and the others have not
pub record HaveAnswered (first count : ℕ) (old now : List (List ℕ)) : Type 0 where
  pub same_length : length now ≡ length old
  pub inside : (item : ℕ) → first ≤ item → item < first + count → slice_index_or now item [] ≡ slice_index_or old item [] ++ 0 ∷ []
  pub outside : (item : ℕ) → (item < first) ⊎ (first + count ≤ item) → slice_index_or now item [] ≡ slice_index_or old item []

-- the item goes on, and within these small steps asks to pass a barrier at this point
abbrev pub WaitsWithin : Launch → State → ℕ → ℕ → Point → Type 0
WaitsWithin l s fuel item point = (s.standing item ≡ Going) × (l.asks item (s.answers item) fuel ≡ Act (Barrier point))

-- so do all items of a group
abbrev pub AllWaitWithin : Launch → State → ℕ → ℕ → Point → Type 0
AllWaitWithin l s fuel group point = (item : ℕ) → item < l.items → group_of l item ≡ group → WaitsWithin l s fuel item point

-- a group has passed the barrier at which all of its items wait: the state is the one behind the pass, and the log is as it was
pub record HasPassed (l : Launch) (h h' : Held) (group fuel : ℕ) : Type 0 where
  pub point : Point
  pub waited : AllWaitWithin l (state_of h) fuel group point
  pub may : MayPass l (state_of h) group point
  pub state : state_of h' ≡ after l (state_of h) (Passes group point)
  pub log : accesses_held h' ≡ accesses_held h

-- why a group did not pass: its items do not all wait at one point
abbrev pub IsRefusedPass : Launch → State → ℕ → ℕ → PassFault → Type 0
IsRefusedPass l s fuel group NotTogether = (point : Point) → AllWaitWithin l s fuel group point → ⊥
IsRefusedPass l s fuel group NoMemory = Unit {0}

-- the one point of which a fact holds, or that it holds of none
abbrev pub IsPointOf : (Point → Type 0) → Option Point → Type 0
IsPointOf P found = MatchOption found ((point : Point) → P point → ⊥) P
