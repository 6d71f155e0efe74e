-- The level below events: what items read and write by addresses, and the events that a map of addresses makes of it.
use Rattle.std.specs.Prelude.{◌≡◌, ◌≢◌, ℕ, ◌+◌, ◌-◌, ◌^◌, ◌<◌, ◌≤◌, Bool, true, false, ◌&&◌, nat_eq, nat_le, nat_lt, if◌then◌else◌, ◌⊎◌, List, [], ◌∷◌, ◌++◌, slice_index}
use Rattle.vx_base.specs.Bytes.{bytes_of, byte_of}
use Rattle.vx_base.specs.declared.types.Pos.{Pos}
use Rattle.vx_base.specs.declared.types.Size.{Size}
use Rattle.item_acts.specs.declared.acts.Place.{Place}
use Rattle.item_acts.specs.declared.acts.Place.TheVariants.{Global, Local}
use Rattle.item_acts.specs.declared.acts.Action.{Action}
use Rattle.item_acts.specs.declared.acts.Action.TheVariants.{Load, Store, End}
use Rattle.item_acts.specs.Launches.{Launch, ItemAsks, group_of, State, Going, start, opening_bytes, further, covers, byte_at, field_at, IsInside}
use Rattle.item_acts.specs.OneResult.{IsWithin}
use Rattle.launch_order.specs.Events.{Loaded, Stored, Finished, Did, Released, Event, CoreEnd, AllDone, AtFault, Stuck, led}
use Rattle.launch_order.specs.Cores.{GroupReleased, IsAtFault, IsApartHere}

-- a byte of the memory that all cores share, or of a core's own scratch memory
pub data Cell : Type 0 where
  Shared : ℕ → Cell
  Scratch : ℕ → Cell

-- A move of a core: it reads a number for an item, or writes one; an item leaves; a group is freed from a barrier at which
-- these of its items stood.
pub data Move : Type 0 where
  Reads : ℕ → Cell → Size → ℕ → Move
  Writes : ℕ → Cell → Size → ℕ → Move
  Leaves : ℕ → Move
  Frees : ℕ → (ℕ → Bool) → Move

-- a move with its place in the history that all cores share
pub record Moved : Type 0 where
  pub place : ℕ
  pub what : Move

abbrev pub address_of : Cell → ℕ
address_of (Shared a) = a
address_of (Scratch a) = a

-- the cell k bytes further on
abbrev pub beyond : Cell → ℕ → Cell
beyond (Shared a) k = Shared (a + k)
beyond (Scratch a) k = Scratch (a + k)

-- the n bytes from a cell on have this one
abbrev pub spans : Cell → ℕ → Cell → Bool
spans (Shared a) n (Shared b) = nat_le a b && nat_lt b (a + n)
spans (Scratch a) n (Scratch b) = nat_le a b && nat_lt b (a + n)
spans (Shared a) n (Scratch b) = false
spans (Scratch a) n (Shared b) = false

-- the move writes the byte
abbrev pub writes_to : Move → Cell → Bool
writes_to (Reads item cell size n) c = false
writes_to (Writes item cell size n) c = spans cell (bytes_of size) c
writes_to (Leaves item) c = false
writes_to (Frees group stood) c = false

-- the bytes behind a move
abbrev pub written : (Cell → ℕ) → Move → Cell → ℕ
written bytes (Reads item cell size n) c = bytes c
written bytes (Writes item cell size n) c = if spans cell (bytes_of size) c then byte_of n (address_of c - address_of cell) else bytes c
written bytes (Leaves item) c = bytes c
written bytes (Frees group stood) c = bytes c

-- the bytes behind some moves
abbrev pub left_by : (Cell → ℕ) → List Moved → Cell → ℕ
left_by bytes [] = bytes
left_by bytes (m ∷ moves) = left_by (written bytes m.what) moves

-- the group of a move
abbrev pub mover : Launch → Move → ℕ
mover l (Reads item cell size n) = group_of l item
mover l (Writes item cell size n) = group_of l item
mover l (Leaves item) = group_of l item
mover l (Frees group stood) = group

-- the moves of one group
abbrev pub moves_of : Launch → ℕ → List Moved → List Moved
moves_of l group [] = []
moves_of l group (m ∷ moves) = if nat_eq (mover l m.what) group then m ∷ moves_of l group moves else moves_of l group moves

-- what a cell holds for an item: a byte of an array of the launch, or nothing of the launch
pub data Held : Type 0 where
  Byte : Place → Held
  NoByte : Held

abbrev pub event_if : Held → (Place → Event) → List Event
event_if (Byte p) event = event p ∷ []
event_if NoByte event = []

-- the event of a move, where it touches an array
abbrev pub events_in : (ℕ → Cell → Held) → ℕ → Move → List Event
events_in holds place (Reads item cell size n) = event_if (holds item cell) (λ p. record { place = place; what = Did item (Loaded p size n) })
events_in holds place (Writes item cell size n) = event_if (holds item cell) (λ p. record { place = place; what = Did item (Stored p size n) })
events_in holds place (Leaves item) = record { place = place; what = Did item Finished } ∷ []
events_in holds place (Frees group stood) = record { place = place; what = Released group stood } ∷ []

-- the events of some moves
abbrev pub events_of : (ℕ → Cell → Held) → List Moved → List Event
events_of holds [] = []
events_of holds (m ∷ moves) = events_in holds m.place m.what ++ events_of holds moves

-- the events of each core
abbrev pub core_events : (ℕ → Cell → Held) → (ℕ → List Moved) → ℕ → List Event
core_events holds moves core = events_of holds (moves core)

-- a place of a buffer
abbrev pub IsGlobal : Place → Type 0
IsGlobal (Global buffer byte) = Unit {0}
IsGlobal (Local group array byte) = ⊥

-- a place of a group's array
abbrev pub IsLocalOf : ℕ → Place → Type 0
IsLocalOf own (Global buffer byte) = ⊥
IsLocalOf own (Local group array byte) = group ≡ own

-- two items see one byte at a cell: any two in the shared memory, and those of one group in the scratch memory
abbrev pub SeeOne : Launch → ℕ → ℕ → Cell → Type 0
SeeOne l item other (Shared a) = Unit {0}
SeeOne l item other (Scratch a) = group_of l item ≡ group_of l other

-- What the map of addresses owes. Places and cells correspond: the bytes of a field in an array stand at cells in a row, the
-- cells of a field have exactly the field's bytes, buffers stand in the shared memory, and a group's arrays in the scratch memory.
pub record IsMap (l : Launch) (holds : ℕ → Cell → Held) (address : ℕ → ℕ → ℕ) : Type 0 where
  pub names : (item : ℕ) (cell : Cell) (p : Place) (n k : ℕ) → holds item cell ≡ Byte p → IsInside l p n → k < n
      → holds item (beyond cell k) ≡ Byte (further p k)
  pub exact : (item other : ℕ) (cell c : Cell) (p q : Place) (n : ℕ) → holds item cell ≡ Byte p → IsInside l p n → holds other c ≡ Byte q
      → SeeOne l item other c → covers p n q ≡ spans cell n c
  pub along : (item other : ℕ) (cell c : Cell) (p q : Place) (n : ℕ) → holds item cell ≡ Byte p → IsInside l p n → holds other c ≡ Byte q
      → SeeOne l item other c → spans cell n c ≡ true → byte_at q - byte_at p ≡ address_of c - address_of cell
  pub buffers : (item buffer byte : ℕ) → byte < slice_index l.buffers buffer → holds item (Shared (address buffer byte)) ≡ Byte (Global buffer byte)
  pub shared_is : (item a : ℕ) (p : Place) → holds item (Shared a) ≡ Byte p → IsGlobal p
  pub scratch_is : (item a : ℕ) (p : Place) → holds item (Scratch a) ≡ Byte p → IsLocalOf (group_of l item) p

-- What items of a launch owe: they ask for bytes of the launch alone, and store to no constant buffer.
pub record KeepsToArrays (l : Launch) (constant : ℕ → Bool) : Type 0 where
  pub within : (item : ℕ) (answers : List ℕ) (a : Action) → item < l.items → ItemAsks l item answers a → IsWithin l a
  pub kept : (item : ℕ) (answers : List ℕ) (buffer byte : ℕ) (size : Size) (value : ℕ) → item < l.items
      → ItemAsks l item answers (Store (Global buffer byte) size value) → constant buffer ≡ false

-- from this place on the places of moves never fall
abbrev pub MovesNeverFall : ℕ → List Moved → Type 0
MovesNeverFall place [] = Unit {0}
MovesNeverFall place (m ∷ moves) = (place ≤ m.place) × MovesNeverFall m.place moves

-- each of these moves that writes the cell has at least this place
abbrev pub WritesFrom : ℕ → Cell → List Moved → Type 0
WritesFrom place c [] = Unit {0}
WritesFrom place c (m ∷ moves) = (writes_to m.what c ≡ true → place ≤ m.place) × WritesFrom place c moves

-- each write of another core to the cell has at least this place
abbrev pub IsClearCell : ℕ → (ℕ → List Moved) → ℕ → ℕ → Cell → Type 0
IsClearCell cores moves core place c = (other : ℕ) → other < cores → other ≢ core → WritesFrom place c (moves other)

-- none of these moves writes the cell
abbrev pub WriteNot : Cell → List Moved → Type 0
WriteNot c [] = Unit {0}
WriteNot c (m ∷ moves) = (writes_to m.what c ≡ false) × WriteNot c moves

-- no other core writes the cell
abbrev pub IsUnsharedCell : ℕ → (ℕ → List Moved) → ℕ → Cell → Type 0
IsUnsharedCell cores moves core c = (other : ℕ) → other < cores → other ≢ core → WriteNot c (moves other)

-- this move stands behind these of a core
abbrev pub Comes : (ℕ → List Moved) → ℕ → List Moved → Moved → Type 0
Comes moves core before m = (behind : List Moved) × (moves core ≡ before ++ m ∷ behind)

-- the opening bytes of the shared memory, and zero in each scratch memory
abbrev pub opening_cells : (ℕ → ℕ) → Cell → ℕ
opening_cells opening (Shared a) = opening a
opening_cells opening (Scratch a) = 0

-- some move of these is the item's leave
abbrev pub HasLeft : ℕ → List Moved → Type 0
HasLeft item moves = (before : List Moved) × ((m : Moved) × ((behind : List Moved) × (moves ≡ before ++ m ∷ behind) × (m.what ≡ Leaves item)))

-- What the loader owes of a run of some cores. Of bytes: a read's byte of shared memory that no other core wrote at a lesser
-- place is what the core's own moves left there, or the opening byte; a read's byte of an array in scratch memory is what its
-- group's moves left there, or zero; a byte of a buffer that no other core wrote ends as the core's own moves left it.
pub record KeepsBytes (l : Launch) (holds : ℕ → Cell → Held) (address : ℕ → ℕ → ℕ) (given final : ℕ → ℕ → ℕ) (opening : ℕ → ℕ)
    (cores : ℕ) (moves : ℕ → List Moved) (ends : ℕ → CoreEnd) (core_of : ℕ → ℕ) : Type 0 where
  pub some : 0 < cores
  pub rising : (core : ℕ) → core < cores → MovesNeverFall 0 (moves core)
  pub opens : (item a buffer byte : ℕ) → holds item (Shared a) ≡ Byte (Global buffer byte) → opening a ≡ given buffer byte
  pub fits : (core : ℕ) → core < cores → (before : List Moved) (m : Moved) → Comes moves core before m
      → (item : ℕ) (cell : Cell) (size : Size) (n : ℕ) → m.what ≡ Reads item cell size n → n < 256 ^ bytes_of size
  pub shared : (core : ℕ) → core < cores → (before : List Moved) (m : Moved) → Comes moves core before m
      → (item a : ℕ) (size : Size) (n k : ℕ) → m.what ≡ Reads item (Shared a) size n → k < bytes_of size
      → IsClearCell cores moves core m.place (Shared (a + k)) → byte_of n k ≡ left_by (opening_cells opening) before (Shared (a + k))
  pub scratch : (core : ℕ) → core < cores → (before : List Moved) (m : Moved) → Comes moves core before m
      → (item a : ℕ) (size : Size) (n k : ℕ) → m.what ≡ Reads item (Scratch a) size n → k < bytes_of size
      → (p : Place) → holds item (Scratch (a + k)) ≡ Byte p
      → byte_of n k ≡ left_by (opening_cells opening) (moves_of l (group_of l item) before) (Scratch (a + k))
  pub ends_own : (core : ℕ) → core < cores → (buffer byte : ℕ) → byte < slice_index l.buffers buffer
      → IsUnsharedCell cores moves core (Shared (address buffer byte))
      → final buffer byte ≡ left_by (opening_cells opening) (moves core) (Shared (address buffer byte))
  pub final_outside : (buffer byte : ℕ) → slice_index l.buffers buffer ≤ byte → final buffer byte ≡ given buffer byte
  pub finished : ((core : ℕ) → core < cores → ends core ≡ AllDone) → (item : ℕ) → item < l.items
      → (core_of (group_of l item) < cores) × HasLeft item (moves (core_of (group_of l item)))

-- an item of the core goes on and asks for this action, by what the core has seen
pub record AsksFor (l : Launch) (core_of : ℕ → ℕ) (core : ℕ) (own : State) (item : ℕ) (a : Action) : Type 0 where
  pub exists : item < l.items
  pub here : core_of (group_of l item) ≡ core
  pub going : own.standing item ≡ Going
  pub asks : ItemAsks l item (own.answers item) a

-- A move that is safe by what the core has seen: what it does to an array an item asks for, and what it writes elsewhere touches
-- no array.
abbrev pub IsSafe : Launch → (ℕ → Cell → Held) → (ℕ → ℕ) → ℕ → State → Move → Type 0
IsSafe l holds core_of core own (Reads item cell size n) =
    (holds item cell ≡ NoByte) ⊎ ((p : Place) × (holds item cell ≡ Byte p) × AsksFor l core_of core own item (Load p size))
IsSafe l holds core_of core own (Writes item cell size n) =
    ((other : ℕ) (c : Cell) → spans cell (bytes_of size) c ≡ true → holds other c ≡ NoByte)
    ⊎ ((p : Place) × (holds item cell ≡ Byte p) × AsksFor l core_of core own item (Store p size n))
IsSafe l holds core_of core own (Leaves item) = AsksFor l core_of core own item End
IsSafe l holds core_of core own (Frees group stood) = GroupReleased l core_of core own group stood

-- what a core has seen behind these moves
abbrev pub seen_of : (ℕ → Cell → Held) → (ℕ → ℕ → ℕ) → List Moved → State
seen_of holds given before = led (start given) (events_of holds before)

-- this holds of each of some moves behind others, with those before it
abbrev pub Along : (List Moved → Moved → Type 0) → List Moved → List Moved → Type 0
Along P before [] = Unit {0}
Along P before (m ∷ moves) = P before m × Along P (before ++ m ∷ []) moves

-- a constant place
abbrev pub is_constant : (ℕ → Bool) → Place → Bool
is_constant constant (Global buffer byte) = constant buffer
is_constant constant (Local group array byte) = false

-- what is read of a constant buffer is what was given
abbrev pub IsHonest : (ℕ → Cell → Held) → (ℕ → Bool) → (ℕ → ℕ → ℕ) → Move → Type 0
IsHonest holds constant given (Reads item cell size n) =
    (p : Place) → holds item cell ≡ Byte p → is_constant constant p ≡ true → n ≡ field_at (opening_bytes given) p (bytes_of size)
IsHonest holds constant given (Writes item cell size n) = Unit {0}
IsHonest holds constant given (Leaves item) = Unit {0}
IsHonest holds constant given (Frees group stood) = Unit {0}

-- each of these moves is honest
abbrev pub AreHonest : (ℕ → Cell → Held) → (ℕ → Bool) → (ℕ → ℕ → ℕ) → List Moved → Type 0
AreHonest holds constant given [] = Unit {0}
AreHonest holds constant given (m ∷ moves) = IsHonest holds constant given m.what × AreHonest holds constant given moves

-- What the simulation of warps owes, by a fact of its own choice that it knows of each move: it knows it of a move where it knows
-- it of the moves before on the core and these read constant buffers honestly; then the move is safe, and so are the core's ends.
pub record GoesAlong (Knows : ℕ → List Moved → Moved → Type 0) (l : Launch) (holds : ℕ → Cell → Held) (constant : ℕ → Bool) (given : ℕ → ℕ → ℕ)
    (cores : ℕ) (moves : ℕ → List Moved) (ends : ℕ → CoreEnd) (core_of : ℕ → ℕ) : Type 0 where
  pub known : (core : ℕ) → core < cores → (before : List Moved) (m : Moved) → Comes moves core before m
      → AreHonest holds constant given before → Along (Knows core) [] before → Knows core before m
  pub safe : (core : ℕ) → core < cores → (before : List Moved) (m : Moved) → Comes moves core before m → Knows core before m
      → IsSafe l holds core_of core (seen_of holds given before) m.what
  pub at_fault : (core : ℕ) → core < cores → (item : ℕ) (pos : Pos) → ends core ≡ AtFault item pos → AreHonest holds constant given (moves core)
      → Along (Knows core) [] (moves core) → IsAtFault l core_of core (seen_of holds given (moves core)) item pos
  pub stuck : (core : ℕ) → core < cores → ends core ≡ Stuck → AreHonest holds constant given (moves core)
      → Along (Knows core) [] (moves core) → IsApartHere l core_of core (seen_of holds given (moves core))

-- the move is safe by what its core has seen: one choice of what the simulation of warps knows of each move
abbrev pub KnowsSafe : Launch → (ℕ → Cell → Held) → (ℕ → ℕ → ℕ) → (ℕ → ℕ) → ℕ → List Moved → Moved → Type 0
KnowsSafe l holds given core_of core before m = IsSafe l holds core_of core (seen_of holds given before) m.what
