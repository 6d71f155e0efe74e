use Rattle.std.specs.Prelude.{◌≡◌, ℕ, suc, ◌+◌, ◌-◌, ◌*◌, ◌/◌, ◌<◌, ◌≤◌, Bool, false, ◌&&◌, nat_eq, nat_le, nat_lt, if◌then◌else◌, List, [], ◌∷◌, ◌++◌, slice_index}
use Rattle.vx_base.specs.Bytes.{bytes_of, byte_of, number_of}
use Rattle.vx_base.specs.declared.types.Pos.{Pos}
use Rattle.item_acts.specs.declared.acts.Place.{Place}
use Rattle.item_acts.specs.declared.acts.Place.TheVariants.{Global, Local}
use Rattle.item_acts.specs.declared.acts.Point.{Point}
use Rattle.item_acts.specs.declared.acts.Action.{Action}
use Rattle.item_acts.specs.declared.acts.Action.TheVariants.{Load, Store, Barrier, Fault, End}
use Rattle.item_acts.specs.declared.acts.Asked.{Asked}
use Rattle.item_acts.specs.declared.acts.Asked.TheVariants.{Act}

-- A launch: its work-items, of which each group has local many, what each of them asks for after its answers within
-- some small steps, the bytes of each buffer, and the bytes of each local array of a group.
pub record Launch : Type 0 where
  pub items : ℕ
  pub local : ℕ
  pub asks : ℕ → List ℕ → ℕ → Asked
  pub buffers : List ℕ
  pub locals : List ℕ

-- the item asks for this action once it has taken these answers
pub record ItemAsks (l : Launch) (item : ℕ) (answers : List ℕ) (a : Action) : Type 0 where
  pub steps : ℕ
  pub asked : l.asks item answers steps ≡ Act a

-- the group of an item
abbrev pub group_of : Launch → ℕ → ℕ
group_of l item = item / l.local

-- the item is one of the group's
abbrev pub is_in_group : Launch → ℕ → ℕ → Bool
is_in_group l group item = nat_lt item l.items && nat_eq (group_of l item) group

-- an item goes on, has come to its end, or has stopped at a fault
pub data Standing : Type 0 where
  Going : Standing
  Ended : Standing
  Faulted : Pos → Standing

-- What a launch has come to: each byte, the answers of each item, how each item stands, and how often each group has
-- passed a barrier.
pub record State : Type 0 where
  pub bytes : Place → ℕ
  pub answers : ℕ → List ℕ
  pub standing : ℕ → Standing
  pub epochs : ℕ → ℕ

-- the bytes when a launch starts: the buffers' as they are given, and each local array zero
abbrev pub opening_bytes : (ℕ → ℕ → ℕ) → Place → ℕ
opening_bytes given (Global buffer byte) = given buffer byte
opening_bytes given (Local group array byte) = 0

-- the start of a launch over these bytes of the buffers
abbrev pub start : (ℕ → ℕ → ℕ) → State
start given = record { bytes = opening_bytes given; answers = λ _. []; standing = λ _. Going; epochs = λ _. 0 }

-- the place k bytes further on
abbrev pub further : Place → ℕ → Place
further (Global buffer byte) k = Global buffer (byte + k)
further (Local group array byte) k = Local group array (byte + k)

-- the field of n bytes at a place has this byte
abbrev pub covers : Place → ℕ → Place → Bool
covers (Global buffer byte) n (Global buffer' byte') = nat_eq buffer buffer' && (nat_le byte byte' && nat_lt byte' (byte + n))
covers (Local group array byte) n (Local group' array' byte') = (nat_eq group group' && nat_eq array array') && (nat_le byte byte' && nat_lt byte' (byte + n))
covers (Global buffer byte) n (Local group array byte') = false
covers (Local group array byte) n (Global buffer byte') = false

-- the byte's number in its array
abbrev pub byte_at : Place → ℕ
byte_at (Global buffer byte) = byte
byte_at (Local group array byte) = byte

-- the number in the n bytes at a place
abbrev pub field_at : (Place → ℕ) → Place → ℕ → ℕ
field_at bytes place n = number_of (λ k. bytes (further place k)) n

-- the bytes with a number in the n bytes at a place
abbrev pub with_field_at : (Place → ℕ) → Place → ℕ → ℕ → Place → ℕ
with_field_at bytes place n value byte = if covers place n byte then byte_of value (byte_at byte - byte_at place) else bytes byte

-- a family of values with another value at one number
abbrev pub put_at : {A : Type 0} → ℕ → A → (ℕ → A) → ℕ → A
put_at i value values j = if nat_eq j i then value else values j

-- the bytes once an action is done
abbrev pub bytes_after : (Place → ℕ) → Action → Place → ℕ
bytes_after bytes (Load place size) = bytes
bytes_after bytes (Store place size value) = with_field_at bytes place (bytes_of size) value
bytes_after bytes (Barrier point) = bytes
bytes_after bytes (Fault pos) = bytes
bytes_after bytes End = bytes

-- what an item is told for an action, over these bytes
abbrev pub answers_to : (Place → ℕ) → Action → List ℕ
answers_to bytes (Load place size) = field_at bytes place (bytes_of size) ∷ []
answers_to bytes (Store place size value) = 0 ∷ []
answers_to bytes (Barrier point) = 0 ∷ []
answers_to bytes (Fault pos) = []
answers_to bytes End = []

-- how an item stands once it has done an action
abbrev pub standing_after : Action → Standing
standing_after (Load place size) = Going
standing_after (Store place size value) = Going
standing_after (Barrier point) = Going
standing_after (Fault pos) = Faulted pos
standing_after End = Ended

-- A turn: an item does what it asks for, or a group passes the barrier at which all of its items wait.
pub data Turn : Type 0 where
  Does : ℕ → Action → Turn
  Passes : ℕ → Point → Turn

-- the state behind a turn
abbrev pub after : Launch → State → Turn → State
after l s (Does item a) = record {
  bytes = bytes_after s.bytes a;
  answers = put_at item (s.answers item ++ answers_to s.bytes a) s.answers;
  standing = put_at item (standing_after a) s.standing;
  epochs = s.epochs;
}
after l s (Passes group point) = record {
  bytes = s.bytes;
  answers = λ item. if is_in_group l group item then s.answers item ++ 0 ∷ [] else s.answers item;
  standing = s.standing;
  epochs = put_at group (suc (s.epochs group)) s.epochs;
}

-- the launch has the n bytes at a place
abbrev pub IsInside : Launch → Place → ℕ → Type 0
IsInside l (Global buffer byte) n = byte + n ≤ slice_index l.buffers buffer
IsInside l (Local group array byte) n = (group * l.local < l.items) × (byte + n ≤ slice_index l.locals array)

-- the action is a turn of an item by itself: a barrier is none, nor is an access outside of the launch
abbrev pub IsTurn : Launch → Action → Type 0
IsTurn l (Load place size) = IsInside l place (bytes_of size)
IsTurn l (Store place size value) = IsInside l place (bytes_of size)
IsTurn l (Barrier point) = ⊥
IsTurn l (Fault pos) = Unit {0}
IsTurn l End = Unit {0}

-- the item may do this action next
pub record MayDo (l : Launch) (s : State) (item : ℕ) (a : Action) : Type 0 where
  pub exists : item < l.items
  pub going : s.standing item ≡ Going
  pub asks : ItemAsks l item (s.answers item) a
  pub turn : IsTurn l a

-- the item waits at this point
pub record Waits (l : Launch) (s : State) (item : ℕ) (point : Point) : Type 0 where
  pub going : s.standing item ≡ Going
  pub asks : ItemAsks l item (s.answers item) (Barrier point)

-- the group may pass this point next: all of its items wait there
pub record MayPass (l : Launch) (s : State) (group : ℕ) (point : Point) : Type 0 where
  pub exists : group * l.local < l.items
  pub waits : (item : ℕ) → item < l.items → group_of l item ≡ group → Waits l s item point

-- the turn may come next
abbrev pub May : Launch → State → Turn → Type 0
May l s (Does item a) = MayDo l s item a
May l s (Passes group point) = MayPass l s group point

-- An interleaving: each turn may come where it comes.
abbrev pub Allowed : Launch → State → List Turn → Type 0
Allowed l s [] = Unit {0}
Allowed l s (turn ∷ turns) = May l s turn × Allowed l (after l s turn) turns

-- the state behind some turns
abbrev pub run : Launch → State → List Turn → State
run l s [] = s
run l s (turn ∷ turns) = run l (after l s turn) turns

-- every item has come to its end
abbrev pub IsComplete : Launch → State → Type 0
IsComplete l s = (item : ℕ) → item < l.items → s.standing item ≡ Ended
