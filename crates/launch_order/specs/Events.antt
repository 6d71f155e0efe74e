-- What a core of a machine does for the work-items of a launch, event by event, and what its events lead to.
use Rattle.std.specs.Prelude.{ℕ, suc, ◌≤◌, Bool, false, if◌then◌else◌, List, [], ◌∷◌, ◌++◌}
use Rattle.vx_base.specs.Bytes.{bytes_of}
use Rattle.vx_base.specs.declared.types.Pos.{Pos}
use Rattle.vx_base.specs.declared.types.Size.{Size}
use Rattle.item_acts.specs.declared.acts.Place.{Place}
use Rattle.item_acts.specs.declared.acts.Action.{Action}
use Rattle.item_acts.specs.declared.acts.Action.TheVariants.{Load, Store, End}
use Rattle.item_acts.specs.Launches.{State, covers, put_at, bytes_after, standing_after}

-- What an item did: it was told the number in a field, put a number into one, or came to its end.
pub data Deed : Type 0 where
  Loaded : Place → Size → ℕ → Deed
  Stored : Place → Size → ℕ → Deed
  Finished : Deed

-- the action that the item had asked for
abbrev pub action_of : Deed → Action
action_of (Loaded field size answer) = Load field size
action_of (Stored field size value) = Store field size value
action_of Finished = End

-- what the item was told
abbrev pub answers_of : Deed → List ℕ
answers_of (Loaded field size answer) = answer ∷ []
answers_of (Stored field size value) = 0 ∷ []
answers_of Finished = []

-- What happened: an item did something, or a group was released from a barrier at which these of its items stood.
pub data Happening : Type 0 where
  Did : ℕ → Deed → Happening
  Released : ℕ → (ℕ → Bool) → Happening

-- An event of a core, with its place: how many entries the history that all cores share had when it was made.
pub record Event : Type 0 where
  pub place : ℕ
  pub what : Happening

-- How a core's run ended: each of its items has ended, this item asked for a fault at this position, its warps waited and
-- none could go on, or its instructions were used up.
pub data CoreEnd : Type 0 where
  AllDone : CoreEnd
  AtFault : ℕ → Pos → CoreEnd
  Stuck : CoreEnd
  OutOfTurns : CoreEnd

-- the state behind what happened: the answers of a release go to the items that stood there
abbrev pub happened : State → Happening → State
happened s (Did item deed) = record {
  bytes = bytes_after s.bytes (action_of deed);
  answers = put_at item (s.answers item ++ answers_of deed) s.answers;
  standing = put_at item (standing_after (action_of deed)) s.standing;
  epochs = s.epochs;
}
happened s (Released group stood) = record {
  bytes = s.bytes;
  answers = λ item. if stood item then s.answers item ++ 0 ∷ [] else s.answers item;
  standing = s.standing;
  epochs = put_at group (suc (s.epochs group)) s.epochs;
}

-- the state behind some events
abbrev pub led : State → List Event → State
led s [] = s
led s (e ∷ events) = led (happened s e.what) events

-- from this place on the places never fall
abbrev pub NeverFall : ℕ → List Event → Type 0
NeverFall place [] = Unit {0}
NeverFall place (e ∷ events) = (place ≤ e.place) × NeverFall e.place events

-- what happened put a number into a field with this byte
abbrev pub stores : Happening → Place → Bool
stores (Did item (Stored field size value)) byte = covers field (bytes_of size) byte
stores (Did item (Loaded field size answer)) byte = false
stores (Did item Finished) byte = false
stores (Released group stood) byte = false
