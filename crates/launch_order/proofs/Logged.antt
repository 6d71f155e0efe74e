-- Stores of items stand in the log of the turns that made them, and two accesses of other groups to one byte, of which one is
-- a store, are a race.
use Rattle.std.proofs.Common.{◌≡◌, ◌≢◌, ℕ, suc, true, List, [], ◌∷◌, ◌++◌, slice_get, Some, refl, ap, sym, ◌∙◌, inl, inr, ◌⊎◌, append_assoc, append-nil}
use Rattle.std.proofs.lemmas.Bool.{or_left}
use Rattle.vx_base.specs.Bytes.{bytes_of}
use Rattle.vx_base.specs.declared.types.Size.{Size}
use Rattle.item_acts.specs.declared.acts.Place.{Place}
use Rattle.item_acts.specs.Launches.{Launch, group_of, State, covers, Turn, after, Allowed, run}
use Rattle.item_acts.specs.Tame.{Access, accesses_of, log_of, HasRace, FaultsAtMostLast}
use Rattle.item_acts.specs.OneResult.{IsFaultFree}
use Rattle.item_acts.proofs.Fronts.{faults_later}
use Rattle.launch_order.specs.Events.{Loaded, Stored, Finished, Happening, Did, Released}

-- the state behind one more turn
pub run_append : (l : Launch) (turns more : List Turn) (s : State) → run l s (turns ++ more) ≡ run l (run l s turns) more
run_append l [] more s = refl
run_append l (t ∷ turns) more s = run_append l turns more (after l s t)

-- turns that may come behind others that may come
pub allowed_append : (l : Launch) (turns more : List Turn) (s : State) → Allowed l s turns → Allowed l (run l s turns) more → Allowed l s (turns ++ more)
allowed_append l [] more s allowed allowed' = allowed'
allowed_append l (t ∷ turns) more s allowed allowed' = (allowed.0, allowed_append l turns more (after l s t) allowed.1 allowed')

-- turns without a fault behind others
pub free_append : (turns more : List Turn) → IsFaultFree turns → IsFaultFree more → IsFaultFree (turns ++ more)
free_append [] more free free' = free'
free_append (t ∷ turns) more free free' = (free.0, free_append turns more free.1 free')

-- behind turns without a fault one turn more has a fault at most last
pub faults_last : (turns : List Turn) (t : Turn) → IsFaultFree turns → FaultsAtMostLast (turns ++ t ∷ [])
faults_last [] t free = tt
faults_last (u ∷ turns) t free = faults_later u (turns ++ t ∷ []) free.0 (faults_last turns t free.1)

-- and turns without a fault have none that is not last
pub free_faults : (turns : List Turn) → IsFaultFree turns → FaultsAtMostLast turns
free_faults [] free = tt
free_faults (u ∷ turns) free = faults_later u turns free.0 (free_faults turns free.1)

-- the log of one more turn
pub log_append : (l : Launch) (turns : List Turn) (t : Turn) (s : State)
    → log_of l s (turns ++ t ∷ []) ≡ log_of l s turns ++ accesses_of l (run l s turns) t
log_append l [] t s = append-nil (accesses_of l s t)
log_append l (u ∷ turns) t s =
    ap (λ log. accesses_of l s u ++ log) (log_append l turns t (after l s u))
    ∙ sym (append_assoc (accesses_of l s u) (log_of l (after l s u) turns) (accesses_of l (run l (after l s u) turns) t))

-- the access stands in the log
abbrev pub Among : Access → List Access → Type 0
Among a [] = ⊥
Among a (b ∷ log) = (b ≡ a) ⊎ Among a log

among_index : (a : Access) (log : List Access) → Among a log → (k : ℕ) × (slice_get log k ≡ Some a)
among_index a [] h = absurd h
among_index a (b ∷ log) (inl e) = (0, ap Some e)
among_index a (b ∷ log) (inr h) = let rest = among_index a log h in (suc rest.0, rest.1)

pub among_front : (a : Access) (log more : List Access) → Among a log → Among a (log ++ more)
among_front a [] more h = absurd h
among_front a (b ∷ log) more (inl e) = inl e
among_front a (b ∷ log) more (inr h) = inr (among_front a log more h)

pub among_back : (a : Access) (log more : List Access) → Among a more → Among a (log ++ more)
among_back a [] more h = h
among_back a (b ∷ log) more h = inr (among_back a log more h)

-- the log has a store of this item to this field
pub record StoreLogged (l : Launch) (log : List Access) (item : ℕ) (field : Place) (size : Size) : Type 0 where
  pub access : Access
  pub among : Among access log
  pub of_item : access.item ≡ item
  pub of_group : access.group ≡ group_of l item
  pub at_field : access.place ≡ field
  pub of_size : access.bytes ≡ bytes_of size
  pub written : access.writes ≡ true

-- where what happened was a store, the log has it
abbrev pub IsLogged : Launch → List Access → Happening → Type 0
IsLogged l log (Did item (Stored field size value)) = StoreLogged l log item field size
IsLogged l log (Did item (Loaded field size answer)) = Unit {0}
IsLogged l log (Did item Finished) = Unit {0}
IsLogged l log (Released group stood) = Unit {0}

store_logged_front : (l : Launch) (log more : List Access) (item : ℕ) (field : Place) (size : Size) → StoreLogged l log item field size
    → StoreLogged l (log ++ more) item field size
store_logged_front l log more item field size h = record {
  access = h.access;
  among = among_front h.access log more h.among;
  of_item = h.of_item;
  of_group = h.of_group;
  at_field = h.at_field;
  of_size = h.of_size;
  written = h.written;
}

store_logged_back : (l : Launch) (log more : List Access) (item : ℕ) (field : Place) (size : Size) → StoreLogged l more item field size
    → StoreLogged l (log ++ more) item field size
store_logged_back l log more item field size h = record {
  access = h.access;
  among = among_back h.access log more h.among;
  of_item = h.of_item;
  of_group = h.of_group;
  at_field = h.at_field;
  of_size = h.of_size;
  written = h.written;
}

-- it has so in each longer log
pub logged_front : (l : Launch) (log more : List Access) (h : Happening) → IsLogged l log h → IsLogged l (log ++ more) h
logged_front l log more (Did item (Stored field size value)) logged = store_logged_front l log more item field size logged
logged_front l log more (Did item (Loaded field size answer)) logged = tt
logged_front l log more (Did item Finished) logged = tt
logged_front l log more (Released group stood) logged = tt

pub logged_back : (l : Launch) (log more : List Access) (h : Happening) → IsLogged l more h → IsLogged l (log ++ more) h
logged_back l log more (Did item (Stored field size value)) logged = store_logged_back l log more item field size logged
logged_back l log more (Did item (Loaded field size answer)) logged = tt
logged_back l log more (Did item Finished) logged = tt
logged_back l log more (Released group stood) logged = tt

-- a store and another access, of items of two groups and with a common byte, are a race
pub store_races : (l : Launch) (log : List Access) (item : ℕ) (field : Place) (size : Size) (b : Access) (byte : Place)
    → StoreLogged l log item field size → Among b log → b.group ≡ group_of l b.item → group_of l b.item ≢ group_of l item
    → covers field (bytes_of size) byte ≡ true → covers b.place b.bytes byte ≡ true → HasRace log
store_races l log item field size b byte store among of_group differ e e' =
    let one = among_index store.access log store.among in
    let other = among_index b log among in
    record {
      one = one.0;
      other = other.0;
      first = store.access;
      second = b;
      first_is = one.1;
      second_is = other.1;
      race = record {
        others = λ same. differ (ap (group_of l) (sym same ∙ store.of_item));
        byte = byte;
        shared = (ap (λ p. covers p store.access.bytes byte) store.at_field ∙ ap (λ n. covers field n byte) store.of_size ∙ e, e');
        writes = or_left store.access.writes b.writes store.written;
        unordered = inl (λ same. differ (sym of_group ∙ sym same ∙ store.of_group));
      };
    }
