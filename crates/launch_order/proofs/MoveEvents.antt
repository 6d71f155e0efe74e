-- Moves that are safe, with the laws of their bytes, make events of which all is known that the laws of a launch ask.
use Rattle.std.proofs.Common.{◌≡◌, ◌≢◌, ℕ, ◌+◌, ◌<◌, ◌≤◌, ◌⊎◌, Bool, true, List, [], ◌∷◌, ◌++◌, refl, ap, sym, ◌∙◌, subst, inl, inr, arith, append_assoc, append-nil}
use Rattle.vx_base.specs.Bytes.{bytes_of, byte_of}
use Rattle.vx_base.specs.declared.types.Pos.{Pos}
use Rattle.vx_base.specs.declared.types.Size.{Size}
use Rattle.vx_base.proofs.NumberLaws.{number_of-same, number_of-whole}
use Rattle.item_acts.specs.declared.acts.Place.{Place}
use Rattle.item_acts.specs.declared.acts.Place.TheVariants.{Global, Local}
use Rattle.item_acts.specs.declared.acts.Action.TheVariants.{Load}
use Rattle.item_acts.specs.Launches.{Launch, group_of, State, Going, Ended, start, opening_bytes, further, covers, field_at, IsInside}
use Rattle.item_acts.proofs.Launches.{put_at_same, put_at_other}
use Rattle.item_acts.proofs.Swaps.{covers_further}
use Rattle.launch_order.specs.Events.{Loaded, Stored, Finished, Did, Released, Event, CoreEnd, AtFault, Stuck, led, NeverFall}
use Rattle.launch_order.specs.Cores.{IsClear, ItemDid, IsSound, IsAtFault, IsApartHere, CoreEvents}
use Rattle.launch_order.specs.Moves.{Cell, Shared, Scratch, Move, Reads, Writes, Leaves, Frees, Moved, left_by, Held, Byte, NoByte, event_if, events_in, events_of, core_events, IsGlobal, IsLocalOf, IsMap, KeepsToArrays, MovesNeverFall, Comes, opening_cells, HasLeft, KeepsBytes, IsSafe, seen_of, Along}
use Rattle.launch_order.proofs.Seen.{led_append}
use Rattle.launch_order.proofs.MoveBytes.{spans_self, AllPlaced, placed_of_safe, placed_front, left_shared, left_scratch, writes_from, write_not}

-- what holds along some moves holds at each
pub along_at : (P : List Moved → Moved → Type 0) (front xs before : List Moved) (m : Moved) (behind : List Moved) → Along P front xs
    → xs ≡ before ++ m ∷ behind → P (front ++ before) m
along_at P front [] [] m behind along is = absurd (cc)
along_at P front [] (b ∷ before) m behind along is = absurd (cc)
along_at P front (x ∷ xs) [] m behind along is =
    let first : x ≡ m = cc in
    subst (λ z. P (front ++ []) z) first (subst (λ z. P z x) (sym (append-nil front)) along.0)
along_at P front (x ∷ xs) (b ∷ before) m behind along is =
    let first : x ≡ b = cc in
    let later : xs ≡ before ++ m ∷ behind = cc in
    subst (λ z. P z m) (append_assoc front (x ∷ []) before ∙ ap (λ z. front ++ z ∷ before) first)
    (along_at P (front ++ x ∷ []) xs before m behind along.1 later)

-- a move makes one event or none
abbrev OneOrNone : List Event → Type 0
OneOrNone xs = (xs ≡ []) ⊎ ((e : Event) × (xs ≡ e ∷ []))

one_if : (h : Held) (f : Place → Event) → OneOrNone (event_if h f)
one_if (Byte p) f = inr (f p, refl)
one_if NoByte f = inl refl

one_or_none : (holds : ℕ → Cell → Held) (place : ℕ) (m : Move) → OneOrNone (events_in holds place m)
one_or_none holds place (Reads item cell size n) = one_if (holds item cell) _
one_or_none holds place (Writes item cell size n) = one_if (holds item cell) _
one_or_none holds place (Leaves item) = inr (_, refl)
one_or_none holds place (Frees group stood) = inr (_, refl)

-- the move of an event, with the moves of those before it
record MoveOf (holds : ℕ → Cell → Held) (moves : List Moved) (before : List Event) (e : Event) : Type 0 where
  front : List Moved
  move : Moved
  behind : List Moved
  split : moves ≡ front ++ move ∷ behind
  projects : events_of holds front ≡ before
  event : events_in holds move.place move.what ≡ e ∷ []

move_of : (holds : ℕ → Cell → Held) (moves : List Moved) (before behind : List Event) (e : Event) → events_of holds moves ≡ before ++ e ∷ behind → MoveOf holds moves before e
move_of holds [] [] behind e is = absurd (cc)
move_of holds [] (b ∷ before) behind e is = absurd (cc)
move_of holds (m ∷ moves) [] behind e is =
    elim (one_or_none holds m.place m.what) [
      | inl none ↦
          let more = move_of holds moves [] behind e (sym (ap (λ xs. xs ++ events_of holds moves) none) ∙ is) in
          record {
            front = m ∷ more.front;
            move = more.move;
            behind = more.behind;
            split = ap (λ zs. m ∷ zs) more.split;
            projects = ap (λ xs. xs ++ events_of holds more.front) none ∙ more.projects;
            event = more.event;
          }
      | inr (x, one) ↦
          let both : x ∷ events_of holds moves ≡ e ∷ behind = sym (ap (λ xs. xs ++ events_of holds moves) one) ∙ is in
          let first : x ≡ e = cc in
          record { front = []; move = m; behind = moves; split = refl; projects = refl; event = one ∙ ap (λ z. z ∷ []) first }
    ]
move_of holds (m ∷ moves) (b ∷ before) behind e is =
    elim (one_or_none holds m.place m.what) [
      | inl none ↦
          let more = move_of holds moves (b ∷ before) behind e (sym (ap (λ xs. xs ++ events_of holds moves) none) ∙ is) in
          record {
            front = m ∷ more.front;
            move = more.move;
            behind = more.behind;
            split = ap (λ zs. m ∷ zs) more.split;
            projects = ap (λ xs. xs ++ events_of holds more.front) none ∙ more.projects;
            event = more.event;
          }
      | inr (x, one) ↦
          let both : x ∷ events_of holds moves ≡ b ∷ (before ++ e ∷ behind) = sym (ap (λ xs. xs ++ events_of holds moves) one) ∙ is in
          let first : x ≡ b = cc in
          let later : events_of holds moves ≡ before ++ e ∷ behind = cc in
          let more = move_of holds moves before behind e later in
          record {
            front = m ∷ more.front;
            move = more.move;
            behind = more.behind;
            split = ap (λ zs. m ∷ zs) more.split;
            projects =
                ap (λ xs. xs ++ events_of holds more.front) one ∙ ap (λ z. z ∷ events_of holds more.front) first ∙ ap (λ zs. b ∷ zs) more.projects;
            event = more.event;
          }
    ]

events_append : (holds : ℕ → Cell → Held) (xs ys : List Moved) → events_of holds (xs ++ ys) ≡ events_of holds xs ++ events_of holds ys
events_append holds [] ys = refl
events_append holds (m ∷ xs) ys =
    ap (λ zs. events_in holds m.place m.what ++ zs) (events_append holds xs ys)
    ∙ sym (append_assoc (events_in holds m.place m.what) (events_of holds xs) (events_of holds ys))

-- places of events do not fall where those of moves do not
low_rises : (low low' : ℕ) (events : List Event) → low ≤ low' → NeverFall low' events → NeverFall low events
low_rises low low' [] le rising = tt
low_rises low low' (e ∷ events) le rising = let next = rising.0 in (omega (arith, le, next), rising.1)

rising_if : (low place : ℕ) (h : Held) (f : Place → Event) (events : List Event) → ((p : Place) → (f p).place ≡ place) → low ≤ place → NeverFall place events
    → NeverFall low (event_if h f ++ events)
rising_if low place (Byte p) f events at le rising =
    let e : (f p).place ≡ place = at p in
    (omega (arith, le, e), subst (λ z. NeverFall z events) (sym e) rising)
rising_if low place NoByte f events at le rising = low_rises low place events le rising

rising_in : (holds : ℕ → Cell → Held) (low place : ℕ) (m : Move) (events : List Event) → low ≤ place → NeverFall place events
    → NeverFall low (events_in holds place m ++ events)
rising_in holds low place (Reads item cell size n) events le rising = rising_if low place (holds item cell) _ events (λ p. refl) le rising
rising_in holds low place (Writes item cell size n) events le rising = rising_if low place (holds item cell) _ events (λ p. refl) le rising
rising_in holds low place (Leaves item) events le rising = (le, rising)
rising_in holds low place (Frees group stood) events le rising = (le, rising)

rising_of : (holds : ℕ → Cell → Held) (low : ℕ) (moves : List Moved) → MovesNeverFall low moves → NeverFall low (events_of holds moves)
rising_of holds low [] rising = tt
rising_of holds low (m ∷ moves) rising = rising_in holds low m.place m.what (events_of holds moves) rising.0 (rising_of holds m.place moves rising.1)

-- a local array is zero when a launch starts
local_zero : (own : ℕ) (given : ℕ → ℕ → ℕ) (q : Place) → IsLocalOf own q → 0 ≡ opening_bytes given q
local_zero own given (Global buffer byte) in_group = absurd in_group
local_zero own given (Local group array byte) in_group = refl

-- and a buffer has what is given
pub global_given : (l : Launch) (holds : ℕ → Cell → Held) (given : ℕ → ℕ → ℕ) (opening : ℕ → ℕ)
    → ((item a buffer byte : ℕ) → holds item (Shared a) ≡ Byte (Global buffer byte) → opening a ≡ given buffer byte)
    → (item a : ℕ) (q : Place) → IsGlobal q → holds item (Shared a) ≡ Byte q → opening a ≡ opening_bytes given q
global_given l holds given opening opens item a (Global buffer byte) global is = opens item a buffer byte is
global_given l holds given opening opens item a (Local group array byte) global is = absurd global

-- what holds along some moves holds along those behind one of them
along_behind : (P : List Moved → Moved → Type 0) (front before : List Moved) (m : Moved) (behind : List Moved) → Along P front (before ++ m ∷ behind)
    → Along P (front ++ (before ++ m ∷ [])) behind
along_behind P front [] m behind along = along.1
along_behind P front (b ∷ before) m behind along =
    subst (λ zs. Along P zs behind) (append_assoc front (b ∷ []) (before ++ m ∷ [])) (along_behind P (front ++ b ∷ []) before m behind along.1)

-- what a core has seen behind one more move
seen_more : (holds : ℕ → Cell → Held) (given : ℕ → ℕ → ℕ) (front : List Moved) (m : Moved)
    → seen_of holds given (front ++ m ∷ []) ≡ led (seen_of holds given front) (events_in holds m.place m.what)
seen_more holds given front m =
    ap (led (start given)) (events_append holds front (m ∷ []))
    ∙ led_append (start given) (events_of holds front) (events_of holds (m ∷ []))
    ∙ ap (led (seen_of holds given front)) (append-nil (events_in holds m.place m.what))

-- who has ended does no more
other_ended : (s : State) (i item : ℕ) → s.standing i ≡ Going → s.standing item ≡ Ended → item ≢ i
other_ended s i item going ended e = let clash : Going ≡ Ended = sym going ∙ ap s.standing (sym e) ∙ ended in cc

ended_step : (l : Launch) (holds : ℕ → Cell → Held) (core_of : ℕ → ℕ) (core : ℕ) (s : State) (place : ℕ) (m : Move) → IsSafe l holds core_of core s m
    → (item : ℕ) → s.standing item ≡ Ended → (led s (events_in holds place m)).standing item ≡ Ended
ended_step l holds core_of core s place (Reads i cell size n) (inl none) item ended =
    let f : Place → Event = λ p. record { place = place; what = Did i (Loaded p size n) } in
    ap (λ h. (led s (event_if h f)).standing item) none ∙ ended
ended_step l holds core_of core s place (Reads i cell size n) (inr (p, here, asks)) item ended =
    let f : Place → Event = λ p. record { place = place; what = Did i (Loaded p size n) } in
    ap (λ h. (led s (event_if h f)).standing item) here ∙ put_at_other i Going s.standing item (other_ended s i item asks.going ended) ∙ ended
ended_step l holds core_of core s place (Writes i cell size n) (inl aside) item ended =
    let f : Place → Event = λ p. record { place = place; what = Did i (Stored p size n) } in
    ap (λ h. (led s (event_if h f)).standing item) (aside i cell (spans_self cell size)) ∙ ended
ended_step l holds core_of core s place (Writes i cell size n) (inr (p, here, asks)) item ended =
    let f : Place → Event = λ p. record { place = place; what = Did i (Stored p size n) } in
    ap (λ h. (led s (event_if h f)).standing item) here ∙ put_at_other i Going s.standing item (other_ended s i item asks.going ended) ∙ ended
ended_step l holds core_of core s place (Leaves i) asks item ended = put_at_other i Ended s.standing item (other_ended s i item asks.going ended) ∙ ended
ended_step l holds core_of core s place (Frees group stood) released item ended = ended

module _ (l : Launch) (holds : ℕ → Cell → Held) (address : ℕ → ℕ → ℕ) (constant : ℕ → Bool) (given final : ℕ → ℕ → ℕ) (opening : ℕ → ℕ)
    (cores : ℕ) (moves : ℕ → List Moved) (ends : ℕ → CoreEnd) (core_of : ℕ → ℕ) (map : IsMap l holds address) (keeps : KeepsToArrays l constant)
    (bytes : KeepsBytes l holds address given final opening cores moves ends core_of)
    (all_safe : (core : ℕ) → core < cores → Along (λ before m. IsSafe l holds core_of core (seen_of holds given before) m.what) [] (moves core)) where
  placed_rest : (core : ℕ) (front xs : List Moved) → Along (λ before m. IsSafe l holds core_of core (seen_of holds given before) m.what) front xs → AllPlaced l holds xs
  placed_rest core front [] along = tt
  placed_rest core front (m ∷ xs) along =
      (placed_of_safe l holds constant keeps core_of core (seen_of holds given front) m.what along.0, placed_rest core (front ++ m ∷ []) xs along.1)

  placed_core : (core : ℕ) → core < cores → AllPlaced l holds (moves core)
  placed_core core below = placed_rest core [] (moves core) (all_safe core below)

  -- the core's own bytes of a buffer
  own_shared : (before : List Moved) → AllPlaced l holds before → (item a : ℕ) (q : Place) → holds item (Shared a) ≡ Byte q
      → left_by (opening_cells opening) before (Shared a) ≡ (seen_of holds given before).bytes q
  own_shared before placed item a q is =
      left_shared l holds address map before placed (opening_cells opening) (start given) item a q is
      (global_given l holds given opening bytes.opens item a q (map.shared_is item a q is) is)

  -- each byte of a read is the core's own, where it is clear
  own_byte : (core : ℕ) → core < cores → (before : List Moved) (m : Moved) → Comes moves core before m → AllPlaced l holds before
      → (item : ℕ) (cell : Cell) (size : Size) (n : ℕ) (p : Place) → m.what ≡ Reads item cell size n → holds item cell ≡ Byte p → IsInside l p (bytes_of size)
      → ((byte : Place) → covers p (bytes_of size) byte ≡ true → IsClear cores (core_events holds moves) core m.place byte) → (k : ℕ) → k < bytes_of size
      → byte_of n k ≡ (seen_of holds given before).bytes (further p k)
  own_byte core below before m comes placed item (Shared a) size n p what is inside clear k small =
      let there : holds item (Shared (a + k)) ≡ Byte (further p k) = map.names item (Shared a) p (bytes_of size) k is inside small in
      bytes.shared core below before m comes item a size n k what small
      (λ other below' differ. writes_from l holds address map m.place (moves other) (placed_core other below') item (a + k) (further p k) there
      (clear (further p k) (covers_further p (bytes_of size) k small) other below' differ))
      ∙ own_shared before placed item (a + k) (further p k) there
  own_byte core below before m comes placed item (Scratch a) size n p what is inside clear k small =
      let there : holds item (Scratch (a + k)) ≡ Byte (further p k) = map.names item (Scratch a) p (bytes_of size) k is inside small in
      bytes.scratch core below before m comes item a size n k what small (further p k) there
      ∙ left_scratch l holds address map before placed (opening_cells opening) (start given) item (a + k) (further p k) there
      (local_zero (group_of l item) given (further p k) (map.scratch_is item (a + k) (further p k) there))

  own_answer : (core : ℕ) → core < cores → (before : List Moved) (m : Moved) → Comes moves core before m → AllPlaced l holds before
      → (item : ℕ) (cell : Cell) (size : Size) (n : ℕ) (p : Place) → m.what ≡ Reads item cell size n → holds item cell ≡ Byte p → IsInside l p (bytes_of size)
      → ((byte : Place) → covers p (bytes_of size) byte ≡ true → IsClear cores (core_events holds moves) core m.place byte)
      → n ≡ field_at (seen_of holds given before).bytes p (bytes_of size)
  own_answer core below before m comes placed item cell size n p what is inside clear =
      sym (number_of-whole n (bytes_of size) (bytes.fits core below before m comes item cell size n what))
      ∙ number_of-same (byte_of n) (λ k. (seen_of holds given before).bytes (further p k)) (bytes_of size)
      (λ k small. own_byte core below before m comes placed item cell size n p what is inside clear k small)

  -- the event of a safe move is sound
  sound_of : (core : ℕ) → core < cores → (before : List Moved) (m : Moved) → Comes moves core before m → AllPlaced l holds before → (what : Move) → m.what ≡ what
      → IsSafe l holds core_of core (seen_of holds given before) what → (e : Event) → events_in holds m.place what ≡ e ∷ []
      → IsSound l cores (core_events holds moves) core_of core (seen_of holds given before) e.place e.what
  sound_of core below before m comes placed (Reads item cell size n) what (inl none) e is =
      let f : Place → Event = λ p. record { place = m.place; what = Did item (Loaded p size n) } in
      let clash : [] ≡ e ∷ [] = sym (ap (λ h. event_if h f) none) ∙ is in
      absurd (cc)
  sound_of core below before m comes placed (Reads item cell size n) what (inr (p, here, asks)) e is =
      let f : Place → Event = λ p. record { place = m.place; what = Did item (Loaded p size n) } in
      let one : f p ∷ [] ≡ e ∷ [] = sym (ap (λ h. event_if h f) here) ∙ is in
      let first : f p ≡ e = cc in
      let inside : IsInside l p (bytes_of size) = keeps.within item ((seen_of holds given before).answers item) (Load p size) asks.exists asks.asks in
      let did : ItemDid l cores (core_events holds moves) core_of core (seen_of holds given before) m.place item (Loaded p size n) = record {
        exists = asks.exists;
        here = asks.here;
        going = asks.going;
        asks = asks.asks;
        answer = λ clear. own_answer core below before m comes placed item cell size n p what here inside clear;
      } in
      subst (λ z. IsSound l cores (core_events holds moves) core_of core (seen_of holds given before) z.place z.what) first did
  sound_of core below before m comes placed (Writes item cell size n) what (inl aside) e is =
      let f : Place → Event = λ p. record { place = m.place; what = Did item (Stored p size n) } in
      let clash : [] ≡ e ∷ [] = sym (ap (λ h. event_if h f) (aside item cell (spans_self cell size))) ∙ is in
      absurd (cc)
  sound_of core below before m comes placed (Writes item cell size n) what (inr (p, here, asks)) e is =
      let f : Place → Event = λ p. record { place = m.place; what = Did item (Stored p size n) } in
      let one : f p ∷ [] ≡ e ∷ [] = sym (ap (λ h. event_if h f) here) ∙ is in
      let first : f p ≡ e = cc in
      let did : ItemDid l cores (core_events holds moves) core_of core (seen_of holds given before) m.place item (Stored p size n) = record {
        exists = asks.exists;
        here = asks.here;
        going = asks.going;
        asks = asks.asks;
        answer = tt;
      } in
      subst (λ z. IsSound l cores (core_events holds moves) core_of core (seen_of holds given before) z.place z.what) first did
  sound_of core below before m comes placed (Leaves item) what asks e is =
      let x : Event = record { place = m.place; what = Did item Finished } in
      let first : x ≡ e = cc in
      let did : ItemDid l cores (core_events holds moves) core_of core (seen_of holds given before) m.place item Finished = record {
        exists = asks.exists;
        here = asks.here;
        going = asks.going;
        asks = asks.asks;
        answer = tt;
      } in
      subst (λ z. IsSound l cores (core_events holds moves) core_of core (seen_of holds given before) z.place z.what) first did
  sound_of core below before m comes placed (Frees group stood) what released e is =
      let x : Event = record { place = m.place; what = Released group stood } in
      let first : x ≡ e = cc in
      subst (λ z. IsSound l cores (core_events holds moves) core_of core (seen_of holds given before) z.place z.what) first released

  sound_core : (core : ℕ) → core < cores → (before behind : List Event) (e : Event) → core_events holds moves core ≡ before ++ e ∷ behind
      → IsSound l cores (core_events holds moves) core_of core (led (start given) before) e.place e.what
  sound_core core below before behind e is =
      let at = move_of holds (moves core) before behind e is in
      let safe = along_at (λ before m. IsSafe l holds core_of core (seen_of holds given before) m.what) [] (moves core) at.front at.move at.behind (all_safe core below) at.split in
      let placed = placed_front l holds at.front (at.move ∷ at.behind) (subst (AllPlaced l holds) at.split (placed_core core below)) in
      subst (λ xs. IsSound l cores (core_events holds moves) core_of core (led (start given) xs) e.place e.what) at.projects
      (sound_of core below at.front at.move (at.behind, at.split) placed at.move.what refl safe e at.event)

  -- who has left has ended, and no later move changes that
  ended_stays : (core : ℕ) (front xs : List Moved) → Along (λ before m. IsSafe l holds core_of core (seen_of holds given before) m.what) front xs
      → (item : ℕ) → (seen_of holds given front).standing item ≡ Ended → (seen_of holds given (front ++ xs)).standing item ≡ Ended
  ended_stays core front [] along item ended = subst (λ zs. (seen_of holds given zs).standing item ≡ Ended) (sym (append-nil front)) ended
  ended_stays core front (m ∷ xs) along item ended =
      let next : (seen_of holds given (front ++ m ∷ [])).standing item ≡ Ended =
      ap (λ s. s.standing item) (seen_more holds given front m)
      ∙ ended_step l holds core_of core (seen_of holds given front) m.place m.what along.0 item ended in
      subst (λ zs. (seen_of holds given zs).standing item ≡ Ended) (append_assoc front (m ∷ []) xs)
      (ended_stays core (front ++ m ∷ []) xs along.1 item next)

  -- so an item that has left has ended at the end
  left_ended : (core : ℕ) → core < cores → (item : ℕ) → HasLeft item (moves core) → (led (start given) (core_events holds moves core)).standing item ≡ Ended
  left_ended core below item (before, (m, (behind, split, leaves))) =
      let along = along_behind (λ before m. IsSafe l holds core_of core (seen_of holds given before) m.what) [] before m behind
      (subst (Along (λ before m. IsSafe l holds core_of core (seen_of holds given before) m.what) []) split (all_safe core below)) in
      let here : (seen_of holds given (before ++ m ∷ [])).standing item ≡ Ended =
      ap (λ s. s.standing item) (seen_more holds given before m)
      ∙ ap (λ w. (led (seen_of holds given before) (events_in holds m.place w)).standing item) leaves
      ∙ put_at_same item Ended (seen_of holds given before).standing in
      ap (λ zs. (seen_of holds given zs).standing item) (split ∙ sym (append_assoc before (m ∷ []) behind))
      ∙ ended_stays core (before ++ m ∷ []) behind along item here

  -- all is known of the events
  pub moves_known : ((core : ℕ) → core < cores → (item : ℕ) (pos : Pos) → ends core ≡ AtFault item pos
      → IsAtFault l core_of core (seen_of holds given (moves core)) item pos)
      → ((core : ℕ) → core < cores → ends core ≡ Stuck → IsApartHere l core_of core (seen_of holds given (moves core)))
      → CoreEvents l given final cores (core_events holds moves) ends
  moves_known at_fault stuck = record {
    core_of = core_of;
    some = bytes.some;
    rising = λ core below. rising_of holds 0 (moves core) (bytes.rising core below);
    sound = sound_core;
    final_own = λ core below buffer byte inside alone.
        bytes.ends_own core below buffer byte inside
        (λ other below' differ. write_not l holds address map (moves other) (placed_core other below') 0 (address buffer byte) (Global buffer byte)
        (map.buffers 0 buffer byte inside) (alone other below' differ))
        ∙ own_shared (moves core) (placed_core core below) 0 (address buffer byte) (Global buffer byte) (map.buffers 0 buffer byte inside);
    final_outside = bytes.final_outside;
    finished = λ done item exists.
        let there = bytes.finished done item exists in
        record { exists = there.0; ended = left_ended (core_of (group_of l item)) there.0 item there.1 };
    at_fault = at_fault;
    stuck = stuck;
  }
