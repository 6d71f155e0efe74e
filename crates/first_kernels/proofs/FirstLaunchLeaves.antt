-- What each launch of a kernel of assignments leaves.
use Rattle.std.proofs.Common.{◌≡◌, ◌≢◌, ℕ, zero, suc, ◌+◌, ◌*◌, ◌/◌, ◌%◌, ◌<◌, ◌≤◌, ◌⊎◌, nat_lt, List, [], ◌∷◌, length, refl, ap, sym, subst, ◌∙◌, inl, inr, arith, ltb-true, ltb-false}
use Rattle.std.proofs.lemmas.Bool.{cond_both, cases_lt}
use Rattle.std.proofs.lemmas.List.{get_or-replicate}
use Rattle.vx_base.specs.Bytes.{byte_of}
use Rattle.vx_base.proofs.NumberLaws.{byte_of-number_of}
use Rattle.item_acts.specs.declared.acts.Place.TheVariants.{Global}
use Rattle.item_acts.specs.declared.acts.Action.{Action}
use Rattle.item_acts.specs.Launches.{Launch, State, Standing, Going, Ended, Faulted, start, Turn, Does, after, IsTurn, MayDo, run, IsComplete}
use Rattle.item_acts.specs.Tame.{IsFirst, RunsFirst, LaunchLeaves}
use Rattle.item_acts.proofs.Machine.{asks_along}
use Rattle.first_kernels.specs.FirstTree.{Form}
use Rattle.first_kernels.specs.First.{Task, Item, item_step, item_start, array_of, launch_of}
use Rattle.first_kernels.specs.FirstValues.{bytes_left, IsLaunchable}
use Rattle.first_kernels.proofs.FirstLaunchItem.{Makes, NextOf, Loads, Stores, Ends, next_of}
use Rattle.first_kernels.proofs.FirstLaunchBytes.{own_words, own_words-word}
use Rattle.first_kernels.proofs.FirstLaunchState.{Stands, final, Holds, Kept, left, kept_next}
use Rattle.first_kernels.proofs.FirstLaunchTame.{holds_start}

-- an item goes on or not
going_or_not : (standing : Standing) → (standing ≡ Going) ⊎ (standing ≢ Going)
going_or_not Going = inl refl
going_or_not Ended = inr (λ e. cc)
going_or_not (Faulted pos) = inr (λ e. cc)

-- The least item that still goes on.
record Least (standing : ℕ → Standing) (n : ℕ) : Type 0 where
  item : ℕ
  below : item < n
  going : standing item ≡ Going
  least : (j : ℕ) → j < item → standing j ≢ Going

-- some item is the least that goes on, or none goes on
least_going : (standing : ℕ → Standing) (n : ℕ) → Least standing n ⊎ ((item : ℕ) → item < n → standing item ≢ Going)
least_going standing zero = inr (λ item below. absurd (omega arith))
least_going standing (suc n) = elim (least_going standing n) [
  | inl found ↦ inl (record { item = found.item; below = (let below = found.below in omega arith); going = found.going; least = found.least })
  | inr none ↦ elim (going_or_not (standing n)) [
    | inl going ↦ inl (record { item = n; below = omega arith; going = going; least = none })
    | inr ended ↦ inr (λ item below. elim (cases_lt item n) [
      | inl lower ↦ none item lower
      | inr from ↦ let last : n ≡ item = omega arith in subst (λ (m : ℕ). standing m ≢ Going) last ended
    ])
  ]
]

-- who neither goes on nor has stopped at a fault has ended
ended_of : (standing : Standing) (ts : List Task) → Stands standing ts → standing ≢ Going → standing ≡ Ended
ended_of Going ts stands not = absurd (not refl)
ended_of Ended ts stands not = refl
ended_of (Faulted pos) ts stands not = absurd stands

-- who has ended has no task left
none_left : (standing : Standing) (ts : List Task) → Stands standing ts → standing ≡ Ended → ts ≡ []
none_left Going ts stands e = absurd (cc)
none_left Ended ts stands e = stands
none_left (Faulted pos) ts stands e = absurd stands

module _ (k : Form) (arguments : List ℕ) (items buffers : ℕ) (given : ℕ → ℕ → ℕ) where
  -- the launch, and the buffer of each parameter
  abbrev launch : Launch
  launch = launch_of k arguments items buffers

  abbrev arrays : ℕ → ℕ
  arrays = array_of arguments

  -- a state that some turns lead to
  abbrev Sound : State → Type 0
  Sound = Holds k arguments items buffers given

  -- what an item asks for is a turn of the launch
  next_turn : (item : ℕ) → item < items → (m : Item) (words last : ℕ → ℕ) (a : Action) → NextOf arrays item buffers m words last a
      → IsTurn launch a
  next_turn item below m words last a (Loads b known g some) = rw (get_or-replicate buffers b (4 * items) 0 known) (omega arith)
  next_turn item below m words last a (Stores b v known small g some) = rw (get_or-replicate buffers b (4 * items) 0 known) (omega arith)
  next_turn item below m words last a (Ends g none) = tt

  -- The first turn of a state in which some item goes on.
  record FirstTurn (s : State) (h : Sound s) : Type 0 where
    item : ℕ
    action : Action
    may : MayDo launch s item action
    first : IsFirst launch s (Does item action)
    kept : Kept k arguments items buffers given s h (Does item action)

  -- it is what the least item that goes on asks for
  first_turn : (s : State) (h : Sound s) → Least s.standing items → FirstTurn s h
  first_turn s h found =
      let item = found.item in
      let held = h.each item found.below in
      let m = h.at item in
      let step = item_step arrays item in
      let next = next_of arrays item buffers m.tasks m.values (own_words s.bytes item) (final k arguments items buffers given item)
      (λ b. own_words-word s.bytes item b h.small) held.makes in
      record {
        item = item;
        action = next.action;
        may = record {
          exists = found.below;
          going = found.going;
          asks = record {
            steps = held.steps + length m.tasks;
            asked = asks_along step held.steps (item_start k) m (s.answers item) held.leads (length m.tasks) next.action next.soon;
          };
          turn = next_turn item found.below m (own_words s.bytes item) (final k arguments items buffers given item) next.action next.next;
        };
        first = λ item' a' m'. elim (cases_lt item' item) [ inl lower ↦ absurd (found.least item' lower m'.going) | inr from ↦ from ];
        kept = kept_next k arguments items buffers given s h item found.below found.going next.action next.next;
      }

  -- The schedule by least item from a state to the end of every item.
  record Scheduled (s : State) : Type 0 where
    turns : List Turn
    first : RunsFirst launch s turns
    complete : IsComplete launch (run launch s turns)
    holds : Sound (run launch s turns)

  -- where no item goes on the schedule is at its end
  schedule_end : (s : State) → Sound s → ((item : ℕ) → item < items → s.standing item ≢ Going) → Scheduled s
  schedule_end s h none = record {
    turns = [];
    first = tt;
    complete = λ item below. ended_of (s.standing item) (h.at item).tasks (h.each item below).stands (none item below);
    holds = h;
  }

  -- there is one, however many turns are left
  schedule : (n : ℕ) (s : State) (h : Sound s) → left k arguments items buffers given s.standing h.at ≤ n → Scheduled s
  schedule zero s h few = elim (least_going s.standing items) [
    | inl found ↦ let less = (first_turn s h found).kept.less in absurd (omega arith)
    | inr none ↦ schedule_end s h none
  ]
  schedule (suc n) s h few = elim (least_going s.standing items) [
    | inl found ↦
        let turn = first_turn s h found in
        let less = turn.kept.less in
        let rest = schedule n (after launch s (Does turn.item turn.action)) turn.kept.holds (omega arith) in
        record {
          turns = Does turn.item turn.action ∷ rest.turns;
          first = (turn.may, turn.first, rest.first);
          complete = rest.complete;
          holds = rest.holds;
        }
    | inr none ↦ schedule_end s h none
  ]

  -- an item that has ended has left its final words
  ended_words : (s : State) (h : Sound s) (item : ℕ) → item < items → s.standing item ≡ Ended
      → own_words s.bytes item ≡ final k arguments items buffers given item
  ended_words s h item below ended =
      let held = h.each item below in
      let m = h.at item in
      let none : m.tasks ≡ [] = none_left (s.standing item) m.tasks held.stands ended in
      subst (λ (ts : List Task). Makes arrays item buffers ts m.values (own_words s.bytes item) (final k arguments items buffers given item)) none held.makes

  -- a byte of the items' elements is a byte of an item's final word
  byte_within : (s : State) (h : Sound s) → IsComplete launch s
      → (buffer byte : ℕ) → byte < 4 * items
      → byte_of (final k arguments items buffers given (byte / 4) buffer) (byte % 4) ≡ s.bytes (Global buffer byte)
  byte_within s h complete buffer byte below =
      let item = byte / 4 in
      let exists : item < items = omega arith in
      let place : 4 * item + byte % 4 ≡ byte = omega arith in
      let words = ended_words s h item exists (complete item exists) in
      ap (λ (w : ℕ → ℕ). byte_of (w buffer) (byte % 4)) (sym words)
      ∙ byte_of-number_of (λ j. s.bytes (Global buffer (4 * item + j))) 4 (byte % 4) (λ j lower. h.small buffer (4 * item + j)) (omega arith)
      ∙ ap (λ (p : ℕ). s.bytes (Global buffer p)) place

  -- a launch of a kernel of assignments leaves the bytes with each item's assignments made
  pub leaves : IsLaunchable k arguments items buffers → ((buffer byte : ℕ) → given buffer byte < 256)
      → LaunchLeaves (launch_of k arguments items buffers) given (bytes_left arguments items k.assignments given)
  leaves launchable small =
      let h = holds_start k arguments items buffers given launchable small in
      let end = schedule (left k arguments items buffers given (start given).standing h.at) (start given) h (omega arith) in
      record {
        turns = end.turns;
        first = end.first;
        complete = end.complete;
        bytes = λ buffer byte.
            cond_both (nat_lt byte (4 * items)) _ _ (λ x. x ≡ (run launch (start given) end.turns).bytes (Global buffer byte))
            (λ e. byte_within (run launch (start given) end.turns) end.holds end.complete buffer byte (ltb-true byte (4 * items) e))
            (λ e. sym (end.holds.outside buffer byte (ltb-false byte (4 * items) e)));
      }
