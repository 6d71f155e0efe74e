-- The premises of the laws are met by small launches.
use Rattle.std.proofs.Common.{◌≡◌, ℕ, zero, suc, ◌<◌, ◌≤◌, List, [], ◌∷◌, ◌++◌, slice_index, refl, subst, subst₂, inl, arith, lit<, lit≤, ne_eqb}
use Rattle.std.proofs.lemmas.Bool.{true≢false, cond-false}
use Rattle.vx_base.specs.declared.types.Pos.{Pos}
use Rattle.vx_base.specs.declared.types.Size.TheVariants.{One}
use Rattle.item_acts.specs.declared.acts.Place.TheVariants.{Global}
use Rattle.item_acts.specs.declared.acts.Action.TheVariants.{End}
use Rattle.item_acts.specs.declared.acts.Asked.TheVariants.{Act}
use Rattle.item_acts.specs.Launches.{Launch, group_of, State, Going, start, opening_bytes, with_field_at, Does, Waits}
use Rattle.item_acts.specs.Tame.{IsApart, IsTame}
use Rattle.item_acts.specs.Examples.{fives, one_waits, stores, barrier_at}
use Rattle.item_acts.proofs.Swaps.{in_own_group}
use Rattle.item_acts.proofs.Examples.{ended_is_apart}
use Rattle.launch_order.specs.Events.{Deed, Stored, action_of, Did, Event, AtFault, Stuck, happened, led, NeverFall}
use Rattle.launch_order.specs.Cores.{IsUnshared, AnswersOwn, ItemDid, IsSound, IsAtFault, IsApartHere, HasEndedThere, CoreEvents}
use Rattle.launch_order.specs.Worked.{at, handed, handed_events, handed_left, all_done, worked_pos, halted, halted_events, at_worked_fault, seven_first, stuck_events, all_stuck, four_first}

-- each of some events is sound on what the ones before it lead to
abbrev SoundAlong : Launch → ℕ → (ℕ → List Event) → (ℕ → ℕ) → ℕ → State → List Event → Type 0
SoundAlong l cores events core_of core s [] = Unit {0}
SoundAlong l cores events core_of core s (e ∷ more) =
    IsSound l cores events core_of core s e.place e.what × SoundAlong l cores events core_of core (happened s e.what) more

-- and so is each that stands behind some of them
sound_along : (l : Launch) (cores : ℕ) (events : ℕ → List Event) (core_of : ℕ → ℕ) (core : ℕ) (xs before behind : List Event) (e : Event) (s : State)
    → SoundAlong l cores events core_of core s xs → xs ≡ before ++ e ∷ behind → IsSound l cores events core_of core (led s before) e.place e.what
sound_along l cores events core_of core [] [] behind e s sound is = absurd (cc)
sound_along l cores events core_of core [] (b ∷ before) behind e s sound is = absurd (cc)
sound_along l cores events core_of core (x ∷ xs) [] behind e s sound is =
    let first : x ≡ e = cc in
    subst (λ y. IsSound l cores events core_of core s y.place y.what) first sound.0
sound_along l cores events core_of core (x ∷ xs) (b ∷ before) behind e s sound is =
    let first : x ≡ b = cc in
    let later : xs ≡ before ++ e ∷ behind = cc in
    subst (λ y. IsSound l cores events core_of core (led (happened s y.what) before) e.place e.what) first
    (sound_along l cores events core_of core xs before behind e (happened s x.what) sound.1 later)

-- an item of the first group waits behind the store
first_waits : (item : ℕ) → item < 4 → group_of handed item ≡ 0 → Waits handed (led (start fives) (at 1 (Did 0 (Stored (Global 0 0) One 7)) ∷ [])) item (barrier_at 1)
first_waits zero below e = record { going = refl; asks = record { steps = 0; asked = refl } }
first_waits (suc zero) below e = record { going = refl; asks = record { steps = 0; asked = refl } }
first_waits (suc (suc zero)) below e = absurd (omega (arith, e))
first_waits (suc (suc (suc zero))) below e = absurd (omega (arith, e))
first_waits (suc (suc (suc (suc item)))) below e = absurd (omega (arith, below))

second_waits : (item : ℕ) → item < 4 → group_of handed item ≡ 1 → Waits handed (led (start fives) (at 1 (Did 2 (Stored (Global 0 2) One 9)) ∷ [])) item (barrier_at 1)
second_waits zero below e = absurd (omega (arith, e))
second_waits (suc zero) below e = absurd (omega (arith, e))
second_waits (suc (suc zero)) below e = record { going = refl; asks = record { steps = 0; asked = refl } }
second_waits (suc (suc (suc zero))) below e = record { going = refl; asks = record { steps = 0; asked = refl } }
second_waits (suc (suc (suc (suc item)))) below e = absurd (omega (arith, below))

-- an item that did at once what it asked for
did : {l : Launch} {cores : ℕ} {events : ℕ → List Event} {core_of : ℕ → ℕ} {core : ℕ} {s : State} {place item : ℕ} {deed : Deed} → item < l.items
    → core_of (group_of l item) ≡ core → s.standing item ≡ Going → l.asks item (s.answers item) 0 ≡ Act (action_of deed)
    → AnswersOwn cores events s core place deed → ItemDid l cores events core_of core s place item deed
did exists here going asks answer = record { exists = exists; here = here; going = going; asks = record { steps = 0; asked = asks }; answer = answer }

handed_sound : (core : ℕ) → core < 2 → SoundAlong handed 2 handed_events (λ group. group) core (start fives) (handed_events core)
handed_sound zero below = (
  did (lit< tt) refl refl refl tt,
  (
    record {
      exists = lit< tt;
      here = refl;
      inside = λ item e. e;
      each = λ item exists e. inl (record { present = in_own_group handed 0 item exists e; point = barrier_at 1; waits = first_waits item exists e });
    },
    (
      did (lit< tt) refl refl refl (λ clear. refl),
      (did (lit< tt) refl refl refl tt, (did (lit< tt) refl refl refl tt, tt)),
    ),
  ),
)
handed_sound (suc zero) below = (
  did (lit< tt) refl refl refl tt,
  (
    record {
      exists = lit< tt;
      here = refl;
      inside = λ item e. e;
      each = λ item exists e. inl (record { present = in_own_group handed 1 item exists e; point = barrier_at 1; waits = second_waits item exists e });
    },
    (
      did (lit< tt) refl refl refl tt,
      (did (lit< tt) refl refl refl (λ clear. refl), (did (lit< tt) refl refl refl tt, tt)),
    ),
  ),
)
handed_sound (suc (suc core)) below = absurd (omega (arith, below))

handed_final : (core : ℕ) → core < 2 → (buffer byte : ℕ) → byte < slice_index handed.buffers buffer → IsUnshared 2 handed_events core (Global buffer byte)
    → handed_left buffer byte ≡ (led (start fives) (handed_events core)).bytes (Global buffer byte)
handed_final core below (suc buffer) byte inside alone = absurd (omega (arith, inside))
handed_final zero below zero zero inside alone = refl
handed_final zero below zero (suc zero) inside alone = refl
handed_final zero below zero (suc (suc zero)) inside alone = absurd (true≢false (alone 1 (lit< tt) (λ e. omega (arith, e))).0)
handed_final zero below zero (suc (suc (suc zero))) inside alone = refl
handed_final zero below zero (suc (suc (suc (suc byte)))) inside alone = absurd (omega (arith, inside))
handed_final (suc zero) below zero zero inside alone = absurd (true≢false (alone 0 (lit< tt) (λ e. omega (arith, e))).0)
handed_final (suc zero) below zero (suc zero) inside alone = refl
handed_final (suc zero) below zero (suc (suc zero)) inside alone = refl
handed_final (suc zero) below zero (suc (suc (suc zero))) inside alone = refl
handed_final (suc zero) below zero (suc (suc (suc (suc byte)))) inside alone = absurd (omega (arith, inside))
handed_final (suc (suc core)) below zero byte inside alone = absurd (omega (arith, below))

-- bytes outside of the buffer are as they were
handed_outside : (buffer byte : ℕ) → slice_index handed.buffers buffer ≤ byte → handed_left buffer byte ≡ fives buffer byte
handed_outside (suc buffer) byte out = cond-false _ _ _ (ne_eqb (suc buffer) 0 (λ e. omega (arith, e)))
handed_outside zero zero out = absurd (omega (arith, out))
handed_outside zero (suc zero) out = refl
handed_outside zero (suc (suc zero)) out = absurd (omega (arith, out))
handed_outside zero (suc (suc (suc byte))) out = refl

handed_ended : (item : ℕ) → item < 4 → HasEndedThere handed fives 2 handed_events (λ group. group) item
handed_ended zero below = record { exists = lit< tt; ended = refl }
handed_ended (suc zero) below = record { exists = lit< tt; ended = refl }
handed_ended (suc (suc zero)) below = record { exists = lit< tt; ended = refl }
handed_ended (suc (suc (suc zero))) below = record { exists = lit< tt; ended = refl }
handed_ended (suc (suc (suc (suc item)))) below = absurd (omega (arith, below))

handed_rising : (core : ℕ) → core < 2 → NeverFall 0 (handed_events core)
handed_rising zero below = (lit≤ tt, (lit≤ tt, (lit≤ tt, (lit≤ tt, (lit≤ tt, tt)))))
handed_rising (suc core) below = (lit≤ tt, (lit≤ tt, (lit≤ tt, (lit≤ tt, (lit≤ tt, tt)))))

-- two groups with a barrier on two cores
pub handed_known : CoreEvents handed fives handed_left 2 handed_events all_done
handed_known = record {
  core_of = λ group. group;
  some = lit< tt;
  rising = handed_rising;
  sound = λ core below before behind e is.
      sound_along handed 2 handed_events (λ group. group) core (handed_events core) before behind e (start fives) (handed_sound core below) is;
  final_own = handed_final;
  final_outside = handed_outside;
  finished = λ done item exists. handed_ended item exists;
  at_fault = λ core below item pos e. absurd (cc);
  stuck = λ core below e. absurd (cc);
}

halted_rising : (core : ℕ) → core < 1 → NeverFall 0 (halted_events core)
halted_rising core below = (lit≤ tt, tt)

halted_sound : (core : ℕ) → core < 1 → SoundAlong halted 1 halted_events (λ group. 0) core (start fives) (halted_events core)
halted_sound zero below = (did (lit< tt) refl refl refl tt, tt)
halted_sound (suc core) below = absurd (omega (arith, below))

-- what behind a buffer of four bytes stands, and what in its first four bytes
first_final : (v : ℕ) (left : ℕ → ℕ → ℕ) → ((byte : ℕ) → byte < 4 → left 0 byte ≡ with_field_at (opening_bytes fives) (Global 0 0) 1 v (Global 0 byte))
    → (buffer byte : ℕ) → byte < slice_index (4 ∷ []) buffer → left buffer byte ≡ with_field_at (opening_bytes fives) (Global 0 0) 1 v (Global buffer byte)
first_final v left same zero byte inside = same byte inside
first_final v left same (suc buffer) byte inside = absurd (omega (arith, inside))

halted_four : (byte : ℕ) → byte < 4 → seven_first 0 byte ≡ with_field_at (opening_bytes fives) (Global 0 0) 1 7 (Global 0 byte)
halted_four zero below = refl
halted_four (suc zero) below = refl
halted_four (suc (suc zero)) below = refl
halted_four (suc (suc (suc zero))) below = refl
halted_four (suc (suc (suc (suc byte)))) below = absurd (omega (arith, below))

halted_outside : (buffer byte : ℕ) → slice_index halted.buffers buffer ≤ byte → seven_first buffer byte ≡ fives buffer byte
halted_outside (suc buffer) byte out = cond-false _ _ _ (ne_eqb (suc buffer) 0 (λ e. omega (arith, e)))
halted_outside zero zero out = absurd (omega (arith, out))
halted_outside zero (suc byte) out = refl

halted_stops : (core : ℕ) → core < 1 → (item : ℕ) (pos : Pos) → at_worked_fault core ≡ AtFault item pos
    → IsAtFault halted (λ group. 0) core (led (start fives) (halted_events core)) item pos
halted_stops zero below item pos e =
    let same : 0 ≡ item = cc in
    let same' : worked_pos ≡ pos = cc in
    subst₂ (λ i p. IsAtFault halted (λ group. 0) 0 (led (start fives) (halted_events 0)) i p) same same'
    (record { exists = lit< tt; here = refl; going = refl; asks = record { steps = 0; asked = refl } })
halted_stops (suc core) below item pos e = absurd (omega (arith, below))

-- an item at a fault
pub halted_known : CoreEvents halted fives seven_first 1 halted_events at_worked_fault
halted_known = record {
  core_of = λ group. 0;
  some = lit< tt;
  rising = halted_rising;
  sound = λ core below before behind e is.
      sound_along halted 1 halted_events (λ group. 0) core (halted_events core) before behind e (start fives) (halted_sound core below) is;
  final_own = λ core below buffer byte inside alone. first_final 7 seven_first halted_four buffer byte inside;
  final_outside = halted_outside;
  finished = λ done item exists. let e = done 0 (lit< tt) in absurd (cc);
  at_fault = halted_stops;
  stuck = λ core below e. absurd (cc);
}

stuck_rising : (core : ℕ) → core < 1 → NeverFall 0 (stuck_events core)
stuck_rising core below = (lit≤ tt, (lit≤ tt, tt))

stuck_sound : (core : ℕ) → core < 1 → SoundAlong (one_waits 2) 1 stuck_events (λ group. 0) core (start fives) (stuck_events core)
stuck_sound zero below = (did (lit< tt) refl refl refl tt, (did (lit< tt) refl refl refl tt, tt))
stuck_sound (suc core) below = absurd (omega (arith, below))

stuck_four : (byte : ℕ) → byte < 4 → four_first 0 byte ≡ with_field_at (opening_bytes fives) (Global 0 0) 1 4 (Global 0 byte)
stuck_four zero below = refl
stuck_four (suc zero) below = refl
stuck_four (suc (suc zero)) below = refl
stuck_four (suc (suc (suc zero))) below = refl
stuck_four (suc (suc (suc (suc byte)))) below = absurd (omega (arith, below))

stuck_outside : (buffer byte : ℕ) → slice_index (one_waits 2).buffers buffer ≤ byte → four_first buffer byte ≡ fives buffer byte
stuck_outside (suc buffer) byte out = cond-false _ _ _ (ne_eqb (suc buffer) 0 (λ e. omega (arith, e)))
stuck_outside zero zero out = absurd (omega (arith, out))
stuck_outside zero (suc byte) out = refl

stuck_apart : IsApart (one_waits 2) (led (start fives) (stuck_events 0))
stuck_apart = record {
  waiting = 0;
  other = 1;
  exist = (lit< tt, lit< tt);
  together = refl;
  point = barrier_at 1;
  waits = record { going = refl; asks = record { steps = 0; asked = refl } };
  never = inl refl;
}

stuck_here : (core : ℕ) → core < 1 → all_stuck core ≡ Stuck → IsApartHere (one_waits 2) (λ group. 0) core (led (start fives) (stuck_events core))
stuck_here zero below e = record { apart = stuck_apart; here = refl }
stuck_here (suc core) below e = absurd (omega (arith, below))

-- a core that is stuck
pub stuck_known : CoreEvents (one_waits 2) fives four_first 1 stuck_events all_stuck
stuck_known = record {
  core_of = λ group. 0;
  some = lit< tt;
  rising = stuck_rising;
  sound = λ core below before behind e is.
      sound_along (one_waits 2) 1 stuck_events (λ group. 0) core (stuck_events core) before behind e (start fives) (stuck_sound core below) is;
  final_own = λ core below buffer byte inside alone. first_final 4 four_first stuck_four buffer byte inside;
  final_outside = stuck_outside;
  finished = λ done item exists. let e = done 0 (lit< tt) in absurd (cc);
  at_fault = λ core below item pos e. absurd (cc);
  stuck = stuck_here;
}

-- that launch is not tame: its items do not meet
pub stuck_untame : IsTame (one_waits 2) fives → ⊥
stuck_untame (n, tame) =
    tame.meets (Does 1 (stores 0 4) ∷ Does 1 End ∷ []) (
      record { exists = lit< tt; going = refl; asks = record { steps = 0; asked = refl }; turn = lit≤ tt },
      (record { exists = lit< tt; going = refl; asks = record { steps = 0; asked = refl }; turn = tt }, tt),
    )
    (λ fault. fault, tt)
    ended_is_apart
