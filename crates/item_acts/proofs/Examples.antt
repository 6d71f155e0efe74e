-- What is true of the small launches.
use Rattle.std.proofs.Common.{◌≡◌, ◌≢◌, ℕ, zero, suc, ◌<◌, ◌⊎◌, true, false, List, [], ◌∷◌, slice_get, Some, refl, subst₂, sym, ◌∙◌, inl, inr, arith, lit<, lit≤, ne_eqb}
use Rattle.std.proofs.lemmas.Bool.{cond-false}
use Rattle.vx_base.specs.declared.types.Pos.{Pos}
use Rattle.item_acts.specs.declared.acts.Place.TheVariants.{Global, Local}
use Rattle.item_acts.specs.declared.acts.Point.{Point}
use Rattle.item_acts.specs.declared.acts.Action.{Action}
use Rattle.item_acts.specs.declared.acts.Action.TheVariants.{Fault, End}
use Rattle.item_acts.specs.declared.acts.Asked.TheVariants.{Act}
use Rattle.item_acts.specs.Launches.{Launch, ItemAsks, State, Standing, Going, Ended, Faulted, start, opening_bytes, covers, with_field_at, after, Turn, Does, Passes, IsInside, IsTurn, MayDo, Waits, run}
use Rattle.item_acts.specs.Tame.{Access, IsRace, HasRace, NeverPasses, IsApart, FaultsAtMostLast, IsFirst, RunsFirst, LaunchLeaves}
use Rattle.item_acts.proofs.Launches.{put_at_same, with_field_at_out, with_field_at_other}
use Rattle.item_acts.specs.Examples.{fives, loads, stores, barrier_at, own_bytes, one_byte, both_load, barred, one_waits, Races, RacesNot, Completes, seven_eight_nine, one_first}

-- an item that goes on and asks at once for an action may do it
may : {l : Launch} {s : State} {item : ℕ} {a : Action} → item < l.items → s.standing item ≡ Going
    → l.asks item (s.answers item) 0 ≡ Act a → IsTurn l a → MayDo l s item a
may exists going asks turn = record { exists = exists; going = going; asks = record { steps = 0; asked = asks }; turn = turn }

-- three items that stand like this at their ends are all items
three_ended : (standing : ℕ → Standing) → standing 0 ≡ Ended → standing 1 ≡ Ended → standing 2 ≡ Ended → (item : ℕ) → item < 3
    → standing item ≡ Ended
three_ended s a b c zero h = a
three_ended s a b c (suc zero) h = b
three_ended s a b c (suc (suc zero)) h = c
three_ended s a b c (suc (suc (suc item))) h = absurd (omega arith)

-- items may do what they ask for in any order
pub own_bytes_complete : Completes own_bytes (Does 2 (stores 2 9) ∷ Does 0 (stores 0 7) ∷ Does 2 End ∷ Does 1 (stores 1 8) ∷ Does 0 End ∷ Does 1 End ∷ [])
own_bytes_complete = (
  (
    may (lit< tt) refl refl (lit≤ tt),
    (
      may (lit< tt) refl refl (lit≤ tt),
      (
        may (lit< tt) refl refl tt,
        (
          may (lit< tt) refl refl (lit≤ tt),
          (
            may (lit< tt) refl refl tt,
            (may (lit< tt) refl refl tt, tt),
          ),
        ),
      ),
    ),
  ),
  three_ended _ refl refl refl,
)

-- an item with a smaller one that has ended is first
past_one : {l : Launch} {s : State} (a : Action) → s.standing 0 ≡ Ended → IsFirst l s (Does 1 a)
past_one b ended zero a h = let going = h.going in absurd (cc)
past_one b ended (suc item) a h = omega arith

-- or with two smaller ones
past_two : {l : Launch} {s : State} (a : Action) → s.standing 0 ≡ Ended → s.standing 1 ≡ Ended → IsFirst l s (Does 2 a)
past_two b ended ended' zero a h = let going = h.going in absurd (cc)
past_two b ended ended' (suc zero) a h = let going = h.going in absurd (cc)
past_two b ended ended' (suc (suc item)) a h = omega arith

-- the turns of the schedule by least item
own_turns : List Turn
own_turns = Does 0 (stores 0 7) ∷ Does 0 End ∷ Does 1 (stores 1 8) ∷ Does 1 End ∷ Does 2 (stores 2 9) ∷ Does 2 End ∷ []

-- each is the first that may come
own_first : RunsFirst own_bytes (start fives) own_turns
unfolding own_turns
own_first = (
  may (lit< tt) refl refl (lit≤ tt),
  λ item a h. omega arith,
  (
    may (lit< tt) refl refl tt,
    λ item a h. omega arith,
    (
      may (lit< tt) refl refl (lit≤ tt),
      past_one (stores 1 8) refl,
      (
        may (lit< tt) refl refl tt,
        past_one End refl,
        (
          may (lit< tt) refl refl (lit≤ tt),
          past_two (stores 2 9) refl refl,
          (may (lit< tt) refl refl tt, past_two End refl refl, tt),
        ),
      ),
    ),
  ),
)

-- and behind them the bytes are these
own_bytes_left : (buffer byte : ℕ)
    → seven_eight_nine buffer byte ≡ (run own_bytes (start fives) own_turns).bytes (Global buffer byte)
unfolding own_turns
own_bytes_left zero zero = refl
own_bytes_left zero (suc zero) = refl
own_bytes_left zero (suc (suc zero)) = refl
own_bytes_left zero (suc (suc (suc byte))) =
    let first = with_field_at (opening_bytes fives) (Global 0 0) 1 7 in
    let second = with_field_at first (Global 0 1) 1 8 in
    sym (
    with_field_at_out second 0 2 1 9 (suc (suc (suc byte))) (inr (omega arith))
    ∙ with_field_at_out first 0 1 1 8 (suc (suc (suc byte))) (inr (omega arith))
    ∙ with_field_at_out (opening_bytes fives) 0 0 1 7 (suc (suc (suc byte))) (inr (omega arith)))
own_bytes_left (suc buffer) byte =
    let first = with_field_at (opening_bytes fives) (Global 0 0) 1 7 in
    let second = with_field_at first (Global 0 1) 1 8 in
    cond-false _ _ _ (ne_eqb (suc buffer) 0 (λ e. omega arith))
    ∙ sym (
    with_field_at_other second 0 (suc buffer) 2 1 9 byte (λ e. omega arith)
    ∙ with_field_at_other first 0 (suc buffer) 1 1 8 byte (λ e. omega arith)
    ∙ with_field_at_other (opening_bytes fives) 0 (suc buffer) 0 1 7 byte (λ e. omega arith))

-- the launch leaves what each item has stored
pub own_bytes_leave : LaunchLeaves own_bytes fives seven_eight_nine
unfolding own_turns
own_bytes_leave = record {
  turns = own_turns;
  first = own_first;
  complete = three_ended _ refl refl refl;
  bytes = own_bytes_left;
}

-- two stores to one byte by two items race
pub stores_race : Races (one_byte 1) (Does 0 (stores 0 0) ∷ Does 1 (stores 0 1) ∷ [])
stores_race = (
  (may (lit< tt) refl refl (lit≤ tt), (may (lit< tt) refl refl (lit≤ tt), tt)),
  record {
    one = 0;
    other = 1;
    first = _;
    second = _;
    first_is = refl;
    second_is = refl;
    race = record { others = omega arith; byte = Global 0 0; shared = (refl, refl); writes = refl; unordered = inl (omega arith) };
  },
)

-- both items of that launch end
two_ended : (standing : ℕ → Standing) → standing 0 ≡ Ended → standing 1 ≡ Ended → (item : ℕ) → item < 2 → standing item ≡ Ended
two_ended standing a b zero h = a
two_ended standing a b (suc zero) h = b
two_ended standing a b (suc (suc item)) h = absurd (omega arith)

-- the turns of their schedule by least item
race_turns : List Turn
race_turns = Does 0 (stores 0 0) ∷ Does 0 End ∷ Does 1 (stores 0 1) ∷ Does 1 End ∷ []

-- behind them the later store stands
race_bytes : (buffer byte : ℕ) → one_first buffer byte ≡ (run (one_byte 1) (start fives) race_turns).bytes (Global buffer byte)
unfolding race_turns
race_bytes zero zero = refl
race_bytes zero (suc byte) =
    let first = with_field_at (opening_bytes fives) (Global 0 0) 1 0 in
    sym (with_field_at_out first 0 0 1 1 (suc byte) (inr (omega arith)) ∙ with_field_at_out (opening_bytes fives) 0 0 1 0 (suc byte) (inr (omega arith)))
race_bytes (suc buffer) byte =
    let first = with_field_at (opening_bytes fives) (Global 0 0) 1 0 in
    cond-false _ _ _ (ne_eqb (suc buffer) 0 (λ e. omega arith))
    ∙ sym (
    with_field_at_other first 0 (suc buffer) 0 1 1 byte (λ e. omega arith)
    ∙ with_field_at_other (opening_bytes fives) 0 (suc buffer) 0 1 0 byte (λ e. omega arith))

-- where stores race the schedule by least item leaves that of the greater item
pub last_store_stays : LaunchLeaves (one_byte 1) fives one_first
unfolding race_turns
last_store_stays = record {
  turns = race_turns;
  first = (
    may (lit< tt) refl refl (lit≤ tt),
    λ item a h. omega arith,
    (
      may (lit< tt) refl refl tt,
      λ item a h. omega arith,
      (
        may (lit< tt) refl refl (lit≤ tt),
        past_one (stores 0 1) refl,
        (may (lit< tt) refl refl tt, past_one End refl, tt),
      ),
    ),
  );
  complete = two_ended _ refl refl;
  bytes = race_bytes;
}

-- stores of one group with no barrier between them race too
pub stores_race_in_group : Races (one_byte 2) (Does 0 (stores 0 0) ∷ Does 1 (stores 0 1) ∷ [])
stores_race_in_group = (
  (may (lit< tt) refl refl (lit≤ tt), (may (lit< tt) refl refl (lit≤ tt), tt)),
  record {
    one = 0;
    other = 1;
    first = _;
    second = _;
    first_is = refl;
    second_is = refl;
    race = record { others = omega arith; byte = Global 0 0; shared = (refl, refl); writes = refl; unordered = inr refl };
  },
)

-- what stands in a log of two is one of them
one_of_two : (a b x : Access) (k : ℕ) → slice_get (a ∷ b ∷ []) k ≡ Some x → (a ≡ x) ⊎ (b ≡ x)
one_of_two a b x zero e = inl (cc)
one_of_two a b x (suc zero) e = inr (cc)
one_of_two a b x (suc (suc k)) e = absurd (cc)

-- no access races with itself
not_itself : (a : Access) → IsRace a a → ⊥
not_itself a h = h.others refl

-- a log of two has no race where neither races with the other
two_apart : (a b : Access) → (IsRace a b → ⊥) → (IsRace b a → ⊥) → HasRace (a ∷ b ∷ []) → ⊥
two_apart a b not not' h = elim (one_of_two a b h.first h.one h.first_is) [
  | inl e ↦ elim (one_of_two a b h.second h.other h.second_is) [
    | inl e' ↦ not_itself a (subst₂ IsRace (sym e) (sym e') h.race)
    | inr e' ↦ not (subst₂ IsRace (sym e) (sym e') h.race)
  ]
  | inr e ↦ elim (one_of_two a b h.second h.other h.second_is) [
    | inl e' ↦ not' (subst₂ IsRace (sym e) (sym e') h.race)
    | inr e' ↦ not_itself b (subst₂ IsRace (sym e) (sym e') h.race)
  ]
]

-- both items of the group wait behind the first store
both_wait : (item : ℕ) → item < 2 → Waits barred (after barred (start fives) (Does 0 (stores 0 3))) item (barrier_at 1)
both_wait zero h = record { going = refl; asks = record { steps = 0; asked = refl } }
both_wait (suc zero) h = record { going = refl; asks = record { steps = 0; asked = refl } }
both_wait (suc (suc item)) h = absurd (omega arith)

-- one group, and epochs that differ
ordered : {a b : ℕ} → a ≢ b → (◌≢◌ {A = ℕ} 0 0) ⊎ (a ≡ b) → ⊥
ordered differ (inl h) = h refl
ordered differ (inr h) = differ h

-- stores of one group with a barrier between them do not race
pub barrier_orders : RacesNot barred (Does 0 (stores 0 3) ∷ Passes 0 (barrier_at 1) ∷ Does 1 (stores 0 4) ∷ [])
barrier_orders = (
  (
    may (lit< tt) refl refl (lit≤ tt),
    (
      record { exists = lit< tt; waits = λ item h e. both_wait item h },
      (may (lit< tt) refl refl (lit≤ tt), tt),
    ),
  ),
  two_apart _ _ (λ race. ordered (λ e. omega arith) race.unordered) (λ race. ordered (λ e. omega arith) race.unordered),
)

-- two loads of one byte do not race
pub loads_race_not : RacesNot both_load (Does 0 (loads 0) ∷ Does 1 (loads 0) ∷ [])
loads_race_not = (
  (may (lit< tt) refl refl (lit≤ tt), (may (lit< tt) refl refl (lit≤ tt), tt)),
  two_apart _ _ (λ race. let writes = race.writes in absurd (cc)) (λ race. let writes = race.writes in absurd (cc)),
)

-- one waits at a barrier that the other, which has ended, will never pass
pub ended_is_apart : IsApart (one_waits 2) (run (one_waits 2) (start fives) (Does 1 (stores 0 4) ∷ Does 1 End ∷ []))
ended_is_apart = record {
  waiting = 0;
  other = 1;
  exist = (lit< tt, lit< tt);
  together = refl;
  point = barrier_at 1;
  waits = record { going = refl; asks = record { steps = 0; asked = refl } };
  never = inl refl;
}

-- who waits there at the start waits at that barrier
waits_there : (item : ℕ) (point : Point) → item < 2 → Waits (one_waits 2) (start fives) item point → point ≡ barrier_at 1
waits_there zero point h waits = let e = waits.asks.asked in cc
waits_there (suc zero) point h waits = let e = waits.asks.asked in absurd (cc)
waits_there (suc (suc item)) point h waits = absurd (omega arith)

-- and nobody asks for a fault
faults_not : (item : ℕ) (pos : Pos) → item < 2 → ItemAsks (one_waits 2) item [] (Fault pos) → ⊥
faults_not zero pos h asks = let e = asks.asked in cc
faults_not (suc zero) pos h asks = let e = asks.asked in cc
faults_not (suc (suc item)) pos h asks = omega arith

-- an item that waits will pass where the other still goes on
passes_still : (other : ℕ) (point : Point) → other < 2 → point ≡ barrier_at 1
    → NeverPasses (one_waits 2) (start fives) other point → ⊥
passes_still other point h e (inl ended) = cc
passes_still other point h e (inr (inl (point', differ, waits))) = let e' = waits_there other point' h waits in differ (cc)
passes_still other point h e (inr (inr (going, (pos, asks)))) = faults_not other pos h asks

-- at the start nobody has ended, and nobody is apart
pub waiting_is_not_apart : IsApart (one_waits 2) (start fives) → ⊥
waiting_is_not_apart h = passes_still h.other h.point h.exist.1 (waits_there h.waiting h.point h.exist.0 h.waits) h.never

-- where the other is of another group, who waits is item 0 alone
waits_alone : (item : ℕ) (point : Point) → item < 2 → Waits (one_waits 1) (run (one_waits 1) (start fives) (Does 1 (stores 0 4) ∷ Does 1 End ∷ [])) item point
    → (item ≡ 0) × (point ≡ barrier_at 1)
waits_alone zero point h waits = let e = waits.asks.asked in (refl, cc)
waits_alone (suc zero) point h waits = let going = waits.going in absurd (cc)
waits_alone (suc (suc item)) point h waits = absurd (omega arith)

-- its group has only itself, which passes
passes_alone : (other : ℕ) (point : Point) → other < 2 → 0 ≡ other → point ≡ barrier_at 1
    → NeverPasses (one_waits 1) (run (one_waits 1) (start fives) (Does 1 (stores 0 4) ∷ Does 1 End ∷ [])) other point → ⊥
passes_alone zero point h own e (inl ended) = cc
passes_alone zero point h own e (inr (inl (point', differ, waits))) = let e' = (waits_alone zero point' h waits).1 in differ (cc)
passes_alone zero point h own e (inr (inr (going, (pos, asks)))) = let e' = asks.asked in cc
passes_alone (suc other) point h own e never = omega arith

-- so nobody is apart there
pub groups_are_not_apart : IsApart (one_waits 1) (run (one_waits 1) (start fives) (Does 1 (stores 0 4) ∷ Does 1 End ∷ [])) → ⊥
groups_are_not_apart h =
    let first = waits_alone h.waiting h.point h.exist.0 h.waits in
    let together = h.together in
    passes_alone h.other h.point h.exist.1 (omega arith) first.1 h.never

-- an item that stops at a fault stands there
pub fault_stands : (l : Launch) (s : State) (item : ℕ) (pos : Pos)
    → (after l s (Does item (Fault pos))).standing item ≡ Faulted pos
fault_stands l s item pos = put_at_same item (Faulted pos) s.standing

-- which bytes a field has
pub covers_bounds : (covers (Global 0 4) 4 (Global 0 3) ≡ false) × (covers (Global 0 4) 4 (Global 0 4) ≡ true)
    × (covers (Global 0 4) 4 (Global 0 7) ≡ true) × (covers (Global 0 4) 4 (Global 0 8) ≡ false) × (covers (Global 0 4) 4 (Global 1 4) ≡ false)
    × (covers (Local 2 1 4) 2 (Local 2 1 5) ≡ true) × (covers (Local 2 1 4) 2 (Local 3 1 5) ≡ false) × (covers (Local 2 1 4) 2 (Local 2 0 5) ≡ false)
    × (covers (Local 2 1 4) 2 (Global 1 5) ≡ false)
covers_bounds = (refl, refl, refl, refl, refl, refl, refl, refl, refl)

-- a field is inside up to the last byte of a buffer that the launch has
pub inside_bounds : IsInside own_bytes (Global 0 3) 1 × (IsInside own_bytes (Global 0 3) 2 → ⊥) × (IsInside own_bytes (Global 1 0) 1 → ⊥)
inside_bounds = (lit≤ tt, λ h. omega arith, λ h. omega arith)

-- three groups with a local array of two bytes each
abbrev with_array : Launch
with_array = record own_bytes { locals = 2 ∷ [] }

-- and so is a field of a local array of a group
pub inside_local : IsInside with_array (Local 2 0 1) 1 × (IsInside with_array (Local 2 0 1) 2 → ⊥) × (IsInside with_array (Local 2 1 0) 1 → ⊥)
    × (IsInside with_array (Local 3 0 1) 1 → ⊥)
inside_local = ((lit< tt, lit≤ tt), λ h. omega (arith, h.1), λ h. omega (arith, h.1), λ h. omega (arith, h.0))

-- a fault may be the last turn, and no earlier one
pub fault_last : (pos : Pos)
    → FaultsAtMostLast (Does 0 End ∷ Does 1 (Fault pos) ∷ []) × (FaultsAtMostLast (Does 1 (Fault pos) ∷ Does 0 End ∷ []) → ⊥)
fault_last pos = ((λ h. h, tt), λ h. h.0 tt)
