-- What the tests for races come to: a shared byte, two accesses that race, and places of a log whose accesses do.
use Rattle.std.proofs.Common.{◌≡◌, ℕ, ◌+◌, ◌<◌, ◌≤◌, Bool, true, false, ◌&&◌, nat_eq, nat_le, nat_lt, List, length, map, slice_get, Some, get_or, refl, ap, sym, ◌∙◌, subst, subst₂, inl, inr, arith, eq-eqb, le-leb, lt-ltb, eqb-true, leb-true, ltb-true}
use Rattle.std.proofs.lemmas.Bool.{cases_lt, cases_order, and_from, and_parts, or_left, or_right, or_cases}
use Rattle.std.proofs.lemmas.Option.{slice_get-map, slice_get-get_or, slice_get_within}
use Rattle.std.proofs.lemmas.List.{length-map}
use Rattle.std.specs.Option.{option_map}
use Rattle.std.specs.Bool.{MatchBool}
use Rattle.vx_base.specs.Bytes.{bytes_of}
use Rattle.vx_base.specs.declared.types.Size.{Size}
use Rattle.vx_base.specs.declared.types.Size.TheVariants.{One, Two, Four}
use Rattle.item_acts.specs.declared.acts.Place.{Place}
use Rattle.item_acts.specs.declared.acts.Place.TheVariants.{Global, Local}
use Rattle.item_acts.specs.declared.races.LogEntry.{LogEntry}
use Rattle.item_acts.specs.Launches.{covers}
use Rattle.item_acts.specs.Tame.{Access, IsRace, HasRace}
use Rattle.item_acts.specs.Worlds.{access_from}
use Rattle.item_acts.specs.LeastRace.{ShareByte, RacesAt, NoRaceFrom, IsNextRace, IsLeastRace}

-- a field has at least one byte
pub bytes_of-pos : (size : Size) → 0 < bytes_of size
bytes_of-pos One = omega arith
bytes_of-pos Two = omega arith
bytes_of-pos Four = omega arith

-- a field covers a byte of its own array from its first on and before its end
global_covers : (b x n y : ℕ) → x ≤ y → y < x + n → covers (Global b x) n (Global b y) ≡ true
global_covers b x n y from below = and_from _ _ (eq-eqb b b refl) (and_from _ _ (le-leb x y from) (lt-ltb y (x + n) below))

local_covers : (g a x n y : ℕ) → x ≤ y → y < x + n → covers (Local g a x) n (Local g a y) ≡ true
local_covers g a x n y from below =
    and_from _ _ (and_from _ _ (eq-eqb g g refl) (eq-eqb a a refl)) (and_from _ _ (le-leb x y from) (lt-ltb y (x + n) below))

-- fields of one buffer that overlap share a byte
pub share_global : (b x : ℕ) (size : Size) (b' x' : ℕ) (size' : Size) → b ≡ b' → x < x' + bytes_of size' → x' < x + bytes_of size
    → ShareByte (Global b x) (bytes_of size) (Global b' x') (bytes_of size')
share_global b x size b' x' size' e low high =
    let some = bytes_of-pos size in
    let some' = bytes_of-pos size' in
    subst (λ k. ShareByte (Global b x) (bytes_of size) (Global k x') (bytes_of size')) e
    (elim (cases_lt x x') [
      | inl less ↦ record { byte = Global b x'; first = global_covers b x (bytes_of size) x' (omega arith) high; second = global_covers b x' (bytes_of size') x' (omega arith) (omega arith) }
      | inr more ↦ record { byte = Global b x; first = global_covers b x (bytes_of size) x (omega arith) (omega arith); second = global_covers b x' (bytes_of size') x more low }
    ])

-- and so do fields of one local array
pub share_local : (g a x : ℕ) (size : Size) (g' a' x' : ℕ) (size' : Size) → g ≡ g' → a ≡ a' → x < x' + bytes_of size' → x' < x + bytes_of size
    → ShareByte (Local g a x) (bytes_of size) (Local g' a' x') (bytes_of size')
share_local g a x size g' a' x' size' e e' low high =
    let some = bytes_of-pos size in
    let some' = bytes_of-pos size' in
    subst₂ (λ k j. ShareByte (Local g a x) (bytes_of size) (Local k j x') (bytes_of size')) e e'
    (elim (cases_lt x x') [
      | inl less ↦ record { byte = Local g a x'; first = local_covers g a x (bytes_of size) x' (omega arith) high; second = local_covers g a x' (bytes_of size') x' (omega arith) (omega arith) }
      | inr more ↦ record { byte = Local g a x; first = local_covers g a x (bytes_of size) x (omega arith) (omega arith); second = local_covers g a x' (bytes_of size') x more low }
    ])

-- where a field's byte lies
abbrev LiesIn : Place → ℕ → Place → Type 0
LiesIn (Global b x) n (Global b' y) = (b ≡ b') × (x ≤ y) × (y < x + n)
LiesIn (Local g a x) n (Local g' a' y) = (g ≡ g') × (a ≡ a') × (x ≤ y) × (y < x + n)
LiesIn (Global b x) n (Local g a y) = ⊥
LiesIn (Local g a x) n (Global b y) = ⊥

-- a covered byte lies in the field
lies_in : (p : Place) (n : ℕ) (q : Place) → covers p n q ≡ true → LiesIn p n q
lies_in (Global b x) n (Global b' y) e =
    let parts = and_parts (nat_eq b b') (nat_le x y && nat_lt y (x + n)) e in
    let bounds = and_parts (nat_le x y) (nat_lt y (x + n)) parts.1 in
    (eqb-true b b' parts.0, leb-true x y bounds.0, ltb-true y (x + n) bounds.1)
lies_in (Local g a x) n (Local g' a' y) e =
    let parts = and_parts (nat_eq g g' && nat_eq a a') (nat_le x y && nat_lt y (x + n)) e in
    let own = and_parts (nat_eq g g') (nat_eq a a') parts.0 in
    let bounds = and_parts (nat_le x y) (nat_lt y (x + n)) parts.1 in
    (eqb-true g g' own.0, eqb-true a a' own.1, leb-true x y bounds.0, ltb-true y (x + n) bounds.1)
lies_in (Global b x) n (Local g a y) e = cc
lies_in (Local g a x) n (Global b y) e = cc

-- what two fields with a common byte have in common
abbrev Meets : Place → ℕ → Place → ℕ → Type 0
Meets (Global b x) n (Global b' x') m = (b ≡ b') × (x < x' + m) × (x' < x + n)
Meets (Local g a x) n (Local g' a' x') m = (g ≡ g') × (a ≡ a') × (x < x' + m) × (x' < x + n)
Meets (Global b x) n (Local g a x') m = ⊥
Meets (Local g a x) n (Global b x') m = ⊥

meets_at : (p : Place) (n : ℕ) (p' : Place) (m : ℕ) (q : Place) → LiesIn p n q → LiesIn p' m q → Meets p n p' m
meets_at (Global b x) n (Global b' x') m (Global c y) h h' = (h.0 ∙ sym h'.0, omega (arith, h.1, h'.2), omega (arith, h'.1, h.2))
meets_at (Local g a x) n (Local g' a' x') m (Local k c y) h h' = (h.0 ∙ sym h'.0, h.1 ∙ sym h'.1, omega (arith, h.2, h'.3), omega (arith, h'.2, h.3))
meets_at (Global b x) n (Local g a x') m (Global c y) h h' = h'
meets_at (Local g a x) n (Global b x') m (Global c y) h h' = h
meets_at (Global b x) n (Global b' x') m (Local k c y) h h' = absurd h
meets_at (Global b x) n (Local g a x') m (Local k c y) h h' = h
meets_at (Local g a x) n (Global b x') m (Local k c y) h h' = h'
meets_at (Local g a x) n (Local g' a' x') m (Global c y) h h' = absurd h

-- fields that share a byte meet
pub shares_meet : (p : Place) (n : ℕ) (p' : Place) (m : ℕ) → ShareByte p n p' m → Meets p n p' m
shares_meet p n p' m share = meets_at p n p' m share.byte (lies_in p n share.byte share.first) (lies_in p' m share.byte share.second)

-- the test of two fields of one buffer
pub share_global_test : (r : Bool) (b x : ℕ) (size : Size) (b' x' : ℕ) (size' : Size) → b ≡ b'
    → MatchBool r ((x < x' + bytes_of size') × (x' < x + bytes_of size)) ((x < x' + bytes_of size') × (x' < x + bytes_of size) → ⊥)
    → MatchBool r (ShareByte (Global b x) (bytes_of size) (Global b' x') (bytes_of size')) (ShareByte (Global b x) (bytes_of size) (Global b' x') (bytes_of size') → ⊥)
share_global_test true b x size b' x' size' e both = share_global b x size b' x' size' e both.0 both.1
share_global_test false b x size b' x' size' e never =
    λ share. let meets = shares_meet (Global b x) (bytes_of size) (Global b' x') (bytes_of size') share in never (meets.1, meets.2)

-- and of two fields of one local array
pub share_local_test : (r : Bool) (g a x : ℕ) (size : Size) (g' a' x' : ℕ) (size' : Size) → g ≡ g' → a ≡ a'
    → MatchBool r ((x < x' + bytes_of size') × (x' < x + bytes_of size)) ((x < x' + bytes_of size') × (x' < x + bytes_of size) → ⊥)
    → MatchBool r (ShareByte (Local g a x) (bytes_of size) (Local g' a' x') (bytes_of size')) (ShareByte (Local g a x) (bytes_of size) (Local g' a' x') (bytes_of size') → ⊥)
share_local_test true g a x size g' a' x' size' e e' both = share_local g a x size g' a' x' size' e e' both.0 both.1
share_local_test false g a x size g' a' x' size' e e' never =
    λ share. let meets = shares_meet (Local g a x) (bytes_of size) (Local g' a' x') (bytes_of size') share in never (meets.2, meets.3)

module _ (log : List LogEntry) where
  -- the access at a place of the log
  access_at : (k : ℕ) (d : LogEntry) → k < length log → slice_get (map access_from log) k ≡ Some (access_from (get_or log k d))
  access_at k d within = slice_get-map access_from log k ∙ ap (λ o. option_map access_from o) (slice_get-get_or log k d within)

  -- entries that race stand at places that race
  races_at : (one other : ℕ) (d d' : LogEntry) → one < length log → other < length log → IsRace (access_from (get_or log one d)) (access_from (get_or log other d'))
      → RacesAt (map access_from log) one other
  races_at one other d d' within within' race = record {
    first = access_from (get_or log one d);
    second = access_from (get_or log other d');
    first_is = access_at one d within;
    second_is = access_at other d' within';
    race = race;
  }

  -- and entries that do not at places that do not
  pub no_race_at : (one other : ℕ) (d d' : LogEntry) → one < length log → other < length log
      → (IsRace (access_from (get_or log one d)) (access_from (get_or log other d')) → ⊥) → RacesAt (map access_from log) one other → ⊥
  no_race_at one other d d' within within' never at =
      let here = access_at one d within in
      let there = access_at other d' within' in
      let first_is = at.first_is in
      let second_is = at.second_is in
      let first : at.first ≡ access_from (get_or log one d) = cc in
      let second : at.second ≡ access_from (get_or log other d') = cc in
      never (subst₂ IsRace first second at.race)

  -- places that race are places of the log
  pub race_within : (one other : ℕ) → RacesAt (map access_from log) one other → other < length log
  race_within one other at = let within = slice_get_within (map access_from log) other at.second at.second_is in simp length-map at within

  -- where no earlier place races, the place that does is next
  pub next_race_at : (one other : ℕ) (d d' : LogEntry) → one < other → other < length log
      → ((k : ℕ) → one < k → k < other → RacesAt (map access_from log) one k → ⊥)
      → IsRace (access_from (get_or log one d)) (access_from (get_or log other d')) → IsNextRace (map access_from log) one other
  next_race_at one other d d' behind within before race = record {
    behind = behind;
    race = races_at one other d d' (omega arith) within race;
    least = λ later order at. elim (cases_lt later other) [ inl less ↦ absurd (before later order less at) | inr more ↦ more ];
  }

-- a race reads the same from its other access
race_turned : (a b : Access) → IsRace a b → IsRace b a
race_turned a b race = record {
  others = λ e. race.others (sym e);
  byte = race.byte;
  shared = (race.shared.1, race.shared.0);
  writes = elim (or_cases a.writes b.writes race.writes) [ inl w ↦ or_right _ _ w | inr w ↦ or_left _ _ w ];
  unordered = elim race.unordered [ inl apart ↦ inl (λ e. apart (sym e)) | inr e ↦ inr (sym e) ];
}

-- a log in which no access races with a later one has no race
pub no_races : (log : List Access) → ((one : ℕ) → NoRaceFrom log one) → HasRace log → ⊥
no_races log never h =
    elim (cases_order h.one h.other) [
      | inl e ↦
          let first_is = h.first_is in
          let second_is = h.second_is in
          let same : Some h.first ≡ Some h.second = sym first_is ∙ ap (slice_get log) e ∙ second_is in
          h.race.others (cc)
      | inr (inl before) ↦ never h.one h.other before (record { first = h.first; second = h.second; first_is = h.first_is; second_is = h.second_is; race = h.race })
      | inr (inr behind) ↦
          never h.other h.one behind
          (record { first = h.second; second = h.first; first_is = h.second_is; second_is = h.first_is; race = race_turned h.first h.second h.race })
    ]

-- the least pair, where no access before has a race and the next race of this one is known
pub least_pair : (log : List Access) (one other : ℕ) → ((k : ℕ) → k < one → NoRaceFrom log k) → IsNextRace log one other → IsLeastRace log one other
least_pair log one other before next = record {
  earlier = next.behind;
  race = next.race;
  least = λ one' other' order at.
      elim (cases_order one one') [
        | inl e ↦ inr (e, next.least other' (omega arith) (subst (λ k. RacesAt log k other') (sym e) at))
        | inr (inl less) ↦ inl less
        | inr (inr more) ↦ absurd (before one' more other' order at)
      ];
}
