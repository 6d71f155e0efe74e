-- The rule of the shared word, over the word and what all claimers know, and what its steps tell.
use Rattle.std.specs.Prelude.{◌≡◌, ℕ, ◌+◌, ◌-◌, ◌<◌, ◌≤◌, List, [], ◌∷◌, ◌++◌, length, All, sum_by}
use Rattle.std.specs.List.{concat, range_with_len}
use mathlib.Core.Option.{some}
use lib.ListN.{get_elem?}
use Rattle.atomic_table.specs.Table.{State}
use Rattle.group_dispenser.specs.declared.rule.Share.{Share}
use Rattle.group_dispenser.specs.Tickets.{AreDrawn, first_of, rest_of}

abbrev pub share : ℕ → List (List ℕ) → Share
share spare lists = record { spare = spare; lists = lists }

-- the claimers that it may make, and those whose tickets it has
abbrev pub parts : Share → ℕ
parts v = v.spare + length v.lists

abbrev pub total : (Share → ℕ) → List Share → ℕ
total f [] = 0
total f (v ∷ vs) = f v + total f vs

-- the tickets that it has, each weighed by h
abbrev pub weight : (ℕ → ℕ) → Share → ℕ
weight h v = sum_by h (concat v.lists)

-- The word is the next ticket. There are at most nine claimers in all, each of which has drawn at most one ticket that
-- stands for no group; and the tickets that were drawn are the numbers below the word, each once, however they are weighed
pub record DispenserHolds (groups : ℕ) (s : State (Unit {0}) Share) : Type 0 where
  pub next : ℕ
  pub word : s.words ≡ next ∷ []
  pub few : groups ≤ 65536
  pub nine : total parts s.views ≡ 9
  pub once : (h : ℕ → ℕ) → total (weight h) s.views ≡ sum_by h (range_with_len 0 next)
  pub each : (id : ℕ) (v : Share) → get_elem? s.views id ≡ some v → All (AreDrawn groups next) v.lists

-- a ticket above its earlier ones was drawn
pub record Draws (v : Share) (ticket : ℕ) (w : Share) : Type 0 where
  pub spare : w.spare ≡ v.spare
  pub lists : w.lists ≡ (first_of v.lists ++ ticket ∷ []) ∷ rest_of v.lists
  pub above : All (λ t. t < ticket) (first_of v.lists)

-- one who makes a claimer may make one less
abbrev pub maker_left : Share → Share
maker_left v = share (v.spare - 1) v.lists

-- a new claimer has drawn nothing and makes none
abbrev pub newcomer : Share
newcomer = share 0 ([] ∷ [])

abbrev pub both : Share → Share → Share
both v w = share (v.spare + w.spare) (v.lists ++ w.lists)

abbrev pub nothing : Share
nothing = share 0 []
