-- The numbers of turns of the loops that a work-item is in, the innermost loop's first.
use Rattle.std.specs.Prelude.{ℕ, ◌+◌, ◌<◌, List, [], ◌∷◌}
use Rattle.item_acts.specs.Machine.{Step, Go, Ask, Stop}

-- One more turn of the innermost loop is over. The numbers have no last one.
abbrev pub risen : List ℕ → List ℕ
risen [] = []
risen (n ∷ ns) = (n + 1) ∷ ns

-- each number is below this one
abbrev pub EachBelow : ℕ → List ℕ → Type 0
EachBelow k [] = Unit {0}
EachBelow k (n ∷ ns) = (n < k) × EachBelow k ns

-- in each state that a step leads to, each number is below this one
abbrev pub BehindBelow : {S : Type 0} → (S → List ℕ) → ℕ → Step S → Type 0
BehindBelow turns_of k (Go s) = EachBelow k (turns_of s)
BehindBelow turns_of k (Ask a s) = (answer : ℕ) → EachBelow k (turns_of (s answer))
BehindBelow turns_of k (Stop a) = Unit {0}
