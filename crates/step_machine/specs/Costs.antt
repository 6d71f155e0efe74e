-- What the first steps of a machine cost, where each state has the cost of the step from it. A machine that waits for an answer
-- that it is not given makes no step.
use Rattle.std.specs.Prelude.{ℕ, zero, suc, ◌+◌, List, [], ◌∷◌}
use Rattle.item_acts.specs.Machine.{Step, Go, Ask, Stop}

abbrev pub spent_behind : {S : Type 0} → (S → List ℕ → ℕ) → ℕ → Step S → List ℕ → ℕ
spent_behind next cost (Go s) answers = cost + next s answers
spent_behind next cost (Ask a s) [] = 0
spent_behind next cost (Ask a s) (answer ∷ answers) = cost + next (s answer) answers
spent_behind next cost (Stop a) answers = 0

-- what the first n small steps cost
abbrev pub spent : {S : Type 0} → (S → Step S) → (S → ℕ) → ℕ → S → List ℕ → ℕ
spent step cost zero s answers = 0
spent step cost (suc n) s answers = spent_behind (spent step cost n) (cost s) (step s) answers
