use Rattle.std.specs.Prelude.{◌≡◌, ℕ, zero, suc, List, [], ◌∷◌}
use Rattle.item_acts.specs.declared.acts.Action.{Action}
use Rattle.item_acts.specs.declared.acts.Asked.{Asked}
use Rattle.item_acts.specs.declared.acts.Asked.TheVariants.{Act, Running}

-- One small step of a work-item from a state: an inner step, an action with the state for each answer, or an action
-- that has no answer.
pub data Step (S : Type 0) : Type 0 where
  Go : S → Step S
  Ask : Action → (ℕ → S) → Step S
  Stop : Action → Step S

-- what a step asks for where no further step is made
abbrev pub asked_at_once : {S : Type 0} → Step S → List ℕ → Asked
asked_at_once (Go s) answers = Running
asked_at_once (Ask a s) [] = Act a
asked_at_once (Ask a s) (answer ∷ answers) = Running
asked_at_once (Stop a) [] = Act a
asked_at_once (Stop a) (answer ∷ answers) = Running

-- what is asked behind a step, by what is asked from each state that it leads to
abbrev pub asked_behind : {S : Type 0} → (S → List ℕ → Asked) → Step S → List ℕ → Asked
asked_behind next (Go s) answers = next s answers
asked_behind next (Ask a s) [] = Act a
asked_behind next (Ask a s) (answer ∷ answers) = next (s answer) answers
asked_behind next (Stop a) [] = Act a
asked_behind next (Stop a) (answer ∷ answers) = Running

-- The next action: what is asked for after these answers, if at most n small steps lead there. To take an answer is a
-- step.
abbrev pub asked : {S : Type 0} → (S → Step S) → ℕ → S → List ℕ → Asked
asked step zero s answers = asked_at_once (step s) answers
asked step (suc n) s answers = asked_behind (asked step n) (step s) answers

-- from this state, after these answers, this action is asked for
abbrev pub Asks : {S : Type 0} → (S → Step S) → S → List ℕ → Action → Type 0
Asks step s answers a = (n : ℕ) × (asked step n s answers ≡ Act a)
