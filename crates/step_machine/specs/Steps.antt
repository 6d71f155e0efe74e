-- What the code of a machine finds in a step, and what it asks for behind it.
use Rattle.std.specs.Prelude.{◌≡◌, ℕ, suc, List, [], ◌∷◌}
use Rattle.item_acts.specs.declared.acts.Action.{Action}
use Rattle.item_acts.specs.declared.acts.Asked.{Asked}
use Rattle.item_acts.specs.declared.acts.Asked.TheVariants.{Act, Running}
use Rattle.item_acts.specs.Machine.{Step, Go, Ask, Stop, asked}
use Rattle.step_machine.specs.declared.runs.Progress.{Progress}
use Rattle.step_machine.specs.declared.runs.Progress.TheVariants.{GoesOn, Reached}
use Rattle.step_machine.specs.declared.steps.Found.{Found}
use Rattle.step_machine.specs.declared.steps.Found.TheVariants.{Moved, Asks, Stops}
use Rattle.step_machine.specs.Turns.{EachBelow}

-- what a step found, where the state behind it is this one, and an answer makes another of it
abbrev pub shown : {K S : Type 0} → (K → ℕ → S → S) → Found K → S → Step S
shown told Moved s = Go s
shown told (Asks a kept) s = Ask a (λ answer. told kept answer s)
shown told (Stops a) s = Stop a

-- an action, where no answer is left
abbrev pub without_answers : Action → List ℕ → Asked
without_answers action [] = Act action
without_answers action (answer ∷ answers) = Running

-- what is asked for behind a step, by what is asked for after the answers that are left
abbrev pub went : Progress → (List ℕ → Asked) → Asked
went (GoesOn answers) next = next answers.now
went (Reached a) next = a

-- where the run goes on, each number of turns is below this one
abbrev pub GoesBelow : Progress → ℕ → List ℕ → Type 0
GoesBelow (GoesOn answers) k turns = EachBelow k turns
GoesBelow (Reached a) k turns = Unit {0}

-- One step, and an answer where it asks for one: from the state before, with these answers, to the state after. What is asked for stays
-- the same, and numbers of turns rise by at most one.
pub record Advances {S : Type 0} (step : S → Step S) (turns_of : S → List ℕ) (before : S) (answers : List ℕ) (after : S) (progress : Progress) : Type 0 where
  pub asks : (n : ℕ) → asked step (suc n) before answers ≡ went progress (asked step n after)
  pub below : (k : ℕ) → EachBelow k (turns_of before) → GoesBelow progress (suc k) (turns_of after)
