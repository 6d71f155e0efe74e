-- Two machines that ask for the same: what a translation of programs keeps, for every list of answers.
use Rattle.std.specs.Prelude.{◌≡◌, ℕ, ◌≤◌, List}
use Rattle.item_acts.specs.declared.acts.Action.{Action}
use Rattle.item_acts.specs.declared.acts.Asked.TheVariants.{Act}
use Rattle.item_acts.specs.Machine.{Step, asked, Asks}
use Rattle.step_machine.specs.Costs.{spent}

-- from this state, after these answers, this action is asked for, and at most so much is spent until then
pub record AsksWithin {S : Type 0} (step : S → Step S) (cost : S → ℕ) (s : S) (answers : List ℕ) (a : Action) (most : ℕ) : Type 0 where
  pub steps : ℕ
  pub asks : asked step steps s answers ≡ Act a
  pub within : spent step cost steps s answers ≤ most

-- The second machine asks for what the first asks for, and for nothing else, and spends no more until then.
pub record AskAlike {S T : Type 0} (first : S → Step S) (second : T → Step T) (cost : S → ℕ) (cost' : T → ℕ) (s : S) (t : T) : Type 0 where
  pub kept : (n : ℕ) (answers : List ℕ) (a : Action) → asked first n s answers ≡ Act a
      → AsksWithin second cost' t answers a (spent first cost n s answers)
  pub no_more : (answers : List ℕ) (a : Action) → Asks second t answers a → Asks first s answers a
