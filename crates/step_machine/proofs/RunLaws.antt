-- Runs of the code are runs of the machine.
use Rattle.std.proofs.Common.{◌≡◌, ℕ, suc, ◌+◌, ◌-◌, ◌<◌, ◌≤◌, List, [], ◌∷◌, length, take, drop, get_or, Result, Ok, Err, IfOk, ap, sym, subst, ◌∙◌, arith}
use Rattle.std.proofs.lemmas.List.{take_all}
use Rattle.item_acts.specs.declared.acts.Action.{Action}
use Rattle.item_acts.specs.declared.acts.Asked.{Asked}
use Rattle.item_acts.specs.Machine.{Step, Go, Ask, asked, asked_at_once, asked_behind}
use Rattle.step_machine.specs.declared.runs.Progress.{Progress}
use Rattle.step_machine.specs.Steps.{Advances, GoesBelow, went}
use Rattle.step_machine.specs.Turns.{BehindBelow, EachBelow}

-- ---- one step

-- the first answer, and those that are left
pub split_first : (xs : List ℕ) → 1 ≤ length xs → xs ≡ get_or xs 0 0 ∷ take (length xs - 1) (drop 1 xs)
split_first [] some = absurd (omega arith)
split_first (x ∷ xs) some =
    let rest : length xs ≤ length (x ∷ xs) - 1 = omega arith in
    ap (λ ys. x ∷ ys) (sym (take_all (length (x ∷ xs) - 1) xs rest))

module _ {S : Type 0} where
  -- an inner step
  pub advance_moved : (step : S → Step S) (turns_of : S → List ℕ) (before after : S) (answers : List ℕ) (progress : Progress)
      → ((s : S) (k : ℕ) → EachBelow k (turns_of s) → BehindBelow turns_of (suc k) (step s))
      → step before ≡ Go after → ((next : List ℕ → Asked) → went progress next ≡ next answers)
      → ((k : ℕ) → EachBelow k (turns_of after) → GoesBelow progress k (turns_of after)) → Advances step turns_of before answers after progress
  advance_moved step turns_of before after answers progress rises e same goes = record {
    asks = λ n. ap (λ x. asked_behind (asked step n) x answers) e ∙ sym (same (asked step n after));
    below = λ k low. goes (suc k) (subst (BehindBelow turns_of (suc k)) e (rises before k low));
  }

  -- a step that asks, with an answer
  pub advance_told : (step : S → Step S) (turns_of : S → List ℕ) (before after : S) (answers : List ℕ) (progress : Progress) (action : Action) (behind : ℕ → S) (answer : ℕ) (more : List ℕ)
      → ((s : S) (k : ℕ) → EachBelow k (turns_of s) → BehindBelow turns_of (suc k) (step s))
      → step before ≡ Ask action behind → answers ≡ answer ∷ more → after ≡ behind answer → ((next : List ℕ → Asked) → went progress next ≡ next more)
      → ((k : ℕ) → EachBelow k (turns_of after) → GoesBelow progress k (turns_of after)) → Advances step turns_of before answers after progress
  advance_told step turns_of before after answers progress action behind answer more rises e e' e'' same goes = record {
    asks = λ n. ap (λ x. asked_behind (asked step n) x answers) e ∙ ap (λ xs. asked_behind (asked step n) (Ask action behind) xs) e'
        ∙ ap (λ s. asked step n s more) (sym e'') ∙ sym (same (asked step n after));
    below = λ k low. goes (suc k) (subst (λ s. EachBelow (suc k) (turns_of s)) (sym e'') (subst (BehindBelow turns_of (suc k)) e (rises before k low) answer));
  }

-- ---- runs

module _ {S : Type 0} where
  -- what holds before the step number i of a run
  pub record Going (step : S → Step S) (turns_of : S → List ℕ) (i fuel : ℕ) (s : S) (rest : List ℕ) (start : S) (answers : List ℕ) : Type 0 where
    pub asks : asked step (fuel - i) s rest ≡ asked step fuel start answers
    pub below : EachBelow i (turns_of s)
    pub within : i ≤ fuel

  pub going_first : (step : S → Step S) (turns_of : S → List ℕ) (fuel : ℕ) (start : S) (answers : List ℕ) → EachBelow 0 (turns_of start)
      → Going step turns_of 0 fuel start answers start answers
  going_first step turns_of fuel start answers low =
      let whole : fuel - 0 ≡ fuel = omega arith in
      record { asks = ap (λ n. asked step n start answers) whole; below = low; within = omega arith }

  -- one step more of a run
  pub going_on : (step : S → Step S) (turns_of : S → List ℕ) (i fuel : ℕ) (s s' : S) (rest more : List ℕ) (start : S) (answers : List ℕ) → i < fuel
      → Going step turns_of i fuel s rest start answers → ((n : ℕ) → asked step (suc n) s rest ≡ asked step n s' more) → EachBelow (suc i) (turns_of s')
      → Going step turns_of (i + 1) fuel s' more start answers
  going_on step turns_of i fuel s s' rest more start answers below h turn low =
      let left_over : suc (fuel - (i + 1)) ≡ fuel - i = omega arith in
      let next : suc i ≡ i + 1 = omega arith in
      record {
        asks = sym (turn (fuel - (i + 1))) ∙ ap (λ n. asked step n s rest) left_over ∙ h.asks;
        below = subst (λ k. EachBelow k (turns_of s')) next low;
        within = omega arith;
      }

  -- the last step of a run
  pub going_done : (step : S → Step S) (turns_of : S → List ℕ) (i fuel : ℕ) (s : S) (rest : List ℕ) (start : S) (answers : List ℕ) (a : Asked) → i < fuel
      → Going step turns_of i fuel s rest start answers → ((n : ℕ) → asked step (suc n) s rest ≡ a) → a ≡ asked step fuel start answers
  going_done step turns_of i fuel s rest start answers a below h turn =
      let left_over : suc (fuel - (i + 1)) ≡ fuel - i = omega arith in
      sym (turn (fuel - (i + 1))) ∙ ap (λ n. asked step n s rest) left_over ∙ h.asks

  -- a run whose steps are all made
  pub going_end : {E : Type 0} (r : Result Asked E) (step : S → Step S) (turns_of : S → List ℕ) (i fuel : ℕ) (s : S) (rest : List ℕ) (start : S) (answers : List ℕ) → fuel ≤ i
      → Going step turns_of i fuel s rest start answers → IfOk r (λ a. a ≡ asked_at_once (step s) rest) → IfOk r (λ a. a ≡ asked step fuel start answers)
  going_end (Ok a) step turns_of i fuel s rest start answers over h last =
      let none : 0 ≡ fuel - i = omega arith in
      last ∙ ap (λ n. asked step n s rest) none ∙ h.asks
  going_end (Err fault) step turns_of i fuel s rest start answers over h last = last
