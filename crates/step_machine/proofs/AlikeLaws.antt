-- Machines that ask alike: each like itself, and one after another.
use Rattle.std.proofs.Common.{ℕ, ◌≤◌, arith}
use Rattle.item_acts.specs.Machine.{Step}
use Rattle.step_machine.specs.Costs.{spent}
use Rattle.step_machine.specs.Alike.{AskAlike}

pub alike_self : {S : Type 0} (step : S → Step S) (cost : S → ℕ) (s : S) → AskAlike step step cost cost s s
alike_self step cost s = record {
  kept = λ n answers a e. record { steps = n; asks = e; within = omega arith };
  no_more = λ answers a asks. asks;
}

pub alike_on : {S T U : Type 0} (f : S → Step S) (g : T → Step T) (h : U → Step U) (cost : S → ℕ) (cost' : T → ℕ) (cost'' : U → ℕ) (s : S) (t : T) (u : U)
    → AskAlike f g cost cost' s t → AskAlike g h cost' cost'' t u → AskAlike f h cost cost'' s u
alike_on f g h cost cost' cost'' s t u one other = record {
  kept = λ n answers a e.
      let there = one.kept n answers a e in
      let beyond = other.kept there.steps answers a there.asks in
      let less : spent g cost' there.steps t answers ≤ spent f cost n s answers = there.within in
      let less' : spent h cost'' beyond.steps u answers ≤ spent g cost' there.steps t answers = beyond.within in
      record { steps = beyond.steps; asks = beyond.asks; within = omega arith };
  no_more = λ answers a asks. one.no_more answers a (other.no_more answers a asks);
}
