use Rattle.item_acts.specs.Worlds.{HaveAnswered}
use Rattle.item_acts.proofs.passing.answer_all.Given as goal

abbrev pub invariant-loop-k : goal.invariant-loop-k
invariant-loop-k l = HaveAnswered l.first l.k l.initial.lists l.lists
