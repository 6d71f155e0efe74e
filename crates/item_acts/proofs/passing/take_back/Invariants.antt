use Rattle.std.proofs.Common.{ℕ, ◌≡◌, ◌+◌, ◌-◌, List, length}
use Rattle.item_acts.specs.Worlds.{HaveAnswered}
use Rattle.item_acts.proofs.passing.take_back.Given as goal

abbrev pub invariant-loop-k : goal.invariant-loop-k
invariant-loop-k l = (length l.lists ≡ length l.initial.lists)
    × ((old : List (List ℕ)) → HaveAnswered l.first l.count old l.initial.lists → HaveAnswered (l.first + l.k) (l.count - l.k) old l.lists)
