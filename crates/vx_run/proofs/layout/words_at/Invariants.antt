use Rattle.std.proofs.Common.{◌≡◌}
use Rattle.vx_run.specs.Layout.{fields_from}
use Rattle.vx_run.proofs.layout.words_at.Given as goal

abbrev pub invariant-loop-k : goal.invariant-loop-k
invariant-loop-k l = l.words.items ≡ fields_from l.memory l.start l.k
