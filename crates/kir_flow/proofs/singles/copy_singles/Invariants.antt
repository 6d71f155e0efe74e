use Rattle.std.proofs.Common.{◌≡◌, drop}
use Rattle.kir.specs.Shapes.{ops_of}
use Rattle.kir_flow.specs.Flagging.{singles}
use Rattle.kir.specs.Lists.{onto}
use Rattle.kir_flow.proofs.singles.copy_singles.Given as goal

abbrev pub invariant-loop-k : goal.invariant-loop-k
invariant-loop-k l = onto l.copy.items (singles (ops_of (drop l.k l.ops))) ≡ singles (ops_of l.ops)
