use Rattle.std.proofs.Common.{◌≡◌, drop}
use Rattle.kir.specs.Shapes.{ops_of}
use Rattle.kir_flow.specs.Flagging.{leaves}
use Rattle.kir_flow.proofs.leaving.+leaving.Given as goal

abbrev pub invariant-leaves-loop-k : goal.invariant-leaves-loop-k
invariant-leaves-loop-k l = leaves l.jump (ops_of (drop l.k l.ops)) ≡ leaves l.jump (ops_of l.ops)
