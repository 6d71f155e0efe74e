use Rattle.std.proofs.Common.{◌≡◌, max, drop}
use Rattle.kir.specs.Loops.{loop_nesting}
use Rattle.kir.specs.Shapes.{op_of, ops_of}
use Rattle.simt_lowering.proofs.Sizing.{op_size, size}
use Rattle.simt_lowering.proofs.lowering.+loops.Given as goal

abbrev pub decreases-loops : goal.decreases-loops
decreases-loops a = size (ops_of a.ops.now)

abbrev pub decreases-op_loops : goal.decreases-op_loops
decreases-op_loops a = op_size (op_of a.op.now)

abbrev pub invariant-loops-loop-k : goal.invariant-loops-loop-k
invariant-loops-loop-k l = max l.most (loop_nesting (ops_of (drop l.k l.ops))) ≡ loop_nesting (ops_of l.ops)
