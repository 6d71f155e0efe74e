use Rattle.std.proofs.Common.{◌≡◌, ◌+◌, drop}
use Rattle.kir.specs.Shapes.{op_of, ops_of}
use Rattle.uniformity.specs.Marks.{marked}
use Rattle.simt_lowering.specs.Lowered.{ops_end}
use Rattle.simt_lowering.proofs.Sizing.{op_size, size}
use Rattle.simt_lowering.proofs.places.+ends.Given as goal

abbrev pub decreases-ops_end : goal.decreases-ops_end
decreases-ops_end a = size (ops_of a.ops.now)

abbrev pub decreases-op_end : goal.decreases-op_end
decreases-op_end a = op_size (op_of a.op.now)

abbrev pub decreases-if_places : goal.decreases-if_places
decreases-if_places a = size (ops_of a.yes.now) + size (ops_of a.no.now)

abbrev pub decreases-loop_places : goal.decreases-loop_places
decreases-loop_places a = size (ops_of a.head.now) + size (ops_of a.body.now) + size (ops_of a.step.now)

-- what is left ends where the whole ends
abbrev pub invariant-ops_end-loop-k : goal.invariant-ops_end-loop-k
invariant-ops_end-loop-k l = ops_end (marked l.marks) (ops_of (drop l.k l.ops)) l.end ≡ ops_end (marked l.marks) (ops_of l.ops) l.place
