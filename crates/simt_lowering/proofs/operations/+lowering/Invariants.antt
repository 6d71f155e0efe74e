use Rattle.std.proofs.Common.{◌≡◌, ◌+◌, List, drop}
use Rattle.kir.specs.Shapes.{op_of, ops_of}
use Rattle.vcode.specs.Code.{VOp}
use Rattle.vcode.specs.Shapes.{onto}
use Rattle.simt_lowering.specs.Lowered.{lowered, ops_end}
use Rattle.simt_lowering.specs.Views.{known_in}
use Rattle.simt_lowering.proofs.Sizing.{op_size, size}
use Rattle.simt_lowering.proofs.operations.+lowering.Given as goal

abbrev pub decreases-put_ops : goal.decreases-put_ops
decreases-put_ops a = size (ops_of a.ops.now)

abbrev pub decreases-put_op : goal.decreases-put_op
decreases-put_op a = op_size (op_of a.op.now)

abbrev pub decreases-put_if : goal.decreases-put_if
decreases-put_if a = size (ops_of a.yes.now) + size (ops_of a.no.now)

abbrev pub decreases-put_loop : goal.decreases-put_loop
decreases-put_loop a = size (ops_of a.head.now) + size (ops_of a.body.now) + size (ops_of a.step.now)

-- what is put in front of what is left is the whole, and what is left ends where the whole ends
abbrev pub invariant-put_ops-loop-k : goal.invariant-put_ops-loop-k
invariant-put_ops-loop-k l =
    ((c : List VOp) → onto l.out.items (lowered (known_in l.known) l.depth (ops_of (drop l.k l.ops)) l.at c) ≡ onto l.initial.out.items (lowered (known_in l.known) l.depth (ops_of l.ops) l.place c))
    × (ops_end (known_in l.known).marks (ops_of (drop l.k l.ops)) l.at ≡ ops_end (known_in l.known).marks (ops_of l.ops) l.place)
