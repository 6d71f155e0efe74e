use Rattle.std.proofs.Common.{◌≡◌, ◌+◌, ◌<◌, ◌^◌, drop, false}
use Rattle.kir.specs.Shapes.{op_of, ops_of}
use Rattle.kir.specs.Trees.{Ops}
use Rattle.kir_flow.specs.Flagging.{flagged, live, room}
use Rattle.kir_flow.specs.Sizes.{op_size, size}
use Rattle.kir.specs.Lists.{onto}
use Rattle.kir_flow.proofs.flagging.+flagging.Given as goal

abbrev pub decreases-push_flagged : goal.decreases-push_flagged
decreases-push_flagged a = size (ops_of a.ops.now)

abbrev pub decreases-push_op : goal.decreases-push_op
decreases-push_op a = op_size (op_of a.op.now)

abbrev pub decreases-push_call : goal.decreases-push_call
decreases-push_call a = size (ops_of a.body.now) + 1

abbrev pub decreases-push_loop : goal.decreases-push_loop
decreases-push_loop a = size (ops_of a.head.now) + size (ops_of a.body.now) + size (ops_of a.step.now) + 1

abbrev pub decreases-push_cut_loop : goal.decreases-push_cut_loop
decreases-push_cut_loop a = size (ops_of a.head.now) + size (ops_of a.body.now) + size (ops_of a.step.now)

abbrev pub decreases-push_if : goal.decreases-push_if
decreases-push_if a = size (ops_of a.yes.now) + size (ops_of a.no.now)

abbrev pub decreases-flagged_ops : goal.decreases-flagged_ops
decreases-flagged_ops a = size (ops_of a.ops.now) + 1

abbrev pub decreases-started_ops : goal.decreases-started_ops
decreases-started_ops a = size (ops_of a.ops.now) + 1

abbrev pub decreases-tested_ops : goal.decreases-tested_ops
decreases-tested_ops a = size (ops_of a.ops.now) + 1

abbrev pub decreases-turn_ops : goal.decreases-turn_ops
decreases-turn_ops a = size (ops_of a.body.now) + 2

abbrev pub decreases-push_next : goal.decreases-push_next
decreases-push_next a = op_size (op_of a.op.now) + 1

-- what is made in front of what is left is the whole, and there is room for the flags of what is left
abbrev pub invariant-push_flagged-loop-k : goal.invariant-push_flagged-loop-k
invariant-push_flagged-loop-k l =
    ((c : Ops) → onto l.out.items (flagged l.reached.among l.scope l.reached.sure (ops_of (drop l.k l.ops)) c) ≡ onto l.initial.out.items (flagged false l.scope l.sure (ops_of l.ops) c))
    × (live l.scope + room l.reached.sure (ops_of (drop l.k l.ops)) < 2 ^ 32)
