use Rattle.std.proofs.Common.{◌≡◌, ◌+◌, max, drop}
use Rattle.ocl_program.specs.Measures.{cut}
use Rattle.kir.specs.Shapes.{op_of, ops_of}
use Rattle.kir_flow.specs.Flagging.{room}
use Rattle.kir_flow.specs.Sizes.{op_size, size}
use Rattle.kir_flow.proofs.kernels.+room.Given as goal

abbrev pub decreases-room : goal.decreases-room
decreases-room a = size (ops_of a.ops.now)

abbrev pub decreases-op_room : goal.decreases-op_room
decreases-op_room a = op_size (op_of a.op.now)

abbrev pub decreases-call_room : goal.decreases-call_room
decreases-call_room a = size (ops_of a.body.now) + 1

abbrev pub decreases-loop_room : goal.decreases-loop_room
decreases-loop_room a = size (ops_of a.head.now) + size (ops_of a.body.now) + size (ops_of a.step.now)

abbrev pub invariant-room-loop-k : goal.invariant-room-loop-k
invariant-room-loop-k l = max l.most (cut (room l.certain (ops_of (drop l.k l.ops)))) ≡ cut (room l.sure (ops_of l.ops))

abbrev pub decreases-turn_room : goal.decreases-turn_room
decreases-turn_room a = size (ops_of a.body.now) + 1
