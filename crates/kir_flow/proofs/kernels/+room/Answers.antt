use Rattle.std.proofs.Common.{◌≡◌, ◌+◌, max, not, ◌&&◌, drop, ap, sym, ◌∙◌, refl, arith, true, false}
use Rattle.ocl_program.specs.Measures.{cut}
use Rattle.kir.specs.Shapes.{op_of, operand_of, ops_of}
use Rattle.kir.specs.Trees.{If, Loop, Call, AndOp, NumberOf}
use Rattle.kir.proofs.Rows.{call_seen, if_seen, loop_seen}
use Rattle.kir_flow.specs.Flagging.{op_room, room}
use Rattle.kir_flow.specs.Sizes.{op_size, size}
use Rattle.kir_flow.specs.Views.{turn_room}
use Rattle.kir_flow.proofs.Emitting.{cut_both, cut_room, two_more, first_of, loop_room, none_of, room_done, room_more, size_at, some_size}
use Rattle.kir_flow.proofs.kernels.+room.Goals as goal

pub room-op_room-requires : goal.room-op_room-requires
room-op_room-requires t c =
    let ops = c.args.ops.now in
    let k = c.loop-k.k in
    let op = c.index-ops-k.result in
    let sized = size_at ops k op c.loop-k-test.true c.index-ops-k.is in
    omega (arith, sized)

pub room-loop-k-preserved : goal.room-loop-k-preserved
room-loop-k-preserved t c =
    let ops = c.args.ops.now in
    let k = c.loop-k.k in
    let op = c.index-ops-k.result in
    let rest = ops_of (drop (k + 1) ops) in
    let sure = c.loop-k.certain in
    let here : max c.loop-k.most (cut (room sure (AndOp (op_of op) rest))) ≡ cut (room c.args.sure (ops_of ops)) =
    ap (λ x. max c.loop-k.most (cut (room sure x))) (sym (first_of ops k op c.loop-k-test.true c.index-ops-k.is)) ∙ c.loop-k.invariant in
    room_more c.loop-k.most (cut (room c.args.sure (ops_of ops))) c.max-most.result sure c.both-certain.result (op_of op) rest here
    (c.max-most.ensures ∙ ap (max c.loop-k.most) c.op_room.ensures) (c.both-certain.ensures ∙ ap (λ b. sure && not b) c.op_is_left.ensures)

pub room-returns : goal.room-returns
room-returns t c =
    room_done c.loop-k.most (cut (room c.args.sure (ops_of c.args.ops.now))) (cut (room c.loop-k.certain (ops_of (drop c.loop-k.k c.args.ops.now)))) c.loop-k.invariant
    (ap (λ x. cut (room c.loop-k.certain x)) (none_of c.args.ops.now c.loop-k.k c.loop-k-test.false))

pub op_room-returns-in-Call : goal.op_room-returns-in-Call
op_room-returns-in-Call t c = rw (call_seen _ _ _ c.in-Call.is c.as_slice-in-Call.ensures.value) c.call_room.ensures

pub op_room-returns-in-If : goal.op_room-returns-in-If
op_room-returns-in-If t c =
    let node = if_seen c.args.op.now c.in-If.test c.in-If.yes c.in-If.no c.as_slice.result.now c.as_slice-in-If.result.now c.in-If.is c.as_slice.ensures.value c.as_slice-in-If.ensures.value in
    c.max.ensures ∙ cut_both _ _ (room c.args.sure (ops_of c.as_slice.result.now)) (room c.args.sure (ops_of c.as_slice-in-If.result.now)) c.room.ensures c.room-in-If.ensures
    ∙ sym (ap (λ o. cut (op_room c.args.sure o)) node)

pub op_room-returns-in-Loop : goal.op_room-returns-in-Loop
op_room-returns-in-Loop t c =
    let node = loop_seen c.args.op.now c.in-Loop.head c.in-Loop.test c.in-Loop.body c.in-Loop.step c.as_slice-in-Loop.result.now c.as_slice-in-Loop-2.result.now c.as_slice-in-Loop-3.result.now
    c.in-Loop.is c.as_slice-in-Loop.ensures.value c.as_slice-in-Loop-2.ensures.value c.as_slice-in-Loop-3.ensures.value in
    c.loop_room.ensures ∙ sym (ap (λ o. cut (op_room c.args.sure o)) node)

pub op_room-room-requires : goal.op_room-room-requires
op_room-room-requires t c =
    let one = ops_of c.as_slice.result.now in
    let other = ops_of c.in-If.no.items in
    let node : op_of c.args.op.now ≡ If (operand_of c.in-If.test) one other =
    if_seen c.args.op.now c.in-If.test c.in-If.yes c.in-If.no c.as_slice.result.now c.in-If.no.items c.in-If.is c.as_slice.ensures.value refl in
    let sized : op_size (op_of c.args.op.now) ≡ size one + size other + 1 = ap op_size node in
    omega (arith, sized)

pub op_room-room-requires-in-If : goal.op_room-room-requires-in-If
op_room-room-requires-in-If t c =
    let one = ops_of c.as_slice.result.now in
    let other = ops_of c.as_slice-in-If.result.now in
    let node : op_of c.args.op.now ≡ If (operand_of c.in-If.test) one other =
    if_seen c.args.op.now c.in-If.test c.in-If.yes c.in-If.no c.as_slice.result.now c.as_slice-in-If.result.now c.in-If.is c.as_slice.ensures.value c.as_slice-in-If.ensures.value in
    let sized : op_size (op_of c.args.op.now) ≡ size one + size other + 1 = ap op_size node in
    omega (arith, sized)

pub op_room-loop_room-requires : goal.op_room-loop_room-requires
op_room-loop_room-requires t c =
    let head = ops_of c.as_slice-in-Loop.result.now in
    let body = ops_of c.as_slice-in-Loop-2.result.now in
    let step = ops_of c.as_slice-in-Loop-3.result.now in
    let node : op_of c.args.op.now ≡ Loop head (operand_of c.in-Loop.test) body step =
    loop_seen c.args.op.now c.in-Loop.head c.in-Loop.test c.in-Loop.body c.in-Loop.step c.as_slice-in-Loop.result.now c.as_slice-in-Loop-2.result.now c.as_slice-in-Loop-3.result.now
    c.in-Loop.is c.as_slice-in-Loop.ensures.value c.as_slice-in-Loop-2.ensures.value c.as_slice-in-Loop-3.ensures.value in
    let sized : op_size (op_of c.args.op.now) ≡ size head + size body + size step + 2 = ap op_size node in
    omega (arith, sized)

pub op_room-call_room-requires : goal.op_room-call_room-requires
op_room-call_room-requires t c =
    let body = ops_of c.as_slice-in-Call.result.now in
    let node : op_of c.args.op.now ≡ Call body = call_seen c.args.op.now c.in-Call.body c.as_slice-in-Call.result.now c.in-Call.is c.as_slice-in-Call.ensures.value in
    let sized : op_size (op_of c.args.op.now) ≡ size body + 2 = ap op_size node in
    omega (arith, sized)

pub loop_room-returns-then-is_flagged : goal.loop_room-returns-then-is_flagged
loop_room-returns-then-is_flagged t c =
    let head = ops_of c.args.head.now in
    let body = ops_of c.args.body.now in
    let step = ops_of c.args.step.now in
    let inner = c.max-inside.ensures ∙ cut_both _ _ (room true body) (room false step) c.room.ensures c.room-then-is_flagged.ensures in
    let outer = c.max.ensures ∙ cut_both _ _ (room false head) (max (room true body) (room false step)) c.room-then-is_flagged-2.ensures inner in
    c.saturating_add.ensures ∙ two_more c.max.result (max (room false head) (max (room true body) (room false step))) outer
    ∙ sym (ap cut (cut_room c.args.sure head (NumberOf 0) body step (sym c.is_flagged.ensures ∙ c.if-is_flagged.true)))

pub loop_room-room-requires : goal.loop_room-room-requires
loop_room-room-requires t c =
    let one = some_size (ops_of c.args.body.now) in
    let other = some_size (ops_of c.args.step.now) in
    omega (arith, one, other)

pub loop_room-room-requires-then-is_flagged : goal.loop_room-room-requires-then-is_flagged
loop_room-room-requires-then-is_flagged t c =
    let one = some_size (ops_of c.args.head.now) in
    let other = some_size (ops_of c.args.step.now) in
    omega (arith, one, other)

pub loop_room-room-requires-then-is_flagged-2 : goal.loop_room-room-requires-then-is_flagged-2
loop_room-room-requires-then-is_flagged-2 t c =
    let one = some_size (ops_of c.args.head.now) in
    let other = some_size (ops_of c.args.body.now) in
    omega (arith, one, other)

pub loop_room-room-requires-2 : goal.loop_room-room-requires-2
loop_room-room-requires-2 t c =
    let one = some_size (ops_of c.args.body.now) in
    let other = some_size (ops_of c.args.step.now) in
    omega (arith, one, other)

pub loop_room-turn_room-requires : goal.loop_room-turn_room-requires
loop_room-turn_room-requires t c =
    let one = some_size (ops_of c.args.head.now) in
    let other = some_size (ops_of c.args.step.now) in
    omega (arith, one, other)

pub loop_room-room-requires-3 : goal.loop_room-room-requires-3
loop_room-room-requires-3 t c =
    let one = some_size (ops_of c.args.head.now) in
    let other = some_size (ops_of c.args.body.now) in
    omega (arith, one, other)

pub loop_room-returns : goal.loop_room-returns
loop_room-returns t c =
    let head = ops_of c.args.head.now in
    let body = ops_of c.args.body.now in
    let step = ops_of c.args.step.now in
    let inner = c.max-2.ensures ∙ cut_both _ _ (turn_room body) (room true step) c.turn_room.ensures c.room-3.ensures in
    c.max-3.ensures ∙ cut_both _ _ (room true head) (max (turn_room body) (room true step)) c.room-2.ensures inner
    ∙ sym (ap cut (loop_room c.args.sure head (NumberOf 0) body step (sym c.is_flagged.ensures ∙ c.if-is_flagged.false)))
