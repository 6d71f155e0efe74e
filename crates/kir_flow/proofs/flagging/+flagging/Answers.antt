use Rattle.std.proofs.Common.{◌≡◌, ◌+◌, ◌<◌, ◌^◌, max, drop, ap, sym, subst, ◌∙◌, arith, true, false}
use Rattle.kir.specs.Shapes.{op_of, operand_of, ops_of}
use Rattle.kir.specs.Trees.{If, Loop, Call, Ops, AndOp, NoOps}
use Rattle.kir.proofs.Rows.{call_seen, if_seen, loop_seen}
use Rattle.kir_flow.specs.Flagging.{flagged, live, op_room, room}
use Rattle.kir_flow.specs.Sizes.{op_size, size}
use Rattle.kir.specs.Lists.{onto, set_op}
use Rattle.kir.proofs.Putting.{made_of, made_on}
use Rattle.kir_flow.specs.Views.{test_op, turn_of, turn_room}
use Rattle.kir_flow.proofs.Emitting.{first_of, left_max, loop_is, loop_room, on_done, right_max, room_here, size_at, some_size}
use Rattle.kir_flow.proofs.flagging.+flagging.Goals as goal

pub push_flagged-push_next-requires : goal.push_flagged-push_next-requires
push_flagged-push_next-requires t c =
    let ops = c.args.ops.now in
    let k = c.loop-k.k in
    let op = c.index-ops-k.result in
    let sure = c.loop-k.reached.sure in
    let sized : op_size (op_of op) + 1 < size (ops_of ops) = size_at ops k op c.loop-k-test.true c.index-ops-k.is in
    let smaller : op_size (op_of op) + 1 < t = omega (arith, sized) in
    let fits : live c.args.scope + room sure (AndOp (op_of op) (ops_of (drop (k + 1) ops))) < 2 ^ 32 =
    subst (λ (x : Ops). live c.args.scope + room sure x < 2 ^ 32) (first_of ops k op c.loop-k-test.true c.index-ops-k.is) c.loop-k.invariant.1 in
    (smaller, room_here (live c.args.scope) sure (op_of op) (ops_of (drop (k + 1) ops)) fits)

pub flagged_ops-returns : goal.flagged_ops-returns
flagged_ops-returns t c =
    made_of c.new-list.result.items c.push_flagged.new.out.items (flagged false c.args.scope c.args.sure (ops_of c.args.ops.now)) c.new-list.ensures.items c.in_ok-push_flagged.ensures

pub started_ops-returns : goal.started_ops-returns
started_ops-returns t c =
    made_on c.new-list.result.items c.put_set.new.ops.items c.push_flagged.new.out.items (set_op c.args.flag (operand_of c.args.value)) (flagged false c.args.scope c.args.sure (ops_of c.args.ops.now))
    c.new-list.ensures.items c.in_ok-put_set.ensures c.in_ok-push_flagged.ensures

pub tested_ops-returns : goal.tested_ops-returns
tested_ops-returns t c =
    made_on c.new-list.result.items c.push_flagged.new.out.items c.put.new.ops.items (flagged false c.args.scope false (ops_of c.args.ops.now)) (test_op c.args.flag (operand_of c.args.test))
    c.new-list.ensures.items c.in_ok-push_flagged.ensures c.in_ok-put.ensures

pub push_op-returns-in-Call : goal.push_op-returns-in-Call
push_op-returns-in-Call t c = rw (call_seen _ _ _ c.in-Call.is c.as_slice-in-Call.ensures.value) c.push_call.ensures

pub push_op-returns-in-If : goal.push_op-returns-in-If
push_op-returns-in-If t c = rw (if_seen _ _ _ _ _ _ c.in-If.is c.as_slice.ensures.value c.as_slice-in-If.ensures.value) c.push_if.ensures

pub push_op-returns-in-Loop : goal.push_op-returns-in-Loop
push_op-returns-in-Loop t c =
    rw (loop_seen _ _ _ _ _ _ _ _ c.in-Loop.is c.as_slice-in-Loop.ensures.value c.as_slice-in-Loop-2.ensures.value c.as_slice-in-Loop-3.ensures.value) c.push_loop.ensures

pub push_op-push_if-requires : goal.push_op-push_if-requires
push_op-push_if-requires t c =
    let one = ops_of c.as_slice.result.now in
    let other = ops_of c.as_slice-in-If.result.now in
    let node : op_of c.args.op.now ≡ If (operand_of c.in-If.test) one other =
    if_seen c.args.op.now c.in-If.test c.in-If.yes c.in-If.no c.as_slice.result.now c.as_slice-in-If.result.now c.in-If.is c.as_slice.ensures.value c.as_slice-in-If.ensures.value in
    let sized : op_size (op_of c.args.op.now) ≡ size one + size other + 1 = ap op_size node in
    let smaller : size one + size other < t = omega (arith, sized) in
    (smaller, subst (λ o. live c.args.scope + op_room c.args.sure o < 2 ^ 32) node c.requires.room)

pub push_op-push_loop-requires : goal.push_op-push_loop-requires
push_op-push_loop-requires t c =
    let head = ops_of c.as_slice-in-Loop.result.now in
    let body = ops_of c.as_slice-in-Loop-2.result.now in
    let step = ops_of c.as_slice-in-Loop-3.result.now in
    let node : op_of c.args.op.now ≡ Loop head (operand_of c.in-Loop.test) body step =
    loop_seen c.args.op.now c.in-Loop.head c.in-Loop.test c.in-Loop.body c.in-Loop.step c.as_slice-in-Loop.result.now c.as_slice-in-Loop-2.result.now c.as_slice-in-Loop-3.result.now
    c.in-Loop.is c.as_slice-in-Loop.ensures.value c.as_slice-in-Loop-2.ensures.value c.as_slice-in-Loop-3.ensures.value in
    let sized : op_size (op_of c.args.op.now) ≡ size head + size body + size step + 2 = ap op_size node in
    let smaller : size head + size body + size step + 1 < t = omega (arith, sized) in
    (smaller, subst (λ o. live c.args.scope + op_room c.args.sure o < 2 ^ 32) node c.requires.room)

pub push_op-push_call-requires : goal.push_op-push_call-requires
push_op-push_call-requires t c =
    let body = ops_of c.as_slice-in-Call.result.now in
    let node : op_of c.args.op.now ≡ Call body = call_seen c.args.op.now c.in-Call.body c.as_slice-in-Call.result.now c.in-Call.is c.as_slice-in-Call.ensures.value in
    let sized : op_size (op_of c.args.op.now) ≡ size body + 2 = ap op_size node in
    let smaller : size body + 1 < t = omega (arith, sized) in
    (smaller, subst (λ o. live c.args.scope + op_room c.args.sure o < 2 ^ 32) node c.requires.room)

pub push_if-flagged_ops-requires : goal.push_if-flagged_ops-requires
push_if-flagged_ops-requires t c =
    let one = ops_of c.args.yes.now in
    let other = ops_of c.args.no.now in
    let more = some_size other in
    let part = left_max (room c.args.sure one) (room c.args.sure other) in
    let smaller : size one + 1 < t = omega (arith, more) in
    let fits : live c.args.scope + room c.args.sure one < 2 ^ 32 = let h = c.requires.room in omega (arith, part, h) in
    (smaller, fits)

pub push_if-flagged_ops-requires-2 : goal.push_if-flagged_ops-requires-2
push_if-flagged_ops-requires-2 t c =
    let one = ops_of c.args.yes.now in
    let other = ops_of c.args.no.now in
    let more = some_size one in
    let part = right_max (room c.args.sure one) (room c.args.sure other) in
    let smaller : size other + 1 < t = omega (arith, more) in
    let fits : live c.args.scope + room c.args.sure other < 2 ^ 32 = let h = c.requires.room in omega (arith, part, h) in
    (smaller, fits)

pub push_loop-returns : goal.push_loop-returns
push_loop-returns t c =
    let f = c.args.scope in
    let sure = c.args.sure in
    let head = ops_of c.args.head.now in
    let body = ops_of c.args.body.now in
    let step = ops_of c.args.step.now in
    let test = operand_of c.args.test in
    let before = flagged false f true head NoOps in
    let behind = flagged false f true step NoOps in
    let whole = sym c.is_flagged.ensures ∙ c.if-is_flagged.false in
    let node = c.loop_op.ensures ∙ ap (λ x. Loop x test (ops_of c.in_ok-turn.turn.items) (ops_of c.in_ok-behind.behind.items)) c.in_ok-before.ensures
    ∙ ap (λ x. Loop before test x (ops_of c.in_ok-behind.behind.items)) c.in_ok-turn.ensures ∙ ap (λ x. Loop before test (turn_of f body) x) c.in_ok-behind.ensures in
    on_done c.put.result
    (λ puts c'. puts c' ∙ ap (λ o. onto c.args.out.now.items (AndOp o c')) node ∙ ap (onto c.args.out.now.items) (sym (loop_is f sure head test body step c' whole)))
    c.put.ensures

pub push_loop-flagged_ops-requires : goal.push_loop-flagged_ops-requires
push_loop-flagged_ops-requires t c =
    let head = ops_of c.args.head.now in
    let body = ops_of c.args.body.now in
    let step = ops_of c.args.step.now in
    let roomy = loop_room c.args.sure head (operand_of c.args.test) body step (sym c.is_flagged.ensures ∙ c.if-is_flagged.false) in
    let part = left_max (room true head) (max (turn_room body) (room true step)) in
    let one = some_size body in
    let other = some_size step in
    let smaller : size head + 1 < t = omega (arith, one, other) in
    let fits : live c.args.scope + room true head < 2 ^ 32 = let h = c.requires.room in omega (arith, part, h, roomy) in
    (smaller, fits)

pub push_loop-turn_ops-requires : goal.push_loop-turn_ops-requires
push_loop-turn_ops-requires t c =
    let head = ops_of c.args.head.now in
    let body = ops_of c.args.body.now in
    let step = ops_of c.args.step.now in
    let roomy = loop_room c.args.sure head (operand_of c.args.test) body step (sym c.is_flagged.ensures ∙ c.if-is_flagged.false) in
    let part = right_max (room true head) (max (turn_room body) (room true step)) in
    let inner = left_max (turn_room body) (room true step) in
    let one = some_size head in
    let other = some_size step in
    let smaller : size body + 2 < t = omega (arith, one, other) in
    let fits : live c.args.scope + turn_room body < 2 ^ 32 = let h = c.requires.room in omega (arith, part, inner, h, roomy) in
    (smaller, fits)

pub push_loop-flagged_ops-requires-2 : goal.push_loop-flagged_ops-requires-2
push_loop-flagged_ops-requires-2 t c =
    let head = ops_of c.args.head.now in
    let body = ops_of c.args.body.now in
    let step = ops_of c.args.step.now in
    let roomy = loop_room c.args.sure head (operand_of c.args.test) body step (sym c.is_flagged.ensures ∙ c.if-is_flagged.false) in
    let part = right_max (room true head) (max (turn_room body) (room true step)) in
    let inner = right_max (turn_room body) (room true step) in
    let one = some_size head in
    let other = some_size body in
    let smaller : size step + 1 < t = omega (arith, one, other) in
    let fits : live c.args.scope + room true step < 2 ^ 32 = let h = c.requires.room in omega (arith, part, inner, h, roomy) in
    (smaller, fits)

pub push_cut_loop-tested_ops-requires : goal.push_cut_loop-tested_ops-requires
push_cut_loop-tested_ops-requires t c =
    let head = ops_of c.args.head.now in
    let body = ops_of c.args.body.now in
    let step = ops_of c.args.step.now in
    let part = left_max (room false head) (max (room true body) (room false step)) in
    let one = some_size body in
    let other = some_size step in
    let inner : live c.edge.result ≡ live c.args.scope + 2 = ap live c.edge.ensures ∙ (omega arith) in
    let smaller : size head + 1 < t = omega (arith, one, other) in
    let fits : live c.edge.result + room false head < 2 ^ 32 = let h = c.requires.room in omega (arith, part, inner, h) in
    (smaller, fits)

pub push_cut_loop-started_ops-requires : goal.push_cut_loop-started_ops-requires
push_cut_loop-started_ops-requires t c =
    let head = ops_of c.args.head.now in
    let body = ops_of c.args.body.now in
    let step = ops_of c.args.step.now in
    let part = right_max (room false head) (max (room true body) (room false step)) in
    let deeper = left_max (room true body) (room false step) in
    let one = some_size head in
    let other = some_size step in
    let inner : live c.body.result ≡ live c.args.scope + 2 = ap live c.body.ensures ∙ (omega arith) in
    let smaller : size body + 1 < t = omega (arith, one, other) in
    let fits : live c.body.result + room true body < 2 ^ 32 = let h = c.requires.room in omega (arith, part, deeper, inner, h) in
    (smaller, fits)

pub push_cut_loop-started_ops-requires-2 : goal.push_cut_loop-started_ops-requires-2
push_cut_loop-started_ops-requires-2 t c =
    let head = ops_of c.args.head.now in
    let body = ops_of c.args.body.now in
    let step = ops_of c.args.step.now in
    let part = right_max (room false head) (max (room true body) (room false step)) in
    let deeper = right_max (room true body) (room false step) in
    let one = some_size head in
    let other = some_size body in
    let inner : live c.edge-2.result ≡ live c.args.scope + 2 = ap live c.edge-2.ensures ∙ (omega arith) in
    let smaller : size step + 1 < t = omega (arith, one, other) in
    let fits : live c.edge-2.result + room false step < 2 ^ 32 = let h = c.requires.room in omega (arith, part, deeper, inner, h) in
    (smaller, fits)
