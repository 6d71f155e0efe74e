use Rattle.std.proofs.Common.{◌≡◌, ◌+◌, ◌<◌, ◌^◌, max, drop, ap, sym, ◌∙◌, refl, arith}
use Rattle.kir.specs.Loops.{loop_nesting, loop_nesting_in}
use Rattle.kir.specs.Shapes.{op_of, operand_of, ops_of}
use Rattle.kir.specs.Trees.{If, Loop, Call}
use Rattle.kir.proofs.Rows.{call_seen, if_seen, loop_seen}
use Rattle.simt_lowering.proofs.Sizing.{first_of, none_of, op_size, size, size_at}
use Rattle.simt_lowering.proofs.lowering.+loops.Goals as goal

pub loops-op_loops-requires : goal.loops-op_loops-requires
loops-op_loops-requires t c =
    let ops = c.args.ops.now in
    let k = c.loop-k.k in
    let op = c.index-ops-k.result in
    let sized : op_size (op_of op) + 1 < size (ops_of ops) = size_at ops k op c.loop-k-test.true c.index-ops-k.is in
    let part : loop_nesting (ops_of (drop k ops)) ≡ max (loop_nesting_in (op_of op)) (loop_nesting (ops_of (drop (k + 1) ops))) =
    ap loop_nesting (first_of ops k op c.loop-k-test.true c.index-ops-k.is) in
    let whole : max c.loop-k.most (loop_nesting (ops_of (drop k ops))) ≡ loop_nesting (ops_of ops) = c.loop-k.invariant in
    let low : loop_nesting (ops_of ops) < 2 ^ 32 = c.requires.fits in
    let smaller : op_size (op_of op) < t = omega (arith, sized) in
    let fits : loop_nesting_in (op_of op) < 2 ^ 32 = omega (arith, part, whole, low) in
    (smaller, fits)

pub loops-loop-k-preserved : goal.loops-loop-k-preserved
loops-loop-k-preserved t c =
    let ops = c.args.ops.now in
    let k = c.loop-k.k in
    let op = c.index-ops-k.result in
    let part : loop_nesting (ops_of (drop k ops)) ≡ max (loop_nesting_in (op_of op)) (loop_nesting (ops_of (drop (k + 1) ops))) =
    ap loop_nesting (first_of ops k op c.loop-k-test.true c.index-ops-k.is) in
    let whole : max c.loop-k.most (loop_nesting (ops_of (drop k ops))) ≡ loop_nesting (ops_of ops) = c.loop-k.invariant in
    let here : c.op_loops.result ≡ loop_nesting_in (op_of op) = c.op_loops.ensures in
    let most : c.max-most.result ≡ max c.loop-k.most c.op_loops.result = c.max-most.ensures in
    omega (arith, part, whole, here, most)

pub loops-returns : goal.loops-returns
loops-returns t c =
    let none : loop_nesting (ops_of (drop c.loop-k.k c.args.ops.now)) ≡ 0 = ap loop_nesting (none_of c.args.ops.now c.loop-k.k c.loop-k-test.false) in
    let whole : max c.loop-k.most (loop_nesting (ops_of (drop c.loop-k.k c.args.ops.now))) ≡ loop_nesting (ops_of c.args.ops.now) = c.loop-k.invariant in
    omega (arith, none, whole)

pub op_loops-loops-requires : goal.op_loops-loops-requires
op_loops-loops-requires t c =
    let one = ops_of c.as_slice.result.now in
    let other = ops_of c.in-If.no.items in
    let node : op_of c.args.op.now ≡ If (operand_of c.in-If.test) one other =
    if_seen c.args.op.now c.in-If.test c.in-If.yes c.in-If.no c.as_slice.result.now c.in-If.no.items c.in-If.is c.as_slice.ensures.value refl in
    let sized : op_size (op_of c.args.op.now) ≡ size one + size other + 1 = ap op_size node in
    let deep : loop_nesting_in (op_of c.args.op.now) ≡ max (loop_nesting one) (loop_nesting other) = ap loop_nesting_in node in
    let low : loop_nesting_in (op_of c.args.op.now) < 2 ^ 32 = c.requires.fits in
    let smaller : size one < t = omega (arith, sized) in
    let fits : loop_nesting one < 2 ^ 32 = omega (arith, deep, low) in
    (smaller, fits)

pub op_loops-loops-requires-in-If : goal.op_loops-loops-requires-in-If
op_loops-loops-requires-in-If t c =
    let one = ops_of c.as_slice.result.now in
    let other = ops_of c.as_slice-in-If.result.now in
    let node : op_of c.args.op.now ≡ If (operand_of c.in-If.test) one other =
    if_seen c.args.op.now c.in-If.test c.in-If.yes c.in-If.no c.as_slice.result.now c.as_slice-in-If.result.now c.in-If.is c.as_slice.ensures.value c.as_slice-in-If.ensures.value in
    let sized : op_size (op_of c.args.op.now) ≡ size one + size other + 1 = ap op_size node in
    let deep : loop_nesting_in (op_of c.args.op.now) ≡ max (loop_nesting one) (loop_nesting other) = ap loop_nesting_in node in
    let low : loop_nesting_in (op_of c.args.op.now) < 2 ^ 32 = c.requires.fits in
    let smaller : size other < t = omega (arith, sized) in
    let fits : loop_nesting other < 2 ^ 32 = omega (arith, deep, low) in
    (smaller, fits)

pub op_loops-returns-in-If : goal.op_loops-returns-in-If
op_loops-returns-in-If t c =
    let one = ops_of c.as_slice.result.now in
    let other = ops_of c.as_slice-in-If.result.now in
    let node : op_of c.args.op.now ≡ If (operand_of c.in-If.test) one other =
    if_seen c.args.op.now c.in-If.test c.in-If.yes c.in-If.no c.as_slice.result.now c.as_slice-in-If.result.now c.in-If.is c.as_slice.ensures.value c.as_slice-in-If.ensures.value in
    let deep : loop_nesting_in (op_of c.args.op.now) ≡ max (loop_nesting one) (loop_nesting other) = ap loop_nesting_in node in
    let a : c.loops.result ≡ loop_nesting one = c.loops.ensures in
    let b : c.loops-in-If.result ≡ loop_nesting other = c.loops-in-If.ensures in
    let most : c.max.result ≡ max c.loops.result c.loops-in-If.result = c.max.ensures in
    omega (arith, deep, a, b, most)

pub op_loops-loops-requires-in-Loop : goal.op_loops-loops-requires-in-Loop
op_loops-loops-requires-in-Loop t c =
    let head = ops_of c.in-Loop.head.items in
    let body = ops_of c.as_slice-in-Loop.result.now in
    let step = ops_of c.in-Loop.step.items in
    let node : op_of c.args.op.now ≡ Loop head (operand_of c.in-Loop.test) body step =
    loop_seen c.args.op.now c.in-Loop.head c.in-Loop.test c.in-Loop.body c.in-Loop.step c.in-Loop.head.items c.as_slice-in-Loop.result.now c.in-Loop.step.items c.in-Loop.is refl c.as_slice-in-Loop.ensures.value refl in
    let sized : op_size (op_of c.args.op.now) ≡ size head + size body + size step + 1 = ap op_size node in
    let deep : loop_nesting_in (op_of c.args.op.now) ≡ max (loop_nesting head) (max (loop_nesting body) (loop_nesting step)) + 1 = ap loop_nesting_in node ∙ (omega arith) in
    let low : loop_nesting_in (op_of c.args.op.now) < 2 ^ 32 = c.requires.fits in
    let smaller : size body < t = omega (arith, sized) in
    let fits : loop_nesting body < 2 ^ 32 = omega (arith, deep, low) in
    (smaller, fits)

pub op_loops-loops-requires-in-Loop-2 : goal.op_loops-loops-requires-in-Loop-2
op_loops-loops-requires-in-Loop-2 t c =
    let head = ops_of c.in-Loop.head.items in
    let body = ops_of c.in-Loop.body.items in
    let step = ops_of c.as_slice-in-Loop-2.result.now in
    let node : op_of c.args.op.now ≡ Loop head (operand_of c.in-Loop.test) body step =
    loop_seen c.args.op.now c.in-Loop.head c.in-Loop.test c.in-Loop.body c.in-Loop.step c.in-Loop.head.items c.in-Loop.body.items c.as_slice-in-Loop-2.result.now c.in-Loop.is refl refl c.as_slice-in-Loop-2.ensures.value in
    let sized : op_size (op_of c.args.op.now) ≡ size head + size body + size step + 1 = ap op_size node in
    let deep : loop_nesting_in (op_of c.args.op.now) ≡ max (loop_nesting head) (max (loop_nesting body) (loop_nesting step)) + 1 = ap loop_nesting_in node ∙ (omega arith) in
    let low : loop_nesting_in (op_of c.args.op.now) < 2 ^ 32 = c.requires.fits in
    let smaller : size step < t = omega (arith, sized) in
    let fits : loop_nesting step < 2 ^ 32 = omega (arith, deep, low) in
    (smaller, fits)

pub op_loops-loops-requires-in-Loop-3 : goal.op_loops-loops-requires-in-Loop-3
op_loops-loops-requires-in-Loop-3 t c =
    let head = ops_of c.as_slice-in-Loop-3.result.now in
    let body = ops_of c.in-Loop.body.items in
    let step = ops_of c.in-Loop.step.items in
    let node : op_of c.args.op.now ≡ Loop head (operand_of c.in-Loop.test) body step =
    loop_seen c.args.op.now c.in-Loop.head c.in-Loop.test c.in-Loop.body c.in-Loop.step c.as_slice-in-Loop-3.result.now c.in-Loop.body.items c.in-Loop.step.items c.in-Loop.is c.as_slice-in-Loop-3.ensures.value refl refl in
    let sized : op_size (op_of c.args.op.now) ≡ size head + size body + size step + 1 = ap op_size node in
    let deep : loop_nesting_in (op_of c.args.op.now) ≡ max (loop_nesting head) (max (loop_nesting body) (loop_nesting step)) + 1 = ap loop_nesting_in node ∙ (omega arith) in
    let low : loop_nesting_in (op_of c.args.op.now) < 2 ^ 32 = c.requires.fits in
    let smaller : size head < t = omega (arith, sized) in
    let fits : loop_nesting head < 2 ^ 32 = omega (arith, deep, low) in
    (smaller, fits)

pub op_loops-overflow_add-result : goal.op_loops-overflow_add-result
op_loops-overflow_add-result t c =
    let head = ops_of c.as_slice-in-Loop-3.result.now in
    let body = ops_of c.as_slice-in-Loop.result.now in
    let step = ops_of c.as_slice-in-Loop-2.result.now in
    let node : op_of c.args.op.now ≡ Loop head (operand_of c.in-Loop.test) body step =
    loop_seen c.args.op.now c.in-Loop.head c.in-Loop.test c.in-Loop.body c.in-Loop.step c.as_slice-in-Loop-3.result.now c.as_slice-in-Loop.result.now c.as_slice-in-Loop-2.result.now
    c.in-Loop.is c.as_slice-in-Loop-3.ensures.value c.as_slice-in-Loop.ensures.value c.as_slice-in-Loop-2.ensures.value in
    let deep : loop_nesting_in (op_of c.args.op.now) ≡ max (loop_nesting head) (max (loop_nesting body) (loop_nesting step)) + 1 = ap loop_nesting_in node ∙ (omega arith) in
    let low : loop_nesting_in (op_of c.args.op.now) < 2 ^ 32 = c.requires.fits in
    let a : c.loops-in-Loop-3.result ≡ loop_nesting head = c.loops-in-Loop-3.ensures in
    let b : c.loops-in-Loop.result ≡ loop_nesting body = c.loops-in-Loop.ensures in
    let d : c.loops-in-Loop-2.result ≡ loop_nesting step = c.loops-in-Loop-2.ensures in
    let inside : c.max-inside.result ≡ max c.loops-in-Loop.result c.loops-in-Loop-2.result = c.max-inside.ensures in
    let most : c.max-in-Loop.result ≡ max c.loops-in-Loop-3.result c.max-inside.result = c.max-in-Loop.ensures in
    omega (arith, deep, low, a, b, d, inside, most)

pub op_loops-returns-in-Loop : goal.op_loops-returns-in-Loop
op_loops-returns-in-Loop t c =
    let head = ops_of c.as_slice-in-Loop-3.result.now in
    let body = ops_of c.as_slice-in-Loop.result.now in
    let step = ops_of c.as_slice-in-Loop-2.result.now in
    let node : op_of c.args.op.now ≡ Loop head (operand_of c.in-Loop.test) body step =
    loop_seen c.args.op.now c.in-Loop.head c.in-Loop.test c.in-Loop.body c.in-Loop.step c.as_slice-in-Loop-3.result.now c.as_slice-in-Loop.result.now c.as_slice-in-Loop-2.result.now
    c.in-Loop.is c.as_slice-in-Loop-3.ensures.value c.as_slice-in-Loop.ensures.value c.as_slice-in-Loop-2.ensures.value in
    let deep : loop_nesting_in (op_of c.args.op.now) ≡ max (loop_nesting head) (max (loop_nesting body) (loop_nesting step)) + 1 = ap loop_nesting_in node ∙ (omega arith) in
    let a : c.loops-in-Loop-3.result ≡ loop_nesting head = c.loops-in-Loop-3.ensures in
    let b : c.loops-in-Loop.result ≡ loop_nesting body = c.loops-in-Loop.ensures in
    let d : c.loops-in-Loop-2.result ≡ loop_nesting step = c.loops-in-Loop-2.ensures in
    let inside : c.max-inside.result ≡ max c.loops-in-Loop.result c.loops-in-Loop-2.result = c.max-inside.ensures in
    let most : c.max-in-Loop.result ≡ max c.loops-in-Loop-3.result c.max-inside.result = c.max-in-Loop.ensures in
    omega (arith, deep, a, b, d, inside, most)

pub op_loops-loops-requires-in-Call : goal.op_loops-loops-requires-in-Call
op_loops-loops-requires-in-Call t c =
    let body = ops_of c.as_slice-in-Call.result.now in
    let node : op_of c.args.op.now ≡ Call body = call_seen c.args.op.now c.in-Call.body c.as_slice-in-Call.result.now c.in-Call.is c.as_slice-in-Call.ensures.value in
    let sized : op_size (op_of c.args.op.now) ≡ size body + 1 = ap op_size node in
    let deep : loop_nesting_in (op_of c.args.op.now) ≡ loop_nesting body = ap loop_nesting_in node in
    let low : loop_nesting_in (op_of c.args.op.now) < 2 ^ 32 = c.requires.fits in
    let smaller : size body < t = omega (arith, sized) in
    let fits : loop_nesting body < 2 ^ 32 = omega (arith, deep, low) in
    (smaller, fits)

pub op_loops-returns-in-Call : goal.op_loops-returns-in-Call
op_loops-returns-in-Call t c =
    let node = call_seen c.args.op.now c.in-Call.body c.as_slice-in-Call.result.now c.in-Call.is c.as_slice-in-Call.ensures.value in
    c.loops-in-Call.ensures ∙ sym (ap loop_nesting_in node)
