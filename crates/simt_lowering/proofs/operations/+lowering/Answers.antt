use Rattle.std.proofs.Common.{◌≡◌, suc, ◌+◌, ◌<◌, ◌≤◌, ◌^◌, max, drop, ap, sym, subst, ◌∙◌, refl, arith}
use Rattle.kir.specs.Loops.{loop_nesting, loop_nesting_in}
use Rattle.kir.specs.Shapes.{op_of, operand_of, ops_of}
use Rattle.kir.specs.Trees.{Op, If, Loop}
use Rattle.kir.proofs.Rows.{if_seen, loop_seen}
use Rattle.vcode.specs.Shapes.{onto}
use Rattle.simt_lowering.specs.Lowered.{if_end, loop_end, lowered, op_end, ops_end}
use Rattle.simt_lowering.specs.Views.{ends, known_in}
use Rattle.simt_lowering.proofs.Growing.{ops_grow}
use Rattle.simt_lowering.proofs.PlacesWithin.{if_within, loop_within, next_of}
use Rattle.simt_lowering.proofs.Putting.{if_put, loop_put, nesting_at, on_done}
use Rattle.simt_lowering.proofs.Sizing.{first_of, none_of, op_size, size, size_at, some_size}
use Rattle.simt_lowering.proofs.operations.+lowering.Goals as goal

pub put_ops-put_op-requires : goal.put_ops-put_op-requires
put_ops-put_op-requires t c =
    let m = (known_in c.args.known.now).marks in
    let ops = c.args.ops.now in
    let k = c.loop-k.k in
    let op = c.index-ops-k.result in
    let rest = ops_of (drop (k + 1) ops) in
    let sized : op_size (op_of op) + 1 < size (ops_of ops) = size_at ops k op c.loop-k-test.true c.index-ops-k.is in
    let smaller : op_size (op_of op) < t = omega (arith, sized) in
    let deep : loop_nesting_in (op_of op) ≤ loop_nesting (ops_of ops) = nesting_at ops k op c.loop-k-test.true c.index-ops-k.is in
    let room : c.args.known.now.variables + (8 + (c.args.depth + loop_nesting (ops_of ops))) < 2 ^ 32 = c.requires.masks in
    let masks : c.args.known.now.variables + (8 + (c.args.depth + loop_nesting_in (op_of op))) < 2 ^ 32 = omega (arith, deep, room) in
    let whole : ops_end m rest (op_end m (op_of op) c.loop-k.at) ≡ ops_end m (ops_of ops) c.args.place =
    ap (λ os. ops_end m os c.loop-k.at) (sym (first_of ops k op c.loop-k-test.true c.index-ops-k.is)) ∙ c.loop-k.invariant.1 in
    let grows : op_end m (op_of op) c.loop-k.at ≤ ops_end m rest (op_end m (op_of op) c.loop-k.at) = ops_grow m rest (op_end m (op_of op) c.loop-k.at) in
    let low : ops_end m (ops_of ops) c.args.place < 2 ^ 32 = c.requires.fits in
    let fits : op_end m (op_of op) c.loop-k.at < 2 ^ 32 = omega (arith, whole, grows, low) in
    (smaller, (c.requires.room, (masks, fits)))

pub put_ops-op_end-at-requires : goal.put_ops-op_end-at-requires
put_ops-op_end-at-requires t c =
    let m = (known_in c.args.known.now).marks in
    let ops = c.args.ops.now in
    let k = c.loop-k.k in
    let op = c.index-ops-k.result in
    let rest = ops_of (drop (k + 1) ops) in
    let whole : ops_end m rest (op_end m (op_of op) c.loop-k.at) ≡ ops_end m (ops_of ops) c.args.place =
    ap (λ os. ops_end m os c.loop-k.at) (sym (first_of ops k op c.loop-k-test.true c.index-ops-k.is)) ∙ c.loop-k.invariant.1 in
    let grows : op_end m (op_of op) c.loop-k.at ≤ ops_end m rest (op_end m (op_of op) c.loop-k.at) = ops_grow m rest (op_end m (op_of op) c.loop-k.at) in
    let low : ops_end m (ops_of ops) c.args.place < 2 ^ 32 = c.requires.fits in
    let fits : op_end m (op_of op) c.loop-k.at < 2 ^ 32 = omega (arith, whole, grows, low) in
    record { fits = fits }

pub put_ops-loop-k-preserved : goal.put_ops-loop-k-preserved
put_ops-loop-k-preserved t c =
    let known = known_in c.args.known.now in
    let ops = c.args.ops.now in
    let k = c.loop-k.k in
    let op = c.index-ops-k.result in
    let rest = ops_of (drop (k + 1) ops) in
    let first = first_of ops k op c.loop-k-test.true c.index-ops-k.is in (
      λ c'. ap (λ q. onto c.put_op.new.out.items (lowered known c.args.depth rest q c')) c.op_end-at.ensures
          ∙ c.in_ok-put_op.ensures (lowered known c.args.depth rest (op_end known.marks (op_of op) c.loop-k.at) c')
          ∙ ap (λ os. onto c.loop-k.out.items (lowered known c.args.depth os c.loop-k.at c')) (sym first) ∙ c.loop-k.invariant.0 c',
      ap (ops_end known.marks rest) c.op_end-at.ensures ∙ ap (λ os. ops_end known.marks os c.loop-k.at) (sym first) ∙ c.loop-k.invariant.1,
    )

pub put_ops-returns : goal.put_ops-returns
put_ops-returns t c = λ c'.
    ap (λ os. onto c.loop-k.out.items (lowered (known_in c.args.known.now) c.args.depth os c.loop-k.at c')) (sym (none_of c.args.ops.now c.loop-k.k c.loop-k-test.false))
    ∙ c.loop-k.invariant.0 c'

pub put_op-put_if-requires : goal.put_op-put_if-requires
put_op-put_if-requires t c =
    let m = (known_in c.args.known.now).marks in
    let one = ops_of c.as_slice.result.now in
    let other = ops_of c.as_slice-in-If.result.now in
    let node : op_of c.args.op.now ≡ If (operand_of c.in-If.test) one other =
    if_seen c.args.op.now c.in-If.test c.in-If.yes c.in-If.no c.as_slice.result.now c.as_slice-in-If.result.now c.in-If.is c.as_slice.ensures.value c.as_slice-in-If.ensures.value in
    let sized : op_size (op_of c.args.op.now) ≡ size one + size other + 1 = ap op_size node in
    let smaller : size one + size other < t = omega (arith, sized) in (
      smaller,
      (
        c.requires.room,
        (
          subst (λ (o : Op). c.args.known.now.variables + (8 + (c.args.depth + loop_nesting_in o)) < 2 ^ 32) node c.requires.masks,
          subst (λ (o : Op). op_end m o c.args.place < 2 ^ 32) node c.requires.fits,
        ),
      ),
    )

pub put_op-returns-in-If : goal.put_op-returns-in-If
put_op-returns-in-If t c = rw (if_seen _ _ _ _ _ _ c.in-If.is c.as_slice.ensures.value c.as_slice-in-If.ensures.value) c.put_if.ensures

pub put_op-put_loop-requires : goal.put_op-put_loop-requires
put_op-put_loop-requires t c =
    let m = (known_in c.args.known.now).marks in
    let head = ops_of c.as_slice-in-Loop.result.now in
    let body = ops_of c.as_slice-in-Loop-2.result.now in
    let step = ops_of c.as_slice-in-Loop-3.result.now in
    let node : op_of c.args.op.now ≡ Loop head (operand_of c.in-Loop.test) body step =
    loop_seen c.args.op.now c.in-Loop.head c.in-Loop.test c.in-Loop.body c.in-Loop.step c.as_slice-in-Loop.result.now c.as_slice-in-Loop-2.result.now c.as_slice-in-Loop-3.result.now
    c.in-Loop.is c.as_slice-in-Loop.ensures.value c.as_slice-in-Loop-2.ensures.value c.as_slice-in-Loop-3.ensures.value in
    let sized : op_size (op_of c.args.op.now) ≡ size head + size body + size step + 1 = ap op_size node in
    let smaller : size head + size body + size step < t = omega (arith, sized) in (
      smaller,
      (
        c.requires.room,
        (
          subst (λ (o : Op). c.args.known.now.variables + (8 + (c.args.depth + loop_nesting_in o)) < 2 ^ 32) node c.requires.masks,
          subst (λ (o : Op). op_end m o c.args.place < 2 ^ 32) node c.requires.fits,
        ),
      ),
    )

pub put_op-returns-in-Loop : goal.put_op-returns-in-Loop
put_op-returns-in-Loop t c =
    rw (loop_seen _ _ _ _ _ _ _ _ c.in-Loop.is c.as_slice-in-Loop.ensures.value c.as_slice-in-Loop-2.ensures.value c.as_slice-in-Loop-3.ensures.value) c.put_loop.ensures

pub put_if-if_places-places-requires : goal.put_if-if_places-places-requires
put_if-if_places-places-requires t c =
    let m = (known_in c.args.known.now).marks in
    record { fits = subst (λ v. if_end v (ends m (ops_of c.args.yes.now)) (ends m (ops_of c.args.no.now)) c.args.place < 2 ^ 32) (sym c.is_same-uniform.ensures) c.requires.fits }

pub put_if-put_ops-requires : goal.put_if-put_ops-requires
put_if-put_ops-requires t c =
    let m = (known_in c.args.known.now).marks in
    let yes = ops_of c.args.yes.now in
    let no = ops_of c.args.no.now in
    let low : if_end c.is_same-uniform.result (ends m yes) (ends m no) c.args.place < 2 ^ 32 =
    subst (λ v. if_end v (ends m yes) (ends m no) c.args.place < 2 ^ 32) (sym c.is_same-uniform.ensures) c.requires.fits in
    let w = if_within m c.is_same-uniform.result yes no (2 ^ 32) c.args.place low in
    let more = some_size no in
    let smaller : size yes < t = omega (arith, more) in
    let room : c.args.known.now.variables + (8 + (c.args.depth + max (loop_nesting yes) (loop_nesting no))) < 2 ^ 32 = c.requires.masks in
    let masks : c.args.known.now.variables + (8 + (c.args.depth + loop_nesting yes)) < 2 ^ 32 = omega (arith, room) in
    (smaller, (c.requires.room, (masks, subst (λ q. ops_end m yes q < 2 ^ 32) (sym c.if_places-places.ensures.one) w.one_ends)))

pub put_if-put_ops-requires-2 : goal.put_if-put_ops-requires-2
put_if-put_ops-requires-2 t c =
    let m = (known_in c.args.known.now).marks in
    let yes = ops_of c.args.yes.now in
    let no = ops_of c.args.no.now in
    let low : if_end c.is_same-uniform.result (ends m yes) (ends m no) c.args.place < 2 ^ 32 =
    subst (λ v. if_end v (ends m yes) (ends m no) c.args.place < 2 ^ 32) (sym c.is_same-uniform.ensures) c.requires.fits in
    let w = if_within m c.is_same-uniform.result yes no (2 ^ 32) c.args.place low in
    let more = some_size yes in
    let smaller : size no < t = omega (arith, more) in
    let room : c.args.known.now.variables + (8 + (c.args.depth + max (loop_nesting yes) (loop_nesting no))) < 2 ^ 32 = c.requires.masks in
    let masks : c.args.known.now.variables + (8 + (c.args.depth + loop_nesting no)) < 2 ^ 32 = omega (arith, room) in
    (smaller, (c.requires.room, (masks, subst (λ q. ops_end m no q < 2 ^ 32) (sym c.if_places-places.ensures.other) w.meet_in)))

pub put_if-returns : goal.put_if-returns
put_if-returns t c =
    on_done c.put_join.result
    (λ last. if_put (known_in c.args.known.now) c.args.depth (operand_of c.args.test) (ops_of c.args.yes.now) (ops_of c.args.no.now) c.args.place c.is_same-uniform.result
    c.if_places-places.result.one c.if_places-places.result.other c.if_places-places.result.meet
    c.args.out.now.items c.put_branch.new.out.items c.put_ops.new.out.items c.put.new.ops.items c.put_ops-2.new.out.items c.put_join.new.out.items
    c.is_same-uniform.ensures c.if_places-places.ensures.one c.if_places-places.ensures.other c.if_places-places.ensures.meet
    c.in_ok-put_branch.ensures c.in_ok-put_ops.ensures c.in_ok-put.ensures c.in_ok-put_ops-2.ensures last)
    c.put_join.ensures

pub put_loop-loop_places-places-requires : goal.put_loop-loop_places-places-requires
put_loop-loop_places-places-requires t c =
    let m = (known_in c.args.known.now).marks in
    record {
      fits = subst (λ v. loop_end v (ends m (ops_of c.args.step.now)) (ends m (ops_of c.args.head.now)) (ends m (ops_of c.args.body.now)) c.args.place < 2 ^ 32)
          (sym c.is_same-uniform.ensures) c.requires.fits;
    }

pub put_loop-put_ops-requires : goal.put_loop-put_ops-requires
put_loop-put_ops-requires t c =
    let m = (known_in c.args.known.now).marks in
    let head = ops_of c.args.head.now in
    let body = ops_of c.args.body.now in
    let step = ops_of c.args.step.now in
    let low : loop_end c.is_same-uniform.result (ends m step) (ends m head) (ends m body) c.args.place < 2 ^ 32 =
    subst (λ v. loop_end v (ends m step) (ends m head) (ends m body) c.args.place < 2 ^ 32) (sym c.is_same-uniform.ensures) c.requires.fits in
    let w = loop_within m c.is_same-uniform.result step head body (2 ^ 32) c.args.place low in
    let more = some_size head in
    let smaller : size step < t = omega (arith, more) in
    let room : c.args.known.now.variables + (8 + (c.args.depth + suc (max (loop_nesting head) (max (loop_nesting body) (loop_nesting step))))) < 2 ^ 32 = c.requires.masks in
    let masks : c.args.known.now.variables + (8 + (c.args.depth + 1 + loop_nesting step)) < 2 ^ 32 = omega (arith, room) in
    (smaller, (c.requires.room, (masks, subst (λ q. ops_end m step q < 2 ^ 32) (sym c.loop_places-places.ensures.step) w.head_in)))

pub put_loop-put_ops-requires-2 : goal.put_loop-put_ops-requires-2
put_loop-put_ops-requires-2 t c =
    let m = (known_in c.args.known.now).marks in
    let head = ops_of c.args.head.now in
    let body = ops_of c.args.body.now in
    let step = ops_of c.args.step.now in
    let low : loop_end c.is_same-uniform.result (ends m step) (ends m head) (ends m body) c.args.place < 2 ^ 32 =
    subst (λ v. loop_end v (ends m step) (ends m head) (ends m body) c.args.place < 2 ^ 32) (sym c.is_same-uniform.ensures) c.requires.fits in
    let w = loop_within m c.is_same-uniform.result step head body (2 ^ 32) c.args.place low in
    let more = some_size body in
    let smaller : size head < t = omega (arith, more) in
    let room : c.args.known.now.variables + (8 + (c.args.depth + suc (max (loop_nesting head) (max (loop_nesting body) (loop_nesting step))))) < 2 ^ 32 = c.requires.masks in
    let masks : c.args.known.now.variables + (8 + (c.args.depth + 1 + loop_nesting head)) < 2 ^ 32 = omega (arith, room) in
    (smaller, (c.requires.room, (masks, subst (λ q. ops_end m head q < 2 ^ 32) (sym c.loop_places-places.ensures.head) w.head_ends)))

pub put_loop-put_ops-requires-3 : goal.put_loop-put_ops-requires-3
put_loop-put_ops-requires-3 t c =
    let m = (known_in c.args.known.now).marks in
    let head = ops_of c.args.head.now in
    let body = ops_of c.args.body.now in
    let step = ops_of c.args.step.now in
    let low : loop_end c.is_same-uniform.result (ends m step) (ends m head) (ends m body) c.args.place < 2 ^ 32 =
    subst (λ v. loop_end v (ends m step) (ends m head) (ends m body) c.args.place < 2 ^ 32) (sym c.is_same-uniform.ensures) c.requires.fits in
    let w = loop_within m c.is_same-uniform.result step head body (2 ^ 32) c.args.place low in
    let more = some_size head in
    let smaller : size body < t = omega (arith, more) in
    let room : c.args.known.now.variables + (8 + (c.args.depth + suc (max (loop_nesting head) (max (loop_nesting body) (loop_nesting step))))) < 2 ^ 32 = c.requires.masks in
    let masks : c.args.known.now.variables + (8 + (c.args.depth + 1 + loop_nesting body)) < 2 ^ 32 = omega (arith, room) in
    (smaller, (c.requires.room, (masks, subst (λ q. ops_end m body q < 2 ^ 32) (sym c.loop_places-places.ensures.body) w.body_ends)))

pub put_loop-returns : goal.put_loop-returns
put_loop-returns t c =
    on_done c.put.result
    (λ last. loop_put (known_in c.args.known.now) c.args.depth (ops_of c.args.head.now) (operand_of c.args.test) (ops_of c.args.body.now) (ops_of c.args.step.now) c.args.place c.is_same-uniform.result
    (c.args.depth + 1) c.mask-mask.result c.loop_places-places.result.step c.loop_places-places.result.head c.loop_places-places.result.body c.loop_places-places.result.end
    c.args.out.now.items c.put_entry.new.out.items c.put_ops.new.out.items c.put_ops-2.new.out.items c.put_test.new.out.items c.put_ops-3.new.out.items c.put.new.ops.items
    c.is_same-uniform.ensures (next_of c.args.depth c.args.depth refl) c.mask-mask.ensures c.loop_places-places.ensures.step c.loop_places-places.ensures.head c.loop_places-places.ensures.body
    c.loop_places-places.ensures.end
    c.in_ok-put_entry.ensures c.in_ok-put_ops.ensures c.in_ok-put_ops-2.ensures c.in_ok-put_test.ensures c.in_ok-put_ops-3.ensures last)
    c.put.ensures
