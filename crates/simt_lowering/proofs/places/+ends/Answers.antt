use Rattle.std.proofs.Common.{◌≡◌, ◌+◌, ◌<◌, ◌≤◌, ◌^◌, drop, ap, sym, subst, ◌∙◌, refl, arith}
use Rattle.kir.specs.Shapes.{op_of, operand_of, ops_of}
use Rattle.kir.specs.Trees.{Op, If, Loop}
use Rattle.kir.proofs.Rows.{if_seen, loop_seen}
use Rattle.uniformity.specs.Marks.{marked}
use Rattle.simt_lowering.specs.Lowered.{body_place, head_place, if_end, loop_end, one_place, op_end, ops_end, other_place, past, step_place}
use Rattle.simt_lowering.specs.Views.{ends}
use Rattle.simt_lowering.proofs.Growing.{ops_grow}
use Rattle.simt_lowering.proofs.PlacesWithin.{if_within, loop_within, next_of}
use Rattle.simt_lowering.proofs.Sizing.{first_of, none_of, op_size, size, size_at, some_size}
use Rattle.simt_lowering.proofs.places.+ends.Goals as goal

pub ops_end-op_end-end-requires : goal.ops_end-op_end-end-requires
ops_end-op_end-end-requires t c =
    let m = marked c.args.marks.now in
    let ops = c.args.ops.now in
    let k = c.loop-k.k in
    let op = c.index-ops-k.result in
    let rest = ops_of (drop (k + 1) ops) in
    let sized : op_size (op_of op) + 1 < size (ops_of ops) = size_at ops k op c.loop-k-test.true c.index-ops-k.is in
    let smaller : op_size (op_of op) < t = omega (arith, sized) in
    let whole : ops_end m rest (op_end m (op_of op) c.loop-k.end) ≡ ops_end m (ops_of ops) c.args.place =
    ap (λ os. ops_end m os c.loop-k.end) (sym (first_of ops k op c.loop-k-test.true c.index-ops-k.is)) ∙ c.loop-k.invariant in
    let grows : op_end m (op_of op) c.loop-k.end ≤ ops_end m rest (op_end m (op_of op) c.loop-k.end) = ops_grow m rest (op_end m (op_of op) c.loop-k.end) in
    let low : ops_end m (ops_of ops) c.args.place < 2 ^ 32 = c.requires.fits in
    let fits : op_end m (op_of op) c.loop-k.end < 2 ^ 32 = omega (arith, whole, grows, low) in
    (smaller, fits)

pub ops_end-loop-k-preserved : goal.ops_end-loop-k-preserved
ops_end-loop-k-preserved t c =
    let m = marked c.args.marks.now in
    let ops = c.args.ops.now in
    let k = c.loop-k.k in
    let op = c.index-ops-k.result in
    let rest = ops_of (drop (k + 1) ops) in
    ap (ops_end m rest) c.op_end-end.ensures ∙ ap (λ os. ops_end m os c.loop-k.end) (sym (first_of ops k op c.loop-k-test.true c.index-ops-k.is)) ∙ c.loop-k.invariant

pub ops_end-returns : goal.ops_end-returns
ops_end-returns t c =
    let m = marked c.args.marks.now in
    ap (λ os. ops_end m os c.loop-k.end) (sym (none_of c.args.ops.now c.loop-k.k c.loop-k-test.false)) ∙ c.loop-k.invariant

pub if_places-past-one-requires : goal.if_places-past-one-requires
if_places-past-one-requires t c =
    (if_within (marked c.args.marks.now) c.args.uniform (ops_of c.args.yes.now) (ops_of c.args.no.now) (2 ^ 32) c.args.place c.requires.fits).first

pub if_places-overflow_add-one : goal.if_places-overflow_add-one
if_places-overflow_add-one t c =
    let w = if_within (marked c.args.marks.now) c.args.uniform (ops_of c.args.yes.now) (ops_of c.args.no.now) (2 ^ 32) c.args.place c.requires.fits in
    let one : c.past-one.result + 1 ≡ one_place c.args.uniform c.args.place = next_of _ _ c.past-one.ensures in
    let low : c.past-one.result + 1 < 2 ^ 32 = subst (λ q. q < 2 ^ 32) (sym one) w.one_in in
    omega (arith, low)

pub if_places-ops_end-other-requires : goal.if_places-ops_end-other-requires
if_places-ops_end-other-requires t c =
    let m = marked c.args.marks.now in
    let yes = ops_of c.args.yes.now in
    let no = ops_of c.args.no.now in
    let w = if_within m c.args.uniform yes no (2 ^ 32) c.args.place c.requires.fits in
    let one : c.past-one.result + 1 ≡ one_place c.args.uniform c.args.place = next_of _ _ c.past-one.ensures in
    let more = some_size no in
    let smaller : size yes < t = omega (arith, more) in
    (smaller, subst (λ q. ops_end m yes q < 2 ^ 32) (sym one) w.one_ends)

pub if_places-overflow_add-other : goal.if_places-overflow_add-other
if_places-overflow_add-other t c =
    let m = marked c.args.marks.now in
    let yes = ops_of c.args.yes.now in
    let w = if_within m c.args.uniform yes (ops_of c.args.no.now) (2 ^ 32) c.args.place c.requires.fits in
    let one : c.past-one.result + 1 ≡ one_place c.args.uniform c.args.place = next_of _ _ c.past-one.ensures in
    let other : c.ops_end-other.result + 1 ≡ other_place c.args.uniform (ends m yes) c.args.place = next_of _ _ (c.ops_end-other.ensures ∙ ap (ops_end m yes) one) in
    let low : c.ops_end-other.result + 1 < 2 ^ 32 = subst (λ q. q < 2 ^ 32) (sym other) w.other_in in
    omega (arith, low)

pub if_places-ops_end-meet-requires : goal.if_places-ops_end-meet-requires
if_places-ops_end-meet-requires t c =
    let m = marked c.args.marks.now in
    let yes = ops_of c.args.yes.now in
    let no = ops_of c.args.no.now in
    let w = if_within m c.args.uniform yes no (2 ^ 32) c.args.place c.requires.fits in
    let one : c.past-one.result + 1 ≡ one_place c.args.uniform c.args.place = next_of _ _ c.past-one.ensures in
    let other : c.ops_end-other.result + 1 ≡ other_place c.args.uniform (ends m yes) c.args.place = next_of _ _ (c.ops_end-other.ensures ∙ ap (ops_end m yes) one) in
    let more = some_size yes in
    let smaller : size no < t = omega (arith, more) in
    (smaller, subst (λ q. ops_end m no q < 2 ^ 32) (sym other) w.meet_in)

pub loop_places-overflow_add-place : goal.loop_places-overflow_add-place
loop_places-overflow_add-place t c =
    let w = loop_within (marked c.args.marks.now) c.args.uniform (ops_of c.args.step.now) (ops_of c.args.head.now) (ops_of c.args.body.now) (2 ^ 32) c.args.place c.requires.fits in
    let low : c.args.place + 1 < 2 ^ 32 = subst (λ q. q < 2 ^ 32) (sym (next_of c.args.place c.args.place refl)) w.entered in
    omega (arith, low)

pub loop_places-past-first-requires : goal.loop_places-past-first-requires
loop_places-past-first-requires t c =
    let w = loop_within (marked c.args.marks.now) c.args.uniform (ops_of c.args.step.now) (ops_of c.args.head.now) (ops_of c.args.body.now) (2 ^ 32) c.args.place c.requires.fits in
    subst (λ q. past c.args.uniform q < 2 ^ 32) (sym (next_of c.args.place c.args.place refl)) w.kept

pub loop_places-overflow_add-first : goal.loop_places-overflow_add-first
loop_places-overflow_add-first t c =
    let u = c.args.uniform in
    let w = loop_within (marked c.args.marks.now) u (ops_of c.args.step.now) (ops_of c.args.head.now) (ops_of c.args.body.now) (2 ^ 32) c.args.place c.requires.fits in
    let first : c.past-first.result + 1 ≡ step_place u c.args.place = next_of _ _ (c.past-first.ensures ∙ ap (past u) (next_of c.args.place c.args.place refl)) in
    let low : c.past-first.result + 1 < 2 ^ 32 = subst (λ q. q < 2 ^ 32) (sym first) w.step_in in
    omega (arith, low)

pub loop_places-ops_end-second-requires : goal.loop_places-ops_end-second-requires
loop_places-ops_end-second-requires t c =
    let m = marked c.args.marks.now in
    let u = c.args.uniform in
    let head = ops_of c.args.head.now in
    let body = ops_of c.args.body.now in
    let step = ops_of c.args.step.now in
    let w = loop_within m u step head body (2 ^ 32) c.args.place c.requires.fits in
    let first : c.past-first.result + 1 ≡ step_place u c.args.place = next_of _ _ (c.past-first.ensures ∙ ap (past u) (next_of c.args.place c.args.place refl)) in
    let one = some_size head in
    let smaller : size step < t = omega (arith, one) in
    (smaller, subst (λ q. ops_end m step q < 2 ^ 32) (sym first) w.head_in)

pub loop_places-ops_end-requires : goal.loop_places-ops_end-requires
loop_places-ops_end-requires t c =
    let m = marked c.args.marks.now in
    let u = c.args.uniform in
    let head = ops_of c.args.head.now in
    let body = ops_of c.args.body.now in
    let step = ops_of c.args.step.now in
    let w = loop_within m u step head body (2 ^ 32) c.args.place c.requires.fits in
    let first : c.past-first.result + 1 ≡ step_place u c.args.place = next_of _ _ (c.past-first.ensures ∙ ap (past u) (next_of c.args.place c.args.place refl)) in
    let second : c.ops_end-second.result ≡ head_place u (ends m step) c.args.place = c.ops_end-second.ensures ∙ ap (ops_end m step) first in
    let one = some_size body in
    let smaller : size head < t = omega (arith, one) in
    (smaller, subst (λ q. ops_end m head q < 2 ^ 32) (sym second) w.head_ends)

pub loop_places-past-third-requires : goal.loop_places-past-third-requires
loop_places-past-third-requires t c =
    let m = marked c.args.marks.now in
    let u = c.args.uniform in
    let head = ops_of c.args.head.now in
    let step = ops_of c.args.step.now in
    let w = loop_within m u step head (ops_of c.args.body.now) (2 ^ 32) c.args.place c.requires.fits in
    let first : c.past-first.result + 1 ≡ step_place u c.args.place = next_of _ _ (c.past-first.ensures ∙ ap (past u) (next_of c.args.place c.args.place refl)) in
    let second : c.ops_end-second.result ≡ head_place u (ends m step) c.args.place = c.ops_end-second.ensures ∙ ap (ops_end m step) first in
    let ended : c.ops_end.result ≡ ops_end m head (head_place u (ends m step) c.args.place) = c.ops_end.ensures ∙ ap (ops_end m head) second in
    subst (λ q. past u q < 2 ^ 32) (sym ended) w.test_in

pub loop_places-overflow_add-third : goal.loop_places-overflow_add-third
loop_places-overflow_add-third t c =
    let m = marked c.args.marks.now in
    let u = c.args.uniform in
    let head = ops_of c.args.head.now in
    let step = ops_of c.args.step.now in
    let w = loop_within m u step head (ops_of c.args.body.now) (2 ^ 32) c.args.place c.requires.fits in
    let first : c.past-first.result + 1 ≡ step_place u c.args.place = next_of _ _ (c.past-first.ensures ∙ ap (past u) (next_of c.args.place c.args.place refl)) in
    let second : c.ops_end-second.result ≡ head_place u (ends m step) c.args.place = c.ops_end-second.ensures ∙ ap (ops_end m step) first in
    let ended : c.ops_end.result ≡ ops_end m head (head_place u (ends m step) c.args.place) = c.ops_end.ensures ∙ ap (ops_end m head) second in
    let third : c.past-third.result + 1 ≡ body_place u (ends m step) (ends m head) c.args.place = next_of _ _ (c.past-third.ensures ∙ ap (past u) ended) in
    let low : c.past-third.result + 1 < 2 ^ 32 = subst (λ q. q < 2 ^ 32) (sym third) w.body_in in
    omega (arith, low)

pub loop_places-ops_end-end-requires : goal.loop_places-ops_end-end-requires
loop_places-ops_end-end-requires t c =
    let m = marked c.args.marks.now in
    let u = c.args.uniform in
    let head = ops_of c.args.head.now in
    let body = ops_of c.args.body.now in
    let step = ops_of c.args.step.now in
    let w = loop_within m u step head body (2 ^ 32) c.args.place c.requires.fits in
    let first : c.past-first.result + 1 ≡ step_place u c.args.place = next_of _ _ (c.past-first.ensures ∙ ap (past u) (next_of c.args.place c.args.place refl)) in
    let second : c.ops_end-second.result ≡ head_place u (ends m step) c.args.place = c.ops_end-second.ensures ∙ ap (ops_end m step) first in
    let ended : c.ops_end.result ≡ ops_end m head (head_place u (ends m step) c.args.place) = c.ops_end.ensures ∙ ap (ops_end m head) second in
    let third : c.past-third.result + 1 ≡ body_place u (ends m step) (ends m head) c.args.place = next_of _ _ (c.past-third.ensures ∙ ap (past u) ended) in
    let one = some_size head in
    let smaller : size body < t = omega (arith, one) in
    (smaller, subst (λ q. ops_end m body q < 2 ^ 32) (sym third) w.body_ends)

pub op_end-if_places-places-requires : goal.op_end-if_places-places-requires
op_end-if_places-places-requires t c =
    let m = marked c.args.marks.now in
    let one = ops_of c.as_slice.result.now in
    let other = ops_of c.as_slice-in-If.result.now in
    let node : op_of c.args.op.now ≡ If (operand_of c.in-If.test) one other =
    if_seen c.args.op.now c.in-If.test c.in-If.yes c.in-If.no c.as_slice.result.now c.as_slice-in-If.result.now c.in-If.is c.as_slice.ensures.value c.as_slice-in-If.ensures.value in
    let sized : op_size (op_of c.args.op.now) ≡ size one + size other + 1 = ap op_size node in
    let smaller : size one + size other < t = omega (arith, sized) in
    (smaller, subst (λ v. if_end v (ends m one) (ends m other) c.args.place < 2 ^ 32) (sym c.is_same-uniform.ensures) (subst (λ (o : Op). op_end m o c.args.place < 2 ^ 32) node c.requires.fits))

pub op_end-past-requires : goal.op_end-past-requires
op_end-past-requires t c =
    let m = marked c.args.marks.now in
    let one = ops_of c.as_slice.result.now in
    let other = ops_of c.as_slice-in-If.result.now in
    let node : op_of c.args.op.now ≡ If (operand_of c.in-If.test) one other =
    if_seen c.args.op.now c.in-If.test c.in-If.yes c.in-If.no c.as_slice.result.now c.as_slice-in-If.result.now c.in-If.is c.as_slice.ensures.value c.as_slice-in-If.ensures.value in
    let low : if_end c.is_same-uniform.result (ends m one) (ends m other) c.args.place < 2 ^ 32 =
    subst (λ v. if_end v (ends m one) (ends m other) c.args.place < 2 ^ 32) (sym c.is_same-uniform.ensures) (subst (λ (o : Op). op_end m o c.args.place < 2 ^ 32) node c.requires.fits) in
    subst (λ q. past c.is_same-uniform.result q < 2 ^ 32) (sym c.if_places-places.ensures.meet) low

pub op_end-returns-in-If : goal.op_end-returns-in-If
op_end-returns-in-If t c =
    let m = marked c.args.marks.now in
    let one = ops_of c.as_slice.result.now in
    let other = ops_of c.as_slice-in-If.result.now in
    let node : op_of c.args.op.now ≡ If (operand_of c.in-If.test) one other =
    if_seen c.args.op.now c.in-If.test c.in-If.yes c.in-If.no c.as_slice.result.now c.as_slice-in-If.result.now c.in-If.is c.as_slice.ensures.value c.as_slice-in-If.ensures.value in
    c.past.ensures ∙ ap (past c.is_same-uniform.result) c.if_places-places.ensures.meet
    ∙ ap (λ v. if_end v (ends m one) (ends m other) c.args.place) c.is_same-uniform.ensures ∙ sym (ap (λ (o : Op). op_end m o c.args.place) node)

pub op_end-loop_places-requires : goal.op_end-loop_places-requires
op_end-loop_places-requires t c =
    let m = marked c.args.marks.now in
    let head = ops_of c.as_slice-in-Loop.result.now in
    let body = ops_of c.as_slice-in-Loop-2.result.now in
    let step = ops_of c.as_slice-in-Loop-3.result.now in
    let node : op_of c.args.op.now ≡ Loop head (operand_of c.in-Loop.test) body step =
    loop_seen c.args.op.now c.in-Loop.head c.in-Loop.test c.in-Loop.body c.in-Loop.step c.as_slice-in-Loop.result.now c.as_slice-in-Loop-2.result.now c.as_slice-in-Loop-3.result.now
    c.in-Loop.is c.as_slice-in-Loop.ensures.value c.as_slice-in-Loop-2.ensures.value c.as_slice-in-Loop-3.ensures.value in
    let sized : op_size (op_of c.args.op.now) ≡ size head + size body + size step + 1 = ap op_size node in
    let smaller : size head + size body + size step < t = omega (arith, sized) in (
      smaller,
      subst (λ v. loop_end v (ends m step) (ends m head) (ends m body) c.args.place < 2 ^ 32) (sym c.is_same-uniform-in-Loop.ensures)
          (subst (λ (o : Op). op_end m o c.args.place < 2 ^ 32) node c.requires.fits),
    )

pub op_end-returns-in-Loop : goal.op_end-returns-in-Loop
op_end-returns-in-Loop t c =
    let m = marked c.args.marks.now in
    let head = ops_of c.as_slice-in-Loop.result.now in
    let body = ops_of c.as_slice-in-Loop-2.result.now in
    let step = ops_of c.as_slice-in-Loop-3.result.now in
    let node : op_of c.args.op.now ≡ Loop head (operand_of c.in-Loop.test) body step =
    loop_seen c.args.op.now c.in-Loop.head c.in-Loop.test c.in-Loop.body c.in-Loop.step c.as_slice-in-Loop.result.now c.as_slice-in-Loop-2.result.now c.as_slice-in-Loop-3.result.now
    c.in-Loop.is c.as_slice-in-Loop.ensures.value c.as_slice-in-Loop-2.ensures.value c.as_slice-in-Loop-3.ensures.value in
    c.loop_places.ensures.end ∙ ap (λ v. loop_end v (ends m step) (ends m head) (ends m body) c.args.place) c.is_same-uniform-in-Loop.ensures
    ∙ sym (ap (λ (o : Op). op_end m o c.args.place) node)
