use Rattle.std.proofs.Common.{◌≡◌, suc, ◌+◌, ◌-◌, ◌≤◌, max, min, length, take, drop, sym, ap, subst, ◌∙◌, arith}
use Rattle.ocl_inline.specs.Shapes.{expr_of, stmt_of, flat_arguments, flat_trees}
use Rattle.ocl_inline.specs.Trees.{CallFlat, LostFlat, BuiltinFlat, ForFlat, BlockFlat}
use Rattle.ocl_norm.specs.Arguments.{OneValue, TwoValues, ThreeValues, values_by, values_in, function_room}
use Rattle.ocl_norm.specs.Counting.{counted}
use Rattle.ocl_norm.specs.Normal.{calls, right_calls}
use Rattle.ocl_inline.specs.Proper.{ArgsWords, ExprWords, StmtWords}
use Rattle.ocl_norm.specs.Rooms.{builtin_room, one_room, pair_room, right_room, stmt_room, two_room, value_room}
use Rattle.ocl_norm.specs.Sizes.{args_size, expr_size, stmt_size, stmts_size, value_size}
use Rattle.ocl_norm.specs.Standings.{above, standing}
use Rattle.ocl_norm.proofs.Building.{arg_smaller, function_room_is, stmt_smaller, value_held}
use Rattle.ocl_norm.proofs.Counting.{ValuesWords, behind_three, counted_alone, counted_assigned, counted_first, counted_more, counted_pair, one_small, two_small, three_long, three_smaller, three_words}
use Rattle.ocl_norm.proofs.Reading.{block_is, builtin_is, call_is, for_is, lost_is}
use Rattle.ocl_norm.proofs.rooms.+room.Goals as goal

pub args_room-arg_room-requires : goal.args_room-arg_room-requires
args_room-arg_room-requires t c =
    let sized = arg_smaller c.args.args.now c.loop-k.k c.index-args-k.result c.loop-k-test.true c.index-args-k.is in
    omega (arith, sized)

pub stmts_room-stmt_room-requires : goal.stmts_room-stmt_room-requires
stmts_room-stmt_room-requires t c =
    let sized = stmt_smaller c.args.stmts.now c.loop-k.k c.index-stmts-k.result c.loop-k-test.true c.index-stmts-k.is in
    omega (arith, sized)

pub builtin_room-slice_bounds-args_room-count : goal.builtin_room-slice_bounds-args_room-count
builtin_room-slice_bounds-args_room-count t c =
    let args = flat_arguments c.args.args.now in
    let x = expr_of c.in-Three.value.now in
    let y = expr_of c.in-Three.low.now in
    let z = expr_of c.in-Three.high.now in
    let found : values_in args ≡ ThreeValues x y z = sym c.values_in.ensures ∙ ap values_by c.in-Three.is in
    three_long c.args.args.now x y z found

pub builtin_room-slice_bounds-args_room-start : goal.builtin_room-slice_bounds-args_room-start
builtin_room-slice_bounds-args_room-start t c =
    let args = flat_arguments c.args.args.now in
    let x = expr_of c.in-Three.value.now in
    let y = expr_of c.in-Three.low.now in
    let z = expr_of c.in-Three.high.now in
    let found : values_in args ≡ ThreeValues x y z = sym c.values_in.ensures ∙ ap values_by c.in-Three.is in
    three_long c.args.args.now x y z found

pub builtin_room-args_room-requires-in-Three : goal.builtin_room-args_room-requires-in-Three
builtin_room-args_room-requires-in-Three t c =
    let args = flat_arguments c.args.args.now in
    let x = expr_of c.in-Three.value.now in
    let y = expr_of c.in-Three.low.now in
    let z = expr_of c.in-Three.high.now in
    let found : values_in args ≡ ThreeValues x y z = sym c.values_in.ensures ∙ ap values_by c.in-Three.is in
    let sized : args_size (flat_arguments (drop 3 c.args.args.now)) ≤ args_size args = three_smaller c.args.args.now x y z found in
    let same : args_size (flat_arguments (take (length c.args.args.now - 3) (drop 3 c.args.args.now))) ≡ args_size (flat_arguments (drop 3 c.args.args.now)) =
    ap (λ xs. args_size (flat_arguments xs)) (behind_three c.args.args.now) in
    omega (arith, sized, same)

pub builtin_room-returns-in-One-clause-room : goal.builtin_room-returns-in-One-clause-room
builtin_room-returns-in-One-clause-room t c =
    let args = flat_arguments c.args.args.now in
    let x = expr_of c.in-One.value.now in
    let found : values_in args ≡ OneValue x = sym c.values_in.ensures ∙ ap values_by c.in-One.is in
    let roomy : builtin_room c.args.which args ≡ max (one_room c.args.which) (value_room x) = function_room_is c.args.which args ∙ ap (function_room c.args.which) found in
    c.max.ensures ∙ counted_first _ _ (one_room c.args.which) (value_room x) c.one_room.ensures (one_small c.args.which) c.value_room.ensures.room ∙ sym (ap counted roomy)

pub builtin_room-returns-in-Two-clause-room : goal.builtin_room-returns-in-Two-clause-room
builtin_room-returns-in-Two-clause-room t c =
    let args = flat_arguments c.args.args.now in
    let x = expr_of c.in-Two.left.now in
    let y = expr_of c.in-Two.right.now in
    let found : values_in args ≡ TwoValues x y = sym c.values_in.ensures ∙ ap values_by c.in-Two.is in
    let both = pair_room (value_room x) (standing x) (value_room y) (calls y) in
    let roomy : builtin_room c.args.which args ≡ max (two_room c.args.which) both = function_room_is c.args.which args ∙ ap (function_room c.args.which) found in
    c.max-in-Two.ensures ∙ counted_first _ _ (two_room c.args.which) both c.two_room.ensures (two_small c.args.which) c.pair_room.ensures.room ∙ sym (ap counted roomy)

pub builtin_room-returns-in-Three-clause-room : goal.builtin_room-returns-in-Three-clause-room
builtin_room-returns-in-Three-clause-room t c =
    let args = flat_arguments c.args.args.now in
    let x = expr_of c.in-Three.value.now in
    let y = expr_of c.in-Three.low.now in
    let z = expr_of c.in-Three.high.now in
    let found : values_in args ≡ ThreeValues x y z = sym c.values_in.ensures ∙ ap values_by c.in-Three.is in
    let both = pair_room (value_room x) (standing x) (value_room y) (calls y) in
    let roomy : builtin_room c.args.which args ≡ max 3 (max both (suc (value_room z))) = function_room_is c.args.which args ∙ ap (function_room c.args.which) found in
    c.max-in-Three.ensures ∙ counted_alone _ _ (max 3 (max both (suc (value_room z)))) c.none_for-more.ensures c.clamp_room.ensures.room ∙ sym (ap counted roomy)

pub builtin_room-returns-in-Three-clause-words : goal.builtin_room-returns-in-Three-clause-words
builtin_room-returns-in-Three-clause-words t c =
    let args = flat_arguments c.args.args.now in
    let x = expr_of c.in-Three.value.now in
    let y = expr_of c.in-Three.low.now in
    let z = expr_of c.in-Three.high.now in
    let found : values_in args ≡ ThreeValues x y z = sym c.values_in.ensures ∙ ap values_by c.in-Three.is in
    let rest = subst (λ xs. ArgsWords (flat_arguments xs)) (behind_three c.args.args.now) c.args_room-in-Three.ensures.words in
    three_words c.args.args.now x y z found (subst ValuesWords (sym found) (c.clamp_room.ensures.value, c.clamp_room.ensures.low, c.clamp_room.ensures.high)) rest

pub element_room-returns-clause-room : goal.element_room-returns-clause-room
element_room-returns-clause-room t c =
    let x = expr_of c.args.place.now in
    let v = value_held c.args.value.now in
    let b = c.right_calls-calls.result in
    let right = c.right_room-right.result in
    let more : c.saturating_add.result ≡ counted (suc (right_room v)) = c.saturating_add.ensures ∙ counted_more right (right_room v) c.right_room-right.ensures.room in
    let behind = c.room_above.ensures ∙ ap (λ s. counted (above b s right)) c.standing_of-held.ensures ∙ ap (λ b'. counted (above b' (standing x) right)) c.right_calls-calls.ensures in
    let behind' = c.room_above-2.ensures ∙ ap (λ s. counted (above b s c.saturating_add.result)) c.standing_of-held.ensures
    ∙ ap (λ b'. counted (above b' (standing x) c.saturating_add.result)) c.right_calls-calls.ensures in
    let stored = c.max-stored.ensures
    ∙ counted_pair (standing x) (right_calls v) c.value_room-left.result right c.room_above.result (value_room x) (right_room v) c.value_room-left.ensures.room c.right_room-right.ensures.room behind in
    let changed = c.max-changed.ensures
    ∙ counted_pair (standing x) (right_calls v) c.value_room-left.result c.saturating_add.result c.room_above-2.result (value_room x) (suc (right_room v)) c.value_room-left.ensures.room more behind' in
    c.saturating_add-2.ensures ∙ ap (λ n. min (n + 1) 18446744073709551615) c.assigned.ensures
    ∙ counted_assigned c.args.op c.max-stored.result c.max-changed.result (pair_room (value_room x) (standing x) (right_room v) (right_calls v)) (pair_room (value_room x) (standing x) (suc (right_room v)) (right_calls v)) stored changed

pub pair_room-returns-clause-room : goal.pair_room-returns-clause-room
pair_room-returns-clause-room t c =
    let x = expr_of c.args.left.now in
    let y = expr_of c.args.right.now in
    let right = c.value_room.result in
    let behind = c.room_above-behind.ensures ∙ ap (λ s. counted (above c.calls.result s right)) c.standing_of.ensures ∙ ap (λ b. counted (above b (standing x) right)) c.calls.ensures in
    c.max.ensures ∙ counted_pair (standing x) (calls y) c.value_room-2.result right c.room_above-behind.result (value_room x) (value_room y) c.value_room-2.ensures.room c.value_room.ensures.room behind

pub stmt_room-for_room-requires : goal.stmt_room-for_room-requires
stmt_room-for_room-requires t c =
    let first = flat_trees c.as_slice.result.now in
    let test = value_held c.in-For.test in
    let step = flat_trees c.as_slice-in-For.result.now in
    let body = stmt_of c.deref-in-For.result.now in
    let node : stmt_of c.args.stmt.now ≡ ForFlat first test step body =
    for_is c.args.stmt.now c.in-For.first c.in-For.test c.in-For.step c.in-For.body c.as_slice.result.now c.as_slice-in-For.result.now c.in-For.is c.as_slice.ensures.value c.as_slice-in-For.ensures.value
    ∙ ap (λ b. ForFlat first test step (stmt_of b)) (sym c.deref-in-For.ensures) in
    let sized : stmt_size (stmt_of c.args.stmt.now) ≡ stmts_size first + value_size test + stmts_size step + stmt_size body + 4 = ap stmt_size node in
    omega (arith, sized)

pub stmt_room-stmts_room-requires : goal.stmt_room-stmts_room-requires
stmt_room-stmts_room-requires t c =
    let items = flat_trees c.as_slice-in-Block.result.now in
    let node : stmt_of c.args.stmt.now ≡ BlockFlat items = block_is c.args.stmt.now c.in-Block.items c.as_slice-in-Block.result.now c.in-Block.is c.as_slice-in-Block.ensures.value in
    let sized : stmt_size (stmt_of c.args.stmt.now) ≡ stmts_size items + 4 = ap stmt_size node in
    omega (arith, sized)

pub stmt_room-returns-in-For-clause-room : goal.stmt_room-returns-in-For-clause-room
stmt_room-returns-in-For-clause-room t c =
    let first = flat_trees c.as_slice.result.now in
    let test = value_held c.in-For.test in
    let step = flat_trees c.as_slice-in-For.result.now in
    let body = stmt_of c.deref-in-For.result.now in
    let node : stmt_of c.args.stmt.now ≡ ForFlat first test step body =
    for_is c.args.stmt.now c.in-For.first c.in-For.test c.in-For.step c.in-For.body c.as_slice.result.now c.as_slice-in-For.result.now c.in-For.is c.as_slice.ensures.value c.as_slice-in-For.ensures.value
    ∙ ap (λ b. ForFlat first test step (stmt_of b)) (sym c.deref-in-For.ensures) in
    subst (λ s. c.for_room.result ≡ counted (stmt_room s)) (sym node) c.for_room.ensures.room

pub stmt_room-returns-in-For-clause-words : goal.stmt_room-returns-in-For-clause-words
stmt_room-returns-in-For-clause-words t c =
    let first = flat_trees c.as_slice.result.now in
    let test = value_held c.in-For.test in
    let step = flat_trees c.as_slice-in-For.result.now in
    let body = stmt_of c.deref-in-For.result.now in
    let node : stmt_of c.args.stmt.now ≡ ForFlat first test step body =
    for_is c.args.stmt.now c.in-For.first c.in-For.test c.in-For.step c.in-For.body c.as_slice.result.now c.as_slice-in-For.result.now c.in-For.is c.as_slice.ensures.value c.as_slice-in-For.ensures.value
    ∙ ap (λ b. ForFlat first test step (stmt_of b)) (sym c.deref-in-For.ensures) in
    subst StmtWords (sym node) c.for_room.ensures.words

pub stmt_room-returns-in-Block-clause-room : goal.stmt_room-returns-in-Block-clause-room
stmt_room-returns-in-Block-clause-room t c =
    let node = block_is c.args.stmt.now c.in-Block.items c.as_slice-in-Block.result.now c.in-Block.is c.as_slice-in-Block.ensures.value in
    c.stmts_room.ensures.room ∙ sym (ap (λ s. counted (stmt_room s)) node)

pub stmt_room-returns-in-Block-clause-words : goal.stmt_room-returns-in-Block-clause-words
stmt_room-returns-in-Block-clause-words t c =
    let node = block_is c.args.stmt.now c.in-Block.items c.as_slice-in-Block.result.now c.in-Block.is c.as_slice-in-Block.ensures.value in
    subst StmtWords (sym node) c.stmts_room.ensures.words

pub value_room-call_room-requires : goal.value_room-call_room-requires
value_room-call_room-requires t c =
    let args = flat_arguments c.as_slice.result.now in
    let body = flat_trees c.as_slice-in-Call.result.now in
    let node : expr_of c.args.expr.now ≡ CallFlat args body = call_is c.args.expr.now c.in-Call.args c.in-Call.body c.as_slice.result.now c.as_slice-in-Call.result.now c.in-Call.is c.as_slice.ensures.value c.as_slice-in-Call.ensures.value in
    let sized : expr_size (expr_of c.args.expr.now) ≡ args_size args + stmts_size body + 4 = ap expr_size node in
    omega (arith, sized)

pub value_room-args_room-requires : goal.value_room-args_room-requires
value_room-args_room-requires t c =
    let args = flat_arguments c.as_slice-in-Lost.result.now in
    let node : expr_of c.args.expr.now ≡ LostFlat args = lost_is c.args.expr.now c.in-Lost.args c.as_slice-in-Lost.result.now c.in-Lost.is c.as_slice-in-Lost.ensures.value in
    let sized : expr_size (expr_of c.args.expr.now) ≡ args_size args + 4 = ap expr_size node in
    omega (arith, sized)

pub value_room-builtin_room-requires : goal.value_room-builtin_room-requires
value_room-builtin_room-requires t c =
    let args = flat_arguments c.as_slice-in-Builtin.result.now in
    let node : expr_of c.args.expr.now ≡ BuiltinFlat c.in-Builtin.which c.in-Builtin.unsigned args =
    builtin_is c.args.expr.now c.in-Builtin.which c.in-Builtin.unsigned c.in-Builtin.args c.as_slice-in-Builtin.result.now c.in-Builtin.is c.as_slice-in-Builtin.ensures.value in
    let sized : expr_size (expr_of c.args.expr.now) ≡ args_size args + 4 = ap expr_size node in
    omega (arith, sized)

pub value_room-returns-in-Call-clause-room : goal.value_room-returns-in-Call-clause-room
value_room-returns-in-Call-clause-room t c =
    let node = call_is c.args.expr.now c.in-Call.args c.in-Call.body c.as_slice.result.now c.as_slice-in-Call.result.now c.in-Call.is c.as_slice.ensures.value c.as_slice-in-Call.ensures.value in
    c.call_room.ensures.room ∙ sym (ap (λ e. counted (value_room e)) node)

pub value_room-returns-in-Call-clause-words : goal.value_room-returns-in-Call-clause-words
value_room-returns-in-Call-clause-words t c =
    let node = call_is c.args.expr.now c.in-Call.args c.in-Call.body c.as_slice.result.now c.as_slice-in-Call.result.now c.in-Call.is c.as_slice.ensures.value c.as_slice-in-Call.ensures.value in
    subst ExprWords (sym node) (c.call_room.ensures.args, c.call_room.ensures.body)

pub value_room-returns-in-Lost-clause-words : goal.value_room-returns-in-Lost-clause-words
value_room-returns-in-Lost-clause-words t c =
    let args = flat_arguments c.as_slice-in-Lost.result.now in
    let node : expr_of c.args.expr.now ≡ LostFlat args = lost_is c.args.expr.now c.in-Lost.args c.as_slice-in-Lost.result.now c.in-Lost.is c.as_slice-in-Lost.ensures.value in
    subst ExprWords (sym node) c.args_room.ensures.words

pub value_room-returns-in-Builtin-clause-room : goal.value_room-returns-in-Builtin-clause-room
value_room-returns-in-Builtin-clause-room t c =
    let node =
    builtin_is c.args.expr.now c.in-Builtin.which c.in-Builtin.unsigned c.in-Builtin.args c.as_slice-in-Builtin.result.now c.in-Builtin.is c.as_slice-in-Builtin.ensures.value in
    c.builtin_room.ensures.room ∙ sym (ap (λ e. counted (value_room e)) node)

pub value_room-returns-in-Builtin-clause-words : goal.value_room-returns-in-Builtin-clause-words
value_room-returns-in-Builtin-clause-words t c =
    let node =
    builtin_is c.args.expr.now c.in-Builtin.which c.in-Builtin.unsigned c.in-Builtin.args c.as_slice-in-Builtin.result.now c.in-Builtin.is c.as_slice-in-Builtin.ensures.value in
    subst ExprWords (sym node) c.builtin_room.ensures.words
