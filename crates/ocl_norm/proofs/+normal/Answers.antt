use Rattle.std.proofs.Common.{◌≡◌, suc, ◌+◌, ◌<◌, ◌^◌, max, true, Some, refl, sym, ap, subst, ◌∙◌, arith}
use Rattle.kir.specs.Lists.{Puts, onto}
use Rattle.kir.specs.Shapes.{operand_of, ops_of}
use Rattle.kir.specs.Trees.{NumberOf, Set, If, Loop, Call, Ops, NoOps, AndOp}
use Rattle.kir.proofs.Putting.{made_of, made_on}
use Rattle.ocl_program.specs.declared.exprs.Builtin.TheVariants.{Max}
use Rattle.ocl_inline.specs.Shapes.{expr_of, stmt_of, flat_arguments, flat_trees}
use Rattle.ocl_inline.specs.Trees.{SomeFlat, UnaryFlat, BinaryFlat, BothFlat, EitherFlat, ChooseFlat, CastFlat, LoadFlat, CallFlat, BuiltinFlat, ParenFlat, DeclareFlat, SetVariableFlat, SetElementFlat, CallStmtFlat, WhileFlat, DoFlat, ForFlat, ReturnFlat, BlockFlat, if_flat}
use Rattle.ocl_norm.specs.Arguments.{OneValue, TwoValues, ThreeValues, values_by, values_in, function_ops, function_room}
use Rattle.ocl_norm.specs.Normal.{assigned_variable, builtin_ops, calls, right_calls, right_ops, stmt_ops, stmts_ops, value_ops}
use Rattle.ocl_norm.specs.Operators.{one_ops, truth_ops, two_ops}
use Rattle.ocl_norm.specs.Rooms.{args_room, assigned_room, builtin_room, pair_room, right_room, stmt_room, stmts_room, value_room}
use Rattle.ocl_norm.specs.Sizes.{arg_size, args_size, else_size, expr_size, stmt_size, stmts_size, value_size}
use Rattle.ocl_norm.specs.Standings.{Named, above, held_at, operand_at, right_standing, settled, standing}
use Rattle.ocl_norm.specs.Views.{arg_room, else_ops, else_room, standing_by}
use Rattle.ocl_norm.proofs.Building.{above_adds, arg_fits, arg_smaller, branch_is, declare_is, else_held, function_is, function_room_is, if_at, if_room, if_size, loop_at, on_done, return_is, right_fits, set_element_is, set_variable_is, stmt_fits, stmt_smaller, value_held, values_size, values_smaller}
use Rattle.ocl_norm.proofs.Reading.{block_is, builtin_is, call_is, for_is}
use Rattle.ocl_norm.proofs.+normal.Goals as goal

pub expressions::push_arg-push_value-requires : goal.expressions::push_arg-push_value-requires
expressions::push_arg-push_value-requires t c =
    let e = expr_of c.in-Number.value in
    let sized : arg_size c.args.arg.now ≡ expr_size e + 1 = ap arg_size c.in-Number.is in
    let roomy : arg_room c.args.arg.now ≡ value_room e = ap arg_room c.in-Number.is in
    let smaller : expr_size e < t = omega (arith, sized) in
    let fits : c.args.first + value_room e < 2 ^ 32 = let h = c.requires.room in omega (arith, roomy, h) in
    (smaller, fits)

pub expressions::push_args-push_arg-requires : goal.expressions::push_args-push_arg-requires
expressions::push_args-push_arg-requires t c =
    let args = c.args.args.now in
    let sized = arg_smaller args c.loop-k.k c.index-args-k.result c.loop-k-test.true c.index-args-k.is in
    let roomy = arg_fits args c.loop-k.k c.index-args-k.result c.loop-k-test.true c.index-args-k.is in
    let smaller : arg_size c.index-args-k.result < t = omega (arith, sized) in
    let fits : c.args.first + arg_room c.index-args-k.result < 2 ^ 32 = let h = c.requires.room in omega (arith, roomy, h) in
    (smaller, fits)

pub expressions::push_both-push_truth-requires : goal.expressions::push_both-push_truth-requires
expressions::push_both-push_truth-requires t c =
    let left = expr_of c.args.left.now in
    let right = expr_of c.args.right.now in
    let h : c.args.first + max (value_room left) (suc (value_room right)) < 2 ^ 32 = c.requires.room in
    let smaller : expr_size left + 1 < t = omega arith in
    let fits : c.args.first + value_room left < 2 ^ 32 = omega (arith, h) in
    (smaller, fits)

pub expressions::push_both-truth_list-requires : goal.expressions::push_both-truth_list-requires
expressions::push_both-truth_list-requires t c =
    let left = expr_of c.args.left.now in
    let right = expr_of c.args.right.now in
    let h : c.args.first + max (value_room left) (suc (value_room right)) < 2 ^ 32 = c.requires.room in
    let smaller : expr_size right + 2 < t = omega arith in
    let fits : c.args.first + 1 + value_room right < 2 ^ 32 = omega (arith, h) in
    (smaller, fits)

pub expressions::push_either-push_truth-requires : goal.expressions::push_either-push_truth-requires
expressions::push_either-push_truth-requires t c =
    let left = expr_of c.args.left.now in
    let right = expr_of c.args.right.now in
    let h : c.args.first + max (value_room left) (suc (value_room right)) < 2 ^ 32 = c.requires.room in
    let smaller : expr_size left + 1 < t = omega arith in
    let fits : c.args.first + value_room left < 2 ^ 32 = omega (arith, h) in
    (smaller, fits)

pub expressions::push_either-truth_list-requires : goal.expressions::push_either-truth_list-requires
expressions::push_either-truth_list-requires t c =
    let left = expr_of c.args.left.now in
    let right = expr_of c.args.right.now in
    let h : c.args.first + max (value_room left) (suc (value_room right)) < 2 ^ 32 = c.requires.room in
    let smaller : expr_size right + 2 < t = omega arith in
    let fits : c.args.first + 1 + value_room right < 2 ^ 32 = omega (arith, h) in
    (smaller, fits)

pub expressions::push_builtin-push_value-requires : goal.expressions::push_builtin-push_value-requires
expressions::push_builtin-push_value-requires t c =
    let x = expr_of c.in-One.value.now in
    let found : values_in (flat_arguments c.args.args.now) ≡ OneValue x = sym c.values_in.ensures ∙ ap values_by c.in-One.is in
    let sized : values_size (OneValue x) < args_size (flat_arguments c.args.args.now) = subst (λ v. values_size v < args_size (flat_arguments c.args.args.now)) found (values_smaller (flat_arguments c.args.args.now)) in
    let roomy : builtin_room c.args.which (flat_arguments c.args.args.now) ≡ function_room c.args.which (OneValue x) = function_room_is c.args.which (flat_arguments c.args.args.now) ∙ ap (function_room c.args.which) found in
    let smaller : expr_size x < t = omega (arith, sized) in
    let fits : c.args.first + value_room x < 2 ^ 32 = let h = c.requires.room in omega (arith, roomy, h) in
    (smaller, fits)

pub expressions::push_builtin-push_pair-requires : goal.expressions::push_builtin-push_pair-requires
expressions::push_builtin-push_pair-requires t c =
    let x = expr_of c.in-Two.left.now in
    let y = expr_of c.in-Two.right.now in
    let found : values_in (flat_arguments c.args.args.now) ≡ TwoValues x y = sym c.values_in.ensures ∙ ap values_by c.in-Two.is in
    let sized : values_size (TwoValues x y) < args_size (flat_arguments c.args.args.now) = subst (λ v. values_size v < args_size (flat_arguments c.args.args.now)) found (values_smaller (flat_arguments c.args.args.now)) in
    let roomy : builtin_room c.args.which (flat_arguments c.args.args.now) ≡ function_room c.args.which (TwoValues x y) = function_room_is c.args.which (flat_arguments c.args.args.now) ∙ ap (function_room c.args.which) found in
    let smaller : expr_size x + expr_size y + 1 < t = omega (arith, sized) in
    let fits : c.args.first + pair_room (value_room x) (standing x) (value_room y) (calls y) < 2 ^ 32 = let h = c.requires.room in omega (arith, roomy, h) in
    (smaller, fits)

pub expressions::push_builtin-push_clamp-requires : goal.expressions::push_builtin-push_clamp-requires
expressions::push_builtin-push_clamp-requires t c =
    let x = expr_of c.in-Three.value.now in
    let y = expr_of c.in-Three.low.now in
    let z = expr_of c.in-Three.high.now in
    let found : values_in (flat_arguments c.args.args.now) ≡ ThreeValues x y z = sym c.values_in.ensures ∙ ap values_by c.in-Three.is in
    let sized : values_size (ThreeValues x y z) < args_size (flat_arguments c.args.args.now) = subst (λ v. values_size v < args_size (flat_arguments c.args.args.now)) found (values_smaller (flat_arguments c.args.args.now)) in
    let roomy : builtin_room c.args.which (flat_arguments c.args.args.now) ≡ function_room c.args.which (ThreeValues x y z) = function_room_is c.args.which (flat_arguments c.args.args.now) ∙ ap (function_room c.args.which) found in
    let smaller : expr_size x + expr_size y + expr_size z + 2 < t = omega (arith, sized) in
    let fits : c.args.first + function_room Max (ThreeValues x y z) < 2 ^ 32 = let h = c.requires.room in omega (arith, roomy, h) in
    (smaller, fits)

pub expressions::push_builtin-returns-in_ok-push_value-in-One : goal.expressions::push_builtin-returns-in_ok-push_value-in-One
expressions::push_builtin-returns-in_ok-push_value-in-One t c =
    let x = expr_of c.in-One.value.now in
    let found : values_in (flat_arguments c.args.args.now) ≡ OneValue x = sym c.values_in.ensures ∙ ap values_by c.in-One.is in
    let node : (c' : Ops) → builtin_ops c.args.which c.args.unsigned (flat_arguments c.args.args.now) c.args.first c' ≡ function_ops c.args.which c.args.unsigned (OneValue x) c.args.first c' = λ c'. function_is c.args.which c.args.unsigned (flat_arguments c.args.args.now) c.args.first c' ∙ ap (λ v. function_ops c.args.which c.args.unsigned v c.args.first c') found in
    on_done c.put_one.result
    (λ puts c'. puts c' ∙ ap (λ a. onto c.push_value.new.out.items (one_ops c.args.which c.args.unsigned a c.args.first c')) c.operand_in.ensures
    ∙ c.in_ok-push_value-in-One.ensures (one_ops c.args.which c.args.unsigned (operand_at (standing x) c.args.first) c.args.first c') ∙ ap (onto c.args.out.now.items) (sym (node c')))
    c.put_one.ensures

pub expressions::push_builtin-returns-in_ok-pair-in-Two : goal.expressions::push_builtin-returns-in_ok-pair-in-Two
expressions::push_builtin-returns-in_ok-pair-in-Two t c =
    let x = expr_of c.in-Two.left.now in
    let y = expr_of c.in-Two.right.now in
    let found : values_in (flat_arguments c.args.args.now) ≡ TwoValues x y = sym c.values_in.ensures ∙ ap values_by c.in-Two.is in
    let node : (c' : Ops) → builtin_ops c.args.which c.args.unsigned (flat_arguments c.args.args.now) c.args.first c' ≡ function_ops c.args.which c.args.unsigned (TwoValues x y) c.args.first c' = λ c'. function_is c.args.which c.args.unsigned (flat_arguments c.args.args.now) c.args.first c' ∙ ap (λ v. function_ops c.args.which c.args.unsigned v c.args.first c') found in
    let pair = c.in_ok-pair-in-Two.pair in
    let left = held_at (calls y) (standing x) c.args.first in
    let right = operand_at (standing y) (above (calls y) (standing x) c.args.first) in
    on_done c.put_two.result
    (λ puts c'. puts c' ∙ ap (λ a. onto c.push_pair.new.out.items (two_ops c.args.which c.args.unsigned a (operand_of pair.right) c.args.first c')) c.in_ok-pair-in-Two.ensures.left
    ∙ ap (λ a. onto c.push_pair.new.out.items (two_ops c.args.which c.args.unsigned left a c.args.first c')) c.in_ok-pair-in-Two.ensures.right
    ∙ c.in_ok-pair-in-Two.ensures.puts (two_ops c.args.which c.args.unsigned left right c.args.first c') ∙ ap (onto c.args.out.now.items) (sym (node c')))
    c.put_two.ensures

pub expressions::push_builtin-returns-in-Three : goal.expressions::push_builtin-returns-in-Three
expressions::push_builtin-returns-in-Three t c =
    let x = expr_of c.in-Three.value.now in
    let y = expr_of c.in-Three.low.now in
    let z = expr_of c.in-Three.high.now in
    let found : values_in (flat_arguments c.args.args.now) ≡ ThreeValues x y z = sym c.values_in.ensures ∙ ap values_by c.in-Three.is in
    let node : (c' : Ops) → builtin_ops c.args.which c.args.unsigned (flat_arguments c.args.args.now) c.args.first c' ≡ function_ops c.args.which c.args.unsigned (ThreeValues x y z) c.args.first c' = λ c'. function_is c.args.which c.args.unsigned (flat_arguments c.args.args.now) c.args.first c' ∙ ap (λ v. function_ops c.args.which c.args.unsigned v c.args.first c') found in
    on_done c.push_clamp.result (λ puts c'. puts c' ∙ ap (onto c.args.out.now.items) (sym (node c'))) c.push_clamp.ensures

pub expressions::push_clamp-push_pair-requires : goal.expressions::push_clamp-push_pair-requires
expressions::push_clamp-push_pair-requires t c =
    let x = expr_of c.args.value.now in
    let y = expr_of c.args.low.now in
    let z = expr_of c.args.high.now in
    let h : c.args.first + max 3 (max (pair_room (value_room x) (standing x) (value_room y) (calls y)) (suc (value_room z))) < 2 ^ 32 = c.requires.room in
    let smaller : expr_size x + expr_size y + 1 < t = omega arith in
    let fits : c.args.first + pair_room (value_room x) (standing x) (value_room y) (calls y) < 2 ^ 32 = omega (arith, h) in
    (smaller, fits)

pub expressions::push_clamp-push_value-requires : goal.expressions::push_clamp-push_value-requires
expressions::push_clamp-push_value-requires t c =
    let x = expr_of c.args.value.now in
    let y = expr_of c.args.low.now in
    let z = expr_of c.args.high.now in
    let h : c.args.first + max 3 (max (pair_room (value_room x) (standing x) (value_room y) (calls y)) (suc (value_room z))) < 2 ^ 32 = c.requires.room in
    let smaller : expr_size z < t = omega arith in
    let fits : c.args.first + 1 + value_room z < 2 ^ 32 = omega (arith, h) in
    (smaller, fits)

pub expressions::push_choice-push_value-requires : goal.expressions::push_choice-push_value-requires
expressions::push_choice-push_value-requires t c =
    let test = expr_of c.args.test.now in
    let one = expr_of c.args.yes.now in
    let other = expr_of c.args.no.now in
    let h : c.args.first + max (value_room test) (max 1 (max (value_room one) (value_room other))) < 2 ^ 32 = c.requires.room in
    let smaller : expr_size (expr_of c.args.test.now) < t = omega arith in
    let fits : c.args.first + value_room (expr_of c.args.test.now) < 2 ^ 32 = omega (arith, h) in
    (smaller, fits)

pub expressions::push_choice-settled_list-requires : goal.expressions::push_choice-settled_list-requires
expressions::push_choice-settled_list-requires t c =
    let test = expr_of c.args.test.now in
    let one = expr_of c.args.yes.now in
    let other = expr_of c.args.no.now in
    let h : c.args.first + max (value_room test) (max 1 (max (value_room one) (value_room other))) < 2 ^ 32 = c.requires.room in
    let smaller : expr_size (expr_of c.args.yes.now) + 1 < t = omega arith in
    let fits : c.args.first + value_room (expr_of c.args.yes.now) < 2 ^ 32 = omega (arith, h) in
    (smaller, fits)

pub expressions::push_choice-settled_list-requires-2 : goal.expressions::push_choice-settled_list-requires-2
expressions::push_choice-settled_list-requires-2 t c =
    let test = expr_of c.args.test.now in
    let one = expr_of c.args.yes.now in
    let other = expr_of c.args.no.now in
    let h : c.args.first + max (value_room test) (max 1 (max (value_room one) (value_room other))) < 2 ^ 32 = c.requires.room in
    let smaller : expr_size (expr_of c.args.no.now) + 1 < t = omega arith in
    let fits : c.args.first + value_room (expr_of c.args.no.now) < 2 ^ 32 = omega (arith, h) in
    (smaller, fits)

pub expressions::push_pair-push_value-requires : goal.expressions::push_pair-push_value-requires
expressions::push_pair-push_value-requires t c =
    let left = expr_of c.args.left.now in
    let right = expr_of c.args.right.now in
    let h : c.args.first + max (value_room left) (above (calls right) (standing left) (value_room right)) < 2 ^ 32 = c.requires.room in
    let smaller : expr_size left < t = omega arith in
    let fits : c.args.first + value_room left < 2 ^ 32 = omega (arith, h) in
    (smaller, fits)

pub expressions::push_pair-push_value-requires-2 : goal.expressions::push_pair-push_value-requires-2
expressions::push_pair-push_value-requires-2 t c =
    let left = expr_of c.args.left.now in
    let right = expr_of c.args.right.now in
    let is : c.above-above.result ≡ above (calls right) (standing left) c.args.first =
    c.above-above.ensures ∙ ap (λ b. above b (standing_by c.standing_of-held.result) c.args.first) c.calls-calls.ensures ∙ ap (λ s. above (calls right) s c.args.first) c.standing_of-held.ensures in
    let h = right_fits c.args.first (value_room left) (value_room right) (2 ^ 32) (standing left) (calls right) c.requires.room in
    let smaller : expr_size right < t = omega arith in
    let fits : c.above-above.result + value_room right < 2 ^ 32 = omega (arith, is, h) in
    (smaller, fits)

pub expressions::push_truth-push_value-requires : goal.expressions::push_truth-push_value-requires
expressions::push_truth-push_value-requires t c =
    let smaller : expr_size (expr_of c.args.expr.now) < t = omega arith in
    (smaller, c.requires.room)

pub expressions::settled_list-push_value-requires : goal.expressions::settled_list-push_value-requires
expressions::settled_list-push_value-requires t c =
    let smaller : expr_size (expr_of c.args.expr.now) < t = omega arith in
    (smaller, c.requires.room)

pub expressions::value_list-push_value-requires : goal.expressions::value_list-push_value-requires
expressions::value_list-push_value-requires t c =
    let smaller : expr_size (expr_of c.args.expr.now) < t = omega arith in
    (smaller, c.requires.room)

pub expressions::truth_list-push_truth-requires : goal.expressions::truth_list-push_truth-requires
expressions::truth_list-push_truth-requires t c =
    let smaller : expr_size (expr_of c.args.expr.now) + 1 < t = omega arith in
    (smaller, c.requires.room)

pub assignments::right_list-push_right-requires : goal.assignments::right_list-push_right-requires
assignments::right_list-push_right-requires t c =
    let smaller : value_size (value_held c.args.value.now) < t = omega arith in
    (smaller, c.requires.room)

pub statements::stmt_list-push_stmt-requires : goal.statements::stmt_list-push_stmt-requires
statements::stmt_list-push_stmt-requires t c =
    let smaller : stmt_size (stmt_of c.args.stmt.now) < t = omega arith in
    (smaller, c.requires.room)

pub statements::stmts_list-push_stmts-requires : goal.statements::stmts_list-push_stmts-requires
statements::stmts_list-push_stmts-requires t c =
    let smaller : stmts_size (flat_trees c.args.stmts.now) < t = omega arith in
    (smaller, c.requires.room)

pub expressions::push_value-push_value-requires : goal.expressions::push_value-push_value-requires
expressions::push_value-push_value-requires t c =
    let part = expr_of c.deref.result.now in
    let node : expr_of c.args.expr.now ≡ UnaryFlat c.in-Unary.op part = ap expr_of c.in-Unary.is ∙ ap (λ b. UnaryFlat c.in-Unary.op (expr_of b)) (sym c.deref.ensures) in
    let sized : expr_size (expr_of c.args.expr.now) ≡ expr_size part + 4 = ap expr_size node in
    let roomy : value_room (expr_of c.args.expr.now) ≡ value_room (UnaryFlat c.in-Unary.op part) = ap value_room node in
    let smaller : expr_size part < t = omega (arith, sized) in
    let fits : c.args.first + value_room part < 2 ^ 32 = let h = c.requires.room in omega (arith, roomy, h) in
    (smaller, fits)

pub expressions::push_value-push_value-requires-in-Cast : goal.expressions::push_value-push_value-requires-in-Cast
expressions::push_value-push_value-requires-in-Cast t c =
    let part = expr_of c.deref-in-Cast.result.now in
    let node : expr_of c.args.expr.now ≡ CastFlat c.in-Cast.elem part = ap expr_of c.in-Cast.is ∙ ap (λ b. CastFlat c.in-Cast.elem (expr_of b)) (sym c.deref-in-Cast.ensures) in
    let sized : expr_size (expr_of c.args.expr.now) ≡ expr_size part + 4 = ap expr_size node in
    let roomy : value_room (expr_of c.args.expr.now) ≡ value_room (CastFlat c.in-Cast.elem part) = ap value_room node in
    let smaller : expr_size part < t = omega (arith, sized) in
    let fits : c.args.first + value_room part < 2 ^ 32 = let h = c.requires.room in omega (arith, roomy, h) in
    (smaller, fits)

pub expressions::push_value-push_value-requires-in-Load : goal.expressions::push_value-push_value-requires-in-Load
expressions::push_value-push_value-requires-in-Load t c =
    let part = expr_of c.deref-in-Load.result.now in
    let node : expr_of c.args.expr.now ≡ LoadFlat c.in-Load.array c.in-Load.elem part c.in-Load.pos = ap expr_of c.in-Load.is ∙ ap (λ b. LoadFlat c.in-Load.array c.in-Load.elem (expr_of b) c.in-Load.pos) (sym c.deref-in-Load.ensures) in
    let sized : expr_size (expr_of c.args.expr.now) ≡ expr_size part + 4 = ap expr_size node in
    let roomy : value_room (expr_of c.args.expr.now) ≡ value_room (LoadFlat c.in-Load.array c.in-Load.elem part c.in-Load.pos) = ap value_room node in
    let smaller : expr_size part < t = omega (arith, sized) in
    let fits : c.args.first + value_room part < 2 ^ 32 = let h = c.requires.room in omega (arith, roomy, h) in
    (smaller, fits)

pub expressions::push_value-push_value-requires-in-Paren : goal.expressions::push_value-push_value-requires-in-Paren
expressions::push_value-push_value-requires-in-Paren t c =
    let part = expr_of c.deref-in-Paren.result.now in
    let node : expr_of c.args.expr.now ≡ ParenFlat part = ap expr_of c.in-Paren.is ∙ ap (λ b. ParenFlat (expr_of b)) (sym c.deref-in-Paren.ensures) in
    let sized : expr_size (expr_of c.args.expr.now) ≡ expr_size part + 4 = ap expr_size node in
    let roomy : value_room (expr_of c.args.expr.now) ≡ value_room (ParenFlat part) = ap value_room node in
    let smaller : expr_size part < t = omega (arith, sized) in
    let fits : c.args.first + value_room part < 2 ^ 32 = let h = c.requires.room in omega (arith, roomy, h) in
    (smaller, fits)

pub expressions::push_value-push_pair-requires : goal.expressions::push_value-push_pair-requires
expressions::push_value-push_pair-requires t c =
    let left = expr_of c.deref-in-Binary.result.now in
    let right = expr_of c.deref-in-Binary-2.result.now in
    let node : expr_of c.args.expr.now ≡ BinaryFlat c.in-Binary.op c.in-Binary.unsigned left right = ap expr_of c.in-Binary.is ∙ ap (λ b. BinaryFlat c.in-Binary.op c.in-Binary.unsigned (expr_of b) (expr_of c.in-Binary.right.value)) (sym c.deref-in-Binary.ensures) ∙ ap (λ b. BinaryFlat c.in-Binary.op c.in-Binary.unsigned left (expr_of b)) (sym c.deref-in-Binary-2.ensures) in
    let sized : expr_size (expr_of c.args.expr.now) ≡ expr_size left + expr_size right + 4 = ap expr_size node in
    let roomy : value_room (expr_of c.args.expr.now) ≡ value_room (BinaryFlat c.in-Binary.op c.in-Binary.unsigned left right) = ap value_room node in
    let smaller : expr_size left + expr_size right + 1 < t = omega (arith, sized) in
    let fits : c.args.first + pair_room (value_room left) (standing left) (value_room right) (calls right) < 2 ^ 32 = let h = c.requires.room in omega (arith, roomy, h) in
    (smaller, fits)

pub expressions::push_value-push_both-requires : goal.expressions::push_value-push_both-requires
expressions::push_value-push_both-requires t c =
    let left = expr_of c.deref-in-Both.result.now in
    let right = expr_of c.deref-in-Both-2.result.now in
    let node : expr_of c.args.expr.now ≡ BothFlat left right = ap expr_of c.in-Both.is ∙ ap (λ b. BothFlat (expr_of b) (expr_of c.in-Both.right.value)) (sym c.deref-in-Both.ensures) ∙ ap (λ b. BothFlat left (expr_of b)) (sym c.deref-in-Both-2.ensures) in
    let sized : expr_size (expr_of c.args.expr.now) ≡ expr_size left + expr_size right + 4 = ap expr_size node in
    let roomy : value_room (expr_of c.args.expr.now) ≡ value_room (BothFlat left right) = ap value_room node in
    let smaller : expr_size left + expr_size right + 3 < t = omega (arith, sized) in
    let fits : c.args.first + value_room (BothFlat left right) < 2 ^ 32 = let h = c.requires.room in omega (arith, roomy, h) in
    (smaller, fits)

pub expressions::push_value-push_either-requires : goal.expressions::push_value-push_either-requires
expressions::push_value-push_either-requires t c =
    let left = expr_of c.deref-in-Either.result.now in
    let right = expr_of c.deref-in-Either-2.result.now in
    let node : expr_of c.args.expr.now ≡ EitherFlat left right = ap expr_of c.in-Either.is ∙ ap (λ b. EitherFlat (expr_of b) (expr_of c.in-Either.right.value)) (sym c.deref-in-Either.ensures) ∙ ap (λ b. EitherFlat left (expr_of b)) (sym c.deref-in-Either-2.ensures) in
    let sized : expr_size (expr_of c.args.expr.now) ≡ expr_size left + expr_size right + 4 = ap expr_size node in
    let roomy : value_room (expr_of c.args.expr.now) ≡ value_room (EitherFlat left right) = ap value_room node in
    let smaller : expr_size left + expr_size right + 3 < t = omega (arith, sized) in
    let fits : c.args.first + value_room (EitherFlat left right) < 2 ^ 32 = let h = c.requires.room in omega (arith, roomy, h) in
    (smaller, fits)

pub expressions::push_value-push_choice-requires : goal.expressions::push_value-push_choice-requires
expressions::push_value-push_choice-requires t c =
    let test = expr_of c.deref-in-Choose.result.now in
    let one = expr_of c.deref-in-Choose-2.result.now in
    let other = expr_of c.deref-in-Choose-3.result.now in
    let node : expr_of c.args.expr.now ≡ ChooseFlat c.in-Choose.unsigned test one other =
    ap expr_of c.in-Choose.is ∙ ap (λ b. ChooseFlat c.in-Choose.unsigned (expr_of b) (expr_of c.in-Choose.yes.value) (expr_of c.in-Choose.no.value)) (sym c.deref-in-Choose.ensures)
    ∙ ap (λ b. ChooseFlat c.in-Choose.unsigned test (expr_of b) (expr_of c.in-Choose.no.value)) (sym c.deref-in-Choose-2.ensures) ∙ ap (λ b. ChooseFlat c.in-Choose.unsigned test one (expr_of b)) (sym c.deref-in-Choose-3.ensures) in
    let sized : expr_size (expr_of c.args.expr.now) ≡ expr_size test + expr_size one + expr_size other + 4 = ap expr_size node in
    let roomy : value_room (expr_of c.args.expr.now) ≡ value_room (ChooseFlat true test one other) = ap value_room node in
    let smaller : expr_size test + expr_size one + expr_size other + 2 < t = omega (arith, sized) in
    let fits : c.args.first + value_room (ChooseFlat true test one other) < 2 ^ 32 = let h = c.requires.room in omega (arith, roomy, h) in
    (smaller, fits)

pub expressions::push_value-push_args-requires : goal.expressions::push_value-push_args-requires
expressions::push_value-push_args-requires t c =
    let args = flat_arguments c.as_slice.result.now in
    let body = flat_trees c.in-Call.body.items in
    let node : expr_of c.args.expr.now ≡ CallFlat args body = call_is c.args.expr.now c.in-Call.args c.in-Call.body c.as_slice.result.now c.in-Call.body.items c.in-Call.is c.as_slice.ensures.value refl in
    let sized : expr_size (expr_of c.args.expr.now) ≡ args_size args + stmts_size body + 4 = ap expr_size node in
    let roomy : value_room (expr_of c.args.expr.now) ≡ max (args_room args) (max 1 (stmts_room body)) = ap value_room node in
    let smaller : args_size args < t = omega (arith, sized) in
    let fits : c.args.first + args_room args < 2 ^ 32 = let h = c.requires.room in omega (arith, roomy, h) in
    (smaller, fits)

pub expressions::push_value-stmts_list-requires : goal.expressions::push_value-stmts_list-requires
expressions::push_value-stmts_list-requires t c =
    let args = flat_arguments c.as_slice.result.now in
    let body = flat_trees c.as_slice-in-Call.result.now in
    let node : expr_of c.args.expr.now ≡ CallFlat args body = call_is c.args.expr.now c.in-Call.args c.in-Call.body c.as_slice.result.now c.as_slice-in-Call.result.now c.in-Call.is c.as_slice.ensures.value c.as_slice-in-Call.ensures.value in
    let sized : expr_size (expr_of c.args.expr.now) ≡ args_size args + stmts_size body + 4 = ap expr_size node in
    let roomy : value_room (expr_of c.args.expr.now) ≡ max (args_room args) (max 1 (stmts_room body)) = ap value_room node in
    let smaller : stmts_size body + 1 < t = omega (arith, sized) in
    let fits : c.args.first + stmts_room body < 2 ^ 32 = let h = c.requires.room in omega (arith, roomy, h) in
    (smaller, fits)

pub expressions::push_value-returns-in_ok-body-in-Call : goal.expressions::push_value-returns-in_ok-body-in-Call
expressions::push_value-returns-in_ok-body-in-Call t c =
    let args = flat_arguments c.as_slice.result.now in
    let body = flat_trees c.as_slice-in-Call.result.now in
    let node : expr_of c.args.expr.now ≡ CallFlat args body = call_is c.args.expr.now c.in-Call.args c.in-Call.body c.as_slice.result.now c.as_slice-in-Call.result.now c.in-Call.is c.as_slice.ensures.value c.as_slice-in-Call.ensures.value in
    let called : Ops → Ops → Ops = λ inner c'. AndOp (Set c.args.first (NumberOf 0)) (AndOp (Call inner) c') in
    let inner = stmts_ops body c.args.first NoOps in
    on_done c.put_call.result
    (λ puts c'. puts c' ∙ ap (λ x. onto c.push_args.new.out.items (called x c')) c.in_ok-body-in-Call.ensures ∙ c.in_ok-push_args-in-Call.ensures (called inner c')
    ∙ ap (λ e. onto c.args.out.now.items (value_ops e c.args.first c')) (sym node))
    c.put_call.ensures

pub expressions::push_value-push_builtin-requires : goal.expressions::push_value-push_builtin-requires
expressions::push_value-push_builtin-requires t c =
    let args = flat_arguments c.as_slice-in-Builtin.result.now in
    let node : expr_of c.args.expr.now ≡ BuiltinFlat c.in-Builtin.which c.in-Builtin.unsigned args =
    builtin_is c.args.expr.now c.in-Builtin.which c.in-Builtin.unsigned c.in-Builtin.args c.as_slice-in-Builtin.result.now c.in-Builtin.is c.as_slice-in-Builtin.ensures.value in
    let sized : expr_size (expr_of c.args.expr.now) ≡ args_size args + 4 = ap expr_size node in
    let roomy : value_room (expr_of c.args.expr.now) ≡ builtin_room c.in-Builtin.which args = ap value_room node in
    let smaller : args_size args + 3 < t = omega (arith, sized) in
    let fits : c.args.first + builtin_room c.in-Builtin.which args < 2 ^ 32 = let h = c.requires.room in omega (arith, roomy, h) in
    (smaller, fits)

pub expressions::push_value-returns-in-Builtin : goal.expressions::push_value-returns-in-Builtin
expressions::push_value-returns-in-Builtin t c =
    let args = flat_arguments c.as_slice-in-Builtin.result.now in
    let node : expr_of c.args.expr.now ≡ BuiltinFlat c.in-Builtin.which c.in-Builtin.unsigned args =
    builtin_is c.args.expr.now c.in-Builtin.which c.in-Builtin.unsigned c.in-Builtin.args c.as_slice-in-Builtin.result.now c.in-Builtin.is c.as_slice-in-Builtin.ensures.value in
    on_done c.push_builtin.result (λ puts c'. puts c' ∙ ap (λ e. onto c.args.out.now.items (value_ops e c.args.first c')) (sym node)) c.push_builtin.ensures

pub expressions::settled_list-returns : goal.expressions::settled_list-returns
expressions::settled_list-returns t c =
    let e = expr_of c.args.expr.now in
    let mid = c.push_value.new.out.items in
    let new = c.put_settled.new.out.items in
    let second : Puts mid new (settled (standing e) c.args.first) = subst (λ s. Puts mid new (settled s c.args.first)) c.standing_of.ensures c.in_ok-put_settled.ensures in
    made_on c.new-list.result.items mid new (value_ops e c.args.first) (settled (standing e) c.args.first) c.new-list.ensures.items c.in_ok-push_value.ensures second

pub expressions::truth_list-returns : goal.expressions::truth_list-returns
expressions::truth_list-returns t c =
    let e = expr_of c.args.expr.now in
    made_of c.new-list.result.items c.push_truth.new.out.items (λ c'. value_ops e c.args.first (truth_ops (operand_at (standing e) c.args.first) c.args.variable c')) c.new-list.ensures.items c.in_ok-push_truth.ensures

pub expressions::value_list-returns : goal.expressions::value_list-returns
expressions::value_list-returns t c =
    made_of c.new-list.result.items c.push_value.new.out.items (value_ops (expr_of c.args.expr.now) c.args.first) c.new-list.ensures.items c.in_ok-push_value.ensures

pub assignments::right_list-returns : goal.assignments::right_list-returns
assignments::right_list-returns t c =
    made_of c.new-list.result.items c.push_right.new.out.items (right_ops (value_held c.args.value.now) c.args.first) c.new-list.ensures.items c.in_ok-push_right.ensures

pub statements::stmt_list-returns : goal.statements::stmt_list-returns
statements::stmt_list-returns t c =
    made_of c.new-list.result.items c.push_stmt.new.out.items (stmt_ops (stmt_of c.args.stmt.now) c.args.given) c.new-list.ensures.items c.in_ok-push_stmt.ensures

pub statements::stmts_list-returns : goal.statements::stmts_list-returns
statements::stmts_list-returns t c =
    made_of c.new-list.result.items c.push_stmts.new.out.items (stmts_ops (flat_trees c.args.stmts.now) c.args.given) c.new-list.ensures.items c.in_ok-push_stmts.ensures

pub assignments::push_right-push_value-requires : goal.assignments::push_right-push_value-requires
assignments::push_right-push_value-requires t c =
    let e = expr_of c.deref.result.now in
    let node : value_held c.args.value.now ≡ SomeFlat e = ap value_held c.in-Some.is ∙ ap (λ b. SomeFlat (expr_of b)) (sym c.deref.ensures) in
    let sized : value_size (value_held c.args.value.now) ≡ expr_size e + 1 = ap value_size node in
    let roomy : right_room (value_held c.args.value.now) ≡ value_room e = ap right_room node in
    let smaller : expr_size e < t = omega (arith, sized) in
    let fits : c.args.first + value_room e < 2 ^ 32 = let h = c.requires.room in omega (arith, roomy, h) in
    (smaller, fits)

pub assignments::push_declared-push_value-requires : goal.assignments::push_declared-push_value-requires
assignments::push_declared-push_value-requires t c =
    let e = expr_of c.deref.result.now in
    let node : value_held c.args.value.now ≡ SomeFlat e = ap value_held c.in-Some.is ∙ ap (λ b. SomeFlat (expr_of b)) (sym c.deref.ensures) in
    let sized : value_size (value_held c.args.value.now) ≡ expr_size e + 1 = ap value_size node in
    let roomy : right_room (value_held c.args.value.now) ≡ value_room e = ap right_room node in
    let smaller : expr_size e < t = omega (arith, sized) in
    let fits : c.args.first + value_room e < 2 ^ 32 = let h = c.requires.room in omega (arith, roomy, h) in
    (smaller, fits)

pub assignments::push_returned-push_value-requires : goal.assignments::push_returned-push_value-requires
assignments::push_returned-push_value-requires t c =
    let e = expr_of c.deref.result.now in
    let node : value_held c.args.value.now ≡ SomeFlat e = ap value_held c.in-Some.is ∙ ap (λ b. SomeFlat (expr_of b)) (sym c.deref.ensures) in
    let sized : value_size (value_held c.args.value.now) ≡ expr_size e + 1 = ap value_size node in
    let roomy : right_room (value_held c.args.value.now) ≡ value_room e = ap right_room node in
    let smaller : expr_size e < t = omega (arith, sized) in
    let fits : c.args.given + 1 + value_room e < 2 ^ 32 = let h = c.requires.room in omega (arith, roomy, h) in
    (smaller, fits)

pub assignments::push_set_variable-push_right-requires : goal.assignments::push_set_variable-push_right-requires
assignments::push_set_variable-push_right-requires t c =
    let v = value_held c.args.value.now in
    let fits : c.args.first + right_room v < 2 ^ 32 = subst (λ o. c.args.first + assigned_room o (right_room v) (max 1 (above (right_calls v) (Named c.args.variable) (right_room v))) < 2 ^ 32) c.in-Set.is c.requires.room in
    let smaller : value_size v < t = omega arith in
    (smaller, fits)

pub assignments::push_set_variable-push_combined_variable-requires : goal.assignments::push_set_variable-push_combined_variable-requires
assignments::push_set_variable-push_combined_variable-requires t c =
    let v = value_held c.args.value.now in
    let fits : c.args.first + max 1 (above (right_calls v) (Named c.args.variable) (right_room v)) < 2 ^ 32 = subst (λ o. c.args.first + assigned_room o (right_room v) (max 1 (above (right_calls v) (Named c.args.variable) (right_room v))) < 2 ^ 32) c.in-With.is c.requires.room in
    let smaller : value_size v + 1 < t = omega arith in
    (smaller, fits)

pub assignments::push_set_variable-push_combined_variable-requires-in-Up : goal.assignments::push_set_variable-push_combined_variable-requires-in-Up
assignments::push_set_variable-push_combined_variable-requires-in-Up t c =
    let v = value_held c.args.value.now in
    let fits : c.args.first + max 1 (above (right_calls v) (Named c.args.variable) (right_room v)) < 2 ^ 32 = subst (λ o. c.args.first + assigned_room o (right_room v) (max 1 (above (right_calls v) (Named c.args.variable) (right_room v))) < 2 ^ 32) c.in-Up.is c.requires.room in
    let smaller : value_size v + 1 < t = omega arith in
    (smaller, fits)

pub assignments::push_set_variable-push_combined_variable-requires-in-Down : goal.assignments::push_set_variable-push_combined_variable-requires-in-Down
assignments::push_set_variable-push_combined_variable-requires-in-Down t c =
    let v = value_held c.args.value.now in
    let fits : c.args.first + max 1 (above (right_calls v) (Named c.args.variable) (right_room v)) < 2 ^ 32 = subst (λ o. c.args.first + assigned_room o (right_room v) (max 1 (above (right_calls v) (Named c.args.variable) (right_room v))) < 2 ^ 32) c.in-Down.is c.requires.room in
    let smaller : value_size v + 1 < t = omega arith in
    (smaller, fits)

pub assignments::push_combined_variable-push_right-requires : goal.assignments::push_combined_variable-push_right-requires
assignments::push_combined_variable-push_right-requires t c =
    let v = value_held c.args.value.now in
    let is : c.above-above.result ≡ above (right_calls v) (Named c.args.variable) c.args.first =
    c.above-above.ensures ∙ ap (λ b. above b (Named c.args.variable) c.args.first) c.right_calls-calls.ensures in
    let adds = above_adds (right_calls v) (Named c.args.variable) c.args.first (right_room v) in
    let smaller : value_size v < t = omega arith in
    let fits : c.above-above.result + right_room v < 2 ^ 32 = let h = c.requires.room in omega (arith, is, adds, h) in
    (smaller, fits)

pub assignments::push_set_element-push_stored-requires : goal.assignments::push_set_element-push_stored-requires
assignments::push_set_element-push_stored-requires t c =
    let v = value_held c.args.value.now in
    let p = expr_of c.args.place.now in
    let fits : c.args.first + pair_room (value_room p) (standing p) (right_room v) (right_calls v) < 2 ^ 32 = subst (λ o. c.args.first + assigned_room o (pair_room (value_room p) (standing p) (right_room v) (right_calls v)) (pair_room (value_room p) (standing p) (suc (right_room v)) (right_calls v)) < 2 ^ 32) c.in-Set.is c.requires.room in
    let smaller : expr_size p + value_size v + 2 < t = omega arith in
    (smaller, fits)

pub assignments::push_set_element-push_changed-requires : goal.assignments::push_set_element-push_changed-requires
assignments::push_set_element-push_changed-requires t c =
    let v = value_held c.args.value.now in
    let p = expr_of c.args.place.now in
    let fits : c.args.first + pair_room (value_room p) (standing p) (suc (right_room v)) (right_calls v) < 2 ^ 32 = subst (λ o. c.args.first + assigned_room o (pair_room (value_room p) (standing p) (right_room v) (right_calls v)) (pair_room (value_room p) (standing p) (suc (right_room v)) (right_calls v)) < 2 ^ 32) c.in-With.is c.requires.room in
    let smaller : expr_size p + value_size v + 2 < t = omega arith in
    (smaller, fits)

pub assignments::push_set_element-push_changed-requires-in-Up : goal.assignments::push_set_element-push_changed-requires-in-Up
assignments::push_set_element-push_changed-requires-in-Up t c =
    let v = value_held c.args.value.now in
    let p = expr_of c.args.place.now in
    let fits : c.args.first + pair_room (value_room p) (standing p) (suc (right_room v)) (right_calls v) < 2 ^ 32 = subst (λ o. c.args.first + assigned_room o (pair_room (value_room p) (standing p) (right_room v) (right_calls v)) (pair_room (value_room p) (standing p) (suc (right_room v)) (right_calls v)) < 2 ^ 32) c.in-Up.is c.requires.room in
    let smaller : expr_size p + value_size v + 2 < t = omega arith in
    (smaller, fits)

pub assignments::push_set_element-push_changed-requires-in-Down : goal.assignments::push_set_element-push_changed-requires-in-Down
assignments::push_set_element-push_changed-requires-in-Down t c =
    let v = value_held c.args.value.now in
    let p = expr_of c.args.place.now in
    let fits : c.args.first + pair_room (value_room p) (standing p) (suc (right_room v)) (right_calls v) < 2 ^ 32 = subst (λ o. c.args.first + assigned_room o (pair_room (value_room p) (standing p) (right_room v) (right_calls v)) (pair_room (value_room p) (standing p) (suc (right_room v)) (right_calls v)) < 2 ^ 32) c.in-Down.is c.requires.room in
    let smaller : expr_size p + value_size v + 2 < t = omega arith in
    (smaller, fits)

pub assignments::push_stored-push_value-requires : goal.assignments::push_stored-push_value-requires
assignments::push_stored-push_value-requires t c =
    let v = value_held c.args.value.now in
    let p = expr_of c.args.place.now in
    let h : c.args.first + max (value_room p) (above (right_calls v) (standing p) (right_room v)) < 2 ^ 32 = c.requires.room in
    let smaller : expr_size p < t = omega arith in
    let fits : c.args.first + value_room p < 2 ^ 32 = omega (arith, h) in
    (smaller, fits)

pub assignments::push_changed-push_value-requires : goal.assignments::push_changed-push_value-requires
assignments::push_changed-push_value-requires t c =
    let v = value_held c.args.value.now in
    let p = expr_of c.args.place.now in
    let h : c.args.first + max (value_room p) (above (right_calls v) (standing p) (suc (right_room v))) < 2 ^ 32 = c.requires.room in
    let smaller : expr_size p < t = omega arith in
    let fits : c.args.first + value_room p < 2 ^ 32 = omega (arith, h) in
    (smaller, fits)

pub assignments::push_stored-push_right-requires : goal.assignments::push_stored-push_right-requires
assignments::push_stored-push_right-requires t c =
    let v = value_held c.args.value.now in
    let p = expr_of c.args.place.now in
    let is : c.above-above.result ≡ above (right_calls v) (standing p) c.args.first =
    c.above-above.ensures ∙ ap (λ b. above b (standing_by c.standing_of-held.result) c.args.first) c.right_calls-calls.ensures ∙ ap (λ s. above (right_calls v) s c.args.first) c.standing_of-held.ensures in
    let h = right_fits c.args.first (value_room p) (right_room v) (2 ^ 32) (standing p) (right_calls v) c.requires.room in
    let smaller : value_size v < t = omega arith in
    let fits : c.above-above.result + right_room v < 2 ^ 32 = omega (arith, is, h) in
    (smaller, fits)

pub assignments::push_changed-push_combined_element-requires : goal.assignments::push_changed-push_combined_element-requires
assignments::push_changed-push_combined_element-requires t c =
    let v = value_held c.args.value.now in
    let p = expr_of c.args.place.now in
    let is : c.above-before.result ≡ above (right_calls v) (standing p) c.args.first =
    c.above-before.ensures ∙ ap (λ b. above b (standing_by c.standing_of-held.result) c.args.first) c.right_calls-calls.ensures ∙ ap (λ s. above (right_calls v) s c.args.first) c.standing_of-held.ensures in
    let h = right_fits c.args.first (value_room p) (suc (right_room v)) (2 ^ 32) (standing p) (right_calls v) c.requires.room in
    let smaller : value_size v + 1 < t = omega arith in
    let fits : c.above-before.result + suc (right_room v) < 2 ^ 32 = omega (arith, is, h) in
    (smaller, fits)

pub assignments::push_combined_element-push_right-requires : goal.assignments::push_combined_element-push_right-requires
assignments::push_combined_element-push_right-requires t c =
    let v = value_held c.args.value.now in
    let smaller : value_size v < t = omega arith in
    let fits : c.args.before + 1 + right_room v < 2 ^ 32 = let h = c.requires.room in omega (arith, h) in
    (smaller, fits)

pub statements::push_stmt-push_declared-requires : goal.statements::push_stmt-push_declared-requires
statements::push_stmt-push_declared-requires t c =
    let v = value_held c.in-Declare.value in
    let node : stmt_of c.args.stmt.now ≡ DeclareFlat c.in-Declare.variable c.in-Declare.elem v = declare_is c.args.stmt.now c.in-Declare.variable c.in-Declare.elem c.in-Declare.value c.in-Declare.is in
    let sized : stmt_size (stmt_of c.args.stmt.now) ≡ stmt_size (DeclareFlat c.in-Declare.variable c.in-Declare.elem v) = ap stmt_size node in
    let roomy : stmt_room (stmt_of c.args.stmt.now) ≡ stmt_room (DeclareFlat c.in-Declare.variable c.in-Declare.elem v) = ap stmt_room node in
    let smaller : value_size v < t = omega (arith, sized) in
    let fits : c.args.given + 1 + right_room v < 2 ^ 32 = let h = c.requires.room in omega (arith, roomy, h) in
    (smaller, fits)

pub statements::push_stmt-push_set_variable-requires : goal.statements::push_stmt-push_set_variable-requires
statements::push_stmt-push_set_variable-requires t c =
    let v = value_held c.in-SetVariable.value in
    let node : stmt_of c.args.stmt.now ≡ SetVariableFlat c.in-SetVariable.variable c.in-SetVariable.elem c.in-SetVariable.op c.in-SetVariable.unsigned v = set_variable_is c.args.stmt.now c.in-SetVariable.variable c.in-SetVariable.elem c.in-SetVariable.op c.in-SetVariable.unsigned c.in-SetVariable.value c.in-SetVariable.is in
    let sized : stmt_size (stmt_of c.args.stmt.now) ≡ stmt_size (SetVariableFlat c.in-SetVariable.variable c.in-SetVariable.elem c.in-SetVariable.op c.in-SetVariable.unsigned v) = ap stmt_size node in
    let roomy : stmt_room (stmt_of c.args.stmt.now) ≡ stmt_room (SetVariableFlat c.in-SetVariable.variable c.in-SetVariable.elem c.in-SetVariable.op c.in-SetVariable.unsigned v) = ap stmt_room node in
    let smaller : value_size v + 2 < t = omega (arith, sized) in
    let fits : c.args.given + 1 + assigned_room c.in-SetVariable.op (right_room v) (max 1 (above (right_calls v) (Named c.in-SetVariable.variable) (right_room v))) < 2 ^ 32 = let h = c.requires.room in omega (arith, roomy, h) in
    (smaller, fits)

pub statements::push_stmt-push_set_element-requires : goal.statements::push_stmt-push_set_element-requires
statements::push_stmt-push_set_element-requires t c =
    let p = expr_of c.deref.result.now in
    let v = value_held c.in-SetElement.value in
    let node : stmt_of c.args.stmt.now ≡ SetElementFlat c.in-SetElement.array c.in-SetElement.elem p c.in-SetElement.op c.in-SetElement.unsigned v c.in-SetElement.pos = set_element_is c.args.stmt.now c.in-SetElement.array c.in-SetElement.elem c.in-SetElement.place c.in-SetElement.op c.in-SetElement.unsigned c.in-SetElement.value c.in-SetElement.pos c.in-SetElement.is ∙ ap (λ b. SetElementFlat c.in-SetElement.array c.in-SetElement.elem (expr_of b) c.in-SetElement.op c.in-SetElement.unsigned v c.in-SetElement.pos) (sym c.deref.ensures) in
    let sized : stmt_size (stmt_of c.args.stmt.now) ≡ stmt_size (SetElementFlat c.in-SetElement.array c.in-SetElement.elem p c.in-SetElement.op c.in-SetElement.unsigned v c.in-SetElement.pos) = ap stmt_size node in
    let roomy : stmt_room (stmt_of c.args.stmt.now) ≡ stmt_room (SetElementFlat c.in-SetElement.array c.in-SetElement.elem p c.in-SetElement.op c.in-SetElement.unsigned v c.in-SetElement.pos) = ap stmt_room node in
    let smaller : expr_size p + value_size v + 3 < t = omega (arith, sized) in
    let fits : c.args.given + 1 + assigned_room c.in-SetElement.op (pair_room (value_room p) (standing p) (right_room v) (right_calls v)) (pair_room (value_room p) (standing p) (suc (right_room v)) (right_calls v)) < 2 ^ 32 = let h = c.requires.room in omega (arith, roomy, h) in
    (smaller, fits)

pub statements::push_stmt-push_returned-requires : goal.statements::push_stmt-push_returned-requires
statements::push_stmt-push_returned-requires t c =
    let v = value_held c.in-Return.value in
    let node : stmt_of c.args.stmt.now ≡ ReturnFlat c.in-Return.gives v = return_is c.args.stmt.now c.in-Return.gives c.in-Return.value c.in-Return.is in
    let sized : stmt_size (stmt_of c.args.stmt.now) ≡ stmt_size (ReturnFlat c.in-Return.gives v) = ap stmt_size node in
    let roomy : stmt_room (stmt_of c.args.stmt.now) ≡ stmt_room (ReturnFlat c.in-Return.gives v) = ap stmt_room node in
    let smaller : value_size v < t = omega (arith, sized) in
    let fits : c.args.given + suc (right_room v) < 2 ^ 32 = let h = c.requires.room in omega (arith, roomy, h) in
    (smaller, fits)

pub statements::push_stmt-push_value-requires : goal.statements::push_stmt-push_value-requires
statements::push_stmt-push_value-requires t c =
    let e = expr_of c.deref-in-Call.result.now in
    let node : stmt_of c.args.stmt.now ≡ CallStmtFlat e = ap stmt_of c.in-Call.is ∙ ap (λ b. CallStmtFlat (expr_of b)) (sym c.deref-in-Call.ensures) in
    let sized : stmt_size (stmt_of c.args.stmt.now) ≡ expr_size e + 4 = ap stmt_size node in
    let roomy : stmt_room (stmt_of c.args.stmt.now) ≡ suc (value_room e) = ap stmt_room node in
    let smaller : expr_size e < t = omega (arith, sized) in
    let fits : c.args.given + 1 + value_room e < 2 ^ 32 = let h = c.requires.room in omega (arith, roomy, h) in
    (smaller, fits)

pub statements::push_stmt-push_if-requires : goal.statements::push_stmt-push_if-requires
statements::push_stmt-push_if-requires t c =
    let test = expr_of c.deref-in-If.result.now in
    let one = stmt_of c.deref-in-If-2.result.now in
    let other = else_held c.in-If.no in
    let node : stmt_of c.args.stmt.now ≡ if_flat test one other =
    branch_is c.args.stmt.now c.in-If.test c.in-If.yes c.in-If.no c.in-If.is ∙ ap (λ b. if_flat (expr_of b) (stmt_of c.in-If.yes.value) other) (sym c.deref-in-If.ensures)
    ∙ ap (λ b. if_flat test (stmt_of b) other) (sym c.deref-in-If-2.ensures) in
    let sized : stmt_size (stmt_of c.args.stmt.now) ≡ expr_size test + stmt_size one + else_size other + 4 = ap stmt_size node ∙ if_size test one other in
    let smaller : expr_size test + stmt_size one + else_size other + 3 < t = omega (arith, sized) in
    (smaller, subst (λ s. c.args.given + stmt_room s < 2 ^ 32) node c.requires.room)

pub statements::push_stmt-push_while-requires : goal.statements::push_stmt-push_while-requires
statements::push_stmt-push_while-requires t c =
    let a = expr_of c.deref-in-While.result.now in
    let b = stmt_of c.deref-in-While-2.result.now in
    let node : stmt_of c.args.stmt.now ≡ WhileFlat a b = ap stmt_of c.in-While.is ∙ ap (λ x. WhileFlat (expr_of x) (stmt_of c.in-While.body.value)) (sym c.deref-in-While.ensures) ∙ ap (λ x. WhileFlat a (stmt_of x)) (sym c.deref-in-While-2.ensures) in
    let sized : stmt_size (stmt_of c.args.stmt.now) ≡ stmt_size (WhileFlat a b) = ap stmt_size node in
    let smaller : expr_size a + stmt_size b + 3 < t = omega (arith, sized) in
    (smaller, subst (λ s. c.args.given + stmt_room s < 2 ^ 32) node c.requires.room)

pub statements::push_stmt-push_do-requires : goal.statements::push_stmt-push_do-requires
statements::push_stmt-push_do-requires t c =
    let a = stmt_of c.deref-in-Do.result.now in
    let b = expr_of c.deref-in-Do-2.result.now in
    let node : stmt_of c.args.stmt.now ≡ DoFlat a b = ap stmt_of c.in-Do.is ∙ ap (λ x. DoFlat (stmt_of x) (expr_of c.in-Do.test.value)) (sym c.deref-in-Do.ensures) ∙ ap (λ x. DoFlat a (expr_of x)) (sym c.deref-in-Do-2.ensures) in
    let sized : stmt_size (stmt_of c.args.stmt.now) ≡ stmt_size (DoFlat a b) = ap stmt_size node in
    let smaller : stmt_size a + expr_size b + 3 < t = omega (arith, sized) in
    (smaller, subst (λ s. c.args.given + stmt_room s < 2 ^ 32) node c.requires.room)

pub statements::push_stmt-push_for-requires : goal.statements::push_stmt-push_for-requires
statements::push_stmt-push_for-requires t c =
    let first = flat_trees c.as_slice.result.now in
    let test = value_held c.in-For.test in
    let step = flat_trees c.as_slice-in-For.result.now in
    let body = stmt_of c.deref-in-For.result.now in
    let node : stmt_of c.args.stmt.now ≡ ForFlat first test step body =
    for_is c.args.stmt.now c.in-For.first c.in-For.test c.in-For.step c.in-For.body c.as_slice.result.now c.as_slice-in-For.result.now c.in-For.is c.as_slice.ensures.value c.as_slice-in-For.ensures.value
    ∙ ap (λ b. ForFlat first test step (stmt_of b)) (sym c.deref-in-For.ensures) in
    let sized : stmt_size (stmt_of c.args.stmt.now) ≡ stmts_size first + value_size test + stmts_size step + stmt_size body + 4 = ap stmt_size node in
    let smaller : stmts_size first + value_size test + stmts_size step + stmt_size body + 3 < t = omega (arith, sized) in
    (smaller, subst (λ s. c.args.given + stmt_room s < 2 ^ 32) node c.requires.room)

pub statements::push_stmt-returns-in-For : goal.statements::push_stmt-returns-in-For
statements::push_stmt-returns-in-For t c =
    let first = flat_trees c.as_slice.result.now in
    let test = value_held c.in-For.test in
    let step = flat_trees c.as_slice-in-For.result.now in
    let body = stmt_of c.deref-in-For.result.now in
    let node : stmt_of c.args.stmt.now ≡ ForFlat first test step body =
    for_is c.args.stmt.now c.in-For.first c.in-For.test c.in-For.step c.in-For.body c.as_slice.result.now c.as_slice-in-For.result.now c.in-For.is c.as_slice.ensures.value c.as_slice-in-For.ensures.value
    ∙ ap (λ b. ForFlat first test step (stmt_of b)) (sym c.deref-in-For.ensures) in
    on_done c.push_for.result (λ puts c'. puts c' ∙ ap (λ s. onto c.args.out.now.items (stmt_ops s c.args.given c')) (sym node)) c.push_for.ensures

pub statements::push_stmt-push_stmts-requires : goal.statements::push_stmt-push_stmts-requires
statements::push_stmt-push_stmts-requires t c =
    let items = flat_trees c.as_slice-in-Block.result.now in
    let node : stmt_of c.args.stmt.now ≡ BlockFlat items = block_is c.args.stmt.now c.in-Block.items c.as_slice-in-Block.result.now c.in-Block.is c.as_slice-in-Block.ensures.value in
    let sized : stmt_size (stmt_of c.args.stmt.now) ≡ stmts_size items + 4 = ap stmt_size node in
    let smaller : stmts_size items < t = omega (arith, sized) in
    (smaller, subst (λ s. c.args.given + stmt_room s < 2 ^ 32) node c.requires.room)

pub statements::push_stmt-returns-in-Block : goal.statements::push_stmt-returns-in-Block
statements::push_stmt-returns-in-Block t c =
    let items = flat_trees c.as_slice-in-Block.result.now in
    let node : stmt_of c.args.stmt.now ≡ BlockFlat items = block_is c.args.stmt.now c.in-Block.items c.as_slice-in-Block.result.now c.in-Block.is c.as_slice-in-Block.ensures.value in
    on_done c.push_stmts.result (λ puts c'. puts c' ∙ ap (λ s. onto c.args.out.now.items (stmt_ops s c.args.given c')) (sym node)) c.push_stmts.ensures

pub statements::push_stmt-returns-in-SetVariable : goal.statements::push_stmt-returns-in-SetVariable
statements::push_stmt-returns-in-SetVariable t c =
    let node = set_variable_is c.args.stmt.now c.in-SetVariable.variable c.in-SetVariable.elem c.in-SetVariable.op c.in-SetVariable.unsigned c.in-SetVariable.value c.in-SetVariable.is in
    let v = value_held c.in-SetVariable.value in
    let next : c.args.given + 1 ≡ suc c.args.given = omega arith in
    on_done c.push_set_variable.result
    (λ puts c'. puts c' ∙ ap (λ n. onto c.args.out.now.items (assigned_variable c.in-SetVariable.op c.in-SetVariable.unsigned c.in-SetVariable.variable c.in-SetVariable.elem (right_ops v) (right_standing v) (right_calls v) n c')) next
    ∙ ap (λ s. onto c.args.out.now.items (stmt_ops s c.args.given c')) (sym node))
    c.push_set_variable.ensures

pub statements::push_stmts-push_stmt-requires : goal.statements::push_stmts-push_stmt-requires
statements::push_stmts-push_stmt-requires t c =
    let stmts = c.args.stmts.now in
    let sized = stmt_smaller stmts c.loop-k.k c.index-stmts-k.result c.loop-k-test.true c.index-stmts-k.is in
    let roomy = stmt_fits stmts c.loop-k.k c.index-stmts-k.result c.loop-k-test.true c.index-stmts-k.is in
    let smaller : stmt_size (stmt_of c.index-stmts-k.result) < t = omega (arith, sized) in
    let fits : c.args.given + stmt_room (stmt_of c.index-stmts-k.result) < 2 ^ 32 = let h = c.requires.room in omega (arith, roomy, h) in
    (smaller, fits)

pub statements::else_list-stmt_list-requires : goal.statements::else_list-stmt_list-requires
statements::else_list-stmt_list-requires t c =
    let s = stmt_of c.deref.result.now in
    let node : else_held c.args.other.now ≡ Some s = ap else_held c.in-Some.is ∙ ap (λ b. Some (stmt_of b)) (sym c.deref.ensures) in
    let sized : else_size (else_held c.args.other.now) ≡ stmt_size s + 2 = ap else_size node in
    let roomy : else_room (else_held c.args.other.now) ≡ stmt_room s = ap else_room node in
    let smaller : stmt_size s + 1 < t = omega (arith, sized) in
    let fits : c.args.given + stmt_room s < 2 ^ 32 = let h = c.requires.room in omega (arith, roomy, h) in
    (smaller, fits)

pub statements::push_if-push_value-requires : goal.statements::push_if-push_value-requires
statements::push_if-push_value-requires t c =
    let test = expr_of c.args.test.now in
    let one = stmt_of c.args.yes.now in
    let other = else_held c.args.no.now in
    let roomy = if_room test one other in
    let smaller : expr_size test < t = omega arith in
    let fits : c.args.given + 1 + value_room test < 2 ^ 32 = let h = c.requires.room in omega (arith, roomy, h) in
    (smaller, fits)

pub statements::push_if-stmt_list-requires : goal.statements::push_if-stmt_list-requires
statements::push_if-stmt_list-requires t c =
    let test = expr_of c.args.test.now in
    let one = stmt_of c.args.yes.now in
    let other = else_held c.args.no.now in
    let roomy = if_room test one other in
    let smaller : stmt_size one + 1 < t = omega arith in
    let fits : c.args.given + stmt_room one < 2 ^ 32 = let h = c.requires.room in omega (arith, roomy, h) in
    (smaller, fits)

pub statements::push_if-else_list-requires : goal.statements::push_if-else_list-requires
statements::push_if-else_list-requires t c =
    let test = expr_of c.args.test.now in
    let one = stmt_of c.args.yes.now in
    let other = else_held c.args.no.now in
    let roomy = if_room test one other in
    let smaller : else_size other < t = omega arith in
    let fits : c.args.given + else_room other < 2 ^ 32 = let h = c.requires.room in omega (arith, roomy, h) in
    (smaller, fits)

pub statements::push_if-returns : goal.statements::push_if-returns
statements::push_if-returns t c =
    let test = expr_of c.args.test.now in
    let one = stmt_of c.args.yes.now in
    let other = else_held c.args.no.now in
    let next : c.args.given + 1 ≡ suc c.args.given = omega arith in
    let a = operand_at (standing test) (c.args.given + 1) in
    let branch : Ops → Ops → Ops → Ops = λ x y c'. AndOp (If a x y) c' in
    on_done c.put_branch.result
    (λ puts c'. puts c' ∙ ap (λ x. onto c.push_value.new.out.items (branch x (ops_of c.in_ok-other.other.items) c')) c.in_ok-one.ensures
    ∙ ap (λ y. onto c.push_value.new.out.items (branch (stmt_ops one c.args.given NoOps) y c')) c.in_ok-other.ensures
    ∙ c.in_ok-push_value.ensures (branch (stmt_ops one c.args.given NoOps) (else_ops other c.args.given) c') ∙ ap (onto c.args.out.now.items) (sym (if_at test one other c.args.given (c.args.given + 1) c' next)))
    c.put_branch.ensures

pub statements::push_while-value_list-requires : goal.statements::push_while-value_list-requires
statements::push_while-value_list-requires t c =
    let test = expr_of c.args.test.now in
    let body = stmt_of c.args.body.now in
    let h : c.args.given + max (suc (value_room test)) (stmt_room body) < 2 ^ 32 = c.requires.room in
    let smaller : expr_size test + 1 < t = omega arith in
    let fits : c.args.given + 1 + value_room test < 2 ^ 32 = omega (arith, h) in
    (smaller, fits)

pub statements::push_while-stmt_list-requires : goal.statements::push_while-stmt_list-requires
statements::push_while-stmt_list-requires t c =
    let test = expr_of c.args.test.now in
    let body = stmt_of c.args.body.now in
    let h : c.args.given + max (suc (value_room test)) (stmt_room body) < 2 ^ 32 = c.requires.room in
    let smaller : stmt_size body + 1 < t = omega arith in
    let fits : c.args.given + stmt_room body < 2 ^ 32 = omega (arith, h) in
    (smaller, fits)

pub statements::push_do-settled_list-requires : goal.statements::push_do-settled_list-requires
statements::push_do-settled_list-requires t c =
    let test = expr_of c.args.test.now in
    let body = stmt_of c.args.body.now in
    let h : c.args.given + max (suc (max 1 (value_room test))) (stmt_room body) < 2 ^ 32 = c.requires.room in
    let smaller : expr_size test + 1 < t = omega arith in
    let fits : c.args.given + 1 + value_room test < 2 ^ 32 = omega (arith, h) in
    (smaller, fits)

pub statements::push_do-stmt_list-requires : goal.statements::push_do-stmt_list-requires
statements::push_do-stmt_list-requires t c =
    let test = expr_of c.args.test.now in
    let body = stmt_of c.args.body.now in
    let h : c.args.given + max (suc (max 1 (value_room test))) (stmt_room body) < 2 ^ 32 = c.requires.room in
    let smaller : stmt_size body + 1 < t = omega arith in
    let fits : c.args.given + stmt_room body < 2 ^ 32 = omega (arith, h) in
    (smaller, fits)

pub statements::push_for-push_stmts-requires : goal.statements::push_for-push_stmts-requires
statements::push_for-push_stmts-requires t c =
    let first = flat_trees c.args.first.now in
    let test = value_held c.args.test.now in
    let step = flat_trees c.args.step.now in
    let body = stmt_of c.args.body.now in
    let h : c.args.given + max (stmts_room first) (max (suc (right_room test)) (max (stmts_room step) (stmt_room body))) < 2 ^ 32 = c.requires.room in
    let smaller : stmts_size first < t = omega arith in
    let fits : c.args.given + stmts_room first < 2 ^ 32 = omega (arith, h) in
    (smaller, fits)

pub statements::push_for-right_list-requires : goal.statements::push_for-right_list-requires
statements::push_for-right_list-requires t c =
    let first = flat_trees c.args.first.now in
    let test = value_held c.args.test.now in
    let step = flat_trees c.args.step.now in
    let body = stmt_of c.args.body.now in
    let h : c.args.given + max (stmts_room first) (max (suc (right_room test)) (max (stmts_room step) (stmt_room body))) < 2 ^ 32 = c.requires.room in
    let smaller : value_size test + 1 < t = omega arith in
    let fits : c.args.given + 1 + right_room test < 2 ^ 32 = omega (arith, h) in
    (smaller, fits)

pub statements::push_for-stmt_list-requires : goal.statements::push_for-stmt_list-requires
statements::push_for-stmt_list-requires t c =
    let first = flat_trees c.args.first.now in
    let test = value_held c.args.test.now in
    let step = flat_trees c.args.step.now in
    let body = stmt_of c.args.body.now in
    let h : c.args.given + max (stmts_room first) (max (suc (right_room test)) (max (stmts_room step) (stmt_room body))) < 2 ^ 32 = c.requires.room in
    let smaller : stmt_size body + 1 < t = omega arith in
    let fits : c.args.given + stmt_room body < 2 ^ 32 = omega (arith, h) in
    (smaller, fits)

pub statements::push_for-stmts_list-requires : goal.statements::push_for-stmts_list-requires
statements::push_for-stmts_list-requires t c =
    let first = flat_trees c.args.first.now in
    let test = value_held c.args.test.now in
    let step = flat_trees c.args.step.now in
    let body = stmt_of c.args.body.now in
    let h : c.args.given + max (stmts_room first) (max (suc (right_room test)) (max (stmts_room step) (stmt_room body))) < 2 ^ 32 = c.requires.room in
    let smaller : stmts_size step + 1 < t = omega arith in
    let fits : c.args.given + stmts_room step < 2 ^ 32 = omega (arith, h) in
    (smaller, fits)

pub statements::push_for-returns : goal.statements::push_for-returns
statements::push_for-returns t c =
    let first = flat_trees c.args.first.now in
    let test = value_held c.args.test.now in
    let step = flat_trees c.args.step.now in
    let body = stmt_of c.args.body.now in
    let old = c.args.out.now.items in
    let mid = c.push_stmts.new.out.items in
    let next : c.args.given + 1 ≡ suc c.args.given = omega arith in
    let head = right_ops test (c.args.given + 1) NoOps in
    let a = operand_at (right_standing test) (c.args.given + 1) in
    let turn = stmt_ops body c.args.given NoOps in
    let behind = stmts_ops step c.args.given NoOps in
    on_done c.put_loop.result
    (λ puts c'. puts c' ∙ ap (λ x. onto mid (AndOp (Loop x (operand_of c.operand_right.result) (ops_of c.in_ok-turn.turn.items) (ops_of c.in_ok-behind.behind.items)) c')) c.in_ok-head.ensures
    ∙ ap (λ x. onto mid (AndOp (Loop head x (ops_of c.in_ok-turn.turn.items) (ops_of c.in_ok-behind.behind.items)) c')) c.operand_right.ensures
    ∙ ap (λ x. onto mid (AndOp (Loop head a x (ops_of c.in_ok-behind.behind.items)) c')) c.in_ok-turn.ensures
    ∙ ap (λ x. onto mid (AndOp (Loop head a turn x) c')) c.in_ok-behind.ensures
    ∙ c.in_ok-push_stmts.ensures (AndOp (Loop head a turn behind) c')
    ∙ ap (λ x. onto old (stmts_ops first c.args.given x)) (sym (loop_at test turn behind c.args.given (c.args.given + 1) c' next)))
    c.put_loop.ensures
