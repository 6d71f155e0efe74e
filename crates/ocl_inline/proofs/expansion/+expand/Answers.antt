use Rattle.std.proofs.Common.{◌≡◌, ◌+◌, ◌*◌, ◌<◌, [], ◌∷◌, ◌++◌, IfOk, drop, slice_get, map, refl, ap, sym, subst, ◌∙◌, arith}
use Rattle.std.specs.Option.{option_copied, option_map}
use Rattle.ocl_program.specs.Nodes.{arg_nodes}
use Rattle.ocl_program.specs.Shapes.{argument_node, function_node, node_of, stmt_node, typed_stmts}
use Rattle.ocl_sem.specs.Source.{scope_at, variable_in}
use Rattle.ocl_sem.specs.Views.{scope_of}
use Rattle.ocl_inline.specs.Expanding.{args_in, bodies_in, stmts_in}
use Rattle.ocl_inline.specs.Expansion.{binding_at, flat_expr, flat_stmt}
use Rattle.ocl_inline.specs.Shapes.{expr_of, flat_arguments, flat_trees, stmt_of}
use Rattle.ocl_inline.specs.Sizes.{arg_size, args_size, bodies_size, expr_size, stmt_size, stmts_size}
use Rattle.ocl_inline.specs.Trees.{BlockFlat, BuiltinFlat, FlatStmt, written}
use Rattle.ocl_inline.proofs.Onto.{arguments_onto, trees_onto}
use Rattle.ocl_inline.proofs.Parts.{argument_more, argument_smaller, arguments_done, binding_is, block_is, body_expanded, body_left_out, body_smaller, builtin_is, call_expanded, call_is, for_expanded, for_is, level_less, param_at, stmt_more, stmt_smaller, stmts_done, variable_more}
use Rattle.ocl_inline.proofs.expansion.+expand.Goals as goal
use Rattle.ocl_inline.proofs.expansion.+expand.Goals.{expand_call-in-Some-checked_sub+in_ok-body-in-Some-checked_sub, expand_call-in-None}

-- ---- expressions

pub expand_expr-expand_call-requires : goal.expand_expr-expand_call-requires
expand_expr-expand_call-requires t c =
    let size : expr_size (node_of c.args.expr.now) ≡ args_size (arg_nodes (map argument_node c.as_slice.result.now)) + 2 =
    ap expr_size (call_is c.args.expr.now c.in-Call.call c.in-Call.args c.as_slice.result.now c.in-Call.is c.as_slice.ensures.value) in
    let smaller : c.args.levels * bodies_size (map function_node c.args.program.now) + (args_size (arg_nodes (map argument_node c.as_slice.result.now)) + 1) < t = omega (arith, size) in
    (smaller, tt)

pub expand_expr-expand_args-requires : goal.expand_expr-expand_args-requires
expand_expr-expand_args-requires t c =
    let seen = c.as_slice-in-Builtin.result.now in
    let size : expr_size (node_of c.args.expr.now) ≡ args_size (arg_nodes (map argument_node seen)) + 1 =
    ap expr_size (builtin_is c.args.expr.now c.in-Builtin.which c.in-Builtin.unsigned c.in-Builtin.args seen c.in-Builtin.is c.as_slice-in-Builtin.ensures.value) in
    let smaller : c.args.levels * bodies_size (map function_node c.args.program.now) + args_size (arg_nodes (map argument_node seen)) < t = omega (arith, size) in
    (smaller, tt)

pub expand_expr-returns-in-Call : goal.expand_expr-returns-in-Call
expand_expr-returns-in-Call t c =
    rw (call_is c.args.expr.now c.in-Call.call c.in-Call.args c.as_slice.result.now c.in-Call.is c.as_slice.ensures.value) c.expand_call.ensures

pub expand_expr-returns-in_ok-args-in-Builtin : goal.expand_expr-returns-in_ok-args-in-Builtin
expand_expr-returns-in_ok-args-in-Builtin t c =
    let node = builtin_is c.args.expr.now c.in-Builtin.which c.in-Builtin.unsigned c.in-Builtin.args c.as_slice-in-Builtin.result.now c.in-Builtin.is c.as_slice-in-Builtin.ensures.value in
    c.builtin.ensures ∙ ap (BuiltinFlat c.in-Builtin.which c.in-Builtin.unsigned) c.in_ok-args-in-Builtin.ensures
    ∙ ap (flat_expr (bodies_in c.args.levels c.args.program.now) (map function_node c.args.program.now) (scope_of c.args.scope.now)) (sym node)

-- ---- calls

pub expand_call-expand_stmts-requires : goal.expand_call-expand_stmts-requires
expand_call-expand_stmts-requires t c =
    let functions = map function_node c.args.program.now in
    let seen = c.as_slice.result.now in
    let body : stmts_size (typed_stmts seen) ≡ stmts_size (typed_stmts c.in-Some.callee.function.now.body.items) = ap (λ xs. stmts_size (typed_stmts xs)) c.as_slice.ensures.value in
    let inside = body_smaller functions c.in-Some.callee.site.callee (function_node c.in-Some.callee.function.now) c.in-Some.ensures.1 in
    let below : stmts_size (typed_stmts seen) < bodies_size functions = omega (arith, body, inside) in
    let one : c.args.levels ≡ c.in-Some-checked_sub.less + 1 = omega arith in
    let less = level_less c.args.levels c.in-Some-checked_sub.less (stmts_size (typed_stmts seen)) (bodies_size functions) (args_size (arg_nodes (map argument_node c.args.args.now)) + 1) one below in
    let smaller : c.in-Some-checked_sub.less * bodies_size functions + stmts_size (typed_stmts seen) < t = omega (arith, less) in
    (smaller, tt)

pub expand_call-returns : goal.expand_call-returns
expand_call-returns t c =
    let program = c.args.program.now in
    let scope = c.args.scope.now in
    let callee = c.in-Some.callee in
    let f = function_node callee.function.now in
    let at = scope_at (scope_of scope) callee.site f (arg_nodes (map argument_node c.args.args.now)) in
    let bound : flat_arguments c.in_ok-bound.bound.items ≡ args_in c.args.levels program scope (variable_in (scope_of scope) callee.site.variables) f.params 0 c.args.args.now =
    c.in_ok-bound.ensures ∙ ap (λ v. args_in c.args.levels program scope v c.as_slice-params.result.now 0 c.args.args.now) c.variable-first.ensures
    ∙ ap (λ ps. args_in c.args.levels program scope (variable_in (scope_of scope) callee.site.variables) ps 0 c.args.args.now) c.as_slice-params.ensures in
    let body : flat_trees c.match-checked_sub.body.items ≡ bodies_in c.args.levels program at =
    elim c.match-checked_sub.branch [
      | expand_call-in-Some-checked_sub+in_ok-body-in-Some-checked_sub w ↦
          let one : c.args.levels ≡ w.in-Some-checked_sub.less + 1 = omega arith in
          body_expanded c.args.levels w.in-Some-checked_sub.less program (scope_of c.in_ok-inner.inner) at (flat_trees c.match-checked_sub.body.items) one c.in_ok-inner.ensures
          (ap (λ b. flat_trees b.items) w.body-is ∙ w.in_ok-body-in-Some-checked_sub.ensures
          ∙ ap (λ xs. stmts_in w.in-Some-checked_sub.less program c.in_ok-inner.inner xs) w.as_slice.ensures.value)
      | expand_call-in-None w ↦
          let none : c.args.levels ≡ 0 = omega arith in
          ap (λ b. flat_trees b.items) w.body-is ∙ ap flat_trees w.new-body.ensures.items ∙ body_left_out c.args.levels program at none
    ] in
    c.call.ensures ∙ call_expanded c.args.levels program scope c.args.call c.args.args.now callee.site f (flat_arguments c.in_ok-bound.bound.items) (flat_trees c.match-checked_sub.body.items)
    c.in-Some.ensures.0 c.in-Some.ensures.1 bound body

-- ---- arguments

pub expand_args-expand_arg-requires : goal.expand_args-expand_arg-requires
expand_args-expand_arg-requires t c =
    let one = argument_smaller c.args.args.now c.loop-k.k c.index-args-k.result (omega arith) c.index-args-k.is in
    let smaller : c.args.levels * bodies_size (map function_node c.args.program.now) + arg_size (argument_node c.index-args-k.result) < t = omega (arith, one) in
    (smaller, tt)

pub expand_args-loop-k-preserved : goal.expand_args-loop-k-preserved
expand_args-loop-k-preserved t c =
    let n = c.args.levels in
    let program = c.args.program.now in
    let scope = c.args.scope.now in
    let first = c.args.first in
    let params = c.args.params.now in
    let k = c.loop-k.k in
    let param = option_copied c.get-param.result in
    let at : param ≡ slice_get params k = param_at _ params k c.get-param.result c.get-param.ensures.lookup.3 c.get-param.ensures.lookup.1 in
    let bound : c.binding-bound.result ≡ binding_at first params k =
    binding_is first params k c.loop-k.variable param c.binding-bound.result c.loop-k.invariant.0 at c.binding-bound.ensures in
    let flat = c.in_ok-expand_arg.field-0 in
    let pushed : c.push.new.self.items ≡ c.loop-k.flat.items ++ flat ∷ [] = c.in_ok-push.ensures.items in (
      variable_more first params k c.loop-k.variable c.variable_behind-variable.result param c.loop-k.invariant.0 at c.variable_behind-variable.ensures,
      ap (λ items. arguments_onto items (args_in n program scope first params (k + 1) (drop (k + 1) c.args.args.now))) pushed
          ∙ argument_more n program scope first params k c.args.args.now c.index-args-k.result c.binding-bound.result c.loop-k.flat.items flat (args_in n program scope first params 0 c.args.args.now) (omega arith) c.index-args-k.is bound
          c.in_ok-expand_arg.ensures c.loop-k.invariant.1,
    )

pub expand_args-returns : goal.expand_args-returns
expand_args-returns t c =
    arguments_done c.args.levels c.args.program.now c.args.scope.now c.args.first c.args.params.now c.loop-k.k c.args.args.now c.loop-k.flat.items _ (omega arith) c.loop-k.invariant.1

-- ---- statements

pub expand_stmt-expand_stmts-requires : goal.expand_stmt-expand_stmts-requires
expand_stmt-expand_stmts-requires t c =
    let size = ap stmt_size (for_is c.args.stmt.now c.in-For.first c.in-For.test c.in-For.step c.in-For.body c.as_slice.result.now c.in-For.step.items c.in-For.body.value c.in-For.is c.as_slice.ensures.value refl refl) in
    let smaller : c.args.levels * bodies_size (map function_node c.args.program.now) + stmts_size (typed_stmts c.as_slice.result.now) < t = omega (arith, size) in
    (smaller, tt)

pub expand_stmt-expand_stmts-requires-in-For : goal.expand_stmt-expand_stmts-requires-in-For
expand_stmt-expand_stmts-requires-in-For t c =
    let size = ap stmt_size (for_is c.args.stmt.now c.in-For.first c.in-For.test c.in-For.step c.in-For.body c.in-For.first.items c.as_slice-in-For.result.now c.in-For.body.value c.in-For.is refl c.as_slice-in-For.ensures.value refl) in
    let smaller : c.args.levels * bodies_size (map function_node c.args.program.now) + stmts_size (typed_stmts c.as_slice-in-For.result.now) < t = omega (arith, size) in
    (smaller, tt)

pub expand_stmt-expand_stmts-requires-in-Block : goal.expand_stmt-expand_stmts-requires-in-Block
expand_stmt-expand_stmts-requires-in-Block t c =
    let size = ap stmt_size (block_is c.args.stmt.now c.in-Block.items c.as_slice-in-Block.result.now c.in-Block.is c.as_slice-in-Block.ensures.value) in
    let smaller : c.args.levels * bodies_size (map function_node c.args.program.now) + stmts_size (typed_stmts c.as_slice-in-Block.result.now) < t = omega (arith, size) in
    (smaller, tt)

pub expand_stmt-returns-in_ok-body-in-For : goal.expand_stmt-returns-in_ok-body-in-For
expand_stmt-returns-in_ok-body-in-For t c =
    let one = c.as_slice.result.now in
    let two = c.as_slice-in-For.result.now in
    let turn = c.deref-in-For.result.now in
    let node = for_is c.args.stmt.now c.in-For.first c.in-For.test c.in-For.step c.in-For.body one two turn c.in-For.is c.as_slice.ensures.value c.as_slice-in-For.ensures.value c.deref-in-For.ensures in
    let whole = for_expanded c.args.levels c.args.program.now c.args.scope.now c.args.stmt.now c.in-For.test one two turn
    (flat_trees c.in_ok-first-in-For.first.items) (flat_trees c.in_ok-step-in-For.step.items) (written (option_map expr_of c.in_ok-test-in-For.test)) (stmt_of c.in_ok-body-in-For.body)
    node c.in_ok-first-in-For.ensures c.in_ok-test-in-For.ensures c.in_ok-step-in-For.ensures c.in_ok-body-in-For.ensures in
    subst (λ (s : FlatStmt). IfOk c.for_stmt.result (λ flat. stmt_of flat ≡ s)) whole c.for_stmt.ensures

pub expand_stmt-returns-in_ok-items-in-Block : goal.expand_stmt-returns-in_ok-items-in-Block
expand_stmt-returns-in_ok-items-in-Block t c =
    let node = block_is c.args.stmt.now c.in-Block.items c.as_slice-in-Block.result.now c.in-Block.is c.as_slice-in-Block.ensures.value in
    c.block.ensures ∙ ap BlockFlat c.in_ok-items-in-Block.ensures
    ∙ ap (flat_stmt (bodies_in c.args.levels c.args.program.now) (map function_node c.args.program.now) (scope_of c.args.scope.now)) (sym node)

pub expand_stmts-expand_stmt-requires : goal.expand_stmts-expand_stmt-requires
expand_stmts-expand_stmt-requires t c =
    let one = stmt_smaller c.args.stmts.now c.loop-stmt.stmt-index c.stmt-item.result (omega arith) c.stmt-item.is in
    let smaller : c.args.levels * bodies_size (map function_node c.args.program.now) + stmt_size (stmt_node c.stmt-item.result) < t = omega (arith, one) in
    (smaller, tt)

pub expand_stmts-loop-stmt-preserved : goal.expand_stmts-loop-stmt-preserved
expand_stmts-loop-stmt-preserved t c =
    let n = c.args.levels in
    let program = c.args.program.now in
    let scope = c.args.scope.now in
    let k = c.loop-stmt.stmt-index in
    let flat = c.in_ok-expand_stmt.field-0 in
    let pushed : c.push.new.self.items ≡ c.loop-stmt.flat.items ++ flat ∷ [] = c.in_ok-push.ensures.items in
    ap (λ items. trees_onto items (stmts_in n program scope (drop (k + 1) c.args.stmts.now))) pushed
    ∙ stmt_more n program scope k c.args.stmts.now c.stmt-item.result c.loop-stmt.flat.items flat (stmts_in n program scope c.args.stmts.now) (omega arith) c.stmt-item.is
    c.in_ok-expand_stmt.ensures c.loop-stmt.invariant

pub expand_stmts-returns : goal.expand_stmts-returns
expand_stmts-returns t c =
    stmts_done c.args.levels c.args.program.now c.args.scope.now c.loop-stmt.stmt-index c.args.stmts.now c.loop-stmt.flat.items _ (omega arith) c.loop-stmt.invariant
