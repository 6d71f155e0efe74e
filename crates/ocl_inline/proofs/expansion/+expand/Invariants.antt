use Rattle.std.proofs.Common.{◌≡◌, ◌+◌, ◌*◌, count_by, map, drop, take, option_map}
use Rattle.ocl_program.specs.Measures.{cut}
use Rattle.ocl_program.specs.Nodes.{arg_nodes}
use Rattle.ocl_program.specs.Shapes.{argument_node, function_node, node_of, stmt_node, typed_stmts}
use Rattle.ocl_sem.specs.Source.{is_scalar}
use Rattle.ocl_inline.specs.Expanding.{args_in, stmts_in}
use Rattle.ocl_inline.specs.Sizes.{arg_size, args_size, bodies_size, else_size, expr_size, stmt_size, stmts_size, value_size}
use Rattle.ocl_inline.proofs.Onto.{arguments_onto, trees_onto}
use Rattle.ocl_inline.proofs.expansion.+expand.Given as goal

abbrev pub decreases-expand_expr : goal.decreases-expand_expr
decreases-expand_expr a = a.levels * bodies_size (map function_node a.program.now) + expr_size (node_of a.expr.now)

abbrev pub decreases-expand_call : goal.decreases-expand_call
decreases-expand_call a = a.levels * bodies_size (map function_node a.program.now) + (args_size (arg_nodes (map argument_node a.args.now)) + 1)

abbrev pub decreases-expand_args : goal.decreases-expand_args
decreases-expand_args a = a.levels * bodies_size (map function_node a.program.now) + args_size (arg_nodes (map argument_node a.args.now))

abbrev pub decreases-expand_arg : goal.decreases-expand_arg
decreases-expand_arg a = a.levels * bodies_size (map function_node a.program.now) + arg_size (argument_node a.arg.now)

abbrev pub decreases-expand_value : goal.decreases-expand_value
decreases-expand_value a = a.levels * bodies_size (map function_node a.program.now) + value_size (option_map node_of a.value.now)

abbrev pub decreases-expand_stmt : goal.decreases-expand_stmt
decreases-expand_stmt a = a.levels * bodies_size (map function_node a.program.now) + stmt_size (stmt_node a.stmt.now)

abbrev pub decreases-expand_else : goal.decreases-expand_else
decreases-expand_else a = a.levels * bodies_size (map function_node a.program.now) + else_size (option_map (λ stmt. stmt_node stmt.value) a.other.now)

abbrev pub decreases-expand_stmts : goal.decreases-expand_stmts
decreases-expand_stmts a = a.levels * bodies_size (map function_node a.program.now) + stmts_size (typed_stmts a.stmts.now)

-- the variable is that of the next scalar parameter, and what is expanded in front of what is left is the whole
abbrev pub invariant-expand_args-loop-k : goal.invariant-expand_args-loop-k
invariant-expand_args-loop-k l =
    (l.variable ≡ cut (l.first + count_by is_scalar (take l.k l.params))) ×
    (arguments_onto l.flat.items (args_in l.levels l.program l.scope l.first l.params l.k (drop l.k l.args)) ≡ args_in l.levels l.program l.scope l.first l.params 0 l.args)

abbrev pub invariant-expand_stmts-loop-stmt : goal.invariant-expand_stmts-loop-stmt
invariant-expand_stmts-loop-stmt l =
    trees_onto l.flat.items (stmts_in l.levels l.program l.scope (drop l.stmt-index l.stmts)) ≡ stmts_in l.levels l.program l.scope l.stmts
