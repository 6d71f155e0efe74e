use Rattle.std.proofs.Common.{◌≡◌, ◌+◌, drop, option_map}
use Rattle.kir.specs.Lists.{onto}
use Rattle.kir.specs.Trees.{Ops}
use Rattle.ocl_inline.specs.Shapes.{expr_of, flat_arguments, flat_trees, stmt_of}
use Rattle.ocl_inline.specs.Trees.{written}
use Rattle.ocl_norm.specs.Normal.{args_ops, stmts_ops}
use Rattle.ocl_norm.specs.Sizes.{arg_size, args_size, else_size, expr_size, stmt_size, stmts_size, value_size}
use Rattle.ocl_norm.proofs.+normal.Given as goal

abbrev pub decreases-expressions::push_value : goal.decreases-expressions::push_value
decreases-expressions::push_value l = expr_size (expr_of l.expr.now)

abbrev pub decreases-expressions::value_list : goal.decreases-expressions::value_list
decreases-expressions::value_list l = expr_size (expr_of l.expr.now) + 1

abbrev pub decreases-expressions::settled_list : goal.decreases-expressions::settled_list
decreases-expressions::settled_list l = expr_size (expr_of l.expr.now) + 1

abbrev pub decreases-expressions::push_truth : goal.decreases-expressions::push_truth
decreases-expressions::push_truth l = expr_size (expr_of l.expr.now) + 1

abbrev pub decreases-expressions::truth_list : goal.decreases-expressions::truth_list
decreases-expressions::truth_list l = expr_size (expr_of l.expr.now) + 2

abbrev pub decreases-expressions::push_pair : goal.decreases-expressions::push_pair
decreases-expressions::push_pair l = expr_size (expr_of l.left.now) + expr_size (expr_of l.right.now) + 1

abbrev pub decreases-expressions::push_both : goal.decreases-expressions::push_both
decreases-expressions::push_both l = expr_size (expr_of l.left.now) + expr_size (expr_of l.right.now) + 3

abbrev pub decreases-expressions::push_either : goal.decreases-expressions::push_either
decreases-expressions::push_either l = expr_size (expr_of l.left.now) + expr_size (expr_of l.right.now) + 3

abbrev pub decreases-expressions::push_choice : goal.decreases-expressions::push_choice
decreases-expressions::push_choice l = expr_size (expr_of l.test.now) + expr_size (expr_of l.yes.now) + expr_size (expr_of l.no.now) + 2

abbrev pub decreases-expressions::push_args : goal.decreases-expressions::push_args
decreases-expressions::push_args l = args_size (flat_arguments l.args.now)

abbrev pub decreases-expressions::push_arg : goal.decreases-expressions::push_arg
decreases-expressions::push_arg l = arg_size l.arg.now

abbrev pub decreases-expressions::push_builtin : goal.decreases-expressions::push_builtin
decreases-expressions::push_builtin l = args_size (flat_arguments l.args.now) + 3

abbrev pub decreases-expressions::push_clamp : goal.decreases-expressions::push_clamp
decreases-expressions::push_clamp l = expr_size (expr_of l.value.now) + expr_size (expr_of l.low.now) + expr_size (expr_of l.high.now) + 2

abbrev pub decreases-assignments::push_right : goal.decreases-assignments::push_right
decreases-assignments::push_right l = value_size (written (option_map (λ b. expr_of b.value) l.value.now))

abbrev pub decreases-assignments::right_list : goal.decreases-assignments::right_list
decreases-assignments::right_list l = value_size (written (option_map (λ b. expr_of b.value) l.value.now)) + 1

abbrev pub decreases-assignments::push_declared : goal.decreases-assignments::push_declared
decreases-assignments::push_declared l = value_size (written (option_map (λ b. expr_of b.value) l.value.now))

abbrev pub decreases-assignments::push_returned : goal.decreases-assignments::push_returned
decreases-assignments::push_returned l = value_size (written (option_map (λ b. expr_of b.value) l.value.now))

abbrev pub decreases-assignments::push_set_variable : goal.decreases-assignments::push_set_variable
decreases-assignments::push_set_variable l = value_size (written (option_map (λ b. expr_of b.value) l.value.now)) + 2

abbrev pub decreases-assignments::push_combined_variable : goal.decreases-assignments::push_combined_variable
decreases-assignments::push_combined_variable l = value_size (written (option_map (λ b. expr_of b.value) l.value.now)) + 1

abbrev pub decreases-assignments::push_set_element : goal.decreases-assignments::push_set_element
decreases-assignments::push_set_element l = expr_size (expr_of l.place.now) + value_size (written (option_map (λ b. expr_of b.value) l.value.now)) + 3

abbrev pub decreases-assignments::push_stored : goal.decreases-assignments::push_stored
decreases-assignments::push_stored l = expr_size (expr_of l.place.now) + value_size (written (option_map (λ b. expr_of b.value) l.value.now)) + 2

abbrev pub decreases-assignments::push_changed : goal.decreases-assignments::push_changed
decreases-assignments::push_changed l = expr_size (expr_of l.place.now) + value_size (written (option_map (λ b. expr_of b.value) l.value.now)) + 2

abbrev pub decreases-assignments::push_combined_element : goal.decreases-assignments::push_combined_element
decreases-assignments::push_combined_element l = value_size (written (option_map (λ b. expr_of b.value) l.value.now)) + 1

abbrev pub decreases-statements::push_stmt : goal.decreases-statements::push_stmt
decreases-statements::push_stmt l = stmt_size (stmt_of l.stmt.now)

abbrev pub decreases-statements::push_stmts : goal.decreases-statements::push_stmts
decreases-statements::push_stmts l = stmts_size (flat_trees l.stmts.now)

abbrev pub decreases-statements::stmt_list : goal.decreases-statements::stmt_list
decreases-statements::stmt_list l = stmt_size (stmt_of l.stmt.now) + 1

abbrev pub decreases-statements::stmts_list : goal.decreases-statements::stmts_list
decreases-statements::stmts_list l = stmts_size (flat_trees l.stmts.now) + 1

abbrev pub decreases-statements::else_list : goal.decreases-statements::else_list
decreases-statements::else_list l = else_size (option_map (λ b. stmt_of b.value) l.other.now)

abbrev pub decreases-statements::push_if : goal.decreases-statements::push_if
decreases-statements::push_if l = expr_size (expr_of l.test.now) + stmt_size (stmt_of l.yes.now) + else_size (option_map (λ b. stmt_of b.value) l.no.now) + 3

abbrev pub decreases-statements::push_while : goal.decreases-statements::push_while
decreases-statements::push_while l = expr_size (expr_of l.test.now) + stmt_size (stmt_of l.body.now) + 3

abbrev pub decreases-statements::push_do : goal.decreases-statements::push_do
decreases-statements::push_do l = stmt_size (stmt_of l.body.now) + expr_size (expr_of l.test.now) + 3

abbrev pub decreases-statements::push_for : goal.decreases-statements::push_for
decreases-statements::push_for l =
    stmts_size (flat_trees l.first.now) + value_size (written (option_map (λ b. expr_of b.value) l.test.now)) + stmts_size (flat_trees l.step.now) + stmt_size (stmt_of l.body.now) + 3

-- what is made in front of what is left is the whole
abbrev pub invariant-expressions::push_args-loop-k : goal.invariant-expressions::push_args-loop-k
invariant-expressions::push_args-loop-k l =
    (c : Ops) → onto l.out.items (args_ops (flat_arguments (drop l.k l.args)) l.first c) ≡ onto l.initial.out.items (args_ops (flat_arguments l.args) l.first c)

abbrev pub invariant-statements::push_stmts-loop-k : goal.invariant-statements::push_stmts-loop-k
invariant-statements::push_stmts-loop-k l =
    (c : Ops) → onto l.out.items (stmts_ops (flat_trees (drop l.k l.stmts)) l.given c) ≡ onto l.initial.out.items (stmts_ops (flat_trees l.stmts) l.given c)
