use Rattle.std.proofs.Common.{◌≡◌, ◌+◌, max, drop, option_map}
use Rattle.ocl_inline.specs.Shapes.{expr_of, flat_arguments, flat_trees, stmt_of}
use Rattle.ocl_inline.specs.Trees.{written}
use Rattle.ocl_norm.specs.Counting.{counted}
use Rattle.ocl_inline.specs.Proper.{ArgsWords, StmtsWords}
use Rattle.ocl_norm.specs.Rooms.{args_room, stmts_room}
use Rattle.ocl_norm.specs.Sizes.{arg_size, args_size, else_size, expr_size, stmt_size, stmts_size, value_size}
use Rattle.ocl_norm.proofs.rooms.+room.Given as goal

abbrev pub decreases-value_room : goal.decreases-value_room
decreases-value_room l = expr_size (expr_of l.expr.now)

abbrev pub decreases-choice_room : goal.decreases-choice_room
decreases-choice_room l = expr_size (expr_of l.test.now) + expr_size (expr_of l.yes.now) + expr_size (expr_of l.no.now) + 3

abbrev pub decreases-pair_room : goal.decreases-pair_room
decreases-pair_room l = expr_size (expr_of l.left.now) + expr_size (expr_of l.right.now) + 1

abbrev pub decreases-call_room : goal.decreases-call_room
decreases-call_room l = args_size (flat_arguments l.args.now) + stmts_size (flat_trees l.body.now) + 3

abbrev pub decreases-builtin_room : goal.decreases-builtin_room
decreases-builtin_room l = args_size (flat_arguments l.args.now) + 3

abbrev pub decreases-clamp_room : goal.decreases-clamp_room
decreases-clamp_room l = expr_size (expr_of l.value.now) + expr_size (expr_of l.low.now) + expr_size (expr_of l.high.now) + 2

abbrev pub decreases-args_room : goal.decreases-args_room
decreases-args_room l = args_size (flat_arguments l.args.now)

abbrev pub decreases-arg_room : goal.decreases-arg_room
decreases-arg_room l = arg_size l.arg.now

abbrev pub decreases-right_room : goal.decreases-right_room
decreases-right_room l = value_size (written (option_map (λ b. expr_of b.value) l.value.now))

abbrev pub decreases-stmt_room : goal.decreases-stmt_room
decreases-stmt_room l = stmt_size (stmt_of l.stmt.now)

abbrev pub decreases-variable_room : goal.decreases-variable_room
decreases-variable_room l = value_size (written (option_map (λ b. expr_of b.value) l.value.now)) + 1

abbrev pub decreases-element_room : goal.decreases-element_room
decreases-element_room l = expr_size (expr_of l.place.now) + value_size (written (option_map (λ b. expr_of b.value) l.value.now)) + 1

abbrev pub decreases-else_room : goal.decreases-else_room
decreases-else_room l = else_size (option_map (λ b. stmt_of b.value) l.other.now)

abbrev pub decreases-if_room : goal.decreases-if_room
decreases-if_room l = expr_size (expr_of l.test.now) + stmt_size (stmt_of l.yes.now) + else_size (option_map (λ b. stmt_of b.value) l.no.now) + 3

abbrev pub decreases-for_room : goal.decreases-for_room
decreases-for_room l =
    stmts_size (flat_trees l.first.now) + value_size (written (option_map (λ b. expr_of b.value) l.test.now)) + stmts_size (flat_trees l.step.now) + stmt_size (stmt_of l.body.now) + 3

abbrev pub decreases-stmts_room : goal.decreases-stmts_room
decreases-stmts_room l = stmts_size (flat_trees l.stmts.now)

-- what is counted with what is left is the whole, and only what is left may have other numbers than words
abbrev pub invariant-args_room-loop-k : goal.invariant-args_room-loop-k
invariant-args_room-loop-k l =
    (max l.most (counted (args_room (flat_arguments (drop l.k l.args)))) ≡ counted (args_room (flat_arguments l.args)))
    × (ArgsWords (flat_arguments (drop l.k l.args)) → ArgsWords (flat_arguments l.args))

abbrev pub invariant-stmts_room-loop-k : goal.invariant-stmts_room-loop-k
invariant-stmts_room-loop-k l =
    (max l.most (counted (stmts_room (flat_trees (drop l.k l.stmts)))) ≡ counted (stmts_room (flat_trees l.stmts)))
    × (StmtsWords (flat_trees (drop l.k l.stmts)) → StmtsWords (flat_trees l.stmts))
