use Rattle.std.proofs.Common.{◌≡◌, ◌+◌, [], drop, map}
use Rattle.ocl_ast.specs.Shapes.{stmt_tree, stmt_trees}
use Rattle.ocl_program.specs.Shapes.{stmt_node}
use Rattle.ocl_types.specs.Answers.{placed_in, standing_of}
use Rattle.ocl_types.specs.Stmts.{typed_stmts}
use Rattle.ocl_types.specs.Tables.{trees_of}
use Rattle.ocl_check.proofs.Sizes.{size, sizes}
use Rattle.ocl_check.proofs.stmts.+stmts.Given as goal

abbrev pub decreases-typed_stmt : goal.decreases-typed_stmt
decreases-typed_stmt l = size (stmt_tree l.stmt.now)

abbrev pub decreases-typed_if : goal.decreases-typed_if
decreases-typed_if l = size (stmt_tree l.yes.now) + 1

abbrev pub decreases-typed_if_else : goal.decreases-typed_if_else
decreases-typed_if_else l = size (stmt_tree l.yes.now) + size (stmt_tree l.no.now) + 1

abbrev pub decreases-typed_while : goal.decreases-typed_while
decreases-typed_while l = size (stmt_tree l.body.now) + 1

abbrev pub decreases-typed_do : goal.decreases-typed_do
decreases-typed_do l = size (stmt_tree l.body.now) + 1

abbrev pub decreases-typed_for : goal.decreases-typed_for
decreases-typed_for l = sizes (stmt_trees l.first.now) + sizes (stmt_trees l.step.now) + size (stmt_tree l.body.now) + 1

abbrev pub decreases-typed_block : goal.decreases-typed_block
decreases-typed_block l = sizes (stmt_trees l.items.now) + 1

abbrev pub decreases-typed_stmts : goal.decreases-typed_stmts
decreases-typed_stmts l = sizes (stmt_trees l.stmts.now)

-- what is left of the statements gives, behind those that are typed, what all of them give
abbrev pub invariant-typed_stmts-loop-stmt : goal.invariant-typed_stmts-loop-stmt
invariant-typed_stmts-loop-stmt l =
    typed_stmts (placed_in (trees_of l.fn.functions.functions.now) l.fn.place) (map stmt_node l.done.items) (standing_of l.st) (stmt_trees (drop l.stmt-index l.fn.stmts)) ≡
    typed_stmts (placed_in (trees_of l.fn.functions.functions.now) l.fn.place) [] (standing_of l.fn.st) (stmt_trees l.fn.stmts)
