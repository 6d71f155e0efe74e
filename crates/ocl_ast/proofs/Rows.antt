-- The arguments and items of a node, read as the list of the `Vec` that holds them.
use Rattle.std.proofs.Common.{◌≡◌, refl, ap, ◌∙◌, Option, Vec, Box, Global}
use Rattle.std.specs.Option.{option_map}
use mathlib.Core.Former.{Count}
use Rattle.ocl_ast.specs.Trees.{CallTree, AndArg, AndStmt, BlockTree, ForTree}
use Rattle.ocl_ast.specs.Shapes.{tree_of, row_trees, arg_trees, stmt_tree, row_stmts, stmt_trees}
use Rattle.ocl_ast.specs.declared.exprs.Expr.{Expr, Call, Call', Row_of-Expr, end_of-Expr, more_of-Expr, items-the_row-Expr, items_hidden-the_row-Expr-0}
use Rattle.ocl_ast.specs.declared.exprs.Ident.{Ident}
use Rattle.ocl_ast.specs.declared.stmts.Stmt.{Stmt, Block, Block', For, For', Row_of-Stmt, end_of-Stmt, more_of-Stmt, items-the_row-Stmt, items_hidden-the_row-Stmt-0}

row_args : (n : _) (row : Row_of-Expr n) → row_trees row ≡ arg_trees (items-the_row-Expr n row)
row_args n end_of-Expr = refl
row_args n (more_of-Expr e rest) = ap (AndArg (tree_of e)) (row_args _ rest)

row_items : (n : _) (row : Row_of-Stmt n) → row_stmts row ≡ stmt_trees (items-the_row-Stmt n row)
row_items n end_of-Stmt = refl
row_items n (more_of-Stmt s rest) = ap (AndStmt (stmt_tree s)) (row_items _ rest)

abbrev row_of : Expr → (n : Count) × Row_of-Expr n
row_of (Call' _ _ row) = (_, row)
row_of _ = (_, end_of-Expr)

abbrev block_of : Stmt → (n : Count) × Row_of-Stmt n
block_of (Block' _ row) = (_, row)
block_of _ = (_, end_of-Stmt)

-- what a call's arguments are
pub call_tree : (name : Ident) (args : Vec Expr Global) → tree_of (Call name args) ≡ CallTree name (arg_trees args.items)
call_tree name args =
    let row = row_of (Call name args) in
    ap (CallTree name) (row_args row.0 row.1 ∙ ap arg_trees (items_hidden-the_row-Expr-0 args))

-- what a block's items are
pub block_tree : (items : Vec Stmt Global) → stmt_tree (Block items) ≡ BlockTree (stmt_trees items.items)
block_tree items =
    let row = block_of (Block items) in
    ap BlockTree (row_items row.0 row.1 ∙ ap stmt_trees (items_hidden-the_row-Stmt-0 items))

abbrev first_of : Stmt → (n : Count) × Row_of-Stmt n
first_of (For' _ first _ _ _ _ _) = (_, first)
first_of _ = (_, end_of-Stmt)

abbrev step_of : Stmt → (n : Count) × Row_of-Stmt n
step_of (For' _ _ _ _ step _ _) = (_, step)
step_of _ = (_, end_of-Stmt)

-- what the parts of a `for` are
pub for_tree : (first : Vec Stmt Global) (test : Option Expr) (step : Vec Stmt Global) (body : Box Stmt Global) →
    stmt_tree (For first test step body) ≡ ForTree (stmt_trees first.items) (option_map tree_of test) (stmt_trees step.items) (stmt_tree body.value)
for_tree first test step body =
    let one = first_of (For first test step body) in
    let two = step_of (For first test step body) in
    let one_is = row_items one.0 one.1 ∙ ap stmt_trees (items_hidden-the_row-Stmt-0 first) in
    let two_is = row_items two.0 two.1 ∙ ap stmt_trees (items_hidden-the_row-Stmt-0 step) in
    ap (λ x. ForTree x (option_map tree_of test) (row_stmts two.1) (stmt_tree body.value)) one_is ∙
    ap (λ x. ForTree (stmt_trees first.items) (option_map tree_of test) x (stmt_tree body.value)) two_is
