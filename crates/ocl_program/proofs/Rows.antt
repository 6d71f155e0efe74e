-- The arguments and items of a node, read as the list of the `Vec` that holds them.
use Rattle.std.proofs.Common.{◌≡◌, refl, ap, ◌∙◌, ℕ, Bool, List, map, Option, Vec, Box, Global}
use Rattle.std.specs.Option.{option_map}
use mathlib.Core.Former.{Count}
use Rattle.ocl_program.specs.Nodes.{CallNode, BuiltinNode, ArgNodes, ValueArg, ArrayArg, arg_nodes, AndStmt, BlockNode, ForNode}
use Rattle.ocl_program.specs.Shapes.{node_of, row_args, with_arg, argument_node, stmt_node, row_stmts, typed_stmts}
use Rattle.ocl_program.specs.declared.exprs.Builtin.{Builtin as Which}
use Rattle.ocl_program.specs.declared.exprs.TypedExpr.{TypedExpr, Call, Call', Builtin, Builtin', Row_of-Argument, end_of-Argument, more_of-Argument, items-the_row-Argument, items_hidden-the_row-Argument-0}
use Rattle.ocl_program.specs.declared.exprs.Argument.{Argument, Value, Array}
use Rattle.ocl_program.specs.declared.stmts.TypedStmt.{TypedStmt, Block, Block', For, For', Row_of-TypedStmt, end_of-TypedStmt, more_of-TypedStmt, items-the_row-TypedStmt, items_hidden-the_row-TypedStmt-0}

row_is : (n : _) (row : Row_of-Argument n) → row_args row ≡ arg_nodes (map argument_node (items-the_row-Argument n row))
row_is n end_of-Argument = refl
row_is n (more_of-Argument (Value e) rest) = ap (ValueArg (node_of e)) (row_is _ rest)
row_is n (more_of-Argument (Array array) rest) = ap (ArrayArg array) (row_is _ rest)

row_items : (n : _) (row : Row_of-TypedStmt n) → row_stmts row ≡ typed_stmts (items-the_row-TypedStmt n row)
row_items n end_of-TypedStmt = refl
row_items n (more_of-TypedStmt s rest) = ap (AndStmt (stmt_node s)) (row_items _ rest)

abbrev args_of : TypedExpr → (n : Count) × Row_of-Argument n
args_of (Call' _ _ row) = (_, row)
args_of (Builtin' _ _ _ row) = (_, row)
args_of _ = (_, end_of-Argument)

abbrev block_of : TypedStmt → (n : Count) × Row_of-TypedStmt n
block_of (Block' _ row) = (_, row)
block_of _ = (_, end_of-TypedStmt)

-- what a call's arguments are
pub call_node : (call : ℕ) (args : Vec Argument Global) → node_of (Call call args) ≡ CallNode call (arg_nodes (map argument_node args.items))
call_node call args =
    let row = args_of (Call call args) in
    ap (CallNode call) (row_is row.0 row.1 ∙ ap (λ xs. arg_nodes (map argument_node xs)) (items_hidden-the_row-Argument-0 args))

pub builtin_node : (which : Which) (unsigned : Bool) (args : Vec Argument Global) →
    node_of (Builtin which unsigned args) ≡ BuiltinNode which unsigned (arg_nodes (map argument_node args.items))
builtin_node which unsigned args =
    let row = args_of (Builtin which unsigned args) in
    ap (BuiltinNode which unsigned) (row_is row.0 row.1 ∙ ap (λ xs. arg_nodes (map argument_node xs)) (items_hidden-the_row-Argument-0 args))

-- what a block's items are
pub block_node : (items : Vec TypedStmt Global) → stmt_node (Block items) ≡ BlockNode (typed_stmts items.items)
block_node items =
    let row = block_of (Block items) in
    ap BlockNode (row_items row.0 row.1 ∙ ap typed_stmts (items_hidden-the_row-TypedStmt-0 items))

abbrev first_of : TypedStmt → (n : Count) × Row_of-TypedStmt n
first_of (For' _ first _ _ _ _ _) = (_, first)
first_of _ = (_, end_of-TypedStmt)

abbrev step_of : TypedStmt → (n : Count) × Row_of-TypedStmt n
step_of (For' _ _ _ _ step _ _) = (_, step)
step_of _ = (_, end_of-TypedStmt)

-- what the parts of a `for` are
pub for_node : (first : Vec TypedStmt Global) (test : Option TypedExpr) (step : Vec TypedStmt Global) (body : Box TypedStmt Global) →
    stmt_node (For first test step body) ≡ ForNode (typed_stmts first.items) (option_map node_of test) (typed_stmts step.items) (stmt_node body.value)
for_node first test step body =
    let one = first_of (For first test step body) in
    let two = step_of (For first test step body) in
    let one_is = row_items one.0 one.1 ∙ ap typed_stmts (items_hidden-the_row-TypedStmt-0 first) in
    let two_is = row_items two.0 two.1 ∙ ap typed_stmts (items_hidden-the_row-TypedStmt-0 step) in
    ap (λ x. ForNode x (option_map node_of test) (row_stmts two.1) (stmt_node body.value)) one_is ∙
    ap (λ x. ForNode (typed_stmts first.items) (option_map node_of test) x (stmt_node body.value)) two_is
