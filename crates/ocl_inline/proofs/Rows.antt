-- The arguments and items of a node, read as the list of the `Vec` that holds them.
use Rattle.std.proofs.Common.{◌≡◌, refl, ap, ◌∙◌, Bool, Option, None, Some, Vec, Box, Global}
use Rattle.std.specs.Option.{option_map}
use mathlib.Core.Former.{Count}
use Rattle.ocl_program.specs.declared.exprs.Builtin.{Builtin as Which}
use Rattle.ocl_inline.specs.declared.trees.FlatArgument.{FlatArgument}
use Rattle.ocl_inline.specs.declared.trees.FlatExpr.{FlatExpr, Call, Call', Lost, Lost', Builtin, Builtin', Row_of-FlatArgument, end_of-FlatArgument, more_of-FlatArgument, items-the_row-FlatArgument, items_hidden-the_row-FlatArgument-0}
use Rattle.ocl_inline.specs.declared.trees.FlatStmt.{FlatStmt, Block, Block', For, For', Row_of-FlatStmt, end_of-FlatStmt, more_of-FlatStmt, items-the_row-FlatStmt, items_hidden-the_row-FlatStmt-1}
use Rattle.ocl_inline.specs.Shapes.{expr_of, stmt_of, row_args, row_stmts, with_arg, flat_arguments, flat_trees}
use Rattle.ocl_inline.specs.Trees.{NoFlat, SomeFlat, CallFlat, LostFlat, BuiltinFlat, ForFlat, BlockFlat, AndFlat, written}

row_is : (n : _) (row : Row_of-FlatArgument n) → row_args row ≡ flat_arguments (items-the_row-FlatArgument n row)
row_is n end_of-FlatArgument = refl
row_is n (more_of-FlatArgument arg rest) = ap (with_arg arg) (row_is _ rest)

row_items : (n : _) (row : Row_of-FlatStmt n) → row_stmts row ≡ flat_trees (items-the_row-FlatStmt n row)
row_items n end_of-FlatStmt = refl
row_items n (more_of-FlatStmt s rest) = ap (AndFlat (stmt_of s)) (row_items _ rest)

abbrev args_in : FlatExpr → (n : Count) × Row_of-FlatArgument n
args_in (Call' _ row _ _) = (_, row)
args_in (Lost' _ row) = (_, row)
args_in (Builtin' _ _ _ row) = (_, row)
args_in _ = (_, end_of-FlatArgument)

abbrev body_in : FlatExpr → (n : Count) × Row_of-FlatStmt n
body_in (Call' _ _ _ row) = (_, row)
body_in _ = (_, end_of-FlatStmt)

abbrev block_in : FlatStmt → (n : Count) × Row_of-FlatStmt n
block_in (Block' _ row) = (_, row)
block_in _ = (_, end_of-FlatStmt)

abbrev first_in : FlatStmt → (n : Count) × Row_of-FlatStmt n
first_in (For' _ first _ _ _ _ _) = (_, first)
first_in _ = (_, end_of-FlatStmt)

abbrev step_in : FlatStmt → (n : Count) × Row_of-FlatStmt n
step_in (For' _ _ _ _ step _ _) = (_, step)
step_in _ = (_, end_of-FlatStmt)

-- what a call's arguments and body are
pub call_flat : (args : Vec FlatArgument Global) (body : Vec FlatStmt Global) → expr_of (Call args body) ≡ CallFlat (flat_arguments args.items) (flat_trees body.items)
call_flat args body =
    let one = args_in (Call args body) in
    let two = body_in (Call args body) in
    let one_is = row_is one.0 one.1 ∙ ap flat_arguments (items_hidden-the_row-FlatArgument-0 args) in
    let two_is = row_items two.0 two.1 ∙ ap flat_trees (items_hidden-the_row-FlatStmt-1 body) in
    ap (λ x. CallFlat x (row_stmts two.1)) one_is ∙ ap (λ x. CallFlat (flat_arguments args.items) x) two_is

pub lost_flat : (args : Vec FlatArgument Global) → expr_of (Lost args) ≡ LostFlat (flat_arguments args.items)
lost_flat args =
    let row = args_in (Lost args) in
    ap LostFlat (row_is row.0 row.1 ∙ ap flat_arguments (items_hidden-the_row-FlatArgument-0 args))

pub builtin_flat : (which : Which) (unsigned : Bool) (args : Vec FlatArgument Global) → expr_of (Builtin which unsigned args) ≡ BuiltinFlat which unsigned (flat_arguments args.items)
builtin_flat which unsigned args =
    let row = args_in (Builtin which unsigned args) in
    ap (BuiltinFlat which unsigned) (row_is row.0 row.1 ∙ ap flat_arguments (items_hidden-the_row-FlatArgument-0 args))

-- what a block's items are
pub block_flat : (items : Vec FlatStmt Global) → stmt_of (Block items) ≡ BlockFlat (flat_trees items.items)
block_flat items =
    let row = block_in (Block items) in
    ap BlockFlat (row_items row.0 row.1 ∙ ap flat_trees (items_hidden-the_row-FlatStmt-1 items))

-- what the parts of a `for` are
pub for_flat : (first : Vec FlatStmt Global) (test : Option (Box FlatExpr Global)) (step : Vec FlatStmt Global) (body : Box FlatStmt Global) →
    stmt_of (For first test step body) ≡ ForFlat (flat_trees first.items) (written (option_map (λ b. expr_of b.value) test)) (flat_trees step.items) (stmt_of body.value)
for_flat first None step body =
    let one = first_in (For first None step body) in
    let two = step_in (For first None step body) in
    let one_is = row_items one.0 one.1 ∙ ap flat_trees (items_hidden-the_row-FlatStmt-1 first) in
    let two_is = row_items two.0 two.1 ∙ ap flat_trees (items_hidden-the_row-FlatStmt-1 step) in
    ap (λ x. ForFlat x NoFlat (row_stmts two.1) (stmt_of body.value)) one_is ∙ ap (λ x. ForFlat (flat_trees first.items) NoFlat x (stmt_of body.value)) two_is
for_flat first (Some test) step body =
    let one = first_in (For first (Some test) step body) in
    let two = step_in (For first (Some test) step body) in
    let one_is = row_items one.0 one.1 ∙ ap flat_trees (items_hidden-the_row-FlatStmt-1 first) in
    let two_is = row_items two.0 two.1 ∙ ap flat_trees (items_hidden-the_row-FlatStmt-1 step) in
    ap (λ x. ForFlat x (SomeFlat (expr_of test.value)) (row_stmts two.1) (stmt_of body.value)) one_is
    ∙ ap (λ x. ForFlat (flat_trees first.items) (SomeFlat (expr_of test.value)) x (stmt_of body.value)) two_is

-- what is written in a box
pub written_in : (held : Option (Box FlatExpr Global)) → option_map (λ b. expr_of b.value) held ≡ option_map expr_of (option_map (λ b. b.value) held)
written_in None = refl
written_in (Some b) = refl
