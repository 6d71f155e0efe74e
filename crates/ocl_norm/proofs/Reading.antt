-- Nodes of the flat tree, read as the lists that hold their parts.
use Rattle.std.proofs.Common.{◌≡◌, Bool, List, Option, Vec, Box, Global, ap, sym, ◌∙◌}
use Rattle.std.specs.Option.{option_map}
use Rattle.ocl_program.specs.declared.exprs.Builtin.{Builtin as Which}
use Rattle.ocl_inline.specs.declared.trees.FlatArgument.{FlatArgument}
use Rattle.ocl_inline.specs.declared.trees.FlatExpr.{FlatExpr as HeldExpr, Call, Lost, Builtin}
use Rattle.ocl_inline.specs.declared.trees.FlatStmt.{FlatStmt as HeldStmt, Block, For}
use Rattle.ocl_inline.specs.Shapes.{expr_of, flat_arguments, flat_trees, stmt_of}
use Rattle.ocl_inline.specs.Trees.{BlockFlat, BuiltinFlat, CallFlat, ForFlat, LostFlat, written}
use Rattle.ocl_inline.proofs.Rows.{block_flat, builtin_flat, call_flat, for_flat, lost_flat}

pub call_is : (expr : HeldExpr) (args : Vec FlatArgument Global) (body : Vec HeldStmt Global) (seen : List FlatArgument) (seen' : List HeldStmt)
    → expr ≡ Call args body → seen ≡ args.items → seen' ≡ body.items → expr_of expr ≡ CallFlat (flat_arguments seen) (flat_trees seen')
call_is expr args body seen seen' is one two =
    ap expr_of is ∙ call_flat args body ∙ ap (λ xs. CallFlat (flat_arguments xs) (flat_trees body.items)) (sym one) ∙ ap (λ xs. CallFlat (flat_arguments seen) (flat_trees xs)) (sym two)

pub builtin_is : (expr : HeldExpr) (which : Which) (unsigned : Bool) (args : Vec FlatArgument Global) (seen : List FlatArgument)
    → expr ≡ Builtin which unsigned args → seen ≡ args.items → expr_of expr ≡ BuiltinFlat which unsigned (flat_arguments seen)
builtin_is expr which unsigned args seen is one = ap expr_of is ∙ builtin_flat which unsigned args ∙ ap (λ xs. BuiltinFlat which unsigned (flat_arguments xs)) (sym one)

pub block_is : (stmt : HeldStmt) (items : Vec HeldStmt Global) (seen : List HeldStmt) → stmt ≡ Block items → seen ≡ items.items → stmt_of stmt ≡ BlockFlat (flat_trees seen)
block_is stmt items seen is one = ap stmt_of is ∙ block_flat items ∙ ap (λ xs. BlockFlat (flat_trees xs)) (sym one)

pub for_is : (stmt : HeldStmt) (first : Vec HeldStmt Global) (test : Option (Box HeldExpr Global)) (step : Vec HeldStmt Global) (body : Box HeldStmt Global) (seen seen' : List HeldStmt)
    → stmt ≡ For first test step body → seen ≡ first.items → seen' ≡ step.items
    → stmt_of stmt ≡ ForFlat (flat_trees seen) (written (option_map (λ b. expr_of b.value) test)) (flat_trees seen') (stmt_of body.value)
for_is stmt first test step body seen seen' is one two =
    ap stmt_of is ∙ for_flat first test step body
    ∙ ap (λ xs. ForFlat (flat_trees xs) (written (option_map (λ b. expr_of b.value) test)) (flat_trees step.items) (stmt_of body.value)) (sym one)
    ∙ ap (λ xs. ForFlat (flat_trees seen) (written (option_map (λ b. expr_of b.value) test)) (flat_trees xs) (stmt_of body.value)) (sym two)

pub lost_is : (expr : HeldExpr) (args : Vec FlatArgument Global) (seen : List FlatArgument) → expr ≡ Lost args → seen ≡ args.items → expr_of expr ≡ LostFlat (flat_arguments seen)
lost_is expr args seen is one = ap expr_of is ∙ lost_flat args ∙ ap (λ xs. LostFlat (flat_arguments xs)) (sym one)
