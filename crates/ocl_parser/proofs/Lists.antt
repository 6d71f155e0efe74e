-- Lists of trees with one more at the end.
use Rattle.std.proofs.Common.{◌≡◌, refl, ap, List, [], ◌∷◌, ◌++◌, map, reverse, ◌∙◌}
use Rattle.std.proofs.lemmas.List.{reverse-append, map-append}
use Rattle.ocl_ast.specs.Shapes.{tree_of, arg_trees, stmt_tree, stmt_trees}
use Rattle.ocl_ast.specs.Trees.{AndArg, AndStmt}
use Rattle.ocl_ast.specs.declared.exprs.Expr.{Expr}
use Rattle.ocl_ast.specs.declared.stmts.Stmt.{Stmt}
use Rattle.ocl_parser.specs.ExprSteps.{and_arg}
use Rattle.ocl_parser.specs.StmtSteps.{and_stmt}

pub arg_trees_push : (es : List Expr) (e : Expr) → arg_trees (es ++ (e ∷ [])) ≡ and_arg (arg_trees es) (tree_of e)
arg_trees_push [] e = refl
arg_trees_push (x ∷ es) e = ap (AndArg (tree_of x)) (arg_trees_push es e)

pub stmt_trees_push : (ss : List Stmt) (s : Stmt) → stmt_trees (ss ++ (s ∷ [])) ≡ and_stmt (stmt_trees ss) (stmt_tree s)
stmt_trees_push [] s = refl
stmt_trees_push (x ∷ ss) s = ap (AndStmt (stmt_tree x)) (stmt_trees_push ss s)

pub reverse_push : {A : Type 0} (xs : List A) (x : A) → reverse (xs ++ (x ∷ [])) ≡ x ∷ reverse xs
reverse_push xs x = reverse-append xs (x ∷ [])

pub reverse_map_push : {A B : Type 0} (f : A → B) (xs : List A) (x : A) → reverse (map f (xs ++ (x ∷ []))) ≡ f x ∷ reverse (map f xs)
reverse_map_push f xs x = ap reverse (map-append f xs (x ∷ [])) ∙ reverse-append (map f xs) (f x ∷ [])
