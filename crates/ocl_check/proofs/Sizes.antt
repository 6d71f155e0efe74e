-- How large a statement is: what is inside it is smaller.
use Rattle.std.proofs.Common.{◌≡◌, ℕ, zero, suc, ◌+◌, ◌<◌, List, [], ◌∷◌, length, get_or, arith, ap}
use Rattle.ocl_ast.specs.Shapes.{stmt_tree, stmt_trees}
use Rattle.ocl_ast.specs.Trees.{StmtTree, IfTree, IfElseTree, WhileTree, DoTree, ForTree, BlockTree, StmtTrees, NoStmts, AndStmt}
use Rattle.ocl_ast.specs.declared.stmts.Stmt.{Stmt}

abbrev mutual
  pub size : StmtTree → ℕ
  size (IfTree test one) = size one + 2
  size (IfElseTree test one other) = size one + size other + 2
  size (WhileTree test body) = size body + 2
  size (DoTree body test) = size body + 2
  size (ForTree first test step body) = sizes first + sizes step + size body + 2
  size (BlockTree items) = sizes items + 2
  size s = 0

  pub sizes : StmtTrees → ℕ
  sizes NoStmts = 0
  sizes (AndStmt s ss) = size s + sizes ss + 1

-- a statement of some is smaller than all of them
pub one_smaller : (stmts : List Stmt) (i : ℕ) (s : Stmt) → i < length stmts → s ≡ get_or stmts i s → size (stmt_tree s) < sizes (stmt_trees stmts)
one_smaller [] i s within is = absurd (omega arith)
one_smaller (t ∷ ts) zero s within is =
    let same : size (stmt_tree s) ≡ size (stmt_tree t) = ap (λ (x : Stmt). size (stmt_tree x)) is in
    omega arith
one_smaller (t ∷ ts) (suc i) s within is =
    let inner : size (stmt_tree s) < sizes (stmt_trees ts) = one_smaller ts i s (omega arith) is in
    omega arith
