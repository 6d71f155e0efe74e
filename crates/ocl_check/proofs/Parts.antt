-- What the parts of a statement answer gives what the statement answers: the lemmas of the crate below, under names of this one.
use Rattle.std.proofs.Common.{◌≡◌, List, map, Result, Ok, Vec, Global, sym, ap, subst, ◌∙◌}
use Rattle.ocl_ast.proofs.Rows.{block_tree}
use Rattle.ocl_ast.specs.Shapes.{stmt_tree, stmt_trees}
use Rattle.ocl_ast.specs.Trees.{BlockTree, StmtTree}
use Rattle.ocl_ast.specs.declared.stmts.Stmt.{Stmt, Block}
use Rattle.ocl_program.specs.Nodes.{StmtNode, stmt_nodes}
use Rattle.ocl_program.specs.Shapes.{stmt_node, typed_stmts as typed_items}
use Rattle.ocl_program.specs.declared.stmts.TypedStmt.{TypedStmt}
use Rattle.ocl_types.specs.declared.faults.TypeFault.{TypeFault}
use Rattle.ocl_types.specs.Exprs.{◌>>=◌}
use Rattle.ocl_types.specs.Stmts.{Place, Standing, typed_stmt}
use Rattle.ocl_types.specs.Answers.{Faults, StmtTo}
use Rattle.ocl_types.proofs.Steps as steps
use Rattle.ocl_types.proofs.Rules as laws

pub fault_onward : {A B : Type 0} (fault : TypeFault) (m : Result A TypeFault) (f : A → Result B TypeFault) → Faults fault m → Faults fault (m >>= f)
fault_onward fault m f faults = steps.fault_onward fault m f faults

pub fault_behind : {A B : Type 0} (fault : TypeFault) (m : Result A TypeFault) (f : A → Result B TypeFault) (x : A) → m ≡ Ok x → Faults fault (f x) → Faults fault (m >>= f)
fault_behind fault m f x typed faults = steps.fault_behind fault m f x typed faults

pub stmt_behind : {A : Type 0} (r : Result TypedStmt TypeFault) (after : Standing) (m : Result A TypeFault) (f : A → Result (StmtNode × Standing) TypeFault) (x : A) →
    m ≡ Ok x → StmtTo r after (f x) → StmtTo r after (m >>= f)
stmt_behind r after m f x typed is = laws.stmt_behind r after m f x typed is

pub nodes_seen : (stmts : List TypedStmt) → typed_items stmts ≡ stmt_nodes (map stmt_node stmts)
nodes_seen stmts = laws.nodes_seen stmts

-- the items of a block are those of the list
pub block_is : (stmt : Stmt) (items : Vec Stmt Global) (inside : List Stmt) → stmt ≡ Block items → inside ≡ items.items → stmt_tree stmt ≡ BlockTree (stmt_trees inside)
block_is stmt items inside is seen = ap stmt_tree is ∙ block_tree items ∙ sym (ap (λ l. BlockTree (stmt_trees l)) seen)

-- what is judged of a statement is judged of its tree
pub stmt_along : (r : Result TypedStmt TypeFault) (after : Standing) (place : Place) (st : Standing) (one other : StmtTree) → one ≡ other → StmtTo r after (typed_stmt place st other) → StmtTo r after (typed_stmt place st one)
stmt_along r after place st one other same judged = subst (λ (t : StmtTree). StmtTo r after (typed_stmt place st t)) (sym same) judged
