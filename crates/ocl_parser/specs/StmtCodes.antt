-- Plain statements as lists of nodes behind their parts, by which a proof may store them in a model.
use Rattle.std.specs.Prelude.{◌≡◌, Bool, List, [], ◌∷◌, Option, refl}
use Rattle.std.specs.Coded.{Coded, code_by}
use Rattle.std.proofs.Common.{◌∙◌, ap}
use Rattle.vx_base.specs.declared.types.Elem.{Elem}
use Rattle.vx_base.specs.declared.types.Pos.{Pos}
use Rattle.ocl_ast.specs.declared.exprs.Ident.{Ident}
use Rattle.ocl_ast.specs.declared.stmts.AssignOp.{AssignOp}
use Rattle.ocl_ast.specs.Trees.{ExprTree, ArgTrees, TargetTree, StmtTree, DeclareTree, LocalArrayTree, AssignTree, CallStmtTree, BarrierTree, IfTree, IfElseTree, WhileTree, DoTree, ForTree, BreakTree, ContinueTree, ReturnTree, BlockTree, EmptyTree, StmtTrees, NoStmts, AndStmt}

pub data StmtNode : Type 0 where
  DeclareNode : Elem → Bool → Ident → Option ExprTree → StmtNode
  LocalArrayNode : Elem → Ident → ExprTree → StmtNode
  AssignNode : TargetTree → AssignOp → Option ExprTree → Pos → StmtNode
  CallStmtNode : Ident → ArgTrees → StmtNode
  BarrierNode : Pos → StmtNode
  IfNode : ExprTree → StmtNode
  IfElseNode : ExprTree → StmtNode
  WhileNode : ExprTree → StmtNode
  DoNode : ExprTree → StmtNode
  ForNode : Option ExprTree → StmtNode
  BreakNode : Pos → StmtNode
  ContinueNode : Pos → StmtNode
  ReturnNode : Option ExprTree → Pos → StmtNode
  BlockNode : StmtNode
  EmptyNode : StmtNode
  NoStmtsNode : StmtNode
  AndStmtNode : StmtNode

pub data StmtPart : Type 0 where
  OneStmt : StmtTree → StmtPart
  SomeStmts : StmtTrees → StmtPart

abbrev mutual
  pub stmt_nodes : StmtTree → List StmtNode → List StmtNode
  stmt_nodes (DeclareTree elem constant n value) rest = DeclareNode elem constant n value ∷ rest
  stmt_nodes (LocalArrayTree elem n count) rest = LocalArrayNode elem n count ∷ rest
  stmt_nodes (AssignTree target op value pos) rest = AssignNode target op value pos ∷ rest
  stmt_nodes (CallStmtTree n args) rest = CallStmtNode n args ∷ rest
  stmt_nodes (BarrierTree pos) rest = BarrierNode pos ∷ rest
  stmt_nodes (IfTree test body) rest = stmt_nodes body (IfNode test ∷ rest)
  stmt_nodes (IfElseTree test one other) rest = stmt_nodes one (stmt_nodes other (IfElseNode test ∷ rest))
  stmt_nodes (WhileTree test body) rest = stmt_nodes body (WhileNode test ∷ rest)
  stmt_nodes (DoTree body test) rest = stmt_nodes body (DoNode test ∷ rest)
  stmt_nodes (ForTree first test step body) rest = stmts_nodes first (stmts_nodes step (stmt_nodes body (ForNode test ∷ rest)))
  stmt_nodes (BreakTree pos) rest = BreakNode pos ∷ rest
  stmt_nodes (ContinueTree pos) rest = ContinueNode pos ∷ rest
  stmt_nodes (ReturnTree value pos) rest = ReturnNode value pos ∷ rest
  stmt_nodes (BlockTree items) rest = stmts_nodes items (BlockNode ∷ rest)
  stmt_nodes EmptyTree rest = EmptyNode ∷ rest

  pub stmts_nodes : StmtTrees → List StmtNode → List StmtNode
  stmts_nodes NoStmts rest = NoStmtsNode ∷ rest
  stmts_nodes (AndStmt s ss) rest = stmt_nodes s (stmts_nodes ss (AndStmtNode ∷ rest))

abbrev pub with_stmt : StmtNode → List StmtPart → List StmtPart
with_stmt (DeclareNode elem constant n value) parts = OneStmt (DeclareTree elem constant n value) ∷ parts
with_stmt (LocalArrayNode elem n count) parts = OneStmt (LocalArrayTree elem n count) ∷ parts
with_stmt (AssignNode target op value pos) parts = OneStmt (AssignTree target op value pos) ∷ parts
with_stmt (CallStmtNode n args) parts = OneStmt (CallStmtTree n args) ∷ parts
with_stmt (BarrierNode pos) parts = OneStmt (BarrierTree pos) ∷ parts
with_stmt (IfNode test) (OneStmt s ∷ parts) = OneStmt (IfTree test s) ∷ parts
with_stmt (IfElseNode test) (OneStmt o ∷ OneStmt s ∷ parts) = OneStmt (IfElseTree test s o) ∷ parts
with_stmt (WhileNode test) (OneStmt s ∷ parts) = OneStmt (WhileTree test s) ∷ parts
with_stmt (DoNode test) (OneStmt s ∷ parts) = OneStmt (DoTree s test) ∷ parts
with_stmt (ForNode test) (OneStmt s ∷ SomeStmts step ∷ SomeStmts first ∷ parts) = OneStmt (ForTree first test step s) ∷ parts
with_stmt (BreakNode pos) parts = OneStmt (BreakTree pos) ∷ parts
with_stmt (ContinueNode pos) parts = OneStmt (ContinueTree pos) ∷ parts
with_stmt (ReturnNode value pos) parts = OneStmt (ReturnTree value pos) ∷ parts
with_stmt BlockNode (SomeStmts items ∷ parts) = OneStmt (BlockTree items) ∷ parts
with_stmt EmptyNode parts = OneStmt EmptyTree ∷ parts
with_stmt NoStmtsNode parts = SomeStmts NoStmts ∷ parts
with_stmt AndStmtNode (SomeStmts ss ∷ OneStmt s ∷ parts) = SomeStmts (AndStmt s ss) ∷ parts
with_stmt _ parts = parts

abbrev pub with_stmts : List StmtNode → List StmtPart → List StmtPart
with_stmts [] parts = parts
with_stmts (node ∷ nodes) parts = with_stmts nodes (with_stmt node parts)

abbrev mutual
  stmt_again : (s : StmtTree) (rest : List StmtNode) (parts : List StmtPart) → with_stmts (stmt_nodes s rest) parts ≡ with_stmts rest (OneStmt s ∷ parts)
  stmt_again (DeclareTree elem constant n value) rest parts = refl
  stmt_again (LocalArrayTree elem n count) rest parts = refl
  stmt_again (AssignTree target op value pos) rest parts = refl
  stmt_again (CallStmtTree n args) rest parts = refl
  stmt_again (BarrierTree pos) rest parts = refl
  stmt_again (IfTree test s) rest parts = stmt_again s (IfNode test ∷ rest) parts
  stmt_again (IfElseTree test s o) rest parts =
      stmt_again s (stmt_nodes o (IfElseNode test ∷ rest)) parts ∙ stmt_again o (IfElseNode test ∷ rest) (OneStmt s ∷ parts)
  stmt_again (WhileTree test s) rest parts = stmt_again s (WhileNode test ∷ rest) parts
  stmt_again (DoTree s test) rest parts = stmt_again s (DoNode test ∷ rest) parts
  stmt_again (ForTree first test step s) rest parts =
      (stmts_again first (stmts_nodes step (stmt_nodes s (ForNode test ∷ rest))) parts ∙
      stmts_again step (stmt_nodes s (ForNode test ∷ rest)) (SomeStmts first ∷ parts)) ∙
      stmt_again s (ForNode test ∷ rest) (SomeStmts step ∷ SomeStmts first ∷ parts)
  stmt_again (BreakTree pos) rest parts = refl
  stmt_again (ContinueTree pos) rest parts = refl
  stmt_again (ReturnTree value pos) rest parts = refl
  stmt_again (BlockTree items) rest parts = stmts_again items (BlockNode ∷ rest) parts
  stmt_again EmptyTree rest parts = refl

  stmts_again : (ss : StmtTrees) (rest : List StmtNode) (parts : List StmtPart) → with_stmts (stmts_nodes ss rest) parts ≡ with_stmts rest (SomeStmts ss ∷ parts)
  stmts_again NoStmts rest parts = refl
  stmts_again (AndStmt s ss) rest parts =
      stmt_again s (stmts_nodes ss (AndStmtNode ∷ rest)) parts ∙ stmts_again ss (AndStmtNode ∷ rest) (OneStmt s ∷ parts)

abbrev pub first_stmt : List StmtPart → StmtTree
first_stmt (OneStmt s ∷ parts) = s
first_stmt _ = EmptyTree

abbrev pub first_stmts : List StmtPart → StmtTrees
first_stmts (SomeStmts ss ∷ parts) = ss
first_stmts _ = NoStmts

abbrev pub stmt_code : Coded (List StmtNode) → Coded StmtTree
stmt_code c = code_by (List StmtNode) c (λ s. stmt_nodes s []) (λ nodes. first_stmt (with_stmts nodes [])) (λ s. ap first_stmt (stmt_again s [] []))

abbrev pub stmts_code : Coded (List StmtNode) → Coded StmtTrees
stmts_code c = code_by (List StmtNode) c (λ ss. stmts_nodes ss []) (λ nodes. first_stmts (with_stmts nodes [])) (λ ss. ap first_stmts (stmts_again ss [] []))
