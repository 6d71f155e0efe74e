-- The trees of a kernel file as plain data: each variant of `src/` with its parts, without pointers.
use Rattle.std.specs.Prelude.{ℕ, Bool, List, Option}
use Rattle.vx_base.specs.declared.types.Elem.{Elem}
use Rattle.vx_base.specs.declared.types.Pos.{Pos}
use Rattle.ocl_ast.specs.declared.exprs.BinOp.{BinOp}
use Rattle.ocl_ast.specs.declared.exprs.Ident.{Ident}
use Rattle.ocl_ast.specs.declared.exprs.UnOp.{UnOp}
use Rattle.ocl_ast.specs.declared.stmts.AssignOp.{AssignOp}
use Rattle.ocl_ast.specs.declared.units.Gives.{Gives}
use Rattle.ocl_ast.specs.declared.units.Param.{Param}

mutual
  -- an expression
  pub data ExprTree : Type 0 where
    NumberTree : ℕ → Bool → Pos → ExprTree
    NameTree : Ident → ExprTree
    UnaryTree : UnOp → ExprTree → Pos → ExprTree
    BinaryTree : BinOp → ExprTree → ExprTree → Pos → ExprTree
    BothTree : ExprTree → ExprTree → Pos → ExprTree
    EitherTree : ExprTree → ExprTree → Pos → ExprTree
    ChooseTree : ExprTree → ExprTree → ExprTree → Pos → ExprTree
    CastTree : Elem → ExprTree → Pos → ExprTree
    IndexTree : Ident → ExprTree → Pos → ExprTree
    CallTree : Ident → ArgTrees → ExprTree
    ParenTree : ExprTree → Pos → ExprTree

  -- the arguments of a call, in order
  pub data ArgTrees : Type 0 where
    NoArgs : ArgTrees
    AndArg : ExprTree → ArgTrees → ArgTrees

-- what an assignment changes
pub data TargetTree : Type 0 where
  NameTarget : Ident → TargetTree
  IndexTarget : Ident → ExprTree → Pos → TargetTree

mutual
  -- a statement, or a declaration among statements
  pub data StmtTree : Type 0 where
    DeclareTree : Elem → Bool → Ident → Option ExprTree → StmtTree
    LocalArrayTree : Elem → Ident → ExprTree → StmtTree
    AssignTree : TargetTree → AssignOp → Option ExprTree → Pos → StmtTree
    CallStmtTree : Ident → ArgTrees → StmtTree
    BarrierTree : Pos → StmtTree
    IfTree : ExprTree → StmtTree → StmtTree
    IfElseTree : ExprTree → StmtTree → StmtTree → StmtTree
    WhileTree : ExprTree → StmtTree → StmtTree
    DoTree : StmtTree → ExprTree → StmtTree
    ForTree : StmtTrees → Option ExprTree → StmtTrees → StmtTree → StmtTree
    BreakTree : Pos → StmtTree
    ContinueTree : Pos → StmtTree
    ReturnTree : Option ExprTree → Pos → StmtTree
    BlockTree : StmtTrees → StmtTree
    EmptyTree : StmtTree

  -- statements in order
  pub data StmtTrees : Type 0 where
    NoStmts : StmtTrees
    AndStmt : StmtTree → StmtTrees → StmtTrees

-- a kernel or a helper
pub record FunctionTree : Type 0 where
  pub kernel : Bool
  pub name : Ident
  pub gives : Gives
  pub params : List Param
  pub body : StmtTrees
