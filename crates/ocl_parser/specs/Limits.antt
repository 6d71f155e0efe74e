-- The limits of a file: a function's body has at most 31 levels of statements, and each expression in it a height of at most 128.
use Rattle.std.specs.Prelude.{◌≤◌, List, [], ◌∷◌, Option, Some, None}
use Rattle.ocl_ast.specs.Trees.{ExprTree, ArgTrees, TargetTree, NameTarget, IndexTarget, StmtTree, DeclareTree, LocalArrayTree, AssignTree, CallStmtTree, BarrierTree, IfTree, IfElseTree, WhileTree, DoTree, ForTree, BreakTree, ContinueTree, ReturnTree, BlockTree, EmptyTree, StmtTrees, NoStmts, AndStmt, FunctionTree}
use Rattle.ocl_ast.specs.Measures.{height, args_height, all_levels}

-- an expression that is not too high
abbrev pub IsLowExpr : ExprTree → Type 0
IsLowExpr e = height e ≤ 128

-- arguments none of which is too high
abbrev pub AreLowArgs : ArgTrees → Type 0
AreLowArgs args = args_height args ≤ 128

abbrev pub IsLowIfAny : Option ExprTree → Type 0
IsLowIfAny None = Unit {0}
IsLowIfAny (Some e) = IsLowExpr e

abbrev pub IsLowTarget : TargetTree → Type 0
IsLowTarget (NameTarget n) = Unit {0}
IsLowTarget (IndexTarget array place pos) = IsLowExpr place

abbrev mutual
  -- a statement in which no expression is too high
  pub IsLow : StmtTree → Type 0
  IsLow (DeclareTree elem constant n value) = IsLowIfAny value
  IsLow (LocalArrayTree elem n count) = IsLowExpr count
  IsLow (AssignTree target op value pos) = IsLowTarget target × IsLowIfAny value
  IsLow (CallStmtTree n args) = AreLowArgs args
  IsLow (BarrierTree pos) = Unit {0}
  IsLow (IfTree test body) = IsLowExpr test × IsLow body
  IsLow (IfElseTree test one other) = IsLowExpr test × IsLow one × IsLow other
  IsLow (WhileTree test body) = IsLowExpr test × IsLow body
  IsLow (DoTree body test) = IsLow body × IsLowExpr test
  IsLow (ForTree first test step body) = AreLow first × IsLowIfAny test × AreLow step × IsLow body
  IsLow (BreakTree pos) = Unit {0}
  IsLow (ContinueTree pos) = Unit {0}
  IsLow (ReturnTree value pos) = IsLowIfAny value
  IsLow (BlockTree items) = AreLow items
  IsLow EmptyTree = Unit {0}

  pub AreLow : StmtTrees → Type 0
  AreLow NoStmts = Unit {0}
  AreLow (AndStmt s ss) = IsLow s × AreLow ss

-- a body within the limits
abbrev pub IsWithin : StmtTrees → Type 0
IsWithin body = (all_levels body ≤ 31) × AreLow body

-- functions within the limits
abbrev pub AreWithin : List FunctionTree → Type 0
AreWithin [] = Unit {0}
AreWithin (f ∷ fs) = IsWithin f.body × AreWithin fs
