-- How high an expression is, and how many levels of statements a body has.
use Rattle.std.specs.Prelude.{ℕ, ◌+◌, max}
use Rattle.ocl_ast.specs.Trees.{ExprTree, NumberTree, NameTree, UnaryTree, BinaryTree, BothTree, EitherTree, ChooseTree, CastTree, IndexTree, CallTree, ParenTree, ArgTrees, NoArgs, AndArg, StmtTree, DeclareTree, LocalArrayTree, AssignTree, CallStmtTree, BarrierTree, IfTree, IfElseTree, WhileTree, DoTree, ForTree, BreakTree, ContinueTree, ReturnTree, BlockTree, EmptyTree, StmtTrees, NoStmts, AndStmt}

abbrev mutual
  -- A number or a name has 1, every other node 1 and the greatest height of its parts. A call without arguments has 1.
  pub height : ExprTree → ℕ
  height (NumberTree value unsigned pos) = 1
  height (NameTree name) = 1
  height (UnaryTree op part pos) = height part + 1
  height (BinaryTree op left right pos) = max (height left) (height right) + 1
  height (BothTree left right pos) = max (height left) (height right) + 1
  height (EitherTree left right pos) = max (height left) (height right) + 1
  height (ChooseTree test one other pos) = max (height test) (max (height one) (height other)) + 1
  height (CastTree elem part pos) = height part + 1
  height (IndexTree array place pos) = height place + 1
  height (CallTree name args) = args_height args + 1
  height (ParenTree part pos) = height part + 1

  -- the greatest height among arguments, 0 where there are none
  pub args_height : ArgTrees → ℕ
  args_height NoArgs = 0
  args_height (AndArg arg args) = max (height arg) (args_height args)

abbrev mutual
  -- The levels of a statement. A block has the greatest of its items and at least 1, and what a block counts itself: 1 where it
  -- stands among other statements, 0 where it is the body of a function or of another statement.
  pub levels : ℕ → StmtTree → ℕ
  levels block (BlockTree items) = all_levels items + block
  levels block (DeclareTree elem constant name value) = 1
  levels block (LocalArrayTree elem name count) = 1
  levels block (AssignTree target op value pos) = 1
  levels block (CallStmtTree name args) = 1
  levels block (BarrierTree pos) = 1
  levels block (IfTree test body) = levels 0 body + 1
  levels block (IfElseTree test one other) = max (levels 0 one) (levels 0 other) + 1
  levels block (WhileTree test body) = levels 0 body + 1
  levels block (DoTree body test) = levels 0 body + 1
  levels block (ForTree first test step body) = max (all_levels first) (max (all_levels step) (levels 0 body)) + 1
  levels block (BreakTree pos) = 1
  levels block (ContinueTree pos) = 1
  levels block (ReturnTree value pos) = 1
  levels block EmptyTree = 1

  -- the greatest levels of statements in order, and at least 1
  pub all_levels : StmtTrees → ℕ
  all_levels NoStmts = 1
  all_levels (AndStmt s ss) = max (levels 1 s) (all_levels ss)
