-- How the resolved program becomes tasks: expressions and statements from left to right, each within an active call.
use Rattle.std.specs.Prelude.{ℕ, ◌+◌, Bool, true, false, List, [], ◌∷◌, count_by, take, slice_get, slice_index_or, option_map, Option, None, Some}
use Rattle.vx_base.specs.declared.types.Elem.{Elem}
use Rattle.vx_base.specs.declared.types.ParamKind.{ParamKind}
use Rattle.vx_base.specs.declared.types.ParamKind.TheVariants.{Scalar, Pointer}
use Rattle.ocl_ast.specs.declared.exprs.BinOp.{BinOp}
use Rattle.ocl_ast.specs.declared.exprs.BinOp.TheVariants.{Add, Sub}
use Rattle.ocl_ast.specs.declared.stmts.AssignOp.{AssignOp}
use Rattle.ocl_ast.specs.declared.stmts.AssignOp.TheVariants.{Set, With, Up, Down}
use Rattle.ocl_ast.specs.declared.units.Gives.{Gives}
use Rattle.ocl_ast.specs.declared.units.Gives.TheVariants.{Nothing, Value}
use Rattle.ocl_ast.specs.declared.units.Param.{Param}
use Rattle.ocl_program.specs.declared.exprs.ArrayRef.{ArrayRef}
use Rattle.ocl_program.specs.declared.exprs.ArrayRef.TheVariants.{Parameter, Declared}
use Rattle.ocl_program.specs.declared.functions.CallSite.{CallSite}
use Rattle.ocl_program.specs.Measures.{cut}
use Rattle.ocl_program.specs.Nodes.{ExprNode, NumberNode, VariableNode, UnaryNode, BinaryNode, BothNode, EitherNode, ChooseNode, CastNode, LoadNode, CallNode, BuiltinNode, ParenNode, ArgNodes, NoArgs, ValueArg, ArrayArg, StmtNode, DeclareNode, LocalArrayNode, SetVariableNode, SetElementNode, CallStmtNode, BarrierNode, IfNode, IfElseNode, WhileNode, DoNode, ForNode, BreakNode, ContinueNode, ReturnNode, BlockNode, EmptyNode, StmtNodes, NoStmts, AndStmt, FunctionNode}
use Rattle.task_machine.specs.declared.tasks.Task.TheVariants as task
use Rattle.task_machine.specs.declared.tasks.Task.{Task}
use Rattle.task_machine.specs.Loops.{Loop}
use Rattle.task_machine.specs.Tasks.{Parts}

-- An active call: its function, where the function's variables and barriers begin in the numbering of the kernel, and which
-- array of the kernel each of its parameters names. A kernel's own parameters name themselves. Numbers are cut at 2 ^ 32 - 1,
-- as in the tables of calls.
pub record Scope : Type 0 where
  pub function : FunctionNode
  pub variables : ℕ
  pub sites : ℕ
  pub arrays : List ArrayRef

-- an expression, or a statement, within an active call
pub record PlacedExpr : Type 0 where
  pub scope : Scope
  pub expr : ExprNode

pub record PlacedStmt : Type 0 where
  pub scope : Scope
  pub stmt : StmtNode

-- the tasks of a program's sub-trees
abbrev pub SourceTask : Type 0
SourceTask = Task PlacedExpr PlacedStmt

abbrev pub SourceLoop : Type 0
SourceLoop = Loop PlacedExpr PlacedStmt

-- ---- numbers

abbrev pub variable_in : Scope → ℕ → ℕ
variable_in scope k = cut (scope.variables + k)

abbrev pub site_in : Scope → ℕ → ℕ
site_in scope k = cut (scope.sites + k)

-- the array of the kernel that an array of the call is
abbrev pub array_in : Scope → ArrayRef → ArrayRef
array_in scope (Parameter k) = slice_index_or scope.arrays k (Parameter k)
array_in scope (Declared k) = Declared k

-- ---- calls

-- the arrays that arguments name; what stands for a number is not looked at
abbrev pub arrays_named : Scope → ArgNodes → List ArrayRef
arrays_named scope NoArgs = []
arrays_named scope (ValueArg e more) = Parameter 0 ∷ arrays_named scope more
arrays_named scope (ArrayArg array more) = array_in scope array ∷ arrays_named scope more

-- the call of a function at a place of the table of calls
abbrev pub scope_at : Scope → CallSite → FunctionNode → ArgNodes → Scope
scope_at scope site callee args = record {
  function = callee;
  variables = cut (scope.variables + site.variables);
  sites = cut (scope.sites + site.sites);
  arrays = arrays_named scope args;
}

abbrev pub is_scalar_kind : ParamKind → Bool
is_scalar_kind (Scalar elem) = true
is_scalar_kind (Pointer space elem readonly) = false

abbrev pub is_scalar : Param → Bool
is_scalar param = is_scalar_kind param.kind

abbrev pub bound_as : ℕ → ParamKind → SourceTask
bound_as variable (Scalar elem) = task.Assign variable elem
bound_as variable (Pointer space elem readonly) = task.Discard

abbrev pub bound_by : ℕ → Option Param → SourceTask
bound_by variable None = task.Discard
bound_by variable (Some param) = bound_as variable param.kind

-- What is done with the value of argument k: it is bound to its parameter's variable, where that is a scalar. The scalar parameters
-- are variables in order, of which the first is given.
abbrev pub binding : ℕ → List Param → ℕ → SourceTask
binding first params k = bound_by (cut (first + count_by is_scalar (take k params))) (slice_get params k)

-- what a call leads to: the function and its place in the table
abbrev pub site_of : Scope → ℕ → Option CallSite
site_of scope call = slice_get scope.function.calls call

abbrev pub callee_of : List FunctionNode → Option CallSite → Option FunctionNode
callee_of program None = None
callee_of program (Some site) = slice_get program site.callee

-- A call binds its arguments from left to right, and then its body runs. A call that leads to no function, which no accepted
-- program has, gives 0.
abbrev pub call_tasks : Scope → Option CallSite → Option FunctionNode → ArgNodes → (ℕ → List Param → List SourceTask → List SourceTask) → List SourceTask → List SourceTask
call_tasks scope (Some site) (Some callee) args binding ts =
    binding (scope_at scope site callee args).variables callee.params
    (task.Invoke (record { scope = scope_at scope site callee args; stmt = BlockNode callee.body }) ∷ ts)
call_tasks scope site callee args binding ts = task.Number 0 ∷ ts

-- ---- expressions

abbrev mutual
  -- The value of an expression onto the stack, and then the rest.
  pub value_tasks : List FunctionNode → Scope → ExprNode → List SourceTask → List SourceTask
  value_tasks program scope (NumberNode value unsigned) ts = task.Number value ∷ ts
  value_tasks program scope (VariableNode variable elem) ts = task.Variable (variable_in scope variable) ∷ ts
  value_tasks program scope (UnaryNode op part) ts = value_tasks program scope part (task.Unary op ∷ ts)
  value_tasks program scope (BinaryNode op unsigned left right) ts = value_tasks program scope left (value_tasks program scope right (task.Binary op unsigned ∷ ts))
  value_tasks program scope (BothNode left right) ts = value_tasks program scope left (task.AndThen (record { scope = scope; expr = right }) ∷ ts)
  value_tasks program scope (EitherNode left right) ts = value_tasks program scope left (task.OrElse (record { scope = scope; expr = right }) ∷ ts)
  value_tasks program scope (ChooseNode unsigned test one other) ts =
      value_tasks program scope test (task.Choose (record { scope = scope; expr = one }) (record { scope = scope; expr = other }) ∷ ts)
  value_tasks program scope (CastNode elem part) ts = value_tasks program scope part (task.Fit elem ∷ ts)
  value_tasks program scope (LoadNode array elem place pos) ts = value_tasks program scope place (task.Load (array_in scope array) pos ∷ ts)
  value_tasks program scope (CallNode call args) ts =
      call_tasks scope (site_of scope call) (callee_of program (site_of scope call)) args (λ first params. args_tasks program scope first params 0 args) ts
  value_tasks program scope (BuiltinNode which unsigned args) ts = values_tasks program scope args (task.Call which unsigned ∷ ts)
  value_tasks program scope (ParenNode part) ts = value_tasks program scope part ts

  -- the values of a built-in function's arguments in order
  pub values_tasks : List FunctionNode → Scope → ArgNodes → List SourceTask → List SourceTask
  values_tasks program scope NoArgs ts = ts
  values_tasks program scope (ValueArg e more) ts = value_tasks program scope e (values_tasks program scope more ts)
  values_tasks program scope (ArrayArg array more) ts = values_tasks program scope more ts

  -- each argument's value, bound before the next one is evaluated
  pub args_tasks : List FunctionNode → Scope → ℕ → List Param → ℕ → ArgNodes → List SourceTask → List SourceTask
  args_tasks program scope first params k NoArgs ts = ts
  args_tasks program scope first params k (ValueArg e more) ts = value_tasks program scope e (binding first params k ∷ args_tasks program scope first params (k + 1) more ts)
  args_tasks program scope first params k (ArrayArg array more) ts = args_tasks program scope first params (k + 1) more ts

-- a call by its number in the table of calls
abbrev pub call_at : List FunctionNode → Scope → ℕ → ArgNodes → List SourceTask → List SourceTask
call_at program scope call args ts =
    call_tasks scope (site_of scope call) (callee_of program (site_of scope call)) args (λ first params. args_tasks program scope first params 0 args) ts

-- ---- statements

-- the right side of an assignment; of `++` and `--` it is 1
abbrev pub operand_tasks : List FunctionNode → Scope → Option ExprNode → List SourceTask → List SourceTask
operand_tasks program scope None ts = task.Number 1 ∷ ts
operand_tasks program scope (Some e) ts = value_tasks program scope e ts

-- the value of an operator on what `old` has and the right side
abbrev pub combined_tasks : BinOp → Bool → SourceTask → (List SourceTask → List SourceTask) → List SourceTask → List SourceTask
combined_tasks op unsigned old operand ts = old ∷ operand (task.Binary op unsigned ∷ ts)

-- The new value of a target, where `old` has its value before: that of `=` does not look at it.
abbrev pub assigned_tasks : AssignOp → Bool → SourceTask → (List SourceTask → List SourceTask) → List SourceTask → List SourceTask
assigned_tasks Set unsigned old operand ts = operand ts
assigned_tasks (With op) unsigned old operand ts = combined_tasks op unsigned old operand ts
assigned_tasks Up unsigned old operand ts = combined_tasks Add unsigned old operand ts
assigned_tasks Down unsigned old operand ts = combined_tasks Sub unsigned old operand ts

-- a value that a function gives back
abbrev pub given_tasks : Gives → List SourceTask → List SourceTask
given_tasks Nothing ts = ts
given_tasks (Value elem) ts = task.Fit elem ∷ ts

abbrev pub return_tasks : List FunctionNode → Scope → Option ExprNode → List SourceTask → List SourceTask
return_tasks program scope None ts = task.Number 0 ∷ task.Return ∷ ts
return_tasks program scope (Some e) ts = value_tasks program scope e (given_tasks scope.function.gives (task.Return ∷ ts))

-- a variable of the kernel is 0, and then it has the value that is written
abbrev pub declared_tasks : List FunctionNode → Scope → ℕ → Elem → Option ExprNode → List SourceTask → List SourceTask
declared_tasks program scope variable elem None ts = task.Clear variable ∷ ts
declared_tasks program scope variable elem (Some e) ts = task.Clear variable ∷ value_tasks program scope e (task.Assign variable elem ∷ ts)

-- the loop with these parts
abbrev pub loop_in : Scope → Option ExprNode → StmtNode → StmtNode → SourceLoop
loop_in scope test step body = record {
  test = option_map (λ e. record { scope = scope; expr = e }) test;
  step = record { scope = scope; stmt = step };
  body = record { scope = scope; stmt = body };
}

abbrev mutual
  -- The tasks of a statement, and then the rest.
  pub stmt_tasks : List FunctionNode → Scope → StmtNode → List SourceTask → List SourceTask
  stmt_tasks program scope (DeclareNode variable elem value) ts = declared_tasks program scope (variable_in scope variable) elem value ts
  stmt_tasks program scope (LocalArrayNode array count) ts = ts
  stmt_tasks program scope (SetVariableNode variable elem op unsigned value) ts =
      assigned_tasks op unsigned (task.Variable (variable_in scope variable)) (operand_tasks program scope value) (task.Assign (variable_in scope variable) elem ∷ ts)
  stmt_tasks program scope (SetElementNode array elem place op unsigned value pos) ts =
      value_tasks program scope place
      (assigned_tasks op unsigned (task.Reread (array_in scope array) pos) (operand_tasks program scope value) (task.Store (array_in scope array) pos ∷ ts))
  stmt_tasks program scope (CallStmtNode call) ts = value_tasks program scope call (task.Discard ∷ ts)
  stmt_tasks program scope (BarrierNode site) ts = task.Wait (site_in scope site) ∷ ts
  stmt_tasks program scope (IfNode test one) ts = value_tasks program scope test (task.Branch (record { scope = scope; stmt = one }) None ∷ ts)
  stmt_tasks program scope (IfElseNode test one other) ts =
      value_tasks program scope test (task.Branch (record { scope = scope; stmt = one }) (Some (record { scope = scope; stmt = other })) ∷ ts)
  stmt_tasks program scope (WhileNode test body) ts = task.Enter (loop_in scope (Some test) (BlockNode NoStmts) body) ∷ ts
  stmt_tasks program scope (DoNode body test) ts = task.EnterTurn (loop_in scope (Some test) (BlockNode NoStmts) body) ∷ ts
  stmt_tasks program scope (ForNode first test step body) ts = stmts_tasks program scope first (task.Enter (loop_in scope test (BlockNode step) body) ∷ ts)
  stmt_tasks program scope BreakNode ts = task.Break ∷ ts
  stmt_tasks program scope ContinueNode ts = task.Continue ∷ ts
  stmt_tasks program scope (ReturnNode value) ts = return_tasks program scope value ts
  stmt_tasks program scope (BlockNode items) ts = stmts_tasks program scope items ts
  stmt_tasks program scope EmptyNode ts = ts

  pub stmts_tasks : List FunctionNode → Scope → StmtNodes → List SourceTask → List SourceTask
  stmts_tasks program scope NoStmts ts = ts
  stmts_tasks program scope (AndStmt s ss) ts = stmt_tasks program scope s (stmts_tasks program scope ss ts)

-- the program as a form for the machine
abbrev pub source_parts : List FunctionNode → Parts PlacedExpr PlacedStmt
source_parts program = record {
  value = λ v. value_tasks program v.scope v.expr;
  body = λ t. stmt_tasks program t.scope t.stmt;
}
