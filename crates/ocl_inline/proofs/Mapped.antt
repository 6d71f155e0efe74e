-- The tasks of a flat tree are those that stand for the tasks of its source.
use Rattle.std.proofs.Common.{◌≡◌, refl, ap, ◌∙◌, ℕ, ◌+◌, List, [], ◌∷◌, Option, None, Some, Bool, slice_get, take, count_by}
use Rattle.vx_base.specs.declared.types.Elem.{Elem}
use Rattle.vx_base.specs.declared.types.ParamKind.{ParamKind}
use Rattle.vx_base.specs.declared.types.ParamKind.TheVariants.{Scalar, Pointer}
use Rattle.ocl_ast.specs.declared.stmts.AssignOp.{AssignOp}
use Rattle.ocl_ast.specs.declared.stmts.AssignOp.TheVariants.{Set, With, Up, Down}
use Rattle.ocl_ast.specs.declared.units.Gives.{Gives}
use Rattle.ocl_ast.specs.declared.units.Gives.TheVariants.{Nothing, Value}
use Rattle.ocl_ast.specs.declared.units.Param.{Param}
use Rattle.ocl_program.specs.Measures.{cut}
use Rattle.ocl_program.specs.declared.functions.CallSite.{CallSite}
use Rattle.ocl_program.specs.Nodes.{ExprNode, NumberNode, VariableNode, UnaryNode, BinaryNode, BothNode, EitherNode, ChooseNode, CastNode, LoadNode, CallNode, BuiltinNode, ParenNode, ArgNodes, NoArgs, ValueArg, ArrayArg, StmtNode, DeclareNode, LocalArrayNode, SetVariableNode, SetElementNode, CallStmtNode, BarrierNode, IfNode, IfElseNode, WhileNode, DoNode, ForNode, BreakNode, ContinueNode, ReturnNode, BlockNode, EmptyNode, StmtNodes, NoStmts, AndStmt, FunctionNode}
use Rattle.task_machine.specs.declared.tasks.Task.TheVariants as task
use Rattle.ocl_sem.specs.Source as source
use Rattle.ocl_sem.specs.Source.{Scope, SourceTask, variable_in, array_in, scope_at, site_of, callee_of, is_scalar}
use Rattle.ocl_inline.specs.Trees.{BlockFlat, FlatArgs}
use Rattle.ocl_inline.specs.FlatTasks.{bound_to, value_tasks, values_tasks, args_tasks, operand_tasks, assigned_tasks, given_tasks, return_tasks, declared_tasks, loop_of, stmt_tasks, stmts_tasks}
use Rattle.ocl_inline.specs.Expansion.{Bodies, binding_as, binding_by, binding_at, call_flat, flat_expr, flat_args, flat_value, flat_stmt, flat_stmts}
use Rattle.ocl_inline.specs.Mapping.{task_at, tasks_at}
use Rattle.ocl_inline.specs.Laws.{AreBodies}

-- what is done with an argument
kind_mapped : (bodies : Bodies) (program : List FunctionNode) (variable : ℕ) (kind : ParamKind) → bound_to (binding_as variable kind) ≡ task_at bodies program (source.bound_as variable kind)
kind_mapped bodies program variable (Scalar elem) = refl
kind_mapped bodies program variable (Pointer space elem readonly) = refl

param_mapped : (bodies : Bodies) (program : List FunctionNode) (variable : ℕ) (param : Option Param)
    → bound_to (binding_by variable param) ≡ task_at bodies program (source.bound_by variable param)
param_mapped bodies program variable None = refl
param_mapped bodies program variable (Some param) = kind_mapped bodies program variable param.kind

pub binding_mapped : (bodies : Bodies) (program : List FunctionNode) (first : ℕ) (params : List Param) (k : ℕ)
    → bound_to (binding_at first params k) ≡ task_at bodies program (source.binding first params k)
binding_mapped bodies program first params k = param_mapped bodies program (cut (first + count_by is_scalar (take k params))) (slice_get params k)

-- a call, where the tasks of its arguments are mapped
pub call_mapped : (bodies : Bodies) (program : List FunctionNode) → AreBodies bodies program → (scope : Scope) (site : Option CallSite) (callee : Option FunctionNode) (args : ArgNodes)
    → callee_of program site ≡ callee
    → (bound : ℕ → List Param → FlatArgs) (binds : ℕ → List Param → List SourceTask → List SourceTask)
    → ((first : ℕ) (params : List Param) (ts : List SourceTask) → args_tasks (bound first params) (tasks_at bodies program ts) ≡ tasks_at bodies program (binds first params ts))
    → (ts : List SourceTask)
    → value_tasks (call_flat bodies scope site callee args bound) (tasks_at bodies program ts) ≡ tasks_at bodies program (source.call_tasks scope site callee args binds ts)
call_mapped bodies program are scope None callee args e bound binds same ts = refl
call_mapped bodies program are scope (Some site) None args e bound binds same ts = refl
call_mapped bodies program are scope (Some site) (Some callee) args e bound binds same ts =
    let inner : Scope = scope_at scope site callee args in
    ap (λ b. args_tasks (bound inner.variables callee.params) (task.Invoke (BlockFlat b) ∷ tasks_at bodies program ts)) (are inner site.callee e)
    ∙ same inner.variables callee.params (task.Invoke (record { scope = inner; stmt = BlockNode callee.body }) ∷ ts)

abbrev mutual
  pub value_mapped : (bodies : Bodies) (program : List FunctionNode) → AreBodies bodies program → (scope : Scope) (e : ExprNode) (ts : List SourceTask)
      → value_tasks (flat_expr bodies program scope e) (tasks_at bodies program ts) ≡ tasks_at bodies program (source.value_tasks program scope e ts)
  value_mapped bodies program are scope (NumberNode value unsigned) ts = refl
  value_mapped bodies program are scope (VariableNode variable elem) ts = refl
  value_mapped bodies program are scope (UnaryNode op part) ts = value_mapped bodies program are scope part (task.Unary op ∷ ts)
  value_mapped bodies program are scope (BinaryNode op unsigned left right) ts =
      ap (value_tasks (flat_expr bodies program scope left)) (value_mapped bodies program are scope right (task.Binary op unsigned ∷ ts))
      ∙ value_mapped bodies program are scope left (source.value_tasks program scope right (task.Binary op unsigned ∷ ts))
  value_mapped bodies program are scope (BothNode left right) ts =
      value_mapped bodies program are scope left (task.AndThen (record { scope = scope; expr = right }) ∷ ts)
  value_mapped bodies program are scope (EitherNode left right) ts =
      value_mapped bodies program are scope left (task.OrElse (record { scope = scope; expr = right }) ∷ ts)
  value_mapped bodies program are scope (ChooseNode unsigned test one other) ts =
      value_mapped bodies program are scope test (task.Choose (record { scope = scope; expr = one }) (record { scope = scope; expr = other }) ∷ ts)
  value_mapped bodies program are scope (CastNode elem part) ts = value_mapped bodies program are scope part (task.Fit elem ∷ ts)
  value_mapped bodies program are scope (LoadNode array elem place pos) ts = value_mapped bodies program are scope place (task.Load (array_in scope array) pos ∷ ts)
  value_mapped bodies program are scope (CallNode call args) ts =
      call_mapped bodies program are scope (site_of scope call) (callee_of program (site_of scope call)) args refl
      (λ first params. flat_args bodies program scope first params 0 args) (λ first params. source.args_tasks program scope first params 0 args)
      (λ first params us. args_mapped bodies program are scope first params 0 args us) ts
  value_mapped bodies program are scope (BuiltinNode which unsigned args) ts =
      values_mapped bodies program are scope 0 [] 0 args (task.Call which unsigned ∷ ts)
  value_mapped bodies program are scope (ParenNode part) ts = value_mapped bodies program are scope part ts

  pub values_mapped : (bodies : Bodies) (program : List FunctionNode) → AreBodies bodies program → (scope : Scope) (first : ℕ) (params : List Param) (k : ℕ) (args : ArgNodes) (ts : List SourceTask)
      → values_tasks (flat_args bodies program scope first params k args) (tasks_at bodies program ts) ≡ tasks_at bodies program (source.values_tasks program scope args ts)
  values_mapped bodies program are scope first params k NoArgs ts = refl
  values_mapped bodies program are scope first params k (ValueArg e more) ts =
      ap (value_tasks (flat_expr bodies program scope e)) (values_mapped bodies program are scope first params (k + 1) more ts)
      ∙ value_mapped bodies program are scope e (source.values_tasks program scope more ts)
  values_mapped bodies program are scope first params k (ArrayArg array more) ts = values_mapped bodies program are scope first params (k + 1) more ts

  pub args_mapped : (bodies : Bodies) (program : List FunctionNode) → AreBodies bodies program → (scope : Scope) (first : ℕ) (params : List Param) (k : ℕ) (args : ArgNodes) (ts : List SourceTask)
      → args_tasks (flat_args bodies program scope first params k args) (tasks_at bodies program ts) ≡ tasks_at bodies program (source.args_tasks program scope first params k args ts)
  args_mapped bodies program are scope first params k NoArgs ts = refl
  args_mapped bodies program are scope first params k (ValueArg e more) ts =
      let behind : List SourceTask = source.args_tasks program scope first params (k + 1) more ts in
      ap (λ us. value_tasks (flat_expr bodies program scope e) (bound_to (binding_at first params k) ∷ us)) (args_mapped bodies program are scope first params (k + 1) more ts)
      ∙ ap (λ t. value_tasks (flat_expr bodies program scope e) (t ∷ tasks_at bodies program behind)) (binding_mapped bodies program first params k)
      ∙ value_mapped bodies program are scope e (source.binding first params k ∷ behind)
  args_mapped bodies program are scope first params k (ArrayArg array more) ts = args_mapped bodies program are scope first params (k + 1) more ts

-- ---- statements

pub operand_mapped : (bodies : Bodies) (program : List FunctionNode) → AreBodies bodies program → (scope : Scope) (value : Option ExprNode) (ts : List SourceTask)
    → operand_tasks (flat_value bodies program scope value) (tasks_at bodies program ts) ≡ tasks_at bodies program (source.operand_tasks program scope value ts)
operand_mapped bodies program are scope None ts = refl
operand_mapped bodies program are scope (Some e) ts = value_mapped bodies program are scope e ts

pub assigned_mapped : (bodies : Bodies) (program : List FunctionNode) → AreBodies bodies program → (scope : Scope) (op : AssignOp) (unsigned : Bool) (old : SourceTask) (value : Option ExprNode) (ts : List SourceTask)
    → assigned_tasks op unsigned (task_at bodies program old) (operand_tasks (flat_value bodies program scope value)) (tasks_at bodies program ts)
    ≡ tasks_at bodies program (source.assigned_tasks op unsigned old (source.operand_tasks program scope value) ts)
assigned_mapped bodies program are scope Set unsigned old value ts = operand_mapped bodies program are scope value ts
assigned_mapped bodies program are scope (With op) unsigned old value ts = ap (λ us. task_at bodies program old ∷ us) (operand_mapped bodies program are scope value (task.Binary op unsigned ∷ ts))
assigned_mapped bodies program are scope Up unsigned old value ts = ap (λ us. task_at bodies program old ∷ us) (operand_mapped bodies program are scope value _)
assigned_mapped bodies program are scope Down unsigned old value ts = ap (λ us. task_at bodies program old ∷ us) (operand_mapped bodies program are scope value _)

pub given_mapped : (bodies : Bodies) (program : List FunctionNode) (gives : Gives) (ts : List SourceTask)
    → given_tasks gives (tasks_at bodies program ts) ≡ tasks_at bodies program (source.given_tasks gives ts)
given_mapped bodies program Nothing ts = refl
given_mapped bodies program (Value elem) ts = refl

pub return_mapped : (bodies : Bodies) (program : List FunctionNode) → AreBodies bodies program → (scope : Scope) (value : Option ExprNode) (ts : List SourceTask)
    → return_tasks scope.function.gives (flat_value bodies program scope value) (tasks_at bodies program ts) ≡ tasks_at bodies program (source.return_tasks program scope value ts)
return_mapped bodies program are scope None ts = refl
return_mapped bodies program are scope (Some e) ts =
    ap (value_tasks (flat_expr bodies program scope e)) (given_mapped bodies program scope.function.gives (task.Return ∷ ts))
    ∙ value_mapped bodies program are scope e (source.given_tasks scope.function.gives (task.Return ∷ ts))

pub declared_mapped : (bodies : Bodies) (program : List FunctionNode) → AreBodies bodies program → (scope : Scope) (variable : ℕ) (elem : Elem) (value : Option ExprNode) (ts : List SourceTask)
    → declared_tasks variable elem (flat_value bodies program scope value) (tasks_at bodies program ts) ≡ tasks_at bodies program (source.declared_tasks program scope variable elem value ts)
declared_mapped bodies program are scope variable elem None ts = refl
declared_mapped bodies program are scope variable elem (Some e) ts = ap (λ us. task.Clear variable ∷ us) (value_mapped bodies program are scope e (task.Assign variable elem ∷ ts))

-- where a loop is entered
pub entered_mapped : (bodies : Bodies) (program : List FunctionNode) (scope : Scope) (test : Option ExprNode) (step body : StmtNode) (ts : List SourceTask)
    → task.Enter (loop_of (flat_value bodies program scope test) (flat_stmt bodies program scope step) (flat_stmt bodies program scope body)) ∷ tasks_at bodies program ts
    ≡ tasks_at bodies program (task.Enter (source.loop_in scope test step body) ∷ ts)
entered_mapped bodies program scope None step body ts = refl
entered_mapped bodies program scope (Some e) step body ts = refl

abbrev mutual
  pub stmt_mapped : (bodies : Bodies) (program : List FunctionNode) → AreBodies bodies program → (scope : Scope) (s : StmtNode) (ts : List SourceTask)
      → stmt_tasks (flat_stmt bodies program scope s) (tasks_at bodies program ts) ≡ tasks_at bodies program (source.stmt_tasks program scope s ts)
  stmt_mapped bodies program are scope (DeclareNode variable elem value) ts = declared_mapped bodies program are scope (variable_in scope variable) elem value ts
  stmt_mapped bodies program are scope (LocalArrayNode array count) ts = refl
  stmt_mapped bodies program are scope (SetVariableNode variable elem op unsigned value) ts =
      assigned_mapped bodies program are scope op unsigned (task.Variable (variable_in scope variable)) value (task.Assign (variable_in scope variable) elem ∷ ts)
  stmt_mapped bodies program are scope (SetElementNode array elem place op unsigned value pos) ts =
      ap (value_tasks (flat_expr bodies program scope place)) (assigned_mapped bodies program are scope op unsigned (task.Reread (array_in scope array) pos) value (task.Store (array_in scope array) pos ∷ ts))
      ∙ value_mapped bodies program are scope place _
  stmt_mapped bodies program are scope (CallStmtNode call) ts = value_mapped bodies program are scope call (task.Discard ∷ ts)
  stmt_mapped bodies program are scope (BarrierNode site) ts = refl
  stmt_mapped bodies program are scope (IfNode test one) ts = value_mapped bodies program are scope test (task.Branch (record { scope = scope; stmt = one }) None ∷ ts)
  stmt_mapped bodies program are scope (IfElseNode test one other) ts =
      value_mapped bodies program are scope test (task.Branch (record { scope = scope; stmt = one }) (Some (record { scope = scope; stmt = other })) ∷ ts)
  stmt_mapped bodies program are scope (WhileNode test body) ts = refl
  stmt_mapped bodies program are scope (DoNode body test) ts = refl
  stmt_mapped bodies program are scope (ForNode first test step body) ts =
      ap (stmts_tasks (flat_stmts bodies program scope first)) (entered_mapped bodies program scope test (BlockNode step) body ts)
      ∙ stmts_mapped bodies program are scope first _
  stmt_mapped bodies program are scope BreakNode ts = refl
  stmt_mapped bodies program are scope ContinueNode ts = refl
  stmt_mapped bodies program are scope (ReturnNode value) ts = return_mapped bodies program are scope value ts
  stmt_mapped bodies program are scope (BlockNode items) ts = stmts_mapped bodies program are scope items ts
  stmt_mapped bodies program are scope EmptyNode ts = refl

  pub stmts_mapped : (bodies : Bodies) (program : List FunctionNode) → AreBodies bodies program → (scope : Scope) (ss : StmtNodes) (ts : List SourceTask)
      → stmts_tasks (flat_stmts bodies program scope ss) (tasks_at bodies program ts) ≡ tasks_at bodies program (source.stmts_tasks program scope ss ts)
  stmts_mapped bodies program are scope NoStmts ts = refl
  stmts_mapped bodies program are scope (AndStmt s ss) ts =
      ap (stmt_tasks (flat_stmt bodies program scope s)) (stmts_mapped bodies program are scope ss ts)
      ∙ stmt_mapped bodies program are scope s (source.stmts_tasks program scope ss ts)
