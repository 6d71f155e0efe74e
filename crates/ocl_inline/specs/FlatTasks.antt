-- How a flat kernel becomes tasks of the machine: expressions and statements from left to right.
use Rattle.std.specs.Prelude.{ℕ, Bool, List, ◌∷◌, None, Some}
use Rattle.vx_base.specs.declared.types.Elem.{Elem}
use Rattle.ocl_ast.specs.declared.exprs.BinOp.{BinOp}
use Rattle.ocl_ast.specs.declared.exprs.BinOp.TheVariants.{Add, Sub}
use Rattle.ocl_ast.specs.declared.stmts.AssignOp.{AssignOp}
use Rattle.ocl_ast.specs.declared.stmts.AssignOp.TheVariants.{Set, With, Up, Down}
use Rattle.ocl_ast.specs.declared.units.Gives.{Gives}
use Rattle.ocl_ast.specs.declared.units.Gives.TheVariants.{Nothing, Value}
use Rattle.task_machine.specs.declared.tasks.Task.TheVariants as task
use Rattle.task_machine.specs.declared.tasks.Task.{Task}
use Rattle.task_machine.specs.Loops.{Loop}
use Rattle.task_machine.specs.Tasks.{Parts}
use Rattle.ocl_inline.specs.declared.trees.Binding.{Binding}
use Rattle.ocl_inline.specs.declared.trees.Binding.TheVariants.{Variable as ToVariable, Dropped}
use Rattle.ocl_inline.specs.Trees.{FlatValue, NoFlat, SomeFlat, value_of, FlatExpr, NumberFlat, VariableFlat, UnaryFlat, BinaryFlat, BothFlat, EitherFlat, ChooseFlat, CastFlat, LoadFlat, CallFlat, LostFlat, BuiltinFlat, ParenFlat, FlatArgs, NoFlatArgs, NumberArg, NamedArg, FlatStmt, DeclareFlat, LocalArrayFlat, SetVariableFlat, SetElementFlat, CallStmtFlat, BarrierFlat, IfFlat, IfElseFlat, WhileFlat, DoFlat, ForFlat, BreakFlat, ContinueFlat, ReturnFlat, BlockFlat, EmptyFlat, FlatStmts, NoFlats, AndFlat}

abbrev pub FlatTask : Type 0
FlatTask = Task FlatExpr FlatStmt

abbrev pub FlatLoop : Type 0
FlatLoop = Loop FlatExpr FlatStmt

-- what is done with the value of an argument
abbrev pub bound_to : Binding → FlatTask
bound_to (ToVariable variable elem) = task.Assign variable elem
bound_to Dropped = task.Discard

abbrev mutual
  -- The value of an expression onto the stack, and then the rest.
  pub value_tasks : FlatExpr → List FlatTask → List FlatTask
  value_tasks (NumberFlat value unsigned) ts = task.Number value ∷ ts
  value_tasks (VariableFlat variable) ts = task.Variable variable ∷ ts
  value_tasks (UnaryFlat op part) ts = value_tasks part (task.Unary op ∷ ts)
  value_tasks (BinaryFlat op unsigned left right) ts = value_tasks left (value_tasks right (task.Binary op unsigned ∷ ts))
  value_tasks (BothFlat left right) ts = value_tasks left (task.AndThen right ∷ ts)
  value_tasks (EitherFlat left right) ts = value_tasks left (task.OrElse right ∷ ts)
  value_tasks (ChooseFlat unsigned test one other) ts = value_tasks test (task.Choose one other ∷ ts)
  value_tasks (CastFlat elem part) ts = value_tasks part (task.Fit elem ∷ ts)
  value_tasks (LoadFlat array elem place pos) ts = value_tasks place (task.Load array pos ∷ ts)
  value_tasks (CallFlat args body) ts = args_tasks args (task.Invoke (BlockFlat body) ∷ ts)
  value_tasks (LostFlat args) ts = task.Number 0 ∷ ts
  value_tasks (BuiltinFlat which unsigned args) ts = values_tasks args (task.Call which unsigned ∷ ts)
  value_tasks (ParenFlat part) ts = value_tasks part ts

  -- the values of arguments in order
  pub values_tasks : FlatArgs → List FlatTask → List FlatTask
  values_tasks NoFlatArgs ts = ts
  values_tasks (NumberArg e binding more) ts = value_tasks e (values_tasks more ts)
  values_tasks (NamedArg array more) ts = values_tasks more ts

  -- each argument's value, bound before the next one is evaluated
  pub args_tasks : FlatArgs → List FlatTask → List FlatTask
  args_tasks NoFlatArgs ts = ts
  args_tasks (NumberArg e binding more) ts = value_tasks e (bound_to binding ∷ args_tasks more ts)
  args_tasks (NamedArg array more) ts = args_tasks more ts

-- the right side of an assignment; of `++` and `--` it is 1
abbrev pub operand_tasks : FlatValue → List FlatTask → List FlatTask
operand_tasks NoFlat ts = task.Number 1 ∷ ts
operand_tasks (SomeFlat e) ts = value_tasks e ts

-- the value of an operator on what `old` has and the right side
abbrev pub combined_tasks : BinOp → Bool → FlatTask → (List FlatTask → List FlatTask) → List FlatTask → List FlatTask
combined_tasks op unsigned old operand ts = old ∷ operand (task.Binary op unsigned ∷ ts)

-- The new value of a target, where `old` has its value before: that of `=` does not look at it.
abbrev pub assigned_tasks : AssignOp → Bool → FlatTask → (List FlatTask → List FlatTask) → List FlatTask → List FlatTask
assigned_tasks Set unsigned old operand ts = operand ts
assigned_tasks (With op) unsigned old operand ts = combined_tasks op unsigned old operand ts
assigned_tasks Up unsigned old operand ts = combined_tasks Add unsigned old operand ts
assigned_tasks Down unsigned old operand ts = combined_tasks Sub unsigned old operand ts

-- a value that a function gives back
abbrev pub given_tasks : Gives → List FlatTask → List FlatTask
given_tasks Nothing ts = ts
given_tasks (Value elem) ts = task.Fit elem ∷ ts

abbrev pub return_tasks : Gives → FlatValue → List FlatTask → List FlatTask
return_tasks gives NoFlat ts = task.Number 0 ∷ task.Return ∷ ts
return_tasks gives (SomeFlat e) ts = value_tasks e (given_tasks gives (task.Return ∷ ts))

-- a variable is 0, and then it has the value that is written
abbrev pub declared_tasks : ℕ → Elem → FlatValue → List FlatTask → List FlatTask
declared_tasks variable elem NoFlat ts = task.Clear variable ∷ ts
declared_tasks variable elem (SomeFlat e) ts = task.Clear variable ∷ value_tasks e (task.Assign variable elem ∷ ts)

-- the loop with these parts
abbrev pub loop_of : FlatValue → FlatStmt → FlatStmt → FlatLoop
loop_of test step body = record { test = value_of test; step = step; body = body }

abbrev mutual
  -- The tasks of a statement, and then the rest.
  pub stmt_tasks : FlatStmt → List FlatTask → List FlatTask
  stmt_tasks (DeclareFlat variable elem value) ts = declared_tasks variable elem value ts
  stmt_tasks (LocalArrayFlat array count) ts = ts
  stmt_tasks (SetVariableFlat variable elem op unsigned value) ts =
      assigned_tasks op unsigned (task.Variable variable) (operand_tasks value) (task.Assign variable elem ∷ ts)
  stmt_tasks (SetElementFlat array elem place op unsigned value pos) ts =
      value_tasks place (assigned_tasks op unsigned (task.Reread array pos) (operand_tasks value) (task.Store array pos ∷ ts))
  stmt_tasks (CallStmtFlat call) ts = value_tasks call (task.Discard ∷ ts)
  stmt_tasks (BarrierFlat site) ts = task.Wait site ∷ ts
  stmt_tasks (IfFlat test one) ts = value_tasks test (task.Branch one None ∷ ts)
  stmt_tasks (IfElseFlat test one other) ts = value_tasks test (task.Branch one (Some other) ∷ ts)
  stmt_tasks (WhileFlat test body) ts = task.Enter (loop_of (SomeFlat test) (BlockFlat NoFlats) body) ∷ ts
  stmt_tasks (DoFlat body test) ts = task.EnterTurn (loop_of (SomeFlat test) (BlockFlat NoFlats) body) ∷ ts
  stmt_tasks (ForFlat first test step body) ts = stmts_tasks first (task.Enter (loop_of test (BlockFlat step) body) ∷ ts)
  stmt_tasks BreakFlat ts = task.Break ∷ ts
  stmt_tasks ContinueFlat ts = task.Continue ∷ ts
  stmt_tasks (ReturnFlat gives value) ts = return_tasks gives value ts
  stmt_tasks (BlockFlat items) ts = stmts_tasks items ts
  stmt_tasks EmptyFlat ts = ts

  pub stmts_tasks : FlatStmts → List FlatTask → List FlatTask
  stmts_tasks NoFlats ts = ts
  stmts_tasks (AndFlat s ss) ts = stmt_tasks s (stmts_tasks ss ts)

-- the flat kernel as a form for the machine
abbrev pub flat_parts : Parts FlatExpr FlatStmt
flat_parts = record { value = value_tasks; body = stmt_tasks }
