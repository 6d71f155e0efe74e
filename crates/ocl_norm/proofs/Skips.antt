-- A jump leaves the tasks of expressions and statements behind, and operations.
use Rattle.std.proofs.Common.{◌≡◌, ℕ, List, ◌∷◌, refl, ◌∙◌, Bool, None, Some}
use Rattle.vx_base.specs.declared.types.Elem.{Elem}
use Rattle.ocl_ast.specs.declared.exprs.BinOp.{BinOp}
use Rattle.ocl_ast.specs.declared.stmts.AssignOp.{AssignOp}
use Rattle.ocl_ast.specs.declared.exprs.BinOp.TheVariants.{Add, Sub}
use Rattle.ocl_ast.specs.declared.stmts.AssignOp.TheVariants as assign
use Rattle.ocl_ast.specs.declared.units.Gives.{Gives}
use Rattle.ocl_ast.specs.declared.units.Gives.TheVariants.{Nothing, Value}
use Rattle.task_machine.specs.Tasks as flat
use Rattle.task_machine.specs.Tasks.{marker_of}
use Rattle.task_machine.specs.declared.tasks.Marker.TheVariants.{Plain}
use Rattle.task_machine.specs.declared.tasks.Task.TheVariants as task
use Rattle.task_machine.proofs.JumpLaws.{left_at, continued_at, returned_at}
use Rattle.kir.specs.Machine.{Task, ops_tasks, broken, continued, returned}
use Rattle.kir.specs.Trees.{Ops, NoOps, AndOp}
use Rattle.ocl_inline.specs.declared.trees.Binding.{Binding}
use Rattle.ocl_inline.specs.declared.trees.Binding.TheVariants.{Variable as ToVariable, Dropped}
use Rattle.ocl_inline.specs.FlatTasks.{FlatTask, value_tasks, values_tasks, args_tasks, operand_tasks, assigned_tasks, given_tasks, bound_to, loop_of, stmt_tasks, stmts_tasks}
use Rattle.ocl_inline.specs.Trees.{FlatValue, NoFlat, SomeFlat, FlatExpr, NumberFlat, VariableFlat, UnaryFlat, BinaryFlat, BothFlat, EitherFlat, ChooseFlat, CastFlat, LoadFlat, CallFlat, LostFlat, BuiltinFlat, ParenFlat, FlatArgs, NoFlatArgs, NumberArg, NamedArg, FlatStmt, DeclareFlat, LocalArrayFlat, SetVariableFlat, SetElementFlat, CallStmtFlat, BarrierFlat, IfFlat, IfElseFlat, WhileFlat, DoFlat, ForFlat, BreakFlat, ContinueFlat, ReturnFlat, BlockFlat, EmptyFlat, FlatStmts, NoFlats, AndFlat}
use Rattle.ocl_norm.proofs.Relations.{FlatState}

-- a jump from these tasks on leads where it leads from those on
pub record Skips (before after : List FlatTask) : Type 0 where
  pub left : (s : FlatState) → flat.left before s ≡ flat.left after s
  pub continued : (s : FlatState) → flat.continued before s ≡ flat.continued after s
  pub returned : (s : FlatState) → flat.returned before s ≡ flat.returned after s

pub skips_none : (ts : List FlatTask) → Skips ts ts
skips_none ts = record { left = λ s. refl; continued = λ s. refl; returned = λ s. refl }

pub skips_on : (ts ts' ts'' : List FlatTask) → Skips ts ts' → Skips ts' ts'' → Skips ts ts''
skips_on ts ts' ts'' one other = record {
  left = λ s. one.left s ∙ other.left s;
  continued = λ s. one.continued s ∙ other.continued s;
  returned = λ s. one.returned s ∙ other.returned s;
}

pub skips_one : (t : FlatTask) (ts : List FlatTask) → marker_of t ≡ Plain → Skips (t ∷ ts) ts
skips_one t ts e = record { left = λ s. left_at t ts s Plain e; continued = λ s. continued_at t ts s Plain e; returned = λ s. returned_at t ts s Plain e }

-- what puts tasks in front of others that a jump leaves behind
abbrev pub Skipped : (List FlatTask → List FlatTask) → Type 0
Skipped f = (ts : List FlatTask) → Skips (f ts) ts

-- such tasks, and then one more
then_one : (f : List FlatTask → List FlatTask) → Skipped f → (t : FlatTask) → marker_of t ≡ Plain → Skipped (λ ts. f (t ∷ ts))
then_one f skips t e ts = skips_on (f (t ∷ ts)) (t ∷ ts) ts (skips (t ∷ ts)) (skips_one t ts e)

then_more : (f g : List FlatTask → List FlatTask) → Skipped f → Skipped g → Skipped (λ ts. f (g ts))
then_more f g skips skips' ts = skips_on (f (g ts)) (g ts) ts (skips (g ts)) (skips' ts)

binding_skips : (b : Binding) (ts : List FlatTask) → Skips (bound_to b ∷ ts) ts
binding_skips (ToVariable variable elem) ts = skips_one (task.Assign variable elem) ts refl
binding_skips Dropped ts = skips_one task.Discard ts refl

-- ---- expressions

mutual
  pub value_skips : (e : FlatExpr) → Skipped (value_tasks e)
  value_skips (NumberFlat n unsigned) ts = skips_one (task.Number n) ts refl
  value_skips (VariableFlat k) ts = skips_one (task.Variable k) ts refl
  value_skips (UnaryFlat op part) ts = then_one (value_tasks part) (value_skips part) (task.Unary op) refl ts
  value_skips (BinaryFlat op unsigned left right) ts =
      then_one (λ xs. value_tasks left (value_tasks right xs)) (then_more (value_tasks left) (value_tasks right) (value_skips left) (value_skips right))
      (task.Binary op unsigned) refl ts
  value_skips (BothFlat left right) ts = then_one (value_tasks left) (value_skips left) (task.AndThen right) refl ts
  value_skips (EitherFlat left right) ts = then_one (value_tasks left) (value_skips left) (task.OrElse right) refl ts
  value_skips (ChooseFlat unsigned test one other) ts = then_one (value_tasks test) (value_skips test) (task.Choose one other) refl ts
  value_skips (CastFlat elem part) ts = then_one (value_tasks part) (value_skips part) (task.Fit elem) refl ts
  value_skips (LoadFlat array elem place pos) ts = then_one (value_tasks place) (value_skips place) (task.Load array pos) refl ts
  value_skips (CallFlat args body) ts = then_one (args_tasks args) (args_skip args) (task.Invoke (BlockFlat body)) refl ts
  value_skips (LostFlat args) ts = skips_one (task.Number 0) ts refl
  value_skips (BuiltinFlat which unsigned args) ts = then_one (values_tasks args) (values_skip args) (task.Call which unsigned) refl ts
  value_skips (ParenFlat part) ts = value_skips part ts

  values_skip : (args : FlatArgs) → Skipped (values_tasks args)
  values_skip NoFlatArgs ts = skips_none ts
  values_skip (NumberArg e binding more) ts = then_more (value_tasks e) (values_tasks more) (value_skips e) (values_skip more) ts
  values_skip (NamedArg array more) ts = values_skip more ts

  args_skip : (args : FlatArgs) → Skipped (args_tasks args)
  args_skip NoFlatArgs ts = skips_none ts
  args_skip (NumberArg e binding more) ts =
      then_more (value_tasks e) (λ xs. bound_to binding ∷ args_tasks more xs) (value_skips e)
      (λ xs. skips_on (bound_to binding ∷ args_tasks more xs) (args_tasks more xs) xs (binding_skips binding (args_tasks more xs)) (args_skip more xs)) ts
  args_skip (NamedArg array more) ts = args_skip more ts

pub operand_skips : (value : FlatValue) → Skipped (operand_tasks value)
operand_skips NoFlat ts = skips_one (task.Number 1) ts refl
operand_skips (SomeFlat e) ts = value_skips e ts

-- ---- statements

combined_skips : (op : BinOp) (unsigned : Bool) (old : FlatTask) (value : FlatValue) → marker_of old ≡ Plain → Skipped (λ ts. old ∷ operand_tasks value (task.Binary op unsigned ∷ ts))
combined_skips op unsigned old value e ts =
    skips_on (old ∷ operand_tasks value (task.Binary op unsigned ∷ ts)) (operand_tasks value (task.Binary op unsigned ∷ ts)) ts
    (skips_one old (operand_tasks value (task.Binary op unsigned ∷ ts)) e) (then_one (operand_tasks value) (operand_skips value) (task.Binary op unsigned) refl ts)

assigned_skips : (op : AssignOp) (unsigned : Bool) (old : FlatTask) (value : FlatValue) → marker_of old ≡ Plain → Skipped (assigned_tasks op unsigned old (operand_tasks value))
assigned_skips assign.Set unsigned old value e ts = operand_skips value ts
assigned_skips (assign.With op) unsigned old value e ts = combined_skips op unsigned old value e ts
assigned_skips assign.Up unsigned old value e ts = combined_skips Add unsigned old value e ts
assigned_skips assign.Down unsigned old value e ts = combined_skips Sub unsigned old value e ts

given_skips : (gives : Gives) → Skipped (given_tasks gives)
given_skips Nothing ts = skips_none ts
given_skips (Value elem) ts = skips_one (task.Fit elem) ts refl

declared_skips : (variable : ℕ) (elem : Elem) (value : FlatValue) → Skipped (stmt_tasks (DeclareFlat variable elem value))
declared_skips variable elem NoFlat ts = skips_one (task.Clear variable) ts refl
declared_skips variable elem (SomeFlat e) ts =
    skips_on (task.Clear variable ∷ value_tasks e (task.Assign variable elem ∷ ts)) (value_tasks e (task.Assign variable elem ∷ ts)) ts
    (skips_one (task.Clear variable) (value_tasks e (task.Assign variable elem ∷ ts)) refl) (then_one (value_tasks e) (value_skips e) (task.Assign variable elem) refl ts)

return_skips : (gives : Gives) (value : FlatValue) → Skipped (stmt_tasks (ReturnFlat gives value))
return_skips gives NoFlat ts = skips_on (task.Number 0 ∷ task.Return ∷ ts) (task.Return ∷ ts) ts (skips_one (task.Number 0) (task.Return ∷ ts) refl) (skips_one task.Return ts refl)
return_skips gives (SomeFlat e) ts =
    then_one (λ xs. value_tasks e (given_tasks gives xs)) (then_more (value_tasks e) (given_tasks gives) (value_skips e) (given_skips gives)) task.Return refl ts

mutual
  pub stmt_skips : (s : FlatStmt) → Skipped (stmt_tasks s)
  stmt_skips (DeclareFlat variable elem value) ts = declared_skips variable elem value ts
  stmt_skips (LocalArrayFlat array count) ts = skips_none ts
  stmt_skips (SetVariableFlat variable elem op unsigned value) ts =
      then_one (assigned_tasks op unsigned (task.Variable variable) (operand_tasks value)) (assigned_skips op unsigned (task.Variable variable) value refl)
      (task.Assign variable elem) refl ts
  stmt_skips (SetElementFlat array elem place op unsigned value pos) ts =
      then_one (λ xs. value_tasks place (assigned_tasks op unsigned (task.Reread array pos) (operand_tasks value) xs))
      (then_more (value_tasks place) (assigned_tasks op unsigned (task.Reread array pos) (operand_tasks value)) (value_skips place)
      (assigned_skips op unsigned (task.Reread array pos) value refl)) (task.Store array pos) refl ts
  stmt_skips (CallStmtFlat call) ts = then_one (value_tasks call) (value_skips call) task.Discard refl ts
  stmt_skips (BarrierFlat site) ts = skips_one (task.Wait site) ts refl
  stmt_skips (IfFlat test one) ts = then_one (value_tasks test) (value_skips test) (task.Branch one None) refl ts
  stmt_skips (IfElseFlat test one other) ts = then_one (value_tasks test) (value_skips test) (task.Branch one (Some other)) refl ts
  stmt_skips (WhileFlat test body) ts = skips_one (task.Enter (loop_of (SomeFlat test) (BlockFlat NoFlats) body)) ts refl
  stmt_skips (DoFlat body test) ts = skips_one (task.EnterTurn (loop_of (SomeFlat test) (BlockFlat NoFlats) body)) ts refl
  stmt_skips (ForFlat first test step body) ts = then_one (stmts_tasks first) (stmts_skip first) (task.Enter (loop_of test (BlockFlat step) body)) refl ts
  stmt_skips BreakFlat ts = skips_one task.Break ts refl
  stmt_skips ContinueFlat ts = skips_one task.Continue ts refl
  stmt_skips (ReturnFlat gives value) ts = return_skips gives value ts
  stmt_skips (BlockFlat items) ts = stmts_skip items ts
  stmt_skips EmptyFlat ts = skips_none ts

  pub stmts_skip : (ss : FlatStmts) → Skipped (stmts_tasks ss)
  stmts_skip NoFlats ts = skips_none ts
  stmts_skip (AndFlat s ss) ts = then_more (stmt_tasks s) (stmts_tasks ss) (stmt_skips s) (stmts_skip ss) ts

-- ---- operations

pub broken_skips : (ops : Ops) (ts : List Task) (vs : ℕ → ℕ) (ns : List ℕ) → broken (ops_tasks ops ts) vs ns ≡ broken ts vs ns
broken_skips NoOps ts vs ns = refl
broken_skips (AndOp op ops) ts vs ns = broken_skips ops ts vs ns

pub continued_skips : (ops : Ops) (ts : List Task) (vs : ℕ → ℕ) (ns : List ℕ) → continued (ops_tasks ops ts) vs ns ≡ continued ts vs ns
continued_skips NoOps ts vs ns = refl
continued_skips (AndOp op ops) ts vs ns = continued_skips ops ts vs ns

pub returned_skips : (ops : Ops) (ts : List Task) (vs : ℕ → ℕ) (ns : List ℕ) → returned (ops_tasks ops ts) vs ns ≡ returned ts vs ns
returned_skips NoOps ts vs ns = refl
returned_skips (AndOp op ops) ts vs ns = returned_skips ops ts vs ns
