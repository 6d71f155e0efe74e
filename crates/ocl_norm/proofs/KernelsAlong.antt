-- A proper kernel and its normal form go along as a whole.
use Rattle.std.proofs.Common.{ℕ, suc, ◌<◌, Bool, false, List, ◌∷◌, refl, arith}
use Rattle.vx_base.specs.declared.types.Elem.{Elem}
use Rattle.vx_base.specs.declared.types.Pos.{Pos}
use Rattle.item_settings.specs.Settings.{Setting}
use Rattle.ocl_ast.specs.declared.exprs.BinOp.TheVariants.{Add, Sub}
use Rattle.ocl_ast.specs.declared.stmts.AssignOp.{AssignOp}
use Rattle.ocl_ast.specs.declared.stmts.AssignOp.TheVariants as assign
use Rattle.ocl_ast.specs.declared.exprs.BinOp.{BinOp}
use Rattle.ocl_ast.specs.declared.units.Param.{Param}
use Rattle.ocl_program.specs.declared.exprs.ArrayRef.{ArrayRef}
use Rattle.ocl_program.specs.declared.functions.LocalArray.{LocalArray}
use Rattle.task_machine.specs.declared.tasks.Task.TheVariants as task
use Rattle.ocl_inline.specs.FlatTasks.{value_tasks, operand_tasks, stmt_tasks, stmts_tasks}
use Rattle.ocl_inline.specs.Trees.{FlatValue, NoFlat, SomeFlat, FlatExpr, NumberFlat, VariableFlat, UnaryFlat, BinaryFlat, BothFlat, EitherFlat, ChooseFlat, CastFlat, LoadFlat, CallFlat, LostFlat, BuiltinFlat, ParenFlat, FlatArgs, NoFlatArgs, NumberArg, NamedArg, FlatStmt, DeclareFlat, LocalArrayFlat, SetVariableFlat, SetElementFlat, CallStmtFlat, BarrierFlat, IfFlat, IfElseFlat, WhileFlat, DoFlat, ForFlat, BreakFlat, ContinueFlat, ReturnFlat, BlockFlat, EmptyFlat, FlatStmts, NoFlats, AndFlat}
use Rattle.ocl_norm.specs.Normal.{calls, value_ops, right_ops, right_calls, right_branches, pair_ops, stmt_ops, stmts_ops}
use Rattle.ocl_norm.specs.Operators.{binary_ops}
use Rattle.kir.specs.Trees.{NumberOf, Set, Fit, AndOp}
use Rattle.kir.specs.Numbered.{GivesWords}
use Rattle.ocl_inline.specs.Proper.{HasElem, IsWritten}
use Rattle.ocl_norm.proofs.ProperParts.{ProperArgs, ProperExpr, ProperStmt, ProperStmts, ProperValue}
use Rattle.ocl_norm.specs.Standings.{Named, Made, standing, right_standing, operand_at}
use Rattle.ocl_norm.proofs.AccessesAlong.{Accesses, Changes}
use Rattle.ocl_norm.proofs.BuiltinsAlong.{ArgsGive, builtin_goes}
use Rattle.ocl_norm.proofs.CallsAlong.{ArgsGo, no_args_go, number_arg_goes, call_goes}
use Rattle.ocl_norm.proofs.ChoicesAlong.{ValueGoes, both_goes, either_goes, choose_goes}
use Rattle.ocl_norm.proofs.ElementsAlong.{load_goes, set_element_acts, change_element_acts}
use Rattle.ocl_norm.proofs.LoopsAlong.{TestGoes, while_acts, for_acts, do_acts}
use Rattle.ocl_norm.proofs.Skips.{stmts_skip, skips_one, skips_on, value_skips}
use Rattle.ocl_norm.proofs.StatementsAlong.{StmtGoes, StmtsGo, nothing_acts, acts_on, assigned_acts, clear_acts, call_acts, barrier_acts, if_acts, if_else_acts, break_acts, continue_acts, return_nothing_acts, return_acts}
use Rattle.ocl_norm.proofs.ValuesAlong.{Gives, IsStanding, number_gives, variable_gives, unary_gives, cast_gives, binary_gives}

-- what an item's setting says of a kernel's arrays and of what it learns
pub record Knows (at : Setting) (params : List Param) (arrays : List LocalArray) : Type 0 where
  pub words : GivesWords at
  pub accesses : (array : ArrayRef) (elem : Elem) → HasElem params arrays array elem → Accesses at array elem
  pub changes : (array : ArrayRef) → IsWritten params array → Changes at array

-- ---- where values stand

pub stands : (params : List Param) (arrays : List LocalArray) (count : ℕ) (e : FlatExpr) → ProperExpr params arrays count e → IsStanding count (standing e)
stands params arrays count (NumberFlat n unsigned) proper = tt
stands params arrays count (VariableFlat k) proper = proper
stands params arrays count (UnaryFlat op part) proper = tt
stands params arrays count (BinaryFlat op unsigned left right) proper = tt
stands params arrays count (BothFlat left right) proper = tt
stands params arrays count (EitherFlat left right) proper = tt
stands params arrays count (ChooseFlat unsigned test one other) proper = tt
stands params arrays count (CastFlat elem part) proper = tt
stands params arrays count (LoadFlat array elem place pos) proper = tt
stands params arrays count (CallFlat args body) proper = tt
stands params arrays count (LostFlat args) proper = tt
stands params arrays count (BuiltinFlat which unsigned args) proper = tt
stands params arrays count (ParenFlat part) proper = stands params arrays count part proper

pub right_stands : (params : List Param) (arrays : List LocalArray) (count : ℕ) (value : FlatValue) → ProperValue params arrays count value → IsStanding count (right_standing value)
right_stands params arrays count NoFlat proper = tt
right_stands params arrays count (SomeFlat e) proper = stands params arrays count e proper

-- the right side of an assignment
abbrev RightGives : Setting → ℕ → FlatValue → Type 0
RightGives at count value = Gives at count (operand_tasks value) (right_ops value) (right_standing value) (right_calls value)

-- ---- assignments

combined_goes : (at : Setting) (count : ℕ) (op : BinOp) (unsigned : Bool) (x : ℕ) (elem : Elem) (value : FlatValue) → x < count → IsStanding count (right_standing value)
    → RightGives at count value → StmtGoes at count (SetVariableFlat x elem (assign.With op) unsigned value)
combined_goes at count op unsigned x elem value below stands gives =
    assigned_acts at count x elem (λ ts. task.Variable x ∷ operand_tasks value (task.Binary op unsigned ∷ ts))
    (pair_ops (λ d c. c) (Named x) (right_ops value) (right_standing value) (right_calls value) (binary_ops op unsigned)) Made (right_calls value) below
    (binary_gives at count op unsigned (λ ts. task.Variable x ∷ ts) (λ d c. c) (Named x) false (operand_tasks value) (right_ops value) (right_standing value) (right_calls value)
    below stands (variable_gives at count x below) gives)

set_variable_goes : (at : Setting) (count : ℕ) (op : AssignOp) (unsigned : Bool) (x : ℕ) (elem : Elem) (value : FlatValue) → x < count → IsStanding count (right_standing value)
    → RightGives at count value → StmtGoes at count (SetVariableFlat x elem op unsigned value)
set_variable_goes at count assign.Set unsigned x elem value below stands gives =
    assigned_acts at count x elem (operand_tasks value) (right_ops value) (right_standing value) (right_calls value) below gives
set_variable_goes at count (assign.With op) unsigned x elem value below stands gives = combined_goes at count op unsigned x elem value below stands gives
set_variable_goes at count assign.Up unsigned x elem value below stands gives = combined_goes at count Add unsigned x elem value below stands gives
set_variable_goes at count assign.Down unsigned x elem value below stands gives = combined_goes at count Sub unsigned x elem value below stands gives

changed_goes : (at : Setting) (count : ℕ) (op : BinOp) (unsigned : Bool) (array : ArrayRef) (elem : Elem) (place : FlatExpr) (value : FlatValue) (pos : Pos) → Accesses at array elem
    → Changes at array → IsStanding count (standing place) → ValueGoes at count place → RightGives at count value
    → StmtGoes at count (SetElementFlat array elem place (assign.With op) unsigned value pos)
changed_goes at count op unsigned array elem place value pos accesses changes stands gives gives' =
    change_element_acts at count op unsigned array elem pos (value_tasks place) (value_ops place) (standing place) (calls place) (operand_tasks value) (right_ops value)
    (right_standing value) (right_calls value) (right_branches value) accesses changes stands gives gives'

set_element_goes : (at : Setting) (count : ℕ) (op : AssignOp) (unsigned : Bool) (array : ArrayRef) (elem : Elem) (place : FlatExpr) (value : FlatValue) (pos : Pos) → Accesses at array elem
    → Changes at array → IsStanding count (standing place) → ValueGoes at count place → RightGives at count value
    → StmtGoes at count (SetElementFlat array elem place op unsigned value pos)
set_element_goes at count assign.Set unsigned array elem place value pos accesses changes stands gives gives' =
    set_element_acts at count array elem pos (value_tasks place) (value_ops place) (standing place) (calls place) (operand_tasks value) (right_ops value) (right_standing value)
    (right_calls value) accesses changes stands gives gives'
set_element_goes at count (assign.With op) unsigned array elem place value pos accesses changes stands gives gives' =
    changed_goes at count op unsigned array elem place value pos accesses changes stands gives gives'
set_element_goes at count assign.Up unsigned array elem place value pos accesses changes stands gives gives' =
    changed_goes at count Add unsigned array elem place value pos accesses changes stands gives gives'
set_element_goes at count assign.Down unsigned array elem place value pos accesses changes stands gives gives' =
    changed_goes at count Sub unsigned array elem place value pos accesses changes stands gives gives'

-- a variable is 0, and then it has a value
declared_goes : (at : Setting) (count : ℕ) (x : ℕ) (elem : Elem) (e : FlatExpr) → x < count → ValueGoes at count e → StmtGoes at count (DeclareFlat x elem (SomeFlat e))
declared_goes at count x elem e below gives =
    acts_on at count (λ ts. task.Clear x ∷ ts) (λ r c. AndOp (Set x (NumberOf 0)) c) (λ ts. value_tasks e (task.Assign x elem ∷ ts))
    (λ r c. value_ops e (suc r) (AndOp (Fit x elem (operand_at (standing e) (suc r))) c))
    (λ ts. skips_on (value_tasks e (task.Assign x elem ∷ ts)) (task.Assign x elem ∷ ts) ts (value_skips e (task.Assign x elem ∷ ts)) (skips_one (task.Assign x elem) ts refl))
    (clear_acts at count x below) (assigned_acts at count x elem (value_tasks e) (value_ops e) (standing e) (calls e) below gives)

-- ---- the whole

mutual
  pub value_goes : (at : Setting) (params : List Param) (arrays : List LocalArray) (count : ℕ) → Knows at params arrays → (e : FlatExpr) → ProperExpr params arrays count e → ValueGoes at count e
  value_goes at params arrays count knows (NumberFlat n unsigned) proper = number_gives at count n proper
  value_goes at params arrays count knows (VariableFlat k) proper = variable_gives at count k proper
  value_goes at params arrays count knows (UnaryFlat op part) proper =
      unary_gives at count op (value_tasks part) (value_ops part) (standing part) (calls part) (value_goes at params arrays count knows part proper)
  value_goes at params arrays count knows (BinaryFlat op unsigned left right) (proper, proper') =
      binary_gives at count op unsigned (value_tasks left) (value_ops left) (standing left) (calls left) (value_tasks right) (value_ops right) (standing right) (calls right)
      (stands params arrays count left proper) (stands params arrays count right proper')
      (value_goes at params arrays count knows left proper) (value_goes at params arrays count knows right proper')
  value_goes at params arrays count knows (BothFlat left right) (proper, proper') =
      both_goes at count left right (value_goes at params arrays count knows left proper) (value_goes at params arrays count knows right proper')
  value_goes at params arrays count knows (EitherFlat left right) (proper, proper') =
      either_goes at count left right (value_goes at params arrays count knows left proper) (value_goes at params arrays count knows right proper')
  value_goes at params arrays count knows (ChooseFlat unsigned test one other) (proper, proper', proper'') =
      choose_goes at count unsigned test one other (value_goes at params arrays count knows test proper) (value_goes at params arrays count knows one proper')
      (value_goes at params arrays count knows other proper'')
  value_goes at params arrays count knows (CastFlat elem part) proper =
      cast_gives at count elem (value_tasks part) (value_ops part) (standing part) (calls part) (value_goes at params arrays count knows part proper)
  value_goes at params arrays count knows (LoadFlat array elem place pos) (has, proper) =
      load_goes at count array elem place pos (knows.accesses array elem has) (value_goes at params arrays count knows place proper)
  value_goes at params arrays count knows (CallFlat args body) (proper, proper') =
      call_goes at count args body (args_go at params arrays count knows args proper) (stmts_go at params arrays count knows body proper')
  value_goes at params arrays count knows (LostFlat args) proper = number_gives at count 0 (omega arith)
  value_goes at params arrays count knows (BuiltinFlat which unsigned args) (are_values, proper) =
      builtin_goes at count which unsigned args knows.words are_values (args_give at params arrays count knows args proper)
  value_goes at params arrays count knows (ParenFlat part) proper = value_goes at params arrays count knows part proper

  right_gives : (at : Setting) (params : List Param) (arrays : List LocalArray) (count : ℕ) → Knows at params arrays → (value : FlatValue) → ProperValue params arrays count value → RightGives at count value
  right_gives at params arrays count knows NoFlat proper = number_gives at count 1 (omega arith)
  right_gives at params arrays count knows (SomeFlat e) proper = value_goes at params arrays count knows e proper

  test_goes : (at : Setting) (params : List Param) (arrays : List LocalArray) (count : ℕ) → Knows at params arrays → (value : FlatValue) → ProperValue params arrays count value → TestGoes at count value
  test_goes at params arrays count knows NoFlat proper = tt
  test_goes at params arrays count knows (SomeFlat e) proper = value_goes at params arrays count knows e proper

  args_give : (at : Setting) (params : List Param) (arrays : List LocalArray) (count : ℕ) → Knows at params arrays → (args : FlatArgs) → ProperArgs params arrays count args → ArgsGive at count args
  args_give at params arrays count knows NoFlatArgs proper = tt
  args_give at params arrays count knows (NumberArg e binding more) (proper, bound, propers) =
      (value_goes at params arrays count knows e proper, stands params arrays count e proper, args_give at params arrays count knows more propers)
  args_give at params arrays count knows (NamedArg array more) proper = args_give at params arrays count knows more proper

  args_go : (at : Setting) (params : List Param) (arrays : List LocalArray) (count : ℕ) → Knows at params arrays → (args : FlatArgs) → ProperArgs params arrays count args → ArgsGo at count args
  args_go at params arrays count knows NoFlatArgs proper = no_args_go at count
  args_go at params arrays count knows (NumberArg e binding more) (proper, bound, propers) =
      number_arg_goes at count e binding more bound (value_goes at params arrays count knows e proper) (args_go at params arrays count knows more propers)
  args_go at params arrays count knows (NamedArg array more) proper = args_go at params arrays count knows more proper

  pub stmt_goes : (at : Setting) (params : List Param) (arrays : List LocalArray) (count : ℕ) → Knows at params arrays → (s : FlatStmt) → ProperStmt params arrays count s → StmtGoes at count s
  stmt_goes at params arrays count knows (DeclareFlat x elem NoFlat) (below, proper) = clear_acts at count x below
  stmt_goes at params arrays count knows (DeclareFlat x elem (SomeFlat e)) (below, proper) = declared_goes at count x elem e below (value_goes at params arrays count knows e proper)
  stmt_goes at params arrays count knows (LocalArrayFlat array size) proper = nothing_acts at count
  stmt_goes at params arrays count knows (SetVariableFlat x elem op unsigned value) (below, proper) =
      set_variable_goes at count op unsigned x elem value below (right_stands params arrays count value proper) (right_gives at params arrays count knows value proper)
  stmt_goes at params arrays count knows (SetElementFlat array elem place op unsigned value pos) (has, written, proper, proper') =
      set_element_goes at count op unsigned array elem place value pos (knows.accesses array elem has) (knows.changes array written) (stands params arrays count place proper)
      (value_goes at params arrays count knows place proper) (right_gives at params arrays count knows value proper')
  stmt_goes at params arrays count knows (CallStmtFlat call) proper = call_acts at count call (value_goes at params arrays count knows call proper)
  stmt_goes at params arrays count knows (BarrierFlat site) proper = barrier_acts at count site
  stmt_goes at params arrays count knows (IfFlat test one) (proper, proper') =
      if_acts at count test one (value_goes at params arrays count knows test proper) (stmt_goes at params arrays count knows one proper')
  stmt_goes at params arrays count knows (IfElseFlat test one other) (proper, proper', proper'') =
      if_else_acts at count test one other (value_goes at params arrays count knows test proper) (stmt_goes at params arrays count knows one proper')
      (stmt_goes at params arrays count knows other proper'')
  stmt_goes at params arrays count knows (WhileFlat test body) (proper, proper') =
      while_acts at count test body (value_goes at params arrays count knows test proper) (stmt_goes at params arrays count knows body proper')
  stmt_goes at params arrays count knows (DoFlat body test) (proper, proper') =
      do_acts at count body test (stmt_goes at params arrays count knows body proper) (value_goes at params arrays count knows test proper')
  stmt_goes at params arrays count knows (ForFlat first test st body) (proper, proper', proper'', proper''') =
      for_acts at count first test st body (stmts_go at params arrays count knows first proper) (test_goes at params arrays count knows test proper')
      (stmts_go at params arrays count knows st proper'') (stmt_goes at params arrays count knows body proper''')
  stmt_goes at params arrays count knows BreakFlat proper = break_acts at count
  stmt_goes at params arrays count knows ContinueFlat proper = continue_acts at count
  stmt_goes at params arrays count knows (ReturnFlat giving NoFlat) proper = return_nothing_acts at count giving
  stmt_goes at params arrays count knows (ReturnFlat giving (SomeFlat e)) proper = return_acts at count giving e (value_goes at params arrays count knows e proper)
  stmt_goes at params arrays count knows (BlockFlat items) proper = stmts_go at params arrays count knows items proper
  stmt_goes at params arrays count knows EmptyFlat proper = nothing_acts at count

  pub stmts_go : (at : Setting) (params : List Param) (arrays : List LocalArray) (count : ℕ) → Knows at params arrays → (ss : FlatStmts) → ProperStmts params arrays count ss → StmtsGo at count ss
  stmts_go at params arrays count knows NoFlats proper = nothing_acts at count
  stmts_go at params arrays count knows (AndFlat s ss) (proper, propers) =
      acts_on at count (stmt_tasks s) (stmt_ops s) (stmts_tasks ss) (stmts_ops ss) (stmts_skip ss) (stmt_goes at params arrays count knows s proper)
      (stmts_go at params arrays count knows ss propers)
