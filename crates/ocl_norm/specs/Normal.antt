-- The normal form of a flat kernel. The operations that follow stand last.
use Rattle.std.specs.Prelude.{ℕ, suc, ◌+◌, Bool, true, false}
use Rattle.vx_base.specs.declared.types.Elem.{Elem}
use Rattle.vx_base.specs.declared.types.Pos.{Pos}
use Rattle.ocl_ast.specs.declared.exprs.BinOp.{BinOp}
use Rattle.ocl_ast.specs.declared.exprs.BinOp.TheVariants.{Add, Sub}
use Rattle.ocl_ast.specs.declared.stmts.AssignOp.{AssignOp}
use Rattle.ocl_ast.specs.declared.stmts.AssignOp.TheVariants as assign
use Rattle.ocl_ast.specs.declared.units.Gives.{Gives}
use Rattle.ocl_ast.specs.declared.units.Gives.TheVariants.{Nothing, Value}
use Rattle.ocl_program.specs.declared.exprs.ArrayRef.{ArrayRef}
use Rattle.ocl_program.specs.declared.exprs.Builtin.{Builtin}
use Rattle.ocl_program.specs.declared.exprs.Builtin.TheVariants.{Min, Max}
use Rattle.kir.specs.Trees.{Operand, VariableOf, NumberOf, Set, Fit, Id, Load, Store, Check, Barrier, If, Loop, Break, Continue, Return, Call, Ops, NoOps, AndOp, KirCode}
use Rattle.ocl_inline.specs.declared.trees.Binding.{Binding}
use Rattle.ocl_inline.specs.declared.trees.Binding.TheVariants.{Variable as ToVariable, Dropped}
use Rattle.ocl_inline.specs.Trees.{FlatValue, NoFlat, SomeFlat, FlatExpr, NumberFlat, VariableFlat, UnaryFlat, BinaryFlat, BothFlat, EitherFlat, ChooseFlat, CastFlat, LoadFlat, CallFlat, LostFlat, BuiltinFlat, ParenFlat, FlatArgs, NoFlatArgs, NumberArg, NamedArg, FlatStmt, DeclareFlat, LocalArrayFlat, SetVariableFlat, SetElementFlat, CallStmtFlat, BarrierFlat, IfFlat, IfElseFlat, WhileFlat, DoFlat, ForFlat, BreakFlat, ContinueFlat, ReturnFlat, BlockFlat, EmptyFlat, FlatStmts, NoFlats, AndFlat, FlatKernel}
pub use Rattle.ocl_norm.specs.Occurrences.{calls, args_call, right_calls, branches, args_branch, right_branches}
use Rattle.ocl_norm.specs.Operators.{truth_ops, unary_ops, binary_ops, one_ops, two_ops}
use Rattle.ocl_norm.specs.Rooms.{stmts_room}
use Rattle.ocl_norm.specs.Standings.{Standing, Named, standing, right_standing, operand_at, copied, held_at, above, settled}

-- ---- two parts, the left one first

-- Operations of a part, from its first variable on and in front of others.
abbrev pub Fragment : Type 0
Fragment = ℕ → Ops → Ops

-- the left value is held while the right part is evaluated, and both are used
abbrev pub pair_ops : Fragment → Standing → Fragment → Standing → Bool → (Operand → Operand → ℕ → Ops → Ops) → Fragment
pair_ops left s right s' calls join d c = left d (copied calls s d (right (above calls s d) (join (held_at calls s d) (operand_at s' (above calls s d)) d c)))

-- ---- parts of statements

-- what is done with the value of an argument
abbrev pub bound_ops : Binding → Operand → Ops → Ops
bound_ops (ToVariable variable elem) a c = AndOp (Fit variable elem a) c
bound_ops Dropped a c = c

-- a load and a store behind their check
abbrev pub load_ops : ArrayRef → Elem → Pos → Operand → ℕ → Ops → Ops
load_ops array elem pos place d c = AndOp (Check array place pos) (AndOp (Load d array elem place) c)

abbrev pub store_ops : ArrayRef → Elem → Pos → Operand → Operand → Ops → Ops
store_ops array elem pos place value c = AndOp (Check array place pos) (AndOp (Store array elem place value) c)

-- a store that need not be checked again if only single operations stand between
abbrev pub restore_ops : Bool → ArrayRef → Elem → Pos → Operand → Operand → Ops → Ops
restore_ops true array elem pos place value c = store_ops array elem pos place value c
restore_ops false array elem pos place value c = AndOp (Store array elem place value) c

-- The new value of a variable, whose value before is the left side of the operator.
abbrev pub combined_variable : BinOp → Bool → ℕ → Elem → Fragment → Standing → Bool → Fragment
combined_variable op unsigned variable elem right s calls d c =
    pair_ops (λ first after. after) (Named variable) right s calls (binary_ops op unsigned) d (AndOp (Fit variable elem (VariableOf d)) c)

abbrev pub assigned_variable : AssignOp → Bool → ℕ → Elem → Fragment → Standing → Bool → Fragment
assigned_variable assign.Set unsigned variable elem right s calls d c = right d (AndOp (Fit variable elem (operand_at s d)) c)
assigned_variable (assign.With op) unsigned variable elem right s calls d c = combined_variable op unsigned variable elem right s calls d c
assigned_variable assign.Up unsigned variable elem right s calls d c = combined_variable Add unsigned variable elem right s calls d c
assigned_variable assign.Down unsigned variable elem right s calls d c = combined_variable Sub unsigned variable elem right s calls d c

-- The new value of the element at `place`, with its value before from the variable t on.
abbrev pub combined_element : BinOp → Bool → ArrayRef → Elem → Pos → Fragment → Standing → Bool → Operand → Fragment
combined_element op unsigned array elem pos right s checks place t c =
    load_ops array elem pos place t
    (right (suc t) (binary_ops op unsigned (VariableOf t) (operand_at s (suc t)) t (restore_ops checks array elem pos place (VariableOf t) c)))

abbrev pub changed_element : BinOp → Bool → ArrayRef → Elem → Pos → Fragment → Standing → Fragment → Standing → Bool → Bool → Fragment
changed_element op unsigned array elem pos place p right s calls checks d c =
    place d (copied calls p d (combined_element op unsigned array elem pos right s checks (held_at calls p d) (above calls p d) c))

abbrev pub assigned_element : AssignOp → Bool → ArrayRef → Elem → Pos → Fragment → Standing → Fragment → Standing → Bool → Bool → Fragment
assigned_element assign.Set unsigned array elem pos place p right s calls checks d c =
    pair_ops place p right s calls (λ a b first after. store_ops array elem pos a b after) d c
assigned_element (assign.With op) unsigned array elem pos place p right s calls checks d c =
    changed_element op unsigned array elem pos place p right s calls checks d c
assigned_element assign.Up unsigned array elem pos place p right s calls checks d c =
    changed_element Add unsigned array elem pos place p right s calls checks d c
assigned_element assign.Down unsigned array elem pos place p right s calls checks d c =
    changed_element Sub unsigned array elem pos place p right s calls checks d c

-- a value that a function gives back
abbrev pub given_ops : Gives → Operand → ℕ → Ops → Ops
given_ops Nothing a result c = AndOp (Set result a) c
given_ops (Value elem) a result c = AndOp (Fit result elem a) c

-- ---- the whole

abbrev mutual
  -- an expression: its value stands where `standing` says, and no variable between the kernel's and the first one changes
  pub value_ops : FlatExpr → Fragment
  value_ops (NumberFlat n unsigned) d c = c
  value_ops (VariableFlat k) d c = c
  value_ops (UnaryFlat op part) d c = value_ops part d (unary_ops op (operand_at (standing part) d) d c)
  value_ops (BinaryFlat op unsigned left right) d c =
      pair_ops (value_ops left) (standing left) (value_ops right) (standing right) (calls right) (binary_ops op unsigned) d c
  value_ops (BothFlat left right) d c =
      value_ops left d (truth_ops (operand_at (standing left) d) d
      (AndOp (If (VariableOf d) (value_ops right (suc d) (truth_ops (operand_at (standing right) (suc d)) d NoOps)) NoOps) c))
  value_ops (EitherFlat left right) d c =
      value_ops left d (truth_ops (operand_at (standing left) d) d
      (AndOp (If (VariableOf d) NoOps (value_ops right (suc d) (truth_ops (operand_at (standing right) (suc d)) d NoOps))) c))
  value_ops (ChooseFlat unsigned test one other) d c =
      value_ops test d (AndOp (If (operand_at (standing test) d) (value_ops one d (settled (standing one) d NoOps)) (value_ops other d (settled (standing other) d NoOps))) c)
  value_ops (CastFlat elem part) d c = value_ops part d (AndOp (Fit d elem (operand_at (standing part) d)) c)
  value_ops (LoadFlat array elem place pos) d c = value_ops place d (load_ops array elem pos (operand_at (standing place) d) d c)
  value_ops (CallFlat args body) d c = args_ops args d (AndOp (Set d (NumberOf 0)) (AndOp (Call (stmts_ops body d NoOps)) c))
  value_ops (LostFlat args) d c = c
  value_ops (BuiltinFlat which unsigned args) d c = builtin_ops which unsigned args d c
  value_ops (ParenFlat part) d c = value_ops part d c

  -- a built-in function: of `clamp` the greater of the first two is taken before the third is evaluated
  pub builtin_ops : Builtin → Bool → FlatArgs → Fragment
  builtin_ops which unsigned (NumberArg x b NoFlatArgs) d c = value_ops x d (one_ops which unsigned (operand_at (standing x) d) d c)
  builtin_ops which unsigned (NumberArg x b (NumberArg y b' NoFlatArgs)) d c =
      pair_ops (value_ops x) (standing x) (value_ops y) (standing y) (calls y) (two_ops which unsigned) d c
  builtin_ops which unsigned (NumberArg x b (NumberArg y b' (NumberArg z b'' more))) d c =
      pair_ops (value_ops x) (standing x) (value_ops y) (standing y) (calls y) (two_ops Max unsigned) d
      (value_ops z (suc d) (two_ops Min unsigned (VariableOf d) (operand_at (standing z) (suc d)) d c))
  builtin_ops which unsigned other d c = AndOp (Id d which (NumberOf 0)) c

  -- each argument's value, bound before the next one is evaluated
  pub args_ops : FlatArgs → Fragment
  args_ops NoFlatArgs d c = c
  args_ops (NumberArg e binding more) d c = value_ops e d (bound_ops binding (operand_at (standing e) d) (args_ops more d c))
  args_ops (NamedArg array more) d c = args_ops more d c

  pub right_ops : FlatValue → Fragment
  right_ops NoFlat d c = c
  right_ops (SomeFlat e) d c = value_ops e d c

  -- a variable is 0, and then it has the value that is written
  pub declared_ops : ℕ → Elem → FlatValue → Fragment
  declared_ops variable elem NoFlat d c = AndOp (Set variable (NumberOf 0)) c
  declared_ops variable elem (SomeFlat e) d c = AndOp (Set variable (NumberOf 0)) (value_ops e d (AndOp (Fit variable elem (operand_at (standing e) d)) c))

  -- the variable `result`, which is 0 at first, has what the call gives back
  pub return_ops : Gives → FlatValue → Fragment
  return_ops gives NoFlat result c = AndOp Return c
  return_ops gives (SomeFlat e) result c = value_ops e (suc result) (given_ops gives (operand_at (standing e) (suc result)) result (AndOp Return c))

  -- a loop: where no test is written it holds
  pub loop_ops : FlatValue → Ops → Ops → ℕ → Ops → Ops
  loop_ops NoFlat body step d c = AndOp (Loop NoOps (NumberOf 1) body step) c
  loop_ops (SomeFlat test) body step d c = AndOp (Loop (value_ops test d NoOps) (operand_at (standing test) d) body step) c

  -- A statement in a call whose result is the variable `result`; those behind it are free.
  pub stmt_ops : FlatStmt → Fragment
  stmt_ops (DeclareFlat variable elem value) result c = declared_ops variable elem value (suc result) c
  stmt_ops (LocalArrayFlat array count) result c = c
  stmt_ops (SetVariableFlat variable elem op unsigned value) result c =
      assigned_variable op unsigned variable elem (right_ops value) (right_standing value) (right_calls value) (suc result) c
  stmt_ops (SetElementFlat array elem place op unsigned value pos) result c =
      assigned_element op unsigned array elem pos (value_ops place) (standing place) (right_ops value) (right_standing value) (right_calls value) (right_branches value) (suc result) c
  stmt_ops (CallStmtFlat call) result c = value_ops call (suc result) c
  stmt_ops (BarrierFlat site) result c = AndOp (Barrier site) c
  stmt_ops (IfFlat test one) result c =
      value_ops test (suc result) (AndOp (If (operand_at (standing test) (suc result)) (stmt_ops one result NoOps) NoOps) c)
  stmt_ops (IfElseFlat test one other) result c =
      value_ops test (suc result) (AndOp (If (operand_at (standing test) (suc result)) (stmt_ops one result NoOps) (stmt_ops other result NoOps)) c)
  stmt_ops (WhileFlat test body) result c =
      AndOp (Loop (value_ops test (suc result) NoOps) (operand_at (standing test) (suc result)) (stmt_ops body result NoOps) NoOps) c
  -- the test of the turn before stands in a variable, which is 1 at first
  stmt_ops (DoFlat body test) result c =
      AndOp (Set (suc result) (NumberOf 1))
      (AndOp (Loop NoOps (VariableOf (suc result)) (stmt_ops body result NoOps) (value_ops test (suc result) (settled (standing test) (suc result) NoOps))) c)
  stmt_ops (ForFlat first test step body) result c =
      stmts_ops first result (loop_ops test (stmt_ops body result NoOps) (stmts_ops step result NoOps) (suc result) c)
  stmt_ops BreakFlat result c = AndOp Break c
  stmt_ops ContinueFlat result c = AndOp Continue c
  stmt_ops (ReturnFlat gives value) result c = return_ops gives value result c
  stmt_ops (BlockFlat items) result c = stmts_ops items result c
  stmt_ops EmptyFlat result c = c

  pub stmts_ops : FlatStmts → Fragment
  stmts_ops NoFlats result c = c
  stmts_ops (AndFlat s ss) result c = stmt_ops s result (stmts_ops ss result c)

-- The kernel: behind its variables stand those that its statements use.
abbrev pub normal_kernel : FlatKernel → KirCode
normal_kernel flat = record {
  params = flat.params;
  arrays = flat.arrays;
  variables = flat.variables + stmts_room flat.body;
  ops = stmts_ops flat.body flat.variables NoOps;
}
