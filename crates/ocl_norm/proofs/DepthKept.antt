-- Branches, loops and calls of the normal form stand within no more others than in the flat kernel.
use Rattle.std.proofs.Common.{ℕ, suc, ◌-◌, ◌≤◌, Bool, true, false, arith}
use Rattle.vx_base.specs.declared.types.Elem.{Elem}
use Rattle.vx_base.specs.declared.types.Pos.{Pos}
use Rattle.ocl_ast.specs.declared.exprs.BinOp.{BinOp}
use Rattle.ocl_ast.specs.declared.exprs.BinOp.TheVariants.{Add, Sub}
use Rattle.ocl_ast.specs.declared.stmts.AssignOp.{AssignOp}
use Rattle.ocl_ast.specs.declared.stmts.AssignOp.TheVariants as assign
use Rattle.ocl_ast.specs.declared.units.Gives.{Gives}
use Rattle.ocl_ast.specs.declared.units.Gives.TheVariants.{Nothing, Value}
use Rattle.ocl_program.specs.declared.exprs.ArrayRef.{ArrayRef}
use Rattle.ocl_program.specs.declared.exprs.Builtin.{Builtin}
use Rattle.ocl_program.specs.declared.exprs.Builtin.TheVariants.{Min, Max}
use Rattle.kir.specs.Measures.{branching, nesting}
use Rattle.kir.specs.Measures as kir
use Rattle.kir.specs.Trees.{Operand, VariableOf, NumberOf, Op, Set, Calculate, Fit, Id, Load, Store, Check, Barrier, If, Loop, Break, Continue, Return, Call, Ops, NoOps, AndOp}
use Rattle.ocl_inline.specs.FlatMeasures.{flat_expr_control, flat_value_control, flat_args_control, flat_stmt_control, flat_control, flat_expr_calls, flat_value_calls, flat_args_calls, flat_stmt_calls, flat_calls}
use Rattle.ocl_inline.specs.Trees.{FlatValue, NoFlat, SomeFlat, FlatExpr, NumberFlat, VariableFlat, UnaryFlat, BinaryFlat, BothFlat, EitherFlat, ChooseFlat, CastFlat, LoadFlat, CallFlat, LostFlat, BuiltinFlat, ParenFlat, FlatArgs, NoFlatArgs, NumberArg, NamedArg, FlatStmt, DeclareFlat, LocalArrayFlat, SetVariableFlat, SetElementFlat, CallStmtFlat, BarrierFlat, IfFlat, IfElseFlat, WhileFlat, DoFlat, ForFlat, BreakFlat, ContinueFlat, ReturnFlat, BlockFlat, EmptyFlat, FlatStmts, NoFlats, AndFlat, FlatKernel}
use Rattle.ocl_inline.specs.declared.trees.Binding.{Binding}
use Rattle.ocl_inline.specs.declared.trees.Binding.TheVariants.{Variable as ToVariable, Dropped}
use Rattle.ocl_norm.specs.Normal.{Fragment, calls, right_calls, right_branches, pair_ops, bound_ops, load_ops, store_ops, restore_ops, combined_variable, assigned_variable, combined_element, changed_element, assigned_element, given_ops, value_ops, builtin_ops, args_ops, right_ops, declared_ops, return_ops, loop_ops, stmt_ops, stmts_ops, normal_kernel}
use Rattle.ocl_norm.specs.Operators.{truth_ops, unary_ops, binary_ops, one_ops, two_ops}
use Rattle.ocl_norm.specs.Standings.{Standing, Named, standing, right_standing, operand_at, copied, held_at, above, settled}
use Rattle.ocl_norm.proofs.InFront.{InFront, truth_in, unary_in, binary_in, one_in, two_in, copied_in, settled_in}

-- Branches and loops stand within at most n, branches too, and calls within at most k.
pub record Within (n k : ℕ) (x : Ops) : Type 0 where
  pub nested : nesting x ≤ n
  pub branched : branching x ≤ n
  pub called : kir.calls x ≤ k

-- ---- operations

pub none_within : (n k : ℕ) → Within n k NoOps
none_within n k = record { nested = omega arith; branched = omega arith; called = omega arith }

-- an operation that holds none
single_within : (n k : ℕ) (op : Op) (x : Ops) → kir.nesting_in op ≤ 0 → kir.branching_in op ≤ 0 → kir.calls_in op ≤ 0 → Within n k x → Within n k (AndOp op x)
single_within n k op x e e' e'' one =
    let a : nesting x ≤ n = one.nested in
    let b : branching x ≤ n = one.branched in
    let c : kir.calls x ≤ k = one.called in
    record { nested = omega arith; branched = omega arith; called = omega arith }

pub front_within : (n k d : ℕ) → InFront (Within n k) d
front_within n k d = record {
  set = λ j a x more. single_within n k (Set j a) x (omega arith) (omega arith) (omega arith);
  calculate = λ j op a b x more. single_within n k (Calculate j op a b) x (omega arith) (omega arith) (omega arith);
  fit = λ j elem a x more. single_within n k (Fit j elem a) x (omega arith) (omega arith) (omega arith);
  id = λ j which a x more. single_within n k (Id j which a) x (omega arith) (omega arith) (omega arith);
}

fewer_within : (n m k j : ℕ) (x : Ops) → m ≤ n → j ≤ k → Within m j x → Within n k x
fewer_within n m k j x le le' one =
    let a : nesting x ≤ m = one.nested in
    let b : branching x ≤ m = one.branched in
    let c : kir.calls x ≤ j = one.called in
    record { nested = omega arith; branched = omega arith; called = omega arith }

if_within : (n k : ℕ) (test : Operand) (one other x : Ops) → 1 ≤ n → Within (n - 1) k one → Within (n - 1) k other → Within n k x → Within n k (AndOp (If test one other) x)
if_within n k test one other x some first second more =
    let a1 : nesting one ≤ n - 1 = first.nested in
    let a2 : nesting other ≤ n - 1 = second.nested in
    let a3 : nesting x ≤ n = more.nested in
    let b1 : branching one ≤ n - 1 = first.branched in
    let b2 : branching other ≤ n - 1 = second.branched in
    let b3 : branching x ≤ n = more.branched in
    let c1 : kir.calls one ≤ k = first.called in
    let c2 : kir.calls other ≤ k = second.called in
    let c3 : kir.calls x ≤ k = more.called in
    record { nested = omega arith; branched = omega arith; called = omega arith }

loop_within : (n k : ℕ) (head : Ops) (test : Operand) (body st x : Ops) → 1 ≤ n → Within (n - 1) k head → Within (n - 1) k body → Within (n - 1) k st → Within n k x
    → Within n k (AndOp (Loop head test body st) x)
loop_within n k head test body st x some first second third more =
    let a1 : nesting head ≤ n - 1 = first.nested in
    let a2 : nesting body ≤ n - 1 = second.nested in
    let a3 : nesting st ≤ n - 1 = third.nested in
    let a4 : nesting x ≤ n = more.nested in
    let b1 : branching head ≤ n - 1 = first.branched in
    let b2 : branching body ≤ n - 1 = second.branched in
    let b3 : branching st ≤ n - 1 = third.branched in
    let b4 : branching x ≤ n = more.branched in
    let c1 : kir.calls head ≤ k = first.called in
    let c2 : kir.calls body ≤ k = second.called in
    let c3 : kir.calls st ≤ k = third.called in
    let c4 : kir.calls x ≤ k = more.called in
    record { nested = omega arith; branched = omega arith; called = omega arith }

call_within : (n k : ℕ) (body x : Ops) → 1 ≤ k → Within n (k - 1) body → Within n k x → Within n k (AndOp (Call body) x)
call_within n k body x some first more =
    let a1 : nesting body ≤ n = first.nested in
    let a2 : nesting x ≤ n = more.nested in
    let b1 : branching body ≤ n = first.branched in
    let b2 : branching x ≤ n = more.branched in
    let c1 : kir.calls body ≤ k - 1 = first.called in
    let c2 : kir.calls x ≤ k = more.called in
    record { nested = omega arith; branched = omega arith; called = omega arith }

-- ---- parts of statements

bound_within : (n k : ℕ) (binding : Binding) (a : Operand) (c : Ops) → Within n k c → Within n k (bound_ops binding a c)
bound_within n k (ToVariable variable elem) a c one = single_within n k (Fit variable elem a) c (omega arith) (omega arith) (omega arith) one
bound_within n k Dropped a c one = one

load_within : (n k : ℕ) (array : ArrayRef) (elem : Elem) (pos : Pos) (place : Operand) (d : ℕ) (c : Ops) → Within n k c → Within n k (load_ops array elem pos place d c)
load_within n k array elem pos place d c one =
    single_within n k (Check array place pos) (AndOp (Load d array elem place) c) (omega arith) (omega arith) (omega arith)
    (single_within n k (Load d array elem place) c (omega arith) (omega arith) (omega arith) one)

store_within : (n k : ℕ) (array : ArrayRef) (elem : Elem) (pos : Pos) (place value : Operand) (c : Ops) → Within n k c → Within n k (store_ops array elem pos place value c)
store_within n k array elem pos place value c one =
    single_within n k (Check array place pos) (AndOp (Store array elem place value) c) (omega arith) (omega arith) (omega arith)
    (single_within n k (Store array elem place value) c (omega arith) (omega arith) (omega arith) one)

restore_within : (n k : ℕ) (checks : Bool) (array : ArrayRef) (elem : Elem) (pos : Pos) (place value : Operand) (c : Ops) → Within n k c
    → Within n k (restore_ops checks array elem pos place value c)
restore_within n k true array elem pos place value c one = store_within n k array elem pos place value c one
restore_within n k false array elem pos place value c one = single_within n k (Store array elem place value) c (omega arith) (omega arith) (omega arith) one

fit_within : (n k variable : ℕ) (elem : Elem) (a : Operand) (c : Ops) → Within n k c → Within n k (AndOp (Fit variable elem a) c)
fit_within n k variable elem a c one = single_within n k (Fit variable elem a) c (omega arith) (omega arith) (omega arith) one

set_within : (n k variable : ℕ) (a : Operand) (c : Ops) → Within n k c → Within n k (AndOp (Set variable a) c)
set_within n k variable a c one = single_within n k (Set variable a) c (omega arith) (omega arith) (omega arith) one

given_within : (n k : ℕ) (gives : Gives) (a : Operand) (result : ℕ) (c : Ops) → Within n k c → Within n k (given_ops gives a result c)
given_within n k Nothing a result c one = set_within n k result a c one
given_within n k (Value elem) a result c one = fit_within n k result elem a c one

-- A part that stands within so many others keeps what follows so.
abbrev pub PartWithin : ℕ → ℕ → Fragment → Type 0
PartWithin n k part = (d : ℕ) (c : Ops) → Within n k c → Within n k (part d c)

pair_within : (n k : ℕ) (left : Fragment) (s : Standing) (right : Fragment) (s' : Standing) (calls : Bool) (join : Operand → Operand → ℕ → Ops → Ops) → PartWithin n k left → PartWithin n k right
    → ((a b : Operand) → PartWithin n k (join a b)) → PartWithin n k (pair_ops left s right s' calls join)
pair_within n k left s right s' calls join one other joins d c within =
    let y : Ops = join (held_at calls s d) (operand_at s' (above calls s d)) d c in
    let x : Ops = right (above calls s d) y in
    one d (copied calls s d x) (copied_in (Within n k) d (front_within n k d) calls s x (other (above calls s d) y (joins (held_at calls s d) (operand_at s' (above calls s d)) d c within)))

binary_within : (n k : ℕ) (op : BinOp) (unsigned : Bool) (a b : Operand) → PartWithin n k (binary_ops op unsigned a b)
binary_within n k op unsigned a b d c within = binary_in (Within n k) d (front_within n k d) op unsigned a b c within

two_within : (n k : ℕ) (which : Builtin) (unsigned : Bool) (a b : Operand) → PartWithin n k (two_ops which unsigned a b)
two_within n k which unsigned a b d c within = two_in (Within n k) d (front_within n k d) which unsigned a b c within

truth_within : (n k : ℕ) (a : Operand) → PartWithin n k (truth_ops a)
truth_within n k a d c within = truth_in (Within n k) d (front_within n k d) a c within

settled_within : (n k : ℕ) (s : Standing) → PartWithin n k (settled s)
settled_within n k s d c within = settled_in (Within n k) d (front_within n k d) s c within

id_within : (n k d : ℕ) (which : Builtin) (a : Operand) (c : Ops) → Within n k c → Within n k (AndOp (Id d which a) c)
id_within n k d which a c one = single_within n k (Id d which a) c (omega arith) (omega arith) (omega arith) one

combined_variable_within : (n k : ℕ) (op : BinOp) (unsigned : Bool) (variable : ℕ) (elem : Elem) (right : Fragment) (s : Standing) (calls : Bool) → PartWithin n k right
    → PartWithin n k (combined_variable op unsigned variable elem right s calls)
combined_variable_within n k op unsigned variable elem right s calls part d c within =
    pair_within n k (λ first after. after) (Named variable) right s calls (binary_ops op unsigned) (λ first after w. w) part (binary_within n k op unsigned) d
    (AndOp (Fit variable elem (VariableOf d)) c) (fit_within n k variable elem (VariableOf d) c within)

assigned_variable_within : (n k : ℕ) (op : AssignOp) (unsigned : Bool) (variable : ℕ) (elem : Elem) (right : Fragment) (s : Standing) (calls : Bool) → PartWithin n k right
    → PartWithin n k (assigned_variable op unsigned variable elem right s calls)
assigned_variable_within n k assign.Set unsigned variable elem right s calls part d c within =
    part d (AndOp (Fit variable elem (operand_at s d)) c) (fit_within n k variable elem (operand_at s d) c within)
assigned_variable_within n k (assign.With op) unsigned variable elem right s calls part d c within =
    combined_variable_within n k op unsigned variable elem right s calls part d c within
assigned_variable_within n k assign.Up unsigned variable elem right s calls part d c within =
    combined_variable_within n k Add unsigned variable elem right s calls part d c within
assigned_variable_within n k assign.Down unsigned variable elem right s calls part d c within =
    combined_variable_within n k Sub unsigned variable elem right s calls part d c within

combined_element_within : (n k : ℕ) (op : BinOp) (unsigned : Bool) (array : ArrayRef) (elem : Elem) (pos : Pos) (right : Fragment) (s : Standing) (checks : Bool) (place : Operand)
    → PartWithin n k right → PartWithin n k (combined_element op unsigned array elem pos right s checks place)
combined_element_within n k op unsigned array elem pos right s checks place part t c within =
    let z : Ops = restore_ops checks array elem pos place (VariableOf t) c in
    let y : Ops = binary_ops op unsigned (VariableOf t) (operand_at s (suc t)) t z in
    load_within n k array elem pos place t (right (suc t) y)
    (part (suc t) y (binary_within n k op unsigned (VariableOf t) (operand_at s (suc t)) t z (restore_within n k checks array elem pos place (VariableOf t) c within)))

changed_element_within : (n k : ℕ) (op : BinOp) (unsigned : Bool) (array : ArrayRef) (elem : Elem) (pos : Pos) (place : Fragment) (p : Standing) (right : Fragment) (s : Standing)
    (calls checks : Bool) → PartWithin n k place → PartWithin n k right → PartWithin n k (changed_element op unsigned array elem pos place p right s calls checks)
changed_element_within n k op unsigned array elem pos place p right s calls checks one other d c within =
    let x : Ops = combined_element op unsigned array elem pos right s checks (held_at calls p d) (above calls p d) c in
    one d (copied calls p d x) (copied_in (Within n k) d (front_within n k d) calls p x
    (combined_element_within n k op unsigned array elem pos right s checks (held_at calls p d) other (above calls p d) c within))

assigned_element_within : (n k : ℕ) (op : AssignOp) (unsigned : Bool) (array : ArrayRef) (elem : Elem) (pos : Pos) (place : Fragment) (p : Standing) (right : Fragment) (s : Standing)
    (calls checks : Bool) → PartWithin n k place → PartWithin n k right → PartWithin n k (assigned_element op unsigned array elem pos place p right s calls checks)
assigned_element_within n k assign.Set unsigned array elem pos place p right s calls checks one other d c within =
    pair_within n k place p right s calls (λ a b first after. store_ops array elem pos a b after) one other (λ a b first after w. store_within n k array elem pos a b after w) d c within
assigned_element_within n k (assign.With op) unsigned array elem pos place p right s calls checks one other d c within =
    changed_element_within n k op unsigned array elem pos place p right s calls checks one other d c within
assigned_element_within n k assign.Up unsigned array elem pos place p right s calls checks one other d c within =
    changed_element_within n k Add unsigned array elem pos place p right s calls checks one other d c within
assigned_element_within n k assign.Down unsigned array elem pos place p right s calls checks one other d c within =
    changed_element_within n k Sub unsigned array elem pos place p right s calls checks one other d c within

-- ---- the whole

mutual
  pub value_within : (e : FlatExpr) (n k : ℕ) → flat_expr_control e ≤ n → flat_expr_calls e ≤ k → PartWithin n k (value_ops e)
  value_within (NumberFlat v unsigned) n k le le' d c within = within
  value_within (VariableFlat v) n k le le' d c within = within
  value_within (UnaryFlat op part) n k le le' d c within =
      let a : Operand = operand_at (standing part) d in
      value_within part n k le le' d (unary_ops op a d c) (unary_in (Within n k) d (front_within n k d) op a c within)
  value_within (BinaryFlat op unsigned left right) n k le le' d c within =
      pair_within n k (value_ops left) (standing left) (value_ops right) (standing right) (calls right) (binary_ops op unsigned)
      (value_within left n k (omega arith) (omega arith)) (value_within right n k (omega arith) (omega arith)) (binary_within n k op unsigned) d c within
  value_within (BothFlat left right) n k le le' d c within =
      let x : Ops = truth_ops (operand_at (standing right) (suc d)) d NoOps in
      let y : Ops = AndOp (If (VariableOf d) (value_ops right (suc d) x) NoOps) c in
      value_within left n k (omega arith) (omega arith) d (truth_ops (operand_at (standing left) d) d y)
      (truth_within n k (operand_at (standing left) d) d y
      (if_within n k (VariableOf d) (value_ops right (suc d) x) NoOps c (omega arith)
      (value_within right (n - 1) k (omega arith) (omega arith) (suc d) x (truth_within (n - 1) k (operand_at (standing right) (suc d)) d NoOps (none_within (n - 1) k)))
      (none_within (n - 1) k) within))
  value_within (EitherFlat left right) n k le le' d c within =
      let x : Ops = truth_ops (operand_at (standing right) (suc d)) d NoOps in
      let y : Ops = AndOp (If (VariableOf d) NoOps (value_ops right (suc d) x)) c in
      value_within left n k (omega arith) (omega arith) d (truth_ops (operand_at (standing left) d) d y)
      (truth_within n k (operand_at (standing left) d) d y
      (if_within n k (VariableOf d) NoOps (value_ops right (suc d) x) c (omega arith) (none_within (n - 1) k)
      (value_within right (n - 1) k (omega arith) (omega arith) (suc d) x (truth_within (n - 1) k (operand_at (standing right) (suc d)) d NoOps (none_within (n - 1) k)))
      within))
  value_within (ChooseFlat unsigned test one other) n k le le' d c within =
      let x : Ops = settled (standing one) d NoOps in
      let y : Ops = settled (standing other) d NoOps in
      value_within test n k (omega arith) (omega arith) d (AndOp (If (operand_at (standing test) d) (value_ops one d x) (value_ops other d y)) c)
      (if_within n k (operand_at (standing test) d) (value_ops one d x) (value_ops other d y) c (omega arith)
      (value_within one (n - 1) k (omega arith) (omega arith) d x (settled_within (n - 1) k (standing one) d NoOps (none_within (n - 1) k)))
      (value_within other (n - 1) k (omega arith) (omega arith) d y (settled_within (n - 1) k (standing other) d NoOps (none_within (n - 1) k))) within)
  value_within (CastFlat elem part) n k le le' d c within =
      value_within part n k le le' d (AndOp (Fit d elem (operand_at (standing part) d)) c) (fit_within n k d elem (operand_at (standing part) d) c within)
  value_within (LoadFlat array elem place pos) n k le le' d c within =
      value_within place n k le le' d (load_ops array elem pos (operand_at (standing place) d) d c) (load_within n k array elem pos (operand_at (standing place) d) d c within)
  value_within (CallFlat args body) n k le le' d c within =
      args_within args n k (omega arith) (omega arith) d (AndOp (Set d (NumberOf 0)) (AndOp (Call (stmts_ops body d NoOps)) c))
      (set_within n k d (NumberOf 0) (AndOp (Call (stmts_ops body d NoOps)) c)
      (call_within n k (stmts_ops body d NoOps) c (omega arith) (stmts_within body n (k - 1) (omega arith) (omega arith) d NoOps (none_within n (k - 1))) within))
  value_within (LostFlat args) n k le le' d c within = within
  value_within (BuiltinFlat which unsigned args) n k le le' d c within = builtin_within args n k le le' which unsigned d c within
  value_within (ParenFlat part) n k le le' d c within = value_within part n k le le' d c within

  pub builtin_within : (args : FlatArgs) (n k : ℕ) → flat_args_control args ≤ n → flat_args_calls args ≤ k → (which : Builtin) (unsigned : Bool)
      → PartWithin n k (builtin_ops which unsigned args)
  builtin_within NoFlatArgs n k le le' which unsigned d c within = id_within n k d which (NumberOf 0) c within
  builtin_within (NamedArg array more) n k le le' which unsigned d c within = id_within n k d which (NumberOf 0) c within
  builtin_within (NumberArg x b NoFlatArgs) n k le le' which unsigned d c within =
      let a : Operand = operand_at (standing x) d in
      value_within x n k (omega arith) (omega arith) d (one_ops which unsigned a d c) (one_in (Within n k) d (front_within n k d) which unsigned a c within)
  builtin_within (NumberArg x b (NamedArg array more)) n k le le' which unsigned d c within = id_within n k d which (NumberOf 0) c within
  builtin_within (NumberArg x b (NumberArg y b' NoFlatArgs)) n k le le' which unsigned d c within =
      pair_within n k (value_ops x) (standing x) (value_ops y) (standing y) (calls y) (two_ops which unsigned)
      (value_within x n k (omega arith) (omega arith)) (value_within y n k (omega arith) (omega arith)) (two_within n k which unsigned) d c within
  builtin_within (NumberArg x b (NumberArg y b' (NamedArg array more))) n k le le' which unsigned d c within = id_within n k d which (NumberOf 0) c within
  builtin_within (NumberArg x b (NumberArg y b' (NumberArg z b'' more))) n k le le' which unsigned d c within =
      let w : Ops = two_ops Min unsigned (VariableOf d) (operand_at (standing z) (suc d)) d c in
      pair_within n k (value_ops x) (standing x) (value_ops y) (standing y) (calls y) (two_ops Max unsigned)
      (value_within x n k (omega arith) (omega arith)) (value_within y n k (omega arith) (omega arith)) (two_within n k Max unsigned) d
      (value_ops z (suc d) w)
      (value_within z n k (omega arith) (omega arith) (suc d) w (two_within n k Min unsigned (VariableOf d) (operand_at (standing z) (suc d)) d c within))

  pub args_within : (args : FlatArgs) (n k : ℕ) → flat_args_control args ≤ n → flat_args_calls args ≤ k → PartWithin n k (args_ops args)
  args_within NoFlatArgs n k le le' d c within = within
  args_within (NumberArg e binding more) n k le le' d c within =
      let x : Ops = args_ops more d c in
      value_within e n k (omega arith) (omega arith) d (bound_ops binding (operand_at (standing e) d) x)
      (bound_within n k binding (operand_at (standing e) d) x (args_within more n k (omega arith) (omega arith) d c within))
  args_within (NamedArg array more) n k le le' d c within = args_within more n k le le' d c within

  pub right_within : (value : FlatValue) (n k : ℕ) → flat_value_control value ≤ n → flat_value_calls value ≤ k → PartWithin n k (right_ops value)
  right_within NoFlat n k le le' d c within = within
  right_within (SomeFlat e) n k le le' d c within = value_within e n k le le' d c within

  pub declared_within : (value : FlatValue) (n k : ℕ) → flat_value_control value ≤ n → flat_value_calls value ≤ k → (variable : ℕ) (elem : Elem)
      → PartWithin n k (declared_ops variable elem value)
  declared_within NoFlat n k le le' variable elem d c within = set_within n k variable (NumberOf 0) c within
  declared_within (SomeFlat e) n k le le' variable elem d c within =
      let a : Operand = operand_at (standing e) d in
      set_within n k variable (NumberOf 0) (value_ops e d (AndOp (Fit variable elem a) c))
      (value_within e n k le le' d (AndOp (Fit variable elem a) c) (fit_within n k variable elem a c within))

  pub return_within : (value : FlatValue) (n k : ℕ) → flat_value_control value ≤ n → flat_value_calls value ≤ k → (gives : Gives) → PartWithin n k (return_ops gives value)
  return_within NoFlat n k le le' gives result c within = single_within n k Return c (omega arith) (omega arith) (omega arith) within
  return_within (SomeFlat e) n k le le' gives result c within =
      let a : Operand = operand_at (standing e) (suc result) in
      value_within e n k le le' (suc result) (given_ops gives a result (AndOp Return c))
      (given_within n k gives a result (AndOp Return c) (single_within n k Return c (omega arith) (omega arith) (omega arith) within))

  pub test_within : (test : FlatValue) (n k : ℕ) → flat_value_control test ≤ n - 1 → flat_value_calls test ≤ k → 1 ≤ n → (body st : Ops) → Within (n - 1) k body → Within (n - 1) k st
      → PartWithin n k (loop_ops test body st)
  test_within NoFlat n k le le' some body st one other d c within = loop_within n k NoOps (NumberOf 1) body st c some (none_within (n - 1) k) one other within
  test_within (SomeFlat e) n k le le' some body st one other d c within =
      loop_within n k (value_ops e d NoOps) (operand_at (standing e) d) body st c some (value_within e (n - 1) k le le' d NoOps (none_within (n - 1) k)) one other within

  pub stmt_within : (s : FlatStmt) (n k : ℕ) → flat_stmt_control s ≤ n → flat_stmt_calls s ≤ k → PartWithin n k (stmt_ops s)
  stmt_within (DeclareFlat variable elem value) n k le le' result c within = declared_within value n k le le' variable elem (suc result) c within
  stmt_within (LocalArrayFlat array count) n k le le' result c within = within
  stmt_within (SetVariableFlat variable elem op unsigned value) n k le le' result c within =
      assigned_variable_within n k op unsigned variable elem (right_ops value) (right_standing value) (right_calls value) (right_within value n k le le') (suc result) c within
  stmt_within (SetElementFlat array elem place op unsigned value pos) n k le le' result c within =
      assigned_element_within n k op unsigned array elem pos (value_ops place) (standing place) (right_ops value) (right_standing value) (right_calls value) (right_branches value)
      (value_within place n k (omega arith) (omega arith)) (right_within value n k (omega arith) (omega arith)) (suc result) c within
  stmt_within (CallStmtFlat call) n k le le' result c within = value_within call n k le le' (suc result) c within
  stmt_within (BarrierFlat site) n k le le' result c within = single_within n k (Barrier site) c (omega arith) (omega arith) (omega arith) within
  stmt_within (IfFlat test one) n k le le' result c within =
      let a : Operand = operand_at (standing test) (suc result) in
      value_within test n k (omega arith) (omega arith) (suc result) (AndOp (If a (stmt_ops one result NoOps) NoOps) c)
      (if_within n k a (stmt_ops one result NoOps) NoOps c (omega arith) (stmt_within one (n - 1) k (omega arith) (omega arith) result NoOps (none_within (n - 1) k))
      (none_within (n - 1) k) within)
  stmt_within (IfElseFlat test one other) n k le le' result c within =
      let a : Operand = operand_at (standing test) (suc result) in
      value_within test n k (omega arith) (omega arith) (suc result) (AndOp (If a (stmt_ops one result NoOps) (stmt_ops other result NoOps)) c)
      (if_within n k a (stmt_ops one result NoOps) (stmt_ops other result NoOps) c (omega arith)
      (stmt_within one (n - 1) k (omega arith) (omega arith) result NoOps (none_within (n - 1) k))
      (stmt_within other (n - 1) k (omega arith) (omega arith) result NoOps (none_within (n - 1) k)) within)
  stmt_within (WhileFlat test body) n k le le' result c within =
      loop_within n k (value_ops test (suc result) NoOps) (operand_at (standing test) (suc result)) (stmt_ops body result NoOps) NoOps c (omega arith)
      (value_within test (n - 1) k (omega arith) (omega arith) (suc result) NoOps (none_within (n - 1) k))
      (stmt_within body (n - 1) k (omega arith) (omega arith) result NoOps (none_within (n - 1) k)) (none_within (n - 1) k) within
  stmt_within (DoFlat body test) n k le le' result c within =
      let x : Ops = settled (standing test) (suc result) NoOps in
      set_within n k (suc result) (NumberOf 1) (AndOp (Loop NoOps (VariableOf (suc result)) (stmt_ops body result NoOps) (value_ops test (suc result) x)) c)
      (loop_within n k NoOps (VariableOf (suc result)) (stmt_ops body result NoOps) (value_ops test (suc result) x) c (omega arith) (none_within (n - 1) k)
      (stmt_within body (n - 1) k (omega arith) (omega arith) result NoOps (none_within (n - 1) k))
      (value_within test (n - 1) k (omega arith) (omega arith) (suc result) x (settled_within (n - 1) k (standing test) (suc result) NoOps (none_within (n - 1) k))) within)
  stmt_within (ForFlat first test st body) n k le le' result c within =
      let b : Ops = stmt_ops body result NoOps in
      let x : Ops = stmts_ops st result NoOps in
      stmts_within first n k (omega arith) (omega arith) result (loop_ops test b x (suc result) c)
      (test_within test n k (omega arith) (omega arith) (omega arith) b x (stmt_within body (n - 1) k (omega arith) (omega arith) result NoOps (none_within (n - 1) k))
      (stmts_within st (n - 1) k (omega arith) (omega arith) result NoOps (none_within (n - 1) k)) (suc result) c within)
  stmt_within BreakFlat n k le le' result c within = single_within n k Break c (omega arith) (omega arith) (omega arith) within
  stmt_within ContinueFlat n k le le' result c within = single_within n k Continue c (omega arith) (omega arith) (omega arith) within
  stmt_within (ReturnFlat gives value) n k le le' result c within = return_within value n k le le' gives result c within
  stmt_within (BlockFlat items) n k le le' result c within = stmts_within items n k le le' result c within
  stmt_within EmptyFlat n k le le' result c within = within

  pub stmts_within : (ss : FlatStmts) (n k : ℕ) → flat_control ss ≤ n → flat_calls ss ≤ k → PartWithin n k (stmts_ops ss)
  stmts_within NoFlats n k le le' result c within = within
  stmts_within (AndFlat s ss) n k le le' result c within =
      stmt_within s n k (omega arith) (omega arith) result (stmts_ops ss result c) (stmts_within ss n k (omega arith) (omega arith) result c within)

-- ---- kernels

pub kernel_within : (flat : FlatKernel) → Within (flat_control flat.body) (flat_calls flat.body) (normal_kernel flat).ops
kernel_within flat =
    stmts_within flat.body (flat_control flat.body) (flat_calls flat.body) (omega arith) (omega arith) flat.variables NoOps
    (none_within (flat_control flat.body) (flat_calls flat.body))
