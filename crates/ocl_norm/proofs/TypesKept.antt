-- Each load and each store of the normal form of a typed kernel is by the type of its array's elements, and no store is to an array that
-- may not be changed.
use Rattle.std.proofs.Common.{ℕ, suc, Bool, true, false, List}
use Rattle.vx_base.specs.declared.types.Elem.{Elem}
use Rattle.vx_base.specs.declared.types.Pos.{Pos}
use Rattle.ocl_ast.specs.declared.exprs.BinOp.{BinOp}
use Rattle.ocl_ast.specs.declared.exprs.BinOp.TheVariants.{Add, Sub}
use Rattle.ocl_ast.specs.declared.stmts.AssignOp.{AssignOp}
use Rattle.ocl_ast.specs.declared.stmts.AssignOp.TheVariants as assign
use Rattle.ocl_ast.specs.declared.units.Gives.{Gives}
use Rattle.ocl_ast.specs.declared.units.Gives.TheVariants.{Nothing, Value}
use Rattle.ocl_ast.specs.declared.units.Param.{Param}
use Rattle.ocl_program.specs.declared.exprs.ArrayRef.{ArrayRef}
use Rattle.ocl_program.specs.declared.exprs.Builtin.{Builtin}
use Rattle.ocl_program.specs.declared.exprs.Builtin.TheVariants.{Min, Max}
use Rattle.ocl_program.specs.declared.functions.LocalArray.{LocalArray}
use Rattle.kir.specs.Trees.{Operand, VariableOf, NumberOf, Set, Fit, Store, If, Loop, Return, Call, Ops, NoOps, AndOp}
use Rattle.kir.specs.Typing.{HasElem, IsWritten, AreTyped}
use Rattle.ocl_inline.specs.Trees.{FlatValue, NoFlat, SomeFlat, FlatExpr, NumberFlat, VariableFlat, UnaryFlat, BinaryFlat, BothFlat, EitherFlat, ChooseFlat, CastFlat, LoadFlat, CallFlat, LostFlat, BuiltinFlat, ParenFlat, FlatArgs, NoFlatArgs, NumberArg, NamedArg, FlatStmt, DeclareFlat, LocalArrayFlat, SetVariableFlat, SetElementFlat, CallStmtFlat, BarrierFlat, IfFlat, IfElseFlat, WhileFlat, DoFlat, ForFlat, BreakFlat, ContinueFlat, ReturnFlat, BlockFlat, EmptyFlat, FlatStmts, NoFlats, AndFlat, FlatKernel}
use Rattle.ocl_inline.specs.declared.trees.Binding.{Binding}
use Rattle.ocl_inline.specs.declared.trees.Binding.TheVariants.{Variable as ToVariable, Dropped}
use Rattle.ocl_norm.specs.Normal.{Fragment, calls, right_calls, right_branches, pair_ops, bound_ops, load_ops, store_ops, restore_ops, combined_variable, assigned_variable, combined_element, changed_element, assigned_element, given_ops, value_ops, builtin_ops, args_ops, right_ops, declared_ops, return_ops, loop_ops, stmt_ops, stmts_ops, normal_kernel}
use Rattle.ocl_norm.specs.Operators.{truth_ops, unary_ops, binary_ops, one_ops, two_ops}
use Rattle.ocl_inline.specs.Proper.{IsTypedKernel, TypedArgs, TypedExpr, TypedStmt, TypedStmts, TypedValue}
use Rattle.ocl_norm.specs.Standings.{Standing, Named, standing, right_standing, operand_at, copied, held_at, above, settled}
use Rattle.ocl_norm.proofs.InFront.{InFront, truth_in, unary_in, binary_in, one_in, two_in, copied_in, settled_in}

-- ---- operations

front_typed : (ps : List Param) (ls : List LocalArray) (d : ℕ) → InFront (AreTyped ps ls) d
front_typed ps ls d = record {
  set = λ j a x more typed. (tt, typed);
  calculate = λ j op a b x more typed. (tt, typed);
  fit = λ j elem a x more typed. (tt, typed);
  id = λ j which a x more typed. (tt, typed);
}

bound_typed : (ps : List Param) (ls : List LocalArray) (binding : Binding) (a : Operand) (c : Ops) → AreTyped ps ls c → AreTyped ps ls (bound_ops binding a c)
bound_typed ps ls (ToVariable variable elem) a c typed = (tt, typed)
bound_typed ps ls Dropped a c typed = typed

given_typed : (ps : List Param) (ls : List LocalArray) (gives : Gives) (a : Operand) (result : ℕ) (c : Ops) → AreTyped ps ls c → AreTyped ps ls (given_ops gives a result c)
given_typed ps ls Nothing a result c typed = (tt, typed)
given_typed ps ls (Value elem) a result c typed = (tt, typed)

store_typed : (ps : List Param) (ls : List LocalArray) (array : ArrayRef) (elem : Elem) (pos : Pos) (place value : Operand) (c : Ops) → HasElem ps ls array elem → IsWritten ps array
    → AreTyped ps ls c → AreTyped ps ls (store_ops array elem pos place value c)
store_typed ps ls array elem pos place value c has written typed = (tt, ((has, written), typed))

restore_typed : (ps : List Param) (ls : List LocalArray) (checks : Bool) (array : ArrayRef) (elem : Elem) (pos : Pos) (place value : Operand) (c : Ops) → HasElem ps ls array elem
    → IsWritten ps array → AreTyped ps ls c → AreTyped ps ls (restore_ops checks array elem pos place value c)
restore_typed ps ls true array elem pos place value c has written typed = (tt, ((has, written), typed))
restore_typed ps ls false array elem pos place value c has written typed = ((has, written), typed)

-- ---- parts

-- A part that is typed keeps what follows so.
abbrev pub PartTyped : List Param → List LocalArray → Fragment → Type 0
PartTyped ps ls part = (d : ℕ) (c : Ops) → AreTyped ps ls c → AreTyped ps ls (part d c)

pair_typed : (ps : List Param) (ls : List LocalArray) (left : Fragment) (s : Standing) (right : Fragment) (s' : Standing) (calls : Bool) (join : Operand → Operand → ℕ → Ops → Ops)
    → PartTyped ps ls left → PartTyped ps ls right → ((a b : Operand) → PartTyped ps ls (join a b)) → PartTyped ps ls (pair_ops left s right s' calls join)
pair_typed ps ls left s right s' calls join one other joins d c typed =
    let y : Ops = join (held_at calls s d) (operand_at s' (above calls s d)) d c in
    let x : Ops = right (above calls s d) y in
    one d (copied calls s d x)
    (copied_in (AreTyped ps ls) d (front_typed ps ls d) calls s x (other (above calls s d) y (joins (held_at calls s d) (operand_at s' (above calls s d)) d c typed)))

binary_typed : (ps : List Param) (ls : List LocalArray) (op : BinOp) (unsigned : Bool) (a b : Operand) → PartTyped ps ls (binary_ops op unsigned a b)
binary_typed ps ls op unsigned a b d c typed = binary_in (AreTyped ps ls) d (front_typed ps ls d) op unsigned a b c typed

two_typed : (ps : List Param) (ls : List LocalArray) (which : Builtin) (unsigned : Bool) (a b : Operand) → PartTyped ps ls (two_ops which unsigned a b)
two_typed ps ls which unsigned a b d c typed = two_in (AreTyped ps ls) d (front_typed ps ls d) which unsigned a b c typed

truth_typed : (ps : List Param) (ls : List LocalArray) (a : Operand) → PartTyped ps ls (truth_ops a)
truth_typed ps ls a d c typed = truth_in (AreTyped ps ls) d (front_typed ps ls d) a c typed

settled_typed : (ps : List Param) (ls : List LocalArray) (s : Standing) → PartTyped ps ls (settled s)
settled_typed ps ls s d c typed = settled_in (AreTyped ps ls) d (front_typed ps ls d) s c typed

-- ---- assignments

combined_variable_typed : (ps : List Param) (ls : List LocalArray) (op : BinOp) (unsigned : Bool) (variable : ℕ) (elem : Elem) (right : Fragment) (s : Standing) (calls : Bool)
    → PartTyped ps ls right → PartTyped ps ls (combined_variable op unsigned variable elem right s calls)
combined_variable_typed ps ls op unsigned variable elem right s calls part d c typed =
    pair_typed ps ls (λ first after. after) (Named variable) right s calls (binary_ops op unsigned) (λ first after t. t) part (binary_typed ps ls op unsigned) d
    (AndOp (Fit variable elem (VariableOf d)) c) (tt, typed)

assigned_variable_typed : (ps : List Param) (ls : List LocalArray) (op : AssignOp) (unsigned : Bool) (variable : ℕ) (elem : Elem) (right : Fragment) (s : Standing) (calls : Bool)
    → PartTyped ps ls right → PartTyped ps ls (assigned_variable op unsigned variable elem right s calls)
assigned_variable_typed ps ls assign.Set unsigned variable elem right s calls part d c typed = part d (AndOp (Fit variable elem (operand_at s d)) c) (tt, typed)
assigned_variable_typed ps ls (assign.With op) unsigned variable elem right s calls part d c typed =
    combined_variable_typed ps ls op unsigned variable elem right s calls part d c typed
assigned_variable_typed ps ls assign.Up unsigned variable elem right s calls part d c typed = combined_variable_typed ps ls Add unsigned variable elem right s calls part d c typed
assigned_variable_typed ps ls assign.Down unsigned variable elem right s calls part d c typed = combined_variable_typed ps ls Sub unsigned variable elem right s calls part d c typed

combined_element_typed : (ps : List Param) (ls : List LocalArray) (op : BinOp) (unsigned : Bool) (array : ArrayRef) (elem : Elem) (pos : Pos) (right : Fragment) (s : Standing) (checks : Bool)
    (place : Operand) → HasElem ps ls array elem → IsWritten ps array → PartTyped ps ls right → PartTyped ps ls (combined_element op unsigned array elem pos right s checks place)
combined_element_typed ps ls op unsigned array elem pos right s checks place has written part t c typed =
    let z : Ops = restore_ops checks array elem pos place (VariableOf t) c in
    let y : Ops = binary_ops op unsigned (VariableOf t) (operand_at s (suc t)) t z in
    (tt, (has, part (suc t) y (binary_typed ps ls op unsigned (VariableOf t) (operand_at s (suc t)) t z (restore_typed ps ls checks array elem pos place (VariableOf t) c has written typed))))

changed_element_typed : (ps : List Param) (ls : List LocalArray) (op : BinOp) (unsigned : Bool) (array : ArrayRef) (elem : Elem) (pos : Pos) (place : Fragment) (p : Standing) (right : Fragment)
    (s : Standing) (calls checks : Bool) → HasElem ps ls array elem → IsWritten ps array → PartTyped ps ls place → PartTyped ps ls right
    → PartTyped ps ls (changed_element op unsigned array elem pos place p right s calls checks)
changed_element_typed ps ls op unsigned array elem pos place p right s calls checks has written one other d c typed =
    let x : Ops = combined_element op unsigned array elem pos right s checks (held_at calls p d) (above calls p d) c in
    one d (copied calls p d x)
    (copied_in (AreTyped ps ls) d (front_typed ps ls d) calls p x
    (combined_element_typed ps ls op unsigned array elem pos right s checks (held_at calls p d) has written other (above calls p d) c typed))

assigned_element_typed : (ps : List Param) (ls : List LocalArray) (op : AssignOp) (unsigned : Bool) (array : ArrayRef) (elem : Elem) (pos : Pos) (place : Fragment) (p : Standing) (right : Fragment)
    (s : Standing) (calls checks : Bool) → HasElem ps ls array elem → IsWritten ps array → PartTyped ps ls place → PartTyped ps ls right
    → PartTyped ps ls (assigned_element op unsigned array elem pos place p right s calls checks)
assigned_element_typed ps ls assign.Set unsigned array elem pos place p right s calls checks has written one other d c typed =
    pair_typed ps ls place p right s calls (λ a b first after. store_ops array elem pos a b after) one other
    (λ a b first after t. store_typed ps ls array elem pos a b after has written t) d c typed
assigned_element_typed ps ls (assign.With op) unsigned array elem pos place p right s calls checks has written one other d c typed =
    changed_element_typed ps ls op unsigned array elem pos place p right s calls checks has written one other d c typed
assigned_element_typed ps ls assign.Up unsigned array elem pos place p right s calls checks has written one other d c typed =
    changed_element_typed ps ls Add unsigned array elem pos place p right s calls checks has written one other d c typed
assigned_element_typed ps ls assign.Down unsigned array elem pos place p right s calls checks has written one other d c typed =
    changed_element_typed ps ls Sub unsigned array elem pos place p right s calls checks has written one other d c typed

-- ---- the whole

mutual
  pub value_typed : (ps : List Param) (ls : List LocalArray) (n : ℕ) (e : FlatExpr) → TypedExpr ps ls n e → PartTyped ps ls (value_ops e)
  value_typed ps ls n (NumberFlat v unsigned) has d c typed = typed
  value_typed ps ls n (VariableFlat k) has d c typed = typed
  value_typed ps ls n (UnaryFlat op part) has d c typed =
      let a : Operand = operand_at (standing part) d in
      value_typed ps ls n part has d (unary_ops op a d c) (unary_in (AreTyped ps ls) d (front_typed ps ls d) op a c typed)
  value_typed ps ls n (BinaryFlat op unsigned left right) has d c typed =
      pair_typed ps ls (value_ops left) (standing left) (value_ops right) (standing right) (calls right) (binary_ops op unsigned) (value_typed ps ls n left has.0)
      (value_typed ps ls n right has.1) (binary_typed ps ls op unsigned) d c typed
  value_typed ps ls n (BothFlat left right) has d c typed =
      let x : Ops = truth_ops (operand_at (standing right) (suc d)) d NoOps in
      let y : Ops = AndOp (If (VariableOf d) (value_ops right (suc d) x) NoOps) c in
      value_typed ps ls n left has.0 d (truth_ops (operand_at (standing left) d) d y)
      (truth_typed ps ls (operand_at (standing left) d) d y
      ((value_typed ps ls n right has.1 (suc d) x (truth_typed ps ls (operand_at (standing right) (suc d)) d NoOps tt), tt), typed))
  value_typed ps ls n (EitherFlat left right) has d c typed =
      let x : Ops = truth_ops (operand_at (standing right) (suc d)) d NoOps in
      let y : Ops = AndOp (If (VariableOf d) NoOps (value_ops right (suc d) x)) c in
      value_typed ps ls n left has.0 d (truth_ops (operand_at (standing left) d) d y)
      (truth_typed ps ls (operand_at (standing left) d) d y
      ((tt, value_typed ps ls n right has.1 (suc d) x (truth_typed ps ls (operand_at (standing right) (suc d)) d NoOps tt)), typed))
  value_typed ps ls n (ChooseFlat unsigned test one other) has d c typed =
      let x : Ops = settled (standing one) d NoOps in
      let y : Ops = settled (standing other) d NoOps in
      value_typed ps ls n test has.0 d (AndOp (If (operand_at (standing test) d) (value_ops one d x) (value_ops other d y)) c)
      ((value_typed ps ls n one has.1 d x (settled_typed ps ls (standing one) d NoOps tt), value_typed ps ls n other has.2 d y (settled_typed ps ls (standing other) d NoOps tt)), typed)
  value_typed ps ls n (CastFlat elem part) has d c typed = value_typed ps ls n part has d (AndOp (Fit d elem (operand_at (standing part) d)) c) (tt, typed)
  value_typed ps ls n (LoadFlat array elem place pos) has d c typed =
      value_typed ps ls n place has.1 d (load_ops array elem pos (operand_at (standing place) d) d c) (tt, (has.0, typed))
  value_typed ps ls n (CallFlat args body) has d c typed =
      args_typed ps ls n args has.0 d (AndOp (Set d (NumberOf 0)) (AndOp (Call (stmts_ops body d NoOps)) c)) (tt, (stmts_typed ps ls n body has.1 d NoOps tt, typed))
  value_typed ps ls n (LostFlat args) has d c typed = typed
  value_typed ps ls n (BuiltinFlat which unsigned args) has d c typed = builtin_typed ps ls n args has.1 which unsigned d c typed
  value_typed ps ls n (ParenFlat part) has d c typed = value_typed ps ls n part has d c typed

  builtin_typed : (ps : List Param) (ls : List LocalArray) (n : ℕ) (args : FlatArgs) → TypedArgs ps ls n args → (which : Builtin) (unsigned : Bool)
      → PartTyped ps ls (builtin_ops which unsigned args)
  builtin_typed ps ls n NoFlatArgs has which unsigned d c typed = (tt, typed)
  builtin_typed ps ls n (NamedArg array more) has which unsigned d c typed = (tt, typed)
  builtin_typed ps ls n (NumberArg x b NoFlatArgs) has which unsigned d c typed =
      let a : Operand = operand_at (standing x) d in
      value_typed ps ls n x has.0 d (one_ops which unsigned a d c) (one_in (AreTyped ps ls) d (front_typed ps ls d) which unsigned a c typed)
  builtin_typed ps ls n (NumberArg x b (NamedArg array more)) has which unsigned d c typed = (tt, typed)
  builtin_typed ps ls n (NumberArg x b (NumberArg y b' NoFlatArgs)) has which unsigned d c typed =
      pair_typed ps ls (value_ops x) (standing x) (value_ops y) (standing y) (calls y) (two_ops which unsigned) (value_typed ps ls n x has.0) (value_typed ps ls n y has.2.0)
      (two_typed ps ls which unsigned) d c typed
  builtin_typed ps ls n (NumberArg x b (NumberArg y b' (NamedArg array more))) has which unsigned d c typed = (tt, typed)
  builtin_typed ps ls n (NumberArg x b (NumberArg y b' (NumberArg z b'' more))) has which unsigned d c typed =
      let w : Ops = two_ops Min unsigned (VariableOf d) (operand_at (standing z) (suc d)) d c in
      pair_typed ps ls (value_ops x) (standing x) (value_ops y) (standing y) (calls y) (two_ops Max unsigned) (value_typed ps ls n x has.0) (value_typed ps ls n y has.2.0)
      (two_typed ps ls Max unsigned) d (value_ops z (suc d) w)
      (value_typed ps ls n z has.2.2.0 (suc d) w (two_typed ps ls Min unsigned (VariableOf d) (operand_at (standing z) (suc d)) d c typed))

  args_typed : (ps : List Param) (ls : List LocalArray) (n : ℕ) (args : FlatArgs) → TypedArgs ps ls n args → PartTyped ps ls (args_ops args)
  args_typed ps ls n NoFlatArgs has d c typed = typed
  args_typed ps ls n (NumberArg e binding more) has d c typed =
      let x : Ops = args_ops more d c in
      value_typed ps ls n e has.0 d (bound_ops binding (operand_at (standing e) d) x)
      (bound_typed ps ls binding (operand_at (standing e) d) x (args_typed ps ls n more has.2 d c typed))
  args_typed ps ls n (NamedArg array more) has d c typed = args_typed ps ls n more has d c typed

  right_typed : (ps : List Param) (ls : List LocalArray) (n : ℕ) (value : FlatValue) → TypedValue ps ls n value → PartTyped ps ls (right_ops value)
  right_typed ps ls n NoFlat has d c typed = typed
  right_typed ps ls n (SomeFlat e) has d c typed = value_typed ps ls n e has d c typed

  declared_typed : (ps : List Param) (ls : List LocalArray) (n : ℕ) (value : FlatValue) → TypedValue ps ls n value → (variable : ℕ) (elem : Elem)
      → PartTyped ps ls (declared_ops variable elem value)
  declared_typed ps ls n NoFlat has variable elem d c typed = (tt, typed)
  declared_typed ps ls n (SomeFlat e) has variable elem d c typed = (tt, value_typed ps ls n e has d (AndOp (Fit variable elem (operand_at (standing e) d)) c) (tt, typed))

  return_typed : (ps : List Param) (ls : List LocalArray) (n : ℕ) (value : FlatValue) → TypedValue ps ls n value → (gives : Gives) → PartTyped ps ls (return_ops gives value)
  return_typed ps ls n NoFlat has gives result c typed = (tt, typed)
  return_typed ps ls n (SomeFlat e) has gives result c typed =
      let a : Operand = operand_at (standing e) (suc result) in
      value_typed ps ls n e has (suc result) (given_ops gives a result (AndOp Return c)) (given_typed ps ls gives a result (AndOp Return c) (tt, typed))

  test_typed : (ps : List Param) (ls : List LocalArray) (n : ℕ) (test : FlatValue) → TypedValue ps ls n test → (body st : Ops) → AreTyped ps ls body → AreTyped ps ls st
      → PartTyped ps ls (loop_ops test body st)
  test_typed ps ls n NoFlat has body st one other d c typed = ((tt, one, other), typed)
  test_typed ps ls n (SomeFlat e) has body st one other d c typed = ((value_typed ps ls n e has d NoOps tt, one, other), typed)

  stmt_typed : (ps : List Param) (ls : List LocalArray) (n : ℕ) (s : FlatStmt) → TypedStmt ps ls n s → PartTyped ps ls (stmt_ops s)
  stmt_typed ps ls n (DeclareFlat variable elem value) has result c typed = declared_typed ps ls n value has.1 variable elem (suc result) c typed
  stmt_typed ps ls n (LocalArrayFlat array count) has result c typed = typed
  stmt_typed ps ls n (SetVariableFlat variable elem op unsigned value) has result c typed =
      assigned_variable_typed ps ls op unsigned variable elem (right_ops value) (right_standing value) (right_calls value) (right_typed ps ls n value has.1) (suc result) c typed
  stmt_typed ps ls n (SetElementFlat array elem place op unsigned value pos) has result c typed =
      assigned_element_typed ps ls op unsigned array elem pos (value_ops place) (standing place) (right_ops value) (right_standing value) (right_calls value) (right_branches value)
      has.0 has.1 (value_typed ps ls n place has.2) (right_typed ps ls n value has.3) (suc result) c typed
  stmt_typed ps ls n (CallStmtFlat call) has result c typed = value_typed ps ls n call has (suc result) c typed
  stmt_typed ps ls n (BarrierFlat site) has result c typed = (tt, typed)
  stmt_typed ps ls n (IfFlat test one) has result c typed =
      let a : Operand = operand_at (standing test) (suc result) in
      value_typed ps ls n test has.0 (suc result) (AndOp (If a (stmt_ops one result NoOps) NoOps) c) ((stmt_typed ps ls n one has.1 result NoOps tt, tt), typed)
  stmt_typed ps ls n (IfElseFlat test one other) has result c typed =
      let a : Operand = operand_at (standing test) (suc result) in
      value_typed ps ls n test has.0 (suc result) (AndOp (If a (stmt_ops one result NoOps) (stmt_ops other result NoOps)) c)
      ((stmt_typed ps ls n one has.1 result NoOps tt, stmt_typed ps ls n other has.2 result NoOps tt), typed)
  stmt_typed ps ls n (WhileFlat test body) has result c typed = ((value_typed ps ls n test has.0 (suc result) NoOps tt, stmt_typed ps ls n body has.1 result NoOps tt, tt), typed)
  stmt_typed ps ls n (DoFlat body test) has result c typed =
      let x : Ops = settled (standing test) (suc result) NoOps in (
        tt,
        (
          (tt, stmt_typed ps ls n body has.0 result NoOps tt, value_typed ps ls n test has.1 (suc result) x (settled_typed ps ls (standing test) (suc result) NoOps tt)),
          typed,
        ),
      )
  stmt_typed ps ls n (ForFlat first test st body) has result c typed =
      let b : Ops = stmt_ops body result NoOps in
      let x : Ops = stmts_ops st result NoOps in
      stmts_typed ps ls n first has.0 result (loop_ops test b x (suc result) c)
      (test_typed ps ls n test has.1 b x (stmt_typed ps ls n body has.3 result NoOps tt) (stmts_typed ps ls n st has.2 result NoOps tt) (suc result) c typed)
  stmt_typed ps ls n BreakFlat has result c typed = (tt, typed)
  stmt_typed ps ls n ContinueFlat has result c typed = (tt, typed)
  stmt_typed ps ls n (ReturnFlat gives value) has result c typed = return_typed ps ls n value has gives result c typed
  stmt_typed ps ls n (BlockFlat items) has result c typed = stmts_typed ps ls n items has result c typed
  stmt_typed ps ls n EmptyFlat has result c typed = typed

  stmts_typed : (ps : List Param) (ls : List LocalArray) (n : ℕ) (ss : FlatStmts) → TypedStmts ps ls n ss → PartTyped ps ls (stmts_ops ss)
  stmts_typed ps ls n NoFlats has result c typed = typed
  stmts_typed ps ls n (AndFlat s ss) has result c typed = stmt_typed ps ls n s has.0 result (stmts_ops ss result c) (stmts_typed ps ls n ss has.1 result c typed)

-- ---- kernels

pub kernel_typed : (flat : FlatKernel) → IsTypedKernel flat → AreTyped (normal_kernel flat).params (normal_kernel flat).arrays (normal_kernel flat).ops
kernel_typed flat typed = stmts_typed flat.params flat.arrays flat.variables flat.body typed.body flat.variables NoOps tt
