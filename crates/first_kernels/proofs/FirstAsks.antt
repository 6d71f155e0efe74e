-- A work-item of a kernel of assignments asks, by the semantics of the resolved program, for what its form asks for.
use Rattle.std.proofs.Common.{◌≡◌, ℕ, ◌*◌, ◌%◌, ◌^◌, ◌<◌, Bool, true, false, not, ◌&&◌, nat_eq, ltb, List, [], ◌∷◌, Option, Some, None, refl, sym, ap, subst, ◌∙◌, arith, eqb-true, ltb-true, lt-ltb}
use Rattle.std.proofs.Math.ListN.{get_or-eq_default}
use Rattle.std.proofs.Math.Nat.{mod-eq_of_lt}
use Rattle.std.specs.Prelude.{slice_index_or}
use Rattle.vx_base.specs.declared.types.Elem.TheVariants.{Int}
use Rattle.vx_base.specs.declared.types.Pos.{Pos}
use Rattle.vx_base.specs.declared.types.Size.TheVariants.{Four}
use Rattle.item_acts.specs.declared.acts.Action.TheVariants.{Load as LoadAction, Store as StoreAction, End}
use Rattle.item_acts.specs.declared.acts.Place.TheVariants.{Global}
use Rattle.item_acts.specs.Machine.{Go, Ask}
use Rattle.ocl_ast.specs.declared.exprs.BinOp.{BinOp}
use Rattle.ocl_ast.specs.declared.exprs.BinOp.TheVariants as binary
use Rattle.ocl_ast.specs.declared.stmts.AssignOp.TheVariants.{Set, With, Up, Down}
use Rattle.ocl_program.specs.declared.exprs.ArrayRef.{ArrayRef}
use Rattle.ocl_program.specs.declared.exprs.ArrayRef.TheVariants.{Parameter}
use Rattle.ocl_program.specs.declared.exprs.Builtin.{Builtin}
use Rattle.ocl_program.specs.declared.exprs.Builtin.TheVariants as builtin
use Rattle.ocl_program.specs.Nodes.{ExprNode, NumberNode, VariableNode, UnaryNode, BinaryNode, BothNode, EitherNode, ChooseNode, CastNode, LoadNode, CallNode, BuiltinNode, ParenNode, ArgNodes, NoArgs, ValueArg, ArrayArg, StmtNode, DeclareNode, LocalArrayNode, SetVariableNode, SetElementNode, CallStmtNode, BarrierNode, IfNode, IfElseNode, WhileNode, DoNode, ForNode, BreakNode, ContinueNode, ReturnNode, BlockNode, EmptyNode, StmtNodes, NoStmts, AndStmt, FunctionNode}
use Rattle.ocl_program.specs.Values.{binary_value}
use Rattle.item_settings.specs.declared.arrays.ItemArray.{ItemArray}
use Rattle.ocl_sem.specs.Items.{ItemState, item_step as source_step}
use Rattle.item_settings.specs.Settings.{Setting}
use Rattle.ocl_sem.specs.Source.{Scope, SourceTask, array_in, value_tasks, stmt_tasks, stmts_tasks}
use Rattle.task_machine.specs.declared.tasks.Task.TheVariants as task
use Rattle.first_kernels.specs.declared.tree.Operator.{Operator}
use Rattle.first_kernels.specs.declared.tree.Operator.TheVariants.{Add, Subtract, Multiply}
use Rattle.first_kernels.specs.FirstForms.{is_zero, is_zero_literal, is_global_id, is_own_id, operator_of, own_parameter, sum_from, assignment_from, assignments_from, followed}
use Rattle.first_kernels.specs.FirstTree.{Tree, Literal, OwnId, OwnElement, Grouped, Assigns}
use Rattle.first_kernels.specs.First.{Task, TakeNumber, TakeId, LoadFrom, Operate, StoreTo, evaluation, body_tasks, operated, Item, item_step}
use Rattle.first_kernels.proofs.FirstAlike.{IsAlike, alike_both, alike_second, alike_ask, alike_stop}
use Rattle.first_kernels.proofs.FirstFormLaws.{cond_is, both_hold, own_is, applied_is, mapped_is, assignment_is}
use Rattle.first_kernels.proofs.FirstLaunchItem.{operated-word}

-- the item's id, in the only way in which it is written
is_true_not : (b : Bool) → not b ≡ true → b ≡ false
is_true_not false e = refl
is_true_not true e = absurd cc

zero_is : (e : ExprNode) → is_zero_literal e ≡ true → e ≡ NumberNode 0 false
zero_is (NumberNode n unsigned) e =
    let b = both_hold (not unsigned) (nat_eq n 0) e in
    let n_is : n ≡ 0 = eqb-true n 0 b.1 in
    let u_is : unsigned ≡ false = is_true_not unsigned b.0 in
    rw (n_is, u_is) refl
zero_is (VariableNode variable elem) e = absurd cc
zero_is (UnaryNode op part) e = absurd cc
zero_is (BinaryNode op unsigned l r) e = absurd cc
zero_is (BothNode l r) e = absurd cc
zero_is (EitherNode l r) e = absurd cc
zero_is (ChooseNode unsigned test one other) e = absurd cc
zero_is (CastNode elem part) e = absurd cc
zero_is (LoadNode array elem place pos) e = absurd cc
zero_is (CallNode call args) e = absurd cc
zero_is (BuiltinNode which unsigned args) e = absurd cc
zero_is (ParenNode part) e = absurd cc

args_are : (args : ArgNodes) → is_zero args ≡ true → args ≡ ValueArg (NumberNode 0 false) NoArgs
args_are NoArgs e = absurd cc
args_are (ArrayArg array more) e = absurd cc
args_are (ValueArg part NoArgs) e = ap (λ x. ValueArg x NoArgs) (zero_is part e)
args_are (ValueArg part (ValueArg part' more)) e = absurd cc
args_are (ValueArg part (ArrayArg array more)) e = absurd cc

which_is : (which : Builtin) → is_global_id which ≡ true → which ≡ builtin.GlobalId
which_is builtin.GlobalId e = refl
which_is builtin.WorkDim e = absurd cc
which_is builtin.LocalId e = absurd cc
which_is builtin.GroupId e = absurd cc
which_is builtin.GlobalSize e = absurd cc
which_is builtin.LocalSize e = absurd cc
which_is builtin.NumGroups e = absurd cc
which_is builtin.GlobalOffset e = absurd cc
which_is builtin.Min e = absurd cc
which_is builtin.Max e = absurd cc
which_is builtin.Clamp e = absurd cc
which_is builtin.Abs e = absurd cc
which_is builtin.MulHi e = absurd cc

-- the item's id, as an expression
abbrev own_id : Bool → ExprNode
own_id unsigned = BuiltinNode builtin.GlobalId unsigned (ValueArg (NumberNode 0 false) NoArgs)

own_id_is : (e : ExprNode) → is_own_id e ≡ true → (unsigned : Bool) × (e ≡ own_id unsigned)
own_id_is (BuiltinNode which unsigned args) e =
    let b = both_hold (is_global_id which) (is_zero args) e in
    let w = which_is which b.0 in
    let a = args_are args b.1 in
    (unsigned, rw (w, a) refl)
own_id_is (NumberNode n unsigned) e = absurd cc
own_id_is (VariableNode variable elem) e = absurd cc
own_id_is (UnaryNode op part) e = absurd cc
own_id_is (BinaryNode op unsigned l r) e = absurd cc
own_id_is (BothNode l r) e = absurd cc
own_id_is (EitherNode l r) e = absurd cc
own_id_is (ChooseNode unsigned test one other) e = absurd cc
own_id_is (CastNode elem part) e = absurd cc
own_id_is (LoadNode array elem place pos) e = absurd cc
own_id_is (CallNode call args) e = absurd cc
own_id_is (ParenNode part) e = absurd cc

-- an operator has the same value in both
operator_same : (op : BinOp) (o : Operator) → operator_of op ≡ Some o → (unsigned : Bool) (a b : ℕ) → binary_value op unsigned a b ≡ operated o a b
operator_same binary.Add Add e unsigned a b = refl
operator_same binary.Add Subtract e unsigned a b = absurd cc
operator_same binary.Add Multiply e unsigned a b = absurd cc
operator_same binary.Sub Subtract e unsigned a b = refl
operator_same binary.Sub Add e unsigned a b = absurd cc
operator_same binary.Sub Multiply e unsigned a b = absurd cc
operator_same binary.Mul Multiply e unsigned a b = refl
operator_same binary.Mul Add e unsigned a b = absurd cc
operator_same binary.Mul Subtract e unsigned a b = absurd cc
operator_same binary.Div o e unsigned a b = absurd cc
operator_same binary.Rem o e unsigned a b = absurd cc
operator_same binary.Shl o e unsigned a b = absurd cc
operator_same binary.Shr o e unsigned a b = absurd cc
operator_same binary.Lt o e unsigned a b = absurd cc
operator_same binary.Gt o e unsigned a b = absurd cc
operator_same binary.Le o e unsigned a b = absurd cc
operator_same binary.Ge o e unsigned a b = absurd cc
operator_same binary.Eq o e unsigned a b = absurd cc
operator_same binary.Ne o e unsigned a b = absurd cc
operator_same binary.And o e unsigned a b = absurd cc
operator_same binary.Xor o e unsigned a b = absurd cc
operator_same binary.Or o e unsigned a b = absurd cc

-- a first assignment and those behind it
pub followed_is : (a : Option Assigns) (more : Option (List Assigns)) (all : List Assigns) → followed a more ≡ Some all
    → (x : Assigns) × (xs : List Assigns) × (a ≡ Some x) × (more ≡ Some xs) × (x ∷ xs ≡ all)
followed_is (Some x) (Some xs) all e = (x, xs, refl, refl, cc)
followed_is (Some x) None all e = absurd cc
followed_is None more all e = absurd cc

-- the array of a parameter that is bound to the buffer of this number
abbrev pub int_buffer : ℕ → ℕ → ItemArray
int_buffer number count = record { local = false; number = number; count = count; elem = Int; writable = true }

module _ (program : List FunctionNode) (scope : Scope) (no_names : scope.arrays ≡ []) (at : Setting) (arrays : ℕ → ℕ) (item items n : ℕ)
    (few : item < 2 ^ 32) (inside : item < items) (id_is : at.id builtin.GlobalId 0 ≡ item)
    (arrays_are : (p : ℕ) → p < n → at.array (Parameter p) ≡ int_buffer (arrays p) items) where
  abbrev of_form : List Task → List ℕ → Item
  of_form ts vs = record { tasks = ts; values = vs }

  abbrev of_source : List SourceTask → List ℕ → (ℕ → ℕ) → ItemState
  of_source ts vs variables = record { tasks = ts; values = vs; variables = variables; turns = [] }

  -- the form with these tasks asks for what the program with those tasks asks for, over the same values
  abbrev Alike : List Task → List SourceTask → List ℕ → Type 0
  Alike ts ts' vs = (variables : ℕ → ℕ) → IsAlike (item_step arrays item) (source_step program at) (of_form ts vs) (of_source ts' vs variables)

  id_alike : (e : ExprNode) → is_own_id e ≡ true → (ts : List Task) (ts' : List SourceTask) (vs : List ℕ)
      → Alike ts ts' (item ∷ vs) → Alike (TakeId ∷ ts) (value_tasks program scope e ts') vs
  id_alike e own ts ts' vs on variables =
      let is = own_id_is e own in
      let called : IsAlike (item_step arrays item) (source_step program at) (of_form ts (item ∷ vs)) (of_source ts' (at.id builtin.GlobalId 0 ∷ vs) variables) = rw id_is (on variables) in
      rw is.1
      (alike_second (item_step arrays item) (source_step program at) (of_form (TakeId ∷ ts) vs)
      (of_source (task.Number 0 ∷ task.Call builtin.GlobalId is.0 ∷ ts') vs variables) (of_source (task.Call builtin.GlobalId is.0 ∷ ts') (0 ∷ vs) variables) refl
      (alike_both (item_step arrays item) (source_step program at) (of_form (TakeId ∷ ts) vs) (of_form ts (item ∷ vs))
      (of_source (task.Call builtin.GlobalId is.0 ∷ ts') (0 ∷ vs) variables) (of_source ts' (at.id builtin.GlobalId 0 ∷ vs) variables) refl refl called))

  -- a load of the item's own element
  load_alike : (p : ℕ) (pos : Pos) → p < n → scope.arrays ≡ [] → (ts : List Task) (ts' : List SourceTask) (vs : List ℕ)
      → ((v : ℕ) → v < 2 ^ 32 → Alike ts ts' (v ∷ vs)) → Alike (LoadFrom p ∷ ts) (task.Load (Parameter p) pos ∷ ts') (item ∷ vs)
  load_alike p pos below none ts ts' vs on variables =
      let array : ItemArray = int_buffer (arrays p) items in
      let there = lt-ltb item items inside in
      let place : item * 4 ≡ 4 * item = omega arith in
      let asks : source_step program at (of_source (task.Load (Parameter p) pos ∷ ts') (item ∷ vs) variables)
      ≡ Ask (LoadAction (Global (arrays p) (4 * item)) Four) (λ answer. of_source ts' (answer % 2 ^ 32 ∷ vs) variables) = rw (arrays_are p below, there, place) refl in
      alike_ask (item_step arrays item) (source_step program at) (of_form (LoadFrom p ∷ ts) (item ∷ vs)) (of_source (task.Load (Parameter p) pos ∷ ts') (item ∷ vs) variables)
      (LoadAction (Global (arrays p) (4 * item)) Four) (λ answer. of_form ts (answer % 2 ^ 32 ∷ vs)) (λ answer. of_source ts' (answer % 2 ^ 32 ∷ vs) variables) refl asks
      (λ answer. on (answer % 2 ^ 32) (mod-lt answer) variables)
    where
      mod-lt : (answer : ℕ) → answer % 2 ^ 32 < 2 ^ 32
      mod-lt answer = omega arith

  -- a store to the item's own element
  store_alike : (p : ℕ) (pos : Pos) → p < n → (ts : List Task) (ts' : List SourceTask) (v : ℕ) → v < 2 ^ 32
      → Alike ts ts' [] → Alike (StoreTo p ∷ ts) (task.Store (Parameter p) pos ∷ ts') (v ∷ item ∷ [])
  store_alike p pos below ts ts' v small on variables =
      let there = lt-ltb item items inside in
      let place : item * 4 ≡ 4 * item = omega arith in
      let word : v % 2 ^ 32 ≡ v = mod-eq_of_lt small in
      let asks : source_step program at (of_source (task.Store (Parameter p) pos ∷ ts') (v ∷ item ∷ []) variables)
      ≡ Ask (StoreAction (Global (arrays p) (4 * item)) Four v) (λ answer. of_source ts' [] variables) = rw (arrays_are p below, there, place, word) refl in
      alike_ask (item_step arrays item) (source_step program at) (of_form (StoreTo p ∷ ts) (v ∷ item ∷ [])) (of_source (task.Store (Parameter p) pos ∷ ts') (v ∷ item ∷ []) variables)
      (StoreAction (Global (arrays p) (4 * item)) Four v) (λ answer. of_form ts []) (λ answer. of_source ts' [] variables) refl asks
      (λ answer. on variables)

  -- an array of the kernel is its own
  array_same : (p : ℕ) → slice_index_or scope.arrays p (Parameter p) ≡ Parameter p
  array_same p = ap (λ xs. slice_index_or xs p (Parameter p)) no_names ∙ get_or-eq_default [] (Parameter p) {n = p} (omega arith)

  -- the item's own element of an array, as an expression
  load_node_alike : (array : ArrayRef) (place : ExprNode) (pos : Pos) (p : ℕ) → array ≡ Parameter p → is_own_id place ≡ true → p < n → (ts : List Task) (ts' : List SourceTask) (vs : List ℕ)
      → ((v : ℕ) → v < 2 ^ 32 → Alike ts ts' (v ∷ vs)) → Alike (TakeId ∷ LoadFrom p ∷ ts) (value_tasks program scope place (task.Load (array_in scope array) pos ∷ ts')) vs
  load_node_alike array place pos p array_is own below ts ts' vs on variables =
      let named : array_in scope array ≡ Parameter p = ap (array_in scope) array_is ∙ array_same p in
      let loads : Alike (LoadFrom p ∷ ts) (task.Load (array_in scope array) pos ∷ ts') (item ∷ vs) = rw named (load_alike p pos below no_names ts ts' vs on) in
      id_alike place own (LoadFrom p ∷ ts) (task.Load (array_in scope array) pos ∷ ts') vs loads variables

  -- what an expression asks for, and behind it what follows for each value
  sum_alike : (e : ExprNode) (t : Tree) → sum_from n e ≡ Some t → (ts : List Task) (ts' : List SourceTask) (vs : List ℕ)
      → ((v : ℕ) → v < 2 ^ 32 → Alike ts ts' (v ∷ vs)) → Alike (evaluation t ts) (value_tasks program scope e ts') vs
  sum_alike (NumberNode k unsigned) t e ts ts' vs on variables =
      let g = cond_is (not unsigned && ltb k (2 ^ 31)) (Literal k) t e in
      let b = both_hold (not unsigned) (ltb k (2 ^ 31)) g.0 in
      let small : k < 2 ^ 31 = ltb-true k (2 ^ 31) b.1 in
      subst (λ (x : Tree). IsAlike (item_step arrays item) (source_step program at) (of_form (evaluation x ts) vs) (of_source (task.Number k ∷ ts') vs variables)) g.1
      (alike_both (item_step arrays item) (source_step program at) (of_form (TakeNumber k ∷ ts) vs) (of_form ts (k ∷ vs))
      (of_source (task.Number k ∷ ts') vs variables) (of_source ts' (k ∷ vs) variables) refl refl (on k (omega arith) variables))
  sum_alike (BuiltinNode which unsigned args) t e ts ts' vs on variables =
      let g = cond_is (is_own_id (BuiltinNode which unsigned args)) OwnId t e in
      subst (λ (x : Tree). IsAlike (item_step arrays item) (source_step program at) (of_form (evaluation x ts) vs) (of_source (value_tasks program scope (BuiltinNode which unsigned args) ts') vs variables)) g.1
      (id_alike (BuiltinNode which unsigned args) g.0 ts ts' vs (on item few) variables)
  sum_alike (LoadNode array elem place pos) t e ts ts' vs on variables =
      let m = mapped_is OwnElement (own_parameter n array elem place) t e in
      let o = own_is n array elem place m.0 m.1 in
      subst (λ (x : Tree). IsAlike (item_step arrays item) (source_step program at) (of_form (evaluation x ts) vs) (of_source (value_tasks program scope (LoadNode array elem place pos) ts') vs variables)) m.2
      (load_node_alike array place pos m.0 o.0 o.2 o.3 ts ts' vs on variables)
  sum_alike (ParenNode part) t e ts ts' vs on variables =
      let m = mapped_is Grouped (sum_from n part) t e in
      subst (λ (x : Tree). IsAlike (item_step arrays item) (source_step program at) (of_form (evaluation x ts) vs) (of_source (value_tasks program scope part ts') vs variables)) m.2
      (sum_alike part m.0 m.1 ts ts' vs on variables)
  sum_alike (BinaryNode op unsigned l r) t e ts ts' vs on variables =
      let a = applied_is (operator_of op) (sum_from n l) (sum_from n r) t e in
      let operates : (x : ℕ) → x < 2 ^ 32 → (y : ℕ) → y < 2 ^ 32 → Alike (Operate a.0 ∷ ts) (task.Binary op unsigned ∷ ts') (y ∷ x ∷ vs) = λ x sx y sy variables'.
      let same = operator_same op a.0 a.3 unsigned x y in
      alike_both (item_step arrays item) (source_step program at) (of_form (Operate a.0 ∷ ts) (y ∷ x ∷ vs)) (of_form ts (operated a.0 x y ∷ vs))
      (of_source (task.Binary op unsigned ∷ ts') (y ∷ x ∷ vs) variables') (of_source ts' (operated a.0 x y ∷ vs) variables') refl (ap (λ v. Go (of_source ts' (v ∷ vs) variables')) same)
      (on (operated a.0 x y) (operated-word a.0 x y sx sy) variables') in
      let right : (x : ℕ) → x < 2 ^ 32 → Alike (evaluation a.2 (Operate a.0 ∷ ts)) (value_tasks program scope r (task.Binary op unsigned ∷ ts')) (x ∷ vs) = λ x sx.
      sum_alike r a.2 a.5 (Operate a.0 ∷ ts) (task.Binary op unsigned ∷ ts') (x ∷ vs) (operates x sx) in
      subst (λ (x : Tree). IsAlike (item_step arrays item) (source_step program at) (of_form (evaluation x ts) vs) (of_source (value_tasks program scope (BinaryNode op unsigned l r) ts') vs variables)) a.6
      (sum_alike l a.1 a.4 (evaluation a.2 (Operate a.0 ∷ ts)) (value_tasks program scope r (task.Binary op unsigned ∷ ts')) vs right variables)
  sum_alike (VariableNode variable elem) t e ts ts' vs on variables = absurd cc
  sum_alike (UnaryNode op part) t e ts ts' vs on variables = absurd cc
  sum_alike (BothNode l r) t e ts ts' vs on variables = absurd cc
  sum_alike (EitherNode l r) t e ts ts' vs on variables = absurd cc
  sum_alike (ChooseNode unsigned test one other) t e ts ts' vs on variables = absurd cc
  sum_alike (CastNode elem part) t e ts ts' vs on variables = absurd cc
  sum_alike (CallNode call args) t e ts ts' vs on variables = absurd cc

  -- a statement: the item's own id, the value, the store
  stmt_alike : (s : StmtNode) (a : Assigns) → assignment_from n s ≡ Some a → (ts : List Task) (ts' : List SourceTask) → Alike ts ts' []
      → Alike (TakeId ∷ evaluation a.value (StoreTo a.parameter ∷ ts)) (stmt_tasks program scope s ts') []
  stmt_alike (SetElementNode array elem place Set unsigned (Some value) pos) a e ts ts' on variables =
      let is = assignment_is n array elem place value unsigned pos a e in
      let p : ℕ = a.parameter in
      let store : SourceTask = task.Store (array_in scope array) pos in
      let named : array_in scope array ≡ Parameter p = ap (array_in scope) is.array_is ∙ array_same p in
      let stores : (v : ℕ) → v < 2 ^ 32 → Alike (StoreTo p ∷ ts) (store ∷ ts') (v ∷ item ∷ []) = λ v small. rw named (store_alike p pos is.within ts ts' v small on) in
      let computes : Alike (evaluation a.value (StoreTo p ∷ ts)) (value_tasks program scope value (store ∷ ts')) (item ∷ []) =
      sum_alike value a.value is.sum (StoreTo p ∷ ts) (store ∷ ts') (item ∷ []) stores in
      id_alike place is.own (evaluation a.value (StoreTo p ∷ ts)) (value_tasks program scope value (store ∷ ts')) [] computes variables
  stmt_alike (SetElementNode array elem place Set unsigned None pos) a e ts ts' on variables = absurd cc
  stmt_alike (SetElementNode array elem place (With op) unsigned value pos) a e ts ts' on variables = absurd cc
  stmt_alike (SetElementNode array elem place Up unsigned value pos) a e ts ts' on variables = absurd cc
  stmt_alike (SetElementNode array elem place Down unsigned value pos) a e ts ts' on variables = absurd cc
  stmt_alike (DeclareNode variable elem value) a e ts ts' on variables = absurd cc
  stmt_alike (LocalArrayNode array count) a e ts ts' on variables = absurd cc
  stmt_alike (SetVariableNode variable elem op unsigned value) a e ts ts' on variables = absurd cc
  stmt_alike (CallStmtNode call) a e ts ts' on variables = absurd cc
  stmt_alike (BarrierNode site) a e ts ts' on variables = absurd cc
  stmt_alike (IfNode test one) a e ts ts' on variables = absurd cc
  stmt_alike (IfElseNode test one other) a e ts ts' on variables = absurd cc
  stmt_alike (WhileNode test body) a e ts ts' on variables = absurd cc
  stmt_alike (DoNode body test) a e ts ts' on variables = absurd cc
  stmt_alike (ForNode first test step body) a e ts ts' on variables = absurd cc
  stmt_alike BreakNode a e ts ts' on variables = absurd cc
  stmt_alike ContinueNode a e ts ts' on variables = absurd cc
  stmt_alike (ReturnNode value) a e ts ts' on variables = absurd cc
  stmt_alike (BlockNode items') a e ts ts' on variables = absurd cc
  stmt_alike EmptyNode a e ts ts' on variables = absurd cc

  -- the whole body
  pub body_alike : (body : StmtNodes) (all : List Assigns) → assignments_from n body ≡ Some all → Alike (body_tasks all) (stmts_tasks program scope body []) []
  body_alike NoStmts all e variables =
      let none : [] ≡ all = cc in
      rw (sym none)
      (alike_stop (item_step arrays item) (source_step program at) (of_form [] []) (of_source [] [] variables) End refl refl)
  body_alike (AndStmt s ss) all e variables =
      let f = followed_is (assignment_from n s) (assignments_from n ss) all e in
      let more = body_alike ss f.1 f.3 in
      rw (sym f.4) (stmt_alike s f.0 f.2 (body_tasks f.1) (stmts_tasks program scope ss []) more variables)
