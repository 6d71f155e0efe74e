-- The typing of statements. A function's own variables, barriers, arrays and calls are numbered as they are met; the scopes are listed
-- innermost first. A statement's faults come in the order of their places.
use Rattle.std.specs.Prelude.{ℕ, ◌+◌, ◌<◌, ◌≤◌, ◌==◌, nat_le, Bool, true, false, ◌&&◌, not, is_some, if◌then◌else◌, List, [], ◌∷◌, ◌++◌, length, slice_get, Option, None, Some, Result, Ok, Err}
use Rattle.vx_base.specs.declared.types.Elem.{Elem}
use Rattle.vx_base.specs.declared.types.Pos.{Pos}
use Rattle.vx_base.specs.declared.types.Space.TheVariants.{Local}
use Rattle.ocl_ast.specs.Trees.{ExprTree, NumberTree, UnaryTree, BinaryTree, BothTree, EitherTree, ParenTree, TargetTree, NameTarget, IndexTarget, StmtTree, DeclareTree, LocalArrayTree, AssignTree, CallStmtTree, BarrierTree, IfTree, IfElseTree, WhileTree, DoTree, ForTree, BreakTree, ContinueTree, ReturnTree, BlockTree, EmptyTree, StmtTrees, NoStmts, AndStmt, FunctionTree}
use Rattle.ocl_ast.specs.declared.exprs.Ident.{Ident}
use Rattle.ocl_ast.specs.declared.stmts.AssignOp.{AssignOp}
use Rattle.ocl_ast.specs.declared.stmts.AssignOp.TheVariants.{Set, With, Up, Down}
use Rattle.ocl_ast.specs.declared.units.Gives.{Gives}
use Rattle.ocl_ast.specs.declared.units.Gives.TheVariants.{Nothing, Value}
use Rattle.ocl_program.specs.declared.exprs.ArrayRef.{ArrayRef}
use Rattle.ocl_program.specs.declared.exprs.ArrayRef.TheVariants.{Parameter, Declared}
use Rattle.ocl_program.specs.declared.functions.LocalArray.{LocalArray}
use Rattle.ocl_program.specs.Nodes.{ExprNode, NumberNode, UnaryNode, BinaryNode, BothNode, EitherNode, ParenNode, StmtNode, DeclareNode, LocalArrayNode, SetVariableNode, SetElementNode, CallStmtNode, BarrierNode, IfNode, IfElseNode, WhileNode, DoNode, ForNode, BreakNode, ContinueNode, ReturnNode, BlockNode, EmptyNode, stmt_nodes}
use Rattle.ocl_program.specs.Values.{binary_value, unary_value}
use Rattle.ocl_program.specs.Measures.{cut}
use Rattle.ocl_types.specs.declared.changes.WritableArray.{WritableArray}
use Rattle.ocl_types.specs.declared.faults.TypeFault.{TypeFault}
use Rattle.ocl_types.specs.declared.faults.TypeFault.TheVariants.{Unknown, Twice, Mismatch}
use Rattle.ocl_types.specs.declared.names.Binding.{Binding}
use Rattle.ocl_types.specs.declared.names.Binding.TheVariants.{Scalar as ScalarBinding, Array as ArrayBinding}
use Rattle.ocl_types.specs.declared.names.Meaning.{Meaning}
use Rattle.ocl_types.specs.declared.names.Meaning.TheVariants.{Bound, Function, Builtin as BuiltinMeaning, Unknown as UnknownMeaning}
use Rattle.ocl_types.specs.Names.{Scope, entry_named, meaning_of}
use Rattle.ocl_types.specs.Exprs.{◌>>=◌, Typed, MaybeTyped, is_uint, on_uint, typed, typed_call, typed_option}

-- where a statement stands
pub record Place : Type 0 where
  pub functions : List FunctionTree
  pub gives : Gives
  -- whether a loop is round it
  pub in_loop : Bool
  -- whether it is an item of the outermost block of a kernel
  pub outermost : Bool

-- what a function has so far
pub record Standing : Type 0 where
  pub scopes : List Scope
  pub variables : ℕ
  pub sites : ℕ
  pub arrays : List LocalArray
  pub calls : List ℕ

-- ---- scopes

abbrev pub innermost : List Scope → Scope
innermost [] = []
innermost (scope ∷ outer) = scope

abbrev pub outer_scopes : List Scope → List Scope
outer_scopes [] = []
outer_scopes (scope ∷ outer) = outer

abbrev pub with_entry : List ℕ → Binding → List Scope → List Scope
with_entry name binding scopes = (innermost scopes ++ (name, binding) ∷ []) ∷ outer_scopes scopes

-- a name of its own for the innermost scope, of a variable or an array
abbrev pub declared : Ident → Binding → Standing → Result Standing TypeFault
declared name binding st =
    if is_some (entry_named name.text (innermost st.scopes)) then Err (Twice name.pos)
    else Ok (record st { scopes = with_entry name.text binding st.scopes })

abbrev pub one_more : ℕ → ℕ
one_more n = cut (n + 1)

abbrev pub declared_variable : Ident → (ℕ → Binding) → Standing → Result Standing TypeFault
declared_variable name binding st = declared name (binding st.variables) st >>= λ now. Ok (record now { variables = one_more now.variables })

abbrev pub opened : Standing → Standing
opened st = record st { scopes = [] ∷ st.scopes }

abbrev pub closed : Standing → Standing
closed st = record st { scopes = outer_scopes st.scopes }

abbrev pub with_calls : List ℕ → Standing → Standing
with_calls calls st = record st { calls = calls }

-- ---- counts of arrays

-- A count is built of numbers, unary and binary operators and parentheses.
abbrev pub is_count : ExprTree → Bool
is_count (NumberTree value unsigned pos) = true
is_count (UnaryTree op part pos) = is_count part
is_count (BinaryTree op left right pos) = is_count left && is_count right
is_count (BothTree left right pos) = is_count left && is_count right
is_count (EitherTree left right pos) = is_count left && is_count right
is_count (ParenTree part pos) = is_count part
is_count e = false

-- the value of such an expression, as a word
abbrev pub count_value : ExprNode → ℕ
count_value (NumberNode value unsigned) = value
count_value (UnaryNode op part) = unary_value op (count_value part)
count_value (BinaryNode op unsigned left right) = binary_value op unsigned (count_value left) (count_value right)
count_value (BothNode left right) = if count_value left == 0 then 0 else if count_value right == 0 then 0 else 1
count_value (EitherNode left right) = if count_value left == 0 then (if count_value right == 0 then 0 else 1) else 1
count_value (ParenNode part) = count_value part
count_value e = 0

-- the greatest count
abbrev pub most_elements : ℕ
most_elements = 262144

abbrev pub checked_count : Pos → Bool → ExprNode → Result ExprNode TypeFault
checked_count pos outermost count =
    if outermost && (nat_le 1 (count_value count) && nat_le (count_value count) most_elements) then Ok count else Err (Mismatch pos)

-- a count in its place; no name in it is looked up
abbrev pub typed_count : Place → Pos → ExprTree → Result ExprNode TypeFault
typed_count place pos count =
    if is_count count then (typed place.functions [] [] count >>= λ t. checked_count pos place.outermost t.expr) else Err (Mismatch pos)

-- ---- assignments

-- what is changed: a variable, or an element of an array
pub data Changed : Type 0 where
  Variable : ℕ → Changed
  Element : ArrayRef → ExprNode → Pos → Changed

pub record TypedTarget : Type 0 where
  pub what : Changed
  pub elem : Elem
  pub calls : List ℕ

-- a name that is assigned
abbrev pub assigned_name : Pos → List ℕ → Meaning → Result TypedTarget TypeFault
assigned_name pos calls (Bound (ScalarBinding variable elem constant)) =
    if constant then Err (Mismatch pos) else Ok (record { what = Variable variable; elem = elem; calls = calls })
assigned_name pos calls (Bound (ArrayBinding array space elem readonly)) = Err (Mismatch pos)
assigned_name pos calls (Function k) = Err (Mismatch pos)
assigned_name pos calls (BuiltinMeaning b) = Err (Unknown pos)
assigned_name pos calls UnknownMeaning = Err (Unknown pos)

-- an array of which an element is assigned
abbrev pub assigned_array : Pos → Meaning → Result WritableArray TypeFault
assigned_array pos (Bound (ScalarBinding variable elem constant)) = Err (Mismatch pos)
assigned_array pos (Bound (ArrayBinding array space elem readonly)) = if readonly then Err (Mismatch pos) else Ok (record { array = array; elem = elem })
assigned_array pos (Function k) = Err (Mismatch pos)
assigned_array pos (BuiltinMeaning b) = Err (Unknown pos)
assigned_array pos UnknownMeaning = Err (Unknown pos)

abbrev pub typed_target : List FunctionTree → List Scope → List ℕ → TargetTree → Result TypedTarget TypeFault
typed_target fs ss calls (NameTarget name) = assigned_name name.pos calls (meaning_of fs ss name.text)
typed_target fs ss calls (IndexTarget array place pos) =
    assigned_array array.pos (meaning_of fs ss array.text) >>= λ a. typed fs ss calls place >>= λ p.
    Ok (record { what = Element a.array p.expr pos; elem = a.elem; calls = p.calls })

-- whether the operator before the `=` works on uint
abbrev pub change_on_uint : AssignOp → Elem → Elem → Bool
change_on_uint (With op) target value = on_uint op target value
change_on_uint Set target value = is_uint target
change_on_uint Up target value = is_uint target
change_on_uint Down target value = is_uint target

abbrev pub change_node : TypedTarget → AssignOp → MaybeTyped → Changed → StmtNode
change_node t op value (Variable variable) = SetVariableNode variable t.elem op (change_on_uint op t.elem value.elem) value.expr
change_node t op value (Element array place pos) = SetElementNode array t.elem place op (change_on_uint op t.elem value.elem) value.expr pos

-- ---- jumps

abbrev pub jump_in : Bool → Pos → StmtNode → Standing → Result (StmtNode × Standing) TypeFault
jump_in in_loop pos jump st = if in_loop then Ok (jump, st) else Err (Mismatch pos)

-- a value where the function gives none, or none where it gives one
abbrev pub returned : Gives → Pos → Option ExprTree → Result (Unit {0}) TypeFault
returned Nothing pos None = Ok tt
returned Nothing pos (Some e) = Err (Mismatch pos)
returned (Value elem) pos None = Err (Mismatch pos)
returned (Value elem) pos (Some e) = Ok tt

-- ---- statements

abbrev pub inner : Place → Place
inner place = record place { outermost = false }

abbrev pub in_turn : Place → Place
in_turn place = record place { in_loop = true; outermost = false }

-- what an expression leaves of a function's state
abbrev pub expr_in : Place → Standing → ExprTree → Result Typed TypeFault
expr_in place st e = typed place.functions st.scopes st.calls e

abbrev pub option_in : Place → Standing → Option ExprTree → Result MaybeTyped TypeFault
option_in place st e = typed_option place.functions st.scopes st.calls e

abbrev mutual
  pub typed_stmt : Place → Standing → StmtTree → Result (StmtNode × Standing) TypeFault
  typed_stmt place st (DeclareTree elem constant name value) =
      declared_variable name (λ variable. ScalarBinding variable elem constant) st >>= λ now. option_in place now value >>= λ v.
      Ok (DeclareNode st.variables elem v.expr, with_calls v.calls now)
  typed_stmt place st (LocalArrayTree elem name count) =
      declared_variable name (λ variable. ArrayBinding (Declared (cut (length st.arrays))) Local elem false) st >>= λ now.
      typed_count place name.pos count >>= λ c.
      Ok (LocalArrayNode (cut (length st.arrays)) c, record now { arrays = now.arrays ++ record { elem = elem; count = count_value c } ∷ [] })
  typed_stmt place st (AssignTree target op value pos) =
      typed_target place.functions st.scopes st.calls target >>= λ t. typed_option place.functions st.scopes t.calls value >>= λ v.
      Ok (change_node t op v t.what, with_calls v.calls st)
  typed_stmt place st (CallStmtTree name args) = typed_call place.functions st.scopes st.calls name args >>= λ c.
      Ok (CallStmtNode c.expr, with_calls c.calls st)
  typed_stmt place st (BarrierTree pos) = Ok (BarrierNode st.sites, record st { sites = one_more st.sites })
  typed_stmt place st (IfTree test one) = expr_in place st test >>= λ t. typed_stmt (inner place) (with_calls t.calls st) one >>= λ a.
      Ok (IfNode t.expr a.0, a.1)
  typed_stmt place st (IfElseTree test one other) = expr_in place st test >>= λ t. typed_stmt (inner place) (with_calls t.calls st) one >>= λ a.
      typed_stmt (inner place) a.1 other >>= λ b. Ok (IfElseNode t.expr a.0 b.0, b.1)
  typed_stmt place st (WhileTree test body) = expr_in place st test >>= λ t. typed_stmt (in_turn place) (with_calls t.calls st) body >>= λ b.
      Ok (WhileNode t.expr b.0, b.1)
  typed_stmt place st (DoTree body test) = typed_stmt (in_turn place) st body >>= λ b. expr_in place b.1 test >>= λ t.
      Ok (DoNode b.0 t.expr, with_calls t.calls b.1)
  typed_stmt place st (ForTree first test step body) =
      typed_stmts (inner place) [] (opened st) first >>= λ f. option_in place f.1 test >>= λ t.
      typed_stmts (inner place) [] (with_calls t.calls f.1) step >>= λ s. typed_stmt (in_turn place) s.1 body >>= λ b.
      Ok (ForNode (stmt_nodes f.0) t.expr (stmt_nodes s.0) b.0, closed b.1)
  typed_stmt place st (BreakTree pos) = jump_in place.in_loop pos BreakNode st
  typed_stmt place st (ContinueTree pos) = jump_in place.in_loop pos ContinueNode st
  typed_stmt place st (ReturnTree value pos) = returned place.gives pos value >>= λ _. option_in place st value >>= λ v.
      Ok (ReturnNode v.expr, with_calls v.calls st)
  typed_stmt place st (BlockTree items) = typed_stmts (inner place) [] (opened st) items >>= λ b. Ok (BlockNode (stmt_nodes b.0), closed b.1)
  typed_stmt place st EmptyTree = Ok (EmptyNode, st)

  -- statements in order, behind those before them
  pub typed_stmts : Place → List StmtNode → Standing → StmtTrees → Result (List StmtNode × Standing) TypeFault
  typed_stmts place before st NoStmts = Ok (before, st)
  typed_stmts place before st (AndStmt s ss) = typed_stmt place st s >>= λ d. typed_stmts place (before ++ d.0 ∷ []) d.1 ss
