-- Which resolved kernels are kernels of assignments.
use Rattle.std.specs.Prelude.{◌≡◌, ◌==◌, ℕ, ◌^◌, ◌≤◌, nat_lt, nat_le, Bool, true, false, not, ◌&&◌, if◌then◌else◌, List, [], ◌∷◌, length, Option, Some, None, option_map, option_and_then, Result, Ok, Err}
use Rattle.std.specs.List.{AllByRecursion, list_all}
use Rattle.vx_base.specs.declared.types.Elem.{Elem}
use Rattle.vx_base.specs.declared.types.Elem.TheVariants.{Int}
use Rattle.vx_base.specs.declared.types.ParamKind.{ParamKind}
use Rattle.vx_base.specs.declared.types.ParamKind.TheVariants.{Pointer}
use Rattle.vx_base.specs.declared.types.Space.TheVariants.{Global}
use Rattle.ocl_ast.specs.declared.exprs.BinOp.{BinOp}
use Rattle.ocl_ast.specs.declared.exprs.BinOp.TheVariants as binary
use Rattle.ocl_ast.specs.declared.stmts.AssignOp.TheVariants.{Set}
use Rattle.ocl_ast.specs.declared.units.Param.{Param}
use Rattle.ocl_program.specs.declared.exprs.ArrayRef.{ArrayRef}
use Rattle.ocl_program.specs.declared.exprs.ArrayRef.TheVariants.{Parameter}
use Rattle.ocl_program.specs.declared.exprs.Builtin.{Builtin}
use Rattle.ocl_program.specs.declared.exprs.Builtin.TheVariants.{GlobalId}
use Rattle.ocl_program.specs.Nodes.{ExprNode, NumberNode, BuiltinNode, LoadNode, ParenNode, BinaryNode, ArgNodes, NoArgs, ValueArg, StmtNode, SetElementNode, StmtNodes, NoStmts, AndStmt, FunctionNode}
use Rattle.first_kernels.specs.declared.tree.Operator.{Operator}
use Rattle.first_kernels.specs.declared.tree.Operator.TheVariants.{Add, Subtract, Multiply}
use Rattle.first_kernels.specs.declared.unread.Unread.{Unread}
use Rattle.first_kernels.specs.declared.unread.Unread.TheVariants.{Memory, OtherForm}
use Rattle.first_kernels.specs.FirstValues.{IsAssignmentOf}
use Rattle.first_kernels.specs.FirstTree.{Tree, Literal, OwnId, OwnElement, Grouped, Applied, Assigns, Form, height}

-- a failure tells that there is nothing, unless memory ran out
abbrev pub Fails : {Y : Type 0} → Unread → Option Y → Type 0
Fails Memory made = Unit {0}
Fails OtherForm made = made ≡ None

-- What a function returned, seen by view, is what there is, unless memory ran out.
abbrev pub Gives : {X Y : Type 0} → (X → Y) → Result X Unread → Option Y → Type 0
Gives view (Ok x) made = made ≡ Some (view x)
Gives view (Err e) made = Fails e made

abbrev pub is_zero_literal : ExprNode → Bool
is_zero_literal (NumberNode n unsigned) = not unsigned && n == 0
is_zero_literal e = false

-- whether the arguments of a call are `0` alone
abbrev pub is_zero : ArgNodes → Bool
is_zero (ValueArg e NoArgs) = is_zero_literal e
is_zero args = false

abbrev pub is_global_id : Builtin → Bool
is_global_id GlobalId = true
is_global_id _ = false

-- whether an expression is `get_global_id(0)`
abbrev pub is_own_id : ExprNode → Bool
is_own_id (BuiltinNode which unsigned args) = is_global_id which && is_zero args
is_own_id e = false

abbrev pub operator_of : BinOp → Option Operator
operator_of binary.Add = Some Add
operator_of binary.Sub = Some Subtract
operator_of binary.Mul = Some Multiply
operator_of _ = None

-- a literal of type int below 2^31
abbrev pub literal_from : ℕ → Bool → Option Tree
literal_from n unsigned = if not unsigned && nat_lt n (2 ^ 31) then Some (Literal n) else None

-- the number of the parameter whose array has an element, where the element is the item's own and an int
abbrev pub own_parameter : ℕ → ArrayRef → Elem → ExprNode → Option ℕ
own_parameter parameters (Parameter p) Int place = if is_own_id place && nat_lt p parameters then Some p else None
own_parameter parameters array elem place = None

-- two sums with an operator between them, where there are all three
abbrev pub applied : Option Operator → Option Tree → Option Tree → Option Tree
applied (Some op) (Some l) (Some r) = Some (Applied op l r)
applied op l r = None

-- the sum that an expression over so many parameters is: of literals of type int, the item's own id and elements
abbrev pub sum_from : ℕ → ExprNode → Option Tree
sum_from parameters (NumberNode n unsigned) = literal_from n unsigned
sum_from parameters (BuiltinNode which unsigned args) = if is_own_id (BuiltinNode which unsigned args) then Some OwnId else None
sum_from parameters (LoadNode array elem place pos) = option_map OwnElement (own_parameter parameters array elem place)
sum_from parameters (ParenNode e) = option_map Grouped (sum_from parameters e)
sum_from parameters (BinaryNode op unsigned l r) = applied (operator_of op) (sum_from parameters l) (sum_from parameters r)
sum_from parameters e = None

-- the most that a sum's height may be
abbrev pub most_height : ℕ
most_height = 16

-- a sum whose height is within the limit, assigned to the element of a parameter's array
abbrev pub assigned : ℕ → Option Tree → Option Assigns
assigned p (Some sum) = if nat_le (height sum) most_height then Some (record { parameter = p; value = sum }) else None
assigned p None = None

-- the assignment that a statement is
abbrev pub assignment_from : ℕ → StmtNode → Option Assigns
assignment_from parameters (SetElementNode array elem place Set unsigned (Some value) pos) =
    option_and_then (λ p. assigned p (sum_from parameters value)) (own_parameter parameters array elem place)
assignment_from parameters s = None

abbrev pub followed : Option Assigns → Option (List Assigns) → Option (List Assigns)
followed (Some a) (Some more) = Some (a ∷ more)
followed a more = None

-- the assignments that statements are, all of them
abbrev pub assignments_from : ℕ → StmtNodes → Option (List Assigns)
assignments_from parameters NoStmts = Some []
assignments_from parameters (AndStmt s ss) = followed (assignment_from parameters s) (assignments_from parameters ss)

-- whether a parameter takes an array of ints to which the kernel may store
abbrev pub takes_ints : ParamKind → Bool
takes_ints (Pointer Global Int false) = true
takes_ints k = false

abbrev pub is_int_array : Param → Bool
is_int_array p = takes_ints p.kind

abbrev pub most_parameters : ℕ
most_parameters = 16

-- there are parameters, and no more than there may be
abbrev pub is_count : ℕ → Bool
is_count n = nat_lt 0 n && nat_le n most_parameters

-- whether there are so many parameters, and each takes an array of ints
abbrev pub has_int_arrays : List Param → Bool
has_int_arrays ps = is_count (length ps) && list_all (λ p. is_int_array p) ps

abbrev pub formed : ℕ → Option (List Assigns) → Option Form
formed parameters all = option_map (λ assignments. record { parameters = parameters; assignments = assignments }) all

-- The form of a kernel of assignments, where a kernel is one: each of its parameters is an array of ints, and each of its
-- statements assigns a sum to the item's own element of one of them.
abbrev pub form_from : FunctionNode → Option Form
form_from f = if has_int_arrays f.params then formed (length f.params) (assignments_from (length f.params) f.body) else None

-- what holds of each such form: few parameters, assignments to their elements, and low sums
pub record IsFit (k : Form) : Type 0 where
  pub few : k.parameters ≤ most_parameters
  pub assignments : AllByRecursion (IsAssignmentOf k.parameters) k.assignments
  pub low : AllByRecursion (λ a. height a.value ≤ most_height) k.assignments
