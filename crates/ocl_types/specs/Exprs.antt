-- The typing of expressions. The functions of the file and the scopes say what names stand for. The callees of the function so far
-- are carried along, and a call is numbered when its arguments are typed. The first fault met is the answer: parts stand before the
-- whole, from left to right.
use Rattle.std.specs.Prelude.{ℕ, zero, suc, ◌+◌, ◌==◌, Bool, true, false, ◌||◌, ◌&&◌, not, if◌then◌else◌, List, [], ◌∷◌, ◌++◌, map, length, find, zip, option_map, slice_get, Option, None, Some, Result, Ok, Err}
use Rattle.std.specs.List.{list_any}
use Rattle.vx_base.specs.declared.types.Elem.{Elem}
use Rattle.vx_base.specs.declared.types.Elem.TheVariants.{Char, Uchar, Short, Ushort, Int, Uint}
use Rattle.vx_base.specs.declared.types.ParamKind.{ParamKind}
use Rattle.vx_base.specs.declared.types.ParamKind.TheVariants.{Scalar, Pointer}
use Rattle.vx_base.specs.declared.types.Pos.{Pos}
use Rattle.vx_base.specs.declared.types.Space.{Space}
use Rattle.vx_base.specs.declared.types.Space.TheVariants.{Global, Constant, Local}
use Rattle.ocl_ast.specs.Trees.{ExprTree, NumberTree, NameTree, UnaryTree, BinaryTree, BothTree, EitherTree, ChooseTree, CastTree, IndexTree, CallTree, ParenTree, ArgTrees, NoArgs, AndArg, FunctionTree}
use Rattle.ocl_ast.specs.declared.exprs.BinOp.{BinOp}
use Rattle.ocl_ast.specs.declared.exprs.BinOp.TheVariants.{Mul, Div, Rem, Add, Sub, Shl, Shr, Lt, Gt, Le, Ge, Eq, Ne, And, Xor, Or}
use Rattle.ocl_ast.specs.declared.exprs.Ident.{Ident}
use Rattle.ocl_ast.specs.declared.exprs.UnOp.{UnOp}
use Rattle.ocl_ast.specs.declared.exprs.UnOp.TheVariants.{Plus, Minus, Not, Flip}
use Rattle.ocl_ast.specs.declared.units.Gives.{Gives}
use Rattle.ocl_ast.specs.declared.units.Gives.TheVariants.{Nothing, Value}
use Rattle.ocl_ast.specs.declared.units.Param.{Param}
use Rattle.ocl_program.specs.declared.exprs.ArrayRef.{ArrayRef}
use Rattle.ocl_program.specs.declared.exprs.Builtin.{Builtin}
use Rattle.ocl_program.specs.declared.exprs.Builtin.TheVariants.{WorkDim, GlobalId, LocalId, GroupId, GlobalSize, LocalSize, NumGroups, GlobalOffset, Min, Max, Clamp, Abs, MulHi}
use Rattle.ocl_program.specs.Nodes.{ExprNode, NumberNode, VariableNode, UnaryNode, BinaryNode, BothNode, EitherNode, ChooseNode, CastNode, LoadNode, CallNode, BuiltinNode, ParenNode, ArgNode, ValueNode, ArrayNode, arg_nodes}
use Rattle.ocl_program.specs.Measures.{cut}
use Rattle.ocl_types.specs.declared.faults.TypeFault.{TypeFault}
use Rattle.ocl_types.specs.declared.faults.TypeFault.TheVariants.{Unknown, Twice, Mismatch}
use Rattle.ocl_types.specs.declared.names.Binding.{Binding}
use Rattle.ocl_types.specs.declared.names.Binding.TheVariants.{Scalar as ScalarBinding, Array as ArrayBinding}
use Rattle.ocl_types.specs.declared.names.FoundArray.{FoundArray}
use Rattle.ocl_types.specs.declared.names.Given.{Given}
use Rattle.ocl_types.specs.declared.names.Given.TheVariants.{Value as ValueGiven, Array as ArrayGiven}
use Rattle.ocl_types.specs.declared.names.Meaning.{Meaning}
use Rattle.ocl_types.specs.declared.names.Meaning.TheVariants.{Bound, Function, Builtin as BuiltinMeaning, Unknown as UnknownMeaning}
use Rattle.ocl_types.specs.Names.{Scope, meaning_of, is_fixed}

infixl 10 ◌>>=◌
abbrev pub ◌>>=◌ : {A B : Type 0} → Result A TypeFault → (A → Result B TypeFault) → Result B TypeFault
Ok x >>= f = f x
Err fault >>= f = Err fault

-- ---- types

-- whether a type is uint once it is promoted: what is smaller than int becomes int (C99, section 6.3.1.1)
abbrev pub is_uint : Elem → Bool
is_uint Char = false
is_uint Uchar = false
is_uint Short = false
is_uint Ushort = false
is_uint Int = false
is_uint Uint = true

-- int or uint
abbrev pub word_type : Bool → Elem
word_type unsigned = if unsigned then Uint else Int

-- whether the common type of two is uint (C99, section 6.3.1.8)
abbrev pub meet : Elem → Elem → Bool
meet a b = is_uint a || is_uint b

abbrev pub unary_type : UnOp → Elem → Elem
unary_type Plus part = word_type (is_uint part)
unary_type Minus part = word_type (is_uint part)
unary_type Not part = Int
unary_type Flip part = word_type (is_uint part)

-- whether an operator works on uint: a shift by its left side, every other by the common type
abbrev pub on_uint : BinOp → Elem → Elem → Bool
on_uint Shl left right = is_uint left
on_uint Shr left right = is_uint left
on_uint op left right = meet left right

-- whether an operator gives 0 or 1 (C99, sections 6.5.8 and 6.5.9)
abbrev pub is_comparison : BinOp → Bool
is_comparison Lt = true
is_comparison Gt = true
is_comparison Le = true
is_comparison Ge = true
is_comparison Eq = true
is_comparison Ne = true
is_comparison op = false

abbrev pub binary_type : BinOp → Elem → Elem → Elem
binary_type op left right = if is_comparison op then Int else word_type (on_uint op left right)

-- ---- names

-- a typed expression, and the callees of its function up to it
pub record Typed : Type 0 where
  pub expr : ExprNode
  pub elem : Elem
  pub calls : List ℕ

-- a name that is used as a variable
abbrev pub variable_of : Pos → List ℕ → Meaning → Result Typed TypeFault
variable_of pos calls (Bound (ScalarBinding variable elem constant)) = Ok (record { expr = VariableNode variable elem; elem = elem; calls = calls })
variable_of pos calls (Bound (ArrayBinding array space elem readonly)) = Err (Mismatch pos)
variable_of pos calls (Function k) = Err (Mismatch pos)
variable_of pos calls (BuiltinMeaning b) = Err (Unknown pos)
variable_of pos calls UnknownMeaning = Err (Unknown pos)

-- a name that is indexed
abbrev pub array_of : Pos → Meaning → Result FoundArray TypeFault
array_of pos (Bound (ScalarBinding variable elem constant)) = Err (Mismatch pos)
array_of pos (Bound (ArrayBinding array space elem readonly)) = Ok (record { array = array; space = space; elem = elem; readonly = readonly })
array_of pos (Function k) = Err (Mismatch pos)
array_of pos (BuiltinMeaning b) = Err (Unknown pos)
array_of pos UnknownMeaning = Err (Unknown pos)

-- ---- calls

-- what a call's name stands for: helper k, or a built-in function
pub data Callee : Type 0 where
  Helper : ℕ → List Param → Gives → Callee
  BuiltinCallee : Builtin → Callee

-- a kernel is not called
abbrev pub helper_of : Pos → ℕ → Option FunctionTree → Result Callee TypeFault
helper_of pos k None = Err (Unknown pos)
helper_of pos k (Some f) = if f.kernel then Err (Mismatch pos) else Ok (Helper k f.params f.gives)

-- a name that is called
abbrev pub callee_of : List FunctionTree → Pos → Meaning → Result Callee TypeFault
callee_of functions pos (Bound binding) = Err (Mismatch pos)
callee_of functions pos (Function k) = helper_of pos k (slice_get functions k)
callee_of functions pos (BuiltinMeaning b) = Ok (BuiltinCallee b)
callee_of functions pos UnknownMeaning = Err (Unknown pos)

-- how many arguments a built-in function takes
abbrev pub arity : Builtin → ℕ
arity WorkDim = 0
arity Min = 2
arity Max = 2
arity Clamp = 3
arity MulHi = 2
arity b = 1

-- how many arguments a call takes
abbrev pub wanted : Callee → ℕ
wanted (Helper k params gives) = length params
wanted (BuiltinCallee b) = arity b

abbrev pub is_pointer : ParamKind → Bool
is_pointer (Scalar elem) = false
is_pointer (Pointer space elem readonly) = true

abbrev pub takes_pointer : Option Param → Bool
takes_pointer None = false
takes_pointer (Some p) = is_pointer p.kind

-- whether the parameter at a place, from 0, is a pointer
abbrev pub pointer_at : Callee → ℕ → Bool
pointer_at (Helper k params gives) place = takes_pointer (slice_get params place)
pointer_at (BuiltinCallee b) place = false

-- the place of an expression's first token
abbrev pub first_pos : ExprTree → Pos
first_pos (NumberTree value unsigned pos) = pos
first_pos (NameTree name) = name.pos
first_pos (UnaryTree op part pos) = pos
first_pos (BinaryTree op left right pos) = first_pos left
first_pos (BothTree left right pos) = first_pos left
first_pos (EitherTree left right pos) = first_pos left
first_pos (ChooseTree test one other pos) = first_pos test
first_pos (CastTree elem part pos) = pos
first_pos (IndexTree array place pos) = array.pos
first_pos (CallTree name args) = name.pos
first_pos (ParenTree part pos) = pos

-- the arguments so far
pub record ArgsSofar : Type 0 where
  pub args : List ArgNode
  pub given : List Given
  pub calls : List ℕ

-- where a pointer is wanted, the array that a bare name finds
abbrev pub array_meant : Meaning → Option FoundArray
array_meant (Bound (ArrayBinding array space elem readonly)) = Some (record { array = array; space = space; elem = elem; readonly = readonly })
array_meant meaning = None

abbrev pub bare_name : List FunctionTree → List Scope → ExprTree → Option FoundArray
bare_name functions scopes (NameTree name) = array_meant (meaning_of functions scopes name.text)
bare_name functions scopes expr = None

abbrev pub bare_array : List FunctionTree → List Scope → Bool → ExprTree → Option FoundArray
bare_array functions scopes pointer expr = if pointer then bare_name functions scopes expr else None

-- the arguments with one more: an array by its bare name, or else a typed expression
abbrev pub with_argument : Pos → ArgsSofar → Option FoundArray → Result Typed TypeFault → Result ArgsSofar TypeFault
with_argument pos sofar (Some a) typed = Ok (record {
  args = sofar.args ++ ArrayNode a.array ∷ [];
  given = sofar.given ++ ArrayGiven a.space a.elem a.readonly pos ∷ [];
  calls = sofar.calls;
})
with_argument pos sofar None (Ok t) = Ok (record {
  args = sofar.args ++ ValueNode t.expr ∷ [];
  given = sofar.given ++ ValueGiven t.elem pos ∷ [];
  calls = t.calls;
})
with_argument pos sofar None (Err fault) = Err fault

-- whether two spaces, or two types, are the same
abbrev pub same_space : Space → Space → Bool
same_space Global Global = true
same_space Constant Constant = true
same_space Local Local = true
same_space one other = false

abbrev pub same_elem : Elem → Elem → Bool
same_elem Char Char = true
same_elem Uchar Uchar = true
same_elem Short Short = true
same_elem Ushort Ushort = true
same_elem Int Int = true
same_elem Uint Uint = true
same_elem one other = false

-- Whether an argument is of its parameter's kind: for a pointer an array of the same space and element type, readonly only where
-- the parameter is.
abbrev pub is_of_kind : ParamKind → Given → Bool
is_of_kind (Scalar wants) (ValueGiven elem pos) = true
is_of_kind (Scalar wants) (ArrayGiven space elem readonly pos) = false
is_of_kind (Pointer wants wants_elem may) (ValueGiven elem pos) = false
is_of_kind (Pointer wants wants_elem may) (ArrayGiven space elem readonly pos) =
    same_space wants space && (same_elem wants_elem elem && (not readonly || is_fixed wants may))

abbrev pub given_pos : Given → Pos
given_pos (ValueGiven elem pos) = pos
given_pos (ArrayGiven space elem readonly pos) = pos

-- the first argument that is not of its parameter's kind
abbrev pub first_stranger : List Param → List Given → Option Pos
first_stranger params given = option_map (λ (pair : Param × Given). given_pos pair.1) (find (λ (pair : Param × Given). not (is_of_kind pair.0.kind pair.1)) (zip params given))

-- `mul_hi` takes int and uint as they are
abbrev pub is_word : Given → Bool
is_word (ValueGiven Int pos) = true
is_word (ValueGiven Uint pos) = true
is_word given = false

abbrev pub first_not_word : List Given → Option Pos
first_not_word given = option_map given_pos (find (λ (g : Given). not (is_word g)) given)

-- the first argument of a wrong kind
abbrev pub stranger : Callee → List Given → Option Pos
stranger (Helper k params gives) given = first_stranger params given
stranger (BuiltinCallee MulHi) given = first_not_word given
stranger (BuiltinCallee b) given = None

-- whether the common type of some arguments is uint
abbrev pub given_is_uint : Given → Bool
given_is_uint (ValueGiven elem pos) = is_uint elem
given_is_uint (ArrayGiven space elem readonly pos) = false

abbrev pub any_uint : List Given → Bool
any_uint given = list_any given_is_uint given

-- what a built-in function gives, whose arguments have the common type uint or int
abbrev pub builtin_type : Builtin → Bool → Elem
builtin_type Min unsigned = word_type unsigned
builtin_type Max unsigned = word_type unsigned
builtin_type Clamp unsigned = word_type unsigned
builtin_type MulHi unsigned = word_type unsigned
builtin_type b unsigned = Uint

-- a typed call, and what it gives
pub record TypedCall : Type 0 where
  pub expr : ExprNode
  pub gives : Gives
  pub calls : List ℕ

abbrev pub call_made : Callee → ArgsSofar → TypedCall
call_made (Helper k params gives) sofar = record { expr = CallNode (cut (length sofar.calls)) (arg_nodes sofar.args); gives = gives; calls = sofar.calls ++ k ∷ [] }
call_made (BuiltinCallee b) sofar = record {
  expr = BuiltinNode b (any_uint sofar.given) (arg_nodes sofar.args);
  gives = Value (builtin_type b (any_uint sofar.given));
  calls = sofar.calls;
}

abbrev pub unless_stranger : Option Pos → TypedCall → Result TypedCall TypeFault
unless_stranger None call = Ok call
unless_stranger (Some pos) call = Err (Mismatch pos)

-- a call whose arguments are typed: their number, then their kinds
abbrev pub whole_call : Pos → Callee → ArgsSofar → Result TypedCall TypeFault
whole_call pos callee sofar =
    if length sofar.given == wanted callee then unless_stranger (stranger callee sofar.given) (call_made callee sofar)
    else Err (Mismatch pos)

-- a call whose value is used
abbrev pub value_of : Pos → TypedCall → Gives → Result Typed TypeFault
value_of pos call Nothing = Err (Mismatch pos)
value_of pos call (Value elem) = Ok (record { expr = call.expr; elem = elem; calls = call.calls })

abbrev pub value_call : Pos → Callee → ArgsSofar → Result Typed TypeFault
value_call pos callee sofar = whole_call pos callee sofar >>= λ call. value_of pos call call.gives

-- ---- expressions

abbrev mutual
  pub typed : List FunctionTree → List Scope → List ℕ → ExprTree → Result Typed TypeFault
  typed fs ss calls (NumberTree value unsigned pos) = Ok (record { expr = NumberNode value unsigned; elem = word_type unsigned; calls = calls })
  typed fs ss calls (NameTree name) = variable_of name.pos calls (meaning_of fs ss name.text)
  typed fs ss calls (UnaryTree op part pos) = typed fs ss calls part >>= λ p.
      Ok (record { expr = UnaryNode op p.expr; elem = unary_type op p.elem; calls = p.calls })
  typed fs ss calls (BinaryTree op left right pos) = typed fs ss calls left >>= λ l. typed fs ss l.calls right >>= λ r.
      Ok (record { expr = BinaryNode op (on_uint op l.elem r.elem) l.expr r.expr; elem = binary_type op l.elem r.elem; calls = r.calls })
  typed fs ss calls (BothTree left right pos) = typed fs ss calls left >>= λ l. typed fs ss l.calls right >>= λ r.
      Ok (record { expr = BothNode l.expr r.expr; elem = Int; calls = r.calls })
  typed fs ss calls (EitherTree left right pos) = typed fs ss calls left >>= λ l. typed fs ss l.calls right >>= λ r.
      Ok (record { expr = EitherNode l.expr r.expr; elem = Int; calls = r.calls })
  typed fs ss calls (ChooseTree test one other pos) = typed fs ss calls test >>= λ t. typed fs ss t.calls one >>= λ y. typed fs ss y.calls other >>= λ n.
      Ok (record { expr = ChooseNode (meet y.elem n.elem) t.expr y.expr n.expr; elem = word_type (meet y.elem n.elem); calls = n.calls })
  typed fs ss calls (CastTree elem part pos) = typed fs ss calls part >>= λ p.
      Ok (record { expr = CastNode elem p.expr; elem = elem; calls = p.calls })
  typed fs ss calls (IndexTree array place pos) = array_of array.pos (meaning_of fs ss array.text) >>= λ a. typed fs ss calls place >>= λ p.
      Ok (record { expr = LoadNode a.array a.elem p.expr pos; elem = a.elem; calls = p.calls })
  typed fs ss calls (CallTree name args) = callee_of fs name.pos (meaning_of fs ss name.text) >>= λ callee.
      typed_args fs ss callee (record { args = []; given = []; calls = calls }) args >>= λ sofar.
      value_call name.pos callee sofar
  typed fs ss calls (ParenTree part pos) = typed fs ss calls part >>= λ p.
      Ok (record { expr = ParenNode p.expr; elem = p.elem; calls = p.calls })

  -- the arguments of a call behind those so far
  pub typed_args : List FunctionTree → List Scope → Callee → ArgsSofar → ArgTrees → Result ArgsSofar TypeFault
  typed_args fs ss callee sofar NoArgs = Ok sofar
  typed_args fs ss callee sofar (AndArg arg args) =
      with_argument (first_pos arg) sofar (bare_array fs ss (pointer_at callee (length sofar.given)) arg) (typed fs ss sofar.calls arg) >>= λ next.
      typed_args fs ss callee next args

-- a call whose value is not used
abbrev pub typed_call : List FunctionTree → List Scope → List ℕ → Ident → ArgTrees → Result TypedCall TypeFault
typed_call fs ss calls name args = callee_of fs name.pos (meaning_of fs ss name.text) >>= λ callee.
    typed_args fs ss callee (record { args = []; given = []; calls = calls }) args >>= λ sofar.
    whole_call name.pos callee sofar

-- an expression that may be left out
pub record MaybeTyped : Type 0 where
  pub expr : Option ExprNode
  pub elem : Elem
  pub calls : List ℕ

abbrev pub typed_option : List FunctionTree → List Scope → List ℕ → Option ExprTree → Result MaybeTyped TypeFault
typed_option fs ss calls None = Ok (record { expr = None; elem = Int; calls = calls })
typed_option fs ss calls (Some e) = typed fs ss calls e >>= λ t. Ok (record { expr = Some t.expr; elem = t.elem; calls = t.calls })
