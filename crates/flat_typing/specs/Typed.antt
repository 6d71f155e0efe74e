-- What the body of a typed function has: each access is by the type of its array's elements, each store is to an array that accepts it,
-- each call is given what its function takes, and none stands in the count of an array.
use Rattle.std.specs.Prelude.{◌≡◌, ℕ, zero, suc, Bool, false, List, [], ◌∷◌, Option, None, Some, option_map, slice_get}
use Rattle.vx_base.specs.declared.types.Elem.{Elem}
use Rattle.vx_base.specs.declared.types.ParamKind.{ParamKind}
use Rattle.vx_base.specs.declared.types.ParamKind.TheVariants.{Scalar, Pointer}
use Rattle.vx_base.specs.declared.types.Space.{Space}
use Rattle.vx_base.specs.declared.types.Space.TheVariants.{Local}
use Rattle.ocl_ast.specs.declared.units.Param.{Param}
use Rattle.ocl_program.specs.declared.exprs.ArrayRef.{ArrayRef}
use Rattle.ocl_program.specs.declared.exprs.ArrayRef.TheVariants.{Parameter, Declared}
use Rattle.ocl_program.specs.declared.functions.LocalArray.{LocalArray}
use Rattle.ocl_program.specs.Nodes.{ExprNode, UnaryNode, BinaryNode, BothNode, EitherNode, ChooseNode, CastNode, LoadNode, CallNode, BuiltinNode, ParenNode, ArgNodes, NoArgs, ValueArg, ArrayArg, StmtNode, DeclareNode, LocalArrayNode, SetVariableNode, SetElementNode, CallStmtNode, IfNode, IfElseNode, WhileNode, DoNode, ForNode, ReturnNode, BlockNode, StmtNodes, NoStmts, AndStmt, FunctionNode}
use Rattle.ocl_sem.specs.Source.{callee_of}
use Rattle.ocl_types.specs.Exprs.{arity}
use Rattle.ocl_types.specs.Names.{is_fixed}
use Rattle.program_laws.specs.Formed.{expr_calls}

-- ---- arrays

-- where an array lives, the type of its elements, and whether no store to it is accepted
pub record ArrayKind : Type 0 where
  pub space : Space
  pub elem : Elem
  pub fixed : Bool

abbrev pub kind_of : ParamKind → Option ArrayKind
kind_of (Scalar elem) = None
kind_of (Pointer space elem readonly) = Some (record { space = space; elem = elem; fixed = is_fixed space readonly })

abbrev pub param_kind : Option Param → Option ArrayKind
param_kind None = None
param_kind (Some param) = kind_of param.kind

abbrev pub local_kind : Option LocalArray → Option ArrayKind
local_kind None = None
local_kind (Some array) = Some (record { space = Local; elem = array.elem; fixed = false })

-- the array that a function with these parameters and arrays names so
abbrev pub array_kind : List Param → List LocalArray → ArrayRef → Option ArrayKind
array_kind params arrays (Parameter k) = param_kind (slice_get params k)
array_kind params arrays (Declared k) = local_kind (slice_get arrays k)

-- it has elements of this type
abbrev pub IsOf : Option ArrayKind → Elem → Type 0
IsOf None elem = ⊥
IsOf (Some kind) elem = kind.elem ≡ elem

-- and accepts stores
abbrev pub IsOpen : Option ArrayKind → Type 0
IsOpen None = ⊥
IsOpen (Some kind) = kind.fixed ≡ false

-- an array that is given where one of another kind is wanted: it lives there too, has such elements, and accepts stores if they may be made
pub record Serves (given wanted : ArrayKind) : Type 0 where
  pub space : given.space ≡ wanted.space
  pub elem : given.elem ≡ wanted.elem
  pub accepts : wanted.fixed ≡ false → given.fixed ≡ false

abbrev pub MayServe : Option ArrayKind → Option ArrayKind → Type 0
MayServe (Some given) (Some wanted) = Serves given wanted
MayServe given wanted = ⊥

-- ---- functions as a body sees them

-- whether a function is a kernel, and what it takes
pub record Head : Type 0 where
  pub kernel : Bool
  pub params : List Param

-- the parameters and arrays of a body's function, and what each of its calls leads to
pub record Frame : Type 0 where
  pub params : List Param
  pub arrays : List LocalArray
  pub callees : ℕ → Option Head

abbrev pub named_kind : Frame → ArrayRef → Option ArrayKind
named_kind frame array = array_kind frame.params frame.arrays array

-- ---- arguments

-- for a pointer an array that may serve, and for a scalar a value
abbrev pub Fits : Frame → List Param → ArgNodes → Type 0
Fits frame [] NoArgs = Unit {0}
Fits frame (param ∷ params) (ValueArg e more) = (kind_of param.kind ≡ None) × Fits frame params more
Fits frame (param ∷ params) (ArrayArg array more) = MayServe (named_kind frame array) (kind_of param.kind) × Fits frame params more
Fits frame params args = ⊥

-- a helper is called
abbrev pub IsCall : Frame → Option Head → ArgNodes → Type 0
IsCall frame None args = ⊥
IsCall frame (Some head) args = (head.kernel ≡ false) × Fits frame head.params args

-- so many values
abbrev pub AreValues : ℕ → ArgNodes → Type 0
AreValues zero NoArgs = Unit {0}
AreValues (suc n) (ValueArg e more) = AreValues n more
AreValues n args = ⊥

-- ---- bodies

abbrev mutual
  pub IsTypedExpr : Frame → ExprNode → Type 0
  IsTypedExpr frame (UnaryNode op part) = IsTypedExpr frame part
  IsTypedExpr frame (BinaryNode op unsigned left right) = IsTypedExpr frame left × IsTypedExpr frame right
  IsTypedExpr frame (BothNode left right) = IsTypedExpr frame left × IsTypedExpr frame right
  IsTypedExpr frame (EitherNode left right) = IsTypedExpr frame left × IsTypedExpr frame right
  IsTypedExpr frame (ChooseNode unsigned test one other) = IsTypedExpr frame test × IsTypedExpr frame one × IsTypedExpr frame other
  IsTypedExpr frame (CastNode elem part) = IsTypedExpr frame part
  IsTypedExpr frame (LoadNode array elem place pos) = IsOf (named_kind frame array) elem × IsTypedExpr frame place
  IsTypedExpr frame (CallNode call args) = IsCall frame (frame.callees call) args × AreTypedArgs frame args
  IsTypedExpr frame (BuiltinNode which unsigned args) = AreValues (arity which) args × AreTypedArgs frame args
  IsTypedExpr frame (ParenNode part) = IsTypedExpr frame part
  IsTypedExpr frame other = Unit {0}

  pub AreTypedArgs : Frame → ArgNodes → Type 0
  AreTypedArgs frame NoArgs = Unit {0}
  AreTypedArgs frame (ValueArg e more) = IsTypedExpr frame e × AreTypedArgs frame more
  AreTypedArgs frame (ArrayArg array more) = AreTypedArgs frame more

abbrev pub IsTypedValue : Frame → Option ExprNode → Type 0
IsTypedValue frame None = Unit {0}
IsTypedValue frame (Some e) = IsTypedExpr frame e

abbrev mutual
  pub IsTypedStmt : Frame → StmtNode → Type 0
  IsTypedStmt frame (DeclareNode variable elem value) = IsTypedValue frame value
  IsTypedStmt frame (LocalArrayNode array count) = expr_calls count ≡ []
  IsTypedStmt frame (SetVariableNode variable elem op unsigned value) = IsTypedValue frame value
  IsTypedStmt frame (SetElementNode array elem place op unsigned value pos) =
      IsOf (named_kind frame array) elem × IsOpen (named_kind frame array) × IsTypedExpr frame place × IsTypedValue frame value
  IsTypedStmt frame (CallStmtNode call) = IsTypedExpr frame call
  IsTypedStmt frame (IfNode test one) = IsTypedExpr frame test × IsTypedStmt frame one
  IsTypedStmt frame (IfElseNode test one other) = IsTypedExpr frame test × IsTypedStmt frame one × IsTypedStmt frame other
  IsTypedStmt frame (WhileNode test body) = IsTypedExpr frame test × IsTypedStmt frame body
  IsTypedStmt frame (DoNode body test) = IsTypedStmt frame body × IsTypedExpr frame test
  IsTypedStmt frame (ForNode first test step body) =
      AreTypedStmts frame first × IsTypedValue frame test × AreTypedStmts frame step × IsTypedStmt frame body
  IsTypedStmt frame (ReturnNode value) = IsTypedValue frame value
  IsTypedStmt frame (BlockNode items) = AreTypedStmts frame items
  IsTypedStmt frame other = Unit {0}

  pub AreTypedStmts : Frame → StmtNodes → Type 0
  AreTypedStmts frame NoStmts = Unit {0}
  AreTypedStmts frame (AndStmt s ss) = IsTypedStmt frame s × AreTypedStmts frame ss

-- ---- the whole

abbrev pub head_of : FunctionNode → Head
head_of f = record { kernel = f.kernel; params = f.params }

abbrev pub frame_of : List FunctionNode → FunctionNode → Frame
frame_of program f = record {
  params = f.params;
  arrays = f.arrays;
  callees = λ call. option_map head_of (callee_of program (slice_get f.calls call));
}

-- Only kernels declare arrays.
pub record IsTypedFunction (program : List FunctionNode) (f : FunctionNode) : Type 0 where
  pub body : AreTypedStmts (frame_of program f) f.body
  pub arrays : f.kernel ≡ false → f.arrays ≡ []
