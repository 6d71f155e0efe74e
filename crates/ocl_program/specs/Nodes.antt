-- The resolved program as plain data: each variant of `src/` with its parts, without pointers.
use Rattle.std.specs.Prelude.{ℕ, Bool, List, [], ◌∷◌, Option}
use Rattle.vx_base.specs.declared.types.Elem.{Elem}
use Rattle.vx_base.specs.declared.types.Pos.{Pos}
use Rattle.ocl_ast.specs.declared.exprs.BinOp.{BinOp}
use Rattle.ocl_ast.specs.declared.exprs.Ident.{Ident}
use Rattle.ocl_ast.specs.declared.exprs.UnOp.{UnOp}
use Rattle.ocl_ast.specs.declared.stmts.AssignOp.{AssignOp}
use Rattle.ocl_ast.specs.declared.units.Gives.{Gives}
use Rattle.ocl_ast.specs.declared.units.Param.{Param}
use Rattle.ocl_program.specs.declared.exprs.ArrayRef.{ArrayRef}
use Rattle.ocl_program.specs.declared.exprs.Builtin.{Builtin}
use Rattle.ocl_program.specs.declared.functions.CallSite.{CallSite}
use Rattle.ocl_program.specs.declared.functions.LocalArray.{LocalArray}

mutual
  -- an expression: a variable has its number and its type, a binary operator says whether it works on uint
  pub data ExprNode : Type 0 where
    NumberNode : ℕ → Bool → ExprNode
    VariableNode : ℕ → Elem → ExprNode
    UnaryNode : UnOp → ExprNode → ExprNode
    BinaryNode : BinOp → Bool → ExprNode → ExprNode → ExprNode
    BothNode : ExprNode → ExprNode → ExprNode
    EitherNode : ExprNode → ExprNode → ExprNode
    ChooseNode : Bool → ExprNode → ExprNode → ExprNode → ExprNode
    CastNode : Elem → ExprNode → ExprNode
    LoadNode : ArrayRef → Elem → ExprNode → Pos → ExprNode
    CallNode : ℕ → ArgNodes → ExprNode
    BuiltinNode : Builtin → Bool → ArgNodes → ExprNode
    ParenNode : ExprNode → ExprNode

  -- what parameters are bound to, in order
  pub data ArgNodes : Type 0 where
    NoArgs : ArgNodes
    ValueArg : ExprNode → ArgNodes → ArgNodes
    ArrayArg : ArrayRef → ArgNodes → ArgNodes

-- what one parameter is bound to
pub data ArgNode : Type 0 where
  ValueNode : ExprNode → ArgNode
  ArrayNode : ArrayRef → ArgNode

abbrev pub arg_nodes : List ArgNode → ArgNodes
arg_nodes [] = NoArgs
arg_nodes (ValueNode e ∷ more) = ValueArg e (arg_nodes more)
arg_nodes (ArrayNode array ∷ more) = ArrayArg array (arg_nodes more)

mutual
  -- a statement, in the order of the variants of `src/stmts.rt`
  pub data StmtNode : Type 0 where
    DeclareNode : ℕ → Elem → Option ExprNode → StmtNode
    LocalArrayNode : ℕ → ExprNode → StmtNode
    SetVariableNode : ℕ → Elem → AssignOp → Bool → Option ExprNode → StmtNode
    SetElementNode : ArrayRef → Elem → ExprNode → AssignOp → Bool → Option ExprNode → Pos → StmtNode
    CallStmtNode : ExprNode → StmtNode
    BarrierNode : ℕ → StmtNode
    IfNode : ExprNode → StmtNode → StmtNode
    IfElseNode : ExprNode → StmtNode → StmtNode → StmtNode
    WhileNode : ExprNode → StmtNode → StmtNode
    DoNode : StmtNode → ExprNode → StmtNode
    ForNode : StmtNodes → Option ExprNode → StmtNodes → StmtNode → StmtNode
    BreakNode : StmtNode
    ContinueNode : StmtNode
    ReturnNode : Option ExprNode → StmtNode
    BlockNode : StmtNodes → StmtNode
    EmptyNode : StmtNode

  -- statements in order
  pub data StmtNodes : Type 0 where
    NoStmts : StmtNodes
    AndStmt : StmtNode → StmtNodes → StmtNodes

abbrev pub stmt_nodes : List StmtNode → StmtNodes
stmt_nodes [] = NoStmts
stmt_nodes (s ∷ ss) = AndStmt s (stmt_nodes ss)

-- A kernel or a helper. Its scalar parameters and then what it declares are its variables, numbered from 0.
pub record FunctionNode : Type 0 where
  pub kernel : Bool
  pub name : Ident
  pub gives : Gives
  pub params : List Param
  pub variables : ℕ
  pub sites : ℕ
  pub arrays : List LocalArray
  pub calls : List CallSite
  pub body : StmtNodes
