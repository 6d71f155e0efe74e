-- A kernel with its calls expanded, as plain data: variables, barriers and arrays are numbered in the kernel, and a call holds
-- the body of its helper.
use Rattle.std.specs.Prelude.{ℕ, Bool, List, Option, None, Some}
use Rattle.vx_base.specs.declared.types.Elem.{Elem}
use Rattle.vx_base.specs.declared.types.Pos.{Pos}
use Rattle.ocl_ast.specs.declared.exprs.BinOp.{BinOp}
use Rattle.ocl_ast.specs.declared.exprs.UnOp.{UnOp}
use Rattle.ocl_ast.specs.declared.stmts.AssignOp.{AssignOp}
use Rattle.ocl_ast.specs.declared.units.Gives.{Gives}
use Rattle.ocl_ast.specs.declared.units.Param.{Param}
use Rattle.ocl_program.specs.declared.exprs.ArrayRef.{ArrayRef}
use Rattle.ocl_program.specs.declared.exprs.Builtin.{Builtin}
use Rattle.ocl_program.specs.declared.functions.LocalArray.{LocalArray}
use Rattle.ocl_inline.specs.declared.trees.Binding.{Binding}

mutual
  -- an expression
  pub data FlatExpr : Type 0 where
    NumberFlat : ℕ → Bool → FlatExpr
    VariableFlat : ℕ → FlatExpr
    UnaryFlat : UnOp → FlatExpr → FlatExpr
    BinaryFlat : BinOp → Bool → FlatExpr → FlatExpr → FlatExpr
    BothFlat : FlatExpr → FlatExpr → FlatExpr
    EitherFlat : FlatExpr → FlatExpr → FlatExpr
    ChooseFlat : Bool → FlatExpr → FlatExpr → FlatExpr → FlatExpr
    CastFlat : Elem → FlatExpr → FlatExpr
    LoadFlat : ArrayRef → Elem → FlatExpr → Pos → FlatExpr
    -- a call with its arguments and the helper's body, and one that leads to no helper
    CallFlat : FlatArgs → FlatStmts → FlatExpr
    LostFlat : FlatArgs → FlatExpr
    BuiltinFlat : Builtin → Bool → FlatArgs → FlatExpr
    ParenFlat : FlatExpr → FlatExpr

  -- an expression where one is written
  pub data FlatValue : Type 0 where
    NoFlat : FlatValue
    SomeFlat : FlatExpr → FlatValue

  -- arguments in order: a number with what is done with it, or an array
  pub data FlatArgs : Type 0 where
    NoFlatArgs : FlatArgs
    NumberArg : FlatExpr → Binding → FlatArgs → FlatArgs
    NamedArg : ArrayRef → FlatArgs → FlatArgs

  -- a statement; a `return` knows what its function gives back
  pub data FlatStmt : Type 0 where
    DeclareFlat : ℕ → Elem → FlatValue → FlatStmt
    LocalArrayFlat : ℕ → FlatExpr → FlatStmt
    SetVariableFlat : ℕ → Elem → AssignOp → Bool → FlatValue → FlatStmt
    SetElementFlat : ArrayRef → Elem → FlatExpr → AssignOp → Bool → FlatValue → Pos → FlatStmt
    CallStmtFlat : FlatExpr → FlatStmt
    BarrierFlat : ℕ → FlatStmt
    IfFlat : FlatExpr → FlatStmt → FlatStmt
    IfElseFlat : FlatExpr → FlatStmt → FlatStmt → FlatStmt
    WhileFlat : FlatExpr → FlatStmt → FlatStmt
    DoFlat : FlatStmt → FlatExpr → FlatStmt
    ForFlat : FlatStmts → FlatValue → FlatStmts → FlatStmt → FlatStmt
    BreakFlat : FlatStmt
    ContinueFlat : FlatStmt
    ReturnFlat : Gives → FlatValue → FlatStmt
    BlockFlat : FlatStmts → FlatStmt
    EmptyFlat : FlatStmt

  -- statements in order
  pub data FlatStmts : Type 0 where
    NoFlats : FlatStmts
    AndFlat : FlatStmt → FlatStmts → FlatStmts

abbrev pub value_of : FlatValue → Option FlatExpr
value_of NoFlat = None
value_of (SomeFlat e) = Some e

abbrev pub written : Option FlatExpr → FlatValue
written None = NoFlat
written (Some e) = SomeFlat e

-- an `if`, with or without `else`
abbrev pub if_flat : FlatExpr → FlatStmt → Option FlatStmt → FlatStmt
if_flat test one None = IfFlat test one
if_flat test one (Some other) = IfElseFlat test one other

-- A kernel: its parameters, its `__local` arrays, how many variables and barriers it has, and the items of its block.
pub record FlatKernel : Type 0 where
  pub params : List Param
  pub arrays : List LocalArray
  pub variables : ℕ
  pub sites : ℕ
  pub body : FlatStmts
