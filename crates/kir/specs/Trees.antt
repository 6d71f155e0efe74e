-- The structured form of a kernel as plain data: operations on numbered variables, with the branches, loops and calls that hold
-- them. Every expression is split into operations whose operands are variables and numbers.
use Rattle.std.specs.Prelude.{ℕ, List}
use Rattle.vx_base.specs.declared.types.Alu.{Alu}
use Rattle.vx_base.specs.declared.types.Elem.{Elem}
use Rattle.vx_base.specs.declared.types.Pos.{Pos}
use Rattle.ocl_ast.specs.declared.units.Param.{Param}
use Rattle.ocl_program.specs.declared.exprs.ArrayRef.{ArrayRef}
use Rattle.ocl_program.specs.declared.exprs.Builtin.{Builtin}
use Rattle.ocl_program.specs.declared.functions.LocalArray.{LocalArray}

-- what an operation works on
pub data Operand : Type 0 where
  VariableOf : ℕ → Operand
  NumberOf : ℕ → Operand

mutual
  -- An operation. A variable that is set stands first.
  pub data Op : Type 0 where
    -- a value into a variable, as it is, by an operation on two words, cut to a type, and by a built-in function of a dimension
    Set : ℕ → Operand → Op
    Calculate : ℕ → Alu → Operand → Operand → Op
    Fit : ℕ → Elem → Operand → Op
    Id : ℕ → Builtin → Operand → Op
    -- the element of this type at an index into a variable, and a value into the element at an index
    Load : ℕ → ArrayRef → Elem → Operand → Op
    Store : ArrayRef → Elem → Operand → Operand → Op
    -- a fault at this place of the source, where the array has no element at the index
    Check : ArrayRef → Operand → Pos → Op
    -- a barrier
    Barrier : ℕ → Op
    -- the first operations where the test is not 0, else the second ones
    If : Operand → Ops → Ops → Op
    -- the head, then the test; where that is not 0 a turn of the body, then the step and all again
    Loop : Ops → Operand → Ops → Ops → Op
    Break : Op
    Continue : Op
    Return : Op
    -- the body of a helper, of which a `Return` leaves no more
    Call : Ops → Op

  -- operations in order
  pub data Ops : Type 0 where
    NoOps : Ops
    AndOp : Op → Ops → Ops

-- A kernel: its parameters, the `__local` arrays that it declares, how many variables it has, and what it does. The scalar
-- parameters are its first variables.
pub record KirCode : Type 0 where
  pub params : List Param
  pub arrays : List LocalArray
  pub variables : ℕ
  pub ops : Ops
