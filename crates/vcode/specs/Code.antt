-- Code for the lanes of a warp as plain data: operations on numbered registers, of which there are as many as are wanted. Places are
-- counted from 0, one for each operation.
use Rattle.std.specs.Prelude.{ℕ, List}
use Rattle.vx_base.specs.declared.types.Alu.{Alu}
use Rattle.vx_base.specs.declared.types.Elem.{Elem}
use Rattle.vx_base.specs.declared.types.Pos.{Pos}
use Rattle.ocl_ast.specs.declared.units.Param.{Param}
use Rattle.ocl_program.specs.declared.functions.LocalArray.{LocalArray}
use Rattle.kir.specs.Trees.{Operand}
use Rattle.vcode.specs.declared.ops.Csr.{Csr}

-- An operation. A register that is written stands first. An operand is the value of a register or a number.
pub data VOp : Type 0 where
  -- a place where a warp may begin to run: nothing is done
  Fresh : VOp
  -- a value into a register, as it is, by an operation on two words, and cut to a type
  Copy : ℕ → Operand → VOp
  Compute : ℕ → Alu → Operand → Operand → VOp
  Cut : ℕ → Elem → Operand → VOp
  -- a word of the launch block, by its number, and by an operand that is added to a number
  Word : ℕ → ℕ → VOp
  WordAt : ℕ → Operand → ℕ → VOp
  -- a control register
  Learn : ℕ → Csr → VOp
  -- the element of this type at an address, and a value into it
  Fetch : ℕ → Elem → Operand → VOp
  Write : Elem → Operand → Operand → VOp
  -- to a place where the operand is 0, where it is not 0, and always
  IfZero : Operand → ℕ → VOp
  IfNot : Operand → ℕ → VOp
  Goto : ℕ → VOp
  -- the warp parts by the operand, and meets again
  Split : Operand → VOp
  Join : VOp
  -- only lanes go on whose operand is not 0; where there is none, those of the mask that a register holds
  Pred : Operand → ℕ → VOp
  -- only lanes of this mask go on, and a number of warps begins at a place
  Tmc : Operand → VOp
  Wspawn : Operand → ℕ → VOp
  -- a barrier by its number in the kernel, for all warps of the group
  Bar : ℕ → VOp
  -- a fault at this place of the source
  Trap : Pos → VOp
  -- A loop is entered; it is left to a place where the operand is 0, and a turn of it begins where it is not; a turn is over, and the
  -- loop goes on at a place.
  Enter : VOp
  Leaves : Operand → ℕ → VOp
  Again : ℕ → VOp

-- A kernel: its parameters, the `__local` arrays that it declares, how many registers it has, and its operations.
pub record Code : Type 0 where
  pub params : List Param
  pub arrays : List LocalArray
  pub registers : ℕ
  pub ops : List VOp
