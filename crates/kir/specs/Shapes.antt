-- Which plain tree a tree of `src/` is.
use Rattle.std.specs.Prelude.{List, [], ◌∷◌}
use Rattle.kir.specs.declared.ops.Kir.{Kir}
use Rattle.kir.specs.declared.ops.Op.{Op, Set, Calculate, Fit, Id, Load, Store, Check, Barrier, If', Loop', Break, Continue, Return, Call', Row_of-Op, end_of-Op, more_of-Op}
use Rattle.kir.specs.declared.ops.Operand.{Operand}
use Rattle.kir.specs.declared.ops.Operand.TheVariants.{Variable, Number}
use Rattle.kir.specs.Trees as tree

abbrev pub operand_of : Operand → tree.Operand
operand_of (Variable k) = tree.VariableOf k
operand_of (Number n) = tree.NumberOf n

abbrev mutual
  -- the plain tree of an operation
  pub op_of : Op → tree.Op
  op_of (Set d a) = tree.Set d (operand_of a)
  op_of (Calculate d op a b) = tree.Calculate d op (operand_of a) (operand_of b)
  op_of (Fit d elem a) = tree.Fit d elem (operand_of a)
  op_of (Id d which a) = tree.Id d which (operand_of a)
  op_of (Load d array elem a) = tree.Load d array elem (operand_of a)
  op_of (Store array elem a b) = tree.Store array elem (operand_of a) (operand_of b)
  op_of (Check array a pos) = tree.Check array (operand_of a) pos
  op_of (Barrier site) = tree.Barrier site
  op_of (If' test s one t other) = tree.If (operand_of test) (row_ops one) (row_ops other)
  op_of (Loop' s head test t body u step) = tree.Loop (row_ops head) (operand_of test) (row_ops body) (row_ops step)
  op_of Break = tree.Break
  op_of Continue = tree.Continue
  op_of Return = tree.Return
  op_of (Call' s body) = tree.Call (row_ops body)

  pub row_ops : {m : _} → Row_of-Op m → tree.Ops
  row_ops end_of-Op = tree.NoOps
  row_ops (more_of-Op op rest) = tree.AndOp (op_of op) (row_ops rest)

-- the plain trees of operations in order
abbrev pub ops_of : List Op → tree.Ops
ops_of [] = tree.NoOps
ops_of (op ∷ ops) = tree.AndOp (op_of op) (ops_of ops)

-- the plain form of a kernel
abbrev pub code_of : Kir → tree.KirCode
code_of code = record {
  params = code.params;
  arrays = code.arrays.items;
  variables = code.variables;
  ops = ops_of code.ops.items;
}
