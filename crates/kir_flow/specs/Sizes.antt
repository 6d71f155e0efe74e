-- How large operations are, which falls where one goes on to a part.
use Rattle.std.specs.Prelude.{ℕ, ◌+◌}
use Rattle.kir.specs.Trees.{Op, If, Loop, Call, Ops, NoOps, AndOp}

abbrev mutual
  pub size : Ops → ℕ
  size NoOps = 3
  size (AndOp op ops) = op_size op + size ops

  pub op_size : Op → ℕ
  op_size (If test one other) = size one + size other + 1
  op_size (Loop head test body step) = size head + size body + size step + 2
  op_size (Call body) = size body + 2
  op_size other = 1
