-- How many loops stand within one another at most.
use Rattle.std.specs.Prelude.{ℕ, suc, max}
use Rattle.kir.specs.Trees.{Op, If, Loop, Call, Ops, NoOps, AndOp}

abbrev mutual
  pub loop_nesting : Ops → ℕ
  loop_nesting NoOps = 0
  loop_nesting (AndOp op ops) = max (loop_nesting_in op) (loop_nesting ops)

  pub loop_nesting_in : Op → ℕ
  loop_nesting_in (If test one other) = max (loop_nesting one) (loop_nesting other)
  loop_nesting_in (Loop head test body step) = suc (max (loop_nesting head) (max (loop_nesting body) (loop_nesting step)))
  loop_nesting_in (Call body) = loop_nesting body
  loop_nesting_in other = 0
