-- Loops that stand within one another are branches and loops that do.
use Rattle.std.proofs.Common.{ℕ, ◌≤◌, arith}
use Rattle.kir.specs.Loops.{loop_nesting, loop_nesting_in}
use Rattle.kir.specs.Measures.{nesting, nesting_in}
use Rattle.kir.specs.Trees.{Op, Set, Calculate, Fit, Id, Load, Store, Check, Barrier, If, Loop, Break, Continue, Return, Call, Ops, NoOps, AndOp}

mutual
  pub fewer_loops : (ops : Ops) → loop_nesting ops ≤ nesting ops
  fewer_loops NoOps = omega arith
  fewer_loops (AndOp op ops) =
      let h : loop_nesting_in op ≤ nesting_in op = op_fewer op in
      let k : loop_nesting ops ≤ nesting ops = fewer_loops ops in omega arith

  op_fewer : (op : Op) → loop_nesting_in op ≤ nesting_in op
  op_fewer (If test one other) =
      let h : loop_nesting one ≤ nesting one = fewer_loops one in
      let k : loop_nesting other ≤ nesting other = fewer_loops other in omega arith
  op_fewer (Loop head test body st) =
      let h : loop_nesting head ≤ nesting head = fewer_loops head in
      let k : loop_nesting body ≤ nesting body = fewer_loops body in
      let j : loop_nesting st ≤ nesting st = fewer_loops st in omega arith
  op_fewer (Call body) = fewer_loops body
  op_fewer (Set d a) = omega arith
  op_fewer (Calculate d op a b) = omega arith
  op_fewer (Fit d elem a) = omega arith
  op_fewer (Id d which a) = omega arith
  op_fewer (Load d array elem a) = omega arith
  op_fewer (Store array elem a b) = omega arith
  op_fewer (Check array a pos) = omega arith
  op_fewer (Barrier site) = omega arith
  op_fewer Break = omega arith
  op_fewer Continue = omega arith
  op_fewer Return = omega arith
