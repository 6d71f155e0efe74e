-- Operations that name few registers name registers below a greater count too.
use Rattle.std.proofs.Common.{ℕ, ◌≤◌, List, [], ◌∷◌, arith}
use Rattle.kir.specs.Numbered.{IsBelow}
use Rattle.kir.specs.Trees.{Operand, VariableOf, NumberOf}
use Rattle.vcode.specs.Code.{VOp, Fresh, Copy, Compute, Cut, Word, WordAt, Learn, Fetch, Write, IfZero, IfNot, Goto, Split, Join, Pred, Tmc, Wspawn, Bar, Trap, Enter, Leaves, Again}
use Rattle.simt_lowering.specs.Bounds.{AreWithin, OpWithin}

below_more : (slots most : ℕ) (a : Operand) → slots ≤ most → IsBelow slots a → IsBelow most a
below_more slots most (VariableOf r) few h = omega (arith, few, h)
below_more slots most (NumberOf n) few h = h

op_more : (slots most : ℕ) (op : VOp) → slots ≤ most → OpWithin slots op → OpWithin most op
op_more slots most Fresh few h = h
op_more slots most (Copy d a) few h = (omega (arith, few, h.0), below_more slots most a few h.1)
op_more slots most (Compute d op a b) few h = (omega (arith, few, h.0), below_more slots most a few h.1, below_more slots most b few h.2)
op_more slots most (Cut d elem a) few h = (omega (arith, few, h.0), below_more slots most a few h.1)
op_more slots most (Word d k) few h = (omega (arith, few, h.0), h.1)
op_more slots most (WordAt d a k) few h = (omega (arith, few, h.0), below_more slots most a few h.1, h.2)
op_more slots most (Learn d csr) few h = omega (arith, few, h)
op_more slots most (Fetch d elem a) few h = (omega (arith, few, h.0), below_more slots most a few h.1)
op_more slots most (Write elem a b) few h = (below_more slots most a few h.0, below_more slots most b few h.1)
op_more slots most (IfZero a q) few h = below_more slots most a few h
op_more slots most (IfNot a q) few h = below_more slots most a few h
op_more slots most (Goto q) few h = h
op_more slots most (Split a) few h = below_more slots most a few h
op_more slots most Join few h = h
op_more slots most (Pred a m) few h = (below_more slots most a few h.0, omega (arith, few, h.1))
op_more slots most (Tmc a) few h = below_more slots most a few h
op_more slots most (Wspawn a q) few h = below_more slots most a few h
op_more slots most (Bar site) few h = h
op_more slots most (Trap pos) few h = h
op_more slots most Enter few h = h
op_more slots most (Leaves a q) few h = below_more slots most a few h
op_more slots most (Again q) few h = h

pub all_more : (slots most : ℕ) (ops : List VOp) → slots ≤ most → AreWithin slots ops → AreWithin most ops
all_more slots most [] few h = h
all_more slots most (op ∷ ops) few h = (op_more slots most op few h.0, all_more slots most ops few h.1)
