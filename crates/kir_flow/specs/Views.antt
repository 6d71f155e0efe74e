-- What the code's lists of operations are.
use Rattle.std.specs.Prelude.{◌≡◌, ℕ, suc, if◌then◌else◌, Bool, true, false, List}
use Rattle.kir.specs.Lists.{onto}
use Rattle.vx_base.specs.declared.types.Alu.TheVariants.{And, Mul}
use Rattle.kir.specs.Trees.{Operand, VariableOf, NumberOf, Op, Set, Calculate, Load, Store, Check, Barrier, Loop, Ops, NoOps, AndOp}
use Rattle.kir_flow.specs.declared.flagging.Reached.{Reached}
use Rattle.kir_flow.specs.declared.scopes.Jump.TheVariants.{ByContinue, ByReturn}
use Rattle.kir_flow.specs.declared.scopes.Scope.{Scope}
use Rattle.kir_flow.specs.declared.scopes.Scope.TheVariants.{InCall}
use Rattle.kir_flow.specs.Flagging.{body_scope, edge_scope, flagged, flagged_loop, inside, leaves, op_leaves, passed_on, room, tests}
use Rattle.kir.specs.declared.ops.Op.{Op as HeldOp}

-- whether an operation is on an array, or a barrier
abbrev pub is_access : Op → Bool
is_access (Load d array elem a) = true
is_access (Store array elem a b) = true
is_access (Check array a pos) = true
is_access (Barrier site) = true
is_access other = false

-- single operations on flags in front of others
abbrev pub kept_where : ℕ → ℕ → Ops → Ops
kept_where flag other c = AndOp (Calculate flag And (VariableOf flag) (VariableOf other)) c

-- a loop with its two flags, whatever is known of it
abbrev pub cut_loop : Scope → Bool → Ops → Operand → Ops → Ops → Ops → Ops
cut_loop f sure head test body step c =
    flagged_loop f sure (flagged false (edge_scope f) false head (tests f test)) (flagged false (body_scope f) true body NoOps) (flagged false (edge_scope f) false step NoOps)
    (if op_leaves ByReturn (Loop head test body step) then passed_on f c else c)

-- What stands behind an operation and what follows it, by what was known before and is known behind.
abbrev pub GoesOn : Scope → Reached → Op → Ops → List HeldOp → Reached → List HeldOp → Type 0
GoesOn f before op rest old behind new = (c : Ops) → onto new (flagged behind.among f behind.sure rest c) ≡ onto old (flagged before.among f before.sure (AndOp op rest) c)

-- the test of a loop with flags, left in the flag of its turn
abbrev pub test_op : ℕ → Operand → Ops → Ops
test_op flag test c = AndOp (Calculate flag Mul (VariableOf flag) test) c

-- the turn of a loop that no jump leaves, and how many flags it needs
abbrev pub turn_of : Scope → Ops → Ops
turn_of f body =
    if leaves ByContinue body then AndOp (Set (inside f) (NumberOf 1)) (flagged false (InCall (inside f)) true body NoOps) else flagged false f true body NoOps

abbrev pub turn_room : Ops → ℕ
turn_room body = if leaves ByContinue body then suc (room true body) else room true body
