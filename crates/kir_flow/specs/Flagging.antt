-- Jumps turned into flags. A loop that a jump may leave has two variables that are 1 or 0: `run`, whether the loop goes on, and `live`,
-- whether the turn that it is in goes on. A call that a jump may leave, the kernel, and the body of a loop of which only a `Continue`
-- leads to the end of a turn have one. A jump clears flags in place of going anywhere. What stands behind it is done only where the
-- innermost flag is 1, and the tests of loops are 0 where it is 0.
use Rattle.std.specs.Prelude.{ℕ, suc, ◌+◌, max, Bool, true, false, not, ◌&&◌, ◌||◌, if◌then◌else◌}
use Rattle.vx_base.specs.declared.types.Alu.TheVariants.{Sub, And, Mul}
use Rattle.kir.specs.Measures.{is_single}
use Rattle.kir.specs.Trees.{Operand, VariableOf, NumberOf, Op, Set, Calculate, If, Loop, Break, Continue, Return, Call, Ops, NoOps, AndOp, KirCode}
use Rattle.kir_flow.specs.declared.scopes.Jump.{Jump}
use Rattle.kir_flow.specs.declared.scopes.Jump.TheVariants.{ByBreak, ByContinue, ByReturn}
use Rattle.kir_flow.specs.declared.scopes.Scope.{Scope}
use Rattle.kir_flow.specs.declared.scopes.Scope.TheVariants.{InCall, InBody, InEdge}

-- ---- jumps

-- whether it is this jump
abbrev pub is_jump : Jump → Op → Bool
is_jump ByBreak Break = true
is_jump ByContinue Continue = true
is_jump ByReturn Return = true
is_jump j other = false

abbrev pub is_return : Jump → Bool
is_return ByReturn = true
is_return other = false

-- Whether operations hold this jump, so that it leaves them: out of a loop only a `Return` leads, and out of a call no jump.
abbrev mutual
  pub leaves : Jump → Ops → Bool
  leaves j NoOps = false
  leaves j (AndOp op ops) = op_leaves j op || leaves j ops

  pub op_leaves : Jump → Op → Bool
  op_leaves j (If test one other) = leaves j one || leaves j other
  op_leaves j (Loop head test body step) = is_return j && (leaves j head || (leaves j body || leaves j step))
  op_leaves j (Call body) = false
  op_leaves j other = is_jump j other

-- whether any jump leaves them
abbrev pub is_left : Ops → Bool
is_left ops = leaves ByBreak ops || (leaves ByContinue ops || leaves ByReturn ops)

abbrev pub op_is_left : Op → Bool
op_is_left op = op_leaves ByBreak op || (op_leaves ByContinue op || op_leaves ByReturn op)

-- Whether a jump in it leaves a loop. In a head or a step a `Continue` does so too.
abbrev pub is_cut : Ops → Ops → Ops → Bool
is_cut head body step = is_left head || (is_left step || (leaves ByBreak body || leaves ByReturn body))

-- whether a loop needs flags, where it is known or not that it is begun alive
abbrev pub is_flagged : Bool → Ops → Ops → Ops → Bool
is_flagged sure head body step = not sure || is_cut head body step

-- ---- flags

-- whether what is behind a jump is done
abbrev pub live : Scope → ℕ
live (InCall call) = call
live (InBody call first) = suc first
live (InEdge call first) = suc first

-- whether the innermost loop goes on, and the call
abbrev pub run : Scope → ℕ
run (InCall call) = call
run (InBody call first) = first
run (InEdge call first) = first

abbrev pub whole : Scope → ℕ
whole (InCall call) = call
whole (InBody call first) = call
whole (InEdge call first) = call

-- the first variable that is free for what stands inside
abbrev pub inside : Scope → ℕ
inside f = suc (live f)

-- the flags in a loop within
abbrev pub body_scope : Scope → Scope
body_scope f = InBody (whole f) (inside f)

abbrev pub edge_scope : Scope → Scope
edge_scope f = InEdge (whole f) (inside f)

-- ---- operations on flags, in front of others

-- a flag is cleared if the turn or call that the jump is in is alive
abbrev pub clear : ℕ → ℕ → Ops → Ops
clear flag live c = AndOp (Calculate flag Sub (VariableOf flag) (VariableOf live)) c

-- the innermost flag is cleared in any case
abbrev pub dies : ℕ → Ops → Ops
dies live c = AndOp (Set live (NumberOf 0)) c

-- What a jump comes to. Outside every loop of its call each is a `Return`, and in a head or step a `Continue` leaves the loop.
abbrev pub jump_ops : Scope → Jump → Ops → Ops
jump_ops (InCall call) j c = dies call c
jump_ops (InBody call first) ByContinue c = dies (suc first) c
jump_ops (InBody call first) ByBreak c = clear first (suc first) (dies (suc first) c)
jump_ops (InBody call first) ByReturn c = clear call (suc first) (clear first (suc first) (dies (suc first) c))
jump_ops (InEdge call first) ByReturn c = clear call (suc first) (clear first (suc first) (dies (suc first) c))
jump_ops (InEdge call first) j c = clear first (suc first) (dies (suc first) c)

-- behind a loop that a `Return` may leave, the loop around it goes on only where the call does
abbrev pub passed_on : Scope → Ops → Ops
passed_on (InCall call) c = c
passed_on f c = AndOp (Calculate (live f) And (VariableOf (live f)) (VariableOf (whole f))) (AndOp (Calculate (run f) And (VariableOf (run f)) (VariableOf (whole f))) c)

-- what a new flag begins with: 1 where it is known that what is around it is alive
abbrev pub alive : Scope → Bool → Operand
alive f sure = if sure then NumberOf 1 else VariableOf (live f)

-- a loop with its two flags, made of its parts
abbrev pub flagged_loop : Scope → Bool → Ops → Ops → Ops → Ops → Ops
flagged_loop f sure head body step c =
    AndOp (Set (inside f) (alive f sure)) (AndOp (Set (suc (inside f)) (VariableOf (inside f)))
    (AndOp (Loop head (VariableOf (suc (inside f))) (AndOp (Set (suc (inside f)) (VariableOf (inside f))) body) (AndOp (Set (suc (inside f)) (VariableOf (inside f))) step)) c))

-- behind the head: the turn is alive only where the test is not 0, and the test is what is left in the flag
abbrev pub tests : Scope → Operand → Ops
tests f test = AndOp (Calculate (suc (inside f)) Mul (VariableOf (suc (inside f))) test) NoOps

-- ---- single operations

-- the single operations that stand in front
abbrev pub singles : Ops → Ops
singles NoOps = NoOps
singles (AndOp op ops) = if is_single op then AndOp op (singles ops) else NoOps

-- A single operation and what follows. Where it is known that all is alive it stands as it is. Else the first of a run of them stands
-- for the whole run, under a branch, and the others are left out: `among` says that this is one of the others.
abbrev pub guarded : Bool → Scope → Bool → Op → Ops → Ops → Ops
guarded among f true op ops c = AndOp op c
guarded true f false op ops c = c
guarded false f false op ops c = AndOp (If (VariableOf (live f)) (AndOp op (singles ops)) NoOps) c

-- ---- the whole

abbrev mutual
  -- Operations without jumps and calls, and what follows. `among` says that the operation before is a single one under a branch, and
  -- `sure` that they are reached only alive.
  pub flagged : Bool → Scope → Bool → Ops → Ops → Ops
  flagged among f sure NoOps c = c
  flagged among f sure (AndOp op ops) c =
      if is_single op then guarded among f sure op ops (flagged (not sure) f sure ops c)
      else flagged_op f sure op (flagged false f (sure && not (op_is_left op)) ops c)

  pub flagged_op : Scope → Bool → Op → Ops → Ops
  flagged_op f sure (If test one other) c = AndOp (If test (flagged false f sure one NoOps) (flagged false f sure other NoOps)) c
  flagged_op f sure (Loop head test body step) c =
      if is_flagged sure head body step then
      flagged_loop f sure (flagged false (edge_scope f) false head (tests f test)) (flagged false (body_scope f) true body NoOps) (flagged false (edge_scope f) false step NoOps)
      (if op_leaves ByReturn (Loop head test body step) then passed_on f c else c)
      else if leaves ByContinue body then
      AndOp (Loop (flagged false f true head NoOps) test (AndOp (Set (inside f) (NumberOf 1)) (flagged false (InCall (inside f)) true body NoOps))
      (flagged false f true step NoOps)) c
      else AndOp (Loop (flagged false f true head NoOps) test (flagged false f true body NoOps) (flagged false f true step NoOps)) c
  flagged_op f sure (Call body) c =
      if is_left body then AndOp (Set (inside f) (alive f sure)) (flagged false (InCall (inside f)) sure body c) else flagged false f sure body c
  flagged_op f sure Break c = jump_ops f ByBreak c
  flagged_op f sure Continue c = jump_ops f ByContinue c
  flagged_op f sure Return c = jump_ops f ByReturn c
  flagged_op f sure other c = AndOp other c

abbrev mutual
  -- how many flags there are at most, one inside another
  pub room : Bool → Ops → ℕ
  room sure NoOps = 0
  room sure (AndOp op ops) = max (op_room sure op) (room (sure && not (op_is_left op)) ops)

  pub op_room : Bool → Op → ℕ
  op_room sure (If test one other) = max (room sure one) (room sure other)
  op_room sure (Loop head test body step) =
      if is_flagged sure head body step then 2 + max (room false head) (max (room true body) (room false step))
      else if leaves ByContinue body then max (room true head) (max (suc (room true body)) (room true step))
      else max (room true head) (max (room true body) (room true step))
  op_room sure (Call body) = if is_left body then suc (room sure body) else room sure body
  op_room sure other = 0

-- A kernel with flags in place of jumps: they are numbered behind its variables, the kernel's own first.
abbrev pub flags : KirCode → KirCode
flags code = record {
  params = code.params;
  arrays = code.arrays;
  variables = suc code.variables + room true code.ops;
  ops = AndOp (Set code.variables (NumberOf 1)) (flagged false (InCall code.variables) true code.ops NoOps);
}
