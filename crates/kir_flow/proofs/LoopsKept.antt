-- Loops stand within no more loops than they did.
use Rattle.std.proofs.Common.{ℕ, suc, ◌-◌, ◌≤◌, max, Bool, true, false, ◌&&◌, not, arith}
use Rattle.std.specs.Prelude.{if◌then◌else◌}
use Rattle.std.proofs.lemmas.Bool.{cond_both}
use Rattle.kir.specs.Loops.{loop_nesting, loop_nesting_in}
use Rattle.kir.specs.Measures.{is_single}
use Rattle.kir.specs.Trees.{Operand, VariableOf, NumberOf, Op, Set, Calculate, Fit, Id, Load, Store, Check, Barrier, If, Loop, Break, Continue, Return, Call, Ops, NoOps, AndOp, KirCode}
use Rattle.kir_flow.specs.declared.scopes.Jump.{Jump}
use Rattle.kir_flow.specs.declared.scopes.Scope.{Scope}
use Rattle.kir_flow.specs.declared.scopes.Jump.TheVariants.{ByBreak, ByContinue, ByReturn}
use Rattle.kir_flow.specs.declared.scopes.Scope.TheVariants.{InCall, InBody, InEdge}
use Rattle.kir_flow.specs.Flagging.{inside, leaves, op_leaves, is_left, op_is_left, is_flagged, body_scope}
use Rattle.kir_flow.specs.Flagging.{edge_scope, jump_ops, passed_on, tests, alive, singles, guarded, flagged_loop, flagged, flagged_op, flags}

-- ---- operations on flags

jump_loops : (n : ℕ) (f : Scope) (j : Jump) (c : Ops) → loop_nesting c ≤ n → loop_nesting (jump_ops f j c) ≤ n
jump_loops n (InCall call) j c after = omega arith
jump_loops n (InBody call first) ByBreak c after = omega arith
jump_loops n (InBody call first) ByContinue c after = omega arith
jump_loops n (InBody call first) ByReturn c after = omega arith
jump_loops n (InEdge call first) ByBreak c after = omega arith
jump_loops n (InEdge call first) ByContinue c after = omega arith
jump_loops n (InEdge call first) ByReturn c after = omega arith

after_loops : (n : ℕ) (b : Bool) (f : Scope) (c : Ops) → loop_nesting c ≤ n → loop_nesting (if b then passed_on f c else c) ≤ n
after_loops n true (InCall call) c after = after
after_loops n true (InBody call first) c after = omega arith
after_loops n true (InEdge call first) c after = omega arith
after_loops n false f c after = after

-- ---- single operations

singles_loops : (n : ℕ) (ops : Ops) → loop_nesting ops ≤ n → loop_nesting (singles ops) ≤ n
singles_loops n NoOps within = omega arith
singles_loops n (AndOp op ops) within =
    cond_both (is_single op) (AndOp op (singles ops)) NoOps (λ x. loop_nesting x ≤ n)
    (λ e. let h : loop_nesting (singles ops) ≤ n = singles_loops n ops (omega arith) in omega arith) (λ e. omega arith)

guarded_loops : (n : ℕ) (among : Bool) (f : Scope) (sure : Bool) (op : Op) (ops c : Ops) → loop_nesting_in op ≤ n → loop_nesting ops ≤ n → loop_nesting c ≤ n
    → loop_nesting (guarded among f sure op ops c) ≤ n
guarded_loops n among f true op ops c within rest after = omega arith
guarded_loops n true f false op ops c within rest after = after
guarded_loops n false f false op ops c within rest after = let h : loop_nesting (singles ops) ≤ n = singles_loops n ops rest in omega arith

-- ---- the whole

-- parts, in front of others
abbrev PartLoops : ℕ → Ops → Type 0
PartLoops n ops = (f : Scope) (sure : Bool) (c : Ops) → loop_nesting c ≤ n → loop_nesting (flagged false f sure ops c) ≤ n

-- a loop made of its parts
made_loops : (n : ℕ) (test : Operand) (head body st c : Ops) → 1 ≤ n → loop_nesting head ≤ n - 1 → loop_nesting body ≤ n - 1 → loop_nesting st ≤ n - 1 → loop_nesting c ≤ n
    → loop_nesting (AndOp (Loop head test body st) c) ≤ n
made_loops n test head body st c some first second third after = omega arith

-- a variable is set in front
set_loops : (n d : ℕ) (a : Operand) (c : Ops) → loop_nesting c ≤ n → loop_nesting (AndOp (Set d a) c) ≤ n
set_loops n d a c after = omega arith

loop_loops : (n : ℕ) (f : Scope) (sure : Bool) (head : Ops) (test : Operand) (body st c : Ops) → 1 ≤ n → PartLoops (n - 1) head → PartLoops (n - 1) body → PartLoops (n - 1) st
    → loop_nesting c ≤ n → loop_nesting (flagged_op f sure (Loop head test body st) c) ≤ n
loop_loops n f sure head test body st c some heads bodies steps after = by_form (is_flagged sure head body st) (leaves ByContinue body)
  where
    by_form : (b k : Bool) → loop_nesting (if b then
        flagged_loop f sure (flagged false (edge_scope f) false head (tests f test)) (flagged false (body_scope f) true body NoOps) (flagged false (edge_scope f) false st NoOps)
        (if op_leaves ByReturn (Loop head test body st) then passed_on f c else c)
        else if k then
        AndOp (Loop (flagged false f true head NoOps) test (AndOp (Set (inside f) (NumberOf 1)) (flagged false (InCall (inside f)) true body NoOps))
        (flagged false f true st NoOps)) c
        else AndOp (Loop (flagged false f true head NoOps) test (flagged false f true body NoOps) (flagged false f true st NoOps)) c) ≤ n
    by_form true k =
        let h : Ops = flagged false (edge_scope f) false head (tests f test) in
        let b : Ops = AndOp (Set (suc (inside f)) (VariableOf (inside f))) (flagged false (body_scope f) true body NoOps) in
        let s : Ops = AndOp (Set (suc (inside f)) (VariableOf (inside f))) (flagged false (edge_scope f) false st NoOps) in
        let x : Ops = if op_leaves ByReturn (Loop head test body st) then passed_on f c else c in
        let l : Ops = AndOp (Loop h (VariableOf (suc (inside f))) b s) x in
        set_loops n (inside f) (alive f sure) (AndOp (Set (suc (inside f)) (VariableOf (inside f))) l)
        (set_loops n (suc (inside f)) (VariableOf (inside f)) l
        (made_loops n (VariableOf (suc (inside f))) h b s x some
        (heads (edge_scope f) false (tests f test) (omega arith))
        (set_loops (n - 1) (suc (inside f)) (VariableOf (inside f)) (flagged false (body_scope f) true body NoOps) (bodies (body_scope f) true NoOps (omega arith)))
        (set_loops (n - 1) (suc (inside f)) (VariableOf (inside f)) (flagged false (edge_scope f) false st NoOps) (steps (edge_scope f) false NoOps (omega arith)))
        (after_loops n (op_leaves ByReturn (Loop head test body st)) f c after)))
    by_form false true =
        made_loops n test (flagged false f true head NoOps) (AndOp (Set (inside f) (NumberOf 1)) (flagged false (InCall (inside f)) true body NoOps)) (flagged false f true st NoOps) c some
        (heads f true NoOps (omega arith))
        (set_loops (n - 1) (inside f) (NumberOf 1) (flagged false (InCall (inside f)) true body NoOps) (bodies (InCall (inside f)) true NoOps (omega arith)))
        (steps f true NoOps (omega arith)) after
    by_form false false =
        made_loops n test (flagged false f true head NoOps) (flagged false f true body NoOps) (flagged false f true st NoOps) c some (heads f true NoOps (omega arith))
        (bodies f true NoOps (omega arith)) (steps f true NoOps (omega arith)) after

call_loops : (n : ℕ) (f : Scope) (sure : Bool) (body c : Ops) → PartLoops n body → loop_nesting c ≤ n → loop_nesting (flagged_op f sure (Call body) c) ≤ n
call_loops n f sure body c bodies after =
    cond_both (is_left body) (AndOp (Set (inside f) (alive f sure)) (flagged false (InCall (inside f)) sure body c)) (flagged false f sure body c) (λ x. loop_nesting x ≤ n)
    (λ e. set_loops n (inside f) (alive f sure) (flagged false (InCall (inside f)) sure body c) (bodies (InCall (inside f)) sure c after)) (λ e. bodies f sure c after)

if_loops : (n : ℕ) (test : Operand) (one other c : Ops) → loop_nesting one ≤ n → loop_nesting other ≤ n → loop_nesting c ≤ n → loop_nesting (AndOp (If test one other) c) ≤ n
if_loops n test one other c first second after = omega arith

mutual
  pub flagged_loops : (n : ℕ) (ops : Ops) (among : Bool) (f : Scope) (sure : Bool) (c : Ops) → loop_nesting ops ≤ n → loop_nesting c ≤ n → loop_nesting (flagged among f sure ops c) ≤ n
  flagged_loops n NoOps among f sure c within after = after
  flagged_loops n (AndOp op ops) among f sure c within after =
      cond_both (is_single op) (guarded among f sure op ops (flagged (not sure) f sure ops c)) (flagged_op f sure op (flagged false f (sure && not (op_is_left op)) ops c))
      (λ x. loop_nesting x ≤ n)
      (λ e. guarded_loops n among f sure op ops (flagged (not sure) f sure ops c) (omega arith) (omega arith) (flagged_loops n ops (not sure) f sure c (omega arith) after))
      (λ e. op_loops n op f sure (flagged false f (sure && not (op_is_left op)) ops c) (omega arith)
      (flagged_loops n ops false f (sure && not (op_is_left op)) c (omega arith) after))

  op_loops : (n : ℕ) (op : Op) (f : Scope) (sure : Bool) (c : Ops) → loop_nesting_in op ≤ n → loop_nesting c ≤ n → loop_nesting (flagged_op f sure op c) ≤ n
  op_loops n (If test one other) f sure c within after =
      if_loops n test (flagged false f sure one NoOps) (flagged false f sure other NoOps) c (flagged_loops n one false f sure NoOps (omega arith) (omega arith))
      (flagged_loops n other false f sure NoOps (omega arith) (omega arith)) after
  op_loops n (Loop head test body st) f sure c within after =
      loop_loops n f sure head test body st c (omega arith) (λ g b x more. flagged_loops (n - 1) head false g b x (omega arith) more)
      (λ g b x more. flagged_loops (n - 1) body false g b x (omega arith) more) (λ g b x more. flagged_loops (n - 1) st false g b x (omega arith) more) after
  op_loops n (Call body) f sure c within after = call_loops n f sure body c (λ g b x more. flagged_loops n body false g b x within more) after
  op_loops n Break f sure c within after = jump_loops n f ByBreak c after
  op_loops n Continue f sure c within after = jump_loops n f ByContinue c after
  op_loops n Return f sure c within after = jump_loops n f ByReturn c after
  op_loops n (Set d a) f sure c within after = omega arith
  op_loops n (Calculate d op a b) f sure c within after = omega arith
  op_loops n (Fit d elem a) f sure c within after = omega arith
  op_loops n (Id d which a) f sure c within after = omega arith
  op_loops n (Load d array elem a) f sure c within after = omega arith
  op_loops n (Store array elem a b) f sure c within after = omega arith
  op_loops n (Check array a pos) f sure c within after = omega arith
  op_loops n (Barrier site) f sure c within after = omega arith

pub flags_loops : (code : KirCode) → loop_nesting (flags code).ops ≤ loop_nesting code.ops
flags_loops code =
    let h : loop_nesting (flagged false (InCall code.variables) true code.ops NoOps) ≤ loop_nesting code.ops =
    flagged_loops (loop_nesting code.ops) code.ops false (InCall code.variables) true NoOps (omega arith) (omega arith) in omega arith
