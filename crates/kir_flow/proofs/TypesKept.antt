-- Loads and stores are by the type of their array's elements as they were.
use Rattle.std.proofs.Common.{ℕ, suc, Bool, true, false, ◌&&◌, not, List}
use Rattle.std.specs.Prelude.{if◌then◌else◌}
use Rattle.std.proofs.lemmas.Bool.{cond_both}
use Rattle.ocl_ast.specs.declared.units.Param.{Param}
use Rattle.ocl_program.specs.declared.functions.LocalArray.{LocalArray}
use Rattle.kir.specs.Measures.{is_single}
use Rattle.kir.specs.Trees.{Operand, NumberOf, Op, Set, Calculate, Fit, Id, Load, Store, Check, Barrier, If, Loop, Break, Continue, Return, Call, Ops, NoOps, AndOp, KirCode}
use Rattle.kir.specs.Typing.{AreTyped, OpTyped}
use Rattle.kir_flow.specs.declared.scopes.Jump.{Jump}
use Rattle.kir_flow.specs.declared.scopes.Scope.{Scope}
use Rattle.kir_flow.specs.declared.scopes.Jump.TheVariants.{ByBreak, ByContinue, ByReturn}
use Rattle.kir_flow.specs.declared.scopes.Scope.TheVariants.{InCall, InBody, InEdge}
use Rattle.kir_flow.specs.Flagging.{inside, leaves, op_leaves, is_left, op_is_left, is_flagged, body_scope}
use Rattle.kir_flow.specs.Flagging.{edge_scope, jump_ops, passed_on, tests, alive, singles, guarded, flagged_loop, flagged, flagged_op, flags}

-- ---- operations on flags

jump_typed : (ps : List Param) (ls : List LocalArray) (f : Scope) (j : Jump) (c : Ops) → AreTyped ps ls c → AreTyped ps ls (jump_ops f j c)
jump_typed ps ls (InCall call) j c after = (tt, after)
jump_typed ps ls (InBody call first) ByBreak c after = (tt, (tt, after))
jump_typed ps ls (InBody call first) ByContinue c after = (tt, after)
jump_typed ps ls (InBody call first) ByReturn c after = (tt, (tt, (tt, after)))
jump_typed ps ls (InEdge call first) ByBreak c after = (tt, (tt, after))
jump_typed ps ls (InEdge call first) ByContinue c after = (tt, (tt, after))
jump_typed ps ls (InEdge call first) ByReturn c after = (tt, (tt, (tt, after)))

after_typed : (ps : List Param) (ls : List LocalArray) (b : Bool) (f : Scope) (c : Ops) → AreTyped ps ls c → AreTyped ps ls (if b then passed_on f c else c)
after_typed ps ls true (InCall call) c after = after
after_typed ps ls true (InBody call first) c after = (tt, (tt, after))
after_typed ps ls true (InEdge call first) c after = (tt, (tt, after))
after_typed ps ls false f c after = after

-- ---- single operations

singles_typed : (ps : List Param) (ls : List LocalArray) (ops : Ops) → AreTyped ps ls ops → AreTyped ps ls (singles ops)
singles_typed ps ls NoOps typed = tt
singles_typed ps ls (AndOp op ops) (typed, rest) =
    cond_both (is_single op) (AndOp op (singles ops)) NoOps (AreTyped ps ls) (λ e. (typed, singles_typed ps ls ops rest)) (λ e. tt)

guarded_typed : (ps : List Param) (ls : List LocalArray) (among : Bool) (f : Scope) (sure : Bool) (op : Op) (ops c : Ops) → OpTyped ps ls op → AreTyped ps ls ops → AreTyped ps ls c
    → AreTyped ps ls (guarded among f sure op ops c)
guarded_typed ps ls among f true op ops c typed rest after = (typed, after)
guarded_typed ps ls true f false op ops c typed rest after = after
guarded_typed ps ls false f false op ops c typed rest after = (((typed, singles_typed ps ls ops rest), tt), after)

-- ---- the whole

-- parts, in front of what is typed
abbrev PartTyped : List Param → List LocalArray → Ops → Type 0
PartTyped ps ls ops = (f : Scope) (sure : Bool) (c : Ops) → AreTyped ps ls c → AreTyped ps ls (flagged false f sure ops c)

loop_typed : (ps : List Param) (ls : List LocalArray) (f : Scope) (sure : Bool) (head : Ops) (test : Operand) (body st c : Ops) → PartTyped ps ls head → PartTyped ps ls body
    → PartTyped ps ls st → AreTyped ps ls c → AreTyped ps ls (flagged_op f sure (Loop head test body st) c)
loop_typed ps ls f sure head test body st c heads bodies steps after = by_form (is_flagged sure head body st) (leaves ByContinue body)
  where
    by_form : (b k : Bool) → AreTyped ps ls (if b then
        flagged_loop f sure (flagged false (edge_scope f) false head (tests f test)) (flagged false (body_scope f) true body NoOps) (flagged false (edge_scope f) false st NoOps)
        (if op_leaves ByReturn (Loop head test body st) then passed_on f c else c)
        else if k then
        AndOp (Loop (flagged false f true head NoOps) test (AndOp (Set (inside f) (NumberOf 1)) (flagged false (InCall (inside f)) true body NoOps))
        (flagged false f true st NoOps)) c
        else AndOp (Loop (flagged false f true head NoOps) test (flagged false f true body NoOps) (flagged false f true st NoOps)) c)
    by_form true k = (
      tt,
      (
        tt,
        (
          (heads (edge_scope f) false (tests f test) (tt, tt), (tt, bodies (body_scope f) true NoOps tt), (tt, steps (edge_scope f) false NoOps tt)),
          after_typed ps ls (op_leaves ByReturn (Loop head test body st)) f c after,
        ),
      ),
    )
    by_form false true = ((heads f true NoOps tt, (tt, bodies (InCall (inside f)) true NoOps tt), steps f true NoOps tt), after)
    by_form false false = ((heads f true NoOps tt, bodies f true NoOps tt, steps f true NoOps tt), after)

call_typed : (ps : List Param) (ls : List LocalArray) (f : Scope) (sure : Bool) (body c : Ops) → PartTyped ps ls body → AreTyped ps ls c → AreTyped ps ls (flagged_op f sure (Call body) c)
call_typed ps ls f sure body c bodies after =
    cond_both (is_left body) (AndOp (Set (inside f) (alive f sure)) (flagged false (InCall (inside f)) sure body c)) (flagged false f sure body c) (AreTyped ps ls)
    (λ e. (tt, bodies (InCall (inside f)) sure c after)) (λ e. bodies f sure c after)

mutual
  pub flagged_typed : (ps : List Param) (ls : List LocalArray) (ops : Ops) (among : Bool) (f : Scope) (sure : Bool) (c : Ops) → AreTyped ps ls ops → AreTyped ps ls c
      → AreTyped ps ls (flagged among f sure ops c)
  flagged_typed ps ls NoOps among f sure c typed after = after
  flagged_typed ps ls (AndOp op ops) among f sure c (typed, rest) after =
      cond_both (is_single op) (guarded among f sure op ops (flagged (not sure) f sure ops c)) (flagged_op f sure op (flagged false f (sure && not (op_is_left op)) ops c))
      (AreTyped ps ls)
      (λ e. guarded_typed ps ls among f sure op ops (flagged (not sure) f sure ops c) typed rest (flagged_typed ps ls ops (not sure) f sure c rest after))
      (λ e. op_typed ps ls op f sure (flagged false f (sure && not (op_is_left op)) ops c) typed
      (flagged_typed ps ls ops false f (sure && not (op_is_left op)) c rest after))

  op_typed : (ps : List Param) (ls : List LocalArray) (op : Op) (f : Scope) (sure : Bool) (c : Ops) → OpTyped ps ls op → AreTyped ps ls c → AreTyped ps ls (flagged_op f sure op c)
  op_typed ps ls (If test one other) f sure c (first, second) after =
      ((flagged_typed ps ls one false f sure NoOps first tt, flagged_typed ps ls other false f sure NoOps second tt), after)
  op_typed ps ls (Loop head test body st) f sure c (first, second, third) after =
      loop_typed ps ls f sure head test body st c (λ g b x more. flagged_typed ps ls head false g b x first more) (λ g b x more. flagged_typed ps ls body false g b x second more)
      (λ g b x more. flagged_typed ps ls st false g b x third more) after
  op_typed ps ls (Call body) f sure c typed after = call_typed ps ls f sure body c (λ g b x more. flagged_typed ps ls body false g b x typed more) after
  op_typed ps ls Break f sure c typed after = jump_typed ps ls f ByBreak c after
  op_typed ps ls Continue f sure c typed after = jump_typed ps ls f ByContinue c after
  op_typed ps ls Return f sure c typed after = jump_typed ps ls f ByReturn c after
  op_typed ps ls (Set d a) f sure c typed after = (tt, after)
  op_typed ps ls (Calculate d op a b) f sure c typed after = (tt, after)
  op_typed ps ls (Fit d elem a) f sure c typed after = (tt, after)
  op_typed ps ls (Id d which a) f sure c typed after = (tt, after)
  op_typed ps ls (Load d array elem a) f sure c typed after = (typed, after)
  op_typed ps ls (Store array elem a b) f sure c typed after = (typed, after)
  op_typed ps ls (Check array a pos) f sure c typed after = (tt, after)
  op_typed ps ls (Barrier site) f sure c typed after = (tt, after)

pub flags_typed : (code : KirCode) → AreTyped code.params code.arrays code.ops → AreTyped (flags code).params (flags code).arrays (flags code).ops
flags_typed code typed = (tt, flagged_typed code.params code.arrays code.ops false (InCall code.variables) true NoOps typed tt)
