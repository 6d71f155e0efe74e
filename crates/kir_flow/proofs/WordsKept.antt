-- How many words of code flags come to.
use Rattle.std.proofs.Common.{◌≡◌, ℕ, suc, ◌+◌, ◌*◌, ◌≤◌, Bool, true, false, ◌&&◌, not, refl, sym, subst, arith, true≢false}
use Rattle.std.specs.Prelude.{if◌then◌else◌}
use Rattle.std.proofs.lemmas.Bool.{cond_both}
use Rattle.kir.specs.Measures.{is_single, runs, runs_in}
use Rattle.kir.specs.Trees.{Operand, VariableOf, NumberOf, Op, Set, Calculate, Fit, Id, Load, Store, Check, Barrier, If, Loop, Break, Continue, Return, Call, Ops, NoOps, AndOp}
use Rattle.kir.specs.Trees.{KirCode}
use Rattle.kir.specs.Weights.{operand_words, test_words, if_words, set_words, weight, weight_in}
use Rattle.kir.specs.FlaggedWords.{unguarded, op_unguarded, flagged_words}
use Rattle.kir_flow.specs.declared.scopes.Jump.{Jump}
use Rattle.kir_flow.specs.declared.scopes.Scope.{Scope}
use Rattle.kir_flow.specs.declared.scopes.Jump.TheVariants.{ByBreak, ByContinue, ByReturn}
use Rattle.kir_flow.specs.declared.scopes.Scope.TheVariants.{InCall, InBody, InEdge}
use Rattle.kir_flow.specs.Flagging.{inside, leaves, op_leaves, is_left, op_is_left, is_flagged, body_scope}
use Rattle.kir_flow.specs.Flagging.{edge_scope, jump_ops, passed_on, tests, alive, singles, guarded, flagged_loop, flagged, flagged_op, flags}

-- ---- runs

-- a run is begun where none was before
runs_more : (ops : Ops) → runs false ops ≤ suc (runs true ops)
runs_more NoOps = omega arith
runs_more (AndOp (Set d a) ops) = omega arith
runs_more (AndOp (Calculate d op a b) ops) = omega arith
runs_more (AndOp (Fit d elem a) ops) = omega arith
runs_more (AndOp (Id d which a) ops) = omega arith
runs_more (AndOp (Load d array elem a) ops) = omega arith
runs_more (AndOp (Store array elem a b) ops) = omega arith
runs_more (AndOp (Check array a pos) ops) = omega arith
runs_more (AndOp (Barrier site) ops) = omega arith
runs_more (AndOp (If test one other) ops) = omega arith
runs_more (AndOp (Loop head test body st) ops) = omega arith
runs_more (AndOp Break ops) = omega arith
runs_more (AndOp Continue ops) = omega arith
runs_more (AndOp Return ops) = omega arith
runs_more (AndOp (Call body) ops) = omega arith

single_runs : (op : Op) → is_single op ≡ true → runs_in false op ≡ 1
single_runs (Set d a) e = refl
single_runs (Calculate d op a b) e = refl
single_runs (Fit d elem a) e = refl
single_runs (Id d which a) e = refl
single_runs (Load d array elem a) e = refl
single_runs (Store array elem a b) e = refl
single_runs (Check array a pos) e = refl
single_runs (Barrier site) e = refl
single_runs (If test one other) e = absurd (true≢false (sym e))
single_runs (Loop head test body st) e = absurd (true≢false (sym e))
single_runs Break e = absurd (true≢false (sym e))
single_runs Continue e = absurd (true≢false (sym e))
single_runs Return e = absurd (true≢false (sym e))
single_runs (Call body) e = absurd (true≢false (sym e))

among_runs : (op : Op) → is_single op ≡ true → runs_in true op ≡ 0
among_runs (Set d a) e = refl
among_runs (Calculate d op a b) e = refl
among_runs (Fit d elem a) e = refl
among_runs (Id d which a) e = refl
among_runs (Load d array elem a) e = refl
among_runs (Store array elem a b) e = refl
among_runs (Check array a pos) e = refl
among_runs (Barrier site) e = refl
among_runs (If test one other) e = absurd (true≢false (sym e))
among_runs (Loop head test body st) e = absurd (true≢false (sym e))
among_runs Break e = absurd (true≢false (sym e))
among_runs Continue e = absurd (true≢false (sym e))
among_runs Return e = absurd (true≢false (sym e))
among_runs (Call body) e = absurd (true≢false (sym e))

other_runs : (op : Op) → is_single op ≡ false → runs_in true op ≡ runs_in false op
other_runs (Set d a) e = absurd (true≢false e)
other_runs (Calculate d op a b) e = absurd (true≢false e)
other_runs (Fit d elem a) e = absurd (true≢false e)
other_runs (Id d which a) e = absurd (true≢false e)
other_runs (Load d array elem a) e = absurd (true≢false e)
other_runs (Store array elem a b) e = absurd (true≢false e)
other_runs (Check array a pos) e = absurd (true≢false e)
other_runs (Barrier site) e = absurd (true≢false e)
other_runs (If test one other) e = refl
other_runs (Loop head test body st) e = refl
other_runs Break e = refl
other_runs Continue e = refl
other_runs Return e = refl
other_runs (Call body) e = refl

single_weight : (op : Op) → is_single op ≡ true → weight_in op ≡ op_unguarded op
single_weight (Set d a) e = refl
single_weight (Calculate d op a b) e = refl
single_weight (Fit d elem a) e = refl
single_weight (Id d which a) e = refl
single_weight (Load d array elem a) e = refl
single_weight (Store array elem a b) e = refl
single_weight (Check array a pos) e = refl
single_weight (Barrier site) e = refl
single_weight (If test one other) e = absurd (true≢false (sym e))
single_weight (Loop head test body st) e = absurd (true≢false (sym e))
single_weight Break e = absurd (true≢false (sym e))
single_weight Continue e = absurd (true≢false (sym e))
single_weight Return e = absurd (true≢false (sym e))
single_weight (Call body) e = absurd (true≢false (sym e))

-- ---- flags

alive_words : (f : Scope) (sure : Bool) → set_words (alive f sure) ≤ 3
alive_words f true = omega arith
alive_words f false = omega arith

test_most : (test : Operand) → operand_words test ≤ test_words test + 1
test_most (VariableOf k) = omega arith
test_most (NumberOf n) = omega arith

jump_most : (f : Scope) (j : Jump) (c : Ops) → weight (jump_ops f j c) ≤ 11 + weight c
jump_most (InCall call) j c = omega arith
jump_most (InBody call first) ByBreak c = omega arith
jump_most (InBody call first) ByContinue c = omega arith
jump_most (InBody call first) ByReturn c = omega arith
jump_most (InEdge call first) ByBreak c = omega arith
jump_most (InEdge call first) ByContinue c = omega arith
jump_most (InEdge call first) ByReturn c = omega arith

passed_most : (f : Scope) (c : Ops) → weight (passed_on f c) ≤ 8 + weight c
passed_most (InCall call) c = omega arith
passed_most (InBody call first) c = omega arith
passed_most (InEdge call first) c = omega arith

after_most : (b : Bool) (f : Scope) (c : Ops) → weight (if b then passed_on f c else c) ≤ 8 + weight c
after_most true f c = passed_most f c
after_most false f c = omega arith

-- ---- sums

flagged_sum : (a o t h b s x c uh ub us rh rb rs : ℕ) → a ≤ 3 → o ≤ t + 1 → h ≤ uh + 9 * rh + (o + 3) → b ≤ ub + 9 * rb → s ≤ us + 9 * rs → x ≤ 8 + c
    → a + (2 + ((0 + 10 + (h + ((2 + b) + (2 + s)))) + x)) ≤ (t + 31 + (uh + (ub + us))) + 9 * (rh + (rb + rs)) + c
flagged_sum a o t h b s x c uh ub us rh rb rs e1 e2 e3 e4 e5 e6 = omega arith

plain_sum : (a t h b s c uh ub us rh rb rs : ℕ) → a ≤ 3 → h ≤ uh + 9 * rh → b ≤ ub + 9 * rb → s ≤ us + 9 * rs
    → (t + 10 + (h + ((a + b) + s))) + c ≤ (t + 31 + (uh + (ub + us))) + 9 * (rh + (rb + rs)) + c
plain_sum a t h b s c uh ub us rh rb rs e1 e2 e3 e4 = omega arith

bare_sum : (t h b s c uh ub us rh rb rs : ℕ) → h ≤ uh + 9 * rh → b ≤ ub + 9 * rb → s ≤ us + 9 * rs
    → (t + 10 + (h + (b + s))) + c ≤ (t + 31 + (uh + (ub + us))) + 9 * (rh + (rb + rs)) + c
bare_sum t h b s c uh ub us rh rb rs e1 e2 e3 = omega arith

cons_sum : (x u r y u' r' c : ℕ) → x ≤ u + 9 * r + y → y ≤ u' + 9 * r' + c → x ≤ (u + u') + 9 * (r + r') + c
cons_sum x u r y u' r' c e e' = omega arith

if_sum : (t a b c ua ub ra rb : ℕ) → a ≤ ua + 9 * ra + 0 → b ≤ ub + 9 * rb + 0 → (t + (a + b)) + c ≤ (t + (ua + ub)) + 9 * (ra + rb) + c
if_sum t a b c ua ub ra rb e e' = omega arith

call_sum : (a x u r c : ℕ) → a ≤ 3 → x ≤ u + 9 * r + c → a + x ≤ (8 + u) + 9 * r + c
call_sum a x u r c e e' = omega arith

-- ---- parts

abbrev pub PartWords : Ops → Type 0
PartWords ops = (f : Scope) (sure : Bool) (c : Ops) → weight (flagged false f sure ops c) ≤ flagged_words ops + weight c

loop_words_of : (f : Scope) (sure : Bool) (head : Ops) (test : Operand) (body st c : Ops) → PartWords head → PartWords body → PartWords st
    → weight (flagged_op f sure (Loop head test body st) c) ≤ op_unguarded (Loop head test body st) + 9 * runs_in false (Loop head test body st) + weight c
loop_words_of f sure head test body st c heads bodies steps =
    cond_both (is_flagged sure head body st)
    (flagged_loop f sure (flagged false (edge_scope f) false head (tests f test)) (flagged false (body_scope f) true body NoOps) (flagged false (edge_scope f) false st NoOps)
    (if op_leaves ByReturn (Loop head test body st) then passed_on f c else c))
    (if leaves ByContinue body then
    AndOp (Loop (flagged false f true head NoOps) test (AndOp (Set (inside f) (NumberOf 1)) (flagged false (InCall (inside f)) true body NoOps)) (flagged false f true st NoOps)) c
    else AndOp (Loop (flagged false f true head NoOps) test (flagged false f true body NoOps) (flagged false f true st NoOps)) c)
    (λ x. weight x ≤ op_unguarded (Loop head test body st) + 9 * runs_in false (Loop head test body st) + weight c)
    (λ e.
    let a : set_words (alive f sure) ≤ 3 = alive_words f sure in
    let t : operand_words test ≤ test_words test + 1 = test_most test in
    let h : weight (flagged false (edge_scope f) false head (tests f test)) ≤ flagged_words head + weight (tests f test) = heads (edge_scope f) false (tests f test) in
    let b : weight (flagged false (body_scope f) true body NoOps) ≤ flagged_words body + 0 = bodies (body_scope f) true NoOps in
    let s : weight (flagged false (edge_scope f) false st NoOps) ≤ flagged_words st + 0 = steps (edge_scope f) false NoOps in
    let p : weight (if op_leaves ByReturn (Loop head test body st) then passed_on f c else c) ≤ 8 + weight c = after_most (op_leaves ByReturn (Loop head test body st)) f c in
    flagged_sum (set_words (alive f sure)) (operand_words test) (test_words test) (weight (flagged false (edge_scope f) false head (tests f test)))
    (weight (flagged false (body_scope f) true body NoOps))
    (weight (flagged false (edge_scope f) false st NoOps)) (weight (if op_leaves ByReturn (Loop head test body st) then passed_on f c else c)) (weight c)
    (unguarded head) (unguarded body) (unguarded st) (runs false head) (runs false body) (runs false st) a t (omega arith) (omega arith) (omega arith) p)
    (λ e.
    let h : weight (flagged false f true head NoOps) ≤ flagged_words head + 0 = heads f true NoOps in
    let s : weight (flagged false f true st NoOps) ≤ flagged_words st + 0 = steps f true NoOps in
    cond_both (leaves ByContinue body)
    (AndOp (Loop (flagged false f true head NoOps) test (AndOp (Set (inside f) (NumberOf 1)) (flagged false (InCall (inside f)) true body NoOps))
    (flagged false f true st NoOps)) c)
    (AndOp (Loop (flagged false f true head NoOps) test (flagged false f true body NoOps) (flagged false f true st NoOps)) c)
    (λ x. weight x ≤ op_unguarded (Loop head test body st) + 9 * runs_in false (Loop head test body st) + weight c)
    (λ k. let b : weight (flagged false (InCall (inside f)) true body NoOps) ≤ flagged_words body + 0 = bodies (InCall (inside f)) true NoOps in
    plain_sum 3 (test_words test) (weight (flagged false f true head NoOps)) (weight (flagged false (InCall (inside f)) true body NoOps))
    (weight (flagged false f true st NoOps)) (weight c)
    (unguarded head) (unguarded body) (unguarded st) (runs false head) (runs false body) (runs false st) (omega arith) (omega arith) (omega arith) (omega arith))
    (λ k. let b : weight (flagged false f true body NoOps) ≤ flagged_words body + 0 = bodies f true NoOps in
    bare_sum (test_words test) (weight (flagged false f true head NoOps)) (weight (flagged false f true body NoOps)) (weight (flagged false f true st NoOps)) (weight c)
    (unguarded head) (unguarded body) (unguarded st) (runs false head) (runs false body) (runs false st) (omega arith) (omega arith) (omega arith)))

-- a single operation in front
single_words_of : (f : Scope) (sure : Bool) (op : Op) (ops c : Ops) → is_single op ≡ true → weight (flagged false f true ops c) ≤ flagged_words ops + weight c
    → weight (singles ops) + weight (flagged true f false ops c) ≤ unguarded ops + 9 * runs true ops + weight c
    → weight (guarded false f sure op ops (flagged (not sure) f sure ops c)) ≤ (op_unguarded op + unguarded ops) + 9 * (runs_in false op + runs true ops) + weight c
single_words_of f true op ops c e plain among =
    let a : weight_in op ≡ op_unguarded op = single_weight op e in
    let b : runs_in false op ≡ 1 = single_runs op e in
    let d : runs false ops ≤ suc (runs true ops) = runs_more ops in
    omega arith
single_words_of f false op ops c e plain among =
    let a : weight_in op ≡ op_unguarded op = single_weight op e in
    let b : runs_in false op ≡ 1 = single_runs op e in
    omega arith

kind_weight : (op : Op) (ops : Ops) (f : Scope) (c : Ops) (b : Bool) → is_single op ≡ b
    → weight (singles ops) + weight (flagged true f false ops c) ≤ unguarded ops + 9 * runs true ops + weight c
    → weight (flagged false f false ops c) ≤ flagged_words ops + weight c
    → (is_single op ≡ false → weight (flagged_op f false op (flagged false f false ops c)) ≤ op_unguarded op + 9 * runs_in false op + weight (flagged false f false ops c))
    → weight (if b then AndOp op (singles ops) else NoOps) + weight (if b then flagged true f false ops c else flagged_op f false op (flagged false f false ops c))
    ≤ (op_unguarded op + unguarded ops) + 9 * (runs_in true op + runs b ops) + weight c
kind_weight op ops f c true e one rest behind =
    let a : weight_in op ≡ op_unguarded op = single_weight op e in
    let b : runs_in true op ≡ 0 = among_runs op e in
    omega arith
kind_weight op ops f c false e one rest behind =
    let own : weight (flagged_op f false op (flagged false f false ops c)) ≤ op_unguarded op + 9 * runs_in false op + weight (flagged false f false ops c) = behind e in
    let b : runs_in true op ≡ runs_in false op = other_runs op e in
    omega arith

-- ---- the whole

mutual
  pub flagged_weight : (ops : Ops) → PartWords ops
  flagged_weight NoOps f sure c = omega arith
  flagged_weight (AndOp op ops) f sure c =
      cond_both (is_single op) (guarded false f sure op ops (flagged (not sure) f sure ops c)) (flagged_op f sure op (flagged false f (sure && not (op_is_left op)) ops c))
      (λ x. weight x ≤ flagged_words (AndOp op ops) + weight c)
      (λ e. subst (λ b. weight (guarded false f sure op ops
      (flagged (not sure) f sure ops c)) ≤ (op_unguarded op + unguarded ops) + 9 * (runs_in false op + runs b ops) + weight c) (sym e)
      (single_words_of f sure op ops c e (flagged_weight ops f true c) (among_weight ops f c)))
      (λ e.
      let own : weight (flagged_op f sure op (flagged false f (sure && not (op_is_left op)) ops c)) ≤ op_unguarded op + 9 * runs_in false op + weight
      (flagged false f (sure && not (op_is_left op)) ops c) =
      op_weight op e f sure (flagged false f (sure && not (op_is_left op)) ops c) in
      let rest : weight (flagged false f (sure && not (op_is_left op)) ops c) ≤ unguarded ops + 9 * runs false ops + weight c = flagged_weight ops f
      (sure && not (op_is_left op)) c in
      subst (λ b. weight (flagged_op f sure op (flagged false f (sure && not (op_is_left op)) ops c)) ≤ (op_unguarded op + unguarded ops) + 9 * (runs_in false op + runs b
      ops) + weight c) (sym e)
      (cons_sum (weight (flagged_op f sure op (flagged false f (sure && not (op_is_left op)) ops c))) (op_unguarded op) (runs_in false op)
      (weight (flagged false f (sure && not (op_is_left op)) ops c))
      (unguarded ops) (runs false ops) (weight c) own rest))

  among_weight : (ops : Ops) (f : Scope) (c : Ops) → weight (singles ops) + weight (flagged true f false ops c) ≤ unguarded ops + 9 * runs true ops + weight c
  among_weight NoOps f c = omega arith
  among_weight (AndOp op ops) f c =
      kind_weight op ops f c (is_single op) refl (among_weight ops f c) (flagged_weight ops f false c) (λ e. op_weight op e f false (flagged false f false ops c))

  op_weight : (op : Op) → is_single op ≡ false → (f : Scope) (sure : Bool) (c : Ops) → weight (flagged_op f sure op c) ≤ op_unguarded op + 9 * runs_in false op + weight c
  op_weight (If test one other) e f sure c =
      if_sum (if_words test) (weight (flagged false f sure one NoOps)) (weight (flagged false f sure other NoOps)) (weight c) (unguarded one) (unguarded other) (runs false one)
      (runs false other)
      (flagged_weight one f sure NoOps) (flagged_weight other f sure NoOps)
  op_weight (Loop head test body st) e f sure c = loop_words_of f sure head test body st c (flagged_weight head) (flagged_weight body) (flagged_weight st)
  op_weight (Call body) e f sure c =
      cond_both (is_left body) (AndOp (Set (inside f) (alive f sure)) (flagged false (InCall (inside f)) sure body c)) (flagged false f sure body c)
      (λ x. weight x ≤ (8 + unguarded body) + 9 * runs false body + weight c)
      (λ e'. call_sum (set_words (alive f sure)) (weight (flagged false (InCall (inside f)) sure body c)) (unguarded body) (runs false body) (weight c) (alive_words f sure)
      (flagged_weight body (InCall (inside f)) sure c))
      (λ e'. let h : weight (flagged false f sure body c) ≤ flagged_words body + weight c = flagged_weight body f sure c in omega arith)
  op_weight Break e f sure c = let h : weight (jump_ops f ByBreak c) ≤ 11 + weight c = jump_most f ByBreak c in omega arith
  op_weight Continue e f sure c = let h : weight (jump_ops f ByContinue c) ≤ 11 + weight c = jump_most f ByContinue c in omega arith
  op_weight Return e f sure c = let h : weight (jump_ops f ByReturn c) ≤ 11 + weight c = jump_most f ByReturn c in omega arith
  op_weight (Set d a) e f sure c = absurd (true≢false e)
  op_weight (Calculate d op a b) e f sure c = absurd (true≢false e)
  op_weight (Fit d elem a) e f sure c = absurd (true≢false e)
  op_weight (Id d which a) e f sure c = absurd (true≢false e)
  op_weight (Load d array elem a) e f sure c = absurd (true≢false e)
  op_weight (Store array elem a b) e f sure c = absurd (true≢false e)
  op_weight (Check array a pos) e f sure c = absurd (true≢false e)
  op_weight (Barrier site) e f sure c = absurd (true≢false e)

-- with flags a kernel has no more words than are set aside for them, and those of its own flag
pub flags_weight : (code : KirCode) → weight (flags code).ops ≤ 3 + flagged_words code.ops
flags_weight code =
    let h : weight (flagged false (InCall code.variables) true code.ops NoOps) ≤ flagged_words code.ops + 0 = flagged_weight code.ops (InCall code.variables) true NoOps in
    omega arith
