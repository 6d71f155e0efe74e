-- No jump and no call is left.
use Rattle.std.proofs.Common.{◌≡◌, Bool, true, false, ◌&&◌, ◌||◌, not, refl, ap, sym, ◌∙◌, true≢false}
use Rattle.std.specs.Prelude.{if◌then◌else◌}
use Rattle.std.proofs.lemmas.Bool.{cond_both}
use Rattle.kir.specs.Measures.{is_single, jumps, jumps_in}
use Rattle.kir.specs.Trees.{NumberOf, Op, Set, Calculate, Fit, Id, Load, Store, Check, Barrier, If, Loop, Break, Continue, Return, Call, Ops, NoOps, AndOp, KirCode}
use Rattle.kir_flow.specs.declared.scopes.Jump.{Jump}
use Rattle.kir_flow.specs.declared.scopes.Scope.{Scope}
use Rattle.kir_flow.specs.declared.scopes.Jump.TheVariants.{ByBreak, ByContinue, ByReturn}
use Rattle.kir_flow.specs.declared.scopes.Scope.TheVariants.{InCall, InBody, InEdge}
use Rattle.kir_flow.specs.Flagging.{inside, leaves, op_leaves, is_left, op_is_left, is_flagged, body_scope}
use Rattle.kir_flow.specs.Flagging.{edge_scope, jump_ops, passed_on, tests, alive, singles, guarded, flagged_loop, flagged, flagged_op, flags}

-- ---- jumps

single_jumps : (op : Op) → is_single op ≡ true → jumps_in op ≡ false
single_jumps (Set d a) e = refl
single_jumps (Calculate d op a b) e = refl
single_jumps (Fit d elem a) e = refl
single_jumps (Id d which a) e = refl
single_jumps (Load d array elem a) e = refl
single_jumps (Store array elem a b) e = refl
single_jumps (Check array a pos) e = refl
single_jumps (Barrier site) e = refl
single_jumps (If test one other) e = absurd (true≢false (sym e))
single_jumps (Loop head test body st) e = absurd (true≢false (sym e))
single_jumps Break e = absurd (true≢false (sym e))
single_jumps Continue e = absurd (true≢false (sym e))
single_jumps Return e = absurd (true≢false (sym e))
single_jumps (Call body) e = absurd (true≢false (sym e))

singles_jumps : (ops : Ops) → jumps (singles ops) ≡ false
singles_jumps NoOps = refl
singles_jumps (AndOp op ops) =
    cond_both (is_single op) (AndOp op (singles ops)) NoOps (λ x. jumps x ≡ false) (λ e. ap (λ b. b || jumps (singles ops)) (single_jumps op e) ∙ singles_jumps ops) (λ e. refl)

jump_ops_jumps : (f : Scope) (j : Jump) (c : Ops) → jumps (jump_ops f j c) ≡ jumps c
jump_ops_jumps (InCall call) j c = refl
jump_ops_jumps (InBody call first) ByBreak c = refl
jump_ops_jumps (InBody call first) ByContinue c = refl
jump_ops_jumps (InBody call first) ByReturn c = refl
jump_ops_jumps (InEdge call first) ByBreak c = refl
jump_ops_jumps (InEdge call first) ByContinue c = refl
jump_ops_jumps (InEdge call first) ByReturn c = refl

passed_jumps : (f : Scope) (c : Ops) → jumps (passed_on f c) ≡ jumps c
passed_jumps (InCall call) c = refl
passed_jumps (InBody call first) c = refl
passed_jumps (InEdge call first) c = refl

none_of_two : (a b d x : Bool) → a ≡ false → b ≡ false → d ≡ x → ((a || b) || d) ≡ x
none_of_two a b d x e e' e'' = ap (λ y. (y || b) || d) e ∙ ap (λ y. y || d) e' ∙ e''

none_of_three : (a b c d x : Bool) → a ≡ false → b ≡ false → c ≡ false → d ≡ x → ((a || (b || c)) || d) ≡ x
none_of_three a b c d x e e' e'' e''' = ap (λ y. (y || (b || c)) || d) e ∙ ap (λ y. (y || c) || d) e' ∙ ap (λ y. y || d) e'' ∙ e'''

guarded_jumps : (among : Bool) (f : Scope) (sure : Bool) (op : Op) (ops c : Ops) → is_single op ≡ true → jumps (guarded among f sure op ops c) ≡ jumps c
guarded_jumps among f true op ops c e = ap (λ b. b || jumps c) (single_jumps op e)
guarded_jumps true f false op ops c e = refl
guarded_jumps false f false op ops c e =
    none_of_two (jumps_in op || jumps (singles ops)) false (jumps c) (jumps c) (ap (λ b. b || jumps (singles ops)) (single_jumps op e) ∙ singles_jumps ops) refl refl

mutual
  pub flagged_jumps : (ops : Ops) (among : Bool) (f : Scope) (sure : Bool) (c : Ops) → jumps (flagged among f sure ops c) ≡ jumps c
  flagged_jumps NoOps among f sure c = refl
  flagged_jumps (AndOp op ops) among f sure c =
      cond_both (is_single op) (guarded among f sure op ops (flagged (not sure) f sure ops c)) (flagged_op f sure op (flagged false f (sure && not (op_is_left op)) ops c))
      (λ x. jumps x ≡ jumps c)
      (λ e. guarded_jumps among f sure op ops (flagged (not sure) f sure ops c) e ∙ flagged_jumps ops (not sure) f sure c)
      (λ e. op_jumps op e f sure (flagged false f (sure && not (op_is_left op)) ops c) ∙ flagged_jumps ops false f (sure && not (op_is_left op)) c)

  op_jumps : (op : Op) → is_single op ≡ false → (f : Scope) (sure : Bool) (c : Ops) → jumps (flagged_op f sure op c) ≡ jumps c
  op_jumps (If test one other) e f sure c =
      none_of_two (jumps (flagged false f sure one NoOps)) (jumps (flagged false f sure other NoOps)) (jumps c) (jumps c) (flagged_jumps one false f sure NoOps)
      (flagged_jumps other false f sure NoOps) refl
  op_jumps (Loop head test body st) e f sure c =
      cond_both (is_flagged sure head body st)
      (flagged_loop f sure (flagged false (edge_scope f) false head (tests f test)) (flagged false (body_scope f) true body NoOps) (flagged false (edge_scope f) false st NoOps)
      (if op_leaves ByReturn (Loop head test body st) then passed_on f c else c))
      (if leaves ByContinue body then
      AndOp (Loop (flagged false f true head NoOps) test (AndOp (Set (inside f) (NumberOf 1)) (flagged false (InCall (inside f)) true body NoOps))
      (flagged false f true st NoOps)) c
      else AndOp (Loop (flagged false f true head NoOps) test (flagged false f true body NoOps) (flagged false f true st NoOps)) c)
      (λ x. jumps x ≡ jumps c)
      (λ e'. none_of_three (jumps (flagged false (edge_scope f) false head (tests f test))) (jumps (flagged false (body_scope f) true body NoOps))
      (jumps (flagged false (edge_scope f) false st NoOps))
      (jumps (if op_leaves ByReturn (Loop head test body st) then passed_on f c else c)) (jumps c)
      (flagged_jumps head false (edge_scope f) false (tests f test)) (flagged_jumps body false (body_scope f) true NoOps) (flagged_jumps st false (edge_scope f) false NoOps)
      (cond_both (op_leaves ByReturn (Loop head test body st)) (passed_on f c) c (λ x. jumps x ≡ jumps c) (λ r. passed_jumps f c) (λ r. refl)))
      (λ e'. cond_both (leaves ByContinue body)
      (AndOp (Loop (flagged false f true head NoOps) test (AndOp (Set (inside f) (NumberOf 1)) (flagged false (InCall (inside f)) true body NoOps))
      (flagged false f true st NoOps)) c)
      (AndOp (Loop (flagged false f true head NoOps) test (flagged false f true body NoOps) (flagged false f true st NoOps)) c)
      (λ x. jumps x ≡ jumps c)
      (λ k. none_of_three (jumps (flagged false f true head NoOps)) (jumps (flagged false (InCall (inside f)) true body NoOps)) (jumps (flagged false f true st NoOps))
      (jumps c) (jumps c)
      (flagged_jumps head false f true NoOps) (flagged_jumps body false (InCall (inside f)) true NoOps) (flagged_jumps st false f true NoOps) refl)
      (λ k. none_of_three (jumps (flagged false f true head NoOps)) (jumps (flagged false f true body NoOps)) (jumps (flagged false f true st NoOps)) (jumps c) (jumps c)
      (flagged_jumps head false f true NoOps) (flagged_jumps body false f true NoOps) (flagged_jumps st false f true NoOps) refl))
  op_jumps (Call body) e f sure c =
      cond_both (is_left body) (AndOp (Set (inside f) (alive f sure)) (flagged false (InCall (inside f)) sure body c)) (flagged false f sure body c) (λ x. jumps x ≡ jumps c)
      (λ e'. flagged_jumps body false (InCall (inside f)) sure c) (λ e'. flagged_jumps body false f sure c)
  op_jumps Break e f sure c = jump_ops_jumps f ByBreak c
  op_jumps Continue e f sure c = jump_ops_jumps f ByContinue c
  op_jumps Return e f sure c = jump_ops_jumps f ByReturn c
  op_jumps (Set d a) e f sure c = absurd (true≢false e)
  op_jumps (Calculate d op a b) e f sure c = absurd (true≢false e)
  op_jumps (Fit d elem a) e f sure c = absurd (true≢false e)
  op_jumps (Id d which a) e f sure c = absurd (true≢false e)
  op_jumps (Load d array elem a) e f sure c = absurd (true≢false e)
  op_jumps (Store array elem a b) e f sure c = absurd (true≢false e)
  op_jumps (Check array a pos) e f sure c = absurd (true≢false e)
  op_jumps (Barrier site) e f sure c = absurd (true≢false e)

-- no jump and no call is left
pub flags_jumps : (code : KirCode) → jumps (flags code).ops ≡ false
flags_jumps code = flagged_jumps code.ops false (InCall code.variables) true NoOps
