-- Barriers stand in the order in which they stood.
use Rattle.std.proofs.Common.{◌≡◌, ℕ, Bool, true, false, ◌&&◌, not, List, [], ◌++◌, refl, ap, sym, ◌∙◌, subst, true≢false, append_assoc, append-nil}
use Rattle.std.specs.Prelude.{if◌then◌else◌}
use Rattle.std.proofs.lemmas.Bool.{cond_both}
use Rattle.kir.specs.Measures.{is_single, sites, sites_in}
use Rattle.kir.specs.Trees.{NumberOf, Op, Set, Calculate, Fit, Id, Load, Store, Check, Barrier, If, Loop, Break, Continue, Return, Call, Ops, NoOps, AndOp, KirCode}
use Rattle.kir_flow.specs.declared.scopes.Jump.{Jump}
use Rattle.kir_flow.specs.declared.scopes.Scope.{Scope}
use Rattle.kir_flow.specs.declared.scopes.Jump.TheVariants.{ByBreak, ByContinue, ByReturn}
use Rattle.kir_flow.specs.declared.scopes.Scope.TheVariants.{InCall, InBody, InEdge}
use Rattle.kir_flow.specs.Flagging.{inside, leaves, op_leaves, is_left, op_is_left, is_flagged, body_scope}
use Rattle.kir_flow.specs.Flagging.{edge_scope, jump_ops, passed_on, tests, alive, singles, guarded, flagged_loop, flagged, flagged_op, flags}

jump_sites : (f : Scope) (j : Jump) (c : Ops) → sites (jump_ops f j c) ≡ sites c
jump_sites (InCall call) j c = refl
jump_sites (InBody call first) ByBreak c = refl
jump_sites (InBody call first) ByContinue c = refl
jump_sites (InBody call first) ByReturn c = refl
jump_sites (InEdge call first) ByBreak c = refl
jump_sites (InEdge call first) ByContinue c = refl
jump_sites (InEdge call first) ByReturn c = refl

passed_sites : (f : Scope) (c : Ops) → sites (passed_on f c) ≡ sites c
passed_sites (InCall call) c = refl
passed_sites (InBody call first) c = refl
passed_sites (InEdge call first) c = refl

-- parts that are kept
two_kept : (a b a' b' c c' : List ℕ) → a' ≡ a ++ [] → b' ≡ b ++ [] → c' ≡ c → (a' ++ b') ++ c' ≡ (a ++ b) ++ c
two_kept a b a' b' c c' e e' e'' =
    ap (λ y. (y ++ b') ++ c') (e ∙ append-nil a) ∙ ap (λ y. (a ++ y) ++ c') (e' ∙ append-nil b) ∙ ap (λ y. (a ++ b) ++ y) e''

three_kept : (h b s h' b' s' c c' : List ℕ) → h' ≡ h ++ [] → b' ≡ b ++ [] → s' ≡ s ++ [] → c' ≡ c → (h' ++ (b' ++ s')) ++ c' ≡ (h ++ (b ++ s)) ++ c
three_kept h b s h' b' s' c c' e e' e'' e''' =
    ap (λ y. (y ++ (b' ++ s')) ++ c') (e ∙ append-nil h) ∙ ap (λ y. (h ++ (y ++ s')) ++ c') (e' ∙ append-nil b) ∙ ap (λ y. (h ++ (b ++ y)) ++ c') (e'' ∙ append-nil s)
    ∙ ap (λ y. (h ++ (b ++ s)) ++ y) e'''

guarded_sites : (f : Scope) (sure : Bool) (op : Op) (ops c c' : Ops) → (sure ≡ true → sites c' ≡ sites ops ++ sites c)
    → (sure ≡ false → sites (singles ops) ++ sites c' ≡ sites ops ++ sites c)
    → sites (guarded false f sure op ops c') ≡ (sites_in op ++ sites ops) ++ sites c
guarded_sites f true op ops c c' one other = ap (λ y. sites_in op ++ y) (one refl) ∙ sym (append_assoc (sites_in op) (sites ops) (sites c))
guarded_sites f false op ops c c' one other =
    ap (λ y. y ++ sites c') (append-nil (sites_in op ++ sites (singles ops))) ∙ append_assoc (sites_in op) (sites (singles ops)) (sites c')
    ∙ ap (λ y. sites_in op ++ y) (other refl) ∙ sym (append_assoc (sites_in op) (sites ops) (sites c))

-- among others under a branch: a single operation stands in the branch, another behind it
kind_sites : (op : Op) (ops : Ops) (f : Scope) (c : Ops) (b : Bool) → is_single op ≡ b → sites (singles ops) ++ sites (flagged true f false ops c) ≡ sites ops ++ sites c
    → sites (flagged false f false ops c) ≡ sites ops ++ sites c
    → (is_single op ≡ false → sites (flagged_op f false op (flagged false f false ops c)) ≡ sites_in op ++ sites (flagged false f false ops c))
    → sites (if b then AndOp op (singles ops) else NoOps) ++ sites
    (if b then flagged true f false ops c else flagged_op f false op (flagged false f false ops c)) ≡ (sites_in op ++ sites ops) ++ sites c
kind_sites op ops f c true e one other behind =
    append_assoc (sites_in op) (sites (singles ops)) (sites (flagged true f false ops c)) ∙ ap (λ y. sites_in op ++ y) one ∙ sym (append_assoc (sites_in op) (sites ops) (sites c))
kind_sites op ops f c false e one other behind = behind e ∙ ap (λ y. sites_in op ++ y) other ∙ sym (append_assoc (sites_in op) (sites ops) (sites c))

mutual
  pub flagged_sites : (ops : Ops) (f : Scope) (sure : Bool) (c : Ops) → sites (flagged false f sure ops c) ≡ sites ops ++ sites c
  flagged_sites NoOps f sure c = refl
  flagged_sites (AndOp op ops) f sure c =
      cond_both (is_single op) (guarded false f sure op ops (flagged (not sure) f sure ops c)) (flagged_op f sure op (flagged false f (sure && not (op_is_left op)) ops c))
      (λ x. sites x ≡ (sites_in op ++ sites ops) ++ sites c)
      (λ e. guarded_sites f sure op ops c (flagged (not sure) f sure ops c)
      (λ e'. subst (λ b. sites (flagged (not b) f b ops c) ≡ sites ops ++ sites c) (sym e') (flagged_sites ops f true c))
      (λ e'. subst (λ b. sites (singles ops) ++ sites (flagged (not b) f b ops c) ≡ sites ops ++ sites c) (sym e') (among_sites ops f c)))
      (λ e. op_sites op e f sure (flagged false f (sure && not (op_is_left op)) ops c) ∙ ap (λ y. sites_in op ++ y) (flagged_sites ops f (sure && not (op_is_left op)) c)
      ∙ sym (append_assoc (sites_in op) (sites ops) (sites c)))

  among_sites : (ops : Ops) (f : Scope) (c : Ops) → sites (singles ops) ++ sites (flagged true f false ops c) ≡ sites ops ++ sites c
  among_sites NoOps f c = refl
  among_sites (AndOp op ops) f c = kind_sites op ops f c (is_single op) refl (among_sites ops f c) (flagged_sites ops f false c)
      (λ e. op_sites op e f false (flagged false f false ops c))

  op_sites : (op : Op) → is_single op ≡ false → (f : Scope) (sure : Bool) (c : Ops) → sites (flagged_op f sure op c) ≡ sites_in op ++ sites c
  op_sites (If test one other) e f sure c =
      two_kept (sites one) (sites other) (sites (flagged false f sure one NoOps)) (sites (flagged false f sure other NoOps)) (sites c) (sites c)
      (flagged_sites one f sure NoOps) (flagged_sites other f sure NoOps) refl
  op_sites (Loop head test body st) e f sure c =
      cond_both (is_flagged sure head body st)
      (flagged_loop f sure (flagged false (edge_scope f) false head (tests f test)) (flagged false (body_scope f) true body NoOps) (flagged false (edge_scope f) false st NoOps)
      (if op_leaves ByReturn (Loop head test body st) then passed_on f c else c))
      (if leaves ByContinue body then
      AndOp (Loop (flagged false f true head NoOps) test (AndOp (Set (inside f) (NumberOf 1)) (flagged false (InCall (inside f)) true body NoOps))
      (flagged false f true st NoOps)) c
      else AndOp (Loop (flagged false f true head NoOps) test (flagged false f true body NoOps) (flagged false f true st NoOps)) c)
      (λ x. sites x ≡ (sites head ++ (sites body ++ sites st)) ++ sites c)
      (λ e'. three_kept (sites head) (sites body) (sites st)
      (sites (flagged false (edge_scope f) false head (tests f test))) (sites (flagged false (body_scope f) true body NoOps)) (sites (flagged false (edge_scope f) false st NoOps))
      (sites c) (sites (if op_leaves ByReturn (Loop head test body st) then passed_on f c else c))
      (flagged_sites head (edge_scope f) false (tests f test)) (flagged_sites body (body_scope f) true NoOps) (flagged_sites st (edge_scope f) false NoOps)
      (cond_both (op_leaves ByReturn (Loop head test body st)) (passed_on f c) c (λ x. sites x ≡ sites c) (λ r. passed_sites f c) (λ r. refl)))
      (λ e'. cond_both (leaves ByContinue body)
      (AndOp (Loop (flagged false f true head NoOps) test (AndOp (Set (inside f) (NumberOf 1)) (flagged false (InCall (inside f)) true body NoOps))
      (flagged false f true st NoOps)) c)
      (AndOp (Loop (flagged false f true head NoOps) test (flagged false f true body NoOps) (flagged false f true st NoOps)) c)
      (λ x. sites x ≡ (sites head ++ (sites body ++ sites st)) ++ sites c)
      (λ k. three_kept (sites head) (sites body) (sites st) (sites (flagged false f true head NoOps)) (sites (flagged false (InCall (inside f)) true body NoOps))
      (sites (flagged false f true st NoOps))
      (sites c) (sites c) (flagged_sites head f true NoOps) (flagged_sites body (InCall (inside f)) true NoOps) (flagged_sites st f true NoOps) refl)
      (λ k. three_kept (sites head) (sites body) (sites st) (sites (flagged false f true head NoOps)) (sites (flagged false f true body NoOps))
      (sites (flagged false f true st NoOps))
      (sites c) (sites c) (flagged_sites head f true NoOps) (flagged_sites body f true NoOps) (flagged_sites st f true NoOps) refl))
  op_sites (Call body) e f sure c =
      cond_both (is_left body) (AndOp (Set (inside f) (alive f sure)) (flagged false (InCall (inside f)) sure body c)) (flagged false f sure body c)
      (λ x. sites x ≡ sites body ++ sites c)
      (λ e'. flagged_sites body (InCall (inside f)) sure c) (λ e'. flagged_sites body f sure c)
  op_sites Break e f sure c = jump_sites f ByBreak c
  op_sites Continue e f sure c = jump_sites f ByContinue c
  op_sites Return e f sure c = jump_sites f ByReturn c
  op_sites (Set d a) e f sure c = absurd (true≢false e)
  op_sites (Calculate d op a b) e f sure c = absurd (true≢false e)
  op_sites (Fit d elem a) e f sure c = absurd (true≢false e)
  op_sites (Id d which a) e f sure c = absurd (true≢false e)
  op_sites (Load d array elem a) e f sure c = absurd (true≢false e)
  op_sites (Store array elem a b) e f sure c = absurd (true≢false e)
  op_sites (Check array a pos) e f sure c = absurd (true≢false e)
  op_sites (Barrier site) e f sure c = absurd (true≢false e)

-- the barriers stand in the order in which they stood
pub flags_sites : (code : KirCode) → sites (flags code).ops ≡ sites code.ops
flags_sites code = flagged_sites code.ops (InCall code.variables) true NoOps ∙ append-nil (sites code.ops)
