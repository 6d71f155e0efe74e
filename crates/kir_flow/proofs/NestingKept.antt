-- Branches and loops stand within at most one more branch, and so do branches.
use Rattle.std.proofs.Common.{◌≡◌, ℕ, suc, ◌≤◌, max, Bool, true, false, ◌&&◌, not, refl, sym, arith, true≢false}
use Rattle.std.specs.Prelude.{if◌then◌else◌}
use Rattle.std.proofs.lemmas.Bool.{cond_both}
use Rattle.kir.specs.Measures.{is_single, nesting, nesting_in, branching, branching_in}
use Rattle.kir.specs.Trees.{Operand, VariableOf, NumberOf, Op, Set, Calculate, Fit, Id, Load, Store, Check, Barrier, If, Loop, Break, Continue, Return, Call, Ops, NoOps, AndOp}
use Rattle.kir.specs.Trees.{KirCode}
use Rattle.kir_flow.specs.declared.scopes.Jump.{Jump}
use Rattle.kir_flow.specs.declared.scopes.Scope.{Scope}
use Rattle.kir_flow.specs.declared.scopes.Jump.TheVariants.{ByBreak, ByContinue, ByReturn}
use Rattle.kir_flow.specs.declared.scopes.Scope.TheVariants.{InCall, InBody, InEdge}
use Rattle.kir_flow.specs.Flagging.{inside, leaves, op_leaves, is_left, op_is_left, is_flagged, body_scope}
use Rattle.kir_flow.specs.Flagging.{edge_scope, jump_ops, passed_on, tests, alive, singles, guarded, flagged_loop, flagged, flagged_op, flags}

-- sums of these numbers
guard_by : (a c : ℕ) → a ≡ 0 → max (suc (max a 0)) c ≤ max 1 c
guard_by a c e = omega arith

loop_nests : (h b st c' nh nb nst c : ℕ) → h ≤ suc nh → b ≤ suc nb → st ≤ suc nst → c' ≡ c → max (suc (max h (max b st))) c' ≤ max (suc (suc (max nh (max nb nst)))) c
loop_nests h b st c' nh nb nst c e1 e2 e3 e4 = omega arith

loop_branches : (h b st c' nh nb nst c : ℕ) → h ≤ suc nh → b ≤ suc nb → st ≤ suc nst → c' ≡ c → max (max h (max b st)) c' ≤ max (suc (max nh (max nb nst))) c
loop_branches h b st c' nh nb nst c e1 e2 e3 e4 = omega arith

if_nests : (a b c n1 n2 : ℕ) → a ≤ suc n1 → b ≤ suc n2 → max (suc (max a b)) c ≤ max (suc (suc (max n1 n2))) c
if_nests a b c n1 n2 e e' = omega arith

-- operations made of others and of what follows are nested no deeper than by one branch more
pub record Shallow (nests branches : ℕ) (c x : Ops) : Type 0 where
  pub nested : nesting x ≤ max (suc nests) (nesting c)
  pub branched : branching x ≤ max (suc branches) (branching c)

-- a single operation holds no branch
record Flat (op : Op) : Type 0 where
  nested : nesting_in op ≡ 0
  branched : branching_in op ≡ 0

single_flat : (op : Op) → is_single op ≡ true → Flat op
single_flat (Set d a) e = record { nested = refl; branched = refl }
single_flat (Calculate d op a b) e = record { nested = refl; branched = refl }
single_flat (Fit d elem a) e = record { nested = refl; branched = refl }
single_flat (Id d which a) e = record { nested = refl; branched = refl }
single_flat (Load d array elem a) e = record { nested = refl; branched = refl }
single_flat (Store array elem a b) e = record { nested = refl; branched = refl }
single_flat (Check array a pos) e = record { nested = refl; branched = refl }
single_flat (Barrier site) e = record { nested = refl; branched = refl }
single_flat (If test one other) e = absurd (true≢false (sym e))
single_flat (Loop head test body st) e = absurd (true≢false (sym e))
single_flat Break e = absurd (true≢false (sym e))
single_flat Continue e = absurd (true≢false (sym e))
single_flat Return e = absurd (true≢false (sym e))
single_flat (Call body) e = absurd (true≢false (sym e))

-- and so do they in a row
record AllFlat (ops : Ops) : Type 0 where
  nested : nesting ops ≡ 0
  branched : branching ops ≡ 0

flat_cons : (op : Op) (ops : Ops) → Flat op → AllFlat ops → AllFlat (AndOp op ops)
flat_cons op ops one all =
    let a : nesting_in op ≡ 0 = one.nested in
    let b : nesting ops ≡ 0 = all.nested in
    let a' : branching_in op ≡ 0 = one.branched in
    let b' : branching ops ≡ 0 = all.branched in
    record { nested = omega arith; branched = omega arith }

singles_flat : (ops : Ops) → AllFlat (singles ops)
singles_flat NoOps = record { nested = refl; branched = refl }
singles_flat (AndOp op ops) =
    cond_both (is_single op) (AndOp op (singles ops)) NoOps AllFlat (λ e. flat_cons op (singles ops) (single_flat op e) (singles_flat ops))
    (λ e. record { nested = refl; branched = refl })

-- what follows may itself be made of more
shallow_more : (n b n' b' : ℕ) (c x y : Ops) → n ≤ n' → b ≤ b' → Shallow n b y x → Shallow n' b' c y → Shallow n' b' c x
shallow_more n b n' b' c x y le le' one other =
    let h : nesting x ≤ max (suc n) (nesting y) = one.nested in
    let k : nesting y ≤ max (suc n') (nesting c) = other.nested in
    let h' : branching x ≤ max (suc b) (branching y) = one.branched in
    let k' : branching y ≤ max (suc b') (branching c) = other.branched in
    record { nested = omega arith; branched = omega arith }

same_shallow : (n b n' b' : ℕ) (c x : Ops) → n ≤ n' → b ≤ b' → Shallow n b c x → Shallow n' b' c x
same_shallow n b n' b' c x le le' one =
    let h : nesting x ≤ max (suc n) (nesting c) = one.nested in
    let h' : branching x ≤ max (suc b) (branching c) = one.branched in
    record { nested = omega arith; branched = omega arith }

none_shallow : (c x : Ops) → nesting x ≡ nesting c → branching x ≡ branching c → Shallow 0 0 c x
none_shallow c x e e' = record { nested = omega arith; branched = omega arith }

jump_shallow : (f : Scope) (j : Jump) (c : Ops) → Shallow 0 0 c (jump_ops f j c)
jump_shallow (InCall call) j c = none_shallow c (jump_ops (InCall call) j c) (omega arith) (omega arith)
jump_shallow (InBody call first) ByBreak c = none_shallow c (jump_ops (InBody call first) ByBreak c) (omega arith) (omega arith)
jump_shallow (InBody call first) ByContinue c = none_shallow c (jump_ops (InBody call first) ByContinue c) (omega arith) (omega arith)
jump_shallow (InBody call first) ByReturn c = none_shallow c (jump_ops (InBody call first) ByReturn c) (omega arith) (omega arith)
jump_shallow (InEdge call first) ByBreak c = none_shallow c (jump_ops (InEdge call first) ByBreak c) (omega arith) (omega arith)
jump_shallow (InEdge call first) ByContinue c = none_shallow c (jump_ops (InEdge call first) ByContinue c) (omega arith) (omega arith)
jump_shallow (InEdge call first) ByReturn c = none_shallow c (jump_ops (InEdge call first) ByReturn c) (omega arith) (omega arith)

record Same (c x : Ops) : Type 0 where
  nested : nesting x ≡ nesting c
  branched : branching x ≡ branching c

passed_same : (f : Scope) (c : Ops) → Same c (passed_on f c)
passed_same (InCall call) c = record { nested = refl; branched = refl }
passed_same (InBody call first) c = record { nested = omega arith; branched = omega arith }
passed_same (InEdge call first) c = record { nested = omega arith; branched = omega arith }

after_same : (b : Bool) (f : Scope) (c : Ops) → Same c (if b then passed_on f c else c)
after_same true f c = passed_same f c
after_same false f c = record { nested = refl; branched = refl }

guarded_shallow : (among : Bool) (f : Scope) (sure : Bool) (op : Op) (ops c : Ops) → is_single op ≡ true → Shallow 0 0 c (guarded among f sure op ops c)
guarded_shallow among f true op ops c e =
    let flat : Flat op = single_flat op e in
    let a : nesting_in op ≡ 0 = flat.nested in
    let a' : branching_in op ≡ 0 = flat.branched in
    record { nested = omega arith; branched = omega arith }
guarded_shallow true f false op ops c e = none_shallow c c refl refl
guarded_shallow false f false op ops c e =
    let flat : AllFlat (AndOp op (singles ops)) = flat_cons op (singles ops) (single_flat op e) (singles_flat ops) in
    let a : nesting (AndOp op (singles ops)) ≡ 0 = flat.nested in
    let a' : branching (AndOp op (singles ops)) ≡ 0 = flat.branched in
    record { nested = guard_by (nesting (AndOp op (singles ops))) (nesting c) a; branched = guard_by (branching (AndOp op (singles ops))) (branching c) a' }

-- a loop made of its parts
loop_shallow : (test : Operand) (nh bh nb bb nst bst : ℕ) (h b st ch c c' : Ops) → Shallow nh bh ch h → Shallow nb bb NoOps b → Shallow nst bst NoOps st → nesting ch ≡ 0
    → branching ch ≡ 0 → Same c c'
    → Shallow (suc (max nh (max nb nst))) (max bh (max bb bst)) c (AndOp (Loop h test b st) c')
loop_shallow test nh bh nb bb nst bst h b st ch c c' heads bodies steps e e' same =
    let a1 : nesting h ≤ max (suc nh) (nesting ch) = heads.nested in
    let a2 : nesting b ≤ max (suc nb) 0 = bodies.nested in
    let a3 : nesting st ≤ max (suc nst) 0 = steps.nested in
    let a4 : nesting c' ≡ nesting c = same.nested in
    let b1 : branching h ≤ max (suc bh) (branching ch) = heads.branched in
    let b2 : branching b ≤ max (suc bb) 0 = bodies.branched in
    let b3 : branching st ≤ max (suc bst) 0 = steps.branched in
    let b4 : branching c' ≡ branching c = same.branched in
    record {
      nested = loop_nests (nesting h) (nesting b) (nesting st) (nesting c') nh nb nst (nesting c) (omega arith) (omega arith) (omega arith) a4;
      branched = loop_branches (branching h) (branching b) (branching st) (branching c') bh bb bst (branching c) (omega arith) (omega arith) (omega arith) b4;
    }

-- a variable is set in front
set_shallow : (n b d : ℕ) (a : Operand) (c x : Ops) → Shallow n b c x → Shallow n b c (AndOp (Set d a) x)
set_shallow n b d a c x one =
    let h : nesting x ≤ max (suc n) (nesting c) = one.nested in
    let h' : branching x ≤ max (suc b) (branching c) = one.branched in
    record { nested = omega arith; branched = omega arith }

if_shallow : (test : Operand) (n1 b1 n2 b2 : ℕ) (one other c : Ops) → Shallow n1 b1 NoOps one → Shallow n2 b2 NoOps other
    → Shallow (suc (max n1 n2)) (suc (max b1 b2)) c (AndOp (If test one other) c)
if_shallow test n1 b1 n2 b2 one other c first second =
    let a1 : nesting one ≤ max (suc n1) 0 = first.nested in
    let a2 : nesting other ≤ max (suc n2) 0 = second.nested in
    let a3 : branching one ≤ max (suc b1) 0 = first.branched in
    let a4 : branching other ≤ max (suc b2) 0 = second.branched in
    record {
      nested = if_nests (nesting one) (nesting other) (nesting c) n1 n2 (omega arith) (omega arith);
      branched = if_nests (branching one) (branching other) (branching c) b1 b2 (omega arith) (omega arith);
    }

-- the parts of a loop with flags
abbrev pub revived : Scope → Ops → Ops
revived f ops = AndOp (Set (suc (inside f)) (VariableOf (inside f))) ops

abbrev pub loop_of : Scope → Operand → Ops → Ops → Ops → Bool → Ops → Ops
loop_of f test head body st returns c =
    AndOp (Loop (flagged false (edge_scope f) false head (tests f test)) (VariableOf (suc (inside f))) (revived f (flagged false (body_scope f) true body NoOps))
    (revived f (flagged false (edge_scope f) false st NoOps))) (if returns then passed_on f c else c)

mutual
  pub flagged_shallow : (ops : Ops) (among : Bool) (f : Scope) (sure : Bool) (c : Ops) → Shallow (nesting ops) (branching ops) c (flagged among f sure ops c)
  flagged_shallow NoOps among f sure c = none_shallow c c refl refl
  flagged_shallow (AndOp op ops) among f sure c =
      cond_both (is_single op) (guarded among f sure op ops (flagged (not sure) f sure ops c)) (flagged_op f sure op (flagged false f (sure && not (op_is_left op)) ops c))
      (Shallow (max (nesting_in op) (nesting ops)) (max (branching_in op) (branching ops)) c)
      (λ e. shallow_more 0 0 (max (nesting_in op) (nesting ops)) (max (branching_in op) (branching ops)) c (guarded among f sure op ops (flagged (not sure) f sure ops c))
      (flagged (not sure) f sure ops c) (omega arith) (omega arith)
      (guarded_shallow among f sure op ops (flagged (not sure) f sure ops c) e)
      (same_shallow (nesting ops) (branching ops) (max (nesting_in op) (nesting ops)) (max (branching_in op) (branching ops)) c (flagged (not sure) f sure ops c) (omega arith)
      (omega arith) (flagged_shallow ops (not sure) f sure c)))
      (λ e. shallow_more (nesting_in op) (branching_in op) (max (nesting_in op) (nesting ops)) (max (branching_in op) (branching ops)) c
      (flagged_op f sure op (flagged false f (sure && not (op_is_left op)) ops c)) (flagged false f (sure && not (op_is_left op)) ops c) (omega arith) (omega arith)
      (op_shallow op e f sure (flagged false f (sure && not (op_is_left op)) ops c))
      (same_shallow (nesting ops) (branching ops) (max (nesting_in op) (nesting ops)) (max (branching_in op) (branching ops)) c
      (flagged false f (sure && not (op_is_left op)) ops c) (omega arith) (omega arith)
      (flagged_shallow ops false f (sure && not (op_is_left op)) c)))

  op_shallow : (op : Op) → is_single op ≡ false → (f : Scope) (sure : Bool) (c : Ops) → Shallow (nesting_in op) (branching_in op) c (flagged_op f sure op c)
  op_shallow (If test one other) e f sure c =
      if_shallow test (nesting one) (branching one) (nesting other) (branching other) (flagged false f sure one NoOps) (flagged false f sure other NoOps) c
      (flagged_shallow one false f sure NoOps) (flagged_shallow other false f sure NoOps)
  op_shallow (Loop head test body st) e f sure c =
      cond_both (is_flagged sure head body st)
      (flagged_loop f sure (flagged false (edge_scope f) false head (tests f test)) (flagged false (body_scope f) true body NoOps) (flagged false (edge_scope f) false st NoOps)
      (if op_leaves ByReturn (Loop head test body st) then passed_on f c else c))
      (if leaves ByContinue body then
      AndOp (Loop (flagged false f true head NoOps) test (AndOp (Set (inside f) (NumberOf 1)) (flagged false (InCall (inside f)) true body NoOps))
      (flagged false f true st NoOps)) c
      else AndOp (Loop (flagged false f true head NoOps) test (flagged false f true body NoOps) (flagged false f true st NoOps)) c)
      (Shallow (suc (max (nesting head) (max (nesting body) (nesting st)))) (max (branching head) (max (branching body) (branching st))) c)
      (λ e'. set_shallow (suc (max (nesting head) (max (nesting body) (nesting st)))) (max (branching head) (max (branching body) (branching st))) (inside f) (alive f sure) c
      (AndOp (Set (suc (inside f)) (VariableOf (inside f))) (loop_of f test head body st (op_leaves ByReturn (Loop head test body st)) c))
      (set_shallow (suc (max (nesting head) (max (nesting body) (nesting st)))) (max (branching head) (max (branching body) (branching st))) (suc (inside f))
      (VariableOf (inside f)) c
      (loop_of f test head body st (op_leaves ByReturn (Loop head test body st)) c)
      (loop_shallow (VariableOf (suc (inside f))) (nesting head) (branching head) (nesting body) (branching body) (nesting st) (branching st)
      (flagged false (edge_scope f) false head (tests f test)) (revived f (flagged false (body_scope f) true body NoOps))
      (revived f (flagged false (edge_scope f) false st NoOps)) (tests f test) c
      (if op_leaves ByReturn (Loop head test body st) then passed_on f c else c)
      (flagged_shallow head false (edge_scope f) false (tests f test))
      (set_shallow (nesting body) (branching body) (suc (inside f)) (VariableOf (inside f)) NoOps (flagged false (body_scope f) true body NoOps)
      (flagged_shallow body false (body_scope f) true NoOps))
      (set_shallow (nesting st) (branching st) (suc (inside f)) (VariableOf (inside f)) NoOps (flagged false (edge_scope f) false st NoOps)
      (flagged_shallow st false (edge_scope f) false NoOps))
      refl refl (after_same (op_leaves ByReturn (Loop head test body st)) f c))))
      (λ e'. cond_both (leaves ByContinue body)
      (AndOp (Loop (flagged false f true head NoOps) test (AndOp (Set (inside f) (NumberOf 1)) (flagged false (InCall (inside f)) true body NoOps))
      (flagged false f true st NoOps)) c)
      (AndOp (Loop (flagged false f true head NoOps) test (flagged false f true body NoOps) (flagged false f true st NoOps)) c)
      (Shallow (suc (max (nesting head) (max (nesting body) (nesting st)))) (max (branching head) (max (branching body) (branching st))) c)
      (λ k. loop_shallow test (nesting head) (branching head) (nesting body) (branching body) (nesting st) (branching st)
      (flagged false f true head NoOps) (AndOp (Set (inside f) (NumberOf 1)) (flagged false (InCall (inside f)) true body NoOps)) (flagged false f true st NoOps) NoOps c c
      (flagged_shallow head false f true NoOps)
      (set_shallow (nesting body) (branching body) (inside f) (NumberOf 1) NoOps (flagged false (InCall (inside f)) true body NoOps)
      (flagged_shallow body false (InCall (inside f)) true NoOps))
      (flagged_shallow st false f true NoOps) refl refl (after_same false f c))
      (λ k. loop_shallow test (nesting head) (branching head) (nesting body) (branching body) (nesting st) (branching st)
      (flagged false f true head NoOps) (flagged false f true body NoOps) (flagged false f true st NoOps) NoOps c c
      (flagged_shallow head false f true NoOps) (flagged_shallow body false f true NoOps) (flagged_shallow st false f true NoOps) refl refl (after_same false f c)))
  op_shallow (Call body) e f sure c =
      cond_both (is_left body) (AndOp (Set (inside f) (alive f sure)) (flagged false (InCall (inside f)) sure body c)) (flagged false f sure body c)
      (Shallow (nesting body) (branching body) c)
      (λ e'. set_shallow (nesting body) (branching body) (inside f) (alive f sure) c (flagged false (InCall (inside f)) sure body c)
      (flagged_shallow body false (InCall (inside f)) sure c)) (λ e'. flagged_shallow body false f sure c)
  op_shallow Break e f sure c = jump_shallow f ByBreak c
  op_shallow Continue e f sure c = jump_shallow f ByContinue c
  op_shallow Return e f sure c = jump_shallow f ByReturn c
  op_shallow (Set d a) e f sure c = absurd (true≢false e)
  op_shallow (Calculate d op a b) e f sure c = absurd (true≢false e)
  op_shallow (Fit d elem a) e f sure c = absurd (true≢false e)
  op_shallow (Id d which a) e f sure c = absurd (true≢false e)
  op_shallow (Load d array elem a) e f sure c = absurd (true≢false e)
  op_shallow (Store array elem a b) e f sure c = absurd (true≢false e)
  op_shallow (Check array a pos) e f sure c = absurd (true≢false e)
  op_shallow (Barrier site) e f sure c = absurd (true≢false e)

-- branches and loops are nested no deeper than by one branch more
pub flags_nesting : (code : KirCode) → nesting (flags code).ops ≤ suc (nesting code.ops)
flags_nesting code =
    let h : nesting (flagged false (InCall code.variables) true code.ops NoOps) ≤ max (suc (nesting code.ops)) 0 =
    (flagged_shallow code.ops false (InCall code.variables) true NoOps).nested in
    omega arith

-- and branches too
pub flags_branching : (code : KirCode) → branching (flags code).ops ≤ suc (branching code.ops)
flags_branching code =
    let h : branching (flagged false (InCall code.variables) true code.ops NoOps) ≤ max (suc (branching code.ops)) 0 =
    (flagged_shallow code.ops false (InCall code.variables) true NoOps).branched in
    omega arith
