-- How many variables there are: at most two for each loop and one for each call that stand within one another, and one.
use Rattle.std.proofs.Common.{◌≡◌, ℕ, suc, ◌+◌, ◌*◌, ◌<◌, ◌≤◌, max, Bool, true, false, ◌&&◌, not, refl, ap, sym, ◌∙◌, subst, arith, true≢false}
use Rattle.std.specs.Prelude.{if◌then◌else◌}
use Rattle.std.proofs.lemmas.Bool.{cond_both}
use Rattle.kir.specs.Loops.{loop_nesting, loop_nesting_in}
use Rattle.kir.specs.Measures.{is_single, calls, calls_in}
use Rattle.kir.specs.Trees.{Operand, VariableOf, NumberOf, Op, Set, Calculate, Fit, Id, Load, Store, Check, Barrier, If, Loop, Break, Continue, Return, Call, Ops, NoOps, AndOp}
use Rattle.kir.specs.Trees.{KirCode}
use Rattle.kir_flow.specs.declared.scopes.Jump.{Jump}
use Rattle.kir_flow.specs.declared.scopes.Scope.{Scope}
use Rattle.kir_flow.specs.declared.scopes.Jump.TheVariants.{ByBreak, ByContinue, ByReturn}
use Rattle.kir_flow.specs.declared.scopes.Scope.TheVariants.{InCall, InBody, InEdge}
use Rattle.kir_flow.specs.Flagging.{live, run, whole, inside, leaves, op_leaves, is_left, op_is_left}
use Rattle.kir_flow.specs.Flagging.{is_flagged, body_scope, edge_scope, clear, dies, jump_ops, passed_on, tests, alive, singles, guarded, flagged_loop, flagged, flagged_op}
use Rattle.kir_flow.specs.Flagging.{room, op_room, flags}
use Rattle.kir.specs.Numbered.{IsBelow, AreBelow, OpBelow}
use Rattle.kir_flow.proofs.FlagStates.{run_inside, live_inside}

-- ---- how many flags

cons_room : (a b n1 n2 c1 c2 : ℕ) → a ≤ 2 * n1 + c1 → b ≤ 2 * n2 + c2 → max a b ≤ 2 * max n1 n2 + max c1 c2
cons_room a b n1 n2 c1 c2 e e' = omega arith

most_of : (a b c n1 n2 n3 c1 c2 c3 : ℕ) → a ≤ 2 * n1 + c1 → b ≤ 2 * n2 + c2 → c ≤ 2 * n3 + c3 → max a (max b c) ≤ 2 * max n1 (max n2 n3) + max c1 (max c2 c3)
most_of a b c n1 n2 n3 c1 c2 c3 e e' e'' =
    let h : max b c ≤ 2 * max n2 n3 + max c2 c3 = cons_room b c n2 n3 c2 c3 e' e'' in
    cons_room a (max b c) n1 (max n2 n3) c1 (max c2 c3) e h

one_more : (a b c n k : ℕ) → max a (max b c) ≤ 2 * n + k → max a (max (suc b) c) ≤ 2 * suc n + k
one_more a b c n k h = omega arith

no_more : (a n k : ℕ) → a ≤ 2 * n + k → a ≤ 2 * suc n + k
no_more a n k h = omega arith

mutual
  pub room_bound : (sure : Bool) (ops : Ops) → room sure ops ≤ 2 * loop_nesting ops + calls ops
  room_bound sure NoOps = omega arith
  room_bound sure (AndOp op ops) =
      cons_room (op_room sure op) (room (sure && not (op_is_left op)) ops) (loop_nesting_in op) (loop_nesting ops) (calls_in op) (calls ops) (op_room_bound sure op)
      (room_bound (sure && not (op_is_left op)) ops)

  op_room_bound : (sure : Bool) (op : Op) → op_room sure op ≤ 2 * loop_nesting_in op + calls_in op
  op_room_bound sure (If test one other) = cons_room (room sure one) (room sure other) (loop_nesting one) (loop_nesting other) (calls one) (calls other) (room_bound sure one)
      (room_bound sure other)
  op_room_bound sure (Loop head test body st) =
      let n : ℕ = max (loop_nesting head) (max (loop_nesting body) (loop_nesting st)) in
      let k : ℕ = max (calls head) (max (calls body) (calls st)) in
      cond_both (is_flagged sure head body st) (2 + max (room false head) (max (room true body) (room false st)))
      (if leaves ByContinue body then max (room true head) (max (suc (room true body)) (room true st)) else max (room true head) (max (room true body) (room true st)))
      (λ x. x ≤ 2 * suc (max (loop_nesting head) (max (loop_nesting body) (loop_nesting st))) + max (calls head) (max (calls body) (calls st)))
      (λ e. let h : max (room false head) (max (room true body) (room false st)) ≤ 2 * max (loop_nesting head) (max (loop_nesting body) (loop_nesting st)) + max (calls head)
      (max (calls body) (calls st)) =
      most_of (room false head) (room true body) (room false st) (loop_nesting head) (loop_nesting body) (loop_nesting st) (calls head) (calls body) (calls st)
      (room_bound false head) (room_bound true body) (room_bound false st) in
      omega arith)
      (λ e.
      let h : max (room true head) (max (room true body) (room true st)) ≤ 2 * max (loop_nesting head) (max (loop_nesting body) (loop_nesting st)) + max (calls head)
      (max (calls body) (calls st)) =
      most_of (room true head) (room true body) (room true st) (loop_nesting head) (loop_nesting body) (loop_nesting st) (calls head) (calls body) (calls st)
      (room_bound true head) (room_bound true body) (room_bound true st) in
      cond_both (leaves ByContinue body) (max (room true head) (max (suc (room true body)) (room true st))) (max (room true head) (max (room true body) (room true st)))
      (λ x. x ≤ 2 * suc (max (loop_nesting head) (max (loop_nesting body) (loop_nesting st))) + max (calls head) (max (calls body) (calls st)))
      (λ e'. one_more (room true head) (room true body) (room true st) (max (loop_nesting head) (max (loop_nesting body) (loop_nesting st))) (max (calls head) (max (calls body) (calls st))) h)
      (λ e'. no_more (max (room true head) (max (room true body) (room true st))) (max (loop_nesting head) (max (loop_nesting body) (loop_nesting st)))
      (max (calls head) (max (calls body) (calls st))) h))
  op_room_bound sure (Call body) =
      let h : room sure body ≤ 2 * loop_nesting body + calls body = room_bound sure body in
      cond_both (is_left body) (suc (room sure body)) (room sure body) (λ x. x ≤ 2 * loop_nesting body + suc (calls body)) (λ e. omega arith) (λ e. omega arith)
  op_room_bound sure (Set d a) = omega arith
  op_room_bound sure (Calculate d op a b) = omega arith
  op_room_bound sure (Fit d elem a) = omega arith
  op_room_bound sure (Id d which a) = omega arith
  op_room_bound sure (Load d array elem a) = omega arith
  op_room_bound sure (Store array elem a b) = omega arith
  op_room_bound sure (Check array a pos) = omega arith
  op_room_bound sure (Barrier site) = omega arith
  op_room_bound sure Break = omega arith
  op_room_bound sure Continue = omega arith
  op_room_bound sure Return = omega arith

-- at most two flags for each loop and one for each call within one another, and the kernel's
pub flags_variables : (code : KirCode) → (flags code).variables ≤ suc code.variables + (2 * loop_nesting code.ops + calls code.ops)
flags_variables code = let h : room true code.ops ≤ 2 * loop_nesting code.ops + calls code.ops = room_bound true code.ops in omega arith

-- ---- all are numbered below

operand_more : (count more : ℕ) (a : Operand) → count ≤ more → IsBelow count a → IsBelow more a
operand_more count more (VariableOf k) le below = omega arith
operand_more count more (NumberOf n) le below = below

single_more : (count more : ℕ) (op : Op) → is_single op ≡ true → count ≤ more → OpBelow count op → OpBelow more op
single_more count more (Set d a) e le (below, small) = (omega arith, operand_more count more a le small)
single_more count more (Calculate d op a b) e le (below, small, small') = (omega arith, operand_more count more a le small, operand_more count more b le small')
single_more count more (Fit d elem a) e le (below, small) = (omega arith, operand_more count more a le small)
single_more count more (Id d which a) e le (below, small) = (omega arith, operand_more count more a le small)
single_more count more (Load d array elem a) e le (below, small) = (omega arith, operand_more count more a le small)
single_more count more (Store array elem a b) e le (small, small') = (operand_more count more a le small, operand_more count more b le small')
single_more count more (Check array a pos) e le small = operand_more count more a le small
single_more count more (Barrier site) e le small = tt
single_more count more (If test one other) e le small = absurd (true≢false (sym e))
single_more count more (Loop head test body st) e le small = absurd (true≢false (sym e))
single_more count more Break e le small = absurd (true≢false (sym e))
single_more count more Continue e le small = absurd (true≢false (sym e))
single_more count more Return e le small = absurd (true≢false (sym e))
single_more count more (Call body) e le small = absurd (true≢false (sym e))

singles_more : (count more : ℕ) (ops : Ops) → count ≤ more → AreBelow count ops → AreBelow more (singles ops)
singles_more count more NoOps le below = tt
singles_more count more (AndOp op ops) le (below, belows) =
    cond_both (is_single op) (AndOp op (singles ops)) NoOps (AreBelow more) (λ e. (single_more count more op e le below, singles_more count more ops le belows)) (λ e. tt)

-- the flags are numbered below
record FlagsBelow (more : ℕ) (f : Scope) : Type 0 where
  live : live f < more
  run : run f < more
  whole : whole f < more

loop_jump : (more : ℕ) (f : Scope) (c : Ops) → FlagsBelow more f → AreBelow more c → AreBelow more (clear (run f) (live f) (dies (live f) c))
loop_jump more f c flags below = ((flags.run, flags.run, flags.live), ((flags.live, omega arith), below))

call_jump : (more : ℕ) (f : Scope) (c : Ops) → FlagsBelow more f → AreBelow more c → AreBelow more (clear (whole f) (live f) (clear (run f) (live f) (dies (live f) c)))
call_jump more f c flags below = ((flags.whole, flags.whole, flags.live), loop_jump more f c flags below)

jump_below : (more : ℕ) (f : Scope) (j : Jump) (c : Ops) → FlagsBelow more f → AreBelow more c → AreBelow more (jump_ops f j c)
jump_below more (InCall call) j c flags below = ((flags.live, omega arith), below)
jump_below more (InBody call first) ByBreak c flags below = loop_jump more (InBody call first) c flags below
jump_below more (InBody call first) ByContinue c flags below = ((flags.live, omega arith), below)
jump_below more (InBody call first) ByReturn c flags below = call_jump more (InBody call first) c flags below
jump_below more (InEdge call first) ByBreak c flags below = loop_jump more (InEdge call first) c flags below
jump_below more (InEdge call first) ByContinue c flags below = loop_jump more (InEdge call first) c flags below
jump_below more (InEdge call first) ByReturn c flags below = call_jump more (InEdge call first) c flags below

passed_below : (more : ℕ) (f : Scope) (c : Ops) → FlagsBelow more f → AreBelow more c → AreBelow more (passed_on f c)
passed_below more (InCall call) c flags below = below
passed_below more (InBody call first) c flags below = ((flags.live, flags.live, flags.whole), ((flags.run, flags.run, flags.whole), below))
passed_below more (InEdge call first) c flags below = ((flags.live, flags.live, flags.whole), ((flags.run, flags.run, flags.whole), below))

after_below : (more : ℕ) (b : Bool) (f : Scope) (c : Ops) → FlagsBelow more f → AreBelow more c → AreBelow more (if b then passed_on f c else c)
after_below more true f c flags below = passed_below more f c flags below
after_below more false f c flags below = below

alive_below : (more : ℕ) (f : Scope) (sure : Bool) → FlagsBelow more f → IsBelow more (alive f sure)
alive_below more f true flags = omega arith
alive_below more f false flags = flags.live

guarded_below : (count more : ℕ) (among : Bool) (f : Scope) (sure : Bool) (op : Op) (ops c : Ops) → is_single op ≡ true → count ≤ more → FlagsBelow more f
    → OpBelow count op → AreBelow count ops → AreBelow more c → AreBelow more (guarded among f sure op ops c)
guarded_below count more among f true op ops c e le flags below belows after = (single_more count more op e le below, after)
guarded_below count more true f false op ops c e le flags below belows after = after
guarded_below count more false f false op ops c e le flags below belows after =
    ((flags.live, (single_more count more op e le below, singles_more count more ops le belows), tt), after)

single_stays : (op : Op) → is_single op ≡ true → op_is_left op ≡ false
single_stays (Set d a) e = refl
single_stays (Calculate d op a b) e = refl
single_stays (Fit d elem a) e = refl
single_stays (Id d which a) e = refl
single_stays (Load d array elem a) e = refl
single_stays (Store array elem a b) e = refl
single_stays (Check array a pos) e = refl
single_stays (Barrier site) e = refl
single_stays (If test one other) e = absurd (true≢false (sym e))
single_stays (Loop head test body st) e = absurd (true≢false (sym e))
single_stays Break e = absurd (true≢false (sym e))
single_stays Continue e = absurd (true≢false (sym e))
single_stays Return e = absurd (true≢false (sym e))
single_stays (Call body) e = absurd (true≢false (sym e))

and_true : (b : Bool) → (b && true) ≡ b
and_true true = refl
and_true false = refl

still_sure : (sure : Bool) (op : Op) → is_single op ≡ true → (sure && not (op_is_left op)) ≡ sure
still_sure sure op e = ap (λ b. sure && not b) (single_stays op e) ∙ and_true sure

-- the scopes within have room
pub record Roomy (more : ℕ) (f : Scope) (needed : ℕ) : Type 0 where
  pub call : whole f < more
  pub fits : inside f + needed ≤ more

flags_of : (more : ℕ) (f : Scope) (needed : ℕ) → Roomy more f needed → FlagsBelow more f
flags_of more f needed roomy =
    let a : whole f < more = roomy.call in
    let b : inside f + needed ≤ more = roomy.fits in
    let c : run f < inside f = run_inside f in
    let d : live f < inside f = live_inside f in
    record { live = omega arith; run = omega arith; whole = a }

less_roomy : (more : ℕ) (f : Scope) (needed few : ℕ) → few ≤ needed → Roomy more f needed → Roomy more f few
less_roomy more f needed few le roomy = let b : inside f + needed ≤ more = roomy.fits in record { call = roomy.call; fits = omega arith }

body_roomy : (more : ℕ) (f : Scope) (needed few : ℕ) → 2 + few ≤ needed → Roomy more f needed → Roomy more (body_scope f) few
body_roomy more f needed few le roomy = let b : inside f + needed ≤ more = roomy.fits in record { call = roomy.call; fits = omega arith }

edge_roomy : (more : ℕ) (f : Scope) (needed few : ℕ) → 2 + few ≤ needed → Roomy more f needed → Roomy more (edge_scope f) few
edge_roomy more f needed few le roomy = let b : inside f + needed ≤ more = roomy.fits in record { call = roomy.call; fits = omega arith }

call_roomy : (more : ℕ) (f : Scope) (needed few : ℕ) → suc few ≤ needed → Roomy more f needed → Roomy more (InCall (inside f)) few
call_roomy more f needed few le roomy = let b : inside f + needed ≤ more = roomy.fits in record { call = omega arith; fits = omega arith }

-- the parts of operations have room
abbrev pub PartBelow : ℕ → Ops → Type 0
PartBelow more ops = (f : Scope) (sure : Bool) (c : Ops) → Roomy more f (room sure ops) → AreBelow more c → AreBelow more (flagged false f sure ops c)

loop_below : (more : ℕ) (f : Scope) (sure : Bool) (head : Ops) (test : Operand) (body st c : Ops) → IsBelow more test → PartBelow more head → PartBelow more body
    → PartBelow more st
    → Roomy more f (op_room sure (Loop head test body st)) → AreBelow more c → AreBelow more (flagged_op f sure (Loop head test body st) c)
loop_below more f sure head test body st c below heads bodies steps roomy after = by_form (is_flagged sure head body st) (leaves ByContinue body) roomy
  where
    by_form : (b k : Bool) → Roomy more f (if b then 2 + max (room false head) (max (room true body) (room false st))
        else if k then max (room true head) (max (suc (room true body)) (room true st)) else max (room true head) (max (room true body) (room true st)))
        → AreBelow more (if b then
        flagged_loop f sure (flagged false (edge_scope f) false head (tests f test)) (flagged false (body_scope f) true body NoOps) (flagged false (edge_scope f) false st NoOps)
        (if op_leaves ByReturn (Loop head test body st) then passed_on f c else c)
        else if k then
        AndOp (Loop (flagged false f true head NoOps) test (AndOp (Set (inside f) (NumberOf 1)) (flagged false (InCall (inside f)) true body NoOps))
        (flagged false f true st NoOps)) c
        else AndOp (Loop (flagged false f true head NoOps) test (flagged false f true body NoOps) (flagged false f true st NoOps)) c)
    by_form true k wide =
        let n : ℕ = 2 + max (room false head) (max (room true body) (room false st)) in
        let fits : inside f + (2 + max (room false head) (max (room true body) (room false st))) ≤ more = wide.fits in
        let own : FlagsBelow more f = flags_of more f (2 + max (room false head) (max (room true body) (room false st))) wide in
        let first : inside f < more = omega arith in
        let second : suc (inside f) < more = omega arith in (
          (first, alive_below more f sure own),
          (
            (second, first),
            (
              (
                second,
                heads (edge_scope f) false (tests f test)
                    (edge_roomy more f (2 + max (room false head) (max (room true body) (room false st))) (room false head) (omega arith) wide) ((second, second, below), tt),
                (
                  (second, first),
                  bodies (body_scope f) true NoOps
                      (body_roomy more f (2 + max (room false head) (max (room true body) (room false st))) (room true body) (omega arith) wide) tt,
                ),
                (
                  (second, first),
                  steps (edge_scope f) false NoOps
                      (edge_roomy more f (2 + max (room false head) (max (room true body) (room false st))) (room false st) (omega arith) wide) tt,
                ),
              ),
              after_below more (op_leaves ByReturn (Loop head test body st)) f c own after,
            ),
          ),
        )
    by_form false true wide =
        let fits : inside f + max (room true head) (max (suc (room true body)) (room true st)) ≤ more = wide.fits in (
          (
            below,
            heads f true NoOps (less_roomy more f (max (room true head) (max (suc (room true body)) (room true st))) (room true head) (omega arith) wide) tt,
            (
              (omega arith, omega arith),
              bodies (InCall (inside f)) true NoOps
                  (call_roomy more f (max (room true head) (max (suc (room true body)) (room true st))) (room true body) (omega arith) wide) tt,
            ),
            steps f true NoOps (less_roomy more f (max (room true head) (max (suc (room true body)) (room true st))) (room true st) (omega arith) wide) tt,
          ),
          after,
        )
    by_form false false wide = (
      (
        below,
        heads f true NoOps (less_roomy more f (max (room true head) (max (room true body) (room true st))) (room true head) (omega arith) wide) tt,
        bodies f true NoOps (less_roomy more f (max (room true head) (max (room true body) (room true st))) (room true body) (omega arith) wide) tt,
        steps f true NoOps (less_roomy more f (max (room true head) (max (room true body) (room true st))) (room true st) (omega arith) wide) tt,
      ),
      after,
    )

call_below : (more : ℕ) (f : Scope) (sure : Bool) (body c : Ops) → PartBelow more body → Roomy more f (op_room sure (Call body)) → AreBelow more c
    → AreBelow more (flagged_op f sure (Call body) c)
call_below more f sure body c bodies roomy after = by_form (is_left body) roomy
  where
    by_form : (b : Bool) → Roomy more f (if b then suc (room sure body) else room sure body)
        → AreBelow more (if b then AndOp (Set (inside f) (alive f sure)) (flagged false (InCall (inside f)) sure body c) else flagged false f sure body c)
    by_form true wide =
        let fits : inside f + suc (room sure body) ≤ more = wide.fits in (
          (omega arith, alive_below more f sure (flags_of more f (suc (room sure body)) wide)),
          bodies (InCall (inside f)) sure c
              (call_roomy more f (suc (room sure body)) (room sure body) (omega arith) wide) after,
        )
    by_form false wide = bodies f sure c wide after

mutual
  pub flagged_below : (count more : ℕ) (ops : Ops) → count ≤ more → AreBelow count ops → (among : Bool) (f : Scope) (sure : Bool) (c : Ops) → Roomy more f (room sure ops)
      → AreBelow more c → AreBelow more (flagged among f sure ops c)
  flagged_below count more NoOps le below among f sure c roomy after = after
  flagged_below count more (AndOp op ops) le (below, belows) among f sure c roomy after =
      let rest : Roomy more f (room (sure && not (op_is_left op)) ops) =
      less_roomy more f (max (op_room sure op) (room (sure && not (op_is_left op)) ops)) (room (sure && not (op_is_left op)) ops) (omega arith) roomy in
      let own : Roomy more f (op_room sure op) = less_roomy more f (max (op_room sure op) (room (sure && not (op_is_left op)) ops)) (op_room sure op) (omega arith) roomy in
      cond_both (is_single op) (guarded among f sure op ops (flagged (not sure) f sure ops c)) (flagged_op f sure op (flagged false f (sure && not (op_is_left op)) ops c))
      (AreBelow more)
      (λ e. guarded_below count more among f sure op ops (flagged (not sure) f sure ops c) e le (flags_of more f (op_room sure op) own) below belows
      (flagged_below count more ops le belows (not sure) f sure c (subst (λ b. Roomy more f (room b ops)) (still_sure sure op e) rest) after))
      (λ e. op_below count more op e le below f sure (flagged false f (sure && not (op_is_left op)) ops c) own
      (flagged_below count more ops le belows false f (sure && not (op_is_left op)) c rest after))

  op_below : (count more : ℕ) (op : Op) → is_single op ≡ false → count ≤ more → OpBelow count op → (f : Scope) (sure : Bool) (c : Ops) → Roomy more f (op_room sure op)
      → AreBelow more c → AreBelow more (flagged_op f sure op c)
  op_below count more (If test one other) e le (below, belows, belows') f sure c roomy after = (
    (
      operand_more count more test le below,
      flagged_below count more one le belows false f sure NoOps (less_roomy more f (max (room sure one) (room sure other)) (room sure one) (omega arith) roomy) tt,
      flagged_below count more other le belows' false f sure NoOps (less_roomy more f (max (room sure one) (room sure other)) (room sure other) (omega arith) roomy) tt,
    ),
    after,
  )
  op_below count more (Loop head test body st) e le (below, heads, bodies, steps) f sure c roomy after =
      loop_below more f sure head test body st c (operand_more count more test le below)
      (λ g b x wide after'. flagged_below count more head le heads false g b x wide after')
      (λ g b x wide after'. flagged_below count more body le bodies false g b x wide after')
      (λ g b x wide after'. flagged_below count more st le steps false g b x wide after')
      roomy after
  op_below count more (Call body) e le below f sure c roomy after =
      call_below more f sure body c (λ g b x wide after'. flagged_below count more body le below false g b x wide after') roomy after
  op_below count more Break e le below f sure c roomy after = jump_below more f ByBreak c (flags_of more f 0 roomy) after
  op_below count more Continue e le below f sure c roomy after = jump_below more f ByContinue c (flags_of more f 0 roomy) after
  op_below count more Return e le below f sure c roomy after = jump_below more f ByReturn c (flags_of more f 0 roomy) after
  op_below count more (Set d a) e le below f sure c roomy after = absurd (true≢false e)
  op_below count more (Calculate d op a b) e le below f sure c roomy after = absurd (true≢false e)
  op_below count more (Fit d elem a) e le below f sure c roomy after = absurd (true≢false e)
  op_below count more (Id d which a) e le below f sure c roomy after = absurd (true≢false e)
  op_below count more (Load d array elem a) e le below f sure c roomy after = absurd (true≢false e)
  op_below count more (Store array elem a b) e le below f sure c roomy after = absurd (true≢false e)
  op_below count more (Check array a pos) e le below f sure c roomy after = absurd (true≢false e)
  op_below count more (Barrier site) e le below f sure c roomy after = absurd (true≢false e)

-- the variables are numbered below their count
pub flags_below : (code : KirCode) → AreBelow code.variables code.ops → AreBelow (flags code).variables (flags code).ops
flags_below code below = (
  (omega arith, omega arith),
  flagged_below code.variables (suc code.variables + room true code.ops) code.ops (omega arith) below false (InCall code.variables) true NoOps
      (record { call = omega arith; fits = omega arith }) tt,
)
