-- Operations and the same with flags go along.
use Rattle.std.proofs.Common.{◌≡◌, ℕ, Bool, true, false, ◌&&◌, ◌||◌, not, ◌∷◌, refl, ap, ◌∙◌, true≢false}
use Rattle.std.specs.Prelude.{if◌then◌else◌}
use Rattle.std.proofs.lemmas.Bool.{cond_both}
use Rattle.item_settings.specs.Settings.{Setting}
use Rattle.kir.specs.Machine.{state, Do, ops_tasks}
use Rattle.kir.specs.Measures.{is_single}
use Rattle.kir.specs.Trees.{Operand, NumberOf, Op, Set, Calculate, Fit, Id, Load, Store, Check, Barrier, If, Loop, Break, Continue, Return, Call, Ops, NoOps, AndOp}
use Rattle.kir_flow.specs.declared.scopes.Jump.TheVariants.{ByBreak, ByContinue, ByReturn}
use Rattle.kir_flow.specs.declared.scopes.Scope.TheVariants.{InCall}
use Rattle.kir_flow.specs.Flagging.{inside, leaves, op_leaves, is_left, op_is_left, is_cut, is_flagged, body_scope, edge_scope}
use Rattle.kir_flow.specs.Flagging.{passed_on, tests, guarded, flagged_loop, flagged, flagged_op}
use Rattle.kir.specs.Numbered.{IsBelow, AreBelow, OpBelow, GivesWords}
use Rattle.kir_flow.proofs.FlagStates.{Along}
use Rattle.kir_flow.proofs.FollowStates.{Follows, FollowsOp}
use Rattle.kir_flow.proofs.StraightFollows.{FollowsAmong, if_follows, break_follows, continue_follows, return_follows, call_follows, cons_follows, single_cons, among_cons}
use Rattle.kir_flow.proofs.LoopFollows.{plain_follows, skips_follows}
use Rattle.kir_flow.proofs.FlaggedLoops.{flagged_follows}

-- neither of two
pub not_first : (a b : Bool) → (a || b) ≡ false → a ≡ false
not_first true b e = e
not_first false b e = refl

pub not_second : (a b : Bool) → (a || b) ≡ false → b ≡ false
not_second true b e = absurd (true≢false e)
not_second false b e = e

none_left : (ops : Ops) → leaves ByBreak ops ≡ false → leaves ByContinue ops ≡ false → leaves ByReturn ops ≡ false → is_left ops ≡ false
none_left ops e e' e'' = ap (λ b. b || (leaves ByContinue ops || leaves ByReturn ops)) e ∙ ap (λ b. b || leaves ByReturn ops) e' ∙ e''

-- a loop in its three forms
loop_follows : (at : Setting) (count : ℕ) (head : Ops) (test : Operand) (body st : Ops) → IsBelow count test → Follows at count head → Follows at count body → Follows at count st
    → FollowsOp at count (Loop head test body st)
loop_follows at count head test body st below heads bodies steps n f sure c ts ts' vs0 vs vs' ns fine next leave alike =
    let plain : Ops = AndOp (Loop (flagged false f true head NoOps) test (flagged false f true body NoOps) (flagged false f true st NoOps)) c in
    let skipping : Ops = AndOp (Loop (flagged false f true head NoOps) test (AndOp (Set (inside f) (NumberOf 1)) (flagged false (InCall (inside f)) true body NoOps))
    (flagged false f true st NoOps)) c in
    cond_both (is_flagged sure head body st)
    (flagged_loop f sure (flagged false (edge_scope f) false head (tests f test)) (flagged false (body_scope f) true body NoOps) (flagged false (edge_scope f) false st NoOps)
    (if op_leaves ByReturn (Loop head test body st) then passed_on f c else c))
    (if leaves ByContinue body then skipping else plain)
    (λ x. Along at n (state (Do (Loop head test body st) ∷ ts) vs ns) (state (ops_tasks x ts') vs' ns))
    (λ e. flagged_follows at count n f sure test head body st c ts ts' vs0 vs vs' ns fine below heads bodies steps next leave alike)
    (λ e.
    let uncut : is_cut head body st ≡ false = not_second (not sure) (is_cut head body st) e in
    let head_kept : is_left head ≡ false = not_first (is_left head) (is_left st || (leaves ByBreak body || leaves ByReturn body)) uncut in
    let rest : (is_left st || (leaves ByBreak body || leaves ByReturn body)) ≡ false = not_second (is_left head)
    (is_left st || (leaves ByBreak body || leaves ByReturn body)) uncut in
    let step_kept : is_left st ≡ false = not_first (is_left st) (leaves ByBreak body || leaves ByReturn body) rest in
    let body_kept : (leaves ByBreak body || leaves ByReturn body) ≡ false = not_second (is_left st) (leaves ByBreak body || leaves ByReturn body) rest in
    let breaks : leaves ByBreak body ≡ false = not_first (leaves ByBreak body) (leaves ByReturn body) body_kept in
    let returns : leaves ByReturn body ≡ false = not_second (leaves ByBreak body) (leaves ByReturn body) body_kept in
    cond_both (leaves ByContinue body) skipping plain (λ x. Along at n (state (Do (Loop head test body st) ∷ ts) vs ns) (state (ops_tasks x ts') vs' ns))
    (λ e'. skips_follows at count n f test head body st ts (ops_tasks c ts') vs0 vs vs' ns fine below head_kept breaks returns step_kept heads bodies steps next alike)
    (λ e'. plain_follows at count n f test head body st ts (ops_tasks c ts') vs0 vs vs' ns fine below head_kept
    (none_left body breaks e' returns) step_kept heads bodies steps next alike))

mutual
  pub follows : (at : Setting) (count : ℕ) → GivesWords at → (ops : Ops) → AreBelow count ops → Follows at count ops
  follows at count gives NoOps below n f sure c ts ts' vs0 vs vs' ns fine next leave alike = next vs vs' alike
  follows at count gives (AndOp op ops) (below, belows) n f sure c ts ts' vs0 vs vs' ns fine next leave alike =
      cond_both (is_single op) (guarded false f sure op ops (flagged (not sure) f sure ops c)) (flagged_op f sure op (flagged false f (sure && not (op_is_left op)) ops c))
      (λ x. Along at n (state (Do op ∷ ops_tasks ops ts) vs ns) (state (ops_tasks x ts') vs' ns))
      (λ e. single_cons at count op ops e gives below (follows at count gives ops belows)
      (follows_among at count gives ops belows) n f sure c ts ts' vs0 vs vs' ns fine next leave alike)
      (λ e. cons_follows at count op ops (follows_op at count gives op e below) (follows at count gives ops belows) n f sure c ts ts' vs0 vs vs' ns fine next leave alike)

  follows_among : (at : Setting) (count : ℕ) → GivesWords at → (ops : Ops) → AreBelow count ops → FollowsAmong at count ops
  follows_among at count gives NoOps below n f c ts ts' vs0 vs vs' ns fine next leave alike = next vs vs' alike
  follows_among at count gives (AndOp op ops) (below, belows) n f c ts ts' vs0 vs vs' ns fine next leave alike =
      among_cons at count op ops gives below (follows_among at count gives ops belows) n f c ts ts' vs0 vs vs' ns fine next leave alike
      (λ e. cons_follows at count op ops (follows_op at count gives op e below) (follows at count gives ops belows) n f false c ts ts' vs0 vs vs' ns fine next leave alike)

  follows_op : (at : Setting) (count : ℕ) → GivesWords at → (op : Op) → is_single op ≡ false → OpBelow count op → FollowsOp at count op
  follows_op at count gives (If test one other) e (below, belows, belows') = if_follows at count test one other below (follows at count gives one belows)
      (follows at count gives other belows')
  follows_op at count gives (Loop head test body st) e (below, heads, bodies, steps) =
      loop_follows at count head test body st below (follows at count gives head heads) (follows at count gives body bodies) (follows at count gives st steps)
  follows_op at count gives (Call body) e below = call_follows at count body (follows at count gives body below)
  follows_op at count gives Break e below = break_follows at count
  follows_op at count gives Continue e below = continue_follows at count
  follows_op at count gives Return e below = return_follows at count
  follows_op at count gives (Set d a) e below = absurd (true≢false e)
  follows_op at count gives (Calculate d op a b) e below = absurd (true≢false e)
  follows_op at count gives (Fit d elem a) e below = absurd (true≢false e)
  follows_op at count gives (Id d which a) e below = absurd (true≢false e)
  follows_op at count gives (Load d array elem a) e below = absurd (true≢false e)
  follows_op at count gives (Store array elem a b) e below = absurd (true≢false e)
  follows_op at count gives (Check array a pos) e below = absurd (true≢false e)
  follows_op at count gives (Barrier site) e below = absurd (true≢false e)
