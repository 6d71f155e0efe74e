-- Numbers of turns rise by at most one in a step, so that they stay below the number of steps made.
use Rattle.std.specs.Prelude.{ℕ, suc, ◌==◌, nat_lt, Bool, true, false, if◌then◌else◌, List, [], ◌∷◌}
use Rattle.vx_base.specs.declared.types.Pos.{Pos}
use Rattle.item_acts.specs.declared.acts.Action.TheVariants.{Fault}
use Rattle.item_acts.specs.Machine.{Go, Stop}
use Rattle.item_settings.specs.Settings.{Setting}
use Rattle.step_machine.specs.Stacks.{under}
use Rattle.step_machine.specs.Turns.{BehindBelow, EachBelow}
use Rattle.step_machine.proofs.TurnLaws.{below_entered, below_left, below_next, below_risen}
use Rattle.kir.specs.Machine.{State, state, Task, Do, Decide, Again, CallEnd, Turning, broken, continued, returned, op_step, ops_tasks, step, step_from, task_step, turn_tasks, value}
use Rattle.kir.specs.Trees.{Op, Set, Calculate, Fit, Id, Load, Store, Check, Barrier, If, Loop, Break, Continue, Return, Call}

returned_keeps : (k : ℕ) (ts : List Task) (vs : ℕ → ℕ) (ns : List ℕ) → EachBelow k ns → EachBelow k (returned ts vs ns).turns
returned_keeps k [] vs ns low = low
returned_keeps k (Do op ∷ ts) vs ns low = returned_keeps k ts vs ns low
returned_keeps k (Decide loop ∷ ts) vs ns low = returned_keeps k ts vs (under ns) (below_left k ns low)
returned_keeps k (Again loop ∷ ts) vs ns low = returned_keeps k ts vs (under ns) (below_left k ns low)
returned_keeps k (CallEnd ∷ ts) vs ns low = low

broken_keeps : (k : ℕ) (ts : List Task) (vs : ℕ → ℕ) (ns : List ℕ) → EachBelow k ns → EachBelow k (broken ts vs ns).turns
broken_keeps k [] vs ns low = low
broken_keeps k (Do op ∷ ts) vs ns low = broken_keeps k ts vs ns low
broken_keeps k (Decide loop ∷ ts) vs ns low = below_left k ns low
broken_keeps k (Again loop ∷ ts) vs ns low = below_left k ns low
broken_keeps k (CallEnd ∷ ts) vs ns low = low

continued_keeps : (k : ℕ) (ts : List Task) (vs : ℕ → ℕ) (ns : List ℕ) → EachBelow k ns → EachBelow k (continued ts vs ns).turns
continued_keeps k [] vs ns low = low
continued_keeps k (Do op ∷ ts) vs ns low = continued_keeps k ts vs ns low
continued_keeps k (Decide loop ∷ ts) vs ns low = below_left k ns low
continued_keeps k (Again loop ∷ ts) vs ns low = low
continued_keeps k (CallEnd ∷ ts) vs ns low = low

-- a check, and the test of a loop
check_keeps : (k : ℕ) (b : Bool) (s : State) (pos : Pos) → EachBelow k s.turns → BehindBelow (λ (s : State). s.turns) k (if b then Go s else Stop (Fault pos))
check_keeps k true s pos low = low
check_keeps k false s pos low = tt

decide_keeps : (k : ℕ) (b : Bool) (out on : State) → EachBelow k out.turns → EachBelow k on.turns → EachBelow k (if b then out else on).turns
decide_keeps k true out on low low' = low
decide_keeps k false out on low low' = low'

op_rises : (at : Setting) (op : Op) (ts : List Task) (vs : ℕ → ℕ) (ns : List ℕ) (k : ℕ) → EachBelow k ns → BehindBelow (λ (s : State). s.turns) (suc k) (op_step at op ts vs ns)
op_rises at (Set d a) ts vs ns k low = below_next k ns low
op_rises at (Calculate d op a b) ts vs ns k low = below_next k ns low
op_rises at (Fit d elem a) ts vs ns k low = below_next k ns low
op_rises at (Id d which a) ts vs ns k low = below_next k ns low
op_rises at (Load d array elem a) ts vs ns k low = λ answer. below_next k ns low
op_rises at (Store array elem a b) ts vs ns k low = λ answer. below_next k ns low
op_rises at (Check array a pos) ts vs ns k low = check_keeps (suc k) (nat_lt (value vs a) (at.array array).count) (state ts vs ns) pos (below_next k ns low)
op_rises at (Barrier site) ts vs ns k low = λ answer. below_next k ns low
op_rises at (If test one other) ts vs ns k low = below_next k ns low
op_rises at (Loop head test body step) ts vs ns k low = below_entered k ns low
op_rises at Break ts vs ns k low = broken_keeps (suc k) ts vs ns (below_next k ns low)
op_rises at Continue ts vs ns k low = continued_keeps (suc k) ts vs ns (below_next k ns low)
op_rises at Return ts vs ns k low = returned_keeps (suc k) ts vs ns (below_next k ns low)
op_rises at (Call body) ts vs ns k low = below_next k ns low

from_rises : (at : Setting) (ts : List Task) (vs : ℕ → ℕ) (ns : List ℕ) (k : ℕ) → EachBelow k ns → BehindBelow (λ (s : State). s.turns) (suc k) (step_from at ts vs ns)
from_rises at [] vs ns k low = tt
from_rises at (Do op ∷ ts) vs ns k low = op_rises at op ts vs ns k low
from_rises at (Decide loop ∷ ts) vs ns k low =
    decide_keeps (suc k) (value vs loop.test == 0) (state ts vs (under ns)) (state (turn_tasks loop ts) vs ns) (below_left (suc k) ns (below_next k ns low)) (below_next k ns low)
from_rises at (Again loop ∷ ts) vs ns k low = below_risen k ns low
from_rises at (CallEnd ∷ ts) vs ns k low = below_next k ns low

-- what is below k is below k + 1 behind a step
pub step_rises : (at : Setting) (s : State) (k : ℕ) → EachBelow k s.turns → BehindBelow (λ (s : State). s.turns) (suc k) (step at s)
step_rises at s k low = from_rises at s.tasks s.variables s.turns k low
