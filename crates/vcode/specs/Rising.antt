-- Numbers of turns rise by at most one in a step, so that they stay below the number of steps made.
use Rattle.std.specs.Prelude.{ℕ, suc, ◌==◌, Bool, true, false, if◌then◌else◌, List, [], ◌∷◌, drop}
use Rattle.item_acts.specs.declared.acts.Action.TheVariants.{End}
use Rattle.item_acts.specs.Machine.{Go, Stop}
use Rattle.step_machine.specs.Stacks.{under}
use Rattle.step_machine.specs.Turns.{BehindBelow, EachBelow}
use Rattle.step_machine.proofs.TurnLaws.{below_entered, below_left, below_next, below_risen}
use Rattle.kir.specs.Machine.{value}
use Rattle.vx_isa.specs.Warps.{has_lane}
use Rattle.vcode.specs.Code.{VOp, Fresh, Copy, Compute, Cut, Word, WordAt, Learn, Fetch, Write, IfZero, IfNot, Goto, Split, Join, Pred, Tmc, Wspawn, Bar, Trap, Enter, Leaves, Again}
use Rattle.vcode.specs.Machine.{Around, Lane, lane, op_step, step, step_from}

-- a lane that its mask leaves, and the test of a loop
mask_keeps : (k : ℕ) (b : Bool) (s : Lane) → EachBelow k s.turns → BehindBelow (λ (s : Lane). s.turns) k (if b then Go s else Stop End)
mask_keeps k true s low = low
mask_keeps k false s low = tt

test_keeps : (k : ℕ) (b : Bool) (out on : Lane) → EachBelow k out.turns → EachBelow k on.turns → EachBelow k (if b then out else on).turns
test_keeps k true out on low low' = low
test_keeps k false out on low low' = low'

op_rises : (at : Around) (op : VOp) (p : ℕ) (rs : ℕ → ℕ) (ts ns : List ℕ) (k : ℕ) → EachBelow k ts → BehindBelow (λ (s : Lane). s.turns) (suc k) (op_step at op p rs ts ns)
op_rises at Fresh p rs ts ns k low = below_next k ts low
op_rises at (Copy d a) p rs ts ns k low = below_next k ts low
op_rises at (Compute d op a b) p rs ts ns k low = below_next k ts low
op_rises at (Cut d elem a) p rs ts ns k low = below_next k ts low
op_rises at (Word d w) p rs ts ns k low = below_next k ts low
op_rises at (WordAt d a w) p rs ts ns k low = below_next k ts low
op_rises at (Learn d csr) p rs ts ns k low = below_next k ts low
op_rises at (Fetch d elem a) p rs ts ns k low = λ answer. below_next k ts low
op_rises at (Write elem a b) p rs ts ns k low = λ answer. below_next k ts low
op_rises at (IfZero a q) p rs ts ns k low = below_next k ts low
op_rises at (IfNot a q) p rs ts ns k low = below_next k ts low
op_rises at (Goto q) p rs ts ns k low = below_next k ts low
op_rises at (Split a) p rs ts ns k low = below_next k ts low
op_rises at Join p rs ts ns k low = below_next k ts low
op_rises at (Pred a m) p rs ts ns k low = below_next k ts low
op_rises at (Tmc a) p rs ts ns k low = mask_keeps (suc k) (has_lane (value rs a) at.number) (lane (suc p) rs ts ns) (below_next k ts low)
op_rises at (Wspawn a q) p rs ts ns k low = below_next k ts low
op_rises at (Bar site) p rs ts ns k low = λ answer. below_next k ts low
op_rises at (Trap pos) p rs ts ns k low = tt
op_rises at Enter p rs ts ns k low = below_entered k ts low
op_rises at (Leaves a q) p rs ts ns k low =
    test_keeps (suc k) (value rs a == 0) (lane q rs (under ts) ns) (lane (suc p) rs ts ns) (below_left (suc k) ts (below_next k ts low)) (below_next k ts low)
op_rises at (Again q) p rs ts ns k low = below_risen k ts low

from_rises : (at : Around) (ops : List VOp) (p : ℕ) (rs : ℕ → ℕ) (ts ns : List ℕ) (k : ℕ) → EachBelow k ts → BehindBelow (λ (s : Lane). s.turns) (suc k) (step_from at ops p rs ts ns)
from_rises at [] p rs ts ns k low = tt
from_rises at (op ∷ ops) p rs ts ns k low = op_rises at op p rs ts ns k low

-- what is below k is below k + 1 behind a step
pub step_rises : (at : Around) (code : List VOp) (s : Lane) (k : ℕ) → EachBelow k s.turns → BehindBelow (λ (s : Lane). s.turns) (suc k) (step at code s)
step_rises at code s k low = from_rises at (drop s.place code) s.place s.registers s.turns s.numbers k low
