-- The places of a branch and of a loop are below what their end is below.
use Rattle.std.proofs.Common.{◌≡◌, ℕ, suc, ◌+◌, ◌<◌, ◌≤◌, Bool, arith}
use Rattle.kir.specs.Trees.{Ops}
use Rattle.simt_lowering.specs.Lowered.{Part, past, one_place, other_place, meet_place, if_end, step_place, head_place, test_place, body_place, loop_end, ops_end}
use Rattle.simt_lowering.specs.Views.{ends}
use Rattle.simt_lowering.proofs.Growing.{past_grows, ops_grow}

pub record IfWithin (u : Bool) (one other : Part) (n p : ℕ) : Type 0 where
  pub first : past u p < n
  pub one_in : one_place u p < n
  pub one_ends : one.end (one_place u p) < n
  pub other_in : other_place u one p < n
  pub meet_in : meet_place u one other p < n

pub if_within : (marks : ℕ → Bool) (u : Bool) (one other : Ops) (n p : ℕ) → if_end u (ends marks one) (ends marks other) p < n → IfWithin u (ends marks one) (ends marks other) n p
if_within marks u one other n p low =
    let a : meet_place u (ends marks one) (ends marks other) p ≤ if_end u (ends marks one) (ends marks other) p = past_grows u (meet_place u (ends marks one) (ends marks other) p) in
    let b : other_place u (ends marks one) p ≤ meet_place u (ends marks one) (ends marks other) p = ops_grow marks other (other_place u (ends marks one) p) in
    let d : one_place u p ≤ ops_end marks one (one_place u p) = ops_grow marks one (one_place u p) in
    record { first = omega arith; one_in = omega arith; one_ends = omega arith; other_in = omega arith; meet_in = omega arith }

pub record LoopWithin (u : Bool) (step head body : Part) (n p : ℕ) : Type 0 where
  pub entered : suc p < n
  pub kept : past u (suc p) < n
  pub step_in : step_place u p < n
  pub head_in : head_place u step p < n
  pub head_ends : head.end (head_place u step p) < n
  pub test_in : test_place u step head p < n
  pub body_in : body_place u step head p < n
  pub body_ends : body.end (body_place u step head p) < n

pub loop_within : (marks : ℕ → Bool) (u : Bool) (step head body : Ops) (n p : ℕ) → loop_end u (ends marks step) (ends marks head) (ends marks body) p < n
    → LoopWithin u (ends marks step) (ends marks head) (ends marks body) n p
loop_within marks u step head body n p low =
    let a : body_place u (ends marks step) (ends marks head) p ≤ ops_end marks body (body_place u (ends marks step) (ends marks head) p) =
    ops_grow marks body (body_place u (ends marks step) (ends marks head) p) in
    let b : ops_end marks head (head_place u (ends marks step) p) ≤ test_place u (ends marks step) (ends marks head) p = past_grows u (ops_end marks head (head_place u (ends marks step) p)) in
    let d : head_place u (ends marks step) p ≤ ops_end marks head (head_place u (ends marks step) p) = ops_grow marks head (head_place u (ends marks step) p) in
    let e : step_place u p ≤ head_place u (ends marks step) p = ops_grow marks step (step_place u p) in
    let f : suc p ≤ past u (suc p) = past_grows u (suc p) in
    record {
      entered = omega arith;
      kept = omega arith;
      step_in = omega arith;
      head_in = omega arith;
      head_ends = omega arith;
      test_in = omega arith;
      body_in = omega arith;
      body_ends = omega arith;
    }

-- the next place, where a place is known
pub next_of : (a b : ℕ) → a ≡ b → a + 1 ≡ suc b
next_of a b e = omega arith
