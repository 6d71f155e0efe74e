-- Steps of a lane alone whose next operations are known, against any other machine.
use Rattle.std.proofs.Common.{◌≡◌, ℕ, zero, suc, List, [], ◌∷◌, drop, ap, ◌∙◌}
use Rattle.item_acts.specs.Machine.{Step, Go}
use Rattle.step_machine.specs.Sims.{GoAlong, SecondGoes}
use Rattle.vcode.specs.Code.{VOp}
use Rattle.vcode.specs.Machine.{Around, Lane, lane, op_step, op_cost, step_from, cost_from, step, cost}

-- what stands behind an operation
pub behind : (code rest : List VOp) (op : VOp) (p : ℕ) → drop p code ≡ op ∷ rest → drop (suc p) code ≡ rest
behind [] rest op zero e = absurd (cc)
behind [] rest op (suc p) e = absurd (cc)
behind (x ∷ code) rest op zero e = cc
behind (x ∷ code) rest op (suc p) e = behind code rest op p e

-- the step and the cost of a lane, by what stands at its place
pub step_at : (at : Around) (code ops : List VOp) (p : ℕ) (rs : ℕ → ℕ) (ts ns : List ℕ) → drop p code ≡ ops
    → step at code (lane p rs ts ns) ≡ step_from at ops p rs ts ns
step_at at code ops p rs ts ns e = ap (λ c. step_from at c p rs ts ns) e

pub cost_at : (code ops : List VOp) (p : ℕ) (rs : ℕ → ℕ) (ts ns : List ℕ) → drop p code ≡ ops → cost code (lane p rs ts ns) ≡ cost_from ops rs
cost_at code ops p rs ts ns e = ap (λ c. cost_from c rs) e

-- the lane makes a step that costs nothing, and the other machine none
pub lane_goes : {S : Type 0} (f : S → Step S) (c : S → ℕ) (at : Around) (code rest : List VOp) (op : VOp) (n : ℕ) (s : S) (p : ℕ) (rs : ℕ → ℕ) (ts ns : List ℕ) (t : Lane)
    → drop p code ≡ op ∷ rest → op_step at op p rs ts ns ≡ Go t → op_cost op rs ≡ 0
    → GoAlong f (step at code) c (cost code) n s t → GoAlong f (step at code) c (cost code) n s (lane p rs ts ns)
lane_goes f c at code rest op n s p rs ts ns t e goes free along =
    SecondGoes n s (lane p rs ts ns) t (step_at at code (op ∷ rest) p rs ts ns e ∙ goes) (cost_at code (op ∷ rest) p rs ts ns e ∙ free) along
