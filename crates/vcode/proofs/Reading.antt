-- What stands at a place of the code's operations.
use Rattle.std.proofs.Common.{◌≡◌, ℕ, zero, suc, ◌+◌, ◌<◌, ◌≤◌, List, [], ◌∷◌, length, drop, get_or, refl, ap, ◌∙◌, arith}
use Rattle.std.proofs.lemmas.List.{drop_more}
use Rattle.item_acts.specs.declared.acts.Action.TheVariants.{End}
use Rattle.item_acts.specs.Machine.{Stop}
use Rattle.vcode.specs.declared.ops.VOp.{VOp as HeldOp}
use Rattle.vcode.specs.Code.{VOp}
use Rattle.vcode.specs.Machine.{Around, Lane, op_step, step, step_from}
use Rattle.vcode.specs.Shapes.{vop_of, vops_of}

dropped : (ops : List HeldOp) (k : ℕ) → drop k (vops_of ops) ≡ vops_of (drop k ops)
dropped [] zero = refl
dropped [] (suc k) = refl
dropped (op ∷ ops) zero = refl
dropped (op ∷ ops) (suc k) = dropped ops k

pub some_at : (ops : List HeldOp) (k : ℕ) (other : HeldOp) → k < length ops → drop k (vops_of ops) ≡ vop_of (get_or ops k other) ∷ vops_of (drop (k + 1) ops)
some_at ops k other within = dropped ops k ∙ ap vops_of (drop_more ops k other within)

none_left : (k : ℕ) → drop {A = VOp} k [] ≡ []
none_left zero = refl
none_left (suc k) = refl

none_at : (ops : List HeldOp) (k : ℕ) → length ops ≤ k → drop k (vops_of ops) ≡ []
none_at [] k past = none_left k
none_at (op ∷ ops) zero past = absurd (omega arith)
none_at (op ∷ ops) (suc k) past = none_at ops k (omega arith)

-- a step at an operation, and behind the last one
pub step_some : (at : Around) (ops : List HeldOp) (rest : List VOp) (s : Lane) (op : HeldOp) → drop s.place (vops_of ops) ≡ vop_of op ∷ rest
    → step at (vops_of ops) s ≡ op_step at (vop_of op) s.place s.registers s.turns s.numbers
step_some at ops rest s op e = ap (λ c. step_from at c s.place s.registers s.turns s.numbers) e

pub step_none : (at : Around) (ops : List HeldOp) (s : Lane) → length ops ≤ s.place → step at (vops_of ops) s ≡ Stop End
step_none at ops s past = ap (λ c. step_from at c s.place s.registers s.turns s.numbers) (none_at ops s.place past)
