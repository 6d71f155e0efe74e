-- Lanes whose registers are all 0.
use Rattle.std.proofs.Common.{◌≡◌, ℕ, zero, suc, ◌∙◌, ap, refl, replicate, get_or}
use Rattle.std.proofs.Math.Path.{fun_ext}
use Rattle.warp_state.specs.Lanes.{idle, registers_in, registers_of}
use Rattle.warp_state.specs.declared.lane.Lane.{Lane}

-- a list of one element again and again has it at each place
get_or-all : {A : Type 0} (n k : ℕ) (x : A) → get_or (replicate n x) k x ≡ x
get_or-all zero k x = refl
get_or-all (suc n) zero x = refl
get_or-all (suc n) (suc k) x = get_or-all n k x

pub registers_in-idle : registers_in (replicate 32 idle) ≡ (λ lane r. 0)
registers_in-idle = fun_ext (λ lane. fun_ext (λ r. ap (λ (l : Lane). registers_of l r) (get_or-all 32 lane idle) ∙ get_or-all 32 r 0))
