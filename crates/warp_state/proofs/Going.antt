-- What the loop over the lanes keeps.
use Rattle.std.proofs.Common.{◌≡◌, ℕ, List}
use Rattle.vx_isa.specs.Warps.{WarpState}
use Rattle.vx_isa.specs.WarpSteps.{Access, Fields}
use Rattle.vx_isa.specs.declared.instr.Instr.{Instr}
use Rattle.vx_isa.specs.declared.warps.Ids.{Ids}
use Rattle.warp_state.specs.Acts.{HaveActed}
use Rattle.warp_state.specs.Lanes.{registers_in}
use Rattle.warp_state.specs.declared.lane.Lane.{Lane}

pub record IsGoing {M : Type 0} (acts : M → Access → M → Type 0) (has : M → Fields) (is_sound : M → Type 0) (ids : Ids) (i : Instr) (w : WarpState) (m : M) (below : ℕ) (lanes : List Lane) (m' : M) : Type 0 where
  pub acted : HaveActed acts (has m) ids i w m below (registers_in lanes) m'
  pub same_fields : has m' ≡ has m
  pub sound : is_sound m'
