use Rattle.std.proofs.Common.{ℕ, subst}
use Rattle.std.specs.Int.{IsBitSet}
use Rattle.vx_core.specs.Cores.{crew_of}
use Rattle.vx_core.specs.Crews.{ready_warps}
use Rattle.vx_core.proofs.SetLaws.{has_lane-set, ready_warp}
use Rattle.vx_core.proofs.crew.Crew.pick.Goals as goal

pub returns-clause-picks : goal.returns-clause-picks
returns-clause-picks g c = subst (λ (set : ℕ). g.P.Picker.picks c.args.policy.now set c.pick.result c.pick.new.self) c.ready_warps.ensures c.pick.ensures.picks

pub returns-clause-ready : goal.returns-clause-ready
returns-clause-ready g c = has_lane-set (ready_warps (crew_of c.args.self.now)) c.pick.result (subst (λ (set : ℕ). IsBitSet set c.pick.result) c.ready_warps.ensures c.pick.ensures.ready)

pub returns-clause-warp : goal.returns-clause-warp
returns-clause-warp g c = (ready_warp (crew_of c.args.self.now) c.pick.result (subst (λ (set : ℕ). IsBitSet set c.pick.result) c.ready_warps.ensures c.pick.ensures.ready)).0

pub returns-clause-active : goal.returns-clause-active
returns-clause-active g c = (ready_warp (crew_of c.args.self.now) c.pick.result (subst (λ (set : ℕ). IsBitSet set c.pick.result) c.ready_warps.ensures c.pick.ensures.ready)).1
