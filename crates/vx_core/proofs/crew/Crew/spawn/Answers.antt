use Rattle.std.proofs.Common.{ℕ, ◌<◌, ◌^◌, sym, subst}
use Rattle.vx_isa.proofs.MaskLaws.{lanes_below-lt}
use Rattle.vx_core.specs.Crews.{is_spawned}
use Rattle.vx_core.specs.WarpLists.{warps_of}
use Rattle.vx_core.proofs.crew.Crew.spawn.Goals as goal

pub start_warps-requires-clause-set : goal.start_warps-requires-clause-set
start_warps-requires-clause-set c =
    subst (λ (n : ℕ). n < 2 ^ 16) (sym c.spawned_in-set.ensures) (lanes_below-lt 16 (is_spawned c.args.count (warps_of c.deref.result.now)))
