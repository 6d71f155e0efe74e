-- How a group ends.
use Rattle.std.specs.Prelude.{ℕ, ◌+◌, ◌*◌, nat_eq, if◌then◌else◌, List, find, option_map, Option, Some, None}
use Rattle.vx_isa.specs.WarpSteps.{code_start}
use Rattle.vx_isa.specs.declared.image.Site.{Site}
use Rattle.vx_isa.specs.declared.warps.MachineTrap.{MachineTrap}
use Rattle.vx_isa.specs.declared.warps.MachineTrap.TheVariants.{Break}
use Rattle.vx_isa.specs.declared.warps.Step.{Step}
use Rattle.vx_isa.specs.declared.warps.Step.TheVariants as step
use Rattle.vx_base.specs.declared.types.Pos.{Pos}
use Rattle.vx_core.specs.Crews.{CrewState, ended_warps, ready_warps, running_warps, waiting_warps}
use Rattle.vx_core.specs.declared.end.GroupEnd.{GroupEnd}
use Rattle.vx_core.specs.declared.end.GroupEnd.TheVariants.{Trapped, Machine, Finished, Stuck}
use Rattle.vx_core.specs.declared.job.GroupJob.{GroupJob}

-- the lane that a trap names, and the barrier at which a warp waits
abbrev pub lane_of : Step → ℕ
lane_of (step.Trap fault lane pc) = lane
lane_of outcome = 0

abbrev pub bar_of : Step → ℕ
bar_of (step.Wait bar count) = bar
bar_of outcome = 0

-- the first check whose `ebreak` is at an address
abbrev pub site_at : List Site → ℕ → Option Site
site_at sites pc = find (λ site. nat_eq (code_start + site.pc) pc) sites

-- an `ebreak` of a check, which stands somewhere in the source, and any other
abbrev pub end_of_break : ℕ → ℕ → Option Pos → GroupEnd
end_of_break warp item (Some pos) = Trapped pos item
end_of_break warp item None = Machine Break warp

abbrev pub end_of_trap : List Site → MachineTrap → ℕ → ℕ → ℕ → GroupEnd
end_of_trap sites Break warp pc item = end_of_break warp item (option_map (λ site. site.pos) (site_at sites pc))
end_of_trap sites fault warp pc item = Machine fault warp

abbrev pub end_without_trap : CrewState → Option GroupEnd
end_without_trap s =
    if nat_eq (running_warps s) 0 then Some Finished
    else if nat_eq (ready_warps s) 0 then Some (Stuck (waiting_warps s) (ended_warps s))
    else None

-- the item of a lane
abbrev pub item_of : GroupJob → ℕ → ℕ → ℕ
item_of job warp lane = job.group * job.local + warp * job.lanes + lane

-- How the group ends behind an instruction of a warp, the number of instructions aside: the first that holds.
abbrev pub end_after : List Site → GroupJob → ℕ → Step → CrewState → Option GroupEnd
end_after sites job warp (step.Trap fault lane pc) s = Some (end_of_trap sites fault warp pc (item_of job warp lane))
end_after sites job warp outcome s = end_without_trap s
