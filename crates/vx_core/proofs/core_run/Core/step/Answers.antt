use Rattle.std.proofs.Common.{ℕ, length, ap, ◌∙◌}
use Rattle.vx_core.specs.Cores.{core_crew}
use Rattle.vx_core.specs.Counting.{tally_after}
use Rattle.vx_core.specs.Crews.{CrewState, crew_after}
use Rattle.vx_core.specs.declared.counts.Tally.{Tally}
use Rattle.vx_core.proofs.core_run.Core.step.Goals as goal

pub pick-warp-requires : goal.pick-warp-requires
pick-warp-requires g c = c.requires.ready

pub step_warp-outcome-requires : goal.step_warp-outcome-requires
step_warp-outcome-requires g c = record {
  warp = c.pick-warp.ensures.warp;
  active = c.pick-warp.ensures.active;
  sound = c.requires.sound;
  lines = c.requires.lines;
}

pub depth-requires : goal.depth-requires
depth-requires g c = c.pick-warp.ensures.warp

pub finish-requires : goal.finish-requires
finish-requires g c = record { warp = c.pick-warp.ensures.warp; barrier = c.step_warp-outcome.ensures.bar }

pub end_after-requires : goal.end_after-requires
end_after-requires g c = record {
  warp = c.pick-warp.ensures.warp;
  lanes = c.requires.lanes;
  lane = c.step_warp-outcome.ensures.lane;
  items = c.requires.items;
}

pub returns-clause-steps : goal.returns-clause-steps
returns-clause-steps g c =
    let warp = c.pick-warp.result in
    let outcome = c.step_warp-outcome.result in
    let stepped = c.step_warp-outcome.new.self in
    let stack = ((core_crew stepped).warps warp).stack in
    record {
      warp = warp;
      is_ready = c.pick-warp.ensures.ready;
      picked = c.pick-warp.ensures.picks;
      outcome = outcome;
      moved = (core_crew stepped).warps warp;
      took = c.step_warp-outcome.ensures.took;
      crew_is = c.finish.ensures ∙ ap (λ (s : CrewState). crew_after c.args.job.now.warps warp outcome s) c.step_warp-outcome.ensures.crew;
      tally_is = c.add.ensures ∙ ap (λ (n : ℕ). tally_after outcome n stepped.tally) c.depth.ensures ∙ ap (λ (t : Tally). tally_after outcome (length stack) t) c.step_warp-outcome.ensures.tally;
      end_is = c.end_after.ensures.end;
    }

pub returns-clause-ready : goal.returns-clause-ready
returns-clause-ready g c = c.end_after.ensures.ready

pub returns-clause-same_core : goal.returns-clause-same_core
returns-clause-same_core g c = record { number = c.step_warp-outcome.ensures.same_core.number; banks = c.step_warp-outcome.ensures.same_core.banks }

pub returns-clause-sound : goal.returns-clause-sound
returns-clause-sound g c = c.step_warp-outcome.ensures.sound

pub returns-clause-same_bus : goal.returns-clause-same_bus
returns-clause-same_bus g c = c.step_warp-outcome.ensures.same_bus
