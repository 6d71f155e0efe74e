use Rattle.std.proofs.Common.{add-one, ◌∙◌, subst, refl}
use Rattle.vx_isa.specs.WarpSteps.{Fields}
use Rattle.warp_state.specs.Acts.{HasActed, HasTrapped, effect_at, warp_of}
use Rattle.warp_state.specs.Lanes.{registers_in}
use Rattle.warp_state.proofs.ActLaws.{none_acted, active_acted, idle_acted, active_trapped}
use Rattle.warp_state.proofs.lanes.act_all.Goals as goal
use Rattle.warp_state.proofs.lanes.act_all.Goals.{then-has_lane+in_default, else-has_lane}

pub loop-number-init : goal.loop-number-init
loop-number-init g c = record {
  acted = none_acted g.M.LaneMemory.acts (g.M.LaneMemory.has c.args.memory.now) c.args.shared.now.ids c.args.i (warp_of c.args.shared.now.pc c.args.shared.now.mask (registers_in c.args.lanes.now)) c.args.memory.now;
  same_fields = refl;
  sound = c.requires.sound;
}

pub returns-in-Err-clause-acted : goal.returns-in-Err-clause-acted
returns-in-Err-clause-acted g c =
    let going = c.loop-number.invariant in
    let trapped = c.in-Err.ensures.acted in
    let same = going.same_fields in
    active_trapped g.M.LaneMemory.acts (g.M.LaneMemory.has c.args.memory.now) c.args.shared.now.ids c.args.i (warp_of c.args.shared.now.pc c.args.shared.now.mask (registers_in c.args.lanes.now)) c.args.memory.now
    (record { fault = c.in-Err.fault; lane = c.loop-number.number }) (registers_in c.loop-number.lanes) c.loop-number.memory going.acted c.loop-number-test.true
    c.args.shared.now.chosen c.requires.shared.chosen_is c.if-has_lane.ensures (registers_in c.act_at.new.lanes) c.act_at.new.memory
    (subst (λ (has : Fields). HasTrapped has c.args.shared.now.pc c.args.shared.now.chosen (effect_at c.args.i c.args.shared.now.pc (registers_in c.loop-number.lanes c.loop-number.number)) c.in-Err.fault (registers_in c.loop-number.lanes c.loop-number.number) c.loop-number.memory (registers_in c.act_at.new.lanes c.loop-number.number) c.act_at.new.memory) same trapped)
    c.act_at.ensures.others

pub loop-number-preserved : goal.loop-number-preserved
loop-number-preserved g c =
    let going = c.loop-number.invariant in
    let has = g.M.LaneMemory.has c.args.memory.now in
    let shared = c.args.shared.now in
    let w = warp_of shared.pc shared.mask (registers_in c.args.lanes.now) in
    let k = c.loop-number.number in
    let before = registers_in c.loop-number.lanes in
    elim c.if-has_lane.branch [
      | then-has_lane+in_default one ↦
          let acted : HasActed g.M.LaneMemory.acts has shared.ids shared.mask k shared.pc shared.chosen (effect_at c.args.i shared.pc (before k)) (before k) c.loop-number.memory (registers_in one.act_at.new.lanes k) one.act_at.new.memory =
          subst (λ (fields : Fields). HasActed g.M.LaneMemory.acts fields shared.ids shared.mask k shared.pc shared.chosen (effect_at c.args.i shared.pc (before k)) (before k) c.loop-number.memory (registers_in one.act_at.new.lanes k) one.act_at.new.memory) going.same_fields one.in_default.ensures.acted in
          rw (one.lanes-is, one.memory-is, add-one) (record {
            acted = active_acted g.M.LaneMemory.acts has shared.ids c.args.i w c.args.memory.now k before c.loop-number.memory going.acted
                shared.chosen c.requires.shared.chosen_is one.if-has_lane.ensures (registers_in one.act_at.new.lanes) one.act_at.new.memory acted one.act_at.ensures.others;
            same_fields = one.act_at.ensures.same_fields ∙ going.same_fields;
            sound = one.act_at.ensures.sound;
          })
      | else-has_lane one ↦
          rw (one.lanes-is, one.memory-is, add-one) (record {
            acted = idle_acted g.M.LaneMemory.acts has shared.ids c.args.i w c.args.memory.now k before c.loop-number.memory going.acted one.if-has_lane.ensures;
            same_fields = going.same_fields;
            sound = going.sound;
          })
    ]
