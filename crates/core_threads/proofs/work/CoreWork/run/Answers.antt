use Rattle.std.proofs.Common.{ℕ, ◌<◌, ◌∙◌, sym, subst, arith, refl}
use Rattle.core_threads.proofs.CoreLoop.{breaks, goes_on, has_all, it_is, it_is_not, none_claimed, none_left}
use Rattle.core_threads.proofs.work.CoreWork.run.Goals as goal

pub loop-turn-init : goal.loop-turn-init
loop-turn-init g c = none_claimed g.E.Evictor.evicts g.P.Picker.begins g.P.Picker.picks c.args.image.now (g.J.Jobs.job_of c.args.jobs.now) c.args.dispenser.now (g.J.Jobs.groups c.args.jobs.now) c.args.self.now c.requires

pub claim-requires-clause-of : goal.claim-requires-clause-of
claim-requires-clause-of g c = c.loop-turn.invariant.draws

pub returns-in_default : goal.returns-in_default
returns-in_default g c =
    let none = c.in_default.ensures.none in
    none_left g.E.Evictor.evicts g.P.Picker.begins g.P.Picker.picks c.args.image.now (g.J.Jobs.job_of c.args.jobs.now) c.args.dispenser.now (g.J.Jobs.groups c.args.jobs.now) c.args.self.now c.loop-turn.self c.loop-turn.turn c.claim.new.self c.loop-turn.invariant
    c.claim.ensures.of none.0 none.1 none.2 c.claim.ensures.same.0 c.claim.ensures.same.1

pub returns-then-is_some : goal.returns-then-is_some
returns-then-is_some g c =
    let bad = it_is c.bad_end-self.result (sym c.is_some.ensures ∙ c.if-is_some.true) in
    breaks g.E.Evictor.evicts g.P.Picker.begins g.P.Picker.picks c.args.image.now (g.J.Jobs.job_of c.args.jobs.now) c.args.dispenser.now (g.J.Jobs.groups c.args.jobs.now) c.args.self.now c.loop-turn.self (record { number = c.loop-turn.self.number; core = c.run_group-end.new.self; bus = c.run_group-end.new.bus; claimer = c.claim.new.self; picker = c.run_group-end.new.pick; evictor = c.run_group-end.new.evict; claimed = c.push_reserved.new.self; end = c.bad_end-self.result }) c.loop-turn.turn c.in-Some.group c.run_group-end.result bad.0 c.loop-turn.invariant
    (record {
      taken = c.job-job.result;
      taken_is = c.job-job.ensures.is;
      ran = c.run_group-end.ensures.runs;
      end_is = c.bad_end-self.ensures;
      ticket = c.in-Some.ensures.some.1;
      claimed_is = c.push_reserved.ensures.items;
      below = subst (λ (n : ℕ). c.in-Some.group < n) c.loop-turn.invariant.groups_are c.in-Some.ensures.some.0;
      room = c.push_reserved.ensures.capacity;
      draws = c.claim.ensures.of;
      gathered_is = c.claim.ensures.same.0;
      spare_is = c.claim.ensures.same.1;
      sound = c.run_group-end.ensures.sound;
      words = c.run_group-end.ensures.same_bus.0;
      port = c.run_group-end.ensures.same_bus.1;
      same_core = c.run_group-end.ensures.same_core;
      same_number = refl;
    })
    bad.1

pub loop-turn-preserved : goal.loop-turn-preserved
loop-turn-preserved g c =
    goes_on g.E.Evictor.evicts g.P.Picker.begins g.P.Picker.picks c.args.image.now (g.J.Jobs.job_of c.args.jobs.now) c.args.dispenser.now (g.J.Jobs.groups c.args.jobs.now) c.args.self.now c.loop-turn.self (record { number = c.loop-turn.self.number; core = c.run_group-end.new.self; bus = c.run_group-end.new.bus; claimer = c.claim.new.self; picker = c.run_group-end.new.pick; evictor = c.run_group-end.new.evict; claimed = c.push_reserved.new.self; end = c.bad_end-self.result }) c.loop-turn.turn c.in-Some.group c.run_group-end.result c.loop-turn.invariant
    (record {
      taken = c.job-job.result;
      taken_is = c.job-job.ensures.is;
      ran = c.run_group-end.ensures.runs;
      end_is = c.bad_end-self.ensures;
      ticket = c.in-Some.ensures.some.1;
      claimed_is = c.push_reserved.ensures.items;
      below = subst (λ (n : ℕ). c.in-Some.group < n) c.loop-turn.invariant.groups_are c.in-Some.ensures.some.0;
      room = c.push_reserved.ensures.capacity;
      draws = c.claim.ensures.of;
      gathered_is = c.claim.ensures.same.0;
      spare_is = c.claim.ensures.same.1;
      sound = c.run_group-end.ensures.sound;
      words = c.run_group-end.ensures.same_bus.0;
      port = c.run_group-end.ensures.same_bus.1;
      same_core = c.run_group-end.ensures.same_core;
      same_number = refl;
    })
    (it_is_not c.bad_end-self.result (sym c.is_some.ensures ∙ c.if-is_some.false))

pub returns : goal.returns
returns g c =
    let at_end = c.loop-turn-test.false in
    let within = c.loop-turn.auto.turn-end in
    has_all g.E.Evictor.evicts g.P.Picker.begins g.P.Picker.picks c.args.image.now (g.J.Jobs.job_of c.args.jobs.now) c.args.dispenser.now (g.J.Jobs.groups c.args.jobs.now) c.args.self.now c.loop-turn.self c.loop-turn.turn c.loop-turn.invariant
    (omega (arith, at_end, within, c.count-turn-end.ensures.is))
