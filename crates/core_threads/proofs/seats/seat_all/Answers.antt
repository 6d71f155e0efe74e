use Rattle.std.proofs.Common.{◌≡◌, ◌∙◌, ◌+◌, length, vec_capacity, ap, arith}
use Rattle.core_threads.proofs.SeatLists.{first_claimer, first_port, none_yet, one_seat_more}
use Rattle.core_threads.proofs.seats.seat_all.Goals as goal

pub loop-number-init : goal.loop-number-init
loop-number-init g c =
    none_yet g.E.Evictor.begins c.args.groups c.args.machine.banks c.args.machine.sets c.args.banks.now c.args.dispenser.now c.args.ports c.args.machine.cores c.in_ok-works.works.items (vec_capacity c.in_ok-works.works) c.ports.inside.items.items c.claimers.inside.items.items c.args.claimers (length c.args.policies.items)
    c.in_ok-works.ensures.items c.in_ok-works.ensures.capacity c.ports.view_is c.requires.ports c.claimers.view_is c.requires.claimers c.requires.policies

pub seat-requires-clause-port : goal.seat-requires-clause-port
seat-requires-clause-port g c = first_port c.args.banks.now c.loop-number.number c.loop-number.ports.items c.take_first.new.items.items c.take_first.result c.take_first.ensures c.loop-number.invariant.ports_from

pub seat-requires-clause-claimer : goal.seat-requires-clause-claimer
seat-requires-clause-claimer g c = first_claimer c.args.dispenser.now c.loop-number.claimers.items c.take_first-in-loop-number.new.items.items c.take_first-in-loop-number.result c.take_first-in-loop-number.ensures c.loop-number.invariant.claimers_ready

pub loop-number-preserved : goal.loop-number-preserved
loop-number-preserved g c =
    let fewer : length c.loop-number.policies.items ≡ 1 + length c.take_first-in-loop-number-2.new.items.items = ap (λ ps. length ps) c.take_first-in-loop-number-2.ensures ∙ omega arith in
    one_seat_more g.E.Evictor.begins c.args.groups c.args.machine.banks c.args.machine.sets c.args.banks.now c.args.dispenser.now c.args.ports c.args.machine.cores c.loop-number.number c.loop-number.works.items c.push_reserved.new.self.items (vec_capacity c.loop-number.works) (vec_capacity c.push_reserved.new.self) c.loop-number.ports.items c.take_first.new.items.items c.loop-number.claimers.items c.take_first-in-loop-number.new.items.items (length c.loop-number.policies.items) (length c.take_first-in-loop-number-2.new.items.items) c.take_first.result c.take_first-in-loop-number.result c.in_ok-work.work
    c.loop-number.invariant c.take_first.ensures c.take_first-in-loop-number.ensures fewer c.in_ok-work.ensures.seated c.in_ok-work.ensures.port c.push_reserved.ensures.items c.push_reserved.ensures.capacity
