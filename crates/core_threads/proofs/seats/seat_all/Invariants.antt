use Rattle.std.proofs.Common.{length, vec_capacity}
use Rattle.core_threads.proofs.SeatLists.{Seating}
use Rattle.core_threads.proofs.seats.seat_all.Given as goal

abbrev pub invariant-loop-number : goal.invariant-loop-number
invariant-loop-number g l =
    Seating g.E.Evictor.begins l.groups l.machine.banks l.machine.sets l.banks l.dispenser l.fn.ports l.machine.cores l.number l.works.items (vec_capacity l.works) l.ports.items l.claimers.items (length l.policies.items)
