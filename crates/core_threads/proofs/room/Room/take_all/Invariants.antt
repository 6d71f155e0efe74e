use Rattle.core_threads.specs.Rooms.{TakesAll}
use Rattle.core_threads.proofs.room.Room.take_all.Given as goal

abbrev pub invariant-loop-work : goal.invariant-loop-work
invariant-loop-work g l = record {
  can : (goal.iterator-loop-work g).can_next l.work-iterator;
  finite : (goal.iterator-loop-work g).is_finite l.work-iterator;
  took : TakesAll l.yielded l.fn.self l.self;
}
