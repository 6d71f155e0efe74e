use Rattle.std.proofs.Common.{arith}
use Rattle.group_dispenser.proofs.Keeps.{takes}
use Rattle.group_dispenser.proofs.claimer.Claimer.take.Goals as goal

pub join_seat-requires : goal.join_seat-requires
join_seat-requires c =
    let d = c.args.d.now in
    let me = c.args.self.now in
    let other = c.args.other in
    (c.requires.of.0.table, c.requires.of.1.table, other.no_slot, omega (arith, d.one_word), takes d.table.shared.key me.seat.id me.seat.me.0 other.seat.id other.seat.me.0)
