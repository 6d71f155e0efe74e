use Rattle.std.proofs.Common.{arith}
use Rattle.group_dispenser.proofs.Keeps.{makes}
use Rattle.group_dispenser.proofs.claimer.Claimer.make.Goals as goal

pub split_seat-requires : goal.split_seat-requires
split_seat-requires c =
    let d = c.args.d.now in
    let me = c.args.self.now in
    (c.requires.of.table, omega (arith, d.one_word), makes d.table.shared.key me.seat.id me.seat.me.0 c.requires.spare)
