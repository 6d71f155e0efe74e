use Rattle.std.proofs.Common.{arith}
use Rattle.group_dispenser.specs.Claimers.{groups_of, drawn}
use Rattle.group_dispenser.proofs.TicketLaws.{none_past}
use Rattle.group_dispenser.proofs.Keeps.{draws}
use Rattle.group_dispenser.proofs.claimer.Claimer.claim.Goals as goal

pub fetch_add-ticket-requires : goal.fetch_add-ticket-requires
fetch_add-ticket-requires c =
    let d = c.args.d.now in
    let me = c.args.self.now in
    let none = none_past (groups_of d) (drawn me) c.requires.open in
    (c.requires.of.table, omega (arith, d.one_word), draws d.table.shared.key d.table.shared.table_id.slots me.seat.id me.seat.me none me.draws)
