use Rattle.std.proofs.Common.{arith}
use Rattle.std.specs.Slots.{slots_items}
use Rattle.group_dispenser.proofs.Keeps.{closes}
use Rattle.group_dispenser.proofs.crew.close.Goals as goal

pub overflow_cast-result : goal.overflow_cast-result
overflow_cast-result c =
    let d = c.args.d in
    let t = c.close_with-closed in
    let done = closes d.table.shared.key c.args.c.seat.id c.args.c.seat.me.0 (slots_items t.result.words) (slots_items t.result.slots) t.ensures.values.2 c.word-next.result c.word-next.ensures c.requires.all in
    omega (arith, done.2)

pub returns-clause-once : goal.returns-clause-once
returns-clause-once c =
    let d = c.args.d in
    let t = c.close_with-closed in
    (closes d.table.shared.key c.args.c.seat.id c.args.c.seat.me.0 (slots_items t.result.words) (slots_items t.result.slots) t.ensures.values.2 c.word-next.result c.word-next.ensures c.requires.all).0

pub returns-clause-few : goal.returns-clause-few
returns-clause-few c =
    let d = c.args.d in
    let t = c.close_with-closed in
    (closes d.table.shared.key c.args.c.seat.id c.args.c.seat.me.0 (slots_items t.result.words) (slots_items t.result.slots) t.ensures.values.2 c.word-next.result c.word-next.ensures c.requires.all).1
