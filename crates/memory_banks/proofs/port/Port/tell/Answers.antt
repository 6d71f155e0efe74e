use Rattle.std.proofs.Common.{◌∙◌}
use Rattle.memory_banks.proofs.PortLaws.{may_note}
use Rattle.std.specs.Int.Bits.{or_zero_r}
use Rattle.memory_banks.proofs.port.Port.tell.Goals as goal

pub split_seat-note-requires : goal.split_seat-note-requires
split_seat-note-requires c = may_note c.args.banks.now c.args.self.now c.requires.of.0

pub returns-clause-numbers : goal.returns-clause-numbers
returns-clause-numbers c = (c.take.ensures.number, c.take.ensures.numbers ∙ or_zero_r c.args.port.now.numbers)
