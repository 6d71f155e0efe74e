use Rattle.std.proofs.Common.{get_or, List, sym, subst}
use Rattle.std.proofs.lemmas.List.Elements.{All-weaker}
use mathlib.Core.List.{IsPrefix}
use Rattle.memory_banks.specs.declared.entry.BusEntry.{BusEntry}
use Rattle.memory_banks.specs.declared.port.Port.{Port}
use Rattle.memory_banks.specs.Ports.{KeptIn, held_set, seen}
use Rattle.memory_banks.proofs.PortLaws.{AreRenewed-of, AreRenewed-numbers, AreRenewed-stand, KeptIn-same}
use Rattle.memory_banks.proofs.crew.renew_all.Goals as goal

pub returns-clause-lists : goal.returns-clause-lists
returns-clause-lists c =
    let same = c.tell_all.ensures.same in
    All-weaker (λ (p : Port). KeptIn (held_set p) p c.hand_over_all.new.into) (λ (p : Port). KeptIn (held_set p) p c.tell_all.new.from)
    (λ p kept. KeptIn-same (held_set p) p c.hand_over_all.new.into c.tell_all.new.from kept same.0.seen_is same.1) c.args.ports.now c.hand_over_all.ensures.lists

pub returns-clause-renewed : goal.returns-clause-renewed
returns-clause-renewed c = AreRenewed-stand c.args.banks.now c.args.ports.now c.hand_over_all.new.ports c.tell_all.new.ports c.hand_over_all.ensures.renewed c.tell_all.auto.ports c.tell_all.ensures.stand

pub returns-clause-told : goal.returns-clause-told
returns-clause-told c k d within =
    subst (λ (es : List BusEntry). IsPrefix es (seen (get_or c.tell_all.new.ports k d))) (sym c.tell_all.ensures.same.0.seen_is) (c.tell_all.ensures.told k d within)

pub returns-clause-ports_of : goal.returns-clause-ports_of
returns-clause-ports_of c =
    AreRenewed-of c.args.banks.now c.args.ports.now c.tell_all.new.ports
    (AreRenewed-stand c.args.banks.now c.args.ports.now c.hand_over_all.new.ports c.tell_all.new.ports c.hand_over_all.ensures.renewed c.tell_all.auto.ports c.tell_all.ensures.stand)

pub returns-clause-ports_numbers : goal.returns-clause-ports_numbers
returns-clause-ports_numbers c =
    AreRenewed-numbers c.args.banks.now c.args.ports.now c.tell_all.new.ports
    (AreRenewed-stand c.args.banks.now c.args.ports.now c.hand_over_all.new.ports c.tell_all.new.ports c.hand_over_all.ensures.renewed c.tell_all.auto.ports c.tell_all.ensures.stand)
