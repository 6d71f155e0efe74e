use Rattle.std.proofs.Common.{sym, subst}
use Rattle.item_acts.specs.declared.acts.Action.TheVariants.{Fault, End}
use Rattle.item_acts.specs.Worlds.{launch_of, ActsAs}
use Rattle.item_acts.proofs.HeldActs.{faulted, ended}
use Rattle.item_acts.proofs.held.Held.act.Goals as goal

pub returns-in-Load-clause-done : goal.returns-in-Load-clause-done
returns-in-Load-clause-done c = rw c.in-Load.is c.load.ensures.done

pub returns-in-Store-clause-done : goal.returns-in-Store-clause-done
returns-in-Store-clause-done c = rw c.in-Store.is c.store.ensures.done

pub returns-in-Fault-clause-done : goal.returns-in-Fault-clause-done
returns-in-Fault-clause-done c = λ asks.
    rw c.in-Fault.is
    (subst (λ h. ActsAs (launch_of asks c.args.self.now) c.args.self.now h c.args.item (Fault c.in-Fault.pos)) (sym c.stand.ensures)
    (faulted c.args.self.now c.requires.held c.args.item c.requires.exists c.in-Fault.pos asks))

pub returns-in-End-clause-done : goal.returns-in-End-clause-done
returns-in-End-clause-done c = λ asks.
    rw c.in-End.is
    (subst (λ h. ActsAs (launch_of asks c.args.self.now) c.args.self.now h c.args.item End) (sym c.stand-in-End.ensures)
    (ended c.args.self.now c.requires.held c.args.item c.requires.exists asks))
