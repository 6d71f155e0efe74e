use Rattle.std.proofs.Common.{sym, subst}
use Rattle.item_acts.specs.declared.acts.Action.TheVariants.{Load}
use Rattle.item_acts.specs.Worlds.{launch_of, ActsAs}
use Rattle.item_acts.proofs.HeldActs.{loaded}
use Rattle.item_acts.proofs.held.Held.load.Goals as goal

pub returns-in-Ok-clause-done : goal.returns-in-Ok-clause-done
returns-in-Ok-clause-done c = λ asks.
    subst (λ h. ActsAs (launch_of asks c.args.self.now) c.args.self.now h c.args.item (Load c.args.place c.args.size)) (sym c.in-Ok.ensures.ok)
    (loaded c.args.self.now c.requires.held c.args.item c.requires.exists c.requires.going c.args.place c.args.size c.in-Some.value c.in-Some.ensures.0 c.in-Some.ensures.1 asks)
