use Rattle.std.proofs.Common.{sym, ◌∙◌, ap, subst}
use Rattle.item_acts.specs.Worlds.{IsHeld, state_of}
use Rattle.item_acts.proofs.HeldOpens.{opening_held, opening_starts}
use Rattle.item_acts.proofs.world.World.new.Goals as goal

pub invariant_of-result : goal.invariant_of-result
invariant_of-result g c = subst IsHeld (sym c.in_ok-held.ensures) (opening_held c.args.items c.args.local c.args.buffers c.args.locals c.requires.positive c.requires.whole)

pub returns-clause-state : goal.returns-clause-state
returns-clause-state g c = ap state_of c.in_ok-held.ensures ∙ opening_starts c.args.items c.args.local c.args.buffers c.args.locals
