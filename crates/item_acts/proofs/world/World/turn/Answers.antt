use Rattle.std.proofs.Common.{ℕ, List, sym, ◌∙◌, ap, subst}
use Rattle.std.specs.Result.{IfOk}
use Rattle.item_acts.specs.declared.acts.Asked.{Asked}
use Rattle.item_acts.specs.Worlds.{launch_of, ActsAs}
use Rattle.item_acts.proofs.WorldTurns.{turned}
use Rattle.item_acts.proofs.world.World.turn.Goals as goal

pub returns-in-Ok-Act-clause-done : goal.returns-in-Ok-Act-clause-done
returns-in-Ok-Act-clause-done g c =
    let same = ap (λ w. w.held) c.self.view_is in
    turned c.perform.result (g.C.ItemCode.next_of c.args.self.now.code) c.args.self.now.held c.perform.new.self c.args.item c.args.self.now.fuel c.in-Ok-Act.action
    (sym c.in-Ok-Act.ensures ∙ c.in-Ok-Act.field-0-is) c.requires (sym c.progress_of.ensures ∙ c.in-Going.is)
    (subst (λ h. IfOk c.perform.result (λ done. (asks : ℕ → List ℕ → ℕ → Asked) → ActsAs (launch_of asks h) h c.perform.new.self c.args.item c.in-Ok-Act.action)) same c.perform.ensures.done)

pub returns-in-Ok-Act-clause-launch : goal.returns-in-Ok-Act-clause-launch
returns-in-Ok-Act-clause-launch g c =
    c.perform.ensures.launch (g.C.ItemCode.next_of c.self.inside.code) ∙ ap (λ w. launch_of (g.C.ItemCode.next_of w.code) w.held) c.self.view_is
