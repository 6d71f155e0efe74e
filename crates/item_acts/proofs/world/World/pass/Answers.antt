use Rattle.std.proofs.Common.{◌≡◌, ℕ, List, ◌∙◌, ap, subst}
use Rattle.item_acts.specs.declared.acts.Asked.{Asked}
use Rattle.item_acts.specs.declared.acts.Point.{Point}
use Rattle.item_acts.specs.Launches.{after, Passes}
use Rattle.item_acts.specs.Worlds.{IsHeld, launch_of, state_of}
use Rattle.item_acts.proofs.WorldTurns.{has_passed}
use Rattle.item_acts.proofs.world.World.pass.Goals as goal

pub returns-clause-done : goal.returns-clause-done
returns-clause-done g c =
    let same = ap (λ w. w.held) c.self.view_is in
    let held = subst IsHeld same c.self.invariant in
    has_passed c.args.self.now.held (g.C.ItemCode.next_of c.args.self.now.code) c.args.self.now.fuel c.args.group held c.requires c.release.new.self
    (rw c.in-Ok-true.field-0-test at c.in-Ok-true.ensures)
    (subst (λ h. (any : ℕ → List ℕ → ℕ → Asked) (point : Point) → state_of c.release.new.self ≡ after (launch_of any h) (state_of h) (Passes c.args.group point)) same c.in-Ok.ensures.done)
    (c.release.ensures.log ∙ ap (λ h. h.log) same)

pub returns-clause-launch : goal.returns-clause-launch
returns-clause-launch g c =
    c.release.ensures.launch (g.C.ItemCode.next_of c.self.inside.code) ∙ ap (λ w. launch_of (g.C.ItemCode.next_of w.code) w.held) c.self.view_is
