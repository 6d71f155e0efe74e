use Rattle.std.proofs.Common.{◌+◌, ◌*◌, ◌∙◌, sym, ap, subst, arith}
use Rattle.item_acts.specs.Worlds.{IsHeld, launch_of, state_of, WaitsWithin}
use Rattle.item_acts.proofs.Answering.{group_within}
use Rattle.item_acts.proofs.WorldTurns.{none_meet, meet_by}
use Rattle.item_acts.proofs.world.World.meets.Goals as goal

pub all_wait_at-requires : goal.all_wait_at-requires
all_wait_at-requires g c =
    let same = ap (λ w. w.held) c.self.view_is in
    let held = subst IsHeld same c.self.invariant in
    let end = c.ends_of-first.ensures.end ∙ ap (λ h. c.args.group * h.local + h.local) same in
    let within = group_within c.args.self.now.held.items c.args.self.now.held.local c.args.group held.positive held.whole c.requires in
    omega arith

pub returns-in-Ok-None : goal.returns-in-Ok-None
returns-in-Ok-None g c =
    let same = ap (λ w. w.held) c.self.view_is in
    let held = subst IsHeld same c.self.invariant in
    let first = c.ends_of-first.ensures.first ∙ ap (λ h. c.args.group * h.local) same in
    let asks = g.C.ItemCode.next_of c.args.self.now.code in
    let none = rw c.in-Ok-None.field-0-is at c.in-Ok-None.ensures in
    none_meet c.args.self.now.held asks c.args.self.now.fuel c.args.group held c.requires
    (λ point waits. none point (subst (λ item. WaitsWithin (launch_of asks c.args.self.now.held) (state_of c.args.self.now.held) c.args.self.now.fuel item point) (sym first) waits))

pub returns-in-Ok-Some : goal.returns-in-Ok-Some
returns-in-Ok-Some g c =
    let same = ap (λ w. w.held) c.self.view_is in
    let held = subst IsHeld same c.self.invariant in
    let first = c.ends_of-first.ensures.first ∙ ap (λ h. c.args.group * h.local) same in
    let end = c.ends_of-first.ensures.end ∙ ap (λ h. c.args.group * h.local + h.local) same in
    let waits = rw c.in-Ok-Some.field-0-is at c.in-Ok-Some.ensures in
    meet_by c.args.self.now.held (g.C.ItemCode.next_of c.args.self.now.code) c.args.self.now.fuel c.args.group held c.requires
    c.all_wait_at.result c.ends_of-first.result.0 c.ends_of-first.result.1 c.in-Ok-Some.point first end waits c.all_wait_at.ensures
