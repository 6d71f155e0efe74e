use Rattle.std.proofs.Common.{true, sym, ◌∙◌, ap, subst}
use Rattle.vx_base.specs.Bytes.{bytes_of}
use Rattle.item_acts.specs.declared.acts.Action.TheVariants.{Store}
use Rattle.item_acts.specs.Worlds.{launch_of, IsHeld, ActsAs, entry_of, logged, answered, stored}
use Rattle.item_acts.proofs.HeldActs.{put_there, held_logged, held_answered, held_stored, launch_stored}
use Rattle.item_acts.proofs.held.Held.store.Goals as goal

pub returns-in-Ok-clause-done : goal.returns-in-Ok-clause-done
returns-in-Ok-clause-done c = λ asks.
    let left = c.put_at.ensures ∙ ap (λ h. stored h c.args.place (bytes_of c.args.size) c.args.value) c.in-Ok.ensures.ok in
    subst (λ h. ActsAs (launch_of asks c.args.self.now) c.args.self.now h c.args.item (Store c.args.place c.args.size c.args.value)) (sym left)
    (put_there c.args.self.now c.requires.held c.args.item c.requires.exists c.requires.going c.args.place c.args.size c.args.value c.in-Some.ensures.0 asks)

pub returns-in-Ok-clause-launch : goal.returns-in-Ok-clause-launch
returns-in-Ok-clause-launch c = λ asks.
    let left = c.put_at.ensures ∙ ap (λ h. stored h c.args.place (bytes_of c.args.size) c.args.value) c.in-Ok.ensures.ok in
    ap (launch_of asks) left
    ∙ launch_stored (answered (logged c.args.self.now (entry_of c.args.self.now c.args.item c.args.place c.args.size true)) c.args.item 0) c.args.place (bytes_of c.args.size) c.args.value c.in-Some.ensures.0 asks

pub returns-in-Ok-clause-held : goal.returns-in-Ok-clause-held
returns-in-Ok-clause-held c =
    let h = c.args.self.now in
    let entry = entry_of h c.args.item c.args.place c.args.size true in
    let left = c.put_at.ensures ∙ ap (λ h. stored h c.args.place (bytes_of c.args.size) c.args.value) c.in-Ok.ensures.ok in
    subst IsHeld (sym left)
    (held_stored (answered (logged h entry) c.args.item 0) c.args.place (bytes_of c.args.size) c.args.value c.in-Some.ensures.0
    (held_answered (logged h entry) c.args.item 0 c.requires.exists (held_logged h entry c.requires.held)))
