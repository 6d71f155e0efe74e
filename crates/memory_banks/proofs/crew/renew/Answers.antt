use Rattle.std.proofs.Common.{◌≡◌, All, length, List, sym, subst, ap, ◌∙◌}
use mathlib.Core.List.{IsPrefix}
use Rattle.memory_banks.specs.declared.port.Port.{Port}
use Rattle.memory_banks.specs.Ports.{IsOf, KeptIn, held_set, seen}
use Rattle.memory_banks.proofs.Rows.{whole_row}
use Rattle.memory_banks.proofs.crew.renew.Goals as goal

pub returns-clause-lists : goal.returns-clause-lists
returns-clause-lists c = subst (λ (ps : List Port). All (λ p. KeptIn (held_set p) p c.renew_all.new.into) ps) (c.as_mut_slice.ensures.value ∙ c.ports.view_is) c.renew_all.ensures.lists

pub returns-clause-ports_of : goal.returns-clause-ports_of
returns-clause-ports_of c =
    let lent = c.as_mut_slice.ensures in
    let long : length c.as_mut_slice.result.now ≡ length c.ports.inside.items.items = ap (λ (ps : List Port). length ps) lent.value in
    let whole = whole_row c.ports.inside.items.len c.ports.inside.items.items c.renew_all.new.ports (sym lent.len ∙ long) (c.renew_all.auto.ports ∙ long) in
    subst (λ (ps : List Port). All (λ p. IsOf c.args.banks.now p) ps) (sym whole) c.renew_all.ensures.ports_of

pub returns-clause-told : goal.returns-clause-told
returns-clause-told c =
    let lent = c.as_mut_slice.ensures in
    let long : length c.as_mut_slice.result.now ≡ length c.ports.inside.items.items = ap (λ (ps : List Port). length ps) lent.value in
    let whole = whole_row c.ports.inside.items.len c.ports.inside.items.items c.renew_all.new.ports (sym lent.len ∙ long) (c.renew_all.auto.ports ∙ long) in
    subst (λ (ps : List Port). All (λ p. IsPrefix (seen c.renew_all.new.into) (seen p)) ps) (sym whole) c.renew_all.ensures.told
