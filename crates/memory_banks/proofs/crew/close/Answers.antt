use Rattle.std.proofs.Common.{◌≡◌, ℕ, length, get_or, List, arith, sym, subst, ap, ◌∙◌}
use Rattle.std.specs.Slots.{slots_items}
use mathlib.Core.Option.{some}
use lib.ListN.{get_elem?}
use Rattle.memory_banks.specs.Ports.{EndsAs, numbers, opening_of, seen}
use Rattle.memory_banks.proofs.Rows.{same_read, small_row, whole_row}
use Rattle.memory_banks.proofs.Seats.{closes, seen_all, seen_legal, seen_ports}
use Rattle.memory_banks.proofs.crew.close.Goals as goal

pub read_into-requires-clause-small : goal.read_into-requires-clause-small
read_into-requires-clause-small c k w at =
    let t = c.close_with-closed in
    let p = c.args.port in
    let done = closes (opening_of c.args.banks) p.seat.id p.seat.me.0 (slots_items t.result.words) (slots_items t.result.slots) t.ensures.values.2 in
    small_row done.0 k w done.3 (subst (λ (ws : List ℕ). get_elem? ws k ≡ some w) done.2 at)

pub returns-clause-history : goal.returns-clause-history
returns-clause-history c =
    let t = c.close_with-closed in
    let p = c.args.port in
    let done = closes (opening_of c.args.banks) p.seat.id p.seat.me.0 (slots_items t.result.words) (slots_items t.result.slots) t.ensures.values.2 in
    let row : List ℕ = done.0 in
    let lent = c.as_mut_slice.ensures in
    let long : length c.as_mut_slice.result.now ≡ length c.out.inside.items.items = ap (λ (ws : List ℕ). length ws) lent.value in
    let kept : length c.read_into.new.out ≡ length c.as_mut_slice.result.now = c.read_into.auto.out in
    let given : length c.out.inside.items.items ≡ length (opening_of c.args.banks) = ap (λ (ws : List ℕ). length ws) c.out.view_is ∙ c.requires.out in
    let whole = whole_row c.out.inside.items.len c.out.inside.items.items c.read_into.new.out (sym lent.len ∙ long) (kept ∙ long) in
    let sized : length row ≡ length (opening_of c.args.banks) = done.4 in
    let read : c.read_into.new.out ≡ row = same_read c.read_into.new.out row (omega arith)
    (λ k within. subst (λ (ws : List ℕ). get_elem? ws k ≡ some (get_or c.read_into.new.out k 0)) done.2 (c.read_into.ensures k (omega arith))) in
    let known : EndsAs (opening_of c.args.banks) (numbers p) (seen p) row = subst (λ (n : ℕ). EndsAs (opening_of c.args.banks) n (seen p) row) p.numbers_are done.1 in
    subst (EndsAs (opening_of c.args.banks) (numbers p) (seen p)) (sym (whole ∙ read)) known

pub returns-clause-legal : goal.returns-clause-legal
returns-clause-legal c =
    let t = c.close_with-closed in
    let p = c.args.port in
    let done = closes (opening_of c.args.banks) p.seat.id p.seat.me.0 (slots_items t.result.words) (slots_items t.result.slots) t.ensures.values.2 in
    seen_legal (opening_of c.args.banks) p.seat.me.0.numbers (seen p) done.0 done.1

pub returns-clause-ports : goal.returns-clause-ports
returns-clause-ports c =
    let t = c.close_with-closed in
    let p = c.args.port in
    let done = closes (opening_of c.args.banks) p.seat.id p.seat.me.0 (slots_items t.result.words) (slots_items t.result.slots) t.ensures.values.2 in
    seen_ports (opening_of c.args.banks) p.seat.me.0.numbers (seen p) done.0 done.1

pub returns-clause-words : goal.returns-clause-words
returns-clause-words c all =
    let p = c.args.port in
    seen_all (opening_of c.args.banks) (numbers p) (seen p) _ all.others (returns-clause-history c)
