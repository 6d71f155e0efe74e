use Rattle.std.proofs.Common.{ℕ, [], ◌∷◌, ◌++◌, All, length, map, List, arith, sym, subst, ap, ◌∙◌}
use Rattle.std.proofs.lemmas.List.{map_push, length_push}
use Rattle.std.proofs.lemmas.List.Elements.{All-push}
use Rattle.memory_banks.specs.declared.port.Port.{Port}
use Rattle.memory_banks.specs.Ports.{IsNew, held, number, numbers, union}
use Rattle.memory_banks.proofs.Rows.{taken_more, union-front}
use Rattle.memory_banks.proofs.crew.ports.Goals as goal

pub loop-made-preserved : goal.loop-made-preserved
loop-made-preserved c =
    let before = c.loop-made.invariant in
    let step = c.give.ensures in
    let items = c.push_reserved.ensures.items in
    let first = c.args.port.now in
    let old : List Port = c.loop-made.items.items in
    let more = taken_more (held first) c.loop-made.made (number c.give.result) (held c.give.new.self) (sym before.left ∙ step.least) in
    record {
      same = record { of = step.same.of; number_is = step.same.number_is ∙ before.same.number_is; seen_is = step.same.seen_is ∙ before.same.seen_is };
      room = omega (arith, before.room, c.push_reserved.ensures.capacity);
      count = ap (λ (ps : List Port). length ps) items ∙ omega (arith, before.count, length_push old c.give.result);
      taken = ap (map number) items ∙ (map_push number old c.give.result ∙ (ap (λ (ns : List ℕ). ns ++ number c.give.result ∷ []) before.taken ∙ sym more.0));
      left = sym more.1;
      new = subst (λ (ps : List Port). All (λ p. IsNew c.args.banks.now first p) ps) (sym items)
          (All-push (λ (p : Port). IsNew c.args.banks.now first p) old c.give.result before.new
          (record { of = step.new.of; apart = λ same. step.new.apart (same ∙ sym before.same.number_is); alone = step.new.alone; holds_none = step.new.holds_none; seen_is = step.new.seen_is ∙ before.same.seen_is }));
      back = ap (λ (ps : List Port). union (numbers c.give.new.self) (map numbers ps)) items
          ∙ (ap (union (numbers c.give.new.self)) (map_push numbers old c.give.result)
          ∙ (union-front (numbers c.give.new.self) (map numbers old) (numbers c.give.result)
          ∙ (ap (λ (n : ℕ). union n (map numbers old)) step.back ∙ before.back)));
    }
