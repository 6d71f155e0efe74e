use Rattle.std.proofs.Common.{get_or, ◌≡◌, ◌<◌, All, length, map, take, List, arith, sym, subst, ap, ◌∙◌}
use Rattle.std.proofs.lemmas.List.{take_all}
use Rattle.std.proofs.lemmas.List.Elements.{All-push, All-weaker}
use Rattle.memory_banks.specs.declared.port.Port.{Port}
use Rattle.memory_banks.specs.Ports.{IsRenewed, KeptIn, held_set, numbers, union}
use Rattle.memory_banks.proofs.PortLaws.{KeptIn-trans, union-push}
use Rattle.memory_banks.proofs.Rows.{front_more, read_same, row_more, row_rest}
use Rattle.memory_banks.proofs.crew.hand_over_all.Goals as goal

pub loop-at-preserved : goal.loop-at-preserved
loop-at-preserved c =
    let before = c.loop-at.invariant in
    let step = c.hand_over.ensures in
    let first : List Port = c.args.ports.now in
    let now : List Port = c.loop-at.ports in
    let at = c.loop-at.at in
    let y : Port = c.hand_over.new.self in
    let within : at < length now = omega (arith, c.loop-at-test.true, c.loop-at.auto.ports) in
    let x : Port = get_or now at c.index-ports-at.result in
    let is : x ≡ get_or now at x = read_same now at c.index-ports-at.result x within in
    let inside : at < length first = omega (arith, c.loop-at-test.true) in
    let front = front_more first now at x y within is before.rest inside in
    record {
      of = step.of;
      same = step.number ∙ before.same;
      joined = step.numbers ∙ (union-push held_set (numbers c.args.into.now) (take at first) x (numbers c.loop-at.into) before.joined ∙ ap (λ (ps : List Port). union (numbers c.args.into.now) (map held_set ps)) (sym front));
      kept = KeptIn-trans (numbers c.args.into.now) c.args.into.now c.loop-at.into c.hand_over.new.into before.kept step.kept.0;
      lists = subst (λ (ps : List Port). All (λ p. KeptIn (held_set p) p c.hand_over.new.into) ps) (sym front)
          (All-push (λ (p : Port). KeptIn (held_set p) p c.hand_over.new.into) (take at first) x
          (All-weaker (λ (p : Port). KeptIn (held_set p) p c.loop-at.into) (λ (p : Port). KeptIn (held_set p) p c.hand_over.new.into)
          (λ p kept. KeptIn-trans (held_set p) p c.loop-at.into c.hand_over.new.into kept step.kept.0) (take at first) before.lists)
          step.kept.1);
      renewed = row_more first now at x y within is before.rest (IsRenewed c.args.banks.now) before.renewed step.renewed.0;
      rest = row_rest first now at x y within is before.rest;
    }

pub returns-clause-lists : goal.returns-clause-lists
returns-clause-lists c =
    let whole : take c.loop-at.at c.args.ports.now ≡ c.args.ports.now = take_all c.loop-at.at c.args.ports.now (omega (arith, c.loop-at-test.false)) in
    subst (λ (ps : List Port). All (λ p. KeptIn (held_set p) p c.loop-at.into) ps) whole c.loop-at.invariant.lists
