use Rattle.std.proofs.Common.{get_or, ◌≡◌, ◌<◌, ℕ, length, List, arith, subst, ap, ◌∙◌}
use mathlib.Core.List.{IsPrefix}
use Rattle.memory_banks.specs.declared.entry.BusEntry.{BusEntry}
use Rattle.memory_banks.specs.declared.port.Port.{Port}
use Rattle.memory_banks.specs.Entries.{entries_of}
use Rattle.memory_banks.specs.Ports.{StandsAs, number, seen}
use Rattle.memory_banks.proofs.Rows.{read_same, row_more, row_rest}
use Rattle.memory_banks.proofs.crew.tell_all.Goals as goal

pub loop-at-preserved : goal.loop-at-preserved
loop-at-preserved c =
    let before = c.loop-at.invariant in
    let step = c.tell.ensures in
    let first : List Port = c.args.ports.now in
    let now : List Port = c.loop-at.ports in
    let at = c.loop-at.at in
    let y : Port = c.tell.new.port in
    let within : at < length now = omega (arith, c.loop-at-test.true, c.loop-at.auto.ports) in
    let x : Port = get_or now at c.index-ports-at.result in
    let is : x ≡ get_or now at x = read_same now at c.index-ports-at.result x within in
    record {
      same = record { of = step.same.0.of; number_is = step.same.0.number_is ∙ before.same.number_is; seen_is = step.same.0.seen_is ∙ before.same.seen_is };
      whole = step.same.1 ∙ before.whole;
      told = row_more first now at x y within is before.rest (λ p q. IsPrefix (seen c.args.from.now) (seen q)) before.told (subst (λ (es : List BusEntry). IsPrefix es (seen y)) before.same.seen_is step.told);
      stands = row_more first now at x y within is before.rest (StandsAs c.args.banks.now) before.stands (record {
        of = step.of;
        number_is = step.numbers.0;
        numbers_are = step.numbers.1;
        list = ap (λ (n : ℕ). entries_of n (seen y)) step.numbers.0 ∙ step.kept.lists (number x) x.own;
      });
      rest = row_rest first now at x y within is before.rest;
    }
