use Rattle.std.proofs.Common.{refl, arith, ap, ◌∙◌}
use Rattle.memory_banks.specs.declared.rule.View.{View}
use Rattle.memory_banks.proofs.Sets.{among_one, one_below, without_below}
use Rattle.memory_banks.proofs.SetOrder.{alone_without, back, in_order-least, least_other, own_stays}
use Rattle.memory_banks.proofs.PortLaws.{least_held, least_held_below, least_is, left_is, may_give, more, number_below, one_given}
use Rattle.memory_banks.proofs.Steps.{Seated}
use Rattle.memory_banks.proofs.port.Port.give.Goals as goal

pub overflow_shl-held : goal.overflow_shl-held
overflow_shl-held c = omega (arith, number_below c.args.self.now)

pub split_seat-seat-requires : goal.split_seat-seat-requires
split_seat-seat-requires c = may_give c.args.self.now c.requires.some c.args.banks.now c.requires.of

pub overflow_shl-self : goal.overflow_shl-self
overflow_shl-self c = let low = least_held_below c.args.self.now c.requires.some in omega arith

pub invariant_of-self : goal.invariant_of-self
invariant_of-self c =
    let me = c.args.self.now in
    let m = more me c.requires.some in
    let left = ap (λ (s : Seated). s.0) c.split_seat-seat.ensures.2 in
    record {
      number_is = ap (λ (v : View). v.number) left ∙ me.number_is;
      numbers_are = ap (λ (v : View). v.numbers) left ∙ left_is me c.requires.some;
      settled = ap (λ (v : View). v.told_numbers) left;
      no_slot = ap (λ (s : Seated). s.1) c.split_seat-seat.ensures.2 ∙ me.no_slot;
      own = own_stays me.numbers me.number me.few me.own m;
      few = without_below me.numbers (least_held me c.requires.some) me.few;
    }

pub overflow_shl-result : goal.overflow_shl-result
overflow_shl-result c = let low = least_held_below c.args.self.now c.requires.some in omega arith

pub invariant_of-result : goal.invariant_of-result
invariant_of-result c =
    let me = c.args.self.now in
    let low = least_held_below me c.requires.some in
    let right = ap (λ (s : Seated). s.0) c.split_seat-seat.ensures.4 in
    record {
      number_is = ap (λ (v : View). v.number) right ∙ least_is me c.requires.some;
      numbers_are = ap (λ (v : View). v.numbers) right ∙ one_given me c.requires.some;
      settled = ap (λ (v : View). v.told_numbers) right;
      no_slot = ap (λ (s : Seated). s.1) c.split_seat-seat.ensures.4;
      own = among_one (least_held me c.requires.some) (omega arith);
      few = one_below (least_held me c.requires.some) low;
    }

pub returns-clause-new : goal.returns-clause-new
returns-clause-new c =
    let me = c.args.self.now in
    let right = ap (λ (s : Seated). s.0) c.split_seat-seat.ensures.4 in
    record {
      of = record { table = c.split_seat-seat.ensures.3 ∙ c.requires.of.table; opening_is = ap (λ (v : View). v.opening) right ∙ c.requires.of.opening_is };
      apart = least_other me.numbers me.number me.few me.own (more me c.requires.some);
      alone = refl;
      holds_none = alone_without (least_held me c.requires.some) (least_held_below me c.requires.some);
      seen_is = ap (λ (v : View). v.seen) right;
    }

pub returns-clause-least : goal.returns-clause-least
returns-clause-least c = let me = c.args.self.now in in_order-least me.numbers me.number me.few me.own (more me c.requires.some)

pub returns-clause-back : goal.returns-clause-back
returns-clause-back c = let me = c.args.self.now in back me.numbers me.number me.few me.own (more me c.requires.some)
