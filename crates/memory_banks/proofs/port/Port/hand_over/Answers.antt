use Rattle.std.proofs.Common.{◌≡◌, ℕ, List, arith, sym, subst, ap, ◌∙◌, refl}
use Rattle.memory_banks.specs.declared.rule.View.{View}
use Rattle.memory_banks.proofs.Sets.{among_one, one_below}
use Rattle.memory_banks.proofs.SetOrder.{alone_without}
use Rattle.memory_banks.proofs.PortLaws.{may_hand_over, number_below}
use Rattle.memory_banks.proofs.Steps.{Seated}
use mathlib.Core.List.{IsPrefix}
use Rattle.memory_banks.specs.declared.entry.BusEntry.{BusEntry}
use Rattle.memory_banks.specs.Entries.{entries_of}
use Rattle.memory_banks.specs.Rule.{Among, one_of}
use Rattle.memory_banks.specs.Ports.{held_set, seen}
use Rattle.memory_banks.proofs.Sets.{among_right}
use Rattle.memory_banks.proofs.port.Port.hand_over.Goals as goal

pub overflow_shl-held : goal.overflow_shl-held
overflow_shl-held c = omega (arith, number_below c.args.self.now)

pub split_seat-rest-requires : goal.split_seat-rest-requires
split_seat-rest-requires c = may_hand_over c.args.banks.now c.args.self.now c.requires.of.0

pub overflow_shl-self : goal.overflow_shl-self
overflow_shl-self c = omega (arith, number_below c.args.self.now)

pub invariant_of-self : goal.invariant_of-self
invariant_of-self c =
    let me = c.args.self.now in
    let low = number_below me in
    let left = ap (λ (s : Seated). s.0) c.split_seat-rest.ensures.2 in
    record {
      number_is = ap (λ (v : View). v.number) left ∙ me.number_is;
      numbers_are = ap (λ (v : View). v.numbers) left ∙ ap one_of me.number_is;
      settled = ap (λ (v : View). v.told_numbers) left;
      no_slot = ap (λ (s : Seated). s.1) c.split_seat-rest.ensures.2 ∙ me.no_slot;
      own = among_one me.number (omega arith);
      few = one_below me.number low;
    }

pub returns-clause-renewed : goal.returns-clause-renewed
returns-clause-renewed c =
    let me = c.args.self.now in
    let left = ap (λ (s : Seated). s.0) c.split_seat-rest.ensures.2 in (
      record {
        of = record { table = c.split_seat-rest.ensures.0 ∙ c.requires.of.0.table; opening_is = ap (λ (v : View). v.opening) left ∙ c.requires.of.0.opening_is };
        number_is = refl;
        alone = refl;
        holds_none = alone_without me.number (number_below me);
        list = ap (λ (v : View). entries_of me.number v.seen) left;
      },
      ap (λ (v : View). v.seen) left,
    )

pub returns-clause-kept : goal.returns-clause-kept
returns-clause-kept c =
    let me = c.args.self.now in
    let right : c.split_seat-rest.result.me.0.seen ≡ seen me = ap (λ (s : Seated). s.0.seen) c.split_seat-rest.ensures.4 in (
      c.take.ensures.kept,
      record {
        has = λ k among. subst (λ (n : ℕ). Among n k) (sym c.take.ensures.numbers) (among_right c.args.into.now.numbers (held_set me) k among);
        begins = subst (λ (es : List BusEntry). IsPrefix es (seen c.take.new.self)) right c.take.ensures.begins;
        lists = λ k among. c.take.ensures.lists k among ∙ ap (entries_of k) right;
      },
    )
