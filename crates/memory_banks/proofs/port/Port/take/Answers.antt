use Rattle.std.proofs.Common.{bit_or, ℕ, arith, sym, subst, ap, ◌∙◌}
use Rattle.std.proofs.lemmas.Nat.{or_lt}
use Rattle.memory_banks.specs.declared.rule.View.{View}
use Rattle.memory_banks.specs.Rule.{Among}
use Rattle.memory_banks.proofs.Sets.{among_left}
use Rattle.memory_banks.proofs.PortLaws.{looked, own_among}
use Rattle.memory_banks.proofs.Steps.{looks, Seated}
use Rattle.memory_banks.proofs.Seats.{takes}
use Rattle.memory_banks.proofs.port.Port.take.Goals as goal

pub join_seat-requires : goal.join_seat-requires
join_seat-requires c =
    let shared = c.args.banks.now.table.shared in
    let me = c.args.self.now in
    (c.requires.of.0.table, c.requires.of.1, c.requires.seat.1, omega (arith, c.args.banks.now.one_more), takes shared.key me.seat.id me.seat.me.0 c.args.seat.id c.args.seat.me.0 (own_among me))

pub load-requires : goal.load-requires
load-requires c =
    let shared = c.args.banks.now.table.shared in
    let joined = c.join_seat.new.seat in
    (c.join_seat.ensures.0 ∙ c.requires.of.0.table, omega (arith, c.args.banks.now.one_more), looks shared.key shared.table_id.slots joined.id joined.me)

pub invariant_of-self : goal.invariant_of-self
invariant_of-self c =
    let me = c.args.self.now in
    let told = looked me.seat.me.0 c.args.seat.me.0 c.join_seat.new.seat.me.0 c.load.new.seat.me.0 (ap (λ (m : Seated). m.0) c.join_seat.ensures.2) c.load.ensures.2.0 in
    record {
      number_is = ap (λ (v : View). v.number) told.rest ∙ me.number_is;
      numbers_are = ap (λ (v : View). v.numbers) told.rest ∙ (λ i. bit_or (me.numbers_are i) (c.requires.seat.0 i));
      settled = ap (λ (v : View). v.told_numbers) told.rest;
      no_slot = c.load.ensures.2.1 ∙ (ap (λ (m : Seated). m.1) c.join_seat.ensures.2 ∙ me.no_slot);
      own = among_left me.numbers c.args.set me.number me.own;
      few = or_lt 16 me.numbers c.args.set me.few c.requires.seat.2;
    }

pub returns-clause-kept : goal.returns-clause-kept
returns-clause-kept c =
    let me = c.args.self.now in
    let told = looked me.seat.me.0 c.args.seat.me.0 c.join_seat.new.seat.me.0 c.load.new.seat.me.0 (ap (λ (m : Seated). m.0) c.join_seat.ensures.2) c.load.ensures.2.0 in
    record {
      has = λ k among. among_left me.numbers c.args.set k among;
      begins = told.begins;
      lists = λ k among. told.own k (subst (λ (n : ℕ). Among n k) (sym me.numbers_are) among);
    }
