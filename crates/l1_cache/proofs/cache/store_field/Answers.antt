use Rattle.std.proofs.Common.{sym, subst, arith}
use Rattle.vx_base.specs.declared.types.Size.{Size}
use Rattle.l1_cache.specs.Accesses.{CarriesChange}
use Rattle.l1_cache.specs.Lines.{change_of}
use Rattle.l1_cache.proofs.Carrying.{carries_byte, carries_half, carries_word}
use Rattle.l1_cache.proofs.cache.store_field.Goals as goal

pub returns-in-One-clause-stored : goal.returns-in-One-clause-stored
returns-in-One-clause-stored g c =
    let number = g.B.Bus.number c.args.bus.now in
    let done = carries_byte g.B.Bus.acts number c.args.address c.args.value c.args.bus.now c.store_part.new.bus (omega arith) c.store_part.ensures.stored in
    subst (λ (s : Size). CarriesChange g.B.Bus.acts number (change_of c.args.address s c.args.value) c.args.bus.now c.store_part.new.bus) (sym c.in-One.is) done

pub returns-in-Two-clause-stored : goal.returns-in-Two-clause-stored
returns-in-Two-clause-stored g c =
    let number = g.B.Bus.number c.args.bus.now in
    let done = carries_half g.B.Bus.acts number c.args.address c.args.value c.args.bus.now c.store_part-in-Two.new.bus (omega arith) c.store_part-in-Two.ensures.stored in
    subst (λ (s : Size). CarriesChange g.B.Bus.acts number (change_of c.args.address s c.args.value) c.args.bus.now c.store_part-in-Two.new.bus) (sym c.in-Two.is) done

pub returns-in-Four-clause-stored : goal.returns-in-Four-clause-stored
returns-in-Four-clause-stored g c =
    let number = g.B.Bus.number c.args.bus.now in
    let done = carries_word g.B.Bus.acts number c.args.address c.args.value c.args.bus.now c.store.new.self c.store.ensures.acts in
    subst (λ (s : Size). CarriesChange g.B.Bus.acts number (change_of c.args.address s c.args.value) c.args.bus.now c.store.new.self) (sym c.in-Four.is) done
