use Rattle.std.proofs.Common.{◌<◌, ◌^◌, ℕ, sym, subst}
use Rattle.memory_banks.specs.declared.entry.BusKind.TheVariants.{Store}
use Rattle.memory_banks.proofs.PortLaws.{may_step}
use Rattle.memory_banks.proofs.port.Port.store.Goals as goal

pub store-requires : goal.store-requires
store-requires c =
    let may = may_step c.args.banks.now c.args.self.now Store c.args.word c.from.result c.requires.of c.requires.word (subst (λ (n : ℕ). n < 2 ^ 32) (sym c.from.ensures) c.ranges.value.fits) in
    (may.0, may.1, λ s k count at wide. let r = may.2 s k count at wide in (r.0, r.1, r.2, r.3, (r.4.0, r.4.1)))
