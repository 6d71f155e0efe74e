use Rattle.std.proofs.Common.{◌<◌, ◌^◌, ℕ, sym, subst}
use Rattle.memory_banks.specs.declared.entry.BusKind.TheVariants.{FetchAnd}
use Rattle.memory_banks.proofs.PortLaws.{may_step}
use Rattle.memory_banks.proofs.port.Port.fetch_and.Goals as goal

pub fetch_and-requires : goal.fetch_and-requires
fetch_and-requires c =
    may_step c.args.banks.now c.args.self.now FetchAnd c.args.word c.from.result c.requires.of c.requires.word (subst (λ (n : ℕ). n < 2 ^ 32) (sym c.from.ensures) c.ranges.keep.fits)
