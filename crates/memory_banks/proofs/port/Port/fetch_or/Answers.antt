use Rattle.std.proofs.Common.{◌<◌, ◌^◌, ℕ, sym, subst}
use Rattle.memory_banks.specs.declared.entry.BusKind.TheVariants.{FetchOr}
use Rattle.memory_banks.proofs.PortLaws.{may_step}
use Rattle.memory_banks.proofs.port.Port.fetch_or.Goals as goal

pub fetch_or-requires : goal.fetch_or-requires
fetch_or-requires c =
    may_step c.args.banks.now c.args.self.now FetchOr c.args.word c.from.result c.requires.of c.requires.word (subst (λ (n : ℕ). n < 2 ^ 32) (sym c.from.ensures) c.ranges.value.fits)
