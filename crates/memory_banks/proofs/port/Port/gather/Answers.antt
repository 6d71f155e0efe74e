use Rattle.std.proofs.Common.{ℕ, sym, subst}
use Rattle.memory_banks.specs.Rule.{Among}
use Rattle.memory_banks.proofs.Sets.{among_right}
use Rattle.memory_banks.proofs.port.Port.gather.Goals as goal

pub returns-clause-kept : goal.returns-clause-kept
returns-clause-kept c =
    let other = c.args.other in (
      c.take.ensures.kept,
      record {
        has = λ k among. subst (λ (n : ℕ). Among n k) (sym c.take.ensures.numbers) (among_right c.args.self.now.numbers other.numbers k among);
        begins = c.take.ensures.begins;
        lists = c.take.ensures.lists;
      },
    )
