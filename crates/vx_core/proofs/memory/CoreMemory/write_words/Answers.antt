use Rattle.std.proofs.Common.{refl}
use Rattle.vx_core.proofs.CountingLaws.{counts_all}
use Rattle.vx_core.proofs.memory.CoreMemory.write_words.Goals as goal

pub returns-clause-written : goal.returns-clause-written
returns-clause-written g c =
    let wrote = c.write.ensures.written in
    let all = counts_all g.B.Bus.acts _ wrote.entries c.write.new.bus wrote.made in
    record {
      aligned = c.requires.aligned;
      written = record { entries = wrote.entries; made = all.made; written = wrote.written };
      counted = all.counted;
      same_scratch = refl;
      same_policy = refl;
    }
