use Rattle.std.proofs.Common.{refl}
use Rattle.vx_core.proofs.CountingLaws.{counts_all}
use Rattle.vx_core.proofs.memory.CoreMemory.read_words.Goals as goal

pub returns-clause-read : goal.returns-clause-read
returns-clause-read g c =
    let read = c.read.ensures.read in
    let all = counts_all g.B.Bus.acts _ read.entries c.read.new.bus read.made in
    record {
      aligned = c.requires.aligned;
      read = record { entries = read.entries; made = all.made; read = read.read };
      counted = all.counted;
      same_scratch = refl;
    }
