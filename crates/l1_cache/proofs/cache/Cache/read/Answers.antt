use Rattle.std.proofs.Common.{refl}
use Rattle.l1_cache.proofs.Carrying.{reads_bare}
use Rattle.l1_cache.proofs.cache.Cache.read.Goals as goal

pub returns-clause-read : goal.returns-clause-read
returns-clause-read g c =
    reads_bare g.B.Bus.acts g.E.Evictor.evicts (g.B.Bus.number c.args.bus.now) c.args.address c.args.size c.args.self.now.sets c.args.self.now.hits c.args.self.now.misses c.args.bus.now c.load-word.new.self c.args._evict.now c.args._evict.now c.load-word.result c.part_of.result c.load-word.ensures.acts c.part_of.ensures refl
