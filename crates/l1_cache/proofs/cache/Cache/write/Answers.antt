use Rattle.l1_cache.proofs.Carrying.{writes_bare}
use Rattle.l1_cache.proofs.cache.Cache.write.Goals as goal

pub returns-clause-written : goal.returns-clause-written
returns-clause-written g c =
    writes_bare g.B.Bus.acts (g.B.Bus.number c.args.bus.now) c.args.address c.args.size c.args.value c.args.self.now.sets c.args.self.now.hits c.args.self.now.misses c.args.bus.now c.store_field.new.bus c.store_field.ensures.stored
