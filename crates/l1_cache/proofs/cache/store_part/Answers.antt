use Rattle.std.proofs.Common.{◌%◌}
use Rattle.l1_cache.proofs.Apart.{apart_part, same_bits}
use Rattle.l1_cache.proofs.cache.store_part.Goals as goal

pub store_part-requires-clause-apart : goal.store_part-requires-clause-apart
store_part-requires-clause-apart g c = apart_part (c.args.address % 4) c.args.value c.args.size _ c.field_bits-bits.ensures

pub returns-clause-stored : goal.returns-clause-stored
returns-clause-stored g c = same_bits _ _ _ (c.args.address % 4) c.args.value c.args.size _ _ _ c.field_bits-bits.ensures c.store_part.ensures.acts
