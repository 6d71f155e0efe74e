use Rattle.std.proofs.Common.{◌-◌}
use Rattle.indexmap.specs.IndexMap.{index_map_len}
use Rattle.indexmap.proofs.CallerLemmas.{index_map_len-with_value_at}
use Rattle.ocl_lex.proofs.replacing.set_innermost.Goals as goal

pub returns-in-Some-clause-len : goal.returns-in-Some-clause-len
returns-in-Some-clause-len c = index_map_len-with_value_at c.args.frames.now (index_map_len c.args.frames.now - 1) c.args.parts
