use Rattle.std.proofs.Common.{rules}
use Rattle.ocl_norm.proofs.Reading.{builtin_is}
use Rattle.ocl_norm.proofs.occurrences.+branches.Goals as goal

pub branches-returns-in-Builtin : goal.branches-returns-in-Builtin
branches-returns-in-Builtin t c = rw (builtin_is _ _ _ _ _ c.in-Builtin.is c.as_slice.ensures.value) (search rules)
