use Rattle.std.proofs.Common.{rules}
use Rattle.ocl_norm.proofs.Reading.{builtin_is}
use Rattle.ocl_norm.proofs.occurrences.+calls.Goals as goal

pub calls-returns-in-Builtin : goal.calls-returns-in-Builtin
calls-returns-in-Builtin t c = rw (builtin_is _ _ _ _ _ c.in-Builtin.is c.as_slice.ensures.value) (search rules)
