use Rattle.program_laws.proofs.Limits.{kernels_small, callees_small, sites_few}
use Rattle.program_laws.proofs.laws.kernels_are_small.Goals as goal

pub returns : goal.returns
returns c = record { kernels = kernels_small; callees = callees_small; sites = sites_few }
