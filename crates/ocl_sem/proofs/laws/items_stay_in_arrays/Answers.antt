use Rattle.ocl_sem.proofs.InArrays.{stays_in_arrays}
use Rattle.ocl_sem.proofs.laws.items_stay_in_arrays.Goals as goal

pub returns : goal.returns
returns c = stays_in_arrays
