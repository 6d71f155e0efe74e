use Rattle.program_launches.proofs.Keeping.{launches_keep_to_arrays, unchanged_are_constant}
use Rattle.program_launches.proofs.laws.launches_keep_to_arrays.Goals as goal

pub returns : goal.returns
returns c = record { keep = launches_keep_to_arrays; unchanged = unchanged_are_constant }
