use Rattle.simt_lowering.proofs.PartingsAt.{parts_at_tests}
use Rattle.simt_lowering.proofs.laws.warps_part_at_tests.Goals as goal

pub returns : goal.returns
returns c = parts_at_tests
