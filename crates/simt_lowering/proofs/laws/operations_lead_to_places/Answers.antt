use Rattle.simt_lowering.proofs.Leading.{leads_to_places}
use Rattle.simt_lowering.proofs.laws.operations_lead_to_places.Goals as goal

pub returns : goal.returns
returns c = leads_to_places
