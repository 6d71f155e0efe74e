use Rattle.simt_lowering.proofs.LanesWithoutItems.{without_items}
use Rattle.simt_lowering.proofs.laws.lanes_without_items_end.Goals as goal

pub returns : goal.returns
returns c = without_items
