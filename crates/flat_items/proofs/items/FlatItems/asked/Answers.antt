use Rattle.ocl_inline.specs.Shapes.{kernel_of}
use Rattle.flat_items.specs.Views.{flat_state}
use Rattle.flat_items.proofs.Reading.{asked_as}
use Rattle.flat_items.proofs.items.FlatItems.asked.Goals as goal

pub returns : goal.returns
returns c =
    let items = c.args.self.now in
    asked_as c.run.result (kernel_of items.flat.now) items.range items.bounds c.args.item c.args.answers.now c.args.fuel
    c.as_slice.result.now c.as_slice-2.result.now c.as_slice-3.result.now (flat_state c.in_ok-state.state)
    c.as_slice.ensures c.as_slice-2.ensures.value c.as_slice-3.ensures c.in_ok-state.ensures.start c.run.ensures
