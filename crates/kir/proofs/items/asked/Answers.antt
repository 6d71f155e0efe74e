use Rattle.kir.specs.Shapes.{code_of}
use Rattle.kir.specs.Views.{state_of}
use Rattle.kir.proofs.RunLaws.{asked_as}
use Rattle.kir.proofs.items.asked.Goals as goal

pub returns : goal.returns
returns c =
    asked_as c.run.result (code_of c.args.code.now) c.args.range c.args.bounds.now c.args.item c.args.answers.now c.args.fuel
    c.as_slice.result.now c.as_slice-2.result.now (state_of c.in_ok-state.state) c.as_slice.ensures c.as_slice-2.ensures.value c.in_ok-state.ensures.start c.run.ensures
