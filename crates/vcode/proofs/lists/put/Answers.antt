use Rattle.std.proofs.Common.{ap, ◌∙◌}
use Rattle.vcode.specs.Shapes.{onto}
use Rattle.vcode.proofs.Putting.{onto_push}
use Rattle.vcode.proofs.lists.put.Goals as goal

pub returns : goal.returns
returns c = λ c'. ap (λ xs. onto xs c') c.in_ok-push.ensures.items ∙ onto_push c.args.ops.now.items c.args.op c'
