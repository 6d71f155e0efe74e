use Rattle.std.proofs.Common.{ap, ◌∙◌, ◌∷◌}
use Rattle.kir.specs.Shapes.{ops_of}
use Rattle.kir.specs.Trees.{NumberOf}
use Rattle.vcode.specs.Code.{Tmc}
use Rattle.vcode.specs.Shapes.{onto}
use Rattle.vcode.proofs.Putting.{made_of}
use Rattle.simt_lowering.specs.Lowered.{body_start, lowered}
use Rattle.simt_lowering.specs.Views.{known_in, opening}
use Rattle.simt_lowering.proofs.lowering.kernel_ops.Goals as goal

pub returns : goal.returns
returns c =
    let known = known_in c.args.known.now in
    let ops = ops_of c.args.ops.now in
    let start = body_start known.params c.args.registers in
    made_of c.new-out.result.items c.put.new.ops.items (λ c'. opening known c.args.registers (lowered known 0 ops start (Tmc (NumberOf 0) ∷ c'))) c.new-out.ensures.items
    (λ c'. c.in_ok-put.ensures c' ∙ c.in_ok-put_ops.ensures (Tmc (NumberOf 0) ∷ c')
    ∙ ap (λ q. onto c.put_opening.new.out.items (lowered known 0 ops q (Tmc (NumberOf 0) ∷ c'))) c.body_start-place.ensures
    ∙ c.in_ok-put_opening.ensures (lowered known 0 ops start (Tmc (NumberOf 0) ∷ c')))
