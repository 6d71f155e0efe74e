use Rattle.std.proofs.Common.{◌≡◌, ◌+◌, ◌<◌, ◌≤◌, ◌^◌, ap, sym, ◌∙◌, length, arith}
use Rattle.simt_lowering.specs.Lowered.{scalars_end}
use Rattle.simt_lowering.proofs.Fitting.{body_is, scalars_fit}
use Rattle.simt_lowering.proofs.lowering.body_start.Goals as goal

pub overflow_add-result : goal.overflow_add-result
overflow_add-result c =
    let params = c.args.params.now in
    let e : c.scalars_end.result ≡ scalars_end params (c.args.registers + 15) = c.scalars_end.ensures in
    let h : scalars_end params (c.args.registers + 15) ≤ c.args.registers + 15 + length params = scalars_fit params (c.args.registers + 15) in
    let low : c.args.registers + length params + 44 < 2 ^ 32 = c.requires.fits in
    omega (arith, e, h, low)

pub returns : goal.returns
returns c = ap (λ p. p + 29) c.scalars_end.ensures ∙ sym (body_is c.args.params.now c.args.registers)
