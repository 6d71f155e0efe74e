use Rattle.std.proofs.Common.{◌≤◌, length, arith}
use Rattle.std.specs.Char.{is_digit}
use Rattle.std.proofs.lemmas.List.{length-take-le}
use Rattle.std.proofs.lemmas.List.Sums.{prefix_len-le-length}
use Rattle.vx_asm.proofs.Digits.{short_fits}
use Rattle.vx_asm.proofs.parts.digits_at.Goals as goal

pub slice_bounds-value_of-end : goal.slice_bounds-value_of-end
slice_bounds-value_of-end c =
    let within = prefix_len-le-length (λ d. is_digit d c.args.base) c.args.bytes.now in
    let fits : c.min-len.result ≤ length c.args.bytes.now = omega arith in
    omega (arith, length-take-le c.min-len.result c.args.bytes.now fits)

pub value_of-requires-clause-fits : goal.value_of-requires-clause-fits
value_of-requires-clause-fits c = rw c.from.ensures (short_fits c.args.base c.min-len.result c.args.bytes.now c.requires (omega arith) (omega arith))
