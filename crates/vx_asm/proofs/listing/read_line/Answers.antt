use Rattle.std.proofs.Common.{sym}
use Rattle.vx_asm.proofs.FittingLines.{line_fits}
use Rattle.vx_asm.proofs.listing.read_line.Goals as goal

pub returns-clause-fits : goal.returns-clause-fits
returns-clause-fits c = line_fits c.args.number c.args.line.now c.in_ok-said.said (sym c.in_ok-said.ensures) (sym c.in_ok-check_numbers.ensures)
