use Rattle.std.proofs.Common.{arith}
use Rattle.std.proofs.lemmas.Result.{err_from_is_err_and}
use Rattle.asm_text.specs.declared.mnemonics.Part.TheVariants.{Register}
use Rattle.asm_text.specs.AsmLines.{operands_at}
use Rattle.vx_asm.proofs.PartsInTurn.{part_goes_on, part_stops, parts_end}
use Rattle.vx_asm.proofs.lines.operands_at.Goals as goal

pub returns-in_err-more : goal.returns-in_err-more
returns-in_err-more c =
    let p = err_from_is_err_and c.from_residual.result c.from_residual.ensures.1 in
    rw (p.1, p.2) (part_stops c.parts-parts.result.now c.loop-part.part-index Register c.loop-part.statement c.loop-part.rest.now c.past_blanks.result.now c.in_err-more.field-0.0 (operands_at c.args.mnemonic c.args.bytes.now) (omega arith) c.past_blanks.ensures c.in_err-more.ensures c.loop-part.invariant)

pub loop-part-preserved : goal.loop-part-preserved
loop-part-preserved c =
    part_goes_on c.parts-parts.result.now c.loop-part.part-index Register c.loop-part.statement c.in_ok-more.more c.loop-part.rest.now c.past_blanks.result.now c.in_ok-more.behind.now (operands_at c.args.mnemonic c.args.bytes.now) (omega arith) c.past_blanks.ensures c.in_ok-more.ensures c.loop-part.invariant

pub returns : goal.returns
returns c = parts_end c.parts-parts.result.now c.loop-part.part-index c.loop-part.statement c.loop-part.rest.now (operands_at c.args.mnemonic c.args.bytes.now) (omega arith) c.loop-part.invariant
