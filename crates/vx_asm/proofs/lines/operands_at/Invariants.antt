use Rattle.std.proofs.Common.{◌≡◌, drop}
use Rattle.asm_text.specs.AsmLines.{parts_at, operands_at}
use Rattle.vx_asm.proofs.lines.operands_at.Given as goal

abbrev pub invariant-loop-part : goal.invariant-loop-part
invariant-loop-part l = parts_at (drop l.part-index l.parts) l.statement l.rest ≡ operands_at l.fn.mnemonic l.bytes
