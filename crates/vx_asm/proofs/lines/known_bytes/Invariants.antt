use Rattle.std.proofs.Common.{◌≡◌, drop, max}
use Rattle.asm_text.specs.Mnemonics.{all_mnemonics}
use Rattle.asm_text.specs.AsmLines.{known_bytes}
use Rattle.vx_asm.proofs.lines.known_bytes.Given as goal

abbrev pub invariant-loop-mnemonic : goal.invariant-loop-mnemonic
invariant-loop-mnemonic l = known_bytes l.word all_mnemonics ≡ max (known_bytes l.word (drop l.mnemonic-index all_mnemonics)) l.most
