use Rattle.std.proofs.Common.{◌≡◌, take}
use Rattle.vx_disasm.specs.Texts.{lines_text}
use Rattle.vx_disasm.proofs.texts.disassemble.Given as goal

abbrev pub invariant-loop-word : goal.invariant-loop-word
invariant-loop-word l = l.items.items ≡ lines_text (take l.word-index l.words)
