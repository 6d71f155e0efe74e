use Rattle.std.proofs.Common.{◌≡◌, take}
use Rattle.asm_text.specs.HexLines.{hex_lines}
use Rattle.asm_text.proofs.hexadecimal.hex_text.Given as goal

abbrev pub invariant-loop-word : goal.invariant-loop-word
invariant-loop-word l = l.items.items ≡ hex_lines (take l.word-index l.words)
