use Rattle.std.proofs.Common.{◌≡◌, ◌≤◌, length}
use Rattle.asm_text.specs.Lines.{lines}
use Rattle.asm_text.specs.HexLines.{hex_words_from, hex_words_of}
use Rattle.asm_text.proofs.HexLaws.{with_front}
use Rattle.asm_text.proofs.hexadecimal.hex_words.Given as goal

abbrev pub invariant-loop-rest : goal.invariant-loop-rest
invariant-loop-rest l = (l.number ≤ 65537) × (with_front l.items.items (hex_words_from l.number (lines l.rest)) ≡ hex_words_of l.text)

abbrev pub decreases-loop-rest : goal.decreases-loop-rest
decreases-loop-rest l = length l.rest
