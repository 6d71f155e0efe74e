use Rattle.std.proofs.Common.{◌≡◌, ◌+◌, ◌≤◌, [], length}
use Rattle.asm_text.specs.Lines.{lines}
use Rattle.asm_text.specs.AsmTexts.{Labels, labels_from, words_from}
use Rattle.vx_asm.specs.Listing.{and_then, words_of_listed}
use Rattle.vx_asm.proofs.listing.list_text.Given as goal

abbrev pub invariant-loop-rest : goal.invariant-loop-rest
invariant-loop-rest l =
    (1 ≤ l.number) × (l.number + length l.rest ≤ 2097153) × (length l.listing.statements.items ≤ 65536)
    × (labels_from l.number (lines l.rest) (length l.listing.statements.items) l.listing.labels ≡ labels_from 1 (lines l.text) 0 [])
    × ((labels : Labels) → and_then (words_of_listed labels 0 l.listing.statements.items) (words_from l.number (lines l.rest) labels (length l.listing.statements.items))
    ≡ words_from 1 (lines l.text) labels 0)

abbrev pub decreases-loop-rest : goal.decreases-loop-rest
decreases-loop-rest l = length l.rest
