use Rattle.std.proofs.Common.{◌≡◌, length, drop}
use Rattle.asm_text.specs.AsmTexts.{appended}
use Rattle.vx_asm.specs.Listing.{words_of_listed}
use Rattle.vx_asm.proofs.assembly.resolve.Given as goal

abbrev pub invariant-loop-listed : goal.invariant-loop-listed
invariant-loop-listed l =
    (length l.items.items ≡ l.listed-index)
    × (appended l.items.items (words_of_listed l.listing.labels l.listed-index (drop l.listed-index l.listed-items)) ≡ words_of_listed l.listing.labels 0 l.listing.statements.items)
