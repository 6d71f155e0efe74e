-- What a table of labels says.
use Rattle.std.specs.Prelude.{ℕ, List, map}
use Rattle.std.specs.Borrow.{Bor}
pub use Rattle.asm_text.specs.AsmTexts.{Labels}

-- the labels of a table whose keys are pieces of the text
abbrev pub labels_in : List (Bor (List ℕ) × ℕ) → Labels
labels_in entries = map (λ e. (e.0.now, e.1)) entries
