-- The laws of this crate, each as a statement.
use Rattle.std.specs.Prelude.{ℕ, ◌<◌, ◌^◌, List, slice_index}
use Rattle.item_acts.specs.declared.acts.Bound.{Bound}
use Rattle.item_acts.specs.declared.acts.Range.{Range}
use Rattle.kir.specs.Machine.{code_setting}
use Rattle.kir.specs.Trees.{KirCode}
use Rattle.kir_flow.specs.Flagging.{flags}
use Rattle.kir.specs.Numbered.{GivesWords}
use Rattle.kir_flow.specs.WithoutJumps.{WithoutJumps}

-- every kernel is kept by flags
abbrev pub FlagsKeep : Type 0
FlagsKeep = (code : KirCode) → WithoutJumps code (flags code)

-- the items of a launch learn words, where its sizes and their numbers are words
abbrev pub ItemsLearnWords : Type 0
ItemsLearnWords = (code : KirCode) (range : Range) (bounds : List Bound) (item : ℕ) → range.dims < 2 ^ 32 → ((d : ℕ) → slice_index range.global d < 2 ^ 32)
    → ((d : ℕ) → slice_index range.local d < 2 ^ 32) → item < 2 ^ 32 → GivesWords (code_setting code range bounds item)
