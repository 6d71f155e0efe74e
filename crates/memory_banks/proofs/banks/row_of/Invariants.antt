use Rattle.std.proofs.Common.{◌≡◌, ◌≤◌, ◌+◌, length, take}
use Rattle.std.specs.Vec.{vec_capacity}
use Rattle.memory_banks.proofs.banks.row_of.Given as goal

abbrev pub invariant-loop-word : goal.invariant-loop-word
invariant-loop-word l = record {
  items : l.row.items ≡ take l.word-index l.words;
  room : length l.words + 1 ≤ vec_capacity l.row;
}
