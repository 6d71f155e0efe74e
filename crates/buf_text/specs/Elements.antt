-- The bytes of words, and what it is to put bytes into words.
use Rattle.std.specs.Prelude.{◌≡◌, ℕ, ◌+◌, ◌/◌, ◌%◌, ◌<◌, ◌≤◌, ◌⊎◌, List, length, slice_index}
use Rattle.vx_base.specs.Bytes.{byte_of}

-- byte k of some words, the least significant byte of each word first
abbrev pub byte_in : List ℕ → ℕ → ℕ
byte_in words k = byte_of (slice_index words (k / 4)) (k % 4)

-- The words have these bytes from a place on, and are else as they were.
pub record HasBytes (bytes : List ℕ) (at : ℕ) (old new : List ℕ) : Type 0 where
  pub many : length new ≡ length old
  pub inside : (k : ℕ) → k < length bytes → byte_in new (at + k) ≡ slice_index bytes k
  pub outside : (k : ℕ) → (k < at) ⊎ (at + length bytes ≤ k) → byte_in new k ≡ byte_in old k
