use Rattle.std.specs.Prelude.{ℕ, zero, suc, ◌+◌, ◌*◌, ◌/◌, ◌%◌, ◌^◌, List, [], ◌∷◌, ◌++◌, take, drop, slice_index}
use Rattle.vx_base.specs.declared.types.Size.{Size}
use Rattle.vx_base.specs.declared.types.Size.TheVariants.{One, Two, Four}

-- how many bytes a field of this size has
abbrev pub bytes_of : Size → ℕ
bytes_of One = 1
bytes_of Two = 2
bytes_of Four = 4

-- byte k of a number, the least significant first
abbrev pub byte_of : ℕ → ℕ → ℕ
byte_of value k = value / 256 ^ k % 256

-- the number whose n bytes are these, the least significant first
abbrev pub number_of : (ℕ → ℕ) → ℕ → ℕ
number_of byte zero = 0
number_of byte (suc n) = byte 0 + 256 * number_of (λ k. byte (suc k)) n

-- the number in the n bytes from a place on
abbrev pub field_of : List ℕ → ℕ → ℕ → ℕ
field_of bytes at n = number_of (λ k. slice_index bytes (at + k)) n

-- the n bytes of a number, the least significant first
abbrev pub number_bytes : ℕ → ℕ → List ℕ
number_bytes value zero = []
number_bytes value (suc n) = value % 256 ∷ number_bytes (value / 256) n

-- the bytes with a number in the n bytes from a place on
abbrev pub with_field : List ℕ → ℕ → ℕ → ℕ → List ℕ
with_field bytes at n value = take at bytes ++ number_bytes value n ++ drop (at + n) bytes
