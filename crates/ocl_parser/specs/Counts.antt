-- Numbers as they are kept.
use Rattle.std.specs.Prelude.{ℕ, min}

-- a number, or the greatest of 32 bits where it is greater
abbrev pub kept : ℕ → ℕ
kept n = min n 4294967295
