use Rattle.std.specs.Prelude.{ℕ, ◌+◌, ◌-◌, ◌^◌, ◌≤◌, min}

-- one more, up to the greatest number of 64 bits
abbrev pub next_count : ℕ → ℕ
next_count n = min (n + 1) (2 ^ 64 - 1)

-- A count has risen. One that stands at the end of its 64 bits counts as risen.
abbrev pub Rose : ℕ → ℕ → Type 0
Rose before now = next_count before ≤ now
