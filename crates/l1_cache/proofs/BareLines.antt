-- A cache without ways and without room is as it was behind a write.
use Rattle.std.proofs.Common.{◌≡◌, ℕ, ◌/◌, ◌%◌, List, [], get_or, map, replicate, set, ap, sym, ◌∙◌, inl, inr, arith}
use Rattle.std.proofs.lemmas.Bool.{cases_lt}
use Rattle.std.proofs.lemmas.List.{get_or-replicate, get_or_past, length-replicate, set-get_or}
use Rattle.l1_cache.specs.Lines.{Change, Line, bare_lines, changed_line, with_change}

-- lists of so many sets, none of which has a line
abbrev empty_sets : ℕ → List (List Line)
empty_sets n = replicate n []

no_line : (n k : ℕ) → get_or (empty_sets n) k [] ≡ []
no_line n k =
    elim (cases_lt k n) [
      | inl within ↦ get_or-replicate n k [] [] within
      | inr past ↦ get_or_past (empty_sets n) k [] (omega (arith, length-replicate {A = List Line} n []))
    ]

-- a change changes none of them
pub bare-change : (sets hits misses : ℕ) (c : Change) → with_change c (bare_lines sets hits misses) ≡ bare_lines sets hits misses
bare-change sets hits misses c =
    let k : ℕ = c.word / 16 % sets in
    let none : get_or (empty_sets sets) k [] ≡ [] = no_line sets k in
    let changed : map (changed_line c) (get_or (empty_sets sets) k []) ≡ get_or (empty_sets sets) k [] = ap (map (changed_line c)) none ∙ sym none in
    ap (λ (s : List (List Line)). record (bare_lines sets hits misses) { sets = s })
    (ap (set (empty_sets sets) k) changed ∙ set-get_or (empty_sets sets) k [])
