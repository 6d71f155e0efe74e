-- Reading the parts of a statement one after another.
use Rattle.std.proofs.Common.{◌≡◌, ℕ, ◌+◌, ◌<◌, ◌≤◌, List, [], length, drop, refl, sym, ap, ◌∙◌}
use Rattle.std.specs.Prelude.{get_or, Ok, Err}
use Rattle.std.proofs.lemmas.List.{drop_more, drop_all}
use Rattle.asm_text.specs.declared.mnemonics.Part.{Part}
use Rattle.asm_text.specs.declared.statements.Statement.{Statement}
use Rattle.asm_text.specs.AsmLines.{Read, ◌>>=◌, past_blanks, part_at, parts_at}

-- the next part, and the others behind it
at_part : (parts : List Part) (i : ℕ) (d : Part) (s : Statement) (bytes : List ℕ) → i < length parts
    → parts_at (drop i parts) s bytes ≡ (part_at (get_or parts i d) s (past_blanks bytes) >>= λ (more, rest). parts_at (drop (i + 1) parts) more rest)
unfolding parts_at
at_part parts i d s bytes within = rw (drop_more parts i d within) refl

pub part_goes_on : (parts : List Part) (i : ℕ) (d : Part) (s more : Statement) (bytes front rest : List ℕ) (total : Read Statement) → i < length parts → front ≡ past_blanks bytes
    → part_at (get_or parts i d) s front ≡ Ok (more, rest) → parts_at (drop i parts) s bytes ≡ total → parts_at (drop (i + 1) parts) more rest ≡ total
part_goes_on parts i d s more bytes front rest total within blanks read so_far =
    let here : part_at (get_or parts i d) s (past_blanks bytes) ≡ Ok (more, rest) = ap (part_at (get_or parts i d) s) (sym blanks) ∙ read in
    sym (at_part parts i d s bytes within ∙ ap (λ (r : Read Statement). r >>= λ (more, rest). parts_at (drop (i + 1) parts) more rest) here) ∙ so_far

pub part_stops : (parts : List Part) (i : ℕ) (d : Part) (s : Statement) (bytes front : List ℕ) (left : ℕ) (total : Read Statement) → i < length parts → front ≡ past_blanks bytes
    → part_at (get_or parts i d) s front ≡ Err left → parts_at (drop i parts) s bytes ≡ total → total ≡ Err left
part_stops parts i d s bytes front left total within blanks read so_far =
    let here : part_at (get_or parts i d) s (past_blanks bytes) ≡ Err left = ap (part_at (get_or parts i d) s) (sym blanks) ∙ read in
    sym so_far ∙ at_part parts i d s bytes within ∙ ap (λ (r : Read Statement). r >>= λ (more, rest). parts_at (drop (i + 1) parts) more rest) here

pub parts_end : (parts : List Part) (i : ℕ) (s : Statement) (bytes : List ℕ) (total : Read Statement) → length parts ≤ i
    → parts_at (drop i parts) s bytes ≡ total → total ≡ Ok (s, bytes)
unfolding parts_at
parts_end parts i s bytes total past so_far =
    let none : drop i parts ≡ [] = drop_all i parts past in
    let last : parts_at (drop i parts) s bytes ≡ Ok (s, bytes) = rw none refl in
    sym so_far ∙ last
