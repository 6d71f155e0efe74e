-- How pieces fall into a first line and the rest.
use Rattle.std.proofs.Common.{◌≡◌, ℕ, suc, ◌+◌, ◌<◌, Bool, List, [], ◌∷◌, length, take, drop, Some, None, refl, ap, ◌∙◌, arith}
use Rattle.std.specs.Prelude.{nat_lt}
use Rattle.std.specs.List.{position, position_or_len}
use Rattle.std.proofs.lemmas.Bool.Decides.{nat_tests}
use Rattle.ocl_lex.specs.declared.pieces.Piece.{Piece}
use Rattle.ocl_lex.specs.Lines.{is_line_end, lines, onto_line}
use Rattle.ocl_lex.proofs.TableLaws.{by_test}

abbrev ends_line : Piece → Bool
ends_line p = is_line_end p.kind

-- the line before the first piece that ends one
cut_first : (pieces : List Piece) → position_or_len ends_line pieces < length pieces
    → lines pieces ≡ take (position_or_len ends_line pieces) pieces ∷ lines (drop (position_or_len ends_line pieces + 1) pieces)
unfolding lines
cut_first [] h = absurd (omega arith)
cut_first (p ∷ rest) h = by_test (is_line_end p.kind)
    (λ e. rw e refl)
    (λ e.
    let k : ℕ = position_or_len ends_line rest in
    let at : position_or_len ends_line (p ∷ rest) ≡ suc k = rw e (omega arith) in
    let behind : suc k + 1 ≡ suc (k + 1) = omega arith in
    let within : k < length rest = omega (arith, rw at at h) in
    let one : lines (p ∷ rest) ≡ onto_line p (lines rest) = rw e refl in
    let two : lines rest ≡ take k rest ∷ lines (drop (k + 1) rest) = cut_first rest within in
    let three : onto_line p (lines rest) ≡ (p ∷ take k rest) ∷ lines (drop (k + 1) rest) = ap (onto_line p) two in
    rw at (rw behind (one ∙ three)))

-- pieces none of which ends a line
no_end : (pieces : List Piece) → 0 < length pieces → length pieces < position_or_len ends_line pieces + 1 → lines pieces ≡ pieces ∷ lines []
unfolding lines
no_end [] some h = absurd (omega arith)
no_end (p ∷ []) some h = by_test (is_line_end p.kind)
    (λ e. absurd (omega (arith, rw e at h)))
    (λ e. rw e refl)
no_end (p ∷ q ∷ rest) some h = by_test (is_line_end p.kind)
    (λ e. absurd (omega (arith, rw e at h)))
    (λ e.
    let more : length (q ∷ rest) < position_or_len ends_line (q ∷ rest) + 1 = omega (arith, rw e at h) in
    let one : lines (p ∷ q ∷ rest) ≡ onto_line p (lines (q ∷ rest)) = rw e refl in
    one ∙ ap (onto_line p) (no_end (q ∷ rest) (omega arith) more))

pub cut_at : (pieces : List Piece) (k : ℕ) → Some k ≡ position (λ p. is_line_end p.kind) pieces → lines pieces ≡ take k pieces ∷ lines (drop (k + 1) pieces)
cut_at pieces k e = by_test (nat_lt (position_or_len ends_line pieces) (length pieces))
    (λ t.
    let found : Some k ≡ Some (position_or_len ends_line pieces) = rw t at e in
    let same : k ≡ position_or_len ends_line pieces = cc in
    let within : position_or_len ends_line pieces < length pieces = grind (arith, nat_tests) in
    rw same (cut_first pieces within))
    (λ t.
    let none : Some k ≡ None = rw t at e in
    cc)

pub one_line : (pieces : List Piece) → 0 < length pieces → None ≡ position (λ p. is_line_end p.kind) pieces → lines pieces ≡ pieces ∷ lines []
one_line pieces some e = by_test (nat_lt (position_or_len ends_line pieces) (length pieces))
    (λ t.
    let found : None ≡ Some (position_or_len ends_line pieces) = rw t at e in
    cc)
    (λ t.
    let past : length pieces < position_or_len ends_line pieces + 1 = grind (arith, nat_tests) in
    no_end pieces some past)
