-- Pieces found by going on byte by byte.
use Rattle.std.proofs.Common.{◌≡◌, ℕ, zero, suc, ◌-◌, ◌<◌, ◌≤◌, List, [], ◌∷◌, ◌++◌, length, drop, refl, sym, ap, ◌∙◌, arith, append_assoc, append-nil}
use Rattle.std.proofs.lemmas.List.{drop_all}
use Rattle.std.proofs.lemmas.List.Elements.{filter-append}
use Rattle.ocl_lex.specs.declared.pieces.Front.{Front}
use Rattle.ocl_lex.specs.declared.pieces.Piece.{Piece}
use Rattle.ocl_lex.specs.declared.pieces.Cursor.{Cursor}
use Rattle.ocl_lex.specs.Pieces.{after, begins, cuts, is_shown, piece_at, shown_pieces}
use Rattle.ocl_lex.specs.Cutting.{Passes}

pub passes_covered : (covered : ℕ) (p : Cursor) (bytes : List ℕ) (before : List Piece) → 0 < covered → 0 < length bytes
    → Passes covered p bytes before (covered - 1) before
unfolding cuts
passes_covered zero p bytes before some more = absurd (omega arith)
passes_covered (suc covered) p [] before some more = absurd (omega arith)
passes_covered (suc covered) p (c ∷ rest) before some more =
    let same : covered ≡ suc covered - 1 = omega arith in
    ap (λ k. before ++ shown_pieces (cuts k (after c p) rest)) same

begins_one : (p : Cursor) (c : ℕ) (rest : List ℕ)
    → cuts 0 p (c ∷ rest) ≡ piece_at p (begins (c ∷ rest)) ∷ cuts ((begins (c ∷ rest)).len - 1) (after c p) rest
unfolding cuts
begins_one p c rest = refl

pub passes_begins : (covered : ℕ) (p : Cursor) (bytes : List ℕ) (before : List Piece) (f : Front) (left : ℕ) (now : List Piece) → covered ≤ 0 → 0 < length bytes
    → f ≡ begins bytes → now ≡ before ++ shown_pieces (piece_at p f ∷ []) → left ≡ f.len - 1 → Passes covered p bytes before left now
passes_begins covered p [] before f left now none more front adds len = absurd (omega arith)
passes_begins covered p (c ∷ rest) before f left now none more front adds len =
    let here : covered ≡ 0 = omega arith in
    let more : List Piece = cuts (f.len - 1) (after c p) rest in
    let one : cuts 0 p (c ∷ rest) ≡ piece_at p f ∷ cuts (f.len - 1) (after c p) rest = rw front (begins_one p c rest) in
    let two : shown_pieces (piece_at p f ∷ cuts (f.len - 1) (after c p) rest) ≡ shown_pieces (piece_at p f ∷ []) ++ shown_pieces (cuts (f.len - 1) (after c p) rest) =
    filter-append (λ (q : Piece). is_shown q.kind) (piece_at p f ∷ []) (cuts (f.len - 1) (after c p) rest) in
    let three : before ++ shown_pieces (cuts 0 p (c ∷ rest)) ≡ before ++ (shown_pieces (piece_at p f ∷ []) ++ shown_pieces (cuts (f.len - 1) (after c p) rest)) =
    ap (λ l. before ++ shown_pieces l) one ∙ ap (λ l. before ++ l) two in
    let four : before ++ shown_pieces (cuts covered p (c ∷ rest)) ≡ before ++ shown_pieces (cuts 0 p (c ∷ rest)) = ap (λ k. before ++ shown_pieces (cuts k p (c ∷ rest))) here in
    let five : now ++ shown_pieces (cuts left (after c p) rest) ≡ before ++ (shown_pieces (piece_at p f ∷ []) ++ shown_pieces (cuts (f.len - 1) (after c p) rest)) =
    ap (λ l. now ++ shown_pieces (cuts l (after c p) rest)) len ∙ ap (λ l. l ++ shown_pieces (cuts (f.len - 1) (after c p) rest)) adds
    ∙ append_assoc before (shown_pieces (piece_at p f ∷ [])) (shown_pieces (cuts (f.len - 1) (after c p) rest)) in
    four ∙ three ∙ sym five

pub none_left : (covered : ℕ) (p : Cursor) → cuts covered p [] ≡ []
unfolding cuts
none_left zero p = refl
none_left (suc covered) p = refl

pub passes_end : (text : List ℕ) (i : ℕ) (total now : List Piece) (covered : ℕ) (p : Cursor) → length text ≤ i
    → total ≡ now ++ shown_pieces (cuts covered p (drop i text)) → now ≡ total
passes_end text i total now covered p past so_far =
    let none : drop i text ≡ [] = drop_all i text past in
    let zero : shown_pieces (cuts covered p (drop i text)) ≡ [] = rw none (ap shown_pieces (none_left covered p)) in
    sym (so_far ∙ ap (λ l. now ++ l) zero ∙ append-nil now)
