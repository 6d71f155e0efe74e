-- The parts behind the name of a `#define`, read one after another.
use Rattle.std.proofs.Common.{◌≡◌, ℕ, ◌+◌, ◌<◌, List, [], ◌∷◌, ◌++◌, length, drop, get_or, Ok, sym, ap, ◌∙◌, append_assoc}
use Rattle.std.proofs.lemmas.List.{drop_more}
use Rattle.ocl_lex.specs.declared.parts.Lexeme.{Lexeme}
use Rattle.ocl_lex.specs.declared.pieces.Piece.{Piece}
use Rattle.ocl_lex.specs.Lines.{faults_in, faults_of, parts_in, parts_of}
use Rattle.ocl_lex.specs.Parts.{part_of}

pub record ReadsSome (text : List ℕ) (pieces : List Piece) (i : ℕ) (parts : List Lexeme) : Type 0 where
  pub faultless : faults_of text pieces ≡ faults_of text (drop i pieces)
  pub so_far : parts_of text pieces ≡ parts ++ parts_of text (drop i pieces)

pub reads_more : (text : List ℕ) (pieces : List Piece) (i : ℕ) (parts now : List Lexeme) (d : Piece) (p : Lexeme) → i < length pieces → Ok p ≡ part_of text (get_or pieces i d)
    → now ≡ parts ++ p ∷ [] → ReadsSome text pieces i parts → ReadsSome text pieces (i + 1) now
reads_more text pieces i parts now d p within is pushed h =
    let one : drop i pieces ≡ get_or pieces i d ∷ drop (i + 1) pieces = drop_more pieces i d within in
    let faults : faults_of text (drop i pieces) ≡ faults_of text (drop (i + 1) pieces) =
    ap (faults_of text) one ∙ ap (λ r. faults_in r ++ faults_of text (drop (i + 1) pieces)) (sym is) in
    let more : parts_of text (drop i pieces) ≡ p ∷ parts_of text (drop (i + 1) pieces) =
    ap (parts_of text) one ∙ ap (λ r. parts_in r ++ parts_of text (drop (i + 1) pieces)) (sym is) in
    record {
      faultless = h.faultless ∙ faults;
      so_far = h.so_far ∙ ap (λ l. parts ++ l) more ∙ sym (append_assoc parts (p ∷ []) (parts_of text (drop (i + 1) pieces)))
          ∙ ap (λ l. l ++ parts_of text (drop (i + 1) pieces)) (sym pushed);
    }
