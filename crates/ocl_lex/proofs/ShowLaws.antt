-- What the pieces of a line show, told one after another.
use Rattle.std.proofs.Common.{◌≡◌, ℕ, ◌+◌, ◌<◌, ◌≤◌, ◌⊎◌, inl, inr, false, List, [], ◌∷◌, ◌++◌, length, drop, get_or, Some, None, Result, Ok, Err, sym, ap, subst, ◌∙◌, append_assoc}
use Rattle.std.specs.Prelude.{IsErrAnd}
use Rattle.std.specs.List.{flat_map}
use Rattle.std.proofs.lemmas.List.{drop_more, drop_all}
use Rattle.ocl_lex.specs.declared.faults.LexFault.{LexFault}
use Rattle.ocl_lex.specs.declared.faults.LexFault.TheVariants as fault
use Rattle.ocl_lex.specs.declared.output.Output.{Output}
use Rattle.ocl_lex.specs.declared.parts.Lexeme.{Lexeme}
use Rattle.ocl_lex.specs.declared.pieces.Piece.{Piece}
use Rattle.ocl_lex.specs.Events.{Event, Show, Use}
use Rattle.ocl_lex.specs.Frames.{inner_events}
use Rattle.ocl_lex.specs.Lines.{part_events, piece_events}
use Rattle.ocl_lex.specs.Macros.{Macros, found, replaced, without}
use Rattle.ocl_lex.specs.Parts.{name_of, part_of, token_at}
use Rattle.ocl_lex.specs.Telling.{Tells, answer}
use Rattle.ocl_lex.proofs.ReplacedLaws.{replaced_found, replaced_plain}
use Rattle.ocl_lex.proofs.TellingLaws.{stop_told}

-- events that are the same
pub tells_same : {T : Type 0} (r : Result T LexFault) (old new : Output) (events told : List Event) → events ≡ told → Tells r old new told → Tells r old new events
tells_same r old new events told same tells = subst (λ es. Tells r old new es) (sym same) tells

-- one event, and then others
pub tells_then : {T : Type 0} (r : Result T LexFault) (old middle new : Output) (first rest : List Event)
    → ((more : List Event) → answer middle more ≡ answer old (first ++ more)) → Tells r middle new rest → Tells r old new (first ++ rest)
tells_then (Ok x) old middle new first rest so_far tells = λ more. tells more ∙ so_far (rest ++ more) ∙ ap (answer old) (sym (append_assoc first rest more))
tells_then (Err f) old middle new first rest so_far (inl memory) = inl memory
tells_then (Err f) old middle new first rest so_far (inr stops) = inr (λ more. ap (answer old) (append_assoc first rest more) ∙ sym (so_far (rest ++ more)) ∙ stops more)

-- a part that uses a macro, and one that does not
pub tells_used : {T : Type 0} (r : Result T LexFault) (text : List ℕ) (macros : Macros) (at : Piece) (old new : Output) (p : Lexeme) (name : List ℕ) (body : List Lexeme)
    → found text macros p ≡ Some body → name ≡ name_of text p → Tells r old new (Use at.pos ∷ inner_events text at (without name macros) body)
    → Tells r old new (replaced text macros false at p)
tells_used r text macros at old new p name body there named tells =
    tells_same r old new _ _ (replaced_found text macros false at p body there ∙ ap (λ n. Use at.pos ∷ inner_events text at (without n macros) body) (sym named)) tells

pub tells_plain : {T : Type 0} (r : Result T LexFault) (text : List ℕ) (macros : Macros) (at : Piece) (old new : Output) (p : Lexeme)
    → found text macros p ≡ None → Tells r old new (Show (token_at text false at p) ∷ []) → Tells r old new (replaced text macros false at p)
tells_plain r text macros at old new p none tells = tells_same r old new _ _ (replaced_plain text macros false at p none) tells

-- a piece by its part, or by its fault
pub tells_part : {T : Type 0} (r : Result T LexFault) (text : List ℕ) (macros : Macros) (piece : Piece) (old new : Output) (p : Lexeme)
    → Ok p ≡ part_of text piece → Tells r old new (replaced text macros false piece p) → Tells r old new (piece_events text macros piece)
tells_part r text macros piece old new p is tells = tells_same r old new _ _ (ap (part_events text macros piece) (sym is)) tells

pub stops_at : (text : List ℕ) (macros : Macros) (piece : Piece) (old : Output) (f : LexFault) → Err f ≡ part_of text piece
    → (more : List Event) → answer old (piece_events text macros piece ++ more) ≡ Err f
stops_at text macros piece old f is more =
    ap (λ r. answer old (part_events text macros piece r ++ more)) (sym is) ∙ stop_told old.tokens.items old.left f more

-- ---- a list of pieces, each of which shows something

module _ (shown : Piece → List Event) where
  pub line_goes_on : (line : List Piece) (i : ℕ) (start before now : Output) (p : Piece) → i < length line
      → ((more : List Event) → answer before (flat_map shown (drop i line) ++ more) ≡ answer start (flat_map shown line ++ more))
      → ((more : List Event) → answer now more ≡ answer before (shown (get_or line i p) ++ more))
      → (more : List Event) → answer now (flat_map shown (drop (i + 1) line) ++ more) ≡ answer start (flat_map shown line ++ more)
  line_goes_on line i start before now p within so_far tells more =
      let rest : List Event = flat_map shown (drop (i + 1) line) in
      let one : flat_map shown (drop i line) ≡ shown (get_or line i p) ++ flat_map shown (drop (i + 1) line) = ap (flat_map shown) (drop_more line i p within) in
      tells (flat_map shown (drop (i + 1) line) ++ more)
      ∙ ap (answer before) (sym (append_assoc (shown (get_or line i p)) (flat_map shown (drop (i + 1) line)) more))
      ∙ ap (λ l. answer before (l ++ more)) (sym one) ∙ so_far more

  pub line_stops : {T : Type 0} (r : Result T LexFault) (f : LexFault) (line : List Piece) (i : ℕ) (start before new : Output) (p : Piece) → i < length line
      → ((more : List Event) → answer before (flat_map shown (drop i line) ++ more) ≡ answer start (flat_map shown line ++ more))
      → IsErrAnd r (λ e. e ≡ f)
      → (f ≡ fault.Memory) ⊎ ((more : List Event) → answer before (shown (get_or line i p) ++ more) ≡ Err f) → Tells r start new (flat_map shown line)
  line_stops (Ok x) f line i start before new p within so_far passed stops = absurd passed
  line_stops (Err e) f line i start before new p within so_far passed (inl memory) = inl (passed ∙ memory)
  line_stops (Err e) f line i start before new p within so_far passed (inr stops) = inr (λ more.
      let one : flat_map shown (drop i line) ≡ shown (get_or line i p) ++ flat_map shown (drop (i + 1) line) = ap (flat_map shown) (drop_more line i p within) in
      sym (so_far more) ∙ ap (λ l. answer before (l ++ more)) one
      ∙ ap (answer before) (append_assoc (shown (get_or line i p)) (flat_map shown (drop (i + 1) line)) more)
      ∙ stops (flat_map shown (drop (i + 1) line) ++ more) ∙ ap Err (sym passed))

  pub line_ends : (line : List Piece) (i : ℕ) (start now : Output) → length line ≤ i
      → ((more : List Event) → answer now (flat_map shown (drop i line) ++ more) ≡ answer start (flat_map shown line ++ more))
      → (more : List Event) → answer now more ≡ answer start (flat_map shown line ++ more)
  line_ends line i start now past so_far more =
      let none : drop i line ≡ [] = drop_all i line past in
      ap (λ l. answer now (flat_map shown l ++ more)) (sym none) ∙ so_far more
