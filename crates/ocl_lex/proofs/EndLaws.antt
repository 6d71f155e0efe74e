-- The end of a text, and its tokens.
use Rattle.std.proofs.Common.{◌≡◌, ℕ, ◌+◌, ◌<◌, ◌≤◌, ◌⊎◌, inl, inr, List, [], ◌++◌, length, drop, Result, Ok, Err, refl, sym, ap, ◌∙◌, append-nil}
use Rattle.std.specs.Prelude.{slice_index, reverse, IsErrAnd, IfErr}
use Rattle.std.proofs.lemmas.List.{drop_more, drop_all}
use Rattle.ocl_tokens.specs.declared.tokens.Token.{Token}
use Rattle.ocl_lex.specs.declared.conditions.Condition.{Condition}
use Rattle.ocl_lex.specs.declared.faults.LexFault.{LexFault}
use Rattle.ocl_lex.specs.declared.faults.LexFault.TheVariants as fault
use Rattle.ocl_lex.specs.declared.pieces.Piece.{Piece}
use Rattle.ocl_lex.specs.declared.output.Output.{Output}
use Rattle.ocl_lex.specs.declared.pieces.Cursor.{Cursor}
use Rattle.ocl_lex.specs.Events.{Event, within, with_front}
use Rattle.ocl_lex.specs.Lines.{State, end_token, ends, events, first_state, limit, lines, place_behind, tokens_of}
use Rattle.ocl_lex.specs.Pieces.{IsNear, after, first_place, pieces_of}
use Rattle.ocl_lex.specs.Telling.{answer}

-- a place on the way to the end
pub record GoesTo (text : List ℕ) (i : ℕ) (place : Cursor) : Type 0 where
  pub still : place_behind place (drop i text) ≡ place_behind first_place text
  pub at : place.at ≡ i
  pub near : IsNear place

pub goes_on : (text : List ℕ) (i : ℕ) (place : Cursor) → i < length text → place_behind place (drop i text) ≡ place_behind first_place text
    → place_behind (after (slice_index text i) place) (drop (i + 1) text) ≡ place_behind first_place text
goes_on text i place within still = sym (ap (place_behind place) (drop_more text i 0 within)) ∙ still

pub is_there : (text : List ℕ) (i : ℕ) (place : Cursor) → length text ≤ i → place_behind place (drop i text) ≡ place_behind first_place text → place ≡ place_behind first_place text
is_there text i place past still = sym (ap (place_behind place) (drop_all i text past)) ∙ still

no_front : (r : Result (List Token) LexFault) → with_front [] r ≡ r
no_front (Ok tokens) = refl
no_front (Err f) = refl

-- nothing is told yet
pub begins_whole : (text : List ℕ) (out : Output) → out.tokens.items ≡ [] → out.left ≡ limit → answer out (events text first_state (lines (pieces_of text))) ≡ tokens_of text
unfolding tokens_of
begins_whole text out none all =
    ap (λ ts. with_front ts (within out.left (events text first_state (lines (pieces_of text))))) none
    ∙ no_front (within out.left (events text first_state (lines (pieces_of text))))
    ∙ ap (λ n. within n (events text first_state (lines (pieces_of text)))) all

-- all is told
pub all_told : (out : Output) → answer out [] ≡ Ok out.tokens.items
unfolding within
all_told out = ap Ok (append-nil out.tokens.items)

-- ---- the three ends of reading a text

module _ (text : List ℕ) (start middle : Output) (pieces read : List Piece) (s now : State) (conditions last : List Condition) (end : Token)
    (none : start.tokens.items ≡ []) (all : start.left ≡ limit) (cut : pieces ≡ pieces_of text) (given : read ≡ pieces) (first : s ≡ first_state) where
  from_start : answer start (events text s (lines read)) ≡ tokens_of text
  from_start = ap (λ p. answer start (events text s (lines p))) (given ∙ cut) ∙ ap (λ u. answer start (events text u (lines (pieces_of text)))) first ∙ begins_whole text start none all

  pub lines_stopped : {T : Type 0} (r : Result T LexFault) (f : LexFault) → IsErrAnd r (λ e. e ≡ f) → (f ≡ fault.Memory) ⊎ (answer start (events text s (lines read)) ≡ Err f)
      → IfErr r (λ e. (e ≡ fault.Memory) ⊎ (tokens_of text ≡ Err e))
  lines_stopped (Ok x) f passed stops = absurd passed
  lines_stopped (Err e) f passed (inl memory) = inl (passed ∙ memory)
  lines_stopped (Err e) f passed (inr stops) = inr (sym from_start ∙ stops ∙ ap Err (sym passed))

  module _ (told : answer middle (ends (end_token text) (reverse conditions)) ≡ answer start (events text s (lines read))) (ending : end ≡ end_token text)
      (listed : last ≡ conditions) where
    to_end : answer middle (ends end (reverse last) ++ []) ≡ tokens_of text
    to_end = ap (answer middle) (append-nil (ends end (reverse last))) ∙ ap (λ e. answer middle (ends e (reverse last))) ending
        ∙ ap (λ l. answer middle (ends (end_token text) (reverse l))) listed ∙ told ∙ from_start

    pub end_stopped : {T : Type 0} (r : Result T LexFault) (f : LexFault) → IsErrAnd r (λ e. e ≡ f)
        → (f ≡ fault.Memory) ⊎ ((more : List Event) → answer middle (ends end (reverse last) ++ more) ≡ Err f) → IfErr r (λ e. (e ≡ fault.Memory) ⊎ (tokens_of text ≡ Err e))
    end_stopped (Ok x) f passed stops = absurd passed
    end_stopped (Err e) f passed (inl memory) = inl (passed ∙ memory)
    end_stopped (Err e) f passed (inr stops) = inr (sym to_end ∙ stops [] ∙ ap Err (sym passed))

    pub end_told : (out : Output) → ((more : List Event) → answer out more ≡ answer middle (ends end (reverse last) ++ more)) → tokens_of text ≡ Ok out.tokens.items
    end_told out tells = sym (tells [] ∙ to_end) ∙ all_told out
