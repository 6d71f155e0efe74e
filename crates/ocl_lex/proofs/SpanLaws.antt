-- The tokens of a text stand in order, each says what its bytes say, and the last is the end.
use Rattle.std.proofs.Common.{◌≡◌, ℕ, zero, suc, ◌≤◌, ◌⊎◌, inl, inr, Bool, true, false, not, if◌then◌else◌, List, [], ◌∷◌, ◌++◌, length, Option, Some, None, Result, Ok, Err, refl, sym, ap, subst, ◌∙◌, arith, true≢false}
use Rattle.std.specs.Prelude.{⊤}
use Rattle.std.specs.List.{flat_map}
use Rattle.ocl_tokens.specs.declared.tokens.Token.{Token}
use Rattle.ocl_tokens.specs.declared.words.Word.{Word}
use Rattle.ocl_lex.specs.declared.conditions.Condition.{Condition}
use Rattle.ocl_lex.specs.declared.directives.DirectiveWord.{DirectiveWord}
use Rattle.ocl_lex.specs.declared.directives.DirectiveWord.TheVariants as word
use Rattle.ocl_lex.specs.declared.faults.LexFault.{LexFault}
use Rattle.ocl_lex.specs.declared.parts.Lexeme.{Lexeme}
use Rattle.ocl_lex.specs.declared.parts.Lexeme.TheVariants as part
use Rattle.ocl_lex.specs.declared.pieces.Piece.{Piece}
use Rattle.ocl_lex.specs.declared.pieces.PieceKind.{PieceKind}
use Rattle.ocl_lex.specs.declared.pieces.PieceKind.TheVariants as kind
use Rattle.ocl_lex.specs.Events.{Event, Show, Stop, Use, with_front, within}
use Rattle.ocl_lex.specs.Lines.{Effect, State, define, directive, directive_line, directive_named, effect, end_token, endif, ends, events, faults_in, first_state, is_hash, is_line_end, is_name, is_open_comment, limit, lines, nothing_behind, one_name, onto_line, opens_parameters, part_events, part_shown, piece_events, plain_line, skipped_events, skips, switch, tokens_of}
use Rattle.ocl_lex.specs.Literals.{literal_of}
use Rattle.ocl_lex.specs.Macros.{Macros, found, replaced, shows, without}
use Rattle.ocl_lex.specs.Parts.{between, kind_of, name_of, number_or_bad, part_of, part_of_kind, token_at}
use Rattle.ocl_lex.specs.Pieces.{pieces_of, text_of}
use Rattle.ocl_lex.specs.Spans.{Says, StandIn, StandInOrder, Stands, behind, is_end}
use Rattle.ocl_lex.specs.Words.{word_named, word_or_name}
use Rattle.ocl_lex.proofs.PieceLaws.{IsPlaced, Placed, pieces_placed}
use Rattle.ocl_lex.proofs.ReplacedLaws.{by_option, replaced_found, replaced_plain}
use Rattle.ocl_lex.proofs.TableLaws.{by_test}

by_result : {A E P : Type 0} (r : Result A E) → ((x : A) → r ≡ Ok x → P) → ((e : E) → r ≡ Err e → P) → P
by_result (Ok x) if_ok if_err = if_ok x refl
by_result (Err e) if_ok if_err = if_err e refl

-- ---- pieces, line by line

abbrev PlacedLine : List ℕ → ℕ → List Piece → (ℕ → Type 0) → Type 0
PlacedLine text from [] Q = Q from
PlacedLine text from (p ∷ line) Q = IsPlaced text p × (from ≤ p.start) × PlacedLine text p.end line Q

abbrev PlacedLines : List ℕ → ℕ → List (List Piece) → Type 0
PlacedLines text from [] = ⊤
PlacedLines text from (line ∷ rest) = PlacedLine text from line (λ k. PlacedLines text k rest)

earlier_lines : (text : List ℕ) (j k : ℕ) (rest : List (List Piece)) → j ≤ k → PlacedLines text k rest → PlacedLines text j rest
earlier_lines text j k [] less h = tt
earlier_lines text j k ([] ∷ rest) less h = earlier_lines text j k rest less h
earlier_lines text j k ((p ∷ line) ∷ rest) less (placed, after_k, more) = (placed, omega arith, more)

onto_placed : (text : List ℕ) (from : ℕ) (p : Piece) (rest : List (List Piece)) → IsPlaced text p → from ≤ p.start → PlacedLines text p.end rest → PlacedLines text from (onto_line p rest)
onto_placed text from p [] placed after_from h = (placed, after_from, tt)
onto_placed text from p (line ∷ rest) placed after_from h = (placed, after_from, h)

lines_placed : (text : List ℕ) (from : ℕ) (pieces : List Piece) → Placed text from pieces → PlacedLines text from (lines pieces)
unfolding lines
lines_placed text from [] h = tt
lines_placed text from (p ∷ pieces) (placed, after_from, rest) =
    let more : PlacedLines text p.end (lines pieces) = lines_placed text p.end pieces rest in
    let before : from ≤ p.end = omega (arith, placed.ordered) in
    by_test (is_line_end p.kind)
    (λ t. rw t (earlier_lines text from p.end (lines pieces) before more))
    (λ t. rw t (onto_placed text from p (lines pieces) placed after_from more))

end_of_line : (text : List ℕ) (line : List Piece) (k : ℕ) (Q : ℕ → Type 0) → PlacedLine text k line Q → (i : ℕ) × (k ≤ i) × Q i
end_of_line text [] k Q h = (k, omega arith, h)
end_of_line text (p ∷ line) k Q (placed, after_k, rest) =
    let last : (i : ℕ) × (p.end ≤ i) × Q i = end_of_line text line p.end Q rest in
    (last.0, omega (arith, placed.ordered, last.1), last.2)

-- ---- what tokens say

says_name : (bytes : List ℕ) (o : Option Word) → word_named bytes ≡ o → Says bytes (word_or_name o bytes)
says_name bytes None h = refl
says_name bytes (Some w) h = h

name_goes_on : (bytes : List ℕ) (o : Option Word) → is_end (word_or_name o bytes) ≡ false
name_goes_on bytes None = refl
name_goes_on bytes (Some w) = refl

kind_goes_on : (text : List ℕ) (q : Lexeme) → is_end (kind_of text q) ≡ false
kind_goes_on text (part.Name start end) = name_goes_on (between text start end) (word_named (between text start end))
kind_goes_on text (part.Number value unsigned) = refl
kind_goes_on text (part.Mark m) = refl

says_part : (text : List ℕ) (k : PieceKind) (p : Piece) (q : Lexeme) → IsPlaced text p → p.kind ≡ k → part_of_kind text k p ≡ Ok q → Says (between text p.start p.end) (kind_of text q)
says_part text kind.Name p q placed is h =
    let same : part.Name p.start p.end ≡ q = cc in
    subst (λ r. Says (between text p.start p.end) (kind_of text r)) same (says_name (between text p.start p.end) (word_named (between text p.start p.end)) refl)
says_part text kind.Number p q placed is h = by_option (literal_of (text_of text p))
    (λ none. absurd (let no : Err _ ≡ Ok q = sym (ap (number_or_bad p.pos) none) ∙ h in cc))
    (λ l some.
    let made : Ok (part.Number l.value l.unsigned) ≡ Ok q = sym (ap (number_or_bad p.pos) some) ∙ h in
    let same : part.Number l.value l.unsigned ≡ q = cc in
    subst (λ r. Says (between text p.start p.end) (kind_of text r)) same some)
says_part text (kind.Mark m) p q placed is h =
    let same : part.Mark m ≡ q = cc in
    subst (λ r. Says (between text p.start p.end) (kind_of text r)) same (placed.spelled m is)
says_part text kind.OpenComment p q placed is h = cc
says_part text kind.Blank p q placed is h = cc
says_part text kind.Feed p q placed is h = cc
says_part text kind.Hash p q placed is h = cc
says_part text kind.Bad p q placed is h = cc

stands_made : (text : List ℕ) (p : Piece) (q : Lexeme) → IsPlaced text p → Stands text (token_at text true p q)
stands_made text p q placed = record {
  ordered = placed.ordered;
  within = placed.within;
  pos = placed.pos;
  says = λ e. absurd (true≢false e);
  goes_on = kind_goes_on text q;
}

stands_plain : (text : List ℕ) (p : Piece) (q : Lexeme) → IsPlaced text p → part_of text p ≡ Ok q → Stands text (token_at text false p q)
stands_plain text p q placed is = record {
  ordered = placed.ordered;
  within = placed.within;
  pos = placed.pos;
  says = λ e. says_part text p.kind p q placed refl is;
  goes_on = kind_goes_on text q;
}

-- ---- events in order

module _ (text : List ℕ) where
  -- all tokens stand, and the last one is the end
  abbrev Whole : ℕ → List Event → Type 0
  Whole from [] = ⊥
  Whole from (Stop f ∷ es) = ⊤
  Whole from (Use pos ∷ es) = Whole from es
  Whole from (Show t ∷ es) = (Stands text t × (from ≤ t.start) × Whole (behind from t) es) ⊎ ((t ≡ end_token text) × (es ≡ []))

  -- all tokens stand, and what follows goes on
  abbrev Fine : ℕ → List Event → (ℕ → Type 0) → Type 0
  Fine from [] Q = Q from
  Fine from (Stop f ∷ es) Q = ⊤
  Fine from (Use pos ∷ es) Q = Fine from es Q
  Fine from (Show t ∷ es) Q = Stands text t × (from ≤ t.start) × Fine (behind from t) es Q

  fine_whole : (from : ℕ) (es fs : List Event) → Fine from es (λ k. Whole k fs) → Whole from (es ++ fs)
  fine_whole from [] fs h = h
  fine_whole from (Stop f ∷ es) fs h = tt
  fine_whole from (Use pos ∷ es) fs h = fine_whole from es fs h
  fine_whole from (Show t ∷ es) fs (stands, after_from, rest) = inl (stands, after_from, fine_whole (behind from t) es fs rest)

  fine_append : (from : ℕ) (es fs : List Event) (Q : ℕ → Type 0) → Fine from es (λ k. Fine k fs Q) → Fine from (es ++ fs) Q
  fine_append from [] fs Q h = h
  fine_append from (Stop f ∷ es) fs Q h = tt
  fine_append from (Use pos ∷ es) fs Q h = fine_append from es fs Q h
  fine_append from (Show t ∷ es) fs Q (stands, after_from, rest) = (stands, after_from, fine_append (behind from t) es fs Q rest)

  fine_parts : (from : ℕ) (g : Lexeme → List Event) → ((q : Lexeme) (Q : ℕ → Type 0) → Q from → Fine from (g q) Q) → (body : List Lexeme) (Q : ℕ → Type 0) → Q from → Fine from (flat_map g body) Q
  fine_parts from g each [] Q h = h
  fine_parts from g each (q ∷ body) Q h = fine_append from (g q) (flat_map g body) Q (each q (λ k. Fine k (flat_map g body) Q) (fine_parts from g each body Q h))

  -- what a macro makes
  made_fine : (n : ℕ) (macros : Macros) (p : Piece) (from : ℕ) → IsPlaced text p → from ≤ p.start → (q : Lexeme) (Q : ℕ → Type 0) → Q from → Fine from (shows text n macros true p q) Q
  unfolding shows
  made_fine zero macros p from placed after_from q Q h = (stands_made text p q placed, after_from, h)
  made_fine (suc n) macros p from placed after_from q Q h = by_option (found text macros q)
      (λ none. rw none (stands_made text p q placed, after_from, h))
      (λ body some. rw some (fine_parts from (shows text n (without (name_of text q) macros) true p)
      (made_fine n (without (name_of text q) macros) p from placed after_from) body Q h))

  piece_fine : (macros : Macros) (p : Piece) (from : ℕ) → IsPlaced text p → from ≤ p.start → (Q : ℕ → Type 0) → Q from → Q p.end → Fine from (piece_events text macros p) Q
  piece_fine macros p from placed after_from Q here there = by_result (part_of text p)
      (λ q is. by_option (found text macros q)
      (λ none.
      let one : piece_events text macros p ≡ Show (token_at text false p q) ∷ [] = ap (part_events text macros p) is ∙ replaced_plain text macros false p q none in
      subst (λ es. Fine from es Q) (sym one) (stands_plain text p q placed is, after_from, there))
      (λ body some.
      let one : piece_events text macros p ≡ Use p.pos ∷ flat_map (replaced text (without (name_of text q) macros) true p) body =
      ap (part_events text macros p) is ∙ replaced_found text macros false p q body some in
      subst (λ es. Fine from es Q) (sym one) (fine_parts from (replaced text (without (name_of text q) macros) true p)
      (made_fine (length (without (name_of text q) macros)) (without (name_of text q) macros) p from placed after_from) body Q here)))
      (λ f is. subst (λ es. Fine from es Q) (sym (ap (part_events text macros p) is)) tt)

  line_fine : (macros : Macros) (line : List Piece) (k : ℕ) (R Q : ℕ → Type 0) → PlacedLine text k line R → (from : ℕ) → from ≤ k
      → ((j i : ℕ) → j ≤ i → R i → Q j) → Fine from (flat_map (piece_events text macros) line) Q
  line_fine macros [] k R Q h from less goes = goes from k less h
  line_fine macros (p ∷ line) k R Q (placed, after_k, rest) from less goes =
      let short : from ≤ p.end = omega (arith, placed.ordered) in
      let first : from ≤ p.start = omega arith in
      fine_append from (piece_events text macros p) (flat_map (piece_events text macros) line) Q
      (piece_fine macros p from placed first (λ j. Fine j (flat_map (piece_events text macros) line) Q)
      (line_fine macros line p.end R Q rest from short goes)
      (line_fine macros line p.end R Q rest p.end (omega arith) goes))

  -- ---- lines without tokens

  abbrev OnlyStops : List Event → Type 0
  OnlyStops [] = ⊤
  OnlyStops (Stop f ∷ es) = OnlyStops es
  OnlyStops (Use pos ∷ es) = ⊥
  OnlyStops (Show t ∷ es) = ⊥

  only_fine : (from : ℕ) (es : List Event) (Q : ℕ → Type 0) → OnlyStops es → Q from → Fine from es Q
  only_fine from [] Q only h = h
  only_fine from (Stop f ∷ es) Q only h = tt
  only_fine from (Use pos ∷ es) Q only h = absurd only
  only_fine from (Show t ∷ es) Q only h = absurd only

  only_append : (es fs : List Event) → OnlyStops es → OnlyStops fs → OnlyStops (es ++ fs)
  only_append [] fs a b = b
  only_append (Stop f ∷ es) fs a b = only_append es fs a b
  only_append (Use pos ∷ es) fs a b = absurd a
  only_append (Show t ∷ es) fs a b = absurd a

  only_flat : {A : Type 0} (g : A → List Event) → ((x : A) → OnlyStops (g x)) → (xs : List A) → OnlyStops (flat_map g xs)
  only_flat g each [] = tt
  only_flat g each (x ∷ xs) = only_append (g x) (flat_map g xs) (each x) (only_flat g each xs)

  only_if : (b : Bool) (x y : List Event) → OnlyStops x → OnlyStops y → OnlyStops (if b then x else y)
  only_if true x y a c = a
  only_if false x y a c = c

  only_effect : (b : Bool) (x y : Effect) → OnlyStops x.events → OnlyStops y.events → OnlyStops (if b then x else y).events
  only_effect true x y a c = a
  only_effect false x y a c = c

  only_behind : (hash : Piece) (pieces : List Piece) → OnlyStops (nothing_behind hash pieces)
  only_behind hash [] = tt
  only_behind hash (p ∷ pieces) = only_behind hash pieces

  only_skipped : (p : Piece) → OnlyStops (skipped_events p)
  only_skipped p = only_if (is_open_comment p.kind) _ [] tt tt

  only_faults : (r : Result Lexeme LexFault) → OnlyStops (faults_in r)
  only_faults (Ok q) = tt
  only_faults (Err f) = tt

  only_skips : (pieces : List Piece) (s : State) → OnlyStops (skips pieces s).events
  only_skips pieces s = only_flat skipped_events only_skipped pieces

  only_name : (hash : Piece) (pieces : List Piece) (s : State) (next : List ℕ → State) → OnlyStops (one_name text hash pieces s next).events
  only_name hash [] s next = tt
  only_name hash (p ∷ pieces) s next = only_effect (is_name p.kind) _ _ (only_behind hash pieces) tt

  only_define : (hash : Piece) (pieces : List Piece) (s : State) → OnlyStops (define text hash pieces s).events
  only_define hash [] s = tt
  only_define hash (name ∷ pieces) s = only_effect (not (is_name name.kind)) _ _ tt (only_effect (opens_parameters name pieces) _ _ tt (only_flat (λ p. faults_in (part_of text p)) (λ p. only_faults (part_of text p)) pieces))

  only_switch : (hash : Piece) (pieces : List Piece) (conditions : List Condition) (s : State) → OnlyStops (switch hash pieces conditions s).events
  only_switch hash pieces [] s = tt
  only_switch hash pieces (c ∷ outer) s = only_effect c.switched _ _ tt (only_behind hash pieces)

  only_endif : (hash : Piece) (pieces : List Piece) (conditions : List Condition) (s : State) → OnlyStops (endif hash pieces conditions s).events
  only_endif hash pieces [] s = tt
  only_endif hash pieces (c ∷ outer) s = only_behind hash pieces

  only_directive : (hash : Piece) (w : Option DirectiveWord) (pieces : List Piece) (s : State) → OnlyStops (directive text hash w pieces s).events
  only_directive hash None pieces s = tt
  only_directive hash (Some word.Define) pieces s = only_effect (part_shown s.conditions) _ _ (only_define hash pieces s) (only_skips pieces s)
  only_directive hash (Some word.Undef) pieces s = only_effect (part_shown s.conditions) _ _ (only_name hash pieces s _) (only_skips pieces s)
  only_directive hash (Some word.Ifdef) pieces s = only_name hash pieces s _
  only_directive hash (Some word.Ifndef) pieces s = only_name hash pieces s _
  only_directive hash (Some word.Else) pieces s = only_switch hash pieces s.conditions s
  only_directive hash (Some word.Endif) pieces s = only_endif hash pieces s.conditions s
  only_directive hash (Some word.Pragma) pieces s = only_skips pieces s

  only_line : (hash : Piece) (pieces : List Piece) (s : State) → OnlyStops (directive_line text hash pieces s).events
  only_line hash [] s = tt
  only_line hash (p ∷ pieces) s = only_effect (is_name p.kind) _ _ (only_directive hash (directive_named (text_of text p)) pieces s) tt

  -- ---- all lines

  plain_fine : (s : State) (line : List Piece) (k : ℕ) (R Q : ℕ → Type 0) → PlacedLine text k line R → (from : ℕ) → from ≤ k
      → ((j i : ℕ) → j ≤ i → R i → Q j) → Fine from (plain_line text s line).events Q
  plain_fine s line k R Q h from less goes =
      let last : (i : ℕ) × (k ≤ i) × R i = end_of_line text line k R h in
      by_test (part_shown s.conditions)
      (λ t. rw t (line_fine s.macros line k R Q h from less goes))
      (λ t. rw t (only_fine from (flat_map skipped_events line) Q (only_skips line s) (goes from last.0 (omega (arith, last.1)) last.2)))

  effect_fine : (s : State) (line : List Piece) (k : ℕ) (R Q : ℕ → Type 0) → PlacedLine text k line R → (from : ℕ) → from ≤ k
      → ((j i : ℕ) → j ≤ i → R i → Q j) → Fine from (effect text s line).events Q
  unfolding effect
  effect_fine s [] k R Q h from less goes = goes from k less h
  effect_fine s (p ∷ pieces) k R Q h from less goes =
      let last : (i : ℕ) × (k ≤ i) × R i = end_of_line text (p ∷ pieces) k R h in
      by_test (is_hash p.kind)
      (λ t. rw t (only_fine from (directive_line text p pieces s).events Q (only_line p pieces s) (goes from last.0 (omega (arith, last.1)) last.2)))
      (λ t. rw t (plain_fine s (p ∷ pieces) k R Q h from less goes))

  ends_whole : (from : ℕ) (conditions : List Condition) → Whole from (ends (end_token text) conditions)
  ends_whole from [] = inr (refl, refl)
  ends_whole from (c ∷ outer) = tt

  events_whole : (rest : List (List Piece)) (s : State) (k : ℕ) → PlacedLines text k rest → (from : ℕ) → from ≤ k → Whole from (events text s rest)
  unfolding events
  events_whole [] s k h from less = ends_whole from s.conditions
  events_whole (line ∷ rest) s k h from less =
      fine_whole from (effect text s line).events (events text (effect text s line).next rest)
      (effect_fine s line k (λ i. PlacedLines text i rest) (λ j. Whole j (events text (effect text s line).next rest)) h from less
      (λ j i short placed. events_whole rest (effect text s line).next i placed j short))

  within_stands : (es : List Event) (n from : ℕ) (tokens : List Token) → within n es ≡ Ok tokens → Whole from es
      → (before : List Token) × (tokens ≡ before ++ end_token text ∷ []) × StandInOrder text from before
  unfolding within
  within_stands [] n from tokens h whole = absurd whole
  within_stands (Stop f ∷ es) n from tokens h whole = absurd (let no : Err f ≡ Ok tokens = h in cc)
  within_stands (Use pos ∷ es) zero from tokens h whole = absurd (let no : Err _ ≡ Ok tokens = h in cc)
  within_stands (Use pos ∷ es) (suc n) from tokens h whole = within_stands es n from tokens h whole
  within_stands (Show t ∷ es) zero from tokens h whole = absurd (let no : Err _ ≡ Ok tokens = h in cc)
  within_stands (Show t ∷ es) (suc n) from tokens h (inl (stands, after_from, rest)) = by_result (within n es)
      (λ us is.
      let made : Ok (t ∷ us) ≡ Ok tokens = sym (ap (with_front (t ∷ [])) is) ∙ h in
      let same : t ∷ us ≡ tokens = cc in
      let more : (before : List Token) × (us ≡ before ++ end_token text ∷ []) × StandInOrder text (behind from t) before = within_stands es n (behind from t) us is rest in
      (t ∷ more.0, sym same ∙ ap (λ l. t ∷ l) more.1, (stands, after_from, more.2)))
      (λ f is. absurd (let no : Err f ≡ Ok tokens = sym (ap (with_front (t ∷ [])) is) ∙ h in cc))
  within_stands (Show t ∷ es) (suc n) from tokens h (inr (last, none)) =
      let made : Ok (t ∷ []) ≡ Ok tokens = sym (ap (λ l. with_front (t ∷ []) (within n l)) none) ∙ h in
      let same : t ∷ [] ≡ tokens = cc in
      ([], sym same ∙ ap (λ u. u ∷ []) last, tt)

pub stand_in : (text : List ℕ) (tokens : List Token) → tokens_of text ≡ Ok tokens → StandIn text tokens
unfolding tokens_of
stand_in text tokens h =
    within_stands text (events text first_state (lines (pieces_of text))) limit 0 tokens h
    (events_whole text (lines (pieces_of text)) first_state 0 (lines_placed text 0 (pieces_of text) (pieces_placed text)) 0 (omega arith))
