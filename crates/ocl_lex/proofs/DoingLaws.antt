-- Lines that stop, and lines that go on.
use Rattle.std.proofs.Common.{◌≡◌, ℕ, ◌⊎◌, inl, inr, true, false, length, arith, List, [], ◌∷◌, ◌++◌, Result, Ok, Err, refl, sym, ap, subst, ◌∙◌}
use Rattle.std.specs.Prelude.{IsErrAnd, MatchResult, if◌then◌else◌, reverse}
use Rattle.std.specs.List.{flat_map}
use Rattle.std.proofs.lemmas.List.{reverse-append}
use Rattle.ocl_tokens.specs.declared.tokens.Token.{Token}
use Rattle.ocl_lex.specs.declared.conditions.Condition.{Condition}
use Rattle.ocl_lex.specs.declared.faults.LexFault.{LexFault}
use Rattle.ocl_lex.specs.declared.faults.LexFault.TheVariants as fault
use Rattle.ocl_lex.specs.declared.output.Output.{Output}
use Rattle.ocl_lex.specs.declared.pieces.Piece.{Piece}
use Rattle.ocl_lex.specs.Doing.{Does, Raises, Silently}
use Rattle.ocl_lex.specs.Events.{Event, Stop}
use Rattle.ocl_lex.specs.Lines.{Effect, State, directive_line, effect, end_token, ends, events, is_hash, lines, part_shown, piece_events, plain_line, skips}
use Rattle.ocl_lex.specs.Telling.{answer}
use Rattle.ocl_lex.proofs.TellingLaws.{stop_told}

pub stops_silently : {T : Type 0} (r : Result T LexFault) (f : LexFault) (e : Effect) (now : State) → IsErrAnd r (λ g. g ≡ f)
    → (rest : List Event) × (e.events ≡ Stop f ∷ rest) → Silently r e now
stops_silently (Ok x) f e now passed stops = absurd passed
stops_silently (Err g) f e now passed (rest, stops) = inr (rest, stops ∙ ap (λ h. Stop h ∷ rest) (sym passed))

-- a line without tokens leaves the output
pub silently_does : {T : Type 0} (r : Result T LexFault) (out : Output) (e : Effect) (now : State) → Silently r e now → Does r out e out now
silently_does (Ok x) out e now (none, next) = (next, λ more. ap (λ l. answer out (l ++ more)) (sym none))
silently_does (Err f) out e now (inl memory) = inl memory
silently_does (Err f) out e now (inr (rest, stops)) = inr (λ more. ap (λ l. answer out (l ++ more)) stops ∙ stop_told out.tokens.items out.left f (rest ++ more))

-- a line that leaves the state
pub raises_does : {T : Type 0} (r : Result T LexFault) (out : Output) (e : Effect) (s : State) → e.next ≡ s → Raises r e.events → Does r out e out s
raises_does (Ok x) out e s next none = (next, λ more. ap (λ l. answer out (l ++ more)) (sym none))
raises_does (Err f) out e s next (rest, stops) = inr (λ more. ap (λ l. answer out (l ++ more)) stops ∙ stop_told out.tokens.items out.left f (rest ++ more))

-- the same effect by another name
pub does_same : {T : Type 0} (r : Result T LexFault) (old new : Output) (e told : Effect) (s : State) → e ≡ told → Does r old told new s → Does r old e new s
does_same r old new e told s same does = subst (λ x. Does r old x new s) (sym same) does

-- ---- lines one after another

pub line_told : (text : List ℕ) (line : List Piece) (rest : List (List Piece)) (start before now : Output) (whole : List Event) (s t : State)
    → ((effect text s line).next ≡ t) × ((more : List Event) → answer now more ≡ answer before ((effect text s line).events ++ more))
    → answer before (events text s (line ∷ rest)) ≡ answer start whole → answer now (events text t rest) ≡ answer start whole
unfolding events
line_told text line rest start before now whole s t (next, tells) so_far =
    tells (events text t rest) ∙ ap (λ u. answer before ((effect text s line).events ++ events text u rest)) (sym next) ∙ so_far

pub line_stopped : {T : Type 0} (X : Type 0) (r : Result T LexFault) (f : LexFault) (text : List ℕ) (line : List Piece) (rest : List (List Piece)) (start before : Output)
    (whole : List Event) (s : State) → IsErrAnd r (λ e. e ≡ f) → (f ≡ fault.Memory) ⊎ ((more : List Event) → answer before ((effect text s line).events ++ more) ≡ Err f)
    → answer before (events text s (line ∷ rest)) ≡ answer start whole
    → MatchResult r (λ _. X) (λ e. (e ≡ fault.Memory) ⊎ (answer start whole ≡ Err e))
unfolding events
line_stopped X (Ok x) f text line rest start before whole s passed stops so_far = absurd passed
line_stopped X (Err e) f text line rest start before whole s passed (inl memory) so_far = inl (passed ∙ memory)
line_stopped X (Err e) f text line rest start before whole s passed (inr stops) so_far =
    inr (sym so_far ∙ stops (events text (effect text s line).next rest) ∙ ap Err (sym passed))

empty : {A : Type 0} (xs : List A) → length xs ≡ 0 → xs ≡ []
empty [] h = refl
empty (x ∷ xs) h = absurd (omega arith)

pub lines_end : (text : List ℕ) (s : State) (pieces : List Piece) → length pieces ≡ 0 → events text s (lines pieces) ≡ ends (end_token text) s.conditions
unfolding events lines
lines_end text s pieces none = ap (λ l. events text s (lines l)) (empty pieces none)

-- ---- the kinds of lines

pub nothing_read : {T : Type 0} (x : T) (text : List ℕ) (s : State) (line : List Piece) (out : Output) → length line ≡ 0 → Does (Ok x) out (effect text s line) out s
unfolding effect
nothing_read x text s line out none = subst (λ l. Does (Ok x) out (effect text s l) out s) (sym (empty line none)) (refl, λ more. refl)

pub hash_line : (text : List ℕ) (s : State) (line rest : List Piece) (p : Piece) → line ≡ p ∷ rest → is_hash p.kind ≡ true → effect text s line ≡ directive_line text p rest s
unfolding effect
hash_line text s line rest p split hash = ap (effect text s) split ∙ ap (λ b. if b then directive_line text p rest s else plain_line text s (p ∷ rest)) hash

pub plain_read : (text : List ℕ) (s : State) (line rest : List Piece) (p : Piece) → line ≡ p ∷ rest → is_hash p.kind ≡ false → effect text s line ≡ plain_line text s line
unfolding effect
plain_read text s line rest p split hash =
    ap (effect text s) split ∙ ap (λ b. if b then directive_line text p rest s else plain_line text s (p ∷ rest)) hash ∙ ap (plain_line text s) (sym split)

pub plain_skipped : (text : List ℕ) (s : State) (line : List Piece) → part_shown s.conditions ≡ false → plain_line text s line ≡ skips line s
plain_skipped text s line hidden = ap (λ b. if b then record { events = flat_map (piece_events text s.macros) line; next = s } else skips line s) hidden

-- ---- the end

pub stays_open : (end : Token) (conditions rest : List Condition) (c : Condition) → conditions ≡ rest ++ c ∷ [] → ends end (reverse conditions) ≡ Stop (fault.BadDirective c.pos) ∷ []
stays_open end conditions rest c split = ap (λ l. ends end (reverse l)) split ∙ ap (ends end) (reverse-append rest (c ∷ []))
