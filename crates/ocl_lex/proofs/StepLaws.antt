-- A part of a replacement, told.
use Rattle.std.proofs.Common.{◌≡◌, ℕ, ◌⊎◌, inl, inr, true, List, [], ◌∷◌, ◌++◌, Some, None, Result, Ok, Err, refl, sym, ap, ◌∙◌}
use Rattle.std.specs.Prelude.{OnOk, IsErrAnd}
use Rattle.std.specs.Borrow.{Bor}
use Rattle.ocl_lex.specs.declared.faults.LexFault.{LexFault}
use Rattle.ocl_lex.specs.declared.faults.LexFault.TheVariants as fault
use Rattle.ocl_lex.specs.declared.output.Output.{Output}
use Rattle.ocl_lex.specs.declared.parts.Lexeme.{Lexeme}
use Rattle.ocl_lex.specs.declared.pieces.Piece.{Piece}
use Rattle.ocl_lex.specs.Events.{Event, Show, Use}
use Rattle.ocl_lex.specs.Frames.{Frames, StepsOn, inner_events, pending, seen}
use Rattle.ocl_lex.specs.Macros.{Macros, found, replaced, without}
use Rattle.ocl_lex.specs.Parts.{name_of, token_at}
use Rattle.ocl_lex.specs.Telling.{Tells, TellsInFront, answer}
use Rattle.ocl_lex.proofs.ReplacedLaws.{replaced_found, replaced_plain}
use Rattle.ocl_lex.proofs.FrameLaws.{pending_push}

-- what is told in place of some events, one of which is told
tells_first : {T : Type 0} (r : Result T LexFault) (old new : Output) (e : Event) (before now rest : List Event) → before ≡ e ∷ rest → OnOk r (now ≡ rest)
    → Tells r old new (e ∷ []) → TellsInFront r old before new now
tells_first (Ok x) old new e before now rest begins same tells = λ more.
    ap (λ l. answer new (l ++ more)) same ∙ tells (rest ++ more) ∙ sym (ap (λ l. answer old (l ++ more)) begins)
tells_first (Err f) old new e before now rest begins same (inl memory) = inl memory
tells_first (Err f) old new e before now rest begins same (inr stops) = inr (λ more. ap (λ l. answer old (l ++ more)) begins ∙ stops (rest ++ more))

on_ok : {T : Type 0} {P Q : Type 0} (r : Result T LexFault) → (P → Q) → OnOk r P → OnOk r Q
on_ok (Ok x) f h = f h
on_ok (Err e) f h = h

pub steps_open : {T : Type 0} (r : Result T LexFault) (text : List ℕ) (at : Piece) (macros : Macros) (old new : Output) (frames frames_new : Frames) (p : Lexeme)
    (f : Bor (List ℕ) × Bor (List Lexeme)) → found text (seen macros frames) p ≡ Some f.1.now → f.0.now ≡ name_of text p
    → Tells r old new (Use at.pos ∷ []) → OnOk r (frames_new ≡ frames ++ f ∷ []) → StepsOn r text at macros old frames p new frames_new
steps_open r text at macros old new frames frames_new p f there named tells pushed =
    let inner : List Event = inner_events text at (without f.0.now (seen macros frames)) f.1.now in
    let one : replaced text (seen macros frames) true at p ≡ Use at.pos ∷ inner_events text at (without f.0.now (seen macros frames)) f.1.now =
    replaced_found text (seen macros frames) true at p f.1.now there ∙ ap (λ n. Use at.pos ∷ inner_events text at (without n (seen macros frames)) f.1.now) (sym named) in
    let two : replaced text (seen macros frames) true at p ++ pending text at macros frames
    ≡ Use at.pos ∷ (inner_events text at (without f.0.now (seen macros frames)) f.1.now ++ pending text at macros frames) = ap (λ l. l ++ pending text at macros frames) one in
    tells_first r old new (Use at.pos) _ (pending text at macros frames_new) _ two
    (on_ok r (λ e. ap (pending text at macros) e ∙ pending_push text at macros frames f) pushed) tells

same_on_ok : {T : Type 0} {A : Type 0} (r : Result T LexFault) (x : A) → OnOk r (x ≡ x)
same_on_ok (Ok y) x = refl
same_on_ok (Err e) x = tt

pub steps_show : {T : Type 0} (r : Result T LexFault) (text : List ℕ) (at : Piece) (macros : Macros) (old new : Output) (frames : Frames) (p : Lexeme)
    → found text (seen macros frames) p ≡ None → Tells r old new (Show (token_at text true at p) ∷ []) → StepsOn r text at macros old frames p new frames
steps_show r text at macros old new frames p none tells =
    let one : replaced text (seen macros frames) true at p ++ pending text at macros frames ≡ Show (token_at text true at p) ∷ pending text at macros frames =
    ap (λ l. l ++ pending text at macros frames) (replaced_plain text (seen macros frames) true at p none) in
    tells_first r old new (Show (token_at text true at p)) _ (pending text at macros frames) _ one (same_on_ok r (pending text at macros frames)) tells

-- a fault that is passed on
pub passes_fault : {T : Type 0} (r : Result T LexFault) (f : LexFault) (old new : Output) (before first now : List Event) → IsErrAnd r (λ e. e ≡ f) → before ≡ first
    → (f ≡ fault.Memory) ⊎ ((more : List Event) → answer old (first ++ more) ≡ Err f) → TellsInFront r old before new now
passes_fault (Ok x) f old new before first now passed same stops = absurd passed
passes_fault (Err e) f old new before first now passed same (inl memory) = inl (passed ∙ memory)
passes_fault (Err e) f old new before first now passed same (inr stops) = inr (λ more. ap (λ l. answer old (l ++ more)) same ∙ stops more ∙ ap Err (sym passed))

pub passes_later : {T : Type 0} (r : Result T LexFault) (f : LexFault) (old middle new : Output) (whole part : List Event) → IsErrAnd r (λ e. e ≡ f)
    → ((more : List Event) → answer middle (part ++ more) ≡ answer old (whole ++ more))
    → (f ≡ fault.Memory) ⊎ ((more : List Event) → answer middle (part ++ more) ≡ Err f) → Tells r old new whole
passes_later (Ok x) f old middle new whole part passed so_far stops = absurd passed
passes_later (Err e) f old middle new whole part passed so_far (inl memory) = inl (passed ∙ memory)
passes_later (Err e) f old middle new whole part passed so_far (inr stops) = inr (λ more. sym (so_far more) ∙ stops more ∙ ap Err (sym passed))
