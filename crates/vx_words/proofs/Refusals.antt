-- What a refusal says, passed on by a `?`.
use Rattle.std.proofs.Common.{◌≡◌, Option, Some, None, Result, Err, sym, subst}
use Rattle.std.specs.Option.{MatchOption}
use Rattle.std.specs.Result.{IsErrAnd, MatchResult}
use Rattle.std.proofs.lemmas.Result.{err_from_is_err_and}
use Rattle.vx_words.specs.declared.usage.UsageFault.{UsageFault}
use Rattle.vx_words.specs.declared.usage.UsageFault.TheVariants.{Usage, Memory}
use Rattle.vx_words.specs.WordForms.{IsBadForm}

-- a bad form for one reason is one for each that follows
pub IsBadForm-weaker : (fault : UsageFault) (A B : Type 0) → (A → B) → IsBadForm fault A → IsBadForm fault B
IsBadForm-weaker (Usage word kind) A B f h = (h.0, h.1, f h.2)
IsBadForm-weaker Memory A B f h = tt

-- what the exit of a `?` returns, where the refused part shows that the whole is refused
pub refused : {X : Type 0} (r : Result X UsageFault) (fault : UsageFault) (P : X → Type 0) (A B : Type 0) → IsErrAnd r (λ e. e ≡ fault) → IsBadForm fault A → (A → B) → MatchResult r P (λ e. IsBadForm e B)
refused {X = X} r fault P A B err bad f =
    let p = err_from_is_err_and r err in
    let G : Result X UsageFault → Type 0 = λ (x : Result X UsageFault). MatchResult x P (λ e. IsBadForm e B) in
    let e : Err p.0 ≡ r = sym p.1 in
    let h : IsBadForm p.0 B = subst (λ (x : UsageFault). IsBadForm x B) (sym p.2) (IsBadForm-weaker fault A B f bad) in
    subst G e h

-- a clause on an `Option`, with each side replaced by what follows from it
pub MatchOption-weaker : {X : Type 0} (r : Option X) (P P' : Type 0) (Q Q' : X → Type 0) → (P → P') → ((x : X) → Q x → Q' x) → MatchOption r P Q → MatchOption r P' Q'
MatchOption-weaker None P P' Q Q' f g h = f h
MatchOption-weaker (Some x) P P' Q Q' f g h = g x h
