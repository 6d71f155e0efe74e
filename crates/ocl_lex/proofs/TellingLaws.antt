-- Events that are told one after another.
use Rattle.std.proofs.Common.{◌≡◌, ℕ, zero, suc, ◌-◌, ◌<◌, List, [], ◌∷◌, ◌++◌, Result, Ok, Err, refl, ap, ◌∙◌, arith, append_assoc}
use Rattle.vx_base.specs.declared.types.Pos.{Pos}
use Rattle.ocl_tokens.specs.declared.tokens.Token.{Token}
use Rattle.ocl_lex.specs.declared.faults.LexFault.{LexFault}
use Rattle.ocl_lex.specs.declared.faults.LexFault.TheVariants as fault
use Rattle.ocl_lex.specs.Events.{Event, Show, Use, Stop, within, with_front}

with_both_fronts : (a b : List Token) (r : Result (List Token) LexFault) → with_front (a ++ b) r ≡ with_front a (with_front b r)
with_both_fronts a b (Ok tokens) = ap Ok (append_assoc a b tokens)
with_both_fronts a b (Err f) = refl

pub show_told : (tokens : List Token) (left : ℕ) (t : Token) → 0 < left → (more : List Event)
    → with_front (tokens ++ t ∷ []) (within (left - 1) more) ≡ with_front tokens (within left (Show t ∷ more))
unfolding within
show_told tokens zero t some more = absurd (omega arith)
show_told tokens (suc n) t some more =
    let same : suc n - 1 ≡ n = omega arith in
    ap (λ k. with_front (tokens ++ t ∷ []) (within k more)) same ∙ with_both_fronts tokens (t ∷ []) (within n more)

pub show_too_many : (tokens : List Token) (left : ℕ) (t : Token) → left ≡ 0 → (more : List Event) → with_front tokens (within left (Show t ∷ more)) ≡ Err (fault.TooManyTokens t.pos)
unfolding within
show_too_many tokens left t none more = ap (λ k. with_front tokens (within k (Show t ∷ more))) none

pub use_told : (tokens : List Token) (left : ℕ) (pos : Pos) → 0 < left → (more : List Event)
    → with_front tokens (within (left - 1) more) ≡ with_front tokens (within left (Use pos ∷ more))
unfolding within
use_told tokens zero pos some more = absurd (omega arith)
use_told tokens (suc n) pos some more =
    let same : suc n - 1 ≡ n = omega arith in
    ap (λ k. with_front tokens (within k more)) same

pub use_too_many : (tokens : List Token) (left : ℕ) (pos : Pos) → left ≡ 0 → (more : List Event) → with_front tokens (within left (Use pos ∷ more)) ≡ Err (fault.TooManyTokens pos)
unfolding within
use_too_many tokens left pos none more = ap (λ k. with_front tokens (within k (Use pos ∷ more))) none

pub stop_told : (tokens : List Token) (left : ℕ) (f : LexFault) (more : List Event) → with_front tokens (within left (Stop f ∷ more)) ≡ Err f
unfolding within
stop_told tokens left f more = refl

pub ruleset telling = (show_told, show_too_many, use_told, use_too_many, stop_told)
