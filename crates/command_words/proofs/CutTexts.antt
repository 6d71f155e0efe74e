-- Texts that are cut at a byte, and what stands behind a `-`.
use Rattle.std.proofs.Common.{◌≡◌, ◌≢◌, ℕ, suc, ◌<◌, Bool, cond, Option, Some, None, List, [], ◌∷◌, ◌++◌, length, get_or, refl, ap, ◌∙◌, arith}
use Rattle.std.specs.Option.{MatchOption, option_map}
use Rattle.std.proofs.lemmas.Bool.{ne_eqb, eq-eqb}
use Rattle.command_words.specs.Cuts.{cut, behind_minus}

-- a clause on an `Option`, with each side replaced by what follows from it
pub MatchOption-weaker : {X : Type 0} (r : Option X) (P P' : Type 0) (Q Q' : X → Type 0) → (P → P') → ((x : X) → Q x → Q' x) → MatchOption r P Q → MatchOption r P' Q'
MatchOption-weaker None P P' Q Q' f g h = f h
MatchOption-weaker (Some x) P P' Q Q' f g h = g x h

abbrev put : ℕ → List ℕ × List ℕ → List ℕ × List ℕ
put c p = (c ∷ p.0, p.1)

pub cut_none : (byte : ℕ) (text : List ℕ) → ((i : ℕ) → i < length text → get_or text i 0 ≢ byte) → cut byte text ≡ None
cut_none byte [] h = refl
cut_none byte (c ∷ cs) h =
    ap (λ (b : Bool). cond b (Some ([], cs)) (option_map (put c) (cut byte cs))) (ne_eqb c byte (h 0 (omega arith)))
    ∙ ap (option_map (put c)) (cut_none byte cs (λ i l. h (suc i) (omega arith)))

pub cut_at : (byte : ℕ) (front back : List ℕ) → ((i : ℕ) → i < length front → get_or front i 0 ≢ byte) → cut byte (front ++ byte ∷ back) ≡ Some (front, back)
cut_at byte [] back h = ap (λ (b : Bool). cond b (Some ([], back)) (option_map (put byte) (cut byte back))) (eq-eqb byte byte refl)
cut_at byte (c ∷ cs) back h =
    ap (λ (b : Bool). cond b (Some ([], cs ++ byte ∷ back)) (option_map (put c) (cut byte (cs ++ byte ∷ back)))) (ne_eqb c byte (h 0 (omega arith)))
    ∙ ap (option_map (put c)) (cut_at byte cs back (λ i l. h (suc i) (omega arith)))

pub cut_some : (byte : ℕ) (text front back : List ℕ) → (text ≡ front ++ byte ∷ back) × ((i : ℕ) → i < length front → get_or front i 0 ≢ byte) → cut byte text ≡ Some (front, back)
cut_some byte text front back h = ap (cut byte) h.0 ∙ cut_at byte front back h.1

pub minus_none : (text : List ℕ) → ((rest : List ℕ) → text ≢ 45 ∷ rest) → behind_minus text ≡ None
minus_none [] h = refl
minus_none (c ∷ cs) h = ap (λ (b : Bool). cond b (Some cs) None) (ne_eqb c 45 (λ e. h cs (ap (λ x. x ∷ cs) e)))

pub minus_some : (text rest : List ℕ) → text ≡ 45 ∷ rest → behind_minus text ≡ Some rest
minus_some text rest e = ap behind_minus e
