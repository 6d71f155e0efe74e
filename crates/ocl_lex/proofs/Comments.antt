-- The end of a comment, found by going on byte by byte.
use Rattle.std.proofs.Common.{◌≡◌, ℕ, ◌+◌, ◌-◌, ◌<◌, ◌≤◌, Bool, true, false, List, [], ◌∷◌, length, drop, Option, Some, None, refl, sym, ap, subst, true≢false, ◌&&◌, ◌∙◌, arith, get_or}
use Rattle.std.specs.Prelude.{◌==◌}
use Rattle.std.specs.Option.{option_map}
use Rattle.std.proofs.lemmas.List.{drop_more, drop_all, length-drop}
use Rattle.ocl_lex.specs.Pieces.{closes, closing_len}

abbrev pub further : ℕ → Option ℕ → Option ℕ
further k o = option_map (λ n. n + k) o

further_twice : (k : ℕ) (o : Option ℕ) → further k (further 1 o) ≡ further (k + 1) o
further_twice k None = refl
further_twice k (Some n) = ap Some (omega arith)

pub closing_starts : (text : List ℕ) → closing_len text ≡ further 0 (closing_len (drop 0 text))
closing_starts text = by (closing_len text)
  where
    by : (o : Option ℕ) → o ≡ further 0 o
    by None = refl
    by (Some n) = ap Some (omega arith)

step : (c : ℕ) (rest : List ℕ) → closes (c ∷ rest) ≡ false → closing_len (c ∷ rest) ≡ further 1 (closing_len rest)
unfolding closing_len
step c rest h = rw h refl

found : (c : ℕ) (rest : List ℕ) → closes (c ∷ rest) ≡ true → closing_len (c ∷ rest) ≡ Some 2
unfolding closing_len
found c rest h = rw h refl

pub closing_goes_on : (text : List ℕ) (i : ℕ) → i < length text → closes (drop i text) ≡ false
    → closing_len text ≡ further i (closing_len (drop i text)) → closing_len text ≡ further (i + 1) (closing_len (drop (i + 1) text))
closing_goes_on text i within test so_far =
    let one : drop i text ≡ get_or text i 0 ∷ drop (i + 1) text = drop_more text i 0 within in
    let here : closes (get_or text i 0 ∷ drop (i + 1) text) ≡ false = subst (λ l. closes l ≡ false) one test in
    let two : closing_len (drop i text) ≡ further 1 (closing_len (drop (i + 1) text)) = rw one (step (get_or text i 0) (drop (i + 1) text) here) in
    so_far ∙ ap (further i) two ∙ further_twice i (closing_len (drop (i + 1) text))

pub closing_found : (text : List ℕ) (i : ℕ) → i < length text → closes (drop i text) ≡ true
    → closing_len text ≡ further i (closing_len (drop i text)) → Some (i + 2) ≡ closing_len text
closing_found text i within test so_far =
    let one : drop i text ≡ get_or text i 0 ∷ drop (i + 1) text = drop_more text i 0 within in
    let here : closes (get_or text i 0 ∷ drop (i + 1) text) ≡ true = subst (λ l. closes l ≡ true) one test in
    let two : closing_len (drop i text) ≡ Some 2 = rw one (found (get_or text i 0) (drop (i + 1) text) here) in
    let three : closing_len text ≡ Some (2 + i) = so_far ∙ ap (further i) two in
    let same : 2 + i ≡ i + 2 = omega arith in
    sym (three ∙ ap Some same)

pub closing_ends : (text : List ℕ) (i : ℕ) → length text ≤ i → closing_len text ≡ further i (closing_len (drop i text)) → None ≡ closing_len text
unfolding closing_len
closing_ends text i past so_far =
    let none : drop i text ≡ [] = drop_all i text past in
    let zero : closing_len (drop i text) ≡ None = rw none refl in
    sym (so_far ∙ ap (further i) zero)

no_second : (a : Bool) → (a && false) ≡ true → ⊥
no_second true h = true≢false (sym h)
no_second false h = true≢false (sym h)

pub within_text : (text : List ℕ) (i : ℕ) → closes (drop i text) ≡ true → i + 2 ≤ length text
within_text text i h = by (drop i text) h (length-drop i text)
  where
    by : (rest : List ℕ) → closes rest ≡ true → length rest ≡ length text - i → i + 2 ≤ length text
    by [] t len = absurd (true≢false (sym t))
    by (b ∷ []) t len = absurd (no_second (b == 42) t)
    by (b ∷ c ∷ rest) t len = omega arith
