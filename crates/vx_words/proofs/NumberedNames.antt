-- The numbers of named buffers.
use Rattle.std.proofs.Common.{◌≡◌, ◌≢◌, ℕ, zero, suc, ◌+◌, ◌<◌, ◌≤◌, inl, inr, Option, Some, None, List, [], ◌∷◌, ◌++◌, length, get_or, take, map, subst, refl, sym, ap, ◌∙◌, arith}
use Rattle.std.proofs.lemmas.List.{length-map, take_more}
use Rattle.std.specs.Prelude.{slice_get}
use Rattle.std.specs.Option.{MatchOption, option_map}
use Rattle.std.proofs.lemmas.Option.{slice_get-map, slice_get_read, slice_get_within, same_Some}
use Rattle.std.proofs.lemmas.Bool.{cases_order}
use Rattle.vx_words.specs.declared.run_words.BufWord.{BufWord}
use Rattle.vx_words.specs.Words.{AreNumbersOf, AreDistinct}
use Rattle.vx_words.specs.WordForms.{IsFirstOf}

abbrev pub names_of : List BufWord → List (List ℕ)
names_of bs = map (λ b. b.name) bs

-- the name of the buffer at a place
pub name_at : (bs : List BufWord) (i : ℕ) (b : BufWord) → i < length bs → b ≡ get_or bs i b → slice_get (names_of bs) i ≡ Some b.name
name_at bs i b l is = slice_get-map (λ (x : BufWord). x.name) bs i ∙ ap (option_map (λ (x : BufWord). x.name)) (slice_get_read bs (length bs) i b refl l is)

-- the buffer at a place does not have the name
pub name_apart : (bs : List BufWord) (i : ℕ) (b : BufWord) (name : List ℕ) → i < length bs → b ≡ get_or bs i b → (b.name ≡ name → ⊥) → slice_get (names_of bs) i ≢ Some name
name_apart bs i b name l is apart e = apart (same_Some b.name name (sym (name_at bs i b l is) ∙ e))

pub name_within : (bs : List BufWord) (n : ℕ) (name : List ℕ) → slice_get (names_of bs) n ≡ Some name → n < length bs
name_within bs n name e = omega (arith, slice_get_within (names_of bs) n name e, length-map bs (λ (b : BufWord). b.name))

-- where the first buffer with a buffer's name is another one, two have one name
pub not_first : (names : List (List ℕ)) (n i : ℕ) (name : List ℕ) (r : Option ℕ) → slice_get names i ≡ Some name → MatchOption r ((k : ℕ) → slice_get names k ≢ Some name) (λ k. (k < n) × IsFirstOf names k name) → (r ≡ Some i → ⊥) → AreDistinct names → ⊥
not_first names n i name None e h ne distinct = h i e
not_first names n i name (Some k) e h ne distinct = ne (ap Some (distinct k i name h.1.0 e))

-- where each buffer is the first with its name, no two have one name
pub distinct_from_first : (names : List (List ℕ)) (n : ℕ) → length names ≤ n → ((k j : ℕ) → k < n → j < k → slice_get names j ≢ slice_get names k) → AreDistinct names
distinct_from_first names n all first i j name ei ej =
    elim (cases_order i j) [
      | inl same ↦ same
      | inr apart ↦ elim apart [
        | inl less ↦ absurd (first j i (omega (arith, slice_get_within names j name ej)) less (ei ∙ sym ej))
        | inr more ↦ absurd (first i j (omega (arith, slice_get_within names i name ei)) more (ej ∙ sym ei))
      ]
    ]

-- one more name
pub AreNumbersOf-push : (bs : List BufWord) (ns : List ℕ) (names : List (List ℕ)) (n : ℕ) (name : List ℕ) → AreNumbersOf bs ns names → n < length bs → slice_get (names_of bs) n ≡ Some name → AreNumbersOf bs (ns ++ n ∷ []) (names ++ name ∷ [])
AreNumbersOf-push bs [] [] n name h l e = (l, e, tt)
AreNumbersOf-push bs (k ∷ ns) (m ∷ names) n name h l e = (h.0, h.1, AreNumbersOf-push bs ns names n name h.2 l e)
AreNumbersOf-push bs [] (m ∷ names) n name h l e = absurd h
AreNumbersOf-push bs (k ∷ ns) [] n name h l e = absurd h

pub AreNumbersOf-more : (bs : List BufWord) (ns : List ℕ) (names : List (List ℕ)) (i n : ℕ) (name : List ℕ) → i < length names → name ≡ get_or names i name → AreNumbersOf bs ns (take i names) → n < length bs → slice_get (names_of bs) n ≡ Some name → AreNumbersOf bs (ns ++ n ∷ []) (take (i + 1) names)
AreNumbersOf-more bs ns names i n name l is h within e =
    let more : take (i + 1) names ≡ take i names ++ name ∷ [] = take_more names i name l ∙ ap (λ (x : List ℕ). take i names ++ x ∷ []) (sym is) in
    subst (AreNumbersOf bs (ns ++ n ∷ [])) (sym more) (AreNumbersOf-push bs ns (take i names) n name h within e)

-- a name that no buffer has
pub no_numbers : (bs : List BufWord) (ns : List ℕ) (names : List (List ℕ)) (i : ℕ) (d : List ℕ) → i < length names → ((n : ℕ) → slice_get (names_of bs) n ≢ Some (get_or names i d)) → AreNumbersOf bs ns names → ⊥
no_numbers bs ns [] i d l none h = omega arith
no_numbers bs [] (m ∷ names) i d l none h = h
no_numbers bs (n ∷ ns) (m ∷ names) zero d l none h = none n h.1
no_numbers bs (n ∷ ns) (m ∷ names) (suc i) d l none h = no_numbers bs ns names i d (omega arith) none h.2

pub AreNumbersOf-length : (bs : List BufWord) (ns : List ℕ) (names : List (List ℕ)) → AreNumbersOf bs ns names → length ns ≡ length names
AreNumbersOf-length bs [] [] h = refl
AreNumbersOf-length bs (n ∷ ns) (m ∷ names) h = ap (λ (k : ℕ). suc k) (AreNumbersOf-length bs ns names h.2)
AreNumbersOf-length bs [] (m ∷ names) h = absurd h
AreNumbersOf-length bs (n ∷ ns) [] h = absurd h

-- names have one list of numbers
pub AreNumbersOf-same : (bs : List BufWord) (ns ms : List ℕ) (names : List (List ℕ)) → AreDistinct (names_of bs) → AreNumbersOf bs ns names → AreNumbersOf bs ms names → ns ≡ ms
AreNumbersOf-same bs [] [] [] distinct h k = refl
AreNumbersOf-same bs [] (m ∷ ms) [] distinct h k = absurd k
AreNumbersOf-same bs (n ∷ ns) ms [] distinct h k = absurd h
AreNumbersOf-same bs [] ms (a ∷ names) distinct h k = absurd h
AreNumbersOf-same bs (n ∷ ns) [] (a ∷ names) distinct h k = absurd k
AreNumbersOf-same bs (n ∷ ns) (m ∷ ms) (a ∷ names) distinct h k =
    let head : n ≡ m = distinct n m a h.1 k.1 in
    let tail : ns ≡ ms = AreNumbersOf-same bs ns ms names distinct h.2 k.2 in
    cc
