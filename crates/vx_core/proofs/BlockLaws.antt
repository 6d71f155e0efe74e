-- A launch block at the head of a scratchpad, word by word.
use Rattle.std.proofs.Common.{◌≡◌, ℕ, ◌+◌, ◌*◌, ◌<◌, List, [], ◌∷◌, ◌++◌, length, get_or, take, drop, ap, sym, ◌∙◌, subst, arith, refl}
use Rattle.std.specs.List.{flat_map}
use Rattle.std.proofs.lemmas.Grind.{flat_map-append}
use Rattle.std.proofs.lemmas.List.{length-take-le, take_more}
use Rattle.std.proofs.Math.Seq.{take-append_seam, drop-append-add, drop-drop}
use Rattle.vx_base.specs.Bytes.{number_bytes, with_field}

-- the bytes of words
abbrev pub bytes_in : List ℕ → List ℕ
bytes_in words = flat_map (λ word. number_bytes word 4) words

length-bytes_in : (words : List ℕ) → length (bytes_in words) ≡ 4 * length words
length-bytes_in [] = refl
length-bytes_in (word ∷ words) = let rest : length (bytes_in words) ≡ 4 * length words = length-bytes_in words in omega (arith, rest)

-- bytes behind others, in place of as many
bytes_behind : (front rest bytes back : List ℕ) → drop 4 rest ≡ back → (take (length front) (front ++ rest) ++ bytes) ++ drop (length front + 4) (front ++ rest) ≡ (front ++ bytes) ++ back
bytes_behind front rest bytes back same = rw (take-append_seam front rest, drop-append-add front rest 4, same) refl

word_behind : (front old : List ℕ) (at word : ℕ) → length front ≡ at → with_field (front ++ drop at old) at 4 word ≡ (front ++ number_bytes word 4) ++ drop (at + 4) old
word_behind front old at word same =
    subst (λ (n : ℕ). with_field (front ++ drop at old) n 4 word ≡ (front ++ number_bytes word 4) ++ drop (at + 4) old) same
    (bytes_behind front (drop at old) (number_bytes word 4) (drop (at + 4) old) (drop-drop 4 at old))

-- the block as far as it is written
abbrev pub block_below : ℕ → List ℕ → List ℕ → List ℕ
block_below n block old = bytes_in (take n block) ++ drop (4 * n) old

pub block_below-more : (n : ℕ) (block old : List ℕ) (word : ℕ) → n < length block → word ≡ get_or block n 0 → with_field (block_below n block old) (4 * n) 4 word ≡ block_below (n + 1) block old
block_below-more n block old word within is =
    let front : length (bytes_in (take n block)) ≡ 4 * n = length-bytes_in (take n block) ∙ ap (λ (k : ℕ). 4 * k) (length-take-le n block (omega arith)) in
    let more : take (n + 1) block ≡ take n block ++ word ∷ [] = take_more block n 0 within ∙ ap (λ (w : ℕ). take n block ++ w ∷ []) (sym is) in
    let end : 4 * n + 4 ≡ 4 * (n + 1) = omega arith in
    word_behind (bytes_in (take n block)) old (4 * n) word front
    ∙ ap (λ (l : List ℕ). l ++ drop (4 * n + 4) old) (sym (ap bytes_in more ∙ flat_map-append (λ w. number_bytes w 4) (take n block) (word ∷ [])))
    ∙ ap (λ (k : ℕ). bytes_in (take (n + 1) block) ++ drop k old) end
