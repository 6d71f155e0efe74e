-- Reading words line after line, as a loop does, and reading back what is written.
use Rattle.std.proofs.Common.{◌≡◌, ℕ, zero, suc, ◌+◌, ◌/◌, ◌%◌, ◌^◌, ◌<◌, ◌≤◌, true, false, List, [], ◌∷◌, ◌++◌, length, refl, sym, ap, ◌∙◌, append_assoc, arith}
use Rattle.std.specs.Prelude.{nat_lt, ◌==◌, slice_index, EachIndex, Result, Ok, Err}
use Rattle.std.specs.Int.{to_be_bytes, w32}
use Rattle.std.specs.List.{position_or_len}
use Rattle.std.proofs.lemmas.Nat.{from_be_bytes-to_be_bytes_4}
use Rattle.hex.specs.Hex.{IsBytes, decode_sized, encode_lower, encode_with, lower_digits}
use Rattle.hex.specs.declared.error.FromHexError.{FromHexError}
use Rattle.hex.proofs.HexLemmas.{decode_sized-encode_lower}
use Rattle.std.proofs.lemmas.Bool.Decides.{nat_tests}
use Rattle.std.proofs.lemmas.List.{append-nil}
use Rattle.asm_text.specs.declared.hexadecimal.HexFault.{HexFault}
use Rattle.asm_text.specs.declared.hexadecimal.HexFault.TheVariants.{TooLarge}
use Rattle.asm_text.specs.Lines.{lines}
use Rattle.asm_text.specs.HexLines.{most_words, hex_lines, hex_word, word_or_fault, word_before, hex_words_from}
use Rattle.asm_text.proofs.LineLaws.{by_test, line_before}

-- what was read before, and what is still read
abbrev pub with_front : List ℕ → Result (List ℕ) HexFault → Result (List ℕ) HexFault
with_front front (Ok words) = Ok (front ++ words)
with_front front (Err e) = Err e

at_line : (n : ℕ) (text line behind : List ℕ) → lines text ≡ line ∷ lines behind
    → hex_words_from n (lines text) ≡ word_before n (hex_word n line) (hex_words_from (n + 1) (lines behind))
unfolding hex_words_from
at_line n text line behind cut = rw cut refl

regrouped : (n : ℕ) (front : List ℕ) (w : ℕ) (more : Result (List ℕ) HexFault) → nat_lt most_words n ≡ false
    → with_front front (word_before n (Ok w) more) ≡ with_front (front ++ w ∷ []) more
regrouped n front w (Ok words) few = rw few (ap (λ (ws : List ℕ). Ok ws) (sym (append_assoc front (w ∷ []) words)))
regrouped n front w (Err e) few = rw few refl

pub goes_on : (n : ℕ) (front text line behind : List ℕ) (w : ℕ) (total : Result (List ℕ) HexFault) → lines text ≡ line ∷ lines behind → hex_word n line ≡ Ok w → n ≤ 65536
    → with_front front (hex_words_from n (lines text)) ≡ total → with_front (front ++ w ∷ []) (hex_words_from (n + 1) (lines behind)) ≡ total
goes_on n front text line behind w total cut found few so_far =
    let more : Result (List ℕ) HexFault = hex_words_from (n + 1) (lines behind) in
    let test : nat_lt most_words n ≡ false = grind (arith, nat_tests) in
    let one : hex_words_from n (lines text) ≡ word_before n (Ok w) more = at_line n text line behind cut ∙ ap (λ (r : Result ℕ HexFault). word_before n r more) found in
    sym (regrouped n front w more test) ∙ ap (with_front front) (sym one) ∙ so_far

pub is_refused : (n : ℕ) (front text line behind : List ℕ) (e : HexFault) (total : Result (List ℕ) HexFault) → lines text ≡ line ∷ lines behind → hex_word n line ≡ Err e
    → with_front front (hex_words_from n (lines text)) ≡ total → total ≡ Err e
is_refused n front text line behind e total cut found so_far =
    let one : hex_words_from n (lines text) ≡ Err e = at_line n text line behind cut ∙ ap (λ (r : Result ℕ HexFault). word_before n r (hex_words_from (n + 1) (lines behind))) found in
    sym so_far ∙ ap (with_front front) one

too_many : (n w : ℕ) (more : Result (List ℕ) HexFault) → nat_lt most_words n ≡ true → word_before n (Ok w) more ≡ Err (TooLarge (record { line = n; col = 1 }) n)
too_many n w (Ok words) many = rw many refl
too_many n w (Err e) many = rw many refl

pub is_too_large : (n : ℕ) (front text line behind : List ℕ) (w : ℕ) (total : Result (List ℕ) HexFault) → lines text ≡ line ∷ lines behind → hex_word n line ≡ Ok w → 65536 < n
    → with_front front (hex_words_from n (lines text)) ≡ total → total ≡ Err (TooLarge (record { line = n; col = 1 }) n)
is_too_large n front text line behind w total cut found many so_far =
    let more : Result (List ℕ) HexFault = hex_words_from (n + 1) (lines behind) in
    let test : nat_lt most_words n ≡ true = grind (arith, nat_tests) in
    let one : hex_words_from n (lines text) ≡ word_before n (Ok w) more = at_line n text line behind cut ∙ ap (λ (r : Result ℕ HexFault). word_before n r more) found in
    sym so_far ∙ ap (with_front front) (one ∙ too_many n w more test)

pub is_done : (n : ℕ) (front text : List ℕ) (total : Result (List ℕ) HexFault) → length text ≡ 0 → with_front front (hex_words_from n (lines text)) ≡ total → total ≡ Ok front
unfolding hex_words_from lines
is_done n front [] total none so_far = sym so_far ∙ ap (λ (ws : List ℕ). Ok ws) (append-nil front)
is_done n front (b ∷ rest) total none so_far = absurd (omega arith)

-- ---- what `hex_lines` writes is read back

-- no digit is a line feed, nor is what stands past the digits
among : (t : List ℕ) → position_or_len (λ b. b == 10) t ≡ length t → (k : ℕ) → (slice_index t k == 10) ≡ false
among [] none k = refl
among (b ∷ t) none zero = by_test (b == 10) (λ e. absurd (omega (arith, rw e at none))) (λ e. e)
among (b ∷ t) none (suc k) = by_test (b == 10)
    (λ e. absurd (omega (arith, rw e at none)))
    (λ e.
    let more : position_or_len (λ b. b == 10) t ≡ length t = omega (arith, rw e at none) in
    among t more k)

no_feed_at : (k : ℕ) → (slice_index lower_digits k == 10) ≡ false
no_feed_at k = among lower_digits refl k

no_feed_in : (bytes : List ℕ) → position_or_len (λ b. b == 10) (encode_lower bytes) ≡ length (encode_lower bytes)
unfolding encode_with
no_feed_in [] = refl
no_feed_in (b ∷ rest) =
    let more : position_or_len (λ b. b == 10) (encode_lower rest) ≡ length (encode_lower rest) = no_feed_in rest in
    rw (no_feed_at (b / 16), no_feed_at (b % 16)) (omega arith)

four_bytes : (w : ℕ) → length (to_be_bytes w32 w) ≡ 4
four_bytes w = refl

are_bytes : (w : ℕ) → IsBytes (to_be_bytes w32 w)
are_bytes w zero = omega arith
are_bytes w (suc zero) = omega arith
are_bytes w (suc (suc zero)) = omega arith
are_bytes w (suc (suc (suc zero))) = omega arith
are_bytes w (suc (suc (suc (suc k)))) = omega arith

word_reads_back : (n w : ℕ) → w < 2 ^ 32 → hex_word n (encode_lower (to_be_bytes w32 w)) ≡ Ok w
unfolding hex_word
word_reads_back n w small =
    let decoded : decode_sized (encode_lower (to_be_bytes w32 w)) 4 ≡ Ok (to_be_bytes w32 w) = decode_sized-encode_lower (to_be_bytes w32 w) 4 (four_bytes w) (are_bytes w) in
    ap (λ (r : Result (List ℕ) FromHexError). word_or_fault n (encode_lower (to_be_bytes w32 w)) r) decoded
    ∙ ap (λ (v : ℕ). Ok v) (from_be_bytes-to_be_bytes_4 w small)

first_line : (w : ℕ) (ws : List ℕ) → lines (hex_lines (w ∷ ws)) ≡ encode_lower (to_be_bytes w32 w) ∷ lines (hex_lines ws)
first_line w ws =
    ap lines (append_assoc (encode_lower (to_be_bytes w32 w)) (10 ∷ []) (hex_lines ws))
    ∙ line_before (encode_lower (to_be_bytes w32 w)) (hex_lines ws) (no_feed_in (to_be_bytes w32 w))

words_read_back : (n : ℕ) (ws : List ℕ) → n + length ws ≤ 65537 → EachIndex ws (λ k. slice_index ws k < 2 ^ 32) → hex_words_from n (lines (hex_lines ws)) ≡ Ok ws
unfolding hex_words_from lines
words_read_back n [] few small = refl
words_read_back n (w ∷ ws) few small =
    let more : Result (List ℕ) HexFault = hex_words_from (n + 1) (lines (hex_lines ws)) in
    let test : nat_lt most_words n ≡ false = grind (arith, nat_tests) in
    let head : hex_word n (encode_lower (to_be_bytes w32 w)) ≡ Ok w = word_reads_back n w (small 0 (omega arith)) in
    let tail : hex_words_from (n + 1) (lines (hex_lines ws)) ≡ Ok ws = words_read_back (n + 1) ws (omega arith) (λ k lt. small (suc k) (omega arith)) in
    let one : hex_words_from n (lines (hex_lines (w ∷ ws))) ≡ word_before n (Ok w) (Ok ws) =
    at_line n (hex_lines (w ∷ ws)) (encode_lower (to_be_bytes w32 w)) (hex_lines ws) (first_line w ws)
    ∙ ap (λ (r : Result ℕ HexFault). word_before n r (hex_words_from (n + 1) (lines (hex_lines ws)))) head
    ∙ ap (λ (r : Result (List ℕ) HexFault). word_before n (Ok w) r) tail in
    let two : word_before n (Ok w) (Ok ws) ≡ Ok (w ∷ ws) = rw test refl in
    one ∙ two

pub texts_read_back : (ws : List ℕ) → length ws ≤ 65536 → EachIndex ws (λ k. slice_index ws k < 2 ^ 32) → hex_words_from 1 (lines (hex_lines ws)) ≡ Ok ws
texts_read_back ws few small = words_read_back 1 ws (omega arith) small
