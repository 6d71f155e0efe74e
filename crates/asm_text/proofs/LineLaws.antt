-- How a text falls into its first line and the rest.
use Rattle.std.proofs.Common.{◌≡◌, ℕ, suc, ◌+◌, ◌<◌, Bool, true, false, List, [], ◌∷◌, ◌++◌, length, take, drop, Some, None, refl, ap, ◌∙◌, arith}
use Rattle.std.specs.Prelude.{◌==◌, nat_lt}
use Rattle.std.specs.List.{onto_first, position, position_or_len}
use Rattle.std.proofs.lemmas.Bool.Decides.{nat_tests}
use Rattle.asm_text.specs.Lines.{lines}

abbrev is_feed : ℕ → Bool
is_feed b = b == 10

-- by the cases of a test
pub by_test : {P : Type 0} (t : Bool) → (t ≡ true → P) → (t ≡ false → P) → P
by_test true if_true if_false = if_true refl
by_test false if_true if_false = if_false refl

-- the line before the first line feed
cut_first : (text : List ℕ) → position_or_len is_feed text < length text
    → lines text ≡ take (position_or_len is_feed text) text ∷ lines (drop (position_or_len is_feed text + 1) text)
unfolding lines
cut_first [] h = absurd (omega arith)
cut_first (b ∷ rest) h = by_test (b == 10)
    (λ e. rw e refl)
    (λ e.
    let k : ℕ = position_or_len is_feed rest in
    let at : position_or_len is_feed (b ∷ rest) ≡ suc k = rw e (omega arith) in
    let behind : suc k + 1 ≡ suc (k + 1) = omega arith in
    let within : k < length rest = omega (arith, rw at at h) in
    let one : lines (b ∷ rest) ≡ onto_first b (lines rest) = rw e refl in
    let two : lines rest ≡ take k rest ∷ lines (drop (k + 1) rest) = cut_first rest within in
    let three : onto_first b (lines rest) ≡ (b ∷ take k rest) ∷ lines (drop (k + 1) rest) = ap (onto_first b) two in
    rw at (rw behind (one ∙ three)))

-- a text without line feeds
no_feed : (text : List ℕ) → 0 < length text → length text < position_or_len is_feed text + 1 → lines text ≡ text ∷ lines []
unfolding lines
no_feed [] some h = absurd (omega arith)
no_feed (b ∷ []) some h = by_test (b == 10)
    (λ e. absurd (omega (arith, rw e at h)))
    (λ e. rw e refl)
no_feed (b ∷ c ∷ rest) some h = by_test (b == 10)
    (λ e. absurd (omega (arith, rw e at h)))
    (λ e.
    let more : length (c ∷ rest) < position_or_len is_feed (c ∷ rest) + 1 = omega (arith, rw e at h) in
    let one : lines (b ∷ c ∷ rest) ≡ onto_first b (lines (c ∷ rest)) = rw e refl in
    one ∙ ap (onto_first b) (no_feed (c ∷ rest) (omega arith) more))

pub cut_at : (text : List ℕ) (k : ℕ) → Some k ≡ position (λ b. b == 10) text → lines text ≡ take k text ∷ lines (drop (k + 1) text)
cut_at text k e = by_test (nat_lt (position_or_len is_feed text) (length text))
    (λ t.
    let found : Some k ≡ Some (position_or_len is_feed text) = rw t at e in
    let same : k ≡ position_or_len is_feed text = cc in
    let within : position_or_len is_feed text < length text = grind (arith, nat_tests) in
    rw same (cut_first text within))
    (λ t.
    let none : Some k ≡ None = rw t at e in
    cc)

pub one_line : (text : List ℕ) → 0 < length text → None ≡ position (λ b. b == 10) text → lines text ≡ text ∷ lines []
one_line text some e = by_test (nat_lt (position_or_len is_feed text) (length text))
    (λ t.
    let found : None ≡ Some (position_or_len is_feed text) = rw t at e in
    cc)
    (λ t.
    let past : length text < position_or_len is_feed text + 1 = grind (arith, nat_tests) in
    no_feed text some past)

-- a line, a line feed and a text
pub line_before : (line rest : List ℕ) → position_or_len (λ b. b == 10) line ≡ length line → lines (line ++ 10 ∷ rest) ≡ line ∷ lines rest
unfolding lines
line_before [] rest none = refl
line_before (b ∷ line) rest none = by_test (b == 10)
    (λ e. absurd (omega (arith, rw e at none)))
    (λ e.
    let more : position_or_len is_feed line ≡ length line = omega (arith, rw e at none) in
    let one : lines ((b ∷ line) ++ 10 ∷ rest) ≡ onto_first b (lines (line ++ 10 ∷ rest)) = rw e refl in
    one ∙ ap (onto_first b) (line_before line rest more))
