-- Labels and statements of a whole text, as a loop over its lines finds them.
use Rattle.std.proofs.Common.{◌≡◌, ℕ, ◌+◌, ◌⊎◌, inl, inr, Bool, true, false, cond, List, [], ◌∷◌, ◌++◌, length, refl, sym, ap, ◌∙◌, append_assoc, arith}
use Rattle.std.specs.Prelude.{Option, Some, None, Result, Ok, Err, ◌==◌}
use Rattle.std.proofs.lemmas.List.{append-nil}
use Rattle.asm_text.specs.declared.statements.Statement.{Statement}
use Rattle.asm_text.specs.declared.statements.AsmFault.{AsmFault}
use Rattle.asm_text.specs.declared.statements.AsmFault.TheVariants.{Memory, TooLarge}
use Rattle.asm_text.specs.HexLines.{most_words}
use Rattle.asm_text.specs.Lines.{lines}
use Rattle.asm_text.specs.AsmTexts.{Labels, ◌>>=◌, with_word_of, counted, labels_from, word_in_list, resolved, words_of_statement, words_of_line, appended, words_from}
use Rattle.vx_asm.specs.declared.listing.Listed.{Listed}
use Rattle.vx_asm.specs.Listing.{words_of_listed, and_then}
use Rattle.vx_asm.proofs.ListingLaws.{Counted, counted_is_read, words_are_said}

-- ---- labels

abbrev and_count : ℕ → List (List ℕ) → ℕ × Labels → Result Labels AsmFault
and_count n rest (count, more) = labels_from (n + 1) rest count more

labels_at : (n : ℕ) (text line behind : List ℕ) (words : ℕ) (labels : Labels) → lines text ≡ line ∷ lines behind
    → labels_from n (lines text) words labels ≡ (counted n line words labels >>= and_count n (lines behind))
unfolding labels_from
labels_at n text line behind words labels cut = rw cut refl

pub labels_begin : (all : List (List ℕ)) (listed : List Listed) (labels : Labels) → listed ≡ [] → labels ≡ [] → labels_from 1 all (length listed) labels ≡ labels_from 1 all 0 []
labels_begin all listed labels none empty = rw (none, empty) refl

pub labels_go_on : (n : ℕ) (text line behind : List ℕ) (words count : ℕ) (labels more : Labels) (total : Result Labels AsmFault) → lines text ≡ line ∷ lines behind
    → counted n line words labels ≡ Ok (count, more) → labels_from n (lines text) words labels ≡ total → labels_from (n + 1) (lines behind) count more ≡ total
labels_go_on n text line behind words count labels more total cut one so_far =
    sym (labels_at n text line behind words labels cut ∙ ap (λ (r : Result (ℕ × Labels) AsmFault). r >>= and_count n (lines behind)) one) ∙ so_far

pub labels_are_refused : (n : ℕ) (text line behind : List ℕ) (words : ℕ) (labels : Labels) (f : AsmFault) (total : Result Labels AsmFault) → lines text ≡ line ∷ lines behind
    → (f ≡ Memory) ⊎ (counted n line words labels ≡ Err f) → labels_from n (lines text) words labels ≡ total → (f ≡ Memory) ⊎ (total ≡ Err f)
labels_are_refused n text line behind words labels f total cut (inl memory) so_far = inl memory
labels_are_refused n text line behind words labels f total cut (inr one) so_far =
    inr (sym so_far ∙ labels_at n text line behind words labels cut ∙ ap (λ (r : Result (ℕ × Labels) AsmFault). r >>= and_count n (lines behind)) one)

pub labels_end : (n : ℕ) (text : List ℕ) (words : ℕ) (labels : Labels) (total : Result Labels AsmFault) → length text ≡ 0
    → labels_from n (lines text) words labels ≡ total → total ≡ Ok labels
unfolding labels_from lines
labels_end n [] words labels total none so_far = sym so_far
labels_end n (b ∷ rest) words labels total none so_far = absurd (omega arith)

-- ---- words

-- as many words as the first pass counted
after_words : (n words count : ℕ) (statement : Option Statement) (line : List ℕ) (labels : Labels) (found : List ℕ) → with_word_of n words statement ≡ Ok count
    → words_of_statement n line labels words statement ≡ Ok found → words + length found ≡ count
after_words n words count None line labels found one e =
    let same : words ≡ count = cc in
    let none : found ≡ [] = cc in
    rw (none, same) (omega arith)
after_words n words count (Some s) line labels found one e = past (words == most_words) one (single (resolved n line labels words s s.target) e)
  where
    single : (r : Result ℕ AsmFault) → word_in_list r ≡ Ok found → length found ≡ 1
    single (Ok w) e =
        let one : w ∷ [] ≡ found = cc in
        rw (sym one) refl
    single (Err f) e = absurd cc

    past : (b : Bool) → cond b (Err (TooLarge (record { line = n; col = 1 }) (most_words + 1))) (Ok (words + 1)) ≡ Ok count → length found ≡ 1 → words + length found ≡ count
    past true e many = absurd cc
    past false e many =
        let next : words + 1 ≡ count = cc in
        omega arith

grows : (n : ℕ) (line : List ℕ) (words count : ℕ) (labels tab more : Labels) (found : List ℕ) → counted n line words tab ≡ Ok (count, more)
    → words_of_line n line labels words ≡ Ok found → words + length found ≡ count
grows n line words count labels tab more found one e =
    let c : Counted n line words count = counted_is_read n line words count tab more one in
    after_words n words count c.said.statement line labels found c.counted_so (sym (words_are_said n line c.said labels words c.read) ∙ e)

regroup : (a line : Result (List ℕ) AsmFault) (next : ℕ → Result (List ℕ) AsmFault) (words count : ℕ) → ((found : List ℕ) → line ≡ Ok found → words + length found ≡ count)
    → and_then (and_then a line) (next count) ≡ and_then a (line >>= λ found. appended found (next (words + length found)))
regroup (Err f) line next words count grow = refl
regroup (Ok before) (Err f) next words count grow = refl
regroup (Ok before) (Ok found) next words count grow = rw (grow found refl) (assoc (next count))
  where
    assoc : (r : Result (List ℕ) AsmFault) → appended (before ++ found) r ≡ appended before (appended found r)
    assoc (Ok more) = ap (λ (ws : List ℕ). Ok ws) (append_assoc before found more)
    assoc (Err f) = refl

words_at : (n : ℕ) (text line behind : List ℕ) (labels : Labels) (words : ℕ) → lines text ≡ line ∷ lines behind
    → words_from n (lines text) labels words ≡ (words_of_line n line labels words >>= λ found. appended found (words_from (n + 1) (lines behind) labels (words + length found)))
unfolding words_from
words_at n text line behind labels words cut = rw cut refl

pub words_go_on : (n : ℕ) (text line behind : List ℕ) (old new : List Listed) (tab more : Labels) (all : Labels → Result (List ℕ) AsmFault) → lines text ≡ line ∷ lines behind
    → counted n line (length old) tab ≡ Ok (length new, more)
    → ((labels : Labels) → words_of_listed labels 0 new ≡ and_then (words_of_listed labels 0 old) (words_of_line n line labels (length old)))
    → ((labels : Labels) → and_then (words_of_listed labels 0 old) (words_from n (lines text) labels (length old)) ≡ all labels)
    → (labels : Labels) → and_then (words_of_listed labels 0 new) (words_from (n + 1) (lines behind) labels (length new)) ≡ all labels
words_go_on n text line behind old new tab more all cut one noted so_far labels =
    let here : Result (List ℕ) AsmFault = words_of_listed labels 0 old in
    let next : ℕ → Result (List ℕ) AsmFault = λ words. words_from (n + 1) (lines behind) labels words in
    ap (λ (r : Result (List ℕ) AsmFault). and_then r (next (length new))) (noted labels)
    ∙ regroup here (words_of_line n line labels (length old)) next (length old) (length new) (λ found. grows n line (length old) (length new) labels tab more found one)
    ∙ ap (and_then here) (sym (words_at n text line behind labels (length old) cut)) ∙ so_far labels

last : (r : Result (List ℕ) AsmFault) → and_then r (Ok []) ≡ r
last (Ok words) = ap (λ (ws : List ℕ). Ok ws) (append-nil words)
last (Err f) = refl

pub words_end : (n : ℕ) (text : List ℕ) (listed : List Listed) (words : ℕ) (all : Labels → Result (List ℕ) AsmFault) → length text ≡ 0
    → ((labels : Labels) → and_then (words_of_listed labels 0 listed) (words_from n (lines text) labels words) ≡ all labels)
    → (labels : Labels) → all labels ≡ words_of_listed labels 0 listed
unfolding words_from lines
words_end n [] listed words all none so_far labels = sym (so_far labels) ∙ last (words_of_listed labels 0 listed)
words_end n (b ∷ rest) listed words all none so_far labels = absurd (omega arith)

behind_none : (words : Result (List ℕ) AsmFault) → and_then (Ok []) words ≡ words
behind_none (Ok words) = refl
behind_none (Err f) = refl

pub words_begin : (all : List (List ℕ)) (listed : List Listed) → listed ≡ []
    → (labels : Labels) → and_then (words_of_listed labels 0 listed) (words_from 1 all labels (length listed)) ≡ words_from 1 all labels 0
unfolding words_of_listed
words_begin all listed none labels = rw none (behind_none (words_from 1 all labels 0))
