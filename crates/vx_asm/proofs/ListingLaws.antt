-- Labels and statements line by line.
use Rattle.std.proofs.Common.{◌≡◌, ℕ, suc, ◌+◌, ◌<◌, ◌≤◌, ◌⊎◌, inl, inr, List, [], ◌∷◌, ◌++◌, length, drop, refl, sym, ap, ◌∙◌, append_assoc, arith}
use Rattle.std.specs.Prelude.{Option, Some, None, Result, Ok, Err, get_or}
use Rattle.std.proofs.lemmas.List.{append-nil, drop_more, drop_all}
use Rattle.asm_text.specs.declared.statements.Statement.{Statement}
use Rattle.asm_text.specs.declared.statements.Line.{Line}
use Rattle.asm_text.specs.declared.statements.AsmFault.{AsmFault}
use Rattle.asm_text.specs.declared.statements.AsmFault.TheVariants.{Memory}
use Rattle.asm_text.specs.AsmTexts.{Labels, ◌>>=◌, said_in, fitting, misfit_of, with_label, with_word_of, counted, word_in_list, resolved, words_of_statement, words_of_line, appended}
use Rattle.vx_asm.specs.declared.listing.Listed.{Listed}
use Rattle.vx_asm.specs.Listing.{line_read, word_of_listed, words_of_listed, and_then}

-- ---- a statement behind others

joined : (r : Result ℕ AsmFault) (a x : Result (List ℕ) AsmFault)
    → (word_in_list r >>= λ words. appended words (and_then a x)) ≡ and_then (word_in_list r >>= λ words. appended words a) x
joined (Err f) a x = refl
joined (Ok w) (Err f) x = refl
joined (Ok w) (Ok ws) (Err f) = refl
joined (Ok w) (Ok ws) (Ok xs) = refl

alone : (r : Result ℕ AsmFault) → (word_in_list r >>= λ words. appended words (Ok [])) ≡ appended [] (word_in_list r)
alone (Err f) = refl
alone (Ok w) = refl

listed_behind : (labels : Labels) (before : ℕ) (ls : List Listed) (l : Listed)
    → words_of_listed labels before (ls ++ l ∷ []) ≡ and_then (words_of_listed labels before ls) (word_in_list (word_of_listed labels (before + length ls) l))
unfolding words_of_listed
listed_behind labels before [] l =
    let none : before + 0 ≡ before = omega arith in
    rw none (alone (word_of_listed labels before l))
listed_behind labels before (m ∷ ms) l =
    let place : before + suc (length ms) ≡ (before + 1) + length ms = omega arith in
    rw (place, listed_behind labels (before + 1) ms l)
    (joined (word_of_listed labels before m) (words_of_listed labels (before + 1) ms) (word_in_list (word_of_listed labels ((before + 1) + length ms) l)))

pub statement_is_noted : (n : ℕ) (line : List ℕ) (ls new : List Listed) (l : Listed) (s : Statement) (statement : Option Statement) → statement ≡ Some s → new ≡ ls ++ l ∷ []
    → ((labels : Labels) (word : ℕ) → word_of_listed labels word l ≡ resolved n line labels word s s.target)
    → (labels : Labels) → words_of_listed labels 0 new ≡ and_then (words_of_listed labels 0 ls) (words_of_statement n line labels (length ls) statement)
statement_is_noted n line ls new l s statement is pushed same labels =
    let place : 0 + length ls ≡ length ls = omega arith in
    let one : word_of_listed labels (0 + length ls) l ≡ resolved n line labels (length ls) s s.target = rw place (same labels (length ls)) in
    ap (words_of_listed labels 0) pushed ∙ listed_behind labels 0 ls l ∙ ap (λ (r : Result ℕ AsmFault). and_then (words_of_listed labels 0 ls) (word_in_list r)) one
    ∙ ap (λ (o : Option Statement). and_then (words_of_listed labels 0 ls) (words_of_statement n line labels (length ls) o)) (sym is)

pub nothing_is_noted : (r : Result (List ℕ) AsmFault) → r ≡ and_then r (Ok [])
nothing_is_noted (Ok words) = ap (λ (ws : List ℕ). Ok ws) (sym (append-nil words))
nothing_is_noted (Err f) = refl

-- ---- one line

from_read : ℕ → List ℕ → ℕ → Labels → Line → Result (ℕ × Labels) AsmFault
from_read n line words labels said =
    with_label n line words labels said.label >>= λ more. with_word_of n words said.statement >>= λ count. Ok (count, more)

by_reading : (n : ℕ) (line : List ℕ) (words : ℕ) (labels : Labels) (said : Result Line AsmFault)
    → (said >>= λ said. fitting n line (misfit_of said.statement) >>= λ fit. from_read n line words labels said)
    ≡ ((said >>= λ said. fitting n line (misfit_of said.statement) >>= λ fit. Ok said) >>= from_read n line words labels)
by_reading n line words labels (Err f) = refl
by_reading n line words labels (Ok said) = fit (misfit_of said.statement)
  where
    fit : (m : Option ℕ) → (fitting n line m >>= λ fit. from_read n line words labels said) ≡ ((fitting n line m >>= λ fit. Ok said) >>= from_read n line words labels)
    fit None = refl
    fit (Some left) = refl

counts : (n : ℕ) (line : List ℕ) (words : ℕ) (labels : Labels) → counted n line words labels ≡ (line_read n line >>= from_read n line words labels)
unfolding counted from_read
counts n line words labels = by_reading n line words labels (said_in n line)

pub line_is_refused : (n : ℕ) (line : List ℕ) (words : ℕ) (labels : Labels) (f : AsmFault) → line_read n line ≡ Err f → counted n line words labels ≡ Err f
line_is_refused n line words labels f e = counts n line words labels ∙ ap (λ (r : Result Line AsmFault). r >>= from_read n line words labels) e

label_is_refused : (n : ℕ) (line : List ℕ) (words : ℕ) (labels : Labels) (said : Line) (f : AsmFault) → line_read n line ≡ Ok said
    → with_label n line words labels said.label ≡ Err f → counted n line words labels ≡ Err f
unfolding from_read
label_is_refused n line words labels said f e at =
    counts n line words labels ∙ ap (λ (r : Result Line AsmFault). r >>= from_read n line words labels) e
    ∙ ap (λ (r : Result Labels AsmFault). r >>= λ more. with_word_of n words said.statement >>= λ count. Ok (count, more)) at

pub label_fault : (n : ℕ) (line : List ℕ) (words word : ℕ) (labels : Labels) (said : Line) (f : AsmFault) → word ≡ words → line_read n line ≡ Ok said
    → (f ≡ Memory) ⊎ (with_label n line word labels said.label ≡ Err f) → (f ≡ Memory) ⊎ (counted n line words labels ≡ Err f)
label_fault n line words word labels said f same e (inl memory) = inl memory
label_fault n line words word labels said f same e (inr at) = inr (label_is_refused n line words labels said f e (rw (sym same) at))

word_is_refused : (n : ℕ) (line : List ℕ) (words : ℕ) (labels more : Labels) (said : Line) (f : AsmFault) → line_read n line ≡ Ok said
    → with_label n line words labels said.label ≡ Ok more → with_word_of n words said.statement ≡ Err f → counted n line words labels ≡ Err f
unfolding from_read
word_is_refused n line words labels more said f e at many =
    counts n line words labels ∙ ap (λ (r : Result Line AsmFault). r >>= from_read n line words labels) e
    ∙ ap (λ (r : Result Labels AsmFault). r >>= λ more. with_word_of n words said.statement >>= λ count. Ok (count, more)) at
    ∙ ap (λ (r : Result ℕ AsmFault). r >>= λ count. Ok (count, more)) many

pub word_fault : (n : ℕ) (line : List ℕ) (words word : ℕ) (labels more : Labels) (said : Line) (f : AsmFault) → word ≡ words → line_read n line ≡ Ok said
    → with_label n line word labels said.label ≡ Ok more → (f ≡ Memory) ⊎ (with_word_of n words said.statement ≡ Err f) → (f ≡ Memory) ⊎ (counted n line words labels ≡ Err f)
word_fault n line words word labels more said f same e at (inl memory) = inl memory
word_fault n line words word labels more said f same e at (inr many) = inr (word_is_refused n line words labels more said f e (rw (sym same) at) many)

pub line_counts : (n : ℕ) (line : List ℕ) (words word : ℕ) (labels more : Labels) (said : Line) (count : ℕ) → word ≡ words → line_read n line ≡ Ok said
    → with_label n line word labels said.label ≡ Ok more → with_word_of n words said.statement ≡ Ok count → counted n line words labels ≡ Ok (count, more)
unfolding from_read
line_counts n line words word labels more said count same e at one =
    let here : with_label n line words labels said.label ≡ Ok more = rw (sym same) at in
    counts n line words labels ∙ ap (λ (r : Result Line AsmFault). r >>= from_read n line words labels) e
    ∙ ap (λ (r : Result Labels AsmFault). r >>= λ more. with_word_of n words said.statement >>= λ count. Ok (count, more)) here
    ∙ ap (λ (r : Result ℕ AsmFault). r >>= λ count. Ok (count, more)) one

-- what a line that is counted says, and how many words there are behind it
and_labels : Labels → ℕ → Result (ℕ × Labels) AsmFault
and_labels tab one = Ok (one, tab)

how_many : Result (ℕ × Labels) AsmFault → ℕ
how_many (Ok both) = both.0
how_many (Err f) = 0

with_words : (words count : ℕ) (tab more : Labels) (r : Result ℕ AsmFault) → (r >>= and_labels tab) ≡ Ok (count, more) → r ≡ Ok count
unfolding and_labels how_many
with_words words count tab more (Ok one) e =
    let same : one ≡ count = ap how_many e in
    ap (λ (n : ℕ). Ok n) same
with_words words count tab more (Err f) e = absurd cc

with_labels : (words count : ℕ) (more : Labels) (r : Result Labels AsmFault) (w : Result ℕ AsmFault) → (r >>= λ tab. w >>= and_labels tab) ≡ Ok (count, more) → w ≡ Ok count
with_labels words count more (Ok tab) w e = with_words words count tab more w e
with_labels words count more (Err f) w e = absurd cc

pub record Counted (n : ℕ) (line : List ℕ) (words count : ℕ) : Type 0 where
  pub said : Line
  pub read : line_read n line ≡ Ok said
  pub counted_so : with_word_of n words said.statement ≡ Ok count

by_read : (n : ℕ) (line : List ℕ) (words count : ℕ) (labels more : Labels) (r : Result Line AsmFault) → line_read n line ≡ r
    → (r >>= from_read n line words labels) ≡ Ok (count, more) → Counted n line words count
unfolding from_read and_labels
by_read n line words count labels more (Err f) is e = absurd cc
by_read n line words count labels more (Ok said) is e =
    record { said = said; read = is; counted_so = with_labels words count more (with_label n line words labels said.label) (with_word_of n words said.statement) e }

pub counted_is_read : (n : ℕ) (line : List ℕ) (words count : ℕ) (labels more : Labels) → counted n line words labels ≡ Ok (count, more) → Counted n line words count
counted_is_read n line words count labels more e = by_read n line words count labels more (line_read n line) refl (sym (counts n line words labels) ∙ e)

-- what a line that is read says
unfit : (n : ℕ) (line : List ℕ) (m : Option ℕ) (r : Result Line AsmFault) (said : Line) → (fitting n line m >>= λ fit. r) ≡ Ok said → r ≡ Ok said
unfit n line None r said e = e
unfit n line (Some left) r said e = absurd cc

is_said : (n : ℕ) (line : List ℕ) (r : Result Line AsmFault) (said : Line) → (r >>= λ said. fitting n line (misfit_of said.statement) >>= λ fit. Ok said) ≡ Ok said → r ≡ Ok said
is_said n line (Err f) said e = absurd cc
is_said n line (Ok found) said e = unfit n line (misfit_of found.statement) (Ok found) said e

pub words_are_said : (n : ℕ) (line : List ℕ) (said : Line) (labels : Labels) (word : ℕ) → line_read n line ≡ Ok said
    → words_of_line n line labels word ≡ words_of_statement n line labels word said.statement
unfolding words_of_line
words_are_said n line said labels word e = ap (λ (r : Result Line AsmFault). r >>= λ said. words_of_statement n line labels word said.statement) (is_said n line (said_in n line) said e)

pub line_is_noted : (n : ℕ) (line : List ℕ) (said : Line) (old new : List Listed) → line_read n line ≡ Ok said
    → ((labels : Labels) → words_of_listed labels 0 new ≡ and_then (words_of_listed labels 0 old) (words_of_statement n line labels (length old) said.statement))
    → (labels : Labels) → words_of_listed labels 0 new ≡ and_then (words_of_listed labels 0 old) (words_of_line n line labels (length old))
line_is_noted n line said old new e noted labels = noted labels ∙ ap (and_then (words_of_listed labels 0 old)) (sym (words_are_said n line said labels (length old) e))

-- ---- the words of all statements, in turn

at_listed : (labels : Labels) (k i : ℕ) (ls : List Listed) (d : Listed) → i < length ls
    → words_of_listed labels k (drop i ls) ≡ (word_in_list (word_of_listed labels k (get_or ls i d)) >>= λ words. appended words (words_of_listed labels (k + 1) (drop (i + 1) ls)))
unfolding words_of_listed
at_listed labels k i ls d within = rw (drop_more ls i d within) refl

appended_twice : (front : List ℕ) (w : ℕ) (r : Result (List ℕ) AsmFault) → appended front (appended (w ∷ []) r) ≡ appended (front ++ w ∷ []) r
appended_twice front w (Ok more) = ap (λ (ws : List ℕ). Ok ws) (sym (append_assoc front (w ∷ []) more))
appended_twice front w (Err f) = refl

pub listed_goes_on : (labels : Labels) (i n : ℕ) (ls : List Listed) (d : Listed) (front new : List ℕ) (w : ℕ) (total : Result (List ℕ) AsmFault) → i < length ls → n ≡ i → new ≡ front ++ w ∷ []
    → word_of_listed labels n (get_or ls i d) ≡ Ok w → appended front (words_of_listed labels i (drop i ls)) ≡ total
    → appended new (words_of_listed labels (i + 1) (drop (i + 1) ls)) ≡ total
listed_goes_on labels i n ls d front new w total within same pushed found so_far =
    let one : word_of_listed labels i (get_or ls i d) ≡ Ok w = ap (λ (k : ℕ). word_of_listed labels k (get_or ls i d)) (sym same) ∙ found in
    let next : Result (List ℕ) AsmFault = words_of_listed labels (i + 1) (drop (i + 1) ls) in
    let here : words_of_listed labels i (drop i ls) ≡ appended (w ∷ []) next = at_listed labels i i ls d within ∙ ap (λ (r : Result ℕ AsmFault). word_in_list r >>= λ words. appended words next) one in
    ap (λ (ws : List ℕ). appended ws next) pushed ∙ sym (appended_twice front w next) ∙ sym (ap (appended front) here) ∙ so_far

pub listed_is_refused : (labels : Labels) (i n : ℕ) (ls : List Listed) (d : Listed) (front : List ℕ) (f : AsmFault) (total : Result (List ℕ) AsmFault) → i < length ls → n ≡ i
    → word_of_listed labels n (get_or ls i d) ≡ Err f → appended front (words_of_listed labels i (drop i ls)) ≡ total → total ≡ Err f
listed_is_refused labels i n ls d front f total within same found so_far =
    let one : word_of_listed labels i (get_or ls i d) ≡ Err f = ap (λ (k : ℕ). word_of_listed labels k (get_or ls i d)) (sym same) ∙ found in
    let next : Result (List ℕ) AsmFault = words_of_listed labels (i + 1) (drop (i + 1) ls) in
    let here : words_of_listed labels i (drop i ls) ≡ Err f = at_listed labels i i ls d within ∙ ap (λ (r : Result ℕ AsmFault). word_in_list r >>= λ words. appended words next) one in
    sym so_far ∙ ap (appended front) here

pub listed_ends : (labels : Labels) (i : ℕ) (ls : List Listed) (front : List ℕ) (total : Result (List ℕ) AsmFault) → length ls ≤ i
    → appended front (words_of_listed labels i (drop i ls)) ≡ total → total ≡ Ok front
unfolding words_of_listed
listed_ends labels i ls front total past so_far =
    let none : drop i ls ≡ [] = drop_all i ls past in
    let last : words_of_listed labels i (drop i ls) ≡ Ok [] = rw none refl in
    sym so_far ∙ ap (appended front) last ∙ ap (λ (ws : List ℕ). Ok ws) (append-nil front)

pub listed_begins : (labels : Labels) (ls : List Listed) (front : List ℕ) → front ≡ [] → appended front (words_of_listed labels 0 (drop 0 ls)) ≡ words_of_listed labels 0 ls
listed_begins labels ls front none = rw none (whole (words_of_listed labels 0 ls))
  where
    whole : (r : Result (List ℕ) AsmFault) → appended [] r ≡ r
    whole (Ok words) = refl
    whole (Err f) = refl
