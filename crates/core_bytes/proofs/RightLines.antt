-- Which lines of a cache are right at one byte, and how reads, writes and fills keep them so.
use Rattle.std.proofs.Common.{◌≡◌, inl, inr, ℕ, zero, suc, ◌+◌, ◌/◌, ◌%◌, ◌<◌, Bool, true, false, nat_eq, if◌then◌else◌, cond, List, [], ◌∷◌, ◌++◌, length, get_or, set, refl, ap, sym, ◌∙◌, subst, arith, true≢false}
use Rattle.std.specs.Prelude.{bit_and, bit_or, filter, find, map, slice_index, slice_set, is_some, unwrap_or, Option, Some}
use Rattle.std.specs.List.{AllByRecursion}
use Rattle.std.proofs.Math.ListN.{length-set}
use Rattle.std.proofs.lemmas.Bool.{cases_eq, cond-false, cond_both, eqb-false, eqb-true, ne_eqb}
use Rattle.std.proofs.lemmas.List.{get_or-set_same, get_or-set_other}
use Rattle.vx_base.specs.Bytes.{byte_of}
use Rattle.memory_banks.specs.declared.entry.BusEntry.{BusEntry}
use Rattle.l1_cache.specs.Accesses.{loads_from}
use Rattle.l1_cache.specs.Lines.{Change, Line, Lines, all_changed, changed_line, changed_word, set_of, with_change, with_changes, with_set}
use Rattle.core_bytes.proofs.ByteChanges.{byte_and, byte_or}
use Rattle.core_bytes.proofs.CarriedBytes.{change_byte, changes_byte}
use Rattle.core_bytes.proofs.OtherCores.{load_same}
use Rattle.core_bytes.proofs.QuietEntries.{AnsweredTo, run_byte}

-- a line with the byte's number has sixteen words, and the byte in it is x
abbrev pub IsRight : ℕ → ℕ → Line → Type 0
IsRight b x line = line.number ≡ b / 64 → (length line.words ≡ 16) × (byte_of (slice_index line.words (b / 4 % 16)) (b % 4) ≡ x)

abbrev pub AreRight : ℕ → ℕ → List Line → Type 0
AreRight b x lines = AllByRecursion (IsRight b x) lines

-- the set of the byte's line, where the set of some line is another
at_set : {A : Type 0} (P : A → Type 0) (xs : List A) (i j : ℕ) (v d : A) → P (get_or xs j d) → (i ≡ j → P v) → P (get_or (set xs i v) j d)
at_set P [] i j v d old new = old
at_set P (x ∷ xs) zero zero v d old new = new refl
at_set P (x ∷ xs) zero (suc j) v d old new = old
at_set P (x ∷ xs) (suc i) zero v d old new = old
at_set P (x ∷ xs) (suc i) (suc j) v d old new = at_set P xs i j v d old (λ same. new (ap suc same))

pub all_filter : {A : Type 0} (P : A → Type 0) (test : A → Bool) (xs : List A) → AllByRecursion P xs → AllByRecursion P (filter test xs)
all_filter P test [] all = tt
all_filter P test (x ∷ xs) all =
    cond_both (test x) (x ∷ filter test xs) (filter test xs) (AllByRecursion P) (λ is. (all.0, all_filter P test xs all.1)) (λ is. all_filter P test xs all.1)

-- a line in front of some others of the set
pub front_right : (b x number : ℕ) (line : Line) (keeps : Line → Bool) (lines : Lines) → IsRight b x line → AreRight b x (set_of lines (b / 64))
    → AreRight b x (set_of (with_set number (line ∷ filter keeps (set_of lines number)) lines) (b / 64))
front_right b x number line keeps lines one all =
    at_set (AreRight b x) lines.sets (number % lines.set_count) (b / 64 % lines.set_count) (line ∷ filter keeps (set_of lines number)) [] all
    (λ same. (one, all_filter (IsRight b x) keeps (set_of lines number) (subst (λ (i : ℕ). AreRight b x (get_or lines.sets i [])) (sym same) all)))

-- the line that is found is of the set and has the number
pub found_right : (P : Line → Type 0) (number : ℕ) (lines : List Line) (line : Line) → find (λ l. nat_eq l.number number) lines ≡ Some line → AllByRecursion P lines → P line × (line.number ≡ number)
found_right P number [] line is all = absurd (true≢false (sym (ap is_some is)))
found_right P number (l ∷ lines) line is all = by_number (nat_eq l.number number) (λ other. found_right P number lines line other all.1) refl is
  where
    by_number : (t : Bool) → (find (λ o. nat_eq o.number number) lines ≡ Some line → P line × (line.number ≡ number)) → nat_eq l.number number ≡ t → cond t (Some l) (find (λ o. nat_eq o.number number) lines) ≡ Some line → P line × (line.number ≡ number)
    by_number true further same is =
        let one : l ≡ line = ap (λ (o : Option Line). unwrap_or o l) is in
        subst (λ (o : Line). P o × (o.number ≡ number)) one (all.0, eqb-true l.number number same)
    by_number false further same is = further is

pub finds_right : (b x number : ℕ) (lines : List Line) (line : Line) → find (λ l. nat_eq l.number number) lines ≡ Some line → AreRight b x lines → IsRight b x line
finds_right b x number lines line is all = (found_right (IsRight b x) number lines line is all).0

-- ---- changes of words

changed_at : (c : Change) (word b : ℕ) (t : Bool) → byte_of (if t then changed_word c word else word) (b % 4) ≡ (if t then bit_or (bit_and (byte_of word (b % 4)) (byte_of c.keep (b % 4))) (byte_of c.value (b % 4)) else byte_of word (b % 4))
changed_at c word b true =
    byte_or (bit_and word c.keep) c.value (b % 4) (omega arith) ∙ ap (λ (x : ℕ). bit_or x (byte_of c.value (b % 4))) (byte_and word c.keep (b % 4) (omega arith))
changed_at c word b false = refl

pub with_byte : (changes : List Change) (place word b : ℕ) → place ≡ b / 4 → byte_of (with_changes changes place word) (b % 4) ≡ changes_byte b changes (byte_of word (b % 4))
with_byte [] place word b is = refl
with_byte (c ∷ changes) place word b is =
    with_byte changes place (if nat_eq c.word place then changed_word c word else word) b is
    ∙ ap (changes_byte b changes) (changed_at c word b (nat_eq c.word place) ∙ ap (λ (p : ℕ). if nat_eq c.word p then bit_or (bit_and (byte_of word (b % 4)) (byte_of c.keep (b % 4))) (byte_of c.value (b % 4)) else byte_of word (b % 4)) is)

pub all_changed_length : (changes : List Change) (place : ℕ) (words : List ℕ) → length (all_changed changes place words) ≡ length words
all_changed_length changes place [] = refl
all_changed_length changes place (word ∷ words) = ap suc (all_changed_length changes (place + 1) words)

pub all_changed_at : (changes : List Change) (place : ℕ) (words : List ℕ) (j : ℕ) → j < length words → slice_index (all_changed changes place words) j ≡ with_changes changes (place + j) (slice_index words j)
all_changed_at changes place [] j within = let none : ⊥ = omega (arith, within) in absurd none
all_changed_at changes place (word ∷ words) zero within = let same : place ≡ place + 0 = omega arith in ap (λ (p : ℕ). with_changes changes p word) same
all_changed_at changes place (word ∷ words) (suc j) within =
    let same : place + 1 + j ≡ place + suc j = omega arith in
    all_changed_at changes (place + 1) words j (omega (arith, within)) ∙ ap (λ (p : ℕ). with_changes changes p (slice_index words j)) same

-- loads leave a byte alone, and the load of its word is answered by it
pub loads_run : (b port place : ℕ) (words : List ℕ) (y : ℕ) → run_byte b (loads_from port place words) y ≡ y
loads_run b port place [] y = refl
loads_run b port place (word ∷ words) y = ap (run_byte b (loads_from port (place + 1) words)) (load_same b port place word y) ∙ loads_run b port (place + 1) words y

pub loads_length : (port place : ℕ) (words : List ℕ) → length (loads_from port place words) ≡ length words
loads_length port place [] = refl
loads_length port place (word ∷ words) = ap suc (loads_length port (place + 1) words)

pub load_at : (b port place n : ℕ) (words : List ℕ) (rest : List BusEntry) (y j : ℕ) → AnsweredTo b y n (loads_from port place words ++ rest) → j < length words → j < n → place + j ≡ b / 4
    → byte_of (slice_index words j) (b % 4) ≡ y
load_at b port place n [] rest y j h within before is = let none : ⊥ = omega (arith, within) in absurd none
load_at b port place zero (word ∷ words) rest y j h within before is = let none : ⊥ = omega (arith, before) in absurd none
load_at b port place (suc n) (word ∷ words) rest y zero h within before is = let here : place ≡ b / 4 = omega (arith, is) in h.0 refl here
load_at b port place (suc n) (word ∷ words) rest y (suc j) h within before is =
    load_at b port (place + 1) n words rest y j (subst (λ (x : ℕ). AnsweredTo b x n (loads_from port (place + 1) words ++ rest)) (load_same b port place word y) h.1) (omega (arith, within)) (omega (arith, before)) (omega (arith, is))

-- ---- a change of the lines

line_changed : (b x : ℕ) (c : Change) (line : Line) → IsRight b x line → IsRight b (change_byte b c x) (changed_line c line)
line_changed b x c line right = by_line (nat_eq line.number (c.word / 16)) refl
  where
    by_line : (t : Bool) → nat_eq line.number (c.word / 16) ≡ t
        → IsRight b (change_byte b c x) (if t then record line { words = slice_set line.words (c.word % 16) (changed_word c (slice_index line.words (c.word % 16))) } else line)
    by_line true same number =
        let h : (length line.words ≡ 16) × (byte_of (slice_index line.words (b / 4 % 16)) (b % 4) ≡ x) = right number in
        let sixteen : length line.words ≡ 16 = h.0 in
        let within : c.word % 16 < length line.words = omega (arith, sixteen) in
        let of : line.number ≡ c.word / 16 = eqb-true line.number (c.word / 16) same in (
          length-set line.words (c.word % 16) (changed_word c (slice_index line.words (c.word % 16))) ∙ sixteen,
          cond_both (nat_eq c.word (b / 4)) (bit_or (bit_and x (byte_of c.keep (b % 4))) (byte_of c.value (b % 4))) x (λ y. byte_of (slice_index (slice_set line.words (c.word % 16) (changed_word c (slice_index line.words (c.word % 16)))) (b / 4 % 16)) (b % 4) ≡ y)
              (λ here.
              let at : c.word % 16 ≡ b / 4 % 16 = ap (λ (w : ℕ). w % 16) (eqb-true c.word (b / 4) here) in
              ap (λ (i : ℕ). byte_of (slice_index (slice_set line.words (c.word % 16) (changed_word c (slice_index line.words (c.word % 16)))) i) (b % 4)) (sym at)
              ∙ (ap (λ (w : ℕ). byte_of w (b % 4)) (get_or-set_same line.words (c.word % 16) (changed_word c (slice_index line.words (c.word % 16))) 0 within)
              ∙ (changed_at c (slice_index line.words (c.word % 16)) b true
              ∙ ap (λ (y : ℕ). bit_or (bit_and y (byte_of c.keep (b % 4))) (byte_of c.value (b % 4))) (ap (λ (i : ℕ). byte_of (slice_index line.words i) (b % 4)) at ∙ h.1))))
              (λ there.
              let number_is : line.number ≡ b / 64 = number in
              ap (λ (w : ℕ). byte_of w (b % 4)) (get_or-set_other line.words (c.word % 16) (b / 4 % 16) (changed_word c (slice_index line.words (c.word % 16))) 0
              (λ at. let same_word : c.word ≡ b / 4 = omega (arith, at, of, number_is) in eqb-false c.word (b / 4) there same_word))
              ∙ h.1),
        )
    by_line false same number =
        let h : (length line.words ≡ 16) × (byte_of (slice_index line.words (b / 4 % 16)) (b % 4) ≡ x) = right number in (
          h.0,
          cond_both (nat_eq c.word (b / 4)) (bit_or (bit_and x (byte_of c.keep (b % 4))) (byte_of c.value (b % 4))) x (λ y. byte_of (slice_index line.words (b / 4 % 16)) (b % 4) ≡ y)
              (λ here.
              let word : c.word ≡ b / 4 = eqb-true c.word (b / 4) here in
              let number_is : line.number ≡ b / 64 = number in
              let of : line.number ≡ c.word / 16 = omega (arith, word, number_is) in
              absurd (eqb-false line.number (c.word / 16) same of))
              (λ there. h.1),
        )

lines_changed : (b x : ℕ) (c : Change) (lines : List Line) → AreRight b x lines → AreRight b (change_byte b c x) (map (changed_line c) lines)
lines_changed b x c [] all = tt
lines_changed b x c (line ∷ lines) all = (line_changed b x c line all.0, lines_changed b x c lines all.1)

-- lines with a change are right at the changed byte
home_changed : (b x : ℕ) (c : Change) (sets : List (List Line)) (i j : ℕ) → i ≡ j → AreRight b x (get_or sets j []) → AreRight b (change_byte b c x) (get_or (set sets i (map (changed_line c) (get_or sets i []))) j [])
home_changed b x c [] i j same all = tt
home_changed b x c (s ∷ sets) zero zero same all = lines_changed b x c s all
home_changed b x c (s ∷ sets) zero (suc j) same all = let none : ⊥ = omega (arith, same) in absurd none
home_changed b x c (s ∷ sets) (suc i) zero same all = let none : ⊥ = omega (arith, same) in absurd none
home_changed b x c (s ∷ sets) (suc i) (suc j) same all = home_changed b x c sets i j (omega (arith, same)) all

pub change_right : (b x : ℕ) (c : Change) (lines : Lines) → AreRight b x (set_of lines (b / 64)) → AreRight b (change_byte b c x) (set_of (with_change c lines) (b / 64))
change_right b x c lines all = elim (cases_eq (c.word / 16 % lines.set_count) (b / 64 % lines.set_count)) [
  | inl same ↦ home_changed b x c lines.sets (c.word / 16 % lines.set_count) (b / 64 % lines.set_count) same all
  | inr apart ↦
      let other : nat_eq c.word (b / 4) ≡ false = ne_eqb c.word (b / 4) (λ same. let number : c.word / 16 ≡ b / 64 = omega (arith, same) in apart (ap (λ (n : ℕ). n % lines.set_count) number)) in
      let byte : change_byte b c x ≡ x = cond-false (nat_eq c.word (b / 4)) (bit_or (bit_and x (byte_of c.keep (b % 4))) (byte_of c.value (b % 4))) x other in
      subst (AreRight b (change_byte b c x)) (sym (get_or-set_other lines.sets (c.word / 16 % lines.set_count) (b / 64 % lines.set_count) (map (changed_line c) (set_of lines (c.word / 16))) [] (λ same. apart (sym same))))
      (subst (λ (y : ℕ). AreRight b y (set_of lines (b / 64))) (sym byte) all)
]
