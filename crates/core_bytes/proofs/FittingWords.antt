-- What is read and written stays below 2 ^ 32, where it began so and only such numbers are written.
use Rattle.std.proofs.Common.{◌≡◌, ℕ, zero, suc, ◌+◌, ◌-◌, ◌*◌, ◌/◌, ◌%◌, ◌^◌, ◌<◌, Bool, true, false, nat_eq, if◌then◌else◌, cond, List, [], ◌∷◌, ◌++◌, length, All, get_or, set, refl, ap, sym, ◌∙◌, subst, arith, true≢false}
use Rattle.std.specs.Prelude.{bit_and, map, replicate, slice_get, slice_index, slice_set, take, is_some, unwrap_or, Option, Some, None}
use Rattle.std.specs.List.{AllByRecursion}
use Rattle.std.proofs.lemmas.Bool.{cond_both, eq-eqb}
use Rattle.std.proofs.lemmas.Nat.{and_le_l, or_of_32}
use Rattle.vx_base.specs.Bytes.{bytes_of}
use Rattle.vx_base.specs.declared.types.Size.{Size}
use Rattle.vx_base.specs.declared.types.Size.TheVariants.{One, Two, Four}
use Rattle.memory_banks.specs.declared.entry.BusKind.{BusKind}
use Rattle.memory_banks.specs.declared.entry.BusKind.TheVariants.{Load}
use Rattle.memory_banks.specs.declared.entry.BusEntry.{BusEntry}
use Rattle.memory_banks.specs.Entries.{IsLegal, after, and_entry, answer_to, changed, entries_of, load_entry, or_entry, replay, store_entry}
use Rattle.l1_cache.specs.Accesses.{CarriesOut, ReadsBy, carried, loads_from}
use Rattle.l1_cache.specs.Lines.{Change, Line, Lines, all_changed, change_of, changed_line, changed_word, field_bits, in_front, leaving, line_in, no_lines, part_of, put_in, set_of, with_changes}
use Rattle.core_bytes.specs.BusRuns.{BusRun, CoreDid, IsOfCore}
use Rattle.core_bytes.specs.Deeds.{Act, ActsSo, Deed, DoesAll, Draining, CacheWithPolicy, Reading, Writing, entries_in}
use Rattle.core_bytes.specs.FittingWords.{AnswersFit, DeedWritesWord, IsWord, StayWords, WordsGoIn, WritesWord}
use Rattle.core_bytes.proofs.OtherCores.{all_append, all_drop, all_take}
use Rattle.core_bytes.proofs.RightLines.{all_filter, found_right}

-- ---- lists

by_recursion : {A : Type 0} (P : A → Type 0) (xs : List A) → All P xs → AllByRecursion P xs
by_recursion P [] all = tt
by_recursion P (x ∷ xs) all = (all zero x (omega arith), by_recursion P xs (λ k d within. all (suc k) d (omega (arith, within))))

pub by_index : {A : Type 0} (P : A → Type 0) (xs : List A) → AllByRecursion P xs → All P xs
by_index P [] all k d within = absurd (omega (arith, within))
by_index P (x ∷ xs) all zero d within = all.0
by_index P (x ∷ xs) all (suc k) d within = by_index P xs all.1 k d (omega (arith, within))

all_set : {A : Type 0} (P : A → Type 0) (xs : List A) (i : ℕ) (x : A) → AllByRecursion P xs → P x → AllByRecursion P (set xs i x)
all_set P [] i x all one = tt
all_set P (y ∷ xs) zero x all one = (one, all.1)
all_set P (y ∷ xs) (suc i) x all one = (all.0, all_set P xs i x all.1 one)

all_get : {A : Type 0} (P : A → Type 0) (xs : List A) (i : ℕ) (d : A) → AllByRecursion P xs → P d → P (get_or xs i d)
all_get P [] i d all one = one
all_get P (x ∷ xs) zero d all one = all.0
all_get P (x ∷ xs) (suc i) d all one = all_get P xs i d all.1 one

-- ---- words

no_word : IsWord 0
no_word = omega arith

and_word : (x y : ℕ) → IsWord x → IsWord (bit_and x y)
and_word x y small = omega (arith, small, and_le_l x y)

changed_fits : (c : Change) (word : ℕ) → IsWord c.value → IsWord word → IsWord (changed_word c word)
changed_fits c word value small = or_of_32 (bit_and word c.keep) c.value (and_word word c.keep small) value

part_fits : (word at : ℕ) (size : Size) → IsWord word → part_of word at size < 256 ^ bytes_of size
part_fits word at One small = let fits : word / 2 ^ (8 * at) % 2 ^ 8 < 2 ^ 8 = omega arith in fits
part_fits word at Two small = let fits : word / 2 ^ (8 * at) % 2 ^ 16 < 2 ^ 16 = omega arith in fits
part_fits word at Four small = small

-- ---- entries

-- an entry leaves a word where it finds one
abbrev pub KeepsWord : BusEntry → Type 0
KeepsWord e = (x : ℕ) → IsWord x → IsWord (changed e.kind x e.operand)

-- what a load answers is a word
abbrev pub LoadsWord : BusEntry → Type 0
LoadsWord e = e.kind ≡ Load → IsWord e.answer

after_words : (words : List ℕ) (e : BusEntry) → KeepsWord e → AllByRecursion IsWord words → AllByRecursion IsWord (after words e)
after_words words e keeps all = all_set IsWord words e.word (changed e.kind (slice_index words e.word) e.operand) all (keeps (slice_index words e.word) (all_get IsWord words e.word 0 all no_word))

replay_words : (words : List ℕ) (history : List BusEntry) → AllByRecursion KeepsWord history → AllByRecursion IsWord words → AllByRecursion IsWord (replay words history)
replay_words words [] keeps all = all
replay_words words (e ∷ history) keeps all = replay_words (after words e) history keeps.1 (after_words words e keeps.0 all)

legal_loads : (words : List ℕ) (history : List BusEntry) → IsLegal words history → AllByRecursion KeepsWord history → AllByRecursion IsWord words → AllByRecursion LoadsWord history
legal_loads words [] legal keeps all = tt
legal_loads words (e ∷ history) legal keeps all = (
  λ load. subst IsWord (sym (legal.0 ∙ ap (λ (k : BusKind). answer_to k (slice_index words e.word)) load)) (all_get IsWord words e.word 0 all no_word),
  legal_loads (after words e) history legal.1 keeps.1 (after_words words e keeps.0 all),
)

-- what holds of the entries of each core holds of all entries of cores
of_each_core : (P : BusEntry → Type 0) (cores : ℕ) (history : List BusEntry) → All (IsOfCore cores) history
    → ((core : ℕ) → core < cores → AllByRecursion P (entries_of (suc core) history)) → AllByRecursion P history
of_each_core P cores [] of_cores each = tt
of_each_core P cores (e ∷ history) of_cores each =
    let of : IsOfCore cores e = of_cores zero e (omega arith) in (
      first (nat_eq e.port (suc of.core)) (entries_of (suc of.core) history) (eq-eqb e.port (suc of.core) of.port_is) (each of.core of.exists),
      of_each_core P cores history (λ k d within. of_cores (suc k) d (omega (arith, within))) (λ core exists. rest (nat_eq e.port (suc core)) (entries_of (suc core) history) (each core exists)),
    )
  where
    first : (own : Bool) (entries : List BusEntry) → own ≡ true → AllByRecursion P (cond own (e ∷ entries) entries) → P e
    first true entries is all = all.0
    first false entries is all = absurd (true≢false (sym is))

    rest : (own : Bool) (entries : List BusEntry) → AllByRecursion P (cond own (e ∷ entries) entries) → AllByRecursion P entries
    rest true entries all = all.1
    rest false entries all = all

-- ---- changes

abbrev pub FittingChange : Change → Type 0
FittingChange c = IsWord c.value

change_fits : (address : ℕ) (size : Size) (value : ℕ) → WritesWord (Writing address size value) → FittingChange (change_of address size value)
change_fits address One value fits = and_word (value * 2 ^ (8 * (address % 4)) % 2 ^ 32) (field_bits (address % 4) One) (omega arith)
change_fits address Two value fits = and_word (value * 2 ^ (8 * (address % 4)) % 2 ^ 32) (field_bits (address % 4) Two) (omega arith)
change_fits address Four value fits = fits

carried_keeps : (port : ℕ) (c : Change) (before_keep before_set : ℕ) → FittingChange c → AllByRecursion KeepsWord (carried port c before_keep before_set)
carried_keeps port c before_keep before_set fits =
    cond_both (nat_eq c.keep 0) (store_entry port c.word c.value ∷ []) (and_entry port c.word c.keep before_keep ∷ or_entry port c.word c.value before_set ∷ []) (AllByRecursion KeepsWord)
    (λ none. (λ x small. fits, tt))
    (λ some. (λ x small. and_word x c.keep small, (λ x small. or_of_32 x c.value small fits, tt)))

carries_keeps : (port : ℕ) (changes : List Change) (entries : List BusEntry) → CarriesOut port changes entries → AllByRecursion FittingChange changes → AllByRecursion KeepsWord entries
carries_keeps port [] entries none fits = subst (AllByRecursion KeepsWord) (sym none) tt
carries_keeps port (c ∷ changes) entries h fits =
    subst (AllByRecursion KeepsWord) (sym h.1.entries_are)
    (all_append KeepsWord (carried port c h.1.before_keep h.1.before_set) h.0 (carried_keeps port c h.1.before_keep h.1.before_set fits.0) (carries_keeps port changes h.0 h.2 fits.1))

loads_keep : (port place : ℕ) (words : List ℕ) → AllByRecursion KeepsWord (loads_from port place words)
loads_keep port place [] = tt
loads_keep port place (word ∷ words) = (λ x small. small, loads_keep port (place + 1) words)

changes_fit : (changes : List Change) (place word : ℕ) → AllByRecursion FittingChange changes → IsWord word → IsWord (with_changes changes place word)
changes_fit [] place word fits small = small
changes_fit (c ∷ changes) place word fits small =
    changes_fit changes place (if nat_eq c.word place then changed_word c word else word) fits.1
    (cond_both (nat_eq c.word place) (changed_word c word) word IsWord (λ here. changed_fits c word fits.0 small) (λ there. small))

all_changes_fit : (changes : List Change) (place : ℕ) (words : List ℕ) → AllByRecursion FittingChange changes → AllByRecursion IsWord words → AllByRecursion IsWord (all_changed changes place words)
all_changes_fit changes place [] fits small = tt
all_changes_fit changes place (word ∷ words) fits small = (changes_fit changes place word fits small.0, all_changes_fit changes (place + 1) words fits small.1)

loaded_words : (port place : ℕ) (words : List ℕ) → AllByRecursion LoadsWord (loads_from port place words) → AllByRecursion IsWord words
loaded_words port place [] loads = tt
loaded_words port place (word ∷ words) loads = (loads.0 refl, loaded_words port (place + 1) words loads.1)

-- ---- lines

abbrev pub FittingLine : Line → Type 0
FittingLine line = AllByRecursion IsWord line.words

abbrev pub FittingSet : List Line → Type 0
FittingSet kept = AllByRecursion FittingLine kept

-- a cache of words, in which changes to words wait
pub record FittingLines (lines : Lines) : Type 0 where
  pub sets : AllByRecursion FittingSet lines.sets
  pub waiting : AllByRecursion FittingChange lines.waiting

none_kept : (n : ℕ) → AllByRecursion FittingSet (replicate n [])
none_kept zero = tt
none_kept (suc n) = (tt, none_kept n)

line_fits : (c : Change) (line : Line) → FittingChange c → FittingLine line → FittingLine (changed_line c line)
line_fits c line fits small =
    cond_both (nat_eq line.number (c.word / 16)) (record line { words = slice_set line.words (c.word % 16) (changed_word c (slice_index line.words (c.word % 16))) }) line FittingLine
    (λ here. all_set IsWord line.words (c.word % 16) (changed_word c (slice_index line.words (c.word % 16))) small (changed_fits c (slice_index line.words (c.word % 16)) fits (all_get IsWord line.words (c.word % 16) 0 small no_word)))
    (λ there. small)

set_fits : (c : Change) (kept : List Line) → FittingChange c → FittingSet kept → FittingSet (map (changed_line c) kept)
set_fits c [] fits small = tt
set_fits c (line ∷ others) fits small = (line_fits c line fits small.0, set_fits c others fits small.1)

its_set : (lines : Lines) (number : ℕ) → FittingLines lines → FittingSet (set_of lines number)
its_set lines number fits = all_get FittingSet lines.sets (number % lines.set_count) [] fits.sets tt

-- what an act leaves, and what it answers
abbrev pub AnswerFits : Act → Type 0
AnswerFits (Reading address size answer) = answer < 256 ^ bytes_of size
AnswerFits (Writing address size value) = Unit {0}
AnswerFits Draining = Unit {0}

pub record ReadFits (size : Size) (answer : ℕ) (lines' : Lines) : Type 0 where
  pub answered : answer < 256 ^ bytes_of size
  pub behind : FittingLines lines'

read_fits : {E : Type 0} (evicts : E → ℕ → ℕ → ℕ → ℕ → E → Type 0) (port ways : ℕ) (found : Option Line) (address : ℕ) (size : Size) (lines : Lines) (policy : E) (entries : List BusEntry) (answer : ℕ) (lines' : Lines) (policy' : E)
    → line_in lines (address / 64) ≡ found → ReadsBy evicts ways found port address size lines policy entries answer lines' policy'
    → FittingLines lines → AllByRecursion LoadsWord entries → ReadFits size answer lines'
read_fits evicts port zero found address size lines policy entries answer lines' policy' at r fits loads =
    let its : AllByRecursion LoadsWord (load_entry port (address / 4) r.word ∷ []) = subst (AllByRecursion LoadsWord) r.entries_are loads in
    record {
      answered = subst (λ (a : ℕ). a < 256 ^ bytes_of size) (sym r.answer_is) (part_fits (with_changes lines.waiting (address / 4) r.word) (address % 4) size (changes_fit lines.waiting (address / 4) r.word fits.waiting (its.0 refl)));
      behind = subst FittingLines (sym r.same_lines) fits;
    }
read_fits evicts port (suc ways) (Some line) address size lines policy entries answer lines' policy' at r fits loads =
    let all : FittingSet (set_of lines (address / 64)) = its_set lines (address / 64) fits in
    let one : FittingLine line = (found_right FittingLine (address / 64) (set_of lines (address / 64)) line at all).0 in
    record {
      answered = subst (λ (a : ℕ). a < 256 ^ bytes_of size) (sym r.answer_is) (part_fits (slice_index line.words (address / 4 % 16)) (address % 4) size (all_get IsWord line.words (address / 4 % 16) 0 one no_word));
      behind = subst FittingLines (sym r.lines_are) (record {
        sets = all_set FittingSet lines.sets (address / 64 % lines.set_count) (in_front line (set_of lines (address / 64))) fits.sets (one, all_filter FittingLine _ (set_of lines (address / 64)) all);
        waiting = fits.waiting;
      });
    }
read_fits evicts port (suc ways) None address size lines policy entries answer lines' policy' at r fits loads =
    let all : FittingSet (set_of lines (address / 64)) = its_set lines (address / 64) fits in
    let words : AllByRecursion IsWord r.words = loaded_words port (address / 64 * 16) r.words (subst (AllByRecursion LoadsWord) r.entries_are loads) in
    let one : FittingLine r.line = subst (AllByRecursion IsWord) (sym r.words_are) (all_changes_fit lines.waiting (address / 64 * 16) r.words fits.waiting words) in
    record {
      answered = subst (λ (a : ℕ). a < 256 ^ bytes_of size) (sym r.answer_is) (part_fits (slice_index r.line.words (address / 4 % 16)) (address % 4) size (all_get IsWord r.line.words (address / 4 % 16) 0 one no_word));
      behind = subst FittingLines (sym r.lines_are) (record {
        sets = all_set FittingSet lines.sets (address / 64 % lines.set_count) (put_in r.line (set_of lines (address / 64))) fits.sets (one, all_filter FittingLine _ (set_of lines (address / 64)) all);
        waiting = fits.waiting;
      });
    }

-- ---- deeds

pub record ActFits (act : Act) (lines' : Lines) : Type 0 where
  pub answered : AnswerFits act
  pub behind : FittingLines lines'

act_fits : {E : Type 0} (evicts : E → ℕ → ℕ → ℕ → ℕ → E → Type 0) (port : ℕ) (act : Act) (entries : List BusEntry) (lines : Lines) (policy : E) (lines' : Lines) (policy' : E)
    → ActsSo evicts port act entries lines policy lines' policy' → WritesWord act → FittingLines lines → AllByRecursion LoadsWord entries → ActFits act lines'
act_fits evicts port (Reading address size answer) entries lines policy lines' policy' h writes fits loads =
    let r : ReadFits size answer lines' = read_fits evicts port lines.way_count (line_in lines (address / 64)) address size lines policy entries answer lines' policy' refl h.1 fits loads in
    record { answered = r.answered; behind = r.behind }
act_fits evicts port (Writing address size value) entries lines policy lines' policy' h writes fits loads =
    let c : Change = change_of address size value in
    let queue : AllByRecursion FittingChange (lines.waiting ++ c ∷ []) = all_append FittingChange lines.waiting (c ∷ []) fits.waiting (change_fits address size value writes, tt) in
    record {
      answered = tt;
      behind = subst FittingLines (sym h.1.lines_are) (record {
        sets = all_set FittingSet lines.sets (c.word / 16 % lines.set_count) (map (changed_line c) (set_of lines (c.word / 16))) fits.sets (set_fits c (set_of lines (c.word / 16)) (change_fits address size value writes) (its_set lines (c.word / 16) fits));
        waiting = all_drop FittingChange (length (lines.waiting ++ c ∷ []) - lines.room) (lines.waiting ++ c ∷ []) queue;
      });
    }
act_fits evicts port Draining entries lines policy lines' policy' h writes fits loads = record {
  answered = tt;
  behind = subst FittingLines (sym h.0.lines_are) (record { sets = fits.sets; waiting = tt });
}

-- an act makes entries that leave words, and so do those that it leaves waiting
pub record ActKeeps (entries : List BusEntry) (lines' : Lines) : Type 0 where
  pub keeps : AllByRecursion KeepsWord entries
  pub waiting : AllByRecursion FittingChange lines'.waiting

reads_keep : {E : Type 0} (evicts : E → ℕ → ℕ → ℕ → ℕ → E → Type 0) (port ways : ℕ) (found : Option Line) (address : ℕ) (size : Size) (lines : Lines) (policy : E) (entries : List BusEntry) (answer : ℕ) (lines' : Lines) (policy' : E)
    → ReadsBy evicts ways found port address size lines policy entries answer lines' policy' → AllByRecursion FittingChange lines.waiting → ActKeeps entries lines'
reads_keep evicts port zero found address size lines policy entries answer lines' policy' r fits = record {
  keeps = subst (AllByRecursion KeepsWord) (sym r.entries_are) (λ x small. small, tt);
  waiting = subst (λ (l : Lines). AllByRecursion FittingChange l.waiting) (sym r.same_lines) fits;
}
reads_keep evicts port (suc ways) (Some line) address size lines policy entries answer lines' policy' r fits = record {
  keeps = subst (AllByRecursion KeepsWord) (sym r.no_entry) tt;
  waiting = subst (λ (l : Lines). AllByRecursion FittingChange l.waiting) (sym r.lines_are) fits;
}
reads_keep evicts port (suc ways) None address size lines policy entries answer lines' policy' r fits = record {
  keeps = subst (AllByRecursion KeepsWord) (sym r.entries_are) (loads_keep port (address / 64 * 16) r.words);
  waiting = subst (λ (l : Lines). AllByRecursion FittingChange l.waiting) (sym r.lines_are) fits;
}

act_keeps : {E : Type 0} (evicts : E → ℕ → ℕ → ℕ → ℕ → E → Type 0) (port : ℕ) (act : Act) (entries : List BusEntry) (lines : Lines) (policy : E) (lines' : Lines) (policy' : E)
    → ActsSo evicts port act entries lines policy lines' policy' → WritesWord act → AllByRecursion FittingChange lines.waiting → ActKeeps entries lines'
act_keeps evicts port (Reading address size answer) entries lines policy lines' policy' h writes fits =
    reads_keep evicts port lines.way_count (line_in lines (address / 64)) address size lines policy entries answer lines' policy' h.1 fits
act_keeps evicts port (Writing address size value) entries lines policy lines' policy' h writes fits =
    let c : Change = change_of address size value in
    let over : ℕ = length (lines.waiting ++ c ∷ []) - lines.room in
    let queue : AllByRecursion FittingChange (lines.waiting ++ c ∷ []) = all_append FittingChange lines.waiting (c ∷ []) fits (change_fits address size value writes, tt) in
    record {
      keeps = carries_keeps port (leaving lines.room (lines.waiting ++ c ∷ [])) entries h.1.carries (all_take FittingChange over (lines.waiting ++ c ∷ []) queue);
      waiting = subst (λ (l : Lines). AllByRecursion FittingChange l.waiting) (sym h.1.lines_are) (all_drop FittingChange over (lines.waiting ++ c ∷ []) queue);
    }
act_keeps evicts port Draining entries lines policy lines' policy' h writes fits = record {
  keeps = carries_keeps port lines.waiting entries h.0.carries fits;
  waiting = subst (λ (l : Lines). AllByRecursion FittingChange l.waiting) (sym h.0.lines_are) tt;
}

deeds_keep : {E : Type 0} (evicts : E → ℕ → ℕ → ℕ → ℕ → E → Type 0) (port : ℕ) (deeds : List Deed) (k k' : CacheWithPolicy E)
    → DoesAll evicts port deeds k k' → AllByRecursion DeedWritesWord deeds → AllByRecursion FittingChange k.lines.waiting → AllByRecursion KeepsWord (entries_in deeds)
deeds_keep evicts port [] k k' does writes fits = tt
deeds_keep evicts port (d ∷ deeds) k k' does writes fits =
    let one : ActKeeps d.entries does.0.lines = act_keeps evicts port d.act d.entries k.lines k.policy does.0.lines does.0.policy does.1 writes.0 fits in
    all_append KeepsWord d.entries (entries_in deeds) one.keeps (deeds_keep evicts port deeds does.0 k' does.2 writes.1 one.waiting)

first_part : {A : Type 0} (P : A → Type 0) (xs ys : List A) → AllByRecursion P (xs ++ ys) → AllByRecursion P xs
first_part P [] ys all = tt
first_part P (x ∷ xs) ys all = (all.0, first_part P xs ys all.1)

other_part : {A : Type 0} (P : A → Type 0) (xs ys : List A) → AllByRecursion P (xs ++ ys) → AllByRecursion P ys
other_part P [] ys all = all
other_part P (x ∷ xs) ys all = other_part P xs ys all.1

abbrev pub DeedFits : Deed → Type 0
DeedFits d = AnswerFits d.act

deeds_fit : {E : Type 0} (evicts : E → ℕ → ℕ → ℕ → ℕ → E → Type 0) (port : ℕ) (deeds : List Deed) (k k' : CacheWithPolicy E)
    → DoesAll evicts port deeds k k' → AllByRecursion DeedWritesWord deeds → FittingLines k.lines → AllByRecursion LoadsWord (entries_in deeds) → AllByRecursion DeedFits deeds
deeds_fit evicts port [] k k' does writes fits loads = tt
deeds_fit evicts port (d ∷ deeds) k k' does writes fits loads =
    let one : ActFits d.act does.0.lines = act_fits evicts port d.act d.entries k.lines k.policy does.0.lines does.0.policy does.1 writes.0 fits (first_part LoadsWord d.entries (entries_in deeds) loads) in
    (one.answered, deeds_fit evicts port deeds does.0 k' does.2 writes.1 one.behind (other_part LoadsWord d.entries (entries_in deeds) loads))

at_deed : (deeds : List Deed) (k : ℕ) (d : Deed) → slice_get deeds k ≡ Some d → AllByRecursion DeedFits deeds → DeedFits d
at_deed [] k d is all = absurd (true≢false (sym (ap is_some is)))
at_deed (e ∷ deeds) zero d is all = let same : e ≡ d = ap (λ (o : Option Deed). unwrap_or o e) is in subst DeedFits same all.0
at_deed (e ∷ deeds) (suc k) d is all = at_deed deeds k d is all.1

-- ---- runs

module _ {E : Type 0} (evicts : E → ℕ → ℕ → ℕ → ℕ → E → Type 0) (sets ways room : ℕ) (policies : ℕ → E) (opening : List ℕ) (cores : ℕ) (deeds : ℕ → List Deed) (history : List BusEntry) (run : BusRun evicts sets ways room policies opening cores deeds history) (words : WordsGoIn opening cores deeds) where
  all_written : (core : ℕ) → core < cores → AllByRecursion DeedWritesWord (deeds core)
  all_written core exists = by_recursion DeedWritesWord (deeds core) (words.written_words core exists)

  all_keep : AllByRecursion KeepsWord history
  all_keep = of_each_core KeepsWord cores history run.of_cores (λ core exists.
      let did : CoreDid evicts sets ways room (policies core) (suc core) (deeds core) = run.did core exists in
      subst (AllByRecursion KeepsWord) (sym (run.projected core exists)) (deeds_keep evicts (suc core) (deeds core) (record { lines = no_lines sets ways room; policy = policies core }) did.last did.does (all_written core exists) tt))

  opens : AllByRecursion IsWord opening
  opens = by_recursion IsWord opening words.opening_words

  pub stay_words : StayWords opening history
  stay_words n = by_index IsWord (replay opening (take n history)) (replay_words opening (take n history) (all_take KeepsWord n history all_keep) opens)

  pub answers_fit : AnswersFit cores deeds
  answers_fit core k address size answer entries exists at =
      let did : CoreDid evicts sets ways room (policies core) (suc core) (deeds core) = run.did core exists in
      let loads : AllByRecursion LoadsWord (entries_of (suc core) history) = all_filter LoadsWord _ history (legal_loads opening history run.legal all_keep opens) in
      at_deed (deeds core) k (record { act = Reading address size answer; entries = entries }) at
      (deeds_fit evicts (suc core) (deeds core) (record { lines = no_lines sets ways room; policy = policies core }) did.last did.does (all_written core exists)
      (record { sets = none_kept sets; waiting = tt }) (subst (AllByRecursion LoadsWord) (run.projected core exists) loads))
