-- What a core's entries leave of a byte that it does not write: all of it. Each entry before its first write of the byte is quiet.
use Rattle.std.proofs.Common.{◌≡◌, inl, inr, ℕ, zero, suc, ◌+◌, ◌-◌, ◌*◌, ◌/◌, ◌%◌, ◌≤◌, Bool, true, false, nat_eq, if◌then◌else◌, List, [], ◌∷◌, ◌++◌, length, take, drop, refl, ap, sym, ◌∙◌, subst, arith, true≢false}
use Rattle.std.specs.Prelude.{bit_and, bit_or, slice_get, slice_index, is_some, Option, Some, None}
use Rattle.std.specs.List.{AllByRecursion}
use Rattle.std.proofs.lemmas.Bool.{cases_Bool, cond_both, eqb-true}
use Rattle.vx_base.specs.Bytes.{byte_of}
use Rattle.vx_base.specs.declared.types.Size.{Size}
use Rattle.memory_banks.specs.declared.entry.BusEntry.{BusEntry}
use Rattle.memory_banks.specs.Entries.{and_entry, load_entry, or_entry, store_entry}
use Rattle.l1_cache.specs.Accesses.{CarriesOut, ReadsBy, carried, loads_from}
use Rattle.l1_cache.specs.Lines.{Change, Line, Lines, change_of, leaving, line_in}
use Rattle.core_bytes.specs.BusRuns.{loads, place_after, places_from}
use Rattle.core_bytes.specs.Deeds.{Act, ActsSo, Deed, DoesAll, Draining, CacheWithPolicy, Reading, Writing, entries_in}
use Rattle.core_bytes.specs.OwnBytes.{writes}
use Rattle.core_bytes.proofs.CarriedBytes.{IsQuietChange, no_byte, or_none, write_quiet}
use Rattle.core_bytes.proofs.ByteChanges.{and_all}
use Rattle.core_bytes.proofs.QuietEntries.{IsQuiet, QuietTo, entry_byte}

-- ---- marks: places by the core's own counts

-- how many entries the core has made where the last read that loads ends
abbrev pub mark_after : ℕ → ℕ → Deed → ℕ
mark_after made mark d = if loads d.act d.entries then made + length d.entries else mark

abbrev pub marks_from : ℕ → ℕ → List Deed → List ℕ
marks_from made mark [] = []
marks_from made mark (d ∷ deeds) = mark_after made mark d ∷ marks_from (made + length d.entries) (mark_after made mark d) deeds

one_place : (t : Bool) (port : ℕ) (history : List BusEntry) (m n : ℕ) → (if t then place_after port history m else place_after port history n) ≡ place_after port history (if t then m else n)
one_place true port history m n = refl
one_place false port history m n = refl

-- a deed's place is behind so many entries of its core as its mark says
pub place_mark : (port : ℕ) (history : List BusEntry) (made mark : ℕ) (deeds : List Deed) (k : ℕ) (d : Deed) → slice_get deeds k ≡ Some d
    → slice_index (places_from port history made (place_after port history mark) deeds) k ≡ place_after port history (slice_index (marks_from made mark deeds) k)
place_mark port history made mark [] k d is = absurd (true≢false (sym (ap is_some is)))
place_mark port history made mark (e ∷ deeds) zero d is = one_place (loads e.act e.entries) port history (made + length e.entries) mark
place_mark port history made mark (e ∷ deeds) (suc k) d is =
    ap (λ (p : ℕ). slice_index (places_from port history (made + length e.entries) p deeds) k) (one_place (loads e.act e.entries) port history (made + length e.entries) mark)
    ∙ place_mark port history (made + length e.entries) (mark_after made mark e) deeds k d is

pub mark_within : (made mark : ℕ) (d : Deed) → mark ≤ made → mark_after made mark d ≤ made + length d.entries
mark_within made mark d le = cond_both (loads d.act d.entries) (made + length d.entries) mark (λ m. m ≤ made + length d.entries) (λ is. omega arith) (λ is. omega (arith, le))

-- ---- quiet entries

abbrev pub AllQuiet : ℕ → List BusEntry → Type 0
AllQuiet b entries = AllByRecursion (IsQuiet b) entries

abbrev pub AllQuietChanges : ℕ → List Change → Type 0
AllQuietChanges b changes = AllByRecursion (IsQuietChange b) changes

pub all_append : {A : Type 0} (P : A → Type 0) (xs ys : List A) → AllByRecursion P xs → AllByRecursion P ys → AllByRecursion P (xs ++ ys)
all_append P [] ys all rest = rest
all_append P (x ∷ xs) ys all rest = (all.0, all_append P xs ys all.1 rest)

pub all_take : {A : Type 0} (P : A → Type 0) (n : ℕ) (xs : List A) → AllByRecursion P xs → AllByRecursion P (take n xs)
all_take P zero xs all = tt
all_take P (suc n) [] all = tt
all_take P (suc n) (x ∷ xs) all = (all.0, all_take P n xs all.1)

pub all_drop : {A : Type 0} (P : A → Type 0) (n : ℕ) (xs : List A) → AllByRecursion P xs → AllByRecursion P (drop n xs)
all_drop P zero xs all = all
all_drop P (suc n) [] all = tt
all_drop P (suc n) (x ∷ xs) all = all_drop P n xs all.1

same_either : (t : Bool) (x : ℕ) → (if t then x else x) ≡ x
same_either true x = refl
same_either false x = refl

pub load_same : (b port word answer x : ℕ) → entry_byte b (load_entry port word answer) x ≡ x
load_same b port word answer x = same_either (nat_eq word (b / 4)) x

pub loads_quiet : (b port place : ℕ) (words : List ℕ) → AllQuiet b (loads_from port place words)
loads_quiet b port place [] = tt
loads_quiet b port place (word ∷ words) = ((λ x small. load_same b port place word x), loads_quiet b port (place + 1) words)

carried_quiet : (b port : ℕ) (c : Change) (before_keep before_set : ℕ) → IsQuietChange b c → AllQuiet b (carried port c before_keep before_set)
carried_quiet b port c before_keep before_set quiet =
    cond_both (nat_eq c.keep 0) (store_entry port c.word c.value ∷ []) (and_entry port c.word c.keep before_keep ∷ or_entry port c.word c.value before_set ∷ []) (AllQuiet b)
    (λ none. (
      (λ x small. cond_both (nat_eq c.word (b / 4)) (byte_of c.value (b % 4)) x (λ y. y ≡ x)
          (λ here.
          let all : byte_of c.keep (b % 4) ≡ 255 = (quiet (eqb-true c.word (b / 4) here)).0 in
          let no : byte_of c.keep (b % 4) ≡ 0 = ap (λ (k : ℕ). byte_of k (b % 4)) (eqb-true c.keep 0 none) ∙ no_byte (b % 4) (omega arith) in
          let both : 0 ≡ 255 = sym no ∙ all in
          let wrong : ⊥ = omega (arith, both) in absurd wrong)
          (λ there. refl)),
      tt,
    ))
    (λ some. (
      (λ x small. cond_both (nat_eq c.word (b / 4)) (bit_and x (byte_of c.keep (b % 4))) x (λ y. y ≡ x)
          (λ here. ap (bit_and x) (quiet (eqb-true c.word (b / 4) here)).0 ∙ (and_all x ∙ omega (arith, small)))
          (λ there. refl)),
      (
        (λ x small. cond_both (nat_eq c.word (b / 4)) (bit_or x (byte_of c.value (b % 4))) x (λ y. y ≡ x)
            (λ here. ap (bit_or x) (quiet (eqb-true c.word (b / 4) here)).1 ∙ or_none x)
            (λ there. refl)),
        tt,
      ),
    ))

pub carries_quiet : (b port : ℕ) (changes : List Change) (entries : List BusEntry) → CarriesOut port changes entries → AllQuietChanges b changes → AllQuiet b entries
carries_quiet b port [] entries none quiet = subst (AllQuiet b) (sym none) tt
carries_quiet b port (c ∷ changes) entries h quiet =
    subst (AllQuiet b) (sym h.1.entries_are)
    (all_append (IsQuiet b) (carried port c h.1.before_keep h.1.before_set) h.0 (carried_quiet b port c h.1.before_keep h.1.before_set quiet.0) (carries_quiet b port changes h.0 h.2 quiet.1))

-- ---- deeds

-- a read's entries are loads, and the changes that wait stay
pub record ReadLeaves (b : ℕ) (entries : List BusEntry) (lines lines' : Lines) : Type 0 where
  pub quiet : AllQuiet b entries
  pub waiting : lines'.waiting ≡ lines.waiting

pub read_leaves : {E : Type 0} (evicts : E → ℕ → ℕ → ℕ → ℕ → E → Type 0) (b port ways : ℕ) (found : Option Line) (address : ℕ) (size : Size) (lines : Lines) (policy : E) (entries : List BusEntry) (answer : ℕ) (lines' : Lines) (policy' : E)
    → ReadsBy evicts ways found port address size lines policy entries answer lines' policy' → ReadLeaves b entries lines lines'
read_leaves evicts b port zero found address size lines policy entries answer lines' policy' r = record {
  quiet = subst (AllQuiet b) (sym r.entries_are) ((λ x small. load_same b port (address / 4) r.word x), tt);
  waiting = ap (λ (l : Lines). l.waiting) r.same_lines;
}
read_leaves evicts b port (suc ways) (Some line) address size lines policy entries answer lines' policy' r = record {
  quiet = subst (AllQuiet b) (sym r.no_entry) tt;
  waiting = ap (λ (l : Lines). l.waiting) r.lines_are;
}
read_leaves evicts b port (suc ways) None address size lines policy entries answer lines' policy' r = record {
  quiet = subst (AllQuiet b) (sym r.entries_are) (loads_quiet b port (address / 64 * 16) r.words);
  waiting = ap (λ (l : Lines). l.waiting) r.lines_are;
}

-- a deed that does not write a byte keeps all quiet on it
pub record StaysQuiet (b : ℕ) (entries : List BusEntry) (lines' : Lines) : Type 0 where
  pub quiet : AllQuiet b entries
  pub waiting : AllQuietChanges b lines'.waiting

act_quiet : {E : Type 0} (evicts : E → ℕ → ℕ → ℕ → ℕ → E → Type 0) (b port : ℕ) (act : Act) (entries : List BusEntry) (lines : Lines) (policy : E) (lines' : Lines) (policy' : E)
    → ActsSo evicts port act entries lines policy lines' policy' → writes act b ≡ false → AllQuietChanges b lines.waiting → StaysQuiet b entries lines'
act_quiet evicts b port (Reading address size answer) entries lines policy lines' policy' h out quiet =
    let left : ReadLeaves b entries lines lines' = read_leaves evicts b port lines.way_count (line_in lines (address / 64)) address size lines policy entries answer lines' policy' h.1 in
    record { quiet = left.quiet; waiting = subst (AllQuietChanges b) (sym left.waiting) quiet }
act_quiet evicts b port (Writing address size value) entries lines policy lines' policy' h out quiet =
    let queue : AllQuietChanges b (lines.waiting ++ change_of address size value ∷ []) =
    all_append (IsQuietChange b) lines.waiting (change_of address size value ∷ []) quiet (write_quiet address size value b h.0 out, tt) in
    let over : ℕ = length (lines.waiting ++ change_of address size value ∷ []) - lines.room in
    record {
      quiet = carries_quiet b port (leaving lines.room (lines.waiting ++ change_of address size value ∷ [])) entries h.1.carries (all_take (IsQuietChange b) over (lines.waiting ++ change_of address size value ∷ []) queue);
      waiting = subst (λ (l : Lines). AllQuietChanges b l.waiting) (sym h.1.lines_are) (all_drop (IsQuietChange b) over (lines.waiting ++ change_of address size value ∷ []) queue);
    }
act_quiet evicts b port Draining entries lines policy lines' policy' h out quiet = record {
  quiet = carries_quiet b port lines.waiting entries h.0.carries quiet;
  waiting = subst (λ (l : Lines). AllQuietChanges b l.waiting) (sym h.0.lines_are) tt;
}

quiet_none : (b n : ℕ) (entries : List BusEntry) → n ≡ 0 → QuietTo b n entries
quiet_none b n entries none = subst (λ (m : ℕ). QuietTo b m entries) (sym none) tt

quiet_more : (b n : ℕ) (xs ys : List BusEntry) → AllQuiet b xs → QuietTo b (n - length xs) ys → QuietTo b n (xs ++ ys)
quiet_more b n [] ys quiet rest = let same : n - 0 ≡ n = omega arith in subst (λ (m : ℕ). QuietTo b m ys) same rest
quiet_more b zero (e ∷ xs) ys quiet rest = tt
quiet_more b (suc n) (e ∷ xs) ys quiet rest =
    let same : suc n - suc (length xs) ≡ n - length xs = omega arith in
    (quiet.0, quiet_more b n xs ys quiet.1 (subst (λ (m : ℕ). QuietTo b m ys) same rest))

write_mark : (act : Act) (entries : List BusEntry) (b : ℕ) → writes act b ≡ true → loads act entries ≡ false
write_mark (Reading address size answer) entries b into = absurd (true≢false (sym into))
write_mark (Writing address size value) entries b into = refl
write_mark Draining entries b into = absurd (true≢false (sym into))

-- Where the marks of all writes of a byte are no less than n, the first n entries of a core are quiet on it.
pub deeds_quiet : {E : Type 0} (evicts : E → ℕ → ℕ → ℕ → ℕ → E → Type 0) (b port n made mark : ℕ) (deeds : List Deed) (k k' : CacheWithPolicy E)
    → mark ≤ made → DoesAll evicts port deeds k k' → AllQuietChanges b k.lines.waiting
    → ((i : ℕ) (d : Deed) → slice_get deeds i ≡ Some d → writes d.act b ≡ true → n ≤ slice_index (marks_from made mark deeds) i)
    → QuietTo b (n - made) (entries_in deeds)
deeds_quiet evicts b port n made mark [] k k' le does quiet late = none (n - made)
  where
    none : (m : ℕ) → QuietTo b m []
    none zero = tt
    none (suc m) = tt
deeds_quiet evicts b port n made mark (d ∷ deeds) k k' le does quiet late = elim (cases_Bool (writes d.act b)) [
  | inl into ↦
      let here : n ≤ mark_after made mark d = late zero d refl into in
      let stands : mark_after made mark d ≡ mark = ap (λ (t : Bool). if t then made + length d.entries else mark) (write_mark d.act d.entries b into) in
      let none : n - made ≡ 0 = omega (arith, here, stands, le) in
      quiet_none b (n - made) (d.entries ++ entries_in deeds) none
  | inr out ↦
      let one : StaysQuiet b d.entries does.0.lines = act_quiet evicts b port d.act d.entries k.lines k.policy does.0.lines does.0.policy does.1 out quiet in
      let rest : QuietTo b (n - (made + length d.entries)) (entries_in deeds) =
      deeds_quiet evicts b port n (made + length d.entries) (mark_after made mark d) deeds does.0 k' (mark_within made mark d le) does.2 one.waiting (λ i e is into. late (suc i) e is into) in
      let same : n - (made + length d.entries) ≡ n - made - length d.entries = omega arith in
      quiet_more b (n - made) d.entries (entries_in deeds) one.quiet (subst (λ (m : ℕ). QuietTo b m (entries_in deeds)) same rest)
]
