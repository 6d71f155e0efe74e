-- A read's byte that no other core wrote at a lesser place is what the core's own deeds left.
use Rattle.std.proofs.Common.{◌≡◌, ℕ, zero, suc, ◌+◌, ◌-◌, ◌/◌, ◌%◌, ◌<◌, ◌≤◌, List, [], ◌∷◌, ◌++◌, length, take, replicate, get_or, refl, ap, sym, subst, arith, true≢false, length-append}
use Rattle.std.specs.Prelude.{slice_get, slice_index, is_some, unwrap_or, Option, Some}
use Rattle.vx_base.specs.Bytes.{byte_of, bytes_of}
use Rattle.vx_base.specs.declared.types.Size.{Size}
use Rattle.memory_banks.specs.declared.entry.BusEntry.{BusEntry}
use Rattle.memory_banks.specs.Entries.{entries_of}
use Rattle.l1_cache.specs.Lines.{Lines, change_of, line_in, no_lines, set_of, with_change}
use Rattle.core_bytes.specs.BusRuns.{BusRun, CoreDid, place_after, places}
use Rattle.core_bytes.specs.Deeds.{Act, ActsSo, Deed, Does, DoesAll, Draining, CacheWithPolicy, Reading, Writing, entries_in}
use Rattle.core_bytes.specs.OwnBytes.{AnswersOwn, byte_in, own_byte, written}
use Rattle.core_bytes.proofs.CarriedBytes.{changes_byte, write_byte}
use Rattle.core_bytes.proofs.EndBytes.{other_quiet}
use Rattle.core_bytes.proofs.OtherCores.{mark_after, mark_within, marks_from, place_mark}
use Rattle.core_bytes.proofs.OwnAnswers.{read_right}
use Rattle.core_bytes.proofs.OwnDeeds.{act_waiting, written_small}
use Rattle.core_bytes.proofs.QuietEntries.{AnsweredTo, OthersQuiet, answered, byte_below, count, enough, entry_byte, few, others_quiet, run_byte}
use Rattle.core_bytes.proofs.RightLines.{AreRight, change_right}

answered_rest : (b y n : ℕ) (xs ys : List BusEntry) → AnsweredTo b y n (xs ++ ys) → AnsweredTo b (run_byte b xs y) (n - length xs) ys
answered_rest b y n [] ys h = let same : n ≡ n - 0 = omega arith in subst (λ (m : ℕ). AnsweredTo b y m ys) same h
answered_rest b y zero (e ∷ xs) ys h = let same : 0 ≡ 0 - suc (length xs) = omega arith in subst (λ (m : ℕ). AnsweredTo b (run_byte b xs (entry_byte b e y)) m ys) same tt
answered_rest b y (suc n) (e ∷ xs) ys h =
    let same : n - length xs ≡ suc n - suc (length xs) = omega arith in
    subst (λ (m : ℕ). AnsweredTo b (run_byte b xs (entry_byte b e y)) m ys) same (answered_rest b (entry_byte b e y) n xs ys h.1)

-- the lines stay right behind each deed
act_right : {E : Type 0} (evicts : E → ℕ → ℕ → ℕ → ℕ → E → Type 0) (b n made mark port : ℕ) (act : Act) (entries rest : List BusEntry) (lines : Lines) (policy : E) (lines' : Lines) (policy' : E) (x y : ℕ)
    → mark ≤ made → x < 256 → ActsSo evicts port act entries lines policy lines' policy' → x ≡ changes_byte b lines.waiting y → (mark ≤ n → AreRight b x (set_of lines (b / 64))) → AnsweredTo b y (n - made) (entries ++ rest)
    → mark_after made mark (record { act = act; entries = entries }) ≤ n → AreRight b (written act b x) (set_of lines' (b / 64))
act_right evicts b n made mark port (Reading a size answer) entries rest lines policy lines' policy' x y le small h is right loads within =
    (read_right evicts b n made mark port lines.way_count a size lines policy entries rest answer lines' policy' x y le h.0 is right loads (line_in lines (a / 64)) refl h.1).right within
act_right evicts b n made mark port (Writing a size value) entries rest lines policy lines' policy' x y le small h is right loads within =
    subst (λ (l : Lines). AreRight b (written (Writing a size value) b x) (set_of l (b / 64))) (sym h.1.lines_are)
    (subst (λ (z : ℕ). AreRight b z (set_of (with_change (change_of a size value) lines) (b / 64))) (write_byte a size value b x h.0 small) (change_right b x (change_of a size value) lines (right within)))
act_right evicts b n made mark port Draining entries rest lines policy lines' policy' x y le small h is right loads within =
    subst (λ (l : Lines). AreRight b x (set_of l (b / 64))) (sym h.0.lines_are) (right within)

pub reads_own : {E : Type 0} (evicts : E → ℕ → ℕ → ℕ → ℕ → E → Type 0) (b n port made mark : ℕ) (deeds : List Deed) (k k' : CacheWithPolicy E) (x y : ℕ)
    → mark ≤ made → x < 256 → DoesAll evicts port deeds k k' → x ≡ changes_byte b k.lines.waiting y → (mark ≤ n → AreRight b x (set_of k.lines (b / 64))) → AnsweredTo b y (n - made) (entries_in deeds)
    → (i a : ℕ) (size : Size) (answer j : ℕ) (entries : List BusEntry) → slice_get deeds i ≡ Some (record { act = Reading a size answer; entries = entries })
    → slice_index (marks_from made mark deeds) i ≤ n → j < bytes_of size → a + j ≡ b → byte_of answer j ≡ own_byte (take i deeds) b x
reads_own evicts b n port made mark [] k k' x y le small does is right loads i a size answer j entries at within inside here = absurd (true≢false (sym (ap is_some at)))
reads_own {E} evicts b n port made mark (d ∷ deeds) k k' x y le small does is right loads zero a size answer j entries at within inside here =
    let same : d ≡ record { act = Reading a size answer; entries = entries } = ap (λ (o : Option Deed). unwrap_or o d) at in
    let one : Does evicts port (record { act = Reading a size answer; entries = entries }) k does.0 = subst (λ (e : Deed). Does evicts port e k does.0) same does.1 in
    let its : AnsweredTo b y (n - made) (entries ++ entries_in deeds) = subst (λ (e : Deed). AnsweredTo b y (n - made) (e.entries ++ entries_in deeds)) same loads in
    let mark_in : mark_after made mark (record { act = Reading a size answer; entries = entries }) ≤ n = subst (λ (e : Deed). mark_after made mark e ≤ n) same within in
    (read_right evicts b n made mark port k.lines.way_count a size k.lines k.policy entries (entries_in deeds) answer does.0.lines does.0.policy x y le one.0 is right its (line_in k.lines (a / 64)) refl one.1).answers mark_in j inside here
reads_own evicts b n port made mark (d ∷ deeds) k k' x y le small does is right loads (suc i) a size answer j entries at within inside here =
    let same : n - made - length d.entries ≡ n - (made + length d.entries) = omega arith in
    reads_own evicts b n port (made + length d.entries) (mark_after made mark d) deeds does.0 k' (written d.act b x) (run_byte b d.entries y)
    (mark_within made mark d le) (written_small d.act b x small) does.2
    (act_waiting evicts b port d.act d.entries k.lines k.policy does.0.lines does.0.policy x y does.1 small is)
    (act_right evicts b n made mark port d.act d.entries (entries_in deeds) k.lines k.policy does.0.lines does.0.policy x y le small does.1 is right loads)
    (subst (λ (m : ℕ). AnsweredTo b (run_byte b d.entries y) m (entries_in deeds)) same (answered_rest b y (n - made) d.entries (entries_in deeds) loads))
    i a size answer j entries at within inside here

marks_bound : (made mark : ℕ) (deeds : List Deed) (i : ℕ) → mark ≤ made → slice_index (marks_from made mark deeds) i ≤ made + length (entries_in deeds)
marks_bound made mark [] i le = omega arith
marks_bound made mark (d ∷ deeds) zero le =
    let one : mark_after made mark d ≤ made + length d.entries = mark_within made mark d le in
    let sum : length (d.entries ++ entries_in deeds) ≡ length d.entries + length (entries_in deeds) = length-append d.entries (entries_in deeds) in
    omega (arith, one, sum)
marks_bound made mark (d ∷ deeds) (suc i) le =
    let rest : slice_index (marks_from (made + length d.entries) (mark_after made mark d) deeds) i ≤ made + length d.entries + length (entries_in deeds) = marks_bound (made + length d.entries) (mark_after made mark d) deeds i (mark_within made mark d le) in
    let sum : length (d.entries ++ entries_in deeds) ≡ length d.entries + length (entries_in deeds) = length-append d.entries (entries_in deeds) in
    omega (arith, rest, sum)

no_line : (b x n i : ℕ) → AreRight b x (get_or (replicate n []) i [])
no_line b x zero i = tt
no_line b x (suc n) zero = tt
no_line b x (suc n) (suc i) = no_line b x n i

module _ {E : Type 0} (evicts : E → ℕ → ℕ → ℕ → ℕ → E → Type 0) (sets ways room : ℕ) (policies : ℕ → E) (opening : List ℕ) (cores : ℕ) (deeds : ℕ → List Deed) (history : List BusEntry) (run : BusRun evicts sets ways room policies opening cores deeds history) where
  pub answers_own : AnswersOwn opening cores deeds history
  answers_own core k a size answer i entries exists at inside within clear =
      let place : ℕ = slice_index (places (suc core) history (deeds core)) k in
      let did : CoreDid evicts sets ways room (policies core) (suc core) (deeds core) = run.did core exists in
      let mark : ℕ = slice_index (marks_from 0 0 (deeds core)) k in
      let stands : place ≡ place_after (suc core) history mark = place_mark (suc core) history 0 0 (deeds core) k _ at in
      let quiet : OthersQuiet (suc core) (a + i) place history =
      others_quiet cores core (a + i) place history run.of_cores (λ other is_core apart.
      other_quiet evicts sets ways room policies opening cores deeds history run (a + i) (count (suc other) place history) other is_core (λ j d is into.
      few (suc other) history place (slice_index (marks_from 0 0 (deeds other)) j) (subst (λ (p : ℕ). place ≤ p) (place_mark (suc other) history 0 0 (deeds other) j d is) (clear other is_core apart j d is into)))) in
      let n : ℕ = count (suc core) place history in
      let loads : AnsweredTo (a + i) (byte_in opening (a + i)) n (entries_in (deeds core)) =
      subst (AnsweredTo (a + i) (byte_in opening (a + i)) n) (run.projected core exists) (answered (suc core) (a + i) place opening history within run.legal quiet) in
      let most : mark ≤ 0 + length (entries_in (deeds core)) = marks_bound 0 0 (deeds core) k (omega arith) in
      let most' : mark ≤ length (entries_in (deeds core)) = omega (arith, most) in
      let bound : mark ≤ length (entries_of (suc core) history) = subst (λ (es : List BusEntry). mark ≤ length es) (sym (run.projected core exists)) most' in
      let reached : mark ≤ n = subst (λ (p : ℕ). mark ≤ count (suc core) p history) (sym stands) (enough (suc core) history mark bound) in
      let same : n ≡ n - 0 = omega arith in
      reads_own evicts (a + i) n (suc core) 0 0 (deeds core) (record { lines = no_lines sets ways room; policy = policies core }) did.last (byte_in opening (a + i)) (byte_in opening (a + i))
      (omega arith) (byte_below opening (a + i)) did.does refl (λ le. no_line (a + i) (byte_in opening (a + i)) sets ((a + i) / 64 % sets))
      (subst (λ (m : ℕ). AnsweredTo (a + i) (byte_in opening (a + i)) m (entries_in (deeds core))) same loads) k a size answer i entries at reached inside refl
