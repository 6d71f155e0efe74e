-- A core's own deeds, at one byte: what waits, applied to what was carried out, is what its writes leave; and where the loads are
-- answered by its own entries its lines are right, and so are its answers.
use Rattle.std.proofs.Common.{◌≡◌, ℕ, zero, suc, ◌-◌, ◌*◌, ◌/◌, ◌<◌, List, [], ◌∷◌, ◌++◌, length, take, drop, ap, sym, ◌∙◌, arith}
use Rattle.std.specs.Prelude.{Option, Some, None}
use Rattle.std.proofs.lemmas.Bool.{cond_both}
use Rattle.std.proofs.lemmas.List.{take-append-drop}
use Rattle.vx_base.specs.Bytes.{byte_of}
use Rattle.memory_banks.specs.declared.entry.BusEntry.{BusEntry}
use Rattle.l1_cache.specs.Accesses.{ReadsBy}
use Rattle.l1_cache.specs.Lines.{Change, Line, Lines, change_of, leaving, line_in}
use Rattle.core_bytes.specs.Deeds.{Act, ActsSo, Deed, DoesAll, Draining, CacheWithPolicy, Reading, Writing, entries_in}
use Rattle.core_bytes.specs.OwnBytes.{own_byte, writes, written}
use Rattle.core_bytes.proofs.CarriedBytes.{carries_run, change_byte, changes_append, changes_byte, run_append, write_byte}
use Rattle.core_bytes.proofs.OtherCores.{load_same}
use Rattle.core_bytes.proofs.QuietEntries.{run_byte}
use Rattle.core_bytes.proofs.RightLines.{loads_run}

-- ---- what waits

-- what waits, applied to what was carried out, is what the writes left
pub act_waiting : {E : Type 0} (evicts : E → ℕ → ℕ → ℕ → ℕ → E → Type 0) (b port : ℕ) (act : Act) (entries : List BusEntry) (lines : Lines) (policy : E) (lines' : Lines) (policy' : E) (x y : ℕ)
    → ActsSo evicts port act entries lines policy lines' policy' → x < 256 → x ≡ changes_byte b lines.waiting y → written act b x ≡ changes_byte b lines'.waiting (run_byte b entries y)
act_waiting evicts b port (Reading address size answer) entries lines policy lines' policy' x y h small is =
    by_ways lines.way_count (line_in lines (address / 64)) h.1
  where
    by_ways : (ways : ℕ) (found : Option Line) → ReadsBy evicts ways found port address size lines policy entries answer lines' policy' → x ≡ changes_byte b lines'.waiting (run_byte b entries y)
    by_ways zero found r =
        is ∙ (ap (changes_byte b lines.waiting) (sym (ap (λ (es : List BusEntry). run_byte b es y) r.entries_are ∙ load_same b port (address / 4) r.word y))
        ∙ ap (λ (l : Lines). changes_byte b l.waiting (run_byte b entries y)) (sym r.same_lines))
    by_ways (suc ways) (Some line) r =
        is ∙ (ap (changes_byte b lines.waiting) (sym (ap (λ (es : List BusEntry). run_byte b es y) r.no_entry))
        ∙ ap (λ (l : Lines). changes_byte b l.waiting (run_byte b entries y)) (sym r.lines_are))
    by_ways (suc ways) None r =
        is ∙ (ap (changes_byte b lines.waiting) (sym (ap (λ (es : List BusEntry). run_byte b es y) r.entries_are ∙ loads_run b port (address / 64 * 16) r.words y))
        ∙ ap (λ (l : Lines). changes_byte b l.waiting (run_byte b entries y)) (sym r.lines_are))
act_waiting evicts b port (Writing address size value) entries lines policy lines' policy' x y h small is =
    let c : Change = change_of address size value in
    let queue : List Change = lines.waiting ++ c ∷ [] in
    let over : ℕ = length queue - lines.room in
    let whole : changes_byte b queue y ≡ written (Writing address size value) b x =
    changes_append b lines.waiting (c ∷ []) y ∙ (ap (change_byte b c) (sym is) ∙ write_byte address size value b x h.0 small) in
    sym whole
    ∙ (ap (λ (q : List Change). changes_byte b q y) (sym (take-append-drop over queue))
    ∙ (changes_append b (take over queue) (drop over queue) y
    ∙ (ap (changes_byte b (drop over queue)) (sym (carries_run port b (leaving lines.room queue) entries y h.1.carries))
    ∙ ap (λ (l : Lines). changes_byte b l.waiting (run_byte b entries y)) (sym h.1.lines_are))))
act_waiting evicts b port Draining entries lines policy lines' policy' x y h small is =
    is ∙ (sym (carries_run port b lines.waiting entries y h.0.carries) ∙ ap (λ (l : Lines). changes_byte b l.waiting (run_byte b entries y)) (sym h.0.lines_are))

pub written_small : (act : Act) (b x : ℕ) → x < 256 → written act b x < 256
written_small (Reading address size answer) b x small = small
written_small (Writing address size value) b x small =
    cond_both (writes (Writing address size value) b) (byte_of value (b - address)) x (λ y. y < 256) (λ is. omega arith) (λ is. small)
written_small Draining b x small = small

-- deeds at whose end nothing waits leave a byte carried out
pub deeds_waiting : {E : Type 0} (evicts : E → ℕ → ℕ → ℕ → ℕ → E → Type 0) (b port : ℕ) (deeds : List Deed) (k k' : CacheWithPolicy E) (x y : ℕ)
    → DoesAll evicts port deeds k k' → x < 256 → x ≡ changes_byte b k.lines.waiting y → own_byte deeds b x ≡ changes_byte b k'.lines.waiting (run_byte b (entries_in deeds) y)
deeds_waiting evicts b port [] k k' x y does small is = is ∙ ap (λ (l : CacheWithPolicy _). changes_byte b l.lines.waiting y) (sym does)
deeds_waiting evicts b port (d ∷ deeds) k k' x y does small is =
    deeds_waiting evicts b port deeds does.0 k' (written d.act b x) (run_byte b d.entries y) does.2 (written_small d.act b x small) (act_waiting evicts b port d.act d.entries k.lines k.policy does.0.lines does.0.policy x y does.1 small is)
    ∙ ap (changes_byte b k'.lines.waiting) (sym (run_append b d.entries (entries_in deeds) y))
