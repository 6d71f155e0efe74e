-- A byte that no other core writes ends as the core's own deeds leave it.
use Rattle.std.proofs.Common.{◌≡◌, ℕ, suc, ◌-◌, ◌<◌, ◌≤◌, true, List, length, refl, ap, sym, ◌∙◌, subst, arith, true≢false}
use Rattle.std.specs.Prelude.{slice_get, slice_index, Some}
use Rattle.memory_banks.specs.declared.entry.BusEntry.{BusEntry}
use Rattle.memory_banks.specs.Entries.{entries_of}
use Rattle.l1_cache.specs.Lines.{Change, no_lines}
use Rattle.core_bytes.specs.BusRuns.{BusRun, CoreDid}
use Rattle.core_bytes.specs.Deeds.{Deed, entries_in}
use Rattle.core_bytes.specs.OwnBytes.{EndsOwn, byte_in, own_byte, writes}
use Rattle.core_bytes.proofs.CarriedBytes.{changes_byte}
use Rattle.core_bytes.proofs.OtherCores.{deeds_quiet, marks_from}
use Rattle.core_bytes.proofs.OwnDeeds.{deeds_waiting}
use Rattle.core_bytes.proofs.QuietEntries.{OthersQuiet, QuietTo, byte_below, count, others_quiet, run_byte, settled}

module _ {E : Type 0} (evicts : E → ℕ → ℕ → ℕ → ℕ → E → Type 0) (sets ways room : ℕ) (policies : ℕ → E) (opening : List ℕ) (cores : ℕ) (deeds : ℕ → List Deed) (history : List BusEntry) (run : BusRun evicts sets ways room policies opening cores deeds history) where
  -- where the writes of a byte by another core have marks no less than n, its first n entries are quiet on it
  pub other_quiet : (b n other : ℕ) → other < cores
      → ((i : ℕ) (d : Deed) → slice_get (deeds other) i ≡ Some d → writes d.act b ≡ true → n ≤ slice_index (marks_from 0 0 (deeds other)) i)
      → QuietTo b n (entries_of (suc other) history)
  other_quiet b n other exists late =
      let did : CoreDid evicts sets ways room (policies other) (suc other) (deeds other) = run.did other exists in
      let quiet : QuietTo b (n - 0) (entries_in (deeds other)) =
      deeds_quiet evicts b (suc other) n 0 0 (deeds other) (record { lines = no_lines sets ways room; policy = policies other }) did.last (omega arith) did.does tt late in
      let same : n - 0 ≡ n = omega arith in
      subst (QuietTo b n) (sym (run.projected other exists)) (subst (λ (m : ℕ). QuietTo b m (entries_in (deeds other))) same quiet)

  pub ends_own : EndsOwn opening cores deeds history
  ends_own core b exists within unshared =
      let did : CoreDid evicts sets ways room (policies core) (suc core) (deeds core) = run.did core exists in
      let quiet : OthersQuiet (suc core) b (length history) history =
      others_quiet cores core b (length history) history run.of_cores (λ other is_core apart.
      other_quiet b (count (suc other) (length history) history) other is_core (λ i d is into. absurd (true≢false (sym into ∙ unshared other is_core apart i d is)))) in
      let carried : own_byte (deeds core) b (byte_in opening b) ≡ changes_byte b did.last.lines.waiting (run_byte b (entries_in (deeds core)) (byte_in opening b)) =
      deeds_waiting evicts b (suc core) (deeds core) (record { lines = no_lines sets ways room; policy = policies core }) did.last (byte_in opening b) (byte_in opening b) did.does (byte_below opening b) refl in
      settled (suc core) b opening history within quiet
      ∙ (ap (λ (es : List BusEntry). run_byte b es (byte_in opening b)) (run.projected core exists)
      ∙ sym (carried ∙ ap (λ (q : List Change). changes_byte b q (run_byte b (entries_in (deeds core)) (byte_in opening b))) did.none_waits))
