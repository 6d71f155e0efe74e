-- From cores that have run, with what they gave back gathered, to one run of the machine.
use Rattle.std.proofs.Common.{◌≡◌, ℕ, zero, suc, ◌+◌, ◌<◌, ◌≤◌, inl, inr, List, [], ◌∷◌, ◌++◌, Option, Some, length, map, get_or, ap, refl, sym, subst, ◌∙◌, All, arith, flat_map, slice_get, slice_index_or, length-append}
use Rattle.std.specs.List.{concat}
use Rattle.std.specs.List.Sorted.{IsStrictlyIncreasing}
use Rattle.std.proofs.lemmas.List.{length-map}
use Rattle.group_dispenser.specs.Claimers.{gathered, lists, spare}
use Rattle.group_dispenser.specs.Claimers.{HasAll as HasAllClaimers}
use Rattle.group_dispenser.specs.Tickets.{AreBelow}
use Rattle.group_dispenser.specs.declared.claimer.Claimer.{Claimer}
use Rattle.group_dispenser.specs.declared.dispenser.Dispenser.{Dispenser}
use Rattle.group_dispenser.proofs.Gathered.{lists_of_each, spare_of_each}
use Rattle.memory_banks.specs.Entries.{IsLegal, entries_of, replay}
use Rattle.memory_banks.specs.Ports.{HasAll, KeptIn, list_of, number, numbers, opening_of, seen, union}
use Rattle.memory_banks.specs.Rule.{Among, one_of}
use Rattle.memory_banks.specs.declared.banks.Banks.{Banks}
use Rattle.memory_banks.specs.declared.entry.BusEntry.{BusEntry}
use Rattle.memory_banks.specs.declared.port.Port.{Port}
use Rattle.memory_banks.proofs.Sets.{among_all, among_one, only_one}
use Rattle.vx_core.specs.declared.end.GroupEnd.{GroupEnd}
use Rattle.core_bytes.specs.BusRuns.{IsOfCore}
use Rattle.core_bytes.proofs.PortLists.{Added}
use Rattle.core_threads.specs.Joins.{AreJoined, claimer_in, port_in, record_of}
use Rattle.core_threads.specs.MachineRuns.{AreClaimed, CoreRan, MachineRun, Plan, least_bad}
use Rattle.core_threads.specs.Starts.{AreSeated}
use Rattle.core_threads.specs.declared.record.CoreRecord.{CoreRecord}
use Rattle.core_threads.specs.declared.work.CoreWork.{CoreWork}
use Rattle.core_threads.proofs.CoreRuns.{core_ran, port_behind}
use Rattle.core_threads.proofs.Histories.{among_union, none_is_of}
use Rattle.core_threads.proofs.TicketsOfCores.{Behind, all_in_map, are_claimed, found, some_of}

pub get_map : {A B : Type 0} (f : A → B) (xs : List A) (k : ℕ) (d : A) (e : B) → k < length xs → get_or (map f xs) k e ≡ f (get_or xs k d)
get_map f [] k d e within = absurd (omega arith)
get_map f (x ∷ xs) zero d e within = refl
get_map f (x ∷ xs) (suc k) d e within = get_map f xs k d e (omega arith)

-- lists that agree at each place under two maps
same_maps : {A B C : Type 0} (f : B → C) (h : A → B) (xs ys : List A) → length ys ≡ length xs → ((k : ℕ) (d : A) → k < length xs → f (h (slice_index_or ys k d)) ≡ f (h (slice_index_or xs k d))) → map f (map h ys) ≡ map f (map h xs)
same_maps f h [] [] long same = refl
same_maps f h [] (y ∷ ys) long same = absurd (omega (arith, long))
same_maps f h (x ∷ xs) [] long same = absurd (omega (arith, long))
same_maps {A} {B} {C} f h (x ∷ xs) (y ∷ ys) long same =
    let first : f (h y) ≡ f (h x) = same 0 x (omega arith) in
    let rest = same_maps f h xs ys (omega (arith, long)) (λ k d within. same (suc k) d (omega arith)) in
    ap (λ (c : C). c ∷ map f (map h ys)) first ∙ ap (λ (cs : List C). f (h x) ∷ cs) rest

module _ {P E : Type 0} (evicts : E → ℕ → ℕ → ℕ → ℕ → E → Type 0) (evictor_begins : E → ℕ → E → Type 0) (begins : P → ℕ → P → Type 0) (picks : P → ℕ → ℕ → P → Type 0) (plan : Plan) (banks : Banks) (p : Port) (d : Dispenser) (c : Claimer) (works : List (CoreWork P E)) (seated : AreSeated evictor_begins plan.groups plan.cores plan.banks plan.sets banks p d c works) (q : Port) (f : Claimer) (records : List CoreRecord) (joined : AreJoined evicts begins picks plan.image plan.job banks d plan.groups works p c q f records) where
  abbrev old_at : ℕ → CoreWork P E → CoreWork P E
  old_at k w = slice_index_or works k w

  abbrev new_at : ℕ → CoreWork P E → CoreWork P E
  new_at k w = slice_index_or joined.new k w

  few : length works ≤ 8
  few = omega (arith, seated.all_claimers)

  inside : (k : ℕ) → k < length joined.new → k < length works
  inside k within = omega (arith, within, joined.ran.count)

  added_at : (k : ℕ) (w : CoreWork P E) → k < length works → (entries : List BusEntry) × Added (old_at k w).bus entries (new_at k w).bus
  added_at k w within = port_behind evicts begins picks plan.image plan.job d plan.groups (old_at k w) (new_at k w) (joined.ran.each k w within)

  numbers_at : (k : ℕ) (w : CoreWork P E) → k < length works → numbers (port_in (new_at k w)) ≡ numbers (port_in (old_at k w))
  numbers_at k w within = (added_at k w within).1.numbers_are

  pub is_first : number q ≡ 0
  is_first = joined.number_is ∙ seated.first

  pub has_all : HasAll q
  has_all = record {
    first = is_first;
    others = joined.numbers_are ∙ (ap (λ (sets : List ℕ). union (numbers p) sets) (same_maps numbers port_in works joined.new joined.ran.count numbers_at) ∙ seated.all_numbers);
  }

  none_gathered_at : (k : ℕ) (w : CoreWork P E) → k < length joined.new → gathered (new_at k w).claimer ≡ []
  none_gathered_at k w within = (joined.ran.each k w (inside k within)).gathered_is ∙ (seated.each k w (inside k within)).none_gathered

  none_spare_at : (k : ℕ) (w : CoreWork P E) → k < length joined.new → spare (new_at k w).claimer ≡ 0
  none_spare_at k w within = (joined.ran.each k w (inside k within)).spare_is ∙ (seated.each k w (inside k within)).makes_none

  kept_are : lists f ≡ ([] ∷ []) ++ flat_map lists (map claimer_in joined.new)
  kept_are = joined.tickets_are ∙ ap (λ (xss : List (List ℕ)). xss ++ flat_map lists (map claimer_in joined.new)) seated.none_drawn

  pub has_all_claimers : HasAllClaimers f
  has_all_claimers =
      let one_each = lists_of_each (map claimer_in joined.new) (all_in_map claimer_in (λ (r : Claimer). gathered r ≡ []) joined.new none_gathered_at) in
      let none_each = spare_of_each (map claimer_in joined.new) (all_in_map claimer_in (λ (r : Claimer). spare r ≡ 0) joined.new none_spare_at) in
      let long : length (lists f) ≡ 1 + length (flat_map lists (map claimer_in joined.new)) = ap (λ (xss : List (List ℕ)). length xss) kept_are ∙ length-append ([] ∷ []) (flat_map lists (map claimer_in joined.new)) in
      omega (arith, one_each, none_each, long, joined.spare_is, seated.all_claimers, joined.ran.count, length-map joined.new claimer_in)

  -- an entry of the history is of some core
  of_core : (k : ℕ) (e : BusEntry) → k < length (seen q) → (slice_index_or (seen q) k e).port < 16 → IsOfCore plan.cores (slice_index_or (seen q) k e)
  of_core k e within below =
      let among : Among (union (numbers p) (map numbers (map port_in works))) ((slice_index_or (seen q) k e).port) =
      subst (λ (set : ℕ). Among set ((slice_index_or (seen q) k e).port)) (sym seated.all_numbers) (among_all ((slice_index_or (seen q) k e).port) below) in
      elim (among_union ((slice_index_or (seen q) k e).port) (numbers p) (map numbers (map port_in works)) among) [
        | inl of_first ↦
            let none : entries_of ((slice_index_or (seen q) k e).port) (seen q) ≡ [] =
            joined.kept.lists ((slice_index_or (seen q) k e).port) of_first ∙ ap (λ (es : List BusEntry). entries_of ((slice_index_or (seen q) k e).port) es) seated.none_seen in
            absurd (none_is_of ((slice_index_or (seen q) k e).port) (seen q) none k e within refl)
        | inr of_one ↦ by_port of_one.0 (omega (arith, of_one.1, length-map (map port_in works) numbers, length-map works port_in)) of_one.2
      ] where
        by_port : (core : ℕ) → core < length works → Among (slice_index_or (map numbers (map port_in works)) core 0) ((slice_index_or (seen q) k e).port) → IsOfCore plan.cores (slice_index_or (seen q) k e)
        by_port core there is =
            let w : CoreWork P E = some_of works core there in
            let at : slice_index_or (map numbers (map port_in works)) core 0 ≡ one_of (suc core) =
            get_map numbers (map port_in works) core (port_in w) 0 (omega (arith, there, length-map works port_in))
            ∙ (ap numbers (get_map port_in works core w (port_in w) there) ∙ (seated.each core w there).alone) in
            record {
              core = core;
              exists = omega (arith, there, seated.count);
              port_is = only_one (suc core) ((slice_index_or (seen q) k e).port) (omega (arith, there, few)) (subst (λ (set : ℕ). Among set ((slice_index_or (seen q) k e).port)) at is);
            }

  -- the entries of a core's port in the history are those that it made
  entries_at : (core : ℕ) (w : CoreWork P E) → core < length works → entries_of (suc core) (seen q) ≡ list_of (port_in (new_at core w))
  entries_at core w within =
      let added = (added_at core w within).1 in
      let s = seated.each core w within in
      let inside_new : core < length joined.new = omega (arith, within, joined.ran.count) in
      let at : get_or (map port_in joined.new) core (port_in w) ≡ port_in (new_at core w) = get_map port_in joined.new core w (port_in w) inside_new in
      let kept : KeptIn (numbers (port_in (new_at core w))) (port_in (new_at core w)) q =
      subst (λ (r : Port). KeptIn (numbers r) r q) at (joined.lists_are core (port_in w) (omega (arith, inside_new, length-map joined.new port_in))) in
      let own : Among (numbers (port_in (new_at core w))) (suc core) =
      subst (λ (set : ℕ). Among set (suc core)) (sym (added.numbers_are ∙ s.alone)) (among_one (suc core) (omega (arith, within, few))) in
      let number_new : number (port_in (new_at core w)) ≡ suc core = added.number_is ∙ s.port_is in
      kept.lists (suc core) own ∙ ap (λ (n : ℕ). entries_of n (seen (port_in (new_at core w)))) (sym number_new)

  its_cores : (core : ℕ) (r : CoreRecord) → slice_get records core ≡ Some r → CoreRan evicts evictor_begins begins picks plan (length (opening_of banks)) core r (entries_of (suc core) (seen q))
  its_cores core r is =
      let there = found joined.new core r (ap (λ (rs : List CoreRecord). slice_get rs core) (sym joined.records_are) ∙ is) in
      let within : core < length works = inside core there.0 in
      let w : CoreWork P E = some_of works core within in
      subst (λ (x : CoreRecord). CoreRan evicts evictor_begins begins picks plan (length (opening_of banks)) core x (entries_of (suc core) (seen q))) (sym (there.1 w))
      (core_ran evicts begins picks evictor_begins plan banks d core (old_at core w) (new_at core w) (entries_of (suc core) (seen q)) (seated.each core w within) (joined.ran.each core w within) (entries_at core w within))

  claims : (tickets : ℕ) → AreBelow tickets (concat (lists f)) → All IsStrictlyIncreasing (lists f) → AreClaimed plan.groups records
  claims tickets below ascend =
      let behind : All (Behind plan.groups) joined.new = λ k w within. record {
        stops = (joined.ran.each k w (inside k within)).stops;
        below = (joined.ran.each k w (inside k within)).below;
        none_gathered = none_gathered_at k w within;
      } in
      subst (λ (rs : List CoreRecord). AreClaimed plan.groups rs) (sym joined.records_are) (are_claimed plan.groups tickets joined.new behind (lists f) kept_are below ascend)

  -- the run of the machine
  pub machine_run : (tickets : ℕ) (final : List ℕ) (end : Option GroupEnd) → AreBelow tickets (concat (lists f)) → All IsStrictlyIncreasing (lists f) → IsLegal (opening_of banks) (seen q)
      → All (λ e. e.port < 16) (seen q) → final ≡ replay (opening_of banks) (seen q) → end ≡ least_bad records
      → MachineRun evicts evictor_begins begins picks plan (opening_of banks) records (seen q) final end
  machine_run tickets final end below ascend legal ports words least = record {
    count = ap (λ (rs : List CoreRecord). length rs) joined.records_are ∙ (length-map joined.new record_of ∙ (joined.ran.count ∙ seated.count));
    claims = claims tickets below ascend;
    legal = legal;
    of_cores = λ k e within. of_core k e within (ports k e within);
    ran = its_cores;
    final_is = words;
    end_is = least;
  }
