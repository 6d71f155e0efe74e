-- What cores that have run give back, as those who gather it need it.
use Rattle.std.proofs.Common.{◌≡◌, ◌≢◌, ℕ, suc, ◌<◌, ◌+◌, List, [], ◌∷◌, ◌++◌, length, map, All, ap, sym, subst, ◌∙◌, arith, slice_index_or}
use Rattle.group_dispenser.specs.Claimers.{IsOf as draws_from, lists, spare}
use Rattle.group_dispenser.specs.declared.claimer.Claimer.{Claimer}
use Rattle.group_dispenser.specs.declared.dispenser.Dispenser.{Dispenser}
use Rattle.memory_banks.specs.Ports.{HasAll, IsOf, IsSame, number, numbers, seen, union}
use Rattle.memory_banks.specs.declared.banks.Banks.{Banks}
use Rattle.memory_banks.specs.declared.port.Port.{Port}
use Rattle.vx_isa.specs.declared.image.Image.{Image}
use Rattle.vx_core.specs.declared.job.GroupJob.{GroupJob}
use Rattle.core_threads.specs.Joins.{AllRan, claimer_in, port_in}
use Rattle.core_threads.specs.Starts.{AreSeated, EachSeated}
use Rattle.core_threads.specs.Works.{CanRun}
use Rattle.core_threads.specs.declared.work.CoreWork.{CoreWork}
use Rattle.core_threads.proofs.CoreRuns.{port_behind}
use Rattle.core_threads.proofs.TicketsOfCores.{all_in_map}

-- cores are ready, with the first port and the first claimer behind what was made of them
pub are_seated : {P E : Type 0} (evictor_begins : E → ℕ → E → Type 0) (asked groups cores bank_count sets : ℕ) (banks : Banks) (first p : Port) (d : Dispenser) (made c : Claimer) (ports : List Port) (works : List (CoreWork P E))
    → length works ≡ cores → EachSeated evictor_begins asked bank_count sets banks d works → map port_in works ≡ ports → asked ≡ groups → HasAll first → seen first ≡ [] → IsSame banks first p
    → union (numbers p) (map numbers ports) ≡ numbers first → draws_from d c × (lists c ≡ lists made) → lists made ≡ [] ∷ [] → spare c + cores ≡ 8 → AreSeated evictor_begins groups cores bank_count sets banks p d c works
are_seated evictor_begins asked groups cores bank_count sets banks first p d made c ports works count each ports_are same all none_seen is back claimer nothing left = record {
  count = count;
  each = subst (λ (n : ℕ). EachSeated evictor_begins n bank_count sets banks d works) same each;
  port_is = is.of;
  first = is.number_is ∙ all.first;
  none_seen = is.seen_is ∙ none_seen;
  all_numbers = ap (λ (ps : List Port). union (numbers p) (map numbers ps)) ports_are ∙ (back ∙ all.others);
  claimer_is = claimer.0;
  none_drawn = claimer.1 ∙ nothing;
  all_claimers = omega (arith, count, left);
}

-- what was put into an empty list
pub put_in : {A B : Type 0} (f : A → B) (got front : List B) (xs new : List A) → got ≡ front ++ map f xs → front ≡ [] → xs ≡ new → got ≡ map f new
put_in {A} {B} f got front xs new is empty same = is ∙ (ap (λ (l : List B). l ++ map f xs) empty ∙ ap (λ (l : List A). map f l) same)

module _ {P E : Type 0} (evicts : E → ℕ → ℕ → ℕ → ℕ → E → Type 0) (evictor_begins : E → ℕ → E → Type 0) (begins : P → ℕ → P → Type 0) (picks : P → ℕ → ℕ → P → Type 0) (image : Image) (job : ℕ → GroupJob) (groups cores bank_count sets : ℕ) (banks : Banks) (p : Port) (d : Dispenser) (c : Claimer) (works : List (CoreWork P E)) (seated : AreSeated evictor_begins groups cores bank_count sets banks p d c works) where
  pub all_can : (ws : List (CoreWork P E)) → ws ≡ works → All (λ w. CanRun d groups w) ws
  all_can ws same = subst (λ (xs : List (CoreWork P E)). All (λ w. CanRun d groups w) xs) (sym same) (λ k w within. (seated.each k w within).can)

  pub ran_from : (ws new : List (CoreWork P E)) → ws ≡ works → AllRan evicts begins picks image job d groups ws new → AllRan evicts begins picks image job d groups works new
  ran_from ws new same ran = subst (λ (xs : List (CoreWork P E)). AllRan evicts begins picks image job d groups xs new) same ran

  module _ (new : List (CoreWork P E)) (ran : AllRan evicts begins picks image job d groups works new) where
    inside : (k : ℕ) → k < length new → k < length works
    inside k within = omega (arith, within, ran.count)

    pub ports_of : (ports : List Port) → ports ≡ map port_in new → All (λ r. IsOf banks r) ports
    ports_of ports are = subst (λ (ps : List Port). All (λ r. IsOf banks r) ps) (sym are) (all_in_map port_in (λ (r : Port). IsOf banks r) new (λ k w within.
        let run = ran.each k w (inside k within) in
        let added = (port_behind evicts begins picks image job d groups (slice_index_or works k w) (slice_index_or new k w) run).1 in
        let same : (slice_index_or new k w).bus.banks.now ≡ banks = ap (λ b. b.now) added.banks_are ∙ (seated.each k w (inside k within)).banks_are in
        subst (λ (b : Banks). IsOf b (port_in (slice_index_or new k w))) same run.sound))

    pub ports_behind : (ports : List Port) → ports ≡ map port_in new → All (λ r. number r ≢ 0) ports
    ports_behind ports are = subst (λ (ps : List Port). All (λ r. number r ≢ 0) ps) (sym are) (all_in_map port_in (λ (r : Port). number r ≢ 0) new (λ k w within.
        let run = ran.each k w (inside k within) in
        let added = (port_behind evicts begins picks image job d groups (slice_index_or works k w) (slice_index_or new k w) run).1 in
        let is : number (port_in (slice_index_or new k w)) ≡ suc k = added.number_is ∙ (seated.each k w (inside k within)).port_is in
        λ none. let zero_is : number (port_in (slice_index_or new k w)) ≡ 0 = none in omega (arith, is, zero_is)))

    pub claimers_of : (claimers : List Claimer) → claimers ≡ map claimer_in new → All (λ r. draws_from d r) claimers
    claimers_of claimers are = subst (λ (cs : List Claimer). All (λ r. draws_from d r) cs) (sym are) (all_in_map claimer_in (λ (r : Claimer). draws_from d r) new (λ k w within. (ran.each k w (inside k within)).draws))
