-- Entries that are made on a bus and counted.
use Rattle.std.proofs.Common.{◌≡◌, ℕ, List, [], ◌∷◌, ap, ◌∙◌}
use Rattle.memory_banks.specs.declared.entry.BusEntry.{BusEntry}
use Rattle.memory_banks.specs.Buses.{MakesAll}
use Rattle.vx_core.specs.CountingBuses.{CountsEntry, KeepsCounting}
use Rattle.vx_core.specs.Places.{with_entries}
use Rattle.vx_core.specs.declared.counting_bus.CountingBus.{CountingBus}

-- what entries do that are counted
pub record CountsAll {B : Type 0} (acts : B → BusEntry → B → Type 0) (b : CountingBus B) (entries : List BusEntry) (c : CountingBus B) : Type 0 where
  pub made : MakesAll acts b.bus.now entries c.bus.now
  pub counted : c.steps.now ≡ with_entries b.banks entries b.steps.now
  pub kept : KeepsCounting b c

pub counts_all : {B : Type 0} (acts : B → BusEntry → B → Type 0) (b : CountingBus B) (entries : List BusEntry) (c : CountingBus B) → MakesAll (CountsEntry acts) b entries c → CountsAll acts b entries c
counts_all {B} acts b [] c same = record {
  made = ap (λ (k : CountingBus B). k.bus.now) same;
  counted = ap (λ (k : CountingBus B). k.steps.now) same;
  kept = record {
    banks = ap (λ (k : CountingBus B). k.banks) same;
    bus = ap (λ (k : CountingBus B). k.bus.ghost_name) same;
    steps = ap (λ (k : CountingBus B). k.steps.ghost_name) same;
  };
}
counts_all {B} acts b (e ∷ entries) c made =
    let between : CountingBus B = made.0 in
    let one : CountsEntry acts b e between = made.1 in
    let rest = counts_all acts between entries c made.2 in
    record {
      made = (between.bus.now, one.made, rest.made);
      counted = rest.counted ∙ (ap (λ (n : ℕ). with_entries n entries between.steps.now) one.kept.banks ∙ ap (with_entries b.banks entries) one.counted);
      kept = record {
        banks = rest.kept.banks ∙ one.kept.banks;
        bus = rest.kept.bus ∙ one.kept.bus;
        steps = rest.kept.steps ∙ one.kept.steps;
      };
    }
