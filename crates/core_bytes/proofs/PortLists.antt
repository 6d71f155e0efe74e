-- Entries that are made through a port stand in the port's list, in their order.
use Rattle.std.proofs.Common.{◌≡◌, List, [], ◌∷◌, ◌++◌, ap, ◌∙◌, sym, append_assoc}
use Rattle.std.proofs.lemmas.List.{append-nil}
use Rattle.memory_banks.specs.declared.entry.BusEntry.{BusEntry}
use Rattle.memory_banks.specs.declared.port_bus.PortBus.{PortBus}
use Rattle.memory_banks.specs.Buses.{AddsEntry, MakesAll}
use Rattle.memory_banks.specs.Ports.{list_of, number, numbers}

-- what entries make of a port and of the rest
pub record Added (b : PortBus) (entries : List BusEntry) (c : PortBus) : Type 0 where
  pub banks_are : c.banks ≡ b.banks
  pub number_is : number c.port ≡ number b.port
  pub numbers_are : numbers c.port ≡ numbers b.port
  pub list : list_of c.port ≡ list_of b.port ++ entries

pub added : (b : PortBus) (entries : List BusEntry) (c : PortBus) → MakesAll AddsEntry b entries c → Added b entries c
added b [] c same = record {
  banks_are = ap (λ (x : PortBus). x.banks) same;
  number_is = ap (λ (x : PortBus). number x.port) same;
  numbers_are = ap (λ (x : PortBus). numbers x.port) same;
  list = ap (λ (x : PortBus). list_of x.port) same ∙ sym (append-nil (list_of b.port));
}
added b (e ∷ entries) c made =
    let one : AddsEntry b e made.0 = made.1 in
    let rest = added made.0 entries c made.2 in
    record {
      banks_are = rest.banks_are ∙ one.banks_are;
      number_is = rest.number_is ∙ one.steps.number_is;
      numbers_are = rest.numbers_are ∙ one.steps.numbers_are;
      list = rest.list ∙ (ap (λ (l : List BusEntry). l ++ entries) one.steps.list ∙ append_assoc (list_of b.port) (e ∷ []) entries);
    }
