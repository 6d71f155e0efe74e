-- What a step does to a bus.
use Rattle.std.specs.Prelude.{◌≡◌, ℕ, List, [], ◌∷◌}
use Rattle.memory_banks.specs.declared.entry.BusEntry.{BusEntry}
use Rattle.memory_banks.specs.declared.port_bus.PortBus.{PortBus}
use Rattle.memory_banks.specs.Entries.{IsAnswered, after, and_entry, or_entry}
use Rattle.memory_banks.specs.Ports.{Steps}

-- entries in order lead from one bus to another
abbrev pub MakesAll : {B : Type 0} → (B → BusEntry → B → Type 0) → B → List BusEntry → B → Type 0
MakesAll acts b [] c = c ≡ b
MakesAll {B} acts b (e ∷ entries) c = (between : B) × acts b e between × MakesAll acts between entries c

-- a part store: one entry keeps some bits, and the next sets others
pub record ActsTwice {B : Type 0} (acts : B → BusEntry → B → Type 0) (number word keep value : ℕ) (b c : B) : Type 0 where
  pub between : B
  pub before_keep : ℕ
  pub before_set : ℕ
  pub keeps : acts b (and_entry number word keep before_keep) between
  pub sets : acts between (or_entry number word value before_set) c

-- words of one's own: the entry is answered from them, and applied to them
pub record Applies (words : List ℕ) (e : BusEntry) (now : List ℕ) : Type 0 where
  pub answered : IsAnswered words e
  pub applied : now ≡ after words e

-- through a port: the entry is the port's next, and the banks stay
pub record AddsEntry (b : PortBus) (e : BusEntry) (c : PortBus) : Type 0 where
  pub banks_are : c.banks ≡ b.banks
  pub steps : Steps b.banks.now b.port e c.port
