-- The rule of the shared words, over the words and what all ports have seen, and what the steps tell.
use Rattle.std.specs.Prelude.{◌≡◌, ℕ, ◌*◌, ◌%◌, ◌^◌, ◌<◌, ◌⊎◌, List, [], ◌∷◌, ◌++◌, All, bit_and, bit_or}
use Rattle.std.specs.Int.{bit_at, bit_not, trailing_zeros, w32}
use mathlib.Core.List.{IsPrefix}
use mathlib.Core.Option.{some}
use lib.ListN.{get_elem?}
use Rattle.atomic_table.specs.Table.{State}
use Rattle.memory_banks.specs.declared.entry.BusKind.{BusKind}
use Rattle.memory_banks.specs.declared.entry.BusEntry.{BusEntry}
use Rattle.memory_banks.specs.declared.rule.View.{View}
use Rattle.memory_banks.specs.Entries.{replay, IsLegal, entries_of, Adds}

-- the port with number k is in the set
abbrev pub Among : ℕ → ℕ → Type 0
Among numbers k = bit_at numbers k ≡ 1

-- what was seen begins the history, and has every entry of these ports
pub record Knows (log : List BusEntry) (numbers : ℕ) (seen : List BusEntry) : Type 0 where
  pub begins : IsPrefix seen log
  pub whole : (k : ℕ) → Among numbers k → entries_of k seen ≡ entries_of k log

-- the port with number k is this view's, or one that it holds
abbrev pub Has : View → ℕ → Type 0
Has v k = Among v.numbers k ⊎ Among v.told_numbers k

pub record Fits (opening : List ℕ) (log : List BusEntry) (v : View) : Type 0 where
  pub own : Knows log v.numbers v.seen
  pub told : Knows log v.told_numbers v.told
  pub opening_is : (k : ℕ) → Has v k → v.opening ≡ opening

-- There is one legal history. Its replay is the words, behind which stands a 0; what each view has seen is a beginning of
-- it with every entry of the view's numbers; and no number stands in two views
pub record Kept (opening : List ℕ) (s : State (Unit {0}) View) : Type 0 where
  pub log : List BusEntry
  pub legal : IsLegal opening log
  pub words : s.words ≡ replay opening log ++ 0 ∷ []
  pub small : All (λ w. w < 2 ^ 32) (replay opening log)
  pub ports : All (λ e. e.port < 16) log
  pub fits : (id : ℕ) (v : View) → get_elem? s.views id ≡ some v → Fits opening log v
  pub apart : (id other : ℕ) (v w : View) (k : ℕ) → get_elem? s.views id ≡ some v → get_elem? s.views other ≡ some w → Has v k → Has w k → id ≡ other

-- the view has then seen these entries
abbrev pub with_seen : View → List BusEntry → View
with_seen v seen = record { opening = v.opening; number = v.number; numbers = v.numbers; seen = seen; told_numbers = v.told_numbers; told = v.told }

-- an entry of the view's port was added
abbrev pub entry_by : View → BusKind → ℕ → ℕ → ℕ → BusEntry
entry_by v kind word operand answer = record { port = v.number; kind = kind; word = word; operand = operand; answer = answer }

pub record Makes (v : View) (e : BusEntry) (w : View) : Type 0 where
  pub adds : Adds v.opening v.seen e w.seen
  pub rest : w ≡ with_seen v w.seen

-- the history so far was seen, in which stands all that was seen and told before
pub record Looks (v w : View) : Type 0 where
  pub begins : IsPrefix v.seen w.seen
  pub told_begins : IsPrefix v.told w.seen
  pub own : (k : ℕ) → Among v.numbers k → entries_of k w.seen ≡ entries_of k v.seen
  pub told : (k : ℕ) → Among v.told_numbers k → entries_of k w.seen ≡ entries_of k v.told
  pub rest : w ≡ record { opening = v.opening; number = v.number; numbers = bit_or v.numbers v.told_numbers; seen = w.seen; told_numbers = 0; told = [] }

-- the set with one number, and a set without one
abbrev pub one_of : ℕ → ℕ
one_of k = 1 * 2 ^ k % 2 ^ 32

abbrev pub without : ℕ → ℕ → ℕ
without numbers k = bit_and numbers (bit_not w32 (one_of k))

-- the numbers that the view holds beside its own, and the least of them
abbrev pub held_of : View → ℕ
held_of v = without v.numbers v.number

abbrev pub least_of : View → ℕ
least_of v = trailing_zeros w32 (held_of v)

abbrev pub seat_of : View → ℕ → ℕ → View
seat_of v number numbers = record { opening = v.opening; number = number; numbers = numbers; seen = v.seen; told_numbers = 0; told = [] }

-- a new port gets the least number that is held, and no other
abbrev pub giver : View → View
giver v = seat_of v v.number (without v.numbers (least_of v))

abbrev pub given : View → View
given v = seat_of v (least_of v) (one_of (least_of v))

-- a port keeps its own number, and hands all others over
abbrev pub keeper : View → View
keeper v = seat_of v v.number (one_of v.number)

abbrev pub handed : View → View
handed v = seat_of v v.number (held_of v)

-- a note of what was seen has no number
abbrev pub teller : View → View
teller v = seat_of v v.number v.numbers

abbrev pub note : View → View
note v = seat_of v 0 0

-- what another view knows is told
abbrev pub both : View → View → View
both v w = record { opening = v.opening; number = v.number; numbers = v.numbers; seen = v.seen; told_numbers = w.numbers; told = w.seen }

abbrev pub nothing : View
nothing = record { opening = []; number = 0; numbers = 0; seen = []; told_numbers = 0; told = [] }

-- the first port has every number, and has seen nothing
abbrev pub all_numbers : ℕ
all_numbers = 65535

abbrev pub first_view : List ℕ → View
first_view opening = record { opening = opening; number = 0; numbers = all_numbers; seen = []; told_numbers = 0; told = [] }
