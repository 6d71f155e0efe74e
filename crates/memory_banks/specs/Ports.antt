-- What clauses say of ports and banks.
use Rattle.std.specs.Prelude.{◌≡◌, ◌≢◌, ℕ, ◌==◌, List, [], ◌∷◌, ◌++◌, All, filter, fold, length, ◌<◌, slice_index_or, bit_or}
use Rattle.std.specs.Int.{bit_at}
use Rattle.std.specs.List.{range_with_len}
use mathlib.Core.List.{IsPrefix}
use Rattle.memory_banks.specs.declared.entry.BusEntry.{BusEntry}
use Rattle.memory_banks.specs.declared.port.Port.{Port}
use Rattle.memory_banks.specs.declared.banks.Banks.{Banks}
use Rattle.memory_banks.specs.Entries.{entries_of, and_entry, or_entry, replay, Adds, IsLegal}
use Rattle.memory_banks.specs.Rule.{Among, one_of, without}

-- the words that the banks were made of
abbrev pub opening_of : Banks → List ℕ
opening_of banks = banks.table.shared.key

pub record IsOf (banks : Banks) (p : Port) : Type 0 where
  pub table : p.seat.table_id ≡ banks.table.shared.table_id
  pub opening_is : p.seat.me.0.opening ≡ opening_of banks

abbrev pub number : Port → ℕ
number p = p.number

-- its number and those that it holds, as a set of bits
abbrev pub numbers : Port → ℕ
numbers p = p.numbers

-- the numbers in a set of bits, ascending
unfoldable pub in_order : ℕ → List ℕ
in_order set = filter (λ k. bit_at set k == 1) (range_with_len 0 16)

-- the numbers that it holds and can give to new ports, ascending
abbrev pub held : Port → List ℕ
held p = in_order (without p.numbers p.number)

-- the part of the history that it has seen
abbrev pub seen : Port → List BusEntry
seen p = p.seat.me.0.seen

-- its list: the entries of its number
abbrev pub list_of : Port → List BusEntry
list_of p = entries_of (number p) (seen p)

-- it is the first port, and every other was gathered into it, directly or through others
pub record HasAll (p : Port) : Type 0 where
  pub first : number p ≡ 0
  pub others : numbers p ≡ 65535

-- one step of a port
pub record Steps (banks : Banks) (p : Port) (e : BusEntry) (q : Port) : Type 0 where
  pub of : IsOf banks q
  pub number_is : number q ≡ number p
  pub numbers_are : numbers q ≡ numbers p
  pub adds : Adds (opening_of banks) (seen p) e (seen q)
  pub list : list_of q ≡ list_of p ++ e ∷ []

-- a part store: one step keeps some bits, and one sets others
pub record StepsTwice (banks : Banks) (p : Port) (word keep value : ℕ) (q : Port) : Type 0 where
  pub between : Port
  pub before_keep : ℕ
  pub before_set : ℕ
  pub keeps : Steps banks p (and_entry (number p) word keep before_keep) between
  pub sets : Steps banks between (or_entry (number between) word value before_set) q

-- q stands for these numbers too, with the lists that p has of them, and has seen all that p had seen
pub record KeptIn (set : ℕ) (p q : Port) : Type 0 where
  pub has : (k : ℕ) → Among set k → Among (numbers q) k
  pub begins : IsPrefix (seen p) (seen q)
  pub lists : (k : ℕ) → Among set k → entries_of k (seen q) ≡ entries_of k (seen p)

-- the numbers that a port holds, as a set of bits
abbrev pub held_set : Port → ℕ
held_set p = without p.numbers p.number

-- a set with these sets
abbrev pub union : ℕ → List ℕ → ℕ
union set sets = fold bit_or set sets

-- the port stands as before, and holds no numbers
pub record IsRenewed (banks : Banks) (p q : Port) : Type 0 where
  pub of : IsOf banks q
  pub number_is : number q ≡ number p
  pub alone : numbers q ≡ one_of (number q)
  pub holds_none : held q ≡ []
  pub list : list_of q ≡ list_of p

-- each port of a list
pub record AreRenewed (banks : Banks) (ps qs : List Port) : Type 0 where
  pub count : length qs ≡ length ps
  pub each : (k : ℕ) (d : Port) → k < length ps → IsRenewed banks (slice_index_or ps k d) (slice_index_or qs k d)

-- the port stands as before, but may have seen more
pub record StandsAs (banks : Banks) (p q : Port) : Type 0 where
  pub of : IsOf banks q
  pub number_is : number q ≡ number p
  pub numbers_are : numbers q ≡ numbers p
  pub list : list_of q ≡ list_of p

-- another port, which holds no numbers, and has seen as much as p
pub record IsNew (banks : Banks) (p q : Port) : Type 0 where
  pub of : IsOf banks q
  pub apart : number q ≢ number p
  pub alone : numbers q ≡ one_of (number q)
  pub holds_none : held q ≡ []
  pub seen_is : seen q ≡ seen p

-- nothing but numbers that were held went from the port
pub record IsSame (banks : Banks) (p q : Port) : Type 0 where
  pub of : IsOf banks q
  pub number_is : number q ≡ number p
  pub seen_is : seen q ≡ seen p

-- The history at its end is what a port with these numbers has seen and what stands behind that, none of it an entry of the
-- port's numbers. It is legal, each entry is of a port below 16, and it leaves these words
pub record EndsAs (opening : List ℕ) (numbers : ℕ) (seen : List BusEntry) (words : List ℕ) : Type 0 where
  pub behind : List BusEntry
  pub none_own : (k : ℕ) → Among numbers k → entries_of k behind ≡ []
  pub legal : IsLegal opening (seen ++ behind)
  pub ports : All (λ e. e.port < 16) (seen ++ behind)
  pub words_are : words ≡ replay opening (seen ++ behind)
