-- Histories of shared words: what each entry does, and which histories are legal.
use Rattle.std.specs.Prelude.{◌≡◌, ℕ, ◌==◌, List, [], ◌∷◌, ◌++◌, filter, slice_index, slice_set, bit_and, bit_or}
use Rattle.memory_banks.specs.declared.entry.BusKind.{BusKind}
use Rattle.memory_banks.specs.declared.entry.BusKind.TheVariants.{Load, Store, FetchAnd, FetchOr}
use Rattle.memory_banks.specs.declared.entry.BusEntry.{BusEntry}

-- the entry of a port; a load has no operand, and a store no answer: there stands 0
abbrev pub load_entry : ℕ → ℕ → ℕ → BusEntry
load_entry port word answer = record { port = port; kind = Load; word = word; operand = 0; answer = answer }

abbrev pub store_entry : ℕ → ℕ → ℕ → BusEntry
store_entry port word value = record { port = port; kind = Store; word = word; operand = value; answer = 0 }

abbrev pub and_entry : ℕ → ℕ → ℕ → ℕ → BusEntry
and_entry port word keep answer = record { port = port; kind = FetchAnd; word = word; operand = keep; answer = answer }

abbrev pub or_entry : ℕ → ℕ → ℕ → ℕ → BusEntry
or_entry port word value answer = record { port = port; kind = FetchOr; word = word; operand = value; answer = answer }

-- what a word becomes
abbrev pub changed : BusKind → ℕ → ℕ → ℕ
changed Load before operand = before
changed Store before operand = operand
changed FetchAnd before operand = bit_and before operand
changed FetchOr before operand = bit_or before operand

-- the answer is the word's value before, and a store has none
abbrev pub answer_to : BusKind → ℕ → ℕ
answer_to Load before = before
answer_to Store before = 0
answer_to FetchAnd before = before
answer_to FetchOr before = before

-- the words after one entry, and after all entries of a history
abbrev pub after : List ℕ → BusEntry → List ℕ
after words e = slice_set words e.word (changed e.kind (slice_index words e.word) e.operand)

abbrev pub replay : List ℕ → List BusEntry → List ℕ
replay words [] = words
replay words (e ∷ es) = replay (after words e) es

-- the entry's answer is what these words give
abbrev pub IsAnswered : List ℕ → BusEntry → Type 0
IsAnswered words e = e.answer ≡ answer_to e.kind (slice_index words e.word)

-- each answer is the word's value just before its entry
abbrev pub IsLegal : List ℕ → List BusEntry → Type 0
IsLegal words [] = Unit {0}
IsLegal words (e ∷ es) = IsAnswered words e × IsLegal (after words e) es

-- the entries of one port, in order
abbrev pub entries_of : ℕ → List BusEntry → List BusEntry
entries_of port log = filter (λ e. e.port == port) log

-- The entry stands behind all that its port had seen, none of the port's own between, and is answered there.
-- The port has then seen all up to it
pub record Adds (opening : List ℕ) (seen : List BusEntry) (e : BusEntry) (now : List BusEntry) : Type 0 where
  pub between : List BusEntry
  pub all : now ≡ (seen ++ between) ++ e ∷ []
  pub none_own : entries_of e.port between ≡ []
  pub answered : IsAnswered (replay opening (seen ++ between)) e

-- the entries on one word, in order
abbrev pub entries_at : ℕ → List BusEntry → List BusEntry
entries_at word log = filter (λ e. e.word == word) log
