-- What a read, a write and a drain make of a cache, and the entries that they make on the bus behind it. Read `ReadsField`,
-- `WritesField` and `DrainsAll` at the end first.
use Rattle.std.specs.Prelude.{◌≡◌, ℕ, zero, suc, ◌+◌, ◌*◌, ◌/◌, ◌%◌, nat_eq, if◌then◌else◌, List, [], ◌∷◌, ◌++◌, length, slice_index, Option, Some, None}
use Rattle.vx_base.specs.declared.types.Size.{Size}
use Rattle.memory_banks.specs.declared.entry.BusEntry.{BusEntry}
use Rattle.memory_banks.specs.Buses.{MakesAll}
use Rattle.memory_banks.specs.Entries.{load_entry, store_entry, and_entry, or_entry}
use Rattle.l1_cache.specs.Lines.{Change, Line, Lines, all_changed, change_of, free_way, in_front, leaving, line_in, oldest_way, one_more, part_of, put_in, set_of, staying, with_change, with_changes, with_set}

-- ---- entries

-- loads of words from a place on, in order
abbrev pub loads_from : ℕ → ℕ → List ℕ → List BusEntry
loads_from port place [] = []
loads_from port place (word ∷ words) = load_entry port place word ∷ loads_from port (place + 1) words

-- a change carried out: a store where it keeps nothing, and else an entry that keeps bits and one that sets others, each with
-- what was there before
abbrev pub carried : ℕ → Change → ℕ → ℕ → List BusEntry
carried port c before_keep before_set =
    if nat_eq c.keep 0 then store_entry port c.word c.value ∷ []
    else and_entry port c.word c.keep before_keep ∷ or_entry port c.word c.value before_set ∷ []

-- the entries begin with a change carried out, and then come others
pub record CarriesFirst (port : ℕ) (c : Change) (entries rest : List BusEntry) : Type 0 where
  pub before_keep : ℕ
  pub before_set : ℕ
  pub entries_are : entries ≡ carried port c before_keep before_set ++ rest

-- the entries are changes carried out, in order
abbrev pub CarriesOut : ℕ → List Change → List BusEntry → Type 0
CarriesOut port [] entries = entries ≡ []
CarriesOut port (c ∷ changes) entries = (rest : List BusEntry) × CarriesFirst port c entries rest × CarriesOut port changes rest

-- ---- reads

-- A cache without ways passes a read on: it makes one load, and the answer is the field of the word with the changes of it
-- that wait.
pub record Passes {E : Type 0} (port address : ℕ) (size : Size) (lines : Lines) (policy : E) (entries : List BusEntry) (answer : ℕ) (lines' : Lines) (policy' : E) : Type 0 where
  pub word : ℕ
  pub entries_are : entries ≡ load_entry port (address / 4) word ∷ []
  pub answer_is : answer ≡ part_of (with_changes lines.waiting (address / 4) word) (address % 4) size
  pub same_lines : lines' ≡ lines
  pub same_policy : policy' ≡ policy

-- A read finds its line: it makes no entry, and the line goes to the front of its set.
pub record Finds {E : Type 0} (line : Line) (address : ℕ) (size : Size) (lines : Lines) (policy : E) (entries : List BusEntry) (answer : ℕ) (lines' : Lines) (policy' : E) : Type 0 where
  pub no_entry : entries ≡ []
  pub answer_is : answer ≡ part_of (slice_index line.words (address / 4 % 16)) (address % 4) size
  pub lines_are : lines' ≡ record (with_set (address / 64) (in_front line (set_of lines (address / 64))) lines) { hits = one_more lines.hits }
  pub same_policy : policy' ≡ policy

-- the way for a new line of a set: the least free one, or where none is free the one that the policy gives up
abbrev pub ChoosesFrom : {E : Type 0} → (E → ℕ → ℕ → ℕ → ℕ → E → Type 0) → Option ℕ → Lines → ℕ → E → ℕ → E → Type 0
ChoosesFrom evicts (Some free) lines number policy way policy' = (way ≡ free) × (policy' ≡ policy)
ChoosesFrom evicts None lines number policy way policy' = evicts policy (number % lines.set_count) (oldest_way (set_of lines number)) lines.way_count way policy'

abbrev pub Chooses : {E : Type 0} → (E → ℕ → ℕ → ℕ → ℕ → E → Type 0) → Lines → ℕ → E → ℕ → E → Type 0
Chooses evicts lines number policy way policy' = ChoosesFrom evicts (free_way lines.way_count (set_of lines number)) lines number policy way policy'

-- A read fills its line: sixteen loads in ascending order, and then the changes of the line that wait. The line answers.
pub record Fills {E : Type 0} (evicts : E → ℕ → ℕ → ℕ → ℕ → E → Type 0) (port address : ℕ) (size : Size) (lines : Lines) (policy : E) (entries : List BusEntry) (answer : ℕ) (lines' : Lines) (policy' : E) : Type 0 where
  pub line : Line
  pub words : List ℕ
  pub sixteen : length words ≡ 16
  pub entries_are : entries ≡ loads_from port (address / 64 * 16) words
  pub chosen : Chooses evicts lines (address / 64) policy line.way policy'
  pub number_is : line.number ≡ address / 64
  pub words_are : line.words ≡ all_changed lines.waiting (address / 64 * 16) words
  pub answer_is : answer ≡ part_of (slice_index line.words (address / 4 % 16)) (address % 4) size
  pub lines_are : lines' ≡ record (with_set (address / 64) (put_in line (set_of lines (address / 64))) lines) { misses = one_more lines.misses }

-- a read, by the ways of the cache and by its line
abbrev pub ReadsBy : {E : Type 0} → (E → ℕ → ℕ → ℕ → ℕ → E → Type 0) → ℕ → Option Line → ℕ → ℕ → Size → Lines → E → List BusEntry → ℕ → Lines → E → Type 0
ReadsBy evicts zero found port address size lines policy entries answer lines' policy' = Passes port address size lines policy entries answer lines' policy'
ReadsBy evicts (suc ways) (Some line) port address size lines policy entries answer lines' policy' = Finds line address size lines policy entries answer lines' policy'
ReadsBy evicts (suc ways) None port address size lines policy entries answer lines' policy' = Fills evicts port address size lines policy entries answer lines' policy'

abbrev pub Reads : {E : Type 0} → (E → ℕ → ℕ → ℕ → ℕ → E → Type 0) → ℕ → ℕ → Size → Lines → E → List BusEntry → ℕ → Lines → E → Type 0
Reads evicts port address size lines policy entries answer lines' policy' =
    ReadsBy evicts lines.way_count (line_in lines (address / 64)) port address size lines policy entries answer lines' policy'

-- ---- writes

-- A write changes its line where it is kept, and joins the changes that wait. Those that are over the room are carried out,
-- the oldest first.
pub record Writes (port address : ℕ) (size : Size) (value : ℕ) (lines : Lines) (entries : List BusEntry) (lines' : Lines) : Type 0 where
  pub carries : CarriesOut port (leaving lines.room (lines.waiting ++ change_of address size value ∷ [])) entries
  pub lines_are : lines' ≡ record (with_change (change_of address size value) lines) { waiting = staying lines.room (lines.waiting ++ change_of address size value ∷ []) }

-- All changes that wait are carried out.
pub record Drains (port : ℕ) (lines : Lines) (entries : List BusEntry) (lines' : Lines) : Type 0 where
  pub carries : CarriesOut port lines.waiting entries
  pub lines_are : lines' ≡ record lines { waiting = [] }

-- ---- on a bus

-- A read of the field of a size at an address, with the entries that it makes. `evicts` is the rule of the policy by which the
-- cache gives up lines.
pub record ReadsField {B E : Type 0} (acts : B → BusEntry → B → Type 0) (evicts : E → ℕ → ℕ → ℕ → ℕ → E → Type 0) (port address : ℕ) (size : Size) (lines : Lines) (bus : B) (policy : E) (answer : ℕ) (lines' : Lines) (bus' : B) (policy' : E) : Type 0 where
  pub entries : List BusEntry
  pub made : MakesAll acts bus entries bus'
  pub read : Reads evicts port address size lines policy entries answer lines' policy'

-- a write of the low bytes of a value to such a field
pub record WritesField {B : Type 0} (acts : B → BusEntry → B → Type 0) (port address : ℕ) (size : Size) (value : ℕ) (lines : Lines) (bus : B) (lines' : Lines) (bus' : B) : Type 0 where
  pub entries : List BusEntry
  pub made : MakesAll acts bus entries bus'
  pub written : Writes port address size value lines entries lines'

-- what waits is carried out
pub record DrainsAll {B : Type 0} (acts : B → BusEntry → B → Type 0) (port : ℕ) (lines : Lines) (bus : B) (lines' : Lines) (bus' : B) : Type 0 where
  pub entries : List BusEntry
  pub made : MakesAll acts bus entries bus'
  pub drained : Drains port lines entries lines'

-- one change is carried out
pub record CarriesChange {B : Type 0} (acts : B → BusEntry → B → Type 0) (port : ℕ) (c : Change) (bus bus' : B) : Type 0 where
  pub entries : List BusEntry
  pub made : MakesAll acts bus entries bus'
  pub carries : CarriesOut port (c ∷ []) entries
