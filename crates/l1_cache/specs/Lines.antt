-- A cache: its lines, the changes that wait to be carried out, and how they are changed. `Accesses.antt` says what reads and
-- writes make of it.
use Rattle.std.specs.Prelude.{ℕ, ◌+◌, ◌-◌, ◌*◌, ◌/◌, ◌%◌, ◌^◌, nat_eq, not, min, if◌then◌else◌, List, [], ◌∷◌, filter, find, length, map, replicate, slice_index, slice_index_or, slice_set, take, drop, bit_and, bit_or, Option}
use Rattle.std.specs.List.{list_any, range_with_len}
use Rattle.vx_base.specs.declared.types.Size.{Size}
use Rattle.vx_base.specs.declared.types.Size.TheVariants.{One, Two, Four}

-- ---- what a cache is

-- a line: the way in which it lies, its number, which is the address of its first byte over 64, and its sixteen words
pub record Line : Type 0 where
  pub way : ℕ
  pub number : ℕ
  pub words : List ℕ

-- a change of a word: the bits of `keep` stay as they are, and those of `value` are set
pub record Change : Type 0 where
  pub word : ℕ
  pub keep : ℕ
  pub value : ℕ

-- A cache: how many sets it has, how many ways a set has, and how many changes may wait; for each set the lines that it keeps, in
-- the order of their last read or fill, the last one first; the changes that wait, the oldest first; and how many reads found
-- their line and how many did not. A cache without ways keeps no line, and one without room lets no change wait.
pub record Lines : Type 0 where
  pub set_count : ℕ
  pub way_count : ℕ
  pub room : ℕ
  pub sets : List (List Line)
  pub waiting : List Change
  pub hits : ℕ
  pub misses : ℕ

-- a cache that keeps no line, in which no change waits, and that has counted nothing
abbrev pub no_lines : ℕ → ℕ → ℕ → Lines
no_lines sets ways room = record { set_count = sets; way_count = ways; room = room; sets = replicate sets []; waiting = []; hits = 0; misses = 0 }

-- such a cache of the same size
abbrev pub emptied : Lines → Lines
emptied lines = no_lines lines.set_count lines.way_count lines.room

-- a cache without ways and without room
abbrev pub bare_lines : ℕ → ℕ → ℕ → Lines
bare_lines sets hits misses = record { set_count = sets; way_count = 0; room = 0; sets = replicate sets []; waiting = []; hits = hits; misses = misses }

-- ---- words and fields

-- the number in the field of a size from a byte of a word on, the least significant byte first
abbrev pub part_of : ℕ → ℕ → Size → ℕ
part_of word at One = word / 2 ^ (8 * at) % 2 ^ 8
part_of word at Two = word / 2 ^ (8 * at) % 2 ^ 16
part_of word at Four = word

-- the bits of a word that the field takes up
abbrev pub field_bits : ℕ → Size → ℕ
field_bits at One = 0xff * 2 ^ (8 * at) % 2 ^ 32
field_bits at Two = 0xffff * 2 ^ (8 * at) % 2 ^ 32
field_bits at Four = 2 ^ 32 - 1

-- the other bits
abbrev pub kept_bits : ℕ → Size → ℕ
kept_bits at size = 2 ^ 32 - 1 - field_bits at size

-- the low bytes of a value, moved to the field
abbrev pub written_bits : ℕ → ℕ → Size → ℕ
written_bits value at size = bit_and (value * 2 ^ (8 * at) % 2 ^ 32) (field_bits at size)

-- ---- changes

-- what a word becomes
abbrev pub changed_word : Change → ℕ → ℕ
changed_word c word = bit_or (bit_and word c.keep) c.value

-- the change that writes a value to the field of a size at an address; one of a whole word keeps nothing
abbrev pub change_of : ℕ → Size → ℕ → Change
change_of address One value = record { word = address / 4; keep = kept_bits (address % 4) One; value = written_bits value (address % 4) One }
change_of address Two value = record { word = address / 4; keep = kept_bits (address % 4) Two; value = written_bits value (address % 4) Two }
change_of address Four value = record { word = address / 4; keep = 0; value = value }

-- a word with those of some changes that are its own, in their order
abbrev pub with_changes : List Change → ℕ → ℕ → ℕ
with_changes [] place word = word
with_changes (c ∷ changes) place word = with_changes changes place (if nat_eq c.word place then changed_word c word else word)

-- words from a place on, each with its changes
abbrev pub all_changed : List Change → ℕ → List ℕ → List ℕ
all_changed changes place [] = []
all_changed changes place (word ∷ words) = with_changes changes place word ∷ all_changed changes (place + 1) words

-- of the changes that wait, those that are over the room, the oldest, and those that stay
abbrev pub leaving : ℕ → List Change → List Change
leaving room queue = take (length queue - room) queue

abbrev pub staying : ℕ → List Change → List Change
staying room queue = drop (length queue - room) queue

-- ---- lines

-- the set of a line, and the line where it is kept there
abbrev pub set_of : Lines → ℕ → List Line
set_of lines number = slice_index_or lines.sets (number % lines.set_count) []

abbrev pub line_in : Lines → ℕ → Option Line
line_in lines number = find (λ line. nat_eq line.number number) (set_of lines number)

-- the set of a line is another
abbrev pub with_set : ℕ → List Line → Lines → Lines
with_set number set lines = record lines { sets = slice_set lines.sets (number % lines.set_count) set }

-- a count that has reached the last value of its type stays there
abbrev pub one_more : ℕ → ℕ
one_more count = min (count + 1) (2 ^ 64 - 1)

-- a line in front of the others of its set
abbrev pub in_front : Line → List Line → List Line
in_front line set = line ∷ filter (λ other. not (nat_eq other.number line.number)) set

-- a new line in front of the others of its set, of which none lies in its way
abbrev pub put_in : Line → List Line → List Line
put_in line set = line ∷ filter (λ other. not (nat_eq other.way line.way)) set

-- the least way in which no line of a set lies
abbrev pub free_way : ℕ → List Line → Option ℕ
free_way ways set = find (λ way. not (list_any (λ line. nat_eq line.way way) set)) (range_with_len 0 ways)

-- the way of the line that was read or filled longest ago
abbrev pub oldest_way : List Line → ℕ
oldest_way [] = 0
oldest_way (line ∷ []) = line.way
oldest_way (line ∷ next ∷ set) = oldest_way (next ∷ set)

-- a line with a change, where it has the word
abbrev pub changed_line : Change → Line → Line
changed_line c line =
    if nat_eq line.number (c.word / 16)
    then record line { words = slice_set line.words (c.word % 16) (changed_word c (slice_index line.words (c.word % 16))) }
    else line

-- the lines with a change; their order stays
abbrev pub with_change : Change → Lines → Lines
with_change c lines = with_set (c.word / 16) (map (changed_line c) (set_of lines (c.word / 16))) lines
