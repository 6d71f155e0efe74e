-- What words ask for, word by word.
use Rattle.std.specs.Prelude.{ℕ, suc, ◌-◌, ◌%◌, Bool, true, false, min, Option, Some, None, if◌then◌else◌, List, [], ◌∷◌, map}
use Rattle.std.specs.List.{filter_map, list_any}
use Rattle.item_acts.specs.declared.acts.Range.{Range}
use Rattle.launch_plans.specs.declared.plans.Arg.{Arg}
use Rattle.launch_plans.specs.declared.plans.Arg.TheVariants.{Buffer, Int, Local}
use Rattle.launch_plans.specs.declared.shapes.Shape.{Shape}
use Rattle.launch_plans.specs.declared.shapes.Sched.{Sched}
use Rattle.launch_plans.specs.declared.shapes.Sched.TheVariants as sched
use Rattle.launch_plans.specs.declared.shapes.Evict.{Evict}
use Rattle.launch_plans.specs.declared.shapes.Evict.TheVariants as evict
use Rattle.command_words.specs.declared.commands.BufFrom.{BufFrom}
use Rattle.command_words.specs.declared.commands.BufFrom.TheVariants as from
use Rattle.command_words.specs.declared.commands.BufWord.{BufWord}
use Rattle.command_words.specs.declared.commands.DoWord.{DoWord}
use Rattle.command_words.specs.declared.entries.ArgEntry.{ArgEntry}
use Rattle.command_words.specs.declared.entries.ArgEntry.TheVariants as arg
use Rattle.command_words.specs.declared.entries.Origin.{Origin}
use Rattle.command_words.specs.declared.entries.Origin.TheVariants as origin
use Rattle.command_words.specs.declared.entries.Pick.{Pick}
use Rattle.command_words.specs.declared.entries.Pick.TheVariants as pick
use Rattle.command_words.specs.declared.entries.SizeKey.{SizeKey}
use Rattle.command_words.specs.declared.entries.SizeKey.TheVariants.{Cores, Warps, Lanes, Sets, Ways, Banks, Turns}
use Rattle.command_words.specs.declared.entries.BufEntry.{BufEntry}
use Rattle.command_words.specs.declared.entries.DoEntry.{DoEntry}
use Rattle.command_words.specs.declared.entries.Entry.{Entry}
use Rattle.command_words.specs.declared.entries.Entry.TheVariants as entry
use Rattle.command_words.specs.Names.{is_same}
use Rattle.command_words.specs.Limits.{number_upto}

-- a number past 32 bits is kept as 2^32 - 1
abbrev pub kept : ℕ → ℕ
kept n = min n 4294967295

abbrev pub word_of : List ℕ → ℕ
word_of digits = number_upto 4294967295 digits

abbrev pub seed_of : List ℕ → ℕ
seed_of digits = number_upto 18446744073709551615 digits

abbrev pub from_of : Origin → BufFrom
from_of (origin.In path) = from.File path
from_of (origin.Zero digits) = from.Zero (word_of digits)

abbrev pub buf_word_of : BufEntry → BufWord
buf_word_of b = record { name = b.name; elem = b.elem; from = from_of b.origin }

abbrev pub buffer_in : Entry → Option BufWord
buffer_in (entry.Buf b) = Some (buf_word_of b)
buffer_in word = None

-- the buffers, in the order of their words
abbrev pub buffers_of : List Entry → List BufWord
buffers_of words = filter_map buffer_in words

-- the number of the first buffer of a name, counted on from n
abbrev pub number_from : List ℕ → ℕ → List BufWord → ℕ
number_from name n [] = n
number_from name n (b ∷ bs) = if is_same name b.name then n else number_from name (suc n) bs

abbrev pub number_of : List BufWord → List ℕ → ℕ
number_of buffers name = kept (number_from name 0 buffers)

-- a number with a `-` is kept modulo 2^32
abbrev pub arg_of : List BufWord → ArgEntry → Arg
arg_of buffers (arg.Named name) = Buffer (number_of buffers name)
arg_of buffers (arg.Number digits) = Int (word_of digits)
arg_of buffers (arg.Negative digits) = Int ((4294967296 - word_of digits) % 4294967296)
arg_of buffers (arg.Local digits) = Local (word_of digits)

-- a launch has one dimension
abbrev pub range_of : DoEntry → Range
range_of d = record { dims = 1; global = word_of d.global ∷ 1 ∷ 1 ∷ []; local = word_of d.local ∷ 1 ∷ 1 ∷ [] }

abbrev pub do_word_of : List BufWord → DoEntry → DoWord
do_word_of buffers d = record { entry = d.entry; plan = record { range = range_of d; args = map (arg_of buffers) d.args } }

abbrev pub launch_in : List BufWord → Entry → Option DoWord
launch_in buffers (entry.Do d) = Some (do_word_of buffers d)
launch_in buffers word = None

-- the launches, and the buffers to print, in the order of their words
abbrev pub launches_of : List BufWord → List Entry → List DoWord
launches_of buffers words = filter_map (launch_in buffers) words

abbrev pub show_in : List BufWord → Entry → Option ℕ
show_in buffers (entry.Show name) = Some (number_of buffers name)
show_in buffers word = None

abbrev pub shows_of : List BufWord → List Entry → List ℕ
shows_of buffers words = filter_map (show_in buffers) words

abbrev pub sched_of : Pick → Sched
sched_of pick.Round = sched.Round
sched_of pick.Oldest = sched.Oldest
sched_of (pick.Seed digits) = sched.Seeded (seed_of digits)

abbrev pub evict_of : Pick → Evict
evict_of pick.Round = evict.Oldest
evict_of pick.Oldest = evict.Oldest
evict_of (pick.Seed digits) = evict.Seeded (seed_of digits)

-- the machine with one size changed
abbrev pub sized : Shape → SizeKey → List ℕ → Shape
sized s Cores digits = record { cores = word_of digits; warps = s.warps; lanes = s.lanes; sets = s.sets; ways = s.ways; banks = s.banks; sched = s.sched; evict = s.evict; turns = s.turns }
sized s Warps digits = record { cores = s.cores; warps = word_of digits; lanes = s.lanes; sets = s.sets; ways = s.ways; banks = s.banks; sched = s.sched; evict = s.evict; turns = s.turns }
sized s Lanes digits = record { cores = s.cores; warps = s.warps; lanes = word_of digits; sets = s.sets; ways = s.ways; banks = s.banks; sched = s.sched; evict = s.evict; turns = s.turns }
sized s Sets digits = record { cores = s.cores; warps = s.warps; lanes = s.lanes; sets = word_of digits; ways = s.ways; banks = s.banks; sched = s.sched; evict = s.evict; turns = s.turns }
sized s Ways digits = record { cores = s.cores; warps = s.warps; lanes = s.lanes; sets = s.sets; ways = word_of digits; banks = s.banks; sched = s.sched; evict = s.evict; turns = s.turns }
sized s Banks digits = record { cores = s.cores; warps = s.warps; lanes = s.lanes; sets = s.sets; ways = s.ways; banks = word_of digits; sched = s.sched; evict = s.evict; turns = s.turns }
sized s Turns digits = record { cores = s.cores; warps = s.warps; lanes = s.lanes; sets = s.sets; ways = s.ways; banks = s.banks; sched = s.sched; evict = s.evict; turns = seed_of digits }

abbrev pub shaped_by : Shape → Entry → Shape
shaped_by s (entry.Size key digits) = sized s key digits
shaped_by s (entry.Sched p) = record { cores = s.cores; warps = s.warps; lanes = s.lanes; sets = s.sets; ways = s.ways; banks = s.banks; sched = sched_of p; evict = s.evict; turns = s.turns }
shaped_by s (entry.Evict p) = record { cores = s.cores; warps = s.warps; lanes = s.lanes; sets = s.sets; ways = s.ways; banks = s.banks; sched = s.sched; evict = evict_of p; turns = s.turns }
shaped_by s word = s

-- the machine that the words make of one
abbrev pub shaped : Shape → List Entry → Shape
shaped s [] = s
shaped s (word ∷ words) = shaped (shaped_by s word) words

abbrev pub usual : Shape
usual = record { cores = 4; warps = 16; lanes = 32; sets = 16; ways = 4; banks = 4; sched = sched.Round; evict = evict.Oldest; turns = 16777216 }

-- records are printed where a word asks for them
abbrev pub wants_stats : Entry → Bool
wants_stats (entry.Stats wanted) = wanted
wants_stats word = false

abbrev pub stats_of : List Entry → Bool
stats_of words = list_any wants_stats words

abbrev pub is_launch : Entry → Bool
is_launch (entry.Do d) = true
is_launch word = false
