-- Which words repeat earlier ones, and which name buffers that no word gives.
use Rattle.std.specs.Prelude.{ℕ, suc, Bool, true, false, ◌||◌, not, nat_le, Option, Some, None, if◌then◌else◌, List, [], ◌∷◌}
use Rattle.std.specs.List.{list_any, count_by}
use Rattle.command_words.specs.declared.entries.ArgEntry.{ArgEntry}
use Rattle.command_words.specs.declared.entries.ArgEntry.TheVariants.{Named}
use Rattle.command_words.specs.declared.entries.SizeKey.{SizeKey}
use Rattle.command_words.specs.declared.entries.SizeKey.TheVariants.{Cores, Warps, Lanes, Sets, Ways, Banks, Turns}
use Rattle.command_words.specs.declared.entries.Entry.{Entry}
use Rattle.command_words.specs.declared.entries.Entry.TheVariants.{Buf, Do, Show, Size, Sched, Evict, Stats}
use Rattle.command_words.specs.Names.{is_same}

abbrev pub is_size : SizeKey → SizeKey → Bool
is_size Cores Cores = true
is_size Warps Warps = true
is_size Lanes Lanes = true
is_size Sets Sets = true
is_size Ways Ways = true
is_size Banks Banks = true
is_size Turns Turns = true
is_size one other = false

-- two words have one key
abbrev pub is_same_key : Entry → Entry → Bool
is_same_key (Buf b) (Buf c) = true
is_same_key (Do b) (Do c) = true
is_same_key (Show b) (Show c) = true
is_same_key (Size k digits) (Size l others) = is_size k l
is_same_key (Sched p) (Sched q) = true
is_same_key (Evict p) (Evict q) = true
is_same_key (Stats b) (Stats c) = true
is_same_key one other = false

-- two words give buffers of one name
abbrev pub is_same_buffer : Entry → Entry → Bool
is_same_buffer (Buf b) (Buf c) = is_same b.name c.name
is_same_buffer one other = false

-- how many words of its key there may be: 64 `buf`, `do` and `show`, and one word of each key of the machine
abbrev pub most_of : Entry → ℕ
most_of (Buf b) = 64
most_of (Do d) = 64
most_of (Show name) = 64
most_of word = 1

-- the word is one too many behind the words before it
abbrev pub is_repeated : List Entry → Entry → Bool
is_repeated before word = nat_le (most_of word) (count_by (is_same_key word) before) || list_any (is_same_buffer word) before

-- a word gives a buffer of this name
abbrev pub gives : List ℕ → Entry → Bool
gives name (Buf b) = is_same name b.name
gives name word = false

abbrev pub is_given : List Entry → List ℕ → Bool
is_given words name = list_any (gives name) words

abbrev pub is_arg_unknown : List Entry → ArgEntry → Bool
is_arg_unknown words (Named name) = not (is_given words name)
is_arg_unknown words arg = false

-- the word names a buffer that none of these gives
abbrev pub is_unknown : List Entry → Entry → Bool
is_unknown words (Do d) = list_any (is_arg_unknown words) d.args
is_unknown words (Show name) = not (is_given words name)
is_unknown words word = false

-- the place of the first such word, counted on from n
abbrev pub unknown_from : List Entry → ℕ → List Entry → Option ℕ
unknown_from words n [] = None
unknown_from words n (word ∷ rest) = if is_unknown words word then Some n else unknown_from words (suc n) rest
