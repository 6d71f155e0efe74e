use Rattle.std.specs.Prelude.{◌≡◌, ◌≢◌, ℕ, ◌<◌, ◌≤◌, ◌*◌, Option, Some, None, List, [], ◌∷◌, ◌++◌, length, map, All, EachIndex, slice_get, slice_index_or, codes}
use Rattle.std.specs.List.{filter_map, join_with_byte}
use Rattle.std.specs.Fmt.{decimal}
use Rattle.vx_words.specs.Names.{IsName}
use Rattle.vx_words.specs.declared.run_words.BufFrom.{BufFrom}
use Rattle.vx_words.specs.declared.run_words.BufFrom.TheVariants.{File, Zero}
use Rattle.vx_words.specs.declared.run_words.BufWord.{BufWord}
use Rattle.vx_words.specs.declared.run_words.RunWords.{RunWords}

-- A word of `run` behind the file: a buffer, a launch of an entry over some work-items with the names of its arguments,
-- or the name of a buffer to print.
pub data Further : Type 0 where
  Buffer : BufWord → Further
  Launch : List ℕ → ℕ → List (List ℕ) → Further
  Show : List ℕ → Further

-- in:PATH or zero:COUNT
abbrev pub origin_text : BufFrom → List ℕ
origin_text (File path) = codes "in:" ++ path
origin_text (Zero count) = codes "zero:" ++ decimal count

-- the arguments of a launch behind a slash, with commas between them, or nothing where there is none
abbrev pub arguments_text : List (List ℕ) → List ℕ
arguments_text [] = []
arguments_text (name ∷ names) = codes "/" ++ join_with_byte 44 (name ∷ names)

-- a word as it is written
abbrev pub word_text : Further → List ℕ
word_text (Buffer b) = codes "buf=" ++ b.name ++ codes ":int:" ++ origin_text b.from
word_text (Launch entry items names) = codes "do=" ++ entry ++ codes "/" ++ decimal items ++ codes "/" ++ decimal items ++ arguments_text names
word_text (Show name) = codes "show=" ++ name

abbrev pub buffer_of : Further → Option BufWord
buffer_of (Buffer b) = Some b
buffer_of (Launch entry items names) = None
buffer_of (Show name) = None

-- a launch, without what it is written with
pub record LaunchWord : Type 0 where
  pub entry : List ℕ
  pub items : ℕ
  pub names : List (List ℕ)

abbrev pub launch_of_word : Further → Option LaunchWord
launch_of_word (Buffer b) = None
launch_of_word (Launch entry items names) = Some (record { entry = entry; items = items; names = names })
launch_of_word (Show name) = None

abbrev pub show_of : Further → Option (List ℕ)
show_of (Buffer b) = None
show_of (Launch entry items names) = None
show_of (Show name) = Some name

-- a path is not empty, and a count is at most 4,194,304
abbrev pub IsOrigin : BufFrom → Type 0
IsOrigin (File path) = path ≢ []
IsOrigin (Zero count) = count ≤ 4194304

-- each number is that of the buffer with this name
abbrev pub AreNumbersOf : List BufWord → List ℕ → List (List ℕ) → Type 0
AreNumbersOf buffers [] [] = Unit {0}
AreNumbersOf buffers (n ∷ ns) (name ∷ names) = (n < length buffers) × (slice_get (map (λ b. b.name) buffers) n ≡ Some name) × AreNumbersOf buffers ns names
AreNumbersOf buffers [] (name ∷ names) = ⊥
AreNumbersOf buffers (n ∷ ns) [] = ⊥

-- no two buffers have one name
abbrev pub AreDistinct : List (List ℕ) → Type 0
AreDistinct names = (i j : ℕ) (name : List ℕ) → slice_get names i ≡ Some name → slice_get names j ≡ Some name → i ≡ j

-- The words are those of `run` in its first form: the file, and then in any order at most 16 buffers with names of their
-- own, one launch of 1 to 32 work-items whose arguments name buffers, and at most 16 buffers to print.
pub record IsRun (words : List (List ℕ)) (c : RunWords) : Type 0 where
  pub further : List Further
  pub spelled : words ≡ codes "run" ∷ c.file ∷ map word_text further
  pub buffers : filter_map buffer_of further ≡ c.buffers
  pub names : List (List ℕ)
  pub launch : filter_map launch_of_word further ≡ record { entry = c.entry; items = c.items; names = names } ∷ []
  pub arguments : AreNumbersOf c.buffers c.arguments names
  pub shows : AreNumbersOf c.buffers c.shows (filter_map show_of further)
  pub few_buffers : length c.buffers ≤ 16
  pub few_shows : length c.shows ≤ 16
  pub items_some : 1 ≤ c.items
  pub items_few : c.items ≤ 32
  pub entry_name : IsName c.entry
  pub buffer_names : All (λ b. IsName b.name × IsOrigin b.from) c.buffers
  pub distinct : AreDistinct (map (λ b. b.name) c.buffers)
