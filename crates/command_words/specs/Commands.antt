-- The answer to all words, its faults in their order.
use Rattle.std.specs.Prelude.{◌≡◌, ℕ, ◌+◌, not, Option, Some, None, Result, Ok, Err, if◌then◌else◌, List, [], ◌∷◌, ◌++◌, length}
use Rattle.std.specs.List.{list_any}
use Rattle.command_words.specs.declared.commands.Command.{Command}
use Rattle.command_words.specs.declared.commands.Command.TheVariants as ask
use Rattle.command_words.specs.declared.entries.Entry.{Entry}
use Rattle.command_words.specs.declared.entries.Entry.TheVariants.{File, Kernel, Seed, Count}
use Rattle.command_words.specs.declared.places.CommandName.{CommandName}
use Rattle.command_words.specs.declared.places.CommandName.TheVariants.{Run, Build, Asm, Dis, Gen}
use Rattle.command_words.specs.declared.usage.UsageKind.{UsageKind}
use Rattle.command_words.specs.declared.usage.UsageKind.TheVariants as usage
use Rattle.command_words.specs.declared.usage.UsageFault.{UsageFault}
use Rattle.command_words.specs.declared.usage.UsageFault.TheVariants as fault
use Rattle.command_words.specs.Places.{command_named, place_at}
use Rattle.command_words.specs.Readers.{entry_at}
use Rattle.command_words.specs.Limits.{is_within}
use Rattle.command_words.specs.Repeats.{is_repeated, unknown_from}
use Rattle.command_words.specs.Meaning.{kept, word_of, seed_of, buffers_of, launches_of, shows_of, shaped, usual, stats_of, is_launch}

-- what is wrong with words, and the number of the word
pub record Wrong : Type 0 where
  pub word : ℕ
  pub kind : UsageKind

abbrev pub wrong : ℕ → UsageKind → Wrong
wrong n k = record { word = kept n; kind = k }

-- what follows where nothing is wrong
infixl 10 ◌>>=◌
abbrev pub ◌>>=◌ : {A B : Type 0} → Result A Wrong → (A → Result B Wrong) → Result B Wrong
(Ok x) >>= f = f x
(Err e) >>= f = Err e

-- a word behind those before it: it is of no form that may stand there, or a number is outside its limits, or it repeats
abbrev pub checked : List Entry → Option Entry → Result Entry Wrong
checked before None = Err (wrong (length before + 1) usage.Form)
checked before (Some word) = if not (is_within word) then Err (wrong (length before + 1) usage.Number) else (if is_repeated before word then Err (wrong (length before + 1) usage.Repeated) else Ok word)

abbrev pub next_word : CommandName → List Entry → List ℕ → Result Entry Wrong
next_word command before text = checked before (entry_at (place_at command (length before)) text)

-- all words behind the command, one after another, behind those before them
abbrev pub words_from : CommandName → List Entry → List (List ℕ) → Result (List Entry) Wrong
words_from command before [] = Ok before
words_from command before (text ∷ texts) = next_word command before text >>= λ word. words_from command (before ++ word ∷ []) texts

-- no word names a buffer that none gives
abbrev pub all_given : List Entry → Option ℕ → Result (List Entry) Wrong
all_given words (Some n) = Err (wrong (n + 1) usage.Unknown)
all_given words None = Ok words

abbrev pub known : List Entry → Result (List Entry) Wrong
known words = all_given words (unknown_from words 0 words)

abbrev pub known_words : CommandName → List (List ℕ) → Result (List Entry) Wrong
known_words command texts = words_from command [] texts >>= known

-- what the words behind `run FILE` ask for, if there is a launch
abbrev pub run_of : List ℕ → List Entry → Option Command
run_of file words = if list_any is_launch words
    then Some (ask.Run file (buffers_of words) (launches_of (buffers_of words) words) (shows_of (buffers_of words) words) (shaped usual words) (stats_of words))
    else None

-- what the words behind a command ask for, and None where a word is missing
abbrev pub meaning_of : CommandName → List Entry → Option Command
meaning_of Run (File file ∷ words) = run_of file words
meaning_of Build (File file ∷ Kernel name ∷ words) = Some (ask.Build file name)
meaning_of Asm (File file ∷ words) = Some (ask.Asm file)
meaning_of Dis (File file ∷ words) = Some (ask.Dis file)
meaning_of Gen (Seed seed ∷ Count count ∷ words) = Some (ask.Gen (seed_of seed) (word_of count) (shaped usual words) (stats_of words))
meaning_of command words = None

abbrev pub asked_by : ℕ → Option Command → Result Command Wrong
asked_by n (Some c) = Ok c
asked_by n None = Err (wrong n usage.Missing)

-- the answer to the words behind a command: faults of single words, then of names, then of missing words
abbrev pub answer_to : CommandName → List (List ℕ) → Result Command Wrong
answer_to command texts = known_words command texts >>= λ words. asked_by (length texts + 1) (meaning_of command words)

abbrev pub answer_behind : Option CommandName → List (List ℕ) → Result Command Wrong
answer_behind (Some command) texts = answer_to command texts
answer_behind None texts = Err (wrong 0 usage.Command)

-- the answer to all words
abbrev pub answer : List (List ℕ) → Result Command Wrong
answer [] = Err (wrong 0 usage.Command)
answer (text ∷ texts) = answer_behind (command_named text) texts

-- this was answered, unless memory ran out
abbrev pub Faults : {X : Type 0} → UsageFault → Result X Wrong → Type 0
Faults (fault.Usage n k) read = read ≡ Err (record { word = n; kind = k })
Faults fault.Memory read = Unit {0}

abbrev pub Answers : {X : Type 0} → Result X UsageFault → Result X Wrong → Type 0
Answers (Ok x) read = read ≡ Ok x
Answers (Err e) read = Faults e read
