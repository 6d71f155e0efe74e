use Rattle.std.specs.Prelude.{◌≡◌, ◌≢◌, ℕ, ◌<◌, ◌≤◌, List, [], ◌∷◌, ◌++◌, length, map, slice_get, Some, Result, MatchResult, codes}
use Rattle.std.specs.List.{AllByRecursion, filter_map}
use Rattle.vx_words.specs.Names.{IsName}
use Rattle.vx_words.specs.Words.{Further, Buffer, Launch, Show, LaunchWord, word_text, buffer_of, launch_of_word, show_of, IsOrigin, AreNumbersOf, AreDistinct}
use Rattle.vx_words.specs.declared.usage.UsageKind.TheVariants.{Form}
use Rattle.vx_words.specs.declared.usage.UsageFault.{UsageFault}
use Rattle.vx_words.specs.declared.usage.UsageFault.TheVariants.{Usage, Memory}
use Rattle.vx_words.specs.declared.run_words.RunWords.{RunWords}
use Rattle.vx_words.specs.declared.form.Parts.{Parts}
use Rattle.vx_words.specs.declared.further.DoWord.{DoWord}
use Rattle.vx_words.specs.declared.further.FurtherWord.{FurtherWord}
use Rattle.vx_words.specs.declared.further.FurtherWord.TheVariants.{Buf, Do, Print}

-- the first word is `run`
abbrev pub BeginsRun : List (List ℕ) → Type 0
BeginsRun [] = ⊥
BeginsRun (word ∷ more) = word ≡ codes "run"

-- the fault is the want of memory, or a bad form where this holds
abbrev pub IsBadForm : UsageFault → Type 0 → Type 0
IsBadForm (Usage word kind) P = (word ≡ 0) × (kind ≡ Form) × P
IsBadForm Memory P = Unit {0}

-- The value is such, and the form is called bad only where no value is such.
abbrev pub Finds : {X : Type 0} → Result X UsageFault → (X → Type 0) → Type 0
Finds {X} result P = MatchResult result P (λ fault. IsBadForm fault ((x : X) → P x → ⊥))

-- the byte does not stand in the text
abbrev pub Lacks : ℕ → List ℕ → Type 0
Lacks byte text = AllByRecursion (λ c. c ≢ byte) text

-- front and back are what stands before and behind the first place of the byte
abbrev pub CutsAt : ℕ → List ℕ → List ℕ → List ℕ → Type 0
CutsAt byte text front back = (text ≡ front ++ byte ∷ back) × Lacks byte front

-- a word that may stand behind the file
abbrev pub IsFurther : Further → Type 0
IsFurther (Buffer b) = IsName b.name × IsOrigin b.from
IsFurther (Launch entry items names) = IsName entry × (1 ≤ items) × (items ≤ 32) × AllByRecursion IsName names
IsFurther (Show name) = IsName name

abbrev pub further_of : FurtherWord → Further
further_of (Buf b) = Buffer b
further_of (Do d) = Launch d.entry d.items d.names
further_of (Print name) = Show name

-- these words behind the file are written so
pub record Spells (further : List Further) (words : List (List ℕ)) : Type 0 where
  pub texts : words ≡ map word_text further
  pub each : AllByRecursion IsFurther further

-- the place is the first at which this stands in the list
abbrev pub IsFirstOf : List (List ℕ) → ℕ → List ℕ → Type 0
IsFirstOf names n name = (slice_get names n ≡ Some name) × ((k : ℕ) → k < n → slice_get names k ≢ Some name)

abbrev pub launch_word : DoWord → LaunchWord
launch_word d = record { entry = d.entry; items = d.items; names = d.names }

-- these are the words behind the file by what they say
pub record IsParts (further : List Further) (p : Parts) : Type 0 where
  pub buffers : filter_map buffer_of further ≡ p.buffers
  pub launches : filter_map launch_of_word further ≡ map launch_word p.launches
  pub shows : filter_map show_of further ≡ p.shows

-- the parts ask for this
pub record IsMeaning (p : Parts) (c : RunWords) : Type 0 where
  pub buffers : p.buffers ≡ c.buffers
  pub names : List (List ℕ)
  pub launch : p.launches ≡ record { entry = c.entry; items = c.items; names = names } ∷ []
  pub arguments : AreNumbersOf c.buffers c.arguments names
  pub shows : AreNumbersOf c.buffers c.shows p.shows
  pub few_buffers : length c.buffers ≤ 16
  pub few_shows : length c.shows ≤ 16
  pub distinct : AreDistinct (map (λ b. b.name) c.buffers)
