-- What words are those of a command, and what is wrong with words: by how they are written.
use Rattle.std.specs.Prelude.{◌≡◌, ◌≢◌, ℕ, ◌+◌, true, false, IsTrue, Some, None, List, [], ◌∷◌, ◌++◌, length, codes}
use Rattle.command_words.specs.declared.commands.Command.{Command}
use Rattle.command_words.specs.declared.entries.Entry.{Entry}
use Rattle.command_words.specs.declared.places.CommandName.{CommandName}
use Rattle.command_words.specs.declared.places.CommandName.TheVariants.{Run, Build, Asm, Dis, Gen}
use Rattle.command_words.specs.declared.usage.UsageKind.{UsageKind}
use Rattle.command_words.specs.declared.usage.UsageKind.TheVariants as usage
use Rattle.command_words.specs.Places.{place_at}
use Rattle.command_words.specs.Texts.{IsWord}
use Rattle.command_words.specs.Limits.{is_within}
use Rattle.command_words.specs.Repeats.{is_repeated, unknown_from}
use Rattle.command_words.specs.Meaning.{kept}
use Rattle.command_words.specs.Commands.{meaning_of}

abbrev pub command_text : CommandName → List ℕ
command_text Run = codes "run"
command_text Build = codes "build"
command_text Asm = codes "asm"
command_text Dis = codes "dis"
command_text Gen = codes "gen"

-- the text is this word behind those before it, with its numbers within their limits, and repeats none of them
pub record IsNext (command : CommandName) (before : List Entry) (word : Entry) (written : List ℕ) : Type 0 where
  pub is : IsWord (place_at command (length before)) word written
  pub within : IsTrue (is_within word)
  pub once : is_repeated before word ≡ false

-- the texts are these words, one behind another
abbrev pub AreNext : CommandName → List Entry → List (List ℕ) → List Entry → Type 0
AreNext command before [] [] = Unit {0}
AreNext command before (text ∷ texts) (word ∷ words) = IsNext command before word text × AreNext command (before ++ word ∷ []) texts words
AreNext command before [] (word ∷ words) = ⊥
AreNext command before (text ∷ texts) [] = ⊥

-- what is wrong with a text behind words: it is no word that may stand there, or a number of the word is outside its
-- limits, or the word repeats one of them
pub data IsWrong (command : CommandName) (before : List Entry) (written : List ℕ) : UsageKind → Type 0 where
  NoForm : ((word : Entry) → IsWord (place_at command (length before)) word written → ⊥) → IsWrong command before written usage.Form
  NoNumber : (word : Entry) → IsWord (place_at command (length before)) word written → is_within word ≡ false → IsWrong command before written usage.Number
  Again : (word : Entry) → IsWord (place_at command (length before)) word written → IsTrue (is_within word) → is_repeated before word ≡ true → IsWrong command before written usage.Repeated

-- the words of a command: each is what is written, all buffers that they name are given, and none is missing
pub record IsCommand (written : List (List ℕ)) (c : Command) : Type 0 where
  pub command : CommandName
  pub texts : List (List ℕ)
  pub words : List Entry
  pub named : written ≡ command_text command ∷ texts
  pub read : AreNext command [] texts words
  pub given : unknown_from words 0 words ≡ None
  pub asks : meaning_of command words ≡ Some c

-- What is wrong with words, and with which of them: there is none, or the first names no command; then the first text that
-- is wrong behind those before it; then the first word that names a buffer which none gives; then a word is missing.
pub data IsUsage (written : List (List ℕ)) (n : ℕ) : UsageKind → Type 0 where
  NoWord : written ≡ [] → n ≡ 0 → IsUsage written n usage.Command
  NoCommand : (text : List ℕ) (texts : List (List ℕ)) → written ≡ text ∷ texts → ((command : CommandName) → text ≢ command_text command) → n ≡ 0 → IsUsage written n usage.Command
  InWord : (command : CommandName) (front : List (List ℕ)) (text : List ℕ) (rest : List (List ℕ)) (before : List Entry) (k : UsageKind) → written ≡ command_text command ∷ (front ++ text ∷ rest) → AreNext command [] front before → IsWrong command before text k → n ≡ kept (length before + 1) → IsUsage written n k
  NotGiven : (command : CommandName) (texts : List (List ℕ)) (words : List Entry) (place : ℕ) → written ≡ command_text command ∷ texts → AreNext command [] texts words → unknown_from words 0 words ≡ Some place → n ≡ kept (place + 1) → IsUsage written n usage.Unknown
  NoLast : (command : CommandName) (texts : List (List ℕ)) (words : List Entry) → written ≡ command_text command ∷ texts → AreNext command [] texts words → unknown_from words 0 words ≡ None → meaning_of command words ≡ None → n ≡ kept (length texts + 1) → IsUsage written n usage.Missing
