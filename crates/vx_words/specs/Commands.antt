use Rattle.std.specs.Prelude.{◌≡◌, ℕ, ◌⊎◌, List, [], ◌∷◌, Result, Ok, Err, codes}
use Rattle.vx_words.specs.declared.command.Command.{Command}
use Rattle.vx_words.specs.declared.command.Command.TheVariants.{Run, Build, Asm, Dis}
use Rattle.vx_words.specs.declared.run_words.RunWords.{RunWords}
use Rattle.vx_words.specs.declared.usage.UsageKind.{UsageKind}
use Rattle.vx_words.specs.declared.usage.UsageKind.TheVariants as usage
use Rattle.vx_words.specs.declared.usage.UsageFault.{UsageFault}
use Rattle.vx_words.specs.declared.usage.UsageFault.TheVariants as fault
use Rattle.vx_words.specs.Names.{IsName}
use Rattle.vx_words.specs.Words.{IsRun}
use Rattle.vx_words.specs.WordForms.{BeginsRun}

-- the commands of one file
abbrev pub IsFileCommand : List ℕ → Type 0
IsFileCommand name = (name ≡ codes "asm") ⊎ (name ≡ codes "dis")

-- the words begin with the name of a command
abbrev pub BeginsCommand : List (List ℕ) → Type 0
BeginsCommand [] = ⊥
BeginsCommand (name ∷ more) = (name ≡ codes "run") ⊎ ((name ≡ codes "build") ⊎ IsFileCommand name)

-- what words ask for
pub data IsCommand (words : List (List ℕ)) : Command → Type 0 where
  Runs : (c : RunWords) → IsRun words c → IsCommand words (Run c)
  Builds : (file entry : List ℕ) → IsName entry → words ≡ codes "build" ∷ file ∷ entry ∷ [] → IsCommand words (Build file entry)
  Assembles : (file : List ℕ) → words ≡ codes "asm" ∷ file ∷ [] → IsCommand words (Asm file)
  Disassembles : (file : List ℕ) → words ≡ codes "dis" ∷ file ∷ [] → IsCommand words (Dis file)

-- What is wrong with the words behind `build`, and with which word, counted from that one: the file or the entry is missing, behind
-- the last word; the entry is no name; or a word stands behind it.
pub data IsWrongBuild : List (List ℕ) → ℕ → UsageKind → Type 0 where
  NoSource : IsWrongBuild [] 1 usage.Missing
  NoEntry : (file : List ℕ) → IsWrongBuild (file ∷ []) 2 usage.Missing
  BadEntry : (file entry : List ℕ) (more : List (List ℕ)) → (¬ (IsName entry)) → IsWrongBuild (file ∷ entry ∷ more) 2 usage.Form
  BehindEntry : (file entry word : List ℕ) (more : List (List ℕ)) → IsName entry → IsWrongBuild (file ∷ entry ∷ word ∷ more) 3 usage.Form

-- What is wrong with words, and with which of them, counted from 0: they begin with no command; those of `run` do not have
-- its form; those of `build` do not have its own; a command's file is missing, behind the last word; a word stands behind the file.
pub data IsUsage (words : List (List ℕ)) : ℕ → UsageKind → Type 0 where
  NoCommand : (¬ (BeginsCommand words)) → IsUsage words 0 usage.Command
  NoForm : BeginsRun words → ((c : RunWords) → IsRun words c → ⊥) → IsUsage words 0 usage.Form
  NoBuild : (behind : List (List ℕ)) (word : ℕ) (kind : UsageKind) → words ≡ codes "build" ∷ behind → IsWrongBuild behind word kind → IsUsage words word kind
  NoFile : (name : List ℕ) → IsFileCommand name → words ≡ name ∷ [] → IsUsage words 1 usage.Missing
  FurtherWord : (name file word : List ℕ) (more : List (List ℕ)) → IsFileCommand name → words ≡ name ∷ file ∷ word ∷ more → IsUsage words 2 usage.Form

-- words are read as what they ask for, or refused for what is wrong with them, unless memory runs out
abbrev pub Reads : List (List ℕ) → Result Command UsageFault → Type 0
Reads words (Ok c) = IsCommand words c
Reads words (Err (fault.Usage word kind)) = IsUsage words word kind
Reads words (Err fault.Memory) = Unit {0}

-- the words behind a command are one file, or refused as its words are
abbrev pub GivesFile : List (List ℕ) → Result (List ℕ) UsageFault → Type 0
GivesFile behind (Ok file) = behind ≡ file ∷ []
GivesFile behind (Err (fault.Usage word kind)) = (name : List ℕ) → IsFileCommand name → IsUsage (name ∷ behind) word kind
GivesFile behind (Err fault.Memory) = Unit {0}

-- what is wrong, in a word
abbrev pub usage_kind_text : UsageKind → List ℕ
usage_kind_text usage.Command = codes "Command"
usage_kind_text usage.Form = codes "Form"
usage_kind_text usage.Missing = codes "Missing"
