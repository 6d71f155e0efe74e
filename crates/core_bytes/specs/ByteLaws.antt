-- The laws of bytes and of words, for cores that give up their oldest lines.
use Rattle.std.specs.Prelude.{◌≡◌, ℕ, List}
use Rattle.memory_banks.specs.declared.entry.BusEntry.{BusEntry}
use Rattle.core_bytes.specs.BusRuns.{BusRun}
use Rattle.core_bytes.specs.Deeds.{Deed}
use Rattle.core_bytes.specs.FittingWords.{AnswersFit, StayWords, WordsGoIn}
use Rattle.core_bytes.specs.OwnBytes.{AnswersOwn, EndsOwn}

-- the policy that gives up the oldest line
abbrev pub gives_oldest : Unit {0} → ℕ → ℕ → ℕ → ℕ → Unit {0} → Type 0
gives_oldest before number oldest ways way behind = way ≡ oldest

-- in every run, of every number of sets, ways and waiting changes, the bytes end so
abbrev pub EveryByteEnds : Type 0
EveryByteEnds = (sets ways room : ℕ) (opening : List ℕ) (cores : ℕ) (deeds : ℕ → List Deed) (history : List BusEntry)
    → BusRun gives_oldest sets ways room (λ core. tt) opening cores deeds history → EndsOwn opening cores deeds history

-- and reads answer so
abbrev pub EveryByteAnswers : Type 0
EveryByteAnswers = (sets ways room : ℕ) (opening : List ℕ) (cores : ℕ) (deeds : ℕ → List Deed) (history : List BusEntry)
    → BusRun gives_oldest sets ways room (λ core. tt) opening cores deeds history → AnswersOwn opening cores deeds history

-- in every run that begins with words and writes words, there are words at each moment
abbrev pub EveryWordStays : Type 0
EveryWordStays = (sets ways room : ℕ) (opening : List ℕ) (cores : ℕ) (deeds : ℕ → List Deed) (history : List BusEntry)
    → BusRun gives_oldest sets ways room (λ core. tt) opening cores deeds history → WordsGoIn opening cores deeds → StayWords opening history

-- and what reads answer fits their fields
abbrev pub EveryAnswerFits : Type 0
EveryAnswerFits = (sets ways room : ℕ) (opening : List ℕ) (cores : ℕ) (deeds : ℕ → List Deed) (history : List BusEntry)
    → BusRun gives_oldest sets ways room (λ core. tt) opening cores deeds history → WordsGoIn opening cores deeds → AnswersFit cores deeds
