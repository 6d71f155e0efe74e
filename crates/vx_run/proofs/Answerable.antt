-- Which outcomes a call may have.
use Rattle.std.proofs.Common.{◌≡◌, refl, ℕ, List}
use Rattle.std.specs.Prelude.{Option}
use Rattle.vx_world.specs.declared.reading.Entry.{Entry}
use Rattle.vx_run.specs.declared.report.Cause.{Cause}
use Rattle.vx_run.specs.declared.report.Cause.TheVariants.{Done, Usage, Source, Launch, Buffer, Trap, Stuck, Turns, ReadFault, WriteFault, Memory, Missing}
use Rattle.vx_run.specs.Answers.{Outcome, Refuses, Gives, FromBytes, TooLong, BadText, GoodText, FromText, NoText, HasText}

-- the causes for which a call may be refused
abbrev pub IsAnswerable : Cause → Type 0
IsAnswerable Done = ⊥
IsAnswerable (Usage word kind) = Unit {0}
IsAnswerable (Source pos kind) = Unit {0}
IsAnswerable (Launch index kind) = Unit {0}
IsAnswerable (Buffer index kind) = Unit {0}
IsAnswerable (Trap launch pos item) = ⊥
IsAnswerable (Stuck launch core waiting ended) = ⊥
IsAnswerable (Turns launch core group count) = ⊥
IsAnswerable (ReadFault faults) = ⊥
IsAnswerable (WriteFault faults) = ⊥
IsAnswerable Memory = ⊥
IsAnswerable (Missing name) = Unit {0}

abbrev pub MayBe : Outcome → Type 0
MayBe (Refuses c) = IsAnswerable c
MayBe (Gives answer) = answer.cause ≡ Done

-- two outcomes are one refusal, or both give answers
abbrev pub Agree : Outcome → Outcome → Type 0
Agree (Refuses c) (Refuses d) = c ≡ d
Agree (Refuses c) (Gives answer) = ⊥
Agree (Gives answer) (Refuses c) = ⊥
Agree (Gives answer) (Gives other) = Unit {0}

-- what a text's file may come to
abbrev pub IsOfText : Outcome → Type 0
IsOfText (Gives answer) = answer.cause ≡ Done
IsOfText (Refuses (Source pos kind)) = Unit {0}
IsOfText (Refuses (Missing name)) = Unit {0}
IsOfText (Refuses c) = ⊥

pub of_text_may : (o : Outcome) → IsOfText o → MayBe o
of_text_may (Gives answer) h = h
of_text_may (Refuses (Source pos kind)) h = tt
of_text_may (Refuses (Missing name)) h = tt
of_text_may (Refuses c) h = absurd h

of_bytes : (limit : ℕ) (outcome : List ℕ → Outcome) (bytes : List ℕ) (o : Outcome) → FromBytes limit outcome bytes o → IsOfText o
of_bytes limit outcome bytes o (TooLong long) = tt
of_bytes limit outcome bytes o (BadText pos kind few e) = tt
of_bytes limit outcome bytes o (GoodText text few e) = refl

pub of_text : (held : Option (List Entry)) (file : List ℕ) (limit : ℕ) (outcome : List ℕ → Outcome) (o : Outcome) → FromText held file limit outcome o → IsOfText o
of_text held file limit outcome o (NoText none) = tt
of_text held file limit outcome o (HasText bytes q there h) = of_bytes limit outcome bytes o h
