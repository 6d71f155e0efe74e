use Rattle.std.specs.Prelude.{◌≡◌, ℕ, Option, Some, None, ◌⊎◌, List, []}
use Rattle.vx_base.specs.declared.types.Pos.{Pos}
use Rattle.vx_world.specs.Counts.{Rose}
use Rattle.vx_world.specs.Writing.{Appends}
use Rattle.vx_world.specs.declared.reading.Entry.{Entry}
use Rattle.vx_words.specs.declared.usage.UsageKind.{UsageKind}
use Rattle.vx_cc.specs.declared.faults.SourceKind.{SourceKind}
use Rattle.vx_run.specs.declared.report.LaunchKind.{LaunchKind}
use Rattle.vx_run.specs.declared.report.BufferKind.{BufferKind}
use Rattle.vx_run.specs.declared.report.Cause.{Cause}
use Rattle.vx_run.specs.declared.report.Cause.TheVariants.{Done, Usage, Source, Launch, Buffer, Trap, Stuck, Turns, ReadFault, WriteFault, Memory, Missing}
use Rattle.vx_run.specs.declared.report.Report.{Report}
use Rattle.vx_run.specs.Delivery.{AppendsSome}
use Rattle.vx_run.specs.declared.stages.Answer.{Answer}
use Rattle.vx_run.specs.Answers.{Refuses, Gives, refusal, FromWords}
use Rattle.vx_run.specs.Lines.{status_of}

-- The counts of the outside, and the bytes of the sink, where it tells them.
pub record Outside : Type 0 where
  pub read_faults : ℕ
  pub misses : ℕ
  pub write_faults : ℕ
  pub written : Option (List ℕ)

-- the files tell what they have
abbrev pub IsTold : Option (List Entry) → Type 0
IsTold None = ⊥
IsTold (Some entries) = Unit {0}

-- the call ends for this cause, or the sink failed or memory ran out before that
abbrev pub EndsFor : Report → Cause → Type 0
EndsFor report cause = (report.cause ≡ cause) ⊎ (((faults : ℕ) × (report.cause ≡ WriteFault faults)) ⊎ (report.cause ≡ Memory))

-- the call ends for this cause, or one of its reads failed before that
abbrev pub EndsUnread : Report → Cause → Type 0
EndsUnread report cause = EndsFor report cause ⊎ ((faults : ℕ) × (report.cause ≡ ReadFault faults))

-- a read that failed, and a name that no file has, were counted in this call
abbrev pub WasCounted : Cause → Outside → Outside → Type 0
WasCounted (ReadFault faults) before now = Rose before.read_faults now.read_faults
WasCounted (Missing name) before now = Rose before.misses now.misses
WasCounted c before now = Unit {0}

-- An answer that the call may come to: of what its words ask for, or of its refusal. The refusals for a failed read and for
-- a missing name are answers only if the outside counted one.
pub data MayAnswer (held : Option (List Entry)) (words : List (List ℕ)) (before now : Outside) : Answer → Type 0 where
  AnswersWords : (a : Answer) → FromWords held words (Gives a) → MayAnswer held words before now a
  AnswersRefusal : (cause : Cause) → FromWords held words (Refuses cause) → WasCounted cause before now →
      MayAnswer held words before now (refusal cause)
  AnswersFault : WasCounted (ReadFault 1) before now → MayAnswer held words before now (refusal (ReadFault 1))

-- What was written is the text of an answer that the call may come to, whole, and the report is for its cause; or its front,
-- if the sink failed or memory ran out; or nothing, if memory ran out before. The report tells what ran for the answer.
pub data IsPrefix (held : Option (List Entry)) (words : List (List ℕ)) (before now : Outside) (report : Report) : Type 0 where
  WholeText : (a : Answer) → MayAnswer held words before now a → report.cause ≡ a.cause → report.activity ≡ a.activity →
      Appends before.written now.written a.text → IsPrefix held words before now report
  FrontOfText : (a : Answer) (faults : ℕ) → MayAnswer held words before now a →
      (report.cause ≡ WriteFault faults) ⊎ (report.cause ≡ Memory) → report.activity ≡ a.activity →
      AppendsSome before.written now.written a.text → IsPrefix held words before now report
  NoText : report.cause ≡ Memory → Appends before.written now.written [] → IsPrefix held words before now report

-- the call is refused for this cause
abbrev pub IsRefused : Option (List Entry) → List (List ℕ) → Cause → Type 0
IsRefused held words cause = FromWords held words (Refuses cause)

-- What a call of `vx` with these words meets, over files that hold this where they tell it, by the outside before and
-- behind it.
pub record VxMeets (held : Option (List Entry)) (words : List (List ℕ)) (before now : Outside) (report : Report) : Type 0 where
  -- the status is that of the cause
  pub status : report.status ≡ status_of report.cause
  -- each refusal comes exactly where its row of the table of answers says; words that are refused are answered before any
  -- file is read
  pub usage : (word : ℕ) (kind : UsageKind) → (report.cause ≡ Usage word kind → IsRefused held words (Usage word kind))
      × (IsRefused held words (Usage word kind) → EndsFor report (Usage word kind))
  pub source : (pos : Pos) (kind : SourceKind) → (report.cause ≡ Source pos kind → IsRefused held words (Source pos kind))
      × (IsTold held → IsRefused held words (Source pos kind) → EndsUnread report (Source pos kind))
  pub launch : (index : ℕ) (kind : LaunchKind) → (report.cause ≡ Launch index kind → IsRefused held words (Launch index kind))
      × (IsTold held → IsRefused held words (Launch index kind) → EndsUnread report (Launch index kind))
  pub buffer : (index : ℕ) (kind : BufferKind) → (report.cause ≡ Buffer index kind → IsRefused held words (Buffer index kind))
      × (IsTold held → IsRefused held words (Buffer index kind) → EndsUnread report (Buffer index kind))
  pub missing : (name : List ℕ) → (report.cause ≡ Missing name → IsRefused held words (Missing name) × Rose before.misses now.misses)
      × (IsTold held → IsRefused held words (Missing name) → EndsUnread report (Missing name))
  -- no launch of this form traps, is stuck or runs out of turns
  pub trap : (launch : ℕ) (pos : Pos) (item : ℕ) → report.cause ≡ Trap launch pos item → ⊥
  pub stuck : (launch core waiting ended : ℕ) → report.cause ≡ Stuck launch core waiting ended → ⊥
  pub turns : (launch core group count : ℕ) → report.cause ≡ Turns launch core group count → ⊥
  -- a fault of the outside is answered only where it was counted
  pub read_fault : (faults : ℕ) → report.cause ≡ ReadFault faults → (faults ≡ 1) × Rose before.read_faults now.read_faults
  pub write_fault : (faults : ℕ) → report.cause ≡ WriteFault faults → (faults ≡ 1) × Rose before.write_faults now.write_faults
  -- what is written is always the front of a text, and mostly all of it
  pub prefix : IsPrefix held words before now report
  -- with status 0 the text of an answer that the words come to was written whole, as that of buffers that the launch leaves, or of the words of an
  -- image; and the report tells what was made and what ran for it
  pub headline : report.cause ≡ Done → (a : Answer) × FromWords held words (Gives a) × (a.cause ≡ Done)
      × (report.activity ≡ a.activity) × Appends before.written now.written a.text
  -- where no refusal's row holds and no fault was counted, the answer is written, unless memory ran out
  pub complete : ((cause : Cause) → IsRefused held words cause → ⊥) → (Rose before.read_faults now.read_faults → ⊥) →
      (Rose before.write_faults now.write_faults → ⊥) → (report.cause ≡ Done) ⊎ (report.cause ≡ Memory)
