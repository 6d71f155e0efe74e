use Rattle.std.specs.Prelude.{◌≡◌, ℕ, ◌≤◌, List, length, take, Option, Result, Err}
use Rattle.vx_world.specs.Counts.{Rose}
use Rattle.vx_world.specs.Writing.{Appends}
use Rattle.vx_run.specs.declared.report.Cause.{Cause}
use Rattle.vx_run.specs.declared.report.Cause.TheVariants.{WriteFault, Memory as NoRoom}
use Rattle.vx_run.specs.declared.report.Activity.{Activity}
use Rattle.vx_run.specs.declared.report.Report.{Report}
use Rattle.vx_run.specs.declared.stages.Answer.{Answer}
use Rattle.vx_run.specs.Lines.{status_of}
use Rattle.vx_world.specs.declared.writing.OutFault.{OutFault}
use Rattle.vx_world.specs.declared.writing.OutFault.TheVariants.{Failed}

-- some first bytes of a text are appended
pub record AppendsSome (before now : Option (List ℕ)) (text : List ℕ) : Type 0 where
  pub count : ℕ
  pub within : count ≤ length text
  pub appends : Appends before now (take count text)

-- the count of faults never falls, and a delivery fails only if it rose
abbrev pub CountsDelivery : Result (Unit {0}) OutFault → ℕ → ℕ → Type 0
CountsDelivery (Err Failed) before now = Rose before now
CountsDelivery result before now = before ≤ now

-- the report is for this cause, with its status and what ran
pub record IsReportOf (cause : Cause) (activity : Activity) (report : Report) : Type 0 where
  pub status : report.status ≡ status_of cause
  pub cause_is : report.cause ≡ cause
  pub activity_is : report.activity ≡ activity

-- An answer's text is written whole, and the report is for its cause; or the front of the text is, and the report is for
-- the fault of the sink or for want of memory.
pub data Delivers (a : Answer) (before now : Option (List ℕ)) (faults_before faults_now : ℕ) (report : Report) : Type 0 where
  WholeText : IsReportOf a.cause a.activity report → Appends before now a.text →
      Delivers a before now faults_before faults_now report
  SinkFailed : IsReportOf (WriteFault 1) a.activity report → Rose faults_before faults_now → AppendsSome before now a.text →
      Delivers a before now faults_before faults_now report
  NoMemory : IsReportOf NoRoom a.activity report → AppendsSome before now a.text →
      Delivers a before now faults_before faults_now report
