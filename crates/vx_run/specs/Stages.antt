use Rattle.std.specs.Prelude.{◌≡◌, ◌≢◌, ◌⊎◌, ℕ, ◌-◌, ◌^◌, ◌<◌, ◌≤◌, min, take, Some, None, List, Option, Result, Ok, Err, length, All}
use Rattle.vx_world.specs.Counts.{Rose}
use Rattle.vx_run.specs.declared.report.Cause.TheVariants as cause
use Rattle.vx_run.specs.declared.report.Cause.{Cause}
use Rattle.vx_run.specs.declared.stages.Stop.{Stop}
use Rattle.vx_run.specs.declared.stages.Stop.TheVariants.{Refused, Memory}
use Rattle.vx_world.specs.declared.reading.Entry.{Entry}
use Rattle.vx_words.specs.declared.run_words.RunWords.{RunWords}
use Rattle.vx_words.specs.declared.usage.UsageFault.{UsageFault}
use Rattle.vx_words.specs.declared.usage.UsageKind.{UsageKind}
use Rattle.vx_words.specs.Commands.{IsUsage}
use Rattle.vx_words.specs.declared.usage.UsageFault.TheVariants.{Usage, Memory as NoMemory}
use Rattle.vx_cc.specs.Faults.{first_place, fault_at}
use Rattle.vx_cc.specs.Fronts.{FrontOf}
use Rattle.vx_cc.specs.declared.faults.SourceFault.{SourceFault}
use Rattle.vx_cc.specs.declared.faults.SourceKind.{SourceKind}
use Rattle.vx_cc.specs.declared.faults.SourceKind.TheVariants as source
use Rattle.vx_base.specs.declared.types.Pos.{Pos}
use Rattle.vx_words.specs.Words.{IsOrigin}
use Rattle.asm_text.specs.declared.hexadecimal.HexFault.{HexFault}
use Rattle.asm_text.specs.declared.hexadecimal.HexFault.TheVariants as hex
use Rattle.asm_text.specs.declared.statements.AsmFault.{AsmFault}
use Rattle.asm_text.specs.declared.statements.AsmFault.TheVariants as asm
use Rattle.vx_words.specs.declared.command.Command.{Command}
use Rattle.vx_words.specs.declared.command.Command.TheVariants.{Run, Build, Asm, Dis}
use Rattle.vx_run.specs.declared.stages.Answer.{Answer}
use Rattle.kernel_images.specs.declared.compiling.CompileFault.{CompileFault}
use Rattle.kernel_images.specs.declared.compiling.CompileFault.TheVariants as compile
use Rattle.vx_run.specs.declared.report.LaunchKind.TheVariants as launch
use Rattle.first_kernels.specs.FirstForms.{form_from}
use Rattle.ocl_program.specs.Nodes.{FunctionNode}
use Rattle.ocl_types.specs.Functions.{kernel_from}
use Rattle.first_kernels.specs.FirstTree.{Form}
use Rattle.vx_run.specs.Answers.{Outcome, Refuses, Gives, Holds, IsKernelOf, most_source, asm_cause, hex_cause}

-- a refusal is one that the call may come to; a read fault is one read that failed
abbrev pub IsRefusal : (Outcome → Type 0) → Cause → Type 0
IsRefusal Comes (cause.ReadFault faults) = faults ≡ 1
IsRefusal Comes c = Comes (Refuses c)

-- what stops a call is a refusal that it may come to, or want of memory
abbrev pub StopsAt : (Outcome → Type 0) → Stop → Type 0
StopsAt Comes (Refused c) = IsRefusal Comes c
StopsAt Comes Memory = Unit {0}

-- an answer is one that the call may come to, and what stops it is a refusal that it may come to
abbrev pub ComesTo : (Outcome → Type 0) → Result Answer Stop → Type 0
ComesTo Comes (Ok answer) = Comes (Gives answer)
ComesTo Comes (Err stop) = StopsAt Comes stop

-- the counts never fall; a read fault is answered only if its count rose, and a missing name only if that of misses did
abbrev pub CausesFaults : Cause → ℕ → ℕ → Type 0
CausesFaults (cause.ReadFault faults) before now = Rose before now
CausesFaults c before now = before ≤ now

abbrev pub CausesMisses : Cause → ℕ → ℕ → Type 0
CausesMisses (cause.Missing name) before now = Rose before now
CausesMisses c before now = before ≤ now

abbrev pub StopFaults : Stop → ℕ → ℕ → Type 0
StopFaults (Refused c) before now = CausesFaults c before now
StopFaults Memory before now = before ≤ now

abbrev pub StopMisses : Stop → ℕ → ℕ → Type 0
StopMisses (Refused c) before now = CausesMisses c before now
StopMisses Memory before now = before ≤ now

abbrev pub StageFaults : {X : Type 0} → Result X Stop → ℕ → ℕ → Type 0
StageFaults (Ok value) before now = before ≤ now
StageFaults (Err stop) before now = StopFaults stop before now

abbrev pub StageMisses : {X : Type 0} → Result X Stop → ℕ → ℕ → Type 0
StageMisses (Ok value) before now = before ≤ now
StageMisses (Err stop) before now = StopMisses stop before now

-- these are the first bytes of the file of a name, at most so many
pub record ReadsFront (held : Option (List Entry)) (name : List ℕ) (most : ℕ) (bytes : List ℕ) : Type 0 where
  pub whole : List ℕ
  pub holds : Holds held name (Some whole)
  pub front : take most whole ≡ bytes

-- a file that is not read is not there, or its read failed
abbrev pub StopsReading : Option (List Entry) → List ℕ → Stop → Type 0
StopsReading held name (Refused (cause.Missing missing)) = (missing ≡ name) × Holds held name None
StopsReading held name (Refused (cause.ReadFault faults)) = faults ≡ 1
StopsReading held name (Refused c) = ⊥
StopsReading held name Memory = Unit {0}

-- a refusal for want of the file of this name, or want of memory
abbrev pub IsMissingOf : List ℕ → Stop → Type 0
IsMissingOf name (Refused (cause.Missing missing)) = missing ≡ name
IsMissingOf name (Refused c) = ⊥
IsMissingOf name Memory = Unit {0}

-- what the words of `run` are known to be, once they are read
pub record IsRunnable (c : RunWords) : Type 0 where
  pub arguments : All (λ b. b < length c.buffers) c.arguments
  pub shows : All (λ b. b < length c.buffers) c.shows
  pub origins : All (λ b. IsOrigin b.from) c.buffers
  pub few_buffers : length c.buffers ≤ 16
  pub items_some : 1 ≤ c.items
  pub items_few : c.items ≤ 32

-- the bytes are too many, or have this fault
abbrev pub IsSourceFault : List ℕ → Pos → SourceKind → Type 0
IsSourceFault bytes pos kind =
    ((most_source < length bytes) × (pos ≡ first_place) × (kind ≡ source.TooLong))
    ⊎ ((length bytes ≤ most_source) × FrontOf bytes (Err (fault_at pos kind)))

-- a refusal because these bytes have no program, or want of memory
abbrev pub IsNoProgram : List ℕ → Stop → Type 0
IsNoProgram bytes (Refused (cause.Source pos kind)) = IsSourceFault bytes pos kind
IsNoProgram bytes (Refused c) = ⊥
IsNoProgram bytes Memory = Unit {0}

-- a fault of a source stops the call, and so does want of memory
abbrev pub StopsForSource : SourceFault → Stop → Type 0
StopsForSource fault (Refused (cause.Source pos kind)) = (fault ≡ fault_at pos kind) × (kind ≢ source.Memory)
StopsForSource fault (Refused c) = ⊥
StopsForSource fault Memory = Unit {0}

-- a refusal because no kernel of the program has this name
abbrev pub IsNoEntry : List FunctionNode → List ℕ → Stop → Type 0
IsNoEntry program name (Refused (cause.Launch index kind)) =
    (kernel_from 0 name program ≡ None) × (index ≡ 0) × (kind ≡ launch.NoEntry)
IsNoEntry program name (Refused c) = ⊥
IsNoEntry program name Memory = ⊥

-- a refusal because a kernel is of no form that runs, or want of memory
abbrev pub IsNotBuilt : FunctionNode → Stop → Type 0
IsNotBuilt kernel (Refused (cause.Launch index kind)) = (form_from kernel ≡ None) × (index ≡ 0) × (kind ≡ launch.NotBuilt)
IsNotBuilt kernel (Refused c) = ⊥
IsNotBuilt kernel Memory = Unit {0}

-- the kernel of a program that has this name is of this form
pub record HasKernel (program : List FunctionNode) (name : List ℕ) (form : Form) : Type 0 where
  pub function : FunctionNode
  pub named : IsKernelOf program name function
  pub formed : form_from function ≡ Some form

-- no kernel of the program has this name, or the one that has it is of no form that runs, or memory ran out
abbrev pub IsNoKernel : List FunctionNode → List ℕ → Stop → Type 0
IsNoKernel program name stop = IsNoEntry program name stop
    ⊎ ((function : FunctionNode) × IsKernelOf program name function × IsNotBuilt function stop)

-- the kernel of this name in a file with these bytes is of this form
pub record SourceHasKernel (bytes name : List ℕ) (form : Form) : Type 0 where
  pub few : length bytes ≤ most_source
  pub program : List FunctionNode
  pub front : FrontOf bytes (Ok program)
  pub has : HasKernel program name form

-- the bytes have no program, or their program has no such kernel
abbrev pub IsNoKernelOf : List ℕ → List ℕ → Stop → Type 0
IsNoKernelOf bytes name stop = IsNoProgram bytes stop
    ⊎ ((program : List FunctionNode) × (length bytes ≤ most_source) × FrontOf bytes (Ok program) × IsNoKernel program name stop)

-- a refusal because a kernel takes another number of arguments
abbrev pub IsWrongCount : ℕ → ℕ → Stop → Type 0
IsWrongCount given wanted (Refused (cause.Launch index kind)) =
    (given ≢ wanted) × (index ≡ 0) × (kind ≡ launch.Arguments (min given (2 ^ 32 - 1)) wanted)
IsWrongCount given wanted (Refused c) = ⊥
IsWrongCount given wanted Memory = ⊥

-- no file stops the call
abbrev pub IsPlain : Stop → Type 0
IsPlain (Refused (cause.ReadFault faults)) = ⊥
IsPlain (Refused (cause.Missing name)) = ⊥
IsPlain (Refused c) = Unit {0}
IsPlain Memory = Unit {0}

-- words that are not read stop the call
abbrev pub StopsFor : UsageFault → Stop → Type 0
StopsFor (Usage word kind) stop = stop ≡ Refused (cause.Usage word kind)
StopsFor NoMemory stop = stop ≡ Memory

-- a kernel without an image stops the call, and so does want of memory
abbrev pub StopsForImage : CompileFault → Stop → Type 0
StopsForImage compile.NoEntry stop = stop ≡ Refused (cause.Launch 0 launch.NoEntry)
StopsForImage (compile.Slots pos slots) stop = stop ≡ Refused (cause.Source pos (source.Slots slots))
StopsForImage (compile.Words pos words) stop = stop ≡ Refused (cause.Source pos (source.Words words))
StopsForImage compile.Memory stop = stop ≡ Memory

-- a text that is refused stops the call, and so does want of memory
abbrev pub StopsForAsm : AsmFault → Stop → Type 0
StopsForAsm asm.Memory stop = stop ≡ Memory
StopsForAsm fault stop = stop ≡ Refused (asm_cause fault)

abbrev pub StopsForHex : HexFault → Stop → Type 0
StopsForHex hex.Memory stop = stop ≡ Memory
StopsForHex fault stop = stop ≡ Refused (hex_cause fault)

-- no read fails where the words are refused
abbrev pub ReadsBehind : List (List ℕ) → Stop → Type 0
ReadsBehind words (Refused (cause.ReadFault faults)) = (word : ℕ) (kind : UsageKind) → IsUsage words word kind → ⊥
ReadsBehind words (Refused c) = Unit {0}
ReadsBehind words Memory = Unit {0}

-- what a command is known to be, once its words are read
abbrev pub IsRunnableCommand : Command → Type 0
IsRunnableCommand (Run c) = IsRunnable c
IsRunnableCommand (Build file entry) = Unit {0}
IsRunnableCommand (Asm file) = Unit {0}
IsRunnableCommand (Dis file) = Unit {0}
