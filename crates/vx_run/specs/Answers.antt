use Rattle.std.specs.Prelude.{◌≡◌, ◌≢◌, ℕ, suc, ◌+◌, ◌-◌, ◌*◌, ◌^◌, ◌<◌, ◌≤◌, min, Result, Ok, Err, Option, Some, None, List, [], ◌∷◌, ◌++◌, length, replicate, slice_get, slice_index, slice_index_or}
use Rattle.vx_base.specs.declared.types.Pos.{Pos}
use Rattle.item_acts.specs.Tame.{LaunchLeaves}
use Rattle.vx_world.specs.declared.reading.Entry.{Entry}
use Rattle.vx_world.specs.Reading.{bytes_named}
use Rattle.vx_words.specs.declared.run_words.BufFrom.{BufFrom}
use Rattle.vx_words.specs.declared.run_words.BufFrom.TheVariants.{File, Zero}
use Rattle.vx_words.specs.declared.run_words.BufWord.{BufWord}
use Rattle.vx_words.specs.declared.run_words.RunWords.{RunWords}
use Rattle.vx_words.specs.declared.command.Command.{Command}
use Rattle.vx_words.specs.declared.command.Command.TheVariants.{Run, Build, Asm, Dis}
use Rattle.vx_words.specs.declared.usage.UsageKind.{UsageKind}
use Rattle.vx_words.specs.Commands.{IsCommand, IsUsage}
use Rattle.asm_text.specs.declared.hexadecimal.HexFault.{HexFault}
use Rattle.asm_text.specs.declared.hexadecimal.HexFault.TheVariants as hex
use Rattle.asm_text.specs.declared.statements.AsmFault.{AsmFault}
use Rattle.asm_text.specs.declared.statements.AsmFault.TheVariants as asm
use Rattle.asm_text.specs.AsmTexts.{assembled}
use Rattle.asm_text.specs.HexLines.{hex_lines, hex_words_of}
use Rattle.vx_disasm.specs.Texts.{lines_text}
use Rattle.vx_cc.specs.Faults.{first_place}
use Rattle.vx_cc.specs.Fronts.{FrontOf}
use Rattle.vx_cc.specs.declared.faults.SourceFault.{SourceFault}
use Rattle.vx_cc.specs.declared.faults.SourceKind.{SourceKind}
use Rattle.vx_cc.specs.declared.faults.SourceKind.TheVariants as source
use Rattle.ocl_program.specs.Nodes.{FunctionNode}
use Rattle.ocl_types.specs.Functions.{kernel_from}
use Rattle.vx_run.specs.declared.report.LaunchKind.TheVariants as launch
use Rattle.vx_run.specs.declared.report.BufferKind.TheVariants as buffer
use Rattle.vx_run.specs.declared.report.Cause.{Cause}
use Rattle.vx_run.specs.declared.report.Cause.TheVariants as cause
use Rattle.first_kernels.specs.FirstTree.{Form}
use Rattle.first_kernels.specs.FirstForms.{form_from}
use Rattle.first_kernels.specs.FirstSources.{source_launch}
use Rattle.kernel_images.specs.Images.{IsImageNamed}
use Rattle.kernel_images.specs.Refusals.{HasManySlots, HasManyWords, IsSmallNamed, StandsAt}
use Rattle.vx_isa.specs.declared.image.Image.{Image}
use Rattle.vx_run.specs.declared.report.Activity.{Activity}
use Rattle.vx_run.specs.declared.stages.Answer.{Answer}
use Rattle.vx_run.specs.Lines.{line_of}
use Rattle.vx_run.specs.Output.{output_text}

-- nothing was made, and nothing ran on the machine
abbrev pub idle : Activity
idle = record { images = [] }

-- one image was made, and nothing ran
abbrev pub made : Image → Activity
made image = record { images = image ∷ [] }

-- the answer of a call that prints a text
abbrev pub printed : List ℕ → Answer
printed text = record { cause = cause.Done; text = text; activity = idle }

-- the answer of a call that makes an image: its words, in lines
abbrev pub built : Image → Answer
built image = record { cause = cause.Done; text = hex_lines image.words; activity = made image }

-- the answer of a call that is refused: the line that names the cause
abbrev pub refusal : Cause → Answer
refusal c = record { cause = c; text = line_of c; activity = idle }

-- What the words and the files of a call come to: it is refused for a cause before anything runs, or it gives an answer.
pub data Outcome : Type 0 where
  Refuses : Cause → Outcome
  Gives : Answer → Outcome

abbrev pub Prints : List ℕ → Outcome
Prints text = Gives (printed text)

-- The files have this under a name, where they tell what they have.
abbrev pub Holds : Option (List Entry) → List ℕ → Option (List ℕ) → Type 0
Holds None name file = Unit {0}
Holds (Some entries) name file = bytes_named entries name ≡ file

-- these are the bytes of a buffer before the launch
abbrev pub Brings : Option (List Entry) → BufFrom → List ℕ → Type 0
Brings held (File path) bytes = Holds held path (Some bytes)
Brings held (Zero count) bytes = bytes ≡ replicate (4 * count) 0

-- how many of its bytes are counted: of a file at most one more than are wanted
abbrev pub counted_bytes : BufFrom → List ℕ → ℕ → ℕ
counted_bytes (File path) bytes wanted = min (length bytes) (wanted + 1)
counted_bytes (Zero count) bytes wanted = length bytes

-- a byte of a buffer, by the bytes of each
abbrev pub bytes_in : List (List ℕ) → ℕ → ℕ → ℕ
bytes_in contents b byte = slice_index (slice_index_or contents b []) byte

-- a kernel, and the program that it is of
pub record Chosen : Type 0 where
  pub program : List FunctionNode
  pub kernel : FunctionNode

-- The arguments and the run: as many arguments as parameters (their number is kept as 2^32 - 1 where it is greater), and then the launch leaves bytes that are printed.
pub data FromArguments (c : RunWords) (k : Chosen) (contents : List (List ℕ)) : Outcome → Type 0 where
  WrongArguments : length c.arguments ≢ length k.kernel.params →
      FromArguments c k contents (Refuses (cause.Launch 0 (launch.Arguments (min (length c.arguments) (2 ^ 32 - 1)) (length k.kernel.params))))
  Runs : length c.arguments ≡ length k.kernel.params → (left : ℕ → ℕ → ℕ) →
      LaunchLeaves (source_launch k.program k.kernel c.arguments c.items (length c.buffers)) (bytes_in contents) left →
      FromArguments c k contents (Prints (output_text c left))

-- The buffers in order, from this number on, behind those with these contents: each file is there, and each buffer has an
-- int for each work-item.
pub data FromBuffers (held : Option (List Entry)) (c : RunWords) (k : Chosen) : ℕ → List BufWord → List (List ℕ) → Outcome → Type 0 where
  NoBuffers : (index : ℕ) (contents : List (List ℕ)) (o : Outcome) → FromArguments c k contents o → FromBuffers held c k index [] contents o
  NoBufferFile : (index : ℕ) (contents : List (List ℕ)) (b : BufWord) (more : List BufWord) (path : List ℕ) → b.from ≡ File path → Holds held path None →
      FromBuffers held c k index (b ∷ more) contents (Refuses (cause.Missing path))
  WrongLength : (index : ℕ) (contents : List (List ℕ)) (b : BufWord) (more : List BufWord) (bytes : List ℕ) → Brings held b.from bytes →
      length bytes ≢ 4 * c.items →
      FromBuffers held c k index (b ∷ more) contents (Refuses (cause.Buffer index (buffer.Length (counted_bytes b.from bytes (4 * c.items)) 4)))
  NextBuffer : (index : ℕ) (contents : List (List ℕ)) (b : BufWord) (more : List BufWord) (bytes : List ℕ) (o : Outcome) → Brings held b.from bytes →
      length bytes ≡ 4 * c.items → FromBuffers held c k (suc index) more (contents ++ bytes ∷ []) o → FromBuffers held c k index (b ∷ more) contents o

-- the kernel of a program that has this name
pub record IsKernelOf (program : List FunctionNode) (name : List ℕ) (f : FunctionNode) : Type 0 where
  pub number : ℕ
  pub found : kernel_from 0 name program ≡ Some number
  pub is : slice_get program number ≡ Some f

-- the form of the kernel: it is one of those that run so far
pub data FromKernel (held : Option (List Entry)) (c : RunWords) (k : Chosen) : Outcome → Type 0 where
  NotBuilt : form_from k.kernel ≡ None → FromKernel held c k (Refuses (cause.Launch 0 launch.NotBuilt))
  HasForm : (form : Form) (o : Outcome) → form_from k.kernel ≡ Some form → FromBuffers held c k 0 c.buffers [] o → FromKernel held c k o

-- the entry: a kernel of the program has its name
pub data FromProgram (held : Option (List Entry)) (c : RunWords) (program : List FunctionNode) : Outcome → Type 0 where
  NoEntry : kernel_from 0 c.entry program ≡ None → FromProgram held c program (Refuses (cause.Launch 0 launch.NoEntry))
  HasEntry : (f : FunctionNode) (o : Outcome) → IsKernelOf program c.entry f → FromKernel held c (record { program = program; kernel = f }) o →
      FromProgram held c program o

-- the most bytes of a kernel's file
abbrev pub most_source : ℕ
most_source = 1048576

-- the source: these bytes are few enough, and have a program, which comes to what `OfProgram` says
pub data FromSource (OfProgram : List FunctionNode → Outcome → Type 0) (bytes : List ℕ) : Outcome → Type 0 where
  LongSource : most_source < length bytes → FromSource OfProgram bytes (Refuses (cause.Source first_place source.TooLong))
  BadSource : (fault : SourceFault) → length bytes ≤ most_source → FrontOf bytes (Err fault) →
      FromSource OfProgram bytes (Refuses (cause.Source fault.pos fault.kind))
  HasProgram : (program : List FunctionNode) (o : Outcome) → length bytes ≤ most_source → FrontOf bytes (Ok program) → OfProgram program o → FromSource OfProgram bytes o

-- the kernel's file: it is there
pub data FromFile (held : Option (List Entry)) (file : List ℕ) (OfProgram : List FunctionNode → Outcome → Type 0) : Outcome → Type 0 where
  NoFile : Holds held file None → FromFile held file OfProgram (Refuses (cause.Missing file))
  HasFile : (bytes : List ℕ) (o : Outcome) → Holds held file (Some bytes) → FromSource OfProgram bytes o → FromFile held file OfProgram o

-- what `run` comes to, its words read
abbrev pub FromRun : Option (List Entry) → RunWords → Outcome → Type 0
FromRun held c o = FromFile held c.file (FromProgram held c) o

-- The image of the kernel of this name: no kernel has the name; a lane of the kernel may need too large a frame, or else its code may take
-- too many words, with the place of the kernel's name; or the words of an image of the kernel are printed.
pub data FromEntry (entry : List ℕ) (program : List FunctionNode) : Outcome → Type 0 where
  NoKernel : kernel_from 0 entry program ≡ None → FromEntry entry program (Refuses (cause.Launch 0 launch.NoEntry))
  ManySlots : (number : ℕ) (pos : Pos) (slots : ℕ) → StandsAt program entry number pos → HasManySlots program number slots →
      FromEntry entry program (Refuses (cause.Source pos (source.Slots slots)))
  ManyWords : (number : ℕ) (pos : Pos) (words : ℕ) → StandsAt program entry number pos → HasManyWords program number words →
      FromEntry entry program (Refuses (cause.Source pos (source.Words words)))
  HasImage : (image : Image) → IsSmallNamed program entry → IsImageNamed program entry image → FromEntry entry program (Gives (built image))

-- why an assembly text is refused, and a text of words; want of memory is no refusal of a text
abbrev pub asm_cause : AsmFault → Cause
asm_cause (asm.Syntax pos) = cause.Source pos source.Syntax
asm_cause (asm.Range pos) = cause.Source pos source.Range
asm_cause (asm.NoLabel pos) = cause.Source pos source.NoLabel
asm_cause (asm.LabelTwice pos) = cause.Source pos source.LabelTwice
asm_cause (asm.TooLarge pos words) = cause.Source pos (source.Words words)
asm_cause asm.Memory = cause.Memory

abbrev pub hex_cause : HexFault → Cause
hex_cause (hex.Syntax pos) = cause.Source pos source.Syntax
hex_cause (hex.TooLarge pos words) = cause.Source pos (source.Words words)
hex_cause hex.Memory = cause.Memory

-- an assembly text's words are printed, and those of a text of words as an assembly text
abbrev pub assembly_outcome : Result (List ℕ) AsmFault → Outcome
assembly_outcome (Ok words) = Prints (hex_lines words)
assembly_outcome (Err fault) = Refuses (asm_cause fault)

abbrev pub disassembly_outcome : Result (List ℕ) HexFault → Outcome
disassembly_outcome (Ok words) = Prints (lines_text words)
disassembly_outcome (Err fault) = Refuses (hex_cause fault)

abbrev pub assembly_text_outcome : List ℕ → Outcome
assembly_text_outcome bytes = assembly_outcome (assembled bytes)

abbrev pub word_text_outcome : List ℕ → Outcome
word_text_outcome bytes = disassembly_outcome (hex_words_of bytes)

-- the bytes of a text: they are few enough, and then the text has a fault or is told in its other form
pub data FromBytes (limit : ℕ) (outcome : List ℕ → Outcome) (bytes : List ℕ) : Outcome → Type 0 where
  TooLong : limit < length bytes → FromBytes limit outcome bytes (Refuses (cause.Source first_place source.TooLong))
  BadText : (pos : Pos) (kind : SourceKind) → length bytes ≤ limit → outcome bytes ≡ Refuses (cause.Source pos kind) → FromBytes limit outcome bytes (Refuses (cause.Source pos kind))
  GoodText : (text : List ℕ) → length bytes ≤ limit → outcome bytes ≡ Prints text → FromBytes limit outcome bytes (Prints text)

-- a text's file: it is there
pub data FromText (held : Option (List Entry)) (file : List ℕ) (limit : ℕ) (outcome : List ℕ → Outcome) : Outcome → Type 0 where
  NoText : Holds held file None → FromText held file limit outcome (Refuses (cause.Missing file))
  HasText : (bytes : List ℕ) (o : Outcome) → Holds held file (Some bytes) → FromBytes limit outcome bytes o → FromText held file limit outcome o

-- the most bytes of an assembly text, and of a text of words
abbrev pub most_assembly : ℕ
most_assembly = 2097152

abbrev pub most_word_text : ℕ
most_word_text = 1048576

-- what a command comes to
abbrev pub FromCommand : Option (List Entry) → Command → Outcome → Type 0
FromCommand held (Run c) o = FromRun held c o
FromCommand held (Build file entry) o = FromFile held file (FromEntry entry) o
FromCommand held (Asm file) o = FromText held file most_assembly assembly_text_outcome o
FromCommand held (Dis file) o = FromText held file most_word_text word_text_outcome o

-- What a call with these words over these files comes to, where no read fails: first by its words, and then by what they
-- ask for. `run` comes to what the kernel's file, its text, the entry, the buffers in order, the arguments and the run
-- say; `build` to what the kernel's file, its text and the entry say; `asm` and `dis` to what their file and its text say.
pub data FromWords (held : Option (List Entry)) (words : List (List ℕ)) : Outcome → Type 0 where
  WrongWords : (word : ℕ) (kind : UsageKind) → IsUsage words word kind → FromWords held words (Refuses (cause.Usage word kind))
  RightWords : (c : Command) (o : Outcome) → IsCommand words c → FromCommand held c o → FromWords held words o
