-- From stage to stage of a call.
use Rattle.std.proofs.Common.{◌≡◌, ◌⊎◌, ℕ, zero, suc, ◌≤◌, ◌<◌, min, List, [], ◌∷◌, length, get_or, map, Some, refl, ap, sym, ◌∙◌, subst, arith, Ok, Err, length-take, inl, inr}
use Rattle.std.specs.Prelude.{Option, Result, IfErr, IfOk, slice_get}
use Rattle.std.proofs.lemmas.List.{take_all}
use Rattle.std.specs.List.{AllByRecursion}
use Rattle.std.proofs.lemmas.List.Elements.{All-from_recursion}
use Rattle.vx_world.specs.Counts.{Rose}
use Rattle.vx_world.specs.declared.reading.Entry.{Entry}
use Rattle.vx_run.specs.declared.report.Cause.TheVariants.{Source, Launch, ReadFault, Missing}
use Rattle.item_acts.specs.Tame.{LaunchLeaves}
use Rattle.first_kernels.specs.First.{launch_of}
use Rattle.vx_run.specs.Output.{output_text}
use Rattle.vx_run.specs.declared.stages.Stop.{Stop}
use Rattle.vx_run.specs.declared.stages.Stop.TheVariants as stop
use Rattle.vx_words.specs.declared.run_words.BufWord.{BufWord}
use Rattle.vx_words.specs.declared.run_words.RunWords.{RunWords}
use Rattle.vx_words.specs.declared.usage.UsageFault.{UsageFault}
use Rattle.vx_words.specs.declared.usage.UsageFault.TheVariants as usage
use Rattle.first_kernels.specs.FirstForms.{form_from, IsFit}
use Rattle.first_kernels.specs.declared.tree.Kernel.{Kernel}
use Rattle.first_kernels.specs.FirstTree.{Form, form_of}
use Rattle.first_kernels.specs.FirstValues.{IsLaunchable}
use Rattle.first_kernels.proofs.FirstSourceLaws.{has_form, source_leaves}
use Rattle.ocl_program.specs.Nodes.{FunctionNode}
use Rattle.ocl_program.specs.Shapes.{function_node}
use Rattle.ocl_program.specs.declared.functions.TypedFunction.{TypedFunction}
use Rattle.ocl_types.specs.Functions.{kernel_from}
use Rattle.vx_base.specs.declared.types.Pos.{Pos}
use Rattle.vx_cc.specs.Faults.{first_place, fault_at, no_memory}
use Rattle.vx_cc.specs.Fronts.{FrontOf}
use Rattle.vx_cc.specs.declared.faults.SourceFault.{SourceFault}
use Rattle.vx_cc.specs.declared.faults.SourceKind.{SourceKind}
use Rattle.vx_words.specs.Words.{IsRun, AreNumbersOf}
use Rattle.vx_words.specs.declared.command.Command.{Command}
use Rattle.vx_words.specs.declared.command.Command.TheVariants.{Run, Build, Asm, Dis}
use Rattle.vx_words.specs.declared.usage.UsageKind.{UsageKind}
use Rattle.vx_words.specs.Commands as commands
use Rattle.vx_words.specs.Commands.{IsCommand, IsUsage}
use Rattle.vx_words.proofs.OneReading.{command_usage}
use Rattle.vx_run.specs.Answers as answers
use Rattle.vx_run.specs.declared.stages.Answer.{Answer}
use Rattle.vx_run.specs.Answers.{Outcome, Refuses, Gives, Prints, Chosen, bytes_in, most_source, IsKernelOf, FromArguments, WrongArguments, Runs, FromBuffers, FromKernel, HasForm, FromProgram, HasEntry, FromSource, LongSource, BadSource, HasProgram, FromFile, NoFile, HasFile, FromRun, FromWords, WrongWords}
use Rattle.vx_run.specs.Stages.{StopsAt, ComesTo, HasKernel, IsNoKernel, IsNoKernelOf, SourceHasKernel, StageFaults, StageMisses, StopFaults, StopMisses, ReadsFront, StopsReading, IsRunnable, IsRunnableCommand, IsNoEntry, IsNoProgram, IsNotBuilt, IsPlain, IsSourceFault, IsWrongCount, StopsFor, StopsForSource, ReadsBehind}
use Rattle.vx_run.proofs.LoadingLaws.{StopsAt-map}

-- what comes of one stage comes of the one before it
pub ComesTo-map : (P Q : Outcome → Type 0) → ((o : Outcome) → P o → Q o) → (r : Result Answer Stop) → ComesTo P r → ComesTo Q r
ComesTo-map P Q f (Ok answer) h = f (Gives answer) h
ComesTo-map P Q f (Err s) h = StopsAt-map P Q f s h

-- a count that rose after some time rose in all
pub rose_after : (before between now : ℕ) → before ≤ between → Rose between now → Rose before now
rose_after before between now e r = omega (arith, e, r)

-- a stage that reads no file leaves the counts
pub plain_faults : (before now : ℕ) (r : Result Answer Stop) → IfErr r IsPlain → before ≤ now → StageFaults r before now
plain_faults before now (Ok text) h e = e
plain_faults before now (Err (stop.Refused (ReadFault faults))) h e = absurd h
plain_faults before now (Err (stop.Refused c)) h e = e
plain_faults before now (Err stop.Memory) h e = e

pub plain_misses : (before now : ℕ) (r : Result Answer Stop) → IfErr r IsPlain → before ≤ now → StageMisses r before now
plain_misses before now (Ok text) h e = e
plain_misses before now (Err (stop.Refused (Missing name))) h e = absurd h
plain_misses before now (Err (stop.Refused c)) h e = e
plain_misses before now (Err stop.Memory) h e = e

-- what a stage says of the counts holds from an earlier time on
pub faults_before : (before between now : ℕ) (s : Stop) → before ≤ between → StopFaults s between now → StopFaults s before now
faults_before before between now (stop.Refused (ReadFault faults)) e h = rose_after before between now e h
faults_before before between now (stop.Refused c) e h = omega (arith, e, h)
faults_before before between now stop.Memory e h = omega (arith, e, h)

pub misses_before : (before between now : ℕ) (s : Stop) → before ≤ between → StopMisses s between now → StopMisses s before now
misses_before before between now (stop.Refused (Missing name)) e h = rose_after before between now e h
misses_before before between now (stop.Refused c) e h = omega (arith, e, h)
misses_before before between now stop.Memory e h = omega (arith, e, h)

-- what stops the read of the kernel's file stops the call
pub unread_file : (held : Option (List Entry)) (file : List ℕ) (OfProgram : List FunctionNode → Outcome → Type 0) (s : Stop) → StopsReading held file s → StopsAt (FromFile held file OfProgram) s
unread_file held file OfProgram (stop.Refused (Missing missing)) h = subst (λ m. FromFile held file OfProgram (Refuses (Missing m))) (sym h.0) (NoFile h.1)
unread_file held file OfProgram (stop.Refused (ReadFault faults)) h = h
unread_file held file OfProgram (stop.Refused other) h = absurd h
unread_file held file OfProgram stop.Memory h = tt

-- a file that is short enough was read whole
whole_is_front : (held : Option (List Entry)) (name bytes : List ℕ) (front : ReadsFront held name 1048577 bytes) → length front.whole ≤ 1048576 → front.whole ≡ bytes
whole_is_front held name bytes front short = sym (take_all 1048577 front.whole (omega (arith, short))) ∙ front.front

-- the front is all of it where it is short enough
front_is_whole : (held : Option (List Entry)) (name bytes : List ℕ) (front : ReadsFront held name 1048577 bytes) → length bytes ≤ 1048576 → length front.whole ≤ 1048576
front_is_whole held name bytes front short =
    let cut : length bytes ≡ min 1048577 (length front.whole) = ap length (sym front.front) ∙ length-take 1048577 front.whole in
    omega (arith, cut, short)

-- more bytes were read than a source may have, so there are more
more_is_more : (held : Option (List Entry)) (name bytes : List ℕ) (front : ReadsFront held name 1048577 bytes) → 1048576 < length bytes → 1048576 < length front.whole
more_is_more held name bytes front long =
    let cut : length bytes ≡ min 1048577 (length front.whole) = ap length (sym front.front) ∙ length-take 1048577 front.whole in
    omega (arith, cut, long)

-- what comes of the front of a file, comes of the file
pub source_comes : (held : Option (List Entry)) (file bytes : List ℕ) (OfProgram : List FunctionNode → Outcome → Type 0) → ReadsFront held file 1048577 bytes →
    (o : Outcome) → FromSource OfProgram bytes o → FromFile held file OfProgram o
source_comes held file bytes OfProgram front o (LongSource long) = HasFile front.whole _ front.holds (LongSource (more_is_more held file bytes front long))
source_comes held file bytes OfProgram front o (BadSource fault few is) =
    HasFile front.whole _ front.holds (subst (λ x. FromSource OfProgram x _) (sym (whole_is_front held file bytes front (front_is_whole held file bytes front few))) (BadSource fault few is))
source_comes held file bytes OfProgram front o (HasProgram program q few is h) =
    HasFile front.whole _ front.holds (subst (λ x. FromSource OfProgram x _) (sym (whole_is_front held file bytes front (front_is_whole held file bytes front few))) (HasProgram program _ few is h))

-- a source that has a fault is refused for it
source_refused : (OfProgram : List FunctionNode → Outcome → Type 0) (bytes : List ℕ) (pos : Pos) (kind : SourceKind) → IsSourceFault bytes pos kind → FromSource OfProgram bytes (Refuses (Source pos kind))
source_refused OfProgram bytes pos kind (inl long) =
    subst (λ p. FromSource OfProgram bytes (Refuses (Source p kind))) (sym long.1) (subst (λ x. FromSource OfProgram bytes (Refuses (Source first_place x))) (sym long.2) (LongSource long.0))
source_refused OfProgram bytes pos kind (inr bad) = BadSource (fault_at pos kind) bad.0 bad.1

-- bytes that have no program stop the call
pub no_program_stops : (OfProgram : List FunctionNode → Outcome → Type 0) (bytes : List ℕ) (s : Stop) → IsNoProgram bytes s → StopsAt (FromSource OfProgram bytes) s
no_program_stops OfProgram bytes (stop.Refused (Source pos kind)) h = source_refused OfProgram bytes pos kind h
no_program_stops OfProgram bytes (stop.Refused (ReadFault faults)) h = absurd h
no_program_stops OfProgram bytes (stop.Refused other) h = absurd h
no_program_stops OfProgram bytes stop.Memory h = tt

-- a name that no kernel has stops the call
entry_stops : (held : Option (List Entry)) (c : RunWords) (program : List FunctionNode) (s : Stop) → IsNoEntry program c.entry s → StopsAt (FromProgram held c program) s
entry_stops held c program (stop.Refused (Launch index kind)) h = rw (h.1, h.2) (answers.NoEntry h.0)
entry_stops held c program (stop.Refused (ReadFault faults)) h = absurd h
entry_stops held c program (stop.Refused other) h = absurd h
entry_stops held c program stop.Memory h = absurd h

-- a kernel without a form stops the call
form_stops : (held : Option (List Entry)) (c : RunWords) (k : Chosen) (s : Stop) → IsNotBuilt k.kernel s → StopsAt (FromKernel held c k) s
form_stops held c k (stop.Refused (Launch index kind)) h = rw (h.1, h.2) (answers.NotBuilt h.0)
form_stops held c k (stop.Refused (ReadFault faults)) h = absurd h
form_stops held c k (stop.Refused other) h = absurd h
form_stops held c k stop.Memory h = tt

-- a program without such a kernel stops the call
kernel_stops : (held : Option (List Entry)) (c : RunWords) (program : List FunctionNode) (s : Stop) → IsNoKernel program c.entry s → StopsAt (FromProgram held c program) s
kernel_stops held c program s (inl none) = entry_stops held c program s none
kernel_stops held c program s (inr unbuilt) =
    StopsAt-map (FromKernel held c (record { program = program; kernel = unbuilt.0 })) (FromProgram held c program) (λ o h. HasEntry unbuilt.0 o unbuilt.1 h) s (form_stops held c (record { program = program; kernel = unbuilt.0 }) s unbuilt.2)

-- a file without such a kernel stops the call
pub source_stops : (held : Option (List Entry)) (c : RunWords) (bytes : List ℕ) → ReadsFront held c.file 1048577 bytes → (s : Stop) → IsNoKernelOf bytes c.entry s → StopsAt (FromRun held c) s
source_stops held c bytes front s (inl none) =
    StopsAt-map (FromSource (FromProgram held c) bytes) (FromRun held c) (source_comes held c.file bytes (FromProgram held c) front) s (no_program_stops (FromProgram held c) bytes s none)
source_stops held c bytes front s (inr bad) =
    StopsAt-map (FromProgram held c bad.0) (FromRun held c) (λ o h. source_comes held c.file bytes (FromProgram held c) front o (HasProgram bad.0 o bad.1 bad.2 h)) s (kernel_stops held c bad.0 s bad.3)

-- the kernel of a file, and the program that it is of
abbrev pub chosen_of : (bytes name : List ℕ) (form : Form) → SourceHasKernel bytes name form → Chosen
chosen_of bytes name form h = record { program = h.program; kernel = h.has.function }

-- what comes of the buffers comes of the file
pub buffers_come : (held : Option (List Entry)) (c : RunWords) (bytes : List ℕ) (form : Form) → ReadsFront held c.file 1048577 bytes → (h : SourceHasKernel bytes c.entry form) →
    (o : Outcome) → FromBuffers held c (chosen_of bytes c.entry form h) 0 c.buffers [] o → FromRun held c o
buffers_come held c bytes form front h o rest =
    source_comes held c.file bytes (FromProgram held c) front o (HasProgram h.program o h.few h.front (HasEntry h.has.function o h.has.named (HasForm form o h.has.formed rest)))

-- what is known of numbers of buffers
numbers_below : (buffers : List BufWord) (ns : List ℕ) (names : List (List ℕ)) → AreNumbersOf buffers ns names → AllByRecursion (λ b. b < length buffers) ns
numbers_below buffers [] [] h = tt
numbers_below buffers (n ∷ ns) (name ∷ names) h = (h.0, numbers_below buffers ns names h.2)
numbers_below buffers [] (name ∷ names) h = absurd h
numbers_below buffers (n ∷ ns) [] h = absurd h

-- words that are read can be run
pub runnable : (words : List (List ℕ)) (c : RunWords) → IsRun words c → IsRunnable c
runnable words c h = record {
  arguments = All-from_recursion (λ b. b < length c.buffers) c.arguments (numbers_below c.buffers c.arguments h.names h.arguments);
  shows = All-from_recursion (λ b. b < length c.buffers) c.shows (numbers_below c.buffers c.shows _ h.shows);
  origins = λ k d below. (h.buffer_names k d below).1;
  few_buffers = h.few_buffers;
  items_some = h.items_some;
  items_few = h.items_few;
}

-- a command that is read can be carried out
pub runnable_command : (words : List (List ℕ)) (c : Command) → IsCommand words c → IsRunnableCommand c
runnable_command words (Run c) (commands.Runs d h) = runnable words c h
runnable_command words (Build file entry) h = tt
runnable_command words (Asm file) h = tt
runnable_command words (Dis file) h = tt

-- words that are not read are refused
pub usage_stops : (held : Option (List Entry)) (words : List (List ℕ)) (fault : UsageFault) (s : Stop) →
    ((word : ℕ) (kind : UsageKind) → fault ≡ usage.Usage word kind → IsUsage words word kind) → StopsFor fault s → StopsAt (FromWords held words) s
usage_stops held words (usage.Usage word kind) s refused is = subst (StopsAt (FromWords held words)) (sym is) (WrongWords word kind (refused word kind refl))
usage_stops held words usage.Memory s refused is = subst (StopsAt (FromWords held words)) (sym is) tt

-- the words of a command are not refused
reads_command : (words : List (List ℕ)) (c : Command) → IsCommand words c → (s : Stop) → ReadsBehind words s
reads_command words c is (stop.Refused (ReadFault faults)) = λ word kind wrong. command_usage words c word kind is wrong
reads_command words c is (stop.Refused other) = tt
reads_command words c is stop.Memory = tt

pub command_reads : (words : List (List ℕ)) (c : Command) → IsCommand words c → (r : Result Answer Stop) → IfErr r (ReadsBehind words)
command_reads words c is (Ok text) = tt
command_reads words c is (Err s) = reads_command words c is s

-- words that are refused stop the call for no read
pub reads_nothing : (words : List (List ℕ)) (fault : UsageFault) (s : Stop) → StopsFor fault s → ReadsBehind words s
reads_nothing words (usage.Usage word kind) s is = subst (ReadsBehind words) (sym is) tt
reads_nothing words usage.Memory s is = subst (ReadsBehind words) (sym is) tt

-- another number of arguments stops the call
pub count_stops : (c : RunWords) (k : Chosen) (contents : List (List ℕ)) (wanted : ℕ) (s : Stop) → wanted ≡ length k.kernel.params → IsWrongCount (length c.arguments) wanted s →
    StopsAt (FromArguments c k contents) s
count_stops c k contents wanted (stop.Refused (Launch index kind)) same h =
    rw (h.1, h.2, same) (WrongArguments (λ e. h.0 (e ∙ sym same)))
count_stops c k contents wanted (stop.Refused (ReadFault faults)) same h = absurd h
count_stops c k contents wanted (stop.Refused other) same h = absurd h
count_stops c k contents wanted stop.Memory same h = absurd h

-- what a launch of the form leaves, the launch of the kernel leaves, and it is printed
pub launch_prints : (c : RunWords) (k : Chosen) (form : Form) (contents : List (List ℕ)) (text : List ℕ) → form_from k.kernel ≡ Some form → IsLaunchable form c.arguments c.items (length c.buffers) →
    ((left : ℕ → ℕ → ℕ) × LaunchLeaves (launch_of form c.arguments c.items (length c.buffers)) (bytes_in contents) left × (text ≡ output_text c left)) →
    FromArguments c k contents (Prints text)
launch_prints c k form contents text formed launchable h =
    let parameters : form.parameters ≡ length k.kernel.params = (has_form k.kernel form formed).parameters in
    let same : length c.arguments ≡ length k.kernel.params = sym launchable.enough ∙ parameters in
    subst (λ t. FromArguments c k contents (Prints t)) (sym h.2)
    (Runs same h.0 (source_leaves k.program k.kernel form c.arguments c.items (length c.buffers) (bytes_in contents) h.0 formed launchable h.1))

-- a kernel of a form may be launched over the buffers of the words
pub launchable_form : (c : RunWords) (form : Form) → IsRunnable c → IsFit form → length c.arguments ≡ form.parameters → IsLaunchable form c.arguments c.items (length c.buffers)
launchable_form c form words fit same = record {
  enough = sym same;
  within = words.arguments;
  assignments = fit.assignments;
  items_some = words.items_some;
  items_few = words.items_few;
}

-- the function with a number, by its node
node_at : (fs : List TypedFunction) (n : ℕ) (f : TypedFunction) → n < length fs → f ≡ get_or fs n f → slice_get (map function_node fs) n ≡ Some (function_node f)
node_at [] n f below is = absurd (omega arith)
node_at (g ∷ fs) zero f below is = ap (λ (x : TypedFunction). Some (function_node x)) (sym is)
node_at (g ∷ fs) (suc n) f below is = node_at fs n f (omega (arith, below)) is

-- the kernel with a number that its name has is the kernel of the name
pub kernel_named : (fs : List TypedFunction) (name : List ℕ) (n : ℕ) (f : TypedFunction) → kernel_from 0 name (map function_node fs) ≡ Some n → n < length fs →
    f ≡ get_or fs n f → IsKernelOf (map function_node fs) name (function_node f)
kernel_named fs name n f found below is = record { number = n; found = found; is = node_at fs n f below is }

-- a form of the kernel of a name is one of its program
pub with_kernel : (program : List FunctionNode) (name : List ℕ) (f : FunctionNode) → IsKernelOf program name f → (r : Result Kernel Stop) →
    IfOk r (λ kernel. form_from f ≡ Some (form_of kernel)) → IfOk r (λ kernel. HasKernel program name (form_of kernel))
with_kernel program name f named (Ok kernel) formed = record { function = f; named = named; formed = formed }
with_kernel program name f named (Err s) formed = tt

-- without a form of that kernel there is none
pub without_form : (program : List FunctionNode) (name : List ℕ) (f : FunctionNode) → IsKernelOf program name f → (r : Result Kernel Stop) →
    IfErr r (IsNotBuilt f) → IfErr r (IsNoKernel program name)
without_form program name f named (Ok kernel) none = tt
without_form program name f named (Err s) none = inr (f, named, none)

-- a kernel of the program of a file is one of the file
pub with_source : (bytes name : List ℕ) (program : List FunctionNode) → length bytes ≤ most_source → FrontOf bytes (Ok program) → (r : Result Kernel Stop) →
    IfOk r (λ kernel. HasKernel program name (form_of kernel)) → IfOk r (λ kernel. SourceHasKernel bytes name (form_of kernel))
with_source bytes name program few front (Ok kernel) has = record { few = few; program = program; front = front; has = has }
with_source bytes name program few front (Err s) has = tt

pub without_kernel : (bytes name : List ℕ) (program : List FunctionNode) → length bytes ≤ most_source → FrontOf bytes (Ok program) → (r : Result Kernel Stop) →
    IfErr r (IsNoKernel program name) → IfErr r (IsNoKernelOf bytes name)
without_kernel bytes name program few front (Ok kernel) none = tt
without_kernel bytes name program few front (Err s) none = inr (program, few, front, none)

-- a source that has a fault stops the call for it, or for want of memory
pub fault_stops : (bytes : List ℕ) (fault : SourceFault) (s : Stop) → length bytes ≤ most_source → (fault ≡ no_memory) ⊎ FrontOf bytes (Err fault) → StopsForSource fault s → IsNoProgram bytes s
fault_stops bytes fault (stop.Refused (Source pos kind)) few (inl none) h = absurd (h.1 (ap (λ (f : SourceFault). f.kind) (sym h.0 ∙ none)))
fault_stops bytes fault (stop.Refused (Source pos kind)) few (inr is) h = inr (few, subst (λ (f : SourceFault). FrontOf bytes (Err f)) h.0 is)
fault_stops bytes fault (stop.Refused (ReadFault faults)) few is h = absurd h
fault_stops bytes fault (stop.Refused other) few is h = absurd h
fault_stops bytes fault stop.Memory few is h = tt
