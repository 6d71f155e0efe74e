-- A call whose files tell what they have comes to one refusal at most, or only to answers.
use Rattle.std.proofs.Common.{◌≡◌, ℕ, suc, ◌*◌, List, [], ◌∷◌, ◌++◌, length, Some, refl, ap, sym, ◌∙◌, subst, arith}
use Rattle.std.specs.Prelude.{Option, None, Result, Ok, Err, slice_get}
use Rattle.vx_world.specs.declared.reading.Entry.{Entry}
use Rattle.vx_world.specs.Reading.{bytes_named}
use Rattle.vx_run.specs.declared.report.BufferKind.TheVariants as buffer
use Rattle.vx_run.specs.declared.report.Cause.{Cause}
use Rattle.vx_run.specs.declared.report.Cause.TheVariants as cause
use Rattle.vx_words.specs.declared.run_words.BufFrom.{BufFrom}
use Rattle.vx_words.specs.declared.run_words.BufFrom.TheVariants.{File, Zero}
use Rattle.vx_words.specs.declared.run_words.BufWord.{BufWord}
use Rattle.vx_words.specs.declared.run_words.RunWords.{RunWords}
use Rattle.vx_words.specs.declared.usage.UsageKind.{UsageKind}
use Rattle.first_kernels.specs.FirstForms.{form_from}
use Rattle.ocl_program.specs.Nodes.{FunctionNode}
use Rattle.ocl_types.specs.Functions.{kernel_from}
use Rattle.vx_cc.specs.declared.faults.SourceFault.{SourceFault}
use Rattle.vx_cc.proofs.OneFront.{one_front}
use Rattle.vx_words.specs.declared.command.Command.{Command}
use Rattle.vx_words.specs.declared.command.Command.TheVariants.{Run, Build, Asm, Dis}
use Rattle.vx_run.specs.Answers.{Chosen, Outcome, Refuses, Gives, Prints, Brings, counted_bytes, FromArguments, WrongArguments, Runs, FromBuffers, NoBuffers, NoBufferFile, WrongLength, NextBuffer, IsKernelOf, FromKernel, NotBuilt, HasForm, FromProgram, NoEntry, HasEntry, FromSource, LongSource, BadSource, HasProgram, FromFile, NoFile, HasFile, FromRun, FromEntry, FromBytes, TooLong, BadText, GoodText, FromText, NoText, HasText, FromCommand, most_assembly, most_word_text, FromWords, WrongWords, RightWords}
use Rattle.vx_words.specs.Commands.{IsUsage}
use Rattle.vx_words.proofs.OneReading.{command_same, command_usage, usage_same}
use Rattle.vx_run.proofs.Answerable.{Agree, of_text}
use Rattle.vx_run.proofs.ImageLaws.{one_entry, some_none, some_same}

-- a name is of one kernel
one_kernel : (program : List FunctionNode) (name : List ℕ) (f g : FunctionNode) → IsKernelOf program name f → IsKernelOf program name g → f ≡ g
one_kernel program name f g h h' =
    let number : h.number ≡ h'.number = some_same (kernel_from 0 name program) h.number h'.number h.found h'.found in
    some_same (slice_get program h'.number) f g (subst (λ n. slice_get program n ≡ Some f) number h.is) h'.is

same_usage : (word other : ℕ) (kind kind' : UsageKind) → (word ≡ other) × (kind ≡ kind') → cause.Usage word kind ≡ cause.Usage other kind'
same_usage word other kind kind' h = ap (λ (w : ℕ). cause.Usage w kind) h.0 ∙ ap (λ (k : UsageKind). cause.Usage other k) h.1

-- two results of one value
errors_same : (fault fault' : SourceFault) → ◌≡◌ {A = Result (List FunctionNode) SourceFault} (Err fault) (Err fault') → fault ≡ fault'
errors_same fault fault' e = cc

pub oks_same : (program program' : List FunctionNode) → ◌≡◌ {A = Result (List FunctionNode) SourceFault} (Ok program) (Ok program') → program ≡ program'
oks_same program program' e = cc

pub error_ok : (fault : SourceFault) (program : List FunctionNode) → ◌≡◌ {A = Result (List FunctionNode) SourceFault} (Err fault) (Ok program) → ⊥
error_ok fault program e = absurd cc

module _ (entries : List Entry) where
  abbrev told : Option (List Entry)
  told = Some entries

  -- a buffer's bytes are one list
  one_content : (from : BufFrom) (bytes other : List ℕ) → Brings told from bytes → Brings told from other → bytes ≡ other
  one_content (File path) bytes other h h' = some_same (bytes_named entries path) bytes other h h'
  one_content (Zero count) bytes other h h' = h ∙ sym h'

  -- a file that is not there brings nothing
  brings_none : (from : BufFrom) (path bytes : List ℕ) → from ≡ File path → bytes_named entries path ≡ None → Brings told from bytes → ⊥
  brings_none from path bytes e none h =
      let there : Brings told (File path) bytes = subst (λ f. Brings told f bytes) e h in
      some_none (bytes_named entries path) bytes there none

  one_path : (from : BufFrom) (path other : List ℕ) → from ≡ File path → from ≡ File other → path ≡ other
  one_path from path other e f = cc

  one_arguments : (c : RunWords) (k : Chosen) (contents : List (List ℕ)) (o p : Outcome) → FromArguments c k contents o → FromArguments c k contents p → Agree o p
  one_arguments c k contents o p (WrongArguments other) (WrongArguments other') = refl
  one_arguments c k contents o p (WrongArguments other) (Runs same left leaves) = absurd (other same)
  one_arguments c k contents o p (Runs same left leaves) (WrongArguments other) = absurd (other same)
  one_arguments c k contents o p (Runs same left leaves) (Runs same' left' leaves') = tt

  one_buffers : (c : RunWords) (k : Chosen) (index : ℕ) (bs : List BufWord) (contents : List (List ℕ)) (o p : Outcome) →
      FromBuffers told c k index bs contents o → FromBuffers told c k index bs contents p → Agree o p
  one_buffers c k index [] contents o p (NoBuffers i cs q h) (NoBuffers i' cs' q' h') = one_arguments c k contents o p h h'
  one_buffers c k index (b ∷ more) contents o p (NoBufferFile i cs b' more' path e none) (NoBufferFile i' cs' b'' more'' path' e' none') =
      ap cause.Missing (one_path b.from path path' e e')
  one_buffers c k index (b ∷ more) contents o p (NoBufferFile i cs b' more' path e none) (WrongLength i' cs' b'' more'' bytes brings other) =
      absurd (brings_none b.from path bytes e none brings)
  one_buffers c k index (b ∷ more) contents o p (NoBufferFile i cs b' more' path e none) (NextBuffer i' cs' b'' more'' bytes q brings whole rest) =
      absurd (brings_none b.from path bytes e none brings)
  one_buffers c k index (b ∷ more) contents o p (WrongLength i cs b' more' bytes brings other) (NoBufferFile i' cs' b'' more'' path e none) =
      absurd (brings_none b.from path bytes e none brings)
  one_buffers c k index (b ∷ more) contents o p (WrongLength i cs b' more' bytes brings other) (WrongLength i' cs' b'' more'' bytes' brings' other') =
      ap (λ x. cause.Buffer index (buffer.Length (counted_bytes b.from x (4 * c.items)) 4)) (one_content b.from bytes bytes' brings brings')
  one_buffers c k index (b ∷ more) contents o p (WrongLength i cs b' more' bytes brings other) (NextBuffer i' cs' b'' more'' bytes' q brings' whole rest) =
      absurd (other (ap length (one_content b.from bytes bytes' brings brings') ∙ whole))
  one_buffers c k index (b ∷ more) contents o p (NextBuffer i cs b' more' bytes q brings whole rest) (NoBufferFile i' cs' b'' more'' path e none) =
      absurd (brings_none b.from path bytes e none brings)
  one_buffers c k index (b ∷ more) contents o p (NextBuffer i cs b' more' bytes q brings whole rest) (WrongLength i' cs' b'' more'' bytes' brings' other) =
      absurd (other (ap length (one_content b.from bytes' bytes brings' brings) ∙ whole))
  one_buffers c k index (b ∷ more) contents o p (NextBuffer i cs b' more' bytes q brings whole rest) (NextBuffer i' cs' b'' more'' bytes' q' brings' whole' rest') =
      one_buffers c k (suc index) more (contents ++ bytes ∷ []) o p rest
      (subst (λ x. FromBuffers told c k (suc index) more (contents ++ x ∷ []) p) (one_content b.from bytes' bytes brings' brings) rest')

  one_form : (c : RunWords) (k : Chosen) (o p : Outcome) → FromKernel told c k o → FromKernel told c k p → Agree o p
  one_form c k o p (NotBuilt other) (NotBuilt other') = refl
  one_form c k o p (NotBuilt other) (HasForm form q is h) = absurd (some_none (form_from k.kernel) form is other)
  one_form c k o p (HasForm form q is h) (NotBuilt other) = absurd (some_none (form_from k.kernel) form is other)
  one_form c k o p (HasForm form q is h) (HasForm form' q' is' h') = one_buffers c k 0 c.buffers [] o p h h'

  one_program : (c : RunWords) (program : List FunctionNode) (o p : Outcome) → FromProgram told c program o → FromProgram told c program p → Agree o p
  one_program c program o p (NoEntry none) (NoEntry none') = refl
  one_program c program o p (NoEntry none) (HasEntry f q is h) = absurd (some_none (kernel_from 0 c.entry program) is.number is.found none)
  one_program c program o p (HasEntry f q is h) (NoEntry none) = absurd (some_none (kernel_from 0 c.entry program) is.number is.found none)
  one_program c program o p (HasEntry f q is h) (HasEntry f' q' is' h') =
      one_form c (record { program = program; kernel = f }) o p h
      (subst (λ g. FromKernel told c (record { program = program; kernel = g }) p) (one_kernel program c.entry f' f is' is) h')

  module _ (OfProgram : List FunctionNode → Outcome → Type 0) (agree : (program : List FunctionNode) (o p : Outcome) → OfProgram program o → OfProgram program p → Agree o p) where
    one_source : (bytes : List ℕ) (o p : Outcome) → FromSource OfProgram bytes o → FromSource OfProgram bytes p → Agree o p
    one_source bytes o p (LongSource long) (LongSource long') = refl
    one_source bytes o p (LongSource long) (BadSource fault few is) = absurd (omega (arith, long, few))
    one_source bytes o p (LongSource long) (HasProgram program q few is h) = absurd (omega (arith, long, few))
    one_source bytes o p (BadSource fault few is) (LongSource long) = absurd (omega (arith, long, few))
    one_source bytes o p (BadSource fault few is) (BadSource fault' few' is') =
        ap (λ (f : SourceFault). cause.Source f.pos f.kind) (errors_same fault fault' (one_front bytes (Err fault) (Err fault') is is'))
    one_source bytes o p (BadSource fault few is) (HasProgram program q few' is' h) = absurd (error_ok fault program (one_front bytes (Err fault) (Ok program) is is'))
    one_source bytes o p (HasProgram program q few is h) (LongSource long) = absurd (omega (arith, long, few))
    one_source bytes o p (HasProgram program q few is h) (BadSource fault few' is') = absurd (error_ok fault program (one_front bytes (Err fault) (Ok program) is' is))
    one_source bytes o p (HasProgram program q few is h) (HasProgram program' q' few' is' h') =
        agree program o p h (subst (λ x. OfProgram x p) (oks_same program' program (one_front bytes (Ok program') (Ok program) is' is)) h')

    one_file : (file : List ℕ) (o p : Outcome) → FromFile told file OfProgram o → FromFile told file OfProgram p → Agree o p
    one_file file o p (NoFile none) (NoFile none') = refl
    one_file file o p (NoFile none) (HasFile bytes q there h) = absurd (some_none (bytes_named entries file) bytes there none)
    one_file file o p (HasFile bytes q there h) (NoFile none) = absurd (some_none (bytes_named entries file) bytes there none)
    one_file file o p (HasFile bytes q there h) (HasFile bytes' q' there' h') =
        one_source bytes o p h (subst (λ x. FromSource OfProgram x p) (some_same (bytes_named entries file) bytes' bytes there' there) h')

  one_refusal : (o : Outcome) (c d : Cause) → o ≡ Refuses c → o ≡ Refuses d → c ≡ d
  one_refusal o c d e f = cc

  not_both : (o : Outcome) (c : Cause) (text : List ℕ) → o ≡ Refuses c → o ≡ Prints text → ⊥
  not_both o c text e f = cc

  one_bytes : (limit : ℕ) (outcome : List ℕ → Outcome) (bytes : List ℕ) (o p : Outcome) → FromBytes limit outcome bytes o → FromBytes limit outcome bytes p → Agree o p
  one_bytes limit outcome bytes o p (TooLong long) (TooLong long') = refl
  one_bytes limit outcome bytes o p (TooLong long) (BadText pos kind few e) = absurd (omega (arith, long, few))
  one_bytes limit outcome bytes o p (TooLong long) (GoodText text few e) = absurd (omega (arith, long, few))
  one_bytes limit outcome bytes o p (BadText pos kind few e) (TooLong long) = absurd (omega (arith, long, few))
  one_bytes limit outcome bytes o p (BadText pos kind few e) (BadText pos' kind' few' f) = one_refusal (outcome bytes) _ _ e f
  one_bytes limit outcome bytes o p (BadText pos kind few e) (GoodText text few' f) = not_both (outcome bytes) _ _ e f
  one_bytes limit outcome bytes o p (GoodText text few e) (TooLong long) = absurd (omega (arith, long, few))
  one_bytes limit outcome bytes o p (GoodText text few e) (BadText pos kind few' f) = not_both (outcome bytes) _ _ f e
  one_bytes limit outcome bytes o p (GoodText text few e) (GoodText text' few' f) = tt

  one_text : (file : List ℕ) (limit : ℕ) (outcome : List ℕ → Outcome) (o p : Outcome) → FromText told file limit outcome o → FromText told file limit outcome p → Agree o p
  one_text file limit outcome o p (NoText none) (NoText none') = refl
  one_text file limit outcome o p (NoText none) (HasText bytes q there h) = absurd (some_none (bytes_named entries file) bytes there none)
  one_text file limit outcome o p (HasText bytes q there h) (NoText none) = absurd (some_none (bytes_named entries file) bytes there none)
  one_text file limit outcome o p (HasText bytes q there h) (HasText bytes' q' there' h') =
      one_bytes limit outcome bytes o p h (subst (λ x. FromBytes limit outcome x p) (some_same (bytes_named entries file) bytes' bytes there' there) h')

  one_command : (c : Command) (o p : Outcome) → FromCommand told c o → FromCommand told c p → Agree o p
  one_command (Run c) o p h h' = one_file (FromProgram told c) (one_program c) c.file o p h h'
  one_command (Build file entry) o p h h' = one_file (FromEntry entry) (one_entry entry) file o p h h'
  one_command (Asm file) o p h h' = one_text file most_assembly _ o p h h'
  one_command (Dis file) o p h h' = one_text file most_word_text _ o p h h'

  -- two outcomes of one call agree
  pub one_outcome : (words : List (List ℕ)) (o p : Outcome) → FromWords told words o → FromWords told words p → Agree o p
  one_outcome words o p (WrongWords word kind is) (WrongWords word' kind' is') = same_usage word word' kind kind' (usage_same words word word' kind kind' is is')
  one_outcome words o p (WrongWords word kind is) (RightWords c q is' h) = absurd (command_usage words c word kind is' is)
  one_outcome words o p (RightWords c q is h) (WrongWords word kind is') = absurd (command_usage words c word kind is is')
  one_outcome words o p (RightWords c q is h) (RightWords c' q' is' h') =
      one_command c o p h (subst (λ x. FromCommand told x p) (command_same words c' c is' is) h')

-- no stage behind the words refuses them
module _ (held : Option (List Entry)) (word : ℕ) (kind : UsageKind) where
  no_usage_buffers : (c : RunWords) (k : Chosen) (index : ℕ) (bs : List BufWord) (contents : List (List ℕ)) → FromBuffers held c k index bs contents (Refuses (cause.Usage word kind)) → ⊥
  no_usage_buffers c k index [] contents (NoBuffers i cs q h) = elim h [ ]
  no_usage_buffers c k index (b ∷ more) contents (NextBuffer i cs b' more' bytes q brings whole rest) = no_usage_buffers c k (suc index) more (contents ++ bytes ∷ []) rest

  no_usage_kernel : (c : RunWords) (k : Chosen) → FromKernel held c k (Refuses (cause.Usage word kind)) → ⊥
  no_usage_kernel c k (HasForm form q is h) = no_usage_buffers c k 0 c.buffers [] h

  no_usage_program : (c : RunWords) (program : List FunctionNode) → FromProgram held c program (Refuses (cause.Usage word kind)) → ⊥
  no_usage_program c program (HasEntry f q is h) = no_usage_kernel c (record { program = program; kernel = f }) h

  no_usage_entry : (entry : List ℕ) (program : List FunctionNode) → FromEntry entry program (Refuses (cause.Usage word kind)) → ⊥
  no_usage_entry entry program h = elim h [ ]

  module _ (OfProgram : List FunctionNode → Outcome → Type 0) (no_usage : (program : List FunctionNode) → OfProgram program (Refuses (cause.Usage word kind)) → ⊥) where
    no_usage_source : (bytes : List ℕ) → FromSource OfProgram bytes (Refuses (cause.Usage word kind)) → ⊥
    no_usage_source bytes (HasProgram program q few is h) = no_usage program h

    no_usage_file : (file : List ℕ) → FromFile held file OfProgram (Refuses (cause.Usage word kind)) → ⊥
    no_usage_file file (HasFile bytes q there h) = no_usage_source bytes h

  no_usage_command : (c : Command) → FromCommand held c (Refuses (cause.Usage word kind)) → ⊥
  no_usage_command (Run c) h = no_usage_file (FromProgram held c) (no_usage_program c) c.file h
  no_usage_command (Build file entry) h = no_usage_file (FromEntry entry) (no_usage_entry entry) file h
  no_usage_command (Asm file) h = of_text held file most_assembly _ _ h
  no_usage_command (Dis file) h = of_text held file most_word_text _ _ h

-- a call that is refused for its words has such words
pub refused_words : (held : Option (List Entry)) (words : List (List ℕ)) (word : ℕ) (kind : UsageKind) → FromWords held words (Refuses (cause.Usage word kind)) → IsUsage words word kind
refused_words held words word kind (WrongWords w k is) = is
refused_words held words word kind (RightWords c q is h) = absurd (no_usage_command held word kind c h)

-- refused words come to nothing else, whatever the files tell
pub one_usage : (held : Option (List Entry)) (words : List (List ℕ)) (word : ℕ) (kind : UsageKind) (o : Outcome) → FromWords held words (Refuses (cause.Usage word kind)) → FromWords held words o →
    Agree (Refuses (cause.Usage word kind)) o
one_usage held words word kind o (WrongWords w k is) (WrongWords word' kind' is') = same_usage word word' kind kind' (usage_same words word word' kind kind' is is')
one_usage held words word kind o (WrongWords w k is) (RightWords c q is' h) = absurd (command_usage words c word kind is' is)
one_usage held words word kind o (RightWords c q is h) h' = absurd (no_usage_command held word kind c h)
