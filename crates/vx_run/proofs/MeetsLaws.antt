-- What a call meets, by what is known of its end.
use Rattle.std.proofs.Common.{◌≡◌, ℕ, suc, ◌⊎◌, ◌∷◌, inl, inr, List, [], ◌++◌, Some, refl, ap, sym, ◌∙◌, subst, append-nil}
use Rattle.std.specs.Prelude.{Option, None}
use Rattle.vx_world.specs.Counts.{Rose}
use Rattle.vx_world.specs.Writing.{Appends}
use Rattle.vx_world.specs.declared.reading.Entry.{Entry}
use Rattle.vx_words.specs.declared.run_words.BufWord.{BufWord}
use Rattle.vx_words.specs.declared.run_words.RunWords.{RunWords}
use Rattle.ocl_program.specs.Nodes.{FunctionNode}
use Rattle.vx_run.specs.declared.report.Cause.{Cause}
use Rattle.vx_run.specs.declared.report.Cause.TheVariants.{Done, Usage, Source, Launch, Buffer, Trap, Stuck, Turns, ReadFault, WriteFault, Memory, Missing}
use Rattle.vx_run.specs.declared.report.Report.{Report}
use Rattle.vx_run.specs.declared.report.Activity.{Activity}
use Rattle.vx_run.specs.declared.stages.Answer.{Answer}
use Rattle.vx_run.specs.Answers.{Chosen, Outcome, Refuses, Gives, idle, refusal, FromWords, FromFile, FromSource, FromEntry, FromProgram, FromKernel, FromBuffers, FromArguments, WrongWords, RightWords, most_assembly, most_word_text, NoFile, HasFile, LongSource, BadSource, HasProgram, NoEntry, HasEntry, NotBuilt, HasForm, NoBuffers, NoBufferFile, WrongLength, NextBuffer, WrongArguments, Runs}
use Rattle.vx_run.specs.Delivery.{IsReportOf, Delivers, WholeText, SinkFailed, NoMemory}
use Rattle.vx_run.specs.Lines.{status_of}
use Rattle.vx_run.specs.Meets as promises
use Rattle.vx_run.specs.Meets.{Outside, IsTold, EndsFor, EndsUnread, WasCounted, MayAnswer, AnswersWords, AnswersRefusal, AnswersFault, IsRefused, IsPrefix, VxMeets}
use Rattle.vx_run.specs.Stages.{IsRefusal, CausesFaults, CausesMisses, ReadsBehind}
use Rattle.vx_words.specs.declared.command.Command.TheVariants.{Run, Build, Asm, Dis}
use Rattle.vx_run.proofs.Answerable.{Agree, IsAnswerable, MayBe, of_text, of_text_may}
use Rattle.vx_run.proofs.ImageLaws.{may_entry}
use Rattle.vx_run.specs.declared.stages.Stop.TheVariants.{Refused}
use Rattle.vx_words.specs.declared.usage.UsageKind.{UsageKind}
use Rattle.vx_run.proofs.OneOutcome.{one_outcome, one_usage, refused_words}

-- a refusal is a fault of a read, or one that the call comes to
refusal_cases : (P : Outcome → Type 0) (c : Cause) → IsRefusal P c → ((faults : ℕ) × (c ≡ ReadFault faults) × (faults ≡ 1)) ⊎ P (Refuses c)
refusal_cases P (ReadFault faults) h = inl (faults, refl, h)
refusal_cases P c h = inr h

module _ (held : Option (List Entry)) (words : List (List ℕ)) where
  -- how a call ended: with its answer, with a refusal, or for want of a sink or of memory
  pub data Ended (before now : Outside) (report : Report) : Type 0 where
    AtAnswer : (a : Answer) → report.cause ≡ a.cause → report.activity ≡ a.activity → FromWords held words (Gives a) →
        Appends before.written now.written a.text → Ended before now report
    AtRefusal : (c : Cause) → report.cause ≡ c → IsRefusal (FromWords held words) c → CausesFaults c before.read_faults now.read_faults →
        CausesMisses c before.misses now.misses → ReadsBehind words (Refused c) → Ended before now report
    AtSink : report.cause ≡ WriteFault 1 → Rose before.write_faults now.write_faults → Ended before now report
    AtMemory : report.cause ≡ Memory → Ended before now report

module _ (held : Option (List Entry)) where
  may_arguments : (c : RunWords) (k : Chosen) (contents : List (List ℕ)) (o : Outcome) → FromArguments c k contents o → MayBe o
  may_arguments c k contents o (WrongArguments other) = tt
  may_arguments c k contents o (Runs same left leaves) = refl

  may_buffers : (c : RunWords) (k : Chosen) (index : ℕ) (bs : List BufWord) (contents : List (List ℕ)) (o : Outcome) → FromBuffers held c k index bs contents o → MayBe o
  may_buffers c k index [] contents o (NoBuffers i cs q h) = may_arguments c k contents o h
  may_buffers c k index (b ∷ more) contents o (NoBufferFile i cs b' more' path e none) = tt
  may_buffers c k index (b ∷ more) contents o (WrongLength i cs b' more' bytes brings other) = tt
  may_buffers c k index (b ∷ more) contents o (NextBuffer i cs b' more' bytes q brings whole rest) = may_buffers c k (suc index) more (contents ++ bytes ∷ []) o rest

  may_kernel : (c : RunWords) (k : Chosen) (o : Outcome) → FromKernel held c k o → MayBe o
  may_kernel c k o (NotBuilt other) = tt
  may_kernel c k o (HasForm form q is h) = may_buffers c k 0 c.buffers [] o h

  may_program : (c : RunWords) (program : List FunctionNode) (o : Outcome) → FromProgram held c program o → MayBe o
  may_program c program o (NoEntry none) = tt
  may_program c program o (HasEntry f q is h) = may_kernel c (record { program = program; kernel = f }) o h

  module _ (OfProgram : List FunctionNode → Outcome → Type 0) (may : (program : List FunctionNode) (o : Outcome) → OfProgram program o → MayBe o) where
    may_source : (bytes : List ℕ) (o : Outcome) → FromSource OfProgram bytes o → MayBe o
    may_source bytes o (LongSource long) = tt
    may_source bytes o (BadSource fault few is) = tt
    may_source bytes o (HasProgram program q few is h) = may program o h

    may_file : (file : List ℕ) (o : Outcome) → FromFile held file OfProgram o → MayBe o
    may_file file o (NoFile none) = tt
    may_file file o (HasFile bytes q there h) = may_source bytes o h

  -- a call comes to such a refusal, or prints
  pub may_be : (words : List (List ℕ)) (o : Outcome) → FromWords held words o → MayBe o
  may_be words o (WrongWords word kind is) = tt
  may_be words o (RightWords (Run c) q is h) = may_file (FromProgram held c) (may_program c) c.file o h
  may_be words o (RightWords (Build file entry) q is h) = may_file (FromEntry entry) (may_entry entry) file o h
  may_be words o (RightWords (Asm file) q is h) = of_text_may o (of_text held file most_assembly _ o h)
  may_be words o (RightWords (Dis file) q is h) = of_text_may o (of_text held file most_word_text _ o h)

-- where the files tell, a refusal is the only outcome
told_agree : (held : Option (List Entry)) (words : List (List ℕ)) → IsTold held → (c : Cause) → IsRefused held words c → (o : Outcome) → FromWords held words o → Agree (Refuses c) o
told_agree None words told c h o h' = absurd told
told_agree (Some entries) words told c h o h' = one_outcome entries words (Refuses c) o h h'

module _ (held : Option (List Entry)) (words : List (List ℕ)) (before now : Outside) (report : Report) where
  -- an answer of the words ends with status 0
  ends_done : (a : Answer) → report.cause ≡ a.cause → FromWords held words (Gives a) → report.cause ≡ Done
  ends_done a e from = e ∙ may_be held words (Gives a) from

  -- a refusal's cause comes only where the call is refused so
  only_refused : (c : Cause) → IsAnswerable c → Ended held words before now report → report.cause ≡ c → IsRefused held words c
  only_refused c may (AtAnswer a e ran from appends) f = absurd (subst IsAnswerable (sym f ∙ ends_done a e from) may)
  only_refused c may (AtRefusal d e is faults misses behind) f =
      elim (refusal_cases (FromWords held words) c (subst (IsRefusal (FromWords held words)) (sym e ∙ f) is)) [ inl fault ↦ absurd (subst IsAnswerable fault.1 may) | inr h ↦ h ]
  only_refused c may (AtSink e rose) f = absurd (subst IsAnswerable (sym f ∙ e) may)
  only_refused c may (AtMemory e) f = absurd (subst IsAnswerable (sym f ∙ e) may)

  -- a call that is refused so ends so, or one of its reads, the sink or memory failed
  refused_ends : (c : Cause) → ((o : Outcome) → FromWords held words o → Agree (Refuses c) o) → Ended held words before now report → EndsUnread report c
  refused_ends c agree (AtAnswer a e ran from appends) = absurd (agree (Gives a) from)
  refused_ends c agree (AtRefusal d e is faults misses behind) =
      elim (refusal_cases (FromWords held words) d is) [ inl fault ↦ inr (fault.0, e ∙ fault.1) | inr h ↦ inl (inl (e ∙ sym (agree (Refuses d) h))) ]
  refused_ends c agree (AtSink e rose) = inl (inr (inl (1, e)))
  refused_ends c agree (AtMemory e) = inl (inr (inr e))

  -- a call whose words are refused ends so, or the sink or memory failed
  usage_ends : (word : ℕ) (kind : UsageKind) → IsRefused held words (Usage word kind) → Ended held words before now report → EndsFor report (Usage word kind)
  usage_ends word kind h (AtAnswer a e ran from appends) = absurd (one_usage held words word kind (Gives a) h from)
  usage_ends word kind h (AtRefusal d e is faults misses behind) =
      elim (refusal_cases (FromWords held words) d is) [
        | inl fault ↦ absurd (subst (λ c. ReadsBehind words (Refused c)) fault.1 behind word kind (refused_words held words word kind h))
        | inr h' ↦ inl (e ∙ sym (one_usage held words word kind (Refuses d) h h'))
      ]
  usage_ends word kind h (AtSink e rose) = inr (inl (1, e))
  usage_ends word kind h (AtMemory e) = inr (inr e)

  -- no other cause than these, a fault, want of memory and the end
  never : (c : Cause) → (IsAnswerable c → ⊥) → (IsRefusal (FromWords held words) c → IsAnswerable c) → (Done ≡ c → ⊥) → (WriteFault 1 ≡ c → ⊥) → (Memory ≡ c → ⊥) →
      Ended held words before now report → report.cause ≡ c → ⊥
  never c not may done sink memory (AtAnswer a e ran from appends) f = done (sym (ends_done a e from) ∙ f)
  never c not may done sink memory (AtRefusal d e is faults misses behind) f = not (may (subst (IsRefusal (FromWords held words)) (sym e ∙ f) is))
  never c not may done sink memory (AtSink e rose) f = sink (sym e ∙ f)
  never c not may done sink memory (AtMemory e) f = memory (sym e ∙ f)

  only_missing : (name : List ℕ) → Ended held words before now report → report.cause ≡ Missing name → Rose before.misses now.misses
  only_missing name (AtAnswer a e ran from appends) f = absurd (subst IsAnswerable (sym f ∙ ends_done a e from) tt)
  only_missing name (AtRefusal d e is faults misses behind) f = subst (λ c. CausesMisses c before.misses now.misses) (sym e ∙ f) misses
  only_missing name (AtSink e rose) f = absurd (subst IsAnswerable (sym f ∙ e) tt)
  only_missing name (AtMemory e) f = absurd (subst IsAnswerable (sym f ∙ e) tt)

  only_read_fault : (faults : ℕ) → Ended held words before now report → report.cause ≡ ReadFault faults → (faults ≡ 1) × Rose before.read_faults now.read_faults
  only_read_fault faults (AtAnswer a e ran from appends) f = let g : Done ≡ ReadFault faults = sym (ends_done a e from) ∙ f in cc
  only_read_fault faults (AtRefusal d e is causes misses behind) f = (
    subst (IsRefusal (FromWords held words)) (sym e ∙ f) is,
    subst (λ c. CausesFaults c before.read_faults now.read_faults) (sym e ∙ f) causes,
  )
  only_read_fault faults (AtSink e rose) f = let g : WriteFault 1 ≡ ReadFault faults = sym e ∙ f in cc
  only_read_fault faults (AtMemory e) f = let g : Memory ≡ ReadFault faults = sym e ∙ f in cc

  only_write_fault : (faults : ℕ) → Ended held words before now report → report.cause ≡ WriteFault faults → (faults ≡ 1) × Rose before.write_faults now.write_faults
  only_write_fault faults (AtAnswer a e ran from appends) f = let g : Done ≡ WriteFault faults = sym (ends_done a e from) ∙ f in cc
  only_write_fault faults (AtRefusal d e is causes misses behind) f = absurd (may_be held words (Refuses (WriteFault faults)) (subst (IsRefusal (FromWords held words)) (sym e ∙ f) is))
  only_write_fault faults (AtSink e rose) f = let g : WriteFault 1 ≡ WriteFault faults = sym e ∙ f in (cc, rose)
  only_write_fault faults (AtMemory e) f = let g : Memory ≡ WriteFault faults = sym e ∙ f in cc

  only_done : Ended held words before now report → report.cause ≡ Done → (a : Answer) × FromWords held words (Gives a)
      × (a.cause ≡ Done) × (report.activity ≡ a.activity) × Appends before.written now.written a.text
  only_done (AtAnswer a e ran from appends) f = (a, from, sym e ∙ f, ran, appends)
  only_done (AtRefusal d e is causes misses behind) f = absurd (may_be held words (Refuses Done) (subst (IsRefusal (FromWords held words)) (sym e ∙ f) is))
  only_done (AtSink e rose) f = let g : WriteFault 1 ≡ Done = sym e ∙ f in absurd (cc)
  only_done (AtMemory e) f = let g : Memory ≡ Done = sym e ∙ f in absurd (cc)

  ends_well : Ended held words before now report → ((c : Cause) → IsRefused held words c → ⊥) → (Rose before.read_faults now.read_faults → ⊥) →
      (Rose before.write_faults now.write_faults → ⊥) → (report.cause ≡ Done) ⊎ (report.cause ≡ Memory)
  ends_well (AtAnswer a e ran from appends) none read write = inl (ends_done a e from)
  ends_well (AtRefusal d e is causes misses behind) none read write =
      elim (refusal_cases (FromWords held words) d is) [
        | inl fault ↦ absurd (read (subst (λ c. CausesFaults c before.read_faults now.read_faults) fault.1 causes))
        | inr h ↦ absurd (none d h)
      ]
  ends_well (AtSink e rose) none read write = absurd (write rose)
  ends_well (AtMemory e) none read write = inr e

  -- what is known of a call's end is what it meets
  pub meets : report.status ≡ status_of report.cause → Ended held words before now report → IsPrefix held words before now report →
      VxMeets held words before now report
  meets status ended prefix = record {
    status = status;
    usage = λ word kind. (only_refused (Usage word kind) tt ended, λ h. usage_ends word kind h ended);
    source = λ pos kind. (only_refused (Source pos kind) tt ended, λ told h. refused_ends (Source pos kind) (told_agree held words told (Source pos kind) h) ended);
    launch = λ index kind. (only_refused (Launch index kind) tt ended, λ told h. refused_ends (Launch index kind) (told_agree held words told (Launch index kind) h) ended);
    buffer = λ index kind. (only_refused (Buffer index kind) tt ended, λ told h. refused_ends (Buffer index kind) (told_agree held words told (Buffer index kind) h) ended);
    missing = λ name. (λ e. (only_refused (Missing name) tt ended e, only_missing name ended e), λ told h. refused_ends (Missing name) (told_agree held words told (Missing name) h) ended);
    trap = λ launch pos item. never (Trap launch pos item) (λ x. x) (may_be held words (Refuses (Trap launch pos item))) (λ e. cc) (λ e. cc) (λ e. cc) ended;
    stuck = λ launch core waiting stopped. never (Stuck launch core waiting stopped) (λ x. x) (may_be held words (Refuses (Stuck launch core waiting stopped))) (λ e. cc) (λ e. cc) (λ e. cc) ended;
    turns = λ launch core group count. never (Turns launch core group count) (λ x. x) (may_be held words (Refuses (Turns launch core group count))) (λ e. cc) (λ e. cc) (λ e. cc) ended;
    read_fault = λ faults. only_read_fault faults ended;
    write_fault = λ faults. only_write_fault faults ended;
    prefix = prefix;
    headline = only_done ended;
    complete = ends_well ended;
  }

-- the status of a report is that of its cause
status_kept : (cause : Cause) (ran : Activity) (report : Report) → IsReportOf cause ran report → report.status ≡ status_of report.cause
status_kept cause ran report h = h.status ∙ ap status_of (sym h.cause_is)

module _ (held : Option (List Entry)) (words : List (List ℕ)) (before now : Outside) (report : Report) where
  -- what a refusal says of the counts is that its cause was counted
  was_counted : (c : Cause) → CausesFaults c before.read_faults now.read_faults → CausesMisses c before.misses now.misses → WasCounted c before now
  was_counted (ReadFault n) faults misses = faults
  was_counted (Missing name) faults misses = misses
  was_counted c faults misses = tt

  -- an answer that is delivered
  delivered : (a : Answer) → MayAnswer held words before now a →
      (IsReportOf a.cause a.activity report → Appends before.written now.written a.text → Ended held words before now report) →
      Delivers a before.written now.written before.write_faults now.write_faults report → VxMeets held words before now report
  delivered a may ends (WholeText r appends) =
      meets held words before now report (status_kept a.cause a.activity report r) (ends r appends)
      (promises.WholeText a may r.cause_is r.activity_is appends)
  delivered a may ends (SinkFailed r rose some) =
      meets held words before now report (status_kept (WriteFault 1) a.activity report r) (AtSink r.cause_is rose)
      (promises.FrontOfText a 1 may (inl r.cause_is) r.activity_is some)
  delivered a may ends (NoMemory r some) =
      meets held words before now report (status_kept Memory a.activity report r) (AtMemory r.cause_is)
      (promises.FrontOfText a 1 may (inr r.cause_is) r.activity_is some)

  -- an answer of the words that is delivered
  pub meets_answer : (a : Answer) → FromWords held words (Gives a) →
      Delivers a before.written now.written before.write_faults now.write_faults report → VxMeets held words before now report
  meets_answer a from = delivered a (AnswersWords a from) (λ r appends. AtAnswer a r.cause_is r.activity_is from appends)

  -- the answer of a refusal
  refusal_text : (c : Cause) → IsRefusal (FromWords held words) c → WasCounted c before now → MayAnswer held words before now (refusal c)
  refusal_text c is counted = elim (refusal_cases (FromWords held words) c is) [
    | inl fault ↦
        let one : c ≡ ReadFault 1 = fault.1 ∙ ap ReadFault fault.2 in
        subst (λ d. MayAnswer held words before now (refusal d)) (sym one) (AnswersFault (subst (λ d. WasCounted d before now) one counted))
    | inr h ↦ AnswersRefusal c h counted
  ]

  -- a refusal that is delivered
  pub meets_refused : (c : Cause) → IsRefusal (FromWords held words) c → CausesFaults c before.read_faults now.read_faults → CausesMisses c before.misses now.misses →
      ReadsBehind words (Refused c) → Delivers (refusal c) before.written now.written before.write_faults now.write_faults report → VxMeets held words before now report
  meets_refused c is faults misses behind =
      delivered (refusal c) (refusal_text c is (was_counted c faults misses)) (λ r appends. AtRefusal c r.cause_is is faults misses behind)

  -- want of memory before anything is written
  pub meets_memory : IsReportOf Memory idle report → now.written ≡ before.written → VxMeets held words before now report
  meets_memory r same =
      meets held words before now report (status_kept Memory idle report r) (AtMemory r.cause_is)
      (promises.NoText r.cause_is (λ x e. same ∙ e ∙ ap Some (sym (append-nil x))))
