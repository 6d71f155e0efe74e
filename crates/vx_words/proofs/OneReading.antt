-- Words are read in one way.
use Rattle.std.proofs.Common.{◌≡◌, ℕ, ◌+◌, ◌<◌, ◌≤◌, ◌⊎◌, inl, inr, Result, Ok, Err, List, [], ◌∷◌, length, get_or, drop, eqb, true, false, refl, sym, ap, ◌∙◌, subst, arith}
use Rattle.std.specs.Prelude.{codes}
use Rattle.vx_words.specs.declared.command.Command.{Command}
use Rattle.vx_words.specs.declared.command.Command.TheVariants.{Run, Build, Asm, Dis}
use Rattle.vx_words.specs.declared.run_words.RunWords.{RunWords}
use Rattle.vx_words.specs.declared.usage.UsageKind.{UsageKind}
use Rattle.std.specs.Result.{IsErrAnd}
use Rattle.std.proofs.lemmas.Bool.{false≢true, eq-eqb}
use Rattle.std.proofs.lemmas.Result.{err_from_is_err_and}
use Rattle.vx_words.specs.Names.{IsName, is_name}
use Rattle.vx_words.specs.declared.usage.UsageKind.TheVariants as usage
use Rattle.vx_words.specs.declared.usage.UsageFault.{UsageFault}
use Rattle.vx_words.specs.declared.usage.UsageFault.TheVariants.{Usage, Memory}
use Rattle.vx_words.specs.Words.{IsRun}
use Rattle.vx_words.specs.WordForms.{BeginsRun, Finds, IsBadForm}
use Rattle.vx_words.specs.Commands.{IsFileCommand, BeginsCommand, IsCommand, Runs, Builds, Assembles, Disassembles, IsWrongBuild, NoSource, NoEntry, BadEntry, BehindEntry, IsUsage, NoCommand, NoForm, NoBuild, NoFile, FurtherWord, Reads, GivesFile}
use Rattle.vx_words.proofs.RunMeaning.{IsRun-same}

-- the first byte of the first word
abbrev head_byte : List (List ℕ) → ℕ
head_byte words = get_or (get_or words 0 []) 0 0

head_run : (words : List (List ℕ)) → BeginsRun words → head_byte words ≡ 114
head_run [] h = absurd h
head_run (word ∷ more) h = ap (λ (w : List ℕ). get_or w 0 0) h

-- the first word of the words of `run` is its name
pub begins_run : (words : List (List ℕ)) (c : RunWords) → IsRun words c → BeginsRun words
begins_run words c h = subst BeginsRun (sym h.spelled) refl

-- the first byte of a command's name
abbrev command_byte : Command → ℕ
command_byte (Run c) = 114
command_byte (Build file entry) = 98
command_byte (Asm file) = 97
command_byte (Dis file) = 100

head_command : (words : List (List ℕ)) (c : Command) → IsCommand words c → head_byte words ≡ command_byte c
head_command words c (Runs r h) = head_run words (begins_run words r h)
head_command words c (Builds file entry name e) = ap head_byte e
head_command words c (Assembles file e) = ap head_byte e
head_command words c (Disassembles file e) = ap head_byte e

-- words have one first byte
heads_differ : (words : List (List ℕ)) (m n : ℕ) → head_byte words ≡ m → head_byte words ≡ n → eqb m n ≡ false → ⊥
heads_differ words m n a b other = false≢true (sym other ∙ eq-eqb m n (sym a ∙ b))

commands_differ : (words : List (List ℕ)) (c d : Command) → IsCommand words c → IsCommand words d → eqb (command_byte c) (command_byte d) ≡ false → ⊥
commands_differ words c d h k other = heads_differ words (command_byte c) (command_byte d) (head_command words c h) (head_command words d k) other

-- words of a command of one file are those of no command whose name begins otherwise
not_of_file : (words : List (List ℕ)) (name : List ℕ) (more : List (List ℕ)) (byte : ℕ) → IsFileCommand name → words ≡ name ∷ more → head_byte words ≡ byte
    → eqb 97 byte ≡ false → eqb 100 byte ≡ false → ⊥
not_of_file words name more byte (inl asm) e head first second =
    heads_differ words 97 byte (ap head_byte e ∙ ap (λ (w : List ℕ). get_or w 0 0) asm) head first
not_of_file words name more byte (inr dis) e head first second =
    heads_differ words 100 byte (ap head_byte e ∙ ap (λ (w : List ℕ). get_or w 0 0) dis) head second

-- words of a command of one file are none of `run`, and none of `build`
apart : (words : List (List ℕ)) (name : List ℕ) (more : List (List ℕ)) → IsFileCommand name → words ≡ name ∷ more → BeginsRun words → ⊥
apart words name more tool e run = not_of_file words name more 114 tool e (head_run words run) refl refl

apart_build : (words : List (List ℕ)) (name : List ℕ) (more behind : List (List ℕ)) → IsFileCommand name → words ≡ name ∷ more → words ≡ codes "build" ∷ behind → ⊥
apart_build words name more behind tool e build = not_of_file words name more 98 tool e (ap head_byte build) refl refl

-- words of `run` are none of `build`
run_is_not_build : (words : List (List ℕ)) (behind : List (List ℕ)) → BeginsRun words → words ≡ codes "build" ∷ behind → ⊥
run_is_not_build words behind run build = heads_differ words 114 98 (head_run words run) (ap head_byte build) refl

second : (words : List (List ℕ)) (name other file file' : List ℕ) (more more' : List (List ℕ)) → words ≡ name ∷ file ∷ more → words ≡ other ∷ file' ∷ more' → file ≡ file'
second words name other file file' more more' e f = ap (λ (l : List (List ℕ)). get_or l 1 []) (sym e ∙ f)

third : (words : List (List ℕ)) (name other file file' entry entry' : List ℕ) → words ≡ name ∷ file ∷ entry ∷ [] → words ≡ other ∷ file' ∷ entry' ∷ [] → entry ≡ entry'
third words name other file file' entry entry' e f = ap (λ (l : List (List ℕ)). get_or l 2 []) (sym e ∙ f)

-- words ask for one thing
pub command_same : (words : List (List ℕ)) (c d : Command) → IsCommand words c → IsCommand words d → c ≡ d
command_same words c d (Runs r h) (Runs s k) = ap (λ (x : RunWords). Run x) (IsRun-same words r s h k)
command_same words c d (Runs r h) (Builds file entry name e) = absurd (commands_differ words _ _ (Runs r h) (Builds file entry name e) refl)
command_same words c d (Runs r h) (Assembles file e) = absurd (commands_differ words _ _ (Runs r h) (Assembles file e) refl)
command_same words c d (Runs r h) (Disassembles file e) = absurd (commands_differ words _ _ (Runs r h) (Disassembles file e) refl)
command_same words c d (Builds file entry name e) (Runs r h) = absurd (commands_differ words _ _ (Builds file entry name e) (Runs r h) refl)
command_same words c d (Builds file entry name e) (Builds file' entry' name' f) =
    ap (λ (x : List ℕ). Build x entry) (second words _ _ file file' _ _ e f) ∙ ap (λ (x : List ℕ). Build file' x) (third words _ _ file file' entry entry' e f)
command_same words c d (Builds file entry name e) (Assembles file' f) = absurd (commands_differ words _ _ (Builds file entry name e) (Assembles file' f) refl)
command_same words c d (Builds file entry name e) (Disassembles file' f) = absurd (commands_differ words _ _ (Builds file entry name e) (Disassembles file' f) refl)
command_same words c d (Assembles file e) (Runs r h) = absurd (commands_differ words _ _ (Assembles file e) (Runs r h) refl)
command_same words c d (Assembles file e) (Builds file' entry name f) = absurd (commands_differ words _ _ (Assembles file e) (Builds file' entry name f) refl)
command_same words c d (Assembles file e) (Assembles file' f) = ap (λ (x : List ℕ). Asm x) (second words _ _ file file' _ _ e f)
command_same words c d (Assembles file e) (Disassembles file' f) = absurd (commands_differ words _ _ (Assembles file e) (Disassembles file' f) refl)
command_same words c d (Disassembles file e) (Runs r h) = absurd (commands_differ words _ _ (Disassembles file e) (Runs r h) refl)
command_same words c d (Disassembles file e) (Builds file' entry name f) = absurd (commands_differ words _ _ (Disassembles file e) (Builds file' entry name f) refl)
command_same words c d (Disassembles file e) (Assembles file' f) = absurd (commands_differ words _ _ (Disassembles file e) (Assembles file' f) refl)
command_same words c d (Disassembles file e) (Disassembles file' f) = ap (λ (x : List ℕ). Dis x) (second words _ _ file file' _ _ e f)

begins_command : (words : List (List ℕ)) (c : Command) → IsCommand words c → BeginsCommand words
begins_command words c (Runs r h) = subst BeginsCommand (sym h.spelled) (inl refl)
begins_command words c (Builds file entry name e) = subst BeginsCommand (sym e) (inr (inl refl))
begins_command words c (Assembles file e) = subst BeginsCommand (sym e) (inr (inr (inl refl)))
begins_command words c (Disassembles file e) = subst BeginsCommand (sym e) (inr (inr (inr refl)))

lengths : (words : List (List ℕ)) (m n : ℕ) (a b : List (List ℕ)) → words ≡ a → words ≡ b → length a ≡ m → length b ≡ n → m ≡ n
lengths words m n a b e f g h = sym g ∙ ap length (sym e ∙ f) ∙ h

-- the words behind one name
behind_same : (words : List (List ℕ)) (name other : List ℕ) (behind behind' : List (List ℕ)) → words ≡ name ∷ behind → words ≡ other ∷ behind' → behind ≡ behind'
behind_same words name other behind behind' e f = ap (λ (l : List (List ℕ)). drop 1 l) (sym e ∙ f)

-- a file and a name are not wrong behind `build`
right_build : (file entry : List ℕ) (word : ℕ) (kind : UsageKind) → IsName entry → IsWrongBuild (file ∷ entry ∷ []) word kind → ⊥
right_build file entry word kind name (BadEntry file' entry' more none) = none name

build_usage : (words : List (List ℕ)) (file entry : List ℕ) (behind : List (List ℕ)) (word : ℕ) (kind : UsageKind) → IsName entry
    → words ≡ codes "build" ∷ file ∷ entry ∷ [] → words ≡ codes "build" ∷ behind → IsWrongBuild behind word kind → ⊥
build_usage words file entry behind word kind name e f wrong =
    right_build file entry word kind name (subst (λ (b : List (List ℕ)). IsWrongBuild b word kind) (behind_same words _ _ behind _ f e) wrong)

-- words that ask for something are not refused
pub command_usage : (words : List (List ℕ)) (c : Command) (word : ℕ) (kind : UsageKind) → IsCommand words c → IsUsage words word kind → ⊥
command_usage words c word kind h (NoCommand other) = other (begins_command words c h)
command_usage words c word kind (Runs r h) (NoForm run none) = none r h
command_usage words c word kind (Builds file entry name e) (NoForm run none) = run_is_not_build words _ run e
command_usage words c word kind (Assembles file e) (NoForm run none) = apart words (codes "asm") _ (inl refl) e run
command_usage words c word kind (Disassembles file e) (NoForm run none) = apart words (codes "dis") _ (inr refl) e run
command_usage words c word kind (Runs r h) (NoBuild behind w k e wrong) = run_is_not_build words behind (begins_run words r h) e
command_usage words c word kind (Builds file entry name e) (NoBuild behind w k f wrong) = build_usage words file entry behind word kind name e f wrong
command_usage words c word kind (Assembles file e) (NoBuild behind w k f wrong) = apart_build words (codes "asm") _ behind (inl refl) e f
command_usage words c word kind (Disassembles file e) (NoBuild behind w k f wrong) = apart_build words (codes "dis") _ behind (inr refl) e f
command_usage words c word kind (Runs r h) (NoFile name tool e) = apart words name _ tool e (begins_run words r h)
command_usage words c word kind (Builds file entry spelled e) (NoFile name tool f) = apart_build words name _ _ tool f e
command_usage words c word kind (Assembles file e) (NoFile name tool f) = let l = lengths words 2 1 _ _ e f refl refl in omega (arith, l)
command_usage words c word kind (Disassembles file e) (NoFile name tool f) = let l = lengths words 2 1 _ _ e f refl refl in omega (arith, l)
command_usage words c word kind (Runs r h) (FurtherWord name file next more tool e) = apart words name _ tool e (begins_run words r h)
command_usage words c word kind (Builds file' entry spelled e) (FurtherWord name file next more tool f) = apart_build words name _ _ tool f e
command_usage words c word kind (Assembles file e) (FurtherWord name file' next more tool f) = let l = lengths words 2 _ _ _ e f refl refl in omega (arith, l)
command_usage words c word kind (Disassembles file e) (FurtherWord name file' next more tool f) = let l = lengths words 2 _ _ _ e f refl refl in omega (arith, l)

begins_of_run : (words : List (List ℕ)) → BeginsRun words → BeginsCommand words
begins_of_run [] h = absurd h
begins_of_run (word ∷ more) h = inl h

begins_of_build : (words : List (List ℕ)) (behind : List (List ℕ)) → words ≡ codes "build" ∷ behind → BeginsCommand words
begins_of_build words behind e = subst BeginsCommand (sym e) (inr (inl refl))

begins_of_file : (words : List (List ℕ)) (name : List ℕ) (more : List (List ℕ)) → IsFileCommand name → words ≡ name ∷ more → BeginsCommand words
begins_of_file words name more tool e = subst BeginsCommand (sym e) (inr (inr tool))

-- one thing is wrong behind `build`
wrong_same : (behind : List (List ℕ)) (word other : ℕ) (kind kind' : UsageKind) → IsWrongBuild behind word kind → IsWrongBuild behind other kind' → (word ≡ other) × (kind ≡ kind')
wrong_same [] word other kind kind' NoSource NoSource = (refl, refl)
wrong_same (file ∷ []) word other kind kind' (NoEntry f) (NoEntry f') = (refl, refl)
wrong_same (file ∷ entry ∷ []) word other kind kind' (BadEntry f n m none) (BadEntry f' n' m' none') = (refl, refl)
wrong_same (file ∷ entry ∷ next ∷ more) word other kind kind' (BadEntry f n m none) (BadEntry f' n' m' none') = (refl, refl)
wrong_same (file ∷ entry ∷ next ∷ more) word other kind kind' (BadEntry f n m none) (BehindEntry f' n' w' m' name) = absurd (none name)
wrong_same (file ∷ entry ∷ next ∷ more) word other kind kind' (BehindEntry f n w m name) (BadEntry f' n' m' none) = absurd (none name)
wrong_same (file ∷ entry ∷ next ∷ more) word other kind kind' (BehindEntry f n w m name) (BehindEntry f' n' w' m' name') = (refl, refl)

-- words are refused for one thing
pub usage_same : (words : List (List ℕ)) (word other : ℕ) (kind kind' : UsageKind) → IsUsage words word kind → IsUsage words other kind' → (word ≡ other) × (kind ≡ kind')
usage_same words word other kind kind' (NoCommand first) (NoCommand second') = (refl, refl)
usage_same words word other kind kind' (NoCommand other') (NoForm run none) = absurd (other' (begins_of_run words run))
usage_same words word other kind kind' (NoCommand other') (NoBuild behind w k e wrong) = absurd (other' (begins_of_build words behind e))
usage_same words word other kind kind' (NoCommand other') (NoFile name tool e) = absurd (other' (begins_of_file words name _ tool e))
usage_same words word other kind kind' (NoCommand other') (FurtherWord name file next more tool e) = absurd (other' (begins_of_file words name _ tool e))
usage_same words word other kind kind' (NoForm run none) (NoCommand other') = absurd (other' (begins_of_run words run))
usage_same words word other kind kind' (NoForm run none) (NoForm run' none') = (refl, refl)
usage_same words word other kind kind' (NoForm run none) (NoBuild behind w k e wrong) = absurd (run_is_not_build words behind run e)
usage_same words word other kind kind' (NoForm run none) (NoFile name tool e) = absurd (apart words name _ tool e run)
usage_same words word other kind kind' (NoForm run none) (FurtherWord name file next more tool e) = absurd (apart words name _ tool e run)
usage_same words word other kind kind' (NoBuild behind w k e wrong) (NoCommand other') = absurd (other' (begins_of_build words behind e))
usage_same words word other kind kind' (NoBuild behind w k e wrong) (NoForm run none) = absurd (run_is_not_build words behind run e)
usage_same words word other kind kind' (NoBuild behind w k e wrong) (NoBuild behind' w' k' f wrong') =
    wrong_same behind word other kind kind' wrong (subst (λ (b : List (List ℕ)). IsWrongBuild b other kind') (behind_same words _ _ behind' behind f e) wrong')
usage_same words word other kind kind' (NoBuild behind w k e wrong) (NoFile name tool f) = absurd (apart_build words name _ behind tool f e)
usage_same words word other kind kind' (NoBuild behind w k e wrong) (FurtherWord name file next more tool f) = absurd (apart_build words name _ behind tool f e)
usage_same words word other kind kind' (NoFile name tool e) (NoCommand other') = absurd (other' (begins_of_file words name _ tool e))
usage_same words word other kind kind' (NoFile name tool e) (NoForm run none) = absurd (apart words name _ tool e run)
usage_same words word other kind kind' (NoFile name tool e) (NoBuild behind w k f wrong) = absurd (apart_build words name _ behind tool e f)
usage_same words word other kind kind' (NoFile name tool e) (NoFile name' tool' f) = (refl, refl)
usage_same words word other kind kind' (NoFile name tool e) (FurtherWord name' file next more tool' f) = let l = lengths words 1 _ _ _ e f refl refl in absurd (omega (arith, l))
usage_same words word other kind kind' (FurtherWord name file next more tool e) (NoCommand other') = absurd (other' (begins_of_file words name _ tool e))
usage_same words word other kind kind' (FurtherWord name file next more tool e) (NoForm run none) = absurd (apart words name _ tool e run)
usage_same words word other kind kind' (FurtherWord name file next more tool e) (NoBuild behind w k f wrong) = absurd (apart_build words name _ behind tool e f)
usage_same words word other kind kind' (FurtherWord name file next more tool e) (NoFile name' tool' f) = let l = lengths words _ 1 _ _ e f refl refl in absurd (omega (arith, l))
usage_same words word other kind kind' (FurtherWord name file next more tool e) (FurtherWord name' file' next' more' tool' f) = (refl, refl)

-- what is read is the only thing that the words ask for
pub only_read : (words : List (List ℕ)) (r : Result Command UsageFault) → Reads words r → (c : Command) → IsCommand words c → (r ≡ Ok c) ⊎ (r ≡ Err Memory)
only_read words (Ok d) h c k = inl (ap (λ (x : Command). Ok x) (command_same words d c h k))
only_read words (Err (Usage word kind)) h c k = absurd (command_usage words c word kind k h)
only_read words (Err Memory) h c k = inr refl

pub read_fault : (words : List (List ℕ)) (r : Result Command UsageFault) → Reads words r → (word : ℕ) (kind : UsageKind) → r ≡ Err (Usage word kind) → IsUsage words word kind
read_fault words r h word kind e = subst (Reads words) e h

same_fault : (word other : ℕ) (kind kind' : UsageKind) → (word ≡ other) × (kind ≡ kind') → Usage word kind ≡ Usage other kind'
same_fault word other kind kind' h = ap (λ (w : ℕ). Usage w kind) h.0 ∙ ap (λ (k : UsageKind). Usage other k) h.1

pub only_fault : (words : List (List ℕ)) (r : Result Command UsageFault) → Reads words r → (word : ℕ) (kind : UsageKind) → IsUsage words word kind → (r ≡ Err (Usage word kind)) ⊎ (r ≡ Err Memory)
only_fault words (Ok d) h word kind k = absurd (command_usage words d word kind h k)
only_fault words (Err (Usage word' kind')) h word kind k = inl (ap (λ (f : UsageFault). Err f) (same_fault word' word kind' kind (usage_same words word' word kind' kind h k)))
only_fault words (Err Memory) h word kind k = inr refl

-- words of `run` that are found to have no form are refused
pub run_fault : (words : List (List ℕ)) (fault : UsageFault) → BeginsRun words → IsBadForm fault ((c : RunWords) → IsRun words c → ⊥) → Reads words (Err fault)
run_fault words (Usage word kind) run h = subst (λ (k : UsageKind). IsUsage words word k) (sym h.1) (subst (λ (w : ℕ). IsUsage words w usage.Form) (sym h.0) (NoForm run h.2))
run_fault words Memory run h = tt

-- what is wrong behind a command of one file is wrong with its words
pub file_fault : (name : List ℕ) (behind : List (List ℕ)) (fault : UsageFault) → IsFileCommand name → GivesFile behind (Err fault) → Reads (name ∷ behind) (Err fault)
file_fault name behind (Usage word kind) tool h = h name tool
file_fault name behind Memory tool h = tt

-- what the exit of a `?` returns, where what is refused is refused
pub reads_refused : (words : List (List ℕ)) (r : Result Command UsageFault) (fault : UsageFault) → IsErrAnd r (λ e. e ≡ fault) → Reads words (Err fault) → Reads words r
reads_refused words r fault err h =
    let p = err_from_is_err_and r err in
    subst (Reads words) (sym p.1) (subst (λ (e : UsageFault). Reads words (Err e)) (sym p.2) h)

-- no word behind a command of one file, and more than one
pub no_word : (behind : List (List ℕ)) → length behind < 1 → (name : List ℕ) → IsFileCommand name → IsUsage (name ∷ behind) 1 usage.Missing
no_word [] short name tool = NoFile name tool refl
no_word (word ∷ more) short name tool = absurd (omega (arith, short))

pub more_words : (behind : List (List ℕ)) → 2 ≤ length behind → (name : List ℕ) → IsFileCommand name → IsUsage (name ∷ behind) 2 usage.Form
more_words [] long name tool = absurd (omega (arith, long))
more_words (file ∷ []) long name tool = absurd (omega (arith, long))
more_words (file ∷ word ∷ more) long name tool = FurtherWord name file word more tool refl

-- a name that is none of the commands
pub no_command : (name : List ℕ) (behind : List (List ℕ)) → (name ≡ codes "run" → ⊥) → (name ≡ codes "build" → ⊥) → (name ≡ codes "asm" → ⊥) → (name ≡ codes "dis" → ⊥) →
    IsUsage (name ∷ behind) 0 usage.Command
no_command name behind run build asm dis = NoCommand (none run build asm dis)
  where
    none : (name ≡ codes "run" → ⊥) → (name ≡ codes "build" → ⊥) → (name ≡ codes "asm" → ⊥) → (name ≡ codes "dis" → ⊥) → BeginsCommand (name ∷ behind) → ⊥
    none r b a d (inl e) = r e
    none r b a d (inr (inl e)) = b e
    none r b a d (inr (inr (inl e))) = a e
    none r b a d (inr (inr (inr e))) = d e

-- the words behind `run`, read and refused
pub run_reads : (name : List ℕ) (behind : List (List ℕ)) (c : RunWords) → name ≡ codes "run" → IsRun (codes "run" ∷ behind) c → IsCommand (name ∷ behind) (Run c)
run_reads name behind c run h = Runs c (subst (λ (n : List ℕ). IsRun (n ∷ behind) c) (sym run) h)

pub run_refused : (name : List ℕ) (behind : List (List ℕ)) (r : Result Command UsageFault) (fault : UsageFault) → name ≡ codes "run" → IsErrAnd r (λ e. e ≡ fault) →
    IsBadForm fault ((c : RunWords) → IsRun (codes "run" ∷ behind) c → ⊥) → Reads (name ∷ behind) r
run_refused name behind r fault run err h =
    subst (λ (n : List ℕ). Reads (n ∷ behind) r) (sym run) (reads_refused (codes "run" ∷ behind) r fault err (run_fault (codes "run" ∷ behind) fault refl h))

-- the words behind `build`
pub build_reads : (name : List ℕ) (behind : List (List ℕ)) (r : Result Command UsageFault) → name ≡ codes "build" → Reads (codes "build" ∷ behind) r → Reads (name ∷ behind) r
build_reads name behind r build h = subst (λ (n : List ℕ). Reads (n ∷ behind) r) (sym build) h

pub wrong_build : (behind : List (List ℕ)) (word : ℕ) (kind : UsageKind) → IsWrongBuild behind word kind → IsUsage (codes "build" ∷ behind) word kind
wrong_build behind word kind wrong = NoBuild behind word kind refl wrong

pub no_source : (behind : List (List ℕ)) → length behind ≡ 0 → IsUsage (codes "build" ∷ behind) 1 usage.Missing
no_source [] none = wrong_build [] 1 usage.Missing NoSource
no_source (word ∷ more) none = absurd (omega (arith, none))

pub no_entry : (behind rest : List (List ℕ)) (file : List ℕ) → behind ≡ file ∷ rest → length rest ≡ 0 → IsUsage (codes "build" ∷ behind) 2 usage.Missing
no_entry behind [] file e none = subst (λ (b : List (List ℕ)). IsUsage (codes "build" ∷ b) 2 usage.Missing) (sym e) (wrong_build (file ∷ []) 2 usage.Missing (NoEntry file))
no_entry behind (word ∷ more) file e none = absurd (omega (arith, none))

no_name : (entry : List ℕ) → is_name entry ≡ false → IsName entry → ⊥
no_name entry bad name = false≢true (sym bad ∙ name)

pub bad_entry : (behind rest more : List (List ℕ)) (file entry : List ℕ) → behind ≡ file ∷ rest → rest ≡ entry ∷ more → is_name entry ≡ false → IsUsage (codes "build" ∷ behind) 2 usage.Form
bad_entry behind rest more file entry e f bad =
    let all : behind ≡ file ∷ entry ∷ more = e ∙ ap (λ (r : List (List ℕ)). file ∷ r) f in
    subst (λ (b : List (List ℕ)). IsUsage (codes "build" ∷ b) 2 usage.Form) (sym all) (wrong_build (file ∷ entry ∷ more) 2 usage.Form (BadEntry file entry more (no_name entry bad)))

pub word_behind_entry : (behind rest more : List (List ℕ)) (file entry : List ℕ) → behind ≡ file ∷ rest → rest ≡ entry ∷ more → is_name entry ≡ true → (length more ≡ 0 → ⊥) →
    IsUsage (codes "build" ∷ behind) 3 usage.Form
word_behind_entry behind rest [] file entry e f name some = absurd (some refl)
word_behind_entry behind rest (word ∷ more) file entry e f name some =
    let all : behind ≡ file ∷ entry ∷ word ∷ more = e ∙ ap (λ (r : List (List ℕ)). file ∷ r) f in
    subst (λ (b : List (List ℕ)). IsUsage (codes "build" ∷ b) 3 usage.Form) (sym all) (wrong_build (file ∷ entry ∷ word ∷ more) 3 usage.Form (BehindEntry file entry word more name))

pub entry_reads : (behind rest more : List (List ℕ)) (file entry : List ℕ) → behind ≡ file ∷ rest → rest ≡ entry ∷ more → is_name entry ≡ true → length more ≡ 0 →
    IsCommand (codes "build" ∷ behind) (Build file entry)
entry_reads behind rest [] file entry e f name none =
    let all : behind ≡ file ∷ entry ∷ [] = e ∙ ap (λ (r : List (List ℕ)). file ∷ r) f in
    Builds file entry name (ap (λ (b : List (List ℕ)). codes "build" ∷ b) all)
entry_reads behind rest (word ∷ more) file entry e f name none = absurd (omega (arith, none))

-- the word behind `asm` and `dis`
pub asm_reads : (name : List ℕ) (behind : List (List ℕ)) (file : List ℕ) → name ≡ codes "asm" → behind ≡ file ∷ [] → IsCommand (name ∷ behind) (Asm file)
asm_reads name behind file asm e = Assembles file cc

pub dis_reads : (name : List ℕ) (behind : List (List ℕ)) (file : List ℕ) → name ≡ codes "dis" → behind ≡ file ∷ [] → IsCommand (name ∷ behind) (Dis file)
dis_reads name behind file dis e = Disassembles file cc

pub file_refused : (name : List ℕ) (behind : List (List ℕ)) (r : Result Command UsageFault) (fault : UsageFault) → IsFileCommand name → IsErrAnd r (λ e. e ≡ fault) →
    GivesFile behind (Err fault) → Reads (name ∷ behind) r
file_refused name behind r fault tool err h = reads_refused (name ∷ behind) r fault err (file_fault name behind fault tool h)

-- no words begin with no command
pub no_words : (words : List (List ℕ)) → length words ≡ 0 → IsUsage words 0 usage.Command
no_words [] none = NoCommand (λ (h : BeginsCommand []). h)
no_words (word ∷ more) none = absurd (omega (arith, none))
