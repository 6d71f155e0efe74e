-- The answer to words is what they are written for.
use Rattle.std.proofs.Common.{◌≡◌, ◌≢◌, ℕ, ◌+◌, Bool, true, false, cond, not, ◌⊎◌, inl, inr, Option, Some, None, Result, Ok, Err, List, [], ◌∷◌, ◌++◌, length, refl, sym, ap, ◌∙◌, subst, append-nil, append_assoc, arith}
use Rattle.std.specs.Prelude.{codes}
use Rattle.std.specs.Result.{IfOk}
use Rattle.std.proofs.lemmas.Bool.{cases_Bool}
use Rattle.std.proofs.lemmas.Option.{same_Some}
use Rattle.command_words.specs.declared.commands.Command.{Command}
use Rattle.command_words.specs.declared.entries.Entry.{Entry}
use Rattle.command_words.specs.declared.places.CommandName.{CommandName}
use Rattle.command_words.specs.declared.places.CommandName.TheVariants.{Run, Build, Asm, Dis, Gen}
use Rattle.command_words.specs.declared.usage.UsageKind.{UsageKind}
use Rattle.command_words.specs.declared.usage.UsageKind.TheVariants as usage
use Rattle.command_words.specs.declared.usage.UsageFault.{UsageFault}
use Rattle.command_words.specs.declared.usage.UsageFault.TheVariants as fault
use Rattle.command_words.specs.Places.{place_at, command_named}
use Rattle.command_words.specs.Readers.{entry_at}
use Rattle.command_words.specs.Texts.{IsWord}
use Rattle.command_words.specs.Limits.{is_within}
use Rattle.command_words.specs.Repeats.{is_repeated, unknown_from}
use Rattle.command_words.specs.Commands.{Wrong, wrong, ◌>>=◌, checked, next_word, words_from, all_given, known, meaning_of, asked_by, answer_behind, answer, Answers}
use Rattle.command_words.specs.Spelled.{command_text, IsNext, AreNext, IsWrong, NoForm, NoNumber, Again, IsCommand, IsUsage, NoWord, NoCommand, InWord, NotGiven, NoLast}
use Rattle.command_words.proofs.Again.{word_again}
use Rattle.command_words.proofs.From.{word_from, step, none_some}

-- one word

module _ (command : CommandName) (before : List Entry) (text : List ℕ) where
  abbrev at : Option Entry
  at = entry_at (place_at command (length before)) text

  abbrev number : ℕ
  number = length before + 1

  -- what is made of a word that is read
  judged : (word : Entry) (within repeated : Bool) → is_within word ≡ within → is_repeated before word ≡ repeated → IsWord (place_at command (length before)) word text →
      next_word command before text ≡ cond (not within) (Err (wrong number usage.Number)) (cond repeated (Err (wrong number usage.Repeated)) (Ok word))
  judged word within repeated w r is =
      ap (checked before) (ap (entry_at (place_at command (length before))) is.text ∙ word_again (place_at command (length before)) word is.stands is.well)
      ∙ ap (λ (b : Bool). cond (not b) (Err (wrong number usage.Number)) (cond (is_repeated before word) (Err (wrong number usage.Repeated)) (Ok word))) w
      ∙ ap (λ (b : Bool). cond (not within) (Err (wrong number usage.Number)) (cond b (Err (wrong number usage.Repeated)) (Ok word))) r

  pub next_to : (word : Entry) → IsNext command before word text → next_word command before text ≡ Ok word
  next_to word h = judged word true false h.within h.once h.is

  no_entry : (o : Option Entry) → at ≡ o → ((word : Entry) → IsWord (place_at command (length before)) word text → ⊥) → at ≡ None
  no_entry None is none = is
  no_entry (Some word) is none = absurd (none word (word_from (place_at command (length before)) text word is))

  pub wrong_to : (k : UsageKind) → IsWrong command before text k → next_word command before text ≡ Err (wrong number k)
  wrong_to k (NoForm none) = ap (checked before) (no_entry at refl none)
  wrong_to k (NoNumber word is out) = judged word false (is_repeated before word) out refl is
  wrong_to k (Again word is within twice) = judged word true true within twice is

  -- what the answer to a word is
  abbrev IsJudged : Result Entry Wrong → Type 0
  IsJudged (Ok word) = IsNext command before word text
  IsJudged (Err e) = (k : UsageKind) × (e ≡ wrong number k) × IsWrong command before text k

  pub judged_as : IsJudged (next_word command before text)
  judged_as = from at refl
    where
      from : (o : Option Entry) → at ≡ o → IsJudged (checked before at)
      from None is = subst (λ (o : Option Entry). IsJudged (checked before o)) (sym is)
          (usage.Form, refl, NoForm (λ word h. none_some word (sym is ∙ ap (entry_at (place_at command (length before))) h.text ∙ word_again (place_at command (length before)) word h.stands h.well)))
      from (Some word) is =
          let h = word_from (place_at command (length before)) text word is in
          elim (cases_Bool (is_within word)) [
            | inl within ↦ elim (cases_Bool (is_repeated before word)) [
              | inl twice ↦ subst IsJudged (sym (judged word true true within twice h)) (usage.Repeated, refl, Again word h within twice)
              | inr once ↦ subst IsJudged (sym (judged word true false within once h)) (record { is = h; within = within; once = once })
            ]
            | inr out ↦ subst IsJudged (sym (judged word false (is_repeated before word) out refl h)) (usage.Number, refl, NoNumber word h out)
          ]

-- all words behind a command

pub read_to : (command : CommandName) (before : List Entry) (texts : List (List ℕ)) (words : List Entry) → AreNext command before texts words → words_from command before texts ≡ Ok (before ++ words)
read_to command before [] [] h = ap (λ (l : List Entry). Ok l) (sym (append-nil before))
read_to command before [] (word ∷ words) h = absurd h
read_to command before (text ∷ texts) [] h = absurd h
read_to command before (text ∷ texts) (word ∷ words) h =
    ap (λ (r : Result Entry Wrong). r >>= λ x. words_from command (before ++ x ∷ []) texts) (next_to command before text word h.0)
    ∙ read_to command (before ++ word ∷ []) texts words h.1
    ∙ ap (λ (l : List Entry). Ok l) (append_assoc before (word ∷ []) words)

pub wrong_in : (command : CommandName) (before : List Entry) (front : List (List ℕ)) (text : List ℕ) (rest : List (List ℕ)) (words : List Entry) (k : UsageKind) → AreNext command before front words → IsWrong command (before ++ words) text k →
    words_from command before (front ++ text ∷ rest) ≡ Err (wrong (length (before ++ words) + 1) k)
wrong_in command before [] text rest [] k h bad =
    let here : IsWrong command before text k = subst (λ (l : List Entry). IsWrong command l text k) (append-nil before) bad in
    ap (λ (r : Result Entry Wrong). r >>= λ x. words_from command (before ++ x ∷ []) rest) (wrong_to command before text k here)
    ∙ ap (λ (l : List Entry). Err (wrong (length l + 1) k)) (sym (append-nil before))
wrong_in command before [] text rest (word ∷ words) k h bad = absurd h
wrong_in command before (t ∷ front) text rest [] k h bad = absurd h
wrong_in command before (t ∷ front) text rest (word ∷ words) k h bad =
    let same = append_assoc before (word ∷ []) words in
    ap (λ (r : Result Entry Wrong). r >>= λ x. words_from command (before ++ x ∷ []) (front ++ text ∷ rest)) (next_to command before t word h.0)
    ∙ wrong_in command (before ++ word ∷ []) front text rest words k h.1 (subst (λ (l : List Entry). IsWrong command l text k) (sym same) bad)
    ∙ ap (λ (l : List Entry). Err (wrong (length l + 1) k)) same

abbrev IsRead : CommandName → List Entry → List (List ℕ) → Result (List Entry) Wrong → Type 0
IsRead command before texts (Ok all) = (words : List Entry) × (all ≡ before ++ words) × AreNext command before texts words
IsRead command before texts (Err e) = (front : List (List ℕ)) × (text : List ℕ) × (rest : List (List ℕ)) × (words : List Entry) × (k : UsageKind)
    × (texts ≡ front ++ text ∷ rest) × AreNext command before front words × IsWrong command (before ++ words) text k × (e ≡ wrong (length (before ++ words) + 1) k)

read_more : (command : CommandName) (before : List Entry) (text : List ℕ) (texts : List (List ℕ)) (word : Entry) (r : Result (List Entry) Wrong) → IsNext command before word text → IsRead command (before ++ word ∷ []) texts r → IsRead command before (text ∷ texts) r
read_more command before text texts word (Ok all) n h = (word ∷ h.0, h.1 ∙ append_assoc before (word ∷ []) h.0, (n, h.2))
read_more command before text texts word (Err e) n h =
    let same = append_assoc before (word ∷ []) h.3 in
    (text ∷ h.0, h.1, h.2, word ∷ h.3, h.4, ap (λ (l : List (List ℕ)). text ∷ l) h.5, (n, h.6), subst (λ (l : List Entry). IsWrong command l h.1 h.4) same h.7, h.8 ∙ ap (λ (l : List Entry). wrong (length l + 1) h.4) same)

read_next : (command : CommandName) (before : List Entry) (text : List ℕ) (texts : List (List ℕ)) (r : Result Entry Wrong) → IsJudged command before text r → ((word : Entry) → IsRead command (before ++ word ∷ []) texts (words_from command (before ++ word ∷ []) texts)) →
    IsRead command before (text ∷ texts) (r >>= λ word. words_from command (before ++ word ∷ []) texts)
read_next command before text texts (Ok word) n more = read_more command before text texts word (words_from command (before ++ word ∷ []) texts) n (more word)
read_next command before text texts (Err e) bad more =
    let same = sym (append-nil before) in
    ([], text, texts, [], bad.0, refl, tt, subst (λ (l : List Entry). IsWrong command l text bad.0) same bad.2, bad.1 ∙ ap (λ (l : List Entry). wrong (length l + 1) bad.0) same)

read_as : (command : CommandName) (before : List Entry) (texts : List (List ℕ)) → IsRead command before texts (words_from command before texts)
read_as command before [] = ([], sym (append-nil before), tt)
read_as command before (text ∷ texts) = read_next command before text texts (next_word command before text) (judged_as command before text) (λ word. read_as command (before ++ word ∷ []) texts)

-- the command

named_to : (command : CommandName) → command_named (command_text command) ≡ Some command
named_to Run = refl
named_to Build = refl
named_to Asm = refl
named_to Dis = refl
named_to Gen = refl

named_inv : (text : List ℕ) (command : CommandName) → command_named text ≡ Some command → text ≡ command_text command
named_inv text command =
    step text (codes "run") (λ x. text ≡ command_text x) Run command _ (λ t. t)
    (step text (codes "build") (λ x. text ≡ command_text x) Build command _ (λ t. t)
    (step text (codes "asm") (λ x. text ≡ command_text x) Asm command _ (λ t. t)
    (step text (codes "dis") (λ x. text ≡ command_text x) Dis command _ (λ t. t)
    (step text (codes "gen") (λ x. text ≡ command_text x) Gen command _ (λ t. t)
    (λ n. absurd (none_some command n))))))

no_name : (text : List ℕ) (o : Option CommandName) → command_named text ≡ o → ((command : CommandName) → text ≢ command_text command) → command_named text ≡ None
no_name text None is none = is
no_name text (Some command) is none = absurd (none command (named_inv text command is))

-- the answer

abbrev behind : CommandName → List (List ℕ) → Result (List Entry) Wrong → Result Command Wrong
behind command texts r = (r >>= known) >>= λ words. asked_by (length texts + 1) (meaning_of command words)

begins : (written : List (List ℕ)) (command : CommandName) (texts : List (List ℕ)) → written ≡ command_text command ∷ texts → answer written ≡ behind command texts (words_from command [] texts)
begins written command texts named = ap answer named ∙ ap (λ (o : Option CommandName). answer_behind o texts) (named_to command)

ends : (command : CommandName) (texts : List (List ℕ)) (words : List Entry) (given : Option ℕ) → AreNext command [] texts words → unknown_from words 0 words ≡ given →
    behind command texts (words_from command [] texts) ≡ (all_given words given >>= λ all. asked_by (length texts + 1) (meaning_of command all))
ends command texts words given read is =
    ap (behind command texts) (read_to command [] texts words read)
    ∙ ap (λ (o : Option ℕ). all_given words o >>= λ all. asked_by (length texts + 1) (meaning_of command all)) is

pub command_to : (written : List (List ℕ)) (c : Command) → IsCommand written c → answer written ≡ Ok c
command_to written c h =
    begins written h.command h.texts h.named
    ∙ ends h.command h.texts h.words None h.read h.given
    ∙ ap (asked_by (length h.texts + 1)) h.asks

abbrev fault_of : ℕ → UsageKind → Result Command Wrong
fault_of n k = Err (record { word = n; kind = k })

pub usage_to : (written : List (List ℕ)) (n : ℕ) (k : UsageKind) → IsUsage written n k → answer written ≡ fault_of n k
usage_to written n k (NoWord none zero') = ap answer none ∙ ap (λ (m : ℕ). fault_of m usage.Command) (sym zero')
usage_to written n k (NoCommand text texts is other zero') =
    ap answer is
    ∙ ap (λ (o : Option CommandName). answer_behind o texts) (no_name text (command_named text) refl other)
    ∙ ap (λ (m : ℕ). fault_of m usage.Command) (sym zero')
usage_to written n k (InWord command front text rest before k' named read bad is) =
    begins written command (front ++ text ∷ rest) named
    ∙ ap (behind command (front ++ text ∷ rest)) (wrong_in command [] front text rest before k read bad)
    ∙ ap (λ (m : ℕ). fault_of m k) (sym is)
usage_to written n k (NotGiven command texts words place named read unknown is) =
    begins written command texts named
    ∙ ends command texts words (Some place) read unknown
    ∙ ap (λ (m : ℕ). fault_of m usage.Unknown) (sym is)
usage_to written n k (NoLast command texts words named read given missing is) =
    begins written command texts named
    ∙ ends command texts words None read given
    ∙ ap (asked_by (length texts + 1)) missing
    ∙ ap (λ (m : ℕ). fault_of m usage.Missing) (sym is)

abbrev IsAnswer : List (List ℕ) → Result Command Wrong → Type 0
IsAnswer written (Ok c) = IsCommand written c
IsAnswer written (Err e) = IsUsage written e.word e.kind

asked_as : (written : List (List ℕ)) (command : CommandName) (texts : List (List ℕ)) (words : List Entry) (o : Option Command) → written ≡ command_text command ∷ texts → AreNext command [] texts words → unknown_from words 0 words ≡ None → meaning_of command words ≡ o →
    IsAnswer written (asked_by (length texts + 1) o)
asked_as written command texts words None named read given is = NoLast command texts words named read given is refl
asked_as written command texts words (Some c) named read given is = record { command = command; texts = texts; words = words; named = named; read = read; given = given; asks = is }

given_as : (written : List (List ℕ)) (command : CommandName) (texts : List (List ℕ)) (words : List Entry) (o : Option ℕ) → written ≡ command_text command ∷ texts → AreNext command [] texts words → unknown_from words 0 words ≡ o →
    IsAnswer written (all_given words o >>= λ all. asked_by (length texts + 1) (meaning_of command all))
given_as written command texts words (Some place) named read is = NotGiven command texts words place named read is refl
given_as written command texts words None named read is = asked_as written command texts words (meaning_of command words) named read is refl

behind_as : (written : List (List ℕ)) (command : CommandName) (texts : List (List ℕ)) (r : Result (List Entry) Wrong) → written ≡ command_text command ∷ texts → IsRead command [] texts r → IsAnswer written (behind command texts r)
behind_as written command texts (Ok all) named h =
    subst (λ (l : List Entry). IsAnswer written (behind command texts (Ok l))) (sym h.1) (given_as written command texts h.0 (unknown_from h.0 0 h.0) named h.2 refl)
behind_as written command texts (Err e) named h =
    subst (λ (x : Wrong). IsUsage written x.word x.kind) (sym h.8)
    (InWord command h.0 h.1 h.2 h.3 h.4 (named ∙ ap (λ (l : List (List ℕ)). command_text command ∷ l) h.5) h.6 h.7 refl)

pub answered : (written : List (List ℕ)) → IsAnswer written (answer written)
answered [] = NoWord refl refl
answered (text ∷ texts) = from (command_named text) refl
  where
    from : (o : Option CommandName) → command_named text ≡ o → IsAnswer (text ∷ texts) (answer_behind o texts)
    from None is = NoCommand text texts refl (λ command e. none_some command (sym is ∙ ap command_named e ∙ named_to command)) refl
    from (Some command) is = behind_as (text ∷ texts) command texts (words_from command [] texts) (ap (λ (l : List ℕ). l ∷ texts) (named_inv text command is)) (read_as command [] texts)

-- what was read, by its answer

abbrev ok_of : Result Command Wrong → Option Command
ok_of (Ok c) = Some c
ok_of (Err e) = None

abbrev wrong_of : Result Command Wrong → Option Wrong
wrong_of (Ok c) = None
wrong_of (Err e) = Some e

pub read_spelled : (written : List (List ℕ)) (r : Result Command UsageFault) → Answers r (answer written) → IfOk r (IsCommand written)
read_spelled written (Ok c) h = subst (IsAnswer written) h (answered written)
read_spelled written (Err f) h = tt

pub only_read : (written : List (List ℕ)) (r : Result Command UsageFault) → Answers r (answer written) → (c : Command) → IsCommand written c → (r ≡ Ok c) ⊎ (r ≡ Err fault.Memory)
only_read written (Ok d) h c k = inl (ap (λ (x : Command). Ok x) (same_Some d c (ap ok_of (sym h ∙ command_to written c k))))
only_read written (Err (fault.Usage n k')) h c k = absurd (none_some c (ap ok_of (sym h ∙ command_to written c k)))
only_read written (Err fault.Memory) h c k = inr refl

pub read_fault : (written : List (List ℕ)) (r : Result Command UsageFault) → Answers r (answer written) → (n : ℕ) (k : UsageKind) → r ≡ Err (fault.Usage n k) → IsUsage written n k
read_fault written r h n k e =
    let found : answer written ≡ fault_of n k = subst (λ (x : Result Command UsageFault). Answers x (answer written)) e h in
    subst (IsAnswer written) found (answered written)

pub only_fault : (written : List (List ℕ)) (r : Result Command UsageFault) → Answers r (answer written) → (n : ℕ) (k : UsageKind) → IsUsage written n k → (r ≡ Err (fault.Usage n k)) ⊎ (r ≡ Err fault.Memory)
only_fault written (Ok d) h n k bad = absurd (none_some (record { word = n; kind = k }) (ap wrong_of (sym h ∙ usage_to written n k bad)))
only_fault written (Err (fault.Usage m l)) h n k bad =
    let same = same_Some (record { word = m; kind = l }) (record { word = n; kind = k }) (ap wrong_of (sym h ∙ usage_to written n k bad)) in
    inl (ap (λ (x : Wrong). Err (fault.Usage x.word x.kind)) same)
only_fault written (Err fault.Memory) h n k bad = inr refl

-- no words at all
pub no_words : (written : List (List ℕ)) → length written ≡ 0 → answer written ≡ fault_of 0 usage.Command
no_words [] none = refl
no_words (text ∷ texts) none = absurd (omega (arith, none))
