use Rattle.std.proofs.Common.{◌≡◌, ◌∷◌, List, ℕ, map, length, true, false, eqb, sym, ap, ◌∙◌, subst}
use Rattle.std.specs.Prelude.{codes}
use Rattle.std.specs.String.{string_bytes}
use Rattle.std.proofs.lemmas.Bool.{false≢true, eq-eqb, eqb-true}
use Rattle.std.proofs.lemmas.List.{length-map}
use Rattle.vx_words.specs.Names.{is_name}
use Rattle.vx_words.specs.Commands.{IsCommand}
use Rattle.vx_words.specs.declared.command.Command.TheVariants.{Build}
use Rattle.vx_words.proofs.OneReading.{no_source, no_entry, bad_entry, word_behind_entry, entry_reads}
use Rattle.vx_words.proofs.command.read_build.Goals as goal

pub returns-in_default : goal.returns-in_default
returns-in_default c = no_source (map string_bytes c.args.behind.now) (length-map c.args.behind.now string_bytes ∙ c.in_default.ensures.cases)

pub returns-in_default-split_first : goal.returns-in_default-split_first
returns-in_default-split_first c =
    no_entry (map string_bytes c.args.behind.now) (map string_bytes c.in-Some.behind_file.now) (string_bytes c.in-Some.file.now) (ap (map string_bytes) c.in-Some.ensures.cases.0)
    (length-map c.in-Some.behind_file.now string_bytes ∙ c.in_default-split_first.ensures.cases)

pub returns-then-not-is_name : goal.returns-then-not-is_name
returns-then-not-is_name c =
    bad_entry (map string_bytes c.args.behind.now) (map string_bytes c.in-Some.behind_file.now) (map string_bytes c.in-Some-split_first.more.now) (string_bytes c.in-Some.file.now)
    (string_bytes c.in-Some-split_first.entry.now) (ap (map string_bytes) c.in-Some.ensures.cases.0) (ap (map string_bytes) c.in-Some-split_first.ensures.cases.0)
    (ap is_name (sym c.as_bytes.ensures.value) ∙ sym c.if-not-is_name.ensures)

pub returns-then-not-is_empty : goal.returns-then-not-is_empty
returns-then-not-is_empty c =
    let more = c.in-Some-split_first.more.now in
    let differs : false ≡ eqb (length more) 0 = c.if-not-is_empty.ensures in
    let some : length (map string_bytes more) ≡ 0 → ⊥ = λ e. false≢true (differs ∙ eq-eqb (length more) 0 (sym (length-map more string_bytes) ∙ e)) in
    word_behind_entry (map string_bytes c.args.behind.now) (map string_bytes c.in-Some.behind_file.now) (map string_bytes c.in-Some-split_first.more.now) (string_bytes c.in-Some.file.now)
    (string_bytes c.in-Some-split_first.entry.now) (ap (map string_bytes) c.in-Some.ensures.cases.0) (ap (map string_bytes) c.in-Some-split_first.ensures.cases.0)
    (ap is_name (sym c.as_bytes.ensures.value) ∙ sym c.if-not-is_name.ensures) some

pub returns : goal.returns
returns c =
    let more = c.in-Some-split_first.more.now in
    let empty : true ≡ eqb (length more) 0 = c.if-not-is_empty.ensures in
    let none : length (map string_bytes more) ≡ 0 = length-map more string_bytes ∙ eqb-true (length more) 0 (sym empty) in
    let file : string_bytes c.in-Some.file.now ≡ c.in_ok-file.file = sym c.as_str.ensures.value ∙ c.in_ok-file.ensures in
    let entry : string_bytes c.in-Some-split_first.entry.now ≡ c.in_ok-entry.entry = sym c.as_str-2.ensures.value ∙ c.in_ok-entry.ensures in
    let asked = entry_reads (map string_bytes c.args.behind.now) (map string_bytes c.in-Some.behind_file.now) (map string_bytes more) (string_bytes c.in-Some.file.now)
    (string_bytes c.in-Some-split_first.entry.now) (ap (map string_bytes) c.in-Some.ensures.cases.0) (ap (map string_bytes) c.in-Some-split_first.ensures.cases.0)
    (ap is_name (sym c.as_bytes.ensures.value) ∙ sym c.if-not-is_name.ensures) none in
    subst (λ f. IsCommand (codes "build" ∷ map string_bytes c.args.behind.now) (Build f c.in_ok-entry.entry)) file
    (subst (λ e. IsCommand (codes "build" ∷ map string_bytes c.args.behind.now) (Build (string_bytes c.in-Some.file.now) e)) entry asked)
