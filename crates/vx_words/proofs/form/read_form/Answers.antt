use Rattle.std.proofs.Common.{◌≡◌, List, ℕ, ◌∷◌, map, refl, ap, sym, ◌∙◌, subst, arith}
use Rattle.std.specs.Prelude.{codes}
use Rattle.std.specs.String.{string_bytes}
use Rattle.std.proofs.lemmas.List.{length-map}
use Rattle.std.proofs.lemmas.Result.{MatchResult-weaker}
use Rattle.vx_words.specs.declared.run_words.RunWords.{RunWords}
use Rattle.vx_words.specs.Words.{IsRun}
use Rattle.vx_words.proofs.Refusals.{refused, IsBadForm-weaker}
use Rattle.vx_words.proofs.RunMeaning.{run_short, run_spells, run_from_meaning, meaning_from_run}
use Rattle.vx_words.proofs.form.read_form.Goals as goal

-- from words to the same words
along : (ws vs : List (List ℕ)) (c : RunWords) → ws ≡ vs → IsRun (codes "run" ∷ ws) c → IsRun (codes "run" ∷ vs) c
along ws vs c e h = subst (λ (l : List (List ℕ)). IsRun (codes "run" ∷ l) c) e h

pub returns-then-further-gt-MOST_FURTHER : goal.returns-then-further-gt-MOST_FURTHER
returns-then-further-gt-MOST_FURTHER c = (
  refl,
  refl,
  λ x h.
      let e = ap (map string_bytes) c.in-Some.ensures.cases.0 in
      let short = run_short _ _ x (along _ _ x e h) in
      let same = length-map c.in-Some.further.now string_bytes in
      omega arith,
)

pub returns-in_err-further : goal.returns-in_err-further
returns-in_err-further c = refused c.from_residual.result c.in_err-further.field-0.0 _ _ _ c.from_residual.ensures.1 c.in_err-further.ensures (λ none x h.
    let e = ap (map string_bytes) c.in-Some.ensures.cases.0 in
    let run = along _ _ x e h in
    none run.further (run_spells _ _ x run))

pub returns : goal.returns
returns c =
    let e = ap (map string_bytes) c.in-Some.ensures.cases.0 in
    let file = c.as_str.ensures.value in
    let spells = c.in_ok-further.ensures in
    let parts = c.in_ok-parts.ensures in
    MatchResult-weaker c.run_of.result c.run_of.ensures
    (λ x h. along _ _ x (sym e) (run_from_meaning (string_bytes c.in-Some.file.now) _ _ c.in_ok-parts.parts spells parts x (h.0 ∙ file) h.1))
    (λ fault bad. IsBadForm-weaker fault _ _ (λ none x h.
    let m = meaning_from_run (string_bytes c.in-Some.file.now) _ _ c.in_ok-parts.parts spells parts x (along _ _ x e h) in
    none x (m.0 ∙ sym file, m.1)) bad)
