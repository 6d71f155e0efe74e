use Rattle.std.proofs.Common.{◌≡◌, eqb, map, ◌∙◌, sym, ap}
use Rattle.std.specs.List.{join_with_byte, slice_split}
use Rattle.std.proofs.lemmas.Result.{MatchResult-weaker}
use Rattle.std.proofs.lemmas.List.Splits.{join_with_byte-slice_split}
use Rattle.vx_words.proofs.Refusals.{IsBadForm-weaker}
use Rattle.vx_words.proofs.Texts.{slice_split-join_with_byte, slice_split-some}
use Rattle.vx_words.proofs.further.read_names.Goals as goal

pub returns : goal.returns
returns c =
    let parts : map (λ part. part.now) c.in_ok-parts.parts.items ≡ slice_split (λ b. eqb b 44) c.args.text.now = c.in_ok-parts.ensures in
    let same = ap (map (λ part. part.now)) c.as_slice.ensures.value ∙ parts in
    MatchResult-weaker c.read_each.result c.read_each.ensures
    (λ names h.
    let e : slice_split (λ b. eqb b 44) c.args.text.now ≡ names = sym same ∙ h.1 in
    (h.0, λ nil. slice_split-some c.args.text.now (e ∙ nil), sym (join_with_byte-slice_split 44 c.args.text.now) ∙ ap (join_with_byte 44) e))
    (λ fault bad. IsBadForm-weaker fault _ _ (λ none names h. none names (h.0, same ∙ ap (slice_split (λ b. eqb b 44)) h.2 ∙ slice_split-join_with_byte names h.0 h.1)) bad)
