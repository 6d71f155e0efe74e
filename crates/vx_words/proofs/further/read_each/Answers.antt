use Rattle.std.proofs.Common.{List, [], ℕ, ◌∙◌, sym, arith}
use Rattle.std.proofs.lemmas.List.{map-id}
use denote.Ref.{Bor}
use Rattle.vx_words.specs.Names.{IsName}
use Rattle.vx_words.proofs.Refusals.{refused}
use Rattle.vx_words.proofs.Lists.{refused_at}
use Rattle.vx_words.proofs.further.read_each.Goals as goal

pub returns-in_err-read_name : goal.returns-in_err-read_name
returns-in_err-read_name c = refused c.from_residual.result c.in_err-read_name.field-0.0 _ _ _ c.from_residual.ensures.1 c.in_err-read_name.ensures (λ none names h.
    let past : Bor (List ℕ) = record { ref_ptr = (0, 0); now = [] } in
    refused_at (λ part. part.now) (λ (n : List ℕ). n) IsName c.args.parts.now names c.loop-part.part-index past (omega arith) (h.1 ∙ sym (map-id names)) h.0 (λ n is e. none n (is, e)))
