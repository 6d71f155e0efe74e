use Rattle.std.proofs.Common.{refl, sym, ◌∙◌}
use Rattle.std.specs.Prelude.{codes}
use Rattle.std.proofs.lemmas.List.{append_cancel_left}
use Rattle.vx_words.proofs.Texts.{buffer_cut, buffer_lacks_not}
use Rattle.vx_words.proofs.Refusals.{refused}
use Rattle.vx_words.specs.Words.{origin_text}
use Rattle.vx_words.proofs.further.read_buffer.Goals as goal

pub returns-in_default : goal.returns-in_default
returns-in_default c = (refl, refl, λ b h. buffer_lacks_not c.args.text.now b.name (origin_text b.from) c.in_default.ensures h.2)

pub returns-in_default-behind : goal.returns-in_default-behind
returns-in_default-behind c = (
  refl,
  refl,
  λ b h.
      let p = buffer_cut c.args.text.now c.in-Some.name.now c.in-Some.rest.now b.name (origin_text b.from) c.in-Some.ensures h.0 h.2 in
      c.in_default-behind.ensures (origin_text b.from) p.1,
)

pub returns-in_err-name : goal.returns-in_err-name
returns-in_err-name c = refused c.from_residual.result c.in_err-name.field-0.0 _ _ _ c.from_residual.ensures.1 c.in_err-name.ensures (λ none b h.
    let p = buffer_cut c.args.text.now c.in-Some.name.now c.in-Some.rest.now b.name (origin_text b.from) c.in-Some.ensures h.0 h.2 in
    none b.name (h.0, p.0))

pub returns-in_err-from : goal.returns-in_err-from
returns-in_err-from c = refused c.from_residual-in_err-from.result c.in_err-from.field-0.0 _ _ _ c.from_residual-in_err-from.ensures.1 c.in_err-from.ensures (λ none b h.
    let p = buffer_cut c.args.text.now c.in-Some.name.now c.in-Some.rest.now b.name (origin_text b.from) c.in-Some.ensures h.0 h.2 in
    none b.from (h.1, append_cancel_left (codes "int:") c.in-Some-behind.origin.now (origin_text b.from) (sym c.in-Some-behind.ensures ∙ p.1)))
