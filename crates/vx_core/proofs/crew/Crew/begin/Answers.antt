use Rattle.std.proofs.Common.{ℕ, ap, ◌∙◌}
use Rattle.vx_isa.specs.Warps.{WarpState}
use Rattle.vx_isa.specs.WarpSteps.{code_start}
use Rattle.vx_core.proofs.SetLaws.{first-started}
use Rattle.vx_core.proofs.crew.Crew.begin.Goals as goal

pub returns : goal.returns
returns c = record {
  first = ap (λ (warps : ℕ → WarpState). warps 0) c.restart.ensures.warps;
  others = λ w other. ap (λ (warps : ℕ → WarpState). (warps w).mask) c.restart.ensures.warps ∙ ap (λ (v : WarpState). v.mask) (first-started w code_start other);
  begun_is = c.restart.ensures.begun;
  none_wait = c.restart.ensures.barriers;
}
