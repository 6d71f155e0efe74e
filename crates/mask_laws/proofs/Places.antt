-- Each lane of a warp is at a place of the code, with as many numbers of turns as loops stand round it there.
use Rattle.std.proofs.Common.{◌≡◌, ℕ, Bool, List, ◌∷◌, drop, ap, sym, ◌∙◌, subst}
use Rattle.item_acts.specs.Machine.{Step, Go, Ask}
use Rattle.vcode.specs.Code.{VOp}
use Rattle.vcode.specs.Machine as vcode
use Rattle.vcode.specs.Machine.{Around, Lane, lane, op_step}
use Rattle.warp_code.specs.Runs.{Comes, Stays, Goes, Takes}
use Rattle.mask_laws.specs.Spots.{Spot}
use Rattle.mask_laws.specs.Labels.{spot_in, ops_of}
use Rattle.mask_laws.proofs.Fits.{Fits}
use Rattle.mask_laws.proofs.Order.{starts_at, MayBe}
use Rattle.mask_laws.proofs.RunLaw.{drop_ops}
use Rattle.mask_laws.proofs.Later.{StepRises, lane_step, rises_at, there_stands}

module _ (whole : List Spot) (code : List VOp) (spelled : ops_of whole ≡ code) (uni : ℕ → Bool) (fits : (p : ℕ) → Fits (spot_in whole) uni p) (at : Around) where
  rises_by : (s : Lane) (d : Step Lane) → MayBe (spot_in whole) s.place s.turns → vcode.step at code s ≡ d → StepRises (spot_in whole) (starts_at (spot_in whole) s.place) s.place s.turns d
  rises_by s d may e =
      subst (StepRises (spot_in whole) (starts_at (spot_in whole) s.place) s.place s.turns) (sym (lane_step whole code spelled uni fits at s.place s.registers s.turns s.numbers may.there) ∙ e)
      (rises_at whole code spelled uni fits at s.place s.registers s.turns s.numbers may)

  -- a lane that comes from such a place is at such a place
  pub comes_may : {s t : Lane} {answers : List ℕ} → Comes (vcode.step at code) s answers t → MayBe (spot_in whole) s.place s.turns → MayBe (spot_in whole) t.place t.turns
  comes_may (Stays s) may = may
  comes_may (Goes s s' t answers goes comes) may = comes_may comes (rises_by s (Go s') may goes).may
  comes_may (Takes s a next answer t answers takes comes) may = comes_may comes (rises_by s (Ask a next) may takes answer).may

  -- an operation stands there
  pub op_there : (p : ℕ) (ts : List ℕ) → MayBe (spot_in whole) p ts → (op : VOp) × ((ops : List VOp) × (drop p code ≡ op ∷ ops))
  op_there p ts may =
      let found = there_stands whole code spelled uni fits at (drop p whole) may.there in
      ((spot_in whole p).op, (found.0, ap (λ c. drop p c) (sym spelled) ∙ drop_ops whole p ∙ found.1))
