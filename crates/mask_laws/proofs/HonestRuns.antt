-- Honest answers make a run honest: where the lanes of a warp load an element of a `__constant` array, each asks in the array, and is answered
-- what the place held at the opening.
use Rattle.std.proofs.Common.{◌≡◌, ℕ, Bool, true, false, List, [], ◌∷◌, ◌++◌, drop, refl, ap, sym, ◌∙◌, subst}
use Rattle.vx_base.specs.Bytes.{bytes_of}
use Rattle.vx_base.specs.declared.types.Elem.{Elem}
use Rattle.item_acts.specs.declared.acts.Bound.{Bound}
use Rattle.item_acts.specs.declared.acts.Place.{Place}
use Rattle.item_acts.specs.Launches.{field_at}
use Rattle.item_settings.specs.Settings.{elem_size}
use Rattle.kir.specs.Machine.{value}
use Rattle.kir.specs.Trees.{Operand, KirCode}
use Rattle.vx_isa.specs.Warps.{has_lane}
use Rattle.vcode.specs.Code.{VOp, Fetch}
use Rattle.vcode.specs.Machine as vcode
use Rattle.simt_lowering.specs.Kept.{CanLower, item_place}
use Rattle.simt_lowering.specs.Lowered.{kernel_code}
use Rattle.simt_lowering.specs.Runs.{begin}
use Rattle.warp_code.specs.Warps.{Crew, VWarp, around_of, warp_step}
use Rattle.warp_code.specs.Runs.{Comes, GoesOn, Runs, answers_in, numbers_in, alone}
use Rattle.mask_laws.specs.Constants.{IsConstantField, LoadsConstant}
use Rattle.mask_laws.specs.Honest.{IsHonest, IsHonestStep, IsHonestRun}
use Rattle.mask_laws.specs.Labels.{kernel_spots, ops_of, spot_in, first_of_list}
use Rattle.mask_laws.specs.Laws.{InStep}
use Rattle.mask_laws.specs.Opened.{OpAnswers, FirstAnswers, StepAnswers, RunAnswers, IsOfLaunch, HonestAnswers, HonestAnswersGiveHonestRuns, WarpsTakeHonestAnswers}
use Rattle.mask_laws.specs.Spots.{Spot}
use Rattle.mask_laws.proofs.Accessing.{Led, led}
use Rattle.mask_laws.proofs.ConstantLoads.{loads_are_constant}
use Rattle.mask_laws.proofs.Law.{warps_in_step}
use Rattle.mask_laws.proofs.RunLaw.{drop_ops}
use Rattle.mask_laws.proofs.Spelling.{kernel_spells}

module _ (code : KirCode) (bounds : List Bound) (opening : Place → ℕ) (k : Crew) (one_place : (l l' address : ℕ) → k.places l address ≡ k.places l' address) (w : VWarp) (answers : ℕ → ℕ) where
  -- each active lane asks in the array
  abbrev Asks : Bool → VOp → Type 0
  Asks shared op = (l : ℕ) → has_lane w.mask l ≡ true → LoadsConstant code bounds (around_of k l) shared op (w.lanes l).registers

  fetch_honest : (d : ℕ) (elem : Elem) (a : Operand) → Asks true (Fetch d elem a) → OpAnswers code bounds opening k (Fetch d elem a) w answers → IsHonest true (Fetch d elem a) w answers
  fetch_honest d elem a asks loads e l l' is_in is_in' same =
      loads l is_in (asks l is_in)
      ∙ ap (λ q. field_at opening q (bytes_of (elem_size elem))) (ap (k.places l) same ∙ one_place l l' (value (w.lanes l').registers a))
      ∙ sym (loads l' is_in' (asks l' is_in'))

  no_fetch : (op : VOp) → IsHonest false op w answers
  no_fetch (Fetch d elem a) = λ e. absurd (no e) where
    no : false ≡ true → ⊥
    no h = absurd (cc)
  no_fetch op = tt

  op_honest : (shared : Bool) (op : VOp) → Asks shared op → OpAnswers code bounds opening k op w answers → IsHonest shared op w answers
  op_honest false op asks loads = no_fetch op
  op_honest true (Fetch d elem a) asks loads = fetch_honest d elem a asks loads
  op_honest true op asks loads = tt

  first_honest : (list : List Spot) → Asks (first_of_list list).shared (first_of_list list).op → FirstAnswers code bounds opening k (ops_of list) w answers
      → IsHonest (first_of_list list).shared (first_of_list list).op w answers
  first_honest [] asks loads = tt
  first_honest (s ∷ rest) asks loads = op_honest s.shared s.op asks loads

module _ (marks : ℕ → Bool) (code : KirCode) (k : Crew) (is_first : Bool) (can : CanLower code) (from : InStep marks code k is_first) (bounds : List Bound) (opening : Place → ℕ)
    (launch : IsOfLaunch marks code bounds k) where
  abbrev ops : List VOp
  ops = kernel_code marks code

  -- what an active lane loads behind an honest run
  lane_loads : (run : List (ℕ → ℕ)) (w' : VWarp) → IsHonestRun marks code k from.w run → Runs k (kernel_code marks code) from.w run w' → (l : ℕ) → has_lane w'.mask l ≡ true
      → LoadsConstant code bounds (around_of k l) (spot_in (kernel_spots marks code) w'.place).shared (spot_in (kernel_spots marks code) w'.place).op (w'.lanes l).registers
  lane_loads run w' honest runs l is_in =
      let now = from.runs run w' honest runs in
      let was_in : has_lane from.w.mask l ≡ true = now.active l is_in in
      let start = from.at_items.lanes l was_in in
      let numbers : List ℕ = numbers_in k (kernel_code marks code) l from.w run [] in
      let reached : Led (around_of k l) (kernel_code marks code) (begin item_place start.0 numbers) [] (alone (w'.lanes l) []) =
      led (around_of k l) (kernel_code marks code) []
      (subst (λ v. Comes (vcode.step (around_of k l) (kernel_code marks code)) (alone v numbers) (answers_in k (kernel_code marks code) l from.w run) (alone (w'.lanes l) [])) start.1 (now.comes l [])) in
      subst (λ p. LoadsConstant code bounds (around_of k l) (spot_in (kernel_spots marks code) p).shared (spot_in (kernel_spots marks code) p).op (w'.lanes l).registers) (now.here l is_in)
      (loads_are_constant marks code launch.range bounds (launch.item l) (around_of k l) can (launch.arrays l (from.at_items.only l was_in)) start.0 numbers reached.steps (alone (w'.lanes l) [])
      reached.written reached.comes)

  step_honest : (run : List (ℕ → ℕ)) (w' : VWarp) → IsHonestRun marks code k from.w run → Runs k (kernel_code marks code) from.w run w' → (answers : ℕ → ℕ)
      → StepAnswers marks code bounds opening k w' answers → IsHonestStep marks code w' answers
  step_honest run w' honest runs answers loads =
      first_honest code bounds opening k launch.one_place w' answers (drop w'.place (kernel_spots marks code)) (lane_loads run w' honest runs)
      (subst (λ c. FirstAnswers code bounds opening k c w' answers) (ap (λ c. drop w'.place c) (sym (kernel_spells marks code)) ∙ drop_ops (kernel_spots marks code) w'.place) loads)

  -- one more step behind a run
  honest_more : (pre : List (ℕ → ℕ)) (v w : VWarp) (answers : ℕ → ℕ) → IsHonestRun marks code k v pre → Runs k (kernel_code marks code) v pre w → IsHonestStep marks code w answers
      → IsHonestRun marks code k v (pre ++ answers ∷ [])
  honest_more [] v w answers honest runs step = (subst (λ u. IsHonestStep marks code u answers) (sym runs) step, tt)
  honest_more (first ∷ pre) v w answers honest runs step = (honest.0, honest_more pre (warp_step k (kernel_code marks code) first v).warp w answers honest.1 runs.1 step)

  runs_more : (pre : List (ℕ → ℕ)) (v w : VWarp) (answers : ℕ → ℕ) → Runs k (kernel_code marks code) v pre w → GoesOn (warp_step k (kernel_code marks code) answers w).outcome
      → Runs k (kernel_code marks code) v (pre ++ answers ∷ []) (warp_step k (kernel_code marks code) answers w).warp
  runs_more [] v w answers runs goes = (
    subst (λ u. GoesOn (warp_step k (kernel_code marks code) answers u).outcome) (sym runs) goes,
    ap (λ u. (warp_step k (kernel_code marks code) answers u).warp) runs,
  )
  runs_more (first ∷ pre) v w answers runs goes = (runs.0, runs_more pre (warp_step k (kernel_code marks code) first v).warp w answers runs.1 goes)

  -- what comes behind an honest run
  later_honest : (pre : List (ℕ → ℕ)) (w : VWarp) (later : List (ℕ → ℕ)) (w' : VWarp) → IsHonestRun marks code k from.w pre → Runs k (kernel_code marks code) from.w pre w
      → RunAnswers marks code bounds opening k w later → Runs k (kernel_code marks code) w later w' → IsHonestRun marks code k w later
  later_honest pre w [] w' honest runs loads goes = tt
  later_honest pre w (answers ∷ later) w' honest runs loads goes =
      let here : IsHonestStep marks code w answers = step_honest pre w honest runs answers loads.0 in (
        here,
        later_honest (pre ++ answers ∷ []) (warp_step k (kernel_code marks code) answers w).warp later w' (honest_more pre from.w w answers honest runs here)
            (runs_more pre from.w w answers runs goes.0) loads.1 goes.1,
      )

  run_honest : (run : List (ℕ → ℕ)) (w' : VWarp) → RunAnswers marks code bounds opening k from.w run → Runs k (kernel_code marks code) from.w run w'
      → IsHonestRun marks code k from.w run × ((answers : ℕ → ℕ) → StepAnswers marks code bounds opening k w' answers → IsHonestStep marks code w' answers)
  run_honest run w' loads runs =
      let honest : IsHonestRun marks code k from.w run = later_honest [] from.w run w' tt refl loads runs in
      (honest, λ answers next. step_honest run w' honest runs answers next)

pub honest_runs : HonestAnswersGiveHonestRuns
honest_runs marks code k is_first can from run w' honest runs = run_honest marks code k is_first can from honest.bounds honest.opening honest.launch run w' honest.loads runs

pub take_honest : WarpsTakeHonestAnswers
take_honest marks code k is_first may can has =
    let from : InStep marks code k is_first = warps_in_step marks code k is_first may has in
    record {
      in_step = from;
      runs = λ run w' honest runs. from.runs run w' (honest_runs marks code k is_first can from run w' honest runs).0 runs;
      next = λ run w' honest runs. (honest_runs marks code k is_first can from run w' honest runs).1;
    }
