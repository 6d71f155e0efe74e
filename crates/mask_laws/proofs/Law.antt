-- The law of a warp over a lowered kernel.
use Rattle.std.proofs.Common.{◌≡◌, ℕ, suc, ◌^◌, ◌<◌, ◌≤◌, Bool, true, false, List, [], ◌∷◌, ◌++◌, drop, length, reverse, refl, ap, sym, ◌∙◌, subst, arith, mod-lt, pow_pos}
use Rattle.std.specs.Prelude.{if◌then◌else◌}
use Rattle.item_acts.specs.declared.acts.Action.TheVariants.{Barrier, Fault}
use Rattle.item_acts.specs.declared.acts.Point.{Point}
use Rattle.item_acts.specs.Machine.{Ask}
use Rattle.kir.specs.Trees.{KirCode}
use Rattle.vx_base.specs.declared.types.Pos.{Pos}
use Rattle.vx_isa.specs.Warps.{has_lane, leader}
use Rattle.vx_isa.specs.declared.warps.MachineTrap.{MachineTrap}
use Rattle.vx_isa.specs.declared.warps.MachineTrap.TheVariants as trap
use Rattle.vx_isa.specs.declared.warps.Step.TheVariants as step
use Rattle.vcode.specs.Code.{VOp, Fresh, Bar, Trap}
use Rattle.vcode.specs.Machine as vcode
use Rattle.vcode.specs.Machine.{Lane, lane, step_from}
use Rattle.simt_lowering.specs.Kept.{spawn_place}
use Rattle.simt_lowering.specs.Lowered.{kernel_code}
use Rattle.warp_code.specs.Warps.{Crew, VWarp, Stepped, around_of, told, lane_behind, moved, warp_from, warp_step, warp_start}
use Rattle.warp_code.specs.Runs.{GoesOn, Runs, Passes, answers_in, numbers_in, alone, Comes}
use Rattle.mask_laws.specs.Spots.{Spot}
use Rattle.mask_laws.specs.Labels.{kernel_spots, spot_in}
use Rattle.mask_laws.specs.Honest.{IsHonestStep, IsHonestRun}
use Rattle.mask_laws.specs.Laws.{MayLower, HasItems, first_outcomes, first_place, AsksNow, alone_behind, NeverAgain, RunsInStep, InStep, WarpsInStep}
use Rattle.mask_laws.proofs.Sets.{In, Out, moved_in}
use Rattle.mask_laws.proofs.Frames.{Inv}
use Rattle.mask_laws.proofs.Fits.{IsTrap, Fine}
use Rattle.mask_laws.proofs.Spelling.{kernel_spells}
use Rattle.mask_laws.proofs.KernelLaw.{kernel_fits}
use Rattle.mask_laws.proofs.RunLaw.{op_stands, HonestRun, step_fine, idle_stays, run_keeps, run_comes}
use Rattle.mask_laws.proofs.Lockstep.{lanes_after}
use Rattle.mask_laws.proofs.Comings.{asks_from_there}
use Rattle.mask_laws.proofs.BarLaw.{bar_facts, never_there}
use Rattle.mask_laws.proofs.Counting.{one_place_each}
use Rattle.mask_laws.proofs.Promising.{short_run, fine_trap, fine_end, fine_spawn, asks_now, stops_now, item_asks}
use Rattle.mask_laws.proofs.Order.{MayBe}
use Rattle.mask_laws.proofs.Places.{comes_may, op_there}
use Rattle.mask_laws.proofs.ItemLanes.{kept_lane, item_lane, only_items, first_item}
use Rattle.mask_laws.proofs.Opening.{no_registers, starts_solo, item_warp, from_spawn, from_zero}
use Rattle.mask_laws.proofs.Starting.{there, item_in_step}

-- a trap is at a position of the source
trap_at : (op : VOp) → IsTrap op → (pos : Pos) × (op ≡ Trap pos)
trap_at (Trap pos) h = (pos, refl)
trap_at op h = absurd h

module _ (marks : ℕ → Bool) (code : KirCode) (may : MayLower marks code) (k : Crew) (has : HasItems k) where
  abbrev spots : ℕ → Spot
  spots = spot_in (kernel_spots marks code)

  abbrev ops : List VOp
  ops = kernel_code marks code

  -- the same premise, as the proofs have it
  honest_run : (all : ℕ) (low : all < 2 ^ k.ids.lanes) (run : List (ℕ → ℕ)) (w : VWarp) → IsHonestRun marks code k w run
      → HonestRun (kernel_spots marks code) ops (kernel_spells marks code) marks all (kernel_fits marks code may) k has.few low w run
  honest_run all low [] w honest = tt
  honest_run all low (answers ∷ later) w honest = (honest.0, honest_run all low later (warp_step k ops answers w).warp honest.1)

  module _ (w : VWarp) (low : w.mask < 2 ^ k.ids.lanes) (inv : Inv spots marks w.mask w) (empty : w.stack ≡ []) (start_may : (l : ℕ) → In w.mask l → MayBe spots (w.lanes l).place (w.lanes l).turns) where
    module _ (run : List (ℕ → ℕ)) (w' : VWarp) (honest : IsHonestRun marks code k w run) (runs : Runs k ops w run w') where
      now : Inv spots marks w.mask w'
      now = run_keeps (kernel_spots marks code) ops (kernel_spells marks code) marks w.mask (kernel_fits marks code may) k has.few low run w w' inv (honest_run w.mask low run w honest) runs

      come : (l : ℕ) (later : List ℕ) → Comes (vcode.step (around_of k l) ops) (alone (w.lanes l) (numbers_in k ops l w run later)) (answers_in k ops l w run) (alone (w'.lanes l) later)
      come l later =
          run_comes (kernel_spots marks code) ops (kernel_spells marks code) marks w.mask (kernel_fits marks code may) k has.few low run w w' l later inv (honest_run w.mask low run w honest) runs

      fine_now : (answers : ℕ → ℕ) → IsHonestStep marks code w' answers → Fine spots marks w.mask (spots w'.place).op w' (warp_step k ops answers w')
      fine_now answers h = step_fine (kernel_spots marks code) ops (kernel_spells marks code) marks w.mask (kernel_fits marks code may) k has.few low w' answers now h

      may_now : (l : ℕ) → In w.mask l → MayBe spots (w'.lanes l).place (w'.lanes l).turns
      may_now l has_item = comes_may (kernel_spots marks code) ops (kernel_spells marks code) marks (kernel_fits marks code may) (around_of k l) (come l []) (start_may l has_item)

      -- what stands at an active lane's place
      op_now : (ops' : List VOp) × (drop w'.place ops ≡ (spots w'.place).op ∷ ops')
      op_now = op_stands (kernel_spots marks code) ops marks w.mask w' (kernel_spells marks code) now

      step_at_lane : (l : ℕ) (op : VOp) (ops' : List VOp) → In w'.mask l → drop w'.place ops ≡ op ∷ ops'
          → vcode.step (around_of k l) ops (alone (w'.lanes l) []) ≡ step_from (around_of k l) (op ∷ ops') (w'.lanes l).place (w'.lanes l).registers (w'.lanes l).turns []
      step_at_lane l op ops' is_in stands =
          ap (λ c. step_from (around_of k l) c (w'.lanes l).place (w'.lanes l).registers (w'.lanes l).turns []) (ap (λ p. drop p ops) (now.here l is_in) ∙ stands)

      -- a step that goes on, for an active lane
      moves_now : (answers : ℕ → ℕ) (l : ℕ) (op : VOp) (ops' : List VOp) → In w'.mask l → drop w'.place ops ≡ op ∷ ops' → GoesOn (warp_step k ops answers w').outcome
          → (warp_step k ops answers w').warp.lanes l ≡ alone_behind k ops l (w'.lanes l) (answers l) (told k w'.mask op)
      moves_now answers l op ops' is_in stands =
          subst (λ (s : Stepped). GoesOn s.outcome → s.warp.lanes l ≡ alone_behind k ops l (w'.lanes l) (answers l) (told k w'.mask op)) (sym (ap (λ c. warp_from k c answers w') stands))
          (λ goes.
          lanes_after k op (moved k op answers w') w' l is_in goes ∙ moved_in k op answers w' l is_in
          ∙ ap (λ c. lane_behind (answers l) (w'.lanes l) (step_from (around_of k l) c (w'.lanes l).place (w'.lanes l).registers (w'.lanes l).turns (told k w'.mask op)))
          (sym (ap (λ p. drop p ops) (now.here l is_in) ∙ stands)))

      faults : (l : ℕ) (pos : Pos) → In w'.mask l → (spots w'.place).op ≡ Trap pos → AsksNow k ops w' l (Fault pos)
      faults l pos is_in e =
          stops_now (around_of k l) ops (w'.lanes l) (Fault pos) (step_at_lane l (Trap pos) op_now.0 is_in (op_now.1 ∙ ap (λ o. o ∷ op_now.0) e))

      traps_now : (answers : ℕ → ℕ) (fault : MachineTrap) (l place : ℕ) → IsHonestStep marks code w' answers → (warp_step k ops answers w').outcome ≡ step.Trap fault l place
          → (fault ≡ trap.Break) × (l ≡ leader w'.mask) × ((pos : Pos) × ((l' : ℕ) → In w'.mask l' → AsksNow k ops w' l' (Fault pos)))
      traps_now answers fault l place h e =
          let found = fine_trap spots marks w.mask w' (spots w'.place).op (warp_step k ops answers w').warp (warp_step k ops answers w').outcome fault l place (fine_now answers h) e in
          let at = trap_at (spots w'.place).op found.2 in
          (found.0, found.1, (at.0, λ l' is_in. faults l' at.0 is_in at.1))

      waits_now : (site : ℕ) (ops' : List VOp) → drop w'.place ops ≡ Bar site ∷ ops'
          → (point : Point) × (point.site ≡ site) × ((l : ℕ) → In w'.mask l → AsksNow k ops w' l (Barrier point)) × ((l : ℕ) → In w.mask l → Out w'.mask l → NeverAgain marks code k w run l point)
      waits_now site ops' stands =
          let same : (spots w'.place).op ≡ Bar site = first_same (sym op_now.1 ∙ stands) in
          let facts = bar_facts (kernel_spots marks code) ops (kernel_spells marks code) marks (kernel_fits marks code may) w.mask w' site same now.held in (
            record { site = site; turns = reverse facts.ts },
            refl,
            (λ l is_in.
                asks_now (around_of k l) ops (w'.lanes l) (Barrier (record { site = site; turns = reverse facts.ts })) _
                (step_at_lane l (Bar site) ops' is_in stands ∙ ap (λ ts. Ask (Barrier (record { site = site; turns = reverse ts })) (λ answer. lane (suc (w'.lanes l).place) (w'.lanes l).registers (w'.lanes l).turns [])) (facts.turned l is_in))),
            (λ l has_item idle setting bounds more as_item asks.
                let found = as_item.kept asks.0 (answers_in k ops l w run ++ more) (Barrier (record { site = site; turns = reverse facts.ts })) asks.1 in
                never_there (kernel_spots marks code) ops (kernel_spells marks code) marks (kernel_fits marks code may) w.mask w' site (around_of k l) l facts same
                (λ p p' c c' e e'. one_place_each marks code may.distinct site p p' c c' e e') has_item idle [] more
                (asks_from_there (vcode.step (around_of k l) ops) more (Barrier (record { site = site; turns = reverse facts.ts })) (come l []) (found.steps, found.asks))),
          ) where
            head_or : List VOp → VOp
            head_or [] = Fresh
            head_or (op ∷ rest) = op

            first_same : {a b : VOp} {as' bs : List VOp} → (a ∷ as') ≡ (b ∷ bs) → a ≡ b
            first_same e = ap head_or e

      pub in_step : RunsInStep marks code k w run w'
      in_step = record {
        comes = come;
        moves = moves_now;
        stays = λ answers l is_out goes.
            idle_stays (kernel_spots marks code) ops (kernel_spells marks code) marks w.mask (kernel_fits marks code may) k has.few low w' answers l now is_out goes;
        active = now.inside;
        here = now.here;
        inside = λ l has_item. op_there (kernel_spots marks code) ops (kernel_spells marks code) marks (kernel_fits marks code may) (around_of k l) (w'.lanes l).place (w'.lanes l).turns (may_now l has_item);
        asks = λ l setting bounds a is_in as_item asks. item_asks code marks setting bounds (around_of k l) _ _ (answers_in k ops l w run) a as_item (come l []) asks;
        room = short_run k ops run w w' (subst (λ st. length st ≤ 64) (sym empty) (omega arith)) runs;
        traps = traps_now;
        ends = λ answers h e. fine_end spots marks w.mask w' (spots w'.place).op (warp_step k ops answers w').warp (warp_step k ops answers w').outcome (fine_now answers h) e;
        no_start = λ answers count place h e. fine_spawn spots marks w.mask w' (spots w'.place).op (warp_step k ops answers w').warp (warp_step k ops answers w').outcome count place (fine_now answers h) e;
        waits = waits_now;
      }

  -- ---- from the start

  -- a warp that has passed to its items
  begins : (is_first : Bool) (start : ℕ) (rs : ℕ → ℕ) → ((r : ℕ) → r < code.variables → rs r ≡ 0)
      → Passes k ops (warp_start (first_place is_first)) (first_outcomes k is_first) (item_warp k start marks code rs) → InStep marks code k is_first
  begins is_first start rs none passes = record {
    w = item_warp k start marks code rs;
    passes = passes;
    at_items = record {
      active = item_lane k has;
      only = only_items k has;
      place = refl;
      stack = refl;
      lanes = λ l is_in. (if has_lane 1 l then rs else no_registers, there k start marks code may has.few rs none (item_lane k has 0 (first_item k has)) l is_in);
    };
    runs = λ run w' honest goes.
        in_step (item_warp k start marks code rs) (mod-lt _ (pow_pos k.ids.lanes)) (item_in_step k start marks code may has.few rs none (item_lane k has 0 (first_item k has))) refl
        (λ l is_in. subst (λ v. MayBe spots v.place v.turns) (sym (there k start marks code may has.few rs none (item_lane k has 0 (first_item k has)) l is_in)) (record { there = tt; many = tt })) run w' honest goes;
  }

  in_step_from : (is_first : Bool) → InStep marks code k is_first
  in_step_from true =
      let opened = from_zero k 0 marks code (kept_lane k has 0 (first_item k has)) (item_lane k has 0 (first_item k has)) in
      begins true 0 opened.0 opened.1 (subst (λ w. Passes k ops w (first_outcomes k true) (item_warp k 0 marks code opened.0)) (sym (starts_solo 0)) opened.2)
  in_step_from false =
      let opened = from_spawn k spawn_place marks code (kept_lane k has 0 (first_item k has)) (item_lane k has 0 (first_item k has)) in
      begins false spawn_place opened.0 opened.1 (subst (λ w. Passes k ops w (first_outcomes k false) (item_warp k spawn_place marks code opened.0)) (sym (starts_solo spawn_place)) opened.2)

pub warps_in_step : WarpsInStep
warps_in_step marks code k is_first may has = in_step_from marks code may k has is_first
