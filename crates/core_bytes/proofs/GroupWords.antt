-- The deeds of a group write words: its warps hold words from the group's beginning on.
use Rattle.std.proofs.Common.{◌≡◌, ℕ, zero, suc, ◌*◌, ◌^◌, ◌<◌, true, nat_eq, List, [], ◌∷◌, ap, ◌∙◌, sym, subst, arith, inl, inr}
use Rattle.std.specs.Prelude.{All, Option, None, Some, min}
use Rattle.std.specs.Int.{IsBitSet, bit_at}
use Rattle.std.specs.List.{AllByRecursion}
use Rattle.std.proofs.lemmas.Bool.{cases_eq, cond_both, eqb-true}
use Rattle.std.proofs.lemmas.Nat.{pow_pos}
use Rattle.std.proofs.lemmas.Nat.Bits.{and_pow}
use Rattle.vx_base.specs.declared.types.Size.{Size}
use Rattle.vx_base.specs.declared.types.Size.TheVariants.{One, Two, Four}
use Rattle.vx_isa.specs.Warps.{WarpState, has_lane, started}
use Rattle.vx_isa.specs.WarpSteps.{Access, LaneAccess, Makes, Reads, Writes, code_start, warp_step}
use Rattle.vx_isa.specs.declared.warps.Step.{Step}
use Rattle.vx_isa.specs.declared.warps.Step.TheVariants as step
use Rattle.memory_banks.specs.declared.entry.BusEntry.{BusEntry}
use Rattle.vx_core.specs.CoreSteps.{CoreState, Ends, GoesOn, Runs, RunsGroup, RunsOut, Setting, StepsOnce}
use Rattle.vx_core.specs.Crews.{CrewState, Opens, crew_after, ready_warps, spawned_warps, with_spawned, with_warp}
use Rattle.vx_core.specs.Places.{Reach, ReadsAt, Reaches, WritesAt, fields, place_at}
use Rattle.vx_core.specs.declared.end.GroupEnd.{GroupEnd}
use Rattle.vx_core.specs.declared.place.Place.{Place}
use Rattle.vx_core.specs.declared.place.Place.TheVariants as place
use Rattle.vx_core.proofs.SetLaws.{ready_warp}
use Rattle.core_bytes.specs.Deeds.{Writing}
use Rattle.core_bytes.specs.FittingWords.{DeedWritesWord, IsWord, WritesWord}
use Rattle.core_bytes.proofs.FittingWords.{by_index}
use Rattle.core_bytes.proofs.GroupDeeds.{access_led, accesses_led, drain_led, goes_does, group_does, read_led, runs_does, step_does, write_led}
use Rattle.core_bytes.proofs.OtherCores.{all_append}
use Rattle.core_bytes.proofs.WordSteps.{LaneWritesWord, WordAccess, WordStep, WordWarp, step_words}

-- ---- the warps of a core

-- each warp that has not ended holds words
abbrev pub WordCrew : CrewState → Type 0
WordCrew s = (warp : ℕ) → ((s.warps warp).mask ≡ 0 → ⊥) → WordWarp (s.warps warp)

started_words : (pc : ℕ) → WordWarp (started pc 1)
started_words pc = record { mask = omega arith; registers = λ lane r. omega arith; stack = tt }

moved_words : (s : CrewState) (warp : ℕ) (moved : WarpState) → WordCrew s → WordWarp moved → WordCrew (with_warp warp moved s)
moved_words s warp moved words one v =
    cond_both (nat_eq v warp) moved (s.warps v) (λ (w : WarpState). (w.mask ≡ 0 → ⊥) → WordWarp w) (λ is some. one) (λ is some. words v some)

spawned_words : (count pc : ℕ) (s : CrewState) → WordCrew s → WordCrew (with_spawned count pc s)
spawned_words count pc s words v =
    cond_both (has_lane (spawned_warps count s.warps) v) (started pc 1) (s.warps v) (λ (w : WarpState). (w.mask ≡ 0 → ⊥) → WordWarp w)
    (λ is some. started_words pc) (λ is some. words v some)

crew_words : (warps warp : ℕ) (outcome : Step) (s : CrewState) → WordCrew s → WordCrew (crew_after warps warp outcome s)
crew_words warps warp (step.Wait bar count) s words = words
crew_words warps warp (step.Spawn count pc) s words = spawned_words (min count warps) pc s words
crew_words warps warp outcome s words = words

opening_words : (s : CrewState) → Opens s → WordCrew s
opening_words s o v some =
    elim (cases_eq v 0) [
      | inl first ↦ subst WordWarp (sym (ap s.warps first ∙ o.first)) (started_words code_start)
      | inr other ↦ absurd (some (o.others v other))
    ]

is_set : (n k : ℕ) → has_lane n k ≡ true → IsBitSet n k
is_set n k is none =
    let one : bit_at n k ≡ 1 = eqb-true (bit_at n k) 1 is in
    let value : 1 * 2 ^ k ≡ 0 = ap (λ (b : ℕ). b * 2 ^ k) (sym one) ∙ sym (and_pow n k) ∙ none in
    let some : 0 < 2 ^ k = pow_pos k in
    omega (arith, value, some)

-- ---- accesses

writes_word : (offset : ℕ) (size : Size) (value : ℕ) → IsWord value → WritesWord (Writing offset size value)
writes_word offset One value word = tt
writes_word offset Two value word = tt
writes_word offset Four value word = word

module _ {B E : Type 0} (acts : B → BusEntry → B → Type 0) (evicts : E → ℕ → ℕ → ℕ → ℕ → E → Type 0) (port banks : ℕ) where
  read_words : (at : Place) (p q : Reach B E) (size : Size) (answer : ℕ) (r : ReadsAt acts evicts port banks at p size answer q)
      → AllByRecursion DeedWritesWord (read_led acts evicts port banks at p q size answer r).deeds
  read_words (place.Scratchpad offset) p q size answer r = tt
  read_words (place.Words offset) p q size answer r = (tt, tt)
  read_words place.Outside p q size answer r = absurd r

  write_words : (at : Place) (p q : Reach B E) (size : Size) (value : ℕ) (w : WritesAt acts port banks at p size value q) → IsWord value
      → AllByRecursion DeedWritesWord (write_led acts evicts port banks at p q size value w).deeds
  write_words (place.Scratchpad offset) p q size value w word = tt
  write_words (place.Words offset) p q size value w word = (writes_word offset size value word, tt)
  write_words place.Outside p q size value w word = absurd w

  access_words : (words : ℕ) (a : Access) (p q : Reach B E) (r : Reaches acts evicts words port banks p a q) → WordAccess a
      → AllByRecursion DeedWritesWord (access_led acts evicts port banks words a p q r).deeds
  access_words words (Reads address size answer) p q r word = read_words (place_at words address size) p q size answer r
  access_words words (Writes address size value) p q w word = write_words (place_at words address size) p q size value w word

  accesses_words : (words : ℕ) (accesses : List LaneAccess) (p q : Reach B E) (made : Makes (Reaches acts evicts words port banks) p accesses q) → AllByRecursion LaneWritesWord accesses
      → AllByRecursion DeedWritesWord (accesses_led acts evicts port banks words accesses p q made).deeds
  accesses_words words [] p q made all = tt
  accesses_words words (a ∷ accesses) p q made all =
      all_append DeedWritesWord (access_led acts evicts port banks words a.access p made.0 made.1).deeds (accesses_led acts evicts port banks words accesses made.0 q made.2).deeds
      (access_words words a.access p made.0 made.1 all.0) (accesses_words words accesses made.0 q made.2 all.1)

-- ---- steps and runs

module _ {B E P : Type 0} (acts : B → BusEntry → B → Type 0) (evicts : E → ℕ → ℕ → ℕ → ℕ → E → Type 0) (begins : P → ℕ → P → Type 0) (picks : P → ℕ → ℕ → P → Type 0) (g : Setting) (core : IsWord g.core) where
  stepped_words : (s s' : CoreState B E P) (end : Option GroupEnd) (took : StepsOnce acts evicts picks g s end s') → WordCrew s.crew
      → WordStep (warp_step (fields g.words) (record { core = g.core; warp = took.warp; lanes = g.job.lanes }) g.image.words took.took.answers (s.crew.warps took.warp))
  stepped_words s s' end took words =
      let ready = ready_warp s.crew took.warp (is_set (ready_warps s.crew) took.warp took.is_ready) in
      let few : took.warp < 16 = ready.0 in
      step_words (record { core = g.core; warp = took.warp; lanes = g.job.lanes }) core (omega (arith, few)) (fields g.words) took.took.answers (s.crew.warps took.warp) (words took.warp ready.1) g.image.words

  step_crew : (s s' : CoreState B E P) (end : Option GroupEnd) → StepsOnce acts evicts picks g s end s' → WordCrew s.crew → WordCrew s'.crew
  step_crew s s' end took words =
      subst WordCrew (sym took.crew_is)
      (crew_words g.job.warps took.warp took.outcome (with_warp took.warp took.moved s.crew)
      (moved_words s.crew took.warp took.moved words (subst WordWarp (sym took.took.warp_is) (stepped_words s s' end took words).warp)))

  step_deeds : (s s' : CoreState B E P) (end : Option GroupEnd) (took : StepsOnce acts evicts picks g s end s') → WordCrew s.crew
      → AllByRecursion DeedWritesWord (step_does acts evicts begins picks g s s' end took).deeds
  step_deeds s s' end took words =
      accesses_words acts evicts g.port g.banks g.words _ s.reach s'.reach took.took.made (stepped_words s s' end took words).accesses

  goes_crew : (n : ℕ) (s s' : CoreState B E P) → GoesOn acts evicts picks g n s s' → WordCrew s.crew → WordCrew s'.crew
  goes_crew zero s s' goes words = subst (λ (t : CoreState B E P). WordCrew t.crew) (sym goes) words
  goes_crew (suc n) s s' goes words = step_crew goes.0 s' None goes.2 (goes_crew n s goes.0 goes.1 words)

  goes_deeds : (n : ℕ) (s s' : CoreState B E P) (goes : GoesOn acts evicts picks g n s s') → WordCrew s.crew
      → AllByRecursion DeedWritesWord (goes_does acts evicts begins picks g n s s' goes).deeds
  goes_deeds zero s s' goes words = tt
  goes_deeds (suc n) s s' goes words =
      all_append DeedWritesWord (goes_does acts evicts begins picks g n s goes.0 goes.1).deeds (step_does acts evicts begins picks g goes.0 s' None goes.2).deeds
      (goes_deeds n s goes.0 goes.1 words) (step_deeds goes.0 s' None goes.2 (goes_crew n s goes.0 goes.1 words))

  runs_deeds : (s s' : CoreState B E P) (end : GroupEnd) (runs : Runs acts evicts picks g s end s') → WordCrew s.crew
      → AllByRecursion DeedWritesWord (runs_does acts evicts begins picks g s s' end runs).deeds
  runs_deeds s s' end (Ends n last below goes took) words =
      all_append DeedWritesWord (goes_does acts evicts begins picks g n s last goes).deeds (step_does acts evicts begins picks g last s' (Some end) took).deeds
      (goes_deeds n s last goes words) (step_deeds last s' (Some end) took (goes_crew n s last goes words))
  runs_deeds s s' end (RunsOut goes out) words = goes_deeds g.job.turns s s' goes words

  -- Each deed of a group writes a word, on a core whose number is a word.
  pub group_writes_words : (s s' : CoreState B E P) (end : GroupEnd) (r : RunsGroup acts evicts begins picks g s end s') → All DeedWritesWord (group_does acts evicts begins picks g s s' end r).deeds
  group_writes_words s s' end r =
      by_index DeedWritesWord (group_does acts evicts begins picks g s s' end r).deeds
      (all_append DeedWritesWord (runs_does acts evicts begins picks g r.first r.last end r.runs).deeds (drain_led acts evicts g.port g.banks r.last.reach s'.reach r.closed.drained).deeds
      (runs_deeds r.first r.last end r.runs (opening_words r.first.crew r.opened.crew)) (tt, tt))
