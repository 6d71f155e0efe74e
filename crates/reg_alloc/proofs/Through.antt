-- A lane alone goes through words, and whatever goes along with the lane behind them goes along with it before them.
use Rattle.std.proofs.Common.{◌≡◌, ℕ, suc, ◌+◌, ◌<◌, ◌≤◌, List, ◌∷◌, drop, length, map, ap, sym, subst, ◌∙◌, arith, refl}
use Rattle.item_acts.specs.declared.acts.Place.{Place}
use Rattle.item_acts.specs.Launches.{put_at}
use Rattle.item_acts.specs.Machine.{Step, Go}
use Rattle.step_machine.specs.Sims.{GoAlong, SecondGoes}
use Rattle.vx_isa.specs.Effects.{address_at}
use Rattle.vx_isa.specs.Words.{word_of}
use Rattle.vx_isa.specs.Warps.{value_in, with_register}
use Rattle.vx_isa.specs.declared.instr.Instr.{Instr}
use Rattle.reg_alloc.specs.Plain.{Held, Plain, PutSlot, do_all, held, instr_of, made, set}
use Rattle.reg_alloc.specs.Blocks.{address_of_word, jump}
use Rattle.reg_alloc.specs.Layout.{plain_onto}
use Rattle.reg_alloc.specs.Alone.{ImageLane, Setting, fetched_step, goes, image_lane, image_step, instr_step, next_pc}
use Rattle.reg_alloc.specs.Keeping.{Stands, around_in}
use Rattle.reg_alloc.proofs.Acting.{plain_rest}
use Rattle.reg_alloc.proofs.Fitting.{AllFit}
use Rattle.reg_alloc.proofs.Goings.{ReachAll, lane_at, plain_along, plain_goes, step_at}
use Rattle.reg_alloc.proofs.Standing.{jumps_land}

abbrev pub Through : {S : Type 0} → (S → Step S) → (S → ℕ) → Setting → ImageLane → ImageLane → Type 0
Through {S} f c k t t' = (n : ℕ) (s : S) → GoAlong f (image_step k) c (λ (u : ImageLane). 0) n s t' → GoAlong f (image_step k) c (λ (u : ImageLane). 0) n s t

module _ {S : Type 0} (f : S → Step S) (c : S → ℕ) (k : Setting) (place : ℕ → Place) (slots start : ℕ) (stands : Stands k slots start)
    (is : List Instr) (code : k.words ≡ map word_of is) (fits : AllFit is) where
  pub word_goes : (i : Instr) (rest : List Instr) (q : ℕ) (h : Held) (ns : List ℕ) → drop q is ≡ i ∷ rest → image_step k (lane_at q h ns) ≡ instr_step k i (lane_at q h ns)
  word_goes i rest q h ns e = ap (λ found. fetched_step k found (lane_at q h ns)) (step_at f c k place slots start stands is code fits i rest q (lane_at q h ns) refl e)

  -- words that compute
  pub before : (ws : List Plain) (rest : List Instr) (j : ℕ) (h h1 : Held) (ns : List ℕ) → j + length ws ≤ 65536 → drop j is ≡ plain_onto ws rest
      → ReachAll slots start (around_in k place) ws h → do_all (around_in k place) ws h ≡ h1 → Through f c k (lane_at j h ns) (lane_at (j + length ws) h1 ns)
  before ws rest j h h1 ns low e reach done n s along =
      plain_along f c k place slots start stands is code fits ws rest j h ns low e reach n s
      (subst (λ (x : Held). GoAlong f (image_step k) c (λ (u : ImageLane). 0) n s (lane_at (j + length ws) x ns)) (sym done) along)

  -- the word behind them, where it goes on
  pub acting_step : (i : Instr) (rest : List Instr) (q : ℕ) (h h' : Held) (ns ns' : List ℕ) → q < 65536 → drop q is ≡ i ∷ rest
      → instr_step k i (lane_at q h ns) ≡ Go (image_lane (next_pc (lane_at q h ns)) h'.registers h'.frame ns')
      → image_step k (lane_at q h ns) ≡ Go (lane_at (suc q) h' ns')
  acting_step i rest q h h' ns ns' low e acts =
      let next : next_pc (lane_at q h ns) ≡ address_of_word (suc q) = omega (arith, low) in
      word_goes i rest q h ns e ∙ acts ∙ ap (λ pc. Go (image_lane pc h'.registers h'.frame ns')) next

  pub acted : (ws : List Plain) (i : Instr) (rest : List Instr) (j : ℕ) (h h1 h' : Held) (ns ns' : List ℕ) → j + length ws < 65536 → drop j is ≡ plain_onto ws (i ∷ rest)
      → ReachAll slots start (around_in k place) ws h → do_all (around_in k place) ws h ≡ h1
      → instr_step k i (lane_at (j + length ws) h1 ns) ≡ Go (image_lane (next_pc (lane_at (j + length ws) h1 ns)) h'.registers h'.frame ns')
      → Through f c k (lane_at j h ns) (lane_at (suc (j + length ws)) h' ns')
  acted ws i rest j h h1 h' ns ns' low e reach done acts n s along =
      let q = j + length ws in
      before ws (i ∷ rest) j h h1 ns (omega (arith, low)) e reach done n s
      (SecondGoes n s (lane_at q h1 ns) (lane_at (suc q) h' ns') (acting_step i rest q h1 h' ns ns' low (plain_rest is ws (i ∷ rest) j e) acts) refl along)

  -- the word that stores a result
  pub stored : (d : ℕ) (rest : List Instr) (q : ℕ) (h : Held) (ns : List ℕ) → q < 65536 → drop q is ≡ instr_of (PutSlot made d) ∷ rest → h.registers 4 ≡ start → d < slots
      → Through f c k (lane_at q h ns) (lane_at (suc q) (held h.registers (put_at d (value_in h.registers made) h.frame)) ns)
  stored d rest q h ns low e based less n s along =
      SecondGoes n s (lane_at q h ns) (lane_at (suc q) (held h.registers (put_at d (value_in h.registers made) h.frame)) ns)
      (plain_goes f c k place slots start stands is code fits (PutSlot made d) rest q h ns low e (based, less)) refl along

  -- a jump, and a branch that goes over one
  pub jump_step : (from to : ℕ) (rest : List Instr) (h : Held) (ns : List ℕ) → from ≤ 65536 → to ≤ 65536 → drop from is ≡ jump from to ∷ rest
      → image_step k (lane_at from h ns) ≡ Go (lane_at to (set 0 (next_pc (lane_at from h ns)) h) ns)
  jump_step from to rest h ns near near' e =
      word_goes (jump from to) rest from h ns e
      ∙ ap (λ pc. Go (image_lane pc (with_register 0 (next_pc (lane_at from h ns)) h.registers) h.frame ns)) (jumps_land from to near near')

  pub over_step : (i : Instr) (rest : List Instr) (q : ℕ) (h : Held) (ns : List ℕ) → suc q < 65536 → drop q is ≡ i ∷ rest
      → instr_step k i (lane_at q h ns) ≡ Go (goes (address_at (address_of_word q) 8) (lane_at q h ns)) → image_step k (lane_at q h ns) ≡ Go (lane_at (suc (suc q)) h ns)
  over_step i rest q h ns low e acts =
      let next : address_at (address_of_word q) 8 ≡ address_of_word (suc (suc q)) = omega (arith, low) in
      word_goes i rest q h ns e ∙ acts ∙ ap (λ pc. Go (image_lane pc h.registers h.frame ns)) next
