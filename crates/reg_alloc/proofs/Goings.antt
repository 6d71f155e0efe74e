-- A lane alone goes through words that only compute, whatever another machine does meanwhile.
use Rattle.std.proofs.Common.{◌≡◌, ℕ, zero, suc, ◌+◌, ◌<◌, ◌≤◌, List, [], ◌∷◌, drop, length, map, ap, subst, ◌∙◌, arith, refl, Some, Ok}
use Rattle.std.specs.Prelude.{slice_get}
use Rattle.item_acts.specs.declared.acts.Place.{Place}
use Rattle.item_acts.specs.Machine.{Step, Go}
use Rattle.step_machine.specs.Sims.{GoAlong, SecondGoes}
use Rattle.vx_isa.specs.Words.{word_of}
use Rattle.vx_isa.specs.WarpSteps.{fetched}
use Rattle.vx_isa.specs.declared.instr.Instr.{Instr}
use Rattle.vcode.specs.Machine.{Around}
use Rattle.reg_alloc.specs.Plain.{Held, Plain, do_all, does, instr_of}
use Rattle.reg_alloc.specs.Blocks.{address_of_word}
use Rattle.reg_alloc.specs.Layout.{plain_onto}
use Rattle.reg_alloc.specs.Alone.{ImageLane, Setting, fetched_step, image_lane, image_step, next_pc}
use Rattle.reg_alloc.proofs.Fitting.{AllFit, fits_at}
use Rattle.reg_alloc.specs.Keeping.{Stands, around_in}
use Rattle.reg_alloc.proofs.Walking.{Reaches, fetched_at, plain_step}

-- the first of the words from a number on
pub first_at : (is rest : List Instr) (i : Instr) (j : ℕ) → drop j is ≡ i ∷ rest → slice_get is j ≡ Some i
first_at [] rest i zero e = absurd (cc)
first_at [] rest i (suc j) e = absurd (cc)
first_at (x ∷ is) rest i zero e = let same : x ≡ i = cc in ap (λ y. Some y) same
first_at (x ∷ is) rest i (suc j) e = first_at is rest i j e

pub rest_at : (is rest : List Instr) (i : Instr) (j : ℕ) → drop j is ≡ i ∷ rest → drop (suc j) is ≡ rest
rest_at [] rest i zero e = absurd (cc)
rest_at [] rest i (suc j) e = absurd (cc)
rest_at (x ∷ is) rest i zero e = cc
rest_at (x ∷ is) rest i (suc j) e = rest_at is rest i j e

-- each of the words reaches what it reads and writes, in order
abbrev pub ReachAll : ℕ → ℕ → Around → List Plain → Held → Type 0
ReachAll slots start at [] h = Unit {0}
ReachAll slots start at (w ∷ ws) h = Reaches slots start h.registers w × ReachAll slots start at ws (does at w h)

-- the lane before a word of the code
abbrev pub lane_at : ℕ → Held → List ℕ → ImageLane
lane_at j h ns = image_lane (address_of_word j) h.registers h.frame ns

module _ {S : Type 0} (f : S → Step S) (c : S → ℕ) (k : Setting) (place : ℕ → Place) (slots start : ℕ) (stands : Stands k slots start)
    (is : List Instr) (code : k.words ≡ map word_of is) (fits : AllFit is) where
  -- one step at an instruction of the code
  pub step_at : (i : Instr) (rest : List Instr) (j : ℕ) (s : ImageLane) → s.pc ≡ address_of_word j → drop j is ≡ i ∷ rest → fetched k.words s.pc ≡ Ok i
  step_at i rest j s there e =
      let found = first_at is rest i j e in
      ap (λ pc. fetched k.words pc) there ∙ ap (λ words. fetched words (address_of_word j)) code ∙ fetched_at is j i found (fits_at is fits j i found)

  pub plain_goes : (w : Plain) (rest : List Instr) (j : ℕ) (h : Held) (ns : List ℕ) → j < 65536 → drop j is ≡ instr_of w ∷ rest
      → Reaches slots start h.registers w → image_step k (lane_at j h ns) ≡ Go (lane_at (suc j) (does (around_in k place) w h) ns)
  plain_goes w rest j h ns low e reaches =
      let next : next_pc (lane_at j h ns) ≡ address_of_word (suc j) = omega (arith, low) in
      let h' = does (around_in k place) w h in
      ap (λ found. fetched_step k found (lane_at j h ns)) (step_at (instr_of w) rest j (lane_at j h ns) refl e)
      ∙ plain_step k place slots start stands w (lane_at j h ns) reaches
      ∙ ap (λ pc. Go (image_lane pc h'.registers h'.frame ns)) next

  pub plain_along : (ws : List Plain) (rest : List Instr) (j : ℕ) (h : Held) (ns : List ℕ) → j + length ws ≤ 65536 → drop j is ≡ plain_onto ws rest
      → ReachAll slots start (around_in k place) ws h → (n : ℕ) (s : S)
      → GoAlong f (image_step k) c (λ t. 0) n s (lane_at (j + length ws) (do_all (around_in k place) ws h) ns)
      → GoAlong f (image_step k) c (λ t. 0) n s (lane_at j h ns)
  plain_along [] rest j h ns low e reaches n s along =
      let none : j + 0 ≡ j = omega arith in
      subst (λ q. GoAlong f (image_step k) c (λ t. 0) n s (lane_at q h ns)) none along
  plain_along (w ∷ ws) rest j h ns low e reaches n s along =
      let h' = does (around_in k place) w h in
      let more : j + suc (length ws) ≡ suc j + length ws = omega arith in
      SecondGoes n s (lane_at j h ns) (lane_at (suc j) h' ns) (plain_goes w (plain_onto ws rest) j h ns (omega (arith, low)) e reaches.0) refl
      (plain_along ws rest (suc j) h' ns (omega (arith, low)) (rest_at is (plain_onto ws rest) (instr_of w) j e) reaches.1 n s
      (subst (λ q. GoAlong f (image_step k) c (λ t. 0) n s (lane_at q (do_all (around_in k place) ws h') ns)) more along))
