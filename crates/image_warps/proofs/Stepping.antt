-- One step of the warp at a word that each active lane does by itself.
use Rattle.std.proofs.Common.{◌≡◌, ℕ, zero, suc, ◌^◌, ◌<◌, ◌≤◌, Bool, true, false, List, [], ◌∷◌, drop, length, map, None, Ok, ap, sym, subst, ◌∙◌, arith, refl, inl, inr}
use Rattle.std.proofs.lemmas.Bool.{cases_lt, true≢false}
use Rattle.vx_base.specs.declared.types.Size.{Size}
use Rattle.vx_base.specs.declared.types.Size.TheVariants.{One, Two, Four}
use Rattle.vx_layout.specs.Addresses.{Where, Block, Own, Array, Nowhere}
use Rattle.vx_isa.specs.Words.{word_of}
use Rattle.vx_isa.specs.Warps.{Registers, WarpState, has_lane, leader}
use Rattle.vx_isa.specs.WarpSteps.{Stepped, access_of, accesses_below, acted_below, choice_of, effect_in, fault_of, fetched, fetched_step, leads_to, registers_after}
use Rattle.vx_isa.specs.declared.instr.Instr.{Instr}
use Rattle.vx_isa.specs.declared.instr.LaneEffect.{LaneEffect}
use Rattle.vx_isa.specs.declared.instr.LaneEffect.TheVariants as effect
use Rattle.vx_isa.specs.declared.warps.Step.TheVariants as step
use Rattle.vx_isa.proofs.MaskLaws.{has_lane-above}
use Rattle.vcode.specs.Code.{VOp}
use Rattle.vcode.specs.Words.{words}
use Rattle.simt_lowering.specs.Bounds.{AreWithin}
use Rattle.warp_code.specs.Warps.{VWarp}
use Rattle.reg_alloc.specs.Plain.{Held, held}
use Rattle.reg_alloc.specs.Blocks.{address_of_word}
use Rattle.reg_alloc.specs.Layout.{instrs_of, words_of}
use Rattle.reg_alloc.proofs.Decoding.{words_decode}
use Rattle.reg_alloc.proofs.Goings.{first_at}
use Rattle.reg_alloc.proofs.Standing.{words_are_counted}
use Rattle.reg_alloc.proofs.Walking.{fetched_at}
use Rattle.image_warps.specs.Lanes.{Ground, Laid, AreAnswered, IsAnswered, frame_behind, of_lane}
use Rattle.image_warps.specs.Warps.{entry_at, image_step, image_warp}
use Rattle.image_warps.specs.Laws.{FramesAnswer}
use Rattle.image_warps.proofs.Sets.{leader_leads}
use Rattle.image_warps.proofs.Going.{accesses_of, acted_active, acted_idle, effect_is, lanes_go, own_accesses}
use Rattle.image_warps.proofs.Quiet.{Goes, effect_at}
use Rattle.image_warps.proofs.Computed.{IsLanes}

-- ---- words

map_length : (is : List Instr) → length (map word_of is) ≡ length is
map_length [] = refl
map_length (i ∷ is) = ap suc (map_length is)

within_list : (is rest : List Instr) (i : Instr) (k : ℕ) → drop k is ≡ i ∷ rest → k < length is
within_list [] rest i zero e = absurd (cc)
within_list [] rest i (suc k) e = absurd (cc)
within_list (x ∷ is) rest i zero e = omega arith
within_list (x ∷ is) rest i (suc k) e = let h = within_list is rest i k e in omega (arith, h)

module _ (slots : ℕ) (ops : List VOp) (few : slots ≤ 256) (within : AreWithin slots ops) (near : words ops ≤ 65536) (i : Instr) (rest : List Instr) (k : ℕ) (there : drop k (instrs_of slots ops) ≡ i ∷ rest) where
  pub word_low : k < 65536
  word_low =
      let h = within_list (instrs_of slots ops) rest i k there in
      let e = words_are_counted slots ops in
      let e' = map_length (instrs_of slots ops) in
      omega (arith, h, e, e', near)

  pub fetched_here : fetched (words_of slots ops) (address_of_word k) ≡ Ok i
  fetched_here =
      let found = first_at (instrs_of slots ops) rest i k there in
      fetched_at (instrs_of slots ops) k i found (words_decode slots ops few within near k i found).0

-- ---- right answers

-- what a read of the launch block or of the frame has to be answered
abbrev pub told_there : (ℕ → ℕ) → (ℕ → ℕ) → Where → ℕ
told_there block frame (Block k) = block k
told_there block frame (Own r) = frame r
told_there block frame other = 0

is_told : (block frame : ℕ → ℕ) (x : Where) (size : Size) → IsAnswered block frame x size (told_there block frame x)
is_told block frame (Block k) One = tt
is_told block frame (Block k) Two = tt
is_told block frame (Block k) Four = refl
is_told block frame (Own r) One = tt
is_told block frame (Own r) Two = tt
is_told block frame (Own r) Four = refl
is_told block frame (Array place) size = tt
is_told block frame Nowhere size = tt

abbrev pub right_answer : (ℕ → Where) → (ℕ → ℕ) → (ℕ → ℕ) → LaneEffect → ℕ
right_answer at block frame (effect.Load rd a size signed) = told_there block frame (at a)
right_answer at block frame e = 0

is_right : (at : ℕ → Where) (block frame : ℕ → ℕ) (e : LaneEffect) → AreAnswered at block frame (access_of (right_answer at block frame e) e)
is_right at block frame (effect.Load rd a size signed) = (is_told block frame (at a) size, tt)
is_right at block frame (effect.Store a size v) = tt
is_right at block frame (effect.Write rd v) = tt
is_right at block frame (effect.Branch taken target) = tt
is_right at block frame (effect.Jump rd link target) = tt
is_right at block frame (effect.Csr rd csr) = tt
is_right at block frame effect.Break = tt
is_right at block frame effect.Nothing = tt
is_right at block frame effect.Warp = tt

-- ---- the step

-- A warp at the words, and how reads are answered to it.
pub record Scene : Type 0 where
  pub g : Ground
  pub ops : List VOp
  pub laid : Laid g
  pub within : AreWithin g.slots ops
  pub near : words ops ≤ 65536
  pub w : VWarp
  pub some : (l : ℕ) × ((l < 32) × (has_lane w.mask l ≡ true))
  pub small : w.mask < 2 ^ 32
  pub xs : ℕ → Registers
  pub frames : ℕ → ℕ → ℕ
  pub answers : ℕ → ℕ

-- a word of its code that each lane does by itself
pub record Word (c : Scene) : Type 0 where
  pub k : ℕ
  pub i : Instr
  pub rest : List Instr
  pub there : drop k (instrs_of c.g.slots c.ops) ≡ i ∷ rest
  pub lanes : IsLanes i

abbrev pub image : (c : Scene) → ℕ → WarpState
image c k = image_warp c.ops k c.w c.xs

abbrev pub after : (c : Scene) → ℕ → Stepped
after c k = image_step c.g c.ops c.answers k c.w c.xs

abbrev pub is_active : Scene → ℕ → Bool
is_active c l = has_lane c.w.mask l

-- an active lane is one of 32
pub active_low : (c : Scene) (l : ℕ) → is_active c l ≡ true → l < 32
active_low c l active =
    elim (cases_lt l 32) [
      | inl less ↦ less
      | inr past ↦ absurd (true≢false (sym active ∙ has_lane-above c.w.mask l c.small past))
    ]

-- what the word is to a lane; that the lane's reads have such an answer; and that it goes so
abbrev pub effect_to : (c : Scene) → Word c → ℕ → LaneEffect
effect_to c d l = effect_at d.i (address_of_word d.k) (c.xs l)

abbrev pub AnsweredTo : (c : Scene) → Word c → ℕ → ℕ → Type 0
AnsweredTo c d l answer = AreAnswered (c.g.at l) c.g.crew.block (c.frames l) (access_of answer (effect_to c d l))

abbrev pub GoesTo : (c : Scene) → Word c → ℕ → ℕ → ℕ → ℕ → Held → Type 0
GoesTo c d choice target l answer h = Goes c.g c.w.mask l (address_of_word d.k) answer choice target (effect_to c d l) (held (c.xs l) (c.frames l)) h

-- all active lanes go so, whatever is answered to other reads, to registers and frames of which something holds
abbrev pub Moves : (c : Scene) → Word c → ℕ → ℕ → (ℕ → ℕ → Held → Type 0) → Type 0
Moves c d choice target Q = (l : ℕ) → l < 32 → is_active c l ≡ true → (answer : ℕ) → AnsweredTo c d l answer → (h : Held) × (GoesTo c d choice target l answer h × Q l answer h)

module _ (c : Scene) (d : Word c) (choice target : ℕ) (Q : ℕ → ℕ → Held → Type 0) (moves : Moves c d choice target Q) where
  abbrev pub right_one : ℕ → ℕ
  right_one l = right_answer (c.g.at l) c.g.crew.block (c.frames l) (effect_to c d l)

  right : (l : ℕ) → l < 32 → is_active c l ≡ true → (h : Held) × (GoesTo c d choice target l (right_one l) h × Q l (right_one l) h)
  right l low active = moves l low active (right_one l) (is_right (c.g.at l) c.g.crew.block (c.frames l) (effect_to c d l))

  leads : (is_active c (leader c.w.mask) ≡ true) × (leader c.w.mask < 32)
  leads = leader_leads c.w.mask c.some.0 c.some.1.0 c.some.1.1

  first_chooses : choice_of (effect_in d.i (image c d.k) (leader c.w.mask)) ≡ choice
  first_chooses = ap choice_of (effect_is d.i (image c d.k) (leader c.w.mask)) ∙ (right (leader c.w.mask) leads.1 leads.0).1.0.chosen

  first_leads : leads_to (address_of_word d.k) (effect_in d.i (image c d.k) (leader c.w.mask)) ≡ target
  first_leads = ap (leads_to (address_of_word d.k)) (effect_is d.i (image c d.k) (leader c.w.mask)) ∙ (right (leader c.w.mask) leads.1 leads.0).1.0.leads

  fine : (l : ℕ) → l < 32 → is_active c l ≡ true → fault_of c.g.has (address_of_word d.k) (choice_of (effect_in d.i (image c d.k) (leader c.w.mask))) (effect_in d.i (image c d.k) l) ≡ None
  fine l low active =
      ap (λ n. fault_of c.g.has (address_of_word d.k) n (effect_in d.i (image c d.k) l)) first_chooses
      ∙ ap (fault_of c.g.has (address_of_word d.k) choice) (effect_is d.i (image c d.k) l) ∙ (right l low active).1.0.fault

  abbrev pub acted : ℕ → Registers
  acted = acted_below 32 c.g.crew.ids d.i c.answers (image c d.k)

  abbrev pub went : ℕ → Stepped
  went n = record { warp = record { pc = n; mask = c.w.mask; registers = acted; stack = map (entry_at c.ops) c.w.stack }; accesses = accesses_below 32 d.i c.answers (image c d.k); outcome = step.Next }

  step_is : after c d.k ≡ went target
  step_is =
      ap (fetched_step c.g.has c.g.crew.ids c.answers (image c d.k)) (fetched_here c.g.slots c.ops c.laid.slots c.within c.near d.i d.rest d.k d.there)
      ∙ d.lanes c.g.has c.g.crew.ids c.answers (image c d.k)
      ∙ lanes_go d.i c.answers (image c d.k) c.g.has c.g.crew.ids c.small fine
      ∙ ap went first_leads

  pub outcome_is : (after c d.k).outcome ≡ step.Next
  outcome_is = ap (λ (s : Stepped). s.outcome) step_is

  pub warp_is : (after c d.k).warp ≡ record { pc = target; mask = c.w.mask; registers = (after c d.k).warp.registers; stack = map (entry_at c.ops) c.w.stack }
  warp_is =
      ap (λ (s : Stepped). s.warp) step_is
      ∙ ap (λ ys. record { pc = target; mask = c.w.mask; registers = ys; stack = map (entry_at c.ops) c.w.stack }) (sym (ap (λ (s : Stepped). s.warp.registers) step_is))

  -- ---- one lane

  module _ (l : ℕ) (low : l < 32) where
    lane_accesses_are : of_lane l (after c d.k).accesses ≡ own_accesses d.i c.answers (image c d.k) l
    lane_accesses_are = ap (λ (s : Stepped). of_lane l s.accesses) step_is ∙ accesses_of d.i c.answers (image c d.k) 32 l low

    pub accesses_none : is_active c l ≡ false → of_lane l (after c d.k).accesses ≡ []
    accesses_none idle = lane_accesses_are ∙ rw idle refl

    pub lane_kept : is_active c l ≡ false → held ((after c d.k).warp.registers l) (frame_behind (c.g.at l) (of_lane l (after c d.k).accesses) (c.frames l)) ≡ held (c.xs l) (c.frames l)
    lane_kept idle =
        ap (λ ys. held ys (frame_behind (c.g.at l) (of_lane l (after c d.k).accesses) (c.frames l)))
        (ap (λ (s : Stepped). s.warp.registers l) step_is ∙ acted_idle d.i c.answers (image c d.k) c.g.crew.ids 32 l idle)
        ∙ ap (λ list. held (c.xs l) (frame_behind (c.g.at l) list (c.frames l))) (accesses_none idle)

    module _ (active : is_active c l ≡ true) where
      pub accesses_are : of_lane l (after c d.k).accesses ≡ access_of (c.answers l) (effect_to c d l)
      accesses_are = lane_accesses_are ∙ rw active (ap (access_of (c.answers l)) (effect_is d.i (image c d.k) l))

      module _ (answered : FramesAnswer c.g (after c d.k) c.frames) where
        moved : (h : Held) × (GoesTo c d choice target l (c.answers l) h × Q l (c.answers l) h)
        moved = moves l low active (c.answers l) (subst (AreAnswered (c.g.at l) c.g.crew.block (c.frames l)) accesses_are (answered l low))

        registers_are : (after c d.k).warp.registers l ≡ moved.0.registers
        registers_are =
            ap (λ (s : Stepped). s.warp.registers l) step_is ∙ acted_active d.i c.answers (image c d.k) c.g.crew.ids 32 l low active
            ∙ ap (λ e. registers_after c.g.crew.ids c.w.mask l (c.answers l) e (c.xs l)) (effect_is d.i (image c d.k) l) ∙ moved.1.0.registers

        frame_is : frame_behind (c.g.at l) (of_lane l (after c d.k).accesses) (c.frames l) ≡ moved.0.frame
        frame_is = ap (λ list. frame_behind (c.g.at l) list (c.frames l)) accesses_are ∙ moved.1.0.frame

        -- what holds behind the step
        pub holds : Q l (c.answers l) (held ((after c d.k).warp.registers l) (frame_behind (c.g.at l) (of_lane l (after c d.k).accesses) (c.frames l)))
        holds =
            subst (Q l (c.answers l))
            (sym (ap (λ ys. held ys (frame_behind (c.g.at l) (of_lane l (after c d.k).accesses) (c.frames l))) registers_are ∙ ap (held moved.0.registers) frame_is))
            moved.1.1
