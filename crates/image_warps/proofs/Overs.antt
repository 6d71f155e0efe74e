-- Steps by which an operation is made that each active lane makes by itself: the warp of the code makes the same step.
use Rattle.std.proofs.Common.{◌≡◌, ℕ, zero, suc, ◌+◌, ◌<◌, Bool, true, false, nat_lt, List, [], ◌∷◌, drop, map, ap, sym, subst, ◌∙◌, arith, refl, ltb-false}
use Rattle.vx_isa.specs.Warps.{leader, least_below}
use Rattle.vx_isa.specs.WarpSteps.{access_of}
use Rattle.vx_isa.specs.declared.warps.MachineTrap.{MachineTrap}
use Rattle.vx_isa.specs.declared.warps.MachineTrap.TheVariants as trap
use Rattle.vx_isa.specs.declared.warps.Step.TheVariants as step
use Rattle.vcode.specs.Code.{VOp}
use Rattle.vcode.specs.Words.{op_words}
use Rattle.warp_code.specs.Warps as code
use Rattle.warp_code.specs.Warps.{VLane, disagrees, lane_behind, lanes_by, moved, stepped, warp_from, warp_op, warp_step}
use Rattle.reg_alloc.specs.Plain.{Held, held}
use Rattle.reg_alloc.specs.Blocks.{address_of_word}
use Rattle.reg_alloc.specs.Layout.{word_of_place}
use Rattle.image_warps.specs.Lanes.{Known, Same, AsksAlike, known_behind}
use Rattle.image_warps.specs.Warps.{LaneStands, Position, Stands, WordsLeft, entry_at, image_warp, outcome_at, word_at}
use Rattle.image_warps.specs.Laws.{FramesAnswer, IsOver, all_known, frames_behind}
use Rattle.image_warps.proofs.Sets.{before_least, leader_leads}
use Rattle.image_warps.proofs.Stepping.{Moves, Scene, Word, accesses_are, accesses_none, after, effect_to, holds, is_active, lane_kept, outcome_is, warp_is}
use Rattle.image_warps.proofs.Inside.{Idle}

-- the word behind a block
pub next_place : (ops rest : List VOp) (op : VOp) (p : ℕ) → drop p ops ≡ op ∷ rest → word_of_place ops (suc p) ≡ op_words op + word_of_place ops p
next_place [] rest op zero e = absurd (cc)
next_place [] rest op (suc p) e = absurd (cc)
next_place (x ∷ []) rest op zero e = let same : x ≡ op = cc in ap (λ o. op_words o + 0) same
next_place (x ∷ (y ∷ ops)) rest op zero e = let same : x ≡ op = cc in ap (λ o. op_words o + 0) same
next_place (x ∷ ops) rest op (suc p) e = let h = next_place ops rest op p e in omega (arith, h)

-- the warp of the code stands in order, at this operation
pub record Ordered (c : Scene) (op : VOp) : Type 0 where
  pub rest : List VOp
  pub there : drop c.w.place c.ops ≡ op ∷ rest
  pub here : (l : ℕ) → is_active c l ≡ true → (c.w.lanes l).place ≡ c.w.place
  pub traps : (fault : MachineTrap) (l place : ℕ) → (warp_step c.g.crew c.ops c.answers c.w).outcome ≡ step.Trap fault l place → fault ≡ trap.Break

abbrev pub lanes_behind : (c : Scene) → VOp → ℕ → VLane
lanes_behind c op = moved c.g.crew op c.answers c.w

-- a lane that has made its step
abbrev pub one_behind : (c : Scene) → VOp → ℕ → ℕ → VLane
one_behind c op l answer = lane_behind answer (c.w.lanes l) (code.does c.g.crew c.w.mask op l (c.w.lanes l))

module _ (c : Scene) (op : VOp) (o : Ordered c op) where
  pub step_of : warp_step c.g.crew c.ops c.answers c.w ≡ warp_op c.g.crew op (lanes_behind c op) c.w
  step_of = ap (λ ops. warp_from c.g.crew ops c.answers c.w) o.there

  pub leads : (is_active c (leader c.w.mask) ≡ true) × (leader c.w.mask < 32)
  leads = leader_leads c.w.mask c.some.0 c.some.1.0 c.some.1.1

  pub behind_is : (l : ℕ) → is_active c l ≡ true → lanes_behind c op l ≡ one_behind c op l (c.answers l)
  behind_is l active = rw active refl

  -- ---- operations of lanes

  module _ (lanes : warp_op c.g.crew op (lanes_behind c op) c.w ≡ code.lanes_step op (lanes_behind c op) c.w) where
    first_apart : ℕ
    first_apart = least_below 32 (disagrees op c.w)

    none_apart : nat_lt (least_below 32 (disagrees op c.w)) 32 ≡ false
    none_apart = by (nat_lt (least_below 32 (disagrees op c.w)) 32) refl where
      by : (b : Bool) → nat_lt (least_below 32 (disagrees op c.w)) 32 ≡ b → b ≡ false
      by true e =
          let parts : warp_step c.g.crew c.ops c.answers c.w ≡ code.trapped trap.Split (least_below 32 (disagrees op c.w)) c.w =
          step_of ∙ lanes ∙ ap (λ b. lanes_by b (least_below 32 (disagrees op c.w)) (lanes_behind c op) c.w) e in
          let never : trap.Split ≡ trap.Break = o.traps trap.Split (least_below 32 (disagrees op c.w)) c.w.place (ap (λ (s : code.Stepped). s.outcome) parts) in
          absurd (cc)
      by false e = refl

    -- active lanes agree
    pub agree : (l : ℕ) → l < 32 → disagrees op c.w l ≡ false
    agree l low =
        let far = ltb-false (least_below 32 (disagrees op c.w)) 32 none_apart in
        before_least 32 (disagrees op c.w) l (omega (arith, far, low))

    pub goes_to : (place : ℕ) → ((l : ℕ) → l < 32 → is_active c l ≡ true → (one_behind c op l (c.answers l)).place ≡ place)
        → warp_step c.g.crew c.ops c.answers c.w ≡ stepped step.Next place c.w.mask c.w.stack (lanes_behind c op)
    goes_to place placed =
        step_of ∙ lanes ∙ ap (λ b. lanes_by b (least_below 32 (disagrees op c.w)) (lanes_behind c op) c.w) none_apart
        ∙ ap (λ p. stepped step.Next p c.w.mask c.w.stack (lanes_behind c op))
        (ap (λ (v : VLane). v.place) (behind_is (leader c.w.mask) leads.0) ∙ placed (leader c.w.mask) leads.1 leads.0)

  -- ---- the step at the words

  -- an active lane stands for the lane of the code behind its step, and has asked for what it asks for
  abbrev pub Over : (ℕ → Known) → (d : Word c) → Position → ℕ → ℕ → Held → Type 0
  Over known d at l answer h =
      LaneStands c.g at l (known_behind op (known l)) (one_behind c op l answer).registers h
      × AsksAlike (c.g.at l) answer (code.does c.g.crew c.w.mask op l (c.w.lanes l)) (access_of answer (effect_to c d l))

  pub over : (known : ℕ → Known) → Idle c known → (d : Word c) (choice target : ℕ) (at : Position) (place : ℕ)
      → warp_step c.g.crew c.ops c.answers c.w ≡ stepped step.Next place c.w.mask c.w.stack (lanes_behind c op)
      → target ≡ address_of_word (word_at c.ops (stepped step.Next place c.w.mask c.w.stack (lanes_behind c op)).warp at)
      → WordsLeft c.g c.ops (stepped step.Next place c.w.mask c.w.stack (lanes_behind c op)).warp at
      → FramesAnswer c.g (after c d.k) c.frames → Moves c d choice target (Over known d at) → IsOver c.g c.ops known c.w c.answers c.frames op (after c d.k)
  over known idle d choice target at place v_is lands left answered moves = record {
    at = at;
    warp = warp_is c d choice target (Over known d at) moves
        ∙ ap (λ n. record { pc = n; mask = c.w.mask; registers = (after c d.k).warp.registers; stack = map (entry_at c.ops) c.w.stack }) lands
        ∙ ap (λ (s : code.Stepped). image_warp c.ops (word_at c.ops s.warp at) s.warp (after c d.k).warp.registers) (sym v_is);
    outcome = outcome_is c d choice target (Over known d at) moves ∙ sym (ap (λ (s : code.Stepped). outcome_at c.ops s.outcome) v_is);
    asks = λ l low active.
        subst (AsksAlike (c.g.at l) (c.answers l) (code.does c.g.crew c.w.mask op l (c.w.lanes l))) (sym (accesses_are c d choice target (Over known d at) moves l low active))
        (holds c d choice target (Over known d at) moves l low active answered).1;
    others = λ l low none. accesses_none c d choice target (Over known d at) moves l low none;
    stands = subst (λ (s : code.Stepped). Stands c.g c.ops (all_known op c.w known) s.warp at (after c d.k).warp.registers (frames_behind c.g (after c d.k) c.frames)) (sym v_is) stands;
  } where
    known_one : (l : ℕ) → is_active c l ≡ true → all_known op c.w known l ≡ known_behind op (known l)
    known_one l active = rw active refl

    known_same : (l : ℕ) → is_active c l ≡ false → all_known op c.w known l ≡ known l
    known_same l none = rw none refl

    lane_same : (l : ℕ) → is_active c l ≡ false → lanes_behind c op l ≡ c.w.lanes l
    lane_same l none = rw none refl

    lane_now : ℕ → Held
    lane_now l = held ((after c d.k).warp.registers l) (frames_behind c.g (after c d.k) c.frames l)

    stands : Stands c.g c.ops (all_known op c.w known) (stepped step.Next place c.w.mask c.w.stack (lanes_behind c op)).warp at (after c d.k).warp.registers (frames_behind c.g (after c d.k) c.frames)
    stands = record {
      left = left;
      active = λ l low active.
          subst (λ kn. LaneStands c.g at l kn (lanes_behind c op l).registers (lane_now l)) (sym (known_one l active))
          (subst (λ (v : VLane). LaneStands c.g at l (known_behind op (known l)) v.registers (lane_now l)) (sym (behind_is l active))
          (holds c d choice target (Over known d at) moves l low active answered).0);
      idle = λ l low none.
          subst (λ kn. Same c.g l kn (lanes_behind c op l).registers (lane_now l)) (sym (known_same l none))
          (subst (λ (v : VLane). Same c.g l (known l) v.registers (lane_now l)) (sym (lane_same l none))
          (subst (Same c.g l (known l) (c.w.lanes l).registers) (sym (lane_kept c d choice target (Over known d at) moves l low none)) (idle l low none)));
    }
