-- A failed check, and the operation that enters a loop.
use Rattle.std.proofs.Common.{◌≡◌, ℕ, suc, ◌+◌, ◌<◌, Bool, true, false, nat_lt, if◌then◌else◌, [], ◌∷◌, map, Some, ap, sym, subst, ◌∙◌, arith, refl, inl, inr, ltb-true}
use Rattle.std.specs.Prelude.{◌&&◌, is_some}
use Rattle.std.proofs.Math.Path.{fun_ext}
use Rattle.std.proofs.lemmas.Bool.{cases_lt}
use Rattle.vx_base.specs.declared.types.Pos.{Pos}
use Rattle.vx_isa.specs.Warps.{has_lane, leader}
use Rattle.vx_isa.specs.WarpSteps.{Stepped, accesses_below, acted_below, choice_of, effect_in, fault_of, fetched_step, lane_fault, lanes_stepped, registers_after, stop_lane}
use Rattle.vx_isa.specs.declared.instr.Instr.TheVariants as instr
use Rattle.vx_isa.specs.declared.warps.MachineTrap.TheVariants as trap
use Rattle.vx_isa.specs.declared.warps.Step.TheVariants as step
use Rattle.vx_isa.proofs.MaskLaws.{least_below-found}
use Rattle.vcode.specs.Code.{Trap, Enter}
use Rattle.warp_code.specs.Warps as code
use Rattle.warp_code.specs.Warps.{stepped, warp_step}
use Rattle.reg_alloc.specs.Plain.{Held, held}
use Rattle.reg_alloc.specs.Blocks.{address_of_word, ends}
use Rattle.reg_alloc.specs.Layout.{word_of_place}
use Rattle.image_warps.specs.Lanes.{Known, Same, of_lane}
use Rattle.image_warps.specs.Warps.{Along, Stands, block_at, entry_at, image_warp, word_at}
use Rattle.image_warps.specs.Laws.{Enters, IsBroken, all_known}
use Rattle.image_warps.proofs.Sets.{before_least, leader_leads}
use Rattle.image_warps.proofs.Going.{accesses_of, below_past, effect_is}
use Rattle.image_warps.proofs.Stepping.{Scene, after, fetched_here, image, is_active}
use Rattle.image_warps.proofs.Inside.{Idle}
use Rattle.image_warps.proofs.Overs.{Ordered, goes_to, lanes_behind, next_place}
use Rattle.image_warps.proofs.Acting.{word_there}

module _ (c : Scene) (known : ℕ → Known) (idle : Idle c known) (pos : Pos) (o : Ordered c (Trap pos)) where
  abbrev pub k : ℕ
  k = word_of_place c.ops c.w.place + 0

  leads : (is_active c (leader c.w.mask) ≡ true) × (leader c.w.mask < 32)
  leads = leader_leads c.w.mask c.some.0 c.some.1.0 c.some.1.1

  none_below : (l : ℕ) → l < leader c.w.mask → is_active c l ≡ false
  none_below l less = before_least 32 (has_lane c.w.mask) l less

  fault_below : (l : ℕ) → l < leader c.w.mask → is_some (lane_fault c.g.has instr.Ebreak (image c k) l) ≡ false
  fault_below l less = rw (none_below l less) refl

  fault_first : lane_fault c.g.has instr.Ebreak (image c k) (leader c.w.mask) ≡ Some trap.Break
  fault_first =
      rw (leads.0) (ap (fault_of c.g.has (address_of_word k) (choice_of (effect_in instr.Ebreak (image c k) (leader c.w.mask)))) (effect_is instr.Ebreak (image c k) (leader c.w.mask)))

  stops : stop_lane c.g.has instr.Ebreak (image c k) ≡ leader c.w.mask
  stops = least_below-found 32 (λ l. is_some (lane_fault c.g.has instr.Ebreak (image c k) l)) (leader c.w.mask) leads.1 fault_below (ap is_some fault_first)

  registers_kept : acted_below (leader c.w.mask) c.g.crew.ids instr.Ebreak c.answers (image c k) ≡ c.xs
  registers_kept = fun_ext (λ l. by l (nat_lt l (leader c.w.mask)) refl) where
    by : (l : ℕ) (b : Bool) → nat_lt l (leader c.w.mask) ≡ b
        → (if b && has_lane c.w.mask l then registers_after c.g.crew.ids c.w.mask l (c.answers l) (effect_in instr.Ebreak (image c k) l) (c.xs l) else c.xs l) ≡ c.xs l
    by l true e = rw (none_below l (ltb-true l (leader c.w.mask) e)) refl
    by l false e = refl

  no_accesses : (l : ℕ) → of_lane l (accesses_below (leader c.w.mask) instr.Ebreak c.answers (image c k)) ≡ []
  no_accesses l =
      elim (cases_lt l (leader c.w.mask)) [
        | inl less ↦ accesses_of instr.Ebreak c.answers (image c k) (leader c.w.mask) l less ∙ rw (none_below l less) refl
        | inr past ↦ below_past instr.Ebreak c.answers (image c k) (leader c.w.mask) l past
      ]

  abbrev pub broken : Stepped
  broken = record { warp = image c k; accesses = accesses_below (leader c.w.mask) instr.Ebreak c.answers (image c k); outcome = step.Trap trap.Break (leader c.w.mask) (address_of_word k) }

  step_is : after c k ≡ broken
  step_is =
      ap (fetched_step c.g.has c.g.crew.ids c.answers (image c k))
      (fetched_here c.g.slots c.ops c.laid.slots c.within c.near instr.Ebreak _ k (word_there c known idle (Trap pos) o (ends [] instr.Ebreak) refl))
      ∙ ap (λ n. lanes_stepped c.g.crew.ids instr.Ebreak c.answers (image c k) n (lane_fault c.g.has instr.Ebreak (image c k) n)) stops
      ∙ ap (λ f. lanes_stepped c.g.crew.ids instr.Ebreak c.answers (image c k) (leader c.w.mask) f) fault_first
      ∙ ap (λ ys. record { warp = record { pc = address_of_word k; mask = c.w.mask; registers = ys; stack = map (entry_at c.ops) c.w.stack }; accesses = accesses_below (leader c.w.mask) instr.Ebreak c.answers (image c k); outcome = step.Trap trap.Break (leader c.w.mask) (address_of_word k) }) registers_kept

  pub breaks : IsBroken c.ops c.w c.xs (Trap pos) (after c (word_of_place c.ops c.w.place + 0))
  breaks = record {
    pos = pos;
    check = refl;
    warp = ap (λ (s : Stepped). s.warp) step_is;
    outcome = ap (λ (s : Stepped). s.outcome) step_is ∙ ap (λ n. step.Trap trap.Break (leader c.w.mask) (address_of_word n)) (omega arith);
    quiet = λ l. ap (λ (s : Stepped). of_lane l s.accesses) step_is ∙ no_accesses l;
  }

-- ---- a loop is entered

module _ (c : Scene) (known : ℕ → Known) (o : Ordered c Enter) (stands : Stands c.g c.ops known c.w (Along []) c.xs c.frames) where
  enters_is : warp_step c.g.crew c.ops c.answers c.w ≡ stepped step.Next (suc c.w.place) c.w.mask c.w.stack (lanes_behind c Enter)
  enters_is = goes_to c Enter o refl (suc c.w.place) (λ l low active. ap suc (o.here l active))

  same_word : word_of_place c.ops c.w.place + 0 ≡ word_of_place c.ops (suc c.w.place) + 0
  same_word = let n = next_place c.ops o.rest Enter c.w.place o.there in omega (arith, n)

  known_same : (l : ℕ) → all_known Enter c.w known l ≡ known l
  known_same l = by (is_active c l) where
    by : (b : Bool) → (if b then known l else known l) ≡ known l
    by true = refl
    by false = refl

  lanes_same : (l : ℕ) → (lanes_behind c Enter l).registers ≡ (c.w.lanes l).registers
  lanes_same l = by (is_active c l) where
    by : (b : Bool) → (if b then record { place = suc (c.w.lanes l).place; registers = (c.w.lanes l).registers; turns = 0 ∷ (c.w.lanes l).turns } else c.w.lanes l).registers ≡ (c.w.lanes l).registers
    by true = refl
    by false = refl

  now_same : (l : ℕ) (h : Held) → Same c.g l (known l) (c.w.lanes l).registers h → Same c.g l (all_known Enter c.w known l) (lanes_behind c Enter l).registers h
  now_same l h same =
      subst (λ kn. Same c.g l kn (lanes_behind c Enter l).registers h) (sym (known_same l)) (subst (λ rs. Same c.g l (known l) rs h) (sym (lanes_same l)) same)

  active_same : (l : ℕ) → l < 32 → is_active c l ≡ true → Same c.g l (known l) (c.w.lanes l).registers (held (c.xs l) (c.frames l))
  active_same l low active =
      let s = stands.active l low active in
      subst (Same c.g l (known l) (c.w.lanes l).registers) (sym s.1.1) s.1.0

  pub enters : Enters c.g c.ops known c.w c.answers c.xs c.frames
  enters = record {
    outcome = ap (λ (v : code.Stepped). v.outcome) enters_is;
    warp = ap (λ n. image_warp c.ops n c.w c.xs) same_word ∙ ap (λ (v : code.Stepped). image_warp c.ops (word_at c.ops v.warp (Along [])) v.warp c.xs) (sym enters_is);
    stands = subst (λ (v : code.Stepped). Stands c.g c.ops (all_known Enter c.w known) v.warp (Along []) c.xs c.frames) (sym enters_is) (record {
      left = λ op rest there. (block_at c.g c.ops (suc c.w.place) op, refl);
      active = λ l low active. (held (c.xs l) (c.frames l), (now_same l (held (c.xs l) (c.frames l)) (active_same l low active), refl));
      idle = λ l low none. now_same l (held (c.xs l) (c.frames l)) (stands.idle l low none);
    });
  }
