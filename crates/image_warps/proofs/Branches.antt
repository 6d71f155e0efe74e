-- Branches that all active lanes take alike, and jumps.
use Rattle.std.proofs.Common.{◌≡◌, ℕ, suc, ◌+◌, ◌-◌, ◌%◌, ◌<◌, Bool, true, false, not, if◌then◌else◌, [], length, sym, subst, arith, refl}
use Rattle.kir.specs.Numbered.{IsBelow}
use Rattle.kir.specs.Trees.{Operand}
use Rattle.vx_isa.specs.Effects.{address_at}
use Rattle.vx_isa.specs.declared.instr.Instr.{Instr}
use Rattle.vx_isa.specs.declared.instr.LaneEffect.TheVariants as effect
use Rattle.vcode.specs.Code.{VOp}
use Rattle.vcode.specs.Words.{op_words}
use Rattle.warp_code.specs.Warps as code
use Rattle.warp_code.specs.Warps.{around_of, same_choice, warp_op}
use Rattle.reg_alloc.specs.Plain.{Held, do_all, left}
use Rattle.reg_alloc.specs.Blocks.{address_of_word, jump, leads, operand_before}
use Rattle.reg_alloc.specs.Layout.{word_of_place}
use Rattle.reg_alloc.proofs.Bringing.{brought, operand_brings}
use Rattle.image_warps.specs.Lanes.{Known, Same, AsksAlike, known_behind}
use Rattle.image_warps.specs.Warps.{Along, Jumping, LaneStands, Position}
use Rattle.image_warps.specs.Laws.{FramesAnswer, IsOver}
use Rattle.image_warps.proofs.Quiet.{effect_at}
use Rattle.image_warps.proofs.Computed.{IsLanes}
use Rattle.image_warps.proofs.Leading.{branch_goes}
use Rattle.image_warps.proofs.Made.{Made}
use Rattle.image_warps.proofs.Values.{left_same}
use Rattle.image_warps.proofs.Stepping.{Scene, after, is_active}
use Rattle.image_warps.proofs.Inside.{Idle}
use Rattle.image_warps.proofs.Overs.{Ordered, lanes_behind, one_behind}
use Rattle.image_warps.proofs.Acting.{Begun, jumps_over, skips_over, this_block}

fourth : (n m : ℕ) → m % 4 ≡ 0 → address_at (address_of_word n) m % 4 ≡ 0
fourth n m e = omega (arith, e)

-- lanes that do not disagree choose alike
pub alike : (x y : Bool) → not (same_choice x y) ≡ false → y ≡ x
alike true true e = refl
alike true false e = sym e
alike false true e = e
alike false false e = refl

module _ (c : Scene) (known : ℕ → Known) (idle : Idle c known) (op : VOp) (o : Ordered c op)
    (lanes : warp_op c.g.crew op (lanes_behind c op) c.w ≡ code.lanes_step op (lanes_behind c op) c.w)
    (a : Operand) (below : IsBelow c.g.slots a) (q : ℕ) (i : Instr) (each : IsLanes i)
    (e : this_block c known idle op o ≡ leads (operand_before left a []) i (jump (op_words op + word_of_place c.ops c.w.place - 1) (word_of_place c.ops q)))
    (registers : (l answer : ℕ) → (one_behind c op l answer).registers ≡ (c.w.lanes l).registers)
    (keeps : (l : ℕ) → known_behind op (known l) ≡ known l)
    (asks : (l answer : ℕ) → AsksAlike (c.g.at l) answer (code.does c.g.crew c.w.mask op l (c.w.lanes l)) []) where
  -- how a lane branches
  abbrev pub Branches : Bool → Type 0
  Branches taken =
      (l : ℕ) → l < 32 → is_active c l ≡ true → (from : Held) → Same c.g l (known l) (c.w.lanes l).registers from
      → (pc : ℕ) → effect_at i pc (brought left a from).registers ≡ effect.Branch taken (address_at pc 8)

  made_so : (taken : Bool) (at : Position) (target n : ℕ) → Branches taken → (if taken then address_at (address_of_word n) 8 else address_at (address_of_word n) 4) ≡ target → target % 4 ≡ 0
      → ((l : ℕ) (h : Held) → Same c.g l (known l) (c.w.lanes l).registers h → LaneStands c.g at l (known l) (c.w.lanes l).registers h)
      → (l : ℕ) → l < 32 → is_active c l ≡ true → (from : Held) → Same c.g l (known l) (c.w.lanes l).registers from → (answer : ℕ)
      → Made c.g c.w.mask l (address_of_word n) answer (if taken then 1 else 0) target at (known_behind op (known l)) (one_behind c op l answer).registers
      (code.does c.g.crew c.w.mask op l (c.w.lanes l)) (effect_at i (address_of_word n) (do_all (around_of c.g.crew l) (operand_before left a []) from).registers) (do_all (around_of c.g.crew l) (operand_before left a []) from)
  made_so taken at target n shown led whole stands l low active from same answer =
      let pc = address_of_word n in
      let h = brought left a from in
      let ok = left_same c.g l (known l) (c.w.lanes l).registers from same a in
      let is = shown l low active from same pc in
      let stood = stands l h ok in
      subst (λ (x : Held). Made c.g c.w.mask l pc answer (if taken then 1 else 0) target at (known_behind op (known l)) (one_behind c op l answer).registers (code.does c.g.crew c.w.mask op l (c.w.lanes l)) (effect_at i pc x.registers) x)
      (sym (operand_brings left refl refl refl (around_of c.g.crew l) c.g.slots a [] from below))
      (subst (λ f. Made c.g c.w.mask l pc answer (if taken then 1 else 0) target at (known_behind op (known l)) (one_behind c op l answer).registers (code.does c.g.crew c.w.mask op l (c.w.lanes l)) f h)
      (sym is)
      (record {
        after = h;
        goes = branch_goes c.g c.w.mask l pc answer (known l) (c.w.lanes l).registers h ok taken (address_at pc 8) target led whole;
        asks = asks l answer;
        stands = subst (λ kn. LaneStands c.g at l kn (one_behind c op l answer).registers h) (sym (keeps l)) (subst (λ rs. LaneStands c.g at l (known l) rs h) (sym (registers l answer)) stood);
      }))

  pub branch_over : (jumps : Bool) → ((l : ℕ) → is_active c l ≡ true → (one_behind c op l (c.answers l)).place ≡ (if jumps then q else suc (c.w.lanes l).place))
      → Branches (not jumps) → Begun c known (operand_before left a []) → FramesAnswer c.g (after c (word_of_place c.ops c.w.place + length (operand_before left a []))) c.frames
      → IsOver c.g c.ops known c.w c.answers c.frames op (after c (word_of_place c.ops c.w.place + length (operand_before left a [])))
  branch_over false placed shown begun answered =
      let n = word_of_place c.ops c.w.place + length (operand_before left a []) in
      skips_over c known idle op o lanes (operand_before left a []) i q e each begun answered placed
      (λ l low active from same answer given. made_so true (Along []) (address_at (address_of_word n) 8) n shown refl (fourth n 8 refl) (λ l h ok. (h, (ok, refl))) l low active from same answer)
  branch_over true placed shown begun answered =
      let n = word_of_place c.ops c.w.place + length (operand_before left a []) in
      jumps_over c known idle op o lanes (operand_before left a []) i q e each begun answered placed
      (λ l low active from same answer given. made_so false (Jumping (suc n)) (address_at (address_of_word n) 4) n shown refl (fourth n 4 refl) (λ l h ok. ok) l low active from same answer)
