-- A lane alone goes through the block of an operation that computes.
use Rattle.std.proofs.Common.{◌≡◌, ℕ, zero, suc, ◌+◌, ◌<◌, ◌≤◌, ◌^◌, List, [], drop, length, map, ap, sym, subst, ◌∙◌, refl}
use Rattle.vx_base.specs.Values.{alu_value_of}
use Rattle.vx_base.specs.declared.types.Alu.{Alu}
use Rattle.item_acts.specs.declared.acts.Place.{Place}
use Rattle.item_acts.specs.Launches.{put_at}
use Rattle.item_acts.specs.Machine.{Step, Go}
use Rattle.step_machine.specs.Sims.{GoAlong}
use Rattle.kir.specs.Machine.{value}
use Rattle.kir.specs.Numbered.{IsBelow}
use Rattle.kir.specs.Trees.{Operand, VariableOf, NumberOf}
use Rattle.vx_isa.specs.Words.{word_of}
use Rattle.vx_isa.specs.Warps.{Registers, value_in, with_register}
use Rattle.vx_isa.specs.declared.instr.Instr.{Instr}
use Rattle.vcode.specs.Code.{Compute}
use Rattle.reg_alloc.specs.Plain.{Held, Plain, do_all, held, left, made}
use Rattle.reg_alloc.specs.Blocks.{block, compute_word, operand_before, register_of, right_before}
use Rattle.reg_alloc.specs.Layout.{block_onto}
use Rattle.reg_alloc.specs.Alone.{Setting, goes_with, image_step, next_pc}
use Rattle.reg_alloc.proofs.Acting.{stored_along}
use Rattle.reg_alloc.proofs.Bringing.{based_for, brought, frame_kept, operand_brings, operand_reaches, operand_value, others_kept}
use Rattle.reg_alloc.proofs.Computing.{compute_step, right_brings, right_brought, right_frame, right_others, right_reaches, right_value, second_value}
use Rattle.reg_alloc.proofs.Fitting.{AllFit}
use Rattle.reg_alloc.proofs.Goings.{lane_at}
use Rattle.reg_alloc.specs.Keeping.{Stands, around_in}

-- the lane once both operands are brought
abbrev pub both_brought : Alu → Operand → Operand → Held → Held
both_brought op a b h = right_brought op b (brought left a h)

-- the second operand leaves the first
pub first_value : (op : Alu) (a b : Operand) (h : Held) → value h.frame a < 2 ^ 32 → value_in (both_brought op a b h).registers (register_of left a) ≡ value h.frame a
first_value op (VariableOf r) b h word = right_others op b (brought left (VariableOf r) h) left refl ∙ operand_value left refl refl refl (VariableOf r) h word
first_value op (NumberOf zero) b h word = refl
first_value op (NumberOf (suc n)) b h word = right_others op b (brought left (NumberOf (suc n)) h) left refl ∙ operand_value left refl refl refl (NumberOf (suc n)) h word

pub last_value : (op : Alu) (a b : Operand) (h : Held) → value h.frame b < 2 ^ 32 → second_value op b (both_brought op a b h).registers ≡ value h.frame b
last_value op a b h word =
    let same : (brought left a h).frame ≡ h.frame = frame_kept left a h in
    right_value op b (brought left a h) (subst (λ (frame : ℕ → ℕ). value frame b < 2 ^ 32) (sym same) word) ∙ ap (λ (frame : ℕ → ℕ). value frame b) same

pub both_frame : (op : Alu) (a b : Operand) (h : Held) → (both_brought op a b h).frame ≡ h.frame
both_frame op a b h = right_frame op b (brought left a h) ∙ frame_kept left a h

-- the register of the frame is as it was
pub frame_register : (op : Alu) (a b : Operand) (h : Held) → (both_brought op a b h).registers 4 ≡ h.registers 4
frame_register op a b h = right_others op b (brought left a h) 4 refl ∙ others_kept left refl refl refl a h 4 refl

module _ {S : Type 0} (f : S → Step S) (c : S → ℕ) (k : Setting) (place : ℕ → Place) (slots start : ℕ) (stands : Stands k slots start)
    (is : List Instr) (code : k.words ≡ map word_of is) (fits : AllFit is) where
  pub compute_along : (starts : ℕ → ℕ) (end d : ℕ) (op : Alu) (a b : Operand) (rest : List Instr) (j : ℕ) (h : Held) (ns : List ℕ)
      → j + (length (operand_before left a (right_before op b [])) + 2) ≤ 65536 → drop j is ≡ block_onto (block slots starts end (Compute d op a b)) rest
      → d < slots → IsBelow slots a → IsBelow slots b → value h.frame a < 2 ^ 32 → value h.frame b < 2 ^ 32 → h.registers 4 ≡ start
      → (n : ℕ) (s : S)
      → GoAlong f (image_step k) c (λ t. 0) n s
      (lane_at (j + (length (operand_before left a (right_before op b [])) + 2))
      (held (with_register made (alu_value_of op (value h.frame a) (value h.frame b)) (both_brought op a b h).registers)
      (put_at d (alu_value_of op (value h.frame a) (value h.frame b)) h.frame)) ns)
      → GoAlong f (image_step k) c (λ t. 0) n s (lane_at j h ns)
  compute_along starts end d op a b rest j h ns low e less below below' word word' based n s along =
      let at = around_in k place in
      let ws : List Plain = operand_before left a (right_before op b []) in
      let v = alu_value_of op (value h.frame a) (value h.frame b) in
      let h1 : Held = both_brought op a b h in
      let done : do_all at ws h ≡ h1 =
      operand_brings left refl refl refl at slots a (right_before op b []) h below ∙ right_brings at slots op b [] (brought left a h) below' in
      let based' : (brought left a h).registers 4 ≡ start = others_kept left refl refl refl a h 4 refl ∙ based in
      let there : (do_all at ws h).registers 4 ≡ start = ap (λ (x : Held). x.registers 4) done ∙ frame_register op a b h ∙ based in
      let whole = subst (λ (frame : ℕ → ℕ). GoAlong f (image_step k) c (λ t. 0) n s (lane_at (j + (length ws + 2)) (held (with_register made v h1.registers) (put_at d v frame)) ns)) (sym (both_frame op a b h)) along in
      let moved = subst (λ (x : Held). GoAlong f (image_step k) c (λ t. 0) n s (lane_at (j + (length ws + 2)) (held (with_register made v x.registers) (put_at d v x.frame)) ns)) (sym done) whole in
      stored_along f c k place slots start stands is code fits ws (compute_word op b (register_of left a)) d v rest j h ns low e
      (operand_reaches left refl refl refl at slots start a (right_before op b []) h below (based_for start h a based) (right_reaches at slots start op b [] (brought left a h) below' based' tt))
      there less
      (λ t same.
      let xs : t.registers ≡ h1.registers = same ∙ ap (λ (x : Held). x.registers) done in
      let one : value_in t.registers (register_of left a) ≡ value h.frame a = ap (λ (ys : Registers). value_in ys (register_of left a)) xs ∙ first_value op a b h word in
      let two : second_value op b t.registers ≡ value h.frame b = ap (second_value op b) xs ∙ last_value op a b h word' in
      compute_step k op b (register_of left a) t ∙ ap (λ x. Go (goes_with (next_pc t) made (alu_value_of op x (second_value op b t.registers)) t)) one
      ∙ ap (λ y. Go (goes_with (next_pc t) made (alu_value_of op (value h.frame a) y) t)) two)
      n s moved
