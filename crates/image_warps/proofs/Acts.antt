-- The word by which each operation is made: one step of the warp of the code, or a trap at a failed check.
use Rattle.std.proofs.Common.{◌≡◌, ℕ, zero, suc, ◌+◌, ◌*◌, ◌%◌, ◌^◌, ◌<◌, Bool, true, false, not, nat_eq, if◌then◌else◌, List, [], ◌∷◌, length, ap, sym, subst, ◌∙◌, arith, refl}
use Rattle.std.specs.Prelude.{◌&&◌, ◌==◌}
use Rattle.vx_base.specs.Values.{alu_value_of}
use Rattle.vx_base.specs.declared.types.Alu.{Alu}
use Rattle.vx_base.specs.declared.types.Alu.TheVariants as alu
use Rattle.vx_base.specs.declared.types.Elem.{Elem}
use Rattle.step_machine.specs.Stacks.{under}
use Rattle.vcode.specs.declared.ops.Csr.{Csr}
use Rattle.vcode.specs.Machine.{lane}
use Rattle.vcode.specs.Words.{op_words}
use Rattle.kir.specs.Machine.{value}
use Rattle.kir.specs.Numbered.{IsBelow}
use Rattle.kir.specs.Trees.{Operand, VariableOf, NumberOf}
use Rattle.vx_isa.specs.Effects.{address_at}
use Rattle.vx_isa.specs.Warps.{leader, value_in}
use Rattle.vx_isa.specs.declared.instr.Instr.{Instr}
use Rattle.vx_isa.specs.declared.instr.Instr.TheVariants as instr
use Rattle.vx_isa.specs.declared.instr.LaneEffect.TheVariants as effect
use Rattle.vcode.specs.Code.{VOp, Fresh, Copy, Compute, Cut, Word, WordAt, Learn, Fetch, Write, IfZero, IfNot, Goto, Split, Join, Pred, Tmc, Wspawn, Bar, Trap, Enter, Leaves, Again}
use Rattle.simt_lowering.specs.Bounds.{OpWithin}
use Rattle.mask_laws.specs.Clean.{IsWritten, ReadsWritten}
use Rattle.warp_code.specs.Warps.{VLane, around_of, as_lane, chooses, disagrees, same_choice}
use Rattle.reg_alloc.specs.Plain.{Calculate, GetBlock, GetSlot, Held, Plain, PutSlot, ShiftLeft, do_all, held, instr_of, left, lower, made, right, set, upper}
use Rattle.reg_alloc.specs.Blocks.{address_of_word, block, compute_word, csr_number, cut_word, ends, fresh_before, load_word, operand_before, pair_before, register_of, right_before, spare_bits, store_word}
use Rattle.reg_alloc.specs.Layout.{word_of_place}
use Rattle.reg_alloc.proofs.Bringing.{brought, has_value, operand_brings, pair_brings}
use Rattle.reg_alloc.proofs.Computing.{right_brings}
use Rattle.reg_alloc.proofs.ComputingAlong.{both_brought, first_value, last_value}
use Rattle.reg_alloc.proofs.Standing.{places_are_within}
use Rattle.image_warps.specs.Lanes.{Known, Same}
use Rattle.image_warps.specs.Warps.{address_of_place}
use Rattle.image_warps.specs.Premises.{HasWord, IsBased, Reaches}
use Rattle.image_warps.specs.Laws.{Broken, FramesAnswer, IsOver, OneStep, Over}
use Rattle.image_warps.proofs.Computed.{compute_lanes, cut_lanes, load_lanes, store_lanes}
use Rattle.image_warps.proofs.Values.{both_kept, frame_word, left_same, left_value, same_kept, set_kept, value_is}
use Rattle.image_warps.proofs.Made.{compute_made, copy_made, cut_made, fetch_made, fresh_made, learn_made, word_at_made, word_made}
use Rattle.image_warps.proofs.Leading.{jump_goes, write_made}
use Rattle.image_warps.proofs.Stepping.{Scene, active_low, after, is_active, word_low}
use Rattle.image_warps.proofs.Inside.{Idle, next_word}
use Rattle.image_warps.proofs.Overs.{Ordered, agree, next_place}
use Rattle.image_warps.proofs.Acting.{Begun, ends_over, goes_over, size_is, stores_over, this_block, word_there}
use Rattle.image_warps.proofs.Branches.{alike, branch_over}
use Rattle.image_warps.proofs.Whole.{AllSame}
use Rattle.image_warps.proofs.Together.{bar_over, join_over, pred_over, spawn_over, split_over, tmc_over}
use Rattle.image_warps.proofs.Ends.{breaks}

-- what is asked of the operation
pub record Ready (c : Scene) (known : ℕ → Known) (op : VOp) : Type 0 where
  pub ordered : Ordered c op
  pub fits : OpWithin c.g.slots op
  pub clean : (l : ℕ) → is_active c l ≡ true → ReadsWritten (known l).written op
  pub based : (l : ℕ) → is_active c l ≡ true → IsBased op (known l).based
  pub reaches : (l : ℕ) → is_active c l ≡ true → Reaches c.g l op (c.w.lanes l).registers

module _ (c : Scene) (known : ℕ → Known) (idle : Idle c known) where
  -- the words in front of an operation
  abbrev pub words_before : VOp → List Plain
  words_before op = (block c.g.slots (word_of_place c.ops) (op_words op + word_of_place c.ops c.w.place) op).before

  abbrev pub here : VOp → ℕ
  here op = word_of_place c.ops c.w.place + length (words_before op)

  abbrev pub IsMade : VOp → Type 0
  IsMade op = Ready c known op → Begun c known (words_before op) → FramesAnswer c.g (after c (here op)) c.frames → IsOver c.g c.ops known c.w c.answers c.frames op (after c (here op))

  -- ---- operations of lanes

  fresh_is : IsMade Fresh
  fresh_is r begun answered =
      ends_over c known idle Fresh r.ordered refl (fresh_before c.g.slots) (instr.Add 4 left right) refl (λ has ids answers w. refl) (λ l active. refl) begun answered
      (λ l low active from same answer given. fresh_made c.g c.laid c.w.mask l (address_of_word (here Fresh)) answer low c.small (known l) (c.w.lanes l) from same)

  copy_is : (d : ℕ) (a : Operand) → IsMade (Copy d a)
  copy_is d a r begun answered =
      ends_over c known idle (Copy d a) r.ordered refl (operand_before left a []) (instr_of (PutSlot (register_of left a) d)) refl (λ has ids answers w. refl) (λ l active. refl) begun answered
      (λ l low active from same answer given.
      copy_made c.g c.laid c.w.mask l (address_of_word (here (Copy d a))) answer low c.small (known l) (c.w.lanes l) from same d a r.fits.0 r.fits.1 (r.clean l active) (r.based l active))

  compute_is : (d : ℕ) (op : Alu) (a b : Operand) → IsMade (Compute d op a b)
  compute_is d op a b r begun answered =
      stores_over c known idle (Compute d op a b) r.ordered refl (operand_before left a (right_before op b [])) (compute_word op b (register_of left a)) d refl r.fits.0
      (compute_lanes op b (register_of left a)) (λ l active. refl) begun answered
      (λ l low active from same answer given.
      compute_made c.g c.laid c.w.mask l (address_of_word (here (Compute d op a b))) answer low c.small (known l) (c.w.lanes l) from same d op a b r.fits.1 r.fits.2 (r.clean l active).0 (r.clean l active).1 (r.based l active))

  cut_is : (d : ℕ) (e : Elem) (a : Operand) → IsMade (Cut d e a)
  cut_is d e a r begun answered =
      stores_over c known idle (Cut d e a) r.ordered refl (operand_before left a (ShiftLeft made (register_of left a) (spare_bits e) ∷ [])) (cut_word e) d refl r.fits.0
      (cut_lanes e) (λ l active. refl) begun answered
      (λ l low active from same answer given.
      cut_made c.g c.laid c.w.mask l (address_of_word (here (Cut d e a))) answer low c.small (known l) (c.w.lanes l) from same d e a r.fits.1 (r.clean l active) (r.based l active))

  word_is : (d n : ℕ) → IsMade (Word d n)
  word_is d n r begun answered =
      stores_over c known idle (Word d n) r.ordered refl [] (instr_of (GetBlock made n)) d refl r.fits.0 (λ has ids answers w. refl) (λ l active. refl) begun answered
      (λ l low active from same answer given.
      word_made c.g c.laid c.w.mask l (address_of_word (here (Word d n))) answer low c.small (known l) (c.w.lanes l) from same d n r.fits.1 (r.based l active) given)

  word_at_is : (d : ℕ) (a : Operand) (n : ℕ) → IsMade (WordAt d a n)
  word_at_is d a n r begun answered =
      stores_over c known idle (WordAt d a n) r.ordered refl (operand_before left a (ShiftLeft left (register_of left a) 2 ∷ Calculate alu.Add left left 3 ∷ [])) (instr.Lw made (4 * n) left) d refl r.fits.0
      (λ has ids answers w. refl) (λ l active. refl) begun answered
      (λ l low active from same answer given.
      word_at_made c.g c.laid c.w.mask l (address_of_word (here (WordAt d a n))) answer low c.small (known l) (c.w.lanes l) from same d a n r.fits.1 (r.clean l active) (r.based l active) (r.reaches l active) given)

  learn_is : (d : ℕ) (x : Csr) → IsMade (Learn d x)
  learn_is d x r begun answered =
      stores_over c known idle (Learn d x) r.ordered refl [] (instr.Csrr made (csr_number x)) d refl r.fits (λ has ids answers w. refl) (λ l active. refl) begun answered
      (λ l low active from same answer given.
      learn_made c.g c.laid c.w.mask l (address_of_word (here (Learn d x))) answer low c.small (known l) (c.w.lanes l) from same d x (r.based l active))

  fetch_is : (d : ℕ) (e : Elem) (a : Operand) → IsMade (Fetch d e a)
  fetch_is d e a r begun answered =
      stores_over c known idle (Fetch d e a) r.ordered refl (operand_before left a []) (load_word e (register_of left a)) d refl r.fits.0
      (load_lanes e (register_of left a)) (λ l active. refl) begun answered
      (λ l low active from same answer given.
      fetch_made c.g c.laid c.w.mask l (address_of_word (here (Fetch d e a))) answer low c.small (known l) (c.w.lanes l) from same d e a r.fits.1 (r.clean l active) (r.based l active) (r.reaches l active))

  write_is : (e : Elem) (a b : Operand) → IsMade (Write e a b)
  write_is e a b r begun answered =
      ends_over c known idle (Write e a b) r.ordered refl (operand_before left a (operand_before right b [])) (store_word e (register_of left a) (register_of right b)) refl
      (store_lanes e (register_of left a) (register_of right b)) (λ l active. refl) begun answered
      (λ l low active from same answer given.
      write_made c.g c.w.mask l (address_of_word (here (Write e a b))) answer (known l) (c.w.lanes l) from same e a b r.fits.0 r.fits.1 (r.clean l active).0 (r.clean l active).1 (r.reaches l active))

  -- ---- branches and jumps

  -- the test of the least active lane, which is that of all
  abbrev pub test_of : Operand → Bool
  test_of a = value (c.w.lanes (leader c.w.mask)).registers a == 0

  -- a lane that does not disagree has it
  agrees : (op : VOp) (a : Operand) → Ordered c op → ((rs : ℕ → ℕ) → chooses op rs ≡ (value rs a == 0)) → ((l : ℕ) → l < 32 → disagrees op c.w l ≡ false) → (l : ℕ) → l < 32 → is_active c l ≡ true
      → (value (c.w.lanes l).registers a == 0) ≡ test_of a
  agrees op a o chosen agree l low active =
      alike (test_of a) (value (c.w.lanes l).registers a == 0)
      (subst (λ x. not (same_choice x (value (c.w.lanes l).registers a == 0)) ≡ false) (chosen (c.w.lanes (leader c.w.mask)).registers)
      (subst (λ x. not (same_choice (chooses op (c.w.lanes (leader c.w.mask)).registers) x) ≡ false) (chosen (c.w.lanes l).registers)
      (subst (λ b. (b && not (same_choice (chooses op (c.w.lanes (leader c.w.mask)).registers) (chooses op (c.w.lanes l).registers))) ≡ false) active (agree l low))))

  brought_test : (a : Operand) (l : ℕ) (from : Held) → Same c.g l (known l) (c.w.lanes l).registers from → IsWritten (known l).written a → IsBelow c.g.slots a → (b : Bool)
      → (value (c.w.lanes l).registers a == 0) ≡ b → nat_eq (value_in (brought left a from).registers (register_of left a)) 0 ≡ b
  brought_test a l from same written below b e = ap (λ n. nat_eq n 0) (left_value c.g l (known l) (c.w.lanes l).registers from same a written below) ∙ e

  twice_not : (b : Bool) → b ≡ not (not b)
  twice_not true = refl
  twice_not false = refl

  if_zero_is : (a : Operand) (q : ℕ) → IsMade (IfZero a q)
  if_zero_is a q r begun answered =
      branch_over c known idle (IfZero a q) r.ordered refl a r.fits q (instr.Bne (register_of left a) 0 8) (λ has ids answers w. refl) refl (λ l answer. refl) (λ l. refl) (λ l answer. tt) (test_of a)
      (λ l active. place l (active_low c l active) active) (λ l low active from same pc. ap (λ b. effect.Branch (not b) (address_at pc 8)) (brought_test a l from same (r.clean l active) r.fits (test_of a) (all l low active)))
      begun answered where
        all : (l : ℕ) → l < 32 → is_active c l ≡ true → (value (c.w.lanes l).registers a == 0) ≡ test_of a
        all = agrees (IfZero a q) a r.ordered (λ rs. refl) (agree c (IfZero a q) r.ordered refl)

        place : (l : ℕ) → l < 32 → is_active c l ≡ true → (if value (c.w.lanes l).registers a == 0 then q else suc (c.w.lanes l).place) ≡ (if test_of a then q else suc (c.w.lanes l).place)
        place l low active = ap (λ b. if b then q else suc (c.w.lanes l).place) (all l low active)

  if_not_is : (a : Operand) (q : ℕ) → IsMade (IfNot a q)
  if_not_is a q r begun answered =
      branch_over c known idle (IfNot a q) r.ordered refl a r.fits q (instr.Beq (register_of left a) 0 8) (λ has ids answers w. refl) refl (λ l answer. refl) (λ l. refl) (λ l answer. tt) (not (test_of a))
      (λ l active. place l (active_low c l active) active)
      (λ l low active from same pc. ap (λ b. effect.Branch b (address_at pc 8)) (brought_test a l from same (r.clean l active) r.fits (test_of a) (all l low active) ∙ twice_not (test_of a)))
      begun answered where
        all : (l : ℕ) → l < 32 → is_active c l ≡ true → (value (c.w.lanes l).registers a == 0) ≡ test_of a
        all = agrees (IfNot a q) a r.ordered (λ rs. refl) (agree c (IfNot a q) r.ordered refl)

        turned : (b : Bool) (x y : ℕ) → (if b then x else y) ≡ (if not b then y else x)
        turned true x y = refl
        turned false x y = refl

        place : (l : ℕ) → l < 32 → is_active c l ≡ true → (if value (c.w.lanes l).registers a == 0 then suc (c.w.lanes l).place else q) ≡ (if not (test_of a) then q else suc (c.w.lanes l).place)
        place l low active = ap (λ b. if b then suc (c.w.lanes l).place else q) (all l low active) ∙ turned (test_of a) (suc (c.w.lanes l).place) q

  abbrev pub moved_to : ℕ → Bool → ℕ → VLane
  moved_to q b l = as_lane (if b then lane q (c.w.lanes l).registers (under (c.w.lanes l).turns) [] else lane (suc (c.w.lanes l).place) (c.w.lanes l).registers (c.w.lanes l).turns [])

  leaves_is : (a : Operand) (q : ℕ) → IsMade (Leaves a q)
  leaves_is a q r begun answered =
      branch_over c known idle (Leaves a q) r.ordered refl a r.fits q (instr.Bne (register_of left a) 0 8) (λ has ids answers w. refl) refl registers (λ l. refl) (λ l answer. tt) (test_of a)
      (λ l active. place l (active_low c l active) active) (λ l low active from same pc. ap (λ b. effect.Branch (not b) (address_at pc 8)) (brought_test a l from same (r.clean l active) r.fits (test_of a) (all l low active)))
      begun answered where
        all : (l : ℕ) → l < 32 → is_active c l ≡ true → (value (c.w.lanes l).registers a == 0) ≡ test_of a
        all = agrees (Leaves a q) a r.ordered (λ rs. refl) (agree c (Leaves a q) r.ordered refl)

        kept : (l : ℕ) (b : Bool) → (moved_to q b l).registers ≡ (c.w.lanes l).registers
        kept l true = refl
        kept l false = refl

        registers : (l answer : ℕ) → (moved_to q (value (c.w.lanes l).registers a == 0) l).registers ≡ (c.w.lanes l).registers
        registers l answer = kept l (value (c.w.lanes l).registers a == 0)

        led : (l : ℕ) (b : Bool) → (moved_to q b l).place ≡ (if b then q else suc (c.w.lanes l).place)
        led l true = refl
        led l false = refl

        place : (l : ℕ) → l < 32 → is_active c l ≡ true → (moved_to q (value (c.w.lanes l).registers a == 0) l).place ≡ (if test_of a then q else suc (c.w.lanes l).place)
        place l low active = ap (λ b. (moved_to q b l).place) (all l low active) ∙ led l (test_of a)

  goto_is : (q : ℕ) → IsMade (Goto q)
  goto_is q r begun answered =
      goes_over c known idle (Goto q) r.ordered refl q refl (λ l active. refl) begun answered
      (λ l from low active same answer target whole. record {
        after = from;
        goes = jump_goes c.g c.w.mask l (address_of_word (here (Goto q))) answer (known l) (c.w.lanes l).registers from same (address_at (address_of_word (here (Goto q))) 4) target whole;
        asks = tt;
        stands = (from, (same, refl));
      })

  again_is : (q : ℕ) → IsMade (Again q)
  again_is q r begun answered =
      goes_over c known idle (Again q) r.ordered refl q refl (λ l active. refl) begun answered
      (λ l from low active same answer target whole. record {
        after = from;
        goes = jump_goes c.g c.w.mask l (address_of_word (here (Again q))) answer (known l) (c.w.lanes l).registers from same (address_at (address_of_word (here (Again q))) 4) target whole;
        asks = tt;
        stands = (from, (same, refl));
      })

  -- ---- all lanes together

  -- what the words in front of it leave stands for the registers of the code, in all lanes
  same_by : (ws : List Plain) → Begun c known ws
      → ((l : ℕ) (from : Held) → l < 32 → is_active c l ≡ true → Same c.g l (known l) (c.w.lanes l).registers from → Same c.g l (known l) (c.w.lanes l).registers (do_all (around_of c.g.crew l) ws from)) → AllSame c known
  same_by ws begun keeps l low = by (is_active c l) refl where
    by : (b : Bool) → is_active c l ≡ b → Same c.g l (known l) (c.w.lanes l).registers (held (c.xs l) (c.frames l))
    by true active =
        let s = begun l low active in
        subst (Same c.g l (known l) (c.w.lanes l).registers) (sym s.1.1) (keeps l s.0 low active s.1.0)
    by false none = idle l low none

  -- a register has this value then
  value_by : (ws : List Plain) → Begun c known ws → (r : ℕ) (v : ℕ → ℕ)
      → ((l : ℕ) (from : Held) → l < 32 → is_active c l ≡ true → Same c.g l (known l) (c.w.lanes l).registers from → value_in (do_all (around_of c.g.crew l) ws from).registers r ≡ v l)
      → (l : ℕ) → l < 32 → is_active c l ≡ true → value_in (c.xs l) r ≡ v l
  value_by ws begun r v has l low active =
      let s = begun l low active in
      subst (λ (h : Held). value_in h.registers r ≡ v l) (sym s.1.1) (has l s.0 low active s.1.0)

  -- the word behind it is the first of the next place
  lands_next : (op : VOp) (o : Ordered c op) (ws : List Plain) (i : Instr) → this_block c known idle op o ≡ ends ws i → address_at (address_of_word (word_of_place c.ops c.w.place + length ws)) 4 ≡ address_of_word (word_of_place c.ops (suc c.w.place))
  lands_next op o ws i e =
      let n = next_place c.ops o.rest op c.w.place o.there in
      let m : length ws + (1 + 0) ≡ op_words op = size_is c known idle op o (ends ws i) e in
      let low = word_low c.g.slots c.ops c.laid.slots c.within c.near i _ (word_of_place c.ops c.w.place + length ws) (word_there c known idle op o (ends ws i) e) in
      next_word (word_of_place c.ops c.w.place + length ws) low ∙ ap address_of_word (omega (arith, n, m))

  -- one operand
  one_same : (a : Operand) → IsBelow c.g.slots a → (l : ℕ) (from : Held) → l < 32 → is_active c l ≡ true → Same c.g l (known l) (c.w.lanes l).registers from
      → Same c.g l (known l) (c.w.lanes l).registers (do_all (around_of c.g.crew l) (operand_before left a []) from)
  one_same a below l from low active same =
      subst (Same c.g l (known l) (c.w.lanes l).registers) (sym (operand_brings left refl refl refl (around_of c.g.crew l) c.g.slots a [] from below)) (left_same c.g l (known l) (c.w.lanes l).registers from same a)

  one_value : (a : Operand) → IsBelow c.g.slots a → ((l : ℕ) → is_active c l ≡ true → IsWritten (known l).written a) → (l : ℕ) (from : Held) → l < 32 → is_active c l ≡ true → Same c.g l (known l) (c.w.lanes l).registers from
      → value_in (do_all (around_of c.g.crew l) (operand_before left a []) from).registers (register_of left a) ≡ value (c.w.lanes l).registers a
  one_value a below written l from low active same =
      ap (λ (h : Held). value_in h.registers (register_of left a)) (operand_brings left refl refl refl (around_of c.g.crew l) c.g.slots a [] from below)
      ∙ left_value c.g l (known l) (c.w.lanes l).registers from same a (written l active) below

  split_is : (a : Operand) → IsMade (Split a)
  split_is a r begun answered =
      let ws = operand_before left a [] in
      split_over c known (same_by ws begun (one_same a r.fits)) (here (Split a)) _ (lands_next (Split a) r.ordered ws (instr.Split (register_of left a)) refl) (register_of left a) a
      (value_by ws begun (register_of left a) (λ l. value (c.w.lanes l).registers a) (one_value a r.fits r.clean)) r.ordered
      (word_there c known idle (Split a) r.ordered (ends ws (instr.Split (register_of left a))) refl)

  tmc_is : (a : Operand) → IsMade (Tmc a)
  tmc_is a r begun answered =
      let ws = operand_before left a [] in
      tmc_over c known (same_by ws begun (one_same a r.fits)) (here (Tmc a)) _ (lands_next (Tmc a) r.ordered ws (instr.Tmc (register_of left a)) refl) (register_of left a) a
      (value_by ws begun (register_of left a) (λ l. value (c.w.lanes l).registers a) (one_value a r.fits r.clean)) r.ordered
      (word_there c known idle (Tmc a) r.ordered (ends ws (instr.Tmc (register_of left a))) refl)

  join_is : IsMade Join
  join_is r begun answered =
      join_over c known (same_by [] begun (λ l from low active same. same)) (here Join) _ (lands_next Join r.ordered [] instr.Join refl) r.ordered (word_there c known idle Join r.ordered (ends [] instr.Join) refl)

  -- two operands
  both_is : (a b : Operand) → IsBelow c.g.slots a → IsBelow c.g.slots b → (l : ℕ) (from : Held) → do_all (around_of c.g.crew l) (operand_before left a (right_before alu.Add b [])) from ≡ both_brought alu.Add a b from
  both_is a b below below' l from =
      operand_brings left refl refl refl (around_of c.g.crew l) c.g.slots a (right_before alu.Add b []) from below ∙ right_brings (around_of c.g.crew l) c.g.slots alu.Add b [] (brought left a from) below'

  abbrev pub FromBegun : (ℕ → Held → Type 0) → Type 0
  FromBegun P = (l : ℕ) (from : Held) → l < 32 → is_active c l ≡ true → Same c.g l (known l) (c.w.lanes l).registers from → P l from

  module _ (a : Operand) (m : ℕ) (r : Ready c known (Pred a m)) where
    abbrev pub pred_words : List Plain
    pred_words = operand_before left a (GetSlot right m ∷ [])

    pred_same : FromBegun (λ l from. Same c.g l (known l) (c.w.lanes l).registers (do_all (around_of c.g.crew l) pred_words from))
    pred_same l from low active same =
        subst (Same c.g l (known l) (c.w.lanes l).registers) (sym (both_is a (VariableOf m) r.fits.0 r.fits.1 l from))
        (same_kept c.g l (known l) (c.w.lanes l).registers from (both_brought alu.Add a (VariableOf m) from) same (both_kept c.g l (known l) (c.w.lanes l).registers from same alu.Add a (VariableOf m)))

    pred_first : FromBegun (λ l from. value_in (do_all (around_of c.g.crew l) pred_words from).registers (register_of left a) ≡ value (c.w.lanes l).registers a)
    pred_first l from low active same =
        ap (λ (h : Held). value_in h.registers (register_of left a)) (both_is a (VariableOf m) r.fits.0 r.fits.1 l from)
        ∙ first_value alu.Add a (VariableOf m) from (frame_word from.frame c.g.slots a same.words r.fits.0) ∙ value_is c.g l (known l) (c.w.lanes l).registers a from same (r.clean l active).0 r.fits.0

    pred_second : FromBegun (λ l from. value_in (do_all (around_of c.g.crew l) pred_words from).registers right ≡ value (c.w.lanes l).registers (VariableOf m))
    pred_second l from low active same =
        ap (λ (h : Held). value_in h.registers right) (both_is a (VariableOf m) r.fits.0 r.fits.1 l from)
        ∙ last_value alu.Add a (VariableOf m) from (same.words m) ∙ value_is c.g l (known l) (c.w.lanes l).registers (VariableOf m) from same (r.clean l active).1 r.fits.1

  pred_is : (a : Operand) (m : ℕ) → IsMade (Pred a m)
  pred_is a m r begun answered =
      let ws : List Plain = operand_before left a (GetSlot right m ∷ []) in
      pred_over c known (same_by ws begun (pred_same a m r)) (here (Pred a m)) _ (lands_next (Pred a m) r.ordered ws (instr.Pred (register_of left a) right) refl) (register_of left a) m a right
      (value_by ws begun (register_of left a) (λ l. value (c.w.lanes l).registers a) (pred_first a m r)) (value_by ws begun right (λ l. value (c.w.lanes l).registers (VariableOf m)) (pred_second a m r)) r.ordered
      (word_there c known idle (Pred a m) r.ordered (ends ws (instr.Pred (register_of left a) right)) refl)

  other_value : (a : Operand) (v : ℕ) (h : Held) → value_in (set right v h).registers (register_of left a) ≡ value_in h.registers (register_of left a)
  other_value (VariableOf r) v h = refl
  other_value (NumberOf zero) v h = refl
  other_value (NumberOf (suc n)) v h = refl

  module _ (a : Operand) (q : ℕ) (r : Ready c known (Wspawn a q)) where
    abbrev pub to : ℕ
    to = address_of_word (word_of_place c.ops q)

    abbrev pub spawn_words : List Plain
    spawn_words = operand_before left a (pair_before right (address_of_word (word_of_place c.ops q)) [])

    spawn_small : address_of_word (word_of_place c.ops q) < 2 ^ 32
    spawn_small =
        let most = places_are_within c.ops q in
        let near = c.near in
        omega (arith, most, near)

    spawn_done : (l : ℕ) (from : Held) → do_all (around_of c.g.crew l) spawn_words from ≡ set right to (brought left a from)
    spawn_done l from =
        operand_brings left refl refl refl (around_of c.g.crew l) c.g.slots a (pair_before right to []) from r.fits
        ∙ pair_brings right refl refl refl (around_of c.g.crew l) to [] (brought left a from) spawn_small

    spawn_same : FromBegun (λ l from. Same c.g l (known l) (c.w.lanes l).registers (do_all (around_of c.g.crew l) spawn_words from))
    spawn_same l from low active same =
        subst (Same c.g l (known l) (c.w.lanes l).registers) (sym (spawn_done l from))
        (same_kept c.g l (known l) (c.w.lanes l).registers (brought left a from) (set right to (brought left a from)) (left_same c.g l (known l) (c.w.lanes l).registers from same a) (set_kept right to (brought left a from) refl refl))

    spawn_first : FromBegun (λ l from. value_in (do_all (around_of c.g.crew l) spawn_words from).registers (register_of left a) ≡ value (c.w.lanes l).registers a)
    spawn_first l from low active same =
        ap (λ (h : Held). value_in h.registers (register_of left a)) (spawn_done l from) ∙ other_value a to (brought left a from)
        ∙ left_value c.g l (known l) (c.w.lanes l).registers from same a (r.clean l active) r.fits

    spawn_second : FromBegun (λ l from. value_in (do_all (around_of c.g.crew l) spawn_words from).registers right ≡ to)
    spawn_second l from low active same = ap (λ (h : Held). value_in h.registers right) (spawn_done l from) ∙ has_value right refl refl refl to (brought left a from).registers

  spawn_is : (a : Operand) (q : ℕ) → IsMade (Wspawn a q)
  spawn_is a q r begun answered =
      let ws : List Plain = operand_before left a (pair_before right (address_of_word (word_of_place c.ops q)) []) in
      spawn_over c known (same_by ws begun (spawn_same a q r)) (here (Wspawn a q)) _ (lands_next (Wspawn a q) r.ordered ws (instr.Wspawn (register_of left a) right) refl) (register_of left a) right q a
      (value_by ws begun (register_of left a) (λ l. value (c.w.lanes l).registers a) (spawn_first a q r)) (value_by ws begun right (λ l. address_of_place c.ops q) (spawn_second a q r)) r.ordered
      (word_there c known idle (Wspawn a q) r.ordered (ends ws (instr.Wspawn (register_of left a) right)) refl)

  pair_number : (n : ℕ) → alu_value_of alu.Add (upper n * 2 ^ 12 % 2 ^ 32) (lower n) % 16 ≡ n % 16
  pair_number n = grind arith

  abbrev pub bar_words : ℕ → List Plain
  bar_words site = pair_before left site (GetBlock right 0 ∷ [])

  bar_same : (site : ℕ) → FromBegun (λ l from. Same c.g l (known l) (c.w.lanes l).registers (do_all (around_of c.g.crew l) (bar_words site) from))
  bar_same site l from low active same =
      same_kept c.g l (known l) (c.w.lanes l).registers from (do_all (around_of c.g.crew l) (bar_words site) from) same (record { frame = refl; third = refl; fourth = refl })

  bar_count : c.g.crew.block 0 % 2 ^ 32 ≡ c.g.crew.block 0
  bar_count = let less = c.laid.words 0 in omega (arith, less)

  bar_values : (site : ℕ) → Begun c known (bar_words site) → (l : ℕ) → l < 32 → is_active c l ≡ true → (value_in (c.xs l) left % 16 ≡ site % 16) × (value_in (c.xs l) right ≡ c.g.crew.block 0)
  bar_values site begun l low active = (
    ap (λ n. n % 16) (value_by (bar_words site) begun left (λ l. alu_value_of alu.Add (upper site * 2 ^ 12 % 2 ^ 32) (lower site)) (λ l from low active same. refl) l low active) ∙ pair_number site,
    value_by (bar_words site) begun right (λ l. c.g.crew.block 0) (λ l from low active same. bar_count) l low active,
  )

  bar_is : (site : ℕ) → IsMade (Bar site)
  bar_is site r begun answered =
      let ws : List Plain = bar_words site in
      bar_over c known (same_by ws begun (bar_same site)) (here (Bar site)) _ (lands_next (Bar site) r.ordered ws (instr.Bar left right) refl) left right site (bar_values site begun) r.ordered
      (word_there c known idle (Bar site) r.ordered (ends ws (instr.Bar left right)) refl)

  -- ---- every operation

  pub acts : (op : VOp) → HasWord op → Ready c known op → Begun c known (words_before op) → FramesAnswer c.g (after c (here op)) c.frames
      → OneStep c.g c.ops known c.w c.xs c.answers c.frames op (after c (here op))
  acts Fresh has r begun answered = Over (fresh_is r begun answered)
  acts (Copy d a) has r begun answered = Over (copy_is d a r begun answered)
  acts (Compute d op a b) has r begun answered = Over (compute_is d op a b r begun answered)
  acts (Cut d e a) has r begun answered = Over (cut_is d e a r begun answered)
  acts (Word d n) has r begun answered = Over (word_is d n r begun answered)
  acts (WordAt d a n) has r begun answered = Over (word_at_is d a n r begun answered)
  acts (Learn d x) has r begun answered = Over (learn_is d x r begun answered)
  acts (Fetch d e a) has r begun answered = Over (fetch_is d e a r begun answered)
  acts (Write e a b) has r begun answered = Over (write_is e a b r begun answered)
  acts (IfZero a q) has r begun answered = Over (if_zero_is a q r begun answered)
  acts (IfNot a q) has r begun answered = Over (if_not_is a q r begun answered)
  acts (Goto q) has r begun answered = Over (goto_is q r begun answered)
  acts (Split a) has r begun answered = Over (split_is a r begun answered)
  acts Join has r begun answered = Over (join_is r begun answered)
  acts (Pred a m) has r begun answered = Over (pred_is a m r begun answered)
  acts (Tmc a) has r begun answered = Over (tmc_is a r begun answered)
  acts (Wspawn a q) has r begun answered = Over (spawn_is a q r begun answered)
  acts (Bar site) has r begun answered = Over (bar_is site r begun answered)
  acts (Trap pos) has r begun answered = Broken (breaks c known idle pos r.ordered)
  acts Enter has r begun answered = absurd has
  acts (Leaves a q) has r begun answered = Over (leaves_is a q r begun answered)
  acts (Again q) has r begun answered = Over (again_is q r begun answered)
