-- Both lanes go along where an operation leads to a place, and stop alike.
use Rattle.std.proofs.Common.{◌≡◌, ℕ, suc, ◌+◌, ◌-◌, ◌*◌, ◌≤◌, Bool, true, false, nat_eq, not, if◌then◌else◌, List, [], ◌∷◌, length, drop, Some, ap, sym, subst, ◌∙◌, arith, refl}
use Rattle.std.specs.Prelude.{◌==◌}
use Rattle.vx_base.specs.declared.types.Pos.{Pos}
use Rattle.item_acts.specs.declared.acts.Place.{Place}
use Rattle.item_acts.specs.declared.acts.Action.TheVariants.{Fault, End}
use Rattle.item_acts.specs.Machine.{Step, Go, Stop}
use Rattle.step_machine.specs.Sims.{BothStop, BothTurn}
use Rattle.step_machine.specs.Stacks.{under}
use Rattle.step_machine.specs.Turns.{risen}
use Rattle.kir.specs.Machine.{value}
use Rattle.kir.specs.Trees.{Operand}
use Rattle.vx_isa.specs.Effects.{address_at}
use Rattle.vx_isa.specs.Warps.{has_lane, value_in}
use Rattle.vx_isa.specs.WarpSteps.{code_start, fetched}
use Rattle.vx_isa.specs.declared.instr.Instr.{Instr}
use Rattle.vx_isa.specs.declared.instr.Instr.TheVariants as instr
use Rattle.vcode.specs.Code.{VOp, IfZero, IfNot, Goto, Tmc, Trap, Leaves, Again}
use Rattle.vcode.specs.Machine.{Lane, lane, op_step, step_from}
use Rattle.vcode.specs.Words.{op_words, words}
use Rattle.simt_lowering.specs.Bounds.{AreWithin}
use Rattle.simt_lowering.specs.Runs.{Leads, and_written}
use Rattle.reg_alloc.specs.Plain.{Held, left, set}
use Rattle.reg_alloc.specs.Blocks.{address_of_word, jump, operand_before, register_of}
use Rattle.reg_alloc.specs.Layout.{instrs_from, instrs_of, plain_onto, sites_of, word_of_place}
use Rattle.reg_alloc.specs.Alone.{ImageLane, Setting, faults, fetched_step, goes, instr_step, next_pc, position}
use Rattle.reg_alloc.specs.Keeping.{IsSettingOf, around_in, bases}
use Rattle.reg_alloc.proofs.Acting.{plain_rest}
use Rattle.reg_alloc.proofs.Bare.{bared}
use Rattle.reg_alloc.proofs.Bringing.{brought, frame_kept, operand_brings, operand_reaches, operand_value, others_kept}
use Rattle.reg_alloc.proofs.Going.{Along, From, all_fit, branches_on, branches_over, code_goes, code_step, ended, free, goes_on, near_end, near_place, start_in}
use Rattle.reg_alloc.proofs.Goings.{lane_at}
use Rattle.reg_alloc.proofs.Knowing.{Clean, clean_behind, ready_based, ready_held, ready_of, ready_value, reads_now, same_kept, within_at}
use Rattle.reg_alloc.proofs.Placing.{fetched_past, none_left, site_at}
use Rattle.reg_alloc.proofs.Sizes.{block_size}
use Rattle.reg_alloc.proofs.Standing.{blocks_stand, instrs_counted}
use Rattle.reg_alloc.proofs.Through.{before, jump_step, word_goes}

-- ---- branches of a lane alone

bne_on : (k : Setting) (r : ℕ) (s : ImageLane) → nat_eq (value_in s.registers r) 0 ≡ true → instr_step k (instr.Bne r 0 8) s ≡ Go (goes (next_pc s) s)
bne_on k r s is = ap (λ b. Go (goes (if not b then address_at s.pc 8 else next_pc s) s)) is

bne_over : (k : Setting) (r : ℕ) (s : ImageLane) → nat_eq (value_in s.registers r) 0 ≡ false → instr_step k (instr.Bne r 0 8) s ≡ Go (goes (address_at s.pc 8) s)
bne_over k r s is = ap (λ b. Go (goes (if not b then address_at s.pc 8 else next_pc s) s)) is

beq_over : (k : Setting) (r : ℕ) (s : ImageLane) → nat_eq (value_in s.registers r) 0 ≡ true → instr_step k (instr.Beq r 0 8) s ≡ Go (goes (address_at s.pc 8) s)
beq_over k r s is = ap (λ b. Go (goes (if b then address_at s.pc 8 else next_pc s) s)) is

beq_on : (k : Setting) (r : ℕ) (s : ImageLane) → nat_eq (value_in s.registers r) 0 ≡ false → instr_step k (instr.Beq r 0 8) s ≡ Go (goes (next_pc s) s)
beq_on k r s is = ap (λ b. Go (goes (if b then address_at s.pc 8 else next_pc s) s)) is

-- a lane goes on if its mask has it, and ends if not
abbrev left_or_on : ImageLane → Bool → Step ImageLane
left_or_on s kept = if kept then Go (goes (next_pc s) s) else Stop End

abbrev lane_or_end : Lane → Bool → Step Lane
lane_or_end s kept = if kept then Go s else Stop End

module _ (slots : ℕ) (ops : List VOp) (few : slots ≤ 256) (within : AreWithin slots ops) (low : words ops ≤ 65536)
    (k : Setting) (place : ℕ → Place) (at : IsSettingOf slots ops k) where
  abbrev later : VOp → ℕ → List VOp → List Instr
  later op p rest = instrs_from slots (word_of_place ops) (op_words op + word_of_place ops p) rest

  module _ (op : VOp) (rest : List VOp) (p : ℕ) (e : drop p ops ≡ op ∷ rest) (rs : ℕ → ℕ) (ts ns : List ℕ) (h : Held) (ws : List ℕ) (b : Bool) (clean : Clean k place ops (lane p rs ts ns) ws b) where
    behind_op : (t : Lane) → op_step (around_in k place) op p rs ts ns ≡ Go t → Clean k place ops t (and_written op ws) (bases op b)
    behind_op t goes = clean_behind k place ops op rest p e rs ts ns ws b clean t (subst (λ (x : Step Lane). Leads x t) (sym goes) refl)

  pub goto_from : (q : ℕ) (rest : List VOp) (m p : ℕ) → drop p ops ≡ Goto q ∷ rest → From k place slots ops m q → From k place slots ops (suc m) p
  goto_from q rest m p e there rs ts ns h ws b small clean same =
      let op = Goto q in
      let start = start_in k slots in
      let is = instrs_of slots ops in
      let j = word_of_place ops p in
      let near : op_words op + j ≤ 65536 = near_end slots ops few within low k place at op rest p e in
      let here : op_words op + j - 1 ≡ j = omega arith in
      let stand : drop j is ≡ jump j (word_of_place ops q) ∷ later op p rest = blocks_stand slots ops rest op p e ∙ ap (λ y. jump y (word_of_place ops q) ∷ later op p rest) here in
      let v = next_pc (lane_at j h ns) in
      BothTurn m (lane p rs ts ns) (lane q rs ts ns) (lane_at j h ns) (lane_at (word_of_place ops q) (set 0 v h) ns)
      (code_goes slots ops few within low k place at op rest p e rs ts ns (Go (lane q rs ts ns)) refl)
      (jump_step (code_step k place ops) free k place slots start at.stands is at.words (all_fit slots ops few within low) j (word_of_place ops q) (later op p rest) h ns (omega (arith, near))
      (near_place slots ops few within low k place at q) stand) (omega arith)
      (there rs ts ns (set 0 v h) ws b small (behind_op op rest p e rs ts ns h ws b clean (lane q rs ts ns) refl) (same_kept start ws b rs h same (set 0 v h) refl refl refl))

  pub again_from : (q : ℕ) (rest : List VOp) (m p : ℕ) → drop p ops ≡ Again q ∷ rest → From k place slots ops m q → From k place slots ops (suc m) p
  again_from q rest m p e there rs ts ns h ws b small clean same =
      let op = Again q in
      let start = start_in k slots in
      let is = instrs_of slots ops in
      let j = word_of_place ops p in
      let near : op_words op + j ≤ 65536 = near_end slots ops few within low k place at op rest p e in
      let here : op_words op + j - 1 ≡ j = omega arith in
      let stand : drop j is ≡ jump j (word_of_place ops q) ∷ later op p rest = blocks_stand slots ops rest op p e ∙ ap (λ y. jump y (word_of_place ops q) ∷ later op p rest) here in
      let v = next_pc (lane_at j h ns) in
      BothTurn m (lane p rs ts ns) (lane q rs (risen ts) ns) (lane_at j h ns) (lane_at (word_of_place ops q) (set 0 v h) ns)
      (code_goes slots ops few within low k place at op rest p e rs ts ns (Go (lane q rs (risen ts) ns)) refl)
      (jump_step (code_step k place ops) free k place slots start at.stands is at.words (all_fit slots ops few within low) j (word_of_place ops q) (later op p rest) h ns (omega (arith, near))
      (near_place slots ops few within low k place at q) stand) (omega arith)
      (there rs (risen ts) ns (set 0 v h) ws b small (behind_op op rest p e rs ts ns h ws b clean (lane q rs (risen ts) ns) refl) (same_kept start ws b rs h same (set 0 v h) refl refl refl))

  pub if_zero_from : (a : Operand) (q : ℕ) (rest : List VOp) (m p : ℕ) → drop p ops ≡ IfZero a q ∷ rest → From k place slots ops m q → From k place slots ops m (suc p) → From k place slots ops (suc m) p
  if_zero_from a q rest m p e there next rs ts ns h ws b small clean same = by (value rs a == 0) refl
    where
      by : (z : Bool) → (value rs a == 0) ≡ z → Along k place ops (suc m) (lane p rs ts ns) (lane_at (word_of_place ops p) h ns)
      by true is =
          let op = IfZero a q in
          let start = start_in k slots in
          let below = within_at slots ops rest op p within e in
          let ready = ready_of start ws b rs h same slots a [] below (reads_now k place ops op rest p e rs ts ns ws b clean) in
          let h1 : Held = brought left a h in
          let x = word_of_place ops p + length (operand_before left a []) in
          let nothing : nat_eq (value_in h1.registers (register_of left a)) 0 ≡ true =
          ap (λ v. nat_eq v 0) (operand_value left refl refl refl a h (ready_held start rs h a ready) ∙ ready_value start rs h a ready) ∙ is in
          let goes : op_step (around_in k place) op p rs ts ns ≡ Go (lane q rs ts ns) = ap (λ (z : Bool). Go (lane (if z then q else suc p) rs ts ns)) is in
          branches_on slots ops few within low k place at op rest p e a (instr.Bne (register_of left a) 0 8) q (later op p rest) h ns (blocks_stand slots ops rest op p e)
          (block_size slots (word_of_place ops) (op_words op + word_of_place ops p) op) below (ready_based start rs h a ready) m rs ts rs ts goes
          (bne_on k (register_of left a) (lane_at x h1 ns) nothing)
          (λ v. there rs ts ns (set 0 v h1) ws b small (behind_op op rest p e rs ts ns h ws b clean (lane q rs ts ns) goes)
          (same_kept start ws b rs h same (set 0 v h1) (frame_kept left a h) (others_kept left refl refl refl a h 4 refl) (others_kept left refl refl refl a h 3 refl)))
      by false is =
          let op = IfZero a q in
          let start = start_in k slots in
          let below = within_at slots ops rest op p within e in
          let ready = ready_of start ws b rs h same slots a [] below (reads_now k place ops op rest p e rs ts ns ws b clean) in
          let h1 : Held = brought left a h in
          let x = word_of_place ops p + length (operand_before left a []) in
          let other : nat_eq (value_in h1.registers (register_of left a)) 0 ≡ false =
          ap (λ v. nat_eq v 0) (operand_value left refl refl refl a h (ready_held start rs h a ready) ∙ ready_value start rs h a ready) ∙ is in
          let goes : op_step (around_in k place) op p rs ts ns ≡ Go (lane (suc p) rs ts ns) = ap (λ (z : Bool). Go (lane (if z then q else suc p) rs ts ns)) is in
          branches_over slots ops few within low k place at op rest p e a (instr.Bne (register_of left a) 0 8) q (later op p rest) h ns (blocks_stand slots ops rest op p e)
          (block_size slots (word_of_place ops) (op_words op + word_of_place ops p) op) below (ready_based start rs h a ready) m rs ts rs ts goes
          (bne_over k (register_of left a) (lane_at x h1 ns) other)
          (next rs ts ns h1 ws b small (behind_op op rest p e rs ts ns h ws b clean (lane (suc p) rs ts ns) goes)
          (same_kept start ws b rs h same h1 (frame_kept left a h) (others_kept left refl refl refl a h 4 refl) (others_kept left refl refl refl a h 3 refl)))

  pub if_not_from : (a : Operand) (q : ℕ) (rest : List VOp) (m p : ℕ) → drop p ops ≡ IfNot a q ∷ rest → From k place slots ops m q → From k place slots ops m (suc p) → From k place slots ops (suc m) p
  if_not_from a q rest m p e there next rs ts ns h ws b small clean same = by (value rs a == 0) refl
    where
      by : (z : Bool) → (value rs a == 0) ≡ z → Along k place ops (suc m) (lane p rs ts ns) (lane_at (word_of_place ops p) h ns)
      by true is =
          let op = IfNot a q in
          let start = start_in k slots in
          let below = within_at slots ops rest op p within e in
          let ready = ready_of start ws b rs h same slots a [] below (reads_now k place ops op rest p e rs ts ns ws b clean) in
          let h1 : Held = brought left a h in
          let x = word_of_place ops p + length (operand_before left a []) in
          let nothing : nat_eq (value_in h1.registers (register_of left a)) 0 ≡ true =
          ap (λ v. nat_eq v 0) (operand_value left refl refl refl a h (ready_held start rs h a ready) ∙ ready_value start rs h a ready) ∙ is in
          let goes : op_step (around_in k place) op p rs ts ns ≡ Go (lane (suc p) rs ts ns) = ap (λ (z : Bool). Go (lane (if z then suc p else q) rs ts ns)) is in
          branches_over slots ops few within low k place at op rest p e a (instr.Beq (register_of left a) 0 8) q (later op p rest) h ns (blocks_stand slots ops rest op p e)
          (block_size slots (word_of_place ops) (op_words op + word_of_place ops p) op) below (ready_based start rs h a ready) m rs ts rs ts goes
          (beq_over k (register_of left a) (lane_at x h1 ns) nothing)
          (next rs ts ns h1 ws b small (behind_op op rest p e rs ts ns h ws b clean (lane (suc p) rs ts ns) goes)
          (same_kept start ws b rs h same h1 (frame_kept left a h) (others_kept left refl refl refl a h 4 refl) (others_kept left refl refl refl a h 3 refl)))
      by false is =
          let op = IfNot a q in
          let start = start_in k slots in
          let below = within_at slots ops rest op p within e in
          let ready = ready_of start ws b rs h same slots a [] below (reads_now k place ops op rest p e rs ts ns ws b clean) in
          let h1 : Held = brought left a h in
          let x = word_of_place ops p + length (operand_before left a []) in
          let other : nat_eq (value_in h1.registers (register_of left a)) 0 ≡ false =
          ap (λ v. nat_eq v 0) (operand_value left refl refl refl a h (ready_held start rs h a ready) ∙ ready_value start rs h a ready) ∙ is in
          let goes : op_step (around_in k place) op p rs ts ns ≡ Go (lane q rs ts ns) = ap (λ (z : Bool). Go (lane (if z then suc p else q) rs ts ns)) is in
          branches_on slots ops few within low k place at op rest p e a (instr.Beq (register_of left a) 0 8) q (later op p rest) h ns (blocks_stand slots ops rest op p e)
          (block_size slots (word_of_place ops) (op_words op + word_of_place ops p) op) below (ready_based start rs h a ready) m rs ts rs ts goes
          (beq_on k (register_of left a) (lane_at x h1 ns) other)
          (λ v. there rs ts ns (set 0 v h1) ws b small (behind_op op rest p e rs ts ns h ws b clean (lane q rs ts ns) goes)
          (same_kept start ws b rs h same (set 0 v h1) (frame_kept left a h) (others_kept left refl refl refl a h 4 refl) (others_kept left refl refl refl a h 3 refl)))

  pub leaves_from : (a : Operand) (q : ℕ) (rest : List VOp) (m p : ℕ) → drop p ops ≡ Leaves a q ∷ rest → From k place slots ops m q → From k place slots ops m (suc p) → From k place slots ops (suc m) p
  leaves_from a q rest m p e there next rs ts ns h ws b small clean same = by (value rs a == 0) refl
    where
      by : (z : Bool) → (value rs a == 0) ≡ z → Along k place ops (suc m) (lane p rs ts ns) (lane_at (word_of_place ops p) h ns)
      by true is =
          let op = Leaves a q in
          let start = start_in k slots in
          let below = within_at slots ops rest op p within e in
          let ready = ready_of start ws b rs h same slots a [] below (reads_now k place ops op rest p e rs ts ns ws b clean) in
          let h1 : Held = brought left a h in
          let x = word_of_place ops p + length (operand_before left a []) in
          let nothing : nat_eq (value_in h1.registers (register_of left a)) 0 ≡ true =
          ap (λ v. nat_eq v 0) (operand_value left refl refl refl a h (ready_held start rs h a ready) ∙ ready_value start rs h a ready) ∙ is in
          let goes : op_step (around_in k place) op p rs ts ns ≡ Go (lane q rs (under ts) ns) = ap (λ (z : Bool). Go (if z then lane q rs (under ts) ns else lane (suc p) rs ts ns)) is in
          branches_on slots ops few within low k place at op rest p e a (instr.Bne (register_of left a) 0 8) q (later op p rest) h ns (blocks_stand slots ops rest op p e)
          (block_size slots (word_of_place ops) (op_words op + word_of_place ops p) op) below (ready_based start rs h a ready) m rs ts rs (under ts) goes
          (bne_on k (register_of left a) (lane_at x h1 ns) nothing)
          (λ v. there rs (under ts) ns (set 0 v h1) ws b small (behind_op op rest p e rs ts ns h ws b clean (lane q rs (under ts) ns) goes)
          (same_kept start ws b rs h same (set 0 v h1) (frame_kept left a h) (others_kept left refl refl refl a h 4 refl) (others_kept left refl refl refl a h 3 refl)))
      by false is =
          let op = Leaves a q in
          let start = start_in k slots in
          let below = within_at slots ops rest op p within e in
          let ready = ready_of start ws b rs h same slots a [] below (reads_now k place ops op rest p e rs ts ns ws b clean) in
          let h1 : Held = brought left a h in
          let x = word_of_place ops p + length (operand_before left a []) in
          let other : nat_eq (value_in h1.registers (register_of left a)) 0 ≡ false =
          ap (λ v. nat_eq v 0) (operand_value left refl refl refl a h (ready_held start rs h a ready) ∙ ready_value start rs h a ready) ∙ is in
          let goes : op_step (around_in k place) op p rs ts ns ≡ Go (lane (suc p) rs ts ns) = ap (λ (z : Bool). Go (if z then lane q rs (under ts) ns else lane (suc p) rs ts ns)) is in
          branches_over slots ops few within low k place at op rest p e a (instr.Bne (register_of left a) 0 8) q (later op p rest) h ns (blocks_stand slots ops rest op p e)
          (block_size slots (word_of_place ops) (op_words op + word_of_place ops p) op) below (ready_based start rs h a ready) m rs ts rs ts goes
          (bne_over k (register_of left a) (lane_at x h1 ns) other)
          (next rs ts ns h1 ws b small (behind_op op rest p e rs ts ns h ws b clean (lane (suc p) rs ts ns) goes)
          (same_kept start ws b rs h same h1 (frame_kept left a h) (others_kept left refl refl refl a h 4 refl) (others_kept left refl refl refl a h 3 refl)))

  -- ---- stops

  pub trap_from : (pos : Pos) (rest : List VOp) (n p : ℕ) → drop p ops ≡ Trap pos ∷ rest → From k place slots ops n p
  trap_from pos rest n p e rs ts ns h ws b small clean same =
      let op = Trap pos in
      let is = instrs_of slots ops in
      let j = word_of_place ops p in
      let s : ImageLane = lane_at j h ns in
      let distance : address_of_word j - code_start ≡ 4 * j = omega arith in
      let found : position k.sites (address_of_word j - code_start) ≡ Some pos =
      ap (λ sites. position sites (address_of_word j - code_start)) at.sites ∙ ap (position (sites_of ops)) distance ∙ site_at ops rest pos p e in
      BothStop n (lane p rs ts ns) s (Fault pos) (code_goes slots ops few within low k place at op rest p e rs ts ns (Stop (Fault pos)) refl)
      (word_goes (code_step k place ops) free k place slots (start_in k slots) at.stands is at.words (all_fit slots ops few within low) instr.Ebreak (later op p rest) j h ns (blocks_stand slots ops rest op p e)
      ∙ ap (λ o. faults o s) found)

  pub tmc_from : (a : Operand) (rest : List VOp) (n p : ℕ) → drop p ops ≡ Tmc a ∷ rest → From k place slots ops n (suc p) → From k place slots ops n p
  tmc_from a rest n p e next rs ts ns h ws b small clean same = by (has_lane (value rs a) k.number) refl
    where
      by : (z : Bool) → has_lane (value rs a) k.number ≡ z → Along k place ops n (lane p rs ts ns) (lane_at (word_of_place ops p) h ns)
      by true is =
          let op = Tmc a in
          let start = start_in k slots in
          let below = within_at slots ops rest op p within e in
          let ready = ready_of start ws b rs h same slots a [] below (reads_now k place ops op rest p e rs ts ns ws b clean) in
          let h1 : Held = brought left a h in
          let s : ImageLane = lane_at (word_of_place ops p + length (operand_before left a [])) h1 ns in
          let stays : has_lane (value_in h1.registers (register_of left a)) k.number ≡ true =
          ap (λ v. has_lane v k.number) (operand_value left refl refl refl a h (ready_held start rs h a ready) ∙ ready_value start rs h a ready) ∙ is in
          let goes : op_step (around_in k place) op p rs ts ns ≡ Go (lane (suc p) rs ts ns) = ap (lane_or_end (lane (suc p) rs ts ns)) is in
          let count : length (operand_before left a []) + 1 ≡ op_words op = block_size slots (word_of_place ops) (op_words op + word_of_place ops p) op in
          goes_on slots ops few within low k place at op rest p e n rs ts ns rs ts ns h h1 ws b clean goes small
          (same_kept start ws b rs h same h1 (frame_kept left a h) (others_kept left refl refl refl a h 4 refl) (others_kept left refl refl refl a h 3 refl)) next
          (ended slots ops few within low k place at op rest p e (operand_before left a []) (instr.Tmc (register_of left a)) (later op p rest) h h1 h1 ns ns (blocks_stand slots ops rest op p e)
          count (operand_reaches left refl refl refl (around_in k place) slots start a [] h below (ready_based start rs h a ready) tt)
          (operand_brings left refl refl refl (around_in k place) slots a [] h below)
          (ap (left_or_on s) stays))
      by false is =
          let op = Tmc a in
          let start = start_in k slots in
          let list = instrs_of slots ops in
          let fits = all_fit slots ops few within low in
          let below = within_at slots ops rest op p within e in
          let ready = ready_of start ws b rs h same slots a [] below (reads_now k place ops op rest p e rs ts ns ws b clean) in
          let h1 : Held = brought left a h in
          let j = word_of_place ops p in
          let ws0 = operand_before left a [] in
          let s : ImageLane = lane_at (j + length ws0) h1 ns in
          let leaves : has_lane (value_in h1.registers (register_of left a)) k.number ≡ false =
          ap (λ v. has_lane v k.number) (operand_value left refl refl refl a h (ready_held start rs h a ready) ∙ ready_value start rs h a ready) ∙ is in
          let stops : op_step (around_in k place) op p rs ts ns ≡ Stop End = ap (lane_or_end (lane (suc p) rs ts ns)) is in
          let count : length ws0 + 1 ≡ op_words op = block_size slots (word_of_place ops) (op_words op + j) op in
          let near : op_words op + j ≤ 65536 = near_end slots ops few within low k place at op rest p e in
          let stand : drop j list ≡ plain_onto ws0 (instr.Tmc (register_of left a) ∷ later op p rest) = blocks_stand slots ops rest op p e in
          before (code_step k place ops) free k place slots start at.stands list at.words fits ws0 (instr.Tmc (register_of left a) ∷ later op p rest) j h h1 ns (omega (arith, count, near)) stand
          (operand_reaches left refl refl refl (around_in k place) slots start a [] h below (ready_based start rs h a ready) tt)
          (operand_brings left refl refl refl (around_in k place) slots a [] h below) n (lane p rs ts ns)
          (BothStop n (lane p rs ts ns) s End (code_goes slots ops few within low k place at op rest p e rs ts ns (Stop End) stops)
          (word_goes (code_step k place ops) free k place slots start at.stands list at.words fits (instr.Tmc (register_of left a)) (later op p rest) (j + length ws0) h1 ns
          (plain_rest list ws0 (instr.Tmc (register_of left a) ∷ later op p rest) j stand)
          ∙ ap (left_or_on s) leaves))

  pub end_from : (n p : ℕ) → drop p ops ≡ [] → From k place slots ops n p
  end_from n p e rs ts ns h ws b small clean same =
      let list = instrs_of slots ops in
      let j = word_of_place ops p in
      let s : ImageLane = lane_at j h ns in
      let past : length list ≤ j = (let c = instrs_counted slots ops in let c' = none_left ops p e in omega (arith, c, c')) in
      BothStop n (lane p rs ts ns) s End (ap (λ (c : List VOp). bared (step_from (around_in k place) c p rs ts ns)) e)
      (ap (λ ws. fetched_step k (fetched ws s.pc) s) at.words ∙ ap (λ found. fetched_step k found s) (fetched_past list j past))
