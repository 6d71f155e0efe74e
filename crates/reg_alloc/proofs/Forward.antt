-- Both lanes go along through each kind of operation that goes on to the place behind it.
use Rattle.std.proofs.Common.{◌≡◌, ℕ, suc, ◌+◌, ◌*◌, ◌%◌, ◌<◌, ◌≤◌, ◌^◌, Bool, true, false, inl, List, [], ◌∷◌, length, drop, ap, subst, ◌∙◌, arith, refl}
use Rattle.vx_base.specs.Bytes.{bytes_of}
use Rattle.vx_base.specs.Values.{alu_value_of, fitted}
use Rattle.vx_base.specs.declared.types.Alu.{Alu}
use Rattle.vx_base.specs.declared.types.Alu.TheVariants as alu
use Rattle.vx_base.specs.declared.types.Elem.{Elem}
use Rattle.vx_base.specs.declared.types.Elem.TheVariants as elem
use Rattle.vx_base.specs.declared.types.Size.TheVariants.{Four}
use Rattle.vx_base.proofs.ValueLaws.{alu_value_of-lt, fitted-lt}
use Rattle.item_acts.specs.declared.acts.Place.{Place}
use Rattle.item_acts.specs.Launches.{put_at}
use Rattle.item_acts.specs.Machine.{Go}
use Rattle.item_settings.specs.Settings.{elem_size, low_bytes}
use Rattle.step_machine.specs.Stacks.{top, under}
use Rattle.kir.specs.Machine.{value}
use Rattle.kir.specs.Trees.{Operand}
use Rattle.vx_layout.specs.Addresses.{block_start, block_words}
use Rattle.vx_isa.specs.Effects.{address_at}
use Rattle.vx_isa.specs.Warps.{loaded, value_in, with_register}
use Rattle.vx_isa.specs.declared.instr.Instr.{Instr}
use Rattle.vx_isa.specs.declared.instr.Instr.TheVariants as instr
use Rattle.vcode.specs.declared.ops.Csr.{Csr}
use Rattle.vcode.specs.declared.ops.Csr.TheVariants as csr
use Rattle.vcode.specs.Code.{VOp, Fresh, Copy, Compute, Cut, Word, WordAt, Learn, Split, Join, Pred, Wspawn, Enter}
use Rattle.vcode.specs.Machine.{learned, unlearned}
use Rattle.vcode.specs.Words.{op_words, words}
use Rattle.simt_lowering.specs.Bounds.{AreWithin}
use Rattle.simt_lowering.specs.Runs.{and_read}
use Rattle.reg_alloc.specs.Plain.{Held, Plain, Calculate, GetBlock, GetSlot, PutSlot, ShiftLeft, block_base, do_all, does, frame_base, held, instr_of, left, made, right, set}
use Rattle.reg_alloc.specs.Blocks.{address_of_word, block, csr_number, cut_word, fresh_before, load_word, operand_before, pair_before, register_of, right_before, spare_bits, store_word}
use Rattle.reg_alloc.specs.Layout.{instrs_from, instrs_of, word_of_place}
use Rattle.reg_alloc.specs.Alone.{ImageLane, Setting, goes_with, image_lane, instr_step, load_from, next_pc, store_to}
use Rattle.reg_alloc.specs.Keeping.{AreWords, IsSettingOf, around_in}
use Rattle.reg_alloc.proofs.Bringing.{based_for, brought, frame_kept, operand_brings, operand_reaches, operand_value, others_kept}
use Rattle.reg_alloc.proofs.ComputingAlong.{both_brought, compute_along, frame_register}
use Rattle.reg_alloc.proofs.Computing.{right_others}
use Rattle.reg_alloc.proofs.Cutting.{cut_fits, cut_value, frame_found}
use Rattle.reg_alloc.proofs.Going.{Along, From, all_fit, code_step, ended, free, goes_on, kept, near_end, start_in}
use Rattle.reg_alloc.proofs.Goings.{lane_at}
use Rattle.reg_alloc.proofs.Knowing.{base_now, behind_read, block_now, ready_based, ready_held, ready_of, ready_small, ready_value, reads_now, same_kept, same_put, within_at}
use Rattle.reg_alloc.proofs.Sizes.{block_size}
use Rattle.reg_alloc.proofs.Standing.{blocks_stand}
use Rattle.reg_alloc.proofs.Walking.{plain_step}

-- ---- what single words are to a lane

cut_step : (k : Setting) (e : Elem) (s : ImageLane) → instr_step k (cut_word e) s ≡ Go (goes_with (next_pc s) made (cut_value e (value_in s.registers made)) s)
cut_step k elem.Char s = refl
cut_step k elem.Uchar s = refl
cut_step k elem.Short s = refl
cut_step k elem.Ushort s = refl
cut_step k elem.Int s = refl
cut_step k elem.Uint s = refl

abbrev pub signed_load : Elem → Bool
signed_load elem.Char = true
signed_load elem.Short = true
signed_load e = false

pub load_step : (k : Setting) (e : Elem) (a : ℕ) (s : ImageLane) → instr_step k (load_word e a) s ≡ load_from k made (k.at (address_at (value_in s.registers a) 0)) (elem_size e) (signed_load e) s
load_step k elem.Char a s = refl
load_step k elem.Uchar a s = refl
load_step k elem.Short a s = refl
load_step k elem.Ushort a s = refl
load_step k elem.Int a s = refl
load_step k elem.Uint a s = refl

pub loaded_fits : (e : Elem) (answer : ℕ) → loaded (elem_size e) (signed_load e) answer ≡ fitted e answer
loaded_fits elem.Char answer = refl
loaded_fits elem.Uchar answer = refl
loaded_fits elem.Short answer = refl
loaded_fits elem.Ushort answer = refl
loaded_fits elem.Int answer = refl
loaded_fits elem.Uint answer = refl

pub store_step : (k : Setting) (e : Elem) (a b : ℕ) (s : ImageLane) → instr_step k (store_word e a b) s ≡ store_to (k.at (address_at (value_in s.registers a) 0)) (elem_size e) (value_in s.registers b) s
store_step k elem.Char a b s = refl
store_step k elem.Uchar a b s = refl
store_step k elem.Short a b s = refl
store_step k elem.Ushort a b s = refl
store_step k elem.Int a b s = refl
store_step k elem.Uint a b s = refl

pub stored_low : (e : Elem) (v : ℕ) → v % 2 ^ (8 * bytes_of (elem_size e)) ≡ low_bytes e v
stored_low elem.Char v = refl
stored_low elem.Uchar v = refl
stored_low elem.Short v = refl
stored_low elem.Ushort v = refl
stored_low elem.Int v = refl
stored_low elem.Uint v = refl

learn_step : (k : Setting) (place : ℕ → Place) (c : Csr) (s : ImageLane)
    → instr_step k (instr.Csrr made (csr_number c)) s
    ≡ Go (image_lane (next_pc s) (with_register made (learned (around_in k place) c s.numbers) s.registers) s.frame (unlearned c s.numbers))
learn_step k place csr.LaneNumber s = refl
learn_step k place csr.WarpNumber s = refl
learn_step k place csr.CoreNumber s = refl
learn_step k place csr.MaskNow s = refl

top_word : (ns : List ℕ) → AreWords ns → top ns < 2 ^ 32
top_word [] small = omega arith
top_word (n ∷ ns) small = small.0

under_words : (ns : List ℕ) → AreWords ns → AreWords (under ns)
under_words [] small = small
under_words (n ∷ ns) small = small.1

module _ (slots : ℕ) (ops : List VOp) (few : slots ≤ 256) (within : AreWithin slots ops) (low : words ops ≤ 65536)
    (k : Setting) (place : ℕ → Place) (at : IsSettingOf slots ops k) where
  -- what stands behind the block of an operation
  abbrev later : VOp → ℕ → List VOp → List Instr
  later op p rest = instrs_from slots (word_of_place ops) (op_words op + word_of_place ops p) rest

  size_of : (op : VOp) (p : ℕ) → length (block slots (word_of_place ops) (op_words op + word_of_place ops p) op).before
      + (length (block slots (word_of_place ops) (op_words op + word_of_place ops p) op).acting + length (block slots (word_of_place ops) (op_words op + word_of_place ops p) op).behind) ≡ op_words op
  size_of op p = block_size slots (word_of_place ops) (op_words op + word_of_place ops p) op

  -- ---- nothing is computed

  pub enter_from : (rest : List VOp) (n p : ℕ) → drop p ops ≡ Enter ∷ rest → From k place slots ops n (suc p) → From k place slots ops n p
  enter_from rest n p e next rs ts ns h ws b small clean same =
      goes_on slots ops few within low k place at Enter rest p e n rs ts ns rs (0 ∷ ts) ns h h ws b clean refl small same next
      (λ m s along. let none : 0 + word_of_place ops p ≡ word_of_place ops p = omega arith in subst (λ q. Along k place ops m s (lane_at q h ns)) none along)

  pub join_from : (rest : List VOp) (n p : ℕ) → drop p ops ≡ Join ∷ rest → From k place slots ops n (suc p) → From k place slots ops n p
  join_from rest n p e next rs ts ns h ws b small clean same =
      goes_on slots ops few within low k place at Join rest p e n rs ts ns rs ts ns h h ws b clean refl small same next
      (ended slots ops few within low k place at Join rest p e [] instr.Join (later Join p rest) h h h ns ns (blocks_stand slots ops rest Join p e) refl tt refl refl)

  pub split_from : (a : Operand) (rest : List VOp) (n p : ℕ) → drop p ops ≡ Split a ∷ rest → From k place slots ops n (suc p) → From k place slots ops n p
  split_from a rest n p e next rs ts ns h ws b small clean same =
      let op = Split a in
      let start = start_in k slots in
      let below = within_at slots ops rest op p within e in
      let ready = ready_of start ws b rs h same slots a [] below (reads_now k place ops op rest p e rs ts ns ws b clean) in
      let h1 : Held = brought left a h in
      let count = size_of op p in
      goes_on slots ops few within low k place at op rest p e n rs ts ns rs ts ns h h1 ws b clean refl small
      (same_kept start ws b rs h same h1 (frame_kept left a h) (others_kept left refl refl refl a h 4 refl) (others_kept left refl refl refl a h 3 refl)) next
      (ended slots ops few within low k place at op rest p e (operand_before left a []) (instr.Split (register_of left a)) (later op p rest) h h1 h1 ns ns (blocks_stand slots ops rest op p e)
      (omega (arith, count)) (operand_reaches left refl refl refl (around_in k place) slots start a [] h below (ready_based start rs h a ready) tt)
      (operand_brings left refl refl refl (around_in k place) slots a [] h below) refl)

  pub pred_from : (a : Operand) (m : ℕ) (rest : List VOp) (n p : ℕ) → drop p ops ≡ Pred a m ∷ rest → From k place slots ops n (suc p) → From k place slots ops n p
  pred_from a m rest n p e next rs ts ns h ws b small clean same =
      let op = Pred a m in
      let start = start_in k slots in
      let within' = within_at slots ops rest op p within e in
      let reads = reads_now k place ops op rest p e rs ts ns ws b clean in
      let ready = ready_of start ws b rs h same slots a (m ∷ []) within'.0 reads in
      let mask = same.read m (behind_read a (m ∷ []) ws reads m (inl refl)) in
      let h0 : Held = brought left a h in
      let four : h0.registers 4 ≡ h.registers 4 = others_kept left refl refl refl a h 4 refl in
      let h1 : Held = does (around_in k place) (GetSlot right m) h0 in
      let count = size_of op p in
      goes_on slots ops few within low k place at op rest p e n rs ts ns rs ts ns h h1 ws b clean refl small
      (same_kept start ws b rs h same h1 (frame_kept left a h) four (others_kept left refl refl refl a h 3 refl)) next
      (ended slots ops few within low k place at op rest p e (operand_before left a (GetSlot right m ∷ [])) (instr.Pred (register_of left a) right) (later op p rest) h h1 h1 ns ns
      (blocks_stand slots ops rest op p e)
      (omega (arith, count)) (operand_reaches left refl refl refl (around_in k place) slots start a (GetSlot right m ∷ []) h within'.0 (ready_based start rs h a ready) ((four ∙ mask.1.1, within'.1), tt))
      (operand_brings left refl refl refl (around_in k place) slots a (GetSlot right m ∷ []) h within'.0) refl)

  pub spawn_from : (a : Operand) (q : ℕ) (rest : List VOp) (n p : ℕ) → drop p ops ≡ Wspawn a q ∷ rest → From k place slots ops n (suc p) → From k place slots ops n p
  spawn_from a q rest n p e next rs ts ns h ws b small clean same =
      let op = Wspawn a q in
      let start = start_in k slots in
      let below = within_at slots ops rest op p within e in
      let ready = ready_of start ws b rs h same slots a [] below (reads_now k place ops op rest p e rs ts ns ws b clean) in
      let pair : List Plain = pair_before right (address_of_word (word_of_place ops q)) [] in
      let h1 : Held = do_all (around_in k place) pair (brought left a h) in
      let count = size_of op p in
      goes_on slots ops few within low k place at op rest p e n rs ts ns rs ts ns h h1 ws b clean refl small
      (same_kept start ws b rs h same h1 (frame_kept left a h) (others_kept left refl refl refl a h 4 refl) (others_kept left refl refl refl a h 3 refl)) next
      (ended slots ops few within low k place at op rest p e (operand_before left a pair) (instr.Wspawn (register_of left a) right) (later op p rest) h h1 h1 ns ns (blocks_stand slots ops rest op p e)
      (omega (arith, count)) (operand_reaches left refl refl refl (around_in k place) slots start a pair h below (ready_based start rs h a ready) (tt, (tt, tt)))
      (operand_brings left refl refl refl (around_in k place) slots a pair h below) refl)

  -- ---- the addresses of the launch block and of the frame

  pub fresh_from : (rest : List VOp) (n p : ℕ) → drop p ops ≡ Fresh ∷ rest → From k place slots ops n (suc p) → From k place slots ops n p
  fresh_from rest n p e next rs ts ns h ws b small clean same =
      let start = start_in k slots in
      let around = around_in k place in
      let ws0 : List Plain = fresh_before slots in
      let h1 : Held = do_all around ws0 h in
      let v = alu_value_of alu.Add (value_in h1.registers left) (value_in h1.registers right) in
      let h2 : Held = set frame_base v h1 in
      let four : h2.registers 4 ≡ start = frame_found k.warp (k.block 15) k.number slots at.stands.small in
      let three : h2.registers 3 ≡ block_start = refl in
      goes_on slots ops few within low k place at Fresh rest p e n rs ts ns rs ts ns h h2 ws b clean refl small
      (record { read = λ r one. let there = same.read r one in (there.0, (there.1.0, four)); base = λ on. (four, three) }) next
      (ended slots ops few within low k place at Fresh rest p e ws0 (instr.Add frame_base left right) (later Fresh p rest) h h1 h2 ns ns (blocks_stand slots ops rest Fresh p e) refl
      (tt, (tt, ((refl, omega arith), (tt, (tt, (tt, (tt, (tt, (tt, tt))))))))) refl refl)

  -- ---- a value

  pub copy_from : (d : ℕ) (a : Operand) (rest : List VOp) (n p : ℕ) → drop p ops ≡ Copy d a ∷ rest → From k place slots ops n (suc p) → From k place slots ops n p
  copy_from d a rest n p e next rs ts ns h ws b small clean same =
      let op = Copy d a in
      let start = start_in k slots in
      let around = around_in k place in
      let within' = within_at slots ops rest op p within e in
      let base = same.base (base_now k place ops op rest p e rs ts ns ws b clean refl) in
      let ready = ready_of start ws b rs h same slots a [] within'.1 (reads_now k place ops op rest p e rs ts ns ws b clean) in
      let h1 : Held = brought left a h in
      let x = value_in h1.registers (register_of left a) in
      let is_value : x ≡ value rs a = operand_value left refl refl refl a h (ready_held start rs h a ready) ∙ ready_value start rs h a ready in
      let h2 : Held = held h1.registers (put_at d x h1.frame) in
      let four : h1.registers 4 ≡ start = others_kept left refl refl refl a h 4 refl ∙ base.0 in
      let frame : h2.frame ≡ put_at d (value rs a) h.frame = ap (λ (g : ℕ → ℕ). put_at d x g) (frame_kept left a h) ∙ ap (λ y. put_at d y h.frame) is_value in
      let count = size_of op p in
      goes_on slots ops few within low k place at op rest p e n rs ts ns (put_at d (value rs a) rs) ts ns h h2 ws b clean refl small
      (same_put start ws b rs h same d (value rs a) h2 frame four (others_kept left refl refl refl a h 3 refl ∙ base.1) (ready_small start rs h a ready)) next
      (ended slots ops few within low k place at op rest p e (operand_before left a []) (instr_of (PutSlot (register_of left a) d)) (later op p rest) h h1 h2 ns ns
      (blocks_stand slots ops rest op p e) (omega (arith, count))
      (operand_reaches left refl refl refl around slots start a [] h within'.1 (based_for start h a base.0) tt)
      (operand_brings left refl refl refl around slots a [] h within'.1)
      (plain_step k place slots start at.stands (PutSlot (register_of left a) d) (lane_at (word_of_place ops p + length (operand_before left a [])) h1 ns) (four, within'.0)))

  pub compute_from : (d : ℕ) (op : Alu) (a c : Operand) (rest : List VOp) (n p : ℕ) → drop p ops ≡ Compute d op a c ∷ rest → From k place slots ops n (suc p) → From k place slots ops n p
  compute_from d op a c rest n p e next rs ts ns h ws b small clean same =
      let o = Compute d op a c in
      let start = start_in k slots in
      let within' = within_at slots ops rest o p within e in
      let base = same.base (base_now k place ops o rest p e rs ts ns ws b clean refl) in
      let reads = reads_now k place ops o rest p e rs ts ns ws b clean in
      let ready = ready_of start ws b rs h same slots a (and_read c []) within'.1 reads in
      let ready' = ready_of start ws b rs h same slots c [] within'.2 (behind_read a (and_read c []) ws reads) in
      let v = alu_value_of op (value h.frame a) (value h.frame c) in
      let is_value : v ≡ alu_value_of op (value rs a) (value rs c) =
      ap (λ x. alu_value_of op x (value h.frame c)) (ready_value start rs h a ready) ∙ ap (λ y. alu_value_of op (value rs a) y) (ready_value start rs h c ready') in
      let h1 : Held = both_brought op a c h in
      let h2 : Held = held (with_register made v h1.registers) (put_at d v h.frame) in
      let count = size_of o p in
      let near = near_end slots ops few within low k place at o rest p e in
      let end : op_words o + word_of_place ops p ≡ word_of_place ops p + (length (operand_before left a (right_before op c [])) + 2) = omega (arith, count) in
      goes_on slots ops few within low k place at o rest p e n rs ts ns (put_at d (alu_value_of op (value rs a) (value rs c)) rs) ts ns h h2 ws b clean refl small
      (same_put start ws b rs h same d (alu_value_of op (value rs a) (value rs c)) h2 (ap (λ y. put_at d y h.frame) is_value) (frame_register op a c h ∙ base.0)
      (right_others op c (brought left a h) 3 refl ∙ others_kept left refl refl refl a h 3 refl ∙ base.1)
      (alu_value_of-lt op (value rs a) (value rs c) (ready_small start rs h a ready) (ready_small start rs h c ready'))) next
      (λ m s along.
      compute_along (code_step k place ops) free k place slots start at.stands (instrs_of slots ops) at.words (all_fit slots ops few within low) (word_of_place ops) (op_words o + word_of_place ops p) d op a c
      (later o p rest) (word_of_place ops p) h ns (omega (arith, count, near)) (blocks_stand slots ops rest o p e) within'.0 within'.1 within'.2
      (ready_held start rs h a ready) (ready_held start rs h c ready') base.0 m s (subst (λ q. Along k place ops m s (lane_at q h2 ns)) end along))

  pub cut_from : (d : ℕ) (t : Elem) (a : Operand) (rest : List VOp) (n p : ℕ) → drop p ops ≡ Cut d t a ∷ rest → From k place slots ops n (suc p) → From k place slots ops n p
  cut_from d t a rest n p e next rs ts ns h ws b small clean same =
      let op = Cut d t a in
      let start = start_in k slots in
      let around = around_in k place in
      let within' = within_at slots ops rest op p within e in
      let base = same.base (base_now k place ops op rest p e rs ts ns ws b clean refl) in
      let ready = ready_of start ws b rs h same slots a [] within'.1 (reads_now k place ops op rest p e rs ts ns ws b clean) in
      let h0 : Held = brought left a h in
      let x = value_in h0.registers (register_of left a) in
      let is_value : x ≡ value rs a = operand_value left refl refl refl a h (ready_held start rs h a ready) ∙ ready_value start rs h a ready in
      let shift : List Plain = ShiftLeft made (register_of left a) (spare_bits t) ∷ [] in
      let h1 : Held = set made (alu_value_of alu.Sll x (spare_bits t)) h0 in
      let v = cut_value t (alu_value_of alu.Sll x (spare_bits t)) in
      let fits : v ≡ fitted t (value rs a) = cut_fits t x ∙ ap (fitted t) is_value in
      let h2 : Held = set made v h1 in
      let h3 : Held = held h2.registers (put_at d v h2.frame) in
      let four : h0.registers 4 ≡ start = others_kept left refl refl refl a h 4 refl ∙ base.0 in
      let frame : h3.frame ≡ put_at d (fitted t (value rs a)) h.frame = ap (λ (g : ℕ → ℕ). put_at d v g) (frame_kept left a h) ∙ ap (λ y. put_at d y h.frame) fits in
      let count = size_of op p in
      goes_on slots ops few within low k place at op rest p e n rs ts ns (put_at d (fitted t (value rs a)) rs) ts ns h h3 ws b clean refl small
      (same_put start ws b rs h same d (fitted t (value rs a)) h3 frame four (others_kept left refl refl refl a h 3 refl ∙ base.1) (fitted-lt t (value rs a))) next
      (kept slots ops few within low k place at op rest p e (operand_before left a shift) (cut_word t) d (later op p rest) h h1 h2 ns ns
      (blocks_stand slots ops rest op p e) (omega (arith, count))
      (operand_reaches left refl refl refl around slots start a shift h within'.1 (based_for start h a base.0) (tt, tt))
      (operand_brings left refl refl refl around slots a shift h within'.1)
      (cut_step k t (lane_at (word_of_place ops p + length (operand_before left a shift)) h1 ns)) four within'.0)

  pub word_from : (d w : ℕ) (rest : List VOp) (n p : ℕ) → drop p ops ≡ Word d w ∷ rest → From k place slots ops n (suc p) → From k place slots ops n p
  word_from d w rest n p e next rs ts ns h ws b small clean same =
      let op = Word d w in
      let start = start_in k slots in
      let within' = within_at slots ops rest op p within e in
      let base = same.base (base_now k place ops op rest p e rs ts ns ws b clean refl) in
      let word : k.block w < 2 ^ 32 = at.block_small w within'.1 in
      let v = k.block w % 2 ^ 32 in
      let is_value : v ≡ k.block w = omega (arith, word) in
      let h2 : Held = set made v h in
      let h3 : Held = held h2.registers (put_at d v h2.frame) in
      goes_on slots ops few within low k place at op rest p e n rs ts ns (put_at d (k.block w) rs) ts ns h h3 ws b clean refl small
      (same_put start ws b rs h same d (k.block w) h3 (ap (λ y. put_at d y h.frame) is_value) base.0 base.1 word) next
      (kept slots ops few within low k place at op rest p e [] (instr_of (GetBlock made w)) d (later op p rest) h h h2 ns ns (blocks_stand slots ops rest op p e) refl tt refl
      (plain_step k place slots start at.stands (GetBlock made w) (lane_at (word_of_place ops p + 0) h ns) (base.1, within'.1)) base.0 within'.0)

  pub word_at_from : (d : ℕ) (a : Operand) (w : ℕ) (rest : List VOp) (n p : ℕ) → drop p ops ≡ WordAt d a w ∷ rest → From k place slots ops n (suc p) → From k place slots ops n p
  word_at_from d a w rest n p e next rs ts ns h ws b small clean same =
      let op = WordAt d a w in
      let start = start_in k slots in
      let around = around_in k place in
      let within' = within_at slots ops rest op p within e in
      let base = same.base (base_now k place ops op rest p e rs ts ns ws b clean refl) in
      let ready = ready_of start ws b rs h same slots a [] within'.1 (reads_now k place ops op rest p e rs ts ns ws b clean) in
      let in_block : w + value rs a < block_words = block_now k place ops op rest p e rs ts ns ws b clean in
      let h0 : Held = brought left a h in
      let x = value_in h0.registers (register_of left a) in
      let is_value : x ≡ value rs a = operand_value left refl refl refl a h (ready_held start rs h a ready) ∙ ready_value start rs h a ready in
      let more : List Plain = ShiftLeft left (register_of left a) 2 ∷ Calculate alu.Add left left block_base ∷ [] in
      let h1 : Held = do_all around more h0 in
      let three : h0.registers 3 ≡ block_start = others_kept left refl refl refl a h 3 refl ∙ base.1 in
      let address : address_at (value_in h1.registers left) (4 * w) ≡ block_start + 4 * (w + value rs a) =
      (let h : address_at ((x * 2 ^ 2 % 2 ^ 32 + h0.registers 3) % 2 ^ 32) (4 * w) ≡ block_start + 4 * (w + value rs a) = omega (arith, is_value, three, in_block) in h) in
      let v = k.block (w + value rs a) % 2 ^ 32 in
      let word : k.block (w + value rs a) < 2 ^ 32 = at.block_small (w + value rs a) in_block in
      let whole : v ≡ k.block (w + value rs a) = omega (arith, word) in
      let h2 : Held = set made v h1 in
      let h3 : Held = held h2.registers (put_at d v h2.frame) in
      let four : h0.registers 4 ≡ start = others_kept left refl refl refl a h 4 refl ∙ base.0 in
      let frame : h3.frame ≡ put_at d (k.block (w + value rs a)) h.frame = ap (λ (g : ℕ → ℕ). put_at d v g) (frame_kept left a h) ∙ ap (λ y. put_at d y h.frame) whole in
      let count = size_of op p in
      let s : ImageLane = lane_at (word_of_place ops p + length (operand_before left a more)) h1 ns in
      goes_on slots ops few within low k place at op rest p e n rs ts ns (put_at d (k.block (w + value rs a)) rs) ts ns h h3 ws b clean refl small
      (same_put start ws b rs h same d (k.block (w + value rs a)) h3 frame four three word) next
      (kept slots ops few within low k place at op rest p e (operand_before left a more) (instr.Lw made (4 * w) left) d (later op p rest) h h1 h2 ns ns
      (blocks_stand slots ops rest op p e) (omega (arith, count))
      (operand_reaches left refl refl refl around slots start a more h within'.1 (based_for start h a base.0) (tt, (tt, tt)))
      (operand_brings left refl refl refl around slots a more h within'.1)
      (ap (λ y. load_from k made (k.at y) Four false s) address ∙ ap (λ there. load_from k made there Four false s) (at.stands.block_word (w + value rs a) in_block)) four within'.0)

  learned_word : (c : Csr) (ns : List ℕ) → AreWords ns → learned (around_in k place) c ns < 2 ^ 32
  learned_word csr.LaneNumber ns small = at.number_small
  learned_word csr.WarpNumber ns small = at.warp_small
  learned_word csr.CoreNumber ns small = top_word ns small
  learned_word csr.MaskNow ns small = top_word ns small

  unlearned_words : (c : Csr) (ns : List ℕ) → AreWords ns → AreWords (unlearned c ns)
  unlearned_words csr.LaneNumber ns small = small
  unlearned_words csr.WarpNumber ns small = small
  unlearned_words csr.CoreNumber ns small = under_words ns small
  unlearned_words csr.MaskNow ns small = under_words ns small

  pub learn_from : (d : ℕ) (c : Csr) (rest : List VOp) (n p : ℕ) → drop p ops ≡ Learn d c ∷ rest → From k place slots ops n (suc p) → From k place slots ops n p
  learn_from d c rest n p e next rs ts ns h ws b small clean same =
      let op = Learn d c in
      let start = start_in k slots in
      let within' = within_at slots ops rest op p within e in
      let base = same.base (base_now k place ops op rest p e rs ts ns ws b clean refl) in
      let v = learned (around_in k place) c ns in
      let h2 : Held = set made v h in
      let h3 : Held = held h2.registers (put_at d v h2.frame) in
      goes_on slots ops few within low k place at op rest p e n rs ts ns (put_at d v rs) ts (unlearned c ns) h h3 ws b clean refl (unlearned_words c ns small)
      (same_put start ws b rs h same d v h3 refl base.0 base.1 (learned_word c ns small)) next
      (kept slots ops few within low k place at op rest p e [] (instr.Csrr made (csr_number c)) d (later op p rest) h h h2 ns (unlearned c ns) (blocks_stand slots ops rest op p e) refl tt refl
      (learn_step k place c (lane_at (word_of_place ops p + 0) h ns)) base.0 within')
