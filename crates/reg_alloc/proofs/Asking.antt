-- Both lanes ask for the same at a load, a store and a barrier.
use Rattle.std.specs.Prelude.{reverse}
use Rattle.std.proofs.Common.{◌≡◌, ℕ, zero, suc, ◌+◌, ◌%◌, ◌<◌, ◌≤◌, ◌^◌, List, [], ◌∷◌, length, drop, ap, sym, subst, ◌∙◌, arith, refl}
use Rattle.vx_base.specs.Values.{fitted}
use Rattle.vx_base.specs.declared.types.Elem.{Elem}
use Rattle.vx_base.proofs.ValueLaws.{fitted-lt}
use Rattle.item_acts.specs.declared.acts.Place.{Place}
use Rattle.item_acts.specs.declared.acts.Action.TheVariants.{Load, Store, Barrier}
use Rattle.item_acts.specs.Launches.{put_at}
use Rattle.item_acts.specs.Machine.{Ask}
use Rattle.item_settings.specs.Settings.{elem_size, low_bytes}
use Rattle.step_machine.specs.Sims.{BothAsk}
use Rattle.kir.specs.Machine.{value}
use Rattle.kir.specs.Trees.{Operand, VariableOf, NumberOf}
use Rattle.vx_layout.specs.Addresses.{Array, block_start}
use Rattle.vx_isa.specs.Effects.{address_at}
use Rattle.vx_isa.specs.Warps.{loaded, value_in, with_register}
use Rattle.vx_isa.specs.declared.instr.Instr.{Instr}
use Rattle.vx_isa.specs.declared.instr.Instr.TheVariants as instr
use Rattle.vcode.specs.Code.{VOp, Fetch, Write, Bar}
use Rattle.vcode.specs.Machine.{Lane, lane}
use Rattle.vcode.specs.Words.{op_words, words}
use Rattle.simt_lowering.specs.Bounds.{AreWithin}
use Rattle.simt_lowering.specs.Runs.{and_read}
use Rattle.reg_alloc.specs.Plain.{Held, Plain, GetBlock, PutSlot, do_all, held, instr_of, left, made, right, set}
use Rattle.reg_alloc.specs.Blocks.{address_of_word, load_word, operand_before, pair_before, register_of, store_word}
use Rattle.reg_alloc.specs.Layout.{instrs_from, instrs_of, plain_onto, word_of_place}
use Rattle.reg_alloc.specs.Alone.{ImageLane, Setting, goes, goes_with, image_lane, image_step, load_from, next_pc, store_to}
use Rattle.reg_alloc.specs.Keeping.{IsSettingOf, around_in}
use Rattle.reg_alloc.proofs.Acting.{plain_rest}
use Rattle.reg_alloc.proofs.Bringing.{IsBased, based_for, brought, frame_kept, operand_brings, operand_reaches, operand_value, others_kept}
use Rattle.reg_alloc.proofs.Cutting.{whole_word}
use Rattle.reg_alloc.proofs.Going.{Along, From, all_fit, code_goes, code_step, free, near_end, start_in}
use Rattle.reg_alloc.proofs.Goings.{lane_at, rest_at}
use Rattle.reg_alloc.proofs.Knowing.{base_now, behind_read, clean_behind, named_now, ready_based, ready_held, ready_of, ready_small, ready_value, reads_now, same_kept, same_put, within_at}
use Rattle.reg_alloc.proofs.Placing.{next_word}
use Rattle.reg_alloc.proofs.Sizes.{block_size}
use Rattle.reg_alloc.proofs.Standing.{blocks_stand}
use Rattle.reg_alloc.proofs.Through.{before, stored, word_goes}
use Rattle.reg_alloc.proofs.Forward.{load_step, loaded_fits, signed_load, store_step, stored_low}

-- the words of a second operand leave the first one
left_kept : (a c : Operand) (h : Held) → value_in (brought right c (brought left a h)).registers (register_of left a) ≡ value_in (brought left a h).registers (register_of left a)
left_kept (VariableOf r) c h = others_kept right refl refl refl c (brought left (VariableOf r) h) left refl
left_kept (NumberOf zero) c h = refl
left_kept (NumberOf (suc n)) c h = others_kept right refl refl refl c (brought left (NumberOf (suc n)) h) left refl

based_still : (start : ℕ) (a : Operand) (h h' : Held) → h'.registers 4 ≡ h.registers 4 → IsBased start h a → IsBased start h' a
based_still start (VariableOf r) h h' four based = four ∙ based
based_still start (NumberOf n) h h' four based = tt

module _ (slots : ℕ) (ops : List VOp) (few : slots ≤ 256) (within : AreWithin slots ops) (low : words ops ≤ 65536)
    (k : Setting) (place : ℕ → Place) (at : IsSettingOf slots ops k) where
  pub fetch_from : (d : ℕ) (t : Elem) (a : Operand) (rest : List VOp) (n p : ℕ) → drop p ops ≡ Fetch d t a ∷ rest → From k place slots ops n (suc p) → From k place slots ops n p
  fetch_from d t a rest n p e next rs ts ns h ws b small clean same =
      let op = Fetch d t a in
      let start = start_in k slots in
      let around = around_in k place in
      let is = instrs_of slots ops in
      let fits = all_fit slots ops few within low in
      let later = instrs_from slots (word_of_place ops) (op_words op + word_of_place ops p) rest in
      let within' = within_at slots ops rest op p within e in
      let base = same.base (base_now k place ops op rest p e rs ts ns ws b clean refl) in
      let ready = ready_of start ws b rs h same slots a [] within'.1 (reads_now k place ops op rest p e rs ts ns ws b clean) in
      let h1 : Held = brought left a h in
      let x = value_in h1.registers (register_of left a) in
      let is_value : x ≡ value rs a = operand_value left refl refl refl a h (ready_held start rs h a ready) ∙ ready_value start rs h a ready in
      let four : h1.registers 4 ≡ start = others_kept left refl refl refl a h 4 refl ∙ base.0 in
      let three : h1.registers 3 ≡ block_start = others_kept left refl refl refl a h 3 refl ∙ base.1 in
      let j = word_of_place ops p in
      let ws0 : List Plain = operand_before left a [] in
      let i : Instr = load_word t (register_of left a) in
      let put : Instr = instr_of (PutSlot made d) in
      let q = j + length ws0 in
      let s : ImageLane = lane_at q h1 ns in
      let s0 : Lane = lane p rs ts ns in
      let count : length ws0 + 2 ≡ op_words op = block_size slots (word_of_place ops) (op_words op + j) op in
      let near : op_words op + j ≤ 65536 = near_end slots ops few within low k place at op rest p e in
      let next_is : next_pc s ≡ address_of_word (suc q) = omega (arith, count, near) in
      let end : op_words op + j ≡ suc (suc q) = omega (arith, count) in
      let stand : drop j is ≡ plain_onto ws0 (i ∷ put ∷ later) = blocks_stand slots ops rest op p e in
      let there : drop q is ≡ i ∷ put ∷ later = plain_rest is ws0 (i ∷ put ∷ later) j stand in
      let small_value : value rs a < 2 ^ 32 = ready_small start rs h a ready in
      let address : address_at x 0 ≡ value rs a = omega (arith, is_value, small_value) in
      let named : k.at (value rs a) ≡ Array (place (value rs a)) = named_now k place ops op rest p e rs ts ns ws b clean in
      let told : ℕ → ImageLane = λ answer. goes_with (next_pc s) made (loaded (elem_size t) (signed_load t) answer) s in
      let told' : ℕ → Lane = λ answer. lane (suc p) (put_at d (fitted t answer) rs) ts ns in
      let asks : image_step k s ≡ Ask (Load (place (value rs a)) (elem_size t)) told =
      word_goes (code_step k place ops) free k place slots start at.stands is at.words fits i (put ∷ later) q h1 ns there ∙ load_step k t (register_of left a) s
      ∙ ap (λ y. load_from k made (k.at y) (elem_size t) (signed_load t) s) address ∙ ap (λ w. load_from k made w (elem_size t) (signed_load t) s) named in
      let asks' : code_step k place ops s0 ≡ Ask (Load (place (value rs a)) (elem_size t)) told' =
      code_goes slots ops few within low k place at op rest p e rs ts ns (Ask (Load (place (value rs a)) (elem_size t)) told') refl in
      before (code_step k place ops) free k place slots start at.stands is at.words fits ws0 (i ∷ put ∷ later) j h h1 ns (omega (arith, count, near)) stand
      (operand_reaches left refl refl refl around slots start a [] h within'.1 (based_for start h a base.0) tt)
      (operand_brings left refl refl refl around slots a [] h within'.1) n s0
      (BothAsk n s0 s (Load (place (value rs a)) (elem_size t)) told' told asks' asks (omega arith) (λ answer.
      let v = fitted t answer in
      let h2 : Held = set made v h1 in
      let h3 : Held = held h2.registers (put_at d v h2.frame) in
      let here : lane_at (suc q) h2 ns ≡ told answer =
      ap (λ pc. image_lane pc (with_register made v h1.registers) h1.frame ns) (sym next_is) ∙ ap (λ y. goes_with (next_pc s) made y s) (sym (loaded_fits t answer)) in
      let frame : h3.frame ≡ put_at d v h.frame = ap (λ (g : ℕ → ℕ). put_at d v g) (frame_kept left a h) in
      let same' = same_put start ws b rs h same d v h3 frame four three (fitted-lt t answer) in
      let after = next (put_at d v rs) ts ns h3 (d ∷ ws) b small (clean_behind k place ops op rest p e rs ts ns ws b clean (told' answer) (answer, refl)) same' in
      let after' = subst (λ y. Along k place ops n (told' answer) (lane_at y h3 ns)) (next_word ops rest op p e ∙ end) after in
      subst (λ (u : ImageLane). Along k place ops n (told' answer) u) here
      (stored (code_step k place ops) free k place slots start at.stands is at.words fits d later (suc q) h2 ns (omega (arith, count, near)) (rest_at is (put ∷ later) i q there) four within'.0
      n (told' answer) after')))

  pub write_from : (t : Elem) (a c : Operand) (rest : List VOp) (n p : ℕ) → drop p ops ≡ Write t a c ∷ rest → From k place slots ops n (suc p) → From k place slots ops n p
  write_from t a c rest n p e next rs ts ns h ws b small clean same =
      let op = Write t a c in
      let start = start_in k slots in
      let around = around_in k place in
      let is = instrs_of slots ops in
      let fits = all_fit slots ops few within low in
      let later = instrs_from slots (word_of_place ops) (op_words op + word_of_place ops p) rest in
      let within' = within_at slots ops rest op p within e in
      let reads = reads_now k place ops op rest p e rs ts ns ws b clean in
      let ready = ready_of start ws b rs h same slots a (and_read c []) within'.0 reads in
      let ready' = ready_of start ws b rs h same slots c [] within'.1 (behind_read a (and_read c []) ws reads) in
      let h0 : Held = brought left a h in
      let h1 : Held = brought right c h0 in
      let frame0 : h0.frame ≡ h.frame = frame_kept left a h in
      let frame1 : h1.frame ≡ h.frame = frame_kept right c h0 ∙ frame0 in
      let four0 : h0.registers 4 ≡ h.registers 4 = others_kept left refl refl refl a h 4 refl in
      let four : h1.registers 4 ≡ h.registers 4 = others_kept right refl refl refl c h0 4 refl ∙ four0 in
      let three : h1.registers 3 ≡ h.registers 3 = others_kept right refl refl refl c h0 3 refl ∙ others_kept left refl refl refl a h 3 refl in
      let x = value_in h1.registers (register_of left a) in
      let is_value : x ≡ value rs a = left_kept a c h ∙ operand_value left refl refl refl a h (ready_held start rs h a ready) ∙ ready_value start rs h a ready in
      let y = value_in h1.registers (register_of right c) in
      let held_small : value h0.frame c < 2 ^ 32 = subst (λ (g : ℕ → ℕ). value g c < 2 ^ 32) (sym frame0) (ready_held start rs h c ready') in
      let is_value' : y ≡ value rs c = operand_value right refl refl refl c h0 held_small ∙ ap (λ (g : ℕ → ℕ). value g c) frame0 ∙ ready_value start rs h c ready' in
      let j = word_of_place ops p in
      let ws0 : List Plain = operand_before left a (operand_before right c []) in
      let i : Instr = store_word t (register_of left a) (register_of right c) in
      let q = j + length ws0 in
      let s : ImageLane = lane_at q h1 ns in
      let s0 : Lane = lane p rs ts ns in
      let count : length ws0 + 1 ≡ op_words op = block_size slots (word_of_place ops) (op_words op + j) op in
      let near : op_words op + j ≤ 65536 = near_end slots ops few within low k place at op rest p e in
      let next_is : next_pc s ≡ address_of_word (suc q) = omega (arith, count, near) in
      let end : op_words op + j ≡ suc q = omega (arith, count) in
      let stand : drop j is ≡ plain_onto ws0 (i ∷ later) = blocks_stand slots ops rest op p e in
      let there : drop q is ≡ i ∷ later = plain_rest is ws0 (i ∷ later) j stand in
      let small_value : value rs a < 2 ^ 32 = ready_small start rs h a ready in
      let address : address_at x 0 ≡ value rs a = omega (arith, is_value, small_value) in
      let named : k.at (value rs a) ≡ Array (place (value rs a)) = named_now k place ops op rest p e rs ts ns ws b clean in
      let told : ℕ → ImageLane = λ answer. goes (next_pc s) s in
      let told' : ℕ → Lane = λ answer. lane (suc p) rs ts ns in
      let asks : image_step k s ≡ Ask (Store (place (value rs a)) (elem_size t) (low_bytes t (value rs c))) told =
      word_goes (code_step k place ops) free k place slots start at.stands is at.words fits i later q h1 ns there ∙ store_step k t (register_of left a) (register_of right c) s
      ∙ ap (λ z. store_to (k.at z) (elem_size t) y s) address ∙ ap (λ w. store_to w (elem_size t) y s) named
      ∙ ap (λ v. Ask (Store (place (value rs a)) (elem_size t) v) told) (stored_low t y ∙ ap (low_bytes t) is_value') in
      let asks' : code_step k place ops s0 ≡ Ask (Store (place (value rs a)) (elem_size t) (low_bytes t (value rs c))) told' =
      code_goes slots ops few within low k place at op rest p e rs ts ns (Ask (Store (place (value rs a)) (elem_size t) (low_bytes t (value rs c))) told') refl in
      before (code_step k place ops) free k place slots start at.stands is at.words fits ws0 (i ∷ later) j h h1 ns (omega (arith, count, near)) stand
      (operand_reaches left refl refl refl around slots start a (operand_before right c []) h within'.0 (ready_based start rs h a ready)
      (operand_reaches right refl refl refl around slots start c [] h0 within'.1 (based_still start c h h0 four0 (ready_based start rs h c ready')) tt))
      (operand_brings left refl refl refl around slots a (operand_before right c []) h within'.0 ∙ operand_brings right refl refl refl around slots c [] h0 within'.1) n s0
      (BothAsk n s0 s (Store (place (value rs a)) (elem_size t) (low_bytes t (value rs c))) told' told asks' asks (omega arith) (λ answer.
      let here : lane_at (suc q) h1 ns ≡ told answer = ap (λ pc. image_lane pc h1.registers h1.frame ns) (sym next_is) in
      let after = next rs ts ns h1 ws b small (clean_behind k place ops op rest p e rs ts ns ws b clean (told' answer) (answer, refl)) (same_kept start ws b rs h same h1 frame1 four three) in
      let after' = subst (λ z. Along k place ops n (told' answer) (lane_at z h1 ns)) (next_word ops rest op p e ∙ end) after in
      subst (λ (u : ImageLane). Along k place ops n (told' answer) u) here after'))

  pub bar_from : (site : ℕ) (rest : List VOp) (n p : ℕ) → drop p ops ≡ Bar site ∷ rest → From k place slots ops n (suc p) → From k place slots ops n p
  bar_from site rest n p e next rs ts ns h ws b small clean same =
      let op = Bar site in
      let start = start_in k slots in
      let around = around_in k place in
      let is = instrs_of slots ops in
      let fits = all_fit slots ops few within low in
      let later = instrs_from slots (word_of_place ops) (op_words op + word_of_place ops p) rest in
      let base = same.base (base_now k place ops op rest p e rs ts ns ws b clean refl) in
      let j = word_of_place ops p in
      let ws0 : List Plain = pair_before left site (GetBlock right 0 ∷ []) in
      let h1 : Held = do_all around ws0 h in
      let i : Instr = instr.Bar left right in
      let q = j + length ws0 in
      let s : ImageLane = lane_at q h1 ns in
      let s0 : Lane = lane p rs ts ns in
      let near : op_words op + j ≤ 65536 = near_end slots ops few within low k place at op rest p e in
      let next_is : next_pc s ≡ address_of_word (suc q) = omega (arith, near) in
      let end : op_words op + j ≡ suc q = omega arith in
      let stand : drop j is ≡ plain_onto ws0 (i ∷ later) = blocks_stand slots ops rest op p e in
      let there : drop q is ≡ i ∷ later = plain_rest is ws0 (i ∷ later) j stand in
      let told : ℕ → ImageLane = λ answer. goes (next_pc s) s in
      let told' : ℕ → Lane = λ answer. lane (suc p) rs ts ns in
      let asks : image_step k s ≡ Ask (Barrier (record { site = site % 2 ^ 32; turns = [] })) told =
      word_goes (code_step k place ops) free k place slots start at.stands is at.words fits i later q h1 ns there
      ∙ ap (λ v. Ask (Barrier (record { site = v; turns = [] })) told) (whole_word site) in
      let asks' : code_step k place ops s0 ≡ Ask (Barrier (record { site = site % 2 ^ 32; turns = [] })) told' =
      code_goes slots ops few within low k place at op rest p e rs ts ns (Ask (Barrier (record { site = site; turns = reverse ts })) told') refl in
      before (code_step k place ops) free k place slots start at.stands is at.words fits ws0 (i ∷ later) j h h1 ns (omega (arith, near)) stand
      (tt, (tt, ((base.1, omega arith), tt))) refl n s0
      (BothAsk n s0 s (Barrier (record { site = site % 2 ^ 32; turns = [] })) told' told asks' asks (omega arith) (λ answer.
      let here : lane_at (suc q) h1 ns ≡ told answer = ap (λ pc. image_lane pc h1.registers h1.frame ns) (sym next_is) in
      let after = next rs ts ns h1 ws b small (clean_behind k place ops op rest p e rs ts ns ws b clean (told' answer) (answer, refl)) (same_kept start ws b rs h same h1 refl refl refl) in
      let after' = subst (λ z. Along k place ops n (told' answer) (lane_at z h1 ns)) (next_word ops rest op p e ∙ end) after in
      subst (λ (u : ImageLane). Along k place ops n (told' answer) u) here after'))
