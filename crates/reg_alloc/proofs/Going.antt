-- Both lanes go on behind the block of an operation.
use Rattle.std.proofs.Common.{◌≡◌, ℕ, suc, ◌+◌, ◌-◌, ◌<◌, ◌≤◌, Bool, List, [], ◌∷◌, length, drop, ap, sym, subst, ◌∙◌, arith, refl}
use Rattle.item_acts.specs.declared.acts.Place.{Place}
use Rattle.item_acts.specs.Launches.{put_at}
use Rattle.item_acts.specs.Machine.{Step, Go}
use Rattle.step_machine.specs.Sims.{GoAlong, FirstGoes, SecondGoes, BothTurn}
use Rattle.kir.specs.Trees.{Operand}
use Rattle.kir.specs.Numbered.{IsBelow}
use Rattle.vx_layout.specs.Addresses.{frame_of}
use Rattle.vx_isa.specs.Effects.{address_at}
use Rattle.vx_isa.specs.Warps.{value_in}
use Rattle.vx_isa.specs.declared.instr.Instr.{Instr}
use Rattle.vcode.specs.Code.{VOp}
use Rattle.vcode.specs.Machine.{Lane, lane, op_step, step, step_from}
use Rattle.vcode.specs.Words.{op_words, words}
use Rattle.simt_lowering.specs.Bounds.{AreWithin}
use Rattle.simt_lowering.specs.Runs.{Leads, and_written}
use Rattle.reg_alloc.specs.Plain.{Held, Plain, PutSlot, do_all, held, instr_of, made, left, set}
use Rattle.reg_alloc.specs.Blocks.{address_of_word, jump, operand_before}
use Rattle.reg_alloc.specs.Layout.{instrs_of, plain_onto, word_of_place}
use Rattle.reg_alloc.specs.Alone.{ImageLane, Setting, goes, image_lane, image_step, instr_step, next_pc}
use Rattle.reg_alloc.specs.Keeping.{AreWords, IsSettingOf, around_in, bases}
use Rattle.reg_alloc.proofs.Acting.{plain_rest}
use Rattle.reg_alloc.proofs.Bare.{bared}
use Rattle.reg_alloc.proofs.Bringing.{IsBased, brought, operand_brings, operand_reaches}
use Rattle.reg_alloc.proofs.Decoding.{from_fits}
use Rattle.reg_alloc.proofs.Fitting.{AllFit}
use Rattle.reg_alloc.proofs.Goings.{ReachAll, lane_at, rest_at}
use Rattle.reg_alloc.proofs.Knowing.{Clean, Same, clean_behind}
use Rattle.reg_alloc.proofs.Placing.{next_word, words_left}
use Rattle.reg_alloc.proofs.Standing.{places_are_within}
use Rattle.reg_alloc.proofs.Through.{Through, acted, acting_step, before, jump_step, over_step, stored}

-- the frame of a lane begins here
abbrev pub start_in : Setting → ℕ → ℕ
start_in k slots = frame_of k.warp (k.block 15) k.number slots

-- the lane of the code, with barriers that are bare
abbrev pub code_step : Setting → (ℕ → Place) → List VOp → Lane → Step Lane
code_step k place ops s = bared (step (around_in k place) ops s)

abbrev pub free : Lane → ℕ
free s = 0

abbrev pub Along : Setting → (ℕ → Place) → List VOp → ℕ → Lane → ImageLane → Type 0
Along k place ops n s t = GoAlong (code_step k place ops) (image_step k) free (λ (u : ImageLane). 0) n s t

-- from a place on both go along, whatever registers and frames hold, if the lane of the code runs clean
abbrev pub From : Setting → (ℕ → Place) → ℕ → List VOp → ℕ → ℕ → Type 0
From k place slots ops n p = (rs : ℕ → ℕ) (ts ns : List ℕ) (h : Held) (ws : List ℕ) (b : Bool) → AreWords ns → Clean k place ops (lane p rs ts ns) ws b
    → Same (start_in k slots) ws b rs h → Along k place ops n (lane p rs ts ns) (lane_at (word_of_place ops p) h ns)

pub all_fit : (slots : ℕ) (ops : List VOp) → slots ≤ 256 → AreWithin slots ops → words ops ≤ 65536 → AllFit (instrs_of slots ops)
all_fit slots ops few within low =
    let near : (q : ℕ) → word_of_place ops q ≤ 65536 = λ q. let h = places_are_within ops q in omega (arith, h, low) in
    from_fits slots (word_of_place ops) few near 0 ops (omega (arith, low)) within

module _ (slots : ℕ) (ops : List VOp) (few : slots ≤ 256) (within : AreWithin slots ops) (low : words ops ≤ 65536)
    (k : Setting) (place : ℕ → Place) (at : IsSettingOf slots ops k) where
  pub near_place : (q : ℕ) → word_of_place ops q ≤ 65536
  near_place q = let h = places_are_within ops q in omega (arith, h, low)

  module _ (op : VOp) (rest : List VOp) (p : ℕ) (e : drop p ops ≡ op ∷ rest) where
    pub code_goes : (rs : ℕ → ℕ) (ts ns : List ℕ) (x : Step Lane) → op_step (around_in k place) op p rs ts ns ≡ x → code_step k place ops (lane p rs ts ns) ≡ bared x
    code_goes rs ts ns x goes = ap (λ (c : List VOp). bared (step_from (around_in k place) c p rs ts ns)) e ∙ ap bared goes

    -- what is known of the words of the operation: how many there are, and that they are near
    pub near_end : op_words op + word_of_place ops p ≤ 65536
    near_end = let h = words_left ops rest op p e in omega (arith, h, low)

    -- the lane of the code goes on to the place behind it, and the lane at the words through the words
    pub goes_on : (n : ℕ) (rs : ℕ → ℕ) (ts ns : List ℕ) (rs' : ℕ → ℕ) (ts' ns' : List ℕ) (h h' : Held) (ws : List ℕ) (b : Bool)
        → Clean k place ops (lane p rs ts ns) ws b → op_step (around_in k place) op p rs ts ns ≡ Go (lane (suc p) rs' ts' ns')
        → AreWords ns' → Same (start_in k slots) (and_written op ws) (bases op b) rs' h' → From k place slots ops n (suc p)
        → Through (code_step k place ops) free k (lane_at (word_of_place ops p) h ns) (lane_at (op_words op + word_of_place ops p) h' ns')
        → Along k place ops n (lane p rs ts ns) (lane_at (word_of_place ops p) h ns)
    goes_on n rs ts ns rs' ts' ns' h h' ws b clean goes small same next through =
        let s' = lane (suc p) rs' ts' ns' in
        let leads : Leads (op_step (around_in k place) op p rs ts ns) s' = subst (λ (x : Step Lane). Leads x s') (sym goes) refl in
        let later = next rs' ts' ns' h' (and_written op ws) (bases op b) small (clean_behind k place ops op rest p e rs ts ns ws b clean s' leads) same in
        FirstGoes n (lane p rs ts ns) s' (lane_at (word_of_place ops p) h ns) (code_goes rs ts ns (Go s') goes)
        (through n s' (subst (λ q. Along k place ops n s' (lane_at q h' ns')) (next_word ops rest op p e) later))

    -- words that compute, and one that acts behind them
    pub ended : (ws : List Plain) (i : Instr) (others : List Instr) (h h1 h' : Held) (ns ns' : List ℕ) → drop (word_of_place ops p) (instrs_of slots ops) ≡ plain_onto ws (i ∷ others)
        → length ws + 1 ≡ op_words op → ReachAll slots (start_in k slots) (around_in k place) ws h → do_all (around_in k place) ws h ≡ h1
        → instr_step k i (lane_at (word_of_place ops p + length ws) h1 ns) ≡ Go (image_lane (next_pc (lane_at (word_of_place ops p + length ws) h1 ns)) h'.registers h'.frame ns')
        → Through (code_step k place ops) free k (lane_at (word_of_place ops p) h ns) (lane_at (op_words op + word_of_place ops p) h' ns')
    ended ws i others h h1 h' ns ns' stand count reach done acts n s along =
        let j = word_of_place ops p in
        let near = near_end in
        let end : op_words op + j ≡ suc (j + length ws) = omega (arith, count) in
        acted (code_step k place ops) free k place slots (start_in k slots) at.stands (instrs_of slots ops) at.words (all_fit slots ops few within low) ws i others j h h1 h' ns ns'
        (omega (arith, count, near)) stand reach done acts n s (subst (λ q. Along k place ops n s (lane_at q h' ns')) end along)

    -- and one that stores a result behind it
    pub kept : (ws : List Plain) (i : Instr) (d : ℕ) (others : List Instr) (h h1 h' : Held) (ns ns' : List ℕ)
        → drop (word_of_place ops p) (instrs_of slots ops) ≡ plain_onto ws (i ∷ instr_of (PutSlot made d) ∷ others)
        → length ws + 2 ≡ op_words op → ReachAll slots (start_in k slots) (around_in k place) ws h → do_all (around_in k place) ws h ≡ h1
        → instr_step k i (lane_at (word_of_place ops p + length ws) h1 ns) ≡ Go (image_lane (next_pc (lane_at (word_of_place ops p + length ws) h1 ns)) h'.registers h'.frame ns')
        → h'.registers 4 ≡ start_in k slots → d < slots
        → Through (code_step k place ops) free k (lane_at (word_of_place ops p) h ns)
        (lane_at (op_words op + word_of_place ops p) (held h'.registers (put_at d (value_in h'.registers made) h'.frame)) ns')
    kept ws i d others h h1 h' ns ns' stand count reach done acts based less n s along =
        let j = word_of_place ops p in
        let q = j + length ws in
        let near = near_end in
        let put = instr_of (PutSlot made d) in
        let last : Held = held h'.registers (put_at d (value_in h'.registers made) h'.frame) in
        let end : op_words op + j ≡ suc (suc q) = omega (arith, count) in
        let there = plain_rest (instrs_of slots ops) ws (i ∷ put ∷ others) j stand in
        acted (code_step k place ops) free k place slots (start_in k slots) at.stands (instrs_of slots ops) at.words (all_fit slots ops few within low) ws i (put ∷ others) j h h1 h' ns ns'
        (omega (arith, count, near)) stand reach done acts n s
        (stored (code_step k place ops) free k place slots (start_in k slots) at.stands (instrs_of slots ops) at.words (all_fit slots ops few within low) d others (suc q) h' ns'
        (omega (arith, count, near)) (rest_at (instrs_of slots ops) (put ∷ others) i q there) based less n s
        (subst (λ x. Along k place ops n s (lane_at x last ns')) end along))

    -- ---- branches: words that bring an operand, the branch, and the jump behind it

    module _ (a : Operand) (i : Instr) (q : ℕ) (others : List Instr) (h : Held) (ns : List ℕ)
        (stand : drop (word_of_place ops p) (instrs_of slots ops) ≡ plain_onto (operand_before left a []) (i ∷ jump (op_words op + word_of_place ops p - 1) (word_of_place ops q) ∷ others))
        (count : length (operand_before left a []) + 2 ≡ op_words op) (below : IsBelow slots a) (based : IsBased (start_in k slots) h a) where
      brings : Through (code_step k place ops) free k (lane_at (word_of_place ops p) h ns) (lane_at (word_of_place ops p + length (operand_before left a [])) (brought left a h) ns)
      brings n s along =
          let near = near_end in
          before (code_step k place ops) free k place slots (start_in k slots) at.stands (instrs_of slots ops) at.words (all_fit slots ops few within low) (operand_before left a [])
          (i ∷ jump (op_words op + word_of_place ops p - 1) (word_of_place ops q) ∷ others) (word_of_place ops p) h (brought left a h) ns (omega (arith, count, near)) stand
          (operand_reaches left refl refl refl (around_in k place) slots (start_in k slots) a [] h below based tt)
          (operand_brings left refl refl refl (around_in k place) slots a [] h below) n s along

      -- the branch goes over the jump, and the lane of the code to the place behind
      pub branches_over : (m : ℕ) (rs : ℕ → ℕ) (ts : List ℕ) (rs' : ℕ → ℕ) (ts' : List ℕ) → op_step (around_in k place) op p rs ts ns ≡ Go (lane (suc p) rs' ts' ns)
          → instr_step k i (lane_at (word_of_place ops p + length (operand_before left a [])) (brought left a h) ns)
          ≡ Go (goes (address_at (address_of_word (word_of_place ops p + length (operand_before left a []))) 8) (lane_at (word_of_place ops p + length (operand_before left a [])) (brought left a h) ns))
          → Along k place ops m (lane (suc p) rs' ts' ns) (lane_at (word_of_place ops (suc p)) (brought left a h) ns)
          → Along k place ops (suc m) (lane p rs ts ns) (lane_at (word_of_place ops p) h ns)
      branches_over m rs ts rs' ts' goes takes along =
          let j = word_of_place ops p in
          let x = j + length (operand_before left a []) in
          let near = near_end in
          let h1 = brought left a h in
          let next = next_word ops rest op p e in
          let end : word_of_place ops (suc p) ≡ suc (suc x) = omega (arith, next, count) in
          let there = plain_rest (instrs_of slots ops) (operand_before left a []) (i ∷ jump (op_words op + j - 1) (word_of_place ops q) ∷ others) j stand in
          brings (suc m) (lane p rs ts ns)
          (BothTurn m (lane p rs ts ns) (lane (suc p) rs' ts' ns) (lane_at x h1 ns) (lane_at (suc (suc x)) h1 ns) (code_goes rs ts ns (Go (lane (suc p) rs' ts' ns)) goes)
          (over_step (code_step k place ops) free k place slots (start_in k slots) at.stands (instrs_of slots ops) at.words (all_fit slots ops few within low) i
          (jump (op_words op + j - 1) (word_of_place ops q) ∷ others) x h1 ns (omega (arith, count, near)) there takes)
          (omega arith) (subst (λ y. Along k place ops m (lane (suc p) rs' ts' ns) (lane_at y h1 ns)) end along))

      -- the branch goes on to the jump, and the lane of the code to the place that it leads to
      pub branches_on : (m : ℕ) (rs : ℕ → ℕ) (ts : List ℕ) (rs' : ℕ → ℕ) (ts' : List ℕ) → op_step (around_in k place) op p rs ts ns ≡ Go (lane q rs' ts' ns)
          → instr_step k i (lane_at (word_of_place ops p + length (operand_before left a [])) (brought left a h) ns)
          ≡ Go (goes (next_pc (lane_at (word_of_place ops p + length (operand_before left a [])) (brought left a h) ns)) (lane_at (word_of_place ops p + length (operand_before left a [])) (brought left a h) ns))
          → ((v : ℕ) → Along k place ops m (lane q rs' ts' ns) (lane_at (word_of_place ops q) (set 0 v (brought left a h)) ns))
          → Along k place ops (suc m) (lane p rs ts ns) (lane_at (word_of_place ops p) h ns)
      branches_on m rs ts rs' ts' goes stays along =
          let j = word_of_place ops p in
          let x = j + length (operand_before left a []) in
          let near = near_end in
          let h1 = brought left a h in
          let there = plain_rest (instrs_of slots ops) (operand_before left a []) (i ∷ jump (op_words op + j - 1) (word_of_place ops q) ∷ others) j stand in
          let here : op_words op + j - 1 ≡ suc x = omega (arith, count) in
          let jumping : drop (suc x) (instrs_of slots ops) ≡ jump (suc x) (word_of_place ops q) ∷ others =
          rest_at (instrs_of slots ops) (jump (op_words op + j - 1) (word_of_place ops q) ∷ others) i x there ∙ ap (λ y. jump y (word_of_place ops q) ∷ others) here in
          brings (suc m) (lane p rs ts ns)
          (BothTurn m (lane p rs ts ns) (lane q rs' ts' ns) (lane_at x h1 ns) (lane_at (suc x) h1 ns) (code_goes rs ts ns (Go (lane q rs' ts' ns)) goes)
          (acting_step (code_step k place ops) free k place slots (start_in k slots) at.stands (instrs_of slots ops) at.words (all_fit slots ops few within low) i
          (jump (op_words op + j - 1) (word_of_place ops q) ∷ others) x h1 h1 ns ns (omega (arith, count, near)) there stays)
          (omega arith)
          (SecondGoes m (lane q rs' ts' ns) (lane_at (suc x) h1 ns) (lane_at (word_of_place ops q) (set 0 (next_pc (lane_at (suc x) h1 ns)) h1) ns)
          (jump_step (code_step k place ops) free k place slots (start_in k slots) at.stands (instrs_of slots ops) at.words (all_fit slots ops few within low) (suc x) (word_of_place ops q) others h1 ns
          (omega (arith, count, near)) (near_place q) jumping) refl (along (next_pc (lane_at (suc x) h1 ns)))))
