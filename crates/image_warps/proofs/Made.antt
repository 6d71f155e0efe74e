-- The words by which operations are made that lead on: what they are to an active lane whose registers and frame stand for those of the code.
use Rattle.std.proofs.Common.{◌≡◌, ℕ, suc, ◌+◌, ◌*◌, ◌%◌, ◌^◌, ◌<◌, ◌≤◌, Bool, true, false, [], ◌∷◌, ap, sym, subst, ◌∙◌, arith, refl}
use Rattle.std.proofs.Math.Nat.{mod-eq_of_lt, mul-le-mul}
use Rattle.vx_base.specs.Values.{alu_value_of, fitted}
use Rattle.vx_base.specs.declared.types.Alu.{Alu}
use Rattle.vx_base.specs.declared.types.Alu.TheVariants as alu
use Rattle.vx_base.specs.declared.types.Elem.{Elem}
use Rattle.vx_base.specs.declared.types.Elem.TheVariants as elem
use Rattle.vx_base.specs.declared.types.Size.{Size}
use Rattle.vx_base.specs.declared.types.Size.TheVariants.{One, Two, Four}
use Rattle.vx_base.proofs.ValueLaws.{alu_value_of-lt, fitted-lt}
use Rattle.item_acts.specs.declared.acts.Action.TheVariants.{Load}
use Rattle.item_acts.specs.Launches.{put_at}
use Rattle.item_acts.specs.Machine.{Step, Ask}
use Rattle.item_settings.specs.Settings.{elem_size}
use Rattle.kir.specs.Machine.{value}
use Rattle.kir.specs.Numbered.{IsBelow}
use Rattle.kir.specs.Trees.{Operand}
use Rattle.vx_layout.specs.Addresses.{block_start, frames_start}
use Rattle.vx_isa.specs.Effects.{address_at}
use Rattle.vx_isa.specs.Warps.{loaded, value_in, with_register}
use Rattle.vx_isa.specs.WarpSteps.{Reads, access_of}
use Rattle.vx_isa.specs.declared.instr.Instr.{Instr}
use Rattle.vx_isa.specs.declared.instr.Instr.TheVariants as instr
use Rattle.vx_isa.specs.declared.instr.LaneEffect.{LaneEffect}
use Rattle.vx_isa.specs.declared.instr.LaneEffect.TheVariants as effect
use Rattle.vcode.specs.declared.ops.Csr.{Csr}
use Rattle.vcode.specs.declared.ops.Csr.TheVariants as csr
use Rattle.vcode.specs.Code.{VOp, Fresh, Copy, Compute, Cut, Word, WordAt, Learn, Fetch, Write}
use Rattle.vcode.specs.Machine.{Around, Lane, lane, learned}
use Rattle.mask_laws.specs.Clean.{IsWritten}
use Rattle.warp_code.specs.Warps as code
use Rattle.warp_code.specs.Warps.{VLane, around_of, told}
use Rattle.reg_alloc.specs.Plain.{Held, GetBlock, PutSlot, Calculate, ShiftLeft, do_all, does, instr_of, left, made, right, set}
use Rattle.reg_alloc.specs.Blocks.{compute_word, csr_number, cut_word, fresh_before, load_word, operand_before, register_of, right_before, spare_bits}
use Rattle.reg_alloc.proofs.Bringing.{brought, has_value, operand_brings}
use Rattle.reg_alloc.proofs.Computing.{right_brings, second_value}
use Rattle.reg_alloc.proofs.ComputingAlong.{both_brought, first_value, last_value}
use Rattle.image_warps.specs.Lanes.{Ground, Laid, Known, Same, AreAnswered, AsksAlike, frame_start, known_behind}
use Rattle.image_warps.specs.Warps.{LaneStands, Position, Along, Storing}
use Rattle.image_warps.specs.Premises.{IsThere}
use Rattle.image_warps.proofs.Quiet.{Goes, Quiet, block_load, csr_quiet, effect_at, field_fine, plain_quiet, slot_written, write_quiet}
use Rattle.image_warps.proofs.Computed.{compute_effect, cut_effect, cut_is, cut_value}
use Rattle.image_warps.proofs.Values.{both_kept, frame_word, kept_both, left_same, left_value, put_stands, same_kept, set_kept, stored_stands, value_is, value_word}

-- The operation is made by an effect of a lane: the lane asks for what it asks for in its step alone, and stands for the lane behind it.
pub record Made (g : Ground) (mask l pc answer choice target : ℕ) (at : Position) (k : Known) (rs : ℕ → ℕ) (asked : Step Lane) (e : LaneEffect) (h : Held) : Type 0 where
  pub after : Held
  pub goes : Goes g mask l pc answer choice target e h after
  pub asks : AsksAlike (g.at l) answer asked (access_of answer e)
  pub stands : LaneStands g at l k rs after

-- its reads are answered what stands in the launch block and in its frame
abbrev pub Answered : Ground → ℕ → ℕ → Held → LaneEffect → Type 0
Answered g l answer h e = AreAnswered (g.at l) g.crew.block h.frame (access_of answer e)

-- words whose product and sum are small
small_product : (a b m : ℕ) → a * b ≤ m → m < 2 ^ 32 → (a * b) % 2 ^ 32 ≡ a * b
small_product a b m most less = mod-eq_of_lt (omega (arith, most, less))

-- the address of the frame, as it is computed
frame_sum : (warp lanes l slots : ℕ) → warp < 16 → lanes ≤ 32 → l < 32 → slots ≤ 256
    → ((((warp * lanes) % 2 ^ 32 + l) % 2 ^ 32 * ((0 + 4 * slots) % 2 ^ 32)) % 2 ^ 32 + 0x10080 * 2 ^ 12 % 2 ^ 32) % 2 ^ 32 ≡ frames_start + (warp * lanes + l) * (4 * slots)
frame_sum warp lanes l slots warp_low lanes_low l_low slots_low =
    let warp_most : warp ≤ 15 = omega (arith, warp_low) in
    let first_most : warp * lanes ≤ 15 * 32 = mul-le-mul warp_most lanes_low in
    let first : (warp * lanes) % 2 ^ 32 ≡ warp * lanes = mod-eq_of_lt (omega (arith, first_most)) in
    let number : (warp * lanes + l) % 2 ^ 32 ≡ warp * lanes + l = mod-eq_of_lt (omega (arith, first_most, l_low)) in
    let size : (0 + 4 * slots) % 2 ^ 32 ≡ 4 * slots = omega (arith, slots_low) in
    let number_most : warp * lanes + l ≤ 511 = omega (arith, first_most, l_low) in
    let size_most : 4 * slots ≤ 1024 = omega (arith, slots_low) in
    let whole_most : (warp * lanes + l) * (4 * slots) ≤ 511 * 1024 = mul-le-mul number_most size_most in
    let whole : ((warp * lanes + l) * (4 * slots)) % 2 ^ 32 ≡ (warp * lanes + l) * (4 * slots) = mod-eq_of_lt (omega (arith, whole_most)) in
    let last : ((warp * lanes + l) * (4 * slots) + 0x10080 * 2 ^ 12 % 2 ^ 32) % 2 ^ 32 ≡ frames_start + (warp * lanes + l) * (4 * slots) = omega (arith, whole_most) in
    ap (λ x. (((x + l) % 2 ^ 32 * ((0 + 4 * slots) % 2 ^ 32)) % 2 ^ 32 + 0x10080 * 2 ^ 12 % 2 ^ 32) % 2 ^ 32) first
    ∙ ap (λ x. ((x * ((0 + 4 * slots) % 2 ^ 32)) % 2 ^ 32 + 0x10080 * 2 ^ 12 % 2 ^ 32) % 2 ^ 32) number
    ∙ ap (λ x. (((warp * lanes + l) * x) % 2 ^ 32 + 0x10080 * 2 ^ 12 % 2 ^ 32) % 2 ^ 32) size
    ∙ ap (λ x. (x + 0x10080 * 2 ^ 12 % 2 ^ 32) % 2 ^ 32) whole
    ∙ last

-- what elements are loaded as
loaded_is : (e : Elem) (answer : ℕ) → Size
loaded_is e answer = elem_size e

module _ (g : Ground) (laid : Laid g) (mask l pc answer : ℕ) (low : l < 32) (small : mask < 2 ^ 32) (k : Known) (v : VLane) (from : Held) (same : Same g l k v.registers from) where
  abbrev pub rs : ℕ → ℕ
  rs = v.registers

  abbrev pub at : Around
  at = around_of g.crew l

  abbrev pub MadeBy : Position → VOp → (ℕ → ℕ) → Instr → Held → Type 0
  MadeBy p op rs' i h = Made g mask l pc answer 0 (address_at pc 4) p (known_behind op k) rs' (code.does g.crew mask op l v) (effect_at i pc h.registers) h

  abbrev pub Needs : Instr → Held → Type 0
  Needs i h = Answered g l answer h (effect_at i pc h.registers)

  -- the value of the one operand
  one : (a : Operand) → IsWritten k.written a → IsBelow g.slots a → value_in (brought left a from).registers (register_of left a) ≡ value rs a
  one a written below = left_value g l k rs from same a written below

  word : (a : Operand) → IsWritten k.written a → IsBelow g.slots a → value rs a < 2 ^ 32
  word a written below = value_word g l k rs a from same written below

  -- ---- values that the next word stores

  pub fresh_made : MadeBy (Along []) Fresh rs (instr.Add 4 left right) (do_all at (fresh_before g.slots) from)
  fresh_made =
      let h = do_all at (fresh_before g.slots) from in
      let v = alu_value_of alu.Add (value_in h.registers left) (value_in h.registers right) in
      let after = set 4 v h in
      let count : g.crew.block 15 % 2 ^ 32 ≡ g.crew.ids.lanes = ap (λ n. n % 2 ^ 32) laid.count ∙ mod-eq_of_lt (let most = laid.lanes in omega (arith, most)) in
      let e : v ≡ frame_start g l =
      ap (λ n. ((((g.crew.ids.warp * n) % 2 ^ 32 + l) % 2 ^ 32 * ((0 + 4 * g.slots) % 2 ^ 32)) % 2 ^ 32 + 0x10080 * 2 ^ 12 % 2 ^ 32) % 2 ^ 32) count
      ∙ frame_sum g.crew.ids.warp g.crew.ids.lanes l g.slots laid.warp laid.lanes low laid.slots in
      let q = write_quiet g mask l pc answer h 4 v in
      record {
        after = after;
        goes = q.goes;
        asks = tt;
        stands = (after, (record { kept = same.kept; words = same.words; block = λ based. refl; frame = λ based. e }, refl));
      }

  pub copy_made : (d : ℕ) (a : Operand) → d < g.slots → IsBelow g.slots a → IsWritten k.written a → k.based ≡ true
      → MadeBy (Along []) (Copy d a) (put_at d (value rs a) rs) (instr_of (PutSlot (register_of left a) d)) (do_all at (operand_before left a []) from)
  copy_made d a less below written based =
      let h = brought left a from in
      let ok = left_same g l k rs from same a in
      let q = slot_written g mask l pc answer h laid low (register_of left a) d (ok.frame based) less in
      subst (MadeBy (Along []) (Copy d a) (put_at d (value rs a) rs) (instr_of (PutSlot (register_of left a) d)))
      (sym (operand_brings left refl refl refl at g.slots a [] from below))
      (record {
        after = does at (PutSlot (register_of left a) d) h;
        goes = q.goes;
        asks = q.quiet;
        stands = put_stands g l k rs d (register_of left a) (value rs a) h ok (one a written below) (word a written below);
      })

  pub compute_made : (d : ℕ) (op : Alu) (a b : Operand) → IsBelow g.slots a → IsBelow g.slots b → IsWritten k.written a → IsWritten k.written b → k.based ≡ true
      → MadeBy (Storing d) (Compute d op a b) (put_at d (alu_value_of op (value rs a) (value rs b)) rs) (compute_word op b (register_of left a))
      (do_all at (operand_before left a (right_before op b [])) from)
  compute_made d op a b below below' written written' based =
      let h = both_brought op a b from in
      let x = alu_value_of op (value rs a) (value rs b) in
      let ok = same_kept g l k rs from h same (both_kept g l k rs from same op a b) in
      let first : value_in h.registers (register_of left a) ≡ value rs a = first_value op a b from (frame_word from.frame g.slots a same.words below) ∙ value_is g l k rs a from same written below in
      let second : second_value op b h.registers ≡ value rs b = last_value op a b from (frame_word from.frame g.slots b same.words below') ∙ value_is g l k rs b from same written' below' in
      let e : effect_at (compute_word op b (register_of left a)) pc h.registers ≡ effect.Write made x =
      compute_effect op b (register_of left a) pc h.registers
      ∙ ap (λ n. effect.Write made (alu_value_of op n (second_value op b h.registers))) first ∙ ap (λ n. effect.Write made (alu_value_of op (value rs a) n)) second in
      let q = write_quiet g mask l pc answer h made x in
      subst (MadeBy (Storing d) (Compute d op a b) (put_at d x rs) (compute_word op b (register_of left a)))
      (sym (operand_brings left refl refl refl at g.slots a (right_before op b []) from below ∙ right_brings at g.slots op b [] (brought left a from) below'))
      (subst (λ f. Made g mask l pc answer 0 (address_at pc 4) (Storing d) (known_behind (Compute d op a b) k) (put_at d x rs) (code.does g.crew mask (Compute d op a b) l v) f h) (sym e)
      (record {
        after = set made x h;
        goes = q.goes;
        asks = tt;
        stands = stored_stands g l k rs d x h ok based (alu_value_of-lt op (value rs a) (value rs b) (word a written below) (word b written' below'));
      }))

  pub cut_made : (d : ℕ) (e : Elem) (a : Operand) → IsBelow g.slots a → IsWritten k.written a → k.based ≡ true
      → MadeBy (Storing d) (Cut d e a) (put_at d (fitted e (value rs a)) rs) (cut_word e) (do_all at (operand_before left a (ShiftLeft made (register_of left a) (spare_bits e) ∷ [])) from)
  cut_made d e a below written based =
      let h0 = brought left a from in
      let y = alu_value_of alu.Sll (value_in h0.registers (register_of left a)) (spare_bits e) in
      let h = set made y h0 in
      let x = fitted e (value rs a) in
      let ok = same_kept g l k rs h0 h (left_same g l k rs from same a) (set_kept made y h0 refl refl) in
      let shown : effect_at (cut_word e) pc h.registers ≡ effect.Write made x =
      cut_effect e pc h.registers ∙ ap (λ n. effect.Write made (cut_value e n)) (has_value made refl refl refl y h0.registers)
      ∙ ap (λ n. effect.Write made (cut_value e (alu_value_of alu.Sll n (spare_bits e)))) (one a written below) ∙ ap (λ n. effect.Write made n) (cut_is e (value rs a) (word a written below)) in
      let q = write_quiet g mask l pc answer h made x in
      subst (MadeBy (Storing d) (Cut d e a) (put_at d x rs) (cut_word e))
      (sym (operand_brings left refl refl refl at g.slots a (ShiftLeft made (register_of left a) (spare_bits e) ∷ []) from below))
      (subst (λ f. Made g mask l pc answer 0 (address_at pc 4) (Storing d) (known_behind (Cut d e a) k) (put_at d x rs) (code.does g.crew mask (Cut d e a) l v) f h) (sym shown)
      (record { after = set made x h; goes = q.goes; asks = tt; stands = stored_stands g l k rs d x h ok based (fitted-lt e (value rs a)) }))

  pub word_made : (d n : ℕ) → n < 64 → k.based ≡ true → Needs (instr_of (GetBlock made n)) from
      → MadeBy (Storing d) (Word d n) (put_at d (g.crew.block n) rs) (instr_of (GetBlock made n)) from
  word_made d n less based answered =
      let x = g.crew.block n in
      let whole : x % 2 ^ 32 ≡ x = mod-eq_of_lt (laid.words n) in
      let q = plain_quiet g mask l pc answer from laid low (GetBlock made n) (same.block based, less) answered in
      record {
        after = set made (x % 2 ^ 32) from;
        goes = q.goes;
        asks = q.quiet;
        stands = subst (λ y. LaneStands g (Storing d) l (known_behind (Word d n) k) (put_at d x rs) (set made y from)) (sym whole) (stored_stands g l k rs d x from same based (laid.words n));
      }

  pub learn_made : (d : ℕ) (c : Csr) → k.based ≡ true
      → MadeBy (Storing d) (Learn d c) (put_at d (learned at c (told g.crew mask (Learn d c))) rs) (instr.Csrr made (csr_number c)) from
  learn_made d csr.LaneNumber based =
      let q = csr_quiet g mask l pc answer from made 0xcc0 l refl in
      record { after = set made l from; goes = q.goes; asks = tt; stands = stored_stands g l k rs d l from same based (omega (arith, low)) }
  learn_made d csr.WarpNumber based =
      let q = csr_quiet g mask l pc answer from made 0xcc1 g.crew.ids.warp refl in
      let warp_low = laid.warp in
      record { after = set made g.crew.ids.warp from; goes = q.goes; asks = tt; stands = stored_stands g l k rs d g.crew.ids.warp from same based (omega (arith, warp_low)) }
  learn_made d csr.CoreNumber based =
      let q = csr_quiet g mask l pc answer from made 0xcc2 g.crew.ids.core refl in
      record { after = set made g.crew.ids.core from; goes = q.goes; asks = tt; stands = stored_stands g l k rs d g.crew.ids.core from same based laid.core }
  learn_made d csr.MaskNow based =
      let q = csr_quiet g mask l pc answer from made 0xcc4 mask refl in
      record { after = set made mask from; goes = q.goes; asks = tt; stands = stored_stands g l k rs d mask from same based small }

  -- ---- a word of the launch block by an operand

  block_sum : (x n base : ℕ) → x < 2 ^ 32 → n + x < 64 → base ≡ block_start → address_at (((x * 2 ^ (2 % 32)) % 2 ^ 32 + base) % 2 ^ 32) (4 * n) ≡ block_start + 4 * (n + x)
  block_sum x n base less within based = omega (arith, less, within, based)

  pub word_at_made : (d : ℕ) (a : Operand) (n : ℕ) → IsBelow g.slots a → IsWritten k.written a → k.based ≡ true → n + value rs a < 64
      → Needs (instr.Lw made (4 * n) left) (do_all at (operand_before left a (ShiftLeft left (register_of left a) 2 ∷ Calculate alu.Add left left 3 ∷ [])) from)
      → MadeBy (Storing d) (WordAt d a n) (put_at d (g.crew.block (n + value rs a)) rs) (instr.Lw made (4 * n) left)
      (do_all at (operand_before left a (ShiftLeft left (register_of left a) 2 ∷ Calculate alu.Add left left 3 ∷ [])) from)
  word_at_made d a n below written based within answered =
      let h0 = brought left a from in
      let y = alu_value_of alu.Sll (value_in h0.registers (register_of left a)) 2 in
      let h1 = set left y h0 in
      let z = alu_value_of alu.Add (value_in h1.registers left) (value_in h1.registers 3) in
      let h = set left z h1 in
      let m = n + value rs a in
      let x = g.crew.block m in
      let whole : x % 2 ^ 32 ≡ x = mod-eq_of_lt (laid.words m) in
      let ok0 = left_same g l k rs from same a in
      let ok = same_kept g l k rs h0 h ok0 (kept_both h0 h1 h (set_kept left y h0 refl refl) (set_kept left z h1 refl refl)) in
      let brings = operand_brings left refl refl refl at g.slots a (ShiftLeft left (register_of left a) 2 ∷ Calculate alu.Add left left 3 ∷ []) from below in
      let address : address_at (value_in h.registers left) (4 * n) ≡ block_start + 4 * m =
      ap (λ u. address_at (((u * 2 ^ (2 % 32)) % 2 ^ 32 + h0.registers 3) % 2 ^ 32) (4 * n)) (one a written below)
      ∙ block_sum (value rs a) n (h0.registers 3) (word a written below) within (ok0.block based) in
      let given : AreAnswered (g.at l) g.crew.block h.frame (Reads (address_at (value_in h.registers left) (4 * n)) Four answer ∷ []) = subst (Needs (instr.Lw made (4 * n) left)) brings answered in
      let q = subst (λ b. Quiet g mask l pc answer (effect.Load made b Four false) h (set made (x % 2 ^ 32) h)) (sym address)
      (block_load g mask l pc answer h made (block_start + 4 * m) m (laid.block_word l m low within) (omega arith) (laid.block_in m within)
      (subst (λ b. AreAnswered (g.at l) g.crew.block h.frame (Reads b Four answer ∷ [])) address given)) in
      subst (MadeBy (Storing d) (WordAt d a n) (put_at d x rs) (instr.Lw made (4 * n) left)) (sym brings)
      (record {
        after = set made (x % 2 ^ 32) h;
        goes = q.goes;
        asks = q.quiet;
        stands = subst (λ y. LaneStands g (Storing d) l (known_behind (WordAt d a n) k) (put_at d x rs) (set made y h)) (sym whole) (stored_stands g l k rs d x h ok based (laid.words m));
      })

  -- ---- accesses of arrays

  array_load : (a : ℕ) (size : Size) (signed : Bool) (x : ℕ) (h : Held) (next : ℕ → Lane) → IsThere g l a size → loaded size signed answer ≡ x → x < 2 ^ 32
      → (d : ℕ) → Same g l k rs h → k.based ≡ true
      → Made g mask l pc answer 0 (address_at pc 4) (Storing d) (record { written = put_at d true k.written; based = k.based }) (put_at d x rs) (Ask (Load (g.crew.places l a) size) next) (effect.Load made a size signed) h
  array_load a size signed x h next there shown less d ok based = record {
    after = set made x h;
    goes = record { chosen = refl; leads = refl; fault = field_fine g.has a size there.1 there.2; registers = ap (λ y. with_register made y h.registers) shown; frame = refl };
    asks = (a, there.0, refl);
    stands = stored_stands g l k rs d x h ok based less;
  }

  zero_more : (a : ℕ) → a < 2 ^ 32 → address_at a 0 ≡ a
  zero_more a less = omega (arith, less)

  fetched_at : (d : ℕ) (e : Elem) (r : ℕ) (a : Operand) (h : Held) → Same g l k rs h → k.based ≡ true → value_in h.registers r ≡ value rs a → value rs a < 2 ^ 32 → IsThere g l (value rs a) (elem_size e)
      → MadeBy (Storing d) (Fetch d e a) (put_at d (fitted e answer) rs) (load_word e r) h
  fetched_at d elem.Char r a h ok based is less there =
      let address : address_at (value_in h.registers r) 0 ≡ value rs a = ap (λ x. address_at x 0) is ∙ zero_more (value rs a) less in
      subst (λ x. Made g mask l pc answer 0 (address_at pc 4) (Storing d) (known_behind (Fetch d elem.Char a) k) (put_at d (fitted elem.Char answer) rs) (code.does g.crew mask (Fetch d elem.Char a) l v) (effect.Load made x One true) h) (sym address)
      (array_load (value rs a) One true (fitted elem.Char answer) h (λ answer. lane (suc v.place) (put_at d (fitted elem.Char answer) rs) v.turns []) there refl (fitted-lt elem.Char answer) d ok based)
  fetched_at d elem.Uchar r a h ok based is less there =
      let address : address_at (value_in h.registers r) 0 ≡ value rs a = ap (λ x. address_at x 0) is ∙ zero_more (value rs a) less in
      subst (λ x. Made g mask l pc answer 0 (address_at pc 4) (Storing d) (known_behind (Fetch d elem.Uchar a) k) (put_at d (fitted elem.Uchar answer) rs) (code.does g.crew mask (Fetch d elem.Uchar a) l v) (effect.Load made x One false) h) (sym address)
      (array_load (value rs a) One false (fitted elem.Uchar answer) h (λ answer. lane (suc v.place) (put_at d (fitted elem.Uchar answer) rs) v.turns []) there refl (fitted-lt elem.Uchar answer) d ok based)
  fetched_at d elem.Short r a h ok based is less there =
      let address : address_at (value_in h.registers r) 0 ≡ value rs a = ap (λ x. address_at x 0) is ∙ zero_more (value rs a) less in
      subst (λ x. Made g mask l pc answer 0 (address_at pc 4) (Storing d) (known_behind (Fetch d elem.Short a) k) (put_at d (fitted elem.Short answer) rs) (code.does g.crew mask (Fetch d elem.Short a) l v) (effect.Load made x Two true) h) (sym address)
      (array_load (value rs a) Two true (fitted elem.Short answer) h (λ answer. lane (suc v.place) (put_at d (fitted elem.Short answer) rs) v.turns []) there refl (fitted-lt elem.Short answer) d ok based)
  fetched_at d elem.Ushort r a h ok based is less there =
      let address : address_at (value_in h.registers r) 0 ≡ value rs a = ap (λ x. address_at x 0) is ∙ zero_more (value rs a) less in
      subst (λ x. Made g mask l pc answer 0 (address_at pc 4) (Storing d) (known_behind (Fetch d elem.Ushort a) k) (put_at d (fitted elem.Ushort answer) rs) (code.does g.crew mask (Fetch d elem.Ushort a) l v) (effect.Load made x Two false) h) (sym address)
      (array_load (value rs a) Two false (fitted elem.Ushort answer) h (λ answer. lane (suc v.place) (put_at d (fitted elem.Ushort answer) rs) v.turns []) there refl (fitted-lt elem.Ushort answer) d ok based)
  fetched_at d elem.Int r a h ok based is less there =
      let address : address_at (value_in h.registers r) 0 ≡ value rs a = ap (λ x. address_at x 0) is ∙ zero_more (value rs a) less in
      subst (λ x. Made g mask l pc answer 0 (address_at pc 4) (Storing d) (known_behind (Fetch d elem.Int a) k) (put_at d (fitted elem.Int answer) rs) (code.does g.crew mask (Fetch d elem.Int a) l v) (effect.Load made x Four false) h) (sym address)
      (array_load (value rs a) Four false (fitted elem.Int answer) h (λ answer. lane (suc v.place) (put_at d (fitted elem.Int answer) rs) v.turns []) there refl (fitted-lt elem.Int answer) d ok based)
  fetched_at d elem.Uint r a h ok based is less there =
      let address : address_at (value_in h.registers r) 0 ≡ value rs a = ap (λ x. address_at x 0) is ∙ zero_more (value rs a) less in
      subst (λ x. Made g mask l pc answer 0 (address_at pc 4) (Storing d) (known_behind (Fetch d elem.Uint a) k) (put_at d (fitted elem.Uint answer) rs) (code.does g.crew mask (Fetch d elem.Uint a) l v) (effect.Load made x Four false) h) (sym address)
      (array_load (value rs a) Four false (fitted elem.Uint answer) h (λ answer. lane (suc v.place) (put_at d (fitted elem.Uint answer) rs) v.turns []) there refl (fitted-lt elem.Uint answer) d ok based)

  pub fetch_made : (d : ℕ) (e : Elem) (a : Operand) → IsBelow g.slots a → IsWritten k.written a → k.based ≡ true → IsThere g l (value rs a) (elem_size e)
      → MadeBy (Storing d) (Fetch d e a) (put_at d (fitted e answer) rs) (load_word e (register_of left a)) (do_all at (operand_before left a []) from)
  fetch_made d e a below written based there =
      subst (MadeBy (Storing d) (Fetch d e a) (put_at d (fitted e answer) rs) (load_word e (register_of left a))) (sym (operand_brings left refl refl refl at g.slots a [] from below))
      (fetched_at d e (register_of left a) a (brought left a from) (left_same g l k rs from same a) based (one a written below) (word a written below) there)
