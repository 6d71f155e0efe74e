-- Each word of a kernel is read as the instruction that it was made of.
use Rattle.std.specs.Prelude.{slice_get}
use Rattle.std.proofs.Common.{◌≡◌, ℕ, suc, Some, map, ap, ◌∙◌, ◌+◌, ◌-◌, ◌*◌, ◌<◌, ◌≤◌, true, List, [], ◌∷◌, arith, refl}
use Rattle.vx_base.specs.declared.types.Alu.TheVariants as alu
use Rattle.vx_base.specs.declared.types.Elem.{Elem}
use Rattle.vx_base.specs.declared.types.Elem.TheVariants as elem
use Rattle.kir.specs.Trees.{Operand}
use Rattle.kir.specs.Numbered.{IsBelow}
use Rattle.vx_isa.specs.Rows.{row_of}
use Rattle.vx_isa.specs.Words.{Fits, is_register, word_of}
use Rattle.vx_isa.specs.declared.instr.Instr.{Instr}
use Rattle.vx_isa.specs.declared.instr.Instr.TheVariants as instr
use Rattle.vx_isa.proofs.RowLaws.{row_of_word_of}
use Rattle.vcode.specs.declared.ops.Csr.{Csr}
use Rattle.vcode.specs.declared.ops.Csr.TheVariants as csr
use Rattle.vcode.specs.Code.{VOp, Fresh, Copy, Compute, Cut, Word, WordAt, Learn, Fetch, Write, IfZero, IfNot, Goto, Split, Join, Pred, Tmc, Wspawn, Bar, Trap, Enter, Leaves, Again}
use Rattle.vcode.specs.Words.{op_words, words}
use Rattle.simt_lowering.specs.Bounds.{AreWithin, OpWithin}
use Rattle.reg_alloc.specs.Plain.{Plain, GetSlot, GetBlock, ShiftLeft, Calculate, block_base, left, made, right}
use Rattle.reg_alloc.specs.Blocks.{Block, address_of_word, block, csr_number, cut_word, jump, load_word, operand_before, pair_before, register_of, right_before, spare_bits, store_word}
use Rattle.reg_alloc.specs.Layout.{block_onto, instrs_from, instrs_of, onto, plain_onto, word_of_place}
use Rattle.reg_alloc.specs.Laws.{WordsDecode}
use Rattle.reg_alloc.proofs.Fitting.{AllFit, PlainFit, compute_fits, distance_fits, fits_at, operand_fits, pair_fits, register_fits, right_fits, signed_fits, slot_signed, small_signed}
use Rattle.reg_alloc.proofs.Standing.{places_are_within}

plain_fit : (ws : List Plain) (rest : List Instr) → PlainFit ws → AllFit rest → AllFit (plain_onto ws rest)
plain_fit [] rest fit all = all
plain_fit (w ∷ ws) rest fit all = (fit.0, plain_fit ws rest fit.1 all)

onto_fit : (is rest : List Instr) → AllFit is → AllFit rest → AllFit (onto is rest)
onto_fit [] rest fit all = all
onto_fit (i ∷ is) rest fit all = (fit.0, onto_fit is rest fit.1 all)

-- the words of a block fit
pub record BlockFits (b : Block) : Type 0 where
  pub before : PlainFit b.before
  pub acting : AllFit b.acting
  pub behind : AllFit b.behind

block_fit : (b : Block) (rest : List Instr) → BlockFits b → AllFit rest → AllFit (block_onto b rest)
block_fit b rest fit all = plain_fit b.before (onto b.acting (onto b.behind rest)) fit.before (onto_fit b.acting (onto b.behind rest) fit.acting (onto_fit b.behind rest fit.behind all))

-- ---- single words

abbrev IsRegister : ℕ → Type 0
IsRegister r = is_register r ≡ true

left_fits : (a : Operand) → IsRegister (register_of left a)
left_fits a = register_fits left a refl

put_fits : (slots d rs : ℕ) → slots ≤ 256 → d < slots → IsRegister rs → Fits (instr.Sw rs (4 * d) 4)
put_fits slots d rs few less h = signed_fits 4 rs (4 * d) refl h (slot_signed slots d few less)

jump_fits : (from to : ℕ) → from ≤ 65536 → to ≤ 65536 → Fits (jump from to)
jump_fits from to near near' = rw (distance_fits from to near near') refl

spare_fits : (e : Elem) (r : ℕ) → IsRegister r → Fits (instr.Slli made r (spare_bits e))
spare_fits elem.Char r h = rw h refl
spare_fits elem.Uchar r h = rw h refl
spare_fits elem.Short r h = rw h refl
spare_fits elem.Ushort r h = rw h refl
spare_fits elem.Int r h = rw h refl
spare_fits elem.Uint r h = rw h refl

cut_fits : (e : Elem) → Fits (cut_word e)
cut_fits elem.Char = refl
cut_fits elem.Uchar = refl
cut_fits elem.Short = refl
cut_fits elem.Ushort = refl
cut_fits elem.Int = refl
cut_fits elem.Uint = refl

csr_fits : (c : Csr) → Fits (instr.Csrr made (csr_number c))
csr_fits csr.LaneNumber = refl
csr_fits csr.WarpNumber = refl
csr_fits csr.CoreNumber = refl
csr_fits csr.MaskNow = refl

load_fits : (e : Elem) (a : ℕ) → IsRegister a → Fits (load_word e a)
load_fits elem.Char a h = rw h refl
load_fits elem.Uchar a h = rw h refl
load_fits elem.Short a h = rw h refl
load_fits elem.Ushort a h = rw h refl
load_fits elem.Int a h = rw h refl
load_fits elem.Uint a h = rw h refl

store_fits : (e : Elem) (a b : ℕ) → IsRegister a → IsRegister b → Fits (store_word e a b)
store_fits elem.Char a b h h' = rw h (rw h' refl)
store_fits elem.Uchar a b h h' = rw h (rw h' refl)
store_fits elem.Short a b h h' = rw h (rw h' refl)
store_fits elem.Ushort a b h h' = rw h (rw h' refl)
store_fits elem.Int a b h h' = rw h (rw h' refl)
store_fits elem.Uint a b h h' = rw h (rw h' refl)

-- ---- blocks

module _ (slots : ℕ) (starts : ℕ → ℕ) (few : slots ≤ 256) (near : (q : ℕ) → starts q ≤ 65536) where
  jumps : (end q : ℕ) → end ≤ 65536 → AllFit (jump (end - 1) (starts q) ∷ [])
  jumps end q low = (jump_fits (end - 1) (starts q) (omega (arith, low)) (near q), tt)

  gets : (a : Operand) → IsBelow slots a → PlainFit (operand_before left a [])
  gets a less = operand_fits slots left a [] few refl less tt

  stored : (d : ℕ) → d < slots → AllFit (instr.Sw made (4 * d) 4 ∷ [])
  stored d less = (put_fits slots d made few less refl, tt)

  tests : (a : Operand) → Fits (instr.Bne (register_of left a) 0 8) × Fits (instr.Beq (register_of left a) 0 8)
  tests a = (rw (left_fits a) refl, rw (left_fits a) refl)

  pub op_fits : (end : ℕ) (op : VOp) → end ≤ 65536 → OpWithin slots op → BlockFits (block slots starts end op)
  op_fits end Fresh low fit = record {
    before = (refl, (refl, (refl, (refl, (refl, (refl, (signed_fits right 0 (4 * slots) refl refl (small_signed (4 * slots) (omega (arith, few))), (refl, (refl, tt)))))))));
    acting = (refl, tt);
    behind = tt;
  }
  op_fits end (Copy d a) low fit = record { before = gets a fit.1; acting = (put_fits slots d (register_of left a) few fit.0 (left_fits a), tt); behind = tt }
  op_fits end (Compute d op a b) low fit = record {
    before = operand_fits slots left a (right_before op b []) few refl fit.1 (right_fits slots op b [] few fit.2 tt);
    acting = (compute_fits op b (register_of left a) (left_fits a), tt);
    behind = stored d fit.0;
  }
  op_fits end (Cut d e a) low fit = record {
    before = operand_fits slots left a (ShiftLeft made (register_of left a) (spare_bits e) ∷ []) few refl fit.1 (spare_fits e (register_of left a) (left_fits a), tt);
    acting = (cut_fits e, tt);
    behind = stored d fit.0;
  }
  op_fits end (Word d k) low fit = record {
    before = tt;
    acting = (signed_fits made 3 (4 * k) refl refl (small_signed (4 * k) (let h = fit.1 in omega (arith, h))), tt);
    behind = stored d fit.0;
  }
  op_fits end (WordAt d a k) low fit = record {
    before = operand_fits slots left a (ShiftLeft left (register_of left a) 2 ∷ Calculate alu.Add left left block_base ∷ []) few refl fit.1 (rw (left_fits a) refl, (refl, tt));
    acting = (signed_fits made left (4 * k) refl refl (small_signed (4 * k) (let h = fit.2 in omega (arith, h))), tt);
    behind = stored d fit.0;
  }
  op_fits end (Learn d c) low fit = record { before = tt; acting = (csr_fits c, tt); behind = stored d fit }
  op_fits end (Fetch d e a) low fit = record { before = gets a fit.1; acting = (load_fits e (register_of left a) (left_fits a), tt); behind = stored d fit.0 }
  op_fits end (Write e a b) low fit = record {
    before = operand_fits slots left a (operand_before right b []) few refl fit.0 (operand_fits slots right b [] few refl fit.1 tt);
    acting = (store_fits e (register_of left a) (register_of right b) (left_fits a) (register_fits right b refl), tt);
    behind = tt;
  }
  op_fits end (IfZero a q) low fit = record { before = gets a fit; acting = ((tests a).0, tt); behind = jumps end q low }
  op_fits end (IfNot a q) low fit = record { before = gets a fit; acting = ((tests a).1, tt); behind = jumps end q low }
  op_fits end (Goto q) low fit = record { before = tt; acting = jumps end q low; behind = tt }
  op_fits end (Split a) low fit = record { before = gets a fit; acting = (left_fits a, tt); behind = tt }
  op_fits end Join low fit = record { before = tt; acting = (refl, tt); behind = tt }
  op_fits end (Pred a m) low fit = record {
    before = operand_fits slots left a (GetSlot right m ∷ []) few refl fit.0 (signed_fits right 4 (4 * m) refl refl (slot_signed slots m few fit.1), tt);
    acting = (rw (left_fits a) refl, tt);
    behind = tt;
  }
  op_fits end (Tmc a) low fit = record { before = gets a fit; acting = (left_fits a, tt); behind = tt }
  op_fits end (Wspawn a q) low fit = record {
    before = operand_fits slots left a (pair_before right (address_of_word (starts q)) []) few refl fit (pair_fits right (address_of_word (starts q)) [] refl tt);
    acting = (rw (left_fits a) refl, tt);
    behind = tt;
  }
  op_fits end (Bar site) low fit = record { before = pair_fits left site (GetBlock right 0 ∷ []) refl (refl, tt); acting = (refl, tt); behind = tt }
  op_fits end (Trap pos) low fit = record { before = tt; acting = (refl, tt); behind = tt }
  op_fits end Enter low fit = record { before = tt; acting = tt; behind = tt }
  op_fits end (Leaves a q) low fit = record { before = gets a fit; acting = ((tests a).0, tt); behind = jumps end q low }
  op_fits end (Again q) low fit = record { before = tt; acting = jumps end q low; behind = tt }

  pub from_fits : (k : ℕ) (ops : List VOp) → words ops + k ≤ 65536 → AreWithin slots ops → AllFit (instrs_from slots starts k ops)
  from_fits k [] low fit = tt
  from_fits k (op ∷ ops) low fit =
      block_fit (block slots starts (op_words op + k) op) (instrs_from slots starts (op_words op + k) ops)
      (op_fits (op_words op + k) op (omega (arith, low)) fit.0)
      (from_fits (op_words op + k) ops (omega (arith, low)) fit.1)

pub words_decode : WordsDecode
words_decode slots ops few fit low k i e =
    let near : (q : ℕ) → word_of_place ops q ≤ 65536 = λ q. let h = places_are_within ops q in omega (arith, h, low) in
    let fits = fits_at (instrs_of slots ops) (from_fits slots (word_of_place ops) few near 0 ops (omega (arith, low)) fit) k i e in
    (fits, row_of_word_of i fits)

-- words that are each read as an instruction, in order
pub all_read : (is : List Instr) → ((k : ℕ) (i : Instr) → slice_get is k ≡ Some i → row_of (word_of i) ≡ Some i) → map row_of (map word_of is) ≡ map (λ i. Some i) is
all_read [] h = refl
all_read (i ∷ is) h =
    ap (λ o. o ∷ map row_of (map word_of is)) (h 0 i refl) ∙ ap (λ os. Some i ∷ os) (all_read is (λ k j e. h (suc k) j e))
