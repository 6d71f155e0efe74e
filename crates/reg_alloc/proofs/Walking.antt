-- A lane alone at a word that only computes: it makes of the registers and the frame what the word does.
use Rattle.std.proofs.Common.{◌≡◌, ℕ, zero, suc, ◌+◌, ◌-◌, ◌*◌, ◌/◌, ◌%◌, ◌<◌, true, false, nat_le, nat_eq, List, [], ◌∷◌, map, ap, ◌∙◌, arith, refl, Some, Ok}
use Rattle.std.specs.Prelude.{slice_get}
use Rattle.std.proofs.lemmas.Bool.{le-leb}
use Rattle.vx_base.specs.declared.types.Alu.{Alu}
use Rattle.vx_base.specs.declared.types.Alu.TheVariants as alu
use Rattle.vx_base.specs.declared.types.Size.TheVariants.{Four}
use Rattle.item_acts.specs.declared.acts.Place.{Place}
use Rattle.item_acts.specs.Machine.{Go}
use Rattle.vx_layout.specs.Addresses.{block_start}
use Rattle.vx_isa.specs.Effects.{address_at}
use Rattle.vx_isa.specs.Words.{Fits, word_of}
use Rattle.vx_isa.specs.Warps.{Registers, value_in}
use Rattle.vx_isa.specs.WarpSteps.{code_start, decoded, fetched, read_as}
use Rattle.vx_isa.specs.declared.instr.Instr.{Instr}
use Rattle.vx_isa.proofs.RowLaws.{row_of_word_of}
use Rattle.reg_alloc.specs.Plain.{Plain, GetSlot, PutSlot, GetBlock, High, AddTo, ShiftLeft, Calculate, GetLane, GetWarp, alu_instr, does, held, instr_of}
use Rattle.reg_alloc.specs.Blocks.{address_of_word}
use Rattle.reg_alloc.specs.Keeping.{Stands, around_in}
use Rattle.reg_alloc.specs.Alone.{ImageLane, Setting, image_lane, instr_step, load_from, next_pc, store_to}

mapped : (is : List Instr) (k : ℕ) (i : Instr) → slice_get is k ≡ Some i → slice_get (map word_of is) k ≡ Some (word_of i)
mapped [] k i e = absurd (cc)
mapped (x ∷ is) zero i e = let same : x ≡ i = cc in ap (λ j. Some (word_of j)) same
mapped (x ∷ is) (suc k) i e = mapped is k i e

-- the instruction at the address of a word
pub fetched_at : (is : List Instr) (k : ℕ) (i : Instr) → slice_get is k ≡ Some i → Fits i → fetched (map word_of is) (address_of_word k) ≡ Ok i
unfolding fetched
fetched_at is k i e fits =
    let low : nat_le code_start (address_of_word k) ≡ true = le-leb code_start (address_of_word k) (omega arith) in
    let fourth : address_of_word k % 4 ≡ 0 = omega arith in
    let whole : nat_eq (address_of_word k % 4) 0 ≡ true = ap (λ n. nat_eq n 0) fourth in
    let index : (address_of_word k - code_start) / 4 ≡ k = omega arith in
    rw low (rw whole (ap (λ n. decoded (slice_get (map word_of is) n)) index ∙ ap decoded (mapped is k i e) ∙ ap read_as (row_of_word_of i fits)))

-- a word of the frame or of the launch block is reached by the register that has its first address
abbrev pub Reaches : ℕ → ℕ → Registers → Plain → Type 0
Reaches slots start xs (GetSlot rd r) = (xs 4 ≡ start) × (r < slots)
Reaches slots start xs (PutSlot rs r) = (xs 4 ≡ start) × (r < slots)
Reaches slots start xs (GetBlock rd w) = (xs 3 ≡ block_start) × (w < 64)
Reaches slots start xs other = Unit {0}

-- the lane behind a plain word
abbrev pub behind_plain : Setting → (ℕ → Place) → Plain → ImageLane → ImageLane
behind_plain k place w s =
    image_lane (next_pc s) (does (around_in k place) w (held s.registers s.frame)).registers (does (around_in k place) w (held s.registers s.frame)).frame s.numbers

alu_step : (k : Setting) (place : ℕ → Place) (op : Alu) (rd a b : ℕ) (s : ImageLane) → instr_step k (alu_instr op rd a b) s ≡ Go (behind_plain k place (Calculate op rd a b) s)
alu_step k place alu.Add rd a b s = refl
alu_step k place alu.Sub rd a b s = refl
alu_step k place alu.Sll rd a b s = refl
alu_step k place alu.Slt rd a b s = refl
alu_step k place alu.Sltu rd a b s = refl
alu_step k place alu.Xor rd a b s = refl
alu_step k place alu.Srl rd a b s = refl
alu_step k place alu.Sra rd a b s = refl
alu_step k place alu.Or rd a b s = refl
alu_step k place alu.And rd a b s = refl
alu_step k place alu.Mul rd a b s = refl
alu_step k place alu.Mulh rd a b s = refl
alu_step k place alu.Mulhsu rd a b s = refl
alu_step k place alu.Mulhu rd a b s = refl
alu_step k place alu.Div rd a b s = refl
alu_step k place alu.Divu rd a b s = refl
alu_step k place alu.Rem rd a b s = refl
alu_step k place alu.Remu rd a b s = refl

-- what the instruction of a plain word is to the lane
pub plain_step : (k : Setting) (place : ℕ → Place) (slots start : ℕ) → Stands k slots start → (w : Plain) (s : ImageLane) → Reaches slots start s.registers w
    → instr_step k (instr_of w) s ≡ Go (behind_plain k place w s)
plain_step k place slots start stands (GetSlot rd r) s reaches =
    let based = reaches.0 in
    let less = reaches.1 in
    let small = stands.small in
    let address : address_at (s.registers 4) (4 * r) ≡ start + 4 * r = omega (arith, based, less, small) in
    ap (λ a. load_from k rd (k.at a) Four false s) address ∙ ap (λ there. load_from k rd there Four false s) (stands.own_word r less)
plain_step k place slots start stands (PutSlot rs r) s reaches =
    let based = reaches.0 in
    let less = reaches.1 in
    let small = stands.small in
    let address : address_at (s.registers 4) (4 * r) ≡ start + 4 * r = omega (arith, based, less, small) in
    ap (λ a. store_to (k.at a) Four (value_in s.registers rs) s) address ∙ ap (λ there. store_to there Four (value_in s.registers rs) s) (stands.own_word r less)
plain_step k place slots start stands (GetBlock rd w) s reaches =
    let based = reaches.0 in
    let less = reaches.1 in
    let address : address_at (s.registers 3) (4 * w) ≡ block_start + 4 * w = omega (arith, based, less) in
    ap (λ a. load_from k rd (k.at a) Four false s) address ∙ ap (λ there. load_from k rd there Four false s) (stands.block_word w less)
plain_step k place slots start stands (High rd n) s reaches = refl
plain_step k place slots start stands (AddTo rd rs n) s reaches = refl
plain_step k place slots start stands (ShiftLeft rd rs n) s reaches = refl
plain_step k place slots start stands (Calculate op rd a b) s reaches = alu_step k place op rd a b s
plain_step k place slots start stands (GetLane rd) s reaches = refl
plain_step k place slots start stands (GetWarp rd) s reaches = refl
