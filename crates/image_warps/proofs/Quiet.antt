-- What a word that only computes is to a lane of a warp: it asks for nothing, has no fault, and leads on.
use Rattle.std.proofs.Common.{◌≡◌, ℕ, ◌+◌, ◌*◌, ◌%◌, ◌^◌, ◌<◌, true, false, [], ◌∷◌, None, ap, sym, subst, arith, refl}
use Rattle.vx_base.specs.Bytes.{bytes_of}
use Rattle.vx_base.specs.Values.{alu_value_of}
use Rattle.vx_base.specs.declared.types.Alu.{Alu}
use Rattle.vx_base.specs.declared.types.Alu.TheVariants as alu
use Rattle.vx_base.specs.declared.types.Size.{Size}
use Rattle.vx_base.specs.declared.types.Size.TheVariants.{Four}
use Rattle.item_acts.specs.Launches.{put_at}
use Rattle.vx_layout.specs.Addresses.{Block, Own, block_start, frames_start}
use Rattle.vx_layout.proofs.Lanes.{frame_ends}
use Rattle.vx_isa.specs.Effects.{address_at, effect_of}
use Rattle.vx_isa.specs.Operands.{rs1_of, rs2_of}
use Rattle.vx_isa.specs.Warps.{Registers, WarpState, value_in, with_register}
use Rattle.vx_isa.specs.WarpSteps.{Reads, Fields, access_of, choice_of, csr_value, fault_of, field_fault, instr_step, lanes_step, leads_to, registers_after}
use Rattle.vx_isa.specs.declared.instr.Instr.{Instr}
use Rattle.vx_isa.specs.declared.instr.LaneEffect.{LaneEffect}
use Rattle.vx_isa.specs.declared.instr.LaneEffect.TheVariants as effect
use Rattle.vx_isa.specs.declared.warps.Ids.{Ids}
use Rattle.warp_code.specs.Warps.{around_of}
use Rattle.reg_alloc.specs.Plain.{Held, Plain, GetSlot, PutSlot, GetBlock, High, AddTo, ShiftLeft, Calculate, GetLane, GetWarp, alu_instr, does, held, instr_of, set}
use Rattle.reg_alloc.proofs.Walking.{Reaches}
use Rattle.image_warps.specs.Lanes.{Ground, Laid, AreAnswered, AsksNothing, IsAnswered, IsRead, IsWritten, frame_behind, frame_start, stored}

-- what an instruction is to a lane with these registers
abbrev pub effect_at : Instr → ℕ → Registers → LaneEffect
effect_at i pc xs = effect_of i pc (value_in xs (rs1_of i)) (value_in xs (rs2_of i))

-- A lane goes by an effect from registers and a frame to others.
pub record Goes (g : Ground) (mask l pc answer choice target : ℕ) (e : LaneEffect) (h h' : Held) : Type 0 where
  pub chosen : choice_of e ≡ choice
  pub leads : leads_to pc e ≡ target
  pub fault : fault_of g.has pc choice e ≡ None
  pub registers : registers_after g.crew.ids mask l answer e h.registers ≡ h'.registers
  pub frame : frame_behind (g.at l) (access_of answer e) h.frame ≡ h'.frame

-- it goes on, and asks for nothing
pub record Quiet (g : Ground) (mask l pc answer : ℕ) (e : LaneEffect) (h h' : Held) : Type 0 where
  pub goes : Goes g mask l pc answer 0 (address_at pc 4) e h h'
  pub quiet : AsksNothing (g.at l) (access_of answer e)

-- ---- where the frame lies

pub frame_small : (g : Ground) → Laid g → (l : ℕ) → l < 32 → frame_start g l + 4 * g.slots < 2 ^ 32
frame_small g laid l low =
    let ends = frame_ends g.crew.ids.warp g.crew.ids.lanes l g.slots laid.warp laid.lanes low laid.slots in
    omega (arith, ends)

quarter : (n s : ℕ) → (frames_start + n * (4 * s)) % 4 ≡ 0
quarter n s = let e : n * (4 * s) ≡ 4 * (n * s) = omega arith in omega (arith, e)

pub frame_aligned : (g : Ground) (l r : ℕ) → (frame_start g l + 4 * r) % 4 ≡ 0
frame_aligned g l r = let h = quarter (g.crew.ids.warp * g.crew.ids.lanes + l) g.slots in omega (arith, h)

-- ---- effects

pub field_fine : (has : Fields) (a : ℕ) (size : Size) → a % bytes_of size ≡ 0 → has a size ≡ true → field_fault has a size ≡ None
field_fine has a size whole there = rw whole (rw there refl)

module _ (g : Ground) (mask l pc answer : ℕ) (h : Held) where
  pub write_quiet : (rd v : ℕ) → Quiet g mask l pc answer (effect.Write rd v) h (set rd v h)
  write_quiet rd v = record { goes = record { chosen = refl; leads = refl; fault = refl; registers = refl; frame = refl }; quiet = tt }

  pub csr_quiet : (rd csr v : ℕ) → csr_value g.crew.ids mask l csr ≡ v → Quiet g mask l pc answer (effect.Csr rd csr) h (set rd v h)
  csr_quiet rd csr v e = record {
    goes = record { chosen = refl; leads = refl; fault = refl; registers = ap (λ x. with_register rd x h.registers) e; frame = refl };
    quiet = tt;
  }

  pub own_load : (rd a r : ℕ) → g.at l a ≡ Own r → a % 4 ≡ 0 → g.has a Four ≡ true → AreAnswered (g.at l) g.crew.block h.frame (Reads a Four answer ∷ [])
      → Quiet g mask l pc answer (effect.Load rd a Four false) h (set rd (h.frame r % 2 ^ 32) h)
  own_load rd a r e whole there answered =
      let told = subst (λ x. IsAnswered g.crew.block h.frame x Four answer) e answered.0 in
      record {
        goes = record {
          chosen = refl;
          leads = refl;
          fault = field_fine g.has a Four whole there;
          registers = ap (λ x. with_register rd x h.registers) told;
          frame = refl;
        };
        quiet = (subst (λ x. IsRead x Four) (sym e) tt, tt);
      }

  pub block_load : (rd a k : ℕ) → g.at l a ≡ Block k → a % 4 ≡ 0 → g.has a Four ≡ true → AreAnswered (g.at l) g.crew.block h.frame (Reads a Four answer ∷ [])
      → Quiet g mask l pc answer (effect.Load rd a Four false) h (set rd (g.crew.block k % 2 ^ 32) h)
  block_load rd a k e whole there answered =
      let told = subst (λ x. IsAnswered g.crew.block h.frame x Four answer) e answered.0 in
      record {
        goes = record {
          chosen = refl;
          leads = refl;
          fault = field_fine g.has a Four whole there;
          registers = ap (λ x. with_register rd x h.registers) told;
          frame = refl;
        };
        quiet = (subst (λ x. IsRead x Four) (sym e) tt, tt);
      }

  pub own_store : (a r v : ℕ) → g.at l a ≡ Own r → a % 4 ≡ 0 → g.has a Four ≡ true
      → Quiet g mask l pc answer (effect.Store a Four v) h (held h.registers (put_at r v h.frame))
  own_store a r v e whole there = record {
    goes = record {
      chosen = refl;
      leads = refl;
      fault = field_fine g.has a Four whole there;
      registers = refl;
      frame = ap (λ x. stored x Four v h.frame) e;
    };
    quiet = (subst (λ x. IsWritten x Four) (sym e) tt, tt);
  }

  pub alu_quiet : (op : Alu) (rd a b : ℕ) → Quiet g mask l pc answer (effect_at (alu_instr op rd a b) pc h.registers) h (set rd (alu_value_of op (value_in h.registers a) (value_in h.registers b)) h)
  alu_quiet alu.Add rd a b = write_quiet rd (alu_value_of alu.Add (value_in h.registers a) (value_in h.registers b))
  alu_quiet alu.Sub rd a b = write_quiet rd (alu_value_of alu.Sub (value_in h.registers a) (value_in h.registers b))
  alu_quiet alu.Sll rd a b = write_quiet rd (alu_value_of alu.Sll (value_in h.registers a) (value_in h.registers b))
  alu_quiet alu.Slt rd a b = write_quiet rd (alu_value_of alu.Slt (value_in h.registers a) (value_in h.registers b))
  alu_quiet alu.Sltu rd a b = write_quiet rd (alu_value_of alu.Sltu (value_in h.registers a) (value_in h.registers b))
  alu_quiet alu.Xor rd a b = write_quiet rd (alu_value_of alu.Xor (value_in h.registers a) (value_in h.registers b))
  alu_quiet alu.Srl rd a b = write_quiet rd (alu_value_of alu.Srl (value_in h.registers a) (value_in h.registers b))
  alu_quiet alu.Sra rd a b = write_quiet rd (alu_value_of alu.Sra (value_in h.registers a) (value_in h.registers b))
  alu_quiet alu.Or rd a b = write_quiet rd (alu_value_of alu.Or (value_in h.registers a) (value_in h.registers b))
  alu_quiet alu.And rd a b = write_quiet rd (alu_value_of alu.And (value_in h.registers a) (value_in h.registers b))
  alu_quiet alu.Mul rd a b = write_quiet rd (alu_value_of alu.Mul (value_in h.registers a) (value_in h.registers b))
  alu_quiet alu.Mulh rd a b = write_quiet rd (alu_value_of alu.Mulh (value_in h.registers a) (value_in h.registers b))
  alu_quiet alu.Mulhsu rd a b = write_quiet rd (alu_value_of alu.Mulhsu (value_in h.registers a) (value_in h.registers b))
  alu_quiet alu.Mulhu rd a b = write_quiet rd (alu_value_of alu.Mulhu (value_in h.registers a) (value_in h.registers b))
  alu_quiet alu.Div rd a b = write_quiet rd (alu_value_of alu.Div (value_in h.registers a) (value_in h.registers b))
  alu_quiet alu.Divu rd a b = write_quiet rd (alu_value_of alu.Divu (value_in h.registers a) (value_in h.registers b))
  alu_quiet alu.Rem rd a b = write_quiet rd (alu_value_of alu.Rem (value_in h.registers a) (value_in h.registers b))
  alu_quiet alu.Remu rd a b = write_quiet rd (alu_value_of alu.Remu (value_in h.registers a) (value_in h.registers b))

  -- ---- words that compute

  module _ (laid : Laid g) (low : l < 32) where
    abbrev pub Done : Plain → Type 0
    Done w =
        AreAnswered (g.at l) g.crew.block h.frame (access_of answer (effect_at (instr_of w) pc h.registers))
        → Quiet g mask l pc answer (effect_at (instr_of w) pc h.registers) h (does (around_of g.crew l) w h)

    slot_read : (rd r : ℕ) → h.registers 4 ≡ frame_start g l → r < g.slots → Done (GetSlot rd r)
    slot_read rd r based less answered =
        let small = frame_small g laid l low in
        let address : address_at (h.registers 4) (4 * r) ≡ frame_start g l + 4 * r = omega (arith, based, less, small) in
        subst (λ a. AreAnswered (g.at l) g.crew.block h.frame (Reads a Four answer ∷ []) → Quiet g mask l pc answer (effect.Load rd a Four false) h (set rd (h.frame r % 2 ^ 32) h))
        (sym address) (own_load rd (frame_start g l + 4 * r) r (laid.own_word l r low less) (frame_aligned g l r) (laid.own_in l r low less)) answered

    pub slot_written : (rs r : ℕ) → h.registers 4 ≡ frame_start g l → r < g.slots
        → Quiet g mask l pc answer (effect_at (instr_of (PutSlot rs r)) pc h.registers) h (does (around_of g.crew l) (PutSlot rs r) h)
    slot_written rs r based less =
        let small = frame_small g laid l low in
        let address : address_at (h.registers 4) (4 * r) ≡ frame_start g l + 4 * r = omega (arith, based, less, small) in
        subst (λ a. Quiet g mask l pc answer (effect.Store a Four (value_in h.registers rs)) h (held h.registers (put_at r (value_in h.registers rs) h.frame)))
        (sym address) (own_store (frame_start g l + 4 * r) r (value_in h.registers rs) (laid.own_word l r low less) (frame_aligned g l r) (laid.own_in l r low less))

    block_read : (rd k : ℕ) → h.registers 3 ≡ block_start → k < 64 → Done (GetBlock rd k)
    block_read rd k based less answered =
        let address : address_at (h.registers 3) (4 * k) ≡ block_start + 4 * k = omega (arith, based, less) in
        subst (λ a. AreAnswered (g.at l) g.crew.block h.frame (Reads a Four answer ∷ []) → Quiet g mask l pc answer (effect.Load rd a Four false) h (set rd (g.crew.block k % 2 ^ 32) h))
        (sym address) (block_load rd (block_start + 4 * k) k (laid.block_word l k low less) (omega arith) (laid.block_in k less)) answered

    pub plain_quiet : (w : Plain) → Reaches g.slots (frame_start g l) h.registers w → Done w
    plain_quiet (GetSlot rd r) reaches = slot_read rd r reaches.0 reaches.1
    plain_quiet (PutSlot rs r) reaches = λ answered. slot_written rs r reaches.0 reaches.1
    plain_quiet (GetBlock rd k) reaches = block_read rd k reaches.0 reaches.1
    plain_quiet (High rd n) reaches = λ answered. write_quiet rd (n * 2 ^ 12 % 2 ^ 32)
    plain_quiet (AddTo rd rs n) reaches = λ answered. write_quiet rd (alu_value_of alu.Add (value_in h.registers rs) n)
    plain_quiet (ShiftLeft rd rs n) reaches = λ answered. write_quiet rd (alu_value_of alu.Sll (value_in h.registers rs) n)
    plain_quiet (Calculate op rd a b) reaches = λ answered. alu_quiet op rd a b
    plain_quiet (GetLane rd) reaches = λ answered. csr_quiet rd 0xcc0 l refl
    plain_quiet (GetWarp rd) reaches = λ answered. csr_quiet rd 0xcc1 g.crew.ids.warp refl

-- ---- each lane does them by itself

module _ (has : Fields) (ids : Ids) (answers : ℕ → ℕ) (w : WarpState) where
  alu_lanes : (op : Alu) (rd a b : ℕ) → instr_step has ids answers w (alu_instr op rd a b) ≡ lanes_step has ids (alu_instr op rd a b) answers w
  alu_lanes alu.Add rd a b = refl
  alu_lanes alu.Sub rd a b = refl
  alu_lanes alu.Sll rd a b = refl
  alu_lanes alu.Slt rd a b = refl
  alu_lanes alu.Sltu rd a b = refl
  alu_lanes alu.Xor rd a b = refl
  alu_lanes alu.Srl rd a b = refl
  alu_lanes alu.Sra rd a b = refl
  alu_lanes alu.Or rd a b = refl
  alu_lanes alu.And rd a b = refl
  alu_lanes alu.Mul rd a b = refl
  alu_lanes alu.Mulh rd a b = refl
  alu_lanes alu.Mulhsu rd a b = refl
  alu_lanes alu.Mulhu rd a b = refl
  alu_lanes alu.Div rd a b = refl
  alu_lanes alu.Divu rd a b = refl
  alu_lanes alu.Rem rd a b = refl
  alu_lanes alu.Remu rd a b = refl

  pub plain_lanes : (p : Plain) → instr_step has ids answers w (instr_of p) ≡ lanes_step has ids (instr_of p) answers w
  plain_lanes (GetSlot rd r) = refl
  plain_lanes (PutSlot rs r) = refl
  plain_lanes (GetBlock rd k) = refl
  plain_lanes (High rd n) = refl
  plain_lanes (AddTo rd rs n) = refl
  plain_lanes (ShiftLeft rd rs n) = refl
  plain_lanes (Calculate op rd a b) = alu_lanes op rd a b
  plain_lanes (GetLane rd) = refl
  plain_lanes (GetWarp rd) = refl
