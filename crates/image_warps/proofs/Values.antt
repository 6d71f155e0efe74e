-- A lane whose registers and frame stand for registers of the code still does behind words that bring operands, and has their values then.
use Rattle.std.proofs.Common.{◌≡◌, ℕ, ◌^◌, ◌<◌, Bool, true, false, nat_eq, nat_lt, if◌then◌else◌, [], ap, sym, subst, ◌∙◌, refl}
use Rattle.std.specs.Prelude.{◌&&◌}
use Rattle.vx_base.specs.declared.types.Alu.{Alu}
use Rattle.item_acts.specs.Launches.{put_at}
use Rattle.kir.specs.Machine.{value}
use Rattle.kir.specs.Numbered.{IsBelow}
use Rattle.kir.specs.Trees.{Operand, VariableOf, NumberOf}
use Rattle.vx_isa.specs.Warps.{value_in, with_register}
use Rattle.mask_laws.specs.Clean.{IsWritten}
use Rattle.warp_code.specs.Warps.{around_of}
use Rattle.reg_alloc.specs.Plain.{Held, PutSlot, does, left, made, set}
use Rattle.reg_alloc.specs.Blocks.{register_of}
use Rattle.reg_alloc.proofs.Bringing.{brought, frame_kept, has_value, operand_value, others_kept}
use Rattle.reg_alloc.proofs.Computing.{right_others}
use Rattle.reg_alloc.proofs.ComputingAlong.{both_brought, both_frame}
use Rattle.image_warps.specs.Lanes.{Ground, Known, Same}
use Rattle.image_warps.specs.Warps.{LaneStands, Along, Storing}

-- the lane is as it was, but for registers of the machine that are no base
pub record Kept (h h' : Held) : Type 0 where
  pub frame : h'.frame ≡ h.frame
  pub third : h'.registers 3 ≡ h.registers 3
  pub fourth : h'.registers 4 ≡ h.registers 4

pub kept_both : (h h' h'' : Held) → Kept h h' → Kept h' h'' → Kept h h''
kept_both h h' h'' k k' = record { frame = k'.frame ∙ k.frame; third = k'.third ∙ k.third; fourth = k'.fourth ∙ k.fourth }

pub brought_kept : (rd : ℕ) (a : Operand) (h : Held) → nat_eq rd rd ≡ true → nat_eq rd 0 ≡ false → (low : (nat_lt 0 rd && nat_lt rd 32) ≡ true) → nat_eq 3 rd ≡ false → nat_eq 4 rd ≡ false → Kept h (brought rd a h)
brought_kept rd a h same some low third fourth = record {
  frame = frame_kept rd a h;
  third = others_kept rd same some low a h 3 third;
  fourth = others_kept rd same some low a h 4 fourth;
}

pub set_kept : (rd v : ℕ) (h : Held) → nat_eq 3 rd ≡ false → nat_eq 4 rd ≡ false → Kept h (set rd v h)
set_kept rd v h third fourth = record { frame = refl; third = rw third refl; fourth = rw fourth refl }

-- an operand's value is a word if those of a frame are
pub frame_word : (frame : ℕ → ℕ) (slots : ℕ) (a : Operand) → ((r : ℕ) → frame r < 2 ^ 32) → IsBelow slots a → value frame a < 2 ^ 32
frame_word frame slots (VariableOf r) words below = words r
frame_word frame slots (NumberOf n) words below = below

module _ (g : Ground) (l : ℕ) (k : Known) (rs : ℕ → ℕ) where
  pub same_kept : (h h' : Held) → Same g l k rs h → Kept h h' → Same g l k rs h'
  same_kept h h' same kept = record {
    kept = λ r less written. ap (λ (f : ℕ → ℕ). f r) kept.frame ∙ same.kept r less written;
    words = λ r. subst (λ n. n < 2 ^ 32) (sym (ap (λ (f : ℕ → ℕ). f r) kept.frame)) (same.words r);
    block = λ based. kept.third ∙ same.block based;
    frame = λ based. kept.fourth ∙ same.frame based;
  }

  -- an operand of the frame is that of the registers of the code
  pub value_is : (a : Operand) (h : Held) → Same g l k rs h → IsWritten k.written a → IsBelow g.slots a → value h.frame a ≡ value rs a
  value_is (VariableOf r) h same written less = same.kept r less written
  value_is (NumberOf n) h same written less = refl

  pub value_word : (a : Operand) (h : Held) → Same g l k rs h → IsWritten k.written a → IsBelow g.slots a → value rs a < 2 ^ 32
  value_word (VariableOf r) h same written less = subst (λ n. n < 2 ^ 32) (same.kept r less written) (same.words r)
  value_word (NumberOf n) h same written less = less

  -- ---- what is written

  -- one register more, and its word of the frame
  pub same_put : (d v : ℕ) (h h' : Held) → Same g l k rs h → v < 2 ^ 32 → h'.frame ≡ put_at d v h.frame → h'.registers 3 ≡ h.registers 3 → h'.registers 4 ≡ h.registers 4
      → Same g l (record { written = put_at d true k.written; based = k.based }) (put_at d v rs) h'
  same_put d v h h' same less frame third fourth = record {
    kept = λ r below written. ap (λ (f : ℕ → ℕ). f r) frame ∙ at r (nat_eq r d) below written;
    words = λ r. subst (λ n. n < 2 ^ 32) (sym (ap (λ (f : ℕ → ℕ). f r) frame)) (word r (nat_eq r d));
    block = λ based. third ∙ same.block based;
    frame = λ based. fourth ∙ same.frame based;
  } where
    at : (r : ℕ) (b : Bool) → r < g.slots → (if b then true else k.written r) ≡ true → (if b then v else h.frame r) ≡ (if b then v else rs r)
    at r true below written = refl
    at r false below written = same.kept r below written

    word : (r : ℕ) (b : Bool) → (if b then v else h.frame r) < 2 ^ 32
    word r true = less
    word r false = same.words r

  -- a value that is stored by the next word
  pub stored_stands : (d v : ℕ) (h : Held) → Same g l k rs h → k.based ≡ true → v < 2 ^ 32
      → LaneStands g (Storing d) l (record { written = put_at d true k.written; based = k.based }) (put_at d v rs) (set made v h)
  stored_stands d v h same based less =
      let value : value_in (with_register made v h.registers) made ≡ v = has_value made refl refl refl v h.registers in
      (based, same_put d v h (does (around_of g.crew l) (PutSlot made d) (set made v h)) same less (ap (λ x. put_at d x h.frame) value) refl refl)

  -- the same where its word is stored
  pub put_stands : (d rx v : ℕ) (h : Held) → Same g l k rs h → value_in h.registers rx ≡ v → v < 2 ^ 32
      → LaneStands g (Along []) l (record { written = put_at d true k.written; based = k.based }) (put_at d v rs) (does (around_of g.crew l) (PutSlot rx d) h)
  put_stands d rx v h same value less =
      let h' = does (around_of g.crew l) (PutSlot rx d) h in
      (h', (same_put d v h h' same less (ap (λ x. put_at d x h.frame) value) refl refl, refl))

  -- ---- operands

  module _ (from : Held) (same : Same g l k rs from) where
    left_kept : (a : Operand) → Kept from (brought left a from)
    left_kept a = brought_kept left a from refl refl refl refl refl

    pub left_value : (a : Operand) → IsWritten k.written a → IsBelow g.slots a → value_in (brought left a from).registers (register_of left a) ≡ value rs a
    left_value a written below = operand_value left refl refl refl a from (frame_word from.frame g.slots a same.words below) ∙ value_is a from same written below

    pub left_same : (a : Operand) → Same g l k rs (brought left a from)
    left_same a = same_kept from (brought left a from) same (left_kept a)

    pub both_kept : (op : Alu) (a b : Operand) → Kept from (both_brought op a b from)
    both_kept op a b = record {
      frame = both_frame op a b from;
      third = right_others op b (brought left a from) 3 refl ∙ others_kept left refl refl refl a from 3 refl;
      fourth = right_others op b (brought left a from) 4 refl ∙ others_kept left refl refl refl a from 4 refl;
    }
