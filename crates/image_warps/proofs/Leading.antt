-- Stores to arrays, branches and jumps: what the words by which they are made are to an active lane.
use Rattle.std.proofs.Common.{◌≡◌, ℕ, suc, ◌*◌, ◌%◌, ◌^◌, ◌<◌, Bool, true, false, nat_eq, if◌then◌else◌, [], None, Some, ap, sym, subst, ◌∙◌, arith, refl, eq-eqb}
use Rattle.std.specs.Prelude.{◌&&◌}
use Rattle.std.proofs.Math.Path.{fun_ext}
use Rattle.vx_base.specs.Bytes.{bytes_of}
use Rattle.vx_base.specs.declared.types.Alu.TheVariants as alu
use Rattle.vx_base.specs.declared.types.Elem.{Elem}
use Rattle.vx_base.specs.declared.types.Elem.TheVariants as elem
use Rattle.vx_base.specs.declared.types.Size.{Size}
use Rattle.vx_base.specs.declared.types.Size.TheVariants.{One, Two, Four}
use Rattle.item_acts.specs.declared.acts.Action.TheVariants.{Store}
use Rattle.item_acts.specs.Machine.{Ask}
use Rattle.item_settings.specs.Settings.{elem_size, low_bytes}
use Rattle.kir.specs.Machine.{value}
use Rattle.kir.specs.Numbered.{IsBelow}
use Rattle.kir.specs.Trees.{Operand}
use Rattle.vx_isa.specs.Effects.{address_at}
use Rattle.vx_isa.specs.Warps.{Registers, value_in, with_register}
use Rattle.vx_isa.specs.declared.instr.LaneEffect.{LaneEffect}
use Rattle.vx_isa.specs.declared.instr.LaneEffect.TheVariants as effect
use Rattle.vx_isa.specs.declared.warps.MachineTrap.TheVariants as trap
use Rattle.vcode.specs.Code.{Write}
use Rattle.vcode.specs.Machine.{Around, Lane, lane}
use Rattle.mask_laws.specs.Clean.{IsWritten}
use Rattle.warp_code.specs.Warps as code
use Rattle.warp_code.specs.Warps.{VLane, around_of}
use Rattle.reg_alloc.specs.Plain.{Held, do_all, left, right}
use Rattle.reg_alloc.specs.Blocks.{operand_before, register_of, right_before, store_word}
use Rattle.reg_alloc.proofs.Bringing.{brought, operand_brings}
use Rattle.reg_alloc.proofs.Computing.{right_brings}
use Rattle.reg_alloc.proofs.ComputingAlong.{both_brought, first_value, last_value}
use Rattle.image_warps.specs.Lanes.{Ground, Known, Same, stored}
use Rattle.image_warps.specs.Warps.{Along}
use Rattle.image_warps.specs.Premises.{IsThere}
use Rattle.image_warps.proofs.Quiet.{Goes, effect_at, field_fine}
use Rattle.image_warps.proofs.Values.{both_kept, frame_word, same_kept, value_is, value_word}
use Rattle.image_warps.proofs.Made.{Made}

zero_more : (a : ℕ) → a < 2 ^ 32 → address_at a 0 ≡ a
zero_more a less = omega (arith, less)

-- a write of x0 leaves the registers
no_link : (v : ℕ) (xs : Registers) → with_register 0 v xs ≡ xs
no_link v xs = fun_ext (λ r. by (nat_eq r 0) r) where
  by : (b : Bool) (r : ℕ) → (if b && false then v else xs r) ≡ xs r
  by true r = refl
  by false r = refl

module _ (g : Ground) (mask l pc answer : ℕ) (k : Known) (vs : ℕ → ℕ) (h : Held) (same : Same g l k vs h) where
  -- ---- stores

  array_store : (a : ℕ) (size : Size) (u x : ℕ) (next : ℕ → Lane) → IsThere g l a size → u % 2 ^ (8 * bytes_of size) ≡ x
      → Made g mask l pc answer 0 (address_at pc 4) (Along []) k vs (Ask (Store (g.crew.places l a) size x) next) (effect.Store a size u) h
  array_store a size u x next there shown = record {
    after = h;
    goes = record { chosen = refl; leads = refl; fault = field_fine g.has a size there.1 there.2; registers = refl; frame = ap (λ w. stored w size u h.frame) there.0 };
    asks = (a, (u, (there.0, shown, refl)));
    stands = (h, (same, refl));
  }

  -- ---- branches and jumps

  pub branch_goes : (taken : Bool) (to target : ℕ) → (if taken then to else address_at pc 4) ≡ target → target % 4 ≡ 0 → Goes g mask l pc answer (if taken then 1 else 0) target (effect.Branch taken to) h h
  branch_goes taken to target leads whole = record {
    chosen = refl;
    leads = leads;
    registers = refl;
    frame = refl;
    fault = rw (eq-eqb (if taken then 1 else 0) (if taken then 1 else 0) refl) (ap (λ n. if nat_eq (n % 4) 0 then None else Some trap.Misaligned) leads ∙ (rw whole refl));
  }

  pub jump_goes : (link target : ℕ) → target % 4 ≡ 0 → Goes g mask l pc answer target target (effect.Jump 0 link target) h h
  jump_goes link target whole = record {
    chosen = refl;
    leads = refl;
    registers = no_link link h.registers;
    frame = refl;
    fault = rw (eq-eqb target target refl) (rw whole refl);
  }

module _ (g : Ground) (mask l pc answer : ℕ) (k : Known) (v : VLane) (from : Held) (same : Same g l k v.registers from) where
  abbrev pub rs : ℕ → ℕ
  rs = v.registers

  abbrev pub at : Around
  at = around_of g.crew l

  abbrev pub WrittenBy : Elem → Operand → Operand → LaneEffect → Held → Type 0
  WrittenBy e a b f h = Made g mask l pc answer 0 (address_at pc 4) (Along []) k rs (code.does g.crew mask (Write e a b) l v) f h

  written_at : (e : Elem) (r q : ℕ) (a b : Operand) (h : Held) → Same g l k rs h → value_in h.registers r ≡ value rs a → value rs a < 2 ^ 32 → value_in h.registers q ≡ value rs b → IsThere g l (value rs a) (elem_size e)
      → WrittenBy e a b (effect_at (store_word e r q) pc h.registers) h
  written_at elem.Char r q a b h ok is less is' there =
      let address : address_at (value_in h.registers r) 0 ≡ value rs a = ap (λ x. address_at x 0) is ∙ zero_more (value rs a) less in
      subst (λ x. WrittenBy elem.Char a b (effect.Store x One (value_in h.registers q)) h) (sym address)
      (array_store g mask l pc answer k rs h ok (value rs a) One (value_in h.registers q) (low_bytes elem.Char (value rs b)) (λ answer. lane (suc v.place) rs v.turns []) there (ap (low_bytes elem.Char) is'))
  written_at elem.Uchar r q a b h ok is less is' there =
      let address : address_at (value_in h.registers r) 0 ≡ value rs a = ap (λ x. address_at x 0) is ∙ zero_more (value rs a) less in
      subst (λ x. WrittenBy elem.Uchar a b (effect.Store x One (value_in h.registers q)) h) (sym address)
      (array_store g mask l pc answer k rs h ok (value rs a) One (value_in h.registers q) (low_bytes elem.Uchar (value rs b)) (λ answer. lane (suc v.place) rs v.turns []) there (ap (low_bytes elem.Uchar) is'))
  written_at elem.Short r q a b h ok is less is' there =
      let address : address_at (value_in h.registers r) 0 ≡ value rs a = ap (λ x. address_at x 0) is ∙ zero_more (value rs a) less in
      subst (λ x. WrittenBy elem.Short a b (effect.Store x Two (value_in h.registers q)) h) (sym address)
      (array_store g mask l pc answer k rs h ok (value rs a) Two (value_in h.registers q) (low_bytes elem.Short (value rs b)) (λ answer. lane (suc v.place) rs v.turns []) there (ap (low_bytes elem.Short) is'))
  written_at elem.Ushort r q a b h ok is less is' there =
      let address : address_at (value_in h.registers r) 0 ≡ value rs a = ap (λ x. address_at x 0) is ∙ zero_more (value rs a) less in
      subst (λ x. WrittenBy elem.Ushort a b (effect.Store x Two (value_in h.registers q)) h) (sym address)
      (array_store g mask l pc answer k rs h ok (value rs a) Two (value_in h.registers q) (low_bytes elem.Ushort (value rs b)) (λ answer. lane (suc v.place) rs v.turns []) there (ap (low_bytes elem.Ushort) is'))
  written_at elem.Int r q a b h ok is less is' there =
      let address : address_at (value_in h.registers r) 0 ≡ value rs a = ap (λ x. address_at x 0) is ∙ zero_more (value rs a) less in
      subst (λ x. WrittenBy elem.Int a b (effect.Store x Four (value_in h.registers q)) h) (sym address)
      (array_store g mask l pc answer k rs h ok (value rs a) Four (value_in h.registers q) (low_bytes elem.Int (value rs b)) (λ answer. lane (suc v.place) rs v.turns []) there (ap (low_bytes elem.Int) is'))
  written_at elem.Uint r q a b h ok is less is' there =
      let address : address_at (value_in h.registers r) 0 ≡ value rs a = ap (λ x. address_at x 0) is ∙ zero_more (value rs a) less in
      subst (λ x. WrittenBy elem.Uint a b (effect.Store x Four (value_in h.registers q)) h) (sym address)
      (array_store g mask l pc answer k rs h ok (value rs a) Four (value_in h.registers q) (low_bytes elem.Uint (value rs b)) (λ answer. lane (suc v.place) rs v.turns []) there (ap (low_bytes elem.Uint) is'))

  pub write_made : (e : Elem) (a b : Operand) → IsBelow g.slots a → IsBelow g.slots b → IsWritten k.written a → IsWritten k.written b → IsThere g l (value rs a) (elem_size e)
      → WrittenBy e a b (effect_at (store_word e (register_of left a) (register_of right b)) pc (do_all at (operand_before left a (operand_before right b [])) from).registers) (do_all at (operand_before left a (operand_before right b [])) from)
  write_made e a b below below' written written' there =
      let h = both_brought alu.Add a b from in
      let ok = same_kept g l k rs from h same (both_kept g l k rs from same alu.Add a b) in
      let first : value_in h.registers (register_of left a) ≡ value rs a = first_value alu.Add a b from (frame_word from.frame g.slots a same.words below) ∙ value_is g l k rs a from same written below in
      let second : value_in h.registers (register_of right b) ≡ value rs b = last_value alu.Add a b from (frame_word from.frame g.slots b same.words below') ∙ value_is g l k rs b from same written' below' in
      subst (λ x. WrittenBy e a b (effect_at (store_word e (register_of left a) (register_of right b)) pc x.registers) x)
      (sym (operand_brings left refl refl refl at g.slots a (right_before alu.Add b []) from below ∙ right_brings at g.slots alu.Add b [] (brought left a from) below'))
      (written_at e (register_of left a) (register_of right b) a b h ok first (value_word g l k rs a from same written below) second there)
