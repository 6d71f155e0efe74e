-- What a lane makes by itself, it makes among the others.
use Rattle.std.proofs.Common.{◌≡◌, ◌≢◌, ℕ, ◌+◌, ◌-◌, ◌*◌, ◌%◌, ◌^◌, ◌<◌, ◌≤◌, inl, inr, eqb, leb, ◌&&◌, List, length, get_or, set, Option, Some, None, Result, Ok, Err, MatchResult, refl, ap, sym, ◌∙◌, subst, arith}
use Rattle.std.specs.Result.{IsOk}
use Rattle.std.proofs.lemmas.Bool.{cases_eq, cond-true, cond-false, eq-eqb, ne_eqb, le-leb, and_from}
use Rattle.std.proofs.lemmas.List.{get_or-set_same, get_or-set_other}
use Rattle.vx_base.specs.Bytes.{field_of, with_field}
use Rattle.vx_base.specs.declared.types.Size.TheVariants.{One, Two, Four}
use Rattle.vx_base.proofs.FieldLaws.{field_of-with_field, field_of-with_field_apart}
use Rattle.item_acts.specs.Launches.{put_at}
use Rattle.vx_isa.specs.declared.instr.Instr.{Instr}
use Rattle.vx_isa.specs.declared.instr.LaneEffect.{LaneEffect}
use Rattle.vx_isa.specs.declared.instr.LaneEffect.TheVariants.{Write, Load, Store, Branch, Jump, Csr, Break, Warp, Nothing}
use Rattle.vx_isa.specs.Effects.{effect_of}
use Rattle.vx_isa.specs.Operands.{rs1_of, rs2_of}
use Rattle.first_kernels.specs.declared.warp.Lane.{Lane}
use Rattle.first_kernels.specs.declared.warp.WarpFault.{WarpFault}
use Rattle.first_kernels.specs.FirstMemory.{stride, element_at}
use Rattle.first_kernels.specs.FirstLane.{Alone, memory_start, Sets, Makes}
use Rattle.first_kernels.specs.FirstWarp.{Held, held, place_in, set_register, with_register, loaded, stored, with_memory, carried, StandsAs, OthersKeep, StepAmongOthers}
use Rattle.first_kernels.proofs.FirstElements.{stride-enough, element_inside, elements_apart}

-- what a function is at a place that is put, and at any other
pub put_at-same : (i v : ℕ) (f : ℕ → ℕ) (j : ℕ) → j ≡ i → put_at i v f j ≡ v
put_at-same i v f j same = cond-true (eqb j i) v (f j) (eq-eqb j i same)

pub put_at-other : (i v : ℕ) (f : ℕ → ℕ) (j : ℕ) → j ≢ i → put_at i v f j ≡ f j
put_at-other i v f j other = cond-false (eqb j i) v (f j) (ne_eqb j i other)

-- a register other than x0 takes what is put into it
value_put : (rd v : ℕ) (registers : List ℕ) (f : ℕ → ℕ) → 0 < rd → rd < length registers →
    ((r : ℕ) → get_or registers r 0 ≡ f r) → (r : ℕ) → get_or (set_register rd v registers) r 0 ≡ put_at rd v f r
value_put rd v registers f above below values r =
    let stays : set_register rd v registers ≡ set registers rd v = cond-false (eqb rd 0) registers (set registers rd v) (ne_eqb rd 0 (λ e. omega arith)) in
    elim (cases_eq r rd) [
      | inl same ↦
          ap (λ (rs : List ℕ). get_or rs r 0) stays
          ∙ ap (λ (k : ℕ). get_or (set registers rd v) k 0) same
          ∙ get_or-set_same registers rd v 0 below
          ∙ sym (put_at-same rd v f r same)
      | inr other ↦
          ap (λ (rs : List ℕ). get_or rs r 0) stays
          ∙ get_or-set_other registers rd r v 0 other
          ∙ values r
          ∙ sym (put_at-other rd v f r other)
    ]

-- some bytes inside memory are found at their address
place_found : (size address at bytes : ℕ) → address ≡ memory_start + at → at + bytes ≤ size → place_in size address bytes ≡ Some at
place_found size address at bytes place inside =
    let back : address - memory_start ≡ at = omega arith in
    cond-true (leb memory_start address && leb (address - memory_start + bytes) size) (Some (address - memory_start)) None
    (and_from (leb memory_start address) (leb (address - memory_start + bytes) size) (le-leb memory_start address (omega arith)) (le-leb (address - memory_start + bytes) size (omega arith)))
    ∙ ap Some back

-- what a lane comes to by an effect, among the others
pub record Comes (items buffers lane : ℕ) (effect : LaneEffect) (before : Held) (t : Alone) : Type 0 where
  pub after : Held
  pub carried_to : carried lane effect before ≡ Ok after
  pub stands : StandsAs items buffers lane after.registers after.memory t
  pub others : OthersKeep items buffers lane before.memory after.memory

module _ (items buffers lane : ℕ) (below : lane < items) where
  -- a register is set
  set_stands : (rd v w : ℕ) (before : Held) (s t : Alone) → length before.registers ≡ 32 →
      StandsAs items buffers lane before.registers before.memory s → v ≡ w → Sets rd w s t →
      StandsAs items buffers lane (set_register rd v before.registers) before.memory t
  set_stands rd v w before s t registers stands same sets =
      rw (sets.then, same) (record {
        values = value_put rd w before.registers s.registers sets.above_zero (let e = sets.is_register in omega arith) stands.values;
        elements = stands.elements;
      })

  -- the lane's element lies inside memory
  own_inside : (memory : List ℕ) (buffer : ℕ) → length memory ≡ buffers * stride items → buffer < buffers →
      buffer * stride items + 4 * lane + 4 ≤ length memory
  own_inside memory buffer whole is_one =
      let inside = element_inside (stride items) items lane buffer buffers (stride-enough items) below is_one in
      rw whole inside

  -- a store to the lane's own element changes that element of the lane's
  store_stands : (registers memory : List ℕ) (buffer v : ℕ) (s : Alone) → length memory ≡ buffers * stride items → buffer < buffers →
      StandsAs items buffers lane registers memory s →
      StandsAs items buffers lane registers (with_field memory (buffer * stride items + 4 * lane) 4 v) (record { registers = s.registers; words = put_at buffer (v % 2 ^ 32) s.words })
  store_stands registers memory buffer v s whole is_one stands = record {
    values = stands.values;
    elements = λ b is_buffer.
        elim (cases_eq b buffer) [
          | inl same ↦
              ap (λ (k : ℕ). element_at (with_field memory (buffer * stride items + 4 * lane) 4 v) items lane k) same
              ∙ field_of-with_field memory (buffer * stride items + 4 * lane) 4 v (own_inside memory buffer whole is_one)
              ∙ sym (put_at-same buffer (v % 2 ^ 32) s.words b same)
          | inr other ↦
              field_of-with_field_apart memory (buffer * stride items + 4 * lane) 4 v (own_inside memory buffer whole is_one)
              (b * stride items + 4 * lane) 4 (elements_apart (stride items) items lane lane buffer b (stride-enough items) below below (λ _ e. other (sym e)))
              ∙ stands.elements b is_buffer
              ∙ sym (put_at-other buffer (v % 2 ^ 32) s.words b other)
        ];
  }

  -- and no element of another lane
  store_others : (memory : List ℕ) (buffer v : ℕ) → length memory ≡ buffers * stride items → buffer < buffers →
      OthersKeep items buffers lane memory (with_field memory (buffer * stride items + 4 * lane) 4 v)
  store_others memory buffer v whole is_one other b differs below' is_buffer =
      field_of-with_field_apart memory (buffer * stride items + 4 * lane) 4 v (own_inside memory buffer whole is_one)
      (b * stride items + 4 * other) 4
      (elements_apart (stride items) items lane other buffer b (stride-enough items) below below' (λ e _. differs (sym e)))

  pub comes : (effect : LaneEffect) (before : Held) (s t : Alone) → length before.registers ≡ 32 →
      length before.memory ≡ buffers * stride items → StandsAs items buffers lane before.registers before.memory s →
      Makes items buffers lane effect s t → Comes items buffers lane effect before t
  comes (Write rd value) before s t registers whole stands makes = record {
    after = with_register rd value before;
    carried_to = refl;
    stands = set_stands rd value value before s t registers stands refl makes;
    others = λ _ _ _ _ _. refl;
  }
  comes (Load rd address Four signed) before s t registers whole stands (own, sets) =
      let at : ℕ = own.buffer * stride items + 4 * lane in
      let found : place_in (length before.memory) address 4 ≡ Some at = place_found (length before.memory) address at 4 own.place (own_inside before.memory own.buffer whole own.is_one) in
      record {
        after = with_register rd (field_of before.memory at 4) before;
        carried_to = ap (loaded rd Four signed before) found;
        stands = set_stands rd (field_of before.memory at 4) (s.words own.buffer) before s t registers stands (stands.elements own.buffer own.is_one) sets;
        others = λ _ _ _ _ _. refl;
      }
  comes (Load rd address One signed) before s t registers whole stands makes = absurd makes
  comes (Load rd address Two signed) before s t registers whole stands makes = absurd makes
  comes (Store address Four value) before s t registers whole stands (own, after) =
      let at : ℕ = own.buffer * stride items + 4 * lane in
      let found : place_in (length before.memory) address 4 ≡ Some at = place_found (length before.memory) address at 4 own.place (own_inside before.memory own.buffer whole own.is_one) in
      record {
        after = record { registers = before.registers; memory = with_field before.memory at 4 value };
        carried_to = ap (λ (o : Option ℕ). with_memory before.registers (stored Four value before.memory o)) found;
        stands = rw after (store_stands before.registers before.memory own.buffer value s whole own.is_one stands);
        others = store_others before.memory own.buffer value whole own.is_one;
      }
  comes (Store address One value) before s t registers whole stands makes = absurd makes
  comes (Store address Two value) before s t registers whole stands makes = absurd makes
  comes (Csr rd csr) before s t registers whole stands (is_number, sets) = record {
    after = with_register rd lane before;
    carried_to = cond-true (eqb csr 0xcc0) (Ok (with_register rd lane before)) (Err _) (eq-eqb csr 0xcc0 is_number);
    stands = set_stands rd lane lane before s t registers stands refl sets;
    others = λ _ _ _ _ _. refl;
  }
  comes (Branch taken target) before s t registers whole stands makes = absurd makes
  comes (Jump rd link target) before s t registers whole stands makes = absurd makes
  comes Break before s t registers whole stands makes = absurd makes
  comes Warp before s t registers whole stands makes = absurd makes
  comes Nothing before s t registers whole stands makes = absurd makes

-- a result that tells what an effect leaves is Ok where it leaves something
told : (result : Result Unit WarpFault) (left : Result Held WarpFault) (after before : Held) →
    MatchResult result (λ _. left ≡ Ok after) (λ fault. left ≡ Err fault) → left ≡ Ok before → IsOk result × (before ≡ after)
told (Ok x) left after before tells is_ok = (refl, cc)
told (Err x) left after before tells is_ok = cc

-- one lane's step
pub among_others : (i : Instr) (pc number a b : ℕ) (did : LaneEffect) (lane lane' : Lane) (memory memory' : List ℕ) (result : Result Unit WarpFault) →
    a ≡ get_or lane.registers (rs1_of i) 0 → b ≡ get_or lane.registers (rs2_of i) 0 → did ≡ effect_of i pc a b → length lane.registers ≡ 32 →
    MatchResult result (λ _. carried number did (held lane memory) ≡ Ok (held lane' memory')) (λ fault. carried number did (held lane memory) ≡ Err fault) →
    StepAmongOthers i number lane memory result lane' memory'
among_others i pc number a b did lane lane' memory memory' result first second does registers tells items buffers s t below whole stands steps =
    let first' : s.registers (rs1_of i) ≡ a = sym (first ∙ stands.values (rs1_of i)) in
    let second' : s.registers (rs2_of i) ≡ b = sym (second ∙ stands.values (rs2_of i)) in
    let same : effect_of i pc (s.registers (rs1_of i)) (s.registers (rs2_of i)) ≡ did = ap (λ (x : ℕ). effect_of i pc x (s.registers (rs2_of i))) first' ∙ ap (λ (y : ℕ). effect_of i pc a y) second' ∙ sym does in
    let P : LaneEffect → Type 0 = λ e. Makes items buffers number e s t in
    let to : Comes items buffers number did (held lane memory) t = comes items buffers number below did (held lane memory) s t registers whole stands (subst P same (steps pc)) in
    let ends = told result (carried number did (held lane memory)) (held lane' memory') to.after tells to.carried_to in
    let Q : Held → Type 0 = λ h. StandsAs items buffers number h.registers h.memory t × OthersKeep items buffers number memory h.memory in
    let at_end : Q (held lane' memory') = subst Q ends.1 (to.stands, to.others) in
    (ends.0, at_end.0, at_end.1)
