-- A whole kernel.
use Rattle.std.proofs.Common.{◌≡◌, ℕ, suc, ◌+◌, ◌<◌, List, [], ◌∷◌, drop, Bool, refl, ap, sym, ◌∙◌, arith}
use Rattle.std.specs.Prelude.{if◌then◌else◌, slice_index}
use Rattle.item_acts.specs.declared.acts.Action.TheVariants.{End}
use Rattle.item_acts.specs.declared.acts.Bound.{Bound}
use Rattle.item_acts.specs.Machine.{Go, Stop}
use Rattle.item_settings.specs.Settings.{Setting, bound_values}
use Rattle.step_machine.specs.Sims.{BothStop}
use Rattle.step_machine.proofs.AlongLaws.{along_alike}
use Rattle.kir.specs.Loops.{loop_nesting}
use Rattle.kir.specs.Machine as kir
use Rattle.kir.specs.Machine.{kir_start, state}
use Rattle.kir.specs.Trees.{NumberOf, KirCode}
use Rattle.vcode.specs.Code.{Fresh, Tmc, Wspawn}
use Rattle.vcode.specs.Machine as vcode
use Rattle.vcode.specs.Machine.{Around, lane}
use Rattle.vcode.proofs.Steps.{step_at}
use Rattle.simt_lowering.specs.Kept.{CanLower, IsKept, IsLaidFor, KernelKept, known_of_kernel}
use Rattle.simt_lowering.specs.Lowered.{own, held, further, scalars_end, lowered, registers_for, body_start, kernel_code, ops_end}
use Rattle.simt_lowering.proofs.Bodies.{Fits, ops_go}
use Rattle.simt_lowering.proofs.LaneMasks.{none_stays}
use Rattle.simt_lowering.proofs.Openings.{passes_by, word_to, seen, lanes_go, zeroed_goes, scalars_go, ids_go}
use Rattle.simt_lowering.proofs.Sides.{Sides, Along, Starts}
use Rattle.simt_lowering.proofs.Stands.{ops_stand}

module _ (code : KirCode) (marks : ℕ → Bool) (setting : Setting) (bounds : List Bound) (at : Around) (can : CanLower code) (laid : IsLaidFor code marks setting bounds at) where
  abbrev sides : Sides
  sides = record { setting = setting; at = at; code = kernel_code marks code; known = known_of_kernel marks code }

  abbrev values : ℕ → ℕ
  values = slice_index (bound_values code.params bounds)

  abbrev registers : ℕ
  registers = registers_for code.variables (loop_nesting code.ops)

  fits : Fits sides
  fits = record { numbers = laid.numbers; arrays = laid.arrays }

  -- the end
  ends_alike : (n : ℕ) → drop (ops_end marks code.ops (body_start code.params registers)) (kernel_code marks code) ≡ Tmc (NumberOf 0) ∷ []
      → Starts sides n [] [] [] (ops_end marks code.ops (body_start code.params registers))
  ends_alike n e f vs rs ns sees keeps passes =
      BothStop n (state [] vs []) (lane (ops_end marks code.ops (body_start code.params registers)) rs [] ns) End refl
      (step_at at (kernel_code marks code) _ (ops_end marks code.ops (body_start code.params registers)) rs [] ns e
      ∙ ap (λ b. if b then Go (lane (suc (ops_end marks code.ops (body_start code.params registers))) rs [] ns) else Stop End) (none_stays at.number))

  -- the body
  body_goes : (n : ℕ) → drop (body_start code.params registers) (kernel_code marks code) ≡ lowered (known_of_kernel marks code) 0 code.ops (body_start code.params registers) (Tmc (NumberOf 0) ∷ [])
      → Starts sides n [] (kir.ops_tasks code.ops []) [] (body_start code.params registers)
  body_goes n e =
      ops_go sides fits code.ops n 0 (body_start code.params registers) (Tmc (NumberOf 0) ∷ []) [] [] [] can.no_jumps can.checked can.below can.typed e
      (ends_alike n (ops_stand (kernel_code marks code) (known_of_kernel marks code) 0 code.ops (body_start code.params registers) (Tmc (NumberOf 0) ∷ []) e))

  below_registers : (i : ℕ) → i < code.variables → i < 0 + registers
  below_registers i low = omega arith

  none_before : (i : ℕ) → i ≡ 0 + i
  none_before i = omega arith

  -- from the place behind the operation that leaves the lanes that have an item
  from_item : (n : ℕ) (rs : ℕ → ℕ) (ns : List ℕ) → Along sides n (kir_start code bounds) (lane 14 rs [] ns)
  from_item n rs ns =
      passes_by sides n (kir_start code bounds) [] ns 14 Fresh _ rs refl refl refl
      (zeroed_goes sides n (kir_start code bounds) registers 15 0 _ rs [] ns refl (λ j low. absurd (omega arith)) (λ rs1 e1 none.
      scalars_go sides n (kir_start code bounds) code.params bounds 0 0 (further registers 15) code.variables _ values rs1 [] ns laid.scalars e1
      (record { before = λ j low. absurd (omega arith); still = λ j more low. none j (below_registers j low); values_are = λ i. ap values (sym (none_before i)) }) (λ rs2 e2 same.
      ids_go sides n (kir_start code bounds) (scalars_end code.params (further registers 15)) _ (λ i. rs2 (own (known_of_kernel marks code) i)) values rs2 [] ns laid.item e2
      (record { variable = same; register = λ i. refl }) (λ f rs3 e3 sees keeps. body_goes n e3 f values rs3 ns sees keeps tt))))

  from_spawn : (n : ℕ) (rs : ℕ → ℕ) (ns : List ℕ) → Along sides n (kir_start code bounds) (lane 3 rs [] ns)
  from_spawn n rs ns =
      passes_by sides n (kir_start code bounds) [] ns 3 Fresh _ rs refl refl refl
      (lanes_go sides n (kir_start code bounds) 4 _ rs [] ns laid.item refl (λ rs'. from_item n rs' ns))

  from_start : (n : ℕ) (rs : ℕ → ℕ) (ns : List ℕ) → Along sides n (kir_start code bounds) (lane 0 rs [] ns)
  from_start n rs ns =
      passes_by sides n (kir_start code bounds) [] ns 0 Fresh _ rs refl refl refl
      (word_to sides n (kir_start code bounds) [] ns 1 0 0 _ _ rs rs refl (seen (known_of_kernel marks code) rs) (λ rs' sees.
      passes_by sides n (kir_start code bounds) [] ns 2 (Wspawn (held (known_of_kernel marks code) 0) 3) _ rs' refl refl refl (from_spawn n rs' ns)))

  kept : IsKept code (kernel_code marks code) setting bounds at
  kept = record {
    from_start = λ ns. along_alike (kir.step setting) (vcode.step at (kernel_code marks code)) kir.cost (vcode.cost (kernel_code marks code)) (kir_start code bounds) _ (λ n. from_start n (λ r. 0) ns);
    from_spawn = λ rs ns. along_alike (kir.step setting) (vcode.step at (kernel_code marks code)) kir.cost (vcode.cost (kernel_code marks code)) (kir_start code bounds) _ (λ n. from_spawn n rs ns);
    from_item = λ rs ns. along_alike (kir.step setting) (vcode.step at (kernel_code marks code)) kir.cost (vcode.cost (kernel_code marks code)) (kir_start code bounds) _ (λ n. from_item n rs ns);
  }

pub kernel_kept : KernelKept
kernel_kept code marks setting bounds at can laid = kept code marks setting bounds at can laid
