-- The arrays that a kernel of a file declares stand behind those of its `__local` parameters.
use Rattle.std.proofs.Common.{◌≡◌, ℕ, zero, suc, ◌+◌, ◌<◌, ◌≤◌, List, [], ◌∷◌, ◌++◌, length, Option, None, Some, refl, sym, ap, ◌∙◌, subst, arith}
use Rattle.std.proofs.lemmas.List.{get_or-append-add}
use Rattle.std.proofs.lemmas.List.Sums.{count_by-le-length}
use Rattle.std.specs.Prelude.{count_by, map, slice_get, slice_index}
use Rattle.ocl_ast.specs.declared.units.Param.{Param}
use Rattle.ocl_program.specs.declared.exprs.ArrayRef.TheVariants.{Parameter, Declared}
use Rattle.ocl_program.specs.declared.functions.LocalArray.{LocalArray}
use Rattle.ocl_program.specs.Measures.{cut}
use Rattle.item_settings.specs.Settings.{declared_array, is_local_param}
use Rattle.program_laws.proofs.Limits.{kernel_arrays_few, params_few}
use Rattle.program_launches.specs.Files.{declared_bytes}
use Rattle.program_launches.specs.Launches.{EndsWithin}
use Rattle.program_launches.specs.Laws.{DeclaredAreThere}

some_same : (x y : LocalArray) → Some x ≡ Some y → x ≡ y
some_same x y h = cc

bytes_at : (arrays : List LocalArray) (k : ℕ) (a : LocalArray) → slice_get arrays k ≡ Some a → slice_index (map declared_bytes arrays) k ≡ declared_bytes a
bytes_at [] k a e = absurd (cc)
bytes_at (x ∷ xs) zero a e = ap declared_bytes (some_same x a e)
bytes_at (x ∷ xs) (suc k) a e = bytes_at xs k a e

stands_below : (arrays : List LocalArray) (k : ℕ) (a : LocalArray) → slice_get arrays k ≡ Some a → k < length arrays
stands_below [] k a e = absurd (cc)
stands_below (x ∷ xs) zero a e = omega arith
stands_below (x ∷ xs) (suc k) a e = let below : k < length xs = stands_below xs k a e in omega arith

small_uncut : (n : ℕ) → n ≤ 32 → cut n ≡ n
small_uncut n h = omega arith

behind_at : (passed : List ℕ) (arrays : List LocalArray) (k n : ℕ) (a : LocalArray) → slice_get arrays k ≡ Some a → n ≡ length passed + k
    → slice_index (passed ++ map declared_bytes arrays) n ≡ declared_bytes a
behind_at passed arrays k n a e same =
    ap (slice_index (passed ++ map declared_bytes arrays)) same ∙ get_or-append-add passed (map declared_bytes arrays) k 0 ∙ bytes_at arrays k a e

declared_inside : (params : List Param) (arrays : List LocalArray) (buffers passed : List ℕ) (k : ℕ) (array : Option LocalArray) → length params ≤ 16 → length arrays ≤ 16
    → length passed ≡ count_by is_local_param params → slice_get arrays k ≡ array
    → EndsWithin buffers (passed ++ map declared_bytes arrays) (declared_array params k array)
declared_inside params arrays buffers passed k None few few' same e = omega arith
declared_inside params arrays buffers passed k (Some a) few few' same e =
    let below : k < length arrays = stands_below arrays k a e in
    let less : count_by is_local_param params ≤ length params = count_by-le-length is_local_param params in
    let number : cut (count_by is_local_param params + k) ≡ length passed + k =
    small_uncut (count_by is_local_param params + k) (omega arith) ∙ ap (λ n. n + k) (sym same) in
    let there : slice_index (passed ++ map declared_bytes arrays) (cut (count_by is_local_param params + k)) ≡ declared_bytes a =
    behind_at passed arrays k (cut (count_by is_local_param params + k)) a e number in
    subst (λ (n : ℕ). declared_bytes a ≤ n) (sym there) (omega arith)

pub declared_are_there : DeclaredAreThere
declared_are_there launched number is at kernel buffers passed same passes (Parameter k) = passes k
declared_are_there launched number is at kernel buffers passed same passes (Declared k) =
    declared_inside launched.kernel.params launched.kernel.arrays buffers passed k (slice_get launched.kernel.arrays k)
    (params_few launched.program is number launched.kernel at) (kernel_arrays_few launched.program is number launched.kernel at kernel) same refl
