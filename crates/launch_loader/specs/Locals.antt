-- The bytes of the `__local` arrays of a group.
use Rattle.std.specs.Prelude.{ℕ, zero, suc, ◌+◌, ◌*◌, List, length, slice_get, slice_index, Option, None, Some}
use Rattle.vx_base.specs.Values.{elem_bytes}
use Rattle.vx_base.specs.declared.types.ParamKind.{ParamKind}
use Rattle.vx_base.specs.declared.types.ParamKind.TheVariants.{Pointer}
use Rattle.vx_base.specs.declared.types.Space.TheVariants as space
use Rattle.vx_layout.specs.Addresses.{in_words}
use Rattle.launch_plans.specs.declared.plans.Arg.{Arg}
use Rattle.launch_plans.specs.declared.plans.Arg.TheVariants.{Local}

-- the bytes of the array that is given for a parameter, and 0 where none is
abbrev pub given_bytes : ParamKind → Arg → ℕ
given_bytes (Pointer space.Local elem readonly) (Local count) = count * elem_bytes elem
given_bytes kind arg = 0

abbrev pub given_both : Option ParamKind → Option Arg → ℕ
given_both None given = 0
given_both (Some kind) None = 0
given_both (Some kind) (Some arg) = given_bytes kind arg

-- the same at a place
abbrev pub given_at : List ParamKind → List Arg → ℕ → ℕ
given_at kinds args k = given_both (slice_get kinds k) (slice_get args k)

-- the bytes of the first n of these arrays, each rounded up to whole words
abbrev pub words_below : (ℕ → ℕ) → ℕ → ℕ
words_below size zero = 0
words_below size (suc n) = words_below size n + in_words (size n)

-- those of the arrays that are given for parameters
abbrev pub given_words : List ParamKind → List Arg → ℕ
given_words kinds args = words_below (given_at kinds args) (length args)

-- those of the arrays that a kernel declares
abbrev pub declared_words : List ℕ → ℕ
declared_words sizes = words_below (slice_index sizes) (length sizes)
