-- What the items of a launch learn of it are words, where its sizes are.
use Rattle.std.proofs.Common.{ℕ, zero, suc, ◌+◌, ◌*◌, ◌/◌, ◌%◌, ◌<◌, ◌≤◌, ◌^◌, nat_lt, List, arith}
use Rattle.std.specs.Prelude.{slice_index}
use Rattle.std.proofs.Math.Nat.{div-le_self, mod-le}
use Rattle.std.proofs.lemmas.Bool.{cond_both}
use Rattle.std.proofs.lemmas.Nat.{mod_below}
use Rattle.item_acts.specs.declared.acts.Bound.{Bound}
use Rattle.item_acts.specs.declared.acts.Range.{Range}
use Rattle.ocl_program.specs.declared.exprs.Builtin.TheVariants as builtin
use Rattle.item_settings.specs.Settings.{size_in, group_size, groups_in, coordinate, group_number, local_number, group_id, local_id}
use Rattle.kir.specs.Machine.{code_setting}
use Rattle.kir.specs.Trees.{KirCode}
use Rattle.kir.specs.Numbered.{GivesWords}

size_word : (range : Range) (sizes : List ℕ) (d : ℕ) → ((k : ℕ) → slice_index sizes k < 2 ^ 32) → size_in range sizes d < 2 ^ 32
size_word range sizes d words = cond_both (nat_lt d range.dims) (slice_index sizes d) 1 (λ x. x < 2 ^ 32) (λ e. words d) (λ e. omega arith)

coordinate_word : (first second n d : ℕ) → n < 2 ^ 32 → coordinate first second n d < 2 ^ 32
coordinate_word first second n zero below = let h : n % first ≤ n = mod-le n first in omega arith
coordinate_word first second n (suc zero) below =
    let h : n / first ≤ n = div-le_self n first in
    let h' : n / first % second ≤ n / first = mod-le (n / first) second in
    omega arith
coordinate_word first second n (suc (suc zero)) below = let h : n / (first * second) ≤ n = div-le_self n (first * second) in omega arith
coordinate_word first second n (suc (suc (suc d))) below = omega arith

group_word : (range : Range) (item : ℕ) → item < 2 ^ 32 → group_number range item < 2 ^ 32
group_word range item below = let h : item / group_size range ≤ item = div-le_self item (group_size range) in omega arith

local_word : (range : Range) (item : ℕ) → item < 2 ^ 32 → local_number range item < 2 ^ 32
local_word range item below = let h : item % group_size range ≤ item = mod-le item (group_size range) in omega arith

groups_word : (range : Range) (d : ℕ) → ((k : ℕ) → slice_index range.global k < 2 ^ 32) → groups_in range d < 2 ^ 32
groups_word range d words =
    let h : size_in range range.global d < 2 ^ 32 = size_word range range.global d words in
    let h' : size_in range range.global d / size_in range range.local d ≤ size_in range range.global d = div-le_self (size_in range range.global d) (size_in range range.local d) in
    omega arith

pub gives_words : (code : KirCode) (range : Range) (bounds : List Bound) (item : ℕ) → range.dims < 2 ^ 32 → ((d : ℕ) → slice_index range.global d < 2 ^ 32)
    → ((d : ℕ) → slice_index range.local d < 2 ^ 32) → item < 2 ^ 32 → GivesWords (code_setting code range bounds item)
gives_words code range bounds item dims global local below builtin.WorkDim d = dims
gives_words code range bounds item dims global local below builtin.GlobalId d = mod_below (group_id range item d * size_in range range.local d + local_id range item d) (2 ^ 32)
    (omega arith)
gives_words code range bounds item dims global local below builtin.LocalId d = coordinate_word (size_in range range.local 0) (size_in range range.local 1)
    (local_number range item) d (local_word range item below)
gives_words code range bounds item dims global local below builtin.GroupId d = coordinate_word (groups_in range 0) (groups_in range 1) (group_number range item) d
    (group_word range item below)
gives_words code range bounds item dims global local below builtin.GlobalSize d = size_word range range.global d global
gives_words code range bounds item dims global local below builtin.LocalSize d = size_word range range.local d local
gives_words code range bounds item dims global local below builtin.NumGroups d = groups_word range d global
gives_words code range bounds item dims global local below builtin.GlobalOffset d = omega arith
gives_words code range bounds item dims global local below builtin.Min d = omega arith
gives_words code range bounds item dims global local below builtin.Max d = omega arith
gives_words code range bounds item dims global local below builtin.Clamp d = omega arith
gives_words code range bounds item dims global local below builtin.Abs d = omega arith
gives_words code range bounds item dims global local below builtin.MulHi d = omega arith
