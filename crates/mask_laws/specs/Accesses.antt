-- What the lanes of a warp access: words that the launch block has, and what their items load and store. Registers are not in memory here.
use Rattle.std.specs.Prelude.{◌≡◌, ℕ, ◌+◌, ◌<◌, Bool, true, List, [], ◌∷◌, drop}
use Rattle.item_acts.specs.declared.acts.Action.{Action}
use Rattle.item_acts.specs.declared.acts.Action.TheVariants.{Load, Store}
use Rattle.item_acts.specs.declared.acts.Bound.{Bound}
use Rattle.item_acts.specs.Machine.{Asks}
use Rattle.item_settings.specs.Settings.{Setting, elem_size, low_bytes}
use Rattle.kir.specs.Machine as kir
use Rattle.kir.specs.Machine.{kir_start, value}
use Rattle.kir.specs.Trees.{KirCode}
use Rattle.vx_isa.specs.Warps.{has_lane}
use Rattle.vx_layout.specs.Addresses.{block_words}
use Rattle.vcode.specs.Code.{VOp, Word, WordAt, Fetch, Write}
use Rattle.simt_lowering.specs.Bounds.{IsLimited}
use Rattle.simt_lowering.specs.Kept.{AsksAs}
use Rattle.simt_lowering.specs.Lowered.{kernel_code}
use Rattle.warp_code.specs.Warps.{Crew, VWarp, around_of}
use Rattle.warp_code.specs.Runs.{Runs, answers_in, numbers_in, alone}
use Rattle.mask_laws.specs.Honest.{IsHonestRun}
use Rattle.mask_laws.specs.Laws.{InStep}

-- What a lane with these registers accesses by an operation: a word of the launch block, or a place that its item loads from or stores to.
abbrev pub OpAccesses : Crew → ℕ → (Action → Type 0) → VOp → (ℕ → ℕ) → Type 0
OpAccesses k l item_asks (Word d n) rs = n < block_words
OpAccesses k l item_asks (WordAt d a n) rs = n + value rs a < block_words
OpAccesses k l item_asks (Fetch d elem a) rs = item_asks (Load (k.places l (value rs a)) (elem_size elem))
OpAccesses k l item_asks (Write elem a b) rs = item_asks (Store (k.places l (value rs a)) (elem_size elem) (low_bytes elem (value rs b)))
OpAccesses k l item_asks other rs = Unit {0}

-- The law: so it is of each active lane behind every run of a warp that is in step, for the item that the lane is laid out for.
abbrev pub AccessesAreNamed : Type 0
AccessesAreNamed = (marks : ℕ → Bool) (code : KirCode) (k : Crew) (is_first : Bool) → IsLimited code → (from : InStep marks code k is_first)
    → (run : List (ℕ → ℕ)) (w' : VWarp) → IsHonestRun marks code k from.w run → Runs k (kernel_code marks code) from.w run w'
    → (l : ℕ) → has_lane w'.mask l ≡ true → (op : VOp) (ops : List VOp) → drop w'.place (kernel_code marks code) ≡ op ∷ ops
    → (setting : Setting) (bounds : List Bound)
    → AsksAs code (kernel_code marks code) setting bounds (around_of k l) (alone (from.w.lanes l) (numbers_in k (kernel_code marks code) l from.w run []))
    → OpAccesses k l (Asks (kir.step setting) (kir_start code bounds) (answers_in k (kernel_code marks code) l from.w run)) op (w'.lanes l).registers
