use Rattle.std.specs.Prelude.{◌≡◌, ℕ, ◌+◌, ◌-◌, ◌*◌, ◌/◌, ◌%◌, ◌^◌, ◌<◌, ◌≤◌, List, [], ◌∷◌, ◌++◌, map, slice_index, All}
use Rattle.std.specs.List.{AllByRecursion}
use Rattle.vx_isa.specs.declared.instr.Instr.{Instr}
use Rattle.vx_isa.specs.declared.instr.Instr.TheVariants as instr
use Rattle.first_kernels.specs.declared.tree.Operator.{Operator}
use Rattle.first_kernels.specs.declared.tree.Operator.TheVariants.{Add, Subtract, Multiply}
use Rattle.first_kernels.specs.FirstTree.{Tree, Literal, OwnId, OwnElement, Grouped, Applied, Assigns, Form, height}
use Rattle.first_kernels.specs.First.{array_of}
use Rattle.first_kernels.specs.FirstValues.{words_after}
use Rattle.first_kernels.specs.FirstMemory.{stride}
use Rattle.first_kernels.specs.FirstLane.{Alone, Ends}

-- The registers of compiled code: the item's number, the address of its own element of the first buffer, and the value at
-- each depth of a sum.
abbrev pub number_register : ℕ
number_register = 5

abbrev pub address_register : ℕ
address_register = 6

abbrev pub distance_register : ℕ
distance_register = 7

abbrev pub value_register : ℕ → ℕ
value_register depth = 8 + depth

-- A number below 2 ^ 31 as `lui` and `addi` make it: the multiple of 2 ^ 12 nearest to it, and what is missing, as a word.
abbrev pub high_part : ℕ → ℕ
high_part n = (n + 2 ^ 11) / 2 ^ 12

abbrev pub low_part : ℕ → ℕ
low_part n = (n + 2 ^ 32 - high_part n * 2 ^ 12) % 2 ^ 32

-- the operator on two registers that follow each other, with its value in the first
abbrev pub operator_code : Operator → ℕ → Instr
operator_code Add depth = instr.Add (value_register depth) (value_register depth) (value_register (depth + 1))
operator_code Subtract depth = instr.Sub (value_register depth) (value_register depth) (value_register (depth + 1))
operator_code Multiply depth = instr.Mul (value_register depth) (value_register depth) (value_register (depth + 1))

-- A sum, with its value in the register of this depth. Each parameter's buffer begins at its place.
abbrev pub sum_code : List ℕ → ℕ → Tree → List Instr
sum_code places depth (Literal n) =
    instr.Lui (value_register depth) (high_part n) ∷ instr.Addi (value_register depth) (value_register depth) (low_part n) ∷ []
sum_code places depth OwnId = instr.Addi (value_register depth) number_register 0 ∷ []
sum_code places depth (OwnElement p) = instr.Lw (value_register depth) (slice_index places p) address_register ∷ []
sum_code places depth (Grouped t) = sum_code places depth t
sum_code places depth (Applied op l r) = sum_code places depth l ++ (sum_code places (depth + 1) r ++ operator_code op depth ∷ [])

abbrev pub assignment_code : List ℕ → Assigns → List Instr
assignment_code places a = sum_code places 0 a.value ++ instr.Sw (value_register 0) (slice_index places a.parameter) address_register ∷ []

abbrev pub body_code : List ℕ → List Assigns → List Instr
body_code places [] = []
body_code places (a ∷ more) = assignment_code places a ++ body_code places more

-- the item's number, and the address of its own element of the first buffer
abbrev pub opening_code : List Instr
opening_code =
    instr.Csrr number_register 0xcc0
    ∷ instr.Slli distance_register number_register 2
    ∷ instr.Lui address_register 0x40000
    ∷ instr.Add address_register address_register distance_register
    ∷ []

abbrev pub kernel_code : List ℕ → Form → List Instr
kernel_code places k = opening_code ++ (body_code places k.assignments ++ instr.Tmc 0 ∷ [])

-- where the buffer of each parameter begins
abbrev pub places_of : List ℕ → ℕ → List ℕ
places_of arguments items = map (λ buffer. buffer * stride items) arguments

-- no sum is higher than 16
abbrev pub AreLow : Form → Type 0
AreLow k = AllByRecursion (λ a. height a.value ≤ 16) k.assignments

-- a lane before its first instruction, with these words in its own elements
abbrev pub starts : (ℕ → ℕ) → Alone
starts words = record { registers = λ _. 0; words = words }

-- Each lane by itself comes to the end of the code, and leaves in its own elements what the kernel's assignments do.
abbrev pub IsCodeOf : Form → List ℕ → ℕ → List Instr → Type 0
IsCodeOf k arguments items code =
    (buffers lane : ℕ) (words : ℕ → ℕ) → buffers ≤ 16 → All (λ b. b < buffers) arguments → lane < items →
    ((b : ℕ) → words b < 2 ^ 32) →
    (end : Alone) × Ends items buffers lane code (starts words) end × (end.words ≡ words_after (array_of arguments) lane k.assignments words)
