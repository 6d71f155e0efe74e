use Rattle.std.specs.Prelude.{◌≡◌, ℕ, ◌+◌, ◌*◌, ◌/◌, ◌%◌, ◌^◌, ◌<◌, ◌≤◌, nat_lt, if◌then◌else◌, List, [], ◌∷◌, length, All}
use Rattle.std.specs.List.{AllByRecursion}
use Rattle.vx_base.specs.Bytes.{byte_of}
use Rattle.ocl_launch.specs.Launches.{number_in}
use Rattle.item_acts.specs.Launches.{put_at}
use Rattle.first_kernels.specs.FirstTree.{Tree, Literal, OwnId, OwnElement, Grouped, Applied, Assigns, Form}
use Rattle.first_kernels.specs.First.{operated, array_of}

-- the value of a sum for an item whose own element of each parameter's array is this
abbrev pub value_of : (ℕ → ℕ) → ℕ → Tree → ℕ
value_of own item (Literal n) = n
value_of own item OwnId = item
value_of own item (OwnElement p) = own p
value_of own item (Grouped t) = value_of own item t
value_of own item (Applied op l r) = operated op (value_of own item l) (value_of own item r)

-- the item's own elements of each buffer once it has made these assignments, from those before
abbrev pub words_after : (ℕ → ℕ) → ℕ → List Assigns → (ℕ → ℕ) → ℕ → ℕ
words_after arrays item [] words = words
words_after arrays item (a ∷ more) words =
    words_after arrays item more (put_at (arrays a.parameter) (value_of (λ p. words (arrays p)) item a.value) words)

-- the element of an item in each buffer
abbrev pub words_at : (ℕ → ℕ → ℕ) → ℕ → ℕ → ℕ
words_at bytes item buffer = number_in bytes buffer (4 * item) 4

-- the bytes of the buffers once each item has made its assignments: its own elements have changed, and no other byte
abbrev pub bytes_left : List ℕ → ℕ → List Assigns → (ℕ → ℕ → ℕ) → ℕ → ℕ → ℕ
bytes_left arguments items assignments bytes buffer byte =
    if nat_lt byte (4 * items)
    then byte_of (words_after (array_of arguments) (byte / 4) assignments (words_at bytes (byte / 4)) buffer) (byte % 4)
    else bytes buffer byte

-- the numbers of a sum are words, and its elements are of parameters
abbrev pub IsSumOf : ℕ → Tree → Type 0
IsSumOf parameters (Literal n) = n < 2 ^ 31
IsSumOf parameters OwnId = Unit {0}
IsSumOf parameters (OwnElement p) = p < parameters
IsSumOf parameters (Grouped t) = IsSumOf parameters t
IsSumOf parameters (Applied op l r) = IsSumOf parameters l × IsSumOf parameters r

abbrev pub IsAssignmentOf : ℕ → Assigns → Type 0
IsAssignmentOf parameters a = (a.parameter < parameters) × IsSumOf parameters a.value

-- each argument names a buffer, and there is one for each parameter
pub record IsLaunchable (k : Form) (arguments : List ℕ) (items buffers : ℕ) : Type 0 where
  pub enough : k.parameters ≡ length arguments
  pub within : All (λ b. b < buffers) arguments
  pub assignments : AllByRecursion (IsAssignmentOf k.parameters) k.assignments
  pub items_some : 0 < items
  pub items_few : items ≤ 32
