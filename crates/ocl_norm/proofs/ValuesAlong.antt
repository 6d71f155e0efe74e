-- Values of expressions in both: the flat machine has them on its stack, the normal form in an operand.
use Rattle.std.proofs.Common.{◌≡◌, ℕ, suc, ◌<◌, ◌≤◌, ◌^◌, Bool, true, false, ◌||◌, List, ◌∷◌, refl, ap, sym, ◌∙◌, arith, true≢false}
use Rattle.std.specs.Prelude.{if◌then◌else◌, ◌==◌}
use Rattle.vx_base.specs.Values.{fitted}
use Rattle.vx_base.proofs.ValueLaws.{alu_value_of-lt, fitted-lt}
use Rattle.vx_base.specs.declared.types.Alu.TheVariants as alu
use Rattle.vx_base.specs.declared.types.Elem.{Elem}
use Rattle.item_acts.specs.Launches.{put_at}
use Rattle.item_acts.proofs.Launches.{put_at_same}
use Rattle.item_settings.specs.Settings.{Setting}
use Rattle.ocl_ast.specs.declared.exprs.BinOp.{BinOp}
use Rattle.ocl_ast.specs.declared.exprs.BinOp.TheVariants.{Mul, Div, Rem, Add, Sub, Shl, Shr, Lt, Gt, Le, Ge, Eq, Ne, And, Xor, Or}
use Rattle.ocl_ast.specs.declared.exprs.UnOp.{UnOp}
use Rattle.ocl_ast.specs.declared.exprs.UnOp.TheVariants.{Plus, Minus, Not, Flip}
use Rattle.ocl_program.specs.Values.{binary_value, by_type, truth, unary_value}
use Rattle.item_acts.specs.Machine.{Go}
use Rattle.task_machine.specs.Tasks as flat
use Rattle.task_machine.specs.declared.tasks.Task.TheVariants as task
use Rattle.step_machine.specs.Sims.{FirstGoes}
use Rattle.kir.specs.Machine.{state, Task, value, ops_tasks}
use Rattle.kir.specs.Trees.{Operand, VariableOf, Fit, Ops, AndOp}
use Rattle.ocl_inline.specs.FlatTasks.{FlatTask, flat_parts}
use Rattle.ocl_norm.specs.Normal.{Fragment, pair_ops}
use Rattle.ocl_norm.specs.Operators.{unary_ops, binary_ops}
use Rattle.ocl_norm.specs.Standings.{Standing, Fixed, Named, Made, operand_at, copied, held_at, above}
use Rattle.ocl_norm.proofs.OperatorLaws.{Holds, unary_holds, binary_holds}
use Rattle.ocl_norm.proofs.Relations.{FlatState, flat_state, Along, Alike, SameBelow, kept_same, kept_put, alike_self, alike_on, alike_kept, IsUnder, under_more, sets, fits}

-- ---- values of operators are words

truth_word : (b : Bool) → truth b < 2 ^ 32
truth_word true = omega arith
truth_word false = omega arith

opposite_word : (b : Bool) → (if b then 0 else 1) < 2 ^ 32
opposite_word true = omega arith
opposite_word false = omega arith

pub unary_word : (op : UnOp) (a : ℕ) → a < 2 ^ 32 → unary_value op a < 2 ^ 32
unary_word Plus a word = word
unary_word Minus a word = alu_value_of-lt alu.Sub 0 a (omega arith) word
unary_word Not a word = truth_word (a == 0)
unary_word Flip a word = alu_value_of-lt alu.Xor a 4294967295 word (omega arith)

pub binary_word : (op : BinOp) (unsigned : Bool) (a b : ℕ) → a < 2 ^ 32 → b < 2 ^ 32 → binary_value op unsigned a b < 2 ^ 32
binary_word Mul unsigned a b word word' = alu_value_of-lt alu.Mul a b word word'
binary_word Div unsigned a b word word' = alu_value_of-lt (by_type unsigned alu.Divu alu.Div) a b word word'
binary_word Rem unsigned a b word word' = alu_value_of-lt (by_type unsigned alu.Remu alu.Rem) a b word word'
binary_word Add unsigned a b word word' = alu_value_of-lt alu.Add a b word word'
binary_word Sub unsigned a b word word' = alu_value_of-lt alu.Sub a b word word'
binary_word Shl unsigned a b word word' = alu_value_of-lt alu.Sll a b word word'
binary_word Shr unsigned a b word word' = alu_value_of-lt (by_type unsigned alu.Srl alu.Sra) a b word word'
binary_word Lt unsigned a b word word' = alu_value_of-lt (by_type unsigned alu.Sltu alu.Slt) a b word word'
binary_word Gt unsigned a b word word' = alu_value_of-lt (by_type unsigned alu.Sltu alu.Slt) b a word' word
binary_word Le unsigned a b word word' = omega arith
binary_word Ge unsigned a b word word' = omega arith
binary_word Eq unsigned a b word word' = truth_word (a == b)
binary_word Ne unsigned a b word word' = opposite_word (a == b)
binary_word And unsigned a b word word' = alu_value_of-lt alu.And a b word word'
binary_word Xor unsigned a b word word' = alu_value_of-lt alu.Xor a b word word'
binary_word Or unsigned a b word word' = alu_value_of-lt alu.Or a b word word'

-- ---- where values stand

-- a variable of the kernel is one of so many
abbrev pub IsStanding : ℕ → Standing → Type 0
IsStanding count (Fixed n) = Unit {0}
IsStanding count (Named k) = k < count
IsStanding count Made = Unit {0}

pub operand_under : (count d : ℕ) (s : Standing) → count ≤ d → IsStanding count s → IsUnder (suc d) (operand_at s d)
operand_under count d (Fixed n) le stands = tt
operand_under count d (Named k) le stands = omega arith
operand_under count d Made le stands = omega arith

pub held_under : (count d : ℕ) (calls : Bool) (s : Standing) → count ≤ d → IsStanding count s → IsUnder (suc d) (held_at calls s d)
held_under count d true (Fixed n) le stands = tt
held_under count d false (Fixed n) le stands = tt
held_under count d true (Named k) le stands = omega arith
held_under count d false (Named k) le stands = omega arith
held_under count d true Made le stands = omega arith
held_under count d false Made le stands = omega arith

pub above_from : (calls : Bool) (s : Standing) (d : ℕ) → d ≤ above calls s d
above_from true (Fixed n) d = omega arith
above_from false (Fixed n) d = omega arith
above_from true (Named k) d = omega arith
above_from false (Named k) d = omega arith
above_from true Made d = omega arith
above_from false Made d = omega arith

pub above_to : (calls : Bool) (s : Standing) (d : ℕ) → above calls s d ≤ suc d
above_to true (Fixed n) d = omega arith
above_to false (Fixed n) d = omega arith
above_to true (Named k) d = omega arith
above_to false (Named k) d = omega arith
above_to true Made d = omega arith
above_to false Made d = omega arith

-- ---- what it is to give a value

-- These tasks and these operations give the same value, and go along where what follows does for every value. Where no call is among them
-- the kernel's variables stay.
abbrev pub Gives : Setting → ℕ → (List FlatTask → List FlatTask) → Fragment → Standing → Bool → Type 0
Gives at count tasks part s calls = (n d : ℕ) (c : Ops) (ts : List FlatTask) (ts' : List Task) (values : List ℕ) (vs vs' : ℕ → ℕ) (us : List ℕ) → count ≤ d
    → Alike count d vs' vs vs'
    → ((v : ℕ) (vs1 vs1' : ℕ → ℕ) → Alike count d vs' vs1 vs1' → (calls ≡ false → vs1 ≡ vs) → value vs1' (operand_at s d) ≡ v → v < 2 ^ 32
    → Along at n (flat_state ts (v ∷ values) vs1 us) (state (ops_tasks c ts') vs1' us))
    → Along at n (flat_state (tasks ts) values vs us) (state (ops_tasks (part d c) ts') vs' us)

pub number_gives : (at : Setting) (count m : ℕ) → m < 2 ^ 32 → Gives at count (λ ts. task.Number m ∷ ts) (λ d c. c) (Fixed m) false
number_gives at count m word n d c ts ts' values vs vs' us le alike next =
    FirstGoes n (flat_state (task.Number m ∷ ts) values vs us) (flat_state ts (m ∷ values) vs us) (state (ops_tasks c ts') vs' us) refl
    (next m vs vs' alike (λ e. refl) refl word)

pub variable_gives : (at : Setting) (count k : ℕ) → k < count → Gives at count (λ ts. task.Variable k ∷ ts) (λ d c. c) (Named k) false
variable_gives at count k below n d c ts ts' values vs vs' us le alike next =
    FirstGoes n (flat_state (task.Variable k ∷ ts) values vs us) (flat_state ts (vs k ∷ values) vs us) (state (ops_tasks c ts') vs' us) refl
    (next (vs k) vs vs' alike (λ e. refl) (alike.equal k below) (alike.words k below))

-- ---- one part

pub unary_gives : (at : Setting) (count : ℕ) (op : UnOp) (tasks : List FlatTask → List FlatTask) (part : Fragment) (s : Standing) (calls : Bool) → Gives at count tasks part s calls
    → Gives at count (λ ts. tasks (task.Unary op ∷ ts)) (λ d c. part d (unary_ops op (operand_at s d) d c)) Made calls
unary_gives at count op tasks part s calls gives n d c ts ts' values vs vs' us le alike next =
    gives n d (unary_ops op (operand_at s d) d c) (task.Unary op ∷ ts) ts' values vs vs' us le alike
    (λ v vs1 vs1' a same e word.
    FirstGoes n (flat_state (task.Unary op ∷ ts) (v ∷ values) vs1 us) (flat_state ts (unary_value op v ∷ values) vs1 us)
    (state (ops_tasks (unary_ops op (operand_at s d) d c) ts') vs1' us) refl
    (unary_holds at n (flat_state ts (unary_value op v ∷ values) vs1 us) op (operand_at s d) d c ts' vs1' us v e
    (λ vs2' kept at2. next (unary_value op v) vs1 vs2' (alike_kept count d d vs' vs1 vs1' vs2' le (omega arith) kept a) same at2 (unary_word op v word))))

pub cast_gives : (at : Setting) (count : ℕ) (elem : Elem) (tasks : List FlatTask → List FlatTask) (part : Fragment) (s : Standing) (calls : Bool) → Gives at count tasks part s calls
    → Gives at count (λ ts. tasks (task.Fit elem ∷ ts)) (λ d c. part d (AndOp (Fit d elem (operand_at s d)) c)) Made calls
cast_gives at count elem tasks part s calls gives n d c ts ts' values vs vs' us le alike next =
    gives n d (AndOp (Fit d elem (operand_at s d)) c) (task.Fit elem ∷ ts) ts' values vs vs' us le alike
    (λ v vs1 vs1' a same e word.
    let vs2' : ℕ → ℕ = put_at d (fitted elem v) vs1' in
    FirstGoes n (flat_state (task.Fit elem ∷ ts) (v ∷ values) vs1 us) (flat_state ts (fitted elem v ∷ values) vs1 us)
    (state (ops_tasks (AndOp (Fit d elem (operand_at s d)) c) ts') vs1' us) refl
    (fits at n (flat_state ts (fitted elem v ∷ values) vs1 us) d elem (operand_at s d) (ops_tasks c ts') vs1' us v e
    (next (fitted elem v) vs1 vs2' (alike_kept count d d vs' vs1 vs1' vs2' le (omega arith) (kept_put d d (fitted elem v) vs1' (omega arith)) a) same
    (put_at_same d (fitted elem v) vs1') (fitted-lt elem v))))

-- ---- two parts

-- The value of a part stays while what follows is evaluated.
abbrev pub Stays : ℕ → Bool → Standing → ℕ → ℕ → (ℕ → ℕ) → (ℕ → ℕ) → Type 0
Stays count calls s d v vs1 vs2' = (vs3 vs3' : ℕ → ℕ) → Alike count (above calls s d) vs2' vs3 vs3' → (calls ≡ false → vs3 ≡ vs1) → value vs3' (held_at calls s d) ≡ v

pub holds_it : (at : Setting) (count n : ℕ) (st : FlatState) (calls : Bool) (s : Standing) (d : ℕ) (c : Ops) (ts' : List Task) (vs1 vs1' : ℕ → ℕ) (ns : List ℕ) (v : ℕ) → count ≤ d
    → IsStanding count s → ((k : ℕ) → k < count → vs1' k ≡ vs1 k) → value vs1' (operand_at s d) ≡ v
    → ((vs2' : ℕ → ℕ) → SameBelow d vs1' vs2' → Stays count calls s d v vs1 vs2' → Along at n st (state (ops_tasks c ts') vs2' ns))
    → Along at n st (state (ops_tasks (copied calls s d c) ts') vs1' ns)
holds_it at count n st true (Fixed m) d c ts' vs1 vs1' ns v le stands equal e next = next vs1' (kept_same d vs1') (λ vs3 vs3' b un. e)
holds_it at count n st false (Fixed m) d c ts' vs1 vs1' ns v le stands equal e next = next vs1' (kept_same d vs1') (λ vs3 vs3' b un. e)
holds_it at count n st true (Named k) d c ts' vs1 vs1' ns v le stands equal e next =
    sets at n st d (VariableOf k) (ops_tasks c ts') vs1' ns v e
    (next (put_at d v vs1') (kept_put d d v vs1' (omega arith)) (λ vs3 vs3' b un. b.frame d le (omega arith) ∙ put_at_same d v vs1'))
holds_it at count n st false (Named k) d c ts' vs1 vs1' ns v le stands equal e next =
    next vs1' (kept_same d vs1') (λ vs3 vs3' b un. b.equal k stands ∙ ap (λ f. f k) (un refl) ∙ sym (equal k stands) ∙ e)
holds_it at count n st true Made d c ts' vs1 vs1' ns v le stands equal e next = next vs1' (kept_same d vs1') (λ vs3 vs3' b un. b.frame d le (omega arith) ∙ e)
holds_it at count n st false Made d c ts' vs1 vs1' ns v le stands equal e next = next vs1' (kept_same d vs1') (λ vs3 vs3' b un. b.frame d le (omega arith) ∙ e)

-- what is to follow two parts
abbrev pub BehindPair : Setting → ℕ → Standing → Bool → Standing → Bool → (n d : ℕ) → Ops → List FlatTask → List Task → List ℕ → (ℕ → ℕ) → (ℕ → ℕ) → List ℕ → Type 0
BehindPair at count s calls s' calls' n d c ts ts' values vs vs' us =
    (v w : ℕ) (vs1 vs1' : ℕ → ℕ) → Alike count d vs' vs1 vs1' → (calls ≡ false → calls' ≡ false → vs1 ≡ vs) → value vs1' (held_at calls' s d) ≡ v
    → value vs1' (operand_at s' (above calls' s d)) ≡ w → v < 2 ^ 32 → w < 2 ^ 32
    → Along at n (flat_state ts (w ∷ v ∷ values) vs1 us) (state (ops_tasks c ts') vs1' us)

pub pair_goes : (at : Setting) (count : ℕ) (tasks : List FlatTask → List FlatTask) (part : Fragment) (s : Standing) (calls : Bool)
    (tasks' : List FlatTask → List FlatTask) (part' : Fragment) (s' : Standing) (calls' : Bool) → IsStanding count s → Gives at count tasks part s calls → Gives at count tasks' part' s' calls'
    → (n d : ℕ) (c : Ops) (ts : List FlatTask) (ts' : List Task) (values : List ℕ) (vs vs' : ℕ → ℕ) (us : List ℕ) → count ≤ d → Alike count d vs' vs vs'
    → BehindPair at count s calls s' calls' n d c ts ts' values vs vs' us
    → Along at n (flat_state (tasks (tasks' ts)) values vs us) (state (ops_tasks (part d (copied calls' s d (part' (above calls' s d) c))) ts') vs' us)
pair_goes at count tasks part s calls tasks' part' s' calls' stands gives gives' n d c ts ts' values vs vs' us le alike next =
    gives n d (copied calls' s d (part' (above calls' s d) c)) (tasks' ts) ts' values vs vs' us le alike
    (λ v vs1 vs1' a same e word.
    holds_it at count n (flat_state (tasks' ts) (v ∷ values) vs1 us) calls' s d (part' (above calls' s d) c) ts' vs1 vs1' us v le stands a.equal e
    (λ vs2' kept stays.
    let from : d ≤ above calls' s d = above_from calls' s d in
    let a2 : Alike count d vs' vs1 vs2' = alike_kept count d d vs' vs1 vs1' vs2' le (omega arith) kept a in
    gives' n (above calls' s d) c ts ts' (v ∷ values) vs1 vs2' us (omega arith) (alike_self count d vs' vs1 vs2' (above calls' s d) a2)
    (λ w vs3 vs3' b same' e' word'.
    next v w vs3 vs3' (alike_on count d (above calls' s d) vs' vs1 vs2' vs3 vs3' from a2 b) (λ p q. same' q ∙ same p) (stays vs3 vs3' b same') e' word word')))

-- neither of two
pub not_first : (a b : Bool) → (a || b) ≡ false → a ≡ false
not_first true b e = e
not_first false b e = refl

pub not_second : (a b : Bool) → (a || b) ≡ false → b ≡ false
not_second true b e = absurd (true≢false e)
not_second false b e = e

-- a value that may change the kernel's variables in more cases
pub gives_more : (at : Setting) (count : ℕ) (tasks : List FlatTask → List FlatTask) (part : Fragment) (s : Standing) (calls calls' : Bool) → (calls' ≡ false → calls ≡ false)
    → Gives at count tasks part s calls → Gives at count tasks part s calls'
gives_more at count tasks part s calls calls' fewer gives n d c ts ts' values vs vs' us le alike next =
    gives n d c ts ts' values vs vs' us le alike (λ v vs1 vs1' a same e word. next v vs1 vs1' a (λ none. same (fewer none)) e word)

-- a task that makes one value of two
abbrev pub Joins : Setting → FlatTask → (ℕ → ℕ → ℕ) → Type 0
Joins at t f = (v w : ℕ) (ts : List FlatTask) (values : List ℕ) (vs : ℕ → ℕ) (us : List ℕ)
    → flat.step flat_parts at (flat_state (t ∷ ts) (w ∷ v ∷ values) vs us) ≡ Go (flat_state ts (f v w ∷ values) vs us)

-- and operations that do so
abbrev pub Computes : Setting → (Operand → Operand → ℕ → Ops → Ops) → (ℕ → ℕ → ℕ) → Type 0
Computes at join f = (n : ℕ) (st : FlatState) (a b : Operand) (d : ℕ) (c : Ops) (ts : List Task) (vs : ℕ → ℕ) (ns : List ℕ) (x y : ℕ)
    → IsUnder (suc d) a → IsUnder (suc (suc d)) b → x < 2 ^ 32 → y < 2 ^ 32 → value vs a ≡ x → value vs b ≡ y
    → Holds at n st d (f x y) vs (ops_tasks c ts) ns → Along at n st (state (ops_tasks (join a b d c) ts) vs ns)

abbrev pub MakesWords : (ℕ → ℕ → ℕ) → Type 0
MakesWords f = (x y : ℕ) → x < 2 ^ 32 → y < 2 ^ 32 → f x y < 2 ^ 32

pub pair_gives : (at : Setting) (count : ℕ) (t : FlatTask) (join : Operand → Operand → ℕ → Ops → Ops) (f : ℕ → ℕ → ℕ) → Joins at t f → Computes at join f → MakesWords f
    → (tasks : List FlatTask → List FlatTask) (part : Fragment) (s : Standing) (calls : Bool)
    (tasks' : List FlatTask → List FlatTask) (part' : Fragment) (s' : Standing) (calls' : Bool) → IsStanding count s → IsStanding count s'
    → Gives at count tasks part s calls → Gives at count tasks' part' s' calls'
    → Gives at count (λ ts. tasks (tasks' (t ∷ ts))) (pair_ops part s part' s' calls' join) Made (calls || calls')
pair_gives at count t join f joins computes words tasks part s calls tasks' part' s' calls' stands stands' gives gives' n d c ts ts' values vs vs' us le alike next =
    let a : Operand = held_at calls' s d in
    let first : ℕ = above calls' s d in
    let b : Operand = operand_at s' first in
    let from : d ≤ first = above_from calls' s d in
    let to : first ≤ suc d = above_to calls' s d in
    pair_goes at count tasks part s calls tasks' part' s' calls' stands gives gives' n d (join a b d c) (t ∷ ts) ts' values vs vs' us le alike
    (λ v w vs1 vs1' al same e e' word word'.
    FirstGoes n (flat_state (t ∷ ts) (w ∷ v ∷ values) vs1 us) (flat_state ts (f v w ∷ values) vs1 us)
    (state (ops_tasks (join a b d c) ts') vs1' us) (joins v w ts values vs1 us)
    (computes n (flat_state ts (f v w ∷ values) vs1 us) a b d c ts' vs1' us v w (held_under count d calls' s le stands)
    (under_more (suc first) (suc (suc d)) b (omega arith) (operand_under count first s' (omega arith) stands')) word word' e e'
    (λ vs2' kept at2. next (f v w) vs1 vs2' (alike_kept count d d vs' vs1 vs1' vs2' le (omega arith) kept al)
    (λ none. same (not_first calls calls' none) (not_second calls calls' none)) at2 (words v w word word'))))

pub binary_computes : (at : Setting) (op : BinOp) (unsigned : Bool) → Computes at (binary_ops op unsigned) (binary_value op unsigned)
binary_computes at op unsigned n st a b d c ts vs ns x y under under' word word' e e' next = binary_holds at n st op unsigned a b d c ts vs ns x y e e' next

pub binary_gives : (at : Setting) (count : ℕ) (op : BinOp) (unsigned : Bool) (tasks : List FlatTask → List FlatTask) (part : Fragment) (s : Standing) (calls : Bool)
    (tasks' : List FlatTask → List FlatTask) (part' : Fragment) (s' : Standing) (calls' : Bool) → IsStanding count s → IsStanding count s'
    → Gives at count tasks part s calls → Gives at count tasks' part' s' calls'
    → Gives at count (λ ts. tasks (tasks' (task.Binary op unsigned ∷ ts))) (pair_ops part s part' s' calls' (binary_ops op unsigned)) Made (calls || calls')
binary_gives at count op unsigned tasks part s calls tasks' part' s' calls' stands stands' gives gives' =
    pair_gives at count (task.Binary op unsigned) (binary_ops op unsigned) (binary_value op unsigned) (λ v w ts values vs us. refl) (binary_computes at op unsigned)
    (binary_word op unsigned) tasks part s calls tasks' part' s' calls' stands stands' gives gives'
