-- Built-in functions in both.
use Rattle.std.proofs.Common.{◌≡◌, ℕ, suc, ◌<◌, ◌≤◌, ◌^◌, Bool, true, false, ◌||◌, List, ◌∷◌, refl, ◌∙◌, arith}
use Rattle.std.specs.Prelude.{if◌then◌else◌}
use Rattle.vx_base.specs.Values.{alu_value_of}
use Rattle.vx_base.proofs.ValueLaws.{alu_value_of-lt}
use Rattle.vx_base.specs.declared.types.Alu.TheVariants as alu
use Rattle.item_acts.specs.Launches.{put_at}
use Rattle.item_acts.specs.Machine.{Go}
use Rattle.item_acts.proofs.Launches.{put_at_same}
use Rattle.item_settings.specs.Settings.{Setting}
use Rattle.ocl_program.specs.Values.{by_type}
use Rattle.ocl_program.specs.declared.exprs.Builtin.{Builtin}
use Rattle.ocl_program.specs.declared.exprs.Builtin.TheVariants as builtin
use Rattle.task_machine.specs.Operators.{clamped, greatest_of, high_product, is_less, least_of, magnitude}
use Rattle.task_machine.specs.Tasks as flat
use Rattle.task_machine.specs.declared.tasks.Task.TheVariants as task
use Rattle.step_machine.specs.Sims.{FirstGoes}
use Rattle.kir.specs.Machine.{state, known_of, ops_tasks}
use Rattle.kir.specs.Trees.{Operand, VariableOf, NumberOf, Id, Ops, AndOp}
use Rattle.ocl_inline.specs.FlatTasks.{FlatTask, flat_parts, value_tasks}
use Rattle.ocl_inline.specs.Trees.{FlatExpr, BuiltinFlat, FlatArgs, NoFlatArgs, NumberArg, NamedArg}
use Rattle.ocl_inline.specs.declared.trees.Binding.{Binding}
use Rattle.ocl_norm.specs.Normal.{pair_ops, calls, value_ops}
use Rattle.ocl_norm.specs.Operators.{two_ops, greatest_ops, least_ops, magnitude_ops}
use Rattle.kir.specs.Numbered.{GivesWords}
use Rattle.ocl_inline.specs.Proper.{AreValues}
use Rattle.ocl_types.specs.Exprs.{arity}
use Rattle.ocl_norm.specs.Standings.{Made, standing, operand_at, held_at, above}
use Rattle.ocl_norm.proofs.OperatorLaws.{once, greatest_holds, least_holds, magnitude_holds}
use Rattle.ocl_norm.proofs.Relations.{flat_state, Alike, kept_put, alike_self, alike_on, alike_kept, under_more, learns}
use Rattle.ocl_norm.proofs.ValuesAlong.{Gives, IsStanding, operand_under, held_under, above_from, above_to, Computes, MakesWords, Joins, pair_goes, pair_gives, gives_more, not_first, not_second}
use Rattle.ocl_norm.proofs.ChoicesAlong.{ValueGoes}

-- ---- what they compute

either_word : (test : Bool) (x y : ℕ) → x < 2 ^ 32 → y < 2 ^ 32 → (if test then x else y) < 2 ^ 32
either_word true x y word word' = word
either_word false x y word word' = word'

least_word : (unsigned : Bool) → MakesWords (least_of unsigned)
least_word unsigned x y word word' = either_word (is_less unsigned y x) y x word' word

greatest_word : (unsigned : Bool) → MakesWords (greatest_of unsigned)
greatest_word unsigned x y word word' = either_word (is_less unsigned x y) y x word' word

high_word : (unsigned : Bool) → MakesWords (high_product unsigned)
high_word true x y word word' = alu_value_of-lt alu.Mulhu x y word word'
high_word false x y word word' = alu_value_of-lt alu.Mulh x y word word'

magnitude_word : (unsigned : Bool) (x : ℕ) → x < 2 ^ 32 → magnitude unsigned x < 2 ^ 32
magnitude_word unsigned x word = either_word (is_less unsigned x 0) (alu_value_of alu.Sub 0 x) x (alu_value_of-lt alu.Sub 0 x (omega arith) word) word

least_computes : (at : Setting) (unsigned : Bool) → Computes at (two_ops builtin.Min unsigned) (least_of unsigned)
least_computes at unsigned n st a b d c ts vs ns x y under under' word word' e e' next = least_holds at n st unsigned a b d c ts vs ns x y under under' word word' e e' next

greatest_computes : (at : Setting) (unsigned : Bool) → Computes at (two_ops builtin.Max unsigned) (greatest_of unsigned)
greatest_computes at unsigned n st a b d c ts vs ns x y under under' word word' e e' next = greatest_holds at n st unsigned a b d c ts vs ns x y under under' word word' e e' next

high_value : (unsigned : Bool) (x y : ℕ) → alu_value_of (by_type unsigned alu.Mulhu alu.Mulh) x y ≡ high_product unsigned x y
high_value true x y = refl
high_value false x y = refl

high_computes : (at : Setting) (unsigned : Bool) → Computes at (two_ops builtin.MulHi unsigned) (high_product unsigned)
high_computes at unsigned n st a b d c ts vs ns x y under under' word word' e e' next =
    once at n st d (by_type unsigned alu.Mulhu alu.Mulh) a b c ts vs ns x y (high_product unsigned x y) e e' (high_value unsigned x y) next

-- ---- arguments

-- each is a value of both
abbrev pub ArgsGive : Setting → ℕ → FlatArgs → Type 0
ArgsGive at count NoFlatArgs = Unit {0}
ArgsGive at count (NumberArg e binding more) = ValueGoes at count e × IsStanding count (standing e) × ArgsGive at count more
ArgsGive at count (NamedArg array more) = ArgsGive at count more

on_none : (at : Setting) (count : ℕ) (P : FlatArgs → Type 0) (args : FlatArgs) → AreValues 0 args → ArgsGive at count args → P NoFlatArgs → P args
on_none at count P NoFlatArgs values gives h = h
on_none at count P (NumberArg e binding more) values gives h = absurd values
on_none at count P (NamedArg array more) values gives h = absurd values

on_one : (at : Setting) (count : ℕ) (P : FlatArgs → Type 0) (args : FlatArgs) → AreValues 1 args → ArgsGive at count args
    → ((x : FlatExpr) (b : Binding) → ValueGoes at count x → IsStanding count (standing x) → P (NumberArg x b NoFlatArgs)) → P args
on_one at count P NoFlatArgs values gives h = absurd values
on_one at count P (NumberArg x b NoFlatArgs) values (gives, stands, more) h = h x b gives stands
on_one at count P (NumberArg x b (NumberArg y b' more)) values gives h = absurd values
on_one at count P (NumberArg x b (NamedArg array more)) values gives h = absurd values
on_one at count P (NamedArg array more) values gives h = absurd values

on_two : (at : Setting) (count : ℕ) (P : FlatArgs → Type 0) (args : FlatArgs) → AreValues 2 args → ArgsGive at count args
    → ((x : FlatExpr) (b : Binding) (y : FlatExpr) (b' : Binding) → ValueGoes at count x → IsStanding count (standing x) → ValueGoes at count y → IsStanding count (standing y)
    → P (NumberArg x b (NumberArg y b' NoFlatArgs))) → P args
on_two at count P NoFlatArgs values gives h = absurd values
on_two at count P (NumberArg x b more) values (gives, stands, mores) h =
    on_one at count (λ args. P (NumberArg x b args)) more values mores (λ y b' gives' stands'. h x b y b' gives stands gives' stands')
on_two at count P (NamedArg array more) values gives h = absurd values

on_three : (at : Setting) (count : ℕ) (P : FlatArgs → Type 0) (args : FlatArgs) → AreValues 3 args → ArgsGive at count args
    → ((x : FlatExpr) (b : Binding) (y : FlatExpr) (b' : Binding) (z : FlatExpr) (b'' : Binding) → ValueGoes at count x → IsStanding count (standing x)
    → ValueGoes at count y → IsStanding count (standing y) → ValueGoes at count z → IsStanding count (standing z) → P (NumberArg x b (NumberArg y b' (NumberArg z b'' NoFlatArgs)))) → P args
on_three at count P NoFlatArgs values gives h = absurd values
on_three at count P (NumberArg x b more) values (gives, stands, mores) h =
    on_two at count (λ args. P (NumberArg x b args)) more values mores
    (λ y b' z b'' gives' stands' gives'' stands''. h x b y b' z b'' gives stands gives' stands' gives'' stands'')
on_three at count P (NamedArg array more) values gives h = absurd values

-- ---- the functions

none_gives : (at : Setting) (count : ℕ) (unsigned : Bool) → GivesWords at → ValueGoes at count (BuiltinFlat builtin.WorkDim unsigned NoFlatArgs)
none_gives at count unsigned words n d c ts ts' values vs vs' us le alike next =
    let x : ℕ = known_of at builtin.WorkDim 0 in
    let vs1' : ℕ → ℕ = put_at d x vs' in
    FirstGoes n (flat_state (task.Call builtin.WorkDim unsigned ∷ ts) values vs us) (flat_state ts (x ∷ values) vs us)
    (state (ops_tasks (AndOp (Id d builtin.WorkDim (NumberOf 0)) c) ts') vs' us) refl
    (learns at n (flat_state ts (x ∷ values) vs us) d builtin.WorkDim (NumberOf 0) (ops_tasks c ts') vs' us 0 refl
    (next x vs vs1' (alike_kept count d d vs' vs vs' vs1' le (omega arith) (kept_put d d x vs' (omega arith)) alike) (λ e. refl) (put_at_same d x vs') (words builtin.WorkDim 0)))

-- a function of a dimension
abbrev Learns : Setting → Builtin → Bool → Type 0
Learns at which unsigned = (v : ℕ) (values : List ℕ) → flat.called at which unsigned (v ∷ values) ≡ known_of at which v ∷ values

id_gives : (at : Setting) (count : ℕ) (which : Builtin) (unsigned : Bool) (x : FlatExpr) → GivesWords at → ValueGoes at count x
    → ((v : ℕ) (ts : List FlatTask) (values : List ℕ) (vs : ℕ → ℕ) (us : List ℕ)
    → flat.step flat_parts at (flat_state (task.Call which unsigned ∷ ts) (v ∷ values) vs us) ≡ Go (flat_state ts (known_of at which v ∷ values) vs us))
    → Gives at count (λ ts. value_tasks x (task.Call which unsigned ∷ ts)) (λ d c. value_ops x d (AndOp (Id d which (operand_at (standing x) d)) c)) Made (calls x || false)
id_gives at count which unsigned x words gives first n d c ts ts' values vs vs' us le alike next =
    gives n d (AndOp (Id d which (operand_at (standing x) d)) c) (task.Call which unsigned ∷ ts) ts' values vs vs' us le alike
    (λ v vs1 vs1' a same e word.
    let z : ℕ = known_of at which v in
    let vs2' : ℕ → ℕ = put_at d z vs1' in
    FirstGoes n (flat_state (task.Call which unsigned ∷ ts) (v ∷ values) vs1 us) (flat_state ts (z ∷ values) vs1 us)
    (state (ops_tasks (AndOp (Id d which (operand_at (standing x) d)) c) ts') vs1' us) (first v ts values vs1 us)
    (learns at n (flat_state ts (z ∷ values) vs1 us) d which (operand_at (standing x) d) (ops_tasks c ts') vs1' us v e
    (next z vs1 vs2' (alike_kept count d d vs' vs1 vs1' vs2' le (omega arith) (kept_put d d z vs1' (omega arith)) a) (λ none. same (not_first (calls x) false none))
    (put_at_same d z vs1') (words which v))))

abs_gives : (at : Setting) (count : ℕ) (unsigned : Bool) (x : FlatExpr) → ValueGoes at count x → IsStanding count (standing x)
    → Gives at count (λ ts. value_tasks x (task.Call builtin.Abs unsigned ∷ ts)) (λ d c. value_ops x d (magnitude_ops unsigned (operand_at (standing x) d) d c)) Made (calls x || false)
abs_gives at count unsigned x gives stands n d c ts ts' values vs vs' us le alike next =
    gives n d (magnitude_ops unsigned (operand_at (standing x) d) d c) (task.Call builtin.Abs unsigned ∷ ts) ts' values vs vs' us le alike
    (λ v vs1 vs1' a same e word.
    let z : ℕ = magnitude unsigned v in
    FirstGoes n (flat_state (task.Call builtin.Abs unsigned ∷ ts) (v ∷ values) vs1 us) (flat_state ts (z ∷ values) vs1 us)
    (state (ops_tasks (magnitude_ops unsigned (operand_at (standing x) d) d c) ts') vs1' us) refl
    (magnitude_holds at n (flat_state ts (z ∷ values) vs1 us) unsigned (operand_at (standing x) d) d c ts' vs1' us v (operand_under count d (standing x) le stands) word e
    (λ vs2' kept at2. next z vs1 vs2' (alike_kept count d d vs' vs1 vs1' vs2' le (omega arith) kept a) (λ none. same (not_first (calls x) false none)) at2
    (magnitude_word unsigned v word))))

-- a function of two words
two_gives : (at : Setting) (count : ℕ) (which : Builtin) (unsigned : Bool) (f : ℕ → ℕ → ℕ) → Joins at (task.Call which unsigned) f → Computes at (two_ops which unsigned) f → MakesWords f
    → (x : FlatExpr) (b : Binding) (y : FlatExpr) (b' : Binding) → ValueGoes at count x → IsStanding count (standing x) → ValueGoes at count y → IsStanding count (standing y)
    → ValueGoes at count (BuiltinFlat which unsigned (NumberArg x b (NumberArg y b' NoFlatArgs)))
two_gives at count which unsigned f joins computes words x b y b' gives stands gives' stands' =
    gives_more at count (λ ts. value_tasks x (value_tasks y (task.Call which unsigned ∷ ts)))
    (pair_ops (value_ops x) (standing x) (value_ops y) (standing y) (calls y) (two_ops which unsigned)) Made (calls x || calls y) (calls x || (calls y || false)) (fewer (calls x) (calls y))
    (pair_gives at count (task.Call which unsigned) (two_ops which unsigned) f joins computes words (value_tasks x) (value_ops x) (standing x) (calls x)
    (value_tasks y) (value_ops y) (standing y) (calls y) stands stands' gives gives')
  where
    fewer : (p q : Bool) → (p || (q || false)) ≡ false → (p || q) ≡ false
    fewer true q e = e
    fewer false q e = not_first q false e

-- `clamp`: the greater of the first two stands in the first variable while the third is evaluated
three_gives : (at : Setting) (count : ℕ) (unsigned : Bool) (x : FlatExpr) (b : Binding) (y : FlatExpr) (b' : Binding) (z : FlatExpr) (b'' : Binding)
    → ValueGoes at count x → IsStanding count (standing x) → ValueGoes at count y → IsStanding count (standing y) → ValueGoes at count z → IsStanding count (standing z)
    → ValueGoes at count (BuiltinFlat builtin.Clamp unsigned (NumberArg x b (NumberArg y b' (NumberArg z b'' NoFlatArgs))))
three_gives at count unsigned x b y b' z b'' gives stands gives' stands' gives'' stands'' n d c ts ts' values vs vs' us le alike next =
    let p : Operand = held_at (calls y) (standing x) d in
    let first : ℕ = above (calls y) (standing x) d in
    let q : Operand = operand_at (standing y) first in
    let from : d ≤ first = above_from (calls y) (standing x) d in
    let to : first ≤ suc d = above_to (calls y) (standing x) d in
    let r : Operand = operand_at (standing z) (suc d) in
    let least : Ops = least_ops unsigned (VariableOf d) r d c in
    pair_goes at count (value_tasks x) (value_ops x) (standing x) (calls x) (value_tasks y) (value_ops y) (standing y) (calls y) stands gives gives'
    n d (greatest_ops unsigned p q d (value_ops z (suc d) least)) (value_tasks z (task.Call builtin.Clamp unsigned ∷ ts)) ts' values vs vs' us le alike
    (λ v w vs1 vs1' a same e e' word word'.
    let m : ℕ = greatest_of unsigned v w in
    greatest_holds at n (flat_state (value_tasks z (task.Call builtin.Clamp unsigned ∷ ts)) (w ∷ v ∷ values) vs1 us) unsigned p q d (value_ops z (suc d) least) ts' vs1' us v w
    (held_under count d (calls y) (standing x) le stands)
    (under_more (suc first) (suc (suc d)) q (omega arith) (operand_under count first (standing y) (omega arith) stands')) word word' e e'
    (λ vs2' kept at2.
    let a2 : Alike count d vs' vs1 vs2' = alike_kept count d d vs' vs1 vs1' vs2' le (omega arith) kept a in
    gives'' n (suc d) least (task.Call builtin.Clamp unsigned ∷ ts) ts' (w ∷ v ∷ values) vs1 vs2' us (omega arith) (alike_self count d vs' vs1 vs2' (suc d) a2)
    (λ u vs3 vs3' b3 same' e'' word''.
    let k : ℕ = clamped unsigned v w u in
    FirstGoes n (flat_state (task.Call builtin.Clamp unsigned ∷ ts) (u ∷ w ∷ v ∷ values) vs3 us) (flat_state ts (k ∷ values) vs3 us)
    (state (ops_tasks least ts') vs3' us) refl
    (least_holds at n (flat_state ts (k ∷ values) vs3 us) unsigned (VariableOf d) r d c ts' vs3' us m u (omega arith)
    (operand_under count (suc d) (standing z) (omega arith) stands'') (greatest_word unsigned v w word word') word'' (b3.frame d le (omega arith) ∙ at2) e''
    (λ vs4' kept' at4. next k vs3 vs4'
    (alike_kept count d d vs' vs3 vs3' vs4' le (omega arith) kept' (alike_on count d (suc d) vs' vs1 vs2' vs3 vs3' (omega arith) a2 b3))
    (λ none. same' (none_third (calls x) (calls y) (calls z) none) ∙ same (not_first (calls x) (calls y || (calls z || false)) none)
    (not_first (calls y) (calls z || false) (not_second (calls x) (calls y || (calls z || false)) none))) at4
    (least_word unsigned m u (greatest_word unsigned v w word word') word''))))))
  where
    none_third : (p q r : Bool) → (p || (q || (r || false))) ≡ false → r ≡ false
    none_third p q r e = not_first r false (not_second q (r || false) (not_second p (q || (r || false)) e))

pub builtin_goes : (at : Setting) (count : ℕ) (which : Builtin) (unsigned : Bool) (args : FlatArgs) → GivesWords at → AreValues (arity which) args → ArgsGive at count args
    → ValueGoes at count (BuiltinFlat which unsigned args)
builtin_goes at count builtin.WorkDim unsigned args words values gives =
    on_none at count (λ xs. ValueGoes at count (BuiltinFlat builtin.WorkDim unsigned xs)) args values gives (none_gives at count unsigned words)
builtin_goes at count builtin.GlobalId unsigned args words values gives =
    on_one at count (λ xs. ValueGoes at count (BuiltinFlat builtin.GlobalId unsigned xs)) args values gives
    (λ x b given stands. id_gives at count builtin.GlobalId unsigned x words given (λ v ts vals vs us. refl))
builtin_goes at count builtin.LocalId unsigned args words values gives =
    on_one at count (λ xs. ValueGoes at count (BuiltinFlat builtin.LocalId unsigned xs)) args values gives
    (λ x b given stands. id_gives at count builtin.LocalId unsigned x words given (λ v ts vals vs us. refl))
builtin_goes at count builtin.GroupId unsigned args words values gives =
    on_one at count (λ xs. ValueGoes at count (BuiltinFlat builtin.GroupId unsigned xs)) args values gives
    (λ x b given stands. id_gives at count builtin.GroupId unsigned x words given (λ v ts vals vs us. refl))
builtin_goes at count builtin.GlobalSize unsigned args words values gives =
    on_one at count (λ xs. ValueGoes at count (BuiltinFlat builtin.GlobalSize unsigned xs)) args values gives
    (λ x b given stands. id_gives at count builtin.GlobalSize unsigned x words given (λ v ts vals vs us. refl))
builtin_goes at count builtin.LocalSize unsigned args words values gives =
    on_one at count (λ xs. ValueGoes at count (BuiltinFlat builtin.LocalSize unsigned xs)) args values gives
    (λ x b given stands. id_gives at count builtin.LocalSize unsigned x words given (λ v ts vals vs us. refl))
builtin_goes at count builtin.NumGroups unsigned args words values gives =
    on_one at count (λ xs. ValueGoes at count (BuiltinFlat builtin.NumGroups unsigned xs)) args values gives
    (λ x b given stands. id_gives at count builtin.NumGroups unsigned x words given (λ v ts vals vs us. refl))
builtin_goes at count builtin.GlobalOffset unsigned args words values gives =
    on_one at count (λ xs. ValueGoes at count (BuiltinFlat builtin.GlobalOffset unsigned xs)) args values gives
    (λ x b given stands. id_gives at count builtin.GlobalOffset unsigned x words given (λ v ts vals vs us. refl))
builtin_goes at count builtin.Abs unsigned args words values gives =
    on_one at count (λ xs. ValueGoes at count (BuiltinFlat builtin.Abs unsigned xs)) args values gives (λ x b given stands. abs_gives at count unsigned x given stands)
builtin_goes at count builtin.Min unsigned args words values gives =
    on_two at count (λ xs. ValueGoes at count (BuiltinFlat builtin.Min unsigned xs)) args values gives
    (two_gives at count builtin.Min unsigned (least_of unsigned) (λ v w ts vals vs us. refl) (least_computes at unsigned) (least_word unsigned))
builtin_goes at count builtin.Max unsigned args words values gives =
    on_two at count (λ xs. ValueGoes at count (BuiltinFlat builtin.Max unsigned xs)) args values gives
    (two_gives at count builtin.Max unsigned (greatest_of unsigned) (λ v w ts vals vs us. refl) (greatest_computes at unsigned) (greatest_word unsigned))
builtin_goes at count builtin.MulHi unsigned args words values gives =
    on_two at count (λ xs. ValueGoes at count (BuiltinFlat builtin.MulHi unsigned xs)) args values gives
    (two_gives at count builtin.MulHi unsigned (high_product unsigned) (λ v w ts vals vs us. refl) (high_computes at unsigned) (high_word unsigned))
builtin_goes at count builtin.Clamp unsigned args words values gives =
    on_three at count (λ xs. ValueGoes at count (BuiltinFlat builtin.Clamp unsigned xs)) args values gives (three_gives at count unsigned)
