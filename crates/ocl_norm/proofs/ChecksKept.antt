-- Each load and each store of the normal form stands behind its check.
use Rattle.std.proofs.Common.{◌≡◌, ℕ, suc, ◌≤◌, ◌<◌, nat_eq, Bool, true, false, ◌||◌, not, List, [], ◌∷◌, inl, inr, refl, ap, sym, ◌∙◌, true≢false, ne_eqb, arith}
use Rattle.std.specs.Prelude.{Option, None, Some}
use Rattle.std.proofs.lemmas.Bool.{cond_both}
use Rattle.vx_base.specs.declared.types.Elem.{Elem}
use Rattle.vx_base.specs.declared.types.Pos.{Pos}
use Rattle.ocl_ast.specs.declared.exprs.BinOp.{BinOp}
use Rattle.ocl_ast.specs.declared.exprs.BinOp.TheVariants.{Add, Sub}
use Rattle.ocl_ast.specs.declared.stmts.AssignOp.{AssignOp}
use Rattle.ocl_ast.specs.declared.stmts.AssignOp.TheVariants as assign
use Rattle.ocl_ast.specs.declared.units.Gives.{Gives}
use Rattle.ocl_ast.specs.declared.units.Gives.TheVariants.{Nothing, Value}
use Rattle.ocl_ast.specs.declared.units.Param.{Param}
use Rattle.ocl_program.specs.declared.exprs.ArrayRef.{ArrayRef}
use Rattle.ocl_program.specs.declared.exprs.Builtin.{Builtin}
use Rattle.ocl_program.specs.declared.exprs.Builtin.TheVariants.{Min, Max}
use Rattle.ocl_program.specs.declared.functions.LocalArray.{LocalArray}
use Rattle.kir.specs.Measures.{Known, IsKnown, IsChecked, AreChecked, reads, forgotten}
use Rattle.kir.specs.Trees.{Operand, VariableOf, NumberOf, Set, Fit, Id, Store, If, Loop, Return, Call, Ops, NoOps, AndOp}
use Rattle.ocl_inline.specs.Trees.{FlatValue, NoFlat, SomeFlat, FlatExpr, NumberFlat, VariableFlat, UnaryFlat, BinaryFlat, BothFlat, EitherFlat, ChooseFlat, CastFlat, LoadFlat, CallFlat, LostFlat, BuiltinFlat, ParenFlat, FlatArgs, NoFlatArgs, NumberArg, NamedArg, FlatStmt, DeclareFlat, LocalArrayFlat, SetVariableFlat, SetElementFlat, CallStmtFlat, BarrierFlat, IfFlat, IfElseFlat, WhileFlat, DoFlat, ForFlat, BreakFlat, ContinueFlat, ReturnFlat, BlockFlat, EmptyFlat, FlatStmts, NoFlats, AndFlat, FlatKernel}
use Rattle.ocl_inline.specs.declared.trees.Binding.{Binding}
use Rattle.ocl_inline.specs.declared.trees.Binding.TheVariants.{Variable as ToVariable, Dropped}
use Rattle.ocl_norm.specs.Normal.{Fragment, calls, right_calls, branches, args_branch, right_branches, pair_ops, bound_ops, load_ops, store_ops, combined_variable, assigned_variable, combined_element, changed_element, assigned_element, given_ops, value_ops, builtin_ops, args_ops, right_ops, declared_ops, return_ops, loop_ops, stmt_ops, stmts_ops, normal_kernel}
use Rattle.ocl_norm.specs.Operators.{truth_ops, unary_ops, binary_ops, one_ops, two_ops}
use Rattle.ocl_inline.specs.Proper.{IsProperKernel}
use Rattle.ocl_norm.proofs.ProperParts.{ProperArgs, ProperExpr, ProperStmt, ProperStmts, ProperValue, body_proper}
use Rattle.ocl_norm.specs.Standings.{Standing, Fixed, Named, Made, standing, right_standing, operand_at, copied, held_at, above, settled}
use Rattle.ocl_norm.proofs.InFront.{InFront, truth_in, unary_in, binary_in, one_in, two_in, copied_in, settled_in}
use Rattle.ocl_norm.proofs.KernelsAlong.{stands}
use Rattle.ocl_norm.proofs.ValuesAlong.{IsStanding, above_from, not_first, not_second}

-- ---- what is known

-- an index is known to be below the count of its array, or nothing is asked
abbrev pub Knows : Option Known → List Known → Type 0
Knows None ks = Unit {0}
Knows (Some k) ks = IsKnown k.array k.index ks

-- operations that are checked where this much is known
abbrev pub Fine : Option Known → Ops → Type 0
Fine k c = (ks : List Known) → Knows k ks → AreChecked ks c

-- the index does not read the variables from the first one on
abbrev pub Clear : ℕ → Option Known → Type 0
Clear d None = Unit {0}
Clear d (Some k) = (j : ℕ) → d ≤ j → reads j k.index ≡ false

pub clear_later : (d d' : ℕ) (k : Option Known) → d ≤ d' → Clear d k → Clear d' k
clear_later d d' None le clear = tt
clear_later d d' (Some k) le clear = λ j more. clear j (omega arith)

-- what does not read a variable is known once that is set
still_known : (d : ℕ) (ks : List Known) (array : ArrayRef) (a : Operand) → IsKnown array a ks → reads d a ≡ false → IsKnown array a (forgotten d ks)
still_known d [] array a known unread = known
still_known d (k ∷ ks) array a known unread =
    cond_both (not (reads d k.index)) (k ∷ forgotten d ks) (forgotten d ks) (λ xs. IsKnown array a xs)
    (λ e. elim known [
      | inl same ↦ inl same
      | inr before ↦ inr (still_known d ks array a before unread)
    ])
    (λ e. elim known [
      | inl same ↦ absurd (true≢false (sym (ap not (ap (λ (x : Known). reads d x.index) same ∙ unread)) ∙ e))
      | inr before ↦ still_known d ks array a before unread
    ])

still : (d : ℕ) (k : Option Known) (j : ℕ) (ks : List Known) → Clear d k → d ≤ j → Knows k ks → Knows k (forgotten j ks)
still d None j ks clear more knows = tt
still d (Some k) j ks clear more knows = still_known j ks k.array k.index knows (clear j more)

and_more : (k : Option Known) (x : Known) (ks : List Known) → Knows k ks → Knows k (x ∷ ks)
and_more None x ks knows = tt
and_more (Some k) x ks knows = inr knows

-- ---- operations

none_fine : (k : Option Known) → Fine k NoOps
none_fine k ks knows = tt

front_fine : (k : Option Known) (d : ℕ) → Clear d k → InFront (Fine k) d
front_fine k d clear = record {
  set = λ j a x more fine ks knows. (tt, fine (forgotten j ks) (still d k j ks clear more knows));
  calculate = λ j op a b x more fine ks knows. (tt, fine (forgotten j ks) (still d k j ks clear more knows));
  fit = λ j elem a x more fine ks knows. (tt, fine (forgotten j ks) (still d k j ks clear more knows));
  id = λ j which a x more fine ks knows. (tt, fine (forgotten j ks) (still d k j ks clear more knows));
}

-- variables of the kernel may be set where nothing is asked
set_fine : (variable : ℕ) (a : Operand) (c : Ops) → Fine None c → Fine None (AndOp (Set variable a) c)
set_fine variable a c fine ks knows = (tt, fine (forgotten variable ks) tt)

fit_fine : (variable : ℕ) (elem : Elem) (a : Operand) (c : Ops) → Fine None c → Fine None (AndOp (Fit variable elem a) c)
fit_fine variable elem a c fine ks knows = (tt, fine (forgotten variable ks) tt)

bound_fine : (binding : Binding) (a : Operand) (c : Ops) → Fine None c → Fine None (bound_ops binding a c)
bound_fine (ToVariable variable elem) a c fine = fit_fine variable elem a c fine
bound_fine Dropped a c fine = fine

given_fine : (gives : Gives) (a : Operand) (result : ℕ) (c : Ops) → Fine None c → Fine None (given_ops gives a result c)
given_fine Nothing a result c fine = set_fine result a c fine
given_fine (Value elem) a result c fine = fit_fine result elem a c fine

if_fine : (test : Operand) (one other c : Ops) → Fine None one → Fine None other → Fine None c → Fine None (AndOp (If test one other) c)
if_fine test one other c first second fine ks knows = ((first [] tt, second [] tt), fine [] tt)

loop_fine : (head : Ops) (test : Operand) (body st c : Ops) → Fine None head → Fine None body → Fine None st → Fine None c → Fine None (AndOp (Loop head test body st) c)
loop_fine head test body st c first second third fine ks knows = ((first [] tt, second [] tt, third [] tt), fine [] tt)

call_fine : (body c : Ops) → Fine None body → Fine None c → Fine None (AndOp (Call body) c)
call_fine body c first fine ks knows = (first [] tt, fine [] tt)

-- ---- loads and stores behind their checks

load_fine : (k : Option Known) (array : ArrayRef) (elem : Elem) (pos : Pos) (place : Operand) (d : ℕ) (c : Ops) → Clear d k → Fine k c → Fine k (load_ops array elem pos place d c)
load_fine k array elem pos place d c clear fine ks knows =
    let known : List Known = record { array = array; index = place } ∷ ks in
    (tt, (inl refl, fine (forgotten d known) (still d k d known clear (omega arith) (and_more k (record { array = array; index = place }) ks knows))))

store_fine : (array : ArrayRef) (elem : Elem) (pos : Pos) (place value : Operand) (c : Ops) → Fine None c → Fine None (store_ops array elem pos place value c)
store_fine array elem pos place value c fine ks knows = (tt, (inl refl, fine (record { array = array; index = place } ∷ ks) tt))

-- ---- parts

-- nothing is asked behind branches
abbrev pub Passes : Option Known → Bool → Type 0
Passes None b = Unit {0}
Passes (Some k) b = b ≡ false

passes_first : (k : Option Known) (a b : Bool) → Passes k (a || b) → Passes k a
passes_first None a b passes = tt
passes_first (Some k) a b passes = not_first a b passes

passes_second : (k : Option Known) (a b : Bool) → Passes k (a || b) → Passes k b
passes_second None a b passes = tt
passes_second (Some k) a b passes = not_second a b passes

abbrev pub PartFine : ℕ → Option Known → Fragment → Type 0
PartFine count k part = (d : ℕ) (c : Ops) → count ≤ d → Clear d k → Fine k c → Fine k (part d c)

pair_fine : (count : ℕ) (k : Option Known) (left : Fragment) (s : Standing) (right : Fragment) (s' : Standing) (calls : Bool) (join : Operand → Operand → ℕ → Ops → Ops)
    → PartFine count k left → PartFine count k right → ((a b : Operand) → PartFine count k (join a b)) → PartFine count k (pair_ops left s right s' calls join)
pair_fine count k left s right s' calls join one other joins d c le clear fine =
    let q : ℕ = above calls s d in
    let from : d ≤ q = above_from calls s d in
    let y : Ops = join (held_at calls s d) (operand_at s' q) d c in
    let x : Ops = right q y in
    one d (copied calls s d x) le clear
    (copied_in (Fine k) d (front_fine k d clear) calls s x
    (other q y (omega arith) (clear_later d q k from clear) (joins (held_at calls s d) (operand_at s' q) d c le clear fine)))

binary_fine : (count : ℕ) (k : Option Known) (op : BinOp) (unsigned : Bool) (a b : Operand) → PartFine count k (binary_ops op unsigned a b)
binary_fine count k op unsigned a b d c le clear fine = binary_in (Fine k) d (front_fine k d clear) op unsigned a b c fine

two_fine : (count : ℕ) (k : Option Known) (which : Builtin) (unsigned : Bool) (a b : Operand) → PartFine count k (two_ops which unsigned a b)
two_fine count k which unsigned a b d c le clear fine = two_in (Fine k) d (front_fine k d clear) which unsigned a b c fine

id_fine : (k : Option Known) (d : ℕ) (which : Builtin) (a : Operand) (c : Ops) → Clear d k → Fine k c → Fine k (AndOp (Id d which a) c)
id_fine k d which a c clear fine ks knows = (tt, fine (forgotten d ks) (still d k d ks clear (omega arith) knows))

truth_fine : (d : ℕ) (a : Operand) (c : Ops) → Fine None c → Fine None (truth_ops a d c)
truth_fine d a c fine = truth_in (Fine None) d (front_fine None d tt) a c fine

settled_fine : (d : ℕ) (s : Standing) (c : Ops) → Fine None c → Fine None (settled s d c)
settled_fine d s c fine = settled_in (Fine None) d (front_fine None d tt) s c fine

-- ---- assignments

combined_variable_fine : (count : ℕ) (op : BinOp) (unsigned : Bool) (variable : ℕ) (elem : Elem) (right : Fragment) (s : Standing) (calls : Bool) → PartFine count None right
    → PartFine count None (combined_variable op unsigned variable elem right s calls)
combined_variable_fine count op unsigned variable elem right s calls part d c le clear fine =
    pair_fine count None (λ first after. after) (Named variable) right s calls (binary_ops op unsigned) (λ first after low free w. w) part (binary_fine count None op unsigned) d
    (AndOp (Fit variable elem (VariableOf d)) c) le clear (fit_fine variable elem (VariableOf d) c fine)

assigned_variable_fine : (count : ℕ) (op : AssignOp) (unsigned : Bool) (variable : ℕ) (elem : Elem) (right : Fragment) (s : Standing) (calls : Bool) → PartFine count None right
    → PartFine count None (assigned_variable op unsigned variable elem right s calls)
assigned_variable_fine count assign.Set unsigned variable elem right s calls part d c le clear fine =
    part d (AndOp (Fit variable elem (operand_at s d)) c) le clear (fit_fine variable elem (operand_at s d) c fine)
assigned_variable_fine count (assign.With op) unsigned variable elem right s calls part d c le clear fine =
    combined_variable_fine count op unsigned variable elem right s calls part d c le clear fine
assigned_variable_fine count assign.Up unsigned variable elem right s calls part d c le clear fine =
    combined_variable_fine count Add unsigned variable elem right s calls part d c le clear fine
assigned_variable_fine count assign.Down unsigned variable elem right s calls part d c le clear fine =
    combined_variable_fine count Sub unsigned variable elem right s calls part d c le clear fine

-- the place of an element is held in front of the variables of the right side
unread : (j d : ℕ) → d < j → nat_eq j d ≡ false
unread j d less = ne_eqb j d (λ e. absurd (omega arith))

held_clear : (count : ℕ) (calls : Bool) (p : Standing) (d : ℕ) (array : ArrayRef) → count ≤ d → IsStanding count p
    → Clear (above calls p d) (Some (record { array = array; index = held_at calls p d }))
held_clear count true (Fixed n) d array le stands = λ j more. refl
held_clear count false (Fixed n) d array le stands = λ j more. refl
held_clear count true (Named k) d array le stands = λ j more. unread j d (omega arith)
held_clear count false (Named k) d array le stands = λ j more. unread j k (omega arith)
held_clear count true Made d array le stands = λ j more. unread j d (omega arith)
held_clear count false Made d array le stands = λ j more. unread j d (omega arith)

-- a right side that is checked, whatever is asked where it has no branches
abbrev pub RightFine : ℕ → Bool → Fragment → Type 0
RightFine count checks right = (k : Option Known) → Passes k checks → PartFine count k right

combined_element_fine : (count : ℕ) (op : BinOp) (unsigned : Bool) (array : ArrayRef) (elem : Elem) (pos : Pos) (right : Fragment) (s : Standing) (checks : Bool) (place : Operand)
    (t : ℕ) (c : Ops) → count ≤ t → Clear t (Some (record { array = array; index = place })) → RightFine count checks right → Fine None c
    → Fine None (combined_element op unsigned array elem pos right s checks place t c)
combined_element_fine count op unsigned array elem pos right s true place t c le clear part fine ks knows =
    let z : Ops = store_ops array elem pos place (VariableOf t) c in
    let y : Ops = binary_ops op unsigned (VariableOf t) (operand_at s (suc t)) t z in
    load_fine None array elem pos place t (right (suc t) y) tt
    (part None tt (suc t) y (omega arith) tt
    (binary_fine count None op unsigned (VariableOf t) (operand_at s (suc t)) t z le tt (store_fine array elem pos place (VariableOf t) c fine))) ks knows
combined_element_fine count op unsigned array elem pos right s false place t c le clear part fine ks knows =
    let k : Known = record { array = array; index = place } in
    let z : Ops = AndOp (Store array elem place (VariableOf t)) c in
    let y : Ops = binary_ops op unsigned (VariableOf t) (operand_at s (suc t)) t z in
    let behind : Fine (Some k) y =
    binary_fine count (Some k) op unsigned (VariableOf t) (operand_at s (suc t)) t z le clear (λ ks' known. (known, fine ks' tt)) in
    let both : Fine (Some k) (right (suc t) y) = part (Some k) refl (suc t) y (omega arith) (clear_later t (suc t) (Some k) (omega arith) clear) behind in
    (tt, (inl refl, both (forgotten t (k ∷ ks)) (still t (Some k) t (k ∷ ks) clear (omega arith) (inl refl))))

changed_element_fine : (count : ℕ) (op : BinOp) (unsigned : Bool) (array : ArrayRef) (elem : Elem) (pos : Pos) (place : Fragment) (p : Standing) (right : Fragment) (s : Standing)
    (calls checks : Bool) → IsStanding count p → PartFine count None place → RightFine count checks right
    → PartFine count None (changed_element op unsigned array elem pos place p right s calls checks)
changed_element_fine count op unsigned array elem pos place p right s calls checks stands one other d c le clear fine =
    let q : ℕ = above calls p d in
    let from : d ≤ q = above_from calls p d in
    let x : Ops = combined_element op unsigned array elem pos right s checks (held_at calls p d) q c in
    one d (copied calls p d x) le tt
    (copied_in (Fine None) d (front_fine None d tt) calls p x
    (combined_element_fine count op unsigned array elem pos right s checks (held_at calls p d) q c (omega arith) (held_clear count calls p d array le stands) other fine))

assigned_element_fine : (count : ℕ) (op : AssignOp) (unsigned : Bool) (array : ArrayRef) (elem : Elem) (pos : Pos) (place : Fragment) (p : Standing) (right : Fragment) (s : Standing)
    (calls checks : Bool) → IsStanding count p → PartFine count None place → RightFine count checks right
    → PartFine count None (assigned_element op unsigned array elem pos place p right s calls checks)
assigned_element_fine count assign.Set unsigned array elem pos place p right s calls checks stands one other d c le clear fine =
    pair_fine count None place p right s calls (λ a b first after. store_ops array elem pos a b after) one (other None tt)
    (λ a b first after low free w. store_fine array elem pos a b after w) d c le clear fine
assigned_element_fine count (assign.With op) unsigned array elem pos place p right s calls checks stands one other d c le clear fine =
    changed_element_fine count op unsigned array elem pos place p right s calls checks stands one other d c le clear fine
assigned_element_fine count assign.Up unsigned array elem pos place p right s calls checks stands one other d c le clear fine =
    changed_element_fine count Add unsigned array elem pos place p right s calls checks stands one other d c le clear fine
assigned_element_fine count assign.Down unsigned array elem pos place p right s calls checks stands one other d c le clear fine =
    changed_element_fine count Sub unsigned array elem pos place p right s calls checks stands one other d c le clear fine

-- ---- the whole

mutual
  pub value_fine : (params : List Param) (arrays : List LocalArray) (count : ℕ) (e : FlatExpr) (k : Option Known) → ProperExpr params arrays count e → Passes k (branches e)
      → PartFine count k (value_ops e)
  value_fine params arrays count (NumberFlat v unsigned) k proper passes d c le clear fine = fine
  value_fine params arrays count (VariableFlat v) k proper passes d c le clear fine = fine
  value_fine params arrays count (UnaryFlat op part) k proper passes d c le clear fine =
      let a : Operand = operand_at (standing part) d in
      value_fine params arrays count part k proper passes d (unary_ops op a d c) le clear (unary_in (Fine k) d (front_fine k d clear) op a c fine)
  value_fine params arrays count (BinaryFlat op unsigned left right) k proper passes d c le clear fine =
      pair_fine count k (value_ops left) (standing left) (value_ops right) (standing right) (calls right) (binary_ops op unsigned)
      (value_fine params arrays count left k proper.0 (passes_first k (branches left) (branches right) passes))
      (value_fine params arrays count right k proper.1 (passes_second k (branches left) (branches right) passes)) (binary_fine count k op unsigned) d c le clear fine
  value_fine params arrays count (BothFlat left right) None proper passes d c le clear fine =
      let x : Ops = truth_ops (operand_at (standing right) (suc d)) d NoOps in
      let y : Ops = AndOp (If (VariableOf d) (value_ops right (suc d) x) NoOps) c in
      value_fine params arrays count left None proper.0 tt d (truth_ops (operand_at (standing left) d) d y) le tt
      (truth_fine d (operand_at (standing left) d) y
      (if_fine (VariableOf d) (value_ops right (suc d) x) NoOps c
      (value_fine params arrays count right None proper.1 tt (suc d) x (omega arith) tt (truth_fine d (operand_at (standing right) (suc d)) NoOps (none_fine None)))
      (none_fine None) fine))
  value_fine params arrays count (BothFlat left right) (Some k) proper passes d c le clear fine = absurd (true≢false passes)
  value_fine params arrays count (EitherFlat left right) None proper passes d c le clear fine =
      let x : Ops = truth_ops (operand_at (standing right) (suc d)) d NoOps in
      let y : Ops = AndOp (If (VariableOf d) NoOps (value_ops right (suc d) x)) c in
      value_fine params arrays count left None proper.0 tt d (truth_ops (operand_at (standing left) d) d y) le tt
      (truth_fine d (operand_at (standing left) d) y
      (if_fine (VariableOf d) NoOps (value_ops right (suc d) x) c (none_fine None)
      (value_fine params arrays count right None proper.1 tt (suc d) x (omega arith) tt (truth_fine d (operand_at (standing right) (suc d)) NoOps (none_fine None)))
      fine))
  value_fine params arrays count (EitherFlat left right) (Some k) proper passes d c le clear fine = absurd (true≢false passes)
  value_fine params arrays count (ChooseFlat unsigned test one other) None proper passes d c le clear fine =
      let x : Ops = settled (standing one) d NoOps in
      let y : Ops = settled (standing other) d NoOps in
      value_fine params arrays count test None proper.0 tt d (AndOp (If (operand_at (standing test) d) (value_ops one d x) (value_ops other d y)) c) le tt
      (if_fine (operand_at (standing test) d) (value_ops one d x) (value_ops other d y) c
      (value_fine params arrays count one None proper.1 tt d x le tt (settled_fine d (standing one) NoOps (none_fine None)))
      (value_fine params arrays count other None proper.2 tt d y le tt (settled_fine d (standing other) NoOps (none_fine None))) fine)
  value_fine params arrays count (ChooseFlat unsigned test one other) (Some k) proper passes d c le clear fine = absurd (true≢false passes)
  value_fine params arrays count (CastFlat elem part) k proper passes d c le clear fine =
      let a : Operand = operand_at (standing part) d in
      let front : InFront (Fine k) d = front_fine k d clear in
      value_fine params arrays count part k proper passes d (AndOp (Fit d elem a) c) le clear (front.fit d elem a c (omega arith) fine)
  value_fine params arrays count (LoadFlat array elem place pos) k proper passes d c le clear fine =
      let a : Operand = operand_at (standing place) d in
      value_fine params arrays count place k proper.1 passes d (load_ops array elem pos a d c) le clear (load_fine k array elem pos a d c clear fine)
  value_fine params arrays count (CallFlat args body) None proper passes d c le clear fine =
      let b : Ops = stmts_ops body d NoOps in
      let x : Ops = AndOp (Set d (NumberOf 0)) (AndOp (Call b) c) in
      args_fine params arrays count args proper.0 d x le tt
      (set_fine d (NumberOf 0) (AndOp (Call b) c) (call_fine b c (stmts_fine params arrays count body proper.1 d NoOps le tt (none_fine None)) fine))
  value_fine params arrays count (CallFlat args body) (Some k) proper passes d c le clear fine = absurd (true≢false passes)
  value_fine params arrays count (LostFlat args) k proper passes d c le clear fine = fine
  value_fine params arrays count (BuiltinFlat which unsigned args) k proper passes d c le clear fine =
      builtin_fine params arrays count args k proper.1 passes which unsigned d c le clear fine
  value_fine params arrays count (ParenFlat part) k proper passes d c le clear fine = value_fine params arrays count part k proper passes d c le clear fine

  pub builtin_fine : (params : List Param) (arrays : List LocalArray) (count : ℕ) (args : FlatArgs) (k : Option Known) → ProperArgs params arrays count args
      → Passes k (args_branch args) → (which : Builtin) (unsigned : Bool) → PartFine count k (builtin_ops which unsigned args)
  builtin_fine params arrays count NoFlatArgs k proper passes which unsigned d c le clear fine = id_fine k d which (NumberOf 0) c clear fine
  builtin_fine params arrays count (NamedArg array more) k proper passes which unsigned d c le clear fine = id_fine k d which (NumberOf 0) c clear fine
  builtin_fine params arrays count (NumberArg x b NoFlatArgs) k proper passes which unsigned d c le clear fine =
      let a : Operand = operand_at (standing x) d in
      value_fine params arrays count x k proper.0 (passes_first k (branches x) false passes) d (one_ops which unsigned a d c) le clear
      (one_in (Fine k) d (front_fine k d clear) which unsigned a c fine)
  builtin_fine params arrays count (NumberArg x b (NamedArg array more)) k proper passes which unsigned d c le clear fine = id_fine k d which (NumberOf 0) c clear fine
  builtin_fine params arrays count (NumberArg x b (NumberArg y b' NoFlatArgs)) k proper passes which unsigned d c le clear fine =
      let rest : Passes k (args_branch (NumberArg y b' NoFlatArgs)) = passes_second k (branches x) (args_branch (NumberArg y b' NoFlatArgs)) passes in
      pair_fine count k (value_ops x) (standing x) (value_ops y) (standing y) (calls y) (two_ops which unsigned)
      (value_fine params arrays count x k proper.0 (passes_first k (branches x) (args_branch (NumberArg y b' NoFlatArgs)) passes))
      (value_fine params arrays count y k proper.2.0 (passes_first k (branches y) false rest)) (two_fine count k which unsigned) d c le clear fine
  builtin_fine params arrays count (NumberArg x b (NumberArg y b' (NamedArg array more))) k proper passes which unsigned d c le clear fine =
      id_fine k d which (NumberOf 0) c clear fine
  builtin_fine params arrays count (NumberArg x b (NumberArg y b' (NumberArg z b'' more))) k proper passes which unsigned d c le clear fine =
      let last : Bool = args_branch (NumberArg z b'' more) in
      let rest : Passes k (branches y || last) = passes_second k (branches x) (branches y || last) passes in
      let rest' : Passes k last = passes_second k (branches y) last rest in
      let v : Ops = two_ops Min unsigned (VariableOf d) (operand_at (standing z) (suc d)) d c in
      let w : Ops = value_ops z (suc d) v in
      pair_fine count k (value_ops x) (standing x) (value_ops y) (standing y) (calls y) (two_ops Max unsigned)
      (value_fine params arrays count x k proper.0 (passes_first k (branches x) (branches y || last) passes))
      (value_fine params arrays count y k proper.2.0 (passes_first k (branches y) last rest)) (two_fine count k Max unsigned) d w le clear
      (value_fine params arrays count z k proper.2.2.0 (passes_first k (branches z) (args_branch more) rest') (suc d) v (omega arith) (clear_later d (suc d) k (omega arith) clear)
      (two_fine count k Min unsigned (VariableOf d) (operand_at (standing z) (suc d)) d c le clear fine))

  pub args_fine : (params : List Param) (arrays : List LocalArray) (count : ℕ) (args : FlatArgs) → ProperArgs params arrays count args → PartFine count None (args_ops args)
  args_fine params arrays count NoFlatArgs proper d c le clear fine = fine
  args_fine params arrays count (NumberArg e binding more) proper d c le clear fine =
      let x : Ops = args_ops more d c in
      let a : Operand = operand_at (standing e) d in
      value_fine params arrays count e None proper.0 tt d (bound_ops binding a x) le tt
      (bound_fine binding a x (args_fine params arrays count more proper.2 d c le tt fine))
  args_fine params arrays count (NamedArg array more) proper d c le clear fine = args_fine params arrays count more proper d c le tt fine

  pub right_fine : (params : List Param) (arrays : List LocalArray) (count : ℕ) (value : FlatValue) (k : Option Known) → ProperValue params arrays count value
      → Passes k (right_branches value) → PartFine count k (right_ops value)
  right_fine params arrays count NoFlat k proper passes d c le clear fine = fine
  right_fine params arrays count (SomeFlat e) k proper passes d c le clear fine = value_fine params arrays count e k proper passes d c le clear fine

  pub declared_fine : (params : List Param) (arrays : List LocalArray) (count : ℕ) (value : FlatValue) → ProperValue params arrays count value → (variable : ℕ) (elem : Elem)
      → PartFine count None (declared_ops variable elem value)
  declared_fine params arrays count NoFlat proper variable elem d c le clear fine = set_fine variable (NumberOf 0) c fine
  declared_fine params arrays count (SomeFlat e) proper variable elem d c le clear fine =
      let x : Ops = AndOp (Fit variable elem (operand_at (standing e) d)) c in
      set_fine variable (NumberOf 0) (value_ops e d x) (value_fine params arrays count e None proper tt d x le tt (fit_fine variable elem (operand_at (standing e) d) c fine))

  pub return_fine : (params : List Param) (arrays : List LocalArray) (count : ℕ) (value : FlatValue) → ProperValue params arrays count value → (gives : Gives)
      → PartFine count None (return_ops gives value)
  return_fine params arrays count NoFlat proper gives result c le clear fine = λ ks knows. (tt, fine [] tt)
  return_fine params arrays count (SomeFlat e) proper gives result c le clear fine =
      let a : Operand = operand_at (standing e) (suc result) in
      let x : Ops = given_ops gives a result (AndOp Return c) in
      value_fine params arrays count e None proper tt (suc result) x (omega arith) tt (given_fine gives a result (AndOp Return c) (λ ks knows. (tt, fine [] tt)))

  pub test_fine : (params : List Param) (arrays : List LocalArray) (count : ℕ) (test : FlatValue) → ProperValue params arrays count test → (body st : Ops) → Fine None body
      → Fine None st → PartFine count None (loop_ops test body st)
  test_fine params arrays count NoFlat proper body st one other d c le clear fine = loop_fine NoOps (NumberOf 1) body st c (none_fine None) one other fine
  test_fine params arrays count (SomeFlat e) proper body st one other d c le clear fine =
      loop_fine (value_ops e d NoOps) (operand_at (standing e) d) body st c (value_fine params arrays count e None proper tt d NoOps le tt (none_fine None)) one other fine

  pub stmt_fine : (params : List Param) (arrays : List LocalArray) (count : ℕ) (s : FlatStmt) → ProperStmt params arrays count s → PartFine count None (stmt_ops s)
  stmt_fine params arrays count (DeclareFlat variable elem value) proper result c le clear fine =
      declared_fine params arrays count value proper.1 variable elem (suc result) c (omega arith) tt fine
  stmt_fine params arrays count (LocalArrayFlat array size) proper result c le clear fine = fine
  stmt_fine params arrays count (SetVariableFlat variable elem op unsigned value) proper result c le clear fine =
      assigned_variable_fine count op unsigned variable elem (right_ops value) (right_standing value) (right_calls value) (right_fine params arrays count value None proper.1 tt)
      (suc result) c (omega arith) tt fine
  stmt_fine params arrays count (SetElementFlat array elem place op unsigned value pos) proper result c le clear fine =
      assigned_element_fine count op unsigned array elem pos (value_ops place) (standing place) (right_ops value) (right_standing value) (right_calls value) (right_branches value)
      (stands params arrays count place proper.2) (value_fine params arrays count place None proper.2 tt)
      (λ k passes. right_fine params arrays count value k proper.3 passes) (suc result) c (omega arith) tt fine
  stmt_fine params arrays count (CallStmtFlat call) proper result c le clear fine = value_fine params arrays count call None proper tt (suc result) c (omega arith) tt fine
  stmt_fine params arrays count (BarrierFlat site) proper result c le clear fine = λ ks knows. (tt, fine ks tt)
  stmt_fine params arrays count (IfFlat test one) proper result c le clear fine =
      let a : Operand = operand_at (standing test) (suc result) in
      let v : Ops = stmt_ops one result NoOps in
      value_fine params arrays count test None proper.0 tt (suc result) (AndOp (If a v NoOps) c) (omega arith) tt
      (if_fine a v NoOps c (stmt_fine params arrays count one proper.1 result NoOps le tt (none_fine None)) (none_fine None) fine)
  stmt_fine params arrays count (IfElseFlat test one other) proper result c le clear fine =
      let a : Operand = operand_at (standing test) (suc result) in
      let v : Ops = stmt_ops one result NoOps in
      let w : Ops = stmt_ops other result NoOps in
      value_fine params arrays count test None proper.0 tt (suc result) (AndOp (If a v w) c) (omega arith) tt
      (if_fine a v w c (stmt_fine params arrays count one proper.1 result NoOps le tt (none_fine None))
      (stmt_fine params arrays count other proper.2 result NoOps le tt (none_fine None)) fine)
  stmt_fine params arrays count (WhileFlat test body) proper result c le clear fine =
      loop_fine (value_ops test (suc result) NoOps) (operand_at (standing test) (suc result)) (stmt_ops body result NoOps) NoOps c
      (value_fine params arrays count test None proper.0 tt (suc result) NoOps (omega arith) tt (none_fine None))
      (stmt_fine params arrays count body proper.1 result NoOps le tt (none_fine None)) (none_fine None) fine
  stmt_fine params arrays count (DoFlat body test) proper result c le clear fine =
      let x : Ops = settled (standing test) (suc result) NoOps in
      let y : Ops = AndOp (Loop NoOps (VariableOf (suc result)) (stmt_ops body result NoOps) (value_ops test (suc result) x)) c in
      set_fine (suc result) (NumberOf 1) y
      (loop_fine NoOps (VariableOf (suc result)) (stmt_ops body result NoOps) (value_ops test (suc result) x) c (none_fine None)
      (stmt_fine params arrays count body proper.0 result NoOps le tt (none_fine None))
      (value_fine params arrays count test None proper.1 tt (suc result) x (omega arith) tt (settled_fine (suc result) (standing test) NoOps (none_fine None))) fine)
  stmt_fine params arrays count (ForFlat first test st body) proper result c le clear fine =
      let b : Ops = stmt_ops body result NoOps in
      let x : Ops = stmts_ops st result NoOps in
      stmts_fine params arrays count first proper.0 result (loop_ops test b x (suc result) c) le tt
      (test_fine params arrays count test proper.1 b x (stmt_fine params arrays count body proper.3 result NoOps le tt (none_fine None))
      (stmts_fine params arrays count st proper.2 result NoOps le tt (none_fine None)) (suc result) c (omega arith) tt fine)
  stmt_fine params arrays count BreakFlat proper result c le clear fine = λ ks knows. (tt, fine [] tt)
  stmt_fine params arrays count ContinueFlat proper result c le clear fine = λ ks knows. (tt, fine [] tt)
  stmt_fine params arrays count (ReturnFlat gives value) proper result c le clear fine = return_fine params arrays count value proper gives result c le tt fine
  stmt_fine params arrays count (BlockFlat items) proper result c le clear fine = stmts_fine params arrays count items proper result c le tt fine
  stmt_fine params arrays count EmptyFlat proper result c le clear fine = fine

  pub stmts_fine : (params : List Param) (arrays : List LocalArray) (count : ℕ) (ss : FlatStmts) → ProperStmts params arrays count ss → PartFine count None (stmts_ops ss)
  stmts_fine params arrays count NoFlats proper result c le clear fine = fine
  stmts_fine params arrays count (AndFlat s ss) proper result c le clear fine =
      stmt_fine params arrays count s proper.0 result (stmts_ops ss result c) le tt (stmts_fine params arrays count ss proper.1 result c le tt fine)

-- ---- kernels

-- each load and each store of the code of a proper kernel stands behind its check
pub kernel_checked : (flat : FlatKernel) → IsProperKernel flat → IsChecked (normal_kernel flat).ops
kernel_checked flat proper = stmts_fine flat.params flat.arrays flat.variables flat.body (body_proper flat proper) flat.variables NoOps (omega arith) tt (none_fine None) [] tt
