-- What a part of a body has of each kind, and what its typing does to what the function has so far.
use Rattle.std.proofs.Common.{◌≡◌, sym, ap, ◌∙◌, subst, ℕ, ◌+◌, ◌-◌, ◌^◌, ◌<◌, ◌≤◌, List, [], ◌∷◌, ◌++◌, map, length, Option, append_assoc, arith}
use Rattle.std.specs.List.{range_with_len}
use Rattle.std.proofs.lemmas.List.{append-nil, length-append}
use Rattle.std.proofs.lemmas.List.FromFn.{map-range_with_len_more}
use Rattle.ocl_program.specs.declared.functions.LocalArray.{LocalArray}
use Rattle.ocl_program.specs.Measures.{cut}
use Rattle.ocl_program.specs.Nodes.{ExprNode, ArgNodes, StmtNode, StmtNodes}
use Rattle.ocl_types.specs.declared.names.Binding.{Binding}
use Rattle.ocl_types.specs.declared.names.Binding.TheVariants.{Scalar as ScalarBinding, Array as ArrayBinding}
use Rattle.ocl_types.specs.Names.{Scope}
use Rattle.ocl_types.specs.Stmts.{Standing}
use Rattle.program_laws.specs.Formed.{AreBelow, where_written, expr_calls, args_calls, stmt_calls, stmts_calls, stmt_sites, stmts_sites, expr_variables, args_variables, stmt_variables, stmts_variables, stmt_arrays, stmts_arrays, stmt_declared, stmts_declared}

-- the numbers in a part of a body, and what is declared there
pub record Pieces : Type 0 where
  pub calls : List ℕ
  pub sites : List ℕ
  pub variables : List ℕ
  pub arrays : List ℕ
  pub declared : List ℕ

abbrev pub none : Pieces
none = record { calls = []; sites = []; variables = []; arrays = []; declared = [] }

abbrev pub joined : Pieces → Pieces → Pieces
joined p q = record { calls = p.calls ++ q.calls; sites = p.sites ++ q.sites; variables = p.variables ++ q.variables; arrays = p.arrays ++ q.arrays; declared = p.declared ++ q.declared }

abbrev pub one_variable : ℕ → Pieces
one_variable v = record { calls = []; sites = []; variables = v ∷ []; arrays = []; declared = [] }

abbrev pub one_call : ℕ → Pieces
one_call k = record { calls = k ∷ []; sites = []; variables = []; arrays = []; declared = [] }

abbrev pub one_site : ℕ → Pieces
one_site k = record { calls = []; sites = k ∷ []; variables = []; arrays = []; declared = [] }

abbrev pub one_array : ℕ → Pieces
one_array k = record { calls = []; sites = []; variables = []; arrays = k ∷ []; declared = [] }

abbrev pub named : List ℕ → Pieces
named ns = record { calls = []; sites = []; variables = []; arrays = []; declared = ns }

abbrev pub in_expr : ExprNode → Pieces
in_expr e = record { calls = expr_calls e; sites = []; variables = expr_variables e; arrays = []; declared = [] }

abbrev pub in_args : ArgNodes → Pieces
in_args args = record { calls = args_calls args; sites = []; variables = args_variables args; arrays = []; declared = [] }

abbrev pub in_option : Option ExprNode → Pieces
in_option value = record { calls = where_written expr_calls value; sites = []; variables = where_written expr_variables value; arrays = []; declared = [] }

abbrev pub in_stmt : StmtNode → Pieces
in_stmt s = record { calls = stmt_calls s; sites = stmt_sites s; variables = stmt_variables s; arrays = stmt_arrays s; declared = stmt_declared s }

abbrev pub in_stmts : StmtNodes → Pieces
in_stmts ss = record { calls = stmts_calls ss; sites = stmts_sites ss; variables = stmts_variables ss; arrays = stmts_arrays ss; declared = stmts_declared ss }

-- ---- numbers that are less

pub below_more : {a b : ℕ} (ns : List ℕ) → a ≤ b → AreBelow a ns → AreBelow b ns
below_more [] le h = tt
below_more (n ∷ ns) le h = let one = h.0 in (omega arith, below_more ns le h.1)

pub below_both : (a : ℕ) (ns ms : List ℕ) → AreBelow a ns → AreBelow a ms → AreBelow a (ns ++ ms)
below_both a [] ms h k = k
below_both a (n ∷ ns) ms h k = (h.0, below_both a ns ms h.1 k)

-- a variable of a scope is one of those so far
abbrev pub IsBelow : ℕ → Binding → Type 0
IsBelow bound (ScalarBinding variable elem constant) = variable < bound
IsBelow bound (ArrayBinding array space elem readonly) = Unit {0}

abbrev pub ScopeBelow : ℕ → Scope → Type 0
ScopeBelow bound [] = Unit {0}
ScopeBelow bound (entry ∷ more) = IsBelow bound entry.1 × ScopeBelow bound more

abbrev pub ScopesBelow : ℕ → List Scope → Type 0
ScopesBelow bound [] = Unit {0}
ScopesBelow bound (scope ∷ outer) = ScopeBelow bound scope × ScopesBelow bound outer

binding_more : {a b : ℕ} (binding : Binding) → a ≤ b → IsBelow a binding → IsBelow b binding
binding_more (ScalarBinding variable elem constant) le h = omega arith
binding_more (ArrayBinding array space elem readonly) le h = tt

pub scope_more : {a b : ℕ} (scope : Scope) → a ≤ b → ScopeBelow a scope → ScopeBelow b scope
scope_more [] le h = tt
scope_more (entry ∷ more) le h = (binding_more entry.1 le h.0, scope_more more le h.1)

pub scopes_more : {a b : ℕ} (scopes : List Scope) → a ≤ b → ScopesBelow a scopes → ScopesBelow b scopes
scopes_more [] le h = tt
scopes_more (scope ∷ outer) le h = (scope_more scope le h.0, scopes_more outer le h.1)

-- ---- numbers in order

abbrev pub InOrder : List ℕ → Type 0
InOrder ns = ns ≡ map cut (range_with_len 0 (length ns))

-- that numbers behind others in order are in order, where a and b of them stand before and behind
pub record Orders (a : ℕ) (ns : List ℕ) (b : ℕ) : Type 0 where
  pub count : (before : List ℕ) → a ≡ cut (length before) → b ≡ cut (length (before ++ ns))
  pub order : (before : List ℕ) → a ≡ cut (length before) → InOrder before → InOrder (before ++ ns)

pub orders_none : (a : ℕ) → Orders a [] a
orders_none a = record {
  count = λ before is. subst (λ (xs : List ℕ). a ≡ cut (length xs)) (sym (append-nil before)) is;
  order = λ before is ordered. subst InOrder (sym (append-nil before)) ordered;
}

pub orders_both : {a b c : ℕ} (ns ms : List ℕ) → Orders a ns b → Orders b ms c → Orders a (ns ++ ms) c
orders_both {a = a} {c = c} ns ms h k = record {
  count = λ before is. subst (λ (xs : List ℕ). c ≡ cut (length xs)) (append_assoc before ns ms) (k.count (before ++ ns) (h.count before is));
  order = λ before is ordered. subst InOrder (append_assoc before ns ms) (k.order (before ++ ns) (h.count before is) (h.order before is ordered));
}

one_longer : (before : List ℕ) (a : ℕ) → length (before ++ a ∷ []) ≡ length before + 1
one_longer before a = length-append before (a ∷ [])

pub orders_one : (a b : ℕ) → ((n : ℕ) → a ≡ cut n → b ≡ cut (n + 1)) → Orders a (a ∷ []) b
orders_one a b next = record {
  count = λ before is. next (length before) is ∙ ap cut (sym (one_longer before a));
  order = λ before is ordered.
      ap (λ (xs : List ℕ). xs ++ a ∷ []) ordered ∙ ap (λ (x : ℕ). map cut (range_with_len 0 (length before)) ++ x ∷ []) is
      ∙ sym (map-range_with_len_more cut 0 (length before) (length before) (omega arith)) ∙ ap (λ (n : ℕ). map cut (range_with_len 0 n)) (sym (one_longer before a));
}

-- ---- arrays

abbrev pub AreSmall : List LocalArray → Type 0
AreSmall [] = Unit {0}
AreSmall (array ∷ more) = (1 ≤ array.count) × (array.count ≤ 262144) × AreSmall more

-- ---- what the typing of a part does

-- a variable's number is cut only where there are this many
abbrev pub most : ℕ
most = 2 ^ 32 - 1

-- where no number of a variable was cut
pub record Counts (st : Standing) (variables : List ℕ) (behind : Standing) : Type 0 where
  pub more : st.variables ≤ behind.variables
  pub scopes : ScopesBelow st.variables st.scopes → ScopesBelow behind.variables behind.scopes
  pub below : ScopesBelow st.variables st.scopes → AreBelow behind.variables variables

-- what a function has so far, before and behind a part of its body; there are n functions
pub record Moves (n : ℕ) (st : Standing) (p : Pieces) (behind : Standing) : Type 0 where
  pub small : AreSmall st.arrays → AreSmall behind.arrays
  pub callees : AreBelow n st.calls → AreBelow n behind.calls
  pub calls : Orders (cut (length st.calls)) p.calls (cut (length behind.calls))
  pub sites : Orders st.sites p.sites behind.sites
  pub arrays : Orders (cut (length st.arrays)) p.arrays (cut (length behind.arrays))
  pub variables : behind.variables < most → Counts st p.variables behind
  pub declared : behind.variables ≤ st.variables + length p.declared

pub moves_none : (n : ℕ) (st : Standing) → Moves n st none st
moves_none n st = record {
  small = λ h. h;
  callees = λ h. h;
  calls = orders_none (cut (length st.calls));
  sites = orders_none st.sites;
  arrays = orders_none (cut (length st.arrays));
  variables = λ h. record { more = omega arith; scopes = λ below. below; below = λ below. tt };
  declared = omega arith;
}

counts_both : {st middle behind : Standing} (ns ms : List ℕ) → (middle.variables < most → Counts st ns middle) → Counts middle ms behind → behind.variables < most → Counts st (ns ++ ms) behind
counts_both {st = st} {middle = middle} {behind = behind} ns ms h k within =
    let le : middle.variables ≤ behind.variables = k.more in
    let first : Counts st ns middle = h (omega arith) in
    let before : st.variables ≤ middle.variables = first.more in
    record {
      more = omega arith;
      scopes = λ below. k.scopes (first.scopes below);
      below = λ below. below_both behind.variables ns ms (below_more ns le (first.below below)) (k.below (first.scopes below));
    }

pub moves_both : {n : ℕ} {st middle behind : Standing} {p q : Pieces} → Moves n st p middle → Moves n middle q behind → Moves n st (joined p q) behind
moves_both {p = p} {q = q} h k = let whole : length (p.declared ++ q.declared) ≡ length p.declared + length q.declared = length-append p.declared q.declared in record {
  small = λ small. k.small (h.small small);
  callees = λ below. k.callees (h.callees below);
  calls = orders_both p.calls q.calls h.calls k.calls;
  sites = orders_both p.sites q.sites h.sites k.sites;
  arrays = orders_both p.arrays q.arrays h.arrays k.arrays;
  variables = λ within. counts_both p.variables q.variables h.variables (k.variables within) within;
  declared = omega (arith, h.declared, k.declared);
}

pub moves_as : {n : ℕ} {st behind : Standing} {p q : Pieces} → p ≡ q → Moves n st p behind → Moves n st q behind
moves_as {n = n} {st = st} {behind = behind} e h = subst (λ p. Moves n st p behind) e h
