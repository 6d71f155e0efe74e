-- The registers of a lane beside the variables of an item: the variables stand in the first registers, and what the lowering keeps behind
-- them. Then steps of the item and the lane.
use Rattle.std.proofs.Common.{◌≡◌, ℕ, suc, ◌+◌, ◌<◌, ◌≤◌, ◌⊎◌, inl, inr, List, [], ◌∷◌, drop, Bool, true, false, not, nat_eq, refl, ap, sym, ◌∙◌, subst, arith, eq-eqb, ne_eqb, eqb-true}
use Rattle.std.specs.Prelude.{if◌then◌else◌}
use Rattle.std.proofs.lemmas.Bool.{cond_both}
use Rattle.vx_base.specs.Values.{alu_value_of}
use Rattle.vx_base.specs.declared.types.Alu.{Alu}
use Rattle.item_acts.specs.Launches.{put_at}
use Rattle.item_acts.specs.Machine.{Go}
use Rattle.item_acts.proofs.Launches.{put_at_other}
use Rattle.item_settings.specs.Settings.{Setting}
use Rattle.ocl_program.specs.declared.exprs.ArrayRef.{ArrayRef}
use Rattle.ocl_program.specs.declared.exprs.Builtin.TheVariants.{GlobalId, LocalId}
use Rattle.step_machine.specs.Sims.{GoAlong, FirstGoes}
use Rattle.kir.specs.Machine as kir
use Rattle.kir.specs.Machine.{value, State, state, Task, Do}
use Rattle.kir.specs.Measures.{Known as Checked, IsKnown, forgotten, reads}
use Rattle.kir.specs.Numbered.{IsBelow}
use Rattle.kir.specs.Trees.{Operand, VariableOf, NumberOf, Op}
use Rattle.vcode.specs.Code.{VOp, Compute}
use Rattle.vcode.specs.Machine as vcode
use Rattle.vcode.specs.Machine.{Around, Lane, lane, op_step, op_cost}
use Rattle.vcode.proofs.Steps.{lane_goes}
use Rattle.simt_lowering.specs.Lowered.{Known, own}
use Rattle.simt_lowering.proofs.IdWords.{second_kept, third_kept}

-- the first registers hold the variables, and each register behind them what a function says
pub record Sees (k : Known) (f vs rs : ℕ → ℕ) : Type 0 where
  pub variable : (j : ℕ) → j < k.variables → rs j ≡ vs j
  pub register : (i : ℕ) → rs (own k i) ≡ f i

differs : {P : Type 0} (j i : ℕ) → nat_eq j i ≡ false → j ≡ i → P
differs j i e h = let g : nat_eq j i ≡ true = eq-eqb j i h in absurd (cc)

-- two registers behind the variables are the same if their numbers are
own_same : (b i j : ℕ) (d : Bool) → nat_eq j i ≡ d → nat_eq (b + j) (b + i) ≡ d
own_same b i j true e = let h : j ≡ i = eqb-true j i e in eq-eqb (b + j) (b + i) (omega arith)
own_same b i j false e = ne_eqb (b + j) (b + i) (λ h. let g : j ≡ i = omega arith in differs j i e g)

pub put_own : (b i j v : ℕ) (f rs : ℕ → ℕ) → rs (b + j) ≡ f j → put_at (b + i) v rs (b + j) ≡ put_at i v f j
put_own b i j v f rs e = ap (λ d. if d then v else rs (b + j)) (own_same b i j (nat_eq j i) refl) ∙ ap (λ x. if nat_eq j i then v else x) e

-- a register behind the variables is written
pub sees_own : (k : Known) (f vs rs : ℕ → ℕ) (i v : ℕ) → Sees k f vs rs → Sees k (put_at i v f) vs (put_at (own k i) v rs)
sees_own k f vs rs i v sees = record {
  variable = λ j less. put_at_other (own k i) v rs j (λ e. omega arith) ∙ sees.variable j less;
  register = λ j. put_own k.variables i j v f rs (sees.register j);
}

-- a variable is set
pub sees_variable : (k : Known) (f vs rs : ℕ → ℕ) (d v : ℕ) → d < k.variables → Sees k f vs rs → Sees k f (put_at d v vs) (put_at d v rs)
sees_variable k f vs rs d v low sees = record {
  variable = λ j less. ap (λ x. if nat_eq j d then v else x) (sees.variable j less);
  register = λ i. put_at_other d v rs (own k i) (λ e. omega arith) ∙ sees.register i;
}

-- an operand has the value that it has for the item
pub same_value : (k : Known) (f vs rs : ℕ → ℕ) (a : Operand) → IsBelow k.variables a → Sees k f vs rs → value rs a ≡ value vs a
same_value k f vs rs (VariableOf j) below sees = sees.variable j below
same_value k f vs rs (NumberOf n) below sees = refl

-- the ids that are kept from the first operations on
pub record Keeps (ids f : ℕ → ℕ) : Type 0 where
  pub kept : (j : ℕ) → 2 ≤ j → j < 8 → f j ≡ ids j

-- another register is written
pub keeps_other : (ids f : ℕ → ℕ) (i v : ℕ) → (i < 2) ⊎ (8 ≤ i) → Keeps ids f → Keeps ids (put_at i v f)
keeps_other ids f i v (inl low) keeps = record { kept = λ j from less. put_at_other i v f j (λ e. omega arith) ∙ keeps.kept j from less }
keeps_other ids f i v (inr high) keeps = record { kept = λ j from less. put_at_other i v f j (λ e. omega arith) ∙ keeps.kept j from less }

-- ---- both machines

-- what is kept of the ids of an item
abbrev pub kept_ids : Setting → ℕ → ℕ
kept_ids at =
    put_at 2 (at.id LocalId 0) (put_at 3 (second_kept (at.id LocalId 0) (at.id LocalId 1)) (put_at 4 (third_kept (at.id LocalId 0) (at.id LocalId 1) (at.id LocalId 2))
    (put_at 5 (at.id GlobalId 0) (put_at 6 (second_kept (at.id GlobalId 0) (at.id GlobalId 1)) (put_at 7 (third_kept (at.id GlobalId 0) (at.id GlobalId 1) (at.id GlobalId 2))
    (λ i. 0))))))

-- the setting of an item, what stands around a lane, the lane's code, and what is known of the kernel
pub record Sides : Type 0 where
  pub setting : Setting
  pub at : Around
  pub code : List VOp
  pub known : Known

-- the item goes along with the lane
abbrev pub Along : Sides → ℕ → State → Lane → Type 0
Along w n s t = GoAlong (kir.step w.setting) (vcode.step w.at w.code) kir.cost (vcode.cost w.code) n s t

-- the indices that are known to be within their arrays are so
abbrev pub Passes : Setting → List Checked → (ℕ → ℕ) → Type 0
Passes setting [] vs = Unit {0}
Passes setting (k ∷ ks) vs = (value vs k.index < (setting.array k.array).count) × Passes setting ks vs

-- from these tasks and this place on all goes well, whatever the variables are
abbrev pub Starts : Sides → ℕ → List Checked → List Task → List ℕ → ℕ → Type 0
Starts w n ks ts turns p = (f vs rs : ℕ → ℕ) (ns : List ℕ) → Sees w.known f vs rs → Keeps (kept_ids w.setting) f → Passes w.setting ks vs
    → Along w n (state ts vs turns) (lane p rs turns ns)

-- a check that has passed
pub passed_one : (setting : Setting) (array : ArrayRef) (a : Operand) (ks : List Checked) (vs : ℕ → ℕ) → IsKnown array a ks → Passes setting ks vs
    → value vs a < (setting.array array).count
passed_one setting array a (k ∷ ks) vs (inl e) passes = subst (λ (x : Checked). value vs x.index < (setting.array x.array).count) e passes.0
passed_one setting array a (k ∷ ks) vs (inr later) passes = passed_one setting array a ks vs later passes.1
passed_one setting array a [] vs none passes = absurd none

-- an operand that does not read a variable keeps its value
unread : (d v : ℕ) (a : Operand) (vs : ℕ → ℕ) → reads d a ≡ false → value (put_at d v vs) a ≡ value vs a
unread d v (VariableOf k) vs e = put_at_other d v vs k (λ h. let g : d ≡ k = sym h in differs d k e g)
unread d v (NumberOf n) vs e = refl

not_true : (b : Bool) → not b ≡ true → b ≡ false
not_true true e = sym e
not_true false e = refl

-- what has passed is not forgotten if no variable of it is set
pub passes_forgotten : (setting : Setting) (d v : ℕ) (ks : List Checked) (vs : ℕ → ℕ) → Passes setting ks vs → Passes setting (forgotten d ks) (put_at d v vs)
passes_forgotten setting d v [] vs passes = tt
passes_forgotten setting d v (k ∷ ks) vs passes =
    let rest : Passes setting (forgotten d ks) (put_at d v vs) = passes_forgotten setting d v ks vs passes.1 in
    cond_both (not (reads d k.index)) (k ∷ forgotten d ks) (forgotten d ks) (λ xs. Passes setting xs (put_at d v vs))
    (λ e. (subst (λ x. x < (setting.array k.array).count) (sym (unread d v k.index vs (not_true (reads d k.index) e))) passes.0, rest))
    (λ e. rest)

-- ---- steps

-- the lane computes into a register behind the variables
pub computes_own : (w : Sides) (n : ℕ) (s : State) (p i : ℕ) (op : Alu) (a b : Operand) (rest : List VOp) (f vs rs : ℕ → ℕ) (ts ns : List ℕ) (x y : ℕ)
    → drop p w.code ≡ Compute (own w.known i) op a b ∷ rest → value rs a ≡ x → value rs b ≡ y → Sees w.known f vs rs
    → ((rs' : ℕ → ℕ) → Sees w.known (put_at i (alu_value_of op x y) f) vs rs' → Along w n s (lane (suc p) rs' ts ns)) → Along w n s (lane p rs ts ns)
computes_own w n s p i op a b rest f vs rs ts ns x y e left right sees next =
    lane_goes (kir.step w.setting) kir.cost w.at w.code rest (Compute (own w.known i) op a b) n s p rs ts ns
    (lane (suc p) (put_at (own w.known i) (alu_value_of op x y) rs) ts ns) e
    (ap (λ v. Go (lane (suc p) (put_at (own w.known i) (alu_value_of op v (value rs b)) rs) ts ns)) left
    ∙ ap (λ v. Go (lane (suc p) (put_at (own w.known i) (alu_value_of op x v) rs) ts ns)) right) refl
    (next (put_at (own w.known i) (alu_value_of op x y) rs) (sees_own w.known f vs rs i (alu_value_of op x y) sees))

-- it writes a value that is known into such a register
pub writes_own : (w : Sides) (n : ℕ) (s : State) (p i v : ℕ) (op : VOp) (rest : List VOp) (f vs rs : ℕ → ℕ) (ts ns ns' : List ℕ)
    → drop p w.code ≡ op ∷ rest → op_step w.at op p rs ts ns ≡ Go (lane (suc p) (put_at (own w.known i) v rs) ts ns') → op_cost op rs ≡ 0 → Sees w.known f vs rs
    → ((rs' : ℕ → ℕ) → Sees w.known (put_at i v f) vs rs' → Along w n s (lane (suc p) rs' ts ns')) → Along w n s (lane p rs ts ns)
writes_own w n s p i v op rest f vs rs ts ns ns' e goes free sees next =
    lane_goes (kir.step w.setting) kir.cost w.at w.code rest op n s p rs ts ns (lane (suc p) (put_at (own w.known i) v rs) ts ns') e goes free
    (next (put_at (own w.known i) v rs) (sees_own w.known f vs rs i v sees))

-- both set a variable to one value
pub both_set : (w : Sides) (n d v p : ℕ) (kop : Op) (op : VOp) (rest : List VOp) (ks : List Checked) (ts : List Task) (f vs rs : ℕ → ℕ) (turns ns : List ℕ)
    → drop p w.code ≡ op ∷ rest → kir.step w.setting (state (Do kop ∷ ts) vs turns) ≡ Go (state ts (put_at d v vs) turns)
    → op_step w.at op p rs turns ns ≡ Go (lane (suc p) (put_at d v rs) turns ns) → op_cost op rs ≡ 0 → d < w.known.variables
    → Starts w n (forgotten d ks) ts turns (suc p) → Sees w.known f vs rs → Keeps (kept_ids w.setting) f → Passes w.setting ks vs
    → Along w n (state (Do kop ∷ ts) vs turns) (lane p rs turns ns)
both_set w n d v p kop op rest ks ts f vs rs turns ns e goes goes' free low next sees keeps passes =
    FirstGoes n (state (Do kop ∷ ts) vs turns) (state ts (put_at d v vs) turns) (lane p rs turns ns) goes
    (lane_goes (kir.step w.setting) kir.cost w.at w.code rest op n (state ts (put_at d v vs) turns) p rs turns ns (lane (suc p) (put_at d v rs) turns ns) e goes' free
    (next f (put_at d v vs) (put_at d v rs) ns (sees_variable w.known f vs rs d v low sees) keeps (passes_forgotten w.setting d v ks vs passes)))
