-- Checks that a lane has passed: an index is below the count of its array as long as no register of it is written.
use Rattle.std.proofs.Common.{◌≡◌, ℕ, suc, ◌+◌, ◌<◌, ◌≤◌, Bool, true, false, not, List, [], ◌∷◌, refl, sym, subst, arith, ne_eqb, eq-eqb}
use Rattle.std.proofs.lemmas.Bool.{cond_both}
use Rattle.std.specs.Prelude.{nat_eq}
use Rattle.item_acts.specs.Launches.{put_at}
use Rattle.item_acts.proofs.Launches.{put_at_other}
use Rattle.item_settings.specs.Settings.{Setting}
use Rattle.kir.specs.Machine.{value}
use Rattle.kir.specs.Measures.{Known as Checked, forgotten, reads}
use Rattle.kir.specs.Numbered.{IsBelow}
use Rattle.kir.specs.Trees.{Operand, VariableOf, NumberOf}
use Rattle.vcode.specs.Code.{VOp, Fresh, Copy, Compute, Cut, Word, WordAt, Learn, Fetch, Write, IfZero, IfNot, Goto, Split, Join, Pred, Tmc, Wspawn, Bar, Trap, Enter, Leaves, Again}
use Rattle.vcode.specs.Machine.{Around, Lane, lane, op_step}
use Rattle.simt_lowering.specs.Runs.{Leads}
use Rattle.simt_lowering.proofs.Sides.{Passes}
use Rattle.simt_lowering.proofs.WrittenBefore.{stays_on}

-- ---- registers of indices

-- none of the indices reads the register
abbrev pub Spares : List Checked → ℕ → Type 0
Spares [] r = Unit {0}
Spares (x ∷ xs) r = (reads r x.index ≡ false) × Spares xs r

-- the indices read registers below a count alone
abbrev pub AllBelow : ℕ → List Checked → Type 0
AllBelow n [] = Unit {0}
AllBelow n (x ∷ xs) = IsBelow n x.index × AllBelow n xs

not_true : (b : Bool) → not b ≡ true → b ≡ false
not_true true e = sym e
not_true false e = refl

clash : {P : Type 0} (r k : ℕ) → nat_eq r k ≡ false → r ≡ k → P
clash r k e h = let g : nat_eq r k ≡ true = eq-eqb r k h in absurd (cc)

pub unread : (r v : ℕ) (a : Operand) (rs : ℕ → ℕ) → reads r a ≡ false → value (put_at r v rs) a ≡ value rs a
unread r v (VariableOf k) rs e = put_at_other r v rs k (λ h. clash r k e (sym h))
unread r v (NumberOf n) rs e = refl

pub reads_high : (n r : ℕ) (a : Operand) → IsBelow n a → n ≤ r → reads r a ≡ false
reads_high n r (VariableOf k) below high = ne_eqb r k (λ e. omega (arith, below, high, e))
reads_high n r (NumberOf m) below high = refl

pub spares_high : (n r : ℕ) (xs : List Checked) → AllBelow n xs → n ≤ r → Spares xs r
spares_high n r [] below high = tt
spares_high n r (x ∷ xs) below high = (reads_high n r x.index below.0 high, spares_high n r xs below.1 high)

pub spares_forgotten : (d : ℕ) (xs : List Checked) → Spares (forgotten d xs) d
spares_forgotten d [] = tt
spares_forgotten d (x ∷ xs) =
    let rest : Spares (forgotten d xs) d = spares_forgotten d xs in
    cond_both (not (reads d x.index)) (x ∷ forgotten d xs) (forgotten d xs) (λ ys. Spares ys d) (λ e. (not_true (reads d x.index) e, rest)) (λ e. rest)

pub forgotten_below : (n d : ℕ) (xs : List Checked) → AllBelow n xs → AllBelow n (forgotten d xs)
forgotten_below n d [] below = tt
forgotten_below n d (x ∷ xs) below =
    let rest : AllBelow n (forgotten d xs) = forgotten_below n d xs below.1 in
    cond_both (not (reads d x.index)) (x ∷ forgotten d xs) (forgotten d xs) (λ ys. AllBelow n ys) (λ e. (below.0, rest)) (λ e. rest)

module _ (setting : Setting) where
  pub passes_spared : (r v : ℕ) (xs : List Checked) (rs : ℕ → ℕ) → Spares xs r → Passes setting xs rs → Passes setting xs (put_at r v rs)
  passes_spared r v [] rs spares passes = tt
  passes_spared r v (x ∷ xs) rs spares passes =
      (subst (λ i. i < (setting.array x.array).count) (sym (unread r v x.index rs spares.0)) passes.0, passes_spared r v xs rs spares.1 passes.1)

  pub passes_fewer : (d : ℕ) (xs : List Checked) (rs : ℕ → ℕ) → Passes setting xs rs → Passes setting (forgotten d xs) rs
  passes_fewer d [] rs passes = tt
  passes_fewer d (x ∷ xs) rs passes =
      let rest : Passes setting (forgotten d xs) rs = passes_fewer d xs rs passes.1 in
      cond_both (not (reads d x.index)) (x ∷ forgotten d xs) (forgotten d xs) (λ ys. Passes setting ys rs) (λ e. (passes.0, rest)) (λ e. rest)

-- ---- operations that lead to the next place, and write no register of an index

abbrev pub SparedBy : List Checked → VOp → Type 0
SparedBy xs Fresh = Unit {0}
SparedBy xs (Copy d a) = Spares xs d
SparedBy xs (Compute d op a b) = Spares xs d
SparedBy xs (Cut d elem a) = Spares xs d
SparedBy xs (Word d k) = Spares xs d
SparedBy xs (WordAt d a k) = Spares xs d
SparedBy xs (Learn d csr) = Spares xs d
SparedBy xs (Fetch d elem a) = Spares xs d
SparedBy xs (Write elem a b) = Unit {0}
SparedBy xs (Split a) = Unit {0}
SparedBy xs Join = Unit {0}
SparedBy xs (Pred a m) = Unit {0}
SparedBy xs (Tmc a) = Unit {0}
SparedBy xs (Wspawn a q) = Unit {0}
SparedBy xs (Bar site) = Unit {0}
SparedBy xs Enter = Unit {0}
SparedBy xs other = ⊥

abbrev pub AllSpared : List Checked → List VOp → Type 0
AllSpared xs [] = Unit {0}
AllSpared xs (op ∷ ops) = SparedBy xs op × AllSpared xs ops

-- a lane at the next place, where the checks hold still
pub record Passed (setting : Setting) (xs : List Checked) (p : ℕ) (t : Lane) : Type 0 where
  pub registers : ℕ → ℕ
  pub turns : List ℕ
  pub numbers : List ℕ
  pub is : lane (suc p) registers turns numbers ≡ t
  pub passes : Passes setting xs registers

module _ (at : Around) (setting : Setting) (xs : List Checked) (p : ℕ) (rs : ℕ → ℕ) (ts ns : List ℕ) (t : Lane) (passes : Passes setting xs rs) where
  wrote : (d v : ℕ) (ns' : List ℕ) → Spares xs d → lane (suc p) (put_at d v rs) ts ns' ≡ t → Passed setting xs p t
  wrote d v ns' spares is = record { registers = put_at d v rs; turns = ts; numbers = ns'; is = is; passes = passes_spared setting d v xs rs spares passes }

  went : (ts' : List ℕ) → lane (suc p) rs ts' ns ≡ t → Passed setting xs p t
  went ts' is = record { registers = rs; turns = ts'; numbers = ns; is = is; passes = passes }

  pub op_passes : (op : VOp) → SparedBy xs op → Leads (op_step at op p rs ts ns) t → Passed setting xs p t
  op_passes Fresh spared leads = went ts leads
  op_passes (Copy d a) spared leads = wrote d _ ns spared leads
  op_passes (Compute d op a b) spared leads = wrote d _ ns spared leads
  op_passes (Cut d elem a) spared leads = wrote d _ ns spared leads
  op_passes (Word d k) spared leads = wrote d _ ns spared leads
  op_passes (WordAt d a k) spared leads = wrote d _ ns spared leads
  op_passes (Learn d csr) spared leads = wrote d _ _ spared leads
  op_passes (Fetch d elem a) spared leads = wrote d _ ns spared leads.1
  op_passes (Write elem a b) spared leads = went ts leads.1
  op_passes (IfZero a q) spared leads = absurd spared
  op_passes (IfNot a q) spared leads = absurd spared
  op_passes (Goto q) spared leads = absurd spared
  op_passes (Split a) spared leads = went ts leads
  op_passes Join spared leads = went ts leads
  op_passes (Pred a m) spared leads = went ts leads
  op_passes (Tmc a) spared leads = went ts (stays_on _ _ t leads)
  op_passes (Wspawn a q) spared leads = went ts leads
  op_passes (Bar site) spared leads = went ts leads.1
  op_passes (Trap pos) spared leads = absurd spared
  op_passes Enter spared leads = went _ leads
  op_passes (Leaves a q) spared leads = absurd spared
  op_passes (Again q) spared leads = absurd spared
