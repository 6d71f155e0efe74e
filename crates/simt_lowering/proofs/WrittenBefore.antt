-- Each register that a lane reads it has written before: the first operations read what they have written, and then every register is
-- written before another is read.
use Rattle.std.proofs.Common.{◌≡◌, ℕ, zero, suc, ◌+◌, ◌<◌, inl, inr, List, [], ◌∷◌, drop, Bool, true, false, refl, ap, sym, subst, ◌∙◌, arith}
use Rattle.std.specs.Prelude.{if◌then◌else◌}
use Rattle.std.proofs.lemmas.Bool.{cases_lt}
use Rattle.vx_base.specs.declared.types.Alu.TheVariants.{Sub, Srl, Sltu, Mul}
use Rattle.item_acts.specs.declared.acts.Action.TheVariants.{End}
use Rattle.item_acts.specs.Machine.{Go, Stop}
use Rattle.kir.specs.Loops.{loop_nesting}
use Rattle.kir.specs.Numbered.{IsBelow}
use Rattle.kir.specs.Trees.{Operand, VariableOf, NumberOf, KirCode}
use Rattle.vcode.specs.declared.ops.Csr.TheVariants.{WarpNumber}
use Rattle.vcode.specs.Code.{VOp, Fresh, Copy, Compute, Cut, Word, WordAt, Learn, Fetch, Write, IfZero, IfNot, Goto, Split, Join, Pred, Tmc, Wspawn, Bar, Trap, Enter, Leaves, Again}
use Rattle.vcode.specs.Machine.{Around, Lane, lane, op_step}
use Rattle.vcode.proofs.Steps.{behind, step_at}
use Rattle.simt_lowering.specs.Bounds.{AreWithin, IsLimited, OpWithin}
use Rattle.simt_lowering.specs.Kept.{known_of_kernel, spawn_place, item_place}
use Rattle.simt_lowering.specs.Lowered.{Known, own, held, further, zeroed, registers_for, kernel_code}
use Rattle.simt_lowering.specs.Runs.{Begins, Comes, IsOneOf, Leads, and_read, and_written, first_read, first_written, read_by}
use Rattle.simt_lowering.specs.WrittenFirst.{WrittenFirst}
use Rattle.simt_lowering.proofs.Registers.{registers_within}

-- ---- operations within a count of registers

operand_below : (count r : ℕ) (a : Operand) (rs : List ℕ) → IsBelow count a → (IsOneOf r rs → r < count) → IsOneOf r (and_read a rs) → r < count
operand_below count r (VariableOf k) rs below rest (inl e) = subst (λ x. x < count) (sym e) below
operand_below count r (VariableOf k) rs below rest (inr later) = rest later
operand_below count r (NumberOf n) rs below rest later = rest later

none_below : (count r : ℕ) → IsOneOf r [] → r < count
none_below count r none = absurd none

one_below : (count r : ℕ) (a : Operand) → IsBelow count a → IsOneOf r (and_read a []) → r < count
one_below count r a below = operand_below count r a [] below (none_below count r)

two_below : (count r : ℕ) (a b : Operand) → IsBelow count a → IsBelow count b → IsOneOf r (and_read a (and_read b [])) → r < count
two_below count r a b below below' = operand_below count r a (and_read b []) below (one_below count r b below')

op_below : (count r : ℕ) (op : VOp) → OpWithin count op → IsOneOf r (read_by op) → r < count
op_below count r Fresh within read = absurd read
op_below count r (Copy d a) within read = one_below count r a within.1 read
op_below count r (Compute d op a b) within read = two_below count r a b within.1 within.2 read
op_below count r (Cut d elem a) within read = one_below count r a within.1 read
op_below count r (Word d k) within read = absurd read
op_below count r (WordAt d a k) within read = one_below count r a within.1 read
op_below count r (Learn d csr) within read = absurd read
op_below count r (Fetch d elem a) within read = one_below count r a within.1 read
op_below count r (Write elem a b) within read = two_below count r a b within.0 within.1 read
op_below count r (IfZero a q) within read = one_below count r a within read
op_below count r (IfNot a q) within read = one_below count r a within read
op_below count r (Goto q) within read = absurd read
op_below count r (Split a) within read = one_below count r a within read
op_below count r Join within read = absurd read
op_below count r (Pred a m) within read = operand_below count r a (m ∷ []) within.0 (λ one. one_below count r (VariableOf m) within.1 one) read
op_below count r (Tmc a) within read = one_below count r a within read
op_below count r (Wspawn a q) within read = one_below count r a within read
op_below count r (Bar site) within read = absurd read
op_below count r (Trap pos) within read = absurd read
op_below count r Enter within read = absurd read
op_below count r (Leaves a q) within read = one_below count r a within read
op_below count r (Again q) within read = absurd read

read_below : (count r : ℕ) (ops : List VOp) → AreWithin count ops → IsOneOf r (first_read ops) → r < count
read_below count r [] within read = absurd read
read_below count r (op ∷ ops) within read = op_below count r op within.0 read

pub within_behind : (count p : ℕ) (ops : List VOp) → AreWithin count ops → AreWithin count (drop p ops)
within_behind count zero [] within = within
within_behind count zero (op ∷ ops) within = within
within_behind count (suc p) [] within = within
within_behind count (suc p) (op ∷ ops) within = within_behind count p ops within.1

-- what is written stays so
op_keeps : (r : ℕ) (op : VOp) (ws : List ℕ) → IsOneOf r ws → IsOneOf r (and_written op ws)
op_keeps r Fresh ws one = one
op_keeps r (Copy d a) ws one = inr one
op_keeps r (Compute d op a b) ws one = inr one
op_keeps r (Cut d elem a) ws one = inr one
op_keeps r (Word d k) ws one = inr one
op_keeps r (WordAt d a k) ws one = inr one
op_keeps r (Learn d csr) ws one = inr one
op_keeps r (Fetch d elem a) ws one = inr one
op_keeps r (Write elem a b) ws one = one
op_keeps r (IfZero a q) ws one = one
op_keeps r (IfNot a q) ws one = one
op_keeps r (Goto q) ws one = one
op_keeps r (Split a) ws one = one
op_keeps r Join ws one = one
op_keeps r (Pred a m) ws one = one
op_keeps r (Tmc a) ws one = one
op_keeps r (Wspawn a q) ws one = one
op_keeps r (Bar site) ws one = one
op_keeps r (Trap pos) ws one = one
op_keeps r Enter ws one = one
op_keeps r (Leaves a q) ws one = one
op_keeps r (Again q) ws one = one

first_keeps : (r : ℕ) (ops : List VOp) (ws : List ℕ) → IsOneOf r ws → IsOneOf r (first_written ops ws)
first_keeps r [] ws one = one
first_keeps r (op ∷ ops) ws one = op_keeps r op ws one

-- ---- from a place on

module _ (at : Around) (code : List VOp) where
  -- with these registers written, each that is read from there on has been written
  abbrev pub Written : ℕ → List ℕ → Type 0
  Written p ws = (rs : ℕ → ℕ) (ts ns : List ℕ) (n : ℕ) (t : Lane) (us : List ℕ) → Comes at code n (lane p rs ts ns) ws t us
      → (r : ℕ) → IsOneOf r (first_read (drop t.place code)) → IsOneOf r us

  -- an operation that leads to the next place alone
  abbrev pub GoesOn : VOp → ℕ → Type 0
  GoesOn op p = (rs : ℕ → ℕ) (ts ns : List ℕ) (m : Lane) → Leads (op_step at op p rs ts ns) m → (rs' : ℕ → ℕ) × (ns' : List ℕ) × (lane (suc p) rs' ts ns' ≡ m)

  pub one_more : (p : ℕ) (op : VOp) (rest : List VOp) (ws : List ℕ) → drop p code ≡ op ∷ rest → GoesOn op p → ((r : ℕ) → IsOneOf r (read_by op) → IsOneOf r ws)
      → Written (suc p) (and_written op ws) → Written p ws
  one_more p op rest ws e goes reads next rs ts ns zero t us comes r read =
      let here : drop t.place code ≡ op ∷ rest = ap (λ (l : Lane). drop l.place code) (sym comes.0) ∙ e in
      subst (IsOneOf r) comes.1 (reads r (subst (λ ops. IsOneOf r (first_read ops)) here read))
  one_more p op rest ws e goes reads next rs ts ns (suc n) t us (m, leads, comes) r read =
      let on = goes rs ts ns m (subst (λ x. Leads x m) (step_at at code (op ∷ rest) p rs ts ns e) leads) in
      let later : Comes at code n m (and_written op ws) t us = subst (λ ops. Comes at code n m (first_written ops ws) t us) e comes in
      next on.0 ts on.1 n t us (subst (λ l. Comes at code n l (and_written op ws) t us) (sym on.2) later) r read

  -- where each register is written, all that is read has been written
  pub all_written : (count : ℕ) → AreWithin count code → (n : ℕ) (s : Lane) (ws : List ℕ) → ((i : ℕ) → i < count → IsOneOf i ws) → (t : Lane) (us : List ℕ)
      → Comes at code n s ws t us → (r : ℕ) → IsOneOf r (first_read (drop t.place code)) → IsOneOf r us
  all_written count within zero s ws all t us comes r read =
      subst (IsOneOf r) comes.1 (all r (read_below count r (drop t.place code) (within_behind count t.place code within) read))
  all_written count within (suc n) s ws all t us (m, leads, comes) r read =
      all_written count within n m (first_written (drop s.place code) ws) (λ i low. first_keeps i (drop s.place code) ws (all i low)) t us comes r read

  -- registers become 0
  one_higher : (r i : ℕ) (ws : List ℕ) → ((j : ℕ) → j < r → IsOneOf j ws) → i < suc r → IsOneOf i (r ∷ ws)
  one_higher r i ws all low =
      elim (cases_lt i r) [
        | inl below ↦ inr (all i below)
        | inr past ↦ let same : i ≡ r = omega arith in inl same
      ]

  pub zeroed_first : (count r p : ℕ) (c : List VOp) (ws : List ℕ) → drop p code ≡ zeroed r count c → ((i : ℕ) → i < r → IsOneOf i ws)
      → ((ws' : List ℕ) → ((i : ℕ) → i < r + count → IsOneOf i ws') → Written (further count p) ws') → Written p ws
  zeroed_first zero r p c ws e all next = next ws (λ i low. all i (omega arith))
  zeroed_first (suc count) r p c ws e all next =
      one_more p (Copy r (NumberOf 0)) (zeroed (suc r) count c) ws e (λ rs ts ns m leads. (_, _, leads)) (λ q read. absurd read)
      (zeroed_first count (suc r) (suc p) c (r ∷ ws) (behind code _ _ p e) (λ i low. one_higher r i ws all low) (λ ws' all'. next ws' (λ i low. all' i (omega arith))))

-- ---- the first operations

one_of : (a : ℕ) (ws : List ℕ) → IsOneOf a ws → (r : ℕ) → IsOneOf r (a ∷ []) → IsOneOf r ws
one_of a ws has r (inl e) = subst (λ x. IsOneOf x ws) (sym e) has
one_of a ws has r (inr none) = absurd none

two_of : (a b : ℕ) (ws : List ℕ) → IsOneOf a ws → IsOneOf b ws → (r : ℕ) → IsOneOf r (a ∷ b ∷ []) → IsOneOf r ws
two_of a b ws has has' r (inl e) = subst (λ x. IsOneOf x ws) (sym e) has
two_of a b ws has has' r (inr later) = one_of b ws has' r later

pub stays_on : (b : Bool) (l m : Lane) → Leads (if b then Go l else Stop End) m → l ≡ m
stays_on true l m leads = leads
stays_on false l m leads = absurd leads

module _ (code : KirCode) (marks : ℕ → Bool) (at : Around) (limited : IsLimited code) where
  abbrev k : Known
  k = known_of_kernel marks code

  abbrev ops : List VOp
  ops = kernel_code marks code

  abbrev registers : ℕ
  registers = registers_for code.variables (loop_nesting code.ops)

  below_all : (i : ℕ) → i < registers → i < 0 + registers
  below_all i low = omega arith

  from_item : (ws : List ℕ) → Written at ops item_place ws
  from_item ws =
      one_more at ops 14 Fresh _ ws refl (λ rs ts ns m leads. (_, _, leads)) (λ r read. absurd read)
      (zeroed_first at ops registers 0 15 _ ws refl (λ i low. absurd (omega arith)) (λ ws' all rs ts ns n t us comes r read.
      all_written at ops registers (registers_within code marks limited) n _ ws' (λ i low. all i (below_all i low)) t us comes r read))

  from_spawn : (ws : List ℕ) → Written at ops spawn_place ws
  from_spawn ws =
      let b0 : ℕ = own k 0 in
      let b1 : ℕ = own k 1 in
      let b2 : ℕ = own k 2 in
      let w1 : List ℕ = b0 ∷ ws in
      let w2 : List ℕ = b1 ∷ w1 in
      let w3 : List ℕ = b2 ∷ w2 in
      let w4 : List ℕ = b1 ∷ w3 in
      let w5 : List ℕ = b0 ∷ w4 in
      let w6 : List ℕ = b1 ∷ w5 in
      let w7 : List ℕ = b0 ∷ w6 in
      let w8 : List ℕ = b0 ∷ w7 in
      let w9 : List ℕ = b0 ∷ w8 in
      one_more at ops 3 Fresh _ ws refl (λ rs ts ns m leads. (_, _, leads)) (λ r read. absurd read)
      (one_more at ops 4 (Word (own k 0) 1) _ ws refl (λ rs ts ns m leads. (_, _, leads)) (λ r read. absurd read)
      (one_more at ops 5 (Learn (own k 1) WarpNumber) _ w1 refl (λ rs ts ns m leads. (_, _, leads)) (λ r read. absurd read)
      (one_more at ops 6 (Word (own k 2) 15) _ w2 refl (λ rs ts ns m leads. (_, _, leads)) (λ r read. absurd read)
      (one_more at ops 7 (Compute (own k 1) Mul (held k 1) (held k 2)) _ w3 refl (λ rs ts ns m leads. (_, _, leads)) (two_of b1 b2 w3 (inr (inl refl)) (inl refl))
      (one_more at ops 8 (Compute (own k 0) Sub (held k 0) (held k 1)) _ w4 refl (λ rs ts ns m leads. (_, _, leads)) (two_of b0 b1 w4 (inr (inr (inr (inl refl)))) (inl refl))
      (one_more at ops 9 (Compute (own k 1) Sltu (held k 0) (NumberOf 32)) _ w5 refl (λ rs ts ns m leads. (_, _, leads)) (one_of b0 w5 (inl refl))
      (one_more at ops 10 (Compute (own k 0) Sub (NumberOf 32) (held k 0)) _ w6 refl (λ rs ts ns m leads. (_, _, leads)) (one_of b0 w6 (inr (inl refl)))
      (one_more at ops 11 (Compute (own k 0) Mul (held k 0) (held k 1)) _ w7 refl (λ rs ts ns m leads. (_, _, leads)) (two_of b0 b1 w7 (inl refl) (inr (inl refl)))
      (one_more at ops 12 (Compute (own k 0) Srl (NumberOf 0xffffffff) (held k 0)) _ w8 refl (λ rs ts ns m leads. (_, _, leads)) (one_of b0 w8 (inl refl))
      (one_more at ops 13 (Tmc (held k 0)) _ w9 refl (λ rs ts ns m leads. (_, _, stays_on _ _ m leads)) (one_of b0 w9 (inl refl))
      (from_item w9)))))))))))

  from_first : (ws : List ℕ) → Written at ops 0 ws
  from_first ws =
      one_more at ops 0 Fresh _ ws refl (λ rs ts ns m leads. (_, _, leads)) (λ r read. absurd read)
      (one_more at ops 1 (Word (own k 0) 0) _ ws refl (λ rs ts ns m leads. (_, _, leads)) (λ r read. absurd read)
      (one_more at ops 2 (Wspawn (held k 0) 3) _ (own k 0 ∷ ws) refl (λ rs ts ns m leads. (_, _, leads)) (one_of (own k 0) (own k 0 ∷ ws) (inl refl))
      (from_spawn (own k 0 ∷ ws))))

  from_begin : (p : ℕ) → Begins p → Written at ops p []
  from_begin p (inl e) = subst (λ q. Written at ops q []) (sym e) (from_first [])
  from_begin p (inr (inl e)) = subst (λ q. Written at ops q []) (sym e) (from_spawn [])
  from_begin p (inr (inr e)) = subst (λ q. Written at ops q []) (sym e) (from_item [])

pub written_first : WrittenFirst
written_first code marks limited at p rs ns begins n t us comes = from_begin code marks at limited p begins rs [] ns n t us comes
