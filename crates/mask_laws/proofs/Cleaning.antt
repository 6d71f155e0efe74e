-- Lanes of a kernel read only registers that they have written: the first operations write each of them.
use Rattle.std.proofs.Common.{◌≡◌, ℕ, zero, suc, ◌+◌, ◌<◌, ◌≤◌, ◌⊎◌, inl, inr, Bool, true, false, List, [], ◌∷◌, drop, nat_eq, refl, ap, sym, ◌∙◌, subst, arith, eq-or-lt_of_le, le_of_suc-le-suc}
use Rattle.std.specs.Prelude.{if◌then◌else◌}
use Rattle.item_acts.specs.Launches.{put_at}
use Rattle.item_acts.proofs.Launches.{put_at_same}
use Rattle.item_acts.specs.declared.acts.Action.TheVariants.{End}
use Rattle.item_acts.specs.Machine.{Go, Stop}
use Rattle.kir.specs.Loops.{loop_nesting}
use Rattle.kir.specs.Machine.{value}
use Rattle.kir.specs.Numbered.{IsBelow}
use Rattle.kir.specs.Trees.{Operand, VariableOf, NumberOf, KirCode}
use Rattle.vx_isa.specs.Warps.{has_lane}
use Rattle.vcode.specs.Code.{VOp, Fresh, Copy, Compute, Cut, Word, WordAt, Learn, Fetch, Write, IfZero, IfNot, Split, Pred, Tmc, Wspawn, Leaves}
use Rattle.vcode.specs.Machine as vcode
use Rattle.vcode.specs.Machine.{Around, Lane, lane, lane_start, op_step, step_from}
use Rattle.vcode.proofs.Steps.{behind}
use Rattle.simt_lowering.specs.Bounds.{AreWithin, OpWithin, IsLimited}
use Rattle.simt_lowering.specs.Kept.{known_of_kernel, item_place, spawn_place}
use Rattle.simt_lowering.specs.Lowered.{Known, own, held, registers_for, zeroed, scalars, ids_code, item_lanes, lowered, body_start, kernel_code}
use Rattle.simt_lowering.proofs.Registers.{registers_within}
use Rattle.mask_laws.specs.Clean.{IsWritten, ReadsWritten, wrote, LeadsTo, Writes, Stands, Moves, IsClean, BeginsClean, LanesBeginClean}
use Rattle.mask_laws.proofs.Spelling.{puts, zeroed_puts}

-- ---- what is written stays written

put_stays : (d r : ℕ) (written : ℕ → Bool) → written r ≡ true → put_at d true written r ≡ true
put_stays d r written e = by (nat_eq r d) where
  by : (b : Bool) → (if b then true else written r) ≡ true
  by true = refl
  by false = e

wrote_stays : (op : VOp) (r : ℕ) (written : ℕ → Bool) → written r ≡ true → wrote op written r ≡ true
wrote_stays (Copy d a) r written e = put_stays d r written e
wrote_stays (Compute d op a b) r written e = put_stays d r written e
wrote_stays (Cut d elem a) r written e = put_stays d r written e
wrote_stays (Word d k) r written e = put_stays d r written e
wrote_stays (WordAt d a k) r written e = put_stays d r written e
wrote_stays (Learn d csr) r written e = put_stays d r written e
wrote_stays (Fetch d elem a) r written e = put_stays d r written e
wrote_stays other r written e = e

-- ---- all registers below a count are written

abbrev AllWritten : ℕ → (ℕ → Bool) → Type 0
AllWritten n written = (r : ℕ) → r < n → written r ≡ true

below_written : (n : ℕ) (written : ℕ → Bool) (a : Operand) → AllWritten n written → IsBelow n a → IsWritten written a
below_written n written (VariableOf r) all low = all r low
below_written n written (NumberOf x) all low = tt

within_written : (n : ℕ) (written : ℕ → Bool) (op : VOp) → AllWritten n written → OpWithin n op → ReadsWritten written op
within_written n written (Copy d a) all h = below_written n written a all h.1
within_written n written (Compute d op a b) all h = (below_written n written a all h.1, below_written n written b all h.2)
within_written n written (Cut d elem a) all h = below_written n written a all h.1
within_written n written (WordAt d a k) all h = below_written n written a all h.1
within_written n written (Fetch d elem a) all h = below_written n written a all h.1
within_written n written (Write elem a b) all h = (below_written n written a all h.0, below_written n written b all h.1)
within_written n written (IfZero a q) all h = below_written n written a all h
within_written n written (IfNot a q) all h = below_written n written a all h
within_written n written (Split a) all h = below_written n written a all h
within_written n written (Pred a m) all h = (below_written n written a all h.0, all m h.1)
within_written n written (Tmc a) all h = below_written n written a all h
within_written n written (Wspawn a q) all h = below_written n written a all h
within_written n written (Leaves a q) all h = below_written n written a all h
within_written n written other all h = tt

within_at : (n : ℕ) (list : List VOp) (p : ℕ) (op : VOp) (ops : List VOp) → AreWithin n list → drop p list ≡ op ∷ ops → OpWithin n op
within_at n [] zero op ops h e = absurd (cc)
within_at n [] (suc p) op ops h e = absurd (cc)
within_at n (x ∷ list) zero op ops h e = subst (OpWithin n) (first_same e) h.0 where
  head_or : List VOp → VOp
  head_or [] = Fresh
  head_or (o ∷ os) = o

  first_same : (x ∷ list) ≡ (op ∷ ops) → x ≡ op
  first_same e' = ap head_or e'
within_at n (x ∷ list) (suc p) op ops h e = within_at n list p op ops h.1 e

-- ---- straight code that writes them

-- an operation that leads to the place behind it, or stops
abbrev Passes : VOp → Type 0
Passes Fresh = Unit {0}
Passes (Copy d a) = Unit {0}
Passes (Compute d op a b) = Unit {0}
Passes (Word d k) = Unit {0}
Passes (Learn d csr) = Unit {0}
Passes (Wspawn a q) = Unit {0}
Passes (Tmc a) = Unit {0}
Passes other = ⊥

tmc_leads : (b : Bool) (s t : Lane) → LeadsTo (if b then Go s else Stop End) t → s ≡ t
tmc_leads true s t e = e
tmc_leads false s t e = absurd e

passes_on : (at : Around) (op : VOp) (p : ℕ) (rs : ℕ → ℕ) (ts ns : List ℕ) (t : Lane) → Passes op → LeadsTo (op_step at op p rs ts ns) t → suc p ≡ t.place
passes_on at Fresh p rs ts ns t h e = ap (λ s. s.place) e
passes_on at (Copy d a) p rs ts ns t h e = ap (λ s. s.place) e
passes_on at (Compute d op a b) p rs ts ns t h e = ap (λ s. s.place) e
passes_on at (Word d k) p rs ts ns t h e = ap (λ s. s.place) e
passes_on at (Learn d csr) p rs ts ns t h e = ap (λ s. s.place) e
passes_on at (Wspawn a q) p rs ts ns t h e = ap (λ s. s.place) e
passes_on at (Tmc a) p rs ts ns t h e = ap (λ s. s.place) (tmc_leads (has_lane (value rs a) at.number) (lane (suc p) rs ts ns) t e)
passes_on at other p rs ts ns t h e = absurd h

-- operations that pass on, read only what was written, and leave all below a count written
abbrev Opens : ℕ → (ℕ → Bool) → List VOp → Type 0
Opens n written [] = AllWritten n written
Opens n written (op ∷ ops) = Passes op × ReadsWritten written op × Opens n (wrote op written) ops

module _ (at : Around) (code : List VOp) (n : ℕ) (within : AreWithin n code) where
  -- where a lane is in them, or behind
  abbrev Phase : Lane → (ℕ → Bool) → Type 0
  Phase s written = AllWritten n written ⊎ ((pre : List VOp) × (tail : List VOp) × (drop s.place code ≡ puts pre tail) × Opens n written pre)

  same_head : (op op' : VOp) (ops ops' : List VOp) → (op ∷ ops) ≡ (op' ∷ ops') → op ≡ op'
  same_head op op' ops ops' e = cc

  reads_in : (s : Lane) (written : ℕ → Bool) (op : VOp) (ops pre tail : List VOp) → drop s.place code ≡ puts pre tail → Opens n written pre → drop s.place code ≡ op ∷ ops → ReadsWritten written op
  reads_in s written op ops [] tail stands opens e = within_written n written op opens (within_at n code s.place op ops within e)
  reads_in s written op ops (x ∷ pre) tail stands opens e = subst (ReadsWritten written) (same_head x op (puts pre tail) ops (sym stands ∙ e)) opens.1

  reads_at : (s : Lane) (written : ℕ → Bool) (op : VOp) (ops : List VOp) → Phase s written → drop s.place code ≡ op ∷ ops → ReadsWritten written op
  reads_at s written op ops (inl all) e = within_written n written op all (within_at n code s.place op ops within e)
  reads_at s written op ops (inr opening) e = reads_in s written op ops opening.0 opening.1 opening.2 opening.3 e

  goes_in : (s s' : Lane) (written : ℕ → Bool) (op : VOp) (ops pre tail : List VOp) → drop s.place code ≡ puts pre tail → Opens n written pre → drop s.place code ≡ op ∷ ops → LeadsTo (vcode.step at code s) s' → Phase s' (wrote op written)
  goes_in s s' written op ops [] tail stands opens e leads = inl (λ r less. wrote_stays op r written (opens r less))
  goes_in s s' written op ops (x ∷ pre) tail stands opens e leads =
      let same : x ≡ op = same_head x op (puts pre tail) ops (sym stands ∙ e) in
      let step : LeadsTo (op_step at x s.place s.registers s.turns s.numbers) s' = subst (λ c. LeadsTo (step_from at c s.place s.registers s.turns s.numbers) s') stands leads in
      let place : suc s.place ≡ s'.place = passes_on at x s.place s.registers s.turns s.numbers s' opens.0 step in
      inr (pre, tail, ap (λ p. drop p code) (sym place) ∙ behind code (puts pre tail) x s.place stands, subst (λ o. Opens n (wrote o written) pre) same opens.2)

  goes_at : (s s' : Lane) (written : ℕ → Bool) (op : VOp) (ops : List VOp) → Phase s written → drop s.place code ≡ op ∷ ops → LeadsTo (vcode.step at code s) s' → Phase s' (wrote op written)
  goes_at s s' written op ops (inl all) e leads = inl (λ r less. wrote_stays op r written (all r less))
  goes_at s s' written op ops (inr opening) e leads = goes_in s s' written op ops opening.0 opening.1 opening.2 opening.3 e leads

  comes_in : {s t : Lane} {written written' : ℕ → Bool} → Writes at code s written t written' → Phase s written → Phase t written'
  comes_in (Stands s written) phase = phase
  comes_in (Moves s s' t written written' op ops stands leads later) phase = comes_in later (goes_at s s' written op ops phase stands leads)

  clean_from : (s : Lane) (pre tail : List VOp) → drop s.place code ≡ puts pre tail → Opens n (λ r. false) pre → IsClean at code s
  clean_from s pre tail stands opens t written op ops writes e = reads_at t written op ops (comes_in writes (inr (pre, tail, stands, opens))) e

-- ---- the first operations of a kernel

module _ (k : Known) (n : ℕ) where
  -- all below a number are written, and so many from it on are next
  zeroes : (m r : ℕ) (written : ℕ → Bool) → AllWritten r written → n ≤ r + m → Opens n written (zeroed r m [])
  zeroes zero r written below all = λ q less. below q (less_still q less) where
    less_still : (q : ℕ) → q < n → q < r
    less_still q less = omega (arith, less, all)
  zeroes (suc m) r written below all = (tt, tt, zeroes m (suc r) (put_at r true written) one_more (omega (arith, all))) where
    one_more : (q : ℕ) → q < suc r → put_at r true written q ≡ true
    one_more q less = elim (eq-or-lt_of_le (le_of_suc-le-suc less)) [
      | inl same ↦ ap (put_at r true written) same ∙ put_at_same r true written
      | inr before ↦ put_stays r q written (below q before)
    ]

  none_below : (written : ℕ → Bool) → AllWritten 0 written
  none_below written r less = absurd (omega (arith, less))

  all_from_none : (m : ℕ) → m ≤ 0 + m
  all_from_none m = omega arith

  item_opens : (written : ℕ → Bool) → Opens n written (Fresh ∷ zeroed 0 n [])
  item_opens written = (tt, tt, zeroes n 0 written (none_below written) (all_from_none n))

  -- the three registers by which the lanes are found that have an item
  abbrev o0 : ℕ
  o0 = own k 0

  abbrev o1 : ℕ
  o1 = own k 1

  abbrev o2 : ℕ
  o2 = own k 2

  record Three (written : ℕ → Bool) : Type 0 where
    first : written o0 ≡ true
    second : written o1 ≡ true
    third : written o2 ≡ true

  three_more : (d : ℕ) (written : ℕ → Bool) → Three written → Three (put_at d true written)
  three_more d written h = record { first = put_stays d o0 written h.first; second = put_stays d o1 written h.second; third = put_stays d o2 written h.third }

  three_now : (written : ℕ → Bool) → Three (put_at o2 true (put_at o1 true (put_at o0 true written)))
  three_now written = record {
    first = put_stays o2 o0 (put_at o1 true (put_at o0 true written)) (put_stays o1 o0 (put_at o0 true written) (put_at_same o0 true written));
    second = put_stays o2 o1 (put_at o1 true (put_at o0 true written)) (put_at_same o1 true (put_at o0 true written));
    third = put_at_same o2 true (put_at o1 true (put_at o0 true written));
  }

  lanes_open : (written : ℕ → Bool) → Opens n written (item_lanes k (Fresh ∷ zeroed 0 n []))
  lanes_open written =
      let h3 = three_now written in
      let h4 = three_more o1 _ h3 in
      let h5 = three_more o0 _ h4 in
      let h6 = three_more o1 _ h5 in
      let h7 = three_more o0 _ h6 in
      let h8 = three_more o0 _ h7 in
      let h9 = three_more o0 _ h8 in
      (tt, tt, (tt, tt, (tt, tt, (tt, (h3.second, h3.third), (tt, (h4.first, h4.second), (tt, (h5.first, tt), (tt, (tt, h6.first), (tt, (h7.first, h7.second), (tt, (tt, h8.first), (tt, h9.first, item_opens _))))))))))

  spawn_opens : (written : ℕ → Bool) → Opens n written (Fresh ∷ item_lanes k (Fresh ∷ zeroed 0 n []))
  spawn_opens written = (tt, tt, lanes_open written)

  start_opens : (written : ℕ → Bool) → Opens n written (Fresh ∷ Word o0 0 ∷ Wspawn (held k 0) 3 ∷ Fresh ∷ item_lanes k (Fresh ∷ zeroed 0 n []))
  start_opens written = (tt, tt, (tt, tt, (tt, put_at_same o0 true written, spawn_opens (put_at o0 true written))))

module _ (marks : ℕ → Bool) (code : KirCode) (at : Around) (limited : IsLimited code) where
  abbrev k : Known
  k = known_of_kernel marks code

  abbrev n : ℕ
  n = registers_for code.variables (loop_nesting code.ops)

  abbrev tail : List VOp
  tail = scalars 0 0 code.params (ids_code k (lowered k 0 code.ops (body_start code.params n) (Tmc (NumberOf 0) ∷ [])))

  zeroes_stand : zeroed 0 n tail ≡ puts (zeroed 0 n []) tail
  zeroes_stand = zeroed_puts n 0 [] tail

  clean_kernel : BeginsClean marks code at
  clean_kernel = record {
    from_start = λ ns.
        clean_from at (kernel_code marks code) n (registers_within code marks limited) (lane_start ns) (Fresh ∷ Word (own k 0) 0 ∷ Wspawn (held k 0) 3 ∷ Fresh ∷ item_lanes k (Fresh ∷ zeroed 0 n [])) tail
        (ap (λ c. Fresh ∷ Word (own k 0) 0 ∷ Wspawn (held k 0) 3 ∷ Fresh ∷ item_lanes k (Fresh ∷ c)) zeroes_stand) (start_opens k n (λ r. false));
    from_spawn = λ rs ns.
        clean_from at (kernel_code marks code) n (registers_within code marks limited) (lane spawn_place rs [] ns) (Fresh ∷ item_lanes k (Fresh ∷ zeroed 0 n [])) tail
        (ap (λ c. Fresh ∷ item_lanes k (Fresh ∷ c)) zeroes_stand) (spawn_opens k n (λ r. false));
    from_item = λ rs ns.
        clean_from at (kernel_code marks code) n (registers_within code marks limited) (lane item_place rs [] ns) (Fresh ∷ zeroed 0 n []) tail (ap (λ c. Fresh ∷ c) zeroes_stand) (item_opens k n (λ r. false));
  }

pub lanes_begin_clean : LanesBeginClean
lanes_begin_clean marks code at limited = clean_kernel marks code at limited
