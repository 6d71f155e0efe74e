-- What is known of a lane of the code and of a lane alone at the words where the words of an operation begin.
use Rattle.std.proofs.Common.{◌≡◌, ℕ, zero, suc, ◌<◌, ◌^◌, Bool, true, false, nat_eq, if◌then◌else◌, inl, inr, List, [], ◌∷◌, drop, ap, sym, subst, ◌∙◌, refl}
use Rattle.std.proofs.lemmas.Bool.{eq-eqb}
use Rattle.item_acts.specs.declared.acts.Place.{Place}
use Rattle.item_acts.specs.Launches.{put_at}
use Rattle.kir.specs.Machine.{value}
use Rattle.kir.specs.Numbered.{IsBelow}
use Rattle.kir.specs.Trees.{Operand, VariableOf, NumberOf}
use Rattle.vx_layout.specs.Addresses.{block_start}
use Rattle.vcode.specs.Code.{VOp}
use Rattle.vcode.specs.Machine.{Lane, lane, op_step, step, step_from}
use Rattle.simt_lowering.specs.Bounds.{AreWithin, OpWithin}
use Rattle.simt_lowering.specs.InBlock.{FirstInBlock, OpInBlock}
use Rattle.simt_lowering.specs.Runs.{Comes, IsOneOf, Leads, and_read, and_written, first_read, first_written, read_by}
use Rattle.reg_alloc.specs.Plain.{Held}
use Rattle.reg_alloc.specs.Alone.{Setting}
use Rattle.reg_alloc.specs.Keeping.{FirstNamed, OpNamed, Passes, RunsClean, around_in, bases, first_bases, first_needs, needs_base}
use Rattle.reg_alloc.proofs.Bringing.{IsBased}

pub within_at : (slots : ℕ) (ops rest : List VOp) (op : VOp) (p : ℕ) → AreWithin slots ops → drop p ops ≡ op ∷ rest → OpWithin slots op
within_at slots [] rest op zero within e = absurd (cc)
within_at slots [] rest op (suc p) within e = absurd (cc)
within_at slots (x ∷ ops) rest op zero within e = let same : x ≡ op = cc in subst (λ o. OpWithin slots o) same within.0
within_at slots (x ∷ ops) rest op (suc p) within e = within_at slots ops rest op p within.1 e

-- ---- the lane of the code runs clean from here, where it has written these registers, and has passed a place at which a warp may begin

pub record Clean (k : Setting) (place : ℕ → Place) (ops : List VOp) (s : Lane) (ws : List ℕ) (b : Bool) : Type 0 where
  pub written : (n : ℕ) (t : Lane) (us : List ℕ) → Comes (around_in k place) ops n s ws t us → (r : ℕ) → IsOneOf r (first_read (drop t.place ops)) → IsOneOf r us
  pub in_block : (n : ℕ) (t : Lane) (us : List ℕ) → Comes (around_in k place) ops n s ws t us → FirstInBlock (drop t.place ops) t.registers
  pub named : (n : ℕ) (t : Lane) (us : List ℕ) → Comes (around_in k place) ops n s ws t us → FirstNamed k place (drop t.place ops) t.registers
  pub based : (n : ℕ) (t : Lane) (b' : Bool) → Passes (around_in k place) ops n s b t b' → first_needs (drop t.place ops) ≡ true → b' ≡ true

pub clean_from : (k : Setting) (place : ℕ → Place) (ops : List VOp) (s : Lane) → RunsClean k place ops s → Clean k place ops s [] false
clean_from k place ops s clean = record { written = clean.written; in_block = clean.in_block; named = clean.named; based = clean.based }

module _ (k : Setting) (place : ℕ → Place) (ops : List VOp) where
  clean_on : (s t : Lane) (ws : List ℕ) (b : Bool) → Clean k place ops s ws b → Leads (step (around_in k place) ops s) t
      → Clean k place ops t (first_written (drop s.place ops) ws) (first_bases (drop s.place ops) b)
  clean_on s t ws b clean leads = record {
    written = λ n u us comes. clean.written (suc n) u us (t, leads, comes);
    in_block = λ n u us comes. clean.in_block (suc n) u us (t, leads, comes);
    named = λ n u us comes. clean.named (suc n) u us (t, leads, comes);
    based = λ n u b' passes. clean.based (suc n) u b' (t, leads, passes);
  }

  module _ (op : VOp) (rest : List VOp) (p : ℕ) (e : drop p ops ≡ op ∷ rest) (rs : ℕ → ℕ) (ts ns ws : List ℕ) (b : Bool) (clean : Clean k place ops (lane p rs ts ns) ws b) where
    pub clean_behind : (t : Lane) → Leads (op_step (around_in k place) op p rs ts ns) t → Clean k place ops t (and_written op ws) (bases op b)
    clean_behind t leads =
        let leads' : Leads (step (around_in k place) ops (lane p rs ts ns)) t = subst (λ (c : List VOp). Leads (step_from (around_in k place) c p rs ts ns) t) (sym e) leads in
        subst (λ (c : List VOp). Clean k place ops t (first_written c ws) (first_bases c b)) e (clean_on (lane p rs ts ns) t ws b clean leads')

    pub reads_now : (r : ℕ) → IsOneOf r (read_by op) → IsOneOf r ws
    reads_now r one = clean.written 0 (lane p rs ts ns) ws (refl, refl) r (subst (λ (c : List VOp). IsOneOf r (first_read c)) (sym e) one)

    pub block_now : OpInBlock op rs
    block_now = subst (λ (c : List VOp). FirstInBlock c rs) e (clean.in_block 0 (lane p rs ts ns) ws (refl, refl))

    pub named_now : OpNamed k place op rs
    named_now = subst (λ (c : List VOp). FirstNamed k place c rs) e (clean.named 0 (lane p rs ts ns) ws (refl, refl))

    pub base_now : needs_base op ≡ true → b ≡ true
    base_now needs = clean.based 0 (lane p rs ts ns) b (refl, refl) (ap first_needs e ∙ needs)

-- ---- registers that were written stand in the frame

pub record Same (start : ℕ) (ws : List ℕ) (b : Bool) (rs : ℕ → ℕ) (h : Held) : Type 0 where
  pub read : (r : ℕ) → IsOneOf r ws → (h.frame r ≡ rs r) × ((rs r < 2 ^ 32) × (h.registers 4 ≡ start))
  pub base : b ≡ true → (h.registers 4 ≡ start) × (h.registers 3 ≡ block_start)

abbrev pub IsReady : ℕ → (ℕ → ℕ) → Held → Operand → Type 0
IsReady start rs h (VariableOf r) = (h.frame r ≡ rs r) × ((rs r < 2 ^ 32) × (h.registers 4 ≡ start))
IsReady start rs h (NumberOf n) = n < 2 ^ 32

pub ready_value : (start : ℕ) (rs : ℕ → ℕ) (h : Held) (a : Operand) → IsReady start rs h a → value h.frame a ≡ value rs a
ready_value start rs h (VariableOf r) ready = ready.0
ready_value start rs h (NumberOf n) ready = refl

pub ready_small : (start : ℕ) (rs : ℕ → ℕ) (h : Held) (a : Operand) → IsReady start rs h a → value rs a < 2 ^ 32
ready_small start rs h (VariableOf r) ready = ready.1.0
ready_small start rs h (NumberOf n) ready = ready

pub ready_held : (start : ℕ) (rs : ℕ → ℕ) (h : Held) (a : Operand) → IsReady start rs h a → value h.frame a < 2 ^ 32
ready_held start rs h a ready = subst (λ n. n < 2 ^ 32) (sym (ready_value start rs h a ready)) (ready_small start rs h a ready)

pub ready_based : (start : ℕ) (rs : ℕ → ℕ) (h : Held) (a : Operand) → IsReady start rs h a → IsBased start h a
ready_based start rs h (VariableOf r) ready = ready.1.1
ready_based start rs h (NumberOf n) ready = tt

-- what stands behind an operand in a list of what is read
pub behind_read : (a : Operand) (others ws : List ℕ) → ((r : ℕ) → IsOneOf r (and_read a others) → IsOneOf r ws) → (r : ℕ) → IsOneOf r others → IsOneOf r ws
behind_read (VariableOf q) others ws reads r one = reads r (inr one)
behind_read (NumberOf n) others ws reads r one = reads r one

module _ (start : ℕ) (ws : List ℕ) (b : Bool) (rs : ℕ → ℕ) (h : Held) (same : Same start ws b rs h) where
  pub ready_of : (slots : ℕ) (a : Operand) (others : List ℕ) → IsBelow slots a → ((r : ℕ) → IsOneOf r (and_read a others) → IsOneOf r ws) → IsReady start rs h a
  ready_of slots (VariableOf r) others below reads = same.read r (reads r (inl refl))
  ready_of slots (NumberOf n) others below reads = below

  -- all stays as it was
  pub same_kept : (h' : Held) → h'.frame ≡ h.frame → h'.registers 4 ≡ h.registers 4 → h'.registers 3 ≡ h.registers 3 → Same start ws b rs h'
  same_kept h' frame four three = record {
    read = λ r one. let there = same.read r one in (ap (λ (g : ℕ → ℕ). g r) frame ∙ there.0, (there.1.0, four ∙ there.1.1));
    base = λ on. let there = same.base on in (four ∙ there.0, three ∙ there.1);
  }

  -- a register gets a value, which stands in its word of the frame then
  pub same_put : (d v : ℕ) (h' : Held) → h'.frame ≡ put_at d v h.frame → h'.registers 4 ≡ start → h'.registers 3 ≡ block_start → v < 2 ^ 32 → Same start (d ∷ ws) b (put_at d v rs) h'
  same_put d v h' frame four three small = record { read = reads; base = λ on. (four, three) }
    where
      either : (r : ℕ) (is : Bool) → ((is ≡ false) → (h.frame r ≡ rs r) × (rs r < 2 ^ 32)) → ((if is then v else h.frame r) ≡ (if is then v else rs r)) × ((if is then v else rs r) < 2 ^ 32)
      either r true old = (refl, small)
      either r false old = let there = old refl in (there.0, there.1)

      reads : (r : ℕ) → IsOneOf r (d ∷ ws) → (h'.frame r ≡ put_at d v rs r) × ((put_at d v rs r < 2 ^ 32) × (h'.registers 4 ≡ start))
      reads r (inl now) =
          let is : nat_eq r d ≡ true = eq-eqb r d now in
          let got = either r (nat_eq r d) (λ other. absurd (cc)) in
          (ap (λ (g : ℕ → ℕ). g r) frame ∙ got.0, (got.1, four))
      reads r (inr one) =
          let there = same.read r one in
          let got = either r (nat_eq r d) (λ other. (there.0, there.1.0)) in
          (ap (λ (g : ℕ → ℕ). g r) frame ∙ got.0, (got.1, four))
