-- A place at which a warp may begin stays passed.
use Rattle.std.proofs.Common.{◌≡◌, ℕ, zero, suc, Bool, true, false, List, [], ◌∷◌, drop, ap, sym, subst, ◌∙◌, refl}
use Rattle.vcode.specs.Code.{VOp, Fresh, Copy, Compute, Cut, Word, WordAt, Learn, Fetch, Write, IfZero, IfNot, Goto, Split, Join, Pred, Tmc, Wspawn, Bar, Trap, Enter, Leaves, Again}
use Rattle.vcode.specs.Machine.{Around, Lane}
use Rattle.reg_alloc.specs.Keeping.{Passes, bases, first_bases, first_needs}
use Rattle.reg_alloc.specs.Laws.{BasedFromBegin}

op_stays : (op : VOp) → bases op true ≡ true
op_stays Fresh = refl
op_stays (Copy d a) = refl
op_stays (Compute d o a c) = refl
op_stays (Cut d t a) = refl
op_stays (Word d w) = refl
op_stays (WordAt d a w) = refl
op_stays (Learn d c) = refl
op_stays (Fetch d t a) = refl
op_stays (Write t a c) = refl
op_stays (IfZero a q) = refl
op_stays (IfNot a q) = refl
op_stays (Goto q) = refl
op_stays (Split a) = refl
op_stays Join = refl
op_stays (Pred a m) = refl
op_stays (Tmc a) = refl
op_stays (Wspawn a q) = refl
op_stays (Bar site) = refl
op_stays (Trap pos) = refl
op_stays Enter = refl
op_stays (Leaves a q) = refl
op_stays (Again q) = refl

first_stays : (ops : List VOp) → first_bases ops true ≡ true
first_stays [] = refl
first_stays (op ∷ ops) = op_stays op

stays : (at : Around) (ops : List VOp) (n : ℕ) (s t : Lane) (b : Bool) → Passes at ops n s true t b → b ≡ true
stays at ops zero s t b passes = sym passes.1
stays at ops (suc n) s t b (m, leads, passes) = stays at ops n m t b (subst (λ (x : Bool). Passes at ops n m x t b) (first_stays (drop s.place ops)) passes)

pub based_from_begin : BasedFromBegin
based_from_begin at ops rest s e zero t b passes needs =
    let none : first_needs (drop s.place ops) ≡ false = ap first_needs e in
    let some : first_needs (drop s.place ops) ≡ true = ap (λ (x : Lane). first_needs (drop x.place ops)) passes.0 ∙ needs in
    absurd (cc)
based_from_begin at ops rest s e (suc n) t b (m, leads, passes) needs =
    stays at ops n m t b (subst (λ (x : Bool). Passes at ops n m x t b) (ap (λ (c : List VOp). first_bases c false) e) passes)
