-- What is read as a word is written as that word.
use Rattle.std.proofs.Common.{◌≡◌, ℕ, Bool, true, false, cond, ◌&&◌, ◌⊎◌, inl, inr, eqb, Option, Some, None, List, [], ◌∷◌, ◌++◌, map, length, refl, sym, ap, ◌∙◌, subst, append-nil, append_assoc, arith}
use Rattle.std.specs.Prelude.{codes}
use Rattle.std.specs.Option.{option_map}
use Rattle.std.specs.List.{list_all, join_with_byte, slice_split}
use Rattle.std.specs.Str.{bytes_eq}
use Rattle.std.proofs.lemmas.Bool.{eqb-true}
use Rattle.std.proofs.lemmas.Option.{same_Some, cond_some}
use Rattle.std.proofs.lemmas.List.Splits.{join_with_byte-slice_split, length-slice_split}
use Rattle.std.proofs.lemmas.Slice.Eq.{bytes_eq-Decides}
use Rattle.decimal_text.specs.Numerals.{is_decimal}
use Rattle.vx_base.specs.declared.types.Elem.{Elem}
use Rattle.vx_base.specs.declared.types.Elem.TheVariants.{Char, Uchar, Short, Ushort, Int, Uint}
use Rattle.command_words.specs.declared.entries.ArgEntry.{ArgEntry}
use Rattle.command_words.specs.declared.entries.ArgEntry.TheVariants as arg
use Rattle.command_words.specs.declared.entries.Origin.{Origin}
use Rattle.command_words.specs.declared.entries.Origin.TheVariants as origin
use Rattle.command_words.specs.declared.entries.Pick.{Pick}
use Rattle.command_words.specs.declared.entries.Pick.TheVariants as pick
use Rattle.command_words.specs.declared.entries.SizeKey.{SizeKey}
use Rattle.command_words.specs.declared.entries.SizeKey.TheVariants.{Cores, Warps, Lanes, Sets, Ways, Banks, Turns}
use Rattle.command_words.specs.declared.entries.Entry.{Entry}
use Rattle.command_words.specs.declared.entries.Entry.TheVariants.{File, Kernel, Seed, Count, Buf, Do, Show, Size, Sched, Evict, Stats}
use Rattle.command_words.specs.declared.places.Place.{Place}
use Rattle.command_words.specs.declared.places.Place.TheVariants as place
use Rattle.command_words.specs.Names.{is_name}
use Rattle.command_words.specs.Cuts.{cut, behind_minus, ◌>>=◌}
use Rattle.command_words.specs.Readers.{elem_named, where_name, where_decimal, path_at, origin_of, origin_at, buffer_of, buffer_at, local_at, marked_at, arg_at, args_from, tail_of, tail_at, launch_of, launch_at, show_at, size_named, sched_at, evict_at, stats_at, choice_of, machine_with, machine_of, keyed_of, entry_at}
use Rattle.command_words.specs.Texts.{elem_text, origin_text, arg_text, args_text, size_text, word_text, is_origin, is_arg, is_well, is_further, is_machine, AtFile, AtKernel, AtSeed, AtCount, AtFurther, AtMachine, IsWord}

pub none_some : {A : Type 0} (x : A) → None ≡ Some x → ⊥
none_some x e = cc

chosen : {A : Type 0} (b : Bool) (x y z : A) → cond b x y ≡ z → ((b ≡ true) × (x ≡ z)) ⊎ ((b ≡ false) × (y ≡ z))
chosen true x y z e = inl (refl, e)
chosen false x y z e = inr (refl, e)

module _ {A : Type 0} (text other : List ℕ) (P : A → Type 0) where
  -- what is read behind a comparison with a text
  pub step : (x y : A) (rest : Option A) → (text ≡ other → P x) → (rest ≡ Some y → P y) → cond (bytes_eq text other) (Some x) rest ≡ Some y → P y
  step x y rest f g e = elim (chosen (bytes_eq text other) (Some x) rest (Some y) e) [
    | inl here ↦ subst P (same_Some x y here.1) (f ((bytes_eq-Decides text other).0 here.0))
    | inr later ↦ g later.1
  ]

  -- the same where more is to be read
  branch : (y : A) (first rest : Option A) → (text ≡ other → first ≡ Some y → P y) → (rest ≡ Some y → P y) → cond (bytes_eq text other) first rest ≡ Some y → P y
  branch y first rest f g e = elim (chosen (bytes_eq text other) first rest (Some y) e) [
    | inl here ↦ f ((bytes_eq-Decides text other).0 here.0) here.1
    | inr later ↦ g later.1
  ]

bind_some : {A B : Type 0} (o : Option A) (f : A → Option B) (y : B) → (o >>= f) ≡ Some y → (x : A) × (o ≡ Some x) × (f x ≡ Some y)
bind_some None f y e = absurd (none_some y e)
bind_some (Some x) f y e = (x, refl, e)

abbrev put : ℕ → List ℕ × List ℕ → List ℕ × List ℕ
put c p = (c ∷ p.0, p.1)

cut_put : (byte c : ℕ) (cs : List ℕ) (o : Option (List ℕ × List ℕ)) (p : List ℕ × List ℕ) → ((q : List ℕ × List ℕ) → o ≡ Some q → cs ≡ q.0 ++ byte ∷ q.1) → option_map (put c) o ≡ Some p → c ∷ cs ≡ p.0 ++ byte ∷ p.1
cut_put byte c cs None p more e = absurd (none_some p e)
cut_put byte c cs (Some q) p more e = subst (λ (r : List ℕ × List ℕ). c ∷ cs ≡ r.0 ++ byte ∷ r.1) (same_Some (put c q) p e) (ap (λ (l : List ℕ). c ∷ l) (more q refl))

cut_inv : (byte : ℕ) (text : List ℕ) (p : List ℕ × List ℕ) → cut byte text ≡ Some p → text ≡ p.0 ++ byte ∷ p.1
cut_inv byte [] p e = absurd (none_some p e)
cut_inv byte (c ∷ cs) p e = elim (chosen (eqb c byte) (Some ([], cs)) (option_map (put c) (cut byte cs)) (Some p) e) [
  | inl here ↦ subst (λ (q : List ℕ × List ℕ). c ∷ cs ≡ q.0 ++ byte ∷ q.1) (same_Some ([], cs) p here.1) (ap (λ (b : ℕ). b ∷ cs) (eqb-true c byte here.0))
  | inr later ↦ cut_put byte c cs (cut byte cs) p (λ q is. cut_inv byte cs q is) later.1
]

minus_inv : (text digits : List ℕ) → behind_minus text ≡ Some digits → text ≡ 45 ∷ digits
minus_inv [] digits e = absurd (none_some digits e)
minus_inv (c ∷ cs) digits e =
    let h = cond_some (eqb c 45) cs digits e in
    ap (λ (b : ℕ). b ∷ cs) (eqb-true c 45 h.0) ∙ ap (λ (l : List ℕ). 45 ∷ l) h.1

elem_inv : (text : List ℕ) (e : Elem) → elem_named text ≡ Some e → text ≡ elem_text e
elem_inv text e =
    step text (codes "char") (λ x. text ≡ elem_text x) Char e _ (λ t. t)
    (step text (codes "uchar") (λ x. text ≡ elem_text x) Uchar e _ (λ t. t)
    (step text (codes "short") (λ x. text ≡ elem_text x) Short e _ (λ t. t)
    (step text (codes "ushort") (λ x. text ≡ elem_text x) Ushort e _ (λ t. t)
    (step text (codes "int") (λ x. text ≡ elem_text x) Int e _ (λ t. t)
    (step text (codes "uint") (λ x. text ≡ elem_text x) Uint e _ (λ t. t)
    (λ n. absurd (none_some e n)))))))

size_inv : (key : List ℕ) (value : List ℕ) (k : SizeKey) → size_named key ≡ Some k → key ++ 61 ∷ value ≡ size_text k ++ value
size_inv key value k =
    step key (codes "cores") (λ x. key ++ 61 ∷ value ≡ size_text x ++ value) Cores k _ behind
    (step key (codes "warps") (λ x. key ++ 61 ∷ value ≡ size_text x ++ value) Warps k _ behind
    (step key (codes "lanes") (λ x. key ++ 61 ∷ value ≡ size_text x ++ value) Lanes k _ behind
    (step key (codes "sets") (λ x. key ++ 61 ∷ value ≡ size_text x ++ value) Sets k _ behind
    (step key (codes "ways") (λ x. key ++ 61 ∷ value ≡ size_text x ++ value) Ways k _ behind
    (step key (codes "banks") (λ x. key ++ 61 ∷ value ≡ size_text x ++ value) Banks k _ behind
    (step key (codes "turns") (λ x. key ++ 61 ∷ value ≡ size_text x ++ value) Turns k _ behind
    (λ n. absurd (none_some k n))))))))
  where
    behind : {other : List ℕ} → key ≡ other → key ++ 61 ∷ value ≡ other ++ 61 ∷ value
    behind t = ap (λ (l : List ℕ). l ++ 61 ∷ value) t

-- how the bytes of a buffer are given
abbrev IsOrigin : List ℕ → Origin → Type 0
IsOrigin text o = (text ≡ origin_text o) × (is_origin o ≡ true)

path_inv : (path : List ℕ) (o : Origin) → path_at path ≡ Some o → IsOrigin (codes "in:" ++ path) o
path_inv [] o e = absurd (none_some o e)
path_inv (c ∷ cs) o e = subst (IsOrigin (codes "in:" ++ c ∷ cs)) (same_Some (origin.In (c ∷ cs)) o e) (refl, refl)

origin_inv : (text : List ℕ) (o : Origin) → origin_at text ≡ Some o → IsOrigin text o
origin_inv text o e =
    let p = bind_some (cut 58 text) (λ (x : List ℕ × List ℕ). origin_of x.0 x.1) o e in
    let t : text ≡ p.0.0 ++ 58 ∷ p.0.1 = cut_inv 58 text p.0 p.1 in
    branch p.0.0 (codes "in") (IsOrigin text) o _ _
    (λ k e. let h = path_inv p.0.1 o e in (t ∙ ap (λ (l : List ℕ). l ++ 58 ∷ p.0.1) k ∙ h.0, h.1))
    (branch p.0.0 (codes "zero") (IsOrigin text) o _ _
    (λ k e. let h = cond_some (is_decimal p.0.1) (origin.Zero p.0.1) o e in subst (IsOrigin text) h.1 (t ∙ ap (λ (l : List ℕ). l ++ 58 ∷ p.0.1) k, h.0))
    (λ n. absurd (none_some o n)))
    p.2

-- what is read, as it is written: with the condition on which words it may be
record Reads (may : Entry → Bool) (word : Entry) (text : List ℕ) : Type 0 where
  written : text ≡ word_text word
  stands : may word ≡ true
  well : is_well word ≡ true

buffer_inv : (value : List ℕ) (word : Entry) → buffer_at value ≡ Some word → Reads is_further word (codes "buf=" ++ value)
buffer_inv value word e =
    let p = bind_some (cut 58 value) (λ (x : List ℕ × List ℕ). cut 58 x.1 >>= λ y. buffer_of x.0 y.0 y.1) word e in
    let pt : value ≡ p.0.0 ++ 58 ∷ p.0.1 = cut_inv 58 value p.0 p.1 in
    let q = bind_some (cut 58 p.0.1) (λ (y : List ℕ × List ℕ). buffer_of p.0.0 y.0 y.1) word p.2 in
    let qt : p.0.1 ≡ q.0.0 ++ 58 ∷ q.0.1 = cut_inv 58 p.0.1 q.0 q.1 in
    let r = bind_some (elem_named q.0.0) (λ (x : Elem). origin_at q.0.1 >>= λ o. where_name p.0.0 (Buf (record { name = p.0.0; elem = x; origin = o }))) word q.2 in
    let et : q.0.0 ≡ elem_text r.0 = elem_inv q.0.0 r.0 r.1 in
    let o = bind_some (origin_at q.0.1) (λ (x : Origin). where_name p.0.0 (Buf (record { name = p.0.0; elem = r.0; origin = x }))) word r.2 in
    let ot : IsOrigin q.0.1 o.0 = origin_inv q.0.1 o.0 o.1 in
    let w = cond_some (is_name p.0.0) (Buf (record { name = p.0.0; elem = r.0; origin = o.0 })) word o.2 in
    let rest : p.0.1 ≡ elem_text r.0 ++ 58 ∷ origin_text o.0 = qt ∙ ap (λ (l : List ℕ). l ++ 58 ∷ q.0.1) et ∙ ap (λ (l : List ℕ). elem_text r.0 ++ 58 ∷ l) ot.0 in
    subst (λ (x : Entry). Reads is_further x (codes "buf=" ++ value)) w.1 (record {
      written = ap (λ (l : List ℕ). codes "buf=" ++ l) (pt ∙ ap (λ (l : List ℕ). p.0.0 ++ 58 ∷ l) rest);
      stands = refl;
      well = ap (λ (b : Bool). b && is_origin o.0) w.0 ∙ ot.1;
    })

abbrev IsArg : List ℕ → ArgEntry → Type 0
IsArg text a = (text ≡ arg_text a) × (is_arg a ≡ true)

local_inv : (text : List ℕ) (a : ArgEntry) → local_at text ≡ Some a → IsArg text a
local_inv text a e =
    let p = bind_some (cut 58 text) (λ (x : List ℕ × List ℕ). cond (bytes_eq x.0 (codes "local")) (where_decimal x.1 (arg.Local x.1)) None) a e in
    let t : text ≡ p.0.0 ++ 58 ∷ p.0.1 = cut_inv 58 text p.0 p.1 in
    branch p.0.0 (codes "local") (IsArg text) a _ _
    (λ k e. let h = cond_some (is_decimal p.0.1) (arg.Local p.0.1) a e in subst (IsArg text) h.1 (t ∙ ap (λ (l : List ℕ). l ++ 58 ∷ p.0.1) k, h.0))
    (λ n. absurd (none_some a n))
    p.2

marked_inv : (text : List ℕ) (a : ArgEntry) (o : Option (List ℕ)) → behind_minus text ≡ o → marked_at o text ≡ Some a → IsArg text a
marked_inv text a None is e = local_inv text a e
marked_inv text a (Some digits) is e =
    let h = cond_some (is_decimal digits) (arg.Negative digits) a e in
    subst (IsArg text) h.1 (minus_inv text digits is, h.0)

arg_inv : (text : List ℕ) (a : ArgEntry) → arg_at text ≡ Some a → IsArg text a
arg_inv text a e = elim (chosen (is_name text) (Some (arg.Named text)) (cond (is_decimal text) (Some (arg.Number text)) (marked_at (behind_minus text) text)) (Some a) e) [
  | inl here ↦ subst (IsArg text) (same_Some (arg.Named text) a here.1) (refl, here.0)
  | inr later ↦ elim (chosen (is_decimal text) (Some (arg.Number text)) (marked_at (behind_minus text) text) (Some a) later.1) [
    | inl here ↦ subst (IsArg text) (same_Some (arg.Number text) a here.1) (refl, here.0)
    | inr later' ↦ marked_inv text a (behind_minus text) refl later'.1
  ]
]

args_inv : (found : List ArgEntry) (texts : List (List ℕ)) (args : List ArgEntry) → args_from found texts ≡ Some args → (more : List ArgEntry) × (args ≡ found ++ more) × (texts ≡ map arg_text more) × (list_all is_arg more ≡ true)
args_inv found [] args e = ([], sym (same_Some found args e) ∙ sym (append-nil found), refl, refl)
args_inv found (text ∷ texts) args e =
    let a = bind_some (arg_at text) (λ (x : ArgEntry). args_from (found ++ x ∷ []) texts) args e in
    let at : IsArg text a.0 = arg_inv text a.0 a.1 in
    let h = args_inv (found ++ a.0 ∷ []) texts args a.2 in (
      a.0 ∷ h.0,
      h.1 ∙ append_assoc found (a.0 ∷ []) h.0,
      ap (λ (l : List ℕ). l ∷ texts) at.0 ∙ ap (λ (l : List (List ℕ)). arg_text a.0 ∷ l) h.2,
      ap (λ (b : Bool). b && list_all is_arg h.0) at.1 ∙ h.3,
    )

abbrev IsTail : List ℕ → List ℕ × List ArgEntry → Type 0
IsTail text t = (text ≡ t.0 ++ args_text t.1) × (list_all is_arg t.1 ≡ true)

-- arguments behind a slash are some
slashed : (rest : List ℕ) (args : List ArgEntry) → slice_split (λ b. eqb b 44) rest ≡ map arg_text args → 47 ∷ rest ≡ args_text args
slashed rest [] e =
    let some = length-slice_split (λ b. eqb b 44) rest in
    let none : length (slice_split (λ b. eqb b 44) rest) ≡ 0 = ap length e in
    absurd (omega (arith, some, none))
slashed rest (a ∷ args) e = ap (λ (l : List ℕ). 47 ∷ l) (sym (join_with_byte-slice_split 44 rest) ∙ ap (join_with_byte 44) e)

tail_inv_of : (text : List ℕ) (t : List ℕ × List ArgEntry) (o : Option (List ℕ × List ℕ)) → cut 47 text ≡ o → tail_of text o ≡ Some t → IsTail text t
tail_inv_of text t None is e = subst (IsTail text) (same_Some (text, []) t e) (sym (append-nil text), refl)
tail_inv_of text t (Some p) is e =
    let a = bind_some (args_from [] (slice_split (λ b. eqb b 44) p.1)) (λ (x : List ArgEntry). Some (p.0, x)) t e in
    let h = args_inv [] (slice_split (λ b. eqb b 44) p.1) a.0 a.1 in
    let texts : slice_split (λ b. eqb b 44) p.1 ≡ map arg_text a.0 = h.2 ∙ ap (map arg_text) (sym h.1) in
    let all : list_all is_arg a.0 ≡ true = ap (list_all is_arg) h.1 ∙ h.3 in
    subst (IsTail text) (same_Some (p.0, a.0) t a.2) (cut_inv 47 text p is ∙ ap (λ (l : List ℕ). p.0 ++ l) (slashed p.1 a.0 texts), all)

launch_inv : (value : List ℕ) (word : Entry) → launch_at value ≡ Some word → Reads is_further word (codes "do=" ++ value)
launch_inv value word e =
    let p = bind_some (cut 47 value) (λ (x : List ℕ × List ℕ). cut 47 x.1 >>= λ y. (tail_at y.1 >>= λ t. launch_of x.0 y.0 t.0 t.1)) word e in
    let pt : value ≡ p.0.0 ++ 47 ∷ p.0.1 = cut_inv 47 value p.0 p.1 in
    let q = bind_some (cut 47 p.0.1) (λ (y : List ℕ × List ℕ). tail_at y.1 >>= λ t. launch_of p.0.0 y.0 t.0 t.1) word p.2 in
    let qt : p.0.1 ≡ q.0.0 ++ 47 ∷ q.0.1 = cut_inv 47 p.0.1 q.0 q.1 in
    let t = bind_some (tail_at q.0.1) (λ (x : List ℕ × List ArgEntry). launch_of p.0.0 q.0.0 x.0 x.1) word q.2 in
    let tt' : IsTail q.0.1 t.0 = tail_inv_of q.0.1 t.0 (cut 47 q.0.1) refl t.1 in
    let w = cond_some (is_name p.0.0 && is_decimal q.0.0 && is_decimal t.0.0) (Do (record { entry = p.0.0; global = q.0.0; local = t.0.0; args = t.0.1 })) word t.2 in
    let rest : p.0.1 ≡ q.0.0 ++ 47 ∷ (t.0.0 ++ args_text t.0.1) = qt ∙ ap (λ (l : List ℕ). q.0.0 ++ 47 ∷ l) tt'.0 in
    subst (λ (x : Entry). Reads is_further x (codes "do=" ++ value)) w.1 (record {
      written = ap (λ (l : List ℕ). codes "do=" ++ l) (pt ∙ ap (λ (l : List ℕ). p.0.0 ++ 47 ∷ l) rest);
      stands = refl;
      well = ap (λ (b : Bool). b && list_all is_arg t.0.1) w.0 ∙ tt'.1;
    })

show_inv : (value : List ℕ) (word : Entry) → show_at value ≡ Some word → Reads is_further word (codes "show=" ++ value)
show_inv value word e =
    let h = cond_some (is_name value) (Show value) word e in
    subst (λ (x : Entry). Reads is_further x (codes "show=" ++ value)) h.1 (record { written = refl; stands = refl; well = h.0 })

-- words of the machine, which may stand at both places
module _ (may : Entry → Bool) (sizes : (k : SizeKey) (digits : List ℕ) → may (Size k digits) ≡ true) (scheds : (p : Pick) → may (Sched p) ≡ true) (evicts : (p : Pick) → may (Evict p) ≡ true) (wanted : (b : Bool) → may (Stats b) ≡ true) where
  sched_inv : (value : List ℕ) (word : Entry) → sched_at value ≡ Some word → Reads may word (codes "sched=" ++ value)
  sched_inv value word =
      step value (codes "rr") (λ x. Reads may x (codes "sched=" ++ value)) (Sched pick.Round) word _ (λ t. record { written = ap (λ (l : List ℕ). codes "sched=" ++ l) t; stands = scheds pick.Round; well = refl })
      (step value (codes "old") (λ x. Reads may x (codes "sched=" ++ value)) (Sched pick.Oldest) word _ (λ t. record { written = ap (λ (l : List ℕ). codes "sched=" ++ l) t; stands = scheds pick.Oldest; well = refl })
      (λ e. let h = cond_some (is_decimal value) (Sched (pick.Seed value)) word e in
      subst (λ (x : Entry). Reads may x (codes "sched=" ++ value)) h.1 (record { written = refl; stands = scheds (pick.Seed value); well = h.0 })))

  evict_inv : (value : List ℕ) (word : Entry) → evict_at value ≡ Some word → Reads may word (codes "evict=" ++ value)
  evict_inv value word =
      step value (codes "old") (λ x. Reads may x (codes "evict=" ++ value)) (Evict pick.Oldest) word _ (λ t. record { written = ap (λ (l : List ℕ). codes "evict=" ++ l) t; stands = evicts pick.Oldest; well = refl })
      (λ e. let h = cond_some (is_decimal value) (Evict (pick.Seed value)) word e in
      subst (λ (x : Entry). Reads may x (codes "evict=" ++ value)) h.1 (record { written = refl; stands = evicts (pick.Seed value); well = h.0 }))

  stats_inv : (value : List ℕ) (word : Entry) → stats_at value ≡ Some word → Reads may word (codes "stats=" ++ value)
  stats_inv value word =
      step value (codes "yes") (λ x. Reads may x (codes "stats=" ++ value)) (Stats true) word _ (λ t. record { written = ap (λ (l : List ℕ). codes "stats=" ++ l) t; stands = wanted true; well = refl })
      (step value (codes "no") (λ x. Reads may x (codes "stats=" ++ value)) (Stats false) word _ (λ t. record { written = ap (λ (l : List ℕ). codes "stats=" ++ l) t; stands = wanted false; well = refl })
      (λ n. absurd (none_some word n)))

  choice_inv : (key value : List ℕ) (word : Entry) → choice_of key value ≡ Some word → Reads may word (key ++ 61 ∷ value)
  choice_inv key value word =
      branch key (codes "sched") (λ x. Reads may x (key ++ 61 ∷ value)) word _ _ (λ k e. at (codes "sched") k (sched_inv value word e))
      (branch key (codes "evict") (λ x. Reads may x (key ++ 61 ∷ value)) word _ _ (λ k e. at (codes "evict") k (evict_inv value word e))
      (branch key (codes "stats") (λ x. Reads may x (key ++ 61 ∷ value)) word _ _ (λ k e. at (codes "stats") k (stats_inv value word e))
      (λ n. absurd (none_some word n))))
    where
      at : (other : List ℕ) → key ≡ other → Reads may word (other ++ 61 ∷ value) → Reads may word (key ++ 61 ∷ value)
      at other k h = subst (λ (l : List ℕ). Reads may word (l ++ 61 ∷ value)) (sym k) h

  machine_inv : (key value : List ℕ) (word : Entry) (o : Option SizeKey) → size_named key ≡ o → machine_with o key value ≡ Some word → Reads may word (key ++ 61 ∷ value)
  machine_inv key value word None is e = choice_inv key value word e
  machine_inv key value word (Some k) is e =
      let h = cond_some (is_decimal value) (Size k value) word e in
      subst (λ (x : Entry). Reads may x (key ++ 61 ∷ value)) h.1 (record { written = size_inv key value k is; stands = sizes k value; well = h.0 })

further_machine : (key value : List ℕ) (word : Entry) → machine_of key value ≡ Some word → Reads is_further word (key ++ 61 ∷ value)
further_machine key value word e = machine_inv is_further (λ k d. refl) (λ p. refl) (λ p. refl) (λ b. refl) key value word (size_named key) refl e

keyed_inv : (key value : List ℕ) (word : Entry) → keyed_of key value ≡ Some word → Reads is_further word (key ++ 61 ∷ value)
keyed_inv key value word =
    branch key (codes "buf") (λ x. Reads is_further x (key ++ 61 ∷ value)) word _ _ (λ k e. at (codes "buf") k (buffer_inv value word e))
    (branch key (codes "do") (λ x. Reads is_further x (key ++ 61 ∷ value)) word _ _ (λ k e. at (codes "do") k (launch_inv value word e))
    (branch key (codes "show") (λ x. Reads is_further x (key ++ 61 ∷ value)) word _ _ (λ k e. at (codes "show") k (show_inv value word e))
    (further_machine key value word)))
  where
    at : (other : List ℕ) → key ≡ other → Reads is_further word (other ++ 61 ∷ value) → Reads is_further word (key ++ 61 ∷ value)
    at other k h = subst (λ (l : List ℕ). Reads is_further word (l ++ 61 ∷ value)) (sym k) h

-- what is read as a word is that word, as it is written
pub word_from : (at : Place) (written : List ℕ) (word : Entry) → entry_at at written ≡ Some word → IsWord at word written
word_from place.File written word e = subst (λ (x : Entry). IsWord place.File x written) (same_Some (File written) word e) (record { text = refl; stands = AtFile written; well = refl })
word_from place.Kernel written word e =
    let h = cond_some (is_name written) (Kernel written) word e in
    subst (λ (x : Entry). IsWord place.Kernel x written) h.1 (record { text = refl; stands = AtKernel written; well = h.0 })
word_from place.Seed written word e =
    let h = cond_some (is_decimal written) (Seed written) word e in
    subst (λ (x : Entry). IsWord place.Seed x written) h.1 (record { text = refl; stands = AtSeed written; well = h.0 })
word_from place.Count written word e =
    let h = cond_some (is_decimal written) (Count written) word e in
    subst (λ (x : Entry). IsWord place.Count x written) h.1 (record { text = refl; stands = AtCount written; well = h.0 })
word_from place.Further written word e =
    let p = bind_some (cut 61 written) (λ (x : List ℕ × List ℕ). keyed_of x.0 x.1) word e in
    let h : Reads is_further word (p.0.0 ++ 61 ∷ p.0.1) = keyed_inv p.0.0 p.0.1 word p.2 in
    record { text = cut_inv 61 written p.0 p.1 ∙ h.written; stands = AtFurther word h.stands; well = h.well }
word_from place.Machine written word e =
    let p = bind_some (cut 61 written) (λ (x : List ℕ × List ℕ). machine_of x.0 x.1) word e in
    let h : Reads is_machine word (p.0.0 ++ 61 ∷ p.0.1) = machine_inv is_machine (λ k d. refl) (λ p. refl) (λ p. refl) (λ b. refl) p.0.0 p.0.1 word (size_named p.0.0) refl p.2 in
    record { text = cut_inv 61 written p.0 p.1 ∙ h.written; stands = AtMachine word h.stands; well = h.well }
word_from place.Nothing written word e = absurd (none_some word e)
