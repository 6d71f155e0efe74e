-- What is written as a word is read as that word.
use Rattle.std.proofs.Common.{◌≡◌, ℕ, Bool, true, false, cond, ◌&&◌, eqb, Option, Some, None, List, [], ◌∷◌, ◌++◌, map, refl, sym, ap, ◌∙◌, append-nil, append_assoc}
use Rattle.std.specs.Prelude.{codes}
use Rattle.std.specs.List.{AllByRecursion, list_all, join_with_byte, slice_split}
use Rattle.std.specs.Char.{is_ascii_digit}
use Rattle.std.specs.Str.{bytes_eq}
use Rattle.std.proofs.lemmas.Bool.{and_parts, false≢true}
use Rattle.std.proofs.lemmas.List.Elements.{All-from_recursion}
use Rattle.std.proofs.lemmas.List.Splits.{slice_split_none, slice_split_at}
use Rattle.decimal_text.specs.Numerals.{leads_well, is_decimal}
use Rattle.vx_base.specs.declared.types.Elem.{Elem}
use Rattle.vx_base.specs.declared.types.Elem.TheVariants.{Char, Uchar, Short, Ushort, Int, Uint}
use Rattle.command_words.specs.declared.entries.ArgEntry.{ArgEntry}
use Rattle.command_words.specs.declared.entries.ArgEntry.TheVariants as arg
use Rattle.command_words.specs.declared.entries.BufEntry.{BufEntry}
use Rattle.command_words.specs.declared.entries.DoEntry.{DoEntry}
use Rattle.command_words.specs.declared.entries.Origin.{Origin}
use Rattle.command_words.specs.declared.entries.Origin.TheVariants as origin
use Rattle.command_words.specs.declared.entries.Pick.{Pick}
use Rattle.command_words.specs.declared.entries.Pick.TheVariants as pick
use Rattle.command_words.specs.declared.entries.SizeKey.{SizeKey}
use Rattle.command_words.specs.declared.entries.SizeKey.TheVariants.{Cores, Warps, Lanes, Sets, Ways, Banks, Turns}
use Rattle.command_words.specs.declared.entries.Entry.{Entry}
use Rattle.command_words.specs.declared.entries.Entry.TheVariants.{File, Kernel, Seed, Count, Buf, Do, Show, Size, Sched, Evict, Stats}
use Rattle.command_words.specs.declared.places.Place.{Place}
use Rattle.command_words.specs.declared.places.Place.TheVariants as place
use Rattle.command_words.specs.Names.{is_name_byte, is_name}
use Rattle.command_words.specs.Cuts.{cut, behind_minus, ◌>>=◌}
use Rattle.command_words.specs.Readers.{elem_named, where_name, where_decimal, origin_at, buffer_of, buffer_at, marked_at, arg_at, args_from, tail_of, tail_at, launch_of, launch_at, sched_at, evict_at, entry_at}
use Rattle.command_words.specs.Texts.{elem_text, origin_text, arg_text, args_text, size_text, pick_text, word_text, is_origin, is_arg, is_sched, is_evict, is_well, is_further, is_machine, Stands, AtFile, AtKernel, AtSeed, AtCount, AtFurther, AtMachine}
use Rattle.command_words.proofs.CutTexts.{cut_none, cut_at}
use Rattle.command_words.proofs.Bytes.{all_lack, all_apart, name_all, decimal_all, name_lacks, decimal_lacks, decimal_no_name, decimal_apart, and_false}

elem_again : (e : Elem) → elem_named (elem_text e) ≡ Some e
elem_again Char = refl
elem_again Uchar = refl
elem_again Short = refl
elem_again Ushort = refl
elem_again Int = refl
elem_again Uint = refl

elem_all : (e : Elem) → list_all is_name_byte (elem_text e) ≡ true
elem_all Char = refl
elem_all Uchar = refl
elem_all Short = refl
elem_all Ushort = refl
elem_all Int = refl
elem_all Uint = refl

-- a test that is passed
passed : {X : Type 0} (b : Bool) (x : X) → b ≡ true → cond b (Some x) None ≡ Some x
passed b x h = ap (λ (t : Bool). cond t (Some x) None) h

-- what follows where there is something
follows : {A B : Type 0} (o : Option A) (x : A) (f : A → Option B) → o ≡ Some x → (o >>= f) ≡ f x
follows {A = A} o x f e = ap (λ (p : Option A). p >>= f) e

origin_again : (o : Origin) → is_origin o ≡ true → origin_at (origin_text o) ≡ Some o
origin_again (origin.In []) h = absurd (false≢true h)
origin_again (origin.In (c ∷ cs)) h = refl
origin_again (origin.Zero digits) h = passed (is_decimal digits) (origin.Zero digits) h

buffer_again : (b : BufEntry) → is_well (Buf b) ≡ true → buffer_at (b.name ++ (codes ":" ++ (elem_text b.elem ++ (codes ":" ++ origin_text b.origin)))) ≡ Some (Buf b)
buffer_again b h =
    let p = and_parts (is_name b.name) (is_origin b.origin) h in
    let rest : List ℕ = elem_text b.elem ++ 58 ∷ origin_text b.origin in
    follows (cut 58 (b.name ++ 58 ∷ rest)) (b.name, rest) (λ x. cut 58 x.1 >>= λ q. buffer_of x.0 q.0 q.1) (cut_at 58 b.name rest (name_lacks 58 b.name refl p.0))
    ∙ follows (cut 58 rest) (elem_text b.elem, origin_text b.origin) (λ q. buffer_of b.name q.0 q.1) (cut_at 58 (elem_text b.elem) (origin_text b.origin) (all_lack is_name_byte 58 (elem_text b.elem) refl (elem_all b.elem)))
    ∙ follows (elem_named (elem_text b.elem)) b.elem (λ e. origin_at (origin_text b.origin) >>= λ o. where_name b.name (Buf (record { name = b.name; elem = e; origin = o }))) (elem_again b.elem)
    ∙ follows (origin_at (origin_text b.origin)) b.origin (λ o. where_name b.name (Buf (record { name = b.name; elem = b.elem; origin = o }))) (origin_again b.origin p.1)
    ∙ passed (is_name b.name) (Buf b) p.0

arg_again : (a : ArgEntry) → is_arg a ≡ true → arg_at (arg_text a) ≡ Some a
arg_again (arg.Named name) h = ap (λ (t : Bool). cond t (Some (arg.Named name)) (cond (is_decimal name) (Some (arg.Number name)) (marked_at (behind_minus name) name))) h
arg_again (arg.Number digits) h =
    ap (λ (t : Bool). cond t (Some (arg.Named digits)) (cond (is_decimal digits) (Some (arg.Number digits)) (marked_at (behind_minus digits) digits))) (decimal_no_name digits h)
    ∙ ap (λ (t : Bool). cond t (Some (arg.Number digits)) (marked_at (behind_minus digits) digits)) h
arg_again (arg.Negative digits) h =
    ap (λ (t : Bool). cond t (Some (arg.Number (45 ∷ digits))) (where_decimal digits (arg.Negative digits))) (and_false (leads_well (45 ∷ digits)))
    ∙ passed (is_decimal digits) (arg.Negative digits) h
arg_again (arg.Local digits) h = passed (is_decimal digits) (arg.Local digits) h

args_again : (found args : List ArgEntry) → list_all is_arg args ≡ true → args_from found (map arg_text args) ≡ Some (found ++ args)
args_again found [] h = ap (λ (l : List ArgEntry). Some l) (sym (append-nil found))
args_again found (a ∷ args) h =
    let p = and_parts (is_arg a) (list_all is_arg args) h in
    follows (arg_at (arg_text a)) a (λ x. args_from (found ++ x ∷ []) (map arg_text args)) (arg_again a p.0)
    ∙ args_again (found ++ a ∷ []) args p.1
    ∙ ap (λ (l : List ArgEntry). Some l) (append_assoc found (a ∷ []) args)

-- no argument has a comma
arg_apart : (a : ArgEntry) → is_arg a ≡ true → AllByRecursion (λ b. eqb b 44 ≡ false) (arg_text a)
arg_apart (arg.Named name) h = all_apart is_name_byte 44 name refl (name_all name h)
arg_apart (arg.Number digits) h = all_apart is_ascii_digit 44 digits refl (decimal_all digits h)
arg_apart (arg.Negative digits) h = (refl, all_apart is_ascii_digit 44 digits refl (decimal_all digits h))
arg_apart (arg.Local digits) h = (refl, (refl, (refl, (refl, (refl, (refl, all_apart is_ascii_digit 44 digits refl (decimal_all digits h)))))))

split_again : (a : ArgEntry) (args : List ArgEntry) → list_all is_arg (a ∷ args) ≡ true → slice_split (λ b. eqb b 44) (join_with_byte 44 (map arg_text (a ∷ args))) ≡ map arg_text (a ∷ args)
split_again a [] h = slice_split_none (λ b. eqb b 44) (arg_text a) (All-from_recursion (λ b. eqb b 44 ≡ false) (arg_text a) (arg_apart a (and_parts (is_arg a) true h).0))
split_again a (d ∷ args) h =
    let p = and_parts (is_arg a) (list_all is_arg (d ∷ args)) h in
    slice_split_at (λ b. eqb b 44) (arg_text a) 44 (join_with_byte 44 (map arg_text (d ∷ args))) (All-from_recursion (λ b. eqb b 44 ≡ false) (arg_text a) (arg_apart a p.0)) refl
    ∙ ap (λ (l : List (List ℕ)). arg_text a ∷ l) (split_again d args p.1)

tail_again : (local : List ℕ) (args : List ArgEntry) → is_decimal local ≡ true → list_all is_arg args ≡ true → tail_at (local ++ args_text args) ≡ Some (local, args)
tail_again local [] d h =
    ap tail_at (append-nil local) ∙ ap (tail_of local) (cut_none 47 local (decimal_lacks 47 local refl d))
tail_again local (a ∷ args) d h =
    let joined : List ℕ = join_with_byte 44 (map arg_text (a ∷ args)) in
    ap (tail_of (local ++ 47 ∷ joined)) (cut_at 47 local joined (decimal_lacks 47 local refl d))
    ∙ ap (λ (l : List (List ℕ)). args_from [] l >>= λ x. Some (local, x)) (split_again a args h)
    ∙ follows (args_from [] (map arg_text (a ∷ args))) (a ∷ args) (λ x. Some (local, x)) (args_again [] (a ∷ args) h)

launch_again : (d : DoEntry) → is_well (Do d) ≡ true → launch_at (d.entry ++ (codes "/" ++ (d.global ++ (codes "/" ++ (d.local ++ args_text d.args))))) ≡ Some (Do d)
launch_again d h =
    let p = and_parts (is_name d.entry && is_decimal d.global && is_decimal d.local) (list_all is_arg d.args) h in
    let q = and_parts (is_name d.entry && is_decimal d.global) (is_decimal d.local) p.0 in
    let r = and_parts (is_name d.entry) (is_decimal d.global) q.0 in
    let end : List ℕ = d.local ++ args_text d.args in
    let rest : List ℕ = d.global ++ 47 ∷ end in
    follows (cut 47 (d.entry ++ 47 ∷ rest)) (d.entry, rest) (λ x. cut 47 x.1 >>= λ y. (tail_at y.1 >>= λ t. launch_of x.0 y.0 t.0 t.1)) (cut_at 47 d.entry rest (name_lacks 47 d.entry refl r.0))
    ∙ follows (cut 47 rest) (d.global, end) (λ y. tail_at y.1 >>= λ t. launch_of d.entry y.0 t.0 t.1) (cut_at 47 d.global end (decimal_lacks 47 d.global refl r.1))
    ∙ follows (tail_at end) (d.local, d.args) (λ t. launch_of d.entry d.global t.0 t.1) (tail_again d.local d.args q.1 p.1)
    ∙ passed (is_name d.entry && is_decimal d.global && is_decimal d.local) (Do d) p.0

sched_again : (p : Pick) → is_sched p ≡ true → sched_at (pick_text p) ≡ Some (Sched p)
sched_again pick.Round h = refl
sched_again pick.Oldest h = refl
sched_again (pick.Seed digits) h =
    ap (λ (t : Bool). cond t (Some (Sched pick.Round)) (cond (bytes_eq digits (codes "old")) (Some (Sched pick.Oldest)) (where_decimal digits (Sched (pick.Seed digits))))) (decimal_apart digits (codes "rr") h refl)
    ∙ ap (λ (t : Bool). cond t (Some (Sched pick.Oldest)) (where_decimal digits (Sched (pick.Seed digits)))) (decimal_apart digits (codes "old") h refl)
    ∙ passed (is_decimal digits) (Sched (pick.Seed digits)) h

evict_again : (p : Pick) → is_evict p ≡ true → evict_at (pick_text p) ≡ Some (Evict p)
evict_again pick.Round h = absurd (false≢true h)
evict_again pick.Oldest h = refl
evict_again (pick.Seed digits) h =
    ap (λ (t : Bool). cond t (Some (Evict pick.Oldest)) (where_decimal digits (Evict (pick.Seed digits)))) (decimal_apart digits (codes "old") h refl)
    ∙ passed (is_decimal digits) (Evict (pick.Seed digits)) h

further_size : (key : SizeKey) (digits : List ℕ) → entry_at place.Further (size_text key ++ digits) ≡ where_decimal digits (Size key digits)
further_size Cores digits = refl
further_size Warps digits = refl
further_size Lanes digits = refl
further_size Sets digits = refl
further_size Ways digits = refl
further_size Banks digits = refl
further_size Turns digits = refl

machine_size : (key : SizeKey) (digits : List ℕ) → entry_at place.Machine (size_text key ++ digits) ≡ where_decimal digits (Size key digits)
machine_size Cores digits = refl
machine_size Warps digits = refl
machine_size Lanes digits = refl
machine_size Sets digits = refl
machine_size Ways digits = refl
machine_size Banks digits = refl
machine_size Turns digits = refl

further_again : (word : Entry) → is_further word ≡ true → is_well word ≡ true → entry_at place.Further (word_text word) ≡ Some word
further_again (File path) s h = absurd (false≢true s)
further_again (Kernel name) s h = absurd (false≢true s)
further_again (Seed digits) s h = absurd (false≢true s)
further_again (Count digits) s h = absurd (false≢true s)
further_again (Buf b) s h = buffer_again b h
further_again (Do d) s h = launch_again d h
further_again (Show name) s h = passed (is_name name) (Show name) h
further_again (Size key digits) s h = further_size key digits ∙ passed (is_decimal digits) (Size key digits) h
further_again (Sched p) s h = sched_again p h
further_again (Evict p) s h = evict_again p h
further_again (Stats true) s h = refl
further_again (Stats false) s h = refl

machine_again : (word : Entry) → is_machine word ≡ true → is_well word ≡ true → entry_at place.Machine (word_text word) ≡ Some word
machine_again (File path) s h = absurd (false≢true s)
machine_again (Kernel name) s h = absurd (false≢true s)
machine_again (Seed digits) s h = absurd (false≢true s)
machine_again (Count digits) s h = absurd (false≢true s)
machine_again (Buf b) s h = absurd (false≢true s)
machine_again (Do d) s h = absurd (false≢true s)
machine_again (Show name) s h = absurd (false≢true s)
machine_again (Size key digits) s h = machine_size key digits ∙ passed (is_decimal digits) (Size key digits) h
machine_again (Sched p) s h = sched_again p h
machine_again (Evict p) s h = evict_again p h
machine_again (Stats true) s h = refl
machine_again (Stats false) s h = refl

-- a word at a place where it may stand
pub word_again : (at : Place) (word : Entry) → Stands at word → is_well word ≡ true → entry_at at (word_text word) ≡ Some word
word_again at word (AtFile path) h = refl
word_again at word (AtKernel name) h = passed (is_name name) (Kernel name) h
word_again at word (AtSeed digits) h = passed (is_decimal digits) (Seed digits) h
word_again at word (AtCount digits) h = passed (is_decimal digits) (Count digits) h
word_again at word (AtFurther other s) h = further_again other s h
word_again at word (AtMachine other s) h = machine_again other s h
