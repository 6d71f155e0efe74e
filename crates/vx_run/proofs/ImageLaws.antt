-- What the entry of `build` comes to.
use Rattle.std.proofs.Common.{◌≡◌, ℕ, ◌^◌, ◌-◌, ◌<◌, ◌≤◌, min, List, Some, refl, ap, sym, ◌∙◌, subst, arith}
use Rattle.std.specs.Prelude.{Option, None, slice_get}
use Rattle.vx_base.specs.declared.types.Pos.{Pos}
use Rattle.ocl_program.specs.Nodes.{FunctionNode}
use Rattle.ocl_types.specs.Functions.{kernel_from}
use Rattle.kernel_images.specs.Refusals as images
use Rattle.kernel_images.specs.Refusals.{HasManySlots, HasManyWords, IsSmallNamed, StandsAt}
use Rattle.kernel_images.specs.declared.compiling.CompileFault.{CompileFault}
use Rattle.kernel_images.specs.declared.compiling.CompileFault.TheVariants as compile
use Rattle.vx_cc.specs.declared.faults.SourceKind.TheVariants as source
use Rattle.vx_run.specs.declared.report.Cause.TheVariants as cause
use Rattle.vx_run.specs.declared.report.Cause.TheVariants.{Source}
use Rattle.vx_run.specs.declared.stages.Stop.{Stop}
use Rattle.vx_run.specs.declared.stages.Stop.TheVariants as stop
use Rattle.vx_run.specs.Answers.{Outcome, FromEntry, NoKernel, ManySlots, ManyWords, HasImage}
use Rattle.vx_run.specs.Stages.{IsNoProgram, IsPlain, StopsAt, StopsForImage}
use Rattle.vx_run.proofs.Answerable.{Agree, MayBe}

-- a kernel without an image stops the call
pub image_stops : (entry : List ℕ) (program : List FunctionNode) (fault : CompileFault) (s : Stop) → StopsForImage fault s → images.IsRefused program entry fault →
    StopsAt (FromEntry entry program) s
image_stops entry program compile.NoEntry s is none = subst (StopsAt (FromEntry entry program)) (sym is) (NoKernel none)
image_stops entry program (compile.Slots pos slots) s is h = subst (StopsAt (FromEntry entry program)) (sym is) (ManySlots h.0 pos slots h.1.0 h.1.1)
image_stops entry program (compile.Words pos words) s is h = subst (StopsAt (FromEntry entry program)) (sym is) (ManyWords h.0 pos words h.1.0 h.1.1)
image_stops entry program compile.Memory s is h = subst (StopsAt (FromEntry entry program)) (sym is) tt

-- no file stops it
pub image_plain : (fault : CompileFault) (s : Stop) → StopsForImage fault s → IsPlain s
image_plain compile.NoEntry s is = subst IsPlain (sym is) tt
image_plain (compile.Slots pos slots) s is = subst IsPlain (sym is) tt
image_plain (compile.Words pos words) s is = subst IsPlain (sym is) tt
image_plain compile.Memory s is = subst IsPlain (sym is) tt

-- no file stops a call whose bytes have no program
pub no_program_plain : (bytes : List ℕ) (s : Stop) → IsNoProgram bytes s → IsPlain s
no_program_plain bytes (stop.Refused (Source pos kind)) h = tt
no_program_plain bytes (stop.Refused other) h = absurd h
no_program_plain bytes stop.Memory h = tt

-- an entry comes to such a refusal, or its image is printed
pub may_entry : (entry : List ℕ) (program : List FunctionNode) (o : Outcome) → FromEntry entry program o → MayBe o
may_entry entry program o (NoKernel none) = tt
may_entry entry program o (ManySlots number pos slots stands many) = tt
may_entry entry program o (ManyWords number pos words stands many) = tt
may_entry entry program o (HasImage image small named) = refl

pub some_same : {X : Type 0} (o : Option X) (x y : X) → o ≡ Some x → o ≡ Some y → x ≡ y
some_same o x y e f = cc

pub some_none : {X : Type 0} (o : Option X) (x : X) → o ≡ Some x → o ≡ None → ⊥
some_none o x e f = cc

module _ (entry : List ℕ) (program : List FunctionNode) where
  -- a name stands at one place
  one_number : (number other : ℕ) (pos pos' : Pos) → StandsAt program entry number pos → StandsAt program entry other pos' → number ≡ other
  one_number number other pos pos' h k = some_same (kernel_from 0 entry program) number other h.found k.found

  one_place : (number other : ℕ) (pos pos' : Pos) → StandsAt program entry number pos → StandsAt program entry other pos' → pos ≡ pos'
  one_place number other pos pos' h k =
      let same : number ≡ other = one_number number other pos pos' h k in
      let kernel : h.kernel ≡ k.kernel = some_same (slice_get program other) h.kernel k.kernel (subst (λ n. slice_get program n ≡ Some h.kernel) same h.is) k.is in
      h.here ∙ ap (λ (f : FunctionNode). f.name.pos) kernel ∙ sym k.here

  -- what is too large is not small enough
  pub many_slots_small : (number : ℕ) (pos : Pos) (slots : ℕ) → StandsAt program entry number pos → HasManySlots program number slots → IsSmallNamed program entry → ⊥
  many_slots_small number pos slots stands many small =
      let same : small.0 ≡ number = some_same (kernel_from 0 entry program) small.0 number small.1.0 stands.found in
      let few : images.IsSmall program number = subst (images.IsSmall program) same small.1.1 in
      omega (arith, many.0, few.0)

  pub many_words_small : (number : ℕ) (pos : Pos) (words : ℕ) → StandsAt program entry number pos → HasManyWords program number words → IsSmallNamed program entry → ⊥
  many_words_small number pos words stands many small =
      let same : small.0 ≡ number = some_same (kernel_from 0 entry program) small.0 number small.1.0 stands.found in
      let few : images.IsSmall program number = subst (images.IsSmall program) same small.1.1 in
      omega (arith, many.1.0, few.1)

  -- a frame that is too large is told before words that are too many
  slots_before_words : (number other : ℕ) (pos pos' : Pos) (slots words : ℕ) → StandsAt program entry number pos → StandsAt program entry other pos' →
      HasManySlots program number slots → HasManyWords program other words → ⊥
  slots_before_words number other pos pos' slots words stands stands' many many' =
      let few : HasManyWords program number words = subst (λ n. HasManyWords program n words) (sym (one_number number other pos pos' stands stands')) many' in
      omega (arith, many.0, few.0)

  same_slots : (number other : ℕ) (pos pos' : Pos) (slots slots' : ℕ) → StandsAt program entry number pos → StandsAt program entry other pos' →
      HasManySlots program number slots → HasManySlots program other slots' → cause.Source pos (source.Slots slots) ≡ cause.Source pos' (source.Slots slots')
  same_slots number other pos pos' slots slots' stands stands' many many' =
      let there : HasManySlots program number slots' = subst (λ n. HasManySlots program n slots') (sym (one_number number other pos pos' stands stands')) many' in
      let same : slots ≡ slots' = many.1 ∙ sym there.1 in
      ap (λ (p : Pos). cause.Source p (source.Slots slots)) (one_place number other pos pos' stands stands') ∙ ap (λ (n : ℕ). cause.Source pos' (source.Slots n)) same

  same_words : (number other : ℕ) (pos pos' : Pos) (words words' : ℕ) → StandsAt program entry number pos → StandsAt program entry other pos' →
      HasManyWords program number words → HasManyWords program other words' → cause.Source pos (source.Words words) ≡ cause.Source pos' (source.Words words')
  same_words number other pos pos' words words' stands stands' many many' =
      let there : HasManyWords program number words' = subst (λ n. HasManyWords program n words') (sym (one_number number other pos pos' stands stands')) many' in
      let same : words ≡ words' = many.1.1 ∙ sym there.1.1 in
      ap (λ (p : Pos). cause.Source p (source.Words words)) (one_place number other pos pos' stands stands') ∙ ap (λ (n : ℕ). cause.Source pos' (source.Words n)) same

-- an entry comes to one refusal, or only to answers
pub one_entry : (entry : List ℕ) (program : List FunctionNode) (o p : Outcome) → FromEntry entry program o → FromEntry entry program p → Agree o p
one_entry entry program o p (NoKernel none) (NoKernel none') = refl
one_entry entry program o p (NoKernel none) (ManySlots number pos slots stands many) = absurd (some_none (kernel_from 0 entry program) number stands.found none)
one_entry entry program o p (NoKernel none) (ManyWords number pos words stands many) = absurd (some_none (kernel_from 0 entry program) number stands.found none)
one_entry entry program o p (NoKernel none) (HasImage image small named) = absurd (some_none (kernel_from 0 entry program) named.0 named.1.0 none)
one_entry entry program o p (ManySlots number pos slots stands many) (NoKernel none) = absurd (some_none (kernel_from 0 entry program) number stands.found none)
one_entry entry program o p (ManySlots number pos slots stands many) (ManySlots other pos' slots' stands' many') =
    same_slots entry program number other pos pos' slots slots' stands stands' many many'
one_entry entry program o p (ManySlots number pos slots stands many) (ManyWords other pos' words stands' many') =
    absurd (slots_before_words entry program number other pos pos' slots words stands stands' many many')
one_entry entry program o p (ManySlots number pos slots stands many) (HasImage image small named) = absurd (many_slots_small entry program number pos slots stands many small)
one_entry entry program o p (ManyWords number pos words stands many) (NoKernel none) = absurd (some_none (kernel_from 0 entry program) number stands.found none)
one_entry entry program o p (ManyWords number pos words stands many) (ManySlots other pos' slots stands' many') =
    absurd (slots_before_words entry program other number pos' pos slots words stands' stands many' many)
one_entry entry program o p (ManyWords number pos words stands many) (ManyWords other pos' words' stands' many') =
    same_words entry program number other pos pos' words words' stands stands' many many'
one_entry entry program o p (ManyWords number pos words stands many) (HasImage image small named) = absurd (many_words_small entry program number pos words stands many small)
one_entry entry program o p (HasImage image small named) (NoKernel none) = absurd (some_none (kernel_from 0 entry program) named.0 named.1.0 none)
one_entry entry program o p (HasImage image small named) (ManySlots number pos slots stands many) = absurd (many_slots_small entry program number pos slots stands many small)
one_entry entry program o p (HasImage image small named) (ManyWords number pos words stands many) = absurd (many_words_small entry program number pos words stands many small)
one_entry entry program o p (HasImage image small named) (HasImage image' small' named') = tt
