use Rattle.std.proofs.Common.{◌≡◌, ◌≢◌, ℕ, ◌+◌, ◌*◌, min, List, [], ◌∷◌, ◌++◌, length, replicate, ap, sym, ◌∙◌, subst, refl, arith, length-take, ◌<◌, All, drop, get_or, suc, add-one}
use Rattle.std.proofs.Math.Seq.{drop-cons}
use Rattle.std.proofs.lemmas.List.{length_push}
use Rattle.std.proofs.lemmas.List.Elements.{All-push}
use Rattle.std.specs.Prelude.{Option}
use Rattle.std.proofs.Math.ListN.{length-replicate}
use Rattle.vx_world.specs.declared.reading.Entry.{Entry}
use Rattle.vx_run.specs.declared.report.BufferKind.TheVariants as buffer
use Rattle.vx_run.specs.declared.report.Cause.TheVariants.{Buffer, ReadFault, Missing}
use Rattle.vx_run.specs.declared.stages.Stop.{Stop}
use Rattle.vx_run.specs.declared.stages.Stop.TheVariants as stop
use Rattle.vx_words.specs.declared.run_words.BufFrom.{BufFrom}
use Rattle.vx_words.specs.declared.run_words.BufFrom.TheVariants.{File, Zero}
use Rattle.vx_words.specs.declared.run_words.BufWord.{BufWord}
use Rattle.vx_words.specs.declared.run_words.RunWords.{RunWords}
use Rattle.vx_run.specs.Answers.{Chosen, Outcome, Refuses, Brings, FromBuffers, NoBufferFile, WrongLength, NextBuffer}
use Rattle.vx_run.specs.Stages.{StopsAt, ReadsFront, StopsReading}

module _ (held : Option (List Entry)) (c : RunWords) (k : Chosen) (index : ℕ) (more : List BufWord) (contents : List (List ℕ)) where
  -- the outcomes of a buffer with this name and origin, and those behind it
  abbrev pub from_buffer : List ℕ → BufFrom → Outcome → Type 0
  from_buffer name from o = FromBuffers held c k index (record { name = name; from = from } ∷ more) contents o

  -- zeros that are too many or too few are refused
  pub zeros_refused : (name : List ℕ) (from : BufFrom) (count : ℕ) → from ≡ Zero count → count ≢ c.items →
      from_buffer name from (Refuses (Buffer index (buffer.Length (4 * count) 4)))
  zeros_refused name from count e other =
      let n : length (replicate (4 * count) 0) ≡ 4 * count = length-replicate (4 * count) 0 in
      let at_zero : from_buffer name (Zero count) (Refuses (Buffer index (buffer.Length (length (replicate (4 * count) 0)) 4))) =
      WrongLength index contents (record { name = name; from = Zero count }) more (replicate (4 * count) 0) refl (λ same. other (omega (arith, n, same))) in
      subst (λ f. from_buffer name f (Refuses (Buffer index (buffer.Length (4 * count) 4)))) (sym e)
      (subst (λ m. from_buffer name (Zero count) (Refuses (Buffer index (buffer.Length m 4)))) n at_zero)

  -- a file with more or fewer bytes than are wanted is refused
  pub file_refused : (name : List ℕ) (from : BufFrom) (path bytes : List ℕ) → from ≡ File path → ReadsFront held path (4 * c.items + 1) bytes →
      length bytes ≢ 4 * c.items → from_buffer name from (Refuses (Buffer index (buffer.Length (length bytes) 4)))
  file_refused name from path bytes e front other =
      let cut : length bytes ≡ min (4 * c.items + 1) (length front.whole) = ap length (sym front.front) ∙ length-take (4 * c.items + 1) front.whole in
      let counted : min (length front.whole) (4 * c.items + 1) ≡ length bytes = omega (arith, cut) in
      let at_file : from_buffer name (File path) (Refuses (Buffer index (buffer.Length (min (length front.whole) (4 * c.items + 1)) 4))) =
      WrongLength index contents (record { name = name; from = File path }) more front.whole front.holds (λ same. other (omega (arith, cut, same))) in
      subst (λ f. from_buffer name f (Refuses (Buffer index (buffer.Length (length bytes) 4)))) (sym e)
      (subst (λ m. from_buffer name (File path) (Refuses (Buffer index (buffer.Length m 4)))) counted at_file)

  -- what stops the read of its file stops the call
  pub unread_stops : (name : List ℕ) (path : List ℕ) (s : Stop) → StopsReading held path s → StopsAt (from_buffer name (File path)) s
  unread_stops name path (stop.Refused (Missing missing)) h =
      subst (λ m. from_buffer name (File path) (Refuses (Missing m))) (sym h.0) (NoBufferFile index contents (record { name = name; from = File path }) more path refl h.1)
  unread_stops name path (stop.Refused (ReadFault faults)) h = h
  unread_stops name path (stop.Refused other) h = absurd h
  unread_stops name path stop.Memory h = tt

  pub file_stops : (name : List ℕ) (from : BufFrom) (path : List ℕ) (s : Stop) → from ≡ File path → StopsReading held path s → StopsAt (from_buffer name from) s
  file_stops name from path s e h = subst (λ f. StopsAt (from_buffer name f) s) (sym e) (unread_stops name path s h)

-- an outcome that one relation has, another has too
pub StopsAt-map : (P Q : Outcome → Type 0) → ((o : Outcome) → P o → Q o) → (s : Stop) → StopsAt P s → StopsAt Q s
StopsAt-map P Q f (stop.Refused (ReadFault faults)) h = h
StopsAt-map P Q f (stop.Refused c) h = f (Refuses c) h
StopsAt-map P Q f stop.Memory h = tt

-- the first buffers are loaded: what comes of the others, behind these contents, comes of all
pub record HasLoaded (held : Option (List Entry)) (c : RunWords) (index : ℕ) (contents : List (List ℕ)) : Type 0 where
  pub count : length contents ≡ index
  pub lengths : All (λ bytes. length bytes ≡ 4 * c.items) contents
  pub leads : (k : Chosen) (o : Outcome) → FromBuffers held c k index (drop index c.buffers) contents o → FromBuffers held c k 0 c.buffers [] o

-- the next buffer is the first of those that are left
next_buffer : (c : RunWords) (index : ℕ) (b : BufWord) → index < length c.buffers → b ≡ get_or c.buffers index b →
    drop index c.buffers ≡ b ∷ drop (index + 1) c.buffers
next_buffer c index b within is = drop-cons c.buffers index b within ∙ ap (λ x. x ∷ drop (suc index) c.buffers) (sym is) ∙ ap (λ i. b ∷ drop i c.buffers) (sym (add-one index))

-- one buffer more is loaded
pub HasLoaded-next : (held : Option (List Entry)) (c : RunWords) (index : ℕ) (contents : List (List ℕ)) (b : BufWord) (bytes : List ℕ) →
    index < length c.buffers → b ≡ get_or c.buffers index b → Brings held b.from bytes → length bytes ≡ 4 * c.items →
    HasLoaded held c index contents → HasLoaded held c (index + 1) (contents ++ bytes ∷ [])
HasLoaded-next held c index contents b bytes within is brings n h =
    let front : drop index c.buffers ≡ b ∷ drop (index + 1) c.buffers = next_buffer c index b within is in
    record {
      count = omega (arith, length_push contents bytes, h.count);
      lengths = All-push (λ x. length x ≡ 4 * c.items) contents bytes h.lengths n;
      leads = λ k o rest. h.leads k o (subst (λ bs. FromBuffers held c k index bs contents o) (sym front)
          (NextBuffer index contents b (drop (index + 1) c.buffers) bytes o brings n (subst (λ i. FromBuffers held c k i (drop (index + 1) c.buffers) (contents ++ bytes ∷ []) o) (add-one index) rest)));
    }

-- what stops the next buffer stops the call
pub HasLoaded-stops : (held : Option (List Entry)) (c : RunWords) (index : ℕ) (contents : List (List ℕ)) (b : BufWord) (s : Stop) →
    index < length c.buffers → b ≡ get_or c.buffers index b → HasLoaded held c index contents →
    ((k : Chosen) (more : List BufWord) (sofar : List (List ℕ)) → StopsAt (FromBuffers held c k index (b ∷ more) sofar) s) →
    (k : Chosen) → StopsAt (FromBuffers held c k 0 c.buffers []) s
HasLoaded-stops held c index contents b s within is h stops k =
    let front : drop index c.buffers ≡ b ∷ drop (index + 1) c.buffers = next_buffer c index b within is in
    StopsAt-map _ _ (h.leads k) s (subst (λ bs. StopsAt (FromBuffers held c k index bs contents) s) (sym front) (stops k (drop (index + 1) c.buffers) contents))
