use Rattle.std.proofs.Common.{◌≡◌, ℕ, ◌≤◌, List, length, take, Some, refl}
use Rattle.std.specs.Prelude.{Option, None, option_map}
use Rattle.std.specs.Option.{ForSome}
use Rattle.std.proofs.lemmas.List.{take_all}
use Rattle.vx_world.specs.declared.reading.Entry.{Entry}
use Rattle.vx_world.specs.Reading.{bytes_named}
use Rattle.vx_run.specs.Stages.{ReadsFront}

-- what a function made of a value that is there
pub mapped_some : {X Y : Type 0} (f : X → Y) (o : Option X) (y : Y) → option_map f o ≡ Some y → (x : X) × (o ≡ Some x) × (f x ≡ y)
mapped_some f None y e = absurd (cc)
mapped_some f (Some x) y e = (x, refl, cc)

-- what was read is the front of a file, where the files tell what they have, and else of itself
pub front_read : (held : Option (List Entry)) (name : List ℕ) (most : ℕ) (bytes : List ℕ) →
    ForSome held (λ entries. option_map (take most) (bytes_named entries name) ≡ Some bytes) → length bytes ≤ most → ReadsFront held name most bytes
front_read None name most bytes told few = record { whole = bytes; holds = tt; front = take_all most bytes few }
front_read (Some entries) name most bytes told few =
    let found = mapped_some (take most) (bytes_named entries name) bytes (told entries refl) in
    record { whole = found.0; holds = found.1; front = found.2 }
