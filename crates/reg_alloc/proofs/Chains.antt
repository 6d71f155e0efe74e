-- What follows where a call is done.
use Rattle.std.proofs.Common.{Result, Ok, Err, OnOk}

pub on_done : {A E P Q : Type 0} (r : Result A E) → (P → Q) → OnOk r P → OnOk r Q
on_done (Ok x) f h = f h
on_done (Err x) f h = h
