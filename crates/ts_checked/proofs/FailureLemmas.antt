-- What is known of a call that fails.
use Rattle.std.proofs.Common.{Result, Ok, Err, OnErr}

pub told_on_err : {T E P : Type 0} (r : Result T E) → P → OnErr r P
told_on_err (Ok x) p = tt
told_on_err (Err e) p = p
