-- When a list of calls is empty at each place.
use Rattle.std.proofs.Common.{◌≡◌, ℕ, ◌<◌, List, Option, None, length, get_or, map, ◌∙◌, ap, arith, inl, inr}
use Rattle.std.proofs.lemmas.List.{ext_get_or, get_or-map, get_or-replicate, length-map, length-replicate, get_or_past}
use Rattle.std.proofs.lemmas.Bool.{cases_lt}
use Rattle.split_phase.specs.Calls.{Asked, gone, no_calls, AreNone}

length-no_calls : length no_calls ≡ 16
length-no_calls = let empty : Option Asked = None in length-replicate 16 empty

no_calls-at : (i : ℕ) → get_or no_calls i None ≡ None
no_calls-at i = elim (cases_lt i 16) [
  | inl below ↦ (let empty : Option Asked = None in get_or-replicate 16 i empty empty below)
  | inr past ↦ get_or_past no_calls i None (let e = length-no_calls in omega arith)
]

pub AreNone-from_each : (calls : List (Option Asked)) → length calls ≡ 16 → ((i : ℕ) (d : Option Asked) → i < 16 → get_or calls i d ≡ None) → AreNone calls
AreNone-from_each calls long none =
    let whole : calls ≡ no_calls = ext_get_or None calls no_calls (long ∙ (let e : 16 ≡ length no_calls = omega (arith, length-no_calls) in e)) (λ i below.
    none i None (omega arith) ∙ (let e : None ≡ get_or no_calls i None = cc (no_calls-at i) in e)) in
    record { whole = whole; each = λ ctx. ap (λ (xs : List (Option Asked)). get_or xs ctx.0 None) whole ∙ no_calls-at ctx.0 }

-- calls that were dropped
pub AreNone-gone : (calls : List (Option Asked)) → length calls ≡ 16 → AreNone (map gone calls)
AreNone-gone calls long = AreNone-from_each (map gone calls) (length-map calls gone ∙ long) (λ i d below.
    get_or-map gone calls i None d (omega arith))
