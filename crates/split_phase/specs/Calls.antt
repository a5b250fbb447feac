-- The calls that wait for an answer: a list with one place for each context.
use Rattle.std.specs.Prelude.{◌≡◌, ◌≢◌, ℤ, List, Option, None, Some, replicate, slice_index_or, slice_set}
use Rattle.mate_num.specs.declared.bounds.TheConstants.{CONTEXTS_MAX}
use Rattle.arrayvec.specs.ArrayVec.{ArrayVec}
use Rattle.mate_num.specs.declared.id.FunId.{FunId}
use Rattle.mate_num.specs.declared.id.ContextId.{ContextId}

-- a function and the values that it is called with
abbrev pub Asked : Type 0
Asked = FunId × ArrayVec ℤ

-- the call that the context waits with
abbrev pub call_at : List (Option Asked) → ContextId → Option Asked
call_at calls ctx = slice_index_or calls ctx.0 None

-- no context waits
abbrev pub no_calls : List (Option Asked)
no_calls = replicate CONTEXTS_MAX None

-- a call that was dropped
abbrev pub gone : Option Asked → Option Asked
gone call = None

-- the list is that one, and each context has no call in it
pub record AreNone (calls : List (Option Asked)) : Type 0 where
  pub whole : calls ≡ no_calls
  pub each : (ctx : ContextId) → call_at calls ctx ≡ None

-- the call is of this function
pub record IsOf (call : Option Asked) (fun : FunId) : Type 0 where
  pub args : ArrayVec ℤ
  pub is : call ≡ Some (fun, args)

-- new has this call at the context, and is old elsewhere
pub record CallBecomes (old new : List (Option Asked)) (ctx : ContextId) (call : Option Asked) : Type 0 where
  pub whole : new ≡ slice_set old ctx.0 call
  pub here : call_at new ctx ≡ call
  pub others : (c : ContextId) → c.0 ≢ ctx.0 → call_at new c ≡ call_at old c
