-- What stands on a stack.
use Rattle.std.proofs.Common.{◌≡◌, ℕ, ◌+◌, ◌<◌, List, [], ◌∷◌, ◌++◌, ap, sym, ◌∙◌, arith, append_assoc}
use Rattle.std.proofs.lemmas.List.{append-nil}
use Rattle.ts_trees.specs.declared.procedure.Proc.{Proc}
use Rattle.ts_proc_texts.specs.declared.rest.Rest.{Rest}
use Rattle.ts_proc_texts.specs.Rest.{rest_tokens, tokens_on}
use Rattle.ts_proc_texts.specs.Size.{rest_size, size_on}

-- the last one on it comes first
pub tokens_on_push : (procs : List Proc) (rs : List Rest) (r : Rest) → tokens_on procs (rs ++ r ∷ []) ≡ rest_tokens procs r ++ tokens_on procs rs
tokens_on_push procs [] r = sym (append-nil (rest_tokens procs r))
tokens_on_push procs (q ∷ qs) r = ap (λ xs. xs ++ rest_tokens procs q) (tokens_on_push procs qs r) ∙ append_assoc (rest_tokens procs r) (tokens_on procs qs) (rest_tokens procs q)

pub size_on_push : (procs : List Proc) (rs : List Rest) (r : Rest) → size_on procs (rs ++ r ∷ []) ≡ size_on procs rs + rest_size procs r
size_on_push procs [] r = omega arith
size_on_push procs (q ∷ qs) r = let more : size_on procs (qs ++ r ∷ []) ≡ size_on procs qs + rest_size procs r = size_on_push procs qs r in omega (arith, more)

-- fewer steps are left after one
pub fewer : (procs : List Proc) (stack below : List Rest) (r : Rest) (a b new : ℕ) → stack ≡ below ++ r ∷ [] → b + a < rest_size procs r
    → new ≡ (size_on procs below + a) + b → new < size_on procs stack
fewer procs stack below r a b new are less pushed =
    let all : size_on procs stack ≡ size_on procs below + rest_size procs r = ap (size_on procs) are ∙ size_on_push procs below r in
    omega (arith, all, less, pushed)
