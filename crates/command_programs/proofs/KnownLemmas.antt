-- What known sources gave.
use Rattle.std.proofs.Common.{◌≡◌, ◌≤◌, ◌<◌, ◌∷◌, ℕ, Bool, true, false, List, length, drop, take, get_or, Option, Some, None, Result, Ok, Err, refl, inr, sym, subst}
use Rattle.std.specs.Prelude.{All, IfOk, IsErrAnd, IsSomeAnd, insert, slice_get, if◌then◌else◌}
use Rattle.std.proofs.lemmas.List.Elements.{All-cons, All-append, All-drop, All-take}
use Rattle.std.specs.Str.{bytes_eq}
use Rattle.std.proofs.lemmas.Option.{slice_get_read, slice_get_within}
use Rattle.std.proofs.lemmas.Slice.Eq.{bytes_eq-Decides}
use Rattle.command_refusals.specs.declared.cause.Cause.TheVariants as cause
use Rattle.command_refusals.specs.declared.refusal.Refusal.{Refusal}
use Rattle.command_refusals.specs.declared.refusal.Refusal.TheVariants.{NoMemory}
use Rattle.command_steps.specs.Parts.{IsUnreadAnswer}
use Rattle.command_steps.specs.Sources.{compiled_bytes}
use Rattle.command_steps.specs.Steps.{goes_on, stops, obtained}
use Rattle.command_steps.specs.declared.code.CompiledScript.{CompiledScript}
use Rattle.command_steps.proofs.Laws.{judged-read}
use Rattle.command_programs.specs.Known.{IsKnown, AreKnown, IsKnownAt}
use Rattle.command_programs.specs.declared.known.KnownSource.{KnownSource}
use Rattle.command_programs.specs.declared.known.KnownSources.{KnownSources}
use Rattle.vm_shape.specs.declared.description.Description.{Description}

-- what bytes give they give under any name
gives-named : (d : Description) (fold : Bool) (name other bytes : List ℕ) (c : CompiledScript) → compiled_bytes d fold name bytes (Ok c) → compiled_bytes d fold other bytes (Ok c)
gives-named d fold name other bytes c (goes_on tree is_tree is) = goes_on tree is_tree is
gives-named d fold name other bytes c (stops r refused is) = cc

-- memory may be wanting
pub bytes-want : (d : Description) (fold : Bool) (name bytes : List ℕ) → compiled_bytes d fold name bytes (Err NoMemory)
bytes-want d fold name bytes = stops NoMemory (inr refl) refl

-- what is obtained is what bytes give, where that is what it is
pub gives-obtained : (d : Description) (fold : Bool) (name bytes : List ℕ) (c : CompiledScript) (answer : Result CompiledScript Refusal) → compiled_bytes d fold name bytes (Ok c) → obtained (λ x. x ≡ c) answer
    → compiled_bytes d fold name bytes answer
gives-obtained d fold name bytes c (Ok x) gives is = subst (λ (y : CompiledScript). compiled_bytes d fold name bytes (Ok y)) (sym is) gives
gives-obtained d fold name bytes c (Err r) gives is = subst (λ (y : Refusal). compiled_bytes d fold name bytes (Err y)) (sym is) (bytes-want d fold name bytes)

pub filled-obtained : (c : CompiledScript) (answer : Result CompiledScript Refusal) → 1 ≤ length c.code.items → obtained (λ x. x ≡ c) answer → IfOk answer (λ x. 1 ≤ length x.code.items)
filled-obtained c (Ok x) filled is = subst (λ (y : CompiledScript). 1 ≤ length y.code.items) (sym is) filled
filled-obtained c (Err r) filled is = tt

-- the answer of a `?`
pub err-as : {A : Type 0} (P : Result A Refusal → Type 0) (r : Refusal) (answer : Result A Refusal) → P (Err r) → IsErrAnd answer (λ y. y ≡ r) → P answer
err-as P r (Ok a) p is = absurd is
err-as {A} P r (Err y) p is = subst (λ (x : Refusal). P (Err x)) (sym is) p

-- the compiled script of bytes is no file that can't be read
pub compiled-read : (d : Description) (fold : Bool) (name bytes : List ℕ) (answer : Result CompiledScript Refusal) → compiled_bytes d fold name bytes answer → IsUnreadAnswer answer → ⊥
compiled-read d fold name bytes (Ok c) is unread = unread
compiled-read d fold name bytes (Err r) (goes_on tree means refused) unread = judged-read CompiledScript name cause.Code r refused (λ why u. u) unread
compiled-read d fold name bytes (Err r) (stops s refused is) unread =
    let P : Result CompiledScript Refusal → Type 0 = λ x. IsUnreadAnswer x in
    judged-read CompiledScript name cause.Source s refused (λ why u. u) (subst P is unread)

-- ---- a known source

pub IsKnownAt-below : (k : KnownSources) (bytes : List ℕ) (place : ℕ) → IsKnownAt k bytes place → place < length k.sources.items
IsKnownAt-below k bytes place known = by (slice_get k.sources.items place) refl known where
  by : (o : Option KnownSource) → slice_get k.sources.items place ≡ o → IsSomeAnd o (λ s. bytes_eq s.bytes.items bytes ≡ true) → place < length k.sources.items
  by (Some s) is known = slice_get_within k.sources.items place s is
  by None is known = absurd known

pub record Gives (d : Description) (fold : Bool) (name bytes : List ℕ) (c : CompiledScript) : Type 0 where
  pub gives : compiled_bytes d fold name bytes (Ok c)
  pub filled : 1 ≤ length c.code.items

pub known-gives : (d : Description) (fold : Bool) (k : KnownSources) (name bytes : List ℕ) (place : ℕ) (s : KnownSource) → AreKnown d fold k → IsKnownAt k bytes place
    → s ≡ get_or k.sources.items place s → Gives d fold name bytes s.compiled
known-gives d fold k name bytes place s known at is =
    let low = IsKnownAt-below k bytes place at in
    let there : slice_get k.sources.items place ≡ Some s = slice_get_read k.sources.items (length k.sources.items) place s refl low is in
    let its : s.bytes.items ≡ bytes = (bytes_eq-Decides s.bytes.items bytes).0 (subst (λ (o : Option KnownSource). IsSomeAnd o (λ x. bytes_eq x.bytes.items bytes ≡ true)) there at) in
    let one : IsKnown d fold s = subst (IsKnown d fold) (sym is) (known place s low) in
    record {
      gives = subst (λ (bs : List ℕ). compiled_bytes d fold name bs (Ok s.compiled)) its (one.gives name);
      filled = one.filled;
    }

-- one more is known, unless memory was wanting
pub AreKnown-inserted : (d : Description) (fold : Bool) (name : List ℕ) (k new : List KnownSource) (place : ℕ) (s : KnownSource) (bytes : List ℕ) (c : CompiledScript) (b : Bool) → All (IsKnown d fold) k
    → compiled_bytes d fold name bytes (Ok c) → 1 ≤ length c.code.items → s.bytes.items ≡ bytes → s.compiled ≡ c → new ≡ (if b then insert k place s else k) → All (IsKnown d fold) new
AreKnown-inserted d fold name k new place s bytes c false known gives filled same_bytes same is = subst (All (IsKnown d fold)) (sym is) known
AreKnown-inserted d fold name k new place s bytes c true known gives filled same_bytes same is =
    let of_it : compiled_bytes d fold name s.bytes.items (Ok s.compiled) =
    subst (λ (bs : List ℕ). compiled_bytes d fold name bs (Ok s.compiled)) (sym same_bytes) (subst (λ (x : CompiledScript). compiled_bytes d fold name bytes (Ok x)) (sym same) gives) in
    let one : IsKnown d fold s = record {
      gives = λ other. gives-named d fold name other s.bytes.items s.compiled of_it;
      filled = subst (λ (x : CompiledScript). 1 ≤ length x.code.items) (sym same) filled;
    } in
    let behind = All-cons (IsKnown d fold) s (drop place k) one (All-drop (IsKnown d fold) place k known) in
    subst (All (IsKnown d fold)) (sym is) (All-append (IsKnown d fold) (take place k) (s ∷ drop place k) (All-take (IsKnown d fold) place k known) behind)
