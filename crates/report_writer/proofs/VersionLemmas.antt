-- Lemmas on the versions that a node installed.
use Rattle.std.proofs.Common.{◌≡◌, ℕ, ◌+◌, ◌<◌, List, ◌++◌, ◌∷◌, [], length, take, get_or, refl, ap, sym, ◌∙◌}
use Rattle.std.specs.Prelude.{fold, filter_map, Option, None, Some}
use Rattle.std.proofs.lemmas.List.{take_more}
use Rattle.std.proofs.lemmas.List.Sums.{fold-append}
use Rattle.std.proofs.lemmas.List.Elements.{filter_map-append}
use Rattle.mate_journal.specs.declared.entry.Stamped.{Stamped}
use Rattle.report_writer.specs.Brief.{installed}

abbrev pub versions_in : ℕ → List Stamped → List ℕ
versions_in h es = filter_map (λ (e : Stamped). installed h e.entry) es

-- a fold over the versions of one more entry
versions-next : (f : ℕ → ℕ → ℕ) (a h : ℕ) (es : List Stamped) (i : ℕ) (e : Stamped) → i < length es → e ≡ get_or es i e
    → fold f a (versions_in h (take (i + 1) es)) ≡ fold f (fold f a (versions_in h (take i es))) (versions_in h (e ∷ []))
versions-next f a h es i e p is =
    ap (λ xs. fold f a (versions_in h xs)) (take_more es i e p ∙ ap (λ x. take i es ++ x ∷ []) (sym is))
    ∙ ap (fold f a) (filter_map-append (λ (x : Stamped). installed h x.entry) (take i es) (e ∷ []))
    ∙ fold-append f a (versions_in h (take i es)) (versions_in h (e ∷ []))

versions-one : (h : ℕ) (e : Stamped) (o : Option ℕ) (version : ℕ) → o ≡ installed h e.entry → o ≡ Some version → versions_in h (e ∷ []) ≡ version ∷ []
versions-one h e o version p q = rw (sym p ∙ q) refl

versions-none : (h : ℕ) (e : Stamped) (o : Option ℕ) → o ≡ installed h e.entry → o ≡ None → versions_in h (e ∷ []) ≡ []
versions-none h e o p q = rw (sym p ∙ q) refl

-- where the entry installs a version, and where it does not
pub versions-some : (f : ℕ → ℕ → ℕ) (a h : ℕ) (es : List Stamped) (i : ℕ) (e : Stamped) (o : Option ℕ) (version before after : ℕ) → i < length es → e ≡ get_or es i e
    → o ≡ installed h e.entry → o ≡ Some version → before ≡ fold f a (versions_in h (take i es)) → after ≡ f before version → after ≡ fold f a (versions_in h (take (i + 1) es))
versions-some f a h es i e o version before after p is of some sofar step =
    step ∙ ap (λ b. f b version) sofar
    ∙ sym (versions-next f a h es i e p is ∙ ap (fold f (fold f a (versions_in h (take i es)))) (versions-one h e o version of some))

pub versions-other : (f : ℕ → ℕ → ℕ) (a h : ℕ) (es : List Stamped) (i : ℕ) (e : Stamped) (o : Option ℕ) (before after : ℕ) → i < length es → e ≡ get_or es i e
    → o ≡ installed h e.entry → o ≡ None → before ≡ fold f a (versions_in h (take i es)) → after ≡ before → after ≡ fold f a (versions_in h (take (i + 1) es))
versions-other f a h es i e o before after p is of none sofar same =
    same ∙ sofar
    ∙ sym (versions-next f a h es i e p is ∙ ap (fold f (fold f a (versions_in h (take i es)))) (versions-none h e o of none))
