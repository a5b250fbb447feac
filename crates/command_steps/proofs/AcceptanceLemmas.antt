-- What is said of a source's bytes is what the cut of the bytes, the verdict on their tokens and the checks give.
use Rattle.std.proofs.Common.{◌≡◌, ◌≢◌, ℕ, List, length, Result, Ok, Err, ◌⊎◌, inl, inr, refl, sym, ◌∙◌, ap, subst}
use Rattle.vm_shape.specs.declared.description.Description.{Description}
use Rattle.ts_trees.specs.Cut.{cut, CutFault}
use Rattle.ts_checked.specs.Statement.{Block}
use Rattle.ts_trees.specs.declared.token.Token.{Token}
use Rattle.ts_parser.specs.Verdict.{Verdict, IsSo}
use Rattle.ts_parser.specs.Verdict as verdict
use Rattle.ts_parser.proofs.VerdictLemmas.{one_verdict, some_verdict}
use Rattle.ts_checker.specs.Accepted.{IsAccepted, IsRefusedBy, TextRefusal, by_bytes, unexpected, too_deep, by_check}
use Rattle.ts_checker.specs.Checks.{checked_source}
use Rattle.ts_checker.specs.declared.fault.CheckFault.{CheckFault}
use Rattle.ts_checker.specs.declared.fault.CheckFault.TheVariants.{NoMemory}
use Rattle.ts_checker.proofs.ToldLemmas.{checks_told}

-- the tree is accepted, or the refusal is the first
IsSaid : Description → List ℕ → Result Block TextRefusal → Type 0
IsSaid d bytes (Ok tree) = IsAccepted d bytes tree
IsSaid d bytes (Err r) = IsRefusedBy d bytes r

of_checks : Result Block CheckFault → Result Block TextRefusal
of_checks (Ok tree) = Ok tree
of_checks (Err f) = Err (by_check f)

of_verdict : Description → Verdict → Result Block TextRefusal
of_verdict d (verdict.spelled s) = of_checks (checked_source d s)
of_verdict d (verdict.unexpected place) = Err (unexpected place)
of_verdict d (verdict.too_deep place) = Err (too_deep place)

-- the bytes can't be cut, or the verdict on their tokens says it
data Origin (d : Description) (bytes : List ℕ) (x : Result Block TextRefusal) : Type 0 where
  uncut : (fault : CutFault) → cut bytes ≡ Err fault → x ≡ Err (by_bytes fault) → Origin d bytes x
  judged : (tokens : List Token) (v : Verdict) → cut bytes ≡ Ok tokens → IsSo tokens (length bytes) v → x ≡ of_verdict d v → Origin d bytes x

origin : (d : Description) (bytes : List ℕ) (x : Result Block TextRefusal) → IsSaid d bytes x → Origin d bytes x
unfolding IsSaid of_checks of_verdict
origin d bytes (Ok tree) h = judged h.tokens (verdict.spelled h.source) h.cuts h.spells (ap of_checks (sym h.checks))
origin d bytes (Err (by_bytes fault)) h = uncut fault h refl
origin d bytes (Err (unexpected place)) h = judged h.0 (verdict.unexpected place) h.1 h.2 refl
origin d bytes (Err (too_deep place)) h = judged h.0 (verdict.too_deep place) h.1 h.2 refl
origin d bytes (Err (by_check fault)) h = judged h.tokens (verdict.spelled h.source) h.cuts h.spells (ap of_checks (sym h.checks))

same_origin : (d : Description) (bytes : List ℕ) (x y : Result Block TextRefusal) → Origin d bytes x → Origin d bytes y → x ≡ y
same_origin d bytes x y (uncut f e a) (uncut g h b) = let is : f ≡ g = cc in a ∙ ap (λ k. Err (by_bytes k)) is ∙ sym b
same_origin d bytes x y (uncut f e a) (judged ts v h so b) = cc
same_origin d bytes x y (judged ts v e so a) (uncut g h b) = cc
same_origin d bytes x y (judged ts v e so a) (judged us w h to b) =
    let is : us ≡ ts = cc in
    a ∙ ap (of_verdict d) (one_verdict ts (length bytes) v w so (subst (λ (zs : List Token). IsSo zs (length bytes) w) is to)) ∙ sym b

said_once : (d : Description) (bytes : List ℕ) (x y : Result Block TextRefusal) → IsSaid d bytes x → IsSaid d bytes y → x ≡ y
said_once d bytes x y p q = same_origin d bytes x y (origin d bytes x p) (origin d bytes y q)

pub one_tree : (d : Description) (bytes : List ℕ) (a b : Block) → IsAccepted d bytes a → IsAccepted d bytes b → a ≡ b
unfolding IsSaid
one_tree d bytes a b p q = let e = said_once d bytes (Ok a) (Ok b) p q in cc

pub one_refusal : (d : Description) (bytes : List ℕ) (r s : TextRefusal) → IsRefusedBy d bytes r → IsRefusedBy d bytes s → r ≡ s
unfolding IsSaid
one_refusal d bytes r s p q = let e = said_once d bytes (Err r) (Err s) p q in cc

pub apart : (d : Description) (bytes : List ℕ) (tree : Block) (r : TextRefusal) → IsAccepted d bytes tree → IsRefusedBy d bytes r → ⊥
unfolding IsSaid
apart d bytes tree r p q = let e = said_once d bytes (Ok tree) (Err r) p q in cc

-- ---- something is said, and want of memory never is

Said : Description → List ℕ → Type 0
Said d bytes = ((tree : Block) × IsAccepted d bytes tree) ⊎ ((r : TextRefusal) × IsRefusedBy d bytes r × (r ≢ by_check NoMemory))

fault_same : (f : CheckFault) → by_check f ≡ by_check NoMemory → f ≡ NoMemory
fault_same f e = cc

of_spelled : (d : Description) (bytes : List ℕ) (tokens : List Token) (v : Verdict) → cut bytes ≡ Ok tokens → IsSo tokens (length bytes) v → Said d bytes
unfolding Said
of_spelled d bytes ts (verdict.spelled s) e so = by (checked_source d s) refl where
  by : (o : Result Block CheckFault) → checked_source d s ≡ o → Said d bytes
  by (Ok tree) h = inl (tree, record { tokens = ts; source = s; cuts = e; spells = so; checks = h })
  by (Err f) h = inr (by_check f, record { tokens = ts; source = s; cuts = e; spells = so; checks = h }, λ is. checks_told d s (h ∙ ap Err (fault_same f is)))
of_spelled d bytes ts (verdict.unexpected place) e so = inr (unexpected place, (ts, e, so), λ is. cc)
of_spelled d bytes ts (verdict.too_deep place) e so = inr (too_deep place, (ts, e, so), λ is. cc)

pub some : (d : Description) (bytes : List ℕ) → ((tree : Block) × IsAccepted d bytes tree) ⊎ ((r : TextRefusal) × IsRefusedBy d bytes r × (r ≢ by_check NoMemory))
unfolding Said
some d bytes = by (cut bytes) refl where
  by : (o : Result (List Token) CutFault) → cut bytes ≡ o → ((tree : Block) × IsAccepted d bytes tree) ⊎ ((r : TextRefusal) × IsRefusedBy d bytes r × (r ≢ by_check NoMemory))
  by (Ok ts) e = let v = some_verdict ts (length bytes) in of_spelled d bytes ts v.0 e v.1
  by (Err fault) e = inr (by_bytes fault, e, λ is. cc)
