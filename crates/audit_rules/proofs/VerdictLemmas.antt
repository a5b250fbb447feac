-- A report has one verdict.
use Rattle.std.proofs.Common.{◌≡◌, ◌<◌, ℕ, zero, suc, List, [], ◌∷◌, length, refl, sym, ◌∙◌, ap, subst, arith, inl, inr, Option, Some, None}
use Rattle.std.specs.Prelude.{IfSome, IsSomeAnd, slice_get}
use Rattle.std.proofs.lemmas.Bool.{cases_order}
use Rattle.vm_shape.specs.declared.description.Description.{Description}
use Rattle.mate_journal.specs.Log.{Log}
use Rattle.mate_journal.specs.declared.program.Program.{Program}
use Rattle.mate_journal.specs.declared.report.Report.{Report}
use Rattle.audit_rules.specs.Laws.{rank_of}
use Rattle.report_writer.specs.Tidy.{IsTidy}
use Rattle.audit_rules.specs.Verdicts.{IsSerialReport, LogKeepsAll, LogFails, NodesKeep, IsVerdict}
use Rattle.mate_journal.specs.declared.law.Law.{Law}
use Rattle.mate_journal.specs.declared.law.Law.TheVariants as law
use Rattle.mate_journal.specs.declared.law.Verdict.{Verdict}
use Rattle.mate_journal.specs.declared.law.Verdict.TheVariants.{Serial, Refuted}

-- where there is an element
within : {A : Type 0} (P : A → Type 0) (xs : List A) (n : ℕ) → IsSomeAnd (slice_get xs n) P → n < length xs
within P [] n some = absurd some
within P (x ∷ xs) zero some = omega arith
within P (x ∷ xs) (suc n) some = let h = within P xs n some in omega (arith, h)

-- laws by their place
abbrev law_at : ℕ → Law
law_at zero = law.D7
law_at (suc zero) = law.Image
law_at (suc (suc zero)) = law.D8
law_at (suc (suc (suc zero))) = law.D9
law_at (suc (suc (suc (suc zero)))) = law.D10
law_at (suc (suc (suc (suc (suc n))))) = law.D11

law-again : (a : Law) → law_at (rank_of a) ≡ a
law-again law.D7 = refl
law-again _ = refl

pub same_rank : (a b : Law) → rank_of a ≡ rank_of b → a ≡ b
same_rank a b e = sym (law-again a) ∙ ap law_at e ∙ law-again b

-- a log keeps what it keeps, and fails at one law first
kept-failed : (d : Description) (ps : List Program) (o : Option Log) (a : Law) → IfSome o (LogKeepsAll d ps) → IsSomeAnd o (λ l. LogFails d ps l a) → ⊥
kept-failed d ps None a keeps fails = fails
kept-failed d ps (Some l) a keeps fails = fails.fails (keeps a)

one_law : (d : Description) (ps : List Program) (o : Option Log) (a b : Law) → IsSomeAnd o (λ l. LogFails d ps l a) → IsSomeAnd o (λ l. LogFails d ps l b) → a ≡ b
one_law d ps None a b first second = absurd first
one_law d ps (Some l) a b first second = elim (cases_order (rank_of a) (rank_of b)) [
  | inl same ↦ same_rank a b same
  | inr (inl low) ↦ absurd (first.fails (second.before a low))
  | inr (inr high) ↦ absurd (second.fails (first.before b high))
]

refuted_serial : (d : Description) (ps : List Program) (r : Report) (n : ℕ) (a : Law) → NodesKeep d ps r (length r.nodes) → IsSomeAnd (slice_get r.nodes n) (λ l. LogFails d ps l a) → ⊥
refuted_serial d ps r n a keeps fails = kept-failed d ps (slice_get r.nodes n) a (keeps n (within (λ (l : Log). LogFails d ps l a) r.nodes n fails)) fails

pub one-verdict : (d : Description) (ps : List Program) (r : Report) (v w : Verdict) → IsVerdict d ps r v → IsVerdict d ps r w → v ≡ w
one-verdict d ps r Serial Serial first second = refl
one-verdict d ps r Serial (Refuted n a) first second = absurd (refuted_serial d ps r n a first second.1)
one-verdict d ps r (Refuted n a) Serial first second = absurd (refuted_serial d ps r n a second first.1)
one-verdict d ps r (Refuted n a) (Refuted k b) first second = elim (cases_order n k) [
  | inr (inl low) ↦ absurd (kept-failed d ps (slice_get r.nodes n) a (second.0 n low) first.1)
  | inl same ↦ (let e = one_law d ps (slice_get r.nodes k) a b (subst (λ (j : ℕ). IsSomeAnd (slice_get r.nodes j) (λ l. LogFails d ps l a)) same first.1) second.1 in
      ap (λ (j : ℕ). Refuted j a) same ∙ ap (λ (x : Law). Refuted k x) e)
  | inr (inr high) ↦ absurd (kept-failed d ps (slice_get r.nodes k) b (first.0 k high) second.1)
]

pub serial-verdict : (d : Description) (ps : List Program) (r : Report) → IsTidy d r → (IsVerdict d ps r Serial → IsSerialReport d ps r) × (IsSerialReport d ps r → IsVerdict d ps r Serial)
serial-verdict d ps r tidy = (λ keeps. record { tidy = tidy; keeps = keeps }, λ s. s.keeps)
