-- The store that is seen at a place of a journal is one.
use Rattle.std.proofs.Common.{◌≡◌, ℕ, Bool, true, false, IsTrue, List, [], ◌∷◌, refl, sym, ◌∙◌, ap, subst}
use Rattle.std.specs.Prelude.{ℤ}
use Rattle.arrayvec.specs.ArrayVec.{ArrayVec}
use Rattle.mate_num.specs.declared.resource.Resource.{Resource}
use Rattle.mate_num.specs.declared.resource.Resource.TheVariants.{Shared, Buffer}
use Rattle.mate_num.specs.declared.store.Store.{Store}
use Rattle.mate_journal.specs.Machine.{Machine}
use Rattle.mate_journal.specs.Journal.{Phase, Unposted, Queued, Ready, Waiting, Over, is_started, NodeState}
use Rattle.mate_journal.specs.Pace.{Pace}
use Rattle.mate_journal.specs.Stores.{values_at, WritesResource, IsShown}
use Rattle.mate_journal.specs.Turns.{ShowsReady}
use Rattle.report_laws.proofs.Lists.{ints-same, ints-by_place, buffers-by_place}

module _ (m : Machine) (r : NodeState) (p : Pace) (a b : Store) (shown : IsShown m r a) (shown' : IsShown m r b) (ready : ShowsReady m r p a) (ready' : ShowsReady m r p b) where
  -- what somebody writes is the same in both
  written-same : (at : Resource) (n : ℕ) → WritesResource m r n at → (phase : Phase) → (r.invocations n).phase ≡ phase → values_at a at ≡ values_at b at
  written-same at n writes Ready is = ready.ready at n writes is ∙ sym (ready'.ready at n writes is)
  written-same at n writes (Waiting f args) is =
      shown.waiting at n writes (record { fun = f; args = args; waits = is }) ∙ sym (shown'.waiting at n writes (record { fun = f; args = args; waits = is }))
  written-same at n writes _ is = let h : IsTrue false = subst (λ (x : Phase). IsTrue (is_started x)) is writes.started in cc

  -- and so is what nobody writes: were it not the same, nobody would write it
  values-same : (at : Resource) → values_at a at ≡ values_at b at
  values-same at = ints-same (values_at a at) (values_at b at) (λ other. other (unwritten other)) where
    unwritten : (values_at a at ≡ values_at b at → ⊥) → values_at a at ≡ values_at b at
    unwritten other =
        let nobody : (n : ℕ) → WritesResource m r n at → ⊥ = λ n writes. other (written-same at n writes (r.invocations n).phase refl) in
        shown.unwritten at nobody ∙ sym (shown'.unwritten at nobody)

  pub seen-once : a ≡ b
  seen-once =
      let shared : a.shared.items ≡ b.shared.items = ints-by_place a.shared.items b.shared.items (shown.variables ∙ sym shown'.variables) (λ v. values-same (Shared (record { 0 = v }))) in
      let buffers : a.buffers.items ≡ b.buffers.items = buffers-by_place a.buffers.items b.buffers.items (shown.buffers ∙ sym shown'.buffers) (λ v. values-same (Buffer (record { 0 = v }))) in
      ap (λ (xs : List ℤ). let s : Store = record { shared = record { items = xs }; buffers = a.buffers } in s) shared
      ∙ ap (λ (xs : List (ArrayVec ℤ)). let s : Store = record { shared = b.shared; buffers = record { items = xs } } in s) buffers
