use Rattle.std.proofs.Common.{◌≡◌, ◌<◌, ℕ, length, get_or, rules, arith, refl, sym, ◌∙◌, ap, subst}
use Rattle.std.specs.Prelude.{Some, slice_get}
use Rattle.std.proofs.Math.Nat.{le_antisymm}
use Rattle.std.proofs.lemmas.Option.{slice_get-get_or, get_or_from_slice_get}
use Rattle.std.proofs.lemmas.Result.{IfOk-from_err}
use Rattle.node_state.specs.Keeps.{IsTimely}
use Rattle.world_state.specs.declared.mote.Mote.{Mote}
use Rattle.world_state.specs.Reporting.{ShowsOneStore, ShowStores}
use Rattle.world_state.proofs.ReportLemmas.{changed-more}
use Rattle.world_state.proofs.report.see_stores.Goals as goal

pub loop-k-preserved : goal.loop-k-preserved
loop-k-preserved c =
    let below : c.loop-k.k < length c.loop-k.motes.items = search rules in
    let is : slice_get c.loop-k.motes.items c.loop-k.k ≡ Some c.index_mut.result.now = slice_get-get_or c.loop-k.motes.items c.loop-k.k c.index_mut.result.now below ∙ ap (λ x. Some x) (sym c.index_mut.ensures.value) in
    changed-more (ShowsOneStore c.args.at) c.loop-k.k c.args.motes.now.items c.loop-k.motes.items c.index_mut.result.now c.see_store.new.mote c.loop-k.invariant below is c.in_ok-see_store.ensures

pub loop-k-init : goal.loop-k-init
loop-k-init c = record { count = refl; each = λ j a b high. absurd (omega (arith, high)); others = λ j high. refl }

pub see_store-requires : goal.see_store-requires
see_store-requires c =
    let old = c.args.motes.now.items in
    let motes = c.loop-k.motes.items in
    let x : Mote = c.index_mut.result.now in
    let count = c.loop-k.invariant.count in
    let below : c.loop-k.k < length motes = search rules in
    let is : slice_get motes c.loop-k.k ≡ Some x = slice_get-get_or motes c.loop-k.k x below ∙ ap (λ (m : Mote). Some m) (sym c.index_mut.ensures.value) in
    let was : get_or old c.loop-k.k x ≡ x = get_or_from_slice_get old c.loop-k.k x x (sym (c.loop-k.invariant.others c.loop-k.k (omega arith)) ∙ is) in
    subst (λ (m : Mote). IsTimely c.args.at m.node.log) was (c.requires c.loop-k.k x (omega (arith, below, count)))

pub returns-in_err-see_store : goal.returns-in_err-see_store
returns-in_err-see_store c = IfOk-from_err _ _ c.from_residual.ensures.0

pub returns : goal.returns
returns c =
    subst (λ (n : ℕ). ShowStores c.args.at n c.args.motes.now.items c.loop-k.motes.items) (le_antisymm c.loop-k.auto.k-end c.loop-k-test.false ∙ c.len-k-end.ensures ∙ c.args.motes.now.ok.0) c.loop-k.invariant
