use Rattle.std.proofs.Common.{◌≡◌, ℕ, ◌+◌, Bool, [], ◌∷◌, ◌++◌, List, length, refl, sym, ◌∙◌, ap, subst, arith, append-nil}
use Rattle.mate_num.specs.declared.id.HandlerId.{HandlerId}
use Rattle.node_state.specs.Meaning.{machine_in}
use Rattle.node_open.specs.View.{heard_of, Tells}
use Rattle.node_open.specs.Calls.{Pacing}
use Rattle.world_rules.specs.Run.{Occasions}
use Rattle.world_rules.specs.World.{handler_id}
use Rattle.world_state.specs.declared.mote.Mote.{Mote}
use Rattle.world_event.specs.Handling.{receivers_below, if_receives}
use Rattle.world_event.proofs.EffectLemmas.{tells-nothing}
use Rattle.world_event.proofs.PostLemmas.{posts-more, receivers-more}
use Rattle.world_event.proofs.FewLemmas.{posts-few, receivers-few}
use Rattle.world_event.proofs.handling.post_received.Goals as goal
use Rattle.world_event.proofs.handling.post_received.Goals.{then-is_receiver+in_ok-post, else-is_receiver}

pub loop-h-init : goal.loop-h-init
loop-h-init c = record { tells = tells-nothing c.args.mote.now.node c.args.mote.now.node c.args.at c.requires.tellable.timely refl; same = refl }

pub post-requires-clause-tellable : goal.post-requires-clause-tellable
post-requires-clause-tellable c =
    let few =
    posts-few c.args.desc.now c.args.mote.now.node c.loop-h.mote.node c.args.at c.args.payload.now (receivers_below c.args.desc.now c.loop-h.h) c.loop-h.invariant.tells c.requires.paced c.kept.ensures.keeps in
    let short = receivers-few c.args.desc.now c.loop-h.h in
    let old_few = c.requires.few in record { timely = c.loop-h.invariant.tells.grows.timely; few = omega (arith, few, short, old_few, c.loop-h-test.true, c.len-h-end.ensures.value) }

pub loop-h-preserved : goal.loop-h-preserved
loop-h-preserved c =
    let d = c.args.desc.now in
    let old = c.args.mote.now in
    let h = c.loop-h.h in
    let more = receivers-more d h c.is_receiver.result c.is_receiver.ensures in
    let T : List HandlerId → Mote → Type 0 = λ hs m. Tells old.node m.node c.args.at (Pacing (Occasions (machine_in d) c.args.payload.now hs (heard_of old.node))) in
    let S : Mote → Type 0 = λ m. m ≡ record old { node = m.node } in
    elim c.if-is_receiver.branch [
      | then-is_receiver+in_ok-post w ↦ (
          let is : receivers_below d (h + 1) ≡ receivers_below d h ++ handler_id h ∷ [] = more ∙ ap (λ (b : Bool). receivers_below d h ++ if_receives b h) w.if-is_receiver.true in
          let told = posts-more d old.node c.loop-h.mote.node w.post.new.self.node c.args.at c.args.payload.now (receivers_below d h) (handler_id h) c.requires.machine c.loop-h.invariant.tells w.in_ok-post.ensures.tells in
          record {
            tells = subst (T (receivers_below d (h + 1))) (sym w.mote-is) (subst (λ (hs : List HandlerId). T hs w.post.new.self) (sym is) told);
            same = subst S (sym w.mote-is) (w.in_ok-post.ensures.same ∙ ap (λ (m : Mote). record m { node = w.post.new.self.node }) c.loop-h.invariant.same);
          })
      | else-is_receiver w ↦ (
          let is : receivers_below d (h + 1) ≡ receivers_below d h = more ∙ ap (λ (b : Bool). receivers_below d h ++ if_receives b h) w.if-is_receiver.false ∙ append-nil (receivers_below d h) in
          record {
            tells = subst (T (receivers_below d (h + 1))) (sym w.mote-is) (subst (λ (hs : List HandlerId). T hs c.loop-h.mote) (sym is) c.loop-h.invariant.tells);
            same = subst S (sym w.mote-is) c.loop-h.invariant.same;
          })
    ]

pub returns : goal.returns
returns c =
    let d = c.args.desc.now in
    let old = c.args.mote.now in
    let end_is : c.loop-h.h ≡ length d.handlers.items = omega (arith, c.loop-h-test.false, c.loop-h.auto.h-end, c.len-h-end.ensures.value) in
    record {
      tells = subst (λ (n : ℕ). Tells old.node c.loop-h.mote.node c.args.at (Pacing (Occasions (machine_in d) c.args.payload.now (receivers_below d n) (heard_of old.node)))) end_is c.loop-h.invariant.tells;
      same = c.loop-h.invariant.same;
    }
