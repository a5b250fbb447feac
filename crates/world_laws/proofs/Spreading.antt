-- Spreading where suppression is off and nothing is lost: one hop, and many.
use Rattle.std.proofs.Common.{◌≡◌, ◌<◌, ◌≤◌, ℕ, zero, suc, ◌+◌, ◌*◌, List, [], ◌∷◌, ◌++◌, refl, sym, ◌∙◌, ap, subst, arith, inl, inr, append_assoc}
use Rattle.std.proofs.lemmas.Bool.{cases_lt}
use Rattle.vm_shape.specs.Limits.{longest}
use Rattle.mate_num.specs.Lists.{Among}
use Rattle.mate_num.proofs.ListLemmas.{each_over-behind}
use Rattle.mate_journal.specs.Machine.{HeldProgram}
use Rattle.capsule_exchange.specs.Happenings.{held_version}
use Rattle.world_rules.specs.Cause.{Cause}
use Rattle.world_rules.specs.World.{World, links_from, receiver}
use Rattle.world_rules.specs.Effect.{Installing, event_node}
use Rattle.world_rules.specs.State.{Moment, effect_at, node_at, state}
use Rattle.world_rules.specs.Run.{HaveCome, IsDone}
use Rattle.world_laws.specs.Hops.{HasLink}
use Rattle.world_laws.specs.Times.{last_time}
use Rattle.world_laws.specs.Newest.{Version, IsWorldVersion, IsNewest}
use Rattle.world_laws.specs.Spread.{IsOpenWorld, IsQuiet, AreQuiet, HoldsVersion, HopsInTime, SpreadsInTime}
use Rattle.world_laws.specs.Passing.{Hop, IsHop}
use Rattle.world_laws.proofs.Points.{among-next, earlier-come}
use Rattle.world_laws.proofs.Tame.{IsTameWorld, run-tame}
use Rattle.world_laws.proofs.Installs.{newer-than, held_never_falls}
use Rattle.world_laws.proofs.Hop.{LetAll, link-at, not_lost}
use Rattle.world_laws.proofs.Stages.{speaks-loud, hop_passes}

newest-earlier : (w : World) (v : Version) (before later : List Moment) → IsNewest w v (later ++ before) → IsNewest w v before
newest-earlier w v before later h = each_over-behind _ later before h

-- who holds the newest version goes on to hold it
holds-on : (w : World) (v : Version) (k : ℕ) (before later : List Moment) → IsWorldVersion w v → HaveCome w (later ++ before) → IsNewest w v (later ++ before) → HoldsVersion w v k before → HoldsVersion w v k (later ++ before)
holds-on w v k before later right come newest holds =
    let least : held_version v.handler ((state w before).nodes k).exchange ≤ held_version v.handler ((state w (later ++ before)).nodes k).exchange = held_never_falls w k v.handler before later come in
    let most : held_version v.handler ((state w (later ++ before)).nodes k).exchange ≤ v.version = ((run-tame w v (later ++ before) right come newest).nodes k).held in
    omega (arith, holds, least, most)

-- ---- one hop

-- nothing is installed where the newest version is held
no-install : (w : World) (v : Version) (k : ℕ) (now : List Moment) (m : Moment) (p : HeldProgram) → HaveCome w (m ∷ now) → IsNewest w v (m ∷ now) → HoldsVersion w v k now → event_node w m.cause ≡ k
    → (effect_at w (state w now) m).deed ≡ Installing p → p.handler.0 ≡ v.handler → ⊥
no-install w v k now m p come newest holds here deed own =
    let newer : held_version p.handler.0 (node_at w (state w now) m).exchange < p.version = newer-than w now m p come deed in
    let of_it : held_version p.handler.0 (node_at w (state w now) m).exchange ≡ held_version v.handler ((state w now).nodes k).exchange
    = ap (λ (h : ℕ). held_version h (node_at w (state w now) m).exchange) own ∙ ap (λ (i : ℕ). held_version v.handler ((state w now).nodes i).exchange) here in
    let most : p.version ≤ v.version = (newest.1 p deed own).0 in
    omega (arith, newer, of_it, most, holds)

open-lets : (w : World) (v : Version) (x : Hop) (before later : List Moment) → IsOpenWorld w → IsWorldVersion w v → HaveCome w (later ++ before) → IsNewest w v (later ++ before) → AreQuiet w v.handler before later → HoldsVersion w v x.from before
    → LetAll w v x before later
open-lets w v x before [] open_ right come newest quiet holds = tt
open-lets w v x before (m ∷ later) open_ right come newest quiet holds = (
  open-lets w v x before later open_ right come.0 newest.0 quiet.0 holds,
  record {
    spares = record {
      no_reset = λ here. quiet.1.no_reset;
      no_install = λ p here deed own. no-install w v x.from (later ++ before) m p come newest (holds-on w v x.from before later right come.0 newest.0 holds) here deed own;
    };
    there = λ here y among. not_lost w y x.there (open_.lossless x.there);
    no_reset = λ here. quiet.1.no_reset;
    rising = λ here line p cause deed own. absurd (quiet.1.no_inject line p cause deed own);
    tame = λ here j number p is. (run-tame w v (later ++ before) right come.0 newest.0).air m.time j number p
        (subst (λ (c : Cause). Among c ((state w (later ++ before)).due m.time)) is (among-next (state w (later ++ before)) m.time m.cause come.1.next));
    back = λ here y among. not_lost w y x.back (open_.lossless x.back);
  },
)

pub hops_in_time : (w : World) (v : Version) → IsOpenWorld w → IsWorldVersion w v → HopsInTime w v
hops_in_time w v open_ right a b time before later below linked back come newest quiet last done holds =
    let least : v.version ≤ held_version v.handler ((state w (later ++ before)).nodes b).exchange
    = hop_passes w v x (time + 2 * longest w.description.trickle) (time + 3 * longest w.description.trickle) before later open_.set open_.round right hop (omega arith) (record { come = come; let_all = lets; done = done })
    (speaks-loud w v x time before later open_.set open_.loud hop come lets last (λ t early. done t (omega (arith, early))))
    (holds, (tame.nodes a).image holds)
    (record { heard_tame = (tame.nodes b).heard_tame; none_waits = (tame.nodes b).none_waits }) in
    let most : held_version v.handler ((state w (later ++ before)).nodes b).exchange ≤ v.version = ((run-tame w v (later ++ before) right come newest).nodes b).held in
    omega (arith, least, most) where
      there : (j : ℕ) × Among j (links_from w a) × (receiver w j ≡ b)
      there = link-at w a b linked

      again : (j : ℕ) × Among j (links_from w b) × (receiver w j ≡ a)
      again = link-at w b a back

      x : Hop
      x = record { from = a; to = b; there = there.0; back = again.0 }

      hop : IsHop w x
      hop = record { from_low = below; leaves_from = there.1; gets_there = there.2; leaves_to = again.1; gets_back = again.2 }

      lets : LetAll w v x before later
      lets = open-lets w v x before later open_ right come newest quiet holds

      tame : IsTameWorld w v (state w before)
      tame = run-tame w v before right (earlier-come w before later come) (newest-earlier w v before later newest)

-- ---- many

-- the events up to a time, and those after it
pub record UpTo (w : World) (before later : List Moment) (time : ℕ) : Type 0 where
  pub newer : List Moment
  pub older : List Moment
  pub split : later ≡ newer ++ older
  pub last : last_time (older ++ before) ≤ time
  pub done : IsDone (state w (older ++ before)) time

pub up-to : (w : World) (before later : List Moment) (time : ℕ) → HaveCome w (later ++ before) → last_time before ≤ time → IsDone (state w (later ++ before)) time → UpTo w before later time
up-to w before [] time come last done = record { newer = []; older = []; split = refl; last = last; done = done }
up-to w before (m ∷ later) time come last done = elim (cases_lt time m.time) [
  | inr not_past ↦ record { newer = []; older = m ∷ later; split = refl; last = not_past; done = done }
  | inl past ↦ (
      let rest = up-to w before later time come.0 last (λ t early. come.1.next.none_before t (omega (arith, early, past))) in
      record { newer = m ∷ rest.newer; older = rest.older; split = ap (λ (ms : List Moment). m ∷ ms) rest.split; last = rest.last; done = rest.done })
]

quiet-parts : (w : World) (h : ℕ) (before older newer : List Moment) → AreQuiet w h before (newer ++ older) → AreQuiet w h before older × AreQuiet w h (older ++ before) newer
quiet-parts w h before older [] quiet = (quiet, tt)
quiet-parts w h before older (m ∷ newer) quiet =
    let rest = quiet-parts w h before older newer quiet.0 in
    (rest.0, (rest.1, subst (λ (ms : List Moment). IsQuiet w h (state w ms) m) (append_assoc newer older before) quiet.1))

-- a node that has links is one of the world's
linked-node : (w : World) (c b : ℕ) → IsOpenWorld w → HasLink w.links c b → c < w.nodes
linked-node w c b open_ linked = omega (arith, (open_.ends linked.link linked.among).0, linked.from)

more_time : (l time d : ℕ) → time + l * suc d ≡ time + l * d + l
more_time l time d = grind arith

pub spreads_in_time : (w : World) (v : Version) → IsOpenWorld w → IsWorldVersion w v → SpreadsInTime w v
spreads_in_time w v open_ right a b zero time before later below away come newest quiet last done holds =
    subst (λ (k : ℕ). HoldsVersion w v k (later ++ before)) away (holds-on w v a before later right come newest holds)
spreads_in_time w v open_ right a b (suc d) time before later below away come newest quiet last done holds =
    go (up-to w before later (time + 3 * longest w.description.trickle * d) come (omega (arith, last)) (λ t early. done t (omega (arith, early, more_time (3 * longest w.description.trickle) time d))))
    (λ older quiet_older last_older done_older come_older newest_older. spreads_in_time w v open_ right a away.0 d time before older below away.1 come_older newest_older quiet_older last done_older holds) where
      go : UpTo w before later (time + 3 * longest w.description.trickle * d)
          → ((older : List Moment) → AreQuiet w v.handler before older → last_time (older ++ before) ≤ time + 3 * longest w.description.trickle * d → IsDone (state w (older ++ before)) (time + 3 * longest w.description.trickle * d)
          → HaveCome w (older ++ before) → IsNewest w v (older ++ before) → HoldsVersion w v away.0 (older ++ before))
          → HoldsVersion w v b (later ++ before)
      go up on =
          let whole : later ++ before ≡ up.newer ++ (up.older ++ before) = ap (λ (ms : List Moment). ms ++ before) up.split ∙ append_assoc up.newer up.older before in
          let quiets = quiet-parts w v.handler before up.older up.newer (subst (λ (ms : List Moment). AreQuiet w v.handler before ms) up.split quiet) in
          let come_all : HaveCome w (up.newer ++ (up.older ++ before)) = subst (λ (ms : List Moment). HaveCome w ms) whole come in
          let newest_all : IsNewest w v (up.newer ++ (up.older ++ before)) = subst (λ (ms : List Moment). IsNewest w v ms) whole newest in
          let done_all : IsDone (state w (up.newer ++ (up.older ++ before))) (time + 3 * longest w.description.trickle * suc d) = subst (λ (ms : List Moment). IsDone (state w ms) (time + 3 * longest w.description.trickle * suc d)) whole done in
          let holds_c : HoldsVersion w v away.0 (up.older ++ before) = on up.older quiets.0 up.last up.done (earlier-come w (up.older ++ before) up.newer come_all) (newest-earlier w v (up.older ++ before) up.newer newest_all) in
          subst (λ (ms : List Moment). HoldsVersion w v b ms) (sym whole)
          (hops_in_time w v open_ right away.0 b (time + 3 * longest w.description.trickle * d) (up.older ++ before) up.newer (linked-node w away.0 b open_ away.2) away.2 away.3 come_all newest_all quiets.1 up.last
          (λ t early. done_all t (omega (arith, early, more_time (3 * longest w.description.trickle) time d))) holds_c)
