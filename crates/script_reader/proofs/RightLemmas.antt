-- A made world is right for its machine.
use Rattle.std.proofs.Common.{◌≡◌, ℕ, zero, suc, ◌+◌, ◌-◌, ◌*◌, ◌<◌, ◌≤◌, true, List, [], ◌∷◌, ◌++◌, length, map, replicate, refl, sym, ◌∙◌, ap, subst, arith, length-append, append_assoc}
use Rattle.std.specs.List.{All, AllPairs, range_with_len}
use Rattle.std.proofs.lemmas.List.{length-replicate}
use Rattle.std.proofs.lemmas.List.FromFn.{length-map-range_with_len}
use Rattle.std.proofs.lemmas.List.Elements.{All-nil, All-append, All-push}
use Rattle.std.proofs.lemmas.List.Quantifiers.{all_pairs_push}
use Rattle.mate_num.specs.declared.id.HandlerId.{HandlerId}
use Rattle.vm_shape.specs.declared.description.Description.{Description}
use Rattle.vm_shape.specs.Bounds.{HasBounds}
use Rattle.vm_shape.proofs.DescriptionLemmas.{bounds_of}
use Rattle.script_steps.specs.declared.world.World.{World}
use Rattle.script_steps.specs.declared.world.Link.{Link}
use Rattle.script_steps.specs.declared.world.Series.{Series}
use Rattle.script_steps.specs.declared.world.Planned.{Planned}
use Rattle.script_steps.specs.World.{IsRightLink, AreOtherLinks, AreOtherSeries, IsRightPlanned, Follow, IsRightWorld}
use Rattle.script_reader.specs.Made.{both_ways, chain, ring, first_injection, second_injection, posting, unsorted, node_count, plan_of, made_world}
use Rattle.script_reader.proofs.ListLemmas.{no_pairs, all_made, pairs_made, pairs_append}
use Rattle.script_reader.proofs.SortLemmas.{all_sorted, length-sorted, Apart, follows_sorted}

-- ---- links

-- the links so far join neighbours, up to a node
record IsChainTo (nodes high : ℕ) (links : List Link) : Type 0 where
  each : All (IsRightLink nodes) links
  pairs : AllPairs AreOtherLinks links
  near : All (λ k. (k.from ≤ k.to + 1) × (k.to ≤ k.from + 1)) links
  low : All (λ k. (k.from ≤ high) × (k.to ≤ high)) links

-- two more links, of a pair that isn't joined
two_more : (nodes a b loss : ℕ) (links : List Link) → a < nodes → b < nodes → (a ≡ b → ⊥) → loss ≤ 1000 → All (IsRightLink nodes) links → AllPairs AreOtherLinks links
    → All (λ k. k.from ≡ a → k.to ≡ b → ⊥) links → All (λ k. k.from ≡ b → k.to ≡ a → ⊥) links → (All (IsRightLink nodes) (links ++ both_ways a b loss)) × AllPairs AreOtherLinks (links ++ both_ways a b loss)
two_more nodes a b loss links a_high b_high apart loss_high each pairs there back =
    let there_link : Link = record { from = a; to = b; loss = loss } in
    let back_link : Link = record { from = b; to = a; loss = loss } in
    let one : List Link = links ++ there_link ∷ [] in
    let one_each : All (IsRightLink nodes) one = All-push (IsRightLink nodes) links there_link each (record { from_high = a_high; to_high = b_high; apart = apart; loss_high = loss_high }) in
    let one_pairs : AllPairs AreOtherLinks one = all_pairs_push AreOtherLinks links there_link pairs (λ i d h. there i d h) in
    let one_back : All (λ k. k.from ≡ b → k.to ≡ a → ⊥) one = All-push (λ k. k.from ≡ b → k.to ≡ a → ⊥) links there_link back (λ e f. apart e) in
    let P : List Link → Type 0 = λ ls. All (IsRightLink nodes) ls in
    let Q : List Link → Type 0 = λ ls. AllPairs AreOtherLinks ls in
    let e : one ++ back_link ∷ [] ≡ links ++ both_ways a b loss = append_assoc links (there_link ∷ []) (back_link ∷ []) in (
      subst P e (All-push (IsRightLink nodes) one back_link one_each (record { from_high = b_high; to_high = a_high; apart = λ e. apart (sym e); loss_high = loss_high })),
      subst Q e (all_pairs_push AreOtherLinks one back_link one_pairs (λ i d h. one_back i d h)),
    )

chained : (nodes n : ℕ) → n < nodes → IsChainTo nodes n (chain n)
chained nodes zero small = record { each = All-nil _; pairs = no_pairs AreOtherLinks; near = All-nil _; low = All-nil _ }
chained nodes (suc n) small =
    let old : IsChainTo nodes n (chain n) = chained nodes n (omega arith) in
    let more = two_more nodes n (suc n) 50 (chain n) (omega arith) small (λ e. absurd (omega arith)) (omega arith) old.each old.pairs
    (λ i d h e f. absurd (omega (arith, (old.low i d h).0, (old.low i d h).1))) (λ i d h e f. absurd (omega (arith, (old.low i d h).0, (old.low i d h).1))) in
    record {
      each = more.0;
      pairs = more.1;
      near = All-append (λ k. (k.from ≤ k.to + 1) × (k.to ≤ k.from + 1)) (chain n) (both_ways n (suc n) 50) old.near (near_two n);
      low = All-append (λ k. (k.from ≤ suc n) × (k.to ≤ suc n)) (chain n) (both_ways n (suc n) 50) (λ i d h. (omega (arith, (old.low i d h).0), omega (arith, (old.low i d h).1))) (low_two n);
    } where
      near_two : (n : ℕ) → All (λ k. (k.from ≤ k.to + 1) × (k.to ≤ k.from + 1)) (both_ways n (suc n) 50)
      near_two n zero d h = (omega arith, omega arith)
      near_two n (suc zero) d h = (omega arith, omega arith)
      near_two n (suc (suc i)) d h = absurd (omega arith)

      low_two : (n : ℕ) → All (λ k. (k.from ≤ suc n) × (k.to ≤ suc n)) (both_ways n (suc n) 50)
      low_two n zero d h = (omega arith, omega arith)
      low_two n (suc zero) d h = (omega arith, omega arith)
      low_two n (suc (suc i)) d h = absurd (omega arith)

right_ring : (nodes : ℕ) → 8 ≤ nodes → (All (IsRightLink nodes) (ring nodes)) × AllPairs AreOtherLinks (ring nodes)
right_ring nodes many =
    let old : IsChainTo nodes (nodes - 1) (chain (nodes - 1)) = chained nodes (nodes - 1) (omega arith) in
    two_more nodes 0 (nodes - 1) 200 (chain (nodes - 1)) (omega arith) (omega arith) (λ e. absurd (omega arith)) (omega arith) old.each old.pairs
    (λ i d h e f. absurd (omega (arith, (old.near i d h).1))) (λ i d h e f. absurd (omega (arith, (old.near i d h).0)))

-- ---- events

right_first : (d : Description) (nodes h : ℕ) → 1 ≤ nodes → h < length d.handlers.items → h < 8 → IsRightPlanned d nodes 600000 (2 * length d.handlers.items) (first_injection nodes h)
right_first d nodes h some known few = record {
  time_high = omega arith;
  node_high = omega arith;
  what = record { handler_high = known; version_low = omega arith; version_high = omega arith; program_high = omega arith };
}

right_second : (d : Description) (nodes h : ℕ) → 1 ≤ nodes → h < length d.handlers.items → h < 8 → IsRightPlanned d nodes 600000 (2 * length d.handlers.items) (second_injection (length d.handlers.items) nodes h)
right_second d nodes h some known few = record {
  time_high = omega arith;
  node_high = omega arith;
  what = record { handler_high = known; version_low = omega arith; version_high = omega arith; program_high = omega arith };
}

right_posting : (d : Description) (number nodes j : ℕ) → 1 ≤ nodes → 1 ≤ length d.handlers.items → j ≤ 200 → IsRightPlanned d nodes 600000 (2 * length d.handlers.items) (posting number (length d.handlers.items) nodes j)
right_posting d number nodes j some handlers few = record { time_high = omega arith; node_high = omega arith; what = record { handler_high = omega arith; few = omega arith } }

right_events : (d : Description) (number nodes posts : ℕ) → 1 ≤ nodes → posts ≤ 200 → All (IsRightPlanned d nodes 600000 (2 * length d.handlers.items)) (unsorted number (length d.handlers.items) nodes posts)
right_events d number nodes posts some few =
    let bounds : HasBounds d = bounds_of d in
    let n : ℕ = length d.handlers.items in
    let P : Planned → Type 0 = IsRightPlanned d nodes 600000 (2 * n) in
    All-append P (map (first_injection nodes) (range_with_len 0 n)) _ (all_made P (first_injection nodes) 0 n (λ i low high. right_first d nodes i some (omega arith) (omega (arith, bounds.handlers_high))))
    (All-append P (map (second_injection n nodes) (range_with_len 0 n)) _ (all_made P (second_injection n nodes) 0 n (λ i low high. right_second d nodes i some (omega arith) (omega (arith, bounds.handlers_high))))
    (all_made P (posting number n nodes) 1 posts (λ i low high. right_posting d number nodes i some bounds.handlers_low (omega arith))))

other_handlers : (i j : ℕ) (h k : HandlerId) → h.0 ≡ i → k.0 ≡ j → i < j → h ≡ k → ⊥
other_handlers i j h k hi kj lt e = let same : h.0 ≡ k.0 = ap (λ x. x.0) e in absurd (omega arith)

apart_events : (number handlers nodes posts : ℕ) → handlers ≤ 8 → AllPairs Apart (unsorted number handlers nodes posts)
apart_events number handlers nodes posts few =
    pairs_append Apart (map (first_injection nodes) (range_with_len 0 handlers)) _
    (pairs_made Apart (first_injection nodes) 0 handlers (λ i j low lt high same. absurd (other_handlers i j (record { 0 = i }) (record { 0 = j }) refl refl lt same)))
    (pairs_append Apart (map (second_injection handlers nodes) (range_with_len 0 handlers)) (map (posting number handlers nodes) (range_with_len 1 posts))
    (pairs_made Apart (second_injection handlers nodes) 0 handlers (λ i j low lt high same. absurd (other_handlers i j (record { 0 = i }) (record { 0 = j }) refl refl lt same)))
    (pairs_made Apart (posting number handlers nodes) 1 posts (λ i j low lt high. tt))
    (all_made (λ x. All (Apart x) (map (posting number handlers nodes) (range_with_len 1 posts))) (second_injection handlers nodes) 0 handlers
    (λ i low high. all_made (Apart (second_injection handlers nodes i)) (posting number handlers nodes) 1 posts (λ j l h. tt))))
    (all_made (λ x. All (Apart x) (map (second_injection handlers nodes) (range_with_len 0 handlers) ++ map (posting number handlers nodes) (range_with_len 1 posts))) (first_injection nodes) 0 handlers
    (λ i low high. All-append (Apart (first_injection nodes i)) (map (second_injection handlers nodes) (range_with_len 0 handlers)) (map (posting number handlers nodes) (range_with_len 1 posts))
    (all_made (Apart (first_injection nodes i)) (second_injection handlers nodes) 0 handlers (λ j l h same. ((λ lt. absurd (omega arith)), λ le. omega arith)))
    (all_made (Apart (first_injection nodes i)) (posting number handlers nodes) 1 posts (λ j l h. tt))))

count_events : (number handlers nodes posts : ℕ) → handlers ≤ 8 → posts ≤ 200 → length (unsorted number handlers nodes posts) < 4000000000
count_events number handlers nodes posts few some =
    let first : List Planned = map (first_injection nodes) (range_with_len 0 handlers) in
    let second : List Planned = map (second_injection handlers nodes) (range_with_len 0 handlers) in
    let posted : List Planned = map (posting number handlers nodes) (range_with_len 1 posts) in
    omega (
      arith,
      length-append first (second ++ posted),
      length-append second posted,
      length-map-range_with_len (first_injection nodes) 0 handlers,
      length-map-range_with_len (second_injection handlers nodes) 0 handlers,
      length-map-range_with_len (posting number handlers nodes) 1 posts,
    )

-- ---- the world

nodes_between : (number : ℕ) → (8 ≤ node_count number) × (node_count number ≤ 64)
unfolding node_count
nodes_between number = (omega arith, omega arith)

-- the plan, whatever its parts are
record IsRightPlan (d : Description) (nodes : ℕ) (events : List Planned) : Type 0 where
  each : All (IsRightPlanned d nodes 600000 (2 * length d.handlers.items)) events
  in_order : AllPairs Follow events
  few : length events < 4000000000

right_plan : (d : Description) (number nodes posts : ℕ) → 1 ≤ nodes → posts ≤ 200 → IsRightPlan d nodes (plan_of number (length d.handlers.items) nodes posts)
unfolding plan_of
right_plan d number nodes posts some few =
    let bounds : HasBounds d = bounds_of d in
    let events : List Planned = unsorted number (length d.handlers.items) nodes posts in
    record {
      each = all_sorted (IsRightPlanned d nodes 600000 (2 * length d.handlers.items)) events (right_events d number nodes posts some few);
      in_order = follows_sorted events (apart_events number (length d.handlers.items) nodes posts bounds.handlers_high);
      few = omega (arith, length-sorted events, count_events number (length d.handlers.items) nodes posts bounds.handlers_high few);
    }

pub right_world : (d : Description) (number : ℕ) → IsRightWorld d (made_world d number)
right_world d number =
    let nodes : ℕ = node_count number in
    let between = nodes_between number in
    let handlers : ℕ = length d.handlers.items in
    let links = right_ring nodes between.0 in
    let none : List ℕ = [] in
    let files : length (replicate (2 * handlers) none) ≡ 2 * handlers = length-replicate (2 * handlers) none in
    let plan : IsRightPlan d nodes (plan_of number handlers nodes 200) = right_plan d number nodes 200 (omega (arith, between.0)) (omega arith) in
    let P : ℕ → Type 0 = λ n. All (IsRightPlanned d nodes 600000 n) (plan_of number handlers nodes 200) in
    record {
      nodes_low = omega (arith, between.0);
      nodes_high = between.1;
      until_low = omega arith;
      until_high = omega arith;
      links = links.0;
      one_link = links.1;
      series = All-nil _;
      one_series = no_pairs AreOtherSeries;
      events = subst P (sym files) plan.each;
      in_order = plan.in_order;
      few = plan.few;
    }

pub right_parts : (d : Description) (number nodes handlers : ℕ) (links : List Link) (series : List Series) (events : List Planned) (files : List (List ℕ)) → nodes ≡ node_count number → links ≡ ring nodes → series ≡ []
    → handlers ≡ length d.handlers.items → events ≡ plan_of number handlers nodes 200 → files ≡ replicate (2 * length d.handlers.items) []
    → IsRightWorld d (record { nodes = nodes; random = number; until = 600000; suppress = true; links = links; series = series; events = events; files = files })
right_parts d number nodes handlers links series events files nodes_is links_is series_is handlers_is events_is files_is =
    let world : ℕ → List Link → List Series → List Planned → List (List ℕ) → World = λ n l s e f. record { nodes = n; random = number; until = 600000; suppress = true; links = l; series = s; events = e; files = f } in
    let count : ℕ = node_count number in
    let h : ℕ = length d.handlers.items in
    let same : world nodes links series events files ≡ made_world d number =
    ap (λ n. world n links series events files) nodes_is ∙ ap (λ l. world count l series events files) (links_is ∙ ap ring nodes_is)
    ∙ ap (λ s. world count (ring count) s events files) series_is
    ∙ ap (λ e. world count (ring count) [] e files) (events_is ∙ ap (λ k. plan_of number k nodes 200) handlers_is ∙ ap (λ n. plan_of number h n 200) nodes_is)
    ∙ ap (λ f. world count (ring count) [] (plan_of number h count 200) f) files_is in
    let P : World → Type 0 = λ w. IsRightWorld d w in
    subst P (sym same) (right_world d number)
