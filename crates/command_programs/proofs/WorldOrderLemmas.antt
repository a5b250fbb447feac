-- The injections of a world that was read name its files in order.
use Rattle.std.proofs.Common.{◌≡◌, ℕ, ◌+◌, Bool, true, false, List, [], ◌∷◌, ◌++◌, length, Option, Some, None, Result, Ok, Err, refl, sym, ◌∙◌, ap, subst, option_to_list}
use Rattle.std.specs.Prelude.{if◌then◌else◌, codes, slice_index, flat_map}
use Rattle.std.specs.Str.{bytes_eq}
use Rattle.std.proofs.lemmas.Grind.{flat_map-append}
use Rattle.std.proofs.lemmas.List.{append-nil}
use Rattle.vm_shape.specs.declared.description.Description.{Description}
use Rattle.script_steps.specs.Lines.{split_words, lines, is_skipped}
use Rattle.script_steps.specs.NodeReader.{files_after}
use Rattle.script_steps.specs.NodeScript.{with_file}
use Rattle.script_steps.specs.Script.{numbered, script_from}
use Rattle.script_steps.specs.Words.{TakenWords, WordReading, found, a_word, nothing_more, a_number, a_payload, a_handler, a_version}
use Rattle.script_steps.specs.declared.fault.Cause.{Cause}
use Rattle.script_steps.specs.declared.fault.Cause.TheVariants.{Word, Range}
use Rattle.script_steps.specs.declared.fault.ScriptFault.{ScriptFault}
use Rattle.script_steps.specs.declared.steps.Step.{Step}
use Rattle.command_programs.specs.Numbers.{file_of, IsNumbered}
use Rattle.script_reader.specs.WorldLines.{WorldSaid, SaysNodes, SaysRandom, SaysUntil, SaysSuppress, SaysLink, SaysSeries, SaysPlanned, WorldProgress, a_switch, a_far_end, a_link, a_series, an_injection, a_posting, a_noise, at_node, behind_time, an_event, by_its_verb, some_nodes, a_random, an_until, a_setting, behind_verb, a_world_line}
use Rattle.script_reader.specs.WorldWords.{a_node, a_time, a_sensor, some_values, some_noise}
use Rattle.script_reader.specs.declared.stage.Stage.{Stage}
use Rattle.script_reader.specs.declared.stage.Stage.TheVariants as stage
use Rattle.script_reader.specs.WorldScript.{with_told, when_told, after_world_line, no_world, world_at_end, world_script_in}
use Rattle.script_steps.specs.declared.world.Planned.{Planned}
use Rattle.script_steps.specs.declared.world.What.{What}
use Rattle.script_steps.specs.declared.world.What.TheVariants as what
use Rattle.script_steps.specs.declared.world.World.{World}
use Rattle.command_programs.specs.Injected.{install_of, installs_in, InjectsInOrder}
use Rattle.command_programs.proofs.OrderLemmas.{Gives, Gives-give, Gives-then, Gives-behind, Gives-if, length-with_file, NamesNext-map}

-- ---- lines

-- a line behind so many files names the next one with its injection, or none
abbrev NamesFile : ℕ → WorldSaid → Type 0
NamesFile n (SaysPlanned e file) = IsNumbered n (option_to_list (install_of e.what)) (files_after n file)
NamesFile n _ = Unit {0}

no_word-names : (n : ℕ) → Gives (NamesFile n) (found (Err Word))
no_word-names n words t is = cc

an_injection-names : (d : Description) (p : WorldProgress) (time : ℕ) → Gives (NamesFile (length p.world.files)) (an_injection d p time)
unfolding an_injection
an_injection-names d p time =
    let P : WorldSaid → Type 0 = NamesFile (length p.world.files) in
    Gives-behind P (a_node p.world.nodes) _ (λ node. Gives-behind P (a_handler d) _ (λ handler. Gives-behind P (a_version (slice_index p.newest handler.0)) _ (λ version.
    Gives-behind P a_word _ (λ file. Gives-give P _ (refl, refl)))))

a_posting-names : (d : Description) (w : World) (time n : ℕ) → Gives (NamesFile n) (a_posting d w time)
unfolding a_posting
a_posting-names d w time n =
    Gives-behind (NamesFile n) (a_node w.nodes) _ (λ node. Gives-behind (NamesFile n) (a_handler d) _ (λ handler. Gives-behind (NamesFile n) a_payload _ (λ payload.
    Gives-give (NamesFile n) _ refl)))

a_noise-names : (d : Description) (w : World) (time n : ℕ) → Gives (NamesFile n) (a_noise d w time)
unfolding a_noise
a_noise-names d w time n =
    Gives-behind (NamesFile n) (a_node w.nodes) _ (λ node. Gives-behind (NamesFile n) (some_noise d) _ (λ bytes. Gives-give (NamesFile n) _ refl))

at_node-names : (w : World) (time : ℕ) (x : What) (n : ℕ) → install_of x ≡ None → Gives (NamesFile n) (at_node w time x)
unfolding at_node
at_node-names w time x n none =
    Gives-behind (NamesFile n) (a_node w.nodes) _ (λ node. Gives-give (NamesFile n) _
    (subst (λ (o : Option Step). IsNumbered n (option_to_list o) n) (sym none) refl))

behind_time-names : (d : Description) (p : WorldProgress) (time : ℕ) (verb : List ℕ) → Gives (NamesFile (length p.world.files)) (behind_time d p time verb)
unfolding behind_time
behind_time-names d p time verb =
    let n : ℕ = length p.world.files in
    let P : WorldSaid → Type 0 = NamesFile n in
    Gives-if P (bytes_eq verb (codes "inject")) _ _ (an_injection-names d p time)
    (Gives-if P (bytes_eq verb (codes "post")) _ _ (a_posting-names d p.world time n)
    (Gives-if P (bytes_eq verb (codes "show")) _ _ (at_node-names p.world time what.Show n refl)
    (Gives-if P (bytes_eq verb (codes "reset")) _ _ (at_node-names p.world time what.Reset n refl)
    (Gives-if P (bytes_eq verb (codes "noise")) _ _ (a_noise-names d p.world time n) (no_word-names n)))))

an_event-names : (d : Description) (p : WorldProgress) → Gives (NamesFile (length p.world.files)) (an_event d p)
unfolding an_event
an_event-names d p =
    let P : WorldSaid → Type 0 = NamesFile (length p.world.files) in
    Gives-behind P (a_time p.world.until p.time) _ (λ time. Gives-behind P a_word _ (λ verb. behind_time-names d p time verb))

by_its_verb-names : (n : ℕ) (verb wanted : List ℕ) (r : WordReading WorldSaid) → Gives (NamesFile n) r → Gives (NamesFile n) (by_its_verb verb wanted r)
by_its_verb-names n verb wanted r names = Gives-if (NamesFile n) (bytes_eq verb wanted) _ _ names (no_word-names n)

a_link-names : (w : World) (both : Bool) (n : ℕ) → Gives (NamesFile n) (a_link w both)
unfolding a_link
a_link-names w both n =
    Gives-behind (NamesFile n) (a_node w.nodes) _ (λ from. Gives-behind (NamesFile n) (a_far_end w both from) _ (λ to. Gives-behind (NamesFile n) (a_number 0 1000 Range) _ (λ loss.
    Gives-give (NamesFile n) _ tt)))

a_series-names : (d : Description) (w : World) (n : ℕ) → Gives (NamesFile n) (a_series d w)
unfolding a_series
a_series-names d w n =
    Gives-behind (NamesFile n) (a_node w.nodes) _ (λ node. Gives-behind (NamesFile n) (a_sensor d) _ (λ fun. Gives-behind (NamesFile n) some_values _ (λ values.
    Gives-give (NamesFile n) _ tt)))

a_setting-names : (d : Description) (p : WorldProgress) (verb : List ℕ) → Gives (NamesFile (length p.world.files)) (a_setting d p verb)
unfolding a_setting
a_setting-names d p verb =
    let n : ℕ = length p.world.files in
    let P : WorldSaid → Type 0 = NamesFile n in
    Gives-if P (bytes_eq verb (codes "suppress")) _ _ (Gives-behind P a_switch _ (λ on. Gives-give P _ tt))
    (Gives-if P (bytes_eq verb (codes "link")) _ _ (a_link-names p.world false n)
    (Gives-if P (bytes_eq verb (codes "both")) _ _ (a_link-names p.world true n)
    (Gives-if P (bytes_eq verb (codes "series")) _ _ (a_series-names d p.world n) (by_its_verb-names n verb (codes "at") _ (an_event-names d p)))))

behind_verb-names : (d : Description) (p : WorldProgress) (s : Stage) (verb : List ℕ) → Gives (NamesFile (length p.world.files)) (behind_verb d p s verb)
behind_verb-names d p stage.Nodes verb =
    let P : WorldSaid → Type 0 = NamesFile (length p.world.files) in
    Gives-behind P (some_nodes verb) _ (λ nodes. Gives-give P _ tt)
behind_verb-names d p stage.Random verb =
    let P : WorldSaid → Type 0 = NamesFile (length p.world.files) in
    Gives-behind P (a_random verb) _ (λ random. Gives-give P _ tt)
behind_verb-names d p stage.Until verb =
    let P : WorldSaid → Type 0 = NamesFile (length p.world.files) in
    Gives-behind P (an_until verb) _ (λ until. Gives-give P _ tt)
behind_verb-names d p stage.Settings verb = a_setting-names d p verb
behind_verb-names d p stage.Events verb = by_its_verb-names (length p.world.files) verb (codes "at") _ (an_event-names d p)

a_world_line-names : (d : Description) (p : WorldProgress) → Gives (NamesFile (length p.world.files)) (a_world_line d p)
unfolding a_world_line
a_world_line-names d p =
    let P : WorldSaid → Type 0 = NamesFile (length p.world.files) in
    Gives-behind P a_word _ (λ verb. Gives-then P P (behind_verb d p p.stage verb) _ (behind_verb-names d p p.stage verb) (λ said names.
    Gives-behind P nothing_more _ (λ ends. Gives-give P said names)))

-- ---- the world so far

IsNumbered-append : (n : ℕ) (xs ys : List Step) (m total : ℕ) → IsNumbered n xs m → IsNumbered m ys total → IsNumbered n (xs ++ ys) total
IsNumbered-append n [] ys m total is names = subst (λ (k : ℕ). IsNumbered k ys total) (sym is) names
IsNumbered-append n (x ∷ xs) ys m total is names =
    NamesNext-map (file_of x) n (λ k. IsNumbered k xs m) (λ k. IsNumbered k (xs ++ ys) total) (λ k h. IsNumbered-append k xs ys m total h names) is

abbrev installs_at : Planned → List Step
installs_at p = option_to_list (install_of p.what)

installs-push : (events : List Planned) (e : Planned) → installs_in (events ++ e ∷ []) ≡ installs_in events ++ option_to_list (install_of e.what)
installs-push events e = flat_map-append installs_at events (e ∷ []) ∙ ap (λ (xs : List Step). installs_in events ++ xs) (append-nil (installs_at e))

told-in_order : (p : WorldProgress) (said : WorldSaid) → InjectsInOrder p.world → NamesFile (length p.world.files) said → InjectsInOrder (with_told p said).world
told-in_order p (SaysPlanned e file) is names =
    let total : ℕ = length (with_file p.world.files file) in
    subst (λ (xs : List Step). IsNumbered 0 xs total) (sym (installs-push p.world.events e))
    (IsNumbered-append 0 (installs_in p.world.events) (option_to_list (install_of e.what)) (length p.world.files) total is
    (subst (λ (k : ℕ). IsNumbered (length p.world.files) (option_to_list (install_of e.what)) k) (length-with_file p.world.files file) names))
told-in_order p _ is names = is

after_line-in_order : (d : Description) (p q : WorldProgress) (words : List (List ℕ)) → InjectsInOrder p.world → after_world_line d p words ≡ Ok q → InjectsInOrder q.world
unfolding after_world_line
after_line-in_order d p q words is next = by (is_skipped words) (a_world_line d p words) refl next where
  by : (b : Bool) (r : Result (TakenWords WorldSaid) Cause) → a_world_line d p words ≡ r → (if b then Ok p else when_told p r) ≡ Ok q → InjectsInOrder q.world
  by true r read next = let same : p ≡ q = cc in subst (λ (x : WorldProgress). InjectsInOrder x.world) same is
  by false (Ok t) read next =
      let same : with_told p t.value ≡ q = cc in
      subst (λ (x : WorldProgress). InjectsInOrder x.world) same (told-in_order p t.value is (a_world_line-names d p words t read))
  by false (Err cause) read next = cc

at_end-in_order : (s : Stage) (number : ℕ) (p : WorldProgress) (w : World) → InjectsInOrder p.world → world_at_end s number p ≡ Ok w → InjectsInOrder w
at_end-in_order stage.Settings number p w is next = let same : p.world ≡ w = cc in subst InjectsInOrder same is
at_end-in_order stage.Events number p w is next = let same : p.world ≡ w = cc in subst InjectsInOrder same is
at_end-in_order _ number p w is next = cc

world-in_order : (d : Description) (number : ℕ) (p : WorldProgress) (ls : List (List ℕ)) (w : World) → InjectsInOrder p.world
    → script_from (after_world_line d) (λ number p. world_at_end p.stage number p) number p ls ≡ Ok w → InjectsInOrder w
world-in_order d number p [] w is next = at_end-in_order p.stage number p w is next
world-in_order d number p (line ∷ ls) w is next = by (after_world_line d p (split_words line)) refl next (λ q h rest. world-in_order d (number + 1) q ls w h rest) where
  rest_of : WorldProgress → Result World ScriptFault
  rest_of q = script_from (after_world_line d) (λ number p. world_at_end p.stage number p) (number + 1) q ls

  by : (r : Result WorldProgress Cause) → after_world_line d p (split_words line) ≡ r → numbered number rest_of r ≡ Ok w → ((q : WorldProgress) → InjectsInOrder q.world → rest_of q ≡ Ok w → InjectsInOrder w) → InjectsInOrder w
  by (Ok q) after next later = later q (after_line-in_order d p q (split_words line) is after) next
  by (Err cause) after next later = cc

pub world_script-in_order : (d : Description) (bytes : List ℕ) (w : World) → world_script_in d bytes ≡ Ok w → InjectsInOrder w
unfolding world_script_in
world_script-in_order d bytes w is = world-in_order d 1 no_world (lines bytes) w refl is
