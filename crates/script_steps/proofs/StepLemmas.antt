-- What a line adds keeps a script right.
use Rattle.std.proofs.Common.{◌≡◌, ℕ, ◌+◌, ◌<◌, ◌≤◌, List, [], ◌∷◌, length, slice_set, get_or, Option, Some, None, refl, sym, ◌∙◌, ap, subst, inl, inr, arith, length-append, get_or-set_same, get_or-set_other}
use Rattle.std.proofs.lemmas.Bool.Decides.{eqb_tells}
use Rattle.std.proofs.lemmas.List.{length-set}
use Rattle.std.proofs.lemmas.List.Elements.{All-push}
use Rattle.std.proofs.lemmas.List.Quantifiers.{all_pairs_push}
use Rattle.mate_num.specs.declared.id.HandlerId.{HandlerId}
use Rattle.vm_shape.specs.declared.description.Description.{Description}
use Rattle.vm_shape.specs.Bounds.{HasBounds}
use Rattle.vm_shape.proofs.DescriptionLemmas.{bounds_of}
use Rattle.script_steps.specs.declared.steps.Step.{Step}
use Rattle.script_steps.specs.declared.steps.Step.TheVariants as step
use Rattle.script_steps.specs.Steps.{IsRightStep, Rises}
use Rattle.script_steps.specs.NodeScript.{Said, Progress, with_file, newest_after, with_said, nothing_yet}
use Rattle.script_steps.specs.NodeReader.{files_after, IsNewer, IsRightSaid, IsNoted, KeepsProgress}

-- more files
right_on : (d : Description) (m n : ℕ) → m ≤ n → (s : Step) → IsRightStep d m s → IsRightStep d n s
right_on d m n more (step.Install handler version program) r = record { handler_high = r.handler_high; version_low = r.version_low; version_high = r.version_high; program_high = omega arith }
right_on d m n more (step.Load program) r = omega arith
right_on d m n more _ r = r

-- a later install of the handler has the greater version
rises_to : (newest : List ℕ) (h : HandlerId) (version program : ℕ) (s : Step) → IsNoted newest (step.Install h version program) → IsNewer newest s → Rises (step.Install h version program) s
rises_to newest h version program (step.Install other later file) noted newer = λ same. let at : get_or newest h.0 0 ≡ get_or newest other.0 0 = ap (λ (h : HandlerId). get_or newest h.0 0) same in omega arith
rises_to newest h version program _ noted newer = tt

rises : (newest : List ℕ) (a b : Step) → IsNoted newest a → IsNewer newest b → Rises a b
rises newest (step.Install handler version program) b noted newer = rises_to newest handler version program b noted newer
rises newest _ b noted newer = tt

-- a newer version is noted
at_least : (newest : List ℕ) (place version k : ℕ) → place < length newest → get_or newest place 0 < version → get_or newest k 0 ≤ get_or (slice_set newest place version) k 0
at_least newest place version k within newer =
    elim (eqb_tells k place) [
      | inl same ↦ rw same.1 (let e : get_or (slice_set newest place version) place 0 ≡ version = get_or-set_same newest place version 0 within in omega arith)
      | inr other ↦ let e : get_or (slice_set newest place version) k 0 ≡ get_or newest k 0 = get_or-set_other newest place k version 0 other.1 in omega arith
    ]

noted_on : (newest : List ℕ) (place version : ℕ) → place < length newest → get_or newest place 0 < version → (s : Step) → IsNoted newest s → IsNoted (slice_set newest place version) s
noted_on newest place version within newer (step.Install handler v program) noted = omega (arith, at_least newest place version handler.0 within newer)
noted_on newest place version within newer _ noted = tt

-- the versions that are noted after a step
pub record Notes (newest : List ℕ) (s : Step) : Type 0 where
  pub places : length (newest_after newest s) ≡ length newest
  pub noted : (old : Step) → IsNoted newest old → IsNoted (newest_after newest s) old
  pub own : IsNoted (newest_after newest s) s

notes : (d : Description) (files : ℕ) (newest : List ℕ) (s : Step) → length newest ≡ 8 → IsRightStep d files s → IsNewer newest s → Notes newest s
notes d files newest (step.Install handler version program) places right newer =
    let bounds : HasBounds d = bounds_of d in
    let high : handler.0 < length d.handlers.items = right.handler_high in
    let few : length d.handlers.items ≤ 8 = bounds.handlers_high in
    let within : handler.0 < length newest = omega arith in
    record {
      places = length-set newest handler.0 version;
      noted = noted_on newest handler.0 version within newer;
      own = let e : get_or (slice_set newest handler.0 version) handler.0 0 ≡ version = get_or-set_same newest handler.0 version 0 within in omega arith;
    }
notes d files newest _ places right newer = record { places = refl; noted = λ old h. h; own = tt }

pub length-with_file : (files : List (List ℕ)) (file : Option (List ℕ)) → length (with_file files file) ≡ files_after (length files) file
length-with_file files None = refl
length-with_file files (Some file) = length-append files (file ∷ [])

pub files_grow : (n : ℕ) (file : Option (List ℕ)) → n ≤ files_after n file
files_grow n None = omega arith
files_grow n (Some file) = omega arith

pub few_files : (n : ℕ) (file : Option (List ℕ)) → files_after n file ≤ n + 1
few_files n None = omega arith
few_files n (Some file) = omega arith

pub keeps_more : (d : Description) (p : Progress) (said : Said) → KeepsProgress d p → IsRightSaid d p.newest (length p.script.files) said → KeepsProgress d (with_said p said)
keeps_more d p said k r =
    let n : ℕ = length p.script.files in
    let after : ℕ = length (with_file p.script.files said.file) in
    let len : after ≡ files_after n said.file = length-with_file p.script.files said.file in
    let grows : n ≤ after = omega (arith, files_grow n said.file) in
    let P : ℕ → Type 0 = λ m. IsRightStep d m said.step in
    let right : IsRightStep d after said.step = subst P (sym len) r.right in
    let now : Notes p.newest said.step = notes d after p.newest said.step k.places right r.newer in
    record {
      each = All-push (IsRightStep d after) p.script.steps said.step (λ i x h. right_on d n after grows (get_or p.script.steps i x) (k.each i x h)) right;
      rising = all_pairs_push Rises p.script.steps said.step k.rising (λ i x h. rises p.newest (get_or p.script.steps i x) said.step (k.noted i x h) r.newer);
      places = now.places ∙ k.places;
      noted = All-push (IsNoted (newest_after p.newest said.step)) p.script.steps said.step (λ i x h. now.noted (get_or p.script.steps i x) (k.noted i x h)) now.own;
    }

pub keeps_nothing : (d : Description) → KeepsProgress d nothing_yet
keeps_nothing d = record { each = λ i x h. absurd (omega arith); rising = λ i j x h k. absurd (omega arith); places = refl; noted = λ i x h. absurd (omega arith) }
