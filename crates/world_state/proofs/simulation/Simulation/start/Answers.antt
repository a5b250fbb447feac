use Rattle.std.proofs.Common.{◌≡◌, ℕ, List, [], drop, refl, ◌∙◌, subst, arith, All}
use Rattle.mate_journal.specs.Ranges.{HasAiredRanges}
use Rattle.mate_journal.specs.declared.air.Aired.{Aired}
use Rattle.world_state.proofs.BeginLemmas.{radio-first}
use Rattle.world_state.proofs.RangeLemmas.{none-told}
use Rattle.world_state.proofs.simulation.Simulation.start.Goals as goal

pub returns-clause-stands : goal.returns-clause-stands
returns-clause-stands c = λ ps.
    let begun = rw c.in_ok-machine.ensures at (c.in_ok-motes.ensures ps) in
    record {
      moments = [];
      come = tt;
      count = refl;
      radio = radio-first c.args.desc.now c.args.world.now ps c.in_ok-radio.radio c.schedule_lines.new.radio c.begin_motes.new.radio c.in_ok-motes.motes.items c.in_ok-radio.ensures c.in_ok-schedule_lines.ensures begun;
      nodes = begun.count;
      motes = begun.each;
      records = c.from.ensures;
      well_formed = λ k below. record { in_time = tt; follow = tt };
    }

pub returns-clause-whole : goal.returns-clause-whole
returns-clause-whole c =
    let begun = c.in_ok-motes.ensures [] in
    record { nodes = begun.whole; air = begun.adds.grows.gone ∙ c.in_ok-schedule_lines.ensures.grows.gone ∙ c.in_ok-radio.ensures.gone }

pub returns-clause-empty : goal.returns-clause-empty
returns-clause-empty c = (c.in_ok-motes.ensures []).empty

pub returns-clause-ranges : goal.returns-clause-ranges
returns-clause-ranges c =
    let begun = c.in_ok-motes.ensures [] in
    let gone : c.begin_motes.new.radio.gone ≡ 0 = begun.adds.grows.gone ∙ c.in_ok-schedule_lines.ensures.grows.gone ∙ c.in_ok-radio.ensures.gone in
    record {
      motes = none-told c.in_ok-motes.motes.items begun.whole begun.empty;
      air = subst (λ (n : ℕ). All HasAiredRanges (drop n c.begin_motes.new.radio.air)) gone (subst (λ (xs : List Aired). All HasAiredRanges xs) c.air.ensures c.air_is_in_range_from.ensures);
      gone = omega (arith, gone);
    }
