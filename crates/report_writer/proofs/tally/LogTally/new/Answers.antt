use Rattle.std.proofs.Common.{◌≡◌, ◌+◌, ◌++◌, ◌∷◌, [], ℕ, length, refl, ap, ◌∙◌}
use Rattle.std.proofs.Math.Nat.{le_antisymm}
use Rattle.std.proofs.lemmas.List.{length_push}
use Rattle.std.proofs.lemmas.List.Elements.{All-nil, All-cons, All-append, All-same}
use Rattle.report_writer.specs.Tally.{versions_none}
use Rattle.report_writer.specs.declared.tally.Versions.{Versions}
use Rattle.report_writer.proofs.TallyLemmas.{tally-none}
use Rattle.report_writer.proofs.tally.LogTally.new.Goals as goal

pub loop-handler-init : goal.loop-handler-init
loop-handler-init c = record {
  count = ap length c.new-versions.ensures.items;
  none = All-same (λ (v : Versions). v ≡ versions_none) c.new-versions.result.items [] c.new-versions.ensures.items (All-nil (λ (v : Versions). v ≡ versions_none));
}

pub loop-handler-preserved : goal.loop-handler-preserved
loop-handler-preserved c =
    let Is : Versions → Type 0 = λ v. v ≡ versions_none in
    let versions = c.loop-handler.versions.items in record {
      count = ap length c.in_ok-push.ensures.items ∙ length_push versions versions_none ∙ ap (λ (n : ℕ). n + 1) c.loop-handler.invariant.count;
      none = All-same Is c.push.new.self.items (versions ++ versions_none ∷ []) c.in_ok-push.ensures.items
          (All-append Is versions (versions_none ∷ []) c.loop-handler.invariant.none (All-cons Is versions_none [] refl (All-nil Is)));
    }

pub returns : goal.returns
returns c =
    tally-none c.args.handlers (record { entries = 0; counts = record { posts = 0; drops = 0; halts = 0; faults = 0; installs = 0 }; versions = c.loop-handler.versions }) refl refl
    (c.loop-handler.invariant.count ∙ le_antisymm c.loop-handler.auto._handler-end c.loop-handler-test.false) c.loop-handler.invariant.none
