use Rattle.std.proofs.Common.{◌≡◌, ◌∙◌, ℕ, Bool, [], length, pos, sym, ap}
use Rattle.std.specs.Prelude.{◌&&◌}
use Rattle.std.proofs.lemmas.List.{length-replicate}
use Rattle.mate_num.specs.Store.{payload}
use Rattle.mate_num.specs.declared.resource.Resource.TheVariants as cell
use Rattle.audit_rules.specs.Shown.{all_below, is_shown_at}
use Rattle.audit_rules.specs.Views.{roll_in}
use Rattle.audit_programs.specs.Trials.{machine_for}
use Rattle.report_audit.proofs.showing.is_store_shown.Goals as goal

pub returns-then-not-all_variables_shown-clause-shown : goal.returns-then-not-all_variables_shown-clause-shown
returns-then-not-all_variables_shown-clause-shown c =
    let t = c.args.trial.now in
    let d = t.desc.now in
    let m = machine_for t in
    let x = roll_in t.log.now.images c.args.roll.now.roll in
    let variables : ℕ → Bool = λ v. is_shown_at m x c.args.store.now c.args.seen.now (cell.Shared record { 0 = v }) in
    let buffers : ℕ → Bool = λ b. is_shown_at m x c.args.store.now c.args.seen.now (cell.Buffer record { 0 = b }) in
    let count : c.len-variables.result ≡ length m.zero_store.shared.items = c.len-variables.ensures.value ∙ sym (length-replicate (length d.shared.items) (pos 0)) in
    ap (λ (b : Bool). b && all_below buffers (length m.zero_store.buffers.items)) (c.if-not-all_variables_shown.ensures ∙ ap (λ (n : ℕ). all_below variables n) count)

pub returns-clause-shown : goal.returns-clause-shown
returns-clause-shown c =
    let t = c.args.trial.now in
    let d = t.desc.now in
    let m = machine_for t in
    let x = roll_in t.log.now.images c.args.roll.now.roll in
    let variables : ℕ → Bool = λ v. is_shown_at m x c.args.store.now c.args.seen.now (cell.Shared record { 0 = v }) in
    let buffers : ℕ → Bool = λ b. is_shown_at m x c.args.store.now c.args.seen.now (cell.Buffer record { 0 = b }) in
    let count : c.len-variables.result ≡ length m.zero_store.shared.items = c.len-variables.ensures.value ∙ sym (length-replicate (length d.shared.items) (pos 0)) in
    let more : c.len-buffers.result ≡ length m.zero_store.buffers.items = c.len-buffers.ensures.value ∙ sym (length-replicate (length d.buffers.items) (payload [])) in
    c.all_buffers_shown.ensures
    ∙ ap (λ (n : ℕ). all_below buffers n) more
    ∙ ap (λ (b : Bool). b && all_below buffers (length m.zero_store.buffers.items)) (c.if-not-all_variables_shown.ensures ∙ ap (λ (n : ℕ). all_below variables n) count)
