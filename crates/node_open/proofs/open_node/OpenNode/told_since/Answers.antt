-- What is at hand of the log has its entries from some position on.
use Rattle.std.proofs.Common.{◌≡◌, ◌+◌, ◌-◌, ℕ, List, length, drop, sym, ◌∙◌, ap, subst, arith, length-drop}
use Rattle.std.specs.Prelude.{All}
use Rattle.mate_journal.specs.declared.entry.Stamped.{Stamped}
use Rattle.mate_journal.specs.Log.{Log}
use Rattle.mate_journal.specs.OpenLog.{OpenView, IsKept}
use Rattle.mate_journal.specs.Entries.{IsEntryInRange}
use Rattle.node_open.specs.Calls.{TellFrom}
use Rattle.node_open.proofs.KeptLemmas.{count-kept, left-kept, tell-from, range-kept}
use Rattle.node_open.proofs.open_node.OpenNode.told_since.Goals as goal

pub returns-clause-tell : goal.returns-clause-tell
returns-clause-tell c =
    let v : OpenView = record { all = c.args.self.now.log; gone = c.args.self.now.gone } in
    let is = c.kept.ensures.kept in
    let es = c.entries-entries.result.now in
    let at : ℕ = c.args.from - (c.told.result - length es) in
    let count = count-kept v c.kept.result.now is in
    let told = c.told.ensures.count in
    let low = c.requires.kept in
    let long = ap (λ (xs : List Stamped). length xs) c.entries-entries.ensures in
    let from_is : v.gone.entries + at ≡ c.args.from = omega (arith, count, told, low, long) in
    subst (λ (xs : List Stamped). TellFrom c.args.from c.args.self.now.log xs) (sym (left-kept v c.kept.result.now is es at c.entries-entries.ensures))
    (subst (λ (n : ℕ). TellFrom n c.args.self.now.log (drop at c.kept.result.now.entries)) from_is (tell-from v c.kept.result.now is at))

pub returns-clause-range : goal.returns-clause-range
returns-clause-range c =
    let v : OpenView = record { all = c.args.self.now.log; gone = c.args.self.now.gone } in
    let es = c.entries-entries.result.now in
    let at : ℕ = c.args.from - (c.told.result - length es) in
    let P : Stamped → Type 0 = λ e. IsEntryInRange c.args.self.now.description e.entry in
    subst (All P) (sym (left-kept v c.kept.result.now c.kept.ensures.kept es at c.entries-entries.ensures))
    (range-kept v c.kept.result.now c.kept.ensures.kept c.args.self.now.description at c.kept.ensures.keeps.tidy.in_range)

gone-kept : (v : OpenView) (kept : Log) → IsKept v kept → (es : List Stamped) (told : ℕ) → es ≡ kept.entries → told ≡ length v.all.entries → v.gone.entries + length es ≡ told
gone-kept v kept is es told same count = ap (λ (xs : List Stamped). v.gone.entries + length xs) same ∙ count-kept v kept is ∙ sym count

pub overflow_sub-gone : goal.overflow_sub-gone
overflow_sub-gone c =
    let sum = gone-kept (record { all = c.args.self.now.log; gone = c.args.self.now.gone }) c.kept.result.now c.kept.ensures.kept c.entries-entries.result.now c.told.result c.entries-entries.ensures c.told.ensures.count in
    omega (arith, sum)

pub overflow_sub-result : goal.overflow_sub-result
overflow_sub-result c =
    let sum = gone-kept (record { all = c.args.self.now.log; gone = c.args.self.now.gone }) c.kept.result.now c.kept.ensures.kept c.entries-entries.result.now c.told.result c.entries-entries.ensures c.told.ensures.count in
    let low = c.requires.kept in
    omega (arith, sum, low)

pub offset_bounds-entries-from : goal.offset_bounds-entries-from
offset_bounds-entries-from c =
    let sum = gone-kept (record { all = c.args.self.now.log; gone = c.args.self.now.gone }) c.kept.result.now c.kept.ensures.kept c.entries-entries.result.now c.told.result c.entries-entries.ensures c.told.ensures.count in
    let low = c.requires.kept in
    omega (arith, sum, low)

pub slice_bounds-result-count : goal.slice_bounds-result-count
slice_bounds-result-count c =
    let sum = gone-kept (record { all = c.args.self.now.log; gone = c.args.self.now.gone }) c.kept.result.now c.kept.ensures.kept c.entries-entries.result.now c.told.result c.entries-entries.ensures c.told.ensures.count in
    let told = c.told.ensures.count in
    let within = c.requires.within in
    omega (arith, sum, told, within)

pub returns-clause-count : goal.returns-clause-count
returns-clause-count c =
    let v : OpenView = record { all = c.args.self.now.log; gone = c.args.self.now.gone } in
    let es = c.entries-entries.result.now in
    let at : ℕ = c.args.from - (c.told.result - length es) in
    let sum = gone-kept v c.kept.result.now c.kept.ensures.kept es c.told.result c.entries-entries.ensures c.told.ensures.count in
    let told = c.told.ensures.count in
    let low = c.requires.kept in
    let within = c.requires.within in
    let long = ap (λ (xs : List Stamped). length xs) c.entries-entries.ensures in
    let left = ap (λ (xs : List Stamped). length xs) (left-kept v c.kept.result.now c.kept.ensures.kept es at c.entries-entries.ensures) ∙ length-drop at c.kept.result.now.entries in
    omega (arith, sum, told, low, within, long, left)
