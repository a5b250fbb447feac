use Rattle.std.proofs.Common.{ℕ, ◌<◌, ◌≤◌, length, sym, ap, subst}
use Rattle.std.specs.List.{enumerate_from}
use Rattle.std.proofs.lemmas.List.FromFn.{length-enumerate_from}
use Rattle.mate_files.proofs.PenLemmas.{Prints-by, Prints-all, Prints-next_item}
use Rattle.mate_num.specs.Locks.{lock_uses}
use Rattle.mate_num.specs.declared.resource.Resource.{Resource}
use Rattle.opcode_gen.specs.LockLine.{mention, mention_at}
use Rattle.opcode_gen.proofs.LockLineLemmas.{entry_at}
use Rattle.opcode_gen.proofs.lock_line.print_group.Goals as goal

pub loop-place-preserved : goal.loop-place-preserved
loop-place-preserved g c =
    let names = c.args.names.now in
    let place = c.loop-place.place in
    let name = c.index-names-place.result in
    let u = lock_uses c.args.set.now in
    let within : place < length (enumerate_from 0 names) = subst (λ (n : ℕ). place < n) (sym (length-enumerate_from 0 names)) c.loop-place-test.true in
    let printed = Prints-by (ap (λ (r : Resource). mention u r name) c.resource.ensures) c.print_mention.ensures in
    Prints-next_item (mention_at u c.args.group) (enumerate_from 0 names) place (place, name) within
    (entry_at names place name c.loop-place-test.true c.index-names-place.is) c.loop-place.invariant printed

pub returns : goal.returns
returns g c =
    let names = c.args.names.now in
    let place = c.loop-place.place in
    let end_is : length (enumerate_from 0 names) ≤ place = subst (λ (n : ℕ). n ≤ place) (sym (length-enumerate_from 0 names)) c.loop-place-test.false in
    Prints-all (mention_at (lock_uses c.args.set.now) c.args.group) (enumerate_from 0 names) place end_is c.loop-place.invariant
