-- Each context of the ring has one turn, in which it goes last or, if it is the one to remove, is not put back.
use Rattle.std.proofs.Common.{◌≡◌, ◌<◌, ◌+◌, length, ap, ◌∙◌, sym, subst, arith}
use Rattle.circular_buffer.specs.Buffer.{Buffer}
use Rattle.mate_num.specs.declared.id.ContextId.{ContextId}
use Rattle.context_sched.specs.declared.ring.Ring.TheInside.{Inside}
use Rattle.context_sched.specs.Ready.{AreContexts, without}
use Rattle.context_sched.proofs.RingLemmas.{IsTurned, IsTurned-past, IsTurned-round, IsTurned-found, turned_none, turned_all, AreContexts-without, Changes-without}
use Rattle.context_sched.proofs.ring.Ring.remove.Goals as goal
use Rattle.context_sched.proofs.ring.Ring.remove.Goals.{in-Some+then-first-ctx, in-Some+else-first-ctx, in_default}

pub loop-init : goal.loop-init
loop-init c =
    let e : c.self.inside.ready.items ≡ c.args.self.now = c.self.view_is in
    record {
      items = e ∙ turned_none c.args.self.now c.args.ctx;
      room = (let full = c.self.invariant.1 in let n = c.len-end.ensures.len in let m = c.len-end.ensures.within.0 in omega arith);
      capacity = c.self.invariant.1;
    }

pub invariant_of-self : goal.invariant_of-self
invariant_of-self c =
    let start = c.args.self.now in
    let n : length c.self.inside.ready.items ≡ length start = ap length c.self.view_is in
    let e : c.loop.self-inside.ready.items ≡ without start c.args.ctx = turned_all start c.args.ctx c.loop.counter c.loop.self-inside.ready (omega arith) c.loop.invariant in
    (subst AreContexts (sym e) (AreContexts-without start c.args.ctx (subst AreContexts c.self.view_is c.self.invariant.0)), c.loop.invariant.capacity)

pub returns-clause-rest : goal.returns-clause-rest
returns-clause-rest c =
    let start = c.args.self.now in
    let n : length c.self.inside.ready.items ≡ length start = ap length c.self.view_is in
    turned_all start c.args.ctx c.loop.counter c.loop.self-inside.ready (omega arith) c.loop.invariant

pub returns-clause-held : goal.returns-clause-held
returns-clause-held c = Changes-without c.args.self.now c.loop.self-inside.ready.items c.args.ctx (returns-clause-rest c)

pub loop-preserved : goal.loop-preserved
loop-preserved c =
    let start = c.args.self.now in
    let i = c.loop.counter in
    let n : length c.self.inside.ready.items ≡ length start = ap length c.self.view_is in
    let below : i < length start = omega arith in
    let P : Buffer ContextId → Type 0 = λ b. IsTurned start c.args.ctx (i + 1) b in
    elim c.match-pop_front.branch [
      | in-Some+then-first-ctx w ↦
          (let is : w.push_back.new.self ≡ c.match-pop_front.self-inside.ready = sym (ap (λ (s : Inside). s.ready) w.self-inside-is) in
          subst P is (IsTurned-round start c.args.ctx w.in-Some.first i c.loop.self-inside.ready c.pop_front.new.self w.push_back.new.self below c.loop.invariant (sym w.in-Some.is ∙ c.pop_front.ensures.value) w.if-first-ctx.true c.pop_front.ensures.items w.push_back.ensures.items))
      | in-Some+else-first-ctx w ↦
          (let is : c.pop_front.new.self ≡ c.match-pop_front.self-inside.ready = sym (ap (λ (s : Inside). s.ready) w.self-inside-is) in
          subst P is (IsTurned-past start c.args.ctx w.in-Some.first i c.loop.self-inside.ready c.pop_front.new.self below c.loop.invariant (sym w.in-Some.is ∙ c.pop_front.ensures.value) w.if-first-ctx.false c.pop_front.ensures.items))
      | in_default w ↦ absurd (IsTurned-found start c.args.ctx i c.loop.self-inside.ready below c.loop.invariant (sym c.pop_front.ensures.value ∙ w.in_default.is))
    ]
