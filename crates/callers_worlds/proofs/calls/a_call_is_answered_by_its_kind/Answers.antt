use Rattle.std.proofs.Common.{◌≡◌, ℕ, ◌+◌, ◌*◌, ◌∙◌, ap, sym, arith}
use Rattle.std.specs.Prelude.{◌%◌, ◌/◌, pos}
use Rattle.vm_shape.specs.declared.function.FunKind.TheVariants as kind
use Rattle.world_rules.specs.World.{stream_word, latency_of}
use Rattle.world_air.specs.Calls.{words_taken}
use Rattle.world_air.specs.declared.calls.CallAnswer.{CallAnswer}
use Rattle.world_air.proofs.CallLemmas.{answer-value}
use Rattle.callers_worlds.proofs.calls.a_call_is_answered_by_its_kind.Goals as goal

pub returns-clause-clock : goal.returns-clause-clock
returns-clause-clock c = λ w called sensors are is.
    let answer = c.answer.ensures.value w called sensors are in
    ap (λ (a : CallAnswer). a.value) answer ∙ answer-value w c.args.node called c.args.fun (c.args.now + latency_of w c.args.fun) kind.Clock is
    ∙ ap (λ (t : ℕ). pos (t / 1000 % 32768)) (sym (ap (λ (a : CallAnswer). a.time) answer))

pub returns-clause-random : goal.returns-clause-random
returns-clause-random c = λ w called sensors are is.
    let stream : 2 * c.args.node + 1 ≡ c.args.node + (c.args.node + 1) = omega arith in
    ap (λ (a : CallAnswer). a.value) (c.answer.ensures.value w called sensors are) ∙ answer-value w c.args.node called c.args.fun (c.args.now + latency_of w c.args.fun) kind.Rand is
    ∙ ap (λ (s : ℕ). pos (stream_word w s (words_taken w called) % 32768)) stream

pub returns-clause-sensor : goal.returns-clause-sensor
returns-clause-sensor c = λ w called sensors are is.
    ap (λ (a : CallAnswer). a.value) (c.answer.ensures.value w called sensors are) ∙ answer-value w c.args.node called c.args.fun (c.args.now + latency_of w c.args.fun) kind.Sense is
