use Rattle.callers_worlds.proofs.AirLemmas.{nothing_sent}
use Rattle.callers_worlds.proofs.air.a_sensor_sends_nothing.Goals as goal

pub returns : goal.returns
returns c = λ w senders log same stood senses.
    nothing_sent w c.args.node c.args.at senders 1 c.args.fun c.new.result c.args.radio.now c.send_messages.new.radio senses (c.in_ok-send_messages.ensures.sends w senders log same stood)
