use Rattle.std.proofs.Common.{refl, sym, ◌∙◌, ap, Some}
use Rattle.std.specs.Prelude.{ℤ, Option}
use Rattle.arrayvec.specs.ArrayVec.{ArrayVec}
use Rattle.packet_codec.specs.declared.packet.Packet.{Packet}
use Rattle.packet_codec.specs.declared.packet.Packet.TheVariants.{App}
use Rattle.vm_shape.specs.declared.function.FunKind.TheVariants as kind
use Rattle.world_air.proofs.AirLemmas.{message-none, message-sent, kind-of}
use Rattle.world_air.proofs.sends.message_by.Goals as goal

pub returns-in-Send-clause-value : goal.returns-in-Send-clause-value
returns-in-Send-clause-value c = λ w same.
    let sent : ArrayVec ℤ → Option Packet = λ a. Some (App a) in
    ap sent c.copy_of.ensures ∙ message-sent w c.args.fun c.args.args.now (kind-of w c.args.desc.now c.args.fun same ∙ sym c.kind_in.ensures ∙ c.in-Send.is)

pub returns-in-Sense-clause-value : goal.returns-in-Sense-clause-value
returns-in-Sense-clause-value c = λ w same. message-none w c.args.fun c.args.args.now kind.Sense (kind-of w c.args.desc.now c.args.fun same ∙ sym c.kind_in.ensures ∙ c.in-Sense.is) refl

pub returns-in-Act-clause-value : goal.returns-in-Act-clause-value
returns-in-Act-clause-value c = λ w same. message-none w c.args.fun c.args.args.now (kind.Act c.in-Act.args) (kind-of w c.args.desc.now c.args.fun same ∙ sym c.kind_in.ensures ∙ c.in-Act.is) refl

pub returns-in-Id-clause-value : goal.returns-in-Id-clause-value
returns-in-Id-clause-value c = λ w same. message-none w c.args.fun c.args.args.now kind.Id (kind-of w c.args.desc.now c.args.fun same ∙ sym c.kind_in.ensures ∙ c.in-Id.is) refl

pub returns-in-Rand-clause-value : goal.returns-in-Rand-clause-value
returns-in-Rand-clause-value c = λ w same. message-none w c.args.fun c.args.args.now kind.Rand (kind-of w c.args.desc.now c.args.fun same ∙ sym c.kind_in.ensures ∙ c.in-Rand.is) refl

pub returns-in-Clock-clause-value : goal.returns-in-Clock-clause-value
returns-in-Clock-clause-value c = λ w same. message-none w c.args.fun c.args.args.now kind.Clock (kind-of w c.args.desc.now c.args.fun same ∙ sym c.kind_in.ensures ∙ c.in-Clock.is) refl
