use Rattle.std.proofs.Common.{length, Some, refl, sym, ap, subst, ◌∷◌, ◌∙◌, arith}
use Rattle.packet_codec.specs.declared.packet.Packet.{Packet}
use Rattle.packet_codec.specs.Packet.{IsRightPacket, IsRightStatus, IsRightFragment}
use Rattle.capsule_exchange.specs.Happenings.{Hears, asks_after, completed_by}
use Rattle.capsule_exchange.specs.Knowledge.{Knowledge, knowledge, Judges}
use Rattle.capsule_exchange.proofs.KnowledgeLemmas.{length-aimed_each, vector_learned, status_learned, fragment_learned, app_learned}
use Rattle.capsule_exchange.proofs.AnswerLemmas.{vector_judged, vector_asks, asks_right, completed_is}
use Rattle.capsule_exchange.proofs.SummaryLemmas.{status_image, fragment_marks, hold_one, hold_each}
use Rattle.capsule_exchange.proofs.progress.Progress.hear.Goals as goal

pub returns-in-Vector-clause-learned : goal.returns-in-Vector-clause-learned
returns-in-Vector-clause-learned c = λ n before was.
    vector_learned c.args.self.now c.hear_vector.new.self c.in-Vector.versions c.hear_vector.ensures.aimed n before was
    ∙ ap (λ (p : Packet). knowledge n (Hears p ∷ before)) (sym c.in-Vector.is)

pub returns-in-Vector-clause-consistent : goal.returns-in-Vector-clause-consistent
returns-in-Vector-clause-consistent c = λ n before was.
    subst (λ (p : Packet). Judges n p before (Some c.hear_vector.result)) (sym c.in-Vector.is) (vector_judged c.args.self.now c.in-Vector.versions c.hear_vector.result c.hear_vector.ensures.consistent n before was)

pub returns-in-Vector-clause-asks : goal.returns-in-Vector-clause-asks
returns-in-Vector-clause-asks c = λ n before was.
    vector_asks c.args.self.now c.hear_vector.new.self c.in-Vector.versions c.hear_vector.new.asks.items c.hear_vector.ensures.aimed c.hear_vector.ensures.sound c.hear_vector.ensures.asks n before was
    ∙ ap (λ (p : Packet). asks_after n p before) (sym c.in-Vector.is)

pub returns-in-Vector-clause-right : goal.returns-in-Vector-clause-right
returns-in-Vector-clause-right c =
    asks_right c.args.self.now c.hear_vector.new.self c.in-Vector.versions c.hear_vector.new.asks.items c.hear_vector.ensures.aimed c.hear_vector.ensures.sound c.hear_vector.ensures.asks

pub returns-in-Status-clause-learned : goal.returns-in-Status-clause-learned
returns-in-Status-clause-learned c = λ n before was.
    let right : IsRightStatus (length c.args.self.now.handlers) c.in-Status.handler.0 c.in-Status.version c.in-Status.missing = subst (IsRightPacket (length c.args.self.now.handlers)) c.in-Status.is c.requires.right in
    status_learned c.args.self.now c.hear_status.new.self c.in-Status.handler c.in-Status.version c.in-Status.missing right.handler_high c.hear_status.ensures n before was
    ∙ ap (λ (p : Packet). knowledge n (Hears p ∷ before)) (sym c.in-Status.is)

pub returns-in-Fragment-clause-learned : goal.returns-in-Fragment-clause-learned
returns-in-Fragment-clause-learned c = λ n before was.
    let f = c.in-Fragment in
    let right : IsRightFragment (length c.args.self.now.handlers) f.handler.0 f.version f.index f.count f.large f.bytes.items = subst (IsRightPacket (length c.args.self.now.handlers)) f.is c.requires.right in
    let few = right.count_high in
    let low = right.index_high in
    fragment_learned c.args.self.now c.hear_fragment.new.self f.handler f.version f.index f.count f.large f.bytes right.handler_high right.version_low (omega arith) c.hear_fragment.ensures.state n before was
    ∙ ap (λ (p : Packet). knowledge n (Hears p ∷ before)) (sym f.is)

pub returns-in-Fragment-clause-complete : goal.returns-in-Fragment-clause-complete
returns-in-Fragment-clause-complete c = λ n before was.
    let f = c.in-Fragment in
    let right : IsRightFragment (length c.args.self.now.handlers) f.handler.0 f.version f.index f.count f.large f.bytes.items = subst (IsRightPacket (length c.args.self.now.handlers)) f.is c.requires.right in
    let few = right.count_high in
    let low = right.index_high in
    let learned = fragment_learned c.args.self.now c.hear_fragment.new.self f.handler f.version f.index f.count f.large f.bytes right.handler_high right.version_low (omega arith) c.hear_fragment.ensures.state in
    c.completing-in-Fragment.ensures.complete
    ∙ completed_is c.args.self.now c.hear_fragment.new.self f.handler f.version f.index f.count f.large f.bytes c.hear_fragment.result right.handler_high c.hear_fragment.ensures.sound_before c.hear_fragment.ensures.sound learned c.hear_fragment.ensures.complete n before was
    ∙ ap (λ (p : Packet). completed_by p before) (sym f.is)

pub returns-in-App-clause-learned : goal.returns-in-App-clause-learned
returns-in-App-clause-learned c = λ n before was.
    app_learned c.args.self.now c.args.self.now c.in-App.payload refl n before was ∙ ap (λ (p : Packet). knowledge n (Hears p ∷ before)) (sym c.in-App.is)

pub returns-in-Vector-clause-handlers : goal.returns-in-Vector-clause-handlers
returns-in-Vector-clause-handlers c =
    ap (λ (k : Knowledge). length k.handlers) c.hear_vector.ensures.aimed ∙ length-aimed_each c.in-Vector.versions.items c.args.self.now.handlers

pub returns-in-Vector-clause-images : goal.returns-in-Vector-clause-images
returns-in-Vector-clause-images c = hold_each c.args.self.now c.hear_vector.new.self c.in-Vector.versions.items c.hear_vector.ensures.aimed

pub returns-in-Status-clause-images : goal.returns-in-Status-clause-images
returns-in-Status-clause-images c =
    let right : IsRightStatus (length c.args.self.now.handlers) c.in-Status.handler.0 c.in-Status.version c.in-Status.missing = subst (IsRightPacket (length c.args.self.now.handlers)) c.in-Status.is c.requires.right in
    hold_one c.args.self.now c.hear_status.new.self c.in-Status.handler.0 _ right.handler_high (ap (λ (k : Knowledge). k.handlers) c.hear_status.ensures) (status_image c.in-Status.version c.in-Status.missing _)

pub returns-in-Fragment-clause-images : goal.returns-in-Fragment-clause-images
returns-in-Fragment-clause-images c =
    let f = c.in-Fragment in
    let right : IsRightFragment (length c.args.self.now.handlers) f.handler.0 f.version f.index f.count f.large f.bytes.items = subst (IsRightPacket (length c.args.self.now.handlers)) f.is c.requires.right in
    hold_one c.args.self.now c.hear_fragment.new.self f.handler.0 _ right.handler_high (ap (λ (k : Knowledge). k.handlers) c.hear_fragment.ensures.state)
    (fragment_marks f.version f.index (record { count = f.count; large = f.large }) f.bytes _).image

pub returns-in-App-clause-images : goal.returns-in-App-clause-images
returns-in-App-clause-images c = λ h. refl
