use Rattle.std.proofs.Common.{ℕ, List, [], ◌∷◌, ◌++◌, take, get_or, sym, subst}
use Rattle.std.proofs.lemmas.List.{take_more, take_all}
use Rattle.slip_gateway.specs.Fed.{IsBehind}
use Rattle.slip_gateway.specs.declared.slip.Slip.{Slip}
use Rattle.slip_gateway.proofs.FedLemmas.{IsBehind-fresh, IsBehind-pushed}
use Rattle.slip_gateway.proofs.slip.Slip.read_piece.Goals as goal

pub loop-byte-init : goal.loop-byte-init
loop-byte-init c = subst (λ (s : Slip). IsBehind s []) (sym c.clear.ensures) IsBehind-fresh

pub loop-byte-preserved : goal.loop-byte-preserved
loop-byte-preserved c =
    let bytes = c.args.piece.now in
    let i = c.loop-byte.byte-index in
    let next = IsBehind-pushed c.loop-byte.self (take i bytes) (get_or bytes i 0) c.loop-byte.invariant in
    subst (λ (read : List ℕ). IsBehind c.push.new.self read) (sym (take_more bytes i 0 c.loop-byte-test.true)) (subst (λ (s : Slip). IsBehind s (take i bytes ++ get_or bytes i 0 ∷ [])) (sym c.push.ensures) next)

pub returns : goal.returns
returns c =
    subst (λ (read : List ℕ). IsBehind c.loop-byte.self read) (take_all c.loop-byte.byte-index c.args.piece.now c.loop-byte-test.false) c.loop-byte.invariant
