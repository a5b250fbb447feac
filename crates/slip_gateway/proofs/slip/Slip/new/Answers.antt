use Rattle.std.proofs.Common.{ℕ, List, [], false, ap, sym, subst}
use Rattle.arrayvec.specs.ArrayVec.{ArrayVec}
use Rattle.slip_gateway.specs.Fed.{IsBehind}
use Rattle.slip_gateway.specs.declared.slip.Escapes.TheVariants.{Whole}
use Rattle.slip_gateway.proofs.FedLemmas.{IsBehind-fresh}
use Rattle.slip_gateway.proofs.slip.Slip.new.Goals as goal

pub returns-clause-fed : goal.returns-clause-fed
returns-clause-fed c =
    let image : List ℕ → ArrayVec ℕ = λ xs. record { items = xs } in
    let P : ArrayVec ℕ → Type 0 = λ a. IsBehind (record { image = a; too_long = false; escapes = Whole }) [] in
    record { behind = subst P (ap image (sym c.new.ensures)) IsBehind-fresh }
