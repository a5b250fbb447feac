-- What keeps the declared names few.
use Rattle.std.specs.Prelude.{◌≤◌, ℕ, Bool, true, List, map, bytes_eq, IsTrue}
use Rattle.std.specs.List.{IsDistinct, list_all}
use Rattle.mate_num.specs.declared.bounds.TheConstants.{PRIVATES}
use Rattle.vm_shape.specs.Names.{stands_in}
use Rattle.vm_shape.specs.declared.description.Description.{Description}
use Rattle.ts_checked.specs.declared.checked_stmt.CVar.TheVariants.{Shared, Private}
use Rattle.ts_checker.specs.declared.scope.Symbol.{Symbol}
use Rattle.ts_checker.specs.declared.scope.Symbol.TheVariants.{Variable, Buffer}
use Rattle.ts_checker.specs.declared.scope.Entry.{Entry}
use Rattle.ts_checker.specs.Names.{private_count}

-- a shared variable or a buffer has one of the machine's names
abbrev pub is_listed : Description → Symbol → List ℕ → Bool
is_listed d (Variable (Shared v)) name = stands_in d.shared.items name
is_listed d (Variable (Private i)) name = true
is_listed d (Buffer p) name = stands_in d.buffers.items name

-- no name is there twice, each is the machine's or private, and at most 8 are private
pub record IsFit (d : Description) (names : List Entry) : Type 0 where
  pub distinct : IsDistinct bytes_eq (map (λ x. x.name) names)
  pub listed : IsTrue (list_all (λ x. is_listed d x.symbol x.name) names)
  pub privates : private_count names ≤ PRIVATES
