-- Declarations, one after another.
use Rattle.std.proofs.Common.{◌≡◌, ℕ, ◌+◌, ◌<◌, List, length, drop, get_or, Ok, Err, ap, ◌∙◌}
use Rattle.ts_trees.specs.declared.script.Decl.{Decl}
use Rattle.ts_checked.proofs.ListLemmas.{drop_item}
use Rattle.ts_checker.specs.declared.fault.CheckFault.{CheckFault}
use Rattle.mate_num.specs.Results.{◌>>=◌}
use Rattle.ts_checker.specs.Names.{ScriptNames, declare, declare_all}

-- a declaration is refused
pub decls_refused : (n : ScriptNames) (ds : List Decl) (i : ℕ) (d : Decl) (fault : CheckFault) → i < length ds → d ≡ get_or ds i d → declare n d ≡ Err fault
    → declare_all n (drop i ds) ≡ Err fault
decls_refused n ds i d fault within item refused =
    ap (declare_all n) (drop_item ds i d within item) ∙ ap (λ r. r >>= (λ m. declare_all m (drop (i + 1) ds))) refused

-- a declaration is made
pub decls_after : (n m : ScriptNames) (ds : List Decl) (i : ℕ) (d : Decl) → i < length ds → d ≡ get_or ds i d → declare n d ≡ Ok m
    → declare_all n (drop i ds) ≡ declare_all m (drop (i + 1) ds)
decls_after n m ds i d within item made =
    ap (declare_all n) (drop_item ds i d within item) ∙ ap (λ r. r >>= (λ m. declare_all m (drop (i + 1) ds))) made
