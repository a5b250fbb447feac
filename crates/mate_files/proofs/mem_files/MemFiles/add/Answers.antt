-- The map's change at the key's bytes, read through the bytes of each value.
use Rattle.std.proofs.Common.{◌≡◌, ℕ, List, refl, ap, ◌∙◌, string_bytes, Bool, true, false, cond, Some}
use Rattle.std.specs.declared.option.Option.{Option}
use Rattle.std.specs.Global.{Vec}
use Rattle.std.specs.Option.{option_map}
use Rattle.std.specs.Str.{bytes_eq}
use Rattle.std.proofs.lemmas.Map.Text.{btree_map_updates_text}
use Rattle.mate_files.specs.MemFiles.{names_of}
use Rattle.mate_files.proofs.mem_files.MemFiles.add.Goals as goal

option_map-cond : {A B : Type 0} (f : A → B) (b : Bool) (x y : Option A)
    → option_map f (cond b x y) ≡ cond b (option_map f x) (option_map f y)
option_map-cond f true x y = refl
option_map-cond f false x y = refl

pub returns-in-Ok-insert-clause-ok : goal.returns-in-Ok-insert-clause-ok
returns-in-Ok-insert-clause-ok c = λ other.
    let bytes_of : Vec ℕ → List ℕ = λ v. v.items in
    let value = c.in-Ok-from_slice.value in
    let updated = btree_map_updates_text (string_bytes c.in-Ok.key) c.args.self.now.names c.insert.new.self (Some value) c.in-Ok-insert.ensures.updates other in
    let same_key = ap (λ bs. cond (bytes_eq bs other) (Some (bytes_of value)) (names_of c.args.self.now other)) c.in-Ok.ensures.ok in
    let same_value = ap (λ bs. cond (bytes_eq c.args.name.now other) (Some bs) (names_of c.args.self.now other)) c.in-Ok-from_slice.ensures.items in
    ap (option_map bytes_of) updated ∙ option_map-cond bytes_of _ _ _ ∙ same_key ∙ same_value
