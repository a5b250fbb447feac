-- Whether programs conflict is told by the resources that their code names.
use Rattle.std.proofs.Common.{◌≡◌, ◌⊎◌, ℕ, true, true≢false, [], ◌∷◌, ◌++◌, map, refl, sym, ap, subst, inl, inr, Option, None, Some}
use Rattle.std.specs.Prelude.{Contains, Decides, ◌&&◌, option_to_list}
use Rattle.std.proofs.lemmas.Bool.{eqb-true, or_cases}
use Rattle.std.proofs.lemmas.Bool.Decides.{Decides-and, Decides-or}
use Rattle.std.proofs.lemmas.List.Elements.{Contains-append_left, Contains-append_right}
use Rattle.lock_manager.specs.Conflict.{conflicts_at}
use Rattle.mate_num.specs.Uses.{Uses, uses, Conflicts, ConflictsAt, is_same_resource, is_same_device, is_device_of, function_shape}
use Rattle.mate_num.specs.declared.id.DeviceId.{DeviceId}
use Rattle.mate_num.specs.declared.resource.Resource.{Resource}
use Rattle.mate_num.specs.declared.resource.Resource.TheVariants.{Shared, Buffer, Device}
use Rattle.mate_num.specs.declared.shape.FunShape.{FunShape}
use Rattle.mate_num.specs.declared.shape.Shape.{Shape}
use Rattle.mate_code.specs.CodeUses.{use_of, reads_in, writes_in, uses_of}
use Rattle.mate_code.specs.Run.{Code}
use Rattle.mate_code.specs.declared.uses.Use.{Use}
use Rattle.mate_code.specs.declared.uses.Use.TheVariants.{Nothing, Gets, Changes, Calls, Sends}
use Rattle.audit_rules.specs.Granting.{TellsConflicts}
use Rattle.audit_rules.proofs.Members.{Contains-head, Contains-tail, any-has, has-any}
use Rattle.audit_rules.specs.CodeMeaning.{CodeOf, meaning_with, device_cells, named_by, named_in, code_conflict, conflict_with}

-- the same resource
same-resource : (a b : Resource) → is_same_resource a b ≡ true → a ≡ b
same-resource (Shared v) (Shared w) is = ap (λ (n : ℕ). Shared (record { 0 = n })) (eqb-true v.0 w.0 is)
same-resource (Shared v) (Buffer b) is = absurd (true≢false (sym is))
same-resource (Shared v) (Device d) is = absurd (true≢false (sym is))
same-resource (Buffer b) (Shared w) is = absurd (true≢false (sym is))
same-resource (Buffer b) (Buffer c) is = ap (λ (n : ℕ). Buffer (record { 0 = n })) (eqb-true b.0 c.0 is)
same-resource (Buffer b) (Device d) is = absurd (true≢false (sym is))
same-resource (Device d) (Shared w) is = absurd (true≢false (sym is))
same-resource (Device d) (Buffer b) is = absurd (true≢false (sym is))
same-resource (Device d) (Device e) is = ap (λ (n : ℕ). Device (record { 0 = n })) (eqb-true d.0 e.0 is)

-- the device of a function is among its cells
same-device : (d : Option DeviceId) (r : Resource) → is_same_device d r ≡ true → (f : FunShape) → f.device ≡ d → Contains (device_cells (Some f)) r
same-device None r is f e = absurd (true≢false (sym is))
same-device (Some d) r is f e = subst (λ (o : Option DeviceId). Contains (map Device (option_to_list o)) r) (sym e) (Contains-head (Device d) [] r (same-resource (Device d) r is))

device-named : (o : Option FunShape) (r : Resource) → is_device_of o r ≡ true → Contains (device_cells o) r
device-named None r is = absurd (true≢false (sym is))
device-named (Some f) r is = same-device f.device r is f refl

-- what an instruction reads or writes, it names
use-named : (shape : Shape) (u : Use) (r : Resource) → (reads_in u r ≡ true) ⊎ (writes_in shape u r ≡ true) → Contains (named_by shape u) r
use-named shape Nothing r (inr is) = absurd (true≢false (sym is))
use-named shape (Gets c) r (inl is) = Contains-head c [] r (same-resource c r is)
use-named shape (Gets c) r (inr is) = absurd (true≢false (sym is))
use-named shape (Changes c) r (inr is) = Contains-head c [] r (same-resource c r is)
use-named shape (Calls f) r (inr is) = device-named (function_shape shape f) r is
use-named shape (Sends f b) r (inl is) = Contains-head (Buffer b) (device_cells (function_shape shape f)) r (same-resource (Buffer b) r is)
use-named shape (Sends f b) r (inr is) = Contains-tail (Buffer b) (device_cells (function_shape shape f)) r (device-named (function_shape shape f) r is)
use-named shape _ r (inl is) = absurd (true≢false (sym is))

writes-named : (shape : Shape) (code : Code) (r : Resource) → (uses_of shape code).writes r ≡ true → Contains (named_in shape code) r
writes-named shape [] r is = absurd (true≢false (sym is))
writes-named shape (p ∷ code) r is = elim (or_cases (writes_in shape (use_of p.1) r) ((uses_of shape code).writes r) is) [
  | inl here ↦ Contains-append_left (named_by shape (use_of p.1)) (named_in shape code) r (use-named shape (use_of p.1) r (inr here))
  | inr later ↦ Contains-append_right (named_by shape (use_of p.1)) (named_in shape code) r (writes-named shape code r later)
]

at-Decides : (a b : Uses) (r : Resource) → Decides (conflicts_at a b r) (ConflictsAt a b r)
at-Decides a b r =
    Decides-or (a.writes r && uses b r) (b.writes r && uses a r)
    (Decides-and (a.writes r) (uses b r) (λ e. e, λ e. e) (λ e. e, λ e. e))
    (Decides-and (b.writes r) (uses a r) (λ e. e, λ e. e) (λ e. e, λ e. e))

pub code-TellsConflicts : (shape : Shape) (code : CodeOf) → TellsConflicts (meaning_with shape code) (conflict_with shape code)
code-TellsConflicts shape code p q = (there, back) where
  there : code_conflict shape (code p) (code q) ≡ true → Conflicts (uses_of shape (code p)) (uses_of shape (code q))
  there is =
      let g = has-any (conflicts_at (uses_of shape (code p)) (uses_of shape (code q))) (named_in shape (code p) ++ named_in shape (code q)) is in
      record { resource = g.0; at = (at-Decides (uses_of shape (code p)) (uses_of shape (code q)) g.0).0 g.2 }

  named : (r : Resource) → ConflictsAt (uses_of shape (code p)) (uses_of shape (code q)) r → Contains (named_in shape (code p) ++ named_in shape (code q)) r
  named r (inl x) = Contains-append_left (named_in shape (code p)) (named_in shape (code q)) r (writes-named shape (code p) r x.0)
  named r (inr x) = Contains-append_right (named_in shape (code p)) (named_in shape (code q)) r (writes-named shape (code q) r x.0)

  back : Conflicts (uses_of shape (code p)) (uses_of shape (code q)) → code_conflict shape (code p) (code q) ≡ true
  back c =
      any-has (conflicts_at (uses_of shape (code p)) (uses_of shape (code q))) (named_in shape (code p) ++ named_in shape (code q)) c.resource (named c.resource c.at)
      ((at-Decides (uses_of shape (code p)) (uses_of shape (code q)) c.resource).1 c.at)
