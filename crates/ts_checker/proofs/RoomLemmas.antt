-- At most 32 names are ever declared: none is there twice, and each is the machine's or one of at most 8 private ones.
use Rattle.std.proofs.Common.{◌≡◌, ℕ, ◌+◌, ◌<◌, ◌≤◌, nat_lt, Bool, true, false, cond, ◌||◌, List, [], ◌∷◌, ◌++◌, length, map, Option, Some, None, Result, Ok, refl, ap, sym, ◌∙◌, subst, arith, length-append, ◌⊎◌, inl, inr}
use Rattle.std.specs.Prelude.{IfOk, bytes_eq, is_none, position, ok_or, if◌then◌else◌}
use Rattle.std.specs.List.{IsDistinct, list_all, list_any}
use Rattle.std.specs.Cmp.Lexicographic.{nat_list_eq_equiv}
use Rattle.std.proofs.lemmas.Bool.{and_parts}
use Rattle.std.proofs.lemmas.Bool.Decides.{nat_tests}
use Rattle.std.proofs.lemmas.List.{map-append, length-map}
use Rattle.std.proofs.lemmas.List.Folds.{list_all-append, list_any-append, list_any_at}
use Rattle.std.proofs.lemmas.List.Quantifiers.{position-Some}
use Rattle.std.proofs.lemmas.List.Sums.{sum_by-cons, sum_by_push}
use Rattle.std.proofs.lemmas.Map.Keys.{IsDistinct-push}
use Rattle.std.proofs.lemmas.Map.Made.{length-le_from_is_member}
use Rattle.std.proofs.lemmas.Map.Steps.{list_any_congr}
use Rattle.vm_shape.specs.Bounds.{HasBounds}
use Rattle.vm_shape.proofs.DescriptionLemmas.{bounds_of}
use Rattle.vm_shape.specs.declared.description.Description.{Description}
use Rattle.ts_trees.specs.declared.script.DeclKind.{DeclKind}
use Rattle.ts_trees.specs.declared.script.DeclKind.TheVariants as of
use Rattle.ts_checked.specs.declared.checked_stmt.CVar.TheVariants.{Shared, Private}
use Rattle.ts_checker.specs.declared.scope.Symbol.{Symbol}
use Rattle.ts_checker.specs.declared.scope.Symbol.TheVariants.{Variable, Buffer}
use Rattle.ts_checker.specs.declared.scope.Entry.{Entry}
use Rattle.ts_checker.specs.declared.fault.CheckFault.{CheckFault}
use Rattle.ts_checker.specs.declared.fault.CheckFault.TheVariants.{NotInVm, TooManyPrivates}
use Rattle.ts_checker.specs.Refusal.{unless_refused}
use Rattle.ts_checker.specs.Names.{ScriptNames, is_private_symbol, private_count, symbol_of, listed, made}
use Rattle.ts_checker.specs.Room.{is_listed, IsFit}
use Rattle.ts_checker.proofs.CheckLemmas.{bind_keeps, demand_holds}

abbrev has : List (List ℕ) → List ℕ → Bool
has names q = list_any (bytes_eq q) names

abbrev names_in : List Entry → List (List ℕ)
names_in xs = map (λ (x : Entry). x.name) xs

-- the names before, and this one where it is private
abbrev and_private : Symbol → List ℕ → List (List ℕ) → List (List ℕ)
and_private s name names = cond (is_private_symbol s) (name ∷ names) names

abbrev private_names : List Entry → List (List ℕ)
private_names [] = []
private_names (x ∷ xs) = and_private x.symbol x.name (private_names xs)

length-private_names : (xs : List Entry) → length (private_names xs) ≡ private_count xs
length-private_names [] = refl
length-private_names (x ∷ xs) =
    counted (is_private_symbol x.symbol) ∙ ap (λ k. cond (is_private_symbol x.symbol) 1 0 + k) (length-private_names xs) ∙ sym (sum_by-cons (λ (x : Entry). cond (is_private_symbol x.symbol) 1 0) x xs) where
      counted : (b : Bool) → length (cond b (x.name ∷ private_names xs) (private_names xs)) ≡ cond b 1 0 + length (private_names xs)
      counted true = omega arith
      counted false = omega arith

-- a name is the machine's, or one of these
abbrev IsAmong : Description → List (List ℕ) → List ℕ → Type 0
IsAmong d names q = (has d.shared.items q ≡ true) ⊎ ((has d.buffers.items q ≡ true) ⊎ (has names q ≡ true))

this_among : (d : Description) (s : Symbol) (name q : List ℕ) (names : List (List ℕ)) → bytes_eq q name ≡ true → is_listed d s name ≡ true → IsAmong d (and_private s name names) q
this_among d (Variable (Shared v)) name q names same there = inl (list_any_congr nat_list_eq_equiv q name d.shared.items same ∙ there)
this_among d (Variable (Private i)) name q names same there = inr (inr (rw same refl))
this_among d (Buffer p) name q names same there = inr (inl (list_any_congr nat_list_eq_equiv q name d.buffers.items same ∙ there))

or_true : (a b : Bool) → b ≡ true → (a || b) ≡ true
or_true true b h = refl
or_true false b h = h

more_has : (b : Bool) (name q : List ℕ) (names : List (List ℕ)) → has names q ≡ true → has (cond b (name ∷ names) names) q ≡ true
more_has true name q names h = or_true (bytes_eq q name) (has names q) h
more_has false name q names h = h

later_among : (d : Description) (s : Symbol) (name q : List ℕ) (names : List (List ℕ)) → IsAmong d names q → IsAmong d (and_private s name names) q
later_among d s name q names (inl h) = inl h
later_among d s name q names (inr (inl h)) = inr (inl h)
later_among d s name q names (inr (inr h)) = inr (inr (more_has (is_private_symbol s) name q names h))

or_cases : (a b : Bool) → (a || b) ≡ true → (a ≡ true) ⊎ (b ≡ true)
or_cases true b h = inl refl
or_cases false b h = inr h

each_among : (d : Description) (xs : List Entry) (q : List ℕ) → list_all (λ (x : Entry). is_listed d x.symbol x.name) xs ≡ true → has (names_in xs) q ≡ true
    → IsAmong d (private_names xs) q
each_among d [] q all there = cc
each_among d (x ∷ xs) q all there =
    let (here, more) = and_parts (is_listed d x.symbol x.name) (list_all (λ (x : Entry). is_listed d x.symbol x.name) xs) all in
    told here (λ h. each_among d xs q more h) (or_cases (bytes_eq q x.name) (has (names_in xs) q) there) where
      told : is_listed d x.symbol x.name ≡ true → (has (names_in xs) q ≡ true → IsAmong d (private_names xs) q)
          → (bytes_eq q x.name ≡ true) ⊎ (has (names_in xs) q ≡ true) → IsAmong d (private_names (x ∷ xs)) q
      told here again (inl same) = this_among d x.symbol x.name q (private_names xs) same here
      told here again (inr h) = later_among d x.symbol x.name q (private_names xs) (again h)

abbrev all_names : Description → List (List ℕ) → List (List ℕ)
all_names d names = d.shared.items ++ (d.buffers.items ++ names)

has-all_names : (d : Description) (names : List (List ℕ)) (q : List ℕ) → IsAmong d names q → has (all_names d names) q ≡ true
has-all_names d names q (inl h) = list_any-append (bytes_eq q) d.shared.items (d.buffers.items ++ names) ∙ rw h refl
has-all_names d names q (inr (inl h)) =
    list_any-append (bytes_eq q) d.shared.items (d.buffers.items ++ names)
    ∙ or_true (has d.shared.items q) (has (d.buffers.items ++ names) q) (list_any-append (bytes_eq q) d.buffers.items names ∙ rw h refl)
has-all_names d names q (inr (inr h)) =
    list_any-append (bytes_eq q) d.shared.items (d.buffers.items ++ names)
    ∙ or_true (has d.shared.items q) (has (d.buffers.items ++ names) q)
    (list_any-append (bytes_eq q) d.buffers.items names ∙ or_true (has d.buffers.items q) (has names q) h)

-- names that fit are at most 32
length-fit : (d : Description) (xs : List Entry) → IsFit d xs → length xs ≤ 32
length-fit d xs fit =
    let few : length (names_in xs) ≤ length (all_names d (private_names xs)) =
    length-le_from_is_member nat_list_eq_equiv (names_in xs) (all_names d (private_names xs)) fit.distinct
    (λ q there. has-all_names d (private_names xs) q (each_among d xs q fit.listed there)) in
    let b : HasBounds d = bounds_of d in
    let whole : length (all_names d (private_names xs)) ≡ length d.shared.items + (length d.buffers.items + length (private_names xs)) =
    length-append d.shared.items (d.buffers.items ++ private_names xs) ∙ ap (λ k. length d.shared.items + k) (length-append d.buffers.items (private_names xs)) in
    let names : length (names_in xs) ≡ length xs = length-map xs (λ (x : Entry). x.name) in
    let privates : length (private_names xs) ≡ private_count xs = length-private_names xs in
    let most : private_count xs ≤ 8 = fit.privates in
    let shared : length d.shared.items ≤ 16 = b.shared_high in
    let buffers : length d.buffers.items ≤ 8 = b.buffers_high in
    omega arith

-- a name that isn't declared stands in none of the declared ones
absent : (xs : List Entry) (name : List ℕ) → is_none (symbol_of xs name) ≡ true → has (names_in xs) name ≡ false
absent [] name none = refl
absent (x ∷ xs) name none = told (bytes_eq name x.name) none (absent xs name) where
  told : (b : Bool) → is_none (if b then Some x.symbol else symbol_of xs name) ≡ true
      → (is_none (symbol_of xs name) ≡ true → has (names_in xs) name ≡ false) → (b || has (names_in xs) name) ≡ false
  told true none again = cc
  told false none again = again none

-- a name with a place in a list stands in it
listed-stands : (names : List (List ℕ)) (name : List ℕ) → IfOk (listed names name) (λ _. has names name ≡ true)
listed-stands names name = told (position (bytes_eq name) names) refl where
  told : (o : Option ℕ) → position (bytes_eq name) names ≡ o → IfOk (ok_or o (NotInVm name)) (λ _. has names name ≡ true)
  told None e = tt
  told (Some i) e =
      let at = position-Some (bytes_eq name) names i [] e in
      list_any_at (bytes_eq name) names i [] at.0 at.1

-- what a declaration makes of its name: the machine's, or one more private variable
record IsMade (n : ScriptNames) (name : List ℕ) (s : Symbol) : Type 0 where
  pub listed : is_listed n.machine s name ≡ true
  pub private : is_private_symbol s ≡ true → private_count n.declared < 8

made-fit : (n : ScriptNames) (kind : DeclKind) (name : List ℕ) → IfOk (made n kind name) (IsMade n name)
made-fit n of.Shared name =
    bind_keeps (λ _. has n.machine.shared.items name ≡ true) (IsMade n name) (listed n.machine.shared.items name) _
    (listed-stands n.machine.shared.items name) (λ i there. record { listed = there; private = λ e. cc })
made-fit n of.Private name =
    bind_keeps (λ _. nat_lt (private_count n.declared) 8 ≡ true) (IsMade n name) (unless_refused (nat_lt (private_count n.declared) 8) TooManyPrivates) _
    (demand_holds _ _) (λ _ few. record { listed = refl; private = λ e. grind (arith, nat_tests) })
made-fit n of.Buffer name =
    bind_keeps (λ _. has n.machine.buffers.items name ≡ true) (IsMade n name) (listed n.machine.buffers.items name) _
    (listed-stands n.machine.buffers.items name) (λ i there. record { listed = there; private = λ e. cc })

-- the names so far and a new one fit
fit_more : (n : ScriptNames) (name : List ℕ) (s : Symbol) → IsFit n.machine n.declared → is_none (symbol_of n.declared name) ≡ true → IsMade n name s
    → IsFit n.machine (n.declared ++ record { name = name; symbol = s } ∷ [])
fit_more n name s fit none made =
    let entry : Entry = record { name = name; symbol = s } in
    let names : names_in (n.declared ++ entry ∷ []) ≡ names_in n.declared ++ name ∷ [] = map-append (λ (x : Entry). x.name) n.declared (entry ∷ []) in
    let apart : IsDistinct bytes_eq (names_in n.declared ++ name ∷ []) =
    IsDistinct-push nat_list_eq_equiv (names_in n.declared) name fit.distinct (absent n.declared name none) in
    let count : private_count (n.declared ++ entry ∷ []) ≡ private_count n.declared + cond (is_private_symbol s) 1 0 =
    sum_by_push (λ (x : Entry). cond (is_private_symbol x.symbol) 1 0) n.declared entry in
    record {
      distinct = (let P : List (List ℕ) → Type 0 = λ names. IsDistinct bytes_eq names in subst P (sym names) apart);
      listed = list_all-append (λ (x : Entry). is_listed n.machine x.symbol x.name) n.declared (entry ∷ []) ∙ rw (fit.listed, made.listed) refl;
      privates = rw count (few (is_private_symbol s) made.private fit.privates);
    } where
      few : (b : Bool) → (b ≡ true → private_count n.declared < 8) → private_count n.declared ≤ 8 → private_count n.declared + cond b 1 0 ≤ 8
      few true h most = (let less : private_count n.declared < 8 = h refl in omega arith)
      few false h most = omega arith

-- no names fit
fit_empty : (d : Description) → IsFit d []
unfolding IsDistinct
fit_empty d = record { distinct = tt; listed = refl; privates = omega arith }

pub fit_none : (d : Description) (xs : List Entry) → xs ≡ [] → IsFit d xs
fit_none d xs e = let P : List Entry → Type 0 = IsFit d in subst P (sym e) (fit_empty d)

-- a name that is new and was made something of, as it is copied into the list
pub fit_made : (n : ScriptNames) (kind : DeclKind) (name copy : List ℕ) (s : Symbol) (xs : List Entry) → IsFit n.machine n.declared
    → is_none (symbol_of n.declared name) ≡ true → made n kind name ≡ Ok s → copy ≡ name → xs ≡ n.declared ++ record { name = copy; symbol = s } ∷ [] → IsFit n.machine xs
fit_made n kind name copy s xs fit none made_so same pushed =
    let P : Result Symbol CheckFault → Type 0 = λ r. IfOk r (IsMade n name) in
    let Q : List Entry → Type 0 = IsFit n.machine in
    let all : xs ≡ n.declared ++ record { name = name; symbol = s } ∷ [] = pushed ∙ ap (λ (z : List ℕ). n.declared ++ record { name = z; symbol = s } ∷ []) same in
    subst Q (sym all) (fit_more n name s fit none (subst P made_so (made-fit n kind name)))

-- there is room for it
pub room_made : (n : ScriptNames) (kind : DeclKind) (name : List ℕ) (s : Symbol) → IsFit n.machine n.declared → is_none (symbol_of n.declared name) ≡ true
    → made n kind name ≡ Ok s → length n.declared < 32
room_made n kind name s fit none made_so =
    let entry : Entry = record { name = name; symbol = s } in
    let after : IsFit n.machine (n.declared ++ entry ∷ []) = fit_made n kind name name s (n.declared ++ entry ∷ []) fit none made_so refl refl in
    let most : length (n.declared ++ entry ∷ []) ≤ 32 = length-fit n.machine (n.declared ++ entry ∷ []) after in
    let one : length (n.declared ++ entry ∷ []) ≡ length n.declared + length (entry ∷ []) = length-append n.declared (entry ∷ []) in
    omega arith
