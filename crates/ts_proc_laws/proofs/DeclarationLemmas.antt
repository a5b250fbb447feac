-- The names of a script with procedures and those of its expansion: what each names.
use Rattle.std.proofs.Common.{◌≡◌, ℕ, zero, suc, ◌+◌, ◌<◌, ◌≤◌, ℤ, Bool, true, false, cond, List, [], ◌∷◌, ◌++◌, length, Option, Some, None, Result, Ok, Err, refl, ap, sym, ◌∙◌, subst, arith, inl, inr, ◌⊎◌}
use Rattle.std.specs.Prelude.{⊤, ◌==◌, ◌&&◌, nat_lt, is_none, if◌then◌else◌, bytes_eq, ok_or, decimal}
use Rattle.std.specs.List.{position_from}
use Rattle.std.proofs.lemmas.Bool.Decides.{nat_tests}
use Rattle.std.proofs.lemmas.Slice.Eq.{bytes_eq-Decides}
use Rattle.std.proofs.lemmas.List.Sums.{sum_by_push}
use Rattle.mate_num.specs.declared.id.BufId.{BufId}
use Rattle.vm_shape.specs.declared.description.Description.{Description}
use Rattle.ts_trees.specs.declared.word.Word.{Word}
use Rattle.ts_trees.specs.declared.script.Decl.{Decl}
use Rattle.ts_trees.specs.declared.script.DeclKind.{DeclKind}
use Rattle.ts_trees.specs.declared.script.DeclKind.TheVariants as of
use Rattle.ts_checked.specs.declared.checked_stmt.CVar.TheVariants as var
use Rattle.ts_checker.specs.declared.scope.Symbol.{Symbol}
use Rattle.ts_checker.specs.declared.scope.Symbol.TheVariants.{Variable, Buffer}
use Rattle.ts_checker.specs.declared.scope.Entry.{Entry}
use Rattle.ts_checker.specs.declared.fault.CheckFault.{CheckFault}
use Rattle.ts_checker.specs.declared.fault.CheckFault.TheVariants.{Twice, TooManyPrivates, Undeclared}
use Rattle.mate_num.specs.Results.{◌>>=◌}
use Rattle.ts_checker.specs.Refusal.{unless_refused}
use Rattle.ts_checker.specs.Names.{ScriptNames, symbol_of, is_private_symbol, private_count, listed, made, with_name, declare, declare_all, as_variable, as_buffer, variable, function}
use Rattle.ts_proc_names.specs.declared.fault.ProcFault.TheVariants.{Reserved}
use Rattle.ts_proc_names.specs.NameFaults.{is_reserved, refused_if, word_fault}
use Rattle.ts_proc_renaming.specs.Renaming.{parameter_name, renamed_as, renamed, nothing_hidden, parameter_decls}
use Rattle.ts_proc_laws.specs.Frames.{parameter_entries, names_within}
use Rattle.ts_proc_laws.proofs.StateLemmas.{Layout}
use Rattle.ts_proc_laws.proofs.EvaluationLemmas.{SameVariable}
use Rattle.ts_proc_laws.proofs.CheckLemmas.{Comes, Equals, NamesAgree}

abbrev pub entry : List ℕ → Symbol → Entry
entry name s = record { name = name; symbol = s }

-- ---- names behind others

found_before : (xs ys : List Entry) (name : List ℕ) (s : Symbol) → symbol_of xs name ≡ Some s → symbol_of (xs ++ ys) name ≡ Some s
found_before [] ys name s e = absurd (cc)
found_before (x ∷ xs) ys name s e = by (bytes_eq name x.name) (found_before xs ys name s) e where
  by : (b : Bool) → (symbol_of xs name ≡ Some s → symbol_of (xs ++ ys) name ≡ Some s) → (if b then Some x.symbol else symbol_of xs name) ≡ Some s
      → (if b then Some x.symbol else symbol_of (xs ++ ys) name) ≡ Some s
  by true rest e = e
  by false rest e = rest e

found_behind : (xs ys : List Entry) (name : List ℕ) → symbol_of xs name ≡ None → symbol_of (xs ++ ys) name ≡ symbol_of ys name
found_behind [] ys name e = refl
found_behind (x ∷ xs) ys name e = by (bytes_eq name x.name) (found_behind xs ys name) e where
  by : (b : Bool) → (symbol_of xs name ≡ None → symbol_of (xs ++ ys) name ≡ symbol_of ys name) → (if b then Some x.symbol else symbol_of xs name) ≡ None
      → (if b then Some x.symbol else symbol_of (xs ++ ys) name) ≡ symbol_of ys name
  by true rest e = absurd (cc)
  by false rest e = rest e

-- one more name, which is another one
another_name : (xs : List Entry) (k name : List ℕ) (s : Symbol) → bytes_eq name k ≡ false → symbol_of (xs ++ entry k s ∷ []) name ≡ symbol_of xs name
another_name [] k name s e = ap (λ (b : Bool). if b then Some s else None) e
another_name (x ∷ xs) k name s e = ap (λ (o : Option Symbol). if bytes_eq name x.name then Some x.symbol else o) (another_name xs k name s e)

same_name : (name : List ℕ) → bytes_eq name name ≡ true
same_name name = (bytes_eq-Decides name name).1 refl

-- what was found was there before, or is the new name
was_or_is : (xs : List Entry) (k name : List ℕ) (s t : Symbol) → symbol_of (xs ++ entry k s ∷ []) name ≡ Some t → (symbol_of xs name ≡ Some t) ⊎ (s ≡ t)
was_or_is [] k name s t e = by (bytes_eq name k) e where
  by : (b : Bool) → (if b then Some s else None) ≡ Some t → (None ≡ Some t) ⊎ (s ≡ t)
  by true e = inr (cc)
  by false e = inl e
was_or_is (x ∷ xs) k name s t e = by (bytes_eq name x.name) (was_or_is xs k name s t) e where
  by : (b : Bool) → (symbol_of (xs ++ entry k s ∷ []) name ≡ Some t → (symbol_of xs name ≡ Some t) ⊎ (s ≡ t))
      → (if b then Some x.symbol else symbol_of (xs ++ entry k s ∷ []) name) ≡ Some t → ((if b then Some x.symbol else symbol_of xs name) ≡ Some t) ⊎ (s ≡ t)
  by true rest e = inl e
  by false rest e = rest e

count_more : (xs : List Entry) (name : List ℕ) (s : Symbol) → private_count (xs ++ entry name s ∷ []) ≡ private_count xs + cond (is_private_symbol s) 1 0
count_more xs name s = sum_by_push (λ (x : Entry). cond (is_private_symbol x.symbol) 1 0) xs (entry name s)

-- ---- checks one after another

pub record DoneBefore {A B : Type 0} (r : Result A CheckFault) (next : A → Result B CheckFault) (b : B) : Type 0 where
  pub value : A
  pub first : r ≡ Ok value
  pub second : next value ≡ Ok b

pub done_before : {A B : Type 0} (r : Result A CheckFault) (next : A → Result B CheckFault) (b : B) → (r >>= next) ≡ Ok b → DoneBefore r next b
done_before (Ok a) next b e = record { value = a; first = refl; second = e }
done_before (Err f) next b e = absurd (cc)

pub declare_all-append : (n : ScriptNames) (ds es : List Decl) → declare_all n (ds ++ es) ≡ (declare_all n ds >>= (λ m. declare_all m es))
declare_all-append n [] es = refl
declare_all-append n (d ∷ ds) es = by (λ m. declare_all-append m ds es) (declare n d) where
  by : ((m : ScriptNames) → declare_all m (ds ++ es) ≡ (declare_all m ds >>= (λ m. declare_all m es))) → (r : Result ScriptNames CheckFault) → (r >>= (λ m. declare_all m (ds ++ es))) ≡ ((r >>= (λ m. declare_all m ds)) >>= (λ m. declare_all m es))
  by rest (Ok m) = rest m
  by rest (Err e) = refl

passed : (b : Bool) (e : CheckFault) (u : ⊤) → unless_refused b e ≡ Ok u → b ≡ true
passed true e u h = refl
passed false e u h = absurd (cc)

none_found : (o : Option Symbol) → is_none o ≡ true → o ≡ None
none_found None e = refl
none_found (Some s) e = absurd (cc)

-- ---- the script's own names

-- a symbol that a declaration made: a private variable has the next number, and there are at most eight
abbrev pub MadeRight : ℕ → Result Symbol CheckFault → Type 0
MadeRight count (Ok (Variable (var.Private i))) = (i ≡ count) × (count < 8)
MadeRight count _ = ⊤

made_right : (n : ScriptNames) (kind : DeclKind) (name : List ℕ) → MadeRight (private_count n.declared) (made n kind name)
made_right n of.Shared name = by (listed n.machine.shared.items name) where
  by : (r : Result ℕ CheckFault) → MadeRight (private_count n.declared) (r >>= (λ i. Ok (Variable (var.Shared (record { 0 = i })))))
  by (Ok i) = tt
  by (Err e) = tt
made_right n of.Private name = by (nat_lt (private_count n.declared) 8) refl where
  by : (b : Bool) → nat_lt (private_count n.declared) 8 ≡ b
      → MadeRight (private_count n.declared) (unless_refused b TooManyPrivates >>= (λ _. Ok (Variable (var.Private (private_count n.declared)))))
  by true e = (refl, grind (arith, nat_tests))
  by false e = tt
made_right n of.Buffer name = by (listed n.machine.buffers.items name) where
  by : (r : Result ℕ CheckFault) → MadeRight (private_count n.declared) (r >>= (λ i. Ok (Buffer (record { 0 = i }))))
  by (Ok i) = tt
  by (Err e) = tt

-- private variables are numbered below their count, which is at most eight
pub record OwnNames (n : ScriptNames) : Type 0 where
  pub within : (name : List ℕ) (i : ℕ) → symbol_of n.declared name ≡ Some (Variable (var.Private i)) → i < private_count n.declared
  pub few : private_count n.declared ≤ 8

counted : (s : Symbol) (count : ℕ) → MadeRight count (Ok s) → count ≤ 8 → count + cond (is_private_symbol s) 1 0 ≤ 8
counted (Buffer p) count m few = omega arith
counted (Variable (var.Shared v)) count m few = omega arith
counted (Variable (var.Private i)) count m few = let h = m.1 in omega arith

is_counted : (s : Symbol) (count i : ℕ) → MadeRight count (Ok s) → s ≡ Variable (var.Private i) → i < count + cond (is_private_symbol s) 1 0
is_counted s count i m e =
    let here : MadeRight count (Ok (Variable (var.Private i))) = subst (λ (s : Symbol). MadeRight count (Ok s)) e m in
    let number : i ≡ count = here.0 in
    subst (λ (s : Symbol). i < count + cond (is_private_symbol s) 1 0) (sym e) (omega arith)

own_more : (n : ScriptNames) (name : List ℕ) (s : Symbol) → OwnNames n → MadeRight (private_count n.declared) (Ok s) → OwnNames (with_name n name s)
own_more n name s o m =
    let more : private_count (n.declared ++ entry name s ∷ []) ≡ private_count n.declared + cond (is_private_symbol s) 1 0 = count_more n.declared name s in
    let least = counted s (private_count n.declared) m o.few in
    record {
      within = λ k i e. elim (was_or_is n.declared name k s (Variable (var.Private i)) e) [
        | inl was ↦ (let below = o.within k i was in omega (arith, more, below))
        | inr is ↦ (let below = is_counted s (private_count n.declared) i m is in omega (arith, more, below))
      ];
      few = omega (arith, more, least);
    }

pub record OwnAfter (n m : ScriptNames) : Type 0 where
  pub own : OwnNames m
  pub machine : m.machine ≡ n.machine

pub own_names : (ds : List Decl) (n m : ScriptNames) → OwnNames n → declare_all n ds ≡ Ok m → OwnAfter n m
own_names [] n m o e = let same : n ≡ m = cc in subst (λ (m : ScriptNames). OwnAfter n m) same (record { own = o; machine = refl })
own_names (d ∷ ds) n m o e =
    let one : DoneBefore (declare n d) (λ m. declare_all m ds) m = done_before (declare n d) (λ m. declare_all m ds) m e in
    let fresh : DoneBefore (unless_refused (is_none (symbol_of n.declared d.word.name)) (Twice d.word.name)) (λ _. made n d.kind d.word.name >>= (λ symbol. Ok (with_name n d.word.name symbol))) one.value =
    done_before (unless_refused (is_none (symbol_of n.declared d.word.name)) (Twice d.word.name)) (λ _. made n d.kind d.word.name >>= (λ symbol. Ok (with_name n d.word.name symbol))) one.value one.first in
    let new : DoneBefore (made n d.kind d.word.name) (λ symbol. Ok (with_name n d.word.name symbol)) one.value =
    done_before (made n d.kind d.word.name) (λ symbol. Ok (with_name n d.word.name symbol)) one.value fresh.second in
    let is : with_name n d.word.name new.value ≡ one.value = (let h = new.second in cc) in
    let right : MadeRight (private_count n.declared) (Ok new.value) = subst (λ (r : Result Symbol CheckFault). MadeRight (private_count n.declared) r) new.first (made_right n d.kind d.word.name) in
    let next : declare_all (with_name n d.word.name new.value) ds ≡ Ok m = ap (λ (n : ScriptNames). declare_all n ds) is ∙ one.second in
    let rest : OwnAfter (with_name n d.word.name new.value) m = own_names ds (with_name n d.word.name new.value) m (own_more n d.word.name new.value o right) next in
    record { own = rest.own; machine = rest.machine }

-- ---- the parameters' names

pub record ParamsDeclared (n nx : ScriptNames) (k c : ℕ) : Type 0 where
  pub machine : nx.machine ≡ n.machine
  pub own : (name : List ℕ) → is_reserved name ≡ false → symbol_of nx.declared name ≡ symbol_of n.declared name
  pub old : (name : List ℕ) (s : Symbol) → symbol_of n.declared name ≡ Some s → symbol_of nx.declared name ≡ Some s
  pub new : (i : ℕ) → i < c → symbol_of nx.declared (parameter_name (k + i)) ≡ Some (Variable (var.Private (private_count n.declared + i)))
  pub few : private_count n.declared ≤ 8 → private_count n.declared + c ≤ 8

-- a name of the script is no parameter's
apart : (name : List ℕ) (k : ℕ) → is_reserved name ≡ false → bytes_eq name (parameter_name k) ≡ false
apart [] k h = refl
apart (b ∷ bs) k h = ap (λ (t : Bool). t && bytes_eq bs (decimal k)) h

params_more : (c k : ℕ) (n nx : ScriptNames) → is_none (symbol_of n.declared (parameter_name k)) ≡ true → nat_lt (private_count n.declared) 8 ≡ true
    → ParamsDeclared (with_name n (parameter_name k) (Variable (var.Private (private_count n.declared)))) nx (k + 1) c → ParamsDeclared n nx k (suc c)
params_more c k n nx fresh less p =
    let more : private_count (n.declared ++ entry (parameter_name k) (Variable (var.Private (private_count n.declared))) ∷ []) ≡ private_count n.declared + 1 =
    count_more n.declared (parameter_name k) (Variable (var.Private (private_count n.declared))) in
    let below : private_count n.declared < 8 = grind (arith, nat_tests) in
    let here : symbol_of (n.declared ++ entry (parameter_name k) (Variable (var.Private (private_count n.declared))) ∷ []) (parameter_name k) ≡ Some (Variable (var.Private (private_count n.declared))) =
    found_behind n.declared (entry (parameter_name k) (Variable (var.Private (private_count n.declared))) ∷ []) (parameter_name k) (none_found (symbol_of n.declared (parameter_name k)) fresh)
    ∙ ap (λ (b : Bool). if b then Some (Variable (var.Private (private_count n.declared))) else None) (same_name (parameter_name k)) in
    record {
      machine = p.machine;
      own = λ name h. p.own name h ∙ another_name n.declared (parameter_name k) name (Variable (var.Private (private_count n.declared))) (apart name k h);
      old = λ name t h. p.old name t (found_before n.declared (entry (parameter_name k) (Variable (var.Private (private_count n.declared))) ∷ []) name t h);
      new = new here more;
      few = λ h. (let rest = p.few (omega (arith, more, below)) in omega (arith, more, rest));
    } where
      new : symbol_of (n.declared ++ entry (parameter_name k) (Variable (var.Private (private_count n.declared))) ∷ []) (parameter_name k) ≡ Some (Variable (var.Private (private_count n.declared)))
          → private_count (n.declared ++ entry (parameter_name k) (Variable (var.Private (private_count n.declared))) ∷ []) ≡ private_count n.declared + 1
          → (i : ℕ) → i < suc c → symbol_of nx.declared (parameter_name (k + i)) ≡ Some (Variable (var.Private (private_count n.declared + i)))
      new here more zero less =
          let a : k + 0 ≡ k = omega arith in let b : private_count n.declared ≡ private_count n.declared + 0 = omega arith in
          ap (λ k. symbol_of nx.declared (parameter_name k)) a ∙ p.old (parameter_name k) (Variable (var.Private (private_count n.declared))) here
          ∙ ap (λ (i : ℕ). Some (Variable (var.Private i))) b
      new here more (suc i) less =
          let a : k + suc i ≡ (k + 1) + i = omega arith in
          let b : private_count (n.declared ++ entry (parameter_name k) (Variable (var.Private (private_count n.declared))) ∷ []) + i ≡ private_count n.declared + suc i = omega (arith, more) in
          ap (λ k. symbol_of nx.declared (parameter_name k)) a ∙ p.new i (omega arith) ∙ ap (λ (i : ℕ). Some (Variable (var.Private i))) b

pub params_declared : (c k : ℕ) (n nx : ScriptNames) → declare_all n (parameter_decls k c) ≡ Ok nx → ParamsDeclared n nx k c
params_declared zero k n nx e =
    let same : n ≡ nx = cc in
    subst (λ (m : ScriptNames). ParamsDeclared n m k 0) same (record {
      machine = refl;
      own = λ name h. refl;
      old = λ name s h. h;
      new = λ i less. absurd (omega arith);
      few = λ h. omega arith;
    })
params_declared (suc c) k n nx e =
    let d : Decl = record { kind = of.Private; word = record { name = parameter_name k; place = 0 }; first = k == 0 } in
    let one : DoneBefore (declare n d) (λ m. declare_all m (parameter_decls (k + 1) c)) nx = done_before (declare n d) (λ m. declare_all m (parameter_decls (k + 1) c)) nx e in
    let fresh : DoneBefore (unless_refused (is_none (symbol_of n.declared (parameter_name k))) (Twice (parameter_name k))) (λ _. made n of.Private (parameter_name k) >>= (λ symbol. Ok (with_name n (parameter_name k) symbol))) one.value =
    done_before (unless_refused (is_none (symbol_of n.declared (parameter_name k))) (Twice (parameter_name k))) (λ _. made n of.Private (parameter_name k) >>= (λ symbol. Ok (with_name n (parameter_name k) symbol))) one.value one.first in
    let new : DoneBefore (made n of.Private (parameter_name k)) (λ symbol. Ok (with_name n (parameter_name k) symbol)) one.value =
    done_before (made n of.Private (parameter_name k)) (λ symbol. Ok (with_name n (parameter_name k) symbol)) one.value fresh.second in
    let few : DoneBefore (unless_refused (nat_lt (private_count n.declared) 8) TooManyPrivates) (λ _. Ok (Variable (var.Private (private_count n.declared)))) new.value =
    done_before (unless_refused (nat_lt (private_count n.declared) 8) TooManyPrivates) (λ _. Ok (Variable (var.Private (private_count n.declared)))) new.value new.first in
    let symbol : Variable (var.Private (private_count n.declared)) ≡ new.value = (let h = few.second in cc) in
    let is : with_name n (parameter_name k) (Variable (var.Private (private_count n.declared))) ≡ one.value =
    ap (with_name n (parameter_name k)) symbol ∙ (let h = new.second in cc) in
    let next : declare_all (with_name n (parameter_name k) (Variable (var.Private (private_count n.declared)))) (parameter_decls (k + 1) c) ≡ Ok nx =
    ap (λ (n : ScriptNames). declare_all n (parameter_decls (k + 1) c)) is ∙ one.second in
    params_more c k n nx (passed (is_none (symbol_of n.declared (parameter_name k))) (Twice (parameter_name k)) fresh.value fresh.first)
    (passed (nat_lt (private_count n.declared) 8) TooManyPrivates few.value few.first)
    (params_declared c (k + 1) (with_name n (parameter_name k) (Variable (var.Private (private_count n.declared)))) nx next)

-- ---- the names within a body

-- a name of the body: a parameter hides it, or it is what it was
data Shown (o : Option ℕ) (s : Option Symbol) (first bound : ℕ) (outside : Option Symbol) : Type 0 where
  hidden : (j : ℕ) → o ≡ Some (first + j) → j < bound → s ≡ Some (Variable (var.Private (8 + j))) → Shown o s first bound outside
  open_to : o ≡ None → s ≡ outside → Shown o s first bound outside

shown : (name : List ℕ) (first : ℕ) (declared : List Entry) (params : List Word) (j : ℕ)
    → Shown (position_from (λ w. bytes_eq name w.name) (first + j) params) (symbol_of (parameter_entries j params ++ declared) name) first (j + length params) (symbol_of declared name)
shown name first declared [] j = open_to refl refl
shown name first declared (w ∷ ws) j = by (bytes_eq name w.name) (shown name first declared ws (j + 1)) where
  number : first + (j + 1) ≡ (first + j) + 1
  number = omega arith

  bound : (j + 1) + length ws ≡ j + suc (length ws)
  bound = omega arith

  by : (b : Bool) → Shown (position_from (λ w. bytes_eq name w.name) (first + (j + 1)) ws) (symbol_of (parameter_entries (j + 1) ws ++ declared) name) first ((j + 1) + length ws) (symbol_of declared name)
      → Shown (cond b (Some (first + j)) (position_from (λ w. bytes_eq name w.name) ((first + j) + 1) ws))
      (if b then Some (Variable (var.Private (8 + j))) else symbol_of (parameter_entries (j + 1) ws ++ declared) name) first (j + suc (length ws)) (symbol_of declared name)
  by true rest = hidden j refl (omega arith) refl
  by false rest =
      subst (λ (k : ℕ). Shown (position_from (λ w. bytes_eq name w.name) k ws) (symbol_of (parameter_entries (j + 1) ws ++ declared) name) first (j + suc (length ws)) (symbol_of declared name)) number
      (subst (λ (k : ℕ). Shown (position_from (λ w. bytes_eq name w.name) (first + (j + 1)) ws) (symbol_of (parameter_entries (j + 1) ws ++ declared) name) first k (symbol_of declared name)) bound rest)

-- what is found in the expansion, and with frames
abbrev pub SymbolsAgree : Layout → Option Symbol → Option Symbol → Type 0
SymbolsAgree l None s = ⊤
SymbolsAgree l (Some t) None = ⊥
SymbolsAgree l (Some (Variable y)) (Some (Variable x)) = SameVariable l x y
SymbolsAgree l (Some (Variable y)) (Some (Buffer p)) = ⊥
SymbolsAgree l (Some (Buffer q)) (Some (Variable x)) = ⊥
SymbolsAgree l (Some (Buffer q)) (Some (Buffer p)) = p ≡ q

variables_come : (l : Layout) (t s : Option Symbol) (e f : CheckFault) (i j : ℕ) → SymbolsAgree l t s → Comes (SameVariable l) (ok_or t e >>= as_variable i) (ok_or s f >>= as_variable j)
variables_come l None s e f i j h = tt
variables_come l (Some t) None e f i j h = absurd h
variables_come l (Some (Variable y)) (Some (Variable x)) e f i j h = h
variables_come l (Some (Variable y)) (Some (Buffer p)) e f i j h = absurd h
variables_come l (Some (Buffer q)) (Some (Variable x)) e f i j h = tt
variables_come l (Some (Buffer q)) (Some (Buffer p)) e f i j h = tt

buffers_come : (l : Layout) (t s : Option Symbol) (e f : CheckFault) (i j : ℕ) → SymbolsAgree l t s → Comes (Equals {A = BufId}) (ok_or t e >>= as_buffer i) (ok_or s f >>= as_buffer j)
buffers_come l None s e f i j h = tt
buffers_come l (Some t) None e f i j h = absurd h
buffers_come l (Some (Variable y)) (Some (Variable x)) e f i j h = tt
buffers_come l (Some (Variable y)) (Some (Buffer p)) e f i j h = tt
buffers_come l (Some (Buffer q)) (Some (Variable x)) e f i j h = absurd h
buffers_come l (Some (Buffer q)) (Some (Buffer p)) e f i j h = h

own_agrees : (l : Layout) (o : Option Symbol) → ((i : ℕ) → o ≡ Some (Variable (var.Private i)) → i < l.outer) → SymbolsAgree l o o
own_agrees l None h = tt
own_agrees l (Some (Variable (var.Shared v))) h = refl
own_agrees l (Some (Variable (var.Private i))) h = inl (record { same = refl; within = h i refl })
own_agrees l (Some (Buffer p)) h = refl

free_name : (w : Word) → word_fault w ≡ None → is_reserved w.name ≡ false
free_name w free = by (is_reserved w.name) free where
  by : (b : Bool) → refused_if b (Reserved w.place) ≡ None → b ≡ false
  by false h = refl
  by true h = absurd (cc)

-- names within a body, and what they become
module _ (n nx : ScriptNames) (total first : ℕ) (params : List Word) (own : OwnNames n) (declared : ParamsDeclared n nx 0 total) (within : first + length params ≤ total) (kept : ℕ → ℤ) where
  abbrev body_layout : Layout
  body_layout = record { outer = private_count n.declared; first = first; held = length params; kept = kept }

  symbols_agree : (w : Word) → word_fault w ≡ None
      → SymbolsAgree body_layout (symbol_of nx.declared (renamed (record { first = first; params = params }) w).name) (symbol_of (names_within n params).declared w.name)
  symbols_agree w free = told (position_from (λ p. bytes_eq w.name p.name) first params) here where
    start : first + 0 ≡ first
    start = omega arith

    here : Shown (position_from (λ p. bytes_eq w.name p.name) first params) (symbol_of (parameter_entries 0 params ++ n.declared) w.name) first (length params) (symbol_of n.declared w.name)
    here =
        subst (λ (k : ℕ). Shown (position_from (λ p. bytes_eq w.name p.name) k params) (symbol_of (parameter_entries 0 params ++ n.declared) w.name) first (length params) (symbol_of n.declared w.name)) start
        (let m : 0 + length params ≡ length params = omega arith in
        subst (λ (m : ℕ). Shown (position_from (λ p. bytes_eq w.name p.name) (first + 0) params) (symbol_of (parameter_entries 0 params ++ n.declared) w.name) first m (symbol_of n.declared w.name)) m
        (shown w.name first n.declared params 0))

    told : (o : Option ℕ) → Shown o (symbol_of (parameter_entries 0 params ++ n.declared) w.name) first (length params) (symbol_of n.declared w.name)
        → SymbolsAgree body_layout (symbol_of nx.declared (renamed_as w o).name) (symbol_of (parameter_entries 0 params ++ n.declared) w.name)
    told o (hidden j is less found) =
        let number : 0 + (first + j) ≡ first + j = omega arith in
        let there : symbol_of nx.declared (renamed_as w o).name ≡ Some (Variable (var.Private (private_count n.declared + (first + j)))) =
        ap (λ (o : Option ℕ). symbol_of nx.declared (renamed_as w o).name) is ∙ ap (λ k. symbol_of nx.declared (parameter_name k)) (sym number) ∙ declared.new (first + j) (omega arith) in
        subst (λ (t : Option Symbol). SymbolsAgree body_layout t (symbol_of (parameter_entries 0 params ++ n.declared) w.name)) (sym there)
        (subst (λ (s : Option Symbol). SymbolsAgree body_layout (Some (Variable (var.Private (private_count n.declared + (first + j))))) s) (sym found)
        (inr (record { parameter = j; number = refl; place = refl; within = less })))
    told o (open_to is same) =
        let there : symbol_of nx.declared (renamed_as w o).name ≡ symbol_of n.declared w.name =
        ap (λ (o : Option ℕ). symbol_of nx.declared (renamed_as w o).name) is ∙ declared.own w.name (free_name w free) in
        subst (λ (t : Option Symbol). SymbolsAgree body_layout t (symbol_of (parameter_entries 0 params ++ n.declared) w.name)) (sym there)
        (subst (λ (s : Option Symbol). SymbolsAgree body_layout (symbol_of n.declared w.name) s) (sym same)
        (own_agrees body_layout (symbol_of n.declared w.name) (λ i e. own.within w.name i e)))

  pub body_names : NamesAgree body_layout (record { first = first; params = params }) (names_within n params) nx
  body_names =
      record {
        functions = λ w. ap (λ (machine : Description). function (record { machine = machine; declared = [] }) w) declared.machine;
        variables = λ w free.
            variables_come body_layout (symbol_of nx.declared (renamed (record { first = first; params = params }) w).name) (symbol_of (names_within n params).declared w.name)
            (Undeclared (renamed (record { first = first; params = params }) w).name (renamed (record { first = first; params = params }) w).place) (Undeclared w.name w.place)
            (renamed (record { first = first; params = params }) w).place w.place (symbols_agree w free);
        buffers = λ w free.
            buffers_come body_layout (symbol_of nx.declared (renamed (record { first = first; params = params }) w).name) (symbol_of (names_within n params).declared w.name)
            (Undeclared (renamed (record { first = first; params = params }) w).name (renamed (record { first = first; params = params }) w).place) (Undeclared w.name w.place)
            (renamed (record { first = first; params = params }) w).place w.place (symbols_agree w free);
      }

-- the script's own statements: nothing is hidden, and the frame is empty
module _ (n nx : ScriptNames) (total : ℕ) (own : OwnNames n) (declared : ParamsDeclared n nx 0 total) (kept : ℕ → ℤ) where
  abbrev script_layout : Layout
  script_layout = record { outer = private_count n.declared; first = total; held = 0; kept = kept }

  own_symbols : (w : Word) → word_fault w ≡ None → SymbolsAgree script_layout (symbol_of nx.declared w.name) (symbol_of n.declared w.name)
  own_symbols w free =
      subst (λ (t : Option Symbol). SymbolsAgree script_layout t (symbol_of n.declared w.name)) (sym (declared.own w.name (free_name w free)))
      (own_agrees script_layout (symbol_of n.declared w.name) (λ i e. own.within w.name i e))

  pub script_names : NamesAgree script_layout nothing_hidden n nx
  script_names =
      record {
        functions = λ w. ap (λ (machine : Description). function (record { machine = machine; declared = [] }) w) declared.machine;
        variables = λ w free. variables_come script_layout (symbol_of nx.declared w.name) (symbol_of n.declared w.name) (Undeclared w.name w.place) (Undeclared w.name w.place) w.place w.place (own_symbols w free);
        buffers = λ w free. buffers_come script_layout (symbol_of nx.declared w.name) (symbol_of n.declared w.name) (Undeclared w.name w.place) (Undeclared w.name w.place) w.place w.place (own_symbols w free);
      }

-- the variable of a parameter
pub parameter_variable : (n nx : ScriptNames) (total : ℕ) → ParamsDeclared n nx 0 total → (place k : ℕ) → k < total
    → variable nx (record { name = parameter_name k; place = place }) ≡ Ok (var.Private (private_count n.declared + k))
parameter_variable n nx total declared place k less =
    let number : k ≡ 0 + k = omega arith in
    ap (λ (o : Option Symbol). ok_or o (Undeclared (parameter_name k) place) >>= as_variable place)
    (ap (λ k. symbol_of nx.declared (parameter_name k)) number ∙ declared.new k less)
