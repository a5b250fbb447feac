-- Stores that are settled, and runs on them.
use Rattle.std.proofs.Common.{◌≡◌, ◌≤◌, ◌<◌, ℕ, ◌+◌, ℤ, pos, Bool, true, false, List, [], ◌∷◌, length, get_or, refl, ap, sym, ◌∙◌, subst, arith, inl, inr, get_or-set_same}
use Rattle.std.specs.Prelude.{IsTrue, not, ◌&&◌, ◌||◌, nat_lt, slice_index_or, if◌then◌else◌}
use Rattle.std.proofs.lemmas.Bool.{cases_lt}
use Rattle.std.proofs.lemmas.Bool.Decides.{eqb_tells, nat_tests}
use Rattle.std.proofs.lemmas.List.{ext_get_or, get_or_default, get_or_past}
use Rattle.arrayvec.specs.ArrayVec.{ArrayVec}
use Rattle.mate_num.specs.Store.{payload, value_at, buffer_at, set_value, set_buffer}
use Rattle.mate_num.specs.Uses.{uses, is_same_resource}
use Rattle.mate_num.specs.declared.call.Call.{Call}
use Rattle.mate_num.specs.declared.resource.Resource.{Resource}
use Rattle.mate_num.specs.declared.resource.Resource.TheVariants.{Shared, Buffer, Device}
use Rattle.mate_num.specs.declared.shape.Shape.{Shape}
use Rattle.mate_num.specs.declared.store.Store.{Store}
use Rattle.mate_code.specs.Cells.{read, write, AreAsLong}
use Rattle.mate_code.specs.CodeUses.{uses_of}
use Rattle.mate_code.specs.Effect.{Private}
use Rattle.mate_code.specs.Run.{Code, Own, Run, begun_run, run_after}
use Rattle.mate_code.proofs.CellLemmas.{read-write_other, write-AreAsLong, is_same-refl}
use Rattle.mate_code.proofs.RunLemmas.{Matches, after-other, after-AreAsLong, after-Matches}
use Rattle.exec_unit.specs.Step.{HasLengths}
use Rattle.exec_unit.specs.declared.step_end.StepEnd.{StepEnd}
use Rattle.audit_programs.specs.Kept.{answers_to, status_of, IsRun}
use Rattle.audit_programs.specs.Settled.{IsSettled, is_variable_below, is_buffer_below}

-- ---- stores that hold the same

abbrev first_of : List ℤ → ℤ
first_of xs = get_or xs 0 (pos 0)

same-store : (s t : Store) → AreAsLong s t → ((r : Resource) → read s r ≡ read t r) → s ≡ t
same-store s t long same =
    let shared : s.shared.items ≡ t.shared.items = ext_get_or (pos 0) s.shared.items t.shared.items long.shared (λ i within. ap first_of (same (Shared (record { 0 = i })))) in
    let buffers : s.buffers.items ≡ t.buffers.items = ext_get_or (payload []) s.buffers.items t.buffers.items long.buffers (λ i within. ap payload (same (Buffer (record { 0 = i })))) in
    ap (λ (xs : List ℤ). let u : Store = record { shared = record { items = xs }; buffers = s.buffers } in u) shared
    ∙ ap (λ (xs : List (ArrayVec ℤ)). let u : Store = record { shared = t.shared; buffers = record { items = xs } } in u) buffers

-- ---- one resource more

same-resource : (r q : Resource) → is_same_resource r q ≡ true → q ≡ r
same-resource (Shared v) (Shared w) same = elim (eqb_tells v.0 w.0) [
  | inl t ↦ ap (λ (n : ℕ). Shared (record { 0 = n })) (sym t.1)
  | inr u ↦ absurd (let e : false ≡ true = sym u.0 ∙ same in cc)
]
same-resource (Shared v) (Buffer b) same = cc
same-resource (Shared v) (Device d) same = cc
same-resource (Buffer b) (Shared v) same = cc
same-resource (Buffer b) (Buffer c) same = elim (eqb_tells b.0 c.0) [
  | inl t ↦ ap (λ (n : ℕ). Buffer (record { 0 = n })) (sym t.1)
  | inr u ↦ absurd (let e : false ≡ true = sym u.0 ∙ same in cc)
]
same-resource (Buffer b) (Device d) same = cc
same-resource (Device d) (Shared v) same = cc
same-resource (Device d) (Buffer b) same = cc
same-resource (Device d) (Device e) same = elim (eqb_tells d.0 e.0) [
  | inl t ↦ ap (λ (n : ℕ). Device (record { 0 = n })) (sym t.1)
  | inr u ↦ absurd (let e : false ≡ true = sym u.0 ∙ same in cc)
]

or-false : (b : Bool) → (b || false) ≡ b
or-false true = refl
or-false false = refl

module _ (test more used : Resource → Bool) (base store before now next : Store) (at : Resource) (so_far : IsSettled test used base store before now)
    (tests : (r : Resource) → more r ≡ (test r || is_same_resource at r)) (fresh : test at ≡ false) where
  -- the value at another resource
  other : (r : Resource) → is_same_resource at r ≡ false → read next r ≡ read now r → read next r ≡ (if more r && not (used r) then read store r else read before r)
  other r apart stays =
      stays ∙ so_far.values r ∙ ap (λ (b : Bool). if b && not (used r) then read store r else read before r) (sym (tests r ∙ ap (λ (b : Bool). test r || b) apart ∙ or-false (test r)))

  -- that it is the same in both, if it is used
  same-at : (IsTrue (used at) → read base at ≡ read store at) → (r : Resource) → IsTrue (more r) → IsTrue (used r) → read base r ≡ read store r
  same-at here r passes is_used = by (test r) (is_same_resource at r) refl refl (sym (tests r) ∙ passes) where
    by : (b w : Bool) → test r ≡ b → is_same_resource at r ≡ w → (b || w) ≡ true → read base r ≡ read store r
    by true w is same e = so_far.same r is is_used
    by false true is same e =
        let q = same-resource at r same in
        subst (λ (x : Resource). read base x ≡ read store x) (sym q) (here (subst (λ (x : Resource). IsTrue (used x)) q is_used))
    by false false is same e = cc

  more-at : more at ≡ true
  more-at = tests at ∙ ap (λ (b : Bool). b || is_same_resource at at) fresh ∙ is_same-refl at

  -- it isn't used, and gets the store's value
  pub settles-unused : used at ≡ false → next ≡ write now at (read store at) → read next at ≡ read store at → IsSettled more used base store before next
  settles-unused unused is value =
      let wide = write-AreAsLong now at (read store at) in
      let long : AreAsLong next now = subst (λ (s : Store). AreAsLong s now) (sym is) wide in
      record {
        as_long = record { shared = long.shared ∙ so_far.as_long.shared; buffers = long.buffers ∙ so_far.as_long.buffers };
        same = same-at (λ used_at. let e : false ≡ true = sym unused ∙ used_at in cc);
        values = λ r. by r (is_same_resource at r) refl;
      } where
        by : (r : Resource) (w : Bool) → is_same_resource at r ≡ w → read next r ≡ (if more r && not (used r) then read store r else read before r)
        by r true same =
            let P : Resource → Type 0 = λ x. read next x ≡ (if more x && not (used x) then read store x else read before x) in
            subst P (sym (same-resource at r same))
            (value ∙ ap (λ (b : Bool). if b then read store at else read before at) (sym (ap (λ (b : Bool). b && not (used at)) more-at ∙ ap not unused)))
        by r false apart = other r apart (ap (λ (s : Store). read s r) is ∙ read-write_other now at r (read store at) apart)

  -- it is used, and is the same in both
  pub settles-used : used at ≡ true → next ≡ now → read base at ≡ read store at → IsSettled more used base store before next
  settles-used is_used is here = record {
    as_long = subst (λ (s : Store). AreAsLong s before) (sym is) so_far.as_long;
    same = same-at (λ _. here);
    values = λ r. by r (is_same_resource at r) refl;
  } where
    by : (r : Resource) (w : Bool) → is_same_resource at r ≡ w → read next r ≡ (if more r && not (used r) then read store r else read before r)
    by r true same =
        let P : Resource → Type 0 = λ x. read next x ≡ (if more x && not (used x) then read store x else read before x) in
        subst P (sym (same-resource at r same))
        (ap (λ (s : Store). read s at) is ∙ so_far.values at
        ∙ ap (λ (b : Bool). if b && not (used at) then read store at else read before at) fresh
        ∙ ap (λ (b : Bool). if b then read store at else read before at) (sym (ap (λ (b : Bool). b && not (used at)) more-at ∙ ap not is_used)))
    by r false apart = other r apart (ap (λ (s : Store). read s r) is)

pub variables-more : (n : ℕ) (r : Resource) → is_variable_below (n + 1) r ≡ (is_variable_below n r || is_same_resource (Shared (record { 0 = n })) r)
variables-more n (Shared v) = grind (arith, nat_tests)
variables-more n (Buffer b) = refl
variables-more n (Device d) = refl

pub buffers-more : (n : ℕ) (r : Resource) → is_buffer_below (n + 1) r ≡ (is_buffer_below n r || is_same_resource (Buffer (record { 0 = n })) r)
buffers-more n (Shared v) = refl
buffers-more n (Buffer b) = grind (arith, nat_tests)
buffers-more n (Device d) = refl

pub none-below : (n : ℕ) → nat_lt n n ≡ false
none-below n = grind (arith, nat_tests)

none-first : (n : ℕ) → nat_lt n 0 ≡ false
none-first n = grind (arith, nat_tests)

-- before the first
pub no-variables : (used : Resource → Bool) (base store before : Store) → IsSettled (is_variable_below 0) used base store before before
no-variables used base store before = record { as_long = record { shared = refl; buffers = refl }; same = same; values = values } where
  same : (r : Resource) → IsTrue (is_variable_below 0 r) → IsTrue (used r) → read base r ≡ read store r
  same (Shared v) t u = let e : false ≡ true = sym (none-first v.0) ∙ t in cc
  same (Buffer b) t u = cc
  same (Device d) t u = cc

  values : (r : Resource) → read before r ≡ (if is_variable_below 0 r && not (used r) then read store r else read before r)
  values (Shared v) = ap (λ (b : Bool). if b && not (used (Shared v)) then read store (Shared v) else read before (Shared v)) (sym (none-first v.0))
  values (Buffer b) = refl
  values (Device d) = refl

pub no-buffers : (used : Resource → Bool) (base store before : Store) → IsSettled (is_buffer_below 0) used base store before before
no-buffers used base store before = record { as_long = record { shared = refl; buffers = refl }; same = same; values = values } where
  same : (r : Resource) → IsTrue (is_buffer_below 0 r) → IsTrue (used r) → read base r ≡ read store r
  same (Shared v) t u = cc
  same (Buffer b) t u = let e : false ≡ true = sym (none-first b.0) ∙ t in cc
  same (Device d) t u = cc

  values : (r : Resource) → read before r ≡ (if is_buffer_below 0 r && not (used r) then read store r else read before r)
  values (Shared v) = refl
  values (Buffer b) = ap (λ (w : Bool). if w && not (used (Buffer b)) then read store (Buffer b) else read before (Buffer b)) (sym (none-first b.0))
  values (Device d) = refl

-- ---- all of them

-- a place that neither store has
past-variable : (s t : Store) (v : ℕ) → length s.shared.items ≡ length t.shared.items → length t.shared.items ≤ v → value_at s v ≡ value_at t v
past-variable s t v long past = get_or_past s.shared.items v (pos 0) (omega (arith, long, past)) ∙ sym (get_or_past t.shared.items v (pos 0) past)

past-buffer : (s t : Store) (b : ℕ) → length s.buffers.items ≡ length t.buffers.items → length t.buffers.items ≤ b → buffer_at s b ≡ buffer_at t b
past-buffer s t b long past =
    ap (λ (p : ArrayVec ℤ). p.items) (get_or_past s.buffers.items b (payload []) (omega (arith, long, past)) ∙ sym (get_or_past t.buffers.items b (payload []) past))

both : (w : Bool) (xs ys zs : List ℤ) → xs ≡ ys → xs ≡ zs → xs ≡ (if w then ys else zs)
both true xs ys zs e f = e
both false xs ys zs e f = f

pub all-settled : (used : Resource → Bool) (base store before mid after : Store) → AreAsLong before store → AreAsLong base store → IsSettled (is_variable_below (length store.shared.items)) used base store before mid
    → IsSettled (is_buffer_below (length store.buffers.items)) used base store mid after → IsSettled (λ _. true) used base store before after
all-settled used base store before mid after long wide first second = record {
  as_long = record { shared = second.as_long.shared ∙ first.as_long.shared; buffers = second.as_long.buffers ∙ first.as_long.buffers };
  same = λ r t. same r;
  values = values;
} where
  same : (r : Resource) → IsTrue (used r) → read base r ≡ read store r
  same (Shared v) u = elim (cases_lt v.0 (length store.shared.items)) [
    | inl lt ↦ first.same (Shared v) (grind (arith, nat_tests, lt)) u
    | inr le ↦ ap (λ (x : ℤ). x ∷ []) (past-variable base store v.0 wide.shared (omega (arith, le)))
  ]
  same (Buffer b) u = elim (cases_lt b.0 (length store.buffers.items)) [
    | inl lt ↦ second.same (Buffer b) (grind (arith, nat_tests, lt)) u
    | inr le ↦ past-buffer base store b.0 wide.buffers (omega (arith, le))
  ]
  same (Device d) u = refl

  values : (r : Resource) → read after r ≡ (if true && not (used r) then read store r else read before r)
  values (Shared v) = elim (cases_lt v.0 (length store.shared.items)) [
    | inl lt ↦ (let passes : nat_lt v.0 (length store.shared.items) ≡ true = grind (arith, nat_tests, lt) in
        second.values (Shared v) ∙ first.values (Shared v) ∙ ap (λ (b : Bool). if b && not (used (Shared v)) then read store (Shared v) else read before (Shared v)) passes)
    | inr le ↦ (let m = second.as_long.shared in
        let f = first.as_long.shared in
        let l = long.shared in
        both (not (used (Shared v))) (read after (Shared v)) (read store (Shared v)) (read before (Shared v))
        (ap (λ (x : ℤ). x ∷ []) (past-variable after store v.0 (m ∙ f ∙ l) (omega (arith, le))))
        (ap (λ (x : ℤ). x ∷ []) (past-variable after before v.0 (m ∙ f) (omega (arith, l, le)))))
  ]
  values (Buffer b) = elim (cases_lt b.0 (length store.buffers.items)) [
    | inl lt ↦ (let passes : nat_lt b.0 (length store.buffers.items) ≡ true = grind (arith, nat_tests, lt) in
        second.values (Buffer b) ∙ ap (λ (w : Bool). if w && not (used (Buffer b)) then read store (Buffer b) else read mid (Buffer b)) passes
        ∙ ap (λ (xs : List ℤ). if not (used (Buffer b)) then read store (Buffer b) else xs) (first.values (Buffer b)))
    | inr le ↦ (let m = second.as_long.buffers in
        let f = first.as_long.buffers in
        let l = long.buffers in
        both (not (used (Buffer b))) (read after (Buffer b)) (read store (Buffer b)) (read before (Buffer b)) (past-buffer after store b.0 (m ∙ f ∙ l) (omega (arith, le)))
        (past-buffer after before b.0 (m ∙ f) (omega (arith, l, le))))
  ]
  values (Device d) = both (not (used (Device d))) [] [] [] refl refl

-- ---- the run on the other store

none-of : (a b : Bool) → (a || b) ≡ false → b ≡ false
none-of true b e = cc
none-of false b e = e

pub base-as-long : (shape : Shape) (code : Code) (base : Store) (msg : ArrayVec ℤ) (turns : ℕ) (machine : Private) (heap : Store) (calls : List Call) (how : StepEnd) → IsRun shape code base msg turns machine heap calls how
    → AreAsLong heap base
base-as-long shape code base msg turns machine heap calls how r =
    subst (λ (s : Store). AreAsLong s base) (ap (λ (x : Run). x.store) r.run) (after-AreAsLong r.count shape code (begun_run base msg (answers_to calls) turns))

pub moved : (shape : Shape) (code : Code) (base store : Store) (msg : ArrayVec ℤ) (turns : ℕ) (machine : Private) (heap heap' : Store) (calls : List Call) (how : StepEnd) → IsRun shape code base msg turns machine heap calls how
    → AreAsLong base store → IsSettled (λ _. true) (uses (uses_of shape code)) base store heap heap' → IsRun shape code store msg turns machine heap' calls how
moved shape code base store msg turns machine heap heap' calls how r wide settled = record {
  count = r.count;
  own = r.own;
  run = ap (λ (o : Own). let x : Run = record { own = o; store = rs.store } in x) (sym m.own ∙ ap (λ (x : Run). x.own) r.run)
      ∙ ap (λ (s : Store). let x : Run = record { own = record { own = r.own; left = []; calls = calls; count = r.count; status = status_of how }; store = s } in x) is;
  machine_is = r.machine_is;
  lengths = record { shared = settled.as_long.shared ∙ r.lengths.shared; buffers = settled.as_long.buffers ∙ r.lengths.buffers };
} where
  xs : List ℤ
  xs = answers_to calls

  rb : Run
  rb = run_after r.count shape code base msg xs turns

  rs : Run
  rs = run_after r.count shape code store msg xs turns

  m : Matches (uses (uses_of shape code)) rb rs
  m = after-Matches r.count shape code (begun_run base msg xs turns) (begun_run store msg xs turns) record { own = refl; stores = record { as_long = wide; same = λ q used. settled.same q refl used } }

  heap-is : rb.store ≡ heap
  heap-is = ap (λ (x : Run). x.store) r.run

  long : AreAsLong rs.store heap'
  long =
      let s = after-AreAsLong r.count shape code (begun_run store msg xs turns) in
      let b = base-as-long shape code base msg turns machine heap calls how r in
      record {
        shared = s.shared ∙ sym wide.shared ∙ sym b.shared ∙ sym settled.as_long.shared;
        buffers = s.buffers ∙ sym wide.buffers ∙ sym b.buffers ∙ sym settled.as_long.buffers;
      }

  value : (q : Resource) → read rs.store q ≡ read heap' q
  value q = by (uses (uses_of shape code) q) refl where
    by : (w : Bool) → uses (uses_of shape code) q ≡ w → read rs.store q ≡ read heap' q
    by true is =
        sym (m.stores.same q is) ∙ ap (λ (s : Store). read s q) heap-is
        ∙ sym (settled.values q ∙ ap (λ (w : Bool). if not w then read store q else read heap q) is)
    by false is =
        after-other r.count shape code (begun_run store msg xs turns) q (none-of ((uses_of shape code).reads q) ((uses_of shape code).writes q) is)
        ∙ sym (settled.values q ∙ ap (λ (w : Bool). if not w then read store q else read heap q) is)

  is : rs.store ≡ heap'
  is = same-store rs.store heap' long value

-- ---- a step of the loops

pub variable-set : (s : Store) (v : ℕ) (x : ℤ) → v < length s.shared.items → value_at (set_value s v x) v ≡ x
variable-set s v x within = get_or-set_same s.shared.items v x (pos 0) within

pub buffer-set : (s : Store) (b : ℕ) (xs : List ℤ) → b < length s.buffers.items → buffer_at (set_buffer s b xs) b ≡ xs
buffer-set s b xs within = ap (λ (p : ArrayVec ℤ). p.items) (get_or-set_same s.buffers.items b (payload xs) (payload []) within)

-- the store on which a run began is as long as another one of the machine
pub base-store : (shape : Shape) (code : Code) (base store : Store) (msg : ArrayVec ℤ) (turns : ℕ) (machine : Private) (heap : Store) (calls : List Call) (how : StepEnd) → IsRun shape code base msg turns machine heap calls how
    → HasLengths shape store → AreAsLong base store
base-store shape code base store msg turns machine heap calls how r long =
    let b = base-as-long shape code base msg turns machine heap calls how r in
    record { shared = sym b.shared ∙ r.lengths.shared ∙ sym long.shared; buffers = sym b.buffers ∙ r.lengths.buffers ∙ sym long.buffers }

-- the values of a buffer
pub buffer-here : (s : Store) (buffers : List (ArrayVec ℤ)) (b : ℕ) (x : ArrayVec ℤ) (xs : List ℤ) → buffers ≡ s.buffers.items → b < length buffers → x ≡ slice_index_or buffers b x → xs ≡ x.items → xs ≡ buffer_at s b
buffer-here s buffers b x xs same within at is =
    is ∙ ap (λ (p : ArrayVec ℤ). p.items)
    (at ∙ get_or_default buffers b x (payload []) within ∙ ap (λ (ys : List (ArrayVec ℤ)). slice_index_or ys b (payload [])) same)
