-- The pass over a statement begins and ends with depth 0, and leaves no mark after its end.
use Rattle.std.proofs.Common.{◌≡◌, ◌≢◌, ℕ, ◌+◌, ◌<◌, ◌≤◌, List, [], ◌∷◌, ◌++◌, Bool, true, false, Some, refl, ap, sym, ◌∙◌, subst, arith, append_assoc}
use Rattle.std.specs.Prelude.{◌==◌, is_some, if◌then◌else◌}
use Rattle.std.proofs.lemmas.Bool.{eqb-true, eqb-false, eq-eqb, lt-ltb, le-leb}
use Rattle.mate_num.specs.declared.shape.Shape.{Shape}
use Rattle.mate_code.specs.declared.instr.Instr.{Instr}
use Rattle.mate_code.specs.declared.instr.Instr.TheVariants as instr
use Rattle.mate_code.specs.Code.{placed}
use Rattle.mate_code.specs.Instr.{size_of}
use Rattle.mate_code.specs.Run.{Code, fetch}
use Rattle.mate_code.specs.Verification.{Blank, Depth, Marks, given, depth_in, depth_at, mark, is_start, pass}
use Rattle.ts_semantics.specs.Translation.{size_of_instrs}
use Rattle.ts_semantics.proofs.VerifiedPass.{Takes, takes-blank, takes-depth, takes-same, given-takes, mark-here, mark-elsewhere, Passes, passes_step, Over, AreBlank}

-- ---- where instructions start

-- each start of instructions from this place on is one of the code
pub record Stands (code : Code) (place : ℕ) (is : List Instr) : Type 0 where
  pub starts : (q : ℕ) → is_start (placed place is) q ≡ true → is_start code q ≡ true

starts_here : (place : ℕ) (i : Instr) (is : List Instr) → is_start (placed place (i ∷ is)) place ≡ true
starts_here place i is = let e : (place == place) ≡ true = eq-eqb place place refl in rw e refl

starts_later : (place q : ℕ) (i : Instr) (is : List Instr) → is_start (placed (place + size_of i) is) q ≡ true → is_start (placed place (i ∷ is)) q ≡ true
starts_later place q i is later = by (place == q) where
  by : (b : Bool) → is_some (if b then Some i else fetch (placed (place + size_of i) is) q) ≡ true
  by true = refl
  by false = later

pub stands_here : {code : Code} {place : ℕ} (is : List Instr) → Stands code place is → 0 < size_of_instrs is → is_start code place ≡ true
stands_here [] s some = absurd (omega arith)
stands_here {code} {place} (i ∷ is) s some = s.starts place (starts_here place i is)

pub stands_later : {code : Code} {place : ℕ} (is js : List Instr) (mid : ℕ) → place + size_of_instrs is ≡ mid → Stands code place (is ++ js) → Stands code mid js
stands_later {code} {place} [] js mid e s = let P : ℕ → Type 0 = λ k. Stands code k js in let f : place ≡ mid = omega arith in subst P f s
stands_later {code} {place} (i ∷ is) js mid e s =
    stands_later {place = place + size_of i} is js mid (omega arith) record { starts = λ q later. s.starts q (starts_later place q i (is ++ js) later) }

starts_front : (place q : ℕ) (is js : List Instr) → is_start (placed place is) q ≡ true → is_start (placed place (is ++ js)) q ≡ true
starts_front place q [] js e = absurd cc
starts_front place q (i ∷ is) js e = by (place == q) e (λ later. starts_front (place + size_of i) q is js later) where
  by : (b : Bool) → is_some (if b then Some i else fetch (placed (place + size_of i) is) q) ≡ true
      → (is_start (placed (place + size_of i) is) q ≡ true → is_start (placed (place + size_of i) (is ++ js)) q ≡ true)
      → is_some (if b then Some i else fetch (placed (place + size_of i) (is ++ js)) q) ≡ true
  by true e rest = refl
  by false e rest = rest e

pub stands_front : {code : Code} {place : ℕ} (is js : List Instr) → Stands code place (is ++ js) → Stands code place is
stands_front {code} {place} is js s = record { starts = λ q e. s.starts q (starts_front place q is js e) }

-- ---- jumps

-- the pass over a jump at 0: depth 0 goes on to the next place and to the target
record Branched (shape : Shape) (code : Code) (marks : Marks) (place target : ℕ) : Type 0 where
  after : Marks
  moves : (rest : List Instr) → pass shape code marks (placed place (instr.Jz target ∷ rest)) ≡ pass shape code after (placed (place + 3) rest)
  next : after (place + 3) ≡ Depth 0
  there : after target ≡ Depth 0
  before : (q : ℕ) → q ≤ place → after q ≡ marks q
  between : (q : ℕ) → place + 3 < q → q ≢ target → after q ≡ marks q

-- what is given once more to a place
again_takes : (place n q : ℕ) (marks : Marks) → Takes n (marks q) → Takes n (mark place n marks q)
again_takes place n q marks takes = by (q == place) where
  by : (b : Bool) → Takes n (if b then given (marks q) n else marks q)
  by true = takes-depth n (given-takes n (marks q) takes)
  by false = takes

again_depth : (place n q : ℕ) (marks : Marks) → marks q ≡ Depth n → mark place n marks q ≡ Depth n
again_depth place n q marks is = by (q == place) where
  by : (b : Bool) → (if b then given (marks q) n else marks q) ≡ Depth n
  by true = given-takes n (marks q) (takes-depth n is)
  by false = is

module _ (shape : Shape) (code : Code) where
  jz_branches : {marks : Marks} (place target : ℕ) → marks place ≡ Depth 1 → is_start code target ≡ true → place + 3 ≤ target
      → Takes 0 (marks (place + 3)) → Takes 0 (marks target) → Branched shape code marks place target
  jz_branches {marks} place target here start forward next there =
      let marked : Marks = mark target 0 marks in
      let h : Passes shape code marks place 1 (instr.Jz target) = record {
        here = here;
        in_range = refl;
        target = start;
        direction = lt-ltb place target (omega arith);
        operands = omega arith;
        room = omega arith;
        back = refl;
      } in
      let at : marked target ≡ Depth 0 = mark-here target 0 marks there in
      record {
        after = mark (place + 3) 0 marked;
        moves = λ rest. passes_step h (placed (place + 3) rest);
        next = mark-here (place + 3) 0 marked (again_takes target 0 (place + 3) marks next);
        there = again_depth (place + 3) 0 target marked at;
        before = λ q le. mark-elsewhere (place + 3) 0 q marked (λ e. absurd (omega arith)) ∙ mark-elsewhere target 0 q marks (λ e. absurd (omega arith));
        between = λ q lt other. mark-elsewhere (place + 3) 0 q marked (λ e. absurd (omega arith)) ∙ mark-elsewhere target 0 q marks other;
      }

  jmp_moves : (marks : Marks) (place target : ℕ) → marks place ≡ Depth 0 → is_start code target ≡ true → place + 3 ≤ target → (rest : List Instr)
      → pass shape code marks (placed place (instr.Jmp target ∷ rest)) ≡ pass shape code (mark target 0 marks) (placed (place + 3) rest)
  jmp_moves marks place target here start forward rest =
      let h : Passes shape code marks place 0 (instr.Jmp target) = record {
        here = here;
        in_range = refl;
        target = start;
        direction = lt-ltb place target (omega arith);
        operands = omega arith;
        room = omega arith;
        back = refl;
      } in
      passes_step h (placed (place + 3) rest)

  back_moves : (marks : Marks) (place target : ℕ) → marks place ≡ Depth 0 → marks target ≡ Depth 0 → is_start code target ≡ true → target ≤ place → (rest : List Instr)
      → pass shape code marks (placed place (instr.Back target ∷ rest)) ≡ pass shape code marks (placed (place + 3) rest)
  back_moves marks place target here there start backward rest =
      let h : Passes shape code marks place 0 (instr.Back target) = record {
        here = here;
        in_range = refl;
        target = start;
        direction = le-leb target place backward;
        operands = omega arith;
        room = omega arith;
        back = eq-eqb (depth_at marks target) 0 (ap depth_in there);
      } in
      passes_step h (placed (place + 3) rest)

-- ---- before a statement

-- depth 0 at the place, none inside the part from there, and none or 0 at its end
pub record IsReady (marks : Marks) (place end : ℕ) : Type 0 where
  pub here : marks place ≡ Depth 0
  pub blank : (q : ℕ) → place < q → q < end → marks q ≡ Blank
  pub free : place < end → Takes 0 (marks end)

pub ready_takes : {marks : Marks} {place end : ℕ} (q : ℕ) → IsReady marks place end → place < q → q ≤ end → Takes 0 (marks q)
ready_takes {marks} {place} {end} q r lt le = by (q == end) refl where
  by : (b : Bool) → (q == end) ≡ b → Takes 0 (marks q)
  by true e = let same : q ≡ end = eqb-true q end e in let P : ℕ → Type 0 = λ k. Takes 0 (marks k) in subst P (sym same) (r.free (omega arith))
  by false e = let other : q ≢ end = eqb-false q end e in takes-blank 0 (r.blank q lt (omega arith))

pub ready_blank : {marks : Marks} {place end : ℕ} (limit : ℕ) → limit < end → IsReady marks place end → AreBlank marks place limit
ready_blank limit lt r = record { each = λ q lt' le. r.blank q lt' (omega arith) }

-- what a part does that begins and ends with depth 0
abbrev pub OverReady : Shape → Code → List Instr → ℕ → ℕ → Type 0
OverReady shape code is place end = (marks : Marks) → IsReady marks place end → Over shape code marks is place end 0

-- ---- the forms of statements

module _ {shape : Shape} {code : Code} where
  -- a test, and a part that runs where it is true
  pub over_if : {marks : Marks} (test part : List Instr) {place mid end : ℕ} → place ≤ mid → mid + 3 ≤ end → is_start code end ≡ true → IsReady marks place end
      → Over shape code marks test place mid 1 → OverReady shape code part (mid + 3) end
      → Over shape code marks (test ++ instr.Jz end ∷ part) place end 0
  over_if {marks} test part {place} {mid} {end} first second start r o body =
      let next : Takes 0 (o.after (mid + 3)) = takes-same 0 (o.beyond (mid + 3) (omega arith)) (ready_takes (mid + 3) r (omega arith) (omega arith)) in
      let there : Takes 0 (o.after end) = takes-same 0 (o.beyond end (omega arith)) (ready_takes end r (omega arith) (omega arith)) in
      let j = jz_branches shape code mid end o.here start second next there in
      let ready : IsReady j.after (mid + 3) end = record {
        here = j.next;
        blank = λ q lt lt'. j.between q lt (λ e. absurd (omega arith)) ∙ o.beyond q (omega arith) ∙ r.blank q (omega arith) lt';
        free = λ lt. takes-depth 0 j.there;
      } in
      let b = body j.after ready in
      record {
        after = b.after;
        moves = λ rest.
            ap (λ (xs : List Instr). pass shape code marks (placed place xs)) (append_assoc test (instr.Jz end ∷ part) rest)
            ∙ o.moves (instr.Jz end ∷ (part ++ rest)) ∙ j.moves (part ++ rest) ∙ b.moves rest;
        here = b.here;
        before = λ q le. b.before q (omega arith) ∙ j.before q (omega arith) ∙ o.before q le;
        beyond = λ q lt. b.beyond q lt ∙ j.between q (omega arith) (λ e. absurd (omega arith)) ∙ o.beyond q (omega arith);
      }

  -- a test, a part that runs where it is true, and one that runs where it isn't
  pub over_if_else : {marks : Marks} (test part other : List Instr) {place mid last end : ℕ} → place ≤ mid → mid + 3 ≤ last → last + 3 ≤ end
      → is_start code (last + 3) ≡ true → is_start code end ≡ true → IsReady marks place end
      → Over shape code marks test place mid 1 → OverReady shape code part (mid + 3) last → OverReady shape code other (last + 3) end
      → Over shape code marks (test ++ instr.Jz (last + 3) ∷ (part ++ instr.Jmp end ∷ other)) place end 0
  over_if_else {marks} test part other {place} {mid} {last} {end} le0 le1 le2 start start' r o body behind =
      let begin : ℕ = last + 3 in
      let next : Takes 0 (o.after (mid + 3)) = takes-same 0 (o.beyond (mid + 3) (omega arith)) (ready_takes (mid + 3) r (omega arith) (omega arith)) in
      let there : Takes 0 (o.after begin) = takes-same 0 (o.beyond begin (omega arith)) (ready_takes begin r (omega arith) (omega arith)) in
      let j = jz_branches shape code mid begin o.here start (omega arith) next there in
      let ready : IsReady j.after (mid + 3) last = record {
        here = j.next;
        blank = λ q lt lt'. j.between q lt (λ e. absurd (omega arith)) ∙ o.beyond q (omega arith) ∙ r.blank q (omega arith) (omega arith);
        free = λ lt. takes-blank 0 (j.between last lt (λ e. absurd (omega arith)) ∙ o.beyond last (omega arith) ∙ r.blank last (omega arith) (omega arith));
      } in
      let b = body j.after ready in
      let marked : Marks = mark end 0 b.after in
      let at_begin : b.after begin ≡ Depth 0 = b.beyond begin (omega arith) ∙ j.there in
      let free : Takes 0 (b.after end) = end_free (end == begin) refl b.after at_begin (λ other. takes-same 0 (b.beyond end (omega arith) ∙ j.between end (omega arith) other ∙ o.beyond end (omega arith)) (ready_takes end r (omega arith) (omega arith))) in
      let ready' : IsReady marked begin end = record {
        here = again_depth end 0 begin b.after at_begin;
        blank = λ q lt lt'. mark-elsewhere end 0 q b.after (λ e. absurd (omega arith)) ∙ b.beyond q (omega arith) ∙ j.between q (omega arith) (λ e. absurd (omega arith)) ∙ o.beyond q (omega arith) ∙ r.blank q (omega arith) lt';
        free = λ lt. takes-depth 0 (mark-here end 0 b.after free);
      } in
      let c = behind marked ready' in
      record {
        after = c.after;
        moves = λ rest.
            ap (λ (xs : List Instr). pass shape code marks (placed place xs)) (append_assoc test (instr.Jz begin ∷ (part ++ instr.Jmp end ∷ other)) rest)
            ∙ o.moves (instr.Jz begin ∷ ((part ++ instr.Jmp end ∷ other) ++ rest)) ∙ j.moves ((part ++ instr.Jmp end ∷ other) ++ rest)
            ∙ ap (λ (xs : List Instr). pass shape code j.after (placed (mid + 3) xs)) (append_assoc part (instr.Jmp end ∷ other) rest)
            ∙ b.moves (instr.Jmp end ∷ (other ++ rest)) ∙ jmp_moves shape code b.after last end b.here start' le2 (other ++ rest) ∙ c.moves rest;
        here = c.here;
        before = λ q le. c.before q (omega arith) ∙ mark-elsewhere end 0 q b.after (λ e. absurd (omega arith)) ∙ b.before q (omega arith) ∙ j.before q (omega arith) ∙ o.before q le;
        beyond = λ q lt. c.beyond q lt ∙ mark-elsewhere end 0 q b.after (λ e. absurd (omega arith)) ∙ b.beyond q (omega arith) ∙ j.between q (omega arith) (λ e. absurd (omega arith)) ∙ o.beyond q (omega arith);
      } where
        end_free : (b : Bool) → (end == last + 3) ≡ b → (after : Marks) → after (last + 3) ≡ Depth 0 → (end ≢ last + 3 → Takes 0 (after end)) → Takes 0 (after end)
        end_free true e after at apart = let same : end ≡ last + 3 = eqb-true end (last + 3) e in takes-depth 0 (ap after same ∙ at)
        end_free false e after at apart = apart (eqb-false end (last + 3) e)

  -- a test, a part that runs while it is true, and a step, and back to a place before the test
  pub over_loop : {marks : Marks} (test part step : List Instr) {place again mid last stepped : ℕ} → place ≤ again → again ≤ mid → mid + 3 ≤ last → last ≤ stepped
      → is_start code again ≡ true → is_start code (stepped + 3) ≡ true → IsReady marks place (stepped + 3)
      → (o : Over shape code marks test place mid 1) → o.after again ≡ Depth 0
      → OverReady shape code part (mid + 3) last
      → ((marks' : Marks) → marks' last ≡ Depth 0 → AreBlank marks' last (stepped + 2) → Over shape code marks' step last stepped 0)
      → Over shape code marks (test ++ instr.Jz (stepped + 3) ∷ (part ++ (step ++ instr.Back again ∷ []))) place (stepped + 3) 0
  over_loop {marks} test part step {place} {again} {mid} {last} {stepped} le1 le2 le3 le4 start start' r o at_again body steps =
      let end : ℕ = stepped + 3 in
      let next : Takes 0 (o.after (mid + 3)) = takes-same 0 (o.beyond (mid + 3) (omega arith)) (ready_takes (mid + 3) r (omega arith) (omega arith)) in
      let there : Takes 0 (o.after end) = takes-same 0 (o.beyond end (omega arith)) (ready_takes end r (omega arith) (omega arith)) in
      let j = jz_branches shape code mid end o.here start' (omega arith) next there in
      let ready : IsReady j.after (mid + 3) last = record {
        here = j.next;
        blank = λ q lt lt'. j.between q lt (λ e. absurd (omega arith)) ∙ o.beyond q (omega arith) ∙ r.blank q (omega arith) (omega arith);
        free = λ lt. takes-blank 0 (j.between last lt (λ e. absurd (omega arith)) ∙ o.beyond last (omega arith) ∙ r.blank last (omega arith) (omega arith));
      } in
      let b = body j.after ready in
      let s = steps b.after b.here record { each = λ q lt le. b.beyond q lt ∙ j.between q (omega arith) (λ e. absurd (omega arith)) ∙ o.beyond q (omega arith) ∙ r.blank q (omega arith) (omega arith) } in
      let back : s.after again ≡ Depth 0 = s.before again (omega arith) ∙ b.before again (omega arith) ∙ j.before again le2 ∙ at_again in
      record {
        after = s.after;
        moves = λ rest.
            ap (λ (xs : List Instr). pass shape code marks (placed place xs)) (append_assoc test (instr.Jz end ∷ (part ++ (step ++ instr.Back again ∷ []))) rest)
            ∙ o.moves (instr.Jz end ∷ ((part ++ (step ++ instr.Back again ∷ [])) ++ rest)) ∙ j.moves ((part ++ (step ++ instr.Back again ∷ [])) ++ rest)
            ∙ ap (λ (xs : List Instr). pass shape code j.after (placed (mid + 3) xs)) (append_assoc part (step ++ instr.Back again ∷ []) rest)
            ∙ b.moves ((step ++ instr.Back again ∷ []) ++ rest)
            ∙ ap (λ (xs : List Instr). pass shape code b.after (placed last xs)) (append_assoc step (instr.Back again ∷ []) rest)
            ∙ s.moves (instr.Back again ∷ rest) ∙ back_moves shape code s.after stepped again s.here back start (omega arith) rest;
        here = s.beyond end (omega arith) ∙ b.beyond end (omega arith) ∙ j.there;
        before = λ q le. s.before q (omega arith) ∙ b.before q (omega arith) ∙ j.before q (omega arith) ∙ o.before q le;
        beyond = λ q lt. s.beyond q (omega arith) ∙ b.beyond q (omega arith) ∙ j.between q (omega arith) (λ e. absurd (omega arith)) ∙ o.beyond q (omega arith);
      }
