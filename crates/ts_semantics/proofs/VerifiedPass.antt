-- The pass over parts of code: which marks it needs, and which it leaves.
use Rattle.std.proofs.Common.{◌≡◌, ◌≢◌, ℕ, ◌+◌, ◌<◌, ◌≤◌, List, [], ◌∷◌, ◌++◌, Bool, true, false, Option, None, refl, ap, sym, ◌∙◌, subst, arith, append_assoc}
use Rattle.std.specs.Prelude.{Err}
use Rattle.std.specs.Option.{option_map_or}
use Rattle.std.specs.Prelude.{◌==◌, not, nat_le, ⊤}
use Rattle.std.proofs.lemmas.Bool.{ne_eqb, eq-eqb, le-leb}
use Rattle.mate_num.specs.declared.shape.Shape.{Shape}
use Rattle.mate_code.specs.declared.instr.Instr.{Instr}
use Rattle.mate_code.specs.Code.{placed}
use Rattle.mate_code.specs.Flow.{flow_of, pops_of, is_in_range}
use Rattle.mate_code.specs.declared.flow.Flow.TheVariants.{Next}
use Rattle.mate_code.specs.declared.flow.Flow.{Flow}
use Rattle.mate_code.specs.Instr.{size_of}
use Rattle.mate_code.specs.Run.{Code}
use Rattle.mate_code.specs.declared.fault.VerifyFault.{VerifyFault}
use Rattle.mate_code.specs.Verification.{DepthMark, Blank, Depth, Clash, Marks, given, depth_in, depth_at, is_clash, mark, depth_after, has_target, has_direction, has_back_depth, demand, refusal_at, marks_after, instr_marks, pass}

-- ---- marks

-- a place takes the depth: none was given to it, or the same
abbrev pub Takes : ℕ → DepthMark → Type 0
Takes n Blank = ⊤
Takes n (Depth m) = m ≡ n
Takes n Clash = ⊥

pub takes-blank : (n : ℕ) {m : DepthMark} → m ≡ Blank → Takes n m
takes-blank n {m} blank = let P : DepthMark → Type 0 = λ m. Takes n m in subst P (sym blank) tt

pub takes-depth : (n : ℕ) {m : DepthMark} → m ≡ Depth n → Takes n m
takes-depth n {m} is = let P : DepthMark → Type 0 = λ m. Takes n m in subst P (sym is) refl

pub takes-same : (n : ℕ) {m k : DepthMark} → k ≡ m → Takes n m → Takes n k
takes-same n same takes = let P : DepthMark → Type 0 = λ m. Takes n m in subst P (sym same) takes

pub given-takes : (n : ℕ) (m : DepthMark) → Takes n m → given m n ≡ Depth n
given-takes n Blank takes = refl
given-takes n (Depth m) takes = let e : (m == n) ≡ true = eq-eqb m n takes in rw e (ap Depth takes)
given-takes n Clash takes = absurd takes

pub mark-here : (place n : ℕ) (marks : Marks) → Takes n (marks place) → mark place n marks place ≡ Depth n
mark-here place n marks takes = let e : (place == place) ≡ true = eq-eqb place place refl in rw e (given-takes n (marks place) takes)

pub mark-elsewhere : (place n q : ℕ) (marks : Marks) → q ≢ place → mark place n marks q ≡ marks q
mark-elsewhere place n q marks other = let e : (q == place) ≡ false = ne_eqb q place other in rw e refl

-- ---- one instruction

-- the tests that an instruction passes, at a place of this depth
pub record Passes (shape : Shape) (code : Code) (marks : Marks) (place depth : ℕ) (i : Instr) : Type 0 where
  pub here : marks place ≡ Depth depth
  pub in_range : is_in_range shape i ≡ true
  pub target : has_target code (flow_of i) ≡ true
  pub direction : has_direction place (flow_of i) ≡ true
  pub operands : pops_of shape i ≤ depth
  pub room : depth_after shape i depth ≤ 16
  pub back : has_back_depth marks (depth_after shape i depth) (flow_of i) ≡ true

demands : (a b c d e f g : Bool) (r1 r2 r3 r4 r5 r6 r7 : VerifyFault) → a ≡ true → b ≡ true → c ≡ true → d ≡ true → e ≡ true → f ≡ true → g ≡ true
    → demand a r1 (demand b r2 (demand c r3 (demand d r4 (demand e r5 (demand f r6 (demand g r7 None)))))) ≡ None
demands a b c d e f g r1 r2 r3 r4 r5 r6 r7 p1 p2 p3 p4 p5 p6 p7 = rw (p1, p2, p3, p4, p5, p6, p7) refl

-- the pass goes on behind it
pub passes_step : {shape : Shape} {code : Code} {marks : Marks} {place depth : ℕ} {i : Instr} → Passes shape code marks place depth i → (rest : Code)
    → pass shape code marks ((place, i) ∷ rest) ≡ pass shape code (marks_after (flow_of i) (place + size_of i) (depth_after shape i depth) marks) rest
unfolding pass
passes_step {shape} {code} {marks} {place} {depth} {i} h rest =
    let at : depth_at marks place ≡ depth = ap depth_in h.here in
    let clear : not (is_clash (marks place)) ≡ true = ap (λ (m : DepthMark). not (is_clash m)) h.here in
    let operands : nat_le (pops_of shape i) (depth_at marks place) ≡ true = ap (λ (n : ℕ). nat_le (pops_of shape i) n) at ∙ le-leb (pops_of shape i) depth h.operands in
    let room : nat_le (depth_after shape i (depth_at marks place)) 16 ≡ true = ap (λ (n : ℕ). nat_le (depth_after shape i n) 16) at ∙ le-leb (depth_after shape i depth) 16 h.room in
    let back : has_back_depth marks (depth_after shape i (depth_at marks place)) (flow_of i) ≡ true = ap (λ (n : ℕ). has_back_depth marks (depth_after shape i n) (flow_of i)) at ∙ h.back in
    let none : refusal_at shape code marks place i ≡ None = demands _ _ _ _ _ _ _ _ _ _ _ _ _ _ clear h.in_range h.target h.direction operands room back in
    ap (λ (o : Option VerifyFault). option_map_or Err o (pass shape code (instr_marks shape place i marks) rest)) none
    ∙ ap (λ (n : ℕ). pass shape code (marks_after (flow_of i) (place + size_of i) (depth_after shape i n) marks) rest) at

-- ---- parts of code

-- the pass over instructions from a place to the next: it leaves a depth there, and no mark elsewhere but between the two
pub record Over (shape : Shape) (code : Code) (marks : Marks) (is : List Instr) (place next depth : ℕ) : Type 0 where
  pub after : Marks
  pub moves : (rest : List Instr) → pass shape code marks (placed place (is ++ rest)) ≡ pass shape code after (placed next rest)
  pub here : after next ≡ Depth depth
  pub before : (q : ℕ) → q ≤ place → after q ≡ marks q
  pub beyond : (q : ℕ) → next < q → after q ≡ marks q

-- no depth was given to the places behind this one up to the limit
pub record AreBlank (marks : Marks) (place limit : ℕ) : Type 0 where
  pub each : (q : ℕ) → place < q → q ≤ limit → marks q ≡ Blank

module _ {shape : Shape} {code : Code} where
  pub over_nothing : {marks : Marks} {place depth : ℕ} → marks place ≡ Depth depth → Over shape code marks [] place place depth
  over_nothing {marks} here = record { after = marks; moves = λ rest. refl; here = here; before = λ q le. refl; beyond = λ q lt. refl }

  -- an instruction that goes on at the next place
  pub over_one : {marks : Marks} {place depth : ℕ} {i : Instr} (n : ℕ) → flow_of i ≡ Next → is_in_range shape i ≡ true → marks place ≡ Depth depth
      → pops_of shape i ≤ depth → depth_after shape i depth ≡ n → n ≤ 16 → Takes n (marks (place + size_of i))
      → Over shape code marks (i ∷ []) place (place + size_of i) n
  over_one {marks} {place} {depth} {i} n next in_range here operands leaves room takes =
      let next_place : ℕ = place + size_of i in
      let later : place < next_place = omega arith in
      let h : Passes shape code marks place depth i = record {
        here = here;
        in_range = in_range;
        target = ap (λ (f : Flow). has_target code f) next;
        direction = ap (λ (f : Flow). has_direction place f) next;
        operands = operands;
        room = omega arith;
        back = ap (λ (f : Flow). has_back_depth marks (depth_after shape i depth) f) next;
      } in
      record {
        after = mark next_place n marks;
        moves = λ rest.
            passes_step h (placed next_place rest)
            ∙ ap (λ (f : Flow). pass shape code (marks_after f next_place (depth_after shape i depth) marks) (placed next_place rest)) next
            ∙ ap (λ (m : ℕ). pass shape code (mark next_place m marks) (placed next_place rest)) leaves;
        here = mark-here next_place n marks takes;
        before = λ q le. mark-elsewhere next_place n q marks (λ e. absurd (omega arith));
        beyond = λ q lt. mark-elsewhere next_place n q marks (λ e. absurd (omega arith));
      }

  -- one part after another
  unfoldable pub over_then : {marks : Marks} {is js : List Instr} {place mid next depth n : ℕ} → place ≤ mid → mid ≤ next
      → (o : Over shape code marks is place mid depth) → Over shape code o.after js mid next n → Over shape code marks (is ++ js) place next n
  over_then {marks} {is} {js} {place} {mid} {next} {depth} {n} first second o p =
      record {
        after = p.after;
        moves = λ rest.
            ap (λ (xs : List Instr). pass shape code marks (placed place xs)) (append_assoc is js rest) ∙ o.moves (js ++ rest) ∙ p.moves rest;
        here = p.here;
        before = λ q le. p.before q (omega arith) ∙ o.before q le;
        beyond = λ q lt. p.beyond q lt ∙ o.beyond q (omega arith);
      }

  -- the same place and the same depth, written otherwise
  pub over_to : {marks : Marks} {is : List Instr} {place next next' depth depth' : ℕ} → next ≡ next' → depth ≡ depth'
      → Over shape code marks is place next depth → Over shape code marks is place next' depth'
  over_to {marks} {is} {place} {next} {next'} {depth} {depth'} e f o =
      let P : ℕ → Type 0 = λ k. Over shape code marks is place k depth in
      let Q : ℕ → Type 0 = λ d. Over shape code marks is place next' d in
      subst Q f (subst P e o)

  -- an instruction behind others
  pub over_push : {marks : Marks} {is : List Instr} {place mid depth : ℕ} (i : Instr) (n : ℕ) → place ≤ mid → Over shape code marks is place mid depth
      → flow_of i ≡ Next → is_in_range shape i ≡ true → pops_of shape i ≤ depth → depth_after shape i depth ≡ n → n ≤ 16
      → Takes n (marks (mid + size_of i)) → Over shape code marks (is ++ i ∷ []) place (mid + size_of i) n
  over_push {marks} {is} {place} {mid} {depth} i n le o next in_range operands leaves room takes =
      let later : mid < mid + size_of i = omega arith in
      over_then le (omega arith) o
      (over_one n next in_range o.here operands leaves room (takes-same n (o.beyond (mid + size_of i) later) takes))

-- what is left blank
pub blank_less : {marks : Marks} {place limit : ℕ} (less : ℕ) → less ≤ limit → AreBlank marks place limit → AreBlank marks place less
blank_less less le b = record { each = λ q lt le'. b.each q lt (omega arith) }

pub blank_later : {shape : Shape} {code : Code} {marks : Marks} {is : List Instr} {place mid depth limit : ℕ} → place ≤ mid
    → (o : Over shape code marks is place mid depth) → AreBlank marks place limit → AreBlank o.after mid limit
blank_later le o b = record { each = λ q lt le'. o.beyond q lt ∙ b.each q (omega arith) le' }

pub blank_takes : {marks : Marks} {place limit : ℕ} (n q : ℕ) → AreBlank marks place limit → place < q → q ≤ limit → Takes n (marks q)
blank_takes n q b lt le = takes-blank n (b.each q lt le)
