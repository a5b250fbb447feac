-- What verification says: each instruction is right, with the depths that the pass gave.
use Rattle.std.proofs.Common.{◌≡◌, ◌≢◌, ℕ, ◌+◌, ◌<◌, ◌≤◌, [], ◌∷◌, Bool, true, false, Option, None, Some, Result, Ok, Err, refl, ap, sym, ◌∙◌, arith, subst}
use Rattle.mate_num.specs.Results.{◌>>=◌}
use Rattle.std.specs.Option.{option_map_or}
use Rattle.std.specs.Prelude.{◌==◌, not, nat_lt, nat_le, is_some, if◌then◌else◌}
use Rattle.std.proofs.lemmas.Bool.{eqb-true, ne_eqb, eq-eqb, ltb-true, leb-true}
use Rattle.mate_num.specs.declared.shape.Shape.{Shape}
use Rattle.mate_code.specs.declared.instr.Instr.{Instr}
use Rattle.mate_code.specs.Flow.{flow_of, pops_of, is_in_range}
use Rattle.mate_code.specs.declared.flow.Flow.TheVariants.{Next, Ends, Branches, Jumps, Returns}
use Rattle.mate_code.specs.declared.flow.Flow.{Flow}
use Rattle.mate_code.specs.Instr.{size_of}
use Rattle.mate_code.specs.Run.{Code, fetch, size_of_code}
use Rattle.mate_code.specs.declared.fault.VerifyFault.{VerifyFault}
use Rattle.mate_code.specs.declared.fault.VerifyFault.TheVariants.{DepthDiffers, BadIndex, BadTarget, BackJump, Underflow, Overflow, NoHalt}
use Rattle.mate_code.specs.Verification.{DepthMark, Blank, Depth, Clash, Marks, given, depth_in, depth_at, is_clash, mark, first_marks, depth_after, is_start, has_target, has_direction, has_back_depth, demand, refusal_at, marks_after, instr_marks, pass, is_end, halts, AreFrom, IsVerified, IsPlace, Flows, IsRightInstr, IsSoundCode}

-- ---- code from a place on

is_some-from : {o : Option Instr} (i : Instr) → o ≡ Some i → is_some o ≡ true
is_some-from {o} i e = ap (λ (o : Option Instr). is_some o) e

-- an instruction that stands in code from a place on stands there or later, and ends by its end
pub fetch-range : (at : ℕ) (code : Code) (place : ℕ) (i : Instr) → AreFrom at code → fetch code place ≡ Some i → (at ≤ place) × (place + size_of i ≤ at + size_of_code code)
fetch-range at [] place i from found = cc
fetch-range at (p ∷ code) place i from found = by (p.0 == place) refl found (λ later. fetch-range (at + size_of p.1) code place i from.1 later) where
  by : (b : Bool) → (p.0 == place) ≡ b → (if b then Some p.1 else fetch code place) ≡ Some i → (fetch code place ≡ Some i → (at + size_of p.1 ≤ place) × (place + size_of i ≤ at + size_of p.1 + size_of_code code)) → (at ≤ place) × (place + size_of i ≤ at + size_of_code (p ∷ code))
  by true is found rest =
      let e : p.1 ≡ i = cc in
      let here : p.0 ≡ place = eqb-true p.0 place is in
      let first : p.0 ≡ at = from.0 in
      let whole : size_of_code (p ∷ code) ≡ size_of p.1 + size_of_code code = refl in
      let P : Instr → Type 0 = λ j. place + size_of j ≤ at + size_of_code (p ∷ code) in
      (omega arith, subst P e (omega arith))
  by false is found rest =
      let h = rest found in
      let e : size_of_code (p ∷ code) ≡ size_of p.1 + size_of_code code = refl in
      (omega (arith, h.0), omega (arith, h.1))

-- the first instruction of code from a place on
fetch-first : (p : ℕ × Instr) (code : Code) → fetch (p ∷ code) p.0 ≡ Some p.1
fetch-first p code = let e : (p.0 == p.0) ≡ true = eq-eqb p.0 p.0 refl in rw e refl

-- a later one
fetch-later : (p : ℕ × Instr) (code : Code) (place : ℕ) → p.0 ≢ place → fetch (p ∷ code) place ≡ fetch code place
fetch-later p code place other = let e : (p.0 == place) ≡ false = ne_eqb p.0 place other in rw e refl

fetch-rest : (at : ℕ) (p : ℕ × Instr) (code : Code) (place : ℕ) (i : Instr) → AreFrom at (p ∷ code) → fetch code place ≡ Some i → fetch (p ∷ code) place ≡ Some i
fetch-rest at p code place i from found =
    let h = fetch-range (at + size_of p.1) code place i from.1 found in
    let first : p.0 ≡ at = from.0 in
    fetch-later p code place (λ e. absurd (omega (arith, h.0))) ∙ found

-- ---- what is given to a place

-- the place was given this depth
abbrev Holds : ℕ → DepthMark → Type 0
Holds n Blank = ⊥
Holds n (Depth m) = m ≡ n
Holds n Clash = Unit {0}

given-Holds : (n : ℕ) (m : DepthMark) → Holds n (given m n)
given-Holds n Blank = refl
given-Holds n (Depth m) = by (m == n) refl where
  by : (b : Bool) → (m == n) ≡ b → Holds n (if b then Depth m else Clash)
  by true is = eqb-true m n is
  by false is = tt
given-Holds n Clash = tt

given-keeps : (n k : ℕ) (m : DepthMark) → Holds n m → Holds n (given m k)
given-keeps n k Blank holds = absurd holds
given-keeps n k (Depth m) holds = by (m == k) where
  by : (b : Bool) → Holds n (if b then Depth m else Clash)
  by true = holds
  by false = tt
given-keeps n k Clash holds = tt

mark-Holds : (place n : ℕ) (marks : Marks) → Holds n (mark place n marks place)
mark-Holds place n marks = let e : (place == place) ≡ true = eq-eqb place place refl in rw e (given-Holds n (marks place))

mark-keeps : (place n q k : ℕ) (marks : Marks) → Holds n (marks q) → Holds n (mark place k marks q)
mark-keeps place n q k marks holds = by (q == place) where
  by : (b : Bool) → Holds n (if b then given (marks q) k else marks q)
  by true = given-keeps n k (marks q) holds
  by false = holds

mark-other : (place n q : ℕ) (marks : Marks) → q ≢ place → mark place n marks q ≡ marks q
mark-other place n q marks other = let e : (q == place) ≡ false = ne_eqb q place other in rw e refl

Holds-depth : (n : ℕ) (m : DepthMark) → Holds n m → is_clash m ≡ false → depth_in m ≡ n
Holds-depth n Blank holds clear = absurd holds
Holds-depth n (Depth m) holds clear = holds
Holds-depth n Clash holds clear = cc

marks_after-keeps : (flow : Flow) (next depth n q : ℕ) (marks : Marks) → Holds n (marks q) → Holds n (marks_after flow next depth marks q)
marks_after-keeps Next next depth n q marks holds = mark-keeps next n q depth marks holds
marks_after-keeps Ends next depth n q marks holds = holds
marks_after-keeps (Branches target) next depth n q marks holds =
    mark-keeps next n q depth (mark target depth marks) (mark-keeps target n q depth marks holds)
marks_after-keeps (Jumps target) next depth n q marks holds = mark-keeps target n q depth marks holds
marks_after-keeps (Returns target) next depth n q marks holds = holds

ltb-lt : (a b : ℕ) → nat_lt a b ≡ true → a < b
ltb-lt a b e = ltb-true a b e

-- an instruction gives depths to later places alone
marks_after-before : (flow : Flow) (place next depth q : ℕ) (marks : Marks) → has_direction place flow ≡ true → place < next → q ≤ place → marks_after flow next depth marks q ≡ marks q
marks_after-before Next place next depth q marks forward later le = mark-other next depth q marks (λ e. absurd (omega arith))
marks_after-before Ends place next depth q marks forward later le = refl
marks_after-before (Branches target) place next depth q marks forward later le =
    let f = ltb-lt place target forward in
    mark-other next depth q (mark target depth marks) (λ e. absurd (omega arith)) ∙ mark-other target depth q marks (λ e. absurd (omega arith))
marks_after-before (Jumps target) place next depth q marks forward later le =
    let f = ltb-lt place target forward in mark-other target depth q marks (λ e. absurd (omega arith))
marks_after-before (Returns target) place next depth q marks forward later le = refl

-- ---- one instruction of the pass

demand-None : (b : Bool) (refusal : VerifyFault) (rest : Option VerifyFault) → demand b refusal rest ≡ None → (b ≡ true) × (rest ≡ None)
demand-None true refusal rest e = (refl, e)
demand-None false refusal rest e = cc

-- the tests that an instruction passed
record Passes (shape : Shape) (code : Code) (marks : Marks) (place : ℕ) (i : Instr) : Type 0 where
  clear : not (is_clash (marks place)) ≡ true
  in_range : is_in_range shape i ≡ true
  target : has_target code (flow_of i) ≡ true
  direction : has_direction place (flow_of i) ≡ true
  operands : nat_le (pops_of shape i) (depth_at marks place) ≡ true
  room : nat_le (depth_after shape i (depth_at marks place)) 16 ≡ true
  back : has_back_depth marks (depth_after shape i (depth_at marks place)) (flow_of i) ≡ true

passes_from : (shape : Shape) (code : Code) (marks : Marks) (place : ℕ) (i : Instr) → refusal_at shape code marks place i ≡ None → Passes shape code marks place i
passes_from shape code marks place i none =
    let depth : ℕ = depth_at marks place in
    let after : ℕ = depth_after shape i depth in
    let r7 : Option VerifyFault = demand (has_back_depth marks after (flow_of i)) (DepthDiffers place) None in
    let r6 : Option VerifyFault = demand (nat_le after 16) (Overflow place) r7 in
    let r5 : Option VerifyFault = demand (nat_le (pops_of shape i) depth) (Underflow place) r6 in
    let r4 : Option VerifyFault = demand (has_direction place (flow_of i)) (BackJump place) r5 in
    let r3 : Option VerifyFault = demand (has_target code (flow_of i)) (BadTarget place) r4 in
    let r2 : Option VerifyFault = demand (is_in_range shape i) (BadIndex place) r3 in
    let t1 = demand-None (not (is_clash (marks place))) (DepthDiffers place) r2 none in
    let t2 = demand-None (is_in_range shape i) (BadIndex place) r3 t1.1 in
    let t3 = demand-None (has_target code (flow_of i)) (BadTarget place) r4 t2.1 in
    let t4 = demand-None (has_direction place (flow_of i)) (BackJump place) r5 t3.1 in
    let t5 = demand-None (nat_le (pops_of shape i) depth) (Underflow place) r6 t4.1 in
    let t6 = demand-None (nat_le after 16) (Overflow place) r7 t5.1 in
    let t7 = demand-None (has_back_depth marks after (flow_of i)) (DepthDiffers place) None t6.1 in
    record { clear = t1.0; in_range = t2.0; target = t3.0; direction = t4.0; operands = t5.0; room = t6.0; back = t7.0 }

unless-Ok : (o : Option VerifyFault) (rest : Result Marks VerifyFault) (final : Marks) → option_map_or Err o rest ≡ Ok final → (o ≡ None) × (rest ≡ Ok final)
unless-Ok None rest final e = (refl, e)
unless-Ok (Some refusal) rest final e = cc

-- ---- the pass

-- the parts of a pass that comes to its end
record Head (shape : Shape) (code : Code) (marks : Marks) (p : ℕ × Instr) (rest : Code) (final : Marks) : Type 0 where
  passes : Passes shape code marks p.0 p.1
  tail : pass shape code (instr_marks shape p.0 p.1 marks) rest ≡ Ok final

pass-Head : (shape : Shape) (code : Code) (marks : Marks) (p : ℕ × Instr) (rest : Code) (final : Marks) → pass shape code marks (p ∷ rest) ≡ Ok final → Head shape code marks p rest final
unfolding pass
pass-Head shape code marks p rest final e =
    let h = unless-Ok (refusal_at shape code marks p.0 p.1) (pass shape code (instr_marks shape p.0 p.1 marks) rest) final e in
    record { passes = passes_from shape code marks p.0 p.1 h.0; tail = h.1 }

-- what was given to places up to the pass's own is kept
pass-before : (shape : Shape) (code : Code) (at : ℕ) (marks : Marks) (rest : Code) (final : Marks) (q : ℕ) → AreFrom at rest → pass shape code marks rest ≡ Ok final → q ≤ at → final q ≡ marks q
unfolding pass
pass-before shape code at marks [] final q from e le = let f : marks ≡ final = cc in ap (λ (m : Marks). m q) (sym f)
pass-before shape code at marks (p ∷ rest) final q from e le =
    let h = pass-Head shape code marks p rest final e in
    let first : p.0 ≡ at = from.0 in
    pass-before shape code (at + size_of p.1) (instr_marks shape p.0 p.1 marks) rest final q from.1 h.tail (omega arith)
    ∙ marks_after-before (flow_of p.1) p.0 (p.0 + size_of p.1) (depth_after shape p.1 (depth_at marks p.0)) q marks h.passes.direction (omega arith) (omega arith)

clear_is : (b : Bool) → not b ≡ true → b ≡ false
clear_is true e = sym e
clear_is false e = refl

-- what was given to a place of the rest is its depth in the end
pass-Holds : (shape : Shape) (code : Code) (at : ℕ) (marks : Marks) (rest : Code) (final : Marks) (q n : ℕ) (i : Instr) → AreFrom at rest → pass shape code marks rest ≡ Ok final → fetch rest q ≡ Some i → Holds n (marks q) → depth_at final q ≡ n
pass-Holds shape code at marks [] final q n i from e found holds = cc
pass-Holds shape code at marks (p ∷ rest) final q n i from e found holds =
    let h = pass-Head shape code marks p rest final e in
    let first : p.0 ≡ at = from.0 in
    by (p.0 == q) refl found h.passes first
    (λ later. pass-Holds shape code (at + size_of p.1) (instr_marks shape p.0 p.1 marks) rest final q n i from.1 h.tail later
    (marks_after-keeps (flow_of p.1) (p.0 + size_of p.1) (depth_after shape p.1 (depth_at marks p.0)) n q marks holds)) where
      by : (b : Bool) → (p.0 == q) ≡ b → (if b then Some p.1 else fetch rest q) ≡ Some i → Passes shape code marks p.0 p.1 → p.0 ≡ at → (fetch rest q ≡ Some i → depth_at final q ≡ n) → depth_at final q ≡ n
      by true is found passes first later =
          let here : p.0 ≡ q = eqb-true p.0 q is in
          let kept : final q ≡ marks q = pass-before shape code at marks (p ∷ rest) final q from e (omega arith) in
          let P : ℕ → Type 0 = λ k. is_clash (marks k) ≡ false in
          ap depth_in kept ∙ Holds-depth n (marks q) holds (subst P here (clear_is (is_clash (marks p.0)) passes.clear))
      by false is found passes first later = later found

-- ---- the whole code

-- what the pass tells of one instruction and what comes after it
module _ (shape : Shape) (code : Code) (final : Marks) where
  -- the rest of the code, from a place on
  record IsRest (at : ℕ) (rest : Code) : Type 0 where
    from : AreFrom at rest
    within : (q : ℕ) (i : Instr) → fetch rest q ≡ Some i → fetch code q ≡ Some i
    all : (q : ℕ) (i : Instr) → at ≤ q → fetch code q ≡ Some i → fetch rest q ≡ Some i
    ends : rest ≢ [] → halts rest ≡ true

  -- a later place that was given a depth
  given_place : (at : ℕ) (marks : Marks) (rest : Code) (q n : ℕ) → IsRest at rest → pass shape code marks rest ≡ Ok final → at ≤ q → is_start code q ≡ true → Holds n (marks q) → IsPlace code (depth_at final) q n
  given_place at marks rest q n is e le start holds = by (fetch code q) refl start where
    by : (o : Option Instr) → fetch code q ≡ o → is_some o ≡ true → IsPlace code (depth_at final) q n
    by None found start = cc
    by (Some i) found _ = record { start = start; depth_is = pass-Holds shape code at marks rest final q n i is.from e (is.all q i le found) holds }

  module _ (at : ℕ) (p : ℕ × Instr) (rest : Code) (is : IsRest at (p ∷ rest)) where
    tail_ends : rest ≢ [] → halts rest ≡ true
    tail_ends more = by rest more (is.ends (λ e. cc)) where
      by : (code : Code) → code ≢ [] → halts (p ∷ code) ≡ true → halts code ≡ true
      by [] more ends = absurd (more refl)
      by (q ∷ code) more ends = ends

    next_rest : IsRest (at + size_of p.1) rest
    next_rest =
        record {
          from = is.from.1;
          within = λ q i found. is.within q i (fetch-rest at p rest q i is.from found);
          all = λ q i le found.
              let first : p.0 ≡ at = is.from.0 in
              sym (fetch-later p rest q (λ e. absurd (omega arith))) ∙ is.all q i (omega arith) found;
          ends = tail_ends;
        }

    -- the next place the instruction is the last
    next_place : (marks : Marks) (n : ℕ) → pass shape code marks rest ≡ Ok final → rest ≢ [] → Holds n (marks (at + size_of p.1)) → IsPlace code (depth_at final) (at + size_of p.1) n
    next_place marks n e more holds = by rest refl more where
      by : (code' : Code) → rest ≡ code' → code' ≢ [] → IsPlace code (depth_at final) (at + size_of p.1) n
      by [] same more = absurd (more refl)
      by (q ∷ later) same more =
          let P : Code → Type 0 = λ c. AreFrom (at + size_of p.1) c in
          let from = subst P same next_rest.from in
          let first : q.0 ≡ at + size_of p.1 = from.0 in
          let found : fetch rest (at + size_of p.1) ≡ Some q.1 =
          ap (λ (c : Code). fetch c (at + size_of p.1)) same ∙ ap (λ (k : ℕ). fetch (q ∷ later) k) (sym first) ∙ fetch-first q later in
          given_place (at + size_of p.1) marks rest (at + size_of p.1) n next_rest e (omega arith)
          (is_some-from q.1 (next_rest.within (at + size_of p.1) q.1 found)) holds

    -- a target that lies forward
    forward_place : (marks : Marks) (target n : ℕ) → pass shape code marks rest ≡ Ok final → p.0 < target → is_start code target ≡ true → Holds n (marks target) → IsPlace code (depth_at final) target n
    forward_place marks target n e forward start holds = by (fetch code target) refl start where
      by : (o : Option Instr) → fetch code target ≡ o → is_some o ≡ true → IsPlace code (depth_at final) target n
      by None found start = cc
      by (Some i) found _ =
          let first : p.0 ≡ at = is.from.0 in
          let there : fetch rest target ≡ Some i = sym (fetch-later p rest target (λ e. absurd (omega arith))) ∙ is.all target i (omega arith) found in
          let range = fetch-range (at + size_of p.1) rest target i next_rest.from there in
          given_place (at + size_of p.1) marks rest target n next_rest e range.0 start holds

    -- where the instruction goes on
    flows : (flow : Flow) (d : ℕ) (marks : Marks) → pass shape code (marks_after flow (at + size_of p.1) d marks) rest ≡ Ok final → has_target code flow ≡ true → has_direction p.0 flow ≡ true → has_back_depth marks d flow ≡ true → (rest ≡ [] → is_end flow ≡ true) → ((q : ℕ) → q ≤ at → final q ≡ marks q) → Flows code (depth_at final) p.0 (at + size_of p.1) d flow
    flows Next d marks e target direction back last before =
        next_place (mark (at + size_of p.1) d marks) d e (λ empty. let h = last empty in cc) (mark-Holds (at + size_of p.1) d marks)
    flows Ends d marks e target direction back last before = tt
    flows (Branches t) d marks e target direction back last before =
        let lt : p.0 < t = ltb-lt p.0 t direction in
        let marks' : Marks = mark (at + size_of p.1) d (mark t d marks) in (
          next_place marks' d e (λ empty. let h = last empty in cc) (mark-Holds (at + size_of p.1) d (mark t d marks)),
          forward_place marks' t d e lt target (mark-keeps (at + size_of p.1) d t d (mark t d marks) (mark-Holds t d marks)),
          lt,
        )
    flows (Jumps t) d marks e target direction back last before =
        let lt : p.0 < t = ltb-lt p.0 t direction in
        (forward_place (mark t d marks) t d e lt target (mark-Holds t d marks), lt)
    flows (Returns t) d marks e target direction back last before =
        let le : t ≤ p.0 = leb-true t p.0 direction in
        let first : p.0 ≡ at = is.from.0 in
        (record { start = target; depth_is = ap depth_in (before t (omega arith)) ∙ eqb-true (depth_at marks t) d back }, le)

    right_first : (marks : Marks) → pass shape code marks (p ∷ rest) ≡ Ok final → IsRightInstr shape code (depth_at final) p.0 p.1
    right_first marks e =
        let h = pass-Head shape code marks p rest final e in
        let first : p.0 ≡ at = is.from.0 in
        let before : (q : ℕ) → q ≤ at → final q ≡ marks q = λ q le. pass-before shape code at marks (p ∷ rest) final q is.from e le in
        let depth : depth_at final p.0 ≡ depth_at marks p.0 = ap depth_in (before p.0 (omega arith)) in
        let d : ℕ = depth_after shape p.1 (depth_at marks p.0) in
        let after : depth_after shape p.1 (depth_at final p.0) ≡ d = ap (λ (n : ℕ). depth_after shape p.1 n) depth in
        let next : p.0 + size_of p.1 ≡ at + size_of p.1 = ap (λ (n : ℕ). n + size_of p.1) first in
        let last : rest ≡ [] → is_end (flow_of p.1) ≡ true = λ empty. (let P : Code → Type 0 = λ c. halts (p ∷ c) ≡ true in subst P empty (is.ends (λ e. cc))) in
        let T : ℕ → Type 0 = λ k. pass shape code (marks_after (flow_of p.1) k d marks) rest ≡ Ok final in
        let F : ℕ → Type 0 = λ k. Flows code (depth_at final) p.0 k (depth_after shape p.1 (depth_at final p.0)) (flow_of p.1) in
        let G : ℕ → Type 0 = λ n. Flows code (depth_at final) p.0 (at + size_of p.1) n (flow_of p.1) in
        let at_d = flows (flow_of p.1) d marks (subst T next h.tail) h.passes.target h.passes.direction h.passes.back last before in
        let operands : pops_of shape p.1 ≤ depth_at marks p.0 = leb-true (pops_of shape p.1) (depth_at marks p.0) h.passes.operands in
        let room : d ≤ 16 = leb-true d 16 h.passes.room in
        record {
          names = h.passes.in_range;
          operands = omega arith;
          room = omega arith;
          flow = subst F (sym next) (subst G (sym after) at_d);
        }

  right_each : (at : ℕ) (marks : Marks) (rest : Code) → IsRest at rest → pass shape code marks rest ≡ Ok final → (place : ℕ) (i : Instr) → fetch rest place ≡ Some i → IsRightInstr shape code (depth_at final) place i
  right_each at marks [] is e place i found = cc
  right_each at marks (p ∷ rest) is e place i found =
      let h = pass-Head shape code marks p rest final e in
      by (p.0 == place) refl found (λ later. right_each (at + size_of p.1) (instr_marks shape p.0 p.1 marks) rest (next_rest at p rest is) h.tail place i later) where
        by : (b : Bool) → (p.0 == place) ≡ b → (if b then Some p.1 else fetch rest place) ≡ Some i → (fetch rest place ≡ Some i → IsRightInstr shape code (depth_at final) place i) → IsRightInstr shape code (depth_at final) place i
        by true same found later =
            let here : p.0 ≡ place = eqb-true p.0 place same in
            let it : p.1 ≡ i = cc in
            let P : ℕ → Type 0 = λ k. IsRightInstr shape code (depth_at final) k i in
            let Q : Instr → Type 0 = λ j. IsRightInstr shape code (depth_at final) p.0 j in
            subst P here (subst Q it (right_first at p rest is marks e))
        by false same found later = later found

if_halts-Ok : (b : Bool) (r : Result Marks VerifyFault) (final : Marks) → (r >>= (λ marks. if b then Ok marks else Err NoHalt)) ≡ Ok final → (b ≡ true) × (r ≡ Ok final)
if_halts-Ok true (Ok marks) final e = (refl, e)
if_halts-Ok false (Ok marks) final e = cc
if_halts-Ok true (Err refusal) final e = cc
if_halts-Ok false (Err refusal) final e = cc

first_place : (code : Code) (marks : Marks) (shape : Shape) → AreFrom 0 code → halts code ≡ true → pass shape code first_marks code ≡ Ok marks → IsPlace code (depth_at marks) 0 0
first_place [] marks shape from ends e = cc
first_place (p ∷ code) marks shape from ends e =
    let found : fetch (p ∷ code) 0 ≡ Some p.1 = ap (λ (k : ℕ). fetch (p ∷ code) k) (sym from.0) ∙ fetch-first p code in
    record {
      start = is_some-from p.1 found;
      depth_is = pass-Holds shape (p ∷ code) 0 first_marks (p ∷ code) marks 0 0 p.1 from e found (mark-Holds 0 0 (λ _. Blank));
    }

-- verified code is sound
pub verified-IsSound : {shape : Shape} {code : Code} {marks : Marks} → IsVerified shape code marks → IsSoundCode shape code (depth_at marks)
verified-IsSound {shape} {code} {marks} v =
    let h = if_halts-Ok (halts code) (pass shape code first_marks code) marks v.passed in
    let is : IsRest shape code marks 0 code = record { from = v.places; within = λ q i found. found; all = λ q i le found. found; ends = λ more. h.0 } in
    record {
      begins = first_place code marks shape v.places h.0 h.1;
      each = λ place i found. right_each shape code marks 0 first_marks code is h.1 place i found;
    }
