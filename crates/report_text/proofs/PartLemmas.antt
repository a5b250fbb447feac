-- What the code keeps of the lines that it has read.
use Rattle.std.proofs.Common.{◌≡◌, ℕ, zero, suc, ◌+◌, ◌<◌, ◌≤◌, ◌==◌, nat_le, ◌&&◌, max, true, false, cond, List, [], ◌∷◌, ◌++◌, length, map, take, get_or, None, Err, refl, sym, ap, subst, ◌∙◌, arith, inl, inr, append-nil, length-append}
use Rattle.std.specs.Prelude.{All, fold, flat_map}
use Rattle.std.specs.List.{AllZip}
use Rattle.std.proofs.lemmas.Bool.{cases_Bool, cond-true, cond-false, and_parts, and_from, eqb-true, eq-eqb, leb-true, le-leb, false≢true}
use Rattle.std.proofs.lemmas.Grind.{flat_map-append}
use Rattle.std.proofs.lemmas.List.Elements.{All-nil, All-cons, All-head, All-tail, All-push, AllZip-push}
use Rattle.vm_shape.specs.declared.description.Description.{Description}
use Rattle.mate_num.specs.declared.call.Stamp.{Stamp}
use Rattle.mate_journal.specs.Log.{Log, IsSameLog, IsEmpty}
use Rattle.mate_journal.specs.Tidy.{below}
use Rattle.mate_journal.specs.declared.air.Air.{Air}
use Rattle.mate_journal.specs.declared.air.Air.TheVariants as air
use Rattle.mate_journal.specs.declared.report.Report.{Report}
use Rattle.report_writer.specs.Tidy.{IsAirInRange}
use Rattle.report_line_reader.specs.declared.line.Line.{Line}
use Rattle.report_line_reader.specs.declared.line.Told.{Told}
use Rattle.report_line_reader.specs.declared.line.Told.TheVariants as told
use Rattle.report_line_reader.specs.Told.{IsRightAir, IsRightTold}
use Rattle.report_text.specs.Fits.{IsSound, IsToldBelow, IsLineBelow, FitsLast}
use Rattle.report_text.specs.LastLines.{HasLastRanges}
use Rattle.report_text.specs.Parts.{stamped, log_with_line, log_after, no_log, log_of, aired_of, air_told, logs_of, report_of, IsSameReport, node_in_air, node_named, nodes_in}
use Rattle.report_text.specs.Places.{admits_next, IsPlaceAfter}
use Rattle.report_text.specs.Steps.{AreLogsOf, HasRead, TakesLine, AddsLine, AreShort, fits_last}
use Rattle.report_text.specs.declared.last_line.LastLine.{LastLine}
use Rattle.report_text.specs.declared.parts.Parts.{Parts}
use Rattle.report_text.specs.declared.fault.TextFault.{TextFault}
use Rattle.report_text.specs.declared.fault.TextFault.TheVariants.{BadLine}
use Rattle.report_text.proofs.OrderLemmas.{no_lines, next_order, next_place, next_taken}

-- ---- one more line

pub fold-push : {A B : Type 0} (f : A → B → A) (a : A) (xs : List B) (y : B) → fold f a (xs ++ y ∷ []) ≡ f (fold f a xs) y
fold-push f a [] y = refl
fold-push f a (x ∷ xs) y = fold-push f (f a x) xs y

pub log_of-push : (node : ℕ) (ls : List Line) (l : Line) → log_of node (ls ++ l ∷ []) ≡ log_after node (log_of node ls) l
log_of-push node ls l = fold-push (log_after node) no_log ls l

pub air_told-push : (ls : List Line) (l : Line) → air_told (ls ++ l ∷ []) ≡ air_told ls ++ aired_of l
air_told-push ls l = flat_map-append aired_of ls (l ∷ []) ∙ ap (λ (xs : _). air_told ls ++ xs) (append-nil (aired_of l))

-- ---- logs stay short

more_images : (l : Log) (at : Stamp) (t : Told) → length (log_with_line l at t).images ≤ suc (length l.images)
more_images l at (told.Installed h version image) = let n = length-append l.images (image ∷ []) in omega (arith, n)
more_images l at _ = omega arith

more_stores : (l : Log) (at : Stamp) (t : Told) → length (log_with_line l at t).stores ≤ suc (length l.stores)
more_stores l at (told.Shown s) = let n = length-append l.stores (s ∷ []) in omega (arith, n)
more_stores l at _ = omega arith

record IsShort (l : Log) (i s n : ℕ) : Type 0 where
  images : length l.images ≤ i + n
  stores : length l.stores ≤ s + n

short_after : (node : ℕ) (a : Log) (l : Line) → IsShort (log_after node a l) (length a.images) (length a.stores) 1
short_after node a l =
    let images = more_images a l.stamp l.told in
    let stores = more_stores a l.stamp l.told in
    elim (cases_Bool (l.node == node)) [
      | inl here ↦
          subst (λ (x : Log). IsShort x (length a.images) (length a.stores) 1) (sym (cond-true (l.node == node) (log_with_line a l.stamp l.told) a here))
          (record { images = omega (arith, images); stores = omega (arith, stores) })
      | inr other ↦
          subst (λ (x : Log). IsShort x (length a.images) (length a.stores) 1) (sym (cond-false (l.node == node) (log_with_line a l.stamp l.told) a other))
          (record { images = omega arith; stores = omega arith })
    ]

short_all : (node : ℕ) (a : Log) (ls : List Line) → IsShort (fold (log_after node) a ls) (length a.images) (length a.stores) (length ls)
short_all node a [] = record { images = omega arith; stores = omega arith }
short_all node a (l ∷ ls) =
    let one = short_after node a l in
    let more = short_all node (log_after node a l) ls in
    let i = one.images in
    let s = one.stores in
    let j = more.images in
    let t = more.stores in
    record { images = omega (arith, i, j); stores = omega (arith, s, t) }

pub read_short : (d : Description) (ls : List Line) (p : Parts) → HasRead d ls p → p.count < 4000000000 → AreShort p.logs.items
read_short d ls p h few = λ k e q.
    let n = h.logs.count in
    let same = h.logs.same k e (omega (arith, n, q)) in
    let short = short_all k no_log ls in
    let images = ap (λ (xs : List _). length xs) same.images in
    let stores = ap (λ (xs : List _). length xs) same.stores in
    let i = short.images in
    let s = short.stores in
    let c = h.count in
    (omega (arith, images, i, c, few), omega (arith, stores, s, c, few))

-- ---- the next line

same_with_line : (a b : Log) (at : Stamp) (t : Told) → IsSameLog a b → IsSameLog (log_with_line a at t) (log_with_line b at t)
same_with_line a b at (told.OnAir x) s = s
same_with_line a b at (told.Made e) s = record { entries = ap (λ (xs : List _). xs ++ stamped at e ∷ []) s.entries; images = s.images; stores = s.stores }
same_with_line a b at (told.Installed h version image) s =
    let n = ap (λ (xs : List _). length xs) s.images in
    record { entries = rw (s.entries, n) refl; images = ap (λ (xs : List _). xs ++ image ∷ []) s.images; stores = s.stores }
same_with_line a b at (told.Shown x) s =
    let n = ap (λ (xs : List _). length xs) s.stores in
    record { entries = rw (s.entries, n) refl; images = s.images; stores = ap (λ (xs : List _). xs ++ x ∷ []) s.stores }

pub same_trans : (a b c : Log) → IsSameLog a b → IsSameLog b c → IsSameLog a c
same_trans a b c s t = record { entries = s.entries ∙ t.entries; images = s.images ∙ t.images; stores = s.stores ∙ t.stores }

logs_next : (ls : List Line) (l : Line) (old new : Parts) → AreLogsOf ls old.logs.items → AddsLine l old new → AreLogsOf (ls ++ l ∷ []) new.logs.items
logs_next ls l old new h a = record {
  count = a.logs ∙ h.count;
  same = λ node d q.
      let before = h.same node d q in
      elim (cases_Bool (l.node == node)) [
        | inl here ↦
            let e : l.node ≡ node = eqb-true l.node node here in
            let is : log_of node (ls ++ l ∷ []) ≡ log_with_line (log_of node ls) l.stamp l.told =
            log_of-push node ls l ∙ cond-true (l.node == node) (log_with_line (log_of node ls) l.stamp l.told) (log_of node ls) here in
            let now : IsSameLog (get_or new.logs.items node d) (log_with_line (get_or old.logs.items node d) l.stamp l.told) =
            subst (λ (k : ℕ). IsSameLog (get_or new.logs.items k d) (log_with_line (get_or old.logs.items k d) l.stamp l.told)) e (a.here d) in
            subst (IsSameLog (get_or new.logs.items node d)) (sym is)
            (same_trans (get_or new.logs.items node d) (log_with_line (get_or old.logs.items node d) l.stamp l.told) (log_with_line (log_of node ls) l.stamp l.told) now
            (same_with_line (get_or old.logs.items node d) (log_of node ls) l.stamp l.told before))
        | inr other ↦
            let is : log_of node (ls ++ l ∷ []) ≡ log_of node ls = log_of-push node ls l ∙ cond-false (l.node == node) (log_with_line (log_of node ls) l.stamp l.told) (log_of node ls) other in
            let now : get_or new.logs.items node d ≡ get_or old.logs.items node d = a.others node d (λ e. false≢true (sym other ∙ eq-eqb l.node node (sym e))) in
            subst (IsSameLog (get_or new.logs.items node d)) (sym is) (subst (λ (x : Log). IsSameLog x (log_of node ls)) (sym now) before)
      ];
}

pub read_next : (d : Description) (ls : List Line) (l : Line) (old new : Parts) → HasRead d ls old → IsSound d l → admits_next old.place l ≡ true → AddsLine l old new
    → HasRead d (ls ++ l ∷ []) new
read_next d ls l old new h sound taken a = record {
  fitting = record { sound = All-push (IsSound d) ls l h.fitting.sound sound; order = next_order ls old.place l h.fitting.order h.place taken };
  logs = logs_next ls l old new h.logs a;
  air = a.air ∙ ap (λ (xs : List _). xs ++ aired_of l) h.air ∙ sym (air_told-push ls l);
  place = subst (IsPlaceAfter (ls ++ l ∷ [])) (sym a.place) (next_place ls old.place l h.place taken);
  count = (let n = length-append ls (l ∷ []) in let c = a.count in let b = h.count in omega (arith, n, c, b));
  nodes = a.nodes ∙ ap (λ (n : ℕ). max n (nodes_in l)) h.nodes ∙ sym (fold-push (λ n x. max n (nodes_in x)) 0 ls l);
}

pub takes_no : (d : Description) (ls : List Line) (l : Line) (p new : Parts) (f : TextFault) → f ≡ BadLine (p.count + 1) → HasRead d ls p → admits_next p.place l ≡ false
    → TakesLine d ls l new (Err f)
takes_no d ls l p new f is h refused =
    let c = h.count in
    let this : TakesLine d ls l new (Err (BadLine (p.count + 1))) =
    (λ fitting. false≢true (sym refused ∙ next_taken ls p.place l h.place fitting.order), omega (arith, c)) in
    subst (λ (x : TextFault). TakesLine d ls l new (Err x)) (sym is) this

-- ---- before the first line

pub no_read : (d : Description) (p : Parts) → length p.logs.items ≡ 64 → All IsEmpty p.logs.items → p.air ≡ [] → p.place ≡ None → p.count ≡ 0 → p.nodes ≡ 0 → HasRead d [] p
no_read d p count empty on_air place n nodes = record {
  fitting = record { sound = All-nil (IsSound d); order = no_lines };
  logs = record {
    count = count;
    same = λ node e q. (let x = empty node e (omega (arith, count, q)) in record { entries = x.entries; images = x.images; stores = x.stores });
  };
  air = on_air;
  place = subst (IsPlaceAfter []) (sym place) refl;
  count = n;
  nodes = nodes;
}

-- ---- the last line

in_range-below : (n : ℕ) (a : Air) → IsRightAir a → node_in_air a < n → IsAirInRange n a
in_range-below n (air.Interval length) right h = tt
in_range-below n air.Keep right h = tt
in_range-below n (air.Sent k bytes) right h = right
in_range-below n (air.Lost k to) right h = h
in_range-below n (air.Got k from) right h = h
in_range-below n (air.Noise bytes) right h = right

below-in_range : (n : ℕ) (a : Air) → 0 < n → IsAirInRange n a → node_in_air a < n
below-in_range n (air.Lost k to) some h = h
below-in_range n (air.Got k from) some h = h
below-in_range n _ some h = some

told-below : (d : Description) (n : ℕ) (t : Told) → IsRightTold d t → node_named t < n → IsToldBelow n t
told-below d n (told.OnAir a) right h = in_range-below n a right h
told-below d n _ right h = tt

below-told : (n : ℕ) (t : Told) → 0 < n → IsToldBelow n t → node_named t < n
below-told n (told.OnAir a) some h = below-in_range n a some h
below-told n _ some h = some

line-below : (d : Description) (n : ℕ) (l : Line) → IsSound d l → nodes_in l ≤ n → IsLineBelow n l
line-below d n l sound h = record { node = omega (arith, h); told = told-below d n l.told sound.right.told (omega (arith, h)) }

below-line : (n : ℕ) (l : Line) → IsLineBelow n l → nodes_in l ≤ n
below-line n l h =
    let node = h.node in
    let named = below-told n l.told (omega (arith, node)) h.told in
    omega (arith, node, named)

lines-below : (d : Description) (n a : ℕ) (ls : List Line) → All (IsSound d) ls → fold (λ m l. max m (nodes_in l)) a ls ≤ n → All (IsLineBelow n) ls × (a ≤ n)
lines-below d n a [] sound h = (All-nil (IsLineBelow n), h)
lines-below d n a (l ∷ ls) sound h =
    let ih = lines-below d n (max a (nodes_in l)) ls (All-tail (IsSound d) l ls sound) h in
    let m = ih.1 in
    (All-cons (IsLineBelow n) l ls (line-below d n l (All-head (IsSound d) l ls sound) (omega (arith, m))) ih.0, omega (arith, m))

below-lines : (n a : ℕ) (ls : List Line) → All (IsLineBelow n) ls → a ≤ n → fold (λ m l. max m (nodes_in l)) a ls ≤ n
below-lines n a [] h low = low
below-lines n a (l ∷ ls) h low =
    let here = below-line n l (All-head (IsLineBelow n) l ls h) in
    below-lines n (max a (nodes_in l)) ls (All-tail (IsLineBelow n) l ls h) (omega (arith, here, low))

pub last_fits : (d : Description) (ls : List Line) (p : Parts) (e : LastLine) → HasRead d ls p → HasLastRanges e → fits_last p e ≡ true → FitsLast ls e
last_fits d ls p e h ranges test =
    let a = and_parts ((e.records == p.count && nat_le 1 e.nodes) && nat_le e.nodes 64) (nat_le p.nodes e.nodes) test in
    let b = and_parts (e.records == p.count && nat_le 1 e.nodes) (nat_le e.nodes 64) a.0 in
    let c = and_parts (e.records == p.count) (nat_le 1 e.nodes) b.0 in
    let n = h.nodes in
    let above = leb-true p.nodes e.nodes a.1 in record {
      ranges = ranges;
      records = eqb-true e.records p.count c.0 ∙ h.count;
      low = leb-true 1 e.nodes c.1;
      high = leb-true e.nodes 64 b.1;
      above = (lines-below d e.nodes 0 ls h.fitting.sound (omega (arith, n, above))).0;
    }

pub fits_test : (d : Description) (ls : List Line) (p : Parts) (e : LastLine) → HasRead d ls p → FitsLast ls e → fits_last p e ≡ true
fits_test d ls p e h f =
    let n = h.nodes in
    let b = below-lines e.nodes 0 ls f.above (omega arith) in
    and_from ((e.records == p.count && nat_le 1 e.nodes) && nat_le e.nodes 64) (nat_le p.nodes e.nodes)
    (and_from (e.records == p.count && nat_le 1 e.nodes) (nat_le e.nodes 64)
    (and_from (e.records == p.count) (nat_le 1 e.nodes) (eq-eqb e.records p.count (f.records ∙ sym h.count)) (le-leb 1 e.nodes f.low)) (le-leb e.nodes 64 f.high))
    (le-leb p.nodes e.nodes (omega (arith, n, b)))

-- ---- the report

pub take-push : {A : Type 0} (xs : List A) (n : ℕ) (d : A) → n < length xs → take (suc n) xs ≡ take n xs ++ get_or xs n d ∷ []
take-push [] n d h = absurd (omega (arith, h))
take-push (x ∷ xs) zero d h = refl
take-push (x ∷ xs) (suc n) d h = ap (λ (ys : _). x ∷ ys) (take-push xs n d (omega (arith, h)))

pub map-push : {A B : Type 0} (f : A → B) (xs : List A) (y : A) → map f (xs ++ y ∷ []) ≡ map f xs ++ f y ∷ []
map-push f [] y = refl
map-push f (x ∷ xs) y = ap (λ (ys : _). f x ∷ ys) (map-push f xs y)

first_same : (ls : List Line) (logs : List Log) (n : ℕ) → AreLogsOf ls logs → n ≤ 64 → AllZip IsSameLog (take n logs) (logs_of n ls)
first_same ls logs zero h few = tt
first_same ls logs (suc n) h few =
    let c = h.count in
    let d = no_log in
    let in_range : n < length logs = omega (arith, c, few) in
    let ih = first_same ls logs n h (omega (arith, few)) in
    let a = take-push logs n d in_range in
    let b = map-push (λ node. log_of node ls) (below n) n in
    subst (λ (xs : List Log). AllZip IsSameLog xs (logs_of (suc n) ls)) (sym a)
    (subst (AllZip IsSameLog (take n logs ++ get_or logs n d ∷ [])) (sym b)
    (AllZip-push IsSameLog (take n logs) (logs_of n ls) (get_or logs n d) (log_of n ls) ih (h.same n d (omega (arith, few)))))

pub report_is : (d : Description) (ls : List Line) (p : Parts) (e : LastLine) (logs : List Log) (r : Report) → e.nodes ≤ 64 → HasRead d ls p → logs ≡ take e.nodes p.logs.items
    → r ≡ record { nodes = logs; air = p.air; events = e.events; whole = e.whole } → IsSameReport r (report_of ls e)
report_is d ls p e logs r few h first is =
    let this : IsSameReport (record { nodes = logs; air = p.air; events = e.events; whole = e.whole }) (report_of ls e) = record {
      nodes = subst (λ (xs : List Log). AllZip IsSameLog xs (logs_of e.nodes ls)) (sym first) (first_same ls p.logs.items e.nodes h.logs few);
      air = h.air;
      events = refl;
      whole = refl;
    } in
    subst (λ (x : Report). IsSameReport x (report_of ls e)) (sym is) this
