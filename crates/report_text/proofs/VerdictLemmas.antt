-- Of any bytes one verdict holds: one report, or one bad line.
use Rattle.std.proofs.Common.{◌≡◌, ℕ, ◌+◌, ◌≤◌, List, [], ◌∷◌, ◌++◌, length, map, refl, sym, ap, subst, ◌∙◌, arith, inl, inr, ◌⊎◌, append_assoc, append-nil}
use Rattle.std.specs.Prelude.{All, codes}
use Rattle.std.proofs.lemmas.List.Elements.{All-head, All-tail, All-map}
use Rattle.vm_shape.specs.declared.description.Description.{Description}
use Rattle.report_writer.specs.Tidy.{Mark, IsNoEarlier, AreOfOneNode, IsLastSeen}
use Rattle.report_writer.proofs.EventLemmas.{All-front, All-of_map}
use Rattle.report_line_reader.specs.declared.line.Line.{Line}
use Rattle.report_line_reader.specs.Told.{line_words, line_text}
use Rattle.report_text.specs.LastLines.{last_words, last_text, HasLastRanges}
use Rattle.report_text.specs.Fits.{line_mark, line_marks, StandsBehind, IsSound, AreFitting, FitsLast}
use Rattle.report_text.specs.Reads.{text_of_lines, AreLines, IsBadAt, IsBadLine}
use Rattle.report_text.specs.declared.last_line.LastLine.{LastLine}
use Rattle.report_text.proofs.OrderLemmas.{pairs-front}
use Rattle.report_text.proofs.LastLineLemmas.{last-in_line}
use Rattle.report_text.proofs.TextLemmas.{same_cut, line_read, same_line, same_last, no_line-last}

-- ---- the first of lines that fit, fit

last-front : (xs ys : List Line) (event : ℕ) → IsLastSeen (line_marks (xs ++ ys)) event → IsLastSeen (line_marks xs) event
last-front xs ys event h =
    let Seen : Mark → Type 0 = λ (m : Mark). (m.stamp.event ≤ event) × (m.stamp.event ≡ event → Rattle.std.specs.Prelude.IsTrue m.is_seen) in
    All-map Seen line_mark xs (All-front (λ (l : Line). Seen (line_mark l)) xs ys (All-of_map Seen line_mark (xs ++ ys) h))

one-front : (xs ys : List Line) (a b : Mark) → AreOfOneNode (line_marks (xs ++ ys)) a b → AreOfOneNode (line_marks xs) a b
one-front xs ys a b h = λ e. elim (h e) [
  | inl same ↦ inl same
  | inr rest ↦ elim rest [ inl zero_event ↦ inr (inl zero_event) | inr last ↦ inr (inr (last-front xs ys a.stamp.event last)) ]
]

pub front_fits : (d : Description) (xs ys : List Line) → AreFitting d (xs ++ ys) → AreFitting d xs
front_fits d xs ys f =
    let all = xs ++ ys in
    let time = All-front (λ (a : Line). All (λ (b : Line). IsNoEarlier (line_mark a) (line_mark b)) all) xs ys f.order.in_time in
    let one = All-front (λ (a : Line). All (λ (b : Line). AreOfOneNode (line_marks all) (line_mark a) (line_mark b)) all) xs ys f.order.one_node in record {
      sound = All-front (IsSound d) xs ys f.sound;
      order = record {
        ordered = pairs-front StandsBehind xs ys f.order.ordered;
        in_time = λ k x q. All-front (λ (b : Line). IsNoEarlier (line_mark (Rattle.std.proofs.Common.get_or xs k x)) (line_mark b)) xs ys (time k x q);
        one_node = λ k x q j y p. one-front xs ys (line_mark (Rattle.std.proofs.Common.get_or xs k x)) (line_mark (Rattle.std.proofs.Common.get_or xs j y))
            (All-front (λ (b : Line). AreOfOneNode (line_marks all) (line_mark (Rattle.std.proofs.Common.get_or xs k x)) (line_mark b)) xs ys (one k x q) j y p);
      };
    }

front_one : (d : Description) (xs : List Line) (l : Line) (ys : List Line) → AreFitting d (xs ++ l ∷ ys) → AreFitting d (xs ++ l ∷ [])
front_one d xs l ys f = front_fits d (xs ++ l ∷ []) ys (subst (AreFitting d) (sym (append_assoc xs (l ∷ []) ys)) f)

-- ---- one line in front

front_same : (d : Description) (l m : Line) (x y : List ℕ) → IsSound d l → IsSound d m → line_text d l ++ x ≡ line_text d m ++ y → (l ≡ m) × (x ≡ y)
front_same d l m x y sl sm e =
    let cut = same_cut (line_words d l) (line_words d m) x y (line_read d l sl).whole (line_read d m sm).whole
    (sym (append_assoc (line_words d l) (codes "\n") x) ∙ e ∙ append_assoc (line_words d m) (codes "\n") y) in
    (same_line d l m sl sm cut.line, cut.behind)

last_or_line : (d : Description) (l : Line) (e : LastLine) (x y : List ℕ) → IsSound d l → HasLastRanges e → line_text d l ++ x ≡ last_text e ++ y → ⊥
last_or_line d l e x y s r h =
    let cut = same_cut (line_words d l) (last_words e) x y (line_read d l s).whole (last-in_line e r)
    (sym (append_assoc (line_words d l) (codes "\n") x) ∙ h ∙ append_assoc (last_words e) (codes "\n") y) in
    no_line-last d l e s r cut.line

front_last : (a b : LastLine) (x y : List ℕ) → HasLastRanges a → HasLastRanges b → last_text a ++ x ≡ last_text b ++ y → (a ≡ b) × (x ≡ y)
front_last a b x y ra rb e =
    let cut = same_cut (last_words a) (last_words b) x y (last-in_line a ra) (last-in_line b rb)
    (sym (append_assoc (last_words a) (codes "\n") x) ∙ e ∙ append_assoc (last_words b) (codes "\n") y) in
    (same_last a b ra rb cut.line, cut.behind)

-- ---- two ways to read the front of a text

-- `more` lines stand behind `ls` in `ms`
record GoesFurther (d : Description) (ls ms : List Line) (x y : List ℕ) : Type 0 where
  more : List Line
  is : ms ≡ ls ++ more
  left : x ≡ text_of_lines d more ++ y

further-cons : (d : Description) (l m : Line) (ls ms : List Line) (x y : List ℕ) → l ≡ m → GoesFurther d ls ms x y → GoesFurther d (l ∷ ls) (m ∷ ms) x y
further-cons d l m ls ms x y e g = record { more = g.more; is = ap (λ (z : Line). z ∷ ms) (sym e) ∙ ap (λ (zs : List Line). l ∷ zs) g.is; left = g.left }

one_way : (d : Description) (ls ms : List Line) (x y : List ℕ) → All (IsSound d) ls → All (IsSound d) ms → text_of_lines d ls ++ x ≡ text_of_lines d ms ++ y
    → GoesFurther d ls ms x y ⊎ GoesFurther d ms ls y x
one_way d [] ms x y sl sm e = inl (record { more = ms; is = refl; left = e })
one_way d (l ∷ ls) [] x y sl sm e = inr (record { more = l ∷ ls; is = refl; left = sym e })
one_way d (l ∷ ls) (m ∷ ms) x y sl sm e =
    let heads = front_same d l m (text_of_lines d ls ++ x) (text_of_lines d ms ++ y) (All-head (IsSound d) l ls sl) (All-head (IsSound d) m ms sm)
    (sym (append_assoc (line_text d l) (text_of_lines d ls) x) ∙ e ∙ append_assoc (line_text d m) (text_of_lines d ms) y) in
    elim (one_way d ls ms x y (All-tail (IsSound d) l ls sl) (All-tail (IsSound d) m ms sm) heads.1) [
      | inl g ↦ inl (further-cons d l m ls ms x y heads.0 g)
      | inr g ↦ inr (further-cons d m l ms ls y x (sym heads.0) g)
    ]

-- ---- one report

pub record SameLines (ls ms : List Line) (e f : LastLine) : Type 0 where
  pub lines : ls ≡ ms
  pub last : e ≡ f

same-further : (d : Description) (ls ms : List Line) (e f : LastLine) → FitsLast ls e → FitsLast ms f → AreFitting d ms → GoesFurther d ls ms (last_text e) (last_text f) → SameLines ls ms e f
same-further d ls ms e f le lf fm g = at g.more g.is g.left where
  at : (more : List Line) → ms ≡ ls ++ more → last_text e ≡ text_of_lines d more ++ last_text f → SameLines ls ms e f
  at [] is left = record {
    lines = sym (is ∙ append-nil ls);
    last = (front_last e f [] [] le.ranges lf.ranges (append-nil (last_text e) ∙ left ∙ sym (append-nil (last_text f)))).0;
  }
  at (l ∷ more) is left =
      let fits = subst (AreFitting d) is fm in
      let sound = Rattle.report_text.proofs.TextLemmas.last-sound d ls l (front_one d ls l more fits) in
      absurd (last_or_line d l e (text_of_lines d more ++ last_text f) [] sound le.ranges (sym (append_assoc (line_text d l) (text_of_lines d more) (last_text f)) ∙ sym left ∙ sym (append-nil (last_text e))))

pub one_list : (d : Description) (bytes : List ℕ) (ls ms : List Line) (e f : LastLine) → AreLines d bytes ls e → AreLines d bytes ms f → SameLines ls ms e f
one_list d bytes ls ms e f a b =
    elim (one_way d ls ms (last_text e) (last_text f) a.fitting.sound b.fitting.sound (sym a.text ∙ b.text)) [
      | inl g ↦ same-further d ls ms e f a.last b.last b.fitting g
      | inr g ↦ let s = same-further d ms ls f e b.last a.last a.fitting g in record { lines = sym s.lines; last = sym s.last }
    ]

-- ---- a report or a bad line

-- lines that fit don't begin where nothing fits
stuck : (d : Description) (before : List Line) (left : List ℕ) (n : ℕ) (l : Line) (more : List ℕ) → AreFitting d (before ++ l ∷ []) → IsBadAt d before left n → left ≡ line_text d l ++ more → ⊥
stuck d before left n l more f (inl nothing) is = nothing.0.line l more f is
stuck d before left n l more f (inr behind) is =
    let sound = Rattle.report_text.proofs.TextLemmas.last-sound d before l f in
    last_or_line d l behind.0.e more behind.0.more sound behind.0.last.ranges (sym is ∙ behind.0.is)

no_bad-last : (d : Description) (before : List Line) (left : List ℕ) (n : ℕ) (e : LastLine) → FitsLast before e → IsBadAt d before left n → left ≡ last_text e → ⊥
no_bad-last d before left n e f (inl nothing) is = nothing.0.last e [] f (is ∙ sym (append-nil (last_text e)))
no_bad-last d before left n e f (inr behind) is =
    let same = front_last e behind.0.e [] behind.0.more f.ranges behind.0.last.ranges (append-nil (last_text e) ∙ sym is ∙ behind.0.is) in
    let none = ap (λ (xs : List ℕ). length xs) same.1 in
    let some = behind.0.some in
    absurd (omega (arith, none, some))

pub no_bad_line : (d : Description) (bytes : List ℕ) (ls : List Line) (e : LastLine) (n : ℕ) → AreLines d bytes ls e → IsBadLine d bytes n → ⊥
no_bad_line d bytes ls e n a b =
    elim (one_way d ls b.before (last_text e) b.left a.fitting.sound b.fitting.sound (sym a.text ∙ b.text)) [
      | inl g ↦ ended g.more g.is g.left
      | inr g ↦ goes g.more g.is g.left
    ] where
      ended : (more : List Line) → b.before ≡ ls ++ more → last_text e ≡ text_of_lines d more ++ b.left → ⊥
      ended [] is left = no_bad-last d b.before b.left n e (subst (λ (xs : List Line). FitsLast xs e) (sym (is ∙ append-nil ls)) a.last) b.bad (sym left)
      ended (l ∷ more) is left =
          let fits = subst (AreFitting d) is b.fitting in
          let sound = Rattle.report_text.proofs.TextLemmas.last-sound d ls l (front_one d ls l more fits) in
          last_or_line d l e (text_of_lines d more ++ b.left) [] sound a.last.ranges (sym (append_assoc (line_text d l) (text_of_lines d more) b.left) ∙ sym left ∙ sym (append-nil (last_text e)))

      goes : (more : List Line) → ls ≡ b.before ++ more → b.left ≡ text_of_lines d more ++ last_text e → ⊥
      goes [] is left = no_bad-last d b.before b.left n e (subst (λ (xs : List Line). FitsLast xs e) (is ∙ append-nil b.before) a.last) b.bad left
      goes (l ∷ more) is left =
          let fits = subst (AreFitting d) is a.fitting in
          stuck d b.before b.left n l (text_of_lines d more ++ last_text e) (front_one d b.before l more fits) b.bad (left ∙ append_assoc (line_text d l) (text_of_lines d more) (last_text e))

-- ---- one bad line

same-bad : (d : Description) (before : List Line) (left : List ℕ) (m n : ℕ) → IsBadAt d before left m → IsBadAt d before left n → m ≡ n
same-bad d before left m n (inl a) (inl b) = a.1 ∙ sym b.1
same-bad d before left m n (inl a) (inr b) = absurd (a.0.last b.0.e b.0.more b.0.last b.0.is)
same-bad d before left m n (inr a) (inl b) = absurd (b.0.last a.0.e a.0.more a.0.last a.0.is)
same-bad d before left m n (inr a) (inr b) = a.1 ∙ sym b.1

further-bad : (d : Description) (bytes : List ℕ) (m n : ℕ) (a : IsBadLine d bytes m) (b : IsBadLine d bytes n) → GoesFurther d a.before b.before a.left b.left → m ≡ n
further-bad d bytes m n a b g = at g.more g.is g.left where
  at : (more : List Line) → b.before ≡ a.before ++ more → a.left ≡ text_of_lines d more ++ b.left → m ≡ n
  at [] is left =
      let bad = subst (λ (xs : List Line). IsBadAt d xs b.left n) (is ∙ append-nil a.before) b.bad in
      same-bad d a.before a.left m n a.bad (subst (λ (xs : List ℕ). IsBadAt d a.before xs n) (sym left) bad)
  at (l ∷ more) is left =
      let fits = subst (AreFitting d) is b.fitting in
      absurd (stuck d a.before a.left m l (text_of_lines d more ++ b.left) (front_one d a.before l more fits) a.bad (left ∙ append_assoc (line_text d l) (text_of_lines d more) b.left))

pub one_bad_line : (d : Description) (bytes : List ℕ) (m n : ℕ) → IsBadLine d bytes m → IsBadLine d bytes n → m ≡ n
one_bad_line d bytes m n a b =
    elim (one_way d a.before b.before a.left b.left a.fitting.sound b.fitting.sound (sym a.text ∙ b.text)) [
      | inl g ↦ further-bad d bytes m n a b g
      | inr g ↦ sym (further-bad d bytes n m b a g)
    ]
