-- A text is cut at its LFs in one way, so a line that fits is the line that was read.
use Rattle.std.proofs.Common.{◌≡◌, ℕ, suc, ◌+◌, ◌<◌, ◌≤◌, ◌==◌, Bool, true, false, not, List, [], ◌∷◌, ◌++◌, length, take, drop, Option, Some, None, Result, Ok, Err, refl, sym, ap, subst, ◌∙◌, arith, inl, inr, append_assoc, append-nil, length-append}
use Rattle.std.specs.Prelude.{codes, flat_map, IsErrAnd}
use Rattle.std.specs.List.{list_all, prefix_len}
use Rattle.std.specs.Option.{option_map}
use Rattle.std.proofs.lemmas.Bool.{cases_Bool, and_parts, and_from, eqb-true, false≢true}
use Rattle.std.proofs.lemmas.Grind.{flat_map-append}
use Rattle.vm_shape.specs.declared.description.Description.{Description}
use Rattle.mate_journal.specs.declared.report.Report.{Report}
use Rattle.report_line_reader.specs.declared.line.Line.{Line}
use Rattle.report_line_reader.specs.Told.{line_words, line_text}
use Rattle.report_line_reader.specs.Words.{reads}
use Rattle.report_line_reader.specs.Fields.{number_of, node_of}
use Rattle.report_line_reader.specs.Reading.{told_of, line_with, line_in}
use Rattle.report_line_reader.proofs.WrittenLines.{line_is_read, IsRead}
use Rattle.report_text.specs.LastLines.{last_words, last_text, last_in, HasLastRanges}
use Rattle.report_text.specs.Fits.{IsSound, FitsLast, AreFitting}
use Rattle.report_text.specs.Parts.{report_of, IsSameReport}
use Rattle.report_text.specs.Reads.{text_of_lines, NothingFits, IsBadAt, ReadsReport}
use Rattle.report_text.specs.Steps.{IsOneLine, TellsNone, HasRead, IsAt, TakesLine, ReadsLast, fits_last}
use Rattle.report_text.specs.declared.last_line.LastLine.{LastLine}
use Rattle.report_text.specs.declared.parts.Parts.{Parts}
use Rattle.report_text.specs.declared.fault.TextFault.{TextFault}
use Rattle.report_text.specs.declared.fault.TextFault.TheVariants.{BadLine, NoMemory}
use Rattle.report_text.proofs.LastLineLemmas.{last_in-written, last-in_line, last-no_line}
use Rattle.report_text.proofs.PartLemmas.{last_fits, fits_test}

abbrev in_one : ℕ → Bool
in_one b = not (b == 10)

-- ---- the first LF

prefix-end : (b : ℕ) (bs : List ℕ) → (b == 10) ≡ true → prefix_len in_one (b ∷ bs) ≡ 0
prefix-end b bs h = rw h refl

prefix-more : (b : ℕ) (bs : List ℕ) → (b == 10) ≡ false → prefix_len in_one (b ∷ bs) ≡ suc (prefix_len in_one bs)
prefix-more b bs h = rw h (omega arith)

pub no_end : (bs : List ℕ) (n : ℕ) → n ≡ prefix_len in_one bs → n ≡ length bs → IsOneLine bs
no_end [] n e all = refl
no_end (b ∷ bs) n e all =
    elim (cases_Bool (b == 10)) [
      | inl ends ↦ let none = prefix-end b bs ends in absurd (omega (arith, none, e, all))
      | inr more ↦
          let m = prefix-more b bs more in
          and_from (not (b == 10)) (list_all in_one bs) (ap not more) (no_end bs (prefix_len in_one bs) refl (omega (arith, m, e, all)))
    ]

pub record IsCutAt (bs line behind : List ℕ) : Type 0 where
  pub whole : IsOneLine line
  pub is : bs ≡ line ++ 10 ∷ behind

pub cut_at : (bs : List ℕ) (n : ℕ) → n ≡ prefix_len in_one bs → n < length bs → IsCutAt bs (take n bs) (drop (n + 1) bs)
cut_at [] n e h = absurd (omega (arith, h))
cut_at (b ∷ bs) n e h =
    elim (cases_Bool (b == 10)) [
      | inl ends ↦
          let none : n ≡ 0 = e ∙ prefix-end b bs ends in
          let t : take n (b ∷ bs) ≡ [] = rw none refl in
          let d : drop (n + 1) (b ∷ bs) ≡ bs = rw none refl in
          record {
            whole = subst IsOneLine (sym t) refl;
            is = ap (λ (x : ℕ). x ∷ bs) (eqb-true b 10 ends) ∙ ap (λ (x : List ℕ). 10 ∷ x) (sym d) ∙ ap (λ (x : List ℕ). x ++ 10 ∷ drop (n + 1) (b ∷ bs)) (sym t);
          }
      | inr more ↦
          let m = prefix-more b bs more in
          let is : n ≡ suc (prefix_len in_one bs) = e ∙ m in
          let ih : IsCutAt bs (take (prefix_len in_one bs) bs) (drop (prefix_len in_one bs + 1) bs) = cut_at bs (prefix_len in_one bs) refl (omega (arith, is, h)) in
          let t : take n (b ∷ bs) ≡ b ∷ take (prefix_len in_one bs) bs = rw is refl in
          let k : n + 1 ≡ suc (prefix_len in_one bs + 1) = omega (arith, is) in
          let d : drop (n + 1) (b ∷ bs) ≡ drop (prefix_len in_one bs + 1) bs = rw k refl in
          record {
            whole = subst IsOneLine (sym t) (and_from (not (b == 10)) (list_all in_one (take (prefix_len in_one bs) bs)) (ap not more) ih.whole);
            is = ap (λ (x : List ℕ). b ∷ x) ih.is ∙ ap (λ (x : List ℕ). b ∷ (take (prefix_len in_one bs) bs ++ 10 ∷ x)) (sym d) ∙ ap (λ (x : List ℕ). x ++ 10 ∷ drop (n + 1) (b ∷ bs)) (sym t);
          }
    ]

-- ---- one way to cut

ends_line : (a x : List ℕ) → IsOneLine (a ++ 10 ∷ x) → ⊥
ends_line [] x h = false≢true h
ends_line (b ∷ a) x h = ends_line a x (and_parts (not (b == 10)) (list_all in_one (a ++ 10 ∷ x)) h).1

pub record SameCut (a b x y : List ℕ) : Type 0 where
  pub line : a ≡ b
  pub behind : x ≡ y

pub same_cut : (a b x y : List ℕ) → IsOneLine a → IsOneLine b → a ++ 10 ∷ x ≡ b ++ 10 ∷ y → SameCut a b x y
same_cut [] [] x y ha hb e = record { line = refl; behind = cc }
same_cut [] (c ∷ b) x y ha hb e =
    let at : 10 ≡ c = cc in
    let no_lf : not (c == 10) ≡ true = (and_parts (not (c == 10)) (list_all in_one b) hb).0 in
    absurd (false≢true (ap (λ (n : ℕ). not (n == 10)) at ∙ no_lf))
same_cut (c ∷ a) [] x y ha hb e =
    let at : 10 ≡ c = cc in
    let no_lf : not (c == 10) ≡ true = (and_parts (not (c == 10)) (list_all in_one a) ha).0 in
    absurd (false≢true (ap (λ (n : ℕ). not (n == 10)) at ∙ no_lf))
same_cut (c ∷ a) (d ∷ b) x y ha hb e =
    let at : c ≡ d = cc in
    let more : a ++ 10 ∷ x ≡ b ++ 10 ∷ y = cc in
    let ih = same_cut a b x y (and_parts (not (c == 10)) (list_all in_one a) ha).1 (and_parts (not (d == 10)) (list_all in_one b) hb).1 more in
    let l = ih.line in
    record { line = cc; behind = ih.behind }

-- ---- a line and a last line in front of what is left

pub line_read : (d : Description) (l : Line) → IsSound d l → IsRead d l
line_read d l s = line_is_read d l s.right s.ranges

front-line : (d : Description) (l : Line) (line behind more : List ℕ) → IsSound d l → IsOneLine line → line ++ 10 ∷ behind ≡ line_text d l ++ more → SameCut line (line_words d l) behind more
front-line d l line behind more s whole e =
    same_cut line (line_words d l) behind more whole (line_read d l s).whole (e ∙ append_assoc (line_words d l) (codes "\n") more)

front-last : (e : LastLine) (line behind more : List ℕ) → HasLastRanges e → IsOneLine line → line ++ 10 ∷ behind ≡ last_text e ++ more → SameCut line (last_words e) behind more
front-last e line behind more r whole q =
    same_cut line (last_words e) behind more whole (last-in_line e r) (q ∙ append_assoc (last_words e) (codes "\n") more)

pub last-sound : (d : Description) (ls : List Line) (l : Line) → AreFitting d (ls ++ l ∷ []) → IsSound d l
last-sound d ls l f = subst (IsSound d) (Rattle.report_text.proofs.OrderLemmas.get-last ls l l) (f.sound (length ls) l (let n = length-append ls (l ∷ []) in omega (arith, n)))

pub same_line : (d : Description) (a b : Line) → IsSound d a → IsSound d b → line_words d a ≡ line_words d b → a ≡ b
same_line d a b sa sb e = let i : Some a ≡ Some b = sym (line_read d a sa).is ∙ ap (line_in d) e ∙ (line_read d b sb).is in cc

pub same_last : (a b : LastLine) → HasLastRanges a → HasLastRanges b → last_words a ≡ last_words b → a ≡ b
same_last a b ra rb e = let i : Some a ≡ Some b = sym (last_in-written a ra) ∙ ap last_in e ∙ last_in-written b rb in cc

pub no_line-last : (d : Description) (l : Line) (e : LastLine) → IsSound d l → HasLastRanges e → line_words d l ≡ last_words e → ⊥
no_line-last d l e s r h =
    let go : ℕ → List (List ℕ) → Option Line =
    λ event. reads number_of (λ time. reads node_of (λ node words. option_map (line_with event time node) (told_of d words))) in
    let i : Some l ≡ None = sym (line_read d l s).is ∙ ap (line_in d) h ∙ last-no_line go e r in cc

-- ---- what is bad

-- no LF is left
pub nothing-ends : (d : Description) (ls : List Line) (left : List ℕ) → IsOneLine left → NothingFits d ls left
nothing-ends d ls left whole = record {
  line = λ l more f e. ends_line (line_words d l) more (subst IsOneLine (e ∙ append_assoc (line_words d l) (codes "\n") more) whole);
  last = λ e more f q. ends_line (last_words e) more (subst IsOneLine (q ∙ append_assoc (last_words e) (codes "\n") more) whole);
}

-- a line that doesn't fit
pub nothing-line : (d : Description) (ls : List Line) (l : Line) (line behind : List ℕ) → IsSound d l → IsOneLine line → line ≡ line_words d l → (AreFitting d (ls ++ l ∷ []) → ⊥)
    → NothingFits d ls (line ++ 10 ∷ behind)
nothing-line d ls l line behind s whole is bad = record {
  line = λ m more f e.
      let sm = last-sound d ls m f in
      let cut = front-line d m line behind more sm whole e in
      let same : m ≡ l = same_line d m l sm s (sym cut.line ∙ is) in
      bad (subst (λ (x : Line). AreFitting d (ls ++ x ∷ [])) same f);
  last = λ e more f q.
      let cut = front-last e line behind more f.ranges whole q in
      no_line-last d l e s f.ranges (sym is ∙ cut.line);
}

-- neither a line nor a last line
pub nothing-told : (d : Description) (ls : List Line) (line behind : List ℕ) → TellsNone d line → ((e : LastLine) → HasLastRanges e → line ≡ last_words e → ⊥)
    → NothingFits d ls (line ++ 10 ∷ behind)
nothing-told d ls line behind none no_last = record {
  line = λ m more f e. (let sm = last-sound d ls m f in none.none m sm (front-line d m line behind more sm none.whole e).line);
  last = λ e more f q. no_last e f.ranges (front-last e line behind more f.ranges none.whole q).line;
}

-- a last line that doesn't fit
pub nothing-last : (d : Description) (ls : List Line) (p : Parts) (a : LastLine) (line behind : List ℕ) → HasRead d ls p → TellsNone d line → HasLastRanges a → line ≡ last_words a
    → fits_last p a ≡ false → NothingFits d ls (line ++ 10 ∷ behind)
nothing-last d ls p a line behind h none ra is refused = record {
  line = λ m more f e. (let sm = last-sound d ls m f in none.none m sm (front-line d m line behind more sm none.whole e).line);
  last = λ e more f q.
      let cut = front-last e line behind more f.ranges none.whole q in
      let same : e ≡ a = same_last e a f.ranges ra (sym cut.line ∙ is) in
      false≢true (sym refused ∙ fits_test d ls p a h (subst (FitsLast ls) same f));
}

-- ---- reading on

pub at_first : (d : Description) (bytes : List ℕ) (p : Parts) → length bytes ≤ 4000000000 → HasRead d [] p → IsAt d bytes bytes p
at_first d bytes p few h = record { ls = []; read = h; text = refl; few = omega (arith, few) }

pub text-push : (d : Description) (ls : List Line) (l : Line) → text_of_lines d (ls ++ l ∷ []) ≡ text_of_lines d ls ++ line_text d l
text-push d ls l = flat_map-append (line_text d) ls (l ∷ []) ∙ ap (λ (x : List ℕ). text_of_lines d ls ++ x) (append-nil (line_text d l))

pub at_next : (d : Description) (bytes left line behind : List ℕ) (l : Line) (p new : Parts) (at : IsAt d bytes left p) → left ≡ line ++ 10 ∷ behind → line ≡ line_words d l
    → HasRead d (at.ls ++ l ∷ []) new → IsAt d bytes behind new
at_next d bytes left line behind l p new at cut is h =
    let n = length-append at.ls (l ∷ []) in
    let m = ap (λ (x : List ℕ). length x) cut ∙ length-append line (10 ∷ behind) in
    let few = at.few in
    let whole : left ≡ line_text d l ++ behind = cut ∙ ap (λ (x : List ℕ). x ++ 10 ∷ behind) is ∙ sym (append_assoc (line_words d l) (codes "\n") behind) in record {
      ls = at.ls ++ l ∷ [];
      read = h;
      text = at.text ∙ ap (λ (x : List ℕ). text_of_lines d at.ls ++ x) whole ∙ sym (append_assoc (text_of_lines d at.ls) (line_text d l) behind)
          ∙ ap (λ (x : List ℕ). x ++ behind) (sym (text-push d at.ls l));
      few = omega (arith, n, m, few);
    }

pub bad_at : (d : Description) (bytes left : List ℕ) (p : Parts) (line : ℕ) (at : IsAt d bytes left p) → IsBadAt d at.ls left line → ReadsReport d bytes (Err (BadLine line))
bad_at d bytes left p line at bad = record { before = at.ls; left = left; fitting = at.read.fitting; text = at.text; bad = bad }

-- what is left is one line without its end
pub reads_end : (d : Description) (bytes left : List ℕ) (p : Parts) (f : TextFault) → f ≡ BadLine (p.count + 1) → IsAt d bytes left p → IsOneLine left → ReadsReport d bytes (Err f)
reads_end d bytes left p f is at whole =
    let c = at.read.count in
    subst (λ (x : TextFault). ReadsReport d bytes (Err x)) (sym is)
    (bad_at d bytes left p (p.count + 1) at (inl (nothing-ends d at.ls left whole, omega (arith, c))))

-- the line was not taken
pub reads_bad : (d : Description) (bytes left line behind : List ℕ) (l : Line) (p new : Parts) (f : TextFault) (at : IsAt d bytes left p) → left ≡ line ++ 10 ∷ behind → IsOneLine line
    → line ≡ line_words d l → IsSound d l → TakesLine d at.ls l new (Err f) → ReadsReport d bytes (Err f)
reads_bad d bytes left line behind l p new NoMemory at cut whole is s takes = tt
reads_bad d bytes left line behind l p new (BadLine n) at cut whole is s takes =
    bad_at d bytes left p n at (inl (subst (NothingFits d at.ls) (sym cut) (nothing-line d at.ls l line behind s whole is takes.0), takes.1))

-- the last line was read
pub reads_last : (d : Description) (bytes left line behind : List ℕ) (p : Parts) (r : Result Report TextFault) (at : IsAt d bytes left p) → left ≡ line ++ 10 ∷ behind
    → ReadsLast d at.ls (line ++ 10 ∷ behind) r → ReadsReport d bytes r
reads_last d bytes left line behind p (Ok r) at cut h = record {
  ls = at.ls;
  e = h.e;
  lines = record { fitting = at.read.fitting; last = h.last; text = at.text ∙ ap (λ (x : List ℕ). text_of_lines d at.ls ++ x) (cut ∙ h.text) };
  is = h.is;
}
reads_last d bytes left line behind p (Err NoMemory) at cut h = tt
reads_last d bytes left line behind p (Err (BadLine n)) at cut h = bad_at d bytes left p n at (subst (λ (x : List ℕ). IsBadAt d at.ls x n) (sym cut) h)

-- ---- the last line

pub last_refused : (d : Description) (ls : List Line) (p : Parts) (left : List ℕ) (f : TextFault) → f ≡ BadLine (p.count + 1) → HasRead d ls p → NothingFits d ls left
    → ReadsLast d ls left (Err f)
last_refused d ls p left f is h nothing =
    let c = h.count in
    let this : ReadsLast d ls left (Err (BadLine (p.count + 1))) = inl (nothing, omega (arith, c)) in
    subst (λ (x : TextFault). ReadsLast d ls left (Err x)) (sym is) this

pub last_goes_on : (d : Description) (ls : List Line) (p : Parts) (e : LastLine) (line behind : List ℕ) → HasRead d ls p → HasLastRanges e → fits_last p e ≡ true → line ≡ last_words e
    → 0 < length behind → ReadsLast d ls (line ++ 10 ∷ behind) (Err (BadLine (p.count + 2)))
last_goes_on d ls p e line behind h r fits is some =
    let c = h.count in
    inr (
      record {
        e = e;
        more = behind;
        last = last_fits d ls p e h r fits;
        is = ap (λ (x : List ℕ). x ++ 10 ∷ behind) is ∙ sym (append_assoc (last_words e) (codes "\n") behind);
        some = some;
      },
      omega (arith, c),
    )

pub last_ends : (d : Description) (ls : List Line) (p : Parts) (e : LastLine) (line behind : List ℕ) (r : Report) → HasRead d ls p → HasLastRanges e → fits_last p e ≡ true → line ≡ last_words e
    → behind ≡ [] → IsSameReport r (report_of ls e) → ReadsLast d ls (line ++ 10 ∷ behind) (Ok r)
last_ends d ls p e line behind r h ranges fits is none same = record {
  e = e;
  last = last_fits d ls p e h ranges fits;
  text = ap (λ (x : List ℕ). x ++ 10 ∷ behind) is ∙ ap (λ (x : List ℕ). last_words e ++ 10 ∷ x) none;
  is = same;
}

-- whether something is left
pub some_left : (bs : List ℕ) (empty : Bool) → empty ≡ (length bs == 0) → empty ≡ false → 0 < length bs
some_left [] empty is h = absurd (false≢true (sym h ∙ is))
some_left (b ∷ bs) empty is h = omega arith

pub none_left : (bs : List ℕ) (empty : Bool) → empty ≡ (length bs == 0) → empty ≡ true → bs ≡ []
none_left [] empty is h = refl
none_left (b ∷ bs) empty is h = let z : length (b ∷ bs) ≡ 0 = eqb-true (length (b ∷ bs)) 0 (sym is ∙ h) in absurd (omega (arith, z))

-- a fault is handed on
pub reads_failed : (d : Description) (bytes : List ℕ) (r : Result Report TextFault) (f : TextFault) → IsErrAnd r (λ e. e ≡ f) → ReadsReport d bytes (Err f) → ReadsReport d bytes r
reads_failed d bytes (Ok x) f h p = absurd h
reads_failed d bytes (Err e) f h p = subst (λ (x : TextFault). ReadsReport d bytes (Err x)) (sym h) p
