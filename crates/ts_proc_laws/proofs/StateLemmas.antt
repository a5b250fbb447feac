-- Lists of private variables that correspond: those of a run with frames, and those of a run of the expansion.
use Rattle.std.proofs.Common.{◌≡◌, ℕ, ◌+◌, ◌-◌, ◌<◌, ◌≤◌, ℤ, pos, List, ◌++◌, length, get_or, take, drop, set, refl, ap, sym, ◌∙◌, arith, inl, inr, ◌⊎◌}
use Rattle.std.proofs.lemmas.Bool.Decides.{eqb_tells}
use Rattle.std.proofs.lemmas.List.{length-set, length-append, length-take-le, length-drop, get_or-set_same, get_or-set_other, get_or-take, get_or-drop, get_or-append-add, get_or_append_left}

-- how a frame lies in the eight private variables of the expansion: behind the script's own, from its first parameter on; and what
-- stands behind it there
pub record Layout : Type 0 where
  pub outer : ℕ
  pub first : ℕ
  pub held : ℕ
  pub kept : ℕ → ℤ

-- the place of a parameter in the expansion
abbrev pub place_of : Layout → ℕ → ℕ
place_of l j = l.outer + (l.first + j)

-- there is room for it
pub record HasRoom (l : Layout) : Type 0 where
  pub room : place_of l l.held ≤ 8

-- ps are the eight variables and a frame, and qs the variables of the expansion
pub record Stands (l : Layout) (ps qs : List ℤ) : Type 0 where
  pub long : length ps ≡ 8 + l.held
  pub eight : length qs ≡ 8
  pub outer : (i : ℕ) → i < l.outer → get_or ps i (pos 0) ≡ get_or qs i (pos 0)
  pub frame : (j : ℕ) → j < l.held → get_or ps (8 + j) (pos 0) ≡ get_or qs (place_of l j) (pos 0)
  pub above : (i : ℕ) → place_of l l.held ≤ i → get_or qs i (pos 0) ≡ l.kept i

-- i with frames is j in the expansion: one of the script's own variables, or a parameter
pub record IsOuter (l : Layout) (i j : ℕ) : Type 0 where
  pub same : i ≡ j
  pub within : i < l.outer

pub record IsHeld (l : Layout) (i j : ℕ) : Type 0 where
  pub parameter : ℕ
  pub number : i ≡ 8 + parameter
  pub place : j ≡ place_of l parameter
  pub within : parameter < l.held

abbrev pub SameNumber : Layout → ℕ → ℕ → Type 0
SameNumber l i j = IsOuter l i j ⊎ IsHeld l i j

-- a value that is set, where the places are the same in both and where they aren't
both_set : (ps qs : List ℤ) (i j m n : ℕ) (v : ℤ) → i < length ps → j < length qs → get_or ps m (pos 0) ≡ get_or qs n (pos 0) → (m ≡ i → n ≡ j) → (n ≡ j → m ≡ i)
    → get_or (set ps i v) m (pos 0) ≡ get_or (set qs j v) n (pos 0)
both_set ps qs i j m n v here there same to from = elim (eqb_tells m i) [
  | inl is ↦ ap (λ k. get_or (set ps i v) k (pos 0)) is.1 ∙ get_or-set_same ps i v (pos 0) here
      ∙ sym (ap (λ k. get_or (set qs j v) k (pos 0)) (to is.1) ∙ get_or-set_same qs j v (pos 0) there)
  | inr apart ↦ get_or-set_other ps i m v (pos 0) apart.1 ∙ same ∙ sym (get_or-set_other qs j n v (pos 0) (λ e. apart.1 (from e)))
]

pub read_same : (l : Layout) (ps qs : List ℤ) (i j : ℕ) → Stands l ps qs → SameNumber l i j → get_or ps i (pos 0) ≡ get_or qs j (pos 0)
read_same l ps qs i j st (inl o) = st.outer i o.within ∙ ap (λ k. get_or qs k (pos 0)) o.same
read_same l ps qs i j st (inr h) =
    ap (λ k. get_or ps k (pos 0)) h.number ∙ st.frame h.parameter h.within ∙ sym (ap (λ k. get_or qs k (pos 0)) h.place)

pub set_same : (l : Layout) (ps qs : List ℤ) (i j : ℕ) (v : ℤ) → HasRoom l → Stands l ps qs → SameNumber l i j → Stands l (set ps i v) (set qs j v)
set_same l ps qs i j v r st (inl o) =
    let room = r.room in let a = st.long in let b = st.eight in let same = o.same in let within = o.within in
    let here : i < length ps = omega arith in let there : j < length qs = omega arith in
    record {
      long = length-set ps i v ∙ st.long;
      eight = length-set qs j v ∙ st.eight;
      outer = λ k less. both_set ps qs i j k k v here there (st.outer k less) (λ e. omega arith) (λ e. omega arith);
      frame = λ k less. both_set ps qs i j (8 + k) (place_of l k) v here there (st.frame k less) (λ e. absurd (omega arith)) (λ e. absurd (omega arith));
      above = λ k past. get_or-set_other qs j k v (pos 0) (λ e. omega arith) ∙ st.above k past;
    }
set_same l ps qs i j v r st (inr h) =
    let room = r.room in let a = st.long in let b = st.eight in let number = h.number in let place = h.place in let within = h.within in
    let here : i < length ps = omega arith in let there : j < length qs = omega arith in
    record {
      long = length-set ps i v ∙ st.long;
      eight = length-set qs j v ∙ st.eight;
      outer = λ k less. both_set ps qs i j k k v here there (st.outer k less) (λ e. absurd (omega arith)) (λ e. absurd (omega arith));
      frame = λ k less. both_set ps qs i j (8 + k) (place_of l k) v here there (st.frame k less) (λ e. omega arith) (λ e. omega arith);
      above = λ k past. get_or-set_other qs j k v (pos 0) (λ e. omega arith) ∙ st.above k past;
    }

-- a parameter below the frame is set for a call
pub set_below : (l : Layout) (ps qs : List ℤ) (j : ℕ) (v : ℤ) → Stands l ps qs → l.outer ≤ j → j < l.outer + l.first → Stands l ps (set qs j v)
set_below l ps qs j v st low less =
    record {
      long = st.long;
      eight = length-set qs j v ∙ st.eight;
      outer = λ k within. st.outer k within ∙ sym (get_or-set_other qs j k v (pos 0) (λ e. omega arith));
      frame = λ k within. st.frame k within ∙ sym (get_or-set_other qs j (place_of l k) v (pos 0) (λ e. omega arith));
      above = λ k past. get_or-set_other qs j k v (pos 0) (λ e. omega arith) ∙ st.above k past;
    }

-- the layout of a call's frame, over what stands in the expansion
abbrev pub called_layout : Layout → ℕ → ℕ → List ℤ → Layout
called_layout l first held qs = record { outer = l.outer; first = first; held = held; kept = λ i. get_or qs i (pos 0) }

at_front : (xs ys : List ℤ) (i : ℕ) → i < 8 → 8 ≤ length xs → get_or (take 8 xs ++ ys) i (pos 0) ≡ get_or xs i (pos 0)
at_front xs ys i less long =
    let n : length (take 8 xs) ≡ 8 = length-take-le 8 xs long in
    get_or_append_left (take 8 xs) ys (pos 0) i (omega arith) ∙ get_or-take 8 xs i (pos 0) less

behind_eight : (xs ys : List ℤ) (j : ℕ) → 8 ≤ length xs → get_or (take 8 xs ++ ys) (8 + j) (pos 0) ≡ get_or ys j (pos 0)
behind_eight xs ys j long =
    ap (λ n. get_or (take 8 xs ++ ys) (n + j) (pos 0)) (sym (length-take-le 8 xs long)) ∙ get_or-append-add (take 8 xs) ys j (pos 0)

length_framed : (xs ys : List ℤ) → 8 ≤ length xs → length (take 8 xs ++ ys) ≡ 8 + length ys
length_framed xs ys long = length-append (take 8 xs) ys ∙ ap (λ n. n + length ys) (length-take-le 8 xs long)

-- a frame is made of values that stand at its parameters
pub frame_made : (l : Layout) (first : ℕ) (values ps qs : List ℤ) → HasRoom l → Stands l ps qs → first + length values ≤ l.first
    → ((j : ℕ) → j < length values → get_or values j (pos 0) ≡ get_or qs (l.outer + (first + j)) (pos 0))
    → Stands (called_layout l first (length values) qs) (take 8 ps ++ values) qs
frame_made l first values ps qs r st below are =
    let room = r.room in let a = st.long in
    let eight : 8 ≤ length ps = omega arith in
    record {
      long = length_framed ps values eight;
      eight = st.eight;
      outer = λ k less. at_front ps values k (omega arith) eight ∙ st.outer k less;
      frame = λ j less. behind_eight ps values j eight ∙ are j less;
      above = λ k past. refl;
    }

-- and dropped: the one before is put back
pub frame_put_back : (l : Layout) (first held : ℕ) (ps qs after now : List ℤ) → HasRoom l → Stands l ps qs → first + held ≤ l.first
    → Stands (called_layout l first held qs) after now → Stands l (take 8 after ++ drop 8 ps) now
frame_put_back l first held ps qs after now r st below st2 =
    let room = r.room in let a = st.long in let b = st2.long in
    let eight : 8 ≤ length after = omega arith in
    let more : length (drop 8 ps) ≡ length ps - 8 = length-drop 8 ps in
    record {
      long = length_framed after (drop 8 ps) eight ∙ omega arith;
      eight = st2.eight;
      outer = λ k less. at_front after (drop 8 ps) k (omega arith) eight ∙ st2.outer k less;
      frame = λ j less.
          behind_eight after (drop 8 ps) j eight ∙ get_or-drop 8 ps j (pos 0) ∙ st.frame j less ∙ sym (st2.above (place_of l j) (omega arith));
      above = λ k past. st2.above k (omega arith) ∙ st.above k past;
    }
