-- Which line the code takes next is which line may stand behind those that were read.
use Rattle.std.proofs.Common.{◌≡◌, ℕ, ◌+◌, ◌<◌, ◌≤◌, ◌==◌, nat_lt, nat_le, Bool, true, false, not, ◌&&◌, ◌||◌, List, [], ◌∷◌, ◌++◌, length, get_or, Option, Some, None, refl, sym, ap, subst, ◌∙◌, arith, inl, inr, ◌⊎◌, IsTrue, length-append}
use Rattle.std.specs.Prelude.{All, AllPairs, Contains}
use Rattle.std.proofs.lemmas.Bool.{cases_Bool, not-true, not-false, or_left, or_right, or_cases, or_parts, and_cases, cond-true, cond-false, and_parts, and_from, eqb-true, eq-eqb, ltb-true, lt-ltb, leb-true, le-leb, false≢true}
use Rattle.std.proofs.lemmas.List.Elements.{All-nil, All-push, All-map, All-contains, Contains-append_left, Contains-push}
use Rattle.std.proofs.lemmas.List.Quantifiers.{all_pairs_push}
use Rattle.mate_num.specs.declared.call.Stamp.{Stamp}
use Rattle.report_writer.specs.Tidy.{Mark, IsNoEarlier, AreOfOneNode, IsLastSeen}
use Rattle.report_writer.proofs.EventLemmas.{All-of_map}
use Rattle.report_line_reader.specs.declared.line.Line.{Line}
use Rattle.report_text.specs.declared.place.Place.{Place}
use Rattle.report_text.specs.Fits.{is_on_air, is_shown, line_mark, line_marks, StandsBehind, AreInOrder}
use Rattle.report_text.specs.Places.{begun_at, keeps_order, keeps_node, joins, begins_next, admits, admits_next, joined_by, place_after, IsPlaceOf, IsPlaceAfter}

-- ---- tests

ne-eqb : (m n : ℕ) → (m == n) ≡ false → m ≡ n → ⊥
ne-eqb m n h e = false≢true (sym h ∙ eq-eqb m n e)

-- ---- a last item

pub get-last : {A : Type 0} (xs : List A) (y d : A) → get_or (xs ++ y ∷ []) (length xs) d ≡ y
get-last [] y d = refl
get-last (x ∷ xs) y d = get-last xs y d

pub get-before : {A : Type 0} (xs ys : List A) (k : ℕ) (d : A) → k < length xs → get_or (xs ++ ys) k d ≡ get_or xs k d
get-before [] ys k d h = absurd (omega (arith, h))
get-before (x ∷ xs) ys Rattle.std.proofs.Common.zero d h = refl
get-before (x ∷ xs) ys (Rattle.std.proofs.Common.suc k) d h = get-before xs ys k d (omega (arith, h))

pub pairs-last : {A : Type 0} (R : A → A → Type 0) (xs : List A) (y : A) → AllPairs R (xs ++ y ∷ []) → All (λ (x : A). R x y) xs
pairs-last R xs y h = λ k d p.
    let n = length-append xs (y ∷ []) in
    let r = h k (length xs) d p (omega (arith, n)) in
    let S : _ → Type 0 = λ x. R x y in
    subst S (get-before xs (y ∷ []) k d p) (subst (R (get_or (xs ++ y ∷ []) k d)) (get-last xs y d) r)

pub pairs-front : {A : Type 0} (R : A → A → Type 0) (xs ys : List A) → AllPairs R (xs ++ ys) → AllPairs R xs
pairs-front R xs ys h = λ i j d p q.
    let n = length-append xs ys in
    let r = h i j d p (omega (arith, n, q)) in
    subst (λ (x : _). R x (get_or xs j d)) (get-before xs ys i d (omega (arith, p, q))) (subst (R (get_or (xs ++ ys) i d)) (get-before xs ys j d q) r)

-- ---- the last event

last_lines : (ls : List Line) (event : ℕ) → IsLastSeen (line_marks ls) event
    → All (λ (m : Line). (m.stamp.event ≤ event) × (m.stamp.event ≡ event → IsTrue (is_shown m.told))) ls
last_lines ls event h = All-of_map (λ (m : Mark). (m.stamp.event ≤ event) × (m.stamp.event ≡ event → IsTrue m.is_seen)) line_mark ls h

pub last_marks : (ls : List Line) (event : ℕ) → All (λ (m : Line). (m.stamp.event ≤ event) × (m.stamp.event ≡ event → IsTrue (is_shown m.told))) ls
    → IsLastSeen (line_marks ls) event
last_marks ls event h = All-map (λ (m : Mark). (m.stamp.event ≤ event) × (m.stamp.event ≡ event → IsTrue m.is_seen)) line_mark ls h

extend_last : (ls : List Line) (l : Line) (event : ℕ) → IsLastSeen (line_marks ls) event → l.stamp.event ≤ event → (l.stamp.event ≡ event → IsTrue (is_shown l.told))
    → IsLastSeen (line_marks (ls ++ l ∷ [])) event
extend_last ls l event h below shown =
    last_marks (ls ++ l ∷ []) event
    (All-push (λ (m : Line). (m.stamp.event ≤ event) × (m.stamp.event ≡ event → IsTrue (is_shown m.told))) ls l (last_lines ls event h) (below, shown))

-- ---- what a line that is taken meets

record JoinsEvent (p : Place) (l : Line) : Type 0 where
  event : p.stamp.event ≡ l.stamp.event
  time : p.stamp.time ≡ l.stamp.time
  air_first : is_on_air l.told ≡ true → p.on_air ≡ true
  nodes : p.on_air ≡ is_on_air l.told → p.node ≤ l.node
  node : (p.stamp.event ≡ 0) ⊎ (((p.several ≡ false) × (p.node ≡ l.node)) ⊎ ((p.only_shown ≡ true) × (is_shown l.told ≡ true)))

record BeginsEvent (p : Place) (l : Line) : Type 0 where
  event : p.stamp.event < l.stamp.event
  time : p.stamp.time ≤ l.stamp.time
  ended : (p.stamp.event ≡ 0) ⊎ (p.several ≡ false)

order-air : (p : Place) (l : Line) → keeps_order p l ≡ true → is_on_air l.told ≡ true → (p.on_air ≡ true) × (p.node ≤ l.node)
order-air p l h air =
    let parts = and_parts p.on_air (nat_le p.node l.node) (sym (cond-true (is_on_air l.told) (p.on_air && nat_le p.node l.node) (p.on_air || nat_le p.node l.node) air) ∙ h) in
    (parts.0, leb-true p.node l.node parts.1)

order-entry : (p : Place) (l : Line) → keeps_order p l ≡ true → is_on_air l.told ≡ false → (p.on_air ≡ true) ⊎ (p.node ≤ l.node)
order-entry p l h entry =
    elim (or_cases p.on_air (nat_le p.node l.node) (sym (cond-false (is_on_air l.told) (p.on_air && nat_le p.node l.node) (p.on_air || nat_le p.node l.node) entry) ∙ h)) [
      | inl air ↦ inl air
      | inr le ↦ inr (leb-true p.node l.node le)
    ]

order-nodes : (p : Place) (l : Line) → keeps_order p l ≡ true → p.on_air ≡ is_on_air l.told → p.node ≤ l.node
order-nodes p l h same =
    elim (cases_Bool (is_on_air l.told)) [
      | inl air ↦ (order-air p l h air).1
      | inr entry ↦ elim (order-entry p l h entry) [ inl air ↦ absurd (false≢true (sym (same ∙ entry) ∙ air)) | inr le ↦ le ]
    ]

node-cases : (p : Place) (l : Line) → keeps_node p l ≡ true
    → (p.stamp.event ≡ 0) ⊎ (((p.several ≡ false) × (p.node ≡ l.node)) ⊎ ((p.only_shown ≡ true) × (is_shown l.told ≡ true)))
node-cases p l h =
    elim (or_cases (p.stamp.event == 0 || (not p.several && p.node == l.node)) (p.only_shown && is_shown l.told) h) [
      | inl a ↦ elim (or_cases (p.stamp.event == 0) (not p.several && p.node == l.node) a) [
        | inl zero_event ↦ inl (eqb-true p.stamp.event 0 zero_event)
        | inr b ↦ let parts = and_parts (not p.several) (p.node == l.node) b in inr (inl (not-true p.several parts.0, eqb-true p.node l.node parts.1))
      ]
      | inr b ↦ let parts = and_parts p.only_shown (is_shown l.told) b in inr (inr (parts.0, parts.1))
    ]

admitted : (p : Place) (l : Line) → admits p l ≡ true → JoinsEvent p l ⊎ BeginsEvent p l
admitted p l h =
    elim (cases_Bool (p.stamp.event == l.stamp.event)) [
      | inl same ↦
          let j : joins p l ≡ true = sym (cond-true (p.stamp.event == l.stamp.event) (joins p l) (begins_next p l) same) ∙ h in
          let a = and_parts (p.stamp.time == l.stamp.time && keeps_order p l) (keeps_node p l) j in
          let b = and_parts (p.stamp.time == l.stamp.time) (keeps_order p l) a.0 in
          inl (record {
            event = eqb-true p.stamp.event l.stamp.event same;
            time = eqb-true p.stamp.time l.stamp.time b.0;
            air_first = λ air. (order-air p l b.1 air).0;
            nodes = order-nodes p l b.1;
            node = node-cases p l a.1;
          })
      | inr other ↦
          let n : begins_next p l ≡ true = sym (cond-false (p.stamp.event == l.stamp.event) (joins p l) (begins_next p l) other) ∙ h in
          let a = and_parts (nat_lt p.stamp.event l.stamp.event && nat_le p.stamp.time l.stamp.time) (p.stamp.event == 0 || not p.several) n in
          let b = and_parts (nat_lt p.stamp.event l.stamp.event) (nat_le p.stamp.time l.stamp.time) a.0 in
          inr (record {
            event = ltb-true p.stamp.event l.stamp.event b.0;
            time = leb-true p.stamp.time l.stamp.time b.1;
            ended = elim (or_cases (p.stamp.event == 0) (not p.several) a.1) [
              | inl zero_event ↦ inl (eqb-true p.stamp.event 0 zero_event)
              | inr one ↦ inr (not-true p.several one)
            ];
          })
    ]

-- ---- the last line of a place

event_of : (ls : List Line) (p : Place) (i : IsPlaceOf ls p) → p.stamp.event ≡ i.last.stamp.event
event_of ls p i = ap (λ (s : Stamp). s.event) i.stamp

time_of : (ls : List Line) (p : Place) (i : IsPlaceOf ls p) → p.stamp.time ≡ i.last.stamp.time
time_of ls p i = ap (λ (s : Stamp). s.time) i.stamp

-- no line is of a later event
below_place : (ls : List Line) (p : Place) → IsPlaceOf ls p → All (λ (m : Line). m.stamp.event ≤ p.stamp.event) ls
below_place ls p i = λ k d h. let e = event_of ls p i in let b = (i.before k d h).event in omega (arith, e, b)

behind_itself : (l : Line) → StandsBehind l l
behind_itself l = record { event = omega arith; air_first = λ e h. h; nodes = λ e h. omega arith }

-- ---- a line that is taken stands in order

behind_joined : (z m l : Line) (p : Place) → p.stamp.event ≡ z.stamp.event → p.node ≡ z.node → p.on_air ≡ is_on_air z.told → JoinsEvent p l → StandsBehind m z → StandsBehind m l
behind_joined z m l p ez nz az j b = record {
  event = (let e = j.event in let f = b.event in omega (arith, e, ez, f));
  air_first = λ e air.
      let same : m.stamp.event ≡ z.stamp.event = e ∙ sym j.event ∙ ez in
      b.air_first same (sym az ∙ j.air_first air);
  nodes = λ e kind.
      let same : m.stamp.event ≡ z.stamp.event = e ∙ sym j.event ∙ ez in
      elim (cases_Bool (is_on_air l.told)) [
        | inl air ↦
            let za : is_on_air z.told ≡ true = sym az ∙ j.air_first air in
            let f = b.nodes same (kind ∙ air ∙ sym za) in
            let g = j.nodes (az ∙ za ∙ sym air) in
            omega (arith, f, g, nz)
        | inr entry ↦ elim (cases_Bool (is_on_air z.told)) [
          | inl za ↦ absurd (false≢true (sym (kind ∙ entry) ∙ b.air_first same za))
          | inr ze ↦
              let f = b.nodes same (kind ∙ entry ∙ sym ze) in
              let g = j.nodes (az ∙ ze ∙ sym entry) in
              omega (arith, f, g, nz)
        ]
      ];
}

behind_begun : (m l : Line) (p : Place) → m.stamp.event ≤ p.stamp.event → BeginsEvent p l → StandsBehind m l
behind_begun m l p below b =
    let e = b.event in record {
      event = omega (arith, e, below);
      air_first = λ same. absurd (omega (arith, e, below, same));
      nodes = λ same. absurd (omega (arith, e, below, same));
    }

all_behind : (ls : List Line) (p : Place) (l : Line) → IsPlaceOf ls p → JoinsEvent p l ⊎ BeginsEvent p l → All (λ (m : Line). StandsBehind m l) ls
all_behind ls p l i (inl j) = λ k d h. behind_joined i.last (get_or ls k d) l p (event_of ls p i) i.node i.on_air j (i.before k d h)
all_behind ls p l i (inr b) = λ k d h. behind_begun (get_or ls k d) l p (below_place ls p i k d h) b

no_earlier : (ls : List Line) (p : Place) (l : Line) → AreInOrder ls → IsPlaceOf ls p → JoinsEvent p l ⊎ BeginsEvent p l
    → All (λ (m : Line). IsNoEarlier (line_mark m) (line_mark l)) ls
no_earlier ls p l o i t = λ k d h.
    let m = get_or ls k d in
    let b = (i.before k d h).event in
    let first = All-contains (λ (x : Line). IsNoEarlier (line_mark m) (line_mark x)) ls i.last (o.in_time k d h) i.has b in
    let ez = event_of ls p i in
    let tz = time_of ls p i in
    λ e. elim t [
      | inl j ↦ let tj = j.time in omega (arith, first, tz, tj)
      | inr n ↦ let tn = n.time in omega (arith, first, tz, tn)
    ]

no_later : (ls : List Line) (p : Place) (l : Line) → AreInOrder ls → IsPlaceOf ls p → JoinsEvent p l ⊎ BeginsEvent p l
    → All (λ (m : Line). IsNoEarlier (line_mark l) (line_mark m)) ls
no_later ls p l o i t = λ k d h e.
    let m = get_or ls k d in
    let below = below_place ls p i k d h in
    let ez = event_of ls p i in
    let tz = time_of ls p i in
    elim t [
      | inl j ↦
          let ej = j.event in
          let tj = j.time in
          let from_last = All-contains (λ (a : Line). All (λ (b : Line). IsNoEarlier (line_mark a) (line_mark b)) ls) ls i.last o.in_time i.has in
          let later = from_last k d h (omega (arith, e, ez, ej)) in
          omega (arith, later, tz, tj)
      | inr n ↦ let en = n.event in absurd (omega (arith, e, below, en))
    ]

-- an event that was the last one is the place's
last_is_place : (ls : List Line) (p : Place) (event : ℕ) → IsPlaceOf ls p → IsLastSeen (line_marks ls) event → event ≤ p.stamp.event → p.stamp.event ≡ event
last_is_place ls p event i last le =
    let z = All-contains (λ (m : Line). (m.stamp.event ≤ event) × (m.stamp.event ≡ event → IsTrue (is_shown m.told))) ls i.last (last_lines ls event last) i.has in
    let ez = event_of ls p i in
    let below = z.0 in
    omega (arith, below, ez, le)

-- two records of one event stay of one node
still_one : (ls : List Line) (p : Place) (l a b : Line) → IsPlaceOf ls p → JoinsEvent p l ⊎ BeginsEvent p l → a.stamp.event ≤ p.stamp.event
    → (p.several ≡ false → a.stamp.event ≡ p.stamp.event → a.node ≡ p.node) → (p.several ≡ false → b.stamp.event ≡ p.stamp.event → b.node ≡ p.node)
    → AreOfOneNode (line_marks ls) (line_mark a) (line_mark b) → AreOfOneNode (line_marks (ls ++ l ∷ [])) (line_mark a) (line_mark b)
still_one ls p l a b i t below na nb old = λ e. elim (old e) [
  | inl same ↦ inl same
  | inr rest ↦ elim rest [
    | inl zero_event ↦ inr (inl zero_event)
    | inr last ↦
        let at : p.stamp.event ≡ a.stamp.event = last_is_place ls p a.stamp.event i last below in
        elim (cases_Bool p.several) [
          | inr one ↦ inl (na one (sym at) ∙ sym (nb one (sym e ∙ sym at)))
          | inl two ↦ elim t [
            | inl j ↦ elim j.node [
              | inl zero_event ↦ inr (inl (sym at ∙ zero_event))
              | inr more ↦ elim more [
                | inl single ↦ absurd (false≢true (sym single.0 ∙ two))
                | inr shown ↦ inr (inr (extend_last ls l a.stamp.event last (let ej = j.event in omega (arith, ej, at)) (λ _. shown.1)))
              ]
            ]
            | inr n ↦ elim n.ended [
              | inl zero_event ↦ inr (inl (sym at ∙ zero_event))
              | inr single ↦ absurd (false≢true (sym single ∙ two))
            ]
          ]
        ]
  ]
]

-- a record and the new one
one_with_new : (ls : List Line) (p : Place) (l m : Line) → IsPlaceOf ls p → JoinsEvent p l ⊎ BeginsEvent p l → m.stamp.event ≤ p.stamp.event
    → (p.several ≡ false → m.stamp.event ≡ p.stamp.event → m.node ≡ p.node) → m.stamp.event ≡ l.stamp.event
    → (m.node ≡ l.node) ⊎ ((l.stamp.event ≡ 0) ⊎ IsLastSeen (line_marks (ls ++ l ∷ [])) l.stamp.event)
one_with_new ls p l m i (inr n) below nm e = let en = n.event in absurd (omega (arith, en, below, e))
one_with_new ls p l m i (inl j) below nm e = elim j.node [
  | inl zero_event ↦ inr (inl (sym j.event ∙ zero_event))
  | inr more ↦ elim more [
    | inl single ↦ inl (nm single.0 (e ∙ sym j.event) ∙ single.1)
    | inr shown ↦
        let all = i.shown shown.0 in
        let ej = j.event in
        let front : All (λ (x : Line). (x.stamp.event ≤ l.stamp.event) × (x.stamp.event ≡ l.stamp.event → IsTrue (is_shown x.told))) ls =
        λ k d h. (let b = below_place ls p i k d h in (omega (arith, b, ej), λ q. all k d h (q ∙ sym ej))) in
        inr (inr (last_marks (ls ++ l ∷ []) l.stamp.event
        (All-push (λ (x : Line). (x.stamp.event ≤ l.stamp.event) × (x.stamp.event ≡ l.stamp.event → IsTrue (is_shown x.told))) ls l front (omega arith, λ _. shown.1))))
  ]
]

-- the new line, and its place

pub stays_in_order : (ls : List Line) (p : Place) (l : Line) → AreInOrder ls → IsPlaceOf ls p → admits p l ≡ true → AreInOrder (ls ++ l ∷ [])
stays_in_order ls p l o i h =
    let t = admitted p l h in
    let all = ls ++ l ∷ [] in
    let NoEarlier : Line → Line → Type 0 = λ a b. IsNoEarlier (line_mark a) (line_mark b) in
    let OfOne : Line → Line → Type 0 = λ a b. AreOfOneNode (line_marks all) (line_mark a) (line_mark b) in
    let mine : NoEarlier l l = λ e. omega arith in
    let ours : OfOne l l = λ e. inl refl in record {
      ordered = all_pairs_push StandsBehind ls l o.ordered (all_behind ls p l i t);
      in_time = All-push (λ (a : Line). All (NoEarlier a) all) ls l
          (λ k d q. All-push (NoEarlier (get_or ls k d)) ls l (o.in_time k d q) (no_earlier ls p l o i t k d q))
          (All-push (NoEarlier l) ls l (no_later ls p l o i t) mine);
      one_node = All-push (λ (a : Line). All (OfOne a) all) ls l
          (λ k d q. All-push (OfOne (get_or ls k d)) ls l
          (λ k2 d2 q2. still_one ls p l (get_or ls k d) (get_or ls k2 d2) i t (below_place ls p i k d q) (λ s. i.one s k d q) (λ s. i.one s k2 d2 q2) (o.one_node k d q k2 d2 q2))
          (λ e. elim (one_with_new ls p l (get_or ls k d) i t (below_place ls p i k d q) (λ s. i.one s k d q) e) [
            | inl same ↦ inl same
            | inr rest ↦ elim rest [
              | inl zero_event ↦ inr (inl (e ∙ zero_event))
              | inr last ↦ inr (inr (subst (λ (n : ℕ). IsLastSeen (line_marks all) n) (sym e) last))
            ]
          ]))
          (All-push (OfOne l) ls l
          (λ k d q e. elim (one_with_new ls p l (get_or ls k d) i t (below_place ls p i k d q) (λ s. i.one s k d q) (sym e)) [
            | inl same ↦ inl (sym same)
            | inr rest ↦ inr rest
          ]) ours);
    }

place_joined : (ls : List Line) (p : Place) (l : Line) → IsPlaceOf ls p → JoinsEvent p l → All (λ (m : Line). StandsBehind m l) ls → IsPlaceOf (ls ++ l ∷ []) (joined_by p l)
place_joined ls p l i j behind = record {
  last = l;
  has = Contains-push ls l;
  stamp = refl;
  node = refl;
  on_air = refl;
  before = All-push (λ (m : Line). StandsBehind m l) ls l behind (behind_itself l);
  shown = λ both.
      let parts = and_parts p.only_shown (is_shown l.told) both in
      All-push (λ (m : Line). m.stamp.event ≡ l.stamp.event → is_shown m.told ≡ true) ls l (λ k d q e. i.shown parts.0 k d q (e ∙ sym j.event)) (λ e. parts.1);
  not_shown = λ neither. elim (and_cases p.only_shown (is_shown l.told) neither) [
    | inl old ↦ let w = i.not_shown old in (w.0, Contains-append_left ls (l ∷ []) w.0 w.1, w.2 ∙ j.event, w.3)
    | inr new ↦ (l, Contains-push ls l, refl, new)
  ];
  one = λ none.
      let parts = or_parts p.several (not (p.node == l.node)) none in
      let same : p.node ≡ l.node = eqb-true p.node l.node (not-false (p.node == l.node) parts.1) in
      All-push (λ (m : Line). m.stamp.event ≡ l.stamp.event → m.node ≡ l.node) ls l (λ k d q e. i.one parts.0 k d q (e ∙ sym j.event) ∙ same) (λ e. refl);
  two = λ some. elim (cases_Bool (p.node == l.node)) [
    | inl same ↦
        let old : p.several ≡ true = elim (or_cases p.several (not (p.node == l.node)) some) [ inl two ↦ two | inr ne ↦ absurd (false≢true (sym (not-true (p.node == l.node) ne) ∙ same)) ] in
        let w = i.two old in
        (w.0, Contains-append_left ls (l ∷ []) w.0 w.1, w.2 ∙ j.event, λ e. w.3 (e ∙ sym (eqb-true p.node l.node same)))
    | inr other ↦ (i.last, Contains-append_left ls (l ∷ []) i.last i.has, sym (event_of ls p i) ∙ j.event, λ e. ne-eqb p.node l.node other (i.node ∙ e))
  ];
}

place_begun : (ls : List Line) (l : Line) → All (λ (m : Line). StandsBehind m l) ls → All (λ (m : Line). m.stamp.event < l.stamp.event) ls → IsPlaceOf (ls ++ l ∷ []) (begun_at l)
place_begun ls l behind below = record {
  last = l;
  has = Contains-push ls l;
  stamp = refl;
  node = refl;
  on_air = refl;
  before = All-push (λ (m : Line). StandsBehind m l) ls l behind (behind_itself l);
  shown = λ yes_shown. All-push (λ (m : Line). m.stamp.event ≡ l.stamp.event → is_shown m.told ≡ true) ls l (λ k d q e. (let b = below k d q in absurd (omega (arith, b, e)))) (λ e. yes_shown);
  not_shown = λ neither. (l, Contains-push ls l, refl, neither);
  one = λ none. All-push (λ (m : Line). m.stamp.event ≡ l.stamp.event → m.node ≡ l.node) ls l (λ k d q e. (let b = below k d q in absurd (omega (arith, b, e)))) (λ e. refl);
  two = λ some. absurd (false≢true some);
}

pub place_next : (ls : List Line) (p : Place) (l : Line) → IsPlaceOf ls p → admits p l ≡ true → IsPlaceOf (ls ++ l ∷ []) (place_after (Some p) l)
place_next ls p l i h =
    let t = admitted p l h in
    let behind = all_behind ls p l i t in
    elim t [
      | inl j ↦
          subst (IsPlaceOf (ls ++ l ∷ [])) (sym (cond-true (p.stamp.event == l.stamp.event) (joined_by p l) (begun_at l) (eq-eqb p.stamp.event l.stamp.event j.event)))
          (place_joined ls p l i j behind)
      | inr n ↦
          let en = n.event in
          let ne : (p.stamp.event == l.stamp.event) ≡ false = Rattle.std.proofs.lemmas.Bool.ne_eqb p.stamp.event l.stamp.event (λ e. absurd (omega (arith, en, e))) in
          subst (IsPlaceOf (ls ++ l ∷ [])) (sym (cond-false (p.stamp.event == l.stamp.event) (joined_by p l) (begun_at l) ne))
          (place_begun ls l behind (λ k d q. (let b = below_place ls p i k d q in omega (arith, b, en))))
    ]

-- ---- a line that may stand behind is taken

keeps_order-behind : (p : Place) (z l : Line) → p.stamp.event ≡ z.stamp.event → p.node ≡ z.node → p.on_air ≡ is_on_air z.told → StandsBehind z l → p.stamp.event ≡ l.stamp.event
    → keeps_order p l ≡ true
keeps_order-behind p z l ez nz az b e =
    let same : z.stamp.event ≡ l.stamp.event = sym ez ∙ e in
    elim (cases_Bool (is_on_air l.told)) [
      | inl air ↦
          let za : is_on_air z.told ≡ true = b.air_first same air in
          let le = b.nodes same (za ∙ sym air) in
          cond-true (is_on_air l.told) (p.on_air && nat_le p.node l.node) (p.on_air || nat_le p.node l.node) air
          ∙ and_from p.on_air (nat_le p.node l.node) (az ∙ za) (le-leb p.node l.node (omega (arith, le, nz)))
      | inr entry ↦
          cond-false (is_on_air l.told) (p.on_air && nat_le p.node l.node) (p.on_air || nat_le p.node l.node) entry
          ∙ elim (cases_Bool (is_on_air z.told)) [
            | inl za ↦ or_left p.on_air (nat_le p.node l.node) (az ∙ za)
            | inr ze ↦ let le = b.nodes same (ze ∙ sym entry) in or_right p.on_air (nat_le p.node l.node) (le-leb p.node l.node (omega (arith, le, nz)))
          ]
    ]

-- in a last event that only shows stores
keeps_node-last : (ls : List Line) (p : Place) (l : Line) (event : ℕ) → IsPlaceOf ls p → event ≡ p.stamp.event → p.stamp.event ≡ l.stamp.event
    → IsLastSeen (line_marks (ls ++ l ∷ [])) event → keeps_node p l ≡ true
keeps_node-last ls p l event i at e last =
    let Seen : Line → Type 0 = λ (m : Line). (m.stamp.event ≤ event) × (m.stamp.event ≡ event → IsTrue (is_shown m.told)) in
    let all = last_lines (ls ++ l ∷ []) event last in
    let mine : is_shown l.told ≡ true = (All-contains Seen (ls ++ l ∷ []) l all (Contains-push ls l)).1 (sym e ∙ sym at) in
    elim (cases_Bool p.only_shown) [
      | inl shown ↦ or_right (p.stamp.event == 0 || (not p.several && p.node == l.node)) (p.only_shown && is_shown l.told) (and_from p.only_shown (is_shown l.told) shown mine)
      | inr other ↦
          let w = i.not_shown other in
          let yes_shown = (All-contains Seen (ls ++ l ∷ []) w.0 all (Contains-append_left ls (l ∷ []) w.0 w.1)).1 (w.2 ∙ sym at) in
          absurd (false≢true (sym w.3 ∙ yes_shown))
    ]

keeps_node-zero : (p : Place) (l : Line) → p.stamp.event ≡ 0 → keeps_node p l ≡ true
keeps_node-zero p l z =
    or_left (p.stamp.event == 0 || (not p.several && p.node == l.node)) (p.only_shown && is_shown l.told)
    (or_left (p.stamp.event == 0) (not p.several && p.node == l.node) (eq-eqb p.stamp.event 0 z))

one_of : (ls : List Line) (l a b : Line) → AreInOrder (ls ++ l ∷ []) → Contains (ls ++ l ∷ []) a → Contains (ls ++ l ∷ []) b
    → AreOfOneNode (line_marks (ls ++ l ∷ [])) (line_mark a) (line_mark b)
one_of ls l a b o ha hb =
    All-contains (λ (y : Line). AreOfOneNode (line_marks (ls ++ l ∷ [])) (line_mark a) (line_mark y)) (ls ++ l ∷ []) b
    (All-contains (λ (x : Line). All (λ (y : Line). AreOfOneNode (line_marks (ls ++ l ∷ [])) (line_mark x) (line_mark y)) (ls ++ l ∷ [])) (ls ++ l ∷ []) a o.one_node ha) hb

keeps_node-behind : (ls : List Line) (p : Place) (l : Line) → AreInOrder (ls ++ l ∷ []) → IsPlaceOf ls p → p.stamp.event ≡ l.stamp.event → keeps_node p l ≡ true
keeps_node-behind ls p l o i e =
    let here = Contains-push ls l in
    let z_in = Contains-append_left ls (l ∷ []) i.last i.has in
    let ez = event_of ls p i in
    elim (one_of ls l i.last l o z_in here (sym ez ∙ e)) [
      | inl same ↦ elim (cases_Bool p.several) [
        | inr one ↦
            or_left (p.stamp.event == 0 || (not p.several && p.node == l.node)) (p.only_shown && is_shown l.told)
            (or_right (p.stamp.event == 0) (not p.several && p.node == l.node) (and_from (not p.several) (p.node == l.node) (ap not one) (eq-eqb p.node l.node (i.node ∙ same))))
        | inl two ↦
            let w = i.two two in
            elim (one_of ls l w.0 l o (Contains-append_left ls (l ∷ []) w.0 w.1) here (w.2 ∙ e)) [
              | inl other ↦ absurd (w.3 (other ∙ sym same ∙ sym i.node))
              | inr rest ↦ elim rest [
                | inl zero_event ↦ keeps_node-zero p l (sym w.2 ∙ zero_event)
                | inr last ↦ keeps_node-last ls p l w.0.stamp.event i w.2 e last
              ]
            ]
      ]
      | inr rest ↦ elim rest [
        | inl zero_event ↦ keeps_node-zero p l (ez ∙ zero_event)
        | inr last ↦ keeps_node-last ls p l i.last.stamp.event i (sym ez) e last
      ]
    ]

event_over : (ls : List Line) (p : Place) (l : Line) → AreInOrder (ls ++ l ∷ []) → IsPlaceOf ls p → p.stamp.event < l.stamp.event → (p.stamp.event == 0 || not p.several) ≡ true
event_over ls p l o i lt = elim (cases_Bool p.several) [
  | inr one ↦ or_right (p.stamp.event == 0) (not p.several) (ap not one)
  | inl two ↦
      let w = i.two two in
      let ez = event_of ls p i in
      let at = w.2 in
      elim (one_of ls l w.0 i.last o (Contains-append_left ls (l ∷ []) w.0 w.1) (Contains-append_left ls (l ∷ []) i.last i.has) (w.2 ∙ ez)) [
        | inl same ↦ absurd (w.3 (same ∙ sym i.node))
        | inr rest ↦ elim rest [
          | inl zero_event ↦ or_left (p.stamp.event == 0) (not p.several) (eq-eqb p.stamp.event 0 (sym w.2 ∙ zero_event))
          | inr last ↦
              let Seen : Line → Type 0 = λ (m : Line). (m.stamp.event ≤ w.0.stamp.event) × (m.stamp.event ≡ w.0.stamp.event → IsTrue (is_shown m.told)) in
              let below = (All-contains Seen (ls ++ l ∷ []) l (last_lines (ls ++ l ∷ []) w.0.stamp.event last) (Contains-push ls l)).0 in
              absurd (omega (arith, below, at, lt))
        ]
      ]
]

pub is_admitted : (ls : List Line) (p : Place) (l : Line) → AreInOrder (ls ++ l ∷ []) → IsPlaceOf ls p → admits p l ≡ true
is_admitted ls p l o i =
    let all = ls ++ l ∷ [] in
    let NoEarlier : Line → Line → Type 0 = λ a b. IsNoEarlier (line_mark a) (line_mark b) in
    let behind : StandsBehind i.last l = All-contains (λ (m : Line). StandsBehind m l) ls i.last (pairs-last StandsBehind ls l o.ordered) i.has in
    let here = Contains-push ls l in
    let z_in = Contains-append_left ls (l ∷ []) i.last i.has in
    let on = All-contains (NoEarlier i.last) all l (All-contains (λ (a : Line). All (NoEarlier a) all) all i.last o.in_time z_in) here in
    let back = All-contains (NoEarlier l) all i.last (All-contains (λ (a : Line). All (NoEarlier a) all) all l o.in_time here) z_in in
    let ez = event_of ls p i in
    let tz = time_of ls p i in
    let le = behind.event in
    elim (cases_Bool (p.stamp.event == l.stamp.event)) [
      | inl same ↦
          let e = eqb-true p.stamp.event l.stamp.event same in
          let t1 = on (omega (arith, e, ez)) in
          let t2 = back (omega (arith, e, ez)) in
          cond-true (p.stamp.event == l.stamp.event) (joins p l) (begins_next p l) same
          ∙ and_from (p.stamp.time == l.stamp.time && keeps_order p l) (keeps_node p l)
          (and_from (p.stamp.time == l.stamp.time) (keeps_order p l) (eq-eqb p.stamp.time l.stamp.time (omega (arith, t1, t2, tz))) (keeps_order-behind p i.last l ez i.node i.on_air behind e))
          (keeps_node-behind ls p l o i e)
      | inr other ↦
          let ne : p.stamp.event ≡ l.stamp.event → ⊥ = ne-eqb p.stamp.event l.stamp.event other in
          let lt : p.stamp.event < l.stamp.event = omega (arith, ne, le, ez) in
          let t1 = on le in
          cond-false (p.stamp.event == l.stamp.event) (joins p l) (begins_next p l) other
          ∙ and_from (nat_lt p.stamp.event l.stamp.event && nat_le p.stamp.time l.stamp.time) (p.stamp.event == 0 || not p.several)
          (and_from (nat_lt p.stamp.event l.stamp.event) (nat_le p.stamp.time l.stamp.time) (lt-ltb p.stamp.event l.stamp.event lt) (le-leb p.stamp.time l.stamp.time (omega (arith, t1, tz))))
          (event_over ls p l o i lt)
    ]

-- ---- the first line

pub no_lines : AreInOrder []
no_lines = record {
  ordered = λ i j d p q. absurd (omega (arith, q));
  in_time = All-nil (λ (a : Line). All (λ (b : Line). IsNoEarlier (line_mark a) (line_mark b)) []);
  one_node = All-nil (λ (a : Line). All (λ (b : Line). AreOfOneNode (line_marks []) (line_mark a) (line_mark b)) []);
}

one_line : (l : Line) → AreInOrder (l ∷ [])
one_line l =
    let mine : IsNoEarlier (line_mark l) (line_mark l) = λ e. omega arith in
    let ours : AreOfOneNode (line_marks (l ∷ [])) (line_mark l) (line_mark l) = λ e. inl refl in
    let Time : Line → Type 0 = λ (b : Line). IsNoEarlier (line_mark l) (line_mark b) in
    let One : Line → Type 0 = λ (b : Line). AreOfOneNode (line_marks (l ∷ [])) (line_mark l) (line_mark b) in record {
      ordered = λ i j d p q. absurd (omega (arith, p, q));
      in_time = All-push (λ (a : Line). All (λ (b : Line). IsNoEarlier (line_mark a) (line_mark b)) (l ∷ [])) [] l (All-nil _) (All-push Time [] l (All-nil Time) mine);
      one_node = All-push (λ (a : Line). All (λ (b : Line). AreOfOneNode (line_marks (l ∷ [])) (line_mark a) (line_mark b)) (l ∷ [])) [] l (All-nil _) (All-push One [] l (All-nil One) ours);
    }

-- ---- lines, and where they have come to

pub next_order : (ls : List Line) (p : Option Place) (l : Line) → AreInOrder ls → IsPlaceAfter ls p → admits_next p l ≡ true → AreInOrder (ls ++ l ∷ [])
next_order ls None l o i h = subst (λ (xs : List Line). AreInOrder (xs ++ l ∷ [])) (sym i) (one_line l)
next_order ls (Some p) l o i h = stays_in_order ls p l o i h

pub next_place : (ls : List Line) (p : Option Place) (l : Line) → IsPlaceAfter ls p → admits_next p l ≡ true → IsPlaceOf (ls ++ l ∷ []) (place_after p l)
next_place ls None l i h =
    subst (λ (xs : List Line). IsPlaceOf (xs ++ l ∷ []) (begun_at l)) (sym i)
    (place_begun [] l (All-nil (λ (m : Line). StandsBehind m l)) (All-nil (λ (m : Line). m.stamp.event < l.stamp.event)))
next_place ls (Some p) l i h = place_next ls p l i h

pub next_taken : (ls : List Line) (p : Option Place) (l : Line) → IsPlaceAfter ls p → AreInOrder (ls ++ l ∷ []) → admits_next p l ≡ true
next_taken ls None l i o = refl
next_taken ls (Some p) l i o = is_admitted ls p l o i
