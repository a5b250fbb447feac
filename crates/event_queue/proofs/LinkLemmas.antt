-- Lists of places: the first one taken out, and one put last.
use Rattle.std.proofs.Common.{◌≡◌, ◌≢◌, ℕ, zero, suc, ◌+◌, ◌-◌, ◌<◌, ◌≤◌, ◌⊎◌, List, [], ◌∷◌, ◌++◌, length, get_or, set, refl, sym, ◌∙◌, ap, subst, arith, inl, inr}
use Rattle.std.proofs.lemmas.Bool.{cases_eq, cases_lt}
use Rattle.std.proofs.lemmas.List.{get_or-set_same, get_or-set_other, length-set, get_or_default, get_or_past, length-append, length-map}
use Rattle.std.proofs.lemmas.Grind.{get_or_default_zero}
use Rattle.std.proofs.lemmas.List.Sums.{sum_by-set, get_or-le-sum_by}
use Rattle.event_queue.specs.declared.chains.Head.{Head}
use Rattle.std.specs.Prelude.{Some, slice_get, replicate}
use Rattle.event_queue.specs.Links.{Places, no_head, head_of, follow, place_at, tabled, places_behind, list_of, list_at, seen_places, lengths, IsLinked, AreLinks, IsOutside, Unlinks, LinksLast, MovesFirst, MakesRoom}

pub tabled_cong : (n : ℕ) (f g : ℕ → ℕ) → ((p : ℕ) → p < n → f p ≡ g p) → tabled n f ≡ tabled n g
tabled_cong zero f g same = refl
tabled_cong (suc n) f g same =
    ap (λ (x : ℕ). x ∷ tabled n (λ p. f (suc p))) (same 0 (omega arith))
    ∙ ap (λ (xs : List ℕ). g 0 ∷ xs) (tabled_cong n (λ p. f (suc p)) (λ p. g (suc p)) (λ p low. same (suc p) (omega (arith, low))))

pub tabled_push : (n : ℕ) (f : ℕ → ℕ) → tabled (suc n) f ≡ tabled n f ++ f n ∷ []
tabled_push zero f = refl
tabled_push (suc n) f = ap (λ (xs : List ℕ). f 0 ∷ xs) (tabled_push n (λ p. f (suc p)))

pub IsOutside-tabled : (n : ℕ) (f : ℕ → ℕ) (place : ℕ) → ((p : ℕ) → p < n → f p ≢ place) → IsOutside place (tabled n f)
IsOutside-tabled zero f place other = tt
IsOutside-tabled (suc n) f place other = (other 0 (omega arith), IsOutside-tabled n (λ p. f (suc p)) place (λ p low. other (suc p) (omega (arith, low))))

follow_last : (next : List ℕ) (n place : ℕ) → follow next (suc n) place ≡ get_or next (follow next n place) 0
follow_last next zero place = refl
follow_last next (suc n) place = follow_last next n (get_or next place 0)

-- a link that isn't followed may change
follow-set : (next : List ℕ) (at to n place : ℕ) → ((p : ℕ) → p < n → follow next p place ≢ at) → follow (set next at to) n place ≡ follow next n place
follow-set next at to zero place other = refl
follow-set next at to (suc n) place other =
    ap (follow (set next at to) n) (get_or-set_other next at place to 0 (other 0 (omega arith)))
    ∙ follow-set next at to n (get_or next place 0) (λ p low. other (suc p) (omega (arith, low)))

-- the head of a list without its first place
pub record Shortens (next : List ℕ) (old new : Head) : Type 0 where
  pub first : new.first ≡ get_or next old.first 0
  pub last : new.last ≡ old.last
  pub len : old.len ≡ suc new.len

-- where a place stood before
abbrev Was : List ℕ → List Head → List Head → ℕ → ℕ → ℕ → Type 0
Was next old new list s p =
    ((s ≡ list) × (suc p < (head_of old s).len) × (place_at next old s (suc p) ≡ place_at next new s p))
    ⊎ ((s ≢ list) × (p < (head_of old s).len) × (place_at next old s p ≡ place_at next new s p))

was : (next : List ℕ) (old : List Head) (list : ℕ) (new : Head) → list < length old → Shortens next (head_of old list) new → (s p : ℕ) → p < (head_of (set old list new) s).len → Was next old (set old list new) list s p
was next old list new within short s p low = elim (cases_eq s list) [
  | inl e ↦ (
      let is : head_of (set old list new) s ≡ new = ap (head_of (set old list new)) e ∙ get_or-set_same old list new no_head within in
      let was_is : head_of old s ≡ head_of old list = ap (head_of old) e in
      let len_is : (head_of (set old list new) s).len ≡ new.len = ap (λ (h : Head). h.len) is in
      let len_was : (head_of old s).len ≡ (head_of old list).len = ap (λ (h : Head). h.len) was_is in
      inl (e, omega (arith, low, len_is, len_was, short.len), ap (λ (h : Head). follow next p (get_or next h.first 0)) was_is ∙ ap (follow next p) (sym short.first) ∙ ap (λ (h : Head). follow next p h.first) (sym is)))
  | inr n ↦ (
      let same : head_of (set old list new) s ≡ head_of old s = get_or-set_other old list s new no_head n in
      let len_is : (head_of (set old list new) s).len ≡ (head_of old s).len = ap (λ (h : Head). h.len) same in
      inr (n, omega (arith, low, len_is), ap (λ (h : Head). follow next p h.first) (sym same)))
]

pub unlinks : (next : List ℕ) (old : List Head) (list : ℕ) (new : Head) → IsLinked next old → list < length old → Shortens next (head_of old list) new → Unlinks next old (set old list new) list (head_of old list).first
unlinks next old list new linked within short =
    let old_at : (s p : ℕ) → p < (head_of (set old list new) s).len → Was next old (set old list new) list s p = was next old list new within short in
    let is : head_of (set old list new) list ≡ new = get_or-set_same old list new no_head within in
    record {
      linked = record {
        within = λ s p low. elim (old_at s p low) [
          | inl a ↦ subst (λ (i : ℕ). i < length next) a.2 (linked.within s (suc p) a.1)
          | inr a ↦ subst (λ (i : ℕ). i < length next) a.2 (linked.within s p a.1)
        ];
        apart = λ s p t q low lower same. elim (old_at s p low) [
          | inl a ↦ elim (old_at t q lower) [
            | inl b ↦ (let both = linked.apart s (suc p) t (suc q) a.1 b.1 (a.2 ∙ same ∙ sym b.2) in let e : suc p ≡ suc q = both.1 in (both.0, omega (arith, e)))
            | inr b ↦ (let both = linked.apart s (suc p) t q a.1 b.1 (a.2 ∙ same ∙ sym b.2) in absurd (b.0 (sym both.0 ∙ a.0)))
          ]
          | inr a ↦ elim (old_at t q lower) [
            | inl b ↦ (let both = linked.apart s p t (suc q) a.1 b.1 (a.2 ∙ same ∙ sym b.2) in absurd (a.0 (both.0 ∙ b.0)))
            | inr b ↦ linked.apart s p t q a.1 b.1 (a.2 ∙ same ∙ sym b.2)
          ]
        ];
        ends = λ s p len. elim (cases_eq s list) [
          | inl e ↦ (
              let here : head_of (set old list new) s ≡ new = ap (head_of (set old list new)) e ∙ is in
              let len_is : (head_of (set old list new) s).len ≡ new.len = ap (λ (h : Head). h.len) here in
              let longer : (head_of old list).len ≡ suc (suc p) = omega (arith, len, len_is, short.len) in
              ap (λ (h : Head). h.last) here ∙ short.last ∙ linked.ends list (suc p) longer
              ∙ ap (follow next p) (sym short.first) ∙ ap (λ (h : Head). follow next p h.first) (sym here))
          | inr n ↦ (
              let same : head_of (set old list new) s ≡ head_of old s = get_or-set_other old list s new no_head n in
              let len_is : (head_of old s).len ≡ suc p = ap (λ (h : Head). h.len) (sym same) ∙ len in
              ap (λ (h : Head). h.last) same ∙ linked.ends s p len_is ∙ ap (λ (h : Head). follow next p h.first) (sym same))
        ];
      };
      below = linked.within list 0 (let e = short.len in omega (arith, e));
      alone = λ s p low same. elim (old_at s p low) [
        | inl a ↦ (let both = linked.apart s (suc p) list 0 a.1 (let e = short.len in omega (arith, e)) (a.2 ∙ same) in let e : suc p ≡ 0 = both.1 in absurd (omega (arith, e)))
        | inr a ↦ (let both = linked.apart s p list 0 a.1 (let e = short.len in omega (arith, e)) (a.2 ∙ same) in absurd (a.0 both.0))
      ];
      first = ap (λ (n : ℕ). tabled n (place_at next old list)) short.len
          ∙ ap (λ (i : ℕ). (head_of old list).first ∷ tabled new.len (λ p. follow next p i)) (sym short.first)
          ∙ ap (λ (h : Head). (head_of old list).first ∷ tabled h.len (λ p. follow next p h.first)) (sym is);
      others = λ s n. ap (λ (h : Head). tabled h.len (λ p. follow next p h.first)) (get_or-set_other old list s new no_head n);
      lists = length-set old list new;
      counted = let e = sum_by-set (λ (h : Head). h.len) old list new no_head within in omega (arith, e, short.len);
    }

-- a list got a place at its tail, and all others are as they were
pub record Joins (next : List ℕ) (old : List Head) (next' : List ℕ) (new : List Head) (list place : ℕ) : Type 0 where
  pub kept : (s p : ℕ) → p < (head_of old s).len → place_at next' new s p ≡ place_at next old s p
  pub joined : place_at next' new list (head_of old list).len ≡ place
  pub longer : (head_of new list).len ≡ suc (head_of old list).len
  pub ends : (head_of new list).last ≡ place
  pub others : (s : ℕ) → s ≢ list → (head_of new s).len ≡ (head_of old s).len
  pub lasts : (s : ℕ) → s ≢ list → (head_of new s).last ≡ (head_of old s).last
  pub total : length next' ≡ length next
  pub lists : length new ≡ length old
  pub counted : lengths new ≡ lengths old + 1

-- a place of the new lists is an old one or the new one
old_or_new : (next : List ℕ) (old : List Head) (next' : List ℕ) (new : List Head) (list place : ℕ) → Joins next old next' new list place → (s p : ℕ) → p < (head_of new s).len → (p < (head_of old s).len) ⊎ ((s ≡ list) × (p ≡ (head_of old s).len))
old_or_new next old next' new list place joins s p low = elim (cases_eq s list) [
  | inl e ↦ (
      let new_len : (head_of new s).len ≡ (head_of new list).len = ap (λ (k : ℕ). (head_of new k).len) e in
      let old_len : (head_of old s).len ≡ (head_of old list).len = ap (λ (k : ℕ). (head_of old k).len) e in
      let longer = joins.longer in
      elim (cases_eq p (head_of old s).len) [ inl same ↦ inr (e, same) | inr other ↦ inl (omega (arith, low, new_len, old_len, longer, other)) ])
  | inr n ↦ inl (let same = joins.others s n in omega (arith, low, same))
]

pub appends : (next : List ℕ) (old : List Head) (next' : List ℕ) (new : List Head) (list place : ℕ) → IsLinked next old → place < length next
    → ((s p : ℕ) → p < (head_of old s).len → place_at next old s p ≢ place) → Joins next old next' new list place → LinksLast next old next' new list place
appends next old next' new list place linked below alone joins =
    let is_new : (s p : ℕ) → s ≡ list → p ≡ (head_of old s).len → place_at next' new s p ≡ place =
    λ s p e same. ap (place_at next' new s) same ∙ ap (λ (k : ℕ). place_at next' new k (head_of old k).len) e ∙ joins.joined in
    let cases : (s p : ℕ) → p < (head_of new s).len → (p < (head_of old s).len) ⊎ ((s ≡ list) × (p ≡ (head_of old s).len)) = old_or_new next old next' new list place joins in
    record {
      linked = record {
        within = λ s p low. elim (cases s p low) [
          | inl a ↦ (let same = joins.kept s p a in let less = linked.within s p a in let total = joins.total in omega (arith, same, less, total))
          | inr a ↦ (let same = is_new s p a.0 a.1 in let total = joins.total in omega (arith, same, below, total))
        ];
        apart = λ s p t q low lower same. elim (cases s p low) [
          | inl a ↦ elim (cases t q lower) [
            | inl b ↦ linked.apart s p t q a b (sym (joins.kept s p a) ∙ same ∙ joins.kept t q b)
            | inr b ↦ absurd (alone s p a (sym (joins.kept s p a) ∙ same ∙ is_new t q b.0 b.1))
          ]
          | inr a ↦ elim (cases t q lower) [
            | inl b ↦ absurd (alone t q b (sym (joins.kept t q b) ∙ sym same ∙ is_new s p a.0 a.1))
            | inr b ↦ (a.0 ∙ sym b.0, a.1 ∙ ap (λ (k : ℕ). (head_of old k).len) (a.0 ∙ sym b.0) ∙ sym b.1)
          ]
        ];
        ends = λ s p len. elim (cases_eq s list) [
          | inl e ↦ (
              let new_len : (head_of new s).len ≡ (head_of new list).len = ap (λ (k : ℕ). (head_of new k).len) e in
              let old_len : (head_of old s).len ≡ (head_of old list).len = ap (λ (k : ℕ). (head_of old k).len) e in
              let longer = joins.longer in
              let here : p ≡ (head_of old s).len = omega (arith, len, new_len, old_len, longer) in
              ap (λ (k : ℕ). (head_of new k).last) e ∙ joins.ends ∙ sym (is_new s p e here))
          | inr n ↦ (
              let len_is : (head_of old s).len ≡ suc p = sym (joins.others s n) ∙ len in
              joins.lasts s n ∙ linked.ends s p len_is ∙ sym (joins.kept s p (omega (arith, len_is))))
        ];
      };
      joined = ap (λ (n : ℕ). tabled n (place_at next' new list)) joins.longer ∙ tabled_push (head_of old list).len (place_at next' new list)
          ∙ ap (λ (xs : List ℕ). xs ++ place_at next' new list (head_of old list).len ∷ []) (tabled_cong (head_of old list).len (place_at next' new list) (place_at next old list) (joins.kept list))
          ∙ ap (λ (i : ℕ). list_of next old list ++ i ∷ []) joins.joined;
      others = λ s n. ap (λ (k : ℕ). tabled k (place_at next' new s)) (joins.others s n) ∙ tabled_cong (head_of old s).len (place_at next' new s) (place_at next old s) (joins.kept s);
      total = joins.total;
      lists = joins.lists;
      counted = joins.counted;
    }

-- the first place of an empty list
pub joins_empty : (next : List ℕ) (old : List Head) (list place : ℕ) (new : Head) → list < length old → (head_of old list).len ≡ 0 → new ≡ record { first = place; last = place; len = 1 } → Joins next old next (set old list new) list place
joins_empty next old list place new within empty new_is =
    let is : head_of (set old list new) list ≡ new = get_or-set_same old list new no_head within in
    let len_is : new.len ≡ 1 = ap (λ (h : Head). h.len) new_is in
    record {
      kept = λ s p low. elim (cases_eq s list) [
        | inl e ↦ (let len : (head_of old s).len ≡ (head_of old list).len = ap (λ (k : ℕ). (head_of old k).len) e in absurd (omega (arith, low, len, empty)))
        | inr n ↦ ap (λ (h : Head). follow next p h.first) (get_or-set_other old list s new no_head n)
      ];
      joined = ap (place_at next (set old list new) list) empty ∙ ap (λ (h : Head). h.first) (is ∙ new_is);
      longer = ap (λ (h : Head). h.len) (is ∙ new_is) ∙ ap suc (sym empty);
      ends = ap (λ (h : Head). h.last) (is ∙ new_is);
      others = λ s n. ap (λ (h : Head). h.len) (get_or-set_other old list s new no_head n);
      lasts = λ s n. ap (λ (h : Head). h.last) (get_or-set_other old list s new no_head n);
      total = refl;
      lists = length-set old list new;
      counted = let e = sum_by-set (λ (h : Head). h.len) old list new no_head within in omega (arith, e, empty, len_is);
    }

-- a further place of a list
pub joins_more : (next : List ℕ) (old : List Head) (list place m : ℕ) (new : Head) → IsLinked next old → list < length old → (head_of old list).len ≡ suc m
    → new ≡ record { first = (head_of old list).first; last = place; len = (head_of old list).len + 1 } → Joins next old (set next (head_of old list).last place) (set old list new) list place
joins_more next old list place m new linked within some new_is =
    let is : head_of (set old list new) list ≡ new = get_or-set_same old list new no_head within in
    let at : ℕ = (head_of old list).last in
    let last : at ≡ place_at next old list m = linked.ends list m some in
    let len_is : new.len ≡ (head_of old list).len + 1 = ap (λ (h : Head). h.len) new_is in
    let before : (s p : ℕ) → p < (head_of old s).len → (q : ℕ) → q < p → place_at next old s q ≢ at =
    λ s p low q less same.
    let both = linked.apart s q list m (omega (arith, low, less)) (omega (arith, some)) (same ∙ last) in
    let here : q ≡ m = both.1 in
    let len : (head_of old s).len ≡ (head_of old list).len = ap (λ (k : ℕ). (head_of old k).len) both.0 in
    omega (arith, here, len, some, low, less) in
    let first : (s : ℕ) → (head_of (set old list new) s).first ≡ (head_of old s).first =
    λ s. elim (cases_eq s list) [
      | inl e ↦ ap (λ (k : ℕ). (head_of (set old list new) k).first) e ∙ ap (λ (h : Head). h.first) (is ∙ new_is) ∙ ap (λ (k : ℕ). (head_of old k).first) (sym e)
      | inr n ↦ ap (λ (h : Head). h.first) (get_or-set_other old list s new no_head n)
    ] in
    let kept : (s p : ℕ) → p < (head_of old s).len → place_at (set next at place) (set old list new) s p ≡ place_at next old s p =
    λ s p low. ap (follow (set next at place) p) (first s) ∙ follow-set next at place p (head_of old s).first (before s p low) in
    let inside : at < length next = subst (λ (i : ℕ). i < length next) (sym last) (linked.within list m (omega (arith, some))) in
    record {
      kept = kept;
      joined = ap (place_at (set next at place) (set old list new) list) some ∙ follow_last (set next at place) m (head_of (set old list new) list).first
          ∙ ap (λ (i : ℕ). get_or (set next at place) i 0) (kept list m (omega (arith, some)) ∙ sym last) ∙ get_or-set_same next at place 0 inside;
      longer = ap (λ (h : Head). h.len) (is ∙ new_is) ∙ omega arith;
      ends = ap (λ (h : Head). h.last) (is ∙ new_is);
      others = λ s n. ap (λ (h : Head). h.len) (get_or-set_other old list s new no_head n);
      lasts = λ s n. ap (λ (h : Head). h.last) (get_or-set_other old list s new no_head n);
      total = length-set next at place;
      lists = length-set old list new;
      counted = let e = sum_by-set (λ (h : Head). h.len) old list new no_head within in omega (arith, e, len_is);
    }

-- the lists that clauses see
pub list_at-seen_places : (next : List ℕ) (heads : List Head) (s : ℕ) → list_at (seen_places next heads) s ≡ list_of next heads s
list_at-seen_places next [] s = refl
list_at-seen_places next (h ∷ hs) zero = refl
list_at-seen_places next (h ∷ hs) (suc s) = list_at-seen_places next hs s

-- a place of a new number is in no list
pub alone_new : (next : List ℕ) (heads : List Head) → IsLinked next heads → (s p : ℕ) → p < (head_of heads s).len → place_at next heads s p ≢ length next
alone_new next heads linked s p low same = let less = linked.within s p low in omega (arith, less, same)

-- a head that was read
head_read : (heads : List Head) (list : ℕ) (head : Head) → list < length heads → head ≡ get_or heads list head → head ≡ head_of heads list
head_read heads list head within read = read ∙ get_or_default heads list head no_head within

pub first_below : (next : List ℕ) (heads : List Head) (list : ℕ) (head : Head) → IsLinked next heads → list < length heads → 0 < (head_of heads list).len → head ≡ get_or heads list head → head.first < length next
first_below next heads list head linked within some read =
    let less = linked.within list 0 some in
    subst (λ (h : Head). h.first < length next) (sym (head_read heads list head within read)) less

pub unlinks_read : (next : List ℕ) (heads : List Head) (list : ℕ) (head : Head) (link : ℕ) → IsLinked next heads → list < length heads → 0 < (head_of heads list).len → head ≡ get_or heads list head → link ≡ get_or next head.first link
    → Unlinks next heads (set heads list (record { first = link; last = head.last; len = head.len - 1 })) list head.first
unlinks_read next heads list head link linked within some read link_read =
    let is : head ≡ head_of heads list = head_read heads list head within read in
    let below = first_below next heads list head linked within some read in
    let new : Head = record { first = link; last = head.last; len = head.len - 1 } in
    let len_is : head.len ≡ (head_of heads list).len = ap (λ (h : Head). h.len) is in
    subst (λ (h : Head). Unlinks next heads (set heads list new) list h.first) (sym is)
    (unlinks next heads list new linked within (record {
      first = link_read ∙ get_or_default_zero next head.first link below ∙ ap (λ (h : Head). get_or next h.first 0) is;
      last = ap (λ (h : Head). h.last) is;
      len = omega (arith, len_is, some);
    }))

pub appends_first : (next : List ℕ) (heads : List Head) (list place : ℕ) (tail : Head) → IsLinked next heads → list < length heads → place < length next
    → ((s p : ℕ) → p < (head_of heads s).len → place_at next heads s p ≢ place) → tail ≡ get_or heads list tail → tail.len ≡ 0
    → LinksLast next heads next (set heads list (record { first = place; last = place; len = 1 })) list place
appends_first next heads list place tail linked within below alone read empty =
    let is : tail ≡ head_of heads list = head_read heads list tail within read in
    let new : Head = record { first = place; last = place; len = 1 } in
    appends next heads next (set heads list new) list place linked below alone
    (joins_empty next heads list place new within (ap (λ (h : Head). h.len) (sym is) ∙ empty) refl)

pub last_below : (next : List ℕ) (heads : List Head) (list : ℕ) (tail : Head) → IsLinked next heads → list < length heads → tail ≡ get_or heads list tail → tail.len ≢ 0 → tail.last < length next
last_below next heads list tail linked within read some =
    let is : tail ≡ head_of heads list = head_read heads list tail within read in
    let len_is : tail.len ≡ (head_of heads list).len = ap (λ (h : Head). h.len) is in
    let m : ℕ = tail.len - 1 in
    let long : (head_of heads list).len ≡ suc m = omega (arith, len_is, some) in
    let last_is : tail.last ≡ place_at next heads list m = ap (λ (h : Head). h.last) is ∙ linked.ends list m long in
    subst (λ (i : ℕ). i < length next) (sym last_is) (linked.within list m (omega (arith, long)))

pub appends_more : (next : List ℕ) (heads : List Head) (list place : ℕ) (tail : Head) → IsLinked next heads → list < length heads → place < length next
    → ((s p : ℕ) → p < (head_of heads s).len → place_at next heads s p ≢ place) → tail ≡ get_or heads list tail → tail.len ≢ 0
    → LinksLast next heads (set next tail.last place) (set heads list (record { first = tail.first; last = place; len = tail.len + 1 })) list place
appends_more next heads list place tail linked within below alone read some =
    let is : tail ≡ head_of heads list = head_read heads list tail within read in
    let len_is : tail.len ≡ (head_of heads list).len = ap (λ (h : Head). h.len) is in
    let m : ℕ = tail.len - 1 in
    let long : (head_of heads list).len ≡ suc m = omega (arith, len_is, some) in
    let new : Head = record { first = tail.first; last = place; len = tail.len + 1 } in
    let joins : Joins next heads (set next (head_of heads list).last place) (set heads list new) list place =
    joins_more next heads list place m new linked within long (ap (λ (h : Head). record { first = h.first; last = place; len = h.len + 1 }) is) in
    subst (λ (h : Head). LinksLast next heads (set next h.last place) (set heads list new) list place) (sym is)
    (appends next heads (set next (head_of heads list).last place) (set heads list new) list place linked below alone joins)

-- a new last link changes no list, where it leads as a missing one does
follow-push : (next : List ℕ) (n place : ℕ) → follow (next ++ 0 ∷ []) n place ≡ follow next n place
follow-push next zero place = refl
follow-push next (suc n) place = ap (follow (next ++ 0 ∷ []) n) (get_or-zero next place) ∙ follow-push next n (get_or next place 0)
  where
    get_or-zero : (xs : List ℕ) (i : ℕ) → get_or (xs ++ 0 ∷ []) i 0 ≡ get_or xs i 0
    get_or-zero [] zero = refl
    get_or-zero [] (suc i) = refl
    get_or-zero (x ∷ xs) zero = refl
    get_or-zero (x ∷ xs) (suc i) = get_or-zero xs i

list_of-push : (next : List ℕ) (heads : List Head) (s : ℕ) → list_of (next ++ 0 ∷ []) heads s ≡ list_of next heads s
list_of-push next heads s = tabled_cong (head_of heads s).len (place_at (next ++ 0 ∷ []) heads s) (place_at next heads s) (λ p low. follow-push next p (head_of heads s).first)

pub linked-push : (next : List ℕ) (heads : List Head) → IsLinked next heads → IsLinked (next ++ 0 ∷ []) heads
linked-push next heads linked =
    let long : length (next ++ 0 ∷ []) ≡ length next + 1 = length-append next (0 ∷ []) in
    let same : (s p : ℕ) → place_at (next ++ 0 ∷ []) heads s p ≡ place_at next heads s p = λ s p. follow-push next p (head_of heads s).first in
    record {
      within = λ s p low. let less = linked.within s p low in let e = same s p in omega (arith, less, e, long);
      apart = λ s p t q low lower e. linked.apart s p t q low lower (sym (same s p) ∙ e ∙ same t q);
      ends = λ s p len. linked.ends s p len ∙ sym (same s p);
    }

pub alone-push : (next : List ℕ) (heads : List Head) (place : ℕ) → IsLinked next heads → place ≡ length next → (s p : ℕ) → p < (head_of heads s).len → place_at (next ++ 0 ∷ []) heads s p ≢ place
alone-push next heads place linked is s p low same =
    let less = linked.within s p low in
    let e : place_at (next ++ 0 ∷ []) heads s p ≡ place_at next heads s p = follow-push next p (head_of heads s).first in
    omega (arith, less, e, same, is)

-- the list that clauses see is the one that the links make
seen : (next : List ℕ) (heads : List Head) (c : Places) (s : ℕ) → seen_places next heads ≡ c → list_at c s ≡ list_of next heads s
seen next heads c s view = ap (λ (d : Places). list_at d s) (sym view) ∙ list_at-seen_places next heads s

pub grows : (next : List ℕ) (heads : List Head) (c : Places) (next' : List ℕ) (new : List Head) (list place : ℕ) → seen_places next heads ≡ c → place ≡ length next
    → LinksLast (next ++ 0 ∷ []) heads next' new list place → MakesRoom c (seen_places next' new) list
grows next heads c next' new list place view is put =
    let total : length next ≡ c.total = ap (λ (d : Places). d.total) view in
    let long : length (next ++ 0 ∷ []) ≡ length next + 1 = length-append next (0 ∷ []) in
    record {
      joined = list_at-seen_places next' new list ∙ put.joined ∙ ap (λ (xs : List ℕ). xs ++ place ∷ []) (list_of-push next heads list ∙ sym (seen next heads c list view))
          ∙ ap (λ (i : ℕ). list_at c list ++ i ∷ []) (is ∙ total);
      others = λ s n. list_at-seen_places next' new s ∙ put.others s n ∙ list_of-push next heads s ∙ sym (seen next heads c s view);
      total = let e = put.total in omega (arith, e, long, total);
      lists = length-map new (places_behind next') ∙ put.lists ∙ sym (length-map heads (places_behind next)) ∙ ap (λ (d : Places). length d.lists) view;
    }

pub moves : (next : List ℕ) (heads mid : List Head) (c : Places) (next' : List ℕ) (new : List Head) (from to place : ℕ) → seen_places next heads ≡ c → from ≢ to
    → Unlinks next heads mid from place → LinksLast next mid next' new to place → MovesFirst c (seen_places next' new) from to place
moves next heads mid c next' new from to place view other out put =
    let old_at : (s : ℕ) → list_at c s ≡ list_of next heads s = λ s. seen next heads c s view in
    let new_at : (s : ℕ) → list_at (seen_places next' new) s ≡ list_of next' new s = list_at-seen_places next' new in
    let lacks : (s : ℕ) → IsOutside place (list_of next mid s) = λ s. IsOutside-tabled (head_of mid s).len (place_at next mid s) place (out.alone s) in
    let back : (to ≢ from) = λ e. other (sym e) in
    let total : length next ≡ c.total = ap (λ (d : Places). d.total) view in
    record {
      first = old_at from ∙ out.first ∙ ap (λ (xs : List ℕ). place ∷ xs) (sym (put.others from other) ∙ sym (new_at from));
      joined = new_at to ∙ put.joined ∙ ap (λ (xs : List ℕ). xs ++ place ∷ []) (out.others to back ∙ sym (old_at to));
      others = λ s n m. new_at s ∙ put.others s m ∙ out.others s n ∙ sym (old_at s);
      alone = λ s m. subst (IsOutside place) (sym (put.others s m) ∙ sym (new_at s)) (lacks s);
      fresh = subst (IsOutside place) (out.others to back ∙ sym (old_at to)) (lacks to);
      below = let less = out.below in omega (arith, less, total);
      total = put.total ∙ total;
      lists = length-map new (places_behind next') ∙ put.lists ∙ out.lists ∙ sym (length-map heads (places_behind next)) ∙ ap (λ (d : Places). length d.lists) view;
    }

pub first_seen : (next : List ℕ) (heads : List Head) (c : Places) (list : ℕ) (head : Head) → seen_places next heads ≡ c → list < length heads → head ≡ get_or heads list head → head.len ≢ 0 → Some head.first ≡ slice_get (list_at c list) 0
first_seen next heads c list head view within read some =
    let is : head ≡ head_of heads list = head_read heads list head within read in
    let m : ℕ = head.len - 1 in
    let long : head.len ≡ suc m = omega (arith, some) in
    let front : slice_get (places_behind next head) 0 ≡ Some head.first = ap (λ (n : ℕ). slice_get (tabled n (λ p. follow next p head.first)) 0) long in
    sym front ∙ ap (λ (h : Head). slice_get (places_behind next h) 0) is ∙ ap (λ (xs : List ℕ). slice_get xs 0) (sym (seen next heads c list view))

pub none_seen : (next : List ℕ) (n s : ℕ) → list_at (seen_places next (replicate n no_head)) s ≡ []
none_seen next zero s = refl
none_seen next (suc n) zero = refl
none_seen next (suc n) (suc s) = none_seen next n s

pub lists_seen : (next : List ℕ) (heads : List Head) (c : Places) → seen_places next heads ≡ c → length c.lists ≡ length heads
lists_seen next heads c view = ap (λ (d : Places). length d.lists) (sym view) ∙ length-map heads (places_behind next)

pub first_below_total : (next : List ℕ) (heads : List Head) (c : Places) (list : ℕ) (head : Head) → seen_places next heads ≡ c → IsLinked next heads → list < length heads → head ≡ get_or heads list head → head.len ≢ 0 → head.first < c.total
first_below_total next heads c list head view linked within read some =
    let is : head ≡ head_of heads list = head_read heads list head within read in
    let len_is : head.len ≡ (head_of heads list).len = ap (λ (h : Head). h.len) is in
    let below = first_below next heads list head linked within (omega (arith, len_is, some)) read in
    let total : length next ≡ c.total = ap (λ (d : Places). d.total) view in
    omega (arith, below, total)

-- where one list has all places, the others have none
none_other : (heads : List Head) (list : ℕ) → list < length heads → (head_of heads list).len ≡ lengths heads → (s : ℕ) → s < length heads → s ≢ list → (head_of heads s).len ≡ 0
none_other heads list within all s below other =
    let rest : List Head = set heads list no_head in
    let sum : lengths rest + (head_of heads list).len ≡ lengths heads + 0 = sum_by-set (λ (h : Head). h.len) heads list no_head no_head within in
    let least : (head_of rest s).len ≤ lengths rest = get_or-le-sum_by (λ (h : Head). h.len) rest s no_head (omega (arith, below, length-set heads list no_head)) in
    let same : (head_of rest s).len ≡ (head_of heads s).len = ap (λ (h : Head). h.len) (get_or-set_other heads list s no_head no_head other) in
    omega (arith, sum, least, same, all)

pub others_seen : (next : List ℕ) (heads : List Head) (c : Places) (list : ℕ) (head : Head) → seen_places next heads ≡ c → AreLinks next heads → list < length heads → head ≡ get_or heads list head → head.len ≡ length next → (s : ℕ) → s ≢ list → list_at c s ≡ []
others_seen next heads c list head view right within read all s other =
    let len_is : head.len ≡ (head_of heads list).len = ap (λ (h : Head). h.len) (head_read heads list head within read) in
    let counted = right.counted in
    let none : (head_of heads s).len ≡ 0 = elim (cases_lt s (length heads)) [
      | inl below ↦ none_other heads list within (omega (arith, len_is, all, counted)) s below other
      | inr past ↦ ap (λ (h : Head). h.len) (get_or_past heads s no_head past)
    ] in
    seen next heads c s view ∙ ap (λ (n : ℕ). tabled n (place_at next heads s)) none
