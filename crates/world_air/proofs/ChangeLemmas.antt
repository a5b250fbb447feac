-- What changes on a radio, apart from packets.
use Rattle.std.proofs.Common.{◌≡◌, ℕ, ◌+◌, ◌<◌, Bool, true, false, not, cond, List, [], ◌∷◌, ◌++◌, refl, sym, ◌∙◌, ap, arith, append-nil, inl, inr, eq-eqb}
use Rattle.std.specs.Prelude.{◌==◌, ◌&&◌, if◌then◌else◌, Some, None}
use Rattle.std.specs.List.{filter, cons_option}
use Rattle.std.proofs.lemmas.Bool.{ne_eqb}
use Rattle.std.proofs.lemmas.Bool.Decides.{eqb_tells}
use Rattle.mate_journal.specs.declared.air.Aired.{Aired}
use Rattle.event_queue.specs.declared.queue.Timed.{Timed}
use Rattle.event_queue.specs.Agenda.{due_at, scheduled, Adds}
use Rattle.event_queue.specs.Group.{is_in}
use Rattle.radio_sim.specs.declared.shared_event.SharedEvent.{SharedEvent}
use Rattle.radio_sim.specs.declared.shared_event.SharedEvent.TheVariants as radio
use Rattle.radio_sim.specs.Events.{group_of}
use Rattle.radio_sim.specs.Radio.{Ether}
use Rattle.world_air.specs.declared.changes.Ends.{Ends}
use Rattle.world_air.specs.Changes.{AddsToAir, left_items, stays, IsNear, AreNear, CancelsAll}
use Rattle.world_air.proofs.AirLemmas.{grows-nothing, grows-both, adds-due, scheduled-same}

-- ---- what is added

pub adds-nothing : (e : Ether) → AddsToAir e e [] []
adds-nothing e = record { grows = grows-nothing e; sent = refl; wires = refl; delay = refl }

pub adds-both : (old mid new : Ether) (fs bs : List Aired) (xs ys : List (Timed SharedEvent)) → AddsToAir old mid fs xs → AddsToAir mid new bs ys → AddsToAir old new (fs ++ bs) (xs ++ ys)
adds-both old mid new fs bs xs ys a b = record { grows = grows-both old mid new fs bs xs ys a.grows b.grows; sent = b.sent ∙ a.sent; wires = b.wires ∙ a.wires; delay = b.delay ∙ a.delay }

pub adds-record : (old new : Ether) (r : Aired) → new ≡ record old { air = old.air ++ r ∷ [] } → AddsToAir old new (r ∷ []) []
adds-record old new r is = record {
  grows = record {
    air = ap (λ (e : Ether). e.air) is;
    gone = ap (λ (e : Ether). e.gone) is;
    due = λ t le. ap (λ (e : Ether). due_at t e.agenda.items) is ∙ sym (append-nil (due_at t old.agenda.items));
    until = ap (λ (e : Ether). e.agenda.until) is;
    now = ap (λ (e : Ether). e.agenda.now) is;
  };
  sent = ap (λ (e : Ether). e.sent) is;
  wires = ap (λ (e : Ether). e.wires) is;
  delay = ap (λ (e : Ether). e.delay) is;
}

pub adds-event : (old new : Ether) (time : ℕ) (x : SharedEvent) → new ≡ record old { agenda = scheduled old.agenda time x } → Adds old.agenda time x new.agenda → AddsToAir old new [] (record { time = time; item = x } ∷ [])
adds-event old new time x is adds =
    let same = scheduled-same old.agenda time x in record {
      grows = record {
        air = ap (λ (e : Ether). e.air) is ∙ sym (append-nil old.air);
        gone = ap (λ (e : Ether). e.gone) is;
        due = λ t le. adds-due old.agenda new.agenda time (x ∷ []) (record { last = adds.last; others = adds.others }) t le;
        until = ap (λ (e : Ether). e.agenda.until) is ∙ same.0;
        now = ap (λ (e : Ether). e.agenda.now) is ∙ same.1;
      };
      sent = ap (λ (e : Ether). e.sent) is;
      wires = ap (λ (e : Ether). e.wires) is;
      delay = ap (λ (e : Ether). e.delay) is;
    }

-- ---- what ends

-- not of the group, where it is cancelled
outlasts : Bool → ℕ → SharedEvent → Bool
outlasts b g e = not (b && is_in group_of g e)

filter-all : (p : SharedEvent → Bool) (es : List SharedEvent) → ((e : SharedEvent) → p e ≡ true) → filter p es ≡ es
filter-all p [] all = refl
filter-all p (e ∷ es) all = ap (λ (b : Bool). cond b (e ∷ filter p es) (filter p es)) (all e) ∙ ap (λ (fs : List SharedEvent). e ∷ fs) (filter-all p es all)

filter-twice : (p q : SharedEvent → Bool) (es : List SharedEvent) → filter p (filter q es) ≡ filter (λ e. q e && p e) es
filter-twice p q [] = refl
filter-twice p q (e ∷ es) = by (q e) (filter-twice p q es) where
  by : (b : Bool) → filter p (filter q es) ≡ filter (λ e. q e && p e) es → filter p (cond b (e ∷ filter q es) (filter q es)) ≡ cond (b && p e) (e ∷ filter (λ e. q e && p e) es) (filter (λ e. q e && p e) es)
  by true rest = ap (λ (fs : List SharedEvent). cond (p e) (e ∷ fs) fs) rest
  by false rest = rest

filter-near : (p q : SharedEvent → Bool) (es : List SharedEvent) → AreNear es → ((e : SharedEvent) → IsNear e → p e ≡ q e) → filter p es ≡ filter q es
filter-near p q [] near same = refl
filter-near p q (e ∷ es) near same =
    ap (λ (b : Bool). cond b (e ∷ filter p es) (filter p es)) (same e near.0) ∙ ap (λ (fs : List SharedEvent). cond (q e) (e ∷ fs) fs) (filter-near p q es near.1 same)

-- what comes at a time, of those that pass a test
due-filter : (q : SharedEvent → Bool) (t : ℕ) (xs : List (Timed SharedEvent)) → due_at t (filter (λ (y : Timed SharedEvent). q y.item) xs) ≡ filter q (due_at t xs)
due-filter q t [] = refl
due-filter q t (x ∷ xs) = by (q x.item) (x.time == t) refl refl (due-filter q t xs) where
  first : (b : Bool) → q x.item ≡ b → due_at t (filter (λ (y : Timed SharedEvent). q y.item) (x ∷ xs)) ≡ due_at t (cond b (x ∷ filter (λ (y : Timed SharedEvent). q y.item) xs) (filter (λ (y : Timed SharedEvent). q y.item) xs))
  first b e = ap (λ (z : Bool). due_at t (cond z (x ∷ filter (λ (y : Timed SharedEvent). q y.item) xs) (filter (λ (y : Timed SharedEvent). q y.item) xs))) e

  comes : (c : Bool) (ys : List (Timed SharedEvent)) → (x.time == t) ≡ c → due_at t (x ∷ ys) ≡ cons_option (if c then Some x.item else None) (due_at t ys)
  comes c ys f = ap (λ (z : Bool). cons_option (if z then Some x.item else None) (due_at t ys)) f

  passes : (b : Bool) (es : List SharedEvent) → q x.item ≡ b → filter q (x.item ∷ es) ≡ cond b (x.item ∷ filter q es) (filter q es)
  passes b es e = ap (λ (z : Bool). cond z (x.item ∷ filter q es) (filter q es)) e

  by : (b c : Bool) → q x.item ≡ b → (x.time == t) ≡ c → due_at t (filter (λ (y : Timed SharedEvent). q y.item) xs) ≡ filter q (due_at t xs)
      → due_at t (filter (λ (y : Timed SharedEvent). q y.item) (x ∷ xs)) ≡ filter q (due_at t (x ∷ xs))
  by true true e f rest =
      first true e ∙ comes true (filter (λ (y : Timed SharedEvent). q y.item) xs) f ∙ ap (λ (es : List SharedEvent). x.item ∷ es) rest ∙ sym (ap (filter q) (comes true xs f) ∙ passes true (due_at t xs) e)
  by true false e f rest = first true e ∙ comes false (filter (λ (y : Timed SharedEvent). q y.item) xs) f ∙ rest ∙ sym (ap (filter q) (comes false xs f))
  by false true e f rest = first false e ∙ rest ∙ sym (ap (filter q) (comes true xs f) ∙ passes false (due_at t xs) e)
  by false false e f rest = first false e ∙ rest ∙ sym (ap (filter q) (comes false xs f))

left-due : (b : Bool) (g t : ℕ) (xs : List (Timed SharedEvent)) → due_at t (left_items b g xs) ≡ filter (outlasts b g) (due_at t xs)
unfolding outlasts
left-due true g t xs = due-filter (λ e. not (is_in group_of g e)) t xs
left-due false g t xs = sym (filter-all (λ e. not (false && is_in group_of g e)) (due_at t xs) (λ e. refl))

and-true : (y : Bool) → ((y && true) && true) ≡ y
and-true true = refl
and-true false = refl

true-and : (y : Bool) → ((true && y) && true) ≡ y
true-and true = refl
true-and false = refl

not-none : (b : Bool) → not (b && false) ≡ true
not-none true = refl
not-none false = refl

-- of the three tests the others pass
none-of : (a b c : Bool) → ((not (a && false) && not (b && false)) && not (c && false)) ≡ true
none-of a b c = ap (λ (z : Bool). (z && not (b && false)) && not (c && false)) (not-none a) ∙ ap (λ (z : Bool). (true && z) && not (c && false)) (not-none b) ∙ ap (λ (z : Bool). (true && true) && z) (not-none c)

first-of : (y b c u v : Bool) → u ≡ false → v ≡ false → ((y && not (b && u)) && not (c && v)) ≡ y
first-of y b c u v is_u is_v =
    ap (λ (z : Bool). (y && not (b && z)) && not (c && v)) is_u ∙ ap (λ (z : Bool). (y && not (b && false)) && not (c && z)) is_v
    ∙ ap (λ (z : Bool). (y && z) && not (c && false)) (not-none b) ∙ ap (λ (z : Bool). (y && true) && z) (not-none c) ∙ and-true y

second-of : (a y c u v : Bool) → u ≡ false → v ≡ false → ((not (a && u) && y) && not (c && v)) ≡ y
second-of a y c u v is_u is_v =
    ap (λ (z : Bool). (not (a && z) && y) && not (c && v)) is_u ∙ ap (λ (z : Bool). (not (a && false) && y) && not (c && z)) is_v
    ∙ ap (λ (z : Bool). (z && y) && not (c && false)) (not-none a) ∙ ap (λ (z : Bool). (true && y) && z) (not-none c) ∙ true-and y

third-of : (a b y u v : Bool) → u ≡ false → v ≡ false → ((not (a && u) && not (b && v)) && y) ≡ y
third-of a b y u v is_u is_v =
    ap (λ (z : Bool). (not (a && z) && not (b && v)) && y) is_u ∙ ap (λ (z : Bool). (not (a && false) && not (b && z)) && y) is_v
    ∙ ap (λ (z : Bool). (z && not (b && false)) && y) (not-none a) ∙ ap (λ (z : Bool). (true && z) && y) (not-none b)

shifted : (n k node : ℕ) → (n + k == n + node) ≡ (k == node)
shifted n k node = elim (eqb_tells k node) [
  | inl e ↦ eq-eqb (n + k) (n + node) (ap (λ (m : ℕ). n + m) e.1) ∙ sym e.0
  | inr e ↦ ne_eqb (n + k) (n + node) (λ same. e.1 (omega (arith, same))) ∙ sym e.0
]

tests : (node : ℕ) (ends : Ends) (e : SharedEvent) → node < 256 → IsNear e → ((outlasts ends.interval node e && outlasts ends.pump (256 + node) e) && outlasts ends.answers (512 + node) e) ≡ stays node ends e
unfolding outlasts
tests node ends (radio.Fire k) low near = first-of (not (ends.interval && k == node)) ends.pump ends.answers (k == 256 + node) (k == 512 + node) (ne_eqb k (256 + node) (λ same. omega (arith, same, near))) (ne_eqb k (512 + node) (λ same. omega (arith, same, near)))
tests node ends (radio.Expire k) low near = first-of (not (ends.interval && k == node)) ends.pump ends.answers (k == 256 + node) (k == 512 + node) (ne_eqb k (256 + node) (λ same. omega (arith, same, near))) (ne_eqb k (512 + node) (λ same. omega (arith, same, near)))
tests node ends (radio.Pump k) low near =
    second-of ends.interval (not (ends.pump && 256 + k == 256 + node)) ends.answers (256 + k == node) (256 + k == 512 + node) (ne_eqb (256 + k) node (λ same. omega (arith, same, low))) (ne_eqb (256 + k) (512 + node) (λ same. omega (arith, same, near)))
    ∙ ap (λ (b : Bool). not (ends.pump && b)) (shifted 256 k node)
tests node ends (radio.Due k c inv value) low near =
    third-of ends.interval ends.pump (not (ends.answers && 512 + k == 512 + node)) (512 + k == node) (512 + k == 256 + node) (ne_eqb (512 + k) node (λ same. omega (arith, same, low))) (ne_eqb (512 + k) (256 + node) (λ same. omega (arith, same, low)))
    ∙ ap (λ (b : Bool). not (ends.answers && b)) (shifted 512 k node)
tests node ends _ low near = none-of ends.interval ends.pump ends.answers

left_in : Bool → ℕ → Ether → Ether
left_in b g e = record e { agenda = record e.agenda { items = left_items b g e.agenda.items } }

pub cancels-three : (node : ℕ) (ends : Ends) (old one two new : Ether) → node < 256
    → one ≡ record old { agenda = record old.agenda { items = left_items ends.interval node old.agenda.items } }
    → two ≡ record one { agenda = record one.agenda { items = left_items ends.pump (256 + node) one.agenda.items } }
    → new ≡ record two { agenda = record two.agenda { items = left_items ends.answers (512 + node) two.agenda.items } } → CancelsAll node ends old new
unfolding left_in
cancels-three node ends old one two new low a b c =
    let all : new ≡ left_in ends.answers (512 + node) (left_in ends.pump (256 + node) (left_in ends.interval node old)) =
    c ∙ ap (left_in ends.answers (512 + node)) (b ∙ ap (left_in ends.pump (256 + node)) a) in
    record {
      due = λ t near.
          let xs : List (Timed SharedEvent) = old.agenda.items in
          ap (λ (e : Ether). due_at t e.agenda.items) all
          ∙ left-due ends.answers (512 + node) t (left_items ends.pump (256 + node) (left_items ends.interval node xs))
          ∙ ap (filter (outlasts ends.answers (512 + node))) (left-due ends.pump (256 + node) t (left_items ends.interval node xs) ∙ ap (filter (outlasts ends.pump (256 + node))) (left-due ends.interval node t xs))
          ∙ ap (filter (outlasts ends.answers (512 + node))) (filter-twice (outlasts ends.pump (256 + node)) (outlasts ends.interval node) (due_at t xs))
          ∙ filter-twice (outlasts ends.answers (512 + node)) (λ e. outlasts ends.interval node e && outlasts ends.pump (256 + node) e) (due_at t xs)
          ∙ filter-near (λ e. (outlasts ends.interval node e && outlasts ends.pump (256 + node) e) && outlasts ends.answers (512 + node) e) (stays node ends) (due_at t xs) near (λ e at. tests node ends e low at);
      air = ap (λ (e : Ether). e.air) all;
      gone = ap (λ (e : Ether). e.gone) all;
      until = ap (λ (e : Ether). e.agenda.until) all;
      now = ap (λ (e : Ether). e.agenda.now) all;
      sent = ap (λ (e : Ether). e.sent) all;
      wires = ap (λ (e : Ether). e.wires) all;
      delay = ap (λ (e : Ether). e.delay) all;
    }
