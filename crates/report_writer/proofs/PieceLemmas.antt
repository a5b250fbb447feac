-- Lemmas on `specs/Pieces.antt`: the pieces make up the text.
use Rattle.std.proofs.Common.{◌≡◌, ◌≢◌, ℕ, zero, suc, ◌+◌, ◌<◌, ◌≤◌, max, List, ◌++◌, ◌∷◌, [], length, map, drop, get_or, set, refl, ap, sym, subst, ◌∙◌, arith, inl, inr, append-nil, append_assoc, zero-add}
use Rattle.std.specs.Prelude.{flat_map, fold, ◌==◌, All, slice_get, codes}
use Rattle.std.proofs.lemmas.Bool.{eq-eqb, cond-true}
use Rattle.std.proofs.lemmas.Grind.{flat_map-append}
use Rattle.std.proofs.lemmas.List.Elements.{All-nil, All-head, All-tail, All-same, All-weaker, All-append, All-map, All-set, All-filter, filter-append}
use Rattle.std.proofs.Math.Seq.{drop-append_seam}
use Rattle.vm_shape.specs.declared.description.Description.{Description}
use Rattle.mate_journal.specs.Log.{Log, GoesOn}
use Rattle.mate_journal.specs.declared.air.Aired.{Aired}
use Rattle.mate_journal.specs.declared.entry.Entry.{Entry}
use Rattle.mate_journal.specs.declared.entry.Entry.TheVariants as entry
use Rattle.mate_journal.specs.declared.entry.Stamped.{Stamped}
use Rattle.mate_journal.specs.declared.report.Report.{Report}
use Rattle.report_writer.specs.Words.{entry_words, stamp_words, seen_words, image_text, image_word, word, number, handler_name}
use Rattle.mate_journal.specs.Tidy.{below, entry_event}
use Rattle.report_writer.specs.Text.{air_line, entry_line, entry_lines, event_lines, event_piece, events_end, lines}
use Rattle.report_writer.specs.Progress.{air_event, at_event}
use Rattle.report_writer.specs.Pieces.{IsNamed, IsBefore, AddsPiece}
use Rattle.report_writer.proofs.EventLemmas.{at_event-none, flat_map-skip, flat_map-below_next}
use Rattle.report_writer.proofs.TextLemmas.{below_end}
use Rattle.report_writer.proofs.MergeLemmas.{below_end-air, entry_lines-none}

-- ---- the lines of a log that goes on

get-front : {A : Type 0} (xs ys : List A) (i : ℕ) → i < length xs → slice_get (xs ++ ys) i ≡ slice_get xs i
get-front [] ys i p = absurd (omega (arith, p))
get-front (x ∷ xs) ys zero p = refl
get-front (x ∷ xs) ys (suc i) p = get-front xs ys i (omega (arith, p))

words-same : (d : Description) (l l' : Log) (x : Entry) → IsNamed l x → GoesOn l l' → entry_words d l' x ≡ entry_words d l x
words-same d l l' (entry.Install h version image) named on =
    ap (λ o. codes " install" ++ word (handler_name d h) ++ number version ++ word (image_word (image_text o)))
    (ap (λ xs. slice_get xs image) on.images_are ∙ get-front l.images on.images image named)
words-same d l l' (entry.Seen store) named on =
    ap (λ o. codes " seen" ++ seen_words d o) (ap (λ xs. slice_get xs store) on.stores_are ∙ get-front l.stores on.stores store named)
words-same d l l' _ named on = refl

pub lines-same : (d : Description) (l l' : Log) (node : ℕ) (es : List Stamped) → GoesOn l l' → All (λ (e : Stamped). IsNamed l e.entry) es
    → flat_map (entry_line d l' node) es ≡ flat_map (entry_line d l node) es
lines-same d l l' node [] on named = refl
lines-same d l l' node (e ∷ es) on named =
    ap (λ ys. ys ++ flat_map (entry_line d l' node) es)
    (ap (λ w. stamp_words e.stamp node ++ w ++ codes "\n") (words-same d l l' e.entry (All-head (λ (x : Stamped). IsNamed l x.entry) e es named) on))
    ∙ ap (λ ys. entry_line d l node e ++ ys) (lines-same d l l' node es on (All-tail (λ (x : Stamped). IsNamed l x.entry) e es named))

-- ---- items that are all of one event

at_event-own : {A : Type 0} (ev : A → ℕ) (event : ℕ) (xs : List A) → All (λ (x : A). ev x ≡ event) xs → at_event ev event xs ≡ xs
at_event-own ev event [] h = refl
at_event-own ev event (x ∷ xs) h =
    cond-true (ev x == event) (x ∷ at_event ev event xs) (at_event ev event xs) (eq-eqb (ev x) event (All-head (λ (y : _). ev y ≡ event) x xs h))
    ∙ ap (λ ys. x ∷ ys) (at_event-own ev event xs (All-tail (λ (y : _). ev y ≡ event) x xs h))

at_event-other : {A : Type 0} (ev : A → ℕ) (event k : ℕ) (xs : List A) → k ≢ event → All (λ (x : A). ev x ≡ event) xs → at_event ev k xs ≡ []
at_event-other ev event k xs ne h =
    at_event-none ev k xs (All-weaker (λ (x : _). ev x ≡ event) (λ (x : _). ev x ≢ k) (λ (x : _) (p : ev x ≡ event) (q : ev x ≡ k). ne (sym q ∙ p)) xs h)

-- ---- a log that goes on, in one event

-- nothing changes in the other events
log-other : (d : Description) (l l' : Log) (node event k : ℕ) (on : GoesOn l l') → k ≢ event → All (λ (e : Stamped). IsNamed l e.entry) l.entries
    → All (λ (e : Stamped). entry_event e ≡ event) on.entries
    → flat_map (entry_line d l' node) (at_event entry_event k l'.entries) ≡ flat_map (entry_line d l node) (at_event entry_event k l.entries)
log-other d l l' node event k on ne named own =
    ap (λ es. flat_map (entry_line d l' node) (at_event entry_event k es)) on.entries_are
    ∙ ap (flat_map (entry_line d l' node))
    (filter-append (λ (e : Stamped). entry_event e == k) l.entries on.entries
    ∙ ap (λ es. at_event entry_event k l.entries ++ es) (at_event-other entry_event event k on.entries ne own)
    ∙ append-nil (at_event entry_event k l.entries))
    ∙ lines-same d l l' node (at_event entry_event k l.entries) on
    (All-filter (λ (e : Stamped). entry_event e == k) (λ (e : Stamped). IsNamed l e.entry) l.entries named)

-- the new lines stand behind those of the event
log-here : (d : Description) (l l' : Log) (node event : ℕ) (on : GoesOn l l') → All (λ (e : Stamped). IsNamed l e.entry) l.entries
    → All (λ (e : Stamped). entry_event e ≡ event) on.entries
    → flat_map (entry_line d l' node) (at_event entry_event event l'.entries)
    ≡ flat_map (entry_line d l node) (at_event entry_event event l.entries) ++ flat_map (entry_line d l' node) on.entries
log-here d l l' node event on named own =
    ap (λ es. flat_map (entry_line d l' node) (at_event entry_event event es)) on.entries_are
    ∙ ap (flat_map (entry_line d l' node))
    (filter-append (λ (e : Stamped). entry_event e == event) l.entries on.entries
    ∙ ap (λ es. at_event entry_event event l.entries ++ es) (at_event-own entry_event event on.entries own))
    ∙ flat_map-append (entry_line d l' node) (at_event entry_event event l.entries) on.entries
    ∙ ap (λ ys. ys ++ flat_map (entry_line d l' node) on.entries)
    (lines-same d l l' node (at_event entry_event event l.entries) on
    (All-filter (λ (e : Stamped). entry_event e == event) (λ (e : Stamped). IsNamed l e.entry) l.entries named))

-- ---- the logs of all nodes, of which one goes on

abbrev log_lines : Description → ℕ → Log → ℕ → List ℕ
log_lines d k l node = flat_map (entry_line d l node) (at_event entry_event k l.entries)

entry_lines-set_other : (d : Description) (k off : ℕ) (ls : List Log) (n : ℕ) (l l' : Log) → n < length ls → get_or ls n l ≡ l
    → log_lines d k l' (off + n) ≡ log_lines d k l (off + n) → entry_lines d k off (set ls n l') ≡ entry_lines d k off ls
entry_lines-set_other d k off [] n l l' p is eq = absurd (omega (arith, p))
entry_lines-set_other d k off (x ∷ ls) zero l l' p is eq =
    let z : off + 0 ≡ off = omega arith in
    ap (λ ys. ys ++ entry_lines d k (suc off) ls)
    (sym (ap (log_lines d k l') z) ∙ eq ∙ ap (log_lines d k l) z ∙ ap (λ y. log_lines d k y off) (sym is))
entry_lines-set_other d k off (x ∷ ls) (suc n) l l' p is eq =
    let z : off + suc n ≡ suc off + n = omega arith in
    ap (λ ys. log_lines d k x off ++ ys)
    (entry_lines-set_other d k (suc off) ls n l l' (omega (arith, p)) is (sym (ap (log_lines d k l') z) ∙ eq ∙ ap (log_lines d k l) z))

entry_lines-set_here : (d : Description) (k off : ℕ) (ls : List Log) (n : ℕ) (l l' : Log) (more : List ℕ) → n < length ls → get_or ls n l ≡ l
    → log_lines d k l' (off + n) ≡ log_lines d k l (off + n) ++ more
    → ((j : ℕ) (y : Log) → n < j → j < length ls → at_event entry_event k (get_or ls j y).entries ≡ [])
    → entry_lines d k off (set ls n l') ≡ entry_lines d k off ls ++ more
entry_lines-set_here d k off [] n l l' more p is eq later = absurd (omega (arith, p))
entry_lines-set_here d k off (x ∷ ls) zero l l' more p is eq later =
    let z : off + 0 ≡ off = omega arith in
    let here = sym (ap (log_lines d k l') z) ∙ eq ∙ ap (λ j. log_lines d k l j ++ more) z ∙ ap (λ y. log_lines d k y off ++ more) (sym is) in
    let none = entry_lines-none d k (suc off) ls (λ j y q. later (suc j) y (omega arith) (omega (arith, q))) in
    ap (λ ys. log_lines d k l' off ++ ys) none ∙ append-nil (log_lines d k l' off) ∙ here
    ∙ sym (ap (λ ys. (log_lines d k x off ++ ys) ++ more) none ∙ ap (λ ys. ys ++ more) (append-nil (log_lines d k x off)))
entry_lines-set_here d k off (x ∷ ls) (suc n) l l' more p is eq later =
    let z : off + suc n ≡ suc off + n = omega arith in
    ap (λ ys. log_lines d k x off ++ ys)
    (entry_lines-set_here d k (suc off) ls n l l' more (omega (arith, p)) is
    (sym (ap (log_lines d k l') z) ∙ eq ∙ ap (λ j. log_lines d k l j ++ more) z)
    (λ j y q r. later (suc j) y (omega (arith, q)) (omega (arith, r))))
    ∙ sym (append_assoc (log_lines d k x off) (entry_lines d k (suc off) ls) more)

-- ---- the lines of all events up to one

All-flat_map : {A B : Type 0} (P : B → Type 0) (f : A → List B) (xs : List A) → All (λ (x : A). All P (f x)) xs → All P (flat_map f xs)
All-flat_map P f [] h = All-nil P
All-flat_map P f (x ∷ xs) h =
    All-append P (f x) (flat_map f xs) (All-head (λ (y : _). All P (f y)) x xs h) (All-flat_map P f xs (All-tail (λ (y : _). All P (f y)) x xs h))

fold-max-le : (a b : ℕ) (xs : List ℕ) → a ≤ b → All (λ (x : ℕ). x ≤ b) xs → fold max a xs ≤ b
fold-max-le a b [] p h = p
fold-max-le a b (x ∷ xs) p h =
    let q : x ≤ b = All-head (λ (y : ℕ). y ≤ b) x xs h in
    fold-max-le (max a x) b xs (omega (arith, p, q)) (All-tail (λ (y : ℕ). y ≤ b) x xs h)

pub events_end-le : (r : Report) (event : ℕ) → All (λ (a : Aired). a.stamp.event ≤ event) r.air
    → All (λ (l : Log). All (λ (e : Stamped). e.stamp.event ≤ event) l.entries) r.nodes → events_end r ≤ suc event
events_end-le r event air logs =
    let a = fold-max-le 0 event (map air_event r.air) (omega arith) (All-map (λ (k : ℕ). k ≤ event) air_event r.air air) in
    let b = fold-max-le 0 event (flat_map (λ (l : Log). map entry_event l.entries) r.nodes) (omega arith)
    (All-flat_map (λ (k : ℕ). k ≤ event) (λ (l : Log). map entry_event l.entries) r.nodes
    (All-weaker (λ (l : Log). All (λ (e : Stamped). e.stamp.event ≤ event) l.entries) (λ (l : Log). All (λ (k : ℕ). k ≤ event) (map entry_event l.entries))
    (λ (l : Log) (h : All (λ (e : Stamped). e.stamp.event ≤ event) l.entries). All-map (λ (k : ℕ). k ≤ event) entry_event l.entries h) r.nodes logs)) in
    omega (arith, a, b)

logs-none : (d : Description) (k : ℕ) (ls : List Log) → All (IsBefore k) ls → entry_lines d k 0 ls ≡ []
logs-none d k ls h =
    entry_lines-none d k 0 ls
    (All-weaker (IsBefore k) (λ (l : Log). at_event entry_event k l.entries ≡ []) (λ (l : Log) (before : IsBefore k l). before-none k l before) ls h) where
      before-none : (k : ℕ) (l : Log) → IsBefore k l → at_event entry_event k l.entries ≡ []
      before-none k l before =
          at_event-none entry_event k l.entries
          (All-weaker (λ (e : Stamped). e.stamp.event < k) (λ (e : Stamped). entry_event e ≢ k) (λ (e : Stamped) (p : e.stamp.event < k) q. absurd (omega (arith, p, q))) l.entries before)

pub event_lines-past : (d : Description) (r : Report) (k : ℕ) → events_end r ≤ k → event_lines d r k ≡ []
event_lines-past d r k p =
    let air = at_event-none air_event k r.air
    (All-weaker (λ (a : Aired). a.stamp.event < events_end r) (λ (a : Aired). air_event a ≢ k) (λ (a : Aired) (q : a.stamp.event < events_end r) e. absurd (omega (arith, p, q, e))) r.air (below_end-air r)) in
    let logs = logs-none d k r.nodes
    (All-weaker (IsBefore (events_end r)) (IsBefore k)
    (λ (l : Log) (h : IsBefore (events_end r) l). All-weaker (λ (e : Stamped). e.stamp.event < events_end r) (λ (e : Stamped). e.stamp.event < k) (λ (e : Stamped) (q : e.stamp.event < events_end r). omega (arith, p, q)) l.entries h)
    r.nodes (below_end r)) in
    ap (λ xs. flat_map air_line xs ++ entry_lines d k 0 r.nodes) air ∙ logs

pub lines-upto : (d : Description) (r : Report) (event : ℕ) → events_end r ≤ suc event → lines d r ≡ flat_map (event_lines d r) (below event) ++ event_lines d r event
lines-upto d r event p =
    sym (flat_map-skip (event_lines d r) (events_end r) (suc event) p (λ k q s. event_lines-past d r k q)) ∙ flat_map-below_next (event_lines d r) event

pub agree-below : (f g : ℕ → List ℕ) (n : ℕ) → ((k : ℕ) → k < n → f k ≡ g k) → flat_map f (below n) ≡ flat_map g (below n)
agree-below f g zero h = refl
agree-below f g (suc n) h =
    flat_map-below_next f n ∙ ap (λ ys. ys ++ f n) (agree-below f g n (λ k p. h k (omega (arith, p)))) ∙ ap (λ y. flat_map g (below n) ++ y) (h n (omega arith))
    ∙ sym (flat_map-below_next g n)

-- ---- the law

no_air : (A E N a : List ℕ) → a ≡ [] → (A ++ a) ++ (E ++ N) ≡ (A ++ E) ++ (a ++ N)
no_air A E N a p =
    ap (λ x. (A ++ x) ++ (E ++ N)) p ∙ ap (λ x. x ++ (E ++ N)) (append-nil A) ∙ sym (append_assoc A E N) ∙ sym (ap (λ x. (A ++ E) ++ (x ++ N)) p)

no_entries : (A E N a : List ℕ) → E ≡ [] → (A ++ a) ++ (E ++ N) ≡ (A ++ E) ++ (a ++ N)
no_entries A E N a p =
    ap (λ x. (A ++ a) ++ (x ++ N)) p ∙ append_assoc A a N ∙ sym (ap (λ x. (A ++ x) ++ (a ++ N)) p ∙ ap (λ x. x ++ (a ++ N)) (append-nil A))

news-are : (old new : Report) (aired : List Aired) (log : Log) (from node : ℕ) (p : AddsPiece old new aired log from node) → drop from log.entries ≡ p.goes_on.entries
news-are old new aired log from node p =
    ap (λ n. drop n log.entries) p.position ∙ ap (drop (length p.before.entries)) p.goes_on.entries_are ∙ drop-append_seam p.before.entries p.goes_on.entries

own : (old new : Report) (aired : List Aired) (log : Log) (from node : ℕ) (p : AddsPiece old new aired log from node) → All (λ (e : Stamped). entry_event e ≡ p.event) p.goes_on.entries
own old new aired log from node p =
    All-same (λ (e : Stamped). entry_event e ≡ p.event) p.goes_on.entries (drop from log.entries) (sym (news-are old new aired log from node p)) p.of_event

event-other : (d : Description) (old new : Report) (aired : List Aired) (log : Log) (from node : ℕ) (p : AddsPiece old new aired log from node) (k : ℕ) → k ≢ p.event
    → event_lines d new k ≡ event_lines d old k
event-other d old new aired log from node p k ne =
    let logs = ap (entry_lines d k 0) p.nodes
    ∙ entry_lines-set_other d k 0 old.nodes node p.before log p.within p.is
    (log-other d p.before log (0 + node) p.event k p.goes_on ne p.named (own old new aired log from node p)) in
    let air = ap (at_event air_event k) p.air ∙ filter-append (λ (a : Aired). air_event a == k) old.air aired
    ∙ ap (λ xs. at_event air_event k old.air ++ xs) (at_event-other air_event p.event k aired ne p.air_of_event)
    ∙ append-nil (at_event air_event k old.air) in
    ap (λ xs. flat_map air_line xs ++ entry_lines d k 0 new.nodes) air ∙ ap (λ ys. flat_map air_line (at_event air_event k old.air) ++ ys) logs

event-here : (d : Description) (old new : Report) (aired : List Aired) (log : Log) (from node : ℕ) (p : AddsPiece old new aired log from node)
    → event_lines d new p.event ≡ event_lines d old p.event ++ event_piece d aired log from node
event-here d old new aired log from node p =
    let more = flat_map (entry_line d log node) (drop from log.entries) in
    let at = zero-add node in
    let log_is = log-here d p.before log (0 + node) p.event p.goes_on p.named (own old new aired log from node p)
    ∙ ap (λ n. log_lines d p.event p.before (0 + node) ++ flat_map (entry_line d log n) p.goes_on.entries) at
    ∙ ap (λ es. log_lines d p.event p.before (0 + node) ++ flat_map (entry_line d log node) es) (sym (news-are old new aired log from node p)) in
    let logs = ap (entry_lines d p.event 0) p.nodes
    ∙ entry_lines-set_here d p.event 0 old.nodes node p.before log more p.within p.is log_is
    (λ j y q r. at_event-none entry_event p.event (get_or old.nodes j y).entries
    (All-weaker (λ (e : Stamped). e.stamp.event < p.event) (λ (e : Stamped). entry_event e ≢ p.event) (λ (e : Stamped) (s : e.stamp.event < p.event) t. absurd (omega (arith, s, t)))
    (get_or old.nodes j y).entries (p.later_nodes j y q r))) in
    let air = ap (λ xs. flat_map air_line (at_event air_event p.event xs)) p.air
    ∙ ap (flat_map air_line) (filter-append (λ (a : Aired). air_event a == p.event) old.air aired
    ∙ ap (λ xs. at_event air_event p.event old.air ++ xs) (at_event-own air_event p.event aired p.air_of_event))
    ∙ flat_map-append air_line (at_event air_event p.event old.air) aired in
    ap (λ ys. ys ++ entry_lines d p.event 0 new.nodes) air
    ∙ ap (λ ys. (flat_map air_line (at_event air_event p.event old.air) ++ flat_map air_line aired) ++ ys) logs
    ∙ elim p.air_first [
      | inl none ↦ no_air (flat_map air_line (at_event air_event p.event old.air)) (entry_lines d p.event 0 old.nodes) more (flat_map air_line aired) (ap (flat_map air_line) none)
      | inr before ↦ no_entries (flat_map air_line (at_event air_event p.event old.air)) (entry_lines d p.event 0 old.nodes) more (flat_map air_line aired)
          (logs-none d p.event old.nodes before)
    ]

ends : (old new : Report) (aired : List Aired) (log : Log) (from node : ℕ) (p : AddsPiece old new aired log from node) → events_end new ≤ suc p.event
ends old new aired log from node p =
    let UpTo : Log → Type 0 = λ (l : Log). All (λ (e : Stamped). e.stamp.event ≤ p.event) l.entries in
    let before : UpTo p.before = subst UpTo p.is (p.up_to node p.before p.within) in
    let after : UpTo log = All-same (λ (e : Stamped). e.stamp.event ≤ p.event) log.entries (p.before.entries ++ p.goes_on.entries) p.goes_on.entries_are
    (All-append (λ (e : Stamped). e.stamp.event ≤ p.event) p.before.entries p.goes_on.entries before
    (All-weaker (λ (e : Stamped). entry_event e ≡ p.event) (λ (e : Stamped). e.stamp.event ≤ p.event) (λ (e : Stamped) (q : entry_event e ≡ p.event). omega (arith, q)) p.goes_on.entries
    (own old new aired log from node p))) in
    let air = All-same (λ (a : Aired). a.stamp.event ≤ p.event) new.air (old.air ++ aired) p.air
    (All-append (λ (a : Aired). a.stamp.event ≤ p.event) old.air aired p.air_up_to
    (All-weaker (λ (a : Aired). a.stamp.event ≡ p.event) (λ (a : Aired). a.stamp.event ≤ p.event) (λ (a : Aired) (q : a.stamp.event ≡ p.event). omega (arith, q)) aired p.air_of_event)) in
    events_end-le new p.event air (All-same UpTo new.nodes (set old.nodes node log) p.nodes (All-set UpTo old.nodes node log after p.up_to))

-- one more piece stands behind the lines so far
pub lines-piece : (d : Description) (old new : Report) (aired : List Aired) (log : Log) (from node : ℕ) → AddsPiece old new aired log from node
    → lines d new ≡ lines d old ++ event_piece d aired log from node
lines-piece d old new aired log from node p =
    let other = agree-below (event_lines d new) (event_lines d old) p.event
    (λ k q. event-other d old new aired log from node p k (λ e. absurd (omega (arith, q, e)))) in
    lines-upto d new p.event (ends old new aired log from node p)
    ∙ ap (λ ys. ys ++ event_lines d new p.event) other
    ∙ ap (λ ys. flat_map (event_lines d old) (below p.event) ++ ys) (event-here d old new aired log from node p)
    ∙ sym (append_assoc (flat_map (event_lines d old) (below p.event)) (event_lines d old p.event) (event_piece d aired log from node))
    ∙ sym (ap (λ ys. ys ++ event_piece d aired log from node) (lines-upto d old p.event (events_end-le old p.event p.air_up_to p.up_to)))

-- the lines so far are those of the events before the piece's, where there is no record of its event yet
pub lines-earlier : (d : Description) (old new : Report) (aired : List Aired) (log : Log) (from node : ℕ) (p : AddsPiece old new aired log from node) → events_end old ≤ p.event
    → lines d old ≡ flat_map (event_lines d new) (below p.event)
lines-earlier d old new aired log from node p le =
    sym (flat_map-skip (event_lines d old) (events_end old) p.event le (λ k q s. event_lines-past d old k q))
    ∙ sym (agree-below (event_lines d new) (event_lines d old) p.event (λ k q. event-other d old new aired log from node p k (λ e. absurd (omega (arith, q, e)))))
