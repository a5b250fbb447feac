-- The summary of a report tells nothing of the room that its logs have left.
use Rattle.std.proofs.Common.{◌≡◌, ℕ, ◌+◌, ◌==◌, max, Bool, cond, List, [], ◌∷◌, ◌++◌, length, refl, sym, ap, ◌∙◌}
use Rattle.std.specs.Prelude.{fold, flat_map, filter_map, sum_by, count_by, codes, if◌then◌else◌}
use Rattle.std.specs.List.{AllZip}
use Rattle.std.proofs.lemmas.List.Elements.{length_all_zip}
use Rattle.vm_shape.specs.declared.description.Description.{Description}
use Rattle.mate_journal.specs.Log.{Log, IsSameLog}
use Rattle.mate_journal.specs.Tidy.{below}
use Rattle.mate_journal.specs.declared.air.Aired.{Aired}
use Rattle.mate_journal.specs.declared.entry.Stamped.{Stamped}
use Rattle.mate_journal.specs.declared.report.Report.{Report}
use Rattle.report_writer.specs.Words.{word, number, handler_name}
use Rattle.report_text.specs.Parts.{IsSameReport}
use Rattle.report_writer.specs.Text.{records, end_word}
use Rattle.report_writer.specs.Brief.{is_entry, entries_of, air_of, installed, newest, last, holders, count_line, newest_line, count_lines, brief}
use Rattle.report_writer.specs.declared.kinds.EntryKind.{EntryKind}
use Rattle.report_writer.specs.declared.kinds.EntryKind.TheVariants as entry_kind
use Rattle.report_writer.specs.declared.kinds.AirKind.TheVariants as air_kind
use Rattle.report_text.proofs.BackLemmas.{agree}

-- ---- over lists of logs

sum-same : (f : List Stamped → ℕ) (n : ℕ) (xs ys : List Log) → AllZip IsSameLog xs ys → fold (λ a l. a + f l.entries) n xs ≡ fold (λ a l. a + f l.entries) n ys
sum-same f n [] [] z = refl
sum-same f n [] (y ∷ ys) z = absurd z
sum-same f n (x ∷ xs) [] z = absurd z
sum-same f n (x ∷ xs) (y ∷ ys) z = ap (λ (es : List Stamped). fold (λ a l. a + f l.entries) (n + f es) xs) z.0.entries ∙ sum-same f (n + f y.entries) xs ys z.1

flat-same : (f : List Stamped → List ℕ) (xs ys : List Log) → AllZip IsSameLog xs ys → flat_map (λ (l : Log). f l.entries) xs ≡ flat_map (λ (l : Log). f l.entries) ys
flat-same f [] [] z = refl
flat-same f [] (y ∷ ys) z = absurd z
flat-same f (x ∷ xs) [] z = absurd z
flat-same f (x ∷ xs) (y ∷ ys) z =
    ap (λ (es : List Stamped). f es ++ flat_map (λ (l : Log). f l.entries) xs) z.0.entries ∙ ap (λ (w : List ℕ). f y.entries ++ w) (flat-same f xs ys z.1)

records-same : (a b : Report) → IsSameReport a b → records a ≡ records b
records-same a b s =
    ap (λ (airs : List Aired). length airs + sum_by (λ l. length l.entries) a.nodes) s.air ∙ ap (λ (n : ℕ). length b.air + n) (sum-same length 0 a.nodes b.nodes s.nodes)

-- ---- the summary

entries-same : (kind : EntryKind) (xs ys : List Log) → AllZip IsSameLog xs ys → entries_of kind xs ≡ entries_of kind ys
entries-same kind xs ys z = sum-same (λ es. count_by (λ (e : Stamped). is_entry kind e.entry) es) 0 xs ys z

newest-same : (h : ℕ) (xs ys : List Log) → AllZip IsSameLog xs ys → newest h xs ≡ newest h ys
newest-same h xs ys z = ap (fold max 0) (flat-same (filter_map (λ (e : Stamped). installed h e.entry)) xs ys z)

holders-same : (h : ℕ) (xs ys : List Log) → AllZip IsSameLog xs ys → holders h xs ≡ holders h ys
holders-same h xs ys z =
    ap (λ (n : ℕ). if n == 0 then 0 else count_by (λ l. last h l == n) xs) (newest-same h xs ys z)
    ∙ ap (λ (c : ℕ). if newest h ys == 0 then 0 else c)
    (sum-same (λ es. cond (fold (λ before version. version) 0 (filter_map (λ (e : Stamped). installed h e.entry) es) == newest h ys) 1 0) 0 xs ys z)

newest_line-same : (d : Description) (h : ℕ) (xs ys : List Log) → AllZip IsSameLog xs ys → newest_line d xs h ≡ newest_line d ys h
newest_line-same d h xs ys z =
    ap (λ (n : ℕ). codes "newest" ++ word (handler_name d (record { 0 = h })) ++ number n ++ number (holders h xs) ++ codes "\n") (newest-same h xs ys z)
    ∙ ap (λ (n : ℕ). codes "newest" ++ word (handler_name d (record { 0 = h })) ++ number (newest h ys) ++ number n ++ codes "\n") (holders-same h xs ys z)

-- the lines of counts, by their numbers
abbrev lines_of_counts : ℕ → ℕ → ℕ → ℕ → ℕ → ℕ → ℕ → ℕ → List Aired → List ℕ
lines_of_counts nodes events all posts drops halts faults installs air =
    count_line (codes "nodes") nodes
    ++ count_line (codes "events") events
    ++ count_line (codes "records") all
    ++ count_line (codes "posts") posts
    ++ count_line (codes "drops") drops
    ++ count_line (codes "halts") halts
    ++ count_line (codes "faults") faults
    ++ count_line (codes "installs") installs
    ++ count_line (codes "sent") (air_of air_kind.Sent air)
    ++ count_line (codes "got") (air_of air_kind.Got air)
    ++ count_line (codes "lost") (air_of air_kind.Lost air)

of-counts : (r : Report) → count_lines r ≡ lines_of_counts (length r.nodes) r.events (records r) (entries_of entry_kind.Post r.nodes) (entries_of entry_kind.Drop r.nodes) (entries_of entry_kind.Halt r.nodes)
    (entries_of entry_kind.Fault r.nodes) (entries_of entry_kind.Install r.nodes) r.air
of-counts r = refl

numbers-same : (n n' e e' c c' p p' d d' h h' f f' i i' : ℕ) (air air' : List Aired) → n ≡ n' → e ≡ e' → c ≡ c' → p ≡ p' → d ≡ d' → h ≡ h' → f ≡ f' → i ≡ i' → air ≡ air'
    → lines_of_counts n e c p d h f i air ≡ lines_of_counts n' e' c' p' d' h' f' i' air'
numbers-same n n' e e' c c' p p' d d' h h' f f' i i' air air' a b x y z u v w s =
    ap (λ (k : ℕ). lines_of_counts k e c p d h f i air) a
    ∙ ap (λ (k : ℕ). lines_of_counts n' k c p d h f i air) b
    ∙ ap (λ (k : ℕ). lines_of_counts n' e' k p d h f i air) x
    ∙ ap (λ (k : ℕ). lines_of_counts n' e' c' k d h f i air) y
    ∙ ap (λ (k : ℕ). lines_of_counts n' e' c' p' k h f i air) z
    ∙ ap (λ (k : ℕ). lines_of_counts n' e' c' p' d' k f i air) u
    ∙ ap (λ (k : ℕ). lines_of_counts n' e' c' p' d' h' k i air) v
    ∙ ap (λ (k : ℕ). lines_of_counts n' e' c' p' d' h' f' k air) w
    ∙ ap (λ (k : List Aired). lines_of_counts n' e' c' p' d' h' f' i' k) s

counts-same : (a b : Report) → IsSameReport a b → count_lines a ≡ count_lines b
counts-same a b s =
    of-counts a
    ∙ numbers-same _ _ _ _ _ _ _ _ _ _ _ _ _ _ _ _ a.air b.air (length_all_zip IsSameLog a.nodes b.nodes s.nodes) s.events (records-same a b s) (entries-same entry_kind.Post a.nodes b.nodes s.nodes) (entries-same entry_kind.Drop a.nodes b.nodes s.nodes)
    (entries-same entry_kind.Halt a.nodes b.nodes s.nodes) (entries-same entry_kind.Fault a.nodes b.nodes s.nodes) (entries-same entry_kind.Install a.nodes b.nodes s.nodes) s.air
    ∙ sym (of-counts b)

pub brief-same : (d : Description) (a b : Report) → IsSameReport a b → brief d a ≡ brief d b
brief-same d a b s =
    ap (λ (w : List ℕ). w ++ flat_map (newest_line d a.nodes) (below (length d.handlers.items)) ++ end_word a.whole ++ codes "\n") (counts-same a b s)
    ∙ ap (λ (w : List ℕ). count_lines b ++ w ++ end_word a.whole ++ codes "\n")
    (agree (newest_line d a.nodes) (newest_line d b.nodes) (below (length d.handlers.items)) (λ h. newest_line-same d h a.nodes b.nodes s.nodes))
    ∙ ap (λ (x : Bool). count_lines b ++ flat_map (newest_line d b.nodes) (below (length d.handlers.items)) ++ end_word x ++ codes "\n") s.whole
