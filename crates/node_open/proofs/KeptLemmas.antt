-- What is at hand of a log, and what it tells.
use Rattle.std.proofs.Common.{◌≡◌, ◌+◌, ◌-◌, ◌<◌, ℕ, List, [], ◌∷◌, refl, sym, ◌∙◌, ap, subst, arith, length, map, take, drop, length-drop, get_or, get_or-drop}
use Rattle.std.specs.Prelude.{All}
use Rattle.std.proofs.lemmas.List.{length-map, get_or-map, drop-map, drop-drop, take_all}
use Rattle.std.proofs.lemmas.List.Elements.{All-drop, All-same}
use Rattle.vm_shape.specs.declared.description.Description.{Description}
use Rattle.mate_journal.specs.Log.{Log}
use Rattle.mate_journal.specs.Journal.{JournalEntry, Installed, Seen, journal_entry, no_image, no_store}
use Rattle.mate_journal.specs.declared.entry.Entry.{Entry}
use Rattle.mate_journal.specs.declared.entry.Entry.TheVariants as entry
use Rattle.mate_journal.specs.declared.entry.Stamped.{Stamped}
use Rattle.mate_journal.specs.OpenLog.{OpenView, entry_behind, stamped_behind, IsKept}
use Rattle.mate_journal.specs.Entries.{IsEntryInRange}
use Rattle.node_open.specs.Calls.{told_by_entries, TellFrom}

module _ (v : OpenView) (kept : Log) (is : IsKept v kept) where
  abbrev moved : Stamped → Stamped
  moved = stamped_behind v.gone.images v.gone.stores

  -- how many are at hand
  pub count-kept : v.gone.entries + length kept.entries ≡ length v.all.entries
  count-kept =
      let moves = length-map kept.entries moved in
      let left = length-drop v.gone.entries v.all.entries in
      let same = ap (λ (es : List Stamped). length es) is.entries in
      let within = is.within in
      omega (arith, moves, left, same, within)

  -- a slice of them
  pub left-kept : (es : List Stamped) (at : ℕ) → es ≡ kept.entries → take (length es - at) (drop at es) ≡ drop at kept.entries
  left-kept es at same = take_all (length es - at) (drop at es) (let long = length-drop at es in omega (arith, long)) ∙ ap (drop at) same

  -- those from a position on
  pub entries-kept : (from : ℕ) → drop (v.gone.entries + from) v.all.entries ≡ map moved (drop from kept.entries)
  entries-kept from = sym (drop-drop from v.gone.entries v.all.entries) ∙ ap (drop from) is.entries ∙ drop-map moved from kept.entries

  told-same : (e : Entry) → journal_entry v.all (entry_behind v.gone.images v.gone.stores e) ≡ journal_entry kept e
  told-same (entry.Install h version image) =
      ap (λ (x : _). Installed (record { handler = h; version = version; image = x })) (sym (get_or-drop v.gone.images v.all.images image no_image) ∙ ap (λ (xs : _). get_or xs image no_image) is.images)
  told-same (entry.Seen store) = ap Seen (sym (get_or-drop v.gone.stores v.all.stores store no_store) ∙ ap (λ (xs : _). get_or xs store no_store) is.stores)
  told-same _ = refl

  told-all : (es : List Stamped) → told_by_entries kept es ≡ told_by_entries v.all (map moved es)
  told-all [] = refl
  told-all (e ∷ es) = ap (λ (t : JournalEntry). t ∷ told_by_entries kept es) (sym (told-same e.entry)) ∙ ap (λ (ts : List JournalEntry). journal_entry v.all (moved e).entry ∷ ts) (told-all es)

  pub tell-from : (from : ℕ) → TellFrom (v.gone.entries + from) v.all (drop from kept.entries)
  tell-from from = record { by = kept; told = told-all (drop from kept.entries) ∙ ap (told_by_entries v.all) (sym (entries-kept from)) }

  in-range : (d : Description) (e : Entry) → IsEntryInRange d (entry_behind v.gone.images v.gone.stores e) → IsEntryInRange d e
  in-range d (entry.Post n h c payload) r = r
  in-range d _ r = r

  pub range-kept : (d : Description) (from : ℕ) → All (λ (e : Stamped). IsEntryInRange d e.entry) v.all.entries → All (λ (e : Stamped). IsEntryInRange d e.entry) (drop from kept.entries)
  range-kept d from all i x within =
      let P : Stamped → Type 0 = λ e. IsEntryInRange d e.entry in
      let es = drop from kept.entries in
      let there : All P (map moved es) = All-same P (map moved es) (drop (v.gone.entries + from) v.all.entries) (sym (entries-kept from)) (All-drop P (v.gone.entries + from) v.all.entries all) in
      let below : i < length (map moved es) = let long = length-map es moved in omega (arith, long, within) in
      in-range d (get_or es i x).entry (subst P (get_or-map moved es i x (moved x) within) (there i (moved x) below))
