-- A new node keeps all that a node keeps.
use Rattle.std.specs.Prelude.{All}
use Rattle.std.proofs.lemmas.List.Elements.{All-nil}
use Rattle.arrayvec.specs.ArrayVec.{ArrayVec}
use Rattle.std.proofs.Common.{ℕ, ◌≡◌, ◌≤◌, true, false, List, [], Option, Some, None, length, refl, sym, ◌∙◌, ap, subst, arith, ◌<◌}
use Rattle.std.proofs.Math.ListN.{length-replicate}
use Rattle.std.specs.Option.{option_map}
use Rattle.mate_num.specs.Store.{zero_store}
use Rattle.mate_num.specs.declared.id.HandlerId.{HandlerId}
use Rattle.mate_num.specs.declared.store.Store.{Store}
use Rattle.vm_shape.specs.Whole.{context_count}
use Rattle.vm_shape.specs.declared.description.Description.{Description}
use Rattle.vm_shape.specs.Shapes.{shape_of}
use Rattle.mate_journal.specs.Log.{IsEmpty}
use Rattle.mate_journal.specs.Journal.{TimedEntry, Unposted, Queued, Waiting, NodeState, journal_of, first_state, state_after_all}
use Rattle.mate_journal.specs.WellFormed.{IsWellFormed}
use Rattle.mate_journal.specs.Serial.{RunsSoFar, IsSerial}
use Rattle.mate_journal.specs.Stores.{ShowsStores}
use Rattle.mate_journal.specs.Grants.{AllHeldBack}
use Rattle.journal_laws.specs.Growth.{GrantsBefore}
use Rattle.journal_laws.proofs.Append.{journal_of-empty}
use Rattle.journal_laws.proofs.TidyLemmas.{NumbersInOrder-empty}
use Rattle.mate_journal.specs.Entries.{IsEntryInRange}
use Rattle.mate_journal.specs.Tidy.{IsStoreOf, EventsRise, entry_event}
use Rattle.mate_journal.specs.declared.entry.Stamped.{Stamped}
use Rattle.exec_unit.specs.Step.{HasLengths}
use Rattle.node_state.specs.declared.handlers.Held.{Held}
use Rattle.node_state.specs.At.{AreIdle}
use Rattle.node_state.specs.Programs.{held_at}
use Rattle.node_state.specs.declared.parts.Parts.{Parts}
use Rattle.node_state.specs.Meaning.{machine_in}
use Rattle.node_state.specs.Fits.{program_of, AreInstalled, ContextsMatch}
use Rattle.node_state.specs.Agrees.{Agrees}
use Rattle.node_state.specs.Keeps.{reading, Keeps}
use Rattle.node_state.proofs.MoveLemmas.{Fits-idle}
use Rattle.node_state.proofs.StartLemmas.{Agrees-idle}
use Rattle.node_state.specs.Starting.{Rests}
use Rattle.node_state.proofs.OrderLemmas.{IsQueue-idle}

all-none : {A : Type 0} (P : A → Type 0) (xs : List A) → xs ≡ [] → All P xs
all-none P xs none = let Q : List _ → Type 0 = λ l. All P l in subst Q (sym none) (All-nil P)

module _ (d : Description) (s : Parts) (idles : AreIdle s.contexts) (none : (h : HandlerId) → held_at s.handlers.programs h ≡ None) (places : length s.handlers.programs ≡ length d.handlers.items) (no_posts : s.posts ≡ 0) (empty : IsEmpty s.log.all)
    (zero : s.heap ≡ zero_store (length d.shared.items) (length d.buffers.items)) (seats : context_count d ≤ length s.contexts.seats) where
  journal-is : journal_of s.log.all ≡ []
  journal-is = journal_of-empty s.log.all empty

  reading-is : reading d s.log.all ≡ first_state (machine_in d)
  unfolding reading
  reading-is = ap (state_after_all (machine_in d) (first_state (machine_in d))) journal-is

  at_start : (P : List TimedEntry → Type 0) → P [] → P (journal_of s.log.all)
  at_start P here = subst P (sym journal-is) here

  heard_nothing : (P : NodeState → Type 0) → P (first_state (machine_in d)) → P (reading d s.log.all)
  heard_nothing P here = subst P (sym reading-is) here

  runs : RunsSoFar (machine_in d) (first_state (machine_in d))
  runs = record { calls = λ n started. (let e : false ≡ true = started in cc); wants = λ n f args is. (let e : Unposted ≡ Waiting f args = is in cc) }

  installed-none : AreInstalled d (first_state (machine_in d)).installed (held_at s.handlers.programs)
  installed-none = record {
    each = λ h x is. absurd (let e : None ≡ Some x = sym (none h) ∙ is in cc);
    same = λ h. sym (ap (λ (o : Option Held). option_map (program_of h) o) (none h));
  }

  keeps-new : Keeps d s
  keeps-new =
      let entries = ap length empty.entries in
      let posts = no_posts in
      let m = machine_in d in
      let H : Store → Type 0 = λ x. HasLengths (shape_of d) x in
      record {
        tidy = record {
          in_range = all-none (λ (e : Stamped). IsEntryInRange d e.entry) s.log.all.entries empty.entries;
          numbered = NumbersInOrder-empty s.log.all empty;
          lengths = all-none (IsStoreOf d) s.log.all.stores empty.stores;
          ordered = (let O : List Stamped → Type 0 = λ es. EventsRise entry_event 0 es in subst O (sym empty.entries) tt);
        };
        full = record { full = all-none (λ (image : ArrayVec ℕ). 0 < length image.items) s.log.all.images empty.images };
        numbers = omega arith;
        well_formed = at_start (λ es. IsWellFormed m (first_state m) es) (record { in_time = tt; follow = tt });
        posts = ap (λ (r : NodeState). r.posts) reading-is ∙ sym no_posts;
        places = places;
        installed = heard_nothing (λ r. AreInstalled d r.installed (held_at s.handlers.programs)) installed-none;
        fits = heard_nothing (λ r. ContextsMatch (held_at s.handlers.programs) r s.contexts) (Fits-idle (held_at s.handlers.programs) (first_state m) s.contexts idles (λ n. refl));
        seats = seats;
        lengths = subst H (sym zero) (record { shared = length-replicate _ _; buffers = length-replicate _ _ });
        agrees = heard_nothing (λ r. Agrees d r s.contexts s.heap) (Agrees-idle d (first_state m) s.contexts s.heap idles zero (λ n. refl));
        serial = at_start (λ es. IsSerial m (first_state m) es) (record { ends = tt; so_far = runs });
        shows = at_start (λ es. ShowsStores m (first_state m) es) (record { shown = tt; before_eras = tt });
      }

  pub Rests-new : Rests d s
  Rests-new = record {
    order = record { keeps = keeps-new; queue = IsQueue-idle s.contexts idles; grants = at_start (λ es. GrantsBefore (machine_in d) (first_state (machine_in d)) 0 es) tt };
    held = heard_nothing (λ r. AllHeldBack (machine_in d) r) (λ n queued. (let e : Unposted ≡ Queued = queued in cc));
  }
