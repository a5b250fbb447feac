-- An install: the program that the bytes are takes the place of what was held, and an era begins.
use Rattle.std.proofs.Common.{◌≡◌, ◌≢◌, ◌⊎◌, ℕ, ◌+◌, ◌≤◌, ◌<◌, Bool, true, false, cond, eqb, List, [], ◌∷◌, ◌++◌, Option, Some, None, Result, Ok, Err, length, map, set, drop, ℤ, refl, sym, ◌∙◌, ap, subst, arith, inl, inr, get_or-set_same, get_or-set_other, length-set}
use Rattle.std.specs.Result.{result_unwrap_or}
use Rattle.mate_num.specs.Results.{result_map}
use Rattle.std.specs.Prelude.{IfOk, All, IsTrue, nat_lt, MatchBool, MatchResult, ⊤}
use Rattle.std.specs.Option.{option_map}
use Rattle.std.proofs.Math.Seq.{get_or-append_seam}
use Rattle.std.proofs.lemmas.Bool.Decides.{eqb_tells}
use Rattle.arrayvec.specs.ArrayVec.{ArrayVec}
use Rattle.mate_num.specs.Store.{zero_store}
use Rattle.mate_num.specs.declared.call.Stamp.{Stamp}
use Rattle.mate_num.specs.declared.id.HandlerId.{HandlerId}
use Rattle.mate_num.specs.declared.shape.Shape.{Shape}
use Rattle.mate_num.specs.declared.bounds.TheConstants.{CODE_MAX, IMAGE_MAX}
use Rattle.mate_num.specs.declared.lock_set.LockSet.{LockSet}
use Rattle.capsule_codec.specs.declared.capsule.CapsuleRef.{CapsuleRef}
use Rattle.capsule_codec.specs.Image.{CapsuleParts, parts_in_place, capsule_image, IsOfMachine}
use Rattle.capsule_codec.specs.Reading.{GivesInPlace, capsule_in}
use Rattle.capsule_codec.specs.declared.decoding.CapsuleFault.{CapsuleFault}
use Rattle.code_verifier.specs.Verified.{VerifiedCode, marks_of, IsVerificationOf}
use Rattle.mate_code.specs.declared.fault.VerifyFault.{VerifyFault}
use Rattle.lock_inference.specs.Locks.{AreLocksOf}
use Rattle.mate_code.specs.declared.decoding.DecodeFault.{DecodeFault}
use Rattle.mate_code.specs.declared.decoding.DecodeFault.TheVariants.{BadOpcode, CutShort}
use Rattle.mate_code.specs.BytesVerification.{of_decoded, bytes_verification}
use Rattle.mate_code.specs.Code.{decoded}
use Rattle.mate_code.specs.Run.{Code}
use Rattle.mate_code.specs.Table.{table_of}
use Rattle.mate_code.specs.declared.fault.VerifyFault.TheVariants.{TooLong}
use Rattle.mate_code.specs.Verification.{Marks, verification}
use Rattle.std.proofs.lemmas.List.Elements.{All-nil, All-cons, All-append}
use Rattle.mate_journal.specs.Tidy.{IsStoreOf}
use Rattle.journal_laws.proofs.TidyLemmas.{NumbersInOrder-install, NamesInLog-numbered}
use Rattle.vm_shape.specs.declared.description.Description.{Description}
use Rattle.vm_shape.specs.Shapes.{shape_of}
use Rattle.mate_journal.specs.declared.entry.Entry.TheVariants as entry
use Rattle.mate_journal.specs.Log.{Log}
use Rattle.mate_journal.specs.Machine.{Machine, HeldProgram}
use Rattle.mate_journal.specs.NodeScript.{Occasion, Installs}
use Rattle.mate_journal.specs.Journal.{JournalEntry, Installed, Seen, NodeState, held, next_state, state_after_all, first_state, journal_of}
use Rattle.journal_laws.specs.Growth.{AddsImage, last_is_seen}
use Rattle.journal_laws.proofs.Append.{heard_all-append, journal_of-add_image}
use Rattle.mate_num.specs.declared.store.Store.{Store}
use Rattle.node_state.specs.declared.handlers.Held.{Held}
use Rattle.node_state.specs.At.{AreIdle}
use Rattle.node_state.specs.Programs.{HasOwnRoom, HeldPrograms, held_at, held_version_in, renewed}
use Rattle.node_state.specs.declared.parts.Parts.{Parts}
use Rattle.node_state.specs.Meaning.{machine_in, image_code}
use Rattle.node_state.specs.Fits.{program_of, IsHeld, AreInstalled}
use Rattle.node_state.specs.Keeps.{reading, Keeps, IsTimely, event_at, Grows}
use Rattle.node_state.specs.Continues.{IsPrepared, AddsTidily}
use Rattle.node_state.specs.Starting.{Rests}
use Rattle.node_calls.specs.declared.posting.PostAnswer.{PostAnswer}
use Rattle.node_calls.specs.declared.posting.PostAnswer.TheVariants.{Posted as PostedAnswer, NoCode, AllBusy}
use Rattle.node_calls.specs.Calls.{RestsAgain, AtPace, TellsStore, IsCleared}
use Rattle.node_calls.specs.Arrivals.{HoldsCode, CanRenew, HasShown, IsOlder, Prepares, Arrives, IsPosted, HasBegun}
use Rattle.node_calls.specs.Installing.{IsUnverified, IsNoNewer, Incoming, IsInstallable, InstallsBytes, IsReadAs, Refuses, InstallGives}
use Rattle.node_calls.specs.declared.installing.InstallFault.{InstallFault}
use Rattle.node_calls.specs.declared.installing.InstallFault.TheVariants.{NotNewer, Code as CodeFault, Capsule as CapsuleRefused}
use Rattle.node_calls.specs.Posting.{PostGives}
use Rattle.node_calls.proofs.QuietLemmas.{RestsAgain-then, RestsAgain-as}
use Rattle.node_calls.proofs.EraLemmas.{BeginsEra, RestsAgain-era, seen-last, told-one}
use Rattle.mate_journal.specs.OpenLog.{OpenView}

-- ---- from bytes to code

-- the verified code is what the bytes decode to
decoded-with : (code : Code) (found : Code) (marks : Marks) (o : Result Marks VerifyFault) → result_map {B = Code × Marks} (λ marks. (found, marks)) o ≡ Ok (code, marks) → found ≡ code
decoded-with code found marks (Ok m) e = let f : (found, m) ≡ (code, marks) = cc in ap (λ (p : Code × Marks). p.0) f
decoded-with code found marks (Err refusal) e = cc

decoded-of : (shape : Shape) (code : Code) (marks : Marks) (o : Result Code DecodeFault) → of_decoded shape o ≡ Ok (code, marks) → result_unwrap_or o [] ≡ code
decoded-of shape code marks (Ok found) e = decoded-with code found marks (verification shape found) e
decoded-of shape code marks (Err (BadOpcode place)) e = cc
decoded-of shape code marks (Err (CutShort place)) e = cc

decoded-if : (b : Bool) (n : ℕ) (shape : Shape) (code : Code) (marks : Marks) (o : Result Code DecodeFault) → cond b (Err (TooLong n)) (of_decoded shape o) ≡ Ok (code, marks) → result_unwrap_or o [] ≡ code
decoded-if true n shape code marks o e = cc
decoded-if false n shape code marks o e = decoded-of shape code marks o e

-- ---- one program changes

-- what is held is set at one handler
held-set : (programs : List (Option Held)) (h : HandlerId) (x : Held) → h.0 < length programs → held_at (set programs h.0 (Some x)) h ≡ Some x
held-set programs h x below = get_or-set_same programs h.0 (Some x) None below

held-other : (programs : List (Option Held)) (h k : HandlerId) (x : Held) → k.0 ≢ h.0 → held_at (set programs h.0 (Some x)) k ≡ held_at programs k
held-other programs h k x other = get_or-set_other programs h.0 k.0 (Some x) None other

same_handler : (h k : HandlerId) → k.0 ≡ h.0 → k ≡ h
same_handler h k e = ap (λ (n : ℕ). let j : HandlerId = record { 0 = n } in j) e

-- what is heard to be installed after it
abbrev pub installed_with : (HandlerId → Option HeldProgram) → HeldProgram → HandlerId → Option HeldProgram
installed_with installed p k = cond (eqb k.0 p.handler.0) (Some p) (installed k)

pub AreInstalled-with : (d : Description) (installed : HandlerId → Option HeldProgram) (programs : List (Option Held)) (h : HandlerId) (x : Held) → AreInstalled d installed (held_at programs) → IsHeld d x → h.0 < length programs
    → AreInstalled d (installed_with installed (program_of h x)) (held_at (set programs h.0 (Some x)))
AreInstalled-with d installed programs h x before held_now below = record { each = λ k y is. each k y is (eqb_tells k.0 h.0); same = λ k. same k (eqb_tells k.0 h.0) } where
  each : (k : HandlerId) (y : Held) → held_at (set programs h.0 (Some x)) k ≡ Some y → ((eqb k.0 h.0 ≡ true) × (k.0 ≡ h.0)) ⊎ ((eqb k.0 h.0 ≡ false) × (k.0 ≢ h.0)) → IsHeld d y
  each k y is (inl t) =
      let P : HandlerId → Type 0 = λ j. held_at (set programs h.0 (Some x)) j ≡ Some y in
      let f : Some x ≡ Some y = sym (held-set programs h x below) ∙ subst P (same_handler h k t.1) is in
      let e : x ≡ y = cc in
      let Q : Held → Type 0 = λ z. IsHeld d z in
      subst Q e held_now
  each k y is (inr u) = before.each k y (sym (held-other programs h k x u.1) ∙ is)

  same : (k : HandlerId) → ((eqb k.0 h.0 ≡ true) × (k.0 ≡ h.0)) ⊎ ((eqb k.0 h.0 ≡ false) × (k.0 ≢ h.0)) → installed_with installed (program_of h x) k ≡ option_map (program_of k) (held_at (set programs h.0 (Some x)) k)
  same k (inl t) =
      let P : HandlerId → Type 0 = λ j. Some (program_of h x) ≡ option_map (program_of j) (held_at (set programs h.0 (Some x)) j) in
      ap (λ (b : Bool). cond b (Some (program_of h x)) (installed k)) t.0
      ∙ subst P (sym (same_handler h k t.1)) (ap (λ (o : Option Held). option_map (program_of h) o) (sym (held-set programs h x below)))
  same k (inr u) =
      ap (λ (b : Bool). cond b (Some (program_of h x)) (installed k)) u.0
      ∙ before.same k
      ∙ ap (λ (o : Option Held). option_map (program_of k) o) (sym (held-other programs h k x u.1))

-- ---- an era begins with the program

pub BeginsEra-install : (d : Description) (r : NodeState) (p : HeldProgram) → BeginsEra d r (Installed p)
BeginsEra-install d r p = record {
  serial = refl;
  cuts = record { posts = refl; each = λ n. refl };
  follows = tt;
  ends = tt;
  shown = tt;
  granted = λ held last. held;
  before_era = refl;
  line = λ q. refl;
}

-- the log with one more image, and the entry that installs it
pub record IsInstalledIn (l : Log) (h : HandlerId) (version : ℕ) (image : ArrayVec ℕ) (at : Stamp) (after : Log) : Type 0 where
  pub entries : after.entries ≡ l.entries ++ record { stamp = at; entry = entry.Install h version (length l.images) } ∷ []
  pub images : after.images ≡ l.images ++ image ∷ []
  pub stores : after.stores ≡ l.stores

module _ (d : Description) (old new : Parts) (stamp : Stamp) (h : HandlerId) (x : Held) (rests : Rests d old) (timely : IsTimely stamp old.log.all) (seen : last_is_seen false (journal_of old.log.all) ≡ true) where
  abbrev keeps : Keeps d old
  keeps = rests.order.keeps

  abbrev before : Log
  before = record (old.log.all) { images = old.log.all.images ++ x.image ∷ [] }

  adds : AddsImage old.log.all x.image before
  adds = record { entries = refl; images = refl; stores = refl }

  prepared : IsPrepared old.log.all before
  prepared =
      record { journal = journal_of-add_image old.log.all x.image before (NamesInLog-numbered old.log.all keeps.tidy.numbered) adds; entries = refl }

  tidily : IsHeld d x → h.0 < length d.handlers.items → IsInstalledIn old.log.all h x.version x.image stamp new.log.all → AddsTidily d old.log.all (entry.Install h x.version (length old.log.all.images)) new.log.all
  tidily held_now of_machine is =
      let S : List Store → Type 0 = λ l. All (IsStoreOf d) l in
      let F : ArrayVec ℕ → Type 0 = λ image. 0 < length image.items in
      let I : List (ArrayVec ℕ) → Type 0 = λ l. All F l in
      record {
        in_range = of_machine;
        numbered = NumbersInOrder-install old.log.all new.log.all stamp h x.version x.image is.entries is.images is.stores;
        lengths = λ lengths. subst S (sym is.stores) lengths;
        full = λ full. record { full = subst I (sym is.images) (All-append F old.log.all.images (x.image ∷ []) full.full (All-cons F x.image [] held_now.full (All-nil F))) };
      }

  pub RestsAgain-installed : IsHeld d x → h.0 < length d.handlers.items → h.0 < length old.handlers.programs → AreIdle new.contexts → length new.contexts.seats ≡ length old.contexts.seats → new.heap ≡ zero_store (length d.shared.items) (length d.buffers.items) → new.posts ≡ old.posts
      → new.handlers.programs ≡ set old.handlers.programs h.0 (Some x) → IsInstalledIn old.log.all h x.version x.image stamp new.log.all → old.log.all.spare ≤ new.log.all.spare + 1
      → RestsAgain d old new stamp (λ told. told ≡ Installed (program_of h x) ∷ [])
  RestsAgain-installed held_now of_machine below idles seats zero posts set_now is room =
      let P : List (Option Held) → Type 0 = λ programs. AreInstalled d (installed_with (reading d old.log.all).installed (program_of h x)) (held_at programs) in
      RestsAgain-era d old new before stamp (entry.Install h x.version (length old.log.all.images)) (Installed (program_of h x)) rests timely (BeginsEra-install d (reading d old.log.all) (program_of h x)) seen idles seats zero posts
      (ap (λ (programs : List (Option Held)). length programs) set_now ∙ length-set old.handlers.programs h.0 (Some x) ∙ keeps.places)
      (subst P (sym set_now) (AreInstalled-with d (reading d old.log.all).installed old.handlers.programs h x keeps.installed held_now below))
      prepared (record { entries = is.entries; images = is.images; stores = is.stores })
      (ap (λ (image : ArrayVec ℕ). Installed (record { handler = h; version = x.version; image = image })) (get_or-append_seam old.log.all.images x.image [] (record { items = [] })))
      (tidily held_now of_machine is) room

-- what the handler holds now was told to be installed, and all is cleared
pub RestsAgain-begun : (d : Description) (h : HandlerId) (at_ : Stamp) (now : Parts) (a : Arrives d h at_ now) (held_now : Held) (pushed : OpenView) (new : Parts) → Some held_now ≡ held_at now.handlers.programs h
    → IsInstalledIn now.log.all h held_now.version held_now.image at_ pushed.all → now.log.all.spare ≤ pushed.all.spare + 1 → IsCleared d (record now { log = pushed }) new
    → RestsAgain d a.before new at_ (λ told. told ≡ Installed (program_of h a.x) ∷ [])
RestsAgain-begun d h at_ now a held_now pushed new holds is room cleared =
    let log_is : now.log ≡ a.before.log = ap (λ (s : Parts). s.log) a.has_come in
    let programs : now.handlers.programs ≡ set a.before.handlers.programs h.0 (Some a.x) = ap (λ (s : Parts). s.handlers.programs) a.has_come in
    let below : h.0 < length a.before.handlers.programs = (let places = a.rests.order.keeps.places in let h_is = a.handler in omega (arith, places, h_is)) in
    let some : Some held_now ≡ Some a.x = holds ∙ ap (λ (ps : List (Option Held)). held_at ps h) programs ∙ held-set a.before.handlers.programs h a.x below in
    let same : held_now ≡ a.x = cc in
    let X : Held → Type 0 = λ y. IsInstalledIn now.log.all h y.version y.image at_ pushed.all in
    let L : OpenView → Type 0 = λ l. IsInstalledIn l.all h a.x.version a.x.image at_ pushed.all in
    let N : OpenView → Type 0 = λ l. IsInstalledIn a.before.log.all h a.x.version a.x.image at_ l.all in
    let R : OpenView → Type 0 = λ l. a.before.log.all.spare ≤ l.all.spare + 1 in
    let S : OpenView → Type 0 = λ l. l.all.spare ≤ pushed.all.spare + 1 in
    let pushed_is : new.log ≡ pushed = ap (λ (s : Parts). s.log) cleared.same in
    RestsAgain-installed d a.before new at_ h a.x a.rests a.timely a.seen a.is_held a.handler below cleared.idle (cleared.seats ∙ ap (λ (s : Parts). length s.contexts.seats) a.has_come) cleared.zero
    (ap (λ (s : Parts). s.posts) cleared.same ∙ ap (λ (s : Parts). s.posts) a.has_come)
    (ap (λ (s : Parts). s.handlers.programs) cleared.same ∙ programs)
    (subst N (sym pushed_is) (subst L log_is (subst X same is)))
    (subst R (sym pushed_is) (subst S log_is room))

-- whatever came, the handler holds it
arrived-holds : (d : Description) (h : HandlerId) (at_ : Stamp) (now : Parts) (a : Arrives d h at_ now) → held_at now.handlers.programs h ≡ Some a.x
arrived-holds d h at_ now a =
    let programs : now.handlers.programs ≡ set a.before.handlers.programs h.0 (Some a.x) = ap (λ (s : Parts). s.handlers.programs) a.has_come in
    let below : h.0 < length a.before.handlers.programs = (let places = a.rests.order.keeps.places in let h_is = a.handler in omega (arith, places, h_is)) in
    ap (λ (ps : List (Option Held)). held_at ps h) programs ∙ held-set a.before.handlers.programs h a.x below

pub arrived-some : (d : Description) (h : HandlerId) (at_ : Stamp) (now : Parts) → Arrives d h at_ now → None ≡ held_at now.handlers.programs h → ⊥
arrived-some d h at_ now a none = let e : None ≡ Some a.x = none ∙ arrived-holds d h at_ now a in cc

-- ---- versions

-- what is held is what was heard
pub held-version : (d : Description) (s : Parts) (h : HandlerId) → Rests d s → held (reading d s.log.all) h ≡ held_version_in (held_at s.handlers.programs h)
held-version d s h rests = ap (version h) (rests.order.keeps.installed.same h) ∙ by (held_at s.handlers.programs h) where
  version : HandlerId → Option HeldProgram → ℕ
  version k o = held (record (reading d s.log.all) { installed = λ _. o }) k

  by : (o : Option Held) → version h (option_map (program_of h) o) ≡ held_version_in o
  by None = refl
  by (Some x) = refl

-- ---- what the bytes are

-- the image's code stands behind its first 16 bytes
code-behind : (c : CapsuleParts) → drop 16 (capsule_image c) ≡ c.code
code-behind c = refl

-- a list that begins is not empty
begins-some : (x : ℕ) (xs ys : List ℕ) → ys ≡ x ∷ xs → 0 < length ys
begins-some x xs ys is = let e = ap length is in omega arith

pub IsInstallable-from : (d : Description) (bytes : List ℕ) (c : CapsuleRef) (v : VerifiedCode) (locks : LockSet) (image : ArrayVec ℕ) → capsule_in d bytes ≡ Ok (parts_in_place c) → bytes ≡ capsule_image (parts_in_place c) → IsOfMachine d (parts_in_place c)
    → IsVerificationOf (shape_of d) c.code.now v → AreLocksOf (shape_of d) v.code locks → image.items ≡ bytes
    → IsInstallable d bytes (record { handler = c.handler; held = record { version = c.version; image = image; code = v; locks = locks } })
unfolding image_code
IsInstallable-from d bytes c v locks image decoded_is image_is of_machine is_of are_locks same =
    let S : Shape → Type 0 = λ shape. bytes_verification shape v.bytes ≡ Ok (v.code, marks_of v) in
    let B : List ℕ → Type 0 = λ bs. bytes_verification (shape_of d) bs ≡ Ok (v.code, marks_of v) in
    let accepted : bytes_verification (shape_of d) c.code.now ≡ Ok (v.code, marks_of v) = subst B is_of.bytes_are (subst S is_of.shape_is is_of.is_verified.accepted) in
    let behind : drop 16 image.items ≡ c.code.now = ap (drop 16) (same ∙ image_is) ∙ code-behind (parts_in_place c) in
    let code_is : v.code ≡ image_code (shape_of d) image =
    sym (decoded-if (nat_lt CODE_MAX (length c.code.now)) (length c.code.now) (shape_of d) v.code (marks_of v) (decoded (table_of (shape_of d)) c.code.now) accepted)
    ∙ ap (λ (bs : List ℕ). result_unwrap_or (decoded (table_of (shape_of d)) bs) []) (sym behind) in
    let long = ap length (same ∙ image_is) in
    let some : 0 < length (capsule_image (parts_in_place c)) = begins-some _ _ (capsule_image (parts_in_place c)) refl in
    let full : 0 < length image.items = omega arith in
    let L : Code → Type 0 = λ code. AreLocksOf (shape_of d) code locks in
    record {
      capsule = parts_in_place c;
      right = record { decoded = decoded_is; code = v.code; marks = marks_of v; verified = accepted };
      is_held = record { shape = is_of.shape_is; code = code_is; verified = is_of.is_verified; locks_are = subst L code_is are_locks; version_is = c.numbered; full = full };
      program = ap (λ (bs : List ℕ). let p : HeldProgram = record { handler = c.handler; version = c.version; image = record { items = bs } } in p) same;
      handler = of_machine.handler;
    }

-- what is read in place
pub IsReadAs-from : (d : Description) (bytes : List ℕ) (r : Result CapsuleRef CapsuleFault) (c : CapsuleRef) → r ≡ Ok c → GivesInPlace r (capsule_in d bytes) → IfOk r (λ x. (bytes ≡ capsule_image (parts_in_place x)) × IsOfMachine d (parts_in_place x)) → IsReadAs d bytes c
IsReadAs-from d bytes r c is value image =
    let P : Result CapsuleRef CapsuleFault → Type 0 = λ x. GivesInPlace x (capsule_in d bytes) in
    let Q : Result CapsuleRef CapsuleFault → Type 0 = λ x. IfOk x (λ y. (bytes ≡ capsule_image (parts_in_place y)) × IsOfMachine d (parts_in_place y)) in
    let image_now = subst Q is image in
    record { decoded = subst P is value; image = image_now.0; of_machine = image_now.1 }

-- one whose code another program has: what was verified of that one holds of it
abbrev pub alike : CapsuleRef → List ℕ → Held → Held
alike c bytes y = record y { version = c.version; image = record { items = bytes } }

pub IsInstallable-alike : (d : Description) (bytes : List ℕ) (c : CapsuleRef) (y : Held) → IsHeld d y → IsReadAs d bytes c → y.code.bytes ≡ c.code.now → IsInstallable d bytes (record { handler = c.handler; held = alike c bytes y })
IsInstallable-alike d bytes c y right read same =
    let L : Code → Type 0 = λ code. AreLocksOf (shape_of d) code y.locks in
    let of_code : IsVerificationOf (shape_of d) c.code.now y.code = record { shape_is = right.shape; bytes_are = same; is_verified = right.verified } in
    IsInstallable-from d bytes c y.code y.locks (record { items = bytes }) read.decoded read.image read.of_machine of_code (subst L (sym right.code) right.locks_are) refl

-- the bytes fit an image
pub image-fits : (d : Description) (bytes : List ℕ) (c : CapsuleRef) → IsReadAs d bytes c → length bytes ≤ IMAGE_MAX
image-fits d bytes c read = let long = ap length read.image in let code = c.fits in omega (arith, long, code)

-- one whose code the handler holds
pub CanRenew-known : (d : Description) (s : Parts) (bytes : List ℕ) (c : CapsuleRef) → Rests d s → IsReadAs d bytes c → HoldsCode (held_at s.handlers.programs c.handler) c.code.now → CanRenew d bytes s c.handler c.version
CanRenew-known d s bytes c rests read known = by (held_at s.handlers.programs c.handler) refl known where
  by : (o : Option Held) → held_at s.handlers.programs c.handler ≡ o → HoldsCode o c.code.now → CanRenew d bytes s c.handler c.version
  by (Some y) is holds =
      let right : IsHeld d y = rests.order.keeps.installed.each c.handler y is in
      record {
        x = alike c bytes y;
        after = ap (λ (o : Option Held). renewed c.version (record { items = bytes }) o) is;
        version_is = refl;
        fits = image-fits d bytes c read;
        can = IsInstallable-alike d bytes c y right read holds;
      }
  by None is holds = absurd holds

-- the code is refused
pub IsUnverified-from : (d : Description) (bytes code : List ℕ) (c : CapsuleRef) (fault : VerifyFault) → capsule_in d bytes ≡ Ok (parts_in_place c) → code ≡ c.code.now → bytes_verification (shape_of d) code ≡ Err fault → IsUnverified d bytes fault
IsUnverified-from d bytes code c fault decoded_is same refused =
    let B : List ℕ → Type 0 = λ bs. bytes_verification (shape_of d) bs ≡ Err fault in
    record { capsule = parts_in_place c; decoded = decoded_is; refused = subst B same refused }

-- ---- the whole install

-- what is heard after more was told
reading-grows : (d : Description) (old new : Log) (at_ : Stamp) (told : List JournalEntry) → Grows old new at_ told → reading d new ≡ state_after_all (machine_in d) (reading d old) (map (event_at at_) told)
unfolding reading
reading-grows d old new at_ told grows =
    ap (state_after_all (machine_in d) (first_state (machine_in d))) grows.journal ∙ heard_all-append (machine_in d) (first_state (machine_in d)) (journal_of old) (map (event_at at_) told)

Occasion-gives : (m : Machine) (r : NodeState) (h : HandlerId) (payload : ArrayVec ℤ) (answer : PostAnswer) (told : List JournalEntry) → PostGives m r h payload answer told → Occasion m r h payload told
Occasion-gives m r h payload (PostedAnswer inv) told gives = inr (inr gives.1)
Occasion-gives m r h payload NoCode told gives = inl gives
Occasion-gives m r h payload AllBusy told gives = inr (inl gives)

module _ (d : Description) (old mid next : Parts) (at_ : Stamp) (bytes : List ℕ) (i : Incoming) (can : IsInstallable d bytes i) (newer : held (reading d old.log.all) i.handler < i.held.version) (seen : TellsStore d old mid at_)
    (begun_ : RestsAgain d mid next at_ (λ told. told ≡ Installed (program_of i.handler i.held) ∷ [])) where
  abbrev m : Machine
  m = machine_in d

  abbrev r : NodeState
  r = reading d old.log.all

  abbrev p : HeldProgram
  p = program_of i.handler i.held

  -- the store, and the install
  both : RestsAgain d old next at_ (λ told. told ≡ Seen old.heap ∷ Installed p ∷ [])
  both =
      RestsAgain-then d old mid next at_ (λ told. told ≡ Seen old.heap ∷ []) (λ told. told ≡ Installed p ∷ []) (λ told. told ≡ Seen old.heap ∷ Installed p ∷ []) seen.again begun_
      (λ xs ys e f. ap (λ (l : List JournalEntry). l ++ ys) e ∙ ap (λ (l : List JournalEntry). Seen old.heap ∷ l) f)

  heard-next : reading d next.log.all ≡ next_state m r (Installed p)
  heard-next = reading-grows d old.log.all next.log.all at_ both.adds.told both.adds.grows ∙ ap (λ (ts : List JournalEntry). state_after_all m r (map (event_at at_) ts)) both.adds.made

  -- what is after the install, if the handler runs once or doesn't
  abbrev Follows : Bool → List JournalEntry → Type 0
  Follows b rest = MatchBool b (Occasion m (next_state m r (Installed p)) i.handler (record { items = [] }) rest) (rest ≡ [])

  installs : (rest told : List JournalEntry) → told ≡ Seen old.heap ∷ Installed p ∷ rest → Follows (m.runs_once i.handler) rest
      → AtPace d old (InstallsBytes d r bytes) told
  installs rest told made follows pace has =
      let P : HeldProgram → Type 0 = λ x. Installs m r pace x told in
      record {
        capsule = can.capsule;
        right = can.right;
        installs = subst P can.program (record { seen = old.heap; rest = rest; shown = seen.shown pace has; newer = newer; made = made; follows = follows });
      }

  -- a handler that doesn't run once
  pub RestsAgain-once_none : m.runs_once i.handler ≡ false → RestsAgain d old next at_ (AtPace d old (InstallsBytes d r bytes))
  RestsAgain-once_none never =
      RestsAgain-as d old next at_ (λ told. told ≡ Seen old.heap ∷ Installed p ∷ []) (AtPace d old (InstallsBytes d r bytes)) both
      (λ told made. installs [] told made (subst (λ (b : Bool). Follows b []) (sym never) refl))

  -- one that does
  pub RestsAgain-once : (new : Parts) (payload : ArrayVec ℤ) (answer : PostAnswer) → m.runs_once i.handler ≡ true → payload.items ≡ [] → RestsAgain d next new at_ (PostGives m (reading d next.log.all) i.handler payload answer)
      → RestsAgain d old new at_ (AtPace d old (InstallsBytes d r bytes))
  RestsAgain-once new payload answer always empty posted =
      RestsAgain-then d old next new at_ (λ told. told ≡ Seen old.heap ∷ Installed p ∷ []) (PostGives m (reading d next.log.all) i.handler payload answer) (AtPace d old (InstallsBytes d r bytes)) both posted
      (λ xs ys e gives.
      (let Q : NodeState → Type 0 = λ q. PostGives m q i.handler payload answer ys in
      let O : List ℤ → Type 0 = λ values. Occasion m (next_state m r (Installed p)) i.handler (record { items = values }) ys in
      installs ys (xs ++ ys) (ap (λ (l : List JournalEntry). l ++ ys) e)
      (subst (λ (b : Bool). Follows b ys) (sym always) (subst O empty (Occasion-gives m (next_state m r (Installed p)) i.handler payload answer ys (subst Q heard-next gives))))))

-- ---- refusals

-- an older capsule, or one of the same version
pub IsNoNewer-from : (d : Description) (s : Parts) (bytes : List ℕ) (i : Incoming) (version : ℕ) → Rests d s → IsInstallable d bytes i → version ≡ held_version_in (held_at s.handlers.programs i.handler) → i.held.version ≤ version → IsNoNewer d (reading d s.log.all) bytes version
IsNoNewer-from d s bytes i version rests can version_is older =
    let H : HeldProgram → Type 0 = λ p. version ≡ held (reading d s.log.all) p.handler in
    let O : HeldProgram → Type 0 = λ p. p.version ≤ held (reading d s.log.all) p.handler in
    let same : version ≡ held (reading d s.log.all) i.handler = version_is ∙ sym (held-version d s i.handler rests) in
    record { capsule = can.capsule; right = can.right; held_is = subst H can.program same; older = subst O can.program (omega arith) }

-- a newer one
pub newer-than : (d : Description) (s : Parts) (i : Incoming) (version : ℕ) → Rests d s → version ≡ held_version_in (held_at s.handlers.programs i.handler) → version < i.held.version → held (reading d s.log.all) i.handler < i.held.version
newer-than d s i version rests version_is above = let same = held-version d s i.handler rests in omega arith

-- ---- a program that comes

module _ (d : Description) (old mid : Parts) (at_ : Stamp) (bytes : List ℕ) (i : Incoming) (version : ℕ) (rests : Rests d old) (can : IsInstallable d bytes i) (version_is : i.held.version ≡ version) where
  -- it is refused
  pub Refuses-older : (fault : InstallFault) → IsOlder old i.handler version fault × (mid ≡ old) → Refuses d (reading d old.log.all) bytes fault × (mid ≡ old)
  Refuses-older (NotNewer held_) is = (IsNoNewer-from d old bytes i held_ rests can is.0.0 (let older = is.0.1 in omega (arith, older, version_is)), is.1)
  Refuses-older (CapsuleRefused fault) is = absurd is.0
  Refuses-older (CodeFault fault) is = absurd is.0

  module _ (shown : HasShown d old mid i.handler version at_) where
    pub shown-places : i.handler.0 < length mid.handlers.programs
    shown-places =
        let same = ap (λ (s : Parts). length s.handlers.programs) shown.tells.same in
        let places = rests.order.keeps.places in
        let below = can.handler in
        omega (arith, same, places, below)

    -- there is room for it
    pub shown-room : HasOwnRoom old.handlers → i.handler.0 < mid.handlers.room
    shown-room room =
        let same = ap (λ (s : Parts). s.handlers.room) shown.tells.same in
        let places = rests.order.keeps.places in
        let below = can.handler in
        omega (arith, same, places, below, room)

    -- it has come
    pub Arrives-shown : (now : Parts) → 4 ≤ old.log.all.spare → length old.log.all.entries < 4000000000 → now ≡ record mid { handlers = record (mid.handlers) { programs = set mid.handlers.programs i.handler.0 (Some i.held) } } → Arrives d i.handler at_ now
    Arrives-shown now room few has_come =
        let seen = shown.tells.again.adds in
        let one = told-one old.log.all mid.log.all at_ seen.told _ seen.grows seen.made in
        record {
          before = mid;
          x = i.held;
          rests = shown.tells.again.rests;
          timely = seen.grows.timely;
          room = omega (arith, one.1, room);
          few = omega (arith, one.0, few);
          seen = seen-last old.log.all mid.log.all at_ seen.told old.heap seen.grows seen.made;
          is_held = can.is_held;
          handler = can.handler;
          has_come = has_come;
        }

    -- its era has begun
    pub InstallGives-begun : (now new : Parts) → 4 ≤ old.log.all.spare → length old.log.all.entries < 4000000000 → now ≡ record mid { handlers = record (mid.handlers) { programs = set mid.handlers.programs i.handler.0 (Some i.held) } }
        → ((a : Arrives d i.handler at_ now) → HasBegun d a.before new i.handler a.x at_) → RestsAgain d old new at_ (AtPace d old (InstallsBytes d (reading d old.log.all) bytes))
    unfolding Arrives-shown
    InstallGives-begun now new room few has_come begun_by = by ((machine_in d).runs_once i.handler) refl begins.follows where
      begins : HasBegun d mid new i.handler i.held at_
      begins = begun_by (Arrives-shown now room few has_come)

      newer : held (reading d old.log.all) i.handler < i.held.version
      newer = newer-than d old i _ rests refl (let above = shown.newer in omega (arith, above, version_is))

      by : (b : Bool) → (machine_in d).runs_once i.handler ≡ b → MatchBool b (IsPosted d begins.next new i.handler at_) (new ≡ begins.next) → RestsAgain d old new at_ (AtPace d old (InstallsBytes d (reading d old.log.all) bytes))
      by true once posted = RestsAgain-once d old mid begins.next at_ bytes i can newer shown.tells begins.begun new posted.payload posted.answer once posted.empty posted.again
      by false once same =
          let P : Parts → Type 0 = λ s. RestsAgain d old s at_ (AtPace d old (InstallsBytes d (reading d old.log.all) bytes)) in
          subst P (sym same) (RestsAgain-once_none d old mid begins.next at_ bytes i can newer shown.tells begins.begun once)
