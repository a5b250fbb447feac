-- The reader keeps what it needs of the bytes of a frame.
use Rattle.std.proofs.Common.{◌≡◌, ◌≢◌, ℕ, ◌+◌, ◌<◌, ◌≤◌, Bool, true, false, List, [], ◌∷◌, ◌++◌, length, take, drop, get_or, Option, Some, None, refl, ap, sym, ◌∙◌, subst, arith, append_assoc, suc, add-one, not, inl, inr}
use Rattle.std.specs.Prelude.{◌==◌, if◌then◌else◌, option_to_list, count_by, cond, IsTrue, ◌↔◌, ◌⊎◌}
use Rattle.std.specs.List.{flat_map}
use Rattle.std.proofs.lemmas.Bool.{eqb-true, lt-leb, le-leb, eq-eqb, ne_eqb}
use Rattle.std.proofs.lemmas.List.Concat.{flat_map-cons}
use Rattle.std.proofs.lemmas.List.Sums.{sum_by-append}
use Rattle.std.proofs.Math.Seq.{drop-cons}
use Rattle.std.proofs.lemmas.List.{append-nil, take_more, take_all}
use Rattle.std.proofs.lemmas.List.{length-append}
use Rattle.arrayvec.specs.ArrayVec.{ArrayVec}
use Rattle.mate_num.specs.declared.bounds.TheConstants.{IMAGE_MAX}
use Rattle.slip_gateway.specs.Stream.{is_end_byte, with_byte, unescaped, whole_frame, framed, frame_of, rest_behind, unfinished, frames_behind, frames}
use Rattle.slip_gateway.specs.Fed.{fresh_slip, is_nil, is_fresh_in, is_fresh, added, replaced, pushed, frame_given, frame_left, unescaped_in, framed_behind, IsBehind, HasFed}
use Rattle.slip_gateway.specs.Pieces.{frame_at, IsWholeFrame}
use Rattle.slip_gateway.proofs.StreamLemmas.{rest_behind-append, frames_behind-append, rest-append, frames-append}
use Rattle.slip_gateway.specs.declared.frames.Frame.{Frame}
use Rattle.slip_gateway.specs.declared.frames.Frame.TheVariants as frame
use Rattle.slip_gateway.specs.declared.slip.Slip.{Slip}
use Rattle.slip_gateway.specs.declared.slip.Escapes.{Escapes}
use Rattle.slip_gateway.specs.declared.slip.Escapes.TheVariants.{Whole, Open, Broken}
use Rattle.slip_gateway.specs.declared.slip.TheConstants.{END, ESC, ESC_END, ESC_ESC}

-- a reader of these parts
abbrev of : ArrayVec ℕ → Bool → Escapes → Slip
of image long escapes = record { image = image; too_long = long; escapes = escapes }

-- what a reader gives behind more bytes
abbrev behind : Slip → List ℕ → Frame
behind s more = framed_behind s.too_long s.image.items (unescaped_in s.escapes more)

whole-long : (bs : List ℕ) → IMAGE_MAX < length bs → whole_frame bs ≡ frame.TooLong
whole-long bs h = ap (λ (t : Bool). if t then frame.Whole (record { items = bs }) else frame.TooLong) (lt-leb (length bs) IMAGE_MAX h)

whole-short : (bs : List ℕ) → length bs ≤ IMAGE_MAX → whole_frame bs ≡ frame.Whole (record { items = bs })
whole-short bs h = ap (λ (t : Bool). if t then frame.Whole (record { items = bs }) else frame.TooLong) (le-leb (length bs) IMAGE_MAX h)

full_image : (image more : List ℕ) (b : ℕ) → length image ≡ IMAGE_MAX → whole_frame (image ++ b ∷ more) ≡ frame.TooLong
full_image image more b e = whole-long (image ++ b ∷ more) (let h = length-append image (b ∷ more) in omega arith)

-- an added byte stands before what follows
framed_added : (image : List ℕ) (long : Bool) (b : ℕ) (o : Option (List ℕ)) → framed_behind long (image ++ b ∷ []) o ≡ framed_behind long image (with_byte b o)
framed_added image long b None = refl
framed_added image true b (Some more) = refl
framed_added image false b (Some more) = ap whole_frame (append_assoc image (b ∷ []) more)

framed_full : (image : List ℕ) (long : Bool) (b : ℕ) (o : Option (List ℕ)) → length image ≡ IMAGE_MAX → framed_behind true image o ≡ framed_behind long image (with_byte b o)
framed_full image long b None e = refl
framed_full image true b (Some more) e = refl
framed_full image false b (Some more) e = sym (full_image image more b e)

behind-added : (image : ArrayVec ℕ) (long : Bool) (b : ℕ) (more : List ℕ)
    → behind (added (of image long Whole) b) more ≡ framed_behind long image.items (with_byte b (unescaped false more))
behind-added image long b more = by (length image.items == IMAGE_MAX) refl where
  by : (t : Bool) → (length image.items == IMAGE_MAX) ≡ t
      → behind (if t then of image true Whole else of (record { items = image.items ++ b ∷ [] }) long Whole) more
      ≡ framed_behind long image.items (with_byte b (unescaped false more))
  by true e = framed_full image.items long b (unescaped false more) (eqb-true (length image.items) IMAGE_MAX e)
  by false e = framed_added image.items long b (unescaped false more)

behind-replaced : (image : ArrayVec ℕ) (long : Bool) (b : ℕ) (more : List ℕ)
    → behind (replaced (of image long Open) b) more ≡ framed_behind long image.items (unescaped true (b ∷ more))
behind-replaced image long b more = by (b == ESC_END) (b == ESC_ESC) where
  by : (t u : Bool) → behind (if t then added (of image long Whole) END else if u then added (of image long Whole) ESC else of image long Broken) more
      ≡ framed_behind long image.items (if t then with_byte END (unescaped false more) else if u then with_byte ESC (unescaped false more) else None)
  by true u = behind-added image long END more
  by false true = behind-added image long ESC more
  by false false = refl

behind-pushed : (image : ArrayVec ℕ) (long : Bool) (escapes : Escapes) (b : ℕ) (more : List ℕ)
    → behind (pushed (of image long escapes) b) more ≡ behind (of image long escapes) (b ∷ more)
behind-pushed image long Whole b more = by (b == ESC) where
  by : (t : Bool) → behind (if t then of image long Open else added (of image long Whole) b) more
      ≡ framed_behind long image.items (if t then unescaped true more else with_byte b (unescaped false more))
  by true = refl
  by false = behind-added image long b more
behind-pushed image long Open b more = behind-replaced image long b more
behind-pushed image long Broken b more = refl

-- a byte of the frame was read, so it isn't fresh
begun_added : (image : ArrayVec ℕ) (long : Bool) (b : ℕ) → is_fresh (added (of image long Whole) b) ≡ false
begun_added image long b = by (length image.items == IMAGE_MAX) refl where
  some : (xs : List ℕ) → length xs ≡ IMAGE_MAX → is_nil xs ≡ false
  some [] e = absurd (omega (arith, e))
  some (x ∷ xs) e = refl

  pushed_some : (xs : List ℕ) → is_nil (xs ++ b ∷ []) ≡ false
  pushed_some [] = refl
  pushed_some (x ∷ xs) = refl

  by : (t : Bool) → (length image.items == IMAGE_MAX) ≡ t → is_fresh (if t then of image true Whole else of (record { items = image.items ++ b ∷ [] }) long Whole) ≡ false
  by true e = some image.items (eqb-true (length image.items) IMAGE_MAX e)
  by false e = pushed_some image.items

begun_pushed : (image : ArrayVec ℕ) (long : Bool) (escapes : Escapes) (b : ℕ) → is_fresh (pushed (of image long escapes) b) ≡ false
begun_pushed image long Whole b = by (b == ESC) where
  by : (t : Bool) → is_fresh (if t then of image long Open else added (of image long Whole) b) ≡ false
  by true = refl
  by false = begun_added image long b
begun_pushed image long Open b = by (b == ESC_END) (b == ESC_ESC) where
  by : (t u : Bool) → is_fresh (if t then added (of image long Whole) END else if u then added (of image long Whole) ESC else of image long Broken) ≡ false
  by true u = begun_added image long END
  by false true = begun_added image long ESC
  by false false = refl
begun_pushed image long Broken b = refl

is_nil-push : (xs : List ℕ) (b : ℕ) → is_nil (xs ++ b ∷ []) ≡ false
is_nil-push [] b = refl
is_nil-push (x ∷ xs) b = refl

pub IsBehind-pushed : (s : Slip) (begun : List ℕ) (b : ℕ) → IsBehind s begun → IsBehind (pushed s b) (begun ++ b ∷ [])
IsBehind-pushed s begun b h =
    record {
      gives = λ more.
          behind-pushed s.image s.too_long s.escapes b more ∙ h.gives (b ∷ more)
          ∙ ap (λ (bs : List ℕ). framed (unescaped false bs)) (sym (append_assoc begun (b ∷ []) more));
      starts = begun_pushed s.image s.too_long s.escapes b ∙ sym (is_nil-push begun b);
    }

pub IsBehind-fresh : IsBehind fresh_slip []
IsBehind-fresh = record { gives = λ more. framed_fresh (unescaped false more); starts = refl } where
  framed_fresh : (o : Option (List ℕ)) → framed_behind false [] o ≡ framed o
  framed_fresh None = refl
  framed_fresh (Some bs) = refl

-- ---- the end of a frame

-- what the reader gives is what it would give with nothing behind
given-behind : (image : ArrayVec ℕ) (long : Bool) (escapes : Escapes) → length image.items ≤ IMAGE_MAX → frame_given escapes long image.items ≡ behind (of image long escapes) []
given-behind image true Whole h = refl
given-behind image false Whole h =
    sym (ap whole_frame (append-nil image.items) ∙ whole-short image.items h)
given-behind image long Open h = refl
given-behind image long Broken h = refl

-- and so what it gives is the frame of the bytes that it read
pub ended : (s : Slip) (begun : List ℕ) → length s.image.items ≤ IMAGE_MAX → IsBehind s begun → frame_given s.escapes s.too_long s.image.items ≡ frame_at begun
ended s begun fits h =
    given-behind s.image s.too_long s.escapes fits ∙ h.gives [] ∙ ap (λ (bs : List ℕ). framed (unescaped false bs)) (append-nil begun)

-- which is too long, whole or broken, by what the reader keeps
pub ends_long : (s : Slip) (begun : List ℕ) → length s.image.items ≤ IMAGE_MAX → s.escapes ≡ Whole → s.too_long ≡ true → IsBehind s begun → frame_at begun ≡ frame.TooLong
ends_long s begun fits escapes long h =
    sym (ended s begun fits h) ∙ ap (λ (e : Escapes). frame_given e s.too_long s.image.items) escapes ∙ ap (λ (l : Bool). frame_given Whole l s.image.items) long

pub ends_whole : (s : Slip) (begun bytes : List ℕ) → bytes ≡ s.image.items → length s.image.items ≤ IMAGE_MAX → s.escapes ≡ Whole → s.too_long ≡ false
    → IsBehind s begun → IsWholeFrame (frame_at begun) bytes
ends_whole s begun bytes is fits escapes long h =
    sym (ended s begun fits h) ∙ ap (λ (e : Escapes). frame_given e s.too_long s.image.items) escapes ∙ ap (λ (l : Bool). frame_given Whole l s.image.items) long
    ∙ ap (λ (bs : List ℕ). frame.Whole (record { items = bs })) (sym is)

pub ends_broken : (s : Slip) (begun : List ℕ) → length s.image.items ≤ IMAGE_MAX → (s.escapes ≡ Open) ⊎ (s.escapes ≡ Broken) → IsBehind s begun
    → frame_at begun ≡ frame.BadEscape
ends_broken s begun fits (inl begins) h = sym (ended s begun fits h) ∙ ap (λ (e : Escapes). frame_given e s.too_long s.image.items) begins
ends_broken s begun fits (inr broken) h = sym (ended s begun fits h) ∙ ap (λ (e : Escapes). frame_given e s.too_long s.image.items) broken

frame_of-begun : (begun : List ℕ) → is_nil begun ≡ false → frame_of begun ≡ framed (unescaped false begun) ∷ []
frame_of-begun [] e = absurd (cc)
frame_of-begun (b ∷ bs) e = refl

frame_of-nil : (begun : List ℕ) → is_nil begun ≡ true → frame_of begun ≡ []
frame_of-nil [] e = refl
frame_of-nil (b ∷ bs) e = absurd (cc)

pub frame_left-behind : (s : Slip) (begun : List ℕ) → length s.image.items ≤ IMAGE_MAX → IsBehind s begun → option_to_list (frame_left s) ≡ frame_of begun
frame_left-behind s begun fits h = by (is_fresh s) refl where
  by : (t : Bool) → is_fresh s ≡ t → option_to_list (if t then None else Some (frame_given s.escapes s.too_long s.image.items)) ≡ frame_of begun
  by true e = sym (frame_of-nil begun (sym h.starts ∙ e))
  by false e =
      ap (λ (f : Frame). f ∷ []) (ended s begun fits h)
      ∙ sym (frame_of-begun begun (sym h.starts ∙ e))

-- ---- reading bytes

-- a byte that is no END
pub reads_inner : (s new : Slip) (begun : List ℕ) (b : ℕ) (items : List Frame) → (b ≡ END → ⊥) → new ≡ pushed s b → IsBehind s begun
    → IsBehind new (rest_behind begun (b ∷ [])) × (items ≡ items ++ frames_behind begun (b ∷ []))
reads_inner s new begun b items ne is h =
    let P : Bool → Type 0 = λ t. IsBehind new (if t then [] else begun ++ b ∷ []) × (items ≡ items ++ flat_map frame_of (if t then begun ∷ [] else [])) in
    let Q : Slip → Type 0 = λ r. IsBehind r (begun ++ b ∷ []) in
    subst P (sym (ne_eqb b END ne)) (subst Q (sym is) (IsBehind-pushed s begun b h), sym (append-nil items))

-- an END
pub reads_end : (s new : Slip) (begun : List ℕ) (b : ℕ) (o : Option Frame) (items more : List Frame) → b ≡ END → new ≡ fresh_slip → o ≡ frame_left s
    → length s.image.items ≤ IMAGE_MAX → more ≡ items ++ option_to_list o → IsBehind s begun
    → IsBehind new (rest_behind begun (b ∷ [])) × (more ≡ items ++ frames_behind begun (b ∷ []))
reads_end s new begun b o items more e is left fits pushed h =
    let P : Bool → Type 0 = λ t. IsBehind new (if t then [] else begun ++ b ∷ []) × (more ≡ items ++ flat_map frame_of (if t then begun ∷ [] else [])) in
    let Q : Slip → Type 0 = λ r. IsBehind r [] in
    let one : flat_map frame_of (begun ∷ []) ≡ frame_of begun = flat_map-cons frame_of begun [] ∙ append-nil (frame_of begun) in
    subst P (sym (eq-eqb b END e)) (
      subst Q (sym is) IsBehind-fresh,
      pushed ∙ ap (λ (xs : List Frame). items ++ xs) (ap (λ (p : Option Frame). option_to_list p) left ∙ frame_left-behind s begun fits h ∙ sym one),
    )

-- what is read so far, and what the frames so far are
pub record HasRead (old new : Slip) (before after : List Frame) (bytes : List ℕ) : Type 0 where
  pub reads : (begun : List ℕ) → IsBehind old begun → IsBehind new (rest_behind begun bytes) × (after ≡ before ++ frames_behind begun bytes)

pub has_read_none : (s : Slip) (items : List Frame) → HasRead s s items items []
has_read_none s items = record { reads = λ begun h. (h, sym (append-nil items)) }

pub has_read_next : (old mid new : Slip) (before between after : List Frame) (piece : List ℕ) (i : ℕ) → i < length piece → HasRead old mid before between (take i piece)
    → ((begun : List ℕ) → IsBehind mid begun
    → IsBehind new (rest_behind begun (get_or piece i 0 ∷ [])) × (after ≡ between ++ frames_behind begun (get_or piece i 0 ∷ [])))
    → HasRead old new before after (take (i + 1) piece)
has_read_next old mid new before between after piece i within so_far step =
    record {
      reads = λ begun h.
          let b : ℕ = get_or piece i 0 in
          let front : List ℕ = take i piece in
          let middle : List ℕ = rest_behind begun front in
          let m : IsBehind mid middle × (between ≡ before ++ frames_behind begun front) = so_far.reads begun h in
          let n : IsBehind new (rest_behind middle (b ∷ [])) × (after ≡ between ++ frames_behind middle (b ∷ [])) = step middle m.0 in
          let taken : take (i + 1) piece ≡ front ++ b ∷ [] = take_more piece i 0 within in
          let P : List ℕ → Type 0 = λ p. IsBehind new p in (
            subst P (sym (ap (λ (p : List ℕ). rest_behind begun p) taken ∙ rest_behind-append begun front (b ∷ []))) n.0,
            n.1 ∙ ap (λ (xs : List Frame). xs ++ frames_behind middle (b ∷ [])) m.1
                ∙ append_assoc before (frames_behind begun front) (frames_behind middle (b ∷ []))
                ∙ sym (ap (λ (p : List ℕ). before ++ frames_behind begun p) taken ∙ ap (λ (xs : List Frame). before ++ xs) (frames_behind-append begun front (b ∷ []))),
          );
    }

pub has_read_all : (old new : Slip) (before after : List Frame) (piece : List ℕ) (i : ℕ) → length piece ≤ i → HasRead old new before after (take i piece)
    → HasRead old new before after piece
has_read_all old new before after piece i past h = let P : List ℕ → Type 0 = λ p. HasRead old new before after p in subst P (take_all i piece past) h

-- the frames that the rest closes, at most: those of the next byte, and those of the rest behind it
pub ends_next : (piece : List ℕ) (i : ℕ) → i < length piece → count_by is_end_byte (drop i piece) ≡ count_by is_end_byte (get_or piece i 0 ∷ []) + count_by is_end_byte (drop (i + 1) piece)
ends_next piece i within =
    rw add-one (ap (λ (p : List ℕ). count_by is_end_byte p) (drop-cons piece i 0 within)
    ∙ sum_by-append (λ b. cond (is_end_byte b) 1 0) (get_or piece i 0 ∷ []) (drop (suc i) piece))

-- ---- what was fed

pub HasFed-more : (old new : Slip) (before after : List Frame) (fed piece : List ℕ) → HasRead old new before after piece → HasFed old fed → HasFed new (fed ++ piece)
HasFed-more old new before after fed piece read h =
    let P : List ℕ → Type 0 = λ p. IsBehind new p in
    record { behind = subst P (sym (rest-append fed piece)) (read.reads (unfinished fed) h.behind).0 }

pub appends_closed : (old new : Slip) (before after : List Frame) (fed piece : List ℕ) → HasRead old new before after piece → HasFed old fed
    → after ≡ before ++ frames_behind (unfinished fed) piece
appends_closed old new before after fed piece read h = (read.reads (unfinished fed) h.behind).1

pub holds_frames : (old new : Slip) (before after : List Frame) (fed piece : List ℕ) → HasRead old new before after piece → HasFed old fed
    → before ≡ frames fed → after ≡ frames (fed ++ piece)
holds_frames old new before after fed piece read h e =
    appends_closed old new before after fed piece read h ∙ ap (λ (xs : List Frame). xs ++ frames_behind (unfinished fed) piece) e ∙ sym (frames-append fed piece)

begun_iff : (p : List ℕ) (t : Bool) → t ≡ not (is_nil p) → IsTrue t ↔ (p ≢ [])
begun_iff [] t e = (λ h. absurd (cc), λ ne. absurd (ne refl))
begun_iff (b ∷ bs) t e = (λ h. λ f. absurd (cc), λ ne. e)

pub unfinished_iff : (s : Slip) (fed : List ℕ) (t : Bool) → t ≡ not (is_fresh s) → HasFed s fed → IsTrue t ↔ (unfinished fed ≢ [])
unfinished_iff s fed t e h = begun_iff (unfinished fed) t (e ∙ ap not h.behind.starts)

-- ---- a byte at a time

-- behind the bytes of the stream, what a byte gives
pub fed_byte : (old new : Slip) (fed : List ℕ) (byte : ℕ) → ((begun : List ℕ) → IsBehind old begun → IsBehind new (rest_behind begun (byte ∷ []))) → HasFed old fed → HasFed new (fed ++ byte ∷ [])
fed_byte old new fed byte reads h = record { behind = subst (λ (p : List ℕ). IsBehind new p) (sym (rest-append fed (byte ∷ []))) (reads (unfinished fed) h.behind) }

pub frame_of_byte : (old : Slip) (closed : List Frame) (fed : List ℕ) (byte : ℕ) → ((begun : List ℕ) → IsBehind old begun → closed ≡ frames_behind begun (byte ∷ [])) → HasFed old fed
    → frames (fed ++ byte ∷ []) ≡ frames fed ++ closed
frame_of_byte old closed fed byte reads h = frames-append fed (byte ∷ []) ∙ ap (λ (xs : List Frame). frames fed ++ xs) (sym (reads (unfinished fed) h.behind))

-- a reader of a frame without bytes has nothing else to forget
fresh_parts : (image : List ℕ) (escapes : Escapes) → is_fresh_in escapes image ≡ true → of (record { items = image }) false escapes ≡ fresh_slip
fresh_parts [] Whole is = refl
fresh_parts (b ∷ bs) Whole is = absurd (cc)
fresh_parts image Open is = absurd (cc)
fresh_parts image Broken is = absurd (cc)

pub fresh-left : (s new : Slip) → is_fresh s ≡ true → new ≡ record s { too_long = false } → new ≡ fresh_slip
fresh-left s new is made = made ∙ fresh_parts s.image.items s.escapes is
