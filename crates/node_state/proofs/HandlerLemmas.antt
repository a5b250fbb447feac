-- What is held where no place has a program, and where own and shared ones are.
use Rattle.std.proofs.Common.{◌≡◌, ℕ, ◌+◌, ◌<◌, ◌≤◌, inl, inr, length, length-append, List, [], ◌∷◌, ◌++◌, Option, Some, None, zero, suc, refl, sym, ap, ◌∙◌, subst, arith, get_or, set}
use Rattle.std.specs.Prelude.{◌⊎◌}
use Rattle.std.specs.List.{All}
use Rattle.std.specs.Option.{option_or}
use Rattle.std.proofs.lemmas.Bool.{cases_lt}
use Rattle.std.proofs.lemmas.List.{get_or_past}
use Rattle.std.proofs.lemmas.List.Elements.{All-get_or, All-push}
use Rattle.arrayvec.specs.ArrayVec.{ArrayVec}
use Rattle.mate_num.specs.declared.id.HandlerId.{HandlerId}
use Rattle.node_state.specs.declared.handlers.Held.{Held}
use Rattle.node_state.specs.Programs.{HeldPrograms, held_at, held_either, renewed, written_over}

pub nothing-held : (programs : List (Option Held)) → All (λ (held : Option Held). held ≡ None) programs → (h : HandlerId) → held_at programs h ≡ None
nothing-held programs none h = by (cases_lt h.0 (length programs)) where
  by : (h.0 < length programs) ⊎ (length programs ≤ h.0) → held_at programs h ≡ None
  by (inl below) = All-get_or (λ (held : Option Held). held ≡ None) programs h.0 None below none
  by (inr past) = get_or_past programs h.0 None past

-- ---- places that are made one after another, without programs

pub no-place : (programs : List (Option Held)) → programs ≡ [] → length programs ≡ 0
no-place programs empty = ap (λ (l : List (Option Held)). length l) empty

pub nothing-yet : (programs : List (Option Held)) → programs ≡ [] → All (λ (held : Option Held). held ≡ None) programs
nothing-yet programs empty =
    let P : List (Option Held) → Type 0 = λ l. All (λ (held : Option Held). held ≡ None) l in
    subst P (sym empty) (λ k d below. absurd (omega arith))

pub one-place-more : (old new : List (Option Held)) (n : ℕ) → new ≡ old ++ None ∷ [] → length old ≡ n → length new ≡ n + 1
one-place-more old new n is count =
    ap (λ (l : List (Option Held)). length l) is ∙ length-append old (None ∷ []) ∙ ap (λ (k : ℕ). k + 1) count

pub nothing-more : (old new : List (Option Held)) → new ≡ old ++ None ∷ [] → All (λ (held : Option Held). held ≡ None) old → All (λ (held : Option Held). held ≡ None) new
nothing-more old new is none =
    let P : List (Option Held) → Type 0 = λ l. All (λ (held : Option Held). held ≡ None) l in
    subst P (sym is) (All-push (λ (held : Option Held). held ≡ None) old None none refl)

-- ---- own programs and shared ones

pub either-length : (own shared : List (Option Held)) → length (held_either own shared) ≡ length shared
either-length [] shared = refl
either-length (x ∷ own) [] = refl
either-length (x ∷ own) (y ∷ shared) = let e = either-length own shared in omega arith

pub either-at : (own shared : List (Option Held)) (k : ℕ) → length own ≤ length shared → get_or (held_either own shared) k None ≡ option_or (get_or own k None) (get_or shared k None)
either-at [] shared k within = refl
either-at (x ∷ own) [] k within = absurd (omega arith)
either-at (x ∷ own) (y ∷ shared) zero within = refl
either-at (x ∷ own) (y ∷ shared) (suc k) within = either-at own shared k (omega arith)

-- a place more, without a program
pub either-none : (own shared : List (Option Held)) → held_either (own ++ None ∷ []) shared ≡ held_either own shared
either-none [] [] = refl
either-none [] (y ∷ shared) = refl
either-none (x ∷ own) [] = refl
either-none (x ∷ own) (y ∷ shared) = ap (λ (l : List (Option Held)). option_or x y ∷ l) (either-none own shared)

-- one comes to a place that was made, and what was shared there is no more
pub either-install : (own shared : List (Option Held)) (k : ℕ) (x : Held) → k < length own → held_either (set own k (Some x)) (set shared k None) ≡ set (held_either own shared) k (Some x)
either-install [] shared k x below = absurd (omega arith)
either-install (a ∷ own) [] zero x below = refl
either-install (a ∷ own) [] (suc k) x below = refl
either-install (a ∷ own) (b ∷ shared) zero x below = refl
either-install (a ∷ own) (b ∷ shared) (suc k) x below = ap (λ (l : List (Option Held)). option_or a b ∷ l) (either-install own shared k x (omega arith))

-- one is shared, and the place has none of its own
pub either-share : (own shared : List (Option Held)) (k : ℕ) (x : Held) → held_either (set own k None) (set shared k (Some x)) ≡ set (held_either own shared) k (Some x)
either-share [] shared k x = refl
either-share (a ∷ own) [] zero x = refl
either-share (a ∷ own) [] (suc k) x = refl
either-share (a ∷ own) (b ∷ shared) zero x = refl
either-share (a ∷ own) (b ∷ shared) (suc k) x = ap (λ (l : List (Option Held)). option_or a b ∷ l) (either-share own shared k x)

-- a place of its own with a program is below their number
pub own-below : (own : List (Option Held)) (k : ℕ) (x : Held) → Some x ≡ get_or own k None → k < length own
own-below own k x is = by (cases_lt k (length own)) where
  by : (k < length own) ⊎ (length own ≤ k) → k < length own
  by (inl below) = below
  by (inr past) = let e : Some x ≡ None = is ∙ get_or_past own k None past in cc

-- one of its own changes, and what it changes to depends on it
pub either-renew : (own shared : List (Option Held)) (k : ℕ) (x : Held) (version : ℕ) (image : ArrayVec ℕ) → length own ≤ length shared → Some x ≡ get_or own k None
    → held_either (set own k (renewed version image (get_or own k None))) shared ≡ set (held_either own shared) k (renewed version image (get_or (held_either own shared) k None))
either-renew [] shared k x version image within is = let e : Some x ≡ None = is in cc
either-renew (a ∷ own) [] k x version image within is = absurd (omega arith)
either-renew (Some a ∷ own) (b ∷ shared) zero x version image within is = refl
either-renew (None ∷ own) (b ∷ shared) zero x version image within is = let e : Some x ≡ None = is in cc
either-renew (a ∷ own) (b ∷ shared) (suc k) x version image within is = ap (λ (l : List (Option Held)). option_or a b ∷ l) (either-renew own shared k x version image (omega arith) is)

-- another program takes the place of one of its own
pub either-replace : (own shared : List (Option Held)) (k : ℕ) (x y : Held) → length own ≤ length shared → Some x ≡ get_or own k None
    → held_either (set own k (written_over y (get_or own k None))) shared ≡ set (held_either own shared) k (Some y)
either-replace [] shared k x y within is = let e : Some x ≡ None = is in cc
either-replace (a ∷ own) [] k x y within is = absurd (omega arith)
either-replace (Some a ∷ own) (b ∷ shared) zero x y within is = refl
either-replace (None ∷ own) (b ∷ shared) zero x y within is = let e : Some x ≡ None = is in cc
either-replace (a ∷ own) (b ∷ shared) (suc k) x y within is = ap (λ (l : List (Option Held)). option_or a b ∷ l) (either-replace own shared k x y (omega arith) is)

-- the programs are these, and the room stays
pub with-programs : (before : HeldPrograms) (own : List (Option Held)) (programs : List (Option Held)) (room was : ℕ) → own ≡ programs → room ≡ was → was ≡ before.room
    → ◌≡◌ {A = HeldPrograms} (record { programs = own; room = room }) (record before { programs = programs })
with-programs before own programs room was is stays room_is =
    ap (λ (l : List (Option Held)). let h : HeldPrograms = record { programs = l; room = room } in h) is
    ∙ ap (λ (k : ℕ). let h : HeldPrograms = record { programs = programs; room = k } in h) (stays ∙ room_is)
