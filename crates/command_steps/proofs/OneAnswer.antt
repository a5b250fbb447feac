-- Laws of steps that have one answer.
use Rattle.std.proofs.Common.{◌≡◌, inl, inr, ℕ, ◌<◌, List, length, Option, Some, None, Result, Ok, Err, refl, sym, ◌∙◌, ap, subst, arith}
use Rattle.std.specs.Prelude.{IsSomeAnd}
use Rattle.std.specs.Global.{Vec}
use Rattle.vm_desc.specs.Text.{description_of}
use Rattle.vm_shape.specs.Whole.{parts_of}
use Rattle.vm_shape.specs.declared.description.Description.{Description}
use Rattle.command_refusals.specs.DescriptionCauses.{fault_told}
use Rattle.command_refusals.proofs.CauseLemmas.{fault_told-once}
use Rattle.command_refusals.specs.declared.description_cause.DescriptionCause.{DescriptionCause}
use Rattle.vm_shape.proofs.DescriptionLemmas.{parts_of-same}
use Rattle.mate_files.specs.Files.{Names}
use Rattle.mate_files.specs.declared.files.TheConstants.{FILE_MAX}
use Rattle.command_steps.specs.OneAnswer.{Alike, AnswersAgree, steady}
use Rattle.command_steps.specs.Parts.{IsRead, IsUnread, file, machine_text, built_in, machine}
use Rattle.command_steps.specs.Steps.{judged, Then, goes_on, stops}
use Rattle.command_refusals.specs.declared.cause.Unread.{Unread}
use Rattle.command_refusals.specs.declared.cause.Unread.TheVariants.{Failed, Large}
use Rattle.command_refusals.specs.declared.refusal.Refusal.{Refusal}
use Rattle.command_refusals.specs.declared.refusal.Refusal.TheVariants.{NoMemory}

-- ---- steps

-- want of memory is alike each answer
alike-left : {A : Type 0} (R : A → A → Type 0) (r : Refusal) (x : Result A Refusal) → r ≡ NoMemory → Alike R (Err r) x
alike-left R r (Ok a) e = e
alike-left R r (Err t) e = inr (inl e)

alike-right : {A : Type 0} (R : A → A → Type 0) (x : Result A Refusal) (r : Refusal) → r ≡ NoMemory → Alike R x (Err r)
alike-right R (Ok a) r e = e
alike-right R (Err t) r e = inr (inr e)

-- two commands agree where their first steps do, and what follows values that are alike
pub then_agrees : {A B : Type 0} (R : A → A → Type 0) (S : B → B → Type 0) (p q : Result A Refusal → Type 0) (f g : A → Result B Refusal → Type 0)
    → AnswersAgree R p q → ((a b : A) → R a b → AnswersAgree S (f a) (g b)) → AnswersAgree S (λ x. Then p f x) (λ y. Then q g y)
then_agrees R S p q f g first rest x y (goes_on a pa fa) (goes_on b qb gb) = rest a b (first (Ok a) (Ok b) pa qb) x y fa gb
then_agrees R S p q f g first rest x y (goes_on a pa fa) (stops r qr e) =
    subst (λ (z : _). Alike S x z) (sym e) (alike-right S x r (first (Ok a) (Err r) pa qr))
then_agrees R S p q f g first rest x y (stops r pr e) (goes_on b qb gb) =
    subst (λ (z : _). Alike S z y) (sym e) (alike-left S r y (first (Err r) (Ok b) pr qb))
then_agrees R S p q f g first rest x y (stops r pr e) (stops t qt h) =
    subst (λ (z : _). Alike S z y) (sym e) (subst (λ (z : _). Alike S (Err r) z) (sym h) (first (Err r) (Err t) pr qt))

-- a test has one answer where it has one value or one failure
pub judged_agrees : {A E : Type 0} (R : A → A → Type 0) (Is : A → Type 0) (IsNot : E → Type 0) (refusal : E → Refusal)
    → ((a b : A) → Is a → Is b → R a b) → ((a : A) (e : E) → Is a → IsNot e → ⊥) → ((e h : E) → IsNot e → IsNot h → e ≡ h)
    → AnswersAgree R (judged Is IsNot refusal) (judged Is IsNot refusal)
judged_agrees R Is IsNot refusal one not same (Ok a) (Ok b) p q = one a b p q
judged_agrees R Is IsNot refusal one not same (Ok a) (Err r) p (inl x) = absurd (not a x.0 p x.1)
judged_agrees R Is IsNot refusal one not same (Ok a) (Err r) p (inr e) = e
judged_agrees R Is IsNot refusal one not same (Err r) (Ok b) (inl x) q = absurd (not b x.0 q x.1)
judged_agrees R Is IsNot refusal one not same (Err r) (Ok b) (inr e) q = e
judged_agrees R Is IsNot refusal one not same (Err r) (Err t) (inl x) (inl y) = inl (x.2 ∙ ap refusal (same x.0 y.0 x.1 y.1) ∙ sym y.2)
judged_agrees R Is IsNot refusal one not same (Err r) (Err t) (inl x) (inr e) = inr (inr e)
judged_agrees R Is IsNot refusal one not same (Err r) (Err t) (inr e) q = inr (inl e)

-- ---- files

abbrev pub SameBytes : Vec ℕ → Vec ℕ → Type 0
SameBytes a b = a.items ≡ b.items

long_of : (o : Option (List ℕ)) (bytes : List ℕ) → o ≡ Some bytes → IsSomeAnd o (λ bs. FILE_MAX < length bs) → FILE_MAX < length bytes
long_of o bytes e long = subst (λ (x : Option (List ℕ)). IsSomeAnd x (λ bs. FILE_MAX < length bs)) e long

none_long : (o : Option (List ℕ)) → o ≡ None → IsSomeAnd o (λ bs. FILE_MAX < length bs) → ⊥
none_long o e long = subst (λ (x : Option (List ℕ)). IsSomeAnd x (λ bs. FILE_MAX < length bs)) e long

pub file_agrees : (names : Names) (name : List ℕ) → AnswersAgree SameBytes (file (steady names) name) (file (steady names) name)
file_agrees names name = judged_agrees SameBytes _ _ _ one not same where
  one : (a b : Vec ℕ) → IsRead (steady names) name a → IsRead (steady names) name b → a.items ≡ b.items
  one a b p q = let e : Some a.items ≡ Some b.items = sym p.1 ∙ q.1 in cc

  not : (a : Vec ℕ) (e : Unread) → IsRead (steady names) name a → IsUnread (steady names) name e → ⊥
  not a Failed p q = let e : None ≡ Some a.items = sym (q refl) ∙ p.1 in cc
  not a Large p q = let long = long_of (names name) a.items p.1 q in omega (arith, p.0, long)

  same : (e h : Unread) → IsUnread (steady names) name e → IsUnread (steady names) name h → e ≡ h
  same Failed Failed p q = refl
  same Failed Large p q = absurd (none_long (names name) (p refl) q)
  same Large Failed p q = absurd (none_long (names name) (q refl) p)
  same Large Large p q = refl

-- ---- machines

machine_text_agrees : (bytes : List ℕ) → AnswersAgree ◌≡◌ (machine_text bytes) (machine_text bytes)
machine_text_agrees bytes = judged_agrees ◌≡◌ _ _ _ one not same where
  one : (a b : Description) → description_of bytes ≡ Ok (parts_of a) → description_of bytes ≡ Ok (parts_of b) → a ≡ b
  one a b p q = let e : parts_of a ≡ parts_of b = cc in parts_of-same a b e

  not : (a : Description) (e : DescriptionCause) → description_of bytes ≡ Ok (parts_of a) → description_of bytes ≡ Err (fault_told e) → ⊥
  not a e p q = cc

  same : (e h : DescriptionCause) → description_of bytes ≡ Err (fault_told e) → description_of bytes ≡ Err (fault_told h) → e ≡ h
  same e h p q = let is : fault_told e ≡ fault_told h = cc in fault_told-once e h is

built_in_agrees : AnswersAgree ◌≡◌ built_in built_in
built_in_agrees (Ok a) (Ok b) p q = parts_of-same a b (p ∙ sym q)
built_in_agrees (Ok a) (Err r) p q = q
built_in_agrees (Err r) (Ok b) p q = p
built_in_agrees (Err r) (Err t) p q = inr (inl p)

pub machine_agrees : (names : Names) (word : List ℕ) → AnswersAgree ◌≡◌ (machine (steady names) word) (machine (steady names) word)
machine_agrees names word x y (inl p) (inl q) = built_in_agrees x y p.1 q.1
machine_agrees names word x y (inl p) (inr q) = absurd (q.0 p.0)
machine_agrees names word x y (inr p) (inl q) = absurd (p.0 q.0)
machine_agrees names word x y (inr p) (inr q) =
    then_agrees SameBytes ◌≡◌ _ _ _ _ (file_agrees names word)
    (λ a b e. subst (λ (bs : List ℕ). AnswersAgree ◌≡◌ (machine_text a.items) (machine_text bs)) (same a b e) (machine_text_agrees a.items)) x y p.1 q.1 where
      same : (a b : Vec ℕ) → SameBytes a b → a.items ≡ b.items
      same a b e = e
