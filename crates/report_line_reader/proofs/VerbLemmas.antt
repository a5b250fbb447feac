-- Verbs are read as they are written.
use Rattle.std.proofs.Common.{◌≡◌, ◌≤◌, ◌<◌, ℕ, List, length, Option, Some, None, refl, sym, ◌∙◌, ap, subst, arith}
use Rattle.std.specs.Prelude.{slice_index_or}
use Rattle.report_line_reader.specs.declared.verb.Verb.{Verb}
use Rattle.report_line_reader.specs.declared.verb.Verb.TheVariants as verb
use Rattle.report_line_reader.proofs.ChoiceLemmas.{named_among-word}
use Rattle.report_line_reader.specs.Verbs.{verb_word, verbs, likely, verb_of}

pub verb_of-word : (v : Verb) → verb_of (verb_word v) ≡ Some v
unfolding verb_of
verb_of-word verb.Post = refl
verb_of-word _ = refl

pub word-verb_of : (word : List ℕ) (v : Verb) → verb_of word ≡ Some v → word ≡ verb_word v
unfolding verb_of
word-verb_of word v h = named_among-word verb_word verbs word v h

-- each verb is told by two letters of its word
pub likely-word : (v : Verb) → likely (slice_index_or (verb_word v) 0 0) (slice_index_or (verb_word v) 2 0) ≡ v
likely-word verb.Post = refl
likely-word _ = refl

three-letters : (v : Verb) → 3 ≤ length (verb_word v)
three-letters verb.Post = omega arith
three-letters _ = omega arith

-- a word that is no verb's
no-verb : (word : List ℕ) → ((v : Verb) → word ≡ verb_word v → ⊥) → None ≡ verb_of word
no-verb word other = by (verb_of word) refl where
  by : (o : Option Verb) → verb_of word ≡ o → None ≡ o
  by None is = refl
  by (Some v) is = absurd (other v (word-verb_of word v is))

pub short-word : (word : List ℕ) → length word < 3 → None ≡ verb_of word
short-word word short = no-verb word (λ v is. let long : 3 ≤ length word = subst (λ (w : List ℕ). 3 ≤ length w) (sym is) (three-letters v) in omega (arith, short, long))

pub word-named : (word : List ℕ) (v : Verb) → word ≡ verb_word v → Some v ≡ verb_of word
word-named word v is = sym (ap verb_of is ∙ verb_of-word v)

-- it isn't the one word that it may be
pub word-unnamed : (word : List ℕ) (v : Verb) → v ≡ likely (slice_index_or word 0 0) (slice_index_or word 2 0) → (word ≡ verb_word v → ⊥) → None ≡ verb_of word
word-unnamed word v told other =
    no-verb word (λ u is. let same : u ≡ v = sym (told ∙ ap (λ (w : List ℕ). likely (slice_index_or w 0 0) (slice_index_or w 2 0)) is ∙ likely-word u) in other (is ∙ ap verb_word same))
