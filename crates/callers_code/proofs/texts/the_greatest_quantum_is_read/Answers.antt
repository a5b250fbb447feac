use Rattle.std.proofs.Common.{◌≡◌, ℕ, Option, Some, None, Result, Ok, Err, codes, refl, sym, ap, ◌∙◌}
use Rattle.std.proofs.lemmas.Option.{same_Some}
use Rattle.std.specs.Prelude.{MatchResult}
use Rattle.std.specs.Str.{is_utf8, chars}
use Rattle.toml.proofs.OnLiterals.{toml_on_literals}
use Rattle.vm_shape.specs.Limits.{Parts}
use Rattle.vm_shape.specs.declared.description.Description.{Description}
use Rattle.vm_desc.specs.Reading.{description_at, opening_at, from_handlers_at, handlers_at, handler_at, functions_at, trickle_of, trickle_at, radio_of, radio_at, ruled}
use Rattle.vm_desc.specs.Text.{description_of, ReadsDescription}
use Rattle.vm_shape.specs.declared.fault.DescFault.{DescFault}
use Rattle.vm_shape.specs.declared.fault.DescFault.TheVariants.{NotToml, BadField, OverLimit, Duplicate, SlowImax, NoMemory}
use Rattle.callers_code.proofs.texts.the_greatest_quantum_is_read.Goals as goal

quantum_of : Result Parts DescFault → Option ℕ
quantum_of (Ok parts) = Some parts.quantum
quantum_of (Err fault) = None

none_is_some : (n : ℕ) (reading : Result Parts DescFault) (fault : DescFault) → quantum_of reading ≡ Some n → reading ≡ Err fault → ⊥
unfolding quantum_of
none_is_some n reading fault some refused = let none : None ≡ Some n = sym (ap quantum_of refused) ∙ some in cc

read_quantum : (n : ℕ) (reading : Result Parts DescFault) (result : Result Description DescFault) → quantum_of reading ≡ Some n → ReadsDescription result reading → MatchResult result (λ d. d.quantum ≡ n) (λ fault. fault ≡ NoMemory)
unfolding quantum_of
read_quantum n reading (Ok d) some reads = same_Some _ _ (sym (ap quantum_of reads) ∙ some)
read_quantum n reading (Err NotToml) some reads = absurd (none_is_some n reading NotToml some reads)
read_quantum n reading (Err (BadField k)) some reads = absurd (none_is_some n reading (BadField k) some reads)
read_quantum n reading (Err (OverLimit k)) some reads = absurd (none_is_some n reading (OverLimit k) some reads)
read_quantum n reading (Err (Duplicate w)) some reads = absurd (none_is_some n reading (Duplicate w) some reads)
read_quantum n reading (Err (SlowImax need have)) some reads = absurd (none_is_some n reading (SlowImax need have) some reads)
read_quantum n reading (Err NoMemory) some reads = refl

greatest : quantum_of (description_of (codes "vm = 1\nquantum = 10000\n[[handler]]\nname = \"main\"\n")) ≡ Some 10000
unfolding quantum_of is_utf8 chars toml_on_literals description_at opening_at from_handlers_at handlers_at handler_at functions_at trickle_of trickle_at radio_of radio_at ruled
greatest = refl

pub returns : goal.returns
returns c = read_quantum 10000 _ c.read.result greatest c.read.ensures
