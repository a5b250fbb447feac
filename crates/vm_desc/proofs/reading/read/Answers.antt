use Rattle.std.proofs.Common.{◌≡◌, ◌∙◌, refl}
use Rattle.toml.specs.View.{table_view}
use Rattle.vm_desc.specs.Reading.{description_at}
use Rattle.vm_desc.specs.Text.{description_of}
use Rattle.vm_desc.proofs.ReadingLemmas.{description_of-bytes, description_of-text, reads-from}
use Rattle.vm_desc.proofs.reading.read.Goals as goal

pub returns-in_default : goal.returns-in_default
returns-in_default c = description_of-bytes c.args.bytes.now c.in_default.ensures.cases.0

pub returns-then-not-members_are_known : goal.returns-then-not-members_are_known
returns-then-not-members_are_known c =
    let text = c.in-Ok.ensures.cases in
    let document = rw text.0 at c.in-Ok-table_from_str.ensures.ok in
    description_of-text c.args.bytes.now text.1 ∙ rw (document, ← c.members_are_known.ensures, c.if-not-members_are_known.true) refl

pub returns : goal.returns
returns c =
    let text = c.in-Ok.ensures.cases in
    let document = rw text.0 at c.in-Ok-table_from_str.ensures.ok in
    let same : description_of c.args.bytes.now ≡ description_at (table_view c.in-Ok-table_from_str.document) =
    description_of-text c.args.bytes.now text.1 ∙ rw (document, ← c.members_are_known.ensures, c.if-not-members_are_known.false) refl in
    rw same (reads-from c.description.result (description_at (table_view c.in-Ok-table_from_str.document)) c.description.ensures)
