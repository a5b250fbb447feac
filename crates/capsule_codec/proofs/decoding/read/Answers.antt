-- Each answer is the first fault, or the capsule that passed all tests.
use Rattle.std.proofs.Common.{◌∙◌}
use Rattle.capsule_codec.proofs.FaultLemmas.{has-head, is-numbered, no-magic, no-head, no-format, other-vm, no-handler, no-version, no-size, other-size, whole-size, parts-are, rest-whole, code-fits, some-version}
use Rattle.capsule_codec.proofs.decoding.read.Goals as goal
use Rattle.capsule_codec.proofs.decoding.read.Goals.{then-not-is_size-via-then-not-is_size, then-not-is_size-via-else-not-is_size+then-from-bytes}

pub returns-then-not-starts_with : goal.returns-then-not-starts_with
returns-then-not-starts_with c = no-magic c.args.desc.now c.args.bytes.now c.starts_with.result c.starts_with.ensures.value c.if-not-starts_with.true

pub returns-then-bytes-lt-IMAGE_HEAD : goal.returns-then-bytes-lt-IMAGE_HEAD
returns-then-bytes-lt-IMAGE_HEAD c = no-head c.args.desc.now c.args.bytes.now c.starts_with.result c.starts_with.ensures.value c.if-not-starts_with.false c.if-bytes-lt-IMAGE_HEAD.true

pub returns-then-format-ne2 : goal.returns-then-format-ne2
returns-then-format-ne2 c =
    no-format c.args.desc.now c.args.bytes.now c.starts_with.result c.starts_with.ensures.value c.if-not-starts_with.false c.if-bytes-lt-IMAGE_HEAD.false c.if-format-ne1.true c.if-format-ne2.true

pub returns-then-id-desc : goal.returns-then-id-desc
returns-then-id-desc c =
    let head = has-head c.args.desc.now c.args.bytes.now c.starts_with.result c.starts_with.ensures.value c.if-not-starts_with.false c.if-bytes-lt-IMAGE_HEAD.false c.else-format-ne1.either in
    other-vm c.args.desc.now c.args.bytes.now head c.u32_at-id.result c.u32_at-id.ensures c.if-id-desc.true

pub returns-then-from-len : goal.returns-then-from-len
returns-then-from-len c =
    let head = has-head c.args.desc.now c.args.bytes.now c.starts_with.result c.starts_with.ensures.value c.if-not-starts_with.false c.if-bytes-lt-IMAGE_HEAD.false c.else-format-ne1.either in
    no-handler c.args.desc.now c.args.bytes.now head c.u32_at-id.result c.u32_at-id.ensures c.if-id-desc.false c.from.result c.len.result c.from.ensures c.len.ensures.value c.if-from-len.true

pub returns-then-version-eq0 : goal.returns-then-version-eq0
returns-then-version-eq0 c =
    let head = has-head c.args.desc.now c.args.bytes.now c.starts_with.result c.starts_with.ensures.value c.if-not-starts_with.false c.if-bytes-lt-IMAGE_HEAD.false c.else-format-ne1.either in
    no-version c.args.desc.now c.args.bytes.now head c.u32_at-id.result c.u32_at-id.ensures c.if-id-desc.false c.from.result c.len.result c.from.ensures c.len.ensures.value c.if-from-len.false
    c.u32_at-version.result c.u32_at-version.ensures c.if-version-eq0.true

pub returns-then-not-is_size : goal.returns-then-not-is_size
returns-then-not-is_size c =
    let head = has-head c.args.desc.now c.args.bytes.now c.starts_with.result c.starts_with.ensures.value c.if-not-starts_with.false c.if-bytes-lt-IMAGE_HEAD.false c.else-format-ne1.either in
    let numbered = is-numbered c.args.desc.now c.args.bytes.now head c.u32_at-id.result c.u32_at-id.ensures c.if-id-desc.false c.from.result c.len.result c.from.ensures c.len.ensures.value c.if-from-len.false
    c.u32_at-version.result c.u32_at-version.ensures c.if-version-eq0.false in
    elim c.then-not-is_size.branch [
      | then-not-is_size-via-then-not-is_size w ↦ no-size c.args.desc.now c.args.bytes.now numbered c.u16_at-size.result c.u16_at-size.ensures c.is_size.result c.is_size.ensures w.if-not-is_size.true
      | then-not-is_size-via-else-not-is_size+then-from-bytes w ↦ other-size c.args.desc.now c.args.bytes.now numbered c.u16_at-size.result c.u16_at-size.ensures c.is_size.result c.is_size.ensures w.if-not-is_size.false
          w.from-else-not-is_size.result w.from-else-not-is_size.ensures w.if-from-bytes.true
    ]

pub invariant_of-result : goal.invariant_of-result
invariant_of-result c =
    let fits = code-fits c.args.bytes.now _ c.u16_at-size.result c.is_size.result c.from-else-not-is_size.result c.is_size.ensures c.if-not-is_size.false c.from-else-not-is_size.ensures c.if-from-bytes.false in
    record { numbered = some-version c.u32_at-version.result c.if-version-eq0.false; filled = fits.low; fits = fits.high }

pub returns : goal.returns
returns c =
    let head = has-head c.args.desc.now c.args.bytes.now c.starts_with.result c.starts_with.ensures.value c.if-not-starts_with.false c.if-bytes-lt-IMAGE_HEAD.false c.else-format-ne1.either in
    let numbered = is-numbered c.args.desc.now c.args.bytes.now head c.u32_at-id.result c.u32_at-id.ensures c.if-id-desc.false c.from.result c.len.result c.from.ensures c.len.ensures.value c.if-from-len.false
    c.u32_at-version.result c.u32_at-version.ensures c.if-version-eq0.false in
    whole-size c.args.desc.now c.args.bytes.now numbered c.u16_at-size.result c.u16_at-size.ensures c.is_size.result c.is_size.ensures c.if-not-is_size.false c.from-else-not-is_size.result c.from-else-not-is_size.ensures c.if-from-bytes.false
    ∙ parts-are c.args.bytes.now _ c.u32_at-id.result c.u32_at-version.result c.u32_at-id.ensures c.u32_at-version.ensures (rest-whole c.args.bytes.now)
