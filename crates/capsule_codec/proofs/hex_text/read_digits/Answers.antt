use Rattle.capsule_codec.proofs.HexTextLemmas.{decodes, never-fails}
use Rattle.capsule_codec.proofs.hex_text.read_digits.Goals as goal

pub unreachable-requires : goal.unreachable-requires
unreachable-requires c =
    let h = decodes c.args.digits.now _ c.decode_to_slice.result c.decode_to_slice.new.out c.requires.hex c.requires.room c.decode_to_slice.ensures.value in
    never-fails c.decode_to_slice.result _ h.0 c.in_default.is

pub returns : goal.returns
returns c = (decodes c.args.digits.now _ c.decode_to_slice.result c.decode_to_slice.new.out c.requires.hex c.requires.room c.decode_to_slice.ensures.value).1
