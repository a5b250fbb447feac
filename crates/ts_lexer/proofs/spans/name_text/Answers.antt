use Rattle.ts_lexer.proofs.WordLemmas.{passes-IsUtf8}
use Rattle.ts_lexer.proofs.spans.name_text.Goals as goal

pub from_utf8_unchecked-requires : goal.from_utf8_unchecked-requires
from_utf8_unchecked-requires c = passes-IsUtf8 c.args.bytes.now c.requires
