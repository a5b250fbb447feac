-- The texts that commands write when all their parts are at hand.
use Rattle.std.specs.Prelude.{ℕ, List, ◌++◌, codes, ⊤}
use Rattle.opcode_gen.specs.TableText.{table_text}
use Rattle.hex.specs.Hex.{encode_lower}
use Rattle.capsule_codec.specs.Image.{capsule_parts}
use Rattle.command_documents.specs.FeedLines.{feed_text}
use Rattle.opcode_gen.specs.CapsuleText.{capsule_text, IsVerifiedFor}
use Rattle.ts_proc_expansion.specs.Expansion.{expansion}
use Rattle.ts_proc_names.specs.Named.{written_of}
pub use Rattle.ts_syntax.specs.Line.{script_line}
use Rattle.command_documents.specs.declared.document.Document.{Document}
use Rattle.command_documents.specs.declared.document.Document.TheVariants as document

abbrev pub document_text : Document → List ℕ
document_text (document.OpcodeTable d) = table_text d
document_text (document.Capsule image) = encode_lower image.value.items ++ codes "\n"
document_text (document.Listing d l) = capsule_text d (capsule_parts l.value.capsule) l.value.code.code
document_text (document.Expansion s) = script_line (expansion (written_of s))
document_text (document.Answers d stream) = feed_text d stream.items
document_text document.Serial = codes "serial\n"

-- its parts are such that its text can be written
abbrev pub HasText : Document → Type 0
HasText (document.OpcodeTable d) = ⊤
HasText (document.Capsule image) = ⊤
HasText (document.Listing d l) = IsVerifiedFor d (capsule_parts l.value.capsule) l.value.code
HasText (document.Expansion s) = ⊤
HasText (document.Answers d stream) = ⊤
HasText document.Serial = ⊤
