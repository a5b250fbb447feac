use Rattle.std.proofs.Common.{true}
use Rattle.mate_cli.proofs.RunLemmas.{text-written}
use Rattle.command_documents.specs.Documents.{document_text}
use Rattle.mate_cli.proofs.writing.write_document.Goals as goal

pub returns : goal.returns
returns g c = text-written (document_text c.args.document.now) true _ _ c.write.result c.ended.result c.write.ensures c.ended.ensures
