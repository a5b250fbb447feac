use Rattle.std.proofs.Common.{List, ℕ, ◌++◌, codes, ap, sym, ◌∙◌}
use Rattle.mate_journal.specs.declared.entry.Entry.{Entry}
use Rattle.mate_files.proofs.PenLemmas.{Prints-by}
use Rattle.report_writer.specs.Words.{stamp_words, entry_words, handler_name, number, word, image_word}
use Rattle.report_writer.proofs.ChunkLemmas.{short-else}
use Rattle.report_writer.proofs.entry_line.entry_line.Goals as goal

pub returns-in-Install : goal.returns-in-Install
returns-in-Install g c =
    let stamp : List ℕ = stamp_words c.args.stamped.now.stamp c.args.node in
    let line = λ (name image : List ℕ). stamp ++ (codes " install" ++ word name ++ number c.in-Install.version ++ word (image_word image)) ++ codes "\n" in
    Prints-by (ap (λ (name : List ℕ). line name c.image_at.result.now) c.handler_name.ensures.value
    ∙ ap (λ (image : List ℕ). line (handler_name c.args.desc.now c.in-Install.handler) image) c.image_at.ensures
    ∙ ap (λ (e : Entry). stamp ++ entry_words c.args.desc.now c.args.log.now e ++ codes "\n") (sym c.in-Install.is)) c.install_line.ensures

pub returns-in-Seen : goal.returns-in-Seen
returns-in-Seen g c =
    let stamp : List ℕ = stamp_words c.args.stamped.now.stamp c.args.node in
    Prints-by (ap (λ (e : Entry). stamp ++ entry_words c.args.desc.now c.args.log.now e ++ codes "\n") (sym c.in-Seen.is)) c.seen_line.ensures

pub returns-in_default : goal.returns-in_default
returns-in_default g c = c.short_line.ensures c.args.log.now

pub short_line-requires : goal.short_line-requires
short_line-requires g c = short-else c.args.stamped.now.entry c.in_default.not-Install c.in_default.not-Seen
