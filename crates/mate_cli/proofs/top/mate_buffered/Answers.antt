use Rattle.std.proofs.Common.{◌≡◌, [], true, None, Some, refl, sym, ap, ◌∙◌}
use Rattle.std.specs.Io.Buffered.{writer_contents, writer_inner, writer_buffer}
use Rattle.mate_cli.specs.Ends.{refusal_in}
use Rattle.mate_cli.proofs.EdgeLemmas.{handed, when-ok}
use Rattle.mate_cli.proofs.top.mate_buffered.Goals as goal

pub returns-in-Ok : goal.returns-in-Ok
returns-in-Ok g c =
    let put = writer_contents g.W.Write.contents c.work-came.new.out.writer in
    let kept = rw c.into_inner-out.ensures at c.flush.ensures.bytes in
    let empty = λ (is : c.is_ok-flushed.result ≡ true). when-ok c.flush.result (writer_buffer c.flush.new.self ≡ []) c.flush.ensures.ok (sym c.is_ok-flushed.ensures.value ∙ is) in
    let on = handed c.is_ok-flushed.result c.work-came.result put (g.W.Write.contents (writer_inner c.flush.new.self)) (writer_buffer c.flush.new.self) empty kept in
    record {
      put = record { written = put; faults = c.work-came.new.out.faults };
      came = refusal_in c.work-came.result;
      work = rw c.new-sink.ensures.faults at (rw c.new-sink.ensures.writer at c.work-came.ensures);
      ending = None;
      handed_on = rw (sym c.into_parts-writer.ensures.inner) at (rw (ap refusal_in (sym c.handed_on.ensures ∙ c.in-Ok.is)) at on);
      told = (refl, refl);
    }

pub returns-in-Err : goal.returns-in-Err
returns-in-Err g c =
    let put = writer_contents g.W.Write.contents c.work-came.new.out.writer in
    let kept = rw c.into_inner-out.ensures at c.flush.ensures.bytes in
    let empty = λ (is : c.is_ok-flushed.result ≡ true). when-ok c.flush.result (writer_buffer c.flush.new.self ≡ []) c.flush.ensures.ok (sym c.is_ok-flushed.ensures.value ∙ is) in
    let on = handed c.is_ok-flushed.result c.work-came.result put (g.W.Write.contents (writer_inner c.flush.new.self)) (writer_buffer c.flush.new.self) empty kept in
    record {
      put = record { written = put; faults = c.work-came.new.out.faults };
      came = refusal_in c.work-came.result;
      work = rw c.new-sink.ensures.faults at (rw c.new-sink.ensures.writer at c.work-came.ensures);
      ending = Some c.in-Err.refusal;
      handed_on = rw (sym c.into_parts-writer.ensures.inner) at (rw (ap refusal_in (sym c.handed_on.ensures ∙ c.in-Err.is)) at on);
      told = c.refuse.ensures;
    }
