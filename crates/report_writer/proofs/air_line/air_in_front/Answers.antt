use Rattle.std.proofs.Common.{ap, sym}
use Rattle.mate_files.specs.Pen.{encode_lower}
use Rattle.report_writer.specs.Words.{air_words}
use Rattle.report_writer.proofs.ChunkLemmas.{◌⋙◌, IsInFront-by}
use Rattle.report_writer.proofs.air_line.air_in_front.Goals as goal

pub returns-in-Interval-clause-adds : goal.returns-in-Interval-clause-adds
returns-in-Interval-clause-adds c = IsInFront-by (sym (ap air_words c.in-Interval.is)) c.numbered.ensures.adds

pub returns-in-Keep-clause-adds : goal.returns-in-Keep-clause-adds
returns-in-Keep-clause-adds c = IsInFront-by (sym (ap air_words c.in-Keep.is)) c.text.ensures.adds

pub returns-in-Sent-clause-adds : goal.returns-in-Sent-clause-adds
returns-in-Sent-clause-adds c =
    IsInFront-by (sym (ap air_words c.in-Sent.is))
    (c.numbered-in-Sent.ensures.adds ⋙ (c.byte.ensures.adds ⋙ IsInFront-by (ap encode_lower c.as_slice.ensures.value) c.hex.ensures.adds))

pub returns-in-Lost-clause-adds : goal.returns-in-Lost-clause-adds
returns-in-Lost-clause-adds c = IsInFront-by (sym (ap air_words c.in-Lost.is)) (c.numbered-in-Lost.ensures.adds ⋙ c.place_in_front.ensures.adds)

pub returns-in-Got-clause-adds : goal.returns-in-Got-clause-adds
returns-in-Got-clause-adds c = IsInFront-by (sym (ap air_words c.in-Got.is)) (c.numbered-in-Got.ensures.adds ⋙ c.place_in_front-in-Got.ensures.adds)

pub returns-in-Noise-clause-adds : goal.returns-in-Noise-clause-adds
returns-in-Noise-clause-adds c =
    IsInFront-by (sym (ap air_words c.in-Noise.is))
    (c.text-in-Noise.ensures.adds ⋙ IsInFront-by (ap encode_lower c.as_slice-in-Noise.ensures.value) c.hex-in-Noise.ensures.adds)
