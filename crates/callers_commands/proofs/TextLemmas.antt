-- The texts of small logs and of a small report.
use Rattle.std.proofs.Common.{◌≡◌, ℕ, Bool, true, List, [], ◌∷◌, drop, codes, refl, ap, ◌∙◌}
use Rattle.std.specs.Fmt.{digits}
use Rattle.std.specs.Prelude.{flat_map}
use Rattle.vm_shape.specs.declared.description.Description.{Description}
use Rattle.mate_journal.specs.Log.{Log}
use Rattle.mate_journal.specs.declared.air.Aired.{Aired}
use Rattle.mate_journal.specs.declared.entry.Stamped.{Stamped}
use Rattle.mate_journal.specs.declared.report.Report.{Report}
use Rattle.report_writer.specs.Text.{event_piece, end_line, entry_line}
use Rattle.report_writer.specs.Brief.{brief}
use Rattle.callers_commands.specs.Reports.{main_alone, a_halt, a_first_post, a_reset, a_drop, IsOfADrop}

pub last_line : end_line 7 5 1 true ≡ codes "end 7 5 1\n"
unfolding digits
last_line = refl

pub piece_of_reset : (d : Description) (l : Log) → l.entries ≡ a_halt ∷ a_reset ∷ [] → event_piece d [] l 1 2 ≡ codes "6 80 2 reset\n"
unfolding digits
piece_of_reset d l is = ap (λ (es : List Stamped). flat_map (entry_line d l 2) (drop 1 es)) is

line_of_post : (d : Description) (l : Log) → d.handlers.items ≡ main_alone → flat_map (entry_line d l 2) (a_first_post ∷ []) ≡ codes "5 70 2 post 9 main 0\n"
unfolding digits
line_of_post d l handlers = rw handlers refl

pub piece_of_post : (d : Description) (l : Log) → d.handlers.items ≡ main_alone → l.entries ≡ a_first_post ∷ [] → event_piece d [] l 0 2 ≡ codes "5 70 2 post 9 main 0\n"
unfolding digits
piece_of_post d l handlers is = ap (λ (es : List Stamped). flat_map (entry_line d l 2) (drop 0 es)) is ∙ line_of_post d l handlers

-- a whole run of one node with this log
abbrev of_log : Log → Report
of_log l = record { nodes = l ∷ []; air = []; events = 0; whole = true }

is_of_log : (r : Report) (is : IsOfADrop r) → r ≡ of_log is.log
is_of_log r is =
    ap (λ (nodes : List Log). record r { nodes = nodes }) is.nodes ∙ ap (λ (air : List Aired). record r { nodes = is.log ∷ []; air = air }) is.air
    ∙ ap (λ (events : ℕ). record r { nodes = is.log ∷ []; air = []; events = events }) is.events
    ∙ ap (λ (whole : Bool). record (of_log is.log) { whole = whole }) is.whole

brief_of_it : (d : Description) (l : Log) → d.handlers.items ≡ main_alone
    → brief d (of_log (record l { entries = a_drop ∷ [] }))
    ≡ codes "nodes 1\nevents 0\nrecords 1\nposts 0\ndrops 1\nhalts 0\nfaults 0\ninstalls 0\nsent 0\ngot 0\nlost 0\nnewest main 0 0\nend\n"
unfolding digits
brief_of_it d l handlers = rw (handlers, handlers) refl

pub brief_of_drop : (d : Description) (r : Report) → d.handlers.items ≡ main_alone → IsOfADrop r
    → brief d r
    ≡ codes "nodes 1\nevents 0\nrecords 1\nposts 0\ndrops 1\nhalts 0\nfaults 0\ninstalls 0\nsent 0\ngot 0\nlost 0\nnewest main 0 0\nend\n"
brief_of_drop d r handlers is =
    ap (brief d) (is_of_log r is) ∙ ap (λ (es : List Stamped). brief d (of_log (record is.log { entries = es }))) is.entries ∙ brief_of_it d is.log handlers
