-- What the code keeps of the lines that it has read, and when it takes the next one. It follows the code; `Fits.antt` has the rules.
use Rattle.std.specs.Prelude.{◌≡◌, ℕ, ◌==◌, nat_le, nat_lt, Bool, true, false, not, ◌&&◌, ◌||◌, if◌then◌else◌, List, [], All, Contains}
use Rattle.std.specs.Prelude.{Option, Some, None}
use Rattle.report_line_reader.specs.declared.line.Line.{Line}
use Rattle.report_text.specs.Fits.{is_on_air, is_shown, StandsBehind}
use Rattle.report_text.specs.declared.place.Place.{Place}

abbrev pub begun_at : Line → Place
begun_at l = record { stamp = l.stamp; node = l.node; on_air = is_on_air l.told; only_shown = is_shown l.told; several = false }

abbrev pub keeps_order : Place → Line → Bool
keeps_order p l = if is_on_air l.told then p.on_air && nat_le p.node l.node else (p.on_air || nat_le p.node l.node)

abbrev pub keeps_node : Place → Line → Bool
keeps_node p l = (p.stamp.event == 0 || (not p.several && p.node == l.node)) || (p.only_shown && is_shown l.told)

-- a line of the same event
abbrev pub joins : Place → Line → Bool
joins p l = (p.stamp.time == l.stamp.time && keeps_order p l) && keeps_node p l

-- a line of a later event
abbrev pub begins_next : Place → Line → Bool
begins_next p l = (nat_lt p.stamp.event l.stamp.event && nat_le p.stamp.time l.stamp.time) && (p.stamp.event == 0 || not p.several)

abbrev pub admits : Place → Line → Bool
admits p l = if p.stamp.event == l.stamp.event then joins p l else begins_next p l

abbrev pub admits_next : Option Place → Line → Bool
admits_next None l = true
admits_next (Some p) l = admits p l

abbrev pub joined_by : Place → Line → Place
joined_by p l = record (begun_at l) { only_shown = p.only_shown && is_shown l.told; several = p.several || not (p.node == l.node) }

abbrev pub place_after : Option Place → Line → Place
place_after None l = begun_at l
place_after (Some p) l = if p.stamp.event == l.stamp.event then joined_by p l else begun_at l

-- what a place says of lines that are in order
pub record IsPlaceOf (ls : List Line) (p : Place) : Type 0 where
  pub last : Line
  pub has : Contains ls last
  pub stamp : p.stamp ≡ last.stamp
  pub node : p.node ≡ last.node
  pub on_air : p.on_air ≡ is_on_air last.told
  pub before : All (λ (m : Line). StandsBehind m last) ls
  pub shown : p.only_shown ≡ true → All (λ (m : Line). m.stamp.event ≡ p.stamp.event → is_shown m.told ≡ true) ls
  pub not_shown : p.only_shown ≡ false → (m : Line) × Contains ls m × (m.stamp.event ≡ p.stamp.event) × (is_shown m.told ≡ false)
  pub one : p.several ≡ false → All (λ (m : Line). m.stamp.event ≡ p.stamp.event → m.node ≡ p.node) ls
  pub two : p.several ≡ true → (m : Line) × Contains ls m × (m.stamp.event ≡ p.stamp.event) × (m.node ≡ p.node → ⊥)

abbrev pub IsPlaceAfter : List Line → Option Place → Type 0
IsPlaceAfter ls None = ls ≡ []
IsPlaceAfter ls (Some p) = IsPlaceOf ls p
