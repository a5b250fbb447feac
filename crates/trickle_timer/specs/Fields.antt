-- A timer's fields as its value.
use Rattle.trickle_timer.specs.declared.timer.Trickle.TheInside.{Inside}
use Rattle.trickle_timer.specs.Timer.{Timer}

abbrev pub timer_of : Inside → Timer
timer_of t = record {
  set = t.set;
  running = record { begin = t.begin; length = t.length; point = t.point; heard = t.heard };
  words = t.words;
}
