-- Which bytes spell a name.
use Rattle.std.specs.Prelude.{ℕ, ◌≤◌, List, length, IsUtf8}
use Rattle.mate_num.specs.declared.bounds.TheConstants.{NAME_MAX}

-- at most `NAME_MAX` bytes of UTF-8
pub record IsName (bytes : List ℕ) : Type 0 where
  pub short : length bytes ≤ NAME_MAX
  pub text : IsUtf8 bytes
