-- Files in memory: what their state shows, and how calls change it.
use Rattle.std.specs.Prelude.{◌≡◌, ℕ, ◌<◌, ◌==◌, List, length, Bool, Option, Some, IsSomeAnd, if◌then◌else◌, Contains}
use Rattle.std.specs.Option.{option_map}
use Rattle.std.specs.Str.{bytes_eq}
use Rattle.std.specs.BTreeMap.{get_by_text}
use Rattle.mate_files.specs.Counts.{one_more}
use Rattle.mate_files.specs.Files.{Names}
use Rattle.mate_files.specs.declared.files.TheConstants.{FILE_MAX}
use Rattle.mate_files.specs.declared.mem_files.MemFiles.{MemFiles}

-- the bytes of each name
abbrev pub names_of : MemFiles → Names
names_of files name = option_map (λ bytes. bytes.items) (get_by_text files.names name)

-- the bytes of each name, which are always given
abbrev pub files_told : MemFiles → Option Names
files_told files = Some (names_of files)

-- the numbers of the reads that are to fail, from 1
abbrev pub failing_of : MemFiles → List ℕ
failing_of files = files.failing.items

-- how many reads were made
abbrev pub calls_of : MemFiles → ℕ
calls_of files = files.calls

-- how many reads failed, or met too large a file
abbrev pub read_faults : MemFiles → ℕ
read_faults files = files.faults

-- whether no read is to fail
abbrev pub is_steady : MemFiles → Bool
is_steady files = length files.failing.items == 0

-- the next read has a listed number
abbrev pub IsListed : MemFiles → Type 0
IsListed files = Contains (failing_of files) (one_more (calls_of files))

-- the name has more bytes than a read may give, and this many
abbrev pub IsTooLong : MemFiles → List ℕ → ℕ → Type 0
IsTooLong files name len = IsSomeAnd (names_of files name) (λ bytes. (length bytes ≡ len) × (FILE_MAX < len))

-- the name has these bytes now, and each other name what it had
abbrev pub SetsName : Names → Names → List ℕ → List ℕ → Type 0
SetsName old new name bytes =
    (other : List ℕ) → new other ≡ (if bytes_eq name other then Some bytes else old other)

-- each name has what it had
abbrev pub KeepsNames : Names → Names → Type 0
KeepsNames old new = (name : List ℕ) → new name ≡ old name

-- the listed numbers and both counts stay
pub record KeepsCounts (old new : MemFiles) : Type 0 where
  pub failing : failing_of new ≡ failing_of old
  pub calls : calls_of new ≡ calls_of old
  pub faults : read_faults new ≡ read_faults old
