-- Files outside: what their state shows.
use Rattle.std.specs.Prelude.{ℕ}
use Rattle.mate_files.specs.declared.os_files.OsFiles.{OsFiles}

-- how many reads failed, or met too large a file
abbrev pub faults_of : {R : Type 0} → OsFiles R → ℕ
faults_of files = files.faults
