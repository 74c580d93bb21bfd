-- A source and a sink over a reader and a writer of std.
use Rattle.std.specs.Prelude.{ℕ}
use Rattle.acpi_io.specs.declared.standard.StdSource.{StdSource}
use Rattle.acpi_io.specs.declared.standard.StdSink.{StdSink}
use Rattle.acpi_io.specs.declared.source.ReadOutcome.{ReadOutcome}
use Rattle.acpi_io.specs.declared.source.ReadOutcome.TheVariants as read_outcome
use Rattle.acpi_io.specs.declared.sink.WriteOutcome.{WriteOutcome}
use Rattle.acpi_io.specs.declared.sink.WriteOutcome.TheVariants as write_outcome
use Rattle.acpi_io.specs.Faults.{one_more}

-- the reader below a source
abbrev pub reader_of : {R : Type 0} → StdSource R → R
reader_of s = s.reader

-- how often a source failed
abbrev pub read_faults : {R : Type 0} → StdSource R → ℕ
read_faults s = s.faults

-- the writer below a sink
abbrev pub writer_of : {W : Type 0} → StdSink W → W
writer_of s = s.writer

-- how often a sink failed
abbrev pub write_faults : {W : Type 0} → StdSink W → ℕ
write_faults s = s.faults

-- a count of faults after a read: one more where it failed
abbrev pub faults_after_read : ReadOutcome → ℕ → ℕ
faults_after_read (read_outcome.Took n) count = count
faults_after_read read_outcome.End count = count
faults_after_read read_outcome.Failed count = one_more count

-- a count of faults after a write: one more where it failed
abbrev pub faults_after_write : WriteOutcome → ℕ → ℕ
faults_after_write (write_outcome.Took n) count = count
faults_after_write write_outcome.Failed count = one_more count
