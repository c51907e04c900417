-- How the calls of a wire that failed are counted.
use Rattle.std.specs.Prelude.{Result, Ok, Err}
use Rattle.kc_io.specs.Causes.{one_more}
use Rattle.kc_wire.specs.declared.faults.WireFaults.{WireFaults}
use Rattle.kc_wire.specs.declared.faults.WriteFault.{WriteFault}
use Rattle.kc_wire.specs.declared.faults.WriteFault.TheVariants.{ReaderGone, Failed}

-- no call has failed
abbrev pub no_fault : WireFaults
no_fault = record { reads = 0; writes = 0; departures = 0 }

-- with one read more that failed
abbrev pub one_read_more : WireFaults → WireFaults
one_read_more faults = record faults { reads = one_more faults.reads }

-- with one write more that failed so
abbrev pub one_write_more : WriteFault → WireFaults → WireFaults
one_write_more ReaderGone faults = record faults { departures = one_more faults.departures }
one_write_more Failed faults = record faults { writes = one_more faults.writes }

-- the counts after a read with this result: an error is one read more that failed, and nothing else changes them
abbrev pub after_read : {T E : Type 0} → WireFaults → Result T E → WireFaults
after_read faults (Ok value) = faults
after_read faults (Err fault) = one_read_more faults

-- the counts after a write with this result: an error is one write more that failed so, and nothing else changes them
abbrev pub after_write : {T : Type 0} → WireFaults → Result T WriteFault → WireFaults
after_write faults (Ok value) = faults
after_write faults (Err fault) = one_write_more fault faults
