-- What the call for a round of h-indices tells its caller in C.
use Rattle.std.specs.Prelude.{Option, None, Some}
use Rattle.kc_shard.specs.declared.fault.ShardFault.{ShardFault}
use Rattle.kc_shard.specs.declared.fault.ShardFault.TheVariants.{WrongOffsetCount, FirstNotZero, Descending, LongRow, WrongLastOffset, NotAVertex}
use Rattle.kc_c.specs.declared.answer.CallResult.{CallResult}

-- the status and the place that tell of a fault
abbrev pub fault_answer : ShardFault → CallResult
fault_answer (NotAVertex place) = record { status = 4; number = place }
fault_answer WrongOffsetCount = record { status = 17; number = 0 }
fault_answer FirstNotZero = record { status = 18; number = 0 }
fault_answer (Descending place) = record { status = 19; number = place }
fault_answer (LongRow row) = record { status = 20; number = row }
fault_answer WrongLastOffset = record { status = 21; number = 0 }

-- the answer where there is no round: the fault, or want of memory where there is none
abbrev pub no_round : Option ShardFault → CallResult
no_round None = record { status = 5; number = 0 }
no_round (Some fault) = fault_answer fault
