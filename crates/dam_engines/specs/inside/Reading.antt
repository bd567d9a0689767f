-- How reading the input can fail.
use Rattle.dam_engines.specs.declared.fault.RunFault.{RunFault}
use Rattle.dam_engines.specs.declared.fault.RunFault.TheVariants.{Read, Memory}

-- memory ran out, or the reader failed
abbrev pub IsReadingFault : RunFault → Type 0
IsReadingFault Read = Unit {0}
IsReadingFault Memory = Unit {0}
IsReadingFault fault = ⊥
