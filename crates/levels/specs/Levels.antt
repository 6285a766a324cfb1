-- A level as the scan over lists has it.
use Rattle.scan.specs.Tracks.{Level as Listed, level}
use Rattle.levels.specs.declared.level.Level.{Level}
use Rattle.levels.specs.Sets.{passes, none}

abbrev pub level_of : Level → Listed
level_of l = level l.state (passes l.sets)

-- no run has it
abbrev pub blank : Level
blank = record { state = 0; sets = none }
