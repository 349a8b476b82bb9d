-- `list_end`: the length of the list, by its case.
use Rattle.yildreuz.proofs.parts.list_end.Goals as goal

pub returns-in-Log : goal.returns-in-Log
returns-in-Log c = rw c.in-Log.is

pub returns-in-Tape : goal.returns-in-Tape
returns-in-Tape c = rw c.in-Tape.is
