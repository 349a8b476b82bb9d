use Rattle.yildreuz.proofs.numbers.session_numbers.Goals as goal

pub returns : goal.returns
returns c = rw c.dir_number.ensures
