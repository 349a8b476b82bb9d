-- Each kind of call shows what the list of the third demand asks of it: one lemma for each.
use Rattle.calls.specs.Moves.{Move, by, go_to, back_to, forward_to, go}
use Rattle.calls.proofs.MoveLaws.{MoveLaws}
use Rattle.calls.proofs.Counts.{count_laws, go_to_laws, go_laws}
use Rattle.calls.proofs.Spots.{back_to_laws, forward_to_laws}

pub laws : (m : Move) → MoveLaws m
laws (by way c) = count_laws way c
laws (go_to q) = go_to_laws q
laws (back_to v) = back_to_laws v
laws (forward_to v c) = forward_to_laws v c
laws (go q c) = go_laws q c
