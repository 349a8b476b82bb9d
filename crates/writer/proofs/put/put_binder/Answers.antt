-- `put_binder` puts a lambda, the name and a dot.
use Rattle.writer.proofs.Putting.{put_then}
use Rattle.writer.proofs.put.put_binder.Goals as goal

pub returns : goal.returns
returns c =
    let after_name = c in
    let after_byte = after_name in
    put_then after_byte.put_byte-name.ensures (put_then after_name.put_name-dot.ensures c.put_byte.ensures)
