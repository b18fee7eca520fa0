-- `put_refusal` meets its contract: the bytes that it puts are the line. Assumes nothing.
use Rattle.printing.proofs.put_refusal.Goals as goal

pub returns : goal.returns
returns c = rw c.put.ensures at c.put-2.ensures
