use Rattle.bankcases.specs.Played.Played.{shaped, sized, turned, waiting, put, taken}
use Rattle.bankcases.proofs.call.Call.play.Goals as goal

pub returns-in-Shape : goal.returns-in-Shape
returns-in-Shape g c = rw c.in-Shape.is (shaped c.shape.ensures)

pub returns-in-Size : goal.returns-in-Size
returns-in-Size g c = rw c.in-Size.is (sized c.size.ensures)

pub returns-in-Turns : goal.returns-in-Turns
returns-in-Turns g c = rw c.in-Turns.is (turned c.turns.ensures)

pub returns-in-Waits : goal.returns-in-Waits
returns-in-Waits g c = rw c.in-Waits.is (waiting c.waits.ensures)

pub returns-in-Put : goal.returns-in-Put
returns-in-Put g c = rw c.in-Put.is (put c.put.ensures.policy)

pub returns-in-Take : goal.returns-in-Take
returns-in-Take g c = rw c.in-Take.is (taken c.take.ensures.policy)
