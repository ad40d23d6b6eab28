-- The answer, field by field: the next sender and the kind of the frame are what their functions give.
use Rattle.sender.specs.Answers.{answered}
use Rattle.sender.proofs.answers.answered.Goals as goal

pub returns : goal.returns
unfolding answered
returns c = rw (c.kind_handed.ensures, c.sender_of.ensures)
