-- The answer, field by field: the event and the responses are what their functions give.
use Rattle.sender.specs.Answers.{refusing}
use Rattle.sender.proofs.answers.refused.Goals as goal

pub returns : goal.returns
unfolding refusing
returns c = rw (c.number.ensures, c.refused_event.ensures, c.refused_responses.ensures)
