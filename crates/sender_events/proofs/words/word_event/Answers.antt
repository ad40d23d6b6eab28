-- Each way through the function is a choice among the rows.
use Rattle.sender_events.proofs.WordRows.{lockout_set, not_a_number, all_there, asked_again, some_there}
use Rattle.sender_events.proofs.words.word_event.Goals as goal

pub returns-then-word : goal.returns-then-word
returns-then-word c = search lockout_set

pub returns-then-outstanding-acknowledged : goal.returns-then-outstanding-acknowledged
returns-then-outstanding-acknowledged c = search not_a_number

pub returns-then-acknowledged-outstanding : goal.returns-then-acknowledged-outstanding
returns-then-acknowledged-outstanding c = search all_there

pub returns-then-word-2 : goal.returns-then-word-2
returns-then-word-2 c = search asked_again

pub returns : goal.returns
returns c = search some_there
