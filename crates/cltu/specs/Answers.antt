-- Document 01's number and values for each case of the answer.
use Rattle.std.specs.Prelude.{Result, Ok, Err}
use Rattle.base.specs.Outcome.{Answer, Answer.done, Answer.refused}
use Rattle.base.specs.Refusals.{refusal_number, refusal_place}
use Rattle.base.specs.declared.Refusal.{Refusal}
use Rattle.cltu.specs.Cltu.{Found}
use Rattle.cltu.specs.declared.reader.CltuReading.{CltuReading}

-- what reading answers: the count of octets with the place and the corrections; 1, 2 and 3 with their places; 10 or 11
abbrev pub read_answer : Result CltuReading Refusal → Answer Found
read_answer (Ok reading) = done reading.count (record { place = reading.place; corrected = reading.corrected })
read_answer (Err refusal) = refused (refusal_number refusal) (refusal_place refusal)
